-- The text of a term that is shown, word by word.
use Rattle.std.proofs.Common.{◌≡◌, ℕ, ◌+◌, ◌/◌, ◌%◌, ◌<◌, List, [], ◌∷◌, ◌++◌, length, get_or, take, codes, sym, ap, ◌∙◌, append_assoc, append-nil, arith}
use Rattle.std.specs.declared.fmt.Formatter.{Formatter}
use Rattle.std.specs.Fmt.{IsPlainFormatter, HasWritten}
use Rattle.std.proofs.Output.{writes_in_calls_nil}
use Rattle.std.proofs.lemmas.List.{take_more}
use Rattle.terms.specs.Spelled as terms
use Rattle.replay.specs.Panel.{word_text, behind_text, term_text}

-- the text of a word, by its parts
pub word_is : (w l p : ℕ) → l ≡ w / 16777216 → p ≡ w % 16777216 → terms.word_text l p ≡ word_text w
word_is w l p label payload = ap (λ n. terms.word_text n p) label ∙ ap (terms.word_text (w / 16777216)) payload

behind_more : (ws : List ℕ) (w : ℕ) → behind_text (ws ++ w ∷ []) ≡ behind_text ws ++ (codes " " ++ word_text w)
unfolding behind_text
behind_more [] w = ap (λ (l : List ℕ). codes " " ++ l) (append-nil (word_text w))
behind_more (v ∷ ws) w =
    ap (λ (l : List ℕ). codes " " ++ (word_text v ++ l)) (behind_more ws w) ∙ ap (λ (l : List ℕ). codes " " ++ l) (sym (append_assoc (word_text v) (behind_text ws) (codes " " ++ word_text w)))

-- the words before an index, and the word at it
pub behind_next : (ws : List ℕ) (i : ℕ) → i < length ws → behind_text (take i ws) ++ (codes " " ++ word_text (get_or ws i 0)) ≡ behind_text (take (i + 1) ws)
behind_next ws i l = sym (ap behind_text (take_more ws i 0 l) ∙ behind_more (take i ws) (get_or ws i 0))

pub term_is : (ws : List ℕ) (first : ℕ) (behind : List ℕ) → ws ≡ first ∷ behind → word_text first ++ behind_text behind ≡ term_text ws
unfolding term_text
term_is ws first behind e = sym (ap term_text e)

-- nothing is written of no words
module _ {W : Type 0} (took : W → List ℕ → W → Type 0) (f : Formatter W) (plain : IsPlainFormatter f) where
  pub none_behind : HasWritten took f (behind_text []) f
  unfolding behind_text
  none_behind = record { wrote = writes_in_calls_nil took f.writer; plain = plain }

  pub none_at_all : (ws : List ℕ) → length ws ≡ 0 → HasWritten took f (term_text ws) f
  unfolding term_text
  none_at_all [] e = record { wrote = writes_in_calls_nil took f.writer; plain = plain }
  none_at_all (w ∷ ws) e = absurd (omega arith)
