-- The words of a line, by its first space.
use Rattle.std.proofs.Common.{◌≡◌, ℕ, ◌<◌, Bool, true, false, List, [], ◌∷◌, ◌++◌, length, get_or, drop, Some, None, sym, refl, ap, ◌∙◌, arith, lit<}
use lib.Utf8.{encode}
use Rattle.std.specs.Str.Pattern.{FindsCharPrefix, CutsPrefixes, IsFullyTrimmed}
use Rattle.std.proofs.lemmas.Str.Pattern.{drop_at_char}
use Rattle.std.proofs.ByRecursion.{All-from_get_or}
use Rattle.texts.specs.Texts.{pieces}
use Rattle.texts.proofs.Cutting.{one_piece}
use Rattle.texts.proofs.Parted.{piece_then}
use Rattle.replay.specs.Commands.{filled_of, words_of}

-- no space stands in it
abbrev pub Unspaced : List ℕ → Type 0
Unspaced bs = (i : ℕ) → i < length bs → get_or bs i 0 ≡ 32 → ⊥

-- it does not begin with a space
abbrev pub Begun : List ℕ → Type 0
Begun bs = (rest : List ℕ) → bs ≡ 32 ∷ rest → ⊥

space_gone : (bs : List ℕ) → words_of (32 ∷ bs) ≡ words_of bs
unfolding words_of filled_of pieces
space_gone bs = refl

pub peeled_words : (s ns r : List ℕ) → CutsPrefixes (λ b o. FindsCharPrefix 32 b o) s ns r → words_of s ≡ words_of r
peeled_words s [] r e = ap words_of (sym e)
peeled_words s (n ∷ ns) r (m, p, at, e) =
    peeled_words s ns m p ∙ (ap words_of (drop_at_char 32 m 0 n at (lit< tt)) ∙ (space_gone (drop n m) ∙ ap words_of (sym e)))

pub begun : (r : List ℕ) → IsFullyTrimmed (λ b o. FindsCharPrefix 32 b o) r → Begun r
unfolding encode
begun r (None, bare, z) rest e = bare rest e
begun r (Some n, at, z) rest e = absurd (omega (arith, at.ends, z))

first_piece : (xs ys : List ℕ) → Unspaced xs → pieces 32 (xs ++ (32 ∷ ys)) ≡ xs ∷ pieces 32 ys
first_piece xs ys ne = piece_then 32 xs ys (All-from_get_or (λ b. b ≡ 32 → ⊥) xs 0 ne)

-- a line that does not begin with a space, by its first space
pub words_cut : (line xs ys : List ℕ) → line ≡ xs ++ (32 ∷ ys) → Unspaced xs → Begun line → words_of line ≡ xs ∷ words_of ys
unfolding words_of filled_of
words_cut line [] ys e ne first = absurd (first ys e)
words_cut line (x ∷ xs) ys e ne first = ap words_of e ∙ ap filled_of (first_piece (x ∷ xs) ys ne)

pub words_one : (line : List ℕ) → Unspaced line → 0 < length line → words_of line ≡ line ∷ words_of []
unfolding words_of filled_of pieces
words_one [] ne l = absurd (omega arith)
words_one (b ∷ bs) ne l = ap filled_of (one_piece 32 (b ∷ bs) ne)

pub words_none : (line : List ℕ) → length line ≡ 0 → words_of line ≡ []
unfolding words_of filled_of pieces
words_none [] e = refl
words_none (b ∷ bs) e = absurd (omega (arith, e))

abbrev IsFalse : Bool → Type 0
IsFalse false = Unit {0}
IsFalse true = ⊥
