-- The words of a rule's line, two fields at a time.
use Rattle.std.proofs.Common.{◌≡◌, ℕ, ◌+◌, ◌*◌, ◌≤◌, true, ◌&&◌, eqb, List, [], ◌∷◌, ◌++◌, length, get_or, take, drop, Some, None, Option, sym, refl, ap, ◌∙◌, arith}
use Rattle.std.proofs.lemmas.List.{append_assoc, append-nil}
use Rattle.std.proofs.lemmas.Bool.{and_from, eq-eqb, le-leb}
use Rattle.lists.specs.Lines.{and_then, within, word_at, words_of, sides_from, rule_of}
use Rattle.texts.proofs.Numbering.{resumed}

pub bad_word : (read ns : List ℕ) → 2 ≤ length ns → word_at (get_or ns 0 0) (get_or ns 1 0) ≡ None → resumed read (words_of ns) ≡ None
unfolding resumed words_of
bad_word read [] l e = absurd (omega arith)
bad_word read (a ∷ []) l e = absurd (omega arith)
bad_word read (a ∷ b ∷ ns) l e = ap (λ o. resumed read (and_then o (λ w. and_then (words_of ns) (λ ws. Some (w ∷ ws))))) e

pub next_word : (read ns : List ℕ) (w : ℕ) → 2 ≤ length ns → word_at (get_or ns 0 0) (get_or ns 1 0) ≡ Some w → resumed read (words_of ns) ≡ resumed (read ++ w ∷ []) (words_of (drop 2 ns))
unfolding resumed words_of
next_word read [] w l e = absurd (omega arith)
next_word read (a ∷ []) w l e = absurd (omega arith)
next_word read (a ∷ b ∷ ns) w l e = ap (λ o. resumed read (and_then o (λ w. and_then (words_of ns) (λ ws. Some (w ∷ ws))))) e ∙ by (words_of ns)
  where
    by : (o : Option (List ℕ)) → resumed read (and_then o (λ ws. Some (w ∷ ws))) ≡ resumed (read ++ w ∷ []) o
    by None = refl
    by (Some ws) = ap (λ (l : List ℕ). Some l) (sym (append_assoc read (w ∷ []) ws))

pub words_end : (read ns : List ℕ) → length ns ≡ 0 → resumed read (words_of ns) ≡ Some read
unfolding resumed words_of
words_end read [] l = ap (λ (l : List ℕ). Some l) (append-nil read)
words_end read (a ∷ ns) l = absurd (omega arith)

pub word_half : (read ns : List ℕ) → length ns ≡ 1 → resumed read (words_of ns) ≡ None
unfolding resumed words_of
word_half read [] l = absurd (omega arith)
word_half read (a ∷ []) l = refl
word_half read (a ∷ b ∷ ns) l = absurd (omega arith)

-- a rule's line whose numbers are in their ranges
pub rule_is : (k : ℕ) (ns : List ℕ) → 3 ≤ length ns → get_or ns 0 0 ≡ k → 1 ≤ get_or ns 1 0 → get_or ns 1 0 ≤ 9 → 1 ≤ get_or ns 2 0 → get_or ns 2 0 ≤ 64 → length (drop 3 ns) ≡ 2 * (get_or ns 1 0 + get_or ns 2 0) → rule_of k ns ≡ sides_from (words_of (take (2 * get_or ns 1 0) (drop 3 ns))) (words_of (drop (2 * get_or ns 1 0) (drop 3 ns)))
rule_is k [] l n a1 a9 b1 b64 f = absurd (omega arith)
rule_is k (x ∷ []) l n a1 a9 b1 b64 f = absurd (omega arith)
rule_is k (x ∷ a ∷ []) l n a1 a9 b1 b64 f = absurd (omega arith)
rule_is k (x ∷ a ∷ b ∷ ns) l n a1 a9 b1 b64 f =
    let tests : (eqb x k && within 1 9 a && within 1 64 b && eqb (length ns) (2 * (a + b))) ≡ true =
    and_from _ _ (and_from _ _ (and_from _ _ (eq-eqb x k n) (and_from _ _ (le-leb 1 a a1) (le-leb a 9 a9))) (and_from _ _ (le-leb 1 b b1) (le-leb b 64 b64))) (eq-eqb _ _ f) in
    rw tests
