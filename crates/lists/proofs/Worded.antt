-- The words of a side as fields, and back.
use Rattle.std.proofs.Common.{◌≡◌, ℕ, ◌+◌, ◌*◌, ◌/◌, ◌%◌, ◌<◌, ◌≤◌, ◌&&◌, leb, List, [], ◌∷◌, length, Some, None, Option, sym, refl, ap, ◌∙◌, arith}
use Rattle.std.specs.List.{AllByRecursion}
use Rattle.std.proofs.lemmas.Bool.{and_parts, leb-true, le-leb}
use Rattle.lists.specs.Lines.{and_then, word_at, words_of}
use Rattle.lists.specs.Spelling.{word_fields}
use Rattle.std.proofs.lemmas.Option.{same_Some, none-some, cond_some}

word_parts : (l p w : ℕ) → word_at l p ≡ Some w → (w / 16777216 ≡ l) × (w % 16777216 ≡ p)
word_parts l p w e =
    let t = cond_some (leb l 255 && leb p 16777215) (l * 16777216 + p) w e in
    let small : p ≤ 16777215 = leb-true p 16777215 (and_parts (leb l 255) (leb p 16777215) t.0).1 in
    let is = t.1 in
    (omega arith, omega arith)

word_again : (w : ℕ) → w < 4294967296 → word_at (w / 16777216) (w % 16777216) ≡ Some w
word_again w l =
    let label : w / 16777216 ≤ 255 = omega arith in
    let payload : w % 16777216 ≤ 16777215 = omega arith in
    let back : (w / 16777216) * 16777216 + w % 16777216 ≡ w = omega arith in
    rw (le-leb _ 255 label, le-leb _ 16777215 payload) (ap (λ (x : ℕ). Some x) back)

-- both answers are there
both_some : (a : Option ℕ) (b : Option (List ℕ)) (ws : List ℕ) → and_then a (λ w. and_then b (λ vs. Some (w ∷ vs))) ≡ Some ws → (w : ℕ) × (vs : List ℕ) × (a ≡ Some w) × (b ≡ Some vs) × (ws ≡ w ∷ vs)
both_some None b ws e = absurd (none-some _ e)
both_some (Some w) None ws e = absurd (none-some _ e)
both_some (Some w) (Some vs) ws e = (w, vs, refl, refl, sym (same_Some _ _ e))

pub fields_of_words : (ns ws : List ℕ) → words_of ns ≡ Some ws → (ns ≡ word_fields ws) × (length ns ≡ 2 * length ws)
unfolding words_of
fields_of_words [] ws e = let z = sym (same_Some _ _ e) in (ap word_fields (sym z), omega (arith, ap length z))
fields_of_words (l ∷ []) ws e = absurd (none-some _ e)
fields_of_words (l ∷ p ∷ ns) ws e =
    let b = both_some (word_at l p) (words_of ns) ws e in
    let here = word_parts l p b.0 b.2 in
    let rest = fields_of_words ns b.1 b.3 in (
      (λ i. sym here.0 i ∷ (sym here.1 i ∷ rest.0 i)) ∙ ap word_fields (sym b.4),
      omega (arith, rest.1, ap length b.4),
    )

pub words_of_fields : (ws : List ℕ) → AllByRecursion (λ w. w < 4294967296) ws → words_of (word_fields ws) ≡ Some ws
unfolding words_of
words_of_fields [] p = refl
words_of_fields (w ∷ ws) p =
    (λ i. and_then (word_again w p.0 i) (λ v. and_then (words_of_fields ws p.1 i) (λ vs. Some (v ∷ vs))))

pub fields_length : (ws : List ℕ) → length (word_fields ws) ≡ 2 * length ws
fields_length [] = refl
fields_length (w ∷ ws) = let rest = fields_length ws in omega arith
