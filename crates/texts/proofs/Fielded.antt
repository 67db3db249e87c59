-- The number fields of a line: they read as numbers exactly when they spell them.
use Rattle.std.proofs.Common.{◌≡◌, ℕ, List, [], ◌∷◌, ◌++◌, Some, None, Option, sym, refl, ap, ◌∙◌, arith}
use Rattle.std.proofs.ByRecursion.{All-weaker, All-append}
use Rattle.texts.specs.Texts.{number, numbers, pieces}
use Rattle.texts.specs.Spelling.{Digits, FieldsSpelled}
use Rattle.std.proofs.lemmas.Option.{same_Some, none-some}
use Rattle.texts.proofs.Digited.{Digit, number_read, number_spelled}
use Rattle.texts.proofs.Parted.{Without, piece_only, piece_then, Cut, cut_of}

-- digits are neither commas nor line ends
no_comma : (n : ℕ) (field : List ℕ) → Digits n field → Without 44 field
no_comma n field d = All-weaker Digit (λ b. b ≡ 44 → ⊥) (λ b is e. omega arith) field d.digits

digits_unended : (n : ℕ) (field : List ℕ) → Digits n field → Without 10 field
digits_unended n field d = All-weaker Digit (λ b. b ≡ 10 → ⊥) (λ b is e. omega arith) field d.digits

pub fields_unended : (ns bs : List ℕ) → FieldsSpelled ns bs → Without 10 bs
fields_unended [] bs s = absurd s
fields_unended (n ∷ []) bs s = digits_unended n bs s
fields_unended (n ∷ m ∷ ns) bs s =
    rw s.3 (All-append (λ b. b ≡ 10 → ⊥) s.0 (44 ∷ s.1) (digits_unended n s.0 s.2) ((λ e. omega arith), fields_unended (m ∷ ns) s.1 s.4))

numbers_end : numbers [] ≡ Some []
unfolding numbers
numbers_end = refl

numbers_more : (f : List ℕ) (fs : List (List ℕ)) (n : ℕ) (ns : List ℕ) → number f ≡ Some n → numbers fs ≡ Some ns → numbers (f ∷ fs) ≡ Some (n ∷ ns)
unfolding numbers
numbers_more f fs n ns e es = rw (e, numbers) (rw es)

-- the first of fields that are all numbers
first_number : (f : List ℕ) (fs : List (List ℕ)) (ms : List ℕ) → numbers (f ∷ fs) ≡ Some ms → (n : ℕ) × (ns : List ℕ) × (number f ≡ Some n) × (numbers fs ≡ Some ns) × (ms ≡ n ∷ ns)
unfolding numbers
first_number f fs ms e = by (number f) (numbers fs) refl refl e
  where
    by : (o : Option ℕ) (os : Option (List ℕ)) → number f ≡ o → numbers fs ≡ os → elim o [ None ↦ None | Some n ↦ elim os [ None ↦ None | Some ns ↦ Some (n ∷ ns) ] ] ≡ Some ms → (n : ℕ) × (ns : List ℕ) × (number f ≡ Some n) × (numbers fs ≡ Some ns) × (ms ≡ n ∷ ns)
    by None os e es is = absurd (none-some _ is)
    by (Some n) None e es is = absurd (none-some _ is)
    by (Some n) (Some ns) e es is = (n, ns, e, es, sym (same_Some _ _ is))

-- fields that spell numbers read as them
pub fields_read : (ns bs : List ℕ) → FieldsSpelled ns bs → numbers (pieces 44 bs) ≡ Some ns
fields_read [] bs s = absurd s
fields_read (n ∷ []) bs s = ap numbers (piece_only 44 bs (no_comma n bs s)) ∙ numbers_more bs [] n [] (number_read n bs s) numbers_end
fields_read (n ∷ m ∷ ns) bs s =
    ap (λ l. numbers (pieces 44 l)) s.3 ∙ ap numbers (piece_then 44 s.0 s.1 (no_comma n s.0 s.2)) ∙ numbers_more s.0 (pieces 44 s.1) n (m ∷ ns) (number_read n s.0 s.2) (fields_read (m ∷ ns) s.1 s.4)

one_more : (n : ℕ) (ns field rest bs : List ℕ) → Digits n field → bs ≡ field ++ 44 ∷ rest → FieldsSpelled ns rest → FieldsSpelled (n ∷ ns) bs
one_more n [] field rest bs d e s = absurd s
one_more n (m ∷ ns) field rest bs d e s = (field, rest, d, e, s)

spelled_by : (ps : List (List ℕ)) (bs ns : List ℕ) → pieces 44 bs ≡ ps → numbers ps ≡ Some ns → FieldsSpelled ns bs
spelled_by [] bs ns are e = absurd (rw are at (cut_of 44 bs))
spelled_by (p ∷ []) bs ns are e =
    let cut : bs ≡ p = rw are at (cut_of 44 bs) in
    let first = first_number p [] ns e in
    let none : first.1 ≡ [] = same_Some _ _ (sym first.3 ∙ numbers_end) in
    rw (first.4, none, cut) (number_spelled first.0 p first.2)
spelled_by (p ∷ q ∷ qs) bs ns are e =
    let cut : Cut 44 bs (p ∷ q ∷ qs) = rw are at (cut_of 44 bs) in
    let first = first_number p (q ∷ qs) ns e in
    let rest = spelled_by (q ∷ qs) cut.0 first.1 cut.2 first.3 in
    rw first.4 (one_more first.0 first.1 p cut.0 bs (number_spelled first.0 p first.2) cut.1 rest)

-- fields that read as numbers spell them
pub fields_spelled : (ns bs : List ℕ) → numbers (pieces 44 bs) ≡ Some ns → FieldsSpelled ns bs
fields_spelled ns bs e = spelled_by (pieces 44 bs) bs ns refl e
