-- The number fields of a line one by one.
use Rattle.std.proofs.Common.{◌≡◌, ℕ, ◌+◌, ◌<◌, ◌≤◌, List, [], ◌∷◌, ◌++◌, length, get_or, drop, Some, None, Option, sym, refl, ap, ◌∙◌}
use Rattle.std.proofs.lemmas.List.{at_drop_more, at_drop_all, append_assoc, append-nil}
use Rattle.texts.specs.Texts.{number, numbers}

-- the numbers of all fields, from those read and those of the other fields
unfoldable pub resumed : List ℕ → Option (List ℕ) → Option (List ℕ)
resumed read None = None
resumed read (Some ns) = Some (read ++ ns)

pub resumed_none : (o : Option (List ℕ)) → resumed [] o ≡ o
unfolding resumed
resumed_none None = refl
resumed_none (Some ns) = refl

-- the fields that are left, of which the next is at place i
module _ (read : List ℕ) (fields : List (List ℕ)) (i : ℕ) (f : List ℕ) (at : (i < length fields) × (f ≡ get_or fields i f)) where
  pub bad_field : number f ≡ None → resumed read (numbers (drop i fields)) ≡ None
  unfolding resumed numbers
  bad_field e = at_drop_more (λ l. resumed read (numbers l)) fields i f at.0 ∙ rw (← at.1, e, numbers) refl

  pub next_field : (n : ℕ) → number f ≡ Some n → resumed read (numbers (drop i fields)) ≡ resumed (read ++ n ∷ []) (numbers (drop (i + 1) fields))
  unfolding resumed numbers
  next_field n e = at_drop_more (λ l. resumed read (numbers l)) fields i f at.0 ∙ rw (← at.1, e, numbers) (by (numbers (drop (i + 1) fields)))
    where
      by : (o : Option (List ℕ)) → resumed read (elim o [ None ↦ None | Some ns ↦ Some (n ∷ ns) ]) ≡ resumed (read ++ n ∷ []) o
      by None = refl
      by (Some ns) = ap (λ (l : List ℕ). Some l) (sym (append_assoc read (n ∷ []) ns))

pub fields_end : (read : List ℕ) (fields : List (List ℕ)) (i : ℕ) → length fields ≤ i → resumed read (numbers (drop i fields)) ≡ Some read
unfolding resumed numbers
fields_end read fields i l = at_drop_all (λ l. resumed read (numbers l)) fields i l ∙ ap (λ (l : List ℕ). Some l) (append-nil read)
