-- The left side filled in again: the children of the form that took the rule.
use Rattle.std.proofs.Common.{◌≡◌, ℕ, Bool, true, false, cond, eqb, List, Some, sym, refl, ap, ◌∙◌}
use Rattle.std.proofs.lemmas.Bool.{and_parts, eqb-true, eq-eqb, or_left, or_right}
use Rattle.terms.specs.Trees.{Tree, Trees, atom, variable, body, head, form, none, more}
use Rattle.languages.proofs.Asked.{apart}
use Rattle.expansion.specs.Rules.{stands, stands_any}
use Rattle.expansion.specs.Matches.{is_number, takes_all, dropped, value_of}
use Rattle.expansion.specs.Unexpansion.{Bound, lookup, cons_if, refilled}
use Rattle.expansion.specs.Laws.{Arguments}
use Rattle.expansion.proofs.Taking.{is_number_lem}

module _ (right : Tree) (bs : List Bound) where
  -- each variable of these arguments that stands on the right is looked up as its own tree of these trees
  abbrev pub Found : Trees → Trees → Type 0
  Found arguments ts = (n : ℕ) → stands_any n arguments ≡ true → stands n right ≡ true → lookup n bs ≡ Some (value_of n arguments ts)

  -- a variable that stands on the right is filled in from the matching
  refill_kept : (n : ℕ) (rest ds : Trees) → stands n right ≡ true → refilled right (more (variable n) rest) ds bs ≡ cons_if (lookup n bs) (refilled right rest ds bs)
  unfolding refilled
  refill_kept n rest none h = rw (h, refilled) refl
  refill_kept n rest (more d ds) h = rw (h, refilled) refl

  -- one that is missing there is filled in from what was dropped
  refill_lost : (n : ℕ) (rest : Trees) (d : Tree) (ds : Trees) → stands n right ≡ false → refilled right (more (variable n) rest) (more d ds) bs ≡ cons_if (Some d) (refilled right rest ds bs)
  unfolding refilled
  refill_lost n rest d ds h = rw (h, refilled) refl

  -- a variable that stands further on is not the first argument
  other_value : (m n : ℕ) (rest : Trees) (t : Tree) (ts : Trees) → stands_any m rest ≡ false → stands_any n rest ≡ true → (b : Bool) → eqb m n ≡ b → cond b t (value_of n rest ts) ≡ value_of n rest ts
  other_value m n rest t ts once s true e = let is : m ≡ n = eqb-true m n e in apart (cc)
  other_value m n rest t ts once s false e = refl

  -- a variable in front of arguments that are filled in
  variable-refilled : (n : ℕ) (rest : Trees) (t : Tree) (ts : Trees) → refilled right rest (dropped right rest ts) bs ≡ Some ts → Found (more (variable n) rest) (more t ts) → (b : Bool) → stands n right ≡ b → refilled right (more (variable n) rest) (cond (cond b false true) (more t (dropped right rest ts)) (dropped right rest ts)) bs ≡ Some (more t ts)
  unfolding stands_any value_of
  variable-refilled n rest t ts filled back true h =
      let same = eq-eqb n n refl in
      let at : lookup n bs ≡ Some t = back n (or_left (eqb n n) (stands_any n rest) same) h ∙ ap (λ b. Some (cond b t (value_of n rest ts))) same in
      refill_kept n rest (dropped right rest ts) h ∙ ap (λ o. cons_if o (refilled right rest (dropped right rest ts) bs)) at ∙ ap (cons_if (Some t)) filled
  variable-refilled n rest t ts filled back false h = refill_lost n rest t (dropped right rest ts) h ∙ ap (cons_if (Some t)) filled

  -- from what the rule dropped and what the matching found, the left side has its children again
  pub refills : (arguments ts : Trees) → Arguments arguments → takes_all arguments ts ≡ true → Found arguments ts → refilled right arguments (dropped right arguments ts) bs ≡ Some ts
  unfolding takes_all dropped refilled stands_any value_of Arguments
  refills none none h e back = refl
  refills none (more t ts) h e back = apart (cc)
  refills (more a rest) none h e back = apart (cc)
  refills (more (atom v) rest) (more t ts) h e back =
      let fit = and_parts (is_number v t) (takes_all rest ts) e in
      ap (cons_if (Some (atom v))) (refills rest ts h.1 fit.1 back) ∙ ap (λ u. Some (more u ts)) (sym (is_number_lem v t fit.0))
  refills (more (variable n) rest) (more t ts) h e back =
      variable-refilled n rest t ts (refills rest ts h.2 e (λ m s r. back m (or_right (eqb n m) (stands_any m rest) s) r ∙ ap Some (other_value n m rest t ts h.1 s (eqb n m) refl))) back (stands n right) refl
  refills (more (body k a) rest) (more t ts) h e back = absurd h
  refills (more (head k r ds a) rest) (more t ts) h e back = absurd h
  refills (more (form l us) rest) (more t ts) h e back = absurd h
