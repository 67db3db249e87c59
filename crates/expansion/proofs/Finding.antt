-- What the matching of a filled-in right side finds: for each variable on the right its tree.
use Rattle.std.proofs.Common.{◌≡◌, ℕ, Bool, true, false, cond, ◌||◌, eqb, List, [], ◌∷◌, ◌++◌, Some, None, Option, refl, ap, ◌∙◌}
use Rattle.std.proofs.lemmas.Bool.{eqb-true, eq-eqb, or_left, or_right}
use Rattle.terms.specs.Trees.{Tree, Trees, atom, variable, body, head, form, none, more}
use Rattle.languages.proofs.Asked.{apart}
use Rattle.expansion.specs.Rules.{Rule, stands, stands_any}
use Rattle.expansion.specs.Matches.{value_of}
use Rattle.expansion.specs.Expansion.{instance, instances}
use Rattle.expansion.specs.Unexpansion.{Bound, single, both, lookup, if_number, unexpanded, root_label, root_children, found, found_form, found_all}
use Rattle.expansion.specs.Laws.{Right, RightAll}

-- the tree that is looked up for variable n is this, if it is there
abbrev Looked : ℕ → Tree → List Bound → Bool → Type 0
Looked n t bs b = lookup n bs ≡ cond b (Some t) None

-- of two lists of bindings the first that has the variable counts
looked_one : (n : ℕ) (t : Tree) (c : Bound) (bs cs : List Bound) (b d : Bool) → (Looked n t bs b → Looked n t (bs ++ cs) (b || d)) → (e : Bool) → cond e (Some c.value) (lookup n bs) ≡ cond b (Some t) None → cond e (Some c.value) (lookup n (bs ++ cs)) ≡ cond (b || d) (Some t) None
looked_one n t c bs cs true d rest true h = h
looked_one n t c bs cs false d rest true h = apart (cc)
looked_one n t c bs cs b d rest false h = rest h

looked_append : (n : ℕ) (t : Tree) (bs cs : List Bound) (b d : Bool) → Looked n t bs b → Looked n t cs d → Looked n t (bs ++ cs) (b || d)
unfolding lookup
looked_append n t [] cs true d h g = apart (cc)
looked_append n t [] cs false d h g = g
looked_append n t (c ∷ bs) cs b d h g = looked_one n t c bs cs b d (λ f. looked_append n t bs cs b d f g) (eqb c.index n) h

module _ (k : ℕ) (rules : List Rule) (arguments ts es : Trees) where
  -- the variables of a right side with their trees, in preorder
  unfoldable mutual
    bindings_of : Tree → List Bound
    bindings_of (atom v) = []
    bindings_of (variable n) = record { index = n; value = value_of n arguments ts } ∷ []
    bindings_of (body j u) = []
    bindings_of (head j r ds u) = []
    bindings_of (form l us) = bindings us

    bindings : Trees → List Bound
    bindings none = []
    bindings (more u us) = bindings_of u ++ bindings us

  -- a variable with its tree, looked up
  single_looked : (n m : ℕ) (b : Bool) → eqb m n ≡ b → cond b (Some (value_of m arguments ts)) None ≡ cond b (Some (value_of n arguments ts)) None
  single_looked n m true e = ap (λ i. Some (value_of i arguments ts)) (eqb-true m n e)
  single_looked n m false e = refl

  -- a variable that stands on the right is looked up as its tree
  mutual
    unfolding bindings lookup stands Right

    looked_of : (u : Tree) → Right k u → (n : ℕ) → Looked n (value_of n arguments ts) (bindings_of u) (stands n u)
    looked_of (atom v) h n = refl
    looked_of (variable m) h n = single_looked n m (eqb m n) refl
    looked_of (body j u) h n = absurd h
    looked_of (head j r ds u) h n = absurd h
    looked_of (form l us) h n = looked us h.3 n

    looked : (us : Trees) → RightAll k us → (n : ℕ) → Looked n (value_of n arguments ts) (bindings us) (stands_any n us)
    looked none h n = refl
    looked (more u us) h n =
        looked_append n (value_of n arguments ts) (bindings_of u) (bindings us) (stands n u) (stands_any n us) (looked_of u h.0 n) (looked us h.1 n)

  -- the tree in the place of the variable unexpands to the variable's tree
  abbrev pub Returns : ℕ → Type 0
  Returns n = unexpanded k rules (value_of n arguments es) ≡ Some (value_of n arguments ts)

  -- in a form's body mark the matching goes on with the children
  found-form : (l : ℕ) (vs us : Trees) → found k rules (body k (form l vs)) l us ≡ found_all k rules vs us
  unfolding found
  found-form l vs us = in_mark ∙ in_form_lem
    where
      in_mark : found k rules (body k (form l vs)) l us ≡ found_form k rules (form l vs) l us
      in_mark = rw (eq-eqb k k refl, found) refl

      in_form_lem : found_form k rules (form l vs) l us ≡ found_all k rules vs us
      in_form_lem = rw (eq-eqb l l refl, found_form) refl

  -- a child matched with its part of the right side
  abbrev found_one : Tree → Tree → Option (List Bound)
  found_one t (atom v) = if_number v t
  found_one t (variable n) = single n (unexpanded k rules t)
  found_one t (body j u) = None
  found_one t (head j r ds u) = None
  found_one t (form l us) = found k rules t l us

  -- the first child is matched, then the others
  found_more : (t : Tree) (vs : Trees) (u : Tree) (us : Trees) → found_all k rules (more t vs) (more u us) ≡ both (found_one t u) (found_all k rules vs us)
  unfolding found_all
  found_more t vs (atom v) us = refl
  found_more t vs (variable n) us = refl
  found_more t vs (body j u) us = refl
  found_more t vs (head j r ds u) us = refl
  found_more t vs (form l ws) us = refl

  -- the matching of the filled-in right side finds the variables with their trees
  mutual
    unfolding bindings found_all instances stands Right

    found_one_lem : (u : Tree) → Right k u → ((n : ℕ) → stands n u ≡ true → Returns n) → found_one (instance k arguments es u) u ≡ Some (bindings_of u)
    found_one_lem (atom v) h back = ap (λ b. cond b (Some []) None) (eq-eqb v v refl)
    found_one_lem (variable m) h back = ap (single m) (back m (eq-eqb m m refl))
    found_one_lem (body j u) h back = absurd h
    found_one_lem (head j r ds u) h back = absurd h
    found_one_lem (form l us) h back = found-form l (instances k arguments es us) us ∙ found_all_lem us h.3 back

    found_all_lem : (us : Trees) → RightAll k us → ((n : ℕ) → stands_any n us ≡ true → Returns n) → found_all k rules (instances k arguments es us) us ≡ Some (bindings us)
    found_all_lem none h back = refl
    found_all_lem (more u us) h back =
        let vs = instances k arguments es us in
        found_more (instance k arguments es u) vs u us
        ∙ ap (λ o. both o (found_all k rules vs us)) (found_one_lem u h.0 (λ n s. back n (or_left (stands n u) (stands_any n us) s)))
        ∙ ap (both (Some (bindings_of u))) (found_all_lem us h.1 (λ n s. back n (or_right (stands n u) (stands_any n us) s)))

  -- so does that of a whole right side, and each variable that stands in it is looked up as its tree
  pub found_root : (right : Tree) → (l : ℕ) × (us : Trees) × (right ≡ form l us) → Right k right → ((n : ℕ) → stands n right ≡ true → Returns n) → (bs : List Bound) × (found k rules (instance k arguments es right) (root_label right) (root_children right) ≡ Some bs) × ((n : ℕ) → stands n right ≡ true → lookup n bs ≡ Some (value_of n arguments ts))
  unfolding instance stands Right
  found_root (atom v) root h back = let z = root.2 in apart (cc)
  found_root (variable n) root h back = let z = root.2 in apart (cc)
  found_root (body j u) root h back = absurd h
  found_root (head j r ds u) root h back = absurd h
  found_root (form l us) root h back =
      (bindings us, found-form l (instances k arguments es us) us ∙ found_all_lem us h.3 back, λ n s. looked us h.3 n ∙ ap (λ b. cond b (Some (value_of n arguments ts)) None) s)
