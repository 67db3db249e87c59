-- What the matching of a right side binds: trees that offend nowhere, and with which the right side fills in to what was matched.
use Rattle.std.proofs.Common.{◌≡◌, ℕ, Bool, true, false, cond, eqb, List, [], ◌∷◌, ◌++◌, Some, None, Option, sym, refl, ap, ◌∙◌}
use Rattle.std.proofs.lemmas.Bool.{eqb-true, eq-eqb, or_left, or_right, or_parts}
use Rattle.terms.specs.Trees.{Tree, Trees, atom, variable, body, head, form, none, more, WellFormed}
use Rattle.languages.proofs.Asked.{apart}
use Rattle.expansion.specs.Rules.{Rule, stands, stands_any}
use Rattle.expansion.specs.Matches.{is_number, value_of}
use Rattle.expansion.specs.Expansion.{instance, instances, expanded}
use Rattle.expansion.specs.Unexpansion.{Bound, single, both, lookup, if_number}
use Rattle.expansion.specs.Offences.{offence}
use Rattle.expansion.specs.Laws.{ExpandsTo}

-- the first tree if there is one, else the second
abbrev first_of : Option Tree → Option Tree → Option Tree
first_of None p = p
first_of (Some t) p = Some t

-- of two lists of bounds, the first goes first
lookup_both : (n : ℕ) (bs cs : List Bound) → lookup n (bs ++ cs) ≡ first_of (lookup n bs) (lookup n cs)
unfolding lookup
lookup_both n [] cs = refl
lookup_both n (b ∷ bs) cs = by_test (eqb b.index n) (lookup_both n bs cs)
  where
    by_test : (x : Bool) → lookup n (bs ++ cs) ≡ first_of (lookup n bs) (lookup n cs) → cond x (Some b.value) (lookup n (bs ++ cs)) ≡ first_of (cond x (Some b.value) (lookup n bs)) (lookup n cs)
    by_test true h = refl
    by_test false h = h

-- a bound of the first list is one of both
lookup_left : (n : ℕ) (bs cs : List Bound) (v : Tree) → lookup n bs ≡ Some v → lookup n (bs ++ cs) ≡ Some v
lookup_left n bs cs v e = lookup_both n bs cs ∙ ap (λ o. first_of o (lookup n cs)) e

-- a variable that the first list has not is looked for in the second
lookup_right : (n : ℕ) (bs cs : List Bound) → lookup n bs ≡ None → lookup n (bs ++ cs) ≡ lookup n cs
lookup_right n bs cs e = lookup_both n bs cs ∙ ap (λ o. first_of o (lookup n cs)) e

-- what is given by two matchings is given by each
pub both_some : (p q : Option (List Bound)) (bs : List Bound) → both p q ≡ Some bs → (xs : List Bound) × (ys : List Bound) × (p ≡ Some xs) × (q ≡ Some ys) × (xs ++ ys ≡ bs)
both_some None q bs e = apart (cc)
both_some (Some xs) None bs e = apart (cc)
both_some (Some xs) (Some ys) bs e = (xs, ys, refl, refl, cc)

-- a number, and no mark around it
is_number_lem : (v : ℕ) (t : Tree) → is_number v t ≡ true → atom v ≡ t
is_number_lem v (atom w) e = ap atom (eqb-true v w e)
is_number_lem v (variable n) e = apart (cc)
is_number_lem v (body k t) e = apart (cc)
is_number_lem v (head k r ds t) e = apart (cc)
is_number_lem v (form l ts) e = apart (cc)

module _ (k : ℕ) (rules : List Rule) where
  -- the bounds are of the variables that stand there, and each is well formed and offends nowhere; with values that are their expansions, `filled` gives x
  pub record Binds {X : Type 0} (standing : ℕ → Bool) (filled : Trees → Trees → X) (x : X) (bs : List Bound) : Type 0 where
    pub good : (n : ℕ) (v : Tree) → lookup n bs ≡ Some v → WellFormed v × (offence k rules v ≡ None)
    pub others : (n : ℕ) → standing n ≡ false → lookup n bs ≡ None
    pub fills : (arguments values : Trees) → ((n : ℕ) (v : Tree) → standing n ≡ true → lookup n bs ≡ Some v → value_of n arguments values ≡ expanded k rules v) → filled arguments values ≡ x

  -- of one tree of a right side
  abbrev pub BindsOne : (Tree → Tree → List Bound → Type 0)
  BindsOne u c bs = Binds (λ n. stands n u) (λ arguments values. instance k arguments values u) c bs

  -- of a list of such trees
  abbrev pub BindsAll : (Trees → Trees → List Bound → Type 0)
  BindsAll us cs bs = Binds (λ n. stands_any n us) (λ arguments values. instances k arguments values us) cs bs

  -- no trees bind nothing
  pub none_binds : BindsAll none none []
  unfolding lookup instance stands_any
  none_binds = record { good = λ n v e. apart (cc); others = λ n e. refl; fills = λ arguments values h. refl }

  -- an atom binds nothing
  pub atom_binds : (v : ℕ) (c : Tree) (bs : List Bound) → if_number v c ≡ Some bs → BindsOne (atom v) c bs
  unfolding lookup instance stands
  atom_binds v c bs e = by_test (is_number v c) refl e
    where
      by_test : (b : Bool) → is_number v c ≡ b → cond b (Some []) None ≡ Some bs → BindsOne (atom v) c bs
      by_test true h same =
          let is : [] ≡ bs = cc in
          rw (← is) (record { good = λ n u f. apart (cc); others = λ n f. refl; fills = λ arguments values f. is_number_lem v c h })
      by_test false h same = apart (cc)

  -- a variable binds what its tree unexpands to
  pub variable_binds : (n : ℕ) (c : Tree) (o : Option Tree) (bs : List Bound) → ((t : Tree) → o ≡ Some t → ExpandsTo k rules t c) → single n o ≡ Some bs → BindsOne (variable n) c bs
  unfolding lookup instance stands
  variable_binds n c None bs h e = apart (cc)
  variable_binds n c (Some t) bs h e =
      let back = h t refl in
      let is : record { index = n; value = t } ∷ [] ≡ bs = cc in
      rw (← is) (record { good = good; others = λ m f. rw f refl; fills = λ arguments values f. f n t (eq-eqb n n refl) (rw (eq-eqb n n refl) refl) ∙ back.2 })
    where
      good : (m : ℕ) (v : Tree) → lookup m (record { index = n; value = t } ∷ []) ≡ Some v → WellFormed v × (offence k rules v ≡ None)
      good m v f = by_test (eqb n m) f
        where
          by_test : (b : Bool) → cond b (Some t) None ≡ Some v → WellFormed v × (offence k rules v ≡ None)
          by_test true same =
              let is : t ≡ v = cc in
              let back = h t refl in
              let formed : WellFormed v = rw is at back.0 in
              let calm : offence k rules v ≡ None = rw is at back.1 in
              (formed, calm)
          by_test false same = apart (cc)

  -- a tree and those behind it, which have other variables
  pub more_binds : (u : Tree) (us : Trees) (c : Tree) (cs : Trees) (bs ds : List Bound) → ((n : ℕ) → stands n u ≡ true → stands_any n us ≡ false) → BindsOne u c bs → BindsAll us cs ds → BindsAll (more u us) (more c cs) (bs ++ ds)
  unfolding instance stands
  more_binds u us c cs bs ds once one rest =
      record {
        good = λ n v e. in_either n v (lookup n bs) refl (sym (lookup_both n bs ds) ∙ e);
        others = λ n e. let p = or_parts (stands n u) (stands_any n us) e in lookup_right n bs ds (one.others n p.0) ∙ rest.others n p.1;
        fills = λ arguments values h.
            let x = one.fills arguments values (λ n v st e. h n v (or_left _ _ st) (lookup_left n bs ds v e)) in
            let y = rest.fills arguments values (λ n v st e. h n v (or_right _ _ st) (lookup_right n bs ds (one.others n (missing n st)) ∙ e)) in
            cc;
      }
    where
      in_either : (n : ℕ) (v : Tree) (o : Option Tree) → lookup n bs ≡ o → first_of o (lookup n ds) ≡ Some v → WellFormed v × (offence k rules v ≡ None)
      in_either n v None e f = rest.good n v f
      in_either n v (Some w) e f = one.good n v (e ∙ f)

      missing : (n : ℕ) → stands_any n us ≡ true → stands n u ≡ false
      missing n h = by_test (stands n u) refl
        where
          by_test : (b : Bool) → stands n u ≡ b → stands n u ≡ false
          by_test false e = e
          by_test true e = let z = once n e in apart (cc)
