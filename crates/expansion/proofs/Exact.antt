-- What unexpansion gives is well formed, offends nowhere, and expands to what was given.
use Rattle.std.proofs.Common.{◌≡◌, ℕ, suc, ◌+◌, ◌*◌, Bool, true, false, cond, eqb, ltb, leb, List, [], length, Some, None, Option, refl, ap, ◌∙◌, arith}
use Rattle.std.proofs.lemmas.Bool.{and_from, and_parts, leb-true, le-leb, lt-leb, ltb-true, eqb-true}
use Rattle.terms.specs.Words.{is_form_label}
use Rattle.terms.specs.Trees.{Tree, Trees, atom, variable, body, head, form, none, more, count, written, written_all, WellMade, WellMadeAll, WellFormed}
use Rattle.lists.specs.Lines.{owned}
use Rattle.languages.proofs.Asked.{apart}
use Rattle.expansion.specs.Rules.{Rule, stands, stands_any}
use Rattle.expansion.specs.Matches.{Numbered, rule_at, losses, matching}
use Rattle.expansion.specs.Expansion.{instance, instances, taken, taken_if, expanded, expanded_all}
use Rattle.expansion.specs.Unexpansion.{Bound, single, both, form_if, body_if, head_if, refilled, untaken, untaken_if, root_label, root_children, if_number, unexpanded, unexpanded_all, found, found_form, found_all}
use Rattle.expansion.specs.Offences.{Offence, offence, offences, offences_kept, later, mark, unmatched}
use Rattle.expansion.specs.Laws.{Right, RightAll, SoundRule, SoundRules, ExpandsTo, UnexpansionIsExact}
use Rattle.expansion.proofs.ExactMatches.{matching_left}
use Rattle.expansion.proofs.ExactBounds.{Binds, BindsOne, BindsAll, both_some, none_binds, atom_binds, variable_binds, more_binds}
use Rattle.expansion.proofs.ExactRefills.{cons_some, refilled_is}

-- a choice by a test that holds
chosen_true : {X : Type 0} (b : Bool) (x y : X) → b ≡ true → ◌≡◌ {A = X} (elim b [ true ↦ x | false ↦ y ]) x
chosen_true true x y e = refl
chosen_true false x y e = apart (cc)

-- a choice by a test that fails
chosen_false : {X : Type 0} (b : Bool) (x y : X) → b ≡ false → ◌≡◌ {A = X} (elim b [ true ↦ x | false ↦ y ]) y
chosen_false true x y e = apart (cc)
chosen_false false x y e = refl

module _ (k : ℕ) (rules : List Rule) where
  -- trees that expand to those given
  abbrev ExpandAllTo : (Trees → Trees → Type 0)
  ExpandAllTo ts cs = WellMadeAll ts false × (count ts ≡ count cs) × (offences k rules ts ≡ None) × (expanded_all k rules ts ≡ cs)

  -- an atom expands to itself
  atom_exact : (v : ℕ) → WellFormed (atom v) → ExpandsTo k rules (atom v) (atom v)
  unfolding offence expanded
  atom_exact v h = (h, refl, refl)

  -- a body mark of a higher layer stays around what it was around
  body_exact : (j : ℕ) (t c : Tree) → ltb k j ≡ true → WellFormed (body j c) → ExpandsTo k rules t c → ExpandsTo k rules (body j t) (body j c)
  unfolding offence expanded WellMade
  body_exact j t c above h e =
      let low : leb j k ≡ false = lt-leb j k (ltb-true k j above) in
      ((h.0, e.0), chosen_false (leb j k) (Some (mark 0)) (later 1 (offence k rules t)) low ∙ ap (later 1) e.1, ap (body j) e.2)

  -- a head mark of a higher layer too
  head_exact : (j r : ℕ) (ds : Trees) (t c : Tree) → ltb k j ≡ true → WellFormed (head j r ds c) → ExpandsTo k rules t c → ExpandsTo k rules (head j r ds t) (head j r ds c)
  unfolding offence expanded WellMade
  head_exact j r ds t c above h e =
      let low : leb j k ≡ false = lt-leb j k (ltb-true k j above) in
      ((h.0, h.1, e.0), chosen_false (leb j k) (Some (mark 0)) (later (1 + length (written_all ds)) (offence k rules t)) low ∙ ap (later (1 + length (written_all ds))) e.1, ap (head j r ds) e.2)

  -- a form that the layer does not own stays
  form_exact : (l : ℕ) (ts cs : Trees) → owned k l ≡ false → WellFormed (form l cs) → ExpandAllTo ts cs → ExpandsTo k rules (form l ts) (form l cs)
  unfolding offence expanded WellMade
  form_exact l ts cs foreign h e =
      ((h.0, rw e.1 h.1, e.0), chosen_false (owned k l) _ (later 1 (offences k rules ts)) foreign ∙ ap (later 1) e.2, chosen_false (owned k l) _ (form l (expanded_all k rules ts)) foreign ∙ ap (form l) e.3)

  -- no trees expand to none
  none_exact : ExpandAllTo none none
  unfolding offences expanded_all WellMadeAll
  none_exact = (tt, refl, refl, refl)

  -- a tree in front of trees
  more_exact : (t : Tree) (ts : Trees) (c : Tree) (cs : Trees) → ExpandsTo k rules t c → ExpandAllTo ts cs → ExpandAllTo (more t ts) (more c cs)
  unfolding offences expanded_all WellMadeAll count
  more_exact t ts c cs e es =
      let one = e.2 in
      let others = es.3 in
      ((e.0, es.0), ap suc es.1, rw e.1 (ap (later (length (written t))) es.2), cc)

  module _ (sound : SoundRules k rules) where
    -- the layer's labels are labels of forms
    own_label : (l : ℕ) → owned k l ≡ true → is_form_label l ≡ true
    own_label l own =
        let p = and_parts (leb (32 + 32 * k) l) (leb l (63 + 32 * k)) own in
        let low = leb-true (32 + 32 * k) l p.0 in
        let high = leb-true l (63 + 32 * k) p.1 in
        let layer = sound.layer in
        and_from (leb 16 l) (leb l 255) (le-leb 16 l (omega arith)) (le-leb l 255 (omega arith))

    -- an owned form that matches a rule offends nowhere if its kept children do not
    owned-offence : (l : ℕ) (ts : Trees) (m : Numbered) → owned k l ≡ true → matching 0 rules l ts ≡ Some m → offences_kept k rules m.rule.right m.rule.arguments ts ≡ None → offence k rules (form l ts) ≡ None
    unfolding offence
    owned-offence l ts m own match calm =
        chosen_true (owned k l) _ (later 1 (offences k rules ts)) own ∙ same (matching 0 rules l ts) match
      where
        same : (o : Option Numbered) → o ≡ Some m → ◌≡◌ {A = Option Offence} (elim o [ None ↦ Some (unmatched 0) | Some x ↦ later 1 (offences_kept k rules x.rule.right x.rule.arguments ts) ]) None
        same None e = apart (cc)
        same (Some x) e = let is : x ≡ m = cc in rw is (ap (later 1) calm)

    -- and it takes that rule
    owned-expanded : (l : ℕ) (ts : Trees) (m : Numbered) → owned k l ≡ true → matching 0 rules l ts ≡ Some m → expanded k rules (form l ts) ≡ taken k ts (expanded_all k rules ts) m
    unfolding expanded
    owned-expanded l ts m own match =
        chosen_true (owned k l) (taken_if k l ts (expanded_all k rules ts) (matching 0 rules l ts)) (form l (expanded_all k rules ts)) own
        ∙ ap (taken_if k l ts (expanded_all k rules ts)) match

    -- the left side of a rule, filled in again, expands to the head mark that it came from
    left_exact : (r : ℕ) (rule : Rule) (ds : Trees) (c : Tree) (bs : List Bound) (ts : Trees) → rule_at r rules ≡ Some rule → SoundRule k rule → BindsOne k rules rule.right c bs → WellMadeAll ds false → refilled rule.right rule.arguments ds bs ≡ Some ts → ExpandsTo k rules (form rule.label ts) (head k r ds c)
    unfolding WellMade
    left_exact r rule ds c bs ts at_r s binds formed e =
        let f = refilled_is k rules rule.right bs binds.good rule.arguments ds ts s.arguments formed e in
        let m : Numbered = record { number = r; rule = rule } in
        let match = matching_left k rules r rule ts sound at_r f.fitting in
        let inside = binds.fills rule.arguments (expanded_all k rules ts) (λ n v st b. f.valued n v (s.from_left n st) st b) in
        let drops = f.drops in
        let same : taken k ts (expanded_all k rules ts) m ≡ head k r ds c = cc in
        ((own_label rule.label s.own, rw f.counted s.few, f.formed), owned-offence rule.label ts m s.own match f.calm, owned-expanded rule.label ts m s.own match ∙ same)

    -- the root of a right side is matched as a form
    root_binds : (right : Tree) (c : Tree) (bs : List Bound) → ((l : ℕ) × (us : Trees) × (right ≡ form l us)) → Right k right → ((l : ℕ) (us : Trees) → RightAll k us → found k rules c l us ≡ Some bs → BindsOne k rules (form l us) c bs) → found k rules c (root_label right) (root_children right) ≡ Some bs → BindsOne k rules right c bs
    unfolding Right
    root_binds (atom v) c bs root sound_right h e = let z = root.2 in apart (cc)
    root_binds (variable n) c bs root sound_right h e = let z = root.2 in apart (cc)
    root_binds (body j u) c bs root sound_right h e = absurd sound_right
    root_binds (head j r ds u) c bs root sound_right h e = absurd sound_right
    root_binds (form l us) c bs root sound_right h e = h l us sound_right.3 e

    -- a head mark of the layer
    untaken_exact : (r : ℕ) (ds : Trees) (c t : Tree) → WellMadeAll ds false → ((l : ℕ) (us : Trees) (bs : List Bound) → RightAll k us → found k rules c l us ≡ Some bs → BindsOne k rules (form l us) c bs) → (o : Option Rule) → rule_at r rules ≡ o → untaken_if o ds (λ rule. found k rules c (root_label rule.right) (root_children rule.right)) ≡ Some t → ExpandsTo k rules t (head k r ds c)
    untaken_exact r ds c t formed h None at_r e = apart (cc)
    untaken_exact r ds c t formed h (Some rule) at_r e = by_count (eqb (count ds) (losses rule.right rule.arguments)) e
      where
        by_fill : (bs : List Bound) → BindsOne k rules rule.right c bs → (o : Option Trees) → refilled rule.right rule.arguments ds bs ≡ o → form_if rule.label o ≡ Some t → ExpandsTo k rules t (head k r ds c)
        by_fill bs binds None fill f = apart (cc)
        by_fill bs binds (Some ts) fill f =
            let is : form rule.label ts ≡ t = cc in
            rw (← is) (left_exact r rule ds c bs ts at_r (sound.each r rule at_r) binds formed fill)

        by_match : (o : Option (List Bound)) → found k rules c (root_label rule.right) (root_children rule.right) ≡ o → untaken rule ds o ≡ Some t → ExpandsTo k rules t (head k r ds c)
        by_match None match f = apart (cc)
        by_match (Some bs) match f =
            let s = sound.each r rule at_r in
            by_fill bs (root_binds rule.right c bs s.root s.right (λ l us. h l us bs) match) (refilled rule.right rule.arguments ds bs) refl f

        by_count : (b : Bool) → cond b (untaken rule ds (found k rules c (root_label rule.right) (root_children rule.right))) None ≡ Some t → ExpandsTo k rules t (head k r ds c)
        by_count false f = apart (cc)
        by_count true f = by_match (found k rules c (root_label rule.right) (root_children rule.right)) refl f

    -- what a body mark unexpands to, by what its child does
    from_body : (j : ℕ) (c t : Tree) → WellFormed (body j c) → ((u : Tree) → unexpanded k rules c ≡ Some u → ExpandsTo k rules u c) → unexpanded k rules (body j c) ≡ Some t → ExpandsTo k rules t (body j c)
    unfolding unexpanded
    from_body j c t h inside e = by_test (ltb k j) refl e
      where
        by_child : (o : Option Tree) → unexpanded k rules c ≡ o → ltb k j ≡ true → body_if j o ≡ Some t → ExpandsTo k rules t (body j c)
        by_child None u above f = apart (cc)
        by_child (Some u) is_u above f = let is : body j u ≡ t = cc in rw (← is) (body_exact j u c above h (inside u is_u))

        by_test : (b : Bool) → ltb k j ≡ b → elim b [ true ↦ body_if j (unexpanded k rules c) | false ↦ None ] ≡ Some t → ExpandsTo k rules t (body j c)
        by_test true above f = by_child (unexpanded k rules c) refl above f
        by_test false above f = apart (cc)

    -- what a head mark unexpands to, by its inside term: of a higher layer, or of this one
    from_head : (j r : ℕ) (ds : Trees) (c t : Tree) → WellFormed (head j r ds c) → ((u : Tree) → unexpanded k rules c ≡ Some u → ExpandsTo k rules u c) → ((l : ℕ) (us : Trees) (bs : List Bound) → RightAll k us → found k rules c l us ≡ Some bs → BindsOne k rules (form l us) c bs) → unexpanded k rules (head j r ds c) ≡ Some t → ExpandsTo k rules t (head j r ds c)
    unfolding unexpanded WellMade
    from_head j r ds c t h inside matched e = by_test (ltb k j) refl e
      where
        by_child : (o : Option Tree) → unexpanded k rules c ≡ o → ltb k j ≡ true → head_if j r ds o ≡ Some t → ExpandsTo k rules t (head j r ds c)
        by_child None u above f = apart (cc)
        by_child (Some u) is_u above f = let is : head j r ds u ≡ t = cc in rw (← is) (head_exact j r ds u c above h (inside u is_u))

        by_layer : (b : Bool) → eqb k j ≡ b → elim b [ false ↦ None | true ↦ untaken_if (rule_at r rules) ds (λ rule. found k rules c (root_label rule.right) (root_children rule.right)) ] ≡ Some t → ExpandsTo k rules t (head j r ds c)
        by_layer false same f = apart (cc)
        by_layer true same f =
            let is : k ≡ j = eqb-true k j same in
            let back = untaken_exact r ds c t h.1 matched (rule_at r rules) refl f in
            (back.0, back.1, back.2 ∙ ap (λ i. head i r ds c) is)

        by_test : (b : Bool) → ltb k j ≡ b → elim b [ true ↦ head_if j r ds (unexpanded k rules c) | false ↦ elim (eqb k j) [ false ↦ None | true ↦ untaken_if (rule_at r rules) ds (λ rule. found k rules c (root_label rule.right) (root_children rule.right)) ] ] ≡ Some t → ExpandsTo k rules t (head j r ds c)
        by_test true above f = by_child (unexpanded k rules c) refl above f
        by_test false above f = by_layer (eqb k j) refl f

    -- what a form unexpands to, by its children
    from_form : (l : ℕ) (cs : Trees) (t : Tree) → WellFormed (form l cs) → ((us : Trees) → unexpanded_all k rules cs ≡ Some us → ExpandAllTo us cs) → unexpanded k rules (form l cs) ≡ Some t → ExpandsTo k rules t (form l cs)
    unfolding unexpanded
    from_form l cs t h inside e = by_test (owned k l) refl e
      where
        by_children : (o : Option Trees) → unexpanded_all k rules cs ≡ o → owned k l ≡ false → form_if l o ≡ Some t → ExpandsTo k rules t (form l cs)
        by_children None us foreign f = apart (cc)
        by_children (Some us) is_us foreign f = let is : form l us ≡ t = cc in rw (← is) (form_exact l us cs foreign h (inside us is_us))

        by_test : (b : Bool) → owned k l ≡ b → elim b [ true ↦ None | false ↦ form_if l (unexpanded_all k rules cs) ] ≡ Some t → ExpandsTo k rules t (form l cs)
        by_test true foreign f = apart (cc)
        by_test false foreign f = by_children (unexpanded_all k rules cs) refl foreign f

    -- what a tree and those behind it unexpand to
    from_more : (c : Tree) (cs ts : Trees) → ((u : Tree) → unexpanded k rules c ≡ Some u → ExpandsTo k rules u c) → ((us : Trees) → unexpanded_all k rules cs ≡ Some us → ExpandAllTo us cs) → unexpanded_all k rules (more c cs) ≡ Some ts → ExpandAllTo ts (more c cs)
    unfolding unexpanded_all
    from_more c cs ts one others e =
        let p = cons_some (unexpanded k rules c) (unexpanded_all k rules cs) ts e in
        let is = p.4 in
        rw (← is) (more_exact p.0 p.1 c cs (one p.0 p.2) (others p.1 p.3))

    -- what the matching of a right side's form binds in its body mark
    found-body : (j : ℕ) (c : Tree) (l : ℕ) (us : Trees) (bs : List Bound) → (found_form k rules c l us ≡ Some bs → Binds k rules (λ n. stands_any n us) (λ arguments values. form l (instances k arguments values us)) c bs) → found k rules (body j c) l us ≡ Some bs → BindsOne k rules (form l us) (body j c) bs
    unfolding found instance stands
    found-body j c l us bs inside e = by_test (eqb k j) refl e
      where
        by_test : (b : Bool) → eqb k j ≡ b → elim b [ false ↦ None | true ↦ found_form k rules c l us ] ≡ Some bs → BindsOne k rules (form l us) (body j c) bs
        by_test false same f = apart (cc)
        by_test true same f =
            let is : k ≡ j = eqb-true k j same in
            let b = inside f in
            record { good = b.good; others = b.others; fills = λ arguments values h. let x = b.fills arguments values h in cc }

    -- and in the form inside that mark
    found-form : (m : ℕ) (cs : Trees) (l : ℕ) (us : Trees) (bs : List Bound) → (found_all k rules cs us ≡ Some bs → BindsAll k rules us cs bs) → found_form k rules (form m cs) l us ≡ Some bs → Binds k rules (λ n. stands_any n us) (λ arguments values. form l (instances k arguments values us)) (form m cs) bs
    unfolding found_form
    found-form m cs l us bs inside e = by_test (eqb l m) refl e
      where
        by_test : (b : Bool) → eqb l m ≡ b → elim b [ false ↦ None | true ↦ found_all k rules cs us ] ≡ Some bs → Binds k rules (λ n. stands_any n us) (λ arguments values. form l (instances k arguments values us)) (form m cs) bs
        by_test false same f = apart (cc)
        by_test true same f =
            let is : l ≡ m = eqb-true l m same in
            let b = inside f in
            record { good = b.good; others = b.others; fills = λ arguments values h. let x = b.fills arguments values h in cc }

    -- and in a child and those behind it
    found_more : (u : Tree) (us : Trees) (c : Tree) (cs : Trees) (o : Option (List Bound)) (bs : List Bound) → ((n : ℕ) → stands n u ≡ true → stands_any n us ≡ false) → ((xs : List Bound) → o ≡ Some xs → BindsOne k rules u c xs) → ((ys : List Bound) → found_all k rules cs us ≡ Some ys → BindsAll k rules us cs ys) → both o (found_all k rules cs us) ≡ Some bs → BindsAll k rules (more u us) (more c cs) bs
    found_more u us c cs o bs once one rest e =
        let p = both_some o (found_all k rules cs us) bs e in
        let is = p.4 in
        rw (← is) (more_binds k rules u us c cs p.0 p.1 once (one p.0 p.2) (rest p.1 p.3))

    mutual
      unfolding unexpanded WellMade RightAll

      -- what a tree unexpands to expands to that tree
      tree_exact : (c t : Tree) → WellFormed c → unexpanded k rules c ≡ Some t → ExpandsTo k rules t c
      tree_exact (atom v) t h e = let is : atom v ≡ t = cc in rw (← is) (atom_exact v h)
      tree_exact (variable n) t h e = apart (cc)
      tree_exact (body j c) t h e = from_body j c t h (λ u. tree_exact c u h.1) e
      tree_exact (head j r ds c) t h e = from_head j r ds c t h (λ u. tree_exact c u h.2) (λ l us bs. found_exact c l us bs h.2) e
      tree_exact (form l cs) t h e = from_form l cs t h (λ us. trees_exact cs us h.2) e

      -- and so for trees
      trees_exact : (cs ts : Trees) → WellMadeAll cs false → unexpanded_all k rules cs ≡ Some ts → ExpandAllTo ts cs
      trees_exact none ts h e = let is : none ≡ ts = cc in rw (← is) none_exact
      trees_exact (more c cs) ts h e = from_more c cs ts (λ u. tree_exact c u h.0) (λ us. trees_exact cs us h.1) e

      -- what matching binds, in a tree that should be a form in its body mark
      found_exact : (c : Tree) (l : ℕ) (us : Trees) (bs : List Bound) → WellFormed c → RightAll k us → found k rules c l us ≡ Some bs → BindsOne k rules (form l us) c bs
      found_exact (atom w) l us bs h s e = apart (cc)
      found_exact (variable m) l us bs h s e = apart (cc)
      found_exact (body j c) l us bs h s e = found-body j c l us bs (formed_exact c l us bs h.1 s) e
      found_exact (head j r ds c) l us bs h s e = apart (cc)
      found_exact (form m cs) l us bs h s e = apart (cc)

      -- in the form itself
      formed_exact : (c : Tree) (l : ℕ) (us : Trees) (bs : List Bound) → WellFormed c → RightAll k us → found_form k rules c l us ≡ Some bs → Binds k rules (λ n. stands_any n us) (λ arguments values. form l (instances k arguments values us)) c bs
      formed_exact (atom w) l us bs h s e = apart (cc)
      formed_exact (variable m) l us bs h s e = apart (cc)
      formed_exact (body j c) l us bs h s e = apart (cc)
      formed_exact (head j r ds c) l us bs h s e = apart (cc)
      formed_exact (form m cs) l us bs h s e = found-form m cs l us bs (all_exact cs us bs h.2 s) e

      -- in its children
      all_exact : (cs us : Trees) (bs : List Bound) → WellMadeAll cs false → RightAll k us → found_all k rules cs us ≡ Some bs → BindsAll k rules us cs bs
      all_exact none none bs h s e = let is : [] ≡ bs = cc in rw (← is) (none_binds k rules)
      all_exact none (more u us) bs h s e = apart (cc)
      all_exact (more c cs) none bs h s e = apart (cc)
      all_exact (more c cs) (more (atom v) us) bs h s e =
          found_more (atom v) us c cs (if_number v c) bs s.2 (λ xs. atom_binds k rules v c xs) (λ ys. all_exact cs us ys h.1 s.1) e
      all_exact (more c cs) (more (variable n) us) bs h s e =
          found_more (variable n) us c cs (single n (unexpanded k rules c)) bs s.2 (λ xs. variable_binds k rules n c (unexpanded k rules c) xs (λ t. tree_exact c t h.0)) (λ ys. all_exact cs us ys h.1 s.1) e
      all_exact (more c cs) (more (body j u) us) bs h s e = apart (cc)
      all_exact (more c cs) (more (head j r ds u) us) bs h s e = apart (cc)
      all_exact (more c cs) (more (form l vs) us) bs h s e =
          found_more (form l vs) us c cs (found k rules c l vs) bs s.2 (λ xs. found_exact c l vs xs h.0 s.0.3) (λ ys. all_exact cs us ys h.1 s.1) e

-- what unexpansion gives expands to what was given
pub exact : UnexpansionIsExact
exact k rules t c sound h e = tree_exact k rules sound c t h e
