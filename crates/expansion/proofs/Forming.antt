-- What a well-formed term expands to is well formed.
use Rattle.std.proofs.Common.{◌≡◌, ℕ, zero, suc, ◌+◌, ◌*◌, ◌<◌, ◌≤◌, Bool, true, false, cond, ◌&&◌, ltb, leb, List, [], ◌∷◌, length, Some, None, Option, sym, refl, ap, subst, arith}
use Rattle.std.proofs.lemmas.Bool.{and_from, le-leb, lt-ltb}
use Rattle.terms.specs.Words.{is_layer, is_head, is_form_label}
use Rattle.terms.specs.Trees.{Tree, Trees, atom, variable, body, head, form, none, more, count, WellMade, WellMadeAll, WellFormed}
use Rattle.lists.specs.Lines.{owned}
use Rattle.languages.proofs.Asked.{apart}
use Rattle.expansion.specs.Rules.{Rule}
use Rattle.expansion.specs.Matches.{Numbered, matching, rule_at, lost, dropped, is_variable_of, value_of}
use Rattle.expansion.specs.Expansion.{instance, instances, taken, expanded, expanded_all}
use Rattle.expansion.specs.Laws.{SoundRules, Right, RightAll, ExpansionsAreWellFormed}
use Rattle.expansion.proofs.Taking.{matched, expanded_by, expanded_by_lem}

-- a rule that is there has its number below how many there are
rule_below : (n : ℕ) (rules : List Rule) (rule : Rule) → rule_at n rules ≡ Some rule → n < length rules
unfolding rule_at
rule_below n [] rule e = apart (cc)
rule_below zero (r ∷ rules) rule e = omega arith
rule_below (suc n) (r ∷ rules) rule e = omega (arith, rule_below n rules rule e)

-- the trees that a rule drops are well formed, and no more than there were
dropped_formed : (right : Tree) (arguments ts : Trees) → WellMadeAll ts false → WellMadeAll (dropped right arguments ts) false × (count (dropped right arguments ts) ≤ count ts)
unfolding dropped WellMadeAll count
dropped_formed right none ts f = (tt, omega arith)
dropped_formed right (more a rest) none f = (tt, omega arith)
dropped_formed right (more a rest) (more t ts) f = by_test (lost right a) (dropped_formed right rest ts f.1)
  where
    by_test : (b : Bool) → WellMadeAll (dropped right rest ts) false × (count (dropped right rest ts) ≤ count ts) → WellMadeAll (cond b (more t (dropped right rest ts)) (dropped right rest ts)) false × (count (cond b (more t (dropped right rest ts)) (dropped right rest ts)) ≤ suc (count ts))
    by_test true g = ((f.0, g.0), omega (arith, g.1))
    by_test false g = (g.0, omega (arith, g.1))

-- a variable's value is well formed
value_formed : (n : ℕ) (arguments es : Trees) → WellMadeAll es false → WellFormed (value_of n arguments es)
unfolding value_of WellMadeAll
value_formed n none es f = omega arith
value_formed n (more a rest) none f = omega arith
value_formed n (more a rest) (more t ts) f = by_test (is_variable_of n a) (value_formed n rest ts f.1)
  where
    by_test : (b : Bool) → WellFormed (value_of n rest ts) → WellFormed (cond b t (value_of n rest ts))
    by_test true g = f.0
    by_test false g = g

-- a body mark of the layer is one
layer_formed : (k : ℕ) → (1 ≤ k) × (k ≤ 6) → is_layer k ≡ true
layer_formed k h = and_from (leb 1 k) (leb k 6) (le-leb 1 k h.0) (le-leb k 6 h.1)

-- so is a head mark of the layer
head_formed : (k r d : ℕ) → (1 ≤ k) × (k ≤ 6) → r < 32 → d ≤ 8 → is_head k r d ≡ true
head_formed k r d h rule size =
    and_from (is_layer k && ltb r 32) (leb d 8) (and_from (is_layer k) (ltb r 32) (layer_formed k h) (lt-ltb r 32 rule)) (le-leb d 8 size)

-- a form below those of the layer has a form's label
label_formed : (k l : ℕ) → k ≤ 6 → 16 ≤ l → l < 32 + 32 * k → is_form_label l ≡ true
label_formed k l h low high = and_from (leb 16 l) (leb l 255) (le-leb 16 l low) (le-leb l 255 (omega arith))

module _ (k : ℕ) (layer : (1 ≤ k) × (k ≤ 6)) (arguments es : Trees) (formed : WellMadeAll es false) where
  -- a form filled in has as many children
  instances-count : (us : Trees) → count (instances k arguments es us) ≡ count us
  unfolding instances count
  instances-count none = refl
  instances-count (more u us) = ap suc (instances-count us)

  -- a right side filled in with well-formed trees is well formed
  mutual
    unfolding instance WellMade Right

    pub instance_formed : (u : Tree) → Right k u → WellFormed (instance k arguments es u)
    instance_formed (atom v) h = h
    instance_formed (variable n) h = value_formed n arguments es formed
    instance_formed (body j u) h = absurd h
    instance_formed (head j r ds u) h = absurd h
    instance_formed (form l us) h =
        (layer_formed k layer, (label_formed k l layer.1 h.0 h.1, omega (arith, instances-count us, h.2), instances_formed us h.3))

    instances_formed : (us : Trees) → RightAll k us → WellMadeAll (instances k arguments es us) false
    instances_formed none h = tt
    instances_formed (more u us) h = (instance_formed u h.0, instances_formed us h.1)

module _ (k : ℕ) (rules : List Rule) (sound : SoundRules k rules) where
  -- as many trees as before
  expanded_count : (ts : Trees) → count (expanded_all k rules ts) ≡ count ts
  unfolding expanded_all count
  expanded_count none = refl
  expanded_count (more t ts) = ap suc (expanded_count ts)

  -- an owned form's expansion by its rule
  taken_formed : (l : ℕ) (ts : Trees) → WellFormed (form l ts) → WellMadeAll (expanded_all k rules ts) false → (m : Numbered) → matching 0 rules l ts ≡ Some m → WellFormed (taken k ts (expanded_all k rules ts) m)
  unfolding WellMade
  taken_formed l ts f inner m e =
      let rule = m.rule in
      let at = (matched rules l ts m e).0 in
      let keeps = sound.each m.number rule at in
      let drops = dropped_formed rule.right rule.arguments ts f.2 in
      let below = rule_below m.number rules rule at in
      (head_formed k m.number (count (dropped rule.right rule.arguments ts)) sound.layer (omega (arith, below, sound.few)) (omega (arith, drops.1, f.1)), drops.0, instance_formed k sound.layer rule.arguments (expanded_all k rules ts) inner rule.right keeps.right)

  -- a form's expansion, by whether the layer owns it and by its rule
  form_formed : (l : ℕ) (ts : Trees) → WellFormed (form l ts) → WellMadeAll (expanded_all k rules ts) false → (b : Bool) (o : Option Numbered) → matching 0 rules l ts ≡ o → WellFormed (expanded_by k rules l ts b o)
  unfolding WellMade
  form_formed l ts f inner false o e = (f.0, omega (arith, expanded_count ts, f.1), inner)
  form_formed l ts f inner true None e = f
  form_formed l ts f inner true (Some m) e = taken_formed l ts f inner m e

  -- a well-formed term's expansion, whether or not something in it offends
  mutual
    unfolding expanded WellMade

    tree_formed : (t : Tree) → WellFormed t → WellFormed (expanded k rules t)
    tree_formed (atom v) f = f
    tree_formed (variable n) f = f
    tree_formed (body j t) f = (f.0, tree_formed t f.1)
    tree_formed (head j r ds t) f = (f.0, f.1, tree_formed t f.2)
    tree_formed (form l ts) f =
        let o = matching 0 rules l ts in
        subst WellFormed (sym (expanded_by_lem k rules l ts (owned k l) o refl refl)) (form_formed l ts f (trees_formed ts f.2) (owned k l) o refl)

    trees_formed : (ts : Trees) → WellMadeAll ts false → WellMadeAll (expanded_all k rules ts) false
    trees_formed none f = tt
    trees_formed (more t ts) f = (tree_formed t f.0, trees_formed ts f.1)

-- the law
pub formed : ExpansionsAreWellFormed
formed k rules t c sound expands = subst WellFormed expands.2 (tree_formed k rules sound t expands.0)
