-- The rules of a proper list are sound.
use Rattle.std.proofs.Common.{◌≡◌, ℕ, zero, suc, ◌+◌, ◌*◌, ◌/◌, ◌<◌, ◌≤◌, true, false, eqb, leb, List, [], ◌∷◌, map, length, get_or, Some, None, Option, sym, refl, ap, ◌∙◌, subst, ⊎_elim, arith}
use Rattle.std.specs.List.{ContainsAt, AllByRecursion}
use Rattle.std.proofs.lemmas.List.{length-map}
use Rattle.std.proofs.ByRecursion.{all-has, All-get_or}
use Rattle.std.proofs.lemmas.Bool.{eqb-true, eq-eqb, and_parts, and_from, and_left, and_right, not_from_true, le-leb, cases_order}
use Rattle.terms.specs.Words.{word, node_of}
use Rattle.terms.specs.Trees.{Tree, Trees, atom, variable, body, head, form, none, more, count, written, WellMade, read}
use Rattle.terms.proofs.Nodes.{node_variable}
use Rattle.terms.proofs.Readings.{read-written}
use Rattle.terms.proofs.Shapes.{word_of}
use Rattle.lists.specs.declared.parts.Form.{Form}
use Rattle.lists.specs.Lines.{Sides}
use Rattle.lists.specs.Sides.{is_atom, on_right, clash, form_word}
use Rattle.lists.specs.Acceptance.{Listed}
use Rattle.lists.specs.Laws.{Proper, Rising, LeftSide, RightSide, OncePlaced, FromLeft, Overlaps}
use Rattle.languages.proofs.Asked.{apart}
use Rattle.expansion.specs.Rules.{Rule, trees_of, tree_of, rule_left, rule_of, rules_of, stands, stands_any}
use Rattle.expansion.specs.Matches.{takes, takes_all, fits, rule_at}
use Rattle.expansion.specs.Laws.{SoundRule, Right, ProperListsAreSound}
use Rattle.expansion.proofs.Taking.{is_number_lem}
use Rattle.expansion.proofs.Leaves.{Leaf, Leaves, words, words_count, read_arguments, stands-written, has_stands, once_behind, variable_word, arguments_of}
use Rattle.expansion.proofs.Rights.{right_small, right_made}

-- the label is owned, and the form has at most 8 children
abbrev Owned : ℕ → Form → Type 0
Owned k f = (32 + 32 * k ≤ f.label) × (f.label ≤ 63 + 32 * k) × (f.count ≤ 8)

-- so it is with every declared form
forms_owned : (k before : ℕ) (forms : List Form) → Rising k before forms → AllByRecursion (Owned k) forms
forms_owned k before [] r = tt
forms_owned k before (f ∷ fs) r = ((r.0, r.1, r.3), forms_owned k f.label fs r.4)

-- what two sides say of the rule that they spell
pub record Spells (k : ℕ) (s : Sides) (rule : Rule) : Type 0 where
  pub size : ℕ
  pub left_is : s.left ≡ word rule.label size ∷ words rule.arguments
  pub counted : count rule.arguments ≡ size
  pub few : size ≤ 8
  pub leaves : Leaves rule.arguments
  pub low : 32 + 32 * k ≤ rule.label
  pub high : rule.label ≤ 63 + 32 * k
  pub root : (l : ℕ) × (ts : Trees) × (rule.right ≡ form l ts)
  pub made : WellMade rule.right true
  pub right_is : s.right ≡ written rule.right
  pub all_right : AllByRecursion (λ w. on_right k w ≡ true) s.right

-- the trees that words are read as
trees_read : (ws : List ℕ) (ts : Trees) → read ws ≡ Some ts → trees_of ws ≡ ts
trees_read ws ts e = ap (λ (o : Option Trees). elim o [ None ↦ none | Some us ↦ us ]) e

-- the rule that two sides spell, by what they are read as
rule_read : (s : Sides) (w : ℕ) (args : List ℕ) (ts : Trees) (t : Tree) → s.left ≡ w ∷ args → read args ≡ Some ts → read s.right ≡ Some (more t none) → rule_of s ≡ record { label = w / 16777216; arguments = ts; right = t }
unfolding rule_of
rule_read s w args ts t l e f =
    (λ i. rule_left (l i) (tree_of (trees_read s.right (more t none) f i))) ∙ (λ i. record { label = w / 16777216; arguments = trees_read args ts e i; right = t })

-- two sides of a proper list spell their rule
spells : (k : ℕ) (forms : List Form) (s : Sides) → Rising k 0 forms → LeftSide forms s.left → RightSide k s.right → Spells k s (rule_of s)
spells k forms s rising l r =
    let f : Form = l.0 in
    let own : Owned k f = all-has (Owned k) forms f (forms_owned k 0 forms rising) l.2 in
    let a = read_arguments l.1 l.5 in
    let t : Tree = form r.0 r.1 in
    let label : form_word f / 16777216 ≡ f.label = omega (arith, own.2) in
    let first : word (form_word f / 16777216) f.count ≡ form_word f = omega (arith, label) in
    let is = rule_read s (form_word f) l.1 a.0 t l.3 a.1 (ap read (sym r.3) ∙ read-written t true r.2) in
    subst (Spells k s) (sym is) (record {
      size = f.count;
      left_is = l.3 ∙ (λ i. sym first i ∷ sym a.2 i);
      counted = sym (words_count a.0) ∙ ap length a.2 ∙ l.4;
      few = own.2;
      leaves = a.3;
      low = omega (arith, own.0, label);
      high = omega (arith, own.1, label);
      root = (r.0, r.1, refl);
      made = r.2;
      right_is = sym r.3;
      all_right = r.4;
    })

-- a rule that is spelled so, with each variable once, and on the left if on the right, is sound
rule_sound : (k : ℕ) (s : Sides) (rule : Rule) → Spells k s rule → OncePlaced s.left → OncePlaced s.right → FromLeft s.left s.right → SoundRule k rule
rule_sound k s rule p left_once right_once from =
    record {
      own = and_from (leb (32 + 32 * k) rule.label) (leb rule.label (63 + 32 * k)) (le-leb (32 + 32 * k) rule.label p.low) (le-leb rule.label (63 + 32 * k) p.high);
      few = omega (arith, p.counted, p.few);
      arguments = arguments_of rule.arguments p.leaves (once_behind (word rule.label p.size) (words rule.arguments) (subst OncePlaced p.left_is left_once));
      root = p.root;
      right = right;
      from_left = λ n e. on_left n (right_small k n rule.right right e) e;
    }
  where
    right : Right k rule.right
    right =
        let A : List ℕ → Type 0 = AllByRecursion (λ w. on_right k w ≡ true) in
        right_made k rule.right p.made (subst A p.right_is p.all_right) (subst OncePlaced p.right_is right_once)

    among : (n : ℕ) → n < 8 → (i : ℕ) → i < suc (length (words rule.arguments)) → get_or (word rule.label p.size ∷ words rule.arguments) i 0 ≡ word 2 n → stands_any n rule.arguments ≡ true
    among n h zero l e = absurd (omega (arith, p.low, p.few))
    among n h (suc i) l e = has_stands n rule.arguments p.leaves i (omega arith) e

    on_left : (n : ℕ) → n < 8 → stands n rule.right ≡ true → stands_any n rule.arguments ≡ true
    on_left n h e =
        let H : List ℕ → Type 0 = λ ws. ContainsAt ws (word 2 n) in
        let there = from (word 2 n) (subst H (sym p.right_is) (stands-written n rule.right e)) (variable_word n h) in
        let here = subst H p.left_is there in
        among n h here.0 here.1 (here.2 0)

-- a variable's word is no atom
variable_no_atom : (n : ℕ) → n < 8 → is_atom (node_of (word 2 n)) ≡ false
variable_no_atom n h = ap is_atom (node_variable n h)

-- two arguments that take one tree are no two different atoms
leaf_clash : (a b t : Tree) → Leaf a → Leaf b → takes a t ≡ true → takes b t ≡ true → clash (word_of a) (word_of b) ≡ false
leaf_clash (variable n) b t la lb e f = and_left _ _ (and_left _ _ (variable_no_atom n la))
leaf_clash (atom v) (variable n) t la lb e f = and_left _ _ (and_right _ _ (variable_no_atom n lb))
leaf_clash (atom v) (atom w) t la lb e f =
    let x = is_number_lem v t e in
    let y = is_number_lem w t f in
    let same : v ≡ w = cc in
    and_right _ _ (not_from_true _ (eq-eqb (word 0 v) (word 0 w) (ap (word 0) same)))
leaf_clash (atom v) (body k u) t la lb e f = absurd lb
leaf_clash (atom v) (head k r ds u) t la lb e f = absurd lb
leaf_clash (atom v) (form l us) t la lb e f = absurd lb
leaf_clash (body k u) b t la lb e f = absurd la
leaf_clash (head k r ds u) b t la lb e f = absurd la
leaf_clash (form l us) b t la lb e f = absurd la

-- nor are they so at any place
no_clash : (a b ts : Trees) → Leaves a → Leaves b → takes_all a ts ≡ true → takes_all b ts ≡ true → (i : ℕ) → i < length (words a) → i < length (words b) → clash (get_or (words a) i 0) (get_or (words b) i 0) ≡ false
unfolding takes_all
no_clash none b ts la lb e f i l m = absurd (omega arith)
no_clash (more a as') none ts la lb e f i l m = absurd (omega arith)
no_clash (more a as') (more b bs) none la lb e f i l m = apart (cc)
no_clash (more a as') (more b bs) (more t ts) la lb e f zero l m = leaf_clash a b t la.0 lb.0 (and_parts (takes a t) (takes_all as' ts) e).0 (and_parts (takes b t) (takes_all bs ts) f).0
no_clash (more a as') (more b bs) (more t ts) la lb e f (suc i) l m =
    no_clash as' bs ts la.1 lb.1 (and_parts (takes a t) (takes_all as' ts) e).1 (and_parts (takes b t) (takes_all bs ts) f).1 i (omega arith) (omega arith)

-- arguments that take trees are as many
takes_count : (a ts : Trees) → takes_all a ts ≡ true → count a ≡ count ts
unfolding takes_all count
takes_count none none e = refl
takes_count none (more t ts) e = apart (cc)
takes_count (more a rest) none e = apart (cc)
takes_count (more a rest) (more t ts) e = ap suc (takes_count rest ts (and_parts (takes a t) (takes_all rest ts) e).1)

-- two rules that match one form have left sides that overlap
both_overlap : (k : ℕ) (s d : Sides) (rule other : Rule) (l : ℕ) (ts : Trees) → Spells k s rule → Spells k d other → fits rule l ts ≡ true → fits other l ts ≡ true → Overlaps s.left d.left
both_overlap k s d rule other l ts p q e f =
    let x = and_parts (eqb rule.label l) (takes_all rule.arguments ts) e in
    let y = and_parts (eqb other.label l) (takes_all other.arguments ts) f in
    let label : other.label ≡ rule.label = eqb-true other.label l y.0 ∙ sym (eqb-true rule.label l x.0) in
    let size : q.size ≡ p.size = sym q.counted ∙ takes_count other.arguments ts y.1 ∙ sym (takes_count rule.arguments ts x.1) ∙ p.counted in
    (word rule.label p.size, words rule.arguments, words other.arguments, p.left_is, q.left_is ∙ (λ i. word (label i) (size i) ∷ words other.arguments), no_clash rule.arguments other.arguments ts p.leaves q.leaves x.1 y.1)

-- a rule of the list is the one that the sides of its number spell
rule_at_lem : (rules : List Sides) (d : Sides) (i : ℕ) (rule : Rule) → rule_at i (map rule_of rules) ≡ Some rule → (i < length rules) × (rule_of (get_or rules i d) ≡ rule)
unfolding rule_at
rule_at_lem [] d i rule e = apart (cc)
rule_at_lem (s ∷ rules) d zero rule e = (omega arith, cc)
rule_at_lem (s ∷ rules) d (suc i) rule e = let r = rule_at_lem rules d i rule e in (omega (arith, r.0), r.1)

module _ (l : Listed) (proper : Proper l) where
  -- a number past the list has no sides
  no_sides : Sides
  no_sides = record { left = []; right = [] }

  -- the sides of a number
  sides : ℕ → Sides
  sides i = get_or l.rules i no_sides

  -- they spell its rule
  rule_spelled : (i : ℕ) (rule : Rule) → rule_at i (rules_of l) ≡ Some rule → (i < length l.rules) × Spells l.layer (sides i) rule
  unfolding sides
  rule_spelled i rule e =
      let r = rule_at_lem l.rules no_sides i rule e in
      let S : Rule → Type 0 = Spells l.layer (get_or l.rules i no_sides) in
      let left = All-get_or (λ s. LeftSide l.forms s.left) l.rules i no_sides r.0 proper.lefts in
      let right = All-get_or (λ s. RightSide l.layer s.right) l.rules i no_sides r.0 proper.rights in
      (r.0, subst S r.1 (spells l.layer l.forms (get_or l.rules i no_sides) proper.forms left right))

  -- each rule is sound
  each_sound : (i : ℕ) (rule : Rule) → rule_at i (rules_of l) ≡ Some rule → SoundRule l.layer rule
  unfolding sides
  each_sound i rule e =
      let r = rule_spelled i rule e in
      let once = All-get_or (λ s. OncePlaced s.left × OncePlaced s.right) l.rules i no_sides r.0 proper.once in
      let from = All-get_or (λ s. FromLeft s.left s.right) l.rules i no_sides r.0 proper.from_left in
      rule_sound l.layer (sides i) rule r.1 once.0 once.1 from

  -- two rules that match one form with its children are one
  one_rule : (i j : ℕ) (rule other : Rule) (m : ℕ) (ts : Trees) → rule_at i (rules_of l) ≡ Some rule → rule_at j (rules_of l) ≡ Some other → fits rule m ts ≡ true → fits other m ts ≡ true → i ≡ j
  unfolding sides
  one_rule i j rule other m ts e f x y =
      let r = rule_spelled i rule e in
      let q = rule_spelled j other f in
      ⊎_elim (λ same. same) (λ o. ⊎_elim
      (λ lt. absurd (proper.apart i j no_sides lt q.0 (both_overlap l.layer (sides i) (sides j) rule other m ts r.1 q.1 x y)))
      (λ lt. absurd (proper.apart j i no_sides lt r.0 (both_overlap l.layer (sides j) (sides i) other rule m ts q.1 r.1 y x)))
      o) (cases_order i j)

-- the rules of every proper list are sound
pub proper_sound : ProperListsAreSound
proper_sound l proper =
    record {
      layer = proper.layer;
      few = omega (arith, length-map l.rules rule_of, proper.rule_count.1);
      each = each_sound l proper;
      apart = one_rule l proper;
    }
