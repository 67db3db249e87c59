-- The left side of a rule, filled in again: it takes the rule, drops what was dropped, and its kept children are the bounds.
use Rattle.std.proofs.Common.{◌≡◌, ℕ, suc, ◌<◌, Bool, true, false, cond, ◌||◌, eqb, List, length, Some, None, Option, refl, ap}
use Rattle.std.proofs.lemmas.Bool.{eqb-true, eq-eqb}
use Rattle.terms.specs.Trees.{Tree, Trees, atom, variable, body, head, form, none, more, count, written, WellMadeAll, WellFormed}
use Rattle.languages.proofs.Asked.{apart}
use Rattle.expansion.specs.Rules.{Rule, stands, stands_any}
use Rattle.expansion.specs.Matches.{takes_all, dropped, value_of}
use Rattle.expansion.specs.Expansion.{expanded, expanded_all}
use Rattle.expansion.specs.Unexpansion.{Bound, lookup, cons_if, refilled}
use Rattle.expansion.specs.Offences.{offence, offences_kept, later}
use Rattle.expansion.specs.Laws.{Arguments}

-- a list of trees that is given has a first tree and those behind it
pub cons_some : (o : Option Tree) (p : Option Trees) (ts : Trees) → cons_if o p ≡ Some ts → (t : Tree) × (us : Trees) × (o ≡ Some t) × (p ≡ Some us) × (more t us ≡ ts)
cons_some None p ts e = apart (cc)
cons_some (Some t) None ts e = apart (cc)
cons_some (Some t) (Some us) ts e = (t, us, refl, refl, cc)

module _ (k : ℕ) (rules : List Rule) (right : Tree) (bs : List Bound) (good : (n : ℕ) (v : Tree) → lookup n bs ≡ Some v → WellFormed v × (offence k rules v ≡ None)) where
  -- the children ts are the arguments `rest` filled in from the dropped terms ds and the bounds
  pub record Refilled (rest ds ts : Trees) : Type 0 where
    pub fitting : takes_all rest ts ≡ true
    pub drops : dropped right rest ts ≡ ds
    pub calm : offences_kept k rules right rest ts ≡ None
    pub formed : WellMadeAll ts false
    pub counted : count ts ≡ count rest
    pub valued : (n : ℕ) (v : Tree) → stands_any n rest ≡ true → stands n right ≡ true → lookup n bs ≡ Some v → value_of n rest (expanded_all k rules ts) ≡ expanded k rules v

  -- no arguments
  refilled_none : Refilled none none none
  unfolding takes_all dropped offences_kept WellMadeAll stands_any
  refilled_none =
      record { fitting = refl; drops = refl; calm = refl; formed = tt; counted = refl; valued = λ n v st right_has e. apart (cc) }

  -- one more argument, an atom
  refilled_atom : (w : ℕ) (rest ds ts : Trees) → w < 16777216 → Refilled rest ds ts → Refilled (more (atom w) rest) ds (more (atom w) ts)
  unfolding takes_all dropped offences_kept WellMadeAll stands_any count value_of expanded
  refilled_atom w rest ds ts small h =
      record {
        fitting = rw (eq-eqb w w refl) h.fitting;
        drops = h.drops;
        calm = ap (later (length (written (atom w)))) h.calm;
        formed = (small, h.formed);
        counted = ap suc h.counted;
        valued = h.valued;
      }

  -- a variable that stands on the right
  refilled_kept : (m : ℕ) (t : Tree) (rest ds ts : Trees) → stands m right ≡ true → lookup m bs ≡ Some t → Refilled rest ds ts → Refilled (more (variable m) rest) ds (more t ts)
  unfolding takes_all dropped offences_kept WellMadeAll stands_any count value_of expanded
  refilled_kept m t rest ds ts st e h =
      let g = good m t e in
      record {
        fitting = h.fitting;
        drops = rw st h.drops;
        calm = rw (st, g.1) (ap (later (length (written t))) h.calm);
        formed = (g.0, h.formed);
        counted = ap suc h.counted;
        valued = λ n v any right_has f. by_test n v (eqb m n) refl any right_has f;
      }
    where
      by_test : (n : ℕ) (v : Tree) (b : Bool) → eqb m n ≡ b → (b || stands_any n rest) ≡ true → stands n right ≡ true → lookup n bs ≡ Some v → cond b (expanded k rules t) (value_of n rest (expanded_all k rules ts)) ≡ expanded k rules v
      by_test n v true same any right_has f =
          let is : m ≡ n = eqb-true m n same in
          let it : t ≡ v = cc in
          ap (expanded k rules) it
      by_test n v false same any right_has f = h.valued n v any right_has f

  -- a variable that is missing on the right
  refilled_lost : (m : ℕ) (d : Tree) (rest ds ts : Trees) → stands m right ≡ false → WellFormed d → Refilled rest ds ts → Refilled (more (variable m) rest) (more d ds) (more d ts)
  unfolding takes_all dropped offences_kept WellMadeAll stands_any count value_of expanded
  refilled_lost m d rest ds ts st g h =
      record {
        fitting = h.fitting;
        drops = rw st (ap (more d) h.drops);
        calm = rw st (ap (later (length (written d))) h.calm);
        formed = (g, h.formed);
        counted = ap suc h.counted;
        valued = λ n v any right_has f. by_test n v (eqb m n) refl any right_has f;
      }
    where
      by_test : (n : ℕ) (v : Tree) (b : Bool) → eqb m n ≡ b → (b || stands_any n rest) ≡ true → stands n right ≡ true → lookup n bs ≡ Some v → cond b (expanded k rules d) (value_of n rest (expanded_all k rules ts)) ≡ expanded k rules v
      by_test n v true same any right_has f =
          let is : m ≡ n = eqb-true m n same in
          apart (cc)
      by_test n v false same any right_has f = h.valued n v any right_has f

  -- what filling in gives has all that
  pub refilled_is : (rest ds ts : Trees) → Arguments rest → WellMadeAll ds false → refilled right rest ds bs ≡ Some ts → Refilled rest ds ts
  unfolding refilled Arguments WellMadeAll
  refilled_is none none ts args formed e = let is : none ≡ ts = cc in rw (← is) refilled_none
  refilled_is none (more d ds) ts args formed e = apart (cc)
  refilled_is (more (atom w) rest) ds ts args formed e =
      let p = cons_some (Some (atom w)) (refilled right rest ds bs) ts e in
      let is : more (atom w) p.1 ≡ ts = cc in
      rw (← is) (refilled_atom w rest ds p.1 args.0 (refilled_is rest ds p.1 args.1 formed p.3))
  refilled_is (more (variable m) rest) none ts args formed e =
      by_test (stands m right) refl e (λ us f. refilled_is rest none us args.2 formed f)
    where
      by_test : (b : Bool) → stands m right ≡ b → elim b [ true ↦ cons_if (lookup m bs) (refilled right rest none bs) | false ↦ None ] ≡ Some ts → ((us : Trees) → refilled right rest none bs ≡ Some us → Refilled rest none us) → Refilled (more (variable m) rest) none ts
      by_test true st f inside =
          let p = cons_some (lookup m bs) (refilled right rest none bs) ts f in
          let is = p.4 in
          rw (← is) (refilled_kept m p.0 rest none p.1 st p.2 (inside p.1 p.3))
      by_test false st f inside = apart (cc)
  refilled_is (more (variable m) rest) (more d ds) ts args formed e =
      by_test (stands m right) refl e (λ us f. refilled_is rest (more d ds) us args.2 formed f) (λ us f. refilled_is rest ds us args.2 formed.1 f)
    where
      by_test : (b : Bool) → stands m right ≡ b → elim b [ true ↦ cons_if (lookup m bs) (refilled right rest (more d ds) bs) | false ↦ cons_if (Some d) (refilled right rest ds bs) ] ≡ Some ts → ((us : Trees) → refilled right rest (more d ds) bs ≡ Some us → Refilled rest (more d ds) us) → ((us : Trees) → refilled right rest ds bs ≡ Some us → Refilled rest ds us) → Refilled (more (variable m) rest) (more d ds) ts
      by_test true st f inside behind =
          let p = cons_some (lookup m bs) (refilled right rest (more d ds) bs) ts f in
          let is = p.4 in
          rw (← is) (refilled_kept m p.0 rest (more d ds) p.1 st p.2 (inside p.1 p.3))
      by_test false st f inside behind =
          let p = cons_some (Some d) (refilled right rest ds bs) ts f in
          let is : more d p.1 ≡ ts = cc in
          rw (← is) (refilled_lost m d rest ds p.1 st formed.0 (behind p.1 p.3))
  refilled_is (more (body j t) rest) ds ts args formed e = absurd args
  refilled_is (more (head j r es t) rest) ds ts args formed e = absurd args
  refilled_is (more (form l us) rest) ds ts args formed e = absurd args
