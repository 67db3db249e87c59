-- What acceptance means: accepted lists are proper and spelled by the texts, and proper lists that are spelled are accepted.
use Rattle.std.proofs.Common.{◌≡◌, ℕ, suc, ◌<◌, ◌≤◌, Bool, true, false, ◌&&◌, leb, List, [], ◌∷◌, map, length, Some, None, Ok, Err, Option, Result, sym, refl, ap, ◌∙◌, subst, inl, inr, ⊎_elim, arith}
use Rattle.std.specs.Result.{result_map_both}
use Rattle.std.specs.List.{AllByRecursion}
use Rattle.std.proofs.ByRecursion.{all-has}
use Rattle.std.proofs.lemmas.Bool.{and_parts, and_from, leb-true, le-leb, false≢true}
use Rattle.lists.specs.declared.parts.Form.{Form}
use Rattle.lists.specs.declared.parts.Head.{Head}
use Rattle.lists.specs.declared.refusal.Refusal.{Refusal}
use Rattle.lists.specs.declared.refusal.Refusal.TheVariants.{TextTooLong}
use Rattle.texts.specs.Texts.{readings, head_line, table_line}
use Rattle.texts.specs.Laws.{Unbroken}
use Rattle.texts.proofs.Spelt.{read_if_spelled, spelled_if_read}
use Rattle.lists.specs.Lines.{Sides, Declared, Answers, within, with_forms, judge_header, judge_table}
use Rattle.std.specs.List.{list_all}
use Rattle.lists.specs.Sides.{shaped, linear, left_shaped, right_shaped, once_each, bound, form_word}
use Rattle.lists.specs.Sound.{rising}
use Rattle.lists.specs.Acceptance.{Listed, short_enough, fault_in, unless_fault, with_header, with_table, accepted}
use Rattle.lists.specs.Spelling.{header_says, table_says, form_says, rules_say}
use Rattle.lists.specs.Laws.{Proper, LeftSide, RightSide, OncePlaced, FromLeft, AcceptedAreProper, ProperAreAccepted, Means}
use Rattle.texts.proofs.Answering.{err_not_ok, same_ok}
use Rattle.lists.proofs.Judging.{header_is, table_is}
use Rattle.lists.proofs.Keeping.{header_read, table_read, lines_read, lines_judged}
use Rattle.lists.proofs.Patterns.{head_says, head_fits, table_says_lem, table_fits}
use Rattle.lists.proofs.Rising.{forms_rise, rising_read, rise, risen, form_words}
use Rattle.lists.proofs.Ruled.{Sized, InWords, rules_said, said_rules}
use Rattle.lists.proofs.Faultless.{Faultless, no_fault, faultless}
use Rattle.lists.proofs.Accepting.{by_table}
use Rattle.std.proofs.ByRecursion.{All-weaker}
use Rattle.lists.proofs.Quantified.{all_if_every, every_if_all, all_by₂, all_by₃}
use Rattle.lists.proofs.Shaped.{left_side, left_shaped_lem, right_side, right_shaped_lem, arguments_small, rights_small}
use Rattle.lists.proofs.Placed.{placed_once, once_placed, bound_from_left, from_left_bound}
use Rattle.lists.proofs.Apart.{apart_if_none, none_if_apart, ruled_if, if_ruled}

-- the steps by which two texts were accepted
record Steps (header table : List ℕ) (l : Listed) : Type 0 where
  pub short : short_enough header table ≡ true
  pub declared : Declared
  pub head : judge_header (readings header) ≡ Ok declared
  pub lines : judge_table declared.head (readings table) ≡ Ok l.rules
  pub layer : l.layer ≡ declared.head.layer
  pub forms : l.forms ≡ declared.forms
  pub faults : fault_in l ≡ None

steps : (header table : List ℕ) (l : Listed) → accepted header table ≡ Ok l → Steps header table l
unfolding accepted
steps header table l e = by_short (short_enough header table) refl e
  where
    by_fault : (d : Declared) (rules : List Sides) → short_enough header table ≡ true → judge_header (readings header) ≡ Ok d → judge_table d.head (readings table) ≡ Ok rules → (m : Listed) → m ≡ record { layer = d.head.layer; forms = d.forms; rules = rules } → (o : Option Refusal) → fault_in m ≡ o → unless_fault m o ≡ Ok l → Steps header table l
    by_fault d rules s h t m is None f e =
        let same = sym (same_ok e) ∙ is in
        record { short = s; declared = d; head = h; lines = t ∙ ap (λ (x : Listed). Ok x.rules) (sym same); layer = ap (λ (x : Listed). x.layer) same; forms = ap (λ (x : Listed). x.forms) same; faults = ap fault_in (sym (same_ok e)) ∙ f }
    by_fault d rules s h t m is (Some x) f e = absurd (err_not_ok e)

    by_table_is : (d : Declared) → short_enough header table ≡ true → judge_header (readings header) ≡ Ok d → (r : Result (List Sides) Refusal) → judge_table d.head (readings table) ≡ r → with_table d r ≡ Ok l → Steps header table l
    by_table_is d s h (Ok rules) t e = by_fault d rules s h t (record { layer = d.head.layer; forms = d.forms; rules = rules }) refl _ refl e
    by_table_is d s h (Err x) t e = absurd (err_not_ok e)

    by_head : short_enough header table ≡ true → (r : Result Declared Refusal) → judge_header (readings header) ≡ r → with_header table r ≡ Ok l → Steps header table l
    by_head s (Ok d) h e = by_table_is d s h _ refl e
    by_head s (Err x) h e = absurd (err_not_ok e)

    by_short : (t : Bool) → short_enough header table ≡ t → ◌≡◌ {A = Result Listed Refusal} (elim t [ false ↦ Err TextTooLong | true ↦ with_header table (judge_header (readings header)) ]) (Ok l) → Steps header table l
    by_short true s e = by_head s _ refl e
    by_short false s e = absurd (err_not_ok e)

in_range : (n low high : ℕ) → within low high n ≡ true → (low ≤ n) × (n ≤ high)
in_range n low high e = let p = and_parts (leb low n) (leb n high) e in (leb-true low n p.0, leb-true n high p.1)

range : (n low high : ℕ) → low ≤ n → n ≤ high → within low high n ≡ true
range n low high a b = and_from (leb low n) (leb n high) (le-leb low n a) (le-leb n high b)

-- what the header of an accepted list says, and what the list keeps by it
record HeaderSaid (header : List ℕ) (l : Listed) : Type 0 where
  pub says : readings header ≡ header_says l
  pub layer : (1 ≤ l.layer) × (l.layer ≤ 6)
  pub form_count : (1 ≤ length l.forms) × (length l.forms ≤ 32)
  pub rule_count : (1 ≤ length l.rules) × (length l.rules ≤ 32)
  pub rising_forms : rising l.layer l.forms ≡ true

header_said : (header : List ℕ) (l : Listed) (h : Head) → judge_header (readings header) ≡ Ok (record { head = h; forms = l.forms }) → h.layer ≡ l.layer → h.rules ≡ length l.rules → HeaderSaid header l
header_said header l h e layer rules =
    let read = header_read (readings header) (record { head = h; forms = l.forms }) e in
    let head = head_says read.first h read.head in
    let lines = lines_read _ _ [] h.forms read.rest l.forms read.forms in
    let count = ap length lines.1 ∙ lines.2 in
    let are = forms_rise h.layer [] lines.0 read.rest lines.3 in
    record {
      says = read.lines ∙ (λ i. head.0 i ∷ (are.0 ∙ ap (map form_says) (sym lines.1)) i) ∙ (λ i. head_line (layer i ∷ sym count i ∷ rules i ∷ []) ∷ map form_says l.forms);
      layer = subst (λ n. (1 ≤ n) × (n ≤ 6)) layer (in_range h.layer 1 6 head.1.0);
      form_count = subst (λ n. (1 ≤ n) × (n ≤ 32)) (sym count) (in_range h.forms 1 32 head.1.1);
      rule_count = subst (λ n. (1 ≤ n) × (n ≤ 32)) rules (in_range h.rules 1 32 head.1.2);
      rising_forms = (λ i. rising (sym layer i) (lines.1 i)) ∙ are.1;
    }

-- what the table of an accepted list says
table_said_lem : (table : List ℕ) (l : Listed) (h : Head) → judge_table h (readings table) ≡ Ok l.rules → h.layer ≡ l.layer → (readings table ≡ table_says l) × AllByRecursion Sized l.rules × (h.rules ≡ length l.rules)
table_said_lem table l h e layer =
    let read = table_read h (readings table) l.rules e in
    let first = table_says_lem read.first h.layer h.rules read.head in
    let lines = lines_read _ _ [] h.rules read.rest l.rules read.rules_are in
    let count = sym (ap length lines.1 ∙ lines.2) in
    let are = rules_said [] lines.0 read.rest lines.3 in (
      read.lines ∙ (λ i. first i ∷ (are.0 ∙ ap (rules_say 0) (sym lines.1)) i) ∙ (λ i. table_line (layer i ∷ count i ∷ []) ∷ rules_say 0 l.rules),
      subst (AllByRecursion Sized) (sym lines.1) are.1,
      count,
    )

-- the tests of a rule's sides as statements
sides_proper : (k : ℕ) (forms : List Form) (s : Sides) → shaped k forms s ≡ true → LeftSide forms s.left × RightSide k s.right
sides_proper k forms s e =
    let p = and_parts (left_shaped forms s.left) (right_shaped k s.right) e in
    (left_side forms s.left p.0, right_side k s.right p.1)

variables_proper : (s : Sides) → linear s ≡ true → (OncePlaced s.left × OncePlaced s.right) × FromLeft s.left s.right
variables_proper s e =
    let p = and_parts (once_each s.left && once_each s.right) (list_all (bound s.left) s.right) e in
    let q = and_parts (once_each s.left) (once_each s.right) p.0 in
    ((placed_once s.left q.0, placed_once s.right q.1), bound_from_left s.left s.right p.1)

proper : (header : List ℕ) (l : Listed) → HeaderSaid header l → AllByRecursion Sized l.rules → Faultless l → Proper l
proper header l h sizes f =
    let sides = All-weaker _ _ (sides_proper l.layer l.forms) l.rules (all_if_every (shaped l.layer l.forms) l.rules f.shaped) in
    let variables = All-weaker _ _ variables_proper l.rules (all_if_every linear l.rules f.linear) in
    record {
      layer = h.layer;
      form_count = h.form_count;
      rule_count = h.rule_count;
      forms = rise l.layer 0 l.forms h.rising_forms;
      sizes = All-weaker _ _ (λ s p. (p.1, p.3)) l.rules sizes;
      lefts = All-weaker _ _ (λ s p. p.0) l.rules sides;
      rights = All-weaker _ _ (λ s p. p.1) l.rules sides;
      once = All-weaker _ _ (λ s p. p.0) l.rules variables;
      from_left = All-weaker _ _ (λ s p. p.1) l.rules variables;
      apart = apart_if_none l.rules f.apart;
      ruled = ruled_if l.forms l.rules f.ruled;
    }

-- what was accepted, by what its texts say
pub record Said (header table : List ℕ) (l : Listed) : Type 0 where
  pub short : short_enough header table ≡ true
  pub header_says_lem : readings header ≡ header_says l
  pub table_says_it : readings table ≡ table_says l
  pub is_proper : Proper l

pub said_if_accepted : (header table : List ℕ) (l : Listed) → accepted header table ≡ Ok l → Said header table l
said_if_accepted header table l e =
    let s = steps header table l e in
    let t = table_said_lem table l s.declared.head s.lines (sym s.layer) in
    let same : s.declared ≡ record { head = s.declared.head; forms = l.forms } = (λ i. record { head = s.declared.head; forms = sym s.forms i }) in
    let h = header_said header l s.declared.head (s.head ∙ ap (λ (x : Declared). Ok x) same) (sym s.layer) t.2 in
    record { short = s.short; header_says_lem = h.says; table_says_it = t.0; is_proper = proper header l h t.1 (no_fault l s.faults) }

-- a side in shape is not empty, and its words fit 32 bits
left_some : (forms : List Form) (left : List ℕ) → left_shaped forms left ≡ true → 1 ≤ length left
left_some forms [] e = absurd (false≢true e)
left_some forms (w ∷ ws) e = omega arith

right_some : (k : ℕ) (right : List ℕ) → right_shaped k right ≡ true → 1 ≤ length right
right_some k [] e = absurd (false≢true e)
right_some k (w ∷ ws) e = omega arith

left_small : (k : ℕ) (forms : List Form) (left : List ℕ) → k ≤ 6 → rising k forms ≡ true → LeftSide forms left → AllByRecursion (λ w. w < 4294967296) left
left_small k forms left small r s =
    let word = all-has (λ f. form_word f < 4294967296) forms s.0 (form_words k 0 forms small (rise k 0 forms r)) s.2 in
    subst (AllByRecursion (λ w. w < 4294967296)) (sym s.3) (word, arguments_small s.1 s.5)

-- the tests that a proper list passes
module _ (l : Listed) (p : Proper l) where
  rises : rising l.layer l.forms ≡ true
  rises = risen l.layer 0 l.forms p.forms

  lefts_shaped : AllByRecursion (λ s. left_shaped l.forms s.left ≡ true) l.rules
  lefts_shaped = All-weaker _ _ (λ s h. left_shaped_lem l.forms s.left h) l.rules p.lefts

  rights_shaped : AllByRecursion (λ s. right_shaped l.layer s.right ≡ true) l.rules
  rights_shaped = All-weaker _ _ (λ s h. right_shaped_lem l.layer s.right h) l.rules p.rights

  sized : AllByRecursion Sized l.rules
  sized = all_by₃ (λ s a b c. (left_some l.forms s.left a, c.0, right_some l.layer s.right b, c.1)) l.rules lefts_shaped rights_shaped p.sizes

  in_words : AllByRecursion InWords l.rules
  in_words = all_by₂ (λ s a b. (left_small l.layer l.forms s.left p.layer.1 rises a, rights_small l.layer s.right b.4)) l.rules p.lefts p.rights

  tests : Faultless l
  tests = record {
    shaped = every_if_all (shaped l.layer l.forms) l.rules (all_by₂ (λ s a b. and_from _ _ a b) l.rules lefts_shaped rights_shaped);
    linear = every_if_all linear l.rules (all_by₂ (λ s a b. and_from _ _ (and_from _ _ (once_placed s.left a.0) (once_placed s.right a.1)) (from_left_bound s.left s.right b)) l.rules p.once p.from_left);
    apart = none_if_apart l.rules p.apart;
    ruled = if_ruled l.forms l.rules p.ruled;
  }

  first : Head
  first = record { layer = l.layer; forms = length l.forms; rules = length l.rules }

  header_judged : (header : List ℕ) → readings header ≡ header_says l → judge_header (readings header) ≡ Ok (record { head = first; forms = l.forms })
  unfolding first
  header_judged header says =
      header_is (readings header) _ _ says first (head_fits first (range l.layer 1 6 p.layer.0 p.layer.1, range (length l.forms) 1 32 p.form_count.0 p.form_count.1, range (length l.rules) 1 32 p.rule_count.0 p.rule_count.1))
      ∙ ap (with_forms first) (lines_judged _ _ [] l.forms (map form_says l.forms) (length l.forms) refl (rising_read l.layer [] l.forms rises))

  table_judged : (table : List ℕ) → readings table ≡ table_says l → judge_table first (readings table) ≡ Ok l.rules
  unfolding first
  table_judged table says =
      table_is first (readings table) _ _ says l.layer (length l.rules) (table_fits l.layer (length l.rules) (range l.layer 1 6 p.layer.0 p.layer.1) (range (length l.rules) 1 32 p.rule_count.0 p.rule_count.1)) refl refl
      ∙ lines_judged _ _ [] l.rules (rules_say 0 l.rules) (length l.rules) refl (said_rules [] l.rules sized in_words)

pub accepted_if_said : (header table : List ℕ) (l : Listed) → Said header table l → accepted header table ≡ Ok l
unfolding first
accepted_if_said header table l s =
    let p = s.is_proper in
    by_table header table (record { head = first l p; forms = l.forms }) l.rules s.short (header_judged l p header s.header_says_lem) (table_judged l p table s.table_says_it)
    ∙ ap (unless_fault l) (faultless l (tests l p))

-- the lines that a list says are not broken
forms_unbroken : (forms : List Form) → AllByRecursion Unbroken (map form_says forms)
forms_unbroken [] = tt
forms_unbroken (f ∷ fs) = (tt, forms_unbroken fs)

rules_unbroken : (i : ℕ) (rules : List Sides) → AllByRecursion Unbroken (rules_say i rules)
rules_unbroken i [] = tt
rules_unbroken i (s ∷ ss) = (tt, rules_unbroken (suc i) ss)

pub accepted_are_proper : AcceptedAreProper
accepted_are_proper header table l e =
    let s = said_if_accepted header table l e in
    let short = and_parts (leb (length header) 16384) (leb (length table) 16384) s.short in (
      record {
        header_short = leb-true (length header) 16384 short.0;
        table_short = leb-true (length table) 16384 short.1;
        header_spelled = spelled_if_read (header_says l) header (tt, forms_unbroken l.forms) s.header_says_lem;
        table_spelled = spelled_if_read (table_says l) table (tt, rules_unbroken 0 l.rules) s.table_says_it;
      },
      s.is_proper,
    )

pub proper_are_accepted : ProperAreAccepted
proper_are_accepted header table l s p =
    accepted_if_said header table l (record {
      short = and_from (leb (length header) 16384) (leb (length table) 16384) (le-leb (length header) 16384 s.header_short) (le-leb (length table) 16384 s.table_short);
      header_says_lem = read_if_spelled (header_says l) header s.header_spelled;
      table_says_it = read_if_spelled (table_says l) table s.table_spelled;
      is_proper = p;
    })

-- what an answer means, from the answer that the rules give
pub answer_means : {X : Type 0} (model : X → Listed) (header table : List ℕ) (r : Result X Refusal) → Answers model (accepted header table) r → Means header table (result_map_both model (λ e. e) r)
answer_means model header table (Ok x) e = accepted_are_proper header table (model x) e
answer_means model header table (Err e) why = ⊎_elim inl (λ is. inr (λ l s p. err_not_ok (sym is ∙ proper_are_accepted header table l s p))) why
