-- Acceptance, from the header to the list.
use Rattle.std.proofs.Common.{◌≡◌, ℕ, ◌≤◌, true, false, ◌&&◌, leb, List, [], map, length, Ok, Err, Option, sym, ap, ◌∙◌, arith}
use Rattle.std.proofs.lemmas.List.{length-map}
use Rattle.std.proofs.lemmas.Bool.{and_parts, leb-true}
use Rattle.terms.specs.Words.{is_layer}
use Rattle.lists.specs.declared.parts.Form.{Form}
use Rattle.lists.specs.declared.parts.Head.{Head}
use Rattle.lists.specs.declared.parts.Rule.{Rule}
use Rattle.lists.specs.declared.refusal.Refusal.{Refusal}
use Rattle.lists.specs.declared.refusal.Refusal.TheVariants.{TextTooLong}
use Rattle.texts.specs.Texts.{Reading, readings}
use Rattle.lists.specs.Lines.{Sides, Declared, sides_of, judge_header, judge_table}
use Rattle.lists.specs.Sound.{rising}
use Rattle.lists.specs.Acceptance.{short_enough, accepted, with_header, with_table, unless_fault, fault_in}
use Rattle.lists.proofs.Keeping.{header_read, table_read, lines_read}
use Rattle.lists.proofs.Patterns.{head_says}
use Rattle.lists.proofs.Rising.{forms_rise}

module _ (header table : List ℕ) where
  pub too_long : short_enough header table ≡ false → accepted header table ≡ Err TextTooLong
  unfolding accepted
  too_long e = rw (e, accepted)

  pub by_header : short_enough header table ≡ true → accepted header table ≡ with_header table (judge_header (readings header))
  unfolding accepted
  by_header e = rw (e, accepted)

  pub by_table : (d : Declared) (rules : List Sides) → short_enough header table ≡ true → judge_header (readings header) ≡ Ok d → judge_table d.head (readings table) ≡ Ok rules → accepted header table ≡ unless_fault (record { layer = d.head.layer; forms = d.forms; rules = rules }) (fault_in (record { layer = d.head.layer; forms = d.forms; rules = rules }))
  by_table d rules e head lines = by_header e ∙ ap (with_header table) head ∙ ap (with_table d) lines

-- the fault of a list that was looked at as slices
pub same_fault : (k : ℕ) (forms fs : List Form) (rules rs : List Rule) (o : Option Refusal) → fs ≡ forms → rs ≡ rules → o ≡ fault_in (record { layer = k; forms = fs; rules = map sides_of rs }) → fault_in (record { layer = k; forms = forms; rules = map sides_of rules }) ≡ o
same_fault k forms fs rules rs o f r e = sym (e ∙ (λ i. fault_in (record { layer = k; forms = f i; rules = map sides_of (r i) })))

-- what a header in order keeps
pub record HeaderKeeps (d : Declared) : Type 0 where
  pub layer : is_layer d.head.layer ≡ true
  pub few_forms : length d.forms ≡ d.head.forms
  pub forms_most : d.head.forms ≤ 32
  pub rules_most : d.head.rules ≤ 32
  pub rising_forms : rising d.head.layer d.forms ≡ true

most : (n low high : ℕ) → (leb low n && leb n high) ≡ true → n ≤ high
most n low high e = leb-true n high (and_parts _ _ e).1

pub header_keeps : (rs : List Reading) (d : Declared) → judge_header rs ≡ Ok d → HeaderKeeps d
header_keeps rs d e =
    let read = header_read rs d e in
    let head = head_says read.first d.head read.head in
    let lines = lines_read _ _ [] d.head.forms read.rest d.forms read.forms in
    let rise = forms_rise d.head.layer [] lines.0 read.rest lines.3 in
    record {
      layer = head.1.0;
      few_forms = ap length lines.1 ∙ lines.2;
      forms_most = most _ 1 32 head.1.1;
      rules_most = most _ 1 32 head.1.2;
      rising_forms = ap (rising d.head.layer) lines.1 ∙ rise.1;
    }

pub table_count : (h : Head) (rs : List Reading) (rules : List Sides) → judge_table h rs ≡ Ok rules → length rules ≡ h.rules
table_count h rs rules e =
    let read = table_read h rs rules e in
    let lines = lines_read _ _ [] h.rules read.rest rules read.rules_are in
    ap length lines.1 ∙ lines.2

-- the numbers within which the faults of a list are looked for
pub few_parts : (hs ts : List Reading) (d : Declared) (rules rs : List Rule) (fs : List Form) → judge_header hs ≡ Ok d → judge_table d.head ts ≡ Ok (map sides_of rules) → fs ≡ d.forms → rs ≡ rules → (length fs ≤ 32) × (length rs ≤ 32)
few_parts hs ts d rules rs fs head lines forms same =
    let keeps = header_keeps hs d head in
    let count = sym (length-map rules sides_of) ∙ table_count d.head ts (map sides_of rules) lines in
    let fs_long = ap length forms ∙ keeps.few_forms in
    let rs_long = ap length same ∙ count in
    (omega (arith, keeps.forms_most, fs_long), omega (arith, keeps.rules_most, rs_long))
