-- One line: its bytes before the line end say a reading exactly when they and byte 10 spell it.
use Rattle.std.proofs.Common.{◌≡◌, ℕ, List, [], ◌∷◌, ◌++◌, Some, None, codes, Option, refl, ap, ◌∙◌, arith}
use Rattle.std.proofs.ByRecursion.{All-append}
use Rattle.texts.specs.Texts.{Reading, head_line, form_line, table_line, rule_line, broken_line, behind, said, numbered, numbers, pieces}
use Rattle.texts.specs.Spelling.{FieldsSpelled, LineWith, LineSpelled}
use Rattle.texts.proofs.Firsts.{behind_some}
use Rattle.texts.proofs.Parted.{Without}
use Rattle.texts.proofs.Fielded.{fields_read, fields_spelled, fields_unended}

-- a line's bytes before byte 10, which is not among them, and what they say
abbrev pub Spoken : Reading → List ℕ → Type 0
Spoken r line = (bytes : List ℕ) × (line ≡ bytes ++ 10 ∷ []) × Without 10 bytes × (said bytes ≡ r)

numbered_is : (kind : List ℕ → Reading) (ns fields : List ℕ) → FieldsSpelled ns fields → numbered kind fields ≡ kind ns
unfolding numbered
numbered_is kind ns fields s = rw (fields_read ns fields s, numbered)

spoken_by : (word : List ℕ) (kind : List ℕ → Reading) → Without 10 word → ((fields : List ℕ) → said (word ++ fields) ≡ numbered kind fields) → (ns line : List ℕ) → LineWith word ns line → Spoken (kind ns) line
spoken_by word kind none says ns line s =
    (word ++ s.0, s.1, All-append (λ b. b ≡ 10 → ⊥) word s.0 none (fields_unended ns s.0 s.2), says s.0 ∙ numbered_is kind ns s.0 s.2)

head_says : (fields : List ℕ) → said (codes "head," ++ fields) ≡ numbered head_line fields
unfolding said behind
head_says fields = refl

form_says_lem : (fields : List ℕ) → said (codes "form," ++ fields) ≡ numbered form_line fields
unfolding said behind
form_says_lem fields = refl

table_says_lem : (fields : List ℕ) → said (codes "table," ++ fields) ≡ numbered table_line fields
unfolding said behind
table_says_lem fields = refl

rule_says_lem : (fields : List ℕ) → said (codes "rule," ++ fields) ≡ numbered rule_line fields
unfolding said behind
rule_says_lem fields = refl

-- a line that spells a reading says it
pub line_said : (r : Reading) (line : List ℕ) → LineSpelled r line → Spoken r line
line_said (head_line ns) line s = spoken_by (codes "head,") head_line (omega arith) head_says ns line s
line_said (form_line ns) line s = spoken_by (codes "form,") form_line (omega arith) form_says_lem ns line s
line_said (table_line ns) line s = spoken_by (codes "table,") table_line (omega arith) table_says_lem ns line s
line_said (rule_line ns) line s = spoken_by (codes "rule,") rule_line (omega arith) rule_says_lem ns line s
line_said broken_line line s = absurd s

-- the bytes behind a word say a reading that is not broken
module _ (bytes : List ℕ) (r : Reading) (unbroken : broken_line ≡ r → ⊥) where
  abbrev Spells : Type 0
  Spells = LineSpelled r (bytes ++ 10 ∷ [])

  worded : (word : List ℕ) (kind : List ℕ → Reading) → ((ns line : List ℕ) → LineWith word ns line → LineSpelled (kind ns) line) → (fields : List ℕ) → behind word bytes ≡ Some fields → numbered kind fields ≡ r → Spells
  unfolding numbered
  worded word kind spells fields e is = by (numbers (pieces 44 fields)) refl is
    where
      by : (o : Option (List ℕ)) → numbers (pieces 44 fields) ≡ o → elim o [ None ↦ broken_line | Some ns ↦ kind ns ] ≡ r → Spells
      by None o is = absurd (unbroken is)
      by (Some ns) o is = rw (← is) (spells ns (bytes ++ 10 ∷ []) (fields, ap (λ l. l ++ 10 ∷ []) (behind_some word bytes fields e), fields_spelled ns fields o))

  -- bytes that say it, and byte 10, spell it
  pub line_spelled : said bytes ≡ r → Spells
  unfolding said
  line_spelled is = by (behind (codes "head,") bytes) (behind (codes "form,") bytes) (behind (codes "table,") bytes) (behind (codes "rule,") bytes) refl refl refl refl is
    where
      by : (h f t s : Option (List ℕ)) → behind (codes "head,") bytes ≡ h → behind (codes "form,") bytes ≡ f → behind (codes "table,") bytes ≡ t → behind (codes "rule,") bytes ≡ s → elim h [ Some fields ↦ numbered head_line fields | None ↦ elim f [ Some fields ↦ numbered form_line fields | None ↦ elim t [ Some fields ↦ numbered table_line fields | None ↦ elim s [ Some fields ↦ numbered rule_line fields | None ↦ broken_line ] ] ] ] ≡ r → Spells
      by (Some fields) f t s eh ef et es is = worded (codes "head,") head_line (λ ns line l. l) fields eh is
      by None (Some fields) t s eh ef et es is = worded (codes "form,") form_line (λ ns line l. l) fields ef is
      by None None (Some fields) s eh ef et es is = worded (codes "table,") table_line (λ ns line l. l) fields et is
      by None None None (Some fields) eh ef et es is = worded (codes "rule,") rule_line (λ ns line l. l) fields es is
      by None None None None eh ef et es is = absurd (unbroken is)
