-- What the lines of a list say.
use Rattle.std.specs.Prelude.{ℕ, suc, ◌/◌, ◌%◌, List, [], ◌∷◌, ◌++◌, map, length}
use Rattle.texts.specs.Texts.{Reading, head_line, form_line, table_line, rule_line}
use Rattle.lists.specs.declared.parts.Form.{Form}
use Rattle.lists.specs.Lines.{Sides}
use Rattle.lists.specs.Acceptance.{Listed}

-- form,LABEL,COUNT
abbrev pub form_says : Form → Reading
form_says f = form_line (f.label ∷ f.count ∷ [])

-- head,K,F,R, and a line for each form
abbrev pub header_says : Listed → List Reading
header_says l = head_line (l.layer ∷ length l.forms ∷ length l.rules ∷ []) ∷ map form_says l.forms

-- a word's two fields: its label and its payload
abbrev pub word_fields : List ℕ → List ℕ
word_fields [] = []
word_fields (w ∷ ws) = w / 16777216 ∷ w % 16777216 ∷ word_fields ws

-- rule,NO,A,B and the words of both sides
abbrev pub rule_says : ℕ → Sides → Reading
rule_says i s = rule_line (i ∷ length s.left ∷ length s.right ∷ (word_fields s.left ++ word_fields s.right))

-- a line for each rule, from rule i on
abbrev pub rules_say : ℕ → List Sides → List Reading
rules_say i [] = []
rules_say i (s ∷ ss) = rule_says i s ∷ rules_say (suc i) ss

-- table,K,R, and a line for each rule
abbrev pub table_says : Listed → List Reading
table_says l = table_line (l.layer ∷ length l.rules ∷ []) ∷ rules_say 0 l.rules
