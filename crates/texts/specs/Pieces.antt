-- The first piece of a text, and what is behind it.
use Rattle.std.specs.Prelude.{◌≡◌, ℕ, List, [], ◌∷◌, ◌++◌, Some, None, codes, Option, ◌≢◌}
use Rattle.std.specs.Option.{MatchOption, is_some}
use Rattle.texts.specs.declared.text.Piece.{Piece}
use Rattle.texts.specs.Texts.{Reading, pieces, numbered, reading, readings, head_line, form_line, table_line, rule_line, broken_line}
use Rattle.texts.specs.declared.text.Line.{Line}
use Rattle.texts.specs.declared.text.Line.TheVariants as line
use Rattle.texts.specs.declared.text.Word.{Word}
use Rattle.texts.specs.declared.text.Word.TheVariants.{Head, Form, Table, Rule}

-- p is the text's first piece; the others are the pieces of what stands behind it, if a separator ended the first, else there are none
pub record FirstPiece (sep : ℕ) (text : List ℕ) (p : Piece) : Type 0 where
  pub pieces_are : MatchOption p.behind (pieces sep text ≡ p.bytes.now ∷ []) (λ rest. pieces sep text ≡ p.bytes.now ∷ pieces sep rest.now)
  pub stretch : MatchOption p.behind (text ≡ p.bytes.now) (λ rest. text ≡ p.bytes.now ++ sep ∷ rest.now)

-- what the line that a piece is says
abbrev pub line_says : Piece → Reading
line_says p = reading (record { bytes = p.bytes.now; ended = is_some p.behind })

-- the text behind a piece: nothing where the text ends
abbrev pub rest_of : Piece → List ℕ
rest_of p = elim p.behind [ None ↦ [] | Some rest ↦ rest.now ]

-- p is the text's next line, a stretch of the text, with the text's other lines behind it; none at the text's end
abbrev pub NextLine : List ℕ → Option Piece → Type 0
NextLine text None = readings text ≡ []
NextLine text (Some p) = (readings text ≡ line_says p ∷ readings (rest_of p)) × MatchOption p.behind (text ≡ p.bytes.now) (λ rest. text ≡ p.bytes.now ++ 10 ∷ rest.now)

-- which word five bytes begin with: none is the other case
abbrev pub Begins : List ℕ → Option Word → Type 0
Begins bytes None = (bytes ≢ codes "head,") × (bytes ≢ codes "form,") × (bytes ≢ codes "table") × (bytes ≢ codes "rule,")
Begins bytes (Some Head) = bytes ≡ codes "head,"
Begins bytes (Some Form) = bytes ≡ codes "form,"
Begins bytes (Some Rule) = bytes ≡ codes "rule,"
Begins bytes (Some Table) = bytes ≡ codes "table"

-- what a line with this first word and these fields says
abbrev pub line_means : Option Line → Reading
line_means None = broken_line
line_means (Some (line.Head fields)) = numbered head_line fields.now
line_means (Some (line.Form fields)) = numbered form_line fields.now
line_means (Some (line.Table fields)) = numbered table_line fields.now
line_means (Some (line.Rule fields)) = numbered rule_line fields.now

abbrev pub fields_if : Word → Line → Option (List ℕ)
fields_if Head l = elim l [ line.Head f ↦ Some f.now | line.Form f ↦ None | line.Table f ↦ None | line.Rule f ↦ None ]
fields_if Form l = elim l [ line.Head f ↦ None | line.Form f ↦ Some f.now | line.Table f ↦ None | line.Rule f ↦ None ]
fields_if Table l = elim l [ line.Head f ↦ None | line.Form f ↦ None | line.Table f ↦ Some f.now | line.Rule f ↦ None ]
fields_if Rule l = elim l [ line.Head f ↦ None | line.Form f ↦ None | line.Table f ↦ None | line.Rule f ↦ Some f.now ]

-- the fields of a line that begins with the word
abbrev pub fields_of : Word → Option Line → Option (List ℕ)
fields_of w None = None
fields_of w (Some l) = fields_if w l
