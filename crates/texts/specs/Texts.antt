-- A text as lines and fields: where they are cut, what a number field is worth, and what a line says.
use Rattle.std.specs.Prelude.{ℕ, Bool, true, false, cond, List, [], ◌∷◌, map, length, Some, None, codes, Option, ◌==◌, nat_le}
use Rattle.std.specs.List.{slice_split}
use Rattle.texts.specs.Numbers.{digits_of, number_of}
use Rattle.texts.specs.declared.text.Separator.{Separator}
use Rattle.texts.specs.declared.text.Separator.TheVariants.{LineEnd, Comma}

-- the bytes that part lines and fields
abbrev pub byte_of : Separator → ℕ
byte_of LineEnd = 10
byte_of Comma = 44

-- the pieces of a text that stand between separators: one more than it has separators
unfoldable pub pieces : ℕ → List ℕ → List (List ℕ)
pieces sep text = slice_split (λ b. b == sep) text

-- a line's bytes, and whether byte 10 ends it
pub record TextLine : Type 0 where
  pub bytes : List ℕ
  pub ended : Bool

-- byte 10 stands behind every piece but the last; an empty last piece is no line
unfoldable pub lines_of : List (List ℕ) → List TextLine
lines_of [] = []
lines_of ([] ∷ []) = []
lines_of ((b ∷ bs) ∷ []) = record { bytes = b ∷ bs; ended = false } ∷ []
lines_of (p ∷ q ∷ ps) = record { bytes = p; ended = true } ∷ lines_of (q ∷ ps)

unfoldable pub lines : List ℕ → List TextLine
unfolding lines_of pieces
lines text = lines_of (pieces 10 text)

-- a number field: 1 to 8 digits, with a value up to 16,777,215
unfoldable pub number : List ℕ → Option ℕ
unfolding digits_of
number field = cond (nat_le (length field) 8) (number_of 16777215 field) None

-- the numbers of fields that are all number fields
unfoldable pub numbers : List (List ℕ) → Option (List ℕ)
unfolding number
numbers [] = Some []
numbers (f ∷ fs) = elim (number f) [ None ↦ None | Some n ↦ elim (numbers fs) [ None ↦ None | Some ns ↦ Some (n ∷ ns) ] ]

-- what follows the front, if the bytes begin with it
unfoldable pub behind : List ℕ → List ℕ → Option (List ℕ)
behind [] bs = Some bs
behind (f ∷ fs) [] = None
behind (f ∷ fs) (b ∷ bs) = elim (f == b) [ true ↦ behind fs bs | false ↦ None ]

-- what a line says: which word its first field is, and the numbers of the others
pub data Reading : Type 0 where
  head_line form_line table_line rule_line : List ℕ → Reading
  broken_line : Reading

-- a line of the kind with these fields, if all are number fields
unfoldable pub numbered : (List ℕ → Reading) → List ℕ → Reading
unfolding numbers pieces
numbered kind fields = elim (numbers (pieces 44 fields)) [ None ↦ broken_line | Some ns ↦ kind ns ]

unfoldable pub said : List ℕ → Reading
unfolding behind numbered
said bs =
    elim (behind (codes "head,") bs) [
      | Some fields ↦ numbered head_line fields
      | None ↦ elim (behind (codes "form,") bs) [
        | Some fields ↦ numbered form_line fields
        | None ↦ elim (behind (codes "table,") bs) [
          | Some fields ↦ numbered table_line fields
          | None ↦ elim (behind (codes "rule,") bs) [
            | Some fields ↦ numbered rule_line fields
            | None ↦ broken_line
          ]
        ]
      ]
    ]

-- a line without byte 10 at its end is broken
abbrev pub reading : TextLine → Reading
reading l = elim l.ended [ true ↦ said l.bytes | false ↦ broken_line ]

-- a text, line by line
unfoldable pub readings : List ℕ → List Reading
unfolding lines
readings text = map reading (lines text)
