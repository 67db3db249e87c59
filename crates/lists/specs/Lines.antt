-- The lines of a header and of a table: their patterns and ranges, and the order in which they are judged.
use Rattle.std.specs.Prelude.{◌≡◌, ℕ, zero, suc, ◌+◌, ◌*◌, true, false, cond, ◌&&◌, ◌⊎◌, List, [], ◌∷◌, ◌++◌, map, length, take, drop, Some, None, Ok, Err, vec_items, Option, Result, Vec, MatchResult, ◌==◌, nat_le, nat_lt}
use Rattle.std.specs.Borrow.{Bor}
use Rattle.std.specs.declared.alloc.Global.{Global}
pub use Rattle.lists.specs.Layers.{within, owned}
use Rattle.lists.specs.declared.parts.Form.{Form}
use Rattle.lists.specs.declared.parts.Head.{Head}
use Rattle.lists.specs.declared.parts.Header.{Header}
use Rattle.lists.specs.declared.parts.Rule.{Rule}
use Rattle.lists.specs.declared.refusal.Place.{Place}
use Rattle.lists.specs.declared.refusal.Place.TheVariants as place
use Rattle.lists.specs.declared.refusal.Refusal.{Refusal}
use Rattle.lists.specs.declared.refusal.Refusal.TheVariants.{LineBroken, LineMissing, LineExtra, TableDiffers, NoMemory}
use Rattle.texts.specs.declared.text.Word.{Word}
use Rattle.texts.specs.declared.text.Word.TheVariants as word
use Rattle.terms.specs.Words.{is_layer, word as word_with}
use Rattle.texts.specs.Texts.{Reading, head_line, form_line, table_line, rule_line, broken_line}

-- the numbers of a line that begins with the word
abbrev pub numbers_of : Word → Reading → Option (List ℕ)
numbers_of word.Head r = elim r [ head_line ns ↦ Some ns | form_line ns ↦ None | table_line ns ↦ None | rule_line ns ↦ None | broken_line ↦ None ]
numbers_of word.Form r = elim r [ head_line ns ↦ None | form_line ns ↦ Some ns | table_line ns ↦ None | rule_line ns ↦ None | broken_line ↦ None ]
numbers_of word.Table r = elim r [ head_line ns ↦ None | form_line ns ↦ None | table_line ns ↦ Some ns | rule_line ns ↦ None | broken_line ↦ None ]
numbers_of word.Rule r = elim r [ head_line ns ↦ None | form_line ns ↦ None | table_line ns ↦ None | rule_line ns ↦ Some ns | broken_line ↦ None ]

abbrev pub and_then : {X Y : Type 0} → Option X → (X → Option Y) → Option Y
and_then None f = None
and_then (Some x) f = f x

-- head,K,F,R: the layer 1 to 6, the forms and the rules 1 to 32
abbrev pub head_of : List ℕ → Option Head
head_of [] = None
head_of (k ∷ []) = None
head_of (k ∷ f ∷ []) = None
head_of (k ∷ f ∷ r ∷ []) = cond (is_layer k && within 1 32 f && within 1 32 r) (Some (record { layer = k; forms = f; rules = r })) None
head_of (k ∷ f ∷ r ∷ n ∷ ns) = None

abbrev pub head_of_line : Reading → Option Head
head_of_line r = and_then (numbers_of word.Head r) head_of

-- the label of the last form, or the one before if there is none
abbrev pub last_from : ℕ → List Form → ℕ
last_from before [] = before
last_from before (f ∷ fs) = last_from f.label fs

abbrev pub last_label : List Form → ℕ
last_label forms = last_from 0 forms

-- form,LABEL,COUNT: a label that layer k owns, higher than the one before, and 0 to 8 children
abbrev pub form_of : ℕ → ℕ → List ℕ → Option Form
form_of k before [] = None
form_of k before (l ∷ []) = None
form_of k before (l ∷ c ∷ []) = cond (owned k l && nat_lt before l && nat_le c 8) (Some (record { label = l; count = c })) None
form_of k before (l ∷ c ∷ n ∷ ns) = None

abbrev pub form_of_line : ℕ → ℕ → Reading → Option Form
form_of_line k before r = and_then (numbers_of word.Form r) (form_of k before)

-- table,K,R: in the same ranges as in the header
abbrev pub table_of : List ℕ → Option (ℕ × ℕ)
table_of [] = None
table_of (k ∷ []) = None
table_of (k ∷ r ∷ []) = cond (is_layer k && within 1 32 r) (Some (k, r)) None
table_of (k ∷ r ∷ n ∷ ns) = None

abbrev pub table_of_line : Reading → Option (ℕ × ℕ)
table_of_line r = and_then (numbers_of word.Table r) table_of

-- the two sides of a rule, as words
pub record Sides : Type 0 where
  pub left : List ℕ
  pub right : List ℕ

-- a word of two fields: a label, 0 to 255, and a payload, 0 to 16,777,215
abbrev pub word_at : ℕ → ℕ → Option ℕ
word_at l p = cond (nat_le l 255 && nat_le p 16777215) (Some (word_with l p)) None

unfoldable pub words_of : List ℕ → Option (List ℕ)
words_of [] = Some []
words_of (l ∷ []) = None
words_of (l ∷ p ∷ ns) = and_then (word_at l p) (λ w. and_then (words_of ns) (λ ws. Some (w ∷ ws)))

abbrev pub sides_from : Option (List ℕ) → Option (List ℕ) → Option Sides
sides_from None r = None
sides_from (Some l) None = None
sides_from (Some l) (Some r) = Some (record { left = l; right = r })

-- rule,NO,A,B and A + B words of two fields: NO is the expected number k, A 1 to 9, B 1 to 64; the A words are the left side
abbrev pub rule_of : ℕ → List ℕ → Option Sides
rule_of k [] = None
rule_of k (n ∷ []) = None
rule_of k (n ∷ a ∷ []) = None
rule_of k (n ∷ a ∷ b ∷ ns) = cond (n == k && within 1 9 a && within 1 64 b && length ns == 2 * (a + b)) (sides_from (words_of (take (2 * a) ns)) (words_of (drop (2 * a) ns))) None

-- the fields of the two sides, if the numbers before them are in their ranges
abbrev pub FieldsOf : ℕ → List ℕ → Option (Bor (List ℕ) × Bor (List ℕ)) → Type 0
FieldsOf k ns None = rule_of k ns ≡ None
FieldsOf k ns (Some p) = rule_of k ns ≡ sides_from (words_of p.0.now) (words_of p.1.now)

abbrev pub rule_of_line : ℕ → Reading → Option Sides
rule_of_line k r = and_then (numbers_of word.Rule r) (rule_of k)

-- the lines behind a text's first: n more behind those in `read`, each read by what stands before it, and no line behind them
module _ {X : Type 0} (at : ℕ → Place) (reads : List X → Reading → Option X) where
  unfoldable pub judge_lines : List X → ℕ → List Reading → Result (List X) Refusal
  judge_lines read zero [] = Ok read
  judge_lines read zero (r ∷ rs) = Err (LineExtra (at (length read)))
  judge_lines read (suc n) [] = Err (LineMissing (at (length read)))
  judge_lines read (suc n) (r ∷ rs) = elim (reads read r) [ None ↦ Err (LineBroken (at (length read))) | Some x ↦ judge_lines (read ++ x ∷ []) n rs ]

abbrev pub judge_forms : ℕ → List Form → ℕ → List Reading → Result (List Form) Refusal
judge_forms k = judge_lines (λ i. place.Form i) (λ read. form_of_line k (last_label read))

abbrev pub judge_rules : List Sides → ℕ → List Reading → Result (List Sides) Refusal
judge_rules = judge_lines (λ i. place.Rule i) (λ read. rule_of_line (length read))

-- what a header declares
pub record Declared : Type 0 where
  pub head : Head
  pub forms : List Form

abbrev pub with_forms : Head → Result (List Form) Refusal → Result Declared Refusal
with_forms h (Ok fs) = Ok (record { head = h; forms = fs })
with_forms h (Err e) = Err e

-- a header's lines
unfoldable pub judge_header : List Reading → Result Declared Refusal
judge_header [] = Err (LineMissing place.Head)
judge_header (r ∷ rs) = elim (head_of_line r) [ None ↦ Err (LineBroken place.Head) | Some h ↦ with_forms h (judge_forms h.layer [] h.forms rs) ]

-- a table's lines, behind a header with this first line
unfoldable pub judge_table : Head → List Reading → Result (List Sides) Refusal
judge_table h [] = Err (LineMissing place.Table)
judge_table h (r ∷ rs) =
    elim (table_of_line r) [
      | None ↦ Err (LineBroken place.Table)
      | Some t ↦ elim (t.0 == h.layer && t.1 == h.rules) [ false ↦ Err TableDiffers | true ↦ judge_rules [] h.rules rs ]
    ]

-- a call that reads: its answer is the one that the rules give, or there was no memory
abbrev pub Answers : {X Y : Type 0} → (X → Y) → Result Y Refusal → Result X Refusal → Type 0
Answers model s r = MatchResult r (λ x. s ≡ Ok (model x)) (λ e. (e ≡ NoMemory) ⊎ (s ≡ Err e))

abbrev pub declared_by : Header → Declared
declared_by h = record { head = h.head; forms = vec_items h.forms }

abbrev pub sides_of : Rule → Sides
sides_of r = record { left = vec_items r.left; right = vec_items r.right }

abbrev pub all_sides : Vec Rule Global → List Sides
all_sides v = map sides_of (vec_items v)
