-- How lines are spelled, byte by byte: the texts that say them.
use Rattle.std.specs.Prelude.{◌≡◌, ℕ, ◌+◌, ◌-◌, ◌*◌, ◌≤◌, List, [], ◌∷◌, ◌++◌, length, codes}
use Rattle.std.specs.List.{AllByRecursion}
use Rattle.texts.specs.Texts.{Reading, head_line, form_line, table_line, rule_line, broken_line}

-- the value of digits that stand behind digits of value v
abbrev pub value_from : ℕ → List ℕ → ℕ
value_from v [] = v
value_from v (b ∷ bs) = value_from (v * 10 + (b - 48)) bs

-- 1 to 8 digits, worth n, which is at most 16,777,215; digits may lead with zeros
pub record Digits (n : ℕ) (bs : List ℕ) : Type 0 where
  pub some : 1 ≤ length bs
  pub few : length bs ≤ 8
  pub digits : AllByRecursion (λ b. (48 ≤ b) × (b ≤ 57)) bs
  pub worth : value_from 0 bs ≡ n
  pub small : n ≤ 16777215

-- the numbers as fields with a comma between each two
abbrev pub FieldsSpelled : List ℕ → List ℕ → Type 0
FieldsSpelled [] bs = ⊥
FieldsSpelled (n ∷ []) bs = Digits n bs
FieldsSpelled (n ∷ m ∷ ns) bs = (field : List ℕ) × (rest : List ℕ) × Digits n field × (bs ≡ field ++ 44 ∷ rest) × FieldsSpelled (m ∷ ns) rest

-- a line: its word and a comma, its fields, and byte 10
abbrev pub LineWith : List ℕ → List ℕ → List ℕ → Type 0
LineWith word ns bs = (fields : List ℕ) × (bs ≡ word ++ fields ++ 10 ∷ []) × FieldsSpelled ns fields

abbrev pub LineSpelled : Reading → List ℕ → Type 0
LineSpelled (head_line ns) bs = LineWith (codes "head,") ns bs
LineSpelled (form_line ns) bs = LineWith (codes "form,") ns bs
LineSpelled (table_line ns) bs = LineWith (codes "table,") ns bs
LineSpelled (rule_line ns) bs = LineWith (codes "rule,") ns bs
LineSpelled broken_line bs = ⊥

-- a text: its lines one behind the other, and nothing else
abbrev pub TextSpelled : List Reading → List ℕ → Type 0
TextSpelled [] bs = bs ≡ []
TextSpelled (r ∷ rs) bs = (line : List ℕ) × (rest : List ℕ) × LineSpelled r line × (bs ≡ line ++ rest) × TextSpelled rs rest
