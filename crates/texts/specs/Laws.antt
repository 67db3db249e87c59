-- What reading a text means, in the words of the subject.
use Rattle.std.specs.Prelude.{◌≡◌, ℕ, List}
use Rattle.std.specs.List.{AllByRecursion}
use Rattle.texts.specs.Texts.{Reading, head_line, form_line, table_line, rule_line, broken_line, readings}
use Rattle.texts.specs.Spelling.{TextSpelled}

-- a line that says something
abbrev pub Unbroken : Reading → Type 0
Unbroken (head_line ns) = Unit {0}
Unbroken (form_line ns) = Unit {0}
Unbroken (table_line ns) = Unit {0}
Unbroken (rule_line ns) = Unit {0}
Unbroken broken_line = ⊥

-- unbroken lines are read from a text exactly when the text spells them, one behind the other and nothing else
abbrev pub LinesAreSpelled : Type 0
LinesAreSpelled = (text : List ℕ) (rs : List Reading) → AllByRecursion Unbroken rs → (readings text ≡ rs → TextSpelled rs text) × (TextSpelled rs text → readings text ≡ rs)
