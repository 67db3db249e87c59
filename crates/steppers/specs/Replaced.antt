-- The words of a term with one of its nodes replaced.
use Rattle.std.specs.Prelude.{ℕ, List}
use Rattle.steppers.specs.declared.replacement.Replacement.{Replacement}
use Rattle.steppers.specs.Written.{spliced}

abbrev pub words_after : Replacement → List ℕ
words_after r = spliced r.front.now r.node.now r.by r.behind.now
