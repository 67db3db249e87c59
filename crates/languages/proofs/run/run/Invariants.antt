use Rattle.std.proofs.Common.{◌≡◌, ◌+◌, ◌≤◌, vec_items, vec_len, vec_capacity}
use Rattle.std.specs.Vec.Iter.{into_iter_items, into_iter_len}
use Rattle.languages.proofs.Running.{Going}
use Rattle.languages.proofs.run.run.Given as goal

-- The calls so far are made, the meaning stays, and there is room for the answers of the calls that are left.
abbrev pub invariant-loop-call : goal.invariant-loop-call
invariant-loop-call g l =
    Going (g.L.Language.meaning l.initial.language) (g.L.Language.held l.initial.language) (g.L.Language.held l.language) (into_iter_items l.initial.call-iterator) (into_iter_items l.call-iterator) (vec_items l.answers) ×
    (g.L.Language.meaning l.language ≡ g.L.Language.meaning l.initial.language) ×
    (vec_len l.answers + into_iter_len l.call-iterator ≤ vec_capacity l.answers)
