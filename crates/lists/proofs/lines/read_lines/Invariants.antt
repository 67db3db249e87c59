use Rattle.std.proofs.Common.{◌≡◌, ◌-◌, [], map, length, vec_items}
use Rattle.texts.specs.Texts.{readings}
use Rattle.lists.specs.Lines.{judge_lines}
use Rattle.lists.proofs.lines.read_lines.Given as goal

abbrev pub invariant-loop-i : goal.invariant-loop-i
invariant-loop-i g l =
    (length (map g.T.Entry.meant (vec_items l.entries)) ≡ l.i)
    × (judge_lines g.T.Entry.line_at (g.T.Entry.reads l.layer) (map g.T.Entry.meant (vec_items l.entries)) (l.count - l.i) (readings l.rest)
    ≡ judge_lines g.T.Entry.line_at (g.T.Entry.reads l.layer) [] l.count (readings l.text))
