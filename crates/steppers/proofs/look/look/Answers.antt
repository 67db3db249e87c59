-- What is seen inside the marks, by `Insides`.
use Rattle.std.proofs.Common.{ap, ◌∙◌}
use Rattle.terms.specs.Words.{node_of}
use Rattle.steppers.specs.Placed.{seen_by}
use Rattle.steppers.proofs.Insides.{inside_there, inside_seen}
use Rattle.steppers.proofs.look.look.Goals as goal

pub returns-in_err-word : goal.returns-in_err-word
returns-in_err-word c t b =
    absurd (inside_there _ _ t b (c.inside.ensures.1 t b) c.in_err-word.ensures.lookup.3)

pub returns : goal.returns
returns c t b =
    let word = c.in_ok-word.ensures.lookup.3 in
    c.seen_by.ensures
    ∙ ap (λ w. seen_by (node_of w)) (word.1 0)
    ∙ inside_seen _ _ t b (c.inside.ensures.1 t b) word.0
