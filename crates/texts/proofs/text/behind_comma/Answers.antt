use Rattle.std.proofs.Common.{◌≡◌, arith}
use Rattle.std.proofs.lemmas.List.{nil_from_length}
use Rattle.std.proofs.lemmas.Bool.{ne_eqb}
use Rattle.texts.specs.Texts.{behind}
use Rattle.texts.proofs.text.behind_comma.Goals as goal

pub returns-in_err-first : goal.returns-in_err-first
unfolding behind
returns-in_err-first c = rw (c.from_residual.ensures, nil_from_length c.args.bytes.now c.in_err-first.ensures.cases)

pub returns-in-44 : goal.returns-in-44
unfolding behind
returns-in-44 c = rw (c.in_ok-first.ensures.cases.0, c.in-44.is)

pub returns-in_default : goal.returns-in_default
unfolding behind
returns-in_default c =
    let ne : 44 ≡ c.in_ok-first.first.now → ⊥ = λ e. omega arith in
    rw (c.in_ok-first.ensures.cases.0, ne_eqb 44 c.in_ok-first.first.now ne)
