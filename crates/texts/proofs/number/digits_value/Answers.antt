use Rattle.std.proofs.Common.{sym, ◌∙◌}
use Rattle.std.proofs.lemmas.List.{at_drop_all}
use Rattle.texts.specs.Numbers.{digits_of}
use Rattle.texts.proofs.Digited.{no_digit_at, one_digit_at, digits_none}
use Rattle.texts.proofs.number.digits_value.Goals as goal

pub returns-in_err-value : goal.returns-in_err-value
returns-in_err-value c =
    c.from_residual.ensures ∙ sym (no_digit_at _ _ _ _ c.loop-byte-test.true (sym c.in_err-value.ensures)) ∙ c.loop-byte.invariant

pub loop-byte-preserved : goal.loop-byte-preserved
loop-byte-preserved c = sym (one_digit_at _ _ _ _ c.loop-byte-test.true _ (sym c.in_ok-value.ensures)) ∙ c.loop-byte.invariant

pub returns : goal.returns
returns c = sym (at_drop_all (digits_of c.args.most c.loop-byte.value) _ _ c.loop-byte-test.false ∙ digits_none _ _) ∙ c.loop-byte.invariant
