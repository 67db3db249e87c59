use Rattle.std.proofs.Common.{sym, ◌∙◌}
use Rattle.texts.proofs.Digited.{long_field, field_is}
use Rattle.texts.proofs.number.read_number.Goals as goal

pub returns-then-field-gt-MOST_DIGITS : goal.returns-then-field-gt-MOST_DIGITS
returns-then-field-gt-MOST_DIGITS c = sym (long_field _ c.if-field-gt-MOST_DIGITS.true)

pub returns : goal.returns
returns c = c.number.ensures ∙ sym (field_is _ c.if-field-gt-MOST_DIGITS.false)
