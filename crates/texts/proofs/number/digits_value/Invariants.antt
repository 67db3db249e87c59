use Rattle.std.proofs.Common.{◌≡◌, drop}
use Rattle.texts.specs.Numbers.{digits_of}
use Rattle.texts.proofs.number.digits_value.Given as goal

abbrev pub invariant-loop-byte : goal.invariant-loop-byte
invariant-loop-byte l = digits_of l.most l.value (drop l.byte-index l.digits) ≡ digits_of l.most 0 l.digits
