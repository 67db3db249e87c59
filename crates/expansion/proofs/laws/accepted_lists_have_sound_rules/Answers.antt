use Rattle.expansion.proofs.Soundness.{proper_sound}
use Rattle.expansion.proofs.laws.accepted_lists_have_sound_rules.Goals as goal

pub returns : goal.returns
returns c = proper_sound
