use Rattle.std.proofs.Common.{◌∙◌}
use Rattle.std.specs.Option.{option_or}
use Rattle.lists.specs.Acceptance.{fault_in}
use Rattle.lists.proofs.faults.Draft.fault.Goals as goal

pub returns : goal.returns
unfolding fault_in
returns c =
    let first = c.or.ensures ∙ (λ i. option_or (c.side_fault.ensures i) (c.overlap_fault.ensures i)) in
    c.or-2.ensures ∙ (λ i. option_or (first i) (c.form_fault.ensures i))
