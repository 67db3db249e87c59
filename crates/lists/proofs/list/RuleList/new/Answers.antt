use Rattle.lists.specs.Sound.{rising_from, none_overlap_from}
use Rattle.lists.proofs.list.RuleList.new.Goals as goal

pub invariant_of-result-clause-rising : goal.invariant_of-result-clause-rising
unfolding rising_from
invariant_of-result-clause-rising c = simp c.new.ensures.items

pub invariant_of-result-clause-shaped : goal.invariant_of-result-clause-shaped
invariant_of-result-clause-shaped c = simp c.new-2.ensures.items

pub invariant_of-result-clause-linear : goal.invariant_of-result-clause-linear
invariant_of-result-clause-linear c = simp c.new-2.ensures.items

pub invariant_of-result-clause-apart : goal.invariant_of-result-clause-apart
unfolding none_overlap_from
invariant_of-result-clause-apart c = simp c.new-2.ensures.items

pub invariant_of-result-clause-ruled : goal.invariant_of-result-clause-ruled
invariant_of-result-clause-ruled c = simp c.new.ensures.items
