use Rattle.std.proofs.Common.{refl}
use Rattle.terms.specs.Fronts.{ending, later, wholly}
use Rattle.terms.specs.Trees.{first, in_head, put, read, count, written, nth, term_of}
use Rattle.expansion.specs.Rules.{rule_of as rule_by, stands}
use Rattle.expansion.specs.Matches.{takes_all, matching, dropped, value_of}
use Rattle.expansion.specs.Expansion.{instance, plain_instance, expanded, uses_of, plain}
use Rattle.expansion.specs.Offences.{offence}
use Rattle.expansion.specs.Loads.{expansion_by}
use Rattle.steppers.specs.Looks.{seen, seen_all, seen_at}
use Rattle.steppers.specs.Steps.{pick, fill, step_of, rule_of}
use Rattle.steppers.specs.Loads.{lacking, expansion_of}
use Rattle.texts.specs.Numbers.{digits_of}
use Rattle.texts.specs.Texts.{pieces, lines_of, lines, number, numbers, behind, numbered, said, readings}
use Rattle.lists.specs.Lines.{words_of, judge_lines, judge_header, judge_table}
use Rattle.lists.specs.Sides.{once_each, agree}
use Rattle.lists.specs.Acceptance.{side_fault, overlap_fault, form_fault, fault_in, accepted}
use Rattle.facts.proofs.worked_examples.Goals as goal

pub returns : goal.returns
unfolding accepted readings said numbered behind numbers number digits_of lines lines_of pieces judge_header judge_table judge_lines words_of fault_in side_fault overlap_fault form_fault once_each agree ending later wholly first in_head put read count written nth seen seen_all seen_at pick fill step_of rule_of term_of lacking expansion_of rule_by stands takes_all matching dropped value_of instance plain_instance expanded uses_of plain offence expansion_by
returns c = record { second_pick = (refl, refl); repetition = (refl, λ image. refl, refl); lists = (refl, refl); go = refl; note = refl; refused = (refl, refl, refl); stroke = (refl, refl, refl, refl, refl) }
