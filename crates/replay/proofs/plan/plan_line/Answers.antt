-- What an entry repeats of its line is the line without the spaces around it.
use Rattle.std.proofs.Common.{rules}
use Rattle.replay.specs.Plans.{SpacesCut}
use Rattle.replay.proofs.Planning.{spaces_cut, load_line}
use Rattle.replay.proofs.plan.plan_line.Goals as goal

pub returns-in-Some-Ok-Core : goal.returns-in-Some-Ok-Core
returns-in-Some-Ok-Core c =
    let cut : SpacesCut c.args.bytes.now c.trim_matches-line.result.now = spaces_cut _ _ _ c.in-Ok.ensures.cases.0 c.trim_matches-line.ensures.matches in
    (search rules, cut, search rules)

pub returns-in_ok-push-in-Some-Ok-Step : goal.returns-in_ok-push-in-Some-Ok-Step
returns-in_ok-push-in-Some-Ok-Step c =
    let cut : SpacesCut c.args.bytes.now c.trim_matches-line.result.now = spaces_cut _ _ _ c.in-Ok.ensures.cases.0 c.trim_matches-line.ensures.matches in
    (search rules, cut, search rules)

pub returns-in_ok-push-in-Some-Ok-Show : goal.returns-in_ok-push-in-Some-Ok-Show
returns-in_ok-push-in-Some-Ok-Show c =
    let cut : SpacesCut c.args.bytes.now c.trim_matches-line.result.now = spaces_cut _ _ _ c.in-Ok.ensures.cases.0 c.trim_matches-line.ensures.matches in
    (search rules, cut, search rules)

pub returns-in-Some-Ok-Load : goal.returns-in-Some-Ok-Load
returns-in-Some-Ok-Load c =
    let cut : SpacesCut c.args.bytes.now c.trim_matches-line.result.now = spaces_cut _ _ _ c.in-Ok.ensures.cases.0 c.trim_matches-line.ensures.matches in
    load_line c.args.bytes.now _ c.trim_matches-line.result.now c.args.calls.now.items c.plan_load.new.calls.items c.plan_load.result c.plan_load.ensures cut (search rules)
