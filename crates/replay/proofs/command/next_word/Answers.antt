use Rattle.std.proofs.Common.{Some, None, sym, ◌∙◌, arith, lit<}
use Rattle.std.proofs.lemmas.Str.Pattern.{split_parts}
use Rattle.std.proofs.lemmas.Bool.{eqb-true, eqb-false}
use Rattle.replay.proofs.command.next_word.Goals as goal
use Rattle.replay.proofs.Spaced.{peeled_words, begun, words_none, words_one, words_cut}

pub returns-then-is_empty : goal.returns-then-is_empty
returns-then-is_empty c =
    let trimmed = c.trim_start_matches-words.ensures.matches in
    peeled_words _ trimmed.0.0 _ trimmed.0.1 ∙ words_none _ (eqb-true _ 0 (sym c.if-is_empty.ensures))

pub returns-in-Some : goal.returns-in-Some
returns-in-Some c =
    let trimmed = c.trim_start_matches-words.ensures.matches in
    let parts = split_parts 32 _ (Some c.in-Some.parts) c.in-Some.ensures.cases (lit< tt) in
    peeled_words _ trimmed.0.0 _ trimmed.0.1 ∙ words_cut _ _ _ parts.0 parts.1 (begun _ trimmed.1)

pub returns-in-None : goal.returns-in-None
returns-in-None c =
    let trimmed = c.trim_start_matches-words.ensures.matches in
    let some = eqb-false _ 0 (sym c.if-is_empty.ensures) in
    peeled_words _ trimmed.0.0 _ trimmed.0.1 ∙ words_one _ (split_parts 32 _ None c.in-None.ensures.cases (lit< tt)) (omega (arith, some))
