use Rattle.std.proofs.Common.{◌+◌, ◌-◌, map, length, vec_items, Err, sym, refl, ap, ◌∙◌, inr, arith}
use Rattle.std.specs.Option.{option_map}
use Rattle.std.proofs.lemmas.List.{length_push, map_push}
use Rattle.texts.specs.Texts.{readings}
use Rattle.texts.specs.Pieces.{line_says}
use Rattle.lists.specs.declared.refusal.Refusal.TheVariants.{LineBroken, LineMissing, LineExtra}
use Rattle.lists.specs.Lines.{judge_lines}
use Rattle.lists.proofs.Judging.{line_missing, line_broken, line_extra, lines_end, line_read}
use Rattle.lists.proofs.lines.read_lines.Goals as goal

pub returns-in_default : goal.returns-in_default
returns-in_default g c =
    inr (sym c.loop-i.invariant.1 ∙ line_missing _ _ _ _ c.loop-i.invariant.0 _ _ (omega arith) c.in_default.ensures ∙ ap (λ p. Err (LineMissing p)) (sym c.line_at.ensures))

pub returns-in_default-2 : goal.returns-in_default-2
returns-in_default-2 g c =
    let behind = ap (λ l. g.T.Entry.reads c.args.layer (map g.T.Entry.meant l) (line_says c.in-Some.line)) (sym c.deref.ensures.value) in
    let said = behind ∙ sym c.in_ok-entry.ensures ∙ ap (option_map g.T.Entry.meant) c.in_default-2.is in
    inr (sym c.loop-i.invariant.1 ∙ line_broken _ _ _ _ c.loop-i.invariant.0 _ _ _ _ (omega arith) c.in-Some.ensures.0 said ∙ ap (λ p. Err (LineBroken p)) (sym c.line_at-in_default-2.ensures))

pub loop-i-preserved : goal.loop-i-preserved
loop-i-preserved g c =
    let entries = ap (map g.T.Entry.meant) c.in_ok-push.ensures.items ∙ map_push g.T.Entry.meant (vec_items c.loop-i.entries) c.in-Some-2.entry in
    let behind = ap (λ l. g.T.Entry.reads c.args.layer (map g.T.Entry.meant l) (line_says c.in-Some.line)) (sym c.deref.ensures.value) in
    let said = behind ∙ sym c.in_ok-entry.ensures ∙ ap (option_map g.T.Entry.meant) c.in-Some-2.is in
    let more = line_read _ _ _ _ c.loop-i.invariant.0 _ _ _ _ _ _ (omega arith) c.in-Some.ensures.0 said in (
      ap length entries ∙ length_push _ _ ∙ ap (λ n. n + 1) c.loop-i.invariant.0,
      (λ i. judge_lines g.T.Entry.line_at (g.T.Entry.reads c.args.layer) (entries i) (c.args.count - (c.loop-i.i + 1)) (readings (c.rest-rest.ensures i)))
          ∙ sym more ∙ c.loop-i.invariant.1,
    )

pub returns-in-Some-next_line : goal.returns-in-Some-next_line
returns-in-Some-next_line g c =
    inr (sym c.loop-i.invariant.1 ∙ line_extra _ _ _ _ (omega arith) _ _ _ _ (omega arith) c.in-Some-next_line.ensures.0 ∙ ap (λ p. Err (LineExtra p)) (sym c.line_at-in-Some-next_line.ensures))

pub returns-in-None : goal.returns-in-None
returns-in-None g c = sym c.loop-i.invariant.1 ∙ lines_end _ _ _ _ refl _ _ (omega arith) c.in-None.ensures
