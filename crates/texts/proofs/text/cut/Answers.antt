use Rattle.std.proofs.Common.{rules, ◌≡◌, ℕ, ◌<◌, length, get_or, add-one, refl}
use Rattle.std.proofs.lemmas.List.{take_rest}
use Rattle.texts.proofs.Cutting.{one_piece, first_piece, cut_at}
use Rattle.texts.proofs.text.cut.Goals as goal

pub returns-in-Some : goal.returns-in-Some
returns-in-Some c =
    let within : c.in-Some.size < length c.args.text.now = search rules in
    let at : get_or c.args.text.now c.in-Some.size 0 ≡ 10 = search rules in
    let before : (k : ℕ) → k < c.in-Some.size → get_or c.args.text.now k 0 ≡ 10 → ⊥ = search rules in
    record {
      pieces_are = simp (take_rest, add-one) (first_piece _ c.in-Some.size c.args.text.now within before at);
      stretch = simp (take_rest, add-one) (cut_at _ c.in-Some.size c.args.text.now within at);
    }

pub returns-in-None : goal.returns-in-None
returns-in-None c =
    let none : (k : ℕ) → k < length c.args.text.now → get_or c.args.text.now k 0 ≡ 10 → ⊥ = search rules in
    record { pieces_are = one_piece _ c.args.text.now none; stretch = refl }
