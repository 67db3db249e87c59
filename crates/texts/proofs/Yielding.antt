-- A loop over the pieces that `split` of a text gives.
use denote.Param.Members.{Mut}
use Rattle.std.proofs.Common.{◌≡◌, ℕ, ◌<◌, Bool, false, eqb, List, length, get_or, Some, None, Option, ap, ◌∙◌}
use Rattle.std.specs.Borrow.{Bor}
use Rattle.std.specs.Fn.{CalledAt}
use Rattle.std.specs.Iterator.{Yields}
use Rattle.std.specs.declared.slice.Split.{Split}
use Rattle.std.specs.Slice.Iter.{split_rest, split_done, split_callee, split_steps}
use Rattle.std.proofs.lemmas.Iterator.{YieldsList}
use Rattle.std.proofs.lemmas.Iterator.Consumers.{YieldsList-turn, YieldsList-end}
use Rattle.std.proofs.lemmas.Iterator.Splits.{YieldsList-from_slice_split}
use Rattle.texts.specs.Texts.{pieces}

-- a loop at what `split` gives, which has taken these pieces and goes on with the state t
module _ {F : Type 0} (g : Mut F (Bor ℕ × Unit {0}) Bool) (f : F) (sep : ℕ) (text : List ℕ) (split s : Split ℕ F) (same : s ≡ split) (rest : split_rest split ≡ text) (done : split_done split ≡ false) (closure : split_callee split ≡ f) (xs : List (Bor (List ℕ))) (t : Split ℕ F) (y : Yields (split_steps g) s xs t) (tells : (x : ℕ) (b : Bool) (q : F) → CalledAt g f x b q → (q ≡ f) × (b ≡ eqb x sep)) (r : Option (Bor (List ℕ))) (u : Split ℕ F) where
  all : YieldsList (split_steps g) (λ x. x.now) s (pieces sep text)
  unfolding pieces
  all = YieldsList-from_slice_split g (λ b. eqb b sep) text (ap split_rest same ∙ rest) (ap split_done same ∙ done) (ap split_callee same ∙ closure) tells

  -- the piece it takes next
  pub piece_turn : (x : Bor (List ℕ)) → r ≡ Some x → split_steps g t r u → (length xs < length (pieces sep text)) × (x.now ≡ get_or (pieces sep text) (length xs) x.now)
  piece_turn x is step = YieldsList-turn all xs t y r u x is step

  -- it ends when it has taken all
  pub pieces_end : r ≡ None → split_steps g t r u → length xs ≡ length (pieces sep text)
  pieces_end is step = (YieldsList-end all xs t y r u is step).1
