-- A kept run as a chain: each moment is given by what the one before it left held.
use Rattle.std.proofs.Common.{◌≡◌, List, [], ◌∷◌, ◌++◌, Option, refl, ap}
use Rattle.terms.specs.Trees.{Tree}
use Rattle.languages.specs.Meaning.{Meaning}
use Rattle.languages.specs.Promise.{Moment, held_after, Gives, Kept}
use Rattle.languages.proofs.Asked.{apart}

abbrev pub Given : Meaning → Option Tree → Moment → Type 0
Given m was x = Gives m was x.request x.reply x.held

abbrev pub Chain : Meaning → Option Tree → List Moment → Type 0
Chain m start [] = Unit {0}
Chain m start (x ∷ xs) = Given m start x × Chain m x.held xs

module _ (m : Meaning) where
  -- a kept run is a chain
  pub kept_chain : (start : Option Tree) (run : List Moment) → Kept m start run → Chain m start run
  unfolding held_after
  kept_chain start [] kept = tt
  kept_chain start (x ∷ xs) kept =
      (kept [] xs x refl, kept_chain x.held xs (λ before after y e. kept (x ∷ before) after y (ap {B = List Moment} (λ r. x ∷ r) e)))

  -- and a chain is kept
  pub chain_kept : (start : Option Tree) (run : List Moment) → Chain m start run → Kept m start run
  unfolding held_after
  chain_kept start [] chain [] after x e = apart (cc)
  chain_kept start [] chain (b ∷ before) after x e = apart (cc)
  chain_kept start (y ∷ ys) chain [] after x e = let same : y ≡ x = cc in rw same at chain.0
  chain_kept start (y ∷ ys) chain (b ∷ before) after x e =
      let same : y ≡ b = cc in
      chain_kept b.held ys (rw same at chain.1) before after x (cc)

  -- the front of a chain is one, and what is behind the front is one from what the front leaves held
  pub chain_front : (start : Option Tree) (xs ys : List Moment) → Chain m start (xs ++ ys) → Chain m start xs
  chain_front start [] ys chain = tt
  chain_front start (x ∷ xs) ys chain = (chain.0, chain_front x.held xs ys chain.1)

  pub chain_rest : (start : Option Tree) (xs ys : List Moment) → Chain m start (xs ++ ys) → Chain m (held_after start xs) ys
  unfolding held_after
  chain_rest start [] ys chain = chain
  chain_rest start (x ∷ xs) ys chain = chain_rest x.held xs ys chain.1

  -- a chain with one more moment behind it
  pub chain_more : (start : Option Tree) (xs : List Moment) (x : Moment) → Chain m start xs → Given m (held_after start xs) x → Chain m start (xs ++ (x ∷ []))
  unfolding held_after
  chain_more start [] x chain given = (given, tt)
  chain_more start (y ∷ ys) x chain given = (chain.0, chain_more y.held ys x chain.1 given)

-- and what that leaves held
pub held_more : (start : Option Tree) (xs : List Moment) (x : Moment) → held_after start (xs ++ (x ∷ [])) ≡ x.held
unfolding held_after
held_more start [] x = refl
held_more start (y ∷ ys) x = held_more y.held ys x
