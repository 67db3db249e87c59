-- One word of the count of wanted terms: what an answer about the words behind says about the run.
use Rattle.std.proofs.Common.{◌≡◌, ℕ, suc, ◌+◌, ◌<◌, ◌≤◌, Bool, true, false, ◌&&◌, ltb, leb, List, [], ◌∷◌, length, get_or, drop, Some, None, Ok, Err, Option, Result, sym, refl, ap, ◌∙◌, subst, add-zero, add_assoc, zero-add, arith}
use Rattle.std.proofs.lemmas.List.{at_drop_more, at_drop_all}
use Rattle.std.proofs.lemmas.Bool.{leb-true, and_parts}
use Rattle.terms.specs.declared.words.Node.{Node}
use Rattle.terms.specs.declared.words.Node.TheVariants.{Atom, Variable, Body, Head, Form}
use Rattle.terms.specs.declared.front.Broken.{Broken}
use Rattle.terms.specs.Words.{is_layer, node_of}
use Rattle.terms.specs.Fronts.{wants, later, ending}
use Rattle.terms.proofs.Nodes.{Stands, stands}

pub later_none : (r : Result ℕ Broken) → later 0 r ≡ r
unfolding later
later_none (Ok e) = ap Ok (zero-add e)
later_none (Err b) = λ i. Err (record { place = zero-add b.place i })

pub later-later : (m n : ℕ) (r : Result ℕ Broken) → later m (later n r) ≡ later (m + n) r
unfolding later
later-later m n (Ok e) = ap Ok (sym (add_assoc m n e))
later-later m n (Err b) = λ i. Err (record { place = sym (add_assoc m n b.place) i })

-- the answer at a word, by what the word wants
abbrev pub turn : Bool → ℕ → List ℕ → Option ℕ → Result ℕ Broken
turn v n ws None = Err (record { place = 0 })
turn v n ws (Some a) = later 1 (ending v (n + a) ws)

pub ending_more : (v : Bool) (n w : ℕ) (ws : List ℕ) → ending v (suc n) (w ∷ ws) ≡ turn v n ws (wants v (node_of w))
unfolding ending
ending_more v n w ws = same (wants v (node_of w))
  where
    same : (o : Option ℕ) → elim o [ None ↦ Err (record { place = 0 }) | Some k ↦ later 1 (ending v (n + k) ws) ] ≡ turn v n ws o
    same None = refl
    same (Some a) = refl

-- at a word that stands
pub ending_stands : (v : Bool) (n w a : ℕ) (ws : List ℕ) → wants v (node_of w) ≡ Some a → ending v (suc n) (w ∷ ws) ≡ later 1 (ending v (n + a) ws)
ending_stands v n w a ws e = ending_more v n w ws ∙ ap (turn v n ws) e

-- a word wants at most nine
abbrev Few : Option ℕ → Type 0
Few None = Unit {0}
Few (Some a) = a ≤ 9

few_wanted : (v : Bool) (w : ℕ) (o : Option Node) → Stands w o → Few (wants v o)
few_wanted v w None s = tt
few_wanted v w (Some (Atom a)) s = omega arith
few_wanted true w (Some (Variable n)) s = omega arith
few_wanted false w (Some (Variable n)) s = tt
few_wanted v w (Some (Body k)) s = omega arith
few_wanted v w (Some (Head k r d)) s =
    let short = leb-true d 8 (and_parts (is_layer k && ltb r 32) (leb d 8) s.1).1 in omega arith
few_wanted v w (Some (Form l n)) s = let few : n ≤ 8 = s.2 in omega arith

pub wants_few : (v : Bool) (w a : ℕ) → wants v (node_of w) ≡ Some a → a ≤ 9
wants_few v w a e = subst Few e (few_wanted v w (node_of w) (stands w))

-- A loop that has come to place i, with k terms still wanted there, has r for its answer.
abbrev pub At : Bool → ℕ → ℕ → List ℕ → Result ℕ Broken → Type 0
At v i k xs r = later i (ending v k (drop i xs)) ≡ r

module _ (v : Bool) (i : ℕ) (xs : List ℕ) (r : Result ℕ Broken) where
  pub none_wanted : (k : ℕ) → k ≡ 0 → At v i k xs r → Ok i ≡ r
  unfolding later ending
  none_wanted k e h =
      sym (ap Ok (add-zero i)) ∙ ap (λ x. later i (ending v x (drop i xs))) (sym e) ∙ h

  pub words_over : (k n : ℕ) → k ≡ suc n → length xs ≤ i → At v i k xs r → Err (record { place = i }) ≡ r
  unfolding later ending
  words_over k n e l h =
      (λ j. Err (record { place = sym (add-zero i) j }))
      ∙ ap (λ x. later i (ending v x [])) (sym e)
      ∙ ap (later i) (sym (at_drop_all (ending v k) xs i l))
      ∙ h

  at_word : (k n : ℕ) → k ≡ suc n → i < length xs → At v i k xs r → later i (turn v n (drop (i + 1) xs) (wants v (node_of (get_or xs i 0)))) ≡ r
  at_word k n e l h =
      ap (later i) (sym (at_drop_more (ending v k) xs i 0 l ∙ ap (λ x. ending v x (get_or xs i 0 ∷ drop (i + 1) xs)) e ∙ ending_more v n (get_or xs i 0) (drop (i + 1) xs))) ∙ h

  pub word_broken : (k n : ℕ) → k ≡ suc n → i < length xs → wants v (node_of (get_or xs i 0)) ≡ None → At v i k xs r → Err (record { place = i }) ≡ r
  unfolding later
  word_broken k n e l w h =
      (λ j. Err (record { place = sym (add-zero i) j }))
      ∙ ap (λ o. later i (turn v n (drop (i + 1) xs) o)) (sym w)
      ∙ at_word k n e l h

  pub word_stands : (k n a : ℕ) → k ≡ suc n → i < length xs → wants v (node_of (get_or xs i 0)) ≡ Some a → At v i k xs r → At v (i + 1) (n + a) xs r
  word_stands k n a e l w h =
      sym (later-later i 1 (ending v (n + a) (drop (i + 1) xs)))
      ∙ ap (λ o. later i (turn v n (drop (i + 1) xs) o)) (sym w)
      ∙ at_word k n e l h
