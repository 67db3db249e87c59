-- The words before the place of an answer begin well-made trees, as many as are wanted.
use Rattle.std.proofs.Common.{◌≡◌, ℕ, zero, suc, ◌+◌, ◌≤◌, Bool, true, false, List, [], ◌∷◌, ◌++◌, length, take, is_ok, Some, None, Ok, Err, Option, Result, sym, refl, ap, ◌∙◌, subst, one-add, arith}
use Rattle.std.proofs.lemmas.Bool.{false≢true}
use Rattle.terms.specs.declared.words.Node.{Node}
use Rattle.terms.specs.declared.words.Node.TheVariants.{Atom, Variable, Body, Head, Form}
use Rattle.terms.specs.declared.front.Broken.{Broken}
use Rattle.terms.specs.Words.{node_of, arity_of}
use Rattle.terms.specs.Trees.{Trees, atom, none, more, count, written_all, WellMade, WellMadeAll, put}
use Rattle.terms.specs.Fronts.{wants, later, ending}
use Rattle.terms.proofs.Nodes.{Stands, stands}
use Rattle.terms.proofs.Puts.{Put, put_made}
use Rattle.terms.proofs.Turns.{turn, ending_more}

-- where an answer stands: the end, or the place that is broken
abbrev pub place_of : Result ℕ Broken → ℕ
place_of (Ok e) = e
place_of (Err b) = b.place

-- k trees that begin with the words before the answer's place, and have no other words where the answer is an end
pub record Filled (v : Bool) (k : ℕ) (ws : List ℕ) (r : Result ℕ Broken) : Type 0 where
  pub trees : Trees
  pub rest : List ℕ
  pub counted : count trees ≡ k
  pub made : WellMadeAll trees v
  pub within : place_of r ≤ length ws
  pub begins : written_all trees ≡ take (place_of r) ws ++ rest
  pub exact : is_ok r ≡ true → rest ≡ []

-- k atoms stand wherever k trees may
atoms : ℕ → Trees
atoms zero = none
atoms (suc k) = more (atom 0) (atoms k)

count_atoms : (k : ℕ) → count (atoms k) ≡ k
unfolding atoms count
count_atoms zero = refl
count_atoms (suc k) = ap suc (count_atoms k)

atoms_made : (k : ℕ) (v : Bool) → WellMadeAll (atoms k) v
unfolding atoms WellMade WellMadeAll
atoms_made zero v = tt
atoms_made (suc k) v = (omega arith, atoms_made k v)

-- at once broken: all of the trees are atoms
filled_broken : (v : Bool) (k : ℕ) (ws : List ℕ) → Filled v k ws (Err (record { place = 0 }))
filled_broken v k ws = record {
  trees = atoms k;
  rest = written_all (atoms k);
  counted = count_atoms k;
  made = atoms_made k v;
  within = omega arith;
  begins = refl;
  exact = λ e. absurd (false≢true e);
}

wants_arity : (v : Bool) (n : Node) (a : ℕ) → wants v (Some n) ≡ Some a → a ≡ arity_of n
wants_arity v (Atom x) a e = cc
wants_arity true (Variable x) a e = cc
wants_arity false (Variable x) a e = let z : ◌≡◌ {A = ℕ} 0 1 = cc in absurd (omega arith)
wants_arity v (Body k) a e = cc
wants_arity v (Head k r d) a e = cc
wants_arity v (Form l n) a e = cc

later_place : (r : Result ℕ Broken) → place_of (later 1 r) ≡ suc (place_of r)
unfolding later
later_place (Ok e) = one-add e
later_place (Err b) = one-add b.place

later_ok : (r : Result ℕ Broken) → is_ok (later 1 r) ≡ is_ok r
unfolding later
later_ok (Ok e) = refl
later_ok (Err b) = refl

-- a word more in front, where its node took its children
filled_front : (v : Bool) (n m w : ℕ) (ws : List ℕ) (node : Node) (r : Result ℕ Broken) (f : Filled v m ws r) → m ≡ n + arity_of node → (ts : Trees) → Put w v node f.trees (Some ts) → Filled v (suc n) (w ∷ ws) (later 1 r)
filled_front v n m w ws node r f same ts p =
    let place = later_place r in
    record {
      trees = ts;
      rest = f.rest;
      counted = omega arith;
      made = p.0;
      within = omega arith;
      begins = p.1 ∙ ap (λ l. w ∷ l) f.begins ∙ ap (λ x. take x (w ∷ ws) ++ f.rest) (sym place);
      exact = λ e. f.exact (sym (later_ok r) ∙ e);
    }

filled_put : (v : Bool) (n m w : ℕ) (ws : List ℕ) (node : Node) (r : Result ℕ Broken) (f : Filled v m ws r) → m ≡ n + arity_of node → (o : Option Trees) → Put w v node f.trees o → Filled v (suc n) (w ∷ ws) (later 1 r)
filled_put v n m w ws node r f same None p = let all = f.counted in absurd (omega arith)
filled_put v n m w ws node r f same (Some ts) p = filled_front v n m w ws node r f same ts p

filled_stands : (v : Bool) (n w : ℕ) (ws : List ℕ) (node : Node) (o : Option ℕ) → Stands w (Some node) → wants v (Some node) ≡ o → ((k : ℕ) → Filled v k ws (ending v k ws)) → Filled v (suc n) (w ∷ ws) (turn v n ws o)
filled_stands v n w ws node None s e f = filled_broken v (suc n) (w ∷ ws)
filled_stands v n w ws node (Some a) s e f =
    let is = wants_arity v node a e in
    let g = f (n + a) in
    filled_put v n (n + a) w ws node (ending v (n + a) ws) g (omega arith) (put node g.trees) (put_made w v node g.trees s (e ∙ ap Some is) g.made)

filled_turn : (v : Bool) (n w : ℕ) (ws : List ℕ) (o : Option Node) → Stands w o → ((k : ℕ) → Filled v k ws (ending v k ws)) → Filled v (suc n) (w ∷ ws) (turn v n ws (wants v o))
filled_turn v n w ws None s f = filled_broken v (suc n) (w ∷ ws)
filled_turn v n w ws (Some node) s f = filled_stands v n w ws node (wants v (Some node)) s refl f

filled_none : (v : Bool) (ws : List ℕ) → Filled v 0 ws (Ok 0)
unfolding count WellMadeAll written_all
filled_none v ws = record {
  trees = none;
  rest = [];
  counted = refl;
  made = tt;
  within = omega arith;
  begins = refl;
  exact = λ e. refl;
}

pub filled : (ws : List ℕ) (v : Bool) (k : ℕ) → Filled v k ws (ending v k ws)
unfolding ending
filled [] v zero = filled_none v []
filled [] v (suc n) = filled_broken v (suc n) []
filled (w ∷ ws) v zero = filled_none v (w ∷ ws)
filled (w ∷ ws) v (suc n) =
    subst (Filled v (suc n) (w ∷ ws)) (sym (ending_more v n w ws)) (filled_turn v n w ws (node_of w) (stands w) (filled ws v))

-- trees that end in a run end within it
pub ends_within : (v : Bool) (k : ℕ) (ws : List ℕ) (end : ℕ) → ending v k ws ≡ Ok end → end ≤ length ws
ends_within v k ws end e = (subst (Filled v k ws) e (filled ws v k)).within
