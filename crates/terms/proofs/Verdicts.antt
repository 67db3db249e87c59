-- What the answers about one term mean: a term is there, or none, and the run is refused behind its longest front.
use Rattle.std.proofs.Common.{◌≡◌, ℕ, ◌<◌, ◌≤◌, Bool, true, cond, eqb, List, [], ◌++◌, length, take, drop, is_ok, Ok, Err, Result, sym, refl, ap, ◌∙◌, subst, append-nil, arith, length-append, take-append-drop}
use Rattle.std.proofs.lemmas.List.{take_all, length-take-le}
use Rattle.std.proofs.lemmas.Bool.{eqb-true, eqb-false, eq-eqb, ne_eqb, cond_both, cond-true, cond-false}
use Rattle.terms.specs.declared.front.Broken.{Broken}
use Rattle.terms.specs.Trees.{Tree, Trees, none, more, count, written, written_all, WellMade, WellMadeAll}
use Rattle.terms.specs.Fronts.{ending, wholly}
use Rattle.terms.specs.Laws.{LongestFront, Ends, Whole}
use Rattle.terms.proofs.Endings.{one_ends}
use Rattle.terms.proofs.Fillings.{place_of, Filled, filled}
use Rattle.terms.proofs.Longer.{Reached, longer}

-- a tree that begins with the words before the answer's place, and has no other words where the answer is an end
record Begun (v : Bool) (ws : List ℕ) (r : Result ℕ Broken) : Type 0 where
  pub tree : Tree
  pub rest : List ℕ
  pub made : WellMade tree v
  pub within : place_of r ≤ length ws
  pub begins : written tree ≡ take (place_of r) ws ++ rest
  pub exact : is_ok r ≡ true → rest ≡ []

begun_by : (v : Bool) (ws : List ℕ) (r : Result ℕ Broken) (ts : Trees) (rest : List ℕ) → count ts ≡ 1 → WellMadeAll ts v → place_of r ≤ length ws → written_all ts ≡ take (place_of r) ws ++ rest → (is_ok r ≡ true → rest ≡ []) → Begun v ws r
unfolding count WellMadeAll written_all
begun_by v ws r none rest one h l e x = absurd (omega arith)
begun_by v ws r (more t none) rest one h l e x = record {
  tree = t;
  rest = rest;
  made = h.0;
  within = l;
  begins = sym (append-nil (written t)) ∙ e;
  exact = x;
}
begun_by v ws r (more t (more u ts)) rest one h l e x = absurd (omega arith)

begun : (v : Bool) (ws : List ℕ) (r : Result ℕ Broken) → ending v 1 ws ≡ r → Begun v ws r
begun v ws r e =
    let f = subst (Filled v 1 ws) e (filled ws v 1) in
    begun_by v ws r f.trees f.rest f.counted f.made f.within f.begins f.exact

-- a run that begins with a tree ends behind it
front_ends : (t : Tree) (v : Bool) (n : ℕ) (ws : List ℕ) → WellMade t v → written t ≡ take n ws → ending v 1 ws ≡ Ok (length (written t))
front_ends t v n ws h e =
    ap (ending v 1) (sym (take-append-drop n ws) ∙ ap (λ l. l ++ drop n ws) (sym e)) ∙ one_ends t v (drop n ws) h

all_ends : (t : Tree) (v : Bool) (ws : List ℕ) → WellMade t v → written t ≡ ws → ending v 1 ws ≡ Ok (length ws)
all_ends t v ws h e =
    front_ends t v (length ws) ws h (e ∙ sym (take_all (length ws) ws (omega arith))) ∙ ap (λ l. Ok (length l)) e

never_both : (r : Result ℕ Broken) (b : Broken) (n : ℕ) → r ≡ Err b → r ≡ Ok n → ⊥
never_both r b n e f = let z : ◌≡◌ {A = ℕ} 0 1 = cc in omega arith

reached : (r : Result ℕ Broken) (m : ℕ) → place_of r < m → Reached r m
reached (Ok end) m over = omega arith
reached (Err b) m over = over

-- a run that ends with one tree has no answer at an earlier place
not_earlier : (v : Bool) (ws : List ℕ) (r : Result ℕ Broken) → ending v 1 ws ≡ r → ending v 1 ws ≡ Ok (length ws) → place_of r < length ws → ⊥
not_earlier v ws (Ok end) e f over = let all : end ≡ length ws = cc in omega arith
not_earlier v ws (Err b) e f over = never_both _ b _ e f

-- no tree begins with more words than stand before the answer's place
no_more : (v : Bool) (ws : List ℕ) (r : Result ℕ Broken) → ending v 1 ws ≡ r → (m : ℕ) → place_of r < m → m ≤ length ws → (t : Tree) (rest : List ℕ) → WellMade t v → written t ≡ take m ws ++ rest → ⊥
no_more v ws r e m over l t rest h is =
    let same = longer ws v 1 m rest l (subst (λ x. Reached x m) (sym e) (reached r m over)) in
    let long = length-append (take m ws) rest in
    let taken = length-take-le m ws l in
    not_earlier v (take m ws ++ rest) r (same ∙ e) (all_ends t v (take m ws ++ rest) h is) (omega arith)

longest_front : (v : Bool) (ws : List ℕ) (r : Result ℕ Broken) → ending v 1 ws ≡ r → LongestFront v ws (place_of r)
longest_front v ws r e =
    let f = begun v ws r e in
    record {
      within = f.within;
      begins = (f.tree, f.rest, f.made, f.begins);
      longest = λ m over l b. no_more v ws r e m over l b.0 b.1 b.2 b.3;
    }

pub ends : (v : Bool) (ws : List ℕ) (r : Result ℕ Broken) → ending v 1 ws ≡ r → Ends v ws r
ends v ws (Ok end) e =
    let f = begun v ws (Ok end) e in
    (f.tree, f.made, f.within, f.begins ∙ ap (λ l. take end ws ++ l) (f.exact refl) ∙ append-nil (take end ws))
ends v ws (Err b) e = (longest_front v ws (Err b) e, λ t n h is. never_both _ b _ e (front_ends t v n ws h is))

-- the answer about the whole run, from the answer about its front
abbrev whole_of : List ℕ → Result ℕ Broken → Result (Unit {0}) Broken
whole_of ws (Err b) = Err b
whole_of ws (Ok end) = cond (eqb end (length ws)) (Ok tt) (Err (record { place = end }))

wholly_is : (v : Bool) (ws : List ℕ) → wholly v ws ≡ whole_of ws (ending v 1 ws)
unfolding wholly
wholly_is v ws = same (ending v 1 ws)
  where
    same : (r : Result ℕ Broken) → elim r [ Err b ↦ Err b | Ok end ↦ cond (eqb end (length ws)) (Ok tt) (Err (record { place = end })) ] ≡ whole_of ws r
    same (Ok end) = refl
    same (Err b) = refl

whole_by : (v : Bool) (ws : List ℕ) (r : Result ℕ Broken) → ending v 1 ws ≡ r → Whole v ws (whole_of ws r)
whole_by v ws (Err b) e = (longest_front v ws (Err b) e, λ t h is. never_both _ b _ e (all_ends t v ws h is))
whole_by v ws (Ok end) e =
    let f = ends v ws (Ok end) e in
    cond_both (eqb end (length ws)) _ _ (Whole v ws)
    (λ all. let over = eqb-true end (length ws) all in (f.0, f.1, f.3 ∙ take_all end ws (omega arith)))
    (λ part. (longest_front v ws (Ok end) e, λ t h is. let found = all_ends t v ws h is in eqb-false end (length ws) part (cc)))

pub whole_means : (v : Bool) (ws : List ℕ) → Whole v ws (wholly v ws)
whole_means v ws = subst (Whole v ws) (sym (wholly_is v ws)) (whole_by v ws (ending v 1 ws) refl)

-- the answer about the whole run, by the three ways that its front may go
module _ (v : Bool) (ws : List ℕ) where
  pub wholly_broken : (b : Broken) → ending v 1 ws ≡ Err b → wholly v ws ≡ Err b
  wholly_broken b e = wholly_is v ws ∙ ap (whole_of ws) e

  pub wholly_all : (end : ℕ) → ending v 1 ws ≡ Ok end → end ≡ length ws → wholly v ws ≡ Ok tt
  wholly_all end e all = wholly_is v ws ∙ ap (whole_of ws) e ∙ cond-true _ _ _ (eq-eqb end (length ws) all)

  pub wholly_part : (end : ℕ) → ending v 1 ws ≡ Ok end → (end ≡ length ws → ⊥) → wholly v ws ≡ Err (record { place = end })
  wholly_part end e part = wholly_is v ws ∙ ap (whole_of ws) e ∙ cond-false _ _ _ (ne_eqb end (length ws) part)
