-- What taking the marks off leaves.
use Rattle.std.proofs.Common.{◌≡◌, suc, ◌≤◌, Bool, sym, refl, ap, subst}
use Rattle.terms.specs.Trees.{Tree, Trees, atom, variable, body, head, form, none, more, count, WellMade, WellMadeAll, bare, bare_all, Unmarked, UnmarkedAll}

mutual
  unfolding bare bare_all Unmarked UnmarkedAll

  pub bare_unmarked : (t : Tree) → Unmarked (bare t)
  bare_unmarked (atom a) = tt
  bare_unmarked (variable n) = tt
  bare_unmarked (body k t) = bare_unmarked t
  bare_unmarked (head k r ds t) = bare_unmarked t
  bare_unmarked (form l ts) = bare_all_unmarked ts

  bare_all_unmarked : (ts : Trees) → UnmarkedAll (bare_all ts)
  bare_all_unmarked none = tt
  bare_all_unmarked (more t ts) = (bare_unmarked t, bare_all_unmarked ts)

count-bare : (ts : Trees) → count (bare_all ts) ≡ count ts
unfolding count bare_all
count-bare none = refl
count-bare (more t ts) = ap suc (count-bare ts)

mutual
  unfolding bare bare_all WellMade WellMadeAll

  pub bare_made : (t : Tree) (v : Bool) → WellMade t v → WellMade (bare t) v
  bare_made (atom a) v h = h
  bare_made (variable n) v h = h
  bare_made (body k t) v h = bare_made t v h.1
  bare_made (head k r ds t) v h = bare_made t v h.2
  bare_made (form l ts) v h = (h.0, subst (λ n. n ≤ 8) (sym (count-bare ts)) h.1, bare_all_made ts v h.2)

  bare_all_made : (ts : Trees) (v : Bool) → WellMadeAll ts v → WellMadeAll (bare_all ts) v
  bare_all_made none v h = tt
  bare_all_made (more t ts) v h = (bare_made t v h.0, bare_all_made ts v h.1)

mutual
  unfolding bare bare_all Unmarked UnmarkedAll

  pub bare_same : (t : Tree) → Unmarked t → bare t ≡ t
  bare_same (atom a) h = refl
  bare_same (variable n) h = refl
  bare_same (body k t) h = absurd h
  bare_same (head k r ds t) h = absurd h
  bare_same (form l ts) h = ap (form l) (bare_all_same ts h)

  bare_all_same : (ts : Trees) → UnmarkedAll ts → bare_all ts ≡ ts
  bare_all_same none h = refl
  bare_all_same (more t ts) h = let e = bare_same t h.0 in let f = bare_all_same ts h.1 in λ i. more (e i) (f i)
