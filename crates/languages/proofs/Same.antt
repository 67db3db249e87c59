-- What is held and the call settle the answer: two runs with the same calls from the same term have the same answers.
use Rattle.std.proofs.Common.{◌≡◌, ℕ, Bool, true, false, leb, List, [], ◌∷◌, length, Some, None, Ok, Err, Option, Result, sym, refl}
use Rattle.terms.specs.Trees.{Tree, written}
use Rattle.languages.specs.declared.refusal.Refusal.{Refusal}
use Rattle.languages.specs.declared.answers.Stepped.{Stepped}
use Rattle.languages.specs.Meaning.{Expanded, Move, moved, ended, stuck, Meaning}
use Rattle.languages.specs.Calls.{Steps, StepGives, ShowGives, HeldShowGives, BufferShowGives}
use Rattle.languages.specs.Laws.{Laws}
use Rattle.languages.specs.Promise.{Request, load, step, show, Reply, Moment, requests, replies, Gives}
use Rattle.languages.proofs.Asked.{apart, by_step, by_show, load_held, load_refused}
use Rattle.languages.proofs.Chained.{Chain}

-- the same answer, and the same held, or in the buffer, from then on
abbrev Both : {X Y : Type 0} → X → X → Y → Y → Type 0
Both r s is so = (r ≡ s) × (is ≡ so)

-- two loads of the same words
loads_same : (m : Meaning) (was : Option Tree) (words : List ℕ) (r s : Reply) (is so : Option Tree) (v : Result Expanded Refusal) → m.expansion words ≡ v → Gives m was (load words) r is → Gives m was (load words) s so → Both r s is so
loads_same m was words r s is so (Ok e) v p q =
    let a = load_held m was words r is p e v in let b = load_held m was words s so q e v in (cc, cc)
loads_same m was words r s is so (Err refusal) v p q =
    let a = load_refused m was words r is p refusal v in let b = load_refused m was words s so q refusal v in (cc, cc)

-- two steps by the same move, and two by the same image
steps_same : (capacity : ℕ) (t : Tree) (move : Move) (r s : Stepped) (is so : Option Tree) → Steps capacity t move r is → Steps capacity t move s so → Both r s is so
steps_same capacity t (moved effect next) r s is so p q = within (leb (length (written next)) capacity) refl
  where
    within : (b : Bool) → leb (length (written next)) capacity ≡ b → Both r s is so
    within true b = let x = rw (b, Steps) at p in let y = rw (b, Steps) at q in (cc, cc)
    within false b = let x = rw (b, Steps) at p in let y = rw (b, Steps) at q in (cc, cc)
steps_same capacity t ended r s is so p q = (cc, cc)
steps_same capacity t stuck r s is so p q = (cc, cc)

step_same : (m : Meaning) (image : ℕ) (was : Option Tree) (r s : Result Stepped Refusal) (is so : Option Tree) → StepGives m image was r is → StepGives m image was s so → Both r s is so
step_same m image None r s is so p q = (cc, cc)
step_same m image (Some t) (Ok r) (Ok s) is so p q =
    let same = steps_same m.capacity t (m.rule t image) r s is so p q in (cc, same.1)
step_same m image (Some t) (Ok r) (Err s) is so p q = absurd q
step_same m image (Some t) (Err r) s is so p q = absurd p

module _ (m : Meaning) (laws : Laws m) where
  -- two shows into the same buffer, by the law that no two terms have the same expansion
  show_same : (t : Tree) (buffer : List ℕ) (r s : Option ℕ) (after later : List ℕ) → ShowGives m t buffer r after → ShowGives m t buffer s later → Both r s after later
  show_same t buffer (Some n) (Some k) after later p q =
      let same = laws.one_term t p.0 q.0 p.1.0 q.1.0 p.1.2 q.1.2 in (cc, cc)
  show_same t buffer (Some n) None after later p q = absurd (q.0 p.0 p.1)
  show_same t buffer None (Some k) after later p q = absurd (p.0 q.0 q.1)
  show_same t buffer None None after later p q = (refl, cc)

  held_show_same : (was : Option Tree) (buffer : List ℕ) (r s : Result (Option ℕ) Refusal) (after later : List ℕ) → HeldShowGives m was buffer r after → HeldShowGives m was buffer s later → Both r s after later
  held_show_same None buffer r s after later p q = (cc, cc)
  held_show_same (Some t) buffer (Ok r) (Ok s) after later p q =
      let same = show_same t buffer r s after later p q in (cc, same.1)
  held_show_same (Some t) buffer (Ok r) (Err s) after later p q = absurd q
  held_show_same (Some t) buffer (Err r) s after later p q = absurd p

  buffer_show_same : (was : Option Tree) (buffer : List ℕ) (r s : Result (Option ℕ) Refusal) (after later : List ℕ) (b : Bool) → leb 1024 (length buffer) ≡ b → BufferShowGives m was buffer r after → BufferShowGives m was buffer s later → Both r s after later
  buffer_show_same was buffer r s after later true b p q =
      held_show_same was buffer r s after later (rw (b, BufferShowGives) at p) (rw (b, BufferShowGives) at q)
  buffer_show_same was buffer r s after later false b p q =
      let x = rw (b, BufferShowGives) at p in let y = rw (b, BufferShowGives) at q in (cc, cc)

  -- two calls of any kind
  gives_same : (was : Option Tree) (q : Request) (r s : Reply) (is so : Option Tree) → Gives m was q r is → Gives m was q s so → Both r s is so
  gives_same was (load words) r s is so p q = loads_same m was words r s is so (m.expansion words) refl p q
  gives_same was (step image) r s is so p q =
      let a = by_step m was image r is p in
      let b = by_step m was image s so q in
      let same = step_same m image was a.0 b.0 is so a.2 b.2 in
      (cc, same.1)
  gives_same was (show buffer) r s is so p q =
      let a = by_show m was buffer r is p in
      let b = by_show m was buffer s so q in
      let same = buffer_show_same was buffer a.0 b.0 a.1 b.1 (leb 1024 (length buffer)) refl a.3 b.3 in
      (cc, cc)

  -- two runs
  pub chain_same : (was : Option Tree) (xs ys : List Moment) → Chain m was xs → Chain m was ys → requests xs ≡ requests ys → replies xs ≡ replies ys
  chain_same was [] [] p q e = refl
  chain_same was [] (y ∷ ys) p q e = apart (cc)
  chain_same was (x ∷ xs) [] p q e = apart (cc)
  chain_same was (x ∷ xs) (y ∷ ys) p q e =
      let asked : y.request ≡ x.request = cc in
      let one = gives_same was x.request x.reply y.reply x.held y.held p.0 (rw asked at q.0) in
      let others = chain_same x.held xs ys p.1 (rw (sym one.1) at q.1) (cc) in
      cc
