-- A term that was shown stands for the pile: it expands to the term that is held there, and no other term does.
use Rattle.std.proofs.Common.{◌≡◌, ℕ, Bool, true, false, leb, List, ◌∷◌, ◌++◌, length, take, drop, Some, None, Ok, Err, vec_items, Option, Result, Vec, sym, refl, ap, ◌∙◌, subst}
use Rattle.std.specs.declared.alloc.Global.{Global}
use Rattle.std.specs.Vec.{with_items}
use Rattle.std.proofs.lemmas.List.{take_at, with_items_is}
use Rattle.terms.specs.Trees.{Tree, written}
use Rattle.terms.proofs.Readings as readings
use Rattle.languages.specs.declared.refusal.Refusal.{Refusal}
use Rattle.languages.specs.declared.calls.Call.{Call}
use Rattle.languages.specs.declared.calls.Call.TheVariants as call
use Rattle.languages.specs.Meaning.{Meaning}
use Rattle.languages.specs.Calls.{Expands, Shows, ShowGives, HeldShowGives, BufferShowGives}
use Rattle.languages.specs.Laws.{Laws}
use Rattle.languages.specs.Promise.{Request, load, step, show, Reply, shown, Moment, held_after, ShownExactly, IfShown, Gives, accepted, ShownTermStandsForThePile, request_of}
use Rattle.languages.proofs.Asked.{apart, load_held}
use Rattle.languages.proofs.Chained.{Chain, kept_chain, chain_front, chain_rest}
use Rattle.languages.proofs.Same.{chain_same}

module _ (m : Meaning) where
  -- a show that was not refused had a long enough buffer
  long_enough : (was : Option Tree) (buffer : List ℕ) (o : Option ℕ) (after : List ℕ) → BufferShowGives m was buffer (Ok o) after → HeldShowGives m was buffer (Ok o) after
  long_enough was buffer o after given = by (leb 1024 (length buffer)) refl
    where
      by : (b : Bool) → leb 1024 (length buffer) ≡ b → HeldShowGives m was buffer (Ok o) after
      by true b = rw (b, BufferShowGives) at given
      by false b = let short = rw (b, BufferShowGives) at given in apart (cc)

  -- the shown words are those of the term
  shown_words : (t : Tree) (buffer : List ℕ) (n : ℕ) (after : List ℕ) (gives : ShowGives m t buffer (Some n) after) → take n after ≡ written gives.0
  shown_words t buffer n after (u, shows, n_is, after_is) = ap (take n) after_is ∙ take_at (written u) (drop n buffer) n (sym n_is)

  -- these words are those of a term that expands to t
  abbrev StandFor : List ℕ → Tree → Type 0
  StandFor words t = (u : Tree) × (words ≡ written u) × Expands m u t

  -- the term that was shown stands for the term that is held, then and afterwards
  shown_stands : (was : Option Tree) (q : Request) (n : ℕ) (after : List ℕ) (is : Option Tree) → Gives m was q (shown (Ok (Some n)) after) is → (t : Tree) × (is ≡ Some t) × StandFor (take n after) t
  shown_stands was (load words) n after is given = absurd given
  shown_stands was (step image) n after is given = absurd given
  shown_stands None (show buffer) n after is given =
      let nothing = long_enough None buffer (Some n) after given.0 in apart (cc)
  shown_stands (Some t) (show buffer) n after is given =
      let gives = long_enough (Some t) buffer (Some n) after given.0 in
      (t, given.2, (gives.0, shown_words t buffer n after gives, gives.1.2))

  -- a load of what stands for t is accepted, and t is held
  stand_in : (was : Option Tree) (words : List ℕ) (t : Tree) (r : Reply) (is : Option Tree) → StandFor words t → Gives m was (load words) r is → (accepted r ≡ true) × (is ≡ Some t)
  stand_in was words t r is (u, same, (e, expands, e_is)) given =
      let held = load_held m was words r is given e (ap m.expansion same ∙ expands) in
      (ap accepted held.0, cc)

  module _ (laws : Laws m) where
    -- the answer of a show is exact: by the law that no two terms have the same expansion, and since no two terms have the same words
    shown_exactly : (t : Tree) (buffer : List ℕ) (o : Option ℕ) (after : List ℕ) → ShowGives m t buffer o after → ShownExactly m t o after
    shown_exactly t buffer (Some n) after gives = λ u. (
      λ shows. let same = laws.one_term t u gives.0 shows.0 gives.1.0 shows.2 gives.1.2 in cc (shown_words t buffer n after gives),
      λ formed words. subst (Shows m t) (sym (readings.one_term u gives.0 formed gives.1.0 (words ∙ shown_words t buffer n after gives))) gives.1,
    )
    shown_exactly t buffer None after gives = gives.0

    if_shown : (was : Option Tree) (buffer : List ℕ) (r : Result (Option ℕ) Refusal) (after : List ℕ) → BufferShowGives m was buffer r after → IfShown m was r after
    if_shown None buffer r after given = tt
    if_shown (Some t) buffer (Err refusal) after given = tt
    if_shown (Some t) buffer (Ok o) after given = shown_exactly t buffer o after (long_enough (Some t) buffer o after given)

    -- a show into a Vec that is lent as a slice: what the slice holds afterwards, the Vec holds
    pub lent_shown : (was is : Option Tree) (asked : Call) (buffer : Vec ℕ Global) (lent after : List ℕ) (r : Result (Option ℕ) Refusal) → asked ≡ call.Show buffer → lent ≡ vec_items buffer → length after ≡ length lent → BufferShowGives m was lent r after → is ≡ was → Gives m was (request_of asked) (shown r (vec_items (with_items buffer after))) is
    lent_shown was is asked buffer lent after r is_show is_lent long given stays =
        let fits : length after ≡ buffer.len = long ∙ ap length is_lent ∙ sym buffer.ok.0 in
        let gives : Gives m was (show lent) (shown r after) is = (given, if_shown was lent r after given, stays) in
        rw (is_show, with_items_is buffer after fits, ← is_lent) gives

    -- so a pile that loads it answers alike from then on
    pub stands_for_the_pile : (start : Option Tree) (run : List Moment) → Chain m start run → ShownTermStandsForThePile m run
    stands_for_the_pile begin run chain before after rest there x first n buffer start e is_shown kept is_load same =
        let was = held_after begin before in
        let here = chain_rest m begin before (x ∷ (after ++ rest)) (rw e at chain) in
        let new = kept_chain m start (first ∷ there) kept in
        let stands = shown_stands was x.request n buffer x.held (rw is_shown at here.0) in
        let held = stand_in start (take n buffer) stands.0 first.reply first.held stands.2 (rw is_load at new.0) in
        let alike : first.held ≡ x.held = cc in
        (held.0, chain_same m laws x.held there after (rw alike at new.1) (chain_front m x.held after rest here.1) same)
