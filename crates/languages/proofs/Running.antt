-- The loop that makes the calls: what is done is a chain, and at the end the whole promise holds.
use Rattle.std.proofs.Common.{◌≡◌, List, [], ◌∷◌, ◌++◌, map, Option, sym, refl, ap}
use Rattle.std.proofs.lemmas.List.{append-nil, append_assoc, map_push}
use Rattle.terms.specs.Trees.{Tree}
use Rattle.languages.specs.declared.calls.Call.{Call}
use Rattle.languages.specs.declared.calls.Answer.{Answer}
use Rattle.languages.specs.Meaning.{Meaning}
use Rattle.languages.specs.Laws.{Laws}
use Rattle.languages.specs.Promise.{Moment, requests, replies, held_after, Gives, Promise, request_of, reply_of, Ran}
use Rattle.languages.proofs.Chained.{Chain, chain_kept, chain_more, held_more}
use Rattle.languages.proofs.Cores.{core_held}
use Rattle.languages.proofs.Shown.{stands_for_the_pile}
use Rattle.languages.proofs.Plain.{steps_are_plain}

-- a chain keeps the whole promise
promised : (m : Meaning) → Laws m → (start : Option Tree) (run : List Moment) → Chain m start run → Promise m start run
promised m laws start run chain =
    record { every_answer_is_the_meanings = chain_kept m start run chain; core_terms_are_held = core_held m laws start run chain; a_shown_term_stands_for_the_pile = stands_for_the_pile m laws start run chain; steps_are_the_plain_models = steps_are_plain m laws start run chain }

-- of these calls some are left; those that were made got these answers, and left `held` held
abbrev pub Going : Meaning → Option Tree → Option Tree → List Call → List Call → List Answer → Type 0
Going m start held calls left answers =
    (done : List Moment) × (requests done ++ map request_of left ≡ map request_of calls) × (replies done ≡ map reply_of answers) × (held_after start done ≡ held) × Chain m start done

module _ (m : Meaning) (start : Option Tree) (calls left : List Call) (answers : List Answer) where
  -- before the first call
  pub none_made : left ≡ calls → answers ≡ [] → Going m start start calls left answers
  unfolding held_after
  none_made all none = ([], ap (map request_of) all, ap (map reply_of) (sym none), refl, tt)

  module _ (held : Option Tree) (going : Going m start held calls left answers) where
    -- one more call, by a language whose meaning stayed
    pub one_made : (now : Meaning) (is : Option Tree) (rest : List Call) (call : Call) (more : List Answer) (answer : Answer) → now ≡ m → left ≡ call ∷ rest → more ≡ answers ++ (answer ∷ []) → Gives now held (request_of call) (reply_of answer) is → Going m start is calls rest more
    one_made now is rest call more answer stays next pushed gives =
        let done = going.0 in
        let x : Moment = record { request = request_of call; reply = reply_of answer; held = is } in
        let asked = map_push (λ y. y.request) done x in
        let grouped = append_assoc (requests done) (request_of call ∷ []) (map request_of rest) in
        let were_left = ap (map request_of) next in
        let replied = map_push (λ y. y.reply) done x in
        let answered = map_push reply_of answers answer in
        (done ++ (x ∷ []), cc, cc, held_more start done x, chain_more m start done x going.4 (rw (stays, ← going.3) at gives))

    -- after the last call
    pub all_made : Laws m → left ≡ [] → Ran m start held calls answers
    all_made laws none =
        let whole = append-nil (requests going.0) in
        let none_left = ap (map request_of) none in
        (going.0, cc, going.2, going.3, promised m laws start going.0 going.4)
