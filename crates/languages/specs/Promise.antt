-- The promise over whole runs of calls, for any language.
use Rattle.std.specs.Prelude.{◌≡◌, ℕ, Bool, true, false, ◌&&◌, List, [], ◌∷◌, ◌++◌, map, take, Some, None, Ok, Err, vec_items, Option, Result}
use Rattle.terms.specs.Trees.{Tree, written, WellFormed, bare, Unmarked}
use Rattle.languages.specs.declared.refusal.Refusal.{Refusal}
use Rattle.languages.specs.declared.answers.Loaded.{Loaded}
use Rattle.languages.specs.declared.answers.Stepped.{Stepped}
use Rattle.languages.specs.declared.answers.Stepped.TheVariants.{Moved, Ended, Stuck, Full}
use Rattle.languages.specs.declared.calls.Call.{Call}
use Rattle.languages.specs.declared.calls.Call.TheVariants as call
use Rattle.languages.specs.declared.calls.Answer.{Answer}
use Rattle.languages.specs.declared.calls.Answer.TheVariants as answer
use Rattle.languages.specs.Meaning.{Move, moved, ended, stuck, Meaning}
use Rattle.languages.specs.Calls.{Loads, StepGives, Shows, BufferShowGives}
use Rattle.languages.specs.Laws.{HoldsCore}

-- a call: the words to load, the image of a step, or what the lent buffer holds
pub data Request : Type 0 where
  load : List ℕ → Request
  step : ℕ → Request
  show : List ℕ → Request

-- its answer; of a show the buffer afterwards too
pub data Reply : Type 0 where
  loaded : Result Loaded Refusal → Reply
  stepped : Result Stepped Refusal → Reply
  shown : Result (Option ℕ) Refusal → List ℕ → Reply

-- one call of a run: what was asked, what was answered, and what is held from then on
pub record Moment : Type 0 where
  pub request : Request
  pub reply : Reply
  pub held : Option Tree

abbrev pub requests : List Moment → List Request
requests = map (λ x. x.request)

abbrev pub replies : List Moment → List Reply
replies = map (λ x. x.reply)

-- what is held behind these moments
unfoldable pub held_after : Option Tree → List Moment → Option Tree
held_after start [] = start
held_after start (x ∷ xs) = held_after x.held xs

-- with a term t held and the buffer long enough, a term is shown exactly when it expands to t, and nothing exactly when none does
abbrev pub ShownExactly : Meaning → Tree → Option ℕ → List ℕ → Type 0
ShownExactly m t (Some n) after = (u : Tree) → (Shows m t u → written u ≡ take n after) × (WellFormed u → written u ≡ take n after → Shows m t u)
ShownExactly m t None after = (u : Tree) → Shows m t u → ⊥

abbrev pub IfShown : Meaning → Option Tree → Result (Option ℕ) Refusal → List ℕ → Type 0
IfShown m None r after = Unit {0}
IfShown m (Some t) (Err refusal) after = Unit {0}
IfShown m (Some t) (Ok o) after = ShownExactly m t o after

-- the reply to the request, and what is held afterwards, are those that the meaning gives
abbrev pub Gives : Meaning → Option Tree → Request → Reply → Option Tree → Type 0
Gives m was (load words) (loaded r) is = Loads m words was r is
Gives m was (load words) (stepped r) is = ⊥
Gives m was (load words) (shown r after) is = ⊥
Gives m was (step image) (loaded r) is = ⊥
Gives m was (step image) (stepped r) is = StepGives m image was r is
Gives m was (step image) (shown r after) is = ⊥
Gives m was (show buffer) (loaded r) is = ⊥
Gives m was (show buffer) (stepped r) is = ⊥
Gives m was (show buffer) (shown r after) is = BufferShowGives m was buffer r after × IfShown m was r after × (is ≡ was)

-- a run of a language of this meaning, with `start` held at first: each reply, and what each call leaves held, is what the meaning gives
abbrev pub Kept : Meaning → Option Tree → List Moment → Type 0
Kept m start run =
    (before after : List Moment) (x : Moment) → run ≡ before ++ (x ∷ after) → Gives m (held_after start before) x.request x.reply x.held

-- whether a load was accepted
abbrev pub accepted : Reply → Bool
accepted (loaded (Ok l)) = true
accepted (loaded (Err refusal)) = false
accepted (stepped r) = false
accepted (shown r after) = false

-- A pile is a language with all the layers that it has. A term that was shown, loaded into any pile of the same meaning, is accepted there. From that show here and that load there, both answer alike whatever calls they get alike.
abbrev pub ShownTermStandsForThePile : Meaning → List Moment → Type 0
ShownTermStandsForThePile m run =
    (before after rest there : List Moment) (x first : Moment) (n : ℕ) (buffer : List ℕ) (start : Option Tree) →
    run ≡ before ++ (x ∷ (after ++ rest)) → x.reply ≡ shown (Ok (Some n)) buffer →
    Kept m start (first ∷ there) → first.request ≡ load (take n buffer) → requests there ≡ requests after →
    (accepted first.reply ≡ true) × (replies there ≡ replies after)

-- no load was accepted, and no step was full
abbrev pub undisturbed : Reply → Bool
undisturbed (loaded (Ok l)) = false
undisturbed (loaded (Err refusal)) = true
undisturbed (stepped (Ok (Moved effect))) = true
undisturbed (stepped (Ok Ended)) = true
undisturbed (stepped (Ok Stuck)) = true
undisturbed (stepped (Ok Full)) = false
undisturbed (stepped (Err refusal)) = true
undisturbed (shown r after) = true

unfoldable pub all_undisturbed : List Moment → Bool
all_undisturbed [] = true
all_undisturbed (x ∷ xs) = undisturbed x.reply && all_undisturbed xs

-- The plain model holds a term without marks, has no capacity, and is fed the images of the steps.
abbrev pub plain_next : Tree → Move → Tree
plain_next t (moved effect next) = next
plain_next t ended = t
plain_next t stuck = t

abbrev pub plain_answer : Move → Stepped
plain_answer (moved effect next) = Moved effect
plain_answer ended = Ended
plain_answer stuck = Stuck

-- what the model holds behind these images
unfoldable pub plain_after : Meaning → Tree → List ℕ → Tree
plain_after m t [] = t
plain_after m t (image ∷ images) = plain_after m (plain_next t (m.rule t image)) images

-- what it answers to them
unfoldable pub plain_answers : Meaning → Tree → List ℕ → List Stepped
plain_answers m t [] = []
plain_answers m t (image ∷ images) = plain_answer (m.rule t image) ∷ plain_answers m (plain_next t (m.rule t image)) images

-- the images and the answers of the steps that were not refused
abbrev pub step_of : Request → Reply → List (ℕ × Stepped)
step_of (load words) r = []
step_of (step image) (loaded r) = []
step_of (step image) (stepped (Ok s)) = (image, s) ∷ []
step_of (step image) (stepped (Err refusal)) = []
step_of (step image) (shown r after) = []
step_of (show buffer) r = []

unfoldable pub steps_of : List Moment → List (ℕ × Stepped)
steps_of [] = []
steps_of (x ∷ xs) = step_of x.request x.reply ++ steps_of xs

abbrev pub images_of : List Moment → List ℕ
images_of xs = map (λ s. s.0) (steps_of xs)

abbrev pub answers_of : List Moment → List Stepped
answers_of xs = map (λ s. s.1) (steps_of xs)

-- From an accepted load of a term without marks, as long as no load is accepted and no step is full: the steps answer as the plain model does, which holds the term's plain expansion and passes over shows and refused calls; and the term held is, with its marks off, the model's.
abbrev pub StepsAreThePlainModels : Meaning → List Moment → Type 0
StepsAreThePlainModels m run =
    (before since rest : List Moment) (x : Moment) (u : Tree) →
    run ≡ before ++ (x ∷ (since ++ rest)) → WellFormed u → Unmarked u → x.request ≡ load (written u) → accepted x.reply ≡ true → all_undisturbed since ≡ true →
    (answers_of since ≡ plain_answers m (m.plain u) (images_of since)) × ((t : Tree) × (held_after x.held since ≡ Some t) × (bare t ≡ plain_after m (m.plain u) (images_of since)))

-- At every point of the run nothing is held, as when new, or one core term, if that was so at first.
abbrev pub HoldsCoreTerms : Meaning → Option Tree → List Moment → Type 0
HoldsCoreTerms m start run =
    HoldsCore m start → (front rest : List Moment) → run ≡ front ++ rest → HoldsCore m (held_after start front)

-- the whole promise, of a run of a language with `start` held at first
pub record Promise (m : Meaning) (start : Option Tree) (run : List Moment) : Type 0 where
  pub every_answer_is_the_meanings : Kept m start run
  pub core_terms_are_held : HoldsCoreTerms m start run
  pub a_shown_term_stands_for_the_pile : ShownTermStandsForThePile m run
  pub steps_are_the_plain_models : StepsAreThePlainModels m run

-- the calls and the answers of the code, as requests and replies
abbrev pub request_of : Call → Request
request_of (call.Load words) = load (vec_items words)
request_of (call.Step image) = step image
request_of (call.Show buffer) = show (vec_items buffer)

abbrev pub reply_of : Answer → Reply
reply_of (answer.Load r) = loaded r
reply_of (answer.Step r) = stepped r
reply_of (answer.Show r buffer) = shown r (vec_items buffer)

-- these calls, made of a language that held `start`, got these answers and left `end` held; the whole promise holds of that run
abbrev pub Ran : Meaning → Option Tree → Option Tree → List Call → List Answer → Type 0
Ran m start end calls answers =
    (run : List Moment) × (requests run ≡ map request_of calls) × (replies run ≡ map reply_of answers) × (held_after start run ≡ end) × Promise m start run
