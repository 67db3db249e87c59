-- The account of lines, line by line.
use Rattle.std.proofs.Common.{◌≡◌, ℕ, ◌+◌, ◌<◌, List, [], ◌∷◌, ◌++◌, map, length, get_or, take, Ok, Err, Result, IfOk, sym, refl, ap, ◌∙◌, subst}
use mathlib.Core.List.{map-append}
use Rattle.std.specs.Str.Pattern.{FindsCharPrefix, FindsCharSuffix, IsTrimMatches}
use Rattle.std.proofs.lemmas.List.{take_more}
use Rattle.languages.specs.declared.calls.Call.{Call}
use Rattle.replay.specs.declared.plan.Entry.{Entry}
use Rattle.replay.specs.declared.plan.Entry.TheVariants as entry
use Rattle.replay.specs.Commands.{words_of}
use Rattle.replay.specs.Plans.{Says, SpacesCut, Repeats, SaysOfLine, Plans, PlansAll}

-- what the library cuts the spaces off is a text without the spaces around it
pub spaces_cut : (text bytes line : List ℕ) → text ≡ bytes → IsTrimMatches (λ b o. FindsCharPrefix 32 b o) (λ b o. FindsCharSuffix 32 b o) text line → SpacesCut bytes line
unfolding SpacesCut
spaces_cut text bytes line same cut =
    subst (λ (t : List ℕ). IsTrimMatches (λ b o. FindsCharPrefix 32 b o) (λ b o. FindsCharSuffix 32 b o) t line) same cut

pub plans_none : (entries : List Entry) (calls : List Call) → entries ≡ [] → calls ≡ [] → PlansAll [] [] entries calls
unfolding PlansAll
plans_none entries calls e c = subst (λ (es : List Entry). PlansAll [] [] es calls) (sym e) c

plans_more : (lines : List (List ℕ)) (before : List Call) (entries : List Entry) (mid : List Call) (line : List ℕ) (entry : Entry) (after : List Call) → PlansAll lines before entries mid → SaysOfLine line entry → Repeats (SpacesCut line) entry → Plans (words_of line) mid entry after → PlansAll (lines ++ line ∷ []) before (entries ++ entry ∷ []) after
unfolding PlansAll
plans_more [] before [] mid line entry after all says repeats plans =
    (after, says, repeats, subst (λ (x : List Call). Plans (words_of line) x entry after) all plans, refl)
plans_more [] before (e ∷ es) mid line entry after all says repeats plans = absurd all
plans_more (l ∷ ls) before [] mid line entry after all says repeats plans = absurd all
plans_more (l ∷ ls) before (e ∷ es) mid line entry after all says repeats plans =
    (all.0, all.1, all.2, all.3, plans_more ls all.0 es mid line entry after all.4 says repeats plans)

-- the same with the line at an index of the lines
module _ {V : Type 0} (bytes_of : V → List ℕ) (lines : List V) (i : ℕ) (line : V) where
  lines_more : i < length lines → line ≡ get_or lines i line → map bytes_of (take (i + 1) lines) ≡ map bytes_of (take i lines) ++ bytes_of line ∷ []
  lines_more l is =
      ap (map bytes_of) (take_more lines i line l) ∙ map-append bytes_of (take i lines) (get_or lines i line ∷ []) ∙ ap (λ (v : V). map bytes_of (take i lines) ++ bytes_of v ∷ []) (sym is)

  pub plans_next : (bytes : List ℕ) (entries more : List Entry) (calls after : List Call) (entry : Entry) → i < length lines → line ≡ get_or lines i line → bytes ≡ bytes_of line → more ≡ entries ++ entry ∷ [] → PlansAll (map bytes_of (take i lines)) [] entries calls → SaysOfLine bytes entry × Repeats (SpacesCut bytes) entry × Plans (words_of bytes) calls entry after → PlansAll (map bytes_of (take (i + 1) lines)) [] more after
  plans_next bytes entries more calls after entry l is same items all plans =
      let lines_are : map bytes_of (take (i + 1) lines) ≡ map bytes_of (take i lines) ++ bytes ∷ [] = lines_more l is ∙ ap (λ (b : List ℕ). map bytes_of (take i lines) ++ b ∷ []) (sym same) in
      subst (λ (ls : List (List ℕ)). PlansAll ls [] more after) (sym lines_are)
      (subst (λ (es : List Entry). PlansAll (map bytes_of (take i lines) ++ bytes ∷ []) [] es after) (sym items) (plans_more (map bytes_of (take i lines)) [] entries calls bytes entry after all plans.0 plans.1 plans.2))

-- a call of a load repeats its line's text
repeats_of : (Such : List ℕ → Type 0) (line : List ℕ) (e : Entry) → Such line → Repeats (λ t. t ≡ line) e → Repeats Such e
repeats_of Such line entry.Nothing h r = tt
repeats_of Such line entry.NoText h r = tt
repeats_of Such line (entry.Misread m) h r = tt
repeats_of Such line (entry.MachineMisread m) h r = tt
repeats_of Such line (entry.NoWord w) h r = tt
repeats_of Such line (entry.List header table) h r = tt
repeats_of Such line entry.Held h r = tt
repeats_of Such line (entry.Core text) h r = subst Such (sym r) h
repeats_of Such line (entry.Call text) h r = subst Such (sym r) h

-- what is said by its words is said of a line with these words
says_of : (bytes : List ℕ) (e : Entry) → Says (words_of bytes) e → SaysOfLine bytes e
says_of bytes entry.NoText says = absurd says
says_of bytes entry.Nothing says = says
says_of bytes (entry.Misread m) says = says
says_of bytes (entry.MachineMisread m) says = says
says_of bytes (entry.NoWord w) says = says
says_of bytes (entry.List header table) says = says
says_of bytes entry.Held says = says
says_of bytes (entry.Core text) says = says
says_of bytes (entry.Call text) says = says

-- what is said of a load's words is said of its line
pub load_line : {E : Type 0} (bytes : List ℕ) (ws : List (List ℕ)) (line : List ℕ) (before after : List Call) (r : Result Entry E) → IfOk r (λ e. Says ws e × Repeats (λ t. t ≡ line) e × Plans ws before e after) → SpacesCut bytes line → words_of bytes ≡ ws → IfOk r (λ e. SaysOfLine bytes e × Repeats (SpacesCut bytes) e × Plans (words_of bytes) before e after)
load_line bytes ws line before after (Err error) h cut same = h
load_line bytes ws line before after (Ok e) h cut same =
    (says_of bytes e (subst (λ (xs : List (List ℕ)). Says xs e) (sym same) h.0), repeats_of (SpacesCut bytes) line e cut h.1, subst (λ (xs : List (List ℕ)). Plans xs before e after) (sym same) h.2)
