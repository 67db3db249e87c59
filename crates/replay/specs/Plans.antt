-- What the account says of a line, and the call that the line makes.
use Rattle.std.specs.Prelude.{◌≡◌, ℕ, List, [], ◌∷◌, ◌++◌, replicate, Ok, Err, vec_items, codes}
use Rattle.std.specs.Str.{IsUtf8}
use Rattle.std.specs.Str.Pattern.{FindsCharPrefix, FindsCharSuffix, IsTrimMatches}
use Rattle.languages.specs.declared.calls.Call.{Call}
use Rattle.languages.specs.declared.calls.Call.TheVariants as call
use Rattle.replay.specs.declared.command.Command.TheVariants as command
use Rattle.replay.specs.declared.machine_command.Core.{Core}
use Rattle.replay.specs.declared.machine_command.MachineCommand.TheVariants as machine
use Rattle.replay.specs.declared.plan.Entry.{Entry}
use Rattle.replay.specs.declared.plan.Entry.TheVariants as entry
use Rattle.replay.specs.Numbers.{Spell, NoWordFirst}
use Rattle.replay.specs.Commands.{words_of, Asks}
use Rattle.replay.specs.MachineCommands.{NamesNoMachineCommand, AsksMachine}

-- a line with these words asks for this call: a load has the words that the line spells, a show lends a buffer of zeros
abbrev pub Calls : List (List ℕ) → Call → Type 0
Calls words (call.Load v) = (texts : List (List ℕ)) × (words ≡ codes "load" ∷ texts) × Spell texts (vec_items v)
Calls words (call.Step image) = AsksMachine words (Ok (machine.Step image))
Calls words (call.Show buffer) = (n : ℕ) × AsksMachine words (Ok (machine.Show n)) × (vec_items buffer ≡ replicate n 0)

-- what the account says of a line of text with these words
abbrev pub Says : List (List ℕ) → Entry → Type 0
Says words entry.Nothing = Asks words (Ok command.Nothing)
Says words entry.NoText = ⊥
Says words (entry.Misread m) = NamesNoMachineCommand words × Asks words (Err m)
Says words (entry.MachineMisread m) = AsksMachine words (Err m)
Says words (entry.NoWord w) = (texts : List (List ℕ)) × (words ≡ codes "load" ∷ texts) × NoWordFirst texts w.now
Says words (entry.List header table) = Asks words (Ok (command.List header table))
Says words entry.Held = Asks words (Ok command.Held)
Says words (entry.Core line) = (core : Core) × AsksMachine words (Ok (machine.Core core))
Says words (entry.Call line) = Unit {0}

-- a text without the spaces (byte 32) around it
unfoldable pub SpacesCut : List ℕ → List ℕ → Type 0
SpacesCut text cut = IsTrimMatches (λ b o. FindsCharPrefix 32 b o) (λ b o. FindsCharSuffix 32 b o) text cut

-- what an entry repeats of its line, if it repeats it, is such a text
abbrev pub Repeats : (List ℕ → Type 0) → Entry → Type 0
Repeats Such entry.Nothing = Unit {0}
Repeats Such entry.NoText = Unit {0}
Repeats Such (entry.Misread m) = Unit {0}
Repeats Such (entry.MachineMisread m) = Unit {0}
Repeats Such (entry.NoWord w) = Unit {0}
Repeats Such (entry.List header table) = Unit {0}
Repeats Such entry.Held = Unit {0}
Repeats Such (entry.Core text) = Such text.now
Repeats Such (entry.Call text) = Such text.now

-- what the account says of a line of these bytes: only of bytes that are no text in UTF-8 that they are none
abbrev pub SaysOfLine : List ℕ → Entry → Type 0
SaysOfLine bytes entry.NoText = ¬ IsUtf8 bytes
SaysOfLine bytes entry.Nothing = Says (words_of bytes) entry.Nothing
SaysOfLine bytes (entry.Misread m) = Says (words_of bytes) (entry.Misread m)
SaysOfLine bytes (entry.MachineMisread m) = Says (words_of bytes) (entry.MachineMisread m)
SaysOfLine bytes (entry.NoWord w) = Says (words_of bytes) (entry.NoWord w)
SaysOfLine bytes (entry.List header table) = Says (words_of bytes) (entry.List header table)
SaysOfLine bytes entry.Held = Says (words_of bytes) entry.Held
SaysOfLine bytes (entry.Core line) = Says (words_of bytes) (entry.Core line)
SaysOfLine bytes (entry.Call line) = Says (words_of bytes) (entry.Call line)

-- a line that is a call puts it behind the calls before it, and any other line leaves them
abbrev pub Plans : List (List ℕ) → List Call → Entry → List Call → Type 0
Plans words before (entry.Call line) after = (x : Call) × Calls words x × (after ≡ before ++ x ∷ [])
Plans words before entry.Nothing after = after ≡ before
Plans words before entry.NoText after = after ≡ before
Plans words before (entry.Misread m) after = after ≡ before
Plans words before (entry.MachineMisread m) after = after ≡ before
Plans words before (entry.NoWord w) after = after ≡ before
Plans words before (entry.List header table) after = after ≡ before
Plans words before entry.Held after = after ≡ before
Plans words before (entry.Core line) after = after ≡ before

-- the account of these lines: each says what its line asks for, and the calls stand in the order of the lines
unfoldable pub PlansAll : List (List ℕ) → List Call → List Entry → List Call → Type 0
PlansAll [] before [] after = after ≡ before
PlansAll [] before (e ∷ es) after = ⊥
PlansAll (l ∷ ls) before [] after = ⊥
PlansAll (l ∷ ls) before (e ∷ es) after =
    (next : List Call) × SaysOfLine l e × Repeats (SpacesCut l) e × Plans (words_of l) before e next × PlansAll ls next es after
