-- What a line of a job asks of the machine, by its words.
use Rattle.std.specs.Prelude.{◌≡◌, ℕ, ◌⊎◌, List, [], ◌∷◌, length, Some, None, Ok, Err, codes, Result, MatchResult, ◌≢◌}
use Rattle.std.specs.Borrow.{Bor}
use Rattle.replay.specs.declared.machine_command.MachineCommand.{MachineCommand}
use Rattle.replay.specs.declared.machine_command.MachineCommand.TheVariants as command
use Rattle.replay.specs.declared.machine_command.MachineCommand.TheVariants.{Load, Step, Show}
use Rattle.replay.specs.declared.machine_command.MachineMisread.{MachineMisread}
use Rattle.replay.specs.declared.machine_command.MachineMisread.TheVariants.{WrongWords, NoCore, NoNumber}
use Rattle.replay.specs.declared.machine_command.Core.TheVariants.{Logic, Sequence}
use Rattle.texts.specs.Numbers.{number_of}
use Rattle.replay.specs.Commands.{words_of}

-- the answer that the command is used otherwise
abbrev pub IsMisuse : List ℕ → MachineMisread → Type 0
IsMisuse usage (WrongWords u) = u.now ≡ usage
IsMisuse usage (NoCore w) = ⊥
IsMisuse usage (NoNumber w) = ⊥

-- the one of these words, or how the command is used if it isn't one
abbrev pub OnlyWord : List (List ℕ) → List ℕ → Result (Bor (List ℕ)) MachineMisread → Type 0
OnlyWord words usage r = MatchResult r (λ x. words ≡ x.now ∷ []) (λ e. (length words ≢ 1) × IsMisuse usage e)

-- the first of these words, if there is one, is none of the four that the machine's commands begin with
abbrev pub NamesNoMachineCommand : List (List ℕ) → Type 0
NamesNoMachineCommand words =
    (w : List ℕ) (ws : List (List ℕ)) → words ≡ w ∷ ws → (w ≢ codes "core") × (w ≢ codes "load") × (w ≢ codes "step") × (w ≢ codes "show")

-- words with the wrong number of words behind the command's name, and how the command is used
abbrev pub Misused : List (List ℕ) → List ℕ → Type 0
Misused words usage =
    (ws : List (List ℕ)) × (((words ≡ codes "core" ∷ ws) × (length ws ≢ 1) × (usage ≡ codes "core logic or core sequence")) ⊎ (((words ≡ codes "step" ∷ ws) × (length ws ≢ 1) × (usage ≡ codes "step IMAGE")) ⊎ ((words ≡ codes "show" ∷ ws) × (length ws ≢ 0) × (length ws ≢ 1) × (usage ≡ codes "show or show LENGTH"))))

-- what a line with these words asks of the machine: every line that begins with one of the four words falls under one case
abbrev pub AsksMachine : List (List ℕ) → Result MachineCommand MachineMisread → Type 0
AsksMachine words (Ok (command.Core Logic)) = words ≡ codes "core" ∷ codes "logic" ∷ []
AsksMachine words (Ok (command.Core Sequence)) = words ≡ codes "core" ∷ codes "sequence" ∷ []
AsksMachine words (Ok (Load text)) = words ≡ codes "load" ∷ words_of text.now
AsksMachine words (Ok (Step image)) = (d : List ℕ) × (words ≡ codes "step" ∷ d ∷ []) × (number_of 4294967295 d ≡ Some image)
AsksMachine words (Ok (Show n)) =
    ((words ≡ codes "show" ∷ []) × (n ≡ 1024)) ⊎ ((d : List ℕ) × (words ≡ codes "show" ∷ d ∷ []) × (number_of 4096 d ≡ Some n))
AsksMachine words (Err (WrongWords usage)) = Misused words usage.now
AsksMachine words (Err (NoCore w)) = (words ≡ codes "core" ∷ w.now ∷ []) × (w.now ≢ codes "logic") × (w.now ≢ codes "sequence")
AsksMachine words (Err (NoNumber w)) =
    ((words ≡ codes "step" ∷ w.now ∷ []) × (number_of 4294967295 w.now ≡ None)) ⊎ ((words ≡ codes "show" ∷ w.now ∷ []) × (number_of 4096 w.now ≡ None))
