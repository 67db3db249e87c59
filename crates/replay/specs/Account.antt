-- What the account says of lists and calls.
use Rattle.std.specs.Prelude.{ℕ, cond, List, [], ◌++◌, Some, Ok, Err, codes, decimal, Option, Result, ◌==◌}
use Rattle.std.specs.Option.{option_map}
use Rattle.terms.specs.declared.fault.Fault.{Fault}
use Rattle.lists.specs.declared.refusal.Refusal.{Refusal}
use Rattle.lists.specs.Refusals.{fault_of}
use Rattle.replay.specs.declared.verdict.Summary.{Summary}
use Rattle.replay.specs.declared.account.Accepted.{Accepted}

-- the sentence of each cause of a list's refusal
abbrev pub sentence_of : ℕ → List ℕ
sentence_of cause =
    cond (cause == 10) (codes "a text has more than 16,384 bytes")
    (cond (cause == 11) (codes "a line breaks its pattern or a range")
    (cond (cause == 12) (codes "a line is missing or stands past the declared count")
    (cond (cause == 13) (codes "a side of a rule has the wrong shape")
    (cond (cause == 14) (codes "a variable stands twice on a side, or on the right alone")
    (cond (cause == 15) (codes "a rule overlaps an earlier one")
    (cond (cause == 16) (codes "a form has no rule")
    (cond (cause == 19) (codes "there was no memory to read the list into")
    [])))))))

-- the sentence of each cause of a call's refusal
abbrev pub call_sentence : ℕ → List ℕ
call_sentence cause =
    cond (cause == 20) (codes "the layer does not stand above what is below it")
    (cond (cause == 21) (codes "the term has more words than may be loaded")
    (cond (cause == 22) (codes "the words are not one well-formed term")
    (cond (cause == 23) (codes "a mark of this layer or a lower one stands in the term")
    (cond (cause == 24) (codes "no rule matches a form of this layer")
    (cond (cause == 25) (codes "the expansion has more words than may be held")
    (cond (cause == 26) (codes "the core language has no form with this label and count")
    (cond (cause == 30) (codes "nothing is held")
    (cond (cause == 31) (codes "the buffer has fewer than 1,024 words")
    []))))))))

-- a refusal is told by its numbers and its sentence
abbrev pub refused_text : Fault → List ℕ → List ℕ
refused_text f sentence = codes "refused, cause " ++ (decimal f.cause ++ (codes ", layer " ++ (decimal f.layer ++ (codes ", place " ++ (decimal f.place ++ (codes ": " ++ sentence))))))

-- an answer is told as it is written, and a refusal by its numbers and sentence
abbrev pub outcome_text : {T R : Type 0} → (T → Option (List ℕ)) → (R → Fault) → (R → List ℕ) → Result T R → Option (List ℕ)
outcome_text written fault sentence (Ok answer) = written answer
outcome_text written fault sentence (Err refusal) = Some (refused_text (fault refusal) (sentence refusal))

abbrev pub accepted_text : Option (List ℕ) → Option (List ℕ)
accepted_text text = option_map (λ s. codes "accepted, " ++ s) text

abbrev pub summary_text : Summary → List ℕ
summary_text s = codes "layer " ++ (decimal s.layer ++ (codes ", forms " ++ (decimal s.forms ++ (codes ", rules " ++ decimal s.rules))))

abbrev pub verdict_text : Result (Accepted Summary) Refusal → List ℕ
verdict_text (Ok accepted) = codes "accepted, " ++ summary_text accepted.0
verdict_text (Err refusal) = refused_text (fault_of refusal) (sentence_of (fault_of refusal).cause)

abbrev pub list_text : List ℕ → List ℕ → Result (Accepted Summary) Refusal → List ℕ
list_text header table verdict = codes "list " ++ (header ++ (codes " " ++ (table ++ (codes ": " ++ verdict_text verdict))))
