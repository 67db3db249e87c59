-- The numbers of a line, by its first word.
use Rattle.std.proofs.Common.{◌≡◌, ℕ, List, Some, None, Option, sym, refl, ap, ◌∙◌}
use Rattle.texts.specs.declared.text.Line.{Line}
use Rattle.texts.specs.declared.text.Line.TheVariants as line
use Rattle.texts.specs.declared.text.Word.{Word}
use Rattle.texts.specs.declared.text.Word.TheVariants as word
use Rattle.texts.specs.Texts.{Reading, numbers, pieces, numbered, head_line, form_line, table_line, rule_line, broken_line}
use Rattle.texts.specs.Pieces.{line_means, fields_of}
use Rattle.lists.specs.Lines.{numbers_of, and_then}

-- a reading of one kind gives its numbers to the test for that kind, and nothing to another
given_back : (kind : List ℕ → Reading) (w : Word) → ((ns : List ℕ) → numbers_of w (kind ns) ≡ Some ns) → numbers_of w broken_line ≡ None → (f : List ℕ) → numbers_of w (numbered kind f) ≡ numbers (pieces 44 f)
unfolding numbered
given_back kind w yes_here no_here f = by (numbers (pieces 44 f))
  where
    by : (o : Option (List ℕ)) → numbers_of w (elim o [ None ↦ broken_line | Some ns ↦ kind ns ]) ≡ o
    by None = no_here
    by (Some ns) = yes_here ns

given_none : (kind : List ℕ → Reading) (w : Word) → ((ns : List ℕ) → numbers_of w (kind ns) ≡ None) → numbers_of w broken_line ≡ None → (f : List ℕ) → numbers_of w (numbered kind f) ≡ None
unfolding numbered
given_none kind w none_here no_here f = by (numbers (pieces 44 f))
  where
    by : (o : Option (List ℕ)) → numbers_of w (elim o [ None ↦ broken_line | Some ns ↦ kind ns ]) ≡ None
    by None = no_here
    by (Some ns) = none_here ns

pub line_numbers : (w : Word) (o : Option Line) → numbers_of w (line_means o) ≡ and_then (fields_of w o) (λ f. numbers (pieces 44 f))
line_numbers word.Head None = refl
line_numbers word.Head (Some (line.Head f)) = given_back (λ ns. head_line ns) word.Head (λ ns. refl) refl f.now
line_numbers word.Head (Some (line.Form f)) = given_none (λ ns. form_line ns) word.Head (λ ns. refl) refl f.now
line_numbers word.Head (Some (line.Table f)) = given_none (λ ns. table_line ns) word.Head (λ ns. refl) refl f.now
line_numbers word.Head (Some (line.Rule f)) = given_none (λ ns. rule_line ns) word.Head (λ ns. refl) refl f.now
line_numbers word.Form None = refl
line_numbers word.Form (Some (line.Head f)) = given_none (λ ns. head_line ns) word.Form (λ ns. refl) refl f.now
line_numbers word.Form (Some (line.Form f)) = given_back (λ ns. form_line ns) word.Form (λ ns. refl) refl f.now
line_numbers word.Form (Some (line.Table f)) = given_none (λ ns. table_line ns) word.Form (λ ns. refl) refl f.now
line_numbers word.Form (Some (line.Rule f)) = given_none (λ ns. rule_line ns) word.Form (λ ns. refl) refl f.now
line_numbers word.Table None = refl
line_numbers word.Table (Some (line.Head f)) = given_none (λ ns. head_line ns) word.Table (λ ns. refl) refl f.now
line_numbers word.Table (Some (line.Form f)) = given_none (λ ns. form_line ns) word.Table (λ ns. refl) refl f.now
line_numbers word.Table (Some (line.Table f)) = given_back (λ ns. table_line ns) word.Table (λ ns. refl) refl f.now
line_numbers word.Table (Some (line.Rule f)) = given_none (λ ns. rule_line ns) word.Table (λ ns. refl) refl f.now
line_numbers word.Rule None = refl
line_numbers word.Rule (Some (line.Head f)) = given_none (λ ns. head_line ns) word.Rule (λ ns. refl) refl f.now
line_numbers word.Rule (Some (line.Form f)) = given_none (λ ns. form_line ns) word.Rule (λ ns. refl) refl f.now
line_numbers word.Rule (Some (line.Table f)) = given_none (λ ns. table_line ns) word.Rule (λ ns. refl) refl f.now
line_numbers word.Rule (Some (line.Rule f)) = given_back (λ ns. rule_line ns) word.Rule (λ ns. refl) refl f.now

-- the same of a line that was looked at
pub line_has : (w : Word) (o : Option Line) (says : Reading) (p : Option (List ℕ)) → line_means o ≡ says → p ≡ fields_of w o → numbers_of w says ≡ and_then p (λ f. numbers (pieces 44 f))
line_has w o says p means e = ap (numbers_of w) (sym means) ∙ line_numbers w o ∙ ap (λ q. and_then q (λ f. numbers (pieces 44 f))) (sym e)
