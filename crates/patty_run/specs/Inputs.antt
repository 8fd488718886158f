-- The files that a program takes, by what they are (this project).
use Rattle.std.specs.Prelude.{ℕ, List, codes}
use Rattle.patty_run.specs.declared.input.Input.{Input}
use Rattle.patty_run.specs.declared.input.Input.TheVariants.{Domain, Problem, Plan}
use Rattle.patty_run.specs.declared.input.NamedInput.{NamedInput}

-- the word that lines have for it
abbrev pub word_of : Input → List ℕ
word_of Domain = codes "domain"
word_of Problem = codes "problem"
word_of Plan = codes "plan"

-- an input, and the name of its file
pub record InputFile : Type 0 where
  pub input : Input
  pub name : List ℕ

abbrev pub input_file : Input → List ℕ → InputFile
input_file input name = record { input = input; name = name }

-- one that the program holds
abbrev pub file_of : NamedInput → InputFile
file_of n = input_file n.input n.name.now
