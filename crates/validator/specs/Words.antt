-- The words of a command.
use Rattle.std.specs.Prelude.{List, [], ◌∷◌, Option, Some, None, String, string_bytes}
use Rattle.std.specs.declared.alloc.Global.{Global}
use Rattle.patty_run.specs.declared.input.Input.TheVariants as input
use Rattle.patty_run.specs.Inputs.{InputFile, input_file}

-- the files of the domain, the problem and the plan, where the words are their three names
abbrev pub files_of : List (String Global) → Option (List InputFile)
files_of (domain ∷ problem ∷ plan ∷ []) =
    Some (input_file input.Domain (string_bytes domain) ∷ input_file input.Problem (string_bytes problem) ∷ input_file input.Plan (string_bytes plan) ∷ [])
files_of words = None
