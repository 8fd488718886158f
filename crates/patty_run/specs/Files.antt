-- What the files of a program hold, one after another (this project).
use Rattle.std.specs.Prelude.{◌≡◌, ◌⊎◌, ℕ, ◌<◌, ◌≤◌, List, [], ◌∷◌, length, Option, Some, None}
use Rattle.patty_io.specs.Faults.{Rose}
use Rattle.patty_io.specs.Shelf.{limit, Tells}
use Rattle.patty_run.specs.declared.input.Input.{Input}
use Rattle.patty_run.specs.Inputs.{InputFile}
use Rattle.patty_run.specs.Outside.{Files, FailsAlone}

-- some bytes, which are what a file holds, where that is told, and not too long
pub record IsHeld (told : Option (List ℕ)) (bytes : List ℕ) : Type 0 where
  pub small : length bytes ≤ limit
  pub same : Tells told bytes

-- what a file holds, where that is told, is too long
abbrev pub IsTooLong : Option (List ℕ) → Type 0
IsTooLong None = Unit {0}
IsTooLong (Some bytes) = limit < length bytes

-- each file holds its bytes
abbrev pub AreHeld : (List ℕ → Option (List ℕ)) → List InputFile → List (List ℕ) → Type 0
AreHeld content [] [] = Unit {0}
AreHeld content [] (bytes ∷ more) = ⊥
AreHeld content (file ∷ named) [] = ⊥
AreHeld content (file ∷ named) (bytes ∷ more) = IsHeld (content file.name) bytes × AreHeld content named more

-- the files in front of this input are held, and this is so of its name
abbrev pub StopsAt : (List ℕ → Option (List ℕ)) → (List ℕ → Type 0) → List InputFile → Input → Type 0
StopsAt content IsSo [] input = ⊥
StopsAt content IsSo (file ∷ named) input =
    ((file.input ≡ input) × IsSo file.name) ⊎ (((bytes : List ℕ) × IsHeld (content file.name) bytes) × StopsAt content IsSo named input)

-- the first file that isn't held is too long
abbrev pub IsLong : Files → List InputFile → Input → Type 0
IsLong files named input = StopsAt files.content (λ name. IsTooLong (files.content name)) named input

-- the first file that isn't held can't be read: taking it failed once, and no other file failed
abbrev pub FailsAt : Files → List InputFile → Input → Type 0
FailsAt files named input = StopsAt files.content (FailsAlone files) named input

-- ---- files that are told, and that didn't fail

-- a file is told to hold these bytes, which aren't too many
pub record IsTold (files : Files) (name bytes : List ℕ) : Type 0 where
  pub is : files.content name ≡ Some bytes
  pub small : length bytes ≤ limit
  pub well : Rose (files.failed_before name) (files.failed name) → ⊥

-- a file is told to hold too many bytes
pub record IsToldLong (files : Files) (name : List ℕ) : Type 0 where
  pub bytes : List ℕ
  pub is : files.content name ≡ Some bytes
  pub long : limit < length bytes
  pub well : Rose (files.failed_before name) (files.failed name) → ⊥

-- each file is told to hold its bytes
abbrev pub AreTold : Files → List InputFile → List (List ℕ) → Type 0
AreTold files [] [] = Unit {0}
AreTold files [] (bytes ∷ more) = ⊥
AreTold files (file ∷ named) [] = ⊥
AreTold files (file ∷ named) (bytes ∷ more) = IsTold files file.name bytes × AreTold files named more

-- the files in front of this input are told, and it is told to be too long
abbrev pub IsLongAt : Files → List InputFile → Input → Type 0
IsLongAt files [] input = ⊥
IsLongAt files (file ∷ named) input =
    ((file.input ≡ input) × IsToldLong files file.name) ⊎ (((bytes : List ℕ) × IsTold files file.name bytes) × IsLongAt files named input)
