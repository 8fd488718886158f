-- What a task keeps beside its parts.
use Rattle.std.specs.Prelude.{◌≡◌, ℕ, ◌<◌, Bool, false, ◌||◌, List, length, slice_index_or}
use Rattle.pddl_task.specs.declared.parts.TaskParts.{TaskParts}
use Rattle.pddl_task.specs.Task.{names_of, parents, AreFlags, is_changing_pred, is_changing_func}
use Rattle.pddl_task.specs.WellFormed.{IsWellFormed}

pub record IsKept (parts : TaskParts) (type_names : List (List ℕ)) (above : List ℕ) (changing_preds changing_funcs : List Bool) : Type 0 where
  pub names : type_names ≡ names_of parts.types
  pub hierarchy : above ≡ parents parts.types
  pub well_formed : IsWellFormed parts
  pub preds : AreFlags changing_preds (is_changing_pred parts.actions) (length parts.preds)
  pub funcs : AreFlags changing_funcs (is_changing_func parts.actions) (length parts.funcs)

-- the flags of those of which this is true are set, and no other is touched
abbrev pub Marks : List Bool → List Bool → (ℕ → Bool) → Type 0
Marks old new is_so = (k : ℕ) → k < length old → slice_index_or new k false ≡ (slice_index_or old k false || is_so k)
