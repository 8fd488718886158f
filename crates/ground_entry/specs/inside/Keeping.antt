-- An instance is kept with its draft, where fewer than so many are.
use Rattle.std.specs.Prelude.{◌≡◌, ℕ, ◌<◌, ◌≤◌, [], ◌∷◌, ◌++◌, length, Result, Ok, Err, ⊤}
use Rattle.pddl_task.specs.declared.instance.Instance.{Instance}
use Rattle.ground_draft.specs.declared.draft.Draft.{Draft}
use Rattle.ground_entry.specs.declared.walk.Walk.{Walk}
use Rattle.ground_entry.specs.declared.failure.GroundFail.{GroundFail}
use Rattle.ground_entry.specs.declared.failure.GroundFail.TheVariants.{Many, CoefWide, Memory}

pub record IsAdded (limit : ℕ) (old : Walk) (by : Instance) (draft : Draft) (new : Walk) : Type 0 where
  pub room : length old.instances < limit
  pub is : new ≡ record { tables = old.tables; instances = old.instances ++ by ∷ []; drafts = old.drafts ++ draft ∷ [] }

abbrev pub Keeps : {T : Type 0} → ℕ → Walk → Instance → Draft → Result T GroundFail → Walk → Type 0
Keeps limit old by draft (Ok done) new = IsAdded limit old by draft new
Keeps limit old by draft (Err Many) new = limit ≤ length old.instances
Keeps limit old by draft (Err (CoefWide w)) new = ⊥
Keeps limit old by draft (Err Memory) new = ⊤
