-- The values of functions behind an occurrence: increments are made as often as its count says, and new values are variables.
use Rattle.std.specs.Prelude.{◌≡◌, ℕ, ◌∷◌, [], ◌++◌, List, Result, Ok, Err}
use Rattle.rational.specs.Fraction.{Fraction}
use Rattle.rational.specs.Linear.{Terms}
use Rattle.frac128.specs.declared.operations.Wide.{Wide}
use Rattle.lin.specs.Linear.{Linear, var, scale, replacement_of}
use Rattle.lin.specs.Made.{add_ops, scale_ops}
use Rattle.lin.specs.Operations.{AllFit, IsRefusal}
use Rattle.lin.specs.declared.failure.LinFail.{LinFail}
use Rattle.task_core.specs.declared.action.GAction.{GAction}
use Rattle.encode_laws.specs.Symbolic.{grown, grown_ops, symbolic_value}

-- one increment
abbrev pub increment_ops : ℕ → (ℕ → Linear) → ℕ × Fraction → List Wide
increment_ops c old q = scale_ops q.1 (var c) ++ add_ops (old q.0) (scale q.1 (var c))

abbrev pub Increments : {X : Type 0} → ℕ → ℕ × Fraction → List Linear → List Linear → Result X LinFail → Type 0
Increments c q old new (Ok x) = AllFit (increment_ops c (replacement_of old) q) × ((f : ℕ) → replacement_of new f ≡ grown c (q ∷ []) f (replacement_of old f))
Increments c q old new (Err e) = IsRefusal (increment_ops c (replacement_of old) q) e

-- all increments
abbrev pub Grows : {X : Type 0} → ℕ → Terms → List Linear → List Linear → Result X LinFail → Type 0
Grows c incs old new (Ok x) = AllFit (grown_ops c (replacement_of old) incs) × ((f : ℕ) → replacement_of new f ≡ grown c incs f (replacement_of old f))
Grows c incs old new (Err e) = IsRefusal (grown_ops c (replacement_of old) incs) e

-- new values alone, whose variables are w, w + 1, ..
abbrev pub set_value : (ℕ → Linear) → ℕ → List (ℕ × Linear) → ℕ → Linear
set_value old w sets f = symbolic_value old 0 [] w sets f

abbrev pub SetsVariables : ℕ → List (ℕ × Linear) → List Linear → List Linear → Type 0
SetsVariables w sets old new = (f : ℕ) → replacement_of new f ≡ set_value (replacement_of old) w sets f

-- the values behind an occurrence
abbrev pub Renews : {X : Type 0} → ℕ → ℕ → GAction → List Linear → List Linear → Result X LinFail → Type 0
Renews c w a old new (Ok x) = AllFit (grown_ops c (replacement_of old) a.incs) × ((f : ℕ) → replacement_of new f ≡ symbolic_value (replacement_of old) c a.incs w a.sets f)
Renews c w a old new (Err e) = IsRefusal (grown_ops c (replacement_of old) a.incs) e
