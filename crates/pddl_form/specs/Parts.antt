-- Lists of a fixed number of parts, each judged in its place: a missing one is a fault at the closing parenthesis, one too
-- many a fault of the list, at its first byte.
use Rattle.std.specs.Prelude.{ℕ, ◌==◌, List, [], ◌∷◌, length}
use Rattle.sexpr.specs.declared.tree.Tree.{Tree}
use Rattle.pddl_form.specs.Faults.{shape}
use Rattle.pddl_form.specs.Judged.{Judged, lacking, both, provided}

abbrev pub pair : {A B : Type 0} → A → B → A × B
pair a b = (a, b)

unfoldable pub one_part : {A : Type 0} → (Tree → Judged A) → ℕ → ℕ → List Tree → Judged A
one_part form start end [] = lacking end
one_part form start end (t ∷ more) = provided (length more == 0) (shape start) (form t)

unfoldable pub two_parts : {A B : Type 0} → (Tree → Judged A) → (Tree → Judged B) → ℕ → ℕ → List Tree → Judged (A × B)
two_parts first second start end [] = lacking end
two_parts first second start end (t ∷ []) = both pair (first t) (lacking end)
two_parts first second start end (t ∷ u ∷ more) = provided (length more == 0) (shape start) (both pair (first t) (second u))
