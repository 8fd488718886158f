-- What a loop comes to, item by item, and the operations that it makes in order.
use Rattle.std.specs.Prelude.{List, [], ◌∷◌, ◌++◌}
use Rattle.frac128.specs.declared.operations.Wide.{Wide}

abbrev pub run : {S X : Type 0} → (S → X → S) → S → List X → S
run next s [] = s
run next s (x ∷ xs) = run next (next s x) xs

abbrev pub ops_run : {S X : Type 0} → (S → X → S) → (S → X → List Wide) → S → List X → List Wide
ops_run next ops s [] = []
ops_run next ops s (x ∷ xs) = ops s x ++ ops_run next ops (next s x) xs
