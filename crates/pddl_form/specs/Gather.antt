-- Parts that are read one after another.
use Rattle.std.specs.Prelude.{List, [], ◌∷◌, ◌++◌, Option, Some, None}
use Rattle.std.specs.List.{flat_map}

-- a function of two answers, where there are both
abbrev pub option_both : {A B C : Type 0} → (A → B → C) → Option A → Option B → Option C
option_both g None b = None
option_both g (Some a) None = None
option_both g (Some a) (Some b) = Some (g a b)

-- a function of the parts so far, and one more part
abbrev pub apply : {A B : Type 0} → (A → B) → A → B
apply f a = f a

abbrev pub push : {A : Type 0} → List A → A → List A
push found one = found ++ one ∷ []

-- lists one behind another
abbrev pub joined : {A : Type 0} → List (List A) → List A
joined lists = flat_map (λ l. l) lists
