-- Parts that are put into a whole, one behind another.
use Rattle.std.specs.Prelude.{List, [], ◌∷◌}

abbrev pub put_all : {A S : Type 0} → (A → S → A) → A → List S → A
put_all put whole [] = whole
put_all put whole (part ∷ parts) = put_all put (put whole part) parts
