-- Linear expressions: normal terms and a constant, so that two are equal (`≡`) exactly where they have the same constant and
-- the same coefficient of each variable. The rules are those of linear algebra.
use Rattle.std.specs.Prelude.{◌≡◌, ℕ, true, List, [], ◌∷◌, ◌++◌, map, nat_lt, slice_index_or, refl}
use Rattle.std.specs.List.{list_all}
use lib.IntN.{pos}
use Rattle.rational.specs.Fraction.{Fraction, whole, ◌+ℚ◌, ◌*ℚ◌}
use Rattle.rational.specs.Linear.{Terms, value_at}
use Rattle.lin.specs.Normal.{IsNormal, collected}
use Rattle.lin.specs.NormalLaws.{normal-collected, normal-one}

pub record Linear : Type 0 where
  pub terms : Terms
  pub constant : Fraction
  pub normal : IsNormal terms

-- the expression with these terms, in which a variable may stand more than once
abbrev pub linear_of : Terms → Fraction → Linear
linear_of ts c = record { terms = collected ts; constant = c; normal = normal-collected ts }

-- ---- values
-- the value at a point, which gives each variable a fraction
abbrev pub value_of : (ℕ → Fraction) → Linear → Fraction
value_of at l = value_at at l.terms +ℚ l.constant

-- the point that a list of values is; variables past its end are 0
abbrev pub point_of : List Fraction → ℕ → Fraction
point_of values v = slice_index_or values v (whole (pos 0))

-- each variable is below `vars`
abbrev pub AreBelow : ℕ → Terms → Type 0
AreBelow vars ts = list_all (λ t. nat_lt t.0 vars) ts ≡ true

-- ---- making them
abbrev pub fixed : Fraction → Linear
fixed c = record { terms = []; constant = c; normal = refl }

abbrev pub var : ℕ → Linear
var n = record { terms = (n, whole (pos 1)) ∷ []; constant = whole (pos 0); normal = normal-one n (whole (pos 1)) refl }

-- each coefficient taken c times
abbrev pub times : Fraction → Terms → Terms
times c ts = map (λ t. (t.0, c *ℚ t.1)) ts

-- the sum: the terms of both
unfoldable pub add : Linear → Linear → Linear
add l m = linear_of (l.terms ++ m.terms) (l.constant +ℚ m.constant)

-- the multiple
unfoldable pub scale : Fraction → Linear → Linear
scale c l = linear_of (times c l.terms) (c *ℚ l.constant)

-- what is so far, and for each term the multiple of its variable's replacement
abbrev pub subst_from : (ℕ → Linear) → Linear → Terms → Linear
subst_from of so_far [] = so_far
subst_from of so_far (t ∷ ts) = subst_from of (add so_far (scale t.1 (of t.0))) ts

-- the expression with each variable replaced
unfoldable pub subst : (ℕ → Linear) → Linear → Linear
subst of l = subst_from of (fixed l.constant) l.terms

-- the replacements that a list is; variables past its end are replaced by 0
abbrev pub replacement_of : List Linear → ℕ → Linear
replacement_of of v = slice_index_or of v (fixed (whole (pos 0)))
