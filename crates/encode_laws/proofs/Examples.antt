-- Small formulas, computed.
use Rattle.std.proofs.Common.{◌≡◌, ℕ, ◌++◌, true, false, List, [], ◌∷◌, map, refl}
use Rattle.std.specs.Prelude.{Option, Some, None}
use lib.IntN.{ℤ, pos, negsuc}
use Rattle.algebra.specs.Gcd.{gcd, gcd_in}
use Rattle.rational.specs.Fraction.{whole, quotient, ◌+ℚ◌, ◌*ℚ◌, neg_ℚ, inv_ℚ}
use Rattle.rational.specs.Floor.{floor_of, ceil_of}
use Rattle.lin.specs.Linear.{linear_of, add, scale, subst}
use Rattle.lin.specs.declared.comparison.Cmp.TheVariants.{Eq}
use Rattle.task_core.specs.declared.action.GAction.{GAction}
use Rattle.task_core.specs.Task.{GroundParts}
use Rattle.formula.specs.declared.atom.Atom.{Atom}
use Rattle.formula.specs.declared.atom.Lit.{Lit}
use Rattle.encode_laws.specs.Encoding.{formula_of}

abbrev taken : ℕ → Lit
taken b = record { boolean = b; pos = true }

abbrev turned : ℕ → Lit
turned b = record { boolean = b; pos = false }

-- ---- a: x grows by 2; b: needs p, takes it away, and x grows by 4; the goal is x = 5
grows_by_2 : GAction
grows_by_2 = record { lits = []; cmps = []; adds = []; dels = []; incs = (0, whole (pos 2)) ∷ []; sets = [] }

grows_by_4 : GAction
grows_by_4 = record { lits = (0, true) ∷ []; cmps = []; adds = []; dels = 0 ∷ []; incs = (0, whole (pos 4)) ∷ []; sets = [] }

goal_5 : GAction
goal_5 = record { lits = []; cmps = (linear_of ((0, whole (pos 1)) ∷ []) (whole (negsuc 4)), Eq) ∷ []; adds = []; dels = []; incs = []; sets = [] }

two_growths : GroundParts
two_growths = record { atoms = true ∷ []; funcs = Some (whole (pos 0)) ∷ []; actions = grows_by_2 ∷ grows_by_4 ∷ []; goal = goal_5 }

-- its five clauses
growth_clauses : (formula_of two_growths (0 ∷ 1 ∷ []) 1).clauses ≡ (turned 0 ∷ []) ∷ (turned 2 ∷ []) ∷ (taken 3 ∷ []) ∷ (taken 5 ∷ []) ∷ (turned 6 ∷ []) ∷ []
unfolding two_growths grows_by_2 grows_by_4 goal_5 add scale subst ◌+ℚ◌ ◌*ℚ◌ neg_ℚ inv_ℚ quotient gcd gcd_in floor_of ceil_of
growth_clauses = refl

-- the parts of an atom that tell it
parts : Option Atom → List (ℕ × ℤ × ℕ)
parts None = []
parts (Some a) = map (λ t. (t.0, t.1.num, t.1.den)) a.lin.terms ++ (7, a.bound.num, a.bound.den) ∷ []

growth_atoms : map parts (formula_of two_growths (0 ∷ 1 ∷ []) 1).atoms
    ≡ ((0, pos 1, 1) ∷ (7, negsuc 0, 1) ∷ []) ∷ ((0, pos 1, 1) ∷ (7, pos 0, 1) ∷ []) ∷ ((1, pos 1, 1) ∷ (7, negsuc 0, 1) ∷ []) ∷ ((1, pos 1, 1) ∷ (7, pos 1, 1) ∷ [])
    ∷ ((1, pos 1, 1) ∷ (7, pos 0, 1) ∷ []) ∷ ((0, pos 1, 1) ∷ (1, pos 2, 1) ∷ (7, pos 5, 2) ∷ []) ∷ ((0, pos 1, 1) ∷ (1, pos 2, 1) ∷ (7, pos 5, 2) ∷ []) ∷ []
unfolding two_growths grows_by_2 grows_by_4 goal_5 parts add scale subst ◌+ℚ◌ ◌*ℚ◌ neg_ℚ inv_ℚ quotient gcd gcd_in floor_of ceil_of
growth_atoms = refl

-- ---- a: needs p, takes it away, and adds g1; b: needs p, and adds g2; the goal is both
takes : GAction
takes = record { lits = (0, true) ∷ []; cmps = []; adds = 1 ∷ []; dels = 0 ∷ []; incs = []; sets = [] }

keeps_it : GAction
keeps_it = record { lits = (0, true) ∷ []; cmps = []; adds = 2 ∷ []; dels = []; incs = []; sets = [] }

both : GAction
both = record { lits = (1, true) ∷ (2, true) ∷ []; cmps = []; adds = []; dels = []; incs = []; sets = [] }

one_resource : GroundParts
one_resource = record { atoms = true ∷ false ∷ false ∷ []; funcs = []; actions = takes ∷ keeps_it ∷ []; goal = both }

resource_clauses : (formula_of one_resource (0 ∷ 1 ∷ []) 1).clauses ≡ (turned 0 ∷ turned 1 ∷ []) ∷ (taken 0 ∷ []) ∷ (taken 1 ∷ []) ∷ []
unfolding one_resource takes keeps_it both
resource_clauses = refl
