use Rattle.std.proofs.Common.{refl, subst, sym, List, ℕ, length}
use Rattle.std.specs.List.{All}
use Rattle.formula.specs.declared.atom.Lit.{Lit}
use Rattle.clause_trail.specs.Pushing.{IsPushed}
use Rattle.clause_trail.specs.Decisions.{IsWithin}
use Rattle.clause_trail.proofs.Bridge.{grown, answered}
use Rattle.clause_core.proofs.Cores.{core_pushed}
use Rattle.clause_core.proofs.laws.propagate.Goals as goal

pub units-requires : goal.units-requires
units-requires g c =
    subst (λ (n : ℕ). All (IsWithin n) c.clauses.result.now) (sym c.core.invariant.booleans) (subst (λ (x : List (List Lit)). All (IsWithin (length c.core.inside.formula.atoms)) x) (sym c.clauses.ensures.value) c.core.invariant.sane.within)

pub invariant_of-core : goal.invariant_of-core
invariant_of-core g c =
    core_pushed c.core.invariant _ refl c.units.ensures.booleans (subst (λ (x : List (List Lit)). IsPushed x c.core.inside.trail.booleans c.core.inside.trail.entries c.units.new.trail.entries) c.clauses.ensures.value c.units.ensures.pushed)

pub returns-clause-grown : goal.returns-clause-grown
returns-clause-grown g c =
    rw (← c.core.view_is) (grown (subst (λ (x : List (List Lit)). IsPushed x c.core.inside.trail.booleans c.core.inside.trail.entries c.units.new.trail.entries) c.clauses.ensures.value c.units.ensures.pushed))

pub returns-clause-quiet : goal.returns-clause-quiet
returns-clause-quiet g c = answered c.units.new.trail.entries _ _ c.units.result c.clauses.ensures.value c.units.ensures.quiet
