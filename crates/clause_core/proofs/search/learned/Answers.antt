use Rattle.std.specs.List.{Contains}
use Rattle.std.proofs.Common.{◌≡◌, [], ℕ, true, List, map, length, sym, subst}
use Rattle.formula.specs.declared.atom.Lit.{Lit}
use Rattle.formula.specs.Contents.{is_clause}
use Rattle.formula.specs.Reading.{opposite}
use Rattle.theory_law.specs.Units.{Follows}
use Rattle.theory_law.specs.Licence.{IsNew}
use Rattle.clause_trail.specs.Decisions.{IsBelow, IsWithin}
use Rattle.clause_trail.specs.Scanning.{IsConflict}
use Rattle.clause_trail.proofs.Bridge.{conflict_lits}
use Rattle.clause_core.proofs.Clauses.{rising_clause}
use Rattle.clause_core.proofs.Learned.{made}
use Rattle.clause_core.proofs.search.learned.Goals as goal

pub learn-requires-clause-conflict : goal.learn-requires-clause-conflict
learn-requires-clause-conflict g c =
    let f = rw (← c.core.view_is) at c.requires.conflict in
    subst (λ (x : List (List Lit)). IsConflict x c.core.inside.trail.entries c.args.conflict) (sym c.clauses.ensures.value) (conflict_lits c.core.inside.trail.entries c.core.inside.formula.clauses c.args.conflict f)

pub learn-requires-clause-below : goal.learn-requires-clause-below
learn-requires-clause-below g c = subst (λ (n : ℕ). IsBelow n c.core.inside.trail.entries) (sym c.core.invariant.booleans) c.core.invariant.sane.below

pub learn-requires-clause-none : goal.learn-requires-clause-none
learn-requires-clause-none g c =
    let none = rw (← c.core.view_is) at c.requires.none in
    subst (λ (x : List (List Lit)). Contains x [] → ⊥) (sym c.clauses.ensures.value) none

pub returns-clause-holds : goal.returns-clause-holds
returns-clause-holds g c =
    let l = c.in_ok-learned.ensures in
    let f = c.core.inside.formula in
    let lits = c.in_ok-learned.learned.lits.items in
    let within = subst (λ (n : ℕ). IsWithin n lits) c.core.invariant.booleans l.within in
    let clause : is_clause (length f.atoms) lits ≡ true = rising_clause (length f.atoms) lits within l.rising in
    let follows = subst (λ (x : List (List Lit)). Follows x (map opposite lits) c.in_ok-learned.learned.hints.items) c.clauses.ensures.value l.learned in
    let new' = subst (λ (x : List (List Lit)). IsNew x lits) c.clauses.ensures.value l.licensed in
    let hints = c.from_vec.ensures in
    rw (← c.core.view_is) (made f _ _ lits c.in_ok-learned.learned.hints.items c.new.ensures hints clause follows new')
