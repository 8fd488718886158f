use Rattle.std.proofs.Common.{◌≡◌, ℕ, ◌<◌, List, refl, ap, sym, subst, length, take, ◌∙◌}
use Rattle.std.specs.List.{All}
use Rattle.formula.specs.declared.atom.Lit.{Lit}
use Rattle.formula.specs.Contents.{Contents}
use Rattle.clause_trail.specs.Pushing.{IsPushed}
use Rattle.clause_trail.specs.Decisions.{IsWithin, lits_of}
use Rattle.clause_trail.specs.Propagation.{HasTwo}
use Rattle.clause_core.specs.inside.Levels.{IsSettled}
use Rattle.clause_core.proofs.Clauses.{within_clause, within_clauses}
use Rattle.clause_core.proofs.Cores.{core_back, core_added}
use Rattle.clause_core.proofs.Settled.{core_settled}
use Rattle.clause_core.proofs.back.add.Goals as goal

pub invariant_of-core-in-Some : goal.invariant_of-core-in-Some
invariant_of-core-in-Some g c =
    let w = subst (λ (x : List Lit). IsSettled c.core.inside.trail.entries x c.in-Some.place) c.lits.ensures c.in-Some.ensures in
    core_settled c.core.inside.trail c.set_reason.new.self c.core.invariant c.args.clause c.in-Some.place _ w c.in_ok-add_clause.ensures.added (ap length c.clauses-number.ensures.value) (c.set_reason.ensures.entries w.lit w.stands) c.set_reason.ensures.booleans

pub assert_clause-requires-clause-within : goal.assert_clause-requires-clause-within
assert_clause-requires-clause-within g c =
    let f = c.add_clause-2.new.self in
    let n : c.back_to-core-inside.new.trail.booleans ≡ length f.atoms = c.back_to-core-inside.ensures.booleans ∙ c.core.invariant.booleans ∙ sym (ap (λ (x : Contents). length x.atoms) c.in_ok-add_clause-2.ensures.added) in
    subst (λ (m : ℕ). All (IsWithin m) c.clauses.result.now) (sym n) (subst (λ (x : List (List Lit)). All (IsWithin (length f.atoms)) x) (sym c.clauses.ensures.value) (within_clauses (length f.atoms) f.clauses c.clauses.ensures.formula.clauses))

pub invariant_of-core-2 : goal.invariant_of-core-2
invariant_of-core-2 g c =
    let b = c.back_to-core-inside.ensures in
    let back = core_back c.core.invariant b.sane b.told b.seen b.booleans in
    let clause = rw (← c.core.view_is) at c.requires in
    let two = subst (λ (x : List Lit). (d : ℕ) → d < c.level_of-keep.result → HasTwo (lits_of (take d c.core.inside.trail.entries)) x) c.lits-2.ensures c.level_of-keep.ensures in
    core_added c.core.inside.trail c.back_to-core-inside.new.trail c.assert_clause.new.trail back b.shorter b.kept c.args.clause (within_clause _ _ clause) two c.in_ok-add_clause-2.ensures.added c.assert_clause.ensures.booleans refl (subst (λ (x : List (List Lit)). IsPushed x c.back_to-core-inside.new.trail.booleans c.back_to-core-inside.new.trail.entries c.assert_clause.new.trail.entries) c.clauses.ensures.value c.assert_clause.ensures.pushed)
