use Rattle.std.proofs.Common.{◌≡◌, ℕ, List, [], Option, None, replicate, sym, subst, rules}
use Rattle.clause_trail.specs.declared.trail.Entry.{Entry}
use Rattle.clause_trail.specs.Standing.{IsTabled}
use Rattle.clause_trail.proofs.Places.{tabled_new}
use Rattle.clause_trail.proofs.trail.Trail.new.Goals as goal

pub invariant_of-result : goal.invariant_of-result
invariant_of-result c =
    let items : c.in_ok-vec.field-0.items ≡ replicate c.args.booleans None = search rules in
    let none : c.new.result.items ≡ [] = search rules in
    subst (λ (x : List Entry). IsTabled c.in_ok-vec.field-0.items x) (sym none) (subst (λ (x : List (Option ℕ)). IsTabled x []) (sym items) (tabled_new c.args.booleans))
