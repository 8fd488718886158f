use Rattle.std.proofs.Common.{rules, ◌≡◌, ◌<◌, ◌+◌, ℕ, length, List, Some, Option, Bool, get_or, sym, ap, subst, ◌∙◌, arith, All, drop}
use Rattle.std.specs.Prelude.{slice_get}
use Rattle.std.proofs.lemmas.Option.{slice_get-get_or}
use Rattle.std.proofs.lemmas.List.Elements.{All-get_or}
use Rattle.formula.specs.declared.atom.Lit.{Lit}
use Rattle.clause_units.specs.Scanning.{GoesOn}
use Rattle.clause_units.proofs.Hints.{goes_end, goes_last, goes_none, goes_on, never}
use Rattle.clause_units.proofs.units.follows.Goals as goal

-- the clause that a hint names
named : (clauses : List (List Lit)) (hints : List ℕ) (i : ℕ) (lits c : List Lit) → All (λ h. h < length clauses) hints → i < length hints
    → lits ≡ c → c ≡ get_or clauses (get_or hints i 0) c → slice_get clauses (get_or hints i 0) ≡ Some lits
named clauses hints i lits c known lt same is =
    let low : get_or hints i 0 < length clauses = All-get_or (λ h. h < length clauses) hints i 0 lt known in
    slice_get-get_or clauses (get_or hints i 0) c low ∙ ap (λ (x : List Lit). Some x) (sym is ∙ sym same)

pub returns-then-i-hints-clause-answer : goal.returns-then-i-hints-clause-answer
returns-then-i-hints-clause-answer c = λ trues tells.
    let at = named c.args.clauses.now c.args.hints.now c.loop-i.i c.lits-lits.result.now c.index-clauses-hint.result c.requires.known c.loop-i-test.true c.lits-lits.ensures c.index-clauses-hint.is in
    goes_last c.args.clauses.now trues c.args.hints.now c.loop-i.truths c.loop-i.i 0 (c.loop-i.invariant.goes trues tells) c.lits-lits.result.now at c.is_broken.result c.if-i-hints.true c.is_broken.ensures

pub returns-in_default-clause-answer : goal.returns-in_default-clause-answer
returns-in_default-clause-answer c = λ trues tells.
    let at = named c.args.clauses.now c.args.hints.now c.loop-i.i c.lits-lits.result.now c.index-clauses-hint.result c.requires.known c.loop-i-test.true c.lits-lits.ensures c.index-clauses-hint.is in
    let more : c.loop-i.i + 1 < length c.args.hints.now = omega (arith, c.loop-i-test.true, c.if-i-hints.false) in
    never _ (goes_none c.args.clauses.now trues c.args.hints.now c.loop-i.truths c.loop-i.i 0 (c.loop-i.invariant.goes trues tells) c.lits-lits.result.now at more c.in_default.ensures)

pub loop-i-preserved : goal.loop-i-preserved
loop-i-preserved c =
    let at = named c.args.clauses.now c.args.hints.now c.loop-i.i c.lits-lits.result.now c.index-clauses-hint.result c.requires.known c.loop-i-test.true c.lits-lits.ensures c.index-clauses-hint.is in
    let more : c.loop-i.i + 1 < length c.args.hints.now = omega (arith, c.loop-i-test.true, c.if-i-hints.false) in
    let lt : c.in-Some.lit.boolean < length c.loop-i.truths = search rules in
    record {
      long = search rules;
      goes = λ trues tells. subst (λ (t : List (Option Bool)). GoesOn c.args.clauses.now trues c.args.hints.now t (drop (c.loop-i.i + 1) c.args.hints.now)) (sym c.in_ok-assign.ensures.done)
          (goes_on c.args.clauses.now trues c.args.hints.now c.loop-i.truths c.loop-i.i 0 (c.loop-i.invariant.goes trues tells) c.lits-lits.result.now at c.in-Some.lit more c.in-Some.ensures lt);
    }

pub returns-clause-answer : goal.returns-clause-answer
returns-clause-answer c = λ trues tells. never _ (goes_end c.args.clauses.now trues c.args.hints.now c.loop-i.truths c.loop-i.i 0 (c.loop-i.invariant.goes trues tells) c.loop-i-test.false)
