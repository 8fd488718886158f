use Rattle.std.proofs.Common.{inl, inr, refl}
use Rattle.std.proofs.lemmas.Result.{err_from_is_err_and}
use Rattle.formula.proofs.Holding.{clauses_fit, none_met, below_start, read_boolean, next_holds, next_fails, next_passes, all_hold, boolean_at, truth_within, counts_within, within_formula, past_formula}
use Rattle.formula.proofs.formula.Formula.meets.Goals as goal

pub are_met-requires : goal.are_met-requires
are_met-requires c = clauses_fit c.args.self.now c.args.p.now _ _ c.as_slice-truth.ensures c.clauses.ensures.value c.requires c.clauses.ensures.formula

pub returns-then-not-are_met : goal.returns-then-not-are_met
returns-then-not-are_met c =
    inl (none_met c.args.self.now c.args.p.now _ _ _ c.as_slice-truth.ensures c.clauses.ensures.value c.are_met.ensures c.if-not-are_met.true)

pub loop-b-init : goal.loop-b-init
loop-b-init c = below_start c.args.self.now c.args.p.now _ _ _ c.as_slice-truth.ensures c.clauses.ensures.value c.are_met.ensures c.if-not-are_met.false

pub bounds-truth-b : goal.bounds-truth-b
bounds-truth-b c = truth_within c.args.self.now c.args.p.now _ _ _ c.atoms-atoms.ensures c.as_slice-truth.ensures c.requires c.loop-b-test.true

pub holds_where-requires-clause-atom : goal.holds_where-requires-clause-atom
holds_where-requires-clause-atom c =
    let r = read_boolean c.args.self.now c.args.p.now c.loop-b.b _ c.index-atoms-b.result _ _ _ _ c.counts.ensures.value c.atoms-atoms.ensures c.loop-b-test.true c.index-atoms-b.is c.as_slice-truth.ensures refl c.as_slice-values.ensures in
    boolean_at c.args.self.now c.loop-b.b _ _ c.counts.ensures.value r.atom_is (within_formula c.args.self.now _ _ c.atoms-atoms.ensures c.loop-b-test.true) c.counts.ensures.formula

pub holds_where-requires-clause-enough : goal.holds_where-requires-clause-enough
holds_where-requires-clause-enough c = counts_within c.args.self.now c.args.p.now _ _ c.counts.ensures.value c.as_slice-values.ensures c.requires

pub returns-in_err-holds_where : goal.returns-in_err-holds_where
returns-in_err-holds_where c =
    let p = err_from_is_err_and c.from_residual.result c.from_residual.ensures.1 in
    rw (p.1, p.2) (
      c.loop-b.b,
      next_passes c.args.self.now c.args.p.now c.loop-b.b _ _ _ _ (read_boolean c.args.self.now c.args.p.now _ _ _ _ _ _ _ c.counts.ensures.value c.atoms-atoms.ensures c.loop-b-test.true c.index-atoms-b.is c.as_slice-truth.ensures refl c.as_slice-values.ensures) _ (within_formula c.args.self.now _ _ c.atoms-atoms.ensures c.loop-b-test.true) c.loop-b.invariant c.in_err-holds_where.ensures,
    )

pub returns-then-not-branch : goal.returns-then-not-branch
returns-then-not-branch c =
    inr (
      c.loop-b.b,
      next_fails c.args.self.now c.args.p.now c.loop-b.b _ _ _ _ (read_boolean c.args.self.now c.args.p.now _ _ _ _ _ _ _ c.counts.ensures.value c.atoms-atoms.ensures c.loop-b-test.true c.index-atoms-b.is c.as_slice-truth.ensures refl c.as_slice-values.ensures) _ c.if-not-branch.true (within_formula c.args.self.now _ _ c.atoms-atoms.ensures c.loop-b-test.true) c.loop-b.invariant c.in_ok-holds_where.ensures,
    )

pub loop-b-preserved : goal.loop-b-preserved
loop-b-preserved c =
    next_holds c.args.self.now c.args.p.now c.loop-b.b _ _ _ _ (read_boolean c.args.self.now c.args.p.now _ _ _ _ _ _ _ c.counts.ensures.value c.atoms-atoms.ensures c.loop-b-test.true c.index-atoms-b.is c.as_slice-truth.ensures refl c.as_slice-values.ensures) _ c.if-not-branch.false c.loop-b.invariant c.in_ok-holds_where.ensures

pub returns : goal.returns
returns c = all_hold c.args.self.now c.args.p.now c.loop-b.b (past_formula c.args.self.now _ _ c.atoms-atoms.ensures c.loop-b-test.false) c.loop-b.invariant
