use Rattle.std.proofs.Common.{◌≡◌, Ok, ◌∙◌, sym, ap, subst, arith, List, Bool}
use Rattle.std.specs.Prelude.{IsTrue}
use Rattle.std.specs.Option.{option_copied}
use Rattle.formula.specs.Contents.{Contents, with_boolean}
use Rattle.theory_law.specs.Seen.{IsMine}
use Rattle.bound_theory.specs.Bounds.{is_taken}
use Rattle.bound_theory.proofs.CopyLaws.{mine_next, copied, atoms_next, is_foreign}
use Rattle.bound_theory.proofs.starting.copy.Goals as goal

pub returns-then-not-branch : goal.returns-then-not-branch
returns-then-not-branch c =
    is_foreign c.args.formula.now c.loop-b.b _ c.loop-b.invariant.mine c.atom.ensures.value
    (λ mine. subst IsTrue c.if-not-branch.true (c.in_ok-add.ensures.mine.1 (subst (λ (counts : List Bool). IsMine is_taken counts (option_copied c.atom.result)) (sym c.loop-b.invariant.counts) mine)))

pub loop-b-preserved : goal.loop-b-preserved
loop-b-preserved c =
    let added : c.add.new.copy ≡ with_boolean (option_copied c.atom.result) c.loop-b.copy = c.in_ok-add.ensures.added (ap Ok c.if-not-branch.false) in
    let mine : IsMine is_taken c.loop-b.copy.counts (option_copied c.atom.result) = c.in_ok-add.ensures.mine.0 c.if-not-branch.false in
    record {
      counts = ap (λ (f : Contents). f.counts) added ∙ c.loop-b.invariant.counts;
      atoms = ap (λ (f : Contents). f.atoms) added ∙ atoms_next c.args.formula.now c.loop-b.copy.atoms c.loop-b.b (option_copied c.atom.result) c.loop-b.invariant.atoms c.atom.ensures.value;
      mine = mine_next c.args.formula.now c.loop-b.b _ c.loop-b.invariant.mine c.atom.ensures.value (subst (λ (counts : List Bool). IsMine is_taken counts (option_copied c.atom.result)) c.loop-b.invariant.counts mine);
    }

pub returns : goal.returns
returns c = copied c.args.formula.now c.loop-b.copy c.loop-b.b c.loop-b.invariant.counts c.loop-b.invariant.atoms (omega (arith, c.booleans-b-end.ensures)) c.loop-b.invariant.mine
