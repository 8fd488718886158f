use Rattle.std.proofs.Common.{length, ap, ◌∙◌}
use Rattle.clause_core.specs.Cored.{Cored}
use Rattle.clause_core.proofs.Events.{due, solution}
use Rattle.clause_core.proofs.stepping.next_of.Goals as goal

pub returns-in-Clash : goal.returns-in-Clash
returns-in-Clash g c =
    let e = rw (c.in-Clash.is, ← c.core.view_is) at c.requires.event in
    rw (← c.core.view_is) (record { sound = (e.0, e.1); licensed = e.2; splits = tt }, tt)

pub returns-in_ok-point_of-in-Cut : goal.returns-in_ok-point_of-in-Cut
returns-in_ok-point_of-in-Cut g c =
    let e = rw c.in-Cut.is at c.requires.event in
    let at = e.2 in
    let is = c.in_ok-point_of-in-Cut.ensures in
    let next = c.booleans.ensures ∙ ap (λ (x : Cored g.row.T.Denot). length x.formula.atoms) c.core.view_is in (
      record {
        sound = (next, at.2.1.splits);
        licensed = due c.args.core.now.formula c.in-Cut.var c.in-Cut.k at.0 c.in_ok-point_of-in-Cut.field-0 is.exact is.meets (is.values at.0 at.1) at.2.1;
        splits = e.0;
      },
      e.1,
    )

pub returns-in_ok-point_of-in-Full : goal.returns-in_ok-point_of-in-Full
returns-in_ok-point_of-in-Full g c =
    let e = rw c.in-Full.is at c.requires.event in
    let is = c.in_ok-point_of-in-Full.ensures in
    solution c.args.core.now.formula e.0 c.in_ok-point_of-in-Full.field-0 is.exact is.meets (is.values e.0 e.1) e.2.1
