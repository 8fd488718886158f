use Rattle.std.proofs.Common.{List, Bool, length, sym, ap, ◌∙◌}
use Rattle.std.specs.List.{slice_get}
use Rattle.clause_core.proofs.Points.{exact, meets, some_is}
use Rattle.clause_core.proofs.search.point_of.Goals as goal

pub returns-clause-exact : goal.returns-clause-exact
returns-clause-exact g c =
    let fixed = rw (← c.core.view_is) at c.requires.fixed in
    let done = rw (← c.core.view_is) at c.requires.done in
    let o = some_is (g.T.Theory.fixed c.core.inside.theory) fixed in
    let d = done o.0 o.1 in
    rw (← c.core.view_is) (exact c.core.inside.formula o.0 _ d.point.so_many
    (c.from_vec.ensures ∙ c.in_ok-values.ensures o.0 o.1 (d.point.so_many ∙ sym c.vars.ensures))
    (ap length c.from_vec-2.ensures ∙ c.in_ok-truths.ensures.length ∙ c.core.invariant.booleans))

pub returns-clause-meets : goal.returns-clause-meets
returns-clause-meets g c =
    let fixed = rw (← c.core.view_is) at c.requires.fixed in
    let done = rw (← c.core.view_is) at c.requires.done in
    let o = some_is (g.T.Theory.fixed c.core.inside.theory) fixed in
    let d = done o.0 o.1 in
    rw (← c.core.view_is) (meets c.core.inside.formula c.core.inside.trail.entries o.0 _ d.quiet d.full c.core.invariant.sane.within d.point
    (c.from_vec.ensures ∙ c.in_ok-values.ensures o.0 o.1 (d.point.so_many ∙ sym c.vars.ensures))
    (λ p l s. ap (λ (x : List Bool). slice_get x l.boolean) c.from_vec-2.ensures ∙ c.in_ok-truths.ensures.holds p l s))

pub returns-clause-values : goal.returns-clause-values
returns-clause-values g c =
    let done = rw (← c.core.view_is) at c.requires.done in
    rw (← c.core.view_is) (λ p e. c.from_vec.ensures ∙ c.in_ok-values.ensures p e ((done p e).point.so_many ∙ sym c.vars.ensures))
