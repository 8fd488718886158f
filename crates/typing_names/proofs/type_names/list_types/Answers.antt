use Rattle.std.proofs.Common.{◌<◌, length, arith, refl, ◌∙◌}
use Rattle.typing_names.proofs.TypeNameLaws.{one_more_named}
use Rattle.typing_names.proofs.type_names.list_types.Goals as goal

pub loop-t-preserved : goal.loop-t-preserved
loop-t-preserved c =
    let within : c.loop-t.t < length c.args.above.now = omega (arith, c.requires, c.len-t-end.ensures.len) in
    let step = one_more_named _ _ _ _ _ _ _ _ _ c.loop-t.invariant.names c.loop-t.invariant.above c.name.ensures within refl refl (c.from_string-name.ensures ∙ c.in_ok-from_str.ensures.ok) c.in_ok-push.ensures.ok in
    record { names = step.0; above = step.1 }
