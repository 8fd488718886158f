use Rattle.typing_types.proofs.GivenLaws.{next-atom, next-value, on_ok_both}
use Rattle.typing_types.proofs.given.judge_item.Goals as goal

pub returns-in-Atom-clause-next : goal.returns-in-Atom-clause-next
returns-in-Atom-clause-next c front h = on_ok_both _ c.judge_sign.ensures.put c.judge_sign.ensures.faults (λ put k. next-atom _ _ _ c.args.values.now _ _ _ _ _ _ _ _ _ c.in-Atom.is c.as_slice.ensures h put k)

pub returns-in-Value-clause-next : goal.returns-in-Value-clause-next
returns-in-Value-clause-next c front h = on_ok_both _ c.judge_value.ensures.put c.judge_value.ensures.faults (λ put k. next-value _ c.args.signs.now _ _ _ _ _ _ _ _ _ _ _ c.in-Value.is c.as_slice-in-Value.ensures h put k)
