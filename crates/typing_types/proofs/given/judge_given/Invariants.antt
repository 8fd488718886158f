use Rattle.typing_names.specs.Items.{items_of}
use Rattle.typing_types.proofs.GivenLaws.{AreGiven}
use Rattle.typing_types.proofs.given.judge_given.Given as goal

abbrev pub invariant-loop-item : goal.invariant-loop-item
invariant-loop-item l = AreGiven (items_of l.items) l.item-index l.initial.faults l.faults l.signs l.values l.preds l.funcs
