use Rattle.plan_step.specs.Held.{state_of}
use Rattle.ground_entry.proofs.Entering.{numbered_from, drafted_from}
use Rattle.ground_entry.proofs.instance.draft.Goals as goal

pub instance_draft-requires-clause-numbered : goal.instance_draft-requires-clause-numbered
instance_draft-requires-clause-numbered c =
    numbered_from c.args.search.now.task.now c.args.tables.now c.args.search.now.action.now c.args.args.now (state_of c.args.search.now.start.now) c.requires.start c.requires.numbered

pub returns : goal.returns
returns c =
    drafted_from c.args.search.now.task.now c.args.tables.now c.args.search.now.action.now c.args.args.now (state_of c.args.search.now.start.now) c.requires.start c.instance_draft.result c.instance_draft.ensures
