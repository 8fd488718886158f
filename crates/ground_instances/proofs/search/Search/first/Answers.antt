-- No list begins with nothing, or the first completion of nothing is the first list.
use Rattle.std.proofs.Common.{Bool, ◌∙◌, sym, length}
use Rattle.ground_instances.specs.ArgumentLists.{IsFirst}
use Rattle.ground_instances.specs.inside.Open.{is_open}
use Rattle.ground_instances.specs.inside.Search.{IsCompleted}
use Rattle.ground_instances.proofs.Answering.{along}
use Rattle.ground_instances.proofs.Ending.{first_none, first_found}
use Rattle.ground_instances.proofs.search.Search.first.Goals as goal

pub returns-then-not-branch : goal.returns-then-not-branch
returns-then-not-branch c = first_none c.args.self.now.task.now c.args.self.now.action.now c.requires.numbered c.args.args.now (sym c.in_ok-opens.ensures ∙ c.if-not-branch.true)

pub returns : goal.returns
returns c =
    along (λ (found : Bool). IsCompleted (length c.args.self.now.task.now.objects) (is_open c.args.self.now.task.now c.args.self.now.action.now) c.args.args.now 0 0 found c.complete.new.args)
    (λ (found : Bool). IsFirst c.args.self.now.task.now c.args.self.now.action.now found c.complete.new.args) c.complete.result
    (λ found h. first_found c.args.self.now.task.now c.args.self.now.action.now c.requires.numbered c.args.args.now c.complete.new.args found c.requires.arity (c.complete.auto.args ∙ c.requires.arity)
    (sym c.in_ok-opens.ensures ∙ c.if-not-branch.false) h)
    c.complete.ensures
