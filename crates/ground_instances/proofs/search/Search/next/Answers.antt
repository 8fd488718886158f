-- The next list that keeps nothing is the next list.
use Rattle.std.proofs.Common.{Bool, ◌∙◌, length}
use Rattle.ground_instances.specs.ArgumentLists.{IsNext}
use Rattle.ground_instances.specs.inside.Open.{is_open}
use Rattle.ground_instances.specs.inside.Search.{IsFollowed}
use Rattle.ground_instances.proofs.Answering.{along}
use Rattle.ground_instances.proofs.Ending.{next_found}
use Rattle.ground_instances.proofs.search.Search.next.Goals as goal

pub returns : goal.returns
returns c =
    along (λ (found : Bool). IsFollowed (length c.args.self.now.task.now.objects) (is_open c.args.self.now.task.now c.args.self.now.action.now) c.args.args.now 0 found c.follow.new.args)
    (λ (found : Bool). IsNext c.args.self.now.task.now c.args.self.now.action.now c.args.args.now found c.follow.new.args) c.follow.result
    (λ found h. next_found c.args.self.now.task.now c.args.self.now.action.now c.requires.numbered c.args.args.now c.follow.new.args found c.requires.arity (c.follow.auto.args ∙ c.requires.arity) c.requires.suits h)
    c.follow.ensures
