use Rattle.clause_index.specs.Places.{are_lists}
use Rattle.clause_index.proofs.Listing.{keeps, stay_self}
use Rattle.clause_index.proofs.index.ClauseIndex.add_boolean.Goals as goal

pub returns-in_err-add_list-clause-keeps : goal.returns-in_err-add_list-clause-keeps
returns-in_err-add_list-clause-keeps c =
    keeps c.args.self.now (are_lists c.self.inside.positive.items) (are_lists c.self.inside.negative.items) (are_lists c.add_list.new.lists.items) (are_lists c.self.inside.negative.items) c.self.inside.empty c.self.view_is
    c.add_list.ensures.stay (stay_self (are_lists c.self.inside.negative.items))

pub returns-in_err-add_list-2-clause-keeps : goal.returns-in_err-add_list-2-clause-keeps
returns-in_err-add_list-2-clause-keeps c =
    keeps c.args.self.now (are_lists c.self.inside.positive.items) (are_lists c.self.inside.negative.items) (are_lists c.add_list.new.lists.items) (are_lists c.add_list-2.new.lists.items) c.self.inside.empty c.self.view_is
    c.add_list.ensures.stay c.add_list-2.ensures.stay

pub returns-clause-keeps : goal.returns-clause-keeps
returns-clause-keeps c =
    keeps c.args.self.now (are_lists c.self.inside.positive.items) (are_lists c.self.inside.negative.items) (are_lists c.add_list.new.lists.items) (are_lists c.add_list-2.new.lists.items) c.self.inside.empty c.self.view_is
    c.add_list.ensures.stay c.add_list-2.ensures.stay
