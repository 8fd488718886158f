use Rattle.clause_index.specs.Places.{Places, are_lists, at_place, listed}
use Rattle.clause_index.proofs.Listing.{keeps, stay_self, places, on_listed, listed_positive, listed_negative}
use Rattle.clause_index.proofs.index.ClauseIndex.put.Goals as goal

pub returns-then-lit-clause-keeps : goal.returns-then-lit-clause-keeps
returns-then-lit-clause-keeps c =
    keeps c.args.self.now (are_lists c.self.inside.positive.items) (are_lists c.self.inside.negative.items) (are_lists c.put_at.new.lists.items) (are_lists c.self.inside.negative.items) c.self.inside.empty c.self.view_is
    c.put_at.ensures.stay (stay_self (are_lists c.self.inside.negative.items))

pub returns-else-lit-clause-keeps : goal.returns-else-lit-clause-keeps
returns-else-lit-clause-keeps c =
    keeps c.args.self.now (are_lists c.self.inside.positive.items) (are_lists c.self.inside.negative.items) (are_lists c.self.inside.positive.items) (are_lists c.put_at-else-lit.new.lists.items) c.self.inside.empty c.self.view_is
    (stay_self (are_lists c.self.inside.positive.items)) c.put_at-else-lit.ensures.stay

pub returns-then-lit-clause-there : goal.returns-then-lit-clause-there
returns-then-lit-clause-there c =
    let p : Places = places (are_lists c.put_at.new.lists.items) (are_lists c.self.inside.negative.items) c.self.inside.empty in
    on_listed c.put_at.result (at_place p.positive c.args.lit.boolean) (listed p c.args.lit) c.args.number (listed_positive p c.args.lit c.if-lit.true) c.put_at.ensures.there

pub returns-else-lit-clause-there : goal.returns-else-lit-clause-there
returns-else-lit-clause-there c =
    let p : Places = places (are_lists c.self.inside.positive.items) (are_lists c.put_at-else-lit.new.lists.items) c.self.inside.empty in
    on_listed c.put_at-else-lit.result (at_place p.negative c.args.lit.boolean) (listed p c.args.lit) c.args.number (listed_negative p c.args.lit c.if-lit.false) c.put_at-else-lit.ensures.there
