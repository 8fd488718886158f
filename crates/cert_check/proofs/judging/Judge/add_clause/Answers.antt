use Rattle.std.proofs.Common.{◌≡◌, [], true, List, length, sym, ap, subst, ◌∙◌}
use Rattle.formula.specs.declared.atom.Lit.{Lit}
use Rattle.formula.specs.Contents.{Contents, is_clause, with_clause}
use Rattle.clause_index.specs.Places.{Places, IsListed}
use Rattle.cert_check.proofs.Readies.{rooms_for, kept_clause, full_keeps, full_room, flag_with, flag_without, listed_named, is_none, is_some_literal}
use Rattle.cert_check.proofs.judging.Judge.add_clause.Goals as goal

pub add-requires : goal.add-requires
add-requires c =
    rooms_for c.self.inside.formula c.self.inside.index c.args.clause.now c.lits-2.result.now c.self.invariant.room
    (subst (λ (f : Contents). is_clause (length f.atoms) c.args.clause.now ≡ true) (sym c.self.view_is) c.requires) c.lits-2.ensures

pub invariant_of-self-then-is_empty : goal.invariant_of-self-then-is_empty
invariant_of-self-then-is_empty c =
    let f : Contents = c.self.inside.formula in
    let index : Places = c.add.new.self in
    let full : Places = c.add_empty.new.self in
    let is : c.new.result ≡ c.args.clause.now = c.new.ensures ∙ c.in_ok-copy.ensures.items_if_clones_equal (λ x y e. e) ∙ c.lits.ensures in
    let there : IsListed index (length f.clauses) c.args.clause.now =
    listed_named index (length c.clauses-number.result.now) (length f.clauses) c.lits-2.result.now c.args.clause.now (ap (λ (cs : List (List Lit)). length cs) c.clauses-number.ensures.value) c.lits-2.ensures c.in_ok-add.ensures.added in
    kept_clause f c.add_clause.new.self c.self.inside.truths c.self.inside.index full c.args.clause.now c.self.invariant (c.in_ok-add_clause.ensures.added ∙ ap (λ (x : List Lit). with_clause x f) is)
    (λ n d h. full_keeps index full c.add_empty.ensures n d (c.in_ok-add.ensures.keeps n d h)) (λ n room. full_room index full c.add_empty.ensures n (c.in_ok-add.ensures.kept n room))
    (full_keeps index full c.add_empty.ensures (length f.clauses) c.args.clause.now there)
    (flag_with c.self.inside.index full c.args.clause.now (ap (λ (i : Places). i.empty) c.add_empty.ensures) (is_none c.lits-3.result.now c.args.clause.now c.is_empty.result c.is_empty.ensures c.lits-3.ensures c.if-is_empty.true))

pub invariant_of-self-else-is_empty : goal.invariant_of-self-else-is_empty
invariant_of-self-else-is_empty c =
    let f : Contents = c.self.inside.formula in
    let index : Places = c.add.new.self in
    let is : c.new.result ≡ c.args.clause.now = c.new.ensures ∙ c.in_ok-copy.ensures.items_if_clones_equal (λ x y e. e) ∙ c.lits.ensures in
    let there : IsListed index (length f.clauses) c.args.clause.now =
    listed_named index (length c.clauses-number.result.now) (length f.clauses) c.lits-2.result.now c.args.clause.now (ap (λ (cs : List (List Lit)). length cs) c.clauses-number.ensures.value) c.lits-2.ensures c.in_ok-add.ensures.added in
    kept_clause f c.add_clause.new.self c.self.inside.truths c.self.inside.index index c.args.clause.now c.self.invariant (c.in_ok-add_clause.ensures.added ∙ ap (λ (x : List Lit). with_clause x f) is) c.in_ok-add.ensures.keeps
    c.in_ok-add.ensures.kept there
    (flag_without c.self.inside.index index c.args.clause.now c.in_ok-add.ensures.empty (is_some_literal c.lits-3.result.now c.args.clause.now c.is_empty.result c.is_empty.ensures c.lits-3.ensures c.if-is_empty.false))
