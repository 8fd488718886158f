use Rattle.std.proofs.Common.{◌≡◌, ◌∙◌, ℕ, cond, length, Option, Some, is_some, subst, sym, ap, IfOk, OnOk}
use Rattle.std.specs.Prelude.{unwrap_or}
use Rattle.formula.specs.Contents.{with_boolean}
use Rattle.formula.proofs.Indexing.{looked-up}
use Rattle.formula.proofs.formula.Formula.add_atom.Goals as goal

pub push_first-requires-clause-first : goal.push_first-requires-clause-first
push_first-requires-clause-first c =
    looked-up c.self.inside.index _ _ _ c.args.self.now c.in_ok-key.key c.args.a _ c.copied.result c.self.view_is c.self.invariant.1 c.in_ok-key.ensures c.get.ensures.value c.copied.ensures ∙ c.in-None.is

pub returns-in-Some-clause-number : goal.returns-in-Some-clause-number
returns-in-Some-clause-number c =
    let found = looked-up c.self.inside.index _ _ _ c.args.self.now c.in_ok-key.key c.args.a _ c.copied.result c.self.view_is c.self.invariant.1 c.in_ok-key.ensures c.get.ensures.value c.copied.ensures ∙ c.in-Some.is in
    sym (ap (λ (o : Option ℕ). unwrap_or o (length c.args.self.now.atoms)) found)

pub returns-in-Some-clause-added : goal.returns-in-Some-clause-added
returns-in-Some-clause-added c =
    let found = looked-up c.self.inside.index _ _ _ c.args.self.now c.in_ok-key.key c.args.a _ c.copied.result c.self.view_is c.self.invariant.1 c.in_ok-key.ensures c.get.ensures.value c.copied.ensures ∙ c.in-Some.is in
    sym (ap (λ (o : Option ℕ). cond (is_some o) c.args.self.now (with_boolean (Some c.args.a) c.args.self.now)) found)

pub returns-in-None-clause-number : goal.returns-in-None-clause-number
returns-in-None-clause-number c =
    let none = looked-up c.self.inside.index _ _ _ c.args.self.now c.in_ok-key.key c.args.a _ c.copied.result c.self.view_is c.self.invariant.1 c.in_ok-key.ensures c.get.ensures.value c.copied.ensures ∙ c.in-None.is in
    subst (λ (o : Option ℕ). IfOk c.push_first.result (λ b. b ≡ unwrap_or o (length c.args.self.now.atoms))) (sym none) c.push_first.ensures.number

pub returns-in-None-clause-added : goal.returns-in-None-clause-added
returns-in-None-clause-added c =
    let none = looked-up c.self.inside.index _ _ _ c.args.self.now c.in_ok-key.key c.args.a _ c.copied.result c.self.view_is c.self.invariant.1 c.in_ok-key.ensures c.get.ensures.value c.copied.ensures ∙ c.in-None.is in
    subst (λ (o : Option ℕ). OnOk c.push_first.result (c.push_first.new.self ≡ cond (is_some o) c.args.self.now (with_boolean (Some c.args.a) c.args.self.now))) (sym none) c.push_first.ensures.added
