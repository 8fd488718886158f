use Rattle.std.proofs.Common.{◌∙◌, sym}
use Rattle.std.proofs.lemmas.Result.{err_from_is_err_and}
use Rattle.ground_walk.specs.Walk.{Kept}
use Rattle.ground_entry.proofs.Entering.{numbered_with, not_entered, refused, left_out, kept_answers}
use Rattle.ground_entry.proofs.instance.walk_instance.Goals as goal

pub returns-then-not-branch : goal.returns-then-not-branch
returns-then-not-branch c =
    let k : Kept = record { number = c.args.number; action = c.args.search.now.action.now; args = c.args.args.now } in
    not_entered c.args.search.now.task.now c.args.walk.now k c.args.limit (sym c.in_ok-begins.ensures ∙ c.if-not-branch.true) c.requires.few

pub draft-requires-clause-numbered : goal.draft-requires-clause-numbered
draft-requires-clause-numbered c =
    let k : Kept = record { number = c.args.number; action = c.args.search.now.action.now; args = c.args.args.now } in
    numbered_with c.args.search.now.task.now c.args.walk.now k c.see.new.tables c.in_ok-see.ensures

pub returns-in_err-draft : goal.returns-in_err-draft
returns-in_err-draft c =
    let k : Kept = record { number = c.args.number; action = c.args.search.now.action.now; args = c.args.args.now } in
    let p = err_from_is_err_and c.from_residual-in_err-draft.result c.from_residual-in_err-draft.ensures.1 in
    rw (p.1, p.2) (refused c.args.search.now.task.now c.args.walk.now k c.args.limit c.see.new.tables c.in_ok-see.ensures _ c.in_err-draft.ensures)

pub returns-in_default : goal.returns-in_default
returns-in_default c =
    let k : Kept = record { number = c.args.number; action = c.args.search.now.action.now; args = c.args.args.now } in
    left_out c.args.search.now.task.now c.args.walk.now k c.args.limit c.see.new.tables c.in_ok-see.ensures c.in_ok-draft.ensures.0 (sym c.in_default.is ∙ c.in_ok-draft.ensures.1)
    c.len-atoms.result c.len-funcs.result c.len-atoms.ensures.value c.len-funcs.ensures.value c.forget_from.new.self c.forget_from.ensures.atoms c.forget_from.ensures.funcs c.requires.few

pub returns : goal.returns
returns c =
    let k : Kept = record { number = c.args.number; action = c.args.search.now.action.now; args = c.args.args.now } in
    kept_answers c.args.search.now.task.now c.args.walk.now k c.args.limit c.see.new.tables c.in_ok-see.ensures c.in_ok-draft.ensures.0 c.in-Some.draft (sym c.in-Some.is ∙ c.in_ok-draft.ensures.1)
    c.keep.result c.keep.new.walk c.keep.ensures
