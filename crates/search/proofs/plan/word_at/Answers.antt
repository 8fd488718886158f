use Rattle.std.proofs.Common.{◌≡◌, ℕ, ◌*◌, List, length, map, ap, subst, sym, ◌∙◌}
use Rattle.std.specs.Prelude.{IfOk}
use Rattle.std.specs.List.{AllByRecursion}
use lib.IntN.{pos}
use Rattle.rational.specs.Fraction.{Fraction, whole}
use Rattle.task_core.specs.Task.{GroundParts}
use Rattle.encode_laws.specs.Encoding.{counts_at}
use Rattle.pattern.specs.Word.{copies, parts_of}
use Rattle.ground_laws.specs.Result.{task_from}
use Rattle.search.proofs.PlanLaws.{count_for_each, all_whole}
use Rattle.search.proofs.plan.word_at.Goals as goal

shown : (c : goal.After-as_slice) → c.as_slice.result.now ≡ counts_at (task_from c.args.task.now) c.args.opened.now.pattern c.args.n c.args.p.now
shown c = c.as_slice.ensures.value ∙ c.in_ok-counts.ensures
    ∙ ap (λ (t : GroundParts). counts_at t c.args.opened.now.pattern c.args.n c.args.p.now) (c.task.ensures.value ∙ c.requires.opened.ready.grounded.task_is)

many : (c : goal.After-as_slice) → length c.as_slice.result.now ≡ c.args.n * length c.args.opened.now.pattern
many c = ap length (shown c) ∙ count_for_each (task_from c.args.task.now) c.args.opened.now.pattern c.args.n c.args.p.now

pub word_of-requires-clause-copies : goal.word_of-requires-clause-copies
word_of-requires-clause-copies c = (c.args.n, many c)

pub word_of-requires-clause-counts : goal.word_of-requires-clause-counts
word_of-requires-clause-counts c =
    subst (λ (cs : List Fraction). AllByRecursion (λ q. (k : ℕ) × (q ≡ whole (pos k))) cs) (sym (shown c ∙ c.requires.spelled.at_point)) (all_whole c.requires.spelled.counts)

pub returns : goal.returns
returns c =
    let e = c.as_slice.ensures.value ∙ c.in_ok-counts.ensures ∙ ap (λ (t : GroundParts). counts_at t c.args.opened.now.pattern c.args.n c.args.p.now) (c.task.ensures.value ∙ c.requires.opened.ready.grounded.task_is) in
    let l = ap length e ∙ count_for_each (task_from c.args.task.now) c.args.opened.now.pattern c.args.n c.args.p.now in
    subst (λ (cs : List Fraction). IfOk c.word_of.result (λ w. w.parts ≡ parts_of (copies c.args.n c.args.opened.now.pattern) cs)) e (c.word_of.ensures c.args.n l)
