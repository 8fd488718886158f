use Rattle.std.proofs.Common.{◌≡◌, ℕ, ◌<◌, List, true, length, map, ap, subst, sym, ◌∙◌}
use Rattle.std.specs.List.{AllByRecursion, list_all}
use Rattle.pddl_task.specs.declared.instance.Instance.{Instance}
use Rattle.plan_form.specs.declared.plan.Part.{Part}
use Rattle.plan_form.specs.Printed as printed
use Rattle.plan_form.specs.Printed.{AreCounted, IsPlanOf}
use Rattle.plan_step.specs.Meaning.{IsValidPlan}
use Rattle.encode_laws.specs.Encoding.{counts_at}
use Rattle.encode_laws.specs.Laws.{spelled}
use Rattle.pattern.specs.Word.{copies, parts_of}
use Rattle.ground_walk.specs.Walk.{kept_instances}
use Rattle.ground_laws.specs.Result.{task_from}
use Rattle.ground_plans.specs.Plans.{instances_at}
use Rattle.planner_text.proofs.Refuting.{places_are_kept, actions_are_kept}
use Rattle.pattern_text.proofs.Calls.{kept_are_calls}
use Rattle.search.specs.inside.Planning.{part_in, AreKept}
use Rattle.search.proofs.PlanLaws.{word_kept, counted, word_written, instances_of_word}
use Rattle.search.proofs.plan.plan_at.Goals as goal

pub parts_in-requires-clause-kept : goal.parts_in-requires-clause-kept
parts_in-requires-clause-kept c =
    subst (λ (w : List (ℕ × ℕ)). AreKept c.args.task.now w) (sym (c.as_slice.ensures ∙ c.in_ok-word.ensures))
    (word_kept c.args.task.now c.args.n c.args.opened.now.pattern (counts_at (task_from c.args.task.now) c.args.opened.now.pattern c.args.n c.args.p.now)
    (places_are_kept c.args.task.now c.args.opened.now.pattern c.requires.opened.pattern))

pub new-requires : goal.new-requires
new-requires c =
    let e = c.from_vec.ensures ∙ c.in_ok-parts.ensures ∙ ap (λ (w : List (ℕ × ℕ)). map (part_in c.args.task.now) w) (c.as_slice.ensures ∙ c.in_ok-word.ensures) in
    subst (λ (ps : List Part). AreCounted ps) (sym e) (counted c.args.task.now (copies c.args.n c.args.opened.now.pattern) (counts_at (task_from c.args.task.now) c.args.opened.now.pattern c.args.n c.args.p.now))

pub returns : goal.returns
returns c =
    let task = c.args.task.now in
    let places = c.args.opened.now.pattern in
    let cs = counts_at (task_from task) places c.args.n c.args.p.now in
    let word = parts_of (copies c.args.n places) cs in
    let e : c.new.result ≡ map (part_in task) word = c.new.ensures ∙ c.from_vec.ensures ∙ c.in_ok-parts.ensures ∙ ap (λ (w : List (ℕ × ℕ)). map (part_in task) w) (c.as_slice.ensures ∙ c.in_ok-word.ensures) in
    let spelt = spelled (task_from task) places c.args.n c.args.p.now in
    let same : printed.written_out c.new.result ≡ instances_at task spelt = ap printed.written_out e ∙ instances_of_word task word in
    let numbered : AllByRecursion (λ a. a < length (kept_instances task)) spelt = subst (λ (m : ℕ). AllByRecursion (λ a. a < m) spelt) (actions_are_kept task) c.spells.ensures.valid.numbered in
    let valid = (c.ground_plan_is_plan.ensures task c.well_formed-2.ensures.linear spelt numbered).0 c.spells.ensures.valid in
    record {
      by = record {
        word = spelt;
        is_word = c.spells.ensures.word;
        spelled = same;
        valid = subst (λ (is : List Instance). IsValidPlan task is) (sym same) valid;
      };
      written = subst (λ (ps : List Part). IsPlanOf task ps) (sym e)
          (word_written task word (kept_are_calls task) (word_kept task c.args.n places cs (places_are_kept task places c.requires.opened.pattern)));
    }
