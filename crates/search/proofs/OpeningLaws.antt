-- What is known before anything is printed, and a text that is a range which passes.
use Rattle.std.proofs.Common.{◌≡◌, ℕ, ◌<◌, Bool, true, false, List, [], ◌∷◌, length, refl, sym, ◌∙◌, ap, subst, inl, inr, Option}
use Rattle.std.specs.Prelude.{⊤, codes}
use Rattle.patty_io.specs.declared.sink.SinkFail.{SinkFail}
use Rattle.patty_run.specs.Outside.{Output, NoWriteFails}
use Rattle.patty_run.specs.Printed.{line, Prints, PrintsFront, StopsPrinting}
use Rattle.pddl_task.specs.declared.parts.TaskParts.{TaskParts}
use Rattle.relaxed.specs.declared.failure.RangeWide.{RangeWide}
use Rattle.relaxed.specs.declared.failure.LayerFail.TheVariants as layers
use Rattle.relaxed.specs.Answer.{EachFits, IsPassing}
use Rattle.task_core.specs.Task.{GroundParts}
use Rattle.pattern.specs.Pattern.{IsPattern}
use Rattle.pattern_text.specs.Lines.{range_line}
use Rattle.ground_entry.specs.declared.failure.GroundFail.{GroundFail}
use Rattle.ground_entry.specs.declared.failure.GroundFail.TheVariants as refusal
use Rattle.ground_laws.specs.Result.{task_from}
use Rattle.ground_walk.specs.Walk.{kept_instances}
use Rattle.ground_plans.specs.Plans.{instance_at}
use Rattle.ground.specs.Parts.{GroundedParts}
use Rattle.ground.specs.Grounds.{IsGrounded, RefusesTask}
use Rattle.plain_formula.specs.Plain.{is_plain_task}
use Rattle.planner_text.specs.declared.limits.Limits.{Limits}
use Rattle.planner_text.specs.Text.{Text, unlayered, IsText}
use Rattle.planner_text.proofs.Refuting.{actions_are_kept}
use Rattle.search.specs.declared.found.Found.{Found}
use Rattle.search.specs.declared.found.Found.TheVariants.{Unknown}
use Rattle.search.specs.declared.found.SearchFail.{SearchFail}
use Rattle.search.specs.declared.opening.Opened.{Opened}
use Rattle.search.specs.Searching.{IsNotBuilt, RefusesGround, IsFound, IsSilent, IsStarted, SearchFails}
use Rattle.search.specs.inside.Opening.{IsReady, IsOpened}
use Rattle.search.specs.inside.Going.{search_fail}
use Rattle.search.proofs.GoingLaws.{leaves, leaves_fails}

module _ (task : TaskParts) (parts : GroundedParts) (ready : IsReady task parts) where
  module _ (limits : Limits) (w : RangeWide) (passing : IsPassing (task_from task) (layers.RangeWide w)) where
    pub range_is_kept : w.action < length (kept_instances task)
    range_is_kept = subst (λ (n : ℕ). w.action < n) (actions_are_kept task) passing.0

    is_range_text : IsText task limits (unlayered w)
    is_range_text = record { few = ready.grounded.few; holds = passing }

    abbrev pub range_text : List (List ℕ)
    range_text = range_line task (instance_at task w.action) w ∷ line (codes "end") ∷ []

    pub range_ok : (output : Output) (lines : List (List ℕ)) → lines ≡ range_text → Prints output lines → NoWriteFails output → IsFound output task limits (Unknown 0 0)
    range_ok output lines is prints none = record {
      fit = ready.grounded.fit;
      text = unlayered w;
      is_text = record { text = is_range_text; true_so = tt };
      ranges = tt;
      ends = (refl, refl);
      printed = subst (λ (ls : List (List ℕ)). Prints output ls) is prints;
      no_fault = none;
    }

    pub range_err : (output : Output) (lines : List (List ℕ)) (e : SinkFail) → lines ≡ range_text → PrintsFront output lines → StopsPrinting e output → SearchFails output task limits (search_fail e)
    range_err output lines e is front stops =
        let started : IsStarted output task limits = record {
          fit = ready.grounded.fit;
          text = unlayered w;
          is_text = is_range_text;
          front = subst (λ (ls : List (List ℕ)). PrintsFront output ls) is front;
        } in
        leaves_fails output task limits (search_fail e) (leaves output task limits e started stops)
