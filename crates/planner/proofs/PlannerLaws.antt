-- The planner's answers: each status is that of a course, and what a run then says.
use Rattle.std.proofs.Common.{◌≡◌, ◌⊎◌, inl, inr, ℕ, ◌<◌, ◌≤◌, List, [], ◌∷◌, ◌++◌, length, Result, Ok, Err, refl, sym, ◌∙◌, subst, arith}
use Rattle.pddl_task.specs.declared.instance.Instance.{Instance}
use Rattle.pddl_task.specs.declared.parts.TaskParts.{TaskParts}
use Rattle.pddl_task.specs.Linear.{IsLinear}
use Rattle.plan_step.specs.Meaning.{IsValidPlan}
use Rattle.plan_form.specs.declared.plan.Part.{Part}
use Rattle.plan_form.specs.Printed.{written_out}
use Rattle.patty_run.specs.Outside.{Outside}
use Rattle.patty_run.specs.Printed.{Prints}
use Rattle.patty_run.specs.Statuses.{Says, SaysRefused, EndsWithAnswer, GivesOut}
use Rattle.patty_run.specs.declared.stop.Stop.{Stop}
use Rattle.patty_run.specs.Causes.{Causes}
use Rattle.patty_run.specs.Programs.{Program, lines_of, status_of}
use Rattle.patty_run.specs.inside.Runs.{PrintsAs, Runs}
use Rattle.patty_run.proofs.StatusLaws as statuses
use Rattle.patty_run.proofs.DueLaws.{answers}
use Rattle.patty_run.proofs.RunLaws.{is_run}
use Rattle.std.specs.List.{AllByRecursion}
use Rattle.encode_rows.proofs.BeginningLaws.{fits-passes}
use Rattle.frac128.specs.Operations.{Fits}
use Rattle.frac128.specs.declared.operations.Wide.{Wide}
use Rattle.lin.specs.Operations.{AllFit, IsFirstPassing}
use Rattle.ground_entry.specs.declared.failure.GroundFail.{GroundFail}
use Rattle.ground_entry.specs.declared.failure.GroundFail.TheVariants as ground
use Rattle.ground.specs.Course.{ops_within}
use Rattle.ground_walk.specs.Walk.{kept_instances}
use Rattle.ground_plans.specs.Plans.{ReachesGoal}
use Rattle.planner_text.specs.declared.limits.Limits.{Limits}
use Rattle.planner_text.specs.Text.{Log, End, refuted, found, unknown, Block, Text, layered, unlayered, IsText, IsTrueText}
use Rattle.planner_text.specs.Lines.{text_lines}
use Rattle.search.specs.Searching.{RefusesGround, IsNotBuilt}
use Rattle.planner.specs.Planner.{Course, printed, refused, not_built, Answer, Takes, Allows, end_status, text_status, course_status, course_lines, lines, status, usage_line, planner, limits_here, program, IsOfFiles, SaysPlan, SaysNone, SaysUnknown, SaysTaskRefused, IsFaultless, IsPlanRun}
use Rattle.planner.specs.Words.{files_of}
use Rattle.planner.specs.inside.Answering.{IsTruly, VerdictIsTrue, RunsOn}

-- ---- each status is that of a course

end_low : (e : End) → end_status e < 3
end_low refuted = omega arith
end_low (found plan) = omega arith
end_low (unknown reason) = omega arith

text_low : (t : Text) → text_status t < 3
text_low (layered places before last) = end_low last.end
text_low (unlayered w) = omega arith

course_low : (c : Course) → course_status c < 4
course_low (printed t) = let low = text_low t in omega (arith, low)
course_low (refused fail) = omega arith
course_low not_built = omega arith

free : (limits : Limits) → statuses.IsFree (planner limits)
free limits a = inl (course_low a.course)

-- ---- where all operations fit, none passes

in_middle : {X : Type 0} (P : X → Type 0) (front : List X) (x : X) (behind : List X) → AllByRecursion P (front ++ x ∷ behind) → P x
in_middle P [] x behind all = all.0
in_middle P (y ∷ front) x behind all = in_middle P front x behind all.1

none_passes : (w : Wide) (ops : List Wide) → AllFit ops → IsFirstPassing w ops → ⊥
none_passes w ops fit first =
    fits-passes w.op w.x w.y (in_middle (λ o. Fits o.op o.x o.y) first.front w first.behind (subst (λ (l : List Wide). AllFit l) first.place fit)) first.passes

-- ---- the laws of texts, as this crate is given them

pub record TextLaws : Type 0 where
  pub valid : (task : TaskParts) (limits : Limits) (places : List ℕ) (before : List Log) (last : Block) (plan : List Part) → IsText task limits (layered places before last)
      → last.end ≡ found plan → IsValidPlan task (written_out plan)
  pub reached : (task : TaskParts) (limits : Limits) (places : List ℕ) (before : List Log) (last : Block) (plan : List Part) → IsText task limits (layered places before last)
      → last.end ≡ found plan → ReachesGoal task places (length before)
  pub least : (task : TaskParts) (limits : Limits) (places : List ℕ) (before : List Log) (last : Block) → IsLinear task → IsText task limits (layered places before last)
      → (n : ℕ) → n < length before → ReachesGoal task places n → ⊥
  pub words : (task : TaskParts) (limits : Limits) (places : List ℕ) (before : List Log) (last : Block) → IsLinear task → IsText task limits (layered places before last)
      → last.end ≡ refuted → (n : ℕ) → n ≤ limits.max_n → ReachesGoal task places n → ⊥
  pub plans : (task : TaskParts) (limits : Limits) (places : List ℕ) (before : List Log) (last : Block) → IsLinear task → IsText task limits (layered places before last)
      → last.end ≡ refuted → (plan : List Instance) → length plan ≤ limits.max_n → IsValidPlan task plan → ⊥

-- ---- the program whose texts are true

abbrev pub truly : Limits → Program Answer
truly limits = record {
  usage = usage_line;
  files_of = files_of;
  Allows = λ task more a. Allows limits task a × IsTruly limits task a.course;
  lines = lines;
  status = status;
}

truly_free : (limits : Limits) → statuses.IsFree (truly limits)
truly_free limits a = inl (course_low a.course)

module _ (laws : TextLaws) (outside : Outside) where
  abbrev limits : Limits
  limits = limits_here outside

  -- what an answer that is said comes from: the task is that of the files
  record Given (c : Course) : Type 0 where
    task : TaskParts
    of_files : IsOfFiles outside task
    linear : IsLinear task
    takes : Takes limits task c
    is_true : IsTruly limits task c
    printed_is : Prints outside.output (course_lines task c)

  given : (a : Answer) → Says (truly limits) outside (Ok a) → Given a.course
  given a says =
      let is = says.caused in
      record {
        task = is.task;
        of_files = record { domain = is.domain; problem = is.problem; more = is.more; held = is.held; is_task = is.is_task };
        linear = is.allowed.0.linear;
        takes = is.allowed.0.takes;
        is_true = is.allowed.1;
        printed_is = subst (λ (t : TaskParts). Prints outside.output (course_lines t a.course)) is.allowed.0.same_task says.printed;
      }

  -- ---- by the end of the last block

  plan_from : (places : List ℕ) (before : List Log) (last : Block) (e : End) → last.end ≡ e → end_status e ≡ 0 → Given (printed (layered places before last)) → SaysPlan outside
  plan_from places before last refuted is zero g = absurd (omega (arith, zero))
  plan_from places before last (found plan) is zero g = record {
    task = g.task;
    places = places;
    before = before;
    last = last;
    plan = plan;
    says = record { of_files = g.of_files; is_text = g.is_true; printed_is = g.printed_is };
    ends = is;
    valid = laws.valid g.task limits places before last plan g.takes.0 is;
    reached = laws.reached g.task limits places before last plan g.takes.0 is;
    least = laws.least g.task limits places before last g.linear g.takes.0;
  }
  plan_from places before last (unknown reason) is zero g = absurd (omega (arith, zero))

  none_from : (places : List ℕ) (before : List Log) (last : Block) (e : End) → last.end ≡ e → end_status e ≡ 1 → Given (printed (layered places before last)) → SaysNone outside
  none_from places before last refuted is one g = record {
    task = g.task;
    places = places;
    before = before;
    last = last;
    says = record { of_files = g.of_files; is_text = g.is_true; printed_is = g.printed_is };
    ends = is;
    none = laws.words g.task limits places before last g.linear g.takes.0 is;
    no_plan = laws.plans g.task limits places before last g.linear g.takes.0 is;
  }
  none_from places before last (found plan) is one g = absurd (omega (arith, one))
  none_from places before last (unknown reason) is one g = absurd (omega (arith, one))

  unknown_from : (places : List ℕ) (before : List Log) (last : Block) (e : End) → last.end ≡ e → end_status e ≡ 2 → Given (printed (layered places before last)) → SaysUnknown outside
  unknown_from places before last refuted is two g = absurd (omega (arith, two))
  unknown_from places before last (found plan) is two g = absurd (omega (arith, two))
  unknown_from places before last (unknown reason) is two g = record {
    task = g.task;
    text = layered places before last;
    says = record { of_files = g.of_files; is_text = g.is_true; printed_is = g.printed_is };
    is_open = (reason, is);
  }

  -- ---- by the course

  plan_at : (c : Course) → course_status c ≡ 0 → Given c → SaysPlan outside
  plan_at (printed (layered places before last)) is g = plan_from places before last last.end refl is g
  plan_at (printed (unlayered w)) is g = absurd (omega (arith, is))
  plan_at (refused fail) is g = absurd (omega (arith, is))
  plan_at not_built is g = absurd (omega (arith, is))

  none_at : (c : Course) → course_status c ≡ 1 → Given c → SaysNone outside
  none_at (printed (layered places before last)) is g = none_from places before last last.end refl is g
  none_at (printed (unlayered w)) is g = absurd (omega (arith, is))
  none_at (refused fail) is g = absurd (omega (arith, is))
  none_at not_built is g = absurd (omega (arith, is))

  unknown_at : (c : Course) → course_status c ≡ 2 → Given c → SaysUnknown outside
  unknown_at (printed (layered places before last)) is g = unknown_from places before last last.end refl is g
  unknown_at (printed (unlayered w)) is g = record {
    task = g.task;
    text = unlayered w;
    says = record { of_files = g.of_files; is_text = g.is_true; printed_is = g.printed_is };
    is_open = tt;
  }
  unknown_at (refused fail) is g = absurd (omega (arith, is))
  unknown_at not_built is g = absurd (omega (arith, is))

  refused_task : (c : Course) → course_status c ≡ 3 → Given c → SaysTaskRefused outside
  refused_task (printed t) is g = let low = text_low t in absurd (omega (arith, low, is))
  refused_task (refused fail) is g = record { task = g.task; of_files = g.of_files; why = inl (fail, g.takes, g.printed_is) }
  refused_task not_built is g = record { task = g.task; of_files = g.of_files; why = inr (g.takes, g.printed_is) }

  refused_at : SaysRefused (truly limits) outside ⊎ statuses.SaysAnswer (truly limits) outside 3 → SaysRefused (program outside) outside ⊎ SaysTaskRefused outside
  refused_at (inl (inl (fault, is))) = inl (inl (fault, record { caused = is.caused; printed = is.printed }))
  refused_at (inl (inr (input, is))) = inl (inr (input, record { caused = is.caused; printed = is.printed }))
  refused_at (inr is) = inr (refused_task is.answer.course is.status_is (given is.answer is.says))

  -- ---- what is due

  -- a task that grounding takes, and that has no numbers, has a text
  decided : (task : TaskParts) (c : Course) → AllFit (ops_within task 1000000) → length (kept_instances task) ≤ 1000000 → (IsNotBuilt task → ⊥) → Takes limits task c → course_status c < 3
  decided task (printed t) fit few plain takes = text_low t
  decided task (refused ground.Many) fit few plain takes = let over = takes.over in absurd (omega (arith, over, few))
  decided task (refused (ground.CoefWide w)) fit few plain takes = absurd (none_passes w (ops_within task 1000000) fit takes)
  decided task (refused ground.Memory) fit few plain takes = absurd takes
  decided task not_built fit few plain takes = absurd (plain takes)

  completes : (code : ℕ) (is : IsFaultless outside) → EndsWithAnswer (program outside) outside code is.task [] ⊎ GivesOut (program outside) outside code → (code < 3) ⊎ (code ≡ 7)
  completes code is (inl (a, allowed, ends)) =
      let small = decided is.task a.course is.fit is.few is.plain allowed.takes in
      let same : code ≡ course_status a.course = ends.status in
      inl (omega (arith, small, same))
  completes code is (inr (inl failed)) = absurd (is.no_fault failed.1)
  completes code is (inr (inr memory)) = inr memory

  module _ (code : ℕ) (run : RunsOn outside.files outside.output (files_of outside.words) limits code) where
    runs : Runs (program outside) outside code
    runs = record { verdict = run.verdict; caused = run.caused; counts = run.counts; printed = run.printed_is }

    -- where no write failed and memory was enough, the text is true
    true_cause : (v : Result Answer Stop) → VerdictIsTrue limits v → Causes outside.files (files_of outside.words) (program outside) v → Causes outside.files (files_of outside.words) (truly limits) v
    true_cause (Ok a) is c = record {
      domain = c.domain;
      problem = c.problem;
      more = c.more;
      held = c.held;
      task = c.task;
      is_task = c.is_task;
      allowed = (c.allowed, subst (λ (t : TaskParts). IsTruly limits t a.course) c.allowed.same_task is);
    }
    true_cause (Err why) is c = c

    same_printed : (v : Result Answer Stop) → PrintsAs outside.output (lines_of (program outside) v) (status_of (program outside) v) code → PrintsAs outside.output (lines_of (truly limits) v) (status_of (truly limits) v) code
    same_printed (Ok a) is = is
    same_printed (Err why) is = is

    true_run : code < 6 → Runs (truly limits) outside code
    true_run low = record {
      verdict = run.verdict;
      caused = true_cause run.verdict (run.truly low) run.caused;
      counts = run.counts;
      printed = same_printed run.verdict run.printed_is;
    }

    says_at : (k : ℕ) → k < 3 → code ≡ k → statuses.SaysAnswer (truly limits) outside k
    says_at k low is = statuses.answered (truly limits) (truly_free limits) outside code (true_run (omega (arith, low, is))) k low is

    pub is_plan_run : IsPlanRun outside code
    is_plan_run = record {
      plan = λ is. let a = says_at 0 (omega arith) is in plan_at a.answer.course a.status_is (given a.answer a.says);
      none = λ is. let a = says_at 1 (omega arith) is in none_at a.answer.course a.status_is (given a.answer a.says);
      unknown = λ is. let a = says_at 2 (omega arith) is in unknown_at a.answer.course a.status_is (given a.answer a.says);
      refused = λ is. refused_at (statuses.refused (truly limits) (truly_free limits) outside code (true_run (omega (arith, is))) is);
      never = λ is. let small = statuses.at_most (program outside) (free limits) outside code runs (λ a. let low = course_low a.course in omega (arith, low)) in omega (arith, small, is);
      complete = λ is. completes code is (answers (program outside) outside code runs is.task [] is.given);
      run = is_run (program outside) (free limits) outside code runs;
    }
