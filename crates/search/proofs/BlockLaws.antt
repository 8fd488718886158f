-- A block by what came of its formula.
use Rattle.std.proofs.Common.{◌≡◌, ℕ, Bool, List, [], ◌∷◌, ◌++◌, length, map, refl, sym, ◌∙◌, ap, subst, arith}
use Rattle.std.specs.Prelude.{⊤, codes}
use Rattle.std.specs.Fmt.{decimal}
use Rattle.patty_run.specs.Printed.{line}
use Rattle.pddl_task.specs.declared.parts.TaskParts.{TaskParts}
use Rattle.formula.specs.Contents.{Contents, IsFormula}
use Rattle.farkas_law.specs.Lemma.{IsShown}
use Rattle.theory_law.specs.Log.{IsSoundLog}
use Rattle.theory_law.specs.Licence.{IsLicensedLog}
use Rattle.cert_form.specs.Spelling.{step_line}
use Rattle.task_core.specs.Task.{GroundParts}
use Rattle.encode.specs.declared.failure.AtomWide.{AtomWide}
use Rattle.encode_laws.specs.Encoding.{formula_of}
use Rattle.encode_laws.specs.Refusals.{operations_of, AllNamedFit, IsNamedPassing}
use Rattle.ground_laws.specs.Result.{task_from}
use Rattle.planner_text.specs.declared.limits.Limits.{Limits}
use Rattle.planner_text.specs.Text.{Log, End, Block, formula_for, EndHolds, EndIsTrue, IsBlock, IsTrueBlock}
use Rattle.planner_text.specs.Lines.{block_lines, end_lines, atom_line}
use Rattle.search.specs.declared.solving.Attempt.{Attempt}
use Rattle.search.specs.declared.solving.Came.{Came}
use Rattle.search.specs.declared.solving.Came.TheVariants as came
use Rattle.search.specs.declared.opening.Opened.{Opened}
use Rattle.search.specs.declared.block.Made.{Made}
use Rattle.search.specs.declared.block.BlockEnd.{BlockEnd}
use Rattle.search.specs.declared.block.BlockEnd.TheVariants as ends
use Rattle.search.specs.inside.Opening.{IsOpened}
use Rattle.search.specs.inside.Solving.{IsAttempt, CameTo}
use Rattle.search.specs.inside.Blocks.{IsMade, EndsAs, Solves, CanBeWritten, block_of, end_of}

pub solves : (limits : Limits) (f : Contents) (log : Log) (c : Came) → CameTo limits f log c → Solves f c
solves limits f log came.Refuted h = tt
solves limits f log (came.Solution p) h = h
solves limits f log came.Spent h = tt
solves limits f log (came.Stuck t) h = tt

module _ (task : TaskParts) (places : List ℕ) (n : ℕ) where
  pub can_be_written : (c : Came) (e : BlockEnd) → EndsAs task places n c e → CanBeWritten task e
  can_be_written came.Refuted e h = subst (λ (x : BlockEnd). CanBeWritten task x) (sym h) tt
  can_be_written (came.Solution p) e h = subst (λ (x : BlockEnd). CanBeWritten task x) (sym h.1) h.2.written
  can_be_written came.Spent e h = subst (λ (x : BlockEnd). CanBeWritten task x) (sym h) tt
  can_be_written (came.Stuck t) e h = subst (λ (x : BlockEnd). CanBeWritten task x) (sym h) tt

  module _ (limits : Limits) (formula : IsFormula (formula_for task places n)) (log : Log) where
    abbrev Ends : BlockEnd → Type 0
    Ends e = EndHolds task places n log (end_of e) × EndIsTrue task limits places n log (end_of e)

    ends_so : (c : Came) (e : BlockEnd) → CameTo limits (formula_for task places n) log c → EndsAs task places n c e → Ends e
    ends_so came.Refuted e h is = subst (λ (x : BlockEnd). Ends x) (sym is) ((formula, h), tt)
    ends_so (came.Solution p) e h is = subst (λ (x : BlockEnd). Ends x) (sym is.1) (is.2.by, tt)
    ends_so came.Spent e h is = subst (λ (x : BlockEnd). Ends x) (sym is) (tt, h)
    ends_so (came.Stuck t) e h is = subst (λ (x : BlockEnd). Ends x) (sym is) (tt, h)

  is_made_there : (limits : Limits) (a : Attempt) (e : BlockEnd) (lines : List (List ℕ)) → IsFormula (formula_for task places n) → IsAttempt limits (formula_for task places n) a → EndsAs task places n a.came e
      → lines ≡ (line (codes "block " ++ decimal n) ∷ a.lines) ++ end_lines task (end_of e) → IsMade task limits places n (record { lines = lines; end = e })
  is_made_there limits a e lines formula is as_end are =
      let so = ends_so limits formula is.log a.came e is.came as_end in
      record {
        log = is.log;
        is_block = record { sound = is.sound; few = is.few; ends = so.0 };
        is_true = record { licensed = is.licensed; spent = so.1 };
        lines = are ∙ ap (λ (ls : List (List ℕ)). (line (codes "block " ++ decimal n) ∷ ls) ++ end_lines task (end_of e)) is.lines;
      }

  pub is_made : (limits : Limits) (f : Contents) (a : Attempt) (e : BlockEnd) (lines : List (List ℕ)) → f ≡ formula_for task places n → IsFormula f → IsAttempt limits f a → EndsAs task places n a.came e
      → lines ≡ (line (codes "block " ++ decimal n) ∷ a.lines) ++ end_lines task (end_of e) → IsMade task limits places n (record { lines = lines; end = e })
  is_made limits f a e lines is formula attempt as_end are =
      is_made_there limits a e lines (subst (λ (x : Contents). IsFormula x) is formula) (subst (λ (x : Contents). IsAttempt limits x a) is attempt) as_end are

  pub is_wide : (limits : Limits) (m : Made) (w : AtomWide) → m.end ≡ ends.Wide w → m.lines ≡ line (codes "block " ++ decimal n) ∷ atom_line w ∷ []
      → IsNamedPassing (operations_of (task_from task) places n) w.row w.wide → IsMade task limits places n m
  is_wide limits m w ended are passing = record {
    log = [];
    is_block = record { sound = tt; few = omega arith; ends = subst (λ (x : BlockEnd). EndHolds task places n [] (end_of x)) (sym ended) tt };
    is_true = record { licensed = tt; spent = subst (λ (x : BlockEnd). EndIsTrue task limits places n [] (end_of x)) (sym ended) (refl, passing) };
    lines = are ∙ ap (λ (x : BlockEnd). block_lines task n (block_of [] x)) (sym ended);
  }

-- the ground task is that of the task
pub fits_there : (task : TaskParts) (o : Opened) (n : ℕ) → IsOpened task o → AllNamedFit (operations_of o.grounded.task o.pattern n) → AllNamedFit (operations_of (task_from task) o.pattern n)
fits_there task o n opened h = subst (λ (t : GroundParts). AllNamedFit (operations_of t o.pattern n)) opened.ready.grounded.task_is h

pub formula_there : (task : TaskParts) (o : Opened) (n : ℕ) (f : Contents) → IsOpened task o → f ≡ formula_of o.grounded.task o.pattern n → f ≡ formula_of (task_from task) o.pattern n
formula_there task o n f opened h = h ∙ ap (λ (t : GroundParts). formula_of t o.pattern n) opened.ready.grounded.task_is

pub passing_there : (task : TaskParts) (o : Opened) (n : ℕ) (w : AtomWide) → IsOpened task o → IsNamedPassing (operations_of o.grounded.task o.pattern n) w.row w.wide → IsNamedPassing (operations_of (task_from task) o.pattern n) w.row w.wide
passing_there task o n w opened h = subst (λ (t : GroundParts). IsNamedPassing (operations_of t o.pattern n) w.row w.wide) opened.ready.grounded.task_is h
