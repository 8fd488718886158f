-- One instance: it doesn't begin, it is left out, kept, one too many, or refused.
use Rattle.std.proofs.Common.{◌≡◌, ℕ, ◌+◌, ◌<◌, ◌≤◌, Bool, true, false, cond, List, [], ◌∷◌, ◌++◌, length, take, Option, Some, None, Result, Ok, Err, refl, sym, ap, ap₂, subst, ◌∙◌, arith}
use Rattle.std.proofs.lemmas.List.{append-nil, length-append}
use Rattle.lin.specs.declared.failure.LinFail.{LinFail}
use Rattle.lin.specs.declared.failure.LinFail.TheVariants as lin
use Rattle.lin.specs.Operations.{AllFit, IsFirstPassing, IsRefusal, AnswersInMemory}
use Rattle.pddl_task.specs.declared.action.Action.{Action}
use Rattle.pddl_task.specs.declared.instance.Instance.{Instance}
use Rattle.pddl_task.specs.declared.parts.TaskParts.{TaskParts}
use Rattle.plan_step.specs.State.{PlanState, initial}
use Rattle.ground_numbers.specs.declared.named.Named.{Named}
use Rattle.ground_action.specs.Setting.{Setting, setting_from, setting_of}
use Rattle.ground_action.specs.GroundAction.{leaves_of, moves_of, is_kept, is_numbered}
use Rattle.ground_action.specs.Work.{is_begun, expression_ops, part_ops, instance_ops}
use Rattle.ground_action.proofs.TaskLaws.{kept_unnumbered}
use Rattle.ground_walk.specs.Sightings.{instance_atoms, instance_funcs}
use Rattle.ground_walk.specs.Walk.{Kept}
use Rattle.ground_walk.proofs.NumberLaws.{instance_numbered}
use Rattle.ground_seen.specs.declared.tables.Tables.{Tables}
use Rattle.ground_laws.specs.Laws.{instance_of}
use Rattle.ground_draft.specs.declared.draft.Draft.{Draft}
use Rattle.ground_draft.specs.Drafts.{draft_of, kept_draft}
use Rattle.ground_entry.specs.declared.walk.Walk.{Walk}
use Rattle.ground_entry.specs.declared.failure.GroundFail.{GroundFail}
use Rattle.ground_entry.specs.declared.failure.GroundFail.TheVariants.{Many, CoefWide, Memory}
use Rattle.ground_entry.specs.Refusals.{refusal_of}
use Rattle.ground_entry.specs.Walking.{is_kept_in, tables_with, setting_at, ops_at, kept_with, walk_with, is_over, ops_on, IsThrough, IsTooMany, Refuses, Walks}
use Rattle.ground_entry.specs.inside.Keeping.{IsAdded, Keeps}
use Rattle.ground_entry.proofs.Growing.{taken_back, seen_within}
use Rattle.ground_entry.proofs.Beginning.{not_begun}

abbrev made : Tables → List Instance → List Draft → Walk
made t is ds = record { tables = t; instances = is; drafts = ds }

abbrev tables_of : List Named → List Named → Tables
tables_of atoms funcs = record { atoms = atoms; funcs = funcs }

module _ (task : TaskParts) (w : Walk) (k : Kept) where
  -- what it names has numbers
  pub numbered_with : (t : Tables) → t ≡ tables_with task w.tables k → is_numbered (setting_at task t) (leaves_of (setting_at task t) k.action k.args) (moves_of (setting_at task t) k.action k.args) ≡ true
  numbered_with t e =
      subst (λ (s : Tables). is_numbered (setting_at task s) (leaves_of (setting_at task s) k.action k.args) (moves_of (setting_at task s) k.action k.args) ≡ true) (sym e)
      (instance_numbered task (tables_with task w.tables k).atoms (tables_with task w.tables k).funcs k.action k.args
      (seen_within w.tables.atoms (instance_atoms task k.action k.args)) (seen_within w.tables.funcs (instance_funcs task k.action k.args)))

  kept_at : (t : Tables) → is_kept_in task k ≡ is_kept (setting_at task t) k.action k.args
  kept_at t = kept_unnumbered task t.atoms t.funcs k.action k.args

  ops_with : (t : Tables) → t ≡ tables_with task w.tables k → instance_ops (setting_at task t) k.action k.args ≡ ops_at task w k
  ops_with t e = ap (λ (s : Tables). instance_ops (setting_at task s) k.action k.args) e

  with_kept : (b : Bool) → is_kept_in task k ≡ b → walk_with task w k ≡ cond b (kept_with task w k) w
  with_kept b e = ap (λ c. cond c (kept_with task w k) w) e

  module _ (limit : ℕ) where
    one_ops : ops_on task limit w (k ∷ []) ≡ ops_at task w k
    one_ops = by (is_over limit (walk_with task w k))
      where
        by : (b : Bool) → ops_at task w k ++ cond b [] [] ≡ ops_at task w k
        by true = append-nil (ops_at task w k)
        by false = append-nil (ops_at task w k)

    fit_one : (t : Tables) → t ≡ tables_with task w.tables k → AllFit (instance_ops (setting_at task t) k.action k.args) → AllFit (ops_on task limit w (k ∷ []))
    fit_one t e f = subst AllFit (ops_with t e ∙ sym one_ops) f

    pub not_entered : is_begun (setting_at task w.tables) k.action k.args ≡ false → length w.instances ≤ limit → IsThrough task limit w (k ∷ []) w
    not_entered e few = record { fit = subst AllFit (sym no_ops ∙ sym one_ops) tt; is = sym (with_kept false (not_begun (setting_of task [] []) k.args k.action e)); few = few }
      where
        set : Setting
        set = setting_at task (tables_with task w.tables k)

        no_ops : ops_at task w k ≡ []
        no_ops = ap (λ b. cond b (expression_ops set k.action k.args ++ cond (is_kept set k.action k.args) (part_ops set k.action k.args) []) []) e

    module _ (t : Tables) (is_with : t ≡ tables_with task w.tables k) where
      -- ---- refused
      pub refused : (f : LinFail) → IsRefusal (instance_ops (setting_at task t) k.action k.args) f → Refuses task limit w (k ∷ []) (refusal_of f)
      refused (lin.Wide o) h = subst (IsFirstPassing o) (ops_with t is_with ∙ sym one_ops) h
      refused lin.Memory h = h

      module _ (fit : AllFit (instance_ops (setting_at task t) k.action k.args)) where
        -- ---- left out
        unkept : (b : Bool) → is_kept (setting_at task t) k.action k.args ≡ b → None ≡ cond b (Some (draft_of (setting_at task t) t.atoms k.action k.args)) None → b ≡ false
        unkept true e h = absurd (cc)
        unkept false e h = refl

        pub left_out : None ≡ kept_draft (setting_at task t) t.atoms k.action k.args → (n m : ℕ) → n ≡ length w.tables.atoms → m ≡ length w.tables.funcs
            → (back : Tables) → back.atoms ≡ take n t.atoms → back.funcs ≡ take m t.funcs → length w.instances ≤ limit → IsThrough task limit w (k ∷ []) (made back w.instances w.drafts)
        left_out h n m atoms_long funcs_long back atoms_back funcs_back few = record {
          fit = fit_one t is_with fit;
          is = ap₂ (λ a f. made (tables_of a f) w.instances w.drafts) same_atoms same_funcs ∙ sym (with_kept false (kept_at t ∙ not_kept));
          few = few;
        }
          where
            not_kept : is_kept (setting_at task t) k.action k.args ≡ false
            not_kept = unkept (is_kept (setting_at task t) k.action k.args) refl h

            same_atoms : back.atoms ≡ w.tables.atoms
            same_atoms = atoms_back ∙ ap (λ (s : Tables). take n s.atoms) is_with ∙ taken_back w.tables.atoms (instance_atoms task k.action k.args) n atoms_long

            same_funcs : back.funcs ≡ w.tables.funcs
            same_funcs = funcs_back ∙ ap (λ (s : Tables). take m s.funcs) is_with ∙ taken_back w.tables.funcs (instance_funcs task k.action k.args) m funcs_long

        -- ---- kept, or one too many
        module _ (d : Draft) (h : Some d ≡ kept_draft (setting_at task t) t.atoms k.action k.args) where
          kept_by : (b : Bool) → is_kept (setting_at task t) k.action k.args ≡ b → Some d ≡ cond b (Some (draft_of (setting_at task t) t.atoms k.action k.args)) None
              → (is_kept (setting_at task t) k.action k.args ≡ true) × (d ≡ draft_of (setting_at task t) t.atoms k.action k.args)
          kept_by true e g = (e, cc)
          kept_by false e g = absurd (cc)

          abbrev kept_now : (is_kept (setting_at task t) k.action k.args ≡ true) × (d ≡ draft_of (setting_at task t) t.atoms k.action k.args)
          kept_now = kept_by (is_kept (setting_at task t) k.action k.args) refl h

          with_draft : made t (w.instances ++ instance_of k ∷ []) (w.drafts ++ d ∷ []) ≡ walk_with task w k
          with_draft =
              ap (λ e. made t (w.instances ++ instance_of k ∷ []) (w.drafts ++ e ∷ [])) kept_now.1
              ∙ ap (λ (s : Tables). made s (w.instances ++ instance_of k ∷ []) (w.drafts ++ draft_of (setting_at task s) s.atoms k.action k.args ∷ [])) is_with
              ∙ sym (with_kept true (kept_at t ∙ kept_now.0))

          longer : length (w.instances ++ instance_of k ∷ []) ≡ length w.instances + 1
          longer = length-append w.instances (instance_of k ∷ [])

          added : (new : Walk) → IsAdded limit (made t w.instances w.drafts) (instance_of k) d new → IsThrough task limit w (k ∷ []) new
          added new a = record {
            fit = fit_one t is_with fit;
            is = a.is ∙ with_draft;
            few = let r = a.room in let l = longer in subst (λ (v : Walk). length v.instances ≤ limit) (sym a.is) (omega arith);
          }

          too_many : limit ≤ length w.instances → IsTooMany task limit w (k ∷ [])
          too_many full = record { fit = fit_one t is_with fit; over = let l = longer in subst (λ (v : Walk). limit < length v.instances) with_draft (omega arith) }

          pub kept_answers : {T : Type 0} (r : Result T GroundFail) (new : Walk) → Keeps limit (made t w.instances w.drafts) (instance_of k) d r new → Walks task limit w (k ∷ []) r new
          kept_answers (Ok done) new a = added new a
          kept_answers (Err Many) new a = too_many a
          kept_answers (Err (CoefWide o)) new a = absurd a
          kept_answers (Err Memory) new a = a

-- ---- what is started in the initial state
module _ (task : TaskParts) (t : Tables) (a : Action) (args : List ℕ) where
  abbrev from : PlanState → Setting
  from s = setting_from task s t.atoms t.funcs

  pub numbered_from : (s : PlanState) → s ≡ initial task → is_numbered (setting_at task t) (leaves_of (setting_at task t) a args) (moves_of (setting_at task t) a args) ≡ true
      → is_numbered (from s) (leaves_of (from s) a args) (moves_of (from s) a args) ≡ true
  numbered_from s e h = subst (λ (r : PlanState). is_numbered (from r) (leaves_of (from r) a args) (moves_of (from r) a args) ≡ true) (sym e) h

  pub drafted_from : (s : PlanState) → s ≡ initial task → (r : Result (Option Draft) LinFail) → AnswersInMemory (instance_ops (from s) a args) (kept_draft (from s) t.atoms a args) r
      → AnswersInMemory (instance_ops (setting_at task t) a args) (kept_draft (setting_at task t) t.atoms a args) r
  drafted_from s e r h = subst (λ (q : PlanState). AnswersInMemory (instance_ops (from q) a args) (kept_draft (from q) t.atoms a args) r) e h
