-- The actions and the objects of a task have the names that are written in its texts.
use Rattle.std.proofs.Common.{◌≡◌, ℕ, true, List, [], ◌∷◌, ◌++◌, map, refl, sym, ◌∙◌, ap, subst}
use Rattle.std.specs.List.{list_all}
use Rattle.std.proofs.lemmas.Bool.{and_parts}
use Rattle.std.proofs.lemmas.List.{map-append}
use Rattle.std.proofs.lemmas.List.Folds.{list_all-map}
use Rattle.std.proofs.lemmas.Simd.{map-map}
use Rattle.name_table.specs.NameTable.{AreDistinct}
use Rattle.pddl_form.specs.declared.fault.Fault.{Fault}
use Rattle.pddl_form.specs.declared.spot.Spot.{Spot}
use Rattle.pddl_form.specs.declared.typed.Typed.{Typed}
use Rattle.pddl_form.specs.Gather.{apply}
use Rattle.pddl_form.specs.Judged.{Judged, good, bad, mapped, both, each}
use Rattle.pddl_form.proofs.Grammar.{appended_all}
use Rattle.pddl_domain.specs.declared.action.ActionAst.{ActionAst}
use Rattle.pddl_domain.specs.declared.domain.DomainAst.{DomainAst}
use Rattle.pddl_problem.specs.declared.ast.ProblemAst.{ProblemAst}
use Rattle.pddl_task.specs.declared.action.Action.{Action}
use Rattle.pddl_task.specs.declared.condition.Cond.{Cond}
use Rattle.pddl_task.specs.declared.declared.Object.{Object}
use Rattle.pddl_task.specs.declared.effect.Effect.{Effect}
use Rattle.typing_uses.specs.Expressions.{conditions_named, effects_named}
use Rattle.typing_uses.specs.Scope.{Scope, texts, declared_again}
use Rattle.typing_uses.proofs.Good.{MappedGood, mapped_good, BothGood, both_good, front_empty, rest_empty}
use Rattle.typing_names.specs.Domain.{DomainParts, names_of as names_in, heads_of, written_type, object_with, object_named, objects_named, parameters_named, action_with, within, action_named, domain_scope, domain_again, domain_names, parts_named}
use Rattle.typing_names.specs.Problem.{ProblemParts, problem_scope, domain_faults, problem_names, parts_named as problem_named}
use Rattle.typing_names.proofs.GoodParts.{BesideGood, beside_good}
use Rattle.typing.specs.Link.{task_of}
use Rattle.typing.proofs.Numbered.{DomainGood, domain_good, ProblemGood, problem_good}
use Rattle.plan_text.specs.Laws.{is_spelled, AreSpelled}
use Rattle.plan_text.specs.PlanText.{names_of}
use Rattle.read_back.proofs.Forms.{is_named_item}
use Rattle.read_back.proofs.DomainForms.{is_named_action, is_named_domain}
use Rattle.read_back.proofs.ProblemForms.{is_named_problem}
use Rattle.read_back.proofs.Declared.{once, once_in_both}

-- ---- the names of what is made are those that are written

names_kept : {X A : Type 0} (form : X → Judged A) (written : X → List ℕ) (name : A → List ℕ) → ((x : X) (a : A) → form x ≡ good a → name a ≡ written x)
    → (xs : List X) (made : List A) → each (map form xs) ≡ good made → map name made ≡ map written xs
names_kept form written name kept [] made is = let none : [] ≡ made = cc is in ap (map name) (sym none)
names_kept form written name kept (x ∷ xs) made is =
    let h : BothGood ◌∷◌ (form x) (each (map form xs)) made = both_good ◌∷◌ (form x) (each (map form xs)) made is in
    ap (map name) (sym h.made) ∙ ap (λ (n : List ℕ). n ∷ map name h.right) (kept x h.left h.left_is)
    ∙ ap (λ (ns : List (List ℕ)). written x ∷ ns) (names_kept form written name kept xs h.right h.right_is)

abbrev object_name : Object → List ℕ
object_name o = o.name

abbrev written_name : Typed → List ℕ
written_name t = t.name.text

object_kept : (types : List (List ℕ)) (t : Typed) (o : Object) → object_named types t ≡ good o → object_name o ≡ written_name t
object_kept types t o is =
    let h : MappedGood (object_with t.name.text) (written_type types t.types) o = mapped_good (object_with t.name.text) (written_type types t.types) o is in
    ap object_name (sym h.made)

objects_kept : (types : List (List ℕ)) (items : List Typed) (objects : List Object) → objects_named types items ≡ good objects → map object_name objects ≡ map written_name items
objects_kept types items objects is = names_kept (object_named types) written_name object_name (object_kept types) items objects is

abbrev action_name : Action → List ℕ
action_name a = a.name

abbrev written_action : ActionAst → List ℕ
written_action a = a.name.text

-- the name of an action, where one is made
abbrev name_or : List ℕ → Judged Action → List ℕ
name_or name (good a) = a.name
name_or name (bad f more) = name

made_name : (name : List ℕ) (params : Judged (List (List ℕ))) (conds : Judged (List Cond)) (effs : Judged (List Effect)) → name_or name (both apply (both apply (mapped (action_with name) params) conds) effs) ≡ name
made_name name (bad f more) conds effs = refl
made_name name (good ps) (bad f more) effs = refl
made_name name (good ps) (good cs) (bad f more) = refl
made_name name (good ps) (good cs) (good es) = refl

action_kept : (scope : Scope) (a : ActionAst) (x : Action) → action_named scope a ≡ good x → action_name x ≡ written_action a
action_kept scope a x is =
    ap (name_or a.name.text) (sym is)
    ∙ made_name a.name.text (parameters_named scope.types a.params) (conditions_named (within scope a.params) a.conds) (effects_named (within scope a.params) a.effs)

-- ---- names that are declared once

-- no name of an action or a constant is declared again
abbrev pub DeclaresOnce : DomainAst → Type 0
DeclaresOnce d = (declared_again [] (names_in d.constants) ≡ []) × (declared_again [] (map (λ a. a.name) d.actions) ≡ [])

again_parts : (types constants preds funcs actions : List Fault) → types ++ (constants ++ (preds ++ (funcs ++ actions))) ≡ [] → (constants ≡ []) × (actions ≡ [])
again_parts types constants preds funcs actions none =
    let behind : constants ++ (preds ++ (funcs ++ actions)) ≡ [] = rest_empty types (constants ++ (preds ++ (funcs ++ actions))) none in (
      front_empty constants (preds ++ (funcs ++ actions)) behind,
      rest_empty funcs actions (rest_empty preds (funcs ++ actions) (rest_empty constants (preds ++ (funcs ++ actions)) behind)),
    )

domain_once : (d : DomainAst) (parts : DomainParts) → domain_names d ≡ good parts → DeclaresOnce d
unfolding domain_names
domain_once d parts made =
    let b : BesideGood (domain_again d) (parts_named (domain_scope d) d) parts = beside_good (domain_again d) (parts_named (domain_scope d) d) parts made in
    again_parts (declared_again [] (names_in d.types)) (declared_again [] (names_in d.constants)) (declared_again [] (heads_of d.preds)) (declared_again [] (heads_of d.funcs)) (declared_again [] (map (λ a. a.name) d.actions)) b.no_fault

objects_once : (d : DomainAst) (p : ProblemAst) (more : ProblemParts) → problem_names d p ≡ good more → declared_again (domain_scope d).objects (names_in p.objects) ≡ []
unfolding problem_names
objects_once d p more made =
    let faults : List Fault = declared_again (domain_scope d).objects (names_in p.objects) in
    let b : BesideGood (domain_faults d p ++ faults) (problem_named (problem_scope d p) p) more = beside_good (domain_faults d p ++ faults) (problem_named (problem_scope d p) p) more made in
    rest_empty (domain_faults d p) faults b.no_fault

-- ---- the names of a task

item_texts : (items : List Typed) → map written_name items ≡ texts (names_in items)
item_texts items = sym (map-map (λ (s : Spot). s.text) (λ (t : Typed). t.name) items)

action_texts : (actions : List ActionAst) → map written_action actions ≡ texts (map (λ a. a.name) actions)
action_texts actions = sym (map-map (λ (s : Spot). s.text) (λ (a : ActionAst). a.name) actions)

pub task_names : (d : DomainAst) (parts : DomainParts) (p : ProblemAst) (more : ProblemParts) → domain_names d ≡ good parts → problem_names d p ≡ good more
    → is_named_domain d ≡ true → is_named_problem p ≡ true → AreSpelled (names_of (task_of parts more))
task_names d parts p more made also named also_named =
    let h : DomainGood d parts = domain_good d parts made in
    let k : ProblemGood d p more = problem_good d p more also in
    let none : DeclaresOnce d = domain_once d parts made in
    let written = and_parts (list_all is_named_item d.constants) (list_all is_named_action d.actions) named in
    let actions : map action_name parts.actions ≡ map written_action d.actions =
    names_kept (action_named (domain_scope d)) written_action action_name (action_kept (domain_scope d)) d.actions parts.actions h.actions in
    let constants : map object_name parts.objects ≡ map written_name d.constants = objects_kept (domain_scope d).types d.constants parts.objects h.objects in
    let objects : map object_name more.objects ≡ map written_name p.objects = objects_kept (problem_scope d p).types p.objects more.objects k.objects in
    let both_lists : map object_name (parts.objects ++ more.objects) ≡ map written_name d.constants ++ map written_name p.objects =
    map-append object_name parts.objects more.objects ∙ ap (λ (ns : List (List ℕ)). ns ++ map object_name more.objects) constants ∙ ap (λ (ns : List (List ℕ)). map written_name d.constants ++ ns) objects in
    record {
      actions = ap (list_all is_spelled) actions ∙ list_all-map is_spelled written_action d.actions ∙ written.1;
      objects = ap (list_all is_spelled) both_lists
          ∙ appended_all is_spelled (map written_name d.constants) (map written_name p.objects) (list_all-map is_spelled written_name d.constants ∙ written.0) (list_all-map is_spelled written_name p.objects ∙ also_named);
      one_action = subst AreDistinct (sym (actions ∙ action_texts d.actions)) (once (map (λ a. a.name) d.actions) none.1);
      one_object = subst AreDistinct
          (sym (both_lists ∙ ap (λ (ns : List (List ℕ)). ns ++ map written_name p.objects) (item_texts d.constants) ∙ ap (λ (ns : List (List ℕ)). texts (names_in d.constants) ++ ns) (item_texts p.objects)))
          (once_in_both (names_in d.constants) (names_in p.objects) none.0 (objects_once d p more also));
    }
