-- The task of two texts in which no pass finds a fault is well formed.
use Rattle.std.proofs.Common.{◌≡◌, ℕ, zero, suc, ◌+◌, ◌<◌, ◌≤◌, Bool, true, false, List, [], ◌∷◌, ◌++◌, length, map, Option, Some, None, arith, refl, sym, ◌∙◌, ap, subst}
use Rattle.std.specs.Prelude.{not, ◌&&◌, ◌||◌, ◌==◌, nat_le, slice_get, if◌then◌else◌}
use Rattle.std.specs.List.{list_all, flat_map}
use Rattle.std.proofs.lemmas.Bool.{and_parts}
use Rattle.std.proofs.lemmas.Bool.Decides.{nat_tests}
use Rattle.std.proofs.lemmas.List.{length-append}
use Rattle.pddl_form.specs.declared.fault.Fault.{Fault}
use Rattle.pddl_form.specs.declared.spot.Spot.{Spot}
use Rattle.pddl_form.specs.declared.names.Sort.TheVariants as sort
use Rattle.pddl_form.specs.Grammar.{is_of}
use Rattle.pddl_form.specs.Judged.{Judged, good, mapped, both, each}
use Rattle.pddl_form.specs.Names.{is_name, is_variable, is_symbol, begins_name}
use Rattle.pddl_domain.specs.declared.action.ActionAst.{ActionAst}
use Rattle.pddl_domain.specs.declared.domain.DomainAst.{DomainAst}
use Rattle.pddl_problem.specs.declared.ast.InitAst.{InitAst}
use Rattle.pddl_problem.specs.declared.ast.InitAst.TheVariants as item_ast
use Rattle.pddl_problem.specs.declared.ast.ProblemAst.{ProblemAst}
use Rattle.pddl_problem.specs.Grammar.{is_init, is_problem}
use Rattle.pddl_task.specs.declared.action.Action.{Action}
use Rattle.pddl_task.specs.declared.declared.Object.{Object as Declared_object}
use Rattle.pddl_task.specs.declared.declared.TypeName.{TypeName}
use Rattle.pddl_task.specs.declared.expression.Term.{Term}
use Rattle.pddl_task.specs.declared.expression.Term.TheVariants as term
use Rattle.pddl_task.specs.declared.parts.TaskParts.{TaskParts}
use Rattle.pddl_task.specs.Task.{parents}
use Rattle.pddl_task.specs.Numbers.{IsCountable}
use Rattle.pddl_task.specs.Typed.{is_typed_atom, is_typed_call, is_typed_condition, is_typed_effect, is_typed_action, objects_as_terms, is_typed_fact, is_typed_given, IsTyped}
use Rattle.pddl_task.specs.Linear.{IsLinear}
use Rattle.pddl_task.specs.WellFormed.{IsTypeTree, IsWellFormed}
use Rattle.typing_uses.specs.Scope.{Scope, named, term_named, terms_named}
use Rattle.typing_uses.specs.Expressions.{condition_named, effect_named}
use Rattle.typing_uses.proofs.Good.{BothGood, both_good, both_true, each_faultless, front_empty, rest_empty}
use Rattle.typing_names.specs.Faults.{tested}
use Rattle.typing_names.specs.Domain.{DomainParts, within, action_named, domain_scope, domain_names, type_names, types_in}
use Rattle.typing_names.specs.Problem.{Item, atom, value, value_with, objects_in, item_named, facts_in, values_in, ProblemParts, problem_scope, problem_names}
use Rattle.typing_names.proofs.GoodParts.{ActionGood, action_good}
use Rattle.typing_names.proofs.GrammarParts.{problem_inits}
use Rattle.typing_linear.specs.Linear.{domain_nonlinearities, goal_nonlinearities}
use Rattle.typing_linear.proofs.Resolved.{actions_linear, goal_linear}
use Rattle.typing_types.specs.Types.{Declared, type_faults, action_faults, body_faults, inside, condition_faults, effect_faults, atom_faults, function_faults, item_faults, given_again, domain_declared, domain_types, problem_declared, problem_faults, problem_types}
use Rattle.typing.specs.Link.{task_of}
use Rattle.typing.proofs.NumberLaws.{Fits}
use Rattle.typing.proofs.Numbered.{DomainGood, domain_good, ProblemGood, problem_good, counts_with, all_objects, fits_domain, fits_inside, fits_problem, params_count, task_numbered}
use Rattle.typing.proofs.TypedLaws.{call_typed, condition_typed, effect_typed}
use Rattle.typing.proofs.TypeTree.{type_tree}
use Rattle.typing.proofs.ValueLaws.{one_value_each}

pub none_found : (fs : List Fault) → tested fs ≡ good tt → fs ≡ []
none_found [] passed = refl
none_found (f ∷ more) passed = absurd (cc passed)

-- objects of the front of a list keep their places
front_kept : {A : Type 0} (xs ys : List A) (n : ℕ) → n < length xs → slice_get (xs ++ ys) n ≡ slice_get xs n
front_kept [] ys n few = absurd (omega arith)
front_kept (x ∷ xs) ys zero few = refl
front_kept (x ∷ xs) ys (suc n) few = front_kept xs ys n (omega arith)

-- ---- the actions of a domain

module _ (d : DomainAst) (parts : DomainParts) (more : ProblemParts) (h : DomainGood d parts) where
  action_typed : (a : ActionAst) (x : Action) → action_named (domain_scope d) a ≡ good x → body_faults (inside (domain_declared d parts) a (Some x)) a ≡ [] → is_typed_action (task_of parts more) x ≡ true
  action_typed a x made none =
      let g : ActionGood (domain_scope d) a x = action_good (domain_scope d) a x made in
      let scope : Scope = within (domain_scope d) a.params in
      let fits : Fits (within (domain_scope d) a.params) (counts_with parts (length parts.objects)) (length x.params) =
      fits_inside (domain_scope d) (counts_with parts (length parts.objects)) 0 (length x.params) a.params (fits_domain d parts (length parts.objects) h (omega arith)) (params_count (domain_scope d).types a.params x.params g.params) in
      let kept : (o : ℕ) → o < length parts.objects → slice_get (parts.objects ++ more.objects) o ≡ slice_get parts.objects o = λ o few. front_kept parts.objects more.objects o few in
      both_true (list_all (is_typed_condition (task_of parts more) x.params) x.conds) (list_all (is_typed_effect (task_of parts more) x.params) x.effs)
      (each_faultless (condition_named (within (domain_scope d) a.params)) (condition_faults (inside (domain_declared d parts) a (Some x))) (is_typed_condition (task_of parts more) x.params)
      (condition_typed (within (domain_scope d) a.params) (task_of parts more) parts.objects x.params kept fits.objects fits.params fits.preds fits.funcs) a.conds x.conds g.conds
      (front_empty (flat_map (condition_faults (inside (domain_declared d parts) a (Some x))) a.conds) (flat_map (effect_faults (inside (domain_declared d parts) a (Some x))) a.effs) none))
      (each_faultless (effect_named (within (domain_scope d) a.params)) (effect_faults (inside (domain_declared d parts) a (Some x))) (is_typed_effect (task_of parts more) x.params)
      (effect_typed (within (domain_scope d) a.params) (task_of parts more) parts.objects x.params kept fits.objects fits.params fits.preds fits.funcs) a.effs x.effs g.effs
      (rest_empty (flat_map (condition_faults (inside (domain_declared d parts) a (Some x))) a.conds) (flat_map (effect_faults (inside (domain_declared d parts) a (Some x))) a.effs) none))

  actions_typed : (written : List ActionAst) (xs : List Action) → each (map (action_named (domain_scope d)) written) ≡ good xs → action_faults (domain_declared d parts) written xs ≡ [] → list_all (is_typed_action (task_of parts more)) xs ≡ true
  actions_typed [] xs made none = let empty : [] ≡ xs = cc made in subst (λ (l : List Action). list_all (is_typed_action (task_of parts more)) l ≡ true) empty refl
  actions_typed (a ∷ written) xs made none =
      let g : BothGood ◌∷◌ (action_named (domain_scope d) a) (each (map (action_named (domain_scope d)) written)) xs =
      both_good ◌∷◌ (action_named (domain_scope d) a) (each (map (action_named (domain_scope d)) written)) xs made in
      let faults : action_faults (domain_declared d parts) (a ∷ written) (g.left ∷ g.right) ≡ [] = ap (action_faults (domain_declared d parts) (a ∷ written)) g.made ∙ none in
      subst (λ (l : List Action). list_all (is_typed_action (task_of parts more)) l ≡ true) g.made
      (both_true (is_typed_action (task_of parts more) g.left) (list_all (is_typed_action (task_of parts more)) g.right)
      (action_typed a g.left g.left_is (front_empty (body_faults (inside (domain_declared d parts) a (Some g.left)) a) (action_faults (domain_declared d parts) written g.right) faults))
      (actions_typed written g.right g.right_is (rest_empty (body_faults (inside (domain_declared d parts) a (Some g.left)) a) (action_faults (domain_declared d parts) written g.right) faults)))

-- ---- the items of a problem, whose arguments are names

not_a_variable : (text : List ℕ) → is_name text ≡ true → is_variable text ≡ false
not_a_variable [] name = absurd (cc name)
not_a_variable (b ∷ bytes) name = ap (λ (t : Bool). t && not (length bytes == 0)) (no_mark b name)
  where
    no_mark : (b : ℕ) → ((nat_le 97 b && nat_le b 122) || b == 95) ≡ true → (b == 63) ≡ false
    no_mark b name = by_test (b == 63) refl
      where
        by_test : (t : Bool) → (b == 63) ≡ t → t ≡ false
        by_test false is = refl
        by_test true is = absurd (grind (arith, nat_tests))

object_term : (scope : Scope) (spot : Spot) (o : ℕ) → is_name spot.text ≡ true → named scope.objects spot ≡ good o → term_named scope spot ≡ good (term.Object o)
object_term scope spot o name found =
    ap (λ (b : Bool). if b then mapped term.Param (named scope.params spot) else mapped term.Object (named scope.objects spot)) (not_a_variable spot.text name) ∙ ap (mapped term.Object) found

objects_terms : (scope : Scope) (spots : List Spot) (os : List ℕ) → list_all (is_of sort.Name) spots ≡ true → objects_in scope spots ≡ good os → terms_named scope spots ≡ good (objects_as_terms os)
objects_terms scope [] os names made = let empty : [] ≡ os = cc made in ap (λ (l : List ℕ). good (objects_as_terms l)) empty
objects_terms scope (spot ∷ spots) os names made =
    let g : BothGood ◌∷◌ (named scope.objects spot) (objects_in scope spots) os = both_good ◌∷◌ (named scope.objects spot) (objects_in scope spots) os made in
    let parts = and_parts (is_of sort.Name spot) (list_all (is_of sort.Name) spots) names in
    ap (λ (j : Judged Term). both ◌∷◌ j (terms_named scope spots)) (object_term scope spot g.left parts.0 g.left_is)
    ∙ ap (both ◌∷◌ (good (term.Object g.left))) (objects_terms scope spots g.right parts.1 g.right_is) ∙ ap (λ (l : List ℕ). good (objects_as_terms l)) g.made

-- an item fits where it stands
abbrev is_typed_item : TaskParts → Item → Bool
is_typed_item task (atom place pos pred args) = is_typed_atom task [] pred (objects_as_terms args)
is_typed_item task (value place func args amount) = is_typed_call task [] func (objects_as_terms args)

facts_typed : (task : TaskParts) (items : List Item) → list_all (is_typed_item task) items ≡ true → list_all (is_typed_fact task) (facts_in items) ≡ true
facts_typed task [] all = refl
facts_typed task (atom place true pred args ∷ items) all =
    let parts = and_parts (is_typed_item task (atom place true pred args)) (list_all (is_typed_item task) items) all in
    both_true (is_typed_fact task (record { pred = pred; args = args })) (list_all (is_typed_fact task) (facts_in items)) parts.0 (facts_typed task items parts.1)
facts_typed task (atom place false pred args ∷ items) all = facts_typed task items (and_parts (is_typed_item task (atom place false pred args)) (list_all (is_typed_item task) items) all).1
facts_typed task (value place func args amount ∷ items) all = facts_typed task items (and_parts (is_typed_item task (value place func args amount)) (list_all (is_typed_item task) items) all).1

values_typed : (task : TaskParts) (items : List Item) → list_all (is_typed_item task) items ≡ true → list_all (is_typed_given task) (values_in items) ≡ true
values_typed task [] all = refl
values_typed task (atom place true pred args ∷ items) all = values_typed task items (and_parts (is_typed_item task (atom place true pred args)) (list_all (is_typed_item task) items) all).1
values_typed task (atom place false pred args ∷ items) all = values_typed task items (and_parts (is_typed_item task (atom place false pred args)) (list_all (is_typed_item task) items) all).1
values_typed task (value place func args amount ∷ items) all =
    let parts = and_parts (is_typed_item task (value place func args amount)) (list_all (is_typed_item task) items) all in
    both_true (is_typed_given task (record { func = func; args = args; value = amount })) (list_all (is_typed_given task) (values_in items)) parts.0 (values_typed task items parts.1)

module _ (d : DomainAst) (parts : DomainParts) (p : ProblemAst) (more : ProblemParts) (h : DomainGood d parts) (k : ProblemGood d p more) where
  abbrev fits : Fits (problem_scope d p) (counts_with parts (all_objects parts more)) 0
  fits = fits_problem d parts p more h k

  item_typed : (i : InitAst) (x : Item) → is_init i ≡ true → item_named (problem_scope d p) i ≡ good x → item_faults (problem_declared d parts p more) i ≡ [] → is_typed_item (task_of parts more) x ≡ true
  item_typed (item_ast.Put pos name args place) x init made none =
      let g : BothGood (atom place pos) (named (problem_scope d p).preds name) (objects_in (problem_scope d p) args) x = both_good (atom place pos) (named (problem_scope d p).preds name) (objects_in (problem_scope d p) args) x made in
      let names = (and_parts (is_symbol name.text) (list_all (is_of sort.Name) args) init).1 in
      subst (λ (y : Item). is_typed_item (task_of parts more) y ≡ true) g.made
      (call_typed (problem_scope d p) (task_of parts more) (parts.objects ++ more.objects) [] (λ o few. refl) fits.objects fits.params fits.preds fits.funcs (problem_scope d p).preds parts.preds fits.preds name args g.left
      (objects_as_terms g.right) g.left_is (objects_terms (problem_scope d p) args g.right names g.right_is) none)
  item_typed (item_ast.Value name args amount place) x init made none =
      let g : BothGood (value_with place amount) (named (problem_scope d p).funcs name) (objects_in (problem_scope d p) args) x =
      both_good (value_with place amount) (named (problem_scope d p).funcs name) (objects_in (problem_scope d p) args) x made in
      let names = (and_parts (is_symbol name.text) (list_all (is_of sort.Name) args) init).1 in
      subst (λ (y : Item). is_typed_item (task_of parts more) y ≡ true) g.made
      (call_typed (problem_scope d p) (task_of parts more) (parts.objects ++ more.objects) [] (λ o few. refl) fits.objects fits.params fits.preds fits.funcs (problem_scope d p).funcs parts.funcs fits.funcs name args g.left
      (objects_as_terms g.right) g.left_is (objects_terms (problem_scope d p) args g.right names g.right_is) none)

  items_typed : (is : List InitAst) (xs : List Item) → list_all is_init is ≡ true → each (map (item_named (problem_scope d p)) is) ≡ good xs → flat_map (item_faults (problem_declared d parts p more)) is ≡ [] → list_all (is_typed_item (task_of parts more)) xs ≡ true
  items_typed [] xs init made none = let empty : [] ≡ xs = cc made in subst (λ (l : List Item). list_all (is_typed_item (task_of parts more)) l ≡ true) empty refl
  items_typed (i ∷ is) xs init made none =
      let g : BothGood ◌∷◌ (item_named (problem_scope d p) i) (each (map (item_named (problem_scope d p)) is)) xs =
      both_good ◌∷◌ (item_named (problem_scope d p) i) (each (map (item_named (problem_scope d p)) is)) xs made in
      let own = and_parts (is_init i) (list_all is_init is) init in
      subst (λ (l : List Item). list_all (is_typed_item (task_of parts more)) l ≡ true) g.made
      (both_true (is_typed_item (task_of parts more) g.left) (list_all (is_typed_item (task_of parts more)) g.right)
      (item_typed i g.left own.0 g.left_is (front_empty (item_faults (problem_declared d parts p more) i) (flat_map (item_faults (problem_declared d parts p more)) is) none))
      (items_typed is g.right own.1 g.right_is (rest_empty (item_faults (problem_declared d parts p more) i) (flat_map (item_faults (problem_declared d parts p more)) is) none)))

-- ---- the whole

-- what the passes over types find, in parts
domain_parts_empty : (d : DomainAst) (parts : DomainParts) → domain_types d parts ≡ [] → (flat_map (type_faults (domain_scope d).types (parents parts.types)) d.types ≡ []) × (action_faults (domain_declared d parts) d.actions parts.actions ≡ [])
unfolding domain_types
domain_parts_empty d parts none = (
  front_empty (flat_map (type_faults (domain_scope d).types (parents parts.types)) d.types) (action_faults (domain_declared d parts) d.actions parts.actions) none,
  rest_empty (flat_map (type_faults (domain_scope d).types (parents parts.types)) d.types) (action_faults (domain_declared d parts) d.actions parts.actions) none,
)

record ProblemEmpty (d : DomainAst) (parts : DomainParts) (p : ProblemAst) (more : ProblemParts) : Type 0 where
  pub items : flat_map (item_faults (problem_declared d parts p more)) p.init ≡ []
  pub given : given_again [] more.items ≡ []
  pub goal : flat_map (condition_faults (problem_declared d parts p more)) p.goal ≡ []

problem_parts_empty : (d : DomainAst) (parts : DomainParts) (p : ProblemAst) (more : ProblemParts) → problem_types d parts p more ≡ [] → ProblemEmpty d parts p more
unfolding problem_types
problem_parts_empty d parts p more none =
    let later : given_again [] more.items ++ flat_map (condition_faults (problem_declared d parts p more)) p.goal ≡ [] =
    rest_empty (flat_map (item_faults (problem_declared d parts p more)) p.init) (given_again [] more.items ++ flat_map (condition_faults (problem_declared d parts p more)) p.goal) none in
    record {
      items = front_empty (flat_map (item_faults (problem_declared d parts p more)) p.init) (given_again [] more.items ++ flat_map (condition_faults (problem_declared d parts p more)) p.goal) none;
      given = front_empty (given_again [] more.items) (flat_map (condition_faults (problem_declared d parts p more)) p.goal) later;
      goal = rest_empty (given_again [] more.items) (flat_map (condition_faults (problem_declared d parts p more)) p.goal) later;
    }

typed_tree : (d : DomainAst) (parts : DomainParts) → parts.types ≡ types_in d.types → flat_map (type_faults (domain_scope d).types (parents parts.types)) d.types ≡ [] → IsTypeTree parts.types
typed_tree d parts is none =
    subst IsTypeTree (sym is) (type_tree d.types (ap (λ (ts : List TypeName). flat_map (type_faults (type_names d.types) (parents ts)) d.types) (sym is) ∙ none))

pub task_well_formed : (d : DomainAst) (parts : DomainParts) (p : ProblemAst) (more : ProblemParts) → is_problem p ≡ true → domain_names d ≡ good parts → problem_names d p ≡ good more
    → domain_types d parts ≡ [] → problem_types d parts p more ≡ [] → domain_nonlinearities d.actions ≡ [] → goal_nonlinearities d.actions p.goal ≡ [] → IsCountable (task_of parts more) → IsWellFormed (task_of parts more)
task_well_formed d parts p more grammar made also no_misfit no_problem_misfit domain_linear problem_linear few =
    let h : DomainGood d parts = domain_good d parts made in
    let k : ProblemGood d p more = problem_good d p more also in
    let types = domain_parts_empty d parts no_misfit in
    let rest : ProblemEmpty d parts p more = problem_parts_empty d parts p more no_problem_misfit in
    let items : list_all (is_typed_item (task_of parts more)) more.items ≡ true = items_typed d parts p more h k p.init more.items (problem_inits p grammar) k.items rest.items in
    record {
      countable = few;
      numbered = task_numbered d parts p more made also;
      types = typed_tree d parts h.types types.0;
      typed = record {
        actions = actions_typed d parts more h d.actions parts.actions h.actions types.1;
        facts = facts_typed (task_of parts more) more.items items;
        values = values_typed (task_of parts more) more.items items;
        goal = each_faultless (condition_named (problem_scope d p)) (condition_faults (problem_declared d parts p more)) (is_typed_condition (task_of parts more) [])
            (condition_typed (problem_scope d p) (task_of parts more) (parts.objects ++ more.objects) [] (λ o low. refl) (fits d parts p more h k).objects (fits d parts p more h k).params (fits d parts p more h k).preds (fits d parts p more h k).funcs)
            p.goal more.goal k.goal rest.goal;
      };
      values = one_value_each more.items rest.given;
      linear = record {
        actions = actions_linear (domain_scope d) d.actions parts.actions h.actions domain_linear;
        goal = goal_linear (domain_scope d) d.actions parts.actions h.actions (problem_scope d p) refl p.goal more.goal k.goal problem_linear;
      };
    }
