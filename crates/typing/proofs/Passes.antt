-- What the passes answer one by one, and what linking answers by them.
use Rattle.std.proofs.Common.{◌≡◌, List, [], ◌∷◌, Option, Some, None, Result, Ok, Err, refl, sym, ◌∙◌, ap, subst}
use Rattle.std.proofs.lemmas.List.{append-nil, length-map}
use Rattle.std.specs.Prelude.{ℕ, true, ◌++◌, length, IfErr, IfOk, IfSome, OnOk}
use Rattle.std.specs.Option.{option_map}
use Rattle.sexpr.specs.declared.fault.Source.{Source}
use Rattle.sexpr.specs.declared.fault.Source.TheVariants as source
use Rattle.sexpr.specs.declared.fault.TextFault.{TextFault}
use Rattle.sexpr.specs.declared.fault.TextRefusal.{TextRefusal}
use Rattle.sexpr.specs.declared.fault.TextRefusal.TheVariants as refusal
use Rattle.pddl_form.specs.declared.fault.Fault.{Fault}
use Rattle.pddl_form.specs.Faults.{first_with, least}
use Rattle.pddl_form.specs.Judged.{Judged, good, bad, syntax_of, noted}
use Rattle.pddl_form.specs.Reading.{IsRead}
use Rattle.pddl_form.specs.Concluded.{text_fault, Concludes, HasOutcome, Answers, RefusesBy}
use Rattle.pddl_condition.specs.declared.condition.CondAst.{CondAst}
use Rattle.pddl_domain.specs.declared.action.ActionAst.{ActionAst}
use Rattle.pddl_domain.specs.declared.domain.DomainAst.{DomainAst}
use Rattle.pddl_problem.specs.declared.ast.ProblemAst.{ProblemAst}
use Rattle.pddl_task.specs.declared.parts.TaskParts.{TaskParts}
use Rattle.pddl_task.specs.declared.declared.Object.{Object}
use Rattle.pddl_task.specs.Task.{parents, names_of}
use Rattle.pddl_task.specs.Numbers.{IsCountable}
use Rattle.pddl_task.specs.WellFormed.{IsWellFormed}
use Rattle.typing_names.specs.declared.domain.DomainNames.{DomainNames}
use Rattle.typing_names.specs.declared.problem.ProblemNames.{ProblemNames}
use Rattle.typing_uses.specs.Scope.{Scope}
use Rattle.typing_names.specs.Tables.{scope_in, parts_of, problem_parts_of}
use Rattle.typing.specs.Resolved.{IsResolved, AreResolved, AreLinear, LinearityRefuses, AreFaultless, declared_in}
use Rattle.typing_names.specs.Faults.{tested}
use Rattle.pddl_task.specs.declared.action.Action.{Action}
use Rattle.typing_types.specs.Known.{AreTyped, have_types, domain_type_faults}
use Rattle.typing_names.specs.declared.item.Item.{Item as Counted}
use Rattle.typing_names.specs.Items.{items_of, are_counted}
use Rattle.pddl_form.proofs.Concluding.{has_outcome}
use Rattle.typing_types.proofs.TypeLaws.{domain_types-is}
use Rattle.typing_types.proofs.GivenLaws.{problem_types-is}
use Rattle.typing.proofs.Numbered.{domain_numbered, problem_numbered}
use Rattle.typing.proofs.WellFormedLaws.{none_found, task_well_formed}
use Rattle.typing_names.specs.Domain.{DomainParts, domain_names, domain_scope}
use Rattle.typing_names.specs.Problem.{ProblemParts, problem_names, problem_scope}
use Rattle.typing_types.specs.Types.{Declared, domain_types, problem_types, domain_declared, problem_declared, problem_faults}
use Rattle.typing_linear.specs.Linear.{domain_nonlinearities, goal_nonlinearities}
use Rattle.typing.specs.Link.{task_of, first_among, first_fault, passed, link_of, linear_task, problem_link, LinkRefuses, Links}

-- ---- a pass that makes something, seen as what the definition makes

-- what is made is good, where it is answered
good_made : {A B : Type 0} (view : B → A) (j : Judged A) (b : B) → Some (view b) ≡ syntax_of j → j ≡ good (view b)
good_made view (good a) b is = let same : view b ≡ a = cc in ap good (sym same)
good_made view (bad f more) b is = absurd (cc is)

pub names_made : {A B : Type 0} (file : Source) (view : B → A) (j : Judged A) (made : Option B) (old first : Option Fault) (r : Result B TextRefusal)
    → IsRead j old first (option_map view made) → Concludes file made first r → IfOk r (λ b. j ≡ good (view b))
names_made {B = B} file view j made old (Some f) r h is = subst (λ (x : Result B TextRefusal). IfOk x (λ b. j ≡ good (view b))) (sym is) tt
names_made {B = B} file view j (Some b) old None r h is = subst (λ (x : Result B TextRefusal). IfOk x (λ b. j ≡ good (view b))) (sym is) (good_made view j b h.syntax_is)
names_made file view j None old None r h is = absurd is

pub names_refused : {A B : Type 0} (file : Source) (view : B → A) (j : Judged A) (made : Option B) (old first : Option Fault) (r : Result B TextRefusal)
    → old ≡ None → IsRead j old first (option_map view made) → Concludes file made first r → IfErr r (RefusesBy file j)
names_refused {B = B} file view j made old (Some f) r none h is =
    subst (λ (x : Result B TextRefusal). IfErr x (RefusesBy file j)) (sym is) (f, sym (h.first_is ∙ ap (λ (o : Option Fault). noted o j) none), refl)
names_refused {B = B} file view j (Some b) old None r none h is = subst (λ (x : Result B TextRefusal). IfErr x (RefusesBy file j)) (sym is) tt
names_refused file view j None old None r none h is = absurd is

-- what holds of anything made holds of what is answered
pub made_kept : {B : Type 0} (P : B → Type 0) (file : Source) (made : Option B) (first : Option Fault) (r : Result B TextRefusal)
    → IfSome made P → Concludes file made first r → IfOk r P
made_kept {B = B} P file made (Some f) r h is = subst (λ (x : Result B TextRefusal). IfOk x P) (sym is) tt
made_kept {B = B} P file (Some b) None r h is = subst (λ (x : Result B TextRefusal). IfOk x P) (sym is) h
made_kept P file None None r h is = absurd is

-- a syntax or a fault is there
outcome_of : {A B : Type 0} (view : B → A) (made : Option B) (first : Option Fault) → HasOutcome (option_map view made) first → HasOutcome made first
outcome_of view (Some b) first h = tt
outcome_of view None (Some f) h = tt
outcome_of view None None h = h

pub names_outcome : {A B : Type 0} (view : B → A) (j : Judged A) (made : Option B) (old first : Option Fault) → old ≡ None → IsRead j old first (option_map view made) → HasOutcome made first
names_outcome view j made old first none h =
    outcome_of view made first (has_outcome j (option_map view made) first (record { syntax_is = h.syntax_is; first_is = h.first_is ∙ ap (λ (o : Option Fault). noted o j) none }))

pub resolved : (d : DomainAst) (r : Result DomainNames TextRefusal) → IfOk r (λ n. domain_names d ≡ good (parts_of n)) → IfOk r (λ n. scope_in n.tables ≡ domain_scope d) → IfOk r (λ n. n.hierarchy ≡ parents n.types) → IfOk r (λ n. IsResolved d n)
resolved d (Ok n) has tables above = record { parts = has; tables = tables; hierarchy = above }
resolved d (Err e) has tables above = tt

-- what the passes over types know
pub domain_known : (d : DomainAst) (n : DomainNames) → IsResolved d n → declared_in n [] ≡ domain_declared d (parts_of n)
domain_known d n is =
    ap (λ (s : Scope). record { scope = s; above = n.hierarchy; objects = n.objects ++ []; preds = n.preds; funcs = n.funcs; params = [] }) is.tables
    ∙ ap (λ (above : List ℕ). record { scope = domain_scope d; above = above; objects = n.objects ++ []; preds = n.preds; funcs = n.funcs; params = [] }) is.hierarchy
    ∙ ap (λ (objects : List Object). record { scope = domain_scope d; above = parents n.types; objects = objects; preds = n.preds; funcs = n.funcs; params = [] }) (append-nil n.objects)

pub problem_known : (d : DomainAst) (p : ProblemAst) (n : DomainNames) (m : ProblemNames) → AreResolved d p n m → declared_in n m.objects ≡ problem_declared d (parts_of n) p (problem_parts_of m)
problem_known d p n m is =
    ap (λ (s : Scope). record { scope = s; above = n.hierarchy; objects = n.objects ++ m.objects; preds = n.preds; funcs = n.funcs; params = [] }) is.tables
    ∙ ap (λ (above : List ℕ). record { scope = problem_scope d p; above = above; objects = n.objects ++ m.objects; preds = n.preds; funcs = n.funcs; params = [] }) is.hierarchy

pub domain_typed : (d : DomainAst) (n : DomainNames) (known : Declared) → IsResolved d n → known ≡ declared_in n [] → AreTyped known
domain_typed d n known is same = subst AreTyped (sym (same ∙ domain_known d n is)) (domain_numbered d (parts_of n) is.parts).typed

above_count : (d : DomainAst) (n : DomainNames) → IsResolved d n → length n.types ≡ length n.hierarchy
above_count d n is = sym (ap (λ (l : List ℕ). length l) is.hierarchy ∙ length-map n.types (λ t. t.parent))

pub domain_actions_typed : (d : DomainAst) (n : DomainNames) (count : ℕ) (actions : List Action) → IsResolved d n → count ≡ length n.hierarchy → actions ≡ n.actions → have_types count actions ≡ true
domain_actions_typed d n count actions is counted same =
    ap (λ (l : List Action). have_types count l) same ∙ ap (λ (k : ℕ). have_types k n.actions) (counted ∙ sym (above_count d n is)) ∙ (domain_numbered d (parts_of n) is.parts).actions

pub domain_type_faults_are : (d : DomainAst) (n : DomainNames) (known : Declared) (actions : List Action) → IsResolved d n → known ≡ declared_in n [] → actions ≡ n.actions → domain_type_faults known d actions ≡ domain_types d (parts_of n)
domain_type_faults_are d n known actions is same said =
    ap (λ (k : Declared). domain_type_faults k d actions) (same ∙ domain_known d n is) ∙ ap (λ (l : List Action). domain_type_faults (domain_declared d (parts_of n)) d l) said ∙ sym (domain_types-is d (parts_of n))

pub problem_typed : (d : DomainAst) (p : ProblemAst) (n : DomainNames) (m : ProblemNames) (known : Declared) (objects : List Object) → AreResolved d p n m → objects ≡ m.objects → known ≡ declared_in n objects → AreTyped known
problem_typed d p n m known objects is said same =
    subst AreTyped (sym (same ∙ ap (declared_in n) said ∙ problem_known d p n m is)) (problem_numbered d (parts_of n) p (problem_parts_of m) is.domain is.problem).typed

pub problem_counted : (d : DomainAst) (p : ProblemAst) (n : DomainNames) (m : ProblemNames) (preds funcs : ℕ) (items : List Counted) → AreResolved d p n m → preds ≡ length n.preds → funcs ≡ length n.funcs → items ≡ m.items → are_counted preds funcs items ≡ true
problem_counted d p n m preds funcs items is ps fs said =
    ap (λ (k : ℕ). are_counted k funcs items) ps ∙ ap (λ (k : ℕ). are_counted (length n.preds) k items) fs ∙ ap (λ (l : List Counted). are_counted (length n.preds) (length n.funcs) l) said
    ∙ (problem_numbered d (parts_of n) p (problem_parts_of m) is.domain is.problem).counted

pub problem_type_faults_are : (d : DomainAst) (p : ProblemAst) (n : DomainNames) (m : ProblemNames) (known : Declared) (objects : List Object) (items : List Counted) → AreResolved d p n m → objects ≡ m.objects → known ≡ declared_in n objects → items ≡ m.items
    → problem_faults known p (items_of items) ≡ problem_types d (parts_of n) p (problem_parts_of m)
problem_type_faults_are d p n m known objects items is said same counted =
    ap (λ (k : Declared). problem_faults k p (items_of items)) (same ∙ ap (declared_in n) said ∙ problem_known d p n m is)
    ∙ ap (λ (l : List Counted). problem_faults (problem_declared d (parts_of n) p (problem_parts_of m)) p (items_of l)) counted ∙ sym (problem_types-is d (parts_of n) p (problem_parts_of m))

-- ---- the task's parts
pub task_names : (d : DomainAst) (p : ProblemAst) (n : DomainNames) (m : ProblemNames) (parts : TaskParts) (names : List (List ℕ)) → AreResolved d p n m → parts ≡ task_of (parts_of n) (problem_parts_of m) → names ≡ n.tables.types → names ≡ names_of parts.types
task_names d p n m parts names is same said =
    said ∙ ap (λ (s : Scope). s.types) is.tables ∙ (domain_numbered d (parts_of n) is.domain).types_are ∙ ap (λ (t : TaskParts). names_of t.types) (sym same)

pub task_above : (d : DomainAst) (p : ProblemAst) (n : DomainNames) (m : ProblemNames) (parts : TaskParts) (above : List ℕ) → AreResolved d p n m → parts ≡ task_of (parts_of n) (problem_parts_of m) → above ≡ n.hierarchy → above ≡ parents parts.types
task_above d p n m parts above is same said = said ∙ is.hierarchy ∙ ap (λ (t : TaskParts). parents t.types) (sym same)

pub task_is_well_formed : (d : DomainAst) (p : ProblemAst) (n : DomainNames) (m : ProblemNames) (parts : TaskParts) → AreResolved d p n m → AreFaultless d p n m → parts ≡ task_of (parts_of n) (problem_parts_of m) → IsCountable parts → IsWellFormed parts
task_is_well_formed d p n m parts is free same few =
    subst IsWellFormed (sym same)
    (task_well_formed d (parts_of n) p (problem_parts_of m) is.grammar is.domain is.problem (none_found (domain_types d (parts_of n)) free.domain_types)
    (none_found (problem_types d (parts_of n) p (problem_parts_of m)) free.problem_types) (none_found (domain_nonlinearities d.actions) free.domain_linear)
    (none_found (goal_nonlinearities d.actions p.goal) free.goal_linear) (subst IsCountable same few))

-- ---- a pass that tests

some_least : (f : Fault) (fs : List Fault) → (g : Fault) × (least (Some f) fs ≡ Some g)
some_least f [] = (f, refl)
some_least f (h ∷ fs) = some_least (first_with (Some f) h) fs

test_answers : (file : Source) (fs : List Fault) (first : Option Fault) (r : Result (Unit {0}) TextRefusal) → first ≡ least None fs → Concludes file (Some tt) first r → Answers file (tested fs) r
unfolding noted
test_answers file [] None r is same = subst (λ (x : Result (Unit {0}) TextRefusal). Answers file (tested []) x) (sym same) refl
test_answers file [] (Some g) r is same = absurd (cc is)
test_answers file (f ∷ more) None r is same = let some = some_least f more in absurd (cc (is, some.1))
test_answers file (f ∷ more) (Some g) r is same =
    let made : Answers file (tested (f ∷ more)) (Err (refusal.Fault (text_fault file g))) = (g, sym is, refl) in
    subst (λ (x : Result (Unit {0}) TextRefusal). Answers file (tested (f ∷ more)) x) (sym same) made

pub test_passes : (file : Source) (fs : List Fault) (old first : Option Fault) (r : Result (Unit {0}) TextRefusal) → old ≡ None → first ≡ least old fs → Concludes file (Some tt) first r → Answers file (tested fs) r
test_passes file fs old first r none is same = test_answers file fs first r (is ∙ ap (λ (o : Option Fault). least o fs) none) same

-- at faults that are the same
pub answered_at : {fs gs : List Fault} (file : Source) (r : Result (Unit {0}) TextRefusal) → fs ≡ gs → Answers file (tested fs) r → Answers file (tested gs) r
answered_at file r same h = subst (λ (l : List Fault). Answers file (tested l) r) same h

pub least_at : {fs gs : List Fault} (old : Option Fault) → fs ≡ gs → least old fs ≡ least old gs
least_at old same = ap (least old) same

pub goal_faults_are : (actions others : List ActionAst) (goal said : List CondAst) → actions ≡ others → said ≡ goal → goal_nonlinearities actions said ≡ goal_nonlinearities others goal
goal_faults_are actions others goal said same is = ap (λ (a : List ActionAst). goal_nonlinearities a said) same ∙ ap (goal_nonlinearities others) is

-- ---- linking

first_is : (f : Fault) (more : List Fault) (first : Fault) → least None (f ∷ more) ≡ Some first → first_fault f more ≡ first
first_is f more first is = ap (first_among f more) is

refused : {A : Type 0} (file : Source) (j : Judged A) (next : A → Result TaskParts TextFault) (e : TextRefusal) → RefusesBy file j e → LinkRefuses (passed file j next) e
unfolding noted
refused file (good a) next (refusal.Fault f) h = absurd (cc (h.1))
refused file (bad g more) next (refusal.Fault f) h = ap (λ (x : Fault). Err (text_fault file x)) (first_is g more h.0 h.1) ∙ ap Err (sym h.2)
refused file j next refusal.Memory h = tt

pub domain_names_refused : (d : DomainAst) (p : ProblemAst) (e : TextRefusal) → RefusesBy source.Domain (domain_names d) e → Links d p (Err e)
unfolding link_of
domain_names_refused d p e h = refused source.Domain (domain_names d) (λ parts. passed source.Domain (tested (domain_types d parts)) (λ _. problem_link d parts p)) e h

-- linearity, whatever the names came to
linear_first : (d : DomainAst) (p : ProblemAst) (parts : DomainParts) (more : ProblemParts) → tested (domain_nonlinearities d.actions) ≡ good tt
    → linear_task d parts p more ≡ passed source.Problem (tested (goal_nonlinearities d.actions p.goal)) (λ _. Ok (task_of parts more))
linear_first d p parts more linear = ap (λ (j : Judged (Unit {0})). passed source.Domain j (λ _. passed source.Problem (tested (goal_nonlinearities d.actions p.goal)) (λ _. Ok (task_of parts more)))) linear

pub domain_linearity_refused : (d : DomainAst) (p : ProblemAst) (e : TextRefusal) → RefusesBy source.Domain (tested (domain_nonlinearities d.actions)) e → LinearityRefuses d p e
domain_linearity_refused d p e h parts more =
    refused source.Domain (tested (domain_nonlinearities d.actions)) (λ _. passed source.Problem (tested (goal_nonlinearities d.actions p.goal)) (λ _. Ok (task_of parts more))) e h

pub goal_linearity_refused : (d : DomainAst) (p : ProblemAst) → tested (domain_nonlinearities d.actions) ≡ good tt → (r : Result (Unit {0}) TextRefusal) → Answers source.Problem (tested (goal_nonlinearities d.actions p.goal)) r → IfErr r (LinearityRefuses d p)
goal_linearity_refused d p linear (Ok u) h = tt
goal_linearity_refused d p linear (Err e) h = λ parts more.
    subst (λ (r : Result TaskParts TextFault). LinkRefuses r e) (sym (linear_first d p parts more linear))
    (refused source.Problem (tested (goal_nonlinearities d.actions p.goal)) (λ _. Ok (task_of parts more)) e h)

pub linear_found : (d : DomainAst) (p : ProblemAst) → tested (domain_nonlinearities d.actions) ≡ good tt → (r : Result (Unit {0}) TextRefusal) → Answers source.Problem (tested (goal_nonlinearities d.actions p.goal)) r → OnOk r (AreLinear d p)
linear_found d p linear (Ok u) h = record { domain = linear; goal = h }
linear_found d p linear (Err e) h = tt

module _ (d : DomainAst) (p : ProblemAst) (parts : DomainParts) (has : domain_names d ≡ good parts) where
  linked_names : link_of d p ≡ passed source.Domain (tested (domain_types d parts)) (λ _. problem_link d parts p)
  unfolding link_of
  linked_names = ap (λ (j : Judged DomainParts). passed source.Domain j (λ x. passed source.Domain (tested (domain_types d x)) (λ _. problem_link d x p))) has

  pub domain_types_refused : (e : TextRefusal) → RefusesBy source.Domain (tested (domain_types d parts)) e → Links d p (Err e)
  domain_types_refused e h = subst (λ (r : Result TaskParts TextFault). LinkRefuses r e) (sym linked_names) (refused source.Domain (tested (domain_types d parts)) (λ _. problem_link d parts p) e h)

  module _ (typed : tested (domain_types d parts) ≡ good tt) where
    linked_types : link_of d p ≡ problem_link d parts p
    linked_types = linked_names ∙ ap (λ (j : Judged (Unit {0})). passed source.Domain j (λ _. problem_link d parts p)) typed

    pub problem_names_refused : (e : TextRefusal) → RefusesBy source.Problem (problem_names d p) e → Links d p (Err e)
    problem_names_refused e h =
        subst (λ (r : Result TaskParts TextFault). LinkRefuses r e) (sym linked_types)
        (refused source.Problem (problem_names d p) (λ more. passed source.Problem (tested (problem_types d parts p more)) (λ _. linear_task d parts p more)) e h)

    module _ (more : ProblemParts) (also : problem_names d p ≡ good more) where
      linked_problem : link_of d p ≡ passed source.Problem (tested (problem_types d parts p more)) (λ _. linear_task d parts p more)
      linked_problem = linked_types ∙ ap (λ (j : Judged ProblemParts). passed source.Problem j (λ x. passed source.Problem (tested (problem_types d parts p x)) (λ _. linear_task d parts p x))) also

      pub problem_types_refused : (e : TextRefusal) → RefusesBy source.Problem (tested (problem_types d parts p more)) e → Links d p (Err e)
      problem_types_refused e h =
          subst (λ (r : Result TaskParts TextFault). LinkRefuses r e) (sym linked_problem)
          (refused source.Problem (tested (problem_types d parts p more)) (λ _. linear_task d parts p more) e h)

      module _ (fits : tested (problem_types d parts p more) ≡ good tt) where
        linked_linear : link_of d p ≡ linear_task d parts p more
        linked_linear = linked_problem ∙ ap (λ (j : Judged (Unit {0})). passed source.Problem j (λ _. linear_task d parts p more)) fits

        pub linearity_refused : (r : Result (Unit {0}) TextRefusal) → IfErr r (LinearityRefuses d p) → IfErr r (λ e. Links d p (Err e))
        linearity_refused (Ok u) h = tt
        linearity_refused (Err e) h = subst (λ (r : Result TaskParts TextFault). LinkRefuses r e) (sym linked_linear) (h parts more)

        linked : tested (domain_nonlinearities d.actions) ≡ good tt → tested (goal_nonlinearities d.actions p.goal) ≡ good tt → link_of d p ≡ Ok (task_of parts more)
        linked linear last = linked_linear ∙ linear_first d p parts more linear ∙ ap (λ (j : Judged (Unit {0})). passed source.Problem j (λ _. Ok (task_of parts more))) last

pub faultless_found : (d : DomainAst) (p : ProblemAst) (n : DomainNames) (m : ProblemNames) → tested (domain_types d (parts_of n)) ≡ good tt → tested (problem_types d (parts_of n) p (problem_parts_of m)) ≡ good tt
    → (r : Result (Unit {0}) TextRefusal) → OnOk r (AreLinear d p) → OnOk r (AreFaultless d p n m)
faultless_found d p n m typed fits (Ok u) linear = record { domain_types = typed; problem_types = fits; domain_linear = linear.domain; goal_linear = linear.goal }
faultless_found d p n m typed fits (Err e) linear = tt

pub task_linked : (d : DomainAst) (p : ProblemAst) (n : DomainNames) (m : ProblemNames) → AreResolved d p n m → AreFaultless d p n m → (r : Result TaskParts TextRefusal)
    → IfOk r (λ t. t ≡ task_of (parts_of n) (problem_parts_of m)) → IfErr r (λ e. e ≡ refusal.Memory) → Links d p r
task_linked d p n m is free (Ok t) made refused = linked d p (parts_of n) is.domain free.domain_types (problem_parts_of m) is.problem free.problem_types free.domain_linear free.goal_linear ∙ ap Ok (sym made)
task_linked d p n m is free (Err e) made refused = subst (λ (x : TextRefusal). LinkRefuses (link_of d p) x) (sym refused) tt

-- what is so, whatever is answered
pub whatever : {A E : Type 0} {P : Type 0} (r : Result A E) → P → OnOk r P
whatever (Ok a) h = h
whatever (Err e) h = tt
