-- A whole problem from its parts.
use Rattle.std.proofs.Common.{◌≡◌, ℕ, ◌+◌, ◌<◌, List, [], ◌∷◌, ◌++◌, length, get_or, map, Option, Some, None, refl, sym, ◌∙◌, ap, subst}
use Rattle.std.proofs.lemmas.List.{map-append}
use Rattle.std.specs.Option.{option_map}
use Rattle.pddl_form.specs.declared.fault.Fault.{Fault}
use Rattle.pddl_form.specs.declared.typed.Typed.{Typed}
use Rattle.pddl_condition.specs.declared.condition.CondAst.{CondAst}
use Rattle.pddl_form.specs.Judged.{Judged, mapped, both, each}
use Rattle.pddl_form.specs.Gather.{option_both, push, apply}
use Rattle.pddl_form.specs.Parts.{pair}
use Rattle.pddl_form.specs.Reading.{IsRead}
use Rattle.pddl_form.proofs.Loops.{AreRead, none_read, one_more_read, mapped_none, mapped_some, read_both, read_as}
use Rattle.pddl_domain.specs.declared.domain.DomainAst.{DomainAst}
use Rattle.pddl_problem.specs.declared.ast.InitAst.{InitAst}
use Rattle.pddl_problem.specs.declared.ast.ProblemAst.{ProblemAst}
use Rattle.pddl_task.specs.declared.declared.Object.{Object}
use Rattle.pddl_task.specs.declared.condition.Cond.{Cond}
use Rattle.typing_names.specs.declared.item.Item.{Item as Counted}
use Rattle.typing_names.specs.declared.domain.Tables.{Tables}
use Rattle.typing_uses.specs.Scope.{Scope, texts, sighted, declared_again}
use Rattle.typing_names.specs.Faults.{beside, tested}
use Rattle.pddl_form.specs.Sections.{second}
use Rattle.typing_uses.specs.Expressions.{conditions_named}
use Rattle.typing_names.specs.Tables.{scope_in, with_items}
use Rattle.typing_names.specs.Domain.{names_of, objects_named, domain_scope}
use Rattle.typing_names.specs.Problem.{Item, item_named, ProblemParts, parts_with, problem_scope, domain_faults, parts_named, problem_names}
use Rattle.typing_names.specs.Items.{item_of}
use Rattle.typing_names.proofs.Declaring.{read_tests, read_beside}
use Rattle.typing_uses.proofs.ExpressionLaws.{of_pairs, both_pairs}
use Rattle.typing_names.proofs.DomainLaws.{apply-mapped}
use Rattle.typing_names.proofs.DomainParts.{beside-mapped}

-- ---- items one after another

pushed : {A B : Type 0} (f : A → B) (found : Option (List A)) (one : Option A) → option_map (map f) (option_both push found one) ≡ option_both push (option_map (map f) found) (option_map f one)
pushed f None one = refl
pushed f (Some xs) None = refl
pushed f (Some xs) (Some x) = ap Some (map-append f xs (x ∷ []))

pub one_more_item : (scope : Scope) (items : List InitAst) (i : ℕ) (item : InitAst) (old mid new : Option Fault) (found more : Option (List Counted)) (one : Option Counted)
    → AreRead (item_named scope) items i old mid (option_map (map item_of) found) → i < length items → item ≡ get_or items i item → IsRead (item_named scope item) mid new (option_map item_of one)
    → more ≡ option_both push found one → AreRead (item_named scope) items (i + 1) old new (option_map (map item_of) more)
one_more_item scope items i item old mid new found more one h within at k is =
    one_more_read (item_named scope) items i item old mid new (option_map (map item_of) found) (option_map (map item_of) more) (option_map item_of one) h within at k
    (ap (option_map (map item_of)) is ∙ pushed item_of found one)

pub no_item : (scope : Scope) (items : List InitAst) (first : Option Fault) (found : List Counted) → found ≡ [] → AreRead (item_named scope) items 0 first first (option_map (map item_of) (Some found))
no_item scope items first found none = none_read (item_named scope) items first (map item_of found) (ap (map item_of) none)

-- ---- the parts

-- what a problem declares, one beside another
abbrev pub parts_beside : Scope → ProblemAst → Judged ((List Object × List Item) × List Cond)
parts_beside scope p = both pair (both pair (objects_named scope.types p.objects) (each (map (item_named scope) p.init))) (conditions_named scope p.goal)

paired : (x : Option (List Object)) (y : Option (List Counted)) (z : Option (List Cond))
    → option_map with_items (option_both pair (option_both pair x y) z) ≡ option_both pair (option_both pair x (option_map (map item_of) y)) z
paired None y z = refl
paired (Some a) None z = refl
paired (Some a) (Some b) None = refl
paired (Some a) (Some b) (Some c) = refl

pub parts_read : (scope inside : Scope) (p : ProblemAst) (objects : List Typed) (init : List InitAst) (goal : List CondAst) (params : List (List ℕ)) (old m n new : Option Fault)
    (x : Option (List Object)) (y : Option (List Counted)) (z : Option (List Cond)) (u : Option (List Object × List Counted)) (v : Option ((List Object × List Counted) × List Cond))
    → scope.params ≡ [] → params ≡ [] → inside ≡ record scope { params = params } → objects ≡ p.objects → init ≡ p.init → goal ≡ p.goal
    → IsRead (objects_named scope.types objects) old m x → IsRead (each (map (item_named inside) init)) m n (option_map (map item_of) y) → IsRead (conditions_named inside goal) n new z
    → u ≡ option_both pair x y → v ≡ option_both pair u z → IsRead (parts_beside scope p) old new (option_map with_items v)
parts_read scope inside p objects init goal params old m n new x y z u v bare none is_inside same_objects same_init same_goal h i j is_u is_v =
    let scoped : inside ≡ scope = is_inside ∙ ap (λ (names : List (List ℕ)). let s : Scope = record scope { params = names } in s) (none ∙ sym bare) in
    let first : IsRead (objects_named scope.types p.objects) old m x = subst (λ (ts : List Typed). IsRead (objects_named scope.types ts) old m x) same_objects h in
    let then : IsRead (each (map (item_named scope) p.init)) m n (option_map (map item_of) y) =
    subst (λ (s : Scope). IsRead (each (map (item_named s) p.init)) m n (option_map (map item_of) y)) scoped
    (subst (λ (ts : List InitAst). IsRead (each (map (item_named inside) ts)) m n (option_map (map item_of) y)) same_init i) in
    let last : IsRead (conditions_named scope p.goal) n new z =
    subst (λ (s : Scope). IsRead (conditions_named s p.goal) n new z) scoped (subst (λ (cs : List CondAst). IsRead (conditions_named inside cs) n new z) same_goal j) in
    read_as _ old new (option_both pair (option_both pair x (option_map (map item_of) y)) z) (option_map with_items v)
    (read_both pair _ _ old n new (option_both pair x (option_map (map item_of) y)) z (read_both pair _ _ old m n x (option_map (map item_of) y) first then) last)
    (ap (option_map with_items) (is_v ∙ ap (λ (o : Option (List Object × List Counted)). option_both pair o z) is_u) ∙ paired x y z)

abbrev pub assembled : (List Object × List Item) × List Cond → ProblemParts
assembled q = of_pairs parts_with q

parts-assembled : (scope : Scope) (p : ProblemAst) → parts_named scope p ≡ mapped assembled (parts_beside scope p)
parts-assembled scope p =
    ap (λ (j : Judged (List Cond → ProblemParts)). both apply j (conditions_named scope p.goal)) (apply-mapped parts_with (objects_named scope.types p.objects) (each (map (item_named scope) p.init)))
    ∙ both_pairs parts_with (objects_named scope.types p.objects) (each (map (item_named scope) p.init)) (conditions_named scope p.goal)

-- the tests of a problem's names
abbrev pub problem_again : DomainAst → ProblemAst → List Fault
problem_again d p = domain_faults d p ++ declared_again (domain_scope d).objects (names_of p.objects)

pub names-assembled : (d : DomainAst) (p : ProblemAst) → problem_names d p ≡ mapped assembled (beside (problem_again d p) (parts_beside (problem_scope d p) p))
unfolding problem_names
names-assembled d p = ap (beside (problem_again d p)) (parts-assembled (problem_scope d p) p) ∙ beside-mapped (problem_again d p) assembled (parts_beside (problem_scope d p) p)

-- ---- the whole

pub problem_tables : (t : Tables) (d : DomainAst) (p : ProblemAst) (objects : List Typed) (table : List (List ℕ))
    → scope_in t ≡ domain_scope d → objects ≡ p.objects → table ≡ sighted t.objects (texts (names_of objects)) → scope_in (record t { objects = table }) ≡ problem_scope d p
problem_tables t d p objects table is same more =
    ap (λ (names : List (List ℕ)). let s : Scope = record (scope_in t) { objects = names } in s)
    (more ∙ ap (λ (s : Scope). sighted s.objects (texts (names_of objects))) is ∙ ap (λ (ts : List Typed). sighted (domain_scope d).objects (texts (names_of ts))) same)
    ∙ ap (λ (s : Scope). let r : Scope = record s { objects = sighted (domain_scope d).objects (texts (names_of p.objects)) } in r) is

pub problem_tested : (t : Tables) (d : DomainAst) (p : ProblemAst) (objects : List Typed) (old mid new : Option Fault) (x y z : Option (Unit {0}))
    → scope_in t ≡ domain_scope d → objects ≡ p.objects → IsRead (tested (domain_faults d p)) old mid x → IsRead (tested (declared_again t.objects (names_of objects))) mid new y → z ≡ option_both second x y
    → IsRead (tested (problem_again d p)) old new z
problem_tested t d p objects old mid new x y z is same h k is_z =
    read_tests (domain_faults d p) (declared_again (domain_scope d).objects (names_of p.objects)) old mid new x y z h
    (subst (λ (s : Scope). IsRead (tested (declared_again s.objects (names_of p.objects))) mid new y) is
    (subst (λ (ts : List Typed). IsRead (tested (declared_again t.objects (names_of ts))) mid new y) same k)) is_z

seconded : (t : Option (Unit {0})) (x : Option ((List Object × List Counted) × List Cond)) → option_map with_items (option_both second t x) ≡ option_both second t (option_map with_items x)
seconded None x = refl
seconded (Some a) None = refl
seconded (Some a) (Some b) = refl

beside_read : (d : DomainAst) (p : ProblemAst) (scope : Scope) (old mid new : Option Fault) (t : Option (Unit {0})) (x y : Option ((List Object × List Counted) × List Cond))
    → IsRead (tested (problem_again d p)) old mid t → scope ≡ problem_scope d p → IsRead (parts_beside scope p) mid new (option_map with_items x) → y ≡ option_both second t x
    → IsRead (beside (problem_again d p) (parts_beside (problem_scope d p) p)) old new (option_map with_items y)
beside_read d p scope old mid new t x y h same k is =
    read_beside (problem_again d p) (parts_beside (problem_scope d p) p) old mid new t (option_map with_items x) (option_map with_items y) h
    (subst (λ (s : Scope). IsRead (parts_beside s p) mid new (option_map with_items x)) same k) (ap (option_map with_items) is ∙ seconded t x)

pub problem_none : (d : DomainAst) (p : ProblemAst) (scope : Scope) (old mid new : Option Fault) (t : Option (Unit {0})) (x y : Option ((List Object × List Counted) × List Cond))
    → IsRead (tested (problem_again d p)) old mid t → scope ≡ problem_scope d p → IsRead (parts_beside scope p) mid new (option_map with_items x) → y ≡ option_both second t x → y ≡ None
    → IsRead (problem_names d p) old new None
problem_none d p scope old mid new t x y h same k is none =
    subst (λ (j : Judged ProblemParts). IsRead j old new None) (sym (names-assembled d p))
    (mapped_none assembled (beside (problem_again d p) (parts_beside (problem_scope d p) p)) old new (option_map with_items y) (beside_read d p scope old mid new t x y h same k is) (ap (option_map with_items) none))

pub problem_some : (d : DomainAst) (p : ProblemAst) (scope : Scope) (old mid new : Option Fault) (t : Option (Unit {0})) (x y : Option ((List Object × List Counted) × List Cond))
    (start : List Object × List Counted) (goal : List Cond)
    → IsRead (tested (problem_again d p)) old mid t → scope ≡ problem_scope d p → IsRead (parts_beside scope p) mid new (option_map with_items x) → y ≡ option_both second t x → y ≡ Some (start, goal)
    → IsRead (problem_names d p) old new (Some (parts_with start.0 (map item_of start.1) goal))
problem_some d p scope old mid new t x y start goal h same k is some =
    subst (λ (j : Judged ProblemParts). IsRead j old new (Some (parts_with start.0 (map item_of start.1) goal))) (sym (names-assembled d p))
    (mapped_some assembled (beside (problem_again d p) (parts_beside (problem_scope d p) p)) old new (option_map with_items y) ((start.0, map item_of start.1), goal)
    (parts_with start.0 (map item_of start.1) goal) (beside_read d p scope old mid new t x y h same k is) (ap (option_map with_items) some) refl)
