-- A whole domain from its parts.
use Rattle.std.proofs.Common.{◌≡◌, ℕ, List, [], ◌∷◌, ◌++◌, map, Option, Some, None, refl, sym, ◌∙◌, ap, subst}
use Rattle.std.specs.Prelude.{IfSome}
use Rattle.std.specs.Option.{option_map}
use Rattle.pddl_form.specs.declared.fault.Fault.{Fault}
use Rattle.pddl_form.specs.declared.spot.Spot.{Spot}
use Rattle.pddl_form.specs.declared.typed.Typed.{Typed}
use Rattle.pddl_form.specs.Judged.{Judged, bad, mapped, both}
use Rattle.pddl_form.specs.Gather.{option_both, apply}
use Rattle.pddl_form.specs.Parts.{pair}
use Rattle.pddl_form.specs.Reading.{IsRead}
use Rattle.pddl_form.proofs.Judging.{faults_of-mapped}
use Rattle.pddl_form.proofs.Loops.{mapped_none, mapped_some, read_both, read_as}
use Rattle.pddl_domain.specs.declared.head.Head.{Head}
use Rattle.pddl_domain.specs.declared.action.ActionAst.{ActionAst}
use Rattle.pddl_domain.specs.declared.domain.DomainAst.{DomainAst}
use Rattle.pddl_task.specs.declared.declared.TypeName.{TypeName}
use Rattle.pddl_task.specs.declared.declared.Object.{Object}
use Rattle.pddl_task.specs.declared.declared.Signature.{Signature}
use Rattle.pddl_task.specs.declared.action.Action.{Action}
use Rattle.typing_uses.specs.Scope.{Scope, texts, sighted, distinct, declared_again}
use Rattle.typing_names.specs.Faults.{beside, tested}
use Rattle.pddl_form.specs.Sections.{second}
use Rattle.typing_names.specs.Domain.{names_of, heads_of, type_names, types_in, objects_named, signatures_named, actions_named, DomainParts, parts_with, domain_scope, domain_again, parts_named, domain_names}
use Rattle.typing_names.specs.declared.domain.Tables.{Tables}
use Rattle.typing_names.specs.declared.domain.DomainNames.{DomainNames}
use Rattle.typing_names.specs.Tables.{scope_in}
use Rattle.typing_names.proofs.Declaring.{read_tests, read_beside}
use Rattle.typing_uses.proofs.ExpressionLaws.{of_pair, of_pairs, both_pair, both_pairs}
use Rattle.typing_names.proofs.DomainLaws.{apply-mapped}

-- ---- declarations

-- names behind none
pub again_read : (seen : List (List ℕ)) (spots : List Spot) (old new : Option Fault) (x : Option (Unit {0})) → seen ≡ [] → IsRead (tested (declared_again seen spots)) old new x
    → IsRead (tested (declared_again [] spots)) old new x
again_read seen spots old new x none h = subst (λ (names : List (List ℕ)). IsRead (tested (declared_again names spots)) old new x) none h

pub distinct_names : (seen table : List (List ℕ)) (spots : List Spot) → seen ≡ [] → table ≡ sighted seen (texts spots) → table ≡ distinct (texts spots)
distinct_names seen table spots none is = is ∙ ap (λ (names : List (List ℕ)). sighted names (texts spots)) none

pub functions_tested : (d : DomainAst) (funcs : List Head) (actions : List ActionAst) (old mid new : Option Fault) (x y z : Option (Unit {0}))
    → funcs ≡ d.funcs → actions ≡ d.actions → IsRead (tested (declared_again [] (heads_of funcs))) old mid x → IsRead (tested (declared_again [] (map (λ a. a.name) actions))) mid new y
    → z ≡ option_both second x y → IsRead (tested (declared_again [] (heads_of d.funcs) ++ declared_again [] (map (λ a. a.name) d.actions))) old new z
functions_tested d funcs actions old mid new x y z same_funcs same_actions h k is =
    read_tests (declared_again [] (heads_of d.funcs)) (declared_again [] (map (λ a. a.name) d.actions)) old mid new x y z
    (subst (λ (hs : List Head). IsRead (tested (declared_again [] (heads_of hs))) old mid x) same_funcs h)
    (subst (λ (gs : List ActionAst). IsRead (tested (declared_again [] (map (λ a. a.name) gs))) mid new y) same_actions k) is

pub signatures_tested : (d : DomainAst) (preds : List Head) (old mid new : Option Fault) (x y z : Option (Unit {0}))
    → preds ≡ d.preds → IsRead (tested (declared_again [] (heads_of preds))) old mid x → IsRead (tested (declared_again [] (heads_of d.funcs) ++ declared_again [] (map (λ a. a.name) d.actions))) mid new y
    → z ≡ option_both second x y → IsRead (tested (declared_again [] (heads_of d.preds) ++ (declared_again [] (heads_of d.funcs) ++ declared_again [] (map (λ a. a.name) d.actions)))) old new z
signatures_tested d preds old mid new x y z same h k is =
    read_tests (declared_again [] (heads_of d.preds)) (declared_again [] (heads_of d.funcs) ++ declared_again [] (map (λ a. a.name) d.actions)) old mid new x y z
    (subst (λ (hs : List Head). IsRead (tested (declared_again [] (heads_of hs))) old mid x) same h) k is

pub others_tested : (d : DomainAst) (consts : List Typed) (old mid new : Option Fault) (x y z : Option (Unit {0}))
    → consts ≡ d.constants → IsRead (tested (declared_again [] (names_of consts))) old mid x
    → IsRead (tested (declared_again [] (heads_of d.preds) ++ (declared_again [] (heads_of d.funcs) ++ declared_again [] (map (λ a. a.name) d.actions)))) mid new y
    → z ≡ option_both second x y
    → IsRead (tested (declared_again [] (names_of d.constants) ++ (declared_again [] (heads_of d.preds) ++ (declared_again [] (heads_of d.funcs) ++ declared_again [] (map (λ a. a.name) d.actions))))) old new z
others_tested d consts old mid new x y z same h k is =
    read_tests (declared_again [] (names_of d.constants)) (declared_again [] (heads_of d.preds) ++ (declared_again [] (heads_of d.funcs) ++ declared_again [] (map (λ a. a.name) d.actions))) old mid new x y z
    (subst (λ (ts : List Typed). IsRead (tested (declared_again [] (names_of ts))) old mid x) same h) k is

pub domain_tested : (d : DomainAst) (types : List Typed) (old mid new : Option Fault) (x y z : Option (Unit {0}))
    → types ≡ d.types → IsRead (tested (declared_again [] (names_of types))) old mid x
    → IsRead (tested (declared_again [] (names_of d.constants) ++ (declared_again [] (heads_of d.preds) ++ (declared_again [] (heads_of d.funcs) ++ declared_again [] (map (λ a. a.name) d.actions))))) mid new y
    → z ≡ option_both second x y → IsRead (tested (domain_again d)) old new z
domain_tested d types old mid new x y z same h k is =
    read_tests (declared_again [] (names_of d.types))
    (declared_again [] (names_of d.constants) ++ (declared_again [] (heads_of d.preds) ++ (declared_again [] (heads_of d.funcs) ++ declared_again [] (map (λ a. a.name) d.actions)))) old mid new x y z
    (subst (λ (ts : List Typed). IsRead (tested (declared_again [] (names_of ts))) old mid x) same h) k is

pub names_kept : (items same : List Typed) (table : List (List ℕ)) → items ≡ same → table ≡ distinct (texts (names_of items)) → table ≡ distinct (texts (names_of same))
names_kept items same table are is = is ∙ ap (λ (ts : List Typed). distinct (texts (names_of ts))) are

pub heads_kept : (heads same : List Head) (table : List (List ℕ)) → heads ≡ same → table ≡ distinct (texts (heads_of heads)) → table ≡ distinct (texts (heads_of same))
heads_kept heads same table are is = is ∙ ap (λ (hs : List Head). distinct (texts (heads_of hs))) are

pub domain_tables : (d : DomainAst) (types : List Typed) (t o p f : List (List ℕ)) → types ≡ d.types
    → t ≡ type_names types → o ≡ distinct (texts (names_of d.constants)) → p ≡ distinct (texts (heads_of d.preds)) → f ≡ distinct (texts (heads_of d.funcs))
    → (record { types = t; objects = o; preds = p; funcs = f; params = [] }) ≡ domain_scope d
domain_tables d types t o p f same_types is_t at_o at_p at_f =
    let at_t : t ≡ type_names d.types = is_t ∙ ap type_names same_types in
    ap (λ (l : List (List ℕ)). let s : Scope = record { types = l; objects = o; preds = p; funcs = f; params = [] } in s) at_t
    ∙ ap (λ (l : List (List ℕ)). let s : Scope = record { types = type_names d.types; objects = l; preds = p; funcs = f; params = [] } in s) at_o
    ∙ ap (λ (l : List (List ℕ)). let s : Scope = record { types = type_names d.types; objects = distinct (texts (names_of d.constants)); preds = l; funcs = f; params = [] } in s) at_p
    ∙ ap (λ (l : List (List ℕ)). let s : Scope = record { types = type_names d.types; objects = distinct (texts (names_of d.constants)); preds = distinct (texts (heads_of d.preds)); funcs = l; params = [] } in s) at_f

-- ---- the parts

-- what a domain declares besides its types, one beside another
abbrev pub parts_beside : Scope → DomainAst → Judged (((List Object × List Signature) × List Signature) × List Action)
parts_beside scope d = both pair (both pair (both pair (objects_named scope.types d.constants) (signatures_named scope.types d.preds)) (signatures_named scope.types d.funcs)) (actions_named scope d.actions)

pub parts_read : (scope inside : Scope) (d : DomainAst) (consts : List Typed) (preds funcs : List Head) (actions : List ActionAst) (params : List (List ℕ)) (old m n p new : Option Fault)
    (x : Option (List Object)) (y z : Option (List Signature)) (w : Option (List Action)) (u : Option (List Object × List Signature)) (v : Option ((List Object × List Signature) × List Signature))
    (r : Option (((List Object × List Signature) × List Signature) × List Action))
    → scope.params ≡ [] → params ≡ [] → inside ≡ record scope { params = params } → consts ≡ d.constants → preds ≡ d.preds → funcs ≡ d.funcs → actions ≡ d.actions
    → IsRead (objects_named scope.types consts) old m x → IsRead (signatures_named scope.types preds) m n y → IsRead (signatures_named scope.types funcs) n p z → IsRead (actions_named inside actions) p new w
    → u ≡ option_both pair x y → v ≡ option_both pair u z → r ≡ option_both pair v w → IsRead (parts_beside scope d) old new r
parts_read scope inside d consts preds funcs actions params old m n p new x y z w u v r bare none is_inside same_consts same_preds same_funcs same_actions h i j k is_u is_v is_r =
    let scoped : inside ≡ scope = is_inside ∙ ap (λ (names : List (List ℕ)). let s : Scope = record scope { params = names } in s) (none ∙ sym bare) in
    let objects : IsRead (objects_named scope.types d.constants) old m x = subst (λ (ts : List Typed). IsRead (objects_named scope.types ts) old m x) same_consts h in
    let first : IsRead (signatures_named scope.types d.preds) m n y = subst (λ (hs : List Head). IsRead (signatures_named scope.types hs) m n y) same_preds i in
    let then : IsRead (signatures_named scope.types d.funcs) n p z = subst (λ (hs : List Head). IsRead (signatures_named scope.types hs) n p z) same_funcs j in
    let last : IsRead (actions_named scope d.actions) p new w =
    subst (λ (s : Scope). IsRead (actions_named s d.actions) p new w) scoped (subst (λ (gs : List ActionAst). IsRead (actions_named inside gs) p new w) same_actions k) in
    let declared : IsRead (both pair (objects_named scope.types d.constants) (signatures_named scope.types d.preds)) old n u = read_as _ old n (option_both pair x y) u (read_both pair _ _ old m n x y objects first) is_u in
    let front : IsRead (both pair (both pair (objects_named scope.types d.constants) (signatures_named scope.types d.preds)) (signatures_named scope.types d.funcs)) old p v =
    read_as _ old p (option_both pair u z) v (read_both pair _ _ old n p u z declared then) is_v in
    read_as _ old new (option_both pair v w) r (read_both pair _ _ old p new v w front last) is_r

abbrev pub assembled : List TypeName → ((List Object × List Signature) × List Signature) × List Action → DomainParts
assembled types p = of_pairs (of_pair (parts_with types)) p

parts-assembled : (scope : Scope) (d : DomainAst) → parts_named scope d ≡ mapped (assembled (types_in d.types)) (parts_beside scope d)
parts-assembled scope d =
    ap (λ (j : Judged (List Signature → List Action → DomainParts)). both apply (both apply j (signatures_named scope.types d.funcs)) (actions_named scope d.actions))
    (apply-mapped (parts_with (types_in d.types)) (objects_named scope.types d.constants) (signatures_named scope.types d.preds)
    ∙ both_pair (parts_with (types_in d.types)) (objects_named scope.types d.constants) (signatures_named scope.types d.preds))
    ∙ ap (λ (j : Judged (List Action → DomainParts)). both apply j (actions_named scope d.actions))
    (apply-mapped (of_pair (parts_with (types_in d.types))) (both pair (objects_named scope.types d.constants) (signatures_named scope.types d.preds)) (signatures_named scope.types d.funcs))
    ∙ both_pairs (of_pair (parts_with (types_in d.types))) (both pair (objects_named scope.types d.constants) (signatures_named scope.types d.preds)) (signatures_named scope.types d.funcs) (actions_named scope d.actions)

pub beside-mapped : {A B : Type 0} (fs : List Fault) (g : A → B) (j : Judged A) → beside fs (mapped g j) ≡ mapped g (beside fs j)
beside-mapped [] g j = refl
beside-mapped (f ∷ more) g j = ap (λ (gs : List Fault). bad f (more ++ gs)) (faults_of-mapped g j)

pub names-assembled : (d : DomainAst) → domain_names d ≡ mapped (assembled (types_in d.types)) (beside (domain_again d) (parts_beside (domain_scope d) d))
unfolding domain_names
names-assembled d = ap (beside (domain_again d)) (parts-assembled (domain_scope d) d) ∙ beside-mapped (domain_again d) (assembled (types_in d.types)) (parts_beside (domain_scope d) d)

pub domain_none : (d : DomainAst) (scope : Scope) (old mid new : Option Fault) (t : Option (Unit {0})) (x y : Option (((List Object × List Signature) × List Signature) × List Action))
    → IsRead (tested (domain_again d)) old mid t → scope ≡ domain_scope d → IsRead (parts_beside scope d) mid new x → y ≡ option_both second t x → y ≡ None
    → IsRead (domain_names d) old new None
domain_none d scope old mid new t x y h same k is none =
    subst (λ (j : Judged DomainParts). IsRead j old new None) (sym (names-assembled d))
    (mapped_none (assembled (types_in d.types)) (beside (domain_again d) (parts_beside (domain_scope d) d)) old new y
    (read_beside (domain_again d) (parts_beside (domain_scope d) d) old mid new t x y h (subst (λ (s : Scope). IsRead (parts_beside s d) mid new x) same k) is) none)

pub domain_some : (d : DomainAst) (scope : Scope) (old mid new : Option Fault) (t : Option (Unit {0})) (x y : Option (((List Object × List Signature) × List Signature) × List Action))
    (front : (List Object × List Signature) × List Signature) (actions : List Action) (types : List TypeName)
    → IsRead (tested (domain_again d)) old mid t → scope ≡ domain_scope d → IsRead (parts_beside scope d) mid new x → y ≡ option_both second t x → y ≡ Some (front, actions) → types ≡ types_in d.types
    → IsRead (domain_names d) old new (Some (parts_with types front.0.0 front.0.1 front.1 actions))
domain_some d scope old mid new t x y front actions types h same k is some typed =
    subst (λ (j : Judged DomainParts). IsRead j old new (Some (parts_with types front.0.0 front.0.1 front.1 actions))) (sym (names-assembled d))
    (mapped_some (assembled (types_in d.types)) (beside (domain_again d) (parts_beside (domain_scope d) d)) old new y (front, actions) (parts_with types front.0.0 front.0.1 front.1 actions)
    (read_beside (domain_again d) (parts_beside (domain_scope d) d) old mid new t x y h (subst (λ (s : Scope). IsRead (parts_beside s d) mid new x) same k) is) some
    (ap (λ (ts : List TypeName). parts_with ts front.0.0 front.0.1 front.1 actions) typed))

-- what a domain declares where there are parts
pub domain_read : (d : DomainAst) (scope : Scope) (old mid new : Option Fault) (t : Option (Unit {0})) (x y : Option (((List Object × List Signature) × List Signature) × List Action))
    (types : List TypeName) (z : Option DomainParts)
    → IsRead (tested (domain_again d)) old mid t → scope ≡ domain_scope d → IsRead (parts_beside scope d) mid new x → y ≡ option_both second t x → types ≡ types_in d.types
    → z ≡ option_map (λ (p : ((List Object × List Signature) × List Signature) × List Action). parts_with types p.0.0.0 p.0.0.1 p.0.1 p.1) y → IsRead (domain_names d) old new z
domain_read d scope old mid new t x None types z h same k is typed at =
    subst (λ (o : Option DomainParts). IsRead (domain_names d) old new o) (sym at) (domain_none d scope old mid new t x None h same k is refl)
domain_read d scope old mid new t x (Some p) types z h same k is typed at =
    subst (λ (o : Option DomainParts). IsRead (domain_names d) old new o) (sym at) (domain_some d scope old mid new t x (Some p) p.0 p.1 types h same k is refl typed)

pub tables_kept : (d : DomainAst) (tables : Tables) (made : Option DomainNames) → scope_in tables ≡ domain_scope d → IfSome made (λ n. n.tables ≡ tables) → IfSome made (λ n. scope_in n.tables ≡ domain_scope d)
tables_kept d tables None same h = h
tables_kept d tables (Some n) same h = ap scope_in h ∙ same
