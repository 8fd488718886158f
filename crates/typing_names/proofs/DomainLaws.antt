-- Objects, signatures and actions from their parts.
use Rattle.std.proofs.Common.{◌≡◌, ℕ, List, [], map, Option, Some, None, refl, sym, ◌∙◌, ap, subst}
use Rattle.pddl_form.specs.declared.fault.Fault.{Fault}
use Rattle.pddl_form.specs.declared.spot.Spot.{Spot}
use Rattle.pddl_form.specs.declared.typed.Typed.{Typed}
use Rattle.pddl_condition.specs.declared.condition.CondAst.{CondAst}
use Rattle.pddl_form.specs.Judged.{Judged, good, bad, mapped, both, each}
use Rattle.pddl_form.specs.Gather.{option_both, apply}
use Rattle.pddl_form.specs.Parts.{pair}
use Rattle.pddl_form.specs.Reading.{IsRead}
use Rattle.pddl_form.proofs.Loops.{mapped_none, mapped_some, read_both, read_as}
use Rattle.pddl_domain.specs.declared.head.Head.{Head}
use Rattle.pddl_domain.specs.declared.action.ActionAst.{ActionAst}
use Rattle.pddl_domain.specs.declared.effect.EffAst.{EffAst}
use Rattle.pddl_task.specs.declared.action.Action.{Action}
use Rattle.pddl_task.specs.declared.condition.Cond.{Cond}
use Rattle.pddl_task.specs.declared.effect.Effect.{Effect}
use Rattle.typing_uses.specs.Scope.{Scope, named, texts, sighted, declared_again}
use Rattle.typing_names.specs.Faults.{beside}
use Rattle.typing_uses.specs.Expressions.{conditions_named, effects_named}
use Rattle.typing_names.specs.Domain.{names_of, written_type, object_with, object_named, or_object, parameter_named, parameters_named, signature_with, signature_named, action_with, within, action_named}
use Rattle.typing_uses.proofs.ExpressionLaws.{changed_none, changed_some}

-- ---- objects

pub object_none : (types : List (List ℕ)) (t : Typed) (spots : List Spot) (old new : Option Fault) (x : Option ℕ)
    → spots ≡ t.types → IsRead (written_type types spots) old new x → x ≡ None → IsRead (object_named types t) old new None
object_none types t spots old new x same h is =
    mapped_none (object_with t.name.text) (written_type types t.types) old new x (subst (λ (ss : List Spot). IsRead (written_type types ss) old new x) same h) is

pub object_some : (types : List (List ℕ)) (t : Typed) (spots : List Spot) (old new : Option Fault) (x : Option ℕ) (of : ℕ) (name : List ℕ)
    → spots ≡ t.types → IsRead (written_type types spots) old new x → x ≡ Some of → name ≡ t.name.text → IsRead (object_named types t) old new (Some (object_with name of))
object_some types t spots old new x of name same h is copied =
    mapped_some (object_with t.name.text) (written_type types t.types) old new x of (object_with name of) (subst (λ (ss : List Spot). IsRead (written_type types ss) old new x) same h) is
    (ap (λ (n : List ℕ). object_with n of) copied)

-- ---- parameters

pub param_none : (types : List (List ℕ)) (t : Typed) (spots : List Spot) (old new : Option Fault) (x : Option (List ℕ))
    → spots ≡ t.types → IsRead (each (map (named types) spots)) old new x → x ≡ None → IsRead (parameter_named types t) old new None
param_none types t spots old new x same h is =
    mapped_none or_object (each (map (named types) t.types)) old new x (subst (λ (ss : List Spot). IsRead (each (map (named types) ss)) old new x) same h) is

pub param_some : (types : List (List ℕ)) (t : Typed) (spots : List Spot) (old new : Option Fault) (x : Option (List ℕ)) (written allowed : List ℕ)
    → spots ≡ t.types → IsRead (each (map (named types) spots)) old new x → x ≡ Some written → allowed ≡ or_object written → IsRead (parameter_named types t) old new (Some allowed)
param_some types t spots old new x written allowed same h is made =
    mapped_some or_object (each (map (named types) t.types)) old new x written allowed (subst (λ (ss : List Spot). IsRead (each (map (named types) ss)) old new x) same h) is made

-- behind no names
pub params_read : (types : List (List ℕ)) (seen : List (List ℕ)) (params said : List Typed) (old new : Option Fault) (x : Option (List (List ℕ)))
    → seen ≡ [] → said ≡ params → IsRead (beside (declared_again seen (names_of said)) (each (map (parameter_named types) said))) old new x → IsRead (parameters_named types params) old new x
params_read types seen params said old new x none same h =
    subst (λ (ps : List Typed). IsRead (parameters_named types ps) old new x) same
    (subst (λ (names : List (List ℕ)). IsRead (beside (declared_again names (names_of said)) (each (map (parameter_named types) said))) old new x) none h)

-- ---- signatures

pub signature_none : (types : List (List ℕ)) (head : Head) (seen : List (List ℕ)) (said : List Typed) (old new : Option Fault) (x : Option (List (List ℕ)))
    → seen ≡ [] → said ≡ head.params → IsRead (beside (declared_again seen (names_of said)) (each (map (parameter_named types) said))) old new x → x ≡ None
    → IsRead (signature_named types head) old new None
signature_none types head seen said old new x none same h is =
    mapped_none (signature_with head.name.text) (parameters_named types head.params) old new x (params_read types seen head.params said old new x none same h) is

pub signature_some : (types : List (List ℕ)) (head : Head) (seen : List (List ℕ)) (said : List Typed) (old new : Option Fault) (x : Option (List (List ℕ))) (params : List (List ℕ)) (name : List ℕ)
    → seen ≡ [] → said ≡ head.params → IsRead (beside (declared_again seen (names_of said)) (each (map (parameter_named types) said))) old new x → x ≡ Some params → name ≡ head.name.text
    → IsRead (signature_named types head) old new (Some (signature_with name params))
signature_some types head seen said old new x params name none same h is copied =
    mapped_some (signature_with head.name.text) (parameters_named types head.params) old new x params (signature_with name params) (params_read types seen head.params said old new x none same h) is
    (ap (λ (n : List ℕ). signature_with n params) copied)

-- ---- actions

pub action_parts : (scope inside : Scope) (a : ActionAst) (params : List Typed) (conds : List CondAst) (effs : List EffAst) (seen table : List (List ℕ)) (old mid later new : Option Fault)
    (x : Option (List (List ℕ))) (y : Option (List Cond)) (z : Option (List Effect)) (u : Option (List (List ℕ) × List Cond)) (v : Option ((List (List ℕ) × List Cond) × List Effect))
    → seen ≡ [] → params ≡ a.params → conds ≡ a.conds → effs ≡ a.effs
    → IsRead (beside (declared_again seen (names_of params)) (each (map (parameter_named scope.types) params))) old mid x → table ≡ sighted seen (texts (names_of params))
    → inside ≡ record scope { params = table } → IsRead (conditions_named inside conds) mid later y → IsRead (effects_named inside effs) later new z
    → u ≡ option_both pair x y → v ≡ option_both pair u z
    → IsRead (both pair (both pair (parameters_named scope.types a.params) (conditions_named (within scope a.params) a.conds)) (effects_named (within scope a.params) a.effs)) old new v
action_parts scope inside a params conds effs seen table old mid later new x y z u v none same_params same_conds same_effs h tabled is_inside k l is_u is_v =
    let scoped : inside ≡ within scope a.params =
    is_inside ∙ ap (λ (names : List (List ℕ)). let s : Scope = record scope { params = names } in s)
    (tabled ∙ ap (λ (names : List (List ℕ)). sighted names (texts (names_of params))) none ∙ ap (λ (ps : List Typed). sighted [] (texts (names_of ps))) same_params) in
    let here : IsRead (parameters_named scope.types a.params) old mid x = params_read scope.types seen a.params params old mid x none same_params h in
    let under : IsRead (conditions_named (within scope a.params) a.conds) mid later y =
    subst (λ (s : Scope). IsRead (conditions_named s a.conds) mid later y) scoped (subst (λ (cs : List CondAst). IsRead (conditions_named inside cs) mid later y) same_conds k) in
    let after : IsRead (effects_named (within scope a.params) a.effs) later new z =
    subst (λ (s : Scope). IsRead (effects_named s a.effs) later new z) scoped (subst (λ (es : List EffAst). IsRead (effects_named inside es) later new z) same_effs l) in
    let front : IsRead (both pair (parameters_named scope.types a.params) (conditions_named (within scope a.params) a.conds)) old later u =
    read_as (both pair (parameters_named scope.types a.params) (conditions_named (within scope a.params) a.conds)) old later (option_both pair x y) u
    (read_both pair (parameters_named scope.types a.params) (conditions_named (within scope a.params) a.conds) old mid later x y here under) is_u in
    read_as (both pair (both pair (parameters_named scope.types a.params) (conditions_named (within scope a.params) a.conds)) (effects_named (within scope a.params) a.effs)) old new (option_both pair u z) v
    (read_both pair (both pair (parameters_named scope.types a.params) (conditions_named (within scope a.params) a.conds)) (effects_named (within scope a.params) a.effs) old later new u z front after) is_v

-- a first part, and a second one
pub apply-mapped : {A B C : Type 0} (f : A → B → C) (a : Judged A) (b : Judged B) → both apply (mapped f a) b ≡ both f a b
apply-mapped f (good a) (good b) = refl
apply-mapped f (good a) (bad g more) = refl
apply-mapped f (bad g more) b = refl

pub action_none : (scope : Scope) (a : ActionAst) (old new : Option Fault) (x : Option ((List (List ℕ) × List Cond) × List Effect))
    → IsRead (both pair (both pair (parameters_named scope.types a.params) (conditions_named (within scope a.params) a.conds)) (effects_named (within scope a.params) a.effs)) old new x → x ≡ None
    → IsRead (action_named scope a) old new None
action_none scope a old new x h is =
    subst (λ (j : Judged (List Effect → Action)). IsRead (both apply j (effects_named (within scope a.params) a.effs)) old new None)
    (sym (apply-mapped (action_with a.name.text) (parameters_named scope.types a.params) (conditions_named (within scope a.params) a.conds)))
    (changed_none (action_with a.name.text) (parameters_named scope.types a.params) (conditions_named (within scope a.params) a.conds) (effects_named (within scope a.params) a.effs) old new x h is)

pub action_some : (scope : Scope) (a : ActionAst) (old new : Option Fault) (x : Option ((List (List ℕ) × List Cond) × List Effect)) (front : List (List ℕ) × List Cond) (effs : List Effect) (name : List ℕ)
    → IsRead (both pair (both pair (parameters_named scope.types a.params) (conditions_named (within scope a.params) a.conds)) (effects_named (within scope a.params) a.effs)) old new x → x ≡ Some (front, effs)
    → name ≡ a.name.text → IsRead (action_named scope a) old new (Some (action_with name front.0 front.1 effs))
action_some scope a old new x front effs name h is copied =
    subst (λ (j : Judged (List Effect → Action)). IsRead (both apply j (effects_named (within scope a.params) a.effs)) old new (Some (action_with name front.0 front.1 effs)))
    (sym (apply-mapped (action_with a.name.text) (parameters_named scope.types a.params) (conditions_named (within scope a.params) a.conds)))
    (changed_some (action_with a.name.text) (parameters_named scope.types a.params) (conditions_named (within scope a.params) a.conds) (effects_named (within scope a.params) a.effs) old new x front effs
    (action_with name front.0 front.1 effs) h is (ap (λ (n : List ℕ). action_with n front.0 front.1 effs) copied))
