-- What the types of expressions, of parameters and of actions come to.
use Rattle.std.proofs.Common.{◌≡◌, ℕ, ◌+◌, ◌<◌, List, [], ◌∷◌, length, get_or, drop, Option, Some, refl, sym, ◌∙◌, ap}
use Rattle.std.proofs.lemmas.List.{drop_more}
use Rattle.pddl_form.proofs.Judging.{least-append}
use Rattle.std.proofs.lemmas.List.Folds.{flat_map-map}
use Rattle.std.specs.List.{flat_map}
use Rattle.rational.specs.Fraction.{Fraction}
use Rattle.pddl_form.specs.declared.fault.Fault.{Fault}
use Rattle.pddl_form.specs.declared.spot.Spot.{Spot}
use Rattle.pddl_form.specs.declared.typed.Typed.{Typed}
use Rattle.pddl_condition.specs.declared.expression.ExprAst.{ExprAst}
use Rattle.pddl_condition.specs.declared.expression.ExprAst.TheVariants as expr
use Rattle.pddl_form.specs.Faults.{least}
use Rattle.pddl_domain.specs.declared.action.ActionAst.{ActionAst}
use Rattle.pddl_domain.specs.declared.domain.DomainAst.{DomainAst}
use Rattle.pddl_task.specs.declared.action.Action.{Action}
use Rattle.typing_uses.specs.Scope.{sighted, texts}
use Rattle.typing_names.specs.Domain.{DomainParts, names_of}
use Rattle.typing_types.specs.Types.{Declared, action_faults, domain_declared, domain_types, expression_fault_step, expression_faults, body_faults, function_faults, inside}
use Rattle.typing_types.specs.Known.{domain_type_faults}
use Rattle.typing_uses.proofs.Written.{fold-Num, fold-Call, fold-Op}

-- ---- expressions

module _ (d : Declared) where
  expression_faults-Num : (n : Fraction) → expression_faults d (expr.Num n) ≡ []
  unfolding expression_faults
  expression_faults-Num n = fold-Num (List Fault) (expression_fault_step d) n

  pub expression_faults-Call : (name : Spot) (args : List Spot) → expression_faults d (expr.Call name args) ≡ function_faults d name args
  unfolding expression_faults
  expression_faults-Call name args = fold-Call (List Fault) (expression_fault_step d) name args

  pub expression_faults-Op : (op : Spot) (args : List ExprAst) → expression_faults d (expr.Op op args) ≡ flat_map (expression_faults d) args
  unfolding expression_faults
  expression_faults-Op op args = fold-Op (List Fault) (expression_fault_step d) op args ∙ flat_map-map (λ (fs : List Fault). fs) (expression_faults d) args

  pub number_judged : (e : ExprAst) (n : Fraction) (first : Option Fault) → e ≡ expr.Num n → first ≡ least first (expression_faults d e)
  number_judged e n first is = sym (ap (least first) (ap (expression_faults d) is ∙ expression_faults-Num n))

  pub call_judged : (e : ExprAst) (name : Spot) (args said : List Spot) (first now : Option Fault) → e ≡ expr.Call name args → said ≡ args → now ≡ least first (function_faults d name said) → now ≡ least first (expression_faults d e)
  call_judged e name args said first now is same h =
      h ∙ ap (λ (spots : List Spot). least first (function_faults d name spots)) same ∙ sym (ap (least first) (ap (expression_faults d) is ∙ expression_faults-Call name args))

  pub operation_judged : (e : ExprAst) (op : Spot) (args said : List ExprAst) (first now : Option Fault) → e ≡ expr.Op op args → said ≡ args → now ≡ least first (flat_map (expression_faults d) said) → now ≡ least first (expression_faults d e)
  operation_judged e op args said first now is same h =
      h ∙ ap (λ (es : List ExprAst). least first (flat_map (expression_faults d) es)) same ∙ sym (ap (least first) (ap (expression_faults d) is ∙ expression_faults-Op op args))

-- ---- a loop over the parameters of an action, and one over actions

-- the names of the parameters from the i-th on are left
pub record AreUnnamed (params : List Typed) (i : ℕ) (old now : List (List ℕ)) : Type 0 where
  pub are_unnamed : sighted old (texts (names_of params)) ≡ sighted now (texts (names_of (drop i params)))

-- the faults of the actions from the i-th on are left
pub record AreUnjudged (d : Declared) (written : List ActionAst) (actions : List Action) (i : ℕ) (old now : Option Fault) : Type 0 where
  pub are_unjudged : least old (action_faults d written actions) ≡ least now (action_faults d (drop i written) (drop i actions))

pub one_more_judged : (d : Declared) (written : List ActionAst) (actions : List Action) (i : ℕ) (a : ActionAst) (action : Action) (old mid new : Option Fault)
    → AreUnjudged d written actions i old mid → i < length written → a ≡ get_or written i a → i < length actions → action ≡ get_or actions i action
    → new ≡ least mid (body_faults (inside d a (Some action)) a) → AreUnjudged d written actions (i + 1) old new
one_more_judged d written actions i a action old mid new h within at within' at' is =
    let front : drop i written ≡ a ∷ drop (i + 1) written = drop_more written i a within ∙ ap (λ (x : ActionAst). x ∷ drop (i + 1) written) (sym at) in
    let first : drop i actions ≡ action ∷ drop (i + 1) actions = drop_more actions i action within' ∙ ap (λ (x : Action). x ∷ drop (i + 1) actions) (sym at') in
    record {
      are_unjudged =
          h.are_unjudged ∙ ap (λ (xs : List ActionAst). least mid (action_faults d xs (drop i actions))) front ∙ ap (λ (xs : List Action). least mid (action_faults d (a ∷ drop (i + 1) written) xs)) first
          ∙ least-append mid (body_faults (inside d a (Some action)) a) (action_faults d (drop (i + 1) written) (drop (i + 1) actions))
          ∙ ap (λ (o : Option Fault). least o (action_faults d (drop (i + 1) written) (drop (i + 1) actions))) (sym is);
    }

-- ---- the whole

-- what the pass over a domain's types finds
pub domain_types-is : (d : DomainAst) (parts : DomainParts) → domain_types d parts ≡ domain_type_faults (domain_declared d parts) d parts.actions
unfolding domain_types
domain_types-is d parts = refl
