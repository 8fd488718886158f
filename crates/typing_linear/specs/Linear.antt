-- Linearity: the faults of products and quotients that read changing functions where they may not (kind 11). What an
-- expression reads is by how it is written: `(- (x) (x))` reads x.
use Rattle.std.specs.Prelude.{ℕ, Bool, false, ◌&&◌, ◌||◌, nat_le, bytes_eq, List, [], ◌∷◌, ◌++◌, codes, count_by, if◌then◌else◌}
use Rattle.std.specs.List.{list_any, flat_map}
use Rattle.pddl_form.specs.declared.fault.Fault.{Fault}
use Rattle.pddl_condition.specs.declared.expression.ExprAst.{ExprAst}
use Rattle.pddl_condition.specs.declared.expression.ExprAst.TheOpen.{ExprAst-F}
use Rattle.pddl_condition.specs.declared.expression.ExprAst.TheFolds.{fold-ExprAst}
use Rattle.pddl_condition.specs.declared.condition.CondAst.{CondAst}
use Rattle.pddl_condition.specs.declared.condition.CondAst.TheVariants as cond_ast
use Rattle.pddl_domain.specs.declared.effect.EffAst.{EffAst}
use Rattle.pddl_domain.specs.declared.effect.EffAst.TheVariants as eff_ast
use Rattle.pddl_domain.specs.declared.action.ActionAst.{ActionAst}

abbrev pub not_linear : ℕ → Fault
not_linear place = record { kind = 11; place = place; word = [] }

-- ---- changing functions, by their names

abbrev pub changes : List ℕ → EffAst → Bool
changes func (eff_ast.Put pos name args) = false
changes func (eff_ast.Change op name args by) = bytes_eq name.text func

-- an effect of some action changes it
abbrev pub is_changing : List ActionAst → List ℕ → Bool
is_changing actions func = list_any (λ a. list_any (changes func) a.effs) actions

-- ---- expressions

-- whether an expression reads a changing function, and its faults
pub record Reading : Type 0 where
  pub reads : Bool
  pub faults : List Fault

abbrev pub reading : Bool → List Fault → Reading
reading reads faults = record { reads = reads; faults = faults }

-- two factors read
abbrev pub is_nonlinear_product : List Reading → Bool
is_nonlinear_product args = nat_le 2 (count_by (λ r. r.reads) args)

-- the divisor reads
abbrev pub is_nonlinear_quotient : List Reading → Bool
is_nonlinear_quotient [] = false
is_nonlinear_quotient (dividend ∷ []) = false
is_nonlinear_quotient (dividend ∷ divisor ∷ more) = divisor.reads

abbrev pub is_nonlinear : List ℕ → List Reading → Bool
is_nonlinear op args = (bytes_eq op (codes "*") && is_nonlinear_product args) || (bytes_eq op (codes "/") && is_nonlinear_quotient args)

abbrev pub reading_step : List ActionAst → ExprAst-F Reading → Reading
reading_step actions (ExprAst-F.Num n) = reading false []
reading_step actions (ExprAst-F.Call name args) = reading (is_changing actions name.text) []
reading_step actions (ExprAst-F.Op op args) =
    reading (list_any (λ r. r.reads) args) ((if is_nonlinear op.text args then not_linear op.place ∷ [] else []) ++ flat_map (λ r. r.faults) args)

unfoldable pub reading_of : List ActionAst → ExprAst → Reading
reading_of actions = fold-ExprAst Reading (reading_step actions)

-- ---- conditions and effects

abbrev pub condition_nonlinearities : List ActionAst → CondAst → List Fault
condition_nonlinearities actions (cond_ast.Lit pos name args) = []
condition_nonlinearities actions (cond_ast.Same pos left right) = []
condition_nonlinearities actions (cond_ast.Compare rel left right) = (reading_of actions left).faults ++ (reading_of actions right).faults

-- `scale-up` and `scale-down` multiply and divide
abbrev pub scales : List ℕ → Bool
scales op = bytes_eq op (codes "scale-up") || bytes_eq op (codes "scale-down")

abbrev pub effect_nonlinearities : List ActionAst → EffAst → List Fault
effect_nonlinearities actions (eff_ast.Put pos name args) = []
effect_nonlinearities actions (eff_ast.Change op name args by) =
    (if scales op.text && (reading_of actions by).reads then not_linear op.place ∷ [] else []) ++ (reading_of actions by).faults

abbrev pub action_nonlinearities : List ActionAst → ActionAst → List Fault
action_nonlinearities actions a = flat_map (condition_nonlinearities actions) a.conds ++ flat_map (effect_nonlinearities actions) a.effs

-- the pass over linearity: of a domain, and then of a problem's goal
unfoldable pub domain_nonlinearities : List ActionAst → List Fault
domain_nonlinearities actions = flat_map (action_nonlinearities actions) actions

unfoldable pub goal_nonlinearities : List ActionAst → List CondAst → List Fault
goal_nonlinearities actions goal = flat_map (condition_nonlinearities actions) goal
