-- What is of the grammar has parts that are.
use Rattle.std.proofs.Common.{◌≡◌, Bool, true, List, ap, ◌∙◌}
use Rattle.std.specs.Prelude.{◌&&◌}
use Rattle.std.specs.List.{list_all}
use Rattle.std.proofs.lemmas.Bool.{and_parts}
use Rattle.pddl_form.specs.declared.names.Sort.TheVariants.{Name, Variable}
use Rattle.pddl_form.specs.Grammar.{is_of, is_typed}
use Rattle.pddl_condition.specs.declared.condition.CondAst.{CondAst}
use Rattle.pddl_condition.specs.Grammar.{is_condition}
use Rattle.pddl_domain.specs.declared.action.ActionAst.{ActionAst}
use Rattle.pddl_domain.specs.declared.domain.DomainAst.{DomainAst}
use Rattle.pddl_domain.specs.declared.effect.EffAst.{EffAst}
use Rattle.pddl_domain.specs.Grammar.{is_action, is_effect, is_domain, are_declarations}
use Rattle.pddl_problem.specs.declared.ast.ProblemAst.{ProblemAst}
use Rattle.pddl_problem.specs.Grammar.{is_init, is_problem}

action_leaves : (a : ActionAst) → is_action a ≡ true → (list_all is_condition a.conds && list_all is_effect a.effs) ≡ true
action_leaves a is =
    (and_parts (list_all (is_typed Variable) a.params) (list_all is_condition a.conds && list_all is_effect a.effs)
    (and_parts (is_of Name a.name) (list_all (is_typed Variable) a.params && (list_all is_condition a.conds && list_all is_effect a.effs)) is).1).1

pub action_conditions : (a : ActionAst) (said : List CondAst) → said ≡ a.conds → is_action a ≡ true → list_all is_condition said ≡ true
action_conditions a said same is = ap (list_all is_condition) same ∙ (and_parts (list_all is_condition a.conds) (list_all is_effect a.effs) (action_leaves a is)).0

pub action_effects : (a : ActionAst) (said : List EffAst) → said ≡ a.effs → is_action a ≡ true → list_all is_effect said ≡ true
action_effects a said same is = ap (list_all is_effect) same ∙ (and_parts (list_all is_condition a.conds) (list_all is_effect a.effs) (action_leaves a is)).1

pub domain_actions : (d : DomainAst) → is_domain d ≡ true → list_all is_action d.actions ≡ true
unfolding is_domain
domain_actions d is = (and_parts (are_declarations d) (list_all is_action d.actions) (and_parts (is_of Name d.name) (are_declarations d && list_all is_action d.actions) is).1).1

problem_leaves : (p : ProblemAst) → is_problem p ≡ true → (list_all is_init p.init && list_all is_condition p.goal) ≡ true
unfolding is_problem
problem_leaves p is =
    (and_parts (list_all (is_typed Name) p.objects) (list_all is_init p.init && list_all is_condition p.goal)
    (and_parts (is_of Name p.domain) (list_all (is_typed Name) p.objects && (list_all is_init p.init && list_all is_condition p.goal))
    (and_parts (is_of Name p.name) (is_of Name p.domain && (list_all (is_typed Name) p.objects && (list_all is_init p.init && list_all is_condition p.goal))) is).1).1).1

pub problem_inits : (p : ProblemAst) → is_problem p ≡ true → list_all is_init p.init ≡ true
problem_inits p is = (and_parts (list_all is_init p.init) (list_all is_condition p.goal) (problem_leaves p is)).0

pub problem_goal : (p : ProblemAst) → is_problem p ≡ true → list_all is_condition p.goal ≡ true
problem_goal p is = (and_parts (list_all is_init p.init) (list_all is_condition p.goal) (problem_leaves p is)).1
