use Rattle.planner_text.proofs.Refuting.{plan_is_valid, plan_reaches, none_before}
use Rattle.planner_text.proofs.laws.plan_is_least.Goals as goal

pub returns-clause-valid : goal.returns-clause-valid
returns-clause-valid c = λ task limits places before last plan is ends. plan_is_valid task limits places before last plan is ends

pub returns-clause-reached : goal.returns-clause-reached
returns-clause-reached c = λ task limits places before last plan is ends. plan_reaches task limits places before last plan is ends

pub returns-clause-least : goal.returns-clause-least
returns-clause-least c = λ task limits places before last linear is n less r.
    none_before task limits places (c.refuted_blocks_refute.ensures task limits places before last linear is) before last is n less r
