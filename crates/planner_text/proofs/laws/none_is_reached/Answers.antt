use Rattle.std.proofs.Common.{ℕ, ◌≤◌, arith}
use Rattle.planner_text.proofs.Refuting.{none_up_to}
use Rattle.planner_text.proofs.laws.none_is_reached.Goals as goal

pub returns-clause-words : goal.returns-clause-words
returns-clause-words c = λ task limits places before last linear is ends n most r.
    none_up_to task limits places (c.refuted_blocks_refute.ensures task limits places before last linear is) before last is ends n most r

same : (n : ℕ) → n ≤ n
same n = omega arith

pub returns-clause-plans : goal.returns-clause-plans
returns-clause-plans c = λ task limits places before last linear is ends plan most valid.
    none_up_to task limits places (c.refuted_blocks_refute.ensures task limits places before last linear is) before last is ends limits.max_n (same limits.max_n)
    (c.every_plan_is_a_word.ensures task places limits.max_n plan linear is.few is.holds.pattern valid most)
