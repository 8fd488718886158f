use Rattle.ground_laws.specs.Result.{task_from}
use Rattle.planner_text.proofs.Refuting.{places_of_actions, places_are_kept}
use Rattle.planner_text.proofs.laws.refuted_blocks_refute.Goals as goal

pub returns : goal.returns
returns c = λ task limits places before last linear is. record {
  means = c.shown_lemma_holds.ensures;
  reached = λ n r. (c.reaches_goal_as_ground.ensures task places n linear (places_are_kept task places is.holds.pattern)).0 r;
  point = λ n r. (c.point_where_reached.ensures (task_from task) places n (c.parts_are_a_ground_task.ensures task is.few) (places_of_actions task places is.holds.pattern)).0 r;
}
