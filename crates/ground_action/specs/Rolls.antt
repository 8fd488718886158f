-- Rollable, by the leaves and moves of an instance (this project): each numeric effect is an increase or a decrease by a
-- constant, the sum for some function isn't 0, and no literal is false after the instance's own deletions and additions.
use Rattle.std.specs.Prelude.{Bool, true, false, not, ◌&&◌, List, pos, if◌then◌else◌}
use Rattle.std.specs.List.{list_all, list_any}
use Rattle.rational.specs.Fraction.{whole}
use Rattle.ground_action.specs.Parts.{is_zero}
use Rattle.ground_action.specs.Leaves.{Leaf, fails, unclear, nothing, literal, compared, Move, puts_atom, acts}
use Rattle.ground_action.specs.GroundAction.{is_added, is_deleted, fold_acts, sum_act, is_step}

abbrev pub steps_only : Move → Bool
steps_only (puts_atom sign k) = true
steps_only (acts k a) = is_step a

abbrev pub has_sum : List Move → Move → Bool
has_sum moves (puts_atom sign k) = false
has_sum moves (acts k a) = not (is_zero (fold_acts sum_act k moves (whole (pos 0))))

abbrev pub leaf_stays : List Move → Leaf → Bool
leaf_stays moves fails = true
leaf_stays moves unclear = true
leaf_stays moves nothing = true
leaf_stays moves (literal x sign) = if sign then not (is_deleted moves x) else not (is_added moves x)
leaf_stays moves (compared r l c) = true

abbrev pub rolls : List Leaf → List Move → Bool
rolls leaves moves = list_all steps_only moves && (list_any (has_sum moves) moves && list_all (leaf_stays moves) leaves)
