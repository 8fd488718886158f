-- What a state of the program holds, and the state that it is: an atom is true where it is held as true, and a function has
-- the value that is held, where one is. So nothing held of an atom or a function says the same as false, or no value.
use Rattle.std.specs.Prelude.{ℕ, Bool, false, List, Option, None, unwrap_or, refl}
use Rattle.std.specs.Coded.{Coded, code_by, coded×, coded_list, coded_ℕ, coded_bool, coded_option}
use Rattle.rational.specs.Fraction.{Fraction}
use Rattle.frac128.specs.Code.{fraction_code}
use Rattle.ground_map.specs.GroundMap.{value_at}
use Rattle.plan_step.specs.State.{PlanState}

-- for each predicate and each function the lists of arguments of which something is held
pub record Held : Type 0 where
  pub truths : List (List (List ℕ × Bool))
  pub values : List (List (List ℕ × Option Fraction))

abbrev truths_code : Coded (List (List (List ℕ × Bool)))
truths_code = coded_list (coded_list (coded× (coded_list coded_ℕ) coded_bool))

abbrev values_code : Coded (List (List (List ℕ × Option Fraction)))
values_code = coded_list (coded_list (coded× (coded_list coded_ℕ) (coded_option fraction_code)))

-- it is stored as the pair of its fields
abbrev pub held_code : Coded Held
held_code =
    code_by (List (List (List ℕ × Bool)) × List (List (List ℕ × Option Fraction))) (coded× truths_code values_code) (λ h. (h.truths, h.values)) (λ p. record { truths = p.0; values = p.1 }) (λ _. refl)

abbrev pub state_of : Held → PlanState
state_of held = record {
  truth = λ p args. unwrap_or (value_at held.truths p args) false;
  value = λ f args. unwrap_or (value_at held.values f args) None;
}
