-- What the changes of an instance add to a function is what its moves do.
use Rattle.std.proofs.Common.{◌≡◌, ℕ, Bool, true, false, not, cond, ◌||◌, List, [], ◌∷◌, map, refl, sym, ap, ◌∙◌}
use Rattle.std.specs.List.{list_all, list_any}
use Rattle.std.proofs.lemmas.Bool.{and_parts}
use lib.IntN.{pos}
use Rattle.algebra.proofs.Solve.{v, k, ◌⊕◌, solve}
use Rattle.rational.specs.Fraction.{Fraction, neg_ℚ, ◌+ℚ◌}
use Rattle.rational.proofs.FieldLaws.{fraction-ring}
use Rattle.lin.proofs.ValueLaws.{value_fixed}
use Rattle.plan_repeat.specs.Rolling.{amount_of, growth}
use Rattle.ground_numbers.specs.declared.named.Named.{Named}
use Rattle.ground_numbers.specs.Numbers.{same}
use Rattle.ground_numbers.specs.inside.Same.{same_sound}
use Rattle.ground_action.specs.Parts.{constant, linear, is_zero}
use Rattle.ground_action.specs.Leaves.{Act, assign, increase, decrease, scale_up, scale_down, Move, puts_atom, acts}
use Rattle.ground_action.specs.GroundAction.{fold_acts, sum_act, is_step}
use Rattle.ground_action.specs.Rolls.{steps_only, has_sum}
use Rattle.ground_action.proofs.Tests.{op_of, zero_q}
use Rattle.ground_action.proofs.LeafLaws.{act_amount, change_in}

add_to : (q c d : Fraction) → (q +ℚ c) +ℚ d ≡ q +ℚ (c +ℚ d)
add_to q c d = solve fraction-ring ((v 0 ⊕ v 1) ⊕ v 2) (v 0 ⊕ (v 1 ⊕ v 2)) (q ∷ c ∷ d ∷ []) refl

add_nothing : (q : Fraction) → q ≡ q +ℚ zero_q
add_nothing q = solve fraction-ring (v 0) (v 0 ⊕ k (pos 0)) (q ∷ []) refl

nothing_to : (q : Fraction) → zero_q +ℚ q ≡ q
nothing_to q = solve fraction-ring (k (pos 0) ⊕ v 0) (v 0) (q ∷ []) refl

module _ (at : ℕ → Fraction) where
  -- one act
  summed : (a : Act) → is_step a ≡ true → (q : Fraction) → sum_act a q ≡ q +ℚ amount_of (op_of a) (act_amount at a)
  summed (assign p) e q = cc
  summed (increase (constant x)) e q = ap (λ w. q +ℚ w) (sym (value_fixed at x))
  summed (increase (linear r l)) e q = cc
  summed (decrease (constant x)) e q = ap (λ w. q +ℚ neg_ℚ w) (sym (value_fixed at x))
  summed (decrease (linear r l)) e q = cc
  summed (scale_up a) e q = cc
  summed (scale_down a) e q = cc

  -- all acts on one function
  grown : (it : Named) (moves : List Move) → list_all steps_only moves ≡ true → (q : Fraction) → fold_acts sum_act it moves q ≡ q +ℚ growth (map (change_in at) moves) it.symbol it.args
  grown it [] h q = add_nothing q
  grown it (puts_atom sign j ∷ moves) h q = grown it moves h q
  grown it (acts j a ∷ moves) h q = by (same j it) (grown it moves hs.1)
    where
      hs : (is_step a ≡ true) × (list_all steps_only moves ≡ true)
      hs = and_parts (is_step a) (list_all steps_only moves) h

      by : (b : Bool) → ((q : Fraction) → fold_acts sum_act it moves q ≡ q +ℚ growth (map (change_in at) moves) it.symbol it.args)
          → cond b (fold_acts sum_act it moves (sum_act a q)) (fold_acts sum_act it moves q) ≡ q +ℚ cond b (amount_of (op_of a) (act_amount at a) +ℚ growth (map (change_in at) moves) it.symbol it.args) (growth (map (change_in at) moves) it.symbol it.args)
      by true rest = rest (sum_act a q) ∙ ap (λ w. w +ℚ growth (map (change_in at) moves) it.symbol it.args) (summed a hs.0 q) ∙ add_to q (amount_of (op_of a) (act_amount at a)) (growth (map (change_in at) moves) it.symbol it.args)
      by false rest = rest q

  pub growth_is : (it : Named) (moves : List Move) → list_all steps_only moves ≡ true → fold_acts sum_act it moves zero_q ≡ growth (map (change_in at) moves) it.symbol it.args
  growth_is it moves h = grown it moves h zero_q ∙ nothing_to (growth (map (change_in at) moves) it.symbol it.args)

-- where the acts on a function change a sum, there is one, and its function has that sum
pub some_sum : (all : List Move) (it : Named) → is_zero (fold_acts sum_act it all zero_q) ≡ false → (moves : List Move) (q : Fraction) → (fold_acts sum_act it moves q ≡ q → ⊥) → list_any (has_sum all) moves ≡ true
some_sum all it sum [] q other = absurd (other refl)
some_sum all it sum (puts_atom sign j ∷ moves) q other = some_sum all it sum moves q other
some_sum all it sum (acts j a ∷ moves) q other = by (same j it) refl other (λ o. some_sum all it sum moves q o)
  where
    has_it : (b : Bool) → not (is_zero (fold_acts sum_act j all zero_q)) ≡ true → (not (is_zero (fold_acts sum_act j all zero_q)) || b) ≡ true
    has_it b e = ap (λ t. t || b) e

    later : (b c : Bool) → c ≡ true → (b || c) ≡ true
    later true c e = refl
    later false c e = e

    by : (b : Bool) → same j it ≡ b → (cond b (fold_acts sum_act it moves (sum_act a q)) (fold_acts sum_act it moves q) ≡ q → ⊥) → ((fold_acts sum_act it moves q ≡ q → ⊥) → list_any (has_sum all) moves ≡ true)
        → list_any (has_sum all) (acts j a ∷ moves) ≡ true
    by true e o rest = has_it (list_any (has_sum all) moves) (ap (λ (n : Named). not (is_zero (fold_acts sum_act n all zero_q))) (same_sound j it e) ∙ ap not sum)
    by false e o rest = later (not (is_zero (fold_acts sum_act j all zero_q))) (list_any (has_sum all) moves) (rest o)

pub sum_of : (all moves : List Move) → list_any (has_sum all) moves ≡ true → (it : Named) × (is_zero (fold_acts sum_act it all zero_q) ≡ false)
sum_of all [] h = absurd (cc)
sum_of all (puts_atom sign j ∷ moves) h = sum_of all moves h
sum_of all (acts j a ∷ moves) h = by (is_zero (fold_acts sum_act j all zero_q)) refl h (sum_of all moves)
  where
    by : (b : Bool) → is_zero (fold_acts sum_act j all zero_q) ≡ b → (not b || list_any (has_sum all) moves) ≡ true → (list_any (has_sum all) moves ≡ true → (it : Named) × (is_zero (fold_acts sum_act it all zero_q) ≡ false))
        → (it : Named) × (is_zero (fold_acts sum_act it all zero_q) ≡ false)
    by true e g rest = rest g
    by false e g rest = (j, e)
