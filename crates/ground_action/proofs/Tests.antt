-- The ground step's words as tests, and what a part is in a state.
use Rattle.std.proofs.Common.{◌≡◌, ℕ, Bool, true, false, not, ◌&&◌, List, [], ◌∷◌, Option, Some, None, refl, sym, ap}
use Rattle.std.specs.Prelude.{is_some, if◌then◌else◌}
use Rattle.std.specs.List.{list_all}
use Rattle.std.proofs.lemmas.Bool.{eqb-true, and_parts, and_from}
use lib.IntN.{pos, negsuc, ℤ}
use lib.Dec.{T}
use Rattle.rational.specs.Fraction.{Fraction, whole, ◌≤ℚ◌, ◌<ℚ◌}
use Rattle.rational.proofs.FieldLaws.{zero_num}
use Rattle.rational.proofs.OrderLaws.{≥-from_not, ≤ℚ_antisym, ≤ℚ-same, <ℚ-not-≥}
use Rattle.lin.specs.Linear.{Linear, value_of}
use Rattle.lin.specs.declared.comparison.Cmp.{Cmp}
use Rattle.lin.specs.declared.comparison.Cmp.TheVariants as cmp
use Rattle.plan_step.specs.State.{PlanState}
use Rattle.plan_step.specs.Order.{is_less}
use Rattle.plan_step.specs.Meaning.{is_zero_ℤ, signed}
use Rattle.pddl_task.specs.declared.effect.NumOp.{NumOp}
use Rattle.pddl_task.specs.declared.effect.NumOp.TheVariants.{Assign, Increase, Decrease, ScaleUp, ScaleDown}
use Rattle.task_core.specs.State.{State, ComparesToZero}
use Rattle.task_core.specs.declared.action.GAction.{GAction}
use Rattle.task_core.specs.Step.{LiteralsHold, ComparisonsHold, Holds}
use Rattle.ground_numbers.specs.declared.named.Named.{Named}
use Rattle.ground_action.specs.Setting.{value_in}
use Rattle.ground_action.specs.Parts.{Part, constant, linear, is_zero}
use Rattle.ground_action.specs.Leaves.{Act, assign, increase, decrease, scale_up, scale_down}

abbrev pub zero_q : Fraction
zero_q = whole (pos 0)

zero_z : (z : ℤ) → is_zero_ℤ z ≡ true → z ≡ pos 0
zero_z (pos n) h = ap pos (eqb-true n 0 h)
zero_z (negsuc n) h = absurd (cc)

pub zero_true : (x : Fraction) → is_zero x ≡ true → x ≡ whole (pos 0)
zero_true x h = zero_num x (zero_z x.num h)

abbrev pub op_of : Act → NumOp
op_of (assign p) = Assign
op_of (increase p) = Increase
op_of (decrease p) = Decrease
op_of (scale_up a) = ScaleUp
op_of (scale_down a) = ScaleDown

-- ---- what a part is in a state
abbrev pub known : PlanState → List Named → Bool
known s reads = list_all (λ k. is_some (value_in s k)) reads

abbrev pub part_value : PlanState → (ℕ → Fraction) → Part → Option Fraction
part_value s at (constant a) = Some a
part_value s at (linear r l) = if known s r then Some (value_of at l) else None

-- ---- tests
-- a value compared with 0
abbrev pub against : Cmp → Fraction → Bool
against cmp.Le x = not (is_less zero_q x)
against cmp.Lt x = is_less x zero_q
against cmp.Eq x = not (is_less x zero_q) && not (is_less zero_q x)

abbrev pub lit_holds : State → ℕ × Bool → Bool
lit_holds g l = signed l.1 (g.truth l.0)

abbrev pub cmp_holds : State → Linear × Cmp → Bool
cmp_holds g c = against c.1 (value_of g.value c.0)

abbrev pub ready : GAction → State → Bool
ready a g = list_all (lit_holds g) a.lits && list_all (cmp_holds g) a.cmps

-- ---- a test passes exactly where its word holds
less_true : (x y : Fraction) → is_less x y ≡ true → x <ℚ y
less_true x y h = record { lt = let t : T (is_less x y) = by_test (is_less x y) h in t }
  where
    by_test : (b : Bool) → b ≡ true → T b
    by_test true e = tt
    by_test false e = absurd (cc)

true_less : (x y : Fraction) → x <ℚ y → is_less x y ≡ true
true_less x y h = by_test (is_less x y) h.lt
  where
    by_test : (b : Bool) → T b → b ≡ true
    by_test true t = refl
    by_test false t = absurd (t)

not_less : (x y : Fraction) → not (is_less x y) ≡ true → y ≤ℚ x
not_less x y h = ≥-from_not x y (λ l. let t : is_less x y ≡ true = true_less x y l in absurd (cc))

less_not : (x y : Fraction) → y ≤ℚ x → not (is_less x y) ≡ true
less_not x y h = by_test (is_less x y) refl
  where
    by_test : (b : Bool) → is_less x y ≡ b → not b ≡ true
    by_test true e = absurd (<ℚ-not-≥ x y (less_true x y e) h)
    by_test false e = refl

pub against_true : (c : Cmp) (x : Fraction) → against c x ≡ true → ComparesToZero c x
against_true cmp.Le x h = not_less zero_q x h
against_true cmp.Lt x h = less_true x zero_q h
against_true cmp.Eq x h = let hs = and_parts _ _ h in ≤ℚ_antisym x zero_q (not_less zero_q x hs.1) (not_less x zero_q hs.0)

pub true_against : (c : Cmp) (x : Fraction) → ComparesToZero c x → against c x ≡ true
true_against cmp.Le x h = less_not zero_q x h
true_against cmp.Lt x h = true_less x zero_q h
true_against cmp.Eq x h = and_from _ _ (less_not x zero_q (≤ℚ-same zero_q x (sym h))) (less_not zero_q x (≤ℚ-same x zero_q h))

signed_true : (sign t : Bool) → signed sign t ≡ true → t ≡ sign
signed_true true t h = h
signed_true false true h = absurd (cc)
signed_true false false h = refl

true_signed : (sign t : Bool) → t ≡ sign → signed sign t ≡ true
true_signed true t h = h
true_signed false t h = ap not h

literals_true : (g : State) (ls : List (ℕ × Bool)) → list_all (lit_holds g) ls ≡ true → LiteralsHold g ls
literals_true g [] h = tt
literals_true g (l ∷ ls) h = let hs = and_parts _ _ h in (signed_true l.1 (g.truth l.0) hs.0, literals_true g ls hs.1)

true_literals : (g : State) (ls : List (ℕ × Bool)) → LiteralsHold g ls → list_all (lit_holds g) ls ≡ true
true_literals g [] h = refl
true_literals g (l ∷ ls) h = and_from _ _ (true_signed l.1 (g.truth l.0) h.0) (true_literals g ls h.1)

comparisons_true : (g : State) (cs : List (Linear × Cmp)) → list_all (cmp_holds g) cs ≡ true → ComparisonsHold g cs
comparisons_true g [] h = tt
comparisons_true g (c ∷ cs) h = let hs = and_parts _ _ h in (against_true c.1 (value_of g.value c.0) hs.0, comparisons_true g cs hs.1)

true_comparisons : (g : State) (cs : List (Linear × Cmp)) → ComparisonsHold g cs → list_all (cmp_holds g) cs ≡ true
true_comparisons g [] h = refl
true_comparisons g (c ∷ cs) h = and_from _ _ (true_against c.1 (value_of g.value c.0) h.0) (true_comparisons g cs h.1)

pub ready_holds : (a : GAction) (g : State) → ready a g ≡ true → Holds a g
ready_holds a g h = let hs = and_parts _ _ h in record { literals = literals_true g a.lits hs.0; comparisons = comparisons_true g a.cmps hs.1 }

pub holds_ready : (a : GAction) (g : State) → Holds a g → ready a g ≡ true
holds_ready a g h = and_from _ _ (true_literals g a.lits h.literals) (true_comparisons g a.cmps h.comparisons)
