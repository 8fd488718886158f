-- The law of rolling. What is said of a steady action holds too where it gives functions constants, which then stay.
use Rattle.std.proofs.Common.{◌≡◌, ℕ, zero, suc, ◌≤◌, Bool, true, false, not, cond, List, [], ◌∷◌, Option, Some, None, refl, sym, ap, subst, ◌∙◌}
use Rattle.std.proofs.lemmas.Bool.{and_parts}
use Rattle.std.specs.List.{list_all}
use mathlib.Core.Path.{fun_ext}
use lib.IntN.{pos}
use Rattle.algebra.proofs.Solve.{v, k, ◌⊕◌, ◌⊗◌, inv, solve, solve_from, eq, done}
use Rattle.rational.specs.Fraction.{Fraction, whole, ◌+ℚ◌, ◌*ℚ◌}
use Rattle.rational.specs.Linear.{Terms, value_at, coefficient_of}
use Rattle.rational.proofs.FieldLaws.{fraction-ring}
use Rattle.lin.specs.Linear.{Linear, value_of}
use Rattle.lin.specs.declared.comparison.Cmp.{Cmp}
use Rattle.task_core.specs.declared.action.GAction.{GAction}
use Rattle.task_core.specs.State.{State, ComparesToZero, ComparisonHolds}
use Rattle.task_core.specs.Step.{LiteralsHold, ComparisonsHold, is_in, set_of, new_value, truth_after, value_after, after, is_empty, keeps, is_rollable}
use Rattle.task_core.specs.Growth.{grown, change_of}
use Rattle.task_core.specs.Rolling.{repeated, rolled}
use Rattle.task_core.proofs.GrowthLaws.{whole-suc, value-grown, holds_between}

abbrev state : (ℕ → Bool) → (ℕ → Fraction) → State
state t w = record { truth = t; value = w }

-- states that agree everywhere are one
pub same_state : (s t : State) → ((p : ℕ) → s.truth p ≡ t.truth p) → ((f : ℕ) → s.value f ≡ t.value f) → s ≡ t
same_state s t h j = ap (λ (w : ℕ → Bool). state w s.value) (fun_ext h) ∙ ap (λ (w : ℕ → Fraction). state t.truth w) (fun_ext j)

-- ---- what a rollable action is

empty_list : {X : Type 0} (xs : List X) → is_empty xs ≡ true → xs ≡ []
empty_list [] h = refl
empty_list (x ∷ xs) h = absurd (cc)

pub rollable-no_sets : (a : GAction) → is_rollable a ≡ true → a.sets ≡ []
rollable-no_sets a r = empty_list a.sets (and_parts (is_empty a.sets) _ r).0

pub rollable-counts : (a : GAction) → is_rollable a ≡ true → not (is_empty a.incs) ≡ true
rollable-counts a r = (and_parts (not (is_empty a.incs)) _ (and_parts (is_empty a.sets) _ r).1).0

pub rollable-keeps : (a : GAction) → is_rollable a ≡ true → list_all (keeps a) a.lits ≡ true
rollable-keeps a r = (and_parts (not (is_empty a.incs)) _ (and_parts (is_empty a.sets) _ r).1).1

-- ---- truths: those after one step are those after more, and literals that are kept hold on

again : (x d t : Bool) → cond x true (cond d false (cond x true (cond d false t))) ≡ cond x true (cond d false t)
again true d t = refl
again false true t = refl
again false false t = refl

pub truth-repeated : (n : ℕ) (a : GAction) (s : State) (p : ℕ) → (repeated (suc n) a s).truth p ≡ truth_after a s p
truth-repeated zero a s p = refl
truth-repeated (suc n) a s p = truth-repeated n a (after a s) p ∙ again (is_in p a.adds) (is_in p a.dels) (s.truth p)

keeps_literal : (a : GAction) (s : State) (p : ℕ) (b : Bool) → keeps a (p, b) ≡ true → s.truth p ≡ b → truth_after a s p ≡ b
keeps_literal a s p true r h = by_tests (is_in p a.adds) (is_in p a.dels) (s.truth p) r h
  where
    by_tests : (x d t : Bool) → not d ≡ true → t ≡ true → cond x true (cond d false t) ≡ true
    by_tests true d t g e = refl
    by_tests false true t g e = absurd (cc)
    by_tests false false t g e = e
keeps_literal a s p false r h = by_tests (is_in p a.adds) (is_in p a.dels) (s.truth p) r h
  where
    by_tests : (x d t : Bool) → not x ≡ true → t ≡ false → cond x true (cond d false t) ≡ false
    by_tests true d t g e = absurd (cc)
    by_tests false true t g e = refl
    by_tests false false t g e = e

keeps_literals : (a : GAction) (s : State) (lits : List (ℕ × Bool)) → list_all (keeps a) lits ≡ true → LiteralsHold s lits → LiteralsHold (after a s) lits
keeps_literals a s [] r h = tt
keeps_literals a s (l ∷ more) r h =
    let both = and_parts (keeps a l) (list_all (keeps a) more) r in
    (keeps_literal a s l.0 l.1 both.0 h.0, keeps_literals a s more both.1 h.1)

pub literals_hold_on : (a : GAction) (s : State) (n : ℕ) → is_rollable a ≡ true → LiteralsHold s a.lits → LiteralsHold (repeated n a s) a.lits
literals_hold_on a s zero r h = h
literals_hold_on a s (suc n) r h = literals_hold_on a (after a s) n r (keeps_literals a s a.lits (rollable-keeps a r) h)

-- ---- values

-- each new value is a constant, of a function without an increment
pub IsSteady : GAction → Type 0
IsSteady a = (f : ℕ) (l : Linear) → set_of a.sets f ≡ Some l → (l.terms ≡ []) × (coefficient_of f a.incs ≡ whole (pos 0))

constant-value : (l : Linear) (old new : ℕ → Fraction) → l.terms ≡ [] → value_of new l ≡ value_of old l
constant-value l old new e =
    ap (λ (ts : Terms). value_at new ts +ℚ l.constant) e ∙ sym (ap (λ (ts : Terms). value_at old ts +ℚ l.constant) e)

next-value : (a : GAction) → IsSteady a → (s : State) (f : ℕ) → value_after a (after a s) f ≡ value_after a s f +ℚ coefficient_of f a.incs
unfolding IsSteady
next-value a h s f = by_set (set_of a.sets f) refl
  where
    by_set : (o : Option Linear) → set_of a.sets f ≡ o → new_value (after a s) a.incs f o ≡ new_value s a.incs f o +ℚ coefficient_of f a.incs
    by_set None e = ap (λ (o : Option Linear). new_value s a.incs f o +ℚ coefficient_of f a.incs) e
    by_set (Some l) e =
        let both = h f l e in
        constant-value l s.value (after a s).value both.0
        ∙ solve_from fraction-ring (v 0) (v 0 ⊕ v 1) (value_of s.value l ∷ coefficient_of f a.incs ∷ [])
        (eq (inv (k (pos 1))) (v 1) (k (pos 0)) both.1 done) refl

pub steady-value : (a : GAction) → IsSteady a → (n : ℕ) (s : State) (f : ℕ) → (repeated (suc n) a s).value f ≡ grown a.incs n (value_after a s) f
steady-value a h zero s f = solve fraction-ring (v 0) (v 0 ⊕ k (pos 0) ⊗ v 1) (value_after a s f ∷ coefficient_of f a.incs ∷ []) refl
steady-value a h (suc n) s f =
    steady-value a h n (after a s) f
    ∙ solve_from fraction-ring (v 0 ⊕ v 2 ⊗ v 1) (v 3 ⊕ v 4 ⊗ v 1)
    (value_after a (after a s) f ∷ coefficient_of f a.incs ∷ whole (pos n) ∷ value_after a s f ∷ whole (pos (suc n)) ∷ [])
    (eq (k (pos 1)) (v 0) (v 3 ⊕ v 1) (next-value a h s f) (eq (inv (v 1)) (v 4) (v 2 ⊕ k (pos 1)) (whole-suc n) done)) refl

pub steady-state : (a : GAction) → IsSteady a → (s : State) (n : ℕ) → repeated n a s ≡ rolled n a s
steady-state a h s zero = refl
steady-state a h s (suc n) = same_state (repeated (suc n) a s) (rolled (suc n) a s) (truth-repeated n a s) (steady-value a h n s)

-- what holds at the second repetition and at a later one holds between
pub steady_between : (a : GAction) → IsSteady a → (s : State) (m n : ℕ) (c : Linear × Cmp) → m ≤ n
    → ComparisonHolds (after a s) c → ComparisonHolds (repeated (suc n) a s) c → ComparisonHolds (repeated (suc m) a s) c
steady_between a h s m n c l second last =
    let value = λ (i : ℕ). fun_ext (steady-value a h i s) in
    subst (λ (w : ℕ → Fraction). ComparesToZero c.1 (value_of w c.0)) (sym (value m))
    (holds_between a.incs m n (value_after a s) c.0 c.1 l second (subst (λ (w : ℕ → Fraction). ComparesToZero c.1 (value_of w c.0)) (value n) last))

-- ---- a rollable action

pub rollable-steady : (a : GAction) → is_rollable a ≡ true → IsSteady a
unfolding IsSteady
rollable-steady a r f l e =
    let none : set_of a.sets f ≡ None = ap (λ (ss : List (ℕ × Linear)). set_of ss f) (rollable-no_sets a r) in absurd (cc)

rollable-after : (a : GAction) → is_rollable a ≡ true → (s : State) (f : ℕ) → value_after a s f ≡ s.value f +ℚ coefficient_of f a.incs
rollable-after a r s f = ap (λ (ss : List (ℕ × Linear)). new_value s a.incs f (set_of ss f)) (rollable-no_sets a r)

pub rollable-value : (a : GAction) → is_rollable a ≡ true → (n : ℕ) (s : State) (f : ℕ) → (repeated n a s).value f ≡ grown a.incs n s.value f
rollable-value a r zero s f = solve fraction-ring (v 0) (v 0 ⊕ k (pos 0) ⊗ v 1) (s.value f ∷ coefficient_of f a.incs ∷ []) refl
rollable-value a r (suc n) s f =
    steady-value a (rollable-steady a r) n s f
    ∙ solve_from fraction-ring (v 0 ⊕ v 2 ⊗ v 1) (v 3 ⊕ v 4 ⊗ v 1)
    (value_after a s f ∷ coefficient_of f a.incs ∷ whole (pos n) ∷ s.value f ∷ whole (pos (suc n)) ∷ [])
    (eq (k (pos 1)) (v 0) (v 3 ⊕ v 1) (rollable-after a r s f) (eq (inv (v 1)) (v 4) (v 2 ⊕ k (pos 1)) (whole-suc n) done)) refl

-- the value of an expression after n repetitions
pub rollable-expression : (a : GAction) → is_rollable a ≡ true → (n : ℕ) (s : State) (l : Linear)
    → value_of (repeated n a s).value l ≡ value_of s.value l +ℚ whole (pos n) *ℚ change_of a.incs l.terms
rollable-expression a r n s l = ap (λ (w : ℕ → Fraction). value_of w l) (fun_ext (rollable-value a r n s)) ∙ value-grown a.incs n s.value l

pub comparison_between : (a : GAction) (s : State) (m n : ℕ) (c : Linear × Cmp) → is_rollable a ≡ true → m ≤ n
    → ComparisonHolds s c → ComparisonHolds (repeated n a s) c → ComparisonHolds (repeated m a s) c
comparison_between a s m n c r l first last =
    let value = λ (i : ℕ). fun_ext (rollable-value a r i s) in
    subst (λ (w : ℕ → Fraction). ComparesToZero c.1 (value_of w c.0)) (sym (value m))
    (holds_between a.incs m n s.value c.0 c.1 l first (subst (λ (w : ℕ → Fraction). ComparesToZero c.1 (value_of w c.0)) (value n) last))

pub comparisons_between : (a : GAction) (s : State) (m n : ℕ) (cmps : List (Linear × Cmp)) → is_rollable a ≡ true → m ≤ n
    → ComparisonsHold s cmps → ComparisonsHold (repeated n a s) cmps → ComparisonsHold (repeated m a s) cmps
comparisons_between a s m n [] r l first last = tt
comparisons_between a s m n (c ∷ more) r l first last = (
  comparison_between a s m n c r l first.0 last.0,
  comparisons_between a s m n more r l first.1 last.1,
)

pub rolling-state : (a : GAction) (s : State) (n : ℕ) → is_rollable a ≡ true → repeated n a s ≡ rolled n a s
rolling-state a s n r = steady-state a (rollable-steady a r) s n
