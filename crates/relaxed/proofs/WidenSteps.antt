-- Making a layer wider, change by change.
use Rattle.std.proofs.Common.{◌≡◌, ◌≢◌, ℕ, ◌+◌, ◌<◌, ◌≤◌, Bool, true, false, cond, ◌||◌, List, length, drop, refl, sym, ap, subst, ◌∙◌, nat_eq, Option, Some, slice_index_or, slice_set}
use Rattle.std.specs.Prelude.{slice_get}
use Rattle.std.proofs.Common.{get_or-set_other, get_or-set_same}
use Rattle.std.proofs.lemmas.Bool.{eqb-true, eqb-false}
use Rattle.rational.specs.Fraction.{Fraction}
use Rattle.rational.specs.Linear.{Terms}
use Rattle.task_core.specs.Step.{is_in}
use Rattle.lin.specs.Linear.{Linear}
use Rattle.relaxed.specs.declared.interval.Interval.{Interval}
use Rattle.relaxed.specs.Interval.{hull}
use Rattle.relaxed.specs.Layers.{Layer, reached_by_amount}
use Rattle.relaxed.specs.inside.Widening.{by_amounts, value_reached, by_values}
use Rattle.relaxed.proofs.Dropping.{drop_next, drop_none}

-- ---- a list with one place set

pub set_reads : {X : Type 0} (xs : List X) (i k : ℕ) (x d : X) → i < length xs → slice_index_or (slice_set xs i x) k d ≡ cond (nat_eq i k) x (slice_index_or xs k d)
set_reads xs i k x d h = by_test (nat_eq i k) refl
  where
    by_test : (b : Bool) → nat_eq i k ≡ b → slice_index_or (slice_set xs i x) k d ≡ cond b x (slice_index_or xs k d)
    by_test true e =
        let same : i ≡ k = eqb-true i k e in
        subst (λ (m : ℕ). slice_index_or (slice_set xs i x) m d ≡ x) same (rw get_or-set_same)
    by_test false e = let apart : k ≢ i = (λ j. eqb-false i k e (sym j)) in rw get_or-set_other

-- ---- atoms one after the other

or-assoc : (x y z : Bool) → ((x || y) || z) ≡ (x || (y || z))
or-assoc true y z = refl
or-assoc false y z = refl

-- with the flag of atom p set, and the atoms behind it to come
pub mark-next : (atoms : List ℕ) (i p k : ℕ) (old new : Bool) → slice_get atoms i ≡ Some p → new ≡ (old || nat_eq p k)
    → (new || is_in k (drop (i + 1) atoms)) ≡ (old || is_in k (drop i atoms))
mark-next atoms i p k old new e n =
    ap (λ b. b || is_in k (drop (i + 1) atoms)) n ∙ or-assoc old (nat_eq p k) (is_in k (drop (i + 1) atoms))
    ∙ sym (ap (λ (ps : List ℕ). old || is_in k ps) (drop_next atoms i p e))

pub mark-end : (atoms : List ℕ) (i k : ℕ) (b : Bool) → length atoms ≤ i → (b || is_in k (drop i atoms)) ≡ b
mark-end atoms i k b h = ap (λ (ps : List ℕ). b || is_in k ps) (drop_none atoms i h) ∙ or-false b
  where
    or-false : (b : Bool) → (b || false) ≡ b
    or-false true = refl
    or-false false = refl

-- ---- changes one after the other

pub amounts-next : (y : ℕ → Option Interval) (incs : Terms) (i k : ℕ) (t : ℕ × Fraction) (old new : Option Interval) → slice_get incs i ≡ Some t
    → new ≡ cond (nat_eq t.0 k) (hull old (reached_by_amount t.1 (y t.0))) old → by_amounts y (drop (i + 1) incs) k new ≡ by_amounts y (drop i incs) k old
amounts-next y incs i k t old new e n =
    ap (λ (o : Option Interval). by_amounts y (drop (i + 1) incs) k o) n ∙ sym (ap (λ (ts : Terms). by_amounts y ts k old) (drop_next incs i t e))

pub amounts-end : (y : ℕ → Option Interval) (incs : Terms) (i k : ℕ) (o : Option Interval) → length incs ≤ i → by_amounts y (drop i incs) k o ≡ o
amounts-end y incs i k o h = ap (λ (ts : Terms). by_amounts y ts k o) (drop_none incs i h)

pub values-next : (y : Layer) (sets : List (ℕ × Linear)) (i k : ℕ) (s : ℕ × Linear) (old new : Option Interval) → slice_get sets i ≡ Some s
    → new ≡ cond (nat_eq s.0 k) (hull old (Some (value_reached y s))) old → by_values y (drop (i + 1) sets) k new ≡ by_values y (drop i sets) k old
values-next y sets i k s old new e n =
    ap (λ (o : Option Interval). by_values y (drop (i + 1) sets) k o) n ∙ sym (ap (λ (ss : List (ℕ × Linear)). by_values y ss k old) (drop_next sets i s e))

pub values-end : (y : Layer) (sets : List (ℕ × Linear)) (i k : ℕ) (o : Option Interval) → length sets ≤ i → by_values y (drop i sets) k o ≡ o
values-end y sets i k o h = ap (λ (ss : List (ℕ × Linear)). by_values y ss k o) (drop_none sets i h)
