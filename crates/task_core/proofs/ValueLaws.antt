-- Which functions have a value: those that an action reads where it holds, and those that had one before a step.
use Rattle.std.proofs.Common.{◌≡◌, ℕ, zero, suc, ◌<◌, Bool, true, false, ◌&&◌, cond, inl, inr, List, [], ◌∷◌, length, Option, Some, None, refl, nat_eq, slice_index_or, arith}
use Rattle.std.specs.List.{list_any}
use Rattle.std.proofs.lemmas.Bool.{and_parts, or_cases, or_left, or_right, eqb-true, eq-eqb}
use Rattle.task_core.specs.declared.action.GAction.{GAction}
use Rattle.task_core.specs.State.{State}
use Rattle.task_core.specs.Step.{LiteralsHold, is_in, after}
use Rattle.task_core.specs.Task.{GroundParts, value_atom, is_valued, has_value, read_by, IsDefined, IsActionOf}

-- ---- elements and tests

in_at : (xs : List ℕ) (n d : ℕ) → n < length xs → is_in (slice_index_or xs n d) xs ≡ true
in_at [] n d h = absurd (omega arith)
in_at (x ∷ xs) zero d h = or_left (nat_eq x x) (is_in x xs) (eq-eqb x x refl)
in_at (x ∷ xs) (suc n) d h = or_right (nat_eq x (slice_index_or xs n d)) _ (in_at xs n d (omega arith))

-- an atom that is asked for is true where the literals hold
asked-true : (s : State) (lits : List (ℕ × Bool)) (p : ℕ) → list_any (λ l. nat_eq l.0 p && l.1) lits ≡ true → LiteralsHold s lits → s.truth p ≡ true
asked-true s [] p a h = absurd (cc)
asked-true s (l ∷ more) p a h = elim (or_cases (nat_eq l.0 p && l.1) _ a) [
  | inl here ↦ (let both = and_parts (nat_eq l.0 p) l.1 here in let same = eqb-true l.0 p both.0 in let holds = h.0 in cc)
  | inr later ↦ asked-true s more p later h.1
]

-- ---- the laws

pub reads_valued : (task : GroundParts) (a : GAction) (s : State) → IsActionOf task a → LiteralsHold s a.lits → IsDefined task a s
reads_valued task a s h lits n d l = by_atom (value_atom task f) refl
  where
    f : ℕ
    f = slice_index_or (read_by a) n d

    by_atom : (o : Option ℕ) → value_atom task f ≡ o → is_valued o s ≡ true
    by_atom None e = refl
    by_atom (Some p) e = asked-true s a.lits p ((h.tells f p e).asked (in_at (read_by a) n d l)) lits

not_deleted : (x d t : Bool) → d ≡ false → t ≡ true → cond x true (cond d false t) ≡ true
not_deleted true d t h e = refl
not_deleted false true t h e = absurd (cc)
not_deleted false false t h e = e

pub value_stays : (task : GroundParts) (a : GAction) (f : ℕ) (s : State) → IsActionOf task a → has_value task s f ≡ true → has_value task (after a s) f ≡ true
value_stays task a f s h had = by_atom (value_atom task f) refl had
  where
    by_atom : (o : Option ℕ) → value_atom task f ≡ o → is_valued o s ≡ true → is_valued o (after a s) ≡ true
    by_atom None e had = refl
    by_atom (Some p) e had = not_deleted (is_in p a.adds) (is_in p a.dels) (s.truth p) (h.tells f p e).kept had
