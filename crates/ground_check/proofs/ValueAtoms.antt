-- The atoms 'has a value' one after the other.
use Rattle.std.proofs.Common.{◌≡◌, ◌≢◌, ℕ, zero, suc, ◌+◌, ◌-◌, ◌≤◌, Bool, false, List, [], ◌∷◌, length, length-drop, take, drop, get_or-drop, slice_index_or, Option, Some, None, arith, sym, subst, refl, ◌∙◌}
use Rattle.std.proofs.lemmas.List.{drop_all}
use Rattle.std.proofs.lemmas.List.Elements.{All-tail}
use Rattle.std.specs.List.{All}
use Rattle.rational.specs.Fraction.{Fraction}
use Rattle.task_core.specs.declared.action.GAction.{GAction}
use Rattle.task_core.specs.Step.{is_in}
use Rattle.task_core.specs.Task.{variables, read_by, GroundParts, value_atom_from, TellsOf, IsActionOf}
use Rattle.ground_check.specs.inside.Parts.{IsActionIn}
use Rattle.ground_check.proofs.Parts.{all_read, taken_whole}
use Rattle.ground_check.proofs.Amounts.{not_in}

pub not_read : (a : GAction) (f : ℕ) → All (λ c. All (λ g. g ≢ f) (variables c.0)) a.cmps → All (λ s. All (λ g. g ≢ f) (variables s.1)) a.sets
    → All (λ i. i.0 ≢ f) a.incs → is_in f (read_by a) ≡ false
not_read a f cs ss is = not_in f (read_by a) (all_read (λ g. g ≢ f) a cs ss is)

-- the action tells of each function of the list, of which the first has the number f and the first value atom is p
abbrev pub TellsFrom : GAction → ℕ → ℕ → List (Option Fraction) → Type 0
TellsFrom a p f [] = Unit {0}
TellsFrom a p f (None ∷ more) = TellsOf f p a × TellsFrom a (suc p) (suc f) more
TellsFrom a p f (Some x ∷ more) = TellsFrom a p (suc f) more

tells_at : (a : GAction) (p k : ℕ) (funcs : List (Option Fraction)) → TellsFrom a p k funcs → (f q m : ℕ) → value_atom_from p funcs f ≡ Some q
    → m ≡ k + f → TellsOf m q a
tells_at a p k [] h f q m e s = absurd (cc)
tells_at a p k (None ∷ more) h zero q m e s = let here : k ≡ m = omega arith in let atom : p ≡ q = cc in subst (λ n. TellsOf n q a) here (subst (λ r. TellsOf k r a) atom h.0)
tells_at a p k (None ∷ more) h (suc f) q m e s = tells_at a (suc p) (suc k) more h.1 f q m e (omega arith)
tells_at a p k (Some x ∷ more) h zero q m e s = absurd (cc)
tells_at a p k (Some x ∷ more) h (suc f) q m e s = tells_at a p (suc k) more h f q m e (omega arith)

pub tells_from : (a : GAction) (p : ℕ) (funcs : List (Option Fraction)) → TellsFrom a p 0 funcs → (f q : ℕ) → value_atom_from p funcs f ≡ Some q → TellsOf f q a
tells_from a p funcs h f q e = tells_at a p 0 funcs h f q f e (omega arith)

-- each of these atoms is at or behind the first
pub not_before : (p : ℕ) (funcs : List (Option Fraction)) (f q : ℕ) → value_atom_from p funcs f ≡ Some q → p ≤ q
not_before p [] f q e = absurd (cc)
not_before p (None ∷ more) zero q e = let same : p ≡ q = cc in omega arith
not_before p (None ∷ more) (suc f) q e = let later = not_before (suc p) more f q e in omega arith
not_before p (Some x ∷ more) zero q e = absurd (cc)
not_before p (Some x ∷ more) (suc f) q e = not_before p more f q e

pub nothing_left : (a : GAction) (p k n : ℕ) (funcs : List (Option Fraction)) → length funcs ≤ n → TellsFrom a p k (drop n funcs)
nothing_left a p k n funcs h = subst (TellsFrom a p k) (sym (drop_all n funcs h)) tt

all_default : (ts : List Bool) (i : ℕ) → All (λ t. t ≡ false) ts → slice_index_or ts i false ≡ false
all_default [] i h = refl
all_default (t ∷ ts) zero h = h 0 t (omega arith)
all_default (t ∷ ts) (suc i) h = all_default ts i (All-tail (λ t. t ≡ false) t ts h)

pub false_behind : (atoms : List Bool) (first p : ℕ) → All (λ t. t ≡ false) (take (length atoms - first) (drop first atoms)) → first ≤ p
    → slice_index_or atoms p false ≡ false
false_behind atoms first p few behind =
    let place : first + (p - first) ≡ p = omega arith in
    let size : length (drop first atoms) ≤ length atoms - first = omega (arith, length-drop first atoms) in
    let h : All (λ t. t ≡ false) (drop first atoms) = taken_whole (λ t. t ≡ false) (drop first atoms) (length atoms - first) size few in
    subst (λ n. slice_index_or atoms n false ≡ false) place (sym (get_or-drop first atoms (p - first) false) ∙ all_default (drop first atoms) (p - first) h)

-- what an action has to be is told by the atoms and the functions alone
pub in_task : (task : GroundParts) (a : GAction) → IsActionIn task.atoms task.funcs a → IsActionOf task a
in_task task a h = record {
  numbered = record { lits = h.numbered.lits; adds = h.numbered.adds; dels = h.numbered.dels; reads = h.numbered.reads; sets = h.numbered.sets };
  orderly = h.orderly;
  tells = h.tells;
}
