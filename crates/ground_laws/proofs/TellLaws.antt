-- The atoms 'has a value' are the propositions behind the atoms.
use Rattle.std.proofs.Common.{◌≡◌, ℕ, zero, suc, ◌+◌, ◌-◌, ◌≤◌, false, not, cond, List, [], ◌∷◌, ◌++◌, map, length, length-append, Option, Some, None, refl, sym, ap, ap₂, ◌∙◌, arith}
use Rattle.std.specs.Prelude.{slice_get, is_some}
use Rattle.std.specs.Option.{option_map}
use Rattle.std.proofs.lemmas.Option.{slice_get-map, get_or_from_slice_get}
use Rattle.std.proofs.lemmas.List.{length-map}
use Rattle.rational.specs.Fraction.{Fraction}
use Rattle.plan_step.specs.State.{PlanState}
use Rattle.task_core.specs.declared.action.GAction.{GAction}
use Rattle.task_core.specs.Task as core
use Rattle.task_core.specs.Task.{GroundParts, value_atom_from, value_atom, start}
use Rattle.pddl_task.specs.declared.parts.TaskParts.{TaskParts}
use Rattle.ground_numbers.specs.declared.named.Named.{Named}
use Rattle.ground_action.specs.Setting.{Setting, atom, valued, missing, setting_from, value_in, truth_in}
use Rattle.ground_laws.specs.Result.{parts_in}

module _ (begin : PlanState) where
  missing_is : (fs : List Named) → core.missing (map (value_in begin) fs) ≡ length (missing begin fs)
  missing_is [] = refl
  missing_is (f ∷ fs) = by (value_in begin f) (missing_is fs)
    where
      by : (o : Option Fraction) → core.missing (map (value_in begin) fs) ≡ length (missing begin fs) → core.missing (o ∷ map (value_in begin) fs) ≡ length (cond (not (is_some o)) (f ∷ missing begin fs) (missing begin fs))
      by None ih = ap suc ih
      by (Some x) ih = ih

  -- the function without a value, and its place among such functions
  record IsMissing (p q : ℕ) (fs : List Named) (n : ℕ) : Type 0 where
    func : Named
    place : ℕ
    at : slice_get fs n ≡ Some func
    rank : slice_get (missing begin fs) place ≡ Some func
    number : q ≡ p + place
    none : is_some (value_in begin func) ≡ false

  missing_at : (p q : ℕ) (fs : List Named) (n : ℕ) → value_atom_from p (map (value_in begin) fs) n ≡ Some q → IsMissing p q fs n
  missing_at p q [] n e = absurd (cc)
  missing_at p q (f ∷ fs) zero e = by (value_in begin f) refl e
    where
      by : (o : Option Fraction) → value_in begin f ≡ o → value_atom_from p (o ∷ map (value_in begin) fs) zero ≡ Some q → IsMissing p q (f ∷ fs) zero
      by None v e =
          let is : p ≡ q = cc in
          record {
            func = f;
            place = zero;
            at = refl;
            rank = ap (λ o. slice_get (cond (not (is_some o)) (f ∷ missing begin fs) (missing begin fs)) zero) v;
            number = sym is ∙ plus_zero p;
            none = ap is_some v;
          }
        where
          plus_zero : (m : ℕ) → m ≡ m + zero
          plus_zero m = omega arith
      by (Some x) v e = absurd (cc)
  missing_at p q (f ∷ fs) (suc n) e = by (value_in begin f) refl e (λ g. missing_at (suc p) q fs n g) (λ g. missing_at p q fs n g)
    where
      by : (o : Option Fraction) → value_in begin f ≡ o → value_atom_from p (o ∷ map (value_in begin) fs) (suc n) ≡ Some q
          → (value_atom_from (suc p) (map (value_in begin) fs) n ≡ Some q → IsMissing (suc p) q fs n) → (value_atom_from p (map (value_in begin) fs) n ≡ Some q → IsMissing p q fs n) → IsMissing p q (f ∷ fs) (suc n)
      by None v e next same =
          let ih = next e in
          record {
            func = ih.func;
            place = suc ih.place;
            at = ih.at;
            rank = ap (λ o. slice_get (cond (not (is_some o)) (f ∷ missing begin fs) (missing begin fs)) (suc ih.place)) v ∙ ih.rank;
            number = ih.number ∙ shift p ih.place;
            none = ih.none;
          }
        where
          shift : (m i : ℕ) → suc m + i ≡ m + suc i
          shift m i = omega arith
      by (Some x) v e next same =
          let ih = same e in
          record {
            func = ih.func;
            place = ih.place;
            at = ih.at;
            rank = ap (λ o. slice_get (cond (not (is_some o)) (f ∷ missing begin fs) (missing begin fs)) ih.place) v ∙ ih.rank;
            number = ih.number;
            none = ih.none;
          }

behind : {A : Type 0} (xs ys : List A) (i : ℕ) → slice_get (xs ++ ys) (length xs + i) ≡ slice_get ys i
behind [] ys i = ap (slice_get ys) (zero_front i)
  where
    zero_front : (j : ℕ) → 0 + j ≡ j
    zero_front j = omega arith
behind (x ∷ xs) ys i = ap (slice_get (x ∷ (xs ++ ys))) (step (length xs) i) ∙ behind xs ys i
  where
    step : (m j : ℕ) → suc m + j ≡ suc (m + j)
    step m j = omega arith

module _ (task : TaskParts) (begin : PlanState) (atoms funcs : List Named) (actions : List GAction) (goal : GAction) where
  abbrev set : Setting
  set = setting_from task begin atoms funcs

  abbrev parts : GroundParts
  parts = parts_in (setting_from task begin atoms funcs) actions goal

  atoms_counted : length parts.atoms ≡ length atoms + length (missing begin funcs)
  atoms_counted =
      length-map (map atom atoms ++ map valued (missing begin funcs)) (truth_in begin)
      ∙ length-append (map atom atoms) (map valued (missing begin funcs))
      ∙ ap₂ ◌+◌ (length-map atoms atom) (length-map (missing begin funcs) valued)

  first_is : length parts.atoms - core.missing parts.funcs ≡ length atoms
  first_is = ap₂ ◌-◌ atoms_counted (missing_is begin funcs) ∙ cut (length atoms) (length (missing begin funcs))
    where
      cut : (m n : ℕ) → (m + n) - n ≡ m
      cut m n = omega arith

  -- the atom 'has a value' of a function
  pub record IsValueAtom (f p : ℕ) : Type 0 where
    pub func : Named
    pub at : slice_get funcs f ≡ Some func
    pub proposition : slice_get set.propositions p ≡ Some (valued func)
    pub none : is_some (value_in begin func) ≡ false

  pub value_atom_is : (f p : ℕ) → value_atom parts f ≡ Some p → IsValueAtom f p
  value_atom_is f p e =
      let m = missing_at begin (length atoms) p funcs f (sym (ap (λ n. value_atom_from n (map (value_in begin) funcs) f) first_is) ∙ e) in
      record {
        func = m.func;
        at = m.at;
        proposition =
            ap (slice_get (map atom atoms ++ map valued (missing begin funcs))) (m.number ∙ ap (λ n. n + m.place) (sym (length-map atoms atom)))
            ∙ behind (map atom atoms) (map valued (missing begin funcs)) m.place
            ∙ slice_get-map valued (missing begin funcs) m.place ∙ ap (option_map valued) m.rank;
        none = m.none;
      }

  pub value_atoms_fit : core.missing parts.funcs ≤ length parts.atoms
  value_atoms_fit = fit _ _ _ _ (missing_is begin funcs) atoms_counted
    where
      fit : (a b m n : ℕ) → a ≡ m → b ≡ n + m → a ≤ b
      fit a b m n e f = omega arith

  pub value_atoms_false : (f p : ℕ) → value_atom parts f ≡ Some p → (start parts).truth p ≡ false
  value_atoms_false f p e =
      let v = value_atom_is f p e in
      get_or_from_slice_get (map (truth_in begin) set.propositions) p (is_some (value_in begin v.func)) false
      (slice_get-map (truth_in begin) set.propositions p ∙ ap (option_map (truth_in begin)) v.proposition)
      ∙ v.none
