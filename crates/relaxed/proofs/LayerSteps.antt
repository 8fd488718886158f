-- What is kept is the layer: at the start, and in each next one.
use Rattle.task_core.specs.Step.{is_in}
use Rattle.task_core.specs.Task.{GroundParts, value_at_start, start, missing, value_atom, is_valued, has_value, IsGroundTask, value_atom_from}
use Rattle.relaxed.specs.declared.interval.Interval.{Interval}
use Rattle.relaxed.specs.Interval.{point}
use Rattle.relaxed.specs.Layers.{Layer, first_layer, is_supported, widened, next_layer}
use Rattle.relaxed.specs.inside.Kept.{interval_in, layer_of, IsSized}
use Rattle.relaxed.specs.declared.table.Table.{Table}
use Rattle.relaxed.specs.inside.Nexting.{KeepsSizes, WidensByAll}
use Rattle.relaxed.specs.inside.Starting.{IsStart}
use Rattle.std.proofs.Common.{◌≡◌, ℕ, zero, suc, ◌-◌, ◌<◌, ◌≤◌, Bool, true, false, not, cond, ◌||◌, ◌&&◌, List, [], ◌∷◌, length, refl, sym, ap, ◌∙◌, ◌⊎◌, inl, inr, Option, Some, None, unwrap_or, slice_index_or, arith}
use Rattle.std.specs.List.{list_any}
use Rattle.std.specs.Option.{option_map}
use Rattle.std.proofs.lemmas.Bool.{cases_lt}
use Rattle.std.proofs.lemmas.List.{get_or_past}
use mathlib.Core.Path.{fun_ext}
use lib.IntN.{pos}
use Rattle.rational.specs.Fraction.{Fraction, whole}
use Rattle.relaxed.proofs.Numbered.{actions_in_range}
use Rattle.relaxed.proofs.Stops.{no-adds, no-dels, no-reach}

abbrev parts : (ℕ → Bool) → (ℕ → Bool) → (ℕ → Option Interval) → Layer
parts t f i = record { may_be_true = t; may_be_false = f; interval = i }

-- layers that agree everywhere are one
same_layer : (y z : Layer) → ((p : ℕ) → y.may_be_true p ≡ z.may_be_true p) → ((p : ℕ) → y.may_be_false p ≡ z.may_be_false p)
    → ((f : ℕ) → y.interval f ≡ z.interval f) → y ≡ z
same_layer y z t f i =
    ap (λ (w : ℕ → Bool). parts w y.may_be_false y.interval) (fun_ext t)
    ∙ ap (λ (w : ℕ → Bool). parts z.may_be_true w y.interval) (fun_ext f)
    ∙ ap (λ (w : ℕ → Option Interval). parts z.may_be_true z.may_be_false w) (fun_ext i)

-- within a list it doesn't matter what stands beyond it
within : {X : Type 0} (xs : List X) (n : ℕ) (d e : X) → n < length xs → slice_index_or xs n d ≡ slice_index_or xs n e
within [] n d e l = absurd (omega arith)
within (x ∷ xs) zero d e l = refl
within (x ∷ xs) (suc n) d e l = within xs n d e (omega arith)

-- ---- the start

-- a function has an atom 'has a value' exactly where it has no value at the start
atom-none : (fs : List (Option Fraction)) (p f : ℕ) (x : Fraction) → slice_index_or fs f None ≡ Some x → value_atom_from p fs f ≡ None
atom-none [] p f x e = absurd (cc)
atom-none (None ∷ fs) p zero x e = absurd (cc)
atom-none (None ∷ fs) p (suc f) x e = atom-none fs (suc p) f x e
atom-none (Some z ∷ fs) p zero x e = refl
atom-none (Some z ∷ fs) p (suc f) x e = atom-none fs p f x e

atom-past : (fs : List (Option Fraction)) (p f : ℕ) → length fs ≤ f → value_atom_from p fs f ≡ None
atom-past [] p f l = refl
atom-past (None ∷ fs) p zero l = absurd (omega arith)
atom-past (None ∷ fs) p (suc f) l = atom-past fs (suc p) f (omega arith)
atom-past (Some z ∷ fs) p zero l = absurd (omega arith)
atom-past (Some z ∷ fs) p (suc f) l = atom-past fs p f (omega arith)

atom-some : (fs : List (Option Fraction)) (p f : ℕ) → f < length fs → slice_index_or fs f None ≡ None → (q : ℕ) × (value_atom_from p fs f ≡ Some q)
atom-some [] p f l e = absurd (omega arith)
atom-some (None ∷ fs) p zero l e = (p, refl)
atom-some (None ∷ fs) p (suc f) l e = atom-some fs (suc p) f (omega arith) e
atom-some (Some z ∷ fs) p zero l e = absurd (cc)
atom-some (Some z ∷ fs) p (suc f) l e = atom-some fs p f (omega arith) e

module _ (task : GroundParts) (promised : IsGroundTask task) where
  interval-start : (f : ℕ) → f < length task.funcs → (first_layer task).interval f ≡ option_map point (value_at_start task f)
  interval-start f l = by_value (value_at_start task f) refl
    where
      by_atom : (o : Option ℕ) → value_atom task f ≡ o → is_valued o (start task) ≡ has_value task (start task) f
      by_atom o e = sym (ap (λ (a : Option ℕ). is_valued a (start task)) e)

      by_value : (v : Option Fraction) → value_at_start task f ≡ v
          → cond (has_value task (start task) f) (Some (point (unwrap_or (value_at_start task f) (whole (pos 0))))) None ≡ option_map point (value_at_start task f)
      by_value (Some x) e =
          let there : has_value task (start task) f ≡ true = sym (by_atom None (atom-none task.funcs (length task.atoms - missing task.funcs) f x e)) in
          ap (λ b. cond b (Some (point (unwrap_or (value_at_start task f) (whole (pos 0))))) None) there
          ∙ ap (λ (v : Option Fraction). Some (point (unwrap_or v (whole (pos 0))))) e ∙ sym (ap (option_map point) e)
      by_value None e =
          let q = atom-some task.funcs (length task.atoms - missing task.funcs) f l e in
          let gone : has_value task (start task) f ≡ false = sym (by_atom (Some q.0) q.1) ∙ promised.value_atoms_false f q.0 q.1 in
          ap (λ b. cond b (Some (point (unwrap_or (value_at_start task f) (whole (pos 0))))) None) gone ∙ sym (ap (option_map point) e)

  interval-past : (f : ℕ) → length task.funcs ≤ f → (first_layer task).interval f ≡ Some (point (whole (pos 0)))
  interval-past f l =
      let there : has_value task (start task) f ≡ true = ap (λ (a : Option ℕ). is_valued a (start task)) (atom-past task.funcs (length task.atoms - missing task.funcs) f l) in
      ap (λ b. cond b (Some (point (unwrap_or (value_at_start task f) (whole (pos 0))))) None) there
      ∙ ap (λ (v : Option Fraction). Some (point (unwrap_or v (whole (pos 0))))) (get_or_past task.funcs f None l)

  pub start-sized : (t : Table) → IsStart task t → IsSized task t
  start-sized t h = record { true_size = h.true_flags.size; false_size = h.false_flags.size; interval_size = h.start_intervals.size }

  pub start-is : (t : Table) → IsStart task t → layer_of t ≡ first_layer task
  start-is t h = same_layer (layer_of t) (first_layer task) (λ p. true_at p (cases_lt p (length task.atoms))) (λ p. false_at p (cases_lt p (length task.atoms)))
      (λ f. interval_at f (cases_lt f (length task.funcs)))
    where
      true_at : (p : ℕ) → (p < length task.atoms) ⊎ (length task.atoms ≤ p) → slice_index_or t.may_be_true p false ≡ slice_index_or task.atoms p false
      true_at p (inl l) = h.true_flags.each p l
      true_at p (inr l) = let size = h.true_flags.size in get_or_past t.may_be_true p false (omega arith) ∙ sym (get_or_past task.atoms p false l)

      false_at : (p : ℕ) → (p < length task.atoms) ⊎ (length task.atoms ≤ p) → slice_index_or t.may_be_false p true ≡ not (slice_index_or task.atoms p false)
      false_at p (inl l) = let size = h.false_flags.size in within t.may_be_false p true false (omega arith) ∙ h.false_flags.each p l
      false_at p (inr l) = let size = h.false_flags.size in get_or_past t.may_be_false p true (omega arith) ∙ sym (ap not (get_or_past task.atoms p false l))

      interval_at : (f : ℕ) → (f < length task.funcs) ⊎ (length task.funcs ≤ f) → interval_in t.intervals f ≡ (first_layer task).interval f
      interval_at f (inl l) = h.start_intervals.each f l ∙ sym (interval-start f l)
      interval_at f (inr l) = let size = h.start_intervals.size in get_or_past t.intervals f (Some (point (whole (pos 0)))) (omega arith) ∙ sym (interval-past f l)

  -- ---- the next layer
  pub next-sized : (t u : Table) → IsSized task t → KeepsSizes t u → IsSized task u
  next-sized t u s k = record { true_size = k.true_size ∙ s.true_size; false_size = k.false_size ∙ s.false_size; interval_size = k.interval_size ∙ s.interval_size }

  pub next-is : (t u : Table) → IsSized task t → WidensByAll (layer_of t) task.actions t u → layer_of u ≡ next_layer task (layer_of t)
  next-is t u s w = same_layer (layer_of u) (next_layer task (layer_of t)) (λ p. true_at p (cases_lt p (length task.atoms))) (λ p. false_at p (cases_lt p (length task.atoms)))
      (λ f. interval_at f (cases_lt f (length task.funcs)))
    where
      or-false : (b c : Bool) → c ≡ false → b ≡ (b || c)
      or-false true c e = refl
      or-false false c e = sym e

      true_at : (p : ℕ) → (p < length task.atoms) ⊎ (length task.atoms ≤ p)
          → slice_index_or u.may_be_true p false ≡ (slice_index_or t.may_be_true p false || list_any (λ a. is_supported (layer_of t) a && is_in p a.adds) task.actions)
      true_at p (inl l) = let size = s.true_size in w.true_each p (omega arith)
      true_at p (inr l) =
          let size = s.true_size in let kept = w.sizes.true_size in
          get_or_past u.may_be_true p false (omega arith) ∙ sym (get_or_past t.may_be_true p false (omega arith))
          ∙ or-false (slice_index_or t.may_be_true p false) _ (no-adds task (length task.atoms) (length task.funcs) (layer_of t) p l task.actions (actions_in_range task promised))

      false_at : (p : ℕ) → (p < length task.atoms) ⊎ (length task.atoms ≤ p)
          → slice_index_or u.may_be_false p true ≡ (slice_index_or t.may_be_false p true || list_any (λ a. is_supported (layer_of t) a && is_in p a.dels) task.actions)
      false_at p (inl l) =
          let size = s.false_size in let kept = w.sizes.false_size in
          within u.may_be_false p true false (omega arith) ∙ w.false_each p (omega arith)
          ∙ ap (λ b. b || list_any (λ a. is_supported (layer_of t) a && is_in p a.dels) task.actions) (within t.may_be_false p false true (omega arith))
      false_at p (inr l) =
          let size = s.false_size in let kept = w.sizes.false_size in
          get_or_past u.may_be_false p true (omega arith) ∙ sym (get_or_past t.may_be_false p true (omega arith))
          ∙ or-false (slice_index_or t.may_be_false p true) _ (no-dels task (length task.atoms) (length task.funcs) (layer_of t) p l task.actions (actions_in_range task promised))

      interval_at : (f : ℕ) → (f < length task.funcs) ⊎ (length task.funcs ≤ f) → interval_in u.intervals f ≡ widened (layer_of t) f task.actions (interval_in t.intervals f)
      interval_at f (inl l) = let size = s.interval_size in w.interval_each f (omega arith)
      interval_at f (inr l) =
          let size = s.interval_size in let kept = w.sizes.interval_size in
          get_or_past u.intervals f (Some (point (whole (pos 0)))) (omega arith) ∙ sym (get_or_past t.intervals f (Some (point (whole (pos 0)))) (omega arith))
          ∙ sym (no-reach task (length task.atoms) (length task.funcs) (layer_of t) f l task.actions (interval_in t.intervals f) (actions_in_range task promised))
