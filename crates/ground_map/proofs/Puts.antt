-- For callers: what a put value leaves at its own place, and elsewhere.
use Rattle.std.proofs.Common.{◌≡◌, ◌≢◌, ℕ, Bool, true, false, cond, ◌==◌, ◌&&◌, List, Some, IsSome, refl, sym, ap, subst, ◌∙◌, arith}
use Rattle.std.proofs.lemmas.Bool.Decides.{nat_tests}
use Rattle.std.specs.Cmp.Lexicographic.{bytes_decides, nat_list_eq_equiv}
use Rattle.ground_map.specs.GroundMap.{same_args, value_at, IsPut}

module _ {V : Type 0} (old new : List (List (List ℕ × V))) (head : ℕ) (args : List ℕ) (value : V) (put : IsPut old new head args value) where
  -- the value is there
  pub value_at-put : value_at new head args ≡ Some value
  value_at-put =
      let own : (head == head) ≡ true = grind (arith, nat_tests) in
      put.values head args ∙ ap (λ b. cond (b && same_args args args) (Some value) (value_at old head args)) own
      ∙ ap (λ b. cond b (Some value) (value_at old head args)) (nat_list_eq_equiv.refl args)

  -- other heads keep their values
  pub value_at-other_head : (h : ℕ) (xs : List ℕ) → h ≢ head → value_at new h xs ≡ value_at old h xs
  value_at-other_head h xs other =
      let differs : (h == head) ≡ false = grind (arith, nat_tests) in
      put.values h xs ∙ ap (λ b. cond (b && same_args xs args) (Some value) (value_at old h xs)) differs

  -- other arguments keep their values
  pub value_at-other_args : (h : ℕ) (xs : List ℕ) → xs ≢ args → value_at new h xs ≡ value_at old h xs
  value_at-other_args h xs other = put.values h xs ∙ unchanged (h == head) (same_args xs args) (λ e. other ((bytes_decides xs args).0 e))
    where
      unchanged : (a b : Bool) → (b ≡ true → ⊥) → cond (a && b) (Some value) (value_at old h xs) ≡ value_at old h xs
      unchanged true true never = absurd (never refl)
      unchanged true false never = refl
      unchanged false b never = refl

  -- what has a value keeps one
  pub IsSome-kept : (h : ℕ) (xs : List ℕ) → IsSome (value_at old h xs) → IsSome (value_at new h xs)
  IsSome-kept h xs some = subst IsSome (sym (put.values h xs)) (either (h == head && same_args xs args))
    where
      either : (b : Bool) → IsSome (cond b (Some value) (value_at old h xs))
      either true = refl
      either false = some
