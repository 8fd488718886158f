-- Bland's rule never leads back to a configuration.
use Rattle.std.proofs.Common.{◌≡◌, ◌≢◌, ◌⊎◌, inl, inr, ℕ, zero, suc, ◌<◌, ◌≤◌, Bool, true, false, refl, sym, ap, subst, ◌∙◌, arith}
use Rattle.std.proofs.lemmas.Bool.{cases_eq, cases_lt}
use Rattle.tableau.specs.Table.{Table, is_basic}
use Rattle.simplex_law.specs.Config.{Limits, lower_of, upper_of, violated_pair, IsLeastViolated, IsLeastHelp, IsNext}
use Rattle.simplex_law.specs.Runs.{IsRun, IsSameConfiguration}
use Rattle.simplex_law.specs.declared.pair.Pair.{Pair}
use Rattle.simplex_law.specs.declared.bound.Side.{Side}
use Rattle.simplex_law.proofs.Fitting.{value-other}
use Rattle.simplex_law.proofs.Keeping.{kept, IsKept}
use Rattle.simplex_law.proofs.Bland.{impossible}

greater : (a b : ℕ) → (c : ℕ) × (a ≤ c) × (b ≤ c) × ((a ≡ c) ⊎ (b ≡ c))
greater a b = by_order (cases_lt a b)
  where
    by_order : (a < b) ⊎ (b ≤ a) → (c : ℕ) × (a ≤ c) × (b ≤ c) × ((a ≡ c) ⊎ (b ≡ c))
    by_order (inl h) = (b, omega arith, omega arith, inr refl)
    by_order (inr h) = (a, omega arith, omega arith, inl refl)

not_both : (b : Bool) → b ≡ true → b ≡ false → ⊥
not_both b p q = cc

module _ (l : Limits) (m : ℕ) (table : ℕ → Table) (place : ℕ → ℕ → Pair) (leave enter : ℕ → ℕ) (run : IsRun l m table place leave enter) where
  -- the greatest variable that moves in the first pivots
  greatest : (n : ℕ) → (g : ℕ) × ((i : ℕ) → i < suc n → (leave i ≤ g) × (enter i ≤ g)) × ((i : ℕ) × (i < suc n) × ((leave i ≡ g) ⊎ (enter i ≡ g)))
  greatest zero = by_pair (greater (leave 0) (enter 0))
    where
      by_pair : (c : ℕ) × (leave 0 ≤ c) × (enter 0 ≤ c) × ((leave 0 ≡ c) ⊎ (enter 0 ≡ c)) → (g : ℕ) × ((i : ℕ) → i < suc zero → (leave i ≤ g) × (enter i ≤ g)) × ((i : ℕ) × (i < suc zero) × ((leave i ≡ g) ⊎ (enter i ≡ g)))
      by_pair (c, p, q, w) =
          let f : ℕ → Type 0 = λ i. (leave i ≤ c) × (enter i ≤ c) in
          (c, (λ i h. let e : 0 ≡ i = omega arith in subst f e (p, q)), (0, omega arith, w))
  greatest (suc n) = by_pair (greatest n) (greater (leave (suc n)) (enter (suc n)))
    where
      All : ℕ → ℕ → Type 0
      All k g = (i : ℕ) → i < k → (leave i ≤ g) × (enter i ≤ g)

      more : (g c d : ℕ) → ((i : ℕ) → i < suc n → (leave i ≤ g) × (enter i ≤ g)) → leave (suc n) ≤ c → enter (suc n) ≤ c → g ≤ d → c ≤ d → (i : ℕ) → i < suc (suc n) → (leave i ≤ d) × (enter i ≤ d)
      more g c d h p q x y i li = by_place (cases_eq i (suc n))
        where
          by_place : (i ≡ suc n) ⊎ (i ≡ suc n → ⊥) → (leave i ≤ d) × (enter i ≤ d)
          by_place (inl e) = let f : ℕ → Type 0 = λ k. (leave k ≤ d) × (enter k ≤ d) in subst f (sym e) (omega arith, omega arith)
          by_place (inr e) = let z = h i (omega arith) in (omega (arith, z.0), omega (arith, z.1))

      by_pair : (g : ℕ) × ((i : ℕ) → i < suc n → (leave i ≤ g) × (enter i ≤ g)) × ((i : ℕ) × (i < suc n) × ((leave i ≡ g) ⊎ (enter i ≡ g)))
          → (c : ℕ) × (leave (suc n) ≤ c) × (enter (suc n) ≤ c) × ((leave (suc n) ≡ c) ⊎ (enter (suc n) ≡ c))
          → (g : ℕ) × ((i : ℕ) → i < suc (suc n) → (leave i ≤ g) × (enter i ≤ g)) × ((i : ℕ) × (i < suc (suc n)) × ((leave i ≡ g) ⊎ (enter i ≡ g)))
      by_pair (g, h, w) (c, p, q, z) = by_order (cases_lt g c)
        where
          by_order : (g < c) ⊎ (c ≤ g) → (g : ℕ) × ((i : ℕ) → i < suc (suc n) → (leave i ≤ g) × (enter i ≤ g)) × ((i : ℕ) × (i < suc (suc n)) × ((leave i ≡ g) ⊎ (enter i ≡ g)))
          by_order (inl o) = (c, more g c c h p q (omega arith) (omega arith), (suc n, omega arith, z))
          by_order (inr o) = (g, more g c g h p q (omega arith) o, (w.0, omega (arith, w.1), w.2))

  module _ (q : ℕ) where
    -- out of the basis q stays at its pair until it enters
    stay_out : (x : Pair) (s k : ℕ) → s ≤ k → k ≤ m → is_basic (table s) q ≡ false → place s q ≡ x
        → ((b : ℕ) × (b < m) × (enter b ≡ q) × (place b q ≡ x)) ⊎ ((is_basic (table k) q ≡ false) × (place k q ≡ x))
    stay_out x s zero h g o e = let z : s ≡ 0 = omega arith in inr (subst (λ (i : ℕ). is_basic (table i) q ≡ false) z o, subst (λ (i : ℕ). place i q ≡ x) z e)
    stay_out x s (suc k) h g o e = by_place (cases_eq s (suc k)) (λ n. stay_out x s k n (omega arith) o e)
      where
        by_step : ((b : ℕ) × (b < m) × (enter b ≡ q) × (place b q ≡ x)) ⊎ ((is_basic (table k) q ≡ false) × (place k q ≡ x)) → (k < m)
            → ((b : ℕ) × (b < m) × (enter b ≡ q) × (place b q ≡ x)) ⊎ ((is_basic (table (suc k)) q ≡ false) × (place (suc k) q ≡ x))
        by_step (inl w) lk = inl w
        by_step (inr (out_of, pl)) lk = by_enter (cases_eq (enter k) q)
          where
            by_enter : (enter k ≡ q) ⊎ (enter k ≡ q → ⊥) → ((b : ℕ) × (b < m) × (enter b ≡ q) × (place b q ≡ x)) ⊎ ((is_basic (table (suc k)) q ≡ false) × (place (suc k) q ≡ x))
            by_enter (inl y) = inl (k, lk, y, pl)
            by_enter (inr y) =
                let st = run.next k lk in
                let d : q ≢ leave k = λ z. not_both (is_basic (table k) q) (ap (is_basic (table k)) z ∙ st.leaves.basic) out_of in
                inr (st.pivoted.stays q d (λ z. y (sym z)) ∙ out_of, st.kept q d ∙ pl)

        by_place : (s ≡ suc k) ⊎ (s ≡ suc k → ⊥) → (s ≤ k → ((b : ℕ) × (b < m) × (enter b ≡ q) × (place b q ≡ x)) ⊎ ((is_basic (table k) q ≡ false) × (place k q ≡ x)))
            → ((b : ℕ) × (b < m) × (enter b ≡ q) × (place b q ≡ x)) ⊎ ((is_basic (table (suc k)) q ≡ false) × (place (suc k) q ≡ x))
        by_place (inl z) f = inr (subst (λ (i : ℕ). is_basic (table i) q ≡ false) z o, subst (λ (i : ℕ). place i q ≡ x) z e)
        by_place (inr z) f = by_step (f (omega arith)) (omega arith)

    -- in the basis it stays until it leaves
    stay_in : (s k : ℕ) → s ≤ k → k ≤ m → is_basic (table s) q ≡ true → ((a : ℕ) × (a < m) × (leave a ≡ q)) ⊎ (is_basic (table k) q ≡ true)
    stay_in s zero h g o = let z : s ≡ 0 = omega arith in inr (subst (λ (i : ℕ). is_basic (table i) q ≡ true) z o)
    stay_in s (suc k) h g o = by_place (cases_eq s (suc k)) (λ n. stay_in s k n (omega arith) o)
      where
        by_step : ((a : ℕ) × (a < m) × (leave a ≡ q)) ⊎ (is_basic (table k) q ≡ true) → (k < m) → ((a : ℕ) × (a < m) × (leave a ≡ q)) ⊎ (is_basic (table (suc k)) q ≡ true)
        by_step (inl w) lk = inl w
        by_step (inr within_it) lk = by_leave (cases_eq (leave k) q)
          where
            by_leave : (leave k ≡ q) ⊎ (leave k ≡ q → ⊥) → ((a : ℕ) × (a < m) × (leave a ≡ q)) ⊎ (is_basic (table (suc k)) q ≡ true)
            by_leave (inl y) = inl (k, lk, y)
            by_leave (inr y) =
                let st = run.next k lk in
                let d : q ≢ enter k = λ z. not_both (is_basic (table k) q) within_it (ap (is_basic (table k)) z ∙ st.enters.other) in
                inr (st.pivoted.stays q (λ z. y (sym z)) d ∙ within_it)

        by_place : (s ≡ suc k) ⊎ (s ≡ suc k → ⊥) → (s ≤ k → ((a : ℕ) × (a < m) × (leave a ≡ q)) ⊎ (is_basic (table k) q ≡ true)) → ((a : ℕ) × (a < m) × (leave a ≡ q)) ⊎ (is_basic (table (suc k)) q ≡ true)
        by_place (inl z) f = inr (subst (λ (i : ℕ). is_basic (table i) q ≡ true) z o)
        by_place (inr z) f = by_step (f (omega arith)) (omega arith)

    -- a variable above all that move stays where it is
    unmoved : ((i : ℕ) → i < m → (leave i ≤ q) × (enter i ≤ q)) → (j : ℕ) → q < j → (i : ℕ) → i ≤ m → (is_basic (table i) j ≡ is_basic (table 0) j) × (place i j ≡ place 0 j)
    unmoved top j h zero g = (refl, refl)
    unmoved top j h (suc i) g =
        let st = run.next i (omega arith) in
        let t = top i (omega arith) in
        let before = unmoved top j h i (omega arith) in
        let d : j ≢ leave i = omega (arith, t.0) in
        let d' : j ≢ enter i = omega (arith, t.1) in
        (st.pivoted.stays j d d' ∙ before.0, st.kept j d ∙ before.1)

    module _ (same : IsSameConfiguration (table 0) (place 0) (table m) (place m)) where
      -- where it left, it enters somewhere at the bound for which it left
      enters_at : (a : ℕ) → a < m → (e : leave a ≡ q) → (side : Side) → (violated_pair side (lower_of l (leave a)) (upper_of l (leave a)) ≡ place (suc a) (leave a))
          → (b : ℕ) × (b < m) × (enter b ≡ q) × (place b q ≡ violated_pair side (lower_of l q) (upper_of l q))
      enters_at a la e side mv = by_first (stay_out x (suc a) m (omega arith) (omega arith) out at_x)
        where
          x : Pair
          x = violated_pair side (lower_of l q) (upper_of l q)

          out : is_basic (table (suc a)) q ≡ false
          out = subst (λ (i : ℕ). is_basic (table (suc a)) i ≡ false) e (run.next a la).pivoted.leaves

          at_x : place (suc a) q ≡ violated_pair side (lower_of l q) (upper_of l q)
          at_x = subst (λ (i : ℕ). place (suc a) i ≡ violated_pair side (lower_of l i) (upper_of l i)) e (sym mv)

          by_second : ((b : ℕ) × (b < m) × (enter b ≡ q) × (place b q ≡ violated_pair side (lower_of l q) (upper_of l q))) ⊎ ((is_basic (table a) q ≡ false) × (place a q ≡ violated_pair side (lower_of l q) (upper_of l q)))
              → (b : ℕ) × (b < m) × (enter b ≡ q) × (place b q ≡ violated_pair side (lower_of l q) (upper_of l q))
          by_second (inl w) = w
          by_second (inr (out_of, pl)) = absurd (not_both (is_basic (table a) q) (subst (λ (i : ℕ). is_basic (table a) i ≡ true) e (run.next a la).leaves.basic) out_of)

          by_first : ((b : ℕ) × (b < m) × (enter b ≡ q) × (place b q ≡ violated_pair side (lower_of l q) (upper_of l q))) ⊎ ((is_basic (table m) q ≡ false) × (place m q ≡ violated_pair side (lower_of l q) (upper_of l q)))
              → (b : ℕ) × (b < m) × (enter b ≡ q) × (place b q ≡ violated_pair side (lower_of l q) (upper_of l q))
          by_first (inl w) = w
          by_first (inr (out_of, pl)) =
              let first : is_basic (table 0) q ≡ false = same.basis q ∙ out_of in
              by_second (stay_out (violated_pair side (lower_of l q) (upper_of l q)) 0 a (omega arith) (omega arith) first (same.places q first ∙ pl))

      -- where it entered, it leaves somewhere
      leaves_at : (b : ℕ) → b < m → enter b ≡ q → (a : ℕ) × (a < m) × (leave a ≡ q)
      leaves_at b lb e = by_first (stay_in (suc b) m (omega arith) (omega arith) (subst (λ (i : ℕ). is_basic (table (suc b)) i ≡ true) e (run.next b lb).pivoted.enters))
        where
          by_second : ((a : ℕ) × (a < m) × (leave a ≡ q)) ⊎ (is_basic (table b) q ≡ true) → (a : ℕ) × (a < m) × (leave a ≡ q)
          by_second (inl w) = w
          by_second (inr within_it) = absurd (not_both (is_basic (table b) q) within_it (subst (λ (i : ℕ). is_basic (table b) i ≡ false) e (run.next b lb).enters.other))

          by_first : ((a : ℕ) × (a < m) × (leave a ≡ q)) ⊎ (is_basic (table m) q ≡ true) → (a : ℕ) × (a < m) × (leave a ≡ q)
          by_first (inl w) = w
          by_first (inr within_it) = by_second (stay_in 0 b (omega arith) (omega arith) (same.basis q ∙ within_it))

      -- the greatest that moves can't have left
      no_leave : ((i : ℕ) → i < m → (leave i ≤ q) × (enter i ≤ q)) → (a : ℕ) → a < m → leave a ≡ q → ⊥
      no_leave top a la e = by_enter (enters_at a la e st.side (sym st.moved))
        where
          st : IsNext l (table a) (place a) (leave a) (enter a) (table (suc a)) (place (suc a))
          st = run.next a la

          by_enter : (b : ℕ) × (b < m) × (enter b ≡ q) × (place b q ≡ violated_pair (run.next a la).side (lower_of l q) (upper_of l q)) → ⊥
          by_enter (b, lb, eb, pb) =
              let ka : IsKept l m table place leave enter run a = kept l m table place leave enter run a (omega arith) in
              let kb : IsKept l m table place leave enter run b = kept l m table place leave enter run b (omega arith) in
              let sb = run.next b lb in
              let va : IsLeastViolated l (table a) (place a) q (run.next a la).side = subst (λ (i : ℕ). IsLeastViolated l (table a) (place a) i (run.next a la).side) e (run.next a la).leaves in
              let hb : IsLeastHelp l (table b) (place b) (leave b) sb.side q = subst (λ (i : ℕ). IsLeastHelp l (table b) (place b) (leave b) sb.side i) eb sb.enters in
              let d : leave b ≢ q = λ z. not_both (is_basic (table b) q) (sym (ap (is_basic (table b)) z) ∙ sb.leaves.basic) hb.other in
              let t = top b lb in
              impossible l (table a) (place a) (table b) (place b) ka.tidy kb.tidy ka.placed (kb.wide ∙ sym ka.wide) (λ point s. (kb.same point).0 ((ka.same point).1 s))
              q (leave b) (run.next a la).side sb.side va sb.leaves hb pb
              (λ j h lj o.
              let ua = unmoved top j h a (omega arith) in
              let ub = unmoved top j h b (omega arith) in
              value-other (table a) ka.tidy (place a) j (ua.0 ∙ sym ub.0 ∙ o) ∙ ua.1 ∙ sym ub.1)
              (omega (arith, t.0))

  -- no run of one pivot or more leads back to its first configuration
  pub no_circle : 0 < m → ¬ (IsSameConfiguration (table 0) (place 0) (table m) (place m))
  no_circle h same = by_number m refl
    where
      by_number : (n : ℕ) → n ≡ m → ⊥
      by_number zero e = absurd (omega arith)
      by_number (suc n) e = by_greatest (greatest n)
        where
          top_of : (g : ℕ) → ((i : ℕ) → i < suc n → (leave i ≤ g) × (enter i ≤ g)) → (i : ℕ) → i < m → (leave i ≤ g) × (enter i ≤ g)
          top_of g t i li = t i (omega arith)

          by_greatest : (g : ℕ) × ((i : ℕ) → i < suc n → (leave i ≤ g) × (enter i ≤ g)) × ((i : ℕ) × (i < suc n) × ((leave i ≡ g) ⊎ (enter i ≡ g))) → ⊥
          by_greatest (g, t, (i, li, inl w)) = no_leave g same (top_of g t) i (omega arith) w
          by_greatest (g, t, (i, li, inr w)) = let a = leaves_at g same i (omega arith) w in no_leave g same (top_of g t) a.0 a.1 a.2
