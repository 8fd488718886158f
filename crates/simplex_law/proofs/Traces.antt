-- A trace as a run, and so: no trace has a configuration twice.
use Rattle.std.proofs.Common.{◌≡◌, ◌≢◌, ◌⊎◌, inl, inr, ℕ, suc, ◌<◌, ◌++◌, List, [], ◌∷◌, length, length-append, Bool, cond, refl, sym, ap, subst, ◌∙◌, arith, nat_eq}
use Rattle.std.proofs.lemmas.Bool.{cases_eq}
use Rattle.tableau.specs.Table.{Table, width, IsTidy}
use Rattle.tableau.proofs.SumLaws.{nat_eq-same, nat_eq-apart}
use Rattle.simplex_law.specs.Config.{Limits, IsPlaced, IsConsistent, IsNext}
use Rattle.simplex_law.specs.Runs.{Reaches, start, pivot, IsRun, IsSameConfiguration}
use Rattle.simplex_law.specs.declared.pair.Pair.{Pair}
use Rattle.simplex_law.proofs.Circle.{no_circle}

module _ {A : Type 0} where
  put : ℕ → A → (ℕ → A) → ℕ → A
  put k x f i = cond (nat_eq i k) x (f i)

  put-same : (k : ℕ) (x : A) (f : ℕ → A) → put k x f k ≡ x
  unfolding put
  put-same k x f = ap (λ (b : Bool). cond b x (f k)) (nat_eq-same k)

  put-other : (k : ℕ) (x : A) (f : ℕ → A) (i : ℕ) → i ≢ k → put k x f i ≡ f i
  unfolding put
  put-other k x f i d = ap (λ (b : Bool). cond b x (f i)) (nat_eq-apart i k d)

-- the configurations of a trace, by number
record Run (l : Limits) (t : Table) (p : ℕ → Pair) (k : ℕ) (u : Table) (q : ℕ → Pair) : Type 0 where
  table : ℕ → Table
  place : ℕ → ℕ → Pair
  leave : ℕ → ℕ
  enter : ℕ → ℕ
  next : (i : ℕ) → i < k → IsNext l (table i) (place i) (leave i) (enter i) (table (suc i)) (place (suc i))
  first_table : table 0 ≡ t
  first_place : place 0 ≡ p
  last_table : table k ≡ u
  last_place : place k ≡ q

run_of : (l : Limits) (t : Table) (p : ℕ → Pair) (swaps : List (ℕ × ℕ)) (u : Table) (q : ℕ → Pair) → Reaches l t p swaps u q → Run l t p (length swaps) u q
run_of l t p _ _ _ start =
    record { table = λ i. t; place = λ i. p; leave = λ i. 0; enter = λ i. 0; next = λ i h. absurd (omega arith); first_table = refl; first_place = refl; last_table = refl; last_place = refl }
run_of l t p _ _ _ (pivot {swaps} {u} {q} {after} {q'} r e w n) =
    let s : suc (length swaps) ≡ length (swaps ++ (r, e) ∷ []) = omega (arith, length-append swaps ((r, e) ∷ [])) in
    subst (λ (m : ℕ). Run l t p m after q') s (more (length swaps) (run_of l t p swaps u q w))
  where
    more : (k : ℕ) → Run l t p k u q → Run l t p (suc k) after q'
    more k run = record {
      table = put (suc k) after run.table;
      place = put (suc k) q' run.place;
      leave = put k r run.leave;
      enter = put k e run.enter;
      next = λ i h. step i h (cases_eq i k);
      first_table = put-other (suc k) after run.table 0 (omega arith) ∙ run.first_table;
      first_place = put-other (suc k) q' run.place 0 (omega arith) ∙ run.first_place;
      last_table = put-same (suc k) after run.table;
      last_place = put-same (suc k) q' run.place;
    }
      where
        same : (a a' : Table) (b b' : ℕ → Pair) (c c' d d' : ℕ) (f f' : Table) (g g' : ℕ → Pair) → a ≡ a' → b ≡ b' → c ≡ c' → d ≡ d' → f ≡ f' → g ≡ g' → IsNext l a' b' c' d' f' g' → IsNext l a b c d f g
        same a a' b b' c c' d d' f f' g g' ea eb ec ed ef eg x =
            subst (λ (z : Table). IsNext l z b c d f g) (sym ea) (subst (λ (z : ℕ → Pair). IsNext l a' z c d f g) (sym eb) (subst (λ (z : ℕ). IsNext l a' b' z d f g) (sym ec)
            (subst (λ (z : ℕ). IsNext l a' b' c' z f g) (sym ed) (subst (λ (z : Table). IsNext l a' b' c' d' z g) (sym ef) (subst (λ (z : ℕ → Pair). IsNext l a' b' c' d' f' z) (sym eg) x)))))

        step : (i : ℕ) → i < suc k → (i ≡ k) ⊎ (i ≡ k → ⊥)
            → IsNext l (put (suc k) after run.table i) (put (suc k) q' run.place i) (put k r run.leave i) (put k e run.enter i) (put (suc k) after run.table (suc i)) (put (suc k) q' run.place (suc i))
        step i h (inl s) =
            subst (λ (i : ℕ). IsNext l (put (suc k) after run.table i) (put (suc k) q' run.place i) (put k r run.leave i) (put k e run.enter i) (put (suc k) after run.table (suc i)) (put (suc k) q' run.place (suc i))) (sym s)
            (same _ _ _ _ _ _ _ _ _ _ _ _ (put-other (suc k) after run.table k (omega arith) ∙ run.last_table) (put-other (suc k) q' run.place k (omega arith) ∙ run.last_place)
            (put-same k r run.leave) (put-same k e run.enter) (put-same (suc k) after run.table) (put-same (suc k) q' run.place) n)
        step i h (inr d) =
            same _ _ _ _ _ _ _ _ _ _ _ _ (put-other (suc k) after run.table i (omega arith)) (put-other (suc k) q' run.place i (omega arith)) (put-other k r run.leave i d) (put-other k e run.enter i d)
            (put-other (suc k) after run.table (suc i) (omega arith)) (put-other (suc k) q' run.place (suc i) (omega arith)) (run.next i (omega arith))

-- one pivot or more never lead back
pub never_back : (l : Limits) (t : Table) (p : ℕ → Pair) → IsTidy t → IsPlaced l t p → IsConsistent l (width t) → (swaps : List (ℕ × ℕ)) (u : Table) (q : ℕ → Pair) → Reaches l t p swaps u q → 0 < length swaps → ¬ (IsSameConfiguration t p u q)
never_back l t p tidy placed consistent swaps u q w h same =
    let k : ℕ = length swaps in
    let x = run_of l t p swaps u q w in
    let placed' : IsPlaced l (x.table 0) (x.place 0) = subst (λ (z : Table). IsPlaced l z (x.place 0)) (sym x.first_table) (subst (λ (z : ℕ → Pair). IsPlaced l t z) (sym x.first_place) placed) in
    let run : IsRun l k x.table x.place x.leave x.enter = record {
      tidy = subst IsTidy (sym x.first_table) tidy;
      placed = placed';
      consistent = subst (λ (z : Table). IsConsistent l (width z)) (sym x.first_table) consistent;
      next = x.next;
    } in
    no_circle l k x.table x.place x.leave x.enter run h
    (subst (λ (z : Table). IsSameConfiguration z (x.place 0) (x.table k) (x.place k)) (sym x.first_table) (subst (λ (z : ℕ → Pair). IsSameConfiguration t z (x.table k) (x.place k)) (sym x.first_place)
    (subst (λ (z : Table). IsSameConfiguration t p z (x.place k)) (sym x.last_table) (subst (λ (z : ℕ → Pair). IsSameConfiguration t p u z) (sym x.last_place) same))))
