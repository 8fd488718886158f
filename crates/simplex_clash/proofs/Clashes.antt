-- The two clashes: a row that is stuck, and bounds that cross.
use Rattle.std.proofs.Common.{◌≡◌, ◌≢◌, inl, inr, ◌<◌, ◌≤◌, ℕ, zero, suc, Bool, true, false, cond, IsTrue, List, [], ◌∷◌, length, Option, Some, None, refl, sym, ap, subst, ◌∙◌, arith, nat_eq}
use Rattle.std.specs.Prelude.{map}
use Rattle.std.specs.List.{Contains, sum_by, AllByRecursion, Any}
use Rattle.std.specs.List.Sorted.{IsPermutation}
use Rattle.std.proofs.lemmas.List.Sums.{sum_by-cons}
use Rattle.std.proofs.lemmas.List.Elements.{All-from_recursion, recursion_from_All}
use Rattle.std.proofs.lemmas.List.Sorted.{IsPermutation-cons}
use lib.IntN.{pos, negsuc}
use Rattle.algebra.proofs.Solve.{v, k, ◌⊕◌, ◌⊗◌, inv, solve_from, eq, strict_from, lt, done}
use Rattle.rational.specs.Fraction.{Fraction, whole, ◌*ℚ◌, ◌<ℚ◌, IsPositive, IsNotNegative}
use Rattle.rational.specs.Linear.{Terms, coefficient_of}
use Rattle.rational.specs.Farkas.{Row, BoundFails, IsRefutation}
use Rattle.rational.proofs.FieldLaws.{fraction-ring}
use Rattle.rational.proofs.Signs.{fraction-order}
use Rattle.rational.proofs.OrderLaws.{<ℚ_irrefl}
use Rattle.rational.proofs.LinearLaws.{coefficient_of-multiple}
use Rattle.formula.specs.declared.atom.Lit.{Lit}
use Rattle.formula.specs.Contents.{Contents}
use Rattle.tableau.specs.Table.{Table, width, cell, is_basic}
use Rattle.theory_law.specs.declared.trace.Lemma.{Lemma}
use Rattle.simplex_law.specs.Pairs.{◌<ₚ◌}
use Rattle.simplex_law.specs.Bounds.{lower_pair, upper_pair, BelowLower, AboveUpper}
use Rattle.simplex_law.specs.Config.{lower_of, upper_of, row_pair, IsPlaced, IsStuck}
use Rattle.simplex_law.specs.Readings.{upper_row, lower_row, negative_of}
use Rattle.simplex_law.specs.declared.pair.Pair.{Pair}
use Rattle.simplex_law.specs.declared.bound.Bound.{Bound}
use Rattle.simplex_law.specs.declared.bound.Side.{Side}
use Rattle.simplex_law.specs.declared.bound.Side.TheVariants.{Under, Over}
use Rattle.simplex_law.proofs.Clashing.{Held, parts, under_rows, over_rows, still_below}
use Rattle.simplex_check.specs.Starts.{Crosses}
use Rattle.simplex_atoms.specs.LeftSides.{rows_of}
use Rattle.simplex_atoms.specs.Sides.{sides_of}
use Rattle.simplex_atoms.specs.Tightest.{Gives, lit_of, number_at, IsTightest}
use Rattle.simplex_atoms.specs.declared.tightening.Held.{Held as Bounds}
use Rattle.simplex_clash.specs.VariableTerms.{variable_terms}
use Rattle.simplex_clash.specs.Setting.{limits_of, IsSetting}
use Rattle.simplex_clash.specs.Parts.{Part, sign_of, parts_below, own_part, IsMadeOf}
use Rattle.simplex_clash.specs.Clash.{IsLemmaOf}
use Rattle.simplex_clash.proofs.Variables.{extends}
use Rattle.simplex_clash.proofs.Permuting.{refutation_permutes}
use Rattle.simplex_clash.proofs.ReadingRows.{row_by, row_up, row_down}
use Rattle.simplex_clash.proofs.Rising.{hits, hits-most, hits-own, hits-other, IsOnce}
use Rattle.simplex_clash.proofs.PartRows.{IsPartOf, AreParts, parts_more, parts_none, no_hit}
use Rattle.simplex_clash.proofs.Making.{IsHolding, made_lemma}
use Rattle.tableau.proofs.SumLaws.{nat_eq-true, nat_eq-false}

module _ (f : Contents) (lits : List Lit) (t : Table) (lower upper : Bounds) (set : IsSetting f lits t lower upper) where
  abbrev terms : ℕ → Terms
  terms = variable_terms (length f.counts) (rows_of f.atoms)

  holding : (n r : ℕ) (ps : List Part) → AllByRecursion (IsPartOf f lits t lower upper set n r) ps → AllByRecursion (IsHolding f lits) ps
  holding n r [] h = tt
  holding n r (p ∷ ps) h = (record { variable = h.0.variable; bound = h.0.bound; gives = h.0.gives; within = h.0.within }, holding n r ps h.1)

  -- ---- a stuck row
  module _ (place : ℕ → Pair) (r : ℕ) (side : Side) (lr : r < width t) (br : IsTrue (is_basic t r)) where
    abbrev s : ℕ → Fraction
    s j = sign_of side *ℚ cell t r j

    own_zero : (n : ℕ) → n ≡ r → sign_of side *ℚ cell t r n ≡ whole (pos 0)
    own_zero n e =
        solve_from fraction-ring (v 0 ⊗ v 1) (k (pos 0)) (sign_of side ∷ cell t r n ∷ [])
        (eq (v 0) (v 1) (k (pos 0)) (ap (cell t r) e ∙ set.tableau.tidy.basic_column r r lr lr br) done) refl

    all_parts : (n : ℕ) → n ≤ width t → (held : (j : ℕ) → j < n → Held (limits_of lower upper) (place j) j (sign_of side *ℚ cell t r j))
        → AreParts f lits t lower upper set place (λ j. sign_of side *ℚ cell t r j) r n held (parts_below side (cell t r) (number_at lower.by.items) (number_at upper.by.items) n)
    all_parts zero le held = parts_none f lits t lower upper set place (λ j. sign_of side *ℚ cell t r j) r held
    all_parts (suc n) le held =
        parts_more f lits t lower upper set place (λ j. sign_of side *ℚ cell t r j) r n (omega arith) held (own_zero n) _ (all_parts n (omega arith) (λ j m. held j (still_below n j m)))

    -- with the literal of the bound that r violates
    stuck_made : (own : Part) (row : Row) (b : Bound) → Gives (sides_of f.counts (rows_of f.atoms) f.atoms) own.0 r b → Contains lits own.0 → row_by f own ≡ row
        → (held : (j : ℕ) → j < width t → Held (limits_of lower upper) (place j) j (sign_of side *ℚ cell t r j))
        → IsRefutation (row ∷ parts (limits_of lower upper) (variable_terms (length f.counts) (rows_of f.atoms)) place (λ j. sign_of side *ℚ cell t r j) (width t) held)
        → (m : Lemma) → IsMadeOf (own ∷ parts_below side (cell t r) (number_at lower.by.items) (number_at upper.by.items) (width t)) m → IsLemmaOf f lits m
    stuck_made own row b gives within e held refutes m made =
        let n = width t in
        let ps = parts_below side (cell t r) (number_at lower.by.items) (number_at upper.by.items) (width t) in
        let a = all_parts (width t) (omega arith) held in
        made_lemma f set.formula lits (own ∷ ps) m made
        (refutation_permutes _ _
        (subst (λ (x : Row). IsPermutation (row ∷ parts (limits_of lower upper) (variable_terms (length f.counts) (rows_of f.atoms)) place (λ j. sign_of side *ℚ cell t r j) (width t) held) (x ∷ map (row_by f) (parts_below side (cell t r) (number_at lower.by.items) (number_at upper.by.items) (width t)))) (sym e)
        (IsPermutation-cons row _ _ a.rows))
        refutes)
        (record { variable = r; bound = b; gives = gives; within = within }, holding (width t) r ps a.each)
        (λ i. by_test i ps a.each a.once (nat_eq own.0.boolean i) refl)
      where
        by_test : (a : ℕ) (ps : List Part) → AllByRecursion (IsPartOf f lits t lower upper set (width t) r) ps → IsOnce ps → (c : Bool) → nat_eq own.0.boolean a ≡ c → sum_by (hits a) (own ∷ ps) ≤ 1
        by_test a ps each once true q =
            let same : own.0.boolean ≡ a = nat_eq-true own.0.boolean a q in
            subst (λ (i : ℕ). sum_by (hits i) (own ∷ ps) ≤ 1) same
            (omega (arith, sum_by-cons (hits own.0.boolean) own ps, hits-own own, no_hit f lits t lower upper set (width t) r ps each own.0 r b gives (λ j lj d. d)))
        by_test a ps each once false q = omega (arith, sum_by-cons (hits a) own ps, hits-other a own (nat_eq-false own.0.boolean a q), once a)

  pub stuck_lemma : (place : ℕ → Pair) (r : ℕ) (side : Side) → IsPlaced (limits_of lower upper) t place → IsStuck (limits_of lower upper) t place r side → (m : Lemma)
      → IsMadeOf (own_part side (number_at lower.by.items r) (number_at upper.by.items r) ∷ parts_below side (cell t r) (number_at lower.by.items) (number_at upper.by.items) (width t)) m → IsLemmaOf f lits m
  stuck_lemma place r Under placed st m made = by_bound (lower_of (limits_of lower upper) r) refl st.violates
    where
      by_bound : (o : Option Bound) → lower_of (limits_of lower upper) r ≡ o → BelowLower o (row_pair t place r) → IsLemmaOf f lits m
      by_bound None e h = absurd h
      by_bound (Some b) e h =
          let rows = under_rows (limits_of lower upper) (variable_terms (length f.counts) (rows_of f.atoms)) t set.tableau.tidy place placed r (extends f.counts f.atoms t (recursion_from_All _ f.atoms set.formula.atoms) set.tableau) st b e h in
          let tight = subst (λ (w : Option Bound). IsTightest (sides_of f.counts (rows_of f.atoms) f.atoms) lits false r (number_at lower.by.items r) w) e (set.lower_is.each r st.within) in
          stuck_made place r Under st.within st.basic (own_part Under (number_at lower.by.items r) (number_at upper.by.items r)) (lower_row b (variable_terms (length f.counts) (rows_of f.atoms) r) (whole (pos 1))) b tight.1 tight.0
          (row_down f set.formula (number_at lower.by.items r) r b (whole (pos 1)) tight.1) rows.0 rows.1 m made
  stuck_lemma place r Over placed st m made = by_bound (upper_of (limits_of lower upper) r) refl st.violates
    where
      by_bound : (o : Option Bound) → upper_of (limits_of lower upper) r ≡ o → AboveUpper o (row_pair t place r) → IsLemmaOf f lits m
      by_bound None e h = absurd h
      by_bound (Some b) e h =
          let rows = over_rows (limits_of lower upper) (variable_terms (length f.counts) (rows_of f.atoms)) t set.tableau.tidy place placed r (extends f.counts f.atoms t (recursion_from_All _ f.atoms set.formula.atoms) set.tableau) st b e h in
          let tight = subst (λ (w : Option Bound). IsTightest (sides_of f.counts (rows_of f.atoms) f.atoms) lits true r (number_at upper.by.items r) w) e (set.upper_is.each r st.within) in
          stuck_made place r Over st.within st.basic (own_part Over (number_at lower.by.items r) (number_at upper.by.items r)) (upper_row b (variable_terms (length f.counts) (rows_of f.atoms) r) (whole (pos 1))) b tight.1 tight.0
          (row_up f set.formula (number_at upper.by.items r) r b (whole (pos 1)) tight.1) rows.0 rows.1 m made

  -- ---- bounds that cross
  cross_rows : (b c : Bound) (ts : Terms) → upper_pair c <ₚ lower_pair b → IsRefutation (lower_row b ts (whole (pos 1)) ∷ upper_row c ts (whole (pos 1)) ∷ [])
  cross_rows b c ts h = record {
    not_negative = All-from_recursion (λ (x : Row). IsNotNegative x.factor) (lower_row b ts (whole (pos 1)) ∷ upper_row c ts (whole (pos 1)) ∷ []) (tt, (tt, tt));
    cancels = λ i.
        solve_from fraction-ring (k (pos 1) ⊗ v 1 ⊕ (k (pos 1) ⊗ v 0 ⊕ k (pos 0))) (k (pos 0)) (coefficient_of i ts ∷ coefficient_of i (negative_of ts) ∷ [])
        (eq (k (pos 1)) (v 1) (k (negsuc 0) ⊗ v 0) (coefficient_of-multiple i (whole (negsuc 0)) ts) done) refl;
    bound_fails = by_order h;
  }
    where
      strict : (x y : Bool) → b.strict ≡ x → c.strict ≡ y → (upper_pair c).small <ℚ (lower_pair b).small → Any (λ (r : Row). IsTrue r.strict × IsPositive r.factor) (lower_row b ts (whole (pos 1)) ∷ upper_row c ts (whole (pos 1)) ∷ [])
      strict true y e g l = (0, lower_row b ts (whole (pos 1)), omega arith, refl, (e, tt))
      strict false true e g l = (1, upper_row c ts (whole (pos 1)), omega arith, refl, (g, tt))
      strict false false e g l =
          absurd (<ℚ_irrefl (whole (pos 0)) (subst (λ (x : Fraction). x <ℚ whole (pos 0)) (ap (λ (z : Bool). cond z (whole (negsuc 0)) (whole (pos 0))) g)
          (subst (λ (x : Fraction). (upper_pair c).small <ℚ x) (ap (λ (z : Bool). cond z (whole (pos 1)) (whole (pos 0))) e) l)))

      by_order : upper_pair c <ₚ lower_pair b → BoundFails (lower_row b ts (whole (pos 1)) ∷ upper_row c ts (whole (pos 1)) ∷ [])
      by_order (inl l) =
          inl (strict_from fraction-order (k (pos 1) ⊗ inv (v 0) ⊕ (k (pos 1) ⊗ v 1 ⊕ k (pos 0))) (k (pos 0)) (b.value ∷ c.value ∷ []) (lt (k (pos 1)) (v 1) (v 0) tt l done) tt refl)
      by_order (inr (e, l)) =
          inr (
            solve_from fraction-ring (k (pos 1) ⊗ inv (v 0) ⊕ (k (pos 1) ⊗ v 1 ⊕ k (pos 0))) (k (pos 0)) (b.value ∷ c.value ∷ []) (eq (k (pos 1)) (v 1) (v 0) e done) refl,
            strict b.strict c.strict refl refl l,
          )

  pub cross_lemma : (w : ℕ) → w < width t → Crosses (lower_of (limits_of lower upper) w) (upper_of (limits_of lower upper) w) → (m : Lemma)
      → IsMadeOf (own_part Under (number_at lower.by.items w) (number_at upper.by.items w) ∷ own_part Over (number_at lower.by.items w) (number_at upper.by.items w) ∷ []) m → IsLemmaOf f lits m
  cross_lemma w lw crosses m made = by_bounds (lower_of (limits_of lower upper) w) refl (upper_of (limits_of lower upper) w) refl crosses
    where
      by_bounds : (o : Option Bound) → lower_of (limits_of lower upper) w ≡ o → (q : Option Bound) → upper_of (limits_of lower upper) w ≡ q → Crosses o q → IsLemmaOf f lits m
      by_bounds None e q g h = absurd h
      by_bounds (Some b) e None g h = absurd h
      by_bounds (Some b) e (Some c) g h =
          let lo = number_at lower.by.items w in
          let hi = number_at upper.by.items w in
          let down = subst (λ (x : Option Bound). IsTightest (sides_of f.counts (rows_of f.atoms) f.atoms) lits false w (number_at lower.by.items w) x) e (set.lower_is.each w lw) in
          let up = subst (λ (x : Option Bound). IsTightest (sides_of f.counts (rows_of f.atoms) f.atoms) lits true w (number_at upper.by.items w) x) g (set.upper_is.each w lw) in
          let ts = variable_terms (length f.counts) (rows_of f.atoms) w in
          let apart : number_at lower.by.items w ≢ number_at upper.by.items w = λ same. false_true (ap (λ (l : Lit). l.pos) (set.once (lit_of lo false) (lit_of hi true) down.0 up.0 same)) in
          made_lemma f set.formula lits _ m made
          (subst (λ (x : Row). IsRefutation (x ∷ row_by f (lit_of hi true, whole (pos 1)) ∷ [])) (sym (row_down f set.formula lo w b (whole (pos 1)) down.1))
          (subst (λ (x : Row). IsRefutation (lower_row b ts (whole (pos 1)) ∷ x ∷ [])) (sym (row_up f set.formula hi w c (whole (pos 1)) up.1)) (cross_rows b c ts h)))
          (record { variable = w; bound = b; gives = down.1; within = down.0 }, (record { variable = w; bound = c; gives = up.1; within = up.0 }, tt))
          (λ i. two_once i apart (nat_eq lo i) refl)
        where
          false_true : false ≡ true → ⊥
          false_true e = absurd (cc)

          first : Part
          first = (lit_of (number_at lower.by.items w) false, whole (pos 1))

          second : Part
          second = (lit_of (number_at upper.by.items w) true, whole (pos 1))

          two_once : (i : ℕ) → number_at lower.by.items w ≢ number_at upper.by.items w → (x : Bool) → nat_eq (number_at lower.by.items w) i ≡ x
              → sum_by (hits i) ((lit_of (number_at lower.by.items w) false, whole (pos 1)) ∷ (lit_of (number_at upper.by.items w) true, whole (pos 1)) ∷ []) ≤ 1
          two_once i d true e =
              let same : number_at lower.by.items w ≡ i = nat_eq-true _ i e in
              omega (arith, sum_by-cons (hits i) first (second ∷ []), sum_by-cons (hits i) second [], hits-other i second (λ q. d (same ∙ sym q)), hits-most i first)
          two_once i d false e =
              omega (arith, sum_by-cons (hits i) first (second ∷ []), sum_by-cons (hits i) second [], hits-other i first (nat_eq-false _ i e), hits-most i second)
