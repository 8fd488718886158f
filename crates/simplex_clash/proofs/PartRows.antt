-- The parts of a stuck row: their readings are the rows of the refutation, each is of an asserted literal, and their Booleans
-- differ, because a Boolean has one variable.
use Rattle.std.proofs.Common.{◌≡◌, ◌≢◌, ◌<◌, ◌≤◌, ℕ, suc, Bool, true, false, cond, List, [], ◌∷◌, ◌++◌, length, Option, Some, None, refl, sym, ap, subst, ◌∙◌, arith, nat_eq, append-nil}
use Rattle.std.specs.Prelude.{map, slice_get}
use Rattle.std.specs.List.{Contains, sum_by, AllByRecursion}
use Rattle.std.specs.List.Sorted.{IsPermutation}
use Rattle.std.proofs.lemmas.List.{map-append}
use Rattle.std.proofs.lemmas.List.Sums.{sum_by-cons, sum_by_push}
use Rattle.std.proofs.lemmas.List.Sorted.{IsPermutation-refl, IsPermutation-trans, IsPermutation-sym, IsPermutation-cons, IsPermutation-to_front}
use lib.IntN.{pos}
use Rattle.algebra.proofs.Solve.{v, k, inv, solve_from, eq, done}
use Rattle.rational.specs.Fraction.{Fraction, whole, neg_ℚ}
use Rattle.rational.specs.Linear.{Terms}
use Rattle.rational.specs.Farkas.{Row}
use Rattle.rational.proofs.FieldLaws.{fraction-ring}
use Rattle.rational.proofs.OrderLaws.{positive_apart}
use Rattle.formula.specs.declared.atom.Lit.{Lit}
use Rattle.formula.specs.Contents.{Contents}
use Rattle.formula.specs.Farkas.{is_positive, is_negative}
use Rattle.tableau.specs.Table.{Table, width}
use Rattle.tableau.proofs.SumLaws.{nat_eq-true, nat_eq-false}
use Rattle.simplex_law.specs.Config.{Limits}
use Rattle.simplex_law.specs.Readings.{upper_row, lower_row}
use Rattle.simplex_law.specs.declared.pair.Pair.{Pair}
use Rattle.simplex_law.specs.declared.bound.Bound.{Bound}
use Rattle.simplex_law.proofs.Clashing.{Held, up, down, free, part, parts, own_below, still_below}
use Rattle.simplex_atoms.specs.LeftSides.{rows_of}
use Rattle.simplex_atoms.specs.Sides.{sides_of}
use Rattle.simplex_atoms.specs.Tightest.{Gives, lit_of, number_at, IsTightest}
use Rattle.simplex_atoms.proofs.Tight.{one_side}
use Rattle.simplex_atoms.specs.declared.sides.Sides.{Sides}
use Rattle.simplex_atoms.specs.declared.tightening.Held.{Held as Bounds}
use Rattle.simplex_clash.specs.VariableTerms.{variable_terms}
use Rattle.simplex_clash.specs.Setting.{limits_of, IsSetting}
use Rattle.simplex_clash.specs.Parts.{Part, part_of, listed}
use Rattle.simplex_clash.proofs.ReadingRows.{row_by, row_up, row_down}
use Rattle.simplex_clash.proofs.Rising.{hits, hits-own, hits-other, IsOnce}
use Rattle.simplex_clash.proofs.SignTests.{positive_test, negative_test, negative_not_positive, zero_tests}

-- what `part_of` gives by the sign
part-up : (s : Fraction) (lo hi : ℕ) → is_positive s ≡ true → part_of s lo hi ≡ Some (lit_of hi true, s)
part-up s lo hi e = ap (λ (c : Bool). cond c (Some (lit_of hi true, s)) (cond (is_negative s) (Some (lit_of lo false, neg_ℚ s)) None)) e

part-down : (s : Fraction) (lo hi : ℕ) → is_positive s ≡ false → is_negative s ≡ true → part_of s lo hi ≡ Some (lit_of lo false, neg_ℚ s)
part-down s lo hi e f =
    ap (λ (c : Bool). cond c (Some (lit_of hi true, s)) (cond (is_negative s) (Some (lit_of lo false, neg_ℚ s)) None)) e
    ∙ ap (λ (c : Bool). cond c (Some (lit_of lo false, neg_ℚ s)) None) f

part-none : (s : Fraction) (lo hi : ℕ) → is_positive s ≡ false → is_negative s ≡ false → part_of s lo hi ≡ None
part-none s lo hi e f =
    ap (λ (c : Bool). cond c (Some (lit_of hi true, s)) (cond (is_negative s) (Some (lit_of lo false, neg_ℚ s)) None)) e
    ∙ ap (λ (c : Bool). cond c (Some (lit_of lo false, neg_ℚ s)) None) f

module _ (f : Contents) (lits : List Lit) (t : Table) (lower upper : Bounds) (set : IsSetting f lits t lower upper) where
  abbrev pub all_sides : List (Option Sides)
  all_sides = sides_of f.counts (rows_of f.atoms) f.atoms

  -- an asserted literal that bounds a variable
  pub record IsPartOf (n r : ℕ) (p : Part) : Type 0 where
    pub variable : ℕ
    pub below : variable < n
    pub apart : variable ≢ r
    pub bound : Bound
    pub gives : Gives (sides_of f.counts (rows_of f.atoms) f.atoms) p.0 variable bound
    pub within : Contains lits p.0

  longer : (n r : ℕ) (ps : List Part) → AllByRecursion (IsPartOf n r) ps → AllByRecursion (IsPartOf (suc n) r) ps
  longer n r [] h = tt
  longer n r (p ∷ ps) h = (record { variable = h.0.variable; below = omega (arith, h.0.below); apart = h.0.apart; bound = h.0.bound; gives = h.0.gives; within = h.0.within }, longer n r ps h.1)

  push_part : (n r : ℕ) (ps : List Part) (p : Part) → AllByRecursion (IsPartOf n r) ps → IsPartOf n r p → AllByRecursion (IsPartOf n r) (ps ++ p ∷ [])
  push_part n r [] p h g = (g, tt)
  push_part n r (q ∷ ps) p h g = (h.0, push_part n r ps p h.1 g)

  -- literals of one Boolean bound one variable
  pub one_variable : (l m : Lit) (i j : ℕ) (b c : Bound) → Gives (sides_of f.counts (rows_of f.atoms) f.atoms) l i b → Gives (sides_of f.counts (rows_of f.atoms) f.atoms) m j c → l.boolean ≡ m.boolean → i ≡ j
  one_variable l m i j b c g h e =
      sym g.variable ∙ ap (λ (s : Sides). s.variable) (one_side (sides_of f.counts (rows_of f.atoms) f.atoms) l g.side h.side g.has (subst (λ (n : ℕ). slice_get (sides_of f.counts (rows_of f.atoms) f.atoms) n ≡ Some (Some h.side)) (sym e) h.has)) ∙ h.variable

  -- parts of other variables are of other Booleans
  pub no_hit : (n r : ℕ) (ps : List Part) → AllByRecursion (IsPartOf n r) ps → (l : Lit) (i : ℕ) (b : Bound) → Gives (sides_of f.counts (rows_of f.atoms) f.atoms) l i b → ((j : ℕ) → j < n → j ≢ r → j ≢ i) → sum_by (hits l.boolean) ps ≡ 0
  no_hit n r [] h l i b g d = refl
  no_hit n r (p ∷ ps) h l i b g d =
      let other : hits l.boolean p ≡ 0 = hits-other l.boolean p (λ e. d h.0.variable h.0.below h.0.apart (one_variable p.0 l h.0.variable i h.0.bound b h.0.gives g e)) in
      omega (arith, sum_by-cons (hits l.boolean) p ps, no_hit n r ps h.1 l i b g d)

  module _ (place : ℕ → Pair) (s : ℕ → Fraction) (r : ℕ) where
    abbrev pub terms : ℕ → Terms
    terms = variable_terms (length f.counts) (rows_of f.atoms)

    abbrev pub l : Limits
    l = limits_of lower upper

    -- the parts so far
    pub record AreParts (n : ℕ) (held : (j : ℕ) → j < n → Held (limits_of lower upper) (place j) j (s j)) (ps : List Part) : Type 0 where
      pub rows : IsPermutation (parts (limits_of lower upper) (variable_terms (length f.counts) (rows_of f.atoms)) place s n held) (map (row_by f) ps)
      pub each : AllByRecursion (IsPartOf n r) ps
      pub once : IsOnce ps

    pushed_once : (n : ℕ) (ps : List Part) (p : Part) → AllByRecursion (IsPartOf n r) ps → IsOnce ps → IsPartOf (suc n) r p → (b : Bound) → Gives (sides_of f.counts (rows_of f.atoms) f.atoms) p.0 n b → IsOnce (ps ++ p ∷ [])
    pushed_once n ps p h o i b g a = by_test (nat_eq p.0.boolean a) refl
      where
        by_test : (c : Bool) → nat_eq p.0.boolean a ≡ c → sum_by (hits a) (ps ++ p ∷ []) ≤ 1
        by_test true e =
            let same : p.0.boolean ≡ a = nat_eq-true p.0.boolean a e in
            subst (λ (m : ℕ). sum_by (hits m) (ps ++ p ∷ []) ≤ 1) same
            (omega (arith, sum_by_push (hits p.0.boolean) ps p, hits-own p, no_hit n r ps h p.0 n b g (λ j lj d e. omega arith)))
        by_test false e = omega (arith, sum_by_push (hits a) ps p, hits-other a p (nat_eq-false p.0.boolean a e), o a)

    -- one more part
    add_part : (n : ℕ) (rows : List Row) (ps : List Part) (p : Part) (row : Row) (b : Bound) → IsPermutation rows (map (row_by f) ps) → AllByRecursion (IsPartOf n r) ps → IsOnce ps → n ≢ r
        → Gives (sides_of f.counts (rows_of f.atoms) f.atoms) p.0 n b → Contains lits p.0 → row_by f p ≡ row
        → IsPermutation (row ∷ rows) (map (row_by f) (ps ++ p ∷ [])) × AllByRecursion (IsPartOf (suc n) r) (ps ++ p ∷ []) × IsOnce (ps ++ p ∷ [])
    add_part n rows ps p row b h g o d gives c e =
        let own : IsPartOf (suc n) r p = record { variable = n; below = omega arith; apart = d; bound = b; gives = gives; within = c } in (
          subst (λ (x : Row). IsPermutation (x ∷ rows) (map (row_by f) (ps ++ p ∷ []))) e
              (subst (λ (xs : List Row). IsPermutation (row_by f p ∷ rows) xs) (sym (map-append (row_by f) ps (p ∷ [])))
              (IsPermutation-trans _ _ _ (IsPermutation-cons (row_by f p) rows (map (row_by f) ps) h) (IsPermutation-sym _ _ (IsPermutation-to_front (map (row_by f) ps) (row_by f p))))),
          push_part (suc n) r ps p (longer n r ps g) own,
          pushed_once n ps p g o own b gives,
        )

    -- the next variable
    pub parts_more : (n : ℕ) → n < width t → (held : (j : ℕ) → j < suc n → Held (limits_of lower upper) (place j) j (s j)) → (n ≡ r → s n ≡ whole (pos 0)) → (ps : List Part)
        → AreParts n (λ j m. held j (still_below n j m)) ps → AreParts (suc n) held (ps ++ listed (part_of (s n) (number_at lower.by.items n) (number_at upper.by.items n)))
    parts_more n ln held zero_own ps h = by_kind (held n (own_below n)) refl
      where
        lo : ℕ
        lo = number_at lower.by.items n

        before : List Row
        before = parts (limits_of lower upper) (variable_terms (length f.counts) (rows_of f.atoms)) place s n (λ j m. held j (still_below n j m))

        made : (x : Held (limits_of lower upper) (place n) n (s n)) → held n (own_below n) ≡ x → (o : Option Part) → part_of (s n) (number_at lower.by.items n) (number_at upper.by.items n) ≡ o
            → IsPermutation (part (limits_of lower upper) (place n) n (s n) (variable_terms (length f.counts) (rows_of f.atoms) n) x (parts (limits_of lower upper) (variable_terms (length f.counts) (rows_of f.atoms)) place s n (λ j m. held j (still_below n j m)))) (map (row_by f) (ps ++ listed o))
            → AllByRecursion (IsPartOf (suc n) r) (ps ++ listed o) → IsOnce (ps ++ listed o)
            → AreParts (suc n) held (ps ++ listed (part_of (s n) (number_at lower.by.items n) (number_at upper.by.items n)))
        made x ex o eo a b c =
            subst (λ (q : Option Part). AreParts (suc n) held (ps ++ listed q)) (sym eo)
            (record {
              rows = subst (λ (y : Held (limits_of lower upper) (place n) n (s n)). IsPermutation (part (limits_of lower upper) (place n) n (s n) (variable_terms (length f.counts) (rows_of f.atoms) n) y (parts (limits_of lower upper) (variable_terms (length f.counts) (rows_of f.atoms)) place s n (λ j m. held j (still_below n j m)))) (map (row_by f) (ps ++ listed o))) (sym ex) a;
              each = b;
              once = c;
            })

        apart : (s n ≡ whole (pos 0) → ⊥) → n ≢ r
        apart d e = d (zero_own e)

        by_kind : (x : Held (limits_of lower upper) (place n) n (s n)) → held n (own_below n) ≡ x → AreParts (suc n) held (ps ++ listed (part_of (s n) (number_at lower.by.items n) (number_at upper.by.items n)))
        by_kind (up p b o m q) ex =
            let tight = subst (λ (w : Option Bound). IsTightest (sides_of f.counts (rows_of f.atoms) f.atoms) lits true n (number_at upper.by.items n) w) o (set.upper_is.each n ln) in
            let a = add_part n _ ps (lit_of (number_at upper.by.items n) true, s n) (upper_row b (variable_terms (length f.counts) (rows_of f.atoms) n) (s n)) b h.rows h.each h.once (apart (positive_apart (s n) p)) tight.1 tight.0
            (row_up f set.formula (number_at upper.by.items n) n b (s n) tight.1) in
            made (up p b o m q) ex (Some (lit_of (number_at upper.by.items n) true, s n)) (part-up (s n) _ _ (positive_test (s n) p)) a.0 a.1 a.2
        by_kind (down p b o m q) ex =
            let tight = subst (λ (w : Option Bound). IsTightest (sides_of f.counts (rows_of f.atoms) f.atoms) lits false n (number_at lower.by.items n) w) o (set.lower_is.each n ln) in
            let a = add_part n _ ps (lit_of (number_at lower.by.items n) false, neg_ℚ (s n)) (lower_row b (variable_terms (length f.counts) (rows_of f.atoms) n) (neg_ℚ (s n))) b h.rows h.each h.once
            (apart (λ e. positive_apart (neg_ℚ (s n)) p (solve_from fraction-ring (inv (v 0)) (k (pos 0)) (s n ∷ []) (eq (inv (k (pos 1))) (v 0) (k (pos 0)) e done) refl))) tight.1 tight.0
            (row_down f set.formula (number_at lower.by.items n) n b (neg_ℚ (s n)) tight.1) in
            made (down p b o m q) ex (Some (lit_of (number_at lower.by.items n) false, neg_ℚ (s n))) (part-down (s n) _ _ (negative_not_positive (s n) p) (negative_test (s n) p)) a.0 a.1 a.2
        by_kind (free z) ex =
            let g = zero_tests (s n) z in
            let same : ps ++ [] ≡ ps = append-nil ps in
            made (free z) ex None (part-none (s n) _ _ g.0 g.1)
            (subst (λ (qs : List Part). IsPermutation (parts (limits_of lower upper) (variable_terms (length f.counts) (rows_of f.atoms)) place s n (λ j m. held j (still_below n j m))) (map (row_by f) qs)) (sym same) h.rows)
            (subst (λ (qs : List Part). AllByRecursion (IsPartOf (suc n) r) qs) (sym same) (longer n r ps h.each))
            (subst (λ (qs : List Part). IsOnce qs) (sym same) h.once)

    pub parts_none : (held : (j : ℕ) → j < 0 → Held (limits_of lower upper) (place j) j (s j)) → AreParts 0 held []
    parts_none held = record { rows = IsPermutation-refl []; each = tt; once = λ b. omega arith }
