-- A step of a sound log leaves a point with whole counts one that meets the formula so far; a split gives it one truth more.
use Rattle.std.proofs.Common.{◌≡◌, ℕ, suc, ◌+◌, ◌<◌, ◌≤◌, Bool, true, false, not, ◌||◌, ◌&&◌, cond, List, [], ◌∷◌, ◌++◌, length, Option, Some, None, get_or, refl, sym, ap, ap₂, subst, ◌∙◌, ◌⊎◌, inl, inr, arith, nat_lt, nat_le, length-append}
use Rattle.std.specs.Prelude.{slice_get, slice_index_or}
use Rattle.std.specs.List.{Any, list_any, list_all}
use Rattle.std.proofs.lemmas.Bool.{cases_lt, and_parts, and_from}
use Rattle.std.proofs.lemmas.Bool.Decides.{nat_tests}
use Rattle.std.proofs.lemmas.Option.{slice_get_within, get_or_from_slice_get}
use Rattle.std.proofs.lemmas.List.{get_or_append_left}
use Rattle.rational.specs.Fraction.{Fraction, whole, ◌+ℚ◌}
use Rattle.lin.specs.Linear.{point_of}
use Rattle.formula.specs.declared.atom.Atom.{Atom}
use Rattle.formula.specs.declared.atom.Lit.{Lit}
use Rattle.formula.specs.declared.point.Point.{Point}
use Rattle.formula.specs.Contents.{Contents, IsFormula, is_clause, is_clause_from, with_clause, with_boolean}
use Rattle.formula.specs.Meets.{truth_at, is_true, are_met, HasTrue, AreWhole, HoldsAt, Meets}
use Rattle.formula.specs.Reading.{Holds, reading, reading_where, atom_of}
use Rattle.formula.proofs.Growing.{formula-boolean}
use Rattle.formula.proofs.Splits.{split_is_atom}
use Rattle.formula.proofs.Truths.{is_met}
use Rattle.theory_law.specs.Readings.{BooleanReads, Reads}
use Rattle.theory_law.specs.Splits.{CanSplit, at_most}
use Rattle.theory_law.specs.declared.log.LogStep.{LogStep}
use Rattle.theory_law.specs.declared.log.LogStep.TheVariants.{Lemma, Learn, Split}
use Rattle.theory_law.specs.Log.{after, after_log, IsSound, IsSoundLog, HasEmpty}
use Rattle.log_laws.proofs.Readings.{one_truth, split_reads}
use Rattle.log_laws.proofs.Units.{clause_true, learned_true, none_empty}

abbrev pub point : List Fraction → List Bool → Point
point values truth = record { values = values; truth = truth }

-- a truth for each Boolean, by which the values meet the formula
pub record MeetsBy (f : Contents) (values : List Fraction) (truth : List Bool) : Type 0 where
  pub long : length truth ≡ length f.atoms
  pub meets : Meets f (point values truth)

-- what is shown holds at whole counts
abbrev pub Means : {W : Type 0} → (List Bool → List (Option Atom) → List Lit → W → Type 0) → Type 0
Means {W = W} Shown =
    (counts : List Bool) (atoms : List (Option Atom)) (clause : List Lit) (why : W) → Shown counts atoms clause why
    → (values : List Fraction) → length values ≡ length counts → AreWhole counts values → Any (Reads counts atoms values) clause

-- ---- one more clause

all_push : {A : Type 0} (p : A → Bool) (xs : List A) (x : A) → list_all p xs ≡ true → p x ≡ true → list_all p (xs ++ x ∷ []) ≡ true
all_push p [] x h e = and_from (p x) true e refl
all_push p (y ∷ xs) x h e = let q = and_parts (p y) (list_all p xs) h in and_from (p y) _ q.0 (all_push p xs x q.1 e)

with_true : (f : Contents) (values : List Fraction) (truth : List Bool) (c : List Lit) → MeetsBy f values truth → clause_true truth c ≡ true → MeetsBy (with_clause c f) values truth
with_true f values truth c m e = record {
  long = m.long;
  meets = record {
    clauses = all_push (λ d. list_any (is_true truth) d) f.clauses c m.meets.clauses e;
    atoms = λ b less. record { holds = (m.meets.atoms b less).holds };
  };
}

-- ---- a lemma

sign_true : (truth : List Bool) (l : Lit) → l.pos ≡ truth_at truth l.boolean → is_true truth l ≡ true
sign_true truth l e = by_sign l.pos (truth_at truth l.boolean) e
  where
    by_sign : (s t : Bool) → s ≡ t → cond s t (not t) ≡ true
    by_sign true true e = refl
    by_sign true false e = absurd (cc)
    by_sign false true e = absurd (cc)
    by_sign false false e = refl

read_true : (f : Contents) (values : List Fraction) (truth : List Bool) → MeetsBy f values truth → (l : Lit) (o : Option (Option Atom)) → slice_get f.atoms l.boolean ≡ o
    → BooleanReads f.counts values o l.pos → is_true truth l ≡ true
read_true f values truth m l None e h = absurd h
read_true f values truth m l (Some None) e h = absurd h
read_true f values truth m l (Some (Some a)) e h =
    let b : ℕ = l.boolean in
    let is_atom : atom_of f b ≡ Some a = get_or_from_slice_get f.atoms b (Some a) None e in
    let held = (m.meets.atoms b (slice_get_within f.atoms b (Some a) e)).holds in
    let reads : Holds (point_of values) (reading f.counts a (truth_at truth b)) = subst (λ (x : Option Atom). Holds (point_of values) (reading_where f.counts x (truth_at truth b))) is_atom held in
    sign_true truth l (one_truth (point_of values) f.counts a l.pos (truth_at truth b) h reads)

shown_true : (f : Contents) (values : List Fraction) (truth : List Bool) → MeetsBy f values truth → (c : List Lit) → Any (Reads f.counts f.atoms values) c → clause_true truth c ≡ true
shown_true f values truth m c h = is_met truth c (h.0, h.1, h.2, h.3, read_true f values truth m h.1 (slice_get f.atoms h.1.boolean) refl h.4)

-- ---- one more Boolean

same_before : (truth : List Bool) (t : Bool) (b : ℕ) → b < length truth → truth_at (truth ++ t ∷ []) b ≡ truth_at truth b
same_before truth t b less = get_or_append_left truth (t ∷ []) false b less

last_is : {A : Type 0} (xs : List A) (x d : A) → slice_index_or (xs ++ x ∷ []) (length xs) d ≡ x
last_is [] x d = refl
last_is (y ∷ xs) x d = last_is xs x d

is_less : (m n : ℕ) → nat_lt m n ≡ true → m < n
is_less m n e = grind (arith, nat_tests)

same_clause : (truth : List Bool) (t : Bool) (least : ℕ) (c : List Lit) → is_clause_from least (length truth) c ≡ true → clause_true (truth ++ t ∷ []) c ≡ clause_true truth c
same_clause truth t least [] h = refl
same_clause truth t least (l ∷ c) h =
    let p = and_parts (nat_le least l.boolean) _ h in
    let q = and_parts (nat_lt l.boolean (length truth)) _ p.1 in
    ap₂ (λ (x : Bool) (y : Bool). cond l.pos x (not x) || y) (same_before truth t l.boolean (is_less l.boolean (length truth) q.0)) (same_clause truth t (suc l.boolean) c q.1)

same_clauses : (truth : List Bool) (t : Bool) (cs : List (List Lit)) → list_all (is_clause (length truth)) cs ≡ true → are_met (truth ++ t ∷ []) cs ≡ are_met truth cs
same_clauses truth t [] h = refl
same_clauses truth t (c ∷ cs) h =
    let p = and_parts (is_clause (length truth) c) _ h in
    ap₂ (λ (x : Bool) (y : Bool). x && y) (same_clause truth t 0 c p.0) (same_clauses truth t cs p.1)

module _ (f : Contents) (values : List Fraction) (truth : List Bool) (m : MeetsBy f values truth) (a : Atom) (t : Bool) (holds : Holds (point_of values) (reading f.counts a t)) where
  old_holds : (b : ℕ) → b < length f.atoms → Holds (point_of values) (reading_where f.counts (atom_of (with_boolean (Some a) f) b) (truth_at (truth ++ t ∷ []) b))
  old_holds b less =
      let P : Option Atom → Bool → Type 0 = λ x y. Holds (point_of values) (reading_where f.counts x y) in
      let shorter : b < length truth = omega (arith, less, m.long) in
      subst (λ (x : Option Atom). P x (truth_at (truth ++ t ∷ []) b)) (sym (get_or_append_left f.atoms (Some a ∷ []) None b less))
      (subst (λ (y : Bool). P (atom_of f b) y) (sym (same_before truth t b shorter)) (m.meets.atoms b less).holds)

  new_holds : Holds (point_of values) (reading_where f.counts (atom_of (with_boolean (Some a) f) (length f.atoms)) (truth_at (truth ++ t ∷ []) (length f.atoms)))
  new_holds =
      let P : Option Atom → Bool → Type 0 = λ x y. Holds (point_of values) (reading_where f.counts x y) in
      let last : truth_at (truth ++ t ∷ []) (length f.atoms) ≡ t = subst (λ (n : ℕ). truth_at (truth ++ t ∷ []) n ≡ t) m.long (last_is truth t false) in
      subst (λ (x : Option Atom). P x (truth_at (truth ++ t ∷ []) (length f.atoms))) (sym (last_is f.atoms (Some a) None))
      (subst (λ (y : Bool). P (Some a) y) (sym last) holds)

  at_boolean : (b : ℕ) → b < length (f.atoms ++ Some a ∷ []) → (b < length f.atoms) ⊎ (length f.atoms ≤ b)
      → Holds (point_of values) (reading_where f.counts (atom_of (with_boolean (Some a) f) b) (truth_at (truth ++ t ∷ []) b))
  at_boolean b within (inl less) = old_holds b less
  at_boolean b within (inr more) =
      let size = length-append f.atoms (Some a ∷ []) in
      let same : length f.atoms ≡ b = omega (arith, within, more, size) in
      subst (λ (n : ℕ). Holds (point_of values) (reading_where f.counts (atom_of (with_boolean (Some a) f) n) (truth_at (truth ++ t ∷ []) n))) same new_holds

  with_truth : IsFormula f → MeetsBy (with_boolean (Some a) f) values (truth ++ t ∷ [])
  with_truth is = record {
    long = let x = length-append truth (t ∷ []) in let y = length-append f.atoms (Some a ∷ []) in omega (arith, x, y, m.long);
    meets = record {
      clauses = same_clauses truth t f.clauses (subst (λ (n : ℕ). list_all (is_clause n) f.clauses ≡ true) (sym m.long) is.clauses) ∙ m.meets.clauses;
      atoms = λ b within. record { holds = at_boolean b within (cases_lt b (length f.atoms)) };
    };
  }

-- ---- a log

formula_clause : (f : Contents) (c : List Lit) → IsFormula f → is_clause (length f.atoms) c ≡ true → IsFormula (with_clause c f)
formula_clause f c is e = record { atoms = is.atoms; clauses = all_push (is_clause (length f.atoms)) f.clauses c is.clauses e }

module _ {W : Type 0} (Shown : List Bool → List (Option Atom) → List Lit → W → Type 0) (means : Means Shown) (values : List Fraction) where
  still_formula : (f : Contents) (s : LogStep W) → IsFormula f → IsSound Shown f s → IsFormula (after f s)
  still_formula f (Lemma c why) is h = formula_clause f c is h.0
  still_formula f (Learn c hints) is h = formula_clause f c is h.0
  still_formula f (Split b n k p) is h = formula-boolean f (Some (at_most n k)) is (split_is_atom f.counts n k _ refl h.1.count h.1.integral h.1.next)

  step_keeps : (f : Contents) (s : LogStep W) → IsFormula f → IsSound Shown f s → length values ≡ length f.counts → AreWhole f.counts values
      → (truth : List Bool) → MeetsBy f values truth → (more : List Bool) × MeetsBy (after f s) values more
  step_keeps f (Lemma c why) is h long integral truth m = (truth, with_true f values truth c m (shown_true f values truth m c (means f.counts f.atoms c why h.1 values long integral)))
  step_keeps f (Learn c hints) is h long integral truth m = (truth, with_true f values truth c m (learned_true truth f.clauses m.meets.clauses c hints h.1))
  step_keeps f (Split b n k p) is h long integral truth m =
      let r = split_reads (point_of values) f.counts n k h.1.count h.1.integral (integral n h.1.count) in
      (truth ++ r.0 ∷ [], with_truth f values truth m (at_most n k) r.0 r.1 is)

  same_counts : (f : Contents) (s : LogStep W) → (after f s).counts ≡ f.counts
  same_counts f (Lemma c why) = refl
  same_counts f (Learn c hints) = refl
  same_counts f (Split b n k p) = refl

  log_keeps : (f : Contents) (log : List (LogStep W)) → IsFormula f → IsSoundLog Shown f log → length values ≡ length f.counts → AreWhole f.counts values
      → (truth : List Bool) → MeetsBy f values truth → (more : List Bool) × MeetsBy (after_log f log) values more
  log_keeps f [] is h long integral truth m = (truth, m)
  log_keeps f (s ∷ log) is h long integral truth m =
      let q = step_keeps f s is h.0 long integral truth m in
      let same = same_counts f s in
      log_keeps (after f s) log (still_formula f s is h.0) h.1 (subst (λ (c : List Bool). length values ≡ length c) (sym same) long) (subst (λ (c : List Bool). AreWhole c values) (sym same) integral) q.0 q.1

  pub no_exact_point : (f : Contents) (log : List (LogStep W)) → IsFormula f → IsSoundLog Shown f log → HasEmpty (after_log f log) → length values ≡ length f.counts → AreWhole f.counts values
      → (truth : List Bool) → MeetsBy f values truth → ⊥
  no_exact_point f log is h empty long integral truth m =
      let q = log_keeps f log is h long integral truth m in
      none_empty q.0 (after_log f log).clauses q.1.meets.clauses empty
