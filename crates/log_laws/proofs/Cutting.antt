-- A point with more values and truths than the formula has variables and Booleans says the same without them.
use Rattle.std.proofs.Common.{◌≡◌, ℕ, suc, ◌<◌, ◌≤◌, Bool, true, false, not, ◌||◌, ◌&&◌, cond, List, [], ◌∷◌, length, take, Option, Some, None, refl, sym, ap, ap₂, subst, ◌∙◌, arith, nat_lt, nat_le}
use Rattle.std.specs.Prelude.{slice_get}
use Rattle.std.specs.List.{list_all}
use Rattle.std.proofs.lemmas.Bool.{and_parts}
use Rattle.std.proofs.lemmas.Bool.Decides.{nat_tests}
use Rattle.std.proofs.lemmas.List.{get_or-take, length-take-le}
use Rattle.std.proofs.lemmas.Option.{slice_get_within}
use lib.IntN.{pos, negsuc}
use Rattle.rational.specs.Fraction.{Fraction, whole, neg_ℚ, ◌+ℚ◌, ◌*ℚ◌}
use Rattle.rational.specs.Linear.{Terms, value_at}
use Rattle.rational.specs.Floor.{IsWhole}
use Rattle.rational.specs.Farkas.{InOrder}
use Rattle.lin.specs.Linear.{Linear, point_of, value_of, AreBelow}
use Rattle.lin.specs.Negative.{negative}
use Rattle.lin.proofs.ValueLaws.{value_scale}
use Rattle.formula.specs.declared.atom.Atom.{Atom}
use Rattle.formula.specs.declared.atom.Constraint.{Constraint}
use Rattle.formula.specs.declared.atom.Lit.{Lit}
use Rattle.formula.specs.declared.point.Point.{Point}
use Rattle.formula.specs.Atoms.{is_one_count}
use Rattle.formula.specs.Contents.{Contents, IsFormula, is_clause, is_clause_from}
use Rattle.formula.specs.Meets.{truth_at, is_true, are_met, AreWhole, IsSolution}
use Rattle.formula.specs.Reading.{Holds, reading, reading_where, atom_of}
use Rattle.formula.proofs.Readings.{atom_is}
use Rattle.log_laws.proofs.Units.{clause_true}
use Rattle.log_laws.proofs.Keeping.{point, MeetsBy}

is_less : (m n : ℕ) → nat_lt m n ≡ true → m < n
is_less m n e = grind (arith, nat_tests)

-- ---- values
same_terms : (n : ℕ) (values : List Fraction) (ts : Terms) → AreBelow n ts → value_at (point_of (take n values)) ts ≡ value_at (point_of values) ts
same_terms n values [] h = refl
same_terms n values (t ∷ ts) h =
    let p = and_parts (nat_lt t.0 n) _ h in
    ap₂ (λ x y. t.1 *ℚ x +ℚ y) (get_or-take n values t.0 (whole (pos 0)) (is_less t.0 n p.0)) (same_terms n values ts p.1)

same_value : (n : ℕ) (values : List Fraction) (l : Linear) → AreBelow n l.terms → value_of (point_of (take n values)) l ≡ value_of (point_of values) l
same_value n values l h = ap (λ w. w +ℚ l.constant) (same_terms n values l.terms h)

same_negative : (n : ℕ) (values : List Fraction) (l : Linear) → AreBelow n l.terms → value_of (point_of (take n values)) (negative l) ≡ value_of (point_of values) (negative l)
same_negative n values l h =
    value_scale (point_of (take n values)) (whole (negsuc 0)) l
    ∙ ap (λ w. whole (negsuc 0) *ℚ w) (same_value n values l h)
    ∙ sym (value_scale (point_of values) (whole (negsuc 0)) l)

-- the reading of an atom, where it is false by whether it is of one count
abbrev denied_as : Bool → Atom → Constraint
denied_as one a =
    cond one (record { lin = negative a.lin; strict = false; bound = neg_ℚ (a.bound +ℚ whole (pos 1)) }) (record { lin = negative a.lin; strict = not a.strict; bound = neg_ℚ a.bound })

denied_holds : (n : ℕ) (values : List Fraction) (one : Bool) (a : Atom) → AreBelow n a.lin.terms → Holds (point_of values) (denied_as one a) → Holds (point_of (take n values)) (denied_as one a)
denied_holds n values true a h g = subst (λ w. InOrder false w (neg_ℚ (a.bound +ℚ whole (pos 1)))) (sym (same_negative n values a.lin h)) g
denied_holds n values false a h g = subst (λ w. InOrder (not a.strict) w (neg_ℚ a.bound)) (sym (same_negative n values a.lin h)) g

reading_holds : (n : ℕ) (values : List Fraction) (counts : List Bool) (a : Atom) (t : Bool) → AreBelow n a.lin.terms → Holds (point_of values) (reading counts a t) → Holds (point_of (take n values)) (reading counts a t)
reading_holds n values counts a true h g = subst (λ w. InOrder a.strict w a.bound) (sym (same_value n values a.lin h)) g
reading_holds n values counts a false h g = denied_holds n values (is_one_count counts a.lin.terms) a h g

atom_holds : (f : Contents) (values : List Fraction) → IsFormula f → (b : ℕ) (t : Bool) (o : Option Atom) → atom_of f b ≡ o → Holds (point_of values) (reading_where f.counts o t) → Holds (point_of (take (length f.counts) values)) (reading_where f.counts o t)
atom_holds f values is b t None e h = h
atom_holds f values is b t (Some a) e h = reading_holds (length f.counts) values f.counts a t (atom_is f b a is e).known h

-- ---- truths
same_truth : (n : ℕ) (truth : List Bool) (b : ℕ) → b < n → truth_at (take n truth) b ≡ truth_at truth b
same_truth n truth b less = get_or-take n truth b false less

same_clause : (n : ℕ) (truth : List Bool) (least : ℕ) (c : List Lit) → is_clause_from least n c ≡ true → clause_true (take n truth) c ≡ clause_true truth c
same_clause n truth least [] h = refl
same_clause n truth least (l ∷ c) h =
    let p = and_parts (nat_le least l.boolean) _ h in
    let q = and_parts (nat_lt l.boolean n) _ p.1 in
    ap₂ (λ (x : Bool) (y : Bool). cond l.pos x (not x) || y) (same_truth n truth l.boolean (is_less l.boolean n q.0)) (same_clause n truth (suc l.boolean) c q.1)

same_clauses : (n : ℕ) (truth : List Bool) (cs : List (List Lit)) → list_all (is_clause n) cs ≡ true → are_met (take n truth) cs ≡ are_met truth cs
same_clauses n truth [] h = refl
same_clauses n truth (c ∷ cs) h =
    let p = and_parts (is_clause n c) _ h in
    ap₂ (λ (x : Bool) (y : Bool). x && y) (same_clause n truth 0 c p.0) (same_clauses n truth cs p.1)

-- ---- the whole
module _ (f : Contents) (p : Point) (is : IsFormula f) (s : IsSolution f p) where
  pub values : List Fraction
  values = take (length f.counts) p.values

  pub truth : List Bool
  truth = take (length f.atoms) p.truth

  pub values_long : length (take (length f.counts) p.values) ≡ length f.counts
  values_long = length-take-le (length f.counts) p.values s.point.values

  pub integral : AreWhole f.counts (take (length f.counts) p.values)
  integral v count = subst IsWhole (sym (get_or-take (length f.counts) p.values v (whole (pos 0)) (slice_get_within f.counts v true count))) (s.integral v count)

  pub meets : MeetsBy f (take (length f.counts) p.values) (take (length f.atoms) p.truth)
  meets = record {
    long = length-take-le (length f.atoms) p.truth s.point.truth;
    meets = record {
      clauses = same_clauses (length f.atoms) p.truth f.clauses is.clauses ∙ s.meets.clauses;
      atoms = λ b less. record {
        holds = subst (λ (t : Bool). Holds (point_of (take (length f.counts) p.values)) (reading_where f.counts (atom_of f b) t)) (sym (same_truth (length f.atoms) p.truth b less))
            (atom_holds f p.values is b (truth_at p.truth b) (atom_of f b) refl (s.meets.atoms b less).holds);
      };
    };
  }
