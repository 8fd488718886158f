-- What the test of one Boolean answers, of what the value of its expression answers.
use Rattle.std.proofs.Common.{◌≡◌, ◌<◌, ◌≤◌, ◌↔◌, ℕ, ◌+◌, Bool, true, false, not, cond, List, length, get_or, Option, Some, None, refl, sym, ap, ap₂, subst, ◌∙◌, arith}
use Rattle.std.specs.Prelude.{IsTrue, Result, Ok, Err}
use Rattle.std.specs.List.{list_all}
use Rattle.std.proofs.lemmas.List.Elements.{All-get_or}
use borrow.Author.Count.{below_more}
use lib.IntN.{pos}
use Rattle.rational.specs.Fraction.{Fraction, whole, neg_ℚ, ◌+ℚ◌}
use Rattle.rational.specs.Farkas.{InOrder}
use Rattle.frac128.specs.declared.operations.Wide.{Wide}
use Rattle.lin.specs.Linear.{AreBelow, point_of, value_of}
use Rattle.lin.specs.Negative.{negative}
use Rattle.lin.specs.Operations.{AllFit, IsFirstPassing}
use Rattle.lin.specs.Made.{value_ops}
use Rattle.formula.specs.declared.atom.Atom.{Atom}
use Rattle.formula.specs.declared.atom.Constraint.{Constraint}
use Rattle.formula.specs.declared.atom.Lit.{Lit}
use Rattle.formula.specs.declared.point.Point.{Point}
use Rattle.formula.specs.Atoms.{IsAtom, is_one_count}
use Rattle.formula.specs.Contents.{Contents, IsFormula, IsBoolean, is_clause}
use Rattle.formula.specs.Reading.{Holds, reading, reading_where, affirmed, denied, atom_of}
use Rattle.formula.specs.Meets.{HoldsAnswers, HoldsAt, FitsAt, HoldsBelow, FailsFirst, PassesFirst, IsPointOf, Meets, constraint_at, truth_at, are_met}
use Rattle.lin.proofs.Substituting.{same_default}
use Rattle.formula.proofs.Growing.{below-more, clauses-more}
use Rattle.formula.proofs.MeetingSteps.{nothing_holds}

-- ---- one constraint
pub passed_at : (at : ℕ → Fraction) (c d : Constraint) (w : Wide) → d ≡ c → IsFirstPassing w (value_ops at c.lin) → IsFirstPassing w (value_ops at d.lin)
passed_at at c d w e h = subst (λ (x : Constraint). IsFirstPassing w (value_ops at x.lin)) (sym e) h

pub tested_at : (at : ℕ → Fraction) (c d : Constraint) (b : Bool) (x : Fraction) → d ≡ c → AllFit (value_ops at c.lin) × (x ≡ value_of at c.lin)
    → IsTrue b ↔ InOrder c.strict x c.bound → AllFit (value_ops at d.lin) × (IsTrue b ↔ Holds at d)
tested_at at c d b x e h i =
    let P : Constraint → Type 0 = λ y. AllFit (value_ops at y.lin) × (IsTrue b ↔ Holds at y) in
    let Q : Fraction → Type 0 = λ y. IsTrue b ↔ InOrder c.strict y c.bound in
    subst P (sym e) (h.0, subst Q h.1 i)

pub affirmed_is : (counts : List Bool) (a : Atom) (p : Bool) → p ≡ true → reading counts a p ≡ affirmed a
affirmed_is counts a p e = ap (λ (b : Bool). reading counts a b) e

abbrev bounded : Atom → Bool → Fraction → Constraint
bounded a t y = record { lin = negative a.lin; strict = t; bound = y }

abbrev kind : Atom → Bool → Constraint
kind a b = cond b (bounded a false (neg_ℚ (a.bound +ℚ whole (pos 1)))) (bounded a (not a.strict) (neg_ℚ a.bound))

by_kind : (a : Atom) (b : Bool) → kind a b ≡ bounded a (kind a b).strict (kind a b).bound
by_kind a true = refl
by_kind a false = refl

pub denied_as : (counts : List Bool) (a : Atom) (p s : Bool) (x : Fraction) → p ≡ false → s ≡ (denied counts a).strict → x ≡ (denied counts a).bound
    → reading counts a p ≡ record { lin = negative a.lin; strict = s; bound = x }
denied_as counts a p s x e f g = ap (λ (b : Bool). reading counts a b) e ∙ by_kind a (is_one_count counts a.lin.terms) ∙ sym (ap₂ (bounded a) f g)

pub known_more : (k : ℕ) (counts : List Bool) (a : Atom) → IsAtom counts a → length counts ≤ k → AreBelow k a.lin.terms
known_more k counts a h l = below-more (length counts) k l a.lin.terms h.known

-- ---- a Boolean
pub boolean_some : (counts : List Bool) (o : Option Atom) (a : Atom) → o ≡ Some a → IsBoolean counts o → IsAtom counts a
boolean_some counts o a e h = subst (IsBoolean counts) e h

pub none_answer : (at : ℕ → Fraction) (counts : List Bool) (o : Option Atom) (p : Bool) → o ≡ None
    → AllFit (value_ops at (reading_where counts o p).lin) × (IsTrue true ↔ Holds at (reading_where counts o p))
none_answer at counts o p e =
    let P : Option Atom → Type 0 = λ x. AllFit (value_ops at (reading_where counts x p).lin) × (IsTrue true ↔ Holds at (reading_where counts x p)) in
    subst P (sym e) (tt, ((λ h. nothing_holds at), λ h. refl))

pub some_answer : (at : ℕ → Fraction) (counts : List Bool) (o : Option Atom) (a : Atom) (p : Bool) (r : Result Bool Wide) → o ≡ Some a → HoldsAnswers at (reading counts a p) r
    → HoldsAnswers at (reading_where counts o p) r
some_answer at counts o a p r e h = subst (λ (x : Option Atom). HoldsAnswers at (reading_where counts x p) r) (sym e) h

-- ---- the Booleans in order
-- what the code reads of a Boolean
pub record IsRead (f : Contents) (p : Point) (b : ℕ) (counts : List Bool) (o : Option Atom) (t : Bool) (values : List Fraction) : Type 0 where
  pub counts_are : counts ≡ f.counts
  pub atom_is : o ≡ atom_of f b
  pub truth_is : t ≡ truth_at p.truth b
  pub values_are : values ≡ p.values

pub read_boolean : (f : Contents) (p : Point) (b : ℕ) (counts : List Bool) (o : Option Atom) (t : Bool) (values : List Fraction) (atoms : List (Option Atom)) (truth : List Bool)
    → counts ≡ f.counts → atoms ≡ f.atoms → b < length atoms → o ≡ get_or atoms b o → truth ≡ p.truth → t ≡ get_or truth b false → values ≡ p.values → IsRead f p b counts o t values
read_boolean f p b counts o t values atoms truth e g l i j m n = record {
  counts_are = e;
  atom_is = same_default atoms b o None l i ∙ ap (λ (xs : List (Option Atom)). get_or xs b None) g;
  truth_is = m ∙ ap (λ (ts : List Bool). get_or ts b false) j;
  values_are = n;
}

module _ (f : Contents) (p : Point) (b : ℕ) (counts : List Bool) (o : Option Atom) (t : Bool) (values : List Fraction) (e : IsRead f p b counts o t values) where
  read_constraint : reading_where counts o t ≡ constraint_at f p b
  read_constraint =
      ap (λ (cs : List Bool). reading_where cs o t) e.counts_are ∙ ap (λ (x : Option Atom). reading_where f.counts x t) e.atom_is
      ∙ ap (λ (x : Bool). reading_where f.counts (atom_of f b) x) e.truth_is

  read_answer : (r : Result Bool Wide) → HoldsAnswers (point_of values) (reading_where counts o t) r → HoldsAnswers (point_of p.values) (constraint_at f p b) r
  read_answer r h =
      let P : List Fraction → Type 0 = λ vs. HoldsAnswers (point_of vs) (constraint_at f p b) r in
      let Q : Constraint → Type 0 = λ c. HoldsAnswers (point_of values) c r in
      subst P e.values_are (subst Q read_constraint h)

  pub next_holds : (x : Bool) → x ≡ true → HoldsBelow f p b → HoldsAnswers (point_of values) (reading_where counts o t) (Ok x) → HoldsBelow f p (b + 1)
  next_holds x i h a =
      let r = read_answer (Ok x) a in
      record {
        clauses = h.clauses;
        atoms = below_more (HoldsAt f p) b h.atoms (record { holds = r.1.0 i });
        fit = below_more (FitsAt f p) b h.fit (record { fits = r.0 });
      }

  pub next_fails : (x : Bool) → x ≡ false → b < length f.atoms → HoldsBelow f p b → HoldsAnswers (point_of values) (reading_where counts o t) (Ok x) → FailsFirst f p b
  next_fails x i l h a =
      let r = read_answer (Ok x) a in
      record { within = l; front = h; fit = record { fits = r.0 }; fails = λ g. let j : x ≡ true = r.1.1 g.holds in absurd (cc) }

  pub next_passes : (w : Wide) → b < length f.atoms → HoldsBelow f p b → HoldsAnswers (point_of values) (reading_where counts o t) (Err w) → PassesFirst f p w b
  next_passes w l h a = record { within = l; front = h; passes = read_answer (Err w) a }

pub below_start : (f : Contents) (p : Point) (truth : List Bool) (clauses : List (List Lit)) (b : Bool) → truth ≡ p.truth → clauses ≡ f.clauses → b ≡ are_met truth clauses → b ≡ true → HoldsBelow f p 0
below_start f p truth clauses b e g m t = record {
  clauses = ap₂ are_met (sym e) (sym g) ∙ sym m ∙ t;
  atoms = λ k h. absurd (omega arith);
  fit = λ k h. absurd (omega arith);
}

pub none_met : (f : Contents) (p : Point) (truth : List Bool) (clauses : List (List Lit)) (b : Bool) → truth ≡ p.truth → clauses ≡ f.clauses → b ≡ are_met truth clauses → b ≡ false → are_met p.truth f.clauses ≡ false
none_met f p truth clauses b e g m t = ap₂ are_met (sym e) (sym g) ∙ sym m ∙ t

pub all_hold : (f : Contents) (p : Point) (b : ℕ) → length f.atoms ≤ b → HoldsBelow f p b → Meets f p × ((k : ℕ) → k < length f.atoms → FitsAt f p k)
all_hold f p b l h = (record { clauses = h.clauses; atoms = λ k i. h.atoms k (omega arith) }, λ k i. h.fit k (omega arith))

pub clauses_fit : (f : Contents) (p : Point) (truth : List Bool) (clauses : List (List Lit)) → truth ≡ p.truth → clauses ≡ f.clauses → IsPointOf f p → IsFormula f
    → list_all (is_clause (length truth)) clauses ≡ true
clauses_fit f p truth clauses e g q h =
    let n : length f.atoms ≤ length truth = subst (λ (ts : List Bool). length f.atoms ≤ length ts) (sym e) q.truth in
    subst (λ (cs : List (List Lit)). list_all (is_clause (length truth)) cs ≡ true) (sym g) (clauses-more (length f.atoms) (length truth) n f.clauses h.clauses)

pub boolean_at : (f : Contents) (b : ℕ) (counts : List Bool) (o : Option Atom) → counts ≡ f.counts → o ≡ atom_of f b → b < length f.atoms → IsFormula f → IsBoolean counts o
boolean_at f b counts o e g l h =
    let P : Option Atom → Type 0 = IsBoolean f.counts in
    let i : P (atom_of f b) = All-get_or P f.atoms b None l h.atoms in
    subst (λ (cs : List Bool). IsBoolean cs o) (sym e) (subst P (sym g) i)

pub truth_within : (f : Contents) (p : Point) (b : ℕ) (atoms : List (Option Atom)) (truth : List Bool) → atoms ≡ f.atoms → truth ≡ p.truth → IsPointOf f p → b < length atoms → b < length truth
truth_within f p b atoms truth e g q l = let m = ap length e in let n = ap length g in let t = q.truth in omega arith

pub counts_within : (f : Contents) (p : Point) (counts : List Bool) (values : List Fraction) → counts ≡ f.counts → values ≡ p.values → IsPointOf f p → length counts ≤ length values
counts_within f p counts values e g q = let m = ap length e in let n = ap length g in let t = q.values in omega arith

pub within_formula : (f : Contents) (b : ℕ) (atoms : List (Option Atom)) → atoms ≡ f.atoms → b < length atoms → b < length f.atoms
within_formula f b atoms e l = let m = ap length e in omega arith

pub past_formula : (f : Contents) (b : ℕ) (atoms : List (Option Atom)) → atoms ≡ f.atoms → length atoms ≤ b → length f.atoms ≤ b
past_formula f b atoms e l = let m = ap length e in omega arith
