-- What a search stops at, from the theory's answer.
use Rattle.std.proofs.Common.{◌≡◌, ◌<◌, ℕ, Bool, true, List, length, Option, Some, subst, sym, ap, ◌∙◌, arith, false, inl, inr}
use Rattle.std.specs.List.{Contains, slice_get, All}
use Rattle.std.proofs.lemmas.List.Elements.{All-contains}
use Rattle.rational.specs.Fraction.{Fraction}
use Rattle.formula.specs.declared.atom.Lit.{Lit}
use Rattle.formula.specs.declared.atom.Atom.{Atom}
use Rattle.formula.specs.declared.point.Point.{Point}
use Rattle.formula.specs.Contents.{Contents, is_clause}
use Rattle.theory_law.specs.declared.verdict.Verdict.TheVariants.{Fits, Cut, Clash}
use Rattle.formula.specs.Meets.{AreWhole, Meets, IsSolution}
use Rattle.theory_law.specs.Readings.{IsExact}
use Rattle.theory_law.specs.Verdicts.{IsCutAt}
use Rattle.theory_law.specs.Licence.{IsDue, IsNew}
use Rattle.formula.specs.Reading.{opposite}
use Rattle.clause_core.specs.declared.search.Event.TheVariants.{Cut as CutEvent, Full, Clash as ClashEvent}
use Rattle.clause_core.specs.Cored.{Cored}
use Rattle.clause_trail.specs.Propagation.{IsComplete, IsQuiet}
use Rattle.clause_core.specs.inside.Asking.{AnswerHolds, IsFull}
use Rattle.clause_core.specs.inside.Searching.{EventHolds}
use Rattle.clause_core.proofs.Points.{done, moved}

-- the literal's Boolean is one of the core's, and unassigned
abbrev pub IsFree : {T : Type 0} → Cored T → Lit → Type 0
IsFree c d = (d.boolean < length c.formula.atoms) × ((l : Lit) → Contains c.trail l → l.boolean ≡ d.boolean → ⊥)

pub event_cut : {T W : Type 0} (Shown : List Bool → List (Option Atom) → List Lit → W → Type 0) (cuts : Bool) (a b : Cored T) (full : Bool) (point : Option (List Fraction)) (cut : Option (ℕ × Fraction)) (var : ℕ) (k : Fraction) → b.formula ≡ a.formula → b.trail ≡ a.trail → IsComplete a.formula.clauses a.trail → IsFull (length a.formula.atoms) a.trail → cut ≡ Some (var, k) → AnswerHolds Shown cuts a.formula a.trail full point (Cut var k) → EventHolds Shown cuts b point cut (CutEvent var k)
event_cut Shown cuts a b full point cut var k ef et quiet all is ans =
    let at = ans.2 in
    (ans.0, is, (at.0, at.1, (done a b at.0 ef et quiet all at.2.0, subst (λ (x : Contents). IsCutAt x.counts at.0 var k) (sym ef) at.2.1)))

pub event_full : {T W : Type 0} (Shown : List Bool → List (Option Atom) → List Lit → W → Type 0) (cuts : Bool) (a b : Cored T) (full : Bool) (point : Option (List Fraction)) (cut : Option (ℕ × Fraction)) → b.formula ≡ a.formula → b.trail ≡ a.trail → IsComplete a.formula.clauses a.trail → IsFull (length a.formula.atoms) a.trail → full ≡ true → AnswerHolds Shown cuts a.formula a.trail full point Fits → EventHolds Shown cuts b point cut Full
event_full Shown cuts a b full point cut ef et quiet all is ans =
    let at = ans is in
    (at.0, at.1, (done a b at.0 ef et quiet all at.2.0, subst (λ (x : Contents). AreWhole x.counts at.0) (sym ef) at.2.1))

-- a point with the theory's values is due for the split, or meets the formula
pub due : (f : Contents) (var : ℕ) (k : Fraction) (values : List Fraction) (p : Point) → IsExact f p → Meets f p → p.values ≡ values → IsCutAt f.counts values var k → IsDue f var k p
due f var k values p exact meets is cut = record {
  exact = exact;
  meets = meets;
  value = cut.value;
  at = ap (λ (x : List Fraction). slice_get x var) is ∙ cut.at;
  between = cut.between;
}

pub solution : (f : Contents) (values : List Fraction) (p : Point) → IsExact f p → Meets f p → p.values ≡ values → AreWhole f.counts values → IsSolution f p × IsExact f p
solution f values p exact meets is whole = (
  record {
    point = record { values = omega (arith, exact.values); truth = omega (arith, exact.truths) };
    integral = subst (λ (x : List Fraction). AreWhole f.counts x) (sym is) whole;
    meets = meets;
  },
  exact,
)

pub licensed_clash : (trail : List Lit) (clauses : List (List Lit)) (clause : List Lit) → ((m : Lit) → Contains trail m → Contains trail (opposite m) → ⊥) → IsComplete clauses trail → All (λ l. Contains trail (opposite l)) clause → IsNew clauses clause
licensed_clash trail clauses clause apart quiet false' d in' sub =
    let q : IsQuiet trail d = All-contains (IsQuiet trail) clauses d quiet in' in
    let turned : (m : Lit) → Contains d m → Contains trail (opposite m) = λ m c. All-contains (λ l. Contains trail (opposite l)) clause m false' (sub m c) in
    elim q as (λ _. ⊥) [
      | inl t ↦ apart t.0 t.2 (turned t.0 t.1)
      | inr t ↦ t.first_open.not_false (turned t.first t.first_in)
    ]

pub event_clash : {T W : Type 0} (Shown : List Bool → List (Option Atom) → List Lit → W → Type 0) (cuts : Bool) (a b : Cored T) (full : Bool) (point : Option (List Fraction)) (cut : Option (ℕ × Fraction)) (clause : List Lit) (why : W) → b.formula ≡ a.formula → b.trail ≡ a.trail → IsComplete a.formula.clauses a.trail → ((l : Lit) → Contains a.trail l → Contains a.trail (opposite l) → ⊥) → AnswerHolds Shown cuts a.formula a.trail full point (Clash clause why) → EventHolds Shown cuts b point cut (ClashEvent clause why)
event_clash Shown cuts a b full point cut clause why ef et quiet apart ans =
    moved (λ f trail. (is_clause (length f.atoms) clause ≡ true) × Shown f.counts f.atoms clause why × IsNew f.clauses clause) a b ef et (ans.1, ans.0, licensed_clash a.trail a.formula.clauses clause apart quiet ans.2)
