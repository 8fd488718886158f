-- A point that meets a formula with a log behind it meets the formula.
use Rattle.std.proofs.Common.{◌≡◌, ℕ, ◌<◌, true, List, [], ◌∷◌, ◌++◌, length, Option, Some, None, arith, sym, subst, ◌∙◌, length-append}
use Rattle.std.specs.List.{list_all, list_any}
use Rattle.std.proofs.lemmas.Bool.{and_parts}
use Rattle.std.proofs.lemmas.List.{get_or_append_left}
use Rattle.std.proofs.lemmas.List.Folds.{list_all-append}
use Rattle.lin.specs.Linear.{point_of}
use Rattle.formula.specs.declared.atom.Lit.{Lit}
use Rattle.formula.specs.declared.atom.Atom.{Atom}
use Rattle.formula.specs.declared.point.Point.{Point}
use Rattle.formula.specs.Contents.{Contents, with_boolean, with_clause}
use Rattle.formula.specs.Reading.{Holds, reading_where}
use Rattle.formula.specs.Meets.{IsSolution, is_true, truth_at}
use Rattle.theory_law.specs.Splits.{at_most}
use Rattle.theory_law.specs.declared.log.LogStep.{LogStep}
use Rattle.theory_law.specs.declared.log.LogStep.TheVariants.{Lemma, Learn, Split}
use Rattle.theory_law.specs.Log.{after, after_log}

without_clause : (f : Contents) (c : List Lit) (p : Point) → IsSolution (with_clause c f) p → IsSolution f p
without_clause f c p h = record {
  point = record { values = h.point.values; truth = h.point.truth };
  integral = h.integral;
  meets = record {
    clauses = (and_parts _ _ (sym (list_all-append (λ (d : List Lit). list_any (is_true p.truth) d) f.clauses (c ∷ [])) ∙ h.meets.clauses)).0;
    atoms = λ b lt. record { holds = (h.meets.atoms b lt).holds };
  };
}

without_boolean : (f : Contents) (a : Option Atom) (p : Point) → IsSolution (with_boolean a f) p → IsSolution f p
without_boolean f a p h =
    let longer = length-append f.atoms (a ∷ []) in
    record {
      point = record { values = h.point.values; truth = omega (arith, h.point.truth, longer) };
      integral = h.integral;
      meets = record {
        clauses = h.meets.clauses;
        atoms = λ b lt. record {
          holds = subst (λ (o : Option Atom). Holds (point_of p.values) (reading_where f.counts o (truth_at p.truth b))) (get_or_append_left f.atoms (a ∷ []) None b lt) (h.meets.atoms b (omega (arith, lt, longer))).holds;
        };
      };
    }

without : {W : Type 0} (f : Contents) (s : LogStep W) (p : Point) → IsSolution (after f s) p → IsSolution f p
without f (Lemma c why) p h = without_clause f c p h
without f (Learn c hints) p h = without_clause f c p h
without f (Split b var k point) p h = without_boolean f (Some (at_most var k)) p h

pub without_log : {W : Type 0} (f : Contents) (log : List (LogStep W)) (p : Point) → IsSolution (after_log f log) p → IsSolution f p
without_log f [] p h = h
without_log f (s ∷ log) p h = without f s p (without_log (after f s) log p h)
