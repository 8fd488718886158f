-- From the beginning of a check to where its pivots led.
use Rattle.std.proofs.Common.{◌≡◌, ◌↔◌, ℕ, Bool, true, false, List, length, Option, Some, refl, sym, subst, ◌∙◌}
use Rattle.std.specs.Prelude.{slice_get}
use Rattle.std.specs.List.{Contains}
use Rattle.rational.specs.Fraction.{Fraction}
use Rattle.formula.specs.declared.atom.Lit.{Lit}
use Rattle.formula.specs.declared.atom.Atom.{Atom}
use Rattle.formula.specs.Contents.{Contents}
use Rattle.farkas_law.specs.Lemma.{bare}
use Rattle.theory_law.specs.Seen.{IsAsserted}
use Rattle.tableau.specs.Table.{Table, width, Solves, IsTidy}
use Rattle.simplex_law.specs.Config.{IsConsistent}
use Rattle.simplex_atoms.specs.LeftSides.{rows_of}
use Rattle.simplex_atoms.specs.Sides.{sides_of}
use Rattle.simplex_atoms.specs.Tightest.{AreTightest}
use Rattle.simplex_atoms.specs.declared.sides.Sides.{Sides}
use Rattle.simplex_clash.specs.Setting.{limits_of}
use Rattle.simplex_fit.specs.Fit.{IsFit}
use Rattle.simplex_fit.specs.Assigned.{AreOfAtoms}
use Rattle.simplex_fit.proofs.SignLaws.{asserted_listed}
use Rattle.simplex_judge.specs.Points.{DecideAtoms}
use Rattle.simplex_judge.specs.declared.beginning.Begun.{Begun}
use Rattle.simplex_judge.specs.declared.running.Ran.{Ran}
use Rattle.simplex_judge.specs.inside.Begun.{IsBegun}
use Rattle.simplex_judge.specs.inside.Ran.{IsRan}
use Rattle.simplex_judge.specs.inside.Checking.{IsChecking, IsAt}

pub fit_after : (f : Contents) (sides : List (Option Sides)) (t t' : Table) → IsFit f sides t → width t' ≡ width t → ((point : ℕ → Fraction) → Solves t point ↔ Solves t' point) → IsTidy t' → IsFit f sides t'
fit_after f sides t t' fit wide same tidy = record {
  formula = fit.formula;
  sides_are = fit.sides_are;
  tableau = record {
    tidy = tidy;
    covers = wide ∙ fit.tableau.covers;
    same = λ point. (λ h. (fit.tableau.same point).0 ((same point).1 h), λ h. (same point).0 ((fit.tableau.same point).1 h));
  };
}

module _ (f : Contents) (sides : List (Option Sides)) (t : Table) (events : List (Option Lit)) (b : Begun) (fit : IsFit f sides t) (begun : IsBegun f t events b) (is_bare : f ≡ bare f.counts f.atoms) (of : AreOfAtoms f.atoms events) where
  pub checking : IsChecking f events b
  checking = record {
    bare_is = is_bare;
    of_atoms = of;
    signs_are = begun.signs_are;
    lits_are = begun.lits_are;
    of_basis = (t, fit.tableau, begun.basis_is);
  }

  pub decided : ((n : ℕ) (a : Atom) → slice_get f.atoms n ≡ Some (Some a) → (s : Bool) × IsAsserted events (record { boolean = n; pos = s })) → DecideAtoms f b.lits.items
  decided full n a has =
      let m = full n a has in (
        record { boolean = n; pos = m.0 },
        subst (λ (ls : List Lit). Contains ls (record { boolean = n; pos = m.0 })) (sym begun.lits_are) (asserted_listed events (length f.atoms) b.signs.items begun.signs_are (record { boolean = n; pos = m.0 }) m.1),
        refl,
      )

  pub arrived : (pivots : ℕ) (t' : Table) (r : Ran) → IsConsistent (limits_of b.both.lower b.both.upper) (width t) → IsRan (limits_of b.both.lower b.both.upper) t pivots t' r → width t' ≡ width t → ((point : ℕ → Fraction) → Solves t point ↔ Solves t' point) → IsTidy t'
      → IsAt f sides events pivots t' b r
  arrived pivots t' r consistent ran wide same tidy =
      let fit' = fit_after f sides t t' fit wide same tidy in
      record {
        checking = checking;
        fit = fit';
        setting = record {
          formula = begun.setting.formula;
          tableau = fit'.tableau;
          lower_is = subst (λ (n : ℕ). AreTightest (sides_of f.counts (rows_of f.atoms) f.atoms) b.lits.items false n b.both.lower.bounds.items b.both.lower.by.items) (sym wide) begun.setting.lower_is;
          upper_is = subst (λ (n : ℕ). AreTightest (sides_of f.counts (rows_of f.atoms) f.atoms) b.lits.items true n b.both.upper.bounds.items b.both.upper.by.items) (sym wide) begun.setting.upper_is;
          once = begun.setting.once;
        };
        first = t;
        ran = ran;
        begins = record {
          tableau = fit.tableau;
          basis_is = begun.basis_is;
          limits = record { lower = (b.both.lower.by.items, begun.setting.lower_is); upper = (b.both.upper.by.items, begun.setting.upper_is) };
          consistent = consistent;
          start = ran.start;
        };
      }
