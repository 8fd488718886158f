-- What a check begins with.
use Rattle.std.proofs.Common.{◌≡◌, ◌<◌, Bool, true, false, List, length, Option, Some, sym, ap, subst, ◌∙◌, arith, get_or}
use Rattle.std.proofs.lemmas.List.{length-map}
use Rattle.std.specs.List.{All, Contains}
use Rattle.std.proofs.lemmas.Option.{slice_get_within}
use Rattle.std.proofs.lemmas.List.Elements.{Contains-get_or}
use Rattle.formula.specs.declared.atom.Lit.{Lit}
use Rattle.formula.specs.Contents.{Contents}
use Rattle.theory_law.specs.Seen.{IsAsserted}
use Rattle.tableau.specs.Table.{Table, width, basis}
use Rattle.simplex_atoms.specs.LeftSides.{rows_of}
use Rattle.simplex_atoms.specs.Sides.{sides_where}
use Rattle.simplex_atoms.specs.Tightest.{AreTightest}
use Rattle.simplex_atoms.specs.declared.sides.Sides.{Sides}
use Rattle.simplex_fit.specs.Fit.{IsFit}
use Rattle.simplex_fit.specs.Assigned.{AreOfAtoms, AreSigns, literals_of}
use Rattle.simplex_fit.proofs.SignLaws.{listed_asserted, listed_below}
use Rattle.simplex_judge.specs.declared.beginning.Begun.{Begun}
use Rattle.simplex_judge.specs.inside.Begun.{AreBoth, IsBegun}

module _ (f : Contents) (sides : List (Option Sides)) (t : Table) (fit : IsFit f sides t) (events : List (Option Lit)) (of : AreOfAtoms f.atoms events) where
  pub low : (l : Lit) → IsAsserted events l → l.boolean < length f.atoms
  low l a = let h = of.atom l a in slice_get_within f.atoms l.boolean (Some h.0) h.1

  many : length sides ≡ length f.atoms
  many = ap length fit.sides_are ∙ length-map f.atoms (sides_where f.counts (rows_of f.atoms))

  pub lits_below : (signs : List (Option Bool)) (lits : List Lit) → AreSigns events (length f.atoms) signs → lits ≡ literals_of signs → All (λ (l : Lit). l.boolean < length sides) lits
  lits_below signs lits h e =
      subst (λ (ls : List Lit). All (λ (l : Lit). l.boolean < length sides) ls) (sym e)
      (λ i d lt. omega (arith, listed_below events (length f.atoms) signs h (get_or (literals_of signs) i d) (Contains-get_or (literals_of signs) i d lt), many))

  pub begun : (b : Begun) → AreSigns events (length f.atoms) b.signs.items → b.lits.items ≡ literals_of b.signs.items → b.basis.items ≡ basis t → AreBoth sides b.lits.items (width t) b.both → IsBegun f t events b
  begun b signs lits numbers both = record {
    signs_are = signs;
    lits_are = lits;
    basis_is = sym numbers;
    setting = record {
      formula = fit.formula;
      tableau = fit.tableau;
      lower_is = subst (λ (ss : List (Option Sides)). AreTightest ss b.lits.items false (width t) b.both.lower.bounds.items b.both.lower.by.items) fit.sides_are both.lower_is;
      upper_is = subst (λ (ss : List (Option Sides)). AreTightest ss b.lits.items true (width t) b.both.upper.bounds.items b.both.upper.by.items) fit.sides_are both.upper_is;
      once = λ l m c d same. of.once l m
          (listed_asserted events (length f.atoms) b.signs.items signs l (subst (λ (ls : List Lit). Contains ls l) lits c))
          (listed_asserted events (length f.atoms) b.signs.items signs m (subst (λ (ls : List Lit). Contains ls m) lits d)) same;
    };
  }
