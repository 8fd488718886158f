use Rattle.std.proofs.Common.{◌≡◌, List, Some, length, sym, ap, ◌∙◌}
use Rattle.std.specs.List.{slice_get}
use Rattle.std.proofs.lemmas.Option.{same_Some}
use lib.IntN.{pos}
use Rattle.rational.specs.Fraction.{Fraction, whole}
use Rattle.theory_law.proofs.Zeros.{get-replicate, zero_quotient}
use Rattle.theory_law.proofs.none.NoTheoryTheory.point.Goals as goal

pub returns : goal.returns
returns c = λ values e.
    let is : c.ratio.result ≡ whole (pos 0) = c.ratio.ensures ∙ zero_quotient in
    ap (λ (l : List Fraction). slice_get l c.args.var) (sym (same_Some _ _ e))
    ∙ get-replicate (length c.args.self.now.counts) c.args.var (whole (pos 0)) c.requires.variable
    ∙ ap (λ (x : Fraction). Some x) (sym is)
