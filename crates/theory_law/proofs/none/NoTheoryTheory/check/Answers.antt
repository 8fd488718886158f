use Rattle.std.proofs.Common.{replicate, length, refl}
use Rattle.std.proofs.lemmas.List.{length-replicate}
use lib.IntN.{pos}
use Rattle.rational.specs.Fraction.{whole}
use Rattle.theory_law.proofs.Marks.{no_lit}
use Rattle.theory_law.proofs.Zeros.{zeros_whole}
use Rattle.theory_law.proofs.none.NoTheoryTheory.check.Goals as goal

pub returns-clause-answer : goal.returns-clause-answer
returns-clause-answer c =
    let n = length c.args.self.now.counts in
    let zeros = replicate n (whole (pos 0)) in
    let so_many = length-replicate n (whole (pos 0)) in (
      (zeros, (so_many, λ l h. absurd (no_lit c.args.self.now.marks l h))),
      λ full. (zeros, refl, (so_many, λ l h. absurd (no_lit c.args.self.now.marks l h)), zeros_whole c.args.self.now.counts n),
    )
