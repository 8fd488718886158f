use Rattle.theory_law.proofs.Marks.{last_mark}
use Rattle.theory_law.proofs.none.NoTheoryTheory.back.Goals as goal

pub returns : goal.returns
returns c = λ before behind e h. let same = last_mark c.args.self.now.marks before behind e h in cc
