use Rattle.simplex_judge.proofs.CutLaws.{read_is}
use Rattle.simplex_judge.proofs.cutting.verdict_at.Goals as goal

pub returns : goal.returns
returns c =
    let first = c.in-Some.ensures in
    let off = c.in_ok-k.ensures in record {
      splits = record { count = first.count; integral = off.integral; next = off.next };
      value = c.index-values-var.result;
      at = read_is c.args.values.now c.in-Some.var c.index-values-var.result first.within c.index-values-var.is;
      between = off.between;
      first = λ i x lt count at. first.first i x lt count at;
    }
