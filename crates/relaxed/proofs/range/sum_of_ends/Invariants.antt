use Rattle.std.proofs.Common.{◌≡◌, true, drop, Result}
use Rattle.std.specs.Prelude.{is_some}
use Rattle.frac128.specs.declared.operations.Wide.{Wide}
use Rattle.relaxed.specs.declared.interval.End.{End}
use Rattle.relaxed.specs.Range.{picks}
use Rattle.relaxed.specs.Layers.{box}
use Rattle.relaxed.specs.inside.Kept.{layer_of}
use Rattle.relaxed.specs.inside.Ranging.{AnswersPicks}
use Rattle.relaxed.proofs.range.sum_of_ends.Given as goal

-- the terms that are left are bounded, and what they answer with the sum so far is the answer
abbrev pub invariant-loop-i : goal.invariant-loop-i
invariant-loop-i l = record {
  bounded : is_some (picks l.side (box (layer_of l.table)) (drop l.i l.l.terms)) ≡ true;
  whole : (r : Result End Wide) → AnswersPicks l.side (box (layer_of l.table)) l.sum (drop l.i l.l.terms) r
      → AnswersPicks l.side (box (layer_of l.table)) l.l.constant l.l.terms r;
}
