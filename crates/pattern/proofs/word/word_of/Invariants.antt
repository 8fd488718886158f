use Rattle.pattern.proofs.Copies.{IsSpelling}
use Rattle.pattern.proofs.word.word_of.Given as goal

abbrev pub invariant-loop-i : goal.invariant-loop-i
invariant-loop-i l = IsSpelling l.pattern l.counts l.parts.items l.i
