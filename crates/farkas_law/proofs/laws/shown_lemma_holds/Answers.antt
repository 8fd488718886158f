use Rattle.farkas_law.proofs.Lemmas.{shown_holds}
use Rattle.farkas_law.proofs.laws.shown_lemma_holds.Goals as goal

pub returns : goal.returns
returns c = shown_holds
