use Rattle.std.proofs.Common.{refl}
use Rattle.pddl_form.proofs.SeenLaws.{not_known}
use Rattle.pddl_form.proofs.seen.Seen.has.Goals as goal

pub returns-in-None : goal.returns-in-None
returns-in-None c = λ front h known. not_known c.args.text.now c.args.text.now refl c.in-None.ensures.found known
