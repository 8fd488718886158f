use Rattle.std.proofs.Common.{refl}
use Rattle.sexpr.proofs.Levels.{adds_last}
use Rattle.sexpr.proofs.reading.Reading.add_word.Goals as goal

pub returns : goal.returns
returns c = (adds_last _ c.args.self.now.lists.items _ c.in-Some.list.now _ c.args.self.now.lists.ok.0 (c.in-Some.ensures.variant.0 refl) c.in-Some.ensures.value refl c.in_ok-push.ensures.items, refl)
