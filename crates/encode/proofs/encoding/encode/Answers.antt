use Rattle.std.proofs.Common.{List, ℕ, ◌<◌, length, subst, sym}
use Rattle.std.specs.Prelude.{Ok, Err}
use Rattle.std.specs.List.{All}
use Rattle.encode.specs.declared.failure.EncodeFail.{EncodeFail}
use Rattle.encode_laws.specs.Encoding.{copies}
use Rattle.encode.specs.Answer.{EncodeAnswers}
use Rattle.encode.specs.inside.Copying.{actions_of, MakesAll}
use Rattle.encode.proofs.StartingLaws.{start-has, start-sized}
use Rattle.encode.proofs.EncodingLaws.{encoded, refused, pattern-places}
use Rattle.encode.proofs.encoding.encode.Goals as goal

pub make_all-requires-clause-next : goal.make_all-requires-clause-next
make_all-requires-clause-next c = start-has c.args.task.now c.in_ok-symbols.symbols c.new-formula.result c.in_ok-symbols.ensures c.new-formula.ensures

pub make_all-requires-clause-sized : goal.make_all-requires-clause-sized
make_all-requires-clause-sized c = start-sized c.args.task.now c.in_ok-symbols.symbols c.in_ok-symbols.ensures

pub make_all-requires-clause-places : goal.make_all-requires-clause-places
make_all-requires-clause-places c = subst (All (λ p. p < length c.args.task.now.actions)) (sym c.places.ensures) (pattern-places c.args.task.now c.args.pattern.now c.requires.pattern)

pub returns-in-Ok-clause-answers : goal.returns-in-Ok-clause-answers
returns-in-Ok-clause-answers c =
    encoded c.args.task.now c.args.pattern.now c.args.n c.in_ok-symbols.symbols c.new-formula.result c.make_all.new.formula c.in_ok-symbols.ensures c.new-formula.ensures (Unit {0}) tt
    (subst (λ (ps : List ℕ). MakesAll {X = Unit {0}} (actions_of c.args.task.now (copies c.args.n ps)) c.args.task.now.goal c.new-formula.result c.in_ok-symbols.symbols c.make_all.new.formula (Ok tt)) c.places.ensures c.in-Ok.ensures)

pub returns-clause-answers : goal.returns-clause-answers
returns-clause-answers c =
    subst (λ (e : EncodeFail). EncodeAnswers c.args.task.now c.args.pattern.now c.args.n (Err e)) (sym c.refusal.ensures)
    (refused c.args.task.now c.args.pattern.now c.args.n c.in_ok-symbols.symbols c.new-formula.result c.make_all.new.formula c.in_ok-symbols.ensures c.new-formula.ensures (Unit {0}) c.in-Err.fail
    (subst (λ (ps : List ℕ). MakesAll {X = Unit {0}} (actions_of c.args.task.now (copies c.args.n ps)) c.args.task.now.goal c.new-formula.result c.in_ok-symbols.symbols c.make_all.new.formula (Err c.in-Err.fail)) c.places.ensures c.in-Err.ensures))
