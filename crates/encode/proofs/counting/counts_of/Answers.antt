use Rattle.std.proofs.Common.{List, ℕ, ◌<◌, ◌≡◌, ◌∙◌, length, subst, sym, ap}
use Rattle.std.specs.Prelude.{Ok, Err}
use Rattle.std.specs.List.{All}
use Rattle.rational.specs.Fraction.{Fraction}
use Rattle.encode_laws.specs.Encoding.{copies}
use Rattle.encode.specs.inside.Copying.{actions_of}
use Rattle.encode.specs.inside.Counting.{ReadsInTurn}
use Rattle.encode.proofs.StartingLaws.{start-has, start-sized}
use Rattle.encode.proofs.EncodingLaws.{pattern-places}
use Rattle.encode.proofs.CountingLaws.{counts-are, counts-memory, copies-all}
use Rattle.encode.proofs.counting.counts_of.Goals as goal

pub read_in_turn-read-requires-clause-next : goal.read_in_turn-read-requires-clause-next
read_in_turn-read-requires-clause-next c = start-has c.args.task.now c.in_ok-symbols.symbols c.new-formula.result c.in_ok-symbols.ensures c.new-formula.ensures

pub read_in_turn-read-requires-clause-sized : goal.read_in_turn-read-requires-clause-sized
read_in_turn-read-requires-clause-sized c = start-sized c.args.task.now c.in_ok-symbols.symbols c.in_ok-symbols.ensures

pub read_in_turn-read-requires-clause-places : goal.read_in_turn-read-requires-clause-places
read_in_turn-read-requires-clause-places c =
    let e : c.as_slice.result.now ≡ copies c.args.n c.args.pattern.now = c.as_slice.ensures.value ∙ c.in_ok-places.ensures ∙ ap (copies c.args.n) c.places.ensures in
    subst (All (λ q. q < length c.args.task.now.actions)) (sym e) (copies-all (λ q. q < length c.args.task.now.actions) c.args.pattern.now c.args.n (pattern-places c.args.task.now c.args.pattern.now c.requires.pattern))

pub returns-in-Ok : goal.returns-in-Ok
returns-in-Ok c =
    let e : c.as_slice.result.now ≡ copies c.args.n c.args.pattern.now = c.as_slice.ensures.value ∙ c.in_ok-places.ensures ∙ ap (copies c.args.n) c.places.ensures in
    counts-are c.args.task.now c.args.pattern.now c.args.n c.in_ok-symbols.symbols c.new-formula.result c.read_in_turn-read.new.formula c.in_ok-symbols.ensures c.new-formula.ensures c.args.p.now (Unit {0}) tt
    c.read_in_turn-read.new.counts.items
    (subst (λ (os : List Fraction). ReadsInTurn {X = Unit {0}} c.args.p.now (actions_of c.args.task.now (copies c.args.n c.args.pattern.now)) c.new-formula.result c.in_ok-symbols.symbols os c.read_in_turn-read.new.formula c.read_in_turn-read.new.counts.items (Ok tt)) c.new-counts.ensures.items
    (subst (λ (ps : List ℕ). ReadsInTurn {X = Unit {0}} c.args.p.now (actions_of c.args.task.now ps) c.new-formula.result c.in_ok-symbols.symbols c.new-counts.result.items c.read_in_turn-read.new.formula c.read_in_turn-read.new.counts.items (Ok tt)) e c.in-Ok.ensures))

pub want_of_memory-requires : goal.want_of_memory-requires
want_of_memory-requires c =
    let e : c.as_slice.result.now ≡ copies c.args.n c.args.pattern.now = c.as_slice.ensures.value ∙ c.in_ok-places.ensures ∙ ap (copies c.args.n) c.places.ensures in
    counts-memory c.args.task.now c.args.pattern.now c.args.n c.in_ok-symbols.symbols c.new-formula.result c.read_in_turn-read.new.formula c.in_ok-symbols.ensures c.new-formula.ensures c.args.p.now (Unit {0}) c.in-Err.refusal
    c.read_in_turn-read.new.counts.items c.requires.encoded
    (subst (λ (os : List Fraction). ReadsInTurn {X = Unit {0}} c.args.p.now (actions_of c.args.task.now (copies c.args.n c.args.pattern.now)) c.new-formula.result c.in_ok-symbols.symbols os c.read_in_turn-read.new.formula c.read_in_turn-read.new.counts.items (Err c.in-Err.refusal)) c.new-counts.ensures.items
    (subst (λ (ps : List ℕ). ReadsInTurn {X = Unit {0}} c.args.p.now (actions_of c.args.task.now ps) c.new-formula.result c.in_ok-symbols.symbols c.new-counts.result.items c.read_in_turn-read.new.formula c.read_in_turn-read.new.counts.items (Err c.in-Err.refusal)) e c.in-Err.ensures))
