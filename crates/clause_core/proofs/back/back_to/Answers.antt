use Rattle.std.proofs.Common.{arith, ap, sym, subst, List, length, ◌∙◌, slice_get}
use Rattle.std.proofs.lemmas.List.{length-take-le}
use Rattle.theory_law.specs.Seen.{Seen}
use Rattle.clause_trail.specs.declared.trail.Entry.{Entry}
use Rattle.clause_trail.specs.Decisions.{IsLastDecision}
use Rattle.clause_core.specs.Solving.{IsSane, IsTold}
use Rattle.clause_trail.proofs.Gets.{get-within}
use Rattle.clause_core.proofs.Backs.{level_told, level_marked, sane_take, told_back, told_keep, last_low, shorter_take}
use Rattle.clause_core.proofs.Telling.{seen_back}
use Rattle.clause_core.proofs.back.back_to.Goals as goal

pub returns-then-place-keep-clause-kept : goal.returns-then-place-keep-clause-kept
returns-then-place-keep-clause-kept g c =
    last_low c.loop-place.trail.entries c.in-Some.place c.args.keep (subst (λ (x : List Entry). IsLastDecision x c.in-Some.place) c.entries.ensures.value c.in-Some.ensures) c.if-place-keep.true

pub returns-clause-kept : goal.returns-clause-kept
returns-clause-kept g c = λ d at. absurd (c.in_default.ensures d (at.0, ap (λ (x : List Entry). slice_get x d) c.entries.ensures.value ∙ at.1))

pub cut-requires : goal.cut-requires
cut-requires g c =
    let last = subst (λ (x : List Entry). IsLastDecision x c.in-Some.place) c.entries.ensures.value c.in-Some.ensures in
    let lt = get-within c.loop-place.trail.entries c.in-Some.place _ last.0.1 in
    omega (arith, lt)

pub back-requires : goal.back-requires
back-requires g c = level_marked (level_told c.loop-place.invariant.told c.in-Some.place (subst (λ (x : List Entry). IsLastDecision x c.in-Some.place) c.entries.ensures.value c.in-Some.ensures) c.if-place-told.true)

pub loop-place-smaller : goal.loop-place-smaller
loop-place-smaller g c =
    let last = subst (λ (x : List Entry). IsLastDecision x c.in-Some.place) c.entries.ensures.value c.in-Some.ensures in
    let lt = get-within c.loop-place.trail.entries c.in-Some.place _ last.0.1 in
    omega (arith, lt, ap length c.cut.ensures.entries, length-take-le c.in-Some.place c.loop-place.trail.entries (omega (arith, lt)))

pub loop-place-preserved-then-place-told : goal.loop-place-preserved-then-place-told
loop-place-preserved-then-place-told g c =
    let i = c.loop-place.invariant in
    let last = subst (λ (x : List Entry). IsLastDecision x c.in-Some.place) c.entries.ensures.value c.in-Some.ensures in
    let lt = get-within c.loop-place.trail.entries c.in-Some.place _ last.0.1 in
    let s = shorter_take c.args.trail.now.entries c.loop-place.trail.entries c.cut.new.trail.entries c.in-Some.place (omega (arith, lt)) i.short i.shorter c.cut.ensures.entries in
    let level = level_told i.told c.in-Some.place last c.if-place-told.true in
    record {
      sane = subst (λ (x : List Entry). IsSane c.args.formula.now.clauses c.args.formula.now.atoms x) (sym c.cut.ensures.entries) (sane_take i.sane c.in-Some.place);
      told = subst (λ (x : List Entry). IsTold c.args.formula.now.atoms (g.T.Theory.seen c.back.new.self).asserted c.in-Some.place x) (sym c.cut.ensures.entries) (told_back i.told c.in-Some.place last c.if-place-told.true (λ before behind e none. ap (λ (x : Seen). x.asserted) (c.back.ensures before behind e none)));
      seen = seen_back (g.T.Theory.seen c.args.theory.now) (g.T.Theory.seen c.loop-place.theory) (g.T.Theory.seen c.back.new.self) _ i.seen (c.back.ensures _ level.after level.is level.unmarked);
      booleans = c.cut.ensures.booleans ∙ i.booleans;
      short = s.0;
      shorter = s.1;
    }

pub loop-place-preserved : goal.loop-place-preserved
loop-place-preserved g c =
    let i = c.loop-place.invariant in
    let last = subst (λ (x : List Entry). IsLastDecision x c.in-Some.place) c.entries.ensures.value c.in-Some.ensures in
    let lt = get-within c.loop-place.trail.entries c.in-Some.place _ last.0.1 in
    let s = shorter_take c.args.trail.now.entries c.loop-place.trail.entries c.cut.new.trail.entries c.in-Some.place (omega (arith, lt)) i.short i.shorter c.cut.ensures.entries in
    record {
      sane = subst (λ (x : List Entry). IsSane c.args.formula.now.clauses c.args.formula.now.atoms x) (sym c.cut.ensures.entries) (sane_take i.sane c.in-Some.place);
      told = subst (λ (x : List Entry). IsTold c.args.formula.now.atoms (g.T.Theory.seen c.loop-place.theory).asserted c.loop-place.told x) (sym c.cut.ensures.entries) (told_keep i.told c.in-Some.place c.if-place-told.false (omega (arith, lt)));
      seen = i.seen;
      booleans = c.cut.ensures.booleans ∙ i.booleans;
      short = s.0;
      shorter = s.1;
    }
