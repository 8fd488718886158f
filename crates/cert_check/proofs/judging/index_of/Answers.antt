use Rattle.std.proofs.Common.{◌≡◌, [], List, Some, length, sym, subst, ◌∙◌, rules, All}
use Rattle.std.specs.Prelude.{slice_get}
use Rattle.std.specs.List.{Contains}
use Rattle.std.proofs.lemmas.List.Elements.{All-contains}
use Rattle.formula.specs.declared.atom.Lit.{Lit}
use Rattle.clause_units.specs.Truth.{AreWithin}
use Rattle.cert_check.proofs.Newness.{among}
use Rattle.cert_check.proofs.Indexing.{item_at, listed_more, indexed_with, indexed_without}
use Rattle.cert_check.proofs.Readies.{rooms_of}
use Rattle.cert_check.proofs.judging.index_of.Goals as goal

pub add-requires : goal.add-requires
add-requires c =
    let at = item_at c.args.formula.now.clauses c.clauses-clause-items.result.now c.loop-number.number c.clause-item.result c.lits.result.now c.clauses-clause-items.ensures.value c.loop-number-test.true c.clause-item.is c.lits.ensures in
    rooms_of c.args.formula.now c.loop-number.index c.loop-number.number c.lits.result.now c.loop-number.invariant.room c.clauses-clause-items.ensures.formula.clauses at

pub loop-number-preserved : goal.loop-number-preserved
loop-number-preserved c =
    let at = item_at c.args.formula.now.clauses c.clauses-clause-items.result.now c.loop-number.number c.clause-item.result c.lits.result.now c.clauses-clause-items.ensures.value c.loop-number-test.true c.clause-item.is c.lits.ensures in
    record {
      room = c.in_ok-add.ensures.kept (length c.args.formula.now.atoms) c.loop-number.invariant.room;
      none = c.in_ok-add.ensures.empty ∙ c.loop-number.invariant.none;
      listed = listed_more c.args.formula.now.clauses c.loop-number.index c.add.new.self c.loop-number.number c.lits.result.now c.loop-number.invariant.listed c.in_ok-add.ensures.keeps at c.in_ok-add.ensures.added;
    }

pub returns-then-has_empty-clause-indexed : goal.returns-then-has_empty-clause-indexed
returns-then-has_empty-clause-indexed c =
    indexed_with c.args.formula.now.clauses c.loop-number.index c.loop-number.number c.loop-number.invariant.listed (search rules)
    (subst (λ (cs : List (List Lit)). Contains cs []) c.clauses.ensures.value (c.has_empty.ensures.0 c.if-has_empty.true)) c.add_empty.new.self c.add_empty.ensures

pub returns-clause-indexed : goal.returns-clause-indexed
returns-clause-indexed c =
    indexed_without c.args.formula.now.clauses c.loop-number.index c.loop-number.number c.loop-number.invariant.listed (search rules) c.loop-number.invariant.none
    (λ has. let t = c.has_empty.ensures.1 (subst (λ (cs : List (List Lit)). Contains cs []) (sym c.clauses.ensures.value) has) in let f = c.if-has_empty.false in cc)
