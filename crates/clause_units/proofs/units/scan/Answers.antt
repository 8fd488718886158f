use Rattle.std.proofs.Common.{◌≡◌, ◌<◌, Option, Some, None, Bool, false, get_or, List, length, sym, subst, ◌∙◌, rules}
use Rattle.std.specs.Option.{IfSome}
use Rattle.std.specs.List.{Contains}
use Rattle.std.proofs.lemmas.Option.{same_Some}
use Rattle.formula.specs.declared.atom.Lit.{Lit}
use Rattle.clause_units.specs.Truth.{truth_of}
use Rattle.clause_units.proofs.Scans.{seen_false, seen_open}
use Rattle.clause_units.proofs.units.scan.Goals.{in-Some-false, in-None, in-Some+else-ne, in_default}
use Rattle.clause_units.proofs.units.scan.Goals as goal

none : Lit
none = record { boolean = 0; pos = false }

pub loop-lit-preserved : goal.loop-lit-preserved
unfolding none
loop-lit-preserved c =
    let table : List (Option Bool) = c.args.truths.now in
    let clause : List Lit = c.args.clause.now in
    let x : Lit = get_or clause c.loop-lit.lit-index none in
    let IsKept : Option Lit → Type 0 = λ u. IfSome u (λ m. Contains clause m × (truth_of table m ≡ None)) in
    let within : c.loop-lit.lit-index < length clause = c.loop-lit-test.true in
    let has : Contains clause x = (c.loop-lit.lit-index, within, search rules) in
    elim c.match-truth.branch [
      | in-Some-false w ↦
          let is : truth_of table x ≡ Some false = sym c.truth.ensures ∙ w.in-Some-false.is ∙ search (rules, w.in-Some-false.field-0-test) in
          record {
            seen = seen_false table clause c.loop-lit.lit-index c.loop-lit.unit c.match-truth.unit none c.loop-lit.invariant.seen within w.unit-is is;
            unit = subst IsKept (sym w.unit-is) c.loop-lit.invariant.unit;
          }
      | in-None w ↦
          let kept : IsKept c.match-truth.unit = subst IsKept (sym w.unit-is) (has, sym c.truth.ensures ∙ w.in-None.is) in
          elim w.match-unit.branch [
            | in-Some+else-ne v ↦
                let same : v.in-Some.first ≡ x = search (rules, v.ne.ensures, v.if-ne.false) in
                record {
                  seen = seen_open table clause c.loop-lit.lit-index c.loop-lit.unit c.match-truth.unit none c.loop-lit.invariant.seen within (λ m e. same_Some _ _ (sym e ∙ v.in-Some.is) ∙ same) w.unit-is;
                  unit = kept;
                }
            | in_default v ↦ record {
              seen = seen_open table clause c.loop-lit.lit-index c.loop-lit.unit c.match-truth.unit none c.loop-lit.invariant.seen within (λ m e. absurd (v.in_default.not-Some m e)) w.unit-is;
              unit = kept;
            }
          ]
    ]
