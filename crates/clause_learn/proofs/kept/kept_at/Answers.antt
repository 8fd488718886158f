use Rattle.std.proofs.Common.{◌≡◌, ◌<◌, sym, ap, subst, length, arith, Some, true, false, slice_get, ◌∙◌, get_or, List, None}
use Rattle.formula.specs.declared.atom.Lit.{Lit}
use Rattle.clause_trail.specs.declared.trail.Entry.{Entry}
use Rattle.clause_trail.specs.Standing.{Stands}
use Rattle.clause_trail.proofs.Gets.{get-from}
use Rattle.clause_trail.proofs.Lits.{opposite-opposite, same_stand}
use Rattle.clause_learn.proofs.kept.kept_at.Goals.{then-not-marked-p-via-then-not-marked-p, then-not-marked-p-via-else-not-marked-p+then-resolved-p}
use Rattle.clause_learn.proofs.kept.kept_at.Goals as goal

pub returns-then-not-marked-p : goal.returns-then-not-marked-p
returns-then-not-marked-p c = λ p m s e k r.
    let f = c.in-Some.ensures.found in
    let same : p ≡ c.in-Some.p = c.entries-entries.ensures.apart p c.in-Some.p m f.0 s f.1 (e ∙ sym f.2) in
    let lt1 : c.in-Some.p < length c.args.marked.now = omega (arith, c.in-Some.ensures.within, c.requires.marked) in
    let lt2 : c.in-Some.p < length c.args.resolved.now = omega (arith, c.in-Some.ensures.within, c.requires.resolved) in
    let k2 : slice_get c.args.marked.now c.in-Some.p ≡ Some true = rw (← same) k in
    let r2 : slice_get c.args.resolved.now c.in-Some.p ≡ Some false = rw (← same) r in
    elim c.then-not-marked-p.branch [
      | then-not-marked-p-via-then-not-marked-p w ↦ let h = get-from c.args.marked.now c.in-Some.p false false lt1 w.if-not-marked-p.true in cc
      | then-not-marked-p-via-else-not-marked-p+then-resolved-p w ↦ let h = get-from c.args.resolved.now c.in-Some.p false true lt2 w.if-resolved-p.true in cc
    ]

first : Entry
first = record { lit = record { boolean = 0; pos = false }; reason = None }

pub returns : goal.returns
unfolding first
returns c =
    let f = c.in-Some.ensures.found in
    let e : Entry = get_or c.entries-entries.result.now c.in-Some.p first in
    let lt1 : c.in-Some.p < length c.args.marked.now = omega (arith, c.in-Some.ensures.within, c.requires.marked) in
    let lt2 : c.in-Some.p < length c.args.resolved.now = omega (arith, c.in-Some.ensures.within, c.requires.resolved) in
    let at : slice_get c.args.trail.now.entries c.in-Some.p ≡ Some e = get-from c.args.trail.now.entries c.in-Some.p first e c.in-Some.ensures.within (ap (λ (l : List Entry). get_or l c.in-Some.p first) (sym c.entries-entries.ensures.value)) in
    let here : Stands c.args.trail.now.entries c.in-Some.p e.lit = (e.reason, at) in
    let same : e.lit ≡ f.0 = same_stand c.args.trail.now.entries c.in-Some.p e.lit f.0 here f.1 in
    record {
      boolean = ap (λ (l : Lit). l.boolean) same ∙ f.2;
      place = c.in-Some.p;
      stands = subst (λ (l : Lit). Stands c.args.trail.now.entries c.in-Some.p l) (sym (opposite-opposite e.lit)) here;
      marked = get-from c.args.marked.now c.in-Some.p false true lt1 c.if-not-marked-p.false;
      resolved = get-from c.args.resolved.now c.in-Some.p false false lt2 c.if-resolved-p.false;
    }

pub returns-in_default : goal.returns-in_default
returns-in_default c = λ p m s e k r. c.in_default.ensures.found p m s e
