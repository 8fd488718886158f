use Rattle.std.proofs.Common.{◌≡◌, ℕ, ◌++◌, ◌∷◌, [], sym, ap, subst, arith, Some, true, false, slice_get, ◌∙◌, inl, inr}
use Rattle.std.specs.List.{Contains}
use Rattle.std.proofs.lemmas.Bool.{cases_eq}
use Rattle.std.proofs.lemmas.List.Elements.{Contains-push_cases, Contains-append_left, Contains-push}
use Rattle.formula.specs.declared.atom.Lit.{Lit}
use Rattle.formula.specs.Reading.{opposite}
use Rattle.clause_trail.specs.Standing.{Stands}
use Rattle.clause_trail.proofs.Lits.{opposite-opposite, same_stand}
use Rattle.clause_learn.proofs.kept.kept.Goals.{in-Some+in_ok-push, in_default}
use Rattle.clause_learn.proofs.Rising.{rising_push, low_push, low_more}
use Rattle.clause_learn.proofs.kept.kept.Goals as goal

pub loop-b-preserved : goal.loop-b-preserved
loop-b-preserved c = elim c.match-kept_at.branch [
  | in-Some+in_ok-push w ↦
      let items : c.match-kept_at.lits.items ≡ c.loop-b.lits.items ++ w.in-Some.lit ∷ [] = rw w.lits-is w.in_ok-push.ensures.items in
      rw items (record {
        sound = λ m h. elim (Contains-push_cases c.loop-b.lits.items w.in-Some.lit m h) [
          | inl old ↦ c.loop-b.invariant.sound m old
          | inr new ↦ subst (λ (x : Lit). (p : ℕ) × Stands c.args.trail.now.entries p (opposite x) × (slice_get c.args.marked.now p ≡ Some true) × (slice_get c.args.resolved.now p ≡ Some false)) new (w.in-Some.ensures.place, w.in-Some.ensures.stands, w.in-Some.ensures.marked, w.in-Some.ensures.resolved)
        ];
        complete = λ p m lt s k r. elim (cases_eq m.boolean c.loop-b.b) [
          | inl same ↦
              let f = w.in-Some.ensures in
              let places : p ≡ f.place = c.booleans-b-end.ensures.apart p f.place m (opposite w.in-Some.lit) s f.stands (same ∙ sym f.boolean) in
              let is : m ≡ opposite w.in-Some.lit = same_stand c.args.trail.now.entries p m (opposite w.in-Some.lit) s (subst (λ (q : ℕ). Stands c.args.trail.now.entries q (opposite w.in-Some.lit)) (sym places) f.stands) in
              let turned : w.in-Some.lit ≡ opposite m = sym (ap opposite is ∙ opposite-opposite w.in-Some.lit) in
              subst (λ (x : Lit). Contains (c.loop-b.lits.items ++ w.in-Some.lit ∷ []) x) turned (Contains-push c.loop-b.lits.items w.in-Some.lit)
          | inr other ↦ Contains-append_left c.loop-b.lits.items (w.in-Some.lit ∷ []) (opposite m) (c.loop-b.invariant.complete p m (omega arith) s k r)
        ];
        rising = rising_push c.loop-b.b c.loop-b.lits.items w.in-Some.lit c.loop-b.invariant.rising c.loop-b.invariant.low w.in-Some.ensures.boolean;
        low = low_push c.loop-b.b c.loop-b.lits.items w.in-Some.lit c.loop-b.invariant.low w.in-Some.ensures.boolean;
      })
  | in_default w ↦ rw w.lits-is (record {
    sound = c.loop-b.invariant.sound;
    complete = λ p m lt s k r. elim (cases_eq m.boolean c.loop-b.b) [
      | inl same ↦ absurd (w.in_default.ensures p m s same k r)
      | inr other ↦ c.loop-b.invariant.complete p m (omega arith) s k r
    ];
    rising = c.loop-b.invariant.rising;
    low = low_more c.loop-b.b c.loop-b.lits.items c.loop-b.invariant.low;
  })
]

pub returns-clause-kept : goal.returns-clause-kept
returns-clause-kept c = record { sound = c.loop-b.invariant.sound; complete = λ p l s m r. c.loop-b.invariant.complete p l (omega (arith, c.booleans-b-end.ensures.above p l s)) s m r }
