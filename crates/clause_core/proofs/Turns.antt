-- One turn of a search: at most one step is handed.
use Rattle.std.proofs.Common.{◌≡◌, ℕ, ◌+◌, Bool, List, [], ◌∷◌, ◌++◌, Option, Some, Err, Result, ◌-◌, refl, sym, ap, arith, subst, inl, inr, append-nil, Ok, ◌∙◌}
use Rattle.std.specs.List.{Contains}
use Rattle.std.specs.Result.{IfOk, IfErr}
use Rattle.std.proofs.lemmas.Option.{same_Some}
use Rattle.std.proofs.lemmas.List.Elements.{Contains-push, Contains-push_cases}
use Rattle.formula.specs.declared.atom.Lit.{Lit}
use Rattle.formula.specs.declared.atom.Atom.{Atom}
use Rattle.formula.specs.Contents.{Contents}
use Rattle.theory_law.specs.declared.verdict.TheoryFail.{TheoryFail}
use Rattle.theory_law.specs.declared.verdict.TheoryFail.TheVariants as theory
use Rattle.theory_law.specs.declared.trace.Trace.{Trace}
use Rattle.theory_law.specs.declared.log.LogStep.{LogStep}
use Rattle.theory_law.specs.declared.log.LogStep.TheVariants.{Lemma, Learn, Split}
use Rattle.theory_law.specs.Log.{after, HasEmpty}
use Rattle.theory_law.specs.Sinks.{Rose}
use Rattle.theory_law.specs.Verdicts.{FailHolds}
use Rattle.clause_core.specs.declared.solving.Outcome.{Outcome}
use Rattle.clause_core.specs.declared.solving.CoreFail.{CoreFail}
use Rattle.clause_core.specs.declared.solving.CoreFail.TheVariants.{Wide, Pivots, Memory, Steps, Sink}
use Rattle.clause_core.specs.Cored.{Cored}
use Rattle.clause_core.specs.Stepping.{StepHolds, IsStuck}
use Rattle.clause_core.specs.inside.Taking.{step_clause, core_fail}
use Rattle.clause_core.specs.Solved.{IsHandedOver, ResultHolds, SinkHolds, IsStopped, IsSolved}
use Rattle.clause_core.specs.inside.Handing.{IsHanded, IsOver, IsEnd}
use Rattle.clause_core.specs.declared.solving.Outcome.TheVariants.{Found, Empty}

-- the step was handed
pub step_handed : {W : Type 0} (Shown : List Bool → List (Option Atom) → List Lit → W → Type 0) (cuts : Bool) (f : Contents) (Before Now : List (LogStep W) → Type 0) (s : LogStep W) → StepHolds Shown cuts f s → ((l : List (LogStep W)) → Before l → Now (l ++ s ∷ [])) → (next : Contents) → next ≡ after f s → IsHanded Shown cuts f next Before Now 1
step_handed Shown cuts f Before Now s t hand next taken = record {
  log = s ∷ [];
  is_log = record { sound = (t.sound, tt); licensed = (t.licensed, tt); splits = (t.splits, tt) };
  handed = hand;
  formula = taken;
  counted = refl;
}

-- the search ended with no step
pub over_none : {W : Type 0} (Shown : List Bool → List (Option Atom) → List Lit → W → Type 0) (Stuck : List Bool → List (Option Atom) → ℕ → Trace → Type 0) (cuts : Bool) (pivots : ℕ) (f : Contents) (Before Now : List (LogStep W) → Type 0) (Stopped : List (LogStep W) → LogStep W → Type 0) (was is : ℕ) (result : Result Outcome CoreFail) → SinkHolds (IsHandedOver Before Now []) (IsStopped Shown cuts f Before Stopped was is []) result → ResultHolds Stuck pivots f 0 1 result → (result ≡ Err Steps → ⊥) → IsOver Shown Stuck cuts pivots f Before Now Stopped was is result
over_none Shown Stuck cuts pivots f Before Now Stopped was is result sink answer unspent = record {
  solved = record { log = []; is_log = record { sound = tt; licensed = tt; splits = tt }; short = omega arith; sink = sink; answer = answer };
  unspent = unspent;
}

pub same_sink : {W : Type 0} (Before : List (LogStep W) → Type 0) → IsHandedOver Before Before []
same_sink Before l h = subst Before (sym (append-nil l)) h

-- it ended because the theory refuses
pub over_fail : {W : Type 0} (Shown : List Bool → List (Option Atom) → List Lit → W → Type 0) (Stuck : List Bool → List (Option Atom) → ℕ → Trace → Type 0) (cuts : Bool) (pivots : ℕ) (f : Contents) (Before : List (LogStep W) → Type 0) (Stopped : List (LogStep W) → LogStep W → Type 0) (was is : ℕ) (fail : TheoryFail) → FailHolds (IsStuck Stuck f pivots) fail → IsOver Shown Stuck cuts pivots f Before Before Stopped was is (Err (core_fail fail))
over_fail Shown Stuck cuts pivots f Before Stopped was is (theory.Wide t) h = over_none Shown Stuck cuts pivots f Before Before Stopped was is (Err (Wide t)) (same_sink Before) h (λ e. cc)
over_fail Shown Stuck cuts pivots f Before Stopped was is (theory.Pivots t) h = over_none Shown Stuck cuts pivots f Before Before Stopped was is (Err (Pivots t)) (same_sink Before) h (λ e. cc)
over_fail Shown Stuck cuts pivots f Before Stopped was is theory.Memory h = over_none Shown Stuck cuts pivots f Before Before Stopped was is (Err Memory) (same_sink Before) tt (λ e. cc)

-- it ended because the sink failed in the step
pub over_stopped : {W : Type 0} (Shown : List Bool → List (Option Atom) → List Lit → W → Type 0) (Stuck : List Bool → List (Option Atom) → ℕ → Trace → Type 0) (cuts : Bool) (pivots : ℕ) (f : Contents) (Before Now : List (LogStep W) → Type 0) (Stopped : List (LogStep W) → LogStep W → Type 0) (was is : ℕ) (s : LogStep W) → StepHolds Shown cuts f s → ((l : List (LogStep W)) → Before l → Stopped l s) → Rose was is → IsOver Shown Stuck cuts pivots f Before Now Stopped was is (Err Sink)
over_stopped {W = W} Shown Stuck cuts pivots f Before Now Stopped was is s t hand rose =
    let here : IsStopped Shown cuts f Before Stopped was is [] = record { step = s; holds = t; stopped = λ l b. subst (λ (x : List (LogStep W)). Stopped x s) (sym (append-nil l)) (hand l b); rose = rose } in
    over_none Shown Stuck cuts pivots f Before Now Stopped was is (Err Sink) here (omega arith) (λ e. cc)

-- the search ended once it took the step
end_answer : {W : Type 0} (Stuck : List Bool → List (Option Atom) → ℕ → Trace → Type 0) (pivots : ℕ) (f : Contents) (s : LogStep W) (result : Result Outcome CoreFail) → IsEnd f s result → ResultHolds Stuck pivots (after f s) 1 1 result
end_answer Stuck pivots f s (Ok Empty) h = h
end_answer Stuck pivots f s (Ok (Found p)) h = absurd h
end_answer Stuck pivots f s (Err Memory) h = tt
end_answer Stuck pivots f s (Err Steps) h = absurd h
end_answer Stuck pivots f s (Err (Wide t)) h = absurd h
end_answer Stuck pivots f s (Err (Pivots t)) h = absurd h
end_answer Stuck pivots f s (Err Sink) h = absurd h

end_sink : {W : Type 0} (Handed Stopped : Type 0) (f : Contents) (s : LogStep W) (result : Result Outcome CoreFail) → IsEnd f s result → Handed → SinkHolds Handed Stopped result
end_sink Handed Stopped f s (Ok outcome) h t = t
end_sink Handed Stopped f s (Err Memory) h t = t
end_sink Handed Stopped f s (Err Steps) h t = t
end_sink Handed Stopped f s (Err (Wide x)) h t = t
end_sink Handed Stopped f s (Err (Pivots x)) h t = t
end_sink Handed Stopped f s (Err Sink) h t = absurd h

end_unspent : {W : Type 0} (f : Contents) (s : LogStep W) (result : Result Outcome CoreFail) → IsEnd f s result → result ≡ Err Steps → ⊥
end_unspent f s result h e = subst (λ (x : Result Outcome CoreFail). IsEnd f s x) e h

pub over_end : {W : Type 0} (Shown : List Bool → List (Option Atom) → List Lit → W → Type 0) (Stuck : List Bool → List (Option Atom) → ℕ → Trace → Type 0) (cuts : Bool) (pivots : ℕ) (f : Contents) (Before Now : List (LogStep W) → Type 0) (Stopped : List (LogStep W) → LogStep W → Type 0) (was is : ℕ) (s : LogStep W) (result : Result Outcome CoreFail) → StepHolds Shown cuts f s → ((l : List (LogStep W)) → Before l → Now (l ++ s ∷ [])) → IsEnd f s result → IsOver Shown Stuck cuts pivots f Before Now Stopped was is result
over_end Shown Stuck cuts pivots f Before Now Stopped was is s result t hand end = record {
  solved = record {
    log = s ∷ [];
    is_log = record { sound = (t.sound, tt); licensed = (t.licensed, tt); splits = (t.splits, tt) };
    short = omega arith;
    sink = end_sink (IsHandedOver Before Now (s ∷ [])) (IsStopped Shown cuts f Before Stopped was is (s ∷ [])) f s result end hand;
    answer = end_answer Stuck pivots f s result end;
  };
  unspent = end_unspent f s result end;
}

none_in : {W : Type 0} (f : Contents) (s : LogStep W) → (HasEmpty f → ⊥) → (step_clause s ≡ Some [] → ⊥) → HasEmpty (after f s) → ⊥
none_in f (Lemma c why) none e h = elim (Contains-push_cases f.clauses c [] h) [ inl old ↦ none old | inr new ↦ e (ap (λ (x : List Lit). Some x) new) ]
none_in f (Learn c hints) none e h = elim (Contains-push_cases f.clauses c [] h) [ inl old ↦ none old | inr new ↦ e (ap (λ (x : List Lit). Some x) new) ]
none_in f (Split b var k point) none e h = none h

pub none_empty : {W : Type 0} (now next : Contents) (s : LogStep W) → next ≡ after now s → (HasEmpty now → ⊥) → (step_clause s ≡ Some [] → ⊥) → HasEmpty next → ⊥
none_empty now next s t none not_empty h = none_in now s none not_empty (subst HasEmpty t h)

some_in : {W : Type 0} (f : Contents) (s : LogStep W) → step_clause s ≡ Some [] → HasEmpty (after f s)
some_in f (Lemma c why) e = subst (λ (x : List Lit). Contains (f.clauses ++ x ∷ []) []) (sym (same_Some _ _ e)) (Contains-push f.clauses [])
some_in f (Learn c hints) e = subst (λ (x : List Lit). Contains (f.clauses ++ x ∷ []) []) (sym (same_Some _ _ e)) (Contains-push f.clauses [])
some_in f (Split b var k point) e = absurd (cc)

pub some_empty : {W : Type 0} (now next : Contents) (s : LogStep W) → next ≡ after now s → step_clause s ≡ Some [] → HasEmpty next
some_empty now next s t e = subst HasEmpty (sym t) (some_in now s e)

-- the formula has the empty clause
pub empty_at_once : {W : Type 0} (Shown : List Bool → List (Option Atom) → List Lit → W → Type 0) (Stuck : List Bool → List (Option Atom) → ℕ → Trace → Type 0) (cuts : Bool) (pivots : ℕ) (f : Contents) (Before : List (LogStep W) → Type 0) (Stopped : List (LogStep W) → LogStep W → Type 0) (was is steps : ℕ) → HasEmpty f → IsSolved Shown Stuck cuts pivots f Before Before Stopped was is steps (Ok Empty)
empty_at_once Shown Stuck cuts pivots f Before Stopped was is steps h = record {
  log = [];
  is_log = record { sound = tt; licensed = tt; splits = tt };
  short = omega arith;
  sink = same_sink Before;
  answer = h;
}

-- ---- what a turn answers, from what taking its step does

pub handed_if : {T E W : Type 0} (r : Result (Cored T) E) (Shown : List Bool → List (Option Atom) → List Lit → W → Type 0) (cuts : Bool) (f g : Contents) (Before Now : List (LogStep W) → Type 0) (s : LogStep W) → g ≡ f → StepHolds Shown cuts f s → ((l : List (LogStep W)) → Before l → Now (l ++ s ∷ [])) → IfOk r (λ c. c.formula ≡ after g s) → IfOk r (λ c. IsHanded Shown cuts f c.formula Before Now 1)
handed_if (Ok c) Shown cuts f g Before Now s e t hand h = step_handed Shown cuts f Before Now s t hand c.formula (h ∙ ap (λ (x : Contents). after x s) e)
handed_if (Err x) Shown cuts f g Before Now s e t hand h = tt

pub over_if : {A W : Type 0} (r : Result A (Result Outcome CoreFail)) (Shown : List Bool → List (Option Atom) → List Lit → W → Type 0) (Stuck : List Bool → List (Option Atom) → ℕ → Trace → Type 0) (cuts : Bool) (pivots : ℕ) (f g : Contents) (Before Now : List (LogStep W) → Type 0) (Stopped : List (LogStep W) → LogStep W → Type 0) (was is : ℕ) (s : LogStep W) → g ≡ f → StepHolds Shown cuts f s → ((l : List (LogStep W)) → Before l → Now (l ++ s ∷ [])) → IfErr r (IsEnd g s) → IfErr r (IsOver Shown Stuck cuts pivots f Before Now Stopped was is)
over_if (Ok a) Shown Stuck cuts pivots f g Before Now Stopped was is s e t hand h = tt
over_if (Err a) Shown Stuck cuts pivots f g Before Now Stopped was is s e t hand h = over_end Shown Stuck cuts pivots f Before Now Stopped was is s a t hand (subst (λ (x : Contents). IsEnd x s a) e h)
