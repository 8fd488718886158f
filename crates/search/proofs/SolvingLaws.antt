-- What the clause core answers is an attempt: its log is one of lemmas by Farkas, and what came of it is so.
use Rattle.std.proofs.Common.{◌≡◌, ℕ, Bool, List, [], ◌∷◌, ◌++◌, map, length, Option, Result, Ok, Err, refl, sym, ◌∙◌, subst}
use Rattle.formula.specs.declared.atom.Lit.{Lit}
use Rattle.formula.specs.declared.atom.Atom.{Atom}
use Rattle.formula.specs.declared.point.Point.{Point}
use Rattle.formula.specs.Contents.{Contents}
use Rattle.formula.specs.Meets.{IsSolution}
use Rattle.theory_law.specs.declared.trace.Coefs.{Coefs}
use Rattle.theory_law.specs.declared.trace.Trace.{Trace}
use Rattle.theory_law.specs.declared.log.LogStep.{LogStep}
use Rattle.theory_law.specs.declared.log.LogStep.TheVariants.{Lemma, Learn, Split}
use Rattle.theory_law.specs.Log.{IsSoundLog, after, after_log}
use Rattle.farkas_law.specs.Lemma.{IsShown}
use Rattle.cert_form.specs.Spelling.{step_line}
use Rattle.clause_core.specs.declared.solving.Outcome.{Outcome}
use Rattle.clause_core.specs.declared.solving.Outcome.TheVariants.{Found, Empty}
use Rattle.clause_core.specs.declared.solving.CoreFail.{CoreFail}
use Rattle.clause_core.specs.declared.solving.CoreFail.TheVariants.{Steps, Wide, Pivots, Sink, Memory}
use Rattle.clause_core.specs.Solved.{IsSolved, IsHandedOver}
use Rattle.planner_text.specs.declared.limits.Limits.{Limits}
use Rattle.planner_text.specs.Text.{Log, StopsAt}
use Rattle.search.specs.declared.solving.Came.{Came}
use Rattle.search.specs.declared.solving.Came.TheVariants.{Refuted, Solution, Spent, Stuck}
use Rattle.search.specs.inside.Solving.{ShowsLemmas, StopsInTime, CameTo, IsAttempt}

log_is_shown : (Shown : List Bool → List (Option Atom) → List Lit → Coefs → Type 0) → ShowsLemmas Shown → (f : Contents) (log : Log) → IsSoundLog Shown f log → IsSoundLog IsShown f log
log_is_shown Shown shows f [] h = tt
log_is_shown Shown shows f (Lemma c why ∷ log) h = ((h.0.0, shows f.counts f.atoms c why h.0.1), log_is_shown Shown shows (after {W = Coefs} f (Lemma c why)) log h.1)
log_is_shown Shown shows f (Learn c hints ∷ log) h = (h.0, log_is_shown Shown shows (after {W = Coefs} f (Learn c hints)) log h.1)
log_is_shown Shown shows f (Split b var k point ∷ log) h = (h.0, log_is_shown Shown shows (after {W = Coefs} f (Split b var k point)) log h.1)

-- what came, by the core's answer
abbrev pub ComesAs : Result Outcome CoreFail → Came → Type 0
ComesAs (Ok (Found p)) came = came ≡ Solution p
ComesAs (Ok Empty) came = came ≡ Refuted
ComesAs (Err Steps) came = came ≡ Spent
ComesAs (Err (Wide t)) came = came ≡ Stuck t
ComesAs (Err (Pivots t)) came = came ≡ Stuck t
ComesAs (Err Sink) came = ⊥
ComesAs (Err Memory) came = ⊥

module _ (Shown : List Bool → List (Option Atom) → List Lit → Coefs → Type 0) (Sticks : List Bool → List (Option Atom) → ℕ → Trace → Type 0) (cuts : Bool) (limits : Limits) (f : Contents)
    (Before Now : List (LogStep Coefs) → Type 0) (Stopped : List (LogStep Coefs) → LogStep Coefs → Type 0) (was is : ℕ)
    (shows : ShowsLemmas Shown) (stops : StopsInTime limits Sticks) (points : (log : Log) (p : Point) → IsSolution (after_log f log) p → IsSolution f p)
    (lines : List (List ℕ)) (before : Before []) (means : (log : Log) → Now log → lines ≡ map step_line log) where
  attempt : (r : Result Outcome CoreFail) (s : IsSolved Shown Sticks cuts limits.pivots f Before Now Stopped was is limits.steps r) (came : Came)
      → IsHandedOver Before Now s.log → CameTo limits f s.log came → IsAttempt limits f (record { lines = lines; came = came })
  attempt r s came handed h = record {
    log = s.log;
    lines = means s.log (handed [] before);
    sound = log_is_shown Shown shows f s.log s.is_log.sound;
    licensed = s.is_log.licensed;
    few = s.short;
    came = h;
  }

  pub attempted : (r : Result Outcome CoreFail) (came : Came) → ComesAs r came → IsSolved Shown Sticks cuts limits.pivots f Before Now Stopped was is limits.steps r → IsAttempt limits f (record { lines = lines; came = came })
  attempted (Ok (Found p)) came how s = attempt _ s came s.sink (subst (CameTo limits f s.log) (sym how) (points s.log p s.answer.0))
  attempted (Ok Empty) came how s = attempt _ s came s.sink (subst (CameTo limits f s.log) (sym how) s.answer)
  attempted (Err Steps) came how s = attempt _ s came s.sink (subst (CameTo limits f s.log) (sym how) s.answer)
  attempted (Err (Wide t)) came how s = attempt _ s came s.sink (subst (CameTo limits f s.log) (sym how) (stops _ _ t s.answer.0.trace.stuck))
  attempted (Err (Pivots t)) came how s = attempt _ s came s.sink (subst (CameTo limits f s.log) (sym how) (stops _ _ t s.answer.0.trace.stuck))
  attempted (Err Sink) came how s = absurd how
  attempted (Err Memory) came how s = absurd how

pub comes_found : (r : Result Outcome CoreFail) (came : Came) (o : Outcome) (p : Point) → r ≡ Ok o → Found p ≡ o → came ≡ Solution p → ComesAs r came
comes_found r came o p is found how = subst (λ (x : Result Outcome CoreFail). ComesAs x came) (sym is) (subst (λ (x : Outcome). ComesAs (Ok x) came) found how)

pub comes_empty : (r : Result Outcome CoreFail) (came : Came) (o : Outcome) → r ≡ Ok o → Empty ≡ o → came ≡ Refuted → ComesAs r came
comes_empty r came o is found how = subst (λ (x : Result Outcome CoreFail). ComesAs x came) (sym is) (subst (λ (x : Outcome). ComesAs (Ok x) came) found how)

pub comes_failed : (r : Result Outcome CoreFail) (came : Came) (e f : CoreFail) → r ≡ Err e → f ≡ e → ComesAs (Err f) came → ComesAs r came
comes_failed r came e f is found how = subst (λ (x : Result Outcome CoreFail). ComesAs x came) (sym is) (subst (λ (x : CoreFail). ComesAs (Err x) came) found how)

pub same_pivots : {Shown : List Bool → List (Option Atom) → List Lit → Coefs → Type 0} {Sticks : List Bool → List (Option Atom) → ℕ → Trace → Type 0} {cuts : Bool} {f : Contents} {Before Now : List (LogStep Coefs) → Type 0}
    {Stopped : List (LogStep Coefs) → LogStep Coefs → Type 0} {was is steps : ℕ} {r : Result Outcome CoreFail} (m n : ℕ) → m ≡ n → IsSolved Shown Sticks cuts m f Before Now Stopped was is steps r → IsSolved Shown Sticks cuts n f Before Now Stopped was is steps r
same_pivots {Shown = Shown} {Sticks = Sticks} {cuts = cuts} {f = f} {Before = Before} {Now = Now} {Stopped = Stopped} {was = was} {is = is} {steps = steps} {r = r} m n same s =
    subst (λ (k : ℕ). IsSolved Shown Sticks cuts k f Before Now Stopped was is steps r) same s
