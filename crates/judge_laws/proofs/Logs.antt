-- Accepted logs, step by step.
use Rattle.std.proofs.Common.{◌≡◌, ◌↔◌, Bool, true, false, List, [], ◌∷◌, ◌++◌, length, take, Option, Some, refl, ap}
use Rattle.std.specs.List.{list_all}
use Rattle.std.proofs.lemmas.Bool.{and_parts, and_from}
use Rattle.formula.specs.declared.atom.Atom.{Atom}
use Rattle.formula.specs.declared.atom.Lit.{Lit}
use Rattle.formula.specs.declared.point.Point.{Point}
use Rattle.formula.specs.Contents.{Contents, IsFormula, is_clause, with_clause}
use Rattle.formula.specs.Meets.{IsSolution}
use Rattle.formula.proofs.Growing.{formula-boolean}
use Rattle.formula.proofs.Splits.{split_is_atom}
use Rattle.theory_law.specs.declared.log.LogStep.{LogStep}
use Rattle.theory_law.specs.declared.log.LogStep.TheVariants.{Lemma, Learn, Split}
use Rattle.theory_law.specs.declared.trace.Coefs.{Coefs}
use Rattle.theory_law.specs.Splits.{at_most}
use Rattle.theory_law.specs.Log.{after, after_log, IsSoundLog, HasEmpty}
use Rattle.log_laws.proofs.Keeping.{no_exact_point}
use Rattle.log_laws.proofs.Cutting.{values_long, integral, meets}
use Rattle.farkas_law.specs.Lemma.{IsShown}
use Rattle.farkas_law.proofs.Lemmas.{shown_holds}
use Rattle.cert_check.specs.Judged.{Accepts, AreAccepted}
use Rattle.judge_laws.specs.Licensed.{IsLicensedLogWithin}
use Rattle.judge_laws.proofs.Steps.{accepted_sound, accepted_licensed, sound_accepted}

all_push : {A : Type 0} (p : A → Bool) (xs : List A) (x : A) → list_all p xs ≡ true → p x ≡ true → list_all p (xs ++ x ∷ []) ≡ true
all_push p [] x h e = and_from (p x) true e refl
all_push p (y ∷ xs) x h e = let q = and_parts (p y) (list_all p xs) h in and_from (p y) _ q.0 (all_push p xs x q.1 e)

formula_clause : (f : Contents) (c : List Lit) → IsFormula f → is_clause (length f.atoms) c ≡ true → IsFormula (with_clause c f)
formula_clause f c is e = record { atoms = is.atoms; clauses = all_push (is_clause (length f.atoms)) f.clauses c is.clauses e }

-- the formula after an accepted step is one
still_formula : (f : Contents) (s : LogStep Coefs) → IsFormula f → Accepts f s → IsFormula (after f s)
still_formula f (Lemma c why) is a = formula_clause f c is a.known.0
still_formula f (Learn c hints) is a = formula_clause f c is a.known.0
still_formula f (Split b n k p) is a = formula-boolean f (Some (at_most n k)) is (split_is_atom f.counts n k _ refl a.known.1.count a.known.1.integral a.known.1.next)

pub log_sound : (f : Contents) (log : List (LogStep Coefs)) → IsFormula f → AreAccepted f log → IsSoundLog IsShown f log
log_sound f [] is a = tt
log_sound f (s ∷ log) is a = (accepted_sound f s is a.0, log_sound (after f s) log (still_formula f s is a.0) a.1)

pub log_licensed : (f : Contents) (log : List (LogStep Coefs)) → AreAccepted f log → IsLicensedLogWithin f log
log_licensed f [] a = tt
log_licensed f (s ∷ log) a = (accepted_licensed f s a.0, log_licensed (after f s) log a.1)

pub log_accepted : (f : Contents) (log : List (LogStep Coefs)) → IsSoundLog IsShown f log → IsLicensedLogWithin f log → AreAccepted f log
log_accepted f [] s l = tt
log_accepted f (step ∷ log) s l = (sound_accepted f step s.0 l.0, log_accepted (after f step) log s.1 l.1)

pub refutes : (f : Contents) (log : List (LogStep Coefs)) (p : Point) → IsFormula f → AreAccepted f log → HasEmpty (after_log f log) → IsSolution f p → ⊥
refutes f log p is a empty s =
    no_exact_point IsShown shown_holds (take (length f.counts) p.values) f log is (log_sound f log is a) empty (values_long f p is s) (integral f p is s) (take (length f.atoms) p.truth) (meets f p is s)
