-- Accepted steps are the sound and licensed ones.
use Rattle.std.proofs.Common.{◌≡◌, ◌↔◌, ◌<◌, ℕ, List, [], ◌∷◌, length, Result, Ok, Err, Bool, true, false, refl, sym, ap, subst, All}
use Rattle.std.specs.Prelude.{slice_get}
use Rattle.std.proofs.lemmas.List.Elements.{All-nil, All-cons}
use Rattle.std.proofs.lemmas.Option.{slice_get_within}
use Rattle.rational.specs.Fraction.{Fraction}
use Rattle.frac128.specs.Operations.{Passes}
use Rattle.frac128.specs.declared.operations.Wide.{Wide}
use Rattle.lin.specs.declared.failure.LinFail.TheVariants as lin
use Rattle.formula.specs.declared.atom.Lit.{Lit}
use Rattle.formula.specs.Contents.{Contents, IsFormula}
use Rattle.formula.specs.Reading.{opposite, reading_of}
use Rattle.formula.specs.Farkas.{Taken, taken, IsFarkas, FarkasAnswersWhere}
use Rattle.std.specs.List.{list_any}
use Rattle.formula.specs.Farkas.{is_negative}
use Rattle.theory_law.specs.declared.log.LogStep.{LogStep}
use Rattle.theory_law.specs.declared.log.LogStep.TheVariants.{Lemma, Learn, Split}
use Rattle.theory_law.specs.declared.trace.Coefs.{Coefs}
use Rattle.theory_law.specs.Units.{Follows}
use Rattle.theory_law.specs.Log.{IsSound}
use Rattle.theory_law.specs.Licence.{IsLicensed}
use Rattle.farkas_law.specs.Lemma.{bare, IsShown}
use Rattle.cert_check.specs.Judged.{Accepts, Fits, PassesIn}
use Rattle.judge_laws.specs.Licensed.{IsLicensedWithin}

-- the readings don't depend on the clauses
pub taken_bare : (f : Contents) (c : List Lit) (cs : List Fraction) → taken (bare f.counts f.atoms) c cs ≡ taken f c cs
taken_bare f [] cs = refl
taken_bare f (l ∷ ls) [] = refl
taken_bare f (l ∷ ls) (x ∷ xs) = ap (λ (ts : List Taken). (reading_of f (opposite l), x) ∷ ts) (taken_bare f ls xs)

pub accepted_sound : (f : Contents) (s : LogStep Coefs) → IsFormula f → Accepts f s → IsSound IsShown f s
accepted_sound f (Lemma c why) is a = (
  a.known.0,
  record {
    over = is.atoms;
    of_atoms = a.known.1;
    many = a.known.2;
    shows = subst IsFarkas (sym (taken_bare f c why.list)) a.justified;
  },
)
accepted_sound f (Learn c hints) is a = (a.known.0, a.justified)
accepted_sound f (Split b var k point) is a = (a.known.0, a.known.1)

pub accepted_licensed : (f : Contents) (s : LogStep Coefs) → Accepts f s → IsLicensedWithin f s
accepted_licensed f s a = record { licensed = a.licensed; fits = a.fits }

-- hints that do their work are numbers of clauses
follows_known : (clauses : List (List Lit)) (trues : List Lit) (hints : List ℕ) → Follows clauses trues hints → All (λ h. h < length clauses) hints
follows_known clauses trues [] f = absurd f
follows_known clauses trues (h ∷ []) f = All-cons (λ n. n < length clauses) h [] (slice_get_within clauses h f.0 f.1) (All-nil (λ n. n < length clauses))
follows_known clauses trues (h ∷ i ∷ hints) f = All-cons (λ n. n < length clauses) h (i ∷ hints) (slice_get_within clauses h f.0 f.1) (follows_known clauses (f.2 ∷ trues) (i ∷ hints) f.4)

pub sound_accepted : (f : Contents) (s : LogStep Coefs) → IsSound IsShown f s → IsLicensedWithin f s → Accepts f s
sound_accepted f (Lemma c why) s l = record {
  known = (s.0, s.1.of_atoms, s.1.many);
  justified = subst IsFarkas (taken_bare f c why.list) s.1.shows;
  licensed = l.licensed;
  fits = l.fits;
}
sound_accepted f (Learn c hints) s l = record {
  known = (s.0, follows_known f.clauses _ hints s.1);
  justified = s.1;
  licensed = l.licensed;
  fits = l.fits;
}
sound_accepted f (Split b var k point) s l = record {
  known = (s.0, s.1, l.licensed.exact);
  justified = tt;
  licensed = l.licensed;
  fits = l.fits;
}

-- ---- an operation that is answered

farkas_passes : (negative : Bool) (ts : List Taken) (w : Wide) → FarkasAnswersWhere negative ts (Err (lin.Wide w)) → Passes w.op w.x w.y
farkas_passes true ts w e = absurd (cc)
farkas_passes false ts w first = first.passes

pub answered_passes : (f : Contents) (s : LogStep Coefs) (w : Wide) → PassesIn f s w → Passes w.op w.x w.y
answered_passes f (Lemma c why) w h = farkas_passes (list_any is_negative why.list) (taken f c why.list) w h
answered_passes f (Learn c hints) w h = absurd h
answered_passes f (Split b var k point) w h = h.1.passes.passes
