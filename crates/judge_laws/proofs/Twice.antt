-- A clause that stands isn't new.
use Rattle.std.proofs.Common.{◌≡◌, ℕ, zero, suc, List, [], ◌∷◌, ◌++◌, Some, refl, sym, ap, subst}
use Rattle.std.specs.Prelude.{slice_get}
use Rattle.std.specs.List.{Contains}
use Rattle.std.proofs.lemmas.List.Elements.{Contains-append_left, Contains-push}
use Rattle.std.proofs.lemmas.Option.{same_Some}
use Rattle.formula.specs.declared.atom.Lit.{Lit}
use Rattle.formula.specs.Contents.{Contents}
use Rattle.theory_law.specs.declared.log.LogStep.{LogStep}
use Rattle.theory_law.specs.declared.log.LogStep.TheVariants.{Lemma, Learn, Split}
use Rattle.theory_law.specs.declared.trace.Coefs.{Coefs}
use Rattle.theory_law.specs.Licence.{IsNew}
use Rattle.theory_law.specs.Log.{after}
use Rattle.cert_check.specs.Judged.{AreAccepted}
use Rattle.judge_laws.specs.Licensed.{added}

not_new : (clauses : List (List Lit)) (c : List Lit) → Contains clauses c → IsNew clauses c → ⊥
not_new clauses c has new = new c has (λ l h. h)

-- what stands isn't added any more
fresh : (f : Contents) (log : List (LogStep Coefs)) (c : List Lit) (i : ℕ) → AreAccepted f log → Contains f.clauses c → slice_get (added log) i ≡ Some c → ⊥
fresh f [] c i a has e = absurd (cc)
fresh f (Lemma d why ∷ log) c zero a has e = not_new f.clauses d (subst (λ (x : List Lit). Contains f.clauses x) (sym (same_Some d c e)) has) a.0.licensed
fresh f (Lemma d why ∷ log) c (suc i) a has e = fresh (after {W = Coefs} f (Lemma d why)) log c i a.1 (Contains-append_left f.clauses (d ∷ []) c has) e
fresh f (Learn d hints ∷ log) c zero a has e = not_new f.clauses d (subst (λ (x : List Lit). Contains f.clauses x) (sym (same_Some d c e)) has) a.0.licensed
fresh f (Learn d hints ∷ log) c (suc i) a has e = fresh (after {W = Coefs} f (Learn d hints)) log c i a.1 (Contains-append_left f.clauses (d ∷ []) c has) e
fresh f (Split b var k point ∷ log) c i a has e = fresh (after {W = Coefs} f (Split b var k point)) log c i a.1 has e

pub once : (f : Contents) (log : List (LogStep Coefs)) (i j : ℕ) (c : List Lit) → AreAccepted f log → slice_get (added log) i ≡ Some c → slice_get (added log) j ≡ Some c → i ≡ j
once f [] i j c a e g = absurd (cc)
once f (Lemma d why ∷ log) zero zero c a e g = refl
once f (Lemma d why ∷ log) zero (suc j) c a e g = absurd (fresh (after {W = Coefs} f (Lemma d why)) log c j a.1 (subst (λ (x : List Lit). Contains (f.clauses ++ d ∷ []) x) (same_Some d c e) (Contains-push f.clauses d)) g)
once f (Lemma d why ∷ log) (suc i) zero c a e g = absurd (fresh (after {W = Coefs} f (Lemma d why)) log c i a.1 (subst (λ (x : List Lit). Contains (f.clauses ++ d ∷ []) x) (same_Some d c g) (Contains-push f.clauses d)) e)
once f (Lemma d why ∷ log) (suc i) (suc j) c a e g = ap suc (once (after {W = Coefs} f (Lemma d why)) log i j c a.1 e g)
once f (Learn d hints ∷ log) zero zero c a e g = refl
once f (Learn d hints ∷ log) zero (suc j) c a e g = absurd (fresh (after {W = Coefs} f (Learn d hints)) log c j a.1 (subst (λ (x : List Lit). Contains (f.clauses ++ d ∷ []) x) (same_Some d c e) (Contains-push f.clauses d)) g)
once f (Learn d hints ∷ log) (suc i) zero c a e g = absurd (fresh (after {W = Coefs} f (Learn d hints)) log c i a.1 (subst (λ (x : List Lit). Contains (f.clauses ++ d ∷ []) x) (same_Some d c g) (Contains-push f.clauses d)) e)
once f (Learn d hints ∷ log) (suc i) (suc j) c a e g = ap suc (once (after {W = Coefs} f (Learn d hints)) log i j c a.1 e g)
once f (Split b var k point ∷ log) i j c a e g = once (after {W = Coefs} f (Split b var k point)) log i j c a.1 e g
