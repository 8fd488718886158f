-- A lemma holds at each point with whole counts: else the negated readings would all hold, and Farkas' lemma excludes that.
use Rattle.std.proofs.Common.{◌≡◌, ◌⊎◌, inl, inr, suc, Bool, not, List, [], ◌∷◌, length, Option, Some, None, refl, sym, ap, subst, ◌∙◌, arith}
use Rattle.std.specs.Prelude.{All, slice_get, unwrap_or, IsSome}
use Rattle.std.specs.List.{Any, AllByRecursion}
use Rattle.std.proofs.lemmas.List.Elements.{All-from_recursion, recursion_from_All}
use Rattle.std.proofs.lemmas.Option.{unwrap_or-slice_get}
use Rattle.rational.specs.Fraction.{Fraction}
use Rattle.lin.specs.Linear.{point_of}
use Rattle.formula.specs.declared.atom.Atom.{Atom}
use Rattle.formula.specs.declared.atom.Lit.{Lit}
use Rattle.formula.specs.Contents.{IsFormula, IsBoolean}
use Rattle.formula.specs.Reading.{Holds, reading, reading_of, reading_where, opposite, atom_of, IsOfAtom}
use Rattle.formula.specs.Farkas.{Taken, taken}
use Rattle.formula.specs.Meets.{AreWhole}
use Rattle.formula.proofs.Readings.{atom_is}
use Rattle.formula.proofs.Refuting.{refuted_nowhere}
use Rattle.theory_law.specs.declared.trace.Coefs.{Coefs}
use Rattle.theory_law.specs.Readings.{Reads, BooleanReads}
use Rattle.farkas_law.specs.Lemma.{bare, IsShown}
use Rattle.farkas_law.proofs.Readings.{either_reading}

-- ---- some element of a list
any_first : {X : Type 0} (P : X → Type 0) (x : X) (xs : List X) → P x → Any P (x ∷ xs)
any_first P x xs h = (0, x, omega arith, refl, h)

any_later : {X : Type 0} (P : X → Type 0) (x : X) (xs : List X) → Any P xs → Any P (x ∷ xs)
any_later P x xs h = (suc h.0, h.1, omega (arith, h.2), h.3, h.4)

module _ (counts : List Bool) (atoms : List (Option Atom)) (over : All (IsBoolean counts) atoms) (values : List Fraction) (wholes : AreWhole counts values) where
  formula : IsFormula (bare counts atoms)
  formula = record { atoms = over; clauses = refl }

  reads : (l : Lit) (a : Atom) (o : Option (Option Atom)) → slice_get atoms l.boolean ≡ o → unwrap_or o None ≡ Some a → Holds (point_of values) (reading counts a l.pos) → Reads counts atoms values l
  reads l a None e is h = absurd (cc)
  reads l a (Some None) e is h = absurd (cc)
  reads l a (Some (Some c)) e is h = subst (λ o. BooleanReads counts values o l.pos) (sym (e ∙ ap (λ o. Some o) is)) h

  either_of : (l : Lit) (a : Atom) → atom_of (bare counts atoms) l.boolean ≡ Some a → Reads counts atoms values l ⊎ Holds (point_of values) (reading_of (bare counts atoms) (opposite l))
  either_of l a e = by_side (either_reading (point_of values) counts wholes a (atom_is (bare counts atoms) l.boolean a formula e) l.pos)
    where
      by_side : Holds (point_of values) (reading counts a l.pos) ⊎ Holds (point_of values) (reading counts a (not l.pos)) → Reads counts atoms values l ⊎ Holds (point_of values) (reading_of (bare counts atoms) (opposite l))
      by_side (inl h) = inl (reads l a (slice_get atoms l.boolean) refl (unwrap_or-slice_get atoms l.boolean None ∙ e) h)
      by_side (inr h) = inr (subst (λ o. Holds (point_of values) (reading_where counts o (not l.pos))) (sym e) h)

  either : (l : Lit) → IsOfAtom (bare counts atoms) l → Reads counts atoms values l ⊎ Holds (point_of values) (reading_of (bare counts atoms) (opposite l))
  either l h = by_atom (atom_of (bare counts atoms) l.boolean) refl h
    where
      by_atom : (o : Option Atom) → atom_of (bare counts atoms) l.boolean ≡ o → IsSome o → Reads counts atoms values l ⊎ Holds (point_of values) (reading_of (bare counts atoms) (opposite l))
      by_atom None e g = absurd (cc)
      by_atom (Some a) e g = either_of l a e

  -- some literal reads true, or each negated one does
  abbrev Decided : List Lit → List Fraction → Type 0
  Decided ls cs = Any (Reads counts atoms values) ls ⊎ AllByRecursion (λ t. Holds (point_of values) t.0) (taken (bare counts atoms) ls cs)

  decided_more : (l : Lit) (ls : List Lit) (c : Fraction) (cs : List Fraction) → Reads counts atoms values l ⊎ Holds (point_of values) (reading_of (bare counts atoms) (opposite l)) → Decided ls cs → Decided (l ∷ ls) (c ∷ cs)
  decided_more l ls c cs (inl g) rest = inl (any_first (Reads counts atoms values) l ls g)
  decided_more l ls c cs (inr g) (inl any) = inl (any_later (Reads counts atoms values) l ls any)
  decided_more l ls c cs (inr g) (inr all) = inr (g, all)

  some_or_none : (ls : List Lit) (cs : List Fraction) → AllByRecursion (IsOfAtom (bare counts atoms)) ls → length cs ≡ length ls → Decided ls cs
  some_or_none [] cs h e = inr tt
  some_or_none (l ∷ ls) [] h e = absurd (omega (arith, e))
  some_or_none (l ∷ ls) (c ∷ cs) h e = decided_more l ls c cs (either l h.0) (some_or_none ls cs h.1 (omega (arith, e)))

pub shown_holds : (counts : List Bool) (atoms : List (Option Atom)) (clause : List Lit) (why : Coefs) → IsShown counts atoms clause why
    → (values : List Fraction) → length values ≡ length counts → AreWhole counts values → Any (Reads counts atoms values) clause
shown_holds counts atoms clause why shown values long wholes = by_side (some_or_none counts atoms shown.over values wholes clause why.list (recursion_from_All (IsOfAtom (bare counts atoms)) clause shown.of_atoms) shown.many)
  where
    by_side : Any (Reads counts atoms values) clause ⊎ AllByRecursion (λ t. Holds (point_of values) t.0) (taken (bare counts atoms) clause why.list) → Any (Reads counts atoms values) clause
    by_side (inl any) = any
    by_side (inr all) = absurd (refuted_nowhere (bare counts atoms) clause why.list (point_of values) (record { atoms = shown.over; clauses = refl }) shown.shows
        (All-from_recursion (λ (t : Taken). Holds (point_of values) t.0) (taken (bare counts atoms) clause why.list) all))
