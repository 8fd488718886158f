-- Literals and their opposites.
use Rattle.std.proofs.Common.{◌≡◌, ◌<◌, ◌⊎◌, inl, inr, ℕ, Bool, true, false, not, List, length, Option, Some, refl, sym, ap, ap₂, subst, ◌∙◌}
use Rattle.std.specs.Prelude.{slice_get}
use Rattle.std.specs.List.{All, Contains}
use Rattle.std.proofs.lemmas.List.Elements.{All-weaker}
use Rattle.std.proofs.lemmas.Option.{slice_get_within}
use Rattle.formula.specs.declared.atom.Atom.{Atom}
use Rattle.formula.specs.Contents.{is_clause}
use Rattle.theory_law.specs.Seen.{IsAsserted}
use Rattle.theory_law.specs.declared.trace.Coefs.{Coefs}
use Rattle.bound_theory.specs.declared.clashing.Excluded.{Excluded}
use Rattle.bound_theory.specs.Bounds.{ExcludesSome, IsPair, IsBoundLemma}
use Rattle.formula.specs.declared.atom.Lit.{Lit}
use Rattle.formula.specs.Reading.{opposite}

pub same_lit : (l m : Lit) → l.boolean ≡ m.boolean → l.pos ≡ m.pos → l ≡ m
same_lit l m a b = ap₂ (λ (x : ℕ) (s : Bool). record { boolean = x; pos = s }) a b

pub opposite_twice : (l : Lit) → opposite (opposite l) ≡ l
opposite_twice l = by_sign l.pos refl
  where
    by_sign : (s : Bool) → l.pos ≡ s → opposite (opposite l) ≡ l
    by_sign true e = ap (λ (s : Bool). record { boolean = l.boolean; pos = not (not s) }) e ∙ ap (λ (s : Bool). record { boolean = l.boolean; pos = s }) (sym e)
    by_sign false e = ap (λ (s : Bool). record { boolean = l.boolean; pos = not (not s) }) e ∙ ap (λ (s : Bool). record { boolean = l.boolean; pos = s }) (sym e)

-- the clause of a clash: a lemma in rising order, each literal the opposite of an asserted one
pub clash_is : (counts : List Bool) (atoms : List (Option Atom)) (events : List (Option Lit)) (found : Excluded) (a b : Lit) (clause : List Lit) (why : Coefs) → ExcludesSome counts atoms events found → a ≡ opposite found.upper → b ≡ opposite found.lower → IsPair a b clause
    → IsBoundLemma counts atoms clause why × (is_clause (length atoms) clause ≡ true) × All (λ l. IsAsserted events (opposite l)) clause
clash_is counts atoms events found a b clause why e a_is b_is pair = (
  (found.upper, found.lower, e.exclude, subst (λ (l : Lit). Contains clause l) a_is pair.first, subst (λ (l : Lit). Contains clause l) b_is pair.second),
  pair.rising (length atoms) (low a found.upper a_is e.exclude.upper_is.at) (low b found.lower b_is e.exclude.lower_is.at),
  All-weaker (λ (l : Lit). (l ≡ a) ⊎ (l ≡ b)) (λ (l : Lit). IsAsserted events (opposite l)) each clause pair.only,
)
  where
    low : (x l : Lit) → x ≡ opposite l → {o : Option Atom} → slice_get atoms l.boolean ≡ Some o → x.boolean < length atoms
    low x l is {o = o} at = subst (λ (y : Lit). y.boolean < length atoms) (sym is) (slice_get_within atoms l.boolean o at)

    back : (x l m : Lit) → m ≡ x → x ≡ opposite l → IsAsserted events l → IsAsserted events (opposite m)
    back x l m same is h = subst (λ (y : Lit). IsAsserted events y) (sym (ap opposite (same ∙ is) ∙ opposite_twice l)) h

    each : (l : Lit) → (l ≡ a) ⊎ (l ≡ b) → IsAsserted events (opposite l)
    each l (inl same) = back a found.upper l same a_is e.upper
    each l (inr same) = back b found.lower l same b_is e.lower
