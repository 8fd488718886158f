-- From parts that refute each other to the lemma that they make.
use Rattle.std.proofs.Common.{◌≡◌, ◌≤◌, ℕ, Bool, true, false, not, List, [], ◌∷◌, length, Option, Some, refl, sym, ap, subst, ◌∙◌, arith}
use Rattle.std.specs.Prelude.{map, All, IsSome}
use Rattle.std.specs.List.{Contains, AllByRecursion}
use Rattle.std.proofs.lemmas.List.Elements.{All-from_recursion, recursion_from_All}
use Rattle.std.proofs.lemmas.List.Sorted.{All-permutation, sum_by-IsPermutation, IsPermutation-map}
use Rattle.std.proofs.lemmas.Option.{slice_get_within}
use Rattle.rational.specs.Fraction.{Fraction}
use Rattle.rational.specs.Farkas.{Row, IsRefutation}
use Rattle.formula.specs.declared.atom.Atom.{Atom}
use Rattle.formula.specs.declared.atom.Lit.{Lit}
use Rattle.formula.specs.Contents.{Contents, IsFormula, is_clause}
use Rattle.formula.specs.Reading.{opposite, IsOfAtom}
use Rattle.formula.specs.Farkas.{taken, row_of}
use Rattle.theory_law.specs.declared.trace.Lemma.{Lemma}
use Rattle.farkas_law.specs.Lemma.{bare}
use Rattle.simplex_law.specs.declared.bound.Bound.{Bound}
use Rattle.simplex_atoms.specs.LeftSides.{rows_of}
use Rattle.simplex_atoms.specs.Sides.{sides_of}
use Rattle.simplex_atoms.specs.Tightest.{Gives}
use Rattle.simplex_clash.specs.Parts.{Part, clause_of, coefs_of, IsMadeOf}
use Rattle.simplex_clash.specs.Clash.{IsLemmaOf}
use Rattle.simplex_clash.proofs.Permuting.{refutation_permutes}
use Rattle.simplex_clash.proofs.ReadingRows.{row_by, given}
use Rattle.simplex_clash.proofs.Rising.{hits, IsOnce, Between, rises}

twice : (l : Lit) → opposite (opposite l) ≡ l
twice l = by_sign l.pos refl
  where
    by_sign : (b : Bool) → l.pos ≡ b → opposite (opposite l) ≡ l
    by_sign true e = ap (λ (c : Bool). record { boolean = l.boolean; pos = not (not c) }) e ∙ sym (ap (λ (c : Bool). record { boolean = l.boolean; pos = c }) e)
    by_sign false e = ap (λ (c : Bool). record { boolean = l.boolean; pos = not (not c) }) e ∙ sym (ap (λ (c : Bool). record { boolean = l.boolean; pos = c }) e)

taken_rows : (f : Contents) (ps : List Part) → map row_of (taken (bare f.counts f.atoms) (clause_of ps) (coefs_of ps)) ≡ map (row_by f) ps
taken_rows f [] = refl
taken_rows f (p ∷ ps) =
    ap (λ (l : Lit). row_by f (l, p.1) ∷ map row_of (taken (bare f.counts f.atoms) (clause_of ps) (coefs_of ps))) (twice p.0) ∙ ap (λ (rs : List Row). row_by f p ∷ rs) (taken_rows f ps)

-- an asserted literal of an atom
pub record IsHolding (f : Contents) (lits : List Lit) (p : Part) : Type 0 where
  pub variable : ℕ
  pub bound : Bound
  pub gives : Gives (sides_of f.counts (rows_of f.atoms) f.atoms) p.0 variable bound
  pub within : Contains lits p.0

module _ (f : Contents) (is : IsFormula f) (lits : List Lit) where
  between : (ps : List Part) → AllByRecursion (IsHolding f lits) ps → AllByRecursion (Between 0 (length f.atoms)) ps
  between [] h = tt
  between (p ∷ ps) h =
      let g = given f is p.0 h.0.variable h.0.bound h.0.gives in
      ((omega arith, slice_get_within f.atoms p.0.boolean (Some g.atom) g.has), between ps h.1)

  all_asserted : (ps : List Part) → AllByRecursion (IsHolding f lits) ps → AllByRecursion (λ (l : Lit). Contains lits (opposite l)) (clause_of ps)
  all_asserted [] h = tt
  all_asserted (p ∷ ps) h = (subst (λ (l : Lit). Contains lits l) (sym (twice p.0)) h.0.within, all_asserted ps h.1)

  all_atoms : (ps : List Part) → AllByRecursion (IsHolding f lits) ps → AllByRecursion (IsOfAtom (bare f.counts f.atoms)) (clause_of ps)
  all_atoms [] h = tt
  all_atoms (p ∷ ps) h =
      let g = given f is p.0 h.0.variable h.0.bound h.0.gives in
      (subst (λ (o : Option Atom). IsSome o) (sym g.known) refl, all_atoms ps h.1)

  as_many : (ps : List Part) → length (coefs_of ps) ≡ length (clause_of ps)
  as_many [] = refl
  as_many (p ∷ ps) = omega (arith, as_many ps)

  -- the lemma of parts
  pub made_lemma : (ps : List Part) (m : Lemma) → IsMadeOf ps m → IsRefutation (map (row_by f) ps) → AllByRecursion (IsHolding f lits) ps → IsOnce ps → IsLemmaOf f lits m
  made_lemma ps m (qs, moved, sorted, clause, coefs) refutes holds once =
      let held : AllByRecursion (IsHolding f lits) qs = recursion_from_All _ qs (All-permutation (IsHolding f lits) ps qs moved (All-from_recursion _ ps holds)) in
      let alone : IsOnce qs = λ b. subst (λ (n : ℕ). n ≤ 1) (sym (sum_by-IsPermutation (hits b) ps qs moved)) (once b) in
      let rows : IsRefutation (map (row_by f) qs) = refutation_permutes (map (row_by f) ps) (map (row_by f) qs) (IsPermutation-map (row_by f) ps qs moved) refutes in
      record {
        rises = ap (is_clause (length f.atoms)) clause ∙ rises 0 (length f.atoms) qs sorted alone (between qs held);
        asserted = subst (λ (c : List Lit). All (λ l. Contains lits (opposite l)) c) (sym clause) (All-from_recursion _ (clause_of qs) (all_asserted qs held));
        shown = record {
          over = is.atoms;
          of_atoms = subst (λ (c : List Lit). All (IsOfAtom (bare f.counts f.atoms)) c) (sym clause) (All-from_recursion _ (clause_of qs) (all_atoms qs held));
          many = ap (λ (xs : List Fraction). length xs) coefs ∙ as_many qs ∙ sym (ap (λ (c : List Lit). length c) clause);
          shows = subst (λ (xs : List Fraction). IsRefutation (map row_of (taken (bare f.counts f.atoms) m.clause xs))) (sym coefs)
              (subst (λ (c : List Lit). IsRefutation (map row_of (taken (bare f.counts f.atoms) c (coefs_of qs)))) (sym clause)
              (subst (λ (rs : List Row). IsRefutation rs) (sym (taken_rows f qs)) rows));
        };
      }
