-- A copy of a formula's variables and Booleans, as far as it has come.
use Rattle.std.proofs.Common.{◌≡◌, ◌<◌, ◌≤◌, ◌+◌, ℕ, false, List, [], ◌∷◌, ◌++◌, length, take, get_or, Option, Some, None, sym, ap, subst, ◌∙◌, arith, below_more}
use Rattle.std.specs.Prelude.{slice_get, IsTrue}
use Rattle.std.proofs.lemmas.Option.{same_Some, slice_get-get_or}
use Rattle.std.proofs.lemmas.List.{take_all}
use Rattle.theory_law.proofs.Fronts.{take_get}
use Rattle.formula.specs.declared.atom.Atom.{Atom}
use Rattle.formula.specs.Contents.{Contents}
use Rattle.theory_law.specs.Seen.{IsMine, IsFirstForeign}
use Rattle.bound_theory.specs.Bounds.{is_taken}
use Rattle.bound_theory.specs.Copies.{Copies}

abbrev Mine : Contents → ℕ → Type 0
Mine f n = (i : ℕ) → i < n → (a : Option Atom) → slice_get f.atoms i ≡ Some a → IsMine is_taken f.counts a

pub mine_next : (f : Contents) (n : ℕ) (o : Option Atom) → Mine f n → slice_get f.atoms n ≡ Some o → IsMine is_taken f.counts o → Mine f (n + 1)
mine_next f n o h at mine =
    below_more (λ (i : ℕ). (a : Option Atom) → slice_get f.atoms i ≡ Some a → IsMine is_taken f.counts a) n h
    (λ a e. let P : Option Atom → Type 0 = IsMine is_taken f.counts in subst P (same_Some o a (sym at ∙ e)) mine)

pub copied : (f copy : Contents) (n : ℕ) → copy.counts ≡ f.counts → copy.atoms ≡ take n f.atoms → length f.atoms ≤ n → Mine f n → Copies f copy
copied f copy n counts atoms all mine = record {
  counts = counts;
  atoms = atoms ∙ take_all n f.atoms all;
  mine = λ k d lt. mine k (omega arith) (get_or f.atoms k d) (slice_get-get_or f.atoms k d lt);
}

pub atoms_next : (f : Contents) (atoms : List (Option Atom)) (n : ℕ) (o : Option Atom) → atoms ≡ take n f.atoms → slice_get f.atoms n ≡ Some o → atoms ++ o ∷ [] ≡ take (n + 1) f.atoms
atoms_next f atoms n o e at = ap (λ (xs : List (Option Atom)). xs ++ o ∷ []) e ∙ sym (take_get f.atoms n o at)

pub is_foreign : (f : Contents) (b : ℕ) (o : Option Atom) → Mine f b → slice_get f.atoms b ≡ Some o → (IsMine is_taken f.counts o → IsTrue false) → IsFirstForeign is_taken f b
is_foreign f b None h at foreign = absurd (not_true (foreign tt))
  where
    not_true : IsTrue false → ⊥
    not_true e = cc
is_foreign f b (Some a) h at foreign = record {
  atom = a;
  has = at;
  foreign = λ t. not_true (foreign t);
  first = λ i x lt e. h i lt x e;
}
  where
    not_true : IsTrue false → ⊥
    not_true e = cc
