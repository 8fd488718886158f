-- Formulas without atoms.
use Rattle.std.proofs.Common.{◌≡◌, ℕ, suc, ◌+◌, ◌<◌, ◌≤◌, Bool, List, [], ◌∷◌, Option, Some, None, length, replicate, refl, ap, arith, sym, ◌∙◌, get_or, below_more}
use Rattle.std.specs.List.{slice_get, All}
use Rattle.std.proofs.lemmas.Option.{same_Some, slice_get-get_or}
use Rattle.formula.specs.declared.atom.Atom.{Atom}
use Rattle.formula.specs.Contents.{Contents}
use Rattle.theory_law.specs.Seen.{IsMine, Starts}

-- the first n Booleans have no atom
abbrev pub AreAtomless : List (Option Atom) → ℕ → Type 0
AreAtomless atoms n = (i : ℕ) → i < n → (a : Option Atom) → slice_get atoms i ≡ Some a → a ≡ None

pub atomless_next : (atoms : List (Option Atom)) (n : ℕ) → AreAtomless atoms n → slice_get atoms n ≡ Some None → AreAtomless atoms (n + 1)
atomless_next atoms n h none = below_more (λ (i : ℕ). (a : Option Atom) → slice_get atoms i ≡ Some a → a ≡ None) n h (λ a at. same_Some _ _ (sym at ∙ none))

pub atomless_is : (atoms : List (Option Atom)) → AreAtomless atoms (length atoms) → atoms ≡ replicate (length atoms) None
atomless_is [] h = refl
atomless_is (a ∷ atoms) h =
    let head : a ≡ None = h 0 (omega arith) a refl in
    let tail : atoms ≡ replicate (length atoms) None = atomless_is atoms (λ i lt b at. h (suc i) (omega arith) b at) in
    cc

pub mine : (takes : List Bool → Atom → Bool) (counts : List Bool) (a : Option Atom) → a ≡ None → IsMine takes counts a
mine takes counts None e = tt
mine takes counts (Some a) e = absurd (cc)

pub all_mine : (takes : List Bool → Atom → Bool) (counts : List Bool) (atoms : List (Option Atom)) → AreAtomless atoms (length atoms) → All (IsMine takes counts) atoms
all_mine takes counts atoms h k d lt = mine takes counts (get_or atoms k d) (h k lt (get_or atoms k d) (slice_get-get_or atoms k d lt))

-- the theory without atoms starts
pub starts : (takes : List Bool → Atom → Bool) (f : Contents) (pivots n m : ℕ) (kept : List Bool) → AreAtomless f.atoms m → n ≡ length f.atoms → n ≤ m → kept ≡ f.counts → Starts takes f pivots (record { counts = kept; atoms = replicate n None; pivots = pivots; asserted = [] }) None
starts takes f pivots n m kept h e le same =
    let atomless : AreAtomless f.atoms (length f.atoms) = λ i lt a at. h i (omega arith) a at in
    let none : f.atoms ≡ replicate (length f.atoms) None = atomless_is f.atoms atomless in
    record { mine = all_mine takes f.counts f.atoms atomless; seen_is = let so_many : replicate n None ≡ f.atoms = ap (λ (x : ℕ). replicate x None) e ∙ sym none in cc; uncut = refl }
