-- Words of copies: a word of n copies is one of n + 1, whose further piece has only the count 0.
use Rattle.std.proofs.Common.{◌≡◌, ◌≤◌, ℕ, suc, Bool, inr, List, [], ◌∷◌, ◌++◌, map, refl, ap, ◌∙◌, arith}
use Rattle.std.specs.Prelude.{◌⊎◌, IsTrue}
use Rattle.std.specs.List.{AllByRecursion, flat_map}
use Rattle.task_core.specs.Task.{GroundParts}
use Rattle.task_core.specs.Words.{written_out, IsWord}
use Rattle.task_core.specs.Plan.{rolls, Reaches}

abbrev none_of : {X : Type 0} → List X → List (ℕ × X)
none_of xs = map (λ x. (0, x)) xs

places-none_of : {X : Type 0} (xs : List X) → map (λ p. p.1) (none_of xs) ≡ xs
places-none_of [] = refl
places-none_of (x ∷ xs) = ap (λ ys. x ∷ ys) (places-none_of xs)

written_out-none_of : {X : Type 0} (xs : List X) → written_out (none_of xs) ≡ []
written_out-none_of [] = refl
written_out-none_of (x ∷ xs) = written_out-none_of xs

counts-none_of : {X : Type 0} (rolls : X → Bool) (xs : List X) → AllByRecursion (λ p. IsTrue (rolls p.1) ⊎ (p.0 ≤ 1)) (none_of xs)
counts-none_of rolls [] = tt
counts-none_of rolls (x ∷ xs) = (inr (omega arith), counts-none_of rolls xs)

pub word_of_more : {X : Type 0} (rolls : X → Bool) (pattern word : List X) (n : ℕ) → IsWord rolls pattern n word → IsWord rolls pattern (suc n) word
word_of_more rolls pattern word n w = record {
  pieces = none_of pattern ∷ w.pieces;
  copies = ap suc w.copies;
  each = (record { places = places-none_of pattern; counts = counts-none_of rolls pattern }, w.each);
  spelled = ap (λ xs. xs ++ flat_map written_out w.pieces) (written_out-none_of pattern) ∙ w.spelled;
}

pub reaches_more : (task : GroundParts) (pattern : List ℕ) (n : ℕ) → Reaches task pattern n → Reaches task pattern (suc n)
reaches_more task pattern n h = record {
  plan = h.plan;
  word = word_of_more (rolls task) pattern h.plan n h.word;
  valid = h.valid;
}
