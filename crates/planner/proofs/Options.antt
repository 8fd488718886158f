-- One option after another.
use Rattle.std.proofs.Common.{◌≡◌, ℕ, suc, ◌-◌, ◌≤◌, List, [], ◌∷◌, length, take, drop, get_or, Option, Some, String, Global, refl, ◌∙◌, ap, ap₂, arith}
use Rattle.std.specs.Prelude.{string_bytes, option_and_then}
use Rattle.planner.specs.declared.words.Given.{Given}
use Rattle.planner.specs.Words.{with_option, with_options}

take_whole : {X : Type 0} (xs : List X) → take (length xs) xs ≡ xs
take_whole [] = refl
take_whole (x ∷ xs) = ap (λ (l : List _). x ∷ l) (take_whole xs)

two_less : (n : ℕ) → suc (suc n) - 2 ≡ n
two_less n = omega arith

pub next_option : (words : List (String Global)) (name value : String Global) (g h : Given) → 2 ≤ length words → name ≡ get_or words 0 name → value ≡ get_or words 1 value
    → Some h ≡ with_option g (string_bytes name) (string_bytes value) → with_options h (take (length words - 2) (drop 2 words)) ≡ with_options g words
next_option [] name value g h two name_is value_is given = absurd (omega (arith, two))
next_option (n ∷ []) name value g h two name_is value_is given = absurd (omega (arith, two))
next_option (n ∷ v ∷ more) name value g h two name_is value_is given =
    let same = ap₂ (λ (x : String Global) (y : String Global). with_option g (string_bytes x) (string_bytes y)) name_is value_is in
    ap (λ (k : ℕ). with_options h (take k more)) (two_less (length more)) ∙ ap (λ (l : List (String Global)). with_options h l) (take_whole more) ∙ ap (λ (o : Option Given). option_and_then (λ k. with_options k more) o) (given ∙ same)
