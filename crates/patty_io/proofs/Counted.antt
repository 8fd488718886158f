-- Counts of a name after one more failure.
use Rattle.std.proofs.Common.{◌≡◌, ◌≢◌, ℕ, ◌+◌, ◌≤◌, cond, List, [], ◌∷◌, ◌++◌, String, string_bytes, refl, sym, ap, ◌∙◌, arith}
use Rattle.std.specs.Str.{bytes_eq}
use Rattle.std.specs.declared.alloc.Global.{Global}
use Rattle.std.proofs.lemmas.Slice.Eq.{bytes_eq-Decides}
use Rattle.std.proofs.lemmas.Bool.{false_from_ne_true}
use Rattle.patty_io.specs.Faults.{capped, Rose}
use Rattle.patty_io.specs.Failures.{count_of}

pub count_of-push : (names : List (String Global)) (s : String Global) (name : List ℕ) → count_of (names ++ s ∷ []) name ≡ count_of names name + cond (bytes_eq (string_bytes s) name) 1 0
count_of-push [] s name = refl
count_of-push (t ∷ names) s name = omega (arith, count_of-push names s name)

pub count_of_same : (names : List (String Global)) (s : String Global) → count_of (names ++ s ∷ []) (string_bytes s) ≡ count_of names (string_bytes s) + 1
count_of_same names s = rw (count_of-push, (bytes_eq-Decides (string_bytes s) (string_bytes s)).1 refl)

pub count_of_other : (names : List (String Global)) (s : String Global) (name : List ℕ) → name ≢ string_bytes s → count_of (names ++ s ∷ []) name ≡ count_of names name
count_of_other names s name differs =
    let no = false_from_ne_true _ (λ same. differs (sym ((bytes_eq-Decides (string_bytes s) name).0 same))) in
    rw (count_of-push, no) (omega arith)

pub count_of_later : (names : List (String Global)) (s : String Global) (name : List ℕ) → count_of names name ≤ count_of (names ++ s ∷ []) name
count_of_later names s name = omega (arith, count_of-push names s name)

-- ---- one more name behind those of before
module _ (before after : List (String Global)) (s : String Global) (is : after ≡ before ++ s ∷ []) where
  pub failed_more : Rose (capped (count_of before (string_bytes s))) (capped (count_of after (string_bytes s)))
  failed_more =
      let counted : count_of after (string_bytes s) ≡ count_of before (string_bytes s) + 1 = ap (λ (names : List (String Global)). count_of names (string_bytes s)) is ∙ count_of_same before s in
      omega (arith, counted)

  pub failed_later : (name : List ℕ) → capped (count_of before name) ≤ capped (count_of after name)
  failed_later name =
      let counted : count_of after name ≡ count_of (before ++ s ∷ []) name = ap (λ (names : List (String Global)). count_of names name) is in
      omega (arith, counted, count_of_later before s name)

  pub failed_others : (name : List ℕ) → name ≢ string_bytes s → capped (count_of after name) ≡ capped (count_of before name)
  failed_others name differs = ap capped (ap (λ (names : List (String Global)). count_of names name) is ∙ count_of_other before s name differs)
