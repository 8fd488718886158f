-- The loop that makes an atom's key.
use Rattle.std.proofs.Common.{◌≡◌, ◌<◌, ℕ, zero, suc, ◌+◌, List, [], ◌∷◌, ◌++◌, length, drop, get_or, Some, refl, sym, ap, subst, ◌∙◌, append_assoc}
use Rattle.std.specs.Prelude.{slice_get}
use Rattle.std.proofs.lemmas.Option.{slice_get_within, get_or_from_slice_get}
use Rattle.rational.specs.Fraction.{Fraction}
use Rattle.rational.specs.Linear.{Terms}
use Rattle.lin.proofs.MergeSteps.{next}
use Rattle.formula.specs.inside.Keys.{fraction_key, terms_key}

pub key-next : (ts : Terms) (i : ℕ) (t : ℕ × Fraction) (n : ℕ) (whole first second third : List ℕ) → slice_get ts i ≡ Some t → n ≡ t.0 → second ≡ first ++ n ∷ [] → third ≡ second ++ fraction_key t.1
    → whole ≡ first ++ terms_key (drop i ts) → whole ≡ third ++ terms_key (drop (i + 1) ts)
key-next ts i t n whole first second third e m f g h =
    h ∙ ap (λ (us : Terms). first ++ terms_key us) (next ts i t (record { within = slice_get_within ts i t e; is = sym (get_or_from_slice_get ts i t t e) }))
    ∙ sym (append_assoc first (t.0 ∷ []) (fraction_key t.1 ++ terms_key (drop (i + 1) ts)))
    ∙ ap (λ (k : ℕ). (first ++ k ∷ []) ++ (fraction_key t.1 ++ terms_key (drop (i + 1) ts))) (sym m)
    ∙ ap (λ (xs : List ℕ). xs ++ (fraction_key t.1 ++ terms_key (drop (i + 1) ts))) (sym f)
    ∙ sym (append_assoc second (fraction_key t.1) (terms_key (drop (i + 1) ts)))
    ∙ ap (λ (xs : List ℕ). xs ++ terms_key (drop (i + 1) ts)) (sym g)
