-- A pattern in copies: what stands at a place, and the parts that are made of the counts so far.
use Rattle.std.proofs.Common.{◌≡◌, ◌⊎◌, inl, inr, ℕ, zero, suc, ◌+◌, ◌-◌, ◌*◌, ◌<◌, ◌≤◌, ◌%◌, List, [], ◌∷◌, ◌++◌, length, drop, get_or, refl, sym, ap, ap₂, ◌∙◌, append_assoc, arith}
use Rattle.std.proofs.lemmas.List.{append-nil, drop_all, drop_more, length-append, get_or_append_left, get_or-append_right}
use Rattle.std.proofs.lemmas.Nat.{mod-mul-add}
use Rattle.std.proofs.Math.Nat.{mod-eq-sub-mod}
use Rattle.rational.specs.Fraction.{Fraction}
use Rattle.pattern.specs.Word.{copies, part_of, parts_of}

more_places : (n w : ℕ) → suc n * w ≡ w + n * w
more_places n w = omega arith

length-copies : (n : ℕ) (ps : List ℕ) → length (copies n ps) ≡ n * length ps
length-copies zero ps = let e : 0 ≡ 0 * length ps = omega arith in e
length-copies (suc n) ps = length-append ps (copies n ps) ∙ ap (λ (m : ℕ). length ps + m) (length-copies n ps) ∙ sym (more_places n (length ps))

-- where there is a count there is a place
some_place : (n i w : ℕ) → i < n * w → 0 < w
some_place n i zero l = let none : n * 0 ≡ 0 = omega arith in absurd (omega arith)
some_place n i (suc w) l = omega arith

pub place : (i : ℕ) (cs : List Fraction) (ps : List ℕ) → (n : ℕ) × (length cs ≡ n * length ps) → i < length cs → 0 < length ps
place i cs ps (n, is) l = let e : length cs ≡ n * length ps = is in some_place n i (length ps) (omega arith)

side : (i w : ℕ) → (i < w) ⊎ (w ≤ i)
side i zero = inr (omega arith)
side zero (suc w) = inl (omega arith)
side (suc i) (suc w) = elim (side i w) [ inl h ↦ inl (omega arith) | inr h ↦ inr (omega arith) ]

-- the place in a pattern with one copy more
at_more : (qs ps : List ℕ) (i d : ℕ) → (i < length ps) ⊎ (length ps ≤ i) → (length ps ≤ i → get_or qs (i - length ps) d ≡ get_or ps ((i - length ps) % length ps) d)
    → get_or (ps ++ qs) i d ≡ get_or ps (i % length ps) d
at_more qs ps i d (inl h) rest =
    let same : i ≡ 0 * length ps + i = omega arith in
    get_or_append_left ps qs d i h ∙ ap (λ (j : ℕ). get_or ps j d) (sym (ap (λ (j : ℕ). j % length ps) same ∙ mod-mul-add 0 (length ps) i h))
at_more qs ps i d (inr h) rest =
    get_or-append_right ps qs (length ps) i d refl h ∙ rest h ∙ ap (λ (j : ℕ). get_or ps j d) (sym (mod-eq-sub-mod h))

at : (n i : ℕ) (ps : List ℕ) (d : ℕ) → i < n * length ps → get_or (copies n ps) i d ≡ get_or ps (i % length ps) d
at zero i ps d l = let none : 0 * length ps ≡ 0 = omega arith in absurd (omega arith)
at (suc n) i ps d l =
    let e = more_places n (length ps) in
    at_more (copies n ps) ps i d (side i (length ps)) (λ h. at n (i - length ps) ps d (let past : length ps ≤ i = h in omega arith))

-- the parts so far, and those of the counts that are left
pub IsSpelling : List ℕ → List Fraction → List (ℕ × ℕ) → ℕ → Type 0
IsSpelling ps cs parts i = (n : ℕ) → length cs ≡ n * length ps → parts ++ parts_of (drop i (copies n ps)) (drop i cs) ≡ parts_of (copies n ps) cs

pub spelling-start : (ps : List ℕ) (cs : List Fraction) (parts : List (ℕ × ℕ)) → parts ≡ [] → IsSpelling ps cs parts 0
unfolding IsSpelling
spelling-start ps cs parts e = λ n l. ap (λ (qs : List (ℕ × ℕ)). qs ++ parts_of (copies n ps) cs) e

pub spelling-next : (ps qs : List ℕ) (cs : List Fraction) (parts more : List (ℕ × ℕ)) (i : ℕ) (c : Fraction) (a : ℕ) → qs ≡ ps → i < length cs → c ≡ get_or cs i c
    → a ≡ get_or qs (i % length qs) 0 → more ≡ parts ++ part_of c a → IsSpelling ps cs parts i → IsSpelling ps cs more (i + 1)
unfolding IsSpelling
spelling-next ps qs cs parts more i c a same within is_c is_a pushed h = λ n l.
    let in_copies : i < length (copies n ps) = let e = length-copies n ps in omega arith in
    let there : a ≡ get_or (copies n ps) i 0 = is_a ∙ ap (λ (rs : List ℕ). get_or rs (i % length rs) 0) same ∙ sym (at n i ps 0 (let e : length cs ≡ n * length ps = l in omega arith)) in
    let left : drop i (copies n ps) ≡ a ∷ drop (i + 1) (copies n ps) = drop_more (copies n ps) i 0 in_copies ∙ ap (λ (p : ℕ). p ∷ drop (i + 1) (copies n ps)) (sym there) in
    let right : drop i cs ≡ c ∷ drop (i + 1) cs = drop_more cs i c within ∙ ap (λ (x : Fraction). x ∷ drop (i + 1) cs) (sym is_c) in
    ap (λ (qs : List (ℕ × ℕ)). qs ++ parts_of (drop (i + 1) (copies n ps)) (drop (i + 1) cs)) pushed
    ∙ append_assoc parts (part_of c a) (parts_of (drop (i + 1) (copies n ps)) (drop (i + 1) cs))
    ∙ sym (ap₂ (λ (rs : List ℕ) (ds : List Fraction). parts ++ parts_of rs ds) left right)
    ∙ h n l

parts-none : (rs : List ℕ) → parts_of rs [] ≡ []
parts-none [] = refl
parts-none (r ∷ rs) = refl

pub spelling-done : (ps : List ℕ) (cs : List Fraction) (parts : List (ℕ × ℕ)) (i : ℕ) → length cs ≤ i → IsSpelling ps cs parts i
    → (n : ℕ) → length cs ≡ n * length ps → parts ≡ parts_of (copies n ps) cs
unfolding IsSpelling
spelling-done ps cs parts i past h = λ n l.
    sym (append-nil parts)
    ∙ sym (ap (λ (qs : List (ℕ × ℕ)). parts ++ qs) (ap (λ (ds : List Fraction). parts_of (drop i (copies n ps)) ds) (drop_all i cs past) ∙ parts-none (drop i (copies n ps))))
    ∙ h n l
