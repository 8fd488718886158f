-- Lists of marks alone.
use Rattle.std.proofs.Common.{◌≡◌, ◌≢◌, ℕ, zero, suc, ◌+◌, ◌-◌, List, [], ◌∷◌, ◌++◌, length, Option, Some, None, replicate, refl, sym, ap, arith, subst, length-append}
use Rattle.std.specs.List.{All, Contains}
use Rattle.formula.specs.declared.atom.Lit.{Lit}
use Rattle.theory_law.specs.Seen.{marks}
use Rattle.std.proofs.lemmas.List.Elements.{All-head, All-contains, Contains-append_right}
use Rattle.std.proofs.lemmas.List.{replicate-append-replicate}

pub last_mark : {A : Type 0} (n : ℕ) (before after : List (Option A)) → replicate n None ≡ before ++ None ∷ after → All (λ e. e ≢ None) after → replicate (n - 1) None ≡ before
last_mark zero before after e h = absurd (omega (arith, ap length e, length-append before (None ∷ after)))
last_mark (suc zero) [] after e h = refl
last_mark {A = A} (suc (suc m)) [] after e h =
    let tail : None ∷ replicate m None ≡ after = cc in
    let bad : All (λ (x : Option A). x ≢ None) (None ∷ replicate m None) = subst (λ (l : List (Option A)). All (λ x. x ≢ None) l) (sym tail) h in
    absurd (All-head (λ (x : Option A). x ≢ None) None (replicate m None) bad refl)
last_mark {A = A} (suc zero) (x ∷ bs) after e h = absurd (omega (arith, ap length e, length-append bs (None ∷ after)))
last_mark {A = A} (suc (suc m)) (x ∷ bs) after e h =
    let tail : replicate (suc m) None ≡ bs ++ None ∷ after = cc in
    let head : None ≡ x = cc in
    let ih : replicate (suc m - 1) None ≡ bs = last_mark (suc m) bs after tail h in
    let s : suc (suc m) - 1 ≡ suc m = omega arith in
    let s2 : suc m - 1 ≡ m = omega arith in
    let ih2 : replicate m None ≡ bs = rw s2 at ih in
    rw s (rw (← head) (ap (λ (l : List (Option A)). None ∷ l) ih2))

pub replicate_push : {A : Type 0} (n : ℕ) (x : A) → replicate (n + 1) x ≡ replicate n x ++ x ∷ []
replicate_push n x = sym (replicate-append-replicate n 1 x)

no_mark : {A : Type 0} (after bs after' : List (Option A)) → after ≡ bs ++ None ∷ after' → All (λ e. e ≢ None) after → ⊥
no_mark {A = A} after bs after' e h =
    All-contains (λ (x : Option A). x ≢ None) after None h (subst (λ (l : List (Option A)). Contains l None) (sym e) (Contains-append_right bs (None ∷ after') None (0, omega arith, refl))) refl

pub split_at_last_mark : {A : Type 0} (xs ys before after : List (Option A)) → xs ++ None ∷ ys ≡ before ++ None ∷ after → All (λ e. e ≢ None) ys → All (λ e. e ≢ None) after → xs ≡ before
split_at_last_mark [] ys [] after e h k = refl
split_at_last_mark [] ys (b ∷ bs) after e h k = absurd (no_mark ys bs after (cc) h)
split_at_last_mark (x ∷ xs) ys [] after e h k = let e2 : after ≡ xs ++ None ∷ ys = cc in absurd (no_mark after xs ys e2 k)
split_at_last_mark {A = A} (x ∷ xs) ys (b ∷ bs) after e h k =
    let t : xs ++ None ∷ ys ≡ bs ++ None ∷ after = cc in
    let hd : x ≡ b = cc in
    let tl : xs ≡ bs = split_at_last_mark xs ys bs after t h k in
    cc

pub marks_replicate : (n : ℕ) → marks (replicate n None) ≡ n
marks_replicate zero = refl
marks_replicate (suc n) = omega (arith, marks_replicate n)

-- no literal is asserted by marks alone
pub no_lit : (n : ℕ) (l : Lit) → Contains (replicate n None) (Some l) → ⊥
no_lit zero l (k, lt, e) = absurd (omega arith)
no_lit (suc n) l (zero, lt, e) = absurd (cc)
no_lit (suc n) l (suc k, lt, e) = no_lit n l (k, omega arith, e)
