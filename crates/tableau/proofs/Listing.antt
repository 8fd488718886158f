-- The list of the numbers below n that have a property: how long it is, and how it grows.
use Rattle.std.proofs.Common.{◌≡◌, ◌≢◌, ◌⊎◌, inl, inr, ℕ, zero, suc, ◌<◌, ◌≤◌, ◌+◌, ◌-◌, ◌++◌, Bool, true, false, cond, List, [], ◌∷◌, length, take, set, min, refl, sym, ap, subst, ◌∙◌, arith, add-one, take-suc-set, length-append, take_all}
use Rattle.std.proofs.lemmas.Bool.{cases_eq}
use Rattle.tableau.specs.Table.{numbers_below}

pub listed_true : (p : ℕ → Bool) (n : ℕ) → p n ≡ true → numbers_below (suc n) p ≡ numbers_below n p ++ n ∷ []
listed_true p n e = ap (λ (b : Bool). cond b (numbers_below n p ++ n ∷ []) (numbers_below n p)) e

pub listed_false : (p : ℕ → Bool) (n : ℕ) → p n ≡ false → numbers_below (suc n) p ≡ numbers_below n p
listed_false p n e = ap (λ (b : Bool). cond b (numbers_below n p ++ n ∷ []) (numbers_below n p)) e

pub length-true : (p : ℕ → Bool) (n : ℕ) → p n ≡ true → length (numbers_below (suc n) p) ≡ length (numbers_below n p) + 1
length-true p n e = ap length (listed_true p n e) ∙ length-append (numbers_below n p) (n ∷ [])

pub length-false : (p : ℕ → Bool) (n : ℕ) → p n ≡ false → length (numbers_below (suc n) p) ≡ length (numbers_below n p)
length-false p n e = ap length (listed_false p n e)

pub length-rises : (p : ℕ → Bool) (m n : ℕ) → m ≤ n → length (numbers_below m p) ≤ length (numbers_below n p)
length-rises p m zero h = let e : m ≡ zero = omega arith in let f : length (numbers_below m p) ≡ length (numbers_below zero p) = ap (λ (i : ℕ). length (numbers_below i p)) e in omega (arith, f)
length-rises p m (suc n) h = by_place (cases_eq m (suc n)) (λ l. length-rises p m n l)
  where
    by_flag : (b : Bool) → p n ≡ b → length (numbers_below m p) ≤ length (numbers_below n p) → length (numbers_below m p) ≤ length (numbers_below (suc n) p)
    by_flag true e l = omega (arith, l, length-true p n e)
    by_flag false e l = omega (arith, l, length-false p n e)

    by_place : (m ≡ suc n) ⊎ (m ≡ suc n → ⊥) → (m ≤ n → length (numbers_below m p) ≤ length (numbers_below n p)) → length (numbers_below m p) ≤ length (numbers_below (suc n) p)
    by_place (inl e) ih = let f : length (numbers_below m p) ≡ length (numbers_below (suc n) p) = ap (λ (i : ℕ). length (numbers_below i p)) e in omega (arith, f)
    by_place (inr d) ih = by_flag (p n) refl (ih (omega arith))

-- where r loses the property and e gains it, the list stays as long
module _ (p q : ℕ → Bool) (r e : ℕ) (pr : p r ≡ true) (pe : p e ≡ false) (qr : q r ≡ false) (qe : q e ≡ true) (same : (i : ℕ) → i ≢ r → i ≢ e → q i ≡ p i) where
  counted : (n : ℕ) → length (numbers_below n q) + min 1 (n - r) ≡ length (numbers_below n p) + min 1 (n - e)
  counted zero = omega arith
  counted (suc n) = by_place (counted n) (cases_eq n r) (cases_eq n e)
    where
      at_place : (i : ℕ) (b : Bool) (f : ℕ → Bool) → n ≡ i → f i ≡ b → f n ≡ b
      at_place i b f s h = ap f s ∙ h

      by_flag : (b : Bool) → p n ≡ b → q n ≡ p n → n ≢ r → n ≢ e → length (numbers_below n q) + min 1 (n - r) ≡ length (numbers_below n p) + min 1 (n - e) → length (numbers_below (suc n) q) + min 1 (suc n - r) ≡ length (numbers_below (suc n) p) + min 1 (suc n - e)
      by_flag true b s d d' h = omega (arith, h, length-true p n b, length-true q n (s ∙ b))
      by_flag false b s d d' h = omega (arith, h, length-false p n b, length-false q n (s ∙ b))

      by_place : length (numbers_below n q) + min 1 (n - r) ≡ length (numbers_below n p) + min 1 (n - e) → (n ≡ r) ⊎ (n ≡ r → ⊥) → (n ≡ e) ⊎ (n ≡ e → ⊥) → length (numbers_below (suc n) q) + min 1 (suc n - r) ≡ length (numbers_below (suc n) p) + min 1 (suc n - e)
      by_place h (inl s) (inl t) = let u : p r ≡ p e = ap p (sym s ∙ t) in let c : true ≡ false = sym pr ∙ u ∙ pe in cc
      by_place h (inl s) (inr t) = omega (arith, h, length-true p n (at_place r true p s pr), length-false q n (at_place r false q s qr))
      by_place h (inr s) (inl t) = omega (arith, h, length-false p n (at_place e false p t pe), length-true q n (at_place e true q t qe))
      by_place h (inr s) (inr t) = by_flag (p n) refl (same n s t) s t h

  pub still_as_long : (n : ℕ) → r < n → e < n → length (numbers_below n q) ≡ length (numbers_below n p)
  still_as_long n l m = omega (arith, counted n)

-- the numbers below v are written at the front
pub record IsWriting (p : ℕ → Bool) (v k : ℕ) (into : List ℕ) : Type 0 where
  pub place : k ≡ length (numbers_below v p)
  pub front : take k into ≡ numbers_below v p

module _ (p : ℕ → Bool) (n v k : ℕ) (into : List ℕ) (room : length (numbers_below n p) ≡ length into) (h : IsWriting p v k into) (l : v < n) where
  pub has_room : p v ≡ true → k < length into
  has_room e = omega (arith, h.place, room, length-true p v e, length-rises p (suc v) n (omega arith))

  pub writing-true : (into' : List ℕ) → p v ≡ true → into' ≡ set into k v → IsWriting p (v + 1) (k + 1) into'
  writing-true into' e s = record {
    place = let f : length (numbers_below (v + 1) p) ≡ length (numbers_below (suc v) p) = ap (λ (i : ℕ). length (numbers_below i p)) (add-one v) in omega (arith, h.place, length-true p v e, f);
    front = ap (take (k + 1)) s ∙ ap (λ (i : ℕ). take i (set into k v)) (add-one k) ∙ take-suc-set into k v (has_room e) ∙ ap (λ (xs : List ℕ). xs ++ v ∷ []) h.front
        ∙ sym (listed_true p v e) ∙ sym (ap (λ (i : ℕ). numbers_below i p) (add-one v));
  }

  pub writing-false : (into' : List ℕ) → p v ≡ false → into' ≡ into → IsWriting p (v + 1) k into'
  writing-false into' e s = record {
    place = let f : length (numbers_below (v + 1) p) ≡ length (numbers_below (suc v) p) = ap (λ (i : ℕ). length (numbers_below i p)) (add-one v) in omega (arith, h.place, length-false p v e, f);
    front = ap (take k) s ∙ h.front ∙ sym (listed_false p v e) ∙ sym (ap (λ (i : ℕ). numbers_below i p) (add-one v));
  }

  pub writing_more : (b : Bool) → p v ≡ b → (k' : ℕ) → k' ≡ cond b (k + 1) k → (into' : List ℕ) → into' ≡ cond b (set into k v) into → IsWriting p (v + 1) k' into'
  writing_more true e k' s into' t = subst (λ (m : ℕ). IsWriting p (v + 1) m into') (sym s) (writing-true into' e t)
  writing_more false e k' s into' t = subst (λ (m : ℕ). IsWriting p (v + 1) m into') (sym s) (writing-false into' e t)

pub written : (p : ℕ → Bool) (n k : ℕ) (into : List ℕ) → length (numbers_below n p) ≡ length into → IsWriting p n k into → into ≡ numbers_below n p
written p n k into room h = sym (take_all k into (omega (arith, h.place, room))) ∙ h.front
