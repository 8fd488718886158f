-- Tables after some more things were seen: they go on behind, by what is new, and have all that was seen.
use Rattle.std.proofs.Common.{◌≡◌, ℕ, Bool, true, false, not, cond, ◌||◌, List, [], ◌∷◌, ◌++◌, length, take, refl, sym, ap, ap₂, subst, ◌∙◌, append_assoc}
use Rattle.std.specs.List.{list_all}
use Rattle.std.proofs.lemmas.Bool.{and_parts, and_from}
use Rattle.std.proofs.lemmas.List.{append-nil}
use Rattle.std.proofs.lemmas.List.Folds.{list_any-append}
use Rattle.ground_numbers.specs.declared.named.Named.{Named}
use Rattle.ground_numbers.specs.Numbers.{same, is_listed, with_seen}
use Rattle.ground_numbers.specs.inside.Same.{same_sound, same_itself}
use Rattle.ground_walk.proofs.Within.{Within, nothing_within, in_front, or_right}
use Rattle.ground_seen.specs.Seen.{seen}

-- the list goes on by what it didn't have
pub record IsGrown (old new : List Named) : Type 0 where
  pub more : List Named
  pub is : new ≡ old ++ more
  pub fresh : list_all (λ k. not (is_listed same old k)) more ≡ true

not_either : (a b : Bool) → not (a || b) ≡ true → not a ≡ true
not_either true b h = h
not_either false b h = refl

shorter : (old : List Named) (x : Named) (more : List Named) → list_all (λ k. not (is_listed same (old ++ x ∷ []) k)) more ≡ true → list_all (λ k. not (is_listed same old k)) more ≡ true
shorter old x [] h = refl
shorter old x (k ∷ more) h =
    let hs = and_parts (not (is_listed same (old ++ x ∷ []) k)) (list_all (λ j. not (is_listed same (old ++ x ∷ []) j)) more) h in
    and_from _ _
    (not_either (is_listed same old k) (is_listed same (x ∷ []) k) (ap not (sym (list_any-append (λ y. same y k) old (x ∷ []))) ∙ hs.0))
    (shorter old x more hs.1)

pub grown : (old things : List Named) → IsGrown old (seen old things)
grown old [] = record { more = []; is = sym (append-nil old); fresh = refl }
grown old (x ∷ xs) = by (is_listed same old x) refl (grown old xs) (grown (old ++ x ∷ []) xs)
  where
    by : (b : Bool) → is_listed same old x ≡ b → IsGrown old (seen old xs) → IsGrown (old ++ x ∷ []) (seen (old ++ x ∷ []) xs) → IsGrown old (seen (cond b old (old ++ x ∷ [])) xs)
    by true e g h = g
    by false e g h = record {
      more = x ∷ h.more;
      is = h.is ∙ append_assoc old (x ∷ []) h.more;
      fresh = and_from _ _ (ap not e) (shorter old x h.more h.fresh);
    }

pub take_front : {A : Type 0} (xs ys : List A) → take (length xs) (xs ++ ys) ≡ xs
take_front [] ys = refl
take_front (x ∷ xs) ys = ap (λ l. x ∷ l) (take_front xs ys)

-- what was seen is taken back
pub taken_back : (old things : List Named) (n : ℕ) → n ≡ length old → take n (seen old things) ≡ old
taken_back old things n e = let g = grown old things in ap₂ take e g.is ∙ take_front old g.more

pub stays_within : (old things : List Named) → Within old (seen old things)
stays_within old things = let g = grown old things in subst (λ new. Within old new) (sym g.is) (in_front old g.more)

with_itself : (old : List Named) (x : Named) → is_listed same (with_seen same old x) x ≡ true
with_itself old x = by (is_listed same old x) refl
  where
    last : is_listed same (old ++ x ∷ []) x ≡ true
    last = list_any-append (λ y. same y x) old (x ∷ []) ∙ or_right (is_listed same old x) (is_listed same (x ∷ []) x) (ap (λ b. b || false) (same_itself x))

    by : (b : Bool) → is_listed same old x ≡ b → is_listed same (cond b old (old ++ x ∷ [])) x ≡ true
    by true e = e
    by false e = last

-- all that is seen is there
pub seen_within : (old things : List Named) → Within things (seen old things)
seen_within old [] = nothing_within (seen old [])
seen_within old (x ∷ xs) = record { within = λ it h. by it (same x it) refl h (seen_within (with_seen same old x) xs) }
  where
    first : is_listed same (seen (with_seen same old x) xs) x ≡ true
    first = (stays_within (with_seen same old x) xs).within x (with_itself old x)

    by : (it : Named) (b : Bool) → same x it ≡ b → (b || is_listed same xs it) ≡ true → Within xs (seen (with_seen same old x) xs) → is_listed same (seen (with_seen same old x) xs) it ≡ true
    by it true e h w = subst (λ k. is_listed same (seen (with_seen same old x) xs) k ≡ true) (same_sound x it e) first
    by it false e h w = w.within it h
