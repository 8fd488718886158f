-- The table of keys has the first Boolean of each atom, also after one more Boolean.
use Rattle.std.proofs.Common.{◌≡◌, ℕ, suc, Bool, true, false, cond, ◌&&◌, List, [], ◌∷◌, ◌++◌, length, Option, Some, None, IsSome, refl, sym, ap, ap₂, subst, ◌∙◌, arith, nat_eq}
use Rattle.std.specs.Option.{option_map}
use Rattle.std.specs.Cmp.Lexicographic.{pointwise, nat_list_eq_equiv}
use Rattle.std.specs.Global.{Vec}
use Rattle.std.specs.HashMap.{HashMap, get}
use Rattle.std.proofs.lemmas.Bool.Decides.{nat_tests}
use lib.IntN.{ℤ, pos, negsuc}
use Rattle.rational.specs.Linear.{Terms}
use Rattle.formula.specs.declared.atom.Atom.{Atom}
use Rattle.formula.specs.declared.atom.Lit.{Lit}
use Rattle.formula.specs.Contents.{Contents}
use Rattle.formula.specs.Equal.{same_ℤ, same_fraction, same_terms, same_bool, same_atom, is_of_atom, boolean_of}
use Rattle.formula.specs.inside.Keys.{flag, sign_of, magnitude, terms_key, key_of, same_key, IsIndex}

-- ---- keys are equal where their atoms are
flag-same : (a b : Bool) → nat_eq (flag a) (flag b) ≡ same_bool a b
flag-same true true = refl
flag-same true false = refl
flag-same false true = refl
flag-same false false = refl

and_assoc : (a b c : Bool) → (a && (b && c)) ≡ ((a && b) && c)
and_assoc true b c = refl
and_assoc false b c = refl

one_less : (m n : ℕ) → nat_eq (suc m) (suc n) ≡ nat_eq m n
one_less m n = grind (arith, nat_tests)

fraction-same : (x y : ℤ) (d r : Bool) → (nat_eq (sign_of x) (sign_of y) && (nat_eq (magnitude x) (magnitude y) && (d && r))) ≡ ((same_ℤ x y && d) && r)
fraction-same (pos m) (pos n) d r = and_assoc (nat_eq m n) d r
fraction-same (negsuc m) (negsuc n) d r = ap (λ b. b && (d && r)) (one_less m n) ∙ and_assoc (nat_eq m n) d r
fraction-same (pos m) (negsuc n) d r = refl
fraction-same (negsuc m) (pos n) d r = refl

terms-same : (ts us : Terms) → pointwise nat_eq (terms_key ts) (terms_key us) ≡ same_terms ts us
terms-same [] [] = refl
terms-same [] (u ∷ us) = refl
terms-same (t ∷ ts) [] = refl
terms-same (t ∷ ts) (u ∷ us) =
    ap (λ b. nat_eq t.0 u.0 && b)
    (fraction-same t.1.num u.1.num (nat_eq t.1.den u.1.den) (pointwise nat_eq (terms_key ts) (terms_key us)) ∙ ap (λ b. same_fraction t.1 u.1 && b) (terms-same ts us))

key-same : (a b : Atom) → pointwise nat_eq (key_of a) (key_of b) ≡ same_atom a b
key-same a b =
    ap₂ (λ f r. f && r) (flag-same a.strict b.strict)
    (fraction-same a.bound.num b.bound.num (nat_eq a.bound.den b.bound.den) (pointwise nat_eq (terms_key a.lin.terms) (terms_key b.lin.terms))
    ∙ ap (λ r. same_fraction a.bound b.bound && r) (terms-same a.lin.terms b.lin.terms))

-- ---- equal atoms have one first Boolean
same-other : (a b c : Atom) → same_atom a b ≡ true → same_atom a c ≡ same_atom b c
same-other a b c e =
    sym (key-same a c) ∙ nat_list_eq_equiv.congr (key_of a) (key_of b) (key_of c) (key-same a b ∙ e) ∙ key-same b c

same-turned : (a b : Atom) → same_atom a b ≡ same_atom b a
same-turned a b = sym (key-same a b) ∙ nat_list_eq_equiv.symm (key_of a) (key_of b) ∙ key-same b a

of-same : (a b : Atom) (x : Option Atom) → same_atom a b ≡ true → is_of_atom a x ≡ is_of_atom b x
of-same a b None e = refl
of-same a b (Some c) e = same-other a b c e

boolean-same : (a b : Atom) (xs : List (Option Atom)) → same_atom a b ≡ true → boolean_of a xs ≡ boolean_of b xs
boolean-same a b [] e = refl
boolean-same a b (x ∷ xs) e = ap₂ (λ (t : Bool) (o : Option ℕ). cond t (Some 0) (option_map suc o)) (of-same a b x e) (boolean-same a b xs e)

-- ---- one more Boolean
abbrev pub either : Option ℕ → Option ℕ → Option ℕ
either (Some k) o = Some k
either None o = o

pushed : (a : Atom) (xs : List (Option Atom)) (x : Option Atom) → boolean_of a (xs ++ x ∷ []) ≡ either (boolean_of a xs) (cond (is_of_atom a x) (Some (length xs)) None)
pushed a [] x = refl
pushed a (y ∷ ys) x = by_test (is_of_atom a y) (pushed a ys x)
  where
    later : (o : Option ℕ) (t : Bool) → option_map suc (either o (cond t (Some (length ys)) None)) ≡ either (option_map suc o) (cond t (Some (suc (length ys))) None)
    later (Some k) t = refl
    later None true = refl
    later None false = refl

    by_test : (b : Bool) → boolean_of a (ys ++ x ∷ []) ≡ either (boolean_of a ys) (cond (is_of_atom a x) (Some (length ys)) None)
        → cond b (Some 0) (option_map suc (boolean_of a (ys ++ x ∷ []))) ≡ either (cond b (Some 0) (option_map suc (boolean_of a ys))) (cond (is_of_atom a x) (Some (suc (length ys))) None)
    by_test true ih = refl
    by_test false ih = ap (option_map suc) ih ∙ later (boolean_of a ys) (is_of_atom a x)

nothing_more : (o : Option ℕ) → either o None ≡ o
nothing_more (Some k) = refl
nothing_more None = refl

module _ {S : Type 0} where
  -- a truth variable is of no atom
  pub index-truth : (index : HashMap (Vec ℕ) ℕ S) (atoms more : List (Option Atom)) → IsIndex index atoms → more ≡ atoms ++ None ∷ [] → IsIndex index more
  index-truth index atoms more h e = subst (λ (xs : List (Option Atom)). IsIndex index xs) (sym e)
      (λ key a k. h key a k ∙ sym (nothing_more (boolean_of a atoms)) ∙ sym (pushed a atoms None))

  -- one more Boolean of an atom that has one
  pub index-again : (index : HashMap (Vec ℕ) ℕ S) (atoms more : List (Option Atom)) (a : Atom) → IsIndex index atoms → IsSome (boolean_of a atoms) → more ≡ atoms ++ Some a ∷ [] → IsIndex index more
  index-again index atoms more a h some e = subst (λ (xs : List (Option Atom)). IsIndex index xs) (sym e)
      (λ key b k. h key b k ∙ there b (same_atom b a) refl ∙ sym (pushed b atoms (Some a)))
    where
      stays : (o p : Option ℕ) → IsSome o → o ≡ either o p
      stays (Some k) p s = refl
      stays None p s = absurd (cc)

      there : (b : Atom) (t : Bool) → same_atom b a ≡ t → boolean_of b atoms ≡ either (boolean_of b atoms) (cond (same_atom b a) (Some (length atoms)) None)
      there b true f = stays (boolean_of b atoms) _ (subst IsSome (sym (boolean-same b a atoms f)) some)
      there b false f = sym (ap (λ (t : Bool). either (boolean_of b atoms) (cond t (Some (length atoms)) None)) f ∙ nothing_more (boolean_of b atoms))

  -- the first Boolean of an atom
  pub index-first : (old new : HashMap (Vec ℕ) ℕ S) (key : Vec ℕ) (atoms more : List (Option Atom)) (a : Atom) (n : ℕ) → IsIndex old atoms → boolean_of a atoms ≡ None → key.items ≡ key_of a
      → n ≡ length atoms → ((q : Vec ℕ) → get same_key new q ≡ cond (same_key key q) (Some n) (get same_key old q)) → more ≡ atoms ++ Some a ∷ [] → IsIndex new more
  index-first old new key atoms more a n h none k l put e = subst (λ (xs : List (Option Atom)). IsIndex new xs) (sym e)
      (λ q b j. put q ∙ ap₂ (λ (t : Bool) (o : Option ℕ). cond t (Some n) o) (tested q b j) (h q b j) ∙ ap (λ (m : ℕ). cond (same_atom b a) (Some m) (boolean_of b atoms)) l
      ∙ there b (same_atom b a) refl ∙ sym (pushed b atoms (Some a)))
    where
      tested : (q : Vec ℕ) (b : Atom) → q.items ≡ key_of b → same_key key q ≡ same_atom b a
      tested q b j = ap₂ (λ (xs ys : List ℕ). pointwise nat_eq xs ys) k j ∙ key-same a b ∙ same-turned a b

      there : (b : Atom) (t : Bool) → same_atom b a ≡ t
          → cond (same_atom b a) (Some (length atoms)) (boolean_of b atoms) ≡ either (boolean_of b atoms) (cond (same_atom b a) (Some (length atoms)) None)
      there b true f = ap (λ (t : Bool). cond t (Some (length atoms)) (boolean_of b atoms)) f
          ∙ sym (ap₂ (λ (o : Option ℕ) (t : Bool). either o (cond t (Some (length atoms)) None)) (boolean-same b a atoms f ∙ none) f)
      there b false f = ap (λ (t : Bool). cond t (Some (length atoms)) (boolean_of b atoms)) f
          ∙ sym (ap (λ (t : Bool). either (boolean_of b atoms) (cond t (Some (length atoms)) None)) f ∙ nothing_more (boolean_of b atoms))

  -- what is found at an atom's key
  pub looked-up : (index : HashMap (Vec ℕ) ℕ S) (counts : List Bool) (atoms : List (Option Atom)) (clauses : List (List Lit)) (f : Contents) (key : Vec ℕ) (a : Atom) (o p : Option ℕ)
      → record { counts = counts; atoms = atoms; clauses = clauses } ≡ f → IsIndex index atoms → key.items ≡ key_of a → o ≡ get same_key index key → p ≡ o → boolean_of a f.atoms ≡ p
  looked-up index counts atoms clauses f key a o p e h k g c = sym (ap (λ (w : Contents). boolean_of a w.atoms) e) ∙ sym (h key a k) ∙ sym g ∙ sym c
