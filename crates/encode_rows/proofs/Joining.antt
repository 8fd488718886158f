-- The numbers that a formula gives to atoms are those of the table of keys, whose atoms have no constant.
use Rattle.std.proofs.Common.{◌≡◌, ℕ, zero, suc, Bool, true, false, cond, List, [], ◌∷◌, ◌++◌, map, length, Option, Some, None, is_some, refl, sym, ap, subst, ◌∙◌}
use Rattle.std.specs.Prelude.{unwrap_or}
use Rattle.std.specs.Option.{option_map}
use Rattle.std.specs.List.{AllByRecursion}
use Rattle.std.proofs.lemmas.Bool.{and_parts}
use lib.IntN.{pos}
use Rattle.rational.specs.Fraction.{Fraction, whole}
use Rattle.formula.specs.declared.atom.Atom.{Atom}
use Rattle.formula.specs.Equal.{same_fraction, same_atom, is_of_atom, boolean_of}
use Rattle.encode_laws.specs.Numbering.{Key, atom, truth, same_key, with_key, index_of, atom_in}
use Rattle.encode_rows.specs.Standing.{IsPlainKey}
use Rattle.encode_laws.proofs.PlainLaws.{same_truth}
use Rattle.encode_laws.proofs.TableLaws.{same_atom-true, same_fraction-self, same_key-self}

same_constants : (x y : Fraction) → x ≡ whole (pos 0) → y ≡ whole (pos 0) → same_fraction x y ≡ true
same_constants x y e f = subst (λ (z : Fraction). same_fraction x z ≡ true) (e ∙ sym f) (same_fraction-self x)

module _ (a : Atom) (z : a.lin.constant ≡ whole (pos 0)) where
  tests-agree : (k : Key) → IsPlainKey k → is_of_atom a (atom_in k) ≡ same_key k (atom a)
  tests-agree (truth n) h = refl
  tests-agree (atom b) h = same_truth _ _
      (λ e. subst (λ (c : Atom). same_key (atom c) (atom a) ≡ true) (same_atom-true a b (same_constants _ _ z h) e) (same_key-self (atom a)))
      (λ e. let p = and_parts (same_fraction b.lin.constant a.lin.constant) _ e in
      subst (λ (c : Atom). same_atom a c ≡ true) (sym (same_atom-true b a p.0 p.1)) (and_parts (same_fraction a.lin.constant a.lin.constant) _ (same_key-self (atom a))).1)

  pub index-found : (keys : List Key) → AllByRecursion IsPlainKey keys → unwrap_or (boolean_of a (map atom_in keys)) (length keys) ≡ index_of (atom a) keys
  index-found [] h = refl
  index-found (k ∷ ks) h = by_test (is_of_atom a (atom_in k)) (same_key k (atom a)) (tests-agree k h.0) (index-found ks h.1)
    where
      later : (o : Option ℕ) (n : ℕ) → unwrap_or (option_map suc o) (suc n) ≡ suc (unwrap_or o n)
      later None n = refl
      later (Some m) n = refl

      by_test : (x y : Bool) → x ≡ y → unwrap_or (boolean_of a (map atom_in ks)) (length ks) ≡ index_of (atom a) ks
          → unwrap_or (cond x (Some 0) (option_map suc (boolean_of a (map atom_in ks)))) (suc (length ks)) ≡ cond y zero (suc (index_of (atom a) ks))
      by_test true true e ih = refl
      by_test true false e ih = absurd (cc)
      by_test false true e ih = absurd (cc)
      by_test false false e ih = later (boolean_of a (map atom_in ks)) (length ks) ∙ ap suc ih

  pub atoms-found : (keys : List Key) → AllByRecursion IsPlainKey keys
      → map atom_in (with_key (atom a) keys) ≡ cond (is_some (boolean_of a (map atom_in keys))) (map atom_in keys) (map atom_in keys ++ Some a ∷ [])
  atoms-found [] h = refl
  atoms-found (k ∷ ks) h = by_test (is_of_atom a (atom_in k)) (same_key k (atom a)) (tests-agree k h.0) (atoms-found ks h.1)
    where
      later : (o : Option ℕ) → atom_in k ∷ cond (is_some o) (map atom_in ks) (map atom_in ks ++ Some a ∷ [])
          ≡ cond (is_some (option_map suc o)) (atom_in k ∷ map atom_in ks) (atom_in k ∷ (map atom_in ks ++ Some a ∷ []))
      later None = refl
      later (Some m) = refl

      by_test : (x y : Bool) → x ≡ y → map atom_in (with_key (atom a) ks) ≡ cond (is_some (boolean_of a (map atom_in ks))) (map atom_in ks) (map atom_in ks ++ Some a ∷ [])
          → map atom_in (cond y (k ∷ ks) (k ∷ with_key (atom a) ks))
          ≡ cond (is_some (cond x (Some 0) (option_map suc (boolean_of a (map atom_in ks))))) (atom_in k ∷ map atom_in ks) (atom_in k ∷ (map atom_in ks ++ Some a ∷ []))
      by_test true true e ih = refl
      by_test true false e ih = absurd (cc)
      by_test false true e ih = absurd (cc)
      by_test false false e ih = ap (λ (xs : List (Option Atom)). atom_in k ∷ xs) ih ∙ later (boolean_of a (map atom_in ks))

-- a key's number is the same behind its own making
pub index-own : (key : Key) (keys : List Key) → index_of key (with_key key keys) ≡ index_of key keys
index-own key [] = ap (λ (b : Bool). cond b zero 1) (same_key-self key)
index-own key (k ∷ ks) = by_test (same_key k key) refl (index-own key ks)
  where
    by_test : (b : Bool) → same_key k key ≡ b → index_of key (with_key key ks) ≡ index_of key ks → index_of key (cond b (k ∷ ks) (k ∷ with_key key ks)) ≡ cond b zero (suc (index_of key ks))
    by_test true e ih = ap (λ (b : Bool). cond b zero (suc (index_of key ks))) e
    by_test false e ih = ap (λ (b : Bool). cond b zero (suc (index_of key (with_key key ks)))) e ∙ ap suc ih
