-- Two ground things are the same exactly where they are equal, so hashing what they are made of agrees with it.
use Rattle.std.specs.Prelude.{◌≡◌, ℕ, Bool, true, false, ◌&&◌, ◌==◌, ◌++◌, nat_eq, bytes_eq, List, refl}
use Rattle.std.proofs.Common.{sym, ap, ◌∙◌, subst, arith}
use Rattle.std.proofs.lemmas.Bool.Decides.{nat_tests}
use Rattle.std.specs.Cmp.{IsPartialEquivalence, IsEquivalence, partial_equiv_from_equiv, on_per, on_equiv}
use Rattle.std.specs.Cmp.Lexicographic.{bytes_decides, nat_list_eq_equiv}
use Rattle.std.specs.Hash as fed
use Rattle.ground_numbers.specs.Numbers.{Named, named, same}

same_number : (m n : ℕ) → (m == n) ≡ true → m ≡ n
same_number m n e = grind (arith, nat_tests)

number_itself : (n : ℕ) → (n == n) ≡ true
number_itself n = grind (arith, nat_tests)

both_parts : (s t : Bool) → (s && t) ≡ true → (s ≡ true) × (t ≡ true)
both_parts true t e = (refl, e)
both_parts false t e = cc

pub same_sound : (a b : Named) → same a b ≡ true → a ≡ b
same_sound a b e =
    let parts = both_parts (a.symbol == b.symbol) (bytes_eq a.args b.args) e in
    ap (λ s. named s a.args) (same_number a.symbol b.symbol parts.0) ∙ ap (named b.symbol) ((bytes_decides a.args b.args).0 parts.1)

pub same_itself : (a : Named) → same a a ≡ true
same_itself a = ap (λ b. b && bytes_eq a.args a.args) (number_itself a.symbol) ∙ nat_list_eq_equiv.refl a.args

pub same_turned : (a b : Named) → same a b ≡ true → same b a ≡ true
same_turned a b e = subst (λ c. same c a ≡ true) (same_sound a b e) (same_itself a)

same_either : (s t : Bool) → (s ≡ true → t ≡ true) → (t ≡ true → s ≡ true) → s ≡ t
same_either true t f g = sym (f refl)
same_either false true f g = g refl
same_either false false f g = refl

pub same_symm : (a b : Named) → same a b ≡ same b a
same_symm a b = same_either (same a b) (same b a) (same_turned a b) (same_turned b a)

pub same_equiv : IsEquivalence same
same_equiv = record {
  refl = same_itself;
  symm = same_symm;
  congr = λ x y z e. ap (λ k. same k z) (same_sound x y e);
}

pub same_partial : IsPartialEquivalence same
same_partial = partial_equiv_from_equiv same_equiv

pub asked_partial : {Q : Type 0} (f : Q → Named) → IsPartialEquivalence (λ q r. same (f q) (f r))
asked_partial f = on_per f same_partial

pub asked_equiv : {Q : Type 0} (f : Q → Named) → IsEquivalence (λ q r. same (f q) (f r))
asked_equiv f = on_equiv f same_equiv

abbrev pub fed_of : Named → List (List ℕ)
fed_of k = fed.u32 k.symbol ++ fed.slice fed.u32 k.args

pub same_fed : (a b : Named) → same a b ≡ true → fed_of a ≡ fed_of b
same_fed a b e = ap fed_of (same_sound a b e)

pub asked_fed : (q k : Named) → same k q ≡ true → fed_of q ≡ fed_of k
asked_fed q k e = ap fed_of (sym (same_sound k q e))

-- what answers a question is the same as its equals, and as nothing else
pub same_respects : (q x y : Named) → same x q ≡ true → same y q ≡ same x y
same_respects q x y e = same_symm y q ∙ ap (λ k. same k y) (sym (same_sound x q e))
