-- Of a lemma that is shown no coefficient is negative, so the sum is made.
use Rattle.std.proofs.Common.{◌≡◌, Bool, false, ◌||◌, List, [], ◌∷◌, length, refl, ap, subst, ◌∙◌, arith}
use Rattle.std.specs.Prelude.{map, Ok, Err}
use Rattle.std.specs.List.{AllByRecursion, list_any}
use Rattle.std.proofs.lemmas.List.Elements.{recursion_from_All}
use lib.Dec.{T}
use lib.Signed.{non_neg}
use lib.IntN.{ℤ, pos, negsuc}
use Rattle.rational.specs.Fraction.{Fraction, IsNotNegative}
use Rattle.rational.specs.Farkas.{Row, IsRefutation}
use Rattle.lin.specs.declared.failure.LinFail.{LinFail}
use Rattle.lin.specs.Operations.{AllFit, IsRefusal}
use Rattle.formula.specs.declared.atom.Lit.{Lit}
use Rattle.formula.specs.Contents.{Contents}
use Rattle.formula.specs.Farkas.{taken, row_of, farkas_ops, FarkasAnswersWhere, is_negative, is_negative_ℤ}

sign : (z : ℤ) → T (non_neg z) → is_negative_ℤ z ≡ false
sign (pos n) h = refl
sign (negsuc n) h = absurd h

no_negative : (f : Contents) (ls : List Lit) (cs : List Fraction) → length cs ≡ length ls → AllByRecursion (λ (r : Row). IsNotNegative r.factor) (map row_of (taken f ls cs)) → list_any is_negative cs ≡ false
no_negative f [] [] e h = refl
no_negative f [] (c ∷ cs) e h = absurd (omega arith)
no_negative f (l ∷ ls) [] e h = refl
no_negative f (l ∷ ls) (c ∷ cs) e h = ap (λ (b : Bool). b || list_any is_negative cs) (sign c.num h.0) ∙ no_negative f ls cs (omega arith) h.1

pub made : (f : Contents) (ls : List Lit) (cs : List Fraction) (x : Bool) → length cs ≡ length ls → IsRefutation (map row_of (taken f ls cs)) → FarkasAnswersWhere (list_any is_negative cs) (taken f ls cs) (Ok x) → AllFit (farkas_ops (taken f ls cs))
made f ls cs x long refutes h =
    let none : list_any is_negative cs ≡ false = no_negative f ls cs long (recursion_from_All _ _ refutes.not_negative) in
    (subst (λ (b : Bool). FarkasAnswersWhere b (taken f ls cs) (Ok x)) none h).0

pub passes : (f : Contents) (ls : List Lit) (cs : List Fraction) (e : LinFail) → length cs ≡ length ls → IsRefutation (map row_of (taken f ls cs)) → FarkasAnswersWhere (list_any is_negative cs) (taken f ls cs) (Err e) → IsRefusal (farkas_ops (taken f ls cs)) e
passes f ls cs e long refutes h =
    let none : list_any is_negative cs ≡ false = no_negative f ls cs long (recursion_from_All _ _ refutes.not_negative) in
    subst (λ (b : Bool). FarkasAnswersWhere b (taken f ls cs) (Err e)) none h
