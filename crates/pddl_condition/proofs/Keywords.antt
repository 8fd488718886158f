-- The heads of conditions and the operators of expressions, as their tables have them.
use Rattle.std.proofs.Common.{◌≡◌, ℕ, false, List, [], ◌∷◌, refl, sym, subst}
use Rattle.std.specs.Prelude.{codes, bytes_eq}
use Rattle.kw_table.specs.Table.{IsAbsent}
use Rattle.pddl_form.proofs.Keywords.{other_word, isnt}
use Rattle.pddl_condition.specs.declared.heads.Head.TheVariants.{And, Not, Equal}
use Rattle.pddl_condition.specs.declared.expression.Operator.TheVariants.{Fold, Minus, Over}
use Rattle.pddl_condition.specs.Condition.{head_of, other_head}
use Rattle.pddl_condition.specs.Expression.{operator_of, other_operator}

-- ---- the heads of conditions

pub record HeadRows : Type 0 where
  pub equal : head_of (codes "=") ≡ Equal
  pub and : head_of (codes "and") ≡ And
  pub not : head_of (codes "not") ≡ Not

pub head_rows : HeadRows
unfolding head_of
head_rows = record { equal = refl; and = refl; not = refl }

abbrev pub heads : List (List ℕ)
heads = codes "=" ∷ codes "and" ∷ codes "not" ∷ []

no_head : (text : List ℕ) → IsAbsent text heads → head_of text ≡ other_head text
unfolding head_of
no_head text absent =
    let and : bytes_eq text (codes "and") ≡ false = other_word text (codes "and") (λ same. isnt heads text (codes "and") absent refl (sym same)) in
    let not : bytes_eq text (codes "not") ≡ false = other_word text (codes "not") (λ same. isnt heads text (codes "not") absent refl (sym same)) in
    let equal : bytes_eq text (codes "=") ≡ false = other_word text (codes "=") (λ same. isnt heads text (codes "=") absent refl (sym same)) in
    rw (and, not, equal)

pub no_head_read : (text bytes : List ℕ) → bytes ≡ text → IsAbsent bytes heads → head_of text ≡ other_head text
no_head_read text bytes same absent = no_head text (subst (λ (w : List ℕ). IsAbsent w heads) same absent)

-- ---- the operators

pub record OperatorRows : Type 0 where
  pub times : operator_of (codes "*") ≡ Fold
  pub plus : operator_of (codes "+") ≡ Fold
  pub minus : operator_of (codes "-") ≡ Minus
  pub over : operator_of (codes "/") ≡ Over

pub operator_rows : OperatorRows
unfolding operator_of
operator_rows = record { times = refl; plus = refl; minus = refl; over = refl }

abbrev pub operators : List (List ℕ)
operators = codes "*" ∷ codes "+" ∷ codes "-" ∷ codes "/" ∷ []

no_operator : (text : List ℕ) → IsAbsent text operators → operator_of text ≡ other_operator text
unfolding operator_of
no_operator text absent =
    let plus : bytes_eq text (codes "+") ≡ false = other_word text (codes "+") (λ same. isnt operators text (codes "+") absent refl (sym same)) in
    let times : bytes_eq text (codes "*") ≡ false = other_word text (codes "*") (λ same. isnt operators text (codes "*") absent refl (sym same)) in
    let minus : bytes_eq text (codes "-") ≡ false = other_word text (codes "-") (λ same. isnt operators text (codes "-") absent refl (sym same)) in
    let over : bytes_eq text (codes "/") ≡ false = other_word text (codes "/") (λ same. isnt operators text (codes "/") absent refl (sym same)) in
    rw (plus, times, minus, over)

pub no_operator_read : (text bytes : List ℕ) → bytes ≡ text → IsAbsent bytes operators → operator_of text ≡ other_operator text
no_operator_read text bytes same absent = no_operator text (subst (λ (w : List ℕ). IsAbsent w operators) same absent)
