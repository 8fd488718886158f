-- What a table's answer says of the definitions that test for its words, one behind another; and that the grammar's words
-- stand for something.
use Rattle.std.proofs.Common.{◌≡◌, ℕ, suc, Bool, true, false, List, [], ◌∷◌, length, Option, Some, None, refl, sym, ◌∙◌, ap, subst, arith}
use Rattle.std.proofs.lemmas.Bool.Decides.{nat_tests}
use Rattle.std.specs.Prelude.{if◌then◌else◌, codes, bytes_eq, is_some, ◌&&◌, ◌||◌, ◌==◌, nat_le}
use Rattle.std.specs.List.{list_any}
use Rattle.std.specs.Cmp.Lexicographic.{nat_list_eq_equiv}
use Rattle.kw_table.specs.Table.{IsAbsent}
use Rattle.pddl_condition.specs.Condition.{orders}
use Rattle.pddl_condition.specs.Grammar.{is_operation, is_relation}
use Rattle.pddl_domain.specs.Effect.{changes}
use Rattle.pddl_form.specs.Names.{is_one_of}
use Rattle.pddl_form.proofs.Keywords.{other_word, isnt}
use Rattle.pddl_task.specs.declared.expression.Expr.{Expr}
use Rattle.pddl_task.specs.declared.expression.Expr.TheVariants as expr
use Rattle.typing_uses.specs.declared.expressions.Operator.{Operator}
use Rattle.typing_uses.specs.declared.expressions.Operator.TheVariants.{Plus, Times, Minus, Over}
use Rattle.pddl_task.specs.declared.condition.Rel.{Rel}
use Rattle.pddl_task.specs.declared.condition.Rel.TheVariants as rel
use Rattle.pddl_task.specs.declared.effect.NumOp.{NumOp}
use Rattle.pddl_task.specs.declared.effect.NumOp.TheVariants as num_op
use Rattle.typing_uses.specs.Expressions.{operation, minus, over, relation, change_operator}
use Rattle.typing_uses.specs.Operators.{operator_of, operation_by}

-- what is there isn't absent
none_there : {A : Type 0} (o : Option A) → o ≡ None → is_some o ≡ true → ⊥
none_there o none there = cc (sym there ∙ ap is_some none)

-- the grammar tests for its words from their side
turned : (text : List ℕ) (words : List (List ℕ)) → list_any (λ w. bytes_eq w text) words ≡ list_any (λ w. bytes_eq text w) words
turned text [] = refl
turned text (w ∷ words) =
    ap (λ (b : Bool). b || list_any (λ v. bytes_eq v text) words) (nat_list_eq_equiv.symm w text) ∙ ap (λ (b : Bool). bytes_eq text w || b) (turned text words)

-- ---- operators

pub record OperatorRows : Type 0 where
  pub times : operator_of (codes "*") ≡ Some Times
  pub plus : operator_of (codes "+") ≡ Some Plus
  pub minus : operator_of (codes "-") ≡ Some Minus
  pub over : operator_of (codes "/") ≡ Some Over

pub operator_rows : OperatorRows
unfolding operator_of
operator_rows = record { times = refl; plus = refl; minus = refl; over = refl }

abbrev operators : List (List ℕ)
operators = codes "*" ∷ codes "+" ∷ codes "-" ∷ codes "/" ∷ []

no_operator : (text : List ℕ) → IsAbsent text operators → operator_of text ≡ None
unfolding operator_of
no_operator text absent =
    let times : bytes_eq text (codes "*") ≡ false = other_word text (codes "*") (λ same. isnt operators text (codes "*") absent refl (sym same)) in
    let plus : bytes_eq text (codes "+") ≡ false = other_word text (codes "+") (λ same. isnt operators text (codes "+") absent refl (sym same)) in
    let minus : bytes_eq text (codes "-") ≡ false = other_word text (codes "-") (λ same. isnt operators text (codes "-") absent refl (sym same)) in
    let over : bytes_eq text (codes "/") ≡ false = other_word text (codes "/") (λ same. isnt operators text (codes "/") absent refl (sym same)) in
    rw (times, plus, minus, over)

pub some_operator : (text bytes : List ℕ) → bytes ≡ text → is_some (operator_of text) ≡ true → IsAbsent bytes operators → ⊥
some_operator text bytes same there absent = none_there (operator_of text) (no_operator text (subst (λ (w : List ℕ). IsAbsent w operators) same absent)) there

chosen : (times plus minus_is over_is : Bool) (operator : Operator) (args : List Expr)
    → (if times then Some Times else (if plus then Some Plus else (if minus_is then Some Minus else (if over_is then Some Over else None)))) ≡ Some operator
    → operation_by operator args ≡ (if times then Some (expr.Mul args) else (if plus then Some (expr.Add args) else (if minus_is then minus args else (if over_is then over args else None))))
chosen true plus minus_is over_is operator args is = let same : Times ≡ operator = cc in ap (λ (o : Operator). operation_by o args) (sym same)
chosen false true minus_is over_is operator args is = let same : Plus ≡ operator = cc in ap (λ (o : Operator). operation_by o args) (sym same)
chosen false false true over_is operator args is = let same : Minus ≡ operator = cc in ap (λ (o : Operator). operation_by o args) (sym same)
chosen false false false true operator args is = let same : Over ≡ operator = cc in ap (λ (o : Operator). operation_by o args) (sym same)
chosen false false false false operator args is = absurd (cc is)

-- what the operator that a word is makes of its arguments
pub operation_of : (text : List ℕ) (operator : Operator) (args : List Expr) → operator_of text ≡ Some operator → operation_by operator args ≡ operation text args
unfolding operator_of
operation_of text operator args is = chosen (bytes_eq text (codes "*")) (bytes_eq text (codes "+")) (bytes_eq text (codes "-")) (bytes_eq text (codes "/")) operator args is

operator_there : (times plus minus_is over_is two one_or_two just_two : Bool)
    → ((times || plus) && two || (minus_is && one_or_two || over_is && just_two)) ≡ true
    → is_some (if times then Some Times else (if plus then Some Plus else (if minus_is then Some Minus else (if over_is then Some Over else None)))) ≡ true
operator_there true plus minus_is over_is two one_or_two just_two is = refl
operator_there false true minus_is over_is two one_or_two just_two is = refl
operator_there false false true over_is two one_or_two just_two is = refl
operator_there false false false true two one_or_two just_two is = refl
operator_there false false false false two one_or_two just_two is = is

-- a word of the grammar is an operator
pub known_operator : (text : List ℕ) (count : ℕ) → is_operation text count ≡ true → is_some (operator_of text) ≡ true
unfolding operator_of
known_operator text count is =
    operator_there (bytes_eq text (codes "*")) (bytes_eq text (codes "+")) (bytes_eq text (codes "-")) (bytes_eq text (codes "/")) (nat_le 2 count) (count == 1 || count == 2) (count == 2) is

neither : (n : ℕ) → (suc (suc (suc n)) == 1 || suc (suc (suc n)) == 2) ≡ false
neither n = grind (arith, nat_tests)

not_two : (n : ℕ) → (suc (suc (suc n)) == 2) ≡ false
not_two n = grind (arith, nat_tests)

minus_there : (args : List Expr) → (length args == 1 || length args == 2) ≡ true → is_some (minus args) ≡ true
minus_there [] is = is
minus_there (a ∷ []) is = refl
minus_there (a ∷ b ∷ []) is = refl
minus_there (a ∷ b ∷ c ∷ more) is = absurd (cc (sym is ∙ neither (length more)))

over_there : (args : List Expr) → (length args == 2) ≡ true → is_some (over args) ≡ true
over_there [] is = is
over_there (a ∷ []) is = is
over_there (a ∷ b ∷ []) is = refl
over_there (a ∷ b ∷ c ∷ more) is = absurd (cc (sym is ∙ not_two (length more)))

operation_there : (times plus minus_is over_is : Bool) (args : List Expr)
    → ((times || plus) && nat_le 2 (length args) || (minus_is && (length args == 1 || length args == 2) || over_is && (length args == 2))) ≡ true
    → is_some (if times then Some (expr.Mul args) else (if plus then Some (expr.Add args) else (if minus_is then minus args else (if over_is then over args else None)))) ≡ true
operation_there true plus minus_is over_is args is = refl
operation_there false true minus_is over_is args is = refl
operation_there false false true true args is = minus_there args (either (length args == 1) (length args == 2) is)
  where
    either : (one two : Bool) → (false || (one || two || two)) ≡ true → (one || two) ≡ true
    either true two is = refl
    either false true is = refl
    either false false is = is
operation_there false false true false args is = minus_there args (either (length args == 1) (length args == 2) is)
  where
    either : (one two : Bool) → (false || (one || two || false)) ≡ true → (one || two) ≡ true
    either true two is = refl
    either false true is = refl
    either false false is = is
operation_there false false false true args is = over_there args is
operation_there false false false false args is = is

-- with as many arguments as the grammar gives it, an operator makes something of them
pub known_operation : (text : List ℕ) (args : List Expr) → is_operation text (length args) ≡ true → is_some (operation text args) ≡ true
known_operation text args is = operation_there (bytes_eq text (codes "*")) (bytes_eq text (codes "+")) (bytes_eq text (codes "-")) (bytes_eq text (codes "/")) args is

-- ---- relations

pub record RelationRows : Type 0 where
  pub less : relation (codes "<") ≡ Some rel.Lt
  pub at_most : relation (codes "<=") ≡ Some rel.Le
  pub equal : relation (codes "=") ≡ Some rel.Eq
  pub more : relation (codes ">") ≡ Some rel.Gt
  pub at_least : relation (codes ">=") ≡ Some rel.Ge

pub relation_rows : RelationRows
relation_rows = record { less = refl; at_most = refl; equal = refl; more = refl; at_least = refl }

abbrev relations : List (List ℕ)
relations = codes "<" ∷ codes "<=" ∷ codes "=" ∷ codes ">" ∷ codes ">=" ∷ []

no_relation : (text : List ℕ) → IsAbsent text relations → relation text ≡ None
no_relation text absent =
    let less : bytes_eq text (codes "<") ≡ false = other_word text (codes "<") (λ same. isnt relations text (codes "<") absent refl (sym same)) in
    let at_most : bytes_eq text (codes "<=") ≡ false = other_word text (codes "<=") (λ same. isnt relations text (codes "<=") absent refl (sym same)) in
    let equal : bytes_eq text (codes "=") ≡ false = other_word text (codes "=") (λ same. isnt relations text (codes "=") absent refl (sym same)) in
    let more : bytes_eq text (codes ">") ≡ false = other_word text (codes ">") (λ same. isnt relations text (codes ">") absent refl (sym same)) in
    let at_least : bytes_eq text (codes ">=") ≡ false = other_word text (codes ">=") (λ same. isnt relations text (codes ">=") absent refl (sym same)) in
    rw (less, at_most, equal, more, at_least)

pub some_relation : (text bytes : List ℕ) → bytes ≡ text → is_some (relation text) ≡ true → IsAbsent bytes relations → ⊥
some_relation text bytes same there absent = none_there (relation text) (no_relation text (subst (λ (w : List ℕ). IsAbsent w relations) same absent)) there

relation_there : (less at_most equal more at_least : Bool) → (equal || (less || (at_most || (more || (at_least || false))))) ≡ true
    → is_some (if less then Some rel.Lt else (if at_most then Some rel.Le else (if equal then Some rel.Eq else (if more then Some rel.Gt else (if at_least then Some rel.Ge else None))))) ≡ true
relation_there true at_most equal more at_least is = refl
relation_there false true equal more at_least is = refl
relation_there false false true more at_least is = refl
relation_there false false false true at_least is = refl
relation_there false false false false true is = refl
relation_there false false false false false is = is

-- a word of the grammar is a relation
pub known_relation : (text : List ℕ) → is_relation text ≡ true → is_some (relation text) ≡ true
known_relation text is =
    relation_there (bytes_eq text (codes "<")) (bytes_eq text (codes "<=")) (bytes_eq text (codes "=")) (bytes_eq text (codes ">")) (bytes_eq text (codes ">="))
    (ap (λ (b : Bool). bytes_eq text (codes "=") || b) (sym (turned text orders)) ∙ is)

-- ---- changes

pub record ChangeRows : Type 0 where
  pub assign : change_operator (codes "assign") ≡ Some num_op.Assign
  pub decrease : change_operator (codes "decrease") ≡ Some num_op.Decrease
  pub increase : change_operator (codes "increase") ≡ Some num_op.Increase
  pub scale_down : change_operator (codes "scale-down") ≡ Some num_op.ScaleDown
  pub scale_up : change_operator (codes "scale-up") ≡ Some num_op.ScaleUp

pub change_rows : ChangeRows
change_rows = record { assign = refl; decrease = refl; increase = refl; scale_down = refl; scale_up = refl }

no_change : (text : List ℕ) → IsAbsent text changes → change_operator text ≡ None
no_change text absent =
    let assign : bytes_eq text (codes "assign") ≡ false = other_word text (codes "assign") (λ same. isnt changes text (codes "assign") absent refl (sym same)) in
    let decrease : bytes_eq text (codes "decrease") ≡ false = other_word text (codes "decrease") (λ same. isnt changes text (codes "decrease") absent refl (sym same)) in
    let increase : bytes_eq text (codes "increase") ≡ false = other_word text (codes "increase") (λ same. isnt changes text (codes "increase") absent refl (sym same)) in
    let scale_down : bytes_eq text (codes "scale-down") ≡ false = other_word text (codes "scale-down") (λ same. isnt changes text (codes "scale-down") absent refl (sym same)) in
    let scale_up : bytes_eq text (codes "scale-up") ≡ false = other_word text (codes "scale-up") (λ same. isnt changes text (codes "scale-up") absent refl (sym same)) in
    rw (assign, decrease, increase, scale_down, scale_up)

pub some_change : (text bytes : List ℕ) → bytes ≡ text → is_some (change_operator text) ≡ true → IsAbsent bytes changes → ⊥
some_change text bytes same there absent = none_there (change_operator text) (no_change text (subst (λ (w : List ℕ). IsAbsent w changes) same absent)) there

change_there : (assign decrease increase scale_down scale_up : Bool) → (assign || (decrease || (increase || (scale_down || (scale_up || false))))) ≡ true
    → is_some (if assign then Some num_op.Assign else (if decrease then Some num_op.Decrease else (if increase then Some num_op.Increase else (if scale_down then Some num_op.ScaleDown else (if scale_up then Some num_op.ScaleUp else None))))) ≡ true
change_there true decrease increase scale_down scale_up is = refl
change_there false true increase scale_down scale_up is = refl
change_there false false true scale_down scale_up is = refl
change_there false false false true scale_up is = refl
change_there false false false false true is = refl
change_there false false false false false is = is

pub known_change : (text : List ℕ) → is_one_of changes text ≡ true → is_some (change_operator text) ≡ true
known_change text is =
    change_there (bytes_eq text (codes "assign")) (bytes_eq text (codes "decrease")) (bytes_eq text (codes "increase")) (bytes_eq text (codes "scale-down")) (bytes_eq text (codes "scale-up"))
    (sym (turned text changes) ∙ is)
