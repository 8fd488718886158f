-- What the forms of expressions and conditions give is of the grammar.
use Rattle.std.proofs.Common.{◌≡◌, ℕ, Bool, true, false, List, [], ◌∷◌, length, map, Option, Some, None, refl, sym, ◌∙◌, ap, subst, arith}
use Rattle.std.specs.Prelude.{if◌then◌else◌, codes, bytes_eq, ◌&&◌, ◌||◌, ◌==◌, nat_le}
use Rattle.std.specs.List.{list_all}
use Rattle.std.proofs.lemmas.Bool.{and_parts, and_from}
use Rattle.std.proofs.lemmas.Bool.Decides.{nat_tests}
use Rattle.std.proofs.lemmas.List.{length-map}
use Rattle.std.proofs.lemmas.List.Folds.{list_all-map}
use Rattle.sexpr.specs.declared.tree.Tree.{Tree, out-Tree}
use Rattle.sexpr.specs.declared.tree.Tree.TheOpen.{Tree-F}
use Rattle.sexpr.proofs.Trees.{every_tree}
use Rattle.frac128.specs.Number.{number_of}
use Rattle.rational.specs.Fraction.{Fraction}
use Rattle.pddl_form.specs.declared.calls.Call.{Call}
use Rattle.pddl_form.specs.declared.names.Sort.{Sort}
use Rattle.pddl_form.specs.declared.names.Sort.TheVariants.{Term}
use Rattle.pddl_form.specs.declared.spot.Spot.{Spot}
use Rattle.pddl_form.specs.Faults.{shape}
use Rattle.pddl_form.specs.Grammar.{is_call}
use Rattle.pddl_form.specs.Judged.{Judged, mapped, each, at_least}
use Rattle.pddl_form.specs.Names.{takes, is_symbol, is_one_of}
use Rattle.pddl_form.specs.Parts.{two_parts}
use Rattle.pddl_form.specs.Words.{word_of, spot_of}
use Rattle.pddl_form.specs.Calls.{arguments}
use Rattle.pddl_form.proofs.Giving.{Gives, gives-with, gives-mapped, gives-provided, gives-provision, gives-each_of, are_at_least, gives-at_least, gives-joined}
use Rattle.pddl_form.proofs.Grammar.{is_call_of, arguments_give, two_give}
use Rattle.pddl_condition.specs.declared.expression.ExprAst.{ExprAst}
use Rattle.pddl_condition.specs.declared.expression.ExprAst.TheVariants as expr
use Rattle.pddl_condition.specs.declared.expression.ExprAst.TheOpen.{ExprAst-F}
use Rattle.pddl_condition.specs.declared.expression.ExprAst.TheFolds.{fold-ExprAst, fold-roll-ExprAst}
use Rattle.pddl_condition.specs.declared.expression.Operator.{Operator}
use Rattle.pddl_condition.specs.declared.expression.Operator.TheVariants.{Fold, Minus, Over, Function, Other}
use Rattle.pddl_condition.specs.declared.condition.CondAst.{CondAst}
use Rattle.pddl_condition.specs.declared.heads.Head.{Head}
use Rattle.pddl_condition.specs.declared.heads.Head.TheVariants as head
use Rattle.pddl_condition.specs.Expression.{number_or_fault, number_form, operator_of, call_expression, up_to_two, operated, expression_by, headed_expression, expression_word, expression_list, expression_form}
use Rattle.pddl_condition.specs.Condition.{orders, unread, head_of, equal_sides, same_leaf, literal_leaf, compare_leaf, comparison, equality, negated_equality, negated_by, negated_at, negated, may_follow, negation, condition_by, headed_condition, condition_list, condition_form, negated_atom_equality, negated_atom_by, negated_atom_at, negated_atom}
use Rattle.pddl_condition.specs.Grammar.{is_operation, expression_step, is_expression, is_relation, is_condition}
use Rattle.pddl_condition.proofs.Expressions.{expression_form-word, expression_form-list}
use Rattle.pddl_condition.proofs.Conditions.{condition_form-word, condition_form-list}

-- ---- the levels of an expression

pub is_expression-Num : (n : Fraction) → is_expression (expr.Num n) ≡ true
unfolding is_expression
is_expression-Num n = ap (fold-ExprAst Bool expression_step) (sym (expr.rolls-Num n)) ∙ fold-roll-ExprAst Bool expression_step (ExprAst-F.Num n)

pub is_expression-Call : (name : Spot) (args : List Spot) → is_expression (expr.Call name args) ≡ is_call Term name args
unfolding is_expression
is_expression-Call name args = ap (fold-ExprAst Bool expression_step) (sym (expr.rolls-Call name args)) ∙ fold-roll-ExprAst Bool expression_step (ExprAst-F.Call name args)

pub is_expression-Op : (op : Spot) (args : List ExprAst) → is_expression (expr.Op op args) ≡ (is_operation op.text (length args) && list_all is_expression args)
unfolding is_expression
is_expression-Op op args =
    ap (fold-ExprAst Bool expression_step) (sym (expr.rolls-Op op args))
    ∙ fold-roll-ExprAst Bool expression_step (ExprAst-F.Op op args)
    ∙ ap (λ (n : ℕ). is_operation op.text n && list_all (λ b. b) (map (fold-ExprAst Bool expression_step) args)) (length-map args (fold-ExprAst Bool expression_step))
    ∙ ap (λ (b : Bool). is_operation op.text (length args) && b) (list_all-map (λ b. b) (fold-ExprAst Bool expression_step) args)

-- ---- what the head of an expression says of its word

abbrev Says : Operator → Bool → Bool → Bool → Bool → Bool → Type 0
Says Fold plus times minus over symbol = (times || plus) ≡ true
Says Minus plus times minus over symbol = minus ≡ true
Says Over plus times minus over symbol = over ≡ true
Says Function plus times minus over symbol = symbol ≡ true
Says Other plus times minus over symbol = Unit {0}

abbrev operator_by : Bool → Bool → Bool → Bool → Bool → Operator
operator_by plus times minus over symbol =
    if plus then Fold
    else (if times then Fold
    else (if minus then Minus
    else (if over then Over else (if symbol then Function else Other))))

or_right : (b : Bool) → (b || true) ≡ true
or_right true = refl
or_right false = refl

operator_says : (plus times minus over symbol : Bool) → Says (operator_by plus times minus over symbol) plus times minus over symbol
operator_says true times minus over symbol = or_right times
operator_says false true minus over symbol = refl
operator_says false false true over symbol = refl
operator_says false false false true symbol = refl
operator_says false false false false true = refl
operator_says false false false false false = tt

abbrev SaysOf : Operator → List ℕ → Type 0
SaysOf op text = Says op (bytes_eq text (codes "+")) (bytes_eq text (codes "*")) (bytes_eq text (codes "-")) (bytes_eq text (codes "/")) (is_symbol text)

says : (text : List ℕ) → SaysOf (operator_of text) text
unfolding operator_of
says text = operator_says (bytes_eq text (codes "+")) (bytes_eq text (codes "*")) (bytes_eq text (codes "-")) (bytes_eq text (codes "/")) (is_symbol text)

-- ---- operations

abbrev is_count : Bool → Bool → Bool → Bool → ℕ → Bool
is_count times plus minus over n = ((times || plus) && nat_le 2 n) || ((minus && (n == 1 || n == 2)) || (over && n == 2))

fold_counts : (times plus minus over : Bool) (n : ℕ) → (times || plus) ≡ true → nat_le 2 n ≡ true → is_count times plus minus over n ≡ true
fold_counts true plus minus over n is enough = grind (arith, nat_tests)
fold_counts false true minus over n is enough = grind (arith, nat_tests)
fold_counts false false minus over n is enough = absurd (cc is)

minus_counts : (times plus minus over : Bool) (n : ℕ) → minus ≡ true → nat_le 1 n ≡ true → nat_le n 2 ≡ true → is_count times plus minus over n ≡ true
minus_counts times plus true over n is enough few = grind (arith, nat_tests)
minus_counts times plus false over n is enough few = absurd (cc is)

over_counts : (times plus minus over : Bool) (n : ℕ) → over ≡ true → nat_le 2 n ≡ true → nat_le n 2 ≡ true → is_count times plus minus over n ≡ true
over_counts times plus minus true n is enough few = grind (arith, nat_tests)
over_counts times plus minus false n is enough few = absurd (cc is)

counted : (n m count : ℕ) → (n == m) ≡ true → nat_le count m ≡ true → nat_le count n ≡ true
counted n m count same enough = grind (arith, nat_tests)

counted_above : (n m count : ℕ) → (n == m) ≡ true → nat_le m count ≡ true → nat_le n count ≡ true
counted_above n m count same few = grind (arith, nat_tests)

-- what the tests of a list of arguments come to
record Counted (count : ℕ) (args : List ExprAst) : Type 0 where
  enough : nat_le count (length args) ≡ true
  all : list_all is_expression args ≡ true

are_counted : (count there : ℕ) (args : List ExprAst) → are_at_least is_expression count there args ≡ true → Counted count args
are_counted count there args h =
    let same = and_parts (length args == there) (nat_le count there && list_all is_expression args) h in
    let rest = and_parts (nat_le count there) (list_all is_expression args) same.1 in
    record { enough = counted (length args) there count same.0 rest.0; all = rest.1 }

few : (count there : ℕ) (args : List ExprAst) → are_at_least is_expression count there args ≡ true → nat_le there 2 ≡ true → nat_le (length args) 2 ≡ true
few count there args h most = counted_above (length args) there 2 (and_parts (length args == there) (nat_le count there && list_all is_expression args) h).0 most

abbrev are_up_to_two : ℕ → ℕ → List ExprAst → Bool
are_up_to_two count there args = nat_le there 2 && are_at_least is_expression count there args

up_to_two_gives : (count start end : ℕ) (made : List (Judged ExprAst)) → Gives (list_all is_expression) (each made) → Gives (are_up_to_two count (length made)) (up_to_two count start end made)
up_to_two_gives count start end made h =
    gives-with (λ args. nat_le (length made) 2) (are_at_least is_expression count (length made)) (up_to_two count start end made)
    (gives-provision (nat_le (length made) 2) (shape start) (at_least count end made))
    (gives-provided (are_at_least is_expression count (length made)) (nat_le (length made) 2) (shape start) (at_least count end made) (gives-at_least is_expression count end made h))

module _ (start end : ℕ) (head : Tree) where
  abbrev op_word : List ℕ
  op_word = word_of head

  fold_gives : (made : List (Judged ExprAst)) → SaysOf Fold op_word → Gives (list_all is_expression) (each made) → Gives is_expression (operated head (at_least 2 end made))
  fold_gives made said h =
      gives-mapped (expr.Op (spot_of head)) (are_at_least is_expression 2 (length made)) is_expression (at_least 2 end made)
      (λ args a. let c = are_counted 2 (length made) args a in
      is_expression-Op (spot_of head) args
      ∙ and_from (is_operation op_word (length args)) (list_all is_expression args)
      (fold_counts (bytes_eq op_word (codes "*")) (bytes_eq op_word (codes "+")) (bytes_eq op_word (codes "-")) (bytes_eq op_word (codes "/")) (length args) said c.enough) c.all)
      (gives-at_least is_expression 2 end made h)

  minus_gives : (made : List (Judged ExprAst)) → SaysOf Minus op_word → Gives (list_all is_expression) (each made) → Gives is_expression (operated head (up_to_two 1 start end made))
  minus_gives made said h =
      gives-mapped (expr.Op (spot_of head)) (are_up_to_two 1 (length made)) is_expression (up_to_two 1 start end made)
      (λ args a. let most = and_parts (nat_le (length made) 2) (are_at_least is_expression 1 (length made) args) a in
      let c = are_counted 1 (length made) args most.1 in
      is_expression-Op (spot_of head) args
      ∙ and_from (is_operation op_word (length args)) (list_all is_expression args)
      (minus_counts (bytes_eq op_word (codes "*")) (bytes_eq op_word (codes "+")) (bytes_eq op_word (codes "-")) (bytes_eq op_word (codes "/")) (length args) said c.enough (few 1 (length made) args most.1 most.0)) c.all)
      (up_to_two_gives 1 start end made h)

  over_gives : (made : List (Judged ExprAst)) → SaysOf Over op_word → Gives (list_all is_expression) (each made) → Gives is_expression (operated head (up_to_two 2 start end made))
  over_gives made said h =
      gives-mapped (expr.Op (spot_of head)) (are_up_to_two 2 (length made)) is_expression (up_to_two 2 start end made)
      (λ args a. let most = and_parts (nat_le (length made) 2) (are_at_least is_expression 2 (length made) args) a in
      let c = are_counted 2 (length made) args most.1 in
      is_expression-Op (spot_of head) args
      ∙ and_from (is_operation op_word (length args)) (list_all is_expression args)
      (over_counts (bytes_eq op_word (codes "*")) (bytes_eq op_word (codes "+")) (bytes_eq op_word (codes "-")) (bytes_eq op_word (codes "/")) (length args) said c.enough (few 2 (length made) args most.1 most.0)) c.all)
      (up_to_two_gives 2 start end made h)

  headed_by : (op : Operator) (parts : List Tree) (made : List (Judged ExprAst)) → SaysOf op op_word → Gives (list_all is_expression) (each made) → Gives is_expression (expression_by op start end head parts made)
  headed_by Fold parts made said h = fold_gives made said h
  headed_by Minus parts made said h = minus_gives made said h
  headed_by Over parts made said h = over_gives made said h
  headed_by Function parts made said h = gives-mapped call_expression (is_call_of Term) is_expression (arguments Term head parts) (λ call a. is_expression-Call call.name call.args ∙ a) (arguments_give Term head parts said)
  headed_by Other parts made said h = tt

  headed_gives : (parts : List Tree) (made : List (Judged ExprAst)) → Gives (list_all is_expression) (each made) → Gives is_expression (headed_expression start end head parts made)
  unfolding headed_expression
  headed_gives parts made h = headed_by (operator_of op_word) parts made (says op_word) h

-- ---- expressions

abbrev GivesExpression : Tree → Type 0
GivesExpression t = Gives is_expression (expression_form t)

number_gives : (start : ℕ) (n : Option Fraction) → Gives is_expression (mapped expr.Num (number_or_fault start n))
number_gives start None = tt
number_gives start (Some n) = is_expression-Num n

word_gives : (start end : ℕ) (text : List ℕ) → Gives is_expression (expression_word start end text)
unfolding number_form
word_gives start end text = number_gives start (number_of text)

list_gives : (start end : ℕ) (items : List ((t : Tree) × GivesExpression t)) → Gives is_expression (expression_list start end (map (λ e. e.0) items) (map expression_form (map (λ e. e.0) items)))
list_gives start end [] = tt
list_gives start end (e ∷ items) = headed_gives start end e.0 (map (λ e. e.0) items) (map expression_form (map (λ e. e.0) items)) (gives-each_of expression_form is_expression items)

pub expression_gives : (tree : Tree) → Gives is_expression (expression_form tree)
expression_gives =
    every_tree GivesExpression
    (λ start end text. subst (Gives is_expression) (sym (expression_form-word start end text)) (word_gives start end text))
    (λ start end items. subst (Gives is_expression) (sym (expression_form-list start end (map (λ e. e.0) items))) (list_gives start end items))

-- ---- what the head of a condition says of its word

abbrev HeadSays : Head → Bool → Bool → Bool → Type 0
HeadSays head.And equal order symbol = Unit {0}
HeadSays head.Not equal order symbol = Unit {0}
HeadSays head.Equal equal order symbol = (equal || order) ≡ true
HeadSays head.Order equal order symbol = (equal || order) ≡ true
HeadSays head.Unread equal order symbol = Unit {0}
HeadSays head.Predicate equal order symbol = symbol ≡ true
HeadSays head.Other equal order symbol = Unit {0}

abbrev head_by : Bool → Bool → Bool → Bool → Bool → Bool → Head
head_by and not equal order feature symbol =
    if and then head.And
    else (if not then head.Not
    else (if equal then head.Equal
    else (if order then head.Order
    else (if feature then head.Unread else (if symbol then head.Predicate else head.Other)))))

head_says : (and not equal order feature symbol : Bool) → HeadSays (head_by and not equal order feature symbol) equal order symbol
head_says true not equal order feature symbol = tt
head_says false true equal order feature symbol = tt
head_says false false true order feature symbol = refl
head_says false false false true feature symbol = refl
head_says false false false false true symbol = tt
head_says false false false false false true = refl
head_says false false false false false false = tt

abbrev HeadSaysOf : Head → List ℕ → Type 0
HeadSaysOf h text = HeadSays h (bytes_eq text (codes "=")) (is_one_of orders text) (is_symbol text)

head_says_of : (text : List ℕ) → HeadSaysOf (head_of text) text
unfolding head_of
head_says_of text = head_says (bytes_eq text (codes "and")) (bytes_eq text (codes "not")) (bytes_eq text (codes "=")) (is_one_of orders text) (is_one_of unread text) (is_symbol text)

-- ---- leaves

abbrev are_conditions : List CondAst → Bool
are_conditions leaves = list_all is_condition leaves

abbrev GivesLeaves : Judged (List CondAst) → Type 0
GivesLeaves j = Gives are_conditions j

literal_gives : (pos : Bool) (h : Tree) (parts : List Tree) → is_symbol (word_of h) ≡ true → GivesLeaves (mapped (literal_leaf pos) (arguments Term h parts))
literal_gives pos h parts symbol =
    gives-mapped (literal_leaf pos) (is_call_of Term) are_conditions (arguments Term h parts) (λ call is. and_from (is_call Term call.name call.args) true is refl) (arguments_give Term h parts symbol)

abbrev both_terms : Tree × Tree → Bool
both_terms sides = takes Term (word_of sides.0) && takes Term (word_of sides.1)

-- the sides of an equality of objects, where there are some
abbrev SidesFit : Option (Tree × Tree) → Type 0
SidesFit None = Unit {0}
SidesFit (Some sides) = both_terms sides ≡ true

sides_by : (b : Bool) (sides : Tree × Tree) → b ≡ both_terms sides → SidesFit (if b then Some sides else None)
sides_by true sides is = sym is
sides_by false sides is = tt

sides_fit : (parts : List Tree) → SidesFit (equal_sides parts)
sides_fit [] = tt
sides_fit (left ∷ []) = tt
sides_fit (left ∷ right ∷ []) = sides_by (both_terms (left, right)) (left, right) refl
sides_fit (left ∷ right ∷ t ∷ more) = tt

same_gives : (pos : Bool) (sides : Tree × Tree) → both_terms sides ≡ true → are_conditions (same_leaf pos sides) ≡ true
same_gives pos sides h = and_from (both_terms sides) true h refl

comparison_gives : (start end : ℕ) (h : Tree) (parts : List Tree) → is_relation (word_of h) ≡ true → GivesLeaves (comparison start end h parts)
unfolding comparison
comparison_gives start end h parts relation =
    gives-mapped (compare_leaf h) (λ sides. is_expression sides.0 && is_expression sides.1) are_conditions (two_parts expression_form expression_form start end parts)
    (λ sides are. and_from (is_relation (word_of h) && (is_expression sides.0 && is_expression sides.1)) true (and_from (is_relation (word_of h)) (is_expression sides.0 && is_expression sides.1) relation are) refl)
    (two_give expression_form expression_form is_expression is_expression expression_gives expression_gives start end parts)

equality_gives : (start end : ℕ) (h : Tree) (parts : List Tree) (sides : Option (Tree × Tree)) → is_relation (word_of h) ≡ true → SidesFit sides → GivesLeaves (equality start end h parts sides)
equality_gives start end h parts (Some sides) relation fit = same_gives true sides fit
equality_gives start end h parts None relation fit = comparison_gives start end h parts relation

negated_equality_gives : (word : Tree) (sides : Option (Tree × Tree)) → SidesFit sides → GivesLeaves (negated_equality word sides)
negated_equality_gives word (Some sides) fit = same_gives false sides fit
negated_equality_gives word None fit = tt

negated_by_gives : (k : Head) (word h : Tree) (parts : List Tree) → HeadSaysOf k (word_of h) → GivesLeaves (negated_by k word h parts)
negated_by_gives head.Predicate word h parts said = literal_gives false h parts said
negated_by_gives head.Equal word h parts said = negated_equality_gives word (equal_sides parts) (sides_fit parts)
negated_by_gives head.And word h parts said = tt
negated_by_gives head.Not word h parts said = tt
negated_by_gives head.Order word h parts said = tt
negated_by_gives head.Unread word h parts said = tt
negated_by_gives head.Other word h parts said = tt

negated_at_gives : (word : Tree) (opened : Tree-F Tree) → GivesLeaves (negated_at word opened)
negated_at_gives word (Tree-F.Word start end text) = tt
negated_at_gives word (Tree-F.List start end []) = tt
negated_at_gives word (Tree-F.List start end (h ∷ parts)) = negated_by_gives (head_of (word_of h)) word h parts (head_says_of (word_of h))

negated_gives : (word tree : Tree) → GivesLeaves (negated word tree)
unfolding negated
negated_gives word tree = negated_at_gives word (out-Tree tree)

pub negation_gives : {A : Type 0} (form : Tree → Judged A) (p : A → Bool) → ((t : Tree) → Gives p (form t)) → (start end : ℕ) (parts : List Tree) → Gives p (negation form start end parts)
unfolding negation
negation_gives form p so start end [] = tt
negation_gives form p so start end (t ∷ more) = gives-provided p (may_follow t more) (shape start) (form t) (so t)

-- ---- conditions

condition_by_gives : (k : Head) (start end : ℕ) (h : Tree) (parts : List Tree) (leaves : List (Judged (List CondAst)))
    → HeadSaysOf k (word_of h) → Gives (list_all are_conditions) (each leaves) → GivesLeaves (condition_by k start end h parts leaves)
condition_by_gives head.And start end h parts leaves said all = gives-joined is_condition (each leaves) all
condition_by_gives head.Not start end h parts leaves said all = negation_gives (negated h) are_conditions (negated_gives h) start end parts
condition_by_gives head.Equal start end h parts leaves said all = equality_gives start end h parts (equal_sides parts) said (sides_fit parts)
condition_by_gives head.Order start end h parts leaves said all = comparison_gives start end h parts said
condition_by_gives head.Unread start end h parts leaves said all = tt
condition_by_gives head.Predicate start end h parts leaves said all = literal_gives true h parts said
condition_by_gives head.Other start end h parts leaves said all = tt

headed_condition_gives : (start end : ℕ) (h : Tree) (parts : List Tree) (leaves : List (Judged (List CondAst))) → Gives (list_all are_conditions) (each leaves) → GivesLeaves (headed_condition start end h parts leaves)
unfolding headed_condition
headed_condition_gives start end h parts leaves all = condition_by_gives (head_of (word_of h)) start end h parts leaves (head_says_of (word_of h)) all

abbrev GivesCondition : Tree → Type 0
GivesCondition t = GivesLeaves (condition_form t)

condition_list_gives : (start end : ℕ) (items : List ((t : Tree) × GivesCondition t)) → GivesLeaves (condition_list start end (map (λ e. e.0) items) (map condition_form (map (λ e. e.0) items)))
condition_list_gives start end [] = refl
condition_list_gives start end (e ∷ items) = headed_condition_gives start end e.0 (map (λ e. e.0) items) (map condition_form (map (λ e. e.0) items)) (gives-each_of condition_form are_conditions items)

pub condition_gives : (tree : Tree) → Gives (list_all is_condition) (condition_form tree)
condition_gives =
    every_tree GivesCondition
    (λ start end text. subst GivesLeaves (sym (condition_form-word start end text)) tt)
    (λ start end items. subst GivesLeaves (sym (condition_form-list start end (map (λ e. e.0) items))) (condition_list_gives start end items))

-- ---- what stands behind a `not` where only an atom may

negated_atom_equality_gives : (p : Call → Bool) (word : Tree) (start : ℕ) (sides : Option (Tree × Tree)) → Gives p (negated_atom_equality word start sides)
negated_atom_equality_gives p word start (Some sides) = tt
negated_atom_equality_gives p word start None = tt

negated_atom_by_gives : (k : Head) (sort : Sort) (word : Tree) (start : ℕ) (h : Tree) (parts : List Tree) → HeadSaysOf k (word_of h) → Gives (is_call_of sort) (negated_atom_by k sort word start h parts)
negated_atom_by_gives head.Predicate sort word start h parts said = arguments_give sort h parts said
negated_atom_by_gives head.Equal sort word start h parts said = negated_atom_equality_gives (is_call_of sort) word start (equal_sides parts)
negated_atom_by_gives head.And sort word start h parts said = tt
negated_atom_by_gives head.Not sort word start h parts said = tt
negated_atom_by_gives head.Order sort word start h parts said = tt
negated_atom_by_gives head.Unread sort word start h parts said = tt
negated_atom_by_gives head.Other sort word start h parts said = tt

negated_atom_at_gives : (sort : Sort) (word : Tree) (opened : Tree-F Tree) → Gives (is_call_of sort) (negated_atom_at sort word opened)
negated_atom_at_gives sort word (Tree-F.Word start end text) = tt
negated_atom_at_gives sort word (Tree-F.List start end []) = tt
negated_atom_at_gives sort word (Tree-F.List start end (h ∷ parts)) = negated_atom_by_gives (head_of (word_of h)) sort word start h parts (head_says_of (word_of h))

pub negated_atom_gives : (sort : Sort) (word tree : Tree) → Gives (is_call_of sort) (negated_atom sort word tree)
unfolding negated_atom
negated_atom_gives sort word tree = negated_atom_at_gives sort word (out-Tree tree)
