-- The numbers that names in use become are in range, in a task that declares as many things at least.
use Rattle.std.proofs.Common.{◌≡◌, ℕ, ◌+◌, ◌<◌, ◌≤◌, Bool, true, false, List, [], ◌∷◌, ◌++◌, length, map, Option, Some, None, arith, refl, sym, ◌∙◌, ap, subst}
use Rattle.std.specs.Prelude.{◌&&◌, nat_lt, if◌then◌else◌, is_some, codes, bytes_eq}
use Rattle.std.specs.List.{list_all}
use Rattle.std.proofs.lemmas.Bool.{lt-ltb, and_parts}
use Rattle.std.proofs.lemmas.List.{length-append}
use Rattle.std.proofs.lemmas.List.Quantifiers.{position-Some}
use Rattle.rational.specs.Fraction.{Fraction}
use Rattle.name_table.specs.NameTable.{number_in, with_name}
use Rattle.pddl_form.specs.declared.spot.Spot.{Spot}
use Rattle.pddl_condition.specs.declared.expression.ExprAst.{ExprAst}
use Rattle.pddl_condition.specs.declared.expression.ExprAst.TheVariants as ast
use Rattle.pddl_condition.specs.declared.condition.CondAst.{CondAst}
use Rattle.pddl_condition.specs.declared.condition.CondAst.TheVariants as cond_ast
use Rattle.pddl_form.specs.Judged.{good, mapped, both, each}
use Rattle.pddl_form.specs.Names.{is_variable}
use Rattle.pddl_domain.specs.declared.effect.EffAst.{EffAst}
use Rattle.pddl_domain.specs.declared.effect.EffAst.TheVariants as eff_ast
use Rattle.pddl_task.specs.declared.expression.Term.{Term}
use Rattle.pddl_task.specs.declared.expression.Term.TheVariants as term
use Rattle.pddl_task.specs.declared.expression.Expr.{Expr}
use Rattle.pddl_task.specs.declared.expression.Expr.TheVariants as expr
use Rattle.pddl_task.specs.declared.expression.Expr.TheFolds.{fold-Expr}
use Rattle.pddl_task.specs.declared.condition.Cond.{Cond}
use Rattle.pddl_task.specs.declared.condition.Cond.TheVariants as cond
use Rattle.pddl_task.specs.declared.effect.Effect.{Effect}
use Rattle.pddl_task.specs.declared.effect.Effect.TheVariants as effect
use Rattle.pddl_task.specs.Calls.{call_step, all_calls}
use Rattle.pddl_task.specs.Numbers.{Counts, is_term, are_terms, is_call, is_expression, is_condition, is_effect}
use Rattle.pddl_task.proofs.Written.{fold-Num, fold-Call, fold-Add, fold-Mul, fold-Neg, fold-Sub, fold-Div}
use Rattle.typing_uses.specs.Scope.{Scope, named, term_named, terms_named, sighted}
use Rattle.typing_uses.specs.Expressions.{minus, over, operation, operation_named, expression_named, condition_named, relation, effect_named}
use Rattle.typing_uses.proofs.ExpressionLaws.{expression_named-num, expression_named-call, expression_named-op}
use Rattle.typing_uses.proofs.Written.{every_expression}
use Rattle.typing_uses.proofs.Good.{MappedGood, mapped_good, BothGood, both_good, both_true, each_passes, AndThenGood, and_then_good, KnownGood, known_good, number_of, ChangeGood, change_good}

-- ---- numbers of names

-- there are as many names of each space at most as things are counted
pub record Fits (scope : Scope) (counts : Counts) (count : ℕ) : Type 0 where
  pub types : length scope.types ≤ counts.types
  pub objects : length scope.objects ≤ counts.objects
  pub preds : length scope.preds ≤ counts.preds
  pub funcs : length scope.funcs ≤ counts.funcs
  pub params : length scope.params ≤ count

below_true : (n most count : ℕ) → n < most → most ≤ count → nat_lt n count ≡ true
below_true n most count within few = lt-ltb n count (omega arith)

pub number_below : (names : List (List ℕ)) (text : List ℕ) (n : ℕ) → number_in names text ≡ Some n → n < length names
number_below names text n is = (position-Some (bytes_eq text) names n [] is).0

pub named_within : (names : List (List ℕ)) (spot : Spot) (n count : ℕ) → length names ≤ count → named names spot ≡ good n → nat_lt n count ≡ true
named_within names spot n count few made = below_true n (length names) count (number_below names spot.text n (number_of names spot n made)) few

pub term_within : (scope : Scope) (counts : Counts) (params : ℕ) → Fits scope counts params → (spot : Spot) (t : Term) → term_named scope spot ≡ good t → is_term counts params t ≡ true
term_within scope counts params fits spot t made = by_test (is_variable spot.text) made
  where
    by_test : (b : Bool) → (if b then mapped term.Param (named scope.params spot) else mapped term.Object (named scope.objects spot)) ≡ good t → is_term counts params t ≡ true
    by_test true is =
        let h : MappedGood term.Param (named scope.params spot) t = mapped_good term.Param (named scope.params spot) t is in
        subst (λ (u : Term). is_term counts params u ≡ true) h.made (named_within scope.params spot h.part params fits.params h.part_is)
    by_test false is =
        let h : MappedGood term.Object (named scope.objects spot) t = mapped_good term.Object (named scope.objects spot) t is in
        subst (λ (u : Term). is_term counts params u ≡ true) h.made (named_within scope.objects spot h.part counts.objects fits.objects h.part_is)

pub terms_within : (scope : Scope) (counts : Counts) (params : ℕ) → Fits scope counts params → (spots : List Spot) (ts : List Term) → terms_named scope spots ≡ good ts → are_terms counts params ts ≡ true
terms_within scope counts params fits spots ts made = each_passes (term_named scope) (is_term counts params) (term_within scope counts params fits) spots ts made

-- ---- expressions

list_all-same : {X Y : Type 0} (f : X → Y) (test : Y → Bool) (xs : List X) → list_all test (map f xs) ≡ list_all (λ x. test (f x)) xs
list_all-same f test [] = refl
list_all-same f test (x ∷ xs) = ap (λ (b : Bool). test (f x) && b) (list_all-same f test xs)

-- what holds of each
abbrev pub AllOf : (ExprAst → Type 0) → List ExprAst → Type 0
AllOf Q [] = Unit {0}
AllOf Q (e ∷ es) = Q e × AllOf Q es

module _ (test : ℕ → List Term → Bool) where
  is : Expr → Bool
  is = all_calls test

  is-num : (n : Fraction) → is (expr.Num n) ≡ true
  unfolding is all_calls
  is-num n = fold-Num Bool (call_step test) n

  is-call : (func : ℕ) (args : List Term) → is (expr.Call func args) ≡ test func args
  unfolding is all_calls
  is-call func args = fold-Call Bool (call_step test) func args

  is-add : (args : List Expr) → is (expr.Add args) ≡ list_all is args
  unfolding is all_calls
  is-add args = fold-Add Bool (call_step test) args ∙ list_all-same (fold-Expr Bool (call_step test)) (λ a. a) args

  is-mul : (args : List Expr) → is (expr.Mul args) ≡ list_all is args
  unfolding is all_calls
  is-mul args = fold-Mul Bool (call_step test) args ∙ list_all-same (fold-Expr Bool (call_step test)) (λ a. a) args

  is-neg : (a : Expr) → is (expr.Neg a) ≡ is a
  unfolding is all_calls
  is-neg a = fold-Neg Bool (call_step test) a

  is-sub : (a b : Expr) → is (expr.Sub a b) ≡ (is a && is b)
  unfolding is all_calls
  is-sub a b = fold-Sub Bool (call_step test) a b

  is-div : (a b : Expr) → is (expr.Div a b) ≡ (is a && is b)
  unfolding is all_calls
  is-div a b = fold-Div Bool (call_step test) a b

  two_are : (a b : Expr) → list_all is (a ∷ b ∷ []) ≡ true → (is a && is b) ≡ true
  two_are a b all =
      let h = and_parts (is a) (list_all is (b ∷ [])) all in
      both_true (is a) (is b) h.0 (and_parts (is b) true h.1).0

  minus_is : (args : List Expr) (x : Expr) → list_all is args ≡ true → minus args ≡ Some x → is x ≡ true
  minus_is [] x all made = absurd (cc made)
  minus_is (a ∷ []) x all made = let same : expr.Neg a ≡ x = cc made in ap is (sym same) ∙ is-neg a ∙ (and_parts (is a) true all).0
  minus_is (a ∷ b ∷ []) x all made = let same : expr.Sub a b ≡ x = cc made in ap is (sym same) ∙ is-sub a b ∙ two_are a b all
  minus_is (a ∷ b ∷ c ∷ more) x all made = absurd (cc made)

  over_is : (args : List Expr) (x : Expr) → list_all is args ≡ true → over args ≡ Some x → is x ≡ true
  over_is [] x all made = absurd (cc made)
  over_is (a ∷ []) x all made = absurd (cc made)
  over_is (a ∷ b ∷ []) x all made = let same : expr.Div a b ≡ x = cc made in ap is (sym same) ∙ is-div a b ∙ two_are a b all
  over_is (a ∷ b ∷ c ∷ more) x all made = absurd (cc made)

  operation_is : (op : List ℕ) (args : List Expr) (x : Expr) → list_all is args ≡ true → operation op args ≡ Some x → is x ≡ true
  operation_is op args x all made = by_test (bytes_eq op (codes "*")) (bytes_eq op (codes "+")) (bytes_eq op (codes "-")) (bytes_eq op (codes "/")) made
    where
      by_test : (a b c d : Bool) → (if a then Some (expr.Mul args) else (if b then Some (expr.Add args) else (if c then minus args else (if d then over args else None)))) ≡ Some x → is x ≡ true
      by_test true b c d h = let same : expr.Mul args ≡ x = cc h in ap is (sym same) ∙ is-mul args ∙ all
      by_test false true c d h = let same : expr.Add args ≡ x = cc h in ap is (sym same) ∙ is-add args ∙ all
      by_test false false true d h = minus_is args x all h
      by_test false false false true h = over_is args x all h
      by_test false false false false h = absurd (cc h)

  -- where a premise on an expression gives the test of its calls, and holds of the arguments of an operation
  module _ (scope : Scope) (Q : ExprAst → Type 0)
      (call_passes : (name : Spot) (args : List Spot) (n : ℕ) (ts : List Term) → Q (ast.Call name args) → named scope.funcs name ≡ good n → terms_named scope args ≡ good ts → test n ts ≡ true)
      (of_arguments : (op : Spot) (args : List ExprAst) → Q (ast.Op op args) → AllOf Q args) where
    abbrev Passes : ExprAst → Type 0
    Passes e = (x : Expr) → Q e → expression_named scope e ≡ good x → is x ≡ true

    number_is : (n : Fraction) → Passes (ast.Num n)
    number_is n x q made =
        let same : expr.Num n ≡ x = cc (sym (expression_named-num scope n) ∙ made) in
        subst (λ (y : Expr). is y ≡ true) same (is-num n)

    function_is : (name : Spot) (args : List Spot) → Passes (ast.Call name args)
    function_is name args x q made =
        let h : BothGood expr.Call (named scope.funcs name) (terms_named scope args) x = both_good expr.Call (named scope.funcs name) (terms_named scope args) x (sym (expression_named-call scope name args) ∙ made) in
        subst (λ (y : Expr). is y ≡ true) h.made (is-call h.left h.right ∙ call_passes name args h.left h.right q h.left_is h.right_is)

    abbrev plain : List ((e : ExprAst) × Passes e) → List ExprAst
    plain items = map (λ e. e.0) items

    args_are : (items : List ((e : ExprAst) × Passes e)) (xs : List Expr) → AllOf Q (plain items) → each (map (expression_named scope) (plain items)) ≡ good xs → list_all is xs ≡ true
    args_are [] xs q made = let none : [] ≡ xs = cc made in subst (λ (l : List Expr). list_all is l ≡ true) none refl
    args_are (e ∷ items) xs q made =
        let h : BothGood ◌∷◌ (expression_named scope e.0) (each (map (expression_named scope) (plain items))) xs =
        both_good ◌∷◌ (expression_named scope e.0) (each (map (expression_named scope) (plain items))) xs made in
        subst (λ (l : List Expr). list_all is l ≡ true) h.made (both_true (is h.left) (list_all is h.right) (e.1 h.left q.0 h.left_is) (args_are items h.right q.1 h.right_is))

    operator_is : (op : Spot) (items : List ((e : ExprAst) × Passes e)) → Passes (ast.Op op (plain items))
    operator_is op items x q made =
        let h : AndThenGood (each (map (expression_named scope) (plain items))) (operation_named op) x =
        and_then_good (each (map (expression_named scope) (plain items))) (operation_named op) x (sym (expression_named-op scope op (plain items)) ∙ made) in
        let k : KnownGood (operation op.text h.part) good x = known_good op (operation op.text h.part) good x h.made in
        let same : k.part ≡ x = cc (k.made) in
        operation_is op.text h.part x (args_are items h.part (of_arguments op (plain items) q) h.part_is) (k.part_is ∙ ap Some same)

    every : (e : ExprAst) → Passes e
    every = every_expression Passes number_is function_is operator_is

-- each call of an expression passes, where the premise gives so of its own calls
pub calls_pass : (test : ℕ → List Term → Bool) (scope : Scope) (Q : ExprAst → Type 0)
    → ((name : Spot) (args : List Spot) (n : ℕ) (ts : List Term) → Q (ast.Call name args) → named scope.funcs name ≡ good n → terms_named scope args ≡ good ts → test n ts ≡ true)
    → ((op : Spot) (args : List ExprAst) → Q (ast.Op op args) → AllOf Q args) → (e : ExprAst) (x : Expr) → Q e → expression_named scope e ≡ good x → all_calls test x ≡ true
unfolding is
calls_pass test scope Q call_passes of_arguments e x q made = every test scope Q call_passes of_arguments e x q made

abbrev Any : ExprAst → Type 0
Any e = Unit {0}

any_of : (args : List ExprAst) → AllOf Any args
any_of [] = tt
any_of (e ∷ es) = (tt, any_of es)

pub expression_within : (scope : Scope) (counts : Counts) (params : ℕ) → Fits scope counts params → (e : ExprAst) (x : Expr) → expression_named scope e ≡ good x → is_expression counts params x ≡ true
expression_within scope counts params fits e x made =
    calls_pass (is_call counts params counts.funcs) scope Any
    (λ name args n ts q is_named are_named. both_true (nat_lt n counts.funcs) (are_terms counts params ts) (named_within scope.funcs name n counts.funcs fits.funcs is_named) (terms_within scope counts params fits args ts are_named))
    (λ op args q. any_of args) e x tt made

-- ---- conditions and effects

call_within : {A : Type 0} (scope : Scope) (counts : Counts) (params : ℕ) → Fits scope counts params → (names : List (List ℕ)) (count : ℕ) → length names ≤ count → (f : ℕ → List Term → A) (name : Spot) (args : List Spot) (x : A)
    → BothGood f (named names name) (terms_named scope args) x → (test : A → Bool) → ((n : ℕ) (ts : List Term) → test (f n ts) ≡ is_call counts params count n ts) → test x ≡ true
call_within {A = A} scope counts params fits names count few f name args x h test tests =
    subst (λ (y : A). test y ≡ true) h.made
    (tests h.left h.right ∙ both_true (nat_lt h.left count) (are_terms counts params h.right) (named_within names name h.left count few h.left_is) (terms_within scope counts params fits args h.right h.right_is))

pub condition_within : (scope : Scope) (counts : Counts) (params : ℕ) → Fits scope counts params → (c : CondAst) (x : Cond) → condition_named scope c ≡ good x → is_condition counts params x ≡ true
condition_within scope counts params fits (cond_ast.Lit pos name args) x made =
    call_within scope counts params fits scope.preds counts.preds fits.preds (cond.Lit pos) name args x (both_good (cond.Lit pos) (named scope.preds name) (terms_named scope args) x made) (is_condition counts params) (λ n ts. refl)
condition_within scope counts params fits (cond_ast.Same pos left right) x made =
    let h : BothGood (cond.Same pos) (term_named scope left) (term_named scope right) x = both_good (cond.Same pos) (term_named scope left) (term_named scope right) x made in
    subst (λ (y : Cond). is_condition counts params y ≡ true) h.made
    (both_true (is_term counts params h.left) (is_term counts params h.right) (term_within scope counts params fits left h.left h.left_is) (term_within scope counts params fits right h.right h.right_is))
condition_within scope counts params fits (cond_ast.Compare r left right) x made =
    let k : KnownGood (relation r.text) (λ o. both (cond.Compare o) (expression_named scope left) (expression_named scope right)) x =
    known_good r (relation r.text) (λ o. both (cond.Compare o) (expression_named scope left) (expression_named scope right)) x made in
    let h : BothGood (cond.Compare k.part) (expression_named scope left) (expression_named scope right) x =
    both_good (cond.Compare k.part) (expression_named scope left) (expression_named scope right) x k.made in
    subst (λ (y : Cond). is_condition counts params y ≡ true) h.made
    (both_true (is_expression counts params h.left) (is_expression counts params h.right) (expression_within scope counts params fits left h.left h.left_is) (expression_within scope counts params fits right h.right h.right_is))

pub effect_within : (scope : Scope) (counts : Counts) (params : ℕ) → Fits scope counts params → (e : EffAst) (x : Effect) → effect_named scope e ≡ good x → is_effect counts params x ≡ true
effect_within scope counts params fits (eff_ast.Put pos name args) x made =
    call_within scope counts params fits scope.preds counts.preds fits.preds (effect.Put pos) name args x (both_good (effect.Put pos) (named scope.preds name) (terms_named scope args) x made) (is_effect counts params) (λ n ts. refl)
effect_within scope counts params fits (eff_ast.Change op name args by) x made =
    let g : ChangeGood scope op name args by x = change_good scope op name args by x made in
    subst (λ (y : Effect). is_effect counts params y ≡ true) g.made
    (both_true (is_call counts params counts.funcs g.func g.args) (is_expression counts params g.by)
    (both_true (nat_lt g.func counts.funcs) (are_terms counts params g.args) (named_within scope.funcs name g.func counts.funcs fits.funcs g.func_is) (terms_within scope counts params fits args g.args g.args_are))
    (expression_within scope counts params fits by g.by g.by_is))

-- ---- how many names there are

with_name_most : (b : Bool) (seen : List (List ℕ)) (name : List ℕ) → length (if b then seen else seen ++ name ∷ []) ≤ length seen + 1
with_name_most true seen name = omega arith
with_name_most false seen name = omega (arith, length-append seen (name ∷ []))

with_name_least : (b : Bool) (seen : List (List ℕ)) (name : List ℕ) → length seen ≤ length (if b then seen else seen ++ name ∷ [])
with_name_least true seen name = omega arith
with_name_least false seen name = omega (arith, length-append seen (name ∷ []))

pub sighted_most : (seen names : List (List ℕ)) → length (sighted seen names) ≤ length seen + length names
sighted_most seen [] = omega arith
sighted_most seen (name ∷ names) = omega (arith, with_name_most (is_some (number_in seen name)) seen name, sighted_most (with_name seen name) names)

pub sighted_least : (seen names : List (List ℕ)) → length seen ≤ length (sighted seen names)
sighted_least seen [] = omega arith
sighted_least seen (name ∷ names) = omega (arith, with_name_least (is_some (number_in seen name)) seen name, sighted_least (with_name seen name) names)
