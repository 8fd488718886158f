-- What is written is linear where what it resolves to is: changing functions by name and by number, expressions, conditions,
-- effects, actions.
use Rattle.std.proofs.Common.{◌≡◌, ℕ, suc, ◌<◌, Bool, true, false, cond, ◌+◌, List, [], ◌∷◌, ◌++◌, length, map, get_or, Option, Some, None, refl, sym, ◌∙◌, ap, subst, arith}
use Rattle.std.proofs.lemmas.Bool.Decides.{nat_tests}
use Rattle.std.proofs.lemmas.List.Folds.{flat_map-map}
use Rattle.std.proofs.lemmas.List.Sums.{sum_by-cons}
use Rattle.std.proofs.lemmas.List.Quantifiers.{position-Some}
use Rattle.std.proofs.lemmas.Slice.Eq.{bytes_eq-Decides}
use Rattle.std.specs.Prelude.{not, ◌&&◌, ◌||◌, ◌==◌, bytes_eq, codes, count_by, nat_le, if◌then◌else◌}
use Rattle.std.specs.List.{list_any, list_all, flat_map}
use Rattle.rational.specs.Fraction.{Fraction}
use Rattle.name_table.specs.NameTable.{number_in}
use Rattle.pddl_form.specs.declared.fault.Fault.{Fault}
use Rattle.pddl_form.specs.declared.spot.Spot.{Spot}
use Rattle.pddl_form.specs.Judged.{Judged, good, both, each}
use Rattle.pddl_condition.specs.declared.expression.ExprAst.{ExprAst}
use Rattle.pddl_condition.specs.declared.expression.ExprAst.TheVariants as ast
use Rattle.pddl_condition.specs.declared.condition.CondAst.{CondAst}
use Rattle.pddl_condition.specs.declared.condition.CondAst.TheVariants as cond_ast
use Rattle.pddl_domain.specs.declared.effect.EffAst.{EffAst}
use Rattle.pddl_domain.specs.declared.effect.EffAst.TheVariants as eff_ast
use Rattle.pddl_domain.specs.declared.action.ActionAst.{ActionAst}
use Rattle.pddl_task.specs.declared.action.Action.{Action}
use Rattle.pddl_task.specs.declared.condition.Cond.{Cond}
use Rattle.pddl_task.specs.declared.condition.Cond.TheVariants as task_cond
use Rattle.pddl_task.specs.declared.effect.Effect.{Effect}
use Rattle.pddl_task.specs.declared.effect.Effect.TheVariants as effect
use Rattle.pddl_task.specs.declared.effect.NumOp.{NumOp}
use Rattle.pddl_task.specs.declared.effect.NumOp.TheVariants as num_op
use Rattle.pddl_task.specs.declared.expression.Term.{Term}
use Rattle.pddl_task.specs.declared.expression.Expr.{Expr}
use Rattle.pddl_task.specs.declared.expression.Expr.TheVariants as expr
use Rattle.pddl_task.specs.Task.{changes_func, is_changing_func}
use Rattle.pddl_task.specs.Linear.{Linearity, linearity, any_reads, all_linear, one_reads, linearity_step, linearity_of, is_linear_condition, is_scale, is_linear_effect, is_linear_action}
use Rattle.pddl_task.proofs.Written.{fold-Num, fold-Call, fold-Add, fold-Mul, fold-Neg, fold-Sub, fold-Div}
use Rattle.typing_uses.specs.Scope.{Scope, named, term_named, terms_named}
use Rattle.typing_uses.specs.Expressions.{minus, over, operation, operation_named, expression_named, relation, comparison_named, condition_named, conditions_named, change_operator, effect_named, effects_named}
use Rattle.typing_uses.proofs.Written.{every_expression}
use Rattle.typing_uses.proofs.ExpressionLaws.{expression_named-num, expression_named-call, expression_named-op}
use Rattle.typing_uses.proofs.Good.{BothGood, both_good, both_true, AndThenGood, and_then_good, KnownGood, known_good, number_of, each_any, front_empty, rest_empty, each_faultless, ChangeGood, change_good}
use Rattle.typing_names.specs.Domain.{within, action_named, actions_named}
use Rattle.typing_names.proofs.GoodParts.{ActionGood, action_good}
use Rattle.typing_linear.specs.Linear.{changes, is_changing, Reading, reading, is_nonlinear, is_nonlinear_product, reading_of, scales, not_linear, condition_nonlinearities, effect_nonlinearities, action_nonlinearities, domain_nonlinearities, goal_nonlinearities}
use Rattle.typing_linear.specs.Reads.{operation_faults, readings_of}
use Rattle.typing_linear.specs.Laws.{is_faultless, IsAlike, ReadsAlike}
use Rattle.typing_linear.proofs.Reading.{reading_of-Num, reading_of-Call, reading_of-Op}

-- ---- changing functions, by name and by number

-- two names of a list are the same where their numbers are
same_name : (names : List (List ℕ)) (v w : List ℕ) (n : ℕ) → number_in names v ≡ Some n → number_in names w ≡ Some n → v ≡ w
same_name names v w n is also =
    (bytes_eq-Decides v (get_or names n [])).0 (position-Some (bytes_eq v) names n [] is).1
    ∙ sym ((bytes_eq-Decides w (get_or names n [])).0 (position-Some (bytes_eq w) names n [] also).1)

own : (n : ℕ) → (n == n) ≡ true
own n = grind (arith, nat_tests)

same_number : (names : List (List ℕ)) (v w : List ℕ) (n m : ℕ) → number_in names v ≡ Some n → number_in names w ≡ Some m → bytes_eq v w ≡ (n == m)
same_number names v w n m is also = by_test (bytes_eq v w) (n == m) refl refl
  where
    by_test : (a b : Bool) → bytes_eq v w ≡ a → (n == m) ≡ b → a ≡ b
    by_test true true p q = refl
    by_test false false p q = refl
    by_test true false p q =
        let same : n ≡ m = cc (sym is ∙ ap (number_in names) ((bytes_eq-Decides v w).0 p) ∙ also) in
        absurd (cc (sym (own m) ∙ sym (ap (λ (k : ℕ). k == m) same) ∙ q))
    by_test false true p q =
        let same : n ≡ m = grind (arith, nat_tests) in
        absurd (cc (sym p ∙ (bytes_eq-Decides v w).1 (same_name names v w m (is ∙ ap Some same) also)))

module _ (scope : Scope) (text : List ℕ) (func : ℕ) (found : number_in scope.funcs text ≡ Some func) where
  changes_alike : (inner : Scope) → inner.funcs ≡ scope.funcs → (e : EffAst) (x : Effect) → effect_named inner e ≡ good x → changes text e ≡ changes_func func x
  changes_alike inner same (eff_ast.Put pos name args) x made =
      let h : BothGood (effect.Put pos) (named inner.preds name) (terms_named inner args) x = both_good (effect.Put pos) (named inner.preds name) (terms_named inner args) x made in
      ap (changes_func func) h.made
  changes_alike inner same (eff_ast.Change op name args by) x made =
      let h : ChangeGood inner op name args by x = change_good inner op name args by x made in
      same_number scope.funcs name.text text h.func func (ap (λ (names : List (List ℕ)). number_in names name.text) (sym same) ∙ number_of inner.funcs name h.func h.func_is) found
      ∙ ap (changes_func func) h.made

  -- a function is changing where its number is
  pub changing_alike : (actions : List ActionAst) (made : List Action) → actions_named scope actions ≡ good made → is_changing actions text ≡ is_changing_func made func
  changing_alike actions made is =
      each_any (action_named scope) (λ (a : ActionAst). list_any (changes text) a.effs) (λ (a : Action). list_any (changes_func func) a.effs)
      (λ a x said. let h : ActionGood scope a x = action_good scope a x said in
      each_any (effect_named (within scope a.params)) (changes text) (changes_func func) (changes_alike (within scope a.params) refl) a.effs x.effs h.effs)
      actions made is

-- ---- what the linearity of an expression is by that of its parts

module _ (changing : ℕ → Bool) where
  abbrev lin : Expr → Linearity
  lin e = linearity_of changing e

  lin-Num : (n : Fraction) → lin (expr.Num n) ≡ linearity false true
  unfolding linearity_of
  lin-Num n = fold-Num Linearity (linearity_step changing) n

  lin-Call : (func : ℕ) (args : List Term) → lin (expr.Call func args) ≡ linearity (changing func) true
  unfolding linearity_of
  lin-Call func args = fold-Call Linearity (linearity_step changing) func args

  lin-Add : (args : List Expr) → lin (expr.Add args) ≡ linearity (any_reads (map (linearity_of changing) args)) (all_linear (map (linearity_of changing) args))
  unfolding linearity_of
  lin-Add args = fold-Add Linearity (linearity_step changing) args

  lin-Mul : (args : List Expr) → lin (expr.Mul args) ≡ linearity (any_reads (map (linearity_of changing) args)) (one_reads (map (linearity_of changing) args) && all_linear (map (linearity_of changing) args))
  unfolding linearity_of
  lin-Mul args = fold-Mul Linearity (linearity_step changing) args

  lin-Neg : (a : Expr) → lin (expr.Neg a) ≡ linearity (lin a).reads (lin a).linear
  unfolding linearity_of
  lin-Neg a = fold-Neg Linearity (linearity_step changing) a

  lin-Sub : (a b : Expr) → lin (expr.Sub a b) ≡ linearity ((lin a).reads || (lin b).reads) ((lin a).linear && (lin b).linear)
  unfolding linearity_of
  lin-Sub a b = fold-Sub Linearity (linearity_step changing) a b

  lin-Div : (a b : Expr) → lin (expr.Div a b) ≡ linearity ((lin a).reads || (lin b).reads) (not (lin b).reads && ((lin a).linear && (lin b).linear))
  unfolding linearity_of
  lin-Div a b = fold-Div Linearity (linearity_step changing) a b

-- ---- readings and linearities one by one

abbrev AreAlike : List Reading → List Linearity → Type 0
AreAlike [] [] = Unit {0}
AreAlike [] (l ∷ ls) = ⊥
AreAlike (r ∷ rs) [] = ⊥
AreAlike (r ∷ rs) (l ∷ ls) = IsAlike r l × AreAlike rs ls

any_alike : (rs : List Reading) (ls : List Linearity) → AreAlike rs ls → list_any (λ r. r.reads) rs ≡ any_reads ls
any_alike [] [] same = refl
any_alike [] (l ∷ ls) same = absurd same
any_alike (r ∷ rs) [] same = absurd same
any_alike (r ∷ rs) (l ∷ ls) same = ap (λ (b : Bool). b || list_any (λ x. x.reads) rs) same.0.reads ∙ ap (λ (b : Bool). l.reads || b) (any_alike rs ls same.1)

counts_alike : (rs : List Reading) (ls : List Linearity) → AreAlike rs ls → count_by (λ r. r.reads) rs ≡ count_by (λ l. l.reads) ls
counts_alike [] [] same = refl
counts_alike [] (l ∷ ls) same = absurd same
counts_alike (r ∷ rs) [] same = absurd same
counts_alike (r ∷ rs) (l ∷ ls) same =
    sum_by-cons (λ (x : Reading). cond x.reads 1 0) r rs ∙ ap (λ (b : Bool). cond b 1 0 + count_by (λ x. x.reads) rs) same.0.reads
    ∙ ap (λ (n : ℕ). cond l.reads 1 0 + n) (counts_alike rs ls same.1) ∙ sym (sum_by-cons (λ (x : Linearity). cond x.reads 1 0) l ls)

abbrev are_faultless : List Reading → Bool
are_faultless rs = list_all (λ r. is_faultless r.faults) rs

all_alike : (rs : List Reading) (ls : List Linearity) → AreAlike rs ls → are_faultless rs ≡ all_linear ls
all_alike [] [] same = refl
all_alike [] (l ∷ ls) same = absurd same
all_alike (r ∷ rs) [] same = absurd same
all_alike (r ∷ rs) (l ∷ ls) same = ap (λ (b : Bool). b && are_faultless rs) same.0.linear ∙ ap (λ (b : Bool). l.linear && b) (all_alike rs ls same.1)

faultless-append : (fs gs : List Fault) → is_faultless (fs ++ gs) ≡ (is_faultless fs && is_faultless gs)
faultless-append [] gs = refl
faultless-append (f ∷ fs) gs = refl

faultless-all : (rs : List Reading) → is_faultless (flat_map (λ r. r.faults) rs) ≡ are_faultless rs
faultless-all [] = refl
faultless-all (r ∷ rs) = faultless-append r.faults (flat_map (λ x. x.faults) rs) ∙ ap (λ (b : Bool). is_faultless r.faults && b) (faultless-all rs)

own_faultless : (b : Bool) (f : Fault) → is_faultless (if b then f ∷ [] else []) ≡ not b
own_faultless true f = refl
own_faultless false f = refl

operation_faultless : (op : Spot) (rs : List Reading) → is_faultless (operation_faults op rs) ≡ (not (is_nonlinear op.text rs) && are_faultless rs)
operation_faultless op rs =
    faultless-append (if is_nonlinear op.text rs then not_linear op.place ∷ [] else []) (flat_map (λ r. r.faults) rs)
    ∙ ap (λ (b : Bool). b && is_faultless (flat_map (λ r. r.faults) rs)) (own_faultless (is_nonlinear op.text rs) (not_linear op.place))
    ∙ ap (λ (b : Bool). not (is_nonlinear op.text rs) && b) (faultless-all rs)

-- ---- an operation, by its operator

or_false : (b : Bool) → (b || false) ≡ b
or_false true = refl
or_false false = refl

and_true : (b : Bool) → (b && true) ≡ b
and_true true = refl
and_true false = refl

one_at_most : (n : ℕ) → not (nat_le 2 n || false) ≡ nat_le n 1
one_at_most n = by_test (nat_le 2 n) (nat_le n 1) refl refl
  where
    by_test : (a b : Bool) → nat_le 2 n ≡ a → nat_le n 1 ≡ b → not (a || false) ≡ b
    by_test true false p q = refl
    by_test false true p q = refl
    by_test true true p q = absurd (grind (arith, nat_tests))
    by_test false false p q = absurd (grind (arith, nat_tests))

record OperationAlike (op : List ℕ) (rs : List Reading) (l : Linearity) : Type 0 where
  pub reads : list_any (λ r. r.reads) rs ≡ l.reads
  pub linear : (not (is_nonlinear op rs) && are_faultless rs) ≡ l.linear

module _ (changing : ℕ → Bool) where
  abbrev lins : List Expr → List Linearity
  lins args = map (linearity_of changing) args

  -- what an operator makes of arguments that are alike
  abbrev IsMade : List ℕ → Type 0
  IsMade op = (args : List Expr) (rs : List Reading) (x : Expr) → AreAlike rs (lins args) → operation op args ≡ Some x → OperationAlike op rs (linearity_of changing x)

  product_made : IsMade (codes "*")
  product_made args rs x same made =
      let is : expr.Mul args ≡ x = cc made in
      subst (λ (y : Expr). OperationAlike (codes "*") rs (linearity_of changing y)) is
      (subst (OperationAlike (codes "*") rs) (sym (lin-Mul changing args))
      (record {
        reads = any_alike rs (lins args) same;
        linear = ap (λ (b : Bool). b && are_faultless rs) (one_at_most (count_by (λ r. r.reads) rs)) ∙ ap (λ (n : ℕ). nat_le n 1 && are_faultless rs) (counts_alike rs (lins args) same)
            ∙ ap (λ (b : Bool). one_reads (lins args) && b) (all_alike rs (lins args) same);
      }))

  sum_made : IsMade (codes "+")
  sum_made args rs x same made =
      let is : expr.Add args ≡ x = cc made in
      subst (λ (y : Expr). OperationAlike (codes "+") rs (linearity_of changing y)) is
      (subst (OperationAlike (codes "+") rs) (sym (lin-Add changing args)) (record { reads = any_alike rs (lins args) same; linear = all_alike rs (lins args) same }))

  two_read : (r s : Reading) (a b : Linearity) → IsAlike r a → IsAlike s b → (r.reads || (s.reads || false)) ≡ (a.reads || b.reads)
  two_read r s a b p q = ap (λ (t : Bool). r.reads || t) (or_false s.reads) ∙ ap (λ (t : Bool). t || s.reads) p.reads ∙ ap (λ (t : Bool). a.reads || t) q.reads

  two_linear : (r s : Reading) (a b : Linearity) → IsAlike r a → IsAlike s b → (is_faultless r.faults && (is_faultless s.faults && true)) ≡ (a.linear && b.linear)
  two_linear r s a b p q =
      ap (λ (t : Bool). is_faultless r.faults && t) (and_true (is_faultless s.faults)) ∙ ap (λ (t : Bool). t && is_faultless s.faults) p.linear ∙ ap (λ (t : Bool). a.linear && t) q.linear

  difference_made : IsMade (codes "-")
  difference_made [] rs x same made = absurd (cc made)
  difference_made (a ∷ []) [] x same made = absurd same
  difference_made (a ∷ []) (r ∷ []) x same made =
      let is : expr.Neg a ≡ x = cc made in
      subst (λ (y : Expr). OperationAlike (codes "-") (r ∷ []) (linearity_of changing y)) is
      (subst (OperationAlike (codes "-") (r ∷ [])) (sym (lin-Neg changing a))
      (record { reads = or_false r.reads ∙ same.0.reads; linear = and_true (is_faultless r.faults) ∙ same.0.linear }))
  difference_made (a ∷ []) (r ∷ s ∷ rs) x same made = absurd same.1
  difference_made (a ∷ b ∷ []) [] x same made = absurd same
  difference_made (a ∷ b ∷ []) (r ∷ []) x same made = absurd same.1
  difference_made (a ∷ b ∷ []) (r ∷ s ∷ []) x same made =
      let is : expr.Sub a b ≡ x = cc made in
      subst (λ (y : Expr). OperationAlike (codes "-") (r ∷ s ∷ []) (linearity_of changing y)) is
      (subst (OperationAlike (codes "-") (r ∷ s ∷ [])) (sym (lin-Sub changing a b))
      (record { reads = two_read r s (linearity_of changing a) (linearity_of changing b) same.0 same.1.0; linear = two_linear r s (linearity_of changing a) (linearity_of changing b) same.0 same.1.0 }))
  difference_made (a ∷ b ∷ []) (r ∷ s ∷ t ∷ rs) x same made = absurd same.1.1
  difference_made (a ∷ b ∷ c ∷ more) rs x same made = absurd (cc made)

  quotient_made : IsMade (codes "/")
  quotient_made [] rs x same made = absurd (cc made)
  quotient_made (a ∷ []) rs x same made = absurd (cc made)
  quotient_made (a ∷ b ∷ []) [] x same made = absurd same
  quotient_made (a ∷ b ∷ []) (r ∷ []) x same made = absurd same.1
  quotient_made (a ∷ b ∷ []) (r ∷ s ∷ []) x same made =
      let is : expr.Div a b ≡ x = cc made in
      subst (λ (y : Expr). OperationAlike (codes "/") (r ∷ s ∷ []) (linearity_of changing y)) is
      (subst (OperationAlike (codes "/") (r ∷ s ∷ [])) (sym (lin-Div changing a b))
      (record {
        reads = two_read r s (linearity_of changing a) (linearity_of changing b) same.0 same.1.0;
        linear = ap (λ (t : Bool). not t && (is_faultless r.faults && (is_faultless s.faults && true))) same.1.0.reads
            ∙ ap (λ (t : Bool). not (linearity_of changing b).reads && t) (two_linear r s (linearity_of changing a) (linearity_of changing b) same.0 same.1.0);
      }))
  quotient_made (a ∷ b ∷ []) (r ∷ s ∷ t ∷ rs) x same made = absurd same.1.1
  quotient_made (a ∷ b ∷ c ∷ more) rs x same made = absurd (cc made)

  -- of whatever operator
  operation_made : (op : List ℕ) → IsMade op
  operation_made op = by_test (bytes_eq op (codes "*")) (bytes_eq op (codes "+")) (bytes_eq op (codes "-")) (bytes_eq op (codes "/")) refl refl refl refl
    where
      by_test : (a b c d : Bool) → bytes_eq op (codes "*") ≡ a → bytes_eq op (codes "+") ≡ b → bytes_eq op (codes "-") ≡ c → bytes_eq op (codes "/") ≡ d → IsMade op
      by_test true b c d p q u v = subst IsMade (sym ((bytes_eq-Decides op (codes "*")).0 p)) product_made
      by_test false true c d p q u v = subst IsMade (sym ((bytes_eq-Decides op (codes "+")).0 q)) sum_made
      by_test false false true d p q u v = subst IsMade (sym ((bytes_eq-Decides op (codes "-")).0 u)) difference_made
      by_test false false false true p q u v = subst IsMade (sym ((bytes_eq-Decides op (codes "/")).0 v)) quotient_made
      by_test false false false false p q u v = λ args rs x same made. absurd (cc (sym (no_operation args p q u v) ∙ made))
        where
          no_operation : (args : List Expr) → bytes_eq op (codes "*") ≡ false → bytes_eq op (codes "+") ≡ false → bytes_eq op (codes "-") ≡ false → bytes_eq op (codes "/") ≡ false → operation op args ≡ None
          no_operation args p q u v = rw (p, q, u, v)

-- ---- expressions

module _ (scope inner : Scope) (actions : List ActionAst) (made : List Action) (same : inner.funcs ≡ scope.funcs) (are_named : actions_named scope actions ≡ good made) where
  abbrev changing : ℕ → Bool
  changing func = is_changing_func made func

  abbrev IsRead : ExprAst → Type 0
  IsRead e = (x : Expr) → expression_named inner e ≡ good x → IsAlike (reading_of actions e) (linearity_of (is_changing_func made) x)

  number_read : (n : Fraction) → IsRead (ast.Num n)
  number_read n x is =
      let made_of : expr.Num n ≡ x = cc (sym (expression_named-num inner n) ∙ is) in
      subst (λ (y : Expr). IsAlike (reading_of actions (ast.Num n)) (linearity_of (is_changing_func made) y)) made_of
      (subst (λ (r : Reading). IsAlike r (linearity_of (is_changing_func made) (expr.Num n))) (sym (reading_of-Num actions n))
      (subst (IsAlike (reading false [])) (sym (lin-Num (is_changing_func made) n)) (record { reads = refl; linear = refl })))

  function_read : (name : Spot) (args : List Spot) → IsRead (ast.Call name args)
  function_read name args x is =
      let h : BothGood expr.Call (named inner.funcs name) (terms_named inner args) x = both_good expr.Call (named inner.funcs name) (terms_named inner args) x (sym (expression_named-call inner name args) ∙ is) in
      let found : number_in scope.funcs name.text ≡ Some h.left = ap (λ (names : List (List ℕ)). number_in names name.text) (sym same) ∙ number_of inner.funcs name h.left h.left_is in
      subst (λ (y : Expr). IsAlike (reading_of actions (ast.Call name args)) (linearity_of (is_changing_func made) y)) h.made
      (subst (λ (r : Reading). IsAlike r (linearity_of (is_changing_func made) (expr.Call h.left h.right))) (sym (reading_of-Call actions name args))
      (subst (IsAlike (reading (is_changing actions name.text) [])) (sym (lin-Call (is_changing_func made) h.left h.right))
      (record { reads = changing_alike scope name.text h.left found actions made are_named; linear = refl })))

  abbrev plain : List ((e : ExprAst) × IsRead e) → List ExprAst
  plain items = map (λ e. e.0) items

  arguments_read : (items : List ((e : ExprAst) × IsRead e)) (xs : List Expr) → each (map (expression_named inner) (plain items)) ≡ good xs → AreAlike (readings_of actions (plain items)) (map (linearity_of (is_changing_func made)) xs)
  arguments_read [] xs is = let none : [] ≡ xs = cc is in subst (λ (l : List Expr). AreAlike [] (map (linearity_of (is_changing_func made)) l)) none tt
  arguments_read (e ∷ items) xs is =
      let h : BothGood ◌∷◌ (expression_named inner e.0) (each (map (expression_named inner) (plain items))) xs =
      both_good ◌∷◌ (expression_named inner e.0) (each (map (expression_named inner) (plain items))) xs is in
      subst (λ (l : List Expr). AreAlike (readings_of actions (plain (e ∷ items))) (map (linearity_of (is_changing_func made)) l)) h.made
      (e.1 h.left h.left_is, arguments_read items h.right h.right_is)

  operation_read : (op : Spot) (items : List ((e : ExprAst) × IsRead e)) → IsRead (ast.Op op (plain items))
  operation_read op items x is =
      let h : AndThenGood (each (map (expression_named inner) (plain items))) (operation_named op) x =
      and_then_good (each (map (expression_named inner) (plain items))) (operation_named op) x (sym (expression_named-op inner op (plain items)) ∙ is) in
      let k : KnownGood (operation op.text h.part) good x = known_good op (operation op.text h.part) good x h.made in
      let made_of : k.part ≡ x = cc (k.made) in
      let alike : OperationAlike op.text (readings_of actions (plain items)) (linearity_of (is_changing_func made) x) =
      operation_made (is_changing_func made) op.text h.part (readings_of actions (plain items)) x (arguments_read items h.part h.part_is) (k.part_is ∙ ap Some made_of) in
      subst (λ (r : Reading). IsAlike r (linearity_of (is_changing_func made) x)) (sym (reading_of-Op actions op (plain items)))
      (record { reads = alike.reads; linear = operation_faultless op (readings_of actions (plain items)) ∙ alike.linear })

  every_read : (e : ExprAst) → IsRead e
  every_read = every_expression IsRead number_read function_read operation_read

pub reads_alike : ReadsAlike
reads_alike scope inner actions made e x same are_named is = every_read scope inner actions made same are_named e x is

-- ---- what has no fault is linear

-- a word scales where the operator that it stands for does
abbrev ScalesAlike : NumOp → List ℕ → Type 0
ScalesAlike operator w = change_operator w ≡ Some operator → scales w ≡ is_scale operator

module _ (scope : Scope) (actions : List ActionAst) (made : List Action) (are_named : actions_named scope actions ≡ good made) where
  expression_linear : (inner : Scope) → inner.funcs ≡ scope.funcs → (e : ExprAst) (x : Expr) → expression_named inner e ≡ good x → (reading_of actions e).faults ≡ [] → (linearity_of (is_changing_func made) x).linear ≡ true
  expression_linear inner same e x is none = sym (reads_alike scope inner actions made e x same are_named is).linear ∙ ap is_faultless none

  pub condition_linear : (inner : Scope) → inner.funcs ≡ scope.funcs → (c : CondAst) (x : Cond) → condition_named inner c ≡ good x → condition_nonlinearities actions c ≡ [] → is_linear_condition (is_changing_func made) x ≡ true
  condition_linear inner same (cond_ast.Lit pos name args) x is none =
      let h : BothGood (task_cond.Lit pos) (named inner.preds name) (terms_named inner args) x = both_good (task_cond.Lit pos) (named inner.preds name) (terms_named inner args) x is in
      ap (is_linear_condition (is_changing_func made)) (sym h.made)
  condition_linear inner same (cond_ast.Same pos left right) x is none = same_linear pos left right x is
    where
      same_linear : (pos : Bool) (left right : Spot) (x : Cond) → condition_named inner (cond_ast.Same pos left right) ≡ good x → is_linear_condition (is_changing_func made) x ≡ true
      same_linear pos left right x is =
          let h : BothGood (task_cond.Same pos) (term_named inner left) (term_named inner right) x = both_good (task_cond.Same pos) (term_named inner left) (term_named inner right) x is in
          ap (is_linear_condition (is_changing_func made)) (sym h.made)
  condition_linear inner same (cond_ast.Compare r left right) x is none =
      let k : KnownGood (relation r.text) (λ o. both (task_cond.Compare o) (expression_named inner left) (expression_named inner right)) x =
      known_good r (relation r.text) (λ o. both (task_cond.Compare o) (expression_named inner left) (expression_named inner right)) x is in
      let h : BothGood (task_cond.Compare k.part) (expression_named inner left) (expression_named inner right) x =
      both_good (task_cond.Compare k.part) (expression_named inner left) (expression_named inner right) x k.made in
      ap (is_linear_condition (is_changing_func made)) (sym h.made)
      ∙ both_true (linearity_of (is_changing_func made) h.left).linear (linearity_of (is_changing_func made) h.right).linear
      (expression_linear inner same left h.left h.left_is (front_empty (reading_of actions left).faults (reading_of actions right).faults none))
      (expression_linear inner same right h.right h.right_is (rest_empty (reading_of actions left).faults (reading_of actions right).faults none))

  -- the operators that scale
  scales_alike : (op : List ℕ) (operator : NumOp) → change_operator op ≡ Some operator → scales op ≡ is_scale operator
  scales_alike op operator is =
      by_test (bytes_eq op (codes "assign")) (bytes_eq op (codes "decrease")) (bytes_eq op (codes "increase")) (bytes_eq op (codes "scale-down")) (bytes_eq op (codes "scale-up")) refl refl refl refl refl
    where
      at_word : (w : List ℕ) → bytes_eq op w ≡ true → ScalesAlike operator w → ScalesAlike operator op
      at_word w p h = subst (ScalesAlike operator) (sym ((bytes_eq-Decides op w).0 p)) h

      by_test : (a b c d e : Bool) → bytes_eq op (codes "assign") ≡ a → bytes_eq op (codes "decrease") ≡ b → bytes_eq op (codes "increase") ≡ c → bytes_eq op (codes "scale-down") ≡ d → bytes_eq op (codes "scale-up") ≡ e → scales op ≡ is_scale operator
      by_test true b c d e p q u v w = at_word (codes "assign") p (λ h. let o : num_op.Assign ≡ operator = cc h in ap is_scale o) is
      by_test false true c d e p q u v w = at_word (codes "decrease") q (λ h. let o : num_op.Decrease ≡ operator = cc h in ap is_scale o) is
      by_test false false true d e p q u v w = at_word (codes "increase") u (λ h. let o : num_op.Increase ≡ operator = cc h in ap is_scale o) is
      by_test false false false true e p q u v w = at_word (codes "scale-down") v (λ h. let o : num_op.ScaleDown ≡ operator = cc h in ap is_scale o) is
      by_test false false false false true p q u v w = at_word (codes "scale-up") w (λ h. let o : num_op.ScaleUp ≡ operator = cc h in ap is_scale o) is
      by_test false false false false false p q u v w = absurd (cc (sym none ∙ is))
        where
          none : change_operator op ≡ None
          none = rw (p, q, u, v, w)

  not_noted : (b : Bool) (f : Fault) → (if b then f ∷ [] else []) ≡ [] → not b ≡ true
  not_noted true f none = absurd (cc none)
  not_noted false f none = refl

  effect_linear : (inner : Scope) → inner.funcs ≡ scope.funcs → (e : EffAst) (x : Effect) → effect_named inner e ≡ good x → effect_nonlinearities actions e ≡ [] → is_linear_effect (is_changing_func made) x ≡ true
  effect_linear inner same (eff_ast.Put pos name args) x is none =
      let h : BothGood (effect.Put pos) (named inner.preds name) (terms_named inner args) x = both_good (effect.Put pos) (named inner.preds name) (terms_named inner args) x is in
      ap (is_linear_effect (is_changing_func made)) (sym h.made)
  effect_linear inner same (eff_ast.Change op name args by) x is none =
      let h : ChangeGood inner op name args by x = change_good inner op name args by x is in
      let own : not (scales op.text && (reading_of actions by).reads) ≡ true =
      not_noted (scales op.text && (reading_of actions by).reads) (not_linear op.place) (front_empty (if scales op.text && (reading_of actions by).reads then not_linear op.place ∷ [] else []) (reading_of actions by).faults none) in
      ap (is_linear_effect (is_changing_func made)) (sym h.made)
      ∙ both_true (not (is_scale h.operator && (linearity_of (is_changing_func made) h.by).reads)) (linearity_of (is_changing_func made) h.by).linear
      (ap (λ (b : Bool). not (b && (linearity_of (is_changing_func made) h.by).reads)) (sym (scales_alike op.text h.operator h.operator_is))
      ∙ ap (λ (b : Bool). not (scales op.text && b)) (sym (reads_alike scope inner actions made by h.by same are_named h.by_is).reads) ∙ own)
      (expression_linear inner same by h.by h.by_is (rest_empty (if scales op.text && (reading_of actions by).reads then not_linear op.place ∷ [] else []) (reading_of actions by).faults none))

  action_linear : (a : ActionAst) (x : Action) → action_named scope a ≡ good x → action_nonlinearities actions a ≡ [] → is_linear_action (is_changing_func made) x ≡ true
  action_linear a x is none =
      let h : ActionGood scope a x = action_good scope a x is in
      both_true (list_all (is_linear_condition (is_changing_func made)) x.conds) (list_all (is_linear_effect (is_changing_func made)) x.effs)
      (each_faultless (condition_named (within scope a.params)) (condition_nonlinearities actions) (is_linear_condition (is_changing_func made)) (condition_linear (within scope a.params) refl) a.conds x.conds h.conds
      (front_empty (flat_map (condition_nonlinearities actions) a.conds) (flat_map (effect_nonlinearities actions) a.effs) none))
      (each_faultless (effect_named (within scope a.params)) (effect_nonlinearities actions) (is_linear_effect (is_changing_func made)) (effect_linear (within scope a.params) refl) a.effs x.effs h.effs
      (rest_empty (flat_map (condition_nonlinearities actions) a.conds) (flat_map (effect_nonlinearities actions) a.effs) none))

  -- the actions are linear where the pass over a domain's linearity finds nothing
  pub actions_linear : domain_nonlinearities actions ≡ [] → list_all (is_linear_action (is_changing_func made)) made ≡ true
  unfolding domain_nonlinearities
  actions_linear none = each_faultless (action_named scope) (action_nonlinearities actions) (is_linear_action (is_changing_func made)) action_linear actions made are_named none

  -- and so is a goal
  pub goal_linear : (inner : Scope) → inner.funcs ≡ scope.funcs → (goal : List CondAst) (xs : List Cond) → conditions_named inner goal ≡ good xs → goal_nonlinearities actions goal ≡ [] → list_all (is_linear_condition (is_changing_func made)) xs ≡ true
  unfolding goal_nonlinearities
  goal_linear inner same goal xs is none = each_faultless (condition_named inner) (condition_nonlinearities actions) (is_linear_condition (is_changing_func made)) (condition_linear inner same) goal xs is none
