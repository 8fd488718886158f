-- What an expression comes to, how deep operations stand in one another, and calls in two steps.
use Rattle.std.proofs.Common.{◌≡◌, ℕ, ◌+◌, ◌<◌, ◌≤◌, Bool, suc, zero, List, [], ◌∷◌, map, length, get_or, Option, Some, None, Result, arith, refl, sym, ◌∙◌, ap, subst}
use Rattle.std.specs.Prelude.{true, slice_get, ◌&&◌}
use Rattle.std.specs.List.{remove, list_all}
use Rattle.std.proofs.lemmas.Bool.{and_parts}
use Rattle.std.specs.declared.alloc.AllocError.{AllocError}
use Rattle.rational.specs.Fraction.{Fraction}
use Rattle.pddl_form.specs.declared.fault.Fault.{Fault}
use Rattle.pddl_form.specs.declared.spot.Spot.{Spot}
use Rattle.pddl_condition.specs.declared.expression.ExprAst.{ExprAst}
use Rattle.pddl_condition.specs.declared.expression.ExprAst.TheVariants as ast
use Rattle.pddl_condition.specs.declared.expression.ExprAst.TheOpen.{ExprAst-F}
use Rattle.pddl_condition.specs.declared.expression.ExprAst.TheFolds.{fold-ExprAst}
use Rattle.pddl_condition.specs.declared.condition.CondAst.{CondAst}
use Rattle.pddl_condition.specs.declared.condition.CondAst.TheVariants as cond_ast
use Rattle.pddl_condition.specs.Grammar.{is_expression, is_condition, is_operation, is_relation}
use Rattle.pddl_condition.proofs.Grammar.{is_expression-Op}
use Rattle.pddl_domain.specs.declared.effect.EffAst.{EffAst}
use Rattle.pddl_domain.specs.declared.effect.EffAst.TheVariants as eff_ast
use Rattle.pddl_domain.specs.Effect.{changes}
use Rattle.pddl_domain.specs.Grammar.{is_effect}
use Rattle.pddl_form.specs.declared.names.Sort.TheVariants as sort
use Rattle.pddl_form.specs.Grammar.{is_call}
use Rattle.pddl_form.specs.Names.{is_one_of}
use Rattle.pddl_form.specs.Judged.{Judged, good, bad, syntax_of, noted, mapped, both, each}
use Rattle.pddl_form.specs.Parts.{pair}
use Rattle.pddl_form.specs.Reading.{IsRead, Reads}
use Rattle.pddl_form.proofs.Depth.{greatest}
use Rattle.pddl_form.proofs.Loops.{read_good, mapped_none, mapped_some}
use Rattle.pddl_task.specs.declared.expression.Expr.{Expr}
use Rattle.pddl_task.specs.declared.expression.Expr.TheVariants as expr
use Rattle.pddl_task.specs.declared.condition.Rel.{Rel}
use Rattle.pddl_task.specs.declared.effect.Effect.{Effect}
use Rattle.pddl_task.specs.declared.effect.NumOp.{NumOp}
use Rattle.pddl_task.specs.declared.condition.Cond.{Cond}
use Rattle.pddl_task.specs.declared.condition.Cond.TheVariants as cond
use Rattle.typing_uses.proofs.Written.{fold-Num, fold-Call, fold-Op}
use Rattle.typing_uses.specs.Scope.{Scope, known_as, named, term_named, terms_named}
use Rattle.pddl_form.specs.Gather.{apply}
use Rattle.pddl_form.specs.Sections.{and_then}
use Rattle.typing_uses.specs.Expressions.{expression_named, expression_step, operation, operation_named, condition_named, relation, comparison_named, change_operator, change_by, change_named}

-- ---- what an expression comes to

pub expression_named-num : (scope : Scope) (n : Fraction) → expression_named scope (ast.Num n) ≡ good (expr.Num n)
unfolding expression_named
expression_named-num scope n = fold-Num (Judged Expr) (expression_step scope) n

pub expression_named-call : (scope : Scope) (name : Spot) (args : List Spot) → expression_named scope (ast.Call name args) ≡ both expr.Call (named scope.funcs name) (terms_named scope args)
unfolding expression_named
expression_named-call scope name args =
    fold-Call (Judged Expr) (expression_step scope) name args

pub expression_named-op : (scope : Scope) (op : Spot) (args : List ExprAst) → expression_named scope (ast.Op op args) ≡ and_then (each (map (expression_named scope) args)) (operation_named op)
unfolding expression_named
expression_named-op scope op args =
    fold-Op (Judged Expr) (expression_step scope) op args

-- ---- depth

abbrev depth_step : ExprAst-F ℕ → ℕ
depth_step (ExprAst-F.Num n) = 0
depth_step (ExprAst-F.Call name args) = 0
depth_step (ExprAst-F.Op op depths) = greatest depths + 1

-- how many operations stand in one another at most
unfoldable pub depth_of : ExprAst → ℕ
depth_of = fold-ExprAst ℕ depth_step

abbrev pub deepest : List ExprAst → ℕ
deepest exprs = greatest (map depth_of exprs)

depth_of-op : (op : Spot) (args : List ExprAst) → depth_of (ast.Op op args) ≡ deepest args + 1
unfolding depth_of
depth_of-op op args = fold-Op ℕ depth_step op args

pub operation_is_deeper : (e : ExprAst) (op : Spot) (args : List ExprAst) → e ≡ ast.Op op args → deepest args < depth_of e
operation_is_deeper e op args is = omega (arith, depth_of-op op args, ap depth_of is)

pub deepest-get : (exprs : List ExprAst) (i : ℕ) (e : ExprAst) → i < length exprs → e ≡ get_or exprs i e → depth_of e ≤ deepest exprs
deepest-get [] i e within is = absurd (omega arith)
deepest-get (d ∷ exprs) zero e within is = omega (arith, ap depth_of is)
deepest-get (d ∷ exprs) (suc i) e within is = omega (arith, deepest-get exprs i e (omega arith) is)

-- ---- an expression of each kind is read

pub reads_number : (scope : Scope) (e : ExprAst) (n : Fraction) (first : Option Fault) → e ≡ ast.Num n → IsRead (expression_named scope e) first first (Some (expr.Num n))
reads_number scope e n first is = subst (λ (j : Judged Expr). IsRead j first first (Some (expr.Num n))) (sym (ap (expression_named scope) is ∙ expression_named-num scope n)) (read_good first (expr.Num n))

pub reads_function : (scope : Scope) (e : ExprAst) (name : Spot) (args said : List Spot) (old new : Option Fault) (r : Result (Option Expr) AllocError)
    → e ≡ ast.Call name args → said ≡ args → Reads (both expr.Call (named scope.funcs name) (terms_named scope said)) old new r → Reads (expression_named scope e) old new r
reads_function scope e name args said old new r is same h =
    subst (λ (j : Judged Expr). Reads j old new r) (ap (λ (spots : List Spot). both expr.Call (named scope.funcs name) (terms_named scope spots)) same ∙ sym (ap (expression_named scope) is ∙ expression_named-call scope name args)) h

pub reads_operation : (scope : Scope) (e : ExprAst) (op : Spot) (args said : List ExprAst) (old new : Option Fault) (r : Result (Option Expr) AllocError)
    → e ≡ ast.Op op args → said ≡ args → Reads (and_then (each (map (expression_named scope) said)) (operation_named op)) old new r → Reads (expression_named scope e) old new r
reads_operation scope e op args said old new r is same h =
    subst (λ (j : Judged Expr). Reads j old new r)
    (ap (λ (exprs : List ExprAst). and_then (each (map (expression_named scope) exprs)) (operation_named op)) same ∙ sym (ap (expression_named scope) is ∙ expression_named-op scope op args)) h

-- ---- an operation, of whose arguments it is known whether they are without a fault

pub operation_faulty : (op : Spot) (j : Judged (List Expr)) (old new : Option Fault) (x : Option (List Expr)) → IsRead j old new x → x ≡ None → IsRead (and_then j (operation_named op)) old new None
unfolding noted
operation_faulty op (good args) old new x h is = absurd (cc (h.syntax_is, is))
operation_faulty op (bad f more) old new x h is = record { syntax_is = refl; first_is = h.first_is }

pub operation_read : (op : Spot) (j : Judged (List Expr)) (old new : Option Fault) (x : Option (List Expr)) (args : List Expr) (e : Expr)
    → IsRead j old new x → x ≡ Some args → operation op.text args ≡ Some e → IsRead (and_then j (operation_named op)) old new (Some e)
unfolding noted
operation_read op (bad f more) old new x args e h is made = absurd (cc (h.syntax_is, is))
operation_read op (good others) old new x args e h is made =
    let same : args ≡ others = cc (h.syntax_is, is) in
    let found : operation op.text others ≡ Some e = ap (operation op.text) (sym same) ∙ made in
    subst (λ (o : Option Expr). IsRead (known_as op o good) old new (Some e)) (sym found) (record { syntax_is = refl; first_is = h.first_is })

-- as many as there are of the arguments
pub arguments_count : {X A : Type 0} (form : X → Judged A) (xs : List X) (old new : Option Fault) (x : Option (List A)) (made : List A)
    → IsRead (each (map form xs)) old new x → x ≡ Some made → length made ≡ length xs
arguments_count {A = A} form xs old new x made h is = each_count form xs made (sym is ∙ h.syntax_is)
  where
    mapped_count : {B : Type 0} (a : B) (j : Judged (List B)) (all : List B) (n : ℕ) → Some all ≡ syntax_of (mapped (λ (l : List B). a ∷ l) j) → ((l : List B) → Some l ≡ syntax_of j → length l ≡ n) → length all ≡ suc n
    mapped_count a (good l) all n is counts = let same : all ≡ a ∷ l = cc in ap length same ∙ ap suc (counts l refl)
    mapped_count a (bad f more) all n is counts = absurd (cc is)

    both_count : {B : Type 0} (i : Judged B) (j : Judged (List B)) (all : List B) (n : ℕ) → Some all ≡ syntax_of (both ◌∷◌ i j) → ((l : List B) → Some l ≡ syntax_of j → length l ≡ n) → length all ≡ suc n
    both_count (good a) j all n is counts = mapped_count a j all n is counts
    both_count (bad f more) j all n is counts = absurd (cc is)

    each_count : {Y B : Type 0} (g : Y → Judged B) (ys : List Y) (all : List B) → Some all ≡ syntax_of (each (map g ys)) → length all ≡ length ys
    each_count g [] all is = let none : all ≡ [] = cc in ap length none
    each_count g (y ∷ ys) all is = both_count (g y) (each (map g ys)) all (length ys) is (each_count g ys)

-- ---- a comparison and a change, of which the relation and the operator are known

pub compared_read : (scope : Scope) (r : Spot) (left right : ExprAst) (known : Rel) (old new : Option Fault) (x : Option Cond)
    → relation r.text ≡ Some known → IsRead (both (cond.Compare known) (expression_named scope left) (expression_named scope right)) old new x → IsRead (comparison_named scope r left right) old new x
compared_read scope r left right known old new x is h =
    subst (λ (o : Option Rel). IsRead (known_as r o (λ k. both (cond.Compare k) (expression_named scope left) (expression_named scope right))) old new x) (sym is) h

pub changed_read : (scope : Scope) (op name : Spot) (args : List Spot) (by : ExprAst) (known : NumOp) (old new : Option Fault) (x : Option Effect)
    → change_operator op.text ≡ Some known → IsRead (both apply (both (change_by known) (named scope.funcs name) (terms_named scope args)) (expression_named scope by)) old new x
    → IsRead (change_named scope op name args by) old new x
changed_read scope op name args by known old new x is h =
    subst (λ (o : Option NumOp). IsRead (known_as op o (λ k. both apply (both (change_by k) (named scope.funcs name) (terms_named scope args)) (expression_named scope by))) old new x) (sym is) h

-- ---- what the grammar says of parts

pub record ComparisonParts (r : Spot) (a b : ExprAst) : Type 0 where
  pub relation : is_relation r.text ≡ true
  pub left : is_expression a ≡ true
  pub right : is_expression b ≡ true

pub comparison_parts : (c : CondAst) (r : Spot) (left right : ExprAst) → c ≡ cond_ast.Compare r left right → is_condition c ≡ true → ComparisonParts r left right
comparison_parts c r left right is all =
    let h = and_parts (is_relation r.text) (is_expression left && is_expression right) (ap is_condition (sym is) ∙ all) in
    let k = and_parts (is_expression left) (is_expression right) h.1 in
    record { relation = h.0; left = k.0; right = k.1 }

pub record ChangeParts (op : Spot) (amount : ExprAst) : Type 0 where
  pub operator : is_one_of changes op.text ≡ true
  pub by : is_expression amount ≡ true

pub change_parts : (e : EffAst) (op name : Spot) (args : List Spot) (by : ExprAst) → e ≡ eff_ast.Change op name args by → is_effect e ≡ true → ChangeParts op by
change_parts e op name args by is all =
    let h = and_parts (is_one_of changes op.text) (is_call sort.Term name args && is_expression by) (ap is_effect (sym is) ∙ all) in
    record { operator = h.0; by = (and_parts (is_call sort.Term name args) (is_expression by) h.1).1 }

pub record OperationParts (op : Spot) (args : List ExprAst) : Type 0 where
  pub operation : is_operation op.text (length args) ≡ true
  pub arguments : list_all is_expression args ≡ true

pub operation_parts : (e : ExprAst) (op : Spot) (args said : List ExprAst) → e ≡ ast.Op op args → said ≡ args → is_expression e ≡ true → OperationParts op said
operation_parts e op args said is same all =
    let h = and_parts (is_operation op.text (length args)) (list_all is_expression args) (sym (is_expression-Op op args) ∙ ap is_expression (sym is) ∙ all) in
    subst (OperationParts op) (sym same) (record { operation = h.0; arguments = h.1 })

-- one of some for which a test holds passes it
pub one_passes : {A : Type 0} (test : A → Bool) (xs : List A) (i : ℕ) (x : A) → list_all test xs ≡ true → i < length xs → x ≡ get_or xs i x → test x ≡ true
one_passes test [] i x all within is = absurd (omega arith)
one_passes test (y ∷ xs) zero x all within is = ap test is ∙ (and_parts (test y) (list_all test xs) all).0
one_passes test (y ∷ xs) (suc i) x all within is = one_passes test xs i x (and_parts (test y) (list_all test xs) all).1 (omega arith) is

-- ---- the first of some items, taken away

pub taken_first : {A : Type 0} (xs : List A) (x : A) → (xs ≡ [] → ⊥) → slice_get xs 0 ≡ Some x → xs ≡ x ∷ remove xs 0
taken_first [] x some is = absurd (some refl)
taken_first (y ∷ xs) x some is = ap (λ z. z ∷ xs) (cc is)

-- ---- calls in two steps

abbrev pub of_pair : {A B C : Type 0} → (A → B → C) → A × B → C
of_pair f p = f p.0 p.1

mapped_pair : {A B C : Type 0} (f : A → B → C) (a : A) (j : Judged B) → mapped (f a) j ≡ mapped (of_pair f) (mapped (pair a) j)
mapped_pair f a (good b) = refl
mapped_pair f a (bad g more) = refl

pub both_pair : {A B C : Type 0} (f : A → B → C) (a : Judged A) (b : Judged B) → both f a b ≡ mapped (of_pair f) (both pair a b)
both_pair f (good a) b = mapped_pair f a b
both_pair f (bad g more) b = refl

pub paired_none : {A B C : Type 0} (f : A → B → C) (a : Judged A) (b : Judged B) (old new : Option Fault) (x : Option (A × B))
    → IsRead (both pair a b) old new x → x ≡ None → IsRead (both f a b) old new None
paired_none {C = C} f a b old new x h is = subst (λ (j : Judged C). IsRead j old new None) (sym (both_pair f a b)) (mapped_none (of_pair f) (both pair a b) old new x h is)

pub paired_some : {A B C : Type 0} (f : A → B → C) (a : Judged A) (b : Judged B) (old new : Option Fault) (x : Option (A × B)) (u : A) (v : B) (w : C)
    → IsRead (both pair a b) old new x → x ≡ Some (u, v) → w ≡ f u v → IsRead (both f a b) old new (Some w)
paired_some {C = C} f a b old new x u v w h is same = subst (λ (j : Judged C). IsRead j old new (Some w)) (sym (both_pair f a b)) (mapped_some (of_pair f) (both pair a b) old new x (u, v) w h is same)

-- three parts
abbrev pub of_pairs : {A B C D : Type 0} → (A → B → C → D) → (A × B) × C → D
of_pairs f p = f p.0.0 p.0.1 p.1

pub both_pairs : {A B C D : Type 0} (f : A → B → C → D) (a : Judged A) (b : Judged B) (c : Judged C) → both apply (both f a b) c ≡ mapped (of_pairs f) (both pair (both pair a b) c)
both_pairs f (good a) (good b) (good c) = refl
both_pairs f (good a) (good b) (bad g more) = refl
both_pairs f (good a) (bad g more) c = refl
both_pairs f (bad g more) b c = refl

pub changed_none : {A B C D : Type 0} (f : A → B → C → D) (a : Judged A) (b : Judged B) (c : Judged C) (old new : Option Fault) (x : Option ((A × B) × C))
    → IsRead (both pair (both pair a b) c) old new x → x ≡ None → IsRead (both apply (both f a b) c) old new None
changed_none {D = D} f a b c old new x h is = subst (λ (j : Judged D). IsRead j old new None) (sym (both_pairs f a b c)) (mapped_none (of_pairs f) (both pair (both pair a b) c) old new x h is)

pub changed_some : {A B C D : Type 0} (f : A → B → C → D) (a : Judged A) (b : Judged B) (c : Judged C) (old new : Option Fault) (x : Option ((A × B) × C)) (u : A × B) (v : C) (w : D)
    → IsRead (both pair (both pair a b) c) old new x → x ≡ Some (u, v) → w ≡ f u.0 u.1 v → IsRead (both apply (both f a b) c) old new (Some w)
changed_some {D = D} f a b c old new x u v w h is same =
    subst (λ (j : Judged D). IsRead j old new (Some w)) (sym (both_pairs f a b c)) (mapped_some (of_pairs f) (both pair (both pair a b) c) old new x (u, v) w h is same)

-- ---- an equality of objects

pub reads_same : (scope : Scope) (c : CondAst) (pos : Bool) (left right : Spot) (old new : Option Fault) (x : Option Cond)
    → c ≡ cond_ast.Same pos left right → IsRead (both (cond.Same pos) (term_named scope left) (term_named scope right)) old new x → IsRead (condition_named scope c) old new x
reads_same scope c pos left right old new x is h = subst (λ (a : CondAst). IsRead (condition_named scope a) old new x) (sym is) h
