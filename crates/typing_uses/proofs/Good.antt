-- What is without a fault has parts without one.
use Rattle.std.proofs.Common.{◌≡◌, ℕ, suc, Bool, true, false, List, [], ◌∷◌, ◌++◌, length, map, Option, Some, None, refl, sym, ◌∙◌, ap, subst}
use Rattle.std.specs.Prelude.{◌&&◌, ◌||◌}
use Rattle.std.specs.List.{list_all, list_any, flat_map}
use Rattle.name_table.specs.NameTable.{number_in}
use Rattle.pddl_form.specs.declared.fault.Fault.{Fault}
use Rattle.pddl_form.specs.declared.spot.Spot.{Spot}
use Rattle.pddl_form.specs.Judged.{Judged, good, bad, mapped, both, each}
use Rattle.pddl_form.specs.Sections.{and_then}
use Rattle.pddl_form.specs.Gather.{apply}
use Rattle.pddl_condition.specs.declared.expression.ExprAst.{ExprAst}
use Rattle.pddl_task.specs.declared.effect.NumOp.{NumOp}
use Rattle.pddl_task.specs.declared.effect.Effect.{Effect}
use Rattle.pddl_task.specs.declared.effect.Effect.TheVariants as effect
use Rattle.pddl_task.specs.declared.expression.Expr.{Expr}
use Rattle.pddl_task.specs.declared.expression.Term.{Term}
use Rattle.typing_uses.specs.Scope.{Scope, known_as, named, terms_named}
use Rattle.typing_uses.specs.Expressions.{change_operator, change_by, change_named, expression_named}

pub both_true : (a b : Bool) → a ≡ true → b ≡ true → (a && b) ≡ true
both_true a b is also = ap (λ (t : Bool). t && b) is ∙ also

pub record MappedGood {A B : Type 0} (g : A → B) (j : Judged A) (b : B) : Type 0 where
  pub part : A
  pub part_is : j ≡ good part
  pub made : g part ≡ b

pub mapped_good : {A B : Type 0} (g : A → B) (j : Judged A) (b : B) → mapped g j ≡ good b → MappedGood g j b
mapped_good g (good a) b is = record { part = a; part_is = refl; made = cc is }
mapped_good g (bad f more) b is = absurd (cc is)

pub record BothGood {A B C : Type 0} (g : A → B → C) (a : Judged A) (b : Judged B) (c : C) : Type 0 where
  pub left : A
  pub right : B
  pub left_is : a ≡ good left
  pub right_is : b ≡ good right
  pub made : g left right ≡ c

pub both_good : {A B C : Type 0} (g : A → B → C) (a : Judged A) (b : Judged B) (c : C) → both g a b ≡ good c → BothGood g a b c
both_good g (good x) (good y) c is = record { left = x; right = y; left_is = refl; right_is = refl; made = cc is }
both_good g (good x) (bad f more) c is = absurd (cc is)
both_good g (bad f more) b c is = absurd (cc is)

pub record AndThenGood {A B : Type 0} (j : Judged A) (form : A → Judged B) (b : B) : Type 0 where
  pub part : A
  pub part_is : j ≡ good part
  pub made : form part ≡ good b

pub and_then_good : {A B : Type 0} (j : Judged A) (form : A → Judged B) (b : B) → and_then j form ≡ good b → AndThenGood j form b
and_then_good (good a) form b is = record { part = a; part_is = refl; made = is }
and_then_good (bad f more) form b is = absurd (cc is)

pub record KnownGood {A B : Type 0} (o : Option A) (next : A → Judged B) (b : B) : Type 0 where
  pub part : A
  pub part_is : o ≡ Some part
  pub made : next part ≡ good b

pub known_good : {A B : Type 0} (spot : Spot) (o : Option A) (next : A → Judged B) (b : B) → known_as spot o next ≡ good b → KnownGood o next b
known_good spot None next b is = absurd (cc is)
known_good spot (Some a) next b is = record { part = a; part_is = refl; made = is }

-- a name in use is there
pub number_of : (names : List (List ℕ)) (spot : Spot) (n : ℕ) → named names spot ≡ good n → number_in names spot.text ≡ Some n
unfolding named
number_of names spot n is =
    let h : KnownGood (number_in names spot.text) good n = known_good spot (number_in names spot.text) good n is in
    let same : h.part ≡ n = cc (h.made) in
    h.part_is ∙ ap Some same

-- a test that all parts without a fault pass
pub each_passes : {X A : Type 0} (form : X → Judged A) (test : A → Bool) → ((x : X) (a : A) → form x ≡ good a → test a ≡ true) → (xs : List X) (made : List A) → each (map form xs) ≡ good made → list_all test made ≡ true
each_passes {A = A} form test passes [] made is = let none : [] ≡ made = cc is in subst (λ (l : List A). list_all test l ≡ true) none refl
each_passes {A = A} form test passes (x ∷ xs) made is =
    let h : BothGood ◌∷◌ (form x) (each (map form xs)) made = both_good ◌∷◌ (form x) (each (map form xs)) made is in
    subst (λ (l : List A). list_all test l ≡ true) h.made
    (both_true (test h.left) (list_all test h.right) (passes x h.left h.left_is) (each_passes form test passes xs h.right h.right_is))

pub each_counts : {X A : Type 0} (form : X → Judged A) (xs : List X) (made : List A) → each (map form xs) ≡ good made → length made ≡ length xs
each_counts {A = A} form [] made is = let none : [] ≡ made = cc is in ap length (sym none)
each_counts {A = A} form (x ∷ xs) made is =
    let h : BothGood ◌∷◌ (form x) (each (map form xs)) made = both_good ◌∷◌ (form x) (each (map form xs)) made is in
    ap length (sym h.made) ∙ ap (λ n. suc n) (each_counts form xs h.right h.right_is)

-- a test of the parts as they are written, and one of what they come to
pub each_any : {X A : Type 0} (form : X → Judged A) (test : X → Bool) (other : A → Bool) → ((x : X) (a : A) → form x ≡ good a → test x ≡ other a) → (xs : List X) (made : List A) → each (map form xs) ≡ good made
    → list_any test xs ≡ list_any other made
each_any {A = A} form test other same [] made is = let none : [] ≡ made = cc is in subst (λ (l : List A). false ≡ list_any other l) none refl
each_any {A = A} form test other same (x ∷ xs) made is =
    let h : BothGood ◌∷◌ (form x) (each (map form xs)) made = both_good ◌∷◌ (form x) (each (map form xs)) made is in
    ap (λ (b : Bool). b || list_any test xs) (same x h.left h.left_is) ∙ ap (λ (b : Bool). other h.left || b) (each_any form test other same xs h.right h.right_is)
    ∙ ap (list_any other) h.made

-- where lists of faults are empty, each is
pub front_empty : {A : Type 0} (fs gs : List A) → fs ++ gs ≡ [] → fs ≡ []
front_empty [] gs none = refl
front_empty (f ∷ fs) gs none = absurd (cc none)

pub rest_empty : {A : Type 0} (fs gs : List A) → fs ++ gs ≡ [] → gs ≡ []
rest_empty [] gs none = none
rest_empty (f ∷ fs) gs none = absurd (cc none)

-- a test that all parts without a fault of another kind pass
pub each_faultless : {X A : Type 0} (form : X → Judged A) (faults : X → List Fault) (test : A → Bool) → ((x : X) (a : A) → form x ≡ good a → faults x ≡ [] → test a ≡ true)
    → (xs : List X) (made : List A) → each (map form xs) ≡ good made → flat_map faults xs ≡ [] → list_all test made ≡ true
each_faultless {A = A} form faults test passes [] made is none = let empty : [] ≡ made = cc is in subst (λ (l : List A). list_all test l ≡ true) empty refl
each_faultless {A = A} form faults test passes (x ∷ xs) made is none =
    let h : BothGood ◌∷◌ (form x) (each (map form xs)) made = both_good ◌∷◌ (form x) (each (map form xs)) made is in
    subst (λ (l : List A). list_all test l ≡ true) h.made
    (both_true (test h.left) (list_all test h.right) (passes x h.left h.left_is (front_empty (faults x) (flat_map faults xs) none))
    (each_faultless form faults test passes xs h.right h.right_is (rest_empty (faults x) (flat_map faults xs) none)))

-- the parts of a change
pub record ChangeGood (scope : Scope) (op name : Spot) (spots : List Spot) (written : ExprAst) (x : Effect) : Type 0 where
  pub operator : NumOp
  pub func : ℕ
  pub args : List Term
  pub by : Expr
  pub operator_is : change_operator op.text ≡ Some operator
  pub func_is : named scope.funcs name ≡ good func
  pub args_are : terms_named scope spots ≡ good args
  pub by_is : expression_named scope written ≡ good by
  pub made : effect.Change operator func args by ≡ x

pub change_good : (scope : Scope) (op name : Spot) (spots : List Spot) (written : ExprAst) (x : Effect) → change_named scope op name spots written ≡ good x → ChangeGood scope op name spots written x
change_good scope op name spots written x made =
    let o : KnownGood (change_operator op.text) (λ k. both apply (both (change_by k) (named scope.funcs name) (terms_named scope spots)) (expression_named scope written)) x =
    known_good op (change_operator op.text) (λ k. both apply (both (change_by k) (named scope.funcs name) (terms_named scope spots)) (expression_named scope written)) x made in
    let h : BothGood apply (both (change_by o.part) (named scope.funcs name) (terms_named scope spots)) (expression_named scope written) x =
    both_good apply (both (change_by o.part) (named scope.funcs name) (terms_named scope spots)) (expression_named scope written) x o.made in
    let k : BothGood (change_by o.part) (named scope.funcs name) (terms_named scope spots) h.left = both_good (change_by o.part) (named scope.funcs name) (terms_named scope spots) h.left h.left_is in
    record {
      operator = o.part;
      func = k.left;
      args = k.right;
      by = h.right;
      operator_is = o.part_is;
      func_is = k.left_is;
      args_are = k.right_is;
      by_is = h.right_is;
      made = ap (λ (f : Expr → Effect). f h.right) k.made ∙ h.made;
    }
