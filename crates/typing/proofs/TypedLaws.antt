-- What has no fault of types fits where it stands in the task.
use Rattle.std.proofs.Common.{◌≡◌, ℕ, zero, suc, ◌+◌, ◌<◌, ◌≤◌, Bool, true, false, List, [], ◌∷◌, ◌++◌, length, map, Option, Some, None, arith, refl, sym, ◌∙◌, ap, subst}
use Rattle.std.specs.Prelude.{◌&&◌, ◌==◌, nat_lt, slice_get, unwrap_or, option_and_then, if◌then◌else◌}
use Rattle.std.specs.List.{list_all, flat_map}
use Rattle.std.specs.Option.{option_map}
use Rattle.std.proofs.lemmas.Bool.{and_parts}
use Rattle.std.proofs.lemmas.Bool.Decides.{nat_tests}
use Rattle.name_table.specs.NameTable.{number_in}
use Rattle.pddl_form.specs.declared.fault.Fault.{Fault}
use Rattle.pddl_form.specs.declared.spot.Spot.{Spot}
use Rattle.pddl_form.specs.Judged.{good, mapped, both, each}
use Rattle.pddl_form.specs.Names.{is_variable}
use Rattle.pddl_condition.specs.declared.expression.ExprAst.{ExprAst}
use Rattle.pddl_condition.specs.declared.expression.ExprAst.TheVariants as ast
use Rattle.pddl_condition.specs.declared.condition.CondAst.{CondAst}
use Rattle.pddl_condition.specs.declared.condition.CondAst.TheVariants as cond_ast
use Rattle.pddl_domain.specs.declared.effect.EffAst.{EffAst}
use Rattle.pddl_domain.specs.declared.effect.EffAst.TheVariants as eff_ast
use Rattle.pddl_task.specs.declared.declared.Object.{Object as Declared_object}
use Rattle.pddl_task.specs.declared.declared.Signature.{Signature}
use Rattle.pddl_task.specs.declared.condition.Cond.{Cond}
use Rattle.pddl_task.specs.declared.condition.Cond.TheVariants as cond
use Rattle.pddl_task.specs.declared.effect.Effect.{Effect}
use Rattle.pddl_task.specs.declared.effect.Effect.TheVariants as effect
use Rattle.pddl_task.specs.declared.expression.Expr.{Expr}
use Rattle.pddl_task.specs.declared.expression.Term.{Term}
use Rattle.pddl_task.specs.declared.expression.Term.TheVariants as term
use Rattle.pddl_task.specs.declared.parts.TaskParts.{TaskParts}
use Rattle.pddl_task.specs.Task.{parents}
use Rattle.pddl_task.specs.Numbers.{Counts}
use Rattle.pddl_task.specs.Typed.{is_among, variable_fits, object_fits, term_fits, arguments_fit, call_fits, is_typed_call, is_typed_expression, is_typed_condition, is_typed_effect}
use Rattle.typing_uses.specs.Scope.{Scope, named, term_named, terms_named}
use Rattle.typing_uses.specs.Expressions.{expression_named, relation, condition_named, effect_named}
use Rattle.typing_uses.proofs.Good.{MappedGood, mapped_good, BothGood, both_good, both_true, KnownGood, known_good, number_of, front_empty, rest_empty, ChangeGood, change_good}
use Rattle.typing_types.specs.Types.{Declared, misfit, arity, types_at, type_at, fits, argument_faults, call_faults_at, call_faults, expression_faults, condition_faults, effect_faults}
use Rattle.typing.proofs.NumberLaws.{Fits, number_below, AllOf, calls_pass}
use Rattle.typing_types.proofs.TypeLaws.{expression_faults-Call, expression_faults-Op}

-- one of a list is there
record IsThere {A : Type 0} (xs : List A) (n : ℕ) : Type 0 where
  pub one : A
  pub one_is : slice_get xs n ≡ Some one

there : {A : Type 0} (xs : List A) (n : ℕ) → n < length xs → IsThere xs n
there [] n within = absurd (omega arith)
there (x ∷ xs) zero within = record { one = x; one_is = refl }
there (x ∷ xs) (suc n) within = let h : IsThere xs n = there xs n (omega arith) in record { one = h.one; one_is = h.one_is }

no_fault : (b : Bool) (f : Fault) → (if b then [] else f ∷ []) ≡ [] → b ≡ true
no_fault true f none = refl
no_fault false f none = absurd (cc none)

same_count : (n m : ℕ) → (n == m) ≡ true → n ≡ m
same_count n m same = grind (arith, nat_tests)

module _ (scope : Scope) (task : TaskParts) (objects : List Declared_object) (params : List (List ℕ))
    (same : (o : ℕ) → o < length objects → slice_get task.objects o ≡ slice_get objects o)
    (few_objects : length scope.objects ≤ length objects) (few_params : length scope.params ≤ length params)
    (few_preds : length scope.preds ≤ length task.preds) (few_funcs : length scope.funcs ≤ length task.funcs) where
  -- what is known where it stands
  abbrev here : Declared
  here = record { scope = scope; above = parents task.types; objects = objects; preds = task.preds; funcs = task.funcs; params = params }

  variable_typed : (allowed : List ℕ) (p : ℕ) → p < length params → list_all (is_among (parents task.types) allowed) (types_at params (Some p)) ≡ true → term_fits task params allowed (term.Param p) ≡ true
  variable_typed allowed p within fit =
      let h : IsThere params p = there params p within in
      ap (variable_fits (parents task.types) allowed) h.one_is ∙ ap (λ (o : Option (List ℕ)). list_all (is_among (parents task.types) allowed) (unwrap_or o [])) (sym h.one_is) ∙ fit

  object_typed : (allowed : List ℕ) (o : ℕ) → o < length objects → list_all (is_among (parents task.types) allowed) (type_at objects (Some o)) ≡ true → term_fits task params allowed (term.Object o) ≡ true
  object_typed allowed o within fit =
      let h : IsThere objects o = there objects o within in
      ap (object_fits (parents task.types) allowed) (same o within ∙ h.one_is)
      ∙ (and_parts (is_among (parents task.types) allowed h.one.of) true
      (ap (λ (x : Option Declared_object). list_all (is_among (parents task.types) allowed) (unwrap_or (option_map (λ y. y.of ∷ []) x) [])) (sym h.one_is) ∙ fit)).0

  term_typed : (allowed : List ℕ) (spot : Spot) (t : Term) → term_named scope spot ≡ good t → fits here allowed spot ≡ true → term_fits task params allowed t ≡ true
  term_typed allowed spot t made fit = by_test (is_variable spot.text) made fit
    where
      by_test : (b : Bool) → (if b then mapped term.Param (named scope.params spot) else mapped term.Object (named scope.objects spot)) ≡ good t
          → list_all (is_among (parents task.types) allowed) (if b then types_at params (number_in scope.params spot.text) else type_at objects (number_in scope.objects spot.text)) ≡ true → term_fits task params allowed t ≡ true
      by_test true is fit =
          let h : MappedGood term.Param (named scope.params spot) t = mapped_good term.Param (named scope.params spot) t is in
          let found : number_in scope.params spot.text ≡ Some h.part = number_of scope.params spot h.part h.part_is in
          subst (λ (u : Term). term_fits task params allowed u ≡ true) h.made
          (variable_typed allowed h.part (omega (arith, number_below scope.params spot.text h.part found, few_params)) (ap (λ (o : Option ℕ). list_all (is_among (parents task.types) allowed) (types_at params o)) (sym found) ∙ fit))
      by_test false is fit =
          let h : MappedGood term.Object (named scope.objects spot) t = mapped_good term.Object (named scope.objects spot) t is in
          let found : number_in scope.objects spot.text ≡ Some h.part = number_of scope.objects spot h.part h.part_is in
          subst (λ (u : Term). term_fits task params allowed u ≡ true) h.made
          (object_typed allowed h.part (omega (arith, number_below scope.objects spot.text h.part found, few_objects)) (ap (λ (o : Option ℕ). list_all (is_among (parents task.types) allowed) (type_at objects o)) (sym found) ∙ fit))

  arguments_typed : (ps : List (List ℕ)) (spots : List Spot) (ts : List Term) → length spots ≡ length ps → terms_named scope spots ≡ good ts → argument_faults here ps spots ≡ [] → arguments_fit task params ps ts ≡ true
  arguments_typed [] [] ts count made none = let empty : [] ≡ ts = cc made in subst (λ (l : List Term). arguments_fit task params [] l ≡ true) empty refl
  arguments_typed [] (spot ∷ spots) ts count made none = absurd (omega arith)
  arguments_typed (allowed ∷ ps) [] ts count made none = absurd (omega arith)
  arguments_typed (allowed ∷ ps) (spot ∷ spots) ts count made none =
      let h : BothGood ◌∷◌ (term_named scope spot) (terms_named scope spots) ts = both_good ◌∷◌ (term_named scope spot) (terms_named scope spots) ts made in
      subst (λ (l : List Term). arguments_fit task params (allowed ∷ ps) l ≡ true) h.made
      (both_true (term_fits task params allowed h.left) (arguments_fit task params ps h.right)
      (term_typed allowed spot h.left h.left_is (no_fault (fits here allowed spot) (misfit spot.place) (front_empty (if fits here allowed spot then [] else misfit spot.place ∷ []) (argument_faults here ps spots) none)))
      (arguments_typed ps spots h.right (omega arith) h.right_is (rest_empty (if fits here allowed spot then [] else misfit spot.place ∷ []) (argument_faults here ps spots) none)))

  -- a use of what is declared so
  pub call_typed : (names : List (List ℕ)) (signatures : List Signature) → length names ≤ length signatures → (name : Spot) (spots : List Spot) (n : ℕ) (ts : List Term)
      → named names name ≡ good n → terms_named scope spots ≡ good ts → call_faults here names signatures name spots ≡ [] → call_fits task params (slice_get signatures n) ts ≡ true
  call_typed names signatures few name spots n ts is_named are_named none =
      let found : number_in names name.text ≡ Some n = number_of names name n is_named in
      let h : IsThere signatures n = there signatures n (omega (arith, number_below names name.text n found)) in
      let known : option_and_then (slice_get signatures) (number_in names name.text) ≡ Some h.one = ap (option_and_then (slice_get signatures)) found ∙ h.one_is in
      let faults : call_faults_at here (Some h.one) name spots ≡ [] = ap (λ (s : Option Signature). call_faults_at here s name spots) (sym known) ∙ none in
      let count : length spots ≡ length h.one.params =
      same_count (length spots) (length h.one.params)
      (no_fault (length spots == length h.one.params) (arity name.place) (front_empty (if length spots == length h.one.params then [] else arity name.place ∷ []) (argument_faults here h.one.params spots) faults)) in
      ap (λ (s : Option Signature). call_fits task params s ts) h.one_is
      ∙ arguments_typed h.one.params spots ts count are_named (rest_empty (if length spots == length h.one.params then [] else arity name.place ∷ []) (argument_faults here h.one.params spots) faults)

  abbrev NoFault : ExprAst → Type 0
  NoFault e = expression_faults here e ≡ []

  no_faults : (args : List ExprAst) → flat_map (expression_faults here) args ≡ [] → AllOf NoFault args
  no_faults [] none = tt
  no_faults (e ∷ es) none = (front_empty (expression_faults here e) (flat_map (expression_faults here) es) none, no_faults es (rest_empty (expression_faults here e) (flat_map (expression_faults here) es) none))

  pub expression_typed : (e : ExprAst) (x : Expr) → expression_named scope e ≡ good x → expression_faults here e ≡ [] → is_typed_expression task params x ≡ true
  expression_typed e x made none =
      calls_pass (is_typed_call task params) scope NoFault
      (λ name args n ts q is_named are_named. call_typed scope.funcs task.funcs few_funcs name args n ts is_named are_named (sym (expression_faults-Call here name args) ∙ q))
      (λ op args q. no_faults args (sym (expression_faults-Op here op args) ∙ q)) e x none made

  pub condition_typed : (c : CondAst) (x : Cond) → condition_named scope c ≡ good x → condition_faults here c ≡ [] → is_typed_condition task params x ≡ true
  condition_typed (cond_ast.Lit pos name args) x made none =
      let h : BothGood (cond.Lit pos) (named scope.preds name) (terms_named scope args) x = both_good (cond.Lit pos) (named scope.preds name) (terms_named scope args) x made in
      subst (λ (y : Cond). is_typed_condition task params y ≡ true) h.made (call_typed scope.preds task.preds few_preds name args h.left h.right h.left_is h.right_is none)
  condition_typed (cond_ast.Same pos left right) x made none =
      let h : BothGood (cond.Same pos) (term_named scope left) (term_named scope right) x = both_good (cond.Same pos) (term_named scope left) (term_named scope right) x made in
      subst (λ (y : Cond). is_typed_condition task params y ≡ true) h.made refl
  condition_typed (cond_ast.Compare r left right) x made none =
      let k : KnownGood (relation r.text) (λ o. both (cond.Compare o) (expression_named scope left) (expression_named scope right)) x =
      known_good r (relation r.text) (λ o. both (cond.Compare o) (expression_named scope left) (expression_named scope right)) x made in
      let h : BothGood (cond.Compare k.part) (expression_named scope left) (expression_named scope right) x =
      both_good (cond.Compare k.part) (expression_named scope left) (expression_named scope right) x k.made in
      subst (λ (y : Cond). is_typed_condition task params y ≡ true) h.made
      (both_true (is_typed_expression task params h.left) (is_typed_expression task params h.right)
      (expression_typed left h.left h.left_is (front_empty (expression_faults here left) (expression_faults here right) none))
      (expression_typed right h.right h.right_is (rest_empty (expression_faults here left) (expression_faults here right) none)))

  pub effect_typed : (e : EffAst) (x : Effect) → effect_named scope e ≡ good x → effect_faults here e ≡ [] → is_typed_effect task params x ≡ true
  effect_typed (eff_ast.Put pos name args) x made none =
      let h : BothGood (effect.Put pos) (named scope.preds name) (terms_named scope args) x = both_good (effect.Put pos) (named scope.preds name) (terms_named scope args) x made in
      subst (λ (y : Effect). is_typed_effect task params y ≡ true) h.made (call_typed scope.preds task.preds few_preds name args h.left h.right h.left_is h.right_is none)
  effect_typed (eff_ast.Change op name args by) x made none =
      let h : ChangeGood scope op name args by x = change_good scope op name args by x made in
      subst (λ (y : Effect). is_typed_effect task params y ≡ true) h.made
      (both_true (is_typed_call task params h.func h.args) (is_typed_expression task params h.by)
      (call_typed scope.funcs task.funcs few_funcs name args h.func h.args h.func_is h.args_are (front_empty (call_faults here scope.funcs task.funcs name args) (expression_faults here by) none))
      (expression_typed by h.by h.by_is (rest_empty (call_faults here scope.funcs task.funcs name args) (expression_faults here by) none)))
