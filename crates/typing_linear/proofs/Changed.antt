-- The names of changing functions, one behind another.
use Rattle.std.proofs.Common.{◌≡◌, ℕ, ◌+◌, ◌<◌, ◌≤◌, Bool, true, false, List, [], ◌∷◌, ◌++◌, length, get_or, take, Result, refl, sym, ◌∙◌, ap, subst}
use Rattle.std.proofs.lemmas.List.{take_all}
use Rattle.std.proofs.lemmas.List.Folds.{list_any-append, list_any_more}
use Rattle.std.proofs.lemmas.Slice.Eq.{bytes_eq-Decides}
use Rattle.std.specs.Prelude.{◌||◌, bytes_eq, if◌then◌else◌}
use Rattle.std.specs.List.{list_any}
use Rattle.name_table.specs.NameTable.{with_name}
use Rattle.name_table.proofs.Numbers.{is_some-position}
use Rattle.pddl_form.proofs.Keywords.{same_word, or_true}
use Rattle.std.specs.Result.{OnOk}
use Rattle.std.specs.declared.alloc.AllocError.{AllocError}
use Rattle.pddl_form.specs.declared.spot.Spot.{Spot}
use Rattle.pddl_condition.specs.declared.expression.ExprAst.{ExprAst}
use Rattle.pddl_domain.specs.declared.effect.EffAst.{EffAst}
use Rattle.pddl_domain.specs.declared.effect.EffAst.TheVariants as eff_ast
use Rattle.pddl_domain.specs.declared.action.ActionAst.{ActionAst}
use Rattle.typing_linear.specs.Linear.{changes, is_changing}
use Rattle.typing_linear.specs.Reads.{AreAlso, AreChanging, has_name}

or_false : (b : Bool) → (b || false) ≡ b
or_false true = refl
or_false false = refl

or_assoc : (a b c : Bool) → ((a || b) || c) ≡ (a || (b || c))
or_assoc true b c = refl
or_assoc false b c = refl

same_by : (v w : List ℕ) (a b : Bool) → bytes_eq v w ≡ a → bytes_eq w v ≡ b → a ≡ b
same_by v w true b p q = sym (same_word w v (sym ((bytes_eq-Decides v w).0 p))) ∙ q
same_by v w false true p q = sym p ∙ same_word v w (sym ((bytes_eq-Decides w v).0 q))
same_by v w false false p q = refl

pub same_either_way : (v w : List ℕ) → bytes_eq v w ≡ bytes_eq w v
same_either_way v w = same_by v w (bytes_eq v w) (bytes_eq w v) refl refl

has-any : (names : List (List ℕ)) (func : List ℕ) → has_name names func ≡ list_any (bytes_eq func) names
has-any names func = is_some-position (bytes_eq func) names

-- a name that is there is one of those that are there
there : (names : List (List ℕ)) (name func : List ℕ) (same : Bool) → has_name names name ≡ true → bytes_eq name func ≡ same → has_name names func ≡ (has_name names func || same)
there names name func true is at = ap (has_name names) (sym ((bytes_eq-Decides name func).0 at)) ∙ is ∙ sym (or_true (has_name names func))
there names name func false is at = sym (or_false (has_name names func))

behind : (names : List (List ℕ)) (name func : List ℕ) → has_name (names ++ name ∷ []) func ≡ (has_name names func || bytes_eq name func)
behind names name func =
    has-any (names ++ name ∷ []) func ∙ list_any-append (bytes_eq func) names (name ∷ [])
    ∙ ap (λ (b : Bool). b || (bytes_eq func name || false)) (sym (has-any names func))
    ∙ ap (λ (b : Bool). has_name names func || b) (or_false (bytes_eq func name) ∙ same_either_way func name)

also_by : (names : List (List ℕ)) (name func : List ℕ) (b : Bool) → has_name names name ≡ b → has_name (if b then names else names ++ name ∷ []) func ≡ (has_name names func || bytes_eq name func)
also_by names name func true is = there names name func (bytes_eq name func) is refl
also_by names name func false is = behind names name func

pub also_name : (names new : List (List ℕ)) (name : List ℕ) → new ≡ with_name names name → AreAlso names new (bytes_eq name)
also_name names new name is = record { also = λ func. ap (λ (ns : List (List ℕ)). has_name ns func) is ∙ also_by names name func (has_name names name) refl }

pub also_none : (names : List (List ℕ)) (is_more : List ℕ → Bool) → ((func : List ℕ) → is_more func ≡ false) → AreAlso names names is_more
also_none names is_more none = record { also = λ func. sym (ap (λ (b : Bool). has_name names func || b) (none func) ∙ or_false (has_name names func)) }

pub also_change : (effect : EffAst) (op name : Spot) (args : List Spot) (by : ExprAst) (said : List ℕ) (old new : List (List ℕ)) (r : Result (Unit {0}) AllocError)
    → effect ≡ eff_ast.Change op name args by → said ≡ name.text → OnOk r (AreAlso old new (bytes_eq said)) → OnOk r (AreAlso old new (λ func. changes func effect))
also_change effect op name args by said old new r is same h =
    let by_effect : EffAst → List ℕ → Bool = λ e func. changes func e in
    subst (λ (t : List ℕ → Bool). OnOk r (AreAlso old new t)) (ap bytes_eq same ∙ sym (ap by_effect is)) h

-- ---- effects and actions, one behind another

pub one_more_also : {X : Type 0} (test : List ℕ → X → Bool) (xs : List X) (i : ℕ) (x : X) (old mid new : List (List ℕ))
    → AreAlso old mid (λ func. list_any (test func) (take i xs)) → i < length xs → x ≡ get_or xs i x → AreAlso mid new (λ func. test func x) → AreAlso old new (λ func. list_any (test func) (take (i + 1) xs))
one_more_also {X = X} test xs i x old mid new h within at k = record {
  also = λ func.
      k.also func ∙ ap (λ (b : Bool). b || test func x) (h.also func) ∙ or_assoc (has_name old func) (list_any (test func) (take i xs)) (test func x)
      ∙ ap (λ (y : X). has_name old func || (list_any (test func) (take i xs) || test func y)) at
      ∙ ap (λ (b : Bool). has_name old func || b) (sym (list_any_more (test func) xs i x within));
}

pub all_also : {X : Type 0} (test : List ℕ → X → Bool) (xs : List X) (i : ℕ) (old new : List (List ℕ)) → AreAlso old new (λ func. list_any (test func) (take i xs)) → length xs ≤ i → AreAlso old new (λ func. list_any (test func) xs)
all_also {X = X} test xs i old new h whole = subst (λ (ys : List X). AreAlso old new (λ func. list_any (test func) ys)) (take_all i xs whole) h

pub none_changing : (names : List (List ℕ)) (actions : List ActionAst) → names ≡ [] → AreChanging (take 0 actions) names
none_changing names actions is = record { are_changing = λ func. ap (λ (ns : List (List ℕ)). has_name ns func) is }

pub one_more_changing : (actions : List ActionAst) (i : ℕ) (a : ActionAst) (effs : List EffAst) (mid new : List (List ℕ))
    → AreChanging (take i actions) mid → i < length actions → a ≡ get_or actions i a → effs ≡ a.effs → AreAlso mid new (λ func. list_any (changes func) effs) → AreChanging (take (i + 1) actions) new
one_more_changing actions i a effs mid new h within at is k = record {
  are_changing = λ func.
      k.also func ∙ ap (λ (b : Bool). b || list_any (changes func) effs) (h.are_changing func) ∙ ap (λ (es : List EffAst). is_changing (take i actions) func || list_any (changes func) es) is
      ∙ ap (λ (b : ActionAst). is_changing (take i actions) func || list_any (changes func) b.effs) at
      ∙ sym (list_any_more (λ (b : ActionAst). list_any (changes func) b.effs) actions i a within);
}

pub all_changing : (actions : List ActionAst) (i : ℕ) (names : List (List ℕ)) → AreChanging (take i actions) names → length actions ≤ i → AreChanging actions names
all_changing actions i names h whole = subst (λ (xs : List ActionAst). AreChanging xs names) (take_all i actions whole) h
