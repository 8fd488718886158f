-- What a table's answer says of the definitions that test for its words, one behind another.
use Rattle.std.proofs.Common.{◌≡◌, ℕ, List, [], ◌∷◌, Some, false, refl, sym, ◌∙◌, ap, subst}
use Rattle.std.specs.Prelude.{codes, bytes_eq, slice_get}
use Rattle.kw_table.specs.Table.{IsAbsent}
use Rattle.pddl_form.proofs.Keywords.{other_word, isnt}
use Rattle.pddl_domain.specs.declared.action.Key.TheVariants.{Parameters, Precondition, Effect, Unknown}
use Rattle.pddl_domain.specs.declared.effect_heads.EffectHead.TheVariants.{And, Not}
use Rattle.pddl_domain.specs.Action.{key_of}
use Rattle.pddl_domain.specs.Effect.{effect_head_of, other_effect_head}

-- ---- the heads of effects

pub record EffectHeadRows : Type 0 where
  pub and : effect_head_of (codes "and") ≡ And
  pub not : effect_head_of (codes "not") ≡ Not

pub effect_head_rows : EffectHeadRows
unfolding effect_head_of
effect_head_rows = record { and = refl; not = refl }

abbrev pub heads : List (List ℕ)
heads = codes "and" ∷ codes "not" ∷ []

no_head : (text : List ℕ) → IsAbsent text heads → effect_head_of text ≡ other_effect_head text
unfolding effect_head_of
no_head text absent =
    let and : bytes_eq text (codes "and") ≡ false = other_word text (codes "and") (λ same. isnt heads text (codes "and") absent refl (sym same)) in
    let not : bytes_eq text (codes "not") ≡ false = other_word text (codes "not") (λ same. isnt heads text (codes "not") absent refl (sym same)) in
    rw (and, not)

pub no_head_read : (text bytes : List ℕ) → bytes ≡ text → IsAbsent bytes heads → effect_head_of text ≡ other_effect_head text
no_head_read text bytes same absent = no_head text (subst (λ (w : List ℕ). IsAbsent w heads) same absent)

-- ---- the keys of actions

pub record KeyRows : Type 0 where
  pub effect : key_of (codes ":effect") ≡ Effect
  pub parameters : key_of (codes ":parameters") ≡ Parameters
  pub precondition : key_of (codes ":precondition") ≡ Precondition

pub key_rows : KeyRows
unfolding key_of
key_rows = record { effect = refl; parameters = refl; precondition = refl }

abbrev pub keys : List (List ℕ)
keys = codes ":effect" ∷ codes ":parameters" ∷ codes ":precondition" ∷ []

no_key : (text : List ℕ) → IsAbsent text keys → key_of text ≡ Unknown
unfolding key_of
no_key text absent =
    let effect : bytes_eq text (codes ":effect") ≡ false = other_word text (codes ":effect") (λ same. isnt keys text (codes ":effect") absent refl (sym same)) in
    let parameters : bytes_eq text (codes ":parameters") ≡ false = other_word text (codes ":parameters") (λ same. isnt keys text (codes ":parameters") absent refl (sym same)) in
    let precondition : bytes_eq text (codes ":precondition") ≡ false = other_word text (codes ":precondition") (λ same. isnt keys text (codes ":precondition") absent refl (sym same)) in
    rw (parameters, precondition, effect)

pub parameters_read : (text bytes : List ℕ) → bytes ≡ text → slice_get keys 1 ≡ Some bytes → Parameters ≡ key_of text
parameters_read text bytes same found =
    let is : codes ":parameters" ≡ bytes = cc found in
    sym key_rows.parameters ∙ ap key_of (is ∙ same)

pub no_key_read : (text bytes : List ℕ) → bytes ≡ text → IsAbsent bytes keys → Unknown ≡ key_of text
no_key_read text bytes same absent = sym (no_key text (subst (λ (w : List ℕ). IsAbsent w keys) same absent))
