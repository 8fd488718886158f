-- What the table's answer says of the head of an item.
use Rattle.std.proofs.Common.{◌≡◌, ℕ, false, List, [], ◌∷◌, refl, sym, subst}
use Rattle.std.specs.Prelude.{codes, bytes_eq}
use Rattle.kw_table.specs.Table.{IsAbsent}
use Rattle.pddl_form.proofs.Keywords.{other_word, isnt}
use Rattle.pddl_problem.specs.declared.init.Head.TheVariants.{Equal, At, Not}
use Rattle.pddl_problem.specs.Init.{head_of, other_head}

pub record HeadRows : Type 0 where
  pub equal : head_of (codes "=") ≡ Equal
  pub at : head_of (codes "at") ≡ At
  pub not : head_of (codes "not") ≡ Not

pub head_rows : HeadRows
unfolding head_of
head_rows = record { equal = refl; at = refl; not = refl }

abbrev pub heads : List (List ℕ)
heads = codes "=" ∷ codes "at" ∷ codes "not" ∷ []

no_head : (text : List ℕ) → IsAbsent text heads → head_of text ≡ other_head text
unfolding head_of
no_head text absent =
    let equal : bytes_eq text (codes "=") ≡ false = other_word text (codes "=") (λ same. isnt heads text (codes "=") absent refl (sym same)) in
    let at : bytes_eq text (codes "at") ≡ false = other_word text (codes "at") (λ same. isnt heads text (codes "at") absent refl (sym same)) in
    let not : bytes_eq text (codes "not") ≡ false = other_word text (codes "not") (λ same. isnt heads text (codes "not") absent refl (sym same)) in
    rw (equal, at, not)

pub no_head_read : (text bytes : List ℕ) → bytes ≡ text → IsAbsent bytes heads → head_of text ≡ other_head text
no_head_read text bytes same absent = no_head text (subst (λ (w : List ℕ). IsAbsent w heads) same absent)
