-- A text has one first fault.
use Rattle.std.proofs.Common.{◌≡◌, inl, inr, ℕ, List, sym, subst, ◌∙◌, arith}
use Rattle.sexpr.specs.Comments.{bare}
use Rattle.sexpr.specs.Faults.{IsParenFault, IsDeepFault}
use Rattle.sexpr.specs.Read.{ByteFault, TreeFault, IsFirst, IsFirstFault}

-- a parenthesis too deep is no other fault of parentheses
paren_not_deep : (text : List ℕ) (place : ℕ) → IsParenFault text place → IsDeepFault text place → ⊥
paren_not_deep text place (inl unopened) deep = omega (arith, unopened.0.1, deep.0.1)
paren_not_deep text place (inr (inl outside)) deep = omega (arith, outside.0, deep.1)
paren_not_deep text place (inr (inr unended)) deep = omega (arith, unended.0, deep.0.0)

one_place : (Fault : ℕ → ℕ → Type 0) (kind place other there : ℕ) → IsFirst Fault kind place → IsFirst Fault other there → place ≡ there
one_place Fault kind place other there first also = omega (arith, first.least other there also.is, also.least kind place first.is)

tree_kinds : (bytes : List ℕ) (kind other place : ℕ) → TreeFault bytes kind place → TreeFault bytes other place → kind ≡ other
tree_kinds bytes kind other place (inl paren) (inl also) = paren.0 ∙ sym also.0
tree_kinds bytes kind other place (inl paren) (inr deep) = absurd (paren_not_deep (bare bytes) place paren.1 deep.1)
tree_kinds bytes kind other place (inr deep) (inl paren) = absurd (paren_not_deep (bare bytes) place paren.1 deep.1)
tree_kinds bytes kind other place (inr deep) (inr also) = deep.0 ∙ sym also.0

-- the first fault of a text is one fault
pub one_first_fault : (bytes : List ℕ) (kind place other there : ℕ) → IsFirstFault bytes kind place → IsFirstFault bytes other there → (kind ≡ other) × (place ≡ there)
one_first_fault bytes kind place other there (inl first) (inl also) = (first.is.0 ∙ sym also.is.0, one_place (ByteFault bytes) kind place other there first also)
one_first_fault bytes kind place other there (inl first) (inr also) = absurd (also.0 kind place first.is)
one_first_fault bytes kind place other there (inr first) (inl also) = absurd (first.0 other there also.is)
one_first_fault bytes kind place other there (inr first) (inr also) =
    let same = one_place (TreeFault bytes) kind place other there first.1 also.1 in
    let P : ℕ → Type 0 = λ p. TreeFault bytes kind p in
    (tree_kinds bytes kind other there (subst P same first.1.is) also.1.is, same)
