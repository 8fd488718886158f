-- Facts and values of items, one behind another.
use Rattle.std.proofs.Common.{◌≡◌, ℕ, ◌+◌, ◌<◌, ◌≤◌, true, false, List, [], ◌∷◌, ◌++◌, map, length, get_or, take, refl, sym, ◌∙◌, ap}
use Rattle.std.proofs.lemmas.List.{take_more, map-append, take_all}
use Rattle.pddl_task.specs.declared.start.Fact.{Fact}
use Rattle.pddl_task.specs.declared.start.Given.{Given}
use Rattle.typing_names.specs.declared.item.Item.{Item as Counted}
use Rattle.typing_names.specs.Problem.{Item, atom, value, facts_in, values_in}
use Rattle.typing_names.specs.Items.{item_of, items_of}

facts_in-append : (xs ys : List Item) → facts_in (xs ++ ys) ≡ facts_in xs ++ facts_in ys
facts_in-append [] ys = refl
facts_in-append (atom place true pred args ∷ xs) ys = ap (λ (l : List Fact). record { pred = pred; args = args } ∷ l) (facts_in-append xs ys)
facts_in-append (atom place false pred args ∷ xs) ys = facts_in-append xs ys
facts_in-append (value place func args amount ∷ xs) ys = facts_in-append xs ys

values_in-append : (xs ys : List Item) → values_in (xs ++ ys) ≡ values_in xs ++ values_in ys
values_in-append [] ys = refl
values_in-append (atom place pos pred args ∷ xs) ys = values_in-append xs ys
values_in-append (value place func args amount ∷ xs) ys = ap (λ (l : List Given). record { func = func; args = args; value = amount } ∷ l) (values_in-append xs ys)

-- one more item
items_more : (items : List Counted) (i : ℕ) (x : Counted) → i < length items → x ≡ get_or items i x → items_of (take (i + 1) items) ≡ items_of (take i items) ++ item_of x ∷ []
items_more items i x within is =
    ap (map item_of) (take_more items i x within) ∙ map-append item_of (take i items) (get_or items i x ∷ []) ∙ ap (λ (y : Counted). items_of (take i items) ++ item_of y ∷ []) (sym is)

pub facts_more : (items : List Counted) (i : ℕ) (x : Counted) (found more : List Fact) → i < length items → x ≡ get_or items i x → found ≡ facts_in (items_of (take i items)) → more ≡ found ++ facts_in (item_of x ∷ [])
    → more ≡ facts_in (items_of (take (i + 1) items))
facts_more items i x found more within is so_far next =
    next ∙ ap (λ (l : List Fact). l ++ facts_in (item_of x ∷ [])) so_far ∙ sym (ap facts_in (items_more items i x within is) ∙ facts_in-append (items_of (take i items)) (item_of x ∷ []))

pub values_more : (items : List Counted) (i : ℕ) (x : Counted) (found more : List Given) → i < length items → x ≡ get_or items i x → found ≡ values_in (items_of (take i items)) → more ≡ found ++ values_in (item_of x ∷ [])
    → more ≡ values_in (items_of (take (i + 1) items))
values_more items i x found more within is so_far next =
    next ∙ ap (λ (l : List Given). l ++ values_in (item_of x ∷ [])) so_far ∙ sym (ap values_in (items_more items i x within is) ∙ values_in-append (items_of (take i items)) (item_of x ∷ []))

pub facts_all : (items : List Counted) (i : ℕ) (found : List Fact) → found ≡ facts_in (items_of (take i items)) → length items ≤ i → found ≡ facts_in (items_of items)
facts_all items i found so_far whole = so_far ∙ ap (λ (l : List Counted). facts_in (items_of l)) (take_all i items whole)

pub values_all : (items : List Counted) (i : ℕ) (found : List Given) → found ≡ values_in (items_of (take i items)) → length items ≤ i → found ≡ values_in (items_of items)
values_all items i found so_far whole = so_far ∙ ap (λ (l : List Counted). values_in (items_of l)) (take_all i items whole)
