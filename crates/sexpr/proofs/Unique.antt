-- Trees with the same words and parentheses are the same.
use Rattle.std.proofs.Common.{◌≡◌, ℕ, List, [], ◌∷◌, ◌++◌, map, refl, sym, ◌∙◌, ap, append_assoc}
use Rattle.std.specs.List.{flat_map}
use Rattle.sexpr.specs.declared.tree.Tree.{Tree}
use Rattle.sexpr.specs.declared.tree.Tree.TheVariants as tree
use Rattle.sexpr.specs.Tokens.{Token, Open, Close, Word}
use Rattle.sexpr.specs.Spelling.{tokens_of, Spells}
use Rattle.sexpr.proofs.Trees.{tokens_of_word, tokens_of_list, every_tree, cases_tree}

-- nothing else begins with the words and parentheses of a tree
abbrev IsFixed : Tree → Type 0
IsFixed t = (other : Tree) (rest more : List Token) → tokens_of t ++ rest ≡ tokens_of other ++ more → (t ≡ other) × (rest ≡ more)

-- those of a word, and of a list, in front of others
pub word_front : (start end : ℕ) (text : List ℕ) (rest : List Token) → tokens_of (tree.Word start end text) ++ rest ≡ Word start end text ∷ rest
word_front start end text rest = ap (λ (ts : List Token). ts ++ rest) (tokens_of_word start end text)

pub list_front : (start end : ℕ) (items : List Tree) (rest : List Token) → tokens_of (tree.List start end items) ++ rest ≡ Open start ∷ (flat_map tokens_of items ++ (Close end ∷ rest))
list_front start end items rest =
    ap (λ (ts : List Token). ts ++ rest) (tokens_of_list start end items)
    ∙ ap (λ (ts : List Token). Open start ∷ ts) (append_assoc (flat_map tokens_of items) (Close end ∷ []) rest)

-- no tree begins with `)`
no_close : (end : ℕ) (rest : List Token) (t : Tree) (more : List Token) → Close end ∷ rest ≡ tokens_of t ++ more → ⊥
no_close end rest = cases_tree (λ t. (more : List Token) → Close end ∷ rest ≡ tokens_of t ++ more → ⊥)
    (λ start last text more is. cc (is, word_front start last text more))
    (λ start last items more is. cc (is, list_front start last items more))

abbrev Several : Type 0
Several = List ((t : Tree) × IsFixed t)

abbrev trees : Several → List Tree
trees items = map (λ e. e.0) items

several_fixed : (items : Several) (others : List Tree) (end last : ℕ) (rest more : List Token)
    → flat_map tokens_of (trees items) ++ (Close end ∷ rest) ≡ flat_map tokens_of others ++ (Close last ∷ more) → (trees items ≡ others) × (end ≡ last) × (rest ≡ more)
several_fixed [] [] end last rest more is = (refl, (cc), (cc))
several_fixed [] (t ∷ others) end last rest more is =
    absurd (no_close end rest t (flat_map tokens_of others ++ (Close last ∷ more)) (is ∙ append_assoc (tokens_of t) (flat_map tokens_of others) (Close last ∷ more)))
several_fixed (e ∷ items) [] end last rest more is =
    absurd (no_close last more e.0 (flat_map tokens_of (trees items) ++ (Close end ∷ rest)) (sym is ∙ append_assoc (tokens_of e.0) (flat_map tokens_of (trees items)) (Close end ∷ rest)))
several_fixed (e ∷ items) (t ∷ others) end last rest more is =
    let first = e.1 t (flat_map tokens_of (trees items) ++ (Close end ∷ rest)) (flat_map tokens_of others ++ (Close last ∷ more))
    (sym (append_assoc (tokens_of e.0) (flat_map tokens_of (trees items)) (Close end ∷ rest)) ∙ is ∙ append_assoc (tokens_of t) (flat_map tokens_of others) (Close last ∷ more)) in
    let so = several_fixed items others end last rest more first.1 in
    (ap (λ (x : Tree). x ∷ trees items) first.0 ∙ ap (λ (xs : List Tree). t ∷ xs) so.0, so.1, so.2)

word_fixed : (start end : ℕ) (text : List ℕ) → IsFixed (tree.Word start end text)
word_fixed start end text = cases_tree (λ other. (rest more : List Token) → tokens_of (tree.Word start end text) ++ rest ≡ tokens_of other ++ more → (tree.Word start end text ≡ other) × (rest ≡ more))
    (λ from to word rest more is.
    let same : Word start end text ∷ rest ≡ Word from to word ∷ more = sym (word_front start end text rest) ∙ is ∙ word_front from to word more in
    let starts : start ≡ from = cc same in
    let ends : end ≡ to = cc same in
    let texts : text ≡ word = cc same in
    (ap (λ (n : ℕ). tree.Word n end text) starts ∙ ap (λ (n : ℕ). tree.Word from n text) ends ∙ ap (λ (w : List ℕ). tree.Word from to w) texts, cc same))
    (λ from to items rest more is. absurd (cc (sym (word_front start end text rest) ∙ is ∙ list_front from to items more)))

list_fixed : (start end : ℕ) (items : Several) → IsFixed (tree.List start end (trees items))
list_fixed start end items = cases_tree (λ other. (rest more : List Token) → tokens_of (tree.List start end (trees items)) ++ rest ≡ tokens_of other ++ more → (tree.List start end (trees items) ≡ other) × (rest ≡ more))
    (λ from to word rest more is. absurd (cc (sym (list_front start end (trees items) rest) ∙ is ∙ word_front from to word more)))
    (λ from to others rest more is.
    let same : Open start ∷ (flat_map tokens_of (trees items) ++ (Close end ∷ rest)) ≡ Open from ∷ (flat_map tokens_of others ++ (Close to ∷ more)) =
    sym (list_front start end (trees items) rest) ∙ is ∙ list_front from to others more in
    let starts : start ≡ from = cc same in
    let so = several_fixed items others end to rest more (cc same) in
    (ap (λ (n : ℕ). tree.List n end (trees items)) starts ∙ ap (λ (n : ℕ). tree.List from n (trees items)) so.1 ∙ ap (λ (l : List Tree). tree.List from to l) so.0, so.2))

every_fixed : (t : Tree) → IsFixed t
every_fixed = every_tree IsFixed word_fixed list_fixed

pub one_tree : (bytes : List ℕ) (s t : Tree) → Spells bytes s → Spells bytes t → s ≡ t
one_tree bytes s t is_s is_t = (every_fixed s t [] [] (ap (λ (ts : List Token). ts ++ []) (sym is_s.spelled ∙ is_t.spelled))).0
