-- The words and parentheses of what was read.
use Rattle.std.proofs.Common.{◌≡◌, ℕ, List, [], ◌∷◌, ◌++◌, Option, sym, ◌∙◌, ap, append_assoc}
use Rattle.std.proofs.lemmas.List.{append-nil}
use Rattle.std.specs.List.{flat_map}
use Rattle.sexpr.specs.declared.tree.Tree.{Tree}
use Rattle.sexpr.specs.declared.tree.Tree.TheVariants as tree
use Rattle.sexpr.specs.declared.reading.Level.{Level}
use Rattle.sexpr.specs.Tokens.{Token, Open, Close}
use Rattle.sexpr.specs.Spelling.{tokens_of}
use Rattle.sexpr.specs.inside.Reached.{level_tokens, whole_tokens}
use Rattle.sexpr.specs.inside.Steps.{Adds}
use Rattle.sexpr.proofs.Trees.{tokens_of_list}

abbrev pub read : Option Tree → List Level → List Token
read whole lists = whole_tokens whole ++ flat_map level_tokens lists

flat_map_push : {X A : Type 0} (f : X → List A) (xs : List X) (x : X) → flat_map f (xs ++ x ∷ []) ≡ flat_map f xs ++ f x
flat_map_push f [] x = append-nil (f x)
flat_map_push f (y ∷ xs) x = ap (λ rest. f y ++ rest) (flat_map_push f xs x) ∙ sym (append_assoc (f y) (flat_map f xs) (f x))

-- with one more open list
pub read_push : (whole : Option Tree) (lists : List Level) (level : Level) → read whole (lists ++ level ∷ []) ≡ read whole lists ++ level_tokens level
read_push whole lists level =
    ap (λ (ts : List Token). whole_tokens whole ++ ts) (flat_map_push level_tokens lists level)
    ∙ sym (append_assoc (whole_tokens whole) (flat_map level_tokens lists) (level_tokens level))

-- with one more tree in the innermost
pub read_adds : (whole : Option Tree) (tree : Tree) (old new : List Level) → Adds tree old new → read whole new ≡ read whole old ++ tokens_of tree
read_adds whole tree old new adds =
    let around = adds.around in
    let level = adds.level in
    ap (read whole) adds.is
    ∙ read_push whole around adds.grown
    ∙ ap (λ (n : ℕ). read whole around ++ Open n ∷ flat_map tokens_of adds.grown.items.items) adds.same_start
    ∙ ap (λ (l : List Tree). read whole around ++ Open level.start ∷ flat_map tokens_of l) adds.one_more
    ∙ ap (λ (ts : List Token). read whole around ++ Open level.start ∷ ts) (flat_map_push tokens_of level.items.items tree)
    ∙ sym (append_assoc (read whole around) (level_tokens level) (tokens_of tree))
    ∙ ap (λ (ts : List Token). ts ++ tokens_of tree) (sym (ap (read whole) adds.was ∙ read_push whole around level))

-- the list that is closed, in place of the open one
pub read_closed : (whole : Option Tree) (around old : List Level) (level : Level) (end : ℕ) → old ≡ around ++ level ∷ []
    → read whole around ++ tokens_of (tree.List level.start end level.items.items) ≡ read whole old ++ Close end ∷ []
read_closed whole around old level end was =
    ap (λ (ts : List Token). read whole around ++ ts) (tokens_of_list level.start end level.items.items)
    ∙ sym (append_assoc (read whole around) (level_tokens level) (Close end ∷ []))
    ∙ ap (λ (ts : List Token). ts ++ Close end ∷ []) (sym (ap (read whole) was ∙ read_push whole around level))
