-- A tree at the end of the innermost open list.
use Rattle.std.specs.Option.{is_some}
use Rattle.std.proofs.Common.{◌≡◌, inl, inr, true, false, ℕ, ◌+◌, ◌-◌, ◌<◌, List, [], ◌∷◌, ◌++◌, length, get_or, set, take, Option, Some, None, refl, sym, ◌∙◌, ap, arith}
use Rattle.std.proofs.lemmas.List.{take_more, take_all, set_at, length-take-le, nil_from_length}
use Rattle.std.proofs.lemmas.Bool.{cases_lt}
use Rattle.sexpr.specs.declared.tree.Tree.{Tree}
use Rattle.sexpr.specs.declared.reading.Level.{Level}
use Rattle.sexpr.specs.inside.Steps.{Adds}

-- all but the last, and the last
last_split : {X : Type 0} (xs : List X) (n : ℕ) (x : X) → length xs ≡ n + 1 → x ≡ get_or xs n x → xs ≡ take n xs ++ x ∷ []
last_split xs n x len is =
    sym (take_all (n + 1) xs (omega (arith, len))) ∙ take_more xs n x (omega (arith, len)) ∙ ap (λ y. take n xs ++ y ∷ []) (sym is)

-- the innermost list, written back with one more item
pub adds_last : (t : Tree) (lists : List Level) (len : ℕ) (level grown : Level) → len ≡ length lists → 0 < len
    → level ≡ get_or lists (len - 1) level → grown.start ≡ level.start → grown.items.items ≡ level.items.items ++ t ∷ [] → Adds t lists (set lists (len - 1) grown)
adds_last t lists len level grown same some is same_start one_more =
    let n = len - 1 in
    let front = take n lists in
    let split : lists ≡ front ++ level ∷ [] = last_split lists n level (omega (arith, same, some)) is in
    let room : length front ≡ n = length-take-le n lists (omega (arith, same)) in
    record {
      around = front;
      level = level;
      grown = grown;
      was = split;
      is = ap (λ (l : List Level). set l n grown) split ∙ set_at front level [] grown n room;
      same_start = same_start;
      one_more = one_more;
    }

-- the last of no lists
pub none_left : (lists : List Level) (len : ℕ) → len ≡ length lists → (0 < len → false ≡ true) → lists ≡ []
none_left lists len same none = elim (cases_lt 0 (length lists)) [
  | inl some ↦ absurd (cc (none (omega (arith, some, same))))
  | inr empty ↦ nil_from_length lists (omega (arith, empty))
]

pub not_some : (whole : Option Tree) → is_some whole ≡ false → whole ≡ None
not_some None is = refl
not_some (Some tree) is = absurd (cc is)
