-- How many lists are open at a place, and where the first fault of the pass over the tree is.
use Rattle.std.proofs.Common.{◌≡◌, ◌≢◌, ◌⊎◌, inl, inr, ℕ, zero, suc, ◌+◌, ◌<◌, ◌≤◌, ◌==◌, true, false, List, length, get_or, Option, Some, None, refl, sym, ◌∙◌, ap, subst, arith, below_more}
use Rattle.std.specs.Prelude.{IsSome}
use Rattle.std.proofs.lemmas.Bool.{cases_lt}
use Rattle.std.proofs.lemmas.Bool.Decides.{Decides-eqb}
use Rattle.std.proofs.lemmas.List.Sums.{count_by_more_yes, count_by_more_no}
use Rattle.sexpr.specs.declared.tree.Tree.{Tree}
use Rattle.sexpr.specs.Bytes.{is_in_word}
use Rattle.sexpr.specs.Comments.{bare}
use Rattle.sexpr.specs.Faults.{Has, BeginsWord, IsParenFault, IsDeepFault, open_at, opened_before, deepest}
use Rattle.sexpr.specs.Read.{TreeFault, HasNone, IsFirst}
use Rattle.sexpr.specs.inside.Reached.{IsOneList, IsCounted}
use Rattle.sexpr.proofs.BareLaws.{isnt}

abbrev Fault : List ℕ → ℕ → Type 0
Fault text place = IsParenFault text place ⊎ IsDeepFault text place

-- what a fault at a place can be
record Faults (text : List ℕ) (depth at : ℕ) : Type 0 where
  unopened : get_or text at 0 ≡ 41 → depth ≡ 0 → ⊥
  word_outside : BeginsWord text at → depth ≡ 0 → ⊥
  list_behind : get_or text at 0 ≡ 40 → depth ≡ 0 → 0 < opened_before text at → ⊥
  deep : get_or text at 0 ≡ 40 → deepest ≤ depth → ⊥

is_open : (text : List ℕ) (whole : Option Tree) (depth at : ℕ) → IsCounted text whole depth at → open_at text at ≡ depth
is_open text whole depth at counts = omega (arith, counts.counted)

no_fault_here : (text : List ℕ) (whole : Option Tree) (depth at : ℕ) → IsCounted text whole depth at → at < length text → Faults text depth at → Fault text at → ⊥
no_fault_here text whole depth at counts within none (inl (inl fault)) = none.unopened fault.0.1 (sym (is_open text whole depth at counts) ∙ fault.1)
no_fault_here text whole depth at counts within none (inl (inr (inl fault))) = outside fault.1
  where
    outside : BeginsWord text at ⊎ (Has text at 40 × (0 < opened_before text at)) → ⊥
    outside (inl word) = none.word_outside word (sym (is_open text whole depth at counts) ∙ fault.0)
    outside (inr list) = none.list_behind list.0.1 (sym (is_open text whole depth at counts) ∙ fault.0) list.1
no_fault_here text whole depth at counts within none (inl (inr (inr fault))) = absurd (omega (arith, within, fault.0))
no_fault_here text whole depth at counts within none (inr fault) = none.deep fault.0.1 (omega (arith, fault.1, is_open text whole depth at counts))

no_fault_more : (text : List ℕ) (whole : Option Tree) (depth at : ℕ) → IsCounted text whole depth at → at < length text → Faults text depth at → (place : ℕ) → place < at + 1 → Fault text place → ⊥
no_fault_more text whole depth at counts within none = below_more (λ place. Fault text place → ⊥) at counts.no_fault (no_fault_here text whole depth at counts within none)

one_list_at : (whole : Option Tree) (depth m n : ℕ) → m ≡ n → IsOneList whole depth m → IsOneList whole depth n
one_list_at whole depth m n same one = subst (IsOneList whole depth) same one

is_byte : (text : List ℕ) (at b : ℕ) → get_or text at 0 ≡ b → (get_or text at 0 == b) ≡ true
is_byte text at b is = (Decides-eqb (get_or text at 0) b).1 is

-- a byte that is no parenthesis
pub counts_quiet : (text : List ℕ) (whole : Option Tree) (depth at : ℕ) → IsCounted text whole depth at → at < length text
    → get_or text at 0 ≢ 40 → get_or text at 0 ≢ 41 → (BeginsWord text at → 0 < depth) → IsCounted text whole depth (at + 1)
counts_quiet text whole depth at counts within no_open no_close word =
    let opened = count_by_more_no (λ b. b == 40) text at 0 within (isnt (get_or text at 0) 40 no_open) in
    let closed = count_by_more_no (λ b. b == 41) text at 0 within (isnt (get_or text at 0) 41 no_close) in
    record {
      counted = omega (arith, opened, closed, counts.counted);
      one_list = one_list_at whole depth _ _ (sym opened) counts.one_list;
      no_fault = no_fault_more text whole depth at counts within (record {
        unopened = λ is outer. no_close is;
        word_outside = λ begins outer. omega (arith, word begins, outer);
        list_behind = λ is outer behind. no_open is;
        deep = λ is deep. no_open is;
      });
    }

-- so many of them
pub counts_run : (text : List ℕ) (whole : Option Tree) (depth at n : ℕ) → IsCounted text whole depth at → at + n ≤ length text
    → ((k : ℕ) → k < n → get_or text (at + k) 0 ≢ 40) → ((k : ℕ) → k < n → get_or text (at + k) 0 ≢ 41) → ((k : ℕ) → k < n → BeginsWord text (at + k) → 0 < depth)
    → IsCounted text whole depth (at + n)
counts_run text whole depth at zero counts within no_open no_close word = let same : at ≡ at + 0 = omega arith in subst (IsCounted text whole depth) same counts
counts_run text whole depth at (suc n) counts within no_open no_close word =
    let next : at + n + 1 ≡ at + suc n = omega arith in
    let last : n < suc n = omega arith in
    let before = counts_run text whole depth at n counts (omega (arith, within)) (λ k below. no_open k (omega (arith, below))) (λ k below. no_close k (omega (arith, below))) (λ k below. word k (omega (arith, below))) in
    subst (IsCounted text whole depth) next (counts_quiet text whole depth (at + n) before (omega (arith, within)) (no_open n last) (no_close n last) (word n last))

no_word_at : (text : List ℕ) (at b : ℕ) → get_or text at 0 ≡ b → is_in_word b ≡ false → BeginsWord text at → ⊥
no_word_at text at b is not_in word = cc (word.here, not_in)

-- `(`
pub counts_open : (text : List ℕ) (whole : Option Tree) (depth at : ℕ) → IsCounted text whole depth at → at < length text
    → get_or text at 0 ≡ 40 → depth < deepest → (depth ≡ 0 → whole ≡ None) → IsCounted text whole (depth + 1) (at + 1)
counts_open text whole depth at counts within is room first =
    let opened = count_by_more_yes (λ b. b == 40) text at 0 within (is_byte text at 40 is) in
    let closed = count_by_more_no (λ b. b == 41) text at 0 within (isnt (get_or text at 0) 41 (λ other. absurd (omega (arith, is, other)))) in
    record {
      counted = omega (arith, opened, closed, counts.counted);
      one_list = still_one whole first counts.one_list;
      no_fault = no_fault_more text whole depth at counts within (record {
        unopened = λ other outer. absurd (omega (arith, is, other));
        word_outside = λ begins outer. no_word_at text at 40 is refl begins;
        list_behind = λ other outer behind. absurd (omega (arith, behind, none_opened whole outer (first outer) counts.one_list));
        deep = λ other deep. absurd (omega (arith, deep, room));
      });
    }
  where
    still_one : (whole : Option Tree) → (depth ≡ 0 → whole ≡ None) → IsOneList whole depth (opened_before text at) → IsOneList whole (depth + 1) (opened_before text (at + 1))
    still_one None first one = λ none. absurd (omega (arith, none))
    still_one (Some tree) first one = absurd (cc (first one.0))

    none_opened : (whole : Option Tree) → depth ≡ 0 → whole ≡ None → IsOneList whole depth (opened_before text at) → opened_before text at ≡ 0
    none_opened None outer is one = one outer
    none_opened (Some tree) outer is one = absurd (cc is)

-- `)`
pub counts_close : (text : List ℕ) (whole new : Option Tree) (depth at : ℕ) → IsCounted text whole (depth + 1) at → at < length text
    → get_or text at 0 ≡ 41 → IsOneList new depth (opened_before text at) → IsCounted text new depth (at + 1)
counts_close text whole new depth at counts within is one =
    let opened = count_by_more_no (λ b. b == 40) text at 0 within (isnt (get_or text at 0) 40 (λ other. absurd (omega (arith, is, other)))) in
    let closed = count_by_more_yes (λ b. b == 41) text at 0 within (is_byte text at 41 is) in
    record {
      counted = omega (arith, opened, closed, counts.counted);
      one_list = one_list_at new depth _ _ (sym opened) one;
      no_fault = no_fault_more text whole (depth + 1) at counts within (record {
        unopened = λ other outer. absurd (omega (arith, outer));
        word_outside = λ begins outer. absurd (omega (arith, outer));
        list_behind = λ other outer behind. absurd (omega (arith, outer));
        deep = λ other deep. absurd (omega (arith, is, other));
      });
    }

-- a fault at a place that all before was read to is the first
least_here : (bytes : List ℕ) (whole : Option Tree) (depth at : ℕ) → IsCounted (bare bytes) whole depth at → (other there : ℕ) → TreeFault bytes other there → at ≤ there
least_here bytes whole depth at counts other there fault = elim (cases_lt there at) [
  | inl before ↦ absurd (counts.no_fault there before (either fault))
  | inr behind ↦ behind
]
  where
    either : ((other ≡ 2) × IsParenFault (bare bytes) there) ⊎ ((other ≡ 3) × IsDeepFault (bare bytes) there) → Fault (bare bytes) there
    either (inl paren) = inl paren.1
    either (inr deep) = inr deep.1

pub first_paren : (bytes : List ℕ) (whole : Option Tree) (depth at : ℕ) → IsCounted (bare bytes) whole depth at → IsParenFault (bare bytes) at → IsFirst (TreeFault bytes) 2 at
first_paren bytes whole depth at counts fault = record { is = inl (refl, fault); least = least_here bytes whole depth at counts }

pub first_deep : (bytes : List ℕ) (whole : Option Tree) (depth at : ℕ) → IsCounted (bare bytes) whole depth at → at < length (bare bytes) → get_or (bare bytes) at 0 ≡ 40 → deepest ≤ depth → IsFirst (TreeFault bytes) 3 at
first_deep bytes whole depth at counts within is deep = record {
  is = inr (refl, ((within, is), omega (arith, deep, is_open (bare bytes) whole depth at counts)));
  least = least_here bytes whole depth at counts;
}

-- `)` outside of any list
pub first_unopened : (bytes : List ℕ) (whole : Option Tree) (at : ℕ) → IsCounted (bare bytes) whole 0 at → at < length (bare bytes) → get_or (bare bytes) at 0 ≡ 41 → IsFirst (TreeFault bytes) 2 at
first_unopened bytes whole at counts within is = first_paren bytes whole 0 at counts (inl ((within, is), is_open (bare bytes) whole 0 at counts))

-- a word outside of any list
pub first_word_outside : (bytes : List ℕ) (whole : Option Tree) (at : ℕ) → IsCounted (bare bytes) whole 0 at → BeginsWord (bare bytes) at → IsFirst (TreeFault bytes) 2 at
first_word_outside bytes whole at counts word = first_paren bytes whole 0 at counts (inr (inl (is_open (bare bytes) whole 0 at counts, inl word)))

-- a list behind the one list
pub first_behind : (bytes : List ℕ) (whole : Option Tree) (at : ℕ) → IsCounted (bare bytes) whole 0 at → at < length (bare bytes) → get_or (bare bytes) at 0 ≡ 40 → IsSome whole → IsFirst (TreeFault bytes) 2 at
first_behind bytes None at counts within is some = absurd (cc some)
first_behind bytes (Some tree) at counts within is some =
    first_paren bytes (Some tree) 0 at counts (inr (inl (is_open (bare bytes) (Some tree) 0 at counts, inr ((within, is), counts.one_list.1))))

-- the end, with an open list or with no list at all
pub first_end : (bytes : List ℕ) (whole : Option Tree) (depth at : ℕ) → IsCounted (bare bytes) whole depth at → at ≡ length (bare bytes) → (0 < depth) ⊎ (whole ≡ None) → IsFirst (TreeFault bytes) 2 at
first_end bytes whole depth at counts end (inl some) = first_paren bytes whole depth at counts (inr (inr (end, inl (omega (arith, some, is_open (bare bytes) whole depth at counts)))))
first_end bytes whole depth at counts end (inr none) = first_paren bytes whole depth at counts (inr (inr (end, unended whole none counts.one_list)))
  where
    unended : (whole : Option Tree) → whole ≡ None → IsOneList whole depth (opened_before (bare bytes) at) → (0 < open_at (bare bytes) at) ⊎ (opened_before (bare bytes) at ≡ 0)
    unended (Some tree) none one = absurd (cc none)
    unended None none one = elim (cases_lt 0 depth) [
      | inl some ↦ inl (omega (arith, some, is_open (bare bytes) whole depth at counts))
      | inr none ↦ inr (one (omega (arith, none)))
    ]

-- nor is there one at the end, where the one list is closed
pub no_tree_fault : (bytes : List ℕ) (tree : Tree) (at : ℕ) → IsCounted (bare bytes) (Some tree) 0 at → at ≡ length (bare bytes) → HasNone (TreeFault bytes)
no_tree_fault bytes tree at counts end kind place fault = elim (cases_lt place at) [
  | inl before ↦ counts.no_fault place before (either fault)
  | inr behind ↦ at_end behind (either fault)
]
  where
    either : ((kind ≡ 2) × IsParenFault (bare bytes) place) ⊎ ((kind ≡ 3) × IsDeepFault (bare bytes) place) → Fault (bare bytes) place
    either (inl paren) = inl paren.1
    either (inr deep) = inr deep.1

    outside : at ≤ place → BeginsWord (bare bytes) place ⊎ (Has (bare bytes) place 40 × (0 < opened_before (bare bytes) place)) → ⊥
    outside behind (inl word) = absurd (omega (arith, word.within, end, behind))
    outside behind (inr list) = absurd (omega (arith, list.0.0, end, behind))

    unended : (place ≡ at) → (0 < open_at (bare bytes) place) ⊎ (opened_before (bare bytes) place ≡ 0) → ⊥
    unended same (inl some) = absurd (omega (arith, some, ap (open_at (bare bytes)) same, is_open (bare bytes) (Some tree) 0 at counts))
    unended same (inr none) = absurd (omega (arith, none, ap (opened_before (bare bytes)) same, counts.one_list.1))

    at_end : at ≤ place → Fault (bare bytes) place → ⊥
    at_end behind (inl (inl fault)) = absurd (omega (arith, fault.0.0, end, behind))
    at_end behind (inl (inr (inl fault))) = outside behind fault.1
    at_end behind (inl (inr (inr fault))) = unended (omega (arith, fault.0, end)) fault.1
    at_end behind (inr fault) = absurd (omega (arith, fault.0.0, end, behind))
