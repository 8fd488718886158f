-- The rows of n copies of a pattern. One occurrence of an action after another changes a symbolic state, and adds rows that say
-- when it happens and how often, what it needs and what it changes. They are this project's own, after symbolic patterns
-- (Cardellini, Giunchiglia and Maratea 2024).
use Rattle.std.specs.Prelude.{ℕ, suc, ◌+◌, Bool, true, false, not, List, [], ◌∷◌, ◌++◌, length, nat_eq, nat_lt, map, if◌then◌else◌}
use Rattle.std.specs.List.{flat_map}
use lib.IntN.{pos, negsuc}
use Rattle.rational.specs.Fraction.{whole}
use Rattle.rational.specs.Linear.{Terms}
use Rattle.frac128.specs.declared.operations.Wide.{Wide}
use Rattle.lin.specs.Normal.{is_zero}
use Rattle.lin.specs.Linear.{Linear, fixed, var, add, scale, subst}
use Rattle.lin.specs.Negative.{negative}
use Rattle.lin.specs.Made.{add_ops, scale_ops, subst_ops}
use Rattle.lin.specs.declared.comparison.Cmp.{Cmp}
use Rattle.lin.specs.declared.comparison.Cmp.TheVariants.{Le, Lt, Eq}
use Rattle.task_core.specs.declared.action.GAction.{GAction}
use Rattle.task_core.specs.State.{State}
use Rattle.task_core.specs.Step.{is_in, is_empty, is_rollable}
use Rattle.task_core.specs.Growth.{change_of}
use Rattle.encode_laws.specs.Rows.{Name, is_done, behind, at_most, below, named, Literal, yes, no, lit, opposite, Item, number, boolean, row, needs}
use Rattle.encode_laws.specs.Operations.{minus, minus_ops, change_ops, at_last, at_last_ops}

-- each atom is true, false or a literal, each function a linear expression over numeric variables; the next numeric variable
pub record Symbolic : Type 0 where
  pub truth : ℕ → Literal
  pub value : ℕ → Linear
  pub next : ℕ

abbrev pub constant_literal : Bool → Literal
constant_literal true = yes
constant_literal false = no

-- at the start, the state
abbrev pub symbolic_start : State → Symbolic
symbolic_start s = record { truth = λ p. constant_literal (s.truth p); value = λ f. fixed (s.value f); next = 0 }

-- ---- whether and how often an occurrence happens
-- an occurrence with increments has a count, any other a truth variable
abbrev pub is_counted : GAction → Bool
is_counted a = not (is_empty a.incs)

-- occurrence i happens: its count isn't at most 0, or its truth variable is true
abbrev pub on_of : ℕ → GAction → Symbolic → Literal
on_of i a y = if is_counted a then lit false (at_most (var y.next)) else lit true (named (is_done i))

-- the count is not below 0, and at most 1 unless the action is rollable
abbrev pub count_items : GAction → ℕ → List Item
count_items a c =
    number c true ∷ row (lit false (at_most (add (var c) (fixed (whole (pos 1))))) ∷ [])
    ∷ (if is_rollable a then [] else (row (lit true (at_most (add (var c) (fixed (whole (negsuc 0))))) ∷ []) ∷ []))

abbrev pub first_items : ℕ → GAction → Symbolic → List Item
first_items i a y = if is_counted a then (count_items a y.next ++ boolean (at_most (var y.next)) ∷ []) else (boolean (named (is_done i)) ∷ [])

-- ---- what it needs: rows behind `front`, which says that it doesn't happen
abbrev pub signed_literal : Bool → Literal → Literal
signed_literal b l = if b then l else opposite l

abbrev pub literal_rows : List Literal → Symbolic → List (ℕ × Bool) → List Item
literal_rows front y lits = map (λ l. row (front ++ signed_literal l.1 (y.truth l.0) ∷ [])) lits

-- an expression compares with 0
abbrev pub compared_rows : List Literal → Cmp → Linear → List Item
compared_rows front Le l = row (front ++ lit true (at_most l) ∷ []) ∷ []
compared_rows front Lt l = row (front ++ lit true (below l) ∷ []) ∷ []
compared_rows front Eq l = row (front ++ lit true (at_most l) ∷ []) ∷ row (front ++ lit true (at_most (negative l)) ∷ []) ∷ []

-- the comparisons at the first repetition, in the symbolic state
abbrev pub comparison_rows : List Literal → Symbolic → List (Linear × Cmp) → List Item
comparison_rows front y cmps = flat_map (λ c. needs (subst_ops y.value c.0) ∷ compared_rows front c.1 (subst y.value c.0)) cmps

-- and at the last one: each repetition before it has changed the expression by the same amount
abbrev pub last_rows : List Literal → Terms → Symbolic → List (Linear × Cmp) → List Item
last_rows front incs y cmps =
    flat_map (λ c. needs (change_ops incs c.0) ∷ (if is_zero (change_of incs c.0.terms) then [] else
    (needs (at_last_ops (change_of incs c.0.terms) y.next (subst y.value c.0)) ∷ compared_rows front c.1 (at_last (change_of incs c.0.terms) y.next (subst y.value c.0))))) cmps

-- ---- what it changes: the truth of atoms
-- an atom of truth t that is added, or deleted, where `on` says that the occurrence happens and b is its truth behind it
abbrev pub added : Literal → Literal → Literal → Literal
added on b yes = yes
added on b no = on
added on b (lit s f) = b

abbrev pub deleted : Literal → Literal → Literal → Literal
deleted on b yes = opposite on
deleted on b no = no
deleted on b (lit s f) = b

abbrev pub added_rows : Literal → Name → Literal → List Item
added_rows on n yes = []
added_rows on n no = []
added_rows on n (lit s f) =
    boolean (named n) ∷ row (lit false (named n) ∷ on ∷ lit s f ∷ []) ∷ row (lit true (named n) ∷ opposite on ∷ [])
    ∷ row (lit true (named n) ∷ opposite (lit s f) ∷ []) ∷ []

abbrev pub deleted_rows : Literal → Name → Literal → List Item
deleted_rows on n yes = []
deleted_rows on n no = []
deleted_rows on n (lit s f) =
    boolean (named n) ∷ row (lit false (named n) ∷ opposite on ∷ []) ∷ row (lit false (named n) ∷ lit s f ∷ [])
    ∷ row (lit true (named n) ∷ on ∷ opposite (lit s f) ∷ []) ∷ []

-- the added and the deleted atoms in rising number
abbrev pub with_change : ℕ → Bool → List (ℕ × Bool) → List (ℕ × Bool)
with_change p b [] = (p, b) ∷ []
with_change p b (c ∷ cs) = if nat_lt p c.0 then ((p, b) ∷ c ∷ cs) else (c ∷ with_change p b cs)

abbrev pub changes_from : List ℕ → Bool → List (ℕ × Bool) → List (ℕ × Bool)
changes_from [] b cs = cs
changes_from (p ∷ ps) b cs = with_change p b (changes_from ps b cs)

abbrev pub changes_of : GAction → List (ℕ × Bool)
changes_of a = changes_from a.adds true (changes_from a.dels false [])

abbrev pub change_rows : ℕ → Literal → Symbolic → ℕ × Bool → List Item
change_rows i on y c = if c.1 then added_rows on (behind i c.0) (y.truth c.0) else deleted_rows on (behind i c.0) (y.truth c.0)

abbrev pub truth_rows : ℕ → Literal → Symbolic → List (ℕ × Bool) → List Item
truth_rows i on y cs = flat_map (change_rows i on y) cs

abbrev pub symbolic_truth : ℕ → Literal → GAction → Symbolic → ℕ → Literal
symbolic_truth i on a y p =
    if is_in p a.adds then added on (lit true (named (behind i p))) (y.truth p)
    else (if is_in p a.dels then deleted on (lit true (named (behind i p))) (y.truth p) else y.truth p)

-- ---- what it changes: the values of functions
-- new values have the variables w, w + 1, ..: each is the expression's value where the occurrence happens, else the old value
abbrev pub set_rows : Literal → Symbolic → ℕ → List (ℕ × Linear) → List Item
set_rows on y w [] = []
set_rows on y w (s ∷ ss) =
    number w false
    ∷ needs (subst_ops y.value s.1 ++ minus_ops (var w) (subst y.value s.1)) ∷ row (opposite on ∷ lit true (at_most (minus (var w) (subst y.value s.1))) ∷ [])
    ∷ needs (minus_ops (subst y.value s.1) (var w)) ∷ row (opposite on ∷ lit true (at_most (minus (subst y.value s.1) (var w))) ∷ [])
    ∷ needs (minus_ops (var w) (y.value s.0)) ∷ row (on ∷ lit true (at_most (minus (var w) (y.value s.0))) ∷ [])
    ∷ needs (minus_ops (y.value s.0) (var w)) ∷ row (on ∷ lit true (at_most (minus (y.value s.0) (var w))) ∷ []) ∷ set_rows on y (suc w) ss

-- an increment is made as often as the count says
abbrev pub grown : ℕ → Terms → ℕ → Linear → Linear
grown c [] f l = l
grown c (q ∷ qs) f l = if nat_eq q.0 f then grown c qs f (add l (scale q.1 (var c))) else grown c qs f l

abbrev pub grown_ops : ℕ → (ℕ → Linear) → Terms → List Wide
grown_ops c old [] = []
grown_ops c old (q ∷ qs) = scale_ops q.1 (var c) ++ (add_ops (old q.0) (scale q.1 (var c)) ++ grown_ops c old qs)

-- a function with a new value is its variable, any other its old expression and the increments
abbrev pub symbolic_value : (ℕ → Linear) → ℕ → Terms → ℕ → List (ℕ × Linear) → ℕ → Linear
symbolic_value old c incs w [] f = grown c incs f (old f)
symbolic_value old c incs w (s ∷ ss) f = if nat_eq s.0 f then var w else symbolic_value old c incs (suc w) ss f

abbrev pub first_set : GAction → ℕ → ℕ
first_set a c = if is_counted a then suc c else c

-- the next numeric variable behind an occurrence whose first is c
abbrev pub next_after : GAction → ℕ → ℕ
next_after a c = first_set a c + length a.sets

-- ---- occurrences in a row
abbrev pub symbolic_after : ℕ → GAction → Symbolic → Symbolic
symbolic_after i a y = record {
  truth = symbolic_truth i (on_of i a y) a y;
  value = symbolic_value y.value y.next a.incs (first_set a y.next) a.sets;
  next = next_after a y.next;
}

abbrev pub on_front : ℕ → GAction → Symbolic → List Literal
on_front i a y = opposite (on_of i a y) ∷ []

-- the rows of occurrence i
abbrev pub occurrence : ℕ → GAction → Symbolic → List Item
occurrence i a y =
    first_items i a y
    ++ (literal_rows (on_front i a y) y a.lits
    ++ (comparison_rows (on_front i a y) y a.cmps
    ++ ((if is_rollable a then last_rows (on_front i a y) a.incs y a.cmps else [])
    ++ (truth_rows i (on_of i a y) y (changes_of a)
    ++ (set_rows (on_of i a y) y (first_set a y.next) a.sets
    ++ needs (grown_ops y.next y.value a.incs) ∷ [])))))

abbrev pub goal_rows : GAction → Symbolic → List Item
goal_rows goal y = literal_rows [] y goal.lits ++ comparison_rows [] y goal.cmps

-- from occurrence i on
abbrev pub rows_from : ℕ → List GAction → GAction → Symbolic → List Item
rows_from i [] goal y = goal_rows goal y
rows_from i (a ∷ more) goal y = occurrence i a y ++ rows_from (suc i) more goal (symbolic_after i a y)

-- the rows of actions in a row, from a state on, and of the goal behind them
abbrev pub rows_of : State → GAction → List GAction → List Item
rows_of s goal places = rows_from 0 places goal (symbolic_start s)
