-- The rows of a plain task name truth variables alone, so each Boolean of its formula is one.
use Rattle.std.proofs.Common.{◌≡◌, ℕ, zero, suc, Bool, true, false, ◌&&◌, cond, List, [], ◌∷◌, ◌++◌, map, refl, sym, ap, subst, Some, slice_get, slice_index_or}
use Rattle.std.specs.Prelude.{⊤}
use Rattle.std.specs.List.{AllByRecursion, list_all}
use Rattle.rational.specs.Linear.{Terms}
use Rattle.rational.specs.Fraction.{Fraction, whole, ◌*ℚ◌}
use lib.IntN.{pos, negsuc}
use Rattle.std.proofs.lemmas.Bool.{and_parts}
use Rattle.lin.specs.Linear.{Linear, fixed, linear_of, times, scale, subst as substituted, subst_from}
use Rattle.lin.specs.Negative.{negative}
use Rattle.lin.specs.Made.{subst_ops}
use Rattle.lin.specs.declared.comparison.Cmp.TheVariants.{Le, Lt, Eq}
use Rattle.lin.specs.declared.comparison.Cmp.{Cmp}
use Rattle.formula.specs.declared.atom.Atom.{Atom}
use Rattle.task_core.specs.declared.action.GAction.{GAction}
use Rattle.task_core.specs.State.{State}
use Rattle.task_core.specs.Step.{is_in, is_empty}
use Rattle.task_core.specs.Task.{GroundParts, start, idle, action_at}
use Rattle.encode_laws.specs.Rows.{Name, is_done, behind, Fact, at_most, below, is_at_most, is_below, named, Literal, yes, no, lit, opposite, Item, number, boolean, row, needs}
use Rattle.encode_laws.specs.Symbolic.{Symbolic, constant_literal, symbolic_start, signed_literal, literal_rows, added, deleted, added_rows, deleted_rows, changes_of, change_rows, truth_rows, symbolic_after, occurrence, goal_rows, compared_rows, comparison_rows, rows_from}
use Rattle.encode_laws.specs.Numbering.{Key, atom, truth, constant_plain, at_most_terms, below_terms, plain, plain_fact, signed_plain, same_key, with_key, with_plain, with_row, with_item, table_from, table_of, counts_of, atom_in}
use Rattle.encode_laws.specs.Encoding.{copies, occurrences, items_of, formula_of}
use Rattle.plain_formula.specs.Plain.{is_plain, is_constant, is_plain_goal, is_plain_task}

-- ---- what names truth variables alone, or is a constant

abbrev pub IsNamedFact : Fact → Type 0
IsNamedFact (at_most l) = l.terms ≡ []
IsNamedFact (below l) = l.terms ≡ []
IsNamedFact (named n) = ⊤

abbrev pub IsNamedLiteral : Literal → Type 0
IsNamedLiteral yes = ⊤
IsNamedLiteral no = ⊤
IsNamedLiteral (lit s f) = IsNamedFact f

abbrev pub AreNamed : List Literal → Type 0
AreNamed ls = AllByRecursion IsNamedLiteral ls

abbrev pub IsNamedItem : Item → Type 0
IsNamedItem (number v c) = ⊤
IsNamedItem (boolean f) = IsNamedFact f
IsNamedItem (row ls) = AreNamed ls
IsNamedItem (needs ops) = ⊤

abbrev pub AreNamedItems : List Item → Type 0
AreNamedItems items = AllByRecursion IsNamedItem items

abbrev pub IsTruth : Key → Type 0
IsTruth (atom a) = ⊥
IsTruth (truth n) = ⊤

abbrev pub AreTruths : List Key → Type 0
AreTruths keys = AllByRecursion IsTruth keys

all_append : {X : Type 0} (P : X → Type 0) (xs ys : List X) → AllByRecursion P xs → AllByRecursion P ys → AllByRecursion P (xs ++ ys)
all_append P [] ys h j = j
all_append P (x ∷ xs) ys h j = (h.0, all_append P xs ys h.1 j)

opposite_named : (l : Literal) → IsNamedLiteral l → IsNamedLiteral (opposite l)
opposite_named yes h = tt
opposite_named no h = tt
opposite_named (lit s f) h = h

-- ---- the table has truth variables alone

kept_or_with : (n : Name) (k : Key) (ks : List Key) → AreTruths (k ∷ ks) → AreTruths (with_key (truth n) ks) → (b : Bool) → AreTruths (cond b (k ∷ ks) (k ∷ with_key (truth n) ks))
kept_or_with n k ks h later true = h
kept_or_with n k ks h later false = (h.0, later)

with_key_truths : (n : Name) (keys : List Key) → AreTruths keys → AreTruths (with_key (truth n) keys)
with_key_truths n [] h = (tt, tt)
with_key_truths n (k ∷ ks) h = kept_or_with n k ks h (with_key_truths n ks h.1) (same_key k (truth n))

constant_truths : (s b : Bool) (keys : List Key) → AreTruths keys → AreTruths (with_plain (signed_plain s (constant_plain b)) keys)
constant_truths true true keys h = h
constant_truths true false keys h = h
constant_truths false true keys h = h
constant_truths false false keys h = h

at_most_truths : (counts : List Bool) (ts : Terms) (k : Fraction) (s : Bool) (keys : List Key) → ts ≡ [] → AreTruths keys → AreTruths (with_plain (signed_plain s (at_most_terms counts ts k)) keys)
at_most_truths counts [] k s keys is h = constant_truths s (is_at_most k (whole (pos 0))) keys h
at_most_truths counts (t ∷ ts) k s keys is h = cc is

below_truths : (counts : List Bool) (ts : Terms) (k : Fraction) (s : Bool) (keys : List Key) → ts ≡ [] → AreTruths keys → AreTruths (with_plain (signed_plain s (below_terms counts ts k)) keys)
below_truths counts [] k s keys is h = constant_truths s (is_below k (whole (pos 0))) keys h
below_truths counts (t ∷ ts) k s keys is h = cc is

with_fact_truths : (counts : List Bool) (f : Fact) (s : Bool) (keys : List Key) → IsNamedFact f → AreTruths keys → AreTruths (with_plain (signed_plain s (plain_fact counts f)) keys)
with_fact_truths counts (at_most l) s keys is h = at_most_truths counts l.terms l.constant s keys is h
with_fact_truths counts (below l) s keys is h = below_truths counts l.terms l.constant s keys is h
with_fact_truths counts (named n) true keys is h = with_key_truths n keys h
with_fact_truths counts (named n) false keys is h = with_key_truths n keys h

with_literal_truths : (counts : List Bool) (l : Literal) (keys : List Key) → IsNamedLiteral l → AreTruths keys → AreTruths (with_plain (plain counts l) keys)
with_literal_truths counts yes keys is h = h
with_literal_truths counts no keys is h = h
with_literal_truths counts (lit s f) keys is h = with_fact_truths counts f s keys is h

with_row_truths : (counts : List Bool) (ls : List Literal) (keys : List Key) → AreNamed ls → AreTruths keys → AreTruths (with_row counts ls keys)
with_row_truths counts [] keys are h = h
with_row_truths counts (l ∷ ls) keys are h = with_row_truths counts ls (with_plain (plain counts l) keys) are.1 (with_literal_truths counts l keys are.0 h)

with_item_truths : (counts : List Bool) (x : Item) (keys : List Key) → IsNamedItem x → AreTruths keys → AreTruths (with_item counts x keys)
with_item_truths counts (number v c) keys is h = h
with_item_truths counts (needs ops) keys is h = h
with_item_truths counts (boolean f) keys is h = with_fact_truths counts f true keys is h
with_item_truths counts (row ls) keys is h = with_row_truths counts ls keys is h

table_truths : (counts : List Bool) (items : List Item) (keys : List Key) → AreNamedItems items → AreTruths keys → AreTruths (table_from counts items keys)
table_truths counts [] keys are h = h
table_truths counts (x ∷ xs) keys are h = table_truths counts xs (with_item counts x keys) are.1 (with_item_truths counts x keys are.0 h)

no_atom : (keys : List Key) (b : ℕ) (a : Atom) → AreTruths keys → slice_get (map atom_in keys) b ≡ Some (Some a) → ⊥
no_atom [] b a h is = cc is
no_atom (atom x ∷ ks) b a h is = absurd h.0
no_atom (truth n ∷ ks) zero a h is = cc is
no_atom (truth n ∷ ks) (suc b) a h is = no_atom ks b a h.1 is

-- ---- the rows of a plain action

-- an action with these literals and changes of propositions, and no numbers
abbrev bare : List (ℕ × Bool) → List ℕ → List ℕ → GAction
bare lits adds dels = record { lits = lits; cmps = []; adds = adds; dels = dels; incs = []; sets = [] }

bare_when : (lits : List (ℕ × Bool)) (adds dels : List ℕ) (cmps : List (Linear × Cmp)) (sets : List (ℕ × Linear)) (incs : Terms)
    → (is_empty cmps && (is_empty sets && is_empty incs)) ≡ true
    → record { lits = lits; cmps = cmps; adds = adds; dels = dels; incs = incs; sets = sets } ≡ bare lits adds dels
bare_when lits adds dels [] [] [] is = refl
bare_when lits adds dels [] [] (q ∷ qs) is = cc is
bare_when lits adds dels [] (s ∷ ss) incs is = cc is
bare_when lits adds dels (c ∷ cs) sets incs is = cc is

is_bare : (a : GAction) → is_plain a ≡ true → a ≡ bare a.lits a.adds a.dels
is_bare a is = bare_when a.lits a.adds a.dels a.cmps a.sets a.incs is

-- each atom is true, false or what a truth variable says
abbrev AreNamedTruths : Symbolic → Type 0
AreNamedTruths y = (p : ℕ) → IsNamedLiteral (y.truth p)

signed_named : (b : Bool) (l : Literal) → IsNamedLiteral l → IsNamedLiteral (signed_literal b l)
signed_named true l h = h
signed_named false l h = opposite_named l h

literal_rows_named : (front : List Literal) (y : Symbolic) (lits : List (ℕ × Bool)) → AreNamed front → AreNamedTruths y → AreNamedItems (literal_rows front y lits)
literal_rows_named front y [] f h = tt
literal_rows_named front y (l ∷ ls) f h = (all_append IsNamedLiteral front _ f (signed_named l.1 (y.truth l.0) (h l.0), tt), literal_rows_named front y ls f h)

added_rows_named : (on : Literal) (n : Name) (t : Literal) → IsNamedLiteral on → IsNamedLiteral t → AreNamedItems (added_rows on n t)
added_rows_named on n yes o h = tt
added_rows_named on n no o h = tt
added_rows_named on n (lit s f) o h = (tt, ((tt, (o, (h, tt))), ((tt, (opposite_named on o, tt)), ((tt, (h, tt)), tt))))

deleted_rows_named : (on : Literal) (n : Name) (t : Literal) → IsNamedLiteral on → IsNamedLiteral t → AreNamedItems (deleted_rows on n t)
deleted_rows_named on n yes o h = tt
deleted_rows_named on n no o h = tt
deleted_rows_named on n (lit s f) o h = (tt, ((tt, (opposite_named on o, tt)), ((tt, (h, tt)), ((tt, (o, (h, tt))), tt))))

change_rows_named : (i : ℕ) (on : Literal) (y : Symbolic) (p : ℕ) (b : Bool) → IsNamedLiteral on → AreNamedTruths y → AreNamedItems (change_rows i on y (p, b))
change_rows_named i on y p true o h = added_rows_named on (behind i p) (y.truth p) o (h p)
change_rows_named i on y p false o h = deleted_rows_named on (behind i p) (y.truth p) o (h p)

truth_rows_named : (i : ℕ) (on : Literal) (y : Symbolic) (cs : List (ℕ × Bool)) → IsNamedLiteral on → AreNamedTruths y → AreNamedItems (truth_rows i on y cs)
truth_rows_named i on y [] o h = tt
truth_rows_named i on y (c ∷ cs) o h = all_append IsNamedItem (change_rows i on y c) _ (change_rows_named i on y c.0 c.1 o h) (truth_rows_named i on y cs o h)

added_named : (on b t : Literal) → IsNamedLiteral on → IsNamedLiteral b → IsNamedLiteral (added on b t)
added_named on b yes o h = tt
added_named on b no o h = o
added_named on b (lit s f) o h = h

deleted_named : (on b t : Literal) → IsNamedLiteral on → IsNamedLiteral b → IsNamedLiteral (deleted on b t)
deleted_named on b yes o h = opposite_named on o
deleted_named on b no o h = tt
deleted_named on b (lit s f) o h = h

module _ (i : ℕ) (lits : List (ℕ × Bool)) (adds dels : List ℕ) (y : Symbolic) (h : AreNamedTruths y) where
  bare_named : AreNamedItems (occurrence i (bare lits adds dels) y)
  bare_named =
      let on : Literal = lit true (named (is_done i)) in
      let front : List Literal = lit false (named (is_done i)) ∷ [] in
      let last : AreNamedItems (needs [] ∷ []) = (tt, tt) in (
        tt,
        all_append IsNamedItem (literal_rows front y lits) _ (literal_rows_named front y lits (tt, tt) h)
            (all_append IsNamedItem (truth_rows i on y (changes_of (bare lits adds dels))) _ (truth_rows_named i on y (changes_of (bare lits adds dels)) tt h) last),
      )

  truth_by : (p : ℕ) (a d : Bool) → IsNamedLiteral (cond a (added (lit true (named (is_done i))) (lit true (named (behind i p))) (y.truth p))
      (cond d (deleted (lit true (named (is_done i))) (lit true (named (behind i p))) (y.truth p)) (y.truth p)))
  truth_by p true d = added_named (lit true (named (is_done i))) (lit true (named (behind i p))) (y.truth p) tt tt
  truth_by p false true = deleted_named (lit true (named (is_done i))) (lit true (named (behind i p))) (y.truth p) tt tt
  truth_by p false false = h p

  bare_truths : AreNamedTruths (symbolic_after i (bare lits adds dels) y)
  bare_truths p = truth_by p (is_in p adds) (is_in p dels)

-- ---- a goal compares constants at most

constant_subst : (by : ℕ → Linear) (l : Linear) → l.terms ≡ [] → (substituted by l).terms ≡ []
unfolding substituted
constant_subst by l is = ap (λ (ts : Terms). (subst_from by (fixed l.constant) ts).terms) is

constant_negative : (l : Linear) → l.terms ≡ [] → (negative l).terms ≡ []
unfolding scale
constant_negative l is = ap (λ (ts : Terms). (linear_of (times (whole (negsuc 0)) ts) (whole (negsuc 0) *ℚ l.constant)).terms) is

compared_named : (c : Cmp) (l : Linear) → l.terms ≡ [] → AreNamedItems (compared_rows [] c l)
compared_named Le l is = ((is, tt), tt)
compared_named Lt l is = ((is, tt), tt)
compared_named Eq l is = ((is, tt), ((constant_negative l is, tt), tt))

no_terms : (ts : Terms) → is_empty ts ≡ true → ts ≡ []
no_terms [] is = refl
no_terms (t ∷ ts) is = cc is

comparisons_named : (y : Symbolic) (cmps : List (Linear × Cmp)) → list_all is_constant cmps ≡ true → AreNamedItems (comparison_rows [] y cmps)
comparisons_named y [] is = tt
comparisons_named y (c ∷ cs) is =
    let parts = and_parts (is_constant c) (list_all is_constant cs) is in
    all_append IsNamedItem (needs (subst_ops y.value c.0) ∷ compared_rows [] c.1 (substituted y.value c.0)) (comparison_rows [] y cs)
    (tt, compared_named c.1 (substituted y.value c.0) (constant_subst y.value c.0 (no_terms c.0.terms parts.0))) (comparisons_named y cs parts.1)

goal_named : (goal : GAction) (y : Symbolic) → is_plain_goal goal ≡ true → AreNamedTruths y → AreNamedItems (goal_rows goal y)
goal_named goal y g h = all_append IsNamedItem (literal_rows [] y goal.lits) (comparison_rows [] y goal.cmps) (literal_rows_named [] y goal.lits tt h) (comparisons_named y goal.cmps g)

rows_named : (i : ℕ) (places : List GAction) (goal : GAction) (y : Symbolic) → AllByRecursion (λ a. is_plain a ≡ true) places → is_plain_goal goal ≡ true → AreNamedTruths y → AreNamedItems (rows_from i places goal y)
rows_named i [] goal y each g h = goal_named goal y g h
rows_named i (a ∷ more) goal y each g h = all_append IsNamedItem (occurrence i a y) _
    (subst (λ (x : GAction). AreNamedItems (occurrence i x y)) (sym (is_bare a each.0)) (bare_named i a.lits a.adds a.dels y h))
    (rows_named (suc i) more goal (symbolic_after i a y) each.1 g
    (subst (λ (x : GAction). AreNamedTruths (symbolic_after i x y)) (sym (is_bare a each.0)) (bare_truths i a.lits a.adds a.dels y h)))

-- ---- the formula of a plain task

both_true : (a b : Bool) → (a && b) ≡ true → (a ≡ true) × (b ≡ true)
both_true true true is = (refl, refl)
both_true true false is = cc is
both_true false b is = cc is

action_plain : (actions : List GAction) (n : ℕ) → list_all is_plain actions ≡ true → is_plain (slice_index_or actions n idle) ≡ true
action_plain [] n is = refl
action_plain (a ∷ more) zero is = (both_true (is_plain a) (list_all is_plain more) is).0
action_plain (a ∷ more) (suc n) is = action_plain more n (both_true (is_plain a) (list_all is_plain more) is).1

occurrences_plain : (task : GroundParts) (places : List ℕ) → list_all is_plain task.actions ≡ true → AllByRecursion (λ a. is_plain a ≡ true) (map (action_at task) places)
occurrences_plain task [] is = tt
occurrences_plain task (p ∷ ps) is = (action_plain task.actions p is, occurrences_plain task ps is)

start_named : (s : State) → AreNamedTruths (symbolic_start s)
start_named s p = constant_named (s.truth p)
  where
    constant_named : (b : Bool) → IsNamedLiteral (constant_literal b)
    constant_named true = tt
    constant_named false = tt

pub plain_has_no_atom : (task : GroundParts) (pattern : List ℕ) (n b : ℕ) (a : Atom) → is_plain_task task ≡ true
    → slice_get (formula_of task pattern n).atoms b ≡ Some (Some a) → ⊥
plain_has_no_atom task pattern n b a is has =
    let plain = both_true (is_plain_goal task.goal) (list_all is_plain task.actions) is in
    no_atom (table_of (items_of task pattern n)) b a
    (table_truths (counts_of (items_of task pattern n)) (items_of task pattern n) []
    (rows_named 0 (occurrences task pattern n) task.goal (symbolic_start (start task)) (occurrences_plain task (copies n pattern) plain.1) plain.0 (start_named (start task))) tt) has
