-- What one occurrence makes, part by part.
use Rattle.std.proofs.Common.{◌≡◌, ℕ, suc, ◌+◌, ◌<◌, ◌≤◌, Bool, true, false, cond, List, [], ◌∷◌, ◌++◌, length, map, refl, sym, ap, ap₂, subst, ◌∙◌, arith, append_assoc, length-append}
use Rattle.std.specs.Prelude.{Result, Ok, Err, IfOk, slice_index_or}
use Rattle.std.specs.List.{All, AllByRecursion}
use Rattle.std.proofs.lemmas.List.{append-nil}
use Rattle.std.proofs.lemmas.List.Elements.{All-cons}
use mathlib.Core.Path.{fun_ext}
use lib.IntN.{negsuc}
use Rattle.rational.specs.Fraction.{whole}
use Rattle.rational.specs.Linear.{Terms}
use Rattle.lin.specs.Normal.{is_zero}
use Rattle.lin.specs.Linear.{Linear, replacement_of, fixed, var, add, subst as substituted}
use Rattle.lin.specs.Made.{subst_ops}
use Rattle.lin.specs.Operations.{AllFit, IsRefusal}
use Rattle.lin.specs.declared.failure.LinFail.{LinFail}
use Rattle.lin.specs.declared.comparison.Cmp.{Cmp}
use Rattle.lin.specs.declared.comparison.Cmp.TheVariants.{Le, Lt, Eq}
use Rattle.frac128.specs.declared.operations.Wide.{Wide}
use Rattle.task_core.specs.declared.action.GAction.{GAction}
use Rattle.task_core.specs.Step.{is_in, is_rollable}
use Rattle.task_core.specs.Growth.{change_of}
use Rattle.formula.specs.Contents.{Contents}
use Rattle.encode_rows.specs.declared.clause.Truth.{Truth}
use Rattle.encode_rows.specs.declared.clause.Truth.TheVariants.{No}
use Rattle.encode_rows.specs.declared.symbols.Symbols.{Symbols}
use Rattle.encode_laws.specs.Rows.{Name, is_done, behind, at_most, named, Literal, yes, no, lit, opposite, Item, boolean, row, needs}
use Rattle.encode_laws.specs.Numbering.{counts_of}
use Rattle.encode_laws.specs.Refusals.{AllNamedFit}
use Rattle.encode_laws.specs.Operations.{at_last, at_last_ops}
use Rattle.encode_laws.specs.Symbolic.{Symbolic, is_counted, on_of, count_items, first_items, signed_literal, compared_rows, last_rows, added_rows, deleted_rows, changes_of, change_rows, truth_rows, set_rows, symbolic_truth, symbolic_value, grown_ops, first_set, next_after, symbolic_after, occurrence}
use Rattle.encode_laws.specs.Made.{Made, made_from, named_from, TermsBelow, LiteralBelow}
use Rattle.task_core.proofs.RollingLaws.{rollable-counts}
use Rattle.encode_laws.proofs.MadeLaws.{made-append, named-append, counts-append, counts-made}
use Rattle.encode_laws.proofs.Below.{SymbolicBelow, after-below}
use Rattle.encode_rows.specs.Standing.{Stands, Knows, opposite_truth, Makes, IsNew}
use Rattle.encode_rows.specs.Symbols.{Shows, HasState, MakesRows, asked_rows, first_rows}
use Rattle.encode_rows.specs.Lasting.{last_rows_at, IsReplaced}
use Rattle.encode_rows.specs.Names.{occurrence_of, LiteralNames, ItemNames}
use Rattle.encode_rows.specs.Changed.{ShowsTruths, AreNew, HasTruths, MakesChanges, changed_truth}
use Rattle.encode_rows.specs.Setting.{set_list}
use Rattle.encode_rows.specs.Growing.{Renews}
use Rattle.encode_rows.specs.Beginning.{IsStanding, Begins}
use Rattle.encode.specs.inside.Occurring.{IsSized, rolled_rows, needed_rows, value_items, ShowsValues, ChangesValues, effect_items, ShowsAfter, TakesEffect, later_items, Continues, HasOccurrence, IsNext, HasNext, Occurs}
use Rattle.encode_rows.proofs.Standing.{makes_then, makes_stop, fit_named, all_left, all_right, knows-later}
use Rattle.encode_rows.proofs.ComparisonLaws.{shows-later, state-later, needs-fit, needs-stop}
use Rattle.encode_rows.proofs.NameLaws.{names-stay, knows-apart, names-append, opposite-names, change-names}
use Rattle.encode_rows.proofs.SettingLaws.{opposite-knows, sets-as-defined, sets-by-values}
use Rattle.encode_rows.proofs.RisingLaws.{rising-distinct}
use Rattle.encode_rows.proofs.OrderLaws.{AreOnce, truth-behind, rows-behind}

-- ---- rows in a row
module _ (old mid : Contents) (s : Symbols) (front : Truth) (x z : Literal → Symbolic → List Item) (U : Type 0) where
  pub rows-then : {X : Type 0} (new : Contents) (u : U) (r : Result X LinFail) → MakesRows {X = U} old s front x mid (Ok u) → MakesRows mid s front z new r → MakesRows old s front (λ f y. x f y ++ z f y) new r
  rows-then new u r p q m f y st k sh =
      let a = p m f y st k sh in
      makes_then (x f y) (z f y) m new r a.0 (q (made_from (x f y) m) f y a.1 (knows-later (x f y) m f front k) (shows-later (x f y) m y s sh))

  pub rows-stop : (X : Type 0) (e : LinFail) → MakesRows {X = U} old s front x mid (Err e) → MakesRows {X = X} old s front (λ f y. x f y ++ z f y) mid (Err e)
  rows-stop X e p m f y st k sh = makes_stop U X (x f y) (z f y) m mid e (p m f y st k sh)

-- what an action needs behind its literals
abbrev pub needed-2 : ℕ → GAction → Literal → Symbolic → List Item
needed-2 c a f y = first_rows a.cmps f y ++ rolled_rows c a f y

-- what was made stands
pub state-then : (old new : Contents) (s : Symbols) (front : Truth) (x : Literal → Symbolic → List Item) (X : Type 0) (u : X) → HasState old s front → MakesRows {X = X} old s front x new (Ok u) → HasState new s front
state-then old new s front x X u h p = state-later old new s front X u (x h.literal h.symbolic) h (p h.made h.literal h.symbolic h.stands h.knows h.shows)

-- the replacements of comparisons that were made
replaced-from : (s : Symbols) (f : Literal) (y : Symbolic) (m : Made) → y.value ≡ replacement_of s.values → (cmps : List (Linear × Cmp)) → AllNamedFit (named_from (first_rows cmps f y) m) → All (IsReplaced s) cmps
replaced-from s f y m e [] h = λ k d l. absurd (omega arith)
replaced-from s f y m e (c ∷ cs) h =
    let one = needs (subst_ops y.value c.0) ∷ compared_rows (f ∷ []) c.1 (substituted y.value c.0) in
    let parts = subst AllNamedFit (named-append (needs (subst_ops y.value c.0) ∷ compared_rows (f ∷ []) c.1 (substituted y.value c.0)) (first_rows cs f y) m) h in
    let left = fit_left (named_from (needs (subst_ops y.value c.0) ∷ compared_rows (f ∷ []) c.1 (substituted y.value c.0)) m) (named_from (first_rows cs f y) (made_from one m)) parts in
    let right = fit_right (named_from (needs (subst_ops y.value c.0) ∷ compared_rows (f ∷ []) c.1 (substituted y.value c.0)) m) (named_from (first_rows cs f y) (made_from one m)) parts in
    All-cons (IsReplaced s) c cs
    (subst (λ (of : ℕ → Linear). AllFit (subst_ops of c.0)) e
    (fit_named (suc (length m.clauses)) (subst_ops y.value c.0) (fit_left (map (λ o. (suc (length m.clauses), o)) (subst_ops y.value c.0)) (named_from (compared_rows (f ∷ []) c.1 (substituted y.value c.0)) m) left)))
    (replaced-from s f y (made_from one m) e cs right)
  where
    fit_left : (xs ys : List (ℕ × Wide)) → AllNamedFit (xs ++ ys) → AllNamedFit xs
    fit_left xs ys h = all_left _ xs ys h

    fit_right : (xs ys : List (ℕ × Wide)) → AllNamedFit (xs ++ ys) → AllNamedFit ys
    fit_right xs ys h = all_right _ xs ys h

pub replaced-by : (old new : Contents) (s : Symbols) (front : Truth) (cmps : List (Linear × Cmp)) (X : Type 0) (u : X) → HasState old s front → MakesRows {X = X} old s front (first_rows cmps) new (Ok u) → All (IsReplaced s) cmps
replaced-by old new s front cmps X u h p =
    replaced-from s h.literal h.symbolic h.made h.shows.values cmps (p h.made h.literal h.symbolic h.stands h.knows h.shows).0

-- ---- the rows of a rollable action
module _ (old : Contents) (s : Symbols) (front : Truth) (a : GAction) (c : ℕ) where
  pub rolled-by : {X : Type 0} (new : Contents) (r : Result X LinFail) → is_rollable a ≡ true → MakesRows old s front (last_rows_at a.incs c a.cmps) new r → MakesRows old s front (rolled_rows c a) new r
  rolled-by new r e p m f y st k sh = subst (λ (b : Bool). Makes (cond b (last_rows_at a.incs c a.cmps f y) []) m new r) (sym e) (p m f y st k sh)

  pub unrolled-by : (X : Type 0) (u : X) → is_rollable a ≡ false → MakesRows {X = X} old s front (rolled_rows c a) old (Ok u)
  unrolled-by X u e m f y st k sh = subst (λ (b : Bool). Makes {X = X} (cond b (last_rows_at a.incs c a.cmps f y) []) m old (Ok u)) (sym e) (tt, st)

-- ---- what has no numeric variable
module _ (f : Literal) (y : Symbolic) where
  asked-counts : (lits : List (ℕ × Bool)) → counts_of (asked_rows lits f y) ≡ []
  asked-counts [] = refl
  asked-counts (l ∷ ls) = asked-counts ls

  compared-counts : (c : Cmp) (l : Linear) → counts_of (compared_rows (f ∷ []) c l) ≡ []
  compared-counts Le l = refl
  compared-counts Lt l = refl
  compared-counts Eq l = refl

  first-counts : (cmps : List (Linear × Cmp)) → counts_of (first_rows cmps f y) ≡ []
  first-counts [] = refl
  first-counts (c ∷ cs) = counts-append (compared_rows (f ∷ []) c.1 (substituted y.value c.0)) (first_rows cs f y) ∙ ap₂ (λ (xs ys : List Bool). xs ++ ys) (compared-counts c.1 (substituted y.value c.0)) (first-counts cs)

  last-counts : (incs : Terms) (cmps : List (Linear × Cmp)) → counts_of (last_rows (f ∷ []) incs y cmps) ≡ []
  last-counts incs [] = refl
  last-counts incs (c ∷ cs) =
      counts-append (cond (is_zero (change_of incs c.0.terms)) [] (needs (at_last_ops (change_of incs c.0.terms) y.next (substituted y.value c.0)) ∷ compared_rows (f ∷ []) c.1 (at_last (change_of incs c.0.terms) y.next (substituted y.value c.0)))) (last_rows (f ∷ []) incs y cs)
      ∙ ap₂ (λ (xs ys : List Bool). xs ++ ys) (by_test (is_zero (change_of incs c.0.terms))) (last-counts incs cs)
    where
      by_test : (b : Bool) → counts_of (cond b [] (needs (at_last_ops (change_of incs c.0.terms) y.next (substituted y.value c.0)) ∷ compared_rows (f ∷ []) c.1 (at_last (change_of incs c.0.terms) y.next (substituted y.value c.0)))) ≡ []
      by_test true = refl
      by_test false = compared-counts c.1 (at_last (change_of incs c.0.terms) y.next (substituted y.value c.0))

rolled-counts : (c : ℕ) (a : GAction) (f : Literal) (y : Symbolic) → counts_of (rolled_rows c a f y) ≡ []
rolled-counts c a f y = by_test (is_rollable a)
  where
    by_test : (b : Bool) → counts_of (cond b (last_rows_at a.incs c a.cmps f y) []) ≡ []
    by_test true = last-counts f (record { truth = y.truth; value = y.value; next = c }) a.incs a.cmps
    by_test false = refl

needed-counts : (c : ℕ) (a : GAction) (f : Literal) (y : Symbolic) → counts_of (needed_rows c a f y) ≡ []
needed-counts c a f y =
    counts-append (asked_rows a.lits f y) (first_rows a.cmps f y ++ rolled_rows c a f y)
    ∙ ap₂ (λ (xs ys : List Bool). xs ++ ys) (asked-counts f y a.lits)
    (counts-append (first_rows a.cmps f y) (rolled_rows c a f y) ∙ ap₂ (λ (xs ys : List Bool). xs ++ ys) (first-counts f y a.cmps) (rolled-counts c a f y))

truth-counts : (i : ℕ) (o : Literal) (y : Symbolic) (cs : List (ℕ × Bool)) → counts_of (truth_rows i o y cs) ≡ []
truth-counts i o y [] = refl
truth-counts i o y (c ∷ cs) = counts-append (change_rows i o y c) (truth_rows i o y cs) ∙ ap₂ (λ (xs ys : List Bool). xs ++ ys) (by_sign c.1) (truth-counts i o y cs)
  where
    added-counts : (n : Name) (t : Literal) → counts_of (added_rows o n t) ≡ []
    added-counts n yes = refl
    added-counts n no = refl
    added-counts n (lit s f) = refl

    deleted-counts : (n : Name) (t : Literal) → counts_of (deleted_rows o n t) ≡ []
    deleted-counts n yes = refl
    deleted-counts n no = refl
    deleted-counts n (lit s f) = refl

    by_sign : (b : Bool) → counts_of (cond b (added_rows o (behind i c.0) (y.truth c.0)) (deleted_rows o (behind i c.0) (y.truth c.0))) ≡ []
    by_sign true = added-counts (behind i c.0) (y.truth c.0)
    by_sign false = deleted-counts (behind i c.0) (y.truth c.0)

pub sets-count : (o : Literal) (y : Symbolic) (w : ℕ) (ss : List (ℕ × Linear)) → length (counts_of (set_rows o y w ss)) ≡ length ss
sets-count o y w [] = refl
sets-count o y w (s ∷ ss) = ap suc (sets-count o y (suc w) ss)

list-count : (o : Literal) (y : Symbolic) (w : ℕ) (ss : List (ℕ × Linear)) → length (counts_of (set_list w ss o y)) ≡ length ss
list-count o y w [] = refl
list-count o y w (s ∷ ss) = ap suc (list-count o y (suc w) ss)

-- rows without a numeric variable leave the counts as they are
none-made : (xs : List Item) (m : Made) → counts_of xs ≡ [] → (made_from xs m).counts ≡ m.counts
none-made xs m e = counts-made xs m ∙ ap (λ (cs : List Bool). m.counts ++ cs) e ∙ append-nil m.counts

-- ---- the values of functions
module _ (a : GAction) (c : ℕ) (old mid new : Contents) (s t : Symbols) (on : Truth) where
  pub values-stop : (U X : Type 0) (e : LinFail) → MakesRows {X = U} old s on (set_list (length old.counts) a.sets) mid (Err e) → ChangesValues {X = X} a c old s on mid t (Err e)
  values-stop U X e p m o y st k sh =
      let w : length old.counts ≡ length m.counts = ap (λ (f : Contents). length f.counts) st.contents in
      let made = subst (λ (n : ℕ). Makes {X = U} (set_list n a.sets o y) m mid (Err e)) w (p m o y st k sh) in
      (makes_stop U X (set_rows o y (length m.counts) a.sets) (needs (grown_ops c y.value a.incs) ∷ []) m mid e (sets-as-defined o y y refl {X = U} a.sets (length m.counts) m mid (Err e) made), tt)

  module _ (U : Type 0) (u : U) (p : MakesRows {X = U} old s on (set_list (length old.counts) a.sets) mid (Ok u)) where
    rows-made : (m : Made) (o : Literal) (y : Symbolic) → Stands m old → Knows m o on → Shows m y s → Makes {X = U} (set_rows o y (length m.counts) a.sets) m mid (Ok u)
    rows-made m o y st k sh =
        let w : length old.counts ≡ length m.counts = ap (λ (f : Contents). length f.counts) st.contents in
        sets-as-defined o y y refl {X = U} a.sets (length m.counts) m mid (Ok u) (subst (λ (n : ℕ). Makes {X = U} (set_list n a.sets o y) m mid (Ok u)) w (p m o y st k sh))

    pub values-number : HasState old s on → length mid.counts ≡ length old.counts + length a.sets
    values-number h =
        let made = p h.made h.literal h.symbolic h.stands h.knows h.shows in
        let e : length mid.counts ≡ length (h.made.counts ++ counts_of (set_list (length old.counts) a.sets h.literal h.symbolic)) =
        ap (λ (f : Contents). length f.counts) made.1.contents ∙ ap length (counts-made (set_list (length old.counts) a.sets h.literal h.symbolic) h.made) in
        let l = length-append {A = Bool} h.made.counts (counts_of (set_list (length old.counts) a.sets h.literal h.symbolic)) in
        let n = list-count h.literal h.symbolic (length old.counts) a.sets in
        let v : length old.counts ≡ length h.made.counts = ap (λ (f : Contents). length f.counts) h.stands.contents in
        omega arith

    pub values-made : {X : Type 0} (r : Result X LinFail) → Renews c (length old.counts) a s.values t.values r → ChangesValues a c old s on mid t r
    values-made {X = X} (Ok x) h m o y st k sh =
        let w : length old.counts ≡ length m.counts = ap (λ (f : Contents). length f.counts) st.contents in
        let rows = rows-made m o y st k sh in (
          makes_then {X = X} (set_rows o y (length m.counts) a.sets) (needs (grown_ops c y.value a.incs) ∷ []) m mid (Ok x) rows.0
              (needs-fit (made_from (set_rows o y (length m.counts) a.sets) m) mid (grown_ops c y.value a.incs) X x rows.1 (subst (λ (of : ℕ → Linear). AllFit (grown_ops c of a.incs)) (sym sh.values) h.0)),
          λ f. h.1 f ∙ ap₂ (λ (of : ℕ → Linear) (n : ℕ). symbolic_value of c a.incs n a.sets f) (sym sh.values) w,
        )
    values-made {X = X} (Err e) h m o y st k sh =
        let rows = rows-made m o y st k sh in (
          makes_then {X = X} (set_rows o y (length m.counts) a.sets) (needs (grown_ops c y.value a.incs) ∷ []) m mid (Err e) rows.0
              (needs-stop (made_from (set_rows o y (length m.counts) a.sets) m) mid (grown_ops c y.value a.incs) X e rows.1 (subst (λ (of : ℕ → Linear). IsRefusal (grown_ops c of a.incs) e) (sym sh.values) h)),
          tt,
        )

-- ---- an action whose numbers are known
module _ (atoms funcs : ℕ) (a : GAction) (h : IsSized atoms funcs a) where
  pub sized-once : AreOnce a
  sized-once = record {
    adds = rising-distinct a.adds h.orderly.adds;
    dels = rising-distinct a.dels h.orderly.dels;
    apart = each a.adds h.orderly.atoms_apart;
  }
    where
      each : (ps : List ℕ) → All (λ p. is_in p a.dels ≡ false) ps → AllByRecursion (λ p. is_in p a.dels ≡ false) ps
      each [] g = tt
      each (p ∷ ps) g = (g 0 p (omega arith), each ps (λ k d l. g (suc k) d (omega arith)))

-- ---- the truths of atoms, and then the values
module _ (a : GAction) (c : ℕ) (old mid : Contents) (s : Symbols) (us : List Truth) (on : Truth) (once : AreOnce a) where
  all-new : (i : ℕ) (m : Made) → ((p : ℕ) → IsNew (behind i p) m.keys) → (cs : List (ℕ × Bool)) → AreNew i cs m.keys
  all-new i m h [] = tt
  all-new i m h (d ∷ ds) = (h d.0, all-new i m h ds)

  pub effect-truths : HasOccurrence old s on → HasTruths old s.truths on (changes_of a)
  effect-truths h = record {
    made = h.made;
    number = h.number;
    happens = h.literal;
    truth = h.symbolic.truth;
    stands = h.stands;
    knows = h.knows;
    shows = h.shows.truths;
    are_new = all-new h.number h.made h.fresh (changes_of a);
  }

  pub effect-stop : (U X : Type 0) (t : Symbols) (e : LinFail) → MakesChanges {X = U} (changes_of a) old s.truths on mid us (Err e) → TakesEffect {X = X} a c old s on mid t (Err e)
  effect-stop U X t e p m i o y st k sh n = (
    makes_stop U X (truth_rows i o y (changes_of a)) (value_items a c (length m.counts) o y) m mid e
        (subst (λ (xs : List Item). Makes {X = U} xs m mid (Err e)) (rows-behind a once i o y) (p m i o y.truth st k sh.truths (all-new i m n (changes_of a))).0),
    tt,
  )

  module _ (U : Type 0) (u : U) (p : MakesChanges {X = U} (changes_of a) old s.truths on mid us (Ok u)) where
    -- the symbolic state with the new truths
    abbrev turned : ℕ → Literal → Symbolic → Symbolic
    turned i o y = record { truth = changed_truth i o (changes_of a) y.truth; value = y.value; next = y.next }

    truths-made : (m : Made) (i : ℕ) (o : Literal) (y : Symbolic) → Stands m old → Knows m o on → Shows m y s → ((q : ℕ) → IsNew (behind i q) m.keys)
        → Makes {X = U} (truth_rows i o y (changes_of a)) m mid (Ok u) × ShowsTruths (made_from (truth_rows i o y (changes_of a)) m) (changed_truth i o (changes_of a) y.truth) us
    truths-made m i o y st k sh n =
        let made = p m i o y.truth st k sh.truths (all-new i m n (changes_of a)) in
        let e = rows-behind a once i o y in (
          subst (λ (xs : List Item). Makes {X = U} xs m mid (Ok u)) e made.0,
          subst (λ (xs : List Item). ShowsTruths (made_from xs m) (changed_truth i o (changes_of a) y.truth) us) e made.1,
        )

    module _ (s2 : Symbols) (e1 : s2.truths ≡ us) (e2 : s2.values ≡ s.values) where
      turned-shows : (m : Made) (i : ℕ) (o : Literal) (y : Symbolic) → Stands m old → Knows m o on → Shows m y s → ((q : ℕ) → IsNew (behind i q) m.keys)
          → Shows (made_from (truth_rows i o y (changes_of a)) m) (turned i o y) s2
      turned-shows m i o y st k sh n =
          let rows = truth_rows i o y (changes_of a) in
          let later = shows-later (truth_rows i o y (changes_of a)) m y s sh in
          record {
            truths = subst (λ (ts : List Truth). ShowsTruths (made_from (truth_rows i o y (changes_of a)) m) (changed_truth i o (changes_of a) y.truth) ts) (sym e1) (truths-made m i o y st k sh n).1;
            values = sh.values ∙ ap replacement_of (sym e2);
            below = later.below;
          }

      pub effect-state : HasOccurrence old s on → HasState mid s2 on
      effect-state h = record {
        made = made_from (truth_rows h.number h.literal h.symbolic (changes_of a)) h.made;
        literal = h.literal;
        symbolic = turned h.number h.literal h.symbolic;
        stands = (truths-made h.made h.number h.literal h.symbolic h.stands h.knows h.shows h.fresh).0.1;
        knows = knows-later (truth_rows h.number h.literal h.symbolic (changes_of a)) h.made h.literal on h.knows;
        shows = turned-shows h.made h.number h.literal h.symbolic h.stands h.knows h.shows h.fresh;
      }

      pub effect-made : {X : Type 0} (new : Contents) (t : Symbols) (r : Result X LinFail) → t.truths ≡ s2.truths → ChangesValues a c mid s2 on new t r → TakesEffect a c old s on new t r
      effect-made {X = X} new t r e q m i o y st k sh n =
          let rows = truth_rows i o y (changes_of a) in
          let made = truths-made m i o y st k sh n in
          let m1 = made_from (truth_rows i o y (changes_of a)) m in
          let count : length m1.counts ≡ length m.counts = ap length (none-made (truth_rows i o y (changes_of a)) m (truth-counts i o y (changes_of a))) in
          let k1 = knows-later (truth_rows i o y (changes_of a)) m o on k in
          let next = q m1 o (turned i o y) made.0.1 k1 (turned-shows m i o y st k sh n) in
          let next_items = subst (λ (w : ℕ). Makes (value_items a c w o (turned i o y)) m1 new r) count next.0 in
          let same : value_items a c (length m.counts) o (turned i o y) ≡ value_items a c (length m.counts) o y =
          ap (λ (xs : List Item). xs ++ needs (grown_ops c y.value a.incs) ∷ []) (sets-by-values o (turned i o y) y refl a.sets (length m.counts)) in
          let whole = makes_then (truth_rows i o y (changes_of a)) (value_items a c (length m.counts) o y) m new r made.0.0 (subst (λ (xs : List Item). Makes xs m1 new r) same next_items) in
          (whole, after r m i o y made.1 count next.1)
        where
          after : (r : Result X LinFail) (m : Made) (i : ℕ) (o : Literal) (y : Symbolic) → ShowsTruths (made_from (truth_rows i o y (changes_of a)) m) (changed_truth i o (changes_of a) y.truth) us
              → length (made_from (truth_rows i o y (changes_of a)) m).counts ≡ length m.counts
              → IfOk r (λ _. ShowsValues a c (length (made_from (truth_rows i o y (changes_of a)) m).counts) (turned i o y) t.values)
              → IfOk r (λ _. ShowsAfter (made_from (effect_items i a c (length m.counts) o y) m) i a c (length m.counts) o y t)
          after (Err g) m i o y ts count v = tt
          after (Ok x) m i o y ts count v =
              let rows = truth_rows i o y (changes_of a) in
              let values = value_items a c (length m.counts) o y in (
                λ q. subst (λ (k : Made). Knows k (symbolic_truth i o a y q) (slice_index_or t.truths q No)) (sym (made-append (truth_rows i o y (changes_of a)) (value_items a c (length m.counts) o y) m))
                    (subst (λ (l : Literal). Knows (made_from (value_items a c (length m.counts) o y) (made_from (truth_rows i o y (changes_of a)) m)) l (slice_index_or t.truths q No)) (truth-behind a once i o y q)
                    (knows-later (value_items a c (length m.counts) o y) (made_from (truth_rows i o y (changes_of a)) m) (changed_truth i o (changes_of a) y.truth q) (slice_index_or t.truths q No)
                    (subst (λ (zs : List Truth). Knows (made_from (truth_rows i o y (changes_of a)) m) (changed_truth i o (changes_of a) y.truth q) (slice_index_or zs q No)) (sym (e ∙ e1)) (ts q)))),
                λ f. v f ∙ ap (λ (n : ℕ). symbolic_value y.value c a.incs n a.sets f) count,
              )

-- ---- the names of what is made
module _ (P : Name → Type 0) (y : Symbolic) (truths : (p : ℕ) → LiteralNames P (y.truth p)) where
  module _ (f : Literal) (front : LiteralNames P f) where
    signed-names : (b : Bool) (l : Literal) → LiteralNames P l → LiteralNames P (signed_literal b l)
    signed-names true l h = h
    signed-names false l h = opposite-names P l h

    asked-names : (lits : List (ℕ × Bool)) → AllByRecursion (ItemNames P) (asked_rows lits f y)
    asked-names [] = tt
    asked-names (l ∷ ls) = ((front, (signed-names l.1 (y.truth l.0) (truths l.0), tt)), asked-names ls)

    compared-names : (c : Cmp) (l : Linear) → AllByRecursion (ItemNames P) (compared_rows (f ∷ []) c l)
    compared-names Le l = ((front, (tt, tt)), tt)
    compared-names Lt l = ((front, (tt, tt)), tt)
    compared-names Eq l = ((front, (tt, tt)), ((front, (tt, tt)), tt))

    first-names : (cmps : List (Linear × Cmp)) → AllByRecursion (ItemNames P) (first_rows cmps f y)
    first-names [] = tt
    first-names (c ∷ cs) = (tt, names-append P (compared_rows (f ∷ []) c.1 (substituted y.value c.0)) (first_rows cs f y) (compared-names c.1 (substituted y.value c.0)) (first-names cs))

    last-names : (n : ℕ) (incs : Terms) (cmps : List (Linear × Cmp)) → AllByRecursion (ItemNames P) (last_rows_at incs n cmps f y)
    last-names n incs [] = tt
    last-names n incs (c ∷ cs) = (
      tt,
      names-append P (cond (is_zero (change_of incs c.0.terms)) [] (needs (at_last_ops (change_of incs c.0.terms) n (substituted y.value c.0)) ∷ compared_rows (f ∷ []) c.1 (at_last (change_of incs c.0.terms) n (substituted y.value c.0)))) (last_rows_at incs n cs f y)
          (by_test (is_zero (change_of incs c.0.terms))) (last-names n incs cs),
    )
      where
        by_test : (b : Bool) → AllByRecursion (ItemNames P) (cond b [] (needs (at_last_ops (change_of incs c.0.terms) n (substituted y.value c.0)) ∷ compared_rows (f ∷ []) c.1 (at_last (change_of incs c.0.terms) n (substituted y.value c.0))))
        by_test true = tt
        by_test false = (tt, compared-names c.1 (at_last (change_of incs c.0.terms) n (substituted y.value c.0)))

    rolled-names : (c : ℕ) (a : GAction) → AllByRecursion (ItemNames P) (rolled_rows c a f y)
    rolled-names c a = by_test (is_rollable a)
      where
        by_test : (b : Bool) → AllByRecursion (ItemNames P) (cond b (last_rows_at a.incs c a.cmps f y) [])
        by_test true = last-names c a.incs a.cmps
        by_test false = tt

    needed-names : (c : ℕ) (a : GAction) → AllByRecursion (ItemNames P) (needed_rows c a f y)
    needed-names c a =
        names-append P (asked_rows a.lits f y) (first_rows a.cmps f y ++ rolled_rows c a f y) (asked-names a.lits)
        (names-append P (first_rows a.cmps f y) (rolled_rows c a f y) (first-names a.cmps) (rolled-names c a))

  module _ (i : ℕ) (o : Literal) (happens : LiteralNames P o) (behinds : (p : ℕ) → P (behind i p)) where
    truth-names : (cs : List (ℕ × Bool)) → AllByRecursion (ItemNames P) (truth_rows i o y cs)
    truth-names [] = tt
    truth-names (c ∷ cs) = names-append P (change_rows i o y c) (truth_rows i o y cs) (change-names P c.1 o (behind i c.0) (y.truth c.0) happens (behinds c.0) (truths c.0)) (truth-names cs)

    set-names : (w : ℕ) (ss : List (ℕ × Linear)) → AllByRecursion (ItemNames P) (set_rows o y w ss)
    set-names w [] = tt
    set-names w (s ∷ ss) =
        let no = opposite-names P o happens in
        (tt, (tt, ((no, (tt, tt)), (tt, ((no, (tt, tt)), (tt, ((happens, (tt, tt)), (tt, ((happens, (tt, tt)), set-names (suc w) ss)))))))))

    later-names : (a : GAction) (c w : ℕ) → AllByRecursion (ItemNames P) (later_items i a c w o y)
    later-names a c w =
        names-append P (needed_rows c a (opposite o) y) (effect_items i a c w o y) (needed-names (opposite o) (opposite-names P o happens) c a)
        (names-append P (truth_rows i o y (changes_of a)) (value_items a c w o y) (truth-names (changes_of a)) (names-append P (set_rows o y w a.sets) (needs (grown_ops c y.value a.incs) ∷ []) (set-names w a.sets) (tt, tt)))

start-names : (P : Name → Type 0) (i : ℕ) (a : GAction) (y : Symbolic) → P (is_done i) → AllByRecursion (ItemNames P) (first_items i a y)
start-names P i a y h = by_kind (is_counted a)
  where
    by_rolling : (r : Bool) → AllByRecursion (ItemNames P) ((cond r [] (row (lit true (at_most (add (var y.next) (fixed (whole (negsuc 0))))) ∷ []) ∷ [])) ++ boolean (at_most (var y.next)) ∷ [])
    by_rolling true = (tt, tt)
    by_rolling false = ((tt, tt), (tt, tt))

    by_kind : (b : Bool) → AllByRecursion (ItemNames P) (cond b (count_items a y.next ++ boolean (at_most (var y.next)) ∷ []) (boolean (named (is_done i)) ∷ []))
    by_kind true = (tt, ((tt, tt), by_rolling (is_rollable a)))
    by_kind false = (h, tt)

on-names : (P : Name → Type 0) (i : ℕ) (a : GAction) (y : Symbolic) → P (is_done i) → LiteralNames P (on_of i a y)
on-names P i a y h = by_kind (is_counted a)
  where
    by_kind : (b : Bool) → LiteralNames P (cond b (lit false (at_most (var y.next))) (lit true (named (is_done i))))
    by_kind true = tt
    by_kind false = h

-- ---- behind the beginning
module _ (a : GAction) (c : ℕ) (old mid : Contents) (s : Symbols) (on front : Truth) (e : front ≡ opposite_truth on) where
  pub needed-state : HasOccurrence old s on → HasState old s front
  needed-state h = record {
    made = h.made;
    literal = opposite h.literal;
    symbolic = h.symbolic;
    stands = h.stands;
    knows = opposite-knows h.made h.literal on front e h.knows;
    shows = h.shows;
  }

  pub go-stop : (U X : Type 0) (t : Symbols) (g : LinFail) → MakesRows {X = U} old s front (needed_rows c a) mid (Err g) → Continues {X = X} a c old s on mid t (Err g)
  go-stop U X t g p m i o y st k sh n =
      (makes_stop U X (needed_rows c a (opposite o) y) (effect_items i a c (length m.counts) o y) m mid g (p m (opposite o) y st (opposite-knows m o on front e k) sh), tt)

  still-fresh : (i : ℕ) (m : Made) (o : Literal) (y : Symbolic) → Knows m o on → Shows m y s → ((p : ℕ) → IsNew (behind i p) m.keys) → (p : ℕ) → IsNew (behind i p) (made_from (needed_rows c a (opposite o) y) m).keys
  still-fresh i m o y k sh n p =
      names-stay (behind i p) (λ j. j ≡ behind i p → ⊥) (λ g. g refl) (needed_rows c a (opposite o) y) m
      (needed-names (λ j. j ≡ behind i p → ⊥) y (λ q. knows-apart (behind i p) m (y.truth q) _ (sh.truths q) (n p)) (opposite o)
      (opposite-names (λ j. j ≡ behind i p → ⊥) o (knows-apart (behind i p) m o on k (n p))) c a) (n p)

  module _ (U : Type 0) (u : U) (p : MakesRows {X = U} old s front (needed_rows c a) mid (Ok u)) where
    pub go-state : HasOccurrence old s on → HasOccurrence mid s on
    go-state h =
        let rows = needed_rows c a (opposite h.literal) h.symbolic in
        record {
          made = made_from (needed_rows c a (opposite h.literal) h.symbolic) h.made;
          number = h.number;
          literal = h.literal;
          symbolic = h.symbolic;
          stands = (p h.made (opposite h.literal) h.symbolic h.stands (opposite-knows h.made h.literal on front e h.knows) h.shows).1;
          knows = knows-later (needed_rows c a (opposite h.literal) h.symbolic) h.made h.literal on h.knows;
          shows = shows-later (needed_rows c a (opposite h.literal) h.symbolic) h.made h.symbolic s h.shows;
          fresh = still-fresh h.number h.made h.literal h.symbolic h.knows h.shows h.fresh;
        }

    pub go-made : {X : Type 0} (new : Contents) (t : Symbols) (r : Result X LinFail) → TakesEffect a c mid s on new t r → Continues a c old s on new t r
    go-made new t r q m i o y st k sh n =
        let rows = needed_rows c a (opposite o) y in
        let made = p m (opposite o) y st (opposite-knows m o on front e k) sh in
        let m1 = made_from (needed_rows c a (opposite o) y) m in
        let count : length m1.counts ≡ length m.counts = ap length (none-made (needed_rows c a (opposite o) y) m (needed-counts c a (opposite o) y)) in
        let next = q m1 i o y made.1 (knows-later (needed_rows c a (opposite o) y) m o on k) (shows-later (needed_rows c a (opposite o) y) m y s sh) (still-fresh i m o y k sh n) in
        let at = subst (λ (w : ℕ). Makes (effect_items i a c w o y) m1 new r × IfOk r (λ _. ShowsAfter (made_from (effect_items i a c w o y) m1) i a c w o y t)) count next in (
          makes_then (needed_rows c a (opposite o) y) (effect_items i a c (length m.counts) o y) m new r made.0 at.0,
          subst (λ (k : Made). IfOk r (λ _. ShowsAfter k i a c (length m.counts) o y t)) (sym (made-append (needed_rows c a (opposite o) y) (effect_items i a c (length m.counts) o y) m)) at.1,
        )

-- ---- the occurrence
pub occurrence-parts : (i : ℕ) (a : GAction) (y : Symbolic) → first_items i a y ++ later_items i a y.next (first_set a y.next) (on_of i a y) y ≡ occurrence i a y
occurrence-parts i a y =
    let f = opposite (on_of i a y) in
    let rest = truth_rows i (on_of i a y) y (changes_of a) ++ (set_rows (on_of i a y) y (first_set a y.next) a.sets ++ needs (grown_ops y.next y.value a.incs) ∷ []) in
    ap (λ (xs : List Item). first_items i a y ++ xs)
    (append_assoc (asked_rows a.lits f y) (first_rows a.cmps f y ++ rolled_rows y.next a f y) rest
    ∙ ap (λ (xs : List Item). asked_rows a.lits f y ++ xs) (append_assoc (first_rows a.cmps f y) (rolled_rows y.next a f y) rest))

first-count : (i : ℕ) (a : GAction) (y : Symbolic) → y.next + length (counts_of (first_items i a y)) ≡ first_set a y.next
first-count i a y = by_kind (is_counted a)
  where
    by_rolling : (r : Bool) → counts_of ((cond r [] (row (lit true (at_most (add (var y.next) (fixed (whole (negsuc 0))))) ∷ []) ∷ [])) ++ boolean (at_most (var y.next)) ∷ []) ≡ []
    by_rolling true = refl
    by_rolling false = refl

    by_kind : (b : Bool) → y.next + length (counts_of (cond b (count_items a y.next ++ boolean (at_most (var y.next)) ∷ []) (boolean (named (is_done i)) ∷ []))) ≡ cond b (suc y.next) y.next
    by_kind true = let e = ap length (by_rolling (is_rollable a)) in omega arith
    by_kind false = omega arith

first-counted : (i : ℕ) (a : GAction) (y : Symbolic) (m : Made) → y.next ≡ length m.counts → length (made_from (first_items i a y) m).counts ≡ first_set a y.next
first-counted i a y m e =
    let l = ap length (counts-made (first_items i a y) m) in
    let n = length-append {A = Bool} m.counts (counts_of (first_items i a y)) in
    let f = first-count i a y in
    omega arith

later-count : (i : ℕ) (a : GAction) (c w : ℕ) (o : Literal) (y : Symbolic) → length (counts_of (later_items i a c w o y)) ≡ length a.sets
later-count i a c w o y =
    ap length (counts-append (needed_rows c a (opposite o) y) (effect_items i a c w o y) ∙ ap (λ (xs : List Bool). xs ++ counts_of (effect_items i a c w o y)) (needed-counts c a (opposite o) y)
    ∙ counts-append (truth_rows i o y (changes_of a)) (value_items a c w o y) ∙ ap (λ (xs : List Bool). xs ++ counts_of (value_items a c w o y)) (truth-counts i o y (changes_of a))
    ∙ counts-append (set_rows o y w a.sets) (needs (grown_ops c y.value a.incs) ∷ []) ∙ append-nil (counts_of (set_rows o y w a.sets)))
    ∙ sets-count o y w a.sets

occurrence-counted : (i : ℕ) (a : GAction) (y : Symbolic) (m : Made) → y.next ≡ length m.counts → next_after a y.next ≡ length (made_from (occurrence i a y) m).counts
occurrence-counted i a y m e =
    let later = later_items i a y.next (first_set a y.next) (on_of i a y) y in
    let m1 = made_from (first_items i a y) m in
    let f = first-counted i a y m e in
    let l = ap length (counts-made (later_items i a y.next (first_set a y.next) (on_of i a y) y) m1) in
    let n = length-append {A = Bool} m1.counts (counts_of (later_items i a y.next (first_set a y.next) (on_of i a y) y)) in
    let k = later-count i a y.next (first_set a y.next) (on_of i a y) y in
    let same : length (made_from (occurrence i a y) m).counts ≡ length (made_from (later_items i a y.next (first_set a y.next) (on_of i a y) y) m1).counts =
    ap (λ (xs : List Item). length (made_from xs m).counts) (sym (occurrence-parts i a y)) ∙ ap (λ (w : Made). length w.counts) (made-append (first_items i a y) (later_items i a y.next (first_set a y.next) (on_of i a y) y) m) in
    omega arith

module _ (a : GAction) (old mid : Contents) (s : Symbols) where
  pub occur-standing : HasNext old s → IsStanding old
  occur-standing h = record { made = h.made; stands = h.is_next.stands }

  pub occur-stop : (X : Type 0) (t : Symbols) (e : LinFail) → Begins a old mid (Err e) → Occurs {X = X} a old s mid t (Err e)
  occur-stop X t e p m i y h =
      let made = p m i y h.stands h.next (h.fresh (is_done i) (omega arith)) in (
        subst (λ (xs : List Item). Makes {X = X} xs m mid (Err e)) (occurrence-parts i a y)
            (makes_stop Truth X (first_items i a y) (later_items i a y.next (first_set a y.next) (on_of i a y) y) m mid e made.0),
        tt,
      )

  module _ (on : Truth) (p : Begins a old mid (Ok on)) where
    begun : (m : Made) (i : ℕ) (y : Symbolic) → IsNext i m y old s → Makes {X = Truth} (first_items i a y) m mid (Ok on) × Knows (made_from (first_items i a y) m) (on_of i a y) on
    begun m i y h = p m i y h.stands h.next (h.fresh (is_done i) (omega arith))

    begun-fresh : (m : Made) (i : ℕ) (y : Symbolic) → IsNext i m y old s → (q : ℕ) → IsNew (behind i q) (made_from (first_items i a y) m).keys
    begun-fresh m i y h q =
        names-stay (behind i q) (λ j. j ≡ behind i q → ⊥) (λ g. g refl) (first_items i a y) m (start-names (λ j. j ≡ behind i q → ⊥) i a y (λ g. absurd (cc))) (h.fresh (behind i q) (omega arith))

    pub occur-state : HasNext old s → HasOccurrence mid s on
    occur-state h =
        let y = h.symbolic in
        record {
          made = made_from (first_items h.number a h.symbolic) h.made;
          number = h.number;
          literal = on_of h.number a h.symbolic;
          symbolic = h.symbolic;
          stands = (begun h.made h.number h.symbolic h.is_next).0.1;
          knows = (begun h.made h.number h.symbolic h.is_next).1;
          shows = shows-later (first_items h.number a h.symbolic) h.made h.symbolic s h.is_next.shows;
          fresh = begun-fresh h.made h.number h.symbolic h.is_next;
        }

    pub occur-known : (c : ℕ) → c ≡ length old.counts → HasNext old s → is_rollable a ≡ true → c < length mid.counts
    occur-known c e h r =
        let n = h.is_next in
        let counted : is_counted a ≡ true = rollable-counts a r in
        let f = first-counted h.number a h.symbolic h.made n.next in
        let g : first_set a h.symbolic.next ≡ suc h.symbolic.next = ap (λ (b : Bool). cond b (suc h.symbolic.next) h.symbolic.next) counted in
        let l : length mid.counts ≡ length (made_from (first_items h.number a h.symbolic) h.made).counts = ap (λ (w : Contents). length w.counts) (begun h.made h.number h.symbolic h.is_next).0.1.contents in
        let v : length old.counts ≡ length h.made.counts = ap (λ (w : Contents). length w.counts) n.stands.contents in
        let x = n.next in
        omega arith

    pub occur-made : {X : Type 0} (new : Contents) (t : Symbols) (c : ℕ) (r : Result X LinFail) → c ≡ length old.counts → Continues a c mid s on new t r → Occurs a old s new t r
    occur-made {X = X} new t c r e q m i y h =
        let start = begun m i y h in
        let m1 = made_from (first_items i a y) m in
        let sh = shows-later (first_items i a y) m y s h.shows in
        let next = q m1 i (on_of i a y) y start.0.1 start.1 sh (begun-fresh m i y h) in
        let place : c ≡ y.next = e ∙ ap (λ (w : Contents). length w.counts) h.stands.contents ∙ sym h.next in
        let count = first-counted i a y m h.next in
        let at = subst (λ (w : ℕ). Makes (later_items i a y.next w (on_of i a y) y) m1 new r × IfOk r (λ _. ShowsAfter (made_from (later_items i a y.next w (on_of i a y) y) m1) i a y.next w (on_of i a y) y t)) count
        (subst (λ (k : ℕ). Makes (later_items i a k (length m1.counts) (on_of i a y) y) m1 new r × IfOk r (λ _. ShowsAfter (made_from (later_items i a k (length m1.counts) (on_of i a y) y) m1) i a k (length m1.counts) (on_of i a y) y t)) place next) in
        let whole = makes_then (first_items i a y) (later_items i a y.next (first_set a y.next) (on_of i a y) y) m new r start.0.0 at.0 in
        let made : made_from (later_items i a y.next (first_set a y.next) (on_of i a y) y) m1 ≡ made_from (occurrence i a y) m =
        sym (made-append (first_items i a y) (later_items i a y.next (first_set a y.next) (on_of i a y) y) m) ∙ ap (λ (xs : List Item). made_from xs m) (occurrence-parts i a y) in
        let items = subst (λ (xs : List Item). Makes xs m new r) (occurrence-parts i a y) whole in (
          items,
          after r m i y h items (subst (λ (k : Made). IfOk r (λ _. ShowsAfter k i a y.next (first_set a y.next) (on_of i a y) y t)) made at.1),
        )
      where
        after : (r : Result X LinFail) (m : Made) (i : ℕ) (y : Symbolic) → IsNext i m y old s → Makes (occurrence i a y) m new r
            → IfOk r (λ _. ShowsAfter (made_from (occurrence i a y) m) i a y.next (first_set a y.next) (on_of i a y) y t)
            → IfOk r (λ _. IsNext (suc i) (made_from (occurrence i a y) m) (symbolic_after i a y) new t)
        after (Err g) m i y h w z = tt
        after (Ok x) m i y h w z =
            let counted = occurrence-counted i a y m h.next in
            let before : SymbolicBelow y.next y = record {
              truth = λ p. subst (λ (n : ℕ). LiteralBelow n (y.truth p)) (sym h.next) (h.shows.truths p).below;
              value = λ f. subst (λ (n : ℕ). TermsBelow n (y.value f).terms) (sym h.next) (h.shows.below f);
            } in
            let behind_it = after-below i a y before in
            record {
              stands = w.1;
              shows = record {
                truths = z.0;
                values = fun_ext (λ f. sym (z.1 f));
                below = λ f. subst (λ (n : ℕ). TermsBelow n (symbolic_value y.value y.next a.incs (first_set a y.next) a.sets f).terms) counted (behind_it.value f);
              };
              next = counted;
              fresh = λ n l. subst (λ (xs : List Item). IsNew n (made_from xs m).keys) (occurrence-parts i a y) (still n l);
            }
          where
            apart : (n : Name) → suc i ≤ occurrence_of n → (j : Name) → occurrence_of j ≡ i → j ≡ n → ⊥
            apart n l j g k = let o = ap occurrence_of k in absurd (omega arith)

            still : (n : Name) → suc i ≤ occurrence_of n → IsNew n (made_from (first_items i a y ++ later_items i a y.next (first_set a y.next) (on_of i a y) y) m).keys
            still n l =
                let P : Name → Type 0 = λ j. j ≡ n → ⊥ in
                let old_new = h.fresh n (omega arith) in
                names-stay n (λ j. j ≡ n → ⊥) (λ g. g refl) (first_items i a y ++ later_items i a y.next (first_set a y.next) (on_of i a y) y) m
                (names-append (λ j. j ≡ n → ⊥) (first_items i a y) (later_items i a y.next (first_set a y.next) (on_of i a y) y) (start-names (λ j. j ≡ n → ⊥) i a y (apart n l (is_done i) refl))
                (later-names (λ j. j ≡ n → ⊥) y (λ p. knows-apart n m (y.truth p) _ (h.shows.truths p) old_new) i (on_of i a y) (on-names (λ j. j ≡ n → ⊥) i a y (apart n l (is_done i) refl)) (λ p. apart n l (behind i p) refl) a y.next (first_set a y.next)))
                old_new
