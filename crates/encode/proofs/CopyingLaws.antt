-- Occurrences one after the other, and the goal behind them.
use Rattle.std.proofs.Common.{◌≡◌, ℕ, suc, ◌+◌, ◌-◌, ◌<◌, ◌≤◌, Bool, true, List, [], ◌∷◌, ◌++◌, length, drop, get_or, refl, sym, ap, ap₂, subst, ◌∙◌, arith, append_assoc}
use Rattle.std.specs.Prelude.{Result, Ok, Err, IfOk}
use Rattle.std.specs.List.{All, list_all, flat_map}
use Rattle.std.proofs.lemmas.Bool.{and_parts, and_from}
use Rattle.std.proofs.lemmas.List.{append-nil, drop_more, get_or_default}
use Rattle.std.proofs.lemmas.List.Elements.{All-cons, All-head, All-tail, All-get_or}
use Rattle.rational.specs.Linear.{Terms}
use Rattle.lin.specs.Linear.{Linear, AreBelow, subst as substituted}
use Rattle.lin.specs.Made.{subst_ops}
use Rattle.lin.specs.declared.failure.LinFail.{LinFail}
use Rattle.lin.specs.declared.comparison.Cmp.{Cmp}
use Rattle.lin.specs.declared.comparison.Cmp.TheVariants.{Le, Lt, Eq}
use Rattle.frac128.specs.declared.operations.Wide.{Wide}
use Rattle.task_core.specs.declared.action.GAction.{GAction}
use Rattle.task_core.specs.Task.{GroundParts, idle, action_at, numbers, variables, read_by, IsActionOf, IsGroundTask}
use Rattle.relaxed.proofs.ReadLaws.{all_from, all-left, all-right, reads-comparisons, reads-sets, reads-incs}
use Rattle.std.proofs.lemmas.Bool.{lt-ltb, ltb-true}
use Rattle.std.specs.Prelude.{nat_lt}
use Rattle.formula.specs.Contents.{Contents}
use Rattle.encode_rows.specs.declared.clause.Truth.TheVariants.{No}
use Rattle.encode_rows.specs.declared.symbols.Symbols.{Symbols}
use Rattle.encode_laws.specs.Rows.{no, Item, row, needs}
use Rattle.encode_laws.specs.Symbolic.{Symbolic, occurrence, symbolic_after, signed_literal, literal_rows, compared_rows, comparison_rows, goal_rows, rows_from}
use Rattle.encode_laws.specs.Refusals.{AllNamedFit}
use Rattle.encode_laws.specs.Made.{Made, made_from, named_from}
use Rattle.encode_laws.specs.Encoding.{copies}
use Rattle.encode_laws.proofs.MadeLaws.{made-append, named-append}
use Rattle.encode_rows.specs.Standing.{Stands, Knows, Makes, SoFar}
use Rattle.encode_rows.specs.Symbols.{HasState, MakesRows, asked_rows, first_rows}
use Rattle.encode.specs.inside.Occurring.{IsSized, IsNext, HasNext, Occurs, KeepsCounts}
use Rattle.encode.specs.inside.Copying.{occurrences_from, symbolic_behind, number_behind, OccurInTurn, actions_of, MakesGoal, MakesAll}
use Rattle.encode_rows.proofs.Standing.{makes_then, makes_stop, named_append_fit, so_far_stop, so_far_end}
use Rattle.encode_rows.proofs.SettingLaws.{makes-same}

-- ---- actions in a row
items-append : (i : ℕ) (xs ys : List GAction) (y : Symbolic) → occurrences_from i (xs ++ ys) y ≡ occurrences_from i xs y ++ occurrences_from (number_behind i xs) ys (symbolic_behind i xs y)
items-append i [] ys y = refl
items-append i (a ∷ xs) ys y =
    ap (λ (zs : List Item). occurrence i a y ++ zs) (items-append (suc i) xs ys (symbolic_after i a y))
    ∙ sym (append_assoc (occurrence i a y) (occurrences_from (suc i) xs (symbolic_after i a y)) (occurrences_from (number_behind (suc i) xs) ys (symbolic_behind (suc i) xs (symbolic_after i a y))))

symbolic-append : (i : ℕ) (xs ys : List GAction) (y : Symbolic) → symbolic_behind i (xs ++ ys) y ≡ symbolic_behind (number_behind i xs) ys (symbolic_behind i xs y)
symbolic-append i [] ys y = refl
symbolic-append i (a ∷ xs) ys y = symbolic-append (suc i) xs ys (symbolic_after i a y)

number-append : (i : ℕ) (xs ys : List GAction) → number_behind i (xs ++ ys) ≡ number_behind (number_behind i xs) ys
number-append i [] ys = refl
number-append i (a ∷ xs) ys = number-append (suc i) xs ys

-- one action is a row of one
pub one-in-turn : {X : Type 0} (a : GAction) (old : Contents) (s : Symbols) (new : Contents) (t : Symbols) (r : Result X LinFail) → Occurs a old s new t r → OccurInTurn (a ∷ []) old s new t r
one-in-turn {X = X} a old s new t r h m i y n =
    subst (λ (xs : List Item). Makes {X = X} xs m new r × IfOk r (λ _. IsNext (suc i) (made_from xs m) (symbolic_after i a y) new t)) (sym (append-nil (occurrence i a y))) (h m i y n)

-- ---- the actions so far, and those that are left
pub record GoneBy (m : Made) (i : ℕ) (y : Symbolic) (acts left : List GAction) (f : Contents) (s : Symbols) : Type 0 where
  pub number : ℕ
  pub symbolic : Symbolic
  pub items : SoFar (occurrences_from i acts y) (occurrences_from number left symbolic) m f
  pub last : symbolic_behind number left symbolic ≡ symbolic_behind i acts y
  pub last_number : number_behind number left ≡ number_behind i acts
  pub is_next : IsNext number (made_from items.done m) symbolic f s

pub record Gone (old : Contents) (s : Symbols) (acts left : List GAction) (f : Contents) (t : Symbols) : Type 0 where
  pub so_far : (m : Made) (i : ℕ) (y : Symbolic) → IsNext i m y old s → GoneBy m i y acts left f t
  pub state : HasNext f t
  pub kept : KeepsCounts s t

module _ (old : Contents) (s : Symbols) (acts : List GAction) where
  pub gone-start : HasNext old s → Gone old s acts acts old s
  gone-start h = record {
    so_far = λ m i y n. record { number = i; symbolic = y; items = record { done = []; split = refl; fit = tt; stands = n.stands }; last = refl; last_number = refl; is_next = n };
    state = h;
    kept = record { truths = refl; values = refl };
  }

  module _ (xs left : List GAction) (f g : Contents) (t u : Symbols) (h : Gone old s acts (xs ++ left) f t) where
    pub gone-step : (X : Type 0) (x : X) → OccurInTurn {X = X} xs f t g u (Ok x) → KeepsCounts t u → Gone old s acts left g u
    gone-step X x a k = record {
      so_far = λ m i y n.
          let before = h.so_far m i y n in
          let m1 = made_from before.items.done m in
          let made = a m1 before.number before.symbolic before.is_next in
          let here = occurrences_from before.number xs before.symbolic in
          let same : made_from (before.items.done ++ occurrences_from before.number xs before.symbolic) m ≡ made_from (occurrences_from before.number xs before.symbolic) m1 = made-append before.items.done (occurrences_from before.number xs before.symbolic) m in
          record {
            number = number_behind before.number xs;
            symbolic = symbolic_behind before.number xs before.symbolic;
            items = record {
              done = before.items.done ++ occurrences_from before.number xs before.symbolic;
              split = before.items.split ∙ ap (λ (zs : List Item). before.items.done ++ zs) (items-append before.number xs left before.symbolic)
                  ∙ sym (append_assoc before.items.done (occurrences_from before.number xs before.symbolic) (occurrences_from (number_behind before.number xs) left (symbolic_behind before.number xs before.symbolic)));
              fit = subst AllNamedFit (sym (named-append before.items.done (occurrences_from before.number xs before.symbolic) m))
                  (named_append_fit (named_from before.items.done m) (named_from (occurrences_from before.number xs before.symbolic) m1) before.items.fit made.0.0);
              stands = subst (λ (w : Made). Stands w g) (sym same) made.0.1;
            };
            last = sym (symbolic-append before.number xs left before.symbolic) ∙ before.last;
            last_number = sym (number-append before.number xs left) ∙ before.last_number;
            is_next = subst (λ (w : Made). IsNext (number_behind before.number xs) w (symbolic_behind before.number xs before.symbolic) g u) (sym same) made.1;
          };
      state = (
          let y = h.state in
          let made = a y.made y.number y.symbolic y.is_next in
          let w : HasNext g u = record { number = number_behind y.number xs; made = made_from (occurrences_from y.number xs y.symbolic) y.made; symbolic = symbolic_behind y.number xs y.symbolic; is_next = made.1 } in
          w);
      kept = record { truths = k.truths ∙ h.kept.truths; values = k.values ∙ h.kept.values };
    }

    pub gone-stop : (X Y : Type 0) (e : LinFail) (w : Symbols) → OccurInTurn {X = X} xs f t g u (Err e) → OccurInTurn {X = Y} acts old s g w (Err e)
    gone-stop X Y e w a m i y n =
        let before = h.so_far m i y n in
        let all : SoFar (occurrences_from i acts y) (occurrences_from before.number xs before.symbolic ++ occurrences_from (number_behind before.number xs) left (symbolic_behind before.number xs before.symbolic)) m f =
        record { done = before.items.done; split = before.items.split ∙ ap (λ (zs : List Item). before.items.done ++ zs) (items-append before.number xs left before.symbolic); fit = before.items.fit; stands = before.items.stands } in (
          so_far_stop (occurrences_from i acts y) (occurrences_from before.number xs before.symbolic) (occurrences_from (number_behind before.number xs) left (symbolic_behind before.number xs before.symbolic)) m f g all X Y e
              (a (made_from before.items.done m) before.number before.symbolic before.is_next).0,
          tt,
        )

  pub gone-end : (f : Contents) (t : Symbols) (X : Type 0) (x : X) → Gone old s acts [] f t → OccurInTurn {X = X} acts old s f t (Ok x)
  gone-end f t X x h m i y n =
      let z = h.so_far m i y n in
      let e : occurrences_from i acts y ≡ z.items.done = z.items.split ∙ append-nil z.items.done in (
        so_far_end (occurrences_from i acts y) m f X x z.items,
        subst (λ (xs : List Item). IsNext (number_behind i acts) (made_from xs m) (symbolic_behind i acts y) f t) (sym e)
            (subst (λ (j : ℕ). IsNext j (made_from z.items.done m) (symbolic_behind i acts y) f t) z.last_number
            (subst (λ (w : Symbolic). IsNext z.number (made_from z.items.done m) w f t) z.last z.is_next)),
      )

-- ---- copies
map-append : (task : GroundParts) (xs ys : List ℕ) → actions_of task (xs ++ ys) ≡ actions_of task xs ++ actions_of task ys
map-append task [] ys = refl
map-append task (x ∷ xs) ys = ap (λ zs. action_at task x ∷ zs) (map-append task xs ys)

pub copies-left : (task : GroundParts) (places : List ℕ) (n k : ℕ) → k < n → actions_of task (copies (n - k) places) ≡ actions_of task places ++ actions_of task (copies (n - (k + 1)) places)
copies-left task places n k l =
    let e : n - k ≡ suc (n - (k + 1)) = omega arith in
    ap (λ (j : ℕ). actions_of task (copies j places)) e ∙ map-append task places (copies (n - (k + 1)) places)

pub copies-none : (task : GroundParts) (places : List ℕ) (n k : ℕ) → n ≤ k → actions_of task (copies (n - k) places) ≡ []
copies-none task places n k l = let e : n - k ≡ 0 = omega arith in ap (λ (j : ℕ). actions_of task (copies j places)) e

-- ---- the goal: behind a literal that is false the rows are the same
abbrev Same : List Item → List Item → Type 0
Same xs ys = (m : Made) → (named_from xs m ≡ named_from ys m) × (made_from xs m ≡ made_from ys m)

same-append : (xs ys zs ws : List Item) → Same xs ys → Same zs ws → Same (xs ++ zs) (ys ++ ws)
same-append xs ys zs ws h g m =
    let a = h m in
    let b = g (made_from xs m) in (
      named-append xs zs m ∙ ap₂ (λ (os ps : List (ℕ × Wide)). os ++ ps) a.0 (b.0 ∙ ap (named_from ws) a.1) ∙ sym (named-append ys ws m),
      made-append xs zs m ∙ b.1 ∙ ap (made_from ws) a.1 ∙ sym (made-append ys ws m),
    )

module _ (y : Symbolic) where
  asked-same : (lits : List (ℕ × Bool)) → Same (asked_rows lits no y) (literal_rows [] y lits)
  asked-same [] m = (refl, refl)
  asked-same (l ∷ ls) m =
      same-append (row (no ∷ signed_literal l.1 (y.truth l.0) ∷ []) ∷ []) (row (signed_literal l.1 (y.truth l.0) ∷ []) ∷ []) (asked_rows ls no y) (literal_rows [] y ls) (λ k. (refl, refl)) (asked-same ls) m

  compared-same : (c : Cmp) (l : Linear) → Same (compared_rows (no ∷ []) c l) (compared_rows [] c l)
  compared-same Le l m = (refl, refl)
  compared-same Lt l m = (refl, refl)
  compared-same Eq l m = (refl, refl)

  first-same : (cmps : List (Linear × Cmp)) → Same (first_rows cmps no y) (comparison_rows [] y cmps)
  first-same [] m = (refl, refl)
  first-same (c ∷ cs) m =
      same-append (needs (subst_ops y.value c.0) ∷ compared_rows (no ∷ []) c.1 (substituted y.value c.0)) (needs (subst_ops y.value c.0) ∷ compared_rows [] c.1 (substituted y.value c.0)) (first_rows cs no y) (comparison_rows [] y cs)
      (same-append (needs (subst_ops y.value c.0) ∷ []) (needs (subst_ops y.value c.0) ∷ []) (compared_rows (no ∷ []) c.1 (substituted y.value c.0)) (compared_rows [] c.1 (substituted y.value c.0)) (λ k. (refl, refl)) (compared-same c.1 (substituted y.value c.0)))
      (first-same cs) m

  goal-same : (goal : GAction) → Same (asked_rows goal.lits no y ++ first_rows goal.cmps no y) (goal_rows goal y)
  goal-same goal = same-append (asked_rows goal.lits no y) (literal_rows [] y goal.lits) (first_rows goal.cmps no y) (comparison_rows [] y goal.cmps) (asked-same goal.lits) (first-same goal.cmps)

no-known : (m : Made) → Knows m no No
no-known m = record { known = record { inside = tt; number = refl; fit = tt }; undecided = tt; below = tt }

pub goal-state : (f : Contents) (s : Symbols) → HasNext f s → HasState f s No
goal-state f s h = record { made = h.made; literal = no; symbolic = h.symbolic; stands = h.is_next.stands; knows = no-known h.made; shows = h.is_next.shows }

module _ (goal : GAction) (old mid : Contents) (s : Symbols) where
  pub goal-makes : {X : Type 0} (r : Result X LinFail) → MakesRows old s No (λ f y. asked_rows goal.lits f y ++ first_rows goal.cmps f y) mid r → MakesGoal goal old s mid r
  goal-makes r p m y st sh =
      let e = goal-same y goal m in
      makes-same (asked_rows goal.lits no y ++ first_rows goal.cmps no y) (goal_rows goal y) m mid r e.0 e.1 (p m no y st (no-known m) sh)

-- ---- all
module _ (acts : List GAction) (goal : GAction) (old mid : Contents) (s t : Symbols) where
  pub all-stop : (U X : Type 0) (e : LinFail) → OccurInTurn {X = U} acts old s mid t (Err e) → MakesAll {X = X} acts goal old s mid (Err e)
  all-stop U X e p m i y n = makes_stop U X (occurrences_from i acts y) (goal_rows goal (symbolic_behind i acts y)) m mid e (p m i y n).0

  pub all-next : (U : Type 0) (u : U) → OccurInTurn {X = U} acts old s mid t (Ok u) → HasNext old s → HasNext mid t
  all-next U u p h = record {
    number = number_behind h.number acts;
    made = made_from (occurrences_from h.number acts h.symbolic) h.made;
    symbolic = symbolic_behind h.number acts h.symbolic;
    is_next = (p h.made h.number h.symbolic h.is_next).1;
  }

  pub all-made : {X : Type 0} (U : Type 0) (u : U) (new : Contents) (r : Result X LinFail) → OccurInTurn {X = U} acts old s mid t (Ok u) → MakesGoal goal mid t new r → MakesAll acts goal old s new r
  all-made U u new r p q m i y n =
      let a = p m i y n in
      makes_then (occurrences_from i acts y) (goal_rows goal (symbolic_behind i acts y)) m new r a.0.0
      (q (made_from (occurrences_from i acts y) m) (symbolic_behind i acts y) a.1.stands a.1.shows)

-- ---- the rows of the definition
pub rows-in-turn : (i : ℕ) (acts : List GAction) (goal : GAction) (y : Symbolic) → occurrences_from i acts y ++ goal_rows goal (symbolic_behind i acts y) ≡ rows_from i acts goal y
rows-in-turn i [] goal y = refl
rows-in-turn i (a ∷ more) goal y =
    append_assoc (occurrence i a y) (occurrences_from (suc i) more (symbolic_after i a y)) (goal_rows goal (symbolic_behind (suc i) more (symbolic_after i a y)))
    ∙ ap (λ (xs : List Item). occurrence i a y ++ xs) (rows-in-turn (suc i) more goal (symbolic_after i a y))

-- ---- what a task promises of its actions
module _ (funcs : ℕ) where
  tested : (xs : List ℕ) → All (λ f. f < funcs) xs → list_all (λ f. nat_lt f funcs) xs ≡ true
  tested xs h = all_from (λ f. nat_lt f funcs) xs (λ k d l. lt-ltb _ funcs (h k d l))

  -- the variables of each expression
  each-below : {Z : Type 0} (of : Z → Linear) (zs : List Z) → list_all (λ f. nat_lt f funcs) (flat_map (λ z. variables (of z)) zs) ≡ true → All (λ z. AreBelow funcs (of z).terms) zs
  each-below of [] h = λ k d l. absurd (omega arith)
  each-below of (z ∷ zs) h =
      All-cons (λ w. AreBelow funcs (of w).terms) z zs (as_terms (of z).terms (all-left (λ f. nat_lt f funcs) (variables (of z)) (flat_map (λ w. variables (of w)) zs) h))
      (each-below of zs (all-right (λ f. nat_lt f funcs) (variables (of z)) (flat_map (λ w. variables (of w)) zs) h))
    where
      as_terms : (ts : Terms) → list_all (λ f. nat_lt f funcs) (numbers ts) ≡ true → AreBelow funcs ts
      as_terms [] h = refl
      as_terms (t ∷ ts) h = let p = and_parts (nat_lt t.0 funcs) _ h in and_from _ _ p.0 (as_terms ts p.1)

numbered : {Z : Type 0} (n : ℕ) (zs : List (ℕ × Z)) → All (λ p. p < n) (numbers zs) → All (λ z. z.0 < n) zs
numbered n [] h = λ k d l. absurd (omega arith)
numbered n (z ∷ zs) h = All-cons (λ w. w.0 < n) z zs (All-head (λ p. p < n) z.0 (numbers zs) h) (numbered n zs (All-tail (λ p. p < n) z.0 (numbers zs) h))

untested : (n : ℕ) (xs : List ℕ) → list_all (λ f. nat_lt f n) xs ≡ true → All (λ f. f < n) xs
untested n [] h = λ k d l. absurd (omega arith)
untested n (x ∷ xs) h = let p = and_parts (nat_lt x n) _ h in All-cons (λ f. f < n) x xs (ltb-true x n p.0) (untested n xs p.1)

pub sized-action : (task : GroundParts) (a : GAction) → IsActionOf task a → IsSized (length task.atoms) (length task.funcs) a
sized-action task a h =
    let reads = tested (length task.funcs) (read_by a) h.numbered.reads in
    let test : ℕ → Bool = λ f. nat_lt f (length task.funcs) in
    record {
      lits = numbered (length task.atoms) a.lits h.numbered.lits;
      cmps = each-below (length task.funcs) (λ c. c.0) a.cmps (reads-comparisons (λ f. nat_lt f (length task.funcs)) a reads);
      adds = h.numbered.adds;
      dels = h.numbered.dels;
      incs = numbered (length task.funcs) a.incs (untested (length task.funcs) (numbers a.incs) (reads-incs (λ f. nat_lt f (length task.funcs)) a reads));
      sets = numbered (length task.funcs) a.sets h.numbered.sets;
      values = each-below (length task.funcs) (λ s. s.1) a.sets (reads-sets (λ f. nat_lt f (length task.funcs)) a reads);
      orderly = h.orderly;
    }

pub sized-by : (task : GroundParts) (a : GAction) (atoms funcs : ℕ) → IsActionOf task a → atoms ≡ length task.atoms → funcs ≡ length task.funcs → IsSized atoms funcs a
sized-by task a atoms funcs h e f = subst (λ (n : ℕ). IsSized n funcs a) (sym e) (subst (λ (n : ℕ). IsSized (length task.atoms) n a) (sym f) (sized-action task a h))

-- ---- the action at a place
pub action-found : (task : GroundParts) (acts : List GAction) (p : ℕ) (d a : GAction) → acts ≡ task.actions → p < length task.actions → a ≡ get_or acts p d → a ≡ action_at task p
action-found task acts p d a e l h = h ∙ ap (λ (xs : List GAction). get_or xs p d) e ∙ get_or_default task.actions p d idle l

pub action-of : (task : GroundParts) (p : ℕ) (a : GAction) → IsGroundTask task → p < length task.actions → a ≡ action_at task p → IsActionOf task a
action-of task p a h l e = subst (IsActionOf task) (sym e) (All-get_or (IsActionOf task) task.actions p idle l h.actions)

pub place-left : (task : GroundParts) (places : List ℕ) (i : ℕ) (a : GAction) → i < length places → a ≡ action_at task (get_or places i 0) → actions_of task (drop i places) ≡ a ∷ actions_of task (drop (i + 1) places)
place-left task places i a l e = ap (actions_of task) (drop_more places i 0 l) ∙ ap (λ b. b ∷ actions_of task (drop (i + 1) places)) (sym e)
