-- The counts of occurrences, one after the other.
use Rattle.std.proofs.Common.{◌≡◌, ℕ, zero, suc, ◌+◌, Bool, true, false, cond, inl, inr, List, [], ◌∷◌, ◌++◌, length, refl, sym, ap, subst, ◌∙◌, arith, append_assoc}
use Rattle.std.specs.Prelude.{Ok, Err, None, slice_get, slice_index_or}
use Rattle.std.proofs.lemmas.List.{append-nil, length-map}
use Rattle.std.proofs.lemmas.List.Elements.{All-contains, All-from_recursion, All-append}
use Rattle.std.specs.List.{All}
use Rattle.rational.specs.Fraction.{Fraction}
use Rattle.frac128.specs.Operations.{Fits}
use Rattle.frac128.specs.declared.operations.Wide.{Wide}
use Rattle.lin.specs.Linear.{point_of}
use Rattle.lin.specs.declared.failure.LinFail.{LinFail}
use Rattle.lin.specs.declared.failure.LinFail.TheVariants as fail
use Rattle.task_core.specs.declared.action.GAction.{GAction}
use Rattle.task_core.specs.Task.{GroundParts, start}
use Rattle.formula.specs.declared.point.Point.{Point}
use Rattle.formula.specs.Contents.{Contents}
use Rattle.encode_rows.specs.declared.symbols.Symbols.{Symbols}
use Rattle.encode_laws.specs.Rows.{is_done, named, Item, boolean}
use Rattle.encode_laws.specs.Symbolic.{Symbolic, is_counted, symbolic_start, on_of, first_set, next_after, first_items, count_items, occurrence, symbolic_after, goal_rows}
use Rattle.encode_laws.specs.Rows.{at_most}
use Rattle.encode_laws.specs.Numbering.{Key, truth, same_key, index_of, table_of}
use Rattle.encode_laws.specs.Encoding.{copies, occurrences, items_of, counts_from, counts_at}
use Rattle.encode_laws.specs.Refusals.{operations_of, AllNamedFit, IsNamedPassing}
use Rattle.encode_laws.specs.Made.{Made, put, made_from, nothing_made, named_from, IsIn}
use Rattle.encode_laws.proofs.TableLaws.{with_key-in}
use Rattle.encode_laws.proofs.Making.{Grows, grows-then}
use Rattle.encode_laws.proofs.MadeLaws.{made-append, named-append, grows-made, named-formula}
use Rattle.encode_laws.proofs.Below.{rows-steady, rows-made}
use Rattle.lin.specs.Linear.{var}
use Rattle.encode_rows.specs.Standing.{Stands, SoFar, IsNew}
use Rattle.encode.specs.inside.Occurring.{later_items, IsNext, HasNext, Occurs, KeepsCounts}
use Rattle.encode.specs.inside.Starting.{AreAtStart}
use Rattle.encode.specs.inside.Copying.{occurrences_from, symbolic_behind}
use Rattle.encode.specs.inside.Counting.{truth_count, count_by, counts_by, KeepsNumbers, ReadsInTurn}
use Rattle.encode_rows.proofs.Joining.{index-own}
use Rattle.encode_rows.proofs.Standing.{named_append_fit, all_left, so_far_stop, so_far_end}
use Rattle.encode_rows.proofs.BeginningLaws.{fits-passes}
use Rattle.encode.proofs.OccurringLaws.{occurrence-parts}
use Rattle.encode.proofs.StartingLaws.{start-next}
use Rattle.encode.proofs.CopyingLaws.{rows-in-turn}

-- ---- copies in a row
turned : (ps : List ℕ) (k : ℕ) → copies k ps ++ ps ≡ ps ++ copies k ps
turned ps zero = sym (append-nil ps)
turned ps (suc k) = append_assoc ps (copies k ps) ps ∙ ap (λ (xs : List ℕ). ps ++ xs) (turned ps k)

pub copies-more : (ps : List ℕ) (k : ℕ) (xs ys : List ℕ) → xs ≡ copies k ps → ys ≡ xs ++ ps → ys ≡ copies (k + 1) ps
copies-more ps k xs ys e f =
    let one : k + 1 ≡ suc k = omega arith in
    f ∙ ap (λ (zs : List ℕ). zs ++ ps) e ∙ turned ps k ∙ sym (ap (λ (j : ℕ). copies j ps) one)

-- ---- the number of a truth variable that says whether an occurrence happens
absent : (key : Key) (t : List Key) → (IsIn key t → ⊥) → index_of key t ≡ length t
absent key [] h = refl
absent key (k ∷ ks) h = by_test (same_key k key) refl (absent key ks (λ i. h (inr i)))
  where
    by_test : (b : Bool) → same_key k key ≡ b → index_of key ks ≡ length ks → cond b zero (suc (index_of key ks)) ≡ suc (length ks)
    by_test true e f = absurd (h (inl e))
    by_test false e f = ap suc f

done-number : (a : GAction) (i : ℕ) (y : Symbolic) (m : Made) (table : List Key) → is_counted a ≡ false → IsNew (is_done i) m.keys → KeepsNumbers (made_from (occurrence i a y) m).keys table
    → index_of (truth (is_done i)) table ≡ length m.keys
done-number a i y m table e n g =
    let key = truth (is_done i) in
    let later = later_items i a y.next (first_set a y.next) (on_of i a y) y in
    let first : made_from (first_items i a y) m ≡ put (boolean (named (is_done i))) m =
    ap (λ (b : Bool). made_from (cond b (count_items a y.next ++ boolean (at_most (var y.next)) ∷ []) (boolean (named (is_done i)) ∷ [])) m) e in
    let whole_is : made_from (occurrence i a y) m ≡ made_from later (put (boolean (named (is_done i))) m) =
    ap (λ (xs : List Item). made_from xs m) (sym (occurrence-parts i a y)) ∙ made-append (first_items i a y) later m ∙ ap (made_from later) first in
    let inside = with_key-in (truth (is_done i)) m.keys in
    let grown = grows-made later (put (boolean (named (is_done i))) m) key inside in
    let final = subst (λ (w : Made). KeepsNumbers w.keys table) whole_is g key grown.0 in
    final.1 ∙ grown.1 ∙ index-own key m.keys ∙ absent key m.keys n

-- ---- a count that is read
count-read : (p : Point) (a : GAction) (i : ℕ) (y : Symbolic) (m : Made) (f : Contents) (s : Symbols) (table : List Key) (c b : ℕ) → IsNext i m y f s → c ≡ length f.counts → b ≡ length f.atoms
    → KeepsNumbers (made_from (occurrence i a y) m).keys table → count_by p a c b ≡ count_by p a y.next (index_of (truth (is_done i)) table)
count-read p a i y m f s table c b n ec eb g = by_kind (is_counted a) refl
  where
    place : c ≡ y.next
    place = ec ∙ ap (λ (w : Contents). length w.counts) n.stands.contents ∙ sym n.next

    keys : b ≡ length m.keys
    keys = eb ∙ ap (λ (w : Contents). length w.atoms) n.stands.contents ∙ length-map m.keys _

    by_kind : (k : Bool) → is_counted a ≡ k → cond k (point_of p.values c) (truth_count p b) ≡ cond k (point_of p.values y.next) (truth_count p (index_of (truth (is_done i)) table))
    by_kind true e = ap (point_of p.values) place
    by_kind false e = ap (truth_count p) (keys ∙ sym (done-number a i y m table e (n.fresh (is_done i) (omega arith)) g))

-- ---- occurrence by occurrence
pub record ReadBy (p : Point) (olds : List Fraction) (m : Made) (i : ℕ) (y : Symbolic) (acts left : List GAction) (f : Contents) (s : Symbols) (counts : List Fraction) : Type 0 where
  pub number : ℕ
  pub symbolic : Symbolic
  pub items : SoFar (occurrences_from i acts y) (occurrences_from number left symbolic) m f
  pub is_next : IsNext number (made_from items.done m) symbolic f s
  pub reads : (table : List Key) → KeepsNumbers (made_from items.done m).keys table → counts ++ counts_by p table number left symbolic.next ≡ olds ++ counts_by p table i acts y.next

pub record Reading (p : Point) (old : Contents) (s : Symbols) (olds : List Fraction) (acts left : List GAction) (f : Contents) (t : Symbols) (counts : List Fraction) : Type 0 where
  pub so_far : (m : Made) (i : ℕ) (y : Symbolic) → IsNext i m y old s → ReadBy p olds m i y acts left f t counts
  pub state : HasNext f t
  pub kept : KeepsCounts s t

module _ (p : Point) (old : Contents) (s : Symbols) (olds : List Fraction) (acts : List GAction) where
  pub reading-start : HasNext old s → Reading p old s olds acts acts old s olds
  reading-start h = record {
    so_far = λ m i y n. record { number = i; symbolic = y; items = record { done = []; split = refl; fit = tt; stands = n.stands }; is_next = n; reads = λ table g. refl };
    state = h;
    kept = record { truths = refl; values = refl };
  }

  module _ (a : GAction) (left : List GAction) (f g : Contents) (t u : Symbols) (counts : List Fraction) (h : Reading p old s olds acts (a ∷ left) f t counts) where
    pub reading-step : (X : Type 0) (x : X) (c b : ℕ) (v : Fraction) (news : List Fraction) → Occurs {X = X} a f t g u (Ok x) → KeepsCounts t u → c ≡ length f.counts → b ≡ length f.atoms → v ≡ count_by p a c b
        → news ≡ counts ++ v ∷ [] → Reading p old s olds acts left g u news
    reading-step X x c b v news o k ec eb ev en = record {
      so_far = λ m i y n.
          let before = h.so_far m i y n in
          let m1 = made_from before.items.done m in
          let made = o m1 before.number before.symbolic before.is_next in
          let here = occurrence before.number a before.symbolic in
          let same : made_from (before.items.done ++ occurrence before.number a before.symbolic) m ≡ made_from (occurrence before.number a before.symbolic) m1 = made-append before.items.done (occurrence before.number a before.symbolic) m in
          record {
            number = suc before.number;
            symbolic = symbolic_after before.number a before.symbolic;
            items = record {
              done = before.items.done ++ occurrence before.number a before.symbolic;
              split = before.items.split ∙ sym (append_assoc before.items.done (occurrence before.number a before.symbolic) (occurrences_from (suc before.number) left (symbolic_after before.number a before.symbolic)));
              fit = subst AllNamedFit (sym (named-append before.items.done (occurrence before.number a before.symbolic) m))
                  (named_append_fit (named_from before.items.done m) (named_from (occurrence before.number a before.symbolic) m1) before.items.fit made.0.0);
              stands = subst (λ (w : Made). Stands w g) (sym same) made.0.1;
            };
            is_next = subst (λ (w : Made). IsNext (suc before.number) w (symbolic_after before.number a before.symbolic) g u) (sym same) made.1;
            reads = λ table keeps.
                let keeps_here = subst (λ (w : Made). KeepsNumbers w.keys table) same keeps in
                let keeps_before = grows-then m1.keys (made_from (occurrence before.number a before.symbolic) m1).keys table (grows-made (occurrence before.number a before.symbolic) m1) keeps_here in
                let value : v ≡ count_by p a before.symbolic.next (index_of (truth (is_done before.number)) table) = ev ∙ count-read p a before.number before.symbolic m1 f t table c b before.is_next ec eb keeps_here in
                let rest = counts_by p table (suc before.number) left (next_after a before.symbolic.next) in
                ap (λ (xs : List Fraction). xs ++ counts_by p table (suc before.number) left (next_after a before.symbolic.next)) en
                ∙ append_assoc counts (v ∷ []) (counts_by p table (suc before.number) left (next_after a before.symbolic.next))
                ∙ ap (λ (w : Fraction). counts ++ (w ∷ counts_by p table (suc before.number) left (next_after a before.symbolic.next))) value ∙ before.reads table keeps_before;
          };
      state = (
          let y = h.state in
          let w : HasNext g u = record { number = suc y.number; made = made_from (occurrence y.number a y.symbolic) y.made; symbolic = symbolic_after y.number a y.symbolic; is_next = (o y.made y.number y.symbolic y.is_next).1 } in
          w);
      kept = record { truths = k.truths ∙ h.kept.truths; values = k.values ∙ h.kept.values };
    }

    pub reading-stop : (X Y : Type 0) (e : LinFail) (news : List Fraction) → Occurs {X = X} a f t g u (Err e) → ReadsInTurn {X = Y} p acts old s olds g news (Err e)
    reading-stop X Y e news o m i y n =
        let before = h.so_far m i y n in (
          so_far_stop (occurrences_from i acts y) (occurrence before.number a before.symbolic) (occurrences_from (suc before.number) left (symbolic_after before.number a before.symbolic)) m f g before.items X Y e
              (o (made_from before.items.done m) before.number before.symbolic before.is_next).0,
          tt,
        )

  pub reading-end : (f : Contents) (t : Symbols) (counts : List Fraction) (X : Type 0) (x : X) → Reading p old s olds acts [] f t counts → ReadsInTurn {X = X} p acts old s olds f counts (Ok x)
  reading-end f t counts X x h m i y n =
      let z = h.so_far m i y n in
      let e : occurrences_from i acts y ≡ z.items.done = z.items.split ∙ append-nil z.items.done in (
        so_far_end (occurrences_from i acts y) m f X x z.items,
        λ table g. sym (append-nil counts) ∙ z.reads table (subst (λ (xs : List Item). KeepsNumbers (made_from xs m).keys table) e g),
      )

-- ---- all counts
by-table : (p : Point) (items : List Item) (i : ℕ) (acts : List GAction) (c : ℕ) → counts_by p (table_of items) i acts c ≡ counts_from p items i acts c
by-table p items i [] c = refl
by-table p items i (a ∷ more) c =
    ap (λ (xs : List Fraction). count_by p a c (index_of (truth (is_done i)) (table_of items)) ∷ xs) (by-table p items (suc i) more (next_after a c))

module _ (task : GroundParts) (pattern : List ℕ) (n : ℕ) (s : Symbols) (f g : Contents) (at : AreAtStart task s) (empty : f ≡ record { counts = []; atoms = []; clauses = [] }) (p : Point) where
  starts : IsNext 0 nothing_made (symbolic_start (start task)) f s
  starts = start-next task s f at empty

  parts : occurrences_from 0 (occurrences task pattern n) (symbolic_start (start task)) ++ goal_rows task.goal (symbolic_behind 0 (occurrences task pattern n) (symbolic_start (start task))) ≡ items_of task pattern n
  parts = rows-in-turn 0 (occurrences task pattern n) task.goal (symbolic_start (start task))

  pub counts-are : (X : Type 0) (x : X) (news : List Fraction) → ReadsInTurn {X = X} p (occurrences task pattern n) f s [] g news (Ok x) → news ≡ counts_at task pattern n p
  counts-are X x news h =
      let made = h nothing_made 0 (symbolic_start (start task)) starts in
      let acts = occurrences_from 0 (occurrences task pattern n) (symbolic_start (start task)) in
      let goal = goal_rows task.goal (symbolic_behind 0 (occurrences task pattern n) (symbolic_start (start task))) in
      let grown = grows-made goal (made_from acts nothing_made) in
      let same : (made_from goal (made_from acts nothing_made)).keys ≡ table_of (items_of task pattern n) =
      ap (λ (w : Made). w.keys) (sym (made-append acts goal nothing_made) ∙ ap (λ (xs : List Item). made_from xs nothing_made) parts) ∙ (rows-made (start task) task.goal (occurrences task pattern n)).keys in
      made.1 (table_of (items_of task pattern n)) (subst (Grows (made_from acts nothing_made).keys) same grown) ∙ by-table p (items_of task pattern n) 0 (occurrences task pattern n) 0

  -- where all operations fit, memory alone is wanted
  pub counts-memory : (X : Type 0) (e : LinFail) (news : List Fraction) → AllNamedFit (operations_of task pattern n) → ReadsInTurn {X = X} p (occurrences task pattern n) f s [] g news (Err e) → e ≡ fail.Memory
  counts-memory X fail.Memory news fit h = refl
  counts-memory X (fail.Wide w) news fit h =
      let acts = occurrences_from 0 (occurrences task pattern n) (symbolic_start (start task)) in
      let goal = goal_rows task.goal (symbolic_behind 0 (occurrences task pattern n) (symbolic_start (start task))) in
      let passing = (h nothing_made 0 (symbolic_start (start task)) starts).0 in
      let all : AllNamedFit (named_from acts nothing_made ++ named_from goal (made_from acts nothing_made)) =
      subst AllNamedFit (sym (named-formula (items_of task pattern n) (rows-steady (start task) task.goal (occurrences task pattern n))) ∙ ap (λ (xs : List Item). named_from xs nothing_made) (sym parts) ∙ named-append acts goal nothing_made) fit in
      absurd (never (named_from acts nothing_made) (suc (length g.clauses)) w (all_left _ (named_from acts nothing_made) (named_from goal (made_from acts nothing_made)) all) passing)
    where
      never : (os : List (ℕ × Wide)) (r : ℕ) (w : Wide) → AllNamedFit os → IsNamedPassing os r w → ⊥
      never os r w h i = fits-passes w.op w.x w.y (All-contains (λ o. Fits o.1.op o.1.x o.1.y) os (r, w) (All-from_recursion (λ o. Fits o.1.op o.1.x o.1.y) os h) i.named) i.passes

pub copies-all : (P : ℕ → Type 0) (ps : List ℕ) (n : ℕ) → All P ps → All P (copies n ps)
copies-all P ps zero h = λ k d l. absurd (omega arith)
copies-all P ps (suc n) h = All-append P ps (copies n ps) h (copies-all P ps n h)

pub none-at : {X : Type 0} (xs : List X) (i : ℕ) (d : X) → slice_get xs i ≡ None → slice_index_or xs i d ≡ d
none-at [] i d e = refl
none-at (x ∷ xs) zero d e = absurd (cc)
none-at (x ∷ xs) (suc i) d e = none-at xs i d e
