-- The two laws in the words of `specs/Laws`.
use Rattle.std.proofs.Common.{◌≡◌, ◌↔◌, ℕ, zero, suc, ◌<◌, ◌≤◌, Bool, true, false, cond, List, [], ◌∷◌, map, length, refl, sym, ap, ap₂, subst, ◌∙◌, nat_lt, nat_eq, arith}
use Rattle.std.specs.List.{All, AllByRecursion}
use Rattle.std.proofs.lemmas.Bool.{or_cases, eqb-true}
use Rattle.std.proofs.lemmas.List.Elements.{All-head, All-tail, All-get_or}
use Rattle.std.proofs.Common.{inl, inr, ◌⊎◌}
use lib.IntN.{pos}
use Rattle.rational.specs.Fraction.{Fraction, whole}
use Rattle.lin.specs.Linear.{point_of}
use Rattle.task_core.specs.declared.action.GAction.{GAction}
use Rattle.task_core.specs.Step.{is_in}
use Rattle.task_core.specs.Task.{GroundParts, start, idle, action_at, IsActionOf, IsGroundTask}
use Rattle.task_core.specs.Words.{written_out, IsWord}
use Rattle.pattern.specs.Word.{parts_of}
use Rattle.task_core.specs.Plan.{Run, rolls, IsValidPlan, Reaches}
use Rattle.formula.specs.declared.point.Point.{Point}
use Rattle.formula.specs.Meets.{truth_at, IsSolution}
use Rattle.encode_laws.specs.Rows.{is_done, Item}
use Rattle.encode_laws.specs.Symbolic.{is_counted, next_after}
use Rattle.encode_laws.specs.Numbering.{truth, index_of, table_of}
use Rattle.encode_laws.specs.Encoding.{copies, occurrences, items_of, formula_of, counts_from, counts_at}
use Rattle.encode_laws.specs.Laws.{spelled, SpellsPlan}
use Rattle.encode_laws.proofs.Counts.{Says}
use Rattle.encode_laws.proofs.Words.{AreCounts, word, IsPlan, SaysAll, Apart}
use Rattle.encode_laws.proofs.FormulaLaws.{assignment_of, formula-spells, formula-has_point}
use Rattle.encode_laws.proofs.Spelling.{counted, parts-counted, each-copies, each-written, spelled-word, spelled-is_word, counts_in, joined}

module _ (p : Point) (items : List Item) where
  says_count : (i c n : ℕ) (b : Bool) → Says (assignment_of p items) i b c n
      → cond b (point_of p.values c) (cond (truth_at p.truth (index_of (truth (is_done i)) (table_of items))) (whole (pos 1)) (whole (pos 0))) ≡ whole (pos n)
  says_count i c n true h = h
  says_count i c n false h = ap (λ (t : Bool). cond t (whole (pos 1)) (whole (pos 0))) h.0 ∙ small n h.1
    where
      small : (n : ℕ) → n ≤ 1 → cond (nat_lt 0 n) (whole (pos 1)) (whole (pos 0)) ≡ whole (pos n)
      small zero l = refl
      small (suc zero) l = refl
      small (suc (suc n)) l = absurd (omega arith)

  says-counts : (i : ℕ) (places : List GAction) (c : ℕ) (ns : List ℕ) → SaysAll (assignment_of p items) i places c ns → counts_from p items i places c ≡ map (λ n. whole (pos n)) ns
  says-counts i [] c ns h = sym (ap (map (λ n. whole (pos n))) h)
  says-counts i (a ∷ more) c [] h = absurd h
  says-counts i (a ∷ more) c (n ∷ ns) h = ap₂ (λ (x : Fraction) (xs : List Fraction). x ∷ xs) (says_count i c n (is_counted a) h.0) (says-counts (suc i) more (next_after a c) ns h.1)

pub point-plan : (task : GroundParts) (pattern : List ℕ) (n : ℕ) (p : Point) → AllByRecursion (λ a. a < length task.actions) pattern → IsSolution (formula_of task pattern n) p → SpellsPlan task pattern n p
point-plan task pattern n p numbers m =
    let s = formula-spells (start task) task.goal (occurrences task pattern n) p m in
    let at : counts_at task pattern n p ≡ map (λ k. whole (pos k)) s.counts = says-counts p (items_of task pattern n) 0 (occurrences task pattern n) 0 s.counts s.says in
    let same : written_out (counted s.counts (copies n pattern)) ≡ spelled task pattern n p =
    sym (ap (λ (cs : List Fraction). written_out (parts_of (copies n pattern) cs)) at ∙ parts-counted (copies n pattern) s.counts) in
    record {
      counts = s.counts;
      at_point = at;
      word = subst (IsWord (rolls task) pattern n) same (spelled-is_word task n pattern s.counts s.are_counts);
      valid = subst (IsValidPlan task) same (record {
        numbered = each-written (λ a. a < length task.actions) s.counts (copies n pattern) (each-copies (λ a. a < length task.actions) n pattern numbers);
        end = s.plan.0;
        run = subst (λ (us : List GAction). Run (start task) us s.plan.0) (sym (spelled-word task s.counts (copies n pattern))) s.plan.1;
        goal = s.plan.2;
      });
    }

-- ---- no atom is both added and deleted by an action of the task
element : (P : ℕ → Type 0) (xs : List ℕ) (p : ℕ) → All P xs → is_in p xs ≡ true → P p
element P [] p h e = absurd (cc)
element P (x ∷ xs) p h e = by_case (or_cases (nat_eq x p) (is_in p xs) e) (element P xs p (All-tail P x xs h))
  where
    by_case : (nat_eq x p ≡ true) ⊎ (is_in p xs ≡ true) → (is_in p xs ≡ true → P p) → P p
    by_case (inl f) later = subst P (eqb-true x p f) (All-head P x xs h)
    by_case (inr f) later = later f

apart-all : (task : GroundParts) → IsGroundTask task → (xs : List ℕ) → AllByRecursion (λ a. a < length task.actions) xs → Apart (map (action_at task) xs)
apart-all task t [] h = tt
apart-all task t (x ∷ xs) h = (one, apart-all task t xs h.1)
  where
    one : (p : ℕ) → is_in p (action_at task x).adds ≡ true → is_in p (action_at task x).dels ≡ false
    one p e = element (λ q. is_in q (action_at task x).dels ≡ false) (action_at task x).adds p (All-get_or (IsActionOf task) task.actions x idle h.0 t.actions).orderly.atoms_apart e

has-point : (task : GroundParts) (pattern : List ℕ) (n : ℕ) → IsGroundTask task → AllByRecursion (λ a. a < length task.actions) pattern → Reaches task pattern n → (p : Point) × IsSolution (formula_of task pattern n) p
has-point task pattern n t numbers r =
    let j = joined task pattern r.word.pieces r.word.each in
    let same : copies (length r.word.pieces) pattern ≡ copies n pattern = ap (λ (m : ℕ). copies m pattern) r.word.copies in
    let ns = counts_in task r.word.pieces in
    let are : AreCounts (occurrences task pattern n) ns = subst (λ (xs : List ℕ). AreCounts (map (action_at task) xs) ns) same j.are_counts in
    let is_word : map (action_at task) r.plan ≡ word (occurrences task pattern n) ns =
    ap (map (action_at task)) (sym r.word.spelled) ∙ sym j.word_is ∙ ap (λ (xs : List ℕ). word (map (action_at task) xs) ns) same in
    let plan : IsPlan (start task) task.goal (word (occurrences task pattern n) ns) = (r.valid.end, subst (λ (us : List GAction). Run (start task) us r.valid.end) is_word r.valid.run, r.valid.goal) in
    formula-has_point (start task) task.goal (occurrences task pattern n) ns
    (apart-all task t (copies n pattern) (each-copies (λ a. a < length task.actions) n pattern numbers)) are plan

pub point-exists : (task : GroundParts) (pattern : List ℕ) (n : ℕ) → IsGroundTask task → AllByRecursion (λ a. a < length task.actions) pattern
    → Reaches task pattern n ↔ ((p : Point) × IsSolution (formula_of task pattern n) p)
point-exists task pattern n t numbers = (
  has-point task pattern n t numbers,
  λ x. let s = point-plan task pattern n x.0 numbers x.1 in record { plan = spelled task pattern n x.0; word = s.word; valid = s.valid },
)
