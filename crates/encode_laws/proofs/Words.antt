-- The two laws over rows of facts: an assignment that meets them spells a word that is a valid plan, and such a word has one.
use Rattle.std.proofs.Common.{◌≡◌, ℕ, suc, ◌+◌, ◌≤◌, Bool, true, false, cond, inl, inr, List, [], ◌∷◌, ◌++◌, replicate, length, get_or, refl, sym, ap, subst, ◌∙◌, nat_lt, arith, append_assoc, length-append}
use Rattle.std.proofs.lemmas.List.{get_or_at}
use Rattle.std.specs.Prelude.{⊤}
use lib.IntN.{pos}
use Rattle.rational.specs.Fraction.{Fraction, whole}
use Rattle.lin.specs.Linear.{Linear, value_of}
use Rattle.task_core.specs.declared.action.GAction.{GAction}
use Rattle.task_core.specs.State.{State}
use Rattle.task_core.specs.Step.{Holds, is_in}
use Rattle.task_core.specs.Plan.{Run}
use Rattle.task_core.specs.Rolling.{repeated}
use Rattle.task_core.proofs.RollingLaws.{rollable-counts}
use Rattle.task_core.proofs.RunLaws.{run-append, run_repeated, run_behind}
use Rattle.encode_laws.specs.Rows.{Assignment, Name, is_done, behind, true_at, MeetsAll}
use Rattle.encode_laws.specs.Symbolic.{Symbolic, is_counted, symbolic_start, constant_literal, first_set, next_after, symbolic_after, occurrence, goal_rows, rows_from, rows_of, literal_rows, comparison_rows}
use Rattle.lin.proofs.ValueLaws.{value_fixed}
use Rattle.encode_laws.proofs.RowLaws.{meets-left, meets-right, meets-append}
use Rattle.encode_laws.proofs.SetRows.{TellsSets}
use Rattle.encode_laws.proofs.ComparisonRows.{Agrees, lits-down, lits-up, cmps-down, cmps-up}
use Rattle.encode_laws.proofs.Counts.{IsCountOf, Says}
use Rattle.encode_laws.proofs.Occurrence.{occurrence-down, occurrence-up}

-- ---- words of occurrences
-- each occurrence repeated by its count
abbrev pub word : List GAction → List ℕ → List GAction
word [] ns = []
word (a ∷ more) [] = []
word (a ∷ more) (n ∷ ns) = replicate n a ++ word more ns

abbrev pub AreCounts : List GAction → List ℕ → Type 0
AreCounts [] [] = ⊤
AreCounts [] (n ∷ ns) = ⊥
AreCounts (a ∷ more) [] = ⊥
AreCounts (a ∷ more) (n ∷ ns) = IsCountOf a n × AreCounts more ns

abbrev pub IsPlan : State → GAction → List GAction → Type 0
IsPlan s goal plan = (t : State) × Run s plan t × Holds goal t

-- ---- the start and the goal
pub start-agrees : (pt : Assignment) (s : State) → Agrees pt (symbolic_start s) s
start-agrees pt s = record {
  truth = λ p. by_truth (s.truth p);
  value = λ f. value_fixed pt.value (s.value f);
}
  where
    by_truth : (b : Bool) → true_at pt (constant_literal b) ≡ b
    by_truth true = refl
    by_truth false = refl

goal-down : (pt : Assignment) (goal : GAction) (y : Symbolic) (s : State) → Agrees pt y s → MeetsAll pt (goal_rows goal y) → Holds goal s
goal-down pt goal y s agree h = record {
  literals = lits-down pt [] y s agree goal.lits refl (meets-left pt (literal_rows [] y goal.lits) (comparison_rows [] y goal.cmps) h);
  comparisons = cmps-down pt [] y s agree goal.cmps refl (meets-right pt (literal_rows [] y goal.lits) (comparison_rows [] y goal.cmps) h);
}

goal-up : (pt : Assignment) (goal : GAction) (y : Symbolic) (s : State) → Agrees pt y s → Holds goal s → MeetsAll pt (goal_rows goal y)
goal-up pt goal y s agree h = meets-append pt (literal_rows [] y goal.lits) (comparison_rows [] y goal.cmps)
    (lits-up pt [] y s agree goal.lits (λ f. h.literals)) (cmps-up pt [] y s agree goal.cmps (λ f. h.comparisons))

-- ---- from the assignment to the word
-- the assignment says the counts of all occurrences from i on, whose first numeric variable is c
abbrev pub SaysAll : Assignment → ℕ → List GAction → ℕ → List ℕ → Type 0
SaysAll pt i [] c ns = ns ≡ []
SaysAll pt i (a ∷ more) c [] = ⊥
SaysAll pt i (a ∷ more) c (n ∷ ns) = Says pt i (is_counted a) c n × SaysAll pt (suc i) more (next_after a c) ns

pub record Spells (pt : Assignment) (i : ℕ) (places : List GAction) (goal : GAction) (c : ℕ) (s : State) : Type 0 where
  pub counts : List ℕ
  pub are_counts : AreCounts places counts
  pub says : SaysAll pt i places c counts
  pub plan : IsPlan s goal (word places counts)

pub word-down : (pt : Assignment) (i : ℕ) (places : List GAction) (goal : GAction) (y : Symbolic) (s : State) → Agrees pt y s → MeetsAll pt (rows_from i places goal y) → Spells pt i places goal y.next s
word-down pt i [] goal y s agree h = record {
  counts = [];
  are_counts = tt;
  says = refl;
  plan = (s, refl, goal-down pt goal y s agree h);
}
word-down pt i (a ∷ more) goal y s agree h =
    let one = occurrence-down pt i a y s agree (meets-left pt (occurrence i a y) (rows_from (suc i) more goal (symbolic_after i a y)) h) in
    let rest = word-down pt (suc i) more goal (symbolic_after i a y) (repeated one.count a s) one.agrees (meets-right pt (occurrence i a y) (rows_from (suc i) more goal (symbolic_after i a y)) h) in
    record {
      counts = one.count ∷ rest.counts;
      are_counts = (one.is_count, rest.are_counts);
      says = (one.says, rest.says);
      plan = (rest.plan.0, run-append (replicate one.count a) (word more rest.counts) s (repeated one.count a s) rest.plan.0 one.runs rest.plan.1, rest.plan.2);
    }

-- ---- from the word to the assignment
-- no atom is both added and deleted
abbrev pub Apart : List GAction → Type 0
Apart [] = ⊤
Apart (a ∷ more) = ((p : ℕ) → is_in p a.adds ≡ true → is_in p a.dels ≡ false) × Apart more

-- the assignment tells of the run of a word
abbrev pub TellsAll : Assignment → ℕ → List GAction → ℕ → List ℕ → State → Type 0
TellsAll pt i [] c ns s = ⊤
TellsAll pt i (a ∷ more) c [] s = ⊥
TellsAll pt i (a ∷ more) c (n ∷ ns) s = (Says pt i (is_counted a) c n × ((p : ℕ) → pt.truth (behind i p) ≡ (repeated n a s).truth p) × TellsSets pt s (nat_lt 0 n) (first_set a c) a.sets)
    × TellsAll pt (suc i) more (next_after a c) ns (repeated n a s)

pub word-up : (pt : Assignment) (i : ℕ) (places : List GAction) (goal : GAction) (y : Symbolic) (ns : List ℕ) (s t : State) → Agrees pt y s → AreCounts places ns → Apart places
    → TellsAll pt i places y.next ns s → Run s (word places ns) t → Holds goal t → MeetsAll pt (rows_from i places goal y)
word-up pt i [] goal y ns s t agree m apart tells h g = goal-up pt goal y s agree (subst (Holds goal) (sym (none ns h)) g)
  where
    none : (ns : List ℕ) → Run s (word [] ns) t → s ≡ t
    none ns h = h
word-up pt i (a ∷ more) goal y [] s t agree m apart tells h g = absurd m
word-up pt i (a ∷ more) goal y (n ∷ ns) s t agree m apart tells h g =
    let one = occurrence-up pt i a y s agree n m.0 apart.0 (record { says = tells.0.0; truths = tells.0.1; sets = tells.0.2 }) (run_repeated a n (word more ns) s t h) in
    meets-append pt (occurrence i a y) (rows_from (suc i) more goal (symbolic_after i a y)) one.0
    (word-up pt (suc i) more goal (symbolic_after i a y) ns (repeated n a s) t one.1 m.1 apart.1 tells.1 (run_behind a n (word more ns) s t h) g)

-- ---- the assignment that tells of a run
abbrev pub set_values : Bool → State → List (ℕ × Linear) → List Fraction
set_values o s [] = []
set_values o s (t ∷ ss) = cond o (value_of s.value t.1) (s.value t.0) ∷ set_values o s ss

abbrev pub occurrence_values : GAction → ℕ → State → List Fraction
occurrence_values a n s = cond (is_counted a) (whole (pos n) ∷ []) [] ++ set_values (nat_lt 0 n) s a.sets

abbrev pub told_values : List GAction → List ℕ → State → List Fraction
told_values [] ns s = []
told_values (a ∷ more) [] s = []
told_values (a ∷ more) (n ∷ ns) s = occurrence_values a n s ++ told_values more ns (repeated n a s)

abbrev pub told_states : List GAction → List ℕ → State → List State
told_states [] ns s = []
told_states (a ∷ more) [] s = []
told_states (a ∷ more) (n ∷ ns) s = repeated n a s ∷ told_states more ns (repeated n a s)

abbrev pub told_truth : List ℕ → List State → State → Name → Bool
told_truth ns us s (is_done i) = nat_lt 0 (get_or ns i 0)
told_truth ns us s (behind i p) = (get_or us i s).truth p

abbrev pub told_by : List Fraction → List ℕ → List State → State → Assignment
told_by vs ns us s = record {
  value = λ v. get_or vs v (whole (pos 0));
  truth = told_truth ns us s;
}

length-set_values : (o : Bool) (s : State) (ss : List (ℕ × Linear)) → length (set_values o s ss) ≡ length ss
length-set_values o s [] = refl
length-set_values o s (t ∷ ss) = ap suc (length-set_values o s ss)

-- the lists up to the occurrence, and from it on
module _ (vs : List Fraction) (cs : List ℕ) (us : List State) (s0 : State) where
  pt : Assignment
  pt = told_by vs cs us s0

  told-sets : (o : Bool) (s : State) (ss : List (ℕ × Linear)) (w : ℕ) (front rest : List Fraction) → vs ≡ front ++ (set_values o s ss ++ rest) → w ≡ length front
      → TellsSets (told_by vs cs us s0) s o w ss
  told-sets o s [] w front rest e l = tt
  told-sets o s (t ∷ ss) w front rest e l =
      let x = cond o (value_of s.value t.1) (s.value t.0) in (
        ap (λ (ws : List Fraction). get_or ws w (whole (pos 0))) e ∙ get_or_at front x (set_values o s ss ++ rest) (whole (pos 0)) w (sym l),
        told-sets o s ss (suc w) (front ++ x ∷ []) rest (e ∙ sym (append_assoc front (x ∷ []) (set_values o s ss ++ rest))) (omega (arith, length-append {A = Fraction} front (x ∷ []))),
      )

  told-counts : (i c n : ℕ) (a : GAction) (s : State) (fv rest : List Fraction) (fn ns : List ℕ) → IsCountOf a n → vs ≡ fv ++ (occurrence_values a n s ++ rest) → cs ≡ fn ++ n ∷ ns
      → c ≡ length fv → i ≡ length fn → Says (told_by vs cs us s0) i (is_counted a) c n × TellsSets (told_by vs cs us s0) s (nat_lt 0 n) (first_set a c) a.sets
  told-counts i c n a s fv rest fn ns m ev en lv ln = by_kind (is_counted a) refl ev
    where
      sets : List Fraction
      sets = set_values (nat_lt 0 n) s a.sets

      small : IsCountOf a n → is_counted a ≡ false → n ≤ 1
      small (inl r) e = absurd (let g = rollable-counts a r in cc)
      small (inr l) e = l

      by_kind : (b : Bool) → is_counted a ≡ b → vs ≡ fv ++ ((cond b (whole (pos n) ∷ []) [] ++ set_values (nat_lt 0 n) s a.sets) ++ rest)
          → Says (told_by vs cs us s0) i b c n × TellsSets (told_by vs cs us s0) s (nat_lt 0 n) (cond b (suc c) c) a.sets
      by_kind true e g = (
        ap (λ (ws : List Fraction). get_or ws c (whole (pos 0))) g ∙ get_or_at fv (whole (pos n)) (set_values (nat_lt 0 n) s a.sets ++ rest) (whole (pos 0)) c (sym lv),
        told-sets (nat_lt 0 n) s a.sets (suc c) (fv ++ whole (pos n) ∷ []) rest (g ∙ sym (append_assoc fv (whole (pos n) ∷ []) (set_values (nat_lt 0 n) s a.sets ++ rest)))
            (omega (arith, length-append {A = Fraction} fv (whole (pos n) ∷ []))),
      )
      by_kind false e g = (
        (ap (λ (ms : List ℕ). nat_lt 0 (get_or ms i 0)) en ∙ ap (nat_lt 0) (get_or_at fn n ns 0 i (sym ln)), small m e),
        told-sets (nat_lt 0 n) s a.sets c fv rest g lv,
      )

  told-length : (a : GAction) (n c : ℕ) (s : State) (fv : List Fraction) → c ≡ length fv → next_after a c ≡ length (fv ++ occurrence_values a n s)
  told-length a n c s fv l = by_kind (is_counted a)
    where
      sets : List Fraction
      sets = set_values (nat_lt 0 n) s a.sets

      by_kind : (b : Bool) → cond b (suc c) c + length a.sets ≡ length (fv ++ (cond b (whole (pos n) ∷ []) [] ++ set_values (nat_lt 0 n) s a.sets))
      by_kind true = omega (arith, length-append {A = Fraction} fv (whole (pos n) ∷ set_values (nat_lt 0 n) s a.sets), length-set_values (nat_lt 0 n) s a.sets)
      by_kind false = omega (arith, length-append {A = Fraction} fv (set_values (nat_lt 0 n) s a.sets), length-set_values (nat_lt 0 n) s a.sets)

  told-all : (i : ℕ) (places : List GAction) (c : ℕ) (ns : List ℕ) (s : State) (fv : List Fraction) (fn : List ℕ) (fu : List State) → AreCounts places ns
      → vs ≡ fv ++ told_values places ns s → cs ≡ fn ++ ns → us ≡ fu ++ told_states places ns s → c ≡ length fv → i ≡ length fn → i ≡ length fu
      → TellsAll (told_by vs cs us s0) i places c ns s
  told-all i [] c ns s fv fn fu m ev en eu lv ln lu = tt
  told-all i (a ∷ more) c [] s fv fn fu m ev en eu lv ln lu = absurd m
  told-all i (a ∷ more) c (n ∷ ns) s fv fn fu m ev en eu lv ln lu =
      let one = told-counts i c n a s fv (told_values more ns (repeated n a s)) fn ns m.0 ev en lv ln in (
        (one.0, (λ p. ap (λ (ws : List State). (get_or ws i s0).truth p) eu ∙ ap (λ (w : State). w.truth p) (get_or_at fu (repeated n a s) (told_states more ns (repeated n a s)) s0 i (sym lu))), one.1),
        told-all (suc i) more (next_after a c) ns (repeated n a s) (fv ++ occurrence_values a n s) (fn ++ n ∷ []) (fu ++ repeated n a s ∷ []) m.1
            (ev ∙ sym (append_assoc fv (occurrence_values a n s) (told_values more ns (repeated n a s))))
            (en ∙ sym (append_assoc fn (n ∷ []) ns)) (eu ∙ sym (append_assoc fu (repeated n a s ∷ []) (told_states more ns (repeated n a s))))
            (told-length a n c s fv lv) (omega (arith, length-append {A = ℕ} fn (n ∷ []))) (omega (arith, length-append {A = State} fu (repeated n a s ∷ []))),
      )

-- ---- the two laws
-- the counts of an assignment that meets the rows spell a word that is a valid plan
pub point-spells : (start : State) (goal : GAction) (places : List GAction) (pt : Assignment) → MeetsAll pt (rows_of start goal places) → Spells pt 0 places goal 0 start
point-spells start goal places pt h = word-down pt 0 places goal (symbolic_start start) start (start-agrees pt start) h

-- a word that is a valid plan has an assignment that meets the rows
pub word-has_point : (start : State) (goal : GAction) (places : List GAction) (ns : List ℕ) → Apart places → AreCounts places ns → IsPlan start goal (word places ns)
    → (vs : List Fraction) × (tr : Name → Bool) × MeetsAll (record { value = λ w. get_or vs w (whole (pos 0)); truth = tr }) (rows_of start goal places)
word-has_point start goal places ns apart m plan =
    let vs = told_values places ns start in
    let us = told_states places ns start in
    let pt = told_by vs ns us start in
    (vs, told_truth ns us start, word-up pt 0 places goal (symbolic_start start) ns start plan.0 (start-agrees pt start) m apart (told-all vs ns us start 0 places 0 ns start [] [] [] m refl refl refl refl refl refl) plan.1 plan.2)
