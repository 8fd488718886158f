-- A plan is the instances of a word of ground actions.
use Rattle.std.proofs.Common.{◌≡◌, ℕ, zero, suc, ◌+◌, ◌*◌, ◌<◌, Bool, true, false, ◌&&◌, cond, List, [], ◌∷◌, ◌++◌, length, map, replicate, nat_eq, nat_le, refl, sym, ◌∙◌, ap, subst, arith, length-append}
use Rattle.std.proofs.lemmas.List.{length-map, map-append}
use Rattle.std.proofs.lemmas.Bool.{le-leb}
use Rattle.std.specs.Prelude.{⊤}
use Rattle.std.specs.List.{AllByRecursion, list_all, flat_map}
use lib.IntN.{pos}
use Rattle.rational.specs.Fraction.{Fraction, whole}
use Rattle.pddl_task.specs.declared.instance.Instance.{Instance}
use Rattle.pddl_task.specs.declared.parts.TaskParts.{TaskParts}
use Rattle.plan_form.specs.declared.plan.Part.{Part}
use Rattle.plan_form.specs.Printed as printed
use Rattle.plan_form.specs.Printed.{is_call_of, is_part_of}
use Rattle.task_core.specs.declared.action.GAction.{GAction}
use Rattle.task_core.specs.Task.{GroundParts, action_at}
use Rattle.task_core.specs.Words as words
use Rattle.formula.specs.declared.point.Point.{Point}
use Rattle.pattern.specs.Word.{copies, count_of, part_of, parts_of}
use Rattle.encode_laws.specs.Rows.{Item}
use Rattle.encode_laws.specs.Symbolic.{next_after}
use Rattle.encode_laws.specs.Encoding.{occurrences, items_of, counts_from, counts_at}
use Rattle.ground_walk.specs.Walk.{kept_instances}
use Rattle.ground_laws.specs.Laws.{instance_of}
use Rattle.ground_plans.specs.Plans.{instance_at, instances_at}
use Rattle.search.specs.inside.Planning.{part_in, AreKept}
use Rattle.search.proofs.InstanceLaws.{instance_is_call}

-- ---- how many counts there are

length-counts : (p : Point) (items : List Item) (i : ℕ) (acts : List GAction) (c : ℕ) → length (counts_from p items i acts c) ≡ length acts
length-counts p items i [] c = refl
length-counts p items i (a ∷ more) c = ap suc (length-counts p items (suc i) more (next_after a c))

length-copies : (n : ℕ) (places : List ℕ) → length (copies n places) ≡ n * length places
length-copies zero places = omega arith
length-copies (suc n) places = length-append places (copies n places) ∙ ap (λ (k : ℕ). length places + k) (length-copies n places) ∙ omega arith

pub count_for_each : (task : GroundParts) (places : List ℕ) (n : ℕ) (p : Point) → length (counts_at task places n p) ≡ n * length places
count_for_each task places n p =
    length-counts p (items_of task places n) 0 (occurrences task places n) 0 ∙ length-map (copies n places) (action_at task) ∙ length-copies n places

pub all_whole : (ns : List ℕ) → AllByRecursion (λ c. (k : ℕ) × (c ≡ whole (pos k))) (map (λ k. whole (pos k)) ns)
all_whole [] = tt
all_whole (n ∷ ns) = ((n, refl), all_whole ns)

-- ---- the parts of a word

all_append : {X : Type 0} (P : X → Type 0) (xs ys : List X) → AllByRecursion P xs → AllByRecursion P ys → AllByRecursion P (xs ++ ys)
all_append P [] ys h j = j
all_append P (x ∷ xs) ys h j = (h.0, all_append P xs ys h.1 j)

copies_below : (m n : ℕ) (places : List ℕ) → AllByRecursion (λ a. a < m) places → AllByRecursion (λ a. a < m) (copies n places)
copies_below m zero places h = tt
copies_below m (suc n) places h = all_append (λ a. a < m) places (copies n places) h (copies_below m n places h)

parts_below : (m : ℕ) (ps : List ℕ) (cs : List Fraction) → AllByRecursion (λ a. a < m) ps → AllByRecursion (λ (p : ℕ × ℕ). p.1 < m) (parts_of ps cs)
parts_below m [] cs h = tt
parts_below m (p ∷ ps) [] h = tt
parts_below m (p ∷ ps) (c ∷ cs) h = all_append (λ (q : ℕ × ℕ). q.1 < m) (part_of c p) (parts_of ps cs) (one (nat_eq (count_of c) 0)) (parts_below m ps cs h.1)
  where
    one : (b : Bool) → AllByRecursion (λ (q : ℕ × ℕ). q.1 < m) (cond b [] ((count_of c, p) ∷ []))
    one true = tt
    one false = (h.0, tt)

pub word_kept : (task : TaskParts) (n : ℕ) (places : List ℕ) (cs : List Fraction) → AllByRecursion (λ a. a < length (kept_instances task)) places → AreKept task (parts_of (copies n places) cs)
word_kept task n places cs h = parts_below (length (kept_instances task)) (copies n places) cs (copies_below (length (kept_instances task)) n places h)

list_all-append : {X : Type 0} (p : X → Bool) (xs ys : List X) → list_all p xs ≡ true → list_all p ys ≡ true → list_all p (xs ++ ys) ≡ true
list_all-append p [] ys h j = j
list_all-append p (x ∷ xs) ys h j = both (p x) (list_all p xs) (list_all p (xs ++ ys)) h (λ g. list_all-append p xs ys g j)
  where
    both : (a b c : Bool) → (a && b) ≡ true → (b ≡ true → c ≡ true) → (a && c) ≡ true
    both true b c e f = f e
    both false b c e f = absurd (cc (e))

counted_more : (k : ℕ) → nat_eq k 0 ≡ false → nat_le 1 k ≡ true
counted_more zero h = absurd (cc (h))
counted_more (suc k) h = le-leb 1 (suc k) (omega arith)

module _ (task : TaskParts) where
  abbrev is_counted : Part → Bool
  is_counted part = nat_le 1 part.count

  pub counted : (ps : List ℕ) (cs : List Fraction) → list_all is_counted (map (part_in task) (parts_of ps cs)) ≡ true
  counted [] cs = refl
  counted (p ∷ ps) [] = refl
  counted (p ∷ ps) (c ∷ cs) =
      ap (λ (l : List Part). list_all is_counted l) (map-append (part_in task) (part_of c p) (parts_of ps cs))
      ∙ list_all-append is_counted (map (part_in task) (part_of c p)) (map (part_in task) (parts_of ps cs)) (one (nat_eq (count_of c) 0) refl) (counted ps cs)
    where
      one : (b : Bool) → nat_eq (count_of c) 0 ≡ b → list_all is_counted (map (part_in task) (cond b [] ((count_of c, p) ∷ []))) ≡ true
      one true e = refl
      one false e = ap (λ (t : Bool). t && true) (counted_more (count_of c) e)

  pub word_written : (word : List (ℕ × ℕ)) → list_all (λ k. is_call_of task (instance_of k)) (kept_instances task) ≡ true → AreKept task word → list_all (is_part_of task) (map (part_in task) word) ≡ true
  word_written [] calls h = refl
  word_written (p ∷ ps) calls h = both (instance_is_call task p.1 calls h.0) (word_written ps calls h.1)
    where
      both : is_call_of task (instance_at task p.1) ≡ true → list_all (is_part_of task) (map (part_in task) ps) ≡ true → list_all (is_part_of task) (map (part_in task) (p ∷ ps)) ≡ true
      both a b = ap (λ (t : Bool). t && list_all (is_part_of task) (map (part_in task) ps)) a ∙ b

  map-replicate : (n a : ℕ) → map (instance_at task) (replicate n a) ≡ replicate n (instance_at task a)
  map-replicate zero a = refl
  map-replicate (suc n) a = ap (λ (l : List Instance). instance_at task a ∷ l) (map-replicate n a)

  pub instances_of_word : (word : List (ℕ × ℕ)) → printed.written_out (map (part_in task) word) ≡ instances_at task (words.written_out word)
  unfolding printed.written_out
  instances_of_word [] = refl
  instances_of_word (p ∷ ps) =
      ap (λ (l : List Instance). replicate p.0 (instance_at task p.1) ++ l) (instances_of_word ps)
      ∙ ap (λ (l : List Instance). l ++ map (instance_at task) (words.written_out ps)) (sym (map-replicate p.0 p.1))
      ∙ sym (map-append (instance_at task) (replicate p.0 p.1) (words.written_out ps))
