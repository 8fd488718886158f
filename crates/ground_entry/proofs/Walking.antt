-- Walking through some instances and then through others.
use Rattle.std.proofs.Common.{◌≡◌, ℕ, ◌<◌, ◌≤◌, Bool, true, false, cond, List, [], ◌∷◌, ◌++◌, length, refl, sym, ap, subst, ◌∙◌, append_assoc, arith}
use Rattle.std.proofs.lemmas.Bool.Decides.{nat_tests}
use Rattle.std.proofs.lemmas.List.{append-nil, length-append}
use Rattle.frac128.specs.declared.operations.Wide.{Wide}
use Rattle.lin.proofs.Leading.{IsLeft, left-start, left-all_fit, left-none, left-first}
use Rattle.pddl_task.specs.declared.parts.TaskParts.{TaskParts}
use Rattle.ground_walk.specs.Walk.{Kept}
use Rattle.ground_laws.specs.Laws.{instance_of}
use Rattle.ground_entry.specs.declared.walk.Walk.{Walk}
use Rattle.ground_entry.specs.declared.failure.GroundFail.{GroundFail}
use Rattle.ground_entry.specs.declared.failure.GroundFail.TheVariants.{Many, CoefWide, Memory}
use Rattle.ground_entry.specs.Walking.{is_kept_in, ops_at, kept_with, walk_with, walk_on, is_over, ops_on, IsThrough, IsTooMany, Refuses}

module _ (task : TaskParts) where
  -- no kept instance is lost
  more_with : (w : Walk) (k : Kept) → length w.instances ≤ length (walk_with task w k).instances
  more_with w k = by (is_kept_in task k)
    where
      by : (b : Bool) → length w.instances ≤ length (cond b (kept_with task w k) w).instances
      by true = omega (arith, length-append w.instances (instance_of k ∷ []))
      by false = omega arith

  pub more_on : (w : Walk) (xs : List Kept) → length w.instances ≤ length (walk_on task w xs).instances
  more_on w [] = omega arith
  more_on w (k ∷ xs) = let a = more_with w k in let b = more_on (walk_with task w k) xs in omega arith

  pub on_append : (w : Walk) (xs ys : List Kept) → walk_on task w (xs ++ ys) ≡ walk_on task (walk_on task w xs) ys
  on_append w [] ys = refl
  on_append w (k ∷ xs) ys = on_append (walk_with task w k) xs ys

  module _ (limit : ℕ) where
    over_is : (w : Walk) → is_over limit w ≡ true → limit < length w.instances
    over_is w e = grind (arith, nat_tests)

    is_over_where : (w : Walk) → limit < length w.instances → is_over limit w ≡ true
    is_over_where w h = grind (arith, nat_tests)

    within_is : (w : Walk) → length w.instances ≤ limit → is_over limit w ≡ false
    within_is w h = grind (arith, nat_tests)

    stays_over : (w : Walk) (xs : List Kept) → is_over limit w ≡ true → is_over limit (walk_on task w xs) ≡ true
    stays_over w xs e = let a = over_is w e in let b = more_on w xs in is_over_where (walk_on task w xs) (omega arith)

    -- the operations of the others come behind, unless an instance was one too many
    pub ops_append : (w : Walk) (xs ys : List Kept) → is_over limit w ≡ false
        → ops_on task limit w (xs ++ ys) ≡ ops_on task limit w xs ++ cond (is_over limit (walk_on task w xs)) [] (ops_on task limit (walk_on task w xs) ys)
    ops_append w [] ys e = sym (ap (λ b. cond b [] (ops_on task limit w ys)) e)
    ops_append w (k ∷ xs) ys e = by (is_over limit (walk_with task w k)) refl (λ f. ops_append (walk_with task w k) xs ys f)
      where
        next : Walk
        next = walk_with task w k

        tail : List Wide
        tail = cond (is_over limit (walk_on task next xs)) [] (ops_on task limit (walk_on task next xs) ys)

        by : (b : Bool) → is_over limit next ≡ b → (is_over limit next ≡ false → ops_on task limit next (xs ++ ys) ≡ ops_on task limit next xs ++ tail)
            → ops_at task w k ++ cond b [] (ops_on task limit next (xs ++ ys)) ≡ (ops_at task w k ++ cond b [] (ops_on task limit next xs)) ++ tail
        by true f ih =
            sym (append-nil (ops_at task w k ++ [])) ∙ sym (ap (λ c. (ops_at task w k ++ []) ++ cond c [] (ops_on task limit (walk_on task next xs) ys)) (stays_over next xs f))
        by false f ih = ap (λ l. ops_at task w k ++ l) (ih f) ∙ sym (append_assoc (ops_at task w k) (ops_on task limit next xs) tail)

    -- ---- on the way through all instances: what is walked, and the rest of them
    pub record IsWalking (start : Walk) (all : List Kept) (now : Walk) (rest : List Kept) : Type 0 where
      pub left : IsLeft (ops_on task limit now rest) (ops_on task limit start all)
      pub value : walk_on task now rest ≡ walk_on task start all
      pub few : length now.instances ≤ limit

    pub walking-start : (start : Walk) (all : List Kept) → length start.instances ≤ limit → IsWalking start all start all
    walking-start start all few = record { left = left-start (ops_on task limit start all); value = refl; few = few }

    module _ (start : Walk) (all : List Kept) (now : Walk) (xs ys : List Kept) (h : IsWalking start all now (xs ++ ys)) where
      abbrev behind : List Wide
      behind = cond (is_over limit (walk_on task now xs)) [] (ops_on task limit (walk_on task now xs) ys)

      left_both : IsLeft (ops_on task limit now xs ++ behind) (ops_on task limit start all)
      left_both = subst (λ ops. IsLeft ops (ops_on task limit start all)) (ops_append now xs ys (within_is now h.few)) h.left

      value_both : walk_on task (walk_on task now xs) ys ≡ walk_on task start all
      value_both = sym (on_append now xs ys) ∙ h.value

      pub walking-next : (new : Walk) → IsThrough task limit now xs new → IsWalking start all new ys
      walking-next new t =
          let over : is_over limit (walk_on task now xs) ≡ false = ap (is_over limit) (sym t.is) ∙ within_is new t.few in
          record {
            left =
                subst (λ w. IsLeft (ops_on task limit w ys) (ops_on task limit start all)) (sym t.is)
                (left-all_fit (ops_on task limit now xs) (ops_on task limit (walk_on task now xs) ys) (ops_on task limit start all)
                (subst (λ b. IsLeft (ops_on task limit now xs ++ cond b [] (ops_on task limit (walk_on task now xs) ys)) (ops_on task limit start all)) over left_both) t.fit);
            value = ap (λ w. walk_on task w ys) t.is ∙ value_both;
            few = t.few;
          }

      walking-many : IsTooMany task limit now xs → IsTooMany task limit start all
      walking-many m = record {
        fit =
            left-none (ops_on task limit start all)
            (left-all_fit (ops_on task limit now xs) [] (ops_on task limit start all)
            (subst (λ b. IsLeft (ops_on task limit now xs ++ cond b [] (ops_on task limit (walk_on task now xs) ys)) (ops_on task limit start all)) (is_over_where (walk_on task now xs) m.over) left_both) m.fit);
        over = let more = more_on (walk_on task now xs) ys in let o = m.over in subst (λ w. limit < length w.instances) value_both (omega arith);
      }

      -- a refusal on the way is one of all
      pub walking-refused : (e : GroundFail) → Refuses task limit now xs e → Refuses task limit start all e
      walking-refused Many m = walking-many m
      walking-refused (CoefWide w) f = left-first w (ops_on task limit now xs) behind (ops_on task limit start all) left_both f
      walking-refused Memory f = f

    pub walking-done : (start : Walk) (all : List Kept) (now : Walk) → IsWalking start all now [] → IsThrough task limit start all now
    walking-done start all now h = record { fit = left-none (ops_on task limit start all) h.left; is = h.value; few = h.few }
