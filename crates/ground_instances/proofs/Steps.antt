-- What the search finds, by the program's list of arguments.
use Rattle.std.proofs.Common.{◌≡◌, ℕ, zero, suc, ◌+◌, ◌-◌, ◌<◌, ◌≤◌, Bool, true, false, List, [], ◌∷◌, ◌++◌, length, take, drop, get_or, set, refl, sym, ap, subst, ◌∙◌, add-one, arith}
use Rattle.std.proofs.lemmas.List.{take_more, take_more_set}
use Rattle.ground_instances.specs.inside.Search.{lists_from, lists_after, NoneOpen, IsNextObject, IsCompleted, IsFollowed}
use Rattle.ground_instances.proofs.Finding.{one_left, none_left, skipped, passed_shut, passed_empty, after_is, after_none, found_with}

-- ---- lists divided at a place
record Divided (xs : List ℕ) (at : ℕ) (front : List ℕ) (o : ℕ) : Type 0 where
  front_is : take at xs ≡ front
  back_is : drop at xs ≡ o ∷ drop (at + 1) xs

divided_at : (xs : List ℕ) (at : ℕ) (front : List ℕ) (o : ℕ) → length front ≡ at → take (suc at) xs ≡ front ++ o ∷ [] → (take at xs ≡ front) × (drop at xs ≡ o ∷ drop (suc at) xs)
divided_at [] zero [] o e h = cc
divided_at [] (suc at) [] o e h = absurd (omega (arith, e))
divided_at [] at (f ∷ front) o e h = nothing at (front ++ o ∷ []) h
  where
    nothing : (m : ℕ) (ys : List ℕ) → take (suc m) [] ≡ f ∷ ys → (take m [] ≡ f ∷ front) × (drop m [] ≡ o ∷ drop (suc m) [])
    nothing m ys e = cc
divided_at (x ∷ xs) zero [] o e h = let same : x ≡ o = cc in (refl, ap (λ y. y ∷ xs) same)
divided_at (x ∷ xs) zero (f ∷ front) o e h = absurd (omega (arith, e))
divided_at (x ∷ xs) (suc at) [] o e h = absurd (omega (arith, e))
divided_at (x ∷ xs) (suc at) (f ∷ front) o e h =
    let same : x ≡ f = cc in
    let inner : take (suc at) xs ≡ front ++ o ∷ [] = cc in
    let parts = divided_at xs at front o (omega (arith, e)) inner in
    (ap (λ y. y ∷ take at xs) same ∙ ap (λ l. f ∷ l) parts.0, parts.1)

divided : (xs : List ℕ) (at : ℕ) (front : List ℕ) (o : ℕ) → length front ≡ at → take (at + 1) xs ≡ front ++ o ∷ [] → Divided xs at front o
divided xs at front o e h =
    let parts = divided_at xs at front o e (ap (λ m. take m xs) (sym (add-one at)) ∙ h) in
    record { front_is = parts.0; back_is = parts.1 ∙ ap (λ m. o ∷ drop m xs) (sym (add-one at)) }

length-take_at : (xs : List ℕ) (at : ℕ) → at ≤ length xs → length (take at xs) ≡ at
length-take_at xs zero h = refl
length-take_at [] (suc at) h = absurd (omega arith)
length-take_at (x ∷ xs) (suc at) h = ap suc (length-take_at xs at (omega (arith, h)))

length-drop_at : (xs : List ℕ) (at : ℕ) → length (drop at xs) ≡ length xs - at
length-drop_at xs zero = omega arith
length-drop_at [] (suc at) = omega arith
length-drop_at (x ∷ xs) (suc at) = length-drop_at xs at ∙ omega arith

drop-nothing : (xs : List ℕ) (at : ℕ) → at ≡ length xs → drop at xs ≡ []
drop-nothing [] zero e = refl
drop-nothing [] (suc at) e = refl
drop-nothing (x ∷ xs) zero e = absurd (omega (arith, e))
drop-nothing (x ∷ xs) (suc at) e = drop-nothing xs at (omega (arith, e))

module _ (n : ℕ) (allowed : List ℕ → Bool) where
  -- all arguments are chosen
  pub completed_here : (args : List ℕ) (at low : ℕ) → at ≡ length args → IsCompleted n allowed args at low true args
  completed_here args at low e =
      let none : length args - at ≡ zero = omega (arith, e) in
      let whole : take at args ≡ args = take_all args at e in
      record {
        front = refl;
        lists = ap (λ k. lists_from n allowed k (take at args) low) none ∙ one_left n allowed (take at args) low ∙ ap (λ l. l ∷ []) whole
            ∙ ap (λ l. args ∷ l) (sym (ap (lists_after n allowed (take at args)) (drop-nothing args at e) ∙ after_none n allowed (take at args)));
      }
    where
      take_all : (xs : List ℕ) (m : ℕ) → m ≡ length xs → take m xs ≡ xs
      take_all [] zero h = refl
      take_all [] (suc m) h = refl
      take_all (x ∷ xs) zero h = absurd (omega (arith, h))
      take_all (x ∷ xs) (suc m) h = ap (λ l. x ∷ l) (take_all xs m (omega (arith, h)))

  -- what holds at each turn of the search at a place
  pub record Turning (old : List ℕ) (at start : ℕ) (args : List ℕ) (low : ℕ) : Type 0 where
    pub long : length args ≡ length old
    pub front : take at args ≡ take at old
    pub lists : lists_from n allowed (length old - at) (take at old) start ≡ lists_from n allowed (length old - at) (take at old) low

  module _ (old args : List ℕ) (at start low : ℕ) (within : at < length old) (turning : Turning old at start args low) where
    left : length old - at ≡ suc (length old - (at + 1))
    left = omega arith

    -- no object is left
    pub turning_end : NoneOpen n allowed (take at args) low n → IsCompleted n allowed old at start false args
    turning_end none = record {
      front = turning.front;
      lists = turning.lists ∙ ap (λ k. lists_from n allowed k (take at old) low) left
          ∙ none_left n allowed (length old - (at + 1)) (take at old) low (subst (λ l. NoneOpen n allowed l low n) turning.front none);
    }

    module _ (object : ℕ) (next : IsNextObject n allowed (take at args) low object) where
      chosen : take (at + 1) (set args at object) ≡ take at old ++ object ∷ []
      chosen =
          let inside : at < length args = omega (arith, turning.long) in
          take_more_set args at object inside ∙ ap (λ l. l ++ object ∷ []) turning.front

      pub turned_length : length (set args at object) ≡ length old
      turned_length = length-set_at args at object ∙ turning.long
        where
          length-set_at : (xs : List ℕ) (i y : ℕ) → length (set xs i y) ≡ length xs
          length-set_at [] zero y = refl
          length-set_at [] (suc i) y = refl
          length-set_at (x ∷ xs) zero y = refl
          length-set_at (x ∷ xs) (suc i) y = ap suc (length-set_at xs i y)

      reached : lists_from n allowed (length old - at) (take at old) start ≡ lists_from n allowed (suc (length old - (at + 1))) (take at old) object
      reached =
          turning.lists ∙ ap (λ k. lists_from n allowed k (take at old) low) left
          ∙ skipped n allowed (length old - (at + 1)) (take at old) low object next.above (omega (arith, next.below)) (subst (λ l. NoneOpen n allowed l low object) turning.front next.skipped)

      fronts : (new : List ℕ) → take (at + 1) new ≡ take (at + 1) (set args at object) → Divided new at (take at old) object
      fronts new e = divided new at (take at old) object (length-take_at old at (omega arith)) (e ∙ chosen)

      -- the object cannot follow
      pub turning_shut : allowed (take (at + 1) (set args at object)) ≡ false → Turning old at start (set args at object) (object + 1)
      turning_shut shut = record {
        long = turned_length;
        front = (fronts (set args at object) refl).front_is;
        lists = reached ∙ passed_shut n allowed (length old - (at + 1)) (take at old) object next.below (subst (λ l. allowed l ≡ false) chosen shut)
            ∙ ap (λ k. lists_from n allowed k (take at old) (object + 1)) (sym left);
      }

      from_inner : (k : ℕ) → k ≡ length old - (at + 1) → lists_from n allowed k (take (at + 1) (set args at object)) 0 ≡ lists_from n allowed (length old - (at + 1)) (take at old ++ object ∷ []) 0
      from_inner k e = ap (λ m. lists_from n allowed m (take (at + 1) (set args at object)) 0) e ∙ ap (λ l. lists_from n allowed (length old - (at + 1)) l 0) chosen

      inner_length : length (set args at object) - (at + 1) ≡ length old - (at + 1)
      inner_length = ap (λ m. m - (at + 1)) turned_length

      -- nothing is found with it
      pub turning_empty : (new : List ℕ) → length new ≡ length old → allowed (take (at + 1) (set args at object)) ≡ true → IsCompleted n allowed (set args at object) (at + 1) 0 false new → Turning old at start new (object + 1)
      turning_empty new long opens inner = record {
        long = long;
        front = (fronts new inner.front).front_is;
        lists = reached ∙ passed_empty n allowed (length old - (at + 1)) (take at old) object next.below (subst (λ l. allowed l ≡ true) chosen opens)
            (sym (from_inner (length (set args at object) - (at + 1)) inner_length) ∙ inner.lists)
            ∙ ap (λ k. lists_from n allowed k (take at old) (object + 1)) (sym left);
      }

      -- a list is found with it
      pub turning_found : (new : List ℕ) → length new ≡ length old → allowed (take (at + 1) (set args at object)) ≡ true → IsCompleted n allowed (set args at object) (at + 1) 0 true new → IsCompleted n allowed old at start true new
      turning_found new long opens inner =
          let parts = fronts new inner.front in
          let rest : length old - (at + 1) ≡ length (drop (at + 1) new) = sym (length-drop_at new (at + 1) ∙ ap (λ m. m - (at + 1)) long) in
          record {
            front = parts.front_is;
            lists = reached
                ∙ found_with n allowed (length old - (at + 1)) (take at old) object new (drop (at + 1) new) next.below (subst (λ l. allowed l ≡ true) chosen opens) rest
                (sym (from_inner (length (set args at object) - (at + 1)) inner_length) ∙ inner.lists ∙ ap (λ l. new ∷ lists_after n allowed l (drop (at + 1) new)) (inner.front ∙ chosen))
                ∙ ap (λ l. new ∷ lists_after n allowed l (object ∷ drop (at + 1) new)) (sym parts.front_is) ∙ ap (λ l. new ∷ lists_after n allowed (take at new) l) (sym parts.back_is);
          }

  pub turning_start : (old : List ℕ) (at start : ℕ) → Turning old at start old start
  turning_start old at start = record { long = refl; front = refl; lists = refl }

  -- ---- the lists after one
  pub followed_here : (args : List ℕ) (at : ℕ) → at ≡ length args → IsFollowed n allowed args at false args
  followed_here args at e = record { front = refl; lists = ap (lists_after n allowed (take at args)) (drop-nothing args at e) ∙ after_none n allowed (take at args) }

  module _ (old : List ℕ) (at : ℕ) (within : at < length old) where
    abbrev own : ℕ
    own = get_or old at 0

    split : Divided old at (take at old) own
    split = divided old at (take at old) own (length-take_at old at (omega arith)) (take_more old at 0 within)

    after_split : lists_after n allowed (take at old) (drop at old) ≡ lists_after n allowed (take at old ++ own ∷ []) (drop (at + 1) old) ++ lists_from n allowed (suc (length (drop (at + 1) old))) (take at old) (own + 1)
    after_split = ap (lists_after n allowed (take at old)) split.back_is ∙ after_is n allowed (take at old) own (drop (at + 1) old)

    more_is : take (at + 1) old ≡ take at old ++ own ∷ []
    more_is = take_more old at 0 within

    pub followed_further : (new : List ℕ) → length new ≡ length old → IsFollowed n allowed old (at + 1) true new → IsFollowed n allowed old at true new
    followed_further new long inner =
        let parts : Divided new at (take at old) own = divided new at (take at old) own (length-take_at old at (omega arith)) (inner.front ∙ more_is) in
        let rest : length (drop (at + 1) old) ≡ length (drop (at + 1) new) = length-drop_at old (at + 1) ∙ ap (λ m. m - (at + 1)) (sym long) ∙ sym (length-drop_at new (at + 1)) in
        let tail = lists_from n allowed (suc (length (drop (at + 1) old))) (take at old) (own + 1) in
        record {
          front = parts.front_is;
          lists = after_split ∙ ap (λ l. l ++ tail) (ap (λ l. lists_after n allowed l (drop (at + 1) old)) (sym more_is) ∙ inner.lists)
              ∙ ap (λ l. new ∷ (lists_after n allowed l (drop (at + 1) new) ++ tail)) (inner.front ∙ more_is)
              ∙ ap (λ k. new ∷ (lists_after n allowed (take at old ++ own ∷ []) (drop (at + 1) new) ++ lists_from n allowed (suc k) (take at old) (own + 1))) rest
              ∙ ap (λ l. new ∷ l) (sym (after_is n allowed (take at old) own (drop (at + 1) new)))
              ∙ ap (λ l. new ∷ lists_after n allowed l (own ∷ drop (at + 1) new)) (sym parts.front_is) ∙ ap (λ l. new ∷ lists_after n allowed (take at new) l) (sym parts.back_is);
        }

    pub followed_next : (args new : List ℕ) (found : Bool) → length args ≡ length old → IsFollowed n allowed old (at + 1) false args → IsCompleted n allowed args at (get_or args at 0 + 1) found new → IsFollowed n allowed old at found new
    followed_next args new found long inner completed =
        let parts : Divided args at (take at old) own = divided args at (take at old) own (length-take_at old at (omega arith)) (inner.front ∙ more_is) in
        let there : get_or args at 0 ≡ own = same_at args at own parts.back_is in
        let rest : suc (length (drop (at + 1) old)) ≡ length args - at = omega (arith, length-drop_at old (at + 1), long, within) in
        record {
          front = completed.front ∙ parts.front_is;
          lists = after_split ∙ ap (λ l. l ++ lists_from n allowed (suc (length (drop (at + 1) old))) (take at old) (own + 1)) (ap (λ l. lists_after n allowed l (drop (at + 1) old)) (sym more_is) ∙ inner.lists)
              ∙ ap (λ k. lists_from n allowed k (take at old) (own + 1)) rest
              ∙ ap (λ l. lists_from n allowed (length args - at) l (own + 1)) (sym parts.front_is)
              ∙ ap (λ m. lists_from n allowed (length args - at) (take at args) (m + 1)) (sym there)
              ∙ completed.lists;
        }
      where
        same_at : (xs : List ℕ) (i o : ℕ) {rest : List ℕ} → drop i xs ≡ o ∷ rest → get_or xs i 0 ≡ o
        same_at [] zero o e = cc
        same_at [] (suc i) o e = cc
        same_at (x ∷ xs) zero o e = cc
        same_at (x ∷ xs) (suc i) o e = same_at xs i o e
