-- There is room: no more literals are asserted than there are Booleans, since each is asserted once at most.
use Rattle.std.proofs.Common.{◌≡◌, ◌≢◌, ◌⊎◌, inl, inr, ℕ, zero, suc, ◌+◌, ◌<◌, ◌≤◌, Bool, true, false, not, cond, List, [], ◌∷◌, ◌++◌, length, Option, Some, None, refl, sym, ap, subst, ◌∙◌, arith, length-append}
use Rattle.std.specs.Prelude.{◌==◌}
use Rattle.std.specs.List.{All, Contains}
use Rattle.std.specs.Option.{is_some}
use Rattle.std.proofs.lemmas.List.Elements.{All-head, All-tail, All-push, All-contains, Contains-append_right}
use Rattle.std.proofs.lemmas.Bool.Decides.{eqb_tells}
use Rattle.formula.specs.declared.atom.Lit.{Lit}
use Rattle.theory_law.specs.Seen.{IsAsserted, marks}
use Rattle.asserted.specs.inside.Room.{times, IsBelow, HasRoom}

-- how many literals are asserted
abbrev literals : List (Option Lit) → ℕ
literals [] = 0
literals (None ∷ es) = literals es
literals (Some l ∷ es) = 1 + literals es

-- how many of the first n Booleans, each as often as it is asserted
abbrev total : ℕ → List (Option Lit) → ℕ
total zero es = 0
total (suc n) es = times n es + total n es

length_is : (es : List (Option Lit)) → length es ≡ literals es + marks es
length_is [] = refl
length_is (None ∷ es) = omega (arith, length_is es)
length_is (Some l ∷ es) = omega (arith, length_is es)

total_nil : (n : ℕ) → total n [] ≡ 0
total_nil zero = refl
total_nil (suc n) = omega (arith, total_nil n)

total_mark : (n : ℕ) (es : List (Option Lit)) → total n (None ∷ es) ≡ total n es
total_mark zero es = refl
total_mark (suc n) es = omega (arith, total_mark n es)

-- the weight of one literal
abbrev one_at : Lit → ℕ → ℕ
one_at l b = cond (l.boolean == b) 1 0

one_here : (l : Lit) (b : ℕ) → l.boolean ≡ b → one_at l b ≡ 1
one_here l b e = by_test (eqb_tells l.boolean b)
  where
    by_test : ((l.boolean == b) ≡ true) × (l.boolean ≡ b) ⊎ ((l.boolean == b) ≡ false) × (l.boolean ≢ b) → one_at l b ≡ 1
    by_test (inl h) = ap (λ (t : Bool). cond t 1 0) h.0
    by_test (inr h) = absurd (h.1 e)

one_elsewhere : (l : Lit) (b : ℕ) → l.boolean ≢ b → one_at l b ≡ 0
one_elsewhere l b n = by_test (eqb_tells l.boolean b)
  where
    by_test : ((l.boolean == b) ≡ true) × (l.boolean ≡ b) ⊎ ((l.boolean == b) ≡ false) × (l.boolean ≢ b) → one_at l b ≡ 0
    by_test (inl h) = absurd (n h.1)
    by_test (inr h) = ap (λ (t : Bool). cond t 1 0) h.0

total_above : (n : ℕ) (l : Lit) (es : List (Option Lit)) → n ≤ l.boolean → total n (Some l ∷ es) ≡ total n es
total_above zero l es h = refl
total_above (suc n) l es h = omega (arith, one_elsewhere l n (λ e. omega arith), total_above n l es (omega arith))

total_below : (n : ℕ) (l : Lit) (es : List (Option Lit)) → l.boolean < n → total n (Some l ∷ es) ≡ 1 + total n es
total_below zero l es h = absurd (omega arith)
total_below (suc n) l es h = by_place (eqb_tells l.boolean n) (λ lt. total_below n l es lt)
  where
    by_place : ((l.boolean == n) ≡ true) × (l.boolean ≡ n) ⊎ ((l.boolean == n) ≡ false) × (l.boolean ≢ n) → (l.boolean < n → total n (Some l ∷ es) ≡ 1 + total n es) → total (suc n) (Some l ∷ es) ≡ 1 + total (suc n) es
    by_place (inl e) ih = omega (arith, one_here l n e.1, total_above n l es (omega (arith, e.1)))
    by_place (inr e) ih = let apart : l.boolean ≢ n = e.1 in let lt : l.boolean < n = omega arith in omega (arith, one_elsewhere l n e.1, ih lt)

literals_total : (n : ℕ) (es : List (Option Lit)) → All (IsBelow n) es → literals es ≡ total n es
literals_total n [] h = sym (total_nil n)
literals_total n (None ∷ es) h = literals_total n es (All-tail (IsBelow n) None es h) ∙ sym (total_mark n es)
literals_total n (Some l ∷ es) h =
    let lt : l.boolean < n = All-head (IsBelow n) (Some l) es h in
    omega (arith, literals_total n es (All-tail (IsBelow n) (Some l) es h), total_below n l es lt)

total_le : (n : ℕ) (es : List (Option Lit)) → ((b : ℕ) → times b es ≤ 1) → total n es ≤ n
total_le zero es h = omega arith
total_le (suc n) es h = omega (arith, h n, total_le n es h)

-- the events fit
pub events_fit : {n cap : ℕ} {es : List (Option Lit)} → HasRoom n cap es → length es ≤ cap
events_fit {n = n} {cap = cap} {es = es} h = omega (arith, length_is es, literals_total n es h.below, total_le n es h.once, h.marked, h.room)

-- ---- one more event

times-append : (b : ℕ) (xs ys : List (Option Lit)) → times b (xs ++ ys) ≡ times b xs + times b ys
times-append b [] ys = omega arith
times-append b (None ∷ xs) ys = times-append b xs ys
times-append b (Some l ∷ xs) ys = omega (arith, times-append b xs ys)

marks-append : (xs ys : List (Option Lit)) → marks (xs ++ ys) ≡ marks xs + marks ys
marks-append [] ys = omega arith
marks-append (None ∷ xs) ys = omega (arith, marks-append xs ys)
marks-append (Some l ∷ xs) ys = marks-append xs ys

-- neither literal of the Boolean is asserted
IsOpen : List (Option Lit) → ℕ → Type 0
IsOpen es b = (s : Bool) → IsAsserted es (record { boolean = b; pos = s }) → ⊥

later : {A : Type 0} (x : A) (xs : List A) (y : A) → Contains xs y → Contains (x ∷ xs) y
later x xs y (k, lt, e) = (suc k, omega arith, e)

open_times : (b : ℕ) (es : List (Option Lit)) → ((s : Bool) → IsAsserted es (record { boolean = b; pos = s }) → ⊥) → times b es ≡ 0
open_times b [] h = refl
open_times b (None ∷ es) h = open_times b es (λ s a. h s (later None es (Some (record { boolean = b; pos = s })) a))
open_times b (Some l ∷ es) h = omega (arith, one_elsewhere l b apart, open_times b es (λ s a. h s (later (Some l) es (Some (record { boolean = b; pos = s })) a)))
  where
    apart : l.boolean ≢ b
    apart e =
        let same : Some l ≡ Some (record { boolean = b; pos = l.pos }) = ap (λ (x : ℕ). Some (record { boolean = x; pos = l.pos })) e in
        h l.pos (zero, omega arith, same)

once_put : (l : Lit) (es : List (Option Lit)) → ((b : ℕ) → times b es ≤ 1) → times l.boolean es ≡ 0 → (b : ℕ) → times b (es ++ Some l ∷ []) ≤ 1
once_put l es h none b = by_test (eqb_tells l.boolean b)
  where
    by_test : ((l.boolean == b) ≡ true) × (l.boolean ≡ b) ⊎ ((l.boolean == b) ≡ false) × (l.boolean ≢ b) → times b (es ++ Some l ∷ []) ≤ 1
    by_test (inl e) = omega (arith, times-append b es (Some l ∷ []), one_here l b e.1, none, ap (λ (x : ℕ). times x es) e.1)
    by_test (inr e) = omega (arith, times-append b es (Some l ∷ []), one_elsewhere l b e.1, h b)

pub room_put : {n cap : ℕ} {es : List (Option Lit)} (l : Lit) → HasRoom n cap es → l.boolean < n → ((s : Bool) → IsAsserted es (record { boolean = l.boolean; pos = s }) → ⊥) → HasRoom n cap (es ++ Some l ∷ [])
room_put {n = n} {cap = cap} {es = es} l h lt apart = record {
  below = All-push (IsBelow n) es (Some l) h.below lt;
  once = once_put l es h.once (open_times l.boolean es apart);
  marked = omega (arith, marks-append es (Some l ∷ []), h.marked);
  room = h.room;
}

pub room_mark : {n cap : ℕ} {es : List (Option Lit)} → HasRoom n cap es → marks es < n → HasRoom n cap (es ++ None ∷ [])
room_mark {n = n} {cap = cap} {es = es} h lt = record {
  below = All-push (IsBelow n) es None h.below tt;
  once = λ b. omega (arith, times-append b es (None ∷ []), h.once b);
  marked = omega (arith, marks-append es (None ∷ []), lt);
  room = h.room;
}

-- there was room for the last event
pub fits_before : {n cap : ℕ} (es : List (Option Lit)) (e : Option Lit) → HasRoom n cap (es ++ e ∷ []) → length es < cap
fits_before es e h = omega (arith, events_fit h, length-append es (e ∷ []))

-- ---- fewer events

all_front : (n : ℕ) (xs ys : List (Option Lit)) → All (IsBelow n) (xs ++ ys) → All (IsBelow n) xs
all_front n [] ys h k d lt = absurd (omega arith)
all_front n (x ∷ xs) ys h zero d lt = All-head (IsBelow n) x (xs ++ ys) h
all_front n (x ∷ xs) ys h (suc k) d lt = all_front n xs ys (All-tail (IsBelow n) x (xs ++ ys) h) k d (omega arith)

pub room_front : {n cap : ℕ} (xs ys : List (Option Lit)) → HasRoom n cap (xs ++ ys) → HasRoom n cap xs
room_front {n = n} xs ys h = record {
  below = all_front n xs ys h.below;
  once = λ b. omega (arith, times-append b xs ys, h.once b);
  marked = omega (arith, marks-append xs ys, h.marked);
  room = h.room;
}

-- ---- more room

below_more_booleans : (n : ℕ) (e : Option Lit) → IsBelow n e → IsBelow (n + 1) e
below_more_booleans n None h = tt
below_more_booleans n (Some l) h = omega arith

all_more : (n : ℕ) (es : List (Option Lit)) → All (IsBelow n) es → All (IsBelow (n + 1)) es
all_more n es h k d lt = below_more_booleans n _ (h k d lt)

pub room_wider : {n cap cap' : ℕ} {es : List (Option Lit)} → HasRoom n cap es → cap ≤ cap' → HasRoom n cap' es
room_wider h le = record { below = h.below; once = h.once; marked = h.marked; room = omega (arith, h.room, le) }

pub room_boolean : {n n' cap cap' : ℕ} {es : List (Option Lit)} → HasRoom n cap es → n' ≡ n + 1 → n' + n' ≤ cap' → HasRoom n' cap' es
room_boolean {n = n} {n' = n'} {es = es} h one le = record {
  below = let P : ℕ → Type 0 = λ (m : ℕ). All (IsBelow m) es in subst P (sym one) (all_more n es h.below);
  once = h.once;
  marked = omega (arith, h.marked, one);
  room = le;
}

pub no_room : {n cap : ℕ} → n + n ≤ cap → HasRoom n cap []
no_room le = record { below = λ k d lt. absurd (omega arith); once = λ b. omega arith; marked = omega arith; room = le }

-- ---- the last mark

pub is_mark : (e : Option Lit) (r : Bool) → is_some e ≡ not r → r ≡ true → e ≡ None
is_mark None r h t = refl
is_mark (Some l) r h t = absurd (cc)

-- where no event is left in front, there was no mark
pub no_mark_left : (xs tail before behind : List (Option Lit)) → length xs ≡ 0 → xs ++ tail ≡ before ++ None ∷ behind → All (λ e. e ≢ None) tail → ⊥
no_mark_left [] tail before behind z e h =
    All-contains (λ (x : Option Lit). x ≢ None) tail None h (subst (λ (l : List (Option Lit)). Contains l None) (sym e) (Contains-append_right before (None ∷ behind) None (0, omega arith, refl))) refl
no_mark_left (x ∷ xs) tail before behind z e h = absurd (omega arith)
