-- The values of functions behind an occurrence, increment by increment and variable by variable.
use Rattle.std.proofs.Common.{◌≡◌, ◌≢◌, ℕ, suc, ◌+◌, ◌<◌, Bool, true, false, cond, ◌||◌, List, [], ◌∷◌, ◌++◌, length, refl, sym, ap, subst, ◌∙◌, nat_eq, arith, append_assoc, get_or-set_same, get_or-set_other}
use Rattle.std.specs.Prelude.{Ok, Err, slice_set}
use Rattle.std.specs.List.{AllByRecursion}
use Rattle.std.proofs.lemmas.Bool.{eqb-true, eq-eqb}
use Rattle.std.proofs.lemmas.Bool.Decides.{nat_tests}
use lib.IntN.{pos}
use Rattle.rational.specs.Fraction.{Fraction, whole}
use Rattle.rational.specs.Linear.{Terms}
use Rattle.frac128.specs.declared.operations.Wide.{Wide}
use Rattle.lin.specs.Linear.{Linear, fixed, var, add, scale, replacement_of}
use Rattle.lin.specs.Made.{add_ops, scale_ops}
use Rattle.lin.specs.Operations.{AllFit, IsRefusal}
use Rattle.lin.specs.declared.failure.LinFail.{LinFail}
use Rattle.lin.proofs.Leading.{IsLeft, left-start, left-all_fit, left-first, left-none, refused_more}
use Rattle.task_core.specs.declared.action.GAction.{GAction}
use Rattle.task_core.specs.Step.{is_in}
use Rattle.task_core.specs.Task.{numbers}
use Rattle.encode_laws.specs.Symbolic.{grown, grown_ops, symbolic_value}
use Rattle.encode_rows.specs.Growing.{increment_ops, Increments, Grows, set_value, SetsVariables, Renews}
use Rattle.encode_rows.proofs.Passing.{fit_append, refused-behind, refused-before}
use Rattle.encode_rows.proofs.RisingLaws.{AreDistinct}

-- ---- the list of values with one that is set
module _ (values news : List Linear) (k : ℕ) (v : Linear) (within : k < length values) (e : news ≡ slice_set values k v) where
  pub set-here : replacement_of news k ≡ v
  set-here = ap (λ (ls : List Linear). replacement_of ls k) e ∙ get_or-set_same values k v (fixed (whole (pos 0))) within

  pub set-there : (f : ℕ) → nat_eq k f ≡ false → replacement_of news f ≡ replacement_of values f
  set-there f h =
      let ne : f ≢ k = λ g. absurd (let j = eq-eqb k f (sym g) in cc) in
      ap (λ (ls : List Linear). replacement_of ls f) e ∙ get_or-set_other values k f v (fixed (whole (pos 0))) ne

-- ---- an increment
module _ (c : ℕ) (q : ℕ × Fraction) (values : List Linear) (own growth : Linear) (p : own ≡ var c) where
  pub increment-stops : (X : Type 0) (news : List Linear) (e : LinFail) → IsRefusal (scale_ops q.1 own) e → Increments {X = X} c q values news (Err e)
  increment-stops X news e h = refused-before (scale_ops q.1 (var c)) (add_ops (replacement_of values q.0) (scale q.1 (var c))) e (subst (λ (w : Linear). IsRefusal (scale_ops q.1 w) e) p h)

  module _ (old : Linear) (o : old ≡ replacement_of values q.0) (g : AllFit (scale_ops q.1 own) × (growth ≡ scale q.1 own)) where
    growth-is : growth ≡ scale q.1 (var c)
    growth-is = g.1 ∙ ap (scale q.1) p

    pub increment-stops-2 : (X : Type 0) (news : List Linear) (e : LinFail) → IsRefusal (add_ops old growth) e → Increments {X = X} c q values news (Err e)
    increment-stops-2 X news e h =
        refused-behind (scale_ops q.1 (var c)) (add_ops (replacement_of values q.0) (scale q.1 (var c))) e (subst (λ (w : Linear). AllFit (scale_ops q.1 w)) p g.0)
        (subst (λ (w : Linear). IsRefusal (add_ops w (scale q.1 (var c))) e) o (subst (λ (w : Linear). IsRefusal (add_ops old w) e) growth-is h))

    pub increment-made : (X : Type 0) (x : X) (news : List Linear) (grew : Linear) → AllFit (add_ops old growth) × (grew ≡ add old growth) → q.0 < length values → news ≡ slice_set values q.0 grew → Increments {X = X} c q values news (Ok x)
    increment-made X x news grew h within e = (
      fit_append (scale_ops q.1 (var c)) (add_ops (replacement_of values q.0) (scale q.1 (var c))) (subst (λ (w : Linear). AllFit (scale_ops q.1 w)) p g.0)
          (subst (λ (w : Linear). AllFit (add_ops w (scale q.1 (var c)))) o (subst (λ (w : Linear). AllFit (add_ops old w)) growth-is h.0)),
      λ f. by_place f (nat_eq q.0 f) refl,
    )
      where
        grew-is : grew ≡ add (replacement_of values q.0) (scale q.1 (var c))
        grew-is = h.1 ∙ ap (add old) growth-is ∙ ap (λ (w : Linear). add w (scale q.1 (var c))) o

        here : (f : ℕ) → q.0 ≡ f → replacement_of news f ≡ add (replacement_of values f) (scale q.1 (var c))
        here f i = subst (λ (j : ℕ). replacement_of news j ≡ add (replacement_of values j) (scale q.1 (var c))) i (set-here values news q.0 grew within e ∙ grew-is)

        by_place : (f : ℕ) (b : Bool) → nat_eq q.0 f ≡ b → replacement_of news f ≡ cond b (add (replacement_of values f) (scale q.1 (var c))) (replacement_of values f)
        by_place f true i = here f (eqb-true q.0 f i)
        by_place f false i = set-there values news q.0 grew within e f i

-- ---- increments one after the other
ops-same : (c : ℕ) (old new : ℕ → Linear) (qs : Terms) → AllByRecursion (λ p. old p.0 ≡ new p.0) qs → grown_ops c old qs ≡ grown_ops c new qs
ops-same c old new [] h = refl
ops-same c old new (q ∷ qs) h =
    ap (λ (l : Linear). scale_ops q.1 (var c) ++ (add_ops l (scale q.1 (var c)) ++ grown_ops c old qs)) h.0
    ∙ ap (λ (os : List Wide). scale_ops q.1 (var c) ++ (add_ops (new q.0) (scale q.1 (var c)) ++ os)) (ops-same c old new qs h.1)

head-apart : (x y : Bool) → (x || y) ≡ false → x ≡ false
head-apart true y e = absurd (cc)
head-apart false y e = refl

rest-apart : (x y : Bool) → (x || y) ≡ false → y ≡ false
rest-apart true y e = absurd (cc)
rest-apart false y e = e

turned : (m n : ℕ) → nat_eq m n ≡ false → nat_eq n m ≡ false
turned m n e = grind (arith, nat_tests)

pub record Growing (c : ℕ) (incs : Terms) (old : List Linear) (left : Terms) (values : List Linear) : Type 0 where
  pub ops : IsLeft (grown_ops c (replacement_of values) left) (grown_ops c (replacement_of old) incs)
  pub value : (f : ℕ) → grown c left f (replacement_of values f) ≡ grown c incs f (replacement_of old f)
  pub count : length values ≡ length old
  pub once : AreDistinct (numbers left)

module _ (c : ℕ) (incs : Terms) (old : List Linear) where
  pub growing-start : AreDistinct (numbers incs) → Growing c incs old incs old
  growing-start d = record { ops = left-start (grown_ops c (replacement_of old) incs); value = λ f. refl; count = refl; once = d }

  module _ (q : ℕ × Fraction) (left : Terms) (values news : List Linear) (h : Growing c incs old (q ∷ left) values) where
    opened : IsLeft (increment_ops c (replacement_of values) q ++ grown_ops c (replacement_of values) left) (grown_ops c (replacement_of old) incs)
    opened =
        subst (λ (os : List Wide). IsLeft os (grown_ops c (replacement_of old) incs))
        (sym (append_assoc (scale_ops q.1 (var c)) (add_ops (replacement_of values q.0) (scale q.1 (var c))) (grown_ops c (replacement_of values) left))) h.ops

    pub growing-stop : (X Y : Type 0) (ls : List Linear) (e : LinFail) → Increments {X = X} c q values news (Err e) → Grows {X = Y} c incs old ls (Err e)
    growing-stop X Y ls e a = refused_more (increment_ops c (replacement_of values) q) (grown_ops c (replacement_of old) incs) e
        (λ w f. left-first w (increment_ops c (replacement_of values) q) (grown_ops c (replacement_of values) left) (grown_ops c (replacement_of old) incs) opened f) a

    pub growing-step : (X : Type 0) (x : X) → Increments {X = X} c q values news (Ok x) → length news ≡ length values → Growing c incs old left news
    growing-step X x a e = record {
      ops = subst (λ (os : List Wide). IsLeft os (grown_ops c (replacement_of old) incs)) (ops-same c (replacement_of values) (replacement_of news) left (others left h.once.0))
          (left-all_fit (increment_ops c (replacement_of values) q) (grown_ops c (replacement_of values) left) (grown_ops c (replacement_of old) incs) opened a.0);
      value = λ f. ap (grown c left f) (a.1 f) ∙ by_place f (nat_eq q.0 f) ∙ h.value f;
      count = e ∙ h.count;
      once = h.once.1;
    }
      where
        by_place : (f : ℕ) (b : Bool) → grown c left f (cond b (add (replacement_of values f) (scale q.1 (var c))) (replacement_of values f))
            ≡ cond b (grown c left f (add (replacement_of values f) (scale q.1 (var c)))) (grown c left f (replacement_of values f))
        by_place f true = refl
        by_place f false = refl

        others : (qs : Terms) → is_in q.0 (numbers qs) ≡ false → AllByRecursion (λ p. replacement_of values p.0 ≡ replacement_of news p.0) qs
        others [] i = tt
        others (p ∷ ps) i = (
          sym (a.1 p.0 ∙ ap (λ (b : Bool). cond b (add (replacement_of values p.0) (scale q.1 (var c))) (replacement_of values p.0)) (turned p.0 q.0 (head-apart (nat_eq p.0 q.0) (is_in q.0 (numbers ps)) i))),
          others ps (rest-apart (nat_eq p.0 q.0) (is_in q.0 (numbers ps)) i),
        )

  pub growing-end : (values : List Linear) (X : Type 0) (x : X) → Growing c incs old [] values → Grows {X = X} c incs old values (Ok x)
  growing-end values X x h = (left-none (grown_ops c (replacement_of old) incs) h.ops, h.value)

-- ---- variables one after the other
not-set : (old : ℕ → Linear) (w : ℕ) (ss : List (ℕ × Linear)) (f : ℕ) → is_in f (numbers ss) ≡ false → set_value old w ss f ≡ old f
not-set old w [] f h = refl
not-set old w (s ∷ ss) f h =
    ap (λ (b : Bool). cond b (var w) (set_value old (suc w) ss f)) (head-apart (nat_eq s.0 f) (is_in f (numbers ss)) h) ∙ not-set old (suc w) ss f (rest-apart (nat_eq s.0 f) (is_in f (numbers ss)) h)

same-set : (old new : ℕ → Linear) (w : ℕ) (ss : List (ℕ × Linear)) (f : ℕ) → old f ≡ new f → set_value old w ss f ≡ set_value new w ss f
same-set old new w [] f h = h
same-set old new w (s ∷ ss) f h = ap (λ (l : Linear). cond (nat_eq s.0 f) (var w) l) (same-set old new (suc w) ss f h)

pub record Setting (w : ℕ) (sets : List (ℕ × Linear)) (old : List Linear) (next : ℕ) (left : List (ℕ × Linear)) (values : List Linear) : Type 0 where
  pub value : (f : ℕ) → set_value (replacement_of values) next left f ≡ set_value (replacement_of old) w sets f
  pub number : next + length left ≡ w + length sets
  pub count : length values ≡ length old
  pub once : AreDistinct (numbers left)

module _ (w : ℕ) (sets : List (ℕ × Linear)) (old : List Linear) where
  pub setting-start : AreDistinct (numbers sets) → Setting w sets old w sets old
  setting-start d = record { value = λ f. refl; number = refl; count = refl; once = d }

  pub setting-step : (next : ℕ) (s : ℕ × Linear) (left : List (ℕ × Linear)) (values news : List Linear) → Setting w sets old next (s ∷ left) values → s.0 < length values
      → (own : Linear) × (own ≡ var next) × (news ≡ slice_set values s.0 own) → length news ≡ length values → Setting w sets old (next + 1) left news
  setting-step next s left values news h within m e = record {
    value = λ f. by_place f (nat_eq s.0 f) refl ∙ h.value f;
    number = let n : next + suc (length left) ≡ w + length sets = h.number in omega arith;
    count = e ∙ h.count;
    once = h.once.1;
  }
    where
      by_place : (f : ℕ) (b : Bool) → nat_eq s.0 f ≡ b → set_value (replacement_of news) (next + 1) left f ≡ cond (nat_eq s.0 f) (var next) (set_value (replacement_of values) (suc next) left f)
      by_place f true i =
          let j = eqb-true s.0 f i in
          not-set (replacement_of news) (next + 1) left f (ap (λ (k : ℕ). is_in k (numbers left)) (sym j) ∙ h.once.0)
          ∙ ap (replacement_of news) (sym j) ∙ set-here values news s.0 m.0 within m.2 ∙ m.1
          ∙ sym (ap (λ (b : Bool). cond b (var next) (set_value (replacement_of values) (suc next) left f)) i)
      by_place f false i =
          let one : next + 1 ≡ suc next = omega arith in
          ap (λ (k : ℕ). set_value (replacement_of news) k left f) one
          ∙ same-set (replacement_of news) (replacement_of values) (suc next) left f (set-there values news s.0 m.0 within m.2 f i)
          ∙ sym (ap (λ (b : Bool). cond b (var next) (set_value (replacement_of values) (suc next) left f)) i)

  pub setting-end : (next : ℕ) (values : List Linear) → Setting w sets old next [] values → SetsVariables w sets old values
  setting-end next values h = h.value

-- ---- both
joined : (old : ℕ → Linear) (c : ℕ) (incs : Terms) (w : ℕ) (ss : List (ℕ × Linear)) (f : ℕ) → set_value (λ g. grown c incs g (old g)) w ss f ≡ symbolic_value old c incs w ss f
joined old c incs w [] f = refl
joined old c incs w (s ∷ ss) f = ap (λ (l : Linear). cond (nat_eq s.0 f) (var w) l) (joined old c incs (suc w) ss f)

pub renewed : (c w : ℕ) (a : GAction) (old mid new : List Linear) (X Y : Type 0) (x : X) (y : Y) → Grows {X = X} c a.incs old mid (Ok x) → SetsVariables w a.sets mid new → Renews {X = Y} c w a old new (Ok y)
renewed c w a old mid new X Y x y g s = (
  g.0,
  λ f. s f ∙ same-set (replacement_of mid) (λ k. grown c a.incs k (replacement_of old k)) w a.sets f (g.1 f) ∙ joined (replacement_of old) c a.incs w a.sets f,
)
