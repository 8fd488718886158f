-- The symbolic state at the start, item by item.
use Rattle.std.proofs.Common.{◌≡◌, ℕ, zero, suc, ◌+◌, ◌<◌, ◌≤◌, Bool, true, false, List, [], ◌∷◌, ◌++◌, map, length, get_or, take, refl, sym, ap, subst, ◌∙◌, arith}
use Rattle.std.specs.Prelude.{Option, None, slice_index_or, unwrap_or}
use mathlib.Core.Path.{fun_ext}
use lib.IntN.{pos}
use Rattle.rational.specs.Fraction.{Fraction, whole}
use Rattle.lin.specs.Linear.{Linear, fixed, replacement_of}
use Rattle.task_core.specs.Task.{GroundParts, start}
use Rattle.formula.specs.Contents.{Contents}
use Rattle.encode_rows.specs.declared.clause.Truth.{Truth}
use Rattle.encode_rows.specs.declared.clause.Truth.TheVariants.{No}
use Rattle.encode_rows.specs.declared.symbols.Symbols.{Symbols}
use Rattle.encode_laws.specs.Symbolic.{symbolic_start, constant_literal}
use Rattle.encode_laws.specs.Made.{nothing_made}
use Rattle.encode_rows.specs.Standing.{Knows}
use Rattle.encode.specs.inside.Starting.{constant_truth, constant_value, AreAtStart}
use Rattle.encode.specs.inside.Occurring.{IsNext, HasNext}
use Rattle.encode.specs.inside.Copying.{IsSizedFor}
use Rattle.std.proofs.lemmas.List.{length-map}

-- ---- one more item
taken-more : {X : Type 0} (xs : List X) (i : ℕ) (d : X) → i < length xs → take (i + 1) xs ≡ take i xs ++ get_or xs i d ∷ []
taken-more [] i d l = absurd (omega arith)
taken-more (x ∷ xs) zero d l = refl
taken-more (x ∷ xs) (suc i) d l = let e : suc i + 1 ≡ suc (i + 1) = omega arith in ap (λ (n : ℕ). take n (x ∷ xs)) e ∙ ap (λ ys. x ∷ ys) (taken-more xs i d (omega arith))

mapped-append : {X Y : Type 0} (f : X → Y) (xs ys : List X) → map f (xs ++ ys) ≡ map f xs ++ map f ys
mapped-append f [] ys = refl
mapped-append f (x ∷ xs) ys = ap (λ zs. f x ∷ zs) (mapped-append f xs ys)

pub mapped-more : {X Y : Type 0} (f : X → Y) (xs : List X) (i : ℕ) (d : X) (v : Y) (us vs : List Y) → i < length xs → us ≡ map f (take i xs) → v ≡ f (get_or xs i d) → vs ≡ us ++ v ∷ [] → vs ≡ map f (take (i + 1) xs)
mapped-more f xs i d v us vs l e g h =
    h ∙ ap (λ ws. ws ++ v ∷ []) e ∙ ap (λ w. map f (take i xs) ++ w ∷ []) g ∙ sym (mapped-append f (take i xs) (get_or xs i d ∷ [])) ∙ ap (map f) (sym (taken-more xs i d l))

pub taken-all : {X : Type 0} (xs : List X) (i : ℕ) → length xs ≤ i → take i xs ≡ xs
taken-all [] zero l = refl
taken-all [] (suc i) l = refl
taken-all (x ∷ xs) zero l = absurd (omega arith)
taken-all (x ∷ xs) (suc i) l = ap (λ ys. x ∷ ys) (taken-all xs i (omega arith))

-- ---- what is known of the start
truth-at : (bs : List Bool) (p : ℕ) → slice_index_or (map constant_truth bs) p No ≡ constant_truth (slice_index_or bs p false)
truth-at [] p = refl
truth-at (b ∷ bs) zero = refl
truth-at (b ∷ bs) (suc p) = truth-at bs p

value-at : (vs : List (Option Fraction)) (f : ℕ) → replacement_of (map constant_value vs) f ≡ fixed (unwrap_or (slice_index_or vs f None) (whole (pos 0)))
value-at [] f = refl
value-at (v ∷ vs) zero = refl
value-at (v ∷ vs) (suc f) = value-at vs f

constant-known : (b : Bool) → Knows nothing_made (constant_literal b) (constant_truth b)
constant-known true = record { known = record { inside = tt; number = refl; fit = tt }; undecided = tt; below = tt }
constant-known false = record { known = record { inside = tt; number = refl; fit = tt }; undecided = tt; below = tt }

pub start-next : (task : GroundParts) (s : Symbols) (f : Contents) → AreAtStart task s → f ≡ record { counts = []; atoms = []; clauses = [] } → IsNext 0 nothing_made (symbolic_start (start task)) f s
start-next task s f h e = record {
  stands = record { contents = e; plain = tt };
  shows = record {
    truths = λ p. subst (Knows nothing_made (constant_literal ((start task).truth p))) (sym (ap (λ (ts : List Truth). slice_index_or ts p No) h.truths ∙ truth-at task.atoms p)) (constant-known ((start task).truth p));
    values = fun_ext (λ g. sym (ap (λ (vs : List Linear). replacement_of vs g) h.values ∙ value-at task.funcs g));
    below = λ g. tt;
  };
  next = refl;
  fresh = λ n l i. i;
}

pub start-sized : (task : GroundParts) (s : Symbols) → AreAtStart task s → IsSizedFor task s
start-sized task s h = record {
  truths = ap length h.truths ∙ length-map task.atoms constant_truth;
  values = ap length h.values ∙ length-map task.funcs constant_value;
}

pub start-has : (task : GroundParts) (s : Symbols) (f : Contents) → AreAtStart task s → f ≡ record { counts = []; atoms = []; clauses = [] } → HasNext f s
start-has task s f h e = record { number = 0; made = nothing_made; symbolic = symbolic_start (start task); is_next = start-next task s f h e }
