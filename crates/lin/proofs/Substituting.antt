-- The steps of a substitution and of an evaluation: what is so far, and what is left of the terms.
use Rattle.std.proofs.Common.{◌≡◌, ◌<◌, ◌≤◌, ℕ, zero, suc, ◌+◌, true, List, [], ◌∷◌, ◌++◌, length, drop, get_or, sym, ap, ap₂, subst as along, ◌∙◌, arith, nat_lt}
use Rattle.std.proofs.lemmas.List.{drop_all}
use Rattle.std.proofs.lemmas.Bool.{and_parts}
use Rattle.std.proofs.lemmas.Bool.Decides.{nat_tests}
use Rattle.rational.specs.Fraction.{Fraction}
use Rattle.rational.specs.Linear.{Terms}
use Rattle.frac128.specs.declared.operations.Wide.{Wide}
use Rattle.lin.specs.Linear.{Linear, AreBelow, fixed, add, scale, subst, subst_from}
use Rattle.lin.specs.Operations.{AllFit, IsFirstPassing, IsRefusal}
use Rattle.lin.specs.declared.failure.LinFail.{LinFail}
use Rattle.lin.specs.Made.{add_ops, scale_ops, subst_ops, subst_ops_from}
use Rattle.lin.proofs.Leading.{IsLeft, left-start, left-all_fit, left-none, left-first, refused_more}
use Rattle.lin.proofs.MergeSteps.{IsNext, next}

-- ---- the variables are below a number
is_less : (m n : ℕ) → nat_lt m n ≡ true → m < n
is_less m n e = grind (arith, nat_tests)

pub variable_below : (n : ℕ) (ts : Terms) (i : ℕ) (t : ℕ × Fraction) → AreBelow n ts → IsNext ts i t → t.0 < n
variable_below n ts i t h e = go ts i h e.within e.is
  where
    go : (ts : Terms) (i : ℕ) → AreBelow n ts → i < length ts → t ≡ get_or ts i t → t.0 < n
    go [] i h l e = absurd (omega arith)
    go (u ∷ us) zero h l e = let p : u.0 < n = is_less u.0 n (and_parts (nat_lt u.0 n) _ h).0 in along (λ (w : ℕ × Fraction). w.0 < n) (sym e) p
    go (u ∷ us) (suc i) h l e = go us i (and_parts (nat_lt u.0 n) _ h).1 (omega arith) e

pub same_default : {X : Type 0} (xs : List X) (i : ℕ) (x d : X) → i < length xs → x ≡ get_or xs i x → x ≡ get_or xs i d
same_default [] i x d l e = absurd (omega arith)
same_default (y ∷ ys) zero x d l e = e
same_default (y ∷ ys) (suc i) x d l e = same_default ys i x d (omega arith) e

-- ---- a substitution
pub record IsSubstituting (of : ℕ → Linear) (l : Linear) (ts : Terms) (so_far : Linear) (i : ℕ) : Type 0 where
  pub made : subst_from of so_far (drop i ts) ≡ subst of l
  pub left : IsLeft (subst_ops_from of so_far (drop i ts)) (subst_ops of l)

module _ (of : ℕ → Linear) (l : Linear) (ts : Terms) where
  pub substituting-start : (so_far : Linear) (c : Fraction) → ts ≡ l.terms → c ≡ l.constant → so_far ≡ fixed c → IsSubstituting of l ts so_far 0
  unfolding subst
  substituting-start so_far c e f g =
      let h : so_far ≡ fixed l.constant = g ∙ ap fixed f in
      record {
        made = ap₂ (λ (s : Linear) (us : Terms). subst_from of s us) h e;
        left = let P : List Wide → Type 0 = λ ops. IsLeft ops (subst_ops of l) in
            along P (sym (ap₂ (λ (s : Linear) (us : Terms). subst_ops_from of s us) h e)) (left-start (subst_ops of l));
      }

  module _ (so_far : Linear) (i : ℕ) (t : ℕ × Fraction) (n : IsNext ts i t) (h : IsSubstituting of l ts so_far i) where
    abbrev rest : Terms
    rest = drop (i + 1) ts

    abbrev part : Linear
    part = scale t.1 (of t.0)

    ops-next : IsLeft (scale_ops t.1 (of t.0) ++ (add_ops so_far part ++ subst_ops_from of (add so_far part) rest)) (subst_ops of l)
    ops-next = let P : Terms → Type 0 = λ us. IsLeft (subst_ops_from of so_far us) (subst_ops of l) in along P (next ts i t n) h.left

    pub substituting-scale_refused : (e : LinFail) (r : Linear) → r ≡ of t.0 → IsRefusal (scale_ops t.1 r) e → IsRefusal (subst_ops of l) e
    substituting-scale_refused e r f =
        refused_more (scale_ops t.1 r) (subst_ops of l) e (λ w g. left-first w (scale_ops t.1 (of t.0)) _ (subst_ops of l) ops-next (along (λ (s : Linear). IsFirstPassing w (scale_ops t.1 s)) f g))

    scaled : (r : Linear) → r ≡ of t.0 → AllFit (scale_ops t.1 r) → IsLeft (add_ops so_far part ++ subst_ops_from of (add so_far part) rest) (subst_ops of l)
    scaled r f g = left-all_fit (scale_ops t.1 (of t.0)) _ (subst_ops of l) ops-next (along (λ (s : Linear). AllFit (scale_ops t.1 s)) f g)

    pub substituting-add_refused : (e : LinFail) (r q : Linear) → r ≡ of t.0 → AllFit (scale_ops t.1 r) → q ≡ scale t.1 r → IsRefusal (add_ops so_far q) e → IsRefusal (subst_ops of l) e
    substituting-add_refused e r q f g p =
        refused_more (add_ops so_far q) (subst_ops of l) e
        (λ w d. left-first w (add_ops so_far part) _ (subst_ops of l) (scaled r f g)
        (along (λ (s : Linear). IsFirstPassing w (add_ops so_far s)) (p ∙ ap (scale t.1) f) d))

    pub substituting-next : (r q more : Linear) → r ≡ of t.0 → AllFit (scale_ops t.1 r) → q ≡ scale t.1 r → AllFit (add_ops so_far q) → more ≡ add so_far q → IsSubstituting of l ts more (i + 1)
    substituting-next r q more f g p d e =
        let s : q ≡ part = p ∙ ap (scale t.1) f in
        let m : more ≡ add so_far part = e ∙ ap (add so_far) s in
        record {
          made = ap (λ (x : Linear). subst_from of x rest) m ∙ sym (ap (λ (us : Terms). subst_from of so_far us) (next ts i t n)) ∙ h.made;
          left = let P : Linear → Type 0 = λ x. IsLeft (subst_ops_from of x rest) (subst_ops of l) in
              along P (sym m) (left-all_fit (add_ops so_far part) _ (subst_ops of l) (scaled r f g) (along (λ (x : Linear). AllFit (add_ops so_far x)) s d));
        }

  pub substituting-done : (so_far : Linear) (i : ℕ) → length ts ≤ i → IsSubstituting of l ts so_far i → AllFit (subst_ops of l) × (so_far ≡ subst of l)
  substituting-done so_far i n h =
      let e = drop_all i ts n in
      let P : Terms → Type 0 = λ us. IsLeft (subst_ops_from of so_far us) (subst_ops of l) in
      (left-none (subst_ops of l) (along P e h.left), ap (λ (us : Terms). subst_from of so_far us) (sym e) ∙ h.made)
