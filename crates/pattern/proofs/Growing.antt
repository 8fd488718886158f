-- Operations one after another: of an increment, and of a term.
use Rattle.std.proofs.Common.{◌≡◌, ℕ, List, [], ◌∷◌, ◌++◌, Result, Ok, Err, refl, sym, ap, subst as along, ◌∙◌}
use Rattle.rational.specs.Fraction.{Fraction, ◌+ℚ◌, ◌*ℚ◌, ◌-ℚ◌}
use Rattle.rational.specs.Linear.{Terms}
use Rattle.frac128.specs.Operations.{Answers, Fits, Passes}
use Rattle.frac128.specs.declared.operations.Wide.{Wide}
use Rattle.frac128.specs.declared.operations.Op.TheVariants.{Add, Sub, Mul}
use Rattle.lin.specs.Operations.{adding, multiplying, AllFit, IsFirstPassing, AnswersInOrder}
use Rattle.std.proofs.lemmas.List.{append-nil}
use Rattle.lin.proofs.Leading.{IsLeft, left-start, left-fits, left-all_fit, left-none, left-passes, left-first}
use Rattle.pattern.specs.Rolled.{subtracting, one, growth, growth_ops, last_value, last_ops, term_value, plus_term, term_ops}

-- the last operation of some
last-answers : (all : List Wide) (w : Wide) (v : Fraction) (r : Result Fraction Wide) → IsLeft (w ∷ []) all → AnswersInOrder (w ∷ []) v r → AnswersInOrder all v r
last-answers all w v (Ok x) h a = (left-none all (left-all_fit (w ∷ []) [] all h a.0), a.1)
last-answers all w v (Err e) h a = left-first e (w ∷ []) [] all h a

sum-answers : (x y : Fraction) (r : Result Fraction Wide) → Answers Add x y r → AnswersInOrder (adding x y ∷ []) (x +ℚ y) r
sum-answers x y (Ok z) h = ((h.0, tt), h.1)
sum-answers x y (Err w) h =
    along (λ (u : Wide). IsFirstPassing u (adding x y ∷ [])) (sym h.1) (record { front = []; behind = []; place = refl; fit = tt; passes = h.0 })

module _ (count so_far amount : Fraction) where
  abbrev ops : List Wide
  ops = growth_ops count so_far amount

  pub sub_passes : (w : Wide) → Passes Sub count one × (w ≡ subtracting count one) → IsFirstPassing w ops
  sub_passes w h = along (λ (u : Wide). IsFirstPassing u ops) (sym h.1) (left-passes (subtracting count one) _ ops (left-start ops) h.0)

  after_sub : Fits Sub count one → IsLeft (multiplying amount (count -ℚ one) ∷ adding so_far (amount *ℚ (count -ℚ one)) ∷ []) ops
  after_sub f = left-fits (subtracting count one) _ ops (left-start ops) f

  pub mul_passes : (b : Fraction) (w : Wide) → Fits Sub count one × (b ≡ count -ℚ one) → Passes Mul amount b × (w ≡ multiplying amount b) → IsFirstPassing w ops
  mul_passes b w f h =
      along (λ (u : Wide). IsFirstPassing u ops) (sym (h.1 ∙ ap (multiplying amount) f.1))
      (left-passes (multiplying amount (count -ℚ one)) _ ops (after_sub f.0) (along (λ (x : Fraction). Passes Mul amount x) f.1 h.0))

  pub add_answers : (b p : Fraction) (r : Result Fraction Wide) → Fits Sub count one × (b ≡ count -ℚ one) → Fits Mul amount b × (p ≡ amount *ℚ b)
      → Answers Add so_far p r → AnswersInOrder ops (growth count so_far amount) r
  add_answers b p r f g h =
      let e : p ≡ amount *ℚ (count -ℚ one) = g.1 ∙ ap (λ (x : Fraction). amount *ℚ x) f.1 in
      let left = left-fits (multiplying amount (count -ℚ one)) _ ops (after_sub f.0) (along (λ (x : Fraction). Fits Mul amount x) f.1 g.0) in
      last-answers ops (adding so_far (amount *ℚ (count -ℚ one))) _ r left (sum-answers so_far (amount *ℚ (count -ℚ one)) r (along (λ (x : Fraction). Answers Add so_far x r) e h))

module _ (incs : Terms) (count : Fraction) (old : ℕ → Fraction) (so_far : Fraction) (t : ℕ × Fraction) where
  abbrev all : List Wide
  all = term_ops incs count old so_far t

  abbrev value : Fraction
  value = term_value incs count old t.0

  pub term-value_passes : (y : Fraction) (w : Wide) → y ≡ old t.0 → IsFirstPassing w (last_ops incs count t.0 y) → IsFirstPassing w all
  term-value_passes y w e h =
      left-first w (last_ops incs count t.0 (old t.0)) _ all (left-start all) (along (λ (z : Fraction). IsFirstPassing w (last_ops incs count t.0 z)) e h)

  -- the value, from that before the first repetition
  pub term-value : (y x : Fraction) → y ≡ old t.0 → AllFit (last_ops incs count t.0 y) × (x ≡ last_value incs count t.0 y) → AllFit (last_ops incs count t.0 (old t.0)) × (x ≡ value)
  term-value y x e h = along (λ (z : Fraction). AllFit (last_ops incs count t.0 z) × (x ≡ last_value incs count t.0 z)) e h

  after_value : AllFit (last_ops incs count t.0 (old t.0)) → IsLeft (multiplying t.1 value ∷ adding so_far (t.1 *ℚ value) ∷ []) all
  after_value f = left-all_fit (last_ops incs count t.0 (old t.0)) _ all (left-start all) f

  pub term-mul_passes : (x : Fraction) (w : Wide) → AllFit (last_ops incs count t.0 (old t.0)) × (x ≡ value) → Passes Mul t.1 x × (w ≡ multiplying t.1 x) → IsFirstPassing w all
  term-mul_passes x w f h =
      along (λ (u : Wide). IsFirstPassing u all) (sym (h.1 ∙ ap (multiplying t.1) f.1))
      (left-passes (multiplying t.1 value) _ all (after_value f.0) (along (λ (y : Fraction). Passes Mul t.1 y) f.1 h.0))

  pub term-answers : (x p : Fraction) (r : Result Fraction Wide) → AllFit (last_ops incs count t.0 (old t.0)) × (x ≡ value) → Fits Mul t.1 x × (p ≡ t.1 *ℚ x)
      → Answers Add so_far p r → AnswersInOrder all (plus_term incs count old so_far t) r
  term-answers x p r f g h =
      let e : p ≡ t.1 *ℚ value = g.1 ∙ ap (λ (y : Fraction). t.1 *ℚ y) f.1 in
      let left = left-fits (multiplying t.1 value) _ all (after_value f.0) (along (λ (y : Fraction). Fits Mul t.1 y) f.1 g.0) in
      last-answers all (adding so_far (t.1 *ℚ value)) _ r left (sum-answers so_far (t.1 *ℚ value) r (along (λ (y : Fraction). Answers Add so_far y r) e h))

-- the operations of another list pass after some that fit
pub passes_after : (os ps : List Wide) (w : Wide) → AllFit os → IsFirstPassing w ps → IsFirstPassing w (os ++ ps)
passes_after os ps w f p =
    let left = left-all_fit os ps (os ++ ps) (left-start (os ++ ps)) f in
    left-first w ps [] (os ++ ps) (along (λ (qs : List Wide). IsLeft qs (os ++ ps)) (sym (append-nil ps)) left) p
