-- A part that has forgotten what it reads has the same form, and one operation is answered as a list of one.
use Rattle.std.proofs.Common.{◌≡◌, [], ◌∷◌, Result, Ok, Err, refl, sym, subst}
use Rattle.rational.specs.Fraction.{Fraction, ◌+ℚ◌}
use Rattle.frac128.specs.Operations.{Answers}
use Rattle.frac128.specs.declared.operations.Op.TheVariants.{Add}
use Rattle.frac128.specs.declared.operations.Wide.{Wide}
use Rattle.lin.specs.Operations.{adding, AnswersInOrder, IsFirstPassing}
use Rattle.ground_parts.specs.declared.part.Part.{Part as Form}
use Rattle.ground_parts.specs.declared.part.Part.TheVariants.{Constant, Linear}
use Rattle.ground_parts.specs.Forms.{form_of}
use Rattle.ground_draft.specs.inside.Lists.{part_from}

pub form_from : (f : Form) → form_of (part_from f) ≡ f
form_from (Constant a) = refl
form_from (Linear l) = refl

pub one_answers : (x y : Fraction) (r : Result Fraction Wide) → Answers Add x y r → AnswersInOrder (adding x y ∷ []) (x +ℚ y) r
one_answers x y (Ok v) h = ((h.0, tt), h.1)
one_answers x y (Err w) h =
    let P : Wide → Type 0 = λ u. IsFirstPassing u (adding x y ∷ []) in
    subst P (sym h.1) (record { front = []; behind = []; place = refl; fit = tt; passes = h.0 })
