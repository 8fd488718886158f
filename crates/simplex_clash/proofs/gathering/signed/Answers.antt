use Rattle.std.proofs.Common.{◌≡◌, [], ◌∷◌, refl, sym, subst, ◌∙◌}
use lib.IntN.{pos, negsuc}
use Rattle.algebra.proofs.Solve.{v, k, ◌⊗◌, inv, solve}
use Rattle.rational.specs.Fraction.{◌*ℚ◌}
use Rattle.rational.proofs.FieldLaws.{fraction-ring}
use Rattle.simplex_law.specs.declared.bound.Side.{Side}
use Rattle.simplex_clash.specs.Parts.{sign_of}
use Rattle.simplex_clash.proofs.gathering.signed.Goals as goal

pub returns-in-Under : goal.returns-in-Under
returns-in-Under c = subst (λ (s : Side). c.args.c.now ≡ sign_of s *ℚ c.args.c.now) (sym c.in-Under.is)
    (solve fraction-ring (v 0) (k (pos 1) ⊗ v 0) (c.args.c.now ∷ []) refl)

pub returns-in-Over : goal.returns-in-Over
returns-in-Over c = subst (λ (s : Side). c.neg.result ≡ sign_of s *ℚ c.args.c.now) (sym c.in-Over.is)
    (c.neg.ensures ∙ solve fraction-ring (inv (v 0)) (k (negsuc 0) ⊗ v 0) (c.args.c.now ∷ []) refl)
