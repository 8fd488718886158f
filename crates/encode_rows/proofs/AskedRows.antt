-- The row of a literal that is asked for.
use Rattle.std.proofs.Common.{◌≡◌, ℕ, ◌<◌, Bool, true, false, List, [], ◌∷◌, length, get_or, ap, sym, subst, ◌∙◌}
use Rattle.std.specs.Prelude.{Result, slice_index_or}
use Rattle.std.proofs.lemmas.List.{get_or_default}
use Rattle.lin.specs.declared.failure.LinFail.{LinFail}
use Rattle.formula.specs.Contents.{Contents}
use Rattle.encode_rows.specs.declared.clause.Truth.{Truth}
use Rattle.encode_rows.specs.declared.clause.Truth.TheVariants.{No}
use Rattle.encode_rows.specs.declared.symbols.Symbols.{Symbols}
use Rattle.encode_laws.specs.Rows.{Literal}
use Rattle.encode_laws.specs.Symbolic.{Symbolic, signed_literal}
use Rattle.encode_laws.specs.Made.{Made}
use Rattle.encode_rows.specs.Standing.{Known, signed_truth}
use Rattle.encode_rows.specs.Symbols.{Shows, HasState, HasRow, PutsRow, MakesRows, asked_row}
use Rattle.encode_rows.proofs.Standing.{known-opposite}

signed-known : (m : Made) (b : Bool) (l : Literal) (t : Truth) → Known m l t → Known m (signed_literal b l) (signed_truth b t)
signed-known m true l t h = h
signed-known m false l t h = known-opposite m l t h

-- the truth that is held for an atom, whatever stands for one past the end
pub held-truth : (b : Bool) (xs ys : List Truth) (i : ℕ) (d t : Truth) → ys ≡ xs → i < length xs → t ≡ signed_truth b (get_or ys i d) → t ≡ signed_truth b (slice_index_or xs i No)
held-truth b xs ys i d t e l h = h ∙ ap (signed_truth b) (ap (λ (zs : List Truth). get_or zs i d) e ∙ get_or_default xs i d No l)

module _ (f : Contents) (s : Symbols) (front : Truth) (l : ℕ × Bool) (t : Truth) (e : t ≡ signed_truth l.1 (slice_index_or s.truths l.0 No)) where
  asked-known : (m : Made) (y : Symbolic) → Shows m y s → Known m (signed_literal l.1 (y.truth l.0)) t
  asked-known m y h = subst (Known m (signed_literal l.1 (y.truth l.0))) (sym e) (signed-known m l.1 (y.truth l.0) _ (h.truths l.0).known)

  pub asked-row : HasState f s front → HasRow f (front ∷ t ∷ [])
  asked-row h = record {
    made = h.made;
    literals = h.literal ∷ signed_literal l.1 (h.symbolic.truth l.0) ∷ [];
    stands = h.stands;
    known = (h.knows.known, (asked-known h.made h.symbolic h.shows, tt));
  }

  pub asked-makes : {X : Type 0} (g : Contents) (r : Result X LinFail) → PutsRow f (front ∷ t ∷ []) g r → MakesRows f s front (asked_row l) g r
  asked-makes g r p m k y st kn sh = p m (k ∷ signed_literal l.1 (y.truth l.0) ∷ []) st (kn.known, (asked-known m y sh, tt))
