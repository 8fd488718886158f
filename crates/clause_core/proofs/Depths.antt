-- Two literals that are unassigned below a level.
use Rattle.std.proofs.Common.{◌≡◌, ℕ, ◌<◌, List, take, refl, sym, ap, arith, ◌∙◌}
use Rattle.std.specs.List.{Contains}
use Rattle.formula.specs.declared.atom.Lit.{Lit}
use Rattle.formula.specs.Reading.{opposite}
use Rattle.clause_trail.specs.declared.trail.Entry.{Entry}
use Rattle.clause_trail.specs.Standing.{IsApart}
use Rattle.clause_trail.specs.Propagation.{IsOpen, HasTwo}
use Rattle.clause_trail.specs.Decisions.{lits_of}
use Rattle.clause_core.specs.inside.Levels.{IsAfter}
use Rattle.clause_trail.proofs.Bridge.{stand_lits}
use Rattle.clause_trail.proofs.Fronts.{get-take, at_low}

late_stand : {entries : List Entry} {clause : List Lit} {n : ℕ} → IsApart entries → (a : IsAfter entries clause n) → (d : ℕ) → d < n → (l : Lit) → l.boolean ≡ a.lit.boolean → Contains (lits_of (take d entries)) l → ⊥
late_stand {entries = entries} apart a d lt l same c =
    let st = stand_lits (take d entries) l c in
    let low : st.0 < d = at_low entries d st.0 _ st.1.1 in
    let is : st.0 ≡ a.place = apart st.0 a.place l a.standing (st.1.0, get-take entries d st.0 _ st.1.1) a.stands (same ∙ sym a.same) in
    omega (arith, a.is)

late_open : {entries : List Entry} {clause : List Lit} {n : ℕ} → IsApart entries → (a : IsAfter entries clause n) → (d : ℕ) → d < n → IsOpen (lits_of (take d entries)) a.lit
late_open apart a d lt = record { not_true = late_stand apart a d lt a.lit refl; not_false = late_stand apart a d lt (opposite a.lit) refl }

pub two_late : {entries : List Entry} {clause : List Lit} {keep top : ℕ} → IsApart entries → IsAfter entries clause keep → IsAfter entries clause top → keep < top → (d : ℕ) → d < keep → HasTwo (lits_of (take d entries)) clause
two_late apart a b lt d low = record {
  first = a.lit;
  second = b.lit;
  first_in = a.within;
  second_in = b.within;
  differ = λ e. let same : a.place ≡ b.place = apart a.place b.place a.standing b.standing a.stands b.stands (a.same ∙ ap (λ (x : Lit). x.boolean) e ∙ sym b.same) in omega (arith, a.is, b.is);
  first_open = late_open apart a d low;
  second_open = late_open apart b d (omega arith);
}
