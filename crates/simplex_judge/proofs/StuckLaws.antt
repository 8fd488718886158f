-- A trace that is made in the middle of a check is stuck, and its literals are asserted.
use Rattle.std.proofs.Common.{◌≡◌, ℕ, Bool, true, List, length, Option, None, sym, ap, subst, ◌∙◌, get_or}
use Rattle.std.specs.List.{All, Contains}
use Rattle.std.proofs.lemmas.List.Elements.{Contains-get_or}
use Rattle.frac128.specs.declared.operations.Wide.{Wide}
use Rattle.lin.specs.Operations.{AllFit}
use Rattle.formula.specs.declared.atom.Lit.{Lit}
use Rattle.formula.specs.Contents.{Contents, is_clause}
use Rattle.formula.specs.Reading.{opposite}
use Rattle.formula.specs.Farkas.{taken, farkas_ops}
use Rattle.theory_law.specs.Seen.{IsAsserted}
use Rattle.theory_law.specs.Verdicts.{WideFits, LemmaFits, IsStuckAt}
use Rattle.theory_law.specs.declared.trace.Trace.{Trace}
use Rattle.theory_law.specs.declared.trace.Site.{Site}
use Rattle.theory_law.specs.declared.trace.Lemma.{Lemma}
use Rattle.theory_law.specs.declared.trace.Site.TheVariants.{Pivots, Pivot, Value, Point, Farkas}
use Rattle.theory_law.specs.declared.verdict.Verdict.TheVariants.{Clash}
use Rattle.simplex_clash.specs.Clash.{IsLemmaOf}
use Rattle.simplex_fit.proofs.SignLaws.{listed_asserted, listed_rise}
use Rattle.simplex_judge.specs.Stuck.{swaps_of, StuckWhere, IsStuck}
use Rattle.simplex_judge.specs.Judged.{seen_of, StuckOver, JudgedHolds}
use Rattle.simplex_judge.specs.declared.beginning.Begun.{Begun}
use Rattle.simplex_judge.specs.inside.Traced.{IsTraced}
use Rattle.simplex_judge.specs.inside.Checking.{IsChecking}

module _ (f : Contents) (events : List (Option Lit)) (b : Begun) (ch : IsChecking f events b) where
  rises : is_clause (length f.atoms) b.lits.items ≡ true
  rises = ap (is_clause (length f.atoms)) ch.lits_are ∙ listed_rise events (length f.atoms) b.signs.items ch.signs_are

  pub within : (l : Lit) → Contains b.lits.items l → IsAsserted events l
  within l c = listed_asserted events (length f.atoms) b.signs.items ch.signs_are l (subst (λ (ls : List Lit). Contains ls l) ch.lits_are c)

  asserted : All (IsAsserted events) b.lits.items
  asserted i d lt = within (get_or b.lits.items i d) (Contains-get_or b.lits.items i d lt)

  pub stuck_at : (pivots : ℕ) (t : Trace) (pairs : List (ℕ × ℕ)) (site : Site) (wide : Option Wide) (lemma : Option Lemma) → IsTraced b pairs site wide lemma t → WideFits site wide → LemmaFits site lemma
      → StuckWhere f pivots b.basis.items b.lits.items pairs wide lemma site → IsStuckAt StuckOver (seen_of f pivots events) t
  stuck_at pivots t pairs site wide lemma is wide_fits lemma_fits stuck =
      let whole : IsStuck f pivots t = record {
        rise = ap (is_clause (length f.atoms)) is.lits ∙ rises;
        of_basis = (ch.of_basis.0, ch.of_basis.1, ch.of_basis.2 ∙ sym is.basis);
        stops =
            subst (λ (x : List ℕ). StuckWhere f pivots x t.lits (swaps_of t.pivots) t.wide t.lemma t.site) (sym is.basis)
            (subst (λ (x : List Lit). StuckWhere f pivots b.basis.items x (swaps_of t.pivots) t.wide t.lemma t.site) (sym is.lits)
            (subst (λ (x : List (ℕ × ℕ)). StuckWhere f pivots b.basis.items b.lits.items x t.wide t.lemma t.site) (sym is.pivots)
            (subst (λ (x : Option Wide). StuckWhere f pivots b.basis.items b.lits.items pairs x t.lemma t.site) (sym is.wide_is)
            (subst (λ (x : Option Lemma). StuckWhere f pivots b.basis.items b.lits.items pairs wide x t.site) (sym is.lemma_is)
            (subst (λ (x : Site). StuckWhere f pivots b.basis.items b.lits.items pairs wide lemma x) (sym is.site_is) stuck)))));
      } in
      record {
        trace = record {
          stuck = subst (λ (g : Contents). IsStuck g pivots t) ch.bare_is whole;
          wide = subst (λ (x : Site). WideFits x t.wide) (sym is.site_is) (subst (λ (x : Option Wide). WideFits site x) (sym is.wide_is) wide_fits);
          lemma = subst (λ (x : Site). LemmaFits x t.lemma) (sym is.site_is) (subst (λ (x : Option Lemma). LemmaFits site x) (sym is.lemma_is) lemma_fits);
        };
        asserted = subst (λ (ls : List Lit). All (IsAsserted events) ls) (sym is.lits) asserted;
      }

  pub clash_holds : (pivots : ℕ) (full : Bool) (m : Lemma) → IsLemmaOf f b.lits.items m → AllFit (farkas_ops (taken f m.clause m.coefs.list)) → JudgedHolds f pivots events full (record { verdict = Clash m.clause m.coefs; point = None })
  clash_holds pivots full m lemma fits = record {
    verdict = (
      record { shown = lemma.shown; fits = subst (λ (g : Contents). AllFit (farkas_ops (taken g m.clause m.coefs.list))) ch.bare_is fits },
      lemma.rises,
      λ i d lt. within (opposite (get_or m.clause i d)) (lemma.asserted i d lt),
    );
    sized = λ x e. absurd (cc);
  }

-- a site but that of spent pivots
abbrev pub IsOther : Site → Type 0
IsOther Pivots = ⊥
IsOther Pivot = Unit {0}
IsOther Value = Unit {0}
IsOther Point = Unit {0}
IsOther Farkas = Unit {0}

pub not_pivots : (s site : Site) → IsOther site → s ≡ site → s ≡ Pivots → ⊥
not_pivots s site other e g = subst IsOther (sym e ∙ g) other
