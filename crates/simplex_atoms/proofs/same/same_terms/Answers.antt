use Rattle.std.proofs.Common.{◌≡◌, ℕ, length, sym, ap, ◌∙◌, arith}
use Rattle.std.specs.Prelude.{slice_get}
use Rattle.std.proofs.lemmas.Option.{same_Some}
use Rattle.rational.specs.Fraction.{Fraction}
use Rattle.rational.specs.Linear.{Terms}
use Rattle.simplex_law.proofs.PairLaws.{fails}
use Rattle.simplex_atoms.proofs.SameTerms.{same_terms-apart, same_terms-equal, same_lists}
use Rattle.simplex_atoms.proofs.same.same_terms.Goals as goal

pub returns-then-n-terms : goal.returns-then-n-terms
returns-then-n-terms c = sym (same_terms-apart c.args.a.now.terms c.args.b.now.terms (λ e. let f = ap (λ (ts : Terms). length ts) e in absurd (omega arith)))

pub returns-then-v-w : goal.returns-then-v-w
returns-then-v-w c = sym (same_terms-apart c.args.a.now.terms c.args.b.now.terms (λ e.
    let f : c.term-v.result ≡ c.term-w.result = same_Some _ _ (sym c.term-v.ensures ∙ ap (λ (ts : Terms). slice_get ts c.loop-i.i) e ∙ c.term-w.ensures) in
    let g : c.term-v.result.0 ≡ c.term-w.result.0 = ap (λ (t : ℕ × Fraction). t.0) f in
    absurd (omega arith)))

pub returns-then-not-same_fraction : goal.returns-then-not-same_fraction
returns-then-not-same_fraction c = sym (same_terms-apart c.args.a.now.terms c.args.b.now.terms (λ e.
    let f : c.term-v.result ≡ c.term-w.result = same_Some _ _ (sym c.term-v.ensures ∙ ap (λ (ts : Terms). slice_get ts c.loop-i.i) e ∙ c.term-w.ensures) in
    let g : c.term-v.result.1 ≡ c.term-w.result.1 = ap (λ (t : ℕ × Fraction). t.1) f in
    absurd (fails c.same_fraction.result c.if-not-same_fraction.true c.same_fraction.ensures.1 g)))

pub returns : goal.returns
returns c = sym (same_terms-equal c.args.a.now.terms c.args.b.now.terms (same_lists _ _ (omega arith) (λ k l. c.loop-i.invariant k (omega arith))))
