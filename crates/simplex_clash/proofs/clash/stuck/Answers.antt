use Rattle.std.specs.Result.{IfOk}
use Rattle.std.proofs.Common.{◌≡◌, ◌∙◌, ℕ, List, ◌∷◌, subst, ap}
use Rattle.std.proofs.lemmas.Result.{IfOk-weaker}
use Rattle.tableau.specs.Table.{width, cell}
use Rattle.simplex_atoms.specs.Tightest.{number_at}
use Rattle.simplex_clash.specs.Parts.{Part, own_part, parts_below, IsMadeOf}
use Rattle.simplex_clash.proofs.Clashes.{stuck_lemma}
use Rattle.simplex_clash.proofs.clash.stuck.Goals as goal

pub returns-clause-shown : goal.returns-clause-shown
returns-clause-shown c =
    let all = λ (lo hi : List ℕ). own_part c.args.side (number_at lo c.args.r) (number_at hi c.args.r) ∷ parts_below c.args.side (cell c.args.t.now c.args.r) (number_at lo) (number_at hi) (width c.args.t.now) in
    let lo : c.deref.result.now ≡ c.args.lower.now.by.items = c.deref.ensures.value in
    let hi : c.deref-2.result.now ≡ c.args.upper.now.by.items = c.deref-2.ensures.value in
    IfOk-weaker c.lemma_of.result _ _
    (λ m made f lits place set placed st. stuck_lemma f lits c.args.t.now c.args.lower.now c.args.upper.now set place c.args.r c.args.side placed st m made)
    (subst (λ (ps : List Part). IfOk c.lemma_of.result (λ m. IsMadeOf ps m)) (c.in_ok-parts.ensures ∙ ap (λ (xs : List ℕ). all xs c.deref-2.result.now) lo ∙ ap (λ (xs : List ℕ). all c.args.lower.now.by.items xs) hi) c.lemma_of.ensures)
