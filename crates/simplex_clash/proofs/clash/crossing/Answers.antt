use Rattle.std.specs.Result.{IfOk}
use Rattle.std.proofs.Common.{◌≡◌, ℕ, List, [], ◌∷◌, subst, arith, ap, ◌∙◌}
use Rattle.std.proofs.lemmas.List.{get_or_read}
use Rattle.std.proofs.lemmas.Result.{IfOk-weaker}
use Rattle.simplex_law.specs.declared.bound.Side.TheVariants.{Under, Over}
use Rattle.simplex_atoms.specs.Tightest.{number_at}
use Rattle.simplex_clash.specs.Parts.{Part, own_part, IsMadeOf}
use Rattle.simplex_clash.proofs.Clashes.{cross_lemma}
use Rattle.simplex_clash.proofs.clash.crossing.Goals as goal

pub returns-clause-shown : goal.returns-clause-shown
returns-clause-shown c =
    let lo : c.index.result.now ≡ number_at c.args.lower.now.by.items c.args.v = get_or_read c.args.lower.now.by.items c.args.v c.index.result.now c.requires.lower c.index.ensures 0 in
    let hi : c.index-2.result.now ≡ number_at c.args.upper.now.by.items c.args.v = get_or_read c.args.upper.now.by.items c.args.v c.index-2.result.now c.requires.upper c.index-2.ensures 0 in
    let parts : c.in_ok-parts.parts.items ≡ own_part Under (number_at c.args.lower.now.by.items c.args.v) (number_at c.args.upper.now.by.items c.args.v) ∷ own_part Over (number_at c.args.lower.now.by.items c.args.v) (number_at c.args.upper.now.by.items c.args.v) ∷ [] =
    c.in_ok-parts.ensures
    ∙ ap (λ (n : ℕ). own_part Under n c.index-2.result.now ∷ own_part Over n c.index-2.result.now ∷ []) lo
    ∙ ap (λ (n : ℕ). own_part Under (number_at c.args.lower.now.by.items c.args.v) n ∷ own_part Over (number_at c.args.lower.now.by.items c.args.v) n ∷ []) hi in
    IfOk-weaker c.lemma_of.result _ _
    (λ m made f lits t set crosses. cross_lemma f lits t c.args.lower.now c.args.upper.now set c.args.v (let long = set.lower_is.long_by in let h = c.requires.lower in omega arith) crosses m made)
    (subst (λ (ps : List Part). IfOk c.lemma_of.result (λ m. IsMadeOf ps m)) parts c.lemma_of.ensures)
