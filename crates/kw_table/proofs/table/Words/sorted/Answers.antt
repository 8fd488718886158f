use Rattle.std.proofs.Common.{◌≡◌, ℕ, ◌+◌, ◌<◌, ◌≤◌, ◌-◌, map, length, drop, sym, ◌∙◌, ap, arith}
use Rattle.std.specs.Ordering.{is_ge}
use Rattle.std.proofs.lemmas.List.{length-map}
use Rattle.kw_table.specs.Table.{rises}
use Rattle.kw_table.proofs.Sorting.{rises_all, falls_at, rises_at, neighbours, isnt_less, less}
use Rattle.kw_table.proofs.table.Words.sorted.Goals as goal

pub returns-then-ge : goal.returns-then-ge
returns-then-ge g c =
    let xs = c.args.self.now.words in
    let text = g.W.AsStr.text in
    let below : c.loop-at.at < length xs = omega arith in
    let same = neighbours text xs c.loop-at.at _ _ _ _ below (c.as_str.ensures ∙ ap text c.index-words-at.is) (c.as_str-in-loop-at.ensures ∙ ap text c.index-words-at-in-loop-at.is) in
    let falls = falls_at (map text xs) c.loop-at.at (omega arith) (omega (arith, length-map xs text)) (isnt_less _ (sym (ap is_ge same) ∙ sym c.ge.ensures ∙ c.if-ge.true)) c.loop-at.invariant in
    (λ f. absurd (cc f), λ r. absurd (cc (falls, r)))

pub loop-at-preserved : goal.loop-at-preserved
loop-at-preserved g c =
    let xs = c.args.self.now.words in
    let text = g.W.AsStr.text in
    let below : c.loop-at.at < length xs = omega arith in
    let same = neighbours text xs c.loop-at.at _ _ _ _ below (c.as_str.ensures ∙ ap text c.index-words-at.is) (c.as_str-in-loop-at.ensures ∙ ap text c.index-words-at-in-loop-at.is) in
    let place : c.loop-at.at + 1 - 1 ≡ c.loop-at.at = omega arith in
    ap (λ (n : ℕ). rises (drop n (map text xs))) place
    ∙ rises_at (map text xs) c.loop-at.at (omega arith) (omega (arith, length-map xs text)) (less _ (sym (ap is_ge same) ∙ sym c.ge.ensures ∙ c.if-ge.false)) c.loop-at.invariant

pub returns : goal.returns
returns g c =
    let xs = c.args.self.now.words in
    let text = g.W.AsStr.text in
    let end : length xs ≤ c.loop-at.at = omega arith in
    let holds = sym c.loop-at.invariant ∙ rises_all (map text xs) c.loop-at.at (omega (arith, length-map xs text)) in
    (λ t. holds, λ r. cc)
