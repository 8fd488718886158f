use Rattle.std.proofs.Common.{Err, ◌∙◌, arith}
use Rattle.std.proofs.lemmas.List.Sorted.{searched}
use Rattle.ground_instances.proofs.Least.{all_small, first_at}
use Rattle.ground_instances.proofs.choosing.first_from.Goals as goal

pub returns-then-low : goal.returns-then-low
returns-then-low c = all_small c.args.objects.now c.args.low 4294967295 (λ k. omega (arith, c.type_inv.objects k)) c.if-low.true

pub returns-in-Err : goal.returns-in-Err
returns-in-Err c =
    let found = searched c.args.objects.now c.args.low (Err c.in-Err.place) c.in-Err.ensures.position c.requires.rises in
    first_at c.args.objects.now c.args.low c.in-Err.place c.requires found.1 found.2 c.copied.result (c.copied.ensures ∙ c.at.ensures)
