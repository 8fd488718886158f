use Rattle.std.proofs.Common.{◌≡◌, take}
use Rattle.std.specs.List.{flat_map}
use Rattle.ground_walk.specs.Walk.{fact_atoms}
use Rattle.ground_seen.specs.Seen.{seen}
use Rattle.ground_seen.proofs.tables.see_facts.Given as goal

abbrev pub invariant-loop-fact : goal.invariant-loop-fact
invariant-loop-fact l = l.atoms ≡ seen l.initial.atoms (flat_map (fact_atoms l.task) (take l.fact-index l.facts))
