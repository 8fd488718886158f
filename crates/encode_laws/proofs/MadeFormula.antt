-- What is made item by item of n copies is their formula.
use Rattle.std.proofs.Common.{◌≡◌, ℕ, Bool, List, map, ap, ◌∙◌}
use Rattle.task_core.specs.Task.{GroundParts, start}
use Rattle.formula.specs.declared.atom.Lit.{Lit}
use Rattle.formula.specs.Contents.{Contents}
use Rattle.encode_laws.specs.Numbering.{Key, atom_in}
use Rattle.encode_laws.specs.Encoding.{occurrences, items_of, formula_of}
use Rattle.encode_laws.specs.Refusals.{operations_of}
use Rattle.encode_laws.specs.Made.{made_from, nothing_made, named_from, contents_of}
use Rattle.encode_laws.proofs.MadeLaws.{named-formula}
use Rattle.encode_laws.proofs.Below.{rows-steady, rows-made}

module _ (task : GroundParts) (pattern : List ℕ) (n : ℕ) where
  pub named-are : named_from (items_of task pattern n) nothing_made ≡ operations_of task pattern n
  named-are = named-formula (items_of task pattern n) (rows-steady (start task) task.goal (occurrences task pattern n))

  pub contents-are : contents_of (made_from (items_of task pattern n) nothing_made) ≡ formula_of task pattern n
  contents-are =
      let h = rows-made (start task) task.goal (occurrences task pattern n) in
      let made = made_from (items_of task pattern n) nothing_made in
      ap (λ (cs : List Bool). let f : Contents = record { counts = cs; atoms = map atom_in made.keys; clauses = made.clauses } in f) h.counts
      ∙ ap (λ (ks : List Key). let f : Contents = record { counts = (formula_of task pattern n).counts; atoms = map atom_in ks; clauses = made.clauses } in f) h.keys
      ∙ ap (λ (cs : List (List Lit)). let f : Contents = record { counts = (formula_of task pattern n).counts; atoms = (formula_of task pattern n).atoms; clauses = cs } in f) h.clauses
