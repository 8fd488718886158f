-- What contracts see of a core, and of its trail of true literals.
use Rattle.std.specs.Prelude.{List, refl}
use Rattle.std.specs.Coded.{Coded, code_by, coded×, coded_list}
use Rattle.formula.specs.declared.atom.Lit.{Lit}
use Rattle.formula.specs.contracts.atom.Lit as lit
use Rattle.formula.specs.Contents.{Contents, contents_code}

-- the formula with the clauses and atoms of the log, the theory, and the trail
pub record Cored (T : Type 0) : Type 0 where
  pub formula : Contents
  pub theory : T
  pub trail : List Lit

abbrev pub cored_code : {T : Type 0} → Coded T → Coded (Cored T)
cored_code {T = T} theory =
    code_by (Contents × (T × List Lit)) (coded× contents_code (coded× theory (coded_list lit.the_row.coded)))
    (λ c. (c.formula, (c.theory, c.trail))) (λ p. record { formula = p.0; theory = p.1.0; trail = p.1.1 }) (λ _. refl)
