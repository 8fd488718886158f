use Rattle.encode_laws.specs.Encoding.{formula_of}
use Rattle.formula_log.proofs.laws.empty_clause_refutes_words.Goals as goal

pub returns : goal.returns
returns g c = λ task pattern n log t numbers f s e r.
    let x = (c.point_where_reached.ensures task pattern n t numbers).0 r in
    c.empty_clause_refutes.ensures (formula_of task pattern n) log x.0 f s e x.1
