use Rattle.encode_laws.specs.Encoding.{formula_of}
use Rattle.judge_laws.proofs.laws.accepted_log_refutes_words.Goals as goal

pub returns : goal.returns
returns c = λ task pattern n log t numbers f a e r.
    let x = (c.point_where_reached.ensures task pattern n t numbers).0 r in
    c.accepted_log_refutes.ensures (formula_of task pattern n) log x.0 f a e x.1
