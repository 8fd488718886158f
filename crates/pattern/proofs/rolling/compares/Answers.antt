use Rattle.pattern.proofs.Comparing.{compares_le, compares_lt, compares_eq}
use Rattle.pattern.proofs.rolling.compares.Goals as goal

pub returns-in-Le : goal.returns-in-Le
returns-in-Le c = compares_le c.args.value.now c.zero.result c.args.cmp c.cmp-order.result c.is_le.result c.zero.ensures c.cmp-order.ensures c.in-Le.is c.is_le.ensures

pub returns-in-Lt : goal.returns-in-Lt
returns-in-Lt c = compares_lt c.args.value.now c.zero.result c.args.cmp c.cmp-order.result c.is_lt.result c.zero.ensures c.cmp-order.ensures c.in-Lt.is c.is_lt.ensures

pub returns-in-Eq : goal.returns-in-Eq
returns-in-Eq c = compares_eq c.args.value.now c.zero.result c.args.cmp c.cmp-order.result c.is_eq.result c.zero.ensures c.cmp-order.ensures c.in-Eq.is c.is_eq.ensures
