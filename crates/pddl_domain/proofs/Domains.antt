-- A domain is read where its parts are.
use Rattle.std.proofs.Common.{List, Option}
use Rattle.pddl_form.specs.declared.fault.Fault.{Fault}
use Rattle.pddl_form.specs.declared.spot.Spot.{Spot}
use Rattle.pddl_form.specs.declared.typed.Typed.{Typed}
use Rattle.pddl_form.specs.Gather.{apply}
use Rattle.pddl_form.specs.Judged.{Judged}
use Rattle.pddl_form.specs.Reading.{IsRead}
use Rattle.pddl_form.proofs.Loops.{read_mapped, read_both}
use Rattle.pddl_domain.specs.declared.action.ActionAst.{ActionAst}
use Rattle.pddl_domain.specs.declared.head.Head.{Head}
use Rattle.pddl_domain.specs.Domain.{whole, domain_of}
use Rattle.pddl_domain.specs.inside.Made.{whole_made}

-- the six parts, one behind another
pub whole_read : (name : Judged Spot) (types constants : Judged (List Typed)) (preds funcs : Judged (List Head)) (actions : Judged (List ActionAst))
    (f0 f1 f2 f3 f4 f5 f6 : Option Fault) (n : Option Spot) (t k : Option (List Typed)) (p f : Option (List Head)) (a : Option (List ActionAst))
    → IsRead name f0 f1 n → IsRead types f1 f2 t → IsRead constants f2 f3 k → IsRead preds f3 f4 p → IsRead funcs f4 f5 f → IsRead actions f5 f6 a
    → IsRead (whole name types constants preds funcs actions) f0 f6 (whole_made n t k p f a)
unfolding whole
whole_read name types constants preds funcs actions f0 f1 f2 f3 f4 f5 f6 n t k p f a hn ht hk hp hf ha =
    read_both apply _ actions f0 f5 f6 _ a
    (read_both apply _ funcs f0 f4 f5 _ f
    (read_both apply _ preds f0 f3 f4 _ p
    (read_both apply _ constants f0 f2 f3 _ k
    (read_both apply _ types f0 f1 f2 _ t (read_mapped domain_of name f0 f1 n hn) ht) hk) hp) hf) ha
