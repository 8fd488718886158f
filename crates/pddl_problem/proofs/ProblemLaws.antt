-- A problem is read where its parts are.
use Rattle.std.proofs.Common.{List, Option}
use Rattle.pddl_condition.specs.declared.condition.CondAst.{CondAst}
use Rattle.pddl_form.specs.declared.fault.Fault.{Fault}
use Rattle.pddl_form.specs.declared.spot.Spot.{Spot}
use Rattle.pddl_form.specs.declared.typed.Typed.{Typed}
use Rattle.pddl_form.specs.Judged.{Judged}
use Rattle.pddl_form.specs.Gather.{apply}
use Rattle.pddl_form.specs.Reading.{IsRead}
use Rattle.pddl_form.proofs.Loops.{read_mapped, read_both}
use Rattle.pddl_problem.specs.declared.ast.InitAst.{InitAst}
use Rattle.pddl_problem.specs.Problem.{whole, problem_of}
use Rattle.pddl_problem.specs.inside.Made.{whole_made}

pub whole_read : (name domain : Judged Spot) (objects : Judged (List Typed)) (init : Judged (List InitAst)) (goal : Judged (List CondAst))
    (f0 f1 f2 f3 f4 f5 : Option Fault) (n d : Option Spot) (o : Option (List Typed)) (i : Option (List InitAst)) (g : Option (List CondAst))
    → IsRead name f0 f1 n → IsRead domain f1 f2 d → IsRead objects f2 f3 o → IsRead init f3 f4 i → IsRead goal f4 f5 g
    → IsRead (whole name domain objects init goal) f0 f5 (whole_made n d o i g)
unfolding whole
whole_read name domain objects init goal f0 f1 f2 f3 f4 f5 n d o i g hn hd ho hi hg =
    read_both apply _ goal f0 f4 f5 _ g
    (read_both apply _ init f0 f3 f4 _ i
    (read_both apply _ objects f0 f2 f3 _ o
    (read_both apply _ domain f0 f1 f2 _ d (read_mapped problem_of name f0 f1 n hn) hd) ho) hi) hg
