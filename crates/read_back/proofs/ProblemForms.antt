-- The names of the objects of a problem whose words are in lower case are spelled as in texts.
use Rattle.std.proofs.Common.{◌≡◌, Bool, true, List, [], refl}
use Rattle.std.specs.Prelude.{codes}
use Rattle.std.specs.List.{list_all}
use Rattle.sexpr.specs.declared.tree.Tree.{Tree}
use Rattle.sexpr.specs.declared.fault.Source.TheVariants.{Problem}
use Rattle.pddl_form.specs.declared.spot.Spot.{Spot}
use Rattle.pddl_form.specs.declared.typed.Typed.{Typed}
use Rattle.pddl_form.specs.Judged.{Judged, good, bad, both}
use Rattle.pddl_form.specs.Sections.{Definition, section_with, second, sections_form, requirements_form, title_form, definition_form}
use Rattle.pddl_form.proofs.Giving.{Gives, gives-any, gives-both}
use Rattle.pddl_condition.specs.declared.condition.CondAst.{CondAst}
use Rattle.pddl_problem.specs.declared.ast.InitAst.{InitAst}
use Rattle.pddl_problem.specs.declared.ast.ProblemAst.{ProblemAst}
use Rattle.pddl_problem.specs.Problem.{domain_section, objects_in, objects_section, init_section, goal_section, whole, read_sections, problem_parts, problem_form}
use Rattle.read_back.proofs.LowWords.{is_worded, are_worded}
use Rattle.read_back.proofs.Forms.{is_named_item, typed_gives, section_worded, section_gives, then_gives, has_worded_sections, definition_gives}

objects_give : (sections : List Tree) → are_worded sections ≡ true → Gives (list_all is_named_item) (objects_section sections)
unfolding objects_section
objects_give sections all =
    section_gives (list_all is_named_item) (good []) objects_in (section_with (codes ":objects") sections) (section_worded (codes ":objects") sections all) refl (λ c words. typed_gives c.end c.parts words)

abbrev pub is_named_problem : ProblemAst → Bool
is_named_problem p = list_all is_named_item p.objects

whole_gives : (name domain : Judged Spot) (objects : Judged (List Typed)) (init : Judged (List InitAst)) (goal : Judged (List CondAst))
    → Gives (list_all is_named_item) objects → Gives is_named_problem (whole name domain objects init goal)
unfolding whole
whole_gives (bad f more) d o i g h = tt
whole_gives (good n) (bad f more) o i g h = tt
whole_gives (good n) (good d) (bad f more) i g h = tt
whole_gives (good n) (good d) (good o) (bad f more) g h = tt
whole_gives (good n) (good d) (good o) (good i) (bad f more) h = tt
whole_gives (good n) (good d) (good o) (good i) (good g) h = h

parts_give : (d : Definition) → has_worded_sections d ≡ true → Gives is_named_problem (problem_parts d)
unfolding problem_parts
parts_give d all =
    gives-both second (λ a. true) is_named_problem is_named_problem (sections_form Problem d.sections) (both second (requirements_form d.sections) (read_sections d.end d.title d.sections)) (λ a b h k. k) (gives-any (sections_form Problem d.sections))
    (gives-both second (λ a. true) is_named_problem is_named_problem (requirements_form d.sections) (read_sections d.end d.title d.sections) (λ a b h k. k) (gives-any (requirements_form d.sections))
    (whole_gives (title_form (codes "problem") d.title) (domain_section d.end d.sections) (objects_section d.sections) (init_section d.sections) (goal_section d.end d.sections) (objects_give d.sections all)))

pub problem_gives : (t : Tree) → is_worded t ≡ true → Gives is_named_problem (problem_form t)
unfolding problem_form
problem_gives t all = then_gives has_worded_sections is_named_problem (definition_form t) problem_parts (definition_gives t all) parts_give
