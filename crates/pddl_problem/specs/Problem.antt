-- A problem: `(define (problem NAME) section ..)`, whose sections stand in any order.
use Rattle.std.specs.Prelude.{ℕ, List, [], map, codes}
use Rattle.sexpr.specs.declared.tree.Tree.{Tree}
use Rattle.sexpr.specs.declared.fault.Source.TheVariants.{Problem}
use Rattle.pddl_condition.specs.declared.condition.CondAst.{CondAst}
use Rattle.pddl_form.specs.declared.names.Sort.TheVariants.{Name}
use Rattle.pddl_form.specs.declared.spot.Spot.{Spot}
use Rattle.pddl_form.specs.declared.typed.Typed.{Typed}
use Rattle.pddl_form.specs.Gather.{apply}
use Rattle.pddl_form.specs.Judged.{Judged, good, lacking, mapped, both, each}
use Rattle.pddl_form.specs.Words.{word_form}
use Rattle.pddl_form.specs.Parts.{one_part}
use Rattle.pddl_form.specs.Typed.{typed_list}
use Rattle.pddl_condition.specs.Condition.{condition_form}
use Rattle.pddl_form.specs.Sections.{Contents, Definition, section_with, contents_or, second, sections_form, requirements_form, title_form, definition_form, and_then}
use Rattle.pddl_problem.specs.declared.ast.InitAst.{InitAst}
use Rattle.pddl_problem.specs.declared.ast.ProblemAst.{ProblemAst}
use Rattle.pddl_problem.specs.Init.{init_form}

-- one name
abbrev pub name_in : Contents → Judged Spot
name_in c = one_part (word_form Name) c.start c.end c.parts

-- `(:domain NAME)`, which the text lacks where it is left out
unfoldable pub domain_section : ℕ → List Tree → Judged Spot
domain_section end sections = contents_or (lacking end) name_in (section_with (codes ":domain") sections)

-- a typed list of names
abbrev pub objects_in : Contents → Judged (List Typed)
objects_in c = typed_list Name c.end c.parts

-- `(:objects LIST)`, a typed list of names
unfoldable pub objects_section : List Tree → Judged (List Typed)
objects_section sections = contents_or (good []) objects_in (section_with (codes ":objects") sections)

-- the items of the initial state
abbrev pub items_in : Contents → Judged (List InitAst)
items_in c = each (map init_form c.parts)

-- `(:init ITEM ..)`
unfoldable pub init_section : List Tree → Judged (List InitAst)
init_section sections = contents_or (good []) items_in (section_with (codes ":init") sections)

-- one condition
abbrev pub goal_in : Contents → Judged (List CondAst)
goal_in c = one_part condition_form c.start c.end c.parts

-- `(:goal CONDITION)`, which the text lacks where it is left out
unfoldable pub goal_section : ℕ → List Tree → Judged (List CondAst)
goal_section end sections = contents_or (lacking end) goal_in (section_with (codes ":goal") sections)

-- the syntax of all parts
abbrev pub problem_of : Spot → Spot → List Typed → List InitAst → List CondAst → ProblemAst
problem_of name domain objects init goal = record { name = name; domain = domain; objects = objects; init = init; goal = goal }

-- the five parts, or the faults of all
unfoldable pub whole : Judged Spot → Judged Spot → Judged (List Typed) → Judged (List InitAst) → Judged (List CondAst) → Judged ProblemAst
whole name domain objects init goal = both apply (both apply (both apply (both apply (mapped problem_of name) domain) objects) init) goal

-- what the title and the sections make
abbrev pub read_sections : ℕ → Tree → List Tree → Judged ProblemAst
read_sections end title sections = whole (title_form (codes "problem") title) (domain_section end sections) (objects_section sections) (init_section sections) (goal_section end sections)

-- the same, where each section's word may stand there and the requirements are words that start with `:`
unfoldable pub problem_parts : Definition → Judged ProblemAst
problem_parts d = both second (sections_form Problem d.sections) (both second (requirements_form d.sections) (read_sections d.end d.title d.sections))

-- the whole text; what follows `:metric` and `:length` isn't judged
unfoldable pub problem_form : Tree → Judged ProblemAst
problem_form tree = and_then (definition_form tree) problem_parts
