use Rattle.std.proofs.Common.{ap, sym, ◌∙◌}
use Rattle.std.specs.Option.{option_map}
use Rattle.pddl_form.specs.SectionParts.{contents_of}
use Rattle.pddl_form.proofs.SectionLaws.{no_section_read, section_passed, section_taken, sections_read}
use Rattle.pddl_domain.specs.Domain.{actions_section}
use Rattle.pddl_domain.proofs.domain.read_actions.Goals as goal

pub loop-tree-init : goal.loop-tree-init
loop-tree-init c = no_section_read _ _ _ _ _ c.new.ensures

pub loop-tree-preserved : goal.loop-tree-preserved
loop-tree-preserved c =
    section_taken _ _ _ _ _ _ _ _ _ _ _ _ c.loop-tree.invariant c.loop-tree-test.true c.tree-item.is (sym (ap (option_map contents_of) c.in-Some.is) ∙ c.section_behind.ensures)
    c.in_ok-one.ensures c.in_ok-add.ensures

pub loop-tree-preserved-in_default : goal.loop-tree-preserved-in_default
loop-tree-preserved-in_default c =
    section_passed _ _ _ _ _ _ _ _ c.loop-tree.invariant c.loop-tree-test.true c.tree-item.is (sym (ap (option_map contents_of) c.in_default.is) ∙ c.section_behind.ensures)

pub returns : goal.returns
unfolding actions_section
returns c = sections_read _ _ _ _ _ _ _ c.loop-tree.invariant c.loop-tree-test.false
