use Rattle.std.proofs.Common.{refl}
use Rattle.pddl_form.proofs.SectionLaws.{none_tested, one_more_tested, all_tested, seen_more}
use Rattle.pddl_form.proofs.section_words.read_section_words.Goals as goal

pub loop-tree-init : goal.loop-tree-init
loop-tree-init c = record { seen = c.new-seen.ensures; tested = none_tested _ _ _ _ }

pub loop-tree-preserved : goal.loop-tree-preserved
loop-tree-preserved c =
    let h = c.loop-tree.invariant in
    record {
      seen = seen_more _ _ _ _ c.loop-tree-test.true c.tree-item.is (c.add.ensures _ h.seen);
      tested = one_more_tested _ _ _ _ _ _ _ _ _ _ _ h.tested c.loop-tree-test.true c.tree-item.is refl (c.in_ok-one.ensures _ h.seen) c.and-all.ensures;
    }

pub returns : goal.returns
returns c = all_tested _ _ _ _ _ _ c.loop-tree.invariant.tested c.loop-tree-test.false
