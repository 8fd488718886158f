use Rattle.std.proofs.Common.{◌≡◌, Some, refl}
use Rattle.std.specs.Prelude.{slice_get}
use denote.Enum.Declared.{tag_of}
use Rattle.pddl_form.specs.contracts.sections.SectionWord.{the_type}
use Rattle.pddl_form.specs.declared.sections.SectionWord.{SectionWord}
use Rattle.pddl_form.specs.declared.sections.SectionWord.TheVariants as section
use Rattle.pddl_form.specs.Sections.{section_word, section_words}
use Rattle.pddl_form.proofs.sections.section_index.Goals as goal

stands_at : (w : SectionWord) → slice_get section_words (tag_of the_type w) ≡ Some (section_word w)
stands_at section.Action = refl
stands_at section.Constants = refl
stands_at section.Constraints = refl
stands_at section.Derived = refl
stands_at section.Domain = refl
stands_at section.DurativeAction = refl
stands_at section.Event = refl
stands_at section.Functions = refl
stands_at section.Goal = refl
stands_at section.Init = refl
stands_at section.Length = refl
stands_at section.Metric = refl
stands_at section.Objects = refl
stands_at section.Predicates = refl
stands_at section.Process = refl
stands_at section.Requirements = refl
stands_at section.Types = refl

pub returns : goal.returns
returns c = stands_at c.args.wanted
