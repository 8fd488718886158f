-- The kind of a word that isn't that of a section of the text.
use Rattle.std.specs.Prelude.{ℕ, List, if◌then◌else◌}
use Rattle.pddl_form.specs.declared.kinds.Kind.{Kind}
use Rattle.pddl_form.specs.declared.kinds.Kind.TheVariants.{Unread, Unknown}
use Rattle.pddl_form.specs.Names.{is_one_of}
use Rattle.pddl_form.specs.Sections.{unread_sections}

-- one that isn't read, or unknown
abbrev pub other_kind : List ℕ → Kind
other_kind text = if is_one_of unread_sections text then Unread else Unknown
