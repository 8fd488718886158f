-- What contracts see of the code's sections and definitions.
use Rattle.pddl_form.specs.declared.sections.Section.{Section}
use Rattle.pddl_form.specs.declared.definition.Definition.{Definition as Definition-ref}
use Rattle.pddl_form.specs.Sections.{Contents, Definition}

-- the contents of a section
abbrev pub contents_of : Section → Contents
contents_of s = record { start = s.start; end = s.end; parts = s.parts.now }

-- the parts of a text
abbrev pub parts_of : Definition-ref → Definition
parts_of d = record { title = d.title.now; sections = d.sections.now; end = d.end }
