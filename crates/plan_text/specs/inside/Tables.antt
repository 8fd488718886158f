-- The names that a reader's tables are of.
use Rattle.plan_text.specs.declared.names.NameTables.{NameTables}
use Rattle.plan_text.specs.PlanText.{Names, names_of}

abbrev pub names_in : NameTables → Names
names_in tables = names_of tables.task.now
