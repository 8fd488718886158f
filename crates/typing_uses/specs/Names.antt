-- The tables of names that the passes look names up in.
use Rattle.typing_uses.specs.declared.scope.Names.{Names}
use Rattle.typing_uses.specs.Scope.{Scope}

-- the names that the tables hold
abbrev pub scope_of : Names → Scope
scope_of names = record { types = names.types.now; objects = names.objects.now; preds = names.preds.now; funcs = names.funcs.now; params = names.params.now }
