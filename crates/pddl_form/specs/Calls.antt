-- A predicate or a function with its arguments: `(NAME WORD ..)`.
use Rattle.std.specs.Prelude.{ℕ, List, [], ◌∷◌, if◌then◌else◌}
use Rattle.sexpr.specs.declared.tree.Tree.{Tree, out-Tree}
use Rattle.sexpr.specs.declared.tree.Tree.TheOpen.{Tree-F}
use Rattle.pddl_form.specs.declared.calls.Call.{Call}
use Rattle.pddl_form.specs.declared.names.Sort.{Sort}
use Rattle.pddl_form.specs.declared.spot.Spot.{Spot}
use Rattle.pddl_form.specs.Judged.{Judged, mapped, misshapen, lacking}
use Rattle.pddl_form.specs.Names.{is_symbol}
use Rattle.pddl_form.specs.Words.{word_of, spot_of, word_forms}

abbrev pub called : Spot → List Spot → Call
called name args = record { name = name; args = args }

-- the arguments behind a name
unfoldable pub arguments : Sort → Tree → List Tree → Judged Call
arguments sort head args = mapped (called (spot_of head)) (word_forms sort args)

abbrev pub call_list : Sort → ℕ → ℕ → List Tree → Judged Call
call_list sort start end [] = lacking end
call_list sort start end (head ∷ args) = if is_symbol (word_of head) then arguments sort head args else misshapen start

abbrev pub call_at : Sort → Tree-F Tree → Judged Call
call_at sort (Tree-F.Word start end text) = misshapen start
call_at sort (Tree-F.List start end items) = call_list sort start end items

unfoldable pub call_form : Sort → Tree → Judged Call
call_form sort tree = call_at sort (out-Tree tree)
