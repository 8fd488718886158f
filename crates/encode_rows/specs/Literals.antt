-- The numbered literal of a comparison with 0, and the formula with its atom.
use Rattle.std.specs.Prelude.{◌≡◌, Bool, length, Result, Ok, Err, unwrap_or}
use Rattle.lin.specs.Linear.{Linear}
use Rattle.lin.specs.Operations.{AllFit, IsRefusal}
use Rattle.lin.specs.declared.failure.LinFail.{LinFail}
use Rattle.formula.specs.Contents.{Contents}
use Rattle.formula.specs.Equal.{boolean_of, with_atom}
use Rattle.encode_rows.specs.declared.clause.Truth.{Truth}
use Rattle.encode_rows.specs.declared.clause.Truth.TheVariants.{Yes, No, Of}
use Rattle.encode_laws.specs.Numbering.{atom, truth, Plain, always, never, of}
use Rattle.encode_laws.specs.Refusals.{bound_ops}
use Rattle.encode_rows.specs.Bounds.{compared}

-- an atom is made where no equal one has a Boolean
abbrev pub with_literal : Plain → Contents → Contents
with_literal always f = f
with_literal never f = f
with_literal (of s (atom a)) f = with_atom a f
with_literal (of s (truth n)) f = f

abbrev pub numbered_in : Contents → Plain → Truth
numbered_in f always = Yes
numbered_in f never = No
numbered_in f (of s (atom a)) = Of (record { boolean = unwrap_or (boolean_of a f.atoms) (length f.atoms); pos = s })
numbered_in f (of s (truth n)) = No

abbrev pub LiteralAnswers : Contents → Bool → Linear → Contents → Result Truth LinFail → Type 0
LiteralAnswers old strict l new (Ok t) = AllFit (bound_ops old.counts strict l l.terms) × (new ≡ with_literal (compared old.counts strict l) old) × (t ≡ numbered_in old (compared old.counts strict l))
LiteralAnswers old strict l new (Err e) = IsRefusal (bound_ops old.counts strict l l.terms) e × (new ≡ old)
