-- Passing over names.
use Rattle.std.proofs.Common.{◌≡◌, Bool, true, false, ℕ, List, [], ◌∷◌, Some, None, ap, ◌∙◌}
use Rattle.std.specs.Prelude.{if◌then◌else◌}
use Rattle.cert_lines.specs.Pieces.{Piece}
use Rattle.cert_lines.specs.Spelled.{is_name, is_last_name}
use Rattle.cert_lines.specs.Calls.{behind_names}

pub last_taken : (w : List ℕ) (ps : List Piece) → is_last_name w ≡ true → behind_names w ps ≡ Some ps
last_taken w [] is = ap (λ (b : Bool). if b then Some [] else None) is
last_taken w (p ∷ ps) is = ap (λ (b : Bool). if b then Some (p ∷ ps) else (if is_name w then behind_names p.bytes ps else None)) is

pub no_name : (w : List ℕ) (ps : List Piece) → is_last_name w ≡ false → is_name w ≡ false → behind_names w ps ≡ None
no_name w [] is other = ap (λ (b : Bool). if b then Some [] else None) is
no_name w (p ∷ ps) is other =
    ap (λ (b : Bool). if b then Some (p ∷ ps) else (if is_name w then behind_names p.bytes ps else None)) is ∙ ap (λ (b : Bool). if b then behind_names p.bytes ps else None) other
