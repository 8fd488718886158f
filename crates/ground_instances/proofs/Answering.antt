-- What follows from the answer of a call.
use Rattle.std.proofs.Common.{◌≡◌, Bool, true, false, ◌&&◌, Result, Ok, Err, IfOk, OnOk, sym, ap, ◌∙◌}

-- what holds of an answer gives what has to
pub along : {A E : Type 0} (P Q : A → Type 0) (r : Result A E) → ((x : A) → P x → Q x) → IfOk r P → IfOk r Q
along P Q (Ok x) step h = step x h
along P Q (Err e) step h = tt

pub not_first : (a b : Bool) → a ≡ false → false ≡ (a && b)
not_first a b e = sym (ap (λ t. t && b) e)

pub first_too : (a b c : Bool) → a ≡ true → c ≡ b → c ≡ (a && b)
first_too a b c e f = f ∙ sym (ap (λ t. t && b) e)

pub along_ok : {A E : Type 0} {P Q : Type 0} (r : Result A E) → (P → Q) → OnOk r P → OnOk r Q
along_ok (Ok x) step h = step h
along_ok (Err e) step h = tt
