-- What follows from the answer of a call.
use Rattle.std.proofs.Common.{Result, Ok, Err, OnOk}

pub along_ok : {A E : Type 0} {P Q : Type 0} (r : Result A E) → (P → Q) → OnOk r P → OnOk r Q
along_ok (Ok x) step h = step h
along_ok (Err e) step h = tt
