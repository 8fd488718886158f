-- What is read, or the first fault: its kind and its place (this project's certificates).
use Rattle.std.specs.Prelude.{◌≡◌, ℕ, List, [], ◌∷◌, Option, Some, None, Result, Ok, Err}
use Rattle.cert_lines.specs.declared.refusal.CertRefusal.{CertRefusal}
use Rattle.cert_lines.specs.declared.refusal.CertRefusal.TheVariants as refusal

pub record Fault : Type 0 where
  pub kind : ℕ
  pub place : ℕ

-- a line isn't one of the forms in its place
abbrev pub misshapen : ℕ → Fault
misshapen place = record { kind = 20; place = place }

-- a number is out of range
abbrev pub out_of_range : ℕ → Fault
out_of_range place = record { kind = 21; place = place }

-- a word isn't a fraction of 128 bits in lowest terms, or a count is 0 or too large
abbrev pub misnumbered : ℕ → Fault
misnumbered place = record { kind = 22; place = place }

abbrev pub or_fault : {A : Type 0} → Fault → Option A → Result A Fault
or_fault fault None = Err fault
or_fault fault (Some a) = Ok a

-- what is read here is put into what is read behind it
abbrev pub with_next : {A B C : Type 0} → (A → B → C) → A → Result B Fault → Result C Fault
with_next f a (Err fault) = Err fault
with_next f a (Ok b) = Ok (f a b)

-- two things in order: the first fault counts
abbrev pub both : {A B C : Type 0} → (A → B → C) → Result A Fault → Result B Fault → Result C Fault
both f (Err fault) second = Err fault
both f (Ok a) second = with_next f a second

-- things in order
abbrev pub each : {X A : Type 0} → (X → Result A Fault) → List X → Result (List A) Fault
each read [] = Ok []
each read (x ∷ xs) = both ◌∷◌ (read x) (each read xs)

-- what is answered is what is read, or its first fault, unless memory ran out
abbrev pub Answers : {A : Type 0} → Result A Fault → Result A CertRefusal → Type 0
Answers found (Ok a) = found ≡ Ok a
Answers found (Err (refusal.Fault kind place)) = found ≡ Err (record { kind = kind; place = place })
Answers found (Err refusal.Memory) = Unit {0}
