-- The pass over the bytes.
use Rattle.std.proofs.Common.{◌≡◌, inl, inr, ℕ, ◌+◌, ◌<◌, ◌≤◌, ◌==◌, Bool, true, false, not, List, ◌∷◌, length, get_or, drop, refl, sym, ◌∙◌, ap, subst, arith, below_more, below_none}
use Rattle.std.specs.Prelude.{if◌then◌else◌}
use Rattle.std.proofs.lemmas.Bool.{cases_Bool, cases_lt}
use Rattle.std.proofs.lemmas.List.{drop_more}
use Rattle.sexpr.specs.declared.bytes.Class.{Class}
use Rattle.sexpr.specs.declared.bytes.Class.TheVariants.{Semicolon, Foreign}
use Rattle.sexpr.specs.Bytes.{class_of}
use Rattle.sexpr.specs.Comments.{bare, bare_from}
use Rattle.sexpr.specs.Faults.{IsByteFault}
use Rattle.sexpr.specs.Read.{ByteFault, HasNone, IsFirst}
use Rattle.sexpr.proofs.BareLaws.{length-bare_from, bare_other}
use Rattle.sexpr.proofs.ByteLaws.{semicolon_is, isnt_semicolon}

-- the bytes before a place are allowed, and a comment is open there or not
pub record IsPassed (bytes : List ℕ) (inside : Bool) (at : ℕ) : Type 0 where
  pub rest : drop at (bare bytes) ≡ bare_from inside (drop at bytes)
  pub allowed : (place : ℕ) → place < at → IsByteFault (bare bytes) place → ⊥

pub passed_none : (bytes : List ℕ) → IsPassed bytes false 0
passed_none bytes = record { rest = refl; allowed = below_none (λ place. IsByteFault (bare bytes) place → ⊥) }

-- a byte, without comments, and the rest
at_place : (bytes : List ℕ) (inside : Bool) (at : ℕ) → IsPassed bytes inside at → at < length bytes
    → (get_or (bare bytes) at 0 ∷ drop (at + 1) (bare bytes)) ≡ bare_from inside (get_or bytes at 0 ∷ drop (at + 1) bytes)
at_place bytes inside at passed within =
    let below : at < length (bare bytes) = omega (arith, length-bare_from false bytes, within) in
    sym (drop_more (bare bytes) at 0 below) ∙ passed.rest ∙ ap (bare_from inside) (drop_more bytes at 0 within)

pub passed_more : (bytes : List ℕ) (inside next : Bool) (at b : ℕ) → IsPassed bytes inside at → at < length bytes
    → bare_from inside (get_or bytes at 0 ∷ drop (at + 1) bytes) ≡ b ∷ bare_from next (drop (at + 1) bytes) → (class_of b ≡ Foreign → ⊥) → IsPassed bytes next (at + 1)
passed_more bytes inside next at b passed within is allowed =
    let whole = at_place bytes inside at passed within ∙ is in
    let here : get_or (bare bytes) at 0 ≡ b = cc whole in
    record {
      rest = cc whole;
      allowed = below_more (λ place. IsByteFault (bare bytes) place → ⊥) at passed.allowed (λ fault. allowed (ap class_of (sym here) ∙ fault.1));
    }

-- a byte of a comment
pub passed_inside : (bytes : List ℕ) (at b : ℕ) → IsPassed bytes true at → at < length bytes → get_or bytes at 0 ≡ b → IsPassed bytes (not (b == 10)) (at + 1)
passed_inside bytes at b passed within is = elim (cases_Bool (b == 10)) [
  | inl line ↦
      subst (λ (t : Bool). IsPassed bytes (not t) (at + 1)) (sym line)
      (passed_more bytes true false at 10 passed within
      (ap (λ (n : ℕ). bare_from true (n ∷ drop (at + 1) bytes)) is ∙ ap (λ (t : Bool). if t then 10 ∷ bare_from false (drop (at + 1) bytes) else 32 ∷ bare_from true (drop (at + 1) bytes)) line)
      (λ foreign. absurd (cc foreign)))
  | inr more ↦
      subst (λ (t : Bool). IsPassed bytes (not t) (at + 1)) (sym more)
      (passed_more bytes true true at 32 passed within
      (ap (λ (n : ℕ). bare_from true (n ∷ drop (at + 1) bytes)) is ∙ ap (λ (t : Bool). if t then 10 ∷ bare_from false (drop (at + 1) bytes) else 32 ∷ bare_from true (drop (at + 1) bytes)) more)
      (λ foreign. absurd (cc foreign)))
]

-- a semicolon
pub passed_semicolon : (bytes : List ℕ) (at : ℕ) → IsPassed bytes false at → at < length bytes → class_of (get_or bytes at 0) ≡ Semicolon → IsPassed bytes true (at + 1)
passed_semicolon bytes at passed within is =
    passed_more bytes false true at 32 passed within (ap (λ (n : ℕ). bare_from false (n ∷ drop (at + 1) bytes)) (semicolon_is (get_or bytes at 0) is)) (λ foreign. absurd (cc foreign))

-- another byte
pub passed_other : (bytes : List ℕ) (at : ℕ) (k : Class) → IsPassed bytes false at → at < length bytes → class_of (get_or bytes at 0) ≡ k → (k ≡ Semicolon → ⊥) → (k ≡ Foreign → ⊥) → IsPassed bytes false (at + 1)
passed_other bytes at k passed within is no_semicolon allowed =
    passed_more bytes false false at (get_or bytes at 0) passed within (bare_other (get_or bytes at 0) (drop (at + 1) bytes) (isnt_semicolon (get_or bytes at 0) k is no_semicolon)) (λ foreign. allowed (sym is ∙ foreign))

-- a byte that isn't allowed is the first
pub foreign_first : (bytes : List ℕ) (at : ℕ) → IsPassed bytes false at → at < length bytes → class_of (get_or bytes at 0) ≡ Foreign → IsFirst (ByteFault bytes) 1 at
foreign_first bytes at passed within is =
    let whole = at_place bytes false at passed within ∙ bare_other (get_or bytes at 0) (drop (at + 1) bytes) (isnt_semicolon (get_or bytes at 0) Foreign is (λ other. absurd (cc other))) in
    let here : get_or (bare bytes) at 0 ≡ get_or bytes at 0 = cc whole in
    record {
      is = (refl, (omega (arith, length-bare_from false bytes, within), ap class_of here ∙ is));
      least = λ kind place fault. elim (cases_lt place at) [
        | inl before ↦ absurd (passed.allowed place before fault.1)
        | inr behind ↦ behind
      ];
    }

pub passed_all : (bytes : List ℕ) (inside : Bool) (at : ℕ) → IsPassed bytes inside at → length bytes ≤ at → HasNone (ByteFault bytes)
passed_all bytes inside at passed end kind place fault = passed.allowed place (omega (arith, fault.1.0, length-bare_from false bytes, end)) fault.1

-- another word for whether a comment is open
pub passed_at : (bytes : List ℕ) (inside known : Bool) (at : ℕ) → inside ≡ known → IsPassed bytes inside at → IsPassed bytes known at
passed_at bytes inside known at is passed = subst (λ (t : Bool). IsPassed bytes t at) is passed
