-- Clauses that are listed stay so while numbers stay in their lists.
use Rattle.std.proofs.Common.{◌≡◌, ℕ, Bool, true, false, cond, List, [], ◌∷◌, refl, sym, ap, subst, ◌∙◌}
use Rattle.std.specs.Prelude.{Result, Ok, Err, OnOk}
use Rattle.std.specs.declared.alloc.AllocError.{AllocError}
use Rattle.std.specs.List.{Contains}
use Rattle.formula.specs.declared.atom.Lit.{Lit}
use Rattle.clause_index.specs.Places.{Places, at_place, listed, IsListed, Stay, Keeps}

listed_stays : (old new : Places) → Stay old.positive new.positive → Stay old.negative new.negative → (sign : Bool) (b n : ℕ)
    → Contains (cond sign (at_place old.positive b) (at_place old.negative b)) n → Contains (cond sign (at_place new.positive b) (at_place new.negative b)) n
listed_stays old new p q true b n c = p b n c
listed_stays old new p q false b n c = q b n c

lists_keep : (old new : Places) → Stay old.positive new.positive → Stay old.negative new.negative → Keeps old new
lists_keep old new p q number [] found = tt
lists_keep old new p q number (l ∷ ls) found = (found.0, found.1, listed_stays old new p q found.0.pos found.0.boolean number found.2)

pub stay_self : (lists : List (List ℕ)) → Stay lists lists
stay_self lists place n c = c

-- the list of a literal by its sign
pub listed_positive : (p : Places) (l : Lit) → l.pos ≡ true → listed p l ≡ at_place p.positive l.boolean
listed_positive p l e = ap (λ (t : Bool). cond t (at_place p.positive l.boolean) (at_place p.negative l.boolean)) e

pub listed_negative : (p : Places) (l : Lit) → l.pos ≡ false → listed p l ≡ at_place p.negative l.boolean
listed_negative p l e = ap (λ (t : Bool). cond t (at_place p.positive l.boolean) (at_place p.negative l.boolean)) e

-- a clause with a literal under which it stands
pub put_listed : (p : Places) (number : ℕ) (c : List Lit) (l : Lit) → Contains c l → Contains (listed p l) number → IsListed p number c
put_listed p number [] l has there = tt
put_listed p number (m ∷ c) l has there = (l, has, there)

abbrev pub places : List (List ℕ) → List (List ℕ) → Bool → Places
places p n e = record { positive = p; negative = n; empty = e }

-- of an index whose lists are these
pub keeps : (old : Places) (p n p2 n2 : List (List ℕ)) (e : Bool) → places p n e ≡ old → Stay p p2 → Stay n n2 → Keeps old (places p2 n2 e)
keeps old p n p2 n2 e is s t = subst (λ (x : Places). Keeps x (places p2 n2 e)) is (lists_keep (places p n e) (places p2 n2 e) s t)

pub listed_where : (r : Result (Unit {0}) AllocError) (p : Places) (number : ℕ) (c : List Lit) (l : Lit) → Contains c l → OnOk r (Contains (listed p l) number) → OnOk r (IsListed p number c)
listed_where (Ok done) p number c l has h = put_listed p number c l has h
listed_where (Err e) p number c l has h = tt

-- what is in one list is in another that is equal
pub on_listed : (r : Result (Unit {0}) AllocError) (xs ys : List ℕ) (n : ℕ) → ys ≡ xs → OnOk r (Contains xs n) → OnOk r (Contains ys n)
on_listed r xs ys n e h = subst (λ (zs : List ℕ). OnOk r (Contains zs n)) (sym e) h
