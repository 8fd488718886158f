-- Clauses whose Booleans rise.
use Rattle.std.proofs.Common.{◌≡◌, ℕ, ◌<◌, ◌+◌, List, [], ◌∷◌, ◌++◌, arith}
use Rattle.std.specs.List.{All}
use Rattle.std.proofs.lemmas.List.Elements.{All-head, All-tail, All-push, All-nil}
use Rattle.formula.specs.declared.atom.Lit.{Lit}
use Rattle.clause_learn.specs.Learning.{IsRising}

pub low_more : (b : ℕ) (lits : List Lit) → All (λ m. m.boolean < b) lits → All (λ m. m.boolean < b + 1) lits
low_more b lits h k d lt = omega (arith, h k d lt)

pub low_push : (b : ℕ) (lits : List Lit) (l : Lit) → All (λ m. m.boolean < b) lits → l.boolean ≡ b → All (λ m. m.boolean < b + 1) (lits ++ l ∷ [])
low_push b lits l h e = All-push (λ m. m.boolean < b + 1) lits l (low_more b lits h) (omega (arith, e))

pub rising_push : (b : ℕ) (lits : List Lit) (l : Lit) → IsRising lits → All (λ m. m.boolean < b) lits → l.boolean ≡ b → IsRising (lits ++ l ∷ [])
rising_push b [] l r h e = (All-nil (λ (m : Lit). l.boolean < m.boolean), tt)
rising_push b (x ∷ lits) l r h e =
    let P : Lit → Type 0 = λ m. m.boolean < b in
    let low : x.boolean < b = All-head P x lits h in
    (All-push (λ (m : Lit). x.boolean < m.boolean) lits l r.0 (omega (arith, low, e)), rising_push b lits l r.1 (All-tail P x lits h) e)
