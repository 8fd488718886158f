-- The formula that is made is the formula of n copies.
use Rattle.std.proofs.Common.{◌≡◌, ℕ, suc, ◌+◌, ◌<◌, List, [], length, sym, subst, ◌∙◌, arith}
use Rattle.std.specs.Prelude.{Result, Ok, Err}
use Rattle.std.specs.List.{All, Contains}
use Rattle.std.proofs.lemmas.List.Elements.{All-weaker, All-contains_itself}
use Rattle.frac128.specs.declared.operations.Wide.{Wide}
use Rattle.lin.specs.declared.failure.LinFail.{LinFail}
use Rattle.lin.specs.declared.failure.LinFail.TheVariants as fail
use Rattle.task_core.specs.Task.{GroundParts, start}
use Rattle.pattern.specs.Pattern.{IsPattern}
use Rattle.formula.specs.Contents.{Contents}
use Rattle.encode_rows.specs.declared.symbols.Symbols.{Symbols}
use Rattle.encode_laws.specs.Rows.{Item}
use Rattle.encode_laws.specs.Symbolic.{symbolic_start}
use Rattle.encode_laws.specs.Encoding.{copies, occurrences, items_of, formula_of}
use Rattle.encode_laws.specs.Refusals.{operations_of, AllNamedFit, IsNamedPassing}
use Rattle.encode_laws.specs.Made.{nothing_made}
use Rattle.encode_laws.proofs.MadeFormula.{named-are, contents-are}
use Rattle.encode.specs.Answer.{refusal_of, EncodeAnswers}
use Rattle.encode_rows.specs.Standing.{Makes}
use Rattle.encode.specs.inside.Starting.{AreAtStart}
use Rattle.encode.specs.inside.Copying.{actions_of, MakesAll}
use Rattle.encode.proofs.StartingLaws.{start-next}
use Rattle.encode.proofs.CopyingLaws.{rows-in-turn}

module _ (task : GroundParts) (pattern : List ℕ) (n : ℕ) where
  module _ (s : Symbols) (f g : Contents) (at : AreAtStart task s) (empty : f ≡ record { counts = []; atoms = []; clauses = [] }) where
    whole : {X : Type 0} (r : Result X LinFail) → MakesAll (actions_of task (copies n pattern)) task.goal f s g r → Makes (items_of task pattern n) nothing_made g r
    whole r p = subst (λ (xs : List Item). Makes xs nothing_made g r) (rows-in-turn 0 (occurrences task pattern n) task.goal (symbolic_start (start task))) (p nothing_made 0 (symbolic_start (start task)) (start-next task s f at empty))

    pub encoded : (X : Type 0) (x : X) → MakesAll {X = X} (actions_of task (copies n pattern)) task.goal f s g (Ok x) → AllNamedFit (operations_of task pattern n) × (g ≡ formula_of task pattern n)
    encoded X x p = let h = whole {X = X} (Ok x) p in (subst AllNamedFit (named-are task pattern n) h.0, h.1.contents ∙ contents-are task pattern n)

    pub refused : (X : Type 0) (e : LinFail) → MakesAll {X = X} (actions_of task (copies n pattern)) task.goal f s g (Err e) → EncodeAnswers task pattern n (Err (refusal_of (length g.clauses) e))
    refused X (fail.Wide w) p =
        let h = whole {X = X} (Err (fail.Wide w)) p in
        let r : length g.clauses + 1 ≡ suc (length g.clauses) = omega arith in
        subst (λ (k : ℕ). IsNamedPassing (operations_of task pattern n) k w) (sym r) (subst (λ (os : List (ℕ × Wide)). IsNamedPassing os (suc (length g.clauses)) w) (named-are task pattern n) h)
    refused X fail.Memory p = tt

pub pattern-places : (task : GroundParts) (ps : List ℕ) → IsPattern task ps → All (λ p. p < length task.actions) ps
pattern-places task ps h = All-weaker (Contains ps) (λ p. p < length task.actions) (λ p c. ((h.supported p).0 c).0) ps (All-contains_itself ps)
