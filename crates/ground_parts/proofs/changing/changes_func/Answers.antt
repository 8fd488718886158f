use Rattle.std.proofs.Common.{ℕ, ◌≤◌, subst}
use Rattle.ground_parts.proofs.Calls.{unchanged}
use Rattle.ground_parts.proofs.changing.changes_func.Goals as goal

pub returns-then-func-funcs : goal.returns-then-func-funcs
returns-then-func-funcs c = unchanged _ _ c.funcs.ensures.numbered (let P : ℕ → Type 0 = λ n. n ≤ c.args.func in subst P c.funcs.ensures.value c.if-func-funcs.true)
