-- An answer behind operations that all fit.
use Rattle.std.proofs.Common.{◌≡◌, List, ◌++◌, Option, Some, Result, Ok, Err, subst}
use Rattle.frac128.specs.declared.operations.Wide.{Wide}
use Rattle.lin.specs.declared.failure.LinFail.{LinFail}
use Rattle.lin.specs.Operations.{AllFit, AnswersInMemory}
use Rattle.ground_draft.proofs.Both.{fit_append, refused_behind}

pub then_answers : {T : Type 0} (xs ys : List Wide) (v : T) (r : Result T LinFail) → AllFit xs → AnswersInMemory ys v r → AnswersInMemory (xs ++ ys) v r
then_answers xs ys v (Ok x) f h = (fit_append xs ys f h.0, h.1)
then_answers xs ys v (Err e) f h = refused_behind xs ys e f h

-- where it is the answer of what is there
pub some_answers : {A T : Type 0} (f : Option A → List Wide) (g : Option A → T) (o : Option A) (x : A) (xs : List Wide) (r : Result T LinFail) → Some x ≡ o → AllFit xs → AnswersInMemory (f (Some x)) (g (Some x)) r → AnswersInMemory (xs ++ f o) (g o) r
some_answers {A} f g o x xs r e fit h = let P : Option A → Type 0 = λ p. AnswersInMemory (xs ++ f p) (g p) r in subst P e (then_answers xs (f (Some x)) (g (Some x)) r fit h)
