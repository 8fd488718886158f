-- Which operation passes first, where operations are made in turn.
use Rattle.std.proofs.Common.{◌≡◌, List, [], ◌∷◌, ◌++◌, sym, ap, subst, ◌∙◌}
use Rattle.std.specs.Prelude.{Result, Ok, Err}
use Rattle.rational.specs.Fraction.{Fraction}
use Rattle.frac128.specs.Operations.{Passes}
use Rattle.frac128.specs.declared.operations.Op.{Op}
use Rattle.frac128.specs.declared.operations.Wide.{Wide}
use Rattle.lin.specs.declared.failure.LinFail.{LinFail}
use Rattle.lin.specs.Operations.{AllFit, IsFirstPassing, IsRefusal, AnswersInMemory}
use Rattle.lin.proofs.Leading.{left-start, left-first, refused_more}

pub fit_append : (os ps : List Wide) → AllFit os → AllFit ps → AllFit (os ++ ps)
fit_append [] ps h g = g
fit_append (o ∷ os) ps h g = (h.0, fit_append os ps h.1 g)

-- an operation that passes is the first of those that begin with it
pub passes-first : (op : Op) (x y a b : Fraction) (w : Wide) (ops : List Wide) → a ≡ x → b ≡ y → Passes op a b → w ≡ record { op = op; x = a; y = b } → IsFirstPassing w (record { op = op; x = x; y = y } ∷ ops)
passes-first op x y a b w ops e f p g =
    let same : w ≡ record { op = op; x = x; y = y } = g ∙ ap (λ (u : Fraction). record { op = op; x = u; y = b }) e ∙ ap (λ (u : Fraction). record { op = op; x = x; y = u }) f in
    record {
      front = [];
      behind = ops;
      place = ap (λ (o : Wide). o ∷ ops) (sym same);
      fit = tt;
      passes = subst (λ (o : Wide). Passes o.op o.x o.y) (sym g) p;
    }

-- behind operations that fit
pub passes-behind : (os ops : List Wide) (w : Wide) → AllFit os → IsFirstPassing w ops → IsFirstPassing w (os ++ ops)
passes-behind [] ops w f h = h
passes-behind (o ∷ os) ops w f h =
    let r = passes-behind os ops w f.1 h in
    record { front = o ∷ r.front; behind = r.behind; place = ap (λ (xs : List Wide). o ∷ xs) r.place; fit = (f.0, r.fit); passes = r.passes }

-- in front of others
pub passes-before : (os ops : List Wide) (w : Wide) → IsFirstPassing w os → IsFirstPassing w (os ++ ops)
passes-before os ops w h = left-first w os ops (os ++ ops) (left-start (os ++ ops)) h

pub refused-before : (os ops : List Wide) (e : LinFail) → IsRefusal os e → IsRefusal (os ++ ops) e
refused-before os ops e h = refused_more os (os ++ ops) e (λ w f. passes-before os ops w f) h

pub refused-behind : (os ops : List Wide) (e : LinFail) → AllFit os → IsRefusal ops e → IsRefusal (os ++ ops) e
refused-behind os ops e f h = refused_more ops (os ++ ops) e (λ w g. passes-behind os ops w f g) h

pub answers-behind : {T : Type 0} (os ops : List Wide) (value : T) (r : Result T LinFail) → AllFit os → AnswersInMemory ops value r → AnswersInMemory (os ++ ops) value r
answers-behind os ops value (Ok x) f h = (fit_append os ops f h.0, h.1)
answers-behind os ops value (Err e) f h = refused-behind os ops e f h
