-- The two sides of a comparison, the left one first.
use Rattle.std.proofs.Common.{◌≡◌, ℕ, cond, List, [], ◌∷◌, ◌++◌, Option, Some, None, Result, refl, sym, ap, ap₂, subst, ◌∙◌, append_assoc}
use Rattle.std.specs.Prelude.{is_some}
use Rattle.frac128.specs.declared.operations.Wide.{Wide}
use Rattle.lin.specs.declared.failure.LinFail.{LinFail}
use Rattle.lin.specs.Operations.{AllFit, IsFirstPassing, IsRefusal, AnswersInMemory}
use Rattle.lin.proofs.Leading.{left-start, left-first, refused_more}
use Rattle.pddl_task.specs.declared.condition.Rel.{Rel}
use Rattle.pddl_task.specs.declared.effect.Effect.{Effect}
use Rattle.pddl_task.specs.declared.effect.Effect.TheVariants as effect
use Rattle.pddl_task.specs.declared.effect.NumOp.{NumOp}
use Rattle.pddl_task.specs.declared.expression.Expr.{Expr}
use Rattle.pddl_task.specs.declared.expression.Term.{Term}
use Rattle.plan_step.specs.Meaning.{objects_of}
use Rattle.ground_numbers.specs.declared.named.Named.{Named}
use Rattle.ground_numbers.specs.Numbers.{named, same, number_in}
use Rattle.ground_action.specs.Setting.{Setting}
use Rattle.ground_action.specs.Parts.{Outcome, ends, bent, part, part_of}
use Rattle.ground_action.specs.Work.{work_of, is_part, sides_ops, effect_ops}
use Rattle.ground_action.proofs.WorkLaws.{work_is}
use Rattle.ground_parts.specs.declared.part.Part.{Part as Form}
use Rattle.ground_parts.specs.Forms.{part_made}
use Rattle.ground_draft.specs.declared.leaves.Leaf.TheVariants.{Sides}
use Rattle.ground_draft.specs.declared.moves.Move.{Move}
use Rattle.ground_draft.specs.inside.Made.{sides_made, acts_made, on_func, move_made}

pub fit_append : (os ps : List Wide) → AllFit os → AllFit ps → AllFit (os ++ ps)
fit_append [] ps h g = g
fit_append (o ∷ os) ps h g = (h.0, fit_append os ps h.1 g)

pub refused_front : (os ps : List Wide) (e : LinFail) → IsRefusal os e → IsRefusal (os ++ ps) e
refused_front os ps e h = refused_more os (os ++ ps) e (λ w g. left-first w os ps (os ++ ps) (left-start (os ++ ps)) g) h

pub refused_behind : (os ps : List Wide) (e : LinFail) → AllFit os → IsRefusal ps e → IsRefusal (os ++ ps) e
refused_behind os ps e f h = refused_more ps (os ++ ps) e first h
  where
    first : (w : Wide) → IsFirstPassing w ps → IsFirstPassing w (os ++ ps)
    first w g = record {
      front = os ++ g.front;
      behind = g.behind;
      place = ap (λ l. os ++ l) g.place ∙ sym (append_assoc os g.front (w ∷ g.behind));
      fit = fit_append os g.front f g.fit;
      passes = g.passes;
    }

part_some : (o : Outcome) → is_part o ≡ is_some (part_made o)
part_some ends = refl
part_some bent = refl
part_some (part p) = refl

module _ (set : Setting) (args : List ℕ) (rel : Rel) (left right : Expr) where
  abbrev front : List Wide
  front = (work_of set args left).ops

  abbrev behind : List Wide
  behind = (work_of set args right).ops

  abbrev first : Option Form
  first = part_made (work_of set args left).outcome

  abbrev second : Option Form
  second = part_made (work_of set args right).outcome

  is_made : (o : Option Form) → o ≡ first → is_part (part_of set args left) ≡ is_some o
  is_made o e = ap is_part (sym (work_is set args left)) ∙ part_some (work_of set args left).outcome ∙ ap is_some (sym e)

  ops_at : (o : Option Form) → o ≡ first → sides_ops set args left right ≡ front ++ cond (is_some o) behind []
  ops_at o e = ap (λ b. front ++ cond b behind []) (is_made o e)

  pub none_left : AllFit front → None ≡ first → AllFit (sides_ops set args left right) × (None ≡ sides_made rel first second)
  none_left f e = (subst AllFit (sym (ops_at None e)) (fit_append front [] f tt), ap (λ o. sides_made rel o second) e)

  pub refused_left : (e : LinFail) → IsRefusal front e → IsRefusal (sides_ops set args left right) e
  refused_left e h = refused_front front _ e h

  module _ (p : Form) (f : AllFit front) (e : Some p ≡ first) where
    pub none_right : AllFit behind → None ≡ second → AllFit (sides_ops set args left right) × (None ≡ sides_made rel first second)
    none_right g d = (subst AllFit (sym (ops_at (Some p) e)) (fit_append front behind f g), ap₂ (λ o q. sides_made rel o q) e d)

    pub refused_right : (x : LinFail) → IsRefusal behind x → IsRefusal (sides_ops set args left right) x
    refused_right x h = let P : List Wide → Type 0 = λ ops. IsRefusal ops x in subst P (sym (ops_at (Some p) e)) (refused_behind front behind x f h)

    pub both_sides : (q : Form) → AllFit behind → Some q ≡ second → AllFit (sides_ops set args left right) × (Some (Sides rel p q) ≡ sides_made rel first second)
    both_sides q g d = (subst AllFit (sym (ops_at (Some p) e)) (fit_append front behind f g), ap₂ (λ o u. sides_made rel o u) e d)

module _ (set : Setting) (atoms : List Named) (args : List ℕ) where
  change_is : (o : NumOp) (func : ℕ) (terms said : List Term) (by : Expr) (r : Result (Option Move) LinFail) → said ≡ terms
      → AnswersInMemory (work_of set args by).ops (on_func (number_in same set.funcs (named func (objects_of args said))) (acts_made o (part_made (work_of set args by).outcome))) r
      → AnswersInMemory (effect_ops set args (effect.Change o func terms by)) (move_made set atoms args (effect.Change o func terms by)) r
  change_is o func terms said by r same_terms h =
      let P : List Term → Type 0 = λ ts. AnswersInMemory (work_of set args by).ops (on_func (number_in same set.funcs (named func (objects_of args ts))) (acts_made o (part_made (work_of set args by).outcome))) r in
      subst P same_terms h

  pub change_answers : (e : Effect) (o : NumOp) (func : ℕ) (terms said : List Term) (by : Expr) (r : Result (Option Move) LinFail) → e ≡ effect.Change o func terms by → said ≡ terms
      → AnswersInMemory (work_of set args by).ops (on_func (number_in same set.funcs (named func (objects_of args said))) (acts_made o (part_made (work_of set args by).outcome))) r
      → AnswersInMemory (effect_ops set args e) (move_made set atoms args e) r
  change_answers e o func terms said by r is same_terms h =
      let P : Effect → Type 0 = λ x. AnswersInMemory (effect_ops set args x) (move_made set atoms args x) r in
      subst P (sym is) (change_is o func terms said by r same_terms h)
