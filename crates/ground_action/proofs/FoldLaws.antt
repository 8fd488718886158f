-- Two folds of an expression are related where their steps are.
use Rattle.std.proofs.Common.{sym, subst}
use Rattle.pddl_task.specs.declared.expression.Expr.{Expr}
use Rattle.pddl_task.specs.declared.expression.Expr.TheOpen.{Expr-F}
use Rattle.pddl_task.specs.declared.expression.Expr.TheFolds.{fold-Expr, fold-roll-Expr, ind-Expr, map-Expr}
use Rattle.pddl_task.specs.declared.expression.Expr.TheViews.{roll-Expr}

module _ {A B : Type 0} (f : Expr-F A → A) (g : Expr-F B → B) (R : A → B → Type 0) where
  abbrev pub AreRelated : Expr → Type 0
  AreRelated e = R (fold-Expr A f e) (fold-Expr B g e)

  abbrev pub parts_of : Expr-F ((e : Expr) × AreRelated e) → Expr-F Expr
  parts_of y = map-Expr ((e : Expr) × AreRelated e) Expr (λ p. p.0) y

  -- one step of each, from related parts
  abbrev pub AreSteps : Type 0
  AreSteps = (y : Expr-F ((e : Expr) × AreRelated e)) → R (f (map-Expr Expr A (fold-Expr A f) (parts_of y))) (g (map-Expr Expr B (fold-Expr B g) (parts_of y)))

  pub fold_related : AreSteps → (e : Expr) → R (fold-Expr A f e) (fold-Expr B g e)
  fold_related steps = ind-Expr AreRelated (λ x y is. let P : Expr-F Expr → Type 0 = λ d. AreRelated (roll-Expr d) in subst P is (rolled y))
    where
      rolled : (y : Expr-F ((e : Expr) × AreRelated e)) → AreRelated (roll-Expr (parts_of y))
      rolled y =
          let P : A → Type 0 = λ a. R a (g (map-Expr Expr B (fold-Expr B g) (parts_of y))) in
          let Q : B → Type 0 = λ b. R (fold-Expr A f (roll-Expr (parts_of y))) b in
          subst Q (sym (fold-roll-Expr B g (parts_of y))) (subst P (sym (fold-roll-Expr A f (parts_of y))) (steps y))
