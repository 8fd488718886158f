-- The touches of a step tell the state before it.
use Rattle.std.proofs.Common.{◌≡◌, ℕ, List, map, sym, ap, subst, ◌∙◌}
use Rattle.pddl_task.specs.declared.effect.Effect.{Effect}
use Rattle.plan_step.specs.declared.touches.Touch.{Touch}
use Rattle.plan_step.specs.State.{PlanState}
use Rattle.plan_step.specs.Held.{Held, state_of}
use Rattle.plan_step.specs.Places.{KeepsPlaces}
use Rattle.plan_step.specs.Touches.{Target, target_of, target_in, EachTouch, IsKept, HasPlace, DiffersIn}
use Rattle.plan_step.specs.inside.Touching.{AreTouches}
use Rattle.plan_step.specs.Undoing.{WasBefore}
use Rattle.plan_step.proofs.Placing.{place_among}
use Rattle.plan_step.proofs.Restoring.{differs_on}

pub was_before : (held placed new : Held) (args : List ℕ) (effs said_effs : List Effect) (touches said also : List Touch)
    → AreTouches (state_of held) args said_effs touches → said_effs ≡ effs → said ≡ touches → also ≡ touches → state_of placed ≡ state_of held
    → EachTouch (HasPlace placed) said → KeepsPlaces placed new → DiffersIn (map target_of also) (state_of placed) (state_of new)
    → WasBefore (map (target_in args) effs) (state_of held) new touches
was_before held placed new args effs said_effs touches said also sound leaves same alike placed_same places keeps differs =
    let P : List Touch → Type 0 = λ ts. EachTouch (HasPlace placed) ts in
    let Q : List Target → Type 0 = λ ts. DiffersIn ts (state_of placed) (state_of new) in
    let R : PlanState → Type 0 = λ s. DiffersIn (map (target_in args) effs) s (state_of new) in
    let targets : map target_of touches ≡ map (target_in args) effs = sound.targets ∙ ap (map (target_in args)) leaves in
    record {
      targets_are = targets;
      kept = sound.kept;
      places = place_among placed new touches (subst P same places) keeps;
      differs = subst R placed_same (subst Q (ap (map target_of) alike ∙ targets) differs);
    }

module _ (targets : List Target) (old : PlanState) (between after : Held) (touches said : List Touch) (before : WasBefore targets old between touches) (same : said ≡ touches) where
  -- what is touched again has its place
  pub places_on : KeepsPlaces between after → EachTouch (HasPlace after) said
  places_on keeps =
      let P : List Touch → Type 0 = λ ts. EachTouch (HasPlace after) ts in
      subst P (sym same) (place_among between after touches before.places keeps)

  -- what the touches keep undoes all that touches the same
  pub undo_all : (new : PlanState) → DiffersIn targets (state_of between) (state_of after)
      → ((s : PlanState) → EachTouch (IsKept s) said → DiffersIn (map target_of said) s (state_of after) → new ≡ s) → new ≡ old
  undo_all new differs restored =
      let P : List Touch → Type 0 = λ ts. EachTouch (IsKept old) ts in
      let Q : List Target → Type 0 = λ ts. DiffersIn ts old (state_of after) in
      restored old (subst P (sym same) before.kept) (subst Q (sym (ap (map target_of) same ∙ before.targets_are)) (differs_on targets old (state_of between) (state_of after) before.differs differs))
