use Rattle.std.proofs.Common.{◌≡◌, ℕ, ◌<◌, ◌||◌, Bool, false, List, length, sym, ap, ◌∙◌, slice_index_or, below_more, arith, length-set, Option}
use Rattle.relaxed.specs.Layers.{is_supported}
use Rattle.relaxed.specs.inside.Kept.{layer_of}
use Rattle.relaxed.specs.inside.Nexting.{action_in}
use Rattle.relaxed.specs.inside.Testing.{flag_in}
use Rattle.relaxed.proofs.NextSteps.{action-is}
use Rattle.relaxed.proofs.TestSteps.{flag-next, flag-left, first-next, first-left, test-fails, tests_fit}
use Rattle.relaxed.proofs.testing.test_actions.Goals as goal

pub returns-in-Err-clause-fails : goal.returns-in-Err-clause-fails
returns-in-Err-clause-fails c =
    let i = c.loop-i.i in
    let below : i < length c.args.actions.now = omega arith in
    test-fails c.args.layer (layer_of c.args.table.now) c.args.actions.now c.args.flags.now i c.index-actions-i.result _ c.in-Err.fail below
    (ap (λ (fs : List Bool). slice_index_or fs i false) c.as_slice.ensures ∙ c.loop-i.invariant.flag_left i (omega arith))
    (sym (action-is c.args.actions.now i c.index-actions-i.result below c.index-actions-i.is)) c.in-Err.ensures

pub loop-i-preserved : goal.loop-i-preserved
loop-i-preserved c =
    let i = c.loop-i.i in
    let y = layer_of c.args.table.now in
    let actions = c.args.actions.now in
    let old = c.args.flags.now in
    let inv = c.loop-i.invariant in
    let below : i < length actions = omega arith in
    let is = action-is actions i c.index-actions-i.result below c.index-actions-i.is in
    let seen : slice_index_or c.as_slice.result.now i false ≡ flag_in old i = ap (λ (fs : List Bool). slice_index_or fs i false) c.as_slice.ensures ∙ inv.flag_left i (omega arith) in
    let told : c.in-Ok.supported ≡ (flag_in old i || is_supported y (action_in actions i)) =
    c.in-Ok.ensures.1 ∙ ap (λ b. b || is_supported y c.index-actions-i.result) seen ∙ ap (λ a. flag_in old i || is_supported y a) (sym is) in
    let size = inv.flag_size in
    let first_size = inv.first_size in
    let required = c.requires.flag_each in
    let first_required = c.requires.first_each in
    let room : i < length c.loop-i.flags = omega arith in
    let first_room : i < length c.loop-i.first = omega arith in
    let value = λ (n : ℕ). is_supported y (action_in actions n) in
    record {
      flag_size = ap (λ (fs : List Bool). length fs) c.note.ensures.flags ∙ length-set c.loop-i.flags i _ ∙ size;
      first_size = ap (λ (fs : List (Option ℕ)). length fs) c.note.ensures.first ∙ length-set c.loop-i.first i _ ∙ first_size;
      flag_each = flag-next old c.loop-i.flags c.note.new.flags i c.in-Ok.supported value room c.note.ensures.flags told inv.flag_left inv.flag_each;
      first_each = first-next old c.loop-i.flags c.args.first.now c.loop-i.first c.note.new.first i c.args.layer c.in-Ok.supported value first_room c.note.ensures.first told
          (inv.flag_left i (omega arith)) inv.first_left inv.first_each;
      flag_left = flag-left old c.loop-i.flags c.note.new.flags i c.in-Ok.supported value room c.note.ensures.flags told inv.flag_left;
      first_left = first-left old c.loop-i.flags c.args.first.now c.loop-i.first c.note.new.first i c.args.layer c.in-Ok.supported value first_room c.note.ensures.first told
          (inv.flag_left i (omega arith)) inv.first_left;
      fits = below_more _ _ inv.fits (tests_fit y old i c.index-actions-i.result (action_in actions i) _ seen (sym is) c.in-Ok.ensures.0);
    }
