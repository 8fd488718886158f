use Rattle.std.proofs.Common.{◌≢◌, get_or, sym, ◌∙◌, ap, List, ℕ, arith}
use Rattle.plan_text.proofs.Counts.{count_digits, zero_refused, large_refused, small_taken, parsed_value, unparsed_large}
use Rattle.plan_text.proofs.count.find_count.Goals as goal

pub returns-then-as_bytes-eq48 : goal.returns-then-as_bytes-eq48
returns-then-as_bytes-eq48 c = zero_refused c.args.digits.now (ap (λ (l : List ℕ). get_or l 0 0) (sym c.as_bytes.ensures.value) ∙ c.if-as_bytes-eq48.true)

pub returns-then-count-le-MOST : goal.returns-then-count-le-MOST
returns-then-count-le-MOST c =
    let ds = c.args.digits.now in
    let value = parsed_value ds _ c.in-Ok.count (count_digits ds c.requires).1 c.parse.ensures.value.0 c.in-Ok.is in
    let other : get_or ds 0 0 ≢ 48 = λ is. c.if-as_bytes-eq48.false (ap (λ (l : List ℕ). get_or l 0 0) c.as_bytes.ensures.value ∙ is) in
    small_taken ds c.in-Ok.count other value (omega (arith, c.if-count-le-MOST.true))

pub returns-else-count-le-MOST : goal.returns-else-count-le-MOST
returns-else-count-le-MOST c =
    let ds = c.args.digits.now in
    let value = parsed_value ds _ c.in-Ok.count (count_digits ds c.requires).1 c.parse.ensures.value.0 c.in-Ok.is in
    large_refused ds (omega (arith, value, c.if-count-le-MOST.false))

pub returns-in-Err : goal.returns-in-Err
returns-in-Err c =
    let ds = c.args.digits.now in
    let digits = count_digits ds c.requires in
    large_refused ds (unparsed_large ds _ _ digits.0 digits.1 c.parse.ensures.value.0 c.in-Err.is)
