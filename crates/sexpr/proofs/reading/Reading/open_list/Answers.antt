use Rattle.std.proofs.Common.{◌≡◌, ◌==◌, length, false, None, refl, sym, ◌∙◌, arith}
use Rattle.std.proofs.lemmas.Bool.Decides.{nat_tests}
use Rattle.sexpr.proofs.Levels.{not_some}
use Rattle.sexpr.proofs.reading.Reading.open_list.Goals as goal
use Rattle.sexpr.proofs.reading.Reading.open_list.Goals.{else-is_empty-via-then-is_empty+else-is_some, else-is_empty-via-else-is_empty}

pub returns : goal.returns
returns c =
    let lists = c.args.self.now.lists in
    let first : length lists.items ≡ 0 → c.args.self.now.whole ≡ None = λ none. elim c.else-is_empty.branch [
      | else-is_empty-via-then-is_empty+else-is_some w ↦ not_some c.args.self.now.whole (sym w.is_some.ensures ∙ w.if-is_some.false)
      | else-is_empty-via-else-is_empty w ↦
          let some : (lists.len == 0) ≡ false = sym c.is_empty.ensures ∙ w.if-is_empty.false in
          absurd (grind (arith, nat_tests, some, none, lists.ok.0))
    ] in
    record {
      level = record { start = c.args.at; items = c.new.result };
      is = c.in_ok-push.ensures.items;
      starts = refl;
      empty = c.new.ensures.items;
      same_whole = refl;
      room = omega (arith, c.if-len-ge-DEEPEST.false, c.len.ensures, lists.ok.0);
      first = first;
    }
