use Rattle.std.proofs.Common.{◌∷◌, [], ◌++◌, ◌+◌, List, Some, inl, inr, refl, ◌∙◌, ap}
use Rattle.sexpr.specs.declared.tree.Tree.{Tree}
use Rattle.sexpr.specs.declared.tree.Tree.TheVariants as tree
use Rattle.sexpr.proofs.Levels.{adds_last, none_left}
use Rattle.sexpr.proofs.reading.Reading.close_list.Goals as goal

pub returns-in_ok-push-in-Some-last_mut : goal.returns-in_ok-push-in-Some-last_mut
returns-in_ok-push-in-Some-last_mut c =
    let rest = c.pop.new.self in
    let around = c.in-Some-last_mut in
    let level = c.in-Some.field-0 in
    let same = c.in_ok-exact.ensures in
    record {
      around = rest.items;
      level = level;
      was = c.in-Some.ensures.items;
      is = inr (
        adds_last _ rest.items _ around.around.now _ rest.ok.0 (around.ensures.variant.0 refl) around.ensures.value refl
            (c.in_ok-push-in-Some-last_mut.ensures.items ∙ ap (λ (l : List Tree). around.around.now.items.items ++ tree.List level.start (c.args.at + 1) l ∷ []) same),
        refl,
      );
    }

pub returns-in-None : goal.returns-in-None
returns-in-None c =
    let rest = c.pop.new.self in
    let level = c.in-Some.field-0 in
    let none = none_left rest.items _ rest.ok.0 c.in-None.ensures.variant.1 in
    record {
      around = rest.items;
      level = level;
      was = c.in-Some.ensures.items;
      is = inl (none, none, ap (λ (l : List Tree). Some (tree.List level.start (c.args.at + 1) l)) c.in_ok-exact.ensures);
    }
