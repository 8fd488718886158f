use Rattle.std.proofs.Common.{ℕ, ◌+◌, [], length, map, refl, sym, ap, ◌∙◌, arith}
use Rattle.std.proofs.lemmas.List.{get_or-map, length-map}
use Rattle.tableau.specs.inside.Basis.{numbers_of}
use Rattle.tableau.proofs.TableFacts.{items}
use Rattle.tableau.proofs.Dense.{below_more}
use Rattle.tableau.proofs.Starting.{first_tidy, first_tableau, first_shape}
use Rattle.tableau.proofs.tableau.Tableau.new.Goals as goal

pub first_rows-requires : goal.first_rows-requires
first_rows-requires c k d l = below_more c.args.vars (c.args.vars + length c.args.rows.now) (omega arith) _ (c.requires.below k d l)

pub first_rows-requires-2 : goal.first_rows-requires-2
first_rows-requires-2 c k d l = below_more c.args.vars (c.args.vars + length c.args.rows.now) (omega arith) _ (c.requires.below k d l)

pub returns : goal.returns
returns c =
    first_tableau c.args.vars (c.args.vars + length c.args.rows.now) c.args.rows.now (map items c.in_ok-first.first.items) c.in_ok-basic.basic.items _ refl refl c.in_ok-first.ensures c.in_ok-basic.ensures c.requires.below

pub invariant_of-result : goal.invariant_of-result
invariant_of-result c =
    let n : ℕ = c.args.vars + length c.args.rows.now in
    let b = c.in_ok-basic.ensures.long in
    record {
      rows = sym (length-map c.in_ok-first.first.items items) ∙ c.in_ok-first.ensures.long ∙ sym b;
      each_row = λ i d h. sym (ap length (get_or-map items c.in_ok-first.first.items i d [] h))
          ∙ first_shape c.args.vars n c.args.rows.now (map items c.in_ok-first.first.items) c.in_ok-basic.basic.items refl c.in_ok-first.ensures c.in_ok-basic.ensures i (omega (arith, length-map c.in_ok-first.first.items items));
      next = sym (length-map c.in_ok-next.next.items items) ∙ c.in_ok-next.ensures.long ∙ sym b;
      each_next = λ i d h. sym (ap length (get_or-map items c.in_ok-next.next.items i d [] h))
          ∙ first_shape c.args.vars n c.args.rows.now (map items c.in_ok-next.next.items) c.in_ok-basic.basic.items refl c.in_ok-next.ensures c.in_ok-basic.ensures i (omega (arith, length-map c.in_ok-next.next.items items));
      solved = c.in_ok-solved.ensures.0 ∙ sym b;
      basis = c.in_ok-basis.ensures ∙ ap numbers_of c.deref.ensures.value;
      tidy = first_tidy c.args.vars n c.args.rows.now (map items c.in_ok-first.first.items) c.in_ok-basic.basic.items _ refl refl c.in_ok-first.ensures c.in_ok-basic.ensures c.requires.below;
    }
