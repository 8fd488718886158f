-- The end of the pass over the tree.
use Rattle.std.proofs.Common.{◌≡◌, ℕ, false, ◌≤◌, List, [], ◌++◌, length, Option, Some, None, Ok, Err, Result, refl, sym, ◌∙◌, ap, subst, arith}
use Rattle.std.proofs.lemmas.List.{append-nil, drop_all}
use Rattle.sexpr.specs.declared.tree.Tree.{Tree}
use Rattle.sexpr.specs.declared.reading.Level.{Level}
use Rattle.sexpr.specs.declared.reading.Reading.{Reading}
use Rattle.sexpr.specs.declared.reading.Stop.{Stop}
use Rattle.sexpr.specs.declared.reading.Stop.TheVariants.{Paren, Deep, Memory}
use Rattle.sexpr.specs.Comments.{bare}
use Rattle.sexpr.specs.Tokens.{tokens}
use Rattle.sexpr.specs.Spelling.{tokens_of}
use Rattle.sexpr.specs.inside.Reached.{IsReadTo, IsCounted}
use Rattle.sexpr.specs.inside.Steps.{Finishes, ReadsTree}
use Rattle.sexpr.proofs.BareLaws.{length-bare_from}
use Rattle.sexpr.proofs.Counting.{first_end, no_tree_fault}
use Rattle.sexpr.proofs.Flattening.{read}

-- nothing is read at the start
pub read_none : (bytes : List ℕ) (whole : Option Tree) (lists : List Level) → whole ≡ None → lists ≡ [] → IsReadTo bytes whole lists 0
read_none bytes whole lists none empty =
    subst (λ (w : Option Tree). IsReadTo bytes w lists 0) (sym none) (subst (λ (l : List Level). IsReadTo bytes None l 0) (sym empty) (record {
      within = omega arith;
      no_comment = refl;
      no_word = λ before place in_word more. omega (arith, place);
      found = refl;
      counts = record { counted = refl; one_list = λ outer. refl; no_fault = λ place below fault. omega (arith, below) };
    }))

pub reads_tree : (bytes : List ℕ) (reading : Reading) (at : ℕ) (result : Result Tree Stop) → IsReadTo bytes reading.whole reading.lists.items at → length bytes ≤ at → Finishes at reading result → ReadsTree bytes result
reads_tree bytes reading at (Ok tree) so_far end done =
    let text = bare bytes in
    let same : length text ≡ length bytes = length-bare_from false bytes in
    let at_end : at ≡ length text = omega (arith, so_far.within, end, same) in
    let counts : IsCounted text (Some tree) 0 at =
    subst (λ (w : Option Tree). IsCounted text w 0 at) done.1 (subst (λ (n : ℕ). IsCounted text reading.whole n at) (ap length done.0) so_far.counts) in (
      no_tree_fault bytes tree at counts at_end,
      record {
        spelled = sym so_far.found
            ∙ ap (λ (l : List ℕ). read reading.whole reading.lists.items ++ tokens at l) (drop_all at text (omega (arith, at_end)))
            ∙ append-nil (read reading.whole reading.lists.items)
            ∙ ap (read reading.whole) done.0 ∙ ap (λ (w : Option Tree). read w []) done.1 ∙ append-nil (tokens_of tree);
        a_list = counts.one_list.2;
      },
    )
reads_tree bytes reading at (Err (Paren place)) so_far end done =
    subst (λ (n : ℕ). ReadsTree bytes (Err (Paren n))) (sym done.0)
    (first_end bytes reading.whole (length reading.lists.items) at so_far.counts (omega (arith, so_far.within, end, length-bare_from false bytes)) done.1)
reads_tree bytes reading at (Err (Deep place)) so_far end done = absurd done
reads_tree bytes reading at (Err Memory) so_far end done = tt
