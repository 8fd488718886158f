-- Lines that are printed one after another.
use Rattle.std.proofs.Common.{◌≡◌, ℕ, ◌+◌, ◌<◌, List, [], ◌∷◌, ◌++◌, length, take, drop, get_or, Option, Result, Err, refl, sym, ◌∙◌, ap, subst, append_assoc, take-append-drop}
use Rattle.std.proofs.lemmas.List.{drop_more, take_more, append-nil}
use Rattle.std.specs.Io.KnownBytes.{Appends}
use Rattle.patty_io.specs.Sink.{PutFails, PutCounts}
use Rattle.patty_io.specs.declared.sink.SinkFail.{SinkFail}
use Rattle.patty_io.specs.declared.sink.SinkFail.TheVariants as fail
use Rattle.patty_run.specs.Printed.{joined, AppendsFront, StopsPrinting}
use Rattle.patty_run.proofs.PrintLaws.{appends_more, appends_none}

pub joined-append : (xs ys : List (List ℕ)) → joined (xs ++ ys) ≡ joined xs ++ joined ys
joined-append [] ys = refl
joined-append (x ∷ xs) ys = ap (λ (l : List ℕ). x ++ l) (joined-append xs ys) ∙ sym (append_assoc x (joined xs) (joined ys))

module _ (old mid new : Option (List ℕ)) (lines : List (List ℕ)) (i : ℕ) (d text : List ℕ) (within : i < length lines) (here : text ≡ get_or lines i d)
    (so_far : Appends old mid (joined (take i lines))) where
  joined_at : joined lines ≡ joined (take i lines) ++ (text ++ joined (drop (i + 1) lines))
  joined_at = ap joined (sym (take-append-drop i lines) ∙ ap (λ (l : List (List ℕ)). take i lines ++ l) (drop_more lines i d within))
      ∙ joined-append (take i lines) (get_or lines i d ∷ drop (i + 1) lines)
      ∙ ap (λ (l : List ℕ). joined (take i lines) ++ (l ++ joined (drop (i + 1) lines))) (sym here)

  joined_more : joined (take (i + 1) lines) ≡ joined (take i lines) ++ text
  joined_more = ap joined (take_more lines i d within)
      ∙ joined-append (take i lines) (get_or lines i d ∷ [])
      ∙ ap (λ (l : List ℕ). joined (take i lines) ++ l) (append-nil (get_or lines i d) ∙ sym here)

  put_front : (n : ℕ) → Appends mid new (take n text) → AppendsFront old new (joined lines)
  put_front n last = record {
    front = joined (take i lines) ++ take n text;
    rest = drop n text ++ joined (drop (i + 1) lines);
    split = joined_at
        ∙ ap (λ (l : List ℕ). joined (take i lines) ++ (l ++ joined (drop (i + 1) lines))) (sym (take-append-drop n text))
        ∙ ap (λ (l : List ℕ). joined (take i lines) ++ l) (append_assoc (take n text) (drop n text) (joined (drop (i + 1) lines)))
        ∙ sym (append_assoc (joined (take i lines)) (take n text) (drop n text ++ joined (drop (i + 1) lines)));
    added = appends_more old mid new _ _ so_far last;
  }

  pub put_more : Appends mid new text → Appends old new (joined (take (i + 1) lines))
  put_more last = subst (λ (l : List ℕ). Appends old new l) (sym joined_more) (appends_more old mid new _ _ so_far last)

  -- a call that failed
  pub put_stops : (before after : ℕ) (e : SinkFail) → PutFails e mid new text → PutCounts {T = Unit {0}} before after (Err e)
      → AppendsFront old new (joined lines) × StopsPrinting e (record { written_before = old; written = new; failed_before = before; failed = after })
  put_stops before after fail.Failed fails counts = (put_front fails.0 fails.1, counts)
  put_stops before after fail.Memory fails counts = (put_front 0 (appends_none mid new fails), counts)
