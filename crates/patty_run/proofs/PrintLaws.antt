-- Lines that are printed one after another.
use Rattle.std.proofs.Common.{◌≡◌, ℕ, ◌+◌, ◌<◌, List, [], ◌∷◌, ◌++◌, length, map, take, drop, get_or, Option, Some, None, Bor, Result, Ok, inl, inr, refl, sym, ◌∙◌, ap, subst, Err, append_assoc, take-append-drop}
use Rattle.std.proofs.lemmas.List.{drop_more, take_more, append-nil, map-append}
use Rattle.std.specs.Io.KnownBytes.{Appends}
use Rattle.std.proofs.KnownBytes.{Appends-nil}
use Rattle.patty_io.specs.Sink.{Puts, PutFails, PutCounts}
use Rattle.patty_io.specs.declared.sink.SinkFail.{SinkFail}
use Rattle.patty_io.specs.declared.sink.SinkFail.TheVariants as fail
use Rattle.patty_run.specs.Outside.{Output}
use Rattle.patty_run.specs.Printed.{joined, AppendsFront, StopsPrinting, PutsAll, status_behind}
use Rattle.patty_run.specs.inside.Runs.{PrintsAs}

pub appends_more : (a b c : Option (List ℕ)) (x y : List ℕ) → Appends a b x → Appends b c y → Appends a c (x ++ y)
appends_more None b c x y first second = tt
appends_more (Some s) None c x y first second = absurd first
appends_more (Some s) (Some t) None x y first second = absurd second
appends_more (Some s) (Some t) (Some u) x y first second = second ∙ ap (λ (l : List ℕ). l ++ y) first ∙ append_assoc s x y

pub appends_none : (a b : Option (List ℕ)) → b ≡ a → Appends a b []
appends_none a b is = subst (λ (o : Option (List ℕ)). Appends a o []) (sym is) (Appends-nil a)

joined-append : (xs ys : List (List ℕ)) → joined (xs ++ ys) ≡ joined xs ++ joined ys
joined-append [] ys = refl
joined-append (x ∷ xs) ys = ap (λ (l : List ℕ). x ++ l) (joined-append xs ys) ∙ sym (append_assoc x (joined xs) (joined ys))

abbrev pub texts : List (Bor (List ℕ)) → List (List ℕ)
texts lines = map (λ r. r.now) lines

module _ (old mid new : Option (List ℕ)) (lines : List (Bor (List ℕ))) (i : ℕ) (d : Bor (List ℕ)) (text : List ℕ) (within : i < length lines) (here : text ≡ (get_or lines i d).now)
    (so_far : Appends old mid (joined (texts (take i lines)))) where
  joined_at : joined (texts lines) ≡ joined (texts (take i lines)) ++ (text ++ joined (texts (drop (i + 1) lines)))
  joined_at = ap (λ (l : List (Bor (List ℕ))). joined (texts l)) (sym (take-append-drop i lines) ∙ ap (λ (l : List (Bor (List ℕ))). take i lines ++ l) (drop_more lines i d within))
      ∙ ap (λ (l : List (List ℕ)). joined l) (map-append (λ (r : Bor (List ℕ)). r.now) (take i lines) (get_or lines i d ∷ drop (i + 1) lines))
      ∙ joined-append (texts (take i lines)) (texts (get_or lines i d ∷ drop (i + 1) lines))
      ∙ ap (λ (l : List ℕ). joined (texts (take i lines)) ++ (l ++ joined (texts (drop (i + 1) lines)))) (sym here)

  joined_more : joined (texts (take (i + 1) lines)) ≡ joined (texts (take i lines)) ++ text
  joined_more = ap (λ (l : List (Bor (List ℕ))). joined (texts l)) (take_more lines i d within)
      ∙ ap (λ (l : List (List ℕ)). joined l) (map-append (λ (r : Bor (List ℕ)). r.now) (take i lines) (get_or lines i d ∷ []))
      ∙ joined-append (texts (take i lines)) ((get_or lines i d).now ∷ [])
      ∙ ap (λ (l : List ℕ). joined (texts (take i lines)) ++ l) (append-nil (get_or lines i d).now ∙ sym here)

  pub put_front : (n : ℕ) → Appends mid new (take n text) → AppendsFront old new (joined (texts lines))
  put_front n last = record {
    front = joined (texts (take i lines)) ++ take n text;
    rest = drop n text ++ joined (texts (drop (i + 1) lines));
    split = joined_at
        ∙ ap (λ (l : List ℕ). joined (texts (take i lines)) ++ (l ++ joined (texts (drop (i + 1) lines)))) (sym (take-append-drop n text))
        ∙ ap (λ (l : List ℕ). joined (texts (take i lines)) ++ l) (append_assoc (take n text) (drop n text) (joined (texts (drop (i + 1) lines))))
        ∙ sym (append_assoc (joined (texts (take i lines))) (take n text) (drop n text ++ joined (texts (drop (i + 1) lines))));
    added = appends_more old mid new _ _ so_far last;
  }

  pub put_more : Appends mid new text → Appends old new (joined (texts (take (i + 1) lines)))
  put_more last = subst (λ (l : List ℕ). Appends old new l) (sym joined_more) (appends_more old mid new _ _ so_far last)

  -- a call that failed
  pub put_stops : (before after : ℕ) (e : SinkFail) → PutFails e mid new text → PutCounts {T = Unit {0}} before after (Err e)
      → AppendsFront old new (joined (texts lines)) × StopsPrinting e (record { written_before = old; written = new; failed_before = before; failed = after })
  put_stops before after fail.Failed fails counts = (put_front fails.0 fails.1, counts)
  put_stops before after fail.Memory fails counts = (put_front 0 (appends_none mid new fails), counts)

module _ (output : Output) where
  -- what was written, with the status that stands for it
  pub printed_as : (lines : List (List ℕ)) (status told code : ℕ) (r : Result (Unit {0}) SinkFail)
      → PutsAll output (joined lines) r → told ≡ status → code ≡ status_behind told r → PrintsAs output lines status code
  printed_as lines status told code (Ok done) puts same is = inl (is ∙ same, puts.0, puts.1)
  printed_as lines status told code (Err fail.Failed) puts same is = inr (puts.0, inl (is, puts.1))
  printed_as lines status told code (Err fail.Memory) puts same is = inr (puts.0, inr (is, puts.1))

  -- one piece
  pub put_one : (bytes : List ℕ) (r : Result (Unit {0}) SinkFail) → Puts output.written_before output.written r bytes → PutCounts output.failed_before output.failed r → PutsAll output bytes r
  put_one bytes (Ok done) puts counts = (puts, counts)
  put_one bytes (Err fail.Failed) puts counts =
      (record { front = take puts.0 bytes; rest = drop puts.0 bytes; split = sym (take-append-drop puts.0 bytes); added = puts.1 }, counts)
  put_one bytes (Err fail.Memory) puts counts =
      (record { front = []; rest = bytes; split = refl; added = appends_none output.written_before output.written puts }, counts)
