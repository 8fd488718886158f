-- The counts of occurrences as a word of n copies, and back.
use Rattle.std.proofs.Common.{◌≡◌, ◌≤◌, ℕ, zero, suc, Bool, true, false, cond, nat_eq, ◌⊎◌, List, [], ◌∷◌, ◌++◌, map, replicate, drop, length, refl, sym, ap, ap₂, subst, ◌∙◌, append_assoc}
use Rattle.std.specs.Prelude.{IsTrue}
use Rattle.std.specs.List.{AllByRecursion, flat_map}
use Rattle.std.proofs.lemmas.Bool.{eqb-true}
use lib.IntN.{pos}
use Rattle.rational.specs.Fraction.{whole}
use Rattle.pattern.specs.Word.{parts_of}
use Rattle.task_core.specs.declared.action.GAction.{GAction}
use Rattle.task_core.specs.Task.{GroundParts, action_at}
use Rattle.task_core.specs.Words.{written_out, IsPiece, IsWord}
use Rattle.task_core.specs.Plan.{rolls}
use Rattle.encode_laws.specs.Encoding.{copies}
use Rattle.encode_laws.proofs.Words.{AreCounts, word}

-- each place with its count
abbrev pub counted : List ℕ → List ℕ → List (ℕ × ℕ)
counted [] places = []
counted (n ∷ ns) [] = []
counted (n ∷ ns) (x ∷ xs) = (n, x) ∷ counted ns xs

-- parts with the count 0 spell nothing
pub parts-counted : (xs ns : List ℕ) → written_out (parts_of xs (map (λ n. whole (pos n)) ns)) ≡ written_out (counted ns xs)
parts-counted [] [] = refl
parts-counted [] (n ∷ ns) = refl
parts-counted (x ∷ xs) [] = refl
parts-counted (x ∷ xs) (n ∷ ns) = by_test (nat_eq n 0) refl (parts-counted xs ns)
  where
    by_test : (b : Bool) → nat_eq n 0 ≡ b → written_out (parts_of xs (map (λ n. whole (pos n)) ns)) ≡ written_out (counted ns xs)
        → written_out (cond b [] ((n, x) ∷ []) ++ parts_of xs (map (λ n. whole (pos n)) ns)) ≡ replicate n x ++ written_out (counted ns xs)
    by_test true e ih = ih ∙ ap (λ (m : ℕ). replicate m x ++ written_out (counted ns xs)) (sym (eqb-true n 0 e))
    by_test false e ih = ap (λ (zs : List ℕ). replicate n x ++ zs) ih

counted-none : (ns : List ℕ) → counted ns [] ≡ []
counted-none [] = refl
counted-none (n ∷ ns) = refl

map_append : {A B : Type 0} (f : A → B) (xs ys : List A) → map f (xs ++ ys) ≡ map f xs ++ map f ys
map_append f [] ys = refl
map_append f (x ∷ xs) ys = ap (λ zs. f x ∷ zs) (map_append f xs ys)

map_replicate : {A B : Type 0} (f : A → B) (n : ℕ) (x : A) → map f (replicate n x) ≡ replicate n (f x)
map_replicate f zero x = refl
map_replicate f (suc n) x = ap (λ zs. f x ∷ zs) (map_replicate f n x)

-- ---- numbers that all have a property
module _ (P : ℕ → Type 0) where
  each-append : (xs ys : List ℕ) → AllByRecursion P xs → AllByRecursion P ys → AllByRecursion P (xs ++ ys)
  each-append [] ys h j = j
  each-append (x ∷ xs) ys h j = (h.0, each-append xs ys h.1 j)

  each-replicate : (n x : ℕ) → P x → AllByRecursion P (replicate n x)
  each-replicate zero x h = tt
  each-replicate (suc n) x h = (h, each-replicate n x h)

  pub each-copies : (n : ℕ) (pattern : List ℕ) → AllByRecursion P pattern → AllByRecursion P (copies n pattern)
  each-copies zero pattern h = tt
  each-copies (suc n) pattern h = each-append pattern (copies n pattern) h (each-copies n pattern h)

  pub each-written : (ns xs : List ℕ) → AllByRecursion P xs → AllByRecursion P (written_out (counted ns xs))
  each-written [] xs h = tt
  each-written (n ∷ ns) [] h = tt
  each-written (n ∷ ns) (x ∷ xs) h = each-append (replicate n x) (written_out (counted ns xs)) (each-replicate n x h.0) (each-written ns xs h.1)

module _ (task : GroundParts) where
  -- the actions of what the counts spell are the word
  pub spelled-word : (ns xs : List ℕ) → map (action_at task) (written_out (counted ns xs)) ≡ word (map (action_at task) xs) ns
  spelled-word [] [] = refl
  spelled-word [] (x ∷ xs) = refl
  spelled-word (n ∷ ns) [] = refl
  spelled-word (n ∷ ns) (x ∷ xs) =
      map_append (action_at task) (replicate n x) (written_out (counted ns xs))
      ∙ ap₂ (λ (us ws : List GAction). us ++ ws) (map_replicate (action_at task) n x) (spelled-word ns xs)

  -- ---- a list of counts as pieces
  pub record Splits (xs ys ns : List ℕ) : Type 0 where
    pub counted_is : counted ns (xs ++ ys) ≡ counted ns xs ++ counted (drop (length xs) ns) ys
    pub rest : AreCounts (map (action_at task) ys) (drop (length xs) ns)
    pub piece : IsPiece (rolls task) xs (counted ns xs)

  split : (xs ys ns : List ℕ) → AreCounts (map (action_at task) (xs ++ ys)) ns → Splits xs ys ns
  split [] ys ns h = record {
    counted_is = ap (λ (ps : List (ℕ × ℕ)). ps ++ counted ns ys) (sym (counted-none ns));
    rest = h;
    piece = record { places = ap (map (λ (p : ℕ × ℕ). p.1)) (counted-none ns); counts = subst (AllByRecursion (λ p. IsTrue (rolls task p.1) ⊎ (p.0 ≤ 1))) (sym (counted-none ns)) tt };
  }
  split (x ∷ xs) ys [] h = absurd h
  split (x ∷ xs) ys (n ∷ ns) h =
      let s = split xs ys ns h.1 in
      record {
        counted_is = ap (λ (ps : List (ℕ × ℕ)). (n, x) ∷ ps) s.counted_is;
        rest = s.rest;
        piece = record { places = ap (λ (zs : List ℕ). x ∷ zs) s.piece.places; counts = (h.0, s.piece.counts) };
      }

  written-append : (ps qs : List (ℕ × ℕ)) → written_out (ps ++ qs) ≡ written_out ps ++ written_out qs
  written-append [] qs = refl
  written-append (p ∷ ps) qs = ap (λ (xs : List ℕ). replicate p.0 p.1 ++ xs) (written-append ps qs) ∙ sym (append_assoc (replicate p.0 p.1) (written_out ps) (written_out qs))

  pub spelled-is_word : (n : ℕ) (pattern ns : List ℕ) → AreCounts (map (action_at task) (copies n pattern)) ns → IsWord (rolls task) pattern n (written_out (counted ns (copies n pattern)))
  spelled-is_word zero pattern ns h = record { pieces = []; copies = refl; each = tt; spelled = ap written_out (sym (counted-none ns)) }
  spelled-is_word (suc n) pattern ns h =
      let s = split pattern (copies n pattern) ns h in
      let w = spelled-is_word n pattern (drop (length pattern) ns) s.rest in
      record {
        pieces = counted ns pattern ∷ w.pieces;
        copies = ap suc w.copies;
        each = (s.piece, w.each);
        spelled = ap (λ (xs : List ℕ). written_out (counted ns pattern) ++ xs) w.spelled
            ∙ sym (ap written_out s.counted_is ∙ written-append (counted ns pattern) (counted (drop (length pattern) ns) (copies n pattern)));
      }

  -- ---- pieces as a list of counts
  pub record Joins (places ns plan : List ℕ) : Type 0 where
    pub are_counts : AreCounts (map (action_at task) places) ns
    pub word_is : word (map (action_at task) places) ns ≡ map (action_at task) plan

  join : (piece : List (ℕ × ℕ)) (ys ns plan : List ℕ) → AllByRecursion (λ p. IsTrue (rolls task p.1) ⊎ (p.0 ≤ 1)) piece → Joins ys ns plan
      → Joins (map (λ p. p.1) piece ++ ys) (map (λ p. p.0) piece ++ ns) (written_out piece ++ plan)
  join [] ys ns plan h j = j
  join (p ∷ ps) ys ns plan h j =
      let r = join ps ys ns plan h.1 j in
      record {
        are_counts = (h.0, r.are_counts);
        word_is = ap (λ (us : List GAction). replicate p.0 (action_at task p.1) ++ us) r.word_is
            ∙ ap (λ (us : List GAction). us ++ map (action_at task) (written_out ps ++ plan)) (sym (map_replicate (action_at task) p.0 p.1))
            ∙ sym (map_append (action_at task) (replicate p.0 p.1) (written_out ps ++ plan))
            ∙ ap (map (action_at task)) (sym (append_assoc (replicate p.0 p.1) (written_out ps) plan));
      }

  abbrev pub counts_in : List (List (ℕ × ℕ)) → List ℕ
  counts_in pieces = flat_map (λ piece. map (λ p. p.0) piece) pieces

  pub joined : (pattern : List ℕ) (pieces : List (List (ℕ × ℕ))) → AllByRecursion (IsPiece (rolls task) pattern) pieces
      → Joins (copies (length pieces) pattern) (counts_in pieces) (flat_map written_out pieces)
  joined pattern [] h = record { are_counts = tt; word_is = refl }
  joined pattern (piece ∷ pieces) h =
      let r = join piece (copies (length pieces) pattern) (counts_in pieces) (flat_map written_out pieces) h.0.counts (joined pattern pieces h.1) in
      subst (λ (xs : List ℕ). Joins (xs ++ copies (length pieces) pattern) (map (λ p. p.0) piece ++ counts_in pieces) (written_out piece ++ flat_map written_out pieces)) h.0.places r
