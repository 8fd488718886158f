-- A word of n copies has a piece for each copy, and a piece a count for each place.
use Rattle.std.proofs.Common.{◌≡◌, ℕ, zero, suc, ◌+◌, ◌*◌, ◌≤◌, Bool, false, cond, nat_eq, ◌⊎◌, List, [], ◌∷◌, ◌++◌, map, length, replicate, pos, refl, sym, ap, ap₂, subst, ◌∙◌, append_assoc, arith}
use Rattle.std.specs.Prelude.{IsTrue, ◌↔◌}
use Rattle.std.specs.List.{AllByRecursion, flat_map}
use Rattle.std.proofs.lemmas.Bool.Decides.{nat_tests}
use Rattle.std.proofs.lemmas.List.{length-append, append-nil}
use Rattle.rational.specs.Fraction.{Fraction, whole}
use Rattle.task_core.specs.Words.{written_out, IsPiece, IsWord}
use Rattle.pattern.specs.Word.{copies, part_of, parts_of}
use Rattle.word_laws.specs.Counts.{AreCountsOf, spelled}

regroup : {A : Type 0} (xs ys zs : List A) → xs ++ (ys ++ zs) ≡ (xs ++ ys) ++ zs
regroup xs ys zs = sym (append_assoc xs ys zs)

written-append : (xs ys : List (ℕ × ℕ)) → written_out (xs ++ ys) ≡ written_out xs ++ written_out ys
written-append [] ys = refl
written-append (x ∷ xs) ys = ap (λ l. replicate x.0 x.1 ++ l) (written-append xs ys) ∙ regroup (replicate x.0 x.1) (written_out xs) (written_out ys)

-- a count writes its place so often
part-written : (k p : ℕ) → written_out (part_of (whole (pos k)) p) ≡ replicate k p
part-written zero p = refl
part-written (suc k) p = ap (λ b. written_out (cond b [] ((suc k, p) ∷ []))) (not_none k) ∙ append-nil (replicate (suc k) p)
  where
    not_none : (m : ℕ) → nat_eq (suc m) 0 ≡ false
    not_none m = grind (arith, nat_tests)

counts_of : List (ℕ × ℕ) → List Fraction
counts_of [] = []
counts_of (p ∷ piece) = whole (pos p.0) ∷ counts_of piece

module _ (rolls : ℕ → Bool) where
  -- ---- from pieces to counts
  piece_counts : (piece : List (ℕ × ℕ)) → AllByRecursion (λ p. IsTrue (rolls p.1) ⊎ (p.0 ≤ 1)) piece → AreCountsOf rolls (map (λ p. p.1) piece) (counts_of piece)
  unfolding counts_of
  piece_counts [] h = tt
  piece_counts (p ∷ piece) h = (record { times = p.0; is = refl; few = h.0 }, piece_counts piece h.1)

  piece-written : (piece : List (ℕ × ℕ)) → written_out (parts_of (map (λ p. p.1) piece) (counts_of piece)) ≡ written_out piece
  unfolding counts_of
  piece-written [] = refl
  piece-written (p ∷ piece) =
      written-append (part_of (whole (pos p.0)) p.1) (parts_of (map (λ p. p.1) piece) (counts_of piece)) ∙ ap₂ (λ (a b : List ℕ). a ++ b) (part-written p.0 p.1) (piece-written piece)

  both : (ps qs : List ℕ) (fs bs : List Fraction) → AreCountsOf rolls ps fs → AreCountsOf rolls qs bs → AreCountsOf rolls (ps ++ qs) (fs ++ bs)
  both [] qs [] bs h g = g
  both [] qs (c ∷ fs) bs h g = absurd h
  both (p ∷ ps) qs [] bs h g = absurd h
  both (p ∷ ps) qs (c ∷ fs) bs h g = (h.0, both ps qs fs bs h.1 g)

  both-written : (ps qs : List ℕ) (fs bs : List Fraction) → AreCountsOf rolls ps fs → written_out (parts_of (ps ++ qs) (fs ++ bs)) ≡ written_out (parts_of ps fs) ++ written_out (parts_of qs bs)
  both-written [] qs [] bs h = refl
  both-written [] qs (c ∷ fs) bs h = absurd h
  both-written (p ∷ ps) qs [] bs h = absurd h
  both-written (p ∷ ps) qs (c ∷ fs) bs h =
      written-append (part_of c p) (parts_of (ps ++ qs) (fs ++ bs)) ∙ ap (λ l. written_out (part_of c p) ++ l) (both-written ps qs fs bs h.1)
      ∙ regroup (written_out (part_of c p)) (written_out (parts_of ps fs)) (written_out (parts_of qs bs))
      ∙ ap (λ l. l ++ written_out (parts_of qs bs)) (sym (written-append (part_of c p) (parts_of ps fs)))

  -- ---- from counts to a piece
  record IsPieced (places : List ℕ) (counts : List Fraction) : Type 0 where
    piece : List (ℕ × ℕ)
    is_piece : IsPiece rolls places piece
    written : written_out piece ≡ written_out (parts_of places counts)

  pieced : (ps : List ℕ) (cs : List Fraction) → AreCountsOf rolls ps cs → IsPieced ps cs
  pieced [] [] h = record { piece = []; is_piece = record { places = refl; counts = tt }; written = refl }
  pieced [] (c ∷ cs) h = absurd h
  pieced (p ∷ ps) [] h = absurd h
  pieced (p ∷ ps) (c ∷ cs) h =
      let rest = pieced ps cs h.1 in
      record {
        piece = (h.0.times, p) ∷ rest.piece;
        is_piece = record { places = ap (λ (l : List ℕ). p ∷ l) rest.is_piece.places; counts = (h.0.few, rest.is_piece.counts) };
        written =
            ap₂ (λ (a b : List ℕ). a ++ b) (sym (ap (λ d. written_out (part_of d p)) h.0.is ∙ part-written h.0.times p)) rest.written ∙ sym (written-append (part_of c p) (parts_of ps cs));
      }

  -- the counts of the first places, and those of the others
  record IsCut (ps qs : List ℕ) (cs : List Fraction) : Type 0 where
    front : List Fraction
    back : List Fraction
    is : front ++ back ≡ cs
    in_front : AreCountsOf rolls ps front
    behind : AreCountsOf rolls qs back

  cut : (ps qs : List ℕ) (cs : List Fraction) → AreCountsOf rolls (ps ++ qs) cs → IsCut ps qs cs
  cut [] qs cs h = record { front = []; back = cs; is = refl; in_front = tt; behind = h }
  cut (p ∷ ps) qs [] h = absurd h
  cut (p ∷ ps) qs (c ∷ cs) h = let rest = cut ps qs cs h.1 in record { front = c ∷ rest.front; back = rest.back; is = ap (λ (l : List Fraction). c ∷ l) rest.is; in_front = (h.0, rest.in_front); behind = rest.behind }

  module _ (places : List ℕ) where
    record HasCounts (n : ℕ) (word : List ℕ) : Type 0 where
      counts : List Fraction
      are : AreCountsOf rolls (copies n places) counts
      spells : spelled places n counts ≡ word

    from_pieces : (pieces : List (List (ℕ × ℕ))) → AllByRecursion (IsPiece rolls places) pieces → HasCounts (length pieces) (flat_map written_out pieces)
    from_pieces [] h = record { counts = []; are = tt; spells = refl }
    from_pieces (piece ∷ pieces) h =
        let rest = from_pieces pieces h.1 in
        let own : AreCountsOf rolls places (counts_of piece) = subst (λ (ps : List ℕ). AreCountsOf rolls ps (counts_of piece)) h.0.places (piece_counts piece h.0.counts) in
        record {
          counts = counts_of piece ++ rest.counts;
          are = both places (copies (length pieces) places) (counts_of piece) rest.counts own rest.are;
          spells =
              both-written places (copies (length pieces) places) (counts_of piece) rest.counts own
              ∙ ap₂ (λ (a b : List ℕ). a ++ b) (ap (λ (ps : List ℕ). written_out (parts_of ps (counts_of piece))) (sym h.0.places) ∙ piece-written piece) rest.spells;
        }

    from_word : (n : ℕ) (word : List ℕ) → IsWord rolls places n word → (counts : List Fraction) × AreCountsOf rolls (copies n places) counts × (spelled places n counts ≡ word)
    from_word n word w =
        let made = from_pieces w.pieces w.each in
        let here : HasCounts n (flat_map written_out w.pieces) = subst (λ (m : ℕ). HasCounts m (flat_map written_out w.pieces)) w.copies made in
        (here.counts, here.are, here.spells ∙ w.spelled)

    to_word : (n : ℕ) (counts : List Fraction) → AreCountsOf rolls (copies n places) counts → IsWord rolls places n (spelled places n counts)
    to_word zero [] h = record { pieces = []; copies = refl; each = tt; spelled = refl }
    to_word zero (c ∷ counts) h = absurd h
    to_word (suc n) counts h =
        let parts = cut places (copies n places) counts h in
        let first = pieced places parts.front parts.in_front in
        let rest = to_word n parts.back parts.behind in
        record {
          pieces = first.piece ∷ rest.pieces;
          copies = ap suc rest.copies;
          each = (first.is_piece, rest.each);
          spelled =
              ap₂ (λ (a b : List ℕ). a ++ b) first.written rest.spelled ∙ sym (both-written places (copies n places) parts.front parts.back parts.in_front)
              ∙ ap (λ (cs : List Fraction). written_out (parts_of (places ++ copies n places) cs)) parts.is;
        }

    pub words_and_counts : (n : ℕ) (word : List ℕ) → IsWord rolls places n word ↔ ((counts : List Fraction) × AreCountsOf rolls (copies n places) counts × (spelled places n counts ≡ word))
    words_and_counts n word = (from_word n word, (λ h. subst (IsWord rolls places n) h.2 (to_word n h.0 h.1)))

  -- ---- how many counts, and what they are
  as_many : (ps : List ℕ) (cs : List Fraction) → AreCountsOf rolls ps cs → length cs ≡ length ps
  as_many [] [] h = refl
  as_many [] (c ∷ cs) h = absurd h
  as_many (p ∷ ps) [] h = absurd h
  as_many (p ∷ ps) (c ∷ cs) h = ap suc (as_many ps cs h.1)

  length-copies : (n : ℕ) (places : List ℕ) → length (copies n places) ≡ n * length places
  length-copies zero places = none (length places)
    where
      none : (b : ℕ) → 0 ≡ 0 * b
      none b = omega arith
  length-copies (suc n) places = length-append places (copies n places) ∙ ap (λ (m : ℕ). length places + m) (length-copies n places) ∙ more n (length places)
    where
      more : (a b : ℕ) → b + a * b ≡ suc a * b
      more a b = omega arith

  pub so_many : (places : List ℕ) (n : ℕ) (counts : List Fraction) → AreCountsOf rolls (copies n places) counts → length counts ≡ n * length places
  so_many places n counts h = as_many (copies n places) counts h ∙ length-copies n places

  each_whole : (ps : List ℕ) (cs : List Fraction) → AreCountsOf rolls ps cs → AllByRecursion (λ c. (k : ℕ) × (c ≡ whole (pos k))) cs
  each_whole [] [] h = tt
  each_whole [] (c ∷ cs) h = absurd h
  each_whole (p ∷ ps) [] h = absurd h
  each_whole (p ∷ ps) (c ∷ cs) h = ((h.0.times, h.0.is), each_whole ps cs h.1)

  pub all_whole : (places : List ℕ) (n : ℕ) (counts : List Fraction) → AreCountsOf rolls (copies n places) counts → AllByRecursion (λ c. (k : ℕ) × (c ≡ whole (pos k))) counts
  all_whole places n counts h = each_whole (copies n places) counts h
