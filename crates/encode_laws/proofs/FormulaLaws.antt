-- A point meets the numbered formula exactly where its assignment meets the rows of facts; and so the two laws of the formula.
use Rattle.std.proofs.Common.{◌≡◌, ℕ, zero, suc, ◌<◌, ◌≤◌, Bool, true, false, List, [], ◌∷◌, ◌++◌, map, replicate, length, get_or, refl, sym, ap, subst, ◌∙◌, arith, length-append}
use Rattle.std.specs.Prelude.{Option, Some, None, slice_get, unwrap_or}
use Rattle.std.specs.List.{AllByRecursion}
use Rattle.std.proofs.lemmas.List.{length-map, get_or-map, length-replicate}
use Rattle.std.proofs.lemmas.Bool.{and_parts, and_from}
use Rattle.std.proofs.lemmas.Option.{unwrap_or-slice_get}
use mathlib.Core.Path.{fun_ext}
use lib.IntN.{pos}
use Rattle.rational.specs.Fraction.{Fraction, whole}
use Rattle.rational.specs.Floor.{IsWhole}
use Rattle.rational.proofs.OrderLaws.{≤ℚ-same}
use Rattle.lin.specs.Linear.{point_of}
use Rattle.lin.proofs.ValueLaws.{value_fixed}
use Rattle.task_core.specs.declared.action.GAction.{GAction}
use Rattle.task_core.specs.State.{State}
use Rattle.formula.specs.declared.atom.Atom.{Atom}
use Rattle.formula.specs.declared.atom.Lit.{Lit}
use Rattle.formula.specs.declared.point.Point.{Point}
use Rattle.formula.specs.Reading.{Holds, reading_where}
use Rattle.formula.specs.Meets.{truth_at, are_met, IsSolution}
use Rattle.encode_laws.specs.Rows.{Assignment, Name, is_done, Item, MeetsAll}
use Rattle.encode_laws.specs.Symbolic.{rows_of}
use Rattle.encode_laws.specs.Numbering.{Key, atom, truth, index_of, counts_of, table_of, clauses_of, atom_in, numbered}
use Rattle.encode_laws.proofs.PlainLaws.{is_counted_in, atom_true, key_true}
use Rattle.encode_laws.proofs.TableLaws.{IsGood, good_table, good_at, index-key, index-below, table_in}
use Rattle.encode_laws.proofs.ClauseLaws.{Fits, clause_true, clauses-down, clauses-up}
use Rattle.encode_laws.proofs.Making.{Steady, numbers-whole, whole-from}
use Rattle.encode_laws.proofs.Readings.{reading-truth, truth-reading}
use Rattle.encode_laws.proofs.Below.{rows-steady}
use Rattle.encode_laws.proofs.Words.{AreCounts, word, IsPlan, Spells, point-spells, Apart, word-has_point}

-- ---- clauses in a row
met-each : (values : List Bool) (cs : List (List Lit)) → are_met values cs ≡ true → AllByRecursion (λ c. clause_true values c ≡ true) cs
met-each values [] h = tt
met-each values (c ∷ cs) h = let p = and_parts (clause_true values c) _ h in (p.0, met-each values cs p.1)

each-met : (values : List Bool) (cs : List (List Lit)) → AllByRecursion (λ c. clause_true values c ≡ true) cs → are_met values cs ≡ true
each-met values [] h = refl
each-met values (c ∷ cs) h = and_from _ _ h.0 (each-met values cs h.1)

-- ---- the two layers
nothing : Key
nothing = truth (is_done 0)

-- the assignment of a point: a truth variable has the truth of its Boolean
abbrev pub assignment_of : Point → List Item → Assignment
assignment_of p items = record { value = point_of p.values; truth = λ n. truth_at p.truth (index_of (truth n) (table_of items)) }

some_true : (o : Option Bool) → unwrap_or o false ≡ true → o ≡ Some true
some_true None h = absurd (cc)
some_true (Some true) h = refl
some_true (Some false) h = absurd (cc)

-- what a Boolean of the table stands for
atom_at : (table : List Key) (b : ℕ) (d : Key) → b < length table → get_or (map atom_in table) b None ≡ atom_in (get_or table b d)
atom_at table b d h = get_or-map atom_in table b d None h

-- a point that meets the formula meets the rows
pub meets-down : (items : List Item) → Steady 0 items → (p : Point) → IsSolution (numbered items) p → MeetsAll (assignment_of p items) items
meets-down items steady p m =
    clauses-down (assignment_of p items) (counts_of items) whole_counts p.truth (table_of items) fits items
    (numbers-whole (assignment_of p items) (counts_of items) [] items refl steady whole_counts) (table_in (counts_of items) items []) (met-each p.truth (clauses_of (table_of items) (counts_of items) items) m.meets.clauses)
  where
    whole_counts : (n : ℕ) → is_counted_in (counts_of items) n ≡ true → IsWhole (point_of p.values n)
    whole_counts n e = m.integral n (some_true (slice_get (counts_of items) n) e)

    fits : Fits p.truth (assignment_of p items) (table_of items)
    fits (truth n) i = refl
    fits (atom a) i =
        let b = index_of (atom a) (table_of items) in
        let inside : b < length (table_of items) = index-below (atom a) (table_of items) i in
        let below : b < length (map atom_in (table_of items)) = omega (arith, length-map (table_of items) atom_in) in
        let is_atom : get_or (map atom_in (table_of items)) b None ≡ Some a =
        atom_at (table_of items) b (truth (is_done 0)) inside ∙ ap atom_in (index-key (atom a) (truth (is_done 0)) (table_of items) i) in
        reading-truth (point_of p.values) (counts_of items) a (truth_at p.truth b)
        (subst (λ (o : Option Atom). Holds (point_of p.values) (reading_where (counts_of items) o (truth_at p.truth b))) is_atom (m.meets.atoms b below).holds)

-- ---- from an assignment to a point
-- values for all variables: those that are told, and 0
abbrev padded : List Item → List Fraction → List Fraction
padded items vs = vs ++ replicate (length (counts_of items)) (whole (pos 0))

zeros : (n i : ℕ) → get_or (replicate n (whole (pos 0))) i (whole (pos 0)) ≡ whole (pos 0)
zeros zero i = refl
zeros (suc n) zero = refl
zeros (suc n) (suc i) = zeros n i

padding : (vs : List Fraction) (n i : ℕ) → get_or vs i (whole (pos 0)) ≡ get_or (vs ++ replicate n (whole (pos 0))) i (whole (pos 0))
padding [] n i = sym (zeros n i)
padding (x ∷ vs) n zero = refl
padding (x ∷ vs) n (suc i) = padding vs n i

abbrev told : List Fraction → (Name → Bool) → Assignment
told vs tr = record { value = point_of vs; truth = tr }

-- each Boolean has the truth of what it stands for
abbrev pub point_at : List Fraction → (Name → Bool) → List Item → Point
point_at vs tr items = record { values = vs; truth = map (key_true (told vs tr)) (table_of items) }

truth_of : (pt : Assignment) (table : List Key) (b : ℕ) (d : Key) → b < length table → truth_at (map (key_true pt) table) b ≡ key_true pt (get_or table b d)
truth_of pt table b d h = get_or-map (key_true pt) table b d false h

module _ (items : List Item) (steady : Steady 0 items) (vs : List Fraction) (tr : Name → Bool) (enough : length (counts_of items) ≤ length vs) (h : MeetsAll (told vs tr) items) where
  counts_whole : (n : ℕ) → is_counted_in (counts_of items) n ≡ true → IsWhole (point_of vs n)
  counts_whole n e = whole-from (told vs tr) 0 items steady h n n (omega arith) (sym (unwrap_or-slice_get (counts_of items) n false) ∙ e)

  fits-up : Fits (map (key_true (told vs tr)) (table_of items)) (told vs tr) (table_of items)
  fits-up key i =
      truth_of (told vs tr) (table_of items) (index_of key (table_of items)) (truth (is_done 0)) (index-below key (table_of items) i)
      ∙ ap (key_true (told vs tr)) (index-key key (truth (is_done 0)) (table_of items) i)

  key-holds : (key : Key) → IsGood (counts_of items) key → Holds (point_of vs) (reading_where (counts_of items) (atom_in key) (key_true (told vs tr) key))
  key-holds (truth n) g = ≤ℚ-same _ _ (value_fixed (point_of vs) (whole (pos 0)))
  key-holds (atom a) g = truth-reading (point_of vs) (counts_of items) counts_whole a g (atom_true (point_of vs) a) refl

  booleans-hold : (b : ℕ) → b < length (table_of items) → Holds (point_of vs) (reading_where (counts_of items) (get_or (map atom_in (table_of items)) b None) (truth_at (map (key_true (told vs tr)) (table_of items)) b))
  booleans-hold b l =
      let key = get_or (table_of items) b (truth (is_done 0)) in
      subst (λ (o : Option Atom). Holds (point_of vs) (reading_where (counts_of items) o (truth_at (map (key_true (told vs tr)) (table_of items)) b))) (sym (atom_at (table_of items) b (truth (is_done 0)) l))
      (subst (λ (t : Bool). Holds (point_of vs) (reading_where (counts_of items) (atom_in key) t)) (sym (truth_of (told vs tr) (table_of items) b (truth (is_done 0)) l))
      (key-holds key (good_at (counts_of items) (table_of items) b (good_table (counts_of items) items [] tt))))

  -- an assignment that meets the rows gives a point that meets the formula
  pub meets-up : IsSolution (numbered items) (point_at vs tr items)
  meets-up = record {
    point = record { values = enough; truth = omega (arith, length-map (table_of items) atom_in, length-map (table_of items) (key_true (told vs tr))) };
    integral = λ n e. counts_whole n (ap (λ (o : Option Bool). unwrap_or o false) e);
    meets = record {
      clauses = each-met _ _ (clauses-up (told vs tr) (counts_of items) counts_whole (map (key_true (told vs tr)) (table_of items)) (table_of items) fits-up items (table_in (counts_of items) items []) h);
      atoms = λ b l. record { holds = booleans-hold b (omega (arith, length-map (table_of items) atom_in)) };
    };
  }

-- ---- the two laws of the formula
pub formula-spells : (s : State) (goal : GAction) (places : List GAction) (p : Point) → IsSolution (numbered (rows_of s goal places)) p → Spells (assignment_of p (rows_of s goal places)) 0 places goal 0 s
formula-spells s goal places p m = point-spells s goal places (assignment_of p (rows_of s goal places)) (meets-down (rows_of s goal places) (rows-steady s goal places) p m)

pub formula-has_point : (s : State) (goal : GAction) (places : List GAction) (ns : List ℕ) → Apart places → AreCounts places ns → IsPlan s goal (word places ns)
    → (p : Point) × IsSolution (numbered (rows_of s goal places)) p
formula-has_point s goal places ns apart m plan = by_told (word-has_point s goal places ns apart m plan)
  where
    items : List Item
    items = rows_of s goal places

    by_told : (vs : List Fraction) × (tr : Name → Bool) × MeetsAll (record { value = λ n. get_or vs n (whole (pos 0)); truth = tr }) (rows_of s goal places)
        → (p : Point) × IsSolution (numbered (rows_of s goal places)) p
    by_told x =
        let vs = padded (rows_of s goal places) x.0 in
        let same : (λ (n : ℕ). get_or x.0 n (whole (pos 0))) ≡ point_of (padded (rows_of s goal places) x.0) = fun_ext (padding x.0 (length (counts_of (rows_of s goal places)))) in (
          point_at (padded (rows_of s goal places) x.0) x.1 (rows_of s goal places),
          meets-up (rows_of s goal places) (rows-steady s goal places) (padded (rows_of s goal places) x.0) x.1
              (omega (arith, length-append x.0 (replicate (length (counts_of (rows_of s goal places))) (whole (pos 0))), length-replicate (length (counts_of (rows_of s goal places))) (whole (pos 0))))
              (subst (λ (w : ℕ → Fraction). MeetsAll (record { value = w; truth = x.1 }) (rows_of s goal places)) same x.2),
        )
