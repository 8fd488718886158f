-- Values in the program's tables, as the values that contracts see.
use Rattle.std.proofs.Common.{◌≡◌, ℕ, ◌<◌, Bool, true, false, cond, ◌==◌, ◌&&◌, List, [], ◌∷◌, length, map, get_or, set, Some, Result, Ok, Err, IsSome, OnErr, ⊎_elim, refl, sym, ap, subst, ◌∙◌, arith}
use Rattle.std.proofs.lemmas.List.{get_or-map, get_or-set_same, get_or-set_other, get_or_past, length-map, map-set, set-get_or, length-set}
use Rattle.std.proofs.lemmas.Bool.{cases_Bool, cases_eq, cases_lt, cond-true, cond-false}
use Rattle.std.proofs.lemmas.Bool.Decides.{nat_tests}
use Rattle.std.specs.Cmp.Lexicographic.{pointwise, bytes_decides, nat_list_eq_equiv}
use Rattle.std.specs.Bool.{nat_eq}
use Rattle.std.specs.Global.{Vec}
use Rattle.std.specs.HashMap.{HashMap, get_by, UpdatesBy}
use Rattle.std.specs.Map.{lookup, IsKeyTest, AreApart, KeepsOthers}
use Rattle.ground_map.specs.GroundMap.{same_args, value_at, IsSame, IsPut}
use Rattle.ground_map.specs.inside.Entries.{entry, entries_of}

-- whether a key is the arguments
abbrev pub has_args : List ℕ → Vec ℕ → Bool
has_args args k = pointwise nat_eq args k.items

-- keys are equal where their arguments are
abbrev pub same_key : Vec ℕ → Vec ℕ → Bool
same_key x y = pointwise nat_eq x.items y.items

-- a look-up among the entries, as among the lists that they are seen as
lookup-entries : {V : Type 0} (args : List ℕ) (es : List (Vec ℕ × V)) → lookup (same_args args) (map entry es) ≡ lookup (has_args args) es
lookup-entries args [] = refl
lookup-entries args (e ∷ es) = ap (λ rest. cond (has_args args e.0) (Some e.1) rest) (lookup-entries args es)

others : {V : Type 0} (test : Vec ℕ → Bool) (old new : List (Vec ℕ × V)) → KeepsOthers same_key test old new → (other : Vec ℕ → Bool) → IsKeyTest same_key other → AreApart test other → lookup other new ≡ lookup other old
unfolding KeepsOthers
others test old new h = h

apart : (args xs ys : List ℕ) → pointwise nat_eq args xs ≡ false → pointwise nat_eq args ys ≡ true → pointwise nat_eq xs ys ≡ false
apart args xs ys n y = nat_list_eq_equiv.symm xs ys ∙ sym (nat_list_eq_equiv.congr args ys xs y) ∙ n

module _ {V S : Type 0} where
  -- a table after a value is put at the arguments, at any arguments
  get_by-put : (args : List ℕ) (value : V) (old new : HashMap (Vec ℕ) V S) → UpdatesBy same_key (has_args args) old new (Some value)
      → (xs : List ℕ) → get_by (has_args xs) new ≡ cond (pointwise nat_eq xs args) (Some value) (get_by (has_args xs) old)
  get_by-put args value old new put xs =
      ⊎_elim
      (λ y. let same : args ≡ xs = (bytes_decides args xs).0 y in
      let flipped : pointwise nat_eq xs args ≡ true = nat_list_eq_equiv.symm xs args ∙ y in
      subst (λ bs. get_by (has_args bs) new ≡ Some value) same put.1 ∙ sym (cond-true (pointwise nat_eq xs args) (Some value) (get_by (has_args xs) old) flipped))
      (λ n. let flipped : pointwise nat_eq xs args ≡ false = nat_list_eq_equiv.symm xs args ∙ n in
      others (has_args args) old.entries new.entries put.3 (has_args xs) (λ x y. nat_list_eq_equiv.congr xs x.items y.items) (λ k. apart args xs k.items n)
      ∙ sym (cond-false (pointwise nat_eq xs args) (Some value) (get_by (has_args xs) old) flipped))
      (cases_Bool (pointwise nat_eq args xs))

  -- the same, as contracts see the tables
  lookup-put : (args : List ℕ) (value : V) (old new : HashMap (Vec ℕ) V S) → UpdatesBy same_key (has_args args) old new (Some value)
      → (xs : List ℕ) → lookup (same_args xs) (entries_of new) ≡ cond (same_args xs args) (Some value) (lookup (same_args xs) (entries_of old))
  lookup-put args value old new put xs =
      lookup-entries xs new.entries ∙ get_by-put args value old new put xs ∙ ap (λ found. cond (same_args xs args) (Some value) found) (sym (lookup-entries xs old.entries))

-- a value is put in one list of entries
module _ {V : Type 0} (seen : List (List (List ℕ × V))) (head : ℕ) (args : List ℕ) (value : V) (new : List (List ℕ × V)) (within : head < length seen)
    (put : (xs : List ℕ) → lookup (same_args xs) new ≡ cond (same_args xs args) (Some value) (lookup (same_args xs) (get_or seen head []))) where
  at_head : (xs : List ℕ) → value_at (set seen head new) head xs ≡ cond (head == head && same_args xs args) (Some value) (value_at seen head xs)
  at_head xs =
      let own : (head == head) ≡ true = grind (arith, nat_tests) in
      ap (λ es. lookup (same_args xs) es) (get_or-set_same seen head new [] within) ∙ put xs
      ∙ ap (λ t. cond (t && same_args xs args) (Some value) (value_at seen head xs)) (sym own)

  elsewhere : (h : ℕ) (xs : List ℕ) → (h ≡ head → ⊥) → value_at (set seen head new) h xs ≡ cond (h == head && same_args xs args) (Some value) (value_at seen h xs)
  elsewhere h xs other =
      let differs : (h == head) ≡ false = grind (arith, nat_tests) in
      ap (λ es. lookup (same_args xs) es) (get_or-set_other seen head h new [] other)
      ∙ ap (λ t. cond (t && same_args xs args) (Some value) (value_at seen h xs)) (sym differs)

  IsPut-set : IsPut seen (set seen head new) head args value
  IsPut-set = record {
    heads = length-set seen head new;
    values = λ h xs. ⊎_elim
        (λ e. subst (λ k. value_at (set seen head new) k xs ≡ cond (k == head && same_args xs args) (Some value) (value_at seen k xs)) (sym e) (at_head xs))
        (λ other. elsewhere h xs other)
        (cases_eq h head);
  }

module _ {V S : Type 0} (tables : List (HashMap (Vec ℕ) V S)) (seen : List (List (List ℕ × V))) (view : map entries_of tables ≡ seen) (head : ℕ) where
  -- there are as many heads as tables
  pub within_seen : head < length tables → head < length seen
  within_seen inside = subst (λ n. head < n) (sym (length-map tables entries_of) ∙ ap (λ l. length l) view) inside

  -- the entries of a head, from its table
  entries_at : (table : HashMap (Vec ℕ) V S) → table ≡ get_or tables head table → head < length seen → get_or seen head [] ≡ entries_of table
  entries_at table read within =
      let inside : head < length tables = subst (λ n. head < n) (sym (ap (λ l. length l) view) ∙ length-map tables entries_of) within in
      ap (λ l. get_or l head []) (sym view) ∙ get_or-map entries_of tables head table [] inside ∙ ap entries_of (sym read)

  -- the value at a head, from its table
  pub value_at-table : (args : List ℕ) (table : HashMap (Vec ℕ) V S) → table ≡ get_or tables head table → head < length seen → get_by (has_args args) table ≡ value_at seen head args
  value_at-table args table read within =
      sym (lookup-entries args table.entries) ∙ ap (λ es. lookup (same_args args) es) (sym (entries_at table read within))

  -- what the tables are seen as, after one of them is changed
  view-set : (new : HashMap (Vec ℕ) V S) → map entries_of (set tables head new) ≡ set seen head (entries_of new)
  view-set new = map-set entries_of tables head new ∙ ap (λ l. set l head (entries_of new)) view

  -- a value is put in one table
  pub IsPut-tables : (args : List ℕ) (value : V) (old new : HashMap (Vec ℕ) V S) → old ≡ get_or tables head old → head < length seen
      → UpdatesBy same_key (has_args args) old new (Some value) → IsPut seen (map entries_of (set tables head new)) head args value
  IsPut-tables args value old new read within put =
      subst (λ l. IsPut seen l head args value) (sym (view-set new))
      (IsPut-set seen head args value (entries_of new) within
      (λ xs. lookup-put args value old new put xs ∙ ap (λ es. cond (same_args xs args) (Some value) (lookup (same_args xs) es)) (sym (entries_at old read within))))

  -- a table keeps its entries
  pub IsSame-tables : (old new : HashMap (Vec ℕ) V S) → old ≡ get_or tables head old → head < length seen → new.entries ≡ old.entries → IsSame seen (map entries_of (set tables head new))
  IsSame-tables old new read within kept =
      let entries : entries_of new ≡ get_or seen head [] = ap (λ es. map entry es) kept ∙ sym (entries_at old read within) in
      subst (λ l. IsSame seen l) (sym (view-set new ∙ ap (λ es. set seen head es) entries ∙ set-get_or seen head [])) (record { heads = refl; values = λ h xs. refl })

-- a head that has a value is one of the heads
pub within_heads : {V : Type 0} (seen : List (List (List ℕ × V))) (head : ℕ) (args : List ℕ) → IsSome (value_at seen head args) → head < length seen
within_heads seen head args some =
    ⊎_elim
    (λ below. below)
    (λ past. let never : false ≡ true = subst IsSome (ap (λ es. lookup (same_args args) es) (get_or_past seen head [] past)) some in cc)
    (cases_lt head (length seen))

-- a fact that holds anyway
pub on_err : {A E : Type 0} {P : Type 0} (r : Result A E) → P → OnErr r P
on_err (Ok _) p = tt
on_err (Err _) p = p
