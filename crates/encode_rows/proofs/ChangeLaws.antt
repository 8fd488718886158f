-- What an occurrence makes of an atom that it changes.
use Rattle.std.proofs.Common.{◌≡◌, ℕ, zero, suc, Bool, true, false, cond, inl, inr, List, [], ◌∷◌, ◌++◌, length, map, refl, sym, ap, subst, ◌∙◌}
use Rattle.std.specs.Prelude.{Option, None, ⊤, Result, Ok, Err}
use Rattle.std.specs.List.{AllByRecursion}
use Rattle.std.proofs.lemmas.List.{length-map}
use Rattle.lin.specs.declared.failure.LinFail.{LinFail}
use Rattle.formula.specs.declared.atom.Lit.{Lit}
use Rattle.formula.specs.declared.atom.Atom.{Atom}
use Rattle.formula.specs.Contents.{Contents, with_boolean}
use Rattle.encode_rows.specs.declared.clause.Truth.{Truth}
use Rattle.encode_rows.specs.declared.clause.Truth.TheVariants.{Yes, No, Of}
use Rattle.encode_laws.specs.Rows.{Name, Fact, named, Literal, yes, no, lit, opposite, Item, boolean, row}
use Rattle.encode_laws.specs.Symbolic.{added, deleted, added_rows, deleted_rows}
use Rattle.encode_laws.specs.Numbering.{Key, truth, Plain, always, never, of, plain, same_key, with_key, index_of, atom_in}
use Rattle.encode_laws.specs.Made.{Made, put, made_from, IsIn}
use Rattle.encode_laws.proofs.TableLaws.{same_key-self, with_key-in}
use Rattle.encode_rows.specs.Clauses.{truth_by}
use Rattle.encode_rows.specs.Standing.{IsPlainKey, Stands, IsUndecided, Knows, opposite_truth, AreKnown, Makes, IsNew}
use Rattle.encode_rows.specs.Symbols.{HasRow, PutsRow}
use Rattle.encode_rows.specs.Changing.{Names, KnowsEach, HasRows, PutsRows, HasChange, Chooses, Changes}
use Rattle.encode_rows.proofs.Standing.{all_append, makes_then, makes_stop, knows-later, knows-opposite}

-- ---- a new key is the last
new-key : (key : Key) (t : List Key) → (IsIn key t → ⊥) → (with_key key t ≡ t ++ key ∷ []) × (index_of key (t ++ key ∷ []) ≡ length t)
new-key key [] h = (refl, ap (λ (b : Bool). cond b zero 1) (same_key-self key))
new-key key (k ∷ ks) h = by_test (same_key k key) refl (new-key key ks (λ i. h (inr i)))
  where
    by_test : (b : Bool) → same_key k key ≡ b → (with_key key ks ≡ ks ++ key ∷ []) × (index_of key (ks ++ key ∷ []) ≡ length ks)
        → (cond b (k ∷ ks) (k ∷ with_key key ks) ≡ k ∷ (ks ++ key ∷ [])) × (cond b zero (suc (index_of key (ks ++ key ∷ []))) ≡ suc (length ks))
    by_test true e r = absurd (h (inl e))
    by_test false e r = (ap (λ (xs : List Key). k ∷ xs) r.0, ap suc r.1)

map-last : (t : List Key) (k : Key) → map atom_in (t ++ k ∷ []) ≡ map atom_in t ++ atom_in k ∷ []
map-last [] k = refl
map-last (x ∷ xs) k = ap (λ (os : List (Option Atom)). atom_in x ∷ os) (map-last xs k)

-- ---- a truth variable is made
module _ (m : Made) (n : Name) (new_name : IsNew n m.keys) where
  name-stands : (old new : Contents) → Stands m old → new ≡ with_boolean None old → Stands (put (boolean (named n)) m) new
  name-stands old new s e =
      let k = new-key (truth n) m.keys new_name in
      record {
        contents = e ∙ ap (with_boolean None) s.contents
            ∙ ap (λ (os : List (Option Atom)). let f : Contents = record { counts = m.counts; atoms = os; clauses = m.clauses } in f) (sym (map-last m.keys (truth n)) ∙ ap (map atom_in) (sym k.0));
        plain = subst (AllByRecursion IsPlainKey) (sym k.0) (all_append IsPlainKey m.keys (truth n ∷ []) s.plain (tt, tt));
      }

  name-known : (b : ℕ) → b ≡ length m.keys → Knows (put (boolean (named n)) m) (lit true (named n)) (Of (record { boolean = b; pos = true }))
  name-known b e =
      let k = new-key (truth n) m.keys new_name in
      let i : b ≡ index_of (truth n) (with_key (truth n) m.keys) = e ∙ sym (ap (index_of (truth n)) k.0 ∙ k.1) in
      record {
        known = record { inside = with_key-in (truth n) m.keys; number = ap (λ (c : ℕ). Of (record { boolean = c; pos = true })) i; fit = tt };
        undecided = tt;
        below = tt;
      }

pub name-made : (old new : Contents) (b : ℕ) → b ≡ length old.atoms → new ≡ with_boolean None old → Names old new (Ok b)
name-made old new b e g m n s h =
    let l : b ≡ length m.keys = e ∙ ap (λ (f : Contents). length f.atoms) s.contents ∙ length-map m.keys atom_in in
    ((tt, name-stands m n h old new s g), name-known m n h b l)

-- ---- three rows
each-known : (m : Made) (ls : List Literal) (ts : List Truth) → KnowsEach m ls ts → AreKnown m ls ts
each-known m [] [] h = tt
each-known m [] (t ∷ ts) h = h
each-known m (l ∷ ls) [] h = h
each-known m (l ∷ ls) (t ∷ ts) h = (h.0.known, each-known m ls ts h.1)

each-later : (xs : List Item) (m : Made) (ls : List Literal) (ts : List Truth) → KnowsEach m ls ts → KnowsEach (made_from xs m) ls ts
each-later xs m [] [] h = tt
each-later xs m [] (t ∷ ts) h = h
each-later xs m (l ∷ ls) [] h = h
each-later xs m (l ∷ ls) (t ∷ ts) h = (knows-later xs m l t h.0, each-later xs m ls ts h.1)

pub first-of-rows : (f : Contents) (ts us vs : List Truth) → HasRows f ts us vs → HasRow f ts
first-of-rows f ts us vs h = record { made = h.made; literals = h.first; stands = h.stands; known = each-known h.made h.first ts h.knows_first }

module _ (f g : Contents) (ts us vs : List Truth) (X : Type 0) (r : X) (p : PutsRow {X = X} f ts g (Ok r)) where
  pub rows-later : HasRows f ts us vs → HasRows g ts us vs
  rows-later h =
      let one = row h.first ∷ [] in
      record {
        made = made_from one h.made;
        first = h.first;
        second = h.second;
        third = h.third;
        stands = (p h.made h.first h.stands (each-known h.made h.first ts h.knows_first)).1;
        knows_first = each-later one h.made h.first ts h.knows_first;
        knows_second = each-later one h.made h.second us h.knows_second;
        knows_third = each-later one h.made h.third vs h.knows_third;
      }

pub turn-rows : (f : Contents) (ts us vs : List Truth) → HasRows f ts us vs → HasRows f us vs ts
turn-rows f ts us vs h = record { made = h.made; first = h.second; second = h.third; third = h.first; stands = h.stands; knows_first = h.knows_second; knows_second = h.knows_third; knows_third = h.knows_first }

module _ (old f : Contents) (ts us vs : List Truth) where
  pub rows-stop : (X Y : Type 0) (e : LinFail) → PutsRow {X = X} old ts f (Err e) → PutsRows {X = Y} old ts us vs f (Err e)
  rows-stop X Y e p m ls ks js s a b d = makes_stop X Y (row ls ∷ []) (row ks ∷ row js ∷ []) m f e (p m ls s (each-known m ls ts a))

  pub rows-stop-2 : (g : Contents) (X Y : Type 0) (r : X) (e : LinFail) → PutsRow {X = X} old ts f (Ok r) → PutsRow {X = X} f us g (Err e) → PutsRows {X = Y} old ts us vs g (Err e)
  rows-stop-2 g X Y r e p q m ls ks js s a b d =
      let one = p m ls s (each-known m ls ts a) in
      makes_then {X = Y} (row ls ∷ []) (row ks ∷ row js ∷ []) m g (Err e) one.0
      (makes_stop X Y (row ks ∷ []) (row js ∷ []) (made_from (row ls ∷ []) m) g e (q (made_from (row ls ∷ []) m) ks one.1 (each-known _ ks us (each-later (row ls ∷ []) m ks us b))))

  pub rows-makes : {Y : Type 0} (g h : Contents) (X : Type 0) (r s : X) (t : Result Y LinFail) → PutsRow {X = X} old ts f (Ok r) → PutsRow {X = X} f us g (Ok s) → PutsRow g vs h t → PutsRows old ts us vs h t
  rows-makes g h X r s t p q w m ls ks js st a b d =
      let one = p m ls st (each-known m ls ts a) in
      let two = q (made_from (row ls ∷ []) m) ks one.1 (each-known _ ks us (each-later (row ls ∷ []) m ks us b)) in
      makes_then (row ls ∷ []) (row ks ∷ row js ∷ []) m h t one.0
      (makes_then (row ks ∷ []) (row js ∷ []) (made_from (row ls ∷ []) m) h t two.0
      (w (made_from (row ks ∷ []) (made_from (row ls ∷ []) m)) js two.1 (each-known _ js vs (each-later (row ks ∷ []) (made_from (row ls ∷ []) m) js vs (each-later (row ls ∷ []) m js vs d)))))

-- ---- what a truth says of its literal
truth-of-plain : (t : List Key) (s : Bool) (f : Fact) (q : Plain) → IsUndecided (lit s f) q → (x : Lit) × (truth_by t q ≡ Of x)
truth-of-plain t s f always h = absurd h
truth-of-plain t s f never h = absurd h
truth-of-plain t s f (of b key) h = (record { boolean = index_of key t; pos = b }, refl)

pub yes-is : (m : Made) (l : Literal) → Knows m l Yes → l ≡ yes
yes-is m yes h = refl
yes-is m no h = let e = h.known.number in absurd (cc)
yes-is m (lit s f) h = let x = truth-of-plain m.keys s f (plain m.counts (lit s f)) h.undecided in let e = h.known.number ∙ x.1 in absurd (cc)

pub no-is : (m : Made) (l : Literal) → Knows m l No → l ≡ no
no-is m yes h = let e = h.known.number in absurd (cc)
no-is m no h = refl
no-is m (lit s f) h = let x = truth-of-plain m.keys s f (plain m.counts (lit s f)) h.undecided in let e = h.known.number ∙ x.1 in absurd (cc)

pub of-is : (m : Made) (l : Literal) (x : Lit) → Knows m l (Of x) → (s : Bool) × ((f : Fact) × (l ≡ lit s f))
of-is m yes x h = let e = h.known.number in absurd (cc)
of-is m no x h = let e = h.known.number in absurd (cc)
of-is m (lit s f) x h = (s, (f, refl))

-- ---- a choice
abbrev pub boolean_truth : ℕ → Truth
boolean_truth b = Of (record { boolean = b; pos = true })

-- what is known behind a new truth variable
pub record AtName (mid : Contents) (on t : Truth) (b : ℕ) (m : Made) (o l : Literal) (n : Name) : Type 0 where
  pub stands : Stands (put (boolean (named n)) m) mid
  pub choice : Knows (put (boolean (named n)) m) (lit true (named n)) (boolean_truth b)
  pub happens : Knows (put (boolean (named n)) m) o on
  pub literal : Knows (put (boolean (named n)) m) l t

module _ (old mid : Contents) (on t : Truth) (b : ℕ) (named_ok : Names old mid (Ok b)) where
  at-name : (m : Made) (o l : Literal) (n : Name) → Stands m old → Knows m o on → Knows m l t → IsNew n m.keys → AtName mid on t b m o l n
  at-name m o l n s ko kl i =
      let made = named_ok m n s i in
      record { stands = made.0.1; choice = made.1; happens = knows-later (boolean (named n) ∷ []) m o on ko; literal = knows-later (boolean (named n) ∷ []) m l t kl }

  module _ (m : Made) (o l : Literal) (n : Name) (a : AtName mid on t b m o l n) where
    choice_not : Knows (put (boolean (named n)) m) (lit false (named n)) (opposite_truth (boolean_truth b))
    choice_not = knows-opposite (put (boolean (named n)) m) (lit true (named n)) (boolean_truth b) a.choice

    happens_not : Knows (put (boolean (named n)) m) (opposite o) (opposite_truth on)
    happens_not = knows-opposite (put (boolean (named n)) m) o on a.happens

    literal_not : Knows (put (boolean (named n)) m) (opposite l) (opposite_truth t)
    literal_not = knows-opposite (put (boolean (named n)) m) l t a.literal

  pub added-rows : HasChange old on t → HasRows mid (opposite_truth (boolean_truth b) ∷ on ∷ t ∷ []) (boolean_truth b ∷ opposite_truth on ∷ []) (boolean_truth b ∷ opposite_truth t ∷ [])
  added-rows h =
      let a = at-name h.made h.happens h.literal h.name h.stands h.knows_on h.knows h.is_new in
      record {
        made = put (boolean (named h.name)) h.made;
        first = lit false (named h.name) ∷ h.happens ∷ h.literal ∷ [];
        second = lit true (named h.name) ∷ opposite h.happens ∷ [];
        third = lit true (named h.name) ∷ opposite h.literal ∷ [];
        stands = a.stands;
        knows_first = (choice_not h.made h.happens h.literal h.name a, (a.happens, (a.literal, tt)));
        knows_second = (a.choice, (happens_not h.made h.happens h.literal h.name a, tt));
        knows_third = (a.choice, (literal_not h.made h.happens h.literal h.name a, tt));
      }

  pub deleted-rows : HasChange old on t → HasRows mid (opposite_truth (boolean_truth b) ∷ opposite_truth on ∷ []) (opposite_truth (boolean_truth b) ∷ t ∷ []) (boolean_truth b ∷ on ∷ opposite_truth t ∷ [])
  deleted-rows h =
      let a = at-name h.made h.happens h.literal h.name h.stands h.knows_on h.knows h.is_new in
      record {
        made = put (boolean (named h.name)) h.made;
        first = lit false (named h.name) ∷ opposite h.happens ∷ [];
        second = lit false (named h.name) ∷ h.literal ∷ [];
        third = lit true (named h.name) ∷ h.happens ∷ opposite h.literal ∷ [];
        stands = a.stands;
        knows_first = (choice_not h.made h.happens h.literal h.name a, (happens_not h.made h.happens h.literal h.name a, tt));
        knows_second = (choice_not h.made h.happens h.literal h.name a, (a.literal, tt));
        knows_third = (a.choice, (a.happens, (literal_not h.made h.happens h.literal h.name a, tt)));
      }

  module _ (new : Contents) (X : Type 0) (r : Result X LinFail) (p : PutsRows mid (opposite_truth (boolean_truth b) ∷ on ∷ t ∷ []) (boolean_truth b ∷ opposite_truth on ∷ []) (boolean_truth b ∷ opposite_truth t ∷ []) new r) where
    added-behind : (m : Made) (o l : Literal) (n : Name) → AtName mid on t b m o l n
        → Makes (row (lit false (named n) ∷ o ∷ l ∷ []) ∷ row (lit true (named n) ∷ opposite o ∷ []) ∷ row (lit true (named n) ∷ opposite l ∷ []) ∷ []) (put (boolean (named n)) m) new r
    added-behind m o l n a =
        p (put (boolean (named n)) m) (lit false (named n) ∷ o ∷ l ∷ []) (lit true (named n) ∷ opposite o ∷ []) (lit true (named n) ∷ opposite l ∷ []) a.stands
        (choice_not m o l n a, (a.happens, (a.literal, tt))) (a.choice, (happens_not m o l n a, tt)) (a.choice, (literal_not m o l n a, tt))

  module _ (new : Contents) (X : Type 0) (r : Result X LinFail) (p : PutsRows mid (opposite_truth (boolean_truth b) ∷ opposite_truth on ∷ []) (opposite_truth (boolean_truth b) ∷ t ∷ []) (boolean_truth b ∷ on ∷ opposite_truth t ∷ []) new r) where
    deleted-behind : (m : Made) (o l : Literal) (n : Name) → AtName mid on t b m o l n
        → Makes (row (lit false (named n) ∷ opposite o ∷ []) ∷ row (lit false (named n) ∷ l ∷ []) ∷ row (lit true (named n) ∷ o ∷ opposite l ∷ []) ∷ []) (put (boolean (named n)) m) new r
    deleted-behind m o l n a =
        p (put (boolean (named n)) m) (lit false (named n) ∷ opposite o ∷ []) (lit false (named n) ∷ l ∷ []) (lit true (named n) ∷ o ∷ opposite l ∷ []) a.stands
        (choice_not m o l n a, (happens_not m o l n a, tt)) (choice_not m o l n a, (a.literal, tt)) (a.choice, (a.happens, (literal_not m o l n a, tt)))

  pub added-makes : (new : Contents) (X : Type 0) (u : X)
      → PutsRows {X = X} mid (opposite_truth (boolean_truth b) ∷ on ∷ t ∷ []) (boolean_truth b ∷ opposite_truth on ∷ []) (boolean_truth b ∷ opposite_truth t ∷ []) new (Ok u)
      → Chooses true old on t new (Ok (boolean_truth b))
  added-makes new X u p m o s f n st ko kl i =
      let a = at-name m o (lit s f) n st ko kl i in
      let rows : List Item = row (lit false (named n) ∷ o ∷ lit s f ∷ []) ∷ row (lit true (named n) ∷ opposite o ∷ []) ∷ row (lit true (named n) ∷ opposite (lit s f) ∷ []) ∷ [] in (
        makes_then {X = X} (boolean (named n) ∷ []) rows m new (Ok u) (named_ok m n st i).0.0 (added-behind new X (Ok u) p m o (lit s f) n a),
        knows-later rows (put (boolean (named n)) m) (lit true (named n)) (boolean_truth b) a.choice,
      )

  pub added-stop : (new : Contents) (X : Type 0) (e : LinFail)
      → PutsRows {X = X} mid (opposite_truth (boolean_truth b) ∷ on ∷ t ∷ []) (boolean_truth b ∷ opposite_truth on ∷ []) (boolean_truth b ∷ opposite_truth t ∷ []) new (Err e)
      → Chooses true old on t new (Err e)
  added-stop new X e p m o s f n st ko kl i =
      let a = at-name m o (lit s f) n st ko kl i in
      let rows : List Item = row (lit false (named n) ∷ o ∷ lit s f ∷ []) ∷ row (lit true (named n) ∷ opposite o ∷ []) ∷ row (lit true (named n) ∷ opposite (lit s f) ∷ []) ∷ [] in
      (makes_then {X = X} (boolean (named n) ∷ []) rows m new (Err e) (named_ok m n st i).0.0 (added-behind new X (Err e) p m o (lit s f) n a), tt)

  pub deleted-makes : (new : Contents) (X : Type 0) (u : X)
      → PutsRows {X = X} mid (opposite_truth (boolean_truth b) ∷ opposite_truth on ∷ []) (opposite_truth (boolean_truth b) ∷ t ∷ []) (boolean_truth b ∷ on ∷ opposite_truth t ∷ []) new (Ok u)
      → Chooses false old on t new (Ok (boolean_truth b))
  deleted-makes new X u p m o s f n st ko kl i =
      let a = at-name m o (lit s f) n st ko kl i in
      let rows : List Item = row (lit false (named n) ∷ opposite o ∷ []) ∷ row (lit false (named n) ∷ lit s f ∷ []) ∷ row (lit true (named n) ∷ o ∷ opposite (lit s f) ∷ []) ∷ [] in (
        makes_then {X = X} (boolean (named n) ∷ []) rows m new (Ok u) (named_ok m n st i).0.0 (deleted-behind new X (Ok u) p m o (lit s f) n a),
        knows-later rows (put (boolean (named n)) m) (lit true (named n)) (boolean_truth b) a.choice,
      )

  pub deleted-stop : (new : Contents) (X : Type 0) (e : LinFail)
      → PutsRows {X = X} mid (opposite_truth (boolean_truth b) ∷ opposite_truth on ∷ []) (opposite_truth (boolean_truth b) ∷ t ∷ []) (boolean_truth b ∷ on ∷ opposite_truth t ∷ []) new (Err e)
      → Chooses false old on t new (Err e)
  deleted-stop new X e p m o s f n st ko kl i =
      let a = at-name m o (lit s f) n st ko kl i in
      let rows : List Item = row (lit false (named n) ∷ opposite o ∷ []) ∷ row (lit false (named n) ∷ lit s f ∷ []) ∷ row (lit true (named n) ∷ o ∷ opposite (lit s f) ∷ []) ∷ [] in
      (makes_then {X = X} (boolean (named n) ∷ []) rows m new (Err e) (named_ok m n st i).0.0 (deleted-behind new X (Err e) p m o (lit s f) n a), tt)

module _ (old mid : Contents) (on t : Truth) (e : LinFail) (stop : Names old mid (Err e)) where
  pub added-unnamed : Chooses true old on t mid (Err e)
  added-unnamed m o s f n st ko kl i =
      (makes_stop ℕ Truth (boolean (named n) ∷ []) (row (lit false (named n) ∷ o ∷ lit s f ∷ []) ∷ row (lit true (named n) ∷ opposite o ∷ []) ∷ row (lit true (named n) ∷ opposite (lit s f) ∷ []) ∷ []) m mid e (stop m n st i).0, tt)

  pub deleted-unnamed : Chooses false old on t mid (Err e)
  deleted-unnamed m o s f n st ko kl i =
      (makes_stop ℕ Truth (boolean (named n) ∷ []) (row (lit false (named n) ∷ opposite o ∷ []) ∷ row (lit false (named n) ∷ lit s f ∷ []) ∷ row (lit true (named n) ∷ o ∷ opposite (lit s f) ∷ []) ∷ []) m mid e (stop m n st i).0, tt)

-- ---- by the truth of the atom
nothing-makes : (m : Made) (f : Contents) (X : Type 0) (r : X) → Stands m f → Makes {X = X} [] m f (Ok r)
nothing-makes m f X r s = (tt, s)

module _ (old : Contents) (on : Truth) where
  pub added-yes : Changes true old on Yes old (Ok Yes)
  added-yes m o l n s ko kl i = subst (λ (k : Literal). Makes {X = Truth} (added_rows o n k) m old (Ok Yes) × Knows (made_from (added_rows o n k) m) (added o (lit true (named n)) k) Yes)
      (sym (yes-is m l kl)) ((tt, s), subst (λ (k : Literal). Knows m k Yes) (yes-is m l kl) kl)

  pub added-no : Changes true old on No old (Ok on)
  added-no m o l n s ko kl i = subst (λ (k : Literal). Makes {X = Truth} (added_rows o n k) m old (Ok on) × Knows (made_from (added_rows o n k) m) (added o (lit true (named n)) k) on)
      (sym (no-is m l kl)) ((tt, s), ko)

  pub deleted-yes : Changes false old on Yes old (Ok (opposite_truth on))
  deleted-yes m o l n s ko kl i = subst (λ (k : Literal). Makes {X = Truth} (deleted_rows o n k) m old (Ok (opposite_truth on)) × Knows (made_from (deleted_rows o n k) m) (deleted o (lit true (named n)) k) (opposite_truth on))
      (sym (yes-is m l kl)) ((tt, s), knows-opposite m o on ko)

  pub deleted-no : Changes false old on No old (Ok No)
  deleted-no m o l n s ko kl i = subst (λ (k : Literal). Makes {X = Truth} (deleted_rows o n k) m old (Ok No) × Knows (made_from (deleted_rows o n k) m) (deleted o (lit true (named n)) k) No)
      (sym (no-is m l kl)) ((tt, s), subst (λ (k : Literal). Knows m k No) (no-is m l kl) kl)

  module _ (x : Lit) (new : Contents) where
    pub added-of : (r : Result Truth LinFail) → Chooses true old on (Of x) new r → Changes true old on (Of x) new r
    added-of (Ok b) h m o l n s ko kl i =
        let k = of-is m l x kl in
        subst (λ (j : Literal). Makes {X = Truth} (added_rows o n j) m new (Ok b) × Knows (made_from (added_rows o n j) m) (added o (lit true (named n)) j) b) (sym k.1.1)
        (h m o k.0 k.1.0 n s ko (subst (λ (j : Literal). Knows m j (Of x)) k.1.1 kl) i)
    added-of (Err e) h m o l n s ko kl i =
        let k = of-is m l x kl in
        subst (λ (j : Literal). Makes {X = Truth} (added_rows o n j) m new (Err e) × ⊤) (sym k.1.1) (h m o k.0 k.1.0 n s ko (subst (λ (j : Literal). Knows m j (Of x)) k.1.1 kl) i)

    pub deleted-of : (r : Result Truth LinFail) → Chooses false old on (Of x) new r → Changes false old on (Of x) new r
    deleted-of (Ok b) h m o l n s ko kl i =
        let k = of-is m l x kl in
        subst (λ (j : Literal). Makes {X = Truth} (deleted_rows o n j) m new (Ok b) × Knows (made_from (deleted_rows o n j) m) (deleted o (lit true (named n)) j) b) (sym k.1.1)
        (h m o k.0 k.1.0 n s ko (subst (λ (j : Literal). Knows m j (Of x)) k.1.1 kl) i)
    deleted-of (Err e) h m o l n s ko kl i =
        let k = of-is m l x kl in
        subst (λ (j : Literal). Makes {X = Truth} (deleted_rows o n j) m new (Err e) × ⊤) (sym k.1.1) (h m o k.0 k.1.0 n s ko (subst (λ (j : Literal). Knows m j (Of x)) k.1.1 kl) i)

-- ---- rows of truths that are equal
module _ (f : Contents) (on t : Truth) (b : ℕ) (x y z : Truth) (e : x ≡ opposite_truth (boolean_truth b)) (g : y ≡ opposite_truth on) (h : z ≡ opposite_truth t) where
  pub added-rows-are : HasRows f (opposite_truth (boolean_truth b) ∷ on ∷ t ∷ []) (boolean_truth b ∷ opposite_truth on ∷ []) (boolean_truth b ∷ opposite_truth t ∷ []) → HasRows f (x ∷ on ∷ t ∷ []) (boolean_truth b ∷ y ∷ []) (boolean_truth b ∷ z ∷ [])
  added-rows-are r =
      subst (λ (u : Truth). HasRows f (u ∷ on ∷ t ∷ []) (boolean_truth b ∷ y ∷ []) (boolean_truth b ∷ z ∷ [])) (sym e)
      (subst (λ (u : Truth). HasRows f (opposite_truth (boolean_truth b) ∷ on ∷ t ∷ []) (boolean_truth b ∷ u ∷ []) (boolean_truth b ∷ z ∷ [])) (sym g)
      (subst (λ (u : Truth). HasRows f (opposite_truth (boolean_truth b) ∷ on ∷ t ∷ []) (boolean_truth b ∷ opposite_truth on ∷ []) (boolean_truth b ∷ u ∷ [])) (sym h) r))

  pub puts-added : (X : Type 0) (new : Contents) (r : Result X LinFail) → PutsRows f (x ∷ on ∷ t ∷ []) (boolean_truth b ∷ y ∷ []) (boolean_truth b ∷ z ∷ []) new r
      → PutsRows f (opposite_truth (boolean_truth b) ∷ on ∷ t ∷ []) (boolean_truth b ∷ opposite_truth on ∷ []) (boolean_truth b ∷ opposite_truth t ∷ []) new r
  puts-added X new r p =
      subst (λ (u : Truth). PutsRows f (opposite_truth (boolean_truth b) ∷ on ∷ t ∷ []) (boolean_truth b ∷ opposite_truth on ∷ []) (boolean_truth b ∷ u ∷ []) new r) h
      (subst (λ (u : Truth). PutsRows f (opposite_truth (boolean_truth b) ∷ on ∷ t ∷ []) (boolean_truth b ∷ u ∷ []) (boolean_truth b ∷ z ∷ []) new r) g
      (subst (λ (u : Truth). PutsRows f (u ∷ on ∷ t ∷ []) (boolean_truth b ∷ y ∷ []) (boolean_truth b ∷ z ∷ []) new r) e p))

module _ (f : Contents) (on t : Truth) (b : ℕ) (x y w z : Truth) (e : x ≡ opposite_truth (boolean_truth b)) (g : y ≡ opposite_truth on) (k : w ≡ opposite_truth (boolean_truth b)) (h : z ≡ opposite_truth t) where
  pub deleted-rows-are : HasRows f (opposite_truth (boolean_truth b) ∷ opposite_truth on ∷ []) (opposite_truth (boolean_truth b) ∷ t ∷ []) (boolean_truth b ∷ on ∷ opposite_truth t ∷ []) → HasRows f (x ∷ y ∷ []) (w ∷ t ∷ []) (boolean_truth b ∷ on ∷ z ∷ [])
  deleted-rows-are r =
      subst (λ (u : Truth). HasRows f (u ∷ y ∷ []) (w ∷ t ∷ []) (boolean_truth b ∷ on ∷ z ∷ [])) (sym e)
      (subst (λ (u : Truth). HasRows f (opposite_truth (boolean_truth b) ∷ u ∷ []) (w ∷ t ∷ []) (boolean_truth b ∷ on ∷ z ∷ [])) (sym g)
      (subst (λ (u : Truth). HasRows f (opposite_truth (boolean_truth b) ∷ opposite_truth on ∷ []) (u ∷ t ∷ []) (boolean_truth b ∷ on ∷ z ∷ [])) (sym k)
      (subst (λ (u : Truth). HasRows f (opposite_truth (boolean_truth b) ∷ opposite_truth on ∷ []) (opposite_truth (boolean_truth b) ∷ t ∷ []) (boolean_truth b ∷ on ∷ u ∷ [])) (sym h) r)))

  pub puts-deleted : (X : Type 0) (new : Contents) (r : Result X LinFail) → PutsRows f (x ∷ y ∷ []) (w ∷ t ∷ []) (boolean_truth b ∷ on ∷ z ∷ []) new r
      → PutsRows f (opposite_truth (boolean_truth b) ∷ opposite_truth on ∷ []) (opposite_truth (boolean_truth b) ∷ t ∷ []) (boolean_truth b ∷ on ∷ opposite_truth t ∷ []) new r
  puts-deleted X new r p =
      subst (λ (u : Truth). PutsRows f (opposite_truth (boolean_truth b) ∷ opposite_truth on ∷ []) (opposite_truth (boolean_truth b) ∷ t ∷ []) (boolean_truth b ∷ on ∷ u ∷ []) new r) h
      (subst (λ (u : Truth). PutsRows f (opposite_truth (boolean_truth b) ∷ opposite_truth on ∷ []) (u ∷ t ∷ []) (boolean_truth b ∷ on ∷ z ∷ []) new r) k
      (subst (λ (u : Truth). PutsRows f (opposite_truth (boolean_truth b) ∷ u ∷ []) (w ∷ t ∷ []) (boolean_truth b ∷ on ∷ z ∷ []) new r) g
      (subst (λ (u : Truth). PutsRows f (u ∷ y ∷ []) (w ∷ t ∷ []) (boolean_truth b ∷ on ∷ z ∷ []) new r) e p)))
