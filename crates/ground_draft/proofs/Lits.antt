-- The literals and the comparisons of a draft, as the specification has them.
use Rattle.std.proofs.Common.{◌≡◌, ℕ, zero, suc, Bool, true, false, not, cond, ◌&&◌, ◌||◌, List, [], ◌∷◌, ◌++◌, map, filter, Option, Some, None, refl, sym, ap, ap₂, ◌∙◌, append_assoc, eq-eqb}
use Rattle.std.specs.List.{list_all, flat_map, filter_map, cons_option}
use Rattle.std.proofs.lemmas.Bool.{and_parts}
use Rattle.std.proofs.lemmas.List.{append-nil}
use Rattle.std.proofs.lemmas.List.Elements.{filter-append}
use Rattle.lin.specs.Linear.{Linear}
use Rattle.lin.specs.declared.comparison.Cmp.{Cmp}
use Rattle.pddl_task.specs.declared.condition.Cond.{Cond}
use Rattle.pddl_task.specs.declared.condition.Cond.TheVariants as cond_
use Rattle.pddl_task.specs.declared.condition.Rel.{Rel}
use Rattle.pddl_task.specs.declared.condition.Rel.TheVariants as rel
use Rattle.plan_step.specs.Meaning.{objects_of, signed}
use Rattle.ground_numbers.specs.declared.named.Named.{Named}
use Rattle.ground_numbers.specs.Numbers.{named, same, is_listed, number_in, once, with_seen}
use Rattle.ground_action.specs.Setting.{Setting, atom, same_proposition}
use Rattle.ground_action.specs.Parts.{Part, constant, linear, Outcome, ends, bent, part, part_of}
use Rattle.ground_action.specs.Leaves as spec
use Rattle.ground_action.specs.Leaves.{literal, settled, compared_parts, compared_outcomes, leaf_of}
use Rattle.ground_action.specs.GroundAction.{same_literal, literal_row, comparison_row, may_hold}
use Rattle.ground_action.specs.Work.{parts_ops, outcomes_ops, comparison_ops, literal_may_hold}
use Rattle.ground_action.proofs.StepLaws.{lit_sound}
use Rattle.ground_action.proofs.WorkLaws.{work_is}
use Rattle.ground_parts.specs.declared.comparison.Compared.{Compared}
use Rattle.ground_parts.specs.declared.comparison.Compared.TheVariants.{Settled, Left}
use Rattle.ground_parts.specs.Forms.{form_of, part_made, comparison_made}
use Rattle.ground_draft.specs.Drafts.{over_atoms}
use Rattle.ground_draft.specs.declared.leaves.Leaf.{Leaf}
use Rattle.ground_draft.specs.declared.leaves.Leaf.TheVariants.{Nothing, Literal, Sides}
use Rattle.ground_draft.specs.inside.Running.{run, ops_run}
use Rattle.ground_draft.specs.inside.Made.{sides_made, literal_made, leaf_made, sides_hold, leaf_holds, with_first, all_made}
use Rattle.ground_draft.specs.inside.Lists.{with_literal, literals_in, part_from, left_over, leaf_compared, with_comparison, leaf_ops, comparisons_in, comparisons_ops_in}

-- ---- things seen in turn, where those that are alike are equal
module _ {A : Type 0} (alike : A → A → Bool) (sound : (x y : A) → alike x y ≡ true → x ≡ y) (itself : (x : A) → alike x x ≡ true) where
  abbrev differs : A → A → Bool
  differs x y = not (alike y x)

  stays : (k : A) (p : A → Bool) (y : A) (rest : List A) → p k ≡ true → is_listed alike (filter p rest) k ≡ is_listed alike rest k
      → is_listed alike (cond (p y) (y ∷ filter p rest) (filter p rest)) k ≡ (alike y k || is_listed alike rest k)
  stays k p y rest passes ih = by (p y) (alike y k) refl (λ e. ap p (sound y k e) ∙ passes)
    where
      by : (b s : Bool) → alike y k ≡ s → (s ≡ true → b ≡ true) → is_listed alike (cond b (y ∷ filter p rest) (filter p rest)) k ≡ (s || is_listed alike rest k)
      by true s e f = ap (λ t. t || is_listed alike (filter p rest) k) e ∙ ap (λ t. s || t) ih
      by false true e f = let never : false ≡ true = f refl in absurd (cc)
      by false false e f = ih

  listed_filter : (k : A) (p : A → Bool) (xs : List A) → p k ≡ true → is_listed alike (filter p xs) k ≡ is_listed alike xs k
  listed_filter k p [] passes = refl
  listed_filter k p (y ∷ ys) passes = stays k p y ys passes (listed_filter k p ys passes)

  added : (p : A → Bool) (k : A) (xs : List A) → p k ≡ false → filter p (with_seen alike xs k) ≡ filter p xs
  added p k xs fails = by (is_listed alike xs k)
    where
      last : filter p (k ∷ []) ≡ []
      last = ap (λ b. cond b (k ∷ []) []) fails

      by : (b : Bool) → filter p (cond b xs (xs ++ k ∷ [])) ≡ filter p xs
      by true = refl
      by false = filter-append p xs (k ∷ []) ∙ ap (λ l. filter p xs ++ l) last ∙ append-nil (filter p xs)

  kept : (p : A → Bool) (k : A) (xs : List A) → p k ≡ true → filter p (with_seen alike xs k) ≡ with_seen alike (filter p xs) k
  kept p k xs passes = ap (λ b. filter p (cond b xs (xs ++ k ∷ []))) (sym (listed_filter k p xs passes)) ∙ by (is_listed alike (filter p xs) k)
    where
      last : filter p (k ∷ []) ≡ k ∷ []
      last = ap (λ b. cond b (k ∷ []) []) passes

      by : (b : Bool) → filter p (cond b xs (xs ++ k ∷ [])) ≡ cond b (filter p xs) (filter p xs ++ k ∷ [])
      by true = refl
      by false = filter-append p xs (k ∷ []) ∙ ap (λ l. filter p xs ++ l) last

  flipped : (x k : A) → alike x k ≡ false → alike k x ≡ false
  flipped x k f = by (alike k x) refl
    where
      by : (b : Bool) → alike k x ≡ b → b ≡ false
      by true e = let t : alike x k ≡ true = ap (λ z. alike z k) (sym (sound k x e)) ∙ itself k in absurd (cc)
      by false e = refl

  step : (x k : A) (rest : List A) → x ∷ filter (differs x) (with_seen alike rest k) ≡ with_seen alike (x ∷ filter (differs x) rest) k
  step x k rest = by (alike x k) refl
    where
      fails : alike x k ≡ true → differs x k ≡ false
      fails e = ap not (ap (λ z. alike z x) (sym (sound x k e)) ∙ itself x)

      front : (b : Bool) (xs ys : List A) → x ∷ cond b xs ys ≡ cond b (x ∷ xs) (x ∷ ys)
      front true xs ys = refl
      front false xs ys = refl

      by : (b : Bool) → alike x k ≡ b → x ∷ filter (differs x) (with_seen alike rest k) ≡ with_seen alike (x ∷ filter (differs x) rest) k
      by true e = ap (λ l. x ∷ l) (added (differs x) k rest (fails e))
          ∙ sym (ap (λ b. cond (b || is_listed alike (filter (differs x) rest) k) (x ∷ filter (differs x) rest) (x ∷ (filter (differs x) rest ++ k ∷ []))) e)
      by false e = ap (λ l. x ∷ l) (kept (differs x) k rest (ap not (flipped x k e))) ∙ front (is_listed alike (filter (differs x) rest) k) (filter (differs x) rest) (filter (differs x) rest ++ k ∷ [])
          ∙ sym (ap (λ b. cond (b || is_listed alike (filter (differs x) rest) k) (x ∷ filter (differs x) rest) (x ∷ (filter (differs x) rest ++ k ∷ []))) e)

  once_last : (xs : List A) (k : A) → once alike (xs ++ k ∷ []) ≡ with_seen alike (once alike xs) k
  once_last [] k = refl
  once_last (x ∷ xs) k = ap (λ l. x ∷ filter (differs x) l) (once_last xs k) ∙ step x k (once alike xs)

  -- the list without repetitions, item by item
  pub once_run : (xs ys : List A) → run (with_seen alike) (once alike xs) ys ≡ once alike (xs ++ ys)
  once_run xs [] = ap (once alike) (sym (append-nil xs))
  once_run xs (y ∷ ys) = ap (λ l. run (with_seen alike) l ys) (sym (once_last xs y)) ∙ once_run (xs ++ y ∷ []) ys ∙ ap (once alike) (append_assoc xs (y ∷ []) ys)

-- ---- what is made of each, in turn
abbrev pub Matched : {A B : Type 0} → (A → Option B) → List A → List B → Type 0
Matched f [] [] = Unit {0}
Matched f [] (y ∷ ys) = ⊥
Matched f (x ∷ xs) [] = ⊥
Matched f (x ∷ xs) (y ∷ ys) = (f x ≡ Some y) × Matched f xs ys

pub matched : {A B : Type 0} (f : A → Option B) (xs : List A) (ys : List B) → all_made f xs ≡ Some ys → Matched f xs ys
matched f [] [] h = tt
matched f [] (y ∷ ys) h = absurd (cc)
matched {A} {B} f (x ∷ xs) ys h = by (λ us g. matched f xs us g) (f x) refl (all_made f xs) refl ys h
  where
    by : ((us : List B) → all_made f xs ≡ Some us → Matched f xs us) → (o : Option B) → f x ≡ o → (p : Option (List B)) → all_made f xs ≡ p → (ys : List B) → with_first o p ≡ Some ys → Matched f (x ∷ xs) ys
    by ih None e p g ys h = absurd (cc)
    by ih (Some y) e None g ys h = absurd (cc)
    by ih (Some y) e (Some zs) g [] h = absurd (cc)
    by ih (Some y) e (Some zs) g (u ∷ us) h =
        let heads : y ≡ u = cc in
        let tails : zs ≡ us = cc in
        (e ∙ ap Some heads, ih us (g ∙ ap Some tails))

-- ---- literals
pub same_lit : (l : ℕ × Bool) → same_literal l l ≡ true
same_lit (n, true) = ap (λ b. b && true) (eq-eqb n n refl)
same_lit (n, false) = ap (λ b. b && true) (eq-eqb n n refl)

abbrev row_in : Leaf → Option (ℕ × Bool)
row_in Nothing = None
row_in (Literal n sign) = Some (n, sign)
row_in (Sides r p q) = None

run_rows : (leaves : List Leaf) (lits : List (ℕ × Bool)) → run with_literal lits leaves ≡ run (with_seen same_literal) lits (filter_map row_in leaves)
run_rows [] lits = refl
run_rows (Nothing ∷ leaves) lits = run_rows leaves lits
run_rows (Literal n sign ∷ leaves) lits = run_rows leaves (with_seen same_literal lits (n, sign))
run_rows (Sides r p q ∷ leaves) lits = run_rows leaves lits

literals_once : (leaves : List Leaf) → literals_in leaves ≡ once same_literal (filter_map row_in leaves)
literals_once leaves = run_rows leaves [] ∙ once_run same_literal lit_sound same_lit [] (filter_map row_in leaves)

-- ---- comparisons
abbrev cmp_in : Compared → List (Linear × Cmp)
cmp_in (Settled b) = []
cmp_in (Left l c) = (l, c) ∷ []

left_over_is : (cmps : List (Linear × Cmp)) (x : Compared) → left_over cmps x ≡ cmps ++ cmp_in x
left_over_is cmps (Settled b) = sym (append-nil cmps)
left_over_is cmps (Left l c) = refl

comparisons_from : (leaves : List Leaf) (cmps : List (Linear × Cmp)) → run with_comparison cmps leaves ≡ cmps ++ flat_map (λ leaf. cmp_in (leaf_compared leaf)) leaves
comparisons_from [] cmps = sym (append-nil cmps)
comparisons_from (leaf ∷ leaves) cmps =
    comparisons_from leaves (left_over cmps (leaf_compared leaf)) ∙ ap (λ l. l ++ flat_map (λ leaf. cmp_in (leaf_compared leaf)) leaves) (left_over_is cmps (leaf_compared leaf))
    ∙ append_assoc cmps (cmp_in (leaf_compared leaf)) (flat_map (λ leaf. cmp_in (leaf_compared leaf)) leaves)

comparison_ops_from : (leaves : List Leaf) (cmps : List (Linear × Cmp)) → ops_run with_comparison (λ cmps leaf. leaf_ops leaf) cmps leaves ≡ flat_map leaf_ops leaves
comparison_ops_from [] cmps = refl
comparison_ops_from (leaf ∷ leaves) cmps = ap (λ os. leaf_ops leaf ++ os) (comparison_ops_from leaves (with_comparison cmps leaf))

-- ---- a leaf of the specification, and what is made of it
module _ (set : Setting) (atoms : List Named) (args : List ℕ) where
  pub place_is : (ks : List Named) (k : Named) → number_in same_proposition (map atom ks) (atom k) ≡ number_in same ks k
  place_is [] k = refl
  place_is (j ∷ ks) k = ap (λ n. cond (same j k) zero (suc n)) (place_is ks k)

  -- what is told of a leaf: its literal, its comparison, the operations, whether it may hold
  pub record Tells (c : Cond) (leaf : Leaf) : Type 0 where
    pub row : literal_row (over_atoms set atoms) (leaf_of set args c) ≡ row_in leaf
    pub comparison : cons_option (comparison_row (leaf_of set args c)) [] ≡ cmp_in (leaf_compared leaf)
    pub ops : comparison_ops set args c ≡ leaf_ops leaf
    pub holds : literal_may_hold set args c ≡ true → may_hold (leaf_of set args c) ≡ leaf_holds leaf

  atom_tells : (b sign t : Bool) (k : Named) → (l : spec.Leaf) → l ≡ cond b (literal (atom k) sign) (settled t)
      → (literal_row (over_atoms set atoms) l ≡ row_in (cond b (Literal (number_in same atoms k) sign) Nothing)) × (comparison_row l ≡ None)
  atom_tells true sign t k l e = (ap (literal_row (over_atoms set atoms)) e ∙ ap (λ n. Some (n, sign)) (place_is atoms k), ap comparison_row e)
  atom_tells false sign true k l e = (ap (literal_row (over_atoms set atoms)) e, ap comparison_row e)
  atom_tells false sign false k l e = (ap (literal_row (over_atoms set atoms)) e, ap comparison_row e)

  holds_made : (b : Bool) (n : ℕ) (sign : Bool) → true ≡ leaf_holds (cond b (Literal n sign) Nothing)
  holds_made true n sign = refl
  holds_made false n sign = refl

  no_ops : (b : Bool) (n : ℕ) (sign : Bool) → [] ≡ leaf_ops (cond b (Literal n sign) Nothing)
  no_ops true n sign = refl
  no_ops false n sign = refl

  no_cmp : (b : Bool) (n : ℕ) (sign : Bool) → [] ≡ cmp_in (leaf_compared (cond b (Literal n sign) Nothing))
  no_cmp true n sign = refl
  no_cmp false n sign = refl

  settled_may : (b : Bool) → may_hold (settled b) ≡ b
  settled_may true = refl
  settled_may false = refl

  settled_none : (b : Bool) → (literal_row (over_atoms set atoms) (settled b) ≡ None) × (comparison_row (settled b) ≡ None)
  settled_none true = (refl, refl)
  settled_none false = (refl, refl)

  settled_cmp : (b : Bool) → cons_option (comparison_row (settled b)) [] ≡ cmp_in (comparison_made (settled b))
  settled_cmp true = refl
  settled_cmp false = refl

  pub no_row : (r : Rel) (p q : Part) → literal_row (over_atoms set atoms) (compared_parts r p q) ≡ None
  no_row r (constant a) (constant b) = (settled_none _).0
  no_row r (constant a) (linear s m) = refl
  no_row r (linear s l) q = refl

  cmp_is : (r : Rel) (p q : Part) → cons_option (comparison_row (compared_parts r p q)) [] ≡ cmp_in (comparison_made (compared_parts r (part_from (form_of p)) (part_from (form_of q))))
  cmp_is r (constant a) (constant b) = settled_cmp _
  cmp_is rel.Lt (constant a) (linear s m) = refl
  cmp_is rel.Le (constant a) (linear s m) = refl
  cmp_is rel.Eq (constant a) (linear s m) = refl
  cmp_is rel.Ge (constant a) (linear s m) = refl
  cmp_is rel.Gt (constant a) (linear s m) = refl
  cmp_is rel.Lt (linear r l) (constant b) = refl
  cmp_is rel.Le (linear r l) (constant b) = refl
  cmp_is rel.Eq (linear r l) (constant b) = refl
  cmp_is rel.Ge (linear r l) (constant b) = refl
  cmp_is rel.Gt (linear r l) (constant b) = refl
  cmp_is rel.Lt (linear r l) (linear s m) = refl
  cmp_is rel.Le (linear r l) (linear s m) = refl
  cmp_is rel.Eq (linear r l) (linear s m) = refl
  cmp_is rel.Ge (linear r l) (linear s m) = refl
  cmp_is rel.Gt (linear r l) (linear s m) = refl

  pub parts_ops_are : (r : Rel) (p q : Part) → parts_ops r p q ≡ parts_ops r (part_from (form_of p)) (part_from (form_of q))
  parts_ops_are r (constant a) (constant b) = refl
  parts_ops_are rel.Lt (constant a) (linear s m) = refl
  parts_ops_are rel.Le (constant a) (linear s m) = refl
  parts_ops_are rel.Eq (constant a) (linear s m) = refl
  parts_ops_are rel.Ge (constant a) (linear s m) = refl
  parts_ops_are rel.Gt (constant a) (linear s m) = refl
  parts_ops_are rel.Lt (linear r l) (constant b) = refl
  parts_ops_are rel.Le (linear r l) (constant b) = refl
  parts_ops_are rel.Eq (linear r l) (constant b) = refl
  parts_ops_are rel.Ge (linear r l) (constant b) = refl
  parts_ops_are rel.Gt (linear r l) (constant b) = refl
  parts_ops_are rel.Lt (linear r l) (linear s m) = refl
  parts_ops_are rel.Le (linear r l) (linear s m) = refl
  parts_ops_are rel.Eq (linear r l) (linear s m) = refl
  parts_ops_are rel.Ge (linear r l) (linear s m) = refl
  parts_ops_are rel.Gt (linear r l) (linear s m) = refl

  parts_hold : (r : Rel) (p q : Part) → may_hold (compared_parts r p q) ≡ sides_hold r (form_of p) (form_of q)
  parts_hold r (constant a) (constant b) = settled_may _
  parts_hold r (constant a) (linear s m) = refl
  parts_hold r (linear s l) q = refl

  sides_told : (r : Rel) (a b : Outcome) (leaf : Leaf) → sides_made r (part_made a) (part_made b) ≡ Some leaf
      → (literal_row (over_atoms set atoms) (compared_outcomes r a b) ≡ row_in leaf) × ((cons_option (comparison_row (compared_outcomes r a b)) [] ≡ cmp_in (leaf_compared leaf))
      × ((outcomes_ops r a b ≡ leaf_ops leaf) × (may_hold (compared_outcomes r a b) ≡ leaf_holds leaf)))
  sides_told r ends b leaf h = absurd (cc)
  sides_told r bent b leaf h = absurd (cc)
  sides_told r (part p) ends leaf h = absurd (cc)
  sides_told r (part p) bent leaf h = absurd (cc)
  sides_told r (part p) (part q) leaf h =
      let is : Sides r (form_of p) (form_of q) ≡ leaf = cc in
      (no_row r p q ∙ ap row_in is, (cmp_is r p q ∙ ap (λ l. cmp_in (leaf_compared l)) is, (parts_ops_are r p q ∙ ap leaf_ops is, parts_hold r p q ∙ ap leaf_holds is)))

  tells : (c : Cond) (leaf : Leaf) → leaf_made set atoms args c ≡ Some leaf → Tells c leaf
  tells (cond_.Lit sign pred terms) leaf h =
      let k = named pred (objects_of args terms) in
      let b = set.changing_pred pred in
      let is : literal_made set atoms sign k ≡ leaf = cc in
      let told = atom_tells b sign (spec_signed sign k) k (spec.atom_leaf set sign k) refl in
      record {
        row = told.0 ∙ ap row_in is;
        comparison = ap (λ o. cons_option o []) told.1 ∙ no_cmp b (number_in same atoms k) sign ∙ ap (λ l. cmp_in (leaf_compared l)) is;
        ops = no_ops b (number_in same atoms k) sign ∙ ap leaf_ops is;
        holds = λ g. g ∙ holds_made b (number_in same atoms k) sign ∙ ap leaf_holds is;
      }
    where
      spec_signed : Bool → Named → Bool
      spec_signed sign k = signed sign (set.start.truth k.symbol k.args)
  tells (cond_.Same sign left right) leaf h =
      let is : Nothing ≡ leaf = cc in
      record {
        row = (settled_none _).0 ∙ ap row_in is;
        comparison = ap (λ o. cons_option o []) (settled_none _).1 ∙ ap (λ l. cmp_in (leaf_compared l)) is;
        ops = ap leaf_ops is;
        holds = λ g. g ∙ ap leaf_holds is;
      }
  tells (cond_.Compare r left right) leaf h =
      let told = sides_told r (part_of set args left) (part_of set args right) leaf
      (sym (ap₂ (λ a b. sides_made r (part_made a) (part_made b)) (work_is set args left) (work_is set args right)) ∙ h) in
      record { row = told.0; comparison = told.1.0; ops = told.1.1.0; holds = λ g. told.1.1.1 }

  -- ---- all leaves
  pub rows_are : (cs : List Cond) (leaves : List Leaf) → Matched (leaf_made set atoms args) cs leaves → filter_map (literal_row (over_atoms set atoms)) (map (leaf_of set args) cs) ≡ filter_map row_in leaves
  rows_are [] [] h = refl
  rows_are [] (l ∷ ls) h = absurd h
  rows_are (c ∷ cs) [] h = absurd h
  rows_are (c ∷ cs) (l ∷ ls) h = ap₂ cons_option (tells c l h.0).row (rows_are cs ls h.1)

  pub literals_are : (cs : List Cond) (leaves : List Leaf) → Matched (leaf_made set atoms args) cs leaves → literals_in leaves ≡ once same_literal (filter_map (literal_row (over_atoms set atoms)) (map (leaf_of set args) cs))
  literals_are cs leaves h = literals_once leaves ∙ ap (once same_literal) (sym (rows_are cs leaves h))

  pub cons_front : (o : Option (Linear × Cmp)) (rest : List (Linear × Cmp)) → cons_option o [] ++ rest ≡ cons_option o rest
  cons_front None rest = refl
  cons_front (Some c) rest = refl

  cmps_are : (cs : List Cond) (leaves : List Leaf) → Matched (leaf_made set atoms args) cs leaves → flat_map (λ leaf. cmp_in (leaf_compared leaf)) leaves ≡ filter_map comparison_row (map (leaf_of set args) cs)
  cmps_are [] [] h = refl
  cmps_are [] (l ∷ ls) h = absurd h
  cmps_are (c ∷ cs) [] h = absurd h
  cmps_are (c ∷ cs) (l ∷ ls) h = ap₂ ◌++◌ (sym (tells c l h.0).comparison) (cmps_are cs ls h.1) ∙ cons_front (comparison_row (leaf_of set args c)) (filter_map comparison_row (map (leaf_of set args) cs))

  pub comparisons_are : (cs : List Cond) (leaves : List Leaf) → Matched (leaf_made set atoms args) cs leaves → comparisons_in leaves ≡ filter_map comparison_row (map (leaf_of set args) cs)
  comparisons_are cs leaves h = comparisons_from leaves [] ∙ cmps_are cs leaves h

  ops_match : (cs : List Cond) (leaves : List Leaf) → Matched (leaf_made set atoms args) cs leaves → flat_map leaf_ops leaves ≡ flat_map (comparison_ops set args) cs
  ops_match [] [] h = refl
  ops_match [] (l ∷ ls) h = absurd h
  ops_match (c ∷ cs) [] h = absurd h
  ops_match (c ∷ cs) (l ∷ ls) h = ap₂ ◌++◌ (sym (tells c l h.0).ops) (ops_match cs ls h.1)

  pub comparisons_ops_are : (cs : List Cond) (leaves : List Leaf) → Matched (leaf_made set atoms args) cs leaves → comparisons_ops_in leaves ≡ flat_map (comparison_ops set args) cs
  comparisons_ops_are cs leaves h = comparison_ops_from leaves [] ∙ ops_match cs leaves h

  pub holds_are : (cs : List Cond) (leaves : List Leaf) → Matched (leaf_made set atoms args) cs leaves → list_all (literal_may_hold set args) cs ≡ true → list_all may_hold (map (leaf_of set args) cs) ≡ list_all leaf_holds leaves
  holds_are [] [] h g = refl
  holds_are [] (l ∷ ls) h g = absurd h
  holds_are (c ∷ cs) [] h g = absurd h
  holds_are (c ∷ cs) (l ∷ ls) h g =
      let gs = and_parts (literal_may_hold set args c) (list_all (literal_may_hold set args) cs) g in
      ap₂ ◌&&◌ ((tells c l h.0).holds gs.0) (holds_are cs ls h.1 gs.1)
