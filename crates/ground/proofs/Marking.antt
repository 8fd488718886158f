-- The atoms 'has a value' by function number, and the truths of all atoms at the start.
use Rattle.std.proofs.Common.{◌≡◌, ℕ, zero, suc, ◌+◌, ◌<◌, ◌≤◌, Bool, true, false, not, cond, List, [], ◌∷◌, ◌++◌, map, take, take_all, length, get_or, Option, Some, None, refl, sym, ap, ap₂, subst, ◌∙◌, append_assoc, arith}
use Rattle.std.specs.Prelude.{is_some}
use Rattle.std.proofs.lemmas.List.{map-append, length-map, length-append, take_more}
use Rattle.rational.specs.Fraction.{Fraction}
use Rattle.task_core.specs.declared.action.GAction.{GAction}
use Rattle.plan_step.specs.State.{PlanState}
use Rattle.ground_numbers.specs.declared.named.Named.{Named}
use Rattle.ground_action.specs.Setting.{atom, valued, value_in, truth_in, missing}
use Rattle.ground_seen.specs.declared.tables.Tables.{Tables}
use Rattle.ground_draft.specs.declared.draft.Draft.{Draft}
use Rattle.ground_draft.specs.Drafts.{rank_in, finished}
use Rattle.ground.specs.inside.Concluding.{truth_of, marks_from, falses_of, false_of, mark_at, IsMarked, AreMarked, finished_at, values_at, truths_at, mark_in}

module _ (s : PlanState) where
  -- ---- truths
  map_both : (atoms : List Named) → map (truth_in s) (map atom atoms) ≡ map (truth_of s) atoms
  map_both [] = refl
  map_both (k ∷ ks) = ap (λ l. truth_of s k ∷ l) (map_both ks)

  valueless : (funcs : List Named) → map (truth_in s) (map valued (missing s funcs)) ≡ falses_of (map (value_in s) funcs)
  valueless [] = refl
  valueless (k ∷ ks) = by (value_in s k) refl (valueless ks)
    where
      by : (o : Option Fraction) → value_in s k ≡ o → map (truth_in s) (map valued (missing s ks)) ≡ falses_of (map (value_in s) ks)
          → map (truth_in s) (map valued (cond (not (is_some o)) (k ∷ missing s ks) (missing s ks))) ≡ falses_of (o ∷ map (value_in s) ks)
      by None e ih = ap₂ ◌∷◌ (ap is_some e) ih
      by (Some x) e ih = ih

  pub truths_are : (atoms funcs : List Named) → map (truth_in s) (map atom atoms ++ map valued (missing s funcs)) ≡ map (truth_of s) atoms ++ falses_of (map (value_in s) funcs)
  truths_are atoms funcs = map-append (truth_in s) (map atom atoms) (map valued (missing s funcs)) ∙ ap₂ ◌++◌ (map_both atoms) (valueless funcs)

  -- ---- marks
  falses_count : (funcs : List Named) → length (falses_of (map (value_in s) funcs)) ≡ length (missing s funcs)
  falses_count [] = refl
  falses_count (k ∷ ks) = by (value_in s k) (falses_count ks)
    where
      by : (o : Option Fraction) → length (falses_of (map (value_in s) ks)) ≡ length (missing s ks)
          → length (falses_of (o ∷ map (value_in s) ks)) ≡ length (cond (not (is_some o)) (k ∷ missing s ks) (missing s ks))
      by None ih = ap suc ih
      by (Some x) ih = ih

  no_rank : (f : ℕ) → length (missing s (take f [])) ≡ 0
  no_rank zero = refl
  no_rank (suc f) = refl

  no_mark : (f last : ℕ) → mark_at [] last f ≡ last
  no_mark zero last = refl
  no_mark (suc f) last = refl

  shift : (a b : ℕ) → a + suc b ≡ suc a + b
  shift a b = omega arith

  first_mark : (p last : ℕ) (o : Option Fraction) (rest : List (Option Fraction)) → mark_at (marks_from p (o ∷ rest)) last 0 ≡ p
  first_mark p last None rest = refl
  first_mark p last (Some x) rest = refl

  mark_is : (funcs : List Named) (p last f : ℕ) → last ≡ p + length (missing s funcs) → mark_at (marks_from p (map (value_in s) funcs)) last f ≡ p + length (missing s (take f funcs))
  mark_is [] p last f e = no_mark f last ∙ e ∙ ap (λ n. p + n) (sym (no_rank f))
  mark_is (k ∷ ks) p last zero e = let none : p ≡ p + 0 = omega arith in first_mark p last (value_in s k) (map (value_in s) ks) ∙ none
  mark_is (k ∷ ks) p last (suc f) e = by (value_in s k) e (λ q d. mark_is ks q last f d)
    where
      by : (o : Option Fraction) → last ≡ p + length (cond (not (is_some o)) (k ∷ missing s ks) (missing s ks))
          → ((q : ℕ) → last ≡ q + length (missing s ks) → mark_at (marks_from q (map (value_in s) ks)) last f ≡ q + length (missing s (take f ks)))
          → mark_at (marks_from p (o ∷ map (value_in s) ks)) last (suc f) ≡ p + length (cond (not (is_some o)) (k ∷ missing s (take f ks)) (missing s (take f ks)))
      by None e ih = ih (suc p) (e ∙ shift p (length (missing s ks))) ∙ sym (shift p (length (missing s (take f ks))))
      by (Some x) e ih = ih p e

  -- the mark of a function stands behind all atoms and the functions without a value in front of it
  pub mark_in_is : (t : Tables) (f : ℕ) → mark_in s t f ≡ length t.atoms + rank_in s t.funcs f
  mark_in_is t f =
      mark_is t.funcs (length t.atoms) (length (truths_at s t)) f
      (length-append (map (truth_of s) t.atoms) (falses_of (values_at s t)) ∙ ap₂ ◌+◌ (length-map t.atoms (truth_of s)) (falses_count t.funcs))

-- ---- a draft is finished by any marks that are those
map_same : {A B : Type 0} (f g : A → B) → ((x : A) → f x ≡ g x) → (xs : List A) → map f xs ≡ map g xs
map_same f g same [] = refl
map_same f g same (x ∷ xs) = ap₂ ◌∷◌ (same x) (map_same f g same xs)

pub finished_same : (mark : ℕ → ℕ) (atoms : ℕ) (rank : ℕ → ℕ) → ((f : ℕ) → mark f ≡ atoms + rank f) → (d : Draft) → finished_at mark d ≡ finished atoms rank d
finished_same mark atoms rank same d =
    ap₂ (λ (lits : List (ℕ × Bool)) (adds : List ℕ). with_both lits adds)
    (ap (λ l. d.action.lits ++ l) (map_same (λ (f : ℕ). (mark f, true)) (λ f. (atoms + rank f, true)) (λ f. ap (λ n. (n, true)) (same f)) d.reads))
    (ap (λ l. d.action.adds ++ l) (map_same mark (λ f. atoms + rank f) same d.assigns))
  where
    with_both : List (ℕ × Bool) → List ℕ → GAction
    with_both lits adds = record { lits = lits; cmps = d.action.cmps; adds = adds; dels = d.action.dels; incs = d.action.incs; sets = d.action.sets }

pub all_same : (mark : ℕ → ℕ) (atoms : ℕ) (rank : ℕ → ℕ) → ((f : ℕ) → mark f ≡ atoms + rank f) → (ds : List Draft) → map (finished_at mark) ds ≡ map (finished atoms rank) ds
all_same mark atoms rank same ds = map_same (finished_at mark) (finished atoms rank) (finished_same mark atoms rank same) ds

-- ---- marks one after another
falses_last : (vs : List (Option Fraction)) (v : Option Fraction) → falses_of (vs ++ v ∷ []) ≡ falses_of vs ++ false_of v
falses_last [] None = refl
falses_last [] (Some x) = refl
falses_last (None ∷ vs) v = ap (λ l. false ∷ l) (falses_last vs v)
falses_last (Some x ∷ vs) v = falses_last vs v

marks_last : (p : ℕ) (vs : List (Option Fraction)) (v : Option Fraction) → marks_from p (vs ++ v ∷ []) ≡ marks_from p vs ++ (p + length (falses_of vs)) ∷ []
marks_last p [] None = let none : p ≡ p + 0 = omega arith in ap (λ m. m ∷ []) none
marks_last p [] (Some x) = let none : p ≡ p + 0 = omega arith in ap (λ m. m ∷ []) none
marks_last p (None ∷ vs) v =
    let more : suc p + length (falses_of vs) ≡ p + suc (length (falses_of vs)) = omega arith in
    ap (λ l. p ∷ l) (marks_last (suc p) vs v ∙ ap (λ m. marks_from (suc p) vs ++ m ∷ []) more)
marks_last p (Some x ∷ vs) v = ap (λ l. p ∷ l) (marks_last p vs v)

pub marked_more : (old truths more_truths : List Bool) (marks more_marks : List ℕ) (values : List (Option Fraction)) (i : ℕ) (v : Option Fraction) → i < length values → v ≡ get_or values i v
    → AreMarked old truths marks (take i values) → IsMarked truths more_truths marks more_marks v → AreMarked old more_truths more_marks (take (i + 1) values)
marked_more old truths more_truths marks more_marks values i v within is so_far next =
    subst (AreMarked old more_truths more_marks) (sym (take_more values i v within ∙ ap (λ w. take i values ++ w ∷ []) (sym is))) (record {
      truths_are =
          next.truths_are ∙ ap (λ l. l ++ false_of v) so_far.truths_are ∙ append_assoc old (falses_of (take i values)) (false_of v) ∙ ap (λ l. old ++ l) (sym (falses_last (take i values) v));
      marks_are =
          next.marks_are
          ∙ ap₂ (λ l n. l ++ n ∷ []) so_far.marks_are (ap (λ (l : List Bool). length l) so_far.truths_are ∙ length-append old (falses_of (take i values)))
          ∙ sym (marks_last (length old) (take i values) v);
    })

pub marked_all : (old truths : List Bool) (marks : List ℕ) (values : List (Option Fraction)) (i : ℕ) → length values ≤ i → AreMarked old truths marks (take i values) → AreMarked old truths marks values
marked_all old truths marks values i past h = subst (AreMarked old truths marks) (take_all i values past) h
