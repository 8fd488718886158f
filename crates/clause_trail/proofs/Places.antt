-- The table of places.
use Rattle.std.proofs.Common.{◌≡◌, ◌≢◌, ◌≤◌, ℕ, zero, suc, replicate, length-append, length-set, ◌<◌, List, [], ◌∷◌, ◌++◌, length, Option, Some, None, set, get_or, ◌+◌, refl, sym, ap, arith, inl, inr, ◌∙◌}
use Rattle.std.specs.List.{slice_get, sum_by}
use Rattle.std.proofs.lemmas.List.Sums.{sum_by-set, sum_by_push}
use Rattle.std.proofs.lemmas.List.Folds.{sum_by-replicate}
use Rattle.std.proofs.lemmas.List.{length-replicate}
use Rattle.std.specs.Option.{option_flatten, MatchOption, IfSome}
use Rattle.std.proofs.lemmas.Option.{same_Some, get_or_from_slice_get}
use Rattle.std.proofs.lemmas.Bool.{cases_eq}
use Rattle.formula.specs.declared.atom.Lit.{Lit}
use Rattle.clause_trail.specs.declared.trail.Entry.{Entry}
use Rattle.clause_trail.specs.Standing.{Stands, IsApart, IsPlaced, IsTabled, IsFree, free_of}
use Rattle.clause_trail.proofs.Gets.{get-set_same, get-set_other, get-push_same, get-push_old, get-push_cases, get-within, get-at}

pub apart : (place : List (Option ℕ)) (entries : List Entry) → IsPlaced place entries → IsApart entries
apart place entries h i j l m a b e =
    same_Some i j (same_Some (Some i) (Some j) (sym (h.found i l a) ∙ ap (slice_get place) e ∙ h.found j m b))

pub place_found : (place : List (Option ℕ)) (entries : List Entry) → IsPlaced place entries → (b : ℕ) (r : Option (Option ℕ)) → slice_get place b ≡ r → MatchOption (option_flatten r) ((p : ℕ) (l : Lit) → Stands entries p l → l.boolean ≡ b → ⊥) (λ p. (l : Lit) × Stands entries p l × (l.boolean ≡ b))
place_found place entries h b None e = λ p l s eb. let f = h.found p l s in let g : slice_get place l.boolean ≡ slice_get place b = ap (slice_get place) eb in cc
place_found place entries h b (Some None) e = λ p l s eb. let f = h.found p l s in let g : slice_get place l.boolean ≡ slice_get place b = ap (slice_get place) eb in cc
place_found place entries h b (Some (Some p)) e = h.holds b p e

pub placed_push : (place : List (Option ℕ)) (entries : List Entry) → IsPlaced place entries → (e : Entry) → e.lit.boolean < length place → ((p : ℕ) (l : Lit) → Stands entries p l → l.boolean ≡ e.lit.boolean → ⊥) → IsPlaced (set place e.lit.boolean (Some (length entries))) (entries ++ e ∷ [])
placed_push place entries h e lt free = record {
  holds = λ b p s. elim (cases_eq b e.lit.boolean) [
    | inl same ↦
        let at : slice_get (set place e.lit.boolean (Some (length entries))) b ≡ Some (Some (length entries)) = rw same (get-set_same place e.lit.boolean (Some (length entries)) lt) in
        let is : length entries ≡ p = same_Some _ _ (same_Some _ _ (sym at ∙ s)) in
        (e.lit, (e.reason, rw (← is) (get-push_same entries e)), sym same)
    | inr other ↦
        let old = h.holds b p (sym (get-set_other place e.lit.boolean b (Some (length entries)) other) ∙ s) in
        (old.0, (old.1.0, get-push_old entries (e ∷ []) p _ old.1.1), old.2)
  ];
  found = λ p l s. elim (get-push_cases entries e p _ s.1) [
    | inl a ↦ get-set_other place e.lit.boolean l.boolean (Some (length entries)) (free p l (s.0, a)) ∙ h.found p l (s.0, a)
    | inr b ↦
        let lit : l ≡ e.lit = ap (λ (x : Entry). x.lit) b.1 in
        rw (lit, b.0) (get-set_same place e.lit.boolean (Some (length entries)) lt)
  ];
}

pub placed_pop : (place : List (Option ℕ)) (entries : List Entry) (e : Entry) → IsPlaced place (entries ++ e ∷ []) → IsPlaced (set place e.lit.boolean None) entries
placed_pop place entries e h = record {
  holds = λ b p s. elim (cases_eq b e.lit.boolean) [
    | inl same ↦ let lt = get-within (set place e.lit.boolean None) b _ s in
        let at : slice_get (set place e.lit.boolean None) b ≡ Some None = rw same (get-set_same place e.lit.boolean None (get-within place e.lit.boolean _ (h.found (length entries) e.lit (e.reason, get-push_same entries e)))) in
        absurd (cc)
    | inr other ↦
        let old = h.holds b p (sym (get-set_other place e.lit.boolean b None other) ∙ s) in
        elim (get-push_cases entries e p _ old.1.1) [
          | inl a ↦ (old.0, (old.1.0, a), old.2)
          | inr last ↦ let lit : old.0 ≡ e.lit = ap (λ (x : Entry). x.lit) last.1 in absurd (other (sym old.2 ∙ ap (λ (x : Lit). x.boolean) lit))
        ]
  ];
  found = λ p l s.
      let old = h.found p l (s.0, get-push_old entries (e ∷ []) p _ s.1) in
      let last = h.found (length entries) e.lit (e.reason, get-push_same entries e) in
      let other : l.boolean ≢ e.lit.boolean = λ same.
      let places : Some (Some p) ≡ Some (Some (length entries)) = sym old ∙ ap (slice_get place) same ∙ last in
      let is : p ≡ length entries = same_Some _ _ (same_Some _ _ places) in
      let lt : p < length entries = get-within entries p _ s.1 in
      omega arith in
      get-set_other place e.lit.boolean l.boolean None other ∙ old;
}

pub last_placed : (place : List (Option ℕ)) (entries : List Entry) (e : Entry) → IsPlaced place (entries ++ e ∷ []) → e.lit.boolean < length place
last_placed place entries e h = get-within place e.lit.boolean _ (h.found (length entries) e.lit (e.reason, get-push_same entries e))

pub place_within : (place : List (Option ℕ)) (entries : List Entry) → IsPlaced place entries → (b : ℕ) (r : Option (Option ℕ)) → slice_get place b ≡ r → IfSome (option_flatten r) (λ p. p < length entries)
place_within place entries h b None e = tt
place_within place entries h b (Some None) e = tt
place_within place entries h b (Some (Some p)) e = get-within entries p _ (h.holds b p e).1.1

free_at : (entries : List Entry) (place : List (Option ℕ)) (b : ℕ) → IsPlaced place entries → IsFree entries b → (o : Option ℕ) → slice_get place b ≡ Some o → o ≡ None
free_at entries place b h none None e = refl
free_at entries place b h none (Some p) e = let f = h.holds b p e in absurd (none p f.0 f.1 f.2)

pub free_push : (place : List (Option ℕ)) (entries : List Entry) → IsPlaced place entries → (b n : ℕ) → b < length place → IsFree entries b → sum_by free_of (set place b (Some n)) + 1 ≡ sum_by free_of place
free_push place entries h b n lt none =
    let at = get-at place b lt in
    let is : at.0 ≡ None = free_at entries place b h none at.0 at.1 in
    let was : get_or place b None ≡ None = get_or_from_slice_get place b at.0 None at.1 ∙ is in
    let s : sum_by free_of (set place b (Some n)) + free_of (get_or place b None) ≡ sum_by free_of place + 0 = sum_by-set free_of place b (Some n) None lt in
    let t : sum_by free_of (set place b (Some n)) + 1 ≡ sum_by free_of place + 0 = rw was at s in
    omega (arith, t)

pub placed_grow : (place : List (Option ℕ)) (entries : List Entry) → IsPlaced place entries → IsPlaced (place ++ None ∷ []) entries
placed_grow place entries h = record {
  holds = λ b p e. elim (get-push_cases place None b _ e) [ inl old ↦ h.holds b p old | inr new ↦ let f : Some p ≡ None = new.1 in absurd (cc) ];
  found = λ p l s. get-push_old place (None ∷ []) l.boolean _ (h.found p l s);
}

none_at : (n b p : ℕ) → slice_get (replicate n None) b ≡ Some (Some p) → ⊥
none_at zero b p h = cc
none_at (suc n) zero p h = cc
none_at (suc n) (suc b) p h = none_at n b p h

pub tabled_new : (n : ℕ) → IsTabled (replicate n None) []
tabled_new n =
    let none : Option ℕ = None in
    record {
      placed = record { holds = λ b p h. absurd (none_at n b p h); found = λ p l s. let h = s.1 in cc };
      counted = omega (arith, sum_by-replicate free_of n none, length-replicate n none);
    }

pub tabled_push : (place : List (Option ℕ)) (entries : List Entry) → IsTabled place entries → (e : Entry) → e.lit.boolean < length place → ((p : ℕ) (l : Lit) → Stands entries p l → l.boolean ≡ e.lit.boolean → ⊥) → IsTabled (set place e.lit.boolean (Some (length entries))) (entries ++ e ∷ [])
tabled_push place entries h e lt free = record {
  placed = placed_push place entries h.placed e lt free;
  counted = omega (arith, h.counted, free_push place entries h.placed e.lit.boolean (length entries) lt free, length-append entries (e ∷ []), length-set place e.lit.boolean (Some (length entries)));
}

pub tabled_pop : (place : List (Option ℕ)) (entries : List Entry) (e : Entry) → IsTabled place (entries ++ e ∷ []) → IsTabled (set place e.lit.boolean None) entries
tabled_pop place entries e h =
    let b = e.lit.boolean in
    let at : slice_get place b ≡ Some (Some (length entries)) = h.placed.found (length entries) e.lit (e.reason, get-push_same entries e) in
    let lt : b < length place = get-within place b _ at in
    let was : get_or place b None ≡ Some (length entries) = get_or_from_slice_get place b (Some (length entries)) None at in
    let s : sum_by free_of (set place b None) + free_of (get_or place b None) ≡ sum_by free_of place + 1 = sum_by-set free_of place b None None lt in
    let t : sum_by free_of (set place b None) + 0 ≡ sum_by free_of place + 1 = rw was at s in
    record {
      placed = placed_pop place entries e h.placed;
      counted = omega (arith, t, h.counted, length-append entries (e ∷ []), length-set place b None);
    }

pub tabled_grow : (place : List (Option ℕ)) (entries : List Entry) → IsTabled place entries → IsTabled (place ++ None ∷ []) entries
tabled_grow place entries h =
    let none : Option ℕ = None in
    record { placed = placed_grow place entries h.placed; counted = omega (arith, h.counted, sum_by_push free_of place None, length-append place (none ∷ [])) }

pub room : (place : List (Option ℕ)) (entries : List Entry) {n m : ℕ} → IsTabled place entries → m ≡ length entries → length place ≡ n → m ≤ n
room place entries h e f = omega (arith, h.counted, e, f)
