-- The parts that a text is cut into are its spelling, and what `from_decimal` reads is their number.
use Rattle.std.proofs.Common.{◌≡◌, ◌≢◌, ℕ, ◌<◌, ◌≤◌, ◌^◌, Bool, true, false, cond, eqb, ◌&&◌, ◌⊎◌, Option, Some, None, Result, Ok, Err, List, [], ◌∷◌, ◌++◌, length, length-take-le, take, drop, eqb-true, eq-eqb, leb-true, le-leb, inl, inr, refl, sym, ap, ap₂, subst, ◌∙◌, arith}
use Rattle.std.proofs.lemmas.Bool.{false≢true}
use Rattle.std.proofs.lemmas.Bool.Decides.{Decides-and, Decides-eqb, Decides-ltb}
use Rattle.std.proofs.lemmas.List.{take-append-drop}
use Rattle.std.proofs.lemmas.List.Sums.{prefix_len-le-length}
use Rattle.std.proofs.lemmas.Option.{none-some, same_Some, cond_some}
use Rattle.std.specs.Bool.{Decides}
use Rattle.std.specs.Fmt.{sign_text}
use Rattle.std.specs.List.{list_all, prefix_len}
use Rattle.std.specs.Option.{IfSome, option_and_then}
use Rattle.std.specs.Prelude.{slice_index}
use Rattle.std.specs.Result.{result_ok}
use Rattle.std.specs.Str.Parse.{AllDigits, IsNumeral, starts_with_minus}
use Rattle.rational.specs.Fraction.{Fraction}
use Rattle.frac128.specs.declared.text.NumFault.{NumFault}
use Rattle.frac128.specs.declared.text.NumFault.TheVariants.{Form, Wide}
use Rattle.frac128.specs.Text.{Spelling, Spells, behind}
use Rattle.frac128.specs.Decimal.{places, all_digits_value, ReadsDecimal}
use Rattle.frac128.specs.Number.{unsigned, is_numeral, parts_behind, spelling_of, fits, number_where, number_of}
use Rattle.frac128.proofs.OneSpelling.{digit_test, passes, value_of_passing, all_front, spelling_parted}

-- ---- the tests
decides_digits : (ds : List ℕ) → Decides (list_all digit_test ds) (AllDigits 10 ds)
decides_digits [] = (λ e. tt, λ h. refl)
decides_digits (d ∷ ds) = Decides-and (digit_test d) (list_all digit_test ds) (value_of_passing d, passes d) (decides_digits ds)

decides_numeral : (ds : List ℕ) → Decides (is_numeral ds) (IsNumeral 10 ds)
decides_numeral ds = Decides-and _ _ (Decides-ltb 0 (length ds)) (decides_digits ds)

-- the mark and a number stand behind the digits in front
decides_behind : (mark c : ℕ) (ds : List ℕ) → Decides (eqb c mark && is_numeral ds) ((c ≡ mark) × IsNumeral 10 ds)
decides_behind mark c ds = Decides-and _ _ (Decides-eqb c mark) (decides_numeral ds)

decides_fits : (s : Spelling) → Decides (fits s) ((places s ≤ 38) × (all_digits_value s < 2 ^ 127))
decides_fits s = Decides-and _ _ (leb-true (places s) 38, le-leb (places s) 38) (Decides-ltb (all_digits_value s) (2 ^ 127))

not_true : (t : Bool) → (t ≡ true → ⊥) → t ≡ false
not_true true h = absurd (h refl)
not_true false h = refl

-- ---- the sign
by_minus : (c : ℕ) (cs : List ℕ) (t : Bool) → eqb c 45 ≡ t → c ∷ cs ≡ sign_text t ++ drop (cond t 1 0) (c ∷ cs)
by_minus c cs true e = ap (λ (x : ℕ). x ∷ cs) (eqb-true c 45 e)
by_minus c cs false e = refl

cut_sign : (text : List ℕ) → text ≡ sign_text (starts_with_minus text) ++ unsigned text
cut_sign [] = refl
cut_sign (c ∷ cs) = by_minus c cs _ refl

no_sign : (text : List ℕ) → starts_with_minus text ≡ false → slice_index text 0 ≢ 45
no_sign text e h = absurd (false≢true (sym e ∙ eq-eqb _ _ h))

-- ---- a spelling is what the text is cut into
parts_there : (mark : ℕ) (n : Bool) (top : List ℕ) (o : Option (List ℕ)) → IfSome o (IsNumeral 10) → parts_behind mark n top (behind mark o) ≡ Some (record { negative = n; top = top; bottom = o })
parts_there mark n top None h = refl
parts_there mark n top (Some ds) h =
    let s : Spelling = record { negative = n; top = top; bottom = Some ds } in
    ap (λ (t : Bool). cond t (Some s) None) ((decides_behind mark mark ds).1 (refl, h))

front_there : (k : ℕ) (top u : List ℕ) → top ≡ take k u → 0 < length top → eqb k 0 ≡ false
front_there k top u e h = not_true (eqb k 0) (λ t. let i = ap length (e ∙ ap (λ (n : ℕ). take n u) (eqb-true k 0 t)) in absurd (omega arith))

pub spelling_from_spells : (mark : ℕ) (text : List ℕ) (s : Spelling) → 46 ≤ mark → mark ≤ 47 → Spells mark text s → spelling_of mark text ≡ Some s
unfolding spelling_of
spelling_from_spells mark text s a b h =
    let u = unsigned text in let k = prefix_len digit_test u in let n = starts_with_minus text in
    let p = spelling_parted mark text n u a b (cut_sign text) (no_sign text) s h in
    ap (λ (t : Bool). cond t None (parts_behind mark n (take k u) (drop k u))) (front_there k s.top u p.top h.top.0)
    ∙ ap₂ (λ (xs ys : List ℕ). parts_behind mark n xs ys) (sym p.top) (sym p.bottom)
    ∙ ap (λ (m : Bool). parts_behind mark m s.top (behind mark s.bottom)) (sym p.sign)
    ∙ parts_there mark s.negative s.top s.bottom h.bottom

-- ---- what a text is cut into is a spelling
some_otherwise : {A : Type 0} (t : Bool) (o : Option A) (x : A) → cond t None o ≡ Some x → (t ≡ false) × (o ≡ Some x)
some_otherwise true o x e = absurd (none-some x e)
some_otherwise false o x e = (refl, e)

spells_by : (mark : ℕ) (text : List ℕ) (n : Bool) (top rest : List ℕ) (s : Spelling) → text ≡ sign_text n ++ (top ++ rest) → IsNumeral 10 top → parts_behind mark n top rest ≡ Some s → Spells mark text s
spells_by mark text n top [] s w d e =
    let r : Spelling = record { negative = n; top = top; bottom = None } in
    let h : Spells mark text r = record { whole = w; top = d; bottom = tt } in subst (Spells mark text) (same_Some r s e) h
spells_by mark text n top (c ∷ ds) s w d e =
    let r : Spelling = record { negative = n; top = top; bottom = Some ds } in
    let p = cond_some (eqb c mark && is_numeral ds) r s e in let q = (decides_behind mark c ds).0 p.0 in
    let h : Spells mark text r = record { whole = w ∙ ap (λ (x : ℕ). sign_text n ++ (top ++ x ∷ ds)) q.0; top = d; bottom = q.1 } in subst (Spells mark text) p.1 h

front_numeral : (u : List ℕ) → eqb (prefix_len digit_test u) 0 ≡ false → IsNumeral 10 (take (prefix_len digit_test u) u)
front_numeral u e =
    let k = prefix_len digit_test u in let n : k ≢ 0 = λ z. absurd (false≢true (sym e ∙ eq-eqb _ _ z)) in
    (omega (arith, length-take-le k u (prefix_len-le-length digit_test u)), all_front u)

pub spells_from_spelling : (mark : ℕ) (text : List ℕ) (s : Spelling) → spelling_of mark text ≡ Some s → Spells mark text s
unfolding spelling_of
spells_from_spelling mark text s e =
    let u = unsigned text in let k = prefix_len digit_test u in let n = starts_with_minus text in
    let p = some_otherwise (eqb k 0) (parts_behind mark n (take k u) (drop k u)) s e in
    let w : text ≡ sign_text n ++ (take k u ++ drop k u) = cut_sign text ∙ ap (λ (xs : List ℕ). sign_text n ++ xs) (sym (take-append-drop k u)) in
    spells_by mark text n (take k u) (drop k u) s w (front_numeral u p.0) p.1

-- ---- the number
number_at : (text : List ℕ) (s : Spelling) (t : Bool) → Spells 46 text s → fits s ≡ t → number_of text ≡ number_where t s
unfolding number_of
number_at text s t h e =
    ap (option_and_then (λ (r : Spelling). number_where (fits r) r)) (spelling_from_spells 46 text s (omega arith) (omega arith) h) ∙ ap (λ (b : Bool). number_where b s) e

none_by : (o : Option Spelling) → ((s : Spelling) → o ≡ Some s → ⊥) → option_and_then (λ (r : Spelling). number_where (fits r) r) o ≡ None
none_by None h = refl
none_by (Some s) h = absurd (h s refl)

-- a text that spells no number with a point has none
pub number_none : (text : List ℕ) → ((s : Spelling) → Spells 46 text s → ⊥) → number_of text ≡ None
unfolding number_of
number_none text h = none_by (spelling_of 46 text) (λ s e. h s (spells_from_spelling 46 text s e))

too_wide : (s : Spelling) → (38 < places s) ⊎ (2 ^ 127 ≤ all_digits_value s) → fits s ≡ true → ⊥
too_wide s (inl p) e = let h = (decides_fits s).0 e in omega (arith, h.0, p)
too_wide s (inr p) e = let h = (decides_fits s).0 e in omega (arith, h.1, p)

pub number_from_reads : (text : List ℕ) (r : Result Fraction NumFault) → ReadsDecimal text r → result_ok r ≡ number_of text
number_from_reads text (Ok x) (s, f, a, b, e) = ap Some e ∙ sym (number_at text s true f ((decides_fits s).1 (a, b)))
number_from_reads text (Err Wide) (s, f, p) = sym (number_at text s false f (not_true (fits s) (too_wide s p)))
number_from_reads text (Err Form) h = sym (number_none text h)
