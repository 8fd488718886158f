-- A text has one spelling at most: the sign, the digits in front, and the digits behind the mark are told by the text.
use Rattle.std.proofs.Common.{◌≡◌, ◌≢◌, ℕ, zero, suc, ◌+◌, ◌-◌, ◌*◌, ◌<◌, ◌≤◌, Bool, true, false, cond, Option, Some, None, List, [], ◌∷◌, ◌++◌, length, length-append, take, drop, get_or, refl, sym, ap, ap₂, subst, ◌∙◌, arith, rules}
use Rattle.std.proofs.lemmas.List.{append-nil, take-append-drop}
use Rattle.std.specs.Option.{IfSome}
use Rattle.std.proofs.lemmas.Str.Parse.{digit_from_value, digit_at}
use Rattle.std.proofs.Math.Seq.{take-append_seam, drop-append_seam, drop-cons, take-length}
use Rattle.std.specs.Int.{IsInRange}
use Rattle.std.specs.Char.{digit_value, is_ascii_digit}
use Rattle.std.specs.Fmt.{sign_text}
use Rattle.std.specs.List.{prefix_len}
use Rattle.std.specs.Prelude.{slice_index}
use Rattle.std.specs.Str.Parse.{AllDigits, IsNumeral, digits_value_after}
use Rattle.frac128.specs.Text.{Spelling, Spells, behind}

abbrev pub digit_test : ℕ → Bool
digit_test = is_ascii_digit

pub passes : (c : ℕ) → digit_value c < 10 → digit_test c ≡ true
passes c h = let r = digit_from_value c h in search rules

pub value_of_passing : (c : ℕ) → digit_test c ≡ true → digit_value c < 10
value_of_passing c h = search rules

prefix_by : (c : ℕ) (cs : List ℕ) (t : Bool) → digit_test c ≡ t → cond t (1 + prefix_len digit_test cs) 0 ≡ length (c ∷ cs) → (prefix_len digit_test cs ≡ length cs → AllDigits 10 cs) → AllDigits 10 (c ∷ cs)
prefix_by c cs true e h f = (value_of_passing c e, f (omega arith))
prefix_by c cs false e h f = absurd (omega arith)

-- digits alone are their own front of digits
pub all_from_prefix : (cs : List ℕ) → prefix_len digit_test cs ≡ length cs → AllDigits 10 cs
all_from_prefix [] h = tt
all_from_prefix (c ∷ cs) h = prefix_by c cs _ refl h (all_from_prefix cs)

-- the front of digits ends where other text begins
pub prefix-append : (cs ds : List ℕ) → AllDigits 10 cs → prefix_len digit_test ds ≡ 0 → prefix_len digit_test (cs ++ ds) ≡ length cs
prefix-append [] ds h e = e
prefix-append (c ∷ cs) ds h e =
    let n = prefix-append cs ds h.1 e in ap (λ (t : Bool). cond t (1 + prefix_len digit_test (cs ++ ds)) 0) (passes c h.0) ∙ omega arith

pub prefix_from_all : (cs : List ℕ) → AllDigits 10 cs → prefix_len digit_test cs ≡ length cs
prefix_from_all cs h = ap (prefix_len digit_test) (sym (append-nil cs)) ∙ prefix-append cs [] h refl

front_by : (c : ℕ) (cs : List ℕ) (t : Bool) → digit_test c ≡ t → AllDigits 10 (take (prefix_len digit_test cs) cs) → AllDigits 10 (take (cond t (1 + prefix_len digit_test cs) 0) (c ∷ cs))
front_by c cs true e h =
    let n = prefix_len digit_test cs in let k : suc n ≡ 1 + n = omega arith in
    subst (λ m. AllDigits 10 (take m (c ∷ cs))) k (value_of_passing c e, h)
front_by c cs false e h = tt

pub all_front : (cs : List ℕ) → AllDigits 10 (take (prefix_len digit_test cs) cs)
all_front [] = tt
all_front (c ∷ cs) = front_by c cs _ refl (all_front cs)

behind_none : (mark : ℕ) (o : Option (List ℕ)) → 46 ≤ mark → mark ≤ 47 → prefix_len digit_test (behind mark o) ≡ 0
behind_none mark None p q = refl
behind_none mark (Some ds) p q = let e : digit_test mark ≡ false = search rules in ap (λ (t : Bool). cond t (1 + prefix_len digit_test ds) 0) e

-- what a text's spelling is, given its sign
pub record IsParted (mark : ℕ) (negative : Bool) (unsigned : List ℕ) (s : Spelling) : Type 0 where
  pub sign : s.negative ≡ negative
  pub top : s.top ≡ take (prefix_len digit_test unsigned) unsigned
  pub bottom : behind mark s.bottom ≡ drop (prefix_len digit_test unsigned) unsigned

parted : (mark : ℕ) (s : Spelling) (n : Bool) (unsigned : List ℕ) → 46 ≤ mark → mark ≤ 47 → AllDigits 10 s.top → s.negative ≡ n → s.top ++ behind mark s.bottom ≡ unsigned → IsParted mark n unsigned s
parted mark s n unsigned p q h e f =
    let b = behind mark s.bottom in
    let l : prefix_len digit_test unsigned ≡ length s.top = ap (prefix_len digit_test) (sym f) ∙ prefix-append s.top b h (behind_none mark s.bottom p q) in
    record {
      sign = e;
      top = sym (ap₂ (λ (n : ℕ) (xs : List ℕ). take n xs) l (sym f) ∙ take-append_seam s.top b);
      bottom = sym (ap₂ (λ (n : ℕ) (xs : List ℕ). drop n xs) l (sym f) ∙ drop-append_seam s.top b);
    }

first_digit : (cs ds : List ℕ) (c : ℕ) (es : List ℕ) → IsNumeral 10 cs → cs ++ ds ≡ c ∷ es → digit_value c < 10
first_digit [] ds c es h e = absurd (omega (arith, h.0))
first_digit (x ∷ xs) ds c es h e = let f : x ≡ c = cc in subst (λ n. digit_value n < 10) f h.1.0

by_sign : (mark : ℕ) (text : List ℕ) (m n : Bool) (s : Spelling) (unsigned : List ℕ) → 46 ≤ mark → mark ≤ 47 → IsNumeral 10 s.top → s.negative ≡ m → text ≡ sign_text m ++ (s.top ++ behind mark s.bottom)
    → text ≡ sign_text n ++ unsigned → (n ≡ false → slice_index text 0 ≢ 45) → IsParted mark n unsigned s
by_sign mark text true true s unsigned p q h e f g k = let j : s.top ++ behind mark s.bottom ≡ unsigned = cc in parted mark s true unsigned p q h.1 e j
by_sign mark text true false s unsigned p q h e f g k = absurd (k refl (ap (λ (xs : List ℕ). slice_index xs 0) f))
by_sign mark text false true s unsigned p q h e f g k = absurd (omega (arith, first_digit s.top (behind mark s.bottom) 45 unsigned h (sym f ∙ g)))
by_sign mark text false false s unsigned p q h e f g k = parted mark s false unsigned p q h.1 e (sym f ∙ g)

pub spelling_parted : (mark : ℕ) (text : List ℕ) (n : Bool) (unsigned : List ℕ) → 46 ≤ mark → mark ≤ 47 → text ≡ sign_text n ++ unsigned → (n ≡ false → slice_index text 0 ≢ 45) → (s : Spelling) → Spells mark text s → IsParted mark n unsigned s
spelling_parted mark text n unsigned p q g k s h = by_sign mark text s.negative n s unsigned p q h.top refl h.whole g k

-- ---- the number that digits make
pub value_ge : (v : ℕ) (ds : List ℕ) → v ≤ digits_value_after 10 v ds
value_ge v [] = omega arith
value_ge v (d ∷ ds) = omega (arith, value_ge (v * 10 + digit_value d) ds)

value_of_digit : (c : ℕ) → IsInRange 48 57 c → digit_value c ≡ c - 48
value_of_digit c h = search rules

pub value_step : (v : ℕ) (ds : List ℕ) (i : ℕ) → AllDigits 10 ds → i < length ds → digits_value_after 10 v (drop i ds) ≡ digits_value_after 10 (v * 10 + (get_or ds i 0 - 48)) (drop (i + 1) ds)
value_step v ds i h l =
    let k : suc i ≡ i + 1 = omega arith in
    ap (digits_value_after 10 v) (drop-cons ds i 0 l)
    ∙ ap₂ (λ (n : ℕ) (xs : List ℕ). digits_value_after 10 (v * 10 + n) xs) (value_of_digit _ (digit_at ds i h l)) (ap (λ (n : ℕ). drop n ds) k)

pub passed_on : (v w n : ℕ) (ds : List ℕ) (i : ℕ) → AllDigits 10 ds → i < length ds → digits_value_after 10 v (drop i ds) ≡ w → n ≤ v * 10 + (get_or ds i 0 - 48) → n ≤ w
passed_on v w n ds i h l e p = omega (arith, value_step v ds i h l, value_ge (v * 10 + (get_or ds i 0 - 48)) (drop (i + 1) ds))

-- ---- the answers
pub numeral_from_prefix : (cs : List ℕ) → 0 < length cs → prefix_len digit_test cs ≡ length cs → IsNumeral 10 cs
numeral_from_prefix cs p e = (p, all_from_prefix cs e)

-- a text cut behind its sign and its digits
pub record IsCut (mark : ℕ) (text : List ℕ) (n : Bool) (top rest : List ℕ) : Type 0 where
  pub whole : text ≡ sign_text n ++ (top ++ rest)
  pub digits : AllDigits 10 top
  pub spelling : (s : Spelling) → Spells mark text s → (s.top ≡ top) × (behind mark s.bottom ≡ rest)

pub cut_is : {mark : ℕ} {text : List ℕ} {n : Bool} (u : List ℕ) {k : ℕ} {top rest : List ℕ} → (46 ≤ mark) × (mark ≤ 47) → text ≡ sign_text n ++ u → (n ≡ false → slice_index text 0 ≢ 45)
    → k ≡ prefix_len digit_test u → top ≡ take k u → rest ≡ drop k u → IsCut mark text n top rest
cut_is {mark} {text} {n} u {k} {top} {rest} m w f e p q =
    let p' : top ≡ take (prefix_len digit_test u) u = p ∙ ap (λ (i : ℕ). take i u) e in
    let q' : rest ≡ drop (prefix_len digit_test u) u = q ∙ ap (λ (i : ℕ). drop i u) e in
    record {
      whole = w ∙ ap (λ (xs : List ℕ). sign_text n ++ xs) (sym (ap₂ (λ (xs ys : List ℕ). xs ++ ys) p q ∙ take-append-drop k u));
      digits = subst (AllDigits 10) (sym p') (all_front u);
      spelling = λ s h. let r = spelling_parted mark text n u m.0 m.1 w f s h in (r.top ∙ sym p', r.bottom ∙ sym q');
    }

pub none_empty : {mark : ℕ} {text : List ℕ} {n : Bool} {top rest : List ℕ} → IsCut mark text n top rest → length top ≡ 0 → (s : Spelling) → Spells mark text s → ⊥
none_empty c e s h = let t = (c.spelling s h).0 in omega (arith, h.top.0, ap length t)

pub spells_whole : {mark : ℕ} {text : List ℕ} {n : Bool} {top rest : List ℕ} → IsCut mark text n top rest → 0 < length top → length rest < 1 → Spells mark text (record { negative = n; top = top; bottom = None })
spells_whole {mark = mark} {text = text} {n = n} {top = top} {rest = []} c p q = record { whole = c.whole; top = (p, c.digits); bottom = tt }
spells_whole {mark = mark} {text = text} {n = n} {top = top} {rest = x ∷ rest} c p q = absurd (omega arith)

-- what stands behind the first byte, as a slice
abbrev pub tail_of : List ℕ → List ℕ
tail_of rest = take (length rest - 1) (drop 1 rest)

tail-cons : (x : ℕ) (xs : List ℕ) → tail_of (x ∷ xs) ≡ xs
tail-cons x xs = let e : length (x ∷ xs) - 1 ≡ length xs = omega arith in ap (λ (n : ℕ). take n xs) e ∙ take-length xs

pub spells_behind : {mark : ℕ} {text : List ℕ} {n : Bool} {top rest : List ℕ} → IsCut mark text n top rest → 0 < length top → 1 ≤ length rest → get_or rest 0 0 ≡ mark → IsNumeral 10 (tail_of rest)
    → Spells mark text (record { negative = n; top = top; bottom = Some (tail_of rest) })
spells_behind {mark = mark} {text = text} {n = n} {top = top} {rest = []} c p q e h = absurd (omega arith)
spells_behind {mark = mark} {text = text} {n = n} {top = top} {rest = x ∷ rest} c p q e h = record {
  whole = c.whole ∙ ap₂ (λ (y : ℕ) (ys : List ℕ). sign_text n ++ (top ++ y ∷ ys)) e (sym (tail-cons x rest));
  top = (p, c.digits);
  bottom = h;
}

refused_by : {mark : ℕ} (o : Option (List ℕ)) (x : ℕ) (rest : List ℕ) → behind mark o ≡ x ∷ rest → IfSome o (IsNumeral 10) → (mark ≡ x) × IsNumeral 10 rest
refused_by None x rest e h = cc
refused_by (Some ds) x rest e h = let f : ds ≡ rest = cc in (cc, subst (IsNumeral 10) f h)

pub none_behind : {mark : ℕ} {text : List ℕ} {n : Bool} {top rest : List ℕ} → IsCut mark text n top rest → 1 ≤ length rest → (get_or rest 0 0 ≡ mark → IsNumeral 10 (tail_of rest) → ⊥) → (s : Spelling) → Spells mark text s → ⊥
none_behind {mark = mark} {text = text} {n = n} {top = top} {rest = []} c q f s h = absurd (omega arith)
none_behind {mark = mark} {text = text} {n = n} {top = top} {rest = x ∷ rest} c q f s h =
    let r = refused_by s.bottom x rest (c.spelling s h).1 h.bottom in f (sym r.0) (subst (IsNumeral 10) (sym (tail-cons x rest)) r.1)

-- ---- one spelling
no_minus : (mark : ℕ) (text : List ℕ) (n : Bool) (s : Spelling) → s.negative ≡ n → text ≡ sign_text n ++ (s.top ++ behind mark s.bottom) → IsNumeral 10 s.top → n ≡ false → slice_index text 0 ≢ 45
no_minus mark [] n s e f h k i = absurd (omega (arith, ap length f, length-append (sign_text n) (s.top ++ behind mark s.bottom), length-append s.top (behind mark s.bottom), h.0, i))
no_minus mark (c ∷ cs) n s e f h k i =
    let P : Bool → Type 0 = λ b. c ∷ cs ≡ sign_text b ++ (s.top ++ behind mark s.bottom) in
    let j = first_digit s.top (behind mark s.bottom) c cs h (sym (subst P k f)) in
    let l = subst (λ (n : ℕ). digit_value n < 10) i j in absurd (omega arith)

same_behind : (mark : ℕ) (o p : Option (List ℕ)) → behind mark o ≡ behind mark p → o ≡ p
same_behind mark None None e = refl
same_behind mark None (Some ds) e = cc
same_behind mark (Some cs) None e = cc
same_behind mark (Some cs) (Some ds) e = cc

same_parts : (s t : Spelling) → s.negative ≡ t.negative → s.top ≡ t.top → s.bottom ≡ t.bottom → s ≡ t
same_parts s t e f g =
    let make = λ (n : Bool) (top : List ℕ) (bottom : Option (List ℕ)). let r : Spelling = record { negative = n; top = top; bottom = bottom } in r in
    ap₂ (λ (n : Bool) (top : List ℕ). make n top s.bottom) e f ∙ ap (make t.negative t.top) g

pub same_spelling : {mark : ℕ} {text : List ℕ} (s t : Spelling) → 46 ≤ mark → mark ≤ 47 → Spells mark text s → Spells mark text t → s ≡ t
same_spelling {mark} {text} s t p q h j =
    let u = s.top ++ behind mark s.bottom in
    let k = no_minus mark text s.negative s refl h.whole h.top in
    let a = spelling_parted mark text s.negative u p q h.whole k s h in let b = spelling_parted mark text s.negative u p q h.whole k t j in
    same_parts s t (sym b.sign) (a.top ∙ sym b.top) (same_behind mark s.bottom t.bottom (a.bottom ∙ sym b.bottom))

pub value-append : (v : ℕ) (xs ys : List ℕ) → digits_value_after 10 v (xs ++ ys) ≡ digits_value_after 10 (digits_value_after 10 v xs) ys
value-append v [] ys = refl
value-append v (x ∷ xs) ys = value-append (v * 10 + digit_value x) xs ys

pub digits-take : (n : ℕ) (ds : List ℕ) → AllDigits 10 ds → AllDigits 10 (take n ds)
digits-take zero ds h = tt
digits-take (suc n) [] h = tt
digits-take (suc n) (d ∷ ds) h = (h.0, digits-take n ds h.1)
