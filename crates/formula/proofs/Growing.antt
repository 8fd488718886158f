-- A formula with one more variable or one more Boolean is a formula.
use Rattle.std.proofs.Common.{◌≡◌, ◌<◌, ◌≤◌, ℕ, suc, Bool, true, false, List, [], ◌∷◌, ◌++◌, length, Option, Some, None, refl, sym, ap, subst, ◌∙◌, arith, nat_lt, nat_le, length-append}
use Rattle.std.specs.Prelude.{slice_get, unwrap_or}
use Rattle.std.specs.List.{list_all}
use Rattle.std.proofs.lemmas.Bool.{and_parts, and_from}
use Rattle.std.proofs.lemmas.Bool.Decides.{nat_tests}
use Rattle.std.proofs.lemmas.List.{get_or_append_left}
use Rattle.std.proofs.lemmas.List.Elements.{All-push, All-weaker}
use Rattle.std.proofs.lemmas.Option.{slice_get-get_or}
use Rattle.rational.specs.Linear.{Terms}
use Rattle.lin.specs.Linear.{AreBelow}
use Rattle.formula.specs.declared.atom.Atom.{Atom}
use Rattle.formula.specs.declared.atom.Lit.{Lit}
use Rattle.formula.specs.Atoms.{IsAtom, is_one_count}
use Rattle.formula.specs.Contents.{Contents, IsFormula, IsBoolean, is_clause, is_clause_from, with_variable, with_boolean}

-- ---- lists with one more at the end
before : {X : Type 0} (xs : List X) (x d : X) (i : ℕ) → i < length xs → slice_get (xs ++ x ∷ []) i ≡ slice_get xs i
before xs x d i h =
    let longer : i < length (xs ++ x ∷ []) = omega (arith, length-append xs (x ∷ [])) in
    slice_get-get_or (xs ++ x ∷ []) i d longer ∙ ap Some (get_or_append_left xs (x ∷ []) d i h) ∙ sym (slice_get-get_or xs i d h)

at_most : (m n k : ℕ) → n ≤ k → nat_lt m n ≡ true → nat_lt m k ≡ true
at_most m n k h e = grind (arith, nat_tests)

is_less : (m n : ℕ) → nat_lt m n ≡ true → m < n
is_less m n e = grind (arith, nat_tests)

-- ---- one more variable
pub below-more : (n k : ℕ) → n ≤ k → (ts : Terms) → AreBelow n ts → AreBelow k ts
below-more n k h [] e = refl
below-more n k h (t ∷ ts) e = let p = and_parts (nat_lt t.0 n) _ e in and_from _ _ (at_most t.0 n k h p.0) (below-more n k h ts p.1)

one_count-more : (counts : List Bool) (c : Bool) (ts : Terms) → AreBelow (length counts) ts → is_one_count (counts ++ c ∷ []) ts ≡ is_one_count counts ts
one_count-more counts c [] e = refl
one_count-more counts c (t ∷ []) e = ap (λ o. unwrap_or o false) (before counts c false t.0 (is_less t.0 (length counts) (and_parts (nat_lt t.0 (length counts)) _ e).0))
one_count-more counts c (t ∷ u ∷ ts) e = refl

atom-more : (counts : List Bool) (c : Bool) (a : Atom) → IsAtom counts a → IsAtom (counts ++ c ∷ []) a
atom-more counts c a h = record {
  constant = h.constant;
  leading = h.leading;
  known = below-more (length counts) (length (counts ++ c ∷ [])) (omega (arith, length-append counts (c ∷ []))) a.lin.terms h.known;
  rounded = λ e. h.rounded (sym (one_count-more counts c a.lin.terms h.known) ∙ e);
}

boolean-more : (counts : List Bool) (c : Bool) (a : Option Atom) → IsBoolean counts a → IsBoolean (counts ++ c ∷ []) a
boolean-more counts c None h = h
boolean-more counts c (Some a) h = atom-more counts c a h

pub formula-variable : (f : Contents) (c : Bool) → IsFormula f → IsFormula (with_variable c f)
formula-variable f c h = record {
  atoms = All-weaker (IsBoolean f.counts) (IsBoolean (f.counts ++ c ∷ [])) (boolean-more f.counts c) f.atoms h.atoms;
  clauses = h.clauses;
}

-- ---- one more Boolean
clause-more : (n k least : ℕ) → n ≤ k → (ls : List Lit) → is_clause_from least n ls ≡ true → is_clause_from least k ls ≡ true
clause-more n k least h [] e = refl
clause-more n k least h (l ∷ ls) e =
    let p = and_parts (nat_le least l.boolean) _ e in
    let q = and_parts (nat_lt l.boolean n) _ p.1 in
    and_from _ _ p.0 (and_from _ _ (at_most l.boolean n k h q.0) (clause-more n k (suc l.boolean) h ls q.1))

pub clauses-more : (n k : ℕ) → n ≤ k → (cs : List (List Lit)) → list_all (is_clause n) cs ≡ true → list_all (is_clause k) cs ≡ true
clauses-more n k h [] e = refl
clauses-more n k h (c ∷ cs) e = let p = and_parts (is_clause n c) _ e in and_from _ _ (clause-more n k 0 h c p.0) (clauses-more n k h cs p.1)

pub formula-boolean : (f : Contents) (a : Option Atom) → IsFormula f → IsBoolean f.counts a → IsFormula (with_boolean a f)
formula-boolean f a h b = record {
  atoms = All-push (IsBoolean f.counts) f.atoms a h.atoms b;
  clauses = clauses-more (length f.atoms) (length (f.atoms ++ a ∷ [])) (omega (arith, length-append f.atoms (a ∷ []))) f.clauses h.clauses;
}

-- ---- the same, of the parts of the program
abbrev contents : List Bool → List (Option Atom) → List (List Lit) → Contents
contents counts atoms clauses = record { counts = counts; atoms = atoms; clauses = clauses }

pub pushed-variable : (counts more : List Bool) (atoms : List (Option Atom)) (clauses : List (List Lit)) (c : Bool) → IsFormula (contents counts atoms clauses)
    → more ≡ counts ++ c ∷ [] → IsFormula (contents more atoms clauses)
pushed-variable counts more atoms clauses c h e =
    subst (λ (cs : List Bool). IsFormula (contents cs atoms clauses)) (sym e) (formula-variable (contents counts atoms clauses) c h)

pub pushed-boolean : (counts : List Bool) (atoms more : List (Option Atom)) (clauses : List (List Lit)) (a : Option Atom) → IsFormula (contents counts atoms clauses)
    → IsBoolean counts a → more ≡ atoms ++ a ∷ [] → IsFormula (contents counts more clauses)
pushed-boolean counts atoms more clauses a h b e =
    subst (λ (xs : List (Option Atom)). IsFormula (contents counts xs clauses)) (sym e) (formula-boolean (contents counts atoms clauses) a h b)
