-- What the theory's answers say of the trail.
use Rattle.std.proofs.Common.{◌≡◌, ℕ, Bool, List, length, Option, Some, Ok, Err, Result, refl, sym, ap, inl, inr, subst, ◌∙◌, get_or}
use Rattle.std.specs.List.{slice_get, Contains, All}
use Rattle.std.specs.Result.{IfOk, IfErr, MatchResult}
use Rattle.std.proofs.lemmas.List.Elements.{All-contains}
use Rattle.rational.specs.Fraction.{Fraction}
use Rattle.formula.specs.declared.atom.Lit.{Lit}
use Rattle.formula.specs.declared.atom.Atom.{Atom}
use Rattle.formula.specs.Contents.{Contents}
use Rattle.theory_law.specs.declared.verdict.Verdict.{Verdict}
use Rattle.theory_law.specs.declared.verdict.Verdict.TheVariants.{Fits, Clash, Cut}
use Rattle.theory_law.specs.declared.verdict.TheoryFail.{TheoryFail}
use Rattle.theory_law.specs.declared.verdict.TheoryFail.TheVariants.{Wide, Pivots, Memory}
use Rattle.theory_law.specs.declared.trace.Trace.{Trace}
use Rattle.formula.specs.Reading.{opposite}
use Rattle.theory_law.specs.Seen.{Seen, IsAsserted, with_asserted}
use Rattle.theory_law.specs.Verdicts.{MeetsAsserted, VerdictHolds, FailHolds, IsStuckAt}
use Rattle.clause_trail.specs.declared.trail.Entry.{Entry}
use Rattle.clause_trail.specs.Standing.{Stands, IsApart}
use Rattle.clause_trail.specs.Propagation.{IsComplete, IsQuiet, FalsifiesNone}
use Rattle.clause_core.specs.inside.Asking.{IsPoint, AnswerHolds, IsFull}
use Rattle.clause_core.specs.Solving.{events}
use Rattle.clause_trail.specs.Decisions.{lits_of}
use Rattle.clause_core.specs.Stepping.{IsStuck}
use Rattle.clause_trail.proofs.Gets.{get-within}
use Rattle.clause_trail.proofs.Lits.{not_opposite, same_stand}
use Rattle.clause_trail.proofs.Bridge.{lits_stand, stand_lits}
use Rattle.clause_core.proofs.Sanity.{asserted_in, asserted_stands}

-- what is seen of a theory that was told these entries of a trail over a formula
abbrev pub told_all : Contents → ℕ → List Entry → Seen
told_all f pivots entries = record { counts = f.counts; atoms = f.atoms; pivots = pivots; asserted = events f.atoms entries }

pub is_told : (s s0 : Seen) (f : Contents) (entries : List Entry) → s0.counts ≡ f.counts → s0.atoms ≡ f.atoms → s ≡ with_asserted s0 (events f.atoms entries) → s ≡ told_all f s0.pivots entries
is_told s s0 f entries ec ea e =
    e ∙ ap (λ (x : List Bool). let r : Seen = record { counts = x; atoms = s0.atoms; pivots = s0.pivots; asserted = events f.atoms entries } in r) ec
    ∙ ap (λ (x : List (Option Atom)). let r : Seen = record { counts = f.counts; atoms = x; pivots = s0.pivots; asserted = events f.atoms entries } in r) ea

-- each atom is asserted where each Boolean is assigned
pub full_told : (f : Contents) (pivots : ℕ) (entries : List Entry) (s : Seen) → s ≡ told_all f pivots entries → IsFull (length f.atoms) (lits_of entries) → (b : ℕ) (a : Atom) → slice_get s.atoms b ≡ Some (Some a) → (t : Bool) × IsAsserted s.asserted (record { boolean = b; pos = t })
full_told f pivots entries s e full b a h =
    let at : slice_get f.atoms b ≡ Some (Some a) = ap (λ (x : Seen). slice_get x.atoms b) (sym e) ∙ h in
    let l = full b (get-within f.atoms b _ at) in
    let st = stand_lits entries l.0 l.1 in
    let here = asserted_in f.atoms entries st.0 l.0 a st.1 (ap (slice_get f.atoms) l.2 ∙ at) in
    let told = subst (λ (x : Seen). IsAsserted x.asserted l.0) (sym e) here in
    (l.0.pos, subst (λ (n : ℕ). IsAsserted s.asserted (record { boolean = n; pos = l.0.pos })) l.2 told)

told_point : (f : Contents) (pivots : ℕ) (entries : List Entry) (values : List Fraction) → MeetsAsserted (told_all f pivots entries) values → IsPoint f (lits_of entries) values
told_point f pivots entries values h = record {
  so_many = h.0;
  readings = λ l a c at. let st = stand_lits entries l c in h.1 l (asserted_in f.atoms entries st.0 l a st.1 at);
}

answer_told : {W : Type 0} (Shown : List Bool → List (Option Atom) → List Lit → W → Type 0) (cuts : Bool) (f : Contents) (pivots : ℕ) (entries : List Entry) (full : Bool) (point : Option (List Fraction)) (v : Verdict W) → VerdictHolds Shown cuts (told_all f pivots entries) full point v → AnswerHolds Shown cuts f (lits_of entries) full point v
answer_told Shown cuts f pivots entries full point Fits h = λ e. let p = h.1 e in (p.0, p.1, (told_point f pivots entries p.0 p.2, p.3))
answer_told Shown cuts f pivots entries full point (Clash clause why) h =
    (h.0, h.1, λ k d lt. let st = asserted_stands f.atoms entries (opposite (get_or clause k d)) (h.2 k d lt) in lits_stand entries st.0 (opposite (get_or clause k d)) st.1)
answer_told Shown cuts f pivots entries full point (Cut var k) h = (h.0, h.1, (h.2.0, h.2.1, (told_point f pivots entries h.2.0 h.2.2, h.2.3)))

pub answer_of : {W : Type 0} (Shown : List Bool → List (Option Atom) → List Lit → W → Type 0) (cuts : Bool) (f : Contents) (pivots : ℕ) (entries : List Entry) (full : Bool) (point : Option (List Fraction)) (s : Seen) (Fails : TheoryFail → Type 0) (r : Result (Verdict W) TheoryFail) → s ≡ told_all f pivots entries → MatchResult r (VerdictHolds Shown cuts s full point) Fails → IfOk r (AnswerHolds Shown cuts f (lits_of entries) full point)
answer_of Shown cuts f pivots entries full point s Fails (Err fail) e h = tt
answer_of Shown cuts f pivots entries full point s Fails (Ok v) e h = answer_told Shown cuts f pivots entries full point v (subst (λ (x : Seen). VerdictHolds Shown cuts x full point v) e h)

falsifies_none : (atoms : List (Option Atom)) (clauses : List (List Lit)) (entries : List Entry) (lits : List Lit) → IsApart entries → IsComplete clauses (lits_of entries) → All (IsAsserted (events atoms entries)) lits → FalsifiesNone clauses lits
falsifies_none atoms clauses entries lits apart quiet asserted c in' false' =
    let stands : (m : Lit) → Contains c m → (p : ℕ) × Stands entries p (opposite m) = λ m cm. asserted_stands atoms entries (opposite m) (All-contains (IsAsserted (events atoms entries)) lits (opposite m) asserted (false' m cm)) in
    let q : IsQuiet (lits_of entries) c = All-contains (IsQuiet (lits_of entries)) clauses c quiet in' in
    elim q as (λ _. ⊥) [
      | inl t ↦
          let a = stand_lits entries t.0 t.2 in
          let b = stands t.0 t.1 in
          let same : a.0 ≡ b.0 = apart a.0 b.0 t.0 (opposite t.0) a.1 b.1 refl in
          not_opposite t.0 (same_stand entries a.0 t.0 (opposite t.0) a.1 (subst (λ (p : ℕ). Stands entries p (opposite t.0)) (sym same) b.1))
      | inr t ↦ let b = stands t.first t.first_in in t.first_open.not_false (lits_stand entries b.0 (opposite t.first) b.1)
    ]

stuck_told : (Stuck : List Bool → List (Option Atom) → ℕ → Trace → Type 0) (f : Contents) (pivots : ℕ) (entries : List Entry) (t : Trace) → IsApart entries → IsComplete f.clauses (lits_of entries) → IsStuckAt Stuck (told_all f pivots entries) t → IsStuck Stuck f pivots t
stuck_told Stuck f pivots entries t apart quiet h = record { trace = h.trace; none_false = falsifies_none f.atoms f.clauses entries t.lits apart quiet h.asserted }

trouble_told : (Stuck : List Bool → List (Option Atom) → ℕ → Trace → Type 0) (f : Contents) (pivots : ℕ) (entries : List Entry) (fail : TheoryFail) → IsApart entries → IsComplete f.clauses (lits_of entries) → FailHolds (IsStuckAt Stuck (told_all f pivots entries)) fail → FailHolds (IsStuck Stuck f pivots) fail
trouble_told Stuck f pivots entries (Wide t) apart quiet h = (stuck_told Stuck f pivots entries t apart quiet h.0, h.1)
trouble_told Stuck f pivots entries (Pivots t) apart quiet h = (stuck_told Stuck f pivots entries t apart quiet h.0, h.1)
trouble_told Stuck f pivots entries Memory apart quiet h = tt

pub trouble_of : {V : Type 0} (Stuck : List Bool → List (Option Atom) → ℕ → Trace → Type 0) (f : Contents) (pivots : ℕ) (entries : List Entry) (s : Seen) (Holds : V → Type 0) (r : Result V TheoryFail) → IsApart entries → IsComplete f.clauses (lits_of entries) → s ≡ told_all f pivots entries → MatchResult r Holds (FailHolds (IsStuckAt Stuck s)) → IfErr r (FailHolds (IsStuck Stuck f pivots))
trouble_of Stuck f pivots entries s Holds (Ok v) apart quiet e h = tt
trouble_of Stuck f pivots entries s Holds (Err fail) apart quiet e h = trouble_told Stuck f pivots entries fail apart quiet (subst (λ (x : Seen). FailHolds (IsStuckAt Stuck x) fail) e h)
