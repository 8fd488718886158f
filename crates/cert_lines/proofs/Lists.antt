-- Lists that are read word by word.
use Rattle.std.proofs.Common.{◌≡◌, List, [], ◌∷◌, ◌++◌, Result, Ok, Err, refl, sym, ◌∙◌, ap, append_assoc, append-nil}
use Rattle.cert_lines.specs.Found.{Fault, both, with_next, each, Answers}
use Rattle.cert_lines.specs.declared.refusal.CertRefusal.{CertRefusal}
use Rattle.cert_lines.specs.declared.refusal.CertRefusal.TheVariants as refusal

-- what is read behind some things, with these in front
abbrev pub behind_these : {A : Type 0} → List A → Result (List A) Fault → Result (List A) Fault
behind_these done (Err fault) = Err fault
behind_these done (Ok more) = Ok (done ++ more)

pub none_done : {A : Type 0} (r : Result (List A) Fault) → r ≡ behind_these [] r
none_done (Err fault) = refl
none_done (Ok more) = refl

one_more : {A : Type 0} (done : List A) (a : A) (r : Result (List A) Fault) → behind_these done (with_next ◌∷◌ a r) ≡ behind_these (done ++ a ∷ []) r
one_more done a (Err fault) = refl
one_more done a (Ok more) = ap Ok (sym (append_assoc done (a ∷ []) more))

-- another is read
pub read_more : {X A : Type 0} (read : X → Result A Fault) (done : List A) (x : X) (xs : List X) (a : A) → read x ≡ Ok a → behind_these done (each read (x ∷ xs)) ≡ behind_these (done ++ a ∷ []) (each read xs)
read_more read done x xs a is = ap (λ r. behind_these done (both ◌∷◌ r (each read xs))) is ∙ one_more done a (each read xs)

-- the first fault
pub read_stops : {X A : Type 0} (read : X → Result A Fault) (done : List A) (x : X) (xs : List X) (fault : Fault) → read x ≡ Err fault → behind_these done (each read (x ∷ xs)) ≡ Err fault
read_stops read done x xs fault is = ap (λ r. behind_these done (both ◌∷◌ r (each read xs))) is

pub all_read : {A : Type 0} (done : List A) → behind_these done (Ok []) ≡ Ok done
all_read done = ap Ok (append-nil done)

-- a refusal of one is a refusal of all
pub stops_by : {X A : Type 0} (read : X → Result A Fault) (done : List A) (x : X) (xs : List X) (e : CertRefusal) (all : Result (List A) Fault)
    → Answers {A = A} (read x) (Err e) → all ≡ behind_these done (each read (x ∷ xs)) → Answers {A = List A} all (Err e)
stops_by read done x xs (refusal.Fault kind place) all is whole = whole ∙ read_stops read done x xs _ is
stops_by read done x xs refusal.Memory all is whole = tt
