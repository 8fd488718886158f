-- Readers of lists of one part or two.
use Rattle.std.proofs.Common.{◌≡◌, ℕ, ◌-◌, ◌==◌, Bool, List, [], ◌∷◌, length, Option, Some, None, refl, sym, ◌∙◌, ap, subst}
use Rattle.std.specs.Prelude.{if◌then◌else◌}
use Rattle.sexpr.specs.declared.tree.Tree.{Tree}
use Rattle.pddl_form.specs.declared.fault.Fault.{Fault}
use Rattle.pddl_form.specs.Faults.{first_with, shape}
use Rattle.pddl_form.specs.Judged.{Judged, lacking, both}
use Rattle.pddl_form.specs.Gather.{option_both}
use Rattle.pddl_form.specs.Reading.{IsRead}
use Rattle.pddl_form.specs.Parts.{one_part, two_parts, pair}
use Rattle.pddl_form.proofs.Loops.{read_bad, read_both, right_none, provided_as}

pub one_missing : {A : Type 0} (form : Tree → Judged A) (start end : ℕ) (parts : List Tree) (old new : Option Fault)
    → parts ≡ [] → new ≡ Some (first_with old (shape (end - 1))) → IsRead (one_part form start end parts) old new None
unfolding one_part
one_missing form start end parts old new is is_new = subst (λ (ts : List Tree). IsRead (one_part form start end ts) old new None) (sym is) (read_bad old new (shape (end - 1)) is_new)

pub one_read : {A : Type 0} (form : Tree → Judged A) (start end : ℕ) (parts : List Tree) (t : Tree) (more : List Tree) (old mid new : Option Fault) (x y : Option A) (last : Bool)
    → parts ≡ t ∷ more → IsRead (form t) old mid x → last ≡ (length more == 0) → y ≡ (if last then x else None) → new ≡ (if last then mid else Some (first_with mid (shape start)))
    → IsRead (one_part form start end parts) old new y
unfolding one_part
one_read form start end parts t more old mid new x y last is h is_last is_y is_new =
    subst (λ (ts : List Tree). IsRead (one_part form start end ts) old new y) (sym is)
    (provided_as last (length more == 0) start start (form t) old mid new x y is_last refl h is_y is_new)

pub two_missing : {A B : Type 0} (first : Tree → Judged A) (second : Tree → Judged B) (start end : ℕ) (parts : List Tree) (old new : Option Fault)
    → parts ≡ [] → new ≡ Some (first_with old (shape (end - 1))) → IsRead (two_parts first second start end parts) old new None
unfolding two_parts
two_missing first second start end parts old new is is_new = subst (λ (ts : List Tree). IsRead (two_parts first second start end ts) old new None) (sym is) (read_bad old new (shape (end - 1)) is_new)

pub second_missing : {A B : Type 0} (first : Tree → Judged A) (second : Tree → Judged B) (start end : ℕ) (parts : List Tree) (t : Tree) (rest : List Tree) (old mid new : Option Fault) (x : Option A)
    → parts ≡ t ∷ rest → rest ≡ [] → IsRead (first t) old mid x → new ≡ Some (first_with mid (shape (end - 1))) → IsRead (two_parts first second start end parts) old new None
unfolding two_parts
second_missing first second start end parts t rest old mid new x is none h is_new =
    subst (λ (ts : List Tree). IsRead (two_parts first second start end ts) old new None) (sym (is ∙ ap (λ (ts : List Tree). t ∷ ts) none))
    (right_none pair (first t) (lacking end) old mid new x None h (read_bad mid new (shape (end - 1)) is_new) refl)

pub two_read : {A B : Type 0} (first : Tree → Judged A) (second : Tree → Judged B) (start end : ℕ) (parts : List Tree) (t : Tree) (rest : List Tree) (u : Tree) (more : List Tree)
    (old mid later new : Option Fault) (x : Option A) (y : Option B) (z w : Option (A × B)) (last : Bool)
    → parts ≡ t ∷ rest → rest ≡ u ∷ more → IsRead (first t) old mid x → IsRead (second u) mid later y → z ≡ option_both pair x y
    → last ≡ (length more == 0) → w ≡ (if last then z else None) → new ≡ (if last then later else Some (first_with later (shape start)))
    → IsRead (two_parts first second start end parts) old new w
unfolding two_parts
two_read first second start end parts t rest u more old mid later new x y z w last is so h k is_z is_last is_w is_new =
    subst (λ (ts : List Tree). IsRead (two_parts first second start end ts) old new w) (sym (is ∙ ap (λ (ts : List Tree). t ∷ ts) so))
    (provided_as last (length more == 0) start start (both pair (first t) (second u)) old later new z w is_last refl
    (subst (IsRead (both pair (first t) (second u)) old later) (sym is_z) (read_both pair (first t) (second u) old mid later x y h k)) is_w is_new)
