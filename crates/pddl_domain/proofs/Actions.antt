-- The keys of an action, one after another.
use Rattle.std.proofs.Common.{◌≡◌, ℕ, Bool, true, false, List, [], ◌∷◌, Option, None, refl, sym, ◌∙◌, ap, subst}
use Rattle.std.specs.Prelude.{if◌then◌else◌}
use Rattle.sexpr.specs.declared.tree.Tree.{Tree}
use Rattle.sexpr.specs.Opened.{start_of}
use Rattle.pddl_form.specs.declared.fault.Fault.{Fault}
use Rattle.pddl_form.specs.declared.names.Sort.TheVariants.{Name}
use Rattle.pddl_form.specs.declared.spot.Spot.{Spot}
use Rattle.pddl_form.specs.Faults.{shape}
use Rattle.pddl_form.specs.Judged.{Judged, bad, misshapen, lacking, closing, mapped, besides}
use Rattle.pddl_form.specs.Gather.{option_both}
use Rattle.pddl_form.specs.Reading.{IsRead}
use Rattle.pddl_form.specs.Words.{word_of, word_form}
use Rattle.pddl_form.proofs.Loops.{mapped_as}
use Rattle.pddl_form.proofs.Concluding.{Putting, putting_start, putting_one, putting_cut, putting_end}
use Rattle.std.specs.Option.{option_map}
use Rattle.pddl_domain.specs.declared.action.ActionAst.{ActionAst}
use Rattle.pddl_domain.specs.declared.action.Key.{Key}
use Rattle.pddl_domain.specs.declared.action.Part.{Part}
use Rattle.pddl_domain.specs.declared.action.SeenKeys.{SeenKeys}
use Rattle.pddl_domain.specs.Action.{key_of, no_keys, see_key, is_wrong_key, part_form, lone_key, parts_behind, with_part, bare_action, action_form}

pub action_start : (end : ℕ) (trees : List Tree) (name : Tree) (parts : List Tree) (old now : Option Fault) (spot : Option Spot) (found : Option ActionAst)
    → trees ≡ name ∷ parts → IsRead (word_form Name name) old now spot → found ≡ option_map bare_action spot → Putting with_part (action_form end trees) (parts_behind end no_keys parts) old now found
unfolding action_form
action_start end trees name parts old now spot found is r is_found =
    putting_start with_part (action_form end trees) (mapped bare_action (word_form Name name)) (parts_behind end no_keys parts) (parts_behind end no_keys parts) old now found
    (mapped_as bare_action (word_form Name name) old now spot found r is_found) refl (ap (action_form end) (sym is))

pub action_key : (end : ℕ) (total : Judged ActionAst) (seen sees : SeenKeys) (kind : Key) (text : List ℕ) (rest : List Tree) (word : Tree) (behind : List Tree) (value : Tree) (more : List Tree) (old now new : Option Fault) (found finds : Option ActionAst) (one : Option Part)
    → Putting with_part total (parts_behind end seen rest) old now found → rest ≡ word ∷ behind → behind ≡ value ∷ more → IsRead (part_form seen word value) now new one → finds ≡ option_both with_part found one
    → sees ≡ see_key kind seen → kind ≡ key_of text → text ≡ word_of word → Putting with_part total (parts_behind end sees more) old new finds
unfolding parts_behind
action_key end total seen sees kind text rest word behind value more old now new found finds one p is so r is_finds is_sees is_kind is_text =
    let after : sees ≡ see_key (key_of (word_of word)) seen = is_sees ∙ ap (λ (k : Key). see_key k seen) (is_kind ∙ ap key_of is_text) in
    subst (λ (s : SeenKeys). Putting with_part total (parts_behind end s more) old new finds) (sym after)
    (putting_one with_part total (parts_behind end seen rest) (part_form seen word value) (parts_behind end (see_key (key_of (word_of word)) seen) more) old now new found finds one p
    (ap (parts_behind end seen) (is ∙ ap (λ (ts : List Tree). word ∷ ts) so)) r is_finds)

record IsBad (j : Judged (List Part)) : Type 0 where
  first : Fault
  more : List Fault
  is_bad : j ≡ bad first more

lone_is_bad : (wrong : Bool) (place end : ℕ) → IsBad (if wrong then besides (shape (closing end)) (misshapen place) else lacking end)
lone_is_bad true place end = record { first = shape place; more = shape (closing end) ∷ []; is_bad = refl }
lone_is_bad false place end = record { first = shape (closing end); more = []; is_bad = refl }

pub action_cut : (end : ℕ) (total : Judged ActionAst) (seen : SeenKeys) (rest : List Tree) (word : Tree) (behind : List Tree) (old now new : Option Fault) (found : Option ActionAst) (x : Option (List Part))
    → Putting with_part total (parts_behind end seen rest) old now found → rest ≡ word ∷ behind → behind ≡ [] → IsRead (lone_key seen word end) now new x → IsRead total old new None
unfolding parts_behind lone_key
action_cut end total seen rest word behind old now new found x p is so r =
    let left : parts_behind end seen rest ≡ lone_key seen word end = ap (parts_behind end seen) (is ∙ ap (λ (ts : List Tree). word ∷ ts) so) in
    let wrong = lone_is_bad (is_wrong_key (key_of (word_of word)) seen) (start_of word) end in
    putting_cut with_part total (parts_behind end seen rest) wrong.first wrong.more old now new found x p (left ∙ wrong.is_bad) (subst (λ (j : Judged (List Part)). IsRead j now new x) (sym left) r)

pub action_end : (end : ℕ) (total : Judged ActionAst) (seen : SeenKeys) (rest : List Tree) (old now : Option Fault) (found : Option ActionAst)
    → Putting with_part total (parts_behind end seen rest) old now found → rest ≡ [] → IsRead total old now found
unfolding parts_behind
action_end end total seen rest old now found p is = putting_end with_part total (parts_behind end seen rest) old now found p (ap (parts_behind end seen) is)
