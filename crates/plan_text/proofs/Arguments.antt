-- The arguments of an action, one after another, and the call that they end.
use Rattle.std.proofs.Common.{◌≡◌, ℕ, ◌≤◌, Bool, true, false, List, [], ◌∷◌, ◌++◌, length, drop, map, Option, Some, None, refl, sym, ◌∙◌, ap, subst, append_assoc}
use Rattle.std.specs.Prelude.{if◌then◌else◌}
use Rattle.std.specs.Option.{option_map}
use Rattle.std.proofs.lemmas.List.{map-append}
use Rattle.sexpr.specs.Bytes.{word_of}
use Rattle.sexpr.specs.Tokens.{Token, Word, tokens}
use Rattle.pddl_form.specs.declared.fault.Fault.{Fault}
use Rattle.pddl_form.specs.declared.spot.Spot.{Spot}
use Rattle.pddl_form.specs.Judged.{Judged, good, each, both}
use Rattle.pddl_form.specs.Names.{is_name}
use Rattle.pddl_form.specs.Gather.{option_both, push}
use Rattle.pddl_form.specs.Reading.{IsRead}
use Rattle.pddl_form.proofs.Judging.{each-push}
use Rattle.pddl_form.proofs.Loops.{read_good, read_as, read_both}
use Rattle.pddl_task.specs.declared.instance.Instance.{Instance}
use Rattle.plan_text.specs.declared.piece.Kind.{Kind}
use Rattle.plan_text.specs.declared.piece.Kind.TheVariants as kind
use Rattle.plan_text.specs.declared.piece.Piece.{Piece}
use Rattle.plan_text.specs.Written.{Call, spot_at, with_name, closed_names, call_with}
use Rattle.plan_text.specs.PlanText.{Names, numbered, instance_with, call_judged}
use Rattle.plan_text.specs.inside.Pieces.{token_by, StandsFirst}
use Rattle.plan_text.specs.inside.Steps.{IsReadAs, ReadsAs, name_or_none, arguments_judged}

-- what stands after a place
abbrev pub tokens_after : List ℕ → ℕ → List Token
tokens_after text at = tokens at (drop at text)

pub word_after : (text : List ℕ) (at : ℕ) (p : Piece) → StandsFirst text at p → p.kind ≡ kind.Word → tokens_after text at ≡ Word p.start p.end (word_of (drop p.start text)) ∷ tokens_after text p.end
word_after text at p first is = first.is ∙ ap (λ (k : Kind). token_by k text p.start p.end ∷ tokens_after text p.end) is

-- a word is a name, or isn't
some_name : (word name : List ℕ) (b : Bool) → Some name ≡ (if b then Some word else None) → (b ≡ true) × (name ≡ word)
some_name word name true is = (refl, cc)
some_name word name false is = cc

-- the names after a word
abbrev names_if : Bool → ℕ → List ℕ → Option (List Spot) → Option (List Spot)
names_if b start word more = if b then with_name (spot_at start word) more else None

pub name_after : (text : List ℕ) (at : ℕ) (p : Piece) (name : List ℕ) → StandsFirst text at p → p.kind ≡ kind.Word → Some name ≡ name_or_none (word_of (drop p.start text))
    → closed_names (tokens_after text at) ≡ with_name (spot_at p.start name) (closed_names (tokens_after text p.end))
name_after text at p name first is named =
    let word = word_of (drop p.start text) in
    let so = some_name word name (is_name word) named in
    ap closed_names (word_after text at p first is)
    ∙ ap (λ (b : Bool). names_if b p.start word (closed_names (tokens_after text p.end))) so.0
    ∙ ap (λ (l : List ℕ). with_name (spot_at p.start l) (closed_names (tokens_after text p.end))) (sym so.1)

pub read_some : {S A : Type 0} (written : Option S) (form : S → Judged A) (old new : Option Fault) (found : Option (Option A)) (answer : Option A) → ReadsAs written form old new found → found ≡ Some answer
    → IsReadAs written form old new answer
read_some written form old new found answer read is = subst (ReadsAs written form old new) is read

-- the arguments in front of a place
pub record ArgumentsSoFar (names : Names) (text : List ℕ) (from at : ℕ) (old now : Option Fault) (found : Option (List ℕ)) : Type 0 where
  pub within : at ≤ length text
  pub done : List Spot
  pub whole : closed_names (tokens_after text from) ≡ option_map (λ (more : List Spot). done ++ more) (closed_names (tokens_after text at))
  pub are_read : IsRead (arguments_judged names done) old now found

nothing_more : (o : Option (List Spot)) → o ≡ option_map (λ (more : List Spot). [] ++ more) o
nothing_more None = refl
nothing_more (Some spots) = refl

pub no_arguments : (names : Names) (text : List ℕ) (from : ℕ) (old : Option Fault) (found : List ℕ) → from ≤ length text → found ≡ [] → ArgumentsSoFar names text from from old old (Some found)
no_arguments names text from old found within none = record {
  within = within;
  done = [];
  whole = nothing_more (closed_names (tokens_after text from));
  are_read = read_as (good []) old old (Some []) (Some found) (read_good old []) (ap Some none);
}

one_more : (done : List Spot) (spot : Spot) (o : Option (List Spot)) → option_map (λ (more : List Spot). done ++ more) (with_name spot o) ≡ option_map (λ (more : List Spot). (done ++ spot ∷ []) ++ more) o
one_more done spot None = refl
one_more done spot (Some more) = ap Some (sym (append_assoc done (spot ∷ []) more))

pub argument_more : (names : Names) (text : List ℕ) (from at : ℕ) (p : Piece) (name : List ℕ) (old now new : Option Fault) (found finds : Option (List ℕ)) (one : Option ℕ)
    → ArgumentsSoFar names text from at old now found → StandsFirst text at p → p.kind ≡ kind.Word → Some name ≡ name_or_none (word_of (drop p.start text))
    → IsRead (numbered names.objects (spot_at p.start name)) now new one → finds ≡ option_both push found one → ArgumentsSoFar names text from p.end old new finds
argument_more names text from at p name old now new found finds one so_far first is named read is_finds =
    let spot = spot_at p.start name in
    let form : Spot → Judged ℕ = numbered names.objects in
    let all : each (map form (so_far.done ++ spot ∷ [])) ≡ both push (each (map form so_far.done)) (form spot) = ap each (map-append form so_far.done (spot ∷ [])) ∙ each-push (map form so_far.done) (form spot) in
    record {
      within = first.within;
      done = so_far.done ++ spot ∷ [];
      whole =
          so_far.whole ∙ ap (option_map (λ (more : List Spot). so_far.done ++ more)) (name_after text at p name first is named)
          ∙ one_more so_far.done spot (closed_names (tokens_after text p.end));
      are_read =
          subst (λ (j : Judged (List ℕ)). IsRead j old new finds) (sym all)
          (read_as (both push (each (map form so_far.done)) (form spot)) old new (option_both push found one) finds
          (read_both push (each (map form so_far.done)) (form spot) old now new found one so_far.are_read read) is_finds);
    }

pub call_read : (names : Names) (text : List ℕ) (at : ℕ) (p : Piece) (name : List ℕ) (old mid new : Option Fault) (action : Option ℕ) (args : Option (List ℕ)) (made : Option Instance)
    → StandsFirst text at p → p.kind ≡ kind.Word → Some name ≡ name_or_none (word_of (drop p.start text))
    → IsRead (numbered names.actions (spot_at p.start name)) old mid action → IsReadAs (closed_names (tokens_after text p.end)) (arguments_judged names) mid new args
    → made ≡ option_both instance_with action args → IsReadAs (call_with (closed_names (tokens_after text at))) (call_judged names) old new made
call_read names text at p name old mid new action args made first is named action_read args_read is_made =
    let spot = spot_at p.start name in
    let call : Call = record { name = spot; args = args_read.what } in
    record {
      what = call;
      is =
          ap call_with (name_after text at p name first is named)
          ∙ ap (λ (o : Option (List Spot)). call_with (with_name spot o)) args_read.is;
      read = read_as (call_judged names call) old new (option_both instance_with action args) made
          (read_both instance_with (numbered names.actions spot) (arguments_judged names args_read.what) old mid new action args action_read args_read.read) is_made;
    }
