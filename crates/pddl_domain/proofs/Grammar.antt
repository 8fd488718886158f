-- What the form of a domain gives is of the grammar.
use Rattle.std.proofs.Common.{◌≡◌, ℕ, Bool, true, false, List, [], ◌∷◌, ◌++◌, map, refl, sym, subst}
use Rattle.std.specs.Prelude.{if◌then◌else◌, codes, bytes_eq, ◌&&◌}
use Rattle.std.specs.List.{list_all}
use Rattle.std.proofs.lemmas.Bool.{and_parts, and_from}
use Rattle.sexpr.specs.declared.tree.Tree.{Tree, out-Tree}
use Rattle.sexpr.specs.declared.tree.Tree.TheOpen.{Tree-F}
use Rattle.sexpr.specs.declared.fault.Source.TheVariants as source
use Rattle.sexpr.specs.Opened.{start_of}
use Rattle.sexpr.proofs.Trees.{every_tree}
use Rattle.pddl_form.specs.declared.calls.Call.{Call}
use Rattle.pddl_form.specs.declared.names.Sort.TheVariants.{Name, Variable, Term}
use Rattle.pddl_form.specs.declared.spot.Spot.{Spot}
use Rattle.pddl_form.specs.declared.typed.Typed.{Typed}
use Rattle.pddl_form.specs.Calls.{arguments, call_form}
use Rattle.pddl_form.specs.Faults.{shape}
use Rattle.pddl_form.specs.Grammar.{is_of, is_call, is_typed}
use Rattle.pddl_form.specs.Judged.{Judged, good, bad, closing, mapped, both, each, misshapen, besides, lacking, provided}
use Rattle.pddl_form.specs.Names.{is_symbol, is_one_of}
use Rattle.pddl_form.specs.Parts.{two_parts}
use Rattle.pddl_form.specs.Put.{put_all}
use Rattle.pddl_form.specs.Typed.{only, typed_list}
use Rattle.pddl_form.specs.Words.{word_of, is_word, word_form}
use Rattle.pddl_form.specs.Sections.{Contents, Definition, section_with, sections_with, second, sections_form, requirements_form, title_form, definition_form}
use Rattle.pddl_form.proofs.Giving.{Gives, gives-any, gives-mapped, gives-both, gives-provided, gives-if, gives-each, gives-each_of, gives-joined, gives-contents, gives-and_then}
use Rattle.pddl_form.proofs.Grammar.{word_gives, is_call_of, arguments_give, call_gives, two_give, typed_list_gives, appended_all, title_gives}
use Rattle.pddl_condition.specs.Condition.{negation, negated_atom, condition_form}
use Rattle.pddl_condition.specs.Expression.{expression_form}
use Rattle.pddl_condition.specs.Grammar.{is_expression, is_condition}
use Rattle.pddl_condition.proofs.Grammar.{expression_gives, condition_gives, negation_gives, negated_atom_gives}
use Rattle.pddl_domain.specs.declared.action.ActionAst.{ActionAst}
use Rattle.pddl_domain.specs.declared.action.Key.{Key}
use Rattle.pddl_domain.specs.declared.action.Key.TheVariants as key
use Rattle.pddl_domain.specs.declared.action.Part.{Part}
use Rattle.pddl_domain.specs.declared.action.Part.TheVariants as part
use Rattle.pddl_domain.specs.declared.action.SeenKeys.{SeenKeys}
use Rattle.pddl_domain.specs.declared.effect.EffAst.{EffAst}
use Rattle.pddl_domain.specs.declared.effect_heads.EffectHead.{EffectHead}
use Rattle.pddl_domain.specs.declared.effect_heads.EffectHead.TheVariants.{And, Not, Change, Unread, Predicate, Other}
use Rattle.pddl_domain.specs.declared.head.Head.{Head}
use Rattle.pddl_domain.specs.Action.{key_of, no_keys, see_key, is_wrong_key, parameters_at, parameters_form, part_by, part_form, lone_key, parts_behind, with_part, bare_action, action_form}
use Rattle.pddl_domain.specs.Domain.{listed, names_in, types_section, constants_section, heads_in, predicates_section, functions_in, functions_section, action_in, actions_section, domain_of, whole, read_sections, domain_parts, domain_form}
use Rattle.pddl_domain.specs.Effect.{changes, unread_effects, effect_head_of, put_leaf, change_leaf, change, effect_by, headed_effect, effect_list, effect_form}
use Rattle.pddl_domain.specs.Heads.{headed, head_at, head_form, number_at, number_mark, functions_behind, behind_dash, functions}
use Rattle.pddl_domain.specs.Grammar.{is_effect, is_head, is_action, are_declarations, is_domain}
use Rattle.pddl_domain.proofs.Effects.{effect_form-word, effect_form-list}

-- ---- effects

-- what the head of an effect says of its word
abbrev Says : EffectHead → Bool → Bool → Type 0
Says And change symbol = Unit {0}
Says Not change symbol = Unit {0}
Says Change change symbol = change ≡ true
Says Unread change symbol = Unit {0}
Says Predicate change symbol = symbol ≡ true
Says Other change symbol = Unit {0}

abbrev head_by : Bool → Bool → Bool → Bool → Bool → EffectHead
head_by and not change unread symbol = if and then And else (if not then Not else (if change then Change else (if unread then Unread else (if symbol then Predicate else Other))))

head_says : (and not change unread symbol : Bool) → Says (head_by and not change unread symbol) change symbol
head_says true not change unread symbol = tt
head_says false true change unread symbol = tt
head_says false false true unread symbol = refl
head_says false false false true symbol = tt
head_says false false false false true = refl
head_says false false false false false = tt

abbrev SaysOf : EffectHead → List ℕ → Type 0
SaysOf h text = Says h (is_one_of changes text) (is_symbol text)

says : (text : List ℕ) → SaysOf (effect_head_of text) text
unfolding effect_head_of
says text = head_says (bytes_eq text (codes "and")) (bytes_eq text (codes "not")) (is_one_of changes text) (is_one_of unread_effects text) (is_symbol text)

abbrev are_effects : List EffAst → Bool
are_effects leaves = list_all is_effect leaves

abbrev GivesLeaves : Judged (List EffAst) → Type 0
GivesLeaves j = Gives are_effects j

put_gives : (pos : Bool) (j : Judged Call) → Gives (is_call_of Term) j → GivesLeaves (mapped (put_leaf pos) j)
put_gives pos j h = gives-mapped (put_leaf pos) (is_call_of Term) are_effects j (λ call is. and_from (is_call Term call.name call.args) true is refl) h

change_gives : (start end : ℕ) (head : Tree) (parts : List Tree) → is_one_of changes (word_of head) ≡ true → GivesLeaves (change start end head parts)
unfolding change
change_gives start end head parts changing =
    gives-mapped (change_leaf head) (λ made. is_call Term made.0.name made.0.args && is_expression made.1) are_effects (two_parts (call_form Term) expression_form start end parts)
    (λ made are. and_from (is_one_of changes (word_of head) && (is_call Term made.0.name made.0.args && is_expression made.1)) true (and_from (is_one_of changes (word_of head)) (is_call Term made.0.name made.0.args && is_expression made.1) changing are) refl)
    (two_give (call_form Term) expression_form (is_call_of Term) is_expression (call_gives Term) expression_gives start end parts)

effect_by_gives : (k : EffectHead) (start end : ℕ) (head : Tree) (parts : List Tree) (leaves : List (Judged (List EffAst)))
    → SaysOf k (word_of head) → Gives (list_all are_effects) (each leaves) → GivesLeaves (effect_by k start end head parts leaves)
effect_by_gives And start end head parts leaves said all = gives-joined is_effect (each leaves) all
effect_by_gives Not start end head parts leaves said all = put_gives false (negation (negated_atom Term head) start end parts) (negation_gives (negated_atom Term head) (is_call_of Term) (negated_atom_gives Term head) start end parts)
effect_by_gives Change start end head parts leaves said all = change_gives start end head parts said
effect_by_gives Unread start end head parts leaves said all = tt
effect_by_gives Predicate start end head parts leaves said all = put_gives true (arguments Term head parts) (arguments_give Term head parts said)
effect_by_gives Other start end head parts leaves said all = tt

headed_effect_gives : (start end : ℕ) (head : Tree) (parts : List Tree) (leaves : List (Judged (List EffAst))) → Gives (list_all are_effects) (each leaves) → GivesLeaves (headed_effect start end head parts leaves)
unfolding headed_effect
headed_effect_gives start end head parts leaves all = effect_by_gives (effect_head_of (word_of head)) start end head parts leaves (says (word_of head)) all

abbrev GivesEffect : Tree → Type 0
GivesEffect t = GivesLeaves (effect_form t)

effect_list_gives : (start end : ℕ) (items : List ((t : Tree) × GivesEffect t)) → GivesLeaves (effect_list start end (map (λ e. e.0) items) (map effect_form (map (λ e. e.0) items)))
effect_list_gives start end [] = refl
effect_list_gives start end (e ∷ items) = headed_effect_gives start end e.0 (map (λ e. e.0) items) (map effect_form (map (λ e. e.0) items)) (gives-each_of effect_form are_effects items)

effect_gives : (tree : Tree) → Gives (list_all is_effect) (effect_form tree)
effect_gives =
    every_tree GivesEffect
    (λ start end text. subst GivesLeaves (sym (effect_form-word start end text)) tt)
    (λ start end items. subst GivesLeaves (sym (effect_form-list start end (map (λ e. e.0) items))) (effect_list_gives start end items))

-- ---- predicates and functions

head_at_gives : (opened : Tree-F Tree) → Gives is_head (head_at opened)
head_at_gives (Tree-F.Word start end text) = tt
head_at_gives (Tree-F.List start end []) = tt
head_at_gives (Tree-F.List start end (name ∷ params)) =
    gives-if is_head (is_symbol (word_of name)) (mapped (headed name) (typed_list Variable end params)) (misshapen start)
    (λ symbol. gives-mapped (headed name) (list_all (is_typed Variable)) is_head (typed_list Variable end params) (λ typed h. and_from (is_symbol (word_of name)) (list_all (is_typed Variable) typed) symbol h) (typed_list_gives Variable end params))
    (λ no. tt)

head_gives : (tree : Tree) → Gives is_head (head_form tree)
unfolding head_form
head_gives tree = head_at_gives (out-Tree tree)

number_at_gives : (tree : Tree) (opened : Tree-F Tree) → Gives (list_all is_head) (number_at tree opened)
number_at_gives tree (Tree-F.Word start end text) = gives-if (list_all is_head) (is_word (codes "number") tree) (good []) _ (λ is. refl) (λ no. tt)
number_at_gives tree (Tree-F.List start end items) = tt

number_gives : (tree : Tree) → Gives (list_all is_head) (number_mark tree)
unfolding number_mark
number_gives tree = number_at_gives tree (out-Tree tree)

gives-append : {A : Type 0} (p : A → Bool) (i j : Judged (List A)) → Gives (list_all p) i → Gives (list_all p) j → Gives (list_all p) (both ◌++◌ i j)
gives-append p i j h k = gives-both ◌++◌ (list_all p) (list_all p) (list_all p) i j (appended_all p) h k

mutual
  functions_behind_give : (end : ℕ) (waits : Bool) (trees : List Tree) → Gives (list_all is_head) (functions_behind end waits trees)
  functions_behind_give end waits [] = refl
  functions_behind_give end waits (t ∷ more) =
      gives-if (list_all is_head) (is_word (codes "-") t)
      (both ◌++◌ (provided waits (shape (start_of t)) (good [])) (behind_dash end more)) (both ◌++◌ (mapped only (head_form t)) (functions_behind end true more))
      (λ is. gives-append is_head (provided waits (shape (start_of t)) (good [])) (behind_dash end more) (gives-provided (list_all is_head) waits (shape (start_of t)) (good []) refl) (behind_dash_gives end more))
      (λ no. gives-append is_head (mapped only (head_form t)) (functions_behind end true more) (gives-mapped only is_head (list_all is_head) (head_form t) (λ h is. and_from (is_head h) true is refl) (head_gives t)) (functions_behind_give end true more))

  behind_dash_gives : (end : ℕ) (trees : List Tree) → Gives (list_all is_head) (behind_dash end trees)
  behind_dash_gives end [] = tt
  behind_dash_gives end (t ∷ more) = gives-append is_head (number_mark t) (functions_behind end false more) (number_gives t) (functions_behind_give end false more)

functions_give : (end : ℕ) (trees : List Tree) → Gives (list_all is_head) (functions end trees)
unfolding functions
functions_give end trees = functions_behind_give end false trees

-- ---- actions

abbrev is_part : Part → Bool
is_part (part.Parameters params) = list_all (is_typed Variable) params
is_part (part.Precondition conds) = list_all is_condition conds
is_part (part.Effect effs) = list_all is_effect effs

parameters_at_give : (opened : Tree-F Tree) → Gives (list_all (is_typed Variable)) (parameters_at opened)
parameters_at_give (Tree-F.Word start end text) = tt
parameters_at_give (Tree-F.List start end items) = typed_list_gives Variable end items

parameters_give : (tree : Tree) → Gives (list_all (is_typed Variable)) (parameters_form tree)
unfolding parameters_form
parameters_give tree = parameters_at_give (out-Tree tree)

part_by_gives : (k : Key) (word value : Tree) → Gives is_part (part_by k word value)
part_by_gives key.Parameters word value = gives-mapped part.Parameters (list_all (is_typed Variable)) is_part (parameters_form value) (λ made h. h) (parameters_give value)
part_by_gives key.Precondition word value = gives-mapped part.Precondition (list_all is_condition) is_part (condition_form value) (λ made h. h) (condition_gives value)
part_by_gives key.Effect word value = gives-mapped part.Effect (list_all is_effect) is_part (effect_form value) (λ made h. h) (effect_gives value)
part_by_gives key.Unknown word value = tt

part_gives : (seen : SeenKeys) (word value : Tree) → Gives is_part (part_form seen word value)
unfolding part_form
part_gives seen word value = gives-if is_part (is_wrong_key (key_of (word_of word)) seen) (misshapen (start_of word)) (part_by (key_of (word_of word)) word value) (λ wrong. tt) (λ right. part_by_gives (key_of (word_of word)) word value)

lone_key_gives : (seen : SeenKeys) (word : Tree) (end : ℕ) → Gives (list_all is_part) (lone_key seen word end)
unfolding lone_key
lone_key_gives seen word end =
    gives-if (list_all is_part) (is_wrong_key (key_of (word_of word)) seen) (besides (shape (closing end)) (misshapen (start_of word))) (lacking end)
    (λ wrong. tt) (λ right. tt)

parts_give : (end : ℕ) (seen : SeenKeys) (trees : List Tree) → Gives (list_all is_part) (parts_behind end seen trees)
unfolding parts_behind
parts_give end seen [] = refl
parts_give end seen (word ∷ []) = lone_key_gives seen word end
parts_give end seen (word ∷ value ∷ more) =
    gives-both ◌∷◌ is_part (list_all is_part) (list_all is_part) (part_form seen word value) (parts_behind end (see_key (key_of (word_of word)) seen) more)
    (λ one rest h k. and_from (is_part one) (list_all is_part rest) h k) (part_gives seen word value) (parts_give end (see_key (key_of (word_of word)) seen) more)

-- what the grammar asks of an action, part by part
record IsAction (action : ActionAst) : Type 0 where
  named : is_of Name action.name ≡ true
  params : list_all (is_typed Variable) action.params ≡ true
  conds : list_all is_condition action.conds ≡ true
  effs : list_all is_effect action.effs ≡ true

with_part_is : (action : ActionAst) (one : Part) → IsAction action → is_part one ≡ true → IsAction (with_part action one)
with_part_is action (part.Parameters params) h k = record { named = h.named; params = appended_all (is_typed Variable) action.params params h.params k; conds = h.conds; effs = h.effs }
with_part_is action (part.Precondition conds) h k = record { named = h.named; params = h.params; conds = appended_all is_condition action.conds conds h.conds k; effs = h.effs }
with_part_is action (part.Effect effs) h k = record { named = h.named; params = h.params; conds = h.conds; effs = appended_all is_effect action.effs effs h.effs k }

with_parts_is : (action : ActionAst) (parts : List Part) → IsAction action → list_all is_part parts ≡ true → IsAction (put_all with_part action parts)
with_parts_is action [] h k = h
with_parts_is action (one ∷ parts) h k =
    let both = and_parts (is_part one) (list_all is_part parts) k in
    with_parts_is (with_part action one) parts (with_part_is action one h both.0) both.1

bare_is : (name : Spot) → is_of Name name ≡ true → IsAction (bare_action name)
bare_is name h = record { named = h; params = refl; conds = refl; effs = refl }

is_one : (action : ActionAst) → IsAction action → is_action action ≡ true
is_one action h =
    and_from (is_of Name action.name) (list_all (is_typed Variable) action.params && (list_all is_condition action.conds && list_all is_effect action.effs)) h.named
    (and_from (list_all (is_typed Variable) action.params) (list_all is_condition action.conds && list_all is_effect action.effs) h.params
    (and_from (list_all is_condition action.conds) (list_all is_effect action.effs) h.conds h.effs))

named_gives : (name : Judged Spot) (parts : Judged (List Part)) → Gives (is_of Name) name → Gives (list_all is_part) parts → Gives is_action (both (put_all with_part) (mapped bare_action name) parts)
named_gives (good name) (good parts) h k = is_one (put_all with_part (bare_action name) parts) (with_parts_is (bare_action name) parts (bare_is name h) k)
named_gives (good name) (bad f more) h k = tt
named_gives (bad f more) parts h k = tt

action_gives : (end : ℕ) (trees : List Tree) → Gives is_action (action_form end trees)
unfolding action_form
action_gives end [] = tt
action_gives end (name ∷ parts) = named_gives (word_form Name name) (parts_behind end no_keys parts) (word_gives Name name) (parts_give end no_keys parts)

-- ---- the whole domain

listed_gives : {A : Type 0} (p : A → Bool) (form : Contents → Judged (List A)) (word : List ℕ) (sections : List Tree) → ((c : Contents) → Gives (list_all p) (form c)) → Gives (list_all p) (listed form word sections)
listed_gives p form word sections so = gives-contents (list_all p) (good []) form (section_with word sections) refl so

types_give : (sections : List Tree) → Gives (list_all (is_typed Name)) (types_section sections)
unfolding types_section
types_give sections = listed_gives (is_typed Name) names_in (codes ":types") sections (λ c. typed_list_gives Name c.end c.parts)

constants_give : (sections : List Tree) → Gives (list_all (is_typed Name)) (constants_section sections)
unfolding constants_section
constants_give sections = listed_gives (is_typed Name) names_in (codes ":constants") sections (λ c. typed_list_gives Name c.end c.parts)

predicates_give : (sections : List Tree) → Gives (list_all is_head) (predicates_section sections)
unfolding predicates_section
predicates_give sections = listed_gives is_head heads_in (codes ":predicates") sections (λ c. gives-each head_form is_head head_gives c.parts)

functions_section_gives : (sections : List Tree) → Gives (list_all is_head) (functions_section sections)
unfolding functions_section
functions_section_gives sections = listed_gives is_head functions_in (codes ":functions") sections (λ c. functions_give c.end c.parts)

actions_give : (sections : List Tree) → Gives (list_all is_action) (actions_section sections)
unfolding actions_section
actions_give sections = gives-each action_in is_action (λ c. action_gives c.end c.parts) (sections_with (codes ":action") sections)

whole_gives : (name : Judged Spot) (types constants : Judged (List Typed)) (preds funcs : Judged (List Head)) (actions : Judged (List ActionAst))
    → Gives (is_of Name) name → Gives (list_all (is_typed Name)) types → Gives (list_all (is_typed Name)) constants → Gives (list_all is_head) preds → Gives (list_all is_head) funcs → Gives (list_all is_action) actions
    → Gives is_domain (whole name types constants preds funcs actions)
unfolding whole is_domain
whole_gives (bad f more) t k p q a hn ht hk hp hq ha = tt
whole_gives (good n) (bad f more) k p q a hn ht hk hp hq ha = tt
whole_gives (good n) (good t) (bad f more) p q a hn ht hk hp hq ha = tt
whole_gives (good n) (good t) (good k) (bad f more) q a hn ht hk hp hq ha = tt
whole_gives (good n) (good t) (good k) (good p) (bad f more) a hn ht hk hp hq ha = tt
whole_gives (good n) (good t) (good k) (good p) (good q) (bad f more) hn ht hk hp hq ha = tt
whole_gives (good n) (good t) (good k) (good p) (good q) (good a) hn ht hk hp hq ha =
    and_from (is_of Name n) (are_declarations (domain_of n t k p q a) && list_all is_action a) hn
    (and_from (are_declarations (domain_of n t k p q a)) (list_all is_action a)
    (and_from (list_all (is_typed Name) t) (list_all (is_typed Name) k && (list_all is_head p && list_all is_head q)) ht
    (and_from (list_all (is_typed Name) k) (list_all is_head p && list_all is_head q) hk (and_from (list_all is_head p) (list_all is_head q) hp hq))) ha)

parts_of_text_give : (d : Definition) → Gives is_domain (domain_parts d)
unfolding domain_parts
parts_of_text_give d =
    gives-both second (λ a. true) is_domain is_domain (sections_form source.Domain d.sections) (both second (requirements_form d.sections) (read_sections d.title d.sections)) (λ a b h k. k) (gives-any (sections_form source.Domain d.sections))
    (gives-both second (λ a. true) is_domain is_domain (requirements_form d.sections) (read_sections d.title d.sections) (λ a b h k. k) (gives-any (requirements_form d.sections))
    (whole_gives (title_form (codes "domain") d.title) (types_section d.sections) (constants_section d.sections) (predicates_section d.sections) (functions_section d.sections) (actions_section d.sections)
    (title_gives (codes "domain") d.title) (types_give d.sections) (constants_give d.sections) (predicates_give d.sections) (functions_section_gives d.sections) (actions_give d.sections)))

pub domain_gives : (tree : Tree) → Gives is_domain (domain_form tree)
unfolding domain_form
domain_gives tree = gives-and_then is_domain (definition_form tree) domain_parts parts_of_text_give
