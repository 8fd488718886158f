-- The names of the actions and the constants of a domain whose words are in lower case are spelled as in texts.
use Rattle.std.proofs.Common.{◌≡◌, ℕ, Bool, true, List, [], ◌∷◌, refl, ◌∙◌, ap}
use Rattle.std.specs.Prelude.{codes, ◌&&◌}
use Rattle.std.specs.List.{list_all}
use Rattle.std.proofs.lemmas.Bool.{and_parts, and_from}
use Rattle.sexpr.specs.declared.tree.Tree.{Tree}
use Rattle.sexpr.specs.declared.fault.Source.TheVariants as source
use Rattle.pddl_form.specs.declared.names.Sort.TheVariants.{Name}
use Rattle.pddl_form.specs.declared.spot.Spot.{Spot}
use Rattle.pddl_form.specs.declared.typed.Typed.{Typed}
use Rattle.pddl_form.specs.Judged.{Judged, good, bad, mapped, both}
use Rattle.pddl_form.specs.Put.{put_all}
use Rattle.pddl_form.specs.Sections.{Definition, section_with, sections_with, second, sections_form, requirements_form, title_form, definition_form}
use Rattle.pddl_form.specs.Words.{word_form}
use Rattle.pddl_form.proofs.Giving.{Gives, gives-any, gives-mapped, gives-both}
use Rattle.pddl_domain.specs.declared.action.ActionAst.{ActionAst}
use Rattle.pddl_domain.specs.declared.action.Part.{Part}
use Rattle.pddl_domain.specs.declared.action.Part.TheVariants as part
use Rattle.pddl_domain.specs.declared.domain.DomainAst.{DomainAst}
use Rattle.pddl_domain.specs.declared.head.Head.{Head}
use Rattle.pddl_domain.specs.Action.{no_keys, parts_behind, with_part, bare_action, action_form}
use Rattle.pddl_domain.specs.Domain.{names_in, types_section, constants_section, predicates_section, functions_section, action_in, actions_section, whole, read_sections, domain_parts, domain_form}
use Rattle.read_back.proofs.LowWords.{is_worded, are_worded}
use Rattle.read_back.proofs.Forms.{is_named, name_gives, is_named_item, typed_gives, has_words, section_worded, sections_worded, section_gives, all_give, then_gives, has_worded_sections, definition_gives}

-- ---- actions

abbrev pub is_named_action : ActionAst → Bool
is_named_action a = is_named a.name

name_kept : (a : ActionAst) (one : Part) → (with_part a one).name ≡ a.name
name_kept a (part.Parameters params) = refl
name_kept a (part.Precondition conds) = refl
name_kept a (part.Effect effs) = refl

name_stays : (a : ActionAst) (parts : List Part) → (put_all with_part a parts).name ≡ a.name
name_stays a [] = refl
name_stays a (one ∷ parts) = name_stays (with_part a one) parts ∙ name_kept a one

action_gives : (end : ℕ) (trees : List Tree) → are_worded trees ≡ true → Gives is_named_action (action_form end trees)
unfolding action_form
action_gives end [] all = tt
action_gives end (name ∷ parts) all =
    gives-both (put_all with_part) is_named_action (λ made. true) is_named_action (mapped bare_action (word_form Name name)) (parts_behind end no_keys parts)
    (λ a made h any. ap is_named (name_stays a made) ∙ h)
    (gives-mapped bare_action is_named is_named_action (word_form Name name) (λ spot h. h) (name_gives name (and_parts (is_worded name) (are_worded parts) all).0))
    (gives-any (parts_behind end no_keys parts))

-- ---- the whole domain

constants_give : (sections : List Tree) → are_worded sections ≡ true → Gives (list_all is_named_item) (constants_section sections)
unfolding constants_section
constants_give sections all =
    section_gives (list_all is_named_item) (good []) names_in (section_with (codes ":constants") sections) (section_worded (codes ":constants") sections all) refl (λ c words. typed_gives c.end c.parts words)

actions_give : (sections : List Tree) → are_worded sections ≡ true → Gives (list_all is_named_action) (actions_section sections)
unfolding actions_section
actions_give sections all = all_give action_in has_words is_named_action (λ c words. action_gives c.end c.parts words) (sections_with (codes ":action") sections) (sections_worded (codes ":action") sections all)

abbrev pub is_named_domain : DomainAst → Bool
is_named_domain d = list_all is_named_item d.constants && list_all is_named_action d.actions

whole_gives : (name : Judged Spot) (types constants : Judged (List Typed)) (preds funcs : Judged (List Head)) (actions : Judged (List ActionAst))
    → Gives (list_all is_named_item) constants → Gives (list_all is_named_action) actions → Gives is_named_domain (whole name types constants preds funcs actions)
unfolding whole
whole_gives (bad f more) t k p q a hk ha = tt
whole_gives (good n) (bad f more) k p q a hk ha = tt
whole_gives (good n) (good t) (bad f more) p q a hk ha = tt
whole_gives (good n) (good t) (good k) (bad f more) q a hk ha = tt
whole_gives (good n) (good t) (good k) (good p) (bad f more) a hk ha = tt
whole_gives (good n) (good t) (good k) (good p) (good q) (bad f more) hk ha = tt
whole_gives (good n) (good t) (good k) (good p) (good q) (good a) hk ha = and_from (list_all is_named_item k) (list_all is_named_action a) hk ha

parts_give : (d : Definition) → has_worded_sections d ≡ true → Gives is_named_domain (domain_parts d)
unfolding domain_parts
parts_give d all =
    gives-both second (λ a. true) is_named_domain is_named_domain (sections_form source.Domain d.sections) (both second (requirements_form d.sections) (read_sections d.title d.sections)) (λ a b h k. k) (gives-any (sections_form source.Domain d.sections))
    (gives-both second (λ a. true) is_named_domain is_named_domain (requirements_form d.sections) (read_sections d.title d.sections) (λ a b h k. k) (gives-any (requirements_form d.sections))
    (whole_gives (title_form (codes "domain") d.title) (types_section d.sections) (constants_section d.sections) (predicates_section d.sections) (functions_section d.sections) (actions_section d.sections)
    (constants_give d.sections all) (actions_give d.sections all)))

pub domain_gives : (t : Tree) → is_worded t ≡ true → Gives is_named_domain (domain_form t)
unfolding domain_form
domain_gives t all = then_gives has_worded_sections is_named_domain (definition_form t) domain_parts (definition_gives t all) parts_give
