-- The parts that the passes over names make are numbered: each number is in range.
use Rattle.std.proofs.Common.{◌≡◌, ℕ, ◌<◌, ◌≤◌, Bool, true, false, List, [], ◌∷◌, ◌++◌, length, map, arith, refl, sym, ◌∙◌, ap, subst}
use Rattle.std.specs.Prelude.{◌&&◌, nat_lt, unwrap_or}
use Rattle.std.specs.List.{flat_map, list_all}
use Rattle.std.proofs.lemmas.Bool.{lt-ltb}
use Rattle.std.proofs.lemmas.List.{length-append, length-map}
use Rattle.std.proofs.lemmas.Simd.{map-map}
use Rattle.name_table.specs.NameTable.{number_in}
use Rattle.pddl_form.specs.declared.spot.Spot.{Spot}
use Rattle.pddl_form.specs.declared.typed.Typed.{Typed}
use Rattle.pddl_form.specs.Judged.{good, mapped, both, each}
use Rattle.pddl_form.specs.Parts.{pair}
use Rattle.pddl_domain.specs.declared.head.Head.{Head}
use Rattle.pddl_domain.specs.declared.action.ActionAst.{ActionAst}
use Rattle.pddl_domain.specs.declared.domain.DomainAst.{DomainAst}
use Rattle.pddl_problem.specs.declared.ast.InitAst.{InitAst}
use Rattle.pddl_problem.specs.declared.ast.InitAst.TheVariants as item_ast
use Rattle.pddl_problem.specs.declared.ast.ProblemAst.{ProblemAst}
use Rattle.pddl_task.specs.declared.declared.TypeName.{TypeName}
use Rattle.pddl_task.specs.declared.declared.Object.{Object}
use Rattle.pddl_task.specs.declared.declared.Signature.{Signature}
use Rattle.pddl_task.specs.declared.action.Action.{Action}
use Rattle.pddl_task.specs.declared.condition.Cond.{Cond}
use Rattle.pddl_task.specs.declared.effect.Effect.{Effect}
use Rattle.pddl_task.specs.Task.{parents, names_of as type_names_of}
use Rattle.pddl_task.specs.Numbers.{IsNumbered, Counts, are_types, is_condition, is_effect, is_action, are_objects, is_fact, is_given}
use Rattle.typing_uses.specs.Scope.{Scope, named, texts, distinct, declared_again}
use Rattle.typing_names.specs.Faults.{beside}
use Rattle.pddl_form.specs.Gather.{apply}
use Rattle.typing_uses.specs.Expressions.{condition_named, conditions_named, effect_named, effects_named}
use Rattle.typing_names.specs.Domain.{names_of, heads_of, object_name, type_names, supertype_of, type_called, types_in, written_type, object_with, object_named, objects_named, or_object, parameter_named, parameters_named, signature_with, signature_named, signatures_named, action_with, within, action_named, actions_named, DomainParts, domain_scope, domain_again, domain_names}
use Rattle.typing_names.specs.Problem.{Item, atom, value, value_with, objects_in, item_named, facts_in, values_in, ProblemParts, problem_scope, problem_names}
use Rattle.typing_types.specs.Types.{domain_declared, problem_declared}
use Rattle.typing_types.specs.Known.{AreTyped, are_all_types, have_types}
use Rattle.typing_names.specs.Items.{is_counted}
use Rattle.typing.specs.Link.{task_of}
use Rattle.typing_uses.proofs.Good.{MappedGood, mapped_good, BothGood, both_good, both_true, each_passes, each_counts}
use Rattle.typing_names.proofs.GoodParts.{BesideGood, beside_good, ActionGood, action_good}
use Rattle.typing.proofs.NumberLaws.{Fits, named_within, condition_within, effect_within, sighted_most, sighted_least}
use Rattle.typing_names.proofs.TypeNameLaws.{number_within}
use Rattle.typing_names.proofs.DomainParts.{parts_beside, assembled, names-assembled}
use Rattle.typing_names.proofs.ProblemLaws.{problem_again, parts_beside as problem_beside, assembled as problem_assembled, names-assembled as problem_names-assembled}

-- ---- what is declared

-- below a count
abbrev are_below : ℕ → List ℕ → Bool
are_below count ts = list_all (λ t. nat_lt t count) ts

abbrev all_below : ℕ → List (List ℕ) → Bool
all_below count params = list_all (are_below count) params

zero_below : (count most : ℕ) → 0 < most → most ≤ count → nat_lt 0 count ≡ true
zero_below count most some few = lt-ltb 0 count (omega arith)

written_within : (types : List (List ℕ)) (count : ℕ) → 0 < length types → length types ≤ count → (spots : List Spot) (n : ℕ) → written_type types spots ≡ good n → nat_lt n count ≡ true
written_within types count some few [] n made = let none : 0 ≡ n = cc made in subst (λ m. nat_lt m count ≡ true) none (zero_below count (length types) some few)
written_within types count some few (s ∷ spots) n made = named_within types s n count few made

object_within : (types : List (List ℕ)) (count : ℕ) → 0 < length types → length types ≤ count → (t : Typed) (o : Object) → object_named types t ≡ good o → nat_lt o.of count ≡ true
object_within types count some few t o made =
    let h : MappedGood (object_with t.name.text) (written_type types t.types) o = mapped_good (object_with t.name.text) (written_type types t.types) o made in
    subst (λ (x : Object). nat_lt x.of count ≡ true) h.made (written_within types count some few t.types h.part h.part_is)

objects_within : (types : List (List ℕ)) (count : ℕ) → 0 < length types → length types ≤ count → (items : List Typed) (objects : List Object) → objects_named types items ≡ good objects
    → list_all (λ o. nat_lt o.of count) objects ≡ true
objects_within types count some few items objects made = each_passes (object_named types) (λ (o : Object). nat_lt o.of count) (object_within types count some few) items objects made

allowed_within : (count most : ℕ) → 0 < most → most ≤ count → (ts : List ℕ) → are_below count ts ≡ true → are_below count (or_object ts) ≡ true
allowed_within count most some few [] all = both_true (nat_lt 0 count) true (zero_below count most some few) refl
allowed_within count most some few (t ∷ ts) all = all

param_within : (types : List (List ℕ)) (count : ℕ) → 0 < length types → length types ≤ count → (t : Typed) (ts : List ℕ) → parameter_named types t ≡ good ts → are_below count ts ≡ true
param_within types count some few t ts made =
    let h : MappedGood or_object (each (map (named types) t.types)) ts = mapped_good or_object (each (map (named types) t.types)) ts made in
    subst (λ (l : List ℕ). are_below count l ≡ true) h.made
    (allowed_within count (length types) some few h.part (each_passes (named types) (λ n. nat_lt n count) (λ s n. named_within types s n count few) t.types h.part h.part_is))

params_within : (types : List (List ℕ)) (count : ℕ) → 0 < length types → length types ≤ count → (params : List Typed) (made : List (List ℕ)) → parameters_named types params ≡ good made → all_below count made ≡ true
params_within types count some few params made is =
    let h : BesideGood (declared_again [] (names_of params)) (each (map (parameter_named types) params)) made = beside_good (declared_again [] (names_of params)) (each (map (parameter_named types) params)) made is in
    each_passes (parameter_named types) (are_below count) (param_within types count some few) params made h.part_is

pub params_count : (types : List (List ℕ)) (params : List Typed) (made : List (List ℕ)) → parameters_named types params ≡ good made → length made ≡ length params
params_count types params made is =
    let h : BesideGood (declared_again [] (names_of params)) (each (map (parameter_named types) params)) made = beside_good (declared_again [] (names_of params)) (each (map (parameter_named types) params)) made is in
    each_counts (parameter_named types) params made h.part_is

signature_within : (types : List (List ℕ)) (count : ℕ) → 0 < length types → length types ≤ count → (head : Head) (s : Signature) → signature_named types head ≡ good s → all_below count s.params ≡ true
signature_within types count some few head s made =
    let h : MappedGood (signature_with head.name.text) (parameters_named types head.params) s = mapped_good (signature_with head.name.text) (parameters_named types head.params) s made in
    subst (λ (x : Signature). all_below count x.params ≡ true) h.made (params_within types count some few head.params h.part h.part_is)

signatures_within : (types : List (List ℕ)) (count : ℕ) → 0 < length types → length types ≤ count → (heads : List Head) (made : List Signature) → signatures_named types heads ≡ good made
    → list_all (λ s. all_below count s.params) made ≡ true
signatures_within types count some few heads made is = each_passes (signature_named types) (λ (s : Signature). all_below count s.params) (signature_within types count some few) heads made is

-- ---- actions

spots_of : (spots : List Spot) → length (texts spots) ≡ length spots
spots_of spots = length-map spots (λ (s : Spot). s.text)

typed_spots : (params : List Typed) → length (texts (names_of params)) ≡ length params
typed_spots params = spots_of (names_of params) ∙ length-map params (λ (t : Typed). t.name)

distinct_most : (names : List (List ℕ)) → length (distinct names) ≤ length names
distinct_most names = omega (arith, sighted_most [] names)

-- inside an action
pub fits_inside : (scope : Scope) (counts : Counts) (n m : ℕ) (params : List Typed) → Fits scope counts n → m ≡ length params → Fits (within scope params) counts m
fits_inside scope counts n m params fits count_is = record {
  types = fits.types;
  objects = fits.objects;
  preds = fits.preds;
  funcs = fits.funcs;
  params = omega (arith, distinct_most (texts (names_of params)), typed_spots params);
}

action_within : (scope : Scope) (counts : Counts) (n : ℕ) → 0 < length scope.types → Fits scope counts n → (a : ActionAst) (x : Action) → action_named scope a ≡ good x → is_action counts x ≡ true
action_within scope counts n some fits a x made =
    let h : ActionGood scope a x = action_good scope a x made in
    let inner : Fits (within scope a.params) counts (length x.params) = fits_inside scope counts n (length x.params) a.params fits (params_count scope.types a.params x.params h.params) in
    both_true (are_types counts x.params) (list_all (is_condition counts (length x.params)) x.conds && list_all (is_effect counts (length x.params)) x.effs)
    (params_within scope.types counts.types some fits.types a.params x.params h.params)
    (both_true (list_all (is_condition counts (length x.params)) x.conds) (list_all (is_effect counts (length x.params)) x.effs)
    (each_passes (condition_named (within scope a.params)) (is_condition counts (length x.params)) (condition_within (within scope a.params) counts (length x.params) inner) a.conds x.conds h.conds)
    (each_passes (effect_named (within scope a.params)) (is_effect counts (length x.params)) (effect_within (within scope a.params) counts (length x.params) inner) a.effs x.effs h.effs))

-- ---- a domain's parts

pub record DomainGood (d : DomainAst) (parts : DomainParts) : Type 0 where
  pub types : parts.types ≡ types_in d.types
  pub objects : objects_named (domain_scope d).types d.constants ≡ good parts.objects
  pub preds : signatures_named (domain_scope d).types d.preds ≡ good parts.preds
  pub funcs : signatures_named (domain_scope d).types d.funcs ≡ good parts.funcs
  pub actions : actions_named (domain_scope d) d.actions ≡ good parts.actions

pub domain_good : (d : DomainAst) (parts : DomainParts) → domain_names d ≡ good parts → DomainGood d parts
domain_good d parts made =
    let scope : Scope = domain_scope d in
    let m : MappedGood (assembled (types_in d.types)) (beside (domain_again d) (parts_beside (domain_scope d) d)) parts =
    mapped_good (assembled (types_in d.types)) (beside (domain_again d) (parts_beside (domain_scope d) d)) parts (sym (names-assembled d) ∙ made) in
    let b : BesideGood (domain_again d) (parts_beside (domain_scope d) d) m.part = beside_good (domain_again d) (parts_beside (domain_scope d) d) m.part m.part_is in
    let h : BothGood pair (both pair (both pair (objects_named (domain_scope d).types d.constants) (signatures_named (domain_scope d).types d.preds)) (signatures_named (domain_scope d).types d.funcs)) (actions_named (domain_scope d) d.actions) m.part =
    both_good pair (both pair (both pair (objects_named (domain_scope d).types d.constants) (signatures_named (domain_scope d).types d.preds)) (signatures_named (domain_scope d).types d.funcs)) (actions_named (domain_scope d) d.actions) m.part b.part_is in
    let k : BothGood pair (both pair (objects_named (domain_scope d).types d.constants) (signatures_named (domain_scope d).types d.preds)) (signatures_named (domain_scope d).types d.funcs) h.left =
    both_good pair (both pair (objects_named (domain_scope d).types d.constants) (signatures_named (domain_scope d).types d.preds)) (signatures_named (domain_scope d).types d.funcs) h.left h.left_is in
    let l : BothGood pair (objects_named (domain_scope d).types d.constants) (signatures_named (domain_scope d).types d.preds) k.left =
    both_good pair (objects_named (domain_scope d).types d.constants) (signatures_named (domain_scope d).types d.preds) k.left k.left_is in
    let whole : assembled (types_in d.types) (((l.left, l.right), k.right), h.right) ≡ parts =
    ap (λ (q : List Object × List Signature). assembled (types_in d.types) ((q, k.right), h.right)) l.made
    ∙ ap (λ (q : (List Object × List Signature) × List Signature). assembled (types_in d.types) (q, h.right)) k.made
    ∙ ap (assembled (types_in d.types)) h.made ∙ m.made in
    record {
      types = sym (ap (λ (x : DomainParts). x.types) whole);
      objects = l.left_is ∙ ap (λ (x : DomainParts). good x.objects) whole;
      preds = l.right_is ∙ ap (λ (x : DomainParts). good x.preds) whole;
      funcs = k.right_is ∙ ap (λ (x : DomainParts). good x.funcs) whole;
      actions = h.right_is ∙ ap (λ (x : DomainParts). good x.actions) whole;
    }

some_type : (d : DomainAst) → 0 < length (domain_scope d).types
some_type d = omega (arith, sighted_least (object_name ∷ []) (flat_map (λ (t : Typed). t.name.text ∷ texts t.types) d.types))

types_count : (d : DomainAst) (parts : DomainParts) → DomainGood d parts → length (domain_scope d).types ≡ length parts.types
types_count d parts h = sym (ap length h.types ∙ length-map (type_names d.types) (type_called d.types (type_names d.types)))

heads_spots : (heads : List Head) → length (texts (heads_of heads)) ≡ length heads
heads_spots heads = spots_of (heads_of heads) ∙ length-map heads (λ (h : Head). h.name)

abbrev pub counts_with : DomainParts → ℕ → Counts
counts_with parts objects = record { types = length parts.types; objects = objects; preds = length parts.preds; funcs = length parts.funcs }

-- with so many objects in all
pub fits_domain : (d : DomainAst) (parts : DomainParts) (objects : ℕ) → DomainGood d parts → length parts.objects ≤ objects → Fits (domain_scope d) (counts_with parts objects) 0
fits_domain d parts objects h more = record {
  types = omega (arith, types_count d parts h);
  objects = omega (arith, distinct_most (texts (names_of d.constants)), typed_spots d.constants, each_counts (object_named (domain_scope d).types) d.constants parts.objects h.objects);
  preds = omega (arith, distinct_most (texts (heads_of d.preds)), heads_spots d.preds, each_counts (signature_named (domain_scope d).types) d.preds parts.preds h.preds);
  funcs = omega (arith, distinct_most (texts (heads_of d.funcs)), heads_spots d.funcs, each_counts (signature_named (domain_scope d).types) d.funcs parts.funcs h.funcs);
  params = omega arith;
}

parent_within : (types : List Typed) (names : List (List ℕ)) (count : ℕ) → 0 < length names → length names ≤ count → (more : List (List ℕ)) → list_all (λ t. nat_lt t.parent count) (map (type_called types names) more) ≡ true
parent_within types names count some few [] = refl
parent_within types names count some few (name ∷ more) =
    both_true (nat_lt (unwrap_or (number_in names (supertype_of types name)) 0) count) (list_all (λ t. nat_lt t.parent count) (map (type_called types names) more))
    (lt-ltb _ count (omega (arith, number_within names (supertype_of types name) some))) (parent_within types names count some few more)

parents_within : (d : DomainAst) (parts : DomainParts) → DomainGood d parts → list_all (λ t. nat_lt t.parent (length parts.types)) parts.types ≡ true
parents_within d parts h =
    ap (λ (ts : List TypeName). list_all (λ t. nat_lt t.parent (length parts.types)) ts) h.types
    ∙ parent_within d.types (type_names d.types) (length parts.types) (some_type d) (omega (arith, types_count d parts h)) (type_names d.types)

first : (a b : Bool) → (a && b) ≡ true → a ≡ true
first true b h = refl
first false b h = h

rest : (a b : Bool) → (a && b) ≡ true → b ≡ true
rest true b h = h
rest false b h = absurd (cc h)

list_all-weaker : {X : Type 0} (test other : X → Bool) → ((x : X) → test x ≡ true → other x ≡ true) → (xs : List X) → list_all test xs ≡ true → list_all other xs ≡ true
list_all-weaker test other weaker [] all = refl
list_all-weaker test other weaker (x ∷ xs) all = both_true (other x) (list_all other xs) (weaker x (first (test x) (list_all test xs) all)) (list_all-weaker test other weaker xs (rest (test x) (list_all test xs) all))

actions_within : (d : DomainAst) (parts : DomainParts) (objects : ℕ) → DomainGood d parts → length parts.objects ≤ objects → list_all (is_action (counts_with parts objects)) parts.actions ≡ true
actions_within d parts objects h more =
    each_passes (action_named (domain_scope d)) (is_action (counts_with parts objects)) (action_within (domain_scope d) (counts_with parts objects) 0 (some_type d) (fits_domain d parts objects h more)) d.actions parts.actions h.actions

above_count : (types : List TypeName) → length (parents types) ≡ length types
above_count types = length-map types (λ (t : TypeName). t.parent)

-- what is known of a domain whose names have no fault
pub record DomainNumbered (d : DomainAst) (parts : DomainParts) : Type 0 where
  pub types_are : (domain_scope d).types ≡ type_names_of parts.types
  pub parents : list_all (λ t. nat_lt t.parent (length parts.types)) parts.types ≡ true
  pub typed : AreTyped (domain_declared d parts)
  pub actions : have_types (length parts.types) parts.actions ≡ true

domain_typed : (d : DomainAst) (parts : DomainParts) → DomainGood d parts → AreTyped (domain_declared d parts)
domain_typed d parts h =
    let few : length (domain_scope d).types ≤ length (parents parts.types) = omega (arith, types_count d parts h, above_count parts.types) in
    record {
      types = types_count d parts h ∙ sym (above_count parts.types);
      objects = objects_within (domain_scope d).types (length (parents parts.types)) (some_type d) few d.constants parts.objects h.objects;
      preds = signatures_within (domain_scope d).types (length (parents parts.types)) (some_type d) few d.preds parts.preds h.preds;
      funcs = signatures_within (domain_scope d).types (length (parents parts.types)) (some_type d) few d.funcs parts.funcs h.funcs;
      params = refl;
    }

same_list : (xs : List (List ℕ)) → map (λ (x : List ℕ). x) xs ≡ xs
same_list [] = refl
same_list (x ∷ xs) = ap (λ (l : List (List ℕ)). x ∷ l) (same_list xs)

pub domain_numbered : (d : DomainAst) (parts : DomainParts) → domain_names d ≡ good parts → DomainNumbered d parts
domain_numbered d parts made =
    let h : DomainGood d parts = domain_good d parts made in
    record {
      types_are = sym (ap type_names_of h.types ∙ map-map (λ (t : TypeName). t.name) (type_called d.types (type_names d.types)) (type_names d.types) ∙ same_list (type_names d.types));
      parents = parents_within d parts h;
      typed = domain_typed d parts h;
      actions = list_all-weaker (is_action (counts_with parts (length parts.objects))) (λ (a : Action). are_all_types (length parts.types) a.params)
          (λ a all. first (are_all_types (length parts.types) a.params) _ all) parts.actions (actions_within d parts (length parts.objects) h (omega arith));
    }

-- ---- a problem's parts

pub record ProblemGood (d : DomainAst) (p : ProblemAst) (more : ProblemParts) : Type 0 where
  pub objects : objects_named (problem_scope d p).types p.objects ≡ good more.objects
  pub items : each (map (item_named (problem_scope d p)) p.init) ≡ good more.items
  pub goal : conditions_named (problem_scope d p) p.goal ≡ good more.goal

pub problem_good : (d : DomainAst) (p : ProblemAst) (more : ProblemParts) → problem_names d p ≡ good more → ProblemGood d p more
problem_good d p more made =
    let m : MappedGood problem_assembled (beside (problem_again d p) (problem_beside (problem_scope d p) p)) more =
    mapped_good problem_assembled (beside (problem_again d p) (problem_beside (problem_scope d p) p)) more (sym (problem_names-assembled d p) ∙ made) in
    let b : BesideGood (problem_again d p) (problem_beside (problem_scope d p) p) m.part = beside_good (problem_again d p) (problem_beside (problem_scope d p) p) m.part m.part_is in
    let h : BothGood pair (both pair (objects_named (problem_scope d p).types p.objects) (each (map (item_named (problem_scope d p)) p.init))) (conditions_named (problem_scope d p) p.goal) m.part =
    both_good pair (both pair (objects_named (problem_scope d p).types p.objects) (each (map (item_named (problem_scope d p)) p.init))) (conditions_named (problem_scope d p) p.goal) m.part b.part_is in
    let k : BothGood pair (objects_named (problem_scope d p).types p.objects) (each (map (item_named (problem_scope d p)) p.init)) h.left =
    both_good pair (objects_named (problem_scope d p).types p.objects) (each (map (item_named (problem_scope d p)) p.init)) h.left h.left_is in
    let whole : problem_assembled ((k.left, k.right), h.right) ≡ more =
    ap (λ (q : List Object × List Item). problem_assembled (q, h.right)) k.made ∙ ap problem_assembled h.made ∙ m.made in
    record {
      objects = k.left_is ∙ ap (λ (x : ProblemParts). good x.objects) whole;
      items = k.right_is ∙ ap (λ (x : ProblemParts). good x.items) whole;
      goal = h.right_is ∙ ap (λ (x : ProblemParts). good x.goal) whole;
    }

abbrev pub all_objects : DomainParts → ProblemParts → ℕ
all_objects parts more = length (parts.objects ++ more.objects)

pub fits_problem : (d : DomainAst) (parts : DomainParts) (p : ProblemAst) (more : ProblemParts) → DomainGood d parts → ProblemGood d p more → Fits (problem_scope d p) (counts_with parts (all_objects parts more)) 0
fits_problem d parts p more h k =
    let fits : Fits (domain_scope d) (counts_with parts (length parts.objects)) 0 = fits_domain d parts (length parts.objects) h (omega arith) in
    record {
      types = fits.types;
      objects = omega (
        arith,
        fits.objects,
        sighted_most (domain_scope d).objects (texts (names_of p.objects)),
        typed_spots p.objects,
        length-append parts.objects more.objects,
        each_counts (object_named (domain_scope d).types) p.objects more.objects k.objects,
      );
      preds = fits.preds;
      funcs = fits.funcs;
      params = omega arith;
    }

-- an item's numbers are in range
abbrev is_item : Counts → Item → Bool
is_item counts (atom place pos pred args) = nat_lt pred counts.preds && are_objects counts args
is_item counts (value place func args amount) = nat_lt func counts.funcs && are_objects counts args

args_within : (scope : Scope) (counts : Counts) → Fits scope counts 0 → (spots : List Spot) (args : List ℕ) → objects_in scope spots ≡ good args → are_objects counts args ≡ true
args_within scope counts fits spots args made = each_passes (named scope.objects) (λ o. nat_lt o counts.objects) (λ s o. named_within scope.objects s o counts.objects fits.objects) spots args made

item_within : (scope : Scope) (counts : Counts) → Fits scope counts 0 → (i : InitAst) (x : Item) → item_named scope i ≡ good x → is_item counts x ≡ true
item_within scope counts fits (item_ast.Put pos name args place) x made =
    let h : BothGood (atom place pos) (named scope.preds name) (objects_in scope args) x = both_good (atom place pos) (named scope.preds name) (objects_in scope args) x made in
    subst (λ (y : Item). is_item counts y ≡ true) h.made
    (both_true (nat_lt h.left counts.preds) (are_objects counts h.right) (named_within scope.preds name h.left counts.preds fits.preds h.left_is) (args_within scope counts fits args h.right h.right_is))
item_within scope counts fits (item_ast.Value name args amount place) x made =
    let h : BothGood (value_with place amount) (named scope.funcs name) (objects_in scope args) x = both_good (value_with place amount) (named scope.funcs name) (objects_in scope args) x made in
    subst (λ (y : Item). is_item counts y ≡ true) h.made
    (both_true (nat_lt h.left counts.funcs) (are_objects counts h.right) (named_within scope.funcs name h.left counts.funcs fits.funcs h.left_is) (args_within scope counts fits args h.right h.right_is))

items_within : (d : DomainAst) (parts : DomainParts) (p : ProblemAst) (more : ProblemParts) → DomainGood d parts → ProblemGood d p more → list_all (is_item (counts_with parts (all_objects parts more))) more.items ≡ true
items_within d parts p more h k =
    each_passes (item_named (problem_scope d p)) (is_item (counts_with parts (all_objects parts more))) (item_within (problem_scope d p) (counts_with parts (all_objects parts more)) (fits_problem d parts p more h k)) p.init more.items k.items

facts_within : (counts : Counts) (items : List Item) → list_all (is_item counts) items ≡ true → list_all (is_fact counts) (facts_in items) ≡ true
facts_within counts [] all = refl
facts_within counts (atom place true pred args ∷ items) all =
    both_true (nat_lt pred counts.preds && are_objects counts args) (list_all (is_fact counts) (facts_in items)) (first (nat_lt pred counts.preds && are_objects counts args) (list_all (is_item counts) items) all)
    (facts_within counts items (rest (nat_lt pred counts.preds && are_objects counts args) (list_all (is_item counts) items) all))
facts_within counts (atom place false pred args ∷ items) all = facts_within counts items (rest (nat_lt pred counts.preds && are_objects counts args) (list_all (is_item counts) items) all)
facts_within counts (value place func args amount ∷ items) all = facts_within counts items (rest (nat_lt func counts.funcs && are_objects counts args) (list_all (is_item counts) items) all)

values_within : (counts : Counts) (items : List Item) → list_all (is_item counts) items ≡ true → list_all (is_given counts) (values_in items) ≡ true
values_within counts [] all = refl
values_within counts (atom place pos pred args ∷ items) all = values_within counts items (rest (nat_lt pred counts.preds && are_objects counts args) (list_all (is_item counts) items) all)
values_within counts (value place func args amount ∷ items) all =
    both_true (nat_lt func counts.funcs && are_objects counts args) (list_all (is_given counts) (values_in items)) (first (nat_lt func counts.funcs && are_objects counts args) (list_all (is_item counts) items) all)
    (values_within counts items (rest (nat_lt func counts.funcs && are_objects counts args) (list_all (is_item counts) items) all))

item_counted : (counts : Counts) (x : Item) → is_item counts x ≡ true → is_counted counts.preds counts.funcs x ≡ true
item_counted counts (atom place pos pred args) all = first (nat_lt pred counts.preds) (are_objects counts args) all
item_counted counts (value place func args amount) all = first (nat_lt func counts.funcs) (are_objects counts args) all

all_append : {X : Type 0} (test : X → Bool) (xs ys : List X) → list_all test xs ≡ true → list_all test ys ≡ true → list_all test (xs ++ ys) ≡ true
all_append test [] ys all also = also
all_append test (x ∷ xs) ys all also = both_true (test x) (list_all test (xs ++ ys)) (first (test x) (list_all test xs) all) (all_append test xs ys (rest (test x) (list_all test xs) all) also)

-- what is known of a problem too
pub record ProblemNumbered (d : DomainAst) (parts : DomainParts) (p : ProblemAst) (more : ProblemParts) : Type 0 where
  pub typed : AreTyped (problem_declared d parts p more)
  pub counted : list_all (is_counted (length parts.preds) (length parts.funcs)) more.items ≡ true

pub problem_numbered : (d : DomainAst) (parts : DomainParts) (p : ProblemAst) (more : ProblemParts) → domain_names d ≡ good parts → problem_names d p ≡ good more → ProblemNumbered d parts p more
problem_numbered d parts p more made also =
    let h : DomainGood d parts = domain_good d parts made in
    let k : ProblemGood d p more = problem_good d p more also in
    let few : length (domain_scope d).types ≤ length (parents parts.types) = omega (arith, types_count d parts h, above_count parts.types) in
    let typed : AreTyped (domain_declared d parts) = domain_typed d parts h in
    record {
      typed = record {
        types = typed.types;
        objects = all_append (λ (o : Object). nat_lt o.of (length (parents parts.types))) parts.objects more.objects typed.objects
            (objects_within (domain_scope d).types (length (parents parts.types)) (some_type d) few p.objects more.objects k.objects);
        preds = typed.preds;
        funcs = typed.funcs;
        params = refl;
      };
      counted = list_all-weaker (is_item (counts_with parts (all_objects parts more))) (is_counted (length parts.preds) (length parts.funcs)) (item_counted (counts_with parts (all_objects parts more))) more.items
          (items_within d parts p more h k);
    }

-- the task that they come to
pub task_numbered : (d : DomainAst) (parts : DomainParts) (p : ProblemAst) (more : ProblemParts) → domain_names d ≡ good parts → problem_names d p ≡ good more → IsNumbered (task_of parts more)
task_numbered d parts p more made also =
    let h : DomainGood d parts = domain_good d parts made in
    let k : ProblemGood d p more = problem_good d p more also in
    let few : length (domain_scope d).types ≤ length parts.types = omega (arith, types_count d parts h) in
    record {
      types = parents_within d parts h;
      objects = all_append (λ (o : Object). nat_lt o.of (length parts.types)) parts.objects more.objects
          (objects_within (domain_scope d).types (length parts.types) (some_type d) few d.constants parts.objects h.objects)
          (objects_within (domain_scope d).types (length parts.types) (some_type d) few p.objects more.objects k.objects);
      preds = signatures_within (domain_scope d).types (length parts.types) (some_type d) few d.preds parts.preds h.preds;
      funcs = signatures_within (domain_scope d).types (length parts.types) (some_type d) few d.funcs parts.funcs h.funcs;
      actions = actions_within d parts (all_objects parts more) h (omega (arith, length-append parts.objects more.objects));
      facts = facts_within (counts_with parts (all_objects parts more)) more.items (items_within d parts p more h k);
      values = values_within (counts_with parts (all_objects parts more)) more.items (items_within d parts p more h k);
      goal = each_passes (condition_named (problem_scope d p)) (is_condition (counts_with parts (all_objects parts more)) 0)
          (condition_within (problem_scope d p) (counts_with parts (all_objects parts more)) 0 (fits_problem d parts p more h k)) p.goal more.goal k.goal;
    }
