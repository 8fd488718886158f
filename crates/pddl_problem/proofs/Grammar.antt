-- What the form of a problem gives is of the grammar.
use Rattle.std.proofs.Common.{◌≡◌, ℕ, Bool, true, false, List, [], ◌∷◌, Option, refl, ◌∙◌, ap}
use Rattle.std.specs.Prelude.{if◌then◌else◌, codes, bytes_eq, ◌&&◌}
use Rattle.std.specs.List.{list_all}
use Rattle.std.proofs.lemmas.Bool.{and_parts, and_from}
use Rattle.std.proofs.lemmas.Slice.Eq.{bytes_eq-Decides}
use Rattle.rational.specs.Fraction.{Fraction}
use Rattle.sexpr.specs.declared.tree.Tree.{Tree, out-Tree}
use Rattle.sexpr.specs.declared.tree.Tree.TheOpen.{Tree-F}
use Rattle.sexpr.specs.declared.fault.Source.TheVariants.{Problem}
use Rattle.pddl_form.specs.declared.names.Sort.TheVariants.{Name}
use Rattle.pddl_form.specs.declared.calls.Call.{Call}
use Rattle.pddl_form.specs.declared.spot.Spot.{Spot}
use Rattle.pddl_form.specs.declared.typed.Typed.{Typed}
use Rattle.pddl_form.specs.Calls.{arguments, call_form}
use Rattle.pddl_form.specs.Grammar.{is_of, is_call, is_typed}
use Rattle.pddl_form.specs.Judged.{Judged, good, bad, lacking, mapped, both}
use Rattle.pddl_form.specs.Names.{is_reserved, is_symbol}
use Rattle.pddl_form.specs.Parts.{two_parts}
use Rattle.pddl_form.specs.Words.{word_of, word_form}
use Rattle.pddl_form.specs.Sections.{Contents, Definition, section_with, second, sections_form, requirements_form, title_form, definition_form}
use Rattle.pddl_form.proofs.Giving.{Gives, gives-any, gives-mapped, gives-both, gives-if, gives-each, gives-contents, gives-and_then}
use Rattle.pddl_form.proofs.Grammar.{word_gives, is_call_of, arguments_give, call_gives, one_gives, two_give, typed_list_gives, title_gives}
use Rattle.pddl_condition.specs.declared.condition.CondAst.{CondAst}
use Rattle.pddl_condition.specs.Condition.{negation, negated_atom, not_read, condition_form}
use Rattle.pddl_condition.specs.Grammar.{is_condition}
use Rattle.pddl_condition.proofs.Grammar.{condition_gives, negation_gives, negated_atom_gives}
use Rattle.pddl_problem.specs.declared.ast.InitAst.{InitAst}
use Rattle.pddl_problem.specs.declared.init.Head.{Head}
use Rattle.pddl_problem.specs.declared.init.Head.TheVariants.{Equal, At, Not, Predicate, Other}
use Rattle.pddl_problem.specs.Init.{put_item, value_item, value_form, true_atom, false_atom, first_value, is_timed, at_item, other_head, head_of, init_by, headed_init, init_at, init_form}
use Rattle.pddl_problem.specs.Problem.{name_in, domain_section, objects_in, objects_section, items_in, init_section, goal_in, goal_section, problem_of, whole, read_sections, problem_parts, problem_form}
use Rattle.pddl_problem.specs.Grammar.{is_init, is_problem}

-- ---- items of the initial state

true_gives : (start : ℕ) (head : Tree) (parts : List Tree) → is_symbol (word_of head) ≡ true → Gives is_init (true_atom start head parts)
unfolding true_atom
true_gives start head parts symbol = gives-mapped (put_item true start) (is_call_of Name) is_init (arguments Name head parts) (λ call h. h) (arguments_give Name head parts symbol)

false_gives : (start end : ℕ) (head : Tree) (parts : List Tree) → Gives is_init (false_atom start end head parts)
unfolding false_atom
false_gives start end head parts =
    gives-mapped (put_item false start) (is_call_of Name) is_init (negation (negated_atom Name head) start end parts) (λ call h. h) (negation_gives (negated_atom Name head) (is_call_of Name) (negated_atom_gives Name head) start end parts)

value_gives : (start end : ℕ) (parts : List Tree) → Gives is_init (first_value start end parts)
unfolding first_value
value_gives start end parts =
    gives-mapped (value_item start) (λ first. is_call Name first.0.name first.0.args && true) is_init (two_parts (call_form Name) value_form start end parts)
    (λ first h. (and_parts (is_call Name first.0.name first.0.args) true h).0)
    (two_give (call_form Name) value_form (is_call_of Name) (λ n. true) (call_gives Name) (λ t. gives-any (value_form t)) start end parts)

-- what the head of an item says of its word: `at` and any other head of an atom may name a predicate
abbrev Says : Head → Bool → Type 0
Says Equal symbol = Unit {0}
Says At symbol = symbol ≡ true
Says Not symbol = Unit {0}
Says Predicate symbol = symbol ≡ true
Says Other symbol = Unit {0}

abbrev head_by : Bool → Bool → Bool → Bool → Head
head_by equal at not symbol = if equal then Equal else (if at then At else (if not then Not else (if symbol then Predicate else Other)))

head_says : (equal at not symbol : Bool) → (at ≡ true → symbol ≡ true) → Says (head_by equal at not symbol) symbol
head_says true at not symbol is = tt
head_says false true not symbol is = is refl
head_says false false true symbol is = tt
head_says false false false true is = refl
head_says false false false false is = tt

at_is_symbol : is_symbol (codes "at") ≡ true
unfolding is_reserved
at_is_symbol = refl

says : (text : List ℕ) → Says (head_of text) (is_symbol text)
unfolding head_of
says text =
    head_says (bytes_eq text (codes "=")) (bytes_eq text (codes "at")) (bytes_eq text (codes "not")) (is_symbol text)
    (λ at. ap is_symbol ((bytes_eq-Decides text (codes "at")).0 at) ∙ at_is_symbol)

at_gives : (start : ℕ) (head : Tree) (parts : List Tree) → is_symbol (word_of head) ≡ true → Gives is_init (at_item start head parts)
at_gives start head parts symbol = gives-if is_init (is_timed parts) (not_read head) (true_atom start head parts) (λ timed. tt) (λ no. true_gives start head parts symbol)

init_by_gives : (k : Head) (start end : ℕ) (head : Tree) (parts : List Tree) → Says k (is_symbol (word_of head)) → Gives is_init (init_by k start end head parts)
init_by_gives Equal start end head parts said = value_gives start end parts
init_by_gives At start end head parts said = at_gives start head parts said
init_by_gives Not start end head parts said = false_gives start end head parts
init_by_gives Predicate start end head parts said = true_gives start head parts said
init_by_gives Other start end head parts said = tt

init_at_gives : (opened : Tree-F Tree) → Gives is_init (init_at opened)
unfolding headed_init
init_at_gives (Tree-F.Word start end text) = tt
init_at_gives (Tree-F.List start end []) = tt
init_at_gives (Tree-F.List start end (head ∷ parts)) = init_by_gives (head_of (word_of head)) start end head parts (says (word_of head))

init_gives : (tree : Tree) → Gives is_init (init_form tree)
unfolding init_form
init_gives tree = init_at_gives (out-Tree tree)

-- ---- the whole problem

domain_name_gives : (end : ℕ) (sections : List Tree) → Gives (is_of Name) (domain_section end sections)
unfolding domain_section
domain_name_gives end sections = gives-contents (is_of Name) (lacking end) name_in (section_with (codes ":domain") sections) tt (λ c. one_gives (word_form Name) (is_of Name) (word_gives Name) c.start c.end c.parts)

objects_give : (sections : List Tree) → Gives (list_all (is_typed Name)) (objects_section sections)
unfolding objects_section
objects_give sections = gives-contents (list_all (is_typed Name)) (good []) objects_in (section_with (codes ":objects") sections) refl (λ c. typed_list_gives Name c.end c.parts)

init_section_gives : (sections : List Tree) → Gives (list_all is_init) (init_section sections)
unfolding init_section
init_section_gives sections = gives-contents (list_all is_init) (good []) items_in (section_with (codes ":init") sections) refl (λ c. gives-each init_form is_init init_gives c.parts)

goal_gives : (end : ℕ) (sections : List Tree) → Gives (list_all is_condition) (goal_section end sections)
unfolding goal_section
goal_gives end sections = gives-contents (list_all is_condition) (lacking end) goal_in (section_with (codes ":goal") sections) tt (λ c. one_gives condition_form (list_all is_condition) condition_gives c.start c.end c.parts)

whole_gives : (name domain : Judged Spot) (objects : Judged (List Typed)) (init : Judged (List InitAst)) (goal : Judged (List CondAst))
    → Gives (is_of Name) name → Gives (is_of Name) domain → Gives (list_all (is_typed Name)) objects → Gives (list_all is_init) init → Gives (list_all is_condition) goal
    → Gives is_problem (whole name domain objects init goal)
unfolding whole is_problem
whole_gives (bad f more) d o i g hn hd ho hi hg = tt
whole_gives (good n) (bad f more) o i g hn hd ho hi hg = tt
whole_gives (good n) (good d) (bad f more) i g hn hd ho hi hg = tt
whole_gives (good n) (good d) (good o) (bad f more) g hn hd ho hi hg = tt
whole_gives (good n) (good d) (good o) (good i) (bad f more) hn hd ho hi hg = tt
whole_gives (good n) (good d) (good o) (good i) (good g) hn hd ho hi hg =
    and_from (is_of Name n) (is_of Name d && (list_all (is_typed Name) o && (list_all is_init i && list_all is_condition g))) hn
    (and_from (is_of Name d) (list_all (is_typed Name) o && (list_all is_init i && list_all is_condition g)) hd
    (and_from (list_all (is_typed Name) o) (list_all is_init i && list_all is_condition g) ho (and_from (list_all is_init i) (list_all is_condition g) hi hg)))

parts_of_text_give : (d : Definition) → Gives is_problem (problem_parts d)
unfolding problem_parts
parts_of_text_give d =
    gives-both second (λ a. true) is_problem is_problem (sections_form Problem d.sections) (both second (requirements_form d.sections) (read_sections d.end d.title d.sections)) (λ a b h k. k) (gives-any (sections_form Problem d.sections))
    (gives-both second (λ a. true) is_problem is_problem (requirements_form d.sections) (read_sections d.end d.title d.sections) (λ a b h k. k) (gives-any (requirements_form d.sections))
    (whole_gives (title_form (codes "problem") d.title) (domain_section d.end d.sections) (objects_section d.sections) (init_section d.sections) (goal_section d.end d.sections)
    (title_gives (codes "problem") d.title) (domain_name_gives d.end d.sections) (objects_give d.sections) (init_section_gives d.sections) (goal_gives d.end d.sections)))

pub problem_gives : (tree : Tree) → Gives is_problem (problem_form tree)
unfolding problem_form
problem_gives tree = gives-and_then is_problem (definition_form tree) problem_parts parts_of_text_give
