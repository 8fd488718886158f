-- A domain or a problem: `(define (KIND NAME) section ..)`, where a section is a list that starts with its word.
use Rattle.std.specs.Prelude.{ℕ, Bool, List, [], ◌∷◌, Option, Some, None, codes, if◌then◌else◌}
use Rattle.std.specs.Option.{is_some}
use Rattle.std.specs.List.{filter_map}
use Rattle.sexpr.specs.declared.tree.Tree.{Tree, out-Tree}
use Rattle.sexpr.specs.declared.tree.Tree.TheOpen.{Tree-F}
use Rattle.sexpr.specs.declared.fault.Source.{Source}
use Rattle.sexpr.specs.declared.fault.Source.TheVariants as source
use Rattle.sexpr.specs.Opened.{text_of, start_of}
use Rattle.pddl_form.specs.declared.names.Sort.TheVariants.{Name, Keyword}
use Rattle.pddl_form.specs.declared.kinds.Kind.{Kind}
use Rattle.pddl_form.specs.declared.kinds.Kind.TheVariants.{Many, Once, Unread, Unknown}
use Rattle.pddl_form.specs.declared.sections.SectionWord.{SectionWord}
use Rattle.pddl_form.specs.declared.sections.SectionWord.TheVariants as section
use Rattle.pddl_form.specs.declared.spot.Spot.{Spot}
use Rattle.pddl_form.specs.Judged.{Judged, good, bad, misshapen, lacking, unread_feature, mapped, both}
use Rattle.pddl_form.specs.Gather.{push}
use Rattle.pddl_form.specs.Words.{word_form, word_forms, is_word}
use Rattle.pddl_form.specs.Parts.{one_part}
use Rattle.pddl_form.specs.Names.{is_one_of}

-- a form that makes nothing of a tree: a test alone
abbrev pub Tested : Type 0
Tested = Judged (Unit {0})

abbrev pub fine : Tested
fine = good tt

-- a list of trees, with what stands around it: the places of its first byte and behind its last
pub record Contents : Type 0 where
  pub start : ℕ
  pub end : ℕ
  pub parts : List Tree

abbrev pub contents_list : List ℕ → ℕ → ℕ → List Tree → Option Contents
contents_list word start end [] = None
contents_list word start end (head ∷ parts) = if is_word word head then Some (record { start = start; end = end; parts = parts }) else None

abbrev pub contents_at : List ℕ → Tree-F Tree → Option Contents
contents_at word (Tree-F.Word start end text) = None
contents_at word (Tree-F.List start end items) = contents_list word start end items

-- what stands behind a word, where the tree is a list that starts with it
unfoldable pub contents_behind : List ℕ → Tree → Option Contents
contents_behind word tree = contents_at word (out-Tree tree)

abbrev pub or_next : Option Contents → Option Contents → Option Contents
or_next None next = next
or_next (Some c) next = Some c

-- the contents of the first section with this word
abbrev pub section_with : List ℕ → List Tree → Option Contents
section_with word [] = None
section_with word (t ∷ more) = or_next (contents_behind word t) (section_with word more)

-- the contents of all sections with this word, in order
abbrev pub sections_with : List ℕ → List Tree → List Contents
sections_with word sections = filter_map (contents_behind word) sections

-- what a form makes of a section, or what stands for one that is left out
abbrev pub contents_or : {A : Type 0} → Judged A → (Contents → Judged A) → Option Contents → Judged A
contents_or without form None = without
contents_or without form (Some c) = form c

-- the syntax of what stands behind a test
abbrev pub second : {A B : Type 0} → A → B → B
second a b = b

-- a test of each tree, which also sees those in front of it
abbrev pub each_tested : (List Tree → Tree → Tested) → List Tree → List Tree → Tested
each_tested form front [] = fine
each_tested form front (t ∷ more) = both second (form front t) (each_tested form (push front t) more)

-- the words of sections, of which each text has some, in byte order
abbrev pub section_words : List (List ℕ)
section_words =
    codes ":action" ∷ codes ":constants" ∷ codes ":constraints" ∷ codes ":derived" ∷ codes ":domain" ∷ codes ":durative-action" ∷ codes ":event" ∷ codes ":functions" ∷ codes ":goal"
    ∷ codes ":init" ∷ codes ":length" ∷ codes ":metric" ∷ codes ":objects" ∷ codes ":predicates" ∷ codes ":process" ∷ codes ":requirements" ∷ codes ":types" ∷ []

-- the word that each stands for
abbrev pub section_word : SectionWord → List ℕ
section_word section.Action = codes ":action"
section_word section.Constants = codes ":constants"
section_word section.Constraints = codes ":constraints"
section_word section.Derived = codes ":derived"
section_word section.Domain = codes ":domain"
section_word section.DurativeAction = codes ":durative-action"
section_word section.Event = codes ":event"
section_word section.Functions = codes ":functions"
section_word section.Goal = codes ":goal"
section_word section.Init = codes ":init"
section_word section.Length = codes ":length"
section_word section.Metric = codes ":metric"
section_word section.Objects = codes ":objects"
section_word section.Predicates = codes ":predicates"
section_word section.Process = codes ":process"
section_word section.Requirements = codes ":requirements"
section_word section.Types = codes ":types"

-- those that may stand many times
abbrev pub many : Source → List (List ℕ)
many source.Domain = codes ":action" ∷ []
many source.Problem = []

-- those that may stand once
abbrev pub once : Source → List (List ℕ)
once source.Domain = codes ":constants" ∷ codes ":functions" ∷ codes ":predicates" ∷ codes ":requirements" ∷ codes ":types" ∷ []
once source.Problem = codes ":domain" ∷ codes ":goal" ∷ codes ":init" ∷ codes ":length" ∷ codes ":metric" ∷ codes ":objects" ∷ codes ":requirements" ∷ []

-- those that stand in either text for a feature that isn't read
abbrev pub unread_sections : List (List ℕ)
unread_sections = codes ":constraints" ∷ codes ":derived" ∷ codes ":durative-action" ∷ codes ":event" ∷ codes ":process" ∷ []

-- what a word is as that of a section; no other is known
unfoldable pub kind_of : Source → List ℕ → Kind
kind_of file text =
    if is_one_of (many file) text then Many
    else (if is_one_of (once file) text then Once
    else (if is_one_of unread_sections text then Unread else Unknown))

-- the word of a section, where one in front of it has the same word or not
abbrev pub section_by : Kind → Bool → ℕ → List ℕ → Tested
section_by Many stands_twice place text = fine
section_by Once stands_twice place text = if stands_twice then misshapen place else fine
section_by Unread stands_twice place text = unread_feature place text
section_by Unknown stands_twice place text = misshapen place

abbrev pub section_head : Source → List Tree → ℕ → Tree → Option (List ℕ) → Tested
section_head file front start head None = misshapen start
section_head file front start head (Some text) = section_by (kind_of file text) (is_some (section_with text front)) (start_of head) text

abbrev pub section_list : Source → List Tree → ℕ → ℕ → List Tree → Tested
section_list file front start end [] = lacking end
section_list file front start end (head ∷ parts) = section_head file front start head (text_of head)

abbrev pub section_at : Source → List Tree → Tree-F Tree → Tested
section_at file front (Tree-F.Word start end text) = misshapen start
section_at file front (Tree-F.List start end items) = section_list file front start end items

-- a section behind others: a list whose word may stand there
unfoldable pub section_form : Source → List Tree → Tree → Tested
section_form file front tree = section_at file front (out-Tree tree)

-- all sections
abbrev pub sections_form : Source → List Tree → Tested
sections_form file sections = each_tested (section_form file) [] sections

abbrev pub no_effect : {A : Type 0} → A → Unit {0}
no_effect a = tt

abbrev pub requirements_in : Contents → Tested
requirements_in c = mapped no_effect (word_forms Keyword c.parts)

-- the section `(:requirements WORD ..)`, which may be left out
unfoldable pub requirements_form : List Tree → Tested
requirements_form sections = contents_or fine requirements_in (section_with (codes ":requirements") sections)

-- the word in the title of a text
abbrev pub title_word : Source → List ℕ
title_word source.Domain = codes "domain"
title_word source.Problem = codes "problem"

abbrev pub title_list : List ℕ → ℕ → ℕ → List Tree → Judged Spot
title_list kind start end [] = lacking end
title_list kind start end (head ∷ parts) = if is_word kind head then one_part (word_form Name) start end parts else misshapen start

abbrev pub title_at : List ℕ → Tree-F Tree → Judged Spot
title_at kind (Tree-F.Word start end text) = misshapen start
title_at kind (Tree-F.List start end items) = title_list kind start end items

-- `(KIND NAME)`
unfoldable pub title_form : List ℕ → Tree → Judged Spot
title_form kind tree = title_at kind (out-Tree tree)

-- the parts of a whole text: the tree where its title stands, its sections, and the place behind its closing parenthesis
pub record Definition : Type 0 where
  pub title : Tree
  pub sections : List Tree
  pub end : ℕ

abbrev pub definition_parts : ℕ → List Tree → Judged Definition
definition_parts end [] = lacking end
definition_parts end (title ∷ sections) = good (record { title = title; sections = sections; end = end })

abbrev pub definition_list : ℕ → ℕ → List Tree → Judged Definition
definition_list start end [] = lacking end
definition_list start end (head ∷ parts) = if is_word (codes "define") head then definition_parts end parts else misshapen start

abbrev pub definition_at : Tree-F Tree → Judged Definition
definition_at (Tree-F.Word start end text) = misshapen start
definition_at (Tree-F.List start end items) = definition_list start end items

-- the whole text
unfoldable pub definition_form : Tree → Judged Definition
definition_form tree = definition_at (out-Tree tree)

-- what a form makes of the parts
abbrev pub and_then : {A B : Type 0} → Judged A → (A → Judged B) → Judged B
and_then (good a) form = form a
and_then (bad f more) form = bad f more
