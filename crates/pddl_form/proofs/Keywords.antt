-- What a table's answer says of the definitions that test for its words, one behind another.
use Rattle.std.proofs.Common.{◌≡◌, ℕ, zero, suc, Bool, true, false, List, [], ◌∷◌, Option, Some, None, refl, sym, ◌∙◌, ap, subst}
use Rattle.std.specs.Prelude.{if◌then◌else◌, codes, bytes_eq, slice_get, ◌&&◌, ◌||◌}
use Rattle.std.specs.List.{list_all}
use Rattle.std.specs.Option.{is_some}
use Rattle.std.proofs.lemmas.Bool.{false_from_ne_true}
use Rattle.std.proofs.lemmas.Slice.Eq.{bytes_eq-Decides}
use Rattle.kw_table.specs.Table.{IsAbsent, Finds}
use Rattle.sexpr.specs.declared.fault.Source.{Source}
use Rattle.sexpr.specs.declared.fault.Source.TheVariants as source
use Rattle.pddl_form.specs.declared.kinds.Kind.TheVariants.{Many, Once, Unknown}
use Rattle.pddl_form.specs.declared.kinds.Kind.TheVariants as kind
use Rattle.pddl_form.specs.Sections.{section_words, kind_of, many as many_in, once as once_in}
use Rattle.pddl_form.specs.Names.{is_one_of}
use Rattle.pddl_form.specs.inside.Kinds.{other_kind}

-- ---- words that a table has, and others

pub same_word : (v w : List ℕ) → v ≡ w → bytes_eq v w ≡ true
same_word v w same = (bytes_eq-Decides v w).1 same

pub other_word : (v w : List ℕ) → (v ≡ w → ⊥) → bytes_eq v w ≡ false
other_word v w other = false_from_ne_true (bytes_eq v w) (λ is. other ((bytes_eq-Decides v w).0 is))

pub or_true : (a : Bool) → (a || true) ≡ true
or_true true = refl
or_true false = refl

pub and_first : (a b : Bool) → (a && b) ≡ true → a ≡ true
and_first true b is = refl
and_first false b is = is

pub and_second : (a b : Bool) → (a && b) ≡ true → b ≡ true
and_second true b is = is
and_second false b is = absurd (cc is)

pub has_word : (words : List (List ℕ)) (at : ℕ) (text : List ℕ) → slice_get words at ≡ Some text → is_one_of words text ≡ true
has_word [] at text is = absurd (cc is)
has_word (w ∷ words) zero text is = ap (λ (b : Bool). b || is_one_of words text) (same_word w text (cc is))
has_word (w ∷ words) (suc at) text is = ap (λ (b : Bool). bytes_eq w text || b) (has_word words at text is) ∙ or_true (bytes_eq w text)

pub is_none : (words : List (List ℕ)) (text : List ℕ) → IsAbsent text words → is_one_of words text ≡ false
is_none [] text absent = refl
is_none (w ∷ words) text absent = ap (λ (b : Bool). b || is_one_of words text) (other_word w text absent.0) ∙ is_none words text absent.1

pub finds_any : (words : List (List ℕ)) (text : List ℕ) (found : Option ℕ) → Finds words text found → is_some found ≡ is_one_of words text
finds_any words text None absent = sym (is_none words text absent)
finds_any words text (Some at) is = sym (has_word words at text is)

-- a word that the table has is another than one that it hasn't
pub isnt : (words : List (List ℕ)) (text word : List ℕ) → IsAbsent text words → is_one_of words word ≡ true → word ≡ text → ⊥
isnt words text word absent is same = cc (sym is ∙ ap (is_one_of words) same ∙ is_none words text absent)

-- so is each of some words of the table
pub none_of : (some words : List (List ℕ)) (text : List ℕ) → list_all (is_one_of words) some ≡ true → IsAbsent text words → is_one_of some text ≡ false
none_of [] words text all absent = refl
none_of (w ∷ some) words text all absent =
    ap (λ (b : Bool). b || is_one_of some text) (other_word w text (isnt words text w absent (and_first (is_one_of words w) (list_all (is_one_of words) some) all)))
    ∙ none_of some words text (and_second (is_one_of words w) (list_all (is_one_of words) some) all) absent

-- ---- the words of sections

pub record DomainRows : Type 0 where
  pub action : kind_of source.Domain (codes ":action") ≡ Many
  pub constants : kind_of source.Domain (codes ":constants") ≡ Once
  pub functions : kind_of source.Domain (codes ":functions") ≡ Once
  pub predicates : kind_of source.Domain (codes ":predicates") ≡ Once
  pub requirements : kind_of source.Domain (codes ":requirements") ≡ Once
  pub types : kind_of source.Domain (codes ":types") ≡ Once

pub domain_rows : DomainRows
unfolding kind_of
domain_rows = record { action = refl; constants = refl; functions = refl; predicates = refl; requirements = refl; types = refl }

abbrev of_domain : List (List ℕ)
of_domain = codes ":action" ∷ codes ":constants" ∷ codes ":functions" ∷ codes ":predicates" ∷ codes ":requirements" ∷ codes ":types" ∷ []

pub no_domain_kind : (text bytes : List ℕ) → bytes ≡ text → IsAbsent bytes of_domain → kind_of source.Domain text ≡ other_kind text
unfolding kind_of
no_domain_kind text bytes same absent =
    let text_absent = subst (λ (w : List ℕ). IsAbsent w of_domain) same absent in
    let many : is_one_of (many_in source.Domain) text ≡ false = none_of (many_in source.Domain) of_domain text refl text_absent in
    let once : is_one_of (once_in source.Domain) text ≡ false = none_of (once_in source.Domain) of_domain text refl text_absent in
    rw (many, once)

pub record ProblemRows : Type 0 where
  pub domain : kind_of source.Problem (codes ":domain") ≡ Once
  pub goal : kind_of source.Problem (codes ":goal") ≡ Once
  pub init : kind_of source.Problem (codes ":init") ≡ Once
  pub length : kind_of source.Problem (codes ":length") ≡ Once
  pub metric : kind_of source.Problem (codes ":metric") ≡ Once
  pub objects : kind_of source.Problem (codes ":objects") ≡ Once
  pub requirements : kind_of source.Problem (codes ":requirements") ≡ Once

pub problem_rows : ProblemRows
unfolding kind_of
problem_rows = record { domain = refl; goal = refl; init = refl; length = refl; metric = refl; objects = refl; requirements = refl }

abbrev of_problem : List (List ℕ)
of_problem = codes ":domain" ∷ codes ":goal" ∷ codes ":init" ∷ codes ":length" ∷ codes ":metric" ∷ codes ":objects" ∷ codes ":requirements" ∷ []

pub no_problem_kind : (text bytes : List ℕ) → bytes ≡ text → IsAbsent bytes of_problem → kind_of source.Problem text ≡ other_kind text
unfolding kind_of
no_problem_kind text bytes same absent =
    let once : is_one_of (once_in source.Problem) text ≡ false = none_of (once_in source.Problem) of_problem text refl (subst (λ (w : List ℕ). IsAbsent w of_problem) same absent) in
    rw once

-- a word that may stand once is one of them
some_of : (some words : List (List ℕ)) (text : List ℕ) → list_all (is_one_of words) some ≡ true → is_one_of some text ≡ true → is_one_of words text ≡ true
some_of [] words text all is = absurd (cc is)
some_of (w ∷ some) words text all is = by_test (bytes_eq w text) refl (some_of some words text (and_second (is_one_of words w) (list_all (is_one_of words) some) all))
  where
    by_test : (b : Bool) → bytes_eq w text ≡ b → (is_one_of some text ≡ true → is_one_of words text ≡ true) → is_one_of words text ≡ true
    by_test true same rest = sym (ap (is_one_of words) ((bytes_eq-Decides w text).0 same)) ∙ and_first (is_one_of words w) (list_all (is_one_of words) some) all
    by_test false other rest = rest (sym (ap (λ (b : Bool). b || is_one_of some text) other) ∙ is)

may_stand_once : (a b c : Bool) → (if a then Many else (if b then Once else (if c then kind.Unread else Unknown))) ≡ Once → b ≡ true
may_stand_once true b c is = absurd (cc is)
may_stand_once false true c is = refl
may_stand_once false false true is = absurd (cc is)
may_stand_once false false false is = absurd (cc is)

pub once_is_known : (file : Source) (text : List ℕ) → kind_of file text ≡ Once → is_one_of section_words text ≡ true
unfolding kind_of
once_is_known source.Domain text is = some_of (once_in source.Domain) section_words text refl (may_stand_once (is_one_of (many_in source.Domain) text) _ _ is)
once_is_known source.Problem text is = some_of (once_in source.Problem) section_words text refl (may_stand_once (is_one_of (many_in source.Problem) text) _ _ is)
