-- Words (this project's profile of PDDL 2.1). Their letters are in lower case.
use Rattle.std.specs.Prelude.{ℕ, Bool, false, not, ◌&&◌, ◌||◌, ◌==◌, nat_le, List, [], ◌∷◌, length, codes, bytes_eq}
use Rattle.std.specs.List.{list_any}
use Rattle.pddl_form.specs.declared.names.Sort.{Sort}
use Rattle.pddl_form.specs.declared.names.Sort.TheVariants.{Name, Variable, Term, Keyword}

-- a letter or an underline
abbrev pub begins_name : ℕ → Bool
begins_name b = (nat_le 97 b && nat_le b 122) || b == 95

-- a word that begins so
abbrev pub is_name : List ℕ → Bool
is_name [] = false
is_name (b ∷ bytes) = begins_name b

-- a question mark and at least one more byte
abbrev pub is_variable : List ℕ → Bool
is_variable [] = false
is_variable (b ∷ bytes) = b == 63 && not (length bytes == 0)

-- a word that starts with a colon
abbrev pub is_keyword : List ℕ → Bool
is_keyword [] = false
is_keyword (b ∷ bytes) = b == 58

abbrev pub takes : Sort → List ℕ → Bool
takes Name text = is_name text
takes Variable text = is_variable text
takes Term text = is_name text || is_variable text
takes Keyword text = is_keyword text

-- a word is one of these
abbrev pub is_one_of : List (List ℕ) → List ℕ → Bool
is_one_of words text = list_any (λ w. bytes_eq w text) words

-- the words with a meaning of their own in a condition or an effect, in byte order
abbrev pub reserved : List (List ℕ)
reserved = codes "and" ∷ codes "assign" ∷ codes "decrease" ∷ codes "exists" ∷ codes "forall" ∷ codes "imply" ∷ codes "increase" ∷ codes "not" ∷ codes "or" ∷ codes "preference" ∷ codes "scale-down" ∷ codes "scale-up" ∷ codes "when" ∷ []

unfoldable pub is_reserved : List ℕ → Bool
is_reserved text = is_one_of reserved text

-- a name that a predicate or a function may have
abbrev pub is_symbol : List ℕ → Bool
is_symbol text = is_name text && not (is_reserved text)
