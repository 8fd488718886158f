-- What the class of a byte says of the byte.
use Rattle.std.proofs.Common.{◌≡◌, ◌≢◌, ℕ, true, refl, sym, ◌∙◌, ap, arith}
use Rattle.std.proofs.lemmas.Bool.Decides.{nat_tests}
use Rattle.sexpr.specs.declared.bytes.Class.{Class}
use Rattle.sexpr.specs.declared.bytes.Class.TheVariants.{White, Opens, Closes, Semicolon, InWord, Foreign}
use Rattle.sexpr.specs.Bytes.{class_of, is_in_word_class}

pub opens_is : (b : ℕ) → class_of b ≡ Opens → b ≡ 40
opens_is b is = grind (arith, nat_tests)

pub closes_is : (b : ℕ) → class_of b ≡ Closes → b ≡ 41
closes_is b is = grind (arith, nat_tests)

pub semicolon_is : (b : ℕ) → class_of b ≡ Semicolon → b ≡ 59
semicolon_is b is = grind (arith, nat_tests)

pub in_word_class : (k : Class) → is_in_word_class k ≡ true → k ≡ InWord
in_word_class White is = cc
in_word_class Opens is = cc
in_word_class Closes is = cc
in_word_class Semicolon is = cc
in_word_class InWord is = refl
in_word_class Foreign is = cc

-- a byte of another class isn't this one
pub isnt_open : (b : ℕ) (k : Class) → class_of b ≡ k → (k ≡ Opens → ⊥) → b ≢ 40
isnt_open b k is other same = other (sym is ∙ ap class_of same)

pub isnt_close : (b : ℕ) (k : Class) → class_of b ≡ k → (k ≡ Closes → ⊥) → b ≢ 41
isnt_close b k is other same = other (sym is ∙ ap class_of same)

pub isnt_semicolon : (b : ℕ) (k : Class) → class_of b ≡ k → (k ≡ Semicolon → ⊥) → b ≢ 59
isnt_semicolon b k is other same = other (sym is ∙ ap class_of same)
