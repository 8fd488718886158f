-- What expressions read.
use Rattle.std.proofs.Common.{◌≡◌, ℕ, suc, ◌+◌, ◌<◌, ◌≤◌, Bool, true, false, cond, List, [], ◌∷◌, ◌++◌, length, get_or, take, map, Option, refl, sym, ◌∙◌, ap, subst, arith}
use Rattle.std.proofs.lemmas.List.{take_all, map_more, length-map, length-take-le}
use Rattle.std.proofs.lemmas.List.Folds.{flat_map-map, list_any-append}
use Rattle.std.proofs.lemmas.List.Sums.{sum_by-cons}
use Rattle.std.proofs.lemmas.Bool.Decides.{nat_tests}
use Rattle.std.specs.Prelude.{◌&&◌, ◌||◌, ◌==◌, bytes_eq, codes, count_by, nat_le, if◌then◌else◌}
use Rattle.std.specs.List.{list_any, flat_map}
use Rattle.rational.specs.Fraction.{Fraction}
use Rattle.pddl_form.specs.declared.fault.Fault.{Fault}
use Rattle.pddl_form.specs.declared.spot.Spot.{Spot}
use Rattle.pddl_condition.specs.declared.expression.ExprAst.{ExprAst}
use Rattle.pddl_condition.specs.declared.expression.ExprAst.TheVariants as expr
use Rattle.pddl_form.specs.Faults.{least}
use Rattle.pddl_domain.specs.declared.action.ActionAst.{ActionAst}
use Rattle.typing_linear.specs.Linear.{Reading, is_nonlinear, is_nonlinear_product, is_nonlinear_quotient, is_changing, not_linear, reading, reading_of, reading_step, scales}
use Rattle.typing_linear.specs.Reads.{change_faults, operation_faults, readings_of}
use Rattle.typing_linear.proofs.Noted.{AreNoted, AreWordless, all_noted, behind_as_before, none_noted, one_more_noted}
use Rattle.typing_uses.proofs.Written.{fold-Num, fold-Call, fold-Op, every_expression}

module _ (actions : List ActionAst) where
  pub reading_of-Num : (n : Fraction) → reading_of actions (expr.Num n) ≡ reading false []
  unfolding reading_of
  reading_of-Num n = fold-Num Reading (reading_step actions) n

  pub reading_of-Call : (name : Spot) (args : List Spot) → reading_of actions (expr.Call name args) ≡ reading (is_changing actions name.text) []
  unfolding reading_of
  reading_of-Call name args = fold-Call Reading (reading_step actions) name args

  pub reading_of-Op : (op : Spot) (args : List ExprAst) → reading_of actions (expr.Op op args) ≡ reading (list_any (λ r. r.reads) (readings_of actions args)) (operation_faults op (readings_of actions args))
  unfolding reading_of
  reading_of-Op op args = fold-Op Reading (reading_step actions) op args

  pub num_reads : (e : ExprAst) (n : Fraction) → e ≡ expr.Num n → false ≡ (reading_of actions e).reads
  num_reads e n is = sym (ap (λ (r : Reading). r.reads) (ap (reading_of actions) is ∙ reading_of-Num n))

  pub num_faults : (e : ExprAst) (n : Fraction) (first : Option Fault) → e ≡ expr.Num n → first ≡ least first (reading_of actions e).faults
  num_faults e n first is = sym (ap (λ (r : Reading). least first r.faults) (ap (reading_of actions) is ∙ reading_of-Num n))

  pub call_reads : (e : ExprAst) (name : Spot) (args : List Spot) (said : List ℕ) (reads : Bool) → e ≡ expr.Call name args → said ≡ name.text → reads ≡ is_changing actions said → reads ≡ (reading_of actions e).reads
  call_reads e name args said reads is same h = h ∙ ap (is_changing actions) same ∙ sym (ap (λ (r : Reading). r.reads) (ap (reading_of actions) is ∙ reading_of-Call name args))

  pub call_faults : (e : ExprAst) (name : Spot) (args : List Spot) (first : Option Fault) → e ≡ expr.Call name args → first ≡ least first (reading_of actions e).faults
  call_faults e name args first is = sym (ap (λ (r : Reading). least first r.faults) (ap (reading_of actions) is ∙ reading_of-Call name args))

  pub op_reads : (e : ExprAst) (op : Spot) (args said : List ExprAst) (reads : Bool) → e ≡ expr.Op op args → said ≡ args → reads ≡ list_any (λ r. r.reads) (readings_of actions said) → reads ≡ (reading_of actions e).reads
  op_reads e op args said reads is same h =
      h ∙ ap (λ (es : List ExprAst). list_any (λ r. r.reads) (readings_of actions es)) same ∙ sym (ap (λ (r : Reading). r.reads) (ap (reading_of actions) is ∙ reading_of-Op op args))

  pub op_faults : (e : ExprAst) (op : Spot) (args said : List ExprAst) (first now : Option Fault) → e ≡ expr.Op op args → said ≡ args → now ≡ least first (operation_faults op (readings_of actions said)) → now ≡ least first (reading_of actions e).faults
  op_faults e op args said first now is same h =
      h ∙ ap (λ (es : List ExprAst). least first (operation_faults op (readings_of actions es))) same ∙ sym (ap (λ (r : Reading). least first r.faults) (ap (reading_of actions) is ∙ reading_of-Op op args))

  -- ---- none of the faults has a word

  abbrev IsWordless : ExprAst → Type 0
  IsWordless e = AreWordless (reading_of actions e).faults

  both_wordless : (fs gs : List Fault) → AreWordless fs → AreWordless gs → AreWordless (fs ++ gs)
  both_wordless [] gs h k = k
  both_wordless (f ∷ fs) gs h k = (h.0, both_wordless fs gs h.1 k)

  all_wordless : (args : List ((e : ExprAst) × IsWordless e)) → AreWordless (flat_map (λ r. r.faults) (readings_of actions (map (λ e. e.0) args)))
  all_wordless [] = tt
  all_wordless (e ∷ args) = both_wordless (reading_of actions e.0).faults (flat_map (λ r. r.faults) (readings_of actions (map (λ a. a.0) args))) e.1 (all_wordless args)

  own_wordless : (nonlinear : Bool) (place : ℕ) → AreWordless (if nonlinear then not_linear place ∷ [] else [])
  own_wordless true place = (refl, tt)
  own_wordless false place = tt

  pub wordless : (e : ExprAst) → IsWordless e
  wordless = every_expression IsWordless
      (λ n. subst (λ (r : Reading). AreWordless r.faults) (sym (reading_of-Num n)) tt)
      (λ name args. subst (λ (r : Reading). AreWordless r.faults) (sym (reading_of-Call name args)) tt)
      (λ op args. subst (λ (r : Reading). AreWordless r.faults) (sym (reading_of-Op op (map (λ e. e.0) args)))
      (both_wordless (if is_nonlinear op.text (readings_of actions (map (λ e. e.0) args)) then not_linear op.place ∷ [] else []) (flat_map (λ r. r.faults) (readings_of actions (map (λ e. e.0) args)))
      (own_wordless (is_nonlinear op.text (readings_of actions (map (λ e. e.0) args))) op.place) (all_wordless args)))

-- ---- the arguments of an operation, one behind another

abbrev reads_in : List Reading → Bool
reads_in rs = list_any (λ r. r.reads) rs

abbrev count_in : List Reading → ℕ
count_in rs = count_by (λ r. r.reads) rs

count_in-cons : (r : Reading) (rs : List Reading) → count_in (r ∷ rs) ≡ cond r.reads 1 0 + count_in rs
count_in-cons r rs = sum_by-cons (λ (s : Reading). cond s.reads 1 0) r rs

one_at_least : (b : Bool) (n : ℕ) → nat_le 1 (cond b 1 0 + n) ≡ (b || nat_le 1 n)
one_at_least true n = grind (arith, nat_tests)
one_at_least false n = ap (nat_le 1) (omega arith)

any_counted : (rs : List Reading) → nat_le 1 (count_in rs) ≡ reads_in rs
any_counted [] = refl
any_counted (r ∷ rs) = ap (nat_le 1) (count_in-cons r rs) ∙ one_at_least r.reads (count_in rs) ∙ ap (λ (b : Bool). r.reads || b) (any_counted rs)

two_at_least : (n : ℕ) (b : Bool) → nat_le 2 (n + cond b 1 0) ≡ (nat_le 2 n || (nat_le 1 n && b))
two_at_least n true = grind (arith, nat_tests)
two_at_least n false = grind (arith, nat_tests)

count_in-more : (rs : List Reading) (r : Reading) → count_in (rs ++ r ∷ []) ≡ count_in rs + cond r.reads 1 0
count_in-more [] r = count_in-cons r [] ∙ omega arith
count_in-more (s ∷ rs) r = count_in-cons s (rs ++ r ∷ []) ∙ omega (arith, count_in-more rs r, count_in-cons s rs)

product_more : (rs : List Reading) (r : Reading) → is_nonlinear_product (rs ++ r ∷ []) ≡ (is_nonlinear_product rs || (reads_in rs && r.reads))
product_more rs r = ap (nat_le 2) (count_in-more rs r) ∙ two_at_least (count_in rs) r.reads ∙ ap (λ (b : Bool). is_nonlinear_product rs || (b && r.reads)) (any_counted rs)

or_false : (b : Bool) → (b || false) ≡ b
or_false true = refl
or_false false = refl

not_one : (n : ℕ) → (suc (suc n) == 1) ≡ false
not_one n = grind (arith, nat_tests)

quotient_more : (rs : List Reading) (r : Reading) → is_nonlinear_quotient (rs ++ r ∷ []) ≡ (is_nonlinear_quotient rs || (length rs == 1 && r.reads))
quotient_more [] r = refl
quotient_more (a ∷ []) r = refl
quotient_more (a ∷ b ∷ rs) r = sym (ap (λ (x : Bool). b.reads || (x && r.reads)) (not_one (length rs)) ∙ or_false b.reads)

-- what the first i arguments read
pub record AreSoFar (actions : List ActionAst) (args : List ExprAst) (i : ℕ) (old now : Option Fault) (any two second : Bool) : Type 0 where
  pub any_is : any ≡ list_any (λ r. r.reads) (readings_of actions (take i args))
  pub two_is : two ≡ is_nonlinear_product (readings_of actions (take i args))
  pub second_is : second ≡ is_nonlinear_quotient (readings_of actions (take i args))
  pub faults_are : AreNoted (λ (e : ExprAst). (reading_of actions e).faults) args i old now

readings-more : (actions : List ActionAst) (args : List ExprAst) (i : ℕ) (e : ExprAst) → i < length args → e ≡ get_or args i e → readings_of actions (take (i + 1) args) ≡ readings_of actions (take i args) ++ reading_of actions e ∷ []
readings-more actions args i e within at = map_more (reading_of actions) args i e within ∙ ap (λ (x : ExprAst). readings_of actions (take i args) ++ reading_of actions x ∷ []) (sym at)

length-readings : (actions : List ActionAst) (args : List ExprAst) (i : ℕ) → i < length args → length (readings_of actions (take i args)) ≡ i
length-readings actions args i within = length-map (take i args) (reading_of actions) ∙ length-take-le i args (omega arith)

pub none_so_far : (actions : List ActionAst) (args : List ExprAst) (first : Option Fault) (any two second : Bool) → any ≡ false → two ≡ false → second ≡ false → AreSoFar actions args 0 first first any two second
none_so_far actions args first any two second a b c = record { any_is = a; two_is = b; second_is = c; faults_are = none_noted (λ (e : ExprAst). (reading_of actions e).faults) args first }

pub one_more_so_far : (actions : List ActionAst) (args : List ExprAst) (i : ℕ) (e : ExprAst) (old mid new : Option Fault) (any two second one any' two' second' : Bool)
    → AreSoFar actions args i old mid any two second → i < length args → e ≡ get_or args i e → one ≡ (reading_of actions e).reads → new ≡ least mid (reading_of actions e).faults
    → any' ≡ (any || one) → two' ≡ (two || (any && one)) → second' ≡ (second || (i == 1 && one)) → AreSoFar actions args (i + 1) old new any' two' second'
one_more_so_far actions args i e old mid new any two second one any' two' second' h within at reads noted a b c =
    let rs : List Reading = readings_of actions (take i args) in
    let r : Reading = reading_of actions e in
    let more : readings_of actions (take (i + 1) args) ≡ rs ++ r ∷ [] = readings-more actions args i e within at in
    record {
      any_is = a ∙ ap (λ (x : Bool). x || one) h.any_is ∙ ap (λ (x : Bool). reads_in rs || x) reads ∙ sym (ap reads_in more ∙ list_any-append (λ (s : Reading). s.reads) rs (r ∷ []) ∙ ap (λ (x : Bool). reads_in rs || x) (or_false r.reads));
      two_is = b ∙ ap (λ (x : Bool). x || (any && one)) h.two_is ∙ ap (λ (x : Bool). is_nonlinear_product rs || (x && one)) h.any_is ∙ ap (λ (x : Bool). is_nonlinear_product rs || (reads_in rs && x)) reads ∙ sym (ap is_nonlinear_product more ∙ product_more rs r);
      second_is = c ∙ ap (λ (x : Bool). x || (i == 1 && one)) h.second_is ∙ ap (λ (x : Bool). is_nonlinear_quotient rs || (i == 1 && x)) reads ∙ ap (λ (n : ℕ). is_nonlinear_quotient rs || (n == 1 && r.reads)) (sym (length-readings actions args i within)) ∙ sym (ap is_nonlinear_quotient more ∙ quotient_more rs r);
      faults_are = one_more_noted (λ (x : ExprAst). (reading_of actions x).faults) args i e old mid new h.faults_are within at noted;
    }

-- all arguments
pub all_any : (actions : List ActionAst) (args : List ExprAst) (i : ℕ) (old now : Option Fault) (any two second : Bool) → AreSoFar actions args i old now any two second → length args ≤ i → any ≡ list_any (λ r. r.reads) (readings_of actions args)
all_any actions args i old now any two second h whole = h.any_is ∙ ap (λ (es : List ExprAst). list_any (λ r. r.reads) (readings_of actions es)) (take_all i args whole)

pub all_two : (actions : List ActionAst) (args : List ExprAst) (i : ℕ) (old now : Option Fault) (any two second : Bool) → AreSoFar actions args i old now any two second → length args ≤ i → two ≡ is_nonlinear_product (readings_of actions args)
all_two actions args i old now any two second h whole = h.two_is ∙ ap (λ (es : List ExprAst). is_nonlinear_product (readings_of actions es)) (take_all i args whole)

pub all_second : (actions : List ActionAst) (args : List ExprAst) (i : ℕ) (old now : Option Fault) (any two second : Bool) → AreSoFar actions args i old now any two second → length args ≤ i → second ≡ is_nonlinear_quotient (readings_of actions args)
all_second actions args i old now any two second h whole = h.second_is ∙ ap (λ (es : List ExprAst). is_nonlinear_quotient (readings_of actions es)) (take_all i args whole)

pub all_faults : (actions : List ActionAst) (args : List ExprAst) (i : ℕ) (old now : Option Fault) (any two second : Bool) → AreSoFar actions args i old now any two second → length args ≤ i → now ≡ least old (flat_map (λ r. r.faults) (readings_of actions args))
all_faults actions args i old now any two second h whole =
    all_noted (λ (e : ExprAst). (reading_of actions e).faults) args i old now h.faults_are whole ∙ ap (least old) (sym (flat_map-map (λ (r : Reading). r.faults) (reading_of actions) args))

-- ---- a fault of the whole, which is noted behind those of the parts

pub args_wordless : (actions : List ActionAst) (args : List ExprAst) → AreWordless (flat_map (λ r. r.faults) (readings_of actions args))
args_wordless actions [] = tt
args_wordless actions (e ∷ args) = both_wordless actions (reading_of actions e).faults (flat_map (λ r. r.faults) (readings_of actions args)) (wordless actions e) (args_wordless actions args)

with_own : (nonlinear : Bool) (place : ℕ) (fs : List Fault) (first mid now : Option Fault) → nonlinear ≡ true → AreWordless fs → mid ≡ least first fs → now ≡ least mid (not_linear place ∷ []) → now ≡ least first ((if nonlinear then not_linear place ∷ [] else []) ++ fs)
with_own nonlinear place fs first mid now is all h k =
    k ∙ ap (λ (o : Option Fault). least o (not_linear place ∷ [])) h ∙ behind_as_before first (not_linear place) fs refl all ∙ sym (ap (λ (b : Bool). least first ((if b then not_linear place ∷ [] else []) ++ fs)) is)

nonlinear_is : (op said : List ℕ) (rs : List Reading) (two second nonlinear : Bool) → said ≡ op → two ≡ is_nonlinear_product rs → second ≡ is_nonlinear_quotient rs
    → nonlinear ≡ ((bytes_eq said (codes "*") && two) || (bytes_eq said (codes "/") && second)) → nonlinear ≡ is_nonlinear op rs
nonlinear_is op said rs two second nonlinear same a b h =
    h ∙ ap (λ (t : Bool). (bytes_eq said (codes "*") && t) || (bytes_eq said (codes "/") && second)) a
    ∙ ap (λ (t : Bool). (bytes_eq said (codes "*") && is_nonlinear_product rs) || (bytes_eq said (codes "/") && t)) b
    ∙ ap (λ (w : List ℕ). is_nonlinear w rs) same

pub nonlinear_operation : (actions : List ActionAst) (op : Spot) (said : List ℕ) (args : List ExprAst) (two second nonlinear : Bool) (first mid now : Option Fault)
    → said ≡ op.text → two ≡ is_nonlinear_product (readings_of actions args) → second ≡ is_nonlinear_quotient (readings_of actions args)
    → nonlinear ≡ ((bytes_eq said (codes "*") && two) || (bytes_eq said (codes "/") && second)) → nonlinear ≡ true
    → mid ≡ least first (flat_map (λ r. r.faults) (readings_of actions args)) → now ≡ least mid (not_linear op.place ∷ []) → now ≡ least first (operation_faults op (readings_of actions args))
nonlinear_operation actions op said args two second nonlinear first mid now same a b h is k l =
    with_own (is_nonlinear op.text (readings_of actions args)) op.place (flat_map (λ r. r.faults) (readings_of actions args)) first mid now
    (sym (nonlinear_is op.text said (readings_of actions args) two second nonlinear same a b h) ∙ is) (args_wordless actions args) k l

pub nonlinear_change : (actions : List ActionAst) (op : Spot) (said : List ℕ) (by : ExprAst) (reads scaled : Bool) (first mid now : Option Fault)
    → said ≡ op.text → reads ≡ (reading_of actions by).reads → reads ≡ true → scaled ≡ scales said → scaled ≡ true
    → mid ≡ least first (reading_of actions by).faults → now ≡ least mid (not_linear op.place ∷ []) → now ≡ least first (change_faults actions op by)
nonlinear_change actions op said by reads scaled first mid now same a read b is k l =
    with_own (scales op.text && (reading_of actions by).reads) op.place (reading_of actions by).faults first mid now
    (ap (λ (t : Bool). t && (reading_of actions by).reads) (sym (ap scales same) ∙ sym b ∙ is) ∙ sym a ∙ read) (wordless actions by) k l
