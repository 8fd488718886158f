-- One occurrence of an action: what it needs, what it changes, and the symbolic state behind it.
use Rattle.std.specs.Prelude.{◌≡◌, ℕ, suc, ◌<◌, ◌≤◌, List, [], ◌∷◌, ◌++◌, length, Result, IfOk, if◌then◌else◌}
use Rattle.std.specs.List.{All}
use Rattle.lin.specs.Linear.{Linear, AreBelow, replacement_of}
use Rattle.lin.specs.declared.failure.LinFail.{LinFail}
use Rattle.task_core.specs.declared.action.GAction.{GAction}
use Rattle.task_core.specs.Step.{is_rollable}
use Rattle.task_core.specs.Task.{IsOrderly}
use Rattle.formula.specs.Contents.{Contents}
use Rattle.encode_rows.specs.declared.clause.Truth.{Truth}
use Rattle.encode_rows.specs.declared.symbols.Symbols.{Symbols}
use Rattle.encode_laws.specs.Rows.{Name, behind, Literal, opposite, Item, needs}
use Rattle.encode_laws.specs.Symbolic.{Symbolic, changes_of, truth_rows, set_rows, symbolic_truth, symbolic_value, grown_ops, occurrence, symbolic_after}
use Rattle.encode_laws.specs.Made.{Made, made_from}
use Rattle.encode_rows.specs.Standing.{Stands, Knows, Makes, IsNew}
use Rattle.encode_rows.specs.Symbols.{Shows, asked_rows, first_rows}
use Rattle.encode_rows.specs.Lasting.{last_rows_at}
use Rattle.encode_rows.specs.Names.{occurrence_of}
use Rattle.encode_rows.specs.Changed.{ShowsTruths}

-- the numbers of an action are those of atoms and functions, and its changes are in order
pub record IsSized (atoms funcs : ℕ) (a : GAction) : Type 0 where
  pub lits : All (λ l. l.0 < atoms) a.lits
  pub cmps : All (λ k. AreBelow funcs k.0.terms) a.cmps
  pub adds : All (λ p. p < atoms) a.adds
  pub dels : All (λ p. p < atoms) a.dels
  pub incs : All (λ q. q.0 < funcs) a.incs
  pub sets : All (λ s. s.0 < funcs) a.sets
  pub values : All (λ s. AreBelow funcs s.1.terms) a.sets
  pub orderly : IsOrderly a

-- ---- what it needs
abbrev pub rolled_rows : ℕ → GAction → Literal → Symbolic → List Item
rolled_rows c a f y = if is_rollable a then last_rows_at a.incs c a.cmps f y else []

abbrev pub needed_rows : ℕ → GAction → Literal → Symbolic → List Item
needed_rows c a f y = asked_rows a.lits f y ++ (first_rows a.cmps f y ++ rolled_rows c a f y)

-- ---- what it changes
abbrev pub value_items : GAction → ℕ → ℕ → Literal → Symbolic → List Item
value_items a c w o y = set_rows o y w a.sets ++ needs (grown_ops c y.value a.incs) ∷ []

-- the values behind it
abbrev pub ShowsValues : GAction → ℕ → ℕ → Symbolic → List Linear → Type 0
ShowsValues a c w y vs = (f : ℕ) → replacement_of vs f ≡ symbolic_value y.value c a.incs w a.sets f

abbrev pub ChangesValues : {X : Type 0} → GAction → ℕ → Contents → Symbols → Truth → Contents → Symbols → Result X LinFail → Type 0
ChangesValues a c old s on new t r = (m : Made) (o : Literal) (y : Symbolic) → Stands m old → Knows m o on → Shows m y s
    → Makes (value_items a c (length m.counts) o y) m new r × IfOk r (λ _. ShowsValues a c (length m.counts) y t.values)

abbrev pub effect_items : ℕ → GAction → ℕ → ℕ → Literal → Symbolic → List Item
effect_items i a c w o y = truth_rows i o y (changes_of a) ++ value_items a c w o y

-- the truths and the values behind it
abbrev pub ShowsAfter : Made → ℕ → GAction → ℕ → ℕ → Literal → Symbolic → Symbols → Type 0
ShowsAfter m i a c w o y t = ShowsTruths m (symbolic_truth i o a y) t.truths × ShowsValues a c w y t.values

abbrev pub TakesEffect : {X : Type 0} → GAction → ℕ → Contents → Symbols → Truth → Contents → Symbols → Result X LinFail → Type 0
TakesEffect a c old s on new t r = (m : Made) (i : ℕ) (o : Literal) (y : Symbolic) → Stands m old → Knows m o on → Shows m y s → ((p : ℕ) → IsNew (behind i p) m.keys)
    → Makes (effect_items i a c (length m.counts) o y) m new r × IfOk r (λ _. ShowsAfter (made_from (effect_items i a c (length m.counts) o y) m) i a c (length m.counts) o y t)

-- ---- all behind its beginning
abbrev pub later_items : ℕ → GAction → ℕ → ℕ → Literal → Symbolic → List Item
later_items i a c w o y = needed_rows c a (opposite o) y ++ effect_items i a c w o y

abbrev pub Continues : {X : Type 0} → GAction → ℕ → Contents → Symbols → Truth → Contents → Symbols → Result X LinFail → Type 0
Continues a c old s on new t r = (m : Made) (i : ℕ) (o : Literal) (y : Symbolic) → Stands m old → Knows m o on → Shows m y s → ((p : ℕ) → IsNew (behind i p) m.keys)
    → Makes (later_items i a c (length m.counts) o y) m new r × IfOk r (λ _. ShowsAfter (made_from (later_items i a c (length m.counts) o y) m) i a c (length m.counts) o y t)

-- something is made so far for which the formula, the literal that occurrence i happens and the symbols stand; the truth
-- variables behind it are new
pub record HasOccurrence (f : Contents) (s : Symbols) (on : Truth) : Type 0 where
  pub made : Made
  pub number : ℕ
  pub literal : Literal
  pub symbolic : Symbolic
  pub stands : Stands made f
  pub knows : Knows made literal on
  pub shows : Shows made symbolic s
  pub fresh : (p : ℕ) → IsNew (behind number p) made.keys

-- ---- the occurrence
-- occurrence i is next: its numeric variable is the next one, and its truth variables are new
pub record IsNext (i : ℕ) (m : Made) (y : Symbolic) (f : Contents) (s : Symbols) : Type 0 where
  pub stands : Stands m f
  pub shows : Shows m y s
  pub next : y.next ≡ length m.counts
  pub fresh : (n : Name) → i ≤ occurrence_of n → IsNew n m.keys

pub record HasNext (f : Contents) (s : Symbols) : Type 0 where
  pub number : ℕ
  pub made : Made
  pub symbolic : Symbolic
  pub is_next : IsNext number made symbolic f s

-- its rows are made, and the next occurrence is next
abbrev pub Occurs : {X : Type 0} → GAction → Contents → Symbols → Contents → Symbols → Result X LinFail → Type 0
Occurs a old s new t r = (m : Made) (i : ℕ) (y : Symbolic) → IsNext i m y old s
    → Makes (occurrence i a y) m new r × IfOk r (λ _. IsNext (suc i) (made_from (occurrence i a y) m) (symbolic_after i a y) new t)

-- as many truths and values as before
pub record KeepsCounts (s t : Symbols) : Type 0 where
  pub truths : length t.truths ≡ length s.truths
  pub values : length t.values ≡ length s.values
