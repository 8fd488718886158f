-- How the steps of a log and a trace are written (this project's certificates). A line is words with one space between two, and
-- a line feed. Booleans, variables and clauses are shown from 1.
use Rattle.std.specs.Prelude.{ℕ, ◌+◌, Bool, if◌then◌else◌, List, [], ◌++◌, map, codes, Option, Some, None}
use Rattle.std.specs.List.{flat_map}
use Rattle.std.specs.Fmt.{decimal}
use Rattle.frac128.specs.Text.{text_of}
use Rattle.frac128.specs.declared.operations.Wide.{Wide}
use Rattle.operation_text.specs.Operation.{operation_text}
use Rattle.rational.specs.Fraction.{Fraction}
use Rattle.formula.specs.declared.atom.Lit.{Lit}
use Rattle.formula.specs.declared.point.Point.{Point}
use Rattle.theory_law.specs.declared.log.LogStep.{LogStep}
use Rattle.theory_law.specs.declared.log.LogStep.TheVariants.{Lemma, Learn, Split}
use Rattle.theory_law.specs.declared.trace.Coefs.{Coefs}
use Rattle.theory_law.specs.declared.trace.Swap.{Swap}
use Rattle.theory_law.specs.declared.trace.Site.{Site}
use Rattle.theory_law.specs.declared.trace.Site.TheVariants as site
use Rattle.theory_law.specs.declared.trace.Lemma as lemma
use Rattle.theory_law.specs.declared.trace.Trace.{Trace}

-- ---- words

-- the number of a Boolean, a variable or a clause
abbrev pub number_text : ℕ → List ℕ
number_text n = decimal (n + 1)

abbrev pub literal_text : Lit → List ℕ
literal_text l = (if l.pos then [] else codes "-") ++ number_text l.boolean

abbrev pub truth_digit : Bool → ℕ
truth_digit t = if t then 49 else 48

abbrev pub swap_text : Swap → List ℕ
swap_text s = number_text s.leave ++ (codes ":" ++ number_text s.enter)

-- each word behind a space
abbrev pub each : {X : Type 0} → (X → List ℕ) → List X → List ℕ
each word xs = flat_map (λ x. codes " " ++ word x) xs

-- ---- the steps of a log

abbrev pub lemma_line : List Lit → Coefs → List ℕ
lemma_line c why = codes "lemma" ++ (each literal_text c ++ (codes " ;" ++ (each text_of why.list ++ codes "\n")))

-- the new Boolean, the count and its bound
abbrev pub split_words : ℕ → ℕ → Fraction → List ℕ
split_words b v k = codes "split " ++ (number_text b ++ (codes " " ++ (number_text v ++ (codes " " ++ text_of k))))

-- the values of all variables and the truths of all Booleans before
abbrev pub point_words : Point → List ℕ
point_words p = codes " ;" ++ (each text_of p.values ++ (codes " ; " ++ map truth_digit p.truth))

abbrev pub step_line : LogStep Coefs → List ℕ
step_line (Lemma c why) = lemma_line c why
step_line (Learn c hints) = codes "learn" ++ (each literal_text c ++ (codes " ;" ++ (each number_text hints ++ codes "\n")))
step_line (Split b v k p) = split_words b v k ++ (point_words p ++ codes "\n")

unfoldable pub log_lines : List (LogStep Coefs) → List ℕ
log_lines log = flat_map step_line log

-- ---- the end of a block where a check of the simplex got stuck

-- the operation that passes, behind its site
abbrev pub passing_text : Option Wide → List ℕ
passing_text None = []
passing_text (Some w) = codes " " ++ operation_text w

abbrev pub site_text : Site → List ℕ
site_text site.Pivots = codes "pivots"
site_text site.Pivot = codes "wide pivot"
site_text site.Value = codes "wide value"
site_text site.Point = codes "wide point"
site_text site.Farkas = codes "wide farkas"

-- the starting basis, the asserted literals, and the pivots
abbrev pub pivoting_lines : Trace → List ℕ
pivoting_lines t =
    codes "basis" ++ (each number_text t.basis ++ (codes "\nlits" ++ (each literal_text t.lits ++ (codes "\npivots" ++ (each swap_text t.pivots ++ codes "\n")))))

-- a lemma under the trace is no step of the log
abbrev pub stuck_lemma : Option lemma.Lemma → List ℕ
stuck_lemma None = []
stuck_lemma (Some l) = lemma_line l.clause l.coefs

-- what stands under the first line
abbrev pub evidence_lines : Site → Trace → List ℕ
evidence_lines site.Pivots t = pivoting_lines t
evidence_lines site.Pivot t = pivoting_lines t
evidence_lines site.Value t = pivoting_lines t
evidence_lines site.Point t = pivoting_lines t
evidence_lines site.Farkas t = stuck_lemma t.lemma

abbrev pub trace_lines : Trace → List ℕ
trace_lines t = codes "unknown " ++ (site_text t.site ++ (passing_text t.wide ++ (codes "\n" ++ evidence_lines t.site t)))
