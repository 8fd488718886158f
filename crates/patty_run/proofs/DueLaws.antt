-- What is due is what is printed.
use Rattle.std.proofs.Common.{◌≡◌, ◌⊎◌, inl, inr, ℕ, ◌<◌, ◌≤◌, List, [], ◌∷◌, length, Option, Some, None, Result, Ok, Err, refl, sym, ◌∙◌, ap, subst, arith}
use Rattle.sexpr.specs.declared.fault.TextFault.{TextFault}
use Rattle.patty_io.specs.Shelf.{limit, Tells}
use Rattle.pddl_task.specs.declared.parts.TaskParts.{TaskParts}
use Rattle.patty_run.specs.declared.input.Input.{Input}
use Rattle.patty_run.specs.declared.stop.Stop.{Stop}
use Rattle.patty_run.specs.declared.stop.Stop.TheVariants as stop
use Rattle.patty_run.specs.Inputs.{InputFile}
use Rattle.patty_run.specs.Outside.{Files, Outside}
use Rattle.patty_run.specs.Files.{IsHeld, IsTooLong, AreHeld, IsLong, FailsAt, IsTold, IsToldLong, AreTold, IsLongAt}
use Rattle.patty_run.specs.Printed.{Prints}
use Rattle.patty_run.specs.Tasks.{IsTask, IsTaskFault}
use Rattle.patty_run.specs.Programs.{Program, lines_of, status_of}
use Rattle.patty_run.specs.Causes.{Hold, HasLong, HasUnread, Causes}
use Rattle.patty_run.specs.Statuses.{named, AreGiven, IsTaskGiven, CallsFor, Ends, GivesOut, EndsWithAnswer}
use Rattle.patty_run.specs.inside.Runs.{Runs}
use Rattle.patty_run.proofs.TaskLaws.{one_task, fault_no_task, one_first}

-- ---- a file has one content

held_is : (told : Option (List ℕ)) (bytes held : List ℕ) → told ≡ Some bytes → IsHeld told held → held ≡ bytes
held_is told bytes held is has = let h = subst (λ (o : Option (List ℕ)). Tells o held) is has.same in h

-- the numbers are variables, since the limit is a large numeral
past : (most n m : ℕ) → n ≤ most → most < m → n ≡ m → ⊥
past most n m small long same = omega (arith, small, long, same)

module _ (files : Files) where
  told_not_long : (name bytes : List ℕ) → IsTold files name bytes → IsTooLong (files.content name) → ⊥
  told_not_long name bytes is long = let more = subst IsTooLong is.is long in past limit (length bytes) (length bytes) is.small more refl

  long_not_held : (name held : List ℕ) → IsToldLong files name → IsHeld (files.content name) held → ⊥
  long_not_held name held is has = past limit (length held) (length is.bytes) has.small is.long (ap length (held_is (files.content name) is.bytes held is.is has))

  -- ---- a file that is told to be too long is where taking the files ends

  long_not_all : (names : List InputFile) (contents : List (List ℕ)) (i : Input) → IsLongAt files names i → AreHeld files.content names contents → ⊥
  long_not_all [] contents i called held = absurd called
  long_not_all (f ∷ names) [] i called held = absurd held
  long_not_all (f ∷ names) (c ∷ contents) i (inl here) held = long_not_held f.name c here.1 held.0
  long_not_all (f ∷ names) (c ∷ contents) i (inr behind) held = long_not_all names contents i behind.1 held.1

  long_not_failed : (names : List InputFile) (i j : Input) → IsLongAt files names i → FailsAt files names j → ⊥
  long_not_failed [] i j called fails = absurd called
  long_not_failed (f ∷ names) i j (inl here) (inl fails) = here.1.well fails.1.rose
  long_not_failed (f ∷ names) i j (inl here) (inr more) = long_not_held f.name more.0.0 here.1 more.0.1
  long_not_failed (f ∷ names) i j (inr behind) (inl fails) = behind.0.1.well fails.1.rose
  long_not_failed (f ∷ names) i j (inr behind) (inr more) = long_not_failed names i j behind.1 more.1

  long_is : (names : List InputFile) (i j : Input) → IsLongAt files names i → IsLong files names j → j ≡ i
  long_is [] i j called long = absurd called
  long_is (f ∷ names) i j (inl here) (inl long) = sym long.0 ∙ here.0
  long_is (f ∷ names) i j (inl here) (inr more) = absurd (long_not_held f.name more.0.0 here.1 more.0.1)
  long_is (f ∷ names) i j (inr behind) (inl long) = absurd (told_not_long f.name behind.0.0 behind.0.1 long.1)
  long_is (f ∷ names) i j (inr behind) (inr more) = long_is names i j behind.1 more.1

  -- ---- files that are told are held

  told_is : (names : List InputFile) (told held : List (List ℕ)) → AreTold files names told → AreHeld files.content names held → held ≡ told
  told_is [] [] [] is has = refl
  told_is [] [] (h ∷ held) is has = absurd has
  told_is [] (t ∷ told) held is has = absurd is
  told_is (f ∷ names) [] held is has = absurd is
  told_is (f ∷ names) (t ∷ told) [] is has = absurd has
  told_is (f ∷ names) (t ∷ told) (h ∷ held) is has =
      ap (λ (c : List ℕ). c ∷ held) (held_is (files.content f.name) t h is.0.is has.0) ∙ ap (λ (l : List (List ℕ)). t ∷ l) (told_is names told held is.1 has.1)

  told_not_failed : (names : List InputFile) (told : List (List ℕ)) (j : Input) → AreTold files names told → FailsAt files names j → ⊥
  told_not_failed [] told j is fails = absurd fails
  told_not_failed (f ∷ names) [] j is fails = absurd is
  told_not_failed (f ∷ names) (t ∷ told) j is (inl here) = is.0.well here.1.rose
  told_not_failed (f ∷ names) (t ∷ told) j is (inr more) = told_not_failed names told j is.1 more.1

  told_none_long : (names : List InputFile) (told : List (List ℕ)) (j : Input) → AreTold files names told → IsLong files names j → ⊥
  told_none_long [] told j is long = absurd long
  told_none_long (f ∷ names) [] j is long = absurd is
  told_none_long (f ∷ names) (t ∷ told) j is (inl here) = told_not_long f.name t is.0 here.1
  told_none_long (f ∷ names) (t ∷ told) j is (inr more) = told_none_long names told j is.1 more.1

-- ---- the words name one list of files

one_names : (o : Option (List InputFile)) (a b : List InputFile) → o ≡ Some a → o ≡ Some b → a ≡ b
one_names o a b is also = let same : Some a ≡ Some b = sym is ∙ also in cc (same)

no_names : (o : Option (List InputFile)) (a : List InputFile) → o ≡ None → o ≡ Some a → ⊥
no_names o a is also = let same : None ≡ Some a = sym is ∙ also in cc (same)

-- two texts and more are one list of contents
same_texts : (d p : List ℕ) (more : List (List ℕ)) (e q : List ℕ) (rest : List (List ℕ)) → ◌≡◌ {A = List (List ℕ)} (e ∷ q ∷ rest) (d ∷ p ∷ more) → (e ≡ d) × (q ≡ p) × (rest ≡ more)
same_texts d p more e q rest is = (cc (is), cc (is), cc (is))

module _ {A : Type 0} (program : Program A) (outside : Outside) where
  -- this verdict, unless memory ran out
  abbrev IsOne : Result A Stop → Result A Stop → Type 0
  IsOne v w = (w ≡ v) ⊎ (w ≡ Err stop.Memory)

  -- what is held is what was given
  given_is : (told held : List (List ℕ)) → AreGiven program outside told → Hold outside.files (named program outside) held → held ≡ told
  given_is told held given has =
      let names = one_names (named program outside) has.names given.names has.right given.right in
      let here = subst (λ (l : List InputFile). AreHeld outside.files.content l held) names has.held in
      told_is outside.files given.names told held given.told here

  given_not_long : (told : List (List ℕ)) (i : Input) → AreGiven program outside told → HasLong outside.files (named program outside) i → ⊥
  given_not_long told i given has =
      let names = one_names (named program outside) has.names given.names has.right given.right in
      told_none_long outside.files given.names told i given.told (subst (λ (l : List InputFile). IsLong outside.files l i) names has.long)

  given_not_unread : (told : List (List ℕ)) (i : Input) → AreGiven program outside told → HasUnread outside.files (named program outside) i → ⊥
  given_not_unread told i given has =
      let names = one_names (named program outside) has.names given.names has.right given.right in
      told_not_failed outside.files given.names told i given.told (subst (λ (l : List InputFile). FailsAt outside.files l i) names has.fails)

  -- ---- each reason for no answer comes to one verdict

  usage_one : named program outside ≡ None → (w : Result A Stop) → Causes outside.files (named program outside) program w → IsOne (Err stop.Usage) w
  usage_one wrong (Ok a) is = absurd (no_names (named program outside) is.held.names wrong is.held.right)
  usage_one wrong (Err stop.Usage) is = inl refl
  usage_one wrong (Err (stop.ReadFault i)) is = absurd (no_names (named program outside) is.names wrong is.right)
  usage_one wrong (Err (stop.Long i)) is = absurd (no_names (named program outside) is.names wrong is.right)
  usage_one wrong (Err (stop.Fault f)) is = absurd (no_names (named program outside) is.held.names wrong is.held.right)
  usage_one wrong (Err stop.Memory) is = inr refl

  module _ (names : List InputFile) (right : named program outside ≡ Some names) (i : Input) (long : IsLongAt outside.files names i) where
    long_no_hold : (held : List (List ℕ)) → Hold outside.files (named program outside) held → ⊥
    long_no_hold held has =
        let same = one_names (named program outside) has.names names has.right right in
        long_not_all outside.files names held i long (subst (λ (l : List InputFile). AreHeld outside.files.content l held) same has.held)

    long_one : (w : Result A Stop) → Causes outside.files (named program outside) program w → IsOne (Err (stop.Long i)) w
    long_one (Ok a) is = absurd (long_no_hold (is.domain ∷ is.problem ∷ is.more) is.held)
    long_one (Err stop.Usage) is = absurd (no_names (named program outside) names is right)
    long_one (Err (stop.ReadFault j)) is =
        let same = one_names (named program outside) is.names names is.right right in
        absurd (long_not_failed outside.files names i j long (subst (λ (l : List InputFile). FailsAt outside.files l j) same is.fails))
    long_one (Err (stop.Long j)) is =
        let same = one_names (named program outside) is.names names is.right right in
        inl (ap (λ (k : Input). Err (stop.Long k)) (long_is outside.files names i j long (subst (λ (l : List InputFile). IsLong outside.files l j) same is.long)))
    long_one (Err (stop.Fault f)) is = absurd (long_no_hold (is.domain ∷ is.problem ∷ is.more) is.held)
    long_one (Err stop.Memory) is = inr refl

  module _ (domain problem : List ℕ) (more : List (List ℕ)) (given : AreGiven program outside (domain ∷ problem ∷ more)) where
    -- the texts that are held are those given
    texts_are : (e q : List ℕ) (rest : List (List ℕ)) → Hold outside.files (named program outside) (e ∷ q ∷ rest) → (e ≡ domain) × (q ≡ problem) × (rest ≡ more)
    texts_are e q rest held = same_texts domain problem more e q rest (given_is (domain ∷ problem ∷ more) (e ∷ q ∷ rest) given held)

    task_here : (e q : List ℕ) (t : TaskParts) → e ≡ domain → q ≡ problem → IsTask e q t → IsTask domain problem t
    task_here e q t first second is = subst (λ (d : List ℕ). IsTask d problem t) first (subst (λ (p : List ℕ). IsTask e p t) second is)

    fault_here : (e q : List ℕ) (f : TextFault) → e ≡ domain → q ≡ problem → IsTaskFault e q f → IsTaskFault domain problem f
    fault_here e q f first second is = subst (λ (d : List ℕ). IsTaskFault d problem f) first (subst (λ (p : List ℕ). IsTaskFault e p f) second is)

    fault_one : (f : TextFault) → IsTaskFault domain problem f → (w : Result A Stop) → Causes outside.files (named program outside) program w → IsOne (Err (stop.Fault f)) w
    fault_one f first (Ok a) is =
        let same = texts_are is.domain is.problem is.more is.held in
        absurd (fault_no_task domain problem f is.task first (task_here is.domain is.problem is.task same.0 same.1 is.is_task))
    fault_one f first (Err stop.Usage) is = absurd (no_names (named program outside) given.names is given.right)
    fault_one f first (Err (stop.ReadFault j)) is = absurd (given_not_unread (domain ∷ problem ∷ more) j given is)
    fault_one f first (Err (stop.Long j)) is = absurd (given_not_long (domain ∷ problem ∷ more) j given is)
    fault_one f first (Err (stop.Fault g)) is =
        let same = texts_are is.domain is.problem is.more is.held in
        inl (ap (λ (h : TextFault). Err (stop.Fault h)) (one_first domain problem g f (fault_here is.domain is.problem g same.0 same.1 is.first) first))
    fault_one f first (Err stop.Memory) is = inr refl

    -- ---- a task comes to some answer

    abbrev IsAnswer : TaskParts → Result A Stop → Type 0
    IsAnswer task w = ((a : A) × program.Allows task more a × (w ≡ Ok a)) ⊎ (w ≡ Err stop.Memory)

    allowed_here : (t u : TaskParts) (rest : List (List ℕ)) (a : A) → t ≡ u → rest ≡ more → program.Allows t rest a → program.Allows u more a
    allowed_here t u rest a same also is = subst (λ (v : TaskParts). program.Allows v more a) same (subst (λ (l : List (List ℕ)). program.Allows t l a) also is)

    task_some : (t : TaskParts) → IsTask domain problem t → (w : Result A Stop) → Causes outside.files (named program outside) program w → IsAnswer t w
    task_some t task (Ok a) is =
        let same = texts_are is.domain is.problem is.more is.held in
        let here = task_here is.domain is.problem is.task same.0 same.1 is.is_task in
        inl (a, allowed_here is.task t is.more a (one_task domain problem is.task t here task) same.2 is.allowed, refl)
    task_some t task (Err stop.Usage) is = absurd (no_names (named program outside) given.names is given.right)
    task_some t task (Err (stop.ReadFault j)) is = absurd (given_not_unread (domain ∷ problem ∷ more) j given is)
    task_some t task (Err (stop.Long j)) is = absurd (given_not_long (domain ∷ problem ∷ more) j given is)
    task_some t task (Err (stop.Fault g)) is =
        let same = texts_are is.domain is.problem is.more is.held in
        absurd (fault_no_task domain problem g t (fault_here is.domain is.problem g same.0 same.1 is.first) task)
    task_some t task (Err stop.Memory) is = inr refl

  -- ---- what is due is printed

  stop_one : (why : Stop) → CallsFor program outside why → (w : Result A Stop) → Causes outside.files (named program outside) program w → IsOne (Err why) w
  stop_one stop.Usage called w is = usage_one called w is
  stop_one (stop.ReadFault i) called w is = absurd called
  stop_one (stop.Long i) called w is = long_one called.names called.right i called.long w is
  stop_one (stop.Fault f) called w is = fault_one called.domain called.problem called.more called.given f called.first w is
  stop_one stop.Memory called w is = absurd called

  module _ (code : ℕ) (run : Runs program outside code) where
    ends : (v w : Result A Stop) → w ≡ v → code ≡ status_of program w → Prints outside.output (lines_of program w) → Ends program outside code v
    ends v w same is printed = record {
      status = is ∙ ap (status_of program) same;
      printed = subst (λ (u : Result A Stop). Prints outside.output (lines_of program u)) same printed;
    }

    memory : (w : Result A Stop) → w ≡ Err stop.Memory → code ≡ status_of program w → GivesOut program outside code
    memory w same is = inr (is ∙ ap (status_of program) same)

    pub refuses : (why : Stop) → CallsFor program outside why → Ends program outside code (Err why) ⊎ GivesOut program outside code
    refuses why called = elim run.printed [
      | inl whole ↦ elim (stop_one why called run.verdict run.caused) [
        | inl same ↦ inl (ends (Err why) run.verdict same whole.0 whole.1)
        | inr same ↦ inr (memory run.verdict same whole.0)
      ]
      | inr (front, inl failed) ↦ inr (inl failed)
      | inr (front, inr memory) ↦ inr (inr memory.0)
    ]

    pub answers : (task : TaskParts) (more : List (List ℕ)) → IsTaskGiven program outside task more → EndsWithAnswer program outside code task more ⊎ GivesOut program outside code
    answers task more given = elim run.printed [
      | inl whole ↦ elim (task_some given.domain given.problem more given.given task given.is_task run.verdict run.caused) [
        | inl (a, allowed, same) ↦ inl (a, allowed, ends (Ok a) run.verdict same whole.0 whole.1)
        | inr same ↦ inr (memory run.verdict same whole.0)
      ]
      | inr (front, inl failed) ↦ inr (inl failed)
      | inr (front, inr memory) ↦ inr (inr memory.0)
    ]
