-- What the calls of a shelf say of the files that are taken.
use Rattle.std.proofs.Common.{◌≡◌, refl, inl, inr, ℕ, ◌+◌, ◌<◌, List, [], ◌∷◌, ◌++◌, length, map, take, drop, get_or, take-append-drop, Option, Vec, Global, Some, None, ◌∙◌, ap, sym, subst, arith}
use Rattle.std.proofs.lemmas.List.{length-take, take_more, drop_more, map-append}
use Rattle.patty_io.specs.Shelf.{limit, TellsMore}
use Rattle.patty_io.specs.Faults.{Rose}
use Rattle.patty_run.specs.declared.input.Input.{Input}
use Rattle.patty_run.specs.declared.stop.Stop.{Stop}
use Rattle.patty_run.specs.declared.stop.Stop.TheVariants as stop
use Rattle.patty_run.specs.declared.input.NamedInput.{NamedInput}
use Rattle.patty_run.specs.Inputs.{InputFile, file_of}
use Rattle.patty_run.specs.Outside.{Files, FailsAlone}
use Rattle.patty_run.specs.Files.{IsHeld, IsTooLong, AreHeld, StopsAt, IsLong, FailsAt}
use Rattle.patty_run.specs.Taken.{AreNotTaken, contents_of}
use Rattle.patty_run.specs.inside.Taking.{IsNotTaken}

-- more than a number of them were taken
longer : (n : ℕ) (bytes into : List ℕ) → length into ≡ n + 1 → into ≡ take (n + 1) bytes → n < length bytes
longer n bytes into long is = omega (arith, long, sym (ap length is) ∙ long, length-take (n + 1) bytes)

-- a file of which one byte too many was taken is too long
pub too_long : (told : Option (List ℕ)) (into : List ℕ) → length into ≡ limit + 1 → TellsMore told into → IsTooLong told
too_long None into long tells = tt
too_long (Some bytes) into long tells = longer limit bytes into long tells

module _ (content : List ℕ → Option (List ℕ)) where
  -- one more file is held
  pub held_more : (files : List InputFile) (contents : List (List ℕ)) (file : InputFile) (bytes : List ℕ) → AreHeld content files contents → IsHeld (content file.name) bytes → AreHeld content (files ++ file ∷ []) (contents ++ bytes ∷ [])
  held_more [] [] file bytes held is = (is, tt)
  held_more [] (c ∷ contents) file bytes held is = absurd held
  held_more (f ∷ files) [] file bytes held is = absurd held
  held_more (f ∷ files) (c ∷ contents) file bytes held is = (held.0, held_more files contents file bytes held.1 is)

  -- behind files that are held, one stops the run
  stops_behind : (Cause : List ℕ → Type 0) (files : List InputFile) (contents : List (List ℕ)) (file : InputFile) (more : List InputFile) → AreHeld content files contents → Cause file.name → StopsAt content Cause (files ++ file ∷ more) file.input
  stops_behind Cause [] contents file more held cause = inl (refl, cause)
  stops_behind Cause (f ∷ files) [] file more held cause = absurd held
  stops_behind Cause (f ∷ files) (c ∷ contents) file more held cause = inr ((c, held.0), stops_behind Cause files contents file more held.1 cause)

-- ---- one that isn't taken

-- what its call says is so of the whole run, where nothing that was told or counted had changed before it
of_run : (files : Files) (between : List ℕ → Option (List ℕ)) (mid : List ℕ → ℕ) (name : List ℕ) (input : Input) (why : Stop)
    → ((of : List ℕ) → between of ≡ files.content of) → ((of : List ℕ) → mid of ≡ files.failed_before of)
    → IsNotTaken (record { content = between; failed_before = mid; failed = files.failed }) name input why → IsNotTaken files name input why
of_run files between mid name input stop.Usage told counted is = absurd is
of_run files between mid name input (stop.ReadFault i) told counted is = (
  is.0,
  record {
    rose = subst (λ (n : ℕ). Rose n (files.failed name)) (counted name) is.1.rose;
    others = λ other differs. is.1.others other differs ∙ counted other;
  },
)
of_run files between mid name input (stop.Long i) told counted is = (is.0, subst IsTooLong (told name) is.1)
of_run files between mid name input (stop.Fault fault) told counted is = absurd is
of_run files between mid name input stop.Memory told counted is = tt

-- behind files that are held it stops the run
not_taken : (files : Files) (named : List InputFile) (contents : List (List ℕ)) (file : InputFile) (more : List InputFile) (why : Stop)
    → AreHeld files.content named contents → IsNotTaken files file.name file.input why → AreNotTaken files (named ++ file ∷ more) why
not_taken files named contents file more stop.Usage held is = absurd is
not_taken files named contents file more (stop.ReadFault i) held is =
    subst (λ (j : Input). FailsAt files (named ++ file ∷ more) j) (sym is.0) (stops_behind files.content (FailsAlone files) named contents file more held is.1)
not_taken files named contents file more (stop.Long i) held is =
    subst (λ (j : Input). IsLong files (named ++ file ∷ more) j) (sym is.0) (stops_behind files.content (λ name. IsTooLong (files.content name)) named contents file more held is.1)
not_taken files named contents file more (stop.Fault fault) held is = absurd is
not_taken files named contents file more stop.Memory held is = tt

-- ---- while the files are taken, in the order of the inputs

module _ (files : Files) (inputs : List NamedInput) (i : ℕ) (d : NamedInput) (within : i < length inputs) where
  files_to : map file_of (take (i + 1) inputs) ≡ map file_of (take i inputs) ++ file_of (get_or inputs i d) ∷ []
  files_to = ap (map file_of) (take_more inputs i d within) ∙ map-append file_of (take i inputs) (get_or inputs i d ∷ [])

  files_all : map file_of inputs ≡ map file_of (take i inputs) ++ file_of (get_or inputs i d) ∷ map file_of (drop (i + 1) inputs)
  files_all =
      ap (map file_of) (sym (take-append-drop i inputs) ∙ ap (λ (l : List NamedInput). take i inputs ++ l) (drop_more inputs i d within))
      ∙ map-append file_of (take i inputs) (get_or inputs i d ∷ drop (i + 1) inputs)

  -- one more is taken
  pub held_next : (vecs new : List (Vec ℕ Global)) (bytes : Vec ℕ Global) → AreHeld files.content (map file_of (take i inputs)) (contents_of vecs)
      → IsHeld (files.content (get_or inputs i d).name.now) bytes.items → new ≡ vecs ++ bytes ∷ [] → AreHeld files.content (map file_of (take (i + 1) inputs)) (contents_of new)
  held_next vecs new bytes held is pushed =
      let contents : contents_of new ≡ contents_of vecs ++ bytes.items ∷ [] = ap contents_of pushed ∙ map-append (λ (v : Vec ℕ Global). v.items) vecs (bytes ∷ []) in
      let more : AreHeld files.content (map file_of (take i inputs) ++ file_of (get_or inputs i d) ∷ []) (contents_of vecs ++ bytes.items ∷ []) =
      held_more files.content (map file_of (take i inputs)) (contents_of vecs) (file_of (get_or inputs i d)) bytes.items held is in
      subst (λ (f : List InputFile). AreHeld files.content f (contents_of new)) (sym files_to)
      (subst (λ (l : List (List ℕ)). AreHeld files.content (map file_of (take i inputs) ++ file_of (get_or inputs i d) ∷ []) l) (sym contents) more)

  -- one isn't taken; contents and counts are told at the start, in between and behind
  pub stops_here : (between : List ℕ → Option (List ℕ)) (mid : List ℕ → ℕ) (vecs : List (Vec ℕ Global)) (why : Stop) → AreHeld files.content (map file_of (take i inputs)) (contents_of vecs)
      → ((of : List ℕ) → between of ≡ files.content of) → ((of : List ℕ) → mid of ≡ files.failed_before of)
      → IsNotTaken (record { content = between; failed_before = mid; failed = files.failed }) (get_or inputs i d).name.now (get_or inputs i d).input why
      → AreNotTaken files (map file_of inputs) why
  stops_here between mid vecs why held told counted is =
      let here = of_run files between mid (get_or inputs i d).name.now (get_or inputs i d).input why told counted is in
      subst (λ (f : List InputFile). AreNotTaken files f why) (sym files_all)
      (not_taken files (map file_of (take i inputs)) (contents_of vecs) (file_of (get_or inputs i d)) (map file_of (drop (i + 1) inputs)) why held here)
