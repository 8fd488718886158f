-- What comes of a search is an answer that its task allows, printed whole or in front.
use Rattle.std.proofs.Common.{◌≡◌, ◌⊎◌, inl, inr, ℕ, ◌<◌, List, [], Option, Ok, Err, refl, sym, ◌∙◌, ap, subst, arith}
use Rattle.patty_io.specs.Faults.{Rose}
use Rattle.pddl_task.specs.declared.parts.TaskParts.{TaskParts}
use Rattle.pddl_task.specs.Linear.{IsLinear}
use Rattle.patty_run.specs.declared.stop.Stop.TheVariants as stop
use Rattle.patty_run.specs.Outside.{Output, WriteFails, NoWriteFails}
use Rattle.patty_run.specs.Printed.{PrintsFront}
use Rattle.patty_run.specs.inside.Runs.{PrintsAs}
use Rattle.patty_run.proofs.PrintLaws.{appends_none}
use Rattle.planner_text.specs.declared.limits.Limits.{Limits}
use Rattle.planner_text.specs.Text.{End, refuted, found, unknown, Block, Text, layered, unlayered}
use Rattle.planner_text.specs.Lines.{text_lines}
use Rattle.search.specs.declared.found.Found.{Found}
use Rattle.search.specs.declared.found.Found.TheVariants as come
use Rattle.search.specs.declared.found.SearchFail.{SearchFail}
use Rattle.search.specs.declared.found.SearchFail.TheVariants as fail
use Rattle.search.specs.Searching.{EndsWith, TextEndsWith, IsSilent, IsStarted, SearchFails, IsFound}
use Rattle.planner.specs.Planner.{printed, refused, not_built, refusal_lines, not_built_lines, end_status, text_status}
use Rattle.planner.specs.inside.Answering.{IsAnswered, found_status, EndsFailed}

-- ---- the status that what is found has is that of the text

end_status_is : (n places : ℕ) (last : Block) (f : Found) → EndsWith n places last f → found_status f ≡ end_status last.end
end_status_is n places last (come.Plan m plan size) is = sym (ap end_status is.0)
end_status_is n places last (come.NoPlan size) is = sym (ap end_status is.0)
end_status_is n places last (come.Unknown m size) is = sym (ap end_status is.0.1)

status_is : (t : Text) (f : Found) → TextEndsWith t f → found_status f ≡ text_status t
status_is (layered places before last) f is = end_status_is _ _ last f is
status_is (unlayered w) (come.Plan m plan size) is = absurd is
status_is (unlayered w) (come.NoPlan size) is = absurd is
status_is (unlayered w) (come.Unknown m size) is = refl

pub answered_found : (output : Output) (limits : Limits) (task : TaskParts) (f : Found) (code : ℕ) → IsLinear task → IsFound output task limits f → code ≡ found_status f → IsAnswered output limits task code
answered_found output limits task f code linear is same = record {
  verdict = Ok (record { task = task; course = printed is.text });
  allowed = record { same_task = refl; linear = linear; takes = (is.is_text.text, is.fit) };
  truly = λ low. is.is_text;
  printed_is = inl (same ∙ status_is is.text f is.ends, is.printed, is.no_fault);
}

-- ---- a search that failed: it wrote this, and something may be written behind it

module _ (written_before mid written : Option (List ℕ)) (failed_before middle failed : ℕ) (limits : Limits) (task : TaskParts) (linear : IsLinear task) where
  abbrev first : Output
  first = record { written_before = written_before; written = mid; failed_before = failed_before; failed = middle }

  abbrev second : Output
  second = record { written_before = mid; written = written; failed_before = middle; failed = failed }

  abbrev whole : Output
  whole = record { written_before = written_before; written = written; failed_before = failed_before; failed = failed }

  behind_silent : (lines : List (List ℕ)) (status code : ℕ) → IsSilent first → PrintsAs second lines status code → PrintsAs whole lines status code
  behind_silent lines status code silent prints =
      subst (λ (b : ℕ). PrintsAs (record { written_before = written_before; written = written; failed_before = b; failed = failed }) lines status code) silent.no_fault
      (subst (λ (w : Option (List ℕ)). PrintsAs (record { written_before = w; written = written; failed_before = middle; failed = failed }) lines status code) silent.same prints)

  -- nothing was written at all
  out_of_memory : (code : ℕ) → IsSilent first → written ≡ mid → failed ≡ middle → code ≡ 7 → IsAnswered whole limits task code
  out_of_memory code silent same_written same_failed is = record {
    verdict = Err stop.Memory;
    allowed = tt;
    truly = λ low. tt;
    printed_is = inr (record { front = []; rest = []; split = refl; added = appends_none written_before written (same_written ∙ silent.same) }, inr (is, same_failed ∙ silent.no_fault));
  }

  -- a front was written, and nothing behind it
  stopped : (code : ℕ) → IsStarted first task limits → written ≡ mid → failed ≡ middle → ((code ≡ 6) × WriteFails first) ⊎ ((code ≡ 7) × NoWriteFails first) → IsAnswered whole limits task code
  stopped code is same_written same_failed how = record {
    verdict = Ok (record { task = task; course = printed is.text });
    allowed = record { same_task = refl; linear = linear; takes = (is.is_text, is.fit) };
    truly = λ low. absurd (late how low);
    printed_is = inr (
      subst (λ (w : Option (List ℕ)). PrintsFront (record { written_before = written_before; written = w; failed_before = failed_before; failed = failed }) (text_lines task is.text)) (sym same_written) is.front,
      subst (λ (n : ℕ). ((code ≡ 6) × Rose failed_before n) ⊎ ((code ≡ 7) × (n ≡ failed_before))) (sym same_failed) how,
    );
  }
    where
      late : ((code ≡ 6) × WriteFails first) ⊎ ((code ≡ 7) × NoWriteFails first) → code < 6 → ⊥
      late (inl six) low = omega (arith, six.0, low)
      late (inr seven) low = omega (arith, seven.0, low)

  pub answered_failed : (e : SearchFail) (code : ℕ) → SearchFails first task limits e → EndsFailed second e code → IsAnswered whole limits task code
  answered_failed (fail.Ground why) code is ends = record {
    verdict = Ok (record { task = task; course = refused why });
    allowed = record { same_task = refl; linear = linear; takes = is.0 };
    truly = λ low. tt;
    printed_is = behind_silent (refusal_lines why) 3 code is.1 ends;
  }
  answered_failed fail.NotBuilt code is ends = record {
    verdict = Ok (record { task = task; course = not_built });
    allowed = record { same_task = refl; linear = linear; takes = is.0 };
    truly = λ low. tt;
    printed_is = behind_silent not_built_lines 3 code is.1 ends;
  }
  answered_failed fail.Sink code is ends = stopped code is.0 ends.1 ends.2 (inl (ends.0, is.1))
  answered_failed fail.Memory code (inl silent) ends = out_of_memory code silent ends.1 ends.2 ends.0
  answered_failed fail.Memory code (inr (started, none)) ends = stopped code started ends.1 ends.2 (inr (ends.0, none))
