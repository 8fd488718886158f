-- What the status of a run says in every program.
use Rattle.std.proofs.Common.{ℕ}
use Rattle.patty_run.specs.Outside.{Outside}
use Rattle.patty_run.specs.Programs.{Program}
use Rattle.patty_run.specs.Statuses.{IsRun}
use Rattle.patty_run.specs.inside.Runs.{Runs}
use Rattle.patty_run.proofs.StatusLaws as status
use Rattle.patty_run.proofs.DueLaws as due

module _ {A : Type 0} (program : Program A) (free : status.IsFree program) (outside : Outside) (code : ℕ) (run : Runs program outside code) where
  pub is_run : IsRun program outside code
  is_run = record {
    usage = status.usage program free outside code run;
    unread = status.unread program free outside code run;
    unwritten = status.unwritten program free outside code run;
    written = status.written program free outside code run;
    read = status.read program free outside code run;
    started = status.started program free outside code run;
    refuses = due.refuses program outside code run;
    answers = due.answers program outside code run;
  }
