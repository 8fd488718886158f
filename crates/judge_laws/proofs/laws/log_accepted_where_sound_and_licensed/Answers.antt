use Rattle.judge_laws.proofs.Logs.{log_sound, log_licensed, log_accepted}
use Rattle.judge_laws.proofs.laws.log_accepted_where_sound_and_licensed.Goals as goal

pub returns : goal.returns
returns c = λ f log is. (λ a. (log_sound f log is a, log_licensed f log a), λ h. log_accepted f log h.0 h.1)
