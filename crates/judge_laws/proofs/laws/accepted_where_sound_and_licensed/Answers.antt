use Rattle.judge_laws.proofs.Steps.{accepted_sound, accepted_licensed, sound_accepted}
use Rattle.judge_laws.proofs.laws.accepted_where_sound_and_licensed.Goals as goal

pub returns : goal.returns
returns c = λ f s is. (λ a. (accepted_sound f s is a, accepted_licensed f s a), λ h. sound_accepted f s h.0 h.1)
