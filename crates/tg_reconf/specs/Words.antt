-- Names of the rules' own types beside those of the code.
use Rattle.tg_protocol.specs.Reconfiguring.{Reconf}

abbrev pub ReconfJob : Type 0
ReconfJob = Reconf
