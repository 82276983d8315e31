-- Names of the rules' own records beside those of the code.
use Rattle.tg_protocol.specs.Trimming.{Trims}

abbrev pub TrimJob : Type 0
TrimJob = Trims
