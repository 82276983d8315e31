-- Names of the rules' own records beside those of the code.
use Rattle.tg_protocol.specs.Walking.{Trail, Walk}

abbrev pub Trace : Type 0
Trace = Trail

abbrev pub WalkJob : Type 0
WalkJob = Walk
