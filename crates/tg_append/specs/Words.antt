-- Names of the rules' own records beside those of the code.
use Rattle.tg_protocol.specs.Appending.{Append, Token}
use Rattle.tg_protocol.specs.Syncing.{Sync, Answer}

abbrev pub Issued : Type 0
Issued = Token

abbrev pub Told : Type 0
Told = Answer

abbrev pub AppendJob : Type 0
AppendJob = Append

abbrev pub SyncJob : Type 0
SyncJob = Sync
