-- What exact walks give of what clients find.
use Rattle.std.specs.Prelude.{[]}
use Rattle.tg_base.specs.Clusters.{Header}
use Rattle.tg_kind.specs.Meaning.{Meaning}
use Rattle.tg_protocol.specs.Logs.{Log, entries_of}
use Rattle.tg_protocol.specs.Clients.{Work, Client}
use Rattle.tg_protocol.specs.Runs.{Moves, Reaches}
use Rattle.tg_protocol.specs.Worlds.{World}
use Rattle.tg_law_replies.specs.History.Worlds.{entries_in}
use Rattle.tg_law_replies.specs.Replies.Found.{Finds}
use Rattle.tg_law_replies.specs.Replies.Laws.{ClientsFind}
use Rattle.tg_law_walks.specs.Walks.Streams.{IsByPosition}
use Rattle.tg_law_walks.specs.Walks.Rounds.{round, IsRound}
use Rattle.tg_law_syncs.specs.Finds.Left.{LeftFor, SavesPrecede, RoundsExact, RoundsKnown, RoundsFit, PassesOwn}

-- a client whose streams are walked, exactly, has found what it needs, where the rest of it holds
abbrev pub RoundsFind : Meaning → Type 0
RoundsFind m = (h : Header) (l : Log) (before : Moves m) (c : Client m) (v : Work m) → IsByPosition l → IsRound m l (round m c v c.cells) [] →
    LeftFor m h (entries_of l) before c v v.command → Finds m h (entries_of l) before c v

-- so the clients of a run find what they need
abbrev pub ClientsFindWhere : Meaning → Type 0
ClientsFindWhere m = (h : Header) (ms : Moves m) (w : World m) → Reaches m h ms w → RoundsExact m h ms w → RoundsKnown m h ms w → PassesOwn m h ms w →
    SavesPrecede m (entries_in m w) → RoundsFit m h ms w → ClientsFind m h ms w
