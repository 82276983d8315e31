-- Whatever is issued to a stream stands past where its object was registered.
use Rattle.std.specs.Prelude.{ℕ, List, Bool, Contains}
use Rattle.tg_base.specs.Clusters.{Header}
use Rattle.tg_base.specs.declared.ids.Oid.{Oid}
use Rattle.tg_base.specs.declared.marks.StreamLink.{StreamLink}
use Rattle.tg_kind.specs.Meaning.{Meaning}
use Rattle.tg_protocol.specs.Worlds.{World}
use Rattle.tg_protocol.specs.Runs.{Moves, Reaches}
use Rattle.tg_law_cells.specs.Tokens.Issuing.{Issued}
use Rattle.tg_law_replies.specs.History.Floors.{IsDirectory}
use Rattle.tg_law_replies.specs.Replies.Ended.{AppendsEnd}
use Rattle.tg_law_replies.specs.Replies.Laws.{ClientsFind}
use Rattle.tg_law_walks.specs.Lists.Spared.{TrimsWereSpare}
use Rattle.tg_law_headline.specs.Trims.Floors.{WasRegistered}

module _ (m : Meaning) where
  -- each object to whose stream a position was issued was registered at that position or below it
  abbrev pub TokensFollow : List Oid → World m → Type 0
  TokensFollow objects w = (s epoch pos : ℕ) (os : List Oid) (ls : List StreamLink) (o : Oid) → Issued m w s epoch pos os ls → Contains os o → WasRegistered m objects w o pos

  -- So it is in each run over kinds with a directory in which trims were spare, where clients find what they need of the log
  -- at hand, and appends that ended stand there.
  abbrev pub TokensFollowRegistrations : Type 0
  TokensFollowRegistrations = (is_object : Oid → Bool) (is_op : m.op → Bool) → IsDirectory m is_object is_op → (h : Header) (ms : Moves m) (w : World m) → Reaches m h ms w → TrimsWereSpare m h ms →
      ClientsFind m h ms w → AppendsEnd m h ms w → TokensFollow h.objects w
