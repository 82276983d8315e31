-- A rescue that stays undecided: what is told of it is true of the log.
use Rattle.std.specs.Prelude.{◌≡◌, ℕ, ◌≤◌, ◌==◌, Bool, true, false, List, ◌++◌, Option, Some, None, Contains}
use Rattle.tg_base.specs.declared.ids.Oid.{Oid}
use Rattle.tg_base.specs.declared.marks.StreamLink.{StreamLink}
use Rattle.tg_base.specs.declared.msg.Msg.{Msg}
use Rattle.tg_base.specs.declared.msg.Msg.TheVariants as msg
use Rattle.tg_kind.specs.Meaning.{Meaning}
use Rattle.tg_model.specs.declared.command.Command.TheVariants as cmd
use Rattle.tg_model.specs.declared.refusal.Refusal.TheVariants as cause
use Rattle.tg_model.specs.declared.trace.What.TheVariants as told
use Rattle.tg_model.specs.Kinds.{CommandOf, EventOf}
use Rattle.tg_protocol.specs.Alike.{SentNow}
use Rattle.tg_protocol.specs.Chosen.{Sent}
use Rattle.tg_protocol.specs.Clients.{Work}
use Rattle.tg_protocol.specs.Logs.{path}
use Rattle.tg_protocol.specs.Words.{client_id, unit_id}
use Rattle.tg_protocol.specs.Worlds.{World, Told, client, log, happens}

-- the message asks for the cell of a position
abbrev pub asks_for : ℕ → Msg → Bool
asks_for p (msg.Read e q) = p == q
asks_for p (msg.Fill e q) = p == q
asks_for p (msg.Copy e q c) = p == q
asks_for p _ = false

module _ (m : Meaning) where
  -- the walk of an object's stream, from a tail of this command on, was answered that all below a position is gone
  pub record WalkMetTrim (w : World m) (t : Told m) (o : Oid) : Type 0 where
    pub tail : ℕ
    pub links : List StreamLink
    pub synced : SentNow m w t (msg.Tail tail links)
    pub link : StreamLink
    pub linked : Contains links link
    pub stream : link.oid ≡ o
    pub pos : ℕ
    pub walked : Contains (path (log m w) o link.backs) pos
    pub unit : ℕ
    pub rid : ℕ
    pub now : t.noted.next ≤ rid
    pub request : Msg
    pub asks : asks_for pos request ≡ true
    pub asked : Sent m w (record { from = client_id t.mark.client; to = unit_id unit; rid = rid; msg = request })
    pub below : ℕ
    pub gone : Sent m w (record { from = unit_id unit; to = client_id t.mark.client; rid = rid; msg = msg.Gone below })

  -- the command that a client works at
  abbrev pub command_in : Option (Work m) → Option (CommandOf m)
  command_in None = None
  command_in (Some v) = Some v.command

  -- where a step answers a rescue by `undecided`, the walk of the named object's stream met a trim
  abbrev pub StuckTrue : World m → EventOf m → Type 0
  StuckTrue w e = (added : List (Told m)) (t : Told m) (p q : ℕ) (o : Oid) → (happens m w e).told ≡ w.told ++ added → Contains added t →
      command_in (client m w t.mark.client).work ≡ Some (cmd.Rescue p) → t.mark.what ≡ told.Refused (cause.Undecided q o) → WalkMetTrim (happens m w e) t o
