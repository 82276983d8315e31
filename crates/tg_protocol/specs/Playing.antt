-- Clients at work: what they read, what their walks find, and from where they play on.
use Rattle.std.specs.Prelude.{◌≡◌, ℕ, ◌<◌, ◌≤◌, ◌⊎◌, ◌++◌, ◌&&◌, nat_lt, nat_le, true, List, filter, Some, None, Contains}
use Rattle.tg_base.specs.Layouts.{Layout}
use Rattle.tg_base.specs.declared.cell.Cell.TheVariants.{Data}
use Rattle.tg_base.specs.declared.ids.Oid.{Oid}
use Rattle.tg_base.specs.declared.marks.StreamLink.{StreamLink}
use Rattle.tg_base.specs.declared.msg.Msg.TheVariants as msg
use Rattle.tg_base.specs.declared.packet.Packet.{Packet}
use Rattle.tg_entry.specs.declared.entry.Entry.{Entry}
use Rattle.tg_kind.specs.Meaning.{Meaning}
use Rattle.tg_model.specs.declared.command.Command.TheVariants as cmd
use Rattle.tg_model.specs.declared.command.Event.TheVariants.{Command as Commands}
use Rattle.tg_model.specs.declared.trace.What.TheVariants as told
use Rattle.tg_model.specs.Kinds.{CommandOf, EventOf}
use Rattle.tg_proj.specs.Places.{range_at, stripe_number}
use Rattle.tg_protocol.specs.Words.{client_id}
use Rattle.tg_protocol.specs.Layouts.{range_end}
use Rattle.tg_protocol.specs.Entries.{is_commit}
use Rattle.tg_protocol.specs.Pages.{entry_of}
use Rattle.tg_protocol.specs.Logs.{members, path}
use Rattle.tg_protocol.specs.Clients.{Work, upto, known}
use Rattle.tg_protocol.specs.Worlds.{World, Told, client, noted_of, log, happens}
use Rattle.tg_protocol.specs.Walked.{Walked, walked_in, walked_from, positions_found}
use Rattle.tg_protocol.specs.Runs.{Moves, Takes, Later}
use Rattle.tg_protocol.specs.Chosen.{Sent, IsDecided}
use Rattle.tg_protocol.specs.Alike.{SentTo}

module _ (m : Meaning) where
  -- Replies of a step.

  pub record Replies (w : World m) (e : EventOf m) (t : Told m) : Type 0 where
    pub replies : List (Told m)
    pub are : (happens m w e).told ≡ w.told ++ replies
    pub here : Contains replies t

  -- a client replies this in a step
  pub record Answers (w : World m) (e : EventOf m) (k : ℕ) (P : Told m → Type 0) : Type 0 where
    pub told : Told m
    pub says : Replies w e told
    pub client : told.mark.client ≡ k
    pub holds : P told

  -- Exact syncs: where a step ends the walks of a command, the positions found of each stream that it walked, from
  -- where its walk ended up to the tail, are exactly the stream's members there, in this and in each later world.

  abbrev pub from_to : ℕ → ℕ → List ℕ → List ℕ
  from_to lo hi ps = filter (λ p. nat_le lo p && nat_lt p hi) ps

  abbrev pub IsExact : World m → Walked m → Oid → Type 0
  IsExact w x o = from_to (walked_from m x o) x.work.tail (positions_found m x o) ≡ members (log m w) o (walked_from m x o) x.work.tail

  abbrev pub SyncsExact : World m → EventOf m → Type 0
  SyncsExact w e = (later : World m) → Later m (happens m w e) later → (k : ℕ) (x : Walked m) (o : Oid) →
      walked_in m w e k ≡ Some x → Contains x.work.oids o → IsExact later x o

  -- Pointers at work: a client reads on the path from a tail that it was told, or in a stripe that it was to copy.

  pub record OnPath (w : World m) (k p : ℕ) : Type 0 where
    pub rid : ℕ
    pub tail : ℕ
    pub links : List StreamLink
    pub heard : SentTo m w k rid (msg.Tail tail links)
    pub link : StreamLink
    pub linked : Contains links link
    pub here : Contains (path (log m w) link.oid link.backs) p

  -- the position is one of a stripe
  pub record InStripe (q : Layout) (r s p : ℕ) : Type 0 where
    pub after : (range_at q.ranges r).lo ≤ p
    pub before : p < range_end q r
    pub stripe : stripe_number (range_at q.ranges r) p ≡ s

  pub record OfCopy (ms : Moves m) (w : World m) (k epoch p : ℕ) : Type 0 where
    pub unit : ℕ
    pub range : ℕ
    pub stripe : ℕ
    pub given : Contains ms (Takes (Commands k (cmd.Copy unit range stripe)))
    pub layout : Layout
    pub decided : IsDecided m w epoch layout
    pub here : InStripe layout range stripe p

  abbrev pub ReadsOnPath : Moves m → World m → Type 0
  ReadsOnPath ms w = (x : Packet) (k epoch p : ℕ) → Sent m w x → x.from ≡ client_id k → x.msg ≡ msg.Read epoch p → OnPath w k p ⊎ OfCopy ms w k epoch p

  -- Playing on.

  -- a unit answered the client's command that all is trimmed below a position, above where its view stood when it was
  -- given
  pub record MetTrimAbove (w : World m) (k : ℕ) : Type 0 where
    pub rid : ℕ
    pub below : ℕ
    pub gone : SentTo m w k rid (msg.Gone below)
    pub now : (noted_of m w k).next ≤ rid
    pub above : (noted_of m w k).upto < below

  abbrev pub IsHosted : Told m → Type 0
  IsHosted t = (o : Oid) × (t.mark.what ≡ told.Hosted o)

  -- a page below where the view stands is kept only of a record of one's own
  abbrev pub IsOwn : ℕ → List ℕ → Type 0
  IsOwn k page = (e : Entry) × (entry_of page ≡ Some e) × (is_commit e ≡ true) × (e.head.client ≡ k)

  -- a command that reads for the view alone
  abbrev pub ReadsForView : CommandOf m → Type 0
  ReadsForView (cmd.Ask o q) = Unit {0}
  ReadsForView cmd.End = Unit {0}
  ReadsForView (cmd.Checkpoint o) = Unit {0}
  ReadsForView cmd.Trim = Unit {0}
  ReadsForView x = ⊥

  pub record ReadsNow (w : World m) (e : EventOf m) (k p : ℕ) : Type 0 where
    pub packets : List Packet
    pub are : (happens m w e).packets ≡ w.packets ++ packets
    pub packet : Packet
    pub here : Contains packets packet
    pub from : packet.from ≡ client_id k
    pub epoch : ℕ
    pub reads : packet.msg ≡ msg.Read epoch p
    pub work : Work m
    pub works : (client m (happens m w e) k).work ≡ Some work
    pub for_view : ReadsForView work.command

  pub record PlaysOn (w : World m) (e : EventOf m) : Type 0 where
    pub stands : (k : ℕ) (o : Oid) (q : m.ask) (at : ℕ) (a : m.answer) → Answers w e k (λ t. t.mark.what ≡ told.Asked o q at a) →
        upto m (client m (happens m w e) k) ≡ at
    pub falls : (k : ℕ) → upto m (client m (happens m w e) k) < upto m (client m w k) → Answers w e k IsHosted ⊎ MetTrimAbove (happens m w e) k
    pub gives_up : (k p : ℕ) (page : List ℕ) → (client m (happens m w e) k).work ≡ None → p < upto m (client m (happens m w e) k) →
        known m (client m (happens m w e) k) p ≡ Some (Data page) → IsOwn k page
    pub reads_on : (k p : ℕ) → ReadsNow w e k p → ((noted_of m (happens m w e) k).upto ≤ p) ⊎ MetTrimAbove (happens m w e) k
