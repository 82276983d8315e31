-- A sequencer's steps, over a log that is fixed.
use Rattle.std.specs.Prelude.{◌≡◌, ℕ, ◌<◌, ◌≤◌, Bool, true, false, List, Option, Some, None, Contains}
use Rattle.tg_base.specs.Layouts.{Layout}
use Rattle.tg_base.specs.declared.ids.NodeId.{NodeId}
use Rattle.tg_base.specs.declared.ids.Oid.{Oid}
use Rattle.tg_base.specs.declared.msg.Msg.{Msg}
use Rattle.tg_base.specs.declared.msg.Msg.TheVariants as msg
use Rattle.tg_protocol.specs.Words.{cell_at}
use Rattle.tg_protocol.specs.Requests.{awaits, Next, Ends}
use Rattle.tg_protocol.specs.Replies.{reply}
use Rattle.tg_protocol.specs.Cells.{CellJob, CellEnd, Done, Gone, cell_asks, cell_feed}
use Rattle.tg_protocol.specs.Sequencers.{SeqrState, scanning, cell_streams, links_of, new_seqr, seqr_step}
use Rattle.tg_protocol.specs.Logs.{Log}
use Rattle.tg_law_walks.specs.Walks.Streams.{stands_in, IsGood}
use Rattle.tg_law_walks.specs.Walks.Lists.{backs, AreGoodLists, AreOnce, AreScanned}

-- A stream that has anything below g has something from there on and below an epoch's start. Of a unit that has trimmed below
-- g this is a premise: there lacks that trims leave a checkpoint of each object.
abbrev pub IsHeldPast : Log → ℕ → ℕ → Type 0
IsHeldPast l g start = (o : Oid) (q : ℕ) → q < g → stands_in l o q ≡ true → (p : ℕ) × (g ≤ p) × (p < start) × (stands_in l o p ≡ true)

-- by whether it scans; what it issues from a bound on, where the next epoch starts, is for nothing
abbrev pub HasLists : Log → (ℕ → ℕ) → SeqrState → Bool → Type 0
HasLists l bound s true = (g : ℕ) × AreScanned l g s.next s.lists × IsHeldPast l g s.proj.start
HasLists l bound s false = s.next ≤ bound s.epoch → AreGoodLists l s.next s.lists

pub record IsSeqr (l : Log) (bound : ℕ → ℕ) (s : SeqrState) : Type 0 where
  pub lists : HasLists l bound s (scanning s)
  pub job : (j : CellJob) → s.scan ≡ Some j → (j.place.pos ≡ s.next) × (scanning s ≡ true)

-- what the scan's cell ends with
abbrev pub ScanEndsAs : Log → SeqrState → Next CellJob CellEnd → Type 0
ScanEndsAs l s (Ends (Done c)) = (cell_at l s.next ≡ Some c) × AreOnce (cell_streams c)
ScanEndsAs l s (Ends (Gone b)) = IsHeldPast l b s.proj.start
ScanEndsAs l s x = Unit {0}

-- an answer is asked of only where the scan awaits it
abbrev pub ScanStepsAs : Log → SeqrState → Option CellJob → NodeId → ℕ → Msg → Type 0
ScanStepsAs l s None from rid x = Unit {0}
ScanStepsAs l s (Some j) from rid x = awaits (cell_asks j) from rid ≡ true → ScanEndsAs l s (cell_feed j from.num (reply x) s.rids).to

-- A token of this epoch is issued: the sequencer isn't fenced, doesn't scan, and has a position left.
pub record IsIssued (s : SeqrState) (epoch : ℕ) : Type 0 where
  pub own : epoch ≡ s.epoch
  pub unfenced : s.fence ≡ None
  pub ready : scanning s ≡ false
  pub room : s.next < s.limit

-- The log has, where the next position isn't for nothing, no entry there of another stream than it is issued to; and no
-- stream is issued it twice.
pub record IssuesAs (l : Log) (bound : ℕ → ℕ) (s : SeqrState) (os : List Oid) : Type 0 where
  pub once : AreOnce os
  pub fits : s.next < bound s.epoch → (o : Oid) → stands_in l o s.next ≡ true → Contains os o

abbrev pub StepsAs : Log → (ℕ → ℕ) → SeqrState → NodeId → ℕ → Msg → Type 0
StepsAs l bound s from rid (msg.Token e os) = IsIssued s e → IssuesAs l bound s os
StepsAs l bound s from rid (msg.Learn q) = Unit {0}
StepsAs l bound s from rid (msg.Check e os) = Unit {0}
StepsAs l bound s from rid x = ScanStepsAs l s s.scan from rid x

abbrev pub SeqrsStay : Type 0
SeqrsStay = (l : Log) (bound : ℕ → ℕ) (s : SeqrState) (from : NodeId) (rid : ℕ) (x : Msg) → IsSeqr l bound s → StepsAs l bound s from rid x → IsSeqr l bound (seqr_step s from rid x).now

abbrev pub SeqrsBegin : Type 0
SeqrsBegin = (l : Log) (bound : ℕ → ℕ) (num limit : ℕ) (first : Layout) → IsSeqr l bound (new_seqr num limit first)

-- the links that it tells of some streams, as the next position's or the tail's
abbrev pub SeqrsTell : Type 0
SeqrsTell = (l : Log) (bound : ℕ → ℕ) (s : SeqrState) (os : List Oid) (o : Oid) → IsSeqr l bound s → scanning s ≡ false → s.next ≤ bound s.epoch → Contains os o →
    IsGood l o s.next (backs o (links_of s.lists os))
