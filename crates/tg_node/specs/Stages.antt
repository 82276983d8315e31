-- What following a text has come to.
use Rattle.std.specs.Prelude.{◌≡◌, ℕ, ◌+◌, ◌≤◌, List, [], length, Option, Some, None}
use Rattle.tg_base.specs.declared.ids.NodeId.{NodeId}
use Rattle.tg_io.specs.declared.link.Arrival.{Arrival}
use Rattle.tg_io.specs.declared.link.Sent.{Sent}
use Rattle.tg_io.specs.Acts.{Act}
use Rattle.tg_io.specs.Bytes.{Takes, TakesFront}
use Rattle.tg_io.specs.Faults.{Rose}
use Rattle.tg_io.specs.declared.status.Status.{Status}
use Rattle.tg_io.specs.declared.status.Status.TheVariants.{Done, Illegal, Words, Script as AtLine, ReadFault, WriteFault, LinkFault, Limit, NoMemory}
use Rattle.tg_base.specs.Clusters.{Header}
use Rattle.tg_node.specs.declared.nodes.Moved.{Moved}
use Rattle.tg_lines.specs.Lines.{lines}
use Rattle.tg_node_state.specs.Kept.{KeepsNode}
use Rattle.tg_any.specs.AllKinds.{all_kinds}
use Rattle.tg_node.specs.Sessions.{steps_of, datagrams_of}
use Rattle.tg_node.specs.Texts.{Seen, IsSeen, Point, session_at, answers_at, acts_at, Outcome, IsOfNode}
use Rattle.tg_node.specs.Steps.{IsSound}
use Rattle.tg_node.specs.declared.stages.Run.{Run}
use Rattle.tg_node.specs.declared.stages.Next.{Next}
use Rattle.tg_node.specs.declared.stages.Next.TheVariants.{Goes, Ends}

abbrev pub seen : Option (List Sent) → Option (List (Option Arrival)) → Option (List Act) → Option (List ℕ) → Seen
seen sent handed acts written = record { sent = sent; handed = handed; acts = acts; written = written }

-- A run has followed a text up to the lines that are left.
pub record Follows (text : List ℕ) (before now : Seen) (r : Run) (rest : List (List ℕ)) : Type 0 where
  pub point : Point text r.id
  pub left : point.rest ≡ rest
  pub header : r.cluster ≡ point.header
  pub lines : r.lines ≡ length point.deeds
  pub steps : r.node.steps ≡ steps_of r.id point.deeds
  pub received : r.node.received ≡ datagrams_of point.deeds
  pub none : r.node.replies ≡ []
  pub keeps : KeepsNode all_kinds r.node.steps r.node.own (session_at point).node
  pub seen : IsSeen (session_at point) (answers_at point) (acts_at point) before now

-- What comes of a line: the run goes on with the lines after it, or it has ended.
abbrev pub Follow : List ℕ → NodeId → Seen → Seen → List (List ℕ) → Next → Type 0
Follow text n before now more (Goes r) = (r.id ≡ n) × Follows text before now r more
Follow text n before now more (Ends status) = Outcome text n status before now

-- the replies of a line were written, or a front of them
abbrev pub IsWritten : NodeId → Header → ℕ → Moved → Option (List ℕ) → Option (List ℕ) → Next → Type 0
IsWritten n h event m before after (Goes r) =
    (m.stopped ≡ None) × (r ≡ record { id = n; cluster = h; lines = event; node = record { own = m.node.own; steps = m.node.steps; received = m.node.received; replies = [] } }) × Takes before m.node.replies after
IsWritten n h event m before after (Ends (Limit w)) = (m.stopped ≡ Some w) × Takes before m.node.replies after
IsWritten n h event m before after (Ends WriteFault) = TakesFront before m.node.replies after
IsWritten n h event m before after (Ends NoMemory) = TakesFront before m.node.replies after
IsWritten n h event m before after (Ends status) = ⊥

-- a line ends a run by none of the others
abbrev pub IsOfLine : Next → Type 0
IsOfLine (Ends Done) = ⊥
IsOfLine (Ends Words) = ⊥
IsOfLine (Ends (Illegal line clause)) = ⊥
IsOfLine (Ends ReadFault) = ⊥
IsOfLine other = Unit {0}

-- A fault that ends a run has its cause in a count that rose: of the source, the sink or the link. No count fell, and
-- that of the source rose only at its fault, or at want of memory.
pub record Causes (read_before read_now write_before write_now link_before link_now : ℕ) (status : Status) : Type 0 where
  pub read : status ≡ ReadFault → Rose read_before read_now
  pub write : status ≡ WriteFault → Rose write_before write_now
  pub link : status ≡ LinkFault → Rose link_before link_now
  pub ways : IsOfNode status
  pub read_later : read_before ≤ read_now
  pub write_later : write_before ≤ write_now
  pub link_later : link_before ≤ link_now
  pub read_still : (status ≡ ReadFault → ⊥) → (status ≡ NoMemory → ⊥) → read_now ≡ read_before
  pub write_still : (status ≡ WriteFault → ⊥) → (status ≡ NoMemory → ⊥) → write_now ≡ write_before
  pub link_still : (status ≡ LinkFault → ⊥) → (status ≡ NoMemory → ⊥) → link_now ≡ link_before

-- the same of a line, which reads nothing
pub record LineCauses (write_before write_now link_before link_now : ℕ) (x : Next) : Type 0 where
  pub write : x ≡ Ends WriteFault → Rose write_before write_now
  pub link : x ≡ Ends LinkFault → Rose link_before link_now
  pub ways : IsOfLine x
  pub write_later : write_before ≤ write_now
  pub link_later : link_before ≤ link_now
  pub write_still : (x ≡ Ends WriteFault → ⊥) → (x ≡ Ends NoMemory → ⊥) → write_now ≡ write_before
  pub link_still : (x ≡ Ends LinkFault → ⊥) → (x ≡ Ends NoMemory → ⊥) → link_now ≡ link_before

-- the line after so many is refused
abbrev pub IsRefused : ℕ → Next → Type 0
IsRefused followed (Ends (AtLine k)) = k ≡ 4 + followed
IsRefused followed other = ⊥

-- a run that goes on has followed one line more
abbrev pub IsNextLine : ℕ → Next → Type 0
IsNextLine followed (Goes r) = r.lines ≡ followed + 1
IsNextLine followed (Ends status) = Unit {0}

-- a run that goes on is sound
abbrev pub GoesSound : Next → Type 0
GoesSound (Goes r) = IsSound r.node
GoesSound (Ends status) = Unit {0}

-- From one run, what was seen and what is ahead to a later one, as far as the source tells its text.
abbrev pub StillFollows : Option (List ℕ) → Option (List ℕ) → Run → Seen → Run → Seen → Type 0
StillFollows (Some first) (Some rest) r was q now = (text : List ℕ) (before : Seen) → Follows text before was r (lines first) → (q.id ≡ r.id) × Follows text before now q (lines rest)
StillFollows (Some first) None r was q now = ⊥
StillFollows None rest r was q now = Unit {0}
