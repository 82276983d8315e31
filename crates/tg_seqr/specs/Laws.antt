-- What the answers of a sequencer tell of it, whatever it was asked.
use Rattle.std.specs.Prelude.{◌≡◌, ◌⊎◌, ℕ, ◌+◌, ◌<◌, ◌≤◌, List, [], ◌∷◌, Some, None}
use Rattle.tg_base.specs.declared.ids.NodeId.{NodeId}
use Rattle.tg_base.specs.declared.msg.Msg.{Msg}
use Rattle.tg_base.specs.declared.msg.Msg.TheVariants as msg
use Rattle.tg_base.specs.declared.packet.Out.{Out}
use Rattle.tg_protocol.specs.Sequencers.{SeqrState, seqr_step}

-- It scans, and says how far it has come.
pub record IsScanning (s : SeqrState) (pos top : ℕ) : Type 0 where
  pub next : pos ≡ s.next
  pub start : top ≡ s.proj.start
  pub left : pos < top

-- All positions up to its layout's start are scanned, and no unit has fenced it.
pub record IsReady (s : SeqrState) (tail : ℕ) : Type 0 where
  pub next : tail ≡ s.next
  pub scanned : s.proj.start ≤ tail
  pub unfenced : s.fence ≡ None

-- what a sent message tells of the sequencer as the step leaves it
abbrev pub IsTrueOf : SeqrState → Msg → Type 0
IsTrueOf s (msg.Scanning next start) = IsScanning s next start
IsTrueOf s (msg.Tail tail ls) = IsReady s tail
IsTrueOf s (msg.Issued pos ls) = IsReady s (pos + 1) × (s.proj.start ≤ pos) × (pos < s.limit)
IsTrueOf s (msg.Full limit) = IsReady s s.next × (limit ≡ s.limit) × (limit ≤ s.next)
IsTrueOf s (msg.OldEpoch e) = (e ≡ s.epoch) ⊎ (s.fence ≡ Some e)
IsTrueOf s _ = Unit {0}

abbrev pub AreTrueOf : SeqrState → List Out → Type 0
AreTrueOf s [] = Unit {0}
AreTrueOf s (o ∷ os) = IsTrueOf s o.msg × AreTrueOf s os

abbrev pub AnswersAreTrue : Type 0
AnswersAreTrue = (s : SeqrState) (from : NodeId) (rid : ℕ) (m : Msg) → AreTrueOf (seqr_step s from rid m).now (seqr_step s from rid m).sends
