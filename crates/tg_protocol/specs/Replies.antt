-- Answers, in few words. What names a position of 2 ^ 62 or more is passed by.
use Rattle.std.specs.Prelude.{ℕ, ◌^◌, nat_le, List, Option, if◌then◌else◌}
use Rattle.tg_base.specs.Layouts.{Layout}
use Rattle.tg_base.specs.declared.cell.Cell.{Cell}
use Rattle.tg_base.specs.declared.ids.Ballot.{Ballot}
use Rattle.tg_base.specs.declared.marks.StreamLink.{StreamLink}
use Rattle.tg_base.specs.declared.msg.Msg.{Msg}
use Rattle.tg_base.specs.declared.msg.Msg.TheVariants as msg
use Rattle.tg_protocol.specs.Words.{too_far}

pub data Reply : Type 0 where
  -- of units
  IsHeld : Reply
  IsTaken : (cell : Cell) → Reply
  IsUnwritten : Reply
  IsGone : (below : ℕ) → Reply
  IsFenced : (epoch : ℕ) → Reply
  IsSealed : (epoch high : ℕ) → Reply
  IsMissing : (pos : ℕ) → Reply
  IsWhole : Reply
  -- of layout servers
  IsPromise : (epoch : ℕ) → (ballot : Ballot) → (accepted : Option (Ballot × Layout)) → Reply
  IsNack : (epoch : ℕ) → (ballot : Ballot) → Reply
  IsAccepted : (epoch : ℕ) → (ballot : Ballot) → Reply
  IsLatest : (proj : Layout) → Reply
  -- of sequencers
  IsIssued : (pos : ℕ) → (links : List StreamLink) → Reply
  IsTail : (tail : ℕ) → (links : List StreamLink) → Reply
  IsScanning : Reply
  IsOldEpoch : (epoch : ℕ) → Reply
  IsFull : (limit : ℕ) → Reply
  -- passed by
  IsOther : Reply

abbrev pub near : ℕ → Reply → Reply
near p r = if too_far p then IsOther else r

unfoldable pub reply : Msg → Reply
reply msg.Held = IsHeld
reply (msg.Taken c) = IsTaken c
reply msg.Unwritten = IsUnwritten
reply (msg.Gone b) = near b (IsGone b)
reply (msg.Fenced e) = IsFenced e
reply (msg.Sealed e h) = near h (IsSealed e h)
reply (msg.Missing p) = near p (IsMissing p)
reply msg.Whole = IsWhole
reply (msg.Promise e b a) = IsPromise e b a
reply (msg.Nack e b) = IsNack e b
reply (msg.Accepted e b) = IsAccepted e b
reply (msg.Latest q) = if nat_le (2 ^ 32) q.epoch then IsOther else IsLatest q
reply (msg.Issued p ls) = near p (IsIssued p ls)
reply (msg.Tail t ls) = near t (IsTail t ls)
reply (msg.Scanning n s) = IsScanning
reply (msg.OldEpoch e) = IsOldEpoch e
reply (msg.Full l) = IsFull l
reply _ = IsOther
