-- Requests that are refused, and those that are not.
use Rattle.std.proofs.Common.{◌≡◌, ℕ, Bool, true, false, Option, Some, None, ap}
use Rattle.tg_base.specs.declared.ids.NodeId.{NodeId}
use Rattle.tg_base.specs.declared.msg.Msg.TheVariants as msg
use Rattle.tg_protocol.specs.Sequencers.{SeqrState, SeqrTurn, own_epoch, unfenced, answers}
use Rattle.tg_seqr.specs.Scans.{refusal}

by_fence : (f x : Option ℕ) (s : SeqrState) (from : NodeId) (rid : ℕ) (t : SeqrTurn) → f ≡ x → unfenced f s from rid t ≡ unfenced x s from rid t
by_fence f x s from rid t e = ap (λ (y : Option ℕ). unfenced y s from rid t) e

pub refused : (b : Bool) (s : SeqrState) (from : NodeId) (rid e : ℕ) (t : SeqrTurn) → refusal s b ≡ Some e → own_epoch b s from rid t ≡ answers s from rid (msg.OldEpoch e)
refused true s from rid e t h = by_fence s.fence (Some e) s from rid t h
refused false s from rid e t h = let k : Some s.epoch ≡ Some e = h in let same : s.epoch ≡ e = cc in ap (λ (x : ℕ). answers s from rid (msg.OldEpoch x)) same

pub accepted : (b : Bool) (s : SeqrState) (from : NodeId) (rid : ℕ) (t : SeqrTurn) → refusal s b ≡ None → own_epoch b s from rid t ≡ t
accepted true s from rid t h = by_fence s.fence None s from rid t h
accepted false s from rid t h = let k : Some s.epoch ≡ None = h in absurd cc
