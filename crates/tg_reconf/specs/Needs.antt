-- The answers and layouts on which a reconfiguration sends or keeps something: on all others it takes no memory.
use Rattle.std.specs.Prelude.{ℕ, Bool, true, false, ◌&&◌, ◌==◌}
use Rattle.tg_base.specs.Layouts.{Layout}
use Rattle.tg_base.specs.declared.msg.Msg.{Msg}
use Rattle.tg_base.specs.declared.msg.Msg.TheVariants as msg
use Rattle.tg_protocol.specs.Reconfiguring.{Reconf, ReconfWork, SealingSpare, LookingSpare, Sealing, LookingAgain, Agreeing, Telling, Starting, next_epoch, has_rid, is_own}

-- an awaited answer
abbrev pub feed_needs : ReconfWork → Msg → Bool
feed_needs (SealingSpare r) (msg.Sealed e h) = true
feed_needs (SealingSpare r) (msg.Fenced e) = true
feed_needs (LookingSpare r) msg.Whole = true
feed_needs (LookingSpare r) (msg.Fenced e) = true
feed_needs (Sealing ws acks) (msg.Sealed e h) = true
feed_needs (LookingAgain r acks) msg.Whole = true
feed_needs (Agreeing v) (msg.Promise e b a) = true
feed_needs (Agreeing v) (msg.Accepted e b) = true
feed_needs (Agreeing v) (msg.Nack e b) = true
feed_needs _ _ = false

-- a newer layout: it counts as heard, or it is the client's own
abbrev pub latest_needs : Reconf → ReconfWork → ℕ → ℕ → Layout → Bool
latest_needs r (Starting k) n rid q = false
latest_needs r (Telling ws k p) n rid q = has_rid n rid ws && (q.epoch == next_epoch r)
latest_needs r w n rid q = is_own r q
