-- Which requests were drawn in a step.
use Rattle.std.proofs.Common.{◌≡◌, ℕ, ◌+◌, List}
use Rattle.tg_base.specs.Layouts.{Layout}
use Rattle.tg_base.specs.declared.ids.Oid.{Oid}
use Rattle.tg_entry.specs.declared.entry.Entry.{Entry}
use Rattle.tg_chain.specs.Turns.{drawn_between}
use Rattle.tg_chain.proofs.Outs.{one_drawn}
use Rattle.tg_protocol.specs.Appending.{append_asks, append_work_asks}
use Rattle.tg_protocol.specs.Syncing.{sync_asks, sync_work_asks}
use Rattle.tg_append.specs.Appends.{asking}
use Rattle.tg_append.specs.Syncs.{checking}

pub token_drawn : (p : Layout) (d : Entry) (n : ℕ) → drawn_between n (n + 1) (append_asks p (asking d n)) ≡ append_asks p (asking d n)
unfolding append_work_asks
token_drawn p d n = one_drawn _ n _

pub check_drawn : (p : Layout) (os : List Oid) (n : ℕ) → drawn_between n (n + 1) (sync_asks p (checking os n)) ≡ sync_asks p (checking os n)
unfolding sync_work_asks
check_drawn p os n = one_drawn _ n _
