-- Of a client's sync: the tail that it was told is near.
use Rattle.std.proofs.Common.{◌≡◌, ℕ, ◌≤◌, ◌^◌, List, arith}
use Rattle.tg_base.specs.Layouts.{Layout}
use Rattle.tg_base.specs.declared.ids.Oid.{Oid}
use Rattle.tg_base.specs.declared.marks.StreamLink.{StreamLink}
use Rattle.tg_base.specs.declared.msg.Msg.{Msg}
use Rattle.tg_protocol.specs.Requests.{Next, Goes, Learns, Ends}
use Rattle.tg_protocol.specs.Replies.{IsTail, reply}
use Rattle.tg_protocol.specs.Syncing.{SyncWork, Checking, Settling, Probing, Sync, Confirmed, SyncTurn, sync_start, sync_feed}
use Rattle.tg_law_steps.proofs.Machines.Syncs.{Fed, SettlesLast, ProbesLast, sync_fed}

abbrev pub TailOk : SyncWork → Type 0
TailOk (Checking r) = Unit {0}
TailOk (Settling a j) = a.tail ≤ 2 ^ 62
TailOk (Probing a j) = a.tail ≤ 2 ^ 62

abbrev pub TailNext : Next Sync Confirmed → Type 0
TailNext (Goes s) = TailOk s.work
TailNext (Learns s) = TailOk s.work
TailNext (Ends x) = x.tail ≤ 2 ^ 62

-- a tail that is far is passed by
near : (y : Msg) (t : ℕ) (ls : List StreamLink) → reply y ≡ IsTail t ls → t ≤ 2 ^ 62
unfolding reply
near y t ls h = grind arith

turn_ok : (p : Layout) (n : ℕ) (y : Msg) (next : ℕ) (s : Sync) (t : SyncTurn) → Fed p n (reply y) next s t → TailOk s.work → TailNext t.to
turn_ok p n y next _ _ (SettlesLast os r t ls is names more) k = near y t ls is
turn_ok p n y next _ _ (ProbesLast os r t ls is names less) k = near y t ls is
turn_ok p n y next _ _ came k = k

pub tail_feed_ok : (p : Layout) (s : Sync) (n : ℕ) (y : Msg) (next : ℕ) → TailOk s.work → TailNext (sync_feed p s s.work n (reply y) next).to
tail_feed_ok p s n y next k = turn_ok p n y next s _ (sync_fed p n (reply y) next s) k

pub tail_start_ok : (os : List Oid) (next : ℕ) → TailNext (sync_start os next).to
unfolding sync_start
tail_start_ok os next = tt
