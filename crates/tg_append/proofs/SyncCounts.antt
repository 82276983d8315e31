-- How many requests a sync still sends.
use Rattle.std.proofs.Common.{◌≡◌, ℕ, ◌+◌, ◌-◌, ◌≤◌, Bool, true, false, nat_lt, List, [], ◌∷◌, length, Option, Some, None, refl, sym, subst, arith}
use Rattle.tg_base.specs.Layouts.{Layout}
use Rattle.tg_base.specs.declared.ids.Oid.{Oid}
use Rattle.tg_base.specs.declared.msg.Msg.{Msg}
use Rattle.tg_base.specs.declared.packet.Packet.{Packet}
use Rattle.tg_protocol.specs.Layouts.{chain_of}
use Rattle.tg_protocol.specs.Requests.{Next, Goes, Learns, Ends, awaits}
use Rattle.tg_protocol.specs.Replies.{Reply, IsTail, IsOldEpoch, reply}
use Rattle.tg_protocol.specs.Cells.{Place, CellJob, CellWork, Puts, Gets, Fills, Copies, Probes, CellEnd, Done, Seen, Lost, Fenced, Gone, place_in, fill_cell, probe}
use Rattle.tg_protocol.specs.Appending.{names_all, on_older, on_newer}
use Rattle.tg_protocol.specs.Syncing.{Sync, SyncWork, Checking, Settling, Probing, Answer, Confirmed, SyncTurn, settle_next, probe_next, on_tail, confirm_by, checking_feed, sync_asks, sync_feed, sync_work_asks}
use Rattle.tg_chain.specs.Turns.{fed}
use Rattle.tg_chain.specs.Laws.{left, left_in, left_then}
use Rattle.tg_chain.proofs.Steps.{steps_are_few}
use Rattle.tg_append.specs.AppendLaws.{HasChainsUpTo, count_if}
use Rattle.tg_append.specs.Syncs.{sync_at, checking, settling, probing, sync_fed, sync_fed_if}
use Rattle.tg_append.specs.SyncLaws.{is_probe, SyncWorkKept, IsSyncKept, SyncNextKept, sync_left_in, sync_extra_in, sync_extra, sync_fed_next, sync_fed_all, sync_extra_all, SyncRequestsAreFew}
use Rattle.tg_append.proofs.Jobs.{FillNext, ProbeNext, fill_fed_kept, probe_fed_kept}
use Rattle.tg_append.proofs.SyncKept.{syncs_keep}
use Rattle.tg_append.proofs.SyncSubs.{settle_fed, probe_fed}

abbrev sync_left : ℕ → Next Sync Confirmed → ℕ
sync_left most (Goes s) = sync_left_in most s.work
sync_left most (Learns s) = 0
sync_left most (Ends e) = 0

probe_left_in : (a : Place) (w : CellWork) → is_probe w ≡ true → left_in a w ≡ 0
probe_left_in a (Puts r d i) h = absurd cc
probe_left_in a (Gets r) h = absurd cc
probe_left_in a (Fills r) h = absurd cc
probe_left_in a (Copies r c i) h = absurd cc
probe_left_in a (Probes ws) h = refl

-- a probe sends nothing more
probe_left : (j : CellJob) → is_probe j.work ≡ true → left j ≡ 0
probe_left j h = probe_left_in j.place j.work h

settle_next_few : (p : Layout) (most : ℕ) (os : List Oid) (a : Answer) (j : CellJob) (y : Next CellJob CellEnd) (n old : ℕ) → HasChainsUpTo p most →
    FillNext (place_in p (a.tail - 1)) y → n + left_then y ≤ old + left j →
    (settle_next p (settling os a j) a y n).next + sync_left most (settle_next p (settling os a j) a y n).to ≤ old + left j + most
unfolding probe
settle_next_few p most os a j (Goes k) n old chains kept few = omega arith
settle_next_few p most os a j (Learns k) n old chains kept few = absurd kept
settle_next_few p most os a j (Ends (Done c)) n old chains kept few = omega arith
settle_next_few p most os a j (Ends Seen) n old chains kept few = absurd kept
settle_next_few p most os a j (Ends (Lost c)) n old chains kept few = absurd kept
settle_next_few p most os a j (Ends (Fenced v e)) n old chains kept few = omega arith
settle_next_few p most os a j (Ends (Gone g)) n old chains kept few =
    let within : length (chain_of p (a.tail - 1)) ≤ most = chains.chains (a.tail - 1) in
    omega (arith, few, within)

probe_next_few : (p : Layout) (most : ℕ) (os : List Oid) (a : Answer) (j : CellJob) (y : Next CellJob CellEnd) (n old : ℕ) →
    ProbeNext (place_in p (a.tail - 1)) y → n ≤ old → (probe_next (probing os a j) a y n).next + sync_left most (probe_next (probing os a j) a y n).to ≤ old
probe_next_few p most os a j (Goes k) n old kept few = omega arith
probe_next_few p most os a j (Learns k) n old kept few = absurd kept
probe_next_few p most os a j (Ends (Done c)) n old kept few = absurd kept
probe_next_few p most os a j (Ends Seen) n old kept few = omega arith
probe_next_few p most os a j (Ends (Lost c)) n old kept few = absurd kept
probe_next_few p most os a j (Ends (Fenced v e)) n old kept few = omega arith
probe_next_few p most os a j (Ends (Gone g)) n old kept few = absurd kept

confirm_few : (b : Bool) (p : Layout) (most : ℕ) (os : List Oid) (r : ℕ) (a : Answer) (old : ℕ) → HasChainsUpTo p most →
    (confirm_by p (checking os r) a old b).next + sync_left most (confirm_by p (checking os r) a old b).to ≤ old + (most + most)
unfolding fill_cell probe
confirm_few true p most os r a old chains =
    let some : 1 ≤ most = chains.some in
    let within : length (chain_of p (a.tail - 1)) ≤ most = chains.chains (a.tail - 1) in
    omega (arith, some, within)
confirm_few false p most os r a old chains =
    let within : length (chain_of p (a.tail - 1)) ≤ most = chains.chains (a.tail - 1) in
    omega (arith, within)

tail_few : (b : Bool) (p : Layout) (most : ℕ) (os : List Oid) (r : ℕ) (a : Answer) (old : ℕ) → HasChainsUpTo p most →
    (on_tail p (checking os r) a old b).next + sync_left most (on_tail p (checking os r) a old b).to ≤ old + (most + most)
tail_few true p most os r a old chains = confirm_few (nat_lt p.start a.tail) p most os r a old chains
tail_few false p most os r a old chains = omega arith

older_few : (o : Bool) (p : Layout) (most : ℕ) (os : List Oid) (r old : ℕ) →
    (on_older {E = Confirmed} p old (checking os r) o).next + sync_left most (on_older {E = Confirmed} p old (checking os r) o).to ≤ old + (most + most) + count_if o 1
older_few true p most os r old = omega arith
older_few false p most os r old = omega arith

newer_few : (o : Bool) (p : Layout) (most : ℕ) (os : List Oid) (r e old : ℕ) →
    (on_newer {E = Confirmed} p e old (checking os r) o).next + sync_left most (on_newer {E = Confirmed} p e old (checking os r) o).to ≤ old + (most + most) + count_if (nat_lt e p.epoch) 1
newer_few true p most os r e old = omega arith
newer_few false p most os r e old = older_few (nat_lt e p.epoch) p most os r old

checking_few : (p : Layout) (most : ℕ) (os : List Oid) (r : ℕ) (x : Reply) (old : ℕ) → HasChainsUpTo p most →
    (checking_feed p (checking os r) x old).next + sync_left most (checking_feed p (checking os r) x old).to ≤ old + (most + most) + sync_extra_in p (Checking r) x
checking_few p most os r (IsTail t ls) old chains =
    let few = tail_few (names_all os ls) p most os r (record { tail = t; lasts = ls }) old chains in
    omega (arith, few)
checking_few p most os r (IsOldEpoch e) old chains = newer_few (nat_lt p.epoch e) p most os r e old
checking_few p most os r _ old chains = omega arith

checking_few_if : (b : Bool) (p : Layout) (most : ℕ) (os : List Oid) (r u : ℕ) (m : Msg) (old : ℕ) → HasChainsUpTo p most →
    (sync_fed_if b p (checking os r) u m old).next + sync_left most (sync_fed_if b p (checking os r) u m old).to ≤ old + (most + most) + count_if b (sync_extra_in p (Checking r) (reply m))
unfolding sync_feed
checking_few_if true p most os r u m old chains = checking_few p most os r (reply m) old chains
checking_few_if false p most os r u m old chains = omega arith

fed_few : (p : Layout) (most : ℕ) (os : List Oid) (w : SyncWork) (q : Packet) (old : ℕ) → HasChainsUpTo p most → SyncWorkKept p os w →
    (sync_fed p (sync_at os w) q.from q.rid q.msg old).next + sync_left most (sync_fed p (sync_at os w) q.from q.rid q.msg old).to
    ≤ old + sync_left_in most w + sync_extra p (Goes (sync_at os w)) q
fed_few p most os (Checking r) q old chains kept = checking_few_if (awaits (sync_asks p (checking os r)) q.from q.rid) p most os r q.from.num q.msg old chains
fed_few p most os (Settling a j) q old chains kept =
    let c = fed j q.from q.rid q.msg old in
    let goes = subst (λ (z : Place). FillNext z c.to) kept.2 (fill_fed_kept j q.from q.rid q.msg old kept.3) in
    let few = settle_next_few p most os a j c.to c.next old chains goes (steps_are_few j q.from q.rid q.msg old) in
    let turned : (sync_fed p (settling os a j) q.from q.rid q.msg old).next + sync_left most (sync_fed p (settling os a j) q.from q.rid q.msg old).to ≤ old + left j + most =
    subst (λ (z : SyncTurn). z.next + sync_left most z.to ≤ old + left j + most) (sym (settle_fed p os a j q.from q.rid q.msg old)) few in
    omega (arith, turned)
fed_few p most os (Probing a j) q old chains kept =
    let c = fed j q.from q.rid q.msg old in
    let goes = subst (λ (z : Place). ProbeNext z c.to) kept.1 (probe_fed_kept j q.from q.rid q.msg old kept.2) in
    let step : c.next + left_then c.to ≤ old + left j = steps_are_few j q.from q.rid q.msg old in
    let none : left j ≡ 0 = probe_left j kept.2 in
    let few = probe_next_few p most os a j c.to c.next old goes (omega (arith, step, none)) in
    let turned : (sync_fed p (probing os a j) q.from q.rid q.msg old).next + sync_left most (sync_fed p (probing os a j) q.from q.rid q.msg old).to ≤ old =
    subst (λ (z : SyncTurn). z.next + sync_left most z.to ≤ old) (sym (probe_fed p os a j q.from q.rid q.msg old)) few in
    omega (arith, turned)

-- ---- runs

abbrev RunKept : Layout → Next Sync Confirmed → Type 0
RunKept p (Goes s) = IsSyncKept p s
RunKept p (Learns s) = Unit {0}
RunKept p (Ends e) = Unit {0}

run_kept : (p : Layout) (os : List Oid) (x : Next Sync Confirmed) → SyncNextKept p os x → RunKept p x
run_kept p os (Goes s) kept = kept.1
run_kept p os (Learns s) kept = tt
run_kept p os (Ends e) kept = tt

next_kept : (p : Layout) (x : Next Sync Confirmed) (q : Packet) (old : ℕ) → RunKept p x → RunKept p (sync_fed_next p x q old).to
next_kept p (Goes s) q old kept = run_kept p s.oids (sync_fed p s q.from q.rid q.msg old).to (syncs_keep.steps p s q.from q.rid q.msg old kept)
next_kept p (Learns s) q old kept = tt
next_kept p (Ends e) q old kept = tt

next_few : (p : Layout) (most : ℕ) (x : Next Sync Confirmed) (q : Packet) (old : ℕ) → HasChainsUpTo p most → RunKept p x →
    (sync_fed_next p x q old).next + sync_left most (sync_fed_next p x q old).to ≤ old + sync_left most x + sync_extra p x q
next_few p most (Goes s) q old chains kept = fed_few p most s.oids s.work q old chains kept
next_few p most (Learns s) q old chains kept = omega arith
next_few p most (Ends e) q old chains kept = omega arith

all_few : (p : Layout) (most : ℕ) (x : Next Sync Confirmed) (qs : List Packet) (old : ℕ) → HasChainsUpTo p most → RunKept p x →
    (sync_fed_all p x qs old).next ≤ old + sync_left most x + sync_extra_all p x qs old
unfolding sync_fed_all sync_extra_all
all_few p most x [] old chains kept = omega arith
all_few p most x (q ∷ qs) old chains kept =
    let one : (sync_fed_next p x q old).next + sync_left most (sync_fed_next p x q old).to ≤ old + sync_left most x + sync_extra p x q = next_few p most x q old chains kept in
    let rest : (sync_fed_all p (sync_fed_next p x q old).to qs (sync_fed_next p x q old).next).next
    ≤ (sync_fed_next p x q old).next + sync_left most (sync_fed_next p x q old).to + sync_extra_all p (sync_fed_next p x q old).to qs (sync_fed_next p x q old).next =
    all_few p most (sync_fed_next p x q old).to qs (sync_fed_next p x q old).next chains (next_kept p x q old kept) in
    omega (arith, one, rest)

pub sync_requests_are_few : SyncRequestsAreFew
sync_requests_are_few p most s qs next chains kept = all_few p most (Goes s) qs next chains kept
