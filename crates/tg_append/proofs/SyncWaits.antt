-- What a sync passes by.
use Rattle.std.proofs.Common.{◌≡◌, ℕ, ◌+◌, ◌-◌, ◌<◌, Bool, true, false, not, ◌||◌, ◌==◌, nat_lt, List, [], ◌∷◌, length, Option, Some, None, refl, sym, ap, subst, ◌∙◌, arith}
use Rattle.tg_base.specs.Layouts.{Layout}
use Rattle.tg_base.specs.declared.ids.NodeId.{NodeId}
use Rattle.tg_base.specs.declared.ids.Oid.{Oid}
use Rattle.tg_base.specs.declared.msg.Msg.{Msg}
use Rattle.tg_protocol.specs.Layouts.{chain_of}
use Rattle.tg_protocol.specs.Requests.{Next, Goes, Learns, Ends, awaits, asked_of, waits_for}
use Rattle.tg_protocol.specs.Replies.{Reply, IsTail, IsOldEpoch, reply}
use Rattle.tg_protocol.specs.Cells.{Place, CellJob, CellEnd, Done, Seen, Lost, Fenced, Gone, Fills, Probes, works, place_in, fill_cell, probe, cell_asks, work_asks}
use Rattle.tg_protocol.specs.Appending.{names_all, on_older, on_newer}
use Rattle.tg_protocol.specs.Syncing.{Sync, SyncWork, Checking, Settling, Probing, Answer, Confirmed, SyncTurn, settle_next, probe_next, on_tail, confirm_by, checking_feed, sync_asks, sync_feed, sync_work_asks}
use Rattle.tg_chain.specs.Turns.{fed, drawn_between}
use Rattle.tg_chain.proofs.Outs.{fill_drawn, probe_drawn}
use Rattle.tg_append.specs.AppendLaws.{cell_passes}
use Rattle.tg_append.specs.Syncs.{sync_at, checking, settling, probing, sync_fed, sync_fed_if, by_sync}
use Rattle.tg_append.specs.SyncLaws.{SyncWorkKept, HasUnits, checking_passes, sync_passes, SyncWaitsForAnswers}
use Rattle.tg_append.proofs.AppendWaits.{no_cons, job_waits, same_epoch}
use Rattle.tg_append.proofs.Cells.{fed_over}
use Rattle.tg_append.proofs.Jobs.{FillNext, ProbeNext, fill_fed_kept, probe_fed_kept}
use Rattle.tg_append.proofs.SyncKept.{ends_go, learns_go}
use Rattle.tg_append.proofs.SyncSubs.{settle_fed, probe_fed}

fill_sent : (a : Place) (n : ℕ) → drawn_between n (n + 1) (cell_asks (works a (Fills n))) ≡ [] → ⊥
unfolding work_asks
fill_sent a n h = no_cons _ _ (sym (fill_drawn a n) ∙ h)

no_units : (units : List ℕ) (a : Place) (n : ℕ) → 0 < length units → cell_asks (works a (Probes (waits_for units n))) ≡ [] → ⊥
unfolding work_asks
no_units [] a n some h = omega arith
no_units (u ∷ us) a n some h = no_cons _ _ h

probe_sent : (a : Place) (n : ℕ) → 0 < length a.chain → drawn_between n (n + length a.chain) (cell_asks (works a (Probes (waits_for a.chain n)))) ≡ [] → ⊥
probe_sent a n some h = no_units a.chain a n some (sym (probe_drawn a n) ∙ h)

probe_sent_at : (a : Place) (old n : ℕ) → n ≡ old → 0 < length a.chain → drawn_between old (n + length a.chain) (cell_asks (works a (Probes (waits_for a.chain n)))) ≡ [] → ⊥
probe_sent_at a old n same some h =
    probe_sent a old some (subst (λ (k : ℕ). drawn_between old (k + length a.chain) (cell_asks (works a (Probes (waits_for a.chain k)))) ≡ []) same h)

settle_next_waits : (p : Layout) (os : List Oid) (a : Answer) (j : CellJob) (from : NodeId) (rid : ℕ) (m : Msg) (old : ℕ) (y : Next CellJob CellEnd) (t : Sync) → HasUnits p →
    (fed j from rid m old).to ≡ y → FillNext (place_in p (a.tail - 1)) y → (settle_next p (settling os a j) a y (fed j from rid m old).next).to ≡ Goes t →
    (by_sync p old (settle_next p (settling os a j) a y (fed j from rid m old).next)).outs ≡ [] →
    (not (awaits (cell_asks j) from rid) || cell_passes j from.num (reply m)) ≡ true
unfolding sync_work_asks probe
settle_next_waits p os a j from rid m old (Goes k) t units is kept h none = job_waits j k from rid m old is none
settle_next_waits p os a j from rid m old (Learns k) t units is kept h none = absurd kept
settle_next_waits p os a j from rid m old (Ends (Done c)) t units is kept h none = absurd (ends_go _ _ h)
settle_next_waits p os a j from rid m old (Ends Seen) t units is kept h none = absurd kept
settle_next_waits p os a j from rid m old (Ends (Lost c)) t units is kept h none = absurd kept
settle_next_waits p os a j from rid m old (Ends (Fenced u e)) t units is kept h none = absurd (learns_go _ _ h)
settle_next_waits p os a j from rid m old (Ends (Gone g)) t units is kept h none =
    absurd (probe_sent_at (place_in p (a.tail - 1)) old _ (fed_over j from rid m old (Gone g) is) (units.some (a.tail - 1)) none)

probe_next_waits : (p : Layout) (os : List Oid) (a : Answer) (j : CellJob) (from : NodeId) (rid : ℕ) (m : Msg) (old : ℕ) (y : Next CellJob CellEnd) (t : Sync) →
    (fed j from rid m old).to ≡ y → ProbeNext (place_in p (a.tail - 1)) y → (probe_next (probing os a j) a y (fed j from rid m old).next).to ≡ Goes t →
    (by_sync p old (probe_next (probing os a j) a y (fed j from rid m old).next)).outs ≡ [] →
    (not (awaits (cell_asks j) from rid) || cell_passes j from.num (reply m)) ≡ true
unfolding sync_work_asks
probe_next_waits p os a j from rid m old (Goes k) t is kept h none = job_waits j k from rid m old is none
probe_next_waits p os a j from rid m old (Learns k) t is kept h none = absurd kept
probe_next_waits p os a j from rid m old (Ends (Done c)) t is kept h none = absurd kept
probe_next_waits p os a j from rid m old (Ends Seen) t is kept h none = absurd (ends_go _ _ h)
probe_next_waits p os a j from rid m old (Ends (Lost c)) t is kept h none = absurd kept
probe_next_waits p os a j from rid m old (Ends (Fenced u e)) t is kept h none = absurd (learns_go _ _ h)
probe_next_waits p os a j from rid m old (Ends (Gone g)) t is kept h none = absurd kept

confirm_waits : (b : Bool) (p : Layout) (os : List Oid) (r : ℕ) (a : Answer) (old : ℕ) → HasUnits p → (by_sync p old (confirm_by p (checking os r) a old b)).outs ≡ [] → ⊥
unfolding fill_cell probe sync_work_asks
confirm_waits true p os r a old units none = fill_sent (place_in p (a.tail - 1)) old none
confirm_waits false p os r a old units none = probe_sent (place_in p (a.tail - 1)) old (units.some (a.tail - 1)) none

tail_waits : (b : Bool) (p : Layout) (os : List Oid) (r : ℕ) (a : Answer) (old : ℕ) → HasUnits p → (by_sync p old (on_tail p (checking os r) a old b)).outs ≡ [] → not b ≡ true
tail_waits true p os r a old units none = absurd (confirm_waits (nat_lt p.start a.tail) p os r a old units none)
tail_waits false p os r a old units none = refl

older_waits : (o : Bool) (p : Layout) (os : List Oid) (r e old : ℕ) → nat_lt p.epoch e ≡ false → nat_lt e p.epoch ≡ o →
    (by_sync p old (on_older {E = Confirmed} p old (checking os r) o)).outs ≡ [] → (e == p.epoch) ≡ true
older_waits true p os r e old f g none = absurd (no_cons _ _ none)
older_waits false p os r e old f g none = same_epoch e p.epoch f g

newer_waits : (o : Bool) (p : Layout) (os : List Oid) (r e old : ℕ) (t : Sync) → nat_lt p.epoch e ≡ o → (on_newer {E = Confirmed} p e old (checking os r) o).to ≡ Goes t →
    (by_sync p old (on_newer {E = Confirmed} p e old (checking os r) o)).outs ≡ [] → (e == p.epoch) ≡ true
newer_waits true p os r e old t f h none = absurd (learns_go _ _ h)
newer_waits false p os r e old t f h none = older_waits (nat_lt e p.epoch) p os r e old f refl none

checking_waits : (p : Layout) (os : List Oid) (r : ℕ) (x : Reply) (old : ℕ) (t : Sync) → HasUnits p → (checking_feed p (checking os r) x old).to ≡ Goes t →
    (by_sync p old (checking_feed p (checking os r) x old)).outs ≡ [] → checking_passes p os x ≡ true
checking_waits p os r (IsTail tail ls) old t units h none = tail_waits (names_all os ls) p os r (record { tail = tail; lasts = ls }) old units none
checking_waits p os r (IsOldEpoch e) old t units h none = newer_waits (nat_lt p.epoch e) p os r e old t refl h none
checking_waits p os r _ old t units h none = refl

checking_waits_if : (o : Bool) (p : Layout) (os : List Oid) (r u : ℕ) (m : Msg) (old : ℕ) (t : Sync) → HasUnits p → (sync_fed_if o p (checking os r) u m old).to ≡ Goes t →
    (by_sync p old (sync_fed_if o p (checking os r) u m old)).outs ≡ [] → (not o || checking_passes p os (reply m)) ≡ true
unfolding sync_feed
checking_waits_if true p os r u m old t units h none = checking_waits p os r (reply m) old t units h none
checking_waits_if false p os r u m old t units h none = refl

fed_waits : (p : Layout) (os : List Oid) (w : SyncWork) (from : NodeId) (rid : ℕ) (m : Msg) (old : ℕ) (t : Sync) → SyncWorkKept p os w → HasUnits p →
    (sync_fed p (sync_at os w) from rid m old).to ≡ Goes t → (by_sync p old (sync_fed p (sync_at os w) from rid m old)).outs ≡ [] →
    (not (awaits (sync_asks p (sync_at os w)) from rid) || sync_passes p (sync_at os w) w from.num (reply m)) ≡ true
unfolding sync_work_asks
fed_waits p os (Checking r) from rid m old t kept units h none = checking_waits_if (awaits (sync_asks p (checking os r)) from rid) p os r from.num m old t units h none
fed_waits p os (Settling a j) from rid m old t kept units h none =
    let c = fed j from rid m old in
    let goes = subst (λ (z : Place). FillNext z c.to) kept.2 (fill_fed_kept j from rid m old kept.3) in
    let turned = settle_fed p os a j from rid m old in
    settle_next_waits p os a j from rid m old c.to t units refl goes (sym (ap (λ (z : SyncTurn). z.to) turned) ∙ h) (sym (ap (λ (z : SyncTurn). (by_sync p old z).outs) turned) ∙ none)
fed_waits p os (Probing a j) from rid m old t kept units h none =
    let c = fed j from rid m old in
    let goes = subst (λ (z : Place). ProbeNext z c.to) kept.1 (probe_fed_kept j from rid m old kept.2) in
    let turned = probe_fed p os a j from rid m old in
    probe_next_waits p os a j from rid m old c.to t refl goes (sym (ap (λ (z : SyncTurn). z.to) turned) ∙ h) (sym (ap (λ (z : SyncTurn). (by_sync p old z).outs) turned) ∙ none)

pub sync_waits_for_answers : SyncWaitsForAnswers
sync_waits_for_answers p s from rid m next t kept units h none = fed_waits p s.oids s.work from rid m next t kept units h none
