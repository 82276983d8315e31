-- What a sync keeps from step to step, and from where its answer is.
use Rattle.std.proofs.Common.{◌≡◌, ℕ, ◌-◌, ◌<◌, Bool, true, false, nat_lt, List, Option, Some, None, refl, sym, ap, subst, ◌∙◌}
use Rattle.std.proofs.lemmas.Bool.{ltb-true}
use Rattle.tg_base.specs.Layouts.{Layout}
use Rattle.tg_base.specs.declared.ids.NodeId.{NodeId}
use Rattle.tg_base.specs.declared.ids.Oid.{Oid}
use Rattle.tg_base.specs.declared.marks.StreamLink.{StreamLink}
use Rattle.tg_base.specs.declared.msg.Msg.{Msg}
use Rattle.tg_protocol.specs.Requests.{Next, Goes, Learns, Ends, awaits}
use Rattle.tg_protocol.specs.Replies.{Reply, IsTail, IsOldEpoch, reply}
use Rattle.tg_protocol.specs.Cells.{Place, CellJob, CellEnd, Done, Seen, Lost, Fenced, Gone, place_in, fill_cell, probe}
use Rattle.tg_protocol.specs.Appending.{names_all, on_older, on_newer}
use Rattle.tg_protocol.specs.Syncing.{Sync, SyncWork, Checking, Settling, Probing, Answer, Confirmed, SyncTurn, settle_next, probe_next, on_tail, confirm_by, checking_feed, sync_asks, sync_feed, sync_start}
use Rattle.tg_chain.specs.Turns.{fed}
use Rattle.tg_append.specs.Syncs.{sync_at, checking, settling, probing, sync_fed, sync_fed_if}
use Rattle.tg_append.specs.SyncLaws.{SyncWorkKept, SyncNextKept, SyncsKeep, answer_in, ToldNow, SyncIsTold}
use Rattle.tg_append.proofs.Jobs.{FillNext, ProbeNext, fill_fed_kept, probe_fed_kept}
use Rattle.tg_append.proofs.SyncSubs.{settle_fed, probe_fed}

-- ---- what is kept

settle_next_kept : (p : Layout) (os : List Oid) (a : Answer) (j : CellJob) (y : Next CellJob CellEnd) (n : ℕ) → names_all os a.lasts ≡ true → p.start < a.tail →
    FillNext (place_in p (a.tail - 1)) y → SyncNextKept p os (settle_next p (settling os a j) a y n).to
unfolding probe
settle_next_kept p os a j (Goes k) n named past h = (refl, (named, past, h.0, h.1))
settle_next_kept p os a j (Learns k) n named past h = absurd h
settle_next_kept p os a j (Ends (Done c)) n named past h = named
settle_next_kept p os a j (Ends Seen) n named past h = absurd h
settle_next_kept p os a j (Ends (Lost c)) n named past h = absurd h
settle_next_kept p os a j (Ends (Fenced u e)) n named past h = refl
settle_next_kept p os a j (Ends (Gone b)) n named past h = (refl, (named, refl, refl))

probe_next_kept : (p : Layout) (os : List Oid) (a : Answer) (j : CellJob) (y : Next CellJob CellEnd) (n : ℕ) → names_all os a.lasts ≡ true →
    ProbeNext (place_in p (a.tail - 1)) y → SyncNextKept p os (probe_next (probing os a j) a y n).to
probe_next_kept p os a j (Goes k) n named h = (refl, (named, h.0, h.1))
probe_next_kept p os a j (Learns k) n named h = absurd h
probe_next_kept p os a j (Ends (Done c)) n named h = absurd h
probe_next_kept p os a j (Ends Seen) n named h = named
probe_next_kept p os a j (Ends (Lost c)) n named h = absurd h
probe_next_kept p os a j (Ends (Fenced u e)) n named h = refl
probe_next_kept p os a j (Ends (Gone b)) n named h = absurd h

confirm_kept : (b : Bool) (p : Layout) (os : List Oid) (r : ℕ) (a : Answer) (n : ℕ) → names_all os a.lasts ≡ true → nat_lt p.start a.tail ≡ b →
    SyncNextKept p os (confirm_by p (checking os r) a n b).to
unfolding fill_cell probe
confirm_kept true p os r a n named past = (refl, (named, ltb-true p.start a.tail past, refl, refl))
confirm_kept false p os r a n named past = (refl, (named, refl, refl))

tail_kept : (b : Bool) (p : Layout) (os : List Oid) (r : ℕ) (a : Answer) (n : ℕ) → names_all os a.lasts ≡ b → SyncNextKept p os (on_tail p (checking os r) a n b).to
tail_kept true p os r a n named = confirm_kept (nat_lt p.start a.tail) p os r a n named refl
tail_kept false p os r a n named = (refl, tt)

older_kept : (b : Bool) (p : Layout) (os : List Oid) (r n : ℕ) → SyncNextKept p os (on_older {E = Confirmed} p n (checking os r) b).to
older_kept true p os r n = (refl, tt)
older_kept false p os r n = (refl, tt)

newer_kept : (b : Bool) (p : Layout) (os : List Oid) (r e n : ℕ) → SyncNextKept p os (on_newer {E = Confirmed} p e n (checking os r) b).to
newer_kept true p os r e n = refl
newer_kept false p os r e n = older_kept (nat_lt e p.epoch) p os r n

checking_kept : (p : Layout) (os : List Oid) (r : ℕ) (x : Reply) (n : ℕ) → SyncNextKept p os (checking_feed p (checking os r) x n).to
checking_kept p os r (IsTail t ls) n = tail_kept (names_all os ls) p os r (record { tail = t; lasts = ls }) n refl
checking_kept p os r (IsOldEpoch e) n = newer_kept (nat_lt p.epoch e) p os r e n
checking_kept p os r _ n = (refl, tt)

checking_kept_if : (b : Bool) (p : Layout) (os : List Oid) (r u : ℕ) (m : Msg) (n : ℕ) → SyncNextKept p os (sync_fed_if b p (checking os r) u m n).to
unfolding sync_feed
checking_kept_if true p os r u m n = checking_kept p os r (reply m) n
checking_kept_if false p os r u m n = (refl, tt)

fed_kept : (p : Layout) (os : List Oid) (w : SyncWork) (from : NodeId) (rid : ℕ) (m : Msg) (n : ℕ) → SyncWorkKept p os w →
    SyncNextKept p os (sync_fed p (sync_at os w) from rid m n).to
fed_kept p os (Checking r) from rid m n h = checking_kept_if (awaits (sync_asks p (checking os r)) from rid) p os r from.num m n
fed_kept p os (Settling a j) from rid m n h =
    let c = fed j from rid m n in
    let kept = subst (λ (z : Place). FillNext z c.to) h.2 (fill_fed_kept j from rid m n h.3) in
    subst (λ (z : SyncTurn). SyncNextKept p os z.to) (sym (settle_fed p os a j from rid m n)) (settle_next_kept p os a j c.to c.next h.0 h.1 kept)
fed_kept p os (Probing a j) from rid m n h =
    let c = fed j from rid m n in
    let kept = subst (λ (z : Place). ProbeNext z c.to) h.1 (probe_fed_kept j from rid m n h.2) in
    subst (λ (z : SyncTurn). SyncNextKept p os z.to) (sym (probe_fed p os a j from rid m n)) (probe_next_kept p os a j c.to c.next h.0 kept)

start_kept : (p : Layout) (os : List Oid) (n : ℕ) → SyncNextKept p os (sync_start os n).to
unfolding sync_start
start_kept p os n = (refl, tt)

pub syncs_keep : SyncsKeep
syncs_keep = record { starts = start_kept; steps = λ p s from rid m next h. fed_kept p s.oids s.work from rid m next h }

-- ---- from where the answer is

same_sync : (s t : Sync) → ◌≡◌ {A = Next Sync Confirmed} (Goes s) (Goes t) → s ≡ t
same_sync s t h = cc

pub ends_go : (e : Confirmed) (t : Sync) → ◌≡◌ {A = Next Sync Confirmed} (Ends e) (Goes t) → ⊥
ends_go e t h = cc

pub learns_go : (s t : Sync) → ◌≡◌ {A = Next Sync Confirmed} (Learns s) (Goes t) → ⊥
learns_go s t h = cc

-- the answer stays, where it is one
answer_stays : (s t : Sync) (a : Answer) → answer_in s.work ≡ Some a → ◌≡◌ {A = Next Sync Confirmed} (Goes s) (Goes t) → answer_in t.work ≡ Some a
answer_stays s t a e h = ap (λ (z : Sync). answer_in z.work) (sym (same_sync s t h)) ∙ e

settle_next_told : (p : Layout) (os : List Oid) (a : Answer) (j : CellJob) (y : Next CellJob CellEnd) (n : ℕ) (t : Sync) →
    (settle_next p (settling os a j) a y n).to ≡ Goes t → answer_in t.work ≡ Some a
unfolding probe
settle_next_told p os a j (Goes k) n t h = answer_stays _ t a refl h
settle_next_told p os a j (Learns k) n t h = absurd (learns_go _ _ h)
settle_next_told p os a j (Ends (Done c)) n t h = absurd (ends_go _ _ h)
settle_next_told p os a j (Ends Seen) n t h = answer_stays _ t a refl h
settle_next_told p os a j (Ends (Lost c)) n t h = answer_stays _ t a refl h
settle_next_told p os a j (Ends (Fenced u e)) n t h = absurd (learns_go _ _ h)
settle_next_told p os a j (Ends (Gone b)) n t h = answer_stays _ t a refl h

probe_next_told : (os : List Oid) (a : Answer) (j : CellJob) (y : Next CellJob CellEnd) (n : ℕ) (t : Sync) →
    (probe_next (probing os a j) a y n).to ≡ Goes t → answer_in t.work ≡ Some a
probe_next_told os a j (Goes k) n t h = answer_stays _ t a refl h
probe_next_told os a j (Learns k) n t h = absurd (learns_go _ _ h)
probe_next_told os a j (Ends (Done c)) n t h = answer_stays _ t a refl h
probe_next_told os a j (Ends Seen) n t h = absurd (ends_go _ _ h)
probe_next_told os a j (Ends (Lost c)) n t h = answer_stays _ t a refl h
probe_next_told os a j (Ends (Fenced u e)) n t h = absurd (learns_go _ _ h)
probe_next_told os a j (Ends (Gone b)) n t h = answer_stays _ t a refl h

-- from none to this answer
told_now : (b : Bool) (s t : Sync) (x : Reply) → ToldNow b None (answer_in s.work) x → ◌≡◌ {A = Next Sync Confirmed} (Goes s) (Goes t) → ToldNow b None (answer_in t.work) x
told_now b s t x told h = subst (λ (z : Sync). ToldNow b None (answer_in z.work) x) (same_sync s t h) told

confirm_told : (b : Bool) (p : Layout) (os : List Oid) (r : ℕ) (a : Answer) (n : ℕ) (t : Sync) → (confirm_by p (checking os r) a n b).to ≡ Goes t →
    ToldNow true None (answer_in t.work) (IsTail a.tail a.lasts)
unfolding fill_cell probe
confirm_told true p os r a n t h = told_now true _ t (IsTail a.tail a.lasts) (refl, refl) h
confirm_told false p os r a n t h = told_now true _ t (IsTail a.tail a.lasts) (refl, refl) h

tail_told : (b : Bool) (p : Layout) (os : List Oid) (r : ℕ) (a : Answer) (n : ℕ) (t : Sync) → (on_tail p (checking os r) a n b).to ≡ Goes t →
    ToldNow true None (answer_in t.work) (IsTail a.tail a.lasts)
tail_told true p os r a n t h = confirm_told (nat_lt p.start a.tail) p os r a n t h
tail_told false p os r a n t h = told_now true _ t (IsTail a.tail a.lasts) refl h

older_told : (b : Bool) (p : Layout) (os : List Oid) (r n : ℕ) (x : Reply) (t : Sync) → (on_older {E = Confirmed} p n (checking os r) b).to ≡ Goes t → ToldNow true None (answer_in t.work) x
older_told true p os r n x t h = told_now true _ t x refl h
older_told false p os r n x t h = told_now true _ t x refl h

newer_told : (b : Bool) (p : Layout) (os : List Oid) (r e n : ℕ) (x : Reply) (t : Sync) → (on_newer {E = Confirmed} p e n (checking os r) b).to ≡ Goes t → ToldNow true None (answer_in t.work) x
newer_told true p os r e n x t h = absurd (learns_go _ _ h)
newer_told false p os r e n x t h = older_told (nat_lt e p.epoch) p os r n x t h

checking_told : (p : Layout) (os : List Oid) (r : ℕ) (x : Reply) (n : ℕ) (t : Sync) → (checking_feed p (checking os r) x n).to ≡ Goes t → ToldNow true None (answer_in t.work) x
checking_told p os r (IsTail tail ls) n t h = tail_told (names_all os ls) p os r (record { tail = tail; lasts = ls }) n t h
checking_told p os r (IsOldEpoch e) n t h = newer_told (nat_lt p.epoch e) p os r e n (IsOldEpoch e) t h
checking_told p os r x n t h = told_now true _ t x refl h

checking_told_if : (b : Bool) (p : Layout) (os : List Oid) (r u : ℕ) (m : Msg) (n : ℕ) (t : Sync) → (sync_fed_if b p (checking os r) u m n).to ≡ Goes t →
    ToldNow b None (answer_in t.work) (reply m)
unfolding sync_feed
checking_told_if true p os r u m n t h = checking_told p os r (reply m) n t h
checking_told_if false p os r u m n t h = told_now false _ t (reply m) refl h

fed_told : (p : Layout) (os : List Oid) (w : SyncWork) (from : NodeId) (rid : ℕ) (m : Msg) (n : ℕ) (t : Sync) →
    (sync_fed p (sync_at os w) from rid m n).to ≡ Goes t → ToldNow (awaits (sync_asks p (sync_at os w)) from rid) (answer_in w) (answer_in t.work) (reply m)
fed_told p os (Checking r) from rid m n t h = checking_told_if (awaits (sync_asks p (checking os r)) from rid) p os r from.num m n t h
fed_told p os (Settling a j) from rid m n t h =
    let c = fed j from rid m n in
    settle_next_told p os a j c.to c.next t (sym (ap (λ (z : SyncTurn). z.to) (settle_fed p os a j from rid m n)) ∙ h)
fed_told p os (Probing a j) from rid m n t h =
    let c = fed j from rid m n in
    probe_next_told os a j c.to c.next t (sym (ap (λ (z : SyncTurn). z.to) (probe_fed p os a j from rid m n)) ∙ h)

pub sync_is_told : SyncIsTold
sync_is_told p s from rid m next t h = fed_told p s.oids s.work from rid m next t h
