-- On which answers a sync ends and pauses.
use Rattle.std.proofs.Common.{◌≡◌, ℕ, ◌-◌, ◌<◌, Bool, true, false, nat_lt, List, Option, Some, None, refl, sym, ap, subst, ◌∙◌}
use Rattle.std.proofs.lemmas.Bool.{ltb-true}
use Rattle.tg_base.specs.Layouts.{Layout}
use Rattle.tg_base.specs.declared.ids.NodeId.{NodeId}
use Rattle.tg_base.specs.declared.ids.Oid.{Oid}
use Rattle.tg_base.specs.declared.msg.Msg.{Msg}
use Rattle.tg_protocol.specs.Requests.{Next, Goes, Learns, Ends, awaits}
use Rattle.tg_protocol.specs.Replies.{Reply, IsTail, IsOldEpoch, reply}
use Rattle.tg_protocol.specs.Cells.{Place, CellJob, CellEnd, Done, Seen, Lost, Fenced, Gone, place_in, fill_cell, probe, cell_asks}
use Rattle.tg_protocol.specs.Appending.{names_all, on_older, on_newer}
use Rattle.tg_protocol.specs.Syncing.{Sync, SyncWork, Checking, Settling, Probing, Answer, Confirmed, SyncTurn, confirmed, settle_next, probe_next, on_tail, confirm_by, checking_feed, sync_asks, sync_feed, sync_work_asks}
use Rattle.tg_chain.specs.Turns.{fed}
use Rattle.tg_chain.specs.Laws.{EndsBy}
use Rattle.tg_chain.proofs.Steps.{ends_by_answers}
use Rattle.tg_append.specs.AppendLaws.{ToldAbove, epoch_told}
use Rattle.tg_append.specs.Syncs.{sync_at, checking, settling, probing, sync_fed, sync_fed_if}
use Rattle.tg_append.specs.SyncLaws.{SyncWorkKept, SyncEndsBy, SyncEndsByAnswers, SyncPausesByAnswers}
use Rattle.tg_append.proofs.AppendEnds.{Ended, fence_told}
use Rattle.tg_append.proofs.Jobs.{FillNext, ProbeNext, fill_fed_kept, probe_fed_kept}
use Rattle.tg_append.proofs.SyncSubs.{settle_fed, probe_fed}

ends_goes : (s : Sync) (e : Confirmed) → ◌≡◌ {A = Next Sync Confirmed} (Goes s) (Ends e) → ⊥
ends_goes s e h = cc

ends_learns : (s : Sync) (e : Confirmed) → ◌≡◌ {A = Next Sync Confirmed} (Learns s) (Ends e) → ⊥
ends_learns s e h = cc

same_end : (e f : Confirmed) → ◌≡◌ {A = Next Sync Confirmed} (Ends e) (Ends f) → e ≡ f
same_end e f h = cc

-- ---- ends

settle_next_ends : (b : Bool) (p : Layout) (os : List Oid) (a : Answer) (j : CellJob) (y : Next CellJob CellEnd) (n u : ℕ) (x : Reply) (e : Confirmed) →
    FillNext (place_in p (a.tail - 1)) y → Ended b j u x y → (settle_next p (settling os a j) a y n).to ≡ Ends e → (b ≡ true) × SyncEndsBy (Settling a j) u x e
unfolding probe
settle_next_ends b p os a j (Goes k) n u x e kept ended h = absurd (ends_goes _ _ h)
settle_next_ends b p os a j (Learns k) n u x e kept ended h = absurd kept
settle_next_ends b p os a j (Ends (Done c)) n u x e kept ended h =
    let by = ended (Done c) refl in
    subst (λ (z : Confirmed). (b ≡ true) × SyncEndsBy (Settling a j) u x z) (same_end (confirmed a (Some (a.tail - 1, c))) e h) (by.0, (refl, refl, (refl, by.1)))
settle_next_ends b p os a j (Ends Seen) n u x e kept ended h = absurd kept
settle_next_ends b p os a j (Ends (Lost c)) n u x e kept ended h = absurd kept
settle_next_ends b p os a j (Ends (Fenced v f)) n u x e kept ended h = absurd (ends_learns _ _ h)
settle_next_ends b p os a j (Ends (Gone g)) n u x e kept ended h = absurd (ends_goes _ _ h)

probe_next_ends : (b : Bool) (p : Layout) (os : List Oid) (a : Answer) (j : CellJob) (y : Next CellJob CellEnd) (n u : ℕ) (x : Reply) (e : Confirmed) →
    ProbeNext (place_in p (a.tail - 1)) y → Ended b j u x y → (probe_next (probing os a j) a y n).to ≡ Ends e → (b ≡ true) × SyncEndsBy (Probing a j) u x e
probe_next_ends b p os a j (Goes k) n u x e kept ended h = absurd (ends_goes _ _ h)
probe_next_ends b p os a j (Learns k) n u x e kept ended h = absurd kept
probe_next_ends b p os a j (Ends (Done c)) n u x e kept ended h = absurd kept
probe_next_ends b p os a j (Ends Seen) n u x e kept ended h =
    let by = ended Seen refl in
    subst (λ (z : Confirmed). (b ≡ true) × SyncEndsBy (Probing a j) u x z) (same_end (confirmed a None) e h) (by.0, (refl, refl, refl, by.1))
probe_next_ends b p os a j (Ends (Lost c)) n u x e kept ended h = absurd kept
probe_next_ends b p os a j (Ends (Fenced v f)) n u x e kept ended h = absurd (ends_learns _ _ h)
probe_next_ends b p os a j (Ends (Gone g)) n u x e kept ended h = absurd kept

confirm_ends : (b : Bool) (p : Layout) (os : List Oid) (r : ℕ) (a : Answer) (n : ℕ) (e : Confirmed) → (confirm_by p (checking os r) a n b).to ≡ Ends e → ⊥
unfolding fill_cell probe
confirm_ends true p os r a n e h = ends_goes _ _ h
confirm_ends false p os r a n e h = ends_goes _ _ h

tail_ends : (b : Bool) (p : Layout) (os : List Oid) (r : ℕ) (a : Answer) (n : ℕ) (e : Confirmed) → (on_tail p (checking os r) a n b).to ≡ Ends e → ⊥
tail_ends true p os r a n e h = confirm_ends (nat_lt p.start a.tail) p os r a n e h
tail_ends false p os r a n e h = ends_goes _ _ h

older_ends : (b : Bool) (p : Layout) (os : List Oid) (r n : ℕ) (e : Confirmed) → (on_older {E = Confirmed} p n (checking os r) b).to ≡ Ends e → ⊥
older_ends true p os r n e h = ends_goes _ _ h
older_ends false p os r n e h = ends_goes _ _ h

newer_ends : (b : Bool) (p : Layout) (os : List Oid) (r f n : ℕ) (e : Confirmed) → (on_newer {E = Confirmed} p f n (checking os r) b).to ≡ Ends e → ⊥
newer_ends true p os r f n e h = ends_learns _ _ h
newer_ends false p os r f n e h = older_ends (nat_lt f p.epoch) p os r n e h

checking_ends : (p : Layout) (os : List Oid) (r : ℕ) (x : Reply) (n : ℕ) (e : Confirmed) → (checking_feed p (checking os r) x n).to ≡ Ends e → ⊥
checking_ends p os r (IsTail t ls) n e h = tail_ends (names_all os ls) p os r (record { tail = t; lasts = ls }) n e h
checking_ends p os r (IsOldEpoch f) n e h = newer_ends (nat_lt p.epoch f) p os r f n e h
checking_ends p os r _ n e h = ends_goes _ _ h

checking_ends_if : (b : Bool) (p : Layout) (os : List Oid) (r u : ℕ) (m : Msg) (n : ℕ) (e : Confirmed) → (sync_fed_if b p (checking os r) u m n).to ≡ Ends e → ⊥
unfolding sync_feed
checking_ends_if true p os r u m n e h = checking_ends p os r (reply m) n e h
checking_ends_if false p os r u m n e h = ends_goes _ _ h

fed_ends : (p : Layout) (os : List Oid) (w : SyncWork) (from : NodeId) (rid : ℕ) (m : Msg) (n : ℕ) (e : Confirmed) → SyncWorkKept p os w →
    (sync_fed p (sync_at os w) from rid m n).to ≡ Ends e → (awaits (sync_asks p (sync_at os w)) from rid ≡ true) × SyncEndsBy w from.num (reply m) e
unfolding sync_work_asks
fed_ends p os (Checking r) from rid m n e kept h = absurd (checking_ends_if (awaits (sync_asks p (checking os r)) from rid) p os r from.num m n e h)
fed_ends p os (Settling a j) from rid m n e kept h =
    let c = fed j from rid m n in
    let goes = subst (λ (z : Place). FillNext z c.to) kept.2 (fill_fed_kept j from rid m n kept.3) in
    settle_next_ends (awaits (cell_asks j) from rid) p os a j c.to c.next from.num (reply m) e goes (λ f g. ends_by_answers j from rid m n f g)
    (sym (ap (λ (z : SyncTurn). z.to) (settle_fed p os a j from rid m n)) ∙ h)
fed_ends p os (Probing a j) from rid m n e kept h =
    let c = fed j from rid m n in
    let goes = subst (λ (z : Place). ProbeNext z c.to) kept.1 (probe_fed_kept j from rid m n kept.2) in
    probe_next_ends (awaits (cell_asks j) from rid) p os a j c.to c.next from.num (reply m) e goes (λ f g. ends_by_answers j from rid m n f g)
    (sym (ap (λ (z : SyncTurn). z.to) (probe_fed p os a j from rid m n)) ∙ h)

pub sync_ends_by_answers : SyncEndsByAnswers
sync_ends_by_answers p s from rid m next e kept h = fed_ends p s.oids s.work from rid m next e kept h

-- ---- pauses

learns_goes : (s t : Sync) → ◌≡◌ {A = Next Sync Confirmed} (Goes s) (Learns t) → ⊥
learns_goes s t h = cc

learns_ends : (e : Confirmed) (t : Sync) → ◌≡◌ {A = Next Sync Confirmed} (Ends e) (Learns t) → ⊥
learns_ends e t h = cc

settle_next_pauses : (b : Bool) (p : Layout) (os : List Oid) (a : Answer) (j : CellJob) (y : Next CellJob CellEnd) (n u : ℕ) (x : Reply) (t : Sync) →
    j.place.epoch ≡ p.epoch → FillNext (place_in p (a.tail - 1)) y → Ended b j u x y → (settle_next p (settling os a j) a y n).to ≡ Learns t →
    (b ≡ true) × ToldAbove p.epoch (epoch_told x)
unfolding probe
settle_next_pauses b p os a j (Goes k) n u x t same kept ended h = absurd (learns_goes _ _ h)
settle_next_pauses b p os a j (Learns k) n u x t same kept ended h = absurd kept
settle_next_pauses b p os a j (Ends (Done c)) n u x t same kept ended h = absurd (learns_ends _ _ h)
settle_next_pauses b p os a j (Ends Seen) n u x t same kept ended h = absurd kept
settle_next_pauses b p os a j (Ends (Lost c)) n u x t same kept ended h = absurd kept
settle_next_pauses b p os a j (Ends (Fenced v f)) n u x t same kept ended h =
    let by = ended (Fenced v f) refl in
    (by.0, fence_told j u v f p.epoch x same by.1)
settle_next_pauses b p os a j (Ends (Gone g)) n u x t same kept ended h = absurd (learns_goes _ _ h)

probe_next_pauses : (b : Bool) (p : Layout) (os : List Oid) (a : Answer) (j : CellJob) (y : Next CellJob CellEnd) (n u : ℕ) (x : Reply) (t : Sync) →
    j.place.epoch ≡ p.epoch → ProbeNext (place_in p (a.tail - 1)) y → Ended b j u x y → (probe_next (probing os a j) a y n).to ≡ Learns t →
    (b ≡ true) × ToldAbove p.epoch (epoch_told x)
probe_next_pauses b p os a j (Goes k) n u x t same kept ended h = absurd (learns_goes _ _ h)
probe_next_pauses b p os a j (Learns k) n u x t same kept ended h = absurd kept
probe_next_pauses b p os a j (Ends (Done c)) n u x t same kept ended h = absurd kept
probe_next_pauses b p os a j (Ends Seen) n u x t same kept ended h = absurd (learns_ends _ _ h)
probe_next_pauses b p os a j (Ends (Lost c)) n u x t same kept ended h = absurd kept
probe_next_pauses b p os a j (Ends (Fenced v f)) n u x t same kept ended h =
    let by = ended (Fenced v f) refl in
    (by.0, fence_told j u v f p.epoch x same by.1)
probe_next_pauses b p os a j (Ends (Gone g)) n u x t same kept ended h = absurd kept

confirm_pauses : (b : Bool) (p : Layout) (os : List Oid) (r : ℕ) (a : Answer) (n : ℕ) (t : Sync) → (confirm_by p (checking os r) a n b).to ≡ Learns t → ⊥
unfolding fill_cell probe
confirm_pauses true p os r a n t h = learns_goes _ _ h
confirm_pauses false p os r a n t h = learns_goes _ _ h

tail_pauses : (b : Bool) (p : Layout) (os : List Oid) (r : ℕ) (a : Answer) (n : ℕ) (t : Sync) → (on_tail p (checking os r) a n b).to ≡ Learns t → ⊥
tail_pauses true p os r a n t h = confirm_pauses (nat_lt p.start a.tail) p os r a n t h
tail_pauses false p os r a n t h = learns_goes _ _ h

older_pauses : (b : Bool) (p : Layout) (os : List Oid) (r n : ℕ) (t : Sync) → (on_older {E = Confirmed} p n (checking os r) b).to ≡ Learns t → ⊥
older_pauses true p os r n t h = learns_goes _ _ h
older_pauses false p os r n t h = learns_goes _ _ h

newer_pauses : (b : Bool) (p : Layout) (os : List Oid) (r f n : ℕ) (t : Sync) → nat_lt p.epoch f ≡ b → (on_newer {E = Confirmed} p f n (checking os r) b).to ≡ Learns t → p.epoch < f
newer_pauses true p os r f n t later h = ltb-true p.epoch f later
newer_pauses false p os r f n t later h = absurd (older_pauses (nat_lt f p.epoch) p os r n t h)

checking_pauses : (p : Layout) (os : List Oid) (r : ℕ) (x : Reply) (n : ℕ) (t : Sync) → (checking_feed p (checking os r) x n).to ≡ Learns t → ToldAbove p.epoch (epoch_told x)
checking_pauses p os r (IsTail tail ls) n t h = absurd (tail_pauses (names_all os ls) p os r (record { tail = tail; lasts = ls }) n t h)
checking_pauses p os r (IsOldEpoch f) n t h = newer_pauses (nat_lt p.epoch f) p os r f n t refl h
checking_pauses p os r _ n t h = absurd (learns_goes _ _ h)

checking_pauses_if : (b : Bool) (p : Layout) (os : List Oid) (r u : ℕ) (m : Msg) (n : ℕ) (t : Sync) → (sync_fed_if b p (checking os r) u m n).to ≡ Learns t →
    (b ≡ true) × ToldAbove p.epoch (epoch_told (reply m))
unfolding sync_feed
checking_pauses_if true p os r u m n t h = (refl, checking_pauses p os r (reply m) n t h)
checking_pauses_if false p os r u m n t h = absurd (learns_goes _ _ h)

fed_pauses : (p : Layout) (os : List Oid) (w : SyncWork) (from : NodeId) (rid : ℕ) (m : Msg) (n : ℕ) (t : Sync) → SyncWorkKept p os w →
    (sync_fed p (sync_at os w) from rid m n).to ≡ Learns t → (awaits (sync_asks p (sync_at os w)) from rid ≡ true) × ToldAbove p.epoch (epoch_told (reply m))
unfolding sync_work_asks
fed_pauses p os (Checking r) from rid m n t kept h = checking_pauses_if (awaits (sync_asks p (checking os r)) from rid) p os r from.num m n t h
fed_pauses p os (Settling a j) from rid m n t kept h =
    let c = fed j from rid m n in
    let goes = subst (λ (z : Place). FillNext z c.to) kept.2 (fill_fed_kept j from rid m n kept.3) in
    settle_next_pauses (awaits (cell_asks j) from rid) p os a j c.to c.next from.num (reply m) t (ap (λ (z : Place). z.epoch) kept.2) goes (λ f g. ends_by_answers j from rid m n f g)
    (sym (ap (λ (z : SyncTurn). z.to) (settle_fed p os a j from rid m n)) ∙ h)
fed_pauses p os (Probing a j) from rid m n t kept h =
    let c = fed j from rid m n in
    let goes = subst (λ (z : Place). ProbeNext z c.to) kept.1 (probe_fed_kept j from rid m n kept.2) in
    probe_next_pauses (awaits (cell_asks j) from rid) p os a j c.to c.next from.num (reply m) t (ap (λ (z : Place). z.epoch) kept.1) goes (λ f g. ends_by_answers j from rid m n f g)
    (sym (ap (λ (z : SyncTurn). z.to) (probe_fed p os a j from rid m n)) ∙ h)

pub sync_pauses_by_answers : SyncPausesByAnswers
sync_pauses_by_answers p s from rid m next t kept h = fed_pauses p s.oids s.work from rid m next t kept h
