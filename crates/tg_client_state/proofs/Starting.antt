-- Machines that have begun.
use Rattle.std.proofs.Common.{◌≡◌, ℕ, false, List, [], Option, Some, None, sym, ap, ◌∙◌, subst}
use Rattle.std.specs.Prelude.{◌==◌}
use Rattle.tg_base.specs.declared.ids.Oid.{Oid}
use Rattle.tg_base.specs.declared.packet.Out.{Out}
use Rattle.tg_base.specs.declared.packet.Rids.{Rids}
use Rattle.tg_base.specs.Layouts.{Layout}
use Rattle.tg_entry.specs.declared.entry.Entry.{Entry}
use Rattle.tg_kind.specs.Meaning.{Meaning}
use Rattle.tg_model.specs.Kinds.{NoteOf}
use Rattle.tg_protocol.specs.Requests.{drawn_from, Goes, turn}
use Rattle.tg_protocol.specs.Appending.{Append, AppendEnd, AppendTurn, Token, append_asks, append_start}
use Rattle.tg_protocol.specs.Syncing.{Sync, SyncTurn, Answer, Confirmed, sync_asks, sync_start}
use Rattle.tg_protocol.specs.Trimming.{Trims, TrimTurn, Trimmed, trim_asks, trim_start}
use Rattle.tg_protocol.specs.Clients as told
use Rattle.tg_protocol.specs.ClientSteps.{task_asks}
use Rattle.tg_protocol.specs.Answers.{holds, append_begun, appends, sync_begun, syncs, trim_begun, trims_if}
use Rattle.tg_append.specs.SyncLaws.{answer_in}
use Rattle.tg_client_cells.specs.Known.{Knowledge}
use Rattle.tg_client_state.specs.Numbers.{BeginsNumbers}
use Rattle.tg_client_state.specs.Near.{AppendThenNear, SyncThenNear, NearAnswer, NearToken}
use Rattle.tg_client_state.proofs.Appends.{append_numbers}
use Rattle.tg_client_state.proofs.Syncs.{sync_numbers}
use Rattle.tg_client_state.proofs.Trims.{trim_numbers}
use Rattle.tg_client_state.proofs.Nears.{append_stays_near, sync_stays_near}
use Rattle.tg_client_state.specs.Tasks as tasks
use Rattle.tg_client_state.specs.Tasks.{PurposeOf, JobOf, KeepsJob}
use Rattle.tg_client_state.specs.declared.task.Task.TheVariants as task
use Rattle.tg_client_state.specs.States.{IsBegun}

module _ (m : Meaning) where
  near-token : (t : Option Token) → NearToken t → tasks.NearToken m t
  near-token None h = tt
  near-token (Some t) h = h

  near-answer : (a : Option Answer) → NearAnswer a → tasks.NearAnswer m a
  near-answer None h = tt
  near-answer (Some a) h = h

  -- An append.

  pub append_begins : (k : Knowledge) (p : Layout) (d : Entry) (n : ℕ) (rids : Rids) (a : Append) (x : PurposeOf m) (sends : List Out) →
      append_start p d n ≡ turn rids.next (Goes a) → sends ≡ drawn_from n (append_asks p a) → IsBegun m k p n (record { machine = task.Append a x; sends = sends; rids = rids })
  unfolding task_asks
  append_begins k p d n rids a x sends he hs =
      let b : BeginsNumbers (append_asks p) n (turn {E = AppendEnd} rids.next (Goes a)) = subst (λ (t : AppendTurn). BeginsNumbers (append_asks p) n t) he (append_numbers.start p d n) in
      let near : NearToken a.token = subst (λ (t : AppendTurn). AppendThenNear t.to) he (append_stays_near.start p d n) in
      record { sends = hs; fresh = b.fresh; drawn = b.fits.drawn; fit = near-token a.token near }

  pub appends_by : (c : told.Client m) (w : told.Work m) (d : Entry) (x : told.Purpose m) (notes : List (NoteOf m)) (next : ℕ) (a : Append) →
      append_start c.stand d c.next ≡ turn next (Goes a) → appends m c w d x notes ≡ holds m c w (told.Appending a x) next notes
  unfolding appends
  appends_by c w d x notes next a he = ap (append_begun m c w x notes) he

  -- A sync.

  pub sync_begins : (k : Knowledge) (p : Layout) (os : List Oid) (n : ℕ) (rids : Rids) (s : Sync) (sends : List Out) →
      sync_start os n ≡ turn rids.next (Goes s) → sends ≡ drawn_from n (sync_asks p s) → IsBegun m k p n (record { machine = task.Sync s; sends = sends; rids = rids })
  unfolding task_asks
  sync_begins k p os n rids s sends he hs =
      let b : BeginsNumbers (sync_asks p) n (turn {E = Confirmed} rids.next (Goes s)) = subst (λ (t : SyncTurn). BeginsNumbers (sync_asks p) n t) he (sync_numbers.start p os n) in
      let near : NearAnswer (answer_in s.work) = subst (λ (t : SyncTurn). SyncThenNear t.to) he (sync_stays_near.start os n) in
      record { sends = hs; fresh = b.fresh; drawn = b.fits.drawn; fit = near-answer (answer_in s.work) near }

  -- the work of a command whose sync begins over these streams
  abbrev pub over_streams : told.Work m → List Oid → told.Work m
  over_streams w os = record w { oids = os; gone_before = w.gone; trims = []; found = [] }

  abbrev over-job : List Oid → told.Work m → told.Work m
  over-job os w = over_streams w os

  pub over : (j k : JobOf m) (w : told.Work m) (os : List Oid) → k ≡ record j { oids = os; gone_before = j.gone; trims = []; found = [] } → KeepsJob m j w → KeepsJob m k (over_streams w os)
  over j k w os hk hj = subst (λ (i : JobOf m). KeepsJob m i (over_streams w os)) (sym hk) (ap (over-job os) hj)

  pub syncs_by : (c : told.Client m) (w : told.Work m) (os : List Oid) (next : ℕ) (s : Sync) →
      sync_start os c.next ≡ turn next (Goes s) → syncs m c w os ≡ holds m c (over_streams w os) (told.Syncing s) next []
  unfolding syncs
  syncs_by c w os next s he = ap (sync_begun m c (over_streams w os)) he

  -- A trim.

  pub trim_begins : (k : Knowledge) (p : Layout) (below n : ℕ) (rids : Rids) (t : Trims) (sends : List Out) →
      trim_start p below n ≡ turn rids.next (Goes t) → sends ≡ drawn_from n (trim_asks p t) → IsBegun m k p n (record { machine = task.Trim t; sends = sends; rids = rids })
  unfolding task_asks
  trim_begins k p below n rids t sends he hs =
      let b : BeginsNumbers (trim_asks p) n (turn {E = Trimmed} rids.next (Goes t)) = subst (λ (u : TrimTurn). BeginsNumbers (trim_asks p) n u) he (trim_numbers.start p below n) in
      record { sends = hs; fresh = b.fresh; drawn = b.fits.drawn; fit = tt }

  pub trims_by : (c : told.Client m) (w : told.Work m) (below next : ℕ) (t : Trims) → (below == 0) ≡ false →
      trim_start c.stand below c.next ≡ turn next (Goes t) → trims_if m c w below (below == 0) ≡ holds m c w (told.Trimming t) next []
  trims_by c w below next t hb he = ap (trims_if m c w below) hb ∙ ap (trim_begun m c w below) he
