-- A sync's turn.
use Rattle.std.proofs.Common.{◌≡◌, ◌≤◌, ℕ, List, sym, ap, subst, ◌∙◌}
use Rattle.std.specs.Prelude.{max}
use Rattle.tg_base.specs.declared.packet.Out.{Out}
use Rattle.tg_base.specs.declared.packet.Rids.{Rids}
use Rattle.tg_kind.specs.Meaning.{Meaning}
use Rattle.tg_protocol.specs.Requests.{Next, Goes, Learns}
use Rattle.tg_base.specs.declared.ids.Oid.{Oid}
use Rattle.tg_protocol.specs.Syncing.{Sync, Confirmed, SyncTurn, sync_asks}
use Rattle.tg_protocol.specs.Answers.{Moved}
use Rattle.tg_protocol.specs.Clients as told
use Rattle.tg_protocol.specs.ClientSteps.{task_asks, goes_on, learns_for, synced, sync_to, on_sync}
use Rattle.tg_chain.specs.declared.step.Step.{Step}
use Rattle.tg_chain.specs.declared.step.Next.TheVariants as given
use Rattle.tg_append.specs.declared.ends.Confirmed.{Confirmed as GivenEnd}
use Rattle.tg_append.specs.Turns.{given_to}
use Rattle.tg_append.specs.SyncLaws.{answer_in}
use Rattle.tg_append.specs.Syncs.{oids_of, confirmed_of}
use Rattle.tg_client_state.specs.Numbers.{ThenDrawn}
use Rattle.tg_client_state.specs.Near.{SyncThenNear}
use Rattle.tg_client_state.specs.Tasks.{JobOf}
use Rattle.tg_client_state.specs.declared.paused.Paused.TheVariants as left
use Rattle.tg_client_state.specs.States.{StateOf, Rest, client_of}
use Rattle.tg_client_state.specs.Moves.{Holds, Carries, Leaves}
use Rattle.tg_client_state.proofs.Turning.{ThenSent, then_sent, on_case, paused_case, over_case}
use Rattle.tg_client_state.proofs.Waiting.{met_holds, near_answer}
use Rattle.tg_client_sync.specs.Syncs.{SyncShown}

module _ (m : Meaning) where
  abbrev after : StateOf m → Rids → StateOf m
  after s rids = record s { rids = rids }

  abbrev met-by : told.Work m → ℕ → told.Work m
  met-by w gone = record w { gone = max w.gone gone }

  -- by the numbers that the call shows
  at-numbers : (P : Moved m → Type 0) (s : StateOf m) (rids : Rids) (r : Rest m) (w : told.Work m) (t : SyncTurn) (gone : ℕ) → rids.next ≡ t.next → gone ≡ t.gone →
      P (sync_to m (client_of m (after s rids) r) (met-by w gone) t.besides t.to) → P (on_sync m (client_of m s r) w t)
  at-numbers P s rids r w t gone hn hg h =
      subst (λ n. P (sync_to m (record (client_of m s r) { next = n }) (met-by w t.gone) t.besides t.to)) hn
      (subst (λ g. P (sync_to m (client_of m (after s rids) r) (met-by w g) t.besides t.to)) hg h)

  -- what the turn told
  record Told (s : StateOf m) (rids : Rids) (old : ℕ) (besides outs : List Out) (to : Next Sync Confirmed) : Type 0 where
    sent : ThenSent (sync_asks s.stand) old besides outs to
    drawn : ThenDrawn (sync_asks s.stand) rids.next to
    near : SyncThenNear to

  tells : (s : StateOf m) (rids : Rids) (old : ℕ) (step : Step Sync (List Oid) GivenEnd) (t : SyncTurn) → SyncShown old s.stand s.rids.next rids.next step t → Told s rids old t.besides step.outs t.to
  tells s rids old step t h =
      let now : rids.next ≡ t.next = ap (λ v. v.next) h.turn in
      record {
        sent = then_sent (sync_asks s.stand) old s.rids.next t.next t.besides step.outs t.to h.fits.alike h.fits.numbers.new (ap (λ v. v.outs) h.turn);
        drawn = subst (λ n. ThenDrawn (sync_asks s.stand) n t.to) (sym now) h.fits.numbers.drawn;
        near = h.near;
      }

  grown : (s : StateOf m) (rids : Rids) (old : ℕ) (step : Step Sync (List Oid) GivenEnd) (t : SyncTurn) → SyncShown old s.stand s.rids.next rids.next step t → s.rids.next ≤ rids.next
  grown s rids old step t h = let now : rids.next ≡ t.next = ap (λ v. v.next) h.turn in subst (λ n. s.rids.next ≤ n) (sym now) h.fits.numbers.grows

  goes-carried : (s : StateOf m) (rids : Rids) (old : ℕ) (besides outs : List Out) (a : Sync) → Told s rids old besides outs (Goes a) → Carries m (after s rids) (told.Syncing a) old besides outs
  unfolding task_asks
  goes-carried s rids old besides outs a h = record { sent = h.sent; drawn = h.drawn; fit = near_answer m (answer_in a.work) h.near }

  pub sync_goes : (P : Moved m → Type 0) (s : StateOf m) (j k : JobOf m) (rids : Rids) (step : Step Sync (List Oid) GivenEnd) (a : Sync) (r : Rest m) (w : told.Work m) (old : ℕ) (t : SyncTurn) →
      step.next ≡ given.Goes a → k ≡ record j { gone = max j.gone step.gone } → Holds m s j r w old → SyncShown old s.stand s.rids.next rids.next step t →
      ((besides : List Out) → Holds m (after s rids) k r (met-by w step.gone) old → Carries m (after s rids) (told.Syncing a) old besides step.outs →
      P (goes_on m (client_of m (after s rids) r) (met-by w step.gone) (told.Syncing a) besides)) →
      P (on_sync m (client_of m s r) w t)
  sync_goes P s j k rids step a r w old t is hk h sh f =
      let h' = met_holds m s j k r w old step.gone rids h (grown s rids old step t sh) hk in
      at-numbers P s rids r w t step.gone (ap (λ v. v.next) sh.turn) (ap (λ v. v.gone) sh.turn)
      (on_case oids_of (λ to. Told s rids old t.besides step.outs to → P (sync_to m (client_of m (after s rids) r) (met-by w step.gone) t.besides to)) a t.to
      (sym (ap (given_to confirmed_of) is) ∙ ap (λ v. v.to) sh.turn)
      (λ q. f t.besides h' (goes-carried s rids old t.besides step.outs a q)) (tells s rids old step t sh))

  learns-left : (s : StateOf m) (rids : Rids) (old : ℕ) (besides outs : List Out) (p : List Oid) (a : Sync) → p ≡ oids_of a → Told s rids old besides outs (Learns a) →
      Leaves m (after s rids) (left.Sync p) (told.Syncing a)
  unfolding task_asks
  learns-left s rids old besides outs p a e h = record { goes = e; drawn = h.drawn; fit = tt }

  pub sync_learns : (P : Moved m → Type 0) (s : StateOf m) (j k : JobOf m) (rids : Rids) (step : Step Sync (List Oid) GivenEnd) (p : List Oid) (r : Rest m) (w : told.Work m) (old : ℕ) (t : SyncTurn) →
      step.next ≡ given.Learns p → k ≡ record j { gone = max j.gone step.gone } → Holds m s j r w old → SyncShown old s.stand s.rids.next rids.next step t →
      ((a : told.Task m) → Holds m (after s rids) k r (met-by w step.gone) old → Leaves m (after s rids) (left.Sync p) a → P (learns_for m (client_of m (after s rids) r) (met-by w step.gone) a)) →
      P (on_sync m (client_of m s r) w t)
  sync_learns P s j k rids step p r w old t is hk h sh f =
      let h' = met_holds m s j k r w old step.gone rids h (grown s rids old step t sh) hk in
      at-numbers P s rids r w t step.gone (ap (λ v. v.next) sh.turn) (ap (λ v. v.gone) sh.turn)
      (paused_case oids_of (λ to. Told s rids old t.besides step.outs to → P (sync_to m (client_of m (after s rids) r) (met-by w step.gone) t.besides to)) p t.to
      (sym (ap (given_to confirmed_of) is) ∙ ap (λ v. v.to) sh.turn)
      (λ a e q. f (told.Syncing a) h' (learns-left s rids old t.besides step.outs p a e q)) (tells s rids old step t sh))

  pub sync_ends : (P : Moved m → Type 0) (s : StateOf m) (j k : JobOf m) (rids : Rids) (step : Step Sync (List Oid) GivenEnd) (e : GivenEnd) (r : Rest m) (w : told.Work m) (old : ℕ) (t : SyncTurn) →
      step.next ≡ given.Ends e → k ≡ record j { gone = max j.gone step.gone } → Holds m s j r w old → SyncShown old s.stand s.rids.next rids.next step t →
      (Holds m (after s rids) k r (met-by w step.gone) old → P (synced m (client_of m (after s rids) r) (met-by w step.gone) (confirmed_of e))) →
      P (on_sync m (client_of m s r) w t)
  sync_ends P s j k rids step e r w old t is hk h sh f =
      let h' = met_holds m s j k r w old step.gone rids h (grown s rids old step t sh) hk in
      at-numbers P s rids r w t step.gone (ap (λ v. v.next) sh.turn) (ap (λ v. v.gone) sh.turn)
      (over_case oids_of (λ to. P (sync_to m (client_of m (after s rids) r) (met-by w step.gone) t.besides to)) (confirmed_of e) t.to
      (sym (ap (given_to confirmed_of) is) ∙ ap (λ v. v.to) sh.turn) (f h'))
