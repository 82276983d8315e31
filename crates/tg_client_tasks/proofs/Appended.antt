-- An append's turn.
use Rattle.std.proofs.Common.{◌≡◌, ◌≤◌, ℕ, List, refl, sym, ap, subst, ◌∙◌}
use Rattle.std.specs.Prelude.{max}
use Rattle.tg_base.specs.declared.packet.Out.{Out}
use Rattle.tg_base.specs.declared.packet.Rids.{Rids}
use Rattle.tg_kind.specs.Meaning.{Meaning}
use Rattle.tg_protocol.specs.Requests.{Next, Goes, Learns}
use Rattle.tg_protocol.specs.Appending.{Append, AppendEnd, AppendTurn, append_asks}
use Rattle.tg_protocol.specs.Answers.{Moved}
use Rattle.tg_protocol.specs.Clients as told
use Rattle.tg_protocol.specs.ClientSteps.{task_asks, goes_on, learns_for, append_ended, append_to, on_append}
use Rattle.tg_chain.specs.declared.step.Step.{Step}
use Rattle.tg_chain.specs.declared.step.Next.TheVariants as given
use Rattle.tg_append.specs.declared.ends.AppendEnd.{AppendEnd as GivenEnd}
use Rattle.tg_append.specs.Turns.{given_to}
use Rattle.tg_append.specs.Appends.{Paused, paused, append_end}
use Rattle.tg_client_state.specs.Numbers.{ThenDrawn}
use Rattle.tg_client_state.specs.Near.{AppendThenNear}
use Rattle.tg_client_state.specs.Tasks.{JobOf, PurposeOf, told_purpose}
use Rattle.tg_client_state.specs.declared.paused.Paused.TheVariants as left
use Rattle.tg_client_state.specs.States.{StateOf, Rest, client_of}
use Rattle.tg_client_state.specs.Moves.{Holds, Carries, Leaves}
use Rattle.tg_client_state.proofs.Turning.{ThenSent, then_sent, on_case, paused_case, over_case}
use Rattle.tg_client_state.proofs.Waiting.{met_holds, near_token}
use Rattle.tg_client_tasks.specs.Shown.{AppendShown}

module _ (m : Meaning) where
  abbrev after : StateOf m → Rids → StateOf m
  after s rids = record s { rids = rids }

  abbrev met-by : told.Work m → ℕ → told.Work m
  met-by w gone = record w { gone = max w.gone gone }

  -- by the numbers that the call shows
  at-numbers : (P : Moved m → Type 0) (s : StateOf m) (rids : Rids) (r : Rest m) (w : told.Work m) (x : told.Purpose m) (t : AppendTurn) (gone : ℕ) → rids.next ≡ t.next → gone ≡ t.gone →
      P (append_to m (client_of m (after s rids) r) (met-by w gone) x t.besides t.to) → P (on_append m (client_of m s r) w x t)
  at-numbers P s rids r w x t gone hn hg h =
      subst (λ n. P (append_to m (record (client_of m s r) { next = n }) (met-by w t.gone) x t.besides t.to)) hn
      (subst (λ g. P (append_to m (client_of m (after s rids) r) (met-by w g) x t.besides t.to)) hg h)

  -- what the turn told
  record Told (s : StateOf m) (rids : Rids) (old : ℕ) (besides outs : List Out) (to : Next Append AppendEnd) : Type 0 where
    sent : ThenSent (append_asks s.stand) old besides outs to
    drawn : ThenDrawn (append_asks s.stand) rids.next to
    near : AppendThenNear to

  tells : (s : StateOf m) (rids : Rids) (old : ℕ) (step : Step Append Paused GivenEnd) (t : AppendTurn) → AppendShown old s.stand s.rids.next rids.next step t → Told s rids old t.besides step.outs t.to
  tells s rids old step t h =
      let now : rids.next ≡ t.next = ap (λ v. v.next) h.turn in
      record {
        sent = then_sent (append_asks s.stand) old s.rids.next t.next t.besides step.outs t.to h.fits.alike h.fits.numbers.new (ap (λ v. v.outs) h.turn);
        drawn = subst (λ n. ThenDrawn (append_asks s.stand) n t.to) (sym now) h.fits.numbers.drawn;
        near = h.near;
      }

  grown : (s : StateOf m) (rids : Rids) (old : ℕ) (step : Step Append Paused GivenEnd) (t : AppendTurn) → AppendShown old s.stand s.rids.next rids.next step t → s.rids.next ≤ rids.next
  grown s rids old step t h = let now : rids.next ≡ t.next = ap (λ v. v.next) h.turn in subst (λ n. s.rids.next ≤ n) (sym now) h.fits.numbers.grows

  goes-carried : (s : StateOf m) (rids : Rids) (old : ℕ) (besides outs : List Out) (a : Append) (x : told.Purpose m) → Told s rids old besides outs (Goes a) → Carries m (after s rids) (told.Appending a x) old besides outs
  unfolding task_asks
  goes-carried s rids old besides outs a x h = record { sent = h.sent; drawn = h.drawn; fit = near_token m a.token h.near }

  pub append_goes : (P : Moved m → Type 0) (s : StateOf m) (j k : JobOf m) (rids : Rids) (step : Step Append Paused GivenEnd) (a : Append) (x : PurposeOf m) (r : Rest m) (w : told.Work m) (old : ℕ) (t : AppendTurn) →
      step.next ≡ given.Goes a → k ≡ record j { gone = max j.gone step.gone } → Holds m s j r w old → AppendShown old s.stand s.rids.next rids.next step t →
      ((besides : List Out) → Holds m (after s rids) k r (met-by w step.gone) old → Carries m (after s rids) (told.Appending a (told_purpose m x)) old besides step.outs →
      P (goes_on m (client_of m (after s rids) r) (met-by w step.gone) (told.Appending a (told_purpose m x)) besides)) →
      P (on_append m (client_of m s r) w (told_purpose m x) t)
  append_goes P s j k rids step a x r w old t is hk h sh f =
      let h' = met_holds m s j k r w old step.gone rids h (grown s rids old step t sh) hk in
      at-numbers P s rids r w (told_purpose m x) t step.gone (ap (λ v. v.next) sh.turn) (ap (λ v. v.gone) sh.turn)
      (on_case paused (λ to. Told s rids old t.besides step.outs to → P (append_to m (client_of m (after s rids) r) (met-by w step.gone) (told_purpose m x) t.besides to)) a t.to
      (sym (ap (given_to append_end) is) ∙ ap (λ v. v.to) sh.turn)
      (λ q. f t.besides h' (goes-carried s rids old t.besides step.outs a (told_purpose m x) q)) (tells s rids old step t sh))

  learns-left : (s : StateOf m) (rids : Rids) (old : ℕ) (besides outs : List Out) (p : Paused) (a : Append) (x : PurposeOf m) → p ≡ paused a → Told s rids old besides outs (Learns a) →
      Leaves m (after s rids) (left.Append p x) (told.Appending a (told_purpose m x))
  unfolding task_asks
  learns-left s rids old besides outs p a x e h = record { goes = (e, refl); drawn = h.drawn; fit = near_token m a.token h.near }

  pub append_learns : (P : Moved m → Type 0) (s : StateOf m) (j k : JobOf m) (rids : Rids) (step : Step Append Paused GivenEnd) (p : Paused) (x : PurposeOf m) (r : Rest m) (w : told.Work m) (old : ℕ) (t : AppendTurn) →
      step.next ≡ given.Learns p → k ≡ record j { gone = max j.gone step.gone } → Holds m s j r w old → AppendShown old s.stand s.rids.next rids.next step t →
      ((a : told.Task m) → Holds m (after s rids) k r (met-by w step.gone) old → Leaves m (after s rids) (left.Append p x) a → P (learns_for m (client_of m (after s rids) r) (met-by w step.gone) a)) →
      P (on_append m (client_of m s r) w (told_purpose m x) t)
  append_learns P s j k rids step p x r w old t is hk h sh f =
      let h' = met_holds m s j k r w old step.gone rids h (grown s rids old step t sh) hk in
      at-numbers P s rids r w (told_purpose m x) t step.gone (ap (λ v. v.next) sh.turn) (ap (λ v. v.gone) sh.turn)
      (paused_case paused (λ to. Told s rids old t.besides step.outs to → P (append_to m (client_of m (after s rids) r) (met-by w step.gone) (told_purpose m x) t.besides to)) p t.to
      (sym (ap (given_to append_end) is) ∙ ap (λ v. v.to) sh.turn)
      (λ a e q. f (told.Appending a (told_purpose m x)) h' (learns-left s rids old t.besides step.outs p a x e q)) (tells s rids old step t sh))

  pub append_ends : (P : Moved m → Type 0) (s : StateOf m) (j k : JobOf m) (rids : Rids) (step : Step Append Paused GivenEnd) (e : GivenEnd) (x : PurposeOf m) (r : Rest m) (w : told.Work m) (old : ℕ) (t : AppendTurn) →
      step.next ≡ given.Ends e → k ≡ record j { gone = max j.gone step.gone } → Holds m s j r w old → AppendShown old s.stand s.rids.next rids.next step t →
      (Holds m (after s rids) k r (met-by w step.gone) old → P (append_ended m (client_of m (after s rids) r) (met-by w step.gone) (told_purpose m x) (append_end e))) →
      P (on_append m (client_of m s r) w (told_purpose m x) t)
  append_ends P s j k rids step e x r w old t is hk h sh f =
      let h' = met_holds m s j k r w old step.gone rids h (grown s rids old step t sh) hk in
      at-numbers P s rids r w (told_purpose m x) t step.gone (ap (λ v. v.next) sh.turn) (ap (λ v. v.gone) sh.turn)
      (over_case paused (λ to. P (append_to m (client_of m (after s rids) r) (met-by w step.gone) (told_purpose m x) t.besides to)) (append_end e) t.to
      (sym (ap (given_to append_end) is) ∙ ap (λ v. v.to) sh.turn) (f h'))
