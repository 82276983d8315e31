-- The turn of a change of the layout.
use Rattle.std.proofs.Common.{◌≡◌, ◌≤◌, ℕ, List, [], ◌++◌, sym, ap, subst, ◌∙◌, arith}
use Rattle.std.specs.Global.{Box}
use Rattle.tg_base.specs.declared.packet.Out.{Out}
use Rattle.tg_base.specs.declared.packet.Rids.{Rids}
use Rattle.tg_kind.specs.Meaning.{Meaning}
use Rattle.tg_chain.specs.Turns.{new_asks}
use Rattle.tg_protocol.specs.Requests.{Next, Goes, Learns, Ends}
use Rattle.tg_protocol.specs.Reconfiguring.{Reconf, ReconfEnd, ReconfTurn, reconf_asks, reconf_awaited}
use Rattle.tg_protocol.specs.Answers.{Moved}
use Rattle.tg_protocol.specs.Clients as told
use Rattle.tg_protocol.specs.ClientSteps.{goes_on, learns_for, stands, reconf_ended, reconf_to, on_reconf}
use Rattle.tg_reconf.specs.declared.step.Step.{Step}
use Rattle.tg_reconf.specs.declared.step.Next.TheVariants as given
use Rattle.tg_reconf.specs.declared.step.ReconfEnd.{ReconfEnd as GivenEnd}
use Rattle.tg_reconf.specs.Turns.{next_of, end_of}
use Rattle.tg_append.specs.Turns.{after as after-outs}
use Rattle.tg_client_state.specs.Numbers.{ThenDrawn, ThenNew}
use Rattle.tg_client_state.specs.Tasks.{JobOf}
use Rattle.tg_client_state.specs.declared.paused.Paused.TheVariants as left
use Rattle.tg_client_state.specs.States.{StateOf, Rest, client_of}
use Rattle.tg_client_state.specs.Moves.{Holds, Leaves}
use Rattle.tg_client_state.specs.Steps.{ThenAlike}
use Rattle.tg_client_state.proofs.Turning.{ThenSent}
use Rattle.tg_client_tasks.specs.Shown.{ReconfShown, Changes}

new-sent : (old next now : ℕ) (outs : List Out) (to : Next Reconf ReconfEnd) → ThenAlike reconf_asks old next to → ThenNew reconf_asks next next now to → outs ≡ new_asks reconf_asks next now to → ThenSent reconf_asks old [] outs to
new-sent old next now outs (Goes a) h n e = e ∙ sym n ∙ sym h
new-sent old next now outs (Learns a) h n e = tt
new-sent old next now outs (Ends a) h n e = tt

module _ (m : Meaning) where
  abbrev after : StateOf m → Rids → StateOf m
  after s rids = record s { rids = rids }

  at-numbers : (P : Moved m → Type 0) (s : StateOf m) (rids : Rids) (r : Rest m) (w : told.Work m) (t : ReconfTurn) → rids.next ≡ t.next →
      P (reconf_to m (client_of m (after s rids) r) w t.to) → P (on_reconf m (client_of m s r) w t)
  at-numbers P s rids r w t hn h = subst (λ n. P (reconf_to m (record (client_of m s r) { next = n }) w t.to)) hn h

  record Told (rids : Rids) (old : ℕ) (outs : List Out) (to : Next Reconf ReconfEnd) : Type 0 where
    sent : ThenSent reconf_asks old [] outs to
    drawn : ThenDrawn reconf_awaited rids.next to

  tells : (s : StateOf m) (rids : Rids) (old : ℕ) (step : Step) (t : ReconfTurn) → ReconfShown old s.rids.next rids.next step t → Told rids old step.outs t.to
  tells s rids old step t h =
      let now : rids.next ≡ t.next = ap (λ v. v.next) h.turn in
      record {
        sent =
            new-sent old s.rids.next t.next step.outs t.to h.fits.alike (subst (λ os. ThenNew reconf_asks s.rids.next (after-outs s.rids.next os) t.next t.to) h.none h.fits.numbers.new)
            (ap (λ v. v.outs) h.turn ∙ ap (λ os. os ++ new_asks reconf_asks s.rids.next t.next t.to) h.none);
        drawn = subst (λ n. ThenDrawn reconf_awaited n t.to) (sym now) h.awaited;
      }

  holds-on : (s : StateOf m) (j : JobOf m) (r : Rest m) (w : told.Work m) (rids : Rids) (old : ℕ) (step : Step) (t : ReconfTurn) → Holds m s j r w old → ReconfShown old s.rids.next rids.next step t → Holds m (after s rids) j r w old
  holds-on s j r w rids old step t h sh =
      let now : rids.next ≡ t.next = ap (λ v. v.next) sh.turn in
      let grows : s.rids.next ≤ t.next = sh.fits.numbers.grows in
      let since : old ≤ s.rids.next = h.since in
      record { since = omega (arith, now, grows, since); view = h.view; job = h.job }

  changed : (rids : Rids) (old : ℕ) (outs : List Out) (a : Reconf) → Told rids old outs (Goes a) → Changes old rids.next a outs
  changed rids old outs a h = record { sent = h.sent; drawn = h.drawn }

  pub reconf_goes : (P : Moved m → Type 0) (s : StateOf m) (j : JobOf m) (rids : Rids) (step : Step) (a : Reconf) (r : Rest m) (w : told.Work m) (old : ℕ) (t : ReconfTurn) →
      step.next ≡ given.Goes a → Holds m s j r w old → ReconfShown old s.rids.next rids.next step t →
      (Holds m (after s rids) j r w old → Changes old rids.next a step.outs → P (goes_on m (stands m (client_of m (after s rids) r) a.stand) w (told.Reconfiguring a) [])) →
      P (on_reconf m (client_of m s r) w t)
  reconf_goes P s j rids step a r w old t is h sh f =
      at-numbers P s rids r w t (ap (λ v. v.next) sh.turn)
      (subst (λ to. Told rids old step.outs to → P (reconf_to m (client_of m (after s rids) r) w to)) (sym (ap next_of is) ∙ ap (λ v. v.to) sh.turn)
      (λ q. f (holds-on s j r w rids old step t h sh) (changed rids old step.outs a q)) (tells s rids old step t sh))

  learns-left : (s : StateOf m) (rids : Rids) (old : ℕ) (outs : List Out) (a : Reconf) (b : Box Reconf) → b.value ≡ a → Told rids old outs (Learns a) → Leaves m (after s rids) (left.Reconf b) (told.Reconfiguring a)
  learns-left s rids old outs a b e h = record { goes = e; drawn = h.drawn; fit = tt }

  pub reconf_learns : (P : Moved m → Type 0) (s : StateOf m) (j : JobOf m) (rids : Rids) (step : Step) (a : Reconf) (b : Box Reconf) (r : Rest m) (w : told.Work m) (old : ℕ) (t : ReconfTurn) →
      step.next ≡ given.Learns a → b.value ≡ a → Holds m s j r w old → ReconfShown old s.rids.next rids.next step t →
      (Holds m (after s rids) j r w old → Leaves m (after s rids) (left.Reconf b) (told.Reconfiguring a) → P (learns_for m (client_of m (after s rids) r) w (told.Reconfiguring a))) →
      P (on_reconf m (client_of m s r) w t)
  reconf_learns P s j rids step a b r w old t is e h sh f =
      at-numbers P s rids r w t (ap (λ v. v.next) sh.turn)
      (subst (λ to. Told rids old step.outs to → P (reconf_to m (client_of m (after s rids) r) w to)) (sym (ap next_of is) ∙ ap (λ v. v.to) sh.turn)
      (λ q. f (holds-on s j r w rids old step t h sh) (learns-left s rids old step.outs a b e q)) (tells s rids old step t sh))

  pub reconf_ends : (P : Moved m → Type 0) (s : StateOf m) (j : JobOf m) (rids : Rids) (step : Step) (e : GivenEnd) (r : Rest m) (w : told.Work m) (old : ℕ) (t : ReconfTurn) →
      step.next ≡ given.Ends e → Holds m s j r w old → ReconfShown old s.rids.next rids.next step t →
      P (reconf_ended m (client_of m (after s rids) r) (end_of e)) → P (on_reconf m (client_of m s r) w t)
  reconf_ends P s j rids step e r w old t is h sh f =
      at-numbers P s rids r w t (ap (λ v. v.next) sh.turn) (subst (λ to. P (reconf_to m (client_of m (after s rids) r) w to)) (sym (ap next_of is) ∙ ap (λ v. v.to) sh.turn) f)
