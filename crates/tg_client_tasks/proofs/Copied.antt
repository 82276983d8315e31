-- A copy's turn.
use Rattle.std.proofs.Common.{◌≡◌, ◌≤◌, ℕ, List, [], ◌∷◌, ◌++◌, sym, ap, subst, ◌∙◌}
use Rattle.std.specs.Prelude.{max}
use Rattle.tg_base.specs.Layouts.{Layout}
use Rattle.tg_base.specs.declared.packet.Out.{Out}
use Rattle.tg_base.specs.declared.packet.Rids.{Rids}
use Rattle.tg_kind.specs.Meaning.{Meaning}
use Rattle.tg_base.specs.declared.change.Join.{Join}
use Rattle.tg_model.specs.declared.trace.What.TheVariants.{Copied}
use Rattle.tg_protocol.specs.Requests.{Next, Goes, Learns, Ends}
use Rattle.tg_protocol.specs.Trimming.{Copying, CopyEnd, CopyTurn, copy_asks}
use Rattle.tg_protocol.specs.Answers.{Moved, note, replies}
use Rattle.tg_protocol.specs.Clients as told
use Rattle.tg_protocol.specs.ClientSteps.{task_asks, goes_on, learns_for, copy_to, on_copy}
use Rattle.tg_chain.specs.declared.step.Step.{Step}
use Rattle.tg_chain.specs.declared.step.Next.TheVariants as given
use Rattle.tg_copy.specs.declared.ends.CopyEnd.{CopyEnd as GivenEnd}
use Rattle.tg_copy.specs.Turns.{On, Paused as Waits, Over, given_to, ruled_to, new_asks, spare_of, copy_end}
use Rattle.tg_client_state.specs.Laws.{ThenHasStripe}
use Rattle.tg_append.specs.Turns.{after as after-outs}
use Rattle.tg_client_state.specs.Numbers.{ThenDrawn, ThenNew}
use Rattle.tg_client_state.specs.Tasks.{JobOf}
use Rattle.tg_client_state.specs.declared.paused.Paused.TheVariants as left
use Rattle.tg_client_state.specs.States.{StateOf, Rest, client_of}
use Rattle.tg_client_state.specs.Moves.{Holds, Carries, Leaves}
use Rattle.tg_client_state.specs.Steps.{ThenAlike}
use Rattle.tg_client_state.proofs.Turning.{ThenSent}
use Rattle.tg_client_state.proofs.Waiting.{met_holds}
use Rattle.tg_client_tasks.specs.Shown.{CopyShown}

-- By what a call shows of it.

on-case : (C : Next Copying CopyEnd → Type 0) (a : Copying) (to : Next Copying CopyEnd) → On a ≡ ruled_to to → C (Goes a) → C to
on-case C a (Goes b) e h = let same : a ≡ b = cc in subst (λ x. C (Goes x)) same h
on-case C a (Learns b) e h = absurd cc
on-case C a (Ends x) e h = absurd cc

paused-case : (C : Next Copying CopyEnd → Type 0) (p : Join) (to : Next Copying CopyEnd) → Waits p ≡ ruled_to to → ((b : Copying) → p ≡ spare_of b → C (Learns b)) → C to
paused-case C p (Goes b) e h = absurd cc
paused-case C p (Learns b) e h = let same : p ≡ spare_of b = cc in h b same
paused-case C p (Ends x) e h = absurd cc

over-case : (C : Next Copying CopyEnd → Type 0) (x : CopyEnd) (to : Next Copying CopyEnd) → Over x ≡ ruled_to to → C (Ends x) → C to
over-case C x (Goes b) e h = absurd cc
over-case C x (Learns b) e h = absurd cc
over-case C x (Ends y) e h = let same : x ≡ y = cc in subst (λ z. C (Ends z)) same h

new-sent : (p : Layout) (old next now : ℕ) (outs : List Out) (to : Next Copying CopyEnd) → ThenAlike (copy_asks p) old next to → ThenNew (copy_asks p) next next now to → outs ≡ new_asks p next now to → ThenSent (copy_asks p) old [] outs to
new-sent p old next now outs (Goes a) h n e = e ∙ sym n ∙ sym h
new-sent p old next now outs (Learns a) h n e = tt
new-sent p old next now outs (Ends a) h n e = tt

module _ (m : Meaning) where
  abbrev after : StateOf m → Rids → StateOf m
  after s rids = record s { rids = rids }

  abbrev met-by : told.Work m → ℕ → told.Work m
  met-by w gone = record w { gone = max w.gone gone }

  at-numbers : (P : Moved m → Type 0) (s : StateOf m) (rids : Rids) (r : Rest m) (w : told.Work m) (b : Copying) (t : CopyTurn) (gone : ℕ) → rids.next ≡ t.next → gone ≡ t.gone →
      P (copy_to m (client_of m (after s rids) r) (met-by w gone) b t.to) → P (on_copy m (client_of m s r) w b t)
  at-numbers P s rids r w b t gone hn hg h =
      subst (λ n. P (copy_to m (record (client_of m s r) { next = n }) (met-by w t.gone) b t.to)) hn
      (subst (λ g. P (copy_to m (client_of m (after s rids) r) (met-by w g) b t.to)) hg h)

  record Told (s : StateOf m) (rids : Rids) (old : ℕ) (outs : List Out) (to : Next Copying CopyEnd) : Type 0 where
    sent : ThenSent (copy_asks s.stand) old [] outs to
    drawn : ThenDrawn (copy_asks s.stand) rids.next to
    stripe : ThenHasStripe s.stand to

  tells : (s : StateOf m) (rids : Rids) (old : ℕ) (step : Step Copying Join GivenEnd) (t : CopyTurn) → CopyShown old s.stand s.rids.next rids.next step t → Told s rids old step.outs t.to
  tells s rids old step t h =
      let now : rids.next ≡ t.next = ap (λ v. v.next) h.turn in
      record {
        sent =
            new-sent s.stand old s.rids.next t.next step.outs t.to h.fits.alike (subst (λ os. ThenNew (copy_asks s.stand) s.rids.next (after-outs s.rids.next os) t.next t.to) h.none h.fits.numbers.new)
            (ap (λ v. v.outs) h.turn ∙ ap (λ os. os ++ new_asks s.stand s.rids.next t.next t.to) h.none);
        drawn = subst (λ n. ThenDrawn (copy_asks s.stand) n t.to) (sym now) h.fits.numbers.drawn;
        stripe = h.stripe;
      }

  grown : (s : StateOf m) (rids : Rids) (old : ℕ) (step : Step Copying Join GivenEnd) (t : CopyTurn) → CopyShown old s.stand s.rids.next rids.next step t → s.rids.next ≤ rids.next
  grown s rids old step t h = let now : rids.next ≡ t.next = ap (λ v. v.next) h.turn in subst (λ n. s.rids.next ≤ n) (sym now) h.fits.numbers.grows

  goes-carried : (s : StateOf m) (rids : Rids) (old : ℕ) (outs : List Out) (a : Copying) → Told s rids old outs (Goes a) → Carries m (after s rids) (told.Copying' a) old [] outs
  unfolding task_asks
  goes-carried s rids old outs a h = record { sent = h.sent; drawn = h.drawn; fit = h.stripe }

  pub copy_goes : (P : Moved m → Type 0) (s : StateOf m) (j k : JobOf m) (b : Copying) (rids : Rids) (step : Step Copying Join GivenEnd) (a : Copying) (r : Rest m) (w : told.Work m) (old : ℕ) (t : CopyTurn) →
      step.next ≡ given.Goes a → k ≡ record j { gone = max j.gone step.gone } → Holds m s j r w old → CopyShown old s.stand s.rids.next rids.next step t →
      (Holds m (after s rids) k r (met-by w step.gone) old → Carries m (after s rids) (told.Copying' a) old [] step.outs → P (goes_on m (client_of m (after s rids) r) (met-by w step.gone) (told.Copying' a) [])) →
      P (on_copy m (client_of m s r) w b t)
  copy_goes P s j k b rids step a r w old t is hk h sh f =
      let h' = met_holds m s j k r w old step.gone rids h (grown s rids old step t sh) hk in
      at-numbers P s rids r w b t step.gone (ap (λ v. v.next) sh.turn) (ap (λ v. v.gone) sh.turn)
      (on-case (λ to. Told s rids old step.outs to → P (copy_to m (client_of m (after s rids) r) (met-by w step.gone) b to)) a t.to (sym (ap given_to is) ∙ ap (λ v. v.to) sh.turn)
      (λ q. f h' (goes-carried s rids old step.outs a q)) (tells s rids old step t sh))

  learns-left : (s : StateOf m) (rids : Rids) (old : ℕ) (outs : List Out) (n : Join) (a : Copying) → n ≡ spare_of a → Told s rids old outs (Learns a) → Leaves m (after s rids) (left.Copy n) (told.Copying' a)
  unfolding task_asks
  learns-left s rids old outs n a e h = record { goes = e; drawn = h.drawn; fit = tt }

  pub copy_learns : (P : Moved m → Type 0) (s : StateOf m) (j k : JobOf m) (b : Copying) (rids : Rids) (step : Step Copying Join GivenEnd) (n : Join) (r : Rest m) (w : told.Work m) (old : ℕ) (t : CopyTurn) →
      step.next ≡ given.Learns n → k ≡ record j { gone = max j.gone step.gone } → Holds m s j r w old → CopyShown old s.stand s.rids.next rids.next step t →
      ((a : told.Task m) → Holds m (after s rids) k r (met-by w step.gone) old → Leaves m (after s rids) (left.Copy n) a → P (learns_for m (client_of m (after s rids) r) (met-by w step.gone) a)) →
      P (on_copy m (client_of m s r) w b t)
  copy_learns P s j k b rids step n r w old t is hk h sh f =
      let h' = met_holds m s j k r w old step.gone rids h (grown s rids old step t sh) hk in
      at-numbers P s rids r w b t step.gone (ap (λ v. v.next) sh.turn) (ap (λ v. v.gone) sh.turn)
      (paused-case (λ to. Told s rids old step.outs to → P (copy_to m (client_of m (after s rids) r) (met-by w step.gone) b to)) n t.to (sym (ap given_to is) ∙ ap (λ v. v.to) sh.turn)
      (λ a e q. f (told.Copying' a) h' (learns-left s rids old step.outs n a e q)) (tells s rids old step t sh))

  pub copy_ends : (P : Moved m → Type 0) (s : StateOf m) (j k : JobOf m) (b : Copying) (rids : Rids) (step : Step Copying Join GivenEnd) (e : GivenEnd) (r : Rest m) (w : told.Work m) (old : ℕ) (t : CopyTurn) →
      step.next ≡ given.Ends e → k ≡ record j { gone = max j.gone step.gone } → Holds m s j r w old → CopyShown old s.stand s.rids.next rids.next step t →
      (Holds m (after s rids) k r (met-by w step.gone) old → P (replies m (client_of m (after s rids) r) (note m 0 (Copied b.unit b.range b.stripe) ∷ []))) →
      P (on_copy m (client_of m s r) w b t)
  copy_ends P s j k b rids step e r w old t is hk h sh f =
      let h' = met_holds m s j k r w old step.gone rids h (grown s rids old step t sh) hk in
      at-numbers P s rids r w b t step.gone (ap (λ v. v.next) sh.turn) (ap (λ v. v.gone) sh.turn)
      (over-case (λ to. P (copy_to m (client_of m (after s rids) r) (met-by w step.gone) b to)) (copy_end e) t.to (sym (ap given_to is) ∙ ap (λ v. v.to) sh.turn) (f h'))
