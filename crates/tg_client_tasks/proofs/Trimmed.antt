-- The turn of trims.
use Rattle.std.proofs.Common.{◌≡◌, ◌≤◌, ℕ, List, [], ◌++◌, sym, ap, subst, ◌∙◌}
use Rattle.std.specs.Prelude.{max}
use Rattle.tg_base.specs.Layouts.{Layout}
use Rattle.tg_base.specs.declared.packet.Out.{Out}
use Rattle.tg_base.specs.declared.packet.Rids.{Rids}
use Rattle.tg_kind.specs.Meaning.{Meaning}
use Rattle.tg_model.specs.declared.trace.What.TheVariants.{Trimmed as AllGone}
use Rattle.tg_protocol.specs.Requests.{Next, Goes, Learns, Ends}
use Rattle.tg_protocol.specs.Trimming.{Trims, Trimmed, TrimTurn, trim_asks}
use Rattle.tg_protocol.specs.Answers.{Moved, answers}
use Rattle.tg_protocol.specs.Clients as told
use Rattle.tg_protocol.specs.ClientSteps.{task_asks, goes_on, learns_for, trim_to, on_trims}
use Rattle.tg_chain.specs.declared.step.Step.{Step}
use Rattle.tg_chain.specs.declared.step.Next.TheVariants as given
use Rattle.tg_trim.specs.declared.ends.TrimEnd.{TrimEnd}
use Rattle.tg_trim.specs.Turns.{On, Paused as Waits, Over, given_to, ruled_to, new_asks, trim_end}
use Rattle.tg_append.specs.Turns.{after as after-outs}
use Rattle.tg_client_state.specs.Numbers.{ThenDrawn, ThenNew}
use Rattle.tg_client_state.specs.Tasks.{JobOf}
use Rattle.tg_client_state.specs.declared.paused.Paused.TheVariants as left
use Rattle.tg_client_state.specs.States.{StateOf, Rest, client_of}
use Rattle.tg_client_state.specs.Moves.{Holds, Carries, Leaves}
use Rattle.tg_client_state.specs.Steps.{ThenAlike}
use Rattle.tg_client_state.proofs.Turning.{ThenSent}
use Rattle.tg_client_state.proofs.Waiting.{met_holds}
use Rattle.tg_client_tasks.specs.Shown.{TrimShown}

-- By what a call shows of it.

on-case : (C : Next Trims Trimmed → Type 0) (a : Trims) (to : Next Trims Trimmed) → On a ≡ ruled_to to → C (Goes a) → C to
on-case C a (Goes b) e h = let same : a ≡ b = cc in subst (λ x. C (Goes x)) same h
on-case C a (Learns b) e h = absurd cc
on-case C a (Ends x) e h = absurd cc

paused-case : (C : Next Trims Trimmed → Type 0) (p : ℕ) (to : Next Trims Trimmed) → Waits p ≡ ruled_to to → ((b : Trims) → p ≡ b.below → C (Learns b)) → C to
paused-case C p (Goes b) e h = absurd cc
paused-case C p (Learns b) e h = let same : p ≡ b.below = cc in h b same
paused-case C p (Ends x) e h = absurd cc

over-case : (C : Next Trims Trimmed → Type 0) (x : Trimmed) (to : Next Trims Trimmed) → Over x ≡ ruled_to to → C (Ends x) → C to
over-case C x (Goes b) e h = absurd cc
over-case C x (Learns b) e h = absurd cc
over-case C x (Ends y) e h = let same : x ≡ y = cc in subst (λ z. C (Ends z)) same h

new-sent : (p : Layout) (old next now : ℕ) (outs : List Out) (to : Next Trims Trimmed) → ThenAlike (trim_asks p) old next to → ThenNew (trim_asks p) next next now to → outs ≡ new_asks p next now to → ThenSent (trim_asks p) old [] outs to
new-sent p old next now outs (Goes a) h n e = e ∙ sym n ∙ sym h
new-sent p old next now outs (Learns a) h n e = tt
new-sent p old next now outs (Ends a) h n e = tt

module _ (m : Meaning) where
  abbrev after : StateOf m → Rids → StateOf m
  after s rids = record s { rids = rids }

  abbrev met-by : told.Work m → ℕ → told.Work m
  met-by w gone = record w { gone = max w.gone gone }

  at-numbers : (P : Moved m → Type 0) (s : StateOf m) (rids : Rids) (r : Rest m) (w : told.Work m) (b : ℕ) (t : TrimTurn) (gone : ℕ) → rids.next ≡ t.next → gone ≡ t.gone →
      P (trim_to m (client_of m (after s rids) r) (met-by w gone) b t.to) → P (on_trims m (client_of m s r) w b t)
  at-numbers P s rids r w b t gone hn hg h =
      subst (λ n. P (trim_to m (record (client_of m s r) { next = n }) (met-by w t.gone) b t.to)) hn
      (subst (λ g. P (trim_to m (client_of m (after s rids) r) (met-by w g) b t.to)) hg h)

  record Told (s : StateOf m) (rids : Rids) (old : ℕ) (outs : List Out) (to : Next Trims Trimmed) : Type 0 where
    sent : ThenSent (trim_asks s.stand) old [] outs to
    drawn : ThenDrawn (trim_asks s.stand) rids.next to

  tells : (s : StateOf m) (rids : Rids) (old : ℕ) (step : Step Trims ℕ TrimEnd) (t : TrimTurn) → TrimShown old s.stand s.rids.next rids.next step t → Told s rids old step.outs t.to
  tells s rids old step t h =
      let now : rids.next ≡ t.next = ap (λ v. v.next) h.turn in
      record {
        sent =
            new-sent s.stand old s.rids.next t.next step.outs t.to h.fits.alike (subst (λ os. ThenNew (trim_asks s.stand) s.rids.next (after-outs s.rids.next os) t.next t.to) h.none h.fits.numbers.new)
            (ap (λ v. v.outs) h.turn ∙ ap (λ os. os ++ new_asks s.stand s.rids.next t.next t.to) h.none);
        drawn = subst (λ n. ThenDrawn (trim_asks s.stand) n t.to) (sym now) h.fits.numbers.drawn;
      }

  grown : (s : StateOf m) (rids : Rids) (old : ℕ) (step : Step Trims ℕ TrimEnd) (t : TrimTurn) → TrimShown old s.stand s.rids.next rids.next step t → s.rids.next ≤ rids.next
  grown s rids old step t h = let now : rids.next ≡ t.next = ap (λ v. v.next) h.turn in subst (λ n. s.rids.next ≤ n) (sym now) h.fits.numbers.grows

  goes-carried : (s : StateOf m) (rids : Rids) (old : ℕ) (outs : List Out) (a : Trims) → Told s rids old outs (Goes a) → Carries m (after s rids) (told.Trimming a) old [] outs
  unfolding task_asks
  goes-carried s rids old outs a h = record { sent = h.sent; drawn = h.drawn; fit = tt }

  pub trim_goes : (P : Moved m → Type 0) (s : StateOf m) (j k : JobOf m) (b : ℕ) (rids : Rids) (step : Step Trims ℕ TrimEnd) (a : Trims) (r : Rest m) (w : told.Work m) (old : ℕ) (t : TrimTurn) →
      step.next ≡ given.Goes a → k ≡ record j { gone = max j.gone step.gone } → Holds m s j r w old → TrimShown old s.stand s.rids.next rids.next step t →
      (Holds m (after s rids) k r (met-by w step.gone) old → Carries m (after s rids) (told.Trimming a) old [] step.outs → P (goes_on m (client_of m (after s rids) r) (met-by w step.gone) (told.Trimming a) [])) →
      P (on_trims m (client_of m s r) w b t)
  trim_goes P s j k b rids step a r w old t is hk h sh f =
      let h' = met_holds m s j k r w old step.gone rids h (grown s rids old step t sh) hk in
      at-numbers P s rids r w b t step.gone (ap (λ v. v.next) sh.turn) (ap (λ v. v.gone) sh.turn)
      (on-case (λ to. Told s rids old step.outs to → P (trim_to m (client_of m (after s rids) r) (met-by w step.gone) b to)) a t.to (sym (ap given_to is) ∙ ap (λ v. v.to) sh.turn)
      (λ q. f h' (goes-carried s rids old step.outs a q)) (tells s rids old step t sh))

  learns-left : (s : StateOf m) (rids : Rids) (old : ℕ) (outs : List Out) (n : ℕ) (a : Trims) → n ≡ a.below → Told s rids old outs (Learns a) → Leaves m (after s rids) (left.Trim n) (told.Trimming a)
  unfolding task_asks
  learns-left s rids old outs n a e h = record { goes = e; drawn = h.drawn; fit = tt }

  pub trim_learns : (P : Moved m → Type 0) (s : StateOf m) (j k : JobOf m) (b : ℕ) (rids : Rids) (step : Step Trims ℕ TrimEnd) (n : ℕ) (r : Rest m) (w : told.Work m) (old : ℕ) (t : TrimTurn) →
      step.next ≡ given.Learns n → k ≡ record j { gone = max j.gone step.gone } → Holds m s j r w old → TrimShown old s.stand s.rids.next rids.next step t →
      ((a : told.Task m) → Holds m (after s rids) k r (met-by w step.gone) old → Leaves m (after s rids) (left.Trim n) a → P (learns_for m (client_of m (after s rids) r) (met-by w step.gone) a)) →
      P (on_trims m (client_of m s r) w b t)
  trim_learns P s j k b rids step n r w old t is hk h sh f =
      let h' = met_holds m s j k r w old step.gone rids h (grown s rids old step t sh) hk in
      at-numbers P s rids r w b t step.gone (ap (λ v. v.next) sh.turn) (ap (λ v. v.gone) sh.turn)
      (paused-case (λ to. Told s rids old step.outs to → P (trim_to m (client_of m (after s rids) r) (met-by w step.gone) b to)) n t.to (sym (ap given_to is) ∙ ap (λ v. v.to) sh.turn)
      (λ a e q. f (told.Trimming a) h' (learns-left s rids old step.outs n a e q)) (tells s rids old step t sh))

  pub trim_ends : (P : Moved m → Type 0) (s : StateOf m) (j k : JobOf m) (b : ℕ) (rids : Rids) (step : Step Trims ℕ TrimEnd) (e : TrimEnd) (r : Rest m) (w : told.Work m) (old : ℕ) (t : TrimTurn) →
      step.next ≡ given.Ends e → k ≡ record j { gone = max j.gone step.gone } → Holds m s j r w old → TrimShown old s.stand s.rids.next rids.next step t →
      (Holds m (after s rids) k r (met-by w step.gone) old → P (answers m (client_of m (after s rids) r) 0 (AllGone b))) →
      P (on_trims m (client_of m s r) w b t)
  trim_ends P s j k b rids step e r w old t is hk h sh f =
      let h' = met_holds m s j k r w old step.gone rids h (grown s rids old step t sh) hk in
      at-numbers P s rids r w b t step.gone (ap (λ v. v.next) sh.turn) (ap (λ v. v.gone) sh.turn)
      (over-case (λ to. P (trim_to m (client_of m (after s rids) r) (met-by w step.gone) b to)) (trim_end e) t.to (sym (ap given_to is) ∙ ap (λ v. v.to) sh.turn) (f h'))
