-- A walk's turn.
use Rattle.std.proofs.Common.{◌≡◌, ◌≤◌, ℕ, List, [], ◌++◌, refl, sym, ap, subst, ◌∙◌}
use Rattle.std.specs.Prelude.{max}
use Rattle.tg_base.specs.declared.packet.Out.{Out}
use Rattle.tg_base.specs.declared.packet.Rids.{Rids}
use Rattle.tg_kind.specs.Meaning.{Meaning}
use Rattle.tg_base.specs.declared.ids.Oid.{Oid}
use Rattle.tg_protocol.specs.Requests.{Next, Goes, Learns, Ends}
use Rattle.tg_protocol.specs.Walking.{Walk, Members, WalkTurn, walk_asks}
use Rattle.tg_protocol.specs.Answers.{Moved}
use Rattle.tg_protocol.specs.Clients as told
use Rattle.tg_protocol.specs.ClientSteps.{task_asks, goes_on, learns_for, walk_ended, walk_to, on_walk}
use Rattle.tg_chain.specs.declared.step.Step.{Step}
use Rattle.tg_chain.specs.declared.step.Next.TheVariants as given
use Rattle.tg_stream.specs.declared.members.Members.{Members as GivenEnd}
use Rattle.tg_stream.specs.Turns.{On, Paused as Waits, Over, given_to, ruled_to, new_asks}
use Rattle.tg_stream.specs.Walks.{Course, course_of, members_of}
use Rattle.tg_client_cells.specs.Walks.{ThenSettled, ThenInOrder}
use Rattle.tg_append.specs.Turns.{after as after-outs}
use Rattle.tg_client_state.specs.Numbers.{ThenDrawn, ThenNew}
use Rattle.tg_client_state.specs.Tasks.{JobOf}
use Rattle.tg_client_state.specs.declared.paused.Paused.TheVariants as left
use Rattle.tg_client_state.specs.States.{StateOf, Rest, client_of}
use Rattle.tg_client_state.specs.Moves.{Holds, Carries, Leaves}
use Rattle.tg_client_state.specs.Steps.{ThenAlike}
use Rattle.tg_client_state.proofs.Turning.{ThenSent}
use Rattle.tg_client_state.proofs.Waiting.{met_holds}
use Rattle.tg_client_sync.specs.Walks.{WalkShown}

-- By what a call shows of it.

pub on_case : (C : Next Walk Members → Type 0) (a : Walk) (to : Next Walk Members) → On a ≡ ruled_to to → C (Goes a) → C to
on_case C a (Goes b) e h = let same : a ≡ b = cc in subst (λ x. C (Goes x)) same h
on_case C a (Learns b) e h = absurd cc
on_case C a (Ends x) e h = absurd cc

pub paused_case : (C : Next Walk Members → Type 0) (p : Course) (to : Next Walk Members) → Waits p ≡ ruled_to to → ((b : Walk) → p ≡ course_of b → C (Learns b)) → C to
paused_case C p (Goes b) e h = absurd cc
paused_case C p (Learns b) e h = let same : p ≡ course_of b = cc in h b same
paused_case C p (Ends x) e h = absurd cc

pub over_case : (C : Next Walk Members → Type 0) (x : Members) (to : Next Walk Members) → Over x ≡ ruled_to to → C (Ends x) → C to
over_case C x (Goes b) e h = absurd cc
over_case C x (Learns b) e h = absurd cc
over_case C x (Ends y) e h = let same : x ≡ y = cc in subst (λ z. C (Ends z)) same h

pub new_sent : (old next now : ℕ) (outs : List Out) (to : Next Walk Members) → ThenAlike walk_asks old next to → ThenNew walk_asks next next now to → outs ≡ new_asks next now to → ThenSent walk_asks old [] outs to
new_sent old next now outs (Goes a) h n e = e ∙ sym n ∙ sym h
new_sent old next now outs (Learns a) h n e = tt
new_sent old next now outs (Ends a) h n e = tt

module _ (m : Meaning) where
  abbrev after : StateOf m → Rids → StateOf m
  after s rids = record s { rids = rids }

  abbrev met-by : told.Work m → ℕ → told.Work m
  met-by w gone = record w { gone = max w.gone gone }

  at-numbers : (P : Moved m → Type 0) (s : StateOf m) (rids : Rids) (r : Rest m) (w : told.Work m) (o : Oid) (os : List Oid) (t : WalkTurn) (gone : ℕ) → rids.next ≡ t.next → gone ≡ t.gone →
      P (walk_to m (client_of m (after s rids) r) (met-by w gone) o os t.to) → P (on_walk m (client_of m s r) w o os t)
  at-numbers P s rids r w o os t gone hn hg h =
      subst (λ n. P (walk_to m (record (client_of m s r) { next = n }) (met-by w t.gone) o os t.to)) hn
      (subst (λ g. P (walk_to m (client_of m (after s rids) r) (met-by w g) o os t.to)) hg h)

  record Told (s : StateOf m) (rids : Rids) (old : ℕ) (outs : List Out) (to : Next Walk Members) : Type 0 where
    sent : ThenSent walk_asks old [] outs to
    drawn : ThenDrawn walk_asks rids.next to
    settled : ThenSettled s.known.own s.known.settled to
    order : ThenInOrder to

  tells : (s : StateOf m) (rids : Rids) (old : ℕ) (step : Step Walk Course GivenEnd) (t : WalkTurn) → WalkShown old s.known s.rids.next rids.next step t → Told s rids old step.outs t.to
  tells s rids old step t h =
      let now : rids.next ≡ t.next = ap (λ v. v.next) h.turn in
      record {
        sent =
            new_sent old s.rids.next t.next step.outs t.to h.fits.alike (subst (λ os. ThenNew walk_asks s.rids.next (after-outs s.rids.next os) t.next t.to) h.none h.fits.numbers.new)
            (ap (λ v. v.outs) h.turn ∙ ap (λ os. os ++ new_asks s.rids.next t.next t.to) h.none);
        drawn = subst (λ n. ThenDrawn walk_asks n t.to) (sym now) h.fits.numbers.drawn;
        settled = h.settled;
        order = h.order;
      }

  grown : (s : StateOf m) (rids : Rids) (old : ℕ) (step : Step Walk Course GivenEnd) (t : WalkTurn) → WalkShown old s.known s.rids.next rids.next step t → s.rids.next ≤ rids.next
  grown s rids old step t h = let now : rids.next ≡ t.next = ap (λ v. v.next) h.turn in subst (λ n. s.rids.next ≤ n) (sym now) h.fits.numbers.grows

  goes-carried : (s : StateOf m) (rids : Rids) (old : ℕ) (outs : List Out) (os : List Oid) (a : Walk) → Told s rids old outs (Goes a) → Carries m (after s rids) (told.Walking a os) old [] outs
  unfolding task_asks
  goes-carried s rids old outs os a h = record { sent = h.sent; drawn = h.drawn; fit = record { settled = h.settled; finds = h.order } }

  pub walk_goes : (P : Moved m → Type 0) (s : StateOf m) (j k : JobOf m) (o : Oid) (os : List Oid) (rids : Rids) (step : Step Walk Course GivenEnd) (a : Walk) (r : Rest m) (w : told.Work m) (old : ℕ) (t : WalkTurn) →
      step.next ≡ given.Goes a → k ≡ record j { gone = max j.gone step.gone } → Holds m s j r w old → WalkShown old s.known s.rids.next rids.next step t →
      (Holds m (after s rids) k r (met-by w step.gone) old → Carries m (after s rids) (told.Walking a os) old [] step.outs → P (goes_on m (client_of m (after s rids) r) (met-by w step.gone) (told.Walking a os) [])) →
      P (on_walk m (client_of m s r) w o os t)
  walk_goes P s j k o os rids step a r w old t is hk h sh f =
      let h' = met_holds m s j k r w old step.gone rids h (grown s rids old step t sh) hk in
      at-numbers P s rids r w o os t step.gone (ap (λ v. v.next) sh.turn) (ap (λ v. v.gone) sh.turn)
      (on_case (λ to. Told s rids old step.outs to → P (walk_to m (client_of m (after s rids) r) (met-by w step.gone) o os to)) a t.to (sym (ap given_to is) ∙ ap (λ v. v.to) sh.turn)
      (λ q. f h' (goes-carried s rids old step.outs os a q)) (tells s rids old step t sh))

  learns-left : (s : StateOf m) (rids : Rids) (old : ℕ) (outs : List Out) (os : List Oid) (n : Course) (a : Walk) → n ≡ course_of a → Told s rids old outs (Learns a) → Leaves m (after s rids) (left.Walk n os) (told.Walking a os)
  unfolding task_asks
  learns-left s rids old outs os n a e h = record { goes = (e, refl); drawn = h.drawn; fit = record { settled = h.settled; finds = h.order } }

  pub walk_learns : (P : Moved m → Type 0) (s : StateOf m) (j k : JobOf m) (o : Oid) (os : List Oid) (rids : Rids) (step : Step Walk Course GivenEnd) (n : Course) (r : Rest m) (w : told.Work m) (old : ℕ) (t : WalkTurn) →
      step.next ≡ given.Learns n → k ≡ record j { gone = max j.gone step.gone } → Holds m s j r w old → WalkShown old s.known s.rids.next rids.next step t →
      ((a : told.Task m) → Holds m (after s rids) k r (met-by w step.gone) old → Leaves m (after s rids) (left.Walk n os) a → P (learns_for m (client_of m (after s rids) r) (met-by w step.gone) a)) →
      P (on_walk m (client_of m s r) w o os t)
  walk_learns P s j k o os rids step n r w old t is hk h sh f =
      let h' = met_holds m s j k r w old step.gone rids h (grown s rids old step t sh) hk in
      at-numbers P s rids r w o os t step.gone (ap (λ v. v.next) sh.turn) (ap (λ v. v.gone) sh.turn)
      (paused_case (λ to. Told s rids old step.outs to → P (walk_to m (client_of m (after s rids) r) (met-by w step.gone) o os to)) n t.to (sym (ap given_to is) ∙ ap (λ v. v.to) sh.turn)
      (λ a e q. f (told.Walking a os) h' (learns-left s rids old step.outs os n a e q)) (tells s rids old step t sh))

  pub walk_ends : (P : Moved m → Type 0) (s : StateOf m) (j k : JobOf m) (o : Oid) (os : List Oid) (rids : Rids) (step : Step Walk Course GivenEnd) (e : GivenEnd) (r : Rest m) (w : told.Work m) (old : ℕ) (t : WalkTurn) →
      step.next ≡ given.Ends e → k ≡ record j { gone = max j.gone step.gone } → Holds m s j r w old → WalkShown old s.known s.rids.next rids.next step t →
      (Holds m (after s rids) k r (met-by w step.gone) old → P (walk_ended m (client_of m (after s rids) r) (met-by w step.gone) o os (members_of e))) →
      P (on_walk m (client_of m s r) w o os t)
  walk_ends P s j k o os rids step e r w old t is hk h sh f =
      let h' = met_holds m s j k r w old step.gone rids h (grown s rids old step t sh) hk in
      at-numbers P s rids r w o os t step.gone (ap (λ v. v.next) sh.turn) (ap (λ v. v.gone) sh.turn)
      (over_case (λ to. P (walk_to m (client_of m (after s rids) r) (met-by w step.gone) o os to)) (members_of e) t.to (sym (ap given_to is) ∙ ap (λ v. v.to) sh.turn) (f h'))
