-- Wherever a step of a run comes to the end of a command's walks, they are exact, by the log at hand and by the one that the run
-- ends with.
use Rattle.std.proofs.Common.{◌≡◌, ℕ, List, [], ◌∷◌, ◌++◌, Bool, true, false, refl, sym, ap, ◌∙◌, subst, Some, None, Option, append-nil}
use Rattle.std.specs.Prelude.{nat_lt, ◌&&◌}
use Rattle.tg_base.specs.Clusters.{Header}
use Rattle.tg_base.specs.Layouts.{Layout}
use Rattle.tg_base.specs.declared.ids.NodeId.{NodeId}
use Rattle.tg_base.specs.declared.ids.Oid.{Oid}
use Rattle.tg_base.specs.declared.ids.Role.{Role}
use Rattle.tg_base.specs.declared.ids.Role.TheVariants as role
use Rattle.tg_kind.specs.Meaning.{Meaning}
use Rattle.tg_model.specs.Kinds.{EventOf}
use Rattle.tg_model.specs.declared.command.Event.TheVariants.{Command as Commands, Deliver, Lose, Tick, Stop}
use Rattle.tg_base.specs.Orders.{node_eq}
use Rattle.tg_protocol.specs.Words.{client_id, layout_id}
use Rattle.tg_protocol.specs.Requests.{awaits}
use Rattle.tg_protocol.specs.Replies.{Reply, IsLatest, reply}
use Rattle.tg_protocol.specs.Syncing.{sync_start}
use Rattle.tg_protocol.specs.Logs.{Log, entries_of}
use Rattle.tg_protocol.specs.Views.{Entries}
use Rattle.tg_protocol.specs.Clients.{Task, Syncing, Walking, Appending, Trimming, Copying', Reconfiguring, Hand, Doing, Learning, Work, Client}
use Rattle.tg_protocol.specs.ClientSteps.{task_awaited, task_in, stands}
use Rattle.tg_protocol.specs.Worlds.{World, client, log}
use Rattle.tg_protocol.specs.Runs.{Moves, Takes, Reaches, Later}
use Rattle.tg_law_layouts.specs.Moves.After.{after}
use Rattle.tg_law_replies.specs.History.Worlds.{entries_in}
use Rattle.tg_law_replies.specs.Replies.Steps.{EachFeed, EachNewer, EachAwaited, EachHand, EachLatest, EachReply, EachDelivery, EachEvent}
use Rattle.tg_law_cells.specs.Entries.Archive.{TrimsWereSafe}
use Rattle.tg_law_cells.proofs.Entries.Lists.{joined}
use Rattle.tg_law_walks.specs.Walks.Streams.{IsByPosition, AreKnown, AreLinked}
use Rattle.tg_law_walks.specs.Walks.Rounds.{IsAtTask, IsAtWork}
use Rattle.tg_law_walks.specs.Walks.Laws.{IsFound}
use Rattle.tg_law_walks.specs.Walks.Ends.{TaskEndsAs, HandEndsAs, WorkEndsAs, StepEndsAs}
use Rattle.tg_law_walks.proofs.Walks.Commands.{syncs_find, walks_find, walks_find_again}
use Rattle.tg_law_walks.proofs.Walks.Reading.{reaches_later}
use Rattle.tg_law_walks.proofs.Walks.Syncs.{logs_by_position}
use Rattle.tg_law_walks.specs.Lists.Spared.{TrimsWereSpare}
use Rattle.tg_law_walks.proofs.Lists.Reached.{before_reached}
use Rattle.tg_law_walks.proofs.Lists.Safe.{safe_before}
use Rattle.tg_law_walks.proofs.Lists.Telling.{entries_are_good}
use Rattle.tg_law_syncs.specs.Finds.Left.{RoundsExact, RoundsKnown}
use Rattle.tg_law_syncs.specs.Exact.Finds.{RoundsExactBySpareTrims, RoundsKnownBySpareTrims}
use Rattle.tg_law_syncs.proofs.Each.{each_more}
use Rattle.tg_law_syncs.proofs.Exact.Held.{goes_on, clients_work}
use Rattle.tg_law_syncs.proofs.Exact.Exact.{step_ends}

-- What holds at the end of a step's walks, as far as another thing does, whatever entries it speaks of.
module _ (m : Meaning) (objects : List Oid) (es fs : Entries) (P Q : Client m → Work m → Type 0) (more : (c : Client m) (w : Work m) → P c w → Q c w) where
  pub event_more : (w : World m) (e : EventOf m) → EachEvent m objects es P w e → EachEvent m objects fs Q w e
  event_more w (Deliver i) p = λ x at is on. each_more m objects es fs P Q more (client m w x.to.num) x.from x.rid (reply x.msg) (p x at is on)
  event_more w (Commands k x) p = tt
  event_more w (Lose i) p = tt
  event_more w (Tick n) p = tt
  event_more w (Stop n) p = tt

-- What holds at the end of the walks of an answer and of a newer layout, of a packet that comes.
module _ (m : Meaning) (objects : List Oid) (es : Entries) (P : Client m → Work m → Type 0) where
  each_awaited : (b : Bool) (c : Client m) (w : Work m) (t : Task m) (from : NodeId) (rid : ℕ) (x : Reply) → (b ≡ true → EachFeed m objects es P c w t from.num rid x) → EachAwaited m objects es P b c w t from rid x
  each_awaited true c w t from rid x f = f refl
  each_awaited false c w t from rid x f = tt

  each_hand : (c : Client m) (w : Work m) (d : Hand m) (from : NodeId) (rid : ℕ) (x : Reply) → ((t : Task m) → d ≡ Doing t → awaits (task_awaited m c.stand t) from rid ≡ true → EachFeed m objects es P c w t from.num rid x) → EachHand m objects es P c w d from rid x
  each_hand c w (Doing t) from rid x f = each_awaited (awaits (task_awaited m c.stand t) from rid) c w t from rid x (f t refl)
  each_hand c w (Learning ws t) from rid x f = tt

  each_latest : (b : Bool) (c : Client m) (w : Work m) (q : Layout) → EachNewer m objects es P c w (task_in m w.hand) q → EachLatest m objects es P b c w q
  each_latest true c w q f = f
  each_latest false c w q f = tt

  pub each_reply : (c : Client m) (w : Work m) (from : NodeId) (rid : ℕ) (x : Reply) → ((t : Task m) → w.hand ≡ Doing t → awaits (task_awaited m c.stand t) from rid ≡ true → EachFeed m objects es P c w t from.num rid x) → ((q : Layout) → EachNewer m objects es P c w (task_in m w.hand) q)
      → EachReply m objects es P c w from rid x
  each_reply c w from rid (IsLatest q) f g = each_latest (node_eq from (layout_id from.num) && nat_lt c.stand.epoch q.epoch) c w q (g q)
  each_reply c w from rid x f g = each_hand c w w.hand from rid x f

pub of_client : (n : NodeId) → n.role ≡ role.Client → n ≡ client_id n.num
of_client n is = ap (λ (r : Role). record { role = r; num = n.num }) is

-- A step whose clients' walks are true of a log so far, and what it ends.
module _ (m : Meaning) (l : Log) (byp : IsByPosition l) (linked : AreLinked l) (objects : List Oid) where
  abbrev es : Entries
  es = entries_of l

  abbrev P : Client m → Work m → Type 0
  P = IsFound m l

  fed_exact : (c : Client m) (w : Work m) (t : Task m) (n rid : ℕ) (x : Reply) → IsAtTask m l c w t → TaskEndsAs m l c w t n x → EachFeed m objects (entries_of l) (IsFound m l) c w t n rid x
  fed_exact c w (Syncing s) n rid x i e = syncs_find m l objects c w s n rid x byp linked i e
  fed_exact c w (Walking k os) n rid x i e = walks_find m l objects c w k os n rid x byp linked i e
  fed_exact c w t n rid x i e = tt

  newer_exact : (c : Client m) (w : Work m) (t : Task m) (q : Layout) → IsAtTask m l c w t → EachNewer m objects (entries_of l) (IsFound m l) c w t q
  unfolding sync_start
  newer_exact c w (Reconfiguring r) q i = tt
  newer_exact c w (Syncing s) q i = tt
  newer_exact c w (Walking k os) q i = walks_find_again m l objects (stands m c q) w k os byp linked (record { round = i.round; walk = i.walk; low = i.low })
  newer_exact c w (Appending a y) q i = tt
  newer_exact c w (Trimming t) q i = tt
  newer_exact c w (Copying' x) q i = tt

  pub delivery_exact : (c : Client m) (o : Option (Work m)) (from : NodeId) (rid : ℕ) (x : Reply) → c.work ≡ o → IsAtWork m l c o → WorkEndsAs m l c o from rid x → EachDelivery m objects (entries_of l) (IsFound m l) c o from rid x
  delivery_exact c None from rid x is i e = tt
  delivery_exact c (Some w) from rid x is i e = each_reply m objects (entries_of l) (IsFound m l) c w from rid x (λ t at a. fed_exact c w t from.num rid x (subst (λ (d : Hand m). IsAtTask m l c w (task_in m d)) at i) (subst (λ (d : Hand m). HandEndsAs m l c w d from rid x) at e a)) (λ q. newer_exact c w (task_in m w.hand) q i)

  event_exact : (w : World m) (e : EventOf m) → ((k : ℕ) → IsAtWork m l (client m w k) (client m w k).work) → ((k : ℕ) → StepEndsAs m l w e k) → EachEvent m objects (entries_of l) (IsFound m l) w e
  event_exact w (Deliver i) work ends = λ x at is on. delivery_exact (client m w x.to.num) (client m w x.to.num).work x.from x.rid (reply x.msg) refl (work x.to.num) (ends x.to.num x at (of_client x.to is))
  event_exact w (Commands k x) work ends = tt
  event_exact w (Lose i) work ends = tt
  event_exact w (Tick n) work ends = tt
  event_exact w (Stop n) work ends = tt

-- Over a run.

module _ (m : Meaning) where
  -- a step of a world, by the log of a later one
  each_exact : (h : Header) (ms : Moves m) (w v : World m) (r : Reaches m h ms w) (later : Later m w v) → TrimsWereSpare m h (ms ++ later.0) → (e : EventOf m) → EachEvent m h.objects (entries_in m v) (IsFound m (log m v)) w e
  each_exact h ms w v r later trims e =
      event_exact m (log m v) (logs_by_position m v) (entries_are_good m h (ms ++ later.0) v (reaches_later m h ms w v r later) trims) h.objects w e
      (clients_work m h ms w v r later trims).work (λ k. step_ends m h ms w v r later trims e k)

  -- up to a world through which a run came
  pub spare_before : (h : Header) (zs xs ys : Moves m) → TrimsWereSpare m h zs → zs ≡ xs ++ ys → TrimsWereSafe m h xs → TrimsWereSpare m h xs
  spare_before h zs xs ys trims split safe = record {
    safe = safe;
    spare = λ u g. trims.spare u (record { before = g.before; event = g.event; later = g.later ++ ys; split = split ∙ (ap (λ (ms : Moves m). ms ++ ys) g.split ∙ joined g.before (Takes g.event ∷ g.later) ys); is = g.is });
  }

  module _ (h : Header) (zs : Moves m) (r : Reaches m h zs (after m h zs)) (trims : TrimsWereSpare m h zs) (xs : Moves m) (e : EventOf m) (ys : Moves m) (split : zs ≡ xs ++ Takes e ∷ ys) where
    here : Reaches m h xs (after m h xs)
    here = before_reached m h zs r xs (Takes e ∷ ys) split

    exact_at_end : EachEvent m h.objects (entries_in m (after m h zs)) (IsFound m (log m (after m h zs))) (after m h xs) e
    exact_at_end = each_exact h xs (after m h xs) (after m h zs) here (Takes e ∷ ys, goes_on m h zs r xs (Takes e ∷ ys) split) (subst (λ (ms : Moves m). TrimsWereSpare m h ms) split trims) e

    -- the world itself, as a later one
    abbrev itself : Later m (after m h xs) (after m h xs)
    itself = ([], goes_on m h xs here xs [] (sym (append-nil xs)))

    spare : TrimsWereSpare m h (xs ++ [])
    spare = subst (λ (ms : Moves m). TrimsWereSpare m h ms) (sym (append-nil xs)) (spare_before h zs xs (Takes e ∷ ys) trims split (safe_before m h zs r trims xs (Takes e ∷ ys) split))

    exact_at_hand : EachEvent m h.objects (entries_in m (after m h xs)) (IsFound m (log m (after m h xs))) (after m h xs) e
    exact_at_hand = each_exact h xs (after m h xs) (after m h xs) here itself spare e

    known_at_hand : EachEvent m h.objects (entries_in m (after m h zs)) (λ c x. AreKnown (log m (after m h xs)) c.cells) (after m h xs) e
    known_at_hand = event_more m h.objects (entries_in m (after m h xs)) (entries_in m (after m h zs)) (IsFound m (log m (after m h xs))) (λ c x. AreKnown (log m (after m h xs)) c.cells) (λ c x f. f.known) (after m h xs) e exact_at_hand

  pub at_end : (P : Header → Moves m → World m → Type 0) → ((h : Header) (ms : Moves m) → Reaches m h ms (after m h ms) → TrimsWereSpare m h ms → P h ms (after m h ms)) → (h : Header) (ms : Moves m) (w : World m) → Reaches m h ms w → TrimsWereSpare m h ms → P h ms w
  at_end P f h ms w r trims = subst (P h ms) (sym r.goes.is) (f h ms (subst (Reaches m h ms) r.goes.is r) trims)

  pub rounds_exact : RoundsExactBySpareTrims m
  rounds_exact = at_end (RoundsExact m) (λ h ms r trims xs ys e split. exact_at_end h ms r trims xs e ys split)

  pub rounds_known : RoundsKnownBySpareTrims m
  rounds_known = at_end (RoundsKnown m) (λ h ms r trims xs ys e split. known_at_hand h ms r trims xs e ys split)
