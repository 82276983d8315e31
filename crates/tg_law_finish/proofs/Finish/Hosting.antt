-- Through each of a client's turns: it hosts 128 objects at most, and its command walks 128 streams at most.
use Rattle.std.proofs.Common.{◌≡◌, ℕ, ◌<◌, ◌≤◌, List, [], ◌∷◌, Bool, true, false, refl, sym, ◌∙◌, subst, arith, Option, Some, None}
use Rattle.std.specs.Prelude.{not, nat_le, ◌&&◌, length}
use Rattle.std.proofs.lemmas.Bool.Decides.{nat_tests}
use Rattle.tg_base.specs.Clusters.{Header}
use Rattle.tg_base.specs.declared.fault.Many.TheVariants as many
use Rattle.tg_base.specs.declared.ids.NodeId.{NodeId}
use Rattle.tg_base.specs.declared.ids.Oid.{Oid}
use Rattle.tg_base.specs.declared.msg.Msg.{Msg}
use Rattle.tg_kind.specs.Meaning.{Meaning}
use Rattle.tg_model.specs.declared.command.Command.TheVariants as cmd
use Rattle.tg_model.specs.declared.refusal.Refusal.{Refusal}
use Rattle.tg_model.specs.declared.refusal.Refusal.TheVariants as cause
use Rattle.tg_model.specs.Kinds.{CommandOf, WhatOf, NoteOf}
use Rattle.tg_protocol.specs.Words.{first_some, numbers, where_true}
use Rattle.tg_protocol.specs.Replies.{reply}
use Rattle.tg_protocol.specs.Appending.{append_start}
use Rattle.tg_protocol.specs.Syncing.{sync_start}
use Rattle.tg_protocol.specs.Views.{View}
use Rattle.tg_protocol.specs.Clients.{Work, Client, busy, tx_open, not_registered, too_many_hosted, tests, hosts_oid, all_entries, refusal, new_client}
use Rattle.tg_protocol.specs.Answers.{Moved, pruned, took_over, appends, syncs}
use Rattle.tg_protocol.specs.ClientSteps.{ClientTurn, owns, client_command, client_deliver, client_tick}
use Rattle.tg_protocol.specs.Worlds.{World, start}
use Rattle.tg_protocol.specs.Runs.{Moves, Reaches}
use Rattle.tg_law_steps.proofs.Places.{Place}
use Rattle.tg_law_steps.proofs.Ways.{Way, FeedsSync, AllWalked, HasPlayed}
use Rattle.tg_law_steps.proofs.Ends.{End, GoesOn, LearnsNewer, Syncs, Appends, Refuses, Answers, Tells, SyncGoes, JudgedAt, Widens, MarkBegins, RecordForgotten, IsAnswered, IsSaved, IsCommitted, IsMarked}
use Rattle.tg_law_steps.proofs.Takes.{IsSaid, Hosts, Taken, SaidAtOnce, SyncsFirst, said_work}
use Rattle.tg_law_steps.proofs.Along.{delivered, commanded, ticked, over_walks}
use Rattle.tg_law_layouts.specs.Moves.Configs.{Config, config, client_in}
use Rattle.tg_law_layouts.proofs.Moves.Lists.{at_set, at_map}
use Rattle.tg_law_layouts.proofs.Moves.Moves.{ClientInput, Commanded, Hears', Ticks', Cases, run_keeps}
use Rattle.tg_law_layouts.proofs.Moves.Turns.{not_busy}
use Rattle.tg_law_finish.proofs.Finish.Rescuers.{one_more, wider_is}

-- the first of some tests that find nothing finds nothing
first_none : (a : Option Refusal) (os : List (Option Refusal)) → first_some (a ∷ os) ≡ None → (a ≡ None) × (first_some os ≡ None)
first_none None os e = (refl, e)
first_none (Some x) os e = absurd cc

module _ (m : Meaning) where
  -- 128 streams at most
  abbrev pub AreFew : List Oid → Type 0
  AreFew os = length os ≤ 128

  abbrev pub WorkFew : Option (Work m) → Type 0
  WorkFew None = Unit {0}
  WorkFew (Some w) = AreFew w.oids

  -- a client hosts few streams, and its command walks few
  pub record Hosting (c : Client m) : Type 0 where
    pub hosted : AreFew c.hosted
    pub work : WorkFew c.work

  abbrev Good : Moved m → Type 0
  Good x = Hosting x.now

  -- a client and its command within the step
  abbrev In : Client m → Work m → Type 0
  In c w = AreFew c.hosted × AreFew w.oids

  takes : (c : Client m) (v : Option (View m)) → AreFew c.hosted → Hosting (pruned m (took_over m c v))
  takes c None few = record { hosted = few; work = tt }
  takes c (Some v) few = record { hosted = few; work = tt }

  -- Along a turn.

  way : (c : Client m) (w : Work m) (p : Place m) (d : Client m) (v : Work m) (q : Place m) → Way m c w p d v q → In c w → In d v
  way c w _ _ _ _ (FeedsSync s n rid x) h = h
  way c w _ _ _ _ x h = h

  walked_way : (c : Client m) (w : Work m) (d : Client m) (q : Place m) → AllWalked m c w d q → In c w → In d w
  walked_way c w _ _ (HasPlayed k) h = h
  walked_way c w _ _ x h = h

  answered_few : (c : Client m) (w : Work m) (p : Place m) (d : Client m) (n : ℕ) (what : WhatOf m) → IsAnswered m c w p d n what → In c w → AreFew d.hosted
  answered_few c w _ _ _ _ (IsSaved o upto bs p d) h = h.0
  answered_few c w _ _ _ _ x h = h.0

  ends_good : (c : Client m) (w : Work m) (p : Place m) (x : Moved m) → End m c w p x → In c w → Good x
  unfolding appends append_start syncs sync_start
  ends_good c w _ _ (GoesOn _ _ _ (SyncGoes bs s)) h = record { hosted = h.0; work = h.1 }
  ends_good c w _ _ (GoesOn _ _ _ x) h = record { hosted = h.0; work = h.1 }
  ends_good c w _ _ (LearnsNewer t x) h = record { hosted = h.0; work = h.1 }
  ends_good c w _ _ (Syncs _ _ _ (JudgedAt bs p d)) h = record { hosted = h.0; work = h.0 }
  ends_good c w _ _ (Syncs _ _ _ (Widens at o e)) h =
      let less = wider_is m (all_entries m c w w.oids) w.trims w.oids c.objects at o e in
      let fewer = less.1 in
      let long = one_more o w.oids less.0 in
      record { hosted = h.0; work = omega (arith, fewer, long) }
  ends_good c w _ _ (Syncs _ _ _ x) h = record { hosted = h.0; work = h.1 }
  ends_good c w _ _ (Appends _ _ _ _ (MarkBegins es p upto o n of came may)) h = record { hosted = h.0; work = h.1 }
  ends_good c w _ _ (Appends _ _ _ _ x) h = record { hosted = h.0; work = h.1 }
  ends_good c w _ _ (Refuses _ _ _ (RecordForgotten y bs p b of)) h = record { hosted = h.0; work = tt }
  ends_good c w _ _ (Refuses _ _ _ x) h = record { hosted = h.0; work = tt }
  ends_good c w p _ (Answers d n what x) h = takes d d.view (answered_few c w p d n what x h)
  ends_good c w _ _ (Tells _ _ (IsCommitted bs p d)) h = record { hosted = h.0; work = tt }
  ends_good c w _ _ (Tells _ _ (IsMarked n o mark bs p d)) h = takes (owns m c p d) c.view h.0
  ends_good c w _ _ (Tells _ _ x) h = record { hosted = h.0; work = tt }

  -- Commands.

  module _ (c : Client m) (l : Hosting c) where
    -- what its tests leave of a command
    room : (o : Oid) → refusal m c (cmd.Host o) ≡ None → hosts_oid m c o ≡ false → length c.hosted < 128
    unfolding refusal tests
    room o fine none =
        let a = first_none (busy m c.work) _ fine in
        let b = first_none (tx_open m c) _ a.1 in
        let d = first_none (not_registered m c o) _ b.1 in
        let e = first_none (too_many_hosted m c o) [] d.1 in
        by (hosts_oid m c o) (nat_le 128 (length c.hosted)) none refl e.0
      where
        by : (b t : Bool) → b ≡ false → nat_le 128 (length c.hosted) ≡ t → where_true (not b && t) (cause.TooMany many.Hosted) ≡ None → length c.hosted < 128
        by true t e g f = absurd cc
        by false true e g f = absurd cc
        by false false e g f = grind (arith, nat_tests, g)

    said_few : (x : CommandOf m) (d : Client m) (ns : List (NoteOf m)) → IsSaid m c x d ns → refusal m c x ≡ None → AreFew d.hosted
    said_few _ _ _ (Hosts o none) fine = let less = room o fine none in let long = one_more o c.hosted none in omega (arith, less, long)
    said_few _ _ _ s fine = l.hosted

    takes_good : (x : CommandOf m) → refusal m c x ≡ None → (y : Moved m) → Taken m c x y → Good y
    unfolding appends append_start syncs sync_start
    takes_good _ fine _ (SaidAtOnce x d ns s) =
        record { hosted = said_few x d ns s fine; work = subst WorkFew (sym (said_work m c x d ns s ∙ not_busy m c x fine)) tt }
    takes_good _ fine _ (SyncsFirst x k) = record { hosted = l.hosted; work = l.hosted }
    takes_good _ fine _ x = record { hosted = l.hosted; work = omega arith }

  -- The turns.

  of_moved : (d : Client m) (n : ℕ) → Hosting d → Hosting (record d { calls = n })
  of_moved d n l = record { hosted = l.hosted; work = l.work }

  command_hosting : (c : Client m) (x : CommandOf m) → Hosting c → Hosting (client_command m c x).now
  unfolding client_command
  command_hosting c x l = of_moved _ _ (commanded m Good c x (λ why e. record { hosted = l.hosted; work = l.work }) (λ e. takes_good c l x e))

  deliver_hosting : (c : Client m) (from : NodeId) (rid : ℕ) (x : Msg) → Hosting c → Hosting (client_deliver m c from rid x).now
  unfolding client_deliver
  deliver_hosting c from rid x l =
      of_moved _ _ (delivered m (λ d w p. In d w) Good ends_good way (over_walks m (λ d w p. In d w) Good ends_good walked_way) c from rid (reply x) (record { hosted = l.hosted; work = l.work })
      (λ w t has doing a other. (l.hosted, subst WorkFew has l.work))
      (λ w q has is e. (l.hosted, subst WorkFew has l.work)))

  tick_hosting : (c : Client m) → Hosting c → Hosting (client_tick m c).now
  tick_hosting c l = ticked m (λ (t : ClientTurn m). Hosting t.now) c (λ e. record { hosted = l.hosted; work = l.work }) (λ w e. record { hosted = l.hosted; work = l.work })

  -- Each client of a run.

  abbrev AllHosting : Config m → Type 0
  AllHosting c = (k : ℕ) → Hosting (client_in m c k)

  turn_hosting : (c : Config m) → AllHosting c → (k : ℕ) (t : ClientTurn m) → ClientInput m c k t → Hosting t.now
  turn_hosting c h k t (Commanded x) = command_hosting (client_in m c k) x (h k)
  turn_hosting c h k t (Hears' p comes) = deliver_hosting (client_in m c k) p.from p.rid p.msg (h k)
  turn_hosting c h k t Ticks' = tick_hosting (client_in m c k) (h k)

  hosting_keeps : (c : Config m) → AllHosting c → Cases m c AllHosting
  hosting_keeps c h = record {
    idle = h;
    unit = λ u p a less. h;
    layout = λ l p a less. h;
    seqr = λ s t i less. h;
    client = λ k t i less. at_set c.clients k t.now (new_client m c.cluster) (λ j d. Hosting d) less (turn_hosting c h k t i) (λ j other. h j);
  }

  new_hosting : (h : Header) (j : ℕ) → Hosting (new_client m h j)
  unfolding new_client
  new_hosting h j = record { hosted = omega arith; work = tt }

  start_hosting : (h : Header) → AllHosting (config m (start m h))
  unfolding start
  start_hosting h k = at_map (new_client m h) (numbers h.clients 0) k (new_client m h k) (λ d. Hosting d) (new_hosting h) (new_hosting h k)

  pub hosting : (h : Header) (ms : Moves m) (w : World m) → Reaches m h ms w → AllHosting (config m w)
  hosting h ms w r = subst (λ (v : World m). AllHosting (config m v)) (sym r.goes.is) (run_keeps m AllHosting hosting_keeps ms (start m h) (start_hosting h))
