-- Over a run, the tail for which each client walks was told by the sequencer of a decided layout, and is confirmed.
use Rattle.std.proofs.Common.{◌≡◌, ◌⊎◌, ℕ, ◌+◌, ◌-◌, ◌<◌, ◌≤◌, List, [], ◌∷◌, ◌++◌, length, true, refl, sym, ap, ◌∙◌, subst, inl, inr, arith, Some, Option, append-nil}
use Rattle.std.specs.Prelude.{slice_index_or}
use Rattle.tg_base.specs.Clusters.{Header}
use Rattle.tg_base.specs.Layouts.{Layout}
use Rattle.tg_base.specs.declared.cell.Cell.{Cell}
use Rattle.tg_base.specs.declared.ids.Role.TheVariants as role
use Rattle.tg_base.specs.declared.marks.StreamLink.{StreamLink}
use Rattle.tg_base.specs.declared.msg.Msg.{Msg}
use Rattle.tg_base.specs.declared.msg.Msg.TheVariants as msg
use Rattle.tg_base.specs.declared.packet.Out.{Out}
use Rattle.tg_base.specs.declared.packet.Packet.{Packet}
use Rattle.tg_base.proofs.Rules.{layout_rules}
use Rattle.tg_kind.specs.Meaning.{Meaning}
use Rattle.tg_model.specs.Kinds.{EventOf}
use Rattle.tg_model.specs.declared.command.Event.TheVariants.{Command as Commands, Deliver, Lose, Tick, Stop}
use Rattle.tg_protocol.specs.Words.{client_id, seqr_id, unit_id, numbers}
use Rattle.tg_protocol.specs.Requests.{awaits, Next, Ends}
use Rattle.tg_protocol.specs.Replies.{reply, IsTail}
use Rattle.tg_protocol.specs.Cells.{Place, CellJob, CellEnd, Done, Gone, cell_feed}
use Rattle.tg_protocol.specs.Syncing.{Answer, SyncWork, Checking, Settling, Sync}
use Rattle.tg_protocol.specs.Units.{unit_ask}
use Rattle.tg_protocol.specs.Clients.{Syncing, Walking, Appending, Trimming, Copying', Reconfiguring, Hand, Doing, Work, Client, new_client}
use Rattle.tg_protocol.specs.ClientSteps.{ClientTurn, task_awaited}
use Rattle.tg_protocol.specs.Worlds.{World, start, happens, next_event}
use Rattle.tg_protocol.specs.Chosen.{Sent}
use Rattle.tg_protocol.specs.Runs.{Moves, Next as Counts, Takes, run, Reaches}
use Rattle.tg_law_layouts.specs.Moves.After.{after}
use Rattle.tg_law_layouts.specs.Moves.Configs.{Config, config, client_in}
use Rattle.tg_law_layouts.proofs.Moves.Clients.{reserved, work_reserved, hand_reserved}
use Rattle.tg_law_layouts.proofs.Moves.Growth.{IsCalm, by_client}
use Rattle.tg_law_layouts.proofs.Moves.Lists.{contained, at_map, at_set}
use Rattle.tg_law_layouts.proofs.Moves.Members.{Has, has_got}
use Rattle.tg_law_layouts.proofs.Moves.Moves.{Comes, client_turn, ClientInput, Commanded, Hears', Ticks', step_cases}
use Rattle.tg_law_layouts.proofs.Moves.Scripts.{run_both}
use Rattle.tg_law_layouts.proofs.Requests.Starts.{All, all_hold}
use Rattle.tg_law_layouts.specs.Layouts.Decisions.{IsOfDecided}
use Rattle.tg_law_layouts.proofs.Layouts.Deciding.{layouts_are_known, layouts_are_sound, decided_stays}
use Rattle.tg_law_cells.proofs.Cells.Hands as cells
use Rattle.tg_law_cells.proofs.Cells.Jobs.{JobOk, SyncClaims, cell_ok}
use Rattle.tg_law_cells.proofs.Cells.Justified.{Awaited, awaited_ask, EndOk, NextOk, heard}
use Rattle.tg_law_cells.proofs.Cells.Sent.{Heard, task_claims}
use Rattle.tg_law_cells.proofs.Cells.Stores.{cells_hold}
use Rattle.tg_law_cells.specs.Homes.Homes.{TrimAsked, ToldGone, epoch_asked}
use Rattle.tg_law_cells.proofs.Homes.Gones.{gone_is_asked}
use Rattle.tg_law_cells.proofs.Entries.Lists.{joined}
use Rattle.tg_law_replies.specs.History.Worlds.{entries_in}
use Rattle.tg_law_replies.specs.Replies.Steps.{EachEvent}
use Rattle.tg_law_walks.specs.Lists.Drafted.{DraftsFit}
use Rattle.tg_law_walks.specs.Lists.Spared.{WasSettled, TrimsSaved, TrimsWereSpare}
use Rattle.tg_law_walks.specs.Lists.Telling.{tells_links}
use Rattle.tg_law_walks.proofs.Lists.Fits.{drafts_fit}
use Rattle.tg_law_walks.proofs.Lists.Reached.{before_reached, goes_later}
use Rattle.tg_law_walks.proofs.Lists.Scanning.{AtTrim, OfUnit, at_trim, is_gone}
use Rattle.tg_law_cells.specs.Order.Tails.{ToldTail, IsSettledBelow, ConfirmedTail}
use Rattle.tg_law_syncs.proofs.Syncs.Clients.{asked_check, settling_asks, job_of}
use Rattle.tg_law_syncs.proofs.Syncs.Confirming.{InTime, settled_by}
use Rattle.tg_law_syncs.proofs.Syncs.Later.{grow, late}
use Rattle.tg_law_syncs.proofs.Known.Past.{answers_hold}
use Rattle.tg_law_syncs.proofs.Exact.Finds.{event_more, of_client}
use Rattle.tg_law_headline.specs.Trims.Floors.{HasTail, ConfirmsTail}
use Rattle.tg_law_headline.specs.Floors.Confirming.{WalksHaveTails, TrimsConfirmTails}
use Rattle.tg_law_headline.proofs.Floors.Turns.{ClientTold, ClientHears, command_fine, deliver_fine, tick_fine, delivery_at}

tail_message : (y : Msg) (t : ℕ) (ls : List StreamLink) → reply y ≡ IsTail t ls → y ≡ msg.Tail t ls
unfolding reply
tail_message y t ls h = grind arith

tail_links : (t : ℕ) (ls : List StreamLink) → tells_links (msg.Tail t ls) ≡ Some (t, ls)
unfolding tells_links
tail_links t ls = refl

last_of : (t q : ℕ) → q ≡ t - 1 → (t ≡ 0) ⊎ (t ≡ q + 1)
last_of t q e = grind arith

module _ (m : Meaning) (h : Header) (zs : Moves m) (r : Reaches m h zs (after m h zs)) (trims : TrimsWereSpare m h zs) (fit : DraftsFit m (after m h zs)) where
  abbrev w : World m
  w = after m h zs

  -- What a tail has: it was told by the sequencer of a decided layout; the position below it is settled, or it isn't past the
  -- layout's start.

  pub record IsTold (p : Layout) (t : ℕ) : Type 0 where
    pub decided : IsOfDecided m (after m h zs) p
    pub some : 0 < p.epoch
    pub told : ToldTail m (after m h zs) p.seq p.epoch t

  abbrev pub Settled : Layout → ℕ → Type 0
  Settled p t = (t ≤ p.start) ⊎ IsSettledBelow m (after m h zs) p.epoch t

  pub record IsPast (p : Layout) (t : ℕ) : Type 0 where
    pub epoch : ℕ
    pub up_to : epoch ≤ p.epoch
    pub tail : ConfirmedTail m (after m h zs) (after m h zs) epoch t

  pub low : (p : Layout) (t : ℕ) → t ≤ p.start → Settled p t
  low p t le = inl le

  pub both : (p : Layout) (t : ℕ) → IsTold p t → Settled p t → IsPast p t
  both p t k s = record { epoch = p.epoch; up_to = omega arith; tail = record { some = k.some; layout = p; decided = k.decided; told = k.told; confirmed = s } }

  pub onto : (p q : Layout) (t : ℕ) → p.epoch < q.epoch → IsPast p t → IsPast q t
  onto p q t less k = record { epoch = k.epoch; up_to = (let a = k.up_to in omega (arith, a, less)); tail = k.tail }

  abbrev Told : Client m → Type 0
  Told c = ClientTold m IsTold Settled IsPast low both onto c

  pub record Held (c : Config m) : Type 0 where
    pub clients : (k : ℕ) → Told (client_in m c k)

  -- What a client hears, in a world in which trims are spare.

  module _ (xs ys : Moves m) (split : zs ≡ xs ++ ys) (now : TrimsSaved m (after m h xs)) (k : ℕ) (x : Packet) (comes : Comes m (config m (after m h xs)) x (client_id k)) where
    abbrev cl : Client m
    cl = client_in m (config m (after m h xs)) k

    abbrev p : Layout
    p = (client_in m (config m (after m h xs)) k).stand

    rw : Reaches m h xs (after m h xs)
    rw = before_reached m h zs r xs ys split

    all : All m (config m (after m h xs))
    all = all_hold m h xs

    decided : IsOfDecided m (after m h xs) p
    decided = (layouts_are_known m h xs (after m h xs) rw).clients k

    late_decided : IsOfDecided m (after m h zs) p
    late_decided = (decided_stays m h xs (after m h xs) (after m h zs) rw (goes_later m h zs r xs ys split)).stays p.epoch p decided

    some_epoch : 0 < p.epoch
    some_epoch = let a = (layout_rules p (layouts_are_sound m h xs (after m h xs) rw p.epoch p decided).rules).epoch in omega (arith, a)

    sent : (y : Packet) → Has (after m h xs).packets y → Sent m (after m h zs) y
    sent y g = contained (after m h zs).packets y (grow m h zs r xs ys split y g)

    -- a position that is settled here confirms the tail past it
    settled_there : (t q : ℕ) → q ≡ t - 1 → WasSettled m (after m h xs) p.epoch q → Settled p t
    settled_there t q at g = by (last_of t q at)
      where
        by : (t ≡ 0) ⊎ (t ≡ q + 1) → Settled p t
        by (inl z) = inl (omega (arith, z))
        by (inr is) = inr (record { below = q; is = is; cell = g.cell; settled = late m h zs r xs ys split q g.cell g.settled; early = g.in_time })

    module _ (work : Work m) (s : Sync) (works : cl.work ≡ Some work) (hand : work.hand ≡ Doing (Syncing s)) (awaited : awaits (task_awaited m p (Syncing s)) x.from x.rid ≡ true) where
      asks_open : (o : Out) → Has (task_awaited m p (Syncing s)) o → Has (reserved m cl) o
      asks_open o g = subst (λ (v : Option (Work m)). Has (work_reserved m p v) o) (sym works) (subst (λ (d : Hand m). Has (hand_reserved m p d) o) (sym hand) g)

      in_hand : cells.TaskOk m (after m h xs).packets p (Syncing s)
      in_hand = subst (λ (d : Hand m). cells.HandOk m (after m h xs).packets p d) hand (subst (λ (o : Option (Work m)). cells.WorkOk m (after m h xs).packets p o) works ((cells_hold m h xs).hands k))

      job : (a : Answer) (j : CellJob) → s.work ≡ Settling a j → JobOk (after m h xs).packets p j
      job a j at = job_of m p s (after m h xs).packets a j at in_hand

      -- the sequencer's answer
      tail : (rid t : ℕ) (ls : List StreamLink) → s.work ≡ Checking rid → reply x.msg ≡ IsTail t ls → IsTold p t
      tail rid t ls at says = by (awaited_ask (task_awaited m p (Syncing s)) x.from x.rid awaited)
        where
          by : Awaited (task_awaited m p (Syncing s)) x.from x.rid → IsTold p t
          by a = checked (asked_check m p s rid at a.ask a.has)
            where
              checked : (a.ask.to ≡ seqr_id p.seq) × (a.ask.msg ≡ msg.Check p.epoch s.oids) → IsTold p t
              checked q =
                  let from : x.from ≡ seqr_id p.seq = sym a.to ∙ q.0 in
                  let g = (answers_hold m h xs).1.each p.seq x t ls comes.sent from (ap tells_links (tail_message x.msg t ls says) ∙ tail_links t ls) in
                  let same : a.ask.msg ≡ g.ask.msg = (all.0.0.clients k).agree a.ask g.ask (asks_open a.ask a.has) g.has (g.from ∙ comes.to_node) g.request (a.number ∙ sym g.rid) (a.to ∙ sym g.to) in
                  record {
                    decided = late_decided;
                    some = some_epoch;
                    told = record {
                      streams = s.oids;
                      links = ls;
                      ask = g.ask;
                      answer = x;
                      asked = sent g.ask g.has;
                      answered = sent x comes.sent;
                      to_seqr = g.to ∙ from;
                      from_seqr = from;
                      back = sym g.from;
                      number = sym g.rid;
                      asks = sym same ∙ q.1;
                      tells = tail_message x.msg t ls says;
                    };
                  }

      -- the cell below it
      done : (a : Answer) (j : CellJob) (c : Cell) → s.work ≡ Settling a j → j.place.pos ≡ a.tail - 1 → (cell_feed j x.from.num (reply x.msg) cl.next).to ≡ Ends (Done c) → Settled p a.tail
      done a j c at pos ends = settled_there a.tail j.place.pos pos (record { cell = c; settled = there.settled; in_time = there.in_time })
        where
          hears : Heard (after m h xs).packets x.from x.rid x.msg (reserved m cl)
          hears o g to number u from y is = (heard m (config m (after m h xs)) all.0.0 all.0.1 k u o x g comes.sent comes.to_node from to number).tells y is

          claims : cells.TaskClaims m (after m h xs).packets p (Syncing s) x.msg
          claims = task_claims (after m h xs).packets x.from x.rid x.msg m p (Syncing s) awaited
              (subst (λ (d : Hand m). Heard (after m h xs).packets x.from x.rid x.msg (hand_reserved m p d)) hand
              (subst (λ (o : Option (Work m)). Heard (after m h xs).packets x.from x.rid x.msg (work_reserved m p o)) works hears))

          end : EndOk (after m h xs).packets j.place (Done c)
          end = subst (λ (z : Next CellJob CellEnd). NextOk (after m h xs).packets j.place z) ends
              (cell_ok (after m h xs).packets p j x.msg (job a j at) (subst (λ (v : SyncWork). SyncClaims (after m h xs).packets p v x.msg) at claims) x.from.num cl.next)

          there : InTime m h xs ys (subst (λ (ms : Moves m). Reaches m h ms (after m h ms)) split r) (subst (λ (ms : Moves m). TrimsWereSpare m h ms) split trims) (subst (λ (ms : Moves m). DraftsFit m (after m h ms)) split fit) k j.place.pos c
          there = settled_by m h xs ys (subst (λ (ms : Moves m). Reaches m h ms (after m h ms)) split r) (subst (λ (ms : Moves m). TrimsWereSpare m h ms) split trims) (subst (λ (ms : Moves m). DraftsFit m (after m h ms)) split fit) k j.place.pos c
              (subst (λ (q : Place). EndOk (after m h xs).packets q (Done c)) (job a j at).place end)

      -- a unit's answer that it is trimmed
      gone : (a : Answer) (j : CellJob) (b : ℕ) → s.work ≡ Settling a j → j.place.pos ≡ a.tail - 1 → (cell_feed j x.from.num (reply x.msg) cl.next).to ≡ Ends (Gone b) → Settled p a.tail
      gone a j b at pos ends = by (awaited_ask (task_awaited m p (Syncing s)) x.from x.rid awaited)
        where
          trim : AtTrim j (reply x.msg) b
          trim = at_trim j x.from.num (reply x.msg) cl.next b ends

          place : j.place.epoch ≡ p.epoch
          place = ap (λ (y : Place). y.epoch) (job a j at).place

          trimmed : TrimAsked m (after m h xs) p.epoch b → Settled p a.tail
          trimmed t = was (now.whole t.packet t.of b j.place.pos t.sent t.is trim.past)
            where
              was : WasSettled m (after m h xs) t.of j.place.pos → Settled p a.tail
              was g = settled_there a.tail j.place.pos pos (record { cell = g.cell; settled = g.settled; in_time = (let i = g.in_time in let u = t.up_to in omega (arith, i, u)) })

          by : Awaited (task_awaited m p (Syncing s)) x.from x.rid → Settled p a.tail
          by v = of_unit (trim.asks v.ask (settling_asks m p s a j at v.ask v.has))
            where
              of_unit : OfUnit j.place.epoch v.ask → Settled p a.tail
              of_unit of =
                  let from : x.from ≡ unit_id of.1.0 = sym v.to ∙ of.1.1 in
                  let heard' = all.0.1.answered of.1.0 x comes.sent from in
                  let same : v.ask.msg ≡ heard'.ask.msg = (all.0.0.clients k).agree v.ask heard'.ask (asks_open v.ask v.has) heard'.asked (heard'.from ∙ comes.to_node) heard'.request (v.number ∙ sym heard'.rid) (v.to ∙ sym heard'.to) in
                  let told : ToldGone m (after m h xs) of.1.0 p.epoch b = record {
                    ask = heard'.ask;
                    answer = x;
                    asked = contained _ heard'.ask heard'.asked;
                    answered = contained _ x comes.sent;
                    to_unit = heard'.to ∙ from;
                    from_unit = from;
                    back = sym heard'.from;
                    number = sym heard'.rid;
                    request = heard'.request;
                    of = ap (λ (y : Msg). epoch_asked (unit_ask y)) (sym same) ∙ (of.0 ∙ place);
                    is = is_gone x.msg b trim.says;
                  } in
                  trimmed (gone_is_asked m h xs (after m h xs) rw of.1.0 p.epoch b told (let l = trim.past in omega (arith, l)))

    pub hears_all : ClientHears m IsTold Settled IsPast low both onto cl x.from x.rid (reply x.msg)
    hears_all v (Syncing s) works hand awaited = record {
      tail = λ rid t ls at is. (tail v s works hand awaited rid t ls at is, tt);
      gone = λ a j b at pos ends so. gone v s works hand awaited a j b at pos ends;
      done = λ a j c at pos ends so. done v s works hand awaited a j c at pos ends;
    }
    hears_all v (Walking y os) works hand awaited = tt
    hears_all v (Appending a y) works hand awaited = tt
    hears_all v (Trimming t) works hand awaited = tt
    hears_all v (Copying' y) works hand awaited = tt
    hears_all v (Reconfiguring y) works hand awaited = tt

  -- A step.

  module _ (xs : Moves m) (e : EventOf m) (ys : Moves m) (split : zs ≡ xs ++ Takes e ∷ ys) (held : Held (config m (after m h xs))) where
    spare : TrimsSaved m (after m h xs)
    spare = trims.spare (after m h xs) (record { before = xs; event = e; later = ys; split = split; is = refl })

    turned : (k : ℕ) (t : ClientTurn m) → ClientInput m (config m (after m h xs)) k t → Told t.now
    turned k t (Commanded x) = command_fine m IsTold Settled IsPast low both onto (client_in m (config m (after m h xs)) k) x (held.clients k)
    turned k t (Hears' x comes) = deliver_fine m IsTold Settled IsPast low both onto (client_in m (config m (after m h xs)) k) x.from x.rid x.msg (held.clients k) (hears_all xs (Takes e ∷ ys) split spare k x comes)
    turned k t Ticks' = tick_fine m IsTold Settled IsPast low both onto (client_in m (config m (after m h xs)) k) (held.clients k)

    calm : IsCalm m role.Client (config m (after m h xs)) Held
    calm d q = record { clients = λ k. subst Told (λ i. slice_index_or (sym (q.clients refl) i) k (new_client m (sym q.cluster i) k)) (held.clients k) }

    own : (k : ℕ) (t : ClientTurn m) → ClientInput m (config m (after m h xs)) k t → k < length (after m h xs).clients → Held (client_turn m (config m (after m h xs)) k t)
    own k t i less = record { clients = at_set (after m h xs).clients k t.now (new_client m (after m h xs).cluster) (λ j x. Told x) less (turned k t i) (λ j other. held.clients j) }

    stepped : Held (config m (happens m (after m h xs) e))
    stepped = step_cases m (after m h xs) Held (by_client m Held (config m (after m h xs)) held calm own) e

  -- Along the run.

  then_takes : (xs : Moves m) (e : EventOf m) → after m h (xs ++ Takes e ∷ []) ≡ happens m (after m h xs) e
  unfolding run
  then_takes xs e = run_both m xs (Takes e ∷ []) (start m h)

  then_next : (xs : Moves m) → after m h (xs ++ Counts ∷ []) ≡ next_event m (after m h xs)
  unfolding run
  then_next xs = run_both m xs (Counts ∷ []) (start m h)

  held_on : (xs ms ys : Moves m) → zs ≡ xs ++ (ms ++ ys) → Held (config m (after m h xs)) → Held (config m (after m h (xs ++ ms)))
  held_on xs [] ys e a = subst (λ (us : Moves m). Held (config m (after m h us))) (sym (append-nil xs)) a
  held_on xs (Counts ∷ ms) ys e a =
      subst (λ (us : Moves m). Held (config m (after m h us))) (joined xs (Counts ∷ []) ms)
      (held_on (xs ++ Counts ∷ []) ms ys (e ∙ sym (joined xs (Counts ∷ []) (ms ++ ys))) (subst (λ (u : World m). Held (config m u)) (sym (then_next xs)) (record { clients = a.clients })))
  held_on xs (Takes x ∷ ms) ys e a =
      subst (λ (us : Moves m). Held (config m (after m h us))) (joined xs (Takes x ∷ []) ms)
      (held_on (xs ++ Takes x ∷ []) ms ys (e ∙ sym (joined xs (Takes x ∷ []) (ms ++ ys))) (subst (λ (u : World m). Held (config m u)) (sym (then_takes xs x)) (stepped xs x (ms ++ ys) e a)))

  start_client : (k : ℕ) → Told (new_client m h k)
  unfolding new_client
  start_client k = tt

  start_held : Held (config m (after m h []))
  unfolding run start
  start_held = record { clients = λ k. at_map (new_client m h) (numbers h.clients 0) k (new_client m h k) Told (λ j. start_client j) (start_client k) }

  here : zs ≡ zs ++ []
  here = sym (append-nil zs)

  held_now : Held (config m (after m h zs))
  held_now = held_on [] zs [] here start_held

  -- Then so wherever a further step comes to the end of a command's walks.

  abbrev Ended : Client m → Work m → Type 0
  Ended c v = IsPast c.stand v.tail

  ended : TrimsSaved m (after m h zs) → (e : EventOf m) → EachEvent m h.objects (entries_in m (after m h zs)) Ended (after m h zs) e
  ended now (Deliver i) = λ x at is on.
      delivery_at m IsTold Settled IsPast low both onto h.objects (entries_in m (after m h zs)) (client_in m (config m (after m h zs)) x.to.num) x.from x.rid x.msg (held_now.clients x.to.num)
      (hears_all zs [] here now x.to.num x (record { sent = has_got (after m h zs).packets i x at; to_node = of_client x.to is }))
  ended now (Commands k x) = tt
  ended now (Lose i) = tt
  ended now (Tick n) = tt
  ended now (Stop n) = tt

  pub has_tails : TrimsSaved m (after m h zs) → (e : EventOf m) → EachEvent m h.objects (entries_in m (after m h zs)) (HasTail m (after m h zs)) (after m h zs) e
  has_tails now e = event_more m h.objects (entries_in m (after m h zs)) (entries_in m (after m h zs)) Ended (HasTail m (after m h zs)) (λ c v k. record { epoch = k.epoch; up_to = k.up_to; tail = k.tail }) (after m h zs) e (ended now e)

module _ (m : Meaning) where
  pub walks_have_tails : WalksHaveTails m
  walks_have_tails h ms w e r spare =
      subst (λ (v : World m). Reaches m h ms v → EachEvent m h.objects (entries_in m v) (HasTail m v) v e) (sym r.goes.is)
      (λ a. has_tails m h ms a spare.were (drafts_fit m h ms (after m h ms) a) spare.now e) r

  pub trims_confirm_tails : TrimsConfirmTails m
  trims_confirm_tails h ms w e r spare =
      event_more m h.objects (entries_in m w) (entries_in m w) (HasTail m w) (ConfirmsTail m w) (λ c v k is. k) w e (walks_have_tails h ms w e r spare)
