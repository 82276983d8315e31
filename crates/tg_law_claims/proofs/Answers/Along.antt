-- Along a run: what each client's work has been told since its command began, and that it knows the pages of its own records; and so
-- what a step tells where no record is there.
use Rattle.std.proofs.Common.{◌≡◌, ◌⊎◌, ℕ, ◌+◌, ◌≤◌, List, [], ◌∷◌, ◌++◌, map, Bool, true, false, refl, sym, ap, ◌∙◌, subst, inl, inr, arith, Option, Some, None, is_some}
use Rattle.std.specs.Prelude.{nat_lt, cond, ◌==◌, Contains, if◌then◌else◌}
use Rattle.tg_base.specs.Clusters.{Header}
use Rattle.tg_base.specs.Orders.{node_eq, role_number}
use Rattle.tg_base.specs.declared.cell.Cell.{Cell}
use Rattle.tg_base.specs.declared.fault.Many.TheVariants as many
use Rattle.tg_base.specs.declared.ids.NodeId.{NodeId}
use Rattle.tg_base.specs.declared.ids.Oid.{Oid}
use Rattle.tg_base.specs.declared.msg.Msg.{Msg}
use Rattle.tg_base.specs.declared.msg.Msg.TheVariants as msg
use Rattle.tg_base.specs.declared.packet.Packet.{Packet}
use Rattle.tg_entry.specs.declared.entry.Entry.{Entry}
use Rattle.tg_kind.specs.Meaning.{Meaning}
use Rattle.tg_model.specs.Kinds.{CommandOf, EventOf, WhatOf, NoteOf}
use Rattle.tg_model.specs.declared.command.Command.TheVariants as cmd
use Rattle.tg_model.specs.declared.command.Event.TheVariants.{Tick}
use Rattle.tg_model.specs.declared.refusal.Refusal.TheVariants as cause
use Rattle.tg_model.specs.declared.trace.What.TheVariants as told
use Rattle.tg_protocol.specs.Words.{client_id, numbers, cell_at, with_cell, with_num, first_some}
use Rattle.tg_protocol.specs.Logs.{Log, entries_of}
use Rattle.tg_protocol.specs.Replies.{reply}
use Rattle.tg_protocol.specs.Past.{Wide}
use Rattle.tg_protocol.specs.Views.{View}
use Rattle.tg_protocol.specs.Clients.{Task, Syncing, Walking, Appending, Trimming, Copying', Reconfiguring, Work, Client, new_client, busy, tests, refusal, member_entries}
use Rattle.tg_protocol.specs.Answers.{Moved}
use Rattle.tg_protocol.specs.ClientSteps.{plays_kept, task_in, ClientTurn, feed, refused_or, client_command, client_deliver, client_tick, tick_by}
use Rattle.tg_protocol.specs.Walked.{Walked, work_end, packet_end, walked_in}
use Rattle.tg_protocol.specs.Worlds.{CommandStart, World, Told, start, client, noted_of, log, happens, runs}
use Rattle.tg_protocol.specs.Runs.{Move, Moves, Next, Takes, Reaches, run}
use Rattle.tg_protocol.specs.Alike.{SentNow, HasEntry}
use Rattle.tg_protocol.specs.Causes.{AsksOf, IsNone, SaysNone, NonesTrue, RefusalsTrue}
use Rattle.tg_protocol.specs.Stuck.{command_in}
use Rattle.tg_protocol.specs.Playing.{Replies}
use Rattle.tg_law_layouts.specs.Moves.After.{after}
use Rattle.tg_law_layouts.specs.Moves.Configs.{config}
use Rattle.tg_law_layouts.proofs.Moves.Lists.{contained, at_map}
use Rattle.tg_law_layouts.proofs.Moves.Members.{Has, has_contained, has_map}
use Rattle.tg_law_layouts.proofs.Moves.Moves.{ClientInput, Commanded, Hears', Ticks'}
use Rattle.tg_law_layouts.proofs.Moves.Turns.{not_busy, command_draws, deliver_draws, tick_draws}
use Rattle.tg_law_layouts.proofs.Layouts.Layouts.{stays_sent}
use Rattle.tg_law_replies.specs.History.Worlds.{entries_in}
use Rattle.tg_law_replies.specs.Replies.Steps.{EachDelivery, EachEvent}
use Rattle.tg_law_replies.proofs.Books.Worlds.{cancel, nil_right, run_both}
use Rattle.tg_law_replies.proofs.History.Members.{both_and, number_same}
use Rattle.tg_law_walks.specs.Walks.Rounds.{round, IsRound}
use Rattle.tg_law_walks.specs.Walks.Streams.{IsByPosition}
use Rattle.tg_law_walks.specs.Lists.Spared.{TrimsWereSpare}
use Rattle.tg_law_walks.proofs.Walks.Cells.{cell_here, more_some}
use Rattle.tg_law_walks.proofs.Drafts.Written.{then_next, then_takes}
use Rattle.tg_law_walks.proofs.Once.Along.{on_moves}
use Rattle.tg_law_walks.proofs.Walks.Syncs.{logs_by_position}
use Rattle.tg_law_syncs.specs.Finds.Left.{RoundsExact, SavesPrecede}
use Rattle.tg_law_syncs.proofs.Exact.Finds.{rounds_exact}
use Rattle.tg_law_headline.proofs.Leaves.Ends.{ends_have}
use Rattle.tg_law_headline.proofs.Leaves.Landing.{LandInSteps, lands_in_steps}
use Rattle.tg_law_headline.proofs.Leaves.Steps.{happens_hold}
use Rattle.tg_law_headline.proofs.Leaves.Turns.{Lasts, AtTask, AtWork, Holds, PlayHolds}
use Rattle.tg_law_headline.proofs.Alike.Running.{starts_at, state_at as run_at}
use Rattle.tg_law_headline.proofs.Alike.Speaks.{Noted, Before, Anew, Delivered, From, Speaks, Silent, Speaks', Turns, told_of, speaks}
use Rattle.tg_law_claims.specs.Answers.Confirmed.{EndsWalks, IsNoneThere, NonesThere, IsAheadThere, AheadsThere, FatesForgotten, IsPastGone, PastsForgotten}
use Rattle.tg_law_claims.specs.Answers.Rescues.{IsRescueGone, RescuesForgotten, WouldWiden, RescuesTooWide}
use Rattle.tg_law_claims.proofs.Causes.Stalled.{command_waits}
use Rattle.tg_law_headline.proofs.Alike.Machines.{TailTold}
use Rattle.tg_law_headline.proofs.Alike.Refusals.{refused_at_once}
use Rattle.tg_law_claims.proofs.Answers.Absent.{Owned}
use Rattle.tg_law_claims.proofs.Answers.Hosted.{asked_hosted}
use Rattle.tg_law_claims.proofs.Answers.Pasts.{gone_at, no_base_within, gone_told}
use Rattle.tg_law_claims.proofs.Answers.Nones.{NoneTold, AheadTold, PastGoneAt, RescueAt, RescueGoneAt, ForgottenOk, WideOk, Ok, EachOk, Held, WorkHeld, Good, feed_turn, command_turn}
use Rattle.tg_law_claims.proofs.Answers.Rescued.{none_in_reach, ReadsOther, reads_other}
use Rattle.tg_law_claims.proofs.Answers.WalksEnd.{TaskOwned, owned_there}

-- what a reply says of a record that isn't there
says_map : (m : Meaning) (what : WhatOf m) (P Q : ℕ → Type 0) → ((p : ℕ) → P p → Q p) → SaysNone m what P → SaysNone m what Q
says_map m (told.Fate p None) P Q f k = f p k
says_map m (told.Decided p None) P Q f k = f p k
says_map m (told.Rescued p None) P Q f k = f p k
says_map m what P Q f k = tt

one_more : (p q : ℕ) (own : List ℕ) → Has (with_num p own) q → (q ≡ p) ⊎ Has own q
one_more p q [] (inl e) = inl e
one_more p q [] (inr i) = absurd i
one_more p q (x ∷ xs) h = by (nat_lt p x) (p == x) h (one_more p q xs)
  where
    by : (a b : Bool) → Has (cond a (p ∷ x ∷ xs) (cond b (x ∷ xs) (x ∷ with_num p xs))) q → (Has (with_num p xs) q → (q ≡ p) ⊎ Has xs q) → (q ≡ p) ⊎ Has (x ∷ xs) q
    by true b (inl e) rest = inl e
    by true b (inr i) rest = inr i
    by false true i rest = inr i
    by false false (inl e) rest = inr (inl e)
    by false false (inr i) rest = later (rest i)
      where
        later : (q ≡ p) ⊎ Has xs q → (q ≡ p) ⊎ Has (x ∷ xs) q
        later (inl e) = inl e
        later (inr j) = inr (inr j)

node_itself : (a : NodeId) → node_eq a a ≡ true
unfolding node_eq
node_itself a = both_and (role_number a.role == role_number a.role) (a.num == a.num) (number_same (role_number a.role) (role_number a.role) refl) (number_same a.num a.num refl)

module _ (m : Meaning) where
  -- The pages of a client's own records are known.

  abbrev pub K : ℕ → List ℕ → List (ℕ × Cell) → List Oid → Option (View m) → Type 0
  K n own cells os v = Owned own cells

  owns_more : (own : List ℕ) (cells : List (ℕ × Cell)) (p : ℕ) (d : Cell) → Owned own cells → Owned (with_num p own) (with_cell cells p d)
  owns_more own cells p d k q i = by (one_more p q own (has_contained (with_num p own) q i))
    where
      by : (q ≡ p) ⊎ Has own q → is_some (cell_at (with_cell cells p d) q) ≡ true
      by (inl e) = subst (λ (j : ℕ). is_some (cell_at (with_cell cells p d) j) ≡ true) (sym e) (ap (λ (o : Option Cell). is_some o) (cell_here cells p d))
      by (inr j) = more_some cells p d q (k q (contained own q j))

  lasts : Lasts m K
  lasts = record {
    given = λ n own cells os ps v k. k;
    left = λ n own cells more os v f k. λ p i. f p i (k p i);
    owns = λ n own cells os v p d le k. owns_more own cells p d k;
  }

  abbrev pub OwnsHold : Client m → Type 0
  OwnsHold c = Holds m K K c

  -- What is told is the same with the count of steps.

  module _ (objects : List Oid) (l : Log) (byp : IsByPosition l) (Got : NodeId → ℕ → Msg → Type 0) (lo : ℕ) (end : Option (Walked m)) (command : Option (CommandOf m)) where
    none_called : (d : Client m) (n p : ℕ) → NoneTold m objects l byp Got lo end command d p → NoneTold m objects l byp Got lo end command (record d { calls = n }) p
    none_called d n p x = record { idle = x.idle; had = x.had; ended = x.ended; synced = x.synced; none = λ known e there commit less for. x.none known e there commit less for }

    forgotten_called : (d : Client m) (n : ℕ) (x : Option (CommandOf m)) (at below : ℕ) → ForgottenOk m objects l byp Got lo end command d x at below → ForgottenOk m objects l byp Got lo end command (record d { calls = n }) x at below
    forgotten_called d n (Some (cmd.Fate p)) at below k = k
    forgotten_called d n (Some (cmd.AskAt p o q)) at below k = k
    forgotten_called d n (Some (cmd.Rescue p)) at below k = k
    forgotten_called d n x at below k = tt

    wide_called : (d : Client m) (n : ℕ) (x : Option (CommandOf m)) → WideOk m objects l byp Got lo end command d x → WideOk m objects l byp Got lo end command (record d { calls = n }) x
    wide_called d n (Some (cmd.Rescue p)) k = k
    wide_called d n x k = tt

    ok_called : (d : Client m) (n : ℕ) (what : WhatOf m) → Ok m objects l byp Got lo end command d what → Ok m objects l byp Got lo end command (record d { calls = n }) what
    ok_called d n (told.Fate p None) k = none_called d n p k
    ok_called d n (told.Decided p None) k = none_called d n p k
    ok_called d n (told.Rescued p None) k = none_called d n p k
    ok_called d n (told.Refused (cause.Ahead tail)) k = k
    ok_called d n (told.Refused (cause.Forgotten at below)) k = forgotten_called d n command at below k
    ok_called d n (told.Refused (cause.TooMany many.Hosted)) k = wide_called d n command k
    ok_called d n what k = tt

    each_called : (d : Client m) (n : ℕ) (ns : List (NoteOf m)) → EachOk m objects l byp Got lo end command d ns → EachOk m objects l byp Got lo end command (record d { calls = n }) ns
    each_called d n [] k = tt
    each_called d n (y ∷ ys) k = (ok_called d n y.what k.0, each_called d n ys k.1)

    each_has : (d : Client m) (ns : List (NoteOf m)) (y : NoteOf m) → EachOk m objects l byp Got lo end command d ns → Has ns y → Ok m objects l byp Got lo end command d y.what
    each_has d [] y k i = absurd i
    each_has d (z ∷ zs) y k (inl e) = subst (λ (u : NoteOf m). Ok m objects l byp Got lo end command d u.what) (sym e) k.0
    each_has d (z ∷ zs) y k (inr i) = each_has d zs y k.1 i

    -- of a record that isn't there
    says_none : (d : Client m) (what : WhatOf m) → Ok m objects l byp Got lo end command d what → SaysNone m what (λ p. NoneTold m objects l byp Got lo end command d p)
    says_none d (told.Fate p None) k = k
    says_none d (told.Decided p None) k = k
    says_none d (told.Rescued p None) k = k
    says_none d what k = tt

-- By the world to which a run comes.
module _ (m : Meaning) (h : Header) (ms : Moves m) (r : Reaches m h ms (after m h ms)) (trims : TrimsWereSpare m h ms) where
  byp : IsByPosition (log m (after m h ms))
  byp = logs_by_position m (after m h ms)

  abbrev Got : ℕ → NodeId → ℕ → Msg → Type 0
  Got k from rid y = Has (after m h ms).packets (record { from = from; to = client_id k; rid = rid; msg = y })

  exact : RoundsExact m h ms (after m h ms)
  exact = rounds_exact m h ms (after m h ms) r trims

  lands : LandInSteps m h ms (after m h ms)
  lands = lands_in_steps m h ms (after m h ms) r trims

  abbrev Ends : Client m → Work m → Type 0
  Ends c w = IsRound m (log m (after m h ms)) (round m c w c.cells) []

  record Kept (s : CommandStart) (k : ℕ) (c : Client m) : Type 0 where
    next : s.next ≤ c.next
    held : Held m h.objects (log m (after m h ms)) byp (Got k) s.next c

  begins : (s : CommandStart) (k : ℕ) (c : Client m) → c.work ≡ None → Kept s k c → Kept (starts_at m c) k c
  begins s k c idle kept = record {
    next = omega arith;
    held = subst (WorkHeld m h.objects (log m (after m h ms)) byp (Got k) c.next c.view) (sym idle) tt;
  }

  abbrev AllOwn : World m → Type 0
  AllOwn w = (k : ℕ) → OwnsHold m (client m w k)

  -- A step at a world of the run.

  module _ (xs ys : Moves m) (e : EventOf m) (split : ms ≡ xs ++ Takes e ∷ ys) where
    abbrev w : World m
    w = after m h xs

    abbrev v : World m
    v = happens m (after m h xs) e

    sent : (p : Packet) → Has (after m h xs).packets p → Has (after m h ms).packets p
    sent p i = subst (λ (u : World m). Has u.packets p) (sym (ap (λ (zs : Moves m). after m h zs) split ∙ run_both m xs (Takes e ∷ ys) (start m h))) (stays_sent m (Takes e ∷ ys) w p i)

    each : EachEvent m h.objects (entries_in m (after m h ms)) Ends (after m h xs) e
    each = exact xs ys e split

    module _ (n : ℕ) (s : CommandStart) (kept : Kept s n (client m (after m h xs) n)) where
      abbrev c : Client m
      c = client m (after m h xs) n

      -- what it tells, by the end to which the step brings its walks, if it does
      record Says (t : ClientTurn m) : Type 0 where
        end : Option (Walked m)
        comes : walked_in m w e n ≡ end
        says : EachOk m h.objects (log m (after m h ms)) byp (Got n) s.next end (command_in m c.work) t.now t.notes

      abbrev GoodTurn : ClientTurn m → Type 0
      GoodTurn t = Held m h.objects (log m (after m h ms)) byp (Got n) s.next t.now × Says t

      given : (x : Moved m) (end : Option (Walked m)) → Good m h.objects (log m (after m h ms)) byp (Got n) s.next end (command_in m c.work) x → (k : ℕ)
          → Held m h.objects (log m (after m h ms)) byp (Got n) s.next (record x.now { calls = k }) × EachOk m h.objects (log m (after m h ms)) byp (Got n) s.next end (command_in m c.work) (record x.now { calls = k }) x.notes
      given x end g k = (g.held, each_called m h.objects (log m (after m h ms)) byp (Got n) s.next end (command_in m c.work) x.now k x.notes g.says)

      brought : (p : Packet) → Delivered m w e n p → EachDelivery m h.objects (entries_in m (after m h ms)) Ends c c.work p.from p.rid (reply p.msg)
      brought p b =
          subst (λ (k : ℕ). EachDelivery m h.objects (entries_in m (after m h ms)) Ends (client m w k) (client m w k).work p.from p.rid (reply p.msg)) b.num
          (subst (λ (y : EventOf m). EachEvent m h.objects (entries_in m (after m h ms)) Ends w y) b.event each p b.got b.of_client b.on)

      -- a step without an end to which walks come
      ticked : (a : NodeId) → e ≡ Tick a → (o : Option (Work m)) → c.work ≡ o → GoodTurn (tick_by m c o)
      ticked a event None is = (kept.held, record { end = None; comes = ap (λ (y : EventOf m). walked_in m w y n) event; says = tt })
      ticked a event (Some x) is = (kept.held, record { end = None; comes = ap (λ (y : EventOf m). walked_in m w y n) event; says = tt })

      -- where the test of a command finds that it would host too many objects, none waits
      not_wide : (x : CommandOf m) → refusal m c x ≡ Some (cause.TooMany many.Hosted) → command_in m c.work ≡ None
      unfolding refusal
      not_wide x is = by c.work is
        where
          by : (o : Option (Work m)) → first_some (busy m o ∷ tests m c x) ≡ Some (cause.TooMany many.Hosted) → command_in m o ≡ None
          by None f = refl
          by (Some v) f = absurd cc

      -- where a packet comes to the client
      ends_here : (p : Packet) → p.to ≡ client_id n → Delivered m w e n p → walked_in m w e n ≡ work_end m c c.work p.from p.rid (reply p.msg)
      ends_here p to d =
          ap (λ (y : EventOf m). walked_in m w y n) d.event
          ∙ (ap (λ (o : Option Packet). packet_end m w n o) d.got
          ∙ ap (λ (b : Bool). if b then work_end m c c.work p.from p.rid (reply p.msg) else None)
          (both_and (node_eq p.to (client_id n)) (runs m w p.to) (subst (λ (a : NodeId). node_eq a (client_id n) ≡ true) (sym to) (node_itself (client_id n))) d.on))

      turn_good : (t : ClientTurn m) → (i : ClientInput m (config m w) n t) → From m w e n t i → GoodTurn t
      unfolding client_command client_deliver client_tick
      turn_good t (Commanded x) b =
          let g = given (refused_or m c x (refusal m c x)) None (command_turn m h.objects (log m (after m h ms)) byp (Got n) s.next (command_in m c.work) c x (refusal m c x) (refused_at_once m c x) (not_busy m c x) (not_wide x) kept.next kept.held) ((refused_or m c x (refusal m c x)).now.calls + 1) in
          (g.0, record { end = None; comes = ap (λ (y : EventOf m). walked_in m w y n) b; says = g.1 })
      turn_good t (Hears' p comes) b =
          let g =
          given (feed m c c.work p.from p.rid (reply p.msg)) (work_end m c c.work p.from p.rid (reply p.msg))
          (feed_turn m h.objects (log m (after m h ms)) byp (Got n) s.next p.from p.rid p.msg
          (subst (λ (z : NodeId). Has (after m h ms).packets (record { from = p.from; to = z; rid = p.rid; msg = p.msg })) comes.to_node (sent p comes.sent)) c kept.next kept.held (brought p b)) ((feed m c c.work p.from p.rid (reply p.msg)).now.calls + 1) in
          (g.0, record { end = work_end m c c.work p.from p.rid (reply p.msg); comes = ends_here p comes.to_node b; says = g.1 })
      turn_good t Ticks' b = ticked b.0 b.1 c.work refl

      up : (t : ClientTurn m) → ClientInput m (config m w) n t → c.next ≤ t.now.next
      up t (Commanded x) = (command_draws m c x).is.up
      up t (Hears' p comes) = (deliver_draws m c p.from p.rid p.msg).is.up
      up t Ticks' = (tick_draws m c).is.up

      now_kept : (t : ClientTurn m) → (i : ClientInput m (config m w) n t) → From m w e n t i → Kept s n t.now
      now_kept t i b = record { next = let a = kept.next in let y = up t i in omega (arith, a, y); held = (turn_good t i b).0 }

    kept_of : (n : ℕ) (s : CommandStart) → Noted m w n s → Kept (noted_of m w n) n (client m w n) → Kept s n (client m w n)
    kept_of n s (Before is) k = subst (λ (z : CommandStart). Kept z n (client m w n)) (sym is) k
    kept_of n s (Anew idle is) k = subst (λ (z : CommandStart). Kept z n (client m w n)) (sym is) (begins (noted_of m w n) n (client m w n) idle k)

    module _ (owns : AllOwn (after m h xs)) where
      rests : (k : ℕ) → (client m w k).work ≡ None → Owned (client m w k).own (client m w k).cells
      rests k is = subst (λ (o : Option (Work m)). AtWork m (K m) (K m) (client m w k).num (client m w k).own (client m w k).cells (client m w k).hosted (client m w k).view o) is (owns k)

      owned : AllOwn (happens m (after m h xs) e)
      owned = happens_hold m h.objects (entries_in m (after m h ms)) (K m) (K m) (lasts m) (lasts m) (λ n own cells os u k. k) w e rests owns
          (ends_have m h.objects (entries_in m (after m h ms)) (PlayHolds m (K m) (K m)) w e (λ k y is. λ b z. z)) (lands xs ys e split)

    -- What the step tells, where it is the last.

    module _ (owns : AllOwn (after m h xs)) (kept : (k : ℕ) → Kept (noted_of m (after m h xs) k) k (client m (after m h xs) k)) (last : happens m (after m h xs) e ≡ after m h ms) where
      -- what a reply tells, by the end to which the step brings its client's walks, if it does
      record Tells (t : Told m) : Type 0 where
        end : Option (Walked m)
        comes : walked_in m w e t.mark.client ≡ end
        ok : Ok m h.objects (log m (after m h ms)) byp (Got t.mark.client) t.noted.next end (command_in m (client m w t.mark.client).work) (client m v t.mark.client) t.mark.what

      abbrev there : (t : Told m) (had : Walked m) → walked_in m w e t.mark.client ≡ Some had → TailTold (Got t.mark.client) t.noted.next had.work.tail → EndsWalks m w e t
      there t had walked k = record {
        had = had;
        walked = walked;
        links = k.links;
        synced = record {
          rid = k.rid;
          now = k.now;
          sent = record {
            packet = record { from = k.from; to = client_id t.mark.client; rid = k.rid; msg = msg.Tail had.work.tail k.links };
            sent = subst (λ (u : World m). Contains u.packets (record { from = k.from; to = client_id t.mark.client; rid = k.rid; msg = msg.Tail had.work.tail k.links })) (sym last) (contained (after m h ms).packets _ k.got);
            to = refl;
            number = refl;
            says = refl;
          };
        };
      }

      none_there : (t : Told m) (end : Option (Walked m)) (p : ℕ) → walked_in m w e t.mark.client ≡ end
          → NoneTold m h.objects (log m (after m h ms)) byp (Got t.mark.client) t.noted.next end (command_in m (client m w t.mark.client).work) (client m v t.mark.client) p → IsNoneThere m w e t p
      none_there t end p comes x = record {
        at = there t x.had (comes ∙ x.ended) x.synced;
        none = λ d i commit less for. x.none known d (subst (λ (u : World m). Contains (entries_of (log m u)) (p, d)) last i) commit less for;
      }
        where
          known : Owned (client m v t.mark.client).own (client m v t.mark.client).cells
          known = subst (λ (o : Option (Work m)). AtWork m (K m) (K m) (client m v t.mark.client).num (client m v t.mark.client).own (client m v t.mark.client).cells (client m v t.mark.client).hosted (client m v t.mark.client).view o) x.idle (owned owns t.mark.client)

      nones : (t : Told m) → Tells t → SaysNone m t.mark.what (λ p. IsNoneThere m w e t p)
      nones t k =
          says_map m t.mark.what (λ p. NoneTold m h.objects (log m (after m h ms)) byp (Got t.mark.client) t.noted.next k.end (command_in m (client m w t.mark.client).work) (client m v t.mark.client) p) (λ p. IsNoneThere m w e t p)
          (λ p x. none_there t k.end p k.comes x)
          (says_none m h.objects (log m (after m h ms)) byp (Got t.mark.client) t.noted.next k.end (command_in m (client m w t.mark.client).work) (client m v t.mark.client) t.mark.what k.ok)

      ok_of : (t : Told m) (k : Tells t) (what : WhatOf m) → t.mark.what ≡ what
          → Ok m h.objects (log m (after m h ms)) byp (Got t.mark.client) t.noted.next k.end (command_in m (client m w t.mark.client).work) (client m v t.mark.client) what
      ok_of t k what is = subst (λ (y : WhatOf m). Ok m h.objects (log m (after m h ms)) byp (Got t.mark.client) t.noted.next k.end (command_in m (client m w t.mark.client).work) (client m v t.mark.client) y) is k.ok

      ahead : (t : Told m) (tail : ℕ) → Tells t → t.mark.what ≡ told.Refused (cause.Ahead tail) → IsAheadThere m w e t tail
      ahead t tail k what = by (ok_of t k (told.Refused (cause.Ahead tail)) what)
        where
          by : AheadTold m h.objects (log m (after m h ms)) byp (Got t.mark.client) t.noted.next k.end (command_in m (client m w t.mark.client).work) tail → IsAheadThere m w e t tail
          by x = record {
            at = there t x.had (k.comes ∙ x.ended) x.synced;
            is = x.is;
            pos = x.pos;
            oid = x.oid;
            ask = x.ask;
            command = command_waits m w t.mark.client e x.had (k.comes ∙ x.ended) ∙ ap (λ (y : CommandOf m). Some y) x.asks;
            above = x.above;
          }

      forgets : (t : Told m) (k : Tells t) (at below : ℕ) (x : CommandOf m) → t.mark.what ≡ told.Refused (cause.Forgotten at below) → command_in m (client m w t.mark.client).work ≡ Some x
          → ForgottenOk m h.objects (log m (after m h ms)) byp (Got t.mark.client) t.noted.next k.end (command_in m (client m w t.mark.client).work) (client m v t.mark.client) (Some x) at below
      forgets t k at below x what of =
          subst (λ (y : Option (CommandOf m)). ForgottenOk m h.objects (log m (after m h ms)) byp (Got t.mark.client) t.noted.next k.end (command_in m (client m w t.mark.client).work) (client m v t.mark.client) y at below) of
          (ok_of t k (told.Refused (cause.Forgotten at below)) what)

      past : SavesPrecede m (entries_in m (after m h ms)) → (t : Told m) (k : Tells t) (p : ℕ) (o : Oid) (q : m.ask) (at below : ℕ) → command_in m (client m w t.mark.client).work ≡ Some (cmd.AskAt p o q)
          → t.mark.what ≡ told.Refused (cause.Forgotten at below) → SentNow m v t (msg.Gone below) → IsPastGone m w e t p o at below
      past precede t k p o q at below of what gone = by (forgets t k at below (cmd.AskAt p o q) what of)
        where
          same : (a b : CommandOf m) → Some a ≡ Some b → a ≡ b
          same a b z = cc

          by : PastGoneAt m h.objects (log m (after m h ms)) byp (Got t.mark.client) t.noted.next k.end (command_in m (client m w t.mark.client).work) p o at below → IsPastGone m w e t p o at below
          by x = record {
            named = x.named;
            ends = there t x.had (k.comes ∙ x.ended) x.synced;
            met = (gone_at m (member_entries m x.had.client x.had.work x.had.work.oids) x.had.work.trims x.had.work.oids x.had.client.objects o at below x.gone).0;
            gone = gone;
            none = λ n d b i less gives low high.
                no_base_within m (log m (after m h ms)) byp x.had.client x.had.work x.found precede o asked at below x.gone n d b (subst (λ (u : World m). Contains (entries_of (log m u)) (n, d)) last i) less gives low high;
          }
            where
              asks : x.had.work.command ≡ cmd.AskAt p o q
              asks = same x.had.work.command (cmd.AskAt p o q) (sym (command_waits m w t.mark.client e x.had (k.comes ∙ x.ended)) ∙ of)

              asked : Contains x.had.work.oids o
              asked = x.found.hosts o (contained x.had.client.hosted o (asked_hosted m h xs e t.mark.client x.had (k.comes ∙ x.ended) o (subst (λ (y : CommandOf m). AsksOf m y o) (sym asks) refl)))

      -- Of a rescue.

      -- its own pages are known where its walks end
      task_owned : (k : ℕ) (x : Task m) → AtTask m (K m) (K m) (client m w k).num (client m w k).own (client m w k).cells (client m w k).hosted (client m w k).view x → TaskOwned m (client m w k) x
      task_owned k (Syncing s) g = g
      task_owned k (Walking j os) g = g
      task_owned k (Appending a y) g = tt
      task_owned k (Trimming x) g = tt
      task_owned k (Copying' y) g = tt
      task_owned k (Reconfiguring r) g = tt

      known_there : (k : ℕ) (y : Walked m) → walked_in m w e k ≡ Some y → Owned y.client.own y.client.cells
      known_there k y is = owned_there m w k
          (λ v works. task_owned k (task_in m v.hand) (subst (λ (o : Option (Work m)). AtWork m (K m) (K m) (client m w k).num (client m w k).own (client m w k).cells (client m w k).hosted (client m w k).view o) works (owns k))) e y is

      now_there : (p : ℕ) (d : Entry) → HasEntry m v p d → Contains (entries_of (log m (after m h ms))) (p, d)
      now_there p d i = subst (λ (u : World m). Contains (entries_of (log m u)) (p, d)) last i

      rescue_gone : (t : Told m) (k : Tells t) (at p below : ℕ) (had : Walked m) → command_in m (client m w t.mark.client).work ≡ Some (cmd.Rescue at) → t.mark.what ≡ told.Refused (cause.Forgotten p below) → walked_in m w e t.mark.client ≡ Some had
          → SentNow m v t (msg.Gone below) → IsRescueGone m w e t at p below
      rescue_gone t k at p below had of what ends gone = by (forgets t k p below (cmd.Rescue at) what of)
        where
          by : (k.end ≡ None) ⊎ RescueGoneAt m h.objects (log m (after m h ms)) byp (Got t.mark.client) t.noted.next k.end (command_in m (client m w t.mark.client).work) (client m v t.mark.client).own at p below → IsRescueGone m w e t at p below
          by (inl none) = absurd (no_end had (sym none ∙ (sym k.comes ∙ ends)))
            where
              no_end : (y : Walked m) → None ≡ Some y → ⊥
              no_end y z = cc
          by (inr x) = record {
            named = x.named;
            ends = there t x.was.had (k.comes ∙ x.was.ended) x.was.synced;
            met = x.met;
            gone = gone;
            none = λ d i commit less reach.
                none_in_reach m (log m (after m h ms)) byp x.was.had.client x.was.had.work x.was.found (client m v t.mark.client) x.was.same at (x.was.found.whole (ap (λ (y : CommandOf m). plays_kept m y) x.was.asks)) (known_there t.mark.client x.was.had (k.comes ∙ x.was.ended)) x.was.turn d (now_there at d i) commit less
                reach;
          }

      rescue_wide : (t : Told m) (k : Tells t) (at : ℕ) → command_in m (client m w t.mark.client).work ≡ Some (cmd.Rescue at) → t.mark.what ≡ told.Refused (cause.TooMany many.Hosted) → WouldWiden m w e t at
      rescue_wide t k at of what = by (subst (λ (y : Option (CommandOf m)). WideOk m h.objects (log m (after m h ms)) byp (Got t.mark.client) t.noted.next k.end (command_in m (client m w t.mark.client).work) (client m v t.mark.client) y) of
          (ok_of t k (told.Refused (cause.TooMany many.Hosted)) what))
        where
          by : RescueAt m h.objects (log m (after m h ms)) byp (Got t.mark.client) t.noted.next k.end (command_in m (client m w t.mark.client).work) (client m v t.mark.client).own at Wide → WouldWiden m w e t at
          by x = record {
            ends = there t x.had (k.comes ∙ x.ended) x.synced;
            full = g.full;
            pos = g.pos;
            other = g.other;
            upto = g.upto;
            outside = g.outside;
            is = record {
              reads = record { entry = g.entry; here = subst (λ (u : World m). HasEntry m u g.pos g.entry) (sym last) g.here; commit = g.commit; read = g.read; reads = g.reads; of = g.of };
              among = g.among;
              unknown = g.unknown;
              least = g.least;
              first = g.first;
              lacks = g.lacks;
            };
            played = g.played;
          }
            where
              g : ReadsOther m (log m (after m h ms)) x.had.client x.had.work at
              g = reads_other m (log m (after m h ms)) byp x.had.client x.had.work x.found at x.turn

      silent_none : (u : World m) → u.told ≡ w.told → (y : Told m) (q : List (Told m)) → u.told ≡ w.told ++ q → Has q y → ⊥
      silent_none u x y q are i = subst (λ (zs : List (Told m)). Has zs y) (cancel w.told q [] (sym are ∙ (x ∙ sym (nil_right w.told)))) i

      tells : (u : World m) → u ≡ v → Speaks m w e u → (y : Told m) (q : List (Told m)) → u.told ≡ w.told ++ q → Has q y → Tells y
      tells u same (Silent t cc nn) y q are i = absurd (silent_none u t y q are i)
      tells u same (Speaks' n t s i noted x f b) y q are j =
          let z = has_map (told_of m w n s) t.notes y (subst (λ (zs : List (Told m)). Has zs y) (cancel w.told q (map (told_of m w n s) t.notes) (sym are ∙ x)) j) in
          let turn = (turn_good n s (kept_of n s noted (kept n)) t i b).1 in
          subst Tells (sym z.is) (record {
            end = turn.end;
            comes = turn.comes;
            ok = subst (λ (d : Client m). Ok m h.objects (log m (after m h ms)) byp (Got n) s.next turn.end (command_in m (client m w n).work) d z.of.what) (sym (now (f n)))
                (each_has m h.objects (log m (after m h ms)) byp (Got n) s.next turn.end (command_in m (client m w n).work) t.now t.notes z.of turn.says z.has);
          })
        where
          now : Turns m w u n t s n → client m v n ≡ t.now
          now (inl a) = subst (λ (g : World m). client m g n ≡ t.now) same a.1
          now (inr a) = absurd (a.2 refl)

  -- The start.

  new_kept : (k j : ℕ) → Kept (record { next = 1; epoch = 1; upto = 0 }) k (new_client m h j)
  unfolding new_client
  new_kept k j = record { next = omega arith; held = tt }

  new_owns : (j : ℕ) → OwnsHold m (new_client m h j)
  unfolding new_client
  new_owns j = λ p i. absurd (has_contained [] p i)

  start_owns : AllOwn (after m h [])
  unfolding run start
  start_owns k = at_map (new_client m h) (numbers h.clients 0) k (new_client m h k) (λ (c : Client m). OwnsHold m c) new_owns (new_owns k)

  -- in each world of the run

  kept_at : (xs ys : Moves m) → ms ≡ xs ++ ys → (k : ℕ) → Kept (noted_of m (after m h xs) k) k (client m (after m h xs) k)
  kept_at xs ys split = (run_at m h ms Kept (λ ts. Unit {0}) tt (λ ts us a b. tt) new_kept begins (λ xs e ys split n s kept t i b told now. (now_kept xs ys e split n s kept t i b, tt)) xs ys split).clients

  owns_on : (xs : Moves m) (x : Move m) (rest : Moves m) → ms ≡ xs ++ x ∷ rest → AllOwn (after m h xs) → AllOwn (after m h (xs ++ x ∷ []))
  owns_on xs Next rest split o = subst AllOwn (sym (then_next m h xs)) o
  owns_on xs (Takes e) rest split o = subst AllOwn (sym (then_takes m h xs e)) (owned xs rest e split o)

  pub owns_at : (xs ys : Moves m) → ms ≡ xs ++ ys → (k : ℕ) → OwnsHold m (client m (after m h xs) k)
  owns_at xs ys split = on_moves m h ms r (λ (zs : Moves m). AllOwn (after m h zs)) owns_on [] xs ys split start_owns

last_is : (m : Meaning) (h : Header) (xs : Moves m) (e : EventOf m) → happens m (after m h xs) e ≡ after m h (xs ++ Takes e ∷ [])
unfolding run
last_is m h xs e = sym (run_both m xs (Takes e ∷ []) (start m h))

-- Of the last step of a run.
module _ (m : Meaning) (h : Header) (xs : Moves m) (e : EventOf m) (r : Reaches m h (xs ++ Takes e ∷ []) (after m h (xs ++ Takes e ∷ []))) (trims : TrimsWereSpare m h (xs ++ Takes e ∷ [])) where
  owns : (k : ℕ) → OwnsHold m (client m (after m h xs) k)
  owns = owns_at m h (xs ++ Takes e ∷ []) r trims xs (Takes e ∷ []) refl

  kept : (k : ℕ) → Kept m h (xs ++ Takes e ∷ []) r trims (noted_of m (after m h xs) k) k (client m (after m h xs) k)
  kept = kept_at m h (xs ++ Takes e ∷ []) r trims xs (Takes e ∷ []) refl

  -- what its replies tell
  told_last : (t : Told m) → Replies m (after m h xs) e t → Tells m h (xs ++ Takes e ∷ []) r trims xs [] e refl owns kept (last_is m h xs e) t
  told_last t replies = tells m h (xs ++ Takes e ∷ []) r trims xs [] e refl owns kept (last_is m h xs e) (happens m (after m h xs) e) refl (speaks m (after m h xs) e) t replies.replies replies.are (has_contained replies.replies t replies.here)

  pub nones_last : NonesThere m (after m h xs) e
  nones_last t replies = nones m h (xs ++ Takes e ∷ []) r trims xs [] e refl owns kept (last_is m h xs e) t (told_last t replies)

  pub aheads_last : AheadsThere m (after m h xs) e
  aheads_last t tail replies what = ahead m h (xs ++ Takes e ∷ []) r trims xs [] e refl owns kept (last_is m h xs e) t tail (told_last t replies) what

  pub fates_last : FatesForgotten m (after m h xs) e
  fates_last t p at below replies of what v is = forgets m h (xs ++ Takes e ∷ []) r trims xs [] e refl owns kept (last_is m h xs e) t (told_last t replies) at below (cmd.Fate p) what of v is

  pub rescues_forgotten_last : RefusalsTrue m (after m h xs) e → RescuesForgotten m (after m h xs) e
  rescues_forgotten_last refusals t at p below had replies of what ends = rescue_gone m h (xs ++ Takes e ∷ []) r trims xs [] e refl owns kept (last_is m h xs e) t (told_last t replies) at p below had of what ends
      (gone_told m (after m h xs) e t p below (refusals t (cause.Forgotten p below) replies what))

  pub rescues_wide_last : RescuesTooWide m (after m h xs) e
  rescues_wide_last t at replies of what = rescue_wide m h (xs ++ Takes e ∷ []) r trims xs [] e refl owns kept (last_is m h xs e) t (told_last t replies) at of what

  pub pasts_last : SavesPrecede m (entries_in m (after m h (xs ++ Takes e ∷ []))) → RefusalsTrue m (after m h xs) e → PastsForgotten m (after m h xs) e
  pasts_last precede refusals t p o q at below replies of what = past m h (xs ++ Takes e ∷ []) r trims xs [] e refl owns kept (last_is m h xs e) precede t (told_last t replies) p o q at below of what
      (gone_told m (after m h xs) e t at below (refusals t (cause.Forgotten at below) replies what))

-- so, by a tail that was told for the command, no record is there
pub some_tail : (m : Meaning) (w : World m) (e : EventOf m) → NonesThere m w e → NonesTrue m w e
some_tail m w e nones t replies = says_map m t.mark.what (λ p. IsNoneThere m w e t p) (λ p. IsNone m (happens m w e) t p)
    (λ p k. record { tail = k.at.had.work.tail; links = k.at.links; synced = k.at.synced; none = k.none }) (nones t replies)
