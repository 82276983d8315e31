-- Each refusal of a command that waited has its cause, where that is what the client was told or where it stands.
use Rattle.std.proofs.Common.{◌≡◌, ◌⊎◌, ℕ, ◌<◌, ◌≤◌, List, [], ◌∷◌, ◌++◌, map, length, Bool, true, false, refl, sym, ap, ◌∙◌, subst, inl, inr, arith, Option, Some, None}
use Rattle.std.specs.Prelude.{slice_get, slice_index_or, slice_set, Contains}
use Rattle.tg_base.specs.Clusters.{Header}
use Rattle.tg_base.specs.Layouts.{Layout}
use Rattle.tg_base.specs.declared.fault.Many.TheVariants as many
use Rattle.tg_base.specs.declared.ids.NodeId.{NodeId}
use Rattle.tg_base.specs.declared.ids.Role.{Role}
use Rattle.tg_base.specs.declared.ids.Role.TheVariants as role
use Rattle.tg_base.specs.declared.msg.Msg.{Msg}
use Rattle.tg_base.specs.declared.msg.Msg.TheVariants as msg
use Rattle.tg_base.specs.declared.packet.Packet.{Packet}
use Rattle.tg_kind.specs.Meaning.{Meaning}
use Rattle.tg_model.specs.declared.command.Command.TheVariants as cmd
use Rattle.tg_model.specs.declared.command.Event.TheVariants.{Command as Commands, Deliver, Lose, Tick, Stop}
use Rattle.tg_model.specs.declared.refusal.Refusal.{Refusal}
use Rattle.tg_model.specs.declared.refusal.Refusal.TheVariants as cause
use Rattle.tg_model.specs.declared.trace.What.TheVariants as told
use Rattle.tg_model.specs.Kinds.{CommandOf, EventOf, NoteOf}
use Rattle.tg_protocol.specs.Words.{client_id}
use Rattle.tg_protocol.specs.Replies.{reply}
use Rattle.tg_protocol.specs.Clients.{Work, Client, new_client}
use Rattle.tg_protocol.specs.ClientSteps.{ClientTurn, feed, called, client_deliver, client_tick}
use Rattle.tg_protocol.specs.Worlds.{CommandStart, World, Told, start, client, noted_of, runs, unit_moves, layout_moves, seqr_moves, client_turned, moves, comes, handed, delivers, ticks, ticks_if, stops_if, counted, happens}
use Rattle.tg_protocol.specs.Runs.{Moves, Move, Takes, Reaches, EachStep, LawfulMove, LawfulEvent, most_steps, run}
use Rattle.tg_protocol.specs.Alike.{SentNow, OvertakenBy}
use Rattle.tg_protocol.specs.Stuck.{command_in}
use Rattle.tg_protocol.specs.Causes.{CauseAtOnce, CauseLater, NamedTrimmed, OwnTrimmed, IsAhead, IsTooLarge, KeepsTx, HasCause, command_at, layout_cause}
use Rattle.tg_law_layouts.specs.Moves.After.{after}
use Rattle.tg_law_layouts.proofs.Moves.Lists.{at_set, contained}
use Rattle.tg_law_layouts.proofs.Moves.Members.{Has, has_got, has_contained, has_either, has_map, has_right}
use Rattle.tg_law_layouts.proofs.Layouts.Layouts.{stays_sent}
use Rattle.tg_law_walks.proofs.Drafts.Clients.{happens_steps}
use Rattle.tg_law_walks.proofs.Drafts.Written.{then_takes}
use Rattle.tg_law_replies.proofs.Books.Worlds.{cancel, nil_right, declared}
use Rattle.tg_law_headline.proofs.Alike.Speaks.{told_of}
use Rattle.tg_law_headline.proofs.Alike.Told.{overtakes_agree}
use Rattle.tg_law_claims.specs.Causes.Sorts.{IsHeard, RefusedLaterTrue}
use Rattle.tg_law_claims.proofs.Causes.Keeping.{refusals_keep}
use Rattle.tg_law_claims.proofs.Causes.Jobs.{ToldNow, OwnGone}
use Rattle.tg_law_claims.proofs.Causes.Reasoning.{NamedGone, AheadOf, LargeOf, Because, SayOk}
use Rattle.tg_law_claims.proofs.Causes.Causal.{Got, AskSent, State, FeedOk, feed_ok, end_state}

module _ (m : Meaning) (w : World m) where
  -- What a step that gives no command tells.

  abbrev pub turn : Packet → ClientTurn m
  turn p = client_deliver m (client m w p.to.num) p.from p.rid p.msg

  -- a packet is handed to a client
  pub record Handed (i : ℕ) (u : World m) : Type 0 where
    pub packet : Packet
    pub sent : Has w.packets packet
    pub to : packet.to ≡ client_id packet.to.num
    pub got : slice_get w.packets i ≡ Some packet
    pub on : runs m w packet.to ≡ true
    pub now : client m u packet.to.num ≡ (turn packet).now
    pub grown : u.told ≡ w.told ++ map (told_of m w packet.to.num (noted_of m w packet.to.num)) (turn packet).notes

  set_now : (u : World m) (n : ℕ) (x : Client m) → n < length u.clients → slice_index_or (slice_set u.clients n x) n (new_client m u.cluster n) ≡ x
  set_now u n x less = at_set u.clients n x (new_client m u.cluster) (λ k y. k ≡ n → y ≡ x) less (λ e. refl) (λ k other e. absurd (other e)) n refl

  client_is : (a : NodeId) → a.role ≡ role.Client → a ≡ client_id a.num
  client_is a e = ap (λ (r : Role). record { role = r; num = a.num }) e

  moves_hand : (i : ℕ) (p : Packet) (r : Role) → p.to.role ≡ r → slice_get w.packets i ≡ Some p → runs m w p.to ≡ true → Handed i (counted m (moves m (handed m w i) p r)) ⊎ ((counted m (moves m (handed m w i) p r)).told ≡ w.told)
  unfolding unit_moves layout_moves seqr_moves client_turned
  moves_hand i p role.Unit is got on = inr refl
  moves_hand i p role.Layout is got on = inr refl
  moves_hand i p role.Seqr is got on = inr refl
  moves_hand i p role.Client is got on = inl (record { packet = p; sent = has_got w.packets i p got; to = client_is p.to is; got = got; on = on; now = set_now w p.to.num (turn p).now (declared m w p.to is on); grown = refl })

  comes_hand : (i : ℕ) (p : Packet) → slice_get w.packets i ≡ Some p → (b : Bool) → runs m w p.to ≡ b → Handed i (counted m (comes m b (handed m w i) p)) ⊎ ((counted m (comes m b (handed m w i) p)).told ≡ w.told)
  comes_hand i p is true on = moves_hand i p p.to.role refl is on
  comes_hand i p is false on = inr refl

  delivers_hand : (i : ℕ) (o : Option Packet) → slice_get w.packets i ≡ o → Handed i (counted m (delivers m w i o)) ⊎ ((counted m (delivers m w i o)).told ≡ w.told)
  delivers_hand i None is = inr refl
  delivers_hand i (Some p) is = comes_hand i p is (runs m w p.to) refl

  pub deliver_hands : (i : ℕ) → Handed i (happens m w (Deliver i)) ⊎ ((happens m w (Deliver i)).told ≡ w.told)
  unfolding happens
  deliver_hands i = delivers_hand i (slice_get w.packets i) refl

  ticks_quietly : (c : Client m) → (client_tick m c).notes ≡ []
  unfolding client_tick
  ticks_quietly c = by c.work
    where
      by : (o : Option (Work m)) → (Rattle.tg_protocol.specs.ClientSteps.tick_by m c o).notes ≡ []
      by None = refl
      by (Some v) = refl

  ticks_tell : (n : ℕ) (r : Role) → (ticks m w n r).told ≡ w.told
  unfolding client_turned
  ticks_tell n role.Unit = refl
  ticks_tell n role.Layout = refl
  ticks_tell n role.Seqr = refl
  ticks_tell n role.Client = ap (λ (ns : List (NoteOf m)). w.told ++ map (told_of m w n (noted_of m w n)) ns) (ticks_quietly (client m w n)) ∙ nil_right w.told

  pub tick_tells : (n : NodeId) → (happens m w (Tick n)).told ≡ w.told
  unfolding happens
  tick_tells n = by (runs m w n)
    where
      by : (b : Bool) → (counted m (ticks_if m b w n)).told ≡ w.told
      by true = ticks_tell n.num n.role
      by false = refl

  pub stop_tells : (n : NodeId) → (happens m w (Stop n)).told ≡ w.told
  unfolding happens
  stop_tells n = by (runs m w n)
    where
      by : (b : Bool) → (counted m (stops_if m b w n)).told ≡ w.told
      by true = refl
      by false = refl

  pub lose_tells : (i : ℕ) → (happens m w (Lose i)).told ≡ w.told
  unfolding happens
  lose_tells i = refl

  pub silent : (u : World m) → u.told ≡ w.told → (t : Told m) (r : List (Told m)) → u.told ≡ w.told ++ r → Has r t → ⊥
  silent u x t r are i = subst (λ (ys : List (Told m)). Has ys t) (cancel w.told r [] (sym are ∙ (x ∙ sym (nil_right w.told)))) i

module _ (m : Meaning) (h : Header) (ms : Moves m) (r : Reaches m h ms (after m h ms)) (e : EventOf m) (lawful : LawfulEvent m h e) (few : (after m h ms).steps < most_steps) where
  abbrev w : World m
  w = after m h ms

  abbrev v : World m
  v = happens m w e

  within : (p : Packet) → Has w.packets p → Has v.packets p
  unfolding run
  within p i = stays_sent m (Takes e ∷ []) w p i

  old_lawful : (x : Move m) → Contains ms x → LawfulMove m h x
  unfolding start
  old_lawful x c = r.goes.lawful x c

  reached : Reaches m h (ms ++ Takes e ∷ []) v
  unfolding start
  reached = record {
    header = r.header;
    goes = record {
      lawful = λ x c. by x (has_either ms (Takes e ∷ []) x (has_contained (ms ++ Takes e ∷ []) x c));
      is = sym (then_takes m h ms e);
      few = let a = happens_steps m w e in omega (arith, a, few);
    };
  }
    where
      by : (x : Move m) → Has ms x ⊎ Has (Takes e ∷ []) x → LawfulMove m h x
      by x (inl i) = old_lawful x (contained ms x i)
      by x (inr (inl i)) = subst (LawfulMove m h) (sym i) lawful
      by x (inr (inr i)) = absurd i

  abbrev Gets : ℕ → NodeId → ℕ → Msg → Type 0
  Gets n = Got m h ms r v.packets within n

  abbrev Asks : ℕ → NodeId → ℕ → Msg → Type 0
  Asks n = AskSent m h ms r v.packets within n

  state : State m h ms r v.packets within w
  state = end_state m h ms r v.packets within

  -- Of one client and its command.

  module _ (n : ℕ) (y : NoteOf m) (a : Work m) (d : Client m) (works : (client m w n).work ≡ Some a) (stand : (client m v n).stand ≡ d.stand) (view : (client m v n).view ≡ d.view) (tx : (client m v n).tx ≡ d.tx) where
    abbrev s : CommandStart
    s = noted_of m w n

    abbrev t : Told m
    t = told_of m w n s y

    sent_now : (from : NodeId) (rid : ℕ) (x : Msg) → s.next ≤ rid → Gets n from rid x → SentNow m v t x
    sent_now from rid x le g = record { rid = rid; now = le; sent = record { packet = record { from = from; to = client_id n; rid = rid; msg = x }; sent = contained v.packets _ g; to = refl; number = refl; says = refl } }

    told_now : (x : Msg) → ToldNow (Gets n) (Asks n) s.next x → SentNow m v t x
    told_now x k = sent_now k.from k.rid x k.now k.got

    named : (x : CommandOf m) (at below : ℕ) → NamedGone m (Gets n) (Asks n) s.next x at below → NamedTrimmed m x v t at below
    named (cmd.Fate p) at below k = (k.0, k.1, told_now (msg.Gone below) k.2)
    named (cmd.Decide p) at below k = (k.0, k.1, told_now (msg.Gone below) k.2)
    named (cmd.Rescue p) at below k = (k.0, k.1, told_now (msg.Gone below) k.2)
    named (cmd.AskAt p o q) at below k = (k.0, told_now (msg.Gone below) k.1)
    named x at below k = absurd k

    own : (at below : ℕ) → OwnGone (Gets n) (Asks n) s.next at below → OwnTrimmed m v t at below
    own at below k = (k.unit, k.past, record { rid = k.rid; now = k.now; request = k.request; asked = k.asks; was_asked = contained v.packets _ k.asked; was_answered = contained v.packets _ k.got })

    ahead : (x : CommandOf m) (tail : ℕ) → AheadOf m (Gets n) (Asks n) s.next x tail → IsAhead m x v t tail
    ahead (cmd.AskAt p o q) tail k = (k.0, (k.1.links, sent_now k.1.from k.1.rid (msg.Tail tail k.1.links) k.1.now k.1.got))
    ahead x tail k = absurd k

    large : (x : CommandOf m) (i : ℕ) → LargeOf m (Gets n) (Asks n) s.next x d.view i → IsTooLarge m x v t i
    large (cmd.Checkpoint o) i k = (k.0, (k.1.0, view ∙ k.1.1.0, k.1.1.1 n))
    large x i k = absurd k

    stands : (x : CommandOf m) (why : Refusal) → layout_cause m d.stand x ≡ Some why → layout_cause m (client m v n).stand x ≡ Some why
    stands x why k = subst (λ (p : Layout). layout_cause m p x ≡ Some why) (sym stand) k

    none_open : KeepsTx m cause.NoTx (client m w n) (client m v n) → d.tx ≡ None → (client m w n).tx ≡ None
    none_open (inl k) none = sym k ∙ (tx ∙ none)
    none_open (inr k) none = absurd k.0

    because : (why : Refusal) → IsHeard m why → KeepsTx m why (client m w n) (client m v n) → ((i : ℕ) → why ≡ cause.Overtaken i → OvertakenBy m v t i)
        → Because m (Gets n) (Asks n) s.next d a.command a.oids why → CauseAtOnce m w n a.command why ⊎ CauseLater m w e t a.command why
    because (cause.Undecided p o) i keeps over k = absurd i
    because (cause.NoCheckpoint o) i keeps over k = absurd i
    because (cause.OpenDecision p) i keeps over k = absurd i
    because (cause.NotHosted o) i keeps over k = absurd i
    because (cause.Overtaken j) i keeps over k = inr (over j refl)
    because cause.NoTx i keeps over k = inl (k.0, none_open keeps k.1)
    because (cause.LogFull l) i keeps over k = inr (told_now (msg.Full l) k)
    because (cause.Forgotten at below) i keeps over (inl k) = inr (inl (named a.command at below k))
    because (cause.Forgotten at below) i keeps over (inr k) = inr (inr (own at below k))
    because (cause.Ahead tail) i keeps over k = inr (ahead a.command tail k)
    because (cause.NotWhole u pos) i keeps over k = inr (record { rid = k.rid; now = k.now; request = k.request; asked = k.asks; was_asked = contained v.packets _ k.asked; was_answered = contained v.packets _ k.got })
    because (cause.TooLarge j) i keeps over k = inr (large a.command j k)
    because (cause.TooMany many.Hosted) i keeps over k = inr (k.0, (a, works, k.1))
    because (cause.TooMany many.Streams) i keeps over k = inr (stands a.command (cause.TooMany many.Streams) k)
    because (cause.TooMany many.Reads) i keeps over k = inr (stands a.command (cause.TooMany many.Reads) k)
    because (cause.TooMany many.Writes) i keeps over k = inr (stands a.command (cause.TooMany many.Writes) k)
    because (cause.TooMany many.Ranges) i keeps over k = inr (stands a.command (cause.TooMany many.Ranges) k)
    because (cause.TooMany many.Units) i keeps over k = inr (stands a.command (cause.TooMany many.Units) k)
    because why i keeps over k = inr (stands a.command why k)

  -- what the client that is handed a packet was at, and why it refuses that
  record Waited (n : ℕ) (d : Client m) (why : Refusal) : Type 0 where
    work : Work m
    works : (client m w n).work ≡ Some work
    why_so : Because m (Gets n) (Asks n) (noted_of m w n).next d work.command work.oids why

  waited : (p : Packet) (i : Has w.packets p) (to : p.to ≡ client_id p.to.num) (y : NoteOf m) (why : Refusal) → Has (turn m w p).notes y → y.what ≡ told.Refused why
      → (d : Client m) × (Waited p.to.num d why) × ((turn m w p).now ≡ called m d)
  unfolding client_deliver
  waited p i to y why has is = (
    (feed m (client m w p.to.num) (client m w p.to.num).work p.from p.rid (reply p.msg)).now,
    by (client m w p.to.num).work refl (feed_ok m h ms r v.packets within ms [] (sym (nil_right ms)) p.to.num (noted_of m w p.to.num) (state p.to.num) p i to (client m w p.to.num).work refl) has,
    refl,
  )
    where
      by : (o : Option (Work m)) → (client m w p.to.num).work ≡ o
          → FeedOk m h ms r v.packets within ms [] (sym (nil_right ms)) p.to.num (noted_of m w p.to.num) (state p.to.num) p i to o (feed m (client m w p.to.num) o p.from p.rid (reply p.msg))
          → Has (feed m (client m w p.to.num) o p.from p.rid (reply p.msg)).notes y → Waited p.to.num (feed m (client m w p.to.num) o p.from p.rid (reply p.msg)).now why
      by None e k j = absurd (subst (λ (ns : List (NoteOf m)). Has ns y) k.1 j)
      by (Some a) e k j = record { work = a; works = e; why_so = subst (SayOk m (Gets p.to.num) (Asks p.to.num) (noted_of m w p.to.num).next (feed m (client m w p.to.num) (Some a) p.from p.rid (reply p.msg)).now a.command a.oids) is (k.says y j) }

  refused_later : RefusedLaterTrue m w e
  refused_later not_given t why rep is ok = by e refl
    where
      here : Has rep.replies t
      here = has_contained rep.replies t rep.here

      kept : KeepsTx m why (client m w t.mark.client) (client m v t.mark.client)
      kept = ((refusals_keep m h ms w e r lawful few).later t why rep is).1

      over : (j : ℕ) → why ≡ cause.Overtaken j → OvertakenBy m v t j
      over j z = overtakes_agree m h (ms ++ Takes e ∷ []) v reached t j (contained v.told t (subst (λ (ts : List (Told m)). Has ts t) (sym rep.are) (has_right w.told rep.replies t here))) (is ∙ ap (λ (x : Refusal). told.Refused x) z)

      hands : (i : ℕ) → e ≡ Deliver i → Handed m w i v ⊎ (v.told ≡ w.told) → HasCause m w e t why
      hands i z (inr q) = absurd (silent m w v q t rep.replies rep.are here)
      hands i z (inl g) =
          let img = has_map (told_of m w g.packet.to.num (noted_of m w g.packet.to.num)) (turn m w g.packet).notes t
          (subst (λ (ys : List (Told m)). Has ys t) (cancel w.told rep.replies (map (told_of m w g.packet.to.num (noted_of m w g.packet.to.num)) (turn m w g.packet).notes) (sym rep.are ∙ g.grown)) here) in
          let wt = waited g.packet g.sent g.to img.of why img.has (ap (λ (x : Told m). x.mark.what) (sym img.is) ∙ is) in
          let same = g.now ∙ wt.2 in
          subst (λ (x : Told m). HasCause m w e x why) (sym img.is) (record {
            command = wt.1.work.command;
            answered = subst (λ (u : EventOf m). command_at m w u g.packet.to.num ≡ Some wt.1.work.command) (sym z) (ap (λ (o : Option (Work m)). command_in m o) wt.1.works);
            because = because g.packet.to.num img.of wt.1.work wt.0 wt.1.works (ap (λ (c : Client m). c.stand) same) (ap (λ (c : Client m). c.view) same) (ap (λ (c : Client m). c.tx) same) why ok
                (subst (λ (x : Told m). KeepsTx m why (client m w x.mark.client) (client m v x.mark.client)) img.is kept)
                (λ j q. subst (λ (x : Told m). OvertakenBy m v x j) img.is (over j q))
                wt.1.why_so;
          })

      quiet : (x : EventOf m) → e ≡ x → (happens m w x).told ≡ w.told → HasCause m w e t why
      quiet x z q = absurd (silent m w v (subst (λ (u : EventOf m). (happens m w u).told ≡ w.told) (sym z) q) t rep.replies rep.are here)

      by : (x : EventOf m) → e ≡ x → HasCause m w e t why
      by (Commands k x) z = absurd (not_given k x z)
      by (Deliver i) z = hands i z (subst (λ (u : EventOf m). Handed m w i (happens m w u) ⊎ ((happens m w u).told ≡ w.told)) (sym z) (deliver_hands m w i))
      by (Lose i) z = quiet (Lose i) z (lose_tells m w i)
      by (Tick n) z = quiet (Tick n) z (tick_tells m w n)
      by (Stop n) z = quiet (Stop n) z (stop_tells m w n)

pub refused_later_true : (m : Meaning) → EachStep m (RefusedLaterTrue m)
refused_later_true m h ms w e r lawful few =
    subst (λ (u : World m). u.steps < most_steps → RefusedLaterTrue m u e) (sym r.goes.is) (λ f. refused_later m h ms (subst (Reaches m h ms) r.goes.is r) e lawful f) few
