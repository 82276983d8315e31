-- Every step of a contest keeps what is known of its packets, its servers and its clients.
use Rattle.std.proofs.Common.{◌≡◌, ◌⊎◌, ℕ, zero, suc, ◌+◌, ◌<◌, List, [], ◌∷◌, ◌++◌, length, Bool, true, false, refl, sym, ap, ◌∙◌, subst, inl, inr, arith, Some, None, Option, ◌&&◌}
use Rattle.std.specs.Prelude.{slice_get, slice_index_or, nat_lt, All, ◌==◌}
use Rattle.tg_base.specs.Layouts.{Layout}
use Rattle.tg_base.specs.Changes.{Changed}
use Rattle.tg_base.specs.declared.ids.Ballot.{Ballot}
use Rattle.tg_base.specs.declared.ids.NodeId.{NodeId}
use Rattle.tg_base.specs.declared.ids.Role.{Role}
use Rattle.tg_base.specs.declared.ids.Role.TheVariants as role
use Rattle.tg_base.specs.declared.msg.Msg.{Msg}
use Rattle.tg_base.specs.declared.msg.Msg.TheVariants as msg
use Rattle.tg_base.specs.declared.packet.Out.{Out}
use Rattle.tg_base.specs.declared.packet.Packet.{Packet}
use Rattle.tg_base.specs.Orders.{node_eq}
use Rattle.tg_protocol.specs.Words.{layout_id, client_id, unit_id}
use Rattle.tg_protocol.specs.Layouts.{next_of}
use Rattle.tg_protocol.specs.LayoutServers.{LayoutState, LayoutTurn, Vote, no_vote, vote_of, layout_step}
use Rattle.tg_protocol.specs.Logs.{acceptances}
use Rattle.tg_protocol.specs.Requests.{awaits, Next, Goes, Learns, Ends}
use Rattle.tg_protocol.specs.Replies.{Reply, reply}
use Rattle.tg_protocol.specs.Replies as replies
use Rattle.tg_protocol.specs.Reconfiguring.{Before, SealingSpare, Reconf, ReconfEnd, ReconfTurn, reconf_start, later_asks, reconf_asks, reconf_awaited, reconf_feed, reconf_latest}
use Rattle.tg_law_layouts.specs.Agreement.Contests.{Proposer, Contest, Event, Arrives, Answers, Ticks, packet_of, packets_of, goes_on, asks_of, resent, ProposerTurn, rests, after, fed_if, hears_reply, hears_at, hears, client_turned, to_client, answer_to, to_server, comes, arrives, ticks, happens, run, Wish, begins_by, proposers_from, packets_from, contest}
use Rattle.tg_law_layouts.specs.Agreement.Laws.{HasWon, IsFresh, IsProposed, OneIsChosen, ChosenIsProposed}
use Rattle.tg_law_layouts.proofs.Moves.Members.{Has, has_left, has_either, has_got, has_contained, has_map, has_filter, placed, set_long, got_below}
use Rattle.tg_law_layouts.proofs.Agreement.Counts.{majorities_meet}
use Rattle.tg_law_layouts.proofs.Agreement.Facts.{Proposed, Promised, Elected, Truth, IsMost, agreed}
use Rattle.tg_law_layouts.proofs.Agreement.Servers.{server_moves, Stands}
use Rattle.tg_law_layouts.proofs.Agreement.Votes.{Said, said_this, NewProposal, NewPromise, NewAcceptance, grows, proposed_or_now, sent_truth, sent_stands, proposed_old, answered_truth, other_stands, own_stands}
use Rattle.tg_law_steps.proofs.Machines.Reconfs as turns
use Rattle.tg_law_layouts.proofs.Agreement.Proposers.{WorkProposes, ReconfOk, NextOk, TurnOk, Below, feed_ok, latest_ok, awaited_proposes, again_awaited, reconf_still, work_own, work_one}

-- What is known of a contest.

abbrev pub awaited_of : Option Reconf → List Out
awaited_of None = []
awaited_of (Some r) = reconf_awaited r

-- what is asked is awaited
asked_awaited : (w : Option Reconf) (o : Out) → Has (asks_of w) o → Has (awaited_of w) o
asked_awaited None o h = h
asked_awaited (Some r) o h = has_left (reconf_asks r) (later_asks r r.work) o h

abbrev pub OptionProposes : ℕ → Option Reconf → Ballot → Layout → Type 0
OptionProposes k None b q = ⊥
OptionProposes k (Some r) b q = WorkProposes k r.work b q

module _ (p : Layout) (wishes : List Wish) (n : ℕ) where
  abbrev E : ℕ
  E = p.epoch + 1

  abbrev Mine : Layout → Type 0
  Mine = IsProposed p wishes

  -- client k wants a change
  pub record Wants (k : ℕ) (c : Changed) : Type 0 where
    pub wish : Wish
    pub at : slice_get wishes k ≡ Some wish
    pub change : wish.change ≡ Some c

  mine : (k : ℕ) (c : Changed) → Wants k c → (start : ℕ) → Mine (next_of p c k start)
  mine k c w start = record { client = k; wish = w.wish; is = w.at; change = c; wanted = w.change; start = start; layout = refl }

  pub record WorkerOk (k : ℕ) (ps : List Packet) (r : Reconf) : Type 0 where
    pub change : Changed
    pub wants : Wants k change
    pub is : ReconfOk p change n k Mine ps r

  abbrev pub ClientOk : ℕ → List Packet → Option Reconf → Type 0
  ClientOk k ps None = Unit {0}
  ClientOk k ps (Some r) = WorkerOk k ps r

  pub record Known (w : Contest) : Type 0 where
    pub truth : Truth E n Mine w.packets
    pub long : length w.servers ≡ n
    pub servers : (l : ℕ) (s : LayoutState) → slice_get w.servers l ≡ Some s → Stands E w.packets l (vote_of s E)
    pub clients : (k : ℕ) (x : Proposer) → slice_get w.proposers k ≡ Some x → ClientOk k w.packets x.work

  -- A client sends.

  module _ (ps : List Packet) (truth : Truth E n Mine ps) (k : ℕ) (work : Option Reconf) (ok : ClientOk k ps work) (outs : List Out) (sub : (o : Out) → Has outs o → Has (awaited_of work) o) where
    abbrev new : List Packet
    new = packets_of (client_id k) outs

    option_proposes : (o : Option Reconf) → ClientOk k ps o → (x : Out) (b : Ballot) (q : Layout) → Has (awaited_of o) x → x.msg ≡ msg.Accept E b q → OptionProposes k o b q
    option_proposes None h x b q has is = has
    option_proposes (Some r) h x b q has is = awaited_proposes r k x E b q h.is.me has is

    new_proposes : (b : Ballot) (q : Layout) → NewProposal E ps new b q → OptionProposes k work b q
    new_proposes b q x =
        let i = has_map (packet_of (client_id k)) outs x.packet x.sent in
        option_proposes work ok i.of b q (sub i.of i.has) (sym (ap (λ (y : Packet). y.msg) i.is) ∙ x.is)

    client_or_layout : (l : ℕ) → client_id k ≡ layout_id l → ⊥
    client_or_layout l h = let r = ap (λ (z : NodeId). z.role) h in absurd (other r)
      where
        other : role.Client ≡ role.Layout → ⊥
        other r = cc

    no_promise : (l : ℕ) (b : Ballot) (a : Before) → NewPromise E ps new l b a → ⊥
    no_promise l b a x =
        let i = has_map (packet_of (client_id k)) outs x.packet x.sent in client_or_layout l (sym (ap (λ (y : Packet). y.from) i.is) ∙ x.from)

    no_acceptance : (l : ℕ) (b : Ballot) → NewAcceptance E ps new l b → ⊥
    no_acceptance l b x =
        let i = has_map (packet_of (client_id k)) outs x.packet x.sent in client_or_layout l (sym (ap (λ (y : Packet). y.from) i.is) ∙ x.from)

    -- what a client proposes now
    abbrev Own : Ballot → Layout → Type 0
    Own b q = (b.client ≡ k) × Elected E n ps b q × Mine q × ((y : Layout) → Proposed E ps b y → y ≡ q)

    own_of : (o : Option Reconf) → ClientOk k ps o → (b : Ballot) (q : Layout) → OptionProposes k o b q → Own b q
    own_of None h b q x = absurd x
    own_of (Some r) h b q x = work_own p h.change n k Mine ps r r.work b q h.is.work x

    one_of : (o : Option Reconf) (b : Ballot) (q r : Layout) → OptionProposes k o b q → OptionProposes k o b r → q ≡ r
    one_of None b q r x y = absurd x
    one_of (Some s) b q r x y = work_one k s.work b q r x y

    proposed_or_own : (b : Ballot) (q : Layout) → Proposed E (ps ++ new) b q → Proposed E ps b q ⊎ OptionProposes k work b q
    proposed_or_own b q x = proposed_or_now E n Mine ps truth k new no_promise no_acceptance (OptionProposes k work) new_proposes (own_of work ok) (one_of work) b q x

    client_truth : Truth E n Mine (ps ++ new)
    client_truth = sent_truth E n Mine ps truth k new no_promise no_acceptance (OptionProposes k work) new_proposes (own_of work ok) (one_of work)

    client_stands : (l : ℕ) (v : Vote) → Stands E ps l v → Stands E (ps ++ new) l v
    client_stands l v s = sent_stands E n Mine ps truth k new no_promise no_acceptance (OptionProposes k work) new_proposes (own_of work ok) (one_of work) l v s

    pub sent_own : (o : Option Reconf) → work ≡ o → ClientOk k ps o → ClientOk k (ps ++ new) o
    sent_own None is h = tt
    sent_own (Some r) is h = record {
      change = h.change;
      wants = h.wants;
      is = reconf_still p h.change n k Mine ps (ps ++ new) (grows E ps new) r (λ b q x mine. by b q (proposed_or_own b q x)) h.is;
    }
      where
        by : (b : Ballot) (q : Layout) → Proposed E ps b q ⊎ OptionProposes k work b q → Proposed E ps b q ⊎ WorkProposes k r.work b q
        by b q (inl y) = inl y
        by b q (inr y) = inr (subst (λ (o : Option Reconf). OptionProposes k o b q) is y)

    pub sent_other : (i : ℕ) → (i ≡ k → ⊥) → (o : Option Reconf) → ClientOk i ps o → ClientOk i (ps ++ new) o
    sent_other i other None h = tt
    sent_other i other (Some r) h = record {
      change = h.change;
      wants = h.wants;
      is = reconf_still p h.change n i Mine ps (ps ++ new) (grows E ps new) r (λ b q x own. by b q own (proposed_or_own b q x)) h.is;
    }
      where
        by : (b : Ballot) (q : Layout) → b.client ≡ i → Proposed E ps b q ⊎ OptionProposes k work b q → Proposed E ps b q ⊎ WorkProposes i r.work b q
        by b q own (inl y) = inl y
        by b q own (inr y) = absurd (other (sym own ∙ (own_of work ok b q y).0))

  -- A server answers.

  said_in : (l : ℕ) (x : Packet) (o : Option Msg) → x.to ≡ layout_id l → (y : Packet) → Has (answer_to x o) y → Said l o y
  said_in l x None to y h = absurd h
  said_in l x (Some z) to y h = said_this l z _ y to refl h

  -- it proposes nothing, so the clients stay as they should be
  silent_client : (ps more : List Packet) → ((b : Ballot) (q : Layout) → Proposed E (ps ++ more) b q → Proposed E ps b q) → (k : ℕ) (o : Option Reconf) → ClientOk k ps o → ClientOk k (ps ++ more) o
  silent_client ps more old k None h = tt
  silent_client ps more old k (Some r) h = record { change = h.change; wants = h.wants; is = reconf_still p h.change n k Mine ps (ps ++ more) (grows E ps more) r (λ b q y own. inl (old b q y)) h.is }

  -- Steps.

  role_id : (a : NodeId) (r : Role) → a.role ≡ r → a ≡ record { role = r; num = a.num }
  role_id a r h = grind arith

  same_number : (i k : ℕ) → (i ≡ k) ⊎ (i ≡ k → ⊥)
  same_number i k = by (i == k) refl
    where
      by : (b : Bool) → (i == k) ≡ b → (i ≡ k) ⊎ (i ≡ k → ⊥)
      by true h = inl (grind arith)
      by false h = inr (λ e. grind arith)

  server_step : (w : Contest) → Known w → (x : Packet) → Has w.packets x → x.to.role ≡ role.Layout → (o : Option LayoutState) → slice_get w.servers x.to.num ≡ o → Known (to_server w x o)
  server_step w known x sent is None at = known
  server_step w known x sent is (Some s) at = record {
    truth = answered_truth E n Mine w.packets known.truth x sent l less (vote_of s E) (vote_of t.now E) (known.servers l s at) t.says (server_moves E s x.msg) answers says;
    long = set_long w.servers l t.now ∙ known.long;
    servers = λ i y h. by i y (placed w.servers l t.now i y h);
    clients = λ k y h. silent_client w.packets answers
        (λ b q z. proposed_old E n Mine w.packets known.truth x sent l less (vote_of s E) (vote_of t.now E) (known.servers l s at) t.says (server_moves E s x.msg) answers says b q z) k y.work (known.clients k y h);
  }
    where
      l : ℕ
      l = x.to.num

      t : LayoutTurn
      t = layout_step s x.msg

      less : l < n
      less = subst (λ m. l < m) known.long (got_below w.servers l s at)

      answers : List Packet
      answers = answer_to x t.says

      says : (y : Packet) → Has answers y → Said l t.says y
      says y h = said_in l x t.says (role_id x.to role.Layout is) y h

      by : (i : ℕ) (y : LayoutState) → ((i ≡ l) × (y ≡ t.now)) ⊎ ((i ≡ l → ⊥) × (slice_get w.servers i ≡ Some y)) → Stands E (w.packets ++ answers) i (vote_of y E)
      by i y (inl z) =
          subst (λ (j : ℕ). Stands E (w.packets ++ answers) j (vote_of y E)) (sym z.0)
          (subst (λ (q : LayoutState). Stands E (w.packets ++ answers) l (vote_of q E)) (sym z.1)
          (own_stands E n Mine w.packets known.truth x sent l less (vote_of s E) (vote_of t.now E) (known.servers l s at) t.says (server_moves E s x.msg) answers says))
      by i y (inr z) =
          other_stands E n Mine w.packets known.truth x sent l less (vote_of s E) (vote_of t.now E) (known.servers l s at) t.says (server_moves E s x.msg) answers says i (vote_of y E) z.0 (known.servers i y z.1)

  pub record TurnFine (k : ℕ) (ps : List Packet) (t : ProposerTurn) : Type 0 where
    pub ok : ClientOk k ps t.now.work
    pub sends : (o : Out) → Has t.sends o → Has (awaited_of t.now.work) o

  client_step : (w : Contest) → Known w → (k : ℕ) (t : ProposerTurn) → TurnFine k w.packets t → Known (client_turned w k t)
  client_step w known k t fine = record {
    truth = client_truth w.packets known.truth k t.now.work fine.ok t.sends fine.sends;
    long = known.long;
    servers = λ l s h. client_stands w.packets known.truth k t.now.work fine.ok t.sends fine.sends l (vote_of s E) (known.servers l s h);
    clients = λ i y h. by i y (placed w.proposers k t.now i y h);
  }
    where
      by : (i : ℕ) (y : Proposer) → ((i ≡ k) × (y ≡ t.now)) ⊎ ((i ≡ k → ⊥) × (slice_get w.proposers i ≡ Some y)) → ClientOk i (w.packets ++ packets_of (client_id k) t.sends) y.work
      by i y (inl z) =
          subst (λ (j : ℕ). ClientOk j (w.packets ++ packets_of (client_id k) t.sends) y.work) (sym z.0)
          (subst (λ (q : Proposer). ClientOk k (w.packets ++ packets_of (client_id k) t.sends) q.work) (sym z.1)
          (sent_own w.packets known.truth k t.now.work fine.ok t.sends fine.sends t.now.work refl fine.ok))
      by i y (inr z) = sent_other w.packets known.truth k t.now.work fine.ok t.sends fine.sends i z.0 y.work (known.clients i y z.1)

  tick_step : (w : Contest) → Known w → (k : ℕ) (o : Option Proposer) → slice_get w.proposers k ≡ o → Known (ticks w k o)
  tick_step w known k None at = known
  tick_step w known k (Some x) at = record {
    truth = client_truth w.packets known.truth k x.work ok (resent x.work) sub;
    long = known.long;
    servers = λ l s h. client_stands w.packets known.truth k x.work ok (resent x.work) sub l (vote_of s E) (known.servers l s h);
    clients = λ i y h. by i y h (same_number i k);
  }
    where
      ok : ClientOk k w.packets x.work
      ok = known.clients k x at

      sub_of : (o : Option Reconf) (y : Out) → Has (resent o) y → Has (awaited_of o) y
      sub_of None y h = h
      sub_of (Some r) y h = again_awaited r y h

      sub : (y : Out) → Has (resent x.work) y → Has (awaited_of x.work) y
      sub y h = sub_of x.work y h

      some_same : (y z : Proposer) → Some y ≡ Some z → y ≡ z
      some_same y z e = cc

      by : (i : ℕ) (y : Proposer) → slice_get w.proposers i ≡ Some y → (i ≡ k) ⊎ (i ≡ k → ⊥) → ClientOk i (w.packets ++ packets_of (client_id k) (resent x.work)) y.work
      by i y h (inl e) =
          let same : y ≡ x = some_same y x (sym h ∙ (ap (λ (j : ℕ). slice_get w.proposers j) e ∙ at)) in
          subst (λ (j : ℕ). ClientOk j (w.packets ++ packets_of (client_id k) (resent x.work)) y.work) (sym e)
          (subst (λ (q : Proposer). ClientOk k (w.packets ++ packets_of (client_id k) (resent x.work)) q.work) (sym same)
          (sent_own w.packets known.truth k x.work ok (resent x.work) sub x.work refl ok))
      by i y h (inr other) = sent_other w.packets known.truth k x.work ok (resent x.work) sub i other y.work (known.clients i y h)

  -- What a client does with a message.

  rests_fine : (k : ℕ) (ps : List Packet) (x : Proposer) → ClientOk k ps x.work → TurnFine k ps (rests x)
  rests_fine k ps x ok = record { ok = ok; sends = λ o h. absurd h }

  next_fine : (k : ℕ) (ps : List Packet) (c : Changed) → Wants k c → (y : Next Reconf ReconfEnd) → NextOk p c n k Mine ps y → ClientOk k ps (goes_on y)
  next_fine k ps c wants (Goes r) ok = record { change = c; wants = wants; is = ok }
  next_fine k ps c wants (Learns r) ok = record { change = c; wants = wants; is = ok }
  next_fine k ps c wants (Ends e) ok = tt

  after_fine : (k : ℕ) (ps : List Packet) (c : Changed) → Wants k c → (x : Proposer) (t : ReconfTurn) → TurnOk p c n k Mine ps t → TurnFine k ps (after x t)
  after_fine k ps c wants x t ok = record { ok = next_fine k ps c wants t.to ok; sends = λ o h. asked_awaited (goes_on t.to) o (has_filter _ (asks_of (goes_on t.to)) o h) }

  fed_fine : (k : ℕ) (ps : List Packet) (c : Changed) → Wants k c → (x : Proposer) → ClientOk k ps x.work → (b : Bool) (t : ReconfTurn) → (b ≡ true → TurnOk p c n k Mine ps t) → TurnFine k ps (fed_if b x t)
  fed_fine k ps c wants x ok true t fine = after_fine k ps c wants x t (fine refl)
  fed_fine k ps c wants x ok false t fine = rests_fine k ps x ok

  -- a promise that comes from a layout server was sent by it
  abbrev IsHonest : List Packet → NodeId → Reply → Type 0
  IsHonest ps from y = from ≡ layout_id from.num → (b : Ballot) (a : Before) → y ≡ replies.IsPromise E b a → Promised E ps from.num b a

  reply_fine : (k : ℕ) (ps : List Packet) → Truth E n Mine ps → (x : Proposer) → ClientOk k ps x.work → (r : Reconf) → WorkerOk k ps r → (from : NodeId) (rid : ℕ) (y : Reply) → IsHonest ps from y
      → TurnFine k ps (hears_reply x r from rid y)
  reply_fine k ps truth x ok r work from rid (replies.IsLatest q) honest =
      fed_fine k ps work.change work.wants x ok (node_eq from (layout_id from.num) && nat_lt r.stand.epoch q.epoch) (reconf_latest r r.work from.num rid q x.next) (λ h. latest_ok p work.change n k Mine (mine k work.change work.wants) ps truth r from.num rid q x.next work.is)
  reply_fine k ps truth x ok r work from rid y honest =
      fed_fine k ps work.change work.wants x ok (awaits (reconf_awaited r) from rid) (reconf_feed r r.work from.num rid y x.next) (λ h. feed_ok p work.change n k Mine (mine k work.change work.wants) ps truth r from rid y x.next work.is h honest)

  hears_fine : (k : ℕ) (ps : List Packet) → Truth E n Mine ps → (x : Proposer) → ClientOk k ps x.work → (o : Option Reconf) → x.work ≡ o → (from : NodeId) (rid : ℕ) (m : Msg) → IsHonest ps from (reply m)
      → TurnFine k ps (hears_at x o from rid m)
  hears_fine k ps truth x ok None is from rid m honest = rests_fine k ps x ok
  hears_fine k ps truth x ok (Some r) is from rid m honest = reply_fine k ps truth x ok r (subst (λ (o : Option Reconf). ClientOk k ps o) is ok) from rid (reply m) honest

  hears_step : (w : Contest) → Known w → (k : ℕ) (from : NodeId) (rid : ℕ) (m : Msg) → IsHonest w.packets from (reply m) → (o : Option Proposer) → slice_get w.proposers k ≡ o
      → Known (to_client w k from rid m o)
  unfolding hears
  hears_step w known k from rid m honest None at = known
  hears_step w known k from rid m honest (Some x) at =
      client_step w known k _ (hears_fine k w.packets known.truth x (known.clients k x at) x.work refl from rid m honest)

  reply_promise : (m : Msg) (b : Ballot) (a : Before) → reply m ≡ replies.IsPromise E b a → m ≡ msg.Promise E b a
  unfolding reply
  reply_promise m b a h = grind arith

  unit_not : (u i : ℕ) → unit_id u ≡ layout_id i → ⊥
  unit_not u i h = let r = ap (λ (z : NodeId). z.role) h in absurd (other r)
    where
      other : role.Unit ≡ role.Layout → ⊥
      other r = cc

  comes_step : (w : Contest) → Known w → (x : Packet) → Has w.packets x → (r : Role) → x.to.role ≡ r → Known (comes w x r)
  comes_step w known x sent role.Layout is = server_step w known x sent is _ refl
  comes_step w known x sent role.Client is =
      hears_step w known x.to.num x.from x.rid x.msg (λ from b a h. record { packet = x; sent = sent; from = from; is = reply_promise x.msg b a h }) _ refl
  comes_step w known x sent role.Unit is = known
  comes_step w known x sent role.Seqr is = known

  arrives_step : (w : Contest) → Known w → (i : ℕ) (o : Option Packet) → slice_get w.packets i ≡ o → Known (arrives w o)
  arrives_step w known i None at = known
  arrives_step w known i (Some x) at = comes_step w known x (has_got w.packets i x at) x.to.role refl

  pub happens_keeps : (w : Contest) → Known w → (e : Event) → Known (happens w e)
  unfolding happens
  happens_keeps w known (Arrives i) = arrives_step w known i _ refl
  happens_keeps w known (Answers u k rid m) = hears_step w known k (unit_id u) rid m (λ from b a h. absurd (unit_not u _ from)) _ refl
  happens_keeps w known (Ticks k) = tick_step w known k _ refl

  pub run_keeps : (es : List Event) (w : Contest) → Known w → Known (run w es)
  unfolding run
  run_keeps [] w known = known
  run_keeps (e ∷ es) w known = run_keeps es (happens w e) (happens_keeps w known e)

  -- The beginning.

  -- packets that clients send, and that propose nothing
  pub record Quiet (ps : List Packet) : Type 0 where
    pub clients : (x : Packet) → Has ps x → (l : ℕ) → x.from ≡ layout_id l → ⊥
    pub proposals : (x : Packet) → Has ps x → (b : Ballot) (q : Layout) → x.msg ≡ msg.Accept E b q → ⊥

  quiet_truth : (ps : List Packet) → Quiet ps → Truth E n Mine ps
  quiet_truth ps quiet = record {
    facts = record {
      unique = λ b q r x y. absurd (none b q x);
      elected = λ b q x. absurd (none b q x);
      tells = λ l b d a x y less. absurd (quiet.clients x.packet x.sent l x.from);
    };
    servers = λ l b a x. absurd (quiet.clients x.packet x.sent l x.from);
    told = λ l b y x. absurd (quiet.clients x.packet x.sent l x.from);
    allowed = λ b q x. absurd (none b q x);
  }
    where
      none : (b : Ballot) (q : Layout) → Proposed E ps b q → ⊥
      none b q x = quiet.proposals x.packet x.sent b q x.is

  quiet_stands : (ps : List Packet) → Quiet ps → (l : ℕ) (v : Vote) → v ≡ no_vote → Stands E ps l v
  quiet_stands ps quiet l v fresh = record {
    promised = λ b a x. absurd (quiet.clients x.packet x.sent l x.from);
    covered = λ b x. absurd (quiet.clients x.packet x.sent l x.from);
    proposed = λ y is. absurd (none y (sym (ap (λ (t : Vote). t.accepted) fresh) ∙ is));
  }
    where
      none : (y : Ballot × Layout) → None ≡ Some y → ⊥
      none y h = cc

  -- a client that begins, whatever was sent, where it proposed nothing before

  first_ok : (k next : ℕ) (c : Changed) (ps : List Packet) → Below E n k Mine ps 0 → TurnOk p c n k Mine ps (reconf_start p n c k next)
  first_ok k next c ps below = by _ (turns.reconf_begun p n c k next)
    where
      r : Reconf
      r = record { change = c; me = k; layouts = n; stand = p; work = SealingSpare 0 }

      by : (t : ReconfTurn) → turns.Begun r next t → TurnOk p c n k Mine ps t
      by _ (turns.JoinsNone e) = record { me = refl; layouts = refl; work = (refl, refl, below) }
      by _ (turns.Joins j e) = record { me = refl; layouts = refl; work = (refl, refl, below) }

  quiet_below : (k : ℕ) (ps : List Packet) → Quiet ps → Below E n k Mine ps 0
  quiet_below k ps quiet b q x own = absurd (quiet.proposals x.packet x.sent b q x.is)

  begins_fine : (k next : ℕ) (ps : List Packet) → Quiet ps → (o : Option Changed) → ((c : Changed) → o ≡ Some c → Wants k c) → TurnFine k ps (begins_by p n k next o)
  begins_fine k next ps quiet None wants = rests_fine k ps (record { next = next; work = None }) tt
  begins_fine k next ps quiet (Some c) wants = after_fine k ps c (wants c refl) (record { next = next; work = None }) (reconf_start p n c k next) (first_ok k next c ps (quiet_below k ps quiet))

  begins_quiet : (k next : ℕ) (o : Option Changed) → ((c : Changed) → o ≡ Some c → Wants k c) → Quiet (packets_of (client_id k) (begins_by p n k next o).sends)
  begins_quiet k next o wants = record {
    clients = λ x h l from. let i = has_map (packet_of (client_id k)) _ x h in not_layout l (sym (ap (λ (y : Packet). y.from) i.is) ∙ from);
    proposals = λ x h b q is.
        let i = has_map (packet_of (client_id k)) _ x h in
        let fine = begins_fine k next [] none o wants in
        by _ fine.ok i.of b q (fine.sends i.of i.has) (sym (ap (λ (y : Packet). y.msg) i.is) ∙ is);
  }
    where
      none : Quiet []
      none = record { clients = λ x h l from. h; proposals = λ x h b q is. h }

      other : role.Client ≡ role.Layout → ⊥
      other r = cc

      not_layout : (l : ℕ) → client_id k ≡ layout_id l → ⊥
      not_layout l h = other (ap (λ (z : NodeId). z.role) h)

      nothing : Truth E n Mine []
      nothing = quiet_truth [] none

      by : (w : Option Reconf) → ClientOk k [] w → (x : Out) (b : Ballot) (q : Layout) → Has (awaited_of w) x → x.msg ≡ msg.Accept E b q → ⊥
      by None h x b q has is = has
      by (Some r) h x b q has is = early_proposes (work_own p h.change n k Mine [] r r.work b q h.is.work (awaited_proposes r k x E b q h.is.me has is))
        where
          early_proposes : (b.client ≡ k) × Elected E n [] b q × Mine q × ((y : Layout) → Proposed E [] b y → y ≡ q) → ⊥
          early_proposes z = let m = majorities_meet z.1.quorum z.1.quorum n z.1.most in (z.1.promises m.at m.below m.first).1.sent

  quiet_both : (ps qs : List Packet) → Quiet ps → Quiet qs → Quiet (ps ++ qs)
  quiet_both ps qs a b = record {
    clients = λ x h l from. by (has_either ps qs x h) (λ t. a.clients x t l from) (λ t. b.clients x t l from);
    proposals = λ x h d q is. by (has_either ps qs x h) (λ t. a.proposals x t d q is) (λ t. b.proposals x t d q is);
  }
    where
      by : {A B : Type 0} → A ⊎ B → (A → ⊥) → (B → ⊥) → ⊥
      by (inl t) f g = f t
      by (inr t) f g = g t

  -- these are the wishes from client j on
  abbrev AreFrom : ℕ → List Wish → Type 0
  AreFrom j xs = (i : ℕ) (x : Wish) → slice_get xs i ≡ Some x → slice_get wishes (j + i) ≡ Some x

  are_after : (j : ℕ) (x : Wish) (xs : List Wish) → AreFrom j (x ∷ xs) → AreFrom (j + 1) xs
  are_after j x xs are i y h = subst (λ (m : ℕ). slice_get wishes m ≡ Some y) (omega arith) (are (suc i) y h)

  wants_first : (j : ℕ) (x : Wish) (xs : List Wish) → AreFrom j (x ∷ xs) → (c : Changed) → x.change ≡ Some c → Wants j c
  wants_first j x xs are c is = record { wish = x; at = subst (λ (m : ℕ). slice_get wishes m ≡ Some x) (omega arith) (are 0 x refl); change = is }

  quiet_from : (j : ℕ) (xs : List Wish) → AreFrom j xs → Quiet (packets_from p n j xs)
  unfolding packets_from
  quiet_from j [] are = record { clients = λ x h l from. h; proposals = λ x h b q is. h }
  quiet_from j (x ∷ xs) are = quiet_both _ _ (begins_quiet j x.next x.change (wants_first j x xs are)) (quiet_from (j + 1) xs (are_after j x xs are))

  proposer_same : (x y : Proposer) → Some x ≡ Some y → x ≡ y
  proposer_same x y e = cc

  clients_from : (ps : List Packet) → Quiet ps → (j : ℕ) (xs : List Wish) → AreFrom j xs → (i : ℕ) (y : Proposer) → slice_get (proposers_from p n j xs) i ≡ Some y → ClientOk (j + i) ps y.work
  unfolding proposers_from
  clients_from ps quiet j [] are i y h = absurd (nothing h)
    where
      nothing : None ≡ Some y → ⊥
      nothing e = cc
  clients_from ps quiet j (x ∷ xs) are zero y h =
      subst (λ (m : ℕ). ClientOk m ps y.work) (omega arith)
      (subst (λ (z : Proposer). ClientOk j ps z.work) (proposer_same _ y h) (begins_fine j x.next ps quiet x.change (wants_first j x xs are)).ok)
  clients_from ps quiet j (x ∷ xs) are (suc i) y h =
      subst (λ (m : ℕ). ClientOk m ps y.work) (omega arith) (clients_from ps quiet (j + 1) xs (are_after j x xs are) i y h)

-- The laws.

fresh_at : (p : Layout) (servers : List LayoutState) → All (IsFresh p) servers → (l : ℕ) (s : LayoutState) → slice_get servers l ≡ Some s → IsFresh p s
fresh_at p servers fresh l s h = subst (IsFresh p) (index servers l s h) (fresh l s (got_below servers l s h))
  where
    index : (xs : List LayoutState) (i : ℕ) (x : LayoutState) → slice_get xs i ≡ Some x → slice_index_or xs i x ≡ x
    index [] i x e = absurd (cc)
    index (y ∷ xs) zero x e = cc
    index (y ∷ xs) (suc i) x e = index xs i x e

all_from : (wishes : List Wish) (i : ℕ) (x : Wish) → slice_get wishes i ≡ Some x → slice_get wishes (0 + i) ≡ Some x
all_from wishes i x h = subst (λ (m : ℕ). slice_get wishes m ≡ Some x) (omega arith) h

start_known : (p : Layout) (servers : List LayoutState) (wishes : List Wish) → All (IsFresh p) servers → Known p wishes (length servers) (contest p servers wishes)
unfolding contest
start_known p servers wishes fresh = record {
  truth = quiet_truth p wishes (length servers) _ quiet;
  long = refl;
  servers = λ l s h. quiet_stands p wishes (length servers) _ quiet l _ (fresh_at p servers fresh l s h);
  clients = λ k x h. subst (λ (m : ℕ). ClientOk p wishes (length servers) m sent x.work) (omega arith) (clients_from p wishes (length servers) _ quiet 0 wishes (all_from wishes) k x h);
}
  where
    sent : List Packet
    sent = packets_from p (length servers) 0 wishes

    quiet : Quiet p wishes (length servers) sent
    quiet = quiet_from p wishes (length servers) 0 wishes (all_from wishes)

known_after : (p : Layout) (servers : List LayoutState) (wishes : List Wish) (es : List Event) → All (IsFresh p) servers
    → Known p wishes (length servers) (run (contest p servers wishes) es)
known_after p servers wishes es fresh = run_keeps p wishes (length servers) es (contest p servers wishes) (start_known p servers wishes fresh)

proposed_by : (w : Contest) (e : ℕ) (q : Layout) (x : HasWon w e q) → Proposed e w.packets x.ballot q
proposed_by w e q x = record { packet = x.packet; sent = has_contained w.packets x.packet x.sent; is = x.proposes }

most_by : (w : Contest) (e n : ℕ) (q : Layout) (x : HasWon w e q) → length w.servers ≡ n → IsMost w.packets e n x.ballot
most_by w e n q x long = subst (λ (m : ℕ). IsMost w.packets e m x.ballot) long (majority (acceptances w.packets e x.ballot (length w.servers)) (length w.servers) x.accepted)
  where
    majority : (a m : ℕ) → nat_lt m (a + a) ≡ true → m < a + a
    majority a m h = grind arith

pub one_is_chosen : OneIsChosen
one_is_chosen p servers wishes es q r fresh x y =
    let w = run (contest p servers wishes) es in
    let known = known_after p servers wishes es fresh in
    agreed (p.epoch + 1) (length servers) w.packets known.truth.facts x.ballot y.ballot q r
    (proposed_by w (p.epoch + 1) q x) (most_by w (p.epoch + 1) (length servers) q x known.long)
    (proposed_by w (p.epoch + 1) r y) (most_by w (p.epoch + 1) (length servers) r y known.long)

pub chosen_is_proposed : ChosenIsProposed
chosen_is_proposed p servers wishes es q fresh x =
    (known_after p servers wishes es fresh).truth.allowed x.ballot q (proposed_by (run (contest p servers wishes) es) (p.epoch + 1) q x)
