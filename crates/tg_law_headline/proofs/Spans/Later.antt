-- The pages of records of one kind that a client has begun since a world were sent only with tokens that were asked for after that.
use Rattle.std.proofs.Common.{◌≡◌, ◌⊎◌, ℕ, ◌<◌, ◌≤◌, List, [], ◌∷◌, ◌++◌, length, map, true, refl, sym, ap, ◌∙◌, subst, inl, inr, arith, Option, Some, None, append-nil}
use Rattle.std.specs.Prelude.{slice_index_or}
use Rattle.tg_base.specs.Clusters.{Header}
use Rattle.tg_base.specs.Layouts.{Layout}
use Rattle.tg_base.specs.declared.cell.Cell.TheVariants.{Data}
use Rattle.tg_base.specs.declared.ids.NodeId.{NodeId}
use Rattle.tg_base.specs.declared.ids.Oid.{Oid}
use Rattle.tg_base.specs.declared.ids.Role.TheVariants as role
use Rattle.tg_base.specs.declared.marks.StreamLink.{StreamLink}
use Rattle.tg_base.specs.declared.msg.Msg.{Msg}
use Rattle.tg_base.specs.declared.msg.Msg.TheVariants as msg
use Rattle.tg_base.specs.declared.packet.Out.{Out}
use Rattle.tg_base.specs.declared.packet.Packet.{Packet}
use Rattle.tg_entry.specs.declared.entry.Entry.{Entry}
use Rattle.tg_entry.specs.Format.{tag_of}
use Rattle.tg_kind.specs.Meaning.{Meaning}
use Rattle.tg_protocol.specs.Words.{client_id, seqr_id, layout_id}
use Rattle.tg_protocol.specs.Entries.{streams_of}
use Rattle.tg_protocol.specs.Requests.{Waits, awaits, out}
use Rattle.tg_protocol.specs.Replies.{reply, IsIssued}
use Rattle.tg_protocol.specs.Appending.{AppendWork, Asking, Putting, Judging, Append, append_work_asks, append_asks, append_feed, append_again}
use Rattle.tg_protocol.specs.Clients.{Task, Syncing, Walking, Appending, Trimming, Copying', Reconfiguring, Hand, Doing, Learning, Work, Client, new_client}
use Rattle.tg_protocol.specs.ClientSteps.{task_asks, task_in, asks_latest, ClientTurn}
use Rattle.tg_protocol.specs.Alike.{HasEntry}
use Rattle.tg_protocol.specs.Worlds.{World, packet_of, log}
use Rattle.tg_protocol.specs.Runs.{Move, Moves, Next as Counts, Takes, LawfulCommand, Reaches}
use Rattle.tg_law_layouts.specs.Moves.After.{after}
use Rattle.tg_law_layouts.specs.Moves.Configs.{Config, config, client_in}
use Rattle.tg_law_layouts.proofs.Moves.Clients.{reserved, work_reserved, hand_reserved, task_kept}
use Rattle.tg_law_layouts.proofs.Moves.Draws.{Drawn}
use Rattle.tg_law_layouts.proofs.Moves.Turns.{TurnDraws', command_draws, deliver_draws, tick_draws}
use Rattle.tg_law_layouts.proofs.Moves.Growth.{IsCalm, unit_quiet, layout_quiet, seqr_quiet}
use Rattle.tg_law_layouts.proofs.Moves.Lists.{at_set, contained}
use Rattle.tg_law_layouts.proofs.Moves.Members.{Has, has_either, has_map, has_right, has_contained}
use Rattle.tg_law_layouts.proofs.Moves.Moves.{AllGive, Comes, ClientInput, Commanded, Hears', Ticks', Given, CasesOf, client_turn, step_cases_of}
use Rattle.tg_law_layouts.specs.Layouts.Decisions.{IsOfDecided}
use Rattle.tg_law_layouts.proofs.Layouts.Deciding.{layouts_are_known}
use Rattle.tg_law_cells.specs.Cells.Settled.{IsSettled}
use Rattle.tg_law_cells.proofs.Cells.Justified.{Awaited, awaited_ask}
use Rattle.tg_law_cells.specs.Tokens.Issuing.{Issued}
use Rattle.tg_law_cells.proofs.Tokens.Issues.{issued_once, token_asks}
use Rattle.tg_law_cells.proofs.Tokens.Named.{one_issuer}
use Rattle.tg_law_cells.proofs.Tokens.Owning.{Pair}
use Rattle.tg_law_cells.proofs.Tokens.Pages.{Low}
use Rattle.tg_law_cells.proofs.Tokens.Own.{low_of, both_hold}
use Rattle.tg_law_cells.specs.Entries.Archive.{TrimsWereSafe}
use Rattle.tg_law_cells.proofs.Entries.Archive.{log_is_settled}
use Rattle.tg_law_replies.proofs.Replies.Turns.{feed_keeps, again_keeps}
use Rattle.tg_law_walks.proofs.Drafts.Became.{Holds, NextIs, Became, Fresh, Same, Fed, Again, became}
use Rattle.tg_law_walks.proofs.Drafts.Clients.{State, few_in}
use Rattle.tg_law_walks.proofs.Drafts.Sound.{IsAsking}
use Rattle.tg_law_walks.proofs.Drafts.Drafts.{sourced}
use Rattle.tg_law_walks.proofs.Drafts.Senders.{sender}
use Rattle.tg_law_walks.proofs.Drafts.Tokens.{AsksToken, task_token}
use Rattle.tg_law_walks.proofs.Drafts.Written.{next_draft, state_at, short_at, sent_at, then_next, then_takes, give_right}
use Rattle.tg_law_walks.proofs.Once.Along.{on_moves, spent_at, written_at}
use Rattle.tg_law_walks.proofs.Once.Once.{Stands, stands}
use Rattle.tg_law_walks.proofs.Once.Reached.{header, give, short, reach_at}
use Rattle.tg_law_walks.proofs.Once.Spending.{Put, put_among, IsNew, either}
use Rattle.tg_law_cells.specs.Places.Late.{IsNew as IsNewAfter}
use Rattle.tg_law_headline.proofs.Spans.Putting.{PutsNew, Issues, next_new, feed_new, again_new}

-- what an append asks that asks for a token
asks_at : (p : Layout) (a : Append) (w : AppendWork) (r : ℕ) → w ≡ Asking r → (o : Out) → Has (append_work_asks p a w) o → (o.to ≡ seqr_id p.seq) × (o.msg ≡ msg.Token p.epoch (streams_of a.draft))
unfolding append_work_asks
asks_at p a (Asking q) r e o (inl i) = (ap (λ (y : Out). y.to) i, ap (λ (y : Out). y.msg) i)
asks_at p a (Asking q) r e o (inr i) = absurd i
asks_at p a (Putting j) r e o i = absurd cc
asks_at p a (Judging j) r e o i = absurd cc

is_issued : (y : Msg) (pos : ℕ) (ls : List StreamLink) → reply y ≡ IsIssued pos ls → y ≡ msg.Issued pos ls
unfolding reply
is_issued y pos ls e = grind arith

module _ (m : Meaning) where
  -- who has a request for a token open has an append in hand
  token_held : (c : Client m) (o : Out) (e : ℕ) (os : List Oid) → Has (reserved m c) o → o.msg ≡ msg.Token e os → (a : Append) × Holds m c a
  token_held c o e os g is = by c.work refl g
    where
      latest : {X : Type 0} (ws : Waits) → Has (asks_latest m ws) o → X
      latest ws i = let x = has_map (λ (w : ℕ × ℕ). out (layout_id w.0) w.1 msg.AskLatest) ws o i in absurd (no (sym (ap (λ (y : Out). y.msg) x.is) ∙ is))
        where
          no : msg.AskLatest ≡ msg.Token e os → ⊥
          no f = cc

      kept : {X : Type 0} (t : Task m) → Has (task_kept m t) o → X
      kept (Reconfiguring r) i = absurd (no (task_token m c.stand (Reconfiguring r) o e os i is))
        where
          no : AsksToken m (Reconfiguring r) os → ⊥
          no x = let f = x.is in cc
      kept (Syncing s) i = absurd i
      kept (Walking k ns) i = absurd i
      kept (Appending a y) i = absurd i
      kept (Trimming t) i = absurd i
      kept (Copying' x) i = absurd i

      by : (w : Option (Work m)) → c.work ≡ w → Has (work_reserved m c.stand w) o → (a : Append) × Holds m c a
      by None has i = absurd i
      by (Some w) has i = hand w.hand refl i
        where
          hand : (d : Hand m) → w.hand ≡ d → Has (hand_reserved m c.stand d) o → (a : Append) × Holds m c a
          hand (Doing t) at i = let x = task_token m c.stand t o e os i is in (x.append, record { work = w; purpose = x.purpose; has = has; holds = ap (task_in m) at ∙ x.is })
          hand (Learning ws t) at i = split (has_either (asks_latest m ws) (task_kept m t) o i)
            where
              split : Has (asks_latest m ws) o ⊎ Has (task_kept m t) o → (a : Append) × Holds m c a
              split (inl j) = latest ws j
              split (inr j) = kept t j

  draws_of : (c : Config m) (k : ℕ) (t : ClientTurn m) → ClientInput m c k t → TurnDraws' m (client_in m c k) t
  draws_of c k t (Commanded x) = command_draws m (client_in m c k) x
  draws_of c k t (Hears' p comes) = deliver_draws m (client_in m c k) p.from p.rid p.msg
  draws_of c k t Ticks' = tick_draws m (client_in m c k)

module _ (m : Meaning) (h : Header) (zs : Moves m) (reach : Reaches m h zs (after m h zs)) (us vs : Moves m) (begins : zs ≡ us ++ vs) (tag : ℕ) (last : ℕ → ℕ)
    (none_put : (k : ℕ) (x : Put (after m h us).packets k) → tag_of x.entry.body ≡ tag → last k < x.entry.head.number → ⊥)
    (none_held : (k : ℕ) (b : Append) → Holds m (client_in m (config m (after m h us)) k) b → tag_of b.draft.body ≡ tag → last k < b.draft.head.number → ⊥) where
  -- the next number of a client
  abbrev pub first : ℕ → ℕ
  first k = (client_in m (config m (after m h us)) k).next

  -- a position was issued to a request that the client has drawn since
  pub record TokenNew (k e p : ℕ) : Type 0 where
    pub some : 0 < e
    pub seqr : ℕ
    pub streams : List Oid
    pub links : List StreamLink
    pub pair : Pair (after m h zs).packets (client_id k) seqr (msg.Token e streams) p links
    pub late : first k ≤ pair.ask.rid

  -- a record that the client has begun since
  abbrev pub IsLater : ℕ → Entry → Type 0
  IsLater k d = (tag_of d.body ≡ tag) × (last k < d.head.number)

  pub record LaterOf (k : ℕ) (ps : List Packet) (c : Client m) : Type 0 where
    pub next : first k ≤ c.next
    pub asks : (b : Append) → Holds m c b → IsLater k b.draft → (o : Out) → Has (reserved m c) o → (e : ℕ) (os : List Oid) → o.msg ≡ msg.Token e os → first k ≤ o.rid
    pub hands : (b : Append) → Holds m c b → IsLater k b.draft → PutsNew (TokenNew k) b.work
    pub puts : (x : Put ps k) → IsLater k x.entry → TokenNew k x.epoch x.pos

  fewer : (ps qs : List Packet) (k : ℕ) (c : Client m) → ((x : Packet) → Has qs x → x.from ≡ client_id k → Has ps x) → LaterOf k ps c → LaterOf k qs c
  fewer ps qs k c f s = record { next = s.next; asks = s.asks; hands = s.hands; puts = λ x. s.puts (put_among ps qs k x (f x.packet x.sent x.from)) }

  pub record LaterIn (c : Config m) : Type 0 where
    pub of : (k : ℕ) → LaterOf k c.packets (client_in m c k)

  -- At the world's own moment there is none.

  starts : LaterIn (config m (after m h us))
  starts = record {
    of = λ k. record {
      next = omega arith;
      asks = λ b o n. absurd (none_held k b o n.0 n.1);
      hands = λ b o n. absurd (none_held k b o n.0 n.1);
      puts = λ x n. absurd (none_put k x n.0 n.1);
    };
  }

  -- A turn.

  module _ (xs ys : Moves m) (split : zs ≡ xs ++ ys) (s : LaterIn (config m (after m h xs))) where
    abbrev g : Config m
    g = config m (after m h xs)

    abbrev ps : List Packet
    ps = (after m h xs).packets

    state : State m h (after m h xs)
    state = state_at m h zs (header m h zs reach) (give m h zs reach) (short m h zs reach) xs ys split

    low : Low m g
    low = low_of m g (both_hold m h xs).0

    sent_then : (x : Packet) → Has (after m h xs).packets x → Has (after m h zs).packets x
    sent_then x i = sent_at m h zs (header m h zs reach) (give m h zs reach) (short m h zs reach) xs ys split x i

    some_epoch : (p : Layout) → IsOfDecided m (after m h xs) p → 0 < p.epoch
    some_epoch p (inl e) = let a = e.0 in omega (arith, a)
    some_epoch p (inr e) = let a = e.0 in omega (arith, a)

    calm : IsCalm m role.Client g LaterIn
    calm d q = record {
      of = λ k. subst (LaterOf k d.packets) (λ i. slice_index_or (sym (q.clients refl) i) k (new_client m (sym q.cluster i) k))
          (fewer ps d.packets k (client_in m (config m (after m h xs)) k) (λ x i from. q.old x i (ap (λ (n : NodeId). n.role) from)) (s.of k));
    }

    module _ (k : ℕ) (t : ClientTurn m) (i : ClientInput m (config m (after m h xs)) k t) (lawful : Given m (LawfulCommand m) (config m (after m h xs)) k t i) (less : k < length (after m h xs).clients) where
      abbrev c : Client m
      c = client_in m (config m (after m h xs)) k

      abbrev new : List Packet
      new = map (packet_of m (client_id k)) t.sends

      abbrev p : Layout
      p = (client_in m (config m (after m h xs)) k).stand

      was : LaterOf k (after m h xs).packets (client_in m (config m (after m h xs)) k)
      was = s.of k

      drawn : Drawn (reserved m (client_in m (config m (after m h xs)) k)) (client_in m (config m (after m h xs)) k).next (t.sends ++ reserved m t.now) t.now.next
      drawn = (draws_of m (config m (after m h xs)) k t i).is

      next_now : first k ≤ t.now.next
      next_now = let a = was.next in let b = drawn.up in omega (arith, a, b)

      came : (b : Append) → Holds m t.now b → Became m (config m (after m h xs)) k t.now b
      came b o = became m (config m (after m h xs)) k t i lawful
          (few_in m h (header m h zs reach) (after m h xs) (short_at m h zs (header m h zs reach) (give m h zs reach) (short m h zs reach) xs ys split) state k less) (state.clients.sound k) b o

      -- the draft of an append that was in hand
      module _ (a b : Append) (n : IsLater k b.draft) where
        like : b.draft ≡ a.draft → IsLater k a.draft
        like e = subst (IsLater k) e n

        fed_like : (x : Packet) → NextIs b (append_feed p a a.work x.from.num (reply x.msg) c.next).to → IsLater k a.draft
        fed_like x is = like (next_draft a.draft b (append_feed p a a.work x.from.num (reply x.msg) c.next).to is (feed_keeps p a x.from.num (reply x.msg) c.next))

        again_like : (q : Layout) → NextIs b (append_again q a c.next).to → IsLater k a.draft
        again_like q is = like (next_draft a.draft b (append_again q a c.next).to is (again_keeps q a c.next))

      asks_now : (b : Append) → Holds m t.now b → IsLater k b.draft → (o : Out) → Has (reserved m t.now) o → (e : ℕ) (os : List Oid) → o.msg ≡ msg.Token e os → first k ≤ o.rid
      asks_now b has n o r e os is = by (drawn.either o (has_right t.sends (reserved m t.now) o r))
        where
          old : Has (reserved m (client_in m (config m (after m h xs)) k)) o → Became m (config m (after m h xs)) k t.now b → first k ≤ o.rid
          old l (Fresh none asks kind isnt) = let x = token_held m (client_in m (config m (after m h xs)) k) o e os l is in absurd (isnt x.0 x.1)
          old l (Same was' stand) = was.asks b was' n o l e os is
          old l (Fed a was' x comes doing awaited next stand) = was.asks a was' (fed_like a b n x next) o l e os is
          old l (Again a was' x q comes latest node later next stand) = was.asks a was' (again_like a b n q next) o l e os is

          by : Has (reserved m (client_in m (config m (after m h xs)) k)) o ⊎ Has drawn.new o → first k ≤ o.rid
          by (inl l) = old l (came b has)
          by (inr l) = let a = was.next in let f = drawn.is_new.from o l in omega (arith, a, f)

      -- what is issued to an append that asks
      module _ (a : Append) (old : Holds m (client_in m (config m (after m h xs)) k) a) (n : IsLater k a.draft) (x : Packet) (comes : Comes m (config m (after m h xs)) x (client_id k)) (doing : old.work.hand ≡ Doing (Appending a old.purpose)) (awaited : awaits (append_asks p a) x.from x.rid ≡ true) where
        open' : (o : Out) → Has (append_asks p a) o → Has (reserved m (client_in m (config m (after m h xs)) k)) o
        unfolding task_asks
        open' o l = subst (λ (w : Option (Work m)). Has (work_reserved m p w) o) (sym old.has) (subst (λ (d : Hand m). Has (hand_reserved m p d) o) (sym doing) l)

        issued : (r pos : ℕ) (ls : List StreamLink) → a.work ≡ Asking r → x.msg ≡ msg.Issued pos ls → TokenNew k p.epoch pos
        issued r pos ls at is = by (awaited_ask (append_asks p a) x.from x.rid awaited)
          where
            by : Awaited (append_asks p a) x.from x.rid → TokenNew k p.epoch pos
            by l = made (asks_at p a a.work r at l.ask l.has)
              where
                made : (l.ask.to ≡ seqr_id p.seq) × (l.ask.msg ≡ msg.Token p.epoch (streams_of a.draft)) → TokenNew k p.epoch pos
                made q =
                    let from : x.from ≡ seqr_id p.seq = sym l.to ∙ q.0 in
                    let y = (low.issuing.ours p.seq x pos ls comes.sent from is).asked in
                    let same : l.ask.msg ≡ y.ask.msg = (low.all.0.0.clients k).agree l.ask y.ask (open' l.ask l.has) y.has (y.from ∙ comes.to_node) (token_asks _ _ _ y.is) (l.number ∙ sym y.rid) (l.to ∙ sym y.to) in
                    record {
                      some = some_epoch p ((layouts_are_known m h xs (after m h xs) (reach_at m h zs reach xs ys split)).clients k);
                      seqr = p.seq;
                      streams = streams_of a.draft;
                      links = ls;
                      pair = record {
                        ask = y.ask;
                        answer = x;
                        asked = sent_then y.ask y.has;
                        answered = sent_then x comes.sent;
                        by = y.from ∙ comes.to_node;
                        to_seqr = y.to ∙ from;
                        from_seqr = from;
                        back = comes.to_node;
                        number = sym y.rid;
                        asks = sym same ∙ q.1;
                        issues = is;
                      };
                      late = (let a' = was.asks a old n l.ask (open' l.ask l.has) p.epoch (streams_of a.draft) q.1 in let b' = l.number in let c' = y.rid in omega (arith, a', b', c'));
                    }

        issues : Issues (TokenNew k) p a.work (reply x.msg)
        issues = by a.work refl
          where
            by : (w : AppendWork) → a.work ≡ w → Issues (TokenNew k) p w (reply x.msg)
            by (Asking r) at = λ pos ls is. issued r pos ls at (is_issued x.msg pos ls is)
            by (Putting j) at = tt
            by (Judging j) at = tt

      asking_puts : (w : AppendWork) → IsAsking m w → PutsNew (TokenNew k) w
      asking_puts (Asking r) a = tt
      asking_puts (Putting j) a = absurd a
      asking_puts (Judging j) a = tt

      hands_now : (b : Append) → Holds m t.now b → IsLater k b.draft → PutsNew (TokenNew k) b.work
      hands_now b has n = by (came b has)
        where
          by : Became m (config m (after m h xs)) k t.now b → PutsNew (TokenNew k) b.work
          by (Fresh none asks kind isnt) = asking_puts b.work asks
          by (Same old stand) = was.hands b old n
          by (Fed a old x comes doing awaited next stand) =
              next_new (TokenNew k) b (append_feed p a a.work x.from.num (reply x.msg) c.next).to next
              (feed_new (TokenNew k) p a x.from.num (reply x.msg) c.next (was.hands a old (fed_like a b n x next)) (issues a old (fed_like a b n x next) x comes doing awaited))
          by (Again a old x q comes latest node later next stand) = next_new (TokenNew k) b (append_again q a c.next).to next (again_new (TokenNew k) q a c.next)

      puts_now : (x : Put (ps ++ new) k) → IsLater k x.entry → TokenNew k x.epoch x.pos
      puts_now x n = by (either m h zs reach xs ys split (written_at m h zs reach xs ys split) k ((spent_at m h zs reach xs ys split).of k) t i lawful less x)
        where
          by : Has ps x.packet ⊎ IsNew m h zs reach xs ys split (written_at m h zs reach xs ys split) k ((spent_at m h zs reach xs ys split).of k) t i lawful less x.epoch x.pos x.page x.entry → TokenNew k x.epoch x.pos
          by (inl old) = was.puts (put_among ps (ps ++ new) k x old) n
          by (inr y) =
              let later : IsLater k y.append.draft = (sym y.kind.0 ∙ n.0, subst (λ (j : ℕ). last k < j) y.kind.1 n.1) in
              subst (λ (j : ℕ). TokenNew k j x.pos) (sym y.epoch) (subst (λ (j : ℕ). TokenNew k y.job.place.epoch j) (sym y.at) (subst (PutsNew (TokenNew k)) y.works (hands_now y.append y.holds later)))

      later_now : LaterOf k (ps ++ new) t.now
      later_now = record { next = next_now; asks = asks_now; hands = hands_now; puts = puts_now }

    own : (k : ℕ) (t : ClientTurn m) → (i : ClientInput m (config m (after m h xs)) k t) → Given m (LawfulCommand m) (config m (after m h xs)) k t i → k < length (after m h xs).clients → LaterIn (client_turn m (config m (after m h xs)) k t)
    own k t i lawful less = record {
      of = at_set (after m h xs).clients k t.now (new_client m (after m h xs).cluster) (λ j x. LaterOf j ((after m h xs).packets ++ map (packet_of m (client_id k)) t.sends) x) less
          (later_now k t i lawful less)
          (λ j other. fewer (after m h xs).packets ((after m h xs).packets ++ map (packet_of m (client_id k)) t.sends) j (client_in m (config m (after m h xs)) j)
          (λ x g from. by j other x from (has_either (after m h xs).packets (map (packet_of m (client_id k)) t.sends) x g)) (s.of j));
    }
      where
        by : (j : ℕ) → (j ≡ k → ⊥) → (x : Packet) → x.from ≡ client_id j → Has (after m h xs).packets x ⊎ Has (map (packet_of m (client_id k)) t.sends) x → Has (after m h xs).packets x
        by j other x from (inl l) = l
        by j other x from (inr l) = let o = has_map (packet_of m (client_id k)) t.sends x l in absurd (other (ap (λ (n : NodeId). n.num) (sym from ∙ ap (λ (y : Packet). y.from) o.is)))

    later_cases : CasesOf m (LawfulCommand m) (config m (after m h xs)) LaterIn
    later_cases = record {
      idle = s;
      unit = λ n p' a less. calm _ (unit_quiet m role.Client (λ e. cc) (config m (after m h xs)) n p' a less);
      layout = λ l p' a less. calm _ (layout_quiet m role.Client (λ e. cc) (config m (after m h xs)) l p' _ a);
      seqr = λ r t i less. calm _ (seqr_quiet m role.Client (λ e. cc) (config m (after m h xs)) r t);
      client = own;
    }

  on_move : (xs : Moves m) (x : Move m) (rest : Moves m) → zs ≡ xs ++ x ∷ rest → LaterIn (config m (after m h xs)) → LaterIn (config m (after m h (xs ++ x ∷ [])))
  on_move xs Counts rest e s = subst (λ (w : World m). LaterIn (config m w)) (sym (then_next m h xs)) (record { of = s.of })
  on_move xs (Takes x) rest e s =
      subst (λ (w : World m). LaterIn (config m w)) (sym (then_takes m h xs x))
      (step_cases_of m (LawfulCommand m) (after m h xs) LaterIn (later_cases xs (Takes x ∷ rest) e s) x (give_right m xs (Takes x ∷ rest) (subst (λ (ms : Moves m). AllGive m (LawfulCommand m) ms) e (give m h zs reach))).0)

  ends : LaterIn (config m (after m h zs))
  ends = subst (λ (ms : Moves m). LaterIn (config m (after m h ms))) (sym begins)
      (on_moves m h zs reach (λ (ms : Moves m). LaterIn (config m (after m h ms))) on_move us vs [] (begins ∙ ap (λ (ms : Moves m). us ++ ms) (sym (append-nil vs))) starts)

  -- So of the page of such a record.

  -- an answer to a number that was drawn since wasn't sent yet
  pub not_yet : (k s : ℕ) (a : Packet) (pos : ℕ) (ls : List StreamLink) → a.to ≡ client_id k → a.from ≡ seqr_id s → a.msg ≡ msg.Issued pos ls → first k ≤ a.rid → Has (after m h us).packets a → ⊥
  not_yet k s a pos ls to from is late sent =
      let y = ((low_of m (config m (after m h us)) (both_hold m h us).0).issuing.ours s a pos ls sent from is).asked in
      let b = ((low_of m (config m (after m h us)) (both_hold m h us).0).all.0.0.clients k).below y.ask y.has (y.from ∙ to) (token_asks _ _ _ y.is) in
      let r = y.rid in
      omega (arith, b, r, late)

  module _ (safe : TrimsWereSafe m h zs) (p : ℕ) (e : Entry) (has : HasEntry m (after m h zs) p e) (later : IsLater e.head.client e) where
    abbrev k : ℕ
    k = e.head.client

    -- its page in the log
    abbrev pub st : Stands m h zs reach p e
    st = stands m h zs reach safe p e has

    abbrev pub page_there : List ℕ
    page_there = st.page

    pub page_settled : IsSettled m (after m h zs) p (Data page_there)
    page_settled = (log_is_settled m h zs (after m h zs) reach safe).settled p (Data st.page) (contained (log m (after m h zs)) (p, Data st.page) st.here)

    pub page_new : IsNewAfter m (after m h us) (after m h zs) p page_there
    page_new x s epoch os ls sent is i by old = not_yet k s i.answer p ls (i.back ∙ (by ∙ from)) i.from_seqr i.issues late (has_contained (after m h us).packets i.answer old)
      where
        there : Has (after m h zs).packets x
        there = has_contained (after m h zs).packets x sent

        from : x.from ≡ client_id k
        from = sender m h zs x there epoch p st.page is ∙ ap client_id
            (sourced m h zs (header m h zs reach) (give m h zs reach) (short m h zs reach) p e x x.from.num epoch st.page there (sender m h zs x there epoch p st.page is) is st.put.reads).2

        t : TokenNew k epoch p
        t = (ends.of k).puts (record { packet = x; sent = there; from = from; epoch = epoch; pos = p; page = st.page; is = is; entry = e; reads = st.put.reads }) later

        issued_at : (z : ℕ) → z ≡ t.seqr → Issued m (after m h zs) z epoch p t.streams t.links
        issued_at z same = record {
          ask = t.pair.ask;
          answer = t.pair.answer;
          asked = contained (after m h zs).packets t.pair.ask t.pair.asked;
          answered = contained (after m h zs).packets t.pair.answer t.pair.answered;
          to_seqr = t.pair.to_seqr ∙ ap seqr_id (sym same);
          from_seqr = t.pair.from_seqr ∙ ap seqr_id (sym same);
          back = t.pair.back ∙ sym t.pair.by;
          number = t.pair.number;
          asks = t.pair.asks;
          issues = t.pair.issues;
        }

        same_seqr : s ≡ t.seqr
        same_seqr = one_issuer m h zs (after m h zs) reach s t.seqr epoch p p os t.streams ls t.links i (issued_at t.seqr refl) t.some

        same_answer : i.answer ≡ t.pair.answer
        same_answer = issued_once m h zs (after m h zs) reach s epoch p os t.streams ls t.links i (issued_at s same_seqr)

        late : first k ≤ i.answer.rid
        late = let a = ap (λ (y : Packet). y.rid) same_answer in let b = t.pair.number in let c = t.late in omega (arith, a, b, c)
