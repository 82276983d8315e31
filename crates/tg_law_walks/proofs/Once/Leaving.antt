-- A commit record whose page wasn't given up is what its client had in hand, for an append that wasn't refused afterwards
-- for want of room.
use Rattle.std.proofs.Common.{◌≡◌, ◌⊎◌, ℕ, ◌<◌, List, [], ◌∷◌, ◌++◌, length, map, refl, sym, ap, ◌∙◌, subst, inl, inr, None, append-nil, arith}
use Rattle.tg_base.specs.Clusters.{Header}
use Rattle.tg_base.specs.declared.ids.NodeId.{NodeId}
use Rattle.tg_base.specs.declared.ids.Role.TheVariants as role
use Rattle.tg_base.specs.declared.marks.StreamLink.{StreamLink}
use Rattle.tg_base.specs.declared.packet.Packet.{Packet}
use Rattle.tg_entry.specs.declared.entry.Entry.{Entry}
use Rattle.tg_entry.specs.Format.{tag_of}
use Rattle.tg_kind.specs.Meaning.{Meaning}
use Rattle.tg_model.specs.declared.refusal.Refusal.TheVariants as cause
use Rattle.tg_model.specs.declared.trace.What.TheVariants as told
use Rattle.tg_model.specs.Kinds.{EventOf, MarkOf, NoteOf}
use Rattle.tg_model.specs.Traces.{Trace}
use Rattle.tg_protocol.specs.Words.{client_id, numbers}
use Rattle.tg_entry.specs.Records.{linked}
use Rattle.tg_protocol.specs.LayoutServers.{layout_step}
use Rattle.tg_protocol.specs.Appending.{Append, Full}
use Rattle.tg_protocol.specs.Clients.{Client, new_client}
use Rattle.tg_protocol.specs.Answers.{Moved}
use Rattle.tg_protocol.specs.ClientSteps.{ClientTurn}
use Rattle.tg_protocol.specs.Worlds.{World, start, client, trace, packet_of, happens}
use Rattle.tg_protocol.specs.Runs.{Move, Moves, Next as Counts, Takes, LawfulCommand, Reaches, run}
use Rattle.tg_law_layouts.specs.Moves.After.{after}
use Rattle.tg_law_layouts.specs.Moves.Configs.{Config, config, client_in, layout_in}
use Rattle.tg_law_layouts.proofs.Moves.Growth.{Quiet, unit_quiet, layout_quiet, seqr_quiet}
use Rattle.tg_law_layouts.proofs.Moves.Lists.{at_set, at_map}
use Rattle.tg_law_layouts.proofs.Moves.Members.{Has, has_either, has_map}
use Rattle.tg_law_layouts.proofs.Moves.Moves.{AllGive, ClientInput, Given, CasesOf, client_turn, step_cases_of}
use Rattle.tg_law_replies.proofs.History.Members as marks
use Rattle.tg_law_replies.proofs.Replies.Books.{mark}
use Rattle.tg_law_replies.specs.Books.Kept.{WasLeft, RecordsLeft}
use Rattle.tg_law_replies.proofs.Books.Commands.{Turned, ended_by}
use Rattle.tg_law_replies.proofs.Books.Closing.{NotFull}
use Rattle.tg_law_replies.proofs.Books.Worlds.{regroup as joined, WorldBook, Stepped, Rests, Turns, EndsIn, NeverFull, step, step_book, run_book, start_book, nil_right}
use Rattle.tg_law_cells.specs.Entries.Archive.{TrimsWereSafe}
use Rattle.tg_law_walks.proofs.Drafts.Became.{no_some, Holds}
use Rattle.tg_law_walks.proofs.Drafts.Drafts.{begun_of}
use Rattle.tg_law_walks.proofs.Drafts.Written.{then_next, then_takes, give_right, regroup}
use Rattle.tg_law_walks.proofs.Once.Reached.{give}
use Rattle.tg_law_walks.proofs.Once.Spending.{Put, put_among, Dead, InHand, SpentOf, IsNew, either}
use Rattle.tg_law_walks.proofs.Once.Along.{spent_at, written_at, on_moves}
use Rattle.tg_law_walks.proofs.Once.Filling.{step_none}
use Rattle.tg_law_walks.proofs.Once.Refusing.{Awaits, IsFull, full_or, awaits_turned}
use Rattle.tg_law_walks.proofs.Once.Turning.{commit_tag, tag_commit, record_positive}
use Rattle.tg_law_walks.proofs.Once.Nowhere.{reached}
use Rattle.tg_law_walks.proofs.Once.Once.{Stands, put_there, stands}

module _ (m : Meaning) (h : Header) (zs : Moves m) (reach : Reaches m h zs (after m h zs)) where
  abbrev w : World m
  w = after m h zs

  -- a client's commit record is that of an append which it has in hand
  pub record HeldOf (c : Client m) (e : Entry) : Type 0 where
    pub append : Append
    pub holds : Holds m c append
    pub is : tag_of e.body ≡ 1 → (ls : List StreamLink) × (e ≡ linked append.draft ls)

  -- what a client has in hand when it sends a page
  module _ (xs ys : Moves m) (split : zs ≡ xs ++ ys) where
    abbrev c : Config m
    c = config m (after m h xs)

    abbrev Sends : Config m → Type 0
    Sends d = (k : ℕ) (x : Put d.packets k) → Has c.packets x.packet ⊎ HeldOf (client_in m d k) x.entry

    quiet : (d : Config m) → Quiet m role.Client c d → Sends d
    quiet d q k x = inl (q.old x.packet x.sent (ap (λ (n : NodeId). n.role) x.from))

    own : (k : ℕ) (u : ClientTurn m) → (i : ClientInput m c k u) → Given m (LawfulCommand m) c k u i → k < length c.clients → Sends (client_turn m c k u)
    own k u i lawful less = at_set c.clients k u.now (new_client m c.cluster) (λ j d. (x : Put (c.packets ++ map (packet_of m (client_id k)) u.sends) j) → Has c.packets x.packet ⊎ HeldOf d x.entry) less here
        (λ j other x. inl (there j other x (has_either c.packets (map (packet_of m (client_id k)) u.sends) x.packet x.sent)))
      where
        here : (x : Put (c.packets ++ map (packet_of m (client_id k)) u.sends) k) → Has c.packets x.packet ⊎ HeldOf u.now x.entry
        here x = by (either m h zs reach xs ys split (written_at m h zs reach xs ys split) k ((spent_at m h zs reach xs ys split).of k) u i lawful less x)
          where
            by : Has c.packets x.packet ⊎ IsNew m h zs reach xs ys split (written_at m h zs reach xs ys split) k ((spent_at m h zs reach xs ys split).of k) u i lawful less x.epoch x.pos x.page x.entry → Has c.packets x.packet ⊎ HeldOf u.now x.entry
            by (inl a) = inl a
            by (inr n) = inr (record { append = n.append; holds = n.holds; is = n.spelled })

        there : (j : ℕ) → (j ≡ k → ⊥) → (x : Put (c.packets ++ map (packet_of m (client_id k)) u.sends) j) → Has c.packets x.packet ⊎ Has (map (packet_of m (client_id k)) u.sends) x.packet → Has c.packets x.packet
        there j other x (inl g) = g
        there j other x (inr g) = let o = has_map (packet_of m (client_id k)) u.sends x.packet g in absurd (other (ap (λ (n : NodeId). n.num) (sym x.from ∙ ap (λ (y : Packet). y.from) o.is)))

    sends_cases : CasesOf m (LawfulCommand m) c Sends
    sends_cases = record {
      idle = λ k x. inl x.sent;
      unit = λ u p a less. quiet _ (unit_quiet m role.Client (λ e. cc) c u p a less);
      layout = λ l p a less. quiet _ (layout_quiet m role.Client (λ e. cc) c l p (layout_step (layout_in m c l) p.msg) a);
      seqr = λ r u i less. quiet _ (seqr_quiet m role.Client (λ e. cc) c r u);
      client = own;
    }

  -- An entry was in hand in a world of the run, and since then its client hasn't told that the log is full for it.
  pub record LeftAt (xs : Moves m) (k : ℕ) (packet : Packet) (e : Entry) : Type 0 where
    pub before : Moves m
    pub mid : Moves m
    pub split : xs ≡ before ++ mid
    pub append : Append
    pub sent : Has (after m h before).packets packet
    pub holds : Holds m (client m (after m h before) k) append
    pub links : List StreamLink
    pub is : e ≡ linked append.draft links
    pub positive : 0 < e.head.number
    pub since : Trace m
    pub traced : trace m (after m h xs) ≡ trace m (after m h before) ++ since
    pub never : NeverFull m k e.head.number since

  pub record Leaving (xs : Moves m) : Type 0 where
    pub of : (k : ℕ) (x : Put (after m h xs).packets k) → tag_of x.entry.body ≡ 1 → Dead m w x.epoch x.pos x.page ⊎ LeftAt xs k x.packet x.entry
    pub awaits : (k : ℕ) → Awaits m (client m (after m h xs) k)

  pub books : (xs : Moves m) → WorldBook m (after m h xs)
  books xs = run_book m xs (start m h) (start_book m h)

  -- An event.

  module _ (xs : Moves m) (e : EventOf m) (rest : Moves m) (split : zs ≡ xs ++ Takes e ∷ rest) (l : Leaving xs) where
    abbrev v : World m
    v = happens m (after m h xs) e

    now : after m h (xs ++ Takes e ∷ []) ≡ v
    now = then_takes m h xs e

    stepped : (k : ℕ) → Stepped m k e (after m h xs) v
    stepped k = step m (after m h xs) e (books xs) k

    sends : Sends xs (Takes e ∷ rest) split (config m v)
    sends = step_cases_of m (LawfulCommand m) (after m h xs) (Sends xs (Takes e ∷ rest) split) (sends_cases xs (Takes e ∷ rest) split) e
        (give_right m xs (Takes e ∷ rest) (subst (λ (ms : Moves m). AllGive m (LawfulCommand m) ms) split (give m h zs reach))).0

    -- with further replies, none of which tells that the log is full for it
    extend : (k : ℕ) (z : Packet) (y : Entry) (a : LeftAt xs k z y) (ys : Trace m) → trace m v ≡ trace m (after m h xs) ++ ys → NeverFull m k y.head.number ys → LeftAt (xs ++ Takes e ∷ []) k z y
    extend k z y a ys t never = record {
      before = a.before;
      mid = a.mid ++ Takes e ∷ [];
      split = ap (λ (ms : Moves m). ms ++ Takes e ∷ []) a.split ∙ regroup m a.before a.mid (Takes e ∷ []);
      append = a.append;
      sent = a.sent;
      holds = a.holds;
      links = a.links;
      is = a.is;
      positive = a.positive;
      since = a.since ++ ys;
      traced = ap (trace m) now ∙ (t ∙ (ap (λ (tr : Trace m). tr ++ ys) a.traced ∙ joined (trace m (after m h a.before)) a.since ys));
      never = λ u limit i. by u limit (marks.has_either a.since ys u i);
    }
      where
        by : (u : MarkOf m) (limit : ℕ) → marks.Has a.since u ⊎ marks.Has ys u → u.client ≡ k → u.tx ≡ y.head.number → u.what ≡ told.Refused (cause.LogFull limit) → ⊥
        by u limit (inl i) = a.never u limit i
        by u limit (inr i) = never u limit i

    -- a page that is sent now
    starts_left : (k : ℕ) (z : Packet) (y : Entry) → Has v.packets z → tag_of y.body ≡ 1 → HeldOf (client_in m (config m v) k) y → LeftAt (xs ++ Takes e ∷ []) k z y
    starts_left k z y sent tag a =
        let is = (a.is tag).1 in
        let commit = commit_tag a.append.draft.body (ap (λ (d : Entry). tag_of d.body) (sym is) ∙ tag) a.append.draft refl in
        let positive = record_positive m k (trace m v) (client m v k) (step_book m (after m h xs) e (books xs) k) a.append a.holds commit in
        let number = ap (λ (d : Entry). d.head.number) is in
        record {
          before = xs ++ Takes e ∷ [];
          mid = [];
          split = sym (append-nil (xs ++ Takes e ∷ []));
          append = a.append;
          sent = subst (λ (u : World m). Has u.packets z) (sym now) sent;
          holds = subst (λ (u : World m). Holds m (client m u k) a.append) (sym now) a.holds;
          links = (a.is tag).0;
          is = is;
          positive = omega (arith, number, positive);
          since = [];
          traced = sym (nil_right (trace m (after m h (xs ++ Takes e ∷ []))));
          never = λ u limit i. absurd i;
        }

    -- what was sent before
    module _ (k : ℕ) (x : Put v.packets k) (sent : Has (after m h xs).packets x.packet) (tag : tag_of x.entry.body ≡ 1) (a : LeftAt xs k x.packet x.entry) where
      abbrev before_put : Put (after m h xs).packets k
      before_put = put_among (after m h xs).packets v.packets k x sent

      s : SpentOf m w (after m h xs).packets k (client_in m (config m (after m h xs)) k)
      s = (spent_at m h zs reach xs (Takes e ∷ rest) split).of k

      turns : (r : Moved m) (t : Turned m (client m (after m h xs) k) r) → EndsIn m k e (after m h xs) (ended_by m (client m (after m h xs) k) r t) → trace m v ≡ trace m (after m h xs) ++ map (mark m (after m h xs).event k) r.notes
          → Dead m w x.epoch x.pos x.page ⊎ LeftAt (xs ++ Takes e ∷ []) k x.packet x.entry
      turns r t g traced = by (full_or m k (trace m (after m h xs)) (client m (after m h xs) k) (books xs k) (l.awaits k) x.entry.head.number a.positive r t)
        where
          not_told : NotFull m x.entry.head.number r.notes → NeverFull m k x.entry.head.number (map (mark m (after m h xs).event k) r.notes)
          not_told none u limit i at number what =
              let j = marks.has_image (mark m (after m h xs).event k) r.notes u i in
              let a' = sym (ap (λ (y : MarkOf m). y.tx) j.2) ∙ number in
              let b' = sym (ap (λ (y : MarkOf m). y.what) j.2) ∙ what in
              none limit (subst (λ (y : NoteOf m). marks.Has r.notes y) (λ i. record { tx = a' i; what = b' i }) j.1)

          ended : (f : IsFull m k (trace m (after m h xs)) (client m (after m h xs) k) (books xs k) x.entry.head.number (ended_by m (client m (after m h xs) k) r t)) → f.append.token ≡ None
          ended f = from g
            where
              from : EndsIn m k e (after m h xs) (ended_by m (client m (after m h xs) k) r t) → f.append.token ≡ None
              from (inl none) = no_some (Full f.limit) (sym none ∙ f.ended)
              from (inr same) = step_none m (after m h xs) k f.append f.hand (s.tokens f.append f.hand) e f.limit (sym same ∙ f.ended)

          by : NotFull m x.entry.head.number r.notes ⊎ IsFull m k (trace m (after m h xs)) (client m (after m h xs) k) (books xs k) x.entry.head.number (ended_by m (client m (after m h xs) k) r t)
              → Dead m w x.epoch x.pos x.page ⊎ LeftAt (xs ++ Takes e ∷ []) k x.packet x.entry
          by (inl none) = inr (extend k x.packet x.entry a (map (mark m (after m h xs).event k) r.notes) traced (not_told none))
          by (inr f) = dead (s.hands f.append f.hand before_put (tag ∙ sym f.tag, sym f.number))
            where
              dead : Dead m w x.epoch x.pos x.page ⊎ InHand m (client_in m (config m (after m h xs)) k) f.append x.epoch x.pos x.page → Dead m w x.epoch x.pos x.page ⊎ LeftAt (xs ++ Takes e ∷ []) k x.packet x.entry
              dead (inl d) = inl d
              dead (inr y) = no_some y.of (sym (ended f) ∙ y.has)

      old_left : Stepped m k e (after m h xs) v → Dead m w x.epoch x.pos x.page ⊎ LeftAt (xs ++ Takes e ∷ []) k x.packet x.entry
      old_left (Rests c ys t alone) = inr (extend k x.packet x.entry a ys t (λ u limit i at number what. alone u i at))
      old_left (Turns r t f g c traced) = turns r t g traced

    left_now : (k : ℕ) (x : Put v.packets k) → tag_of x.entry.body ≡ 1 → Dead m w x.epoch x.pos x.page ⊎ LeftAt (xs ++ Takes e ∷ []) k x.packet x.entry
    left_now k x tag = by (sends k x)
      where
        old : (sent : Has (after m h xs).packets x.packet) → Dead m w x.epoch x.pos x.page ⊎ LeftAt xs k x.packet x.entry → Dead m w x.epoch x.pos x.page ⊎ LeftAt (xs ++ Takes e ∷ []) k x.packet x.entry
        old sent (inl d) = inl d
        old sent (inr a) = old_left k x sent tag a (stepped k)

        by : Has (after m h xs).packets x.packet ⊎ HeldOf (client_in m (config m v) k) x.entry → Dead m w x.epoch x.pos x.page ⊎ LeftAt (xs ++ Takes e ∷ []) k x.packet x.entry
        by (inl sent) = old sent (l.of k (put_among (after m h xs).packets v.packets k x sent) tag)
        by (inr a) = inr (starts_left k x.packet x.entry x.sent tag a)

    awaits_now : (k : ℕ) → Awaits m (client m v k)
    awaits_now k = by (stepped k)
      where
        by : Stepped m k e (after m h xs) v → Awaits m (client m v k)
        by (Rests c ys t alone) = subst (Awaits m) (sym c) (l.awaits k)
        by (Turns r t f g c traced) = subst (Awaits m) (sym c) (λ y has. awaits_turned m k (trace m (after m h xs)) (client m (after m h xs) k) (books xs k) (l.awaits k) r t y has)

    on_event : Leaving (xs ++ Takes e ∷ [])
    on_event = record {
      of = subst (λ (u : World m). (k : ℕ) (x : Put u.packets k) → tag_of x.entry.body ≡ 1 → Dead m w x.epoch x.pos x.page ⊎ LeftAt (xs ++ Takes e ∷ []) k x.packet x.entry) (sym now) left_now;
      awaits = subst (λ (u : World m). (k : ℕ) → Awaits m (client m u k)) (sym now) awaits_now;
    }

  on_next : (xs : Moves m) → Leaving xs → Leaving (xs ++ Counts ∷ [])
  on_next xs l = record {
    of = subst (λ (u : World m). (k : ℕ) (x : Put u.packets k) → tag_of x.entry.body ≡ 1 → Dead m w x.epoch x.pos x.page ⊎ LeftAt (xs ++ Counts ∷ []) k x.packet x.entry) (sym (then_next m h xs)) (λ k x tag. by k x.packet x.entry (l.of k (put_among (after m h xs).packets (after m h xs).packets k x x.sent) tag));
    awaits = subst (λ (u : World m). (k : ℕ) → Awaits m (client m u k)) (sym (then_next m h xs)) l.awaits;
  }
    where
      by : {X : Type 0} (k : ℕ) (z : Packet) (y : Entry) → X ⊎ LeftAt xs k z y → X ⊎ LeftAt (xs ++ Counts ∷ []) k z y
      by k z y (inl d) = inl d
      by k z y (inr a) = inr (record {
        before = a.before;
        mid = a.mid ++ Counts ∷ [];
        split = ap (λ (ms : Moves m). ms ++ Counts ∷ []) a.split ∙ regroup m a.before a.mid (Counts ∷ []);
        append = a.append;
        sent = a.sent;
        holds = a.holds;
        links = a.links;
        is = a.is;
        positive = a.positive;
        since = a.since;
        traced = ap (trace m) (then_next m h xs) ∙ a.traced;
        never = a.never;
      })

  on_move : (xs : Moves m) (x : Move m) (rest : Moves m) → zs ≡ xs ++ x ∷ rest → Leaving xs → Leaving (xs ++ x ∷ [])
  on_move xs Counts rest e l = on_next xs l
  on_move xs (Takes x) rest e l = on_event xs x rest e l

  new_awaits : (k : ℕ) → Awaits m (new_client m h k)
  unfolding new_client
  new_awaits k v has = no_some v has

  start_leaving : Leaving []
  unfolding run start
  start_leaving = record {
    of = λ k x. absurd x.sent;
    awaits = λ k. at_map (new_client m h) (numbers h.clients 0) k (new_client m h k) (λ (x : Client m). Awaits m x) new_awaits (new_awaits k);
  }

  pub leaving : Leaving zs
  leaving = on_moves m h zs reach Leaving on_move [] zs [] (sym (append-nil zs)) start_leaving

  pub left_here : TrimsWereSafe m h zs → RecordsLeft m h zs w
  left_here safe p e i commit = by (leaving.of e.head.client (put_there m h zs reach e.head.client p e s refl) (tag_commit e.body e refl commit))
    where
      s : Stands m h zs reach p e
      s = stands m h zs reach safe p e i

      by : Dead m w s.epoch p s.page ⊎ LeftAt zs e.head.client s.put.packet e → WasLeft m h zs w e
      by (inl d) = absurd (s.kept d)
      by (inr a) = record {
        before = a.before;
        after = a.mid;
        split = a.split;
        append = a.append;
        begun = begun_of m (client m (after m h a.before) e.head.client) a.append a.holds;
        draft = a.is ∙ ap (λ (ls : List StreamLink). linked a.append.draft ls) (ap (λ (d : Entry). d.head.streams) (sym a.is));
        since = a.since;
        traced = a.traced;
        stays = λ u limit j. a.never u limit (marks.has_contained a.since u j);
      }

module _ (m : Meaning) where
  pub records_are_left : (h : Header) (ms : Moves m) (v : World m) → Reaches m h ms v → TrimsWereSafe m h ms → RecordsLeft m h ms v
  records_are_left h ms v r safe = subst (λ (u : World m). RecordsLeft m h ms u) (sym r.goes.is) (left_here m h ms (reached m h ms v r) safe)
