-- A checkpoint saves no more than what stands below it: the client that appends it has played up to there, and its token
-- isn't below what it has played.
use Rattle.std.proofs.Common.{◌≡◌, ◌⊎◌, ℕ, ◌<◌, ◌≤◌, List, [], ◌∷◌, ◌++◌, length, map, Bool, true, false, refl, sym, ap, ◌∙◌, subst, inl, inr, arith, Option, Some, None, append-nil}
use Rattle.std.specs.Prelude.{Contains, if◌then◌else◌, ◌==◌, ◌&&◌, nat_le}
use Rattle.tg_base.specs.Clusters.{Header}
use Rattle.tg_base.specs.Orders.{oid_eq}
use Rattle.tg_base.specs.declared.ids.NodeId.{NodeId}
use Rattle.tg_base.specs.declared.ids.Oid.{Oid}
use Rattle.tg_base.specs.declared.ids.Role.TheVariants as role
use Rattle.tg_base.specs.declared.marks.Part.{Part}
use Rattle.tg_base.specs.declared.packet.Packet.{Packet}
use Rattle.tg_entry.specs.declared.entry.Body.{Body}
use Rattle.tg_entry.specs.declared.entry.Body.TheVariants.{Commit, Decision, Checkpoint}
use Rattle.tg_entry.specs.declared.entry.Entry.{Entry}
use Rattle.tg_entry.specs.Format.{tag_of}
use Rattle.tg_kind.specs.Meaning.{Meaning}
use Rattle.tg_model.specs.Kinds.{EventOf}
use Rattle.tg_protocol.specs.Words.{client_id}
use Rattle.tg_protocol.specs.LayoutServers.{layout_step}
use Rattle.tg_protocol.specs.Appending.{Append}
use Rattle.tg_protocol.specs.Checkpoints.{base_in, loaded, base_at}
use Rattle.tg_protocol.specs.Clients.{Purpose, Writes, Judged, Decides, Rescues, Saves, Marks, Appending, Client, new_client, upto}
use Rattle.tg_protocol.specs.ClientSteps.{ClientTurn}
use Rattle.tg_protocol.specs.Views.{Base}
use Rattle.tg_protocol.specs.Versions.{Versions, based}
use Rattle.tg_protocol.specs.Transactions.{commit_record}
use Rattle.tg_protocol.specs.Worlds.{World, start, client, trace, packet_of, happens}
use Rattle.tg_protocol.specs.Runs.{Move, Moves, Next as Counts, Takes, LawfulCommand, Reaches, run}
use Rattle.tg_protocol.specs.Holding.{append_by, WasBegun, EntriesOwn}
use Rattle.tg_law_layouts.specs.Moves.After.{after}
use Rattle.tg_law_layouts.specs.Moves.Configs.{Config, config, client_in, layout_in}
use Rattle.tg_law_layouts.proofs.Moves.Growth.{Quiet, unit_quiet, layout_quiet, seqr_quiet}
use Rattle.tg_law_layouts.proofs.Moves.Lists.{at_set}
use Rattle.tg_law_layouts.proofs.Moves.Members.{Has, has_either, has_map}
use Rattle.tg_law_layouts.proofs.Moves.Moves.{AllGive, ClientInput, Given, CasesOf, client_turn, step_cases_of}
use Rattle.tg_law_replies.specs.History.Worlds.{entries_in}
use Rattle.tg_law_replies.proofs.Books.Records.{in_hand}
use Rattle.tg_law_replies.proofs.Books.Turns.{DraftFor, DraftOf}
use Rattle.tg_law_replies.proofs.Books.Worlds.{WorldBook, run_book, start_book, compare}
use Rattle.tg_law_walks.specs.Lists.Spared.{TrimsWereSpare}
use Rattle.tg_law_walks.proofs.Drafts.Became.{no_some, Holds}
use Rattle.tg_law_walks.proofs.Drafts.Written.{then_next, then_takes, give_right, regroup}
use Rattle.tg_law_walks.proofs.Once.Along.{spent_at, written_at, on_moves}
use Rattle.tg_law_walks.proofs.Once.Once.{Stands, put_there, stands}
use Rattle.tg_law_walks.proofs.Once.Nowhere.{reached}
use Rattle.tg_law_walks.proofs.Once.Reached.{give}
use Rattle.tg_law_walks.proofs.Once.Spending.{Put, put_among, OfKind, IsNew, either}
use Rattle.tg_law_syncs.specs.Finds.Left.{SavesPrecede}
use Rattle.tg_law_syncs.specs.Follow.Laws.{SavesPrecedeBySpareTrims}
use Rattle.tg_law_syncs.proofs.Follow.Asks.{put_past}
use Rattle.tg_law_syncs.proofs.Follow.Drafts.{FixedIn, fixed_on, fixes}
use Rattle.tg_law_syncs.proofs.Follow.Replies.{state}
use Rattle.tg_law_syncs.proofs.Follow.Says.{MadeFor, MadeTask, MadeWork}

module _ (m : Meaning) where
  -- what a base was read of
  pub record ReadOf (body : Body) (u : ℕ) : Type 0 where
    pub oid : Oid
    pub version : ℕ
    pub whole : ℕ
    pub keys : List (Part × ℕ)
    pub state : List ℕ
    pub is : body ≡ Checkpoint oid u version whole keys state

  read_of : (o : Oid) (body : Body) (b : Base m) → base_in m o body ≡ Some b → ReadOf body b.upto
  read_of o (Commit rs ws) b e = no_some b e
  read_of o (Decision p so) b e = no_some b e
  read_of o (Checkpoint p u version whole keys bytes) b e = record {
    oid = p;
    version = version;
    whole = whole;
    keys = keys;
    state = bytes;
    is = ap (λ (n : ℕ). Checkpoint p n version whole keys bytes) (by (oid_eq o p && nat_le version u) e);
  }
    where
      some : (vs : Versions) (s : Option m.state) → loaded m o u vs s ≡ Some b → u ≡ b.upto
      some vs None z = no_some b z
      some vs (Some s) z = same z
        where
          same : Some (record { oid = o; state = s; versions = vs; upto = u }) ≡ Some b → u ≡ b.upto
          same z = ap (λ (x : Option (Base m)). upto_or x) z
            where
              upto_or : Option (Base m) → ℕ
              upto_or None = 0
              upto_or (Some x) = x.upto

      by : (c : Bool) → (if c then loaded m o u (based o version whole keys) (m.load o bytes) else None) ≡ Some b → u ≡ b.upto
      by true z = some (based o version whole keys) (m.load o bytes) z
      by false z = no_some b z

  read_at : (o : Oid) (e : Entry) (b : Base m) → base_at m o e ≡ Some b → ReadOf e.body b.upto
  read_at o e b is = by (e.head.format == 2) is
    where
      by : (c : Bool) → (if c then base_in m o e.body else None) ≡ Some b → ReadOf e.body b.upto
      by true z = read_of o e.body b z
      by false z = no_some b z

module _ (m : Meaning) (h : Header) (zs : Moves m) (reach : Reaches m h zs (after m h zs)) where
  abbrev w : World m
  w = after m h zs

  -- what a client has in hand when it sends a page
  pub record HeldOf (c : Client m) (e : Entry) : Type 0 where
    pub append : Append
    pub holds : Holds m c append
    pub kind : OfKind e append.draft

  module _ (xs ys : Moves m) (split : zs ≡ xs ++ ys) where
    abbrev c : Config m
    c = config m (after m h xs)

    abbrev Sends : Config m → Type 0
    Sends d = (k : ℕ) (x : Put d.packets k) → Has c.packets x.packet ⊎ HeldOf (client_in m d k) x.entry

    quiet : (d : Config m) → Quiet m role.Client c d → Sends d
    quiet d q k x = inl (q.old x.packet x.sent (ap (λ (n : NodeId). n.role) x.from))

    own : (k : ℕ) (u : ClientTurn m) → (i : ClientInput m c k u) → Given m (LawfulCommand m) c k u i → k < length c.clients → Sends (client_turn m c k u)
    own k u i lawful less = at_set c.clients k u.now (new_client m c.cluster) (λ j d. (x : Put (c.packets ++ map (packet_of m (client_id k)) u.sends) j) → Has c.packets x.packet ⊎ HeldOf d x.entry) less here
        (λ j other x. inl (there j other x (has_either c.packets (map (packet_of m (client_id k)) u.sends) x.packet x.sent)))
      where
        here : (x : Put (c.packets ++ map (packet_of m (client_id k)) u.sends) k) → Has c.packets x.packet ⊎ HeldOf u.now x.entry
        here x = by (either m h zs reach xs ys split (written_at m h zs reach xs ys split) k ((spent_at m h zs reach xs ys split).of k) u i lawful less x)
          where
            by : Has c.packets x.packet ⊎ IsNew m h zs reach xs ys split (written_at m h zs reach xs ys split) k ((spent_at m h zs reach xs ys split).of k) u i lawful less x.epoch x.pos x.page x.entry → Has c.packets x.packet ⊎ HeldOf u.now x.entry
            by (inl a) = inl a
            by (inr n) = inr (record { append = n.append; holds = n.holds; kind = n.kind })

        there : (j : ℕ) → (j ≡ k → ⊥) → (x : Put (c.packets ++ map (packet_of m (client_id k)) u.sends) j) → Has c.packets x.packet ⊎ Has (map (packet_of m (client_id k)) u.sends) x.packet → Has c.packets x.packet
        there j other x (inl g) = g
        there j other x (inr g) = let o = has_map (packet_of m (client_id k)) u.sends x.packet g in absurd (other (ap (λ (n : NodeId). n.num) (sym x.from ∙ ap (λ (y : Packet). y.from) o.is)))

    sends_cases : CasesOf m (LawfulCommand m) c Sends
    sends_cases = record {
      idle = λ k x. inl x.sent;
      unit = λ u p a less. quiet _ (unit_quiet m role.Client (λ e. cc) c u p a less);
      layout = λ l p a less. quiet _ (layout_quiet m role.Client (λ e. cc) c l p (layout_step (layout_in m c l) p.msg) a);
      seqr = λ r u i less. quiet _ (seqr_quiet m role.Client (λ e. cc) c r u);
      client = own;
    }

  -- a page was sent for an append that its client had in hand then
  pub record PutFor (xs : Moves m) (k : ℕ) (packet : Packet) (e : Entry) : Type 0 where
    pub before : Moves m
    pub mid : Moves m
    pub split : xs ≡ before ++ mid
    pub append : Append
    pub sent : Has (after m h before).packets packet
    pub holds : Holds m (client m (after m h before) k) append
    pub kind : OfKind e append.draft

  abbrev Puts : Moves m → Type 0
  Puts xs = (k : ℕ) (x : Put (after m h xs).packets k) → PutFor xs k x.packet x.entry

  longer : (xs ys : Moves m) (k : ℕ) (z : Packet) (y : Entry) → PutFor xs k z y → PutFor (xs ++ ys) k z y
  longer xs ys k z y a = record { before = a.before; mid = a.mid ++ ys; split = ap (λ (ms : Moves m). ms ++ ys) a.split ∙ regroup m a.before a.mid ys; append = a.append; sent = a.sent; holds = a.holds; kind = a.kind }

  on_event : (xs : Moves m) (e : EventOf m) (rest : Moves m) → zs ≡ xs ++ Takes e ∷ rest → Puts xs → Puts (xs ++ Takes e ∷ [])
  on_event xs e rest split l = subst (λ (u : World m). (k : ℕ) (x : Put u.packets k) → PutFor (xs ++ Takes e ∷ []) k x.packet x.entry) (sym now) puts_now
    where
      v : World m
      v = happens m (after m h xs) e

      now : after m h (xs ++ Takes e ∷ []) ≡ happens m (after m h xs) e
      now = then_takes m h xs e

      sends : Sends xs (Takes e ∷ rest) split (config m (happens m (after m h xs) e))
      sends = step_cases_of m (LawfulCommand m) (after m h xs) (Sends xs (Takes e ∷ rest) split) (sends_cases xs (Takes e ∷ rest) split) e
          (give_right m xs (Takes e ∷ rest) (subst (λ (ms : Moves m). AllGive m (LawfulCommand m) ms) split (give m h zs reach))).0

      puts_now : (k : ℕ) (x : Put (happens m (after m h xs) e).packets k) → PutFor (xs ++ Takes e ∷ []) k x.packet x.entry
      puts_now k x = by (sends k x)
        where
          by : Has (after m h xs).packets x.packet ⊎ HeldOf (client_in m (config m (happens m (after m h xs) e)) k) x.entry → PutFor (xs ++ Takes e ∷ []) k x.packet x.entry
          by (inl old) = longer xs (Takes e ∷ []) k x.packet x.entry (l k (put_among (after m h xs).packets (happens m (after m h xs) e).packets k x old))
          by (inr a) = record {
            before = xs ++ Takes e ∷ [];
            mid = [];
            split = sym (append-nil (xs ++ Takes e ∷ []));
            append = a.append;
            sent = subst (λ (u : World m). Has u.packets x.packet) (sym now) x.sent;
            holds = subst (λ (u : World m). Holds m (client m u k) a.append) (sym now) a.holds;
            kind = a.kind;
          }

  on_move : (xs : Moves m) (x : Move m) (rest : Moves m) → zs ≡ xs ++ x ∷ rest → Puts xs → Puts (xs ++ x ∷ [])
  on_move xs Counts rest e l = subst (λ (u : World m). (k : ℕ) (x : Put u.packets k) → PutFor (xs ++ Counts ∷ []) k x.packet x.entry) (sym (then_next m h xs))
      (λ k x. longer xs (Counts ∷ []) k x.packet x.entry (l k (put_among (after m h xs).packets (after m h xs).packets k x x.sent)))
  on_move xs (Takes x) rest e l = on_event xs x rest e l

  start_puts : Puts []
  unfolding run start
  start_puts k x = absurd x.sent

  puts : Puts zs
  puts = on_moves m h zs reach Puts on_move [] zs [] (sym (append-nil zs)) start_puts

  module _ (trims : TrimsWereSpare m h zs) (own' : EntriesOwn m h zs w) (p : ℕ) (e : Entry) (i : Contains (entries_in m w) (p, e)) (u : ℕ) (r : ReadOf m e.body u) where
    abbrev k : ℕ
    k = e.head.client

    st : Stands m h zs reach p e
    st = stands m h zs reach trims.safe p e i

    put : PutFor zs k st.put.packet e
    put = puts k (put_there m h zs reach k p e st refl)

    begun : WasBegun m h zs e
    begun = own' p e i

    abbrev first : Moves m
    first = begun.passed.before

    holds : Holds m (client m (after m h first) k) begun.append
    holds = let a = in_hand m (client m (after m h first) k) begun.append (subst (λ (v : World m). append_by m (client m v k).work ≡ Some begun.append) begun.passed.is begun.begun) in
        record { work = a.work; purpose = a.purpose; has = a.works; holds = a.task }

    tag : tag_of e.body ≡ 3
    tag = ap tag_of r.is

    begun_tag : tag_of begun.append.draft.body ≡ 3
    begun_tag = ap (λ (x : Entry). tag_of x.body) (sym begun.draft) ∙ tag

    put_tag : tag_of put.append.draft.body ≡ 3
    put_tag = sym put.kind.0 ∙ tag

    begun_number : begun.append.draft.head.number ≡ e.head.number
    begun_number = ap (λ (x : Entry). x.head.number) (sym begun.draft)

    counted : (xs ys : Moves m) → zs ≡ xs ++ ys → (a : Append) → Holds m (client m (after m h xs) k) a → tag_of a.draft.body ≡ 3 → a.draft.head.number ≤ (client m (after m h xs) k).checkpoints
    counted xs ys split a o t = (((spent_at m h zs reach xs ys split).of k).bounds a o).1 t

    -- one draft
    one : ((mid : Moves m) × (put.before ≡ first ++ mid)) ⊎ ((mid : Moves m) × (first ≡ put.before ++ mid)) → put.append.draft ≡ begun.append.draft
    one (inl x) =
        let f = fixed_on m h zs reach k begun.append.draft.head.number begun.append.draft first x.0 put.mid (put.split ∙ (ap (λ (ms : Moves m). ms ++ put.mid) x.1 ∙ regroup m first x.0 put.mid))
        (fixes m h zs reach k first begun.append holds (counted first begun.passed.after begun.passed.split begun.append holds begun_tag)) in
        (subst (FixedIn m h zs reach k begun.append.draft.head.number begun.append.draft) (sym x.1) f).1 put.append put.holds put_tag (sym put.kind.1 ∙ sym begun_number)
    one (inr x) =
        let f = fixed_on m h zs reach k put.append.draft.head.number put.append.draft put.before x.0 begun.passed.after (begun.passed.split ∙ (ap (λ (ms : Moves m). ms ++ begun.passed.after) x.1 ∙ regroup m put.before x.0 begun.passed.after))
        (fixes m h zs reach k put.before put.append put.holds (counted put.before put.mid put.split put.append put.holds put_tag)) in
        sym ((subst (FixedIn m h zs reach k put.append.draft.head.number put.append.draft) (sym x.1) f).1 begun.append holds begun_tag (begun_number ∙ put.kind.1))

    ordered : (mid : Moves m) → put.mid ≡ mid → ((mid : Moves m) × (put.before ≡ first ++ mid)) ⊎ ((mid : Moves m) × (first ≡ put.before ++ mid))
    ordered [] is = inl (begun.passed.after, sym (append-nil put.before) ∙ (ap (λ (ms : Moves m). put.before ++ ms) (sym is) ∙ (sym put.split ∙ begun.passed.split)))
    ordered (x ∷ mid) is = by (compare first begun.passed.after put.before mid x (sym begun.passed.split ∙ (put.split ∙ ap (λ (ms : Moves m). put.before ++ ms) is)))
      where
        by : ((ms : Moves m) × (put.before ≡ first ++ ms)) ⊎ ((ms : Moves m) × (first ≡ put.before ++ x ∷ ms)) → ((ms : Moves m) × (put.before ≡ first ++ ms)) ⊎ ((ms : Moves m) × (first ≡ put.before ++ ms))
        by (inl y) = inl y
        by (inr y) = inr (x ∷ y.0, y.1)

    same_body : e.body ≡ put.append.draft.body
    same_body = ap (λ (x : Entry). x.body) begun.draft ∙ ap (λ (x : Entry). x.body) (sym (one (ordered put.mid refl)))

    abbrev c' : Client m
    c' = client m (after m h put.before) k

    past : upto m c' ≤ p
    past = put_past m h zs reach trims put.before put.mid put.split k put.append put.holds (put_there m h zs reach k p e st refl) put.sent put.kind st.kept

    books : WorldBook m (after m h put.before)
    books = run_book m put.before (start m h) (start_book m h)

    made : MadeTask m c'.num (upto m c') put.holds.work.command (Appending put.append put.holds.purpose)
    made = subst (MadeTask m c'.num (upto m c') put.holds.work.command) put.holds.holds (subst (MadeWork m c'.num (upto m c')) put.holds.has ((state m h put.before).made k))

    same_upto : (o o' : Oid) (a b v v' t t' : ℕ) (ks ls : List (Part × ℕ)) (x y : List ℕ) → Checkpoint o a v t ks x ≡ Checkpoint o' b v' t' ls y → a ≡ b
    same_upto o o' a b v v' t t' ks ls x y z = cc

    commits : {X : Type 0} (d : Entry) → put.append.draft ≡ d → tag_of d.body ≡ 1 → X
    commits d is t = absurd (differ (sym put_tag ∙ (ap (λ (x : Entry). tag_of x.body) is ∙ t)))
      where
        differ : ◌≡◌ {A = ℕ} 3 1 → ⊥
        differ z = omega (arith, z)

    pub saved_below : u ≤ p
    unfolding commit_record
    saved_below = by put.holds.purpose made (subst (DraftOf m k (trace m (after m h put.before)) c'.tx c'.begun) put.holds.holds ((books k).drafts put.holds.work put.holds.has))
      where
        decided : {X : Type 0} → tag_of put.append.draft.body ≡ 2 → X
        decided t = absurd (differ (sym put_tag ∙ t))
          where
            differ : ◌≡◌ {A = ℕ} 3 2 → ⊥
            differ z = omega (arith, z)

        by : (y : Purpose m) → MadeFor m c'.num (upto m c') put.holds.work.command put.append.draft y → DraftFor m k (trace m (after m h put.before)) c'.tx c'.begun put.append.draft y → u ≤ p
        by Writes x d = commits _ d.draft refl
        by Judged x d = commits _ d.draft refl
        by (Marks n o j) x d = absurd (differ (sym put_tag ∙ ap tag_of d.draft.2))
          where
            differ : ◌≡◌ {A = ℕ} 3 1 → ⊥
            differ z = omega (arith, z)
        by (Decides what) x d = decided x.0
        by (Rescues what) x d = decided x.0
        by (Saves o n) x d =
            let at = same_upto r.oid o u n r.version x.version r.whole x.whole r.keys x.keys r.state x.state (sym r.is ∙ (same_body ∙ x.saves)) in
            let low = x.low in
            let top = past in
            omega (arith, at, low, top)

module _ (m : Meaning) where
  pub saves_precede : SavesPrecedeBySpareTrims m
  saves_precede h ms v r trims own p e o b i is =
      saves_here h ms (reached m h ms v r) trims (subst (λ (u : World m). EntriesOwn m h ms u) r.goes.is own) p e o b (subst (λ (u : World m). Contains (entries_in m u) (p, e)) r.goes.is i) is
    where
      saves_here : (h : Header) (ms : Moves m) (reach : Reaches m h ms (after m h ms)) → TrimsWereSpare m h ms → EntriesOwn m h ms (after m h ms) → SavesPrecede m (entries_in m (after m h ms))
      saves_here h ms reach trims own p e o b i is = saved_below m h ms reach trims own p e i b.upto (read_at m o e b is)
