-- What a client has in hand when it sends a page: the page is its draft's, and is sent in the epoch in which the client stands.
use Rattle.std.proofs.Common.{◌≡◌, ◌⊎◌, ℕ, ◌<◌, List, [], ◌∷◌, ◌++◌, length, map, true, sym, ap, ◌∙◌, subst, inl, inr, append-nil}
use Rattle.tg_base.specs.Clusters.{Header}
use Rattle.tg_base.specs.declared.ids.NodeId.{NodeId}
use Rattle.tg_base.specs.declared.ids.Role.TheVariants as role
use Rattle.tg_base.specs.declared.marks.StreamLink.{StreamLink}
use Rattle.tg_base.specs.declared.packet.Packet.{Packet}
use Rattle.tg_entry.specs.declared.entry.Entry.{Entry}
use Rattle.tg_entry.specs.Records.{linked}
use Rattle.tg_kind.specs.Meaning.{Meaning}
use Rattle.tg_model.specs.Kinds.{EventOf}
use Rattle.tg_protocol.specs.Words.{client_id}
use Rattle.tg_protocol.specs.Entries.{streams_of}
use Rattle.tg_protocol.specs.Pages.{page_of}
use Rattle.tg_protocol.specs.LayoutServers.{layout_step}
use Rattle.tg_protocol.specs.Cells.{Puts, CellJob}
use Rattle.tg_protocol.specs.Appending.{names_all, AppendWork, Putting, Append}
use Rattle.tg_protocol.specs.Clients.{Client, new_client}
use Rattle.tg_protocol.specs.ClientSteps.{ClientTurn}
use Rattle.tg_protocol.specs.Worlds.{World, start, client, packet_of, happens}
use Rattle.tg_protocol.specs.Runs.{Move, Moves, Next as Counts, Takes, LawfulCommand, Reaches, run}
use Rattle.tg_law_layouts.specs.Moves.After.{after}
use Rattle.tg_law_layouts.specs.Moves.Configs.{Config, config, client_in, layout_in}
use Rattle.tg_law_layouts.proofs.Moves.Growth.{Quiet, unit_quiet, layout_quiet, seqr_quiet}
use Rattle.tg_law_layouts.proofs.Moves.Lists.{at_set}
use Rattle.tg_law_layouts.proofs.Moves.Members.{Has, has_either, has_map}
use Rattle.tg_law_layouts.proofs.Moves.Moves.{AllGive, ClientInput, Given, CasesOf, client_turn, step_cases_of}
use Rattle.tg_law_walks.proofs.Drafts.Became.{Holds}
use Rattle.tg_law_walks.proofs.Drafts.Written.{Ours, PutsOk, then_next, then_takes, give_right, regroup}
use Rattle.tg_law_walks.proofs.Once.Along.{spent_at, written_at, on_moves}
use Rattle.tg_law_walks.proofs.Once.Reached.{header, give, short}
use Rattle.tg_law_walks.proofs.Once.Spending.{Put, put_among, OfKind, IsNew, either}

module _ (m : Meaning) (h : Header) (zs : Moves m) (reach : Reaches m h zs (after m h zs)) where
  -- a client has an append in hand that puts a page of this epoch, in which it stands
  pub record HeldOf (c : Client m) (epoch : ℕ) (page : List ℕ) (e : Entry) : Type 0 where
    pub append : Append
    pub holds : Holds m c append
    pub job : CellJob
    pub works : append.work ≡ Putting job
    pub rid : ℕ
    pub index : ℕ
    pub puts : job.work ≡ Puts rid page index
    pub stands : epoch ≡ c.stand.epoch
    pub kind : OfKind e append.draft

  module _ (xs ys : Moves m) (split : zs ≡ xs ++ ys) where
    abbrev c : Config m
    c = config m (after m h xs)

    abbrev Sends : Config m → Type 0
    Sends d = (k : ℕ) (x : Put d.packets k) → Has c.packets x.packet ⊎ HeldOf (client_in m d k) x.epoch x.page x.entry

    quiet : (d : Config m) → Quiet m role.Client c d → Sends d
    quiet d q k x = inl (q.old x.packet x.sent (ap (λ (n : NodeId). n.role) x.from))

    own : (k : ℕ) (u : ClientTurn m) → (i : ClientInput m c k u) → Given m (LawfulCommand m) c k u i → k < length c.clients → Sends (client_turn m c k u)
    own k u i lawful less = at_set c.clients k u.now (new_client m c.cluster) (λ j d. (x : Put (c.packets ++ map (packet_of m (client_id k)) u.sends) j) → Has c.packets x.packet ⊎ HeldOf d x.epoch x.page x.entry) less here
        (λ j other x. inl (there j other x (has_either c.packets (map (packet_of m (client_id k)) u.sends) x.packet x.sent)))
      where
        here : (x : Put (c.packets ++ map (packet_of m (client_id k)) u.sends) k) → Has c.packets x.packet ⊎ HeldOf u.now x.epoch x.page x.entry
        here x = by (either m h zs reach xs ys split (written_at m h zs reach xs ys split) k ((spent_at m h zs reach xs ys split).of k) u i lawful less x)
          where
            by : Has c.packets x.packet ⊎ IsNew m h zs reach xs ys split (written_at m h zs reach xs ys split) k ((spent_at m h zs reach xs ys split).of k) u i lawful less x.epoch x.pos x.page x.entry → Has c.packets x.packet ⊎ HeldOf u.now x.epoch x.page x.entry
            by (inl a) = inl a
            by (inr n) = inr (record { append = n.append; holds = n.holds; job = n.job; works = n.works; rid = n.rid; index = n.index; puts = n.puts; stands = n.stands; kind = n.kind })

        there : (j : ℕ) → (j ≡ k → ⊥) → (x : Put (c.packets ++ map (packet_of m (client_id k)) u.sends) j) → Has c.packets x.packet ⊎ Has (map (packet_of m (client_id k)) u.sends) x.packet → Has c.packets x.packet
        there j other x (inl g) = g
        there j other x (inr g) = let o = has_map (packet_of m (client_id k)) u.sends x.packet g in absurd (other (ap (λ (n : NodeId). n.num) (sym x.from ∙ ap (λ (y : Packet). y.from) o.is)))

    sends_cases : CasesOf m (LawfulCommand m) c Sends
    sends_cases = record {
      idle = λ k x. inl x.sent;
      unit = λ u p a less. quiet _ (unit_quiet m role.Client (λ e. cc) c u p a less);
      layout = λ l p a less. quiet _ (layout_quiet m role.Client (λ e. cc) c l p (layout_step (layout_in m c l) p.msg) a);
      seqr = λ r u i less. quiet _ (seqr_quiet m role.Client (λ e. cc) c r u);
      client = own;
    }

  -- A page was sent by then, for an append that its client had in hand then: it is that of the draft with links, and is sent in the epoch
  -- in which the client stood.
  pub record PutFor (xs : Moves m) (k : ℕ) (packet : Packet) (epoch : ℕ) (page : List ℕ) (e : Entry) : Type 0 where
    pub before : Moves m
    pub mid : Moves m
    pub split : xs ≡ before ++ mid
    pub sent : Has (after m h before).packets packet
    pub append : Append
    pub holds : Holds m (client m (after m h before) k) append
    pub stands : epoch ≡ (client m (after m h before) k).stand.epoch
    pub kind : OfKind e append.draft
    pub links : List StreamLink
    pub names : names_all (streams_of append.draft) links ≡ true
    pub is : page ≡ page_of (linked append.draft links)

  abbrev PutsFor : Moves m → Type 0
  PutsFor xs = (k : ℕ) (x : Put (after m h xs).packets k) → PutFor xs k x.packet x.epoch x.page x.entry

  longer : (xs ys : Moves m) (k : ℕ) (packet : Packet) (epoch : ℕ) (page : List ℕ) (y : Entry) → PutFor xs k packet epoch page y → PutFor (xs ++ ys) k packet epoch page y
  longer xs ys k packet epoch page y a = record {
    before = a.before;
    mid = a.mid ++ ys;
    split = ap (λ (ms : Moves m). ms ++ ys) a.split ∙ regroup m a.before a.mid ys;
    sent = a.sent;
    append = a.append;
    holds = a.holds;
    stands = a.stands;
    kind = a.kind;
    links = a.links;
    names = a.names;
    is = a.is;
  }

  -- with what is in hand in a world of the run
  put_now : (xs ys : Moves m) → zs ≡ xs ++ ys → (k : ℕ) (packet : Packet) (epoch : ℕ) (page : List ℕ) (e : Entry) → Has (after m h xs).packets packet → HeldOf (client m (after m h xs) k) epoch page e → PutFor xs k packet epoch page e
  put_now xs ys split k packet epoch page e sent a = record {
    before = xs;
    mid = [];
    split = sym (append-nil xs);
    sent = sent;
    append = a.append;
    holds = a.holds;
    stands = a.stands;
    kind = a.kind;
    links = ours.0.links;
    names = subst (λ (d : Entry). names_all (streams_of d) ours.0.links ≡ true) ours.1 ours.0.names;
    is = ours.0.page ∙ ap (λ (d : Entry). page_of (linked d ours.0.links)) ours.1;
  }
    where
      puts_ok : PutsOk m h zs (header m h zs reach) (give m h zs reach) (short m h zs reach) k a.append.draft (Putting a.job)
      puts_ok = subst (λ (z : AppendWork). PutsOk m h zs (header m h zs reach) (give m h zs reach) (short m h zs reach) k a.append.draft z) a.works ((written_at m h zs reach xs ys split).hands k a.append a.holds)

      ours : Ours m h zs (header m h zs reach) (give m h zs reach) (short m h zs reach) k a.append.draft a.job.place.epoch a.job.place.pos page
      ours = puts_ok a.rid page a.index a.puts

  on_event : (xs : Moves m) (e : EventOf m) (rest : Moves m) → zs ≡ xs ++ Takes e ∷ rest → PutsFor xs → PutsFor (xs ++ Takes e ∷ [])
  on_event xs e rest split l = subst (λ (u : World m). (k : ℕ) (x : Put u.packets k) → PutFor (xs ++ Takes e ∷ []) k x.packet x.epoch x.page x.entry) (sym now) puts_now
    where
      now : after m h (xs ++ Takes e ∷ []) ≡ happens m (after m h xs) e
      now = then_takes m h xs e

      sends : Sends xs (Takes e ∷ rest) split (config m (happens m (after m h xs) e))
      sends = step_cases_of m (LawfulCommand m) (after m h xs) (Sends xs (Takes e ∷ rest) split) (sends_cases xs (Takes e ∷ rest) split) e
          (give_right m xs (Takes e ∷ rest) (subst (λ (ms : Moves m). AllGive m (LawfulCommand m) ms) split (give m h zs reach))).0

      puts_now : (k : ℕ) (x : Put (happens m (after m h xs) e).packets k) → PutFor (xs ++ Takes e ∷ []) k x.packet x.epoch x.page x.entry
      puts_now k x = by (sends k x)
        where
          by : Has (after m h xs).packets x.packet ⊎ HeldOf (client_in m (config m (happens m (after m h xs) e)) k) x.epoch x.page x.entry → PutFor (xs ++ Takes e ∷ []) k x.packet x.epoch x.page x.entry
          by (inl old) = longer xs (Takes e ∷ []) k x.packet x.epoch x.page x.entry (l k (put_among (after m h xs).packets (happens m (after m h xs) e).packets k x old))
          by (inr a) = put_now (xs ++ Takes e ∷ []) rest (split ∙ sym (regroup m xs (Takes e ∷ []) rest)) k x.packet x.epoch x.page x.entry
              (subst (λ (u : World m). Has u.packets x.packet) (sym now) x.sent) (subst (λ (u : World m). HeldOf (client m u k) x.epoch x.page x.entry) (sym now) a)

  on_move : (xs : Moves m) (x : Move m) (rest : Moves m) → zs ≡ xs ++ x ∷ rest → PutsFor xs → PutsFor (xs ++ x ∷ [])
  on_move xs Counts rest e l = subst (λ (u : World m). (k : ℕ) (x : Put u.packets k) → PutFor (xs ++ Counts ∷ []) k x.packet x.epoch x.page x.entry) (sym (then_next m h xs))
      (λ k x. longer xs (Counts ∷ []) k x.packet x.epoch x.page x.entry (l k (put_among (after m h xs).packets (after m h xs).packets k x x.sent)))
  on_move xs (Takes x) rest e l = on_event xs x rest e l

  start_puts : PutsFor []
  unfolding run start
  start_puts k x = absurd x.sent

  pub puts_for : (k : ℕ) (x : Put (after m h zs).packets k) → PutFor zs k x.packet x.epoch x.page x.entry
  puts_for = on_moves m h zs reach PutsFor on_move [] zs [] (sym (append-nil zs)) start_puts
