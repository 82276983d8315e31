-- Over a run: each decision record that a client has in hand was begun for a commit record that was settled by then.
use Rattle.std.proofs.Common.{◌≡◌, ℕ, ◌<◌, Bool, List, [], ◌∷◌, ◌++◌, length, true, refl, sym, ap, ◌∙◌, subst, arith, Option, Some, None, append-nil}
use Rattle.std.specs.Prelude.{slice_index_or}
use Rattle.tg_base.specs.Clusters.{Header}
use Rattle.tg_base.specs.declared.cell.Cell.{Cell}
use Rattle.tg_base.specs.declared.cell.Cell.TheVariants.{Junk, Data}
use Rattle.tg_base.specs.declared.ids.Oid.{Oid}
use Rattle.tg_base.specs.declared.ids.Role.TheVariants as role
use Rattle.tg_base.specs.declared.packet.Packet.{Packet}
use Rattle.tg_entry.specs.declared.entry.Body.TheVariants.{Decision}
use Rattle.tg_entry.specs.declared.entry.Entry.{Entry}
use Rattle.tg_entry.specs.Format.{tag_of}
use Rattle.tg_kind.specs.Meaning.{Meaning}
use Rattle.tg_model.specs.Kinds.{EventOf}
use Rattle.tg_protocol.specs.Words.{cell_at, client_id, numbers, with_nums}
use Rattle.tg_protocol.specs.LayoutServers.{layout_step}
use Rattle.tg_protocol.specs.Appending.{Append, append_feed, append_again}
use Rattle.tg_protocol.specs.Entries.{is_commit}
use Rattle.tg_protocol.specs.Pages.{entry_of, cell_entry}
use Rattle.tg_protocol.specs.Replies.{reply}
use Rattle.tg_protocol.specs.Clients.{Task, Syncing, Walking, Appending, Trimming, Copying', Reconfiguring, Work, Client, new_client, all_entries, member_positions, below}
use Rattle.tg_protocol.specs.ClientSteps.{ClientTurn, task_in}
use Rattle.tg_protocol.specs.Runs.{Move, Moves, Next as Counts, Takes, LawfulCommand, Reaches, run}
use Rattle.tg_protocol.specs.Worlds.{World, start, client, happens}
use Rattle.tg_law_layouts.specs.Moves.After.{after}
use Rattle.tg_law_layouts.specs.Moves.Configs.{Config, config, client_in, layout_in}
use Rattle.tg_law_layouts.proofs.Moves.Growth.{IsCalm, unit_quiet, layout_quiet, seqr_quiet}
use Rattle.tg_law_layouts.proofs.Moves.Lists.{at_map, at_set}
use Rattle.tg_law_layouts.proofs.Moves.Moves.{AllGive, Comes, ClientInput, Commanded, Hears', Ticks', Given, CasesOf, client_turn, step_cases_of}
use Rattle.tg_law_cells.specs.Cells.Settled.{IsSettled}
use Rattle.tg_law_replies.specs.History.Worlds.{entries_in}
use Rattle.tg_law_replies.proofs.Views.Records.{commit_there}
use Rattle.tg_law_replies.specs.Replies.Steps.{EachDelivery}
use Rattle.tg_law_replies.proofs.Replies.Turns.{feed_keeps, again_keeps}
use Rattle.tg_law_walks.proofs.Walks.Cells.{known_at}
use Rattle.tg_law_walks.proofs.Walks.Saves.{entries_have}
use Rattle.tg_law_walks.specs.Lists.Drafted.{DraftsFit}
use Rattle.tg_law_walks.specs.Lists.Spared.{TrimsWereSpare}
use Rattle.tg_law_walks.proofs.Lists.Fits.{drafts_fit}
use Rattle.tg_law_walks.proofs.Lists.Safe.{safe_before}
use Rattle.tg_law_walks.proofs.Drafts.Became.{Holds, Became, Fresh, Same, Fed, Again, became, no_some}
use Rattle.tg_law_walks.proofs.Drafts.Clients.{State, few_in}
use Rattle.tg_law_walks.proofs.Drafts.Sound.{Kind, OfRecord, OfDecision, OfCheckpoint}
use Rattle.tg_law_walks.proofs.Drafts.Written.{next_draft, state_at, short_at, then_next, then_takes, give_right, regroup}
use Rattle.tg_law_walks.proofs.Once.Along.{on_moves}
use Rattle.tg_law_walks.proofs.Once.Reached.{header, give, short, reach_at}
use Rattle.tg_law_syncs.proofs.Exact.Finds.{spare_before}
use Rattle.tg_law_syncs.specs.Timely.Timely.{KnowsInTime}
use Rattle.tg_law_syncs.proofs.Timely.Reading.{knows_more}
use Rattle.tg_law_syncs.proofs.Timely.Timely.{held_at, tells, up}
use Rattle.tg_law_syncs.proofs.Timely.Walked.{delivery_at}
use Rattle.tg_law_headline.proofs.Decisions.Drawing.{Drawn, TaskDrawn, WorkDrawn, AreOf}
use Rattle.tg_law_headline.proofs.Decisions.Fresh.{NoAppend, NoneInHand, command_fine, deliver_fine, tick_fine}

module _ (m : Meaning) where
  -- a commit record was settled at a position
  pub record Recorded (u : World m) (p : ℕ) (e : Entry) : Type 0 where
    pub page : List ℕ
    pub settled : IsSettled m u p (Data page)
    pub reads : entry_of page ≡ Some e
    pub commit : is_commit e ≡ true

  -- what a client knows in time was settled
  of_known : (u : World m) (c : Client m) (w : Work m) → KnowsInTime m u c w → (os : List Oid) → AreOf m (Recorded u) (all_entries m c w os)
  of_known u c w known os p e is =
      let a = commit_there m (all_entries m c w os) p e is in
      let b = entries_have m c.cells (below m w.tail (with_nums c.own (member_positions m w os))) p e a.0 in
      by (cell_at c.cells p) refl b.1 a.1
    where
      by : (x : Option Cell) → cell_at c.cells p ≡ x → cell_entry x ≡ Some e → is_commit e ≡ true → Recorded u p e
      by None at read commit = no_some e read
      by (Some Junk) at read commit = no_some e read
      by (Some (Data page)) at read commit = record { page = page; settled = (known p (Data page) at).settled; reads = read; commit = commit }

  none_in_hand : (c : Client m) → ((a : Append) → Holds m c a → ⊥) → NoneInHand m c.work
  none_in_hand c isnt = by c.work refl
    where
      by : (o : Option (Work m)) → c.work ≡ o → NoneInHand m o
      by None has = tt
      by (Some w) has = on (task_in m w.hand) refl
        where
          on : (t : Task m) → task_in m w.hand ≡ t → NoAppend m t
          on (Appending a y) at = isnt a (record { work = w; purpose = y; has = has; holds = at })
          on (Syncing s) at = tt
          on (Walking j os) at = tt
          on (Trimming t) at = tt
          on (Copying' x) at = tt
          on (Reconfiguring r) at = tt

  drawn_in : (u : World m) (c : Client m) (b : Append) → WorkDrawn m (Recorded u) c.work → Holds m c b → (q : ℕ) (so : Bool) → b.draft.body ≡ Decision q so → Drawn m (Recorded u) q b.draft
  drawn_in u c b k o = subst (TaskDrawn m (Recorded u)) o.holds (subst (WorkDrawn m (Recorded u)) o.has k)

  number_of : (c : Client m) (n i : ℕ) (d : Entry) → Kind m c n i d → tag_of d.body ≡ 2 → c.decisions < d.head.number
  number_of c n i d (OfRecord t a b) tag = absurd (omega (arith, t, tag))
  number_of c n i d (OfDecision t k a b) tag = omega (arith, k)
  number_of c n i d (OfCheckpoint t k a b) tag = absurd (omega (arith, t, tag))

-- What a client hears tells it only what was settled in time.
module _ (m : Meaning) (h : Header) (zs : Moves m) (r : Reaches m h zs (after m h zs)) (trims : TrimsWereSpare m h zs) (fit : DraftsFit m (after m h zs)) where
  here : zs ≡ zs ++ []
  here = sym (append-nil zs)

  in_time : (k : ℕ) (x : Packet) → Comes m (config m (after m h zs)) x (client_id k)
      → EachDelivery m h.objects (entries_in m (after m h zs)) (KnowsInTime m (after m h zs)) (client m (after m h zs) k) (client m (after m h zs) k).work x.from x.rid (reply x.msg)
  in_time k x comes =
      let known = (held_at m h zs r trims fit zs [] here).clients k in
      let g = tells m h zs r trims fit zs [] here k x comes known in
      let now = knows_more m known.of g.more g.within (client m (after m h zs) k) known.knows in
      delivery_at m g.more (client m (after m h zs) k).stand.epoch (KnowsInTime m (after m h zs))
      (λ c w all le pos d found. up m h zs r trims fit (client m (after m h zs) k).stand.epoch c.stand.epoch pos d le (g.each pos d (known_at g.more c.cells all pos d found)))
      h.objects (entries_in m (after m h zs)) (client m (after m h zs) k) (omega arith) now.cells x.from x.rid (client m (after m h zs) k).work (reply x.msg) g.heard refl now.work

  turn_drawn : (k : ℕ) (t : ClientTurn m) → ClientInput m (config m (after m h zs)) k t → NoneInHand m (client_in m (config m (after m h zs)) k).work → WorkDrawn m (Recorded m (after m h zs)) t.now.work
  turn_drawn k t (Commanded x) none = command_fine m (Recorded m (after m h zs)) (KnowsInTime m (after m h zs)) (of_known m (after m h zs)) h.objects (entries_in m (after m h zs)) (client_in m (config m (after m h zs)) k) x none
  turn_drawn k t (Hears' x comes) none = deliver_fine m (Recorded m (after m h zs)) (KnowsInTime m (after m h zs)) (of_known m (after m h zs)) h.objects (entries_in m (after m h zs)) (client_in m (config m (after m h zs)) k) x.from x.rid x.msg none (in_time k x comes)
  turn_drawn k t Ticks' none = tick_fine m (Recorded m (after m h zs)) (KnowsInTime m (after m h zs)) (of_known m (after m h zs)) h.objects (entries_in m (after m h zs)) (client_in m (config m (after m h zs)) k) none

module _ (m : Meaning) (h : Header) (zs : Moves m) (reach : Reaches m h zs (after m h zs)) (trims : TrimsWereSpare m h zs) where
  -- A world before these moves ended, in which the client had begun fewer decision records than the draft's number, and the record
  -- that the draft decides was settled, in whose streams it stands.
  pub record Began (xs : Moves m) (k : ℕ) (d : Entry) (q : ℕ) : Type 0 where
    pub before : Moves m
    pub later : Moves m
    pub split : xs ≡ before ++ later
    pub number : (client_in m (config m (after m h before)) k).decisions < d.head.number
    pub of : Drawn m (Recorded m (after m h before)) q d

  abbrev pub OfClient : Moves m → ℕ → Client m → Type 0
  OfClient xs k c = (b : Append) → Holds m c b → (q : ℕ) (so : Bool) → b.draft.body ≡ Decision q so → Began xs k b.draft q

  abbrev AllBegan : Moves m → Config m → Type 0
  AllBegan xs g = (k : ℕ) → OfClient xs k (client_in m g k)

  longer : (xs ys : Moves m) (k : ℕ) (d : Entry) (q : ℕ) → Began xs k d q → Began (xs ++ ys) k d q
  longer xs ys k d q a = record { before = a.before; later = a.later ++ ys; split = ap (λ (ms : Moves m). ms ++ ys) a.split ∙ regroup m a.before a.later ys; number = a.number; of = a.of }

  module _ (xs : Moves m) (e : EventOf m) (ys : Moves m) (split : zs ≡ xs ++ Takes e ∷ ys) (held : AllBegan xs (config m (after m h xs))) where
    abbrev g : Config m
    g = config m (after m h xs)

    abbrev on : Moves m
    on = xs ++ Takes e ∷ []

    reached : Reaches m h xs (after m h xs)
    reached = reach_at m h zs reach xs (Takes e ∷ ys) split

    spare : TrimsWereSpare m h xs
    spare = spare_before m h zs xs (Takes e ∷ ys) trims split (safe_before m h zs reach trims xs (Takes e ∷ ys) split)

    state : State m h (after m h xs)
    state = state_at m h zs (header m h zs reach) (give m h zs reach) (short m h zs reach) xs (Takes e ∷ ys) split

    kept : AllBegan on g
    kept k b o q so is = longer xs (Takes e ∷ []) k b.draft q (held k b o q so is)

    calm : IsCalm m role.Client g (AllBegan on)
    calm d q k = subst (OfClient on k) (λ i. slice_index_or (sym (q.clients refl) i) k (new_client m (sym q.cluster i) k)) (kept k)

    module _ (k : ℕ) (t : ClientTurn m) (i : ClientInput m (config m (after m h xs)) k t) (lawful : Given m (LawfulCommand m) (config m (after m h xs)) k t i) (less : k < length (after m h xs).clients) where
      abbrev c : Client m
      c = client_in m (config m (after m h xs)) k

      came : (b : Append) → Holds m t.now b → Became m (config m (after m h xs)) k t.now b
      came b o = became m (config m (after m h xs)) k t i lawful
          (few_in m h (header m h zs reach) (after m h xs) (short_at m h zs (header m h zs reach) (give m h zs reach) (short m h zs reach) xs (Takes e ∷ ys) split) state k less) (state.clients.sound k) b o

      same : (a b : Append) → b.draft ≡ a.draft → Holds m c a → (q : ℕ) (so : Bool) → b.draft.body ≡ Decision q so → Began on k b.draft q
      same a b at old q so is = subst (λ (d : Entry). Began on k d q) (sym at) (kept k a old q so (ap (λ (d : Entry). d.body) (sym at) ∙ is))

      turned : OfClient on k t.now
      turned b o q so is = by (came b o)
        where
          by : Became m (config m (after m h xs)) k t.now b → Began on k b.draft q
          by (Fresh none asks kind isnt) = record {
            before = xs;
            later = Takes e ∷ [];
            split = refl;
            number = number_of m c t.now.decisions t.now.checkpoints b.draft kind (ap tag_of is);
            of = drawn_in m (after m h xs) t.now b (turn_drawn m h xs reached spare (drafts_fit m h xs (after m h xs) reached) k t i (none_in_hand m c isnt)) o q so is;
          }
          by (Same old stand) = kept k b old q so is
          by (Fed a old x comes doing awaited next stand) =
              same a b (next_draft a.draft b (append_feed c.stand a a.work x.from.num (reply x.msg) c.next).to next (feed_keeps c.stand a x.from.num (reply x.msg) c.next)) old q so is
          by (Again a old x p comes latest node later next stand) = same a b (next_draft a.draft b (append_again p a c.next).to next (again_keeps p a c.next)) old q so is

    own : (k : ℕ) (t : ClientTurn m) → (i : ClientInput m (config m (after m h xs)) k t) → Given m (LawfulCommand m) (config m (after m h xs)) k t i → k < length (after m h xs).clients → AllBegan on (client_turn m (config m (after m h xs)) k t)
    own k t i lawful less = at_set (after m h xs).clients k t.now (new_client m (after m h xs).cluster) (λ j y. OfClient on j y) less (turned k t i lawful less) (λ j other. kept j)

    cases : CasesOf m (LawfulCommand m) (config m (after m h xs)) (AllBegan on)
    cases = record {
      idle = kept;
      unit = λ n p a less. calm _ (unit_quiet m role.Client (λ e. cc) (config m (after m h xs)) n p a less);
      layout = λ l p a less. calm _ (layout_quiet m role.Client (λ e. cc) (config m (after m h xs)) l p (layout_step (layout_in m (config m (after m h xs)) l) p.msg) a);
      seqr = λ s t i less. calm _ (seqr_quiet m role.Client (λ e. cc) (config m (after m h xs)) s t);
      client = own;
    }

    stepped : AllBegan on (config m (happens m (after m h xs) e))
    stepped = step_cases_of m (LawfulCommand m) (after m h xs) (AllBegan on) cases e (give_right m xs (Takes e ∷ ys) (subst (λ (ms : Moves m). AllGive m (LawfulCommand m) ms) split (give m h zs reach))).0

  on_move : (xs : Moves m) (x : Move m) (rest : Moves m) → zs ≡ xs ++ x ∷ rest → AllBegan xs (config m (after m h xs)) → AllBegan (xs ++ x ∷ []) (config m (after m h (xs ++ x ∷ [])))
  on_move xs Counts rest split held = subst (λ (w : World m). AllBegan (xs ++ Counts ∷ []) (config m w)) (sym (then_next m h xs)) (λ k b o q so is. longer xs (Counts ∷ []) k b.draft q (held k b o q so is))
  on_move xs (Takes e) rest split held = subst (λ (w : World m). AllBegan (xs ++ Takes e ∷ []) (config m w)) (sym (then_takes m h xs e)) (stepped xs e rest split held)

  new_began : (k j : ℕ) → OfClient [] k (new_client m h j)
  unfolding new_client
  new_began k j b o = no_some o.work o.has

  starts : AllBegan [] (config m (after m h []))
  unfolding run start
  starts k = at_map (new_client m h) (numbers h.clients 0) k (new_client m h k) (λ (y : Client m). OfClient [] k y) (new_began k) (new_began k k)

  -- in each world of the run
  pub began_at : (xs ys : Moves m) → zs ≡ xs ++ ys → AllBegan xs (config m (after m h xs))
  began_at xs ys split = on_moves m h zs reach (λ (ms : Moves m). AllBegan ms (config m (after m h ms))) on_move [] xs ys split starts
