-- What holds of each client of a run between its turns: each page that it keeps below its view is of a record of its own, which stands in
-- the log; and where an ask was answered, its view stands at the answer's tail.
use Rattle.std.proofs.Common.{◌≡◌, ◌⊎◌, ℕ, ◌<◌, ◌≤◌, List, [], ◌∷◌, ◌++◌, map, true, refl, sym, ap, ◌∙◌, subst, inl, inr, arith, Option, Some, None}
use Rattle.std.specs.Prelude.{Contains, ◌==◌}
use Rattle.tg_base.specs.Clusters.{Header}
use Rattle.tg_base.specs.declared.cell.Cell.TheVariants.{Data}
use Rattle.tg_base.specs.declared.ids.Oid.{Oid}
use Rattle.tg_base.specs.declared.packet.Packet.{Packet}
use Rattle.tg_entry.specs.declared.entry.Entry.{Entry}
use Rattle.tg_entry.specs.Records.{linked}
use Rattle.tg_kind.specs.Meaning.{Meaning}
use Rattle.tg_model.specs.declared.trace.What.TheVariants as told
use Rattle.tg_model.specs.Kinds.{EventOf, NoteOf}
use Rattle.tg_protocol.specs.Words.{cell_at, directory, has_num}
use Rattle.tg_protocol.specs.Entries.{is_commit, body_commits}
use Rattle.tg_protocol.specs.Pages.{cell_entry}
use Rattle.tg_protocol.specs.Replies.{reply}
use Rattle.tg_protocol.specs.Appending.{Append, AppendEnd, At, Full, Forgotten}
use Rattle.tg_protocol.specs.Transactions.{commit_record}
use Rattle.tg_protocol.specs.Views.{Entries, View}
use Rattle.tg_protocol.specs.Clients.{Purpose, Writes, Judged, Decides, Rescues, Saves, Marks, Task, Appending, Work, Client, new_client, upto_in, upto, known, work_cells}
use Rattle.tg_protocol.specs.ClientSteps.{ClientTurn, task_in}
use Rattle.tg_protocol.specs.Worlds.{World, Told, start, client, trace, log, happens}
use Rattle.tg_protocol.specs.Runs.{Move, Moves, Takes, LawfulEvent, LawfulMove, Reaches, most_steps}
use Rattle.tg_protocol.specs.Holding.{append_of, append_by}
use Rattle.tg_protocol.specs.Playing.{IsOwn}
use Rattle.tg_law_layouts.specs.Moves.After.{after}
use Rattle.tg_law_layouts.specs.Moves.Configs.{config}
use Rattle.tg_law_layouts.proofs.Moves.Lists.{contained}
use Rattle.tg_law_layouts.proofs.Moves.Members as members
use Rattle.tg_law_layouts.proofs.Moves.Moves.{ClientInput, Commanded, Hears', Ticks'}
use Rattle.tg_law_replies.specs.History.Worlds.{entries_in}
use Rattle.tg_law_replies.specs.Replies.Ended.{AppendsEnd, ended_in, work_ends}
use Rattle.tg_law_replies.specs.Replies.Laws.{ClientsFind}
use Rattle.tg_law_replies.proofs.Books.Turns.{no_some, DraftOf, DraftFor, IsOfTx}
use Rattle.tg_law_replies.proofs.Books.Worlds.{WorldBook, nil_right, cancel, run_book, start_book}
use Rattle.tg_law_replies.proofs.History.Members.{Has, found, same_number}
use Rattle.tg_law_replies.proofs.History.Cells.{logs_rise}
use Rattle.tg_law_replies.proofs.Pages.Read.{logs_keep_grammar}
use Rattle.tg_law_replies.proofs.Replies.Along.{run_on, at_end}
use Rattle.tg_law_replies.proofs.Replies.Shape.{idle_stands}
use Rattle.tg_law_replies.proofs.Replies.Shaping.{AllShaped}
use Rattle.tg_law_replies.proofs.Replies.Steps.{ended_here}
use Rattle.tg_law_replies.proofs.Replies.Telling.{RightAndKept, found_kept}
use Rattle.tg_law_walks.proofs.Drafts.Clients.{happens_steps}
use Rattle.tg_law_walks.proofs.Walks.Cells.{entry_there}
use Rattle.tg_law_walks.proofs.Walks.Members.{has_contained}
use Rattle.tg_law_walks.proofs.Walks.Syncs.{logs_by_position}
use Rattle.tg_law_syncs.specs.Known.Known.{KnownIsTheLogs}
use Rattle.tg_law_syncs.proofs.Follow.Snapshots.{snap_run, start_snap}
use Rattle.tg_law_headline.proofs.Alike.Running.{state_at as run_at}
use Rattle.tg_law_headline.proofs.Alike.Speaks.{Delivered, From, Speaks, Silent, Speaks', Turns, told_of, speaks}
use Rattle.tg_law_claims.specs.Playing.Rules.{AsksStand}
use Rattle.tg_law_claims.proofs.Playing.Pruning.{Snapped, Says, SaysAll, LandsFor, TaskLands, WorkLands, Fits, GoodTurn, commanded, delivered, ticked}

-- a number of a list stands there
num_in : (p : ℕ) (ps : List ℕ) → has_num p ps ≡ true → Has ps p
num_in p ps e = let y = found (λ (q : ℕ). p == q) ps e in subst (Has ps) (sym (same_number p y.it y.passes)) y.has

-- a run that goes on by a lawful event reaches the world that it makes
pub reaches_on : (m : Meaning) (h : Header) (ms : Moves m) (w : World m) (e : EventOf m) → Reaches m h ms w → LawfulEvent m h e → w.steps < most_steps → Reaches m h (ms ++ Takes e ∷ []) (happens m w e)
unfolding start
reaches_on m h ms w e r lawful less = record {
  header = r.header;
  goes = record {
    lawful = λ x i. by x (members.has_either ms (Takes e ∷ []) x (members.has_contained (ms ++ Takes e ∷ []) x i));
    is = ap (λ (v : World m). happens m v e) r.goes.is ∙ sym (run_on m ms (Takes e) (start m h));
    few = let a = happens_steps m w e in omega (arith, a, less);
  };
}
  where
    by : (x : Move m) → members.Has ms x ⊎ members.Has (Takes e ∷ []) x → LawfulMove m h x
    by x (inl i) = r.goes.lawful x (contained ms x i)
    by x (inr (inl is)) = subst (LawfulMove m h) (sym is) lawful
    by x (inr (inr i)) = absurd i

module _ (m : Meaning) (h : Header) (ms : Moves m) (r : Reaches m h ms (after m h ms)) (ends : AppendsEnd m h ms (after m h ms)) where
  abbrev end : World m
  end = after m h ms

  abbrev es : Entries
  es = entries_in m (after m h ms)

  -- the log has a commit record of a client at a position
  pub record IsRecordOf (k p : ℕ) : Type 0 where
    pub entry : Entry
    pub here : Contains (entries_in m (after m h ms)) (p, entry)
    pub commit : is_commit entry ≡ true
    pub client : entry.head.client ≡ k

  abbrev FitsOf : ℕ → Client m → Type 0
  FitsOf k c = Fits m (IsRecordOf k) c

  abbrev pub AllFit : World m → Type 0
  AllFit w = (k : ℕ) → FitsOf k (client m w k)

  module _ (xs ys : Moves m) (e : EventOf m) (split : ms ≡ xs ++ Takes e ∷ ys) where
    abbrev w : World m
    w = after m h xs

    books : WorldBook m (after m h xs)
    books = run_book m xs (start m h) (start_book m h)

    of_tx : (n : ℕ) (d : Entry) → IsOfTx m n (trace m w) (client m w n).tx d → (is_commit d ≡ true) × (d.head.client ≡ n)
    unfolding commit_record
    of_tx n d o = (ap (λ (x : Entry). is_commit x) o.draft, ap (λ (x : Entry). x.head.client) o.draft)

    -- a record whose append ends stands in the log
    module _ (n : ℕ) (v : Work m) (a : Append) (works : (client m w n).work ≡ Some v) where
      stood : (p : ℕ) (d : List ℕ) (y : Purpose m) → task_in m v.hand ≡ Appending a y → ended_in m w e n ≡ Some (At p d) → (is_commit a.draft ≡ true) × (a.draft.head.client ≡ n) → IsRecordOf n p
      stood p d y at is k =
          let z = ends xs ys e split n a (At p d) (ap (λ (o : Option (Work m)). append_by m o) works ∙ ap (λ (t : Task m). append_of m t) at) is in
          record { entry = linked a.draft z.0; here = z.1; commit = k.0; client = k.1 }

      draft : (y : Purpose m) → task_in m v.hand ≡ Appending a y → DraftFor m n (trace m w) (client m w n).tx (client m w n).begun a.draft y
      draft y at = subst (DraftOf m n (trace m w) (client m w n).tx (client m w n).begun) at ((books n).drafts v works)

      landed : (y : Purpose m) (x : AppendEnd) → task_in m v.hand ≡ Appending a y → ended_in m w e n ≡ Some x → LandsFor m (IsRecordOf n) y x
      landed Writes (At p d) at is = stood p d Writes at is (of_tx n a.draft (draft Writes at))
      landed Writes (Full l) at is = tt
      landed Writes (Forgotten p b) at is = tt
      landed Judged (At p d) at is = stood p d Judged at is (of_tx n a.draft (draft Judged at))
      landed Judged (Full l) at is = tt
      landed Judged (Forgotten p b) at is = tt
      landed (Marks i o j) (At p d) at is = let k = (draft (Marks i o j) at).draft in stood p d (Marks i o j) at is (ap body_commits k.2, k.0)
      landed (Marks i o j) (Full l) at is = tt
      landed (Marks i o j) (Forgotten p b) at is = tt
      landed (Decides what) x at is = tt
      landed (Rescues what) x at is = tt
      landed (Saves o u) x at is = tt

    lands : (n : ℕ) (x : AppendEnd) → ended_in m w e n ≡ Some x → WorkLands m (IsRecordOf n) (client m w n).work x
    lands n x is = by (client m w n).work refl
      where
        task : (v : Work m) → (client m w n).work ≡ Some v → (t : Task m) → task_in m v.hand ≡ t → TaskLands m (IsRecordOf n) t x
        task v works (Appending a y) at = landed n v a works y x at is
        task v works t at = tt

        by : (o : Option (Work m)) → (client m w n).work ≡ o → WorkLands m (IsRecordOf n) o x
        by None works = tt
        by (Some v) works = task v works (task_in m v.hand) refl

    ended : (n : ℕ) (p : Packet) → Delivered m w e n p → ended_in m w e n ≡ work_ends m (client m w n) (client m w n).work p.from p.rid (reply p.msg)
    ended n p b =
        subst (λ (k : ℕ). ended_in m w e k ≡ work_ends m (client m w k) (client m w k).work p.from p.rid (reply p.msg)) b.num
        (subst (λ (y : EventOf m). ended_in m w y p.to.num ≡ work_ends m (client m w p.to.num) (client m w p.to.num).work p.from p.rid (reply p.msg)) (sym b.event)
        (ended_here m w b.at p b.got b.of_client b.on))

    turned : (n : ℕ) → FitsOf n (client m w n) → (t : ClientTurn m) → (i : ClientInput m (config m w) n t) → From m w e n t i → GoodTurn m (IsRecordOf n) t
    turned n fit t (Commanded x) b = commanded m (IsRecordOf n) (client m w n) x fit
    turned n fit t (Hears' p comes) b = delivered m (IsRecordOf n) (client m w n) p.from p.rid p.msg fit (λ x is. lands n x (ended n p b ∙ is))
    turned n fit t Ticks' b = ticked m (IsRecordOf n) (client m w n) fit

    module _ (fit : AllFit w) where
      said : (c : Client m) (ns : List (NoteOf m)) (y : NoteOf m) → SaysAll m c ns → members.Has ns y → Says m c y.what
      said c [] y k i = absurd i
      said c (n ∷ ns) y k (inl is) = subst (λ (z : NoteOf m). Says m c z.what) (sym is) k.0
      said c (n ∷ ns) y k (inr i) = said c ns y k.1 i

      -- what an answer to an ask leaves of its client
      module _ (v : World m) (replies : List (Told m)) (are : v.told ≡ w.told ++ replies) (x : Told m) (here : members.Has replies x) (o : Oid) (q : m.ask) (at : ℕ) (a : m.answer) (is : x.mark.what ≡ told.Asked o q at a) where
        snapped : Speaks m w e v → Says m (client m v x.mark.client) (told.Asked o q at a)
        snapped (Silent t c nn) = absurd (subst (λ (ts : List (Told m)). members.Has ts x) (cancel w.told replies [] (sym are ∙ (t ∙ sym (nil_right w.told)))) here)
        snapped (Speaks' n t s i noted more f b) = by (f x.mark.client)
          where
            y : members.Image (told_of m w n s) t.notes x
            y = members.has_map (told_of m w n s) t.notes x (subst (λ (ts : List (Told m)). members.Has ts x) (cancel w.told replies (map (told_of m w n s) t.notes) (sym are ∙ more)) here)

            by : Turns m w v n t s x.mark.client → Says m (client m v x.mark.client) (told.Asked o q at a)
            by (inl z) =
                subst (λ (c : Client m). Says m c (told.Asked o q at a)) (sym z.1)
                (subst (Says m t.now) (sym (ap (λ (u : Told m). u.mark.what) y.is) ∙ is) (said t.now t.notes y.of (turned n (fit n) t i b).notes y.has))
            by (inr z) = absurd (z.2 (ap (λ (u : Told m). u.mark.client) y.is))

  new_fits : (k j : ℕ) → FitsOf k (new_client m h j)
  unfolding new_client
  new_fits k j = (λ e p page is less. absurd (no_some (Data page) is), λ p i. absurd i, tt)

  fit_at : (xs ys : Moves m) → ms ≡ xs ++ ys → AllFit (after m h xs)
  fit_at xs ys split = (run_at m h ms (λ s k c. FitsOf k c) (λ ts. Unit {0}) tt (λ ts us a b. tt) new_fits (λ s k c idle fits. fits) (λ xs e ys split n s fits t i b told now. ((turned xs ys e split n fits t i b).fits, tt)) xs ys split).clients

  -- what a client without work knows of a page below its view
  pub gives_up : KnownIsTheLogs m (after m h ms) (after m h ms) → (k p : ℕ) (page : List ℕ) → (client m end k).work ≡ None → p < upto m (client m end k) → known m (client m end k) p ≡ Some (Data page) → IsOwn m k page
  gives_up logs k p page free less is =
      let f = fit_at ms [] (sym (nil_right ms)) k in
      let c = client m end k in
      let own = num_in p c.own (f.0 free p page (ap (λ (o : Option (Work m)). cell_at (work_cells m o c.cells) p) (sym free) ∙ is) less) in
      let z = f.1 p own in
      let there = entry_there 0 (log m end) p z.entry (logs_by_position m end) (has_contained es (p, z.entry) z.here) in
      (z.entry, sym (ap cell_entry (logs k p (Data page) is)) ∙ there, z.commit, z.client)

  module _ (finds : ClientsFind m h ms (after m h ms)) where
    shaped : AllShaped m h.objects (entries_in m (after m h ms)) (after m h ms)
    shaped =
        let g = logs_keep_grammar m end in
        (at_end m (RightAndKept m h es (logs_rise m end) g.0) ms (start m h) (found_kept m h ms end g.0 g.1 r finds ends)).2

    -- a client without work whose transaction was asked has its view there
    stands_at : (k at : ℕ) → (client m end k).work ≡ None → Snapped m (client m end k) at → upto m (client m end k) ≡ at
    stands_at k at free y = by (client m end k).view refl
      where
        low : at ≤ upto m (client m end k)
        low = (snap_run m k ms (start m h) (start_book m h) (start_snap m h k)).idle y.of at y.tx y.snapshot free

        none : (a b : ℕ) → a ≤ b → b ≡ 0 → 0 ≡ a
        none a b le e = omega (arith, le, e)

        by : (v : Option (View m)) → (client m end k).view ≡ v → upto_in m v ≡ at
        by None is = none at (upto m (client m end k)) low (ap (λ (v : Option (View m)). upto_in m v) is)
        by (Some v) is = (idle_stands m h.objects (client m end k) (shaped k) free y.of at v directory y.tx y.snapshot is).stands

    -- the last step of the run
    pub asks_stand_at : (xs : Moves m) (e : EventOf m) → ms ≡ xs ++ Takes e ∷ [] → AsksStand m (after m h xs) e
    asks_stand_at xs e split k o q at a x =
        let y = snapped xs [] e split (fit_at xs (Takes e ∷ []) split) (happens m (after m h xs) e) x.says.replies x.says.are x.told (members.has_contained x.says.replies x.told x.says.here) o q at a x.holds (speaks m (after m h xs) e) in
        let z = subst (λ (j : ℕ). Says m (client m (happens m (after m h xs) e) j) (told.Asked o q at a)) x.client y in
        subst (λ (u : World m). Says m (client m u k) (told.Asked o q at a) → upto m (client m u k) ≡ at) (ap (λ (zs : Moves m). after m h zs) split ∙ run_on m xs (Takes e) (start m h)) (λ s. stands_at k at s.0 s.1) z
