-- An append of a record that ends stands where it says, and one that it forgot stands nowhere else.
use Rattle.std.proofs.Common.{◌≡◌, ◌⊎◌, ℕ, ◌<◌, List, length, [], ◌∷◌, ◌++◌, Bool, true, false, refl, sym, ap, ◌∙◌, subst, inl, inr, arith, Option, Some, None, Contains}
use Rattle.std.specs.Prelude.{slice_get}
use Rattle.tg_base.specs.Clusters.{Header}
use Rattle.tg_base.specs.declared.cell.Cell.{Cell}
use Rattle.tg_base.specs.declared.cell.Cell.TheVariants.{Data}
use Rattle.tg_base.specs.declared.ids.NodeId.{NodeId}
use Rattle.tg_base.specs.declared.ids.Role.{Role}
use Rattle.tg_base.specs.declared.marks.StreamLink.{StreamLink}
use Rattle.tg_base.specs.declared.packet.Packet.{Packet}
use Rattle.tg_entry.specs.declared.entry.Entry.{Entry}
use Rattle.tg_entry.specs.Format.{tag_of, entry}
use Rattle.tg_append.proofs.Pages.{linked_fits}
use Rattle.tg_kind.specs.Meaning.{Meaning}
use Rattle.tg_model.specs.declared.command.Event.TheVariants.{Deliver}
use Rattle.tg_model.specs.Kinds.{EventOf}
use Rattle.tg_protocol.specs.Words.{client_id}
use Rattle.tg_protocol.specs.Entries.{is_commit}
use Rattle.tg_entry.specs.Records.{linked}
use Rattle.tg_protocol.specs.Pages.{entry_of, entry_in}
use Rattle.tg_protocol.specs.Requests.{Next, Goes, Learns, Ends, Turn}
use Rattle.tg_protocol.specs.Replies.{reply}
use Rattle.tg_protocol.specs.Cells.{Place, place_in, Done}
use Rattle.tg_protocol.specs.Appending.{AppendWork, Putting, Judging, Token, Append, AppendEnd, At, Full, Forgotten}
use Rattle.tg_protocol.specs.Transactions.{Tx}
use Rattle.tg_protocol.specs.Clients.{Purpose, Writes, Judged, Decides, Rescues, Saves, Marks, Appending, Doing, Work, Client, new_client}
use Rattle.tg_protocol.specs.Answers.{Moved}
use Rattle.tg_protocol.specs.ClientSteps.{task_asks, task_in, after_turn, met, append_ended, append_to, on_append, feed, called, client_deliver}
use Rattle.tg_protocol.specs.Logs.{Log, entries_of}
use Rattle.tg_protocol.specs.Views.{entry_if}
use Rattle.tg_protocol.specs.Worlds.{World, start, client, log, trace, runs, client_turned, moves, comes, handed, delivers, counted, happens}
use Rattle.tg_protocol.specs.Runs.{Moves, Takes, Reaches, run}
use Rattle.tg_law_layouts.specs.Moves.After.{after}
use Rattle.tg_law_layouts.specs.Moves.Configs.{config, client_in}
use Rattle.tg_law_layouts.proofs.Moves.Lists.{contained}
use Rattle.tg_law_layouts.proofs.Moves.Members.{Has, has_got, has_contained}
use Rattle.tg_law_layouts.proofs.Moves.Scripts.{run_both}
use Rattle.tg_law_layouts.proofs.Layouts.Layouts.{stays_sent}
use Rattle.tg_law_layouts.proofs.Layouts.Deciding.{layouts_are_known}
use Rattle.tg_law_cells.specs.Cells.Settled.{IsSettled}
use Rattle.tg_law_cells.proofs.Cells.Justified.{EndOk}
use Rattle.tg_law_cells.proofs.Cells.Jobs.{JobOk, AppendOk}
use Rattle.tg_law_cells.proofs.Tokens.Linked.{read_back}
use Rattle.tg_law_cells.specs.Entries.Archive.{TrimsWereSafe}
use Rattle.tg_law_cells.proofs.Entries.Archive.{log_is_settled}
use Rattle.tg_law_replies.specs.Replies.Ended.{end_of, work_ends, ended_in, EndsSo, AppendsEnd}
use Rattle.tg_law_replies.specs.Books.Kept.{RecordEndsSo, RecordsEnd}
use Rattle.tg_law_replies.proofs.Books.Effects.{IsRecord}
use Rattle.tg_law_replies.proofs.Books.Closing.{Only, None', DraftsAre}
use Rattle.tg_law_replies.proofs.Books.Records.{in_hand}
use Rattle.tg_law_replies.proofs.Books.Turns.{BookOf, DraftFor, DraftOf}
use Rattle.tg_law_replies.proofs.Books.Worlds.{compare, set_same, declared, delivered_as, run_only, run_next, step_book}
use Rattle.tg_law_replies.specs.History.Worlds.{entries_in}
use Rattle.tg_law_walks.proofs.Drafts.Became.{no_some, same_some, Holds}
use Rattle.tg_law_walks.proofs.Drafts.Written.{draft_in, then_takes}
use Rattle.tg_law_walks.proofs.Once.Feeding.{TokenOk, FedSo, fed_so, EndedSo}
use Rattle.tg_law_walks.proofs.Once.Feeding as feeding
use Rattle.tg_law_walks.proofs.Once.Awaited.{turned, work_end, Delivers, delivery}
use Rattle.tg_law_walks.proofs.Once.Turning.{tag_commit, record_number}
use Rattle.tg_law_walks.proofs.Once.Nowhere.{reached}
use Rattle.tg_law_walks.proofs.Once.Reached.{header, give, short, reach_at, ends_settle, append_ok, claims_of}
use Rattle.tg_law_walks.proofs.Once.Spending.{put_among, whole, Dead, InHand, SpentOf, OfKind}
use Rattle.tg_law_walks.proofs.Once.Along.{spent_at}
use Rattle.tg_law_walks.proofs.Once.Leaving.{LeftAt, leaving, books}
use Rattle.tg_law_walks.proofs.Once.Once.{Stands, put_there, stands as stood}

-- the entry of a page that a log has
entry_has : (l : Log) (p : ℕ) (d : List ℕ) (e : Entry) → Has l (p, Data d) → entry_of d ≡ Some e → Has (entries_of l) (p, e)
unfolding entries_of
entry_has [] p d e i reads = absurd i
entry_has (x ∷ l) p d e (inl same) reads = subst (λ (y : ℕ × Cell). Has (entry_if y.0 (entry_in y.1) (entries_of l)) (p, e)) same (subst (λ (o : Option Entry). Has (entry_if p o (entries_of l)) (p, e)) (sym reads) (inl refl))
entry_has (x ∷ l) p d e (inr i) reads = more (entry_in x.1) (entry_has l p d e i reads)
  where
    more : (o : Option Entry) → Has (entries_of l) (p, e) → Has (entry_if x.0 o (entries_of l)) (p, e)
    more None g = g
    more (Some y) g = inr g

module _ (m : Meaning) (h : Header) (zs : Moves m) (reach : Reaches m h zs (after m h zs)) where
  abbrev w : World m
  w = after m h zs

  -- How a step ends an append.

  module _ (xs ys : Moves m) (split : zs ≡ xs ++ ys) (k : ℕ) (a : Append) (o : Holds m (client m (after m h xs) k) a) (ok : TokenOk a) where
    abbrev c : Client m
    c = client m (after m h xs) k

    abbrev ps : List Packet
    ps = (after m h xs).packets

    so_ended : (n : Next Append AppendEnd) (x : AppendEnd) → FedSo ps a n → end_of n ≡ Some x → EndedSo ps a x
    so_ended (Goes b) x f e = no_some x e
    so_ended (Learns b) x f e = no_some x e
    so_ended (Ends y) x f e = subst (EndedSo ps a) (same_some y x e) f

    -- an answer that it awaits ends it
    pub record Ended (x : AppendEnd) : Type 0 where
      pub doing : o.work.hand ≡ Doing (Appending a o.purpose)
      pub so : EndedSo ps a x

    work_ended : (p : Packet) → Has ps p → p.to ≡ client_id k → (x : AppendEnd) → work_ends m c c.work p.from p.rid (reply p.msg) ≡ Some x → Ended x
    unfolding task_asks
    work_ended p sent to x e =
        let r = work_end m c a o p.from p.rid (reply p.msg) x e in
        record {
          doing = r.doing;
          so = so_ended (turned m c a o p.from p.rid (reply p.msg)).to x
              (fed_so ps c.stand a p.from.num p.msg c.next ok (append_ok m h zs reach xs ys split k a o r.doing) (claims_of m h zs reach xs ys split k a o r.doing p (record { sent = sent; to_node = to }) r.awaited))
              r.ends;
        }

    pub ended_so : (e : EventOf m) (x : AppendEnd) → ended_in m (after m h xs) e k ≡ Some x → Ended x
    ended_so e x is = let d = delivery m (after m h xs) k e x is in work_ended d.packet (has_got ps d.index d.packet d.got) d.to x d.ends

    -- An append that has ended at a position, whose draft has a spelling.

    pub landed : TrimsWereSafe m h zs → o.work.hand ≡ Doing (Appending a o.purpose) → (p : ℕ) (d : List ℕ) → feeding.Lands ps a p d → entry.fits a.draft ≡ true → (ls : List StreamLink) × Contains (entries_in m w) (p, linked a.draft ls)
    landed safe doing p d l spelled =
        let drawn = ((spent_at m h zs reach xs ys split).of k).drawn a o l.of l.had in
        let fits = linked_fits a.draft drawn.0 drawn.1 spelled in
        let reads = read_back (linked a.draft drawn.0) l.of.page fits drawn.2 in
        let here = (log_is_settled m h zs w reach safe).has p (Data l.of.page) settled in
        (drawn.0, contained (entries_in m w) (p, linked a.draft drawn.0) (entry_has (log m w) p l.of.page (linked a.draft drawn.0) (has_contained (log m w) (p, Data l.of.page) here) reads))
      where
        -- the machine stands in the client's layout
        job : (a.work ≡ Putting l.job) ⊎ (a.work ≡ Judging l.job) → JobOk ps c.stand l.job
        job (inl is) = subst (λ (z : AppendWork). AppendOk ps c.stand z) is (append_ok m h zs reach xs ys split k a o doing)
        job (inr is) = subst (λ (z : AppendWork). AppendOk ps c.stand z) is (append_ok m h zs reach xs ys split k a o doing)

        place : l.job.place ≡ place_in c.stand p
        place = (job l.works).place ∙ ap (λ (n : ℕ). place_in c.stand n) (l.pos ∙ sym l.at)

        settled : IsSettled m w p (Data l.of.page)
        settled = ends_settle m h zs reach xs ys split c.stand ((layouts_are_known m h xs (after m h xs) (reach_at m h zs reach xs ys split)).clients k) p (Data l.of.page) (subst (λ (z : Place). EndOk ps z (Done (Data l.of.page))) place l.told)

    -- A record that was forgotten.

    -- nothing waits any more, and its transaction isn't open
    pub record Shut (r : Moved m) : Type 0 where
      pub idle : r.now.work ≡ None
      pub begun : r.now.begun ≡ c.begun
      pub open' : (t : Tx) → r.now.tx ≡ Some t → (c.tx ≡ Some t) × (IsRecord m o.purpose → ⊥)

    book : BookOf m k (trace m (after m h xs)) c
    book = books m h zs reach xs k

    module _ (commit : is_commit a.draft ≡ true) (p below : ℕ) where
      no_commit : {X : Type 0} → is_commit a.draft ≡ false → X
      no_commit e = absurd (isnt (sym e ∙ commit))
        where
          isnt : false ≡ true → ⊥
          isnt z = cc

      forgotten_end : (d : Client m) (v : Work m) → d.tx ≡ c.tx → d.begun ≡ c.begun → Shut (append_ended m d v o.purpose (Forgotten p below))
      forgotten_end d v tx begun = by o.purpose refl (subst (DraftOf m k (trace m (after m h xs)) c.tx c.begun) o.holds (book.drafts o.work o.has))
        where
          closed_tx : {X : Type 0} (t : Tx) → None ≡ Some t → X
          closed_tx t e = no_some t e

          marks_no : (n : ℕ) (i : _) (j : ℕ) → o.purpose ≡ Marks n i j → IsRecord m o.purpose → ⊥
          marks_no n i j is r = subst (IsRecord m) is r

          by : (z : Purpose m) → o.purpose ≡ z → DraftFor m k (trace m (after m h xs)) c.tx c.begun a.draft z → Shut (append_ended m d v z (Forgotten p below))
          by Writes is x = record { idle = refl; begun = begun; open' = λ t e. closed_tx t e }
          by Judged is x = record { idle = refl; begun = begun; open' = λ t e. closed_tx t e }
          by (Marks n i j) is x = record { idle = refl; begun = begun; open' = λ t e. (sym tx ∙ e, marks_no n i j is) }
          by (Decides what) is x = no_commit x
          by (Rescues what) is x = no_commit x
          by (Saves i u) is x = no_commit x

      forgotten_append : (u : Turn Append AppendEnd) → end_of u.to ≡ Some (Forgotten p below) → Shut (on_append m c o.work o.purpose u)
      forgotten_append u = by u.to
        where
          by : (n : Next Append AppendEnd) → end_of n ≡ Some (Forgotten p below) → Shut (append_to m (after_turn m c u) (met m o.work u) o.purpose u.besides n)
          by (Goes b) e = no_some (Forgotten p below) e
          by (Learns b) e = no_some (Forgotten p below) e
          by (Ends y) e = subst (λ (z : AppendEnd). Shut (append_ended m (after_turn m c u) (met m o.work u) o.purpose z)) (sym (same_some y (Forgotten p below) e)) (forgotten_end (after_turn m c u) (met m o.work u) refl refl)

      pub forgotten_feed : (q : Packet) → work_ends m c c.work q.from q.rid (reply q.msg) ≡ Some (Forgotten p below) → Shut (feed m c c.work q.from q.rid (reply q.msg))
      forgotten_feed q e = let r = work_end m c a o q.from q.rid (reply q.msg) (Forgotten p below) e in subst Shut (sym r.moved) (forgotten_append (turned m c a o q.from q.rid (reply q.msg)) r.ends)

  -- A delivery to a client.

  client_moved : (v : World m) (i : ℕ) (p : Packet) (k : ℕ) → slice_get v.packets i ≡ Some p → p.to ≡ client_id k → runs m v p.to ≡ true
      → client m (happens m v (Deliver i)) k ≡ called m (feed m (client m v k) (client m v k).work p.from p.rid (reply p.msg)).now
  unfolding happens client_turned
  client_moved v i p k got to on =
      ap (λ (q : Option Packet). client m (counted m (delivers m v i q)) k) got
      ∙ (ap (λ (b : Bool). client m (counted m (comes m b (handed m v i) p)) k) on
      ∙ (ap (λ (r : Role). client m (counted m (moves m (handed m v i) p r)) k) (ap (λ (n : NodeId). n.role) to)
      ∙ (ap (λ (n : ℕ). client m (client_turned m (handed m v i) n (client_deliver m (client m v n) p.from p.rid p.msg)) k) (ap (λ (n : NodeId). n.num) to)
      ∙ (set_same v.clients k (client_deliver m (client m v k) p.from p.rid p.msg).now (new_client m v.cluster k) (subst (λ (n : ℕ). n < length v.clients) (ap (λ (n : NodeId). n.num) to) (declared m v p.to (ap (λ (n : NodeId). n.role) to) on))
      ∙ delivered_as m (client m v k) p))))

  -- Each append that ends.

  module _ (safe : TrimsWereSafe m h zs) (xs : Moves m) (rest : Moves m) (e : EventOf m) (split : zs ≡ xs ++ Takes e ∷ rest) (k : ℕ) (a : Append) (o : Holds m (client m (after m h xs) k) a) where
    abbrev tail : Moves m
    tail = Takes e ∷ rest

    s : SpentOf m w (after m h xs).packets k (client_in m (config m (after m h xs)) k)
    s = (spent_at m h zs reach xs tail split).of k

    now : after m h (xs ++ Takes e ∷ []) ≡ happens m (after m h xs) e
    now = then_takes m h xs e

    only : (commit : is_commit a.draft ≡ true) (p below : ℕ) → Delivers m (after m h xs) k e (Forgotten p below) → Only m a.draft.head.number (None' m) (client m (happens m (after m h xs) e) k)
    only commit p below d = subst (Only m a.draft.head.number (None' m)) (sym moved) (
      let b = shut.begun in let n = record_number m k (trace m (after m h xs)) (client m (after m h xs) k) (books m h zs reach xs k) a o commit in omega (arith, b, n),
      λ t is number. other t (shut.open' t is) number,
      λ v is. no_some v (sym shut.idle ∙ is),
    )
      where
        shut : Shut xs tail split k a o (s.tokens a o) (feed m (client m (after m h xs) k) (client m (after m h xs) k).work d.packet.from d.packet.rid (reply d.packet.msg))
        shut = forgotten_feed xs tail split k a o (s.tokens a o) commit p below d.packet d.ends

        moved : client m (happens m (after m h xs) e) k ≡ called m (feed m (client m (after m h xs) k) (client m (after m h xs) k).work d.packet.from d.packet.rid (reply d.packet.msg)).now
        moved = ap (λ (y : EventOf m). client m (happens m (after m h xs) y) k) d.event ∙ client_moved (after m h xs) d.index d.packet k d.got d.to d.on

        other : (t : Tx) → ((client m (after m h xs) k).tx ≡ Some t) × (IsRecord m o.purpose → ⊥) → t.number ≡ a.draft.head.number → ⊥
        other t x number = by o.purpose refl (subst (DraftOf m k (trace m (after m h xs)) (client m (after m h xs) k).tx (client m (after m h xs) k).begun) o.holds ((books m h zs reach xs k).drafts o.work o.has))
          where
            isnt : false ≡ true → ⊥
            isnt z = cc

            by : (z : Purpose m) → o.purpose ≡ z → DraftFor m k (trace m (after m h xs)) (client m (after m h xs) k).tx (client m (after m h xs) k).begun a.draft z → ⊥
            by Writes is y = x.1 (subst (IsRecord m) (sym is) tt)
            by Judged is y = x.1 (subst (IsRecord m) (sym is) tt)
            by (Marks n i j) is y = let less = y.later t x.0 in let same = y.draft.1 in omega (arith, less, same, number)
            by (Decides what) is y = isnt (sym y ∙ commit)
            by (Rescues what) is y = isnt (sym y ∙ commit)
            by (Saves i u) is y = isnt (sym y ∙ commit)

    -- a record that was forgotten stands nowhere else
    nowhere_else : (p below : ℕ) → Delivers m (after m h xs) k e (Forgotten p below) → feeding.Forgets (after m h xs).packets a p → RecordEndsSo m (entries_in m w) a.draft (Forgotten p below)
    nowhere_else p below d f q y i commit mine same number = by ((leaving m h zs reach).of k (put_there m h zs reach k q y z client_is) tag)
      where
        z : Stands m h zs reach q y
        z = stood m h zs reach safe q y i

        tag : tag_of y.body ≡ 1
        tag = tag_commit y.body y refl mine

        client_is : y.head.client ≡ k
        client_is = same ∙ (draft_in m h zs (header m h zs reach) (give m h zs reach) (short m h zs reach) xs tail split k a o).client

        kind : OfKind y a.draft
        kind = (tag ∙ sym (tag_commit a.draft.body a.draft refl commit), number)

        in_hand' : Dead m w z.epoch q z.page ⊎ InHand m (client_in m (config m (after m h xs)) k) a z.epoch q z.page → q ≡ p
        in_hand' (inl dead) = absurd (z.kept dead)
        in_hand' (inr c) = c.pos ∙ (ap (λ (v : Token). v.pos) (same_some c.of f.of (sym c.has ∙ f.had)) ∙ sym f.at)

        left : LeftAt m h zs reach zs k z.put.packet y → q ≡ p
        left l = from (compare l.before l.mid xs rest (Takes e) (sym l.split ∙ split))
          where
            from : ((mid : Moves m) × (xs ≡ l.before ++ mid)) ⊎ ((mid : Moves m) × (l.before ≡ xs ++ Takes e ∷ mid)) → q ≡ p
            from (inl j) =
                let sent = subst (λ (v : World m). Has v.packets z.put.packet) (sym (ap (λ (ms : Moves m). after m h ms) j.1 ∙ run_both m l.before j.0 (start m h))) (stays_sent m j.0 (after m h l.before) z.put.packet l.sent) in
                in_hand' (s.hands a o (put_among (after m h xs).packets w.packets k (put_there m h zs reach k q y z client_is) sent) kind)
            from (inr j) = absurd (drafts l.holds.work l.holds.has)
              where
                later : after m h l.before ≡ run m j.0 (happens m (after m h xs) e)
                later = ap (λ (ms : Moves m). after m h ms) j.1 ∙ (run_both m xs (Takes e ∷ j.0) (start m h) ∙ run_next m e j.0 (after m h xs))

                none : Only m a.draft.head.number (None' m) (client m (after m h l.before) k)
                none = subst (λ (v : World m). Only m a.draft.head.number (None' m) (client m v k)) (sym later) (run_only m k a.draft.head.number (None' m) j.0 (happens m (after m h xs) e) (step_book m (after m h xs) e (books m h zs reach xs)) (only commit p below d))

                drafts : (v : Work m) → (client m (after m h l.before) k).work ≡ Some v → ⊥
                drafts v is =
                    let here = subst (λ (u : Work m). DraftsAre m a.draft.head.number (None' m) (task_in m u.hand)) (same_some v l.holds.work (sym is ∙ l.holds.has)) (none.2 v is) in
                    subst (DraftsAre m a.draft.head.number (None' m)) l.holds.holds here
                    (ap (λ (u : Entry). is_commit u) (sym l.is) ∙ mine) (ap (λ (u : Entry). u.head.number) (sym l.is) ∙ number)

        by : Dead m w z.epoch q z.page ⊎ LeftAt m h zs reach zs k z.put.packet y → q ≡ p
        by (inl dead) = absurd (z.kept dead)
        by (inr l) = left l

    -- where drafts have a spelling, whatever they are of
    pub all_ends_so : entry.fits a.draft ≡ true → (x : AppendEnd) → ended_in m (after m h xs) e k ≡ Some x → EndsSo m (entries_in m w) a.draft x
    all_ends_so spelled (At p d) is = let f = ended_so xs tail split k a o (s.tokens a o) e (At p d) is in landed xs tail split k a o (s.tokens a o) safe f.doing p d f.so spelled
    all_ends_so spelled (Full l) is = tt
    all_ends_so spelled (Forgotten p below) is = nowhere_else p below (delivery m (after m h xs) k e (Forgotten p below) is) (ended_so xs tail split k a o (s.tokens a o) e (Forgotten p below) is).so

    pub ends_so : (x : AppendEnd) → ended_in m (after m h xs) e k ≡ Some x → RecordEndsSo m (entries_in m w) a.draft x
    ends_so (At p d) is = let f = ended_so xs tail split k a o (s.tokens a o) e (At p d) is in λ commit. landed xs tail split k a o (s.tokens a o) safe f.doing p d f.so (whole m a.draft (draft_in m h zs (header m h zs reach) (give m h zs reach) (short m h zs reach) xs tail split k a o).fits (tag_commit a.draft.body a.draft refl commit))
    ends_so (Full l) is = tt
    ends_so (Forgotten p below) is = nowhere_else p below (delivery m (after m h xs) k e (Forgotten p below) is) (ended_so xs tail split k a o (s.tokens a o) e (Forgotten p below) is).so

  pub all_end_here : ((k : ℕ) (xs ys : Moves m) (a : Append) → zs ≡ xs ++ ys → Holds m (client m (after m h xs) k) a → entry.fits a.draft ≡ true) → TrimsWereSafe m h zs → AppendsEnd m h zs w
  all_end_here spelled safe before rest e split k a x has is =
      let y = in_hand m (client m (after m h before) k) a has in
      let o : Holds m (client m (after m h before) k) a = record { work = y.work; purpose = y.purpose; has = y.works; holds = y.task } in
      all_ends_so safe before rest e split k a o (spelled k before (Takes e ∷ rest) a split o) x is

  pub ends_here : TrimsWereSafe m h zs → RecordsEnd m h zs w
  ends_here safe before rest e split k a x has is =
      let y = in_hand m (client m (after m h before) k) a has in
      ends_so safe before rest e split k a (record { work = y.work; purpose = y.purpose; has = y.works; holds = y.task }) x is

module _ (m : Meaning) where
  pub appends_end : (h : Header) (ms : Moves m) (v : World m) → Reaches m h ms v → TrimsWereSafe m h ms → RecordsEnd m h ms v
  appends_end h ms v r safe = subst (λ (u : World m). RecordsEnd m h ms u) (sym r.goes.is) (ends_here m h ms (reached m h ms v r) safe)
