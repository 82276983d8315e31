-- A record stands at or past where its transaction asked: the client that appends it has played up to there, and its token
-- isn't below what it has played.
use Rattle.std.proofs.Common.{◌≡◌, ◌⊎◌, ℕ, ◌≤◌, [], ◌++◌, true, false, refl, sym, ap, ◌∙◌, subst, inl, inr, arith, Some}
use Rattle.std.specs.Prelude.{Contains}
use Rattle.tg_base.specs.Clusters.{Header}
use Rattle.tg_base.specs.declared.ids.Oid.{Oid}
use Rattle.tg_base.specs.declared.marks.ReadMark.{ReadMark}
use Rattle.tg_entry.specs.declared.entry.Body.{Body}
use Rattle.tg_entry.specs.declared.entry.Entry.{Entry}
use Rattle.tg_entry.specs.Format.{tag_of}
use Rattle.tg_kind.specs.Meaning.{Meaning}
use Rattle.tg_model.specs.declared.trace.What.TheVariants as told
use Rattle.tg_model.specs.Kinds.{MarkOf}
use Rattle.tg_model.specs.Traces.{Tells}
use Rattle.tg_protocol.specs.Words.{numbers}
use Rattle.tg_entry.specs.Needs.{reads_in}
use Rattle.tg_protocol.specs.Entries.{is_commit}
use Rattle.tg_protocol.specs.Appending.{Append, Token}
use Rattle.tg_protocol.specs.Transactions.{Tx, commit_record}
use Rattle.tg_protocol.specs.Clients.{Purpose, Writes, Judged, Decides, Rescues, Saves, Marks, Task, Hand, Doing, Learning, Work, Client, new_client, upto}
use Rattle.tg_protocol.specs.ClientSteps.{task_in}
use Rattle.tg_protocol.specs.Worlds.{World, start, client, trace, log}
use Rattle.tg_protocol.specs.Runs.{Moves, Reaches, run}
use Rattle.tg_protocol.specs.Alike.{HasEntry}
use Rattle.tg_law_layouts.specs.Moves.After.{after}
use Rattle.tg_law_layouts.specs.Moves.Configs.{config}
use Rattle.tg_law_layouts.proofs.Moves.Lists.{at_map}
use Rattle.tg_law_layouts.proofs.Moves.Members.{Has as Has'}
use Rattle.tg_law_layouts.proofs.Moves.Scripts.{run_both}
use Rattle.tg_law_replies.proofs.History.Members.{Has, has_contained, contained_has, has_either}
use Rattle.tg_law_replies.proofs.Replies.Closed.{LeavesAlone}
use Rattle.tg_law_replies.specs.Books.Kept.{AsksPrecede}
use Rattle.tg_law_replies.proofs.Books.Effects.{IsEnd, IsRecord, Suits, SuitsPurpose}
use Rattle.tg_law_replies.proofs.Books.Turns.{DraftFor, DraftOf}
use Rattle.tg_law_replies.proofs.Books.Worlds.{WorldBook, run_book, start_book}
use Rattle.tg_law_walks.specs.Lists.Drafted.{DraftsFit}
use Rattle.tg_law_walks.specs.Lists.Spared.{TrimsWereSpare}
use Rattle.tg_law_walks.proofs.Lists.Fits.{drafts_fit}
use Rattle.tg_law_walks.proofs.Drafts.Became.{no_some, Holds}
use Rattle.tg_law_syncs.proofs.Known.FarHeld.{far_at}
use Rattle.tg_law_syncs.proofs.Known.FarTurns.{TaskKept}
use Rattle.tg_law_syncs.proofs.Known.Reaches.{Reached, Past, Told}
use Rattle.tg_law_syncs.proofs.Known.Telling.{far_hand}
use Rattle.tg_law_walks.proofs.Once.Along.{spent_at}
use Rattle.tg_law_walks.proofs.Once.Leaving.{LeftAt, leaving}
use Rattle.tg_law_walks.proofs.Once.Nowhere.{reached}
use Rattle.tg_law_walks.proofs.Once.Once.{Stands, put_there, stands}
use Rattle.tg_law_walks.proofs.Once.Owning.{records_own}
use Rattle.tg_law_walks.proofs.Once.Quieting.{Quiet, awaits_run, quiet_run}
use Rattle.tg_law_walks.proofs.Once.Refusing.{Awaits}
use Rattle.tg_law_walks.proofs.Once.Spending.{Put, put_among, Dead, InHand, OfKind}
use Rattle.tg_law_walks.proofs.Once.Turning.{tag_commit}
use Rattle.tg_law_syncs.specs.Follow.Laws.{AsksPrecedeBySpareTrims}
use Rattle.tg_law_syncs.proofs.Follow.Snapshots.{Snap, snap_run, start_snap}

module _ (m : Meaning) (h : Header) (zs : Moves m) (reach : Reaches m h zs (after m h zs)) (trims : TrimsWereSpare m h zs) where
  abbrev w : World m
  w = after m h zs

  fit : DraftsFit m w
  fit = drafts_fit m h zs w reach

  -- a token that a client has in hand isn't below its view
  module _ (xs ys : Moves m) (split : zs ≡ xs ++ ys) (k : ℕ) where
    abbrev c : Client m
    c = client m (after m h xs) k

    abbrev IsKept : Work m → Task m → Type 0
    IsKept u t = TaskKept m (log m w) (Reached m h zs reach trims fit (config m (after m h xs))) (Past m h zs reach trims fit (config m (after m h xs))) (Told m h zs reach trims fit (config m (after m h xs)) k) c u t

    pub token_past : (a : Append) → Holds m c a → (t : Token) → a.token ≡ Some t → upto m c ≤ t.pos
    token_past a o t is = (subst (IsKept o.work) o.holds (by o.work.hand refl)).1 t is
      where
        by : (d : Hand m) → o.work.hand ≡ d → IsKept o.work (task_in m d)
        by (Doing u) e = (far_hand m h zs reach trims fit xs ys split k ((far_at m h zs reach trims fit xs ys split).clients k) o.work (Doing u) o.has e).0
        by (Learning ws u) e = far_hand m h zs reach trims fit xs ys split k ((far_at m h zs reach trims fit xs ys split).clients k) o.work (Learning ws u) o.has e

  new_awaits : (k : ℕ) → Awaits m (new_client m h k)
  unfolding new_client
  new_awaits k v has = no_some v has

  start_awaits : (k : ℕ) → Awaits m (client m (start m h) k)
  unfolding start
  start_awaits k = at_map (new_client m h) (numbers h.clients 0) k (new_client m h k) (λ (x : Client m). Awaits m x) new_awaits (new_awaits k)

  -- nor does a page stand below it that wasn't given up, of an append that its client has in hand
  pub put_past : (xs ys : Moves m) → (split : zs ≡ xs ++ ys) → (k : ℕ) (a : Append) → (o : Holds m (client m (after m h xs) k) a) → (x : Put w.packets k) → Has' (after m h xs).packets x.packet → OfKind x.entry a.draft → (Dead m w x.epoch x.pos x.page → ⊥)
      → upto m (client m (after m h xs) k) ≤ x.pos
  put_past xs ys split k a o x sent kind kept = by (((spent_at m h zs reach xs ys split).of k).hands a o (put_among (after m h xs).packets w.packets k x sent) kind)
    where
      by : Dead m w x.epoch x.pos x.page ⊎ InHand m (client m (after m h xs) k) a x.epoch x.pos x.page → upto m (client m (after m h xs) k) ≤ x.pos
      by (inl d) = absurd (kept d)
      by (inr i) = let b = token_past xs ys split k a o i.of i.has in let at = i.pos in omega (arith, b, at)

  -- A record that was left.

  module _ (p : ℕ) (e : Entry) (entry : HasEntry m w p e) (st : Stands m h zs reach p e) (commit : is_commit e ≡ true) (a : LeftAt m h zs reach zs e.head.client st.put.packet e) where
    abbrev k : ℕ
    k = e.head.client

    abbrev v : World m
    v = after m h a.before

    books : WorldBook m v
    books = run_book m a.before (start m h) (start_book m h)

    snap : Snap m (trace m v) k (client m v k)
    snap = snap_run m k a.before (start m h) (start_book m h) (start_snap m h k)

    later : w ≡ run m a.mid v
    later = ap (λ (ms : Moves m). run m ms (start m h)) a.split ∙ run_both m a.before a.mid (start m h)

    view_past : upto m (client m v k) ≤ p
    view_past = put_past a.before a.mid a.split k a.append a.holds (put_there m h zs reach k p e st refl) a.sent (ap (λ (d : Entry). tag_of d.body) a.is, ap (λ (d : Entry). d.head.number) a.is) st.kept

    module _ (o : Oid) (q : m.ask) (s : ℕ) (b : m.answer) (tells : Tells m (trace m w) k e.head.number (told.Asked o q s b)) where
      -- of the transaction that is open there
      of_tx : (t : Tx) → (client m v k).tx ≡ Some t → a.append.draft ≡ commit_record t k → IsEnd m a.holds.work.command → IsRecord m a.holds.purpose → s ≤ p
      unfolding commit_record
      of_tx t is draft end rec = by (has_either (trace m v) a.since u (subst (λ tr. Has tr u) a.traced (has_contained (trace m w) u tells.here)))
        where
          number : e.head.number ≡ t.number
          number = ap (λ (d : Entry). d.head.number) a.is ∙ ap (λ (d : Entry). d.head.number) draft

          u : MarkOf m
          u = record { event = tells.event; client = k; tx = e.head.number; what = told.Asked o q s b }

          quiet : Quiet m t.number (client m v k)
          quiet = (((books k).number t is).1, λ x at n. (a.holds.work, a.holds.has, end))

          alone : LeavesAlone m [] [] k t.number a.since
          alone = quiet_run m k t.number ((books k).number t is).0 a.mid v a.since books (ap (trace m) (sym later) ∙ a.traced) (λ y limit i at n what. a.never y limit i at (n ∙ sym number) what)
              (awaits_run m k a.before (start m h) (start_book m h) (start_awaits k)) quiet

          old : Has (trace m v) u → Tells m (trace m v) k t.number (told.Asked o q s b)
          old i = subst (λ n. Tells m (trace m v) k n (told.Asked o q s b)) number (record { number = tells.number; event = tells.event; here = contained_has (trace m v) u i })

          by : Has (trace m v) u ⊎ Has a.since u → s ≤ p
          by (inl i) =
              let at = snap.told t o q s b is (old i) in
              let le = snap.hand t s a.holds.work a.append a.holds.purpose is at a.holds.has a.holds.holds rec in
              let past = view_past in
              omega (arith, le, past)
          by (inr i) = absurd (alone u i refl number)

      no_reads : e.body ≡ a.append.draft.body → reads_in a.append.draft.body ≡ [] → s ≤ p
      no_reads body none =
          let r = (records_own m h zs w reach trims.safe p e entry commit).read o (m.look q) (record { ask = q; at = s; answer = b; asked = tells; looks = refl }) in
          absurd (nothing (subst (λ rs. Contains rs r.read) (ap reads_in body ∙ none) r.here))
        where
          nothing : {x : ReadMark} → Contains [] x → ⊥
          nothing i = let l = i.1 in omega (arith, l)

      pub asked_below : s ≤ p
      asked_below = by a.holds.purpose refl (subst (DraftOf m k (trace m v) (client m v k).tx (client m v k).begun) a.holds.holds ((books k).drafts a.holds.work a.holds.has)) (subst (Suits m a.holds.work.command) a.holds.holds ((books k).suits a.holds.work a.holds.has))
        where
          committed : is_commit a.append.draft ≡ true
          committed = ap (λ (x : Entry). is_commit x) (sym a.is) ∙ commit

          never : false ≡ true → ⊥
          never z = cc

          body : e.body ≡ a.append.draft.body
          body = ap (λ (x : Entry). x.body) a.is

          by : (y : Purpose m) → a.holds.purpose ≡ y → DraftFor m k (trace m v) (client m v k).tx (client m v k).begun a.append.draft y → SuitsPurpose m a.holds.work.command y → s ≤ p
          by Writes is x end = of_tx x.of x.is x.draft end (subst (IsRecord m) (sym is) tt)
          by Judged is x end = of_tx x.of x.is x.draft end (subst (IsRecord m) (sym is) tt)
          by (Marks n i j) is x end = no_reads body (ap (λ (z : Body). reads_in z) x.draft.2)
          by (Decides what) is x end = absurd (never (sym x ∙ committed))
          by (Rescues what) is x end = absurd (never (sym x ∙ committed))
          by (Saves i n) is x end = absurd (never (sym x ∙ committed))

  asks_here : AsksPrecede m w
  asks_here k x p s o q b tells has = by ((leaving m h zs reach).of e.head.client (put_there m h zs reach e.head.client p e st refl) (tag_commit e.body e refl has.commit))
    where
      e : Entry
      e = has.record_at

      st : Stands m h zs reach p e
      st = stands m h zs reach trims.safe p e has.here

      here : Tells m (trace m w) e.head.client e.head.number (told.Asked o q s b)
      here = subst (λ n. Tells m (trace m w) n e.head.number (told.Asked o q s b)) (sym has.of_client) (subst (λ n. Tells m (trace m w) k n (told.Asked o q s b)) (sym has.of_number) tells)

      by : Dead m w st.epoch p st.page ⊎ LeftAt m h zs reach zs e.head.client st.put.packet e → s ≤ p
      by (inl d) = absurd (st.kept d)
      by (inr a) = asked_below p e has.here st has.commit a o q s b here

module _ (m : Meaning) where
  pub records_follow_asks : AsksPrecedeBySpareTrims m
  records_follow_asks h ms v r trims = subst (λ (u : World m). AsksPrecede m u) (sym r.goes.is) (asks_here m h ms (reached m h ms v r) trims)
