-- Over a run: each record that marks an object stands past a checkpoint of it that reaches the mark; so what stands below a floor is
-- saved.
use Rattle.std.proofs.Common.{◌≡◌, ◌⊎◌, ℕ, ◌<◌, ◌≤◌, List, [], ◌∷◌, Bool, true, false, refl, sym, ap, ◌∙◌, subst, inl, inr, arith, Some}
use Rattle.std.specs.Prelude.{Contains}
use Rattle.tg_base.specs.Clusters.{Header}
use Rattle.tg_base.specs.declared.ids.Oid.{Oid}
use Rattle.tg_entry.specs.Format.{tag_of}
use Rattle.tg_entry.specs.Needs.{writes_of}
use Rattle.tg_entry.specs.Records as records
use Rattle.tg_entry.specs.declared.entry.Body.{Body}
use Rattle.tg_entry.specs.declared.entry.Body.TheVariants.{Commit, Decision, Checkpoint}
use Rattle.tg_entry.specs.declared.entry.Entry.{Entry}
use Rattle.tg_entry.specs.declared.entry.Head.{Head}
use Rattle.tg_entry.specs.declared.entry.WriteOp.{WriteOp}
use Rattle.tg_kind.specs.Meaning.{Meaning}
use Rattle.tg_protocol.specs.Words.{directory}
use Rattle.tg_protocol.specs.Entries.{is_commit, lists}
use Rattle.tg_protocol.specs.Checkpoints.{base_at}
use Rattle.tg_protocol.specs.Transactions.{Tx, commit_record}
use Rattle.tg_protocol.specs.Clients.{Purpose, Writes, Judged, Decides, Rescues, Saves, Marks, Client, upto}
use Rattle.tg_protocol.specs.ClientSteps.{task_in}
use Rattle.tg_protocol.specs.Worlds.{World, start, client, trace}
use Rattle.tg_protocol.specs.Runs.{Moves, Reaches}
use Rattle.tg_protocol.specs.Alike.{HasEntry}
use Rattle.tg_law_layouts.specs.Moves.After.{after}
use Rattle.tg_law_layouts.specs.Moves.Configs.{config}
use Rattle.tg_law_replies.specs.History.Logs.{state_below}
use Rattle.tg_law_replies.specs.History.Worlds.{entries_in}
use Rattle.tg_law_replies.specs.History.Floors.{IsCheckpointed, MarksAreKept, AreRegistered}
use Rattle.tg_law_replies.specs.History.Loading.{AreOpsOf}
use Rattle.tg_law_replies.proofs.History.Floors.{floors_are_safe}
use Rattle.tg_law_replies.proofs.History.Cells.{logs_rise}
use Rattle.tg_law_replies.proofs.History.Members.{Has, has_contained}
use Rattle.tg_law_layouts.proofs.Moves.Members as moves
use Rattle.tg_law_replies.proofs.Views.Plays.{fresh_true}
use Rattle.tg_law_replies.specs.Replies.Ended.{AppendsEnd}
use Rattle.tg_law_replies.specs.Replies.Laws.{ClientsFind}
use Rattle.tg_law_replies.proofs.Replies.Along.{Along, passed}
use Rattle.tg_law_replies.proofs.Books.Turns.{DraftFor, DraftOf}
use Rattle.tg_law_replies.proofs.Books.Worlds.{WorldBook, run_book, start_book}
use Rattle.tg_law_walks.specs.Lists.Spared.{TrimsWereSpare}
use Rattle.tg_law_syncs.specs.Finds.Left.{SavesPrecede}
use Rattle.tg_law_walks.proofs.Once.Leaving.{LeftAt, leaving}
use Rattle.tg_law_walks.proofs.Once.Once as once
use Rattle.tg_law_walks.proofs.Once.Once.{put_there, stands}
use Rattle.tg_law_walks.proofs.Once.Spending.{Dead}
use Rattle.tg_law_walks.proofs.Once.Turning.{tag_commit}
use Rattle.tg_law_syncs.proofs.Follow.Asks.{put_past}
use Rattle.tg_law_headline.specs.Trims.Floors.{floor_at}
use Rattle.tg_law_headline.specs.AllKinds.Directories.{DirectoryLaws}
use Rattle.tg_law_headline.specs.Registered.Marked.{WhereMarksMark, MarksFollowCheckpoints, FloorsSave}
use Rattle.tg_law_headline.proofs.Registered.Grounds.{TaskGrounded, WorkGrounded, MarksKept}
use Rattle.tg_law_headline.proofs.Registered.Roots.{Past, Held, Q, held_along, entries_registered}

one_op : {X : Type 0} (a b : X) → Some a ≡ Some b → a ≡ b
one_op a b e = cc

-- what writes is a commit record
writing : (head : Head) (b : Body) (x : WriteOp) → Has (writes_of (record { head = head; body = b })) x → is_commit (record { head = head; body = b }) ≡ true
writing head (Commit rs ws) x i = refl
writing head (Decision p so) x i = absurd i
writing head (Checkpoint o u v t ks s) x i = absurd i

module _ (m : Meaning) (is_object : Oid → Bool) (is_op : m.op → Bool) (laws : DirectoryLaws m is_object is_op) (objects : (o : Oid) → records.is_object o ≡ true → is_object o ≡ true)
    (h : Header) (zs : Moves m) (r : Reaches m h zs (after m h zs)) (trims : TrimsWereSpare m h zs) (found_all : ClientsFind m h zs (after m h zs)) (ends : AppendsEnd m h zs (after m h zs))
    (first : m.registered (state_below m h.objects (entries_in m (after m h zs)) 0 directory) directory ≡ true) (saves : SavesPrecede m (entries_in m (after m h zs))) where
  abbrev w : World m
  w = after m h zs

  module _ (p : ℕ) (e : Entry) (here : HasEntry m (after m h zs) p e) (x : WriteOp) (has : Contains (writes_of e) x) (to : x.oid ≡ directory) (o : Oid) (mark : ℕ) (object : is_object o ≡ true)
      (is : m.read directory x.op ≡ Some (m.mark_op o mark)) where
    abbrev Kept : Type 0
    Kept = IsCheckpointed m is_object h.objects (entries_in m (after m h zs)) o mark p

    st : once.Stands m h zs r p e
    st = stands m h zs r trims.safe p e here

    commit : is_commit e ≡ true
    commit = writing e.head e.body x (has_contained (writes_of e) x has)

    -- of what its client had in hand when it sent the page that was left
    module _ (a : LeftAt m h zs r zs e.head.client st.put.packet e) where
      abbrev k : ℕ
      k = e.head.client

      abbrev v : World m
      v = after m h a.before

      abbrev c : Client m
      c = client m (after m h a.before) k

      held : Held m h zs r trims found_all ends first (config m (after m h a.before))
      held = passed m (Q m h zs r trims found_all ends first) a.before a.mid (start m h) (subst (λ (ms : Moves m). Along m (Q m h zs r trims found_all ends first) ms (start m h)) a.split (held_along m h zs r trims found_all ends first))

      view_past : upto m c ≤ p
      view_past = put_past m h zs r trims a.before a.mid a.split k a.append a.holds (put_there m h zs r k p e st refl) a.sent (ap (λ (d : Entry). tag_of d.body) a.is, ap (λ (d : Entry). d.head.number) a.is) st.kept

      books : WorldBook m (after m h a.before)
      books = run_book m a.before (start m h) (start_book m h)

      ground : TaskGrounded m h.objects (entries_in m (after m h zs)) (Past m h zs r trims found_all ends first (config m (after m h a.before))) c.stand c.view (task_in m a.holds.work.hand)
      ground = (subst (WorkGrounded m h.objects (entries_in m (after m h zs)) (Past m h zs r trims found_all ends first (config m (after m h a.before))) c.stand c.hosted c.view) a.holds.has (held.clients k).1).0

      written : Has (writes_of a.append.draft) x
      written = subst (λ (ws : List WriteOp). Has ws x) (ap (λ (d : Entry). writes_of d) a.is) (has_contained (writes_of e) x has)

      -- a user puts no mark
      of_tx : (t : Tx) → c.tx ≡ Some t → a.append.draft ≡ commit_record t k → Kept
      unfolding commit_record
      of_tx t at draft =
          let y = (held.clients k).0.puts t at x (moved t.writes (subst (λ (d : Entry). Has (writes_of d) x) draft written)) in
          let same = one_op y.0 (m.mark_op o mark) (sym y.1 ∙ (ap (λ (i : Oid). m.read i x.op) to ∙ is)) in
          absurd (laws.unput x.oid o y.0 mark y.2 same)
        where
          moved : (ws : List WriteOp) → Has ws x → moves.Has ws x
          moved [] i = i
          moved (z ∷ ws) (inl s) = inl s
          moved (z ∷ ws) (inr i) = inr (moved ws i)

      -- a mark's own record
      of_mark : (n : ℕ) (i : Oid) (j : ℕ) → a.append.draft.body ≡ Commit [] (record { oid = directory; op = m.spell (m.mark_op i j) } ∷ []) → MarksKept m h.objects (entries_in m (after m h zs)) (Past m h zs r trims found_all ends first (config m (after m h a.before))) c.view (Marks n i j) → Kept
      of_mark n i j body g = by (subst (λ (b : Body). Has (Rattle.tg_entry.specs.Needs.writes_in b) x) body written)
        where
          by : Has (record { oid = directory; op = m.spell (m.mark_op i j) } ∷ []) x → Kept
          by (inr z) = absurd z
          by (inl z) =
              let same = one_op (m.mark_op i j) (m.mark_op o mark) (sym g.1.1.read ∙ (ap (λ (y : WriteOp). m.read directory y.op) (sym z) ∙ is)) in
              let one = laws.apart i o j mark (objects i g.1.0) object same in
              let saved : base_at m o g.0.entry ≡ Some g.0.base = ap (λ (q : Oid). base_at m q g.0.entry) (sym one.0) ∙ g.0.saves in
              record {
                at = g.0.at;
                entry = g.0.entry;
                base = g.0.base;
                here = g.0.here;
                before = (let b = g.0.before in let l = view_past in omega (arith, b, l));
                saves = saved;
                reaches = (let b = g.0.reaches in let s = one.1 in omega (arith, b, s));
                earlier = saves g.0.at g.0.entry o g.0.base g.0.here saved;
              }

      no_commit : is_commit a.append.draft ≡ false → Kept
      no_commit f = absurd (contrary (sym (ap (λ (d : Entry). is_commit d) (sym a.is) ∙ commit) ∙ f))
        where
          contrary : true ≡ false → ⊥
          contrary z = cc

      left_kept : Kept
      left_kept = by a.holds.purpose (subst (DraftOf m k (trace m (after m h a.before)) c.tx c.begun) a.holds.holds ((books k).drafts a.holds.work a.holds.has))
          (subst (TaskGrounded m h.objects (entries_in m (after m h zs)) (Past m h zs r trims found_all ends first (config m (after m h a.before))) c.stand c.view) a.holds.holds ground).1
        where
          by : (y : Purpose m) → DraftFor m k (trace m (after m h a.before)) c.tx c.begun a.append.draft y → MarksKept m h.objects (entries_in m (after m h zs)) (Past m h zs r trims found_all ends first (config m (after m h a.before))) c.view y → Kept
          by Writes d g = of_tx d.of d.is d.draft
          by Judged d g = of_tx d.of d.is d.draft
          by (Marks n i j) d g = of_mark n i j d.draft.2 g
          by (Decides what) d g = no_commit d
          by (Rescues what) d g = no_commit d
          by (Saves i n) d g = no_commit d

    kept : Kept
    kept = by ((leaving m h zs r).of e.head.client (put_there m h zs r e.head.client p e st refl) (tag_commit e.body e refl commit))
      where
        by : Dead m (after m h zs) st.epoch p st.page ⊎ LeftAt m h zs r zs e.head.client st.put.packet e → Kept
        by (inl d) = absurd (st.kept d)
        by (inr a) = left_kept a

  pub marks_here : MarksAreKept m is_object h.objects (entries_in m (after m h zs))
  marks_here p e x o mark object here commits has to is = kept p e here x has to o mark object is

  registered : AreRegistered m is_object h.objects (entries_in m (after m h zs))
  registered q e o i l = let a = entries_registered m h zs r trims found_all ends first q e o i l in (a.at, a.low, a.registered)

  pub floors_here : AreOpsOf m is_op (entries_in m (after m h zs)) → (n q : ℕ) (e : Entry) (o : Oid) → HasEntry m (after m h zs) q e → lists e o ≡ true → q < floor_at m h.objects (after m h zs) n →
      (floor_at m h.objects (after m h zs) n ≤ n) × IsCheckpointed m is_object h.objects (entries_in m (after m h zs)) o (floor_at m h.objects (after m h zs) n) n
  floors_here ops n q e o i l less = floors_are_safe m is_object is_op laws.floors h.objects (entries_in m (after m h zs)) n q e o (logs_rise m (after m h zs)) ops marks_here registered i l less

module _ (m : Meaning) where
  -- at the end of a run
  at_end : (P : (Oid → Bool) → (m.op → Bool) → Header → World m → Type 0)
      → ((is_object : Oid → Bool) (is_op : m.op → Bool) (laws : DirectoryLaws m is_object is_op) (objects : (o : Oid) → records.is_object o ≡ true → is_object o ≡ true)
      (h : Header) (zs : Moves m) → Reaches m h zs (after m h zs) → TrimsWereSpare m h zs → ClientsFind m h zs (after m h zs) → AppendsEnd m h zs (after m h zs)
      → m.registered (state_below m h.objects (entries_in m (after m h zs)) 0 directory) directory ≡ true → SavesPrecede m (entries_in m (after m h zs)) → P is_object is_op h (after m h zs))
      → WhereMarksMark m P
  at_end P f is_object is_op laws objects h ms w r trims found_all ends saves =
      subst (λ (v : World m). Reaches m h ms v → ClientsFind m h ms v → AppendsEnd m h ms v → SavesPrecede m (entries_in m v) → P is_object is_op h v) (sym r.goes.is)
      (λ a b c d. f is_object is_op laws objects h ms a trims b c
      (ap (λ (s : m.state). m.registered s directory) (sym (fresh_true m h.objects (entries_in m (after m h ms)) directory (logs_rise m (after m h ms))).state) ∙ laws.floors.first_listed h.objects) d)
      r found_all ends saves

  pub marks_follow_checkpoints : MarksFollowCheckpoints m
  marks_follow_checkpoints = at_end (λ is_object is_op h w. MarksAreKept m is_object h.objects (entries_in m w)) (λ is_object is_op laws objects h zs r trims found_all ends first saves. marks_here m is_object is_op laws objects h zs r trims found_all ends first saves)

  pub floors_save : FloorsSave m
  floors_save = at_end (λ is_object is_op h w. AreOpsOf m is_op (entries_in m w) → (n q : ℕ) (e : Entry) (o : Oid) → HasEntry m w q e → lists e o ≡ true → q < floor_at m h.objects w n →
      (floor_at m h.objects w n ≤ n) × IsCheckpointed m is_object h.objects (entries_in m w) o (floor_at m h.objects w n) n)
      (λ is_object is_op laws objects h zs r trims found_all ends first saves. floors_here m is_object is_op laws objects h zs r trims found_all ends first saves)
