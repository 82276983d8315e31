-- Through each of a client's turns: each stream that it names was registered, or stands in an entry of the log, below what is
-- issued from then on.
use Rattle.std.proofs.Common.{◌≡◌, ◌⊎◌, ℕ, ◌+◌, ◌<◌, ◌≤◌, List, [], ◌∷◌, ◌++◌, map, length, Bool, true, false, refl, sym, ap, ◌∙◌, subst, inl, inr, arith, Option, Some, None, Contains}
use Rattle.std.specs.Prelude.{not, nat_lt, max, ◌&&◌, ◌||◌, if◌then◌else◌}
use Rattle.tg_base.specs.Changes.{Changed as Change}
use Rattle.tg_base.specs.declared.change.Join.{Join}
use Rattle.tg_base.specs.Layouts.{Layout}
use Rattle.tg_base.specs.Orders.{oid_eq, oid_lt, node_eq, with_oid, rising_oids}
use Rattle.tg_base.specs.declared.ids.NodeId.{NodeId}
use Rattle.tg_base.specs.declared.ids.Oid.{Oid}
use Rattle.tg_base.specs.declared.msg.Msg.{Msg}
use Rattle.tg_base.specs.declared.packet.Out.{Out}
use Rattle.tg_entry.specs.declared.entry.WriteOp.{WriteOp}
use Rattle.tg_entry.specs.declared.entry.Entry.{Entry}
use Rattle.tg_entry.specs.Needs.{write_oid}
use Rattle.tg_kind.specs.Meaning.{Meaning}
use Rattle.tg_model.specs.declared.command.Command.TheVariants as cmd
use Rattle.tg_model.specs.declared.play.PlayEnd.TheVariants.{Played}
use Rattle.tg_model.specs.declared.refusal.Refusal.{Refusal}
use Rattle.tg_model.specs.declared.refusal.Refusal.TheVariants as cause
use Rattle.tg_model.specs.declared.trace.What.TheVariants as told
use Rattle.tg_model.specs.Kinds.{CommandOf, WhatOf, NoteOf}
use Rattle.tg_protocol.specs.Words.{layout_id, directory, has_oid, first_some, where_true}
use Rattle.tg_protocol.specs.Entries.{streams_of, oid_of_link, unlinked}
use Rattle.tg_protocol.specs.Requests.{awaits, Next, Goes, Learns, Ends, Turn}
use Rattle.tg_protocol.specs.Replies.{Reply, reply}
use Rattle.tg_protocol.specs.Appending.{Append, append_start}
use Rattle.tg_protocol.specs.Syncing.{sync_start}
use Rattle.tg_protocol.specs.Reconfiguring.{Reconf, ReconfEnd, SealingSpare, first_step, reconf_start, reconf_feed, reconf_latest}
use Rattle.tg_protocol.specs.Views.{Entries, View, Base, Play, base_of}
use Rattle.tg_protocol.specs.Checkpoints.{NoCheckpoint, forget_fault, base_at, load_from, checkpoint, may_forget}
use Rattle.tg_protocol.specs.Past.{commit_at}
use Rattle.tg_protocol.specs.Transactions.{Tx, open_tx, tx_put, tx_streams, commit_record}
use Rattle.tg_protocol.specs.Clients.{Purpose, Decides, Rescues, Marks, Task, Appending, Reconfiguring, Hand, Doing, Work, Client, upto_in, upto, busy, tests, tx_open, not_hosted, not_registered, too_many_hosted, no_tx, wrong_kind, put_fault, hosts_oid, write_of, refusal, all_entries}
use Rattle.tg_protocol.specs.Runs.{IsSpelled, LawfulCommand}
use Rattle.tg_protocol.specs.Answers.{pruned, own_view, play_target, Moved, note, base_upto, took_over, closed, appends, syncs, with_view, decision, with_decision}
use Rattle.tg_protocol.specs.ClientSteps as step
use Rattle.tg_protocol.specs.ClientSteps.{plays_kept, task_in, task_awaited, goes_on, learns_for, walks, knows_page, owns, stands, new_work, client_command, client_deliver, client_tick}
use Rattle.tg_law_layouts.proofs.Moves.Members.{Has}
use Rattle.tg_law_layouts.proofs.Moves.Puts.{put_short}
use Rattle.tg_law_layouts.proofs.Moves.Turns.{not_busy}
use Rattle.tg_law_layouts.proofs.Layouts.Phases.{end_stand}
use Rattle.tg_law_replies.specs.History.Logs.{state_below}
use Rattle.tg_law_replies.proofs.History.Members as members
use Rattle.tg_law_replies.proofs.History.Members.{same_oid}
use Rattle.tg_law_replies.proofs.Views.Bases.{loaded_of}
use Rattle.tg_law_replies.proofs.Views.Records.{commit_there}
use Rattle.tg_law_replies.specs.Replies.Steps.{EachDelivery}
use Rattle.tg_law_replies.proofs.Replies.Turns.{Keeps, feed_keeps, again_keeps}
use Rattle.tg_law_walks.proofs.Walks.Saves.{load_gives}
use Rattle.tg_law_syncs.proofs.Known.Ways.{played_view}
use Rattle.tg_law_syncs.proofs.Follow.Looks.{played_to}
-- What stands in the lists of a draft.
use Rattle.tg_law_steps.proofs.Places.{Place, Feeds, Newer, OnAppend, OnReconf, Walks, Plays, Rescues as Rescues'}
use Rattle.tg_law_steps.proofs.Ways.{Way, FeedsAppend, FeedsReconf, NewerSync, NewerWalk, NewerAppend, NewerTrims, NewerCopy, NewerReconf, MetHigh, StartsOver, AllWalked, HasPlayed, LooksBack, IsRescue}
use Rattle.tg_law_steps.proofs.Ends as end
use Rattle.tg_law_steps.proofs.Takes.{IsFor, ForWrites, ForJudged, Hosts, Begins, Puts, Asks, ReadsOnly, Drops, IsWalked, WalksCheckpoint, Taken, SaidAtOnce, SyncsFirst, AppendsRecord, ReconfBegins, CopyBegins}
use Rattle.tg_law_steps.proofs.Along.{commanded}
use Rattle.tg_law_replies.proofs.Replies.Each.{delivered}

pub unlinked_has : (os : List Oid) (o : Oid) → Has (map oid_of_link (map unlinked os)) o → Has os o
unlinked_has [] o i = i
unlinked_has (x ∷ os) o (inl e) = inl e
unlinked_has (x ∷ os) o (inr i) = inr (unlinked_has os o i)

with_has : (x : Oid) (os : List Oid) (o : Oid) → Has (with_oid x os) o → (o ≡ x) ⊎ Has os o
with_has x [] o (inl e) = inl e
with_has x [] o (inr i) = absurd i
with_has x (y ∷ os) o i = by (oid_lt x y) (oid_eq x y) (λ k. with_has x os o k) i
  where
    or : (o ≡ x) ⊎ Has os o → (o ≡ x) ⊎ Has (y ∷ os) o
    or (inl e) = inl e
    or (inr k) = inr (inr k)

    by : (s t : Bool) → (Has (with_oid x os) o → (o ≡ x) ⊎ Has os o) → Has (if s then x ∷ y ∷ os else (if t then y ∷ os else y ∷ with_oid x os)) o → (o ≡ x) ⊎ Has (y ∷ os) o
    by true t rest (inl e) = inl e
    by true t rest (inr k) = inr k
    by false true rest k = inr k
    by false false rest (inl e) = inr (inl e)
    by false false rest (inr k) = or (rest k)

pub rising_has : (os : List Oid) (o : Oid) → Has (rising_oids os) o → Has os o
rising_has [] o i = i
rising_has (x ∷ os) o i = by (λ k. rising_has os o k) (with_has x (rising_oids os) o i)
  where
    by : (Has (rising_oids os) o → Has os o) → (o ≡ x) ⊎ Has (rising_oids os) o → Has (x ∷ os) o
    by rest (inl e) = inl e
    by rest (inr k) = inr (rest k)

has_oid_has : (o : Oid) (os : List Oid) → has_oid o os ≡ true → Has os o
has_oid_has o [] e = absurd cc
has_oid_has o (x ∷ os) e = by (oid_eq o x) refl e (has_oid_has o os)
  where
    by : (b : Bool) → oid_eq o x ≡ b → (b || has_oid o os) ≡ true → (has_oid o os ≡ true → Has os o) → Has (x ∷ os) o
    by true is k rest = inl (same_oid o x is)
    by false is k rest = inr (rest k)

no_some : {X Y : Type 0} → (x : X) → None ≡ Some x → Y
no_some x e = absurd (cc)

some_no : {X Y : Type 0} → (x : X) → Some x ≡ None → Y
some_no x e = absurd (cc)

same_some : {X : Type 0} → (x y : X) → Some x ≡ Some y → x ≡ y
same_some x y e = cc

-- Of a log.
module _ (m : Meaning) (objects : List Oid) (es : Entries) where
  -- an object was registered at a position or below, or stands in the streams of an entry below it
  pub data Stands (o : Oid) (n : ℕ) : Type 0 where
    Registered : (at : ℕ) → at ≤ n → m.registered (state_below m objects es at directory) o ≡ true → Stands o n
    Listed : (p : ℕ) (e : Entry) → p < n → Contains es (p, e) → Has (streams_of e) o → Stands o n

  -- And of what is past a position: what is issued from then on in a layout, or in a later one.
  module _ (past : Layout → ℕ → Type 0) where
    pub record Grounded (p : Layout) (o : Oid) : Type 0 where
      pub upto : ℕ
      pub is_past : past p upto
      pub stands : Stands o upto

    abbrev pub AllGrounded : Layout → List Oid → Type 0
    AllGrounded p os = (o : Oid) → Has os o → Grounded p o

    -- how far a view has the directory
    abbrev pub dir_reach : View m → ℕ
    dir_reach v = max v.upto (base_upto m (base_of m v directory))

    -- a write spells an op that its object allows
    abbrev pub IsPut : WriteOp → Type 0
    IsPut x = (op : m.op) × (m.read x.oid x.op ≡ Some op) × (m.allows x.oid op ≡ true)

    -- The log has a checkpoint of an object below a position, which reaches a mark.
    pub record HasKept (o : Oid) (mark n : ℕ) : Type 0 where
      pub at : ℕ
      pub entry : Entry
      pub base : Base m
      pub here : Contains es (at, entry)
      pub before : at < n
      pub saves : base_at m o entry ≡ Some base
      pub reaches : mark ≤ base.upto

    -- so it has where a client marks an object, below where its view has played
    abbrev pub MarksKept : Option (View m) → Purpose m → Type 0
    MarksKept view (Marks n o mark) = HasKept o mark (upto_in m view) × LawfulCommand m (cmd.Forget o mark)
    MarksKept view y = Unit {0}

    pub record Rooted (c : Client m) : Type 0 where
      pub played : past c.stand c.played
      pub hosted : AllGrounded c.stand c.hosted
      pub view : (v : View m) → c.view ≡ Some v → past c.stand (dir_reach v)
      pub writes : (t : Tx) → c.tx ≡ Some t → AllGrounded c.stand (map write_oid t.writes)
      pub puts : (t : Tx) → c.tx ≡ Some t → (x : WriteOp) → Has t.writes x → IsPut x

    abbrev pub TaskGrounded : Layout → Option (View m) → Task m → Type 0
    TaskGrounded p view (Appending a y) = AllGrounded p (streams_of a.draft) × MarksKept view y
    TaskGrounded p view t = Unit {0}

    -- a command is lawful, and a checkpoint is of a hosted object
    abbrev pub SavesHosted : List Oid → CommandOf m → Type 0
    SavesHosted hosted x = ((o : Oid) → x ≡ cmd.Checkpoint o → Has hosted o) × LawfulCommand m x

    abbrev pub WorkGrounded : Layout → List Oid → Option (View m) → Option (Work m) → Type 0
    WorkGrounded p hosted view None = Unit {0}
    WorkGrounded p hosted view (Some w) = TaskGrounded p view (task_in m w.hand) × SavesHosted hosted w.command

    abbrev pub ClientGrounded : Client m → Type 0
    ClientGrounded c = Rooted c × WorkGrounded c.stand c.hosted c.view c.work

    abbrev Good : Moved m → Type 0
    Good x = ClientGrounded x.now

    abbrev K : Client m → Work m → Type 0
    K c w = SavesHosted c.hosted w.command

    -- what is had of entries that a client has found
    abbrev pub Own : Client m → Entries → Type 0
    Own c own = (p : ℕ) (e : Entry) → Contains own (p, e) → AllGrounded c.stand (streams_of e)

    -- what a client has found of the log, below the tail
    abbrev pub IsOfLog : Work m → Entries → Type 0
    IsOfLog w own = (p : ℕ) (e : Entry) → Contains own (p, e) → Contains es (p, e) × (p < w.tail)

    -- where a command's walks end
    abbrev pub FoundFor : Client m → Work m → CommandOf m → Type 0
    FoundFor c w (cmd.AskAt p o q) = Unit {0}
    FoundFor c w (cmd.Rescue p) = Own c (all_entries m c w w.oids)
    FoundFor c w x = past c.stand (dir_reach (played_view m c w)) × Own c (all_entries m c w c.hosted) × IsOfLog w (all_entries m c w c.hosted)

    abbrev pub FoundGround : Client m → Work m → Type 0
    FoundGround c w = FoundFor c w w.command

    -- Replies, and beginnings of machines.

    replied : (c : Client m) → Rooted c → ClientGrounded (pruned m c)
    replied c h = (record { played = h.played; hosted = h.hosted; view = h.view; writes = h.writes; puts = h.puts }, tt)

    took : (c : Client m) (o : Option (View m)) → c.view ≡ o → Rooted c → Rooted (took_over m c o)
    took c None e h = h
    took c (Some v) e h = record { played = h.view v e; hosted = h.hosted; view = h.view; writes = h.writes; puts = h.puts }

    shut : (c : Client m) → Rooted c → Rooted (closed m c)
    shut c h = record { played = h.played; hosted = h.hosted; view = h.view; writes = λ t e. no_some t e; puts = λ t e. no_some t e }

    answered : (c : Client m) → Rooted c → ClientGrounded (pruned m (took_over m c c.view))
    answered c h = replied (took_over m c c.view) (took c c.view refl h)

    shuts : (c : Client m) → Rooted c → ClientGrounded (pruned m (took_over m (closed m c) c.view))
    shuts c h = answered (closed m c) (shut c h)

    appended : (c : Client m) (w : Work m) (e : Entry) (y : Purpose m) (ns : List (NoteOf m)) → Rooted c → K c w → AllGrounded c.stand (streams_of e) → MarksKept c.view y → Good (appends m c w e y ns)
    unfolding appends append_start
    appended c w e y ns h k g j = (record { played = h.played; hosted = h.hosted; view = h.view; writes = h.writes; puts = h.puts }, ((g, j), k))

    synced : (c : Client m) (w : Work m) (os : List Oid) → Rooted c → K c w → Good (syncs m c w os)
    unfolding syncs sync_start
    synced c w os h k = (record { played = h.played; hosted = h.hosted; view = h.view; writes = h.writes; puts = h.puts }, (tt, k))

    goes : (c : Client m) (w : Work m) (t : Task m) (bs : List Out) → Rooted c → K c w → TaskGrounded c.stand c.view t → Good (goes_on m c w t bs)
    goes c w t bs h k g = (record { played = h.played; hosted = h.hosted; view = h.view; writes = h.writes; puts = h.puts }, (g, k))

    learns : (c : Client m) (w : Work m) (t : Task m) → Rooted c → K c w → TaskGrounded c.stand c.view t → Good (learns_for m c w t)
    learns c w t h k g = (record { played = h.played; hosted = h.hosted; view = h.view; writes = h.writes; puts = h.puts }, (g, k))

    -- a decision record stands in the streams of its record
    decides : (c : Client m) (w : Work m) (e : Entry) (p : ℕ) (so : Bool) (y : Purpose m) → Rooted c → K c w → AllGrounded c.stand (streams_of e) → MarksKept c.view y → Good (appends m (with_decision m c) w (decision m c e p so) y [])
    decides c w e p so y h k g j =
        appended (with_decision m c) w (decision m c e p so) y [] (record { played = h.played; hosted = h.hosted; view = h.view; writes = h.writes; puts = h.puts }) k (λ o i. g o (unlinked_has (streams_of e) o i)) j

    -- Transactions within a turn.

    read_root : (c : Client m) (t u : Tx) → c.tx ≡ Some t → u.writes ≡ t.writes → Rooted c → Rooted (record c { tx = Some u })
    read_root c t u is same h = record { played = h.played; hosted = h.hosted; view = h.view; writes = λ x e o i. h.writes t is o (subst (λ (ws : List WriteOp). Has (map write_oid ws) o) (ap (λ (z : Tx). z.writes) (sym (same_some u x e)) ∙ same) i); puts = λ x e y i. h.puts t is y (subst (λ (ws : List WriteOp). Has ws y) (ap (λ (z : Tx). z.writes) (sym (same_some u x e)) ∙ same) i) }

    -- What is past a position is past each lower one, and in each later layout; nothing is below 0, and there the directory is
    -- registered.
    module _ (down : (p : Layout) (t u : ℕ) → u ≤ t → past p t → past p u) (none : (p : Layout) → past p 0) (onto : (p q : Layout) (t : ℕ) → p.epoch ≤ q.epoch → past p t → past q t)
        (first : m.registered (state_below m objects es 0 directory) directory ≡ true) where
      dir_grounded : (p : Layout) → Grounded p directory
      dir_grounded p = record { upto = 0; is_past = none p; stands = Registered 0 (omega arith) first }

      kept_of : (own : Entries) (o : Oid) (n : ℕ) → may_forget m own o n ≡ None → (b : Base m) × (load_from m own o n ≡ Some b)
      unfolding may_forget
      kept_of own o n fine = by (load_from m own o n) refl fine
        where
          by : (x : Option (Base m)) → load_from m own o n ≡ x → forget_fault m own o n x ≡ None → (b : Base m) × (load_from m own o n ≡ Some b)
          by None is z = some_no NoCheckpoint z
          by (Some b) is z = (b, is)

      -- what lets a mark go is a checkpoint that the client has found
      has_kept : (w : Work m) (own : Entries) (o : Oid) (n top : ℕ) → IsOfLog w own → w.tail ≤ top → may_forget m own o n ≡ None → HasKept o n top
      has_kept w own o n top here low fine =
          let b = kept_of own o n fine in
          let g = loaded_of m objects [] refl own o n b.0 b.1 in
          let l = load_gives m own o n b.0 b.1 in
          let f = here g.at g.entry (members.contained_has own (g.at, g.entry) g.here) in
          record { at = g.at; entry = g.entry; base = b.0; here = f.0; before = (let a = f.1 in omega (arith, a, low)); saves = g.is; reaches = l.1 }

      -- Along a turn.

      viewed : (c : Client m) (v : View m) → Rooted c → past c.stand (dir_reach v) → Rooted (with_view m c v)
      viewed c v h f = record { played = h.played; hosted = h.hosted; view = λ u e. subst (λ (z : View m). past c.stand (dir_reach z)) (same_some v u e) f; writes = h.writes; puts = h.puts }

      turned_root : (c : Client m) (n : ℕ) → Rooted c → Rooted (record c { next = n })
      turned_root c n h = record { played = h.played; hosted = h.hosted; view = h.view; writes = h.writes; puts = h.puts }

      no_view : (c : Client m) → Rooted c → Rooted (record c { view = None })
      no_view c h = record { played = h.played; hosted = h.hosted; view = λ v e. no_some v e; writes = h.writes; puts = h.puts }

      page_root : (c : Client m) (p : ℕ) (d : List ℕ) → Rooted c → Rooted (knows_page m c p d)
      page_root c p d h = record { played = h.played; hosted = h.hosted; view = h.view; writes = h.writes; puts = h.puts }

      owns_root : (c : Client m) (p : ℕ) (d : List ℕ) → Rooted c → Rooted (owns m c p d)
      owns_root c p d h = record { played = h.played; hosted = h.hosted; view = h.view; writes = h.writes; puts = h.puts }

      grounded_onto : (p q : Layout) → p.epoch ≤ q.epoch → (o : Oid) → Grounded p o → Grounded q o
      grounded_onto p q le o g = record { upto = g.upto; is_past = onto p q g.upto le g.is_past; stands = g.stands }

      stands_root : (c : Client m) (q : Layout) → c.stand.epoch ≤ q.epoch → Rooted c → Rooted (stands m c q)
      stands_root c q le h = record {
        played = onto c.stand q c.played le h.played;
        hosted = λ o i. grounded_onto c.stand q le o (h.hosted o i);
        view = λ v e. onto c.stand q (dir_reach v) le (h.view v e);
        writes = λ t e o i. grounded_onto c.stand q le o (h.writes t e o i);
        puts = h.puts;
      }

      -- a reconfiguration goes on in this layout or in a later one
      abbrev pub Rises : Layout → Next Reconf ReconfEnd → Type 0
      Rises p (Goes r) = p.epoch ≤ r.stand.epoch
      Rises p (Learns r) = Unit {0}
      Rises p (Ends e) = p.epoch ≤ (end_stand e).epoch

      -- what is to be known of it
      abbrev pub FeedFor : Client m → Task m → ℕ → ℕ → Reply → Type 0
      FeedFor c (Reconfiguring r) n rid x = Rises c.stand (reconf_feed r r.work n rid x c.next).to
      FeedFor c t n rid x = Unit {0}

      abbrev pub NewerFor : Client m → Task m → ℕ → ℕ → Layout → Type 0
      NewerFor c (Reconfiguring r) n rid q = Rises c.stand (reconf_latest r r.work n rid q c.next).to
      NewerFor c t n rid q = Unit {0}

      -- what is had of entries that a client has played
      pub record HasPlayedOwn (c : Client m) (w : Work m) (own : Entries) (p : Play m) : Type 0 where
        pub grounded : Own c own
        pub of_log : IsOfLog w own
        pub low : (t : ℕ) → p.came ≡ Played t → play_target m w w.command ≤ upto m c

      abbrev At : Client m → Work m → Place m → Type 0
      At c w (Feeds t n rid x) = TaskGrounded c.stand c.view t × FeedFor c t n rid x
      At c w (Newer t n rid q) = TaskGrounded c.stand c.view t × (c.stand.epoch ≤ q.epoch) × NewerFor c t n rid q
      At c w (OnAppend y bs to) = (a : Append) × TaskGrounded c.stand c.view (Appending a y) × Keeps a.draft to
      At c w (OnReconf to) = Rises c.stand to
      At c w (Plays own p) = HasPlayedOwn c w own p
      At c w (Rescues' at) = Own c (all_entries m c w w.oids)
      At c w p = Unit {0}

      record Along (c : Client m) (w : Work m) (p : Place m) : Type 0 where
        pub root : Rooted c
        pub saves : K c w
        pub at : At c w p

      way : (c : Client m) (w : Work m) (p : Place m) (d : Client m) (v : Work m) (q : Place m) → Way m c w p d v q → Along c w p → Along d v q
      way c w _ _ _ _ (FeedsAppend a y n rid x) h = record { root = turned_root c _ h.root; saves = h.saves; at = (a, h.at.0, feed_keeps c.stand a n x c.next) }
      way c w _ _ _ _ (FeedsReconf r n rid x) h = record { root = turned_root c _ h.root; saves = h.saves; at = h.at.1 }
      way c w _ _ _ _ (NewerSync s n rid q) h = record { root = turned_root (stands m c q) _ (stands_root c q h.at.1 h.root); saves = h.saves; at = tt }
      way c w _ _ _ _ (NewerWalk k os n rid q) h = record { root = turned_root (stands m c q) _ (stands_root c q h.at.1 h.root); saves = h.saves; at = tt }
      way c w _ _ _ _ (NewerAppend a y n rid q) h =
          record { root = turned_root (stands m c q) _ (stands_root c q h.at.1 h.root); saves = h.saves; at = (a, ((λ o i. grounded_onto c.stand q h.at.1 o (h.at.0.0 o i)), h.at.0.1), again_keeps q a c.next) }
      way c w _ _ _ _ (NewerTrims t n rid q) h = record { root = turned_root (stands m c q) _ (stands_root c q h.at.1 h.root); saves = h.saves; at = tt }
      way c w _ _ _ _ (NewerCopy x n rid q f) h = record { root = turned_root (stands m c q) _ (stands_root c q h.at.1 h.root); saves = h.saves; at = tt }
      way c w _ _ _ _ (NewerReconf r n rid q) h = record { root = turned_root c _ h.root; saves = h.saves; at = h.at.2 }
      way c w _ _ _ _ (MetHigh o os x b e f z) h = record { root = no_view c h.root; saves = h.saves; at = tt }
      way c w _ _ _ _ (StartsOver o os x b e f z) h = record { root = no_view c h.root; saves = h.saves; at = tt }
      way c w _ _ _ _ x h = record { root = record { played = h.root.played; hosted = h.root.hosted; view = h.root.view; writes = h.root.writes; puts = h.root.puts }; saves = h.saves; at = tt }

      found_plays : (c : Client m) (w : Work m) (x : CommandOf m) → plays_kept m x ≡ true → FoundFor c w x → past c.stand (dir_reach (played_view m c w)) × Own c (all_entries m c w c.hosted) × IsOfLog w (all_entries m c w c.hosted)
      found_plays c w (cmd.AskAt at o q) e f = absurd cc
      found_plays c w (cmd.Rescue at) e f = absurd cc
      found_plays c w x e f = f

      all_walked : (c : Client m) (w : Work m) (d : Client m) (q : Place m) → AllWalked m c w d q → Along c w (Walks []) → FoundGround c w → Along d w q
      all_walked c w _ _ (HasPlayed k) h f =
          let g = found_plays c w w.command k f in
          record {
            root = viewed c (played_view m c w) h.root g.0;
            saves = h.saves;
            at = record { grounded = g.1; of_log = g.2; low = λ t came. played_to m (all_entries m c w c.hosted) (play_target m w w.command) t (own_view m c w (all_entries m c w c.hosted)) came };
          }
      all_walked c w _ _ (LooksBack at o q of) h f = record { root = h.root; saves = h.saves; at = tt }
      all_walked c w _ _ (IsRescue at of) h f = record { root = h.root; saves = h.saves; at = subst (FoundFor c w) of f }

      -- What the turn comes to.

      of_found : (c : Client m) (own : Entries) (p : ℕ) (e : Entry) → Own c own → commit_at own p ≡ Some e → AllGrounded c.stand (streams_of e)
      of_found c own p e g is = g p e (members.contained_has own (p, e) (commit_there m own p e is).0)

      alone : (c : Client m) (x o : Oid) → Grounded c.stand x → Has (x ∷ []) o → Grounded c.stand o
      alone c x o g (inl e) = subst (λ (y : Oid). Grounded c.stand y) (sym e) g
      alone c x o g (inr i) = absurd i

      going : (c : Client m) (w : Work m) (p : Place m) (d : Client m) (t : Task m) (bs : List Out) → end.IsGoing m c w p d t bs → Along c w p → Good (goes_on m d w t bs)
      going c w _ d t bs (end.AppendGoes y _ b) h = goes d w t bs h.root h.saves (subst (λ (d : Entry). AllGrounded c.stand (streams_of d)) (sym h.at.2) h.at.1.0, h.at.1.1)
      going c w _ d t bs (end.ReconfGoes r) h = goes d w t bs (stands_root c r.stand h.at h.root) h.saves tt
      going c w _ d t bs x h = goes d w t bs (record { played = h.root.played; hosted = h.root.hosted; view = h.root.view; writes = h.root.writes; puts = h.root.puts }) h.saves tt

      learning : (c : Client m) (w : Work m) (p : Place m) (t : Task m) → end.IsLearning m c w p t → Along c w p → Good (learns_for m c w t)
      learning c w _ t (end.AppendLearns y bs b) h = learns c w t h.root h.saves (subst (λ (d : Entry). AllGrounded c.stand (streams_of d)) (sym h.at.2) h.at.1.0, h.at.1.1)
      learning c w _ t x h = learns c w t h.root h.saves tt

      syncing : (c : Client m) (w : Work m) (p : Place m) (d : Client m) (v : Work m) (os : List Oid) → end.IsSynced m c w p d v os → Along c w p → Good (syncs m d v os)
      syncing c w _ d v os (end.JudgedAt bs p page) h = synced d v os (owns_root c p page h.root) h.saves
      syncing c w _ d v os (end.StaleHigh o ws x b e f) h = synced d v os (no_view c h.root) h.saves
      syncing c w _ d v os x h = synced d v os h.root h.saves

      appending : (c : Client m) (w : Work m) (p : Place m) (d : Client m) (e : Entry) (y : Purpose m) (ns : List (NoteOf m)) → end.IsAppended m c w p d e y ns → Along c w p → Good (appends m d w e y ns)
      unfolding checkpoint
      appending c w _ _ _ _ _ (end.EndDecides own p to e so what of a i j l) h = decides c w e w.at so (Decides what) h.root h.saves (of_found c own w.at e h.at.grounded i) tt
      appending c w _ _ _ _ _ (end.DecideDecides own p at e d so of t k i v s l) h = decides c w e at so (Decides (told.Decided at (Some so))) h.root h.saves (of_found c own at e h.at.grounded i) tt
      appending c w _ _ _ _ _ (end.RescueDecides at so e k i) h = decides c w e at so (Rescues (told.Rescued at (Some so))) h.root h.saves (of_found c (all_entries m c w w.oids) at e h.at i) tt
      appending c w _ d e y ns (end.SaveBegins own p to o of a l) h = appended d w e y ns (record { played = h.root.played; hosted = h.root.hosted; view = h.root.view; writes = h.root.writes; puts = h.root.puts }) h.saves (λ x i. alone c o x (h.root.hosted o (h.saves.0 o of)) (unlinked_has (o ∷ []) x i)) tt
      appending c w _ d e y ns (end.MarkBegins own p to o n of a f) h = appended d w e y ns (record { played = h.root.played; hosted = h.root.hosted; view = h.root.view; writes = h.root.writes; puts = h.root.puts }) h.saves (λ x i. alone c directory x (dir_grounded c.stand) (unlinked_has (directory ∷ []) x i))
          (has_kept w own o n (upto m c) h.at.of_log (subst (λ (x : CommandOf m). play_target m w x ≤ upto m c) of (h.at.low to a)) f, subst (LawfulCommand m) of h.saves.1)

      refusing : (c : Client m) (w : Work m) (p : Place m) (d : Client m) (n : ℕ) (why : Refusal) → end.IsRefused m c w p d n why → Along c w p → ClientGrounded (pruned m d)
      refusing c w _ d _ _ (end.RecordForgotten y bs p b of) h = replied d (shut c h.root)
      refusing c w _ d _ _ (end.ReconfOvertaken e p) h = replied d (stands_root c p h.at h.root)
      refusing c w _ d _ _ (end.ReconfNotWhole u pos p) h = replied d (stands_root c p h.at h.root)
      refusing c w _ d _ _ (end.CopyFault x n rid q why f) h = replied d (stands_root c q h.at.1 h.root)
      refusing c w _ d _ _ x h = replied d h.root

      answering : (c : Client m) (w : Work m) (p : Place m) (d : Client m) (n : ℕ) (what : WhatOf m) → end.IsAnswered m c w p d n what → Rooted c → ClientGrounded (pruned m (took_over m d d.view))
      answering c w _ d _ _ (end.DecidedAt x bs p page other) h = answered d (page_root c p page h)
      answering c w _ d _ _ (end.IsSaved o to bs p page) h = answered d (page_root c p page h)
      answering c w _ d _ _ (end.JudgedSo x bs p page of) h = shuts (knows_page m c p page) (page_root c p page h)
      answering c w _ d _ _ (end.JudgedLost x bs e l of) h = shuts c h
      answering c w _ d _ _ (end.IsAsked own p o q to t s of a has is) h = answered d (read_root c t _ has refl h)
      answering c w _ d _ _ (end.EndBlocked own p q x of a) h = shuts c h
      answering c w _ d _ _ (end.EndUnsure own p to of a k) h = shuts c h
      answering c w _ d _ _ (end.EndJudged own p to e so what of a i j l) h = shuts c h
      answering c w _ d _ _ x h = answered d h

      telling : (c : Client m) (w : Work m) (p : Place m) (d : Client m) (ns : List (NoteOf m)) → end.IsTold m c w p d ns → Along c w p → ClientGrounded (pruned m d)
      telling c w _ d _ (end.IsCommitted bs p page) h = replied d (shut (owns m c p page) (owns_root c p page h.root))
      telling c w _ d _ (end.IsRescued x bs p page) h = replied d (page_root c p page h.root)
      telling c w _ d _ (end.IsMarked n o mark bs p page) h = replied d (took (owns m c p page) c.view refl (owns_root c p page h.root))
      telling c w _ d _ (end.IsInstalled e p) h = replied d (stands_root c p h.at h.root)
      telling c w _ d _ x h = replied d h.root

      ends_good : (c : Client m) (w : Work m) (p : Place m) (x : Moved m) → end.End m c w p x → Along c w p → Good x
      ends_good c w p _ (end.GoesOn d t bs x) h = going c w p d t bs x h
      ends_good c w p _ (end.LearnsNewer t x) h = learning c w p t x h
      ends_good c w p _ (end.Syncs d v os x) h = syncing c w p d v os x h
      ends_good c w p _ (end.Appends d e y ns x) h = appending c w p d e y ns x h
      ends_good c w p _ (end.Refuses d n why x) h = refusing c w p d n why x h
      ends_good c w p _ (end.Answers d n what x) h = answering c w p d n what x h.root
      ends_good c w p _ (end.Tells d ns x) h = telling c w p d ns x h

      -- what a delivery has to tell
      pub record HearsFor (c : Client m) (from : NodeId) (rid : ℕ) (x : Reply) : Type 0 where
        pub answer : (w : Work m) (t : Task m) → c.work ≡ Some w → w.hand ≡ Doing t → awaits (task_awaited m c.stand t) from rid ≡ true → FeedFor c t from.num rid x
        pub newer : (w : Work m) (q : Layout) → c.work ≡ Some w → c.stand.epoch < q.epoch → NewerFor c (task_in m w.hand) from.num rid q

      less_of : (a : Bool) (x y : ℕ) → (a && nat_lt x y) ≡ true → x < y
      less_of a x y e = grind arith

      -- Commands.

      first_none : (x : Option Refusal) (xs : List (Option Refusal)) → first_some (x ∷ xs) ≡ None → (x ≡ None) × (first_some xs ≡ None)
      first_none None xs e = (refl, e)
      first_none (Some why) xs e = some_no why e

      is_hosted : (c : Client m) (o : Oid) → not_hosted m c o ≡ None → Has c.hosted o
      is_hosted c o e = by (hosts_oid m c o) refl e
        where
          by : (b : Bool) → hosts_oid m c o ≡ b → where_true (not b) (cause.NotHosted o) ≡ None → Has c.hosted o
          by true is e = has_oid_has o c.hosted is
          by false is e = some_no (cause.NotHosted o) e

      is_registered : (c : Client m) (o : Oid) → not_registered m c o ≡ None → m.registered c.dir o ≡ true
      is_registered c o e = by (m.registered c.dir o) refl e
        where
          by : (b : Bool) → m.registered c.dir o ≡ b → where_true (not b) (cause.NotRegistered o) ≡ None → m.registered c.dir o ≡ true
          by true is e = is
          by false is e = some_no (cause.NotRegistered o) e

      is_allowed : (o : Oid) (b : Bool) → where_true (not b) (cause.WrongKind o) ≡ None → b ≡ true
      is_allowed o true e = refl
      is_allowed o false e = some_no (cause.WrongKind o) e

      -- none of its tests refuses the command
      abbrev Passed : Client m → CommandOf m → Type 0
      Passed c (cmd.Host o) = m.registered c.dir o ≡ true
      Passed c (cmd.Put o op) = (m.registered c.dir o ≡ true) × (m.allows o op ≡ true) × (length (m.spell op) ≤ 4096)
      Passed c (cmd.Checkpoint o) = Has c.hosted o
      Passed c x = Unit {0}

      passes : (c : Client m) (x : CommandOf m) → refusal m c x ≡ None → first_some (tests m c x) ≡ None → Passed c x
      unfolding tests
      passes c (cmd.Host o) fine e = is_registered c o (first_none (not_registered m c o) (too_many_hosted m c o ∷ []) (first_none (tx_open m c) (not_registered m c o ∷ too_many_hosted m c o ∷ []) e).1).0
      passes c (cmd.Put o op) fine e =
          let a = (first_none (no_tx m c) (wrong_kind m (m.allows o op) o ∷ not_registered m c o ∷ put_fault m c.tx (write_of m o op) ∷ []) e).1 in
          let b = (first_none (wrong_kind m (m.allows o op) o) (not_registered m c o ∷ put_fault m c.tx (write_of m o op) ∷ []) a).1 in
          (is_registered c o (first_none (not_registered m c o) (put_fault m c.tx (write_of m o op) ∷ []) b).0, is_allowed o (m.allows o op) (first_none (wrong_kind m (m.allows o op) o) (not_registered m c o ∷ put_fault m c.tx (write_of m o op) ∷ []) a).0, put_short m c o op fine)
      passes c (cmd.Checkpoint o) fine e = is_hosted c o (first_none (not_hosted m c o) [] (first_none (tx_open m c) (not_hosted m c o ∷ []) e).1).0
      passes c cmd.Begin fine e = tt
      passes c (cmd.Ask o q) fine e = tt
      passes c cmd.End fine e = tt
      passes c cmd.Drop fine e = tt
      passes c (cmd.Fate p) fine e = tt
      passes c (cmd.Decide p) fine e = tt
      passes c (cmd.Forget o n) fine e = tt
      passes c cmd.Trim fine e = tt
      passes c (cmd.Reconf x) fine e = tt
      passes c (cmd.Copy u r s) fine e = tt
      passes c (cmd.AskAt p o q) fine e = tt
      passes c (cmd.Rescue p) fine e = tt

      passed : (c : Client m) (x : CommandOf m) → refusal m c x ≡ None → Passed c x
      unfolding refusal
      passed c x e = passes c x e (first_none (busy m c.work) (tests m c x) e).1

      -- a client whose directory is the log's where it has played
      abbrev pub SeesDir : Client m → Type 0
      SeesDir c = c.dir ≡ state_below m objects es c.played directory

      registered_ground : (c : Client m) (o : Oid) → SeesDir c → Rooted c → m.registered c.dir o ≡ true → Grounded c.stand o
      registered_ground c o sees h is = record { upto = c.played; is_past = h.played; stands = Registered c.played (omega arith) (ap (λ (s : m.state). m.registered s o) (sym sees) ∙ is) }

      no_work : (d : Client m) → d.work ≡ None → Rooted d → ClientGrounded d
      no_work d e h = (h, subst (WorkGrounded d.stand d.hosted d.view) (sym e) tt)

      put_root : (c : Client m) (o : Oid) (op : m.op) (t : Tx) → c.tx ≡ Some t → SeesDir c → Rooted c → (m.registered c.dir o ≡ true) × (m.allows o op ≡ true) × (length (m.spell op) ≤ 4096) → IsSpelled m o op → Rooted (record c { tx = Some (tx_put t (write_of m o op)) })
      put_root c o op t is sees h known spelled = record {
        played = h.played;
        hosted = h.hosted;
        view = h.view;
        writes = λ u e x i. by x (more t.writes x (subst (λ (z : Tx). Has (map write_oid z.writes) x) (sym (same_some (tx_put t (write_of m o op)) u e)) i));
        puts = λ u e y i. put y (last t.writes y (subst (λ (z : Tx). Has z.writes y) (sym (same_some (tx_put t (write_of m o op)) u e)) i));
      }
        where
          more : (ws : List WriteOp) (x : Oid) → Has (map write_oid (ws ++ write_of m o op ∷ [])) x → (x ≡ o) ⊎ Has (map write_oid ws) x
          more [] x (inl e) = inl e
          more [] x (inr i) = absurd i
          more (y ∷ ws) x (inl e) = inr (inl e)
          more (y ∷ ws) x (inr i) = next (more ws x i)
            where
              next : (x ≡ o) ⊎ Has (map write_oid ws) x → (x ≡ o) ⊎ Has (map write_oid (y ∷ ws)) x
              next (inl e) = inl e
              next (inr k) = inr (inr k)

          last : (ws : List WriteOp) (y : WriteOp) → Has (ws ++ write_of m o op ∷ []) y → (y ≡ write_of m o op) ⊎ Has ws y
          last [] y (inl e) = inl e
          last [] y (inr i) = absurd i
          last (x ∷ ws) y (inl e) = inr (inl e)
          last (x ∷ ws) y (inr i) = next (last ws y i)
            where
              next : (y ≡ write_of m o op) ⊎ Has ws y → (y ≡ write_of m o op) ⊎ Has (x ∷ ws) y
              next (inl e) = inl e
              next (inr k) = inr (inr k)

          put : (y : WriteOp) → (y ≡ write_of m o op) ⊎ Has t.writes y → IsPut y
          put y (inl e) = subst IsPut (sym e) (op, spelled.read, known.1)
          put y (inr i) = h.puts t is y i

          by : (x : Oid) → (x ≡ o) ⊎ Has (map write_oid t.writes) x → Grounded c.stand x
          by x (inl e) = subst (λ (y : Oid). Grounded c.stand y) (sym e) (registered_ground c o sees h known.0)
          by x (inr i) = h.writes t is x i

      same_epoch : (p : Layout) → p.epoch ≤ p.epoch
      same_epoch p = omega arith

      starts_in : (c : Client m) (x : Change) → Rises c.stand (reconf_start c.stand c.layouts x c.num c.next).to
      unfolding reconf_start
      starts_in c x = by x.join
        where
          by : (j : Option Join) → Rises c.stand (first_step (record { change = x; me = c.num; layouts = c.layouts; stand = c.stand; work = SealingSpare 0 }) c.next j).to
          by None = same_epoch c.stand
          by (Some j) = same_epoch c.stand

      unmarked : (c : Client m) (t : Tx) (y : Purpose m) → IsFor m t y → MarksKept c.view y
      unmarked c t _ (ForWrites e) = tt
      unmarked c t _ (ForJudged e) = tt

      same_save : (a b : Oid) → ◌≡◌ {A = CommandOf m} (cmd.Checkpoint a) (cmd.Checkpoint b) → a ≡ b
      same_save a b e = cc

      saves_for : (c : Client m) (x : CommandOf m) → IsWalked m c x → Passed c x → (o : Oid) → x ≡ cmd.Checkpoint o → Has c.hosted o
      saves_for c _ (WalksCheckpoint o) k a e = subst (Has c.hosted) (same_save o a e) k
      saves_for c _ x k a e = absurd cc

      takes_in : (c : Client m) (x : CommandOf m) (y : Moved m) → LawfulCommand m x → SeesDir c → ClientGrounded c → c.work ≡ None → Passed c x → Taken m c x y → Good y
      unfolding commit_record
      takes_in c _ _ lawful sees h idle k (SaidAtOnce _ d _ (Hosts o e)) =
          no_work d idle (record { played = h.0.played; hosted = λ x i. by x (with_has o c.hosted x i); view = λ v e. no_some v e; writes = h.0.writes; puts = h.0.puts })
        where
          by : (x : Oid) → (x ≡ o) ⊎ Has c.hosted x → Grounded c.stand x
          by x (inl e) = subst (λ (y : Oid). Grounded c.stand y) (sym e) (registered_ground c o sees h.0 k)
          by x (inr i) = h.0.hosted x i
      takes_in c _ _ lawful sees h idle k (SaidAtOnce _ d _ Begins) = no_work d idle (record {
        played = h.0.played;
        hosted = h.0.hosted;
        view = h.0.view;
        writes = λ t e o i. absurd (subst (λ (z : Tx). Has (map write_oid z.writes) o) (sym (same_some (open_tx (c.begun + 1)) t e)) i);
        puts = λ t e y i. absurd (subst (λ (z : Tx). Has z.writes y) (sym (same_some (open_tx (c.begun + 1)) t e)) i);
      })
      takes_in c _ _ lawful sees h idle k (SaidAtOnce _ d _ (Puts o op t is)) = no_work d idle (put_root c o op t is sees h.0 k (lawful.1 k.1 k.2))
      takes_in c _ _ lawful sees h idle k (SaidAtOnce _ d _ (Asks o q t at v s is snap sees' e)) = no_work d idle (read_root c t _ is refl h.0)
      takes_in c _ _ lawful sees h idle k (SaidAtOnce _ d _ (ReadsOnly t is e)) = no_work d idle (shut c h.0)
      takes_in c _ _ lawful sees h idle k (SaidAtOnce _ d _ Drops) = no_work d idle (shut c h.0)
      takes_in c _ _ lawful sees h idle k (SaidAtOnce _ d _ x) = no_work d idle h.0
      takes_in c _ _ lawful sees h idle k (SyncsFirst x walks) = synced c (new_work m x) c.hosted h.0 (saves_for c x walks k, lawful)
      takes_in c _ _ lawful sees h idle k (AppendsRecord t y is e for) = appended c (new_work m cmd.End) (commit_record t c.num) y (note m t.number told.End ∷ []) h.0 ((λ x e. absurd cc), tt)
          (λ o i. h.0.writes t is o (rising_has (map write_oid t.writes) o (unlinked_has (tx_streams t.writes) o i))) (unmarked c t y for)
      takes_in c _ _ lawful sees h idle k (ReconfBegins x n r e) =
          goes (stands m (record c { next = n }) r.stand) (new_work m (cmd.Reconf x)) (Reconfiguring r) [] (stands_root (record c { next = n }) r.stand (subst (λ (t : Turn Reconf ReconfEnd). Rises c.stand t.to) e (starts_in c x)) (turned_root c n h.0)) ((λ o e. absurd cc), lawful) tt
      takes_in c _ _ lawful sees h idle k (CopyBegins u r s) = goes (record c { next = c.next + 1 }) (new_work m (cmd.Copy u r s)) _ [] (turned_root c (c.next + 1) h.0) ((λ o e. absurd cc), lawful) tt

      -- Turns.

      called : (c : Client m) → ClientGrounded c → ClientGrounded (step.called m c)
      called c h = (record { played = h.0.played; hosted = h.0.hosted; view = h.0.view; writes = h.0.writes; puts = h.0.puts }, h.1)

      pub command_in : (c : Client m) (x : CommandOf m) → LawfulCommand m x → SeesDir c → ClientGrounded c → ClientGrounded (client_command m c x).now
      unfolding client_command
      command_in c x lawful sees h = called _ (commanded m Good c x (λ why e. h) (λ e y k. takes_in c x y lawful sees h (not_busy m c x e) (passed c x e) k))

      pub deliver_in : (c : Client m) (from : NodeId) (rid : ℕ) (y : Msg) → ClientGrounded c → HearsFor c from rid (reply y) → EachDelivery m objects es FoundGround c c.work from rid (reply y) → ClientGrounded (client_deliver m c from rid y).now
      unfolding client_deliver
      deliver_in c from rid y h f r =
          called _ (delivered m objects es FoundGround Along Good ends_good way all_walked c from rid (reply y) h
          (λ w t has doing a other. record {
            root = h.0;
            saves = (works w has).1;
            at = (subst (λ (d : Hand m). TaskGrounded c.stand c.view (task_in m d)) doing (works w has).0, f.answer w t has doing a);
          })
          (λ w q has is new. let less = less_of (node_eq from (layout_id from.num)) c.stand.epoch q.epoch new in record { root = h.0; saves = (works w has).1; at = ((works w has).0, omega (arith, less), f.newer w q has less) }) r)
        where
          works : (w : Work m) → c.work ≡ Some w → TaskGrounded c.stand c.view (task_in m w.hand) × SavesHosted c.hosted w.command
          works w has = subst (WorkGrounded c.stand c.hosted c.view) has h.1

      pub tick_in : (c : Client m) → ClientGrounded c → ClientGrounded (client_tick m c).now
      unfolding client_tick
      tick_in c h = by c.work
        where
          by : (w : Option (Work m)) → ClientGrounded (step.tick_by m c w).now
          by None = (record { played = h.0.played; hosted = h.0.hosted; view = h.0.view; writes = h.0.writes; puts = h.0.puts }, h.1)
          by (Some w) = (record { played = h.0.played; hosted = h.0.hosted; view = h.0.view; writes = h.0.writes; puts = h.0.puts }, h.1)
