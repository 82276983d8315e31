-- What a client keeps, so that each of its drafts has a spelling, and where a draft comes from.
use Rattle.std.proofs.Common.{◌≡◌, ℕ, ◌+◌, ◌<◌, ◌≤◌, ◌^◌, Bool, true, false, cond, List, [], ◌∷◌, Option, Some, None, refl, sym, ap, ◌∙◌, subst, arith}
use Rattle.std.specs.Prelude.{◌&&◌, ◌==◌, nat_lt}
use Rattle.tg_base.specs.declared.ids.NodeId.{NodeId}
use Rattle.tg_base.specs.declared.ids.Oid.{Oid}
use Rattle.tg_base.specs.declared.msg.Msg.{Msg}
use Rattle.tg_entry.specs.declared.entry.Entry.{Entry}
use Rattle.tg_entry.specs.Format.{tag_of, entry}
use Rattle.tg_entry.specs.Records.{is_object, is_read}
use Rattle.tg_kind.specs.Meaning.{Meaning}
use Rattle.tg_base.specs.Parts.{is_part}
use Rattle.tg_model.specs.declared.command.Command.TheVariants as cmd
use Rattle.tg_model.specs.declared.refusal.Refusal.{Refusal}
use Rattle.tg_model.specs.Kinds.{CommandOf, WhatOf, NoteOf}
use Rattle.tg_protocol.specs.Words.{directory, with_nums}
use Rattle.tg_protocol.specs.Entries.{draft, entry_size}
use Rattle.tg_protocol.specs.Replies.{Reply, reply}
use Rattle.tg_protocol.specs.Appending.{AppendWork, Asking, Append, append_start}
use Rattle.tg_protocol.specs.Syncing.{sync_start, sync_feed}
use Rattle.tg_protocol.specs.Views.{Entries, View, Play, view_version}
use Rattle.tg_protocol.specs.Checkpoints.{checkpoint}
use Rattle.tg_protocol.specs.Past.{commit_at}
use Rattle.tg_protocol.specs.Transactions.{Tx, tx_read, read_fault}
use Rattle.tg_protocol.specs.Clients.{Purpose, Decides, Saves, Marks, Task, Syncing, Walking, Appending, Trimming, Copying', Reconfiguring, Work, Client, all_entries, member_positions}
use Rattle.tg_protocol.specs.Answers.{Moved, mark_record, pruned, took_over, closed, appends, syncs, own_view, view_or_new, play_target, decision, with_decision}
use Rattle.tg_protocol.specs.ClientSteps.{task_in, goes_on, knows_page, owns, reply_feed}
use Rattle.tg_protocol.specs.Runs.{IsSpelled}
use Rattle.tg_base.specs.declared.packet.Out.{Out}
use Rattle.tg_protocol.specs.ClientSteps.{learns_for}
use Rattle.tg_law_steps.proofs.Places
use Rattle.tg_law_steps.proofs.Places.{Place, Feeds, Newer, OnSync, OnAppend, Plays}
use Rattle.tg_law_steps.proofs.Ways.{Way, FeedsSync, FeedsAppend, NewerSync, NewerAppend, Confirms, Settles, MetHigh, StartsOver, AllWalked, HasPlayed, LooksBack, IsRescue}
use Rattle.tg_law_steps.proofs.Ends as end
use Rattle.tg_law_steps.proofs.Along.{replied, over_walks}
use Rattle.tg_law_replies.specs.Plays.Sound.{IsRising, IsSound}
use Rattle.tg_law_replies.proofs.Plays.Kept.{plays_keep}
use Rattle.tg_law_walks.proofs.Walks.Positions.{all_rise, rises_filter, positions_rise}
use Rattle.tg_law_walks.proofs.Walks.Saves.{entries_rising}
use Rattle.tg_law_replies.proofs.Replies.Turns.{Keeps, feed_keeps, again_keeps}
use Rattle.tg_law_walks.specs.Drafts.Parts.{TouchParts}
use Rattle.tg_law_walks.proofs.Drafts.Ranges.{AreStreams, entry_streams}
use Rattle.tg_law_walks.proofs.Drafts.Views.{AreRead, below_read, ViewOk, version_small, play_ok, start_ok}
use Rattle.tg_law_walks.proofs.Drafts.Drafting.{Fitting, Whole, TxOk, read_ok, decision_fits, mark_fits, saving}
use Rattle.tg_law_walks.proofs.Drafts.Saving.{checkpoint_fits}
use Rattle.tg_law_walks.proofs.Drafts.Tails.{TailOk, TailNext, tail_feed_ok, tail_start_ok}

module _ (m : Meaning) where
  abbrev pub MaybeView : Option (View m) → Type 0
  MaybeView None = Unit {0}
  MaybeView (Some v) = ViewOk m v × IsSound m v

  -- an open transaction, with a number that was begun
  abbrev pub MaybeTx : ℕ → Option Tx → Type 0
  MaybeTx begun None = Unit {0}
  MaybeTx begun (Some t) = (1 ≤ t.number) × (t.number ≤ begun) × TxOk t

  -- a command that waits
  abbrev pub CommandOk : Option Tx → CommandOf m → Type 0
  CommandOk tx (cmd.Ask o q) = (is_object o ≡ true) × (is_part (m.look q) ≡ true) × ((t : Tx) → tx ≡ Some t → read_fault t o (m.look q) ≡ None)
  CommandOk tx (cmd.Checkpoint o) = is_object o ≡ true
  CommandOk tx (cmd.Forget o n) = IsSpelled m directory (m.mark_op o n)
  CommandOk tx x = Unit {0}

  -- a draft in hand: it is its client's, and has a spelling, which a checkpoint has where ops touch parts of the format
  pub record DraftOk (num : ℕ) (d : Entry) : Type 0 where
    pub client : d.head.client ≡ num
    pub fits : Fitting d
    pub spelled : TouchParts m → entry.fits d ≡ true

  pub whole_draft : (num : ℕ) (d : Entry) → d.head.client ≡ num → entry.fits d ≡ true → DraftOk num d
  whole_draft num d client fits = record { client = client; fits = Whole fits; spelled = λ parts. fits }

  abbrev pub TaskOk : ℕ → Task m → Type 0
  TaskOk num (Appending a y) = DraftOk num a.draft
  TaskOk num (Syncing s) = TailOk s.work
  TaskOk num t = Unit {0}

  abbrev pub HandOk : ℕ → Option Tx → Option (Work m) → Type 0
  HandOk num tx None = Unit {0}
  HandOk num tx (Some w) = CommandOk tx w.command × (w.tail ≤ 2 ^ 62) × TaskOk num (task_in m w.hand)

  -- few steps were taken, and a client has a number of two bytes
  pub record Few (c : Client m) : Type 0 where
    pub begun : c.begun + 1 < 2 ^ 32
    pub decisions : c.decisions + 1 < 2 ^ 32
    pub checkpoints : c.checkpoints + 1 < 2 ^ 32
    pub client : c.num < 2 ^ 16

  pub record Sound (c : Client m) : Type 0 where
    pub view : MaybeView c.view
    pub tx : MaybeTx c.begun c.tx
    pub hand : HandOk c.num c.tx c.work

  -- it asks for its first token
  abbrev pub IsAsking : AppendWork → Type 0
  IsAsking (Asking r) = Unit {0}
  IsAsking w = ⊥

  -- what a draft that is begun is of, with its new number
  pub data Kind (c : Client m) (decisions checkpoints : ℕ) (e : Entry) : Type 0 where
    OfRecord : tag_of e.body ≡ 1 → decisions ≡ c.decisions → checkpoints ≡ c.checkpoints → Kind c decisions checkpoints e
    OfDecision : tag_of e.body ≡ 2 → e.head.number ≡ c.decisions + 1 → decisions ≡ c.decisions + 1 → checkpoints ≡ c.checkpoints → Kind c decisions checkpoints e
    OfCheckpoint : tag_of e.body ≡ 3 → e.head.number ≡ c.checkpoints + 1 → decisions ≡ c.decisions → checkpoints ≡ c.checkpoints + 1 → Kind c decisions checkpoints e

  -- where the append in hand comes from: it was there, or it begins
  pub data Comes' (c d : Client m) (old : Option (Work m)) (b : Append) : Type 0 where
    Stays : (w : Work m) (a : Append) (y : Purpose m) → old ≡ Some w → task_in m w.hand ≡ Appending a y → b.draft ≡ a.draft → d.decisions ≡ c.decisions → d.checkpoints ≡ c.checkpoints → Comes' c d old b
    Begins : b.token ≡ None → IsAsking b.work → Kind c d.decisions d.checkpoints b.draft → Comes' c d old b

  abbrev pub TaskComes : (c d : Client m) → Option (Work m) → Task m → Type 0
  TaskComes c d old (Appending b y) = Comes' c d old b
  TaskComes c d old t = (d.decisions ≡ c.decisions) × (d.checkpoints ≡ c.checkpoints)

  abbrev pub HandComes : (c d : Client m) → Option (Work m) → Option (Work m) → Type 0
  HandComes c d old None = (d.decisions ≡ c.decisions) × (d.checkpoints ≡ c.checkpoints)
  HandComes c d old (Some w) = TaskComes c d old (task_in m w.hand)

  -- what a step makes of a client
  pub record Good (c : Client m) (d : Client m) : Type 0 where
    pub num : d.num ≡ c.num
    pub calls : d.calls ≡ c.calls
    pub begun : (c.begun ≤ d.begun) × (d.begun ≤ c.begun + 1)
    pub view : MaybeView d.view
    pub tx : MaybeTx d.begun d.tx
    pub hand : HandOk d.num d.tx d.work
    pub comes : HandComes c d c.work d.work

-- The client before the step, and its command in hand.
module _ (m : Meaning) (c0 : Client m) (w0 : Work m) (few : Few m c0) (tx0 : MaybeTx m c0.begun c0.tx) (command0 : CommandOk m c0.tx w0.command) where
  abbrev pub Counts : Client m → Type 0
  Counts d = (d.num ≡ c0.num) × (d.calls ≡ c0.calls) × (d.begun ≡ c0.begun) × (d.decisions ≡ c0.decisions) × (d.checkpoints ≡ c0.checkpoints)

  -- a client and its work within the step
  pub record In (c : Client m) (w : Work m) : Type 0 where
    pub counts : Counts c
    pub tx : c.tx ≡ c0.tx
    pub command : w.command ≡ w0.command
    pub tail : w.tail ≤ 2 ^ 62
    pub view : MaybeView m c.view

  pub tx_of : (d : Client m) → d.begun ≡ c0.begun → d.tx ≡ c0.tx → MaybeTx m d.begun d.tx
  tx_of d b e = subst (λ (n : ℕ). MaybeTx m n d.tx) (sym b) (subst (λ (t : Option Tx). MaybeTx m c0.begun t) (sym e) tx0)

  -- no work is left
  pub ends : (d : Client m) → Counts d → MaybeView m d.view → MaybeTx m d.begun d.tx → d.work ≡ None → Good m c0 d
  ends d k v t e = record {
    num = k.0;
    calls = k.1;
    begun = (let b = k.2 in omega (arith, b), let b = k.2 in omega (arith, b));
    view = v;
    tx = t;
    hand = subst (HandOk m d.num d.tx) (sym e) tt;
    comes = subst (HandComes m c0 d c0.work) (sym e) (k.3, k.4);
  }

  rests : (c : Client m) (w : Work m) → In c w → Good m c0 (pruned m c)
  rests c w h = ends (pruned m c) h.counts h.view (tx_of c h.counts.2 h.tx) refl

  takes : (c : Client m) (v : Option (View m)) → Counts c → MaybeView m c.view → MaybeTx m c.begun c.tx → Good m c0 (pruned m (took_over m c v))
  takes c None k v t = ends (pruned m c) k v t refl
  takes c (Some u) k v t = ends (pruned m (took_over m c (Some u))) k v t refl

  tells : (c : Client m) (w : Work m) → In c w → Good m c0 (pruned m (took_over m c c.view))
  tells c w h = takes c c.view h.counts h.view (tx_of c h.counts.2 h.tx)

  shuts : (c : Client m) (w : Work m) → In c w → Good m c0 (pruned m (took_over m (closed m c) c.view))
  shuts c w h = takes (closed m c) c.view h.counts h.view tt

  -- the command goes on
  pub onward : (d : Client m) (v : Work m) → In d v → d.work ≡ Some v → TaskOk m d.num (task_in m v.hand) → HandComes m c0 d c0.work (Some v) → Good m c0 d
  onward d v h is task comes = record {
    num = h.counts.0;
    calls = h.counts.1;
    begun = (let b = h.counts.2 in omega (arith, b), let b = h.counts.2 in omega (arith, b));
    view = h.view;
    tx = tx_of d h.counts.2 h.tx;
    hand = subst (HandOk m d.num d.tx) (sym is) (subst (λ (x : CommandOf m). CommandOk m d.tx x) (sym h.command) (subst (λ (t : Option Tx). CommandOk m t w0.command) (sym h.tx) command0), h.tail, task);
    comes = subst (HandComes m c0 d c0.work) (sym is) comes;
  }

  pub syncs_on : (c : Client m) (w : Work m) (os : List Oid) → In c w → Good m c0 (syncs m c w os).now
  unfolding syncs sync_start
  syncs_on c w os h = onward _ _ (record { counts = h.counts; tx = h.tx; command = h.command; tail = h.tail; view = h.view }) refl tt (h.counts.3, h.counts.4)

  pub starts : (c : Client m) (w : Work m) (e : Entry) (y : Purpose m) (ns : List (NoteOf m)) (b : ℕ) → c.num ≡ c0.num → c.calls ≡ c0.calls → c.begun ≡ b → c0.begun ≤ b → b ≤ c0.begun + 1 → c.tx ≡ c0.tx → w.command ≡ w0.command → w.tail ≤ 2 ^ 62 → MaybeView m c.view
      → MaybeTx m c.begun c.tx → DraftOk m c.num e → Kind m c0 c.decisions c.checkpoints e → Good m c0 (appends m c w e y ns).now
  unfolding appends append_start
  starts c w e y ns b num calls begun low high tx command tail view t draft kind = record {
    num = num;
    calls = calls;
    begun = (omega (arith, begun, low), omega (arith, begun, high));
    view = view;
    tx = t;
    hand = (subst (λ (x : CommandOf m). CommandOk m c.tx x) (sym command) (subst (λ (u : Option Tx). CommandOk m u w0.command) (sym tx) command0), tail, draft);
    comes = Begins refl tt kind;
  }

  small : (c : Client m) (w : Work m) → In c w → c.num < 2 ^ 16
  small c w h = let a = h.counts.0 in let b = few.client in omega (arith, a, b)

  read_entry : (p : ℕ) (e : Entry) (top : ℕ) (es : Entries) → AreRead top es → commit_at es p ≡ Some e → (p < top) × AreStreams e.head.streams
  unfolding commit_at
  read_entry p e top [] r is = absurd cc
  read_entry p e top (x ∷ xs) r is = by ((x.0 == p) && Rattle.tg_protocol.specs.Entries.is_commit x.1) refl is (λ f. read_entry p e top xs r.2 f)
    where
      here : ((x.0 == p) && Rattle.tg_protocol.specs.Entries.is_commit x.1) ≡ true → x.0 ≡ p
      here t = grind arith

      by : (b : Bool) → ((x.0 == p) && Rattle.tg_protocol.specs.Entries.is_commit x.1) ≡ b → cond b (Some x.1) (commit_at xs p) ≡ Some e → (commit_at xs p ≡ Some e → (p < top) × AreStreams e.head.streams) → (p < top) × AreStreams e.head.streams
      by true t f rest = (let a = here t in let b = r.0 in omega (arith, a, b), let same : x.1 ≡ e = cc in subst (λ (y : Entry). AreStreams y.head.streams) same (entry_streams r.1.page x.1 r.1.reads))
      by false t f rest = rest f

  -- a decision record of a record among what was read
  decides : (c : Client m) (w : Work m) (es : Entries) (e : Entry) (p : ℕ) (so : Bool) (y : Purpose m) → In c w → (p < w.tail) × AreStreams e.head.streams → Good m c0 (appends m (with_decision m c) w (decision m c e p so) y []).now
  decides c w es e p so y h r =
      let d = h.counts.3 in
      let b = few.decisions in
      starts (with_decision m c) w (decision m c e p so) y [] c0.begun h.counts.0 h.counts.1 h.counts.2 (omega arith) (omega arith) h.tx h.command h.tail h.view (tx_of c h.counts.2 h.tx)
      (whole_draft m c.num (decision m c e p so) refl (decision_fits c.num (c.decisions + 1) e p so r.1 (small c w h) (omega arith) (omega (arith, d, b)) (let t = h.tail in let l = r.0 in omega (arith, t, l))))
      (OfDecision refl (ap (λ (n : ℕ). n + 1) d) (ap (λ (n : ℕ). n + 1) d) h.counts.4)

  -- what an ask reads goes with its transaction
  asks : (c : Client m) (w : Work m) (p : Play m) (o : Oid) (q : m.ask) (t : Tx) → In c w → c.view ≡ Some p.view → w.command ≡ cmd.Ask o q → c.tx ≡ Some t
      → Good m c0 (pruned m (took_over m (record c { tx = Some (tx_read t (record { oid = o; part = m.look q; version = view_version m p.view o (m.look q) }) w.tail) }) c.view))
  asks c w p o q t h sees of has =
      takes (record c { tx = Some (tx_read t (record { oid = o; part = m.look q; version = view_version m p.view o (m.look q) }) w.tail) }) c.view h.counts h.view
      (old.0, old.1, read_ok t (record { oid = o; part = m.look q; version = view_version m p.view o (m.look q) }) w.tail (command.2 t (sym h.tx ∙ has)) mark old.2)
    where
      command : CommandOk m c0.tx (cmd.Ask o q)
      command = subst (CommandOk m c0.tx) (sym h.command ∙ of) command0

      view : ViewOk m p.view
      view = (subst (MaybeView m) sees h.view).0

      old : (1 ≤ t.number) × (t.number ≤ c.begun) × TxOk t
      old = subst (MaybeTx m c.begun) has (tx_of c h.counts.2 h.tx)

      mark : is_read (record { oid = o; part = m.look q; version = view_version m p.view o (m.look q) }) ≡ true
      mark = let s = version_small m p.view o (m.look q) view in let a = command.0 in let b = command.1 in grind (arith, s, a, b)

  saves : (c : Client m) (w : Work m) (p : Play m) (o : Oid) → In c w → c.view ≡ Some p.view → w.command ≡ cmd.Checkpoint o → nat_lt 4096 (entry_size (checkpoint m p.view o w.tail c.num (c.checkpoints + 1))) ≡ false
      → Good m c0 (appends m (record c { checkpoints = c.checkpoints + 1 }) w (checkpoint m p.view o w.tail c.num (c.checkpoints + 1)) (Saves o w.tail) []).now
  unfolding checkpoint
  saves c w p o h sees of e =
      starts (record c { checkpoints = c.checkpoints + 1 }) w (checkpoint m p.view o w.tail c.num (c.checkpoints + 1)) (Saves o w.tail) [] c0.begun h.counts.0 h.counts.1 h.counts.2 (omega arith) (omega arith) h.tx h.command h.tail h.view (tx_of c h.counts.2 h.tx)
      (record { client = refl; fits = saving c.num (c.checkpoints + 1) o _ refl object (small c w h) (omega arith) in_range; spelled = spelled }) (let d = h.counts.4 in OfCheckpoint refl (ap (λ (n : ℕ). n + 1) d) h.counts.3 (ap (λ (n : ℕ). n + 1) d))
    where
      view : ViewOk m p.view × IsSound m p.view
      view = subst (MaybeView m) sees h.view

      object : is_object o ≡ true
      object = subst (CommandOk m c0.tx) (sym h.command ∙ of) command0

      in_range : c.checkpoints + 1 < 2 ^ 32
      in_range = let d = h.counts.4 in let b = few.checkpoints in omega (arith, d, b)

      spelled : TouchParts m → entry.fits (checkpoint m p.view o w.tail c.num (c.checkpoints + 1)) ≡ true
      spelled parts = checkpoint_fits m parts p.view o view.0 view.1 w.tail c.num (c.checkpoints + 1) object (small c w h) (omega arith) in_range (let k = h.tail in omega (arith, k)) e

  later_tx : (c : Client m) (w : Work m) (t : Option Tx) → c.tx ≡ t → In c w → MaybeTx m (c.begun + 1) t
  later_tx c w None is h = tt
  later_tx c w (Some t) is h = let old = subst (MaybeTx m c.begun) is (tx_of c h.counts.2 h.tx) in (old.0, let a = old.1 in omega (arith, a), old.2)

  marks : (c : Client m) (w : Work m) (o : Oid) (n : ℕ) (ns : List (NoteOf m)) → In c w → w.command ≡ cmd.Forget o n → Good m c0 (appends m (record c { begun = c.begun + 1 }) w (mark_record m c o n) (Marks (c.begun + 1) o n) ns).now
  marks c w o n ns h of =
      let d = h.counts.2 in
      let b = few.begun in
      starts (record c { begun = c.begun + 1 }) w (mark_record m c o n) (Marks (c.begun + 1) o n) ns (c0.begun + 1) h.counts.0 h.counts.1 (ap (λ (k : ℕ). k + 1) d) (omega arith) (omega arith) h.tx h.command h.tail h.view (later_tx c w c.tx refl h)
      (whole_draft m c.num (mark_record m c o n) refl (mark_fits c.num (c.begun + 1) (m.spell (m.mark_op o n)) (small c w h) (omega arith) (omega (arith, d, b)) (subst (CommandOk m c0.tx) (sym h.command ∙ of) command0).fits))
      (OfRecord refl h.counts.3 h.counts.4)

  -- What was read.

  reads : (c : Client m) (w : Work m) (os : List Oid) → AreRead w.tail (all_entries m c w os)
  reads c w os = below_read m c.cells w.tail (with_nums c.own (member_positions m w os))

  rises : (c : Client m) (w : Work m) (os : List Oid) → IsRising (all_entries m c w os)
  rises c w os = entries_rising m c.cells 0 _ (rises_filter (λ p. nat_lt p w.tail) 0 (with_nums c.own (member_positions m w os)) (all_rise c.own (member_positions m w os) (positions_rise m w.found os)))

  own_ok : (c : Client m) (w : Work m) → In c w → ViewOk m (own_view m c w (all_entries m c w c.hosted)) × IsSound m (own_view m c w (all_entries m c w c.hosted))
  own_ok c w h = by c.view h.view
    where
      by : (v : Option (View m)) → MaybeView m v → ViewOk m (view_or_new m c w (all_entries m c w c.hosted) v) × IsSound m (view_or_new m c w (all_entries m c w c.hosted) v)
      by None k = start_ok m w.tail (all_entries m c w c.hosted) w.trims c.objects c.hosted (reads c w c.hosted)
      by (Some v) k = k

  -- Along a turn.

  module _ (work0 : c0.work ≡ Some w0) (task0 : TaskOk m c0.num (task_in m w0.hand)) where
    abbrev Fits : Client m → Work m → Place m → Type 0
    Fits c w (Feeds t n rid x) = (task_in m w0.hand ≡ t) × ((y : Msg) × (x ≡ reply y))
    Fits c w (Newer t n rid q) = task_in m w0.hand ≡ t
    Fits c w (OnSync bs to) = TailNext to
    Fits c w (OnAppend y bs to) = (a : Append) × (task_in m w0.hand ≡ Appending a y) × Keeps a.draft to
    Fits c w (Plays es p) = AreRead w.tail es × (c.view ≡ Some p.view)
    Fits c w p = Unit {0}

    pub record Along (c : Client m) (w : Work m) (p : Place m) : Type 0 where
      pub held : In c w
      pub fits : Fits c w p

    within : {c d : Client m} {w v : Work m} → In c w → Counts d → d.tx ≡ c.tx → v.command ≡ w.command → v.tail ≡ w.tail → d.view ≡ c.view → In d v
    within h k t e l v = record { counts = k; tx = t ∙ h.tx; command = e ∙ h.command; tail = subst (λ (n : ℕ). n ≤ 2 ^ 62) (sym l) h.tail; view = subst (MaybeView m) (sym v) h.view }

    pub way : (c : Client m) (w : Work m) (p : Place m) (d : Client m) (v : Work m) (q : Place m) → Way m c w p d v q → Along c w p → Along d v q
    way c w _ _ _ _ (FeedsSync s n rid x) h = record {
      held = within h.held h.held.counts refl refl refl refl;
      fits = subst (λ (z : Reply). TailNext (sync_feed c.stand s s.work n z c.next).to) (sym h.fits.1.1) (tail_feed_ok c.stand s n h.fits.1.0 c.next (subst (TaskOk m c0.num) h.fits.0 task0));
    }
    way c w _ _ _ _ (FeedsAppend a y n rid x) h = record { held = within h.held h.held.counts refl refl refl refl; fits = (a, h.fits.0, feed_keeps c.stand a n x c.next) }
    way c w _ _ _ _ (NewerSync s n rid q) h = record { held = within h.held h.held.counts refl refl refl refl; fits = tail_start_ok s.oids c.next }
    way c w _ _ _ _ (NewerAppend a y n rid q) h = record { held = within h.held h.held.counts refl refl refl refl; fits = (a, h.fits, again_keeps q a c.next) }
    way c w _ _ _ _ (Confirms bs t ls) h = record { held = record { counts = h.held.counts; tx = h.held.tx; command = h.held.command; tail = h.fits; view = h.held.view }; fits = tt }
    way c w _ _ _ _ (Settles bs t ls s) h = record { held = record { counts = h.held.counts; tx = h.held.tx; command = h.held.command; tail = h.fits; view = h.held.view }; fits = tt }
    way c w _ _ _ _ (MetHigh o os x b e f z) h = record { held = record { counts = h.held.counts; tx = h.held.tx; command = h.held.command; tail = h.held.tail; view = tt }; fits = tt }
    way c w _ _ _ _ (StartsOver o os x b e f z) h = record { held = record { counts = h.held.counts; tx = h.held.tx; command = h.held.command; tail = h.held.tail; view = tt }; fits = tt }
    way c w _ _ _ _ x h = record { held = record { counts = h.held.counts; tx = h.held.tx; command = h.held.command; tail = h.held.tail; view = h.held.view }; fits = tt }

    pub walked_way : (c : Client m) (w : Work m) (d : Client m) (q : Place m) → AllWalked m c w d q → Along c w (Places.Walks []) → Along d w q
    walked_way c w _ _ (HasPlayed k) h =
        let v = own_ok c w h.held in
        let target = play_target m w w.command in
        record {
          held = record {
            counts = h.held.counts;
            tx = h.held.tx;
            command = h.held.command;
            tail = h.held.tail;
            view = (
              play_ok m (own_view m c w (all_entries m c w c.hosted)) (all_entries m c w c.hosted) w.tail target h.held.tail (reads c w c.hosted) v.0,
              plays_keep m (all_entries m c w c.hosted) (own_view m c w (all_entries m c w c.hosted)) target (rises c w c.hosted) v.1,
            );
          };
          fits = (reads c w c.hosted, refl);
        }
    walked_way c w _ _ (LooksBack at o q of) h = record { held = h.held; fits = tt }
    walked_way c w _ _ (IsRescue at of) h = record { held = h.held; fits = tt }

    draft_of : (num : ℕ) (a b : Append) (y : Purpose m) → num ≡ c0.num → task_in m w0.hand ≡ Appending a y → b.draft ≡ a.draft → DraftOk m num b.draft
    draft_of num a b y n is e = subst (λ (k : ℕ). DraftOk m k b.draft) (sym n) (subst (DraftOk m c0.num) (sym e) (subst (TaskOk m c0.num) is task0))

    goes : (c : Client m) (w : Work m) (p : Place m) (d : Client m) (t : Task m) (bs : List Out) → end.IsGoing m c w p d t bs → Along c w p → Good m c0 (goes_on m d w t bs).now
    goes c w _ _ _ bs (end.AppendGoes y _ b) h =
        onward _ _ (within h.held h.held.counts refl refl refl refl) refl (draft_of c.num h.fits.0 b y h.held.counts.0 h.fits.1 h.fits.2) (Stays w0 h.fits.0 y work0 h.fits.1 h.fits.2 h.held.counts.3 h.held.counts.4)
    goes c w _ _ _ _ (end.SyncGoes bs s) h = onward _ _ (within h.held h.held.counts refl refl refl refl) refl h.fits (h.held.counts.3, h.held.counts.4)
    goes c w _ _ _ _ x h = onward _ _ (within h.held h.held.counts refl refl refl refl) refl tt (h.held.counts.3, h.held.counts.4)

    learns : (c : Client m) (w : Work m) (p : Place m) (t : Task m) → end.IsLearning m c w p t → Along c w p → Good m c0 (learns_for m c w t).now
    learns c w _ _ (end.AppendLearns y bs b) h =
        onward _ _ (within h.held h.held.counts refl refl refl refl) refl (draft_of c.num h.fits.0 b y h.held.counts.0 h.fits.1 h.fits.2) (Stays w0 h.fits.0 y work0 h.fits.1 h.fits.2 h.held.counts.3 h.held.counts.4)
    learns c w _ _ (end.SyncLearns bs s) h = onward _ _ (within h.held h.held.counts refl refl refl refl) refl h.fits (h.held.counts.3, h.held.counts.4)
    learns c w _ _ x h = onward _ _ (within h.held h.held.counts refl refl refl refl) refl tt (h.held.counts.3, h.held.counts.4)

    syncing : (c : Client m) (w : Work m) (p : Place m) (d : Client m) (v : Work m) (os : List Oid) → end.IsSynced m c w p d v os → Along c w p → Good m c0 (syncs m d v os).now
    syncing c w _ d v os (end.StaleHigh o ws x b e f) h = syncs_on d v os (record { counts = h.held.counts; tx = h.held.tx; command = h.held.command; tail = h.held.tail; view = tt })
    syncing c w _ d v os x h = syncs_on d v os (record { counts = h.held.counts; tx = h.held.tx; command = h.held.command; tail = h.held.tail; view = h.held.view })

    appending : (c : Client m) (w : Work m) (p : Place m) (d : Client m) (e : Entry) (y : Purpose m) (ns : List (NoteOf m)) → end.IsAppended m c w p d e y ns → Along c w p → Good m c0 (appends m d w e y ns).now
    appending c w _ _ _ _ _ (end.EndDecides es p upto e so what of a i j l) h = decides c w es e w.at so (Decides what) h.held (read_entry w.at e w.tail es h.fits.0 i)
    appending c w _ _ _ _ _ (end.DecideDecides es p at e d so of t k i v s l) h = decides c w es e at so _ h.held (read_entry at e w.tail es h.fits.0 i)
    appending c w _ _ _ _ _ (end.SaveBegins es p upto o of a l) h = saves c w p o h.held h.fits.1 of l
    appending c w _ _ _ _ ns (end.MarkBegins es p upto o n of a f) h = marks c w o n ns h.held of
    appending c w _ _ _ _ _ (end.RescueDecides at so e k i) h = decides c w (all_entries m c w w.oids) e at so _ h.held (read_entry at e w.tail (all_entries m c w w.oids) (reads c w w.oids) i)

    refusing : (c : Client m) (w : Work m) (p : Place m) (d : Client m) (n : ℕ) (why : Refusal) → end.IsRefused m c w p d n why → In c w → Good m c0 (pruned m d)
    refusing c w _ _ _ _ (end.RecordForgotten y bs p b of) h = ends (pruned m (closed m c)) h.counts h.view tt refl
    refusing c w _ d _ _ x h = rests d w (record { counts = h.counts; tx = h.tx; command = h.command; tail = h.tail; view = h.view })

    answering : (c : Client m) (w : Work m) (p : Place m) (d : Client m) (n : ℕ) (what : WhatOf m) → end.IsAnswered m c w p d n what → Along c w p → Good m c0 (pruned m (took_over m d d.view))
    answering c w _ d _ _ (end.DecidedAt x bs p page other) h = tells d w (within h.held h.held.counts refl refl refl refl)
    answering c w _ d _ _ (end.JudgedSo x bs p page of) h = shuts (knows_page m c p page) w (within h.held h.held.counts refl refl refl refl)
    answering c w _ d _ _ (end.JudgedLost x bs e l of) h = shuts c w h.held
    answering c w _ d _ _ (end.IsSaved o upto bs p page) h = tells d w (within h.held h.held.counts refl refl refl refl)
    answering c w _ d _ _ (end.IsAsked es p o q upto t s of a has is) h = asks c w p o q t h.held h.fits.1 of has
    answering c w _ d _ _ (end.EndBlocked es p q x of a) h = shuts c w h.held
    answering c w _ d _ _ (end.EndUnsure es p upto of a k) h = shuts c w h.held
    answering c w _ d _ _ (end.EndJudged es p upto e so what of a i j l) h = shuts c w h.held
    answering c w _ d _ _ x h = tells c w h.held

    telling : (c : Client m) (w : Work m) (p : Place m) (d : Client m) (ns : List (NoteOf m)) → end.IsTold m c w p d ns → In c w → Good m c0 (pruned m d)
    telling c w _ d _ (end.IsCommitted bs p page) h = ends (pruned m d) h.counts h.view tt refl
    telling c w _ _ _ (end.IsMarked n o mark bs p page) h = takes (owns m c p page) c.view h.counts h.view (tx_of c h.counts.2 h.tx)
    telling c w _ d _ x h = rests d w (record { counts = h.counts; tx = h.tx; command = h.command; tail = h.tail; view = h.view })

    pub ends_good : (c : Client m) (w : Work m) (p : Place m) (x : Moved m) → end.End m c w p x → Along c w p → Good m c0 x.now
    ends_good c w p _ (end.GoesOn d t bs x) h = goes c w p d t bs x h
    ends_good c w p _ (end.LearnsNewer t x) h = learns c w p t x h
    ends_good c w p _ (end.Syncs d v os x) h = syncing c w p d v os x h
    ends_good c w p _ (end.Appends d e y ns x) h = appending c w p d e y ns x h
    ends_good c w p _ (end.Refuses d n why x) h = refusing c w p d n why x h.held
    ends_good c w p _ (end.Answers d n what x) h = answering c w p d n what x h
    ends_good c w p _ (end.Tells d ns x) h = telling c w p d ns x h.held

module _ (m : Meaning) where
  -- nothing changes but numbers of requests
  abbrev SameHand : Client m → Option (Work m) → Type 0
  SameHand c w = c.work ≡ w

  pub same_comes : (c : Client m) (w : Option (Work m)) → c.work ≡ w → HandComes m c c c.work w
  same_comes c None is = (refl, refl)
  same_comes c (Some w) is = by (task_in m w.hand) refl
    where
      by : (t : Task m) → task_in m w.hand ≡ t → TaskComes m c c c.work t
      by (Appending a y) at = Stays w a y is at refl refl refl
      by (Syncing s) at = (refl, refl)
      by (Walking k os) at = (refl, refl)
      by (Trimming t) at = (refl, refl)
      by (Copying' x) at = (refl, refl)
      by (Reconfiguring r) at = (refl, refl)

  pub same_good : (c : Client m) → Sound m c → Good m c c
  same_good c s = record { num = refl; calls = refl; begun = (omega arith, omega arith); view = s.view; tx = s.tx; hand = s.hand; comes = same_comes c c.work refl }

  pub deliver_good : (c : Client m) (from : NodeId) (rid : ℕ) (y : Msg) → Few m c → Sound m c → Good m c (Rattle.tg_protocol.specs.ClientSteps.feed m c c.work from rid (reply y)).now
  deliver_good c from rid y few s = by c.work refl
    where
      works : (w : Work m) → c.work ≡ Some w → HandOk m c.num c.tx (Some w) → Good m c (reply_feed m c w from rid (reply y)).now
      works w is k =
          replied m (Along m c w few s.tx k.0 is k.2) (λ x. Good m c x.now) (ends_good m c w few s.tx k.0 is k.2) (way m c w few s.tx k.0 is k.2)
          (over_walks m (Along m c w few s.tx k.0 is k.2) (λ x. Good m c x.now) (ends_good m c w few s.tx k.0 is k.2) (walked_way m c w few s.tx k.0 is k.2)) c w from rid (reply y) (same_good c s)
          (λ t doing a other. record { held = record { counts = (refl, refl, refl, refl, refl); tx = refl; command = refl; tail = k.1; view = s.view }; fits = (ap (task_in m) doing, (y, refl)) })
          (λ q latest new. record { held = record { counts = (refl, refl, refl, refl, refl); tx = refl; command = refl; tail = k.1; view = s.view }; fits = refl })

      by : (w : Option (Work m)) → c.work ≡ w → Good m c (Rattle.tg_protocol.specs.ClientSteps.feed m c w from rid (reply y)).now
      by None is = same_good c s
      by (Some w) is = works w is (subst (HandOk m c.num c.tx) is s.hand)
