-- The reads of each commit record of the log rise.
use Rattle.std.proofs.Common.{◌≡◌, ℕ, [], ◌∷◌, ◌++◌, Bool, true, false, sym, ap, ◌∙◌, subst, Option, Some, None}
use Rattle.tg_base.specs.Clusters.{Header}
use Rattle.tg_entry.specs.declared.entry.Entry.{Entry}
use Rattle.tg_entry.specs.declared.entry.Body.{Body}
use Rattle.tg_entry.specs.declared.entry.Body.TheVariants.{Commit, Decision, Checkpoint}
use Rattle.tg_entry.specs.Format.{tag_of}
use Rattle.tg_entry.specs.Needs.{reads_of}
use Rattle.tg_kind.specs.Meaning.{Meaning}
use Rattle.tg_model.specs.Kinds.{EventOf}
use Rattle.tg_protocol.specs.Entries.{is_commit, body_commits}
use Rattle.tg_protocol.specs.Appending.{Append}
use Rattle.tg_protocol.specs.Transactions.{Tx, commit_record}
use Rattle.tg_protocol.specs.Clients.{Task, Syncing, Walking, Appending, Trimming, Copying', Reconfiguring, Work, Client, new_client}
use Rattle.tg_protocol.specs.Answers.{Moved}
use Rattle.tg_protocol.specs.ClientSteps.{task_in}
use Rattle.tg_protocol.specs.Words.{numbers}
use Rattle.tg_protocol.specs.Worlds.{World, start, client, happens}
use Rattle.tg_protocol.specs.Runs.{Moves, Next, Takes, Reaches, run}
use Rattle.tg_protocol.specs.Alike.{HasEntry}
use Rattle.tg_protocol.specs.Holding.{append_of, append_by, WasBegun}
use Rattle.tg_law_layouts.specs.Moves.After.{after}
use Rattle.tg_law_layouts.proofs.Moves.Always.{lawful_give}
use Rattle.tg_law_layouts.proofs.Moves.Lists.{at_map}
use Rattle.tg_law_replies.proofs.Books.Effects.{Idle, Onward, Same', Walks, Lands, Begins, Effect, On, Quits, Closes, Asks, Marks'}
use Rattle.tg_law_replies.proofs.Books.Commands.{Refuses, Takes', Nothing, Opening, Putting, Answering, Ending, EndingLater, Dropping, Beginning, Turned, Idles, Works, Taking}
use Rattle.tg_law_replies.proofs.Books.Commands as turn
use Rattle.tg_law_replies.proofs.Books.Worlds.{nil_right, regroup, run_both, Stepped, Rests, Turns, step, start_book, run_book}
use Rattle.tg_law_walks.proofs.Drafts.Drafts.{records_were_begun}
use Rattle.tg_law_walks.proofs.Drafts.Sound.{MaybeTx}
use Rattle.tg_law_walks.proofs.Drafts.Written.{state_at}
use Rattle.tg_tx.specs.Pendings.{read_cmp, Rising}

-- a draft's reads rise
abbrev pub DraftRises : Entry → Type 0
DraftRises d = is_commit d ≡ true → Rising read_cmp (reads_of d)

module _ (m : Meaning) where
  abbrev TaskRises : Task m → Type 0
  TaskRises (Appending a y) = DraftRises a.draft
  TaskRises t = Unit {0}

  abbrev WorkRises : Option (Work m) → Type 0
  WorkRises None = Unit {0}
  WorkRises (Some w) = TaskRises (task_in m w.hand)

  idle_rises : (t : Task m) → Idle m t → TaskRises t
  idle_rises (Appending a y) i = absurd i
  idle_rises (Syncing s) i = tt
  idle_rises (Walking k os) i = tt
  idle_rises (Trimming t) i = tt
  idle_rises (Copying' c) i = tt
  idle_rises (Reconfiguring r) i = tt

  -- the transaction in hand
  abbrev TxRises : Option Tx → Type 0
  TxRises o = (t : Tx) → o ≡ Some t → Rising read_cmp t.reads

  tx_rises : (begun : ℕ) (o : Option Tx) → MaybeTx m begun o → TxRises o
  tx_rises begun None h t e = absurd (no e)
    where
      no : None ≡ Some t → ⊥
      no z = cc
  tx_rises begun (Some u) h t e = subst (λ (x : Tx). Rising read_cmp x.reads) (one e) h.2.rise
    where
      one : Some u ≡ Some t → u ≡ t
      one z = cc

  record_rises : (t : Tx) (k : ℕ) → Rising read_cmp t.reads → DraftRises (commit_record t k)
  unfolding commit_record
  record_rises t k h c = h

  none_rises : (o : Option (Work m)) → o ≡ None → WorkRises o
  none_rises o e = subst WorkRises (sym e) tt

  works_rise : (o : Option (Work m)) (v : Work m) (t : Task m) → o ≡ Some v → task_in m v.hand ≡ t → TaskRises t → WorkRises o
  works_rise o v t e is h = subst WorkRises (sym e) (subst TaskRises (sym is) h)

  never_commits : (d : Entry) → is_commit d ≡ false → DraftRises d
  never_commits d other c = absurd (both (is_commit d) other c)
    where
      both : (b : Bool) → b ≡ false → b ≡ true → ⊥
      both b e f = absurd cc

  onward_rises : (c : Client m) (w : Work m) (end : _) (v : Work m) → TaskRises (task_in m w.hand) → Onward m c w end v → TaskRises (task_in m v.hand)
  onward_rises c w end v h (Same' a b y was is draft at) = subst TaskRises (sym is) (subst DraftRises (sym draft) (subst TaskRises was h))
  onward_rises c w end v h (Walks was is suits at) = idle_rises (task_in m v.hand) is
  onward_rises c w end v h (Lands a p page was ends at is suits) = idle_rises (task_in m v.hand) is
  onward_rises c w end v h (Begins a y was is other kind of suits at) = subst TaskRises (sym is) (never_commits a.draft other)

  effect_rises : (c : Client m) (w : Work m) (end : _) (r : Moved m) → TaskRises (task_in m w.hand) → Effect m c w end r → WorkRises r.now.work
  effect_rises c w end r h (On s notes v is same on) = subst WorkRises (sym is) (onward_rises c w end v h on)
  effect_rises c w end r h (Quits s none q) = none_rises r.now.work none
  effect_rises c w end r h (Closes s none e what notes z) = none_rises r.now.work none
  effect_rises c w end r h (Asks a) = none_rises r.now.work a.idle
  effect_rises c w end r h (Marks' y) = works_rise r.now.work y.work _ y.works y.appends (subst DraftRises (sym y.draft) (λ z. tt))

  taking_rises : (c : Client m) (x : _) (r : Moved m) → TxRises c.tx → Taking m c x r → WorkRises r.now.work
  taking_rises c x r h (Nothing s none z) = none_rises r.now.work none
  taking_rises c x r h (Opening p) = none_rises r.now.work p.work
  taking_rises c x r h (Putting p) = none_rises r.now.work p.work
  taking_rises c x r h (Answering a) = none_rises r.now.work a.work
  taking_rises c x r h (Ending e) = none_rises r.now.work e.work
  taking_rises c x r h (EndingLater e) = works_rise r.now.work e.work _ e.works e.appends (subst DraftRises (sym e.draft) (record_rises e.of c.num (h e.of e.from)))
  taking_rises c x r h (Dropping d) = none_rises r.now.work d.work
  taking_rises c x r h (Beginning b) = subst WorkRises (sym b.works) (idle_rises (task_in m b.work.hand) b.idle)

  turned_rises : (c : Client m) (r : Moved m) → TxRises c.tx → WorkRises c.work → Turned m c r → WorkRises r.now.work
  turned_rises c r h k (Idles s same notes) = subst WorkRises (sym same) k
  turned_rises c r h k (Works w end has e) = effect_rises c w end r (subst WorkRises has k) e
  turned_rises c r h k (turn.Takes x (Refuses why is e)) = subst (λ (y : Moved m). WorkRises y.now.work) (sym e) k
  turned_rises c r h k (turn.Takes x (Takes' idle fine t)) = taking_rises c x r h t

  abbrev AllRise : World m → Type 0
  AllRise w = (k : ℕ) → WorkRises (client m w k).work

  stepped_rises : (k : ℕ) (e : EventOf m) (w v : World m) → TxRises (client m w k).tx → WorkRises (client m w k).work → Stepped m k e w v → WorkRises (client m v k).work
  stepped_rises k e w v h g (Rests c ys t alone) = subst (λ (d : Client m). WorkRises d.work) (sym c) g
  stepped_rises k e w v h g (Turns r t f x c y) = subst (λ (d : Client m). WorkRises d.work) (sym c) (turned_rises (client m w k) r h g t)

  new_rises : (h : Header) (j : ℕ) → WorkRises (new_client m h j).work
  unfolding new_client
  new_rises h j = tt

  start_rises : (h : Header) → AllRise (start m h)
  unfolding start
  start_rises h k = at_map (new_client m h) (numbers h.clients 0) k (new_client m h k) (λ (c : Client m). WorkRises c.work) (new_rises h) (new_rises h k)

-- Through each world of a run.
module _ (m : Meaning) (h : Header) (ms : Moves m) (r : Reaches m h ms (after m h ms)) where
  txs : (xs ys : Moves m) → ms ≡ xs ++ ys → (k : ℕ) → TxRises m (client m (after m h xs) k).tx
  txs xs ys e k =
      let s = state_at m h ms r.header (lawful_give m (start m h).cluster ms r.goes.lawful) r.goes.few xs ys e in
      tx_rises m (client m (after m h xs) k).begun (client m (after m h xs) k).tx (s.clients.sound k).tx

  -- in the world after some of these moves, by those before it
  rises_on : (done zs rest : Moves m) → ms ≡ (done ++ zs) ++ rest → AllRise m (after m h done) → AllRise m (after m h (done ++ zs))
  unfolding run
  rises_on done [] rest e st = subst (λ (xs : Moves m). AllRise m (after m h xs)) (sym (nil_right done)) st
  rises_on done (Next ∷ zs) rest e st =
      subst (λ (xs : Moves m). AllRise m (after m h xs)) (regroup done (Next ∷ []) zs)
      (rises_on (done ++ Next ∷ []) zs rest (e ∙ ap (λ (xs : Moves m). xs ++ rest) (sym (regroup done (Next ∷ []) zs))) (subst (AllRise m) (sym (run_both m done (Next ∷ []) (start m h))) st))
  rises_on done (Takes x ∷ zs) rest e st =
      subst (λ (xs : Moves m). AllRise m (after m h xs)) (regroup done (Takes x ∷ []) zs)
      (rises_on (done ++ Takes x ∷ []) zs rest (e ∙ ap (λ (xs : Moves m). xs ++ rest) (sym (regroup done (Takes x ∷ []) zs)))
      (subst (AllRise m) (sym (run_both m done (Takes x ∷ []) (start m h)))
      (λ k. stepped_rises m k x (after m h done) (happens m (after m h done) x) (txs done ((Takes x ∷ zs) ++ rest) (e ∙ regroup done (Takes x ∷ zs) rest) k) (st k)
      (step m (after m h done) x (run_book m done (start m h) (start_book m h)) k))))

  rises : (before after' : Moves m) → ms ≡ before ++ after' → AllRise m (after m h before)
  unfolding run
  rises before rest e = rises_on [] before rest e (start_rises m h)

  hand_rises : (w : Option (Work m)) (a : Append) → append_by m w ≡ Some a → WorkRises m w → DraftRises a.draft
  hand_rises None a is h = absurd (no is)
    where
      no : None ≡ Some a → ⊥
      no z = cc
  hand_rises (Some w) a is h = by (task_in m w.hand) is h
    where
      one : (b : Append) → Some b ≡ Some a → b ≡ a
      one b z = cc

      no : None ≡ Some a → ⊥
      no z = cc

      by : (t : Task m) → append_of m t ≡ Some a → TaskRises m t → DraftRises a.draft
      by (Appending b y) z k = subst (λ (x : Append). DraftRises x.draft) (one b z) k
      by (Syncing s) z k = absurd (no z)
      by (Walking j os) z k = absurd (no z)
      by (Trimming t) z k = absurd (no z)
      by (Copying' c) z k = absurd (no z)
      by (Reconfiguring y) z k = absurd (no z)

  -- so it is of the log
  pub log_rises : (p : ℕ) (e : Entry) → HasEntry m (after m h ms) p e → is_commit e ≡ true → Rising read_cmp (reads_of e)
  log_rises p e i commit = by (records_were_begun m h ms (after m h ms) r p e i (not_saved e.body commit))
    where
      not_saved : (b : Body) → body_commits b ≡ true → tag_of b ≡ 3 → ⊥
      not_saved (Commit rs ws) c t = absurd cc
      not_saved (Decision at so) c t = absurd cc
      not_saved (Checkpoint o u v whole keys state) c t = absurd cc

      by : WasBegun m h ms e → Rising read_cmp (reads_of e)
      by g =
          let held = hand_rises (client m g.at e.head.client).work g.append g.begun (subst (AllRise m) (sym g.passed.is) (rises g.passed.before g.passed.after g.passed.split) e.head.client) in
          subst (λ (x : Entry). Rising read_cmp (reads_of x)) (sym g.draft) (held (subst (λ (x : Entry). is_commit x ≡ true) g.draft commit))
