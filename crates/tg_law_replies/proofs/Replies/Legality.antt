-- A run is legal where what it tells is so.
use Rattle.std.proofs.Common.{◌≡◌, ◌≢◌, ◌⊎◌, ℕ, List, [], true, false, refl, sym, ap, ◌∙◌, subst, inl, inr, Contains}
use Rattle.std.specs.List.{list_all}
use Rattle.tg_base.specs.declared.ids.Oid.{Oid}
use Rattle.tg_base.specs.declared.marks.Part.{Part}
use Rattle.tg_base.specs.declared.marks.ReadMark.{ReadMark}
use Rattle.tg_entry.specs.declared.entry.WriteOp.{WriteOp}
use Rattle.tg_entry.specs.declared.entry.Body.{Body}
use Rattle.tg_entry.specs.declared.entry.Body.TheVariants.{Commit, Decision, Checkpoint}
use Rattle.tg_entry.specs.declared.entry.Entry.{Entry}
use Rattle.tg_kind.specs.Meaning.{Meaning}
use Rattle.tg_model.specs.declared.trace.What.TheVariants as told
use Rattle.tg_model.specs.Kinds.{DoneOf}
use Rattle.tg_model.specs.Stores.{History, changes, has_stamp, is_stamp}
use Rattle.tg_model.specs.Traces.{Trace, Tells, puts_of, IsOf, HasNone}
use Rattle.tg_model.specs.Legal.{Legal, AsksHoldAt, IsCommitted, IsAborted, EntriesRight}
use Rattle.tg_entry.specs.Needs.{reads_of, writes_in, writes_of}
use Rattle.tg_protocol.specs.Entries.{body_commits, is_commit}
use Rattle.tg_protocol.specs.Views.{Entries}
use Rattle.tg_protocol.specs.Logs.{is_current, changes_below, done_at, history_after}
use Rattle.tg_law_replies.specs.Plays.Sound.{IsRising}
use Rattle.tg_law_replies.specs.History.Logs.{writes_to, AreOps, AreSpelled, version_below, commits, HasChange, HasOutcome}
use Rattle.tg_law_replies.proofs.History.Members.{has_contained, contained_has, same_number, number_same, and_both, contrary, passes_somewhere, all_pass, none_passes}
use Rattle.tg_law_replies.proofs.History.Ledger.{one_entry}
use Rattle.tg_law_replies.proofs.History.Versions.{commits_at, versions_change}
use Rattle.tg_law_replies.proofs.History.States.{Apart, log_answers_stay}
use Rattle.tg_law_replies.proofs.History.History.{has_made, made_has, changes_are, versions_are_changes}
use Rattle.tg_law_replies.specs.Replies.Told.{IsOfAsk, HasRecordOf, HasFailed, TellsTrue, TellingIsLegal}

module _ (m : Meaning) (apart : Apart m) (objects : List Oid) (es : Entries) (trace : Trace m) (rising : IsRising es) (so : TellsTrue m objects es trace) where
  -- only a commit record writes
  spelled : AreSpelled m es
  spelled p e i = by e.body (λ commit. (so.records p e i commit).ops)
    where
      by : (b : Body) → (body_commits b ≡ true → AreOps m (writes_in b)) → AreOps m (writes_in b)
      by (Commit rs ws) h = h refl
      by (Decision at so) h = λ w j. absurd (has_contained [] w j)
      by (Checkpoint o u v whole keys state) h = λ w j. absurd (has_contained [] w j)

  abbrev history : History m
  history = history_after m [] es

  -- Transactions of the history, and records that commit.

  pub record IsMade (d : DoneOf m) : Type 0 where
    pub at : ℕ
    pub entry : Entry
    pub here : Contains es (at, entry)
    pub commit : is_commit entry ≡ true
    pub outcome : commits m objects es at entry ≡ true
    pub is : d ≡ done_at m at entry

  commit_of : (p : ℕ) (e : Entry) → commits m objects es p e ≡ true → is_commit e ≡ true
  commit_of p e c = (and_both (is_commit e) (list_all (is_current m (changes_below m [] es p)) (reads_of e)) c).0

  made : (d : DoneOf m) → Contains history d → IsMade d
  made d i =
      let h = has_made m [] 0 es d rising (has_contained history d i) in
      let c = sym (commits_at m objects es rising h.at h.entry) ∙ h.commit in
      record { at = h.at; entry = h.entry; here = contained_has es (h.at, h.entry) h.here; commit = commit_of h.at h.entry c; outcome = c; is = h.is }

  stands : (p : ℕ) (e : Entry) → Contains es (p, e) → commits m objects es p e ≡ true → Contains history (done_at m p e)
  stands p e i c = contained_has history (done_at m p e) (made_has m [] 0 es p e rising (has_contained es (p, e) i) (commits_at m objects es rising p e ∙ c))

  made_of : (d : DoneOf m) (h : IsMade d) (k x : ℕ) → IsOf m d k x → HasRecordOf es h.at k x
  made_of d h k x of = record {
    entry = h.entry;
    here = h.here;
    commit = h.commit;
    client = sym (ap (λ (t : DoneOf m). t.client) h.is) ∙ of.0;
    number = sym (ap (λ (t : DoneOf m). t.number) h.is) ∙ of.1;
  }

  stamp_of : (d : DoneOf m) (h : IsMade d) → d.stamp ≡ h.at
  stamp_of d h = ap (λ (t : DoneOf m). t.stamp) h.is

  same_entry : (p q : ℕ) (d e : Entry) → p ≡ q → Contains es (p, d) → Contains es (q, e) → d ≡ e
  same_entry p q d e is i j = one_entry 0 es q d e rising (has_contained es (q, d) (subst (λ (n : ℕ). Contains es (n, d)) is i)) (has_contained es (q, e) j)

  -- Asks.

  current : (p : ℕ) (e : Entry) (r : ReadMark) → commits m objects es p e ≡ true → Contains (reads_of e) r → version_below m objects es p r.oid r.part ≡ r.version
  current p e r c i =
      same_number (version_below m objects es p r.oid r.part) r.version
      (all_pass (is_current m (changes_below m [] es p)) (reads_of e) (and_both (is_commit e) (list_all (is_current m (changes_below m [] es p)) (reads_of e)) c).1 r (has_contained (reads_of e) r i))

  holds : (p : ℕ) (e : Entry) → Contains es (p, e) → commits m objects es p e ≡ true → AsksHoldAt m objects history trace e.head.client e.head.number p
  holds p e i c o q t a asked =
      let r = (so.records p e i (commit_of p e c)).asks o q t a asked in
      let le = r.0 in (
        le,
        so.answers e.head.client e.head.number o q t a asked
            ∙ sym (log_answers_stay m apart objects es t p o q rising le (current p e (record { oid = o; part = m.look q; version = version_below m objects es t o (m.look q) }) c r.1)),
      )

  holds_of : (p k x : ℕ) (r : HasRecordOf es p k x) → commits m objects es p r.entry ≡ true → AsksHoldAt m objects history trace k x p
  holds_of p k x r c =
      subst (λ (i : ℕ). AsksHoldAt m objects history trace i x p) r.client
      (subst (λ (i : ℕ). AsksHoldAt m objects history trace r.entry.head.client i p) r.number (holds p r.entry r.here c))

  puts_are : (p k x : ℕ) (r : HasRecordOf es p k x) → (done_at m p r.entry).writes ≡ puts_of m trace k x
  puts_are p k x r = (so.records p r.entry r.here r.commit).writes ∙ (ap (λ (i : ℕ). puts_of m trace i r.entry.head.number) r.client ∙ ap (λ (i : ℕ). puts_of m trace k i) r.number)

  -- The clauses.

  committed : (k x p : ℕ) → Tells m trace k x (told.Committed p) → puts_of m trace k x ≢ [] → IsCommitted m objects history trace k x p
  committed k x p tells puts =
      let c = so.committed k x p tells puts in
      record {
        done = done_at m p c.0.entry;
        here = stands p c.0.entry c.0.here c.1;
        stamp = refl;
        of = (c.0.client, c.0.number);
        writes = puts_are p k x c.0;
        asks = holds_of p k x c.0 c.1;
      }

  aborted_none : (k x p : ℕ) (o : Oid) (part : Part) (seen now : ℕ) → Tells m trace k x (told.Aborted p o part seen now) → HasNone m history k x
  aborted_none k x p o part seen now tells d i of =
      let f = so.aborted k x p o part seen now tells in
      let h = made d i in
      let same = so.once h.at p k x (made_of d h k x of) f.rec in
      contrary (commits m objects es p f.rec.entry) f.outcome
      (ap (λ (n : ℕ). commits m objects es n f.rec.entry) (sym same) ∙ (ap (λ (e : Entry). commits m objects es h.at e) (sym (same_entry h.at p h.entry f.rec.entry same h.here f.rec.here)) ∙ h.outcome))

  changes_of : (p : ℕ) (e : Entry) (w : WriteOp) (o : Oid) (k : Part) → Contains es (p, e) → Contains (writes_of e) w → writes_to m o k w ≡ true → changes m (done_at m p e) o k ≡ true
  changes_of p e w o k i j to =
      changes_are m o k 0 (writes_of e) (λ v l. spelled p e i v (contained_has (writes_of e) v l)) ∙ passes_somewhere (writes_to m o k) (writes_of e) w (has_contained (writes_of e) w j) to

  cause_of : (k x p : ℕ) (o : Oid) (part : Part) (seen now : ℕ) → HasFailed m objects es trace p k x o part seen now → IsAborted m history trace k x p o part seen now
  cause_of k x p o part seen now f = by (versions_change m objects es a.snapshot p o part rising a.before)
    where
      a : IsOfAsk m objects es trace f.rec.entry.head.client f.rec.entry.head.number p (record { oid = o; part = part; version = seen })
      a = (so.records p f.rec.entry f.rec.here f.rec.commit).reads (record { oid = o; part = part; version = seen }) f.read

      asked : Tells m trace k x (told.Asked o a.ask a.snapshot a.answer)
      asked =
          subst (λ (i : ℕ). Tells m trace i x (told.Asked o a.ask a.snapshot a.answer)) f.rec.client
          (subst (λ (i : ℕ). Tells m trace f.rec.entry.head.client i (told.Asked o a.ask a.snapshot a.answer)) f.rec.number a.asked)

      by : (version_below m objects es p o part ≡ version_below m objects es a.snapshot o part) ⊎ HasChange m objects es o part a.snapshot p (version_below m objects es p o part)
          → IsAborted m history trace k x p o part seen now
      by (inl same) = absurd (f.differs (f.is ∙ (same ∙ sym a.seen)))
      by (inr c) = record {
        ask = a.ask;
        snapshot = a.snapshot;
        answer = a.answer;
        asked = asked;
        looks = a.looks;
        change = done_at m c.at c.entry;
        here = stands c.at c.entry c.here c.commit;
        stamp = sym c.makes ∙ sym f.is;
        changes_it = changes_of c.at c.entry c.write o part c.here c.writes c.to;
        after = c.after;
        before = c.before;
        was = a.seen ∙ versions_are_changes m objects es a.snapshot o part rising spelled;
        is = f.is ∙ versions_are_changes m objects es p o part rising spelled;
      }

  once : (d e : DoneOf m) → Contains history d → Contains history e → IsOf m e d.client d.number → d ≡ e
  once d e i j of =
      let h = made d i in let l = made e j in
      let same = so.once h.at l.at d.client d.number (made_of d h d.client d.number (refl, refl)) (made_of e l d.client d.number of) in
      h.is ∙ (ap (λ (n : ℕ). done_at m n h.entry) same ∙ (ap (λ (t : Entry). done_at m l.at t) (same_entry h.at l.at h.entry l.entry same h.here l.here) ∙ sym l.is))

  yes : (p : ℕ) → HasOutcome m objects es p true → is_stamp m history p ≡ true
  yes p o = passes_somewhere (has_stamp m p) history (done_at m p o.entry) (has_contained history (done_at m p o.entry) (stands p o.entry o.here o.outcome)) (number_same p p refl)

  no : (p : ℕ) → HasOutcome m objects es p false → is_stamp m history p ≡ false
  no p o = none_passes (has_stamp m p) history (λ d i t. not_here d (made d (contained_has history d i)) (same_number d.stamp p t))
    where
      not_here : (d : DoneOf m) → IsMade d → d.stamp ≡ p → ⊥
      not_here d h e =
          let same : h.at ≡ p = sym (stamp_of d h) ∙ e in
          contrary (commits m objects es p o.entry) o.outcome
          (ap (λ (n : ℕ). commits m objects es n o.entry) (sym same) ∙ (ap (λ (t : Entry). commits m objects es h.at t) (sym (same_entry h.at p h.entry o.entry same h.here o.here)) ∙ h.outcome))

  entries : EntriesRight m objects history trace
  entries = record {
    ended = λ d i. let h = made d i in
        subst (λ (t : DoneOf m). Tells m trace t.client t.number told.End) (sym h.is) (so.records h.at h.entry h.here h.commit).ended;
    writes = λ d i. let h = made d i in subst (λ (t : DoneOf m). t.writes ≡ puts_of m trace t.client t.number) (sym h.is) (so.records h.at h.entry h.here h.commit).writes;
    once = once;
    asks = λ d i. let h = made d i in subst (λ (t : DoneOf m). AsksHoldAt m objects history trace t.client t.number t.stamp) (sym h.is) (holds h.at h.entry h.here h.outcome);
    unsure = λ k x p q d tells i of. let h = made d i in stamp_of d h ∙ so.once h.at p k x (made_of d h k x of) (so.unsure k x p q tells);
    forgotten = λ k x p n d tells i of. let h = made d i in stamp_of d h ∙ so.forgotten k x p n h.at tells (made_of d h k x of);
    dropped = λ k x tells d i of. let h = made d i in so.dropped k x h.at tells (made_of d h k x of);
    fate_yes = λ k x p says. yes p (so.fates k x p true says);
    fate_no = λ k x p says. no p (so.fates k x p false says);
    decided_yes = λ k x p says. yes p (so.decided k x p true says);
    decided_no = λ k x p says. no p (so.decided k x p false says);
  }

  legal : Legal m objects history trace
  legal = record {
    answers = record { at_snapshot = so.answers; one_snapshot = so.one_snapshot };
    commits = record { with_puts = committed; at_snapshot = so.only_read; at_zero = so.did_nothing };
    aborts = record { none = aborted_none; cause = λ k x p o part seen now tells. cause_of k x p o part seen now (so.aborted k x p o part seen now tells) };
    entries = entries;
    order = so.order;
  }

pub telling_is_legal : (m : Meaning) → Apart m → TellingIsLegal m
telling_is_legal m apart objects es trace rising so = legal m apart objects es trace rising so
