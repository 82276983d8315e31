-- What is told of reconfigurations, of copies and of checkpoints.
use Rattle.std.proofs.Common.{◌≡◌, ◌⊎◌, ℕ, ◌<◌, ◌≤◌, List, [], ◌∷◌, ◌++◌, refl, sym, ap, ◌∙◌, subst, inl, inr}
use Rattle.std.specs.Prelude.{Contains}
use Rattle.tg_base.specs.Clusters.{Header}
use Rattle.tg_base.specs.declared.ids.NodeId.{NodeId}
use Rattle.tg_base.specs.declared.ids.Oid.{Oid}
use Rattle.tg_base.specs.declared.msg.Msg.{Msg}
use Rattle.tg_base.specs.declared.msg.Msg.TheVariants as msg
use Rattle.tg_entry.specs.declared.entry.Body.TheVariants.{Checkpoint}
use Rattle.tg_entry.specs.Records.{linked}
use Rattle.tg_kind.specs.Meaning.{Meaning}
use Rattle.tg_model.specs.declared.refusal.Refusal.TheVariants as cause
use Rattle.tg_model.specs.declared.trace.What.TheVariants as told
use Rattle.tg_model.specs.Kinds.{WhatOf}
use Rattle.tg_model.specs.Legal.{Legal, IsCommitted}
use Rattle.tg_model.specs.Traces.{Tells, puts_of}
use Rattle.tg_protocol.specs.Words.{seqr_id, client_id, directory}
use Rattle.tg_protocol.specs.Appending.{At}
use Rattle.tg_protocol.specs.Worlds.{World, Told, start, history, trace}
use Rattle.tg_protocol.specs.Chosen.{IsDecided}
use Rattle.tg_protocol.specs.Runs.{Moves, Reaches, Always}
use Rattle.tg_protocol.specs.Alike.{HasEntry, SentTo, SentNow, SavedAt, CopiedBy, MarkedBy, DecidedBy, HeardTail, HeardLater, InstalledBy, OvertakenBy}
use Rattle.tg_law_layouts.specs.Moves.After.{after}
use Rattle.tg_law_layouts.proofs.Moves.Lists.{contained}
use Rattle.tg_law_layouts.proofs.Moves.Members.{has_contained}
use Rattle.tg_law_replies.proofs.History.Members as history
use Rattle.tg_law_replies.specs.History.Worlds.{entries_in}
use Rattle.tg_law_replies.specs.Replies.Ended.{AppendsEnd}
use Rattle.tg_law_replies.proofs.Books.Worlds.{run_book, start_book}
use Rattle.tg_law_syncs.proofs.Follow.Says.{Other, NotSaved}
use Rattle.tg_law_syncs.proofs.Follow.Replies.{Fact, IsOther, IsOfTx, IsSaved, state}
use Rattle.tg_law_headline.specs.Alike.Rows.{AlikeRowsByRuns, InstallsAgree, OvertakesAgree, CopiesAgree, SavesAgree, SavesAgreeByRuns, MarksAgree, MarksAgreeByRuns}
use Rattle.tg_law_headline.proofs.Alike.Reconfs.{TailOf, LatestPast, InstallTold, OvertakeTold}
use Rattle.tg_law_headline.proofs.Alike.Since.{SayOk, CopyTold, SaveTold}
use Rattle.tg_law_headline.proofs.Alike.Ends.{AnyFloor, any_floors}
use Rattle.tg_law_headline.proofs.Alike.Trimmed.{trims_agree}
use Rattle.tg_law_headline.proofs.Alike.Along.{Got, AskSent, Known, IsMark, all_say, all_marked}
use Rattle.tg_law_headline.proofs.Alike.Marks.{MarkTold}
use Rattle.tg_law_headline.proofs.Alike.Recording.{decisions_recorded, aborts_recorded, commits_recorded}
use Rattle.tg_law_headline.proofs.Alike.Records.{has_mark, some_put, has_some, aborts_agree, unsure_agree, commits_agree}

module _ (m : Meaning) (h : Header) (ms : Moves m) (r : Reaches m h ms (after m h ms)) where
  abbrev end : World m
  end = after m h ms

  module _ (t : Told m) (i : Contains end.told t) where
    abbrev k : ℕ
    k = t.mark.client

    abbrev say : WhatOf m → Type 0
    say what = SayOk m (Got m h ms r k) (AskSent m h ms r k) t.noted.next t.noted.epoch k (Known m h ms r) AnyFloor h.objects (entries_in m end) what

    says : (what : WhatOf m) → (IsMark m h ms r what → ⊥) → t.mark.what ≡ what → say what
    says what other is = by (all_say m h ms r AnyFloor (any_floors m h ms) t (has_contained end.told t i))
      where
        by : say t.mark.what ⊎ IsMark m h ms r t.mark.what → say what
        by (inl y) = subst (λ (z : WhatOf m). say z) is y
        by (inr y) = absurd (other (subst (λ (z : WhatOf m). IsMark m h ms r z) is y))

    -- a message that this client got
    got_to : (from : NodeId) (rid : ℕ) (x : Msg) → Got m h ms r k from rid x → SentTo m end k rid x
    got_to from rid x g = record { packet = record { from = from; to = client_id k; rid = rid; msg = x }; sent = contained end.packets _ g; to = refl; number = refl; says = refl }

    got_now : (from : NodeId) (rid : ℕ) (x : Msg) → t.noted.next ≤ rid → Got m h ms r k from rid x → SentNow m end t x
    got_now from rid x le g = record { rid = rid; now = le; sent = got_to from rid x g }

    install : (e : ℕ) → InstallTold (Got m h ms r k) t.noted.next t.noted.epoch k (Known m h ms r) e → InstalledBy m end t e
    install e x = record { decided_for = decided; own = x.own; heard = by x.heard }
      where
        decided : DecidedBy m end t e
        decided = record { proj = x.proj; is = subst (λ (n : ℕ). IsDecided m end n x.proj) x.epoch x.known; later = subst (λ (n : ℕ). t.noted.epoch < n) x.epoch x.later }

        by : TailOf (Got m h ms r k) t.noted.next t.noted.epoch k (Known m h ms r) x.proj ⊎ LatestPast (Got m h ms r k) t.noted.next t.noted.epoch k (Known m h ms r) e → HeardTail m end t x.proj ⊎ HeardLater m end t e
        by (inl y) = inl (record {
          packet = record { from = seqr_id x.proj.seq; to = client_id k; rid = y.rid; msg = msg.Tail y.tail y.links };
          sent = contained end.packets _ y.got;
          from = refl;
          to = refl;
          now = y.now;
          tail = y.tail;
          links = y.links;
          says = refl;
        })
        by (inr y) = inr (record { proj = y.proj; rid = y.rid; sent = got_to y.from y.rid (msg.Latest y.proj) y.got; later = y.later })

    overtake : (e : ℕ) → OvertakeTold (Got m h ms r k) t.noted.next t.noted.epoch k (Known m h ms r) e → OvertakenBy m end t e
    overtake e x = record {
      decided_for = record { proj = x.proj; is = subst (λ (n : ℕ). IsDecided m end n x.proj) x.epoch x.known; later = subst (λ (n : ℕ). t.noted.epoch < n) x.epoch x.later };
      other = x.other;
    }

    copy : (u g s : ℕ) → CopyTold m (Got m h ms r k) (AskSent m h ms r k) t.noted.next t.noted.epoch k (Known m h ms r) AnyFloor h.objects (entries_in m end) u g s → CopiedBy m end t u g s
    copy u g s x = record {
      epoch = x.layout.epoch;
      layout = x.layout;
      decided = x.known;
      asked = x.rid;
      now = x.now;
      look = contained end.packets _ x.look;
      whole = contained end.packets _ x.whole;
    }

    -- a checkpoint stands in the log as its append was begun
    module _ (ends : AppendsEnd m h ms end) where
      same_saved : (o o' : Oid) (p p' u u' : ℕ) → ◌≡◌ {A = WhatOf m} (told.Saved o p u) (told.Saved o' p' u') → (o' ≡ o) × (p' ≡ p) × (u' ≡ u)
      same_saved o o' p p' u u' e = (cc, cc, cc)

      save : (o : Oid) (p u : ℕ) → t.mark.what ≡ told.Saved o p u → SaveTold m (Got m h ms r k) (AskSent m h ms r k) t.noted.next t.noted.epoch k (Known m h ms r) AnyFloor h.objects (entries_in m end) p u → Fact m h ms t.mark → SavedAt m end t o p u
      save o p u is x (IsOther y) = absurd (subst (Other m) is y)
      save o p u is x (IsOfTx n y) = absurd (subst (NotSaved m) is y)
      save o p u is x (IsSaved before rest e split o' p' u' now what) =
          let same = same_saved o o' p p' u u' (sym is ∙ what) in
          let there = ends before rest e split k now.append (At p' now.page) now.begun now.ends in
          record {
            entry = linked now.append.draft there.0;
            version = now.save.version;
            whole = now.save.whole;
            keys = now.save.keys;
            state = now.save.state;
            here = subst (λ (n : ℕ). HasEntry m end n (linked now.append.draft there.0)) same.1 there.1;
            by = now.save.client ∙ ((run_book m before (start m h) (start_book m h)) k).num_is;
            saves = now.save.saves ∙ ap (λ (z : Oid). Checkpoint z u' now.save.version now.save.whole now.save.keys now.save.state) same.0
                ∙ ap (λ (n : ℕ). Checkpoint o n now.save.version now.save.whole now.save.keys now.save.state) same.2;
            issued_links = x.issued.links;
            issued = got_now x.issued.from x.issued.rid (msg.Issued p x.issued.links) x.issued.now x.issued.got;
            tail_links = x.tail.links;
            tail = got_now x.tail.from x.tail.rid (msg.Tail u x.tail.links) x.tail.now x.tail.got;
          }

    -- the transaction of a mark is in the history
    module _ (legal : Legal m end.cluster.objects (history m end) (trace m end)) where
      mark : (before after : List (Told m)) (o : Oid) (n : ℕ) → end.told ≡ before ++ t ∷ after → MarkTold m (trace m end) before k o n → MarkedBy m end before k o n
      mark before after o n split y = record {
        earlier = y.earlier;
        last = y.last;
        between = [];
        split = y.split;
        of_client = y.of_client;
        others = λ u j. absurd (has_contained [] u j);
        at = y.at;
        committed = y.committed;
        done = c.done;
        in_history = c.here;
        of = c.of;
        stamp = c.stamp;
        writes = subst (λ (ws : List (Oid × m.op)). Contains ws (directory, m.mark_op o n)) (sym c.writes) (history.contained_has _ _ put);
      }
        where
          here : history.Has end.told y.last
          here = subst (λ (zs : List (Told m)). history.Has zs y.last) (sym split) (history.has_left before (t ∷ after) y.last (subst (λ (zs : List (Told m)). history.Has zs y.last) (sym y.split) (history.has_right y.earlier (y.last ∷ []) y.last (inl refl))))

          tells : Tells m (trace m end) k y.last.mark.tx (told.Committed y.at)
          tells = subst (λ (i : ℕ). Tells m (trace m end) i y.last.mark.tx (told.Committed y.at)) y.of_client
              (subst (Tells m (trace m end) y.last.mark.client y.last.mark.tx) y.committed
              (record { number = y.put.number; event = y.last.mark.event; here = history.contained_has (trace m end) y.last.mark (has_mark m end.told y.last here) }))

          put : history.Has (puts_of m (trace m end) k y.last.mark.tx) (directory, m.mark_op o n)
          put = some_put m (trace m end) k y.last.mark.tx directory (m.mark_op o n) (record { event = y.put.event; client = k; tx = y.last.mark.tx; what = told.Put directory (m.mark_op o n) })
              (history.has_contained (trace m end) _ y.put.here) refl refl refl

          c : IsCommitted m end.cluster.objects (history m end) (trace m end) k y.last.mark.tx y.at
          c = legal.commits.with_puts k y.last.mark.tx y.at tells (has_some m (puts_of m (trace m end) k y.last.mark.tx) (directory, m.mark_op o n) put)

module _ (m : Meaning) where
  pub installs_agree : Always m (InstallsAgree m)
  installs_agree h ms w r = subst (InstallsAgree m) (sym r.goes.is) (λ t e i is. install m h ms at_end t i e (says m h ms at_end t i (told.Installed e) (λ n. n) is))
    where
      at_end : Reaches m h ms (after m h ms)
      at_end = subst (Reaches m h ms) r.goes.is r

  pub overtakes_agree : Always m (OvertakesAgree m)
  overtakes_agree h ms w r = subst (OvertakesAgree m) (sym r.goes.is) (λ t e i is. overtake m h ms at_end t i e (says m h ms at_end t i (told.Refused (cause.Overtaken e)) (λ n. n) is))
    where
      at_end : Reaches m h ms (after m h ms)
      at_end = subst (Reaches m h ms) r.goes.is r

  pub copies_agree : Always m (CopiesAgree m)
  copies_agree h ms w r = subst (CopiesAgree m) (sym r.goes.is) (λ t u g s i is. copy m h ms at_end t i u g s (says m h ms at_end t i (told.Copied u g s) (λ n. n) is))
    where
      at_end : Reaches m h ms (after m h ms)
      at_end = subst (Reaches m h ms) r.goes.is r

  pub saves_agree : SavesAgreeByRuns m
  saves_agree h ms w r ends = subst (λ (v : World m). AppendsEnd m h ms v → SavesAgree m v) (sym r.goes.is) (λ a t o p u i is. save m h ms at_end t i a o p u is (says m h ms at_end t i (told.Saved o p u) (λ n. n) is) (fact a t i)) ends
    where
      at_end : Reaches m h ms (after m h ms)
      at_end = subst (Reaches m h ms) r.goes.is r

      fact : AppendsEnd m h ms (after m h ms) → (t : Told m) → Contains (after m h ms).told t → Fact m h ms t.mark
      fact a t i = (state m h ms).facts t.mark (has_mark m (after m h ms).told t (history.has_contained (after m h ms).told t i))

  pub marks_agree : MarksAgreeByRuns m
  marks_agree h ms w r legal = subst (λ (v : World m). Legal m v.cluster.objects (history m v) (trace m v) → MarksAgree m v) (sym r.goes.is)
      (λ law before after t o n split is. mark m h ms at_end t (subst (λ (ts : List (Told m)). Contains ts t) (sym split) (history.contained_has _ t (history.has_right before (t ∷ after) t (inl refl)))) law before after o n split (all_marked m h ms at_end AnyFloor (any_floors m h ms) before after t o n split is)) legal
    where
      at_end : Reaches m h ms (after m h ms)
      at_end = subst (Reaches m h ms) r.goes.is r

  pub alike_rows : AlikeRowsByRuns m
  alike_rows h ms w r trims finds ends out legal = record {
    aborts = aborts_agree m h ms w r trims ends out;
    unsure = unsure_agree m h ms w r trims ends out;
    commits = commits_agree m h ms w r trims ends out;
    installs = installs_agree h ms w r;
    overtakes = overtakes_agree h ms w r;
    copies = copies_agree h ms w r;
    saves = saves_agree h ms w r ends;
    marks = marks_agree h ms w r legal;
    trims = trims_agree m h ms w r finds ends;
    decisions_recorded = decisions_recorded m h ms w r finds ends;
    aborts_recorded = aborts_recorded m h ms w r finds ends;
    commits_recorded = commits_recorded m h ms w r trims finds ends;
  }
