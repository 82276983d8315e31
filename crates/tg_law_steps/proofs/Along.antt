-- Along a client's turn: what holds at each place, from the step's beginning to what it comes to.
use Rattle.std.proofs.Common.{◌≡◌, ℕ, zero, suc, ◌+◌, List, [], ◌∷◌, ◌++◌, Bool, true, false, refl, sym, ◌∙◌, ap, subst, arith, Option, Some, None}
use Rattle.std.specs.Prelude.{◌==◌, ◌&&◌, not, nat_lt}
use Rattle.tg_base.specs.Layouts.{Layout}
use Rattle.tg_base.specs.Orders.{node_eq}
use Rattle.tg_base.specs.declared.cell.Cell.{Cell}
use Rattle.tg_base.specs.declared.ids.NodeId.{NodeId}
use Rattle.tg_base.specs.declared.ids.Oid.{Oid}
use Rattle.tg_base.specs.declared.packet.Out.{Out}
use Rattle.tg_entry.specs.declared.entry.Entry.{Entry}
use Rattle.tg_entry.specs.Needs.{reads_of}
use Rattle.tg_kind.specs.Meaning.{Meaning}
use Rattle.tg_model.specs.declared.command.Command.TheVariants as cmd
use Rattle.tg_model.specs.declared.play.PlayEnd.{PlayEnd}
use Rattle.tg_model.specs.declared.play.PlayEnd.TheVariants.{Played, Blocked}
use Rattle.tg_model.specs.declared.refusal.Refusal.{Refusal}
use Rattle.tg_model.specs.declared.refusal.Refusal.TheVariants as cause
use Rattle.tg_model.specs.declared.trace.What.TheVariants as told
use Rattle.tg_model.specs.Kinds.{CommandOf, WhatOf, NoteOf}
use Rattle.tg_protocol.specs.Words.{cell_at, directory, layout_id, numbers}
use Rattle.tg_protocol.specs.Entries.{entry_size}
use Rattle.tg_protocol.specs.Requests.{awaits, waits_for, Next, Goes, Learns, Ends, ends}
use Rattle.tg_protocol.specs.Replies.{Reply, IsLatest}
use Rattle.tg_protocol.specs.Cells.{place_in, get_cell}
use Rattle.tg_protocol.specs.Appending.{Append, AppendEnd, At, Full, Forgotten}
use Rattle.tg_protocol.specs.Syncing.{Sync, Confirmed}
use Rattle.tg_protocol.specs.Walking.{Walk, Members, WalkTurn, walk_on, walk_start, reads_turn, walk_members, next_visit, visited}
use Rattle.tg_protocol.specs.Trimming.{Trims, Trimmed, trim_start, Copying, CopyEnd}
use Rattle.tg_protocol.specs.Reconfiguring.{Reconf, ReconfEnd, Installed, Overtaken, NotWhole}
use Rattle.tg_protocol.specs.Versions.{Changed}
use Rattle.tg_protocol.specs.Views.{Entries, Play, Verdict, Commits, Aborts, Unknown, state_of, fate_of, changed_in, unknown_in, verdict, view_outcome}
use Rattle.tg_protocol.specs.Checkpoints.{checkpoint, NoCheckpoint, OpenDecision, ForgetFault, may_forget}
use Rattle.tg_protocol.specs.Past.{commit_at, PastTurn, PastView, PastGone, past_at, RescueTurn, Wider, Wide, Absent, StuckAt, Known, rescue_turn}
use Rattle.tg_protocol.specs.Transactions.{Tx}
use Rattle.tg_protocol.specs.Clients.{Purpose, Writes, Judged, Decides, Rescues as RescuesWith, Saves, Marks, Task, Syncing, Walking, Appending, Trimming, Copying', Reconfiguring, Hand, Doing, Learning, Work, Client, all_entries, member_entries, copy_fault, refusal, number_on, tx_number}
use Rattle.tg_protocol.specs.Answers.{Moved, moved, note, replies, refuses, answers, closed, appends, syncs, decides_if, lacks_decision, trim_above, ask_answer, ask_in, on_ask, end_decided, end_aborted, end_no, end_by, end_record, on_end, forgotten_or, fate_verdict, fate_record, fate_known, blocks, fate_blocked, on_fate, decide_verdict, decide_record, decide_blocked, decide_played, on_decide, save_if, on_checkpoint, forget_by, on_forget, floor_of, trims_if, on_trim, past_answer, past_played, past_turn, ahead_or, on_ask_at, rescue_decision, absent, rescue_by, on_rescue, answer_by, walked_for, plays_own, with_view, walked}
use Rattle.tg_protocol.specs.ClientSteps.{ClientTurn, called, tick_by, client_tick, hand_again_asks, asks_latest, task_in, task_awaited, after_turn, goes_on, learns_for, lends, takes_back, found_by, start_walk, walks, knows, lo_for, plays_kept, sync_to, stale, gives_up, given_up_if, at_trim, walk_ended_by, walk_to, decided_for, page_known, knows_page, append_to, trim_to, copy_to, stands, reconf_to, task_feed, copies_again, task_again, on_newer, fed_if, hand_feed, latest_if, reply_feed, feed, accepts, refused_or}
use Rattle.tg_law_steps.proofs.Places.{Place, Feeds, Newer, OnSync, OnWalk, OnAppend, OnTrims, OnCopy, OnReconf, Over, Walks, Plays, Looks, Rescues, becomes}
use Rattle.tg_law_steps.proofs.Ways.{Way, FeedsSync, FeedsWalk, FeedsAppend, FeedsTrims, FeedsCopy, FeedsReconf, NewerSync, NewerWalk, NewerAppend, NewerTrims, NewerCopy, NewerReconf, Confirms, Settles, EndsAtOnce, WalkEnds, MetNone, MetLow, MetHigh, StartsOver, own_play, AllWalked, HasPlayed, LooksBack, IsRescue}
use Rattle.tg_law_steps.proofs.Ends
use Rattle.tg_law_steps.proofs.Takes.{Taken, taken}

-- A walk that begins doesn't learn.

abbrev pub Begins : {M E : Type 0} → Next M E → Type 0
Begins (Learns x) = ⊥
Begins _ = Unit {0}

begins_cell : (p : Layout) (next n : ℕ) (w : Walk) (q : ℕ) (o : Option Cell) → ((v : Walk) → Begins (walk_on p next n v).to)
    → Begins (elim o as (λ _. WalkTurn) [ Some c ↦ walk_on p next n (visited w q c) | None ↦ reads_turn w (get_cell (place_in p q) next) ]).to
unfolding get_cell
begins_cell p next n w q None ih = tt
begins_cell p next n w q (Some c) ih = ih (visited w q c)

begins_visit : (p : Layout) (next n : ℕ) (w : Walk) (o : Option ℕ) → ((v : Walk) → Begins (walk_on p next n v).to) → Begins (elim o as (λ _. WalkTurn) [
  | None ↦ ends next (walk_members w None)
  | Some q ↦ elim (cell_at w.cells q) as (λ _. WalkTurn) [ Some c ↦ walk_on p next n (visited w q c) | None ↦ reads_turn w (get_cell (place_in p q) next) ]
]).to
begins_visit p next n w None ih = tt
begins_visit p next n w (Some q) ih = begins_cell p next n w q (cell_at w.cells q) ih

begins_on : (p : Layout) (next n : ℕ) (w : Walk) → Begins (walk_on p next n w).to
unfolding walk_on
begins_on p next zero w = tt
begins_on p next (suc n) w = begins_visit p next n w (next_visit w) (λ v. begins_on p next n v)

pub begins_walk : (p : Layout) (o : Oid) (ls : List ℕ) (lo : ℕ) (cells : List (ℕ × Cell)) (next : ℕ) → Begins (walk_start p o ls lo cells next).to
unfolding walk_start
begins_walk p o ls lo cells next = begins_on p next _ _

-- a reply that brings no layout
abbrev pub NoLatest : Reply → Type 0
NoLatest (IsLatest q) = ⊥
NoLatest x = Unit {0}

-- A delivery: nothing comes of it, or the client's task takes an awaited answer, or goes on in a newer layout.
module _ (m : Meaning) (Good : Moved m → Type 0) where
  -- to a client at work
  pub handed_work : (c : Client m) (w : Work m) (from : NodeId) (rid : ℕ) (x : Reply) → Good (moved m c [])
      → ((t : Task m) → w.hand ≡ Doing t → awaits (task_awaited m c.stand t) from rid ≡ true → NoLatest x → Good (task_feed m c w t from.num rid x))
      → ((q : Layout) → x ≡ IsLatest q → (node_eq from (layout_id from.num) && nat_lt c.stand.epoch q.epoch) ≡ true → Good (on_newer m c w (task_in m w.hand) from.num rid q))
      → Good (reply_feed m c w from rid x)
  handed_work c w from rid x still feeds newer = by x refl
    where
      fed : (b : Bool) (t : Task m) → w.hand ≡ Doing t → awaits (task_awaited m c.stand t) from rid ≡ b → NoLatest x → Good (fed_if m b c w t from rid x)
      fed true t doing a other = feeds t doing a other
      fed false t doing a other = still

      hand : (d : Hand m) → w.hand ≡ d → NoLatest x → Good (hand_feed m c w d from rid x)
      hand (Doing t) doing other = fed (awaits (task_awaited m c.stand t) from rid) t doing refl other
      hand (Learning ws t) doing other = still

      latest : (b : Bool) (q : Layout) → x ≡ IsLatest q → (node_eq from (layout_id from.num) && nat_lt c.stand.epoch q.epoch) ≡ b → Good (latest_if m b c w from rid q)
      latest true q is e = newer q is e
      latest false q is e = still

      by : (y : Reply) → x ≡ y → Good (reply_feed m c w from rid y)
      by (IsLatest q) is = latest (node_eq from (layout_id from.num) && nat_lt c.stand.epoch q.epoch) q is refl
      by y is = subst (λ (z : Reply). Good (hand_feed m c w w.hand from rid z)) is (hand w.hand refl (subst NoLatest (sym is) tt))

  -- to any client
  pub handed : (c : Client m) (from : NodeId) (rid : ℕ) (x : Reply) → Good (moved m c [])
      → ((w : Work m) (t : Task m) → c.work ≡ Some w → w.hand ≡ Doing t → awaits (task_awaited m c.stand t) from rid ≡ true → NoLatest x → Good (task_feed m c w t from.num rid x))
      → ((w : Work m) (q : Layout) → c.work ≡ Some w → x ≡ IsLatest q → (node_eq from (layout_id from.num) && nat_lt c.stand.epoch q.epoch) ≡ true → Good (on_newer m c w (task_in m w.hand) from.num rid q))
      → Good (feed m c c.work from rid x)
  handed c from rid x still feeds newer = by c.work refl
    where
      by : (o : Option (Work m)) → c.work ≡ o → Good (feed m c o from rid x)
      by None has = still
      by (Some w) has = handed_work c w from rid x still (λ t doing a other. feeds w t has doing a other) (λ q is e. newer w q has is e)

-- What holds at a place, and what is to be shown of what a turn comes to.
module _ (m : Meaning) (P : Client m → Work m → Place m → Type 0) (Good : Moved m → Type 0)
    (ends' : (c : Client m) (w : Work m) (p : Place m) (x : Moved m) → Ends.End m c w p x → P c w p → Good x) where
  -- Where all streams are walked.
  module _ (c : Client m) (w : Work m) where
    module _ (p : Place m) (h : P c w p) where
      refuse : (d : Client m) (n : ℕ) (why : Refusal) → Ends.IsRefused m c w p d n why → Good (refuses m d n why)
      refuse d n why r = ends' c w p _ (Ends.Refuses d n why r) h

      answer : (d : Client m) (n : ℕ) (what : WhatOf m) → Ends.IsAnswered m c w p d n what → Good (answers m d n what)
      answer d n what r = ends' c w p _ (Ends.Answers d n what r) h

      tell : (d : Client m) (ns : List (NoteOf m)) → Ends.IsTold m c w p d ns → Good (replies m d ns)
      tell d ns r = ends' c w p _ (Ends.Tells d ns r) h

      append : (d : Client m) (e : Entry) (y : Purpose m) (ns : List (NoteOf m)) → Ends.IsAppended m c w p d e y ns → Good (appends m d w e y ns)
      append d e y ns r = ends' c w p _ (Ends.Appends d e y ns r) h

      sync : (d : Client m) (v : Work m) (os : List Oid) → Ends.IsSynced m c w p d v os → Good (syncs m d v os)
      sync d v os r = ends' c w p _ (Ends.Syncs d v os r) h

      goes : (d : Client m) (t : Task m) (bs : List Out) → Ends.IsGoing m c w p d t bs → Good (goes_on m d w t bs)
      goes d t bs r = ends' c w p _ (Ends.GoesOn d t bs r) h

      learns : (t : Task m) → Ends.IsLearning m c w p t → Good (learns_for m c w t)
      learns t r = ends' c w p _ (Ends.LearnsNewer t r) h

    module _ (es : Entries) (p : Play m) (h : P c w (Plays es p)) where
      ask_good : (o : Oid) (q : m.ask) → w.command ≡ cmd.Ask o q → Good (on_ask m c w o q p.view p.came)
      ask_good o q of = by p.came refl
        where
          state : (t : Tx) (upto : ℕ) (s : Option m.state) → p.came ≡ Played upto → c.tx ≡ Some t → state_of m p.view o ≡ s → Good (ask_answer m c w t o q p.view s)
          state t upto None a b e = refuse (Plays es p) h c t.number (cause.NotHosted o) (Ends.AskMissing es p o q upto t of a b e)
          state t upto (Some s) a b e = answer (Plays es p) h _ t.number (told.Asked o q w.tail (m.answers s q)) (Ends.IsAsked es p o q upto t s of a b e)

          open' : (upto : ℕ) (t : Option Tx) → p.came ≡ Played upto → c.tx ≡ t → Good (ask_in m c w o q p.view t)
          open' upto None a b = refuse (Plays es p) h c 0 cause.NoTx (Ends.AskClosed es p o q upto of a b)
          open' upto (Some t) a b = state t upto (state_of m p.view o) a b refl

          by : (x : PlayEnd) → p.came ≡ x → Good (on_ask m c w o q p.view x)
          by (Blocked r x) a = refuse (Plays es p) h c _ (cause.Undecided r x) (Ends.AskBlocked es p o q r x of a)
          by (Played upto) a = open' upto c.tx a refl

      end_good : w.command ≡ cmd.End → Good (on_end m c w es p.view p.came)
      end_good of = by p.came refl
        where
          unclear : (upto : ℕ) → p.came ≡ Played upto → Ends.CannotJudge m es p.view w.at → Good (answers m (closed m c) (tx_number m c.tx) (told.Unsure w.at w.at))
          unclear upto a k = answer (Plays es p) h _ _ (told.Unsure w.at w.at) (Ends.EndUnsure es p upto of a k)

          judged : (upto : ℕ) (e : Entry) (so : Bool) (what : WhatOf m) (b : Bool) → p.came ≡ Played upto → commit_at es w.at ≡ Some e → Ends.Judges m es p.view w.at e so what → lacks_decision m es w.at e ≡ b
              → Good (end_decided m b c w e w.at so what)
          judged upto e so what true a i j l = append (Plays es p) h _ _ (Decides what) [] (Ends.EndDecides es p upto e so what of a i j l)
          judged upto e so what false a i j l = answer (Plays es p) h _ _ what (Ends.EndJudged es p upto e so what of a i j l)

          changed : (upto : ℕ) (e : Entry) (x : Option Changed) → p.came ≡ Played upto → commit_at es w.at ≡ Some e → verdict m p.view es w.at e ≡ Aborts → unknown_in m p.view (reads_of e) w.at ≡ None → changed_in m p.view (reads_of e) w.at ≡ x
              → Good (end_aborted m c w es e w.at x)
          changed upto e None a i v u k = unclear upto a (Ends.NoChange e i v u k)
          changed upto e (Some x) a i v u k = judged upto e false _ (lacks_decision m es w.at e) a i (Ends.Abort' x v u k) refl

          unknown : (upto : ℕ) (e : Entry) (o : Option Oid) → p.came ≡ Played upto → commit_at es w.at ≡ Some e → verdict m p.view es w.at e ≡ Aborts → unknown_in m p.view (reads_of e) w.at ≡ o → Good (end_no m c w es p.view e w.at o)
          unknown upto e None a i v u = changed upto e (changed_in m p.view (reads_of e) w.at) a i v u refl
          unknown upto e (Some o) a i v u = unclear upto a (Ends.NoVersion e o i v u)

          verdicts : (upto : ℕ) (e : Entry) (d : Verdict) → p.came ≡ Played upto → commit_at es w.at ≡ Some e → verdict m p.view es w.at e ≡ d → Good (end_by m c w es p.view e w.at d)
          verdicts upto e Commits a i v = judged upto e true _ (lacks_decision m es w.at e) a i (Ends.Commit' v) refl
          verdicts upto e Aborts a i v = unknown upto e (unknown_in m p.view (reads_of e) w.at) a i v refl
          verdicts upto e (Unknown o) a i v = unclear upto a (Ends.NoVerdict e o i v)

          records : (upto : ℕ) (e : Option Entry) → p.came ≡ Played upto → commit_at es w.at ≡ e → Good (end_record m c w es p.view w.at e)
          records upto None a i = unclear upto a (Ends.NoRecord i)
          records upto (Some e) a i = verdicts upto e (verdict m p.view es w.at e) a i refl

          by : (x : PlayEnd) → p.came ≡ x → Good (on_end m c w es p.view x)
          by (Played upto) a = records upto (commit_at es w.at) a refl
          by (Blocked q x) a = answer (Plays es p) h _ _ (told.Unsure w.at q) (Ends.EndBlocked es p q x of a)

      module _ (at : ℕ) (of : w.command ≡ cmd.Fate at) where
        module _ (k : Ends.Passes m es at p.came) where
          fate_found : (e : Entry) (d : Verdict) (so : Bool) (b : Option ℕ) → fate_of m p.view at ≡ None → commit_at es at ≡ Some e → verdict m p.view es at e ≡ d → Ends.SaysSo m d so → trim_above m w.trims at ≡ b
              → Good (forgotten_or m c w at (told.Fate at (Some so)) b)
          fate_found e d so None f i v s t = answer (Plays es p) h c 0 _ (Ends.FateJudged es p at e d so of k f i v s t)
          fate_found e d so (Some b) f i v s t = refuse (Plays es p) h c 0 _ (Ends.FateForgotten es p at b of k f t)

          fate_verdicts : (e : Entry) (d : Verdict) → fate_of m p.view at ≡ None → commit_at es at ≡ Some e → verdict m p.view es at e ≡ d → Good (fate_verdict m c w at d)
          fate_verdicts e Commits f i v = fate_found e Commits true (trim_above m w.trims at) f i v Ends.SaysYes refl
          fate_verdicts e Aborts f i v = fate_found e Aborts false (trim_above m w.trims at) f i v Ends.SaysNo refl
          fate_verdicts e (Unknown o) f i v = refuse (Plays es p) h c 0 (cause.Undecided at o) (Ends.FateUnknown es p at e o of k f i v)

          fate_missing : (b : Option ℕ) → fate_of m p.view at ≡ None → commit_at es at ≡ None → trim_above m w.trims at ≡ b → Good (forgotten_or m c w at (told.Fate at None) b)
          fate_missing None f i t = answer (Plays es p) h c 0 _ (Ends.FateNone es p at of k f i t)
          fate_missing (Some b) f i t = refuse (Plays es p) h c 0 _ (Ends.FateForgotten es p at b of k f t)

          fate_records : (e : Option Entry) → fate_of m p.view at ≡ None → commit_at es at ≡ e → Good (fate_record m c w es p.view at e)
          fate_records None f i = fate_missing (trim_above m w.trims at) f i refl
          fate_records (Some e) f i = fate_verdicts e (verdict m p.view es at e) f i refl

          fate_kept : (f : Option Bool) → fate_of m p.view at ≡ f → Good (fate_known m c w es p.view at f)
          fate_kept (Some so) f = answer (Plays es p) h c 0 _ (Ends.FateKept es p at so of k f)
          fate_kept None f = fate_records (commit_at es at) f refl

        fate_good : (x : PlayEnd) → p.came ≡ x → Good (on_fate m c w es p.view at x)
        fate_good (Played upto) a = fate_kept (subst (Ends.Passes m es at) (sym a) (Ends.CameTo upto)) (fate_of m p.view at) refl
        fate_good (Blocked q x) a = stuck (blocks m es at q) refl
          where
            stuck : (b : Bool) → blocks m es at q ≡ b → Good (fate_blocked m c w es p.view at q x b)
            stuck true e = refuse (Plays es p) h c 0 (cause.Undecided q x) (Ends.FateBlocked es p at q x of a e)
            stuck false e = fate_kept (subst (Ends.Passes m es at) (sym a) (Ends.StuckAbove q x e)) (fate_of m p.view at) refl

      module _ (at : ℕ) (of : w.command ≡ cmd.Decide at) where
        module _ (t : trim_above m w.trims at ≡ None) (k : Ends.Passes m es at p.came) where
          decide_judged : (e : Entry) (d : Verdict) (so : Bool) (b : Bool) → commit_at es at ≡ Some e → view_outcome m p.view es at e ≡ d → Ends.SaysSo m d so → lacks_decision m es at e ≡ b
              → Good (decides_if m b c w e at so 0 (told.Decided at (Some so)))
          decide_judged e d so true i v s l = append (Plays es p) h _ _ (Decides _) [] (Ends.DecideDecides es p at e d so of t k i v s l)
          decide_judged e d so false i v s l = answer (Plays es p) h c 0 _ (Ends.DecideJudged es p at e d so of t k i v s l)

          decide_verdicts : (e : Entry) (d : Verdict) → commit_at es at ≡ Some e → view_outcome m p.view es at e ≡ d → Good (decide_verdict m c w es at e d)
          decide_verdicts e Commits i v = decide_judged e Commits true (lacks_decision m es at e) i v Ends.SaysYes refl
          decide_verdicts e Aborts i v = decide_judged e Aborts false (lacks_decision m es at e) i v Ends.SaysNo refl
          decide_verdicts e (Unknown o) i v = refuse (Plays es p) h c 0 (cause.Undecided at o) (Ends.DecideUnknown es p at e o of t k i v)

          decide_records : (e : Option Entry) → commit_at es at ≡ e → Good (decide_record m c w es p.view at e)
          decide_records None i = answer (Plays es p) h c 0 _ (Ends.DecideNone es p at of t k i)
          decide_records (Some e) i = decide_verdicts e (view_outcome m p.view es at e) i refl

        decide_plays : trim_above m w.trims at ≡ None → (x : PlayEnd) → p.came ≡ x → Good (decide_played m c w es p.view at x)
        decide_plays t (Played upto) a = decide_records t (subst (Ends.Passes m es at) (sym a) (Ends.CameTo upto)) (commit_at es at) refl
        decide_plays t (Blocked q x) a = stuck (blocks m es at q) refl
          where
            stuck : (b : Bool) → blocks m es at q ≡ b → Good (decide_blocked m c w es p.view at q x b)
            stuck true e = refuse (Plays es p) h c 0 (cause.Undecided q x) (Ends.DecideBlocked es p at q x of t a e)
            stuck false e = decide_records t (subst (Ends.Passes m es at) (sym a) (Ends.StuckAbove q x e)) (commit_at es at) refl

        decide_good : (b : Option ℕ) → trim_above m w.trims at ≡ b → Good (on_decide m c w es p.view at p.came b)
        decide_good (Some b) t = refuse (Plays es p) h c 0 _ (Ends.DecideForgotten es p at b of t)
        decide_good None t = decide_plays t p.came refl

      save_good : (o : Oid) → w.command ≡ cmd.Checkpoint o → Good (on_checkpoint m c w p.view o p.came)
      save_good o of = by p.came refl
        where
          large : (upto : ℕ) (b : Bool) → p.came ≡ Played upto → nat_lt 4096 (entry_size (checkpoint m p.view o w.tail c.num (c.checkpoints + 1))) ≡ b → Good (save_if m b c w o (checkpoint m p.view o w.tail c.num (c.checkpoints + 1)))
          large upto true a l = refuse (Plays es p) h c 0 _ (Ends.SaveLarge es p upto o of a l)
          large upto false a l = append (Plays es p) h _ _ _ [] (Ends.SaveBegins es p upto o of a l)

          by : (x : PlayEnd) → p.came ≡ x → Good (on_checkpoint m c w p.view o x)
          by (Played upto) a = large upto (nat_lt 4096 (entry_size (checkpoint m p.view o w.tail c.num (c.checkpoints + 1)))) a refl
          by (Blocked q x) a = refuse (Plays es p) h c 0 (cause.Undecided q x) (Ends.SaveBlocked es p o q x of a)

      forget_good : (o : Oid) (n : ℕ) → w.command ≡ cmd.Forget o n → Good (on_forget m c w es o n p.came)
      forget_good o n of = by p.came refl
        where
          faults : (upto : ℕ) (f : Option (ForgetFault m)) → p.came ≡ Played upto → may_forget m es o n ≡ f → Good (forget_by m c w o n f)
          faults upto (Some NoCheckpoint) a f = refuse (Plays es p) h c 0 _ (Ends.ForgetUnsaved es p upto o n of a f)
          faults upto (Some (OpenDecision at)) a f = refuse (Plays es p) h c 0 _ (Ends.ForgetOpen es p upto o n at of a f)
          faults upto None a f = append (Plays es p) h _ _ _ _ (Ends.MarkBegins es p upto o n of a f)

          by : (x : PlayEnd) → p.came ≡ x → Good (on_forget m c w es o n x)
          by (Played upto) a = faults upto (may_forget m es o n) a refl
          by (Blocked q x) a = refuse (Plays es p) h c 0 (cause.Undecided q x) (Ends.ForgetBlocked es p o n q x of a)

      trim_good : w.command ≡ cmd.Trim → Good (on_trim m c w p.view p.came)
      unfolding trim_start
      trim_good of = by p.came refl
        where
          zero_or : (upto : ℕ) (b : Bool) → p.came ≡ Played upto → (floor_of m (state_of m p.view directory) == 0) ≡ b → Good (trims_if m c w (floor_of m (state_of m p.view directory)) b)
          zero_or upto true a z = answer (Plays es p) h c 0 _ (Ends.TrimZero es p upto of a z)
          zero_or upto false a z = goes (Plays es p) h _ _ [] (Ends.TrimsBegin es p upto of a z)

          by : (x : PlayEnd) → p.came ≡ x → Good (on_trim m c w p.view x)
          by (Played upto) a = zero_or upto (floor_of m (state_of m p.view directory) == 0) a refl
          by (Blocked q x) a = refuse (Plays es p) h c 0 (cause.Undecided q x) (Ends.TrimBlocked es p q x of a)

      other_good : Ends.IsOther m w.command → Good (replies m c [])
      other_good k = tell (Plays es p) h c [] (Ends.PlaysOther es p k)

      plays_good : (x : CommandOf m) → w.command ≡ x → Good (answer_by m c w es p x)
      plays_good (cmd.Ask o q) of = ask_good o q of
      plays_good cmd.End of = end_good of
      plays_good (cmd.Fate at) of = fate_good at of p.came refl
      plays_good (cmd.Decide at) of = decide_good at of (trim_above m w.trims at) refl
      plays_good (cmd.Checkpoint o) of = save_good o of
      plays_good (cmd.Forget o n) of = forget_good o n of
      plays_good cmd.Trim of = trim_good of
      plays_good (cmd.Host o) of = other_good (subst (Ends.IsOther m) (sym of) (Ends.OtherHost o))
      plays_good cmd.Begin of = other_good (subst (Ends.IsOther m) (sym of) Ends.OtherBegin)
      plays_good (cmd.Put o op) of = other_good (subst (Ends.IsOther m) (sym of) (Ends.OtherPut o op))
      plays_good cmd.Drop of = other_good (subst (Ends.IsOther m) (sym of) Ends.OtherDrop)
      plays_good (cmd.Reconf x) of = other_good (subst (Ends.IsOther m) (sym of) (Ends.OtherReconf x))
      plays_good (cmd.Copy u r s) of = other_good (subst (Ends.IsOther m) (sym of) (Ends.OtherCopy u r s))
      plays_good (cmd.AskAt at o q) of = other_good (subst (Ends.IsOther m) (sym of) (Ends.OtherAskAt at o q))
      plays_good (cmd.Rescue at) of = other_good (subst (Ends.IsOther m) (sym of) (Ends.OtherRescue at))

    -- a past view
    looks_good : (at : ℕ) (o : Oid) (q : m.ask) → P c w (Looks at o q) → Good (on_ask_at m c w at o q)
    looks_good at o q h = ahead (nat_lt w.tail at) refl
      where
        state : (p : Play m) (upto : ℕ) (s : Option m.state) → nat_lt w.tail at ≡ false → past_at m (member_entries m c w w.oids) w.trims w.oids c.objects o at ≡ PastView p → p.came ≡ Played upto → state_of m p.view o ≡ s
            → Good (past_answer m c at o q s)
        state p upto None l e a i = refuse (Looks at o q) h c 0 (cause.NotHosted o) (Ends.LooksMissing at o q p upto l e a i)
        state p upto (Some s) l e a i = tell (Looks at o q) h c _ (Ends.LooksFound at o q p upto s l e a i)

        came : (p : Play m) (x : PlayEnd) → nat_lt w.tail at ≡ false → past_at m (member_entries m c w w.oids) w.trims w.oids c.objects o at ≡ PastView p → p.came ≡ x → Good (past_played m c at o q p x)
        came p (Played upto) l e a = state p upto (state_of m p.view o) l e a refl
        came p (Blocked r x) l e a = refuse (Looks at o q) h c 0 (cause.Undecided r x) (Ends.LooksBlocked at o q p r x l e a)

        past : (t : PastTurn m) → nat_lt w.tail at ≡ false → past_at m (member_entries m c w w.oids) w.trims w.oids c.objects o at ≡ t → Good (past_turn m c at o q t)
        past (PastGone b) l e = refuse (Looks at o q) h c 0 (cause.Forgotten at b) (Ends.LooksForgotten at o q b l e)
        past (PastView p) l e = came p p.came l e refl

        ahead : (b : Bool) → nat_lt w.tail at ≡ b → Good (ahead_or m c w at o q b)
        ahead true l = refuse (Looks at o q) h c 0 (cause.Ahead w.tail) (Ends.LooksAhead at o q l)
        ahead false l = past (past_at m (member_entries m c w w.oids) w.trims w.oids c.objects o at) l refl

    -- a rescue
    rescues_good : (at : ℕ) → P c w (Rescues at) → Good (on_rescue m c w (all_entries m c w w.oids) at)
    rescues_good at h = by (rescue_turn m (all_entries m c w w.oids) w.trims w.oids c.objects at) refl
      where
        absent' : (b : Option ℕ) → rescue_turn m (all_entries m c w w.oids) w.trims w.oids c.objects at ≡ Absent → trim_above m w.trims at ≡ b → Good (absent m c at b)
        absent' None e t = tell (Rescues at) h c _ (Ends.RescueAbsent at e t)
        absent' (Some b) e t = refuse (Rescues at) h c 0 _ (Ends.RescueForgotten at b e t)

        needs : (so : Bool) (e : Option Entry) → rescue_turn m (all_entries m c w w.oids) w.trims w.oids c.objects at ≡ Known so true → commit_at (all_entries m c w w.oids) at ≡ e
            → Good (rescue_decision m c w (all_entries m c w w.oids) at so e)
        needs so None e i = tell (Rescues at) h c _ (Ends.RescueMissing at so e i)
        needs so (Some d) e i = append (Rescues at) h _ _ _ [] (Ends.RescueDecides at so d e i)

        by : (t : RescueTurn m) → rescue_turn m (all_entries m c w w.oids) w.trims w.oids c.objects at ≡ t → Good (rescue_by m c w (all_entries m c w w.oids) at t)
        by (Wider o) e = sync (Rescues at) h c w _ (Ends.Widens at o e)
        by Wide e = refuse (Rescues at) h c 0 _ (Ends.RescueWide at e)
        by Absent e = absent' (trim_above m w.trims at) e refl
        by (StuckAt q x) e = refuse (Rescues at) h c 0 (cause.Undecided q x) (Ends.RescueStuck at q x e)
        by (Known so true) e = needs so (commit_at (all_entries m c w w.oids) at) e refl
        by (Known so false) e = tell (Rescues at) h c _ (Ends.RescueKnown at so e)

  -- Along the places, where it is told of each way to the next, and of the end of walks.
  module _ (way : (c : Client m) (w : Work m) (p : Place m) (d : Client m) (v : Work m) (q : Place m) → Way m c w p d v q → P c w p → P d v q)
      (over : (c : Client m) (w : Work m) → P c w (Walks []) → Good (walked m c w)) where
    walks_good : (os : List Oid) (c : Client m) (w : Work m) → P c w (Walks os) → Good (walks m os c w)
    unfolding walks
    walks_good [] c w h = over c w h
    walks_good (o ∷ os) c w h = by (start_walk m c w o).to refl (begins_walk c.stand o _ w.lo c.cells c.next) (λ d v k. walks_good os d v k)
      where
        by : (to : Next Walk Members) → (start_walk m c w o).to ≡ to → Begins to → ((d : Client m) (v : Work m) → P d v (Walks os) → Good (walks m os d v))
            → Good (elim to as (λ _. Moved m) [
              | Goes x ↦ goes_on m (lends m (after_turn m c (start_walk m c w o))) w (Walking x os) []
              | Learns x ↦ moved m c []
              | Ends x ↦ walks m os (takes_back m c x) (found_by m w o x)
            ])
        by (Goes x) e b rest = goes c w (Walks (o ∷ os)) h _ _ [] (Ends.WalkBegins o os x e)
        by (Learns x) e b rest = absurd b
        by (Ends x) e b rest = rest _ _ (way c w _ _ _ _ (EndsAtOnce o os x e) h)

    sync_good : (c : Client m) (w : Work m) (bs : List Out) (to : Next Sync Confirmed) → P c w (OnSync bs to) → Good (sync_to m c w bs to)
    sync_good c w bs (Goes s) h = goes c w _ h _ _ bs (Ends.SyncGoes bs s)
    sync_good c w bs (Learns s) h = learns c w _ h _ (Ends.SyncLearns bs s)
    sync_good c w bs (Ends x) h = by x.settled h
      where
        by : (s : Option (ℕ × Cell)) → P c w (OnSync bs (Ends (record { tail = x.tail; lasts = x.lasts; settled = s })))
            → Good (walks m w.oids (knows m c s) (record w { tail = x.tail; lasts = x.lasts; lo = lo_for m c w.command }))
        by None h = walks_good w.oids _ _ (way c w _ _ _ _ (Confirms bs x.tail x.lasts) h)
        by (Some s) h = walks_good w.oids _ _ (way c w _ _ _ _ (Settles bs x.tail x.lasts s) h)

    over_good : (c : Client m) (w : Work m) (o : Oid) (os : List Oid) (x : Members) (g : Option ℕ) → P c w (Over o os x g) → Good (walk_ended_by m c w o os x g)
    over_good c w o os x None h = walks_good os c w (way c w _ _ _ _ (MetNone o os x) h)
    over_good c w o os x (Some b) h = by (gives_up m c w b) (stale m c w o x b) (w.lo == 0) refl refl refl
      where
        zero_is : (n : ℕ) → (n == 0) ≡ true → n ≡ 0
        zero_is n e = grind arith

        by : (g s z : Bool) → gives_up m c w b ≡ g → stale m c w o x b ≡ s → (w.lo == 0) ≡ z → Good (at_trim m (given_up_if m g c) w os s (g && not z))
        by false true z e f k = sync c w _ h c w w.oids (Ends.StaleLow o os x b e f)
        by false false z e f k = walks_good os c w (way c w _ _ _ _ (MetLow o os x b e f) h)
        by true true z e f k = sync c w _ h (record c { view = None }) w w.oids (Ends.StaleHigh o os x b e f)
        by true false true e f k = walks_good os _ _ (way c w _ _ _ _ (MetHigh o os x b e f (zero_is w.lo k)) h)
        by true false false e f k = walks_good w.oids _ _ (way c w _ _ _ _ (StartsOver o os x b e f k) h)

    walk_good : (c : Client m) (w : Work m) (o : Oid) (os : List Oid) (to : Next Walk Members) → P c w (OnWalk o os to) → Good (walk_to m c w o os to)
    walk_good c w o os (Goes x) h = goes c w _ h _ _ [] (Ends.WalkGoes o os x)
    walk_good c w o os (Learns x) h = learns c w _ h _ (Ends.WalkLearns o os x)
    walk_good c w o os (Ends x) h = over_good _ _ o os x x.gone (way c w _ _ _ _ (WalkEnds o os x) h)

    decided_good : (c : Client m) (w : Work m) (x : WhatOf m) (bs : List Out) (e : AppendEnd) → P c w (OnAppend (Decides x) bs (Ends e)) → Good (decided_for m (page_known m c e) w.command x)
    decided_good c w x bs e h = by e h w.command refl
      where
        pos : (p : ℕ) (d : List ℕ) → P c w (OnAppend (Decides x) bs (Ends (At p d))) → (y : CommandOf m) → w.command ≡ y → (y ≡ cmd.End → ⊥) → Good (answers m (knows_page m c p d) 0 x)
        pos p d h y is not_end = answer c w _ h _ 0 x (Ends.DecidedAt x bs p d (λ f. not_end (sym is ∙ f)))

        lost : (e : AppendEnd) → P c w (OnAppend (Decides x) bs (Ends e)) → Ends.IsLost m e → (y : CommandOf m) → w.command ≡ y → (y ≡ cmd.End → ⊥) → Good (answers m c 0 x)
        lost e h l y is not_end = answer c w _ h c 0 x (Ends.DecidedLost x bs e l (λ f. not_end (sym is ∙ f)))

        by : (e : AppendEnd) → P c w (OnAppend (Decides x) bs (Ends e)) → (y : CommandOf m) → w.command ≡ y → Good (decided_for m (page_known m c e) y x)
        by (At p d) h cmd.End is = answer c w _ h _ _ x (Ends.JudgedSo x bs p d is)
        by (Full l) h cmd.End is = answer c w _ h _ _ x (Ends.JudgedLost x bs (Full l) (Ends.LostFull l) is)
        by (Forgotten p b) h cmd.End is = answer c w _ h _ _ x (Ends.JudgedLost x bs (Forgotten p b) (Ends.LostForgotten p b) is)
        by (At p d) h y is = pos p d h y is (λ f. cc)
        by (Full l) h y is = lost (Full l) h (Ends.LostFull l) y is (λ f. cc)
        by (Forgotten p b) h y is = lost (Forgotten p b) h (Ends.LostForgotten p b) y is (λ f. cc)

    append_good : (c : Client m) (w : Work m) (y : Purpose m) (bs : List Out) (to : Next Append AppendEnd) → P c w (OnAppend y bs to) → Good (append_to m c w y bs to)
    append_good c w y bs (Goes a) h = goes c w _ h _ _ bs (Ends.AppendGoes y bs a)
    append_good c w y bs (Learns a) h = learns c w _ h _ (Ends.AppendLearns y bs a)
    append_good c w Writes bs (Ends (At p d)) h = tell c w _ h _ _ (Ends.IsCommitted bs p d)
    append_good c w Writes bs (Ends (Full l)) h = refuse c w _ h _ _ _ (Ends.RecordFull Writes bs l Ends.OfWrites)
    append_good c w Writes bs (Ends (Forgotten p b)) h = refuse c w _ h _ _ _ (Ends.RecordForgotten Writes bs p b Ends.OfWrites)
    append_good c w Judged bs (Ends (At p d)) h = sync c w _ h _ _ _ (Ends.JudgedAt bs p d)
    append_good c w Judged bs (Ends (Full l)) h = refuse c w _ h _ _ _ (Ends.RecordFull Judged bs l Ends.OfJudged)
    append_good c w Judged bs (Ends (Forgotten p b)) h = refuse c w _ h _ _ _ (Ends.RecordForgotten Judged bs p b Ends.OfJudged)
    append_good c w (Decides x) bs (Ends e) h = decided_good c w x bs e h
    append_good c w (RescuesWith x) bs (Ends (At p d)) h = tell c w _ h _ _ (Ends.IsRescued x bs p d)
    append_good c w (RescuesWith x) bs (Ends (Full l)) h = refuse c w _ h _ _ _ (Ends.OtherFull _ bs 0 l (Ends.OfRescue x))
    append_good c w (RescuesWith x) bs (Ends (Forgotten p b)) h = refuse c w _ h _ _ _ (Ends.OtherForgotten _ bs 0 p b (Ends.OfRescue x))
    append_good c w (Saves o u) bs (Ends (At p d)) h = answer c w _ h _ _ _ (Ends.IsSaved o u bs p d)
    append_good c w (Saves o u) bs (Ends (Full l)) h = refuse c w _ h _ _ _ (Ends.OtherFull _ bs 0 l (Ends.OfSave o u))
    append_good c w (Saves o u) bs (Ends (Forgotten p b)) h = refuse c w _ h _ _ _ (Ends.OtherForgotten _ bs 0 p b (Ends.OfSave o u))
    append_good c w (Marks n o j) bs (Ends (At p d)) h = tell c w _ h _ _ (Ends.IsMarked n o j bs p d)
    append_good c w (Marks n o j) bs (Ends (Full l)) h = refuse c w _ h _ _ _ (Ends.OtherFull _ bs n l (Ends.OfMark n o j))
    append_good c w (Marks n o j) bs (Ends (Forgotten p b)) h = refuse c w _ h _ _ _ (Ends.OtherForgotten _ bs n p b (Ends.OfMark n o j))

    trims_good : (c : Client m) (w : Work m) (b : ℕ) (to : Next Trims Trimmed) → P c w (OnTrims b to) → Good (trim_to m c w b to)
    trims_good c w b (Goes t) h = goes c w _ h _ _ [] (Ends.TrimsGo b t)
    trims_good c w b (Learns t) h = learns c w _ h _ (Ends.TrimsLearn b t)
    trims_good c w b (Ends e) h = answer c w _ h _ _ _ (Ends.AreTrimmed b e)

    copy_good : (c : Client m) (w : Work m) (x : Copying) (to : Next Copying CopyEnd) → P c w (OnCopy x to) → Good (copy_to m c w x to)
    copy_good c w x (Goes y) h = goes c w _ h _ _ [] (Ends.CopyGoes x y)
    copy_good c w x (Learns y) h = learns c w _ h _ (Ends.CopyLearns x y)
    copy_good c w x (Ends e) h = tell c w _ h _ _ (Ends.IsCopied x e)

    reconf_good : (c : Client m) (w : Work m) (to : Next Reconf ReconfEnd) → P c w (OnReconf to) → Good (reconf_to m c w to)
    reconf_good c w (Goes r) h = goes c w _ h _ _ [] (Ends.ReconfGoes r)
    reconf_good c w (Learns r) h = learns c w _ h _ (Ends.ReconfLearns r)
    reconf_good c w (Ends (Installed e p)) h = tell c w _ h _ _ (Ends.IsInstalled e p)
    reconf_good c w (Ends (Overtaken e p)) h = refuse c w _ h _ _ _ (Ends.ReconfOvertaken e p)
    reconf_good c w (Ends (NotWhole u pos p)) h = refuse c w _ h _ _ _ (Ends.ReconfNotWhole u pos p)

    fed_good : (c : Client m) (w : Work m) (t : Task m) (n rid : ℕ) (x : Reply) → P c w (Feeds t n rid x) → Good (task_feed m c w t n rid x)
    unfolding task_feed
    fed_good c w (Syncing s) n rid x h = sync_good _ _ _ _ (way c w _ _ _ _ (FeedsSync s n rid x) h)
    fed_good c w (Walking k os) n rid x h = walk_good _ _ k.oid os _ (way c w _ _ _ _ (FeedsWalk k os n rid x) h)
    fed_good c w (Appending a y) n rid x h = append_good _ _ y _ _ (way c w _ _ _ _ (FeedsAppend a y n rid x) h)
    fed_good c w (Trimming t) n rid x h = trims_good _ _ t.below _ (way c w _ _ _ _ (FeedsTrims t n rid x) h)
    fed_good c w (Copying' y) n rid x h = copy_good _ _ y _ (way c w _ _ _ _ (FeedsCopy y n rid x) h)
    fed_good c w (Reconfiguring r) n rid x h = reconf_good _ _ _ (way c w _ _ _ _ (FeedsReconf r n rid x) h)

    newer_good : (c : Client m) (w : Work m) (t : Task m) (n rid : ℕ) (q : Layout) → P c w (Newer t n rid q) → Good (on_newer m c w t n rid q)
    unfolding task_again
    newer_good c w (Syncing s) n rid q h = sync_good _ _ _ _ (way c w _ _ _ _ (NewerSync s n rid q) h)
    newer_good c w (Walking k os) n rid q h = walk_good _ _ k.oid os _ (way c w _ _ _ _ (NewerWalk k os n rid q) h)
    newer_good c w (Appending a y) n rid q h = append_good _ _ y _ _ (way c w _ _ _ _ (NewerAppend a y n rid q) h)
    newer_good c w (Trimming t) n rid q h = trims_good _ _ t.below _ (way c w _ _ _ _ (NewerTrims t n rid q) h)
    newer_good c w (Copying' x) n rid q h = by (copy_fault m q x.unit x.range x.stripe) refl
      where
        by : (f : Option Refusal) → copy_fault m q x.unit x.range x.stripe ≡ f → Good (copies_again m (stands m c q) w x f)
        by None e = copy_good _ _ x _ (way c w _ _ _ _ (NewerCopy x n rid q e) h)
        by (Some why) e = refuse c w _ h _ _ _ (Ends.CopyFault x n rid q why e)
    newer_good c w (Reconfiguring r) n rid q h = reconf_good _ _ _ (way c w _ _ _ _ (NewerReconf r n rid q) h)

    pub along : (c : Client m) (w : Work m) (p : Place m) → P c w p → Good (becomes m c w p)
    along c w (Feeds t n rid x) h = fed_good c w t n rid x h
    along c w (Newer t n rid q) h = newer_good c w t n rid q h
    along c w (OnSync bs to) h = sync_good c w bs to h
    along c w (OnWalk o os to) h = walk_good c w o os to h
    along c w (OnAppend y bs to) h = append_good c w y bs to h
    along c w (OnTrims b to) h = trims_good c w b to h
    along c w (OnCopy x to) h = copy_good c w x to h
    along c w (OnReconf to) h = reconf_good c w to h
    along c w (Over o os x g) h = over_good c w o os x g h
    along c w (Walks os) h = walks_good os c w h
    along c w (Plays es p) h = plays_good c w es p h w.command refl
    along c w (Looks at o q) h = looks_good c w at o q h
    along c w (Rescues at) h = rescues_good c w at h

    -- A client at work: nothing comes of what was delivered, or an awaited answer or a newer layout comes.
    pub replied : (c : Client m) (w : Work m) (from : NodeId) (rid : ℕ) (x : Reply) → Good (moved m c [])
        → ((t : Task m) → w.hand ≡ Doing t → awaits (task_awaited m c.stand t) from rid ≡ true → NoLatest x → P c w (Feeds t from.num rid x))
        → ((q : Layout) → x ≡ IsLatest q → (node_eq from (layout_id from.num) && nat_lt c.stand.epoch q.epoch) ≡ true → P c w (Newer (task_in m w.hand) from.num rid q))
        → Good (reply_feed m c w from rid x)
    replied c w from rid x still feeds newer = handed_work m Good c w from rid x still (λ t doing a other. fed_good c w t from.num rid x (feeds t doing a other)) (λ q is e. newer_good c w (task_in m w.hand) from.num rid q (newer q is e))

    -- A step of any client.
    pub delivered : (c : Client m) (from : NodeId) (rid : ℕ) (x : Reply) → Good (moved m c [])
        → ((w : Work m) (t : Task m) → c.work ≡ Some w → w.hand ≡ Doing t → awaits (task_awaited m c.stand t) from rid ≡ true → NoLatest x → P c w (Feeds t from.num rid x))
        → ((w : Work m) (q : Layout) → c.work ≡ Some w → x ≡ IsLatest q → (node_eq from (layout_id from.num) && nat_lt c.stand.epoch q.epoch) ≡ true → P c w (Newer (task_in m w.hand) from.num rid q))
        → Good (feed m c c.work from rid x)
    delivered c from rid x still feeds newer =
        handed m Good c from rid x still (λ w t has doing a other. fed_good c w t from.num rid x (feeds w t has doing a other)) (λ w q has is e. newer_good c w (task_in m w.hand) from.num rid q (newer w q has is e))

  -- Where all streams are walked, by what holds there.
  module _ (walked' : (c : Client m) (w : Work m) (d : Client m) (q : Place m) → AllWalked m c w d q → P c w (Walks []) → P d w q) where
    pub over_walks : (c : Client m) (w : Work m) → P c w (Walks []) → Good (walked m c w)
    unfolding walked
    over_walks c w h = by w.command refl
      where
        plays : plays_kept m w.command ≡ true → Good (plays_own m c w (all_entries m c w c.hosted))
        plays k = plays_good (with_view m c (own_play m c w).view) w (all_entries m c w c.hosted) (own_play m c w) (walked' c w _ _ (HasPlayed k) h) w.command refl

        by : (x : CommandOf m) → w.command ≡ x → Good (walked_for m c w x)
        by (cmd.AskAt at o q) of = looks_good c w at o q (walked' c w _ _ (LooksBack at o q of) h)
        by (cmd.Rescue at) of = rescues_good c w at (walked' c w _ _ (IsRescue at of) h)
        by x of = plays (ap (λ (y : CommandOf m). plays_kept m y) of)

-- A command: refused at once, or taken.
module _ (m : Meaning) (Good : Moved m → Type 0) where
  pub commanded : (c : Client m) (x : CommandOf m) → ((why : Refusal) → refusal m c x ≡ Some why → Good (moved m c (note m (number_on m c why) (told.Refused why) ∷ [])))
      → (refusal m c x ≡ None → (y : Moved m) → Taken m c x y → Good y) → Good (refused_or m c x (refusal m c x))
  commanded c x refused takes = by (refusal m c x) refl
    where
      by : (f : Option Refusal) → refusal m c x ≡ f → Good (refused_or m c x f)
      by None e = takes e (accepts m c x) (taken m c x)
      by (Some why) e = refused why e

-- A tick.
pub ticked : (m : Meaning) (Good : ClientTurn m → Type 0) (c : Client m) → (c.work ≡ None → Good (record { now = called m c; sends = []; notes = [] }))
    → ((w : Work m) → c.work ≡ Some w → Good (record { now = called m (record c { next = c.next + c.layouts }); sends = hand_again_asks m c.stand w.hand ++ asks_latest m (waits_for (numbers c.layouts 0) c.next); notes = [] })) → Good (client_tick m c)
unfolding client_tick
ticked m Good c idle waits = by c.work refl
  where
    by : (o : Option (Work m)) → c.work ≡ o → Good (tick_by m c o)
    by None has = idle has
    by (Some w) has = waits w has

-- What a command comes to where all its streams are walked.
module _ (m : Meaning) (c : Client m) (w : Work m) where
  pub data Answered : Moved m → Type 0 where
    AnsweredBy : (d : Client m) (q : Place m) (x : Moved m) → AllWalked m c w d q → Ends.End m d w q x → Answered x

  abbrev After : Client m → Work m → Place m → Type 0
  After d v (Walks os) = (e : Client m) (q : Place m) (y : Moved m) → AllWalked m d v e q → Ends.End m e v q y → Answered y
  After d v p = Unit {0}

  abbrev Leads : Client m → Work m → Place m → Type 0
  Leads d v p = ((y : Moved m) → Ends.End m d v p y → Answered y) × After d v p

  -- no turn ends there
  none : (y : Moved m) → Ends.End m c w (Walks []) y → Answered y
  none _ (Ends.GoesOn d t bs x) = elim x [ ]
  none _ (Ends.LearnsNewer t x) = elim x [ ]
  none _ (Ends.Syncs d v os x) = elim x [ ]
  none _ (Ends.Appends d e y ns x) = elim x [ ]
  none _ (Ends.Refuses d n why x) = elim x [ ]
  none _ (Ends.Answers d n what x) = elim x [ ]
  none _ (Ends.Tells d ns x) = elim x [ ]

  leads_on : (d : Client m) (v : Work m) (e : Client m) (q : Place m) → AllWalked m d v e q → Leads d v (Walks []) → Leads e v q
  leads_on d v _ _ (HasPlayed k) h = (λ y f. h.1 _ _ y (HasPlayed k) f, tt)
  leads_on d v _ _ (LooksBack at o q of) h = (λ y f. h.1 _ _ y (LooksBack at o q of) f, tt)
  leads_on d v _ _ (IsRescue at of) h = (λ y f. h.1 _ _ y (IsRescue at of) f, tt)

  pub walked_is : Answered (walked m c w)
  walked_is = over_walks m Leads Answered (λ d v p x e h. h.0 x e) leads_on c w (none, λ e q y a f. AnsweredBy e q y a f)
