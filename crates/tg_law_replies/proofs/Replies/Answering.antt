-- A client keeps its shape where its streams are walked and it answers.
use Rattle.std.proofs.Common.{◌≡◌, ℕ, List, [], refl, sym, ap, ◌∙◌, subst, Some, None}
use Rattle.tg_base.specs.declared.ids.Oid.{Oid}
use Rattle.tg_entry.specs.declared.entry.Entry.{Entry}
use Rattle.tg_kind.specs.Meaning.{Meaning}
use Rattle.tg_model.specs.Kinds.{CommandOf, WhatOf}
use Rattle.tg_model.specs.declared.command.Command.TheVariants as cmd
use Rattle.tg_model.specs.declared.play.PlayEnd.TheVariants.{Played}
use Rattle.tg_model.specs.declared.trace.What.TheVariants as told
use Rattle.tg_protocol.specs.Views.{Entries, View, Play, view_version, play}
use Rattle.tg_protocol.specs.Transactions.{Tx, tx_read}
use Rattle.tg_protocol.specs.Clients.{Work, Client, all_entries}
use Rattle.tg_protocol.specs.Answers.{Moved, closed}
use Rattle.tg_base.specs.declared.packet.Out.{Out}
use Rattle.tg_model.specs.Kinds.{NoteOf}
use Rattle.tg_model.specs.declared.refusal.Refusal.{Refusal}
use Rattle.tg_protocol.specs.Clients.{Purpose, Task}
use Rattle.tg_protocol.specs.Answers.{replies, refuses, answers, appends, syncs, own_view, play_target}
use Rattle.tg_protocol.specs.ClientSteps.{goes_on, learns_for, knows_page, owns}
use Rattle.tg_law_steps.proofs.Places.{Place, Feeds, Newer, OnAppend, OnTrims, OnCopy, OnReconf, Walks, Plays, Looks, Rescues as Rescues'}
use Rattle.tg_law_steps.proofs.Ways.{Way, MetHigh, StartsOver, AllWalked, HasPlayed, LooksBack, IsRescue}
use Rattle.tg_law_steps.proofs.Ends as end
use Rattle.tg_law_steps.proofs.Served.{refused_other, other_not_end}
use Rattle.tg_law_replies.proofs.Replies.Shape.{StandsWith, StandsIn, WalksFor, DecidesFor, AppendsFor, WaitsFor, untold, stands_decides, decides_stand, walks_stand, plays_hosting, Shape, Good, begins_hosting, with_hosting, took, answered, appended, synced}

module _ (m : Meaning) (objects : List Oid) where
  abbrev Fits : Client m → Type 0
  Fits c = Shape m objects c

  abbrev So : Moved m → Type 0
  So x = Good m objects x

  abbrev pub own : Client m → Work m → Entries
  own c w = all_entries m c w c.hosted

  abbrev pub playing : Client m → Work m → Play m
  playing c w = play m (own_view m c w (own c w)) (own c w) (play_target m w w.command)

  -- where an ask's play has to come to
  abbrev pub AsksIn : Work m → Play m → CommandOf m → Type 0
  AsksIn w p (cmd.Ask o q) = (t : ℕ) → p.came ≡ Played t → (r : Oid) → StandsWith m p.view w.tail r
  AsksIn w p x = Unit {0}

  abbrev pub AsksAt : Client m → Work m → CommandOf m → Type 0
  AsksAt c w x = AsksIn w (playing c w) x

  -- Along a turn.

  pub record Answering (c : Client m) (w : Work m) (p : Play m) : Type 0 where
    pub walks : WalksFor m c.tx c.hosted w.command
    pub view : c.view ≡ Some p.view
    pub asks : AsksIn w p w.command

  abbrev Waits : Client m → Work m → Place m → Type 0
  Waits c w (Feeds t n rid x) = WaitsFor m c.tx c.view c.hosted w.command t
  Waits c w (Newer t n rid q) = WaitsFor m c.tx c.view c.hosted w.command t
  Waits c w (OnAppend y bs to) = AppendsFor m c.tx c.view c.hosted w.command y
  Waits c w (OnTrims b to) = StandsIn m c.tx c.view
  Waits c w (OnCopy x to) = StandsIn m c.tx c.view
  Waits c w (OnReconf to) = StandsIn m c.tx c.view
  Waits c w (Plays es p) = Answering c w p
  Waits c w (Looks at o q) = StandsIn m c.tx c.view
  Waits c w (Rescues' at) = StandsIn m c.tx c.view × WalksFor m c.tx c.hosted w.command
  Waits c w p = WalksFor m c.tx c.hosted w.command

  pub record Along (c : Client m) (w : Work m) (p : Place m) : Type 0 where
    pub fits : Fits c
    pub waits : Waits c w p

  no_view : (c : Client m) → Fits c → Fits (record c { view = None })
  no_view c h = record { objects_are = h.objects_are; dir = h.dir; view = λ v is. absurd (none v is) }
    where
      none : (v : View m) → None ≡ Some v → ⊥
      none v e = cc

  pub way : (c : Client m) (w : Work m) (p : Place m) (d : Client m) (v : Work m) (q : Place m) → Way m c w p d v q → Along c w p → Along d v q
  way c w _ _ _ _ (MetHigh o os x b e f z) h = record { fits = no_view c h.fits; waits = h.waits }
  way c w _ _ _ _ (StartsOver o os x b e f z) h = record { fits = no_view c h.fits; waits = h.waits }
  way c w _ _ _ _ x h = record { fits = h.fits; waits = h.waits }

  stands_at : (c : Client m) (w : Work m) (x : CommandOf m) → w.command ≡ x → (x ≡ cmd.End → ⊥) → WalksFor m c.tx c.hosted w.command → StandsIn m c.tx c.view
  stands_at c w x of other k = walks_stand m c.tx c.view c.hosted w.command (λ e. other (sym of ∙ e)) k

  pub walked_way : (c : Client m) (w : Work m) (d : Client m) (q : Place m) → AllWalked m c w d q → Along c w (Walks []) → AsksAt c w w.command → Along d w q
  walked_way c w _ _ (HasPlayed k) h at = record {
    fits = with_hosting m objects c (playing c w).view h.fits (plays_hosting m c.hosted (own_view m c w (own c w)) (own c w) (play_target m w w.command) (begins_hosting m objects c w (own c w) c.view refl h.fits));
    waits = record { walks = h.waits; view = refl; asks = at };
  }
  walked_way c w _ _ (LooksBack at o q of) h k = record { fits = h.fits; waits = stands_at c w (cmd.AskAt at o q) of (λ e. cc) h.waits }
  walked_way c w _ _ (IsRescue at of) h k = record { fits = h.fits; waits = (stands_at c w (cmd.Rescue at) of (λ e. cc) h.waits, h.waits) }

  -- What the turn comes to.

  goes : (c : Client m) (w : Work m) (p : Place m) (d : Client m) (t : Task m) (bs : List Out) → end.IsGoing m c w p d t bs → Along c w p → So (goes_on m d w t bs)
  goes c w _ _ _ _ (end.TrimsBegin es p upto of a z) h = (h.fits, stands_at c w cmd.Trim of (λ e. cc) h.waits.walks)
  goes c w _ _ _ _ x h = (h.fits, h.waits)

  learns : (c : Client m) (w : Work m) (p : Place m) (t : Task m) → end.IsLearning m c w p t → Along c w p → So (learns_for m c w t)
  learns c w _ _ (end.SyncLearns bs s) h = (h.fits, h.waits)
  learns c w _ _ x h = (h.fits, h.waits)

  syncing : (c : Client m) (w : Work m) (p : Place m) (d : Client m) (v : Work m) (os : List Oid) → end.IsSynced m c w p d v os → Along c w p → So (syncs m d v os)
  syncing c w _ d v os (end.JudgedAt bs p page) h = synced m objects d v os h.fits h.waits.1
  syncing c w _ d v os (end.StaleLow o ws x b e f) h = synced m objects d v os h.fits h.waits
  syncing c w _ d v os (end.StaleHigh o ws x b e f) h = synced m objects d v os (no_view c h.fits) h.waits
  syncing c w _ d v os (end.Widens at o e) h = synced m objects d v os h.fits h.waits.1

  appending : (c : Client m) (w : Work m) (p : Place m) (d : Client m) (e : Entry) (y : Purpose m) (ns : List (NoteOf m)) → end.IsAppended m c w p d e y ns → Along c w p → So (appends m d w e y ns)
  appending c w _ d e y ns (end.EndDecides es p upto r b what of a i j l) h = appended m objects d w e y ns h.fits (subst (DecidesFor m c.tx c.view) (sym of) tt)
  appending c w _ d e y ns (end.DecideDecides es p at r v b of t k i o s l) h = appended m objects d w e y ns h.fits (stands_decides m c.tx c.view w.command (stands_at c w (cmd.Decide at) of (λ e. cc) h.waits.walks))
  appending c w _ d e y ns (end.SaveBegins es p upto o of a l) h = appended m objects d w e y ns h.fits (stands_at c w (cmd.Checkpoint o) of (λ e. cc) h.waits.walks)
  appending c w _ d e y ns (end.MarkBegins es p upto o n of a f) h = appended m objects d w e y ns h.fits (stands_at c w (cmd.Forget o n) of (λ e. cc) h.waits.walks)
  appending c w _ d e y ns (end.RescueDecides at b r k i) h = appended m objects d w e y ns h.fits h.waits.0

  refusing : (c : Client m) (w : Work m) (p : Place m) (d : Client m) (n : ℕ) (why : Refusal) → end.IsRefused m c w p d n why → Along c w p → So (refuses m d n why)
  refusing c w _ _ _ _ (end.RecordFull _ bs l end.OfWrites) h = (h.fits, h.waits)
  refusing c w _ _ _ _ (end.RecordFull _ bs l end.OfJudged) h = (h.fits, h.waits.0)
  refusing c w _ _ _ _ (end.RecordForgotten y bs p b of) h = (h.fits, untold m None c.view refl)
  refusing c w _ _ _ _ (end.OtherFull _ bs _ l (end.OfRescue x)) h = (h.fits, h.waits)
  refusing c w _ _ _ _ (end.OtherFull _ bs _ l of) h = (h.fits, h.waits)
  refusing c w _ _ _ _ (end.OtherForgotten _ bs _ p b (end.OfRescue x)) h = (h.fits, h.waits)
  refusing c w _ _ _ _ (end.OtherForgotten _ bs _ p b of) h = (h.fits, h.waits)
  refusing c w _ _ _ _ (end.ReconfOvertaken e p) h = (h.fits, h.waits)
  refusing c w _ _ _ _ (end.ReconfNotWhole u pos p) h = (h.fits, h.waits)
  refusing c w _ _ _ _ (end.CopyFault x n rid q why f) h = (h.fits, h.waits)
  refusing c w (Plays es p) d n why x h = (h.fits, walks_stand m c.tx c.view c.hosted w.command (refused_other m c w es p d n why x) h.waits.walks)
  refusing c w (Looks at o q) d n why x h = (h.fits, h.waits)
  refusing c w (Rescues' at) d n why x h = (h.fits, h.waits.0)

  -- an end, which closes the transaction
  shut : (c : Client m) (x : ℕ) (what : WhatOf m) → Fits c → So (answers m (closed m c) x what)
  shut c x what h = answered m objects (closed m c) x what h (untold m None c.view refl)

  -- an ask's answer, in the view that stands at the snapshot now
  asked : (c : Client m) (w : Work m) (p : Play m) (o : Oid) (q : m.ask) (upto : ℕ) (t : Tx) (s : m.state) → w.command ≡ cmd.Ask o q → p.came ≡ Played upto → Fits c → Answering c w p
      → So (answers m (record c { tx = Some (tx_read t (record { oid = o; part = m.look q; version = view_version m p.view o (m.look q) }) w.tail) }) t.number (told.Asked o q w.tail (m.answers s q)))
  asked c w p o q upto t s of a h y =
      answered m objects (record c { tx = Some (tx_read t (record { oid = o; part = m.look q; version = view_version m p.view o (m.look q) }) w.tail) }) t.number (told.Asked o q w.tail (m.answers s q)) h
      (stands (tx_read t (record { oid = o; part = m.look q; version = view_version m p.view o (m.look q) }) w.tail) refl)
    where
      same : (u v : View m) → Some v ≡ Some u → v ≡ u
      same u v e = cc

      some : (a b : ℕ) → Some a ≡ Some b → a ≡ b
      some a b e = cc

      tx_is : (a b : Tx) → Some a ≡ Some b → a ≡ b
      tx_is a b e = cc

      stands : (z : Tx) → z.snapshot ≡ Some w.tail → StandsIn m (Some z) c.view
      stands z snap r n u x tx told has =
          subst (λ (b : ℕ). StandsWith m u b x) (some w.tail n (sym snap ∙ (ap (λ (k : Tx). k.snapshot) (tx_is z r tx) ∙ told)))
          (subst (λ (v : View m). StandsWith m v w.tail x) (same u p.view (sym y.view ∙ has)) (subst (AsksIn w p) of y.asks upto a x))

  answering : (c : Client m) (w : Work m) (p : Place m) (d : Client m) (n : ℕ) (what : WhatOf m) → end.IsAnswered m c w p d n what → Along c w p → So (answers m d n what)
  answering c w _ d n what (end.DecidedAt _ bs p page other) h = answered m objects d n what h.fits (decides_stand m c.tx c.view w.command other h.waits)
  answering c w _ d n what (end.DecidedLost _ bs e l other) h = answered m objects d n what h.fits (decides_stand m c.tx c.view w.command other h.waits)
  answering c w _ d n what (end.JudgedSo _ bs p page of) h = shut (knows_page m c p page) n what h.fits
  answering c w _ d n what (end.JudgedLost _ bs e l of) h = shut c n what h.fits
  answering c w _ d n what (end.IsSaved o upto bs p page) h = answered m objects d n what h.fits h.waits
  answering c w _ d n what (end.AreTrimmed b e) h = answered m objects d n what h.fits h.waits
  answering c w _ d n what (end.IsAsked es p o q upto t s of a has is) h = asked c w p o q upto t s of a h.fits h.waits
  answering c w _ d n what (end.EndBlocked es p q x of a) h = shut c n what h.fits
  answering c w _ d n what (end.EndUnsure es p upto of a k) h = shut c n what h.fits
  answering c w _ d n what (end.EndJudged es p upto e b _ of a i j l) h = shut c n what h.fits
  answering c w _ d n what (end.FateKept es p at b of k f) h = answered m objects d n what h.fits (stands_at c w (cmd.Fate at) of (λ e. cc) h.waits.walks)
  answering c w _ d n what (end.FateNone es p at of k f i t) h = answered m objects d n what h.fits (stands_at c w (cmd.Fate at) of (λ e. cc) h.waits.walks)
  answering c w _ d n what (end.FateJudged es p at r v b of k f i o s t) h = answered m objects d n what h.fits (stands_at c w (cmd.Fate at) of (λ e. cc) h.waits.walks)
  answering c w _ d n what (end.DecideNone es p at of t k i) h = answered m objects d n what h.fits (stands_at c w (cmd.Decide at) of (λ e. cc) h.waits.walks)
  answering c w _ d n what (end.DecideJudged es p at r v b of t k i o s l) h = answered m objects d n what h.fits (stands_at c w (cmd.Decide at) of (λ e. cc) h.waits.walks)
  answering c w _ d n what (end.TrimZero es p upto of a z) h = answered m objects d n what h.fits (stands_at c w cmd.Trim of (λ e. cc) h.waits.walks)

  telling : (c : Client m) (w : Work m) (p : Place m) (d : Client m) (ns : List (NoteOf m)) → end.IsTold m c w p d ns → Along c w p → So (replies m d ns)
  telling c w _ _ _ (end.IsCommitted bs p page) h = (h.fits, untold m None c.view refl)
  telling c w _ _ ns (end.IsMarked n o mark bs p page) h = took m objects (owns m c p page) c.view ns h.fits h.waits
  telling c w _ _ _ (end.PlaysOther es p k) h = (h.fits, walks_stand m c.tx c.view c.hosted w.command (other_not_end m w.command k) h.waits.walks)
  telling c w _ _ _ (end.IsRescued x bs p page) h = (h.fits, h.waits)
  telling c w _ _ _ (end.IsCopied x e) h = (h.fits, h.waits)
  telling c w _ _ _ (end.IsInstalled e p) h = (h.fits, h.waits)
  telling c w _ _ _ (end.LooksFound at o q p upto s l e a i) h = (h.fits, h.waits)
  telling c w _ _ _ x h = (h.fits, h.waits.0)

  pub ends_shaped : (c : Client m) (w : Work m) (p : Place m) (x : Moved m) → end.End m c w p x → Along c w p → So x
  ends_shaped c w p _ (end.GoesOn d t bs x) h = goes c w p d t bs x h
  ends_shaped c w p _ (end.LearnsNewer t x) h = learns c w p t x h
  ends_shaped c w p _ (end.Syncs d v os x) h = syncing c w p d v os x h
  ends_shaped c w p _ (end.Appends d e y ns x) h = appending c w p d e y ns x h
  ends_shaped c w p _ (end.Refuses d n why x) h = refusing c w p d n why x h
  ends_shaped c w p _ (end.Answers d n what x) h = answering c w p d n what x h
  ends_shaped c w p _ (end.Tells d ns x) h = telling c w p d ns x h
