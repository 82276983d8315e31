-- What a client's turn comes to: what it then appends comes from an end of its walks.
use Rattle.std.proofs.Common.{Bool, ◌≡◌, ℕ, ◌<◌, ◌≤◌, List, [], refl, sym, subst, arith, Option, Some, None}
use Rattle.tg_base.specs.declared.ids.Oid.{Oid}
use Rattle.tg_base.specs.declared.packet.Out.{Out}
use Rattle.tg_entry.specs.declared.entry.Entry.{Entry}
use Rattle.tg_kind.specs.Meaning.{Meaning}
use Rattle.tg_model.specs.declared.command.Command.TheVariants as cmd
use Rattle.tg_model.specs.declared.play.PlayEnd.TheVariants.{Played}
use Rattle.tg_model.specs.declared.refusal.Refusal.{Refusal}
use Rattle.tg_model.specs.Kinds.{CommandOf, WhatOf, NoteOf}
use Rattle.tg_protocol.specs.Appending.{Append, append_start}
use Rattle.tg_protocol.specs.Syncing.{sync_start}
use Rattle.tg_protocol.specs.Views.{Entries, View, Play}
use Rattle.tg_protocol.specs.Checkpoints.{checkpoint, may_forget}
use Rattle.tg_protocol.specs.Clients.{Purpose, Decides, Task, Work, Client, upto, all_entries}
use Rattle.tg_protocol.specs.Answers.{Moved, pruned, took_over, closed, appends, syncs, play_target, decision, with_decision}
use Rattle.tg_protocol.specs.ClientSteps.{goes_on, learns_for, knows_page, owns}
use Rattle.tg_protocol.specs.Walked.{Walked}
use Rattle.tg_law_replies.proofs.Replies.Turns.{Keeps}
use Rattle.tg_law_steps.proofs.Places.{Place, Feeds, Newer, OnAppend, Plays, Rescues as Rescues'}
use Rattle.tg_law_steps.proofs.Ends as end
use Rattle.tg_law_steps.proofs.Reaches.{reaches}
use Rattle.tg_law_headline.specs.Origins.Origins.{DecidesAt}
use Rattle.tg_law_headline.proofs.Origins.Drafts.{TxFits, CommandFits, all_hosted, EndBy, DraftFits, TaskFits, ClientFits}

module _ (m : Meaning) (E : Walked m → Type 0) where
  abbrev pub Good : Moved m → Type 0
  Good x = ClientFits m E x.now

  abbrev pub Fits : Client m → Work m → Type 0
  Fits c w = CommandFits m c.hosted w.oids w.command

  -- where walks end so, a step of the run came to that end
  abbrev pub Came : Option (Walked m) → Type 0
  Came o = (y : Walked m) → o ≡ Some y → E y

  -- Replies, and beginnings of machines.

  replied : (c : Client m) → TxFits m c.tx → ClientFits m E (pruned m c)
  replied c h = (h, tt)

  took : (c : Client m) (o : Option (View m)) → TxFits m c.tx → TxFits m (took_over m c o).tx
  took c None h = h
  took c (Some v) h = h

  answered : (c : Client m) → TxFits m c.tx → ClientFits m E (pruned m (took_over m c c.view))
  answered c h = replied (took_over m c c.view) (took c c.view h)

  shuts : (c : Client m) → ClientFits m E (pruned m (took_over m (closed m c) c.view))
  shuts c = replied (took_over m (closed m c) c.view) (took (closed m c) c.view tt)

  pub appended : (c : Client m) (w : Work m) (e : Entry) (y : Purpose m) (ns : List (NoteOf m)) → TxFits m c.tx → Fits c w → DraftFits m E c.stand.epoch (upto m c) e y → Good (appends m c w e y ns)
  unfolding appends append_start
  appended c w e y ns h k g = (h, (g, k))

  pub synced : (c : Client m) (w : Work m) (os : List Oid) → TxFits m c.tx → CommandFits m c.hosted os w.command → Good (syncs m c w os)
  unfolding syncs sync_start
  synced c w os h k = (h, (tt, k))

  -- Along a turn.

  -- a client that has played comes from an end of walks, and has come to its command's target
  pub record HasCome (c : Client m) (w : Work m) (es : Entries) (p : Play m) : Type 0 where
    pub from : Client m
    pub came : E (record { client = from; work = w })
    pub some : 0 < from.stand.epoch
    pub epoch : from.stand.epoch ≤ c.stand.epoch
    pub fits : Fits from w
    pub entries : all_entries m from w from.hosted ≡ es
    pub low : (t : ℕ) → p.came ≡ Played t → play_target m w w.command ≤ upto m c

  -- an append has in hand what comes of such an end
  pub record HasDrawn (c : Client m) (draft : Entry) (y : Purpose m) : Type 0 where
    pub fits : DraftFits m E c.stand.epoch (upto m c) draft y

  abbrev pub At : Client m → Work m → Place m → Type 0
  At c w (Feeds t n rid x) = TaskFits m E c.stand.epoch (upto m c) t
  At c w (Newer t n rid q) = TaskFits m E c.stand.epoch (upto m c) t × (c.stand.epoch < q.epoch)
  At c w (OnAppend y bs to) = (a : Append) × HasDrawn c a.draft y × Keeps a.draft to
  At c w (Plays es p) = HasCome c w es p
  At c w (Rescues' at) = E (record { client = c; work = w }) × (w.command ≡ cmd.Rescue at)
  At c w p = Unit {0}

  pub record Along (c : Client m) (w : Work m) (p : Place m) : Type 0 where
    pub tx : TxFits m c.tx
    pub some : 0 < c.stand.epoch
    pub fits : Fits c w
    pub came : Came (reaches m c w p)
    pub at : At c w p

  abbrev by_end : (c : Client m) (w : Work m) (es : Entries) (p : Play m) → HasCome c w es p → EndBy m E c.stand.epoch
  by_end c w es p h = record { end = record { client = h.from; work = w }; came = h.came; some = h.some; epoch = h.epoch; fits = h.fits }

  -- a decision of what the command decides
  decides : (c : Client m) (w : Work m) (b : EndBy m E c.stand.epoch) (e : Entry) (at : ℕ) (so : Bool) (what : WhatOf m) → TxFits m c.tx → Fits c w → DecidesAt m b.end.work.command b.end.work.at at
      → Good (appends m (with_decision m c) w (decision m c e at so) (Decides what) [])
  decides c w b e at so what h k d = appended (with_decision m c) w (decision m c e at so) (Decides what) [] h k (record { by = b; at = at; is_yes = so; body = refl; decides = d })

  goes : (c : Client m) (w : Work m) (p : Place m) (d : Client m) (t : Task m) (bs : List Out) → end.IsGoing m c w p d t bs → Along c w p → Good (goes_on m d w t bs)
  goes c w _ _ _ _ (end.AppendGoes y bs b) h = (h.tx, (subst (λ (d : Entry). DraftFits m E c.stand.epoch (upto m c) d y) (sym h.at.2) h.at.1.fits, h.fits))
  goes c w _ _ _ _ x h = (h.tx, (tt, h.fits))

  learns : (c : Client m) (w : Work m) (p : Place m) (t : Task m) → end.IsLearning m c w p t → Along c w p → Good (learns_for m c w t)
  learns c w _ _ (end.AppendLearns y bs b) h = (h.tx, (subst (λ (d : Entry). DraftFits m E c.stand.epoch (upto m c) d y) (sym h.at.2) h.at.1.fits, h.fits))
  learns c w _ _ x h = (h.tx, (tt, h.fits))

  syncing : (c : Client m) (w : Work m) (p : Place m) (d : Client m) (v : Work m) (os : List Oid) → end.IsSynced m c w p d v os → Along c w p → Good (syncs m d v os)
  syncing c w _ d v os (end.JudgedAt bs p page) h = synced d v os h.tx (all_hosted m c.hosted w.oids w.command h.fits)
  syncing c w _ d v os (end.Widens at o e) h = synced d v os h.tx (subst (λ (x : CommandOf m). CommandFits m c.hosted os x) (sym h.at.1) tt)
  syncing c w _ d v os x h = synced d v os h.tx h.fits

  appending : (c : Client m) (w : Work m) (p : Place m) (d : Client m) (e : Entry) (y : Purpose m) (ns : List (NoteOf m)) → end.IsAppended m c w p d e y ns → Along c w p → Good (appends m d w e y ns)
  unfolding checkpoint
  appending c w _ _ _ _ _ (end.EndDecides es p to e so what of a i j l) h = decides c w (by_end c w es p h.at) e w.at so what h.tx h.fits (subst (λ (x : CommandOf m). DecidesAt m x w.at w.at) (sym of) refl)
  appending c w _ _ _ _ _ (end.DecideDecides es p at e v so of t k i o s l) h = decides c w (by_end c w es p h.at) e at so _ h.tx h.fits (subst (λ (x : CommandOf m). DecidesAt m x w.at at) (sym of) refl)
  appending c w _ d e y ns (end.SaveBegins es p to o of a l) h =
      appended d w e y ns h.tx h.fits (record { by = by_end c w es p h.at; command = of; tail = refl; version = _; whole = _; keys = _; state = _; body = refl })
  appending c w _ d e y ns (end.MarkBegins es p t o n of a f) h = appended d w e y ns h.tx h.fits (record {
    by = by_end c w es p h.at;
    command = of;
    allowed = subst (λ (own : Entries). may_forget m own o n ≡ None) (sym h.at.entries) f;
    below = subst (λ (x : CommandOf m). play_target m w x ≤ upto m c) of (h.at.low t a);
    body = refl;
  })
  appending c w _ d _ y ns (end.RescueDecides at so e k i) h = appended d w _ y ns h.tx h.fits (record {
    by = record { end = record { client = c; work = w }; came = h.at.0; some = h.some; epoch = omega arith; fits = h.fits };
    at = at;
    is_yes = so;
    body = refl;
    decides = subst (λ (x : CommandOf m). DecidesAt m x w.at at) (sym h.at.1) refl;
  })

  refusing : (c : Client m) (w : Work m) (p : Place m) (d : Client m) (n : ℕ) (why : Refusal) → end.IsRefused m c w p d n why → TxFits m c.tx → ClientFits m E (pruned m d)
  refusing c w _ d _ _ (end.RecordForgotten y bs p b of) h = replied d tt
  refusing c w _ d _ _ x h = replied d h

  answering : (c : Client m) (w : Work m) (p : Place m) (d : Client m) (n : ℕ) (what : WhatOf m) → end.IsAnswered m c w p d n what → TxFits m c.tx → ClientFits m E (pruned m (took_over m d d.view))
  answering c w _ d _ _ (end.IsAsked es p o q to t s of a has is) h = answered d (subst (TxFits m) has h)
  answering c w _ d _ _ (end.JudgedSo x bs p page of) h = shuts (knows_page m c p page)
  answering c w _ d _ _ (end.JudgedLost x bs e l of) h = shuts c
  answering c w _ d _ _ (end.EndBlocked es p q x of a) h = shuts c
  answering c w _ d _ _ (end.EndUnsure es p to of a k) h = shuts c
  answering c w _ d _ _ (end.EndJudged es p to e so what of a i j l) h = shuts c
  answering c w _ d _ _ x h = answered d h

  telling : (c : Client m) (w : Work m) (p : Place m) (d : Client m) (ns : List (NoteOf m)) → end.IsTold m c w p d ns → TxFits m c.tx → ClientFits m E (pruned m d)
  telling c w _ d _ (end.IsCommitted bs p page) h = replied d tt
  telling c w _ d _ (end.IsMarked n o mark bs p page) h = replied d (took (owns m c p page) c.view h)
  telling c w _ d _ x h = replied d h

  pub ends_good : (c : Client m) (w : Work m) (p : Place m) (x : Moved m) → end.End m c w p x → Along c w p → Good x
  ends_good c w p _ (end.GoesOn d t bs x) h = goes c w p d t bs x h
  ends_good c w p _ (end.LearnsNewer t x) h = learns c w p t x h
  ends_good c w p _ (end.Syncs d v os x) h = syncing c w p d v os x h
  ends_good c w p _ (end.Appends d e y ns x) h = appending c w p d e y ns x h
  ends_good c w p _ (end.Refuses d n why x) h = refusing c w p d n why x h.tx
  ends_good c w p _ (end.Answers d n what x) h = answering c w p d n what x h.tx
  ends_good c w p _ (end.Tells d ns x) h = telling c w p d ns x h.tx
