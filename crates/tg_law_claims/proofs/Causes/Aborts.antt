-- What each reply of a run tells of an abort.
use Rattle.std.proofs.Common.{◌≡◌, ℕ, List, [], ◌∷◌, ◌++◌, true, refl, sym, subst, inl, inr}
use Rattle.std.specs.Prelude.{Contains}
use Rattle.tg_base.specs.Clusters.{Header}
use Rattle.tg_base.specs.declared.packet.Packet.{Packet}
use Rattle.tg_entry.specs.declared.entry.Body.{Body}
use Rattle.tg_entry.specs.declared.entry.Body.TheVariants.{Commit, Decision, Checkpoint}
use Rattle.tg_entry.specs.Needs.{reads_in}
use Rattle.tg_base.specs.declared.marks.ReadMark.{ReadMark}
use Rattle.tg_protocol.specs.Entries.{body_commits}
use Rattle.tg_protocol.specs.Logs.{version}
use Rattle.tg_protocol.specs.Causes.{AbortsLeast}
use Rattle.tg_kind.specs.Meaning.{Meaning}
use Rattle.tg_model.specs.Kinds.{EventOf, NoteOf, WhatOf}
use Rattle.tg_protocol.specs.Replies.{reply}
use Rattle.tg_protocol.specs.Views.{Entries}
use Rattle.tg_protocol.specs.Clients.{Client, Work, new_client}
use Rattle.tg_protocol.specs.ClientSteps.{ClientTurn}
use Rattle.tg_protocol.specs.Worlds.{World, Told, start, client}
use Rattle.tg_protocol.specs.Runs.{Moves, Takes, Reaches}
use Rattle.tg_law_layouts.specs.Moves.After.{after}
use Rattle.tg_law_layouts.specs.Moves.Configs.{config}
use Rattle.tg_law_layouts.proofs.Moves.Members.{Has, has_contained}
use Rattle.tg_law_layouts.proofs.Moves.Moves.{ClientInput, Commanded, Hears', Ticks'}
use Rattle.tg_law_replies.specs.Plays.Sound.{IsRising}
use Rattle.tg_law_replies.specs.History.Worlds.{entries_in}
use Rattle.tg_law_replies.specs.Replies.Ended.{AppendsEnd}
use Rattle.tg_law_replies.specs.Replies.Laws.{ClientsFind}
use Rattle.tg_law_replies.specs.Replies.Steps.{EachDelivery, EachEvent}
use Rattle.tg_law_replies.proofs.History.Cells.{logs_rise}
use Rattle.tg_law_replies.proofs.Pages.Read.{logs_keep_grammar}
use Rattle.tg_law_replies.proofs.Replies.Along.{Along, moved_by, passed}
use Rattle.tg_law_replies.proofs.Replies.Carried.{event_more}
use Rattle.tg_law_replies.proofs.Replies.Found.{each_ready}
use Rattle.tg_law_replies.proofs.Replies.Ready.{Ready}
use Rattle.tg_law_replies.proofs.Replies.Telling.{RightAndKept, of_right, found_kept}
use Rattle.tg_law_headline.proofs.Alike.Speaks.{Delivered, From, told_of}
use Rattle.tg_law_claims.proofs.Causes.Aborting.{EachOk, WorkOk, Ends', GoodTurn, commanded, delivered, ticked}
use Rattle.tg_law_claims.proofs.Causes.Rises.{log_rises}
use Rattle.tg_law_claims.proofs.Causes.Least.{SaysLeast, plain_least, TrueViewed, none_viewed, least_end}
use Rattle.tg_law_headline.proofs.Alike.Running.{AllSay, none_say, both_say, notes_say, end_state as run_end}

module _ (m : Meaning) (h : Header) (ms : Moves m) (r : Reaches m h ms (after m h ms)) (finds : ClientsFind m h ms (after m h ms)) (ends : AppendsEnd m h ms (after m h ms)) where
  abbrev end : World m
  end = after m h ms

  abbrev es : Entries
  es = entries_in m end

  rising : IsRising es
  rising = logs_rise m end

  abbrev Says : WhatOf m → Type 0
  Says what = SaysLeast m h.objects es what

  abbrev Fits : Client m → Type 0
  Fits c = WorkOk m h.objects es (SaysLeast m h.objects es) (plain_least m h.objects es) (TrueViewed m h.objects es) (none_viewed m h.objects es) c.work

  abbrev Each : List (NoteOf m) → Type 0
  Each ns = EachOk m h.objects es (SaysLeast m h.objects es) (plain_least m h.objects es) (TrueViewed m h.objects es) (none_viewed m h.objects es) ns

  abbrev Good : ClientTurn m → Type 0
  Good t = GoodTurn m h.objects es (SaysLeast m h.objects es) (plain_least m h.objects es) (TrueViewed m h.objects es) (none_viewed m h.objects es) t

  abbrev End : Client m → Work m → Type 0
  End c w = Ends' m h.objects es (SaysLeast m h.objects es) (plain_least m h.objects es) (TrueViewed m h.objects es) (none_viewed m h.objects es) c w

  all_right : Along m (RightAndKept m h es (logs_rise m end) (logs_keep_grammar m end).0) ms (start m h)
  all_right = found_kept m h ms end (logs_keep_grammar m end).0 (logs_keep_grammar m end).1 r finds ends

  prefix : (Q : World m → Type 0) (before after' : Moves m) (w : World m) → Along m Q (before ++ after') w → Along m Q before w
  prefix Q [] [] w k = k
  prefix Q [] (x ∷ rest) w k = k.0
  prefix Q (x ∷ before) rest w k = (k.0, prefix Q before rest (moved_by m x w) k.1)

  each_says : (ns : List (NoteOf m)) → Each ns → (y : NoteOf m) → Has ns y → Says y.what
  each_says [] k y i = absurd i
  each_says (n ∷ ns) k y (inl e) = subst (λ (z : NoteOf m). Says z.what) (sym e) k.0
  each_says (n ∷ ns) k y (inr i) = each_says ns k.1 y i

  module _ (xs ys : Moves m) (e : EventOf m) (split : ms ≡ xs ++ Takes e ∷ ys) where
    abbrev w : World m
    w = after m h xs

    along : Along m (RightAndKept m h es (logs_rise m end) (logs_keep_grammar m end).0) (xs ++ Takes e ∷ ys) (start m h)
    along = subst (λ (zs : Moves m). Along m (RightAndKept m h es (logs_rise m end) (logs_keep_grammar m end).0) zs (start m h)) split all_right

    now : RightAndKept m h es (logs_rise m end) (logs_keep_grammar m end).0 w
    now = passed m (RightAndKept m h es (logs_rise m end) (logs_keep_grammar m end).0) xs (Takes e ∷ ys) (start m h) along

    ready : EachEvent m h.objects es (Ready m h.objects es) w e
    ready = each_ready m h es (logs_rise m end) (logs_keep_grammar m end).0 (logs_keep_grammar m end).1 ms finds xs ys e split
        (of_right m h es (logs_rise m end) (logs_keep_grammar m end).0 xs (start m h) (prefix (RightAndKept m h es (logs_rise m end) (logs_keep_grammar m end).0) xs (Takes e ∷ ys) (start m h) along)) now.2

    each : EachEvent m h.objects es End w e
    each = event_more m h.objects es (Ready m h.objects es) End (λ d v f inside is. least_end m h.objects es (logs_rise m end) (logs_keep_grammar m end).0 d v inside.0 is f) w e ready

    viewed : (n : ℕ) → TrueViewed m h.objects es (client m w n).view
    viewed n v is = ((now.0.clients n).view v is).so

    brought : (n : ℕ) (p : Packet) → Delivered m w e n p → EachDelivery m h.objects es End (client m w n) (client m w n).work p.from p.rid (reply p.msg)
    brought n p b =
        subst (λ (k : ℕ). EachDelivery m h.objects es End (client m w k) (client m w k).work p.from p.rid (reply p.msg)) b.num
        (subst (λ (y : EventOf m). EachEvent m h.objects es End w y) b.event each p b.got b.of_client b.on)

    turn_good : (n : ℕ) → Fits (client m w n) → (t : ClientTurn m) → (i : ClientInput m (config m w) n t) → From m w e n t i → Good t
    turn_good n fits t (Commanded x) b = commanded m h.objects es (SaysLeast m h.objects es) (plain_least m h.objects es) (TrueViewed m h.objects es) (none_viewed m h.objects es) (client m w n) x fits
    turn_good n fits t (Hears' p comes) b =
        delivered m h.objects es (SaysLeast m h.objects es) (plain_least m h.objects es) (TrueViewed m h.objects es) (none_viewed m h.objects es) (client m w n) p.from p.rid p.msg (viewed n, fits) (brought n p b)
    turn_good n fits t Ticks' b = ticked m h.objects es (SaysLeast m h.objects es) (plain_least m h.objects es) (TrueViewed m h.objects es) (none_viewed m h.objects es) (client m w n) fits

  new_fits : (j : ℕ) → Fits (new_client m h j)
  unfolding new_client
  new_fits j = tt

  pub all_least : (t : Told m) → Has end.told t → Says t.mark.what
  all_least = (run_end m h ms (λ s k c. Fits c) (AllSay m (λ t. Says t.mark.what)) (none_say m (λ t. Says t.mark.what)) (both_say m (λ t. Says t.mark.what)) (λ k j. new_fits j) (λ s k c idle fits. fits)
      (λ xs e ys split n s fits t i f told now. let good = turn_good xs ys e split n fits t i f in (good.work, notes_say m (λ t. Says t.mark.what) (told_of m (after m h xs) n s) t.notes (each_says t.notes good.notes)))).told

-- So each abort that is told names the least: the reads of each commit record of the log rise.
module _ (m : Meaning) (h : Header) (ms : Moves m) (r : Reaches m h ms (after m h ms)) (finds : ClientsFind m h ms (after m h ms)) (ends : AppendsEnd m h ms (after m h ms)) where
  -- what has a read is a commit record
  commits : (b : Body) (q : ReadMark) → Contains (reads_in b) q → body_commits b ≡ true
  commits (Commit rs ws) q i = refl
  commits (Decision at so) q i = absurd (has_contained [] q i)
  commits (Checkpoint o u v whole keys state) q i = absurd (has_contained [] q i)

  least_told : AbortsLeast m (after m h ms)
  unfolding version
  least_told t p o k seen after' e q i is here reads less =
      subst (λ (what : WhatOf m). SaysLeast m h.objects (entries_in m (after m h ms)) what) is (all_least m h ms r finds ends t (has_contained (after m h ms).told t i))
      e q here (log_rises m h ms r p e here (commits e.body q reads)) reads less

pub aborts_least : (m : Meaning) (h : Header) (ms : Moves m) (w : World m) → Reaches m h ms w → ClientsFind m h ms w → AppendsEnd m h ms w → AbortsLeast m w
aborts_least m h ms w r finds ends =
    subst (λ (v : World m). ClientsFind m h ms v → AppendsEnd m h ms v → AbortsLeast m v) (sym r.goes.is) (λ f a. least_told m h ms (subst (Reaches m h ms) r.goes.is r) f a) finds ends
