-- A command that makes a decision record, a checkpoint or a mark appends it once all is walked, or is answered then; and so does an `end`
-- whose record is appended.
use Rattle.std.proofs.Common.{◌≡◌, ℕ, ◌+◌, List, [], Bool, true, false, refl, sym, subst, arith, Some, None, Option}
use Rattle.tg_base.specs.declared.ids.Oid.{Oid}
use Rattle.tg_entry.specs.declared.entry.Entry.{Entry}
use Rattle.tg_kind.specs.Meaning.{Meaning}
use Rattle.tg_model.specs.declared.command.Command.TheVariants as cmd
use Rattle.tg_model.specs.declared.play.PlayEnd.{PlayEnd}
use Rattle.tg_model.specs.declared.play.PlayEnd.TheVariants.{Played, Blocked}
use Rattle.tg_model.specs.Kinds.{CommandOf, WhatOf, NoteOf}
use Rattle.tg_protocol.specs.Versions.{Changed}
use Rattle.tg_protocol.specs.Checkpoints.{ForgetFault, NoCheckpoint, OpenDecision}
use Rattle.tg_protocol.specs.Views.{View, Entries, Verdict, Commits, Aborts, Unknown, Play, play}
use Rattle.tg_protocol.specs.Clients.{Purpose, Work, Client, all_entries}
use Rattle.tg_protocol.specs.Answers.{Moved, with_decision, appends, unsure, end_decided, end_aborted, end_no, end_by, end_record, on_end, decides_if, decide_verdict, decide_record, decide_blocked, decide_played, save_if, forget_by, with_view, own_view, play_target, on_decide, on_checkpoint, on_forget, answer_by, played_on, walked_for, walked}
use Rattle.tg_law_finish.specs.Finish.Appends.{is_last}
use Rattle.tg_law_finish.specs.Finish.Makes.{makes}
use Rattle.tg_law_finish.proofs.Finish.Readers.{Answers, Way}

module _ (m : Meaning) where
  pub data Makes' (c : Client m) : Moved m → Type 0 where
    Ends' : (x : Moved m) → Answers m x → Makes' c x
    Appends' : (d : Client m) (w : Work m) (e : Entry) (y : Purpose m) (ns : List (NoteOf m)) → d.stand ≡ c.stand → d.next ≡ c.next → is_last m y ≡ true → Makes' c (appends m d w e y ns)

  over : (c : Client m) (x : Moved m) → x.now.work ≡ None → x.besides ≡ [] → Makes' c x
  over c x none besides = Ends' x (record { none = none; besides = besides })

  decides_case : (c : Client m) (w : Work m) (e : Entry) (p tx : ℕ) (b is_yes : Bool) (what : WhatOf m) → Makes' c (decides_if m b c w e p is_yes tx what)
  unfolding is_last
  decides_case c w e p tx true is_yes what = Appends' (with_decision m c) w _ _ [] refl refl refl
  decides_case c w e p tx false is_yes what = grind (arith, over)

  verdict_case : (c : Client m) (w : Work m) (es : Entries) (p : ℕ) (e : Entry) (x : Verdict) → Makes' c (decide_verdict m c w es p e x)
  verdict_case c w es p e (Unknown o) = over c _ refl refl
  verdict_case c w es p e Commits = decides_case c w e p 0 _ true _
  verdict_case c w es p e Aborts = decides_case c w e p 0 _ false _

  record_case : (c : Client m) (w : Work m) (es : Entries) (v : View m) (p : ℕ) (e : Option Entry) → Makes' c (decide_record m c w es v p e)
  record_case c w es v p None = grind (arith, over)
  record_case c w es v p (Some e) = verdict_case c w es p e _

  blocked_case : (c : Client m) (w : Work m) (es : Entries) (v : View m) (p q : ℕ) (x : Oid) (b : Bool) → Makes' c (decide_blocked m c w es v p q x b)
  blocked_case c w es v p q x true = over c _ refl refl
  blocked_case c w es v p q x false = record_case c w es v p _

  played_case : (c : Client m) (w : Work m) (es : Entries) (v : View m) (p : ℕ) (came : PlayEnd) → Makes' c (decide_played m c w es v p came)
  played_case c w es v p (Played t) = record_case c w es v p _
  played_case c w es v p (Blocked q x) = blocked_case c w es v p q x _

  decide_case : (c : Client m) (w : Work m) (es : Entries) (v : View m) (p : ℕ) (came : PlayEnd) (b : Option ℕ) → Makes' c (on_decide m c w es v p came b)
  decide_case c w es v p came None = played_case c w es v p came
  decide_case c w es v p came (Some b) = over c _ refl refl

  -- `end`, whose record is there

  unsure_case : (c : Client m) (p q : ℕ) → Makes' c (unsure m c p q)
  unsure_case c p q = over c _ refl refl

  ended_case : (b : Bool) (c : Client m) (w : Work m) (e : Entry) (p : ℕ) (is_yes : Bool) (what : WhatOf m) → Makes' c (end_decided m b c w e p is_yes what)
  unfolding is_last
  ended_case true c w e p is_yes what = Appends' (with_decision m c) w _ _ [] refl refl refl
  ended_case false c w e p is_yes what = over c _ refl refl

  aborted_case : (c : Client m) (w : Work m) (es : Entries) (e : Entry) (p : ℕ) (x : Option Changed) → Makes' c (end_aborted m c w es e p x)
  aborted_case c w es e p None = unsure_case c p p
  aborted_case c w es e p (Some x) = ended_case _ c w e p false _

  no_case : (c : Client m) (w : Work m) (es : Entries) (v : View m) (e : Entry) (p : ℕ) (o : Option Oid) → Makes' c (end_no m c w es v e p o)
  no_case c w es v e p None = aborted_case c w es e p _
  no_case c w es v e p (Some o) = unsure_case c p p

  end_verdict : (c : Client m) (w : Work m) (es : Entries) (v : View m) (e : Entry) (p : ℕ) (x : Verdict) → Makes' c (end_by m c w es v e p x)
  end_verdict c w es v e p Commits = ended_case _ c w e p true _
  end_verdict c w es v e p Aborts = no_case c w es v e p _
  end_verdict c w es v e p (Unknown o) = unsure_case c p p

  end_entry : (c : Client m) (w : Work m) (es : Entries) (v : View m) (p : ℕ) (e : Option Entry) → Makes' c (end_record m c w es v p e)
  end_entry c w es v p None = unsure_case c p p
  end_entry c w es v p (Some e) = end_verdict c w es v e p _

  end_case : (c : Client m) (w : Work m) (es : Entries) (v : View m) (came : PlayEnd) → Makes' c (on_end m c w es v came)
  end_case c w es v (Played t) = end_entry c w es v w.at _
  end_case c w es v (Blocked q x) = unsure_case c w.at q

  save_case : (c : Client m) (w : Work m) (o : Oid) (e : Entry) (b : Bool) → Makes' c (save_if m b c w o e)
  unfolding is_last
  save_case c w o e true = over c _ refl refl
  save_case c w o e false = Appends' (record c { checkpoints = c.checkpoints + 1 }) w e _ [] refl refl refl

  checkpoint_case : (c : Client m) (w : Work m) (v : View m) (o : Oid) (came : PlayEnd) → Makes' c (on_checkpoint m c w v o came)
  checkpoint_case c w v o (Played t) = save_case c w o _ _
  checkpoint_case c w v o (Blocked q x) = over c _ refl refl

  forget_by_case : (c : Client m) (w : Work m) (o : Oid) (n : ℕ) (f : Option (ForgetFault m)) → Makes' c (forget_by m c w o n f)
  unfolding is_last
  forget_by_case c w o n (Some NoCheckpoint) = over c _ refl refl
  forget_by_case c w o n (Some (OpenDecision p)) = over c _ refl refl
  forget_by_case c w o n None = Appends' (record c { begun = c.begun + 1 }) w _ _ _ refl refl refl

  forget_case : (c : Client m) (w : Work m) (es : Entries) (o : Oid) (n : ℕ) (came : PlayEnd) → Makes' c (on_forget m c w es o n came)
  forget_case c w es o n (Played t) = forget_by_case c w o n _
  forget_case c w es o n (Blocked q x) = over c _ refl refl

  -- a view that was played changes nothing of this
  seen : (c : Client m) (v : View m) (x : Moved m) → Makes' (with_view m c v) x → Makes' c x
  seen c v x (Ends' y a) = Ends' y a
  seen c v x (Appends' d w e y ns stand next last) = Appends' d w e y ns stand next last

  played : (c : Client m) (w : Work m) (es : Entries) (p : Play m) (x : CommandOf m) → w.command ≡ x → Makes' (with_view m c p.view) (answer_by m (with_view m c p.view) w es p x) → Makes' c (played_on m c w es p)
  played c w es p x e a = subst (λ (y : CommandOf m). Makes' c (answer_by m (with_view m c p.view) w es p y)) (sym e) (seen c p.view _ a)

  abbrev entries : Client m → Work m → Entries
  entries c w = all_entries m c w c.hosted

  abbrev own_play : Client m → Work m → Play m
  own_play c w = play m (own_view m c w (entries c w)) (entries c w) (play_target m w w.command)

  walked_by : (c : Client m) (w : Work m) (x : CommandOf m) → w.command ≡ x → makes m x ≡ true → Makes' c (walked_for m c w x)
  unfolding makes
  walked_by c w (cmd.Decide p) e t = let y = own_play c w in played c w (entries c w) y (cmd.Decide p) e (decide_case (with_view m c y.view) w (entries c w) y.view p y.came _)
  walked_by c w (cmd.Checkpoint o) e t = let y = own_play c w in played c w (entries c w) y (cmd.Checkpoint o) e (checkpoint_case (with_view m c y.view) w y.view o y.came)
  walked_by c w (cmd.Forget o n) e t = let y = own_play c w in played c w (entries c w) y (cmd.Forget o n) e (forget_case (with_view m c y.view) w (entries c w) o n y.came)
  walked_by c w (cmd.Ask o q) e t = absurd cc
  walked_by c w (cmd.Fate p) e t = absurd cc
  walked_by c w (cmd.AskAt p o q) e t = absurd cc
  walked_by c w (cmd.Host o) e t = absurd cc
  walked_by c w cmd.Begin e t = absurd cc
  walked_by c w (cmd.Put o op) e t = absurd cc
  walked_by c w cmd.End e t = let y = own_play c w in played c w (entries c w) y cmd.End e (end_case (with_view m c y.view) w (entries c w) y.view y.came)
  walked_by c w cmd.Drop e t = absurd cc
  walked_by c w cmd.Trim e t = absurd cc
  walked_by c w (cmd.Reconf x) e t = absurd cc
  walked_by c w (cmd.Copy u r s) e t = absurd cc
  walked_by c w (cmd.Rescue p) e t = absurd cc

  pub walked_makes : (c : Client m) (w : Work m) → makes m w.command ≡ true → Makes' c (walked m c w)
  unfolding walked
  walked_makes c w t = walked_by c w w.command refl t

  abbrev pub making_way : Way m
  making_way = record { Is = λ x n. makes m x ≡ true; GoesOn = λ c x. Makes' c x; on = λ c w t. walked_makes c w t }
