-- What a client has in hand, in the words of the rules.
use Rattle.std.specs.Prelude.{◌≡◌, ◌<◌, ◌^◌, Option, Some, None}
use Rattle.tg_base.specs.Layouts.{Layout}
use Rattle.tg_kind.specs.Meaning.{Meaning}
use Rattle.tg_protocol.specs.Appending.{Token}
use Rattle.tg_protocol.specs.Syncing.{Answer}
use Rattle.tg_protocol.specs.Clients as told
use Rattle.tg_append.specs.Appends.{paused}
use Rattle.tg_append.specs.SyncLaws.{answer_in}
use Rattle.tg_append.specs.Syncs.{oids_of}
use Rattle.tg_stream.specs.Walks.{course_of}
use Rattle.tg_copy.specs.Turns.{spare_of}
use Rattle.tg_copy.specs.Stripes.{HasStripe}
use Rattle.tg_client_state.specs.declared.purpose.Purpose.{Purpose}
use Rattle.tg_client_state.specs.declared.purpose.Purpose.TheVariants as purpose
use Rattle.tg_client_state.specs.declared.task.Task.{Task}
use Rattle.tg_client_state.specs.declared.task.Task.TheVariants as task
use Rattle.tg_client_state.specs.declared.paused.Paused.{Paused}
use Rattle.tg_client_state.specs.declared.paused.Paused.TheVariants as given
use Rattle.tg_client_state.specs.declared.hand.Hand.{Hand}
use Rattle.tg_client_state.specs.declared.hand.Hand.TheVariants as hand
use Rattle.tg_client_state.specs.declared.work.JobParts.{JobParts as Job}
use Rattle.tg_client_state.specs.declared.work.Work.{Work}

module _ (m : Meaning) where
  abbrev pub PurposeOf : Type 0
  PurposeOf = Purpose m.state m.op m.ask m.answer

  abbrev pub TaskOf : Type 0
  TaskOf = Task m.state m.op m.ask m.answer

  abbrev pub PausedOf : Type 0
  PausedOf = Paused m.state m.op m.ask m.answer

  abbrev pub HandOf : Type 0
  HandOf = Hand m.state m.op m.ask m.answer

  abbrev pub JobOf : Type 0
  JobOf = Job m.state m.op m.ask m.answer

  abbrev pub WorkOf : Type 0
  WorkOf = Work m.state m.op m.ask m.answer

  abbrev pub told_purpose : PurposeOf → told.Purpose m
  told_purpose purpose.Writes = told.Writes
  told_purpose purpose.Judged = told.Judged
  told_purpose (purpose.Decides x) = told.Decides x
  told_purpose (purpose.Rescues x) = told.Rescues x
  told_purpose (purpose.Saves o upto) = told.Saves o upto
  told_purpose (purpose.Marks n o mark) = told.Marks n o mark

  abbrev pub told_task : TaskOf → told.Task m
  told_task (task.Sync s) = told.Syncing s
  told_task (task.Walk w os) = told.Walking w os
  told_task (task.Append a x) = told.Appending a (told_purpose x)
  told_task (task.Trim t) = told.Trimming t
  told_task (task.Copy c) = told.Copying' c
  told_task (task.Reconf r) = told.Reconfiguring r.value

  -- what goes on of a task of the rules in a newer layout
  abbrev pub GoesOn : PausedOf → told.Task m → Type 0
  GoesOn (given.Sync os) (told.Syncing s) = os ≡ oids_of s
  GoesOn (given.Walk w os) (told.Walking v ps) = (w ≡ course_of v) × (os ≡ ps)
  GoesOn (given.Append a x) (told.Appending b y) = (a ≡ paused b) × (told_purpose x ≡ y)
  GoesOn (given.Trim n) (told.Trimming t) = n ≡ t.below
  GoesOn (given.Copy j) (told.Copying' c) = j ≡ spare_of c
  GoesOn (given.Reconf r) (told.Reconfiguring s) = r.value ≡ s
  GoesOn _ _ = ⊥

  abbrev pub KeepsHand : HandOf → told.Hand m → Type 0
  KeepsHand (hand.Doing t) (told.Doing u) = told_task t.value ≡ u
  KeepsHand (hand.Learning ws t) (told.Learning vs u) = (ws ≡ vs) × GoesOn t.value u
  KeepsHand _ _ = ⊥

  -- a command that waits, with what it has in hand by the rules
  abbrev pub work_of : JobOf → told.Hand m → told.Work m
  work_of j h = record {
    command = j.command;
    hand = h;
    gone = j.gone;
    gone_before = j.gone_before;
    tail = j.tail;
    lasts = j.lasts;
    oids = j.oids;
    lo = j.lo;
    found = j.found;
    trims = j.trims;
    at = j.at;
  }

  -- but for what it has in hand
  abbrev pub KeepsJob : JobOf → told.Work m → Type 0
  KeepsJob j u = u ≡ work_of j u.hand

  pub record KeepsWork (w : WorkOf) (u : told.Work m) : Type 0 where
    pub is : KeepsJob w.job u
    pub hand : KeepsHand w.hand u.hand

  abbrev pub KeepsMaybe : Option WorkOf → Option (told.Work m) → Type 0
  KeepsMaybe None None = Unit {0}
  KeepsMaybe (Some w) (Some u) = KeepsWork w u
  KeepsMaybe _ _ = ⊥

  -- A tail and a token's position have numbers below 2^62, and a stripe that is copied is one of the layout's.

  abbrev pub NearAnswer : Option Answer → Type 0
  NearAnswer None = Unit {0}
  NearAnswer (Some a) = a.tail < 2 ^ 62

  abbrev pub NearToken : Option Token → Type 0
  NearToken None = Unit {0}
  NearToken (Some t) = t.pos < 2 ^ 62

  abbrev pub IsFit : Layout → told.Task m → Type 0
  IsFit p (told.Syncing s) = NearAnswer (answer_in s.work)
  IsFit p (told.Appending a x) = NearToken a.token
  IsFit p (told.Copying' c) = HasStripe p (spare_of c)
  IsFit p _ = Unit {0}

  -- what is left of it while a newer layout is learnt
  abbrev pub IsPausedFit : told.Task m → Type 0
  IsPausedFit (told.Appending a x) = NearToken a.token
  IsPausedFit _ = Unit {0}

  abbrev pub IsHandFit : Layout → told.Hand m → Type 0
  IsHandFit p (told.Doing t) = IsFit p t
  IsHandFit p (told.Learning ws t) = IsPausedFit t

  -- likewise of what is kept in hand
  abbrev pub IsGivenFit : Layout → HandOf → Type 0
  IsGivenFit p (hand.Doing t) = IsFit p (told_task t.value)
  IsGivenFit p (hand.Learning ws t) = Unit {0}
