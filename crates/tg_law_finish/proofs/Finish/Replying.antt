-- What a settling tells: a client whose command it ends has told a reply.
use Rattle.std.proofs.Common.{◌≡◌, ◌⊎◌, ℕ, ◌<◌, List, [], ◌∷◌, ◌++◌, length, map, true, refl, ap, ◌∙◌, sym, subst, inl, inr, Some, None, Option, append_assoc}
use Rattle.std.specs.Prelude.{slice_set, slice_index_or}
use Rattle.tg_base.specs.declared.ids.NodeId.{NodeId}
use Rattle.tg_base.specs.declared.msg.Msg.{Msg}
use Rattle.tg_kind.specs.Meaning.{Meaning}
use Rattle.tg_model.specs.Kinds.{CommandOf, WhatOf, NoteOf}
use Rattle.tg_protocol.specs.Clients.{Writes, Judged, Decides, Rescues, Saves, Marks, Task, Syncing, Walking, Appending, Trimming, Copying', Reconfiguring, Client, Work, new_client}
use Rattle.tg_protocol.specs.ClientSteps.{ClientTurn, task_in, client_deliver, client_tick}
use Rattle.tg_protocol.specs.Worlds.{World, Told, client, mark_of, client_turned, drain, settle}
use Rattle.tg_protocol.specs.Finishing.{HasReply}
use Rattle.tg_law_layouts.proofs.Moves.Lists.{at_set, contained}
use Rattle.tg_law_layouts.proofs.Moves.Members.{Has, has_left, has_right}
use Rattle.tg_law_finish.specs.Finish.Commands.{plays}
use Rattle.tg_law_finish.specs.Finish.Laws.{IsReply}
use Rattle.tg_law_finish.proofs.Finish.Folds.{Kept, drain_keeps, settle_keeps}
use Rattle.tg_law_finish.proofs.Finish.Telling.{Says, Sound, HasIt, deliver_told, tick_told, HasCopy, deliver_copied, tick_copied}

-- where the client has a command in hand, that stays in hand until it tells a reply
module _ (m : Meaning) (P : WhatOf m → Type 0) (k : ℕ) (CommandIs : Option (Work m) → Type 0) (never : CommandIs None → ⊥)
    (hears : (c : Client m) (from : NodeId) (rid : ℕ) (y : Msg) → CommandIs c.work → CommandIs (client_deliver m c from rid y).now.work ⊎ Says m P (client_deliver m c from rid y).notes)
    (ticks : (c : Client m) → CommandIs c.work → CommandIs (client_tick m c).now.work) where
  -- a reply of the client
  pub record Replied (ts : List (Told m)) : Type 0 where
    pub told : Told m
    pub here : Has ts told
    pub client : told.mark.client ≡ k
    pub holds : P told.mark.what

  -- from one world to a later one: what was told stays, and while the client has the command it keeps it or replies
  pub record R (w v : World m) : Type 0 where
    pub more : List (Told m)
    pub is : v.told ≡ w.told ++ more
    pub goes : CommandIs (client m w k).work → CommandIs (client m v k).work ⊎ Replied more

  nothing : {X : Type 0} → (xs : List X) → xs ≡ xs ++ []
  nothing [] = refl
  nothing (y ∷ xs) = ap (λ zs. y ∷ zs) (nothing xs)

  -- the client and what was told are as before
  same : (w v : World m) → v.told ≡ w.told → client m v k ≡ client m w k → R w v
  same w v e f = record { more = []; is = e ∙ nothing w.told; goes = λ h. inl (subst (λ (c : Client m). CommandIs c.work) (sym f) h) }

  left : (a b : List (Told m)) → Replied a → Replied (a ++ b)
  left a b r = record { told = r.told; here = has_left a b r.told r.here; client = r.client; holds = r.holds }

  right : (a b : List (Told m)) → Replied b → Replied (a ++ b)
  right a b r = record { told = r.told; here = has_right a b r.told r.here; client = r.client; holds = r.holds }

  then : (w v u : World m) → R w v → R v u → R w u
  then w v u a b = record { more = a.more ++ b.more; is = b.is ∙ (ap (λ l. l ++ b.more) a.is ∙ append_assoc w.told a.more b.more); goes = λ h. on (a.goes h) }
    where
      later : CommandIs (client m u k).work ⊎ Replied b.more → CommandIs (client m u k).work ⊎ Replied (a.more ++ b.more)
      later (inl h) = inl h
      later (inr r) = inr (right a.more b.more r)

      on : CommandIs (client m v k).work ⊎ Replied a.more → CommandIs (client m u k).work ⊎ Replied (a.more ++ b.more)
      on (inl h) = later (b.goes h)
      on (inr r) = inr (left a.more b.more r)

  -- A client's turn.

  marked : (w : World m) (n : ℕ) (ns : List (NoteOf m)) (y : NoteOf m) → Has ns y → Has (map (mark_of m w n) ns) (mark_of m w n y)
  marked w n [] y i = i
  marked w n (z ∷ ns) y (inl e) = inl (ap (λ (u : NoteOf m). mark_of m w n u) e)
  marked w n (z ∷ ns) y (inr i) = inr (marked w n ns y i)

  told_by : (w : World m) (n : ℕ) (ns : List (NoteOf m)) → Says m P ns → k ≡ n → Replied (map (mark_of m w n) ns)
  told_by w n ns e i = record { told = mark_of m w n e.note; here = marked w n ns e.note e.here; client = sym i; holds = e.holds }

  turned : (w : World m) (n : ℕ) (t : ClientTurn m) → n < length w.clients → (CommandIs (client m w n).work → CommandIs t.now.work ⊎ Says m P t.notes) → R w (client_turned m w n t)
  unfolding client_turned
  turned w n t less f = record { more = map (mark_of m w n) t.notes; is = refl; goes = λ h. by (slice_index_or (slice_set w.clients n t.now) k (new_client m w.cluster k)) (at_set w.clients n t.now (λ j. new_client m w.cluster j) Q less (λ g. now (f g)) (λ j off g. inl g) k h) }
    where
      Q : ℕ → Client m → Type 0
      Q j c = CommandIs (client m w j).work → CommandIs c.work ⊎ ((j ≡ n) × Says m P t.notes)

      now : CommandIs t.now.work ⊎ Says m P t.notes → CommandIs t.now.work ⊎ ((n ≡ n) × Says m P t.notes)
      now (inl h) = inl h
      now (inr e) = inr (refl, e)

      by : (c : Client m) → CommandIs c.work ⊎ ((k ≡ n) × Says m P t.notes) → CommandIs c.work ⊎ Replied (map (mark_of m w n) t.notes)
      by c (inl h) = inl h
      by c (inr e) = inr (told_by w n t.notes e.1 e.0)

  -- A settling.

  kept : Kept m R
  kept = record {
    same = λ w v e f. same w v e (f k);
    then = λ w v u a b. then w v u a b;
    delivered = λ w n p less. turned w n _ less (λ h. hears (client m w n) p.from p.rid p.msg h);
    ticked = λ w n less. turned w n _ less (λ h. inl (ticks (client m w n) h));
  }

  -- where the command has ended, the client has replied
  replies_by : (w v : World m) → R w v → CommandIs (client m w k).work → (client m v k).work ≡ None → HasReply m w v k P
  replies_by w v r h idle = by (r.goes h)
    where
      by : CommandIs (client m v k).work ⊎ Replied r.more → HasReply m w v k P
      by (inl g) = absurd (never (subst (λ (o : Option (Work m)). CommandIs o) idle g))
      by (inr y) = record { replies = r.more; are = r.is; told = y.told; here = contained r.more y.told y.here; client = y.client; holds = y.holds }

  pub settle_replies_of : (w : World m) → CommandIs (client m w k).work → (client m (settle m w).world k).work ≡ None → HasReply m w (settle m w).world k P
  settle_replies_of w h idle = replies_by w (settle m w).world (settle_keeps m R kept w) h idle

  pub drain_replies_of : (w : World m) → CommandIs (client m w k).work → (client m (drain m w).world k).work ≡ None → HasReply m w (drain m w).world k P
  drain_replies_of w h idle = replies_by w (drain m w).world (drain_keeps m R kept w) h idle

module _ (m : Meaning) (P : WhatOf m → Type 0) (replies : (what : WhatOf m) → IsReply m what → P what) (k : ℕ) where
  -- a command that plays
  module _ (x : CommandOf m) (good : plays m x ≡ true) where
    pub settle_replies : (w : World m) → HasIt m P x (client m w k).work → (client m (settle m w).world k).work ≡ None → HasReply m w (settle m w).world k P
    settle_replies w h idle = settle_replies_of m P k (λ o. HasIt m P x o) (λ f. f) (λ c from rid y i. deliver_told m P replies x good c from rid y i) (λ c i. tick_told m P replies x good c i) w h idle

    pub drain_replies : (w : World m) → HasIt m P x (client m w k).work → (client m (drain m w).world k).work ≡ None → HasReply m w (drain m w).world k P
    drain_replies w h idle = drain_replies_of m P k (λ o. HasIt m P x o) (λ f. f) (λ c from rid y i. deliver_told m P replies x good c from rid y i) (λ c i. tick_told m P replies x good c i) w h idle

  -- a copy
  pub copy_replies : (w : World m) → HasCopy m P (client m w k).work → (client m (settle m w).world k).work ≡ None → HasReply m w (settle m w).world k P
  copy_replies w h idle = settle_replies_of m P k (λ o. HasCopy m P o) (λ f. f) (λ c from rid y i. deliver_copied m P replies c from rid y i) (λ c i. tick_copied m P replies c i) w h idle

-- whatever counts as a reply, in any world
any_sound : (m : Meaning) (t : Task m) → Sound m (λ what. Unit {0}) t
any_sound m (Appending a (Writes)) = tt
any_sound m (Appending a (Judged)) = tt
any_sound m (Appending a (Decides what)) = tt
any_sound m (Appending a (Rescues what)) = tt
any_sound m (Appending a (Saves o upto)) = tt
any_sound m (Appending a (Marks n o mark)) = tt
any_sound m (Syncing s) = tt
any_sound m (Walking y os) = tt
any_sound m (Trimming y) = tt
any_sound m (Copying' y) = tt
any_sound m (Reconfiguring y) = tt

pub settle_tells : (m : Meaning) (k : ℕ) (w : World m) (v : Work m) → plays m v.command ≡ true → (client m w k).work ≡ Some v → (client m (settle m w).world k).work ≡ None → HasReply m w (settle m w).world k (λ what. Unit {0})
settle_tells m k w v good has idle = settle_replies m (λ what. Unit {0}) (λ what i. tt) k v.command good w (subst (λ (o : Option (Work m)). HasIt m (λ what. Unit {0}) v.command o) (sym has) (refl, any_sound m (task_in m v.hand))) idle
