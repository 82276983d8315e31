-- What holds where the walks of a step begin, and stays through them, holds where they end.
use Rattle.std.proofs.Common.{[], true, ◌≡◌, ℕ, List, Bool, Option, Some, None, subst}
use Rattle.tg_base.specs.Layouts.{Layout}
use Rattle.tg_base.specs.declared.cell.Cell.{Cell}
use Rattle.tg_base.specs.declared.ids.Oid.{Oid}
use Rattle.tg_base.specs.declared.marks.StreamLink.{StreamLink}
use Rattle.tg_kind.specs.Meaning.{Meaning}
use Rattle.tg_model.specs.Kinds.{EventOf}
use Rattle.tg_protocol.specs.Walking.{Members}
use Rattle.tg_protocol.specs.Views.{Entries}
use Rattle.tg_protocol.specs.Clients.{Task, Syncing, Walking, Hand, Work, Client}
use Rattle.tg_protocol.specs.ClientSteps.{task_in, takes_back, found_by, knows, given_up_if, stands}
use Rattle.tg_protocol.specs.Walked.{Walked, walked_in}
use Rattle.tg_protocol.specs.Worlds.{World, client}
use Rattle.tg_law_steps.proofs.Places.{Place, Feeds, Newer, OnSync, OnWalk, Over, Walks}
use Rattle.tg_law_steps.proofs.Ways.{Way, FeedsSync, FeedsWalk, NewerSync, NewerWalk, Confirms, Settles, EndsAtOnce, WalkEnds, MetNone, MetLow, MetHigh, StartsOver}
use Rattle.tg_law_steps.proofs.Reaches.{Reached, reach_delivered}
use Rattle.tg_law_replies.proofs.Replies.Reached.{ends_have, at_end, reach_event}
use Rattle.tg_law_replies.specs.Replies.Steps.{EachEvent}

module _ (m : Meaning) where
  -- it stays through the walks of a step
  pub record Carries (I : Client m → Work m → Type 0) : Type 0 where
    pub turned : (c : Client m) (w : Work m) (next gone : ℕ) → I c w → I (record c { next = next }) (record w { gone = gone })
    pub taken : (c : Client m) (w : Work m) (o : Oid) (x : Members) → I c w → I (takes_back m c x) (found_by m w o x)
    pub known : (c : Client m) (w : Work m) (s : Option (ℕ × Cell)) (tail : ℕ) (lasts : List StreamLink) (lo : ℕ) → I c w → I (knows m c s) (record w { tail = tail; lasts = lasts; lo = lo })
    pub given : (c : Client m) (w : Work m) (b : Bool) → I c w → I (given_up_if m b c) w
    pub over : (c : Client m) (w : Work m) → I c w → I c (record w { lo = 0; found = []; trims = [] })
    pub again : (c : Client m) (w : Work m) → I c w → I c (record w { gone_before = w.gone })
    pub stood : (c : Client m) (w : Work m) (q : Layout) → I c w → I (stands m c q) w

  -- a command whose streams are walked
  abbrev pub WalksBy : (Client m → Work m → Type 0) → Client m → Work m → Task m → Type 0
  WalksBy I c w (Syncing s) = I c w
  WalksBy I c w (Walking k os) = I c w
  WalksBy I c w t = Unit {0}

module _ (m : Meaning) (I : Client m → Work m → Type 0) (carries : Carries m I) where
  -- at each place of a turn
  abbrev Carried : Client m → Work m → Place m → Type 0
  Carried c w (Feeds t n rid x) = WalksBy m I c w t
  Carried c w (Newer t n rid q) = WalksBy m I c w t
  Carried c w (OnSync bs to) = I c w
  Carried c w (OnWalk o os to) = I c w
  Carried c w (Over o os x g) = I c w
  Carried c w (Walks os) = I c w
  Carried c w p = Unit {0}

  way : (c : Client m) (w : Work m) (p : Place m) (d : Client m) (v : Work m) (q : Place m) → Way m c w p d v q → Carried c w p → Carried d v q
  way c w _ _ _ _ (FeedsSync s n rid x) h = carries.turned c w _ _ h
  way c w _ _ _ _ (FeedsWalk k os n rid x) h = carries.turned c w _ _ h
  way c w _ _ _ _ (NewerSync s n rid q) h = carries.turned (stands m c q) (record w { gone_before = w.gone }) _ _ (carries.again (stands m c q) w (carries.stood c w q h))
  way c w _ _ _ _ (NewerWalk k os n rid q) h = carries.turned (stands m c q) w _ _ (carries.stood c w q h)
  way c w _ _ _ _ (Confirms bs t ls) h = carries.known c w None t ls _ h
  way c w _ _ _ _ (Settles bs t ls s) h = carries.known c w (Some s) t ls _ h
  way c w _ _ _ _ (EndsAtOnce o os x e) h = carries.taken c w o x h
  way c w _ _ _ _ (WalkEnds o os x) h = carries.taken c w o x h
  way c w _ _ _ _ (MetNone o os x) h = h
  way c w _ _ _ _ (MetLow o os x b e f) h = h
  way c w _ _ _ _ (MetHigh o os x b e f z) h = carries.given c w true h
  way c w _ _ _ _ (StartsOver o os x b e f z) h = carries.over (given_up_if m true c) w (carries.given c w true h)
  way c w _ _ _ _ x h = tt

  -- so through those of whatever task, where it holds of the client and its work
  pub carried_by : (c : Client m) (w : Work m) (t : Task m) → I c w → WalksBy m I c w t
  carried_by c w (Syncing s) i = i
  carried_by c w (Walking k os) i = i
  carried_by c w t i = tt

  pub carried : (w : World m) (e : EventOf m) (k : ℕ) (y : Walked m) → ((v : Work m) → (client m w k).work ≡ Some v → WalksBy m I (client m w k) v (task_in m v.hand)) → walked_in m w e k ≡ Some y → I y.client y.work
  carried w e k y i is =
      subst (Reached m Carried I way (λ c v h. h)) is
      (reach_event m (Reached m Carried I way (λ c v h. h)) tt w e k
      (λ n p at sent to on. reach_delivered m Carried I way (λ c v h. h) (client m w k) _ _ _ (λ v t has doing a other. subst (λ (d : Hand m). WalksBy m I (client m w k) v (task_in m d)) doing (i v has)) (λ v q has latest new. i v has)))

module _ (m : Meaning) (objects : List Oid) (es : Entries) (P R Q I : Client m → Work m → Type 0) (carries : Carries m I) (more : (c : Client m) (w : Work m) → I c w → P c w → R c w → Q c w) where
  pub carried_more : (w : World m) (e : EventOf m) → ((k : ℕ) (v : Work m) → (client m w k).work ≡ Some v → WalksBy m I (client m w k) v (task_in m v.hand)) → EachEvent m objects es P w e → EachEvent m objects es R w e → EachEvent m objects es Q w e
  carried_more w e i h g = ends_have m objects es Q w e (λ k y is. more y.client y.work (carried m I carries w e k y (i k) is) (at_end m objects es P w k e y h is) (at_end m objects es R w k e y g is))

-- Where P gives Q, a step whose walks end with P has Q; and where P and R do, one whose walks end with both.
module _ (m : Meaning) (objects : List Oid) (es : Entries) (P Q : Client m → Work m → Type 0) where
  pub event_more : ((c : Client m) (w : Work m) → P c w → Q c w) → (w : World m) (e : EventOf m) → EachEvent m objects es P w e → EachEvent m objects es Q w e
  event_more more w e h = ends_have m objects es Q w e (λ k y is. more y.client y.work (at_end m objects es P w k e y h is))

  pub both_more : (R : Client m → Work m → Type 0) → ((c : Client m) (w : Work m) → P c w → R c w → Q c w) → (w : World m) (e : EventOf m) → EachEvent m objects es P w e → EachEvent m objects es R w e → EachEvent m objects es Q w e
  both_more R also w e h g = ends_have m objects es Q w e (λ k y is. also y.client y.work (at_end m objects es P w k e y h is) (at_end m objects es R w k e y g is))
