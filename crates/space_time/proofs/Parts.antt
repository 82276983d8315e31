-- Several steps in a row, as far as the limits allow.
use Rattle.std.specs.Prelude.{◌≡◌, Option, Some, None, refl}
use Rattle.std.proofs.Common.{sym, ap, subst, ◌∙◌}
use Rattle.tg_base.specs.declared.fault.Which.{Which}
use Rattle.tg_model.specs.Kinds.{EventOf}
use Rattle.tg_protocol.specs.Worlds.{ran, happens, limit_of, unless_stopped}
use Rattle.tg_world.specs.Kept.{KeepsWorld}
use Rattle.tg_world.specs.Runs.{happens_by, happens_on}
use Rattle.tg_any.specs.AllKinds.{all_kinds}
use Rattle.tg_replay.specs.Runs.{Worlds, Runs}
use Rattle.tg_replay.proofs.Making.{goes_on, stops}
use Rattle.space_time.specs.declared.recording.Recording.{Recording}
use Rattle.space_time.specs.declared.going.Went.{Went}
use Rattle.space_time.specs.Records.{IsRecorded, StepsTo, Makes}

abbrev pub went : Recording → Option Which → Went
went r x = record { recording = r; stopped = x }

-- the same steps in other words
pub same : (r : Recording) (f g : Worlds → Runs) (q : Went) → ((w : Worlds) → KeepsWorld all_kinds r.run.world w → f w ≡ g w) → Makes r f q → Makes r g q
same r f g q e h = record {
  recorded = h.recorded;
  world = λ w k. subst (λ (x : Runs). KeepsWorld all_kinds q.recording.run.world x.world) (e w k) (h.world w k);
  stopped = λ w k. h.stopped w k ∙ ap (λ (x : Runs). x.stopped) (e w k);
  cluster = h.cluster;
  events = h.events;
}

-- no step
pub none : (r : Recording) (x : Option Which) → IsRecorded r → Makes r (λ w. ran all_kinds w x) (went r x)
none r x h = record { recorded = h; world = λ w k. k; stopped = λ w k. refl; cluster = refl; events = refl }

-- one step, and others after it
pub next : (r q : Recording) (e : EventOf all_kinds) (g : Worlds → Runs) (p : Went) → StepsTo r e q → Makes q g p → Makes r (λ w. g (happens all_kinds w e)) p
next r q e g p a b = record {
  recorded = b.recorded;
  world = λ w k. b.world (happens all_kinds w e) (a.world w k);
  stopped = λ w k. b.stopped (happens all_kinds w e) (a.world w k);
  cluster = b.cluster ∙ a.cluster;
  events = b.events ∙ a.events;
}

-- a limit has stopped the first part
pub first : (r : Recording) (f g : Worlds → Runs) (q : Went) (x : Which) → Makes r f q → q.stopped ≡ Some x → Makes r (λ w. unless_stopped all_kinds (f w) g) q
first r f g q x h is = same r f (λ w. unless_stopped all_kinds (f w) g) q (λ w k. sym (stops (f w) g x (sym (h.stopped w k) ∙ is))) h

-- both parts
pub both : (r : Recording) (f g : Worlds → Runs) (q p : Went) → Makes r f q → q.stopped ≡ None → Makes q.recording g p → Makes r (λ w. unless_stopped all_kinds (f w) g) p
both r f g q p a is b = record {
  recorded = b.recorded;
  world = λ w k. subst (λ (x : Runs). KeepsWorld all_kinds p.recording.run.world x.world) (sym (goes_on (f w) g (sym (a.stopped w k) ∙ is))) (b.world (f w).world (a.world w k));
  stopped = λ w k. b.stopped (f w).world (a.world w k) ∙ ap (λ (x : Runs). x.stopped) (sym (goes_on (f w) g (sym (a.stopped w k) ∙ is)));
  cluster = b.cluster ∙ a.cluster;
  events = b.events ∙ a.events;
}

-- one step, unless a limit is reached

pub halted : (r : Recording) (e : EventOf all_kinds) (x : Which) → IsRecorded r → ((w : Worlds) → KeepsWorld all_kinds r.run.world w → limit_of all_kinds w ≡ Some x)
    → Makes r (λ w. happens_on all_kinds w e) (went r (Some x))
halted r e x h is = same r (λ w. ran all_kinds w (Some x)) (λ w. happens_on all_kinds w e) (went r (Some x)) (λ w k. ap (λ (o : Option Which). happens_by all_kinds o w e) (sym (is w k))) (none r (Some x) h)

pub happened : (r q : Recording) (e : EventOf all_kinds) → StepsTo r e q → ((w : Worlds) → KeepsWorld all_kinds r.run.world w → limit_of all_kinds w ≡ None)
    → Makes r (λ w. happens_on all_kinds w e) (went q None)
happened r q e h is =
    same r (λ w. ran all_kinds (happens all_kinds w e) None) (λ w. happens_on all_kinds w e) (went q None) (λ w k. ap (λ (o : Option Which). happens_by all_kinds o w e) (sym (is w k)))
    (next r q e (λ w. ran all_kinds w None) (went q None) h (none q None h.recorded))
