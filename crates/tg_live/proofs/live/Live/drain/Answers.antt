use Rattle.std.proofs.Common.{◌≡◌, ◌∙◌, ◌≤◌, ◌<◌, ◌+◌, ℕ, List, Option, Some, None, Err, take, refl, sym, ap, subst, arith, rules, Ok, Result}
use Rattle.tg_base.specs.declared.fault.Which.TheVariants.{Datagrams}
use Rattle.tg_base.specs.declared.ids.NodeId.{NodeId}
use Rattle.std.proofs.lemmas.Result.{err_from_is_err_and}
use Rattle.tg_io.proofs.Faults.{rose_since, sure_since}
use Rattle.tg_io.specs.Faults.{HasCause}
use Rattle.tg_io.specs.Acts.{Comes}
use Rattle.tg_io.specs.declared.fault.IoErr.{IoErr}
use Rattle.tg_io.specs.declared.fault.IoErr.TheVariants.{Failed}
use Rattle.tg_io.specs.Links.{Adds, arrival_of}
use Rattle.tg_io.specs.declared.link.Arrival.{Arrival}
use Rattle.tg_live.specs.Lives.{Answer, received}
use Rattle.tg_live.specs.Sends.{carried}
use Rattle.tg_live.proofs.Keeping.{received_keeps}
use Rattle.tg_live.proofs.Options.{some_of, none_of}
use Rattle.tg_live.proofs.Parts.{drains_start, drains_next, drains_stops, drains_ends, drains_limit}
use Rattle.tg_io.specs.Acts.{Act}
use Rattle.tg_io.specs.Bytes.{Grows}
use Rattle.tg_live.proofs.Breaking.{on_err, drain_broken, drain_broken_in}
use Rattle.tg_live.proofs.live.Live.drain.Goals as goal

pub datagrams-init : goal.datagrams-init
datagrams-init g c = record {
  drains = λ h f k keeps. drains_start h f k (carried (g.L.Link.sent c.args.link.now) (g.L.Link.acts c.args.link.now)) (g.L.Link.handed c.args.link.now) c.args.self keeps;
  kept = c.requires;
  buffer = search rules;
  still = refl;
  later = omega arith;
  sure = record { sure = λ x. x; still = λ x. refl };
}

pub returns-then-full-clause-drained : goal.returns-then-full-clause-drained
returns-then-full-clause-drained g c = λ h f k keeps.
    let d = c.datagrams.invariant.drains h f k keeps in
    let same : c.datagrams.live.received ≡ d.live.received = d.kept.received in
    let many : 1000000 ≤ d.live.received = omega arith in
    drains_limit h f k (carried (g.L.Link.sent c.datagrams.link) (g.L.Link.acts c.datagrams.link)) (g.L.Link.handed c.args.link.now) (g.L.Link.handed c.datagrams.link) c.datagrams.live (record { live = c.datagrams.live; stopped = Some Datagrams }) d many refl refl

-- the fault of a call that failed
abbrev fault_or : {X : Type 0} → IoErr → Result X IoErr → IoErr
fault_or other (Err e) = e
fault_or other (Ok x) = other

pub returns-in_err-answer-clause-cause : goal.returns-in_err-answer-clause-cause
returns-in_err-answer-clause-cause g c =
    let before : g.L.Link.faults c.args.link.now ≤ g.L.Link.faults c.datagrams.link = c.datagrams.invariant.later in
    let k : HasCause {X = Option (NodeId × ℕ)} (g.L.Link.faults c.datagrams.link) (g.L.Link.faults c.recv.new.self) (Err c.in_err-answer.field-0.0) = c.in_err-answer.ensures.cause in
    let later : g.L.Link.faults c.datagrams.link ≤ g.L.Link.faults c.recv.new.self = k.later in
    let p = err_from_is_err_and c.from_residual.result c.from_residual.ensures.1 in
    let end : c.from_residual.result ≡ Err c.in_err-answer.field-0.0 = p.1 ∙ ap Err p.2 in
    record {
      later = omega arith;
      failed = λ e. rose_since _ _ _ before later (k.failed (ap Err (ap (fault_or Failed) (sym end ∙ e))));
    }

pub returns-in_default-clause-drained : goal.returns-in_default-clause-drained
returns-in_default-clause-drained g c = λ h f k keeps.
    let d = c.datagrams.invariant.drains h f k keeps in
    let same : c.datagrams.live.received ≡ d.live.received = d.kept.received in
    let few : d.live.received < 1000000 = omega arith in
    let adds = subst (λ (o : Option (NodeId × ℕ)). Adds (g.L.Link.handed c.datagrams.link) (arrival_of o c.recv.new.buf) (g.L.Link.handed c.recv.new.self)) c.in_default.is c.in_ok-answer.ensures.handed in
    let act = subst (λ (o : Option (NodeId × ℕ)). Adds (g.L.Link.acts c.datagrams.link) (Comes (arrival_of o c.recv.new.buf)) (g.L.Link.acts c.recv.new.self)) c.in_default.is c.in_ok-answer.ensures.act in
    drains_ends h f k (carried (g.L.Link.sent c.datagrams.link) (g.L.Link.acts c.datagrams.link)) (carried (g.L.Link.sent c.recv.new.self) (g.L.Link.acts c.recv.new.self)) (g.L.Link.handed c.args.link.now) (g.L.Link.handed c.datagrams.link) (g.L.Link.handed c.recv.new.self) c.datagrams.live (record { live = c.datagrams.live; stopped = None }) d few adds c.in_ok-answer.ensures.sent act refl refl

pub returns-then-is_some-clause-drained : goal.returns-then-is_some-clause-drained
returns-then-is_some-clause-drained g c = λ h f k keeps.
    let d = c.datagrams.invariant.drains h f k keeps in
    let same : c.datagrams.live.received ≡ d.live.received = d.kept.received in
    let few : d.live.received < 1000000 = omega arith in
    let to = c.in-Some.arrival.0 in
    let count = c.in-Some.arrival.1 in
    let adds = subst (λ (o : Option (NodeId × ℕ)). Adds (g.L.Link.handed c.datagrams.link) (arrival_of o c.recv.new.buf) (g.L.Link.handed c.recv.new.self)) c.in-Some.is c.in_ok-answer.ensures.handed in
    let act = subst (λ (o : Option (NodeId × ℕ)). Adds (g.L.Link.acts c.datagrams.link) (Comes (arrival_of o c.recv.new.buf)) (g.L.Link.acts c.recv.new.self)) c.in-Some.is c.in_ok-answer.ensures.act in
    let later = subst (λ (o : Option (List Answer)). Adds (g.L.Link.handed c.datagrams.link) (Some (record { to = to; datagram = take count c.recv.new.buf })) o) (sym c.in_ok-went.ensures.handed) adds in
    let kept = received_keeps h f (carried (g.L.Link.sent c.datagrams.link) (g.L.Link.acts c.datagrams.link)) (carried (g.L.Link.sent c.recv.new.self) (g.L.Link.acts c.recv.new.self)) c.datagrams.live (record c.datagrams.live { received = c.datagrams.live.received + 1 }) d.live (record { to = to; datagram = take count c.recv.new.buf }) d.kept c.in_ok-answer.ensures.sent act refl refl refl refl refl in
    let ran = c.in_ok-went.ensures.came h f (received d.live (record { to = to; datagram = take count c.recv.new.buf })) kept in
    let x = some_of c.in_ok-went.went.stopped (sym c.is_some.ensures ∙ c.if-is_some.true) in
    drains_stops h f k (carried (g.L.Link.sent c.datagrams.link) (g.L.Link.acts c.datagrams.link)) (carried (g.L.Link.sent c.take.new.link) (g.L.Link.acts c.take.new.link)) (g.L.Link.handed c.args.link.now) (g.L.Link.handed c.datagrams.link) (g.L.Link.handed c.take.new.link)
    c.datagrams.live c.in_ok-went.went (record { to = to; datagram = take count c.recv.new.buf }) x.0 d few later ran x.1

pub datagrams-preserved : goal.datagrams-preserved
datagrams-preserved g c =
    let i = c.datagrams.invariant in
    let later : g.L.Link.faults c.args.link.now ≤ g.L.Link.faults c.datagrams.link = i.later in
    let rose : g.L.Link.faults c.datagrams.link ≤ g.L.Link.faults c.recv.new.self = c.in_ok-answer.ensures.cause.later in
    let more : g.L.Link.faults c.recv.new.self ≤ g.L.Link.faults c.take.new.link = c.in_ok-went.ensures.cause.later in
    record {
      drains = λ h f k keeps.
          let d = i.drains h f k keeps in
          let same : c.datagrams.live.received ≡ d.live.received = d.kept.received in
          let few : d.live.received < 1000000 = omega arith in
          let to = c.in-Some.arrival.0 in
          let count = c.in-Some.arrival.1 in
          let adds = subst (λ (o : Option (NodeId × ℕ)). Adds (g.L.Link.handed c.datagrams.link) (arrival_of o c.recv.new.buf) (g.L.Link.handed c.recv.new.self)) c.in-Some.is c.in_ok-answer.ensures.handed in
          let act = subst (λ (o : Option (NodeId × ℕ)). Adds (g.L.Link.acts c.datagrams.link) (Comes (arrival_of o c.recv.new.buf)) (g.L.Link.acts c.recv.new.self)) c.in-Some.is c.in_ok-answer.ensures.act in
          let added = subst (λ (o : Option (List Answer)). Adds (g.L.Link.handed c.datagrams.link) (Some (record { to = to; datagram = take count c.recv.new.buf })) o) (sym c.in_ok-went.ensures.handed) adds in
          let kept = received_keeps h f (carried (g.L.Link.sent c.datagrams.link) (g.L.Link.acts c.datagrams.link)) (carried (g.L.Link.sent c.recv.new.self) (g.L.Link.acts c.recv.new.self)) c.datagrams.live (record c.datagrams.live { received = c.datagrams.live.received + 1 }) d.live (record { to = to; datagram = take count c.recv.new.buf }) d.kept c.in_ok-answer.ensures.sent act refl refl refl refl refl in
          let ran = c.in_ok-went.ensures.came h f (received d.live (record { to = to; datagram = take count c.recv.new.buf })) kept in
          let on : c.in_ok-went.went.stopped ≡ None = none_of c.in_ok-went.went.stopped (sym c.is_some.ensures ∙ c.if-is_some.false) in
          drains_next h f k (carried (g.L.Link.sent c.datagrams.link) (g.L.Link.acts c.datagrams.link)) (carried (g.L.Link.sent c.take.new.link) (g.L.Link.acts c.take.new.link)) (g.L.Link.handed c.args.link.now) (g.L.Link.handed c.datagrams.link) (g.L.Link.handed c.take.new.link)
          c.datagrams.live c.in_ok-went.went (record { to = to; datagram = take count c.recv.new.buf }) d few added ran on;
      kept = c.in_ok-went.ensures.kept;
      buffer = c.recv.auto.buf ∙ i.buffer;
      still = c.in_ok-went.ensures.still ∙ (c.in_ok-answer.ensures.still ∙ i.still);
      later = omega arith;
      sure = sure_since _ _ _ _ _ _ (sure_since _ _ _ _ _ _ i.sure c.in_ok-answer.ensures.sure) c.in_ok-went.ensures.sure;
    }

pub datagrams-smaller : goal.datagrams-smaller
datagrams-smaller g c =
    let got : c.in_ok-went.went.live.received ≡ c.datagrams.live.received + 1 = c.in_ok-went.ensures.received in
    omega arith

pub returns-in_err-answer-clause-broken : goal.returns-in_err-answer-clause-broken
returns-in_err-answer-clause-broken g c = λ h f k keeps.
    let d = c.datagrams.invariant.drains h f k keeps in
    on_err c.from_residual.result (drain_broken f.acts (g.L.Link.acts c.recv.new.self) k d.live (record { answers = d.answers; more = d.more }) (subst (λ (o : Option (List Act)). Grows f.acts d.live.acts o) (sym c.in_err-answer.ensures.no_act) d.kept.acts))

pub returns-in_err-went-clause-broken : goal.returns-in_err-went-clause-broken
returns-in_err-went-clause-broken g c = λ h f k keeps.
    let d = c.datagrams.invariant.drains h f k keeps in
    let same : c.datagrams.live.received ≡ d.live.received = d.kept.received in
    let few : d.live.received < 1000000 = omega arith in
    let a : Arrival = record { to = c.in-Some.arrival.0; datagram = take c.in-Some.arrival.1 c.recv.new.buf } in
    let act = subst (λ (o : Option (NodeId × ℕ)). Adds (g.L.Link.acts c.datagrams.link) (Comes (arrival_of o c.recv.new.buf)) (g.L.Link.acts c.recv.new.self)) c.in-Some.is c.in_ok-answer.ensures.act in
    let kept = received_keeps h f (carried (g.L.Link.sent c.datagrams.link) (g.L.Link.acts c.datagrams.link)) (carried (g.L.Link.sent c.recv.new.self) (g.L.Link.acts c.recv.new.self)) c.datagrams.live (record c.datagrams.live { received = c.datagrams.live.received + 1 }) d.live a d.kept c.in_ok-answer.ensures.sent act refl refl refl refl refl in
    on_err c.from_residual-in_err-went.result (drain_broken_in f.acts (g.L.Link.acts c.take.new.link) k d.live a (record { answers = d.answers; more = d.more }) few (c.in_err-went.ensures.broken h f (received d.live a) kept))
