-- A live run records no more lines than its world counts steps, so what is told there is a transcript, and judged legal.
use Rattle.std.proofs.Common.{◌≡◌, ◌==◌, ℕ, zero, suc, ◌+◌, ◌<◌, ◌≤◌, ◌^◌, Bool, true, false, List, [], ◌∷◌, length, Option, Some, None, refl, sym, ap, ◌∙◌, subst, arith}
use Rattle.std.proofs.lemmas.List.{length-append}
use Rattle.tg_base.specs.declared.fault.Which.{Which}
use Rattle.tg_base.specs.declared.ids.NodeId.{NodeId}
use Rattle.tg_base.specs.declared.ids.Oid.{Oid}
use Rattle.tg_model.specs.declared.command.Command.TheVariants as cmd
use Rattle.tg_model.specs.declared.command.Event.TheVariants as event
use Rattle.tg_model.specs.Kinds.{EventOf}
use Rattle.tg_protocol.specs.Runs.{most_steps}
use Rattle.tg_protocol.specs.Worlds.{start, limit_of, runs, nodes, next_event, unless_stopped}
use Rattle.tg_any.specs.declared.any.AnyOp.{AnyOp}
use Rattle.tg_any.specs.AllKinds.{all_kinds}
use Rattle.tg_world.specs.Runs.{happens_by, happens_on, puts_on}
use Rattle.tg_script.specs.declared.line.Line.{Line}
use Rattle.tg_script.specs.declared.line.Line.TheVariants as line
use Rattle.tg_trace.specs.Transcripts.{is_transcript}
use Rattle.tg_audit.specs.declared.verdict.Verdict.TheVariants.{Legal}
use Rattle.tg_audit_run.specs.Verdicts.{judged}
use Rattle.tg_replay.specs.Headline.{told_in}
use Rattle.tg_replay.specs.Runs.{Worlds, Runs, line_in, world_of}
use Rattle.tg_live.specs.Matching.{matched}
use Rattle.tg_live.specs.Sends.{spellings}
use Rattle.tg_live.specs.Lives.{Answer, Live, LiveRan, opened, is_steps, recorded, recorded_by, came, came_by, received, onward, ticked, Follows, Then, Makes, IsDrained, IsRounds, IsFed, IsLived}
use Rattle.tg_live.specs.Scripts.{recording}
use Rattle.tg_law_walks.proofs.Drafts.Clients.{happens_steps}
use Rattle.tg_law_programs.proofs.Lives.Recording.{each_live_reaches}
use Rattle.tg_law_programs.specs.Transcripts.Auditing.{EachLiveAudited}
use Rattle.tg_law_programs.proofs.Transcripts.Judging.{each_audited}
use Rattle.tg_law_programs.proofs.Transcripts.Replies.{each_fits}

-- A line of steps is a step at least, where no limit is reached.

grows_by : (o : Option Which) (w : Worlds) (e : EventOf all_kinds) → w.steps ≤ (happens_by all_kinds o w e).world.steps
grows_by None w e = let a = happens_steps all_kinds w e in omega (arith, a)
grows_by (Some x) w e = omega arith

grows_on : (w : Worlds) (e : EventOf all_kinds) → w.steps ≤ (happens_on all_kinds w e).world.steps
grows_on w e = grows_by (limit_of all_kinds w) w e

unless_grows : (n : ℕ) (r : Runs) (f : Worlds → Runs) → n ≤ r.world.steps → ((v : Worlds) → v.steps ≤ (f v).world.steps) → n ≤ (unless_stopped all_kinds r f).world.steps
unless_grows n r f low more = by r.stopped
  where
    by : (o : Option Which) → n ≤ (elim o as (λ _. Runs) [ Some x ↦ r | None ↦ f r.world ]).world.steps
    by (Some x) = low
    by None = let a = more r.world in omega (arith, a, low)

puts_grow : (w : Worlds) (k : ℕ) (o : Oid) (op : AnyOp) → w.steps ≤ (puts_on all_kinds w k o op).world.steps
puts_grow w k o op =
    unless_grows w.steps (happens_on all_kinds w (event.Command k (cmd.Put o op))) (λ v. happens_on all_kinds v (event.Command k cmd.End)) (grows_on w (event.Command k (cmd.Put o op)))
    (λ v. grows_on v (event.Command k cmd.End))

counts_by : (o : Option Which) (w : Worlds) (e : EventOf all_kinds) → o ≡ None → w.steps + 1 ≤ (happens_by all_kinds o w e).world.steps
counts_by None w e is = let a = happens_steps all_kinds w e in omega (arith, a)
counts_by (Some x) w e is = absurd cc

line_counts : (w : Worlds) (x : Line) → is_steps x ≡ true → limit_of all_kinds w ≡ None → w.steps + 1 ≤ (line_in w x).world.steps
line_counts w (line.Event e) is free = counts_by (limit_of all_kinds w) w e free
line_counts w (line.Update k o op) is free =
    unless_grows (w.steps + 1) (happens_on all_kinds w (event.Command k cmd.Begin)) (λ v. puts_on all_kinds v k o op) (counts_by (limit_of all_kinds w) w (event.Command k cmd.Begin) free)
    (λ v. puts_grow v k o op)
line_counts w line.Drain is free = absurd cc
line_counts w line.Settle is free = absurd cc

-- the limits don't ask which event it is
next_free : (w : Worlds) → limit_of all_kinds (next_event all_kinds w) ≡ limit_of all_kinds w
unfolding limit_of
next_free w = refl

-- Through each part of a live run.

abbrev Few : Live → Type 0
Few l = length l.lines ≤ l.world.steps

recorded_few : (l : Live) (x : Line) → is_steps x ≡ true → Few l → Few (recorded l x).live
unfolding recorded
recorded_few l x is few = by (limit_of all_kinds l.world) refl
  where
    by : (o : Option Which) → limit_of all_kinds l.world ≡ o → Few (recorded_by o l x).live
    by (Some y) e = few
    by None e =
        let a = line_counts (next_event all_kinds l.world) x is (next_free l.world ∙ e) in
        let b = length-append l.lines (x ∷ []) in
        omega (arith, a, b, few)

came_few : (l : Live) (node : NodeId) (datagram : List ℕ) → Few l → Few (came l node datagram).live
came_few l node datagram few = by (matched (spellings l.world.packets) l.delivered node datagram)
  where
    by : (o : Option ℕ) → Few (came_by o l).live
    by None = few
    by (Some i) = recorded_few (record l { delivered = i ∷ l.delivered }) (line.Event (event.Deliver i)) refl few

follows_few : (o : Option Which) (m : LiveRan) (rest : List Answer) (end : LiveRan) (P : Type 0) → Few m.live → (P → Few end.live) → Follows o m rest end P → Few end.live
follows_few (Some x) m rest end P few f g = subst (λ (r : LiveRan). Few r.live) (sym g.1) few
follows_few None m rest end P few f p = f p

drained_few : (answers : List Answer) (l : Live) (end : LiveRan) → Few l → IsDrained answers l end → Few end.live
drained_few [] l end few d = subst (λ (r : LiveRan). Few r.live) (sym d.1) few
drained_few (None ∷ rest) l end few d = subst (λ (r : LiveRan). Few r.live) (sym d.2) few
drained_few (Some a ∷ rest) l end few d =
    let m = came (received l a) a.to a.datagram in
    let still : Few m.live = came_few (received l a) a.to a.datagram few in
    follows_few m.stopped m rest end (IsDrained rest m.live end) still (λ p. drained_few rest m.live end still p) d.1

onward_few : (r : LiveRan) (f : Live → LiveRan) → Few r.live → Few (f r.live).live → Few (onward r f).live
onward_few r f few more = by r.stopped
  where
    by : (o : Option Which) → Few (elim o as (λ _. LiveRan) [ Some x ↦ r | None ↦ f r.live ]).live
    by (Some x) = few
    by None = more

ticked_few : (ns : List NodeId) (l : Live) → Few l → Few (ticked ns l).live
unfolding ticked
ticked_few [] l few = few
ticked_few (n ∷ ns) l few =
    let now = recorded_few l (line.Event (event.Tick n)) refl few in
    by (runs all_kinds l.world n) now (ticked_few ns l few) (ticked_few ns (recorded l (line.Event (event.Tick n))).live now)
  where
    by : (b : Bool) → Few (recorded l (line.Event (event.Tick n))).live → Few (ticked ns l).live → Few (ticked ns (recorded l (line.Event (event.Tick n))).live).live
        → Few (elim b as (λ _. LiveRan) [ false ↦ ticked ns l | true ↦ onward (recorded l (line.Event (event.Tick n))) (λ k. ticked ns k) ]).live
    by false now over more = over
    by true now over more = onward_few (recorded l (line.Event (event.Tick n))) (λ k. ticked ns k) now more

then_few : (part next : List Answer → Live → LiveRan → Type 0) (answers : List Answer) (l : Live) (end : LiveRan) → ((ans : List Answer) (e : LiveRan) → part ans l e → Few e.live)
    → ((ans : List Answer) (m : Live) (e : LiveRan) → Few m → next ans m e → Few e.live) → Then part next answers l end → Few end.live
then_few part next answers l end f g t =
    let still : Few t.middle.live = f t.taken t.middle t.before in
    follows_few t.middle.stopped t.middle t.rest end (next t.rest t.middle.live end) still (λ p. g t.rest t.middle.live end still p) t.after

rounds_few : (n : ℕ) (answers : List Answer) (l : Live) (end : LiveRan) → Few l → IsRounds n answers l end → Few end.live
rounds_few zero answers l end few r = subst (λ (x : LiveRan). Few x.live) (sym r.1) few
rounds_few (suc n) answers l end few r =
    then_few (Makes (ticked (nodes all_kinds l.world))) _ answers l end
    (λ ans e m. subst (λ (x : LiveRan). Few x.live) (sym m.1) (ticked_few (nodes all_kinds l.world) l few))
    (λ ans m e still p. by (length m.world.packets == length l.world.packets) ans m e still (λ bs k f u q. rounds_few n bs k f u q) p) r
  where
    by : (b : Bool) (ans : List Answer) (m : Live) (e : LiveRan) → Few m → ((bs : List Answer) (k : Live) (f : LiveRan) → Few k → IsRounds n bs k f → Few f.live)
        → elim b as (λ _. Type 0) [ true ↦ IsDrained ans m e | false ↦ Then IsDrained (IsRounds n) ans m e ] → Few e.live
    by true ans m e still more d = drained_few ans m e still d
    by false ans m e still more d = then_few IsDrained (IsRounds n) ans m e (λ bs f p. drained_few bs m f still p) more d

fed_few : (x : Line) (answers : List Answer) (l : Live) (end : LiveRan) → Few l → IsFed x answers l end → Few end.live
fed_few line.Drain answers l end few d = drained_few answers l end few d
fed_few line.Settle answers l end few d = then_few IsDrained (IsRounds 8) answers l end (λ ans e p. drained_few ans l e few p) (λ ans m e still p. rounds_few 8 ans m e still p) d
fed_few (line.Event e) answers l end few d = subst (λ (x : LiveRan). Few x.live) (sym d.1) (recorded_few l (line.Event e) refl few)
fed_few (line.Update k oid op) answers l end few d = subst (λ (x : LiveRan). Few x.live) (sym d.1) (recorded_few l (line.Update k oid op) refl few)

lived_few : (xs : List Line) (answers : List Answer) (l : Live) (end : LiveRan) → Few l → IsLived xs answers l end → Few end.live
lived_few [] answers l end few d = subst (λ (x : LiveRan). Few x.live) (sym d.1) few
lived_few (x ∷ xs) answers l end few d =
    then_few (IsFed x) (IsLived xs) answers l end (λ ans e p. fed_few x ans l e few p) (λ ans m e still p. lived_few xs ans m e still p) d

-- So its recording has fewer than 2^64 lines.

few_lines : (steps told n : ℕ) → steps ≤ most_steps → steps ≡ told → n ≤ told → n < 2 ^ 64
few_lines steps told n a b c = omega (arith, a, b, c)

pub each_live_audited : EachLiveAudited
unfolding start
each_live_audited s answers end is lived =
    let r = each_live_reaches s answers end is lived in
    let few : length end.live.lines < 2 ^ 64 =
    few_lines (world_of (recording s.header end.live)).steps end.live.world.steps (length end.live.lines) r.reached.reaches.goes.few (ap (λ (w : Worlds). w.steps) r.world)
    (lived_few s.events answers (opened s.header) end (omega arith) lived) in
    record {
      fits = subst (λ (w : Worlds). is_transcript (told_in s.header w) ≡ true) r.world (each_fits (recording s.header end.live) r.script few);
      legal = subst (λ (w : Worlds). judged (told_in s.header w) ≡ Legal) r.world (each_audited (recording s.header end.live) r.script);
    }
