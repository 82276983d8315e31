-- The recording of a live run is a script whose world is the run's.
use Rattle.std.proofs.Common.{◌≡◌, ◌∙◌, ◌==◌, ℕ, zero, suc, ◌<◌, Bool, true, false, List, [], ◌∷◌, ◌++◌, length, Option, Some, None, refl, sym, ap, subst, arith}
use Rattle.std.specs.Prelude.{slice_get}
use Rattle.tg_base.specs.Clusters.{Header, IsHeader}
use Rattle.tg_base.specs.declared.fault.Which.{Which}
use Rattle.tg_base.specs.declared.ids.NodeId.{NodeId}
use Rattle.tg_model.specs.declared.command.Event.TheVariants as event
use Rattle.tg_protocol.specs.Worlds.{ran, start, limit_of, runs, nodes}
use Rattle.tg_any.specs.AllKinds.{all_kinds}
use Rattle.tg_script.specs.declared.line.Line.{Line}
use Rattle.tg_script.specs.declared.line.Line.TheVariants as line
use Rattle.tg_replay.specs.Runs.{Script, Worlds, Runs, IsLine, IsScript, MayCome, line_on, lines_on, run_of, world_of}
use Rattle.tg_replay.proofs.Making.{lines_longer}
use Rattle.tg_replay.proofs.Scripts.{opening_lawful, script_longer}
use Rattle.tg_live.specs.Matching.{matched}
use Rattle.tg_live.specs.Sends.{spellings}
use Rattle.tg_live.specs.Lives.{Answer, Live, LiveRan, goes, opened, recorded, recorded_by, after_line, came, came_by, received, onward, ticked, is_steps, Follows, Then, Makes, IsDrained, IsRounds, IsFed, IsLived}
use Rattle.tg_live.specs.Scripts.{IsLiveLine, IsLiveScript, IsRecording, IsRecorded, recording}
use Rattle.tg_live.proofs.Standing.{Stands, starts, line_stands, packets_below}
use Rattle.tg_live.proofs.Grammar.{deliver_is, tick_is, free_comes}
use Rattle.tg_live.proofs.Delivered.{matched_sent}

-- it is a script, whose run comes to this world, which has the header's nodes, and no limit stops it
record TellsTo (s : Script) (w : Worlds) : Type 0 where
  script : IsScript s
  run : run_of s ≡ ran all_kinds w None
  stands : Stands all_kinds s.header w

abbrev Tells : Header → Live → Type 0
Tells h l = TellsTo (recording h l) l.world

tells_world : (h : Header) (l : Live) → Tells h l → world_of (recording h l) ≡ l.world
tells_world h l t = ap (λ (q : Runs). q.world) t.run

recorded_so : (h : Header) (l : Live) → Tells h l → IsRecording h l
recorded_so h l t = record { script = t.script; world = tells_world h l t }

-- the recording of a live run that goes on, or that a limit has stopped
abbrev TellsBy : Option Which → Header → Live → Type 0
TellsBy None h l = Tells h l
TellsBy (Some x) h l = IsRecording h l

abbrev TellsRan : Header → LiveRan → Type 0
TellsRan h r = TellsBy r.stopped h r.live

-- ---- lines

line_tells : (h : Header) (l : Live) (x : Line) (r : Runs) → Tells h l → IsLine h x → MayCome l.world x → Stands all_kinds h r.world → lines_on (l.lines ++ x ∷ []) (start all_kinds h) ≡ r → TellsRan h (after_line l x r)
line_tells h l x r t is comes stands e = at r.stopped refl
  where
    longer : IsScript (recording h (after_line l x r).live)
    longer = script_longer (recording h l) x t.script is (subst (λ (w : Worlds). MayCome w x) (sym (tells_world h l t)) comes)

    at : (o : Option Which) → r.stopped ≡ o → TellsBy o h (after_line l x r).live
    at None s = record { script = longer; run = e ∙ (λ i. record { world = r.world; stopped = s i }); stands = stands }
    at (Some y) s = record { script = longer; world = ap (λ (q : Runs). q.world) e }

recorded_tells : (h : Header) (l : Live) (x : Line) → Tells h l → is_steps x ≡ true → (limit_of all_kinds l.world ≡ None → IsLine h x) → MayCome l.world x → TellsRan h (recorded l x)
unfolding recorded
recorded_tells h l x t steps is comes = at (limit_of all_kinds l.world) refl
  where
    on : lines_on (l.lines ++ x ∷ []) (start all_kinds h) ≡ line_on l.world x
    on = lines_longer l.lines x (start all_kinds h) (ap (λ (q : Runs). q.stopped) t.run) ∙ ap (λ (q : Runs). line_on q.world x) t.run

    at : (o : Option Which) → limit_of all_kinds l.world ≡ o → TellsRan h (recorded_by o l x)
    at (Some y) e = recorded_so h l t
    at None e = line_tells h l x (line_on l.world x) t (is e) comes (line_stands h l.world x steps t.stands) on

came_tells : (h : Header) (l : Live) (node : NodeId) (datagram : List ℕ) → Tells h l → TellsRan h (came l node datagram)
came_tells h l node datagram t = at (matched (spellings l.world.packets) l.delivered node datagram) refl
  where
    at : (o : Option ℕ) → matched (spellings l.world.packets) l.delivered node datagram ≡ o → TellsRan h (came_by o l)
    at None e = t
    at (Some i) e =
        let sent : i < length l.world.packets = matched_sent l.world.packets l.delivered node datagram i e in
        recorded_tells h (record l { delivered = i ∷ l.delivered }) (line.Event (event.Deliver i)) t refl
        (λ free. deliver_is h i (let few = packets_below all_kinds h l.world t.stands free in omega (arith, sent, few))) sent

tick_tells : (h : Header) (l : Live) (n : NodeId) → runs all_kinds l.world n ≡ true → Tells h l → TellsRan h (recorded l (line.Event (event.Tick n)))
tick_tells h l n e t = recorded_tells h l (line.Event (event.Tick n)) t refl (λ free. tick_is h l.world n t.script.header t.stands e) tt

-- ---- one part of a run after another

-- what follows a run that tells
follows_tells : (h : Header) (o : Option Which) (m : LiveRan) (rest : List Answer) (end : LiveRan) (P : Type 0) → m.stopped ≡ o → TellsRan h m → (Tells h m.live → P → TellsRan h end) → Follows o m rest end P → TellsRan h end
follows_tells h (Some x) m rest end P e t f g = subst (TellsRan h) (sym g.1) t
follows_tells h None m rest end P e t f p = f (subst (λ (o : Option Which). TellsBy o h m.live) e t) p

drained_tells : (h : Header) (answers : List Answer) (l : Live) (end : LiveRan) → Tells h l → IsDrained answers l end → TellsRan h end
drained_tells h [] l end t d = subst (TellsRan h) (sym d.1) (recorded_so h l t)
drained_tells h (None ∷ rest) l end t d = subst (TellsRan h) (sym d.2) t
drained_tells h (Some a ∷ rest) l end t d =
    let m = came (received l a) a.to a.datagram in
    follows_tells h m.stopped m rest end (IsDrained rest m.live end) refl (came_tells h (received l a) a.to a.datagram t) (λ u p. drained_tells h rest m.live end u p) d.1

onward_tells : (h : Header) (r : LiveRan) (f : Live → LiveRan) → TellsRan h r → (Tells h r.live → TellsRan h (f r.live)) → TellsRan h (onward r f)
onward_tells h r f t g = at r.stopped t
  where
    at : (o : Option Which) → TellsBy o h r.live → TellsRan h (elim o as (λ _. LiveRan) [ Some x ↦ record { live = r.live; stopped = o } | None ↦ f r.live ])
    at None u = g u
    at (Some x) u = u

ticked_tells : (h : Header) (ns : List NodeId) (l : Live) → Tells h l → TellsRan h (ticked ns l)
unfolding ticked
ticked_tells h [] l t = t
ticked_tells h (n ∷ ns) l t = at (runs all_kinds l.world n) refl (ticked_tells h ns l t) (λ u. ticked_tells h ns (recorded l (line.Event (event.Tick n))).live u)
  where
    at : (b : Bool) → runs all_kinds l.world n ≡ b → TellsRan h (ticked ns l) → (Tells h (recorded l (line.Event (event.Tick n))).live → TellsRan h (ticked ns (recorded l (line.Event (event.Tick n))).live))
        → TellsRan h (elim b as (λ _. LiveRan) [ false ↦ ticked ns l | true ↦ onward (recorded l (line.Event (event.Tick n))) (λ k. ticked ns k) ])
    at false e over next = over
    at true e over next = onward_tells h (recorded l (line.Event (event.Tick n))) (λ k. ticked ns k) (tick_tells h l n e t) next

then_tells : (h : Header) (part next : List Answer → Live → LiveRan → Type 0) (answers : List Answer) (l : Live) (end : LiveRan) → ((ans : List Answer) (e : LiveRan) → part ans l e → TellsRan h e)
    → ((ans : List Answer) (m : Live) (e : LiveRan) → Tells h m → next ans m e → TellsRan h e) → Then part next answers l end → TellsRan h end
then_tells h part next answers l end f g t =
    follows_tells h t.middle.stopped t.middle t.rest end (next t.rest t.middle.live end) refl (f t.taken t.middle t.before) (λ u p. g t.rest t.middle.live end u p) t.after

rounds_tell : (h : Header) (n : ℕ) (answers : List Answer) (l : Live) (end : LiveRan) → Tells h l → IsRounds n answers l end → TellsRan h end
rounds_tell h zero answers l end t r = subst (TellsRan h) (sym r.1) t
rounds_tell h (suc n) answers l end t r =
    then_tells h (Makes (ticked (nodes all_kinds l.world))) _ answers l end
    (λ ans e m. subst (TellsRan h) (sym m.1) (ticked_tells h (nodes all_kinds l.world) l t))
    (λ ans m e u p. by (length m.world.packets == length l.world.packets) ans m e u (λ ans k e v q. rounds_tell h n ans k e v q) p) r
  where
    by : (b : Bool) (ans : List Answer) (m : Live) (e : LiveRan) → Tells h m → ((ans : List Answer) (k : Live) (e : LiveRan) → Tells h k → IsRounds n ans k e → TellsRan h e)
        → elim b as (λ _. Type 0) [ true ↦ IsDrained ans m e | false ↦ Then IsDrained (IsRounds n) ans m e ] → TellsRan h e
    by true ans m e u more d = drained_tells h ans m e u d
    by false ans m e u more d = then_tells h IsDrained (IsRounds n) ans m e (λ bs f p. drained_tells h bs m f u p) more d

-- ---- the lines of the live run's script

fed_tells : (h : Header) (x : Line) (answers : List Answer) (l : Live) (end : LiveRan) → IsLiveLine h x → Tells h l → IsFed x answers l end → TellsRan h end
fed_tells h line.Drain answers l end is t d = drained_tells h answers l end t d
fed_tells h line.Settle answers l end is t d = then_tells h IsDrained (IsRounds 8) answers l end (λ ans e p. drained_tells h ans l e t p) (λ ans m e u p. rounds_tell h 8 ans m e u p) d
fed_tells h (line.Event e) answers l end is t d = subst (TellsRan h) (sym d.1) (recorded_tells h l (line.Event e) t refl (λ free. is.line) (free_comes l.world (line.Event e) is.free))
fed_tells h (line.Update k oid op) answers l end is t d = subst (TellsRan h) (sym d.1) (recorded_tells h l (line.Update k oid op) t refl (λ free. is.line) tt)

lived_tells : (h : Header) (xs : List Line) (answers : List Answer) (l : Live) (end : LiveRan) → ((k : ℕ) (x : Line) → slice_get xs k ≡ Some x → IsLiveLine h x) → Tells h l → IsLived xs answers l end → TellsRan h end
lived_tells h [] answers l end is t d = subst (TellsRan h) (sym d.1) t
lived_tells h (x ∷ xs) answers l end is t d =
    then_tells h (IsFed x) (IsLived xs) answers l end (λ ans e p. fed_tells h x ans l e (is zero x refl) t p)
    (λ ans m e u p. lived_tells h xs ans m e (λ k y f. is (suc k) y f) u p) d

opened_tells : (h : Header) → IsHeader h → Tells h (opened h)
unfolding lines_on
opened_tells h header = record { script = opening_lawful h header; run = refl; stands = starts all_kinds h }

ended : (h : Header) (o : Option Which) (l : Live) → TellsBy o h l → IsRecording h l
ended h None l t = recorded_so h l t
ended h (Some x) l t = t

run_tells : (s : Script) (answers : List Answer) (end : LiveRan) → IsLiveScript s → IsLived s.events answers (opened s.header) end → TellsRan s.header end
run_tells s answers end is lived = lived_tells s.header s.events answers (opened s.header) end is.each (opened_tells s.header is.header) lived

-- the recording of a live run, also where a limit stopped it
pub run_recording : (s : Script) (answers : List Answer) (end : LiveRan) → IsLiveScript s → IsLived s.events answers (opened s.header) end → IsRecording s.header end.live
run_recording s answers end is lived = ended s.header end.stopped end.live (run_tells s answers end is lived)

-- and of one that none stopped
pub run_recorded : (s : Script) (answers : List Answer) (end : Live) → IsLiveScript s → IsLived s.events answers (opened s.header) (goes end) → IsRecorded s.header end
run_recorded s answers end is lived =
    let t : Tells s.header end = run_tells s answers (goes end) is lived in
    record { script = t.script; world = tells_world s.header end t; within = ap (λ (q : Runs). q.stopped) t.run }
