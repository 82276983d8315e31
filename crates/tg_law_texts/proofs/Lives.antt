-- The live run of a script with one command and a drain.
use Rattle.std.proofs.Common.{◌≡◌, ℕ, zero, suc, ◌≤◌, List, [], ◌∷◌, ◌++◌, length, map, Some, None, refl, sym, ap, ◌∙◌, subst, arith}
use Rattle.std.specs.Prelude.{false, slice_get}
use Rattle.std.specs.Fmt.{digits}
use Rattle.tg_model.specs.declared.command.Event.TheVariants as event
use Rattle.tg_base.specs.Orders.{node_eq}
use Rattle.tg_protocol.specs.Units.{new_unit}
use Rattle.tg_protocol.specs.Clients.{new_client, tests, refusal}
use Rattle.tg_protocol.specs.ClientSteps.{client_asks, accepts, client_command}
use Rattle.tg_protocol.specs.Logs.{newest, log_of, entries_of, history_of}
use Rattle.tg_protocol.specs.Worlds.{start, latest, log, history, client_turned, happens, limit_of}
use Rattle.tg_trace.specs.Transcripts.{rendered}
use Rattle.tg_script.specs.declared.line.Line.{Line}
use Rattle.tg_script.specs.declared.line.Line.TheVariants as line
use Rattle.tg_replay.specs.Runs.{Script, Worlds, IsScript, Tells, MayCome, front, lines_on, world_of}
use Rattle.tg_replay.proofs.Exact.{told_once}
use Rattle.tg_live.specs.Sends.{sending}
use Rattle.tg_live.specs.Lives.{Answer, Live, LiveRan, IsLived, IsDrained, Makes, Follows, heard, recorded, opened, goes}
use Rattle.tg_live.specs.Scripts.{IsLiveLine, IsLiveScript, IsRecorded, RunsOver, Replayed, is_delivery, printed}
use Rattle.tg_live.specs.Headline.{IsScripted, TrueLive}
use Rattle.tg_law_texts.specs.Texts.{cluster, begin, begins, drains, live_script, link, unasked, recording_text, drain_recorded, lived, unrecorded}
use Rattle.tg_law_texts.proofs.Small.{some_same}
use Rattle.tg_law_texts.proofs.Replays.{header, is_line, lawful, within, reached, true_run}

-- The script.

is_live_line : (k : ℕ) (l : Line) → slice_get (begin ∷ line.Drain ∷ []) k ≡ Some l → IsLiveLine cluster l
unfolding digits
is_live_line zero l e = subst (IsLiveLine cluster) (some_same begin l e) (record { line = is_line; free = refl })
is_live_line (suc zero) l e = subst (IsLiveLine cluster) (some_same line.Drain l e) (record { line = record { fits = refl; short = omega arith }; free = refl })
is_live_line (suc (suc k)) l e = absurd cc

live_lawful : IsLiveScript drains
live_lawful = record { header = header; each = is_live_line }

live_tells : Tells live_script drains
unfolding digits
live_tells = refl

-- Its run.

-- before the drain
abbrev begun : Live
begun = record lived { acts = [] }

recorded_begin : recorded (opened cluster) begin ≡ goes begun
unfolding recorded lines_on limit_of start happens client_turned client_command refusal tests accepts new_client client_asks
recorded_begin = refl

is_lived : IsLived (begin ∷ line.Drain ∷ []) (None ∷ []) (opened cluster) (goes lived)
is_lived = record {
  taken = [];
  rest = None ∷ [];
  dealt = refl;
  middle = goes begun;
  before = (refl, sym recorded_begin);
  after = record { taken = None ∷ []; rest = []; dealt = refl; middle = goes lived; before = (omega arith, refl, refl); after = (refl, refl) };
}

no_packets : (world_of begins).packets ≡ []
unfolding lines_on limit_of start happens client_turned client_command refusal tests accepts new_client client_asks
no_packets = refl

runs_over : RunsOver link drains (goes lived)
runs_over = record {
  answers = None ∷ [];
  lived = is_lived;
  took = refl;
  sends = ap (λ ps. Some (map sending ps)) (sym no_packets);
  acts = refl;
}

is_recorded : IsRecorded cluster lived
is_recorded = record { script = lawful; world = refl; within = within }

live_printed : recording_text ≡ printed cluster lived
unfolding digits rendered lines_on limit_of start happens client_turned client_command refusal tests accepts new_client client_asks history log latest newest log_of entries_of history_of new_unit node_eq
live_printed = refl

live_replayed : Replayed link live_script recording_text
live_replayed = record { script = drains; lawful = live_lawful; tells = live_tells; end = lived; run = runs_over; recorded = is_recorded; printed = live_printed }

pub true_live : TrueLive link live_script recording_text
unfolding live_replayed
true_live = record { replayed = live_replayed; script = lawful; true_run = true_run }

pub scripted : IsScripted cluster lived
scripted = record { script = lawful; recorded = is_recorded; reached = reached }

-- No other is its recording.

may_come : (w : Worlds) (l : Line) → is_delivery l ≡ false → MayCome w l
may_come w (line.Event (event.Deliver i)) e = absurd cc
may_come w (line.Event (event.Lose i)) e = absurd cc
may_come w (line.Event (event.Command k x)) e = tt
may_come w (line.Event (event.Tick n)) e = tt
may_come w (line.Event (event.Stop n)) e = tt
may_come w (line.Update k o op) e = tt
may_come w line.Drain e = tt
may_come w line.Settle e = tt

pub is_script : (s : Script) → IsLiveScript s → IsScript s
is_script s h = record {
  header = h.header;
  each = λ k l e. (h.each k l e).line;
  comes = λ k l e. may_come (world_of (front k s)) l (h.each k l e).free;
}

-- A line that takes no answer, and then a drain.
module _ (x : Line) (l : Live) (first : l.received ≡ 0) (after : recorded (opened cluster) x ≡ goes l) where
  drained_so : (taken rest : List Answer) (middle : LiveRan) (last : Live) → None ∷ [] ≡ taken ++ rest → IsDrained taken l middle → Follows middle.stopped middle rest (goes last) (Makes goes rest middle.live (goes last)) → last ≡ heard l None
  drained_so [] rest middle last e d f = let full : 1000000 ≤ l.received = d.0 in absurd (omega (arith, full, first))
  drained_so (Some a ∷ taken) rest middle last e d f = absurd cc
  drained_so (None ∷ taken) rest middle last e d f =
      let then_so : Follows None (goes (heard l None)) rest (goes last) (Makes goes rest (heard l None) (goes last)) = subst (λ (r : LiveRan). Follows r.stopped r rest (goes last) (Makes goes rest r.live (goes last))) d.2 f in
      ap (λ (r : LiveRan). r.live) then_so.1

  pub fed_so : (taken rest : List Answer) (middle : LiveRan) (last : Live) → None ∷ [] ≡ taken ++ rest → (taken ≡ []) × (middle ≡ recorded (opened cluster) x)
      → Follows middle.stopped middle rest (goes last) (IsLived (line.Drain ∷ []) rest middle.live (goes last)) → last ≡ heard l None
  fed_so [] rest middle last e m f =
      let then_so : IsLived (line.Drain ∷ []) rest l (goes last) = subst (λ (r : LiveRan). Follows r.stopped r rest (goes last) (IsLived (line.Drain ∷ []) rest r.live (goes last))) (m.1 ∙ after) f in
      drained_so then_so.taken then_so.rest then_so.middle last (e ∙ then_so.dealt) then_so.before then_so.after
  fed_so (a ∷ taken) rest middle last e m f = absurd cc

lived_so : (answers : List Answer) (last : Live) → answers ≡ None ∷ [] → IsLived (begin ∷ line.Drain ∷ []) answers (opened cluster) (goes last) → last ≡ lived
lived_so answers last e h = fed_so begin begun refl recorded_begin h.taken h.rest h.middle last (sym e ∙ h.dealt) h.before h.after

only_recording : (out : List ℕ) → TrueLive link live_script out → out ≡ recording_text
only_recording out h =
    let r = h.replayed in
    let same : r.script ≡ drains = told_once live_script r.script drains (is_script r.script r.lawful) (is_script drains live_lawful) r.tells live_tells in
    let run : RunsOver link drains (goes r.end) = subst (λ (s : Script). RunsOver link s (goes r.end)) same r.run in
    let end : r.end ≡ lived = lived_so run.answers r.end (some_same run.answers (None ∷ []) (sym run.took)) run.lived in
    r.printed ∙ ap (λ (s : Script). printed s.header r.end) same ∙ ap (λ (l : Live). printed cluster l) end ∙ sym live_printed

pub drain_isnt : TrueLive link live_script drain_recorded → ⊥
drain_isnt h =
    let e = ap length (only_recording drain_recorded h) in
    absurd (omega (arith, e))

not_drained : (taken rest : List Answer) (middle : LiveRan) → [] ≡ taken ++ rest → IsDrained taken begun middle → ⊥
not_drained [] rest middle e d = let full : 1000000 ≤ 0 = d.0 in absurd (omega (arith, full))
not_drained (a ∷ taken) rest middle e d = absurd cc

not_fed : (taken rest : List Answer) (middle : LiveRan) (last : Live) → [] ≡ taken ++ rest → (taken ≡ []) × (middle ≡ recorded (opened cluster) begin)
    → Follows middle.stopped middle rest (goes last) (IsLived (line.Drain ∷ []) rest middle.live (goes last)) → ⊥
not_fed [] rest middle last e m f =
    let then_so : IsLived (line.Drain ∷ []) rest begun (goes last) = subst (λ (r : LiveRan). Follows r.stopped r rest (goes last) (IsLived (line.Drain ∷ []) rest r.live (goes last))) (m.1 ∙ recorded_begin) f in
    not_drained then_so.taken then_so.rest then_so.middle (e ∙ then_so.dealt) then_so.before
not_fed (a ∷ taken) rest middle last e m f = absurd cc

not_lived : (answers : List Answer) (last : Live) → answers ≡ [] → IsLived (begin ∷ line.Drain ∷ []) answers (opened cluster) (goes last) → ⊥
not_lived answers last e h = not_fed h.taken h.rest h.middle last (sym e ∙ h.dealt) h.before h.after

pub unasked_isnt : TrueLive unasked live_script recording_text → ⊥
unasked_isnt h =
    let r = h.replayed in
    let same : r.script ≡ drains = told_once live_script r.script drains (is_script r.script r.lawful) (is_script drains live_lawful) r.tells live_tells in
    let run : RunsOver unasked drains (goes r.end) = subst (λ (s : Script). RunsOver unasked s (goes r.end)) same r.run in
    not_lived run.answers r.end (some_same run.answers [] (sym run.took)) run.lived

pub unrecorded_isnt : IsScripted cluster unrecorded → ⊥
unfolding lines_on limit_of start happens client_turned new_client
unrecorded_isnt h = let e : 0 ≡ 1 = ap (λ (w : Worlds). w.steps) h.recorded.world in absurd (omega (arith, e))
