-- The live run of a script in which a transaction commits, over a link that hands each packet over once.
use Rattle.std.proofs.Common.{◌≡◌, ℕ, zero, suc, ◌<◌, List, [], ◌∷◌, ◌++◌, length, map, drop, Option, Some, None, refl, sym, ap, ◌∙◌, subst, arith}
use Rattle.std.specs.Prelude.{true, slice_get, slice_index_or}
use Rattle.std.specs.Fmt.{digits}
use Rattle.tg_base.specs.declared.fault.Which.{Which}
use Rattle.tg_model.specs.declared.command.Command.TheVariants as cmd
use Rattle.tg_model.specs.declared.command.Event.TheVariants as event
use Rattle.tg_codec.specs.Reading.{u8_at, u16_at, u32_at, u64_at, raw_at, fixed_at}
use Rattle.tg_codec.specs.Codec.{read_many, spell_many, fit_many}
use Rattle.tg_entry.specs.Reads.{marks, reads}
use Rattle.tg_entry.specs.Writes.{writes}
use Rattle.tg_entry.specs.Checkpoints.{keys, new_fields, old_fields}
use Rattle.tg_entry.specs.Format.{body, entry}
use Rattle.tg_base.specs.Orders.{node_eq}
use Rattle.tg_protocol.specs.Words.{bytes_eq, bytes_lt, part_lt, cell_eq, client_id}
use Rattle.tg_protocol.specs.Layouts.{chain_of, units_of}
use Rattle.tg_protocol.specs.Units.{new_unit, unit_ask, first_missing, on_ask, unit_step}
use Rattle.tg_protocol.specs.LayoutServers.{new_layout}
use Rattle.tg_protocol.specs.Replies.{reply}
use Rattle.tg_protocol.specs.Cells.{work_asks, put_cell, work_feed, cell_feed}
use Rattle.tg_entry.specs.Needs.{needs_decision}
use Rattle.tg_protocol.specs.Entries.{entry_size}
use Rattle.tg_protocol.specs.Pages.{page_of, entry_of}
use Rattle.tg_protocol.specs.Sequencers.{new_seqr, seqr_step}
use Rattle.tg_protocol.specs.Appending.{append_work_asks, append_start, append_feed}
use Rattle.tg_protocol.specs.Views.{verdict}
use Rattle.tg_protocol.specs.Transactions.{read_fault, write_fault, commit_record}
use Rattle.tg_protocol.specs.Clients.{new_client, entries_at, tests, refusal}
use Rattle.tg_protocol.specs.Answers.{appends}
use Rattle.tg_protocol.specs.ClientSteps.{task_asks, client_asks, task_feed, accepts, client_command, client_deliver}
use Rattle.tg_protocol.specs.Sizes.{fields_size}
use Rattle.tg_protocol.specs.Logs.{decided, newest, log_of, entries_of, changes_below, outcome, history_of}
use Rattle.tg_protocol.specs.Worlds.{client, start, latest, log, history, unit_moves, seqr_moves, client_turned, happens, limit_of, drain_on, drain, next_event, ran, unless_stopped}
use Rattle.tg_protocol.specs.Runs.{Moves, Move, Next, Takes, LawfulMove, run, Reaches}
use Rattle.tg_protocol.specs.Headline.{Holds}
use Rattle.tg_trace.specs.Transcripts.{rendered}
use Rattle.tg_any.specs.Anys.{first, spelled, read, touched}
use Rattle.tg_any.specs.AllKinds.{all_kinds}
use Rattle.tg_script.specs.declared.line.Line.{Line}
use Rattle.tg_script.specs.declared.line.Line.TheVariants as line
use Rattle.tg_world.specs.Runs.{happens_on}
use Rattle.tg_replay.proofs.Exact.{told_once}
use Rattle.tg_replay.specs.Runs.{Script, Worlds, Runs, line_on, run_of, IsLine, IsScript, MayCome, front, lines_on, world_of}
use Rattle.tg_replay.specs.Headline.{IsTrueRun}
use Rattle.std.proofs.lemmas.List.{append-nil}
use Rattle.tg_base.specs.declared.ids.NodeId.{NodeId}
use Rattle.tg_base.specs.declared.msg.Msg.TheVariants as msg
use Rattle.tg_base.specs.declared.packet.Packet.{Packet}
use Rattle.tg_io.specs.Acts.{Act, Comes}
use Rattle.tg_io.specs.declared.link.Arrival.{Arrival}
use Rattle.tg_wire.specs.Packets.{packet}
use Rattle.tg_wire.specs.Messages as wire
use Rattle.tg_live.specs.Matching.{matched}
use Rattle.tg_live.specs.Sends.{all_gone, sending, spellings}
use Rattle.tg_live.specs.Lives.{Answer, Live, LiveRan, IsLived, IsDrained, Follows, recorded, recorded_by, after_line, came, came_by, heard, received, opened, goes}
use Rattle.tg_live.specs.Scripts.{IsLiveLine, IsLiveScript, IsRecorded, RunsOver, printed}
use Rattle.tg_live.specs.Scripts as lives
use Rattle.tg_live.specs.Headline.{TrueLive}
use Rattle.tg_law_texts.specs.Texts.{cluster, counter, five, adds, adding_script, deliver, adds_recorded, brings, by_turns, link, busy_link, adding_recording}
use Rattle.tg_law_texts.proofs.Small.{some_same}
use Rattle.tg_law_texts.proofs.Committed.{IsDone, replies, done, noted, record_of, done_holds}
use Rattle.tg_law_texts.proofs.Replays.{header}
use Rattle.tg_law_texts.proofs.Adding.{w3, steps, updates, update_fits, drain_fits, adding_lawful, adding_tells}
use Rattle.tg_law_texts.proofs.Lives.{is_script, fed_so}

-- Worlds.

abbrev v4 : Worlds
v4 = next_event all_kinds w3

abbrev x4 : Worlds
x4 = happens all_kinds v4 (event.Deliver 0)

abbrev v5 : Worlds
v5 = next_event all_kinds x4

abbrev x5 : Worlds
x5 = happens all_kinds v5 (event.Deliver 1)

abbrev v6 : Worlds
v6 = next_event all_kinds x5

abbrev x6 : Worlds
x6 = happens all_kinds v6 (event.Deliver 2)

abbrev v7 : Worlds
v7 = next_event all_kinds x6

abbrev x7 : Worlds
x7 = happens all_kinds v7 (event.Deliver 3)

no_packet : Packet
no_packet = record { from = client_id 0; to = client_id 0; rid = 0; msg = msg.AskLatest }

abbrev nth : ℕ → Packet
nth i = slice_index_or x7.packets i no_packet

record Way : Type 0 where
  limit_0 : limit_of all_kinds (start all_kinds cluster) ≡ None
  limit_3 : limit_of all_kinds w3 ≡ None
  limit_4 : limit_of all_kinds x4 ≡ None
  limit_5 : limit_of all_kinds x5 ≡ None
  limit_6 : limit_of all_kinds x6 ≡ None
  next_3 : limit_of all_kinds v4 ≡ None
  next_4 : limit_of all_kinds v5 ≡ None
  next_5 : limit_of all_kinds v6 ≡ None
  next_6 : limit_of all_kinds v7 ≡ None
  packets : x7.packets ≡ nth 0 ∷ nth 1 ∷ nth 2 ∷ nth 3 ∷ []
  first : matched (spellings w3.packets) [] (nth 0).to (packet.spell (nth 0)) ≡ Some 0
  second : matched (spellings x4.packets) (0 ∷ []) (nth 1).to (packet.spell (nth 1)) ≡ Some 1
  third : matched (spellings x5.packets) (1 ∷ 0 ∷ []) (nth 2).to (packet.spell (nth 2)) ≡ Some 2
  fourth : matched (spellings x6.packets) (2 ∷ 1 ∷ 0 ∷ []) (nth 3).to (packet.spell (nth 3)) ≡ Some 3
  gone_3 : drop (length (start all_kinds cluster).packets) w3.packets ≡ nth 0 ∷ []
  gone_4 : drop (length w3.packets) x4.packets ≡ nth 1 ∷ []
  gone_5 : drop (length x4.packets) x5.packets ≡ nth 2 ∷ []
  gone_6 : drop (length x5.packets) x6.packets ≡ nth 3 ∷ []
  gone_7 : drop (length x6.packets) x7.packets ≡ []

way : Way
unfolding u8_at u16_at u32_at u64_at raw_at fixed_at read_many spell_many fit_many marks reads writes keys new_fields old_fields body entry node_eq bytes_eq bytes_lt part_lt cell_eq chain_of units_of new_unit unit_ask first_missing on_ask unit_step new_layout reply work_asks put_cell work_feed cell_feed entry_size needs_decision page_of entry_of new_seqr seqr_step append_work_asks append_start append_feed verdict read_fault write_fault commit_record new_client entries_at tests refusal appends task_asks client_asks task_feed accepts client_command client_deliver fields_size decided newest log_of entries_of changes_below outcome history_of start latest log history unit_moves seqr_moves client_turned happens limit_of drain_on drain run lines_on first spelled read touched packet wire.message wire.token wire.issued wire.write wire.held
way = record {
  limit_0 = refl;
  limit_3 = refl;
  limit_4 = refl;
  limit_5 = refl;
  limit_6 = refl;
  next_3 = refl;
  next_4 = refl;
  next_5 = refl;
  next_6 = refl;
  packets = refl;
  first = refl;
  second = refl;
  third = refl;
  fourth = refl;
  gone_3 = refl;
  gone_4 = refl;
  gone_5 = refl;
  gone_6 = refl;
  gone_7 = refl;
}

-- Steps of a live run.

-- after a line's steps
abbrev goes_on : Live → Line → Worlds → Live
goes_on l x w = record l { world = w; lines = l.lines ++ x ∷ []; acts = l.acts ++ all_gone (drop (length l.world.packets) w.packets) }

records : (l : Live) (x : Line) (w : Worlds) → limit_of all_kinds l.world ≡ None → line_on l.world x ≡ ran all_kinds w None → recorded l x ≡ goes (goes_on l x w)
unfolding recorded
records l x w h g = ap (λ (o : Option Which). recorded_by o l x) h ∙ ap (λ (r : Runs). after_line l x r) g

arrives : (l : Live) (to : NodeId) (d : List ℕ) (i : ℕ) (w : Worlds) → matched (spellings l.world.packets) l.delivered to d ≡ Some i → limit_of all_kinds l.world ≡ None
    → happens_on all_kinds (next_event all_kinds l.world) (event.Deliver i) ≡ ran all_kinds w None → came l to d ≡ goes (goes_on (record l { delivered = i ∷ l.delivered }) (deliver i) w)
arrives l to d i w m h g = ap (λ (o : Option ℕ). came_by o l) m ∙ records (record l { delivered = i ∷ l.delivered }) (deliver i) w h g

abbrev brought : ℕ → Arrival
brought i = record { to = (nth i).to; datagram = packet.spell (nth i) }

-- after the packet with this number has come
abbrev on : ℕ → Live → Worlds → Live
on i l w = goes_on (record (received l (brought i)) { delivered = i ∷ l.delivered }) (deliver i) w

abbrev l3 : Live
l3 = goes_on (opened cluster) (line.Update 0 counter five) w3

abbrev l4 : Live
l4 = on 0 l3 x4

abbrev l5 : Live
l5 = on 1 l4 x5

abbrev l6 : Live
l6 = on 2 l5 x6

abbrev l7 : Live
l7 = on 3 l6 x7

abbrev l8 : Live
l8 = heard l7 None

updated : recorded (opened cluster) (line.Update 0 counter five) ≡ goes l3
updated = records (opened cluster) (line.Update 0 counter five) w3 way.limit_0 updates

hands_on : (a : Arrival) (rest : List Answer) (l k : Live) (end : LiveRan) → l.received < 1000000 → came (received l a) a.to a.datagram ≡ goes k → IsDrained rest k end → IsDrained (Some a ∷ rest) l end
hands_on a rest l k end few h d = (few, subst (λ (r : LiveRan). Follows r.stopped r rest end (IsDrained rest r.live end)) (sym h) d)

drained : IsDrained (brings (nth 0) ∷ brings (nth 1) ∷ brings (nth 2) ∷ brings (nth 3) ∷ None ∷ []) l3 (goes l8)
drained =
    hands_on (brought 0) (brings (nth 1) ∷ brings (nth 2) ∷ brings (nth 3) ∷ None ∷ []) l3 l4 (goes l8) (omega arith) (arrives (received l3 (brought 0)) (nth 0).to (packet.spell (nth 0)) 0 x4 way.first way.limit_3 (steps v4 (event.Deliver 0) way.next_3))
    (hands_on (brought 1) (brings (nth 2) ∷ brings (nth 3) ∷ None ∷ []) l4 l5 (goes l8) (omega arith) (arrives (received l4 (brought 1)) (nth 1).to (packet.spell (nth 1)) 1 x5 way.second way.limit_4 (steps v5 (event.Deliver 1) way.next_4))
    (hands_on (brought 2) (brings (nth 3) ∷ None ∷ []) l5 l6 (goes l8) (omega arith) (arrives (received l5 (brought 2)) (nth 2).to (packet.spell (nth 2)) 2 x6 way.third way.limit_5 (steps v6 (event.Deliver 2) way.next_5))
    (hands_on (brought 3) (None ∷ []) l6 l7 (goes l8) (omega arith) (arrives (received l6 (brought 3)) (nth 3).to (packet.spell (nth 3)) 3 x7 way.fourth way.limit_6 (steps v7 (event.Deliver 3) way.next_6))
    (omega arith, refl, refl))))

answers : List Answer
answers = map brings x7.packets ++ None ∷ []

lived_over : IsLived adds.events answers (opened cluster) (goes l8)
unfolding answers
lived_over = record {
  taken = [];
  rest = answers;
  dealt = refl;
  middle = goes l3;
  before = (refl, sym updated);
  after = record { taken = answers; rest = []; dealt = sym (append-nil answers); middle = goes l8; before = subst (λ (ps : List Packet). IsDrained (map brings ps ++ None ∷ []) l3 (goes l8)) (sym way.packets) drained; after = (refl, refl) };
}

-- Its recording.

one_after : (l : Line) (ls : List Line) (w v : Worlds) → line_on w l ≡ ran all_kinds v None → lines_on (l ∷ ls) w ≡ lines_on ls v
unfolding lines_on
one_after l ls w v h = ap (λ (r : Runs). unless_stopped all_kinds r (λ u. lines_on ls u)) h

runs_so : run_of adds_recorded ≡ ran all_kinds x7 None
unfolding lines_on
runs_so =
    one_after (line.Update 0 counter five) (deliver 0 ∷ deliver 1 ∷ deliver 2 ∷ deliver 3 ∷ []) (start all_kinds cluster) w3 updates
    ∙ one_after (deliver 0) (deliver 1 ∷ deliver 2 ∷ deliver 3 ∷ []) w3 x4 (steps v4 (event.Deliver 0) way.next_3)
    ∙ one_after (deliver 1) (deliver 2 ∷ deliver 3 ∷ []) x4 x5 (steps v5 (event.Deliver 1) way.next_4)
    ∙ one_after (deliver 2) (deliver 3 ∷ []) x5 x6 (steps v6 (event.Deliver 2) way.next_5)
    ∙ one_after (deliver 3) [] x6 x7 (steps v7 (event.Deliver 3) way.next_6)

world_is : world_of adds_recorded ≡ x7
world_is = ap (λ (r : Runs). r.world) runs_so

fits_0 : IsLine cluster (deliver 0)
unfolding digits
fits_0 = record { fits = refl; short = omega arith }

fits_1 : IsLine cluster (deliver 1)
unfolding digits
fits_1 = record { fits = refl; short = omega arith }

fits_2 : IsLine cluster (deliver 2)
unfolding digits
fits_2 = record { fits = refl; short = omega arith }

fits_3 : IsLine cluster (deliver 3)
unfolding digits
fits_3 = record { fits = refl; short = omega arith }

each_line : (k : ℕ) (l : Line) → slice_get adds_recorded.events k ≡ Some l → IsLine cluster l
each_line zero l e = subst (IsLine cluster) (some_same (line.Update 0 counter five) l e) update_fits
each_line (suc zero) l e = subst (IsLine cluster) (some_same (deliver 0) l e) fits_0
each_line (suc (suc zero)) l e = subst (IsLine cluster) (some_same (deliver 1) l e) fits_1
each_line (suc (suc (suc zero))) l e = subst (IsLine cluster) (some_same (deliver 2) l e) fits_2
each_line (suc (suc (suc (suc zero)))) l e = subst (IsLine cluster) (some_same (deliver 3) l e) fits_3
each_line (suc (suc (suc (suc (suc k))))) l e = absurd cc

none_left : (w : Worlds) → lines_on [] w ≡ ran all_kinds w None
unfolding lines_on
none_left w = refl

front_1 : world_of (front 1 adds_recorded) ≡ w3
front_1 = ap (λ (r : Runs). r.world) (one_after (line.Update 0 counter five) [] (start all_kinds cluster) w3 updates ∙ none_left w3)

front_2 : world_of (front 2 adds_recorded) ≡ x4
front_2 = ap (λ (r : Runs). r.world) (one_after (line.Update 0 counter five) (deliver 0 ∷ []) (start all_kinds cluster) w3 updates ∙ one_after (deliver 0) [] w3 x4 (steps v4 (event.Deliver 0) way.next_3) ∙ none_left x4)

front_3 : world_of (front 3 adds_recorded) ≡ x5
front_3 = ap (λ (r : Runs). r.world) (one_after (line.Update 0 counter five) (deliver 0 ∷ deliver 1 ∷ []) (start all_kinds cluster) w3 updates ∙ one_after (deliver 0) (deliver 1 ∷ []) w3 x4 (steps v4 (event.Deliver 0) way.next_3)
    ∙ one_after (deliver 1) [] x4 x5 (steps v5 (event.Deliver 1) way.next_4) ∙ none_left x5)

front_4 : world_of (front 4 adds_recorded) ≡ x6
front_4 = ap (λ (r : Runs). r.world) (one_after (line.Update 0 counter five) (deliver 0 ∷ deliver 1 ∷ deliver 2 ∷ []) (start all_kinds cluster) w3 updates ∙ one_after (deliver 0) (deliver 1 ∷ deliver 2 ∷ []) w3 x4 (steps v4 (event.Deliver 0) way.next_3)
    ∙ one_after (deliver 1) (deliver 2 ∷ []) x4 x5 (steps v5 (event.Deliver 1) way.next_4) ∙ one_after (deliver 2) [] x5 x6 (steps v6 (event.Deliver 2) way.next_5) ∙ none_left x6)

record Counts : Type 0 where
  one : length w3.packets ≡ 1
  two : length x4.packets ≡ 2
  three : length x5.packets ≡ 3
  four : length x6.packets ≡ 4

counts : Counts
unfolding u8_at u16_at u32_at u64_at raw_at fixed_at read_many spell_many fit_many marks reads writes keys new_fields old_fields body entry node_eq bytes_eq bytes_lt part_lt cell_eq chain_of units_of new_unit unit_ask first_missing on_ask unit_step new_layout reply work_asks put_cell work_feed cell_feed entry_size needs_decision page_of entry_of new_seqr seqr_step append_work_asks append_start append_feed verdict read_fault write_fault commit_record new_client entries_at tests refusal appends task_asks client_asks task_feed accepts client_command client_deliver fields_size decided newest log_of entries_of changes_below outcome history_of start latest log history unit_moves seqr_moves client_turned happens limit_of drain_on drain run lines_on first spelled read touched
counts = record { one = refl; two = refl; three = refl; four = refl }

was_sent : (i n : ℕ) (w v : Worlds) (l : Line) → deliver i ≡ l → w ≡ v → length v.packets ≡ n → i < n → MayCome w l
was_sent i n w v l e f g less = subst (MayCome w) e (subst (λ (w : Worlds). i < length w.packets) (sym f) (subst (λ (n : ℕ). i < n) (sym g) less))

comes : (k : ℕ) (l : Line) → slice_get adds_recorded.events k ≡ Some l → MayCome (world_of (front k adds_recorded)) l
comes zero l e = subst (MayCome (world_of (front zero adds_recorded))) (some_same (line.Update 0 counter five) l e) tt
comes (suc zero) l e = was_sent 0 1 (world_of (front 1 adds_recorded)) w3 l (some_same (deliver 0) l e) front_1 counts.one (omega arith)
comes (suc (suc zero)) l e = was_sent 1 2 (world_of (front 2 adds_recorded)) x4 l (some_same (deliver 1) l e) front_2 counts.two (omega arith)
comes (suc (suc (suc zero))) l e = was_sent 2 3 (world_of (front 3 adds_recorded)) x5 l (some_same (deliver 2) l e) front_3 counts.three (omega arith)
comes (suc (suc (suc (suc zero)))) l e = was_sent 3 4 (world_of (front 4 adds_recorded)) x6 l (some_same (deliver 3) l e) front_4 counts.four (omega arith)
comes (suc (suc (suc (suc (suc k))))) l e = absurd cc

lawful_recorded : IsScript adds_recorded
lawful_recorded = record { header = header; each = each_line; comes = comes }

recorded_so : IsRecorded cluster l8
recorded_so = record { script = lawful_recorded; world = world_is; within = ap (λ (r : Runs). r.stopped) runs_so }

live_each : (P : Line → Type 0) → P (line.Update 0 counter five) → P line.Drain → (k : ℕ) (l : Line) → slice_get adds.events k ≡ Some l → P l
live_each P h g zero l e = subst P (some_same (line.Update 0 counter five) l e) h
live_each P h g (suc zero) l e = subst P (some_same line.Drain l e) g
live_each P h g (suc (suc k)) l e = absurd cc

live_lawful : IsLiveScript adds
live_lawful = record { header = header; each = λ k l e. live_each (IsLiveLine cluster) (record { line = update_fits; free = refl }) (record { line = drain_fits; free = refl }) k l e }

-- what was done with the link, by what each step has sent
abbrev acts_by : List Packet → List Packet → List Packet → List Packet → List Packet → List Act
acts_by a b c d e = (((((((((all_gone a ++ Comes (Some (brought 0)) ∷ []) ++ all_gone b) ++ Comes (Some (brought 1)) ∷ []) ++ all_gone c) ++ Comes (Some (brought 2)) ∷ []) ++ all_gone d) ++ Comes (Some (brought 3)) ∷ []) ++ all_gone e) ++ Comes None ∷ [])

done_so : l8.acts ≡ by_turns x7.packets
done_so = (λ i. acts_by (way.gone_3 i) (way.gone_4 i) (way.gone_5 i) (way.gone_6 i) (way.gone_7 i)) ∙ ap by_turns (sym way.packets)

runs_over : RunsOver busy_link adds (goes l8)
unfolding answers
runs_over = record {
  answers = map brings (world_of adds_recorded).packets ++ None ∷ [];
  lived = subst (λ (w : Worlds). IsLived adds.events (map brings w.packets ++ None ∷ []) (opened cluster) (goes l8)) (sym world_is) lived_over;
  took = refl;
  sends = ap (λ (w : Worlds). Some (map sending w.packets)) world_is;
  acts = ap (λ (w : Worlds). Some (by_turns w.packets)) world_is ∙ ap Some (sym done_so);
}

live_printed : adding_recording ≡ printed cluster l7
unfolding u8_at u16_at u32_at u64_at raw_at fixed_at read_many spell_many fit_many marks reads writes keys new_fields old_fields body entry node_eq bytes_eq bytes_lt part_lt cell_eq chain_of units_of new_unit unit_ask first_missing on_ask unit_step new_layout reply work_asks put_cell work_feed cell_feed entry_size needs_decision page_of entry_of new_seqr seqr_step append_work_asks append_start append_feed verdict read_fault write_fault commit_record new_client entries_at tests refusal appends task_asks client_asks task_feed accepts client_command client_deliver fields_size decided newest log_of entries_of changes_below outcome history_of start latest log history unit_moves seqr_moves client_turned happens limit_of drain_on drain run lines_on first spelled read touched rendered digits
live_printed = refl

live_replayed : lives.Replayed busy_link adding_script adding_recording
live_replayed = record { script = adds; lawful = live_lawful; tells = adding_tells; end = l8; run = runs_over; recorded = recorded_so; printed = live_printed }

-- Its run.

abbrev moves : Moves all_kinds
moves = Next ∷ Takes (event.Command 0 cmd.Begin) ∷ Takes (event.Command 0 (cmd.Put counter five)) ∷ Takes (event.Command 0 cmd.End)
    ∷ Next ∷ Takes (event.Deliver 0) ∷ Next ∷ Takes (event.Deliver 1) ∷ Next ∷ Takes (event.Deliver 2) ∷ Next ∷ Takes (event.Deliver 3) ∷ []

is_run : x7 ≡ run all_kinds moves (start all_kinds cluster)
unfolding run
is_run = refl

abbrev AreLawful : Moves all_kinds → Type 0
AreLawful [] = Unit {0}
AreLawful (x ∷ xs) = LawfulMove all_kinds cluster x × AreLawful xs

is_lawful : (xs : Moves all_kinds) → AreLawful xs → (x : Move all_kinds) (k : ℕ) → k < length xs → slice_index_or xs k x ≡ x → LawfulMove all_kinds cluster x
is_lawful [] h x k less e = absurd (omega (arith, less))
is_lawful (y ∷ xs) h x zero less e = subst (LawfulMove all_kinds cluster) e h.0
is_lawful (y ∷ xs) h x (suc k) less e = is_lawful xs h.1 x k (omega (arith, less)) e

are_lawful : AreLawful moves
unfolding u8_at u16_at u32_at u64_at raw_at fixed_at read_many spell_many fit_many marks reads writes keys new_fields old_fields body entry node_eq bytes_eq bytes_lt part_lt cell_eq chain_of units_of new_unit unit_ask first_missing on_ask unit_step new_layout reply work_asks put_cell work_feed cell_feed entry_size needs_decision page_of entry_of new_seqr seqr_step append_work_asks append_start append_feed verdict read_fault write_fault commit_record new_client entries_at tests refusal appends task_asks client_asks task_feed accepts client_command client_deliver fields_size decided newest log_of entries_of changes_below outcome history_of start latest log history unit_moves seqr_moves client_turned happens limit_of drain_on drain run lines_on first spelled read touched
are_lawful = (tt, ((omega arith, tt), ((omega arith, (refl, λ allowed short. record { read = refl; fits = refl })), ((omega arith, tt), (tt, (tt, (tt, (tt, (tt, (tt, (tt, (tt, tt))))))))))))

seven_steps : x7.steps ≡ 7
unfolding u8_at u16_at u32_at u64_at raw_at fixed_at read_many spell_many fit_many marks reads writes keys new_fields old_fields body entry node_eq bytes_eq bytes_lt part_lt cell_eq chain_of units_of new_unit unit_ask first_missing on_ask unit_step new_layout reply work_asks put_cell work_feed cell_feed entry_size needs_decision page_of entry_of new_seqr seqr_step append_work_asks append_start append_feed verdict read_fault write_fault commit_record new_client entries_at tests refusal appends task_asks client_asks task_feed accepts client_command client_deliver fields_size decided newest log_of entries_of changes_below outcome history_of start latest log history unit_moves seqr_moves client_turned happens limit_of drain_on drain run lines_on first spelled read touched
seven_steps = refl

reaches : Reaches all_kinds cluster moves x7
unfolding start
reaches = record { header = header; goes = record { lawful = λ x c. is_lawful moves are_lawful x c.0 c.1 c.2; is = is_run; few = omega (arith, seven_steps) } }

told_is : x7.told ≡ map (noted all_kinds counter five 5) (replies all_kinds counter five 5)
unfolding u8_at u16_at u32_at u64_at raw_at fixed_at read_many spell_many fit_many marks reads writes keys new_fields old_fields body entry node_eq bytes_eq bytes_lt part_lt cell_eq chain_of units_of new_unit unit_ask first_missing on_ask unit_step new_layout reply work_asks put_cell work_feed cell_feed entry_size needs_decision page_of entry_of new_seqr seqr_step append_work_asks append_start append_feed verdict read_fault write_fault commit_record new_client entries_at tests refusal appends task_asks client_asks task_feed accepts client_command client_deliver fields_size decided newest log_of entries_of changes_below outcome history_of start latest log history unit_moves seqr_moves client_turned happens limit_of drain_on drain run lines_on first spelled read touched
told_is = refl

history_is : history all_kinds x7 ≡ done all_kinds counter five 5 ∷ []
unfolding u8_at u16_at u32_at u64_at raw_at fixed_at read_many spell_many fit_many marks reads writes keys new_fields old_fields body entry node_eq bytes_eq bytes_lt part_lt cell_eq chain_of units_of new_unit unit_ask first_missing on_ask unit_step new_layout reply work_asks put_cell work_feed cell_feed entry_size needs_decision page_of entry_of new_seqr seqr_step append_work_asks append_start append_feed verdict read_fault write_fault commit_record new_client entries_at tests refusal appends task_asks client_asks task_feed accepts client_command client_deliver fields_size decided newest log_of entries_of changes_below outcome history_of start latest log history unit_moves seqr_moves client_turned happens limit_of drain_on drain run lines_on first spelled read touched
history_is = refl

entries_are : entries_of (log all_kinds x7) ≡ (0, record_of all_kinds counter five 5 (spelled five)) ∷ []
unfolding u8_at u16_at u32_at u64_at raw_at fixed_at read_many spell_many fit_many marks reads writes keys new_fields old_fields body entry node_eq bytes_eq bytes_lt part_lt cell_eq chain_of units_of new_unit unit_ask first_missing on_ask unit_step new_layout reply work_asks put_cell work_feed cell_feed entry_size needs_decision page_of entry_of new_seqr seqr_step append_work_asks append_start append_feed verdict read_fault write_fault commit_record new_client entries_at tests refusal appends task_asks client_asks task_feed accepts client_command client_deliver fields_size decided newest log_of entries_of changes_below outcome history_of start latest log history unit_moves seqr_moves client_turned happens limit_of drain_on drain run lines_on first spelled read touched
entries_are = refl

commits : outcome all_kinds (log all_kinds x7) 0 ≡ true
unfolding u8_at u16_at u32_at u64_at raw_at fixed_at read_many spell_many fit_many marks reads writes keys new_fields old_fields body entry node_eq bytes_eq bytes_lt part_lt cell_eq chain_of units_of new_unit unit_ask first_missing on_ask unit_step new_layout reply work_asks put_cell work_feed cell_feed entry_size needs_decision page_of entry_of new_seqr seqr_step append_work_asks append_start append_feed verdict read_fault write_fault commit_record new_client entries_at tests refusal appends task_asks client_asks task_feed accepts client_command client_deliver fields_size decided newest log_of entries_of changes_below outcome history_of start latest log history unit_moves seqr_moves client_turned happens limit_of drain_on drain run lines_on first spelled read touched
commits = refl

no_view : (k : ℕ) → (client all_kinds x7 k).view ≡ None
unfolding u8_at u16_at u32_at u64_at raw_at fixed_at read_many spell_many fit_many marks reads writes keys new_fields old_fields body entry node_eq bytes_eq bytes_lt part_lt cell_eq chain_of units_of new_unit unit_ask first_missing on_ask unit_step new_layout reply work_asks put_cell work_feed cell_feed entry_size needs_decision page_of entry_of new_seqr seqr_step append_work_asks append_start append_feed verdict read_fault write_fault commit_record new_client entries_at tests refusal appends task_asks client_asks task_feed accepts client_command client_deliver fields_size decided newest log_of entries_of changes_below outcome history_of start latest log history unit_moves seqr_moves client_turned happens limit_of drain_on drain run lines_on first spelled read touched
no_view zero = refl
no_view (suc k) = refl

is_done : IsDone all_kinds counter five 5 x7
is_done = record { bytes = spelled five; told = told_is; history = history_is; entries = entries_are; outcome = commits; views = no_view }

true_recorded : IsTrueRun adds_recorded
true_recorded = record {
  reached = record { moves = moves; reaches = subst (Reaches all_kinds cluster moves) (sym world_is) reaches };
  holds = subst (Holds all_kinds) (sym world_is) (done_holds all_kinds counter five 5 x7 is_done);
}

pub true_live_adding : TrueLive busy_link adding_script adding_recording
unfolding live_replayed
true_live_adding = record { replayed = live_replayed; script = lawful_recorded; true_run = true_recorded }

-- Over a link that hands nothing over it isn't that recording.

unhanded : length (printed cluster l3) ≡ 177
unfolding u8_at u16_at u32_at u64_at raw_at fixed_at read_many spell_many fit_many marks reads writes keys new_fields old_fields body entry node_eq bytes_eq bytes_lt part_lt cell_eq chain_of units_of new_unit unit_ask first_missing on_ask unit_step new_layout reply work_asks put_cell work_feed cell_feed entry_size needs_decision page_of entry_of new_seqr seqr_step append_work_asks append_start append_feed verdict read_fault write_fault commit_record new_client entries_at tests refusal appends task_asks client_asks task_feed accepts client_command client_deliver fields_size decided newest log_of entries_of changes_below outcome history_of start latest log history unit_moves seqr_moves client_turned happens limit_of drain_on drain run lines_on first spelled read touched rendered digits
unhanded = refl

pub unhanded_isnt : TrueLive link adding_script adding_recording → ⊥
unhanded_isnt h =
    let r = h.replayed in
    let same : r.script ≡ adds = told_once adding_script r.script adds (is_script r.script r.lawful) adding_lawful r.tells adding_tells in
    let run : RunsOver link adds (goes r.end) = subst (λ (s : Script). RunsOver link s (goes r.end)) same r.run in
    let handed : run.answers ≡ None ∷ [] = some_same run.answers (None ∷ []) (sym run.took) in
    let end : r.end ≡ heard l3 None = fed_so (line.Update 0 counter five) l3 refl updated run.lived.taken run.lived.rest run.lived.middle r.end (sym handed ∙ run.lived.dealt) run.lived.before run.lived.after in
    let e : 254 ≡ length (printed cluster l3) = ap length (r.printed ∙ ap (λ (s : Script). printed s.header r.end) same ∙ ap (λ (l : Live). printed cluster l) end) in
    absurd (omega (arith, e, unhanded))
