-- The replay of a script in which a transaction commits.
use Rattle.std.proofs.Common.{◌≡◌, ℕ, zero, suc, ◌<◌, ◌-◌, [], ◌∷◌, map, Option, Some, None, refl, sym, ap, ◌∙◌, subst, arith}
use Rattle.std.specs.Prelude.{true, slice_get, slice_index_or, Contains}
use Rattle.std.specs.Fmt.{digits}
use Rattle.tg_base.specs.declared.fault.Which.{Which}
use Rattle.tg_model.specs.Kinds.{EventOf}
use Rattle.tg_model.specs.declared.command.Command.TheVariants as cmd
use Rattle.tg_model.specs.declared.command.Event.TheVariants as event
use Rattle.tg_codec.specs.Reading.{u8_at, u16_at, u32_at, u64_at, raw_at, fixed_at}
use Rattle.tg_codec.specs.Codec.{read_many, spell_many, fit_many}
use Rattle.tg_entry.specs.Reads.{marks, reads}
use Rattle.tg_entry.specs.Writes.{writes}
use Rattle.tg_entry.specs.Checkpoints.{keys, new_fields, old_fields}
use Rattle.tg_entry.specs.Format.{body, entry}
use Rattle.tg_base.specs.Orders.{node_eq}
use Rattle.tg_protocol.specs.Words.{bytes_eq, bytes_lt, part_lt, cell_eq}
use Rattle.tg_protocol.specs.Layouts.{chain_of, units_of}
use Rattle.tg_protocol.specs.Units.{new_unit, unit_ask, first_missing, on_ask, unit_step}
use Rattle.tg_protocol.specs.LayoutServers.{new_layout}
use Rattle.tg_protocol.specs.Replies.{reply}
use Rattle.tg_protocol.specs.Cells.{work_asks, put_cell, work_feed, cell_feed}
use Rattle.tg_entry.specs.Needs.{needs_decision}
use Rattle.tg_protocol.specs.Entries.{entry_size}
use Rattle.tg_protocol.specs.Pages.{page_of, entry_of}
use Rattle.tg_protocol.specs.Sequencers.{new_seqr, seqr_step}
use Rattle.tg_protocol.specs.Appending.{append_work_asks, append_start, append_feed}
use Rattle.tg_protocol.specs.Views.{verdict}
use Rattle.tg_protocol.specs.Transactions.{read_fault, write_fault, commit_record}
use Rattle.tg_protocol.specs.Clients.{new_client, entries_at, tests, refusal}
use Rattle.tg_protocol.specs.Answers.{appends}
use Rattle.tg_protocol.specs.ClientSteps.{task_asks, client_asks, task_feed, accepts, client_command, client_deliver}
use Rattle.tg_protocol.specs.Sizes.{fields_size}
use Rattle.tg_protocol.specs.Logs.{decided, newest, log_of, entries_of, changes_below, outcome, history_of}
use Rattle.tg_protocol.specs.Worlds.{client, start, latest, log, history, unit_moves, seqr_moves, client_turned, happens, limit_of, drain_on, drain, next_event, lowest, ran, unless_stopped}
use Rattle.tg_protocol.specs.Runs.{Moves, Move, Next, Takes, LawfulMove, run, Reaches}
use Rattle.tg_protocol.specs.Headline.{Holds}
use Rattle.tg_trace.specs.Transcripts.{rendered}
use Rattle.tg_any.specs.Anys.{first, spelled, read, touched}
use Rattle.tg_any.specs.AllKinds.{all_kinds}
use Rattle.tg_script.specs.declared.line.Line.{Line}
use Rattle.tg_script.specs.declared.line.Line.TheVariants as line
use Rattle.tg_world.specs.Runs.{happens_by, happens_on, puts_on, updates_on}
use Rattle.tg_replay.specs.Runs.{Worlds, Runs, run_of, IsLine, IsScript, IsWithin, Tells, MayCome, Replayed, front, lines_on, world_of}
use Rattle.tg_replay.specs.Runs as replays
use Rattle.tg_replay.specs.Headline.{IsReached, IsTrueRun, TrueReplay}
use Rattle.tg_law_texts.specs.Texts.{cluster, counter, five, adds, adding_script, adding_transcript}
use Rattle.tg_law_texts.proofs.Small.{some_same}
use Rattle.tg_law_texts.proofs.Committed.{IsDone, replies, done, noted, record_of, done_holds}
use Rattle.tg_law_texts.proofs.Replays.{header}

-- The script.

each : (P : Line → Type 0) → P (line.Update 0 counter five) → P line.Drain → (k : ℕ) (l : Line) → slice_get adds.events k ≡ Some l → P l
each P h g zero l e = subst P (some_same (line.Update 0 counter five) l e) h
each P h g (suc zero) l e = subst P (some_same line.Drain l e) g
each P h g (suc (suc k)) l e = absurd cc

pub update_fits : IsLine cluster (line.Update 0 counter five)
unfolding digits
update_fits = record { fits = refl; short = omega arith }

pub drain_fits : IsLine cluster line.Drain
drain_fits = record { fits = refl; short = omega arith }

comes : (k : ℕ) (l : Line) → slice_get adds.events k ≡ Some l → MayCome (world_of (front k adds)) l
comes k l e = each (MayCome (world_of (front k adds))) tt tt k l e

pub adding_lawful : IsScript adds
adding_lawful = record { header = header; each = λ k l e. each (IsLine cluster) update_fits drain_fits k l e; comes = comes }

pub adding_tells : Tells adding_script adds
unfolding digits
adding_tells = refl

-- Its run.

abbrev pub moves : Moves all_kinds
moves = Next ∷ Takes (event.Command 0 cmd.Begin) ∷ Takes (event.Command 0 (cmd.Put counter five)) ∷ Takes (event.Command 0 cmd.End)
    ∷ Next ∷ Takes (event.Deliver 0) ∷ Takes (event.Deliver 1) ∷ Takes (event.Deliver 2) ∷ Takes (event.Deliver 3) ∷ []

abbrev pub w0 : Worlds
w0 = next_event all_kinds (start all_kinds cluster)

abbrev pub w1 : Worlds
w1 = happens all_kinds w0 (event.Command 0 cmd.Begin)

abbrev pub w2 : Worlds
w2 = happens all_kinds w1 (event.Command 0 (cmd.Put counter five))

abbrev pub w3 : Worlds
w3 = happens all_kinds w2 (event.Command 0 cmd.End)

abbrev w4 : Worlds
w4 = next_event all_kinds w3

abbrev w5 : Worlds
w5 = happens all_kinds w4 (event.Deliver 0)

abbrev w6 : Worlds
w6 = happens all_kinds w5 (event.Deliver 1)

abbrev w7 : Worlds
w7 = happens all_kinds w6 (event.Deliver 2)

abbrev pub added : Worlds
added = happens all_kinds w7 (event.Deliver 3)

-- where no limit is reached a step is made
pub steps : (w : Worlds) (e : EventOf all_kinds) → limit_of all_kinds w ≡ None → happens_on all_kinds w e ≡ ran all_kinds (happens all_kinds w e) None
steps w e h = ap (λ (o : Option Which). happens_by all_kinds o w e) h

goes_on : (r : Runs) (w : Worlds) (f : Worlds → Runs) → r ≡ ran all_kinds w None → unless_stopped all_kinds r f ≡ f w
goes_on r w f h = ap (λ (r : Runs). unless_stopped all_kinds r f) h

delivers : (n i : ℕ) (w : Worlds) → lowest all_kinds w.waiting ≡ Some i → limit_of all_kinds w ≡ None → drain_on all_kinds (suc n) w ≡ drain_on all_kinds n (happens all_kinds w (event.Deliver i))
unfolding drain_on
delivers n i w waits h =
    ap (λ (o : Option ℕ). elim o as (λ _. Runs) [
      | None ↦ ran all_kinds w None
      | Some i ↦ elim (limit_of all_kinds w) as (λ _. Runs) [
        | Some x ↦ ran all_kinds w (Some x)
        | None ↦ drain_on all_kinds n (happens all_kinds w (event.Deliver i))
      ]
    ]) waits
    ∙ ap (λ (o : Option Which). elim o as (λ _. Runs) [
      | Some x ↦ ran all_kinds w (Some x)
      | None ↦ drain_on all_kinds n (happens all_kinds w (event.Deliver i))
    ]) h

drained : (n : ℕ) (w : Worlds) → lowest all_kinds w.waiting ≡ None → drain_on all_kinds (suc n) w ≡ ran all_kinds w None
unfolding drain_on
drained n w waits =
    ap (λ (o : Option ℕ). elim o as (λ _. Runs) [
      | None ↦ ran all_kinds w None
      | Some i ↦ elim (limit_of all_kinds w) as (λ _. Runs) [
        | Some x ↦ ran all_kinds w (Some x)
        | None ↦ drain_on all_kinds n (happens all_kinds w (event.Deliver i))
      ]
    ]) waits

-- what is computed of the worlds on the way
record Way : Type 0 where
  limit_0 : limit_of all_kinds w0 ≡ None
  limit_1 : limit_of all_kinds w1 ≡ None
  limit_2 : limit_of all_kinds w2 ≡ None
  limit_4 : limit_of all_kinds w4 ≡ None
  limit_5 : limit_of all_kinds w5 ≡ None
  limit_6 : limit_of all_kinds w6 ≡ None
  limit_7 : limit_of all_kinds w7 ≡ None
  three_steps : w4.steps ≡ 3
  first : lowest all_kinds w4.waiting ≡ Some 0
  second : lowest all_kinds w5.waiting ≡ Some 1
  third : lowest all_kinds w6.waiting ≡ Some 2
  fourth : lowest all_kinds w7.waiting ≡ Some 3
  none_waits : lowest all_kinds added.waiting ≡ None

way : Way
unfolding u8_at u16_at u32_at u64_at raw_at fixed_at read_many spell_many fit_many marks reads writes keys new_fields old_fields body entry node_eq bytes_eq bytes_lt part_lt cell_eq chain_of units_of new_unit unit_ask first_missing on_ask unit_step new_layout reply work_asks put_cell work_feed cell_feed entry_size needs_decision page_of entry_of new_seqr seqr_step append_work_asks append_start append_feed verdict read_fault write_fault commit_record new_client entries_at tests refusal appends task_asks client_asks task_feed accepts client_command client_deliver fields_size decided newest log_of entries_of changes_below outcome history_of start latest log history unit_moves seqr_moves client_turned happens limit_of drain_on drain run lines_on first spelled read touched
way = record {
  limit_0 = refl;
  limit_1 = refl;
  limit_2 = refl;
  limit_4 = refl;
  limit_5 = refl;
  limit_6 = refl;
  limit_7 = refl;
  three_steps = refl;
  first = refl;
  second = refl;
  third = refl;
  fourth = refl;
  none_waits = refl;
}

pub updates : updates_on all_kinds w0 0 counter five ≡ ran all_kinds w3 None
updates =
    goes_on (happens_on all_kinds w0 (event.Command 0 cmd.Begin)) w1 (λ v. puts_on all_kinds v 0 counter five) (steps w0 (event.Command 0 cmd.Begin) way.limit_0)
    ∙ goes_on (happens_on all_kinds w1 (event.Command 0 (cmd.Put counter five))) w2 (λ v. happens_on all_kinds v (event.Command 0 cmd.End)) (steps w1 (event.Command 0 (cmd.Put counter five)) way.limit_1)
    ∙ steps w2 (event.Command 0 cmd.End) way.limit_2

drains : drain all_kinds w4 ≡ ran all_kinds added None
unfolding drain
drains =
    ap (λ (n : ℕ). drain_on all_kinds (200001 - n) w4) way.three_steps
    ∙ delivers 199997 0 w4 way.first way.limit_4
    ∙ delivers 199996 1 w5 way.second way.limit_5
    ∙ delivers 199995 2 w6 way.third way.limit_6
    ∙ delivers 199994 3 w7 way.fourth way.limit_7
    ∙ drained 199993 added way.none_waits

runs_so : run_of adds ≡ ran all_kinds added None
unfolding lines_on
runs_so =
    goes_on (updates_on all_kinds w0 0 counter five) w3 (λ v. lines_on (line.Drain ∷ []) v) updates
    ∙ goes_on (drain all_kinds w4) added (λ v. lines_on [] v) drains

adding_within : IsWithin adds
adding_within = ap (λ (r : Runs). r.stopped) runs_so

pub added_is : world_of adds ≡ added
added_is = ap (λ (r : Runs). r.world) runs_so

is_run : added ≡ run all_kinds moves (start all_kinds cluster)
unfolding run
is_run = refl

pub adding_printed : adding_transcript ≡ replays.transcript cluster added
unfolding u8_at u16_at u32_at u64_at raw_at fixed_at read_many spell_many fit_many marks reads writes keys new_fields old_fields body entry node_eq bytes_eq bytes_lt part_lt cell_eq chain_of units_of new_unit unit_ask first_missing on_ask unit_step new_layout reply work_asks put_cell work_feed cell_feed entry_size needs_decision page_of entry_of new_seqr seqr_step append_work_asks append_start append_feed verdict read_fault write_fault commit_record new_client entries_at tests refusal appends task_asks client_asks task_feed accepts client_command client_deliver fields_size decided newest log_of entries_of changes_below outcome history_of start latest log history unit_moves seqr_moves client_turned happens limit_of drain_on drain run lines_on first spelled read touched rendered digits
adding_printed = refl

lawful_moves : (x : Move all_kinds) → Contains moves x → LawfulMove all_kinds cluster x
unfolding digits u8_at u16_at u32_at u64_at raw_at fixed_at read_many spell_many fit_many marks reads writes keys new_fields old_fields body entry node_eq bytes_eq bytes_lt part_lt cell_eq chain_of units_of new_unit unit_ask first_missing on_ask unit_step new_layout reply work_asks put_cell work_feed cell_feed entry_size needs_decision page_of entry_of new_seqr seqr_step append_work_asks append_start append_feed verdict read_fault write_fault commit_record new_client entries_at tests refusal appends task_asks client_asks task_feed accepts client_command client_deliver fields_size decided newest log_of entries_of changes_below outcome history_of start latest log history unit_moves seqr_moves client_turned happens limit_of drain_on drain run lines_on first spelled read touched
lawful_moves x (k, less, e) = by k less e
  where
    by : (k : ℕ) → k < 9 → slice_index_or moves k x ≡ x → LawfulMove all_kinds cluster x
    by zero less e = subst (LawfulMove all_kinds cluster) e tt
    by (suc zero) less e = subst (LawfulMove all_kinds cluster) e (omega arith, tt)
    by (suc (suc zero)) less e = subst (LawfulMove all_kinds cluster) e (omega arith, (refl, λ allowed short. record { read = refl; fits = refl }))
    by (suc (suc (suc zero))) less e = subst (LawfulMove all_kinds cluster) e (omega arith, tt)
    by (suc (suc (suc (suc zero)))) less e = subst (LawfulMove all_kinds cluster) e tt
    by (suc (suc (suc (suc (suc zero))))) less e = subst (LawfulMove all_kinds cluster) e tt
    by (suc (suc (suc (suc (suc (suc zero)))))) less e = subst (LawfulMove all_kinds cluster) e tt
    by (suc (suc (suc (suc (suc (suc (suc zero))))))) less e = subst (LawfulMove all_kinds cluster) e tt
    by (suc (suc (suc (suc (suc (suc (suc (suc zero)))))))) less e = subst (LawfulMove all_kinds cluster) e tt
    by (suc (suc (suc (suc (suc (suc (suc (suc (suc k))))))))) less e = absurd (omega (arith, less))

seven_steps : added.steps ≡ 7
unfolding u8_at u16_at u32_at u64_at raw_at fixed_at read_many spell_many fit_many marks reads writes keys new_fields old_fields body entry node_eq bytes_eq bytes_lt part_lt cell_eq chain_of units_of new_unit unit_ask first_missing on_ask unit_step new_layout reply work_asks put_cell work_feed cell_feed entry_size needs_decision page_of entry_of new_seqr seqr_step append_work_asks append_start append_feed verdict read_fault write_fault commit_record new_client entries_at tests refusal appends task_asks client_asks task_feed accepts client_command client_deliver fields_size decided newest log_of entries_of changes_below outcome history_of start latest log history unit_moves seqr_moves client_turned happens limit_of drain_on drain run lines_on first spelled read touched
seven_steps = refl

reaches : Reaches all_kinds cluster moves added
unfolding start
reaches = record { header = header; goes = record { lawful = lawful_moves; is = is_run; few = omega (arith, seven_steps) } }

told_is : added.told ≡ map (noted all_kinds counter five 2) (replies all_kinds counter five 2)
unfolding u8_at u16_at u32_at u64_at raw_at fixed_at read_many spell_many fit_many marks reads writes keys new_fields old_fields body entry node_eq bytes_eq bytes_lt part_lt cell_eq chain_of units_of new_unit unit_ask first_missing on_ask unit_step new_layout reply work_asks put_cell work_feed cell_feed entry_size needs_decision page_of entry_of new_seqr seqr_step append_work_asks append_start append_feed verdict read_fault write_fault commit_record new_client entries_at tests refusal appends task_asks client_asks task_feed accepts client_command client_deliver fields_size decided newest log_of entries_of changes_below outcome history_of start latest log history unit_moves seqr_moves client_turned happens limit_of drain_on drain run lines_on first spelled read touched
told_is = refl

history_is : history all_kinds added ≡ done all_kinds counter five 2 ∷ []
unfolding u8_at u16_at u32_at u64_at raw_at fixed_at read_many spell_many fit_many marks reads writes keys new_fields old_fields body entry node_eq bytes_eq bytes_lt part_lt cell_eq chain_of units_of new_unit unit_ask first_missing on_ask unit_step new_layout reply work_asks put_cell work_feed cell_feed entry_size needs_decision page_of entry_of new_seqr seqr_step append_work_asks append_start append_feed verdict read_fault write_fault commit_record new_client entries_at tests refusal appends task_asks client_asks task_feed accepts client_command client_deliver fields_size decided newest log_of entries_of changes_below outcome history_of start latest log history unit_moves seqr_moves client_turned happens limit_of drain_on drain run lines_on first spelled read touched
history_is = refl

entries_are : entries_of (log all_kinds added) ≡ (0, record_of all_kinds counter five 2 (spelled five)) ∷ []
unfolding u8_at u16_at u32_at u64_at raw_at fixed_at read_many spell_many fit_many marks reads writes keys new_fields old_fields body entry node_eq bytes_eq bytes_lt part_lt cell_eq chain_of units_of new_unit unit_ask first_missing on_ask unit_step new_layout reply work_asks put_cell work_feed cell_feed entry_size needs_decision page_of entry_of new_seqr seqr_step append_work_asks append_start append_feed verdict read_fault write_fault commit_record new_client entries_at tests refusal appends task_asks client_asks task_feed accepts client_command client_deliver fields_size decided newest log_of entries_of changes_below outcome history_of start latest log history unit_moves seqr_moves client_turned happens limit_of drain_on drain run lines_on first spelled read touched
entries_are = refl

commits : outcome all_kinds (log all_kinds added) 0 ≡ true
unfolding u8_at u16_at u32_at u64_at raw_at fixed_at read_many spell_many fit_many marks reads writes keys new_fields old_fields body entry node_eq bytes_eq bytes_lt part_lt cell_eq chain_of units_of new_unit unit_ask first_missing on_ask unit_step new_layout reply work_asks put_cell work_feed cell_feed entry_size needs_decision page_of entry_of new_seqr seqr_step append_work_asks append_start append_feed verdict read_fault write_fault commit_record new_client entries_at tests refusal appends task_asks client_asks task_feed accepts client_command client_deliver fields_size decided newest log_of entries_of changes_below outcome history_of start latest log history unit_moves seqr_moves client_turned happens limit_of drain_on drain run lines_on first spelled read touched
commits = refl

no_view : (k : ℕ) → (client all_kinds added k).view ≡ None
unfolding u8_at u16_at u32_at u64_at raw_at fixed_at read_many spell_many fit_many marks reads writes keys new_fields old_fields body entry node_eq bytes_eq bytes_lt part_lt cell_eq chain_of units_of new_unit unit_ask first_missing on_ask unit_step new_layout reply work_asks put_cell work_feed cell_feed entry_size needs_decision page_of entry_of new_seqr seqr_step append_work_asks append_start append_feed verdict read_fault write_fault commit_record new_client entries_at tests refusal appends task_asks client_asks task_feed accepts client_command client_deliver fields_size decided newest log_of entries_of changes_below outcome history_of start latest log history unit_moves seqr_moves client_turned happens limit_of drain_on drain run lines_on first spelled read touched
no_view zero = refl
no_view (suc k) = refl

is_done : IsDone all_kinds counter five 2 added
is_done = record { bytes = spelled five; told = told_is; history = history_is; entries = entries_are; outcome = commits; views = no_view }

reached : IsReached adds
reached = record { moves = moves; reaches = subst (Reaches all_kinds cluster moves) (sym added_is) reaches }

adding_true : IsTrueRun adds
adding_true = record { reached = reached; holds = subst (Holds all_kinds) (sym added_is) (done_holds all_kinds counter five 2 added is_done) }

replayed : Replayed adding_script adding_transcript
replayed = record {
  script = adds;
  lawful = adding_lawful;
  within = adding_within;
  counted = omega arith;
  tells = adding_tells;
  printed = subst (λ (w : Worlds). adding_transcript ≡ replays.transcript cluster w) (sym added_is) adding_printed;
}

pub true_adding : TrueReplay adding_script adding_transcript
unfolding replayed
true_adding = record { replayed = replayed; true_run = adding_true }
