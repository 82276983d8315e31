-- Changed worlds, and steps from changed worlds, of which a claim is refuted.
use Rattle.std.proofs.Common.{◌≡◌, [], refl}
use Rattle.std.specs.Prelude.{true, Some}
use Rattle.tg_model.specs.Stores.{store_after, changed}
use Rattle.tg_model.specs.Traces.{puts_of}
use Rattle.tg_model.specs.Verdicts.{asks_in, bound_in, entries_fault, replies_fault, fault}
use Rattle.tg_codec.specs.Reading.{u8_at, u16_at, u32_at, u64_at, raw_at, fixed_at}
use Rattle.tg_codec.specs.Codec.{read_many, spell_many, fit_many}
use Rattle.tg_entry.specs.Reads.{marks, reads}
use Rattle.tg_entry.specs.Writes.{writes}
use Rattle.tg_entry.specs.Checkpoints.{keys, new_fields, old_fields}
use Rattle.tg_entry.specs.Format.{body, entry}
use Rattle.tg_base.specs.Orders.{node_eq}
use Rattle.tg_protocol.specs.Words.{bytes_eq, bytes_lt, part_lt, cell_eq}
use Rattle.tg_protocol.specs.Layouts.{chain_of, units_of, next_of, change_fault}
use Rattle.tg_protocol.specs.Units.{new_unit, unit_ask, first_missing, on_ask, unit_step}
use Rattle.tg_protocol.specs.LayoutServers.{new_layout, layout_ask, on_layout_ask, layout_step}
use Rattle.tg_protocol.specs.Replies.{reply}
use Rattle.tg_protocol.specs.Cells.{work_asks, put_cell, get_cell, fill_cell, probe, work_feed, cell_feed}
use Rattle.tg_entry.specs.Needs.{needs_decision}
use Rattle.tg_protocol.specs.Entries.{entry_size}
use Rattle.tg_protocol.specs.Pages.{page_of, entry_of}
use Rattle.tg_protocol.specs.Sequencers.{new_seqr, seqr_step, seqr_tick}
use Rattle.tg_protocol.specs.Appending.{append_work_asks, append_start, append_feed, append_again}
use Rattle.tg_protocol.specs.Syncing.{sync_work_asks, sync_start, sync_feed}
use Rattle.tg_protocol.specs.Walking.{walk_on, walk_start, walk_feed}
use Rattle.tg_protocol.specs.Versions.{no_versions, based, version_of, with_change, parts_of}
use Rattle.tg_protocol.specs.Views.{decision_in, view_start, view_version, view_parts, unknown_in, changed_in, verdict, view_outcome, step_at, play_on, play}
use Rattle.tg_protocol.specs.Transactions.{read_fault, write_fault, commit_record}
use Rattle.tg_protocol.specs.Checkpoints.{open_decision, checkpoint, bases_in, load_from, view_base, view_bases, may_forget}
use Rattle.tg_protocol.specs.Past.{commit_at, past_at, rescue_turn}
use Rattle.tg_protocol.specs.Trimming.{trim_start, trim_feed, copy_work_asks, copy_start, copy_feed}
use Rattle.tg_protocol.specs.Reconfiguring.{reconf_work_asks, reconf_start, reconf_feed, reconf_latest}
use Rattle.tg_protocol.specs.Clients.{new_client, entries_at, copy_fault, tests, refusal}
use Rattle.tg_protocol.specs.Answers.{appends, syncs, walked}
use Rattle.tg_protocol.specs.ClientSteps.{task_asks, client_asks, walks, task_feed, task_again, accepts, client_command, client_deliver, client_tick, new_work}
use Rattle.tg_protocol.specs.Sizes.{fields_size}
use Rattle.tg_protocol.specs.Logs.{decided, newest, log_of, entries_of, members, path_on, path, changes_below, version, outcome, history_of}
use Rattle.tg_protocol.specs.Worlds.{start, latest, log, history, unit_moves, layout_moves, seqr_moves, client_turned, happens, limit_of, drain_on, drain, tick_all, rounds, settle, line, lines, replay, client}
use Rattle.tg_protocol.specs.Runs.{run}
use Rattle.tg_protocol.specs.Walked.{walks_end}
use Rattle.tg_law_examples.proofs.SevenKinds.{kinds}
use Rattle.tg_law_examples.proofs.Farther.{past_answers_header, past_answers_script, rescue_and_trim_header, rescue_and_trim_script}
use Rattle.tg_law_examples.proofs.First.{crossed_reads_header, crossed_reads_script, page_carried_down_header, page_carried_down_script, refusals_header, refusals_script, two_updates_header, two_updates_script, unsure_then_fate_header, unsure_then_fate_script}
use Rattle.tg_law_examples.proofs.Moves.{carried_by_scan_header, carried_by_scan_script, checkpoints_and_trim_header, checkpoints_and_trim_script, two_keys_header, two_keys_script, unit_joins_header, unit_joins_script}
use Rattle.tg_model.specs.declared.command.Command.TheVariants as cmd
use Rattle.tg_model.specs.declared.command.Event.TheVariants.{Command as Commands, Lose}
use Rattle.tg_model.specs.declared.refusal.Refusal.TheVariants as cause
use Rattle.tg_protocol.specs.Chosen.{LatestDecided}
use Rattle.tg_protocol.specs.Following.{LayoutsFollow}
use Rattle.tg_protocol.specs.Holding.{EntriesOwn, RecordsOwn, RepliesHaveRecords, RecordsInOrder, SerialFirst, MarksRest}
use Rattle.tg_protocol.specs.Playing.{SyncsExact, ReadsOnPath, PlaysOn}
use Rattle.tg_protocol.specs.Causes.{RefusalsTrue, CausesRefuse, UnsureTrue, NonesTrue, RefusalsKeep}
use Rattle.tg_protocol.specs.Stuck.{StuckTrue}
use Rattle.tg_protocol.specs.Finishing.{CommandFinishes, ReconfFinishes}
use Rattle.tg_law_examples.proofs.SevenKinds as kind
use Rattle.tg_law_examples.proofs.Shown.{obj}
use Rattle.tg_law_instances.proofs.StepTests.{drain_ev, tick_ev, round_ev}
use Rattle.tg_law_instances.proofs.Changes.{doctored, copied, untold, higher, misnumbered, reads as reads_at, with_client, knows_log, knows_more, knows_nothing, emptied, replied_so, commits_later, marked_more, waits_forever, same_again, refused_instead, asked_before}
use Rattle.tg_law_instances.proofs.LogRefuted.{follows_refuted, has_entries, latest_off, latest_refuted, marks_refuted, order_refuted, own_refuted, reads_refuted, records_refuted, replies_refuted, serial_off, serial_refuted, some_follows_off, some_mark_off, some_order_off, some_read_off, some_record_off, some_unended}
use Rattle.tg_law_instances.proofs.StepRefuted.{OfRun, some_of_run, of_run_found, noted_late, exact_off, exact_refuted, keeps_off, keeps_refuted, none_off, nones_refuted, stuck_off, stuck_refuted, unsure_off, unsure_refuted, keeps_some, plays_refuted, stands_off, stands_refuted, accepts_it, refuse_refuted, refuses_it, refusals_refuted}
use Rattle.tg_law_instances.proofs.FinishRefuted.{hangs, commands_refuted, hangs_changing, reconfs_refuted}

none_begun_off : has_entries (replay kinds crossed_reads_header crossed_reads_script) ≡ true
unfolding u8_at u16_at u32_at u64_at raw_at fixed_at read_many spell_many fit_many marks reads writes keys new_fields old_fields body entry node_eq bytes_eq bytes_lt part_lt cell_eq chain_of units_of next_of change_fault new_unit unit_ask first_missing on_ask unit_step new_layout layout_ask on_layout_ask layout_step reply work_asks put_cell get_cell fill_cell probe work_feed cell_feed entry_size needs_decision page_of entry_of new_seqr seqr_step seqr_tick append_work_asks append_start append_feed append_again sync_work_asks sync_start sync_feed walk_on walk_start walk_feed no_versions based version_of with_change parts_of decision_in view_start view_version view_parts unknown_in changed_in verdict view_outcome step_at play_on play read_fault write_fault commit_record open_decision checkpoint bases_in load_from view_base view_bases may_forget commit_at past_at rescue_turn trim_start trim_feed copy_work_asks copy_start copy_feed reconf_work_asks reconf_start reconf_feed reconf_latest new_client entries_at copy_fault tests refusal appends syncs walked task_asks client_asks walks task_feed task_again accepts client_command client_deliver client_tick fields_size decided newest log_of entries_of members path_on path changes_below version outcome history_of start latest log history unit_moves layout_moves seqr_moves client_turned happens limit_of drain_on drain tick_all rounds settle line lines run walks_end store_after changed puts_of asks_in bound_in entries_fault replies_fault fault drain_ev tick_ev round_ev some_of_run
none_begun_off = refl

none_begun_isnt : EntriesOwn kinds crossed_reads_header [] (replay kinds crossed_reads_header crossed_reads_script) → ⊥
none_begun_isnt = own_refuted crossed_reads_header (replay kinds crossed_reads_header crossed_reads_script) none_begun_off

records_untold_off : some_unended (untold (replay kinds crossed_reads_header crossed_reads_script)) ≡ true
unfolding u8_at u16_at u32_at u64_at raw_at fixed_at read_many spell_many fit_many marks reads writes keys new_fields old_fields body entry node_eq bytes_eq bytes_lt part_lt cell_eq chain_of units_of next_of change_fault new_unit unit_ask first_missing on_ask unit_step new_layout layout_ask on_layout_ask layout_step reply work_asks put_cell get_cell fill_cell probe work_feed cell_feed entry_size needs_decision page_of entry_of new_seqr seqr_step seqr_tick append_work_asks append_start append_feed append_again sync_work_asks sync_start sync_feed walk_on walk_start walk_feed no_versions based version_of with_change parts_of decision_in view_start view_version view_parts unknown_in changed_in verdict view_outcome step_at play_on play read_fault write_fault commit_record open_decision checkpoint bases_in load_from view_base view_bases may_forget commit_at past_at rescue_turn trim_start trim_feed copy_work_asks copy_start copy_feed reconf_work_asks reconf_start reconf_feed reconf_latest new_client entries_at copy_fault tests refusal appends syncs walked task_asks client_asks walks task_feed task_again accepts client_command client_deliver client_tick fields_size decided newest log_of entries_of members path_on path changes_below version outcome history_of start latest log history unit_moves layout_moves seqr_moves client_turned happens limit_of drain_on drain tick_all rounds settle line lines run walks_end store_after changed puts_of asks_in bound_in entries_fault replies_fault fault drain_ev tick_ev round_ev some_of_run
records_untold_off = refl

records_untold_isnt : RecordsOwn kinds (untold (replay kinds crossed_reads_header crossed_reads_script)) → ⊥
records_untold_isnt = records_refuted (untold (replay kinds crossed_reads_header crossed_reads_script)) records_untold_off

commit_elsewhere_off : some_record_off (doctored 11 (replay kinds crossed_reads_header crossed_reads_script)) ≡ true
unfolding u8_at u16_at u32_at u64_at raw_at fixed_at read_many spell_many fit_many marks reads writes keys new_fields old_fields body entry node_eq bytes_eq bytes_lt part_lt cell_eq chain_of units_of next_of change_fault new_unit unit_ask first_missing on_ask unit_step new_layout layout_ask on_layout_ask layout_step reply work_asks put_cell get_cell fill_cell probe work_feed cell_feed entry_size needs_decision page_of entry_of new_seqr seqr_step seqr_tick append_work_asks append_start append_feed append_again sync_work_asks sync_start sync_feed walk_on walk_start walk_feed no_versions based version_of with_change parts_of decision_in view_start view_version view_parts unknown_in changed_in verdict view_outcome step_at play_on play read_fault write_fault commit_record open_decision checkpoint bases_in load_from view_base view_bases may_forget commit_at past_at rescue_turn trim_start trim_feed copy_work_asks copy_start copy_feed reconf_work_asks reconf_start reconf_feed reconf_latest new_client entries_at copy_fault tests refusal appends syncs walked task_asks client_asks walks task_feed task_again accepts client_command client_deliver client_tick fields_size decided newest log_of entries_of members path_on path changes_below version outcome history_of start latest log history unit_moves layout_moves seqr_moves client_turned happens limit_of drain_on drain tick_all rounds settle line lines run walks_end store_after changed puts_of asks_in bound_in entries_fault replies_fault fault drain_ev tick_ev round_ev some_of_run
commit_elsewhere_off = refl

commit_elsewhere_isnt : RepliesHaveRecords kinds (doctored 11 (replay kinds crossed_reads_header crossed_reads_script)) → ⊥
commit_elsewhere_isnt = replies_refuted (doctored 11 (replay kinds crossed_reads_header crossed_reads_script)) commit_elsewhere_off

record_precedes_off : some_order_off (replied_so commits_later (replay kinds past_answers_header past_answers_script)) ≡ true
unfolding u8_at u16_at u32_at u64_at raw_at fixed_at read_many spell_many fit_many marks reads writes keys new_fields old_fields body entry node_eq bytes_eq bytes_lt part_lt cell_eq chain_of units_of next_of change_fault new_unit unit_ask first_missing on_ask unit_step new_layout layout_ask on_layout_ask layout_step reply work_asks put_cell get_cell fill_cell probe work_feed cell_feed entry_size needs_decision page_of entry_of new_seqr seqr_step seqr_tick append_work_asks append_start append_feed append_again sync_work_asks sync_start sync_feed walk_on walk_start walk_feed no_versions based version_of with_change parts_of decision_in view_start view_version view_parts unknown_in changed_in verdict view_outcome step_at play_on play read_fault write_fault commit_record open_decision checkpoint bases_in load_from view_base view_bases may_forget commit_at past_at rescue_turn trim_start trim_feed copy_work_asks copy_start copy_feed reconf_work_asks reconf_start reconf_feed reconf_latest new_client entries_at copy_fault tests refusal appends syncs walked task_asks client_asks walks task_feed task_again accepts client_command client_deliver client_tick fields_size decided newest log_of entries_of members path_on path changes_below version outcome history_of start latest log history unit_moves layout_moves seqr_moves client_turned happens limit_of drain_on drain tick_all rounds settle line lines run walks_end store_after changed puts_of asks_in bound_in entries_fault replies_fault fault drain_ev tick_ev round_ev some_of_run
record_precedes_off = refl

record_precedes_isnt : RecordsInOrder kinds (replied_so commits_later (replay kinds past_answers_header past_answers_script)) → ⊥
record_precedes_isnt = order_refuted (replied_so commits_later (replay kinds past_answers_header past_answers_script)) record_precedes_off

page_again_off : serial_off (copied 1 7 (replay kinds two_updates_header two_updates_script)) ≡ true
unfolding u8_at u16_at u32_at u64_at raw_at fixed_at read_many spell_many fit_many marks reads writes keys new_fields old_fields body entry node_eq bytes_eq bytes_lt part_lt cell_eq chain_of units_of next_of change_fault new_unit unit_ask first_missing on_ask unit_step new_layout layout_ask on_layout_ask layout_step reply work_asks put_cell get_cell fill_cell probe work_feed cell_feed entry_size needs_decision page_of entry_of new_seqr seqr_step seqr_tick append_work_asks append_start append_feed append_again sync_work_asks sync_start sync_feed walk_on walk_start walk_feed no_versions based version_of with_change parts_of decision_in view_start view_version view_parts unknown_in changed_in verdict view_outcome step_at play_on play read_fault write_fault commit_record open_decision checkpoint bases_in load_from view_base view_bases may_forget commit_at past_at rescue_turn trim_start trim_feed copy_work_asks copy_start copy_feed reconf_work_asks reconf_start reconf_feed reconf_latest new_client entries_at copy_fault tests refusal appends syncs walked task_asks client_asks walks task_feed task_again accepts client_command client_deliver client_tick fields_size decided newest log_of entries_of members path_on path changes_below version outcome history_of start latest log history unit_moves layout_moves seqr_moves client_turned happens limit_of drain_on drain tick_all rounds settle line lines run walks_end store_after changed puts_of asks_in bound_in entries_fault replies_fault fault drain_ev tick_ev round_ev some_of_run
page_again_off = refl

page_again_isnt : SerialFirst kinds (copied 1 7 (replay kinds two_updates_header two_updates_script)) → ⊥
page_again_isnt = serial_refuted (copied 1 7 (replay kinds two_updates_header two_updates_script)) page_again_off

marked_further_off : some_mark_off (replied_so marked_more (replay kinds checkpoints_and_trim_header checkpoints_and_trim_script)) ≡ true
unfolding u8_at u16_at u32_at u64_at raw_at fixed_at read_many spell_many fit_many marks reads writes keys new_fields old_fields body entry node_eq bytes_eq bytes_lt part_lt cell_eq chain_of units_of next_of change_fault new_unit unit_ask first_missing on_ask unit_step new_layout layout_ask on_layout_ask layout_step reply work_asks put_cell get_cell fill_cell probe work_feed cell_feed entry_size needs_decision page_of entry_of new_seqr seqr_step seqr_tick append_work_asks append_start append_feed append_again sync_work_asks sync_start sync_feed walk_on walk_start walk_feed no_versions based version_of with_change parts_of decision_in view_start view_version view_parts unknown_in changed_in verdict view_outcome step_at play_on play read_fault write_fault commit_record open_decision checkpoint bases_in load_from view_base view_bases may_forget commit_at past_at rescue_turn trim_start trim_feed copy_work_asks copy_start copy_feed reconf_work_asks reconf_start reconf_feed reconf_latest new_client entries_at copy_fault tests refusal appends syncs walked task_asks client_asks walks task_feed task_again accepts client_command client_deliver client_tick fields_size decided newest log_of entries_of members path_on path changes_below version outcome history_of start latest log history unit_moves layout_moves seqr_moves client_turned happens limit_of drain_on drain tick_all rounds settle line lines run walks_end store_after changed puts_of asks_in bound_in entries_fault replies_fault fault drain_ev tick_ev round_ev some_of_run
marked_further_off = refl

marked_further_isnt : MarksRest kinds (replied_so marked_more (replay kinds checkpoints_and_trim_header checkpoints_and_trim_script)) → ⊥
marked_further_isnt = marks_refuted (replied_so marked_more (replay kinds checkpoints_and_trim_header checkpoints_and_trim_script)) marked_further_off

misnumbered_layout_off : latest_off (misnumbered (replay kinds unit_joins_header unit_joins_script)) ≡ true
unfolding u8_at u16_at u32_at u64_at raw_at fixed_at read_many spell_many fit_many marks reads writes keys new_fields old_fields body entry node_eq bytes_eq bytes_lt part_lt cell_eq chain_of units_of next_of change_fault new_unit unit_ask first_missing on_ask unit_step new_layout layout_ask on_layout_ask layout_step reply work_asks put_cell get_cell fill_cell probe work_feed cell_feed entry_size needs_decision page_of entry_of new_seqr seqr_step seqr_tick append_work_asks append_start append_feed append_again sync_work_asks sync_start sync_feed walk_on walk_start walk_feed no_versions based version_of with_change parts_of decision_in view_start view_version view_parts unknown_in changed_in verdict view_outcome step_at play_on play read_fault write_fault commit_record open_decision checkpoint bases_in load_from view_base view_bases may_forget commit_at past_at rescue_turn trim_start trim_feed copy_work_asks copy_start copy_feed reconf_work_asks reconf_start reconf_feed reconf_latest new_client entries_at copy_fault tests refusal appends syncs walked task_asks client_asks walks task_feed task_again accepts client_command client_deliver client_tick fields_size decided newest log_of entries_of members path_on path changes_below version outcome history_of start latest log history unit_moves layout_moves seqr_moves client_turned happens limit_of drain_on drain tick_all rounds settle line lines run walks_end store_after changed puts_of asks_in bound_in entries_fault replies_fault fault drain_ev tick_ev round_ev some_of_run
misnumbered_layout_off = refl

misnumbered_layout_isnt : LatestDecided kinds (misnumbered (replay kinds unit_joins_header unit_joins_script)) → ⊥
misnumbered_layout_isnt = latest_refuted (misnumbered (replay kinds unit_joins_header unit_joins_script)) misnumbered_layout_off

sealed_higher_off : some_follows_off (higher (replay kinds carried_by_scan_header carried_by_scan_script)) ≡ true
unfolding u8_at u16_at u32_at u64_at raw_at fixed_at read_many spell_many fit_many marks reads writes keys new_fields old_fields body entry node_eq bytes_eq bytes_lt part_lt cell_eq chain_of units_of next_of change_fault new_unit unit_ask first_missing on_ask unit_step new_layout layout_ask on_layout_ask layout_step reply work_asks put_cell get_cell fill_cell probe work_feed cell_feed entry_size needs_decision page_of entry_of new_seqr seqr_step seqr_tick append_work_asks append_start append_feed append_again sync_work_asks sync_start sync_feed walk_on walk_start walk_feed no_versions based version_of with_change parts_of decision_in view_start view_version view_parts unknown_in changed_in verdict view_outcome step_at play_on play read_fault write_fault commit_record open_decision checkpoint bases_in load_from view_base view_bases may_forget commit_at past_at rescue_turn trim_start trim_feed copy_work_asks copy_start copy_feed reconf_work_asks reconf_start reconf_feed reconf_latest new_client entries_at copy_fault tests refusal appends syncs walked task_asks client_asks walks task_feed task_again accepts client_command client_deliver client_tick fields_size decided newest log_of entries_of members path_on path changes_below version outcome history_of start latest log history unit_moves layout_moves seqr_moves client_turned happens limit_of drain_on drain tick_all rounds settle line lines run walks_end store_after changed puts_of asks_in bound_in entries_fault replies_fault fault drain_ev tick_ev round_ev some_of_run
sealed_higher_off = refl

sealed_higher_isnt : LayoutsFollow kinds (higher (replay kinds carried_by_scan_header carried_by_scan_script)) → ⊥
sealed_higher_isnt = follows_refuted (higher (replay kinds carried_by_scan_header carried_by_scan_script)) sealed_higher_off

read_elsewhere_off : some_read_off (reads_at 1 40 (replay kinds crossed_reads_header crossed_reads_script)) ≡ true
unfolding u8_at u16_at u32_at u64_at raw_at fixed_at read_many spell_many fit_many marks reads writes keys new_fields old_fields body entry node_eq bytes_eq bytes_lt part_lt cell_eq chain_of units_of next_of change_fault new_unit unit_ask first_missing on_ask unit_step new_layout layout_ask on_layout_ask layout_step reply work_asks put_cell get_cell fill_cell probe work_feed cell_feed entry_size needs_decision page_of entry_of new_seqr seqr_step seqr_tick append_work_asks append_start append_feed append_again sync_work_asks sync_start sync_feed walk_on walk_start walk_feed no_versions based version_of with_change parts_of decision_in view_start view_version view_parts unknown_in changed_in verdict view_outcome step_at play_on play read_fault write_fault commit_record open_decision checkpoint bases_in load_from view_base view_bases may_forget commit_at past_at rescue_turn trim_start trim_feed copy_work_asks copy_start copy_feed reconf_work_asks reconf_start reconf_feed reconf_latest new_client entries_at copy_fault tests refusal appends syncs walked task_asks client_asks walks task_feed task_again accepts client_command client_deliver client_tick fields_size decided newest log_of entries_of members path_on path changes_below version outcome history_of start latest log history unit_moves layout_moves seqr_moves client_turned happens limit_of drain_on drain tick_all rounds settle line lines run walks_end store_after changed puts_of asks_in bound_in entries_fault replies_fault fault drain_ev tick_ev round_ev some_of_run
read_elsewhere_off = refl

read_elsewhere_isnt : ReadsOnPath kinds [] (reads_at 1 40 (replay kinds crossed_reads_header crossed_reads_script)) → ⊥
read_elsewhere_isnt = reads_refuted (reads_at 1 40 (replay kinds crossed_reads_header crossed_reads_script)) read_elsewhere_off

unsure_noted_late_off : some_of_run (λ w e. unsure_off (noted_late w) e) unsure_then_fate_script (start kinds unsure_then_fate_header) ≡ true
unfolding u8_at u16_at u32_at u64_at raw_at fixed_at read_many spell_many fit_many marks reads writes keys new_fields old_fields body entry node_eq bytes_eq bytes_lt part_lt cell_eq chain_of units_of next_of change_fault new_unit unit_ask first_missing on_ask unit_step new_layout layout_ask on_layout_ask layout_step reply work_asks put_cell get_cell fill_cell probe work_feed cell_feed entry_size needs_decision page_of entry_of new_seqr seqr_step seqr_tick append_work_asks append_start append_feed append_again sync_work_asks sync_start sync_feed walk_on walk_start walk_feed no_versions based version_of with_change parts_of decision_in view_start view_version view_parts unknown_in changed_in verdict view_outcome step_at play_on play read_fault write_fault commit_record open_decision checkpoint bases_in load_from view_base view_bases may_forget commit_at past_at rescue_turn trim_start trim_feed copy_work_asks copy_start copy_feed reconf_work_asks reconf_start reconf_feed reconf_latest new_client entries_at copy_fault tests refusal appends syncs walked task_asks client_asks walks task_feed task_again accepts client_command client_deliver client_tick fields_size decided newest log_of entries_of members path_on path changes_below version outcome history_of start latest log history unit_moves layout_moves seqr_moves client_turned happens limit_of drain_on drain tick_all rounds settle line lines run walks_end store_after changed puts_of asks_in bound_in entries_fault replies_fault fault drain_ev tick_ev round_ev some_of_run
unsure_noted_late_off = refl

unsure_noted_late_isnt : OfRun (λ w e. UnsureTrue kinds (noted_late w) e → ⊥) unsure_then_fate_script (start kinds unsure_then_fate_header)
unsure_noted_late_isnt = of_run_found (λ w e. unsure_off (noted_late w) e) (λ w e. UnsureTrue kinds (noted_late w) e → ⊥) (λ w e h. unsure_refuted (noted_late w) e h) unsure_then_fate_script (start kinds unsure_then_fate_header) unsure_noted_late_off

none_noted_late_off : some_of_run (λ w e. none_off (noted_late w) e) refusals_script (start kinds refusals_header) ≡ true
unfolding u8_at u16_at u32_at u64_at raw_at fixed_at read_many spell_many fit_many marks reads writes keys new_fields old_fields body entry node_eq bytes_eq bytes_lt part_lt cell_eq chain_of units_of next_of change_fault new_unit unit_ask first_missing on_ask unit_step new_layout layout_ask on_layout_ask layout_step reply work_asks put_cell get_cell fill_cell probe work_feed cell_feed entry_size needs_decision page_of entry_of new_seqr seqr_step seqr_tick append_work_asks append_start append_feed append_again sync_work_asks sync_start sync_feed walk_on walk_start walk_feed no_versions based version_of with_change parts_of decision_in view_start view_version view_parts unknown_in changed_in verdict view_outcome step_at play_on play read_fault write_fault commit_record open_decision checkpoint bases_in load_from view_base view_bases may_forget commit_at past_at rescue_turn trim_start trim_feed copy_work_asks copy_start copy_feed reconf_work_asks reconf_start reconf_feed reconf_latest new_client entries_at copy_fault tests refusal appends syncs walked task_asks client_asks walks task_feed task_again accepts client_command client_deliver client_tick fields_size decided newest log_of entries_of members path_on path changes_below version outcome history_of start latest log history unit_moves layout_moves seqr_moves client_turned happens limit_of drain_on drain tick_all rounds settle line lines run walks_end store_after changed puts_of asks_in bound_in entries_fault replies_fault fault drain_ev tick_ev round_ev some_of_run
none_noted_late_off = refl

none_noted_late_isnt : OfRun (λ w e. NonesTrue kinds (noted_late w) e → ⊥) refusals_script (start kinds refusals_header)
none_noted_late_isnt = of_run_found (λ w e. none_off (noted_late w) e) (λ w e. NonesTrue kinds (noted_late w) e → ⊥) (λ w e h. nones_refuted (noted_late w) e h) refusals_script (start kinds refusals_header) none_noted_late_off

stuck_noted_late_off : some_of_run (λ w e. stuck_off (noted_late w) e) rescue_and_trim_script (start kinds rescue_and_trim_header) ≡ true
unfolding u8_at u16_at u32_at u64_at raw_at fixed_at read_many spell_many fit_many marks reads writes keys new_fields old_fields body entry node_eq bytes_eq bytes_lt part_lt cell_eq chain_of units_of next_of change_fault new_unit unit_ask first_missing on_ask unit_step new_layout layout_ask on_layout_ask layout_step reply work_asks put_cell get_cell fill_cell probe work_feed cell_feed entry_size needs_decision page_of entry_of new_seqr seqr_step seqr_tick append_work_asks append_start append_feed append_again sync_work_asks sync_start sync_feed walk_on walk_start walk_feed no_versions based version_of with_change parts_of decision_in view_start view_version view_parts unknown_in changed_in verdict view_outcome step_at play_on play read_fault write_fault commit_record open_decision checkpoint bases_in load_from view_base view_bases may_forget commit_at past_at rescue_turn trim_start trim_feed copy_work_asks copy_start copy_feed reconf_work_asks reconf_start reconf_feed reconf_latest new_client entries_at copy_fault tests refusal appends syncs walked task_asks client_asks walks task_feed task_again accepts client_command client_deliver client_tick fields_size decided newest log_of entries_of members path_on path changes_below version outcome history_of start latest log history unit_moves layout_moves seqr_moves client_turned happens limit_of drain_on drain tick_all rounds settle line lines run walks_end store_after changed puts_of asks_in bound_in entries_fault replies_fault fault drain_ev tick_ev round_ev some_of_run
stuck_noted_late_off = refl

stuck_noted_late_isnt : OfRun (λ w e. StuckTrue kinds (noted_late w) e → ⊥) rescue_and_trim_script (start kinds rescue_and_trim_header)
stuck_noted_late_isnt = of_run_found (λ w e. stuck_off (noted_late w) e) (λ w e. StuckTrue kinds (noted_late w) e → ⊥) (λ w e h. stuck_refuted (noted_late w) e h) rescue_and_trim_script (start kinds rescue_and_trim_header) stuck_noted_late_off

walks_over_junk_off : some_of_run (λ w e. exact_off (emptied w) e) two_keys_script (start kinds two_keys_header) ≡ true
unfolding u8_at u16_at u32_at u64_at raw_at fixed_at read_many spell_many fit_many marks reads writes keys new_fields old_fields body entry node_eq bytes_eq bytes_lt part_lt cell_eq chain_of units_of next_of change_fault new_unit unit_ask first_missing on_ask unit_step new_layout layout_ask on_layout_ask layout_step reply work_asks put_cell get_cell fill_cell probe work_feed cell_feed entry_size needs_decision page_of entry_of new_seqr seqr_step seqr_tick append_work_asks append_start append_feed append_again sync_work_asks sync_start sync_feed walk_on walk_start walk_feed no_versions based version_of with_change parts_of decision_in view_start view_version view_parts unknown_in changed_in verdict view_outcome step_at play_on play read_fault write_fault commit_record open_decision checkpoint bases_in load_from view_base view_bases may_forget commit_at past_at rescue_turn trim_start trim_feed copy_work_asks copy_start copy_feed reconf_work_asks reconf_start reconf_feed reconf_latest new_client entries_at copy_fault tests refusal appends syncs walked task_asks client_asks walks task_feed task_again accepts client_command client_deliver client_tick fields_size decided newest log_of entries_of members path_on path changes_below version outcome history_of start latest log history unit_moves layout_moves seqr_moves client_turned happens limit_of drain_on drain tick_all rounds settle line lines run walks_end store_after changed puts_of asks_in bound_in entries_fault replies_fault fault drain_ev tick_ev round_ev some_of_run
walks_over_junk_off = refl

walks_over_junk_isnt : OfRun (λ w e. SyncsExact kinds (emptied w) e → ⊥) two_keys_script (start kinds two_keys_header)
walks_over_junk_isnt = of_run_found (λ w e. exact_off (emptied w) e) (λ w e. SyncsExact kinds (emptied w) e → ⊥) (λ w e h. exact_refuted (emptied w) e h) two_keys_script (start kinds two_keys_header) walks_over_junk_off

refused_and_played_off : some_of_run (λ w e. keeps_off (refused_instead w) e) crossed_reads_script (start kinds crossed_reads_header) ≡ true
unfolding u8_at u16_at u32_at u64_at raw_at fixed_at read_many spell_many fit_many marks reads writes keys new_fields old_fields body entry node_eq bytes_eq bytes_lt part_lt cell_eq chain_of units_of next_of change_fault new_unit unit_ask first_missing on_ask unit_step new_layout layout_ask on_layout_ask layout_step reply work_asks put_cell get_cell fill_cell probe work_feed cell_feed entry_size needs_decision page_of entry_of new_seqr seqr_step seqr_tick append_work_asks append_start append_feed append_again sync_work_asks sync_start sync_feed walk_on walk_start walk_feed no_versions based version_of with_change parts_of decision_in view_start view_version view_parts unknown_in changed_in verdict view_outcome step_at play_on play read_fault write_fault commit_record open_decision checkpoint bases_in load_from view_base view_bases may_forget commit_at past_at rescue_turn trim_start trim_feed copy_work_asks copy_start copy_feed reconf_work_asks reconf_start reconf_feed reconf_latest new_client entries_at copy_fault tests refusal appends syncs walked task_asks client_asks walks task_feed task_again accepts client_command client_deliver client_tick fields_size decided newest log_of entries_of members path_on path changes_below version outcome history_of start latest log history unit_moves layout_moves seqr_moves client_turned happens limit_of drain_on drain tick_all rounds settle line lines run walks_end store_after changed puts_of asks_in bound_in entries_fault replies_fault fault drain_ev tick_ev round_ev some_of_run
refused_and_played_off = refl

refused_and_played_isnt : OfRun (λ w e. RefusalsKeep kinds (refused_instead w) e → ⊥) crossed_reads_script (start kinds crossed_reads_header)
refused_and_played_isnt = of_run_found (λ w e. keeps_off (refused_instead w) e) (λ w e. RefusalsKeep kinds (refused_instead w) e → ⊥) (λ w e h. keeps_refuted (refused_instead w) e h) crossed_reads_script (start kinds crossed_reads_header) refused_and_played_off

all_pages_kept_off : keeps_some (happens kinds (with_client (knows_log (replay kinds page_carried_down_header page_carried_down_script)) 1 (replay kinds page_carried_down_header page_carried_down_script)) (Lose 0)) 1 ≡ true
unfolding u8_at u16_at u32_at u64_at raw_at fixed_at read_many spell_many fit_many marks reads writes keys new_fields old_fields body entry node_eq bytes_eq bytes_lt part_lt cell_eq chain_of units_of next_of change_fault new_unit unit_ask first_missing on_ask unit_step new_layout layout_ask on_layout_ask layout_step reply work_asks put_cell get_cell fill_cell probe work_feed cell_feed entry_size needs_decision page_of entry_of new_seqr seqr_step seqr_tick append_work_asks append_start append_feed append_again sync_work_asks sync_start sync_feed walk_on walk_start walk_feed no_versions based version_of with_change parts_of decision_in view_start view_version view_parts unknown_in changed_in verdict view_outcome step_at play_on play read_fault write_fault commit_record open_decision checkpoint bases_in load_from view_base view_bases may_forget commit_at past_at rescue_turn trim_start trim_feed copy_work_asks copy_start copy_feed reconf_work_asks reconf_start reconf_feed reconf_latest new_client entries_at copy_fault tests refusal appends syncs walked task_asks client_asks walks task_feed task_again accepts client_command client_deliver client_tick fields_size decided newest log_of entries_of members path_on path changes_below version outcome history_of start latest log history unit_moves layout_moves seqr_moves client_turned happens limit_of drain_on drain tick_all rounds settle line lines run walks_end store_after changed puts_of asks_in bound_in entries_fault replies_fault fault drain_ev tick_ev round_ev some_of_run
all_pages_kept_off = refl

all_pages_kept_isnt : PlaysOn kinds (with_client (knows_log (replay kinds page_carried_down_header page_carried_down_script)) 1 (replay kinds page_carried_down_header page_carried_down_script)) (Lose 0) → ⊥
all_pages_kept_isnt = plays_refuted (with_client (knows_log (replay kinds page_carried_down_header page_carried_down_script)) 1 (replay kinds page_carried_down_header page_carried_down_script)) (Lose 0) 1 all_pages_kept_off

view_left_behind_off : stands_off (with_client asked_before 0 (start kinds two_updates_header)) (Commands 0 (cmd.Ask (obj 16777216) kind.Value)) ≡ true
unfolding u8_at u16_at u32_at u64_at raw_at fixed_at read_many spell_many fit_many marks reads writes keys new_fields old_fields body entry node_eq bytes_eq bytes_lt part_lt cell_eq chain_of units_of next_of change_fault new_unit unit_ask first_missing on_ask unit_step new_layout layout_ask on_layout_ask layout_step reply work_asks put_cell get_cell fill_cell probe work_feed cell_feed entry_size needs_decision page_of entry_of new_seqr seqr_step seqr_tick append_work_asks append_start append_feed append_again sync_work_asks sync_start sync_feed walk_on walk_start walk_feed no_versions based version_of with_change parts_of decision_in view_start view_version view_parts unknown_in changed_in verdict view_outcome step_at play_on play read_fault write_fault commit_record open_decision checkpoint bases_in load_from view_base view_bases may_forget commit_at past_at rescue_turn trim_start trim_feed copy_work_asks copy_start copy_feed reconf_work_asks reconf_start reconf_feed reconf_latest new_client entries_at copy_fault tests refusal appends syncs walked task_asks client_asks walks task_feed task_again accepts client_command client_deliver client_tick fields_size decided newest log_of entries_of members path_on path changes_below version outcome history_of start latest log history unit_moves layout_moves seqr_moves client_turned happens limit_of drain_on drain tick_all rounds settle line lines run walks_end store_after changed puts_of asks_in bound_in entries_fault replies_fault fault drain_ev tick_ev round_ev some_of_run
view_left_behind_off = refl

view_left_behind_isnt : PlaysOn kinds (with_client asked_before 0 (start kinds two_updates_header)) (Commands 0 (cmd.Ask (obj 16777216) kind.Value)) → ⊥
view_left_behind_isnt = stands_refuted (with_client asked_before 0 (start kinds two_updates_header)) (Commands 0 (cmd.Ask (obj 16777216) kind.Value)) view_left_behind_off

unlisted_hosted_off : accepts_it (with_client knows_more 0 (start kinds two_updates_header)) 0 (cmd.Host (obj 16777300)) (cause.NotRegistered (obj 16777300)) ≡ true
unfolding u8_at u16_at u32_at u64_at raw_at fixed_at read_many spell_many fit_many marks reads writes keys new_fields old_fields body entry node_eq bytes_eq bytes_lt part_lt cell_eq chain_of units_of next_of change_fault new_unit unit_ask first_missing on_ask unit_step new_layout layout_ask on_layout_ask layout_step reply work_asks put_cell get_cell fill_cell probe work_feed cell_feed entry_size needs_decision page_of entry_of new_seqr seqr_step seqr_tick append_work_asks append_start append_feed append_again sync_work_asks sync_start sync_feed walk_on walk_start walk_feed no_versions based version_of with_change parts_of decision_in view_start view_version view_parts unknown_in changed_in verdict view_outcome step_at play_on play read_fault write_fault commit_record open_decision checkpoint bases_in load_from view_base view_bases may_forget commit_at past_at rescue_turn trim_start trim_feed copy_work_asks copy_start copy_feed reconf_work_asks reconf_start reconf_feed reconf_latest new_client entries_at copy_fault tests refusal appends syncs walked task_asks client_asks walks task_feed task_again accepts client_command client_deliver client_tick fields_size decided newest log_of entries_of members path_on path changes_below version outcome history_of start latest log history unit_moves layout_moves seqr_moves client_turned happens limit_of drain_on drain tick_all rounds settle line lines run walks_end store_after changed puts_of asks_in bound_in entries_fault replies_fault fault drain_ev tick_ev round_ev some_of_run
unlisted_hosted_off = refl

unlisted_hosted_isnt : CausesRefuse kinds (with_client knows_more 0 (start kinds two_updates_header)) (Commands 0 (cmd.Host (obj 16777300))) → ⊥
unlisted_hosted_isnt = refuse_refuted (with_client knows_more 0 (start kinds two_updates_header)) 0 (cmd.Host (obj 16777300)) (cause.NotRegistered (obj 16777300)) unlisted_hosted_off

nobody_asked_waits : (client kinds (with_client (waits_forever (cmd.Fate 0)) 0 (start kinds two_updates_header)) 0).work ≡ Some (new_work kinds (cmd.Fate 0))
unfolding u8_at u16_at u32_at u64_at raw_at fixed_at read_many spell_many fit_many marks reads writes keys new_fields old_fields body entry node_eq bytes_eq bytes_lt part_lt cell_eq chain_of units_of next_of change_fault new_unit unit_ask first_missing on_ask unit_step new_layout layout_ask on_layout_ask layout_step reply work_asks put_cell get_cell fill_cell probe work_feed cell_feed entry_size needs_decision page_of entry_of new_seqr seqr_step seqr_tick append_work_asks append_start append_feed append_again sync_work_asks sync_start sync_feed walk_on walk_start walk_feed no_versions based version_of with_change parts_of decision_in view_start view_version view_parts unknown_in changed_in verdict view_outcome step_at play_on play read_fault write_fault commit_record open_decision checkpoint bases_in load_from view_base view_bases may_forget commit_at past_at rescue_turn trim_start trim_feed copy_work_asks copy_start copy_feed reconf_work_asks reconf_start reconf_feed reconf_latest new_client entries_at copy_fault tests refusal appends syncs walked task_asks client_asks walks task_feed task_again accepts client_command client_deliver client_tick fields_size decided newest log_of entries_of members path_on path changes_below version outcome history_of start latest log history unit_moves layout_moves seqr_moves client_turned happens limit_of drain_on drain tick_all rounds settle line lines run walks_end store_after changed puts_of asks_in bound_in entries_fault replies_fault fault drain_ev tick_ev round_ev some_of_run
nobody_asked_waits = refl

nobody_asked_off : hangs (with_client (waits_forever (cmd.Fate 0)) 0 (start kinds two_updates_header)) 0 ≡ true
unfolding u8_at u16_at u32_at u64_at raw_at fixed_at read_many spell_many fit_many marks reads writes keys new_fields old_fields body entry node_eq bytes_eq bytes_lt part_lt cell_eq chain_of units_of next_of change_fault new_unit unit_ask first_missing on_ask unit_step new_layout layout_ask on_layout_ask layout_step reply work_asks put_cell get_cell fill_cell probe work_feed cell_feed entry_size needs_decision page_of entry_of new_seqr seqr_step seqr_tick append_work_asks append_start append_feed append_again sync_work_asks sync_start sync_feed walk_on walk_start walk_feed no_versions based version_of with_change parts_of decision_in view_start view_version view_parts unknown_in changed_in verdict view_outcome step_at play_on play read_fault write_fault commit_record open_decision checkpoint bases_in load_from view_base view_bases may_forget commit_at past_at rescue_turn trim_start trim_feed copy_work_asks copy_start copy_feed reconf_work_asks reconf_start reconf_feed reconf_latest new_client entries_at copy_fault tests refusal appends syncs walked task_asks client_asks walks task_feed task_again accepts client_command client_deliver client_tick fields_size decided newest log_of entries_of members path_on path changes_below version outcome history_of start latest log history unit_moves layout_moves seqr_moves client_turned happens limit_of drain_on drain tick_all rounds settle line lines run walks_end store_after changed puts_of asks_in bound_in entries_fault replies_fault fault drain_ev tick_ev round_ev some_of_run
nobody_asked_off = refl

nobody_asked_isnt : CommandFinishes kinds (with_client (waits_forever (cmd.Fate 0)) 0 (start kinds two_updates_header)) → ⊥
nobody_asked_isnt = commands_refuted (with_client (waits_forever (cmd.Fate 0)) 0 (start kinds two_updates_header)) 0 0 (new_work kinds (cmd.Fate 0)) nobody_asked_waits refl nobody_asked_off

nobody_sealed_waits : (client kinds (with_client (waits_forever (cmd.Reconf same_again)) 0 (start kinds two_updates_header)) 0).work ≡ Some (new_work kinds (cmd.Reconf same_again))
unfolding u8_at u16_at u32_at u64_at raw_at fixed_at read_many spell_many fit_many marks reads writes keys new_fields old_fields body entry node_eq bytes_eq bytes_lt part_lt cell_eq chain_of units_of next_of change_fault new_unit unit_ask first_missing on_ask unit_step new_layout layout_ask on_layout_ask layout_step reply work_asks put_cell get_cell fill_cell probe work_feed cell_feed entry_size needs_decision page_of entry_of new_seqr seqr_step seqr_tick append_work_asks append_start append_feed append_again sync_work_asks sync_start sync_feed walk_on walk_start walk_feed no_versions based version_of with_change parts_of decision_in view_start view_version view_parts unknown_in changed_in verdict view_outcome step_at play_on play read_fault write_fault commit_record open_decision checkpoint bases_in load_from view_base view_bases may_forget commit_at past_at rescue_turn trim_start trim_feed copy_work_asks copy_start copy_feed reconf_work_asks reconf_start reconf_feed reconf_latest new_client entries_at copy_fault tests refusal appends syncs walked task_asks client_asks walks task_feed task_again accepts client_command client_deliver client_tick fields_size decided newest log_of entries_of members path_on path changes_below version outcome history_of start latest log history unit_moves layout_moves seqr_moves client_turned happens limit_of drain_on drain tick_all rounds settle line lines run walks_end store_after changed puts_of asks_in bound_in entries_fault replies_fault fault drain_ev tick_ev round_ev some_of_run
nobody_sealed_waits = refl

nobody_sealed_off : hangs_changing (with_client (waits_forever (cmd.Reconf same_again)) 0 (start kinds two_updates_header)) 0 same_again ≡ true
unfolding u8_at u16_at u32_at u64_at raw_at fixed_at read_many spell_many fit_many marks reads writes keys new_fields old_fields body entry node_eq bytes_eq bytes_lt part_lt cell_eq chain_of units_of next_of change_fault new_unit unit_ask first_missing on_ask unit_step new_layout layout_ask on_layout_ask layout_step reply work_asks put_cell get_cell fill_cell probe work_feed cell_feed entry_size needs_decision page_of entry_of new_seqr seqr_step seqr_tick append_work_asks append_start append_feed append_again sync_work_asks sync_start sync_feed walk_on walk_start walk_feed no_versions based version_of with_change parts_of decision_in view_start view_version view_parts unknown_in changed_in verdict view_outcome step_at play_on play read_fault write_fault commit_record open_decision checkpoint bases_in load_from view_base view_bases may_forget commit_at past_at rescue_turn trim_start trim_feed copy_work_asks copy_start copy_feed reconf_work_asks reconf_start reconf_feed reconf_latest new_client entries_at copy_fault tests refusal appends syncs walked task_asks client_asks walks task_feed task_again accepts client_command client_deliver client_tick fields_size decided newest log_of entries_of members path_on path changes_below version outcome history_of start latest log history unit_moves layout_moves seqr_moves client_turned happens limit_of drain_on drain tick_all rounds settle line lines run walks_end store_after changed puts_of asks_in bound_in entries_fault replies_fault fault drain_ev tick_ev round_ev some_of_run
nobody_sealed_off = refl

nobody_sealed_isnt : ReconfFinishes kinds (with_client (waits_forever (cmd.Reconf same_again)) 0 (start kinds two_updates_header)) → ⊥
nobody_sealed_isnt = reconfs_refuted (with_client (waits_forever (cmd.Reconf same_again)) 0 (start kinds two_updates_header)) 0 same_again (new_work kinds (cmd.Reconf same_again)) nobody_sealed_waits refl nobody_sealed_off

listed_refused_off : refuses_it (with_client knows_nothing 0 (start kinds two_updates_header)) 0 (obj 16777216) ≡ true
unfolding u8_at u16_at u32_at u64_at raw_at fixed_at read_many spell_many fit_many marks reads writes keys new_fields old_fields body entry node_eq bytes_eq bytes_lt part_lt cell_eq chain_of units_of next_of change_fault new_unit unit_ask first_missing on_ask unit_step new_layout layout_ask on_layout_ask layout_step reply work_asks put_cell get_cell fill_cell probe work_feed cell_feed entry_size needs_decision page_of entry_of new_seqr seqr_step seqr_tick append_work_asks append_start append_feed append_again sync_work_asks sync_start sync_feed walk_on walk_start walk_feed no_versions based version_of with_change parts_of decision_in view_start view_version view_parts unknown_in changed_in verdict view_outcome step_at play_on play read_fault write_fault commit_record open_decision checkpoint bases_in load_from view_base view_bases may_forget commit_at past_at rescue_turn trim_start trim_feed copy_work_asks copy_start copy_feed reconf_work_asks reconf_start reconf_feed reconf_latest new_client entries_at copy_fault tests refusal appends syncs walked task_asks client_asks walks task_feed task_again accepts client_command client_deliver client_tick fields_size decided newest log_of entries_of members path_on path changes_below version outcome history_of start latest log history unit_moves layout_moves seqr_moves client_turned happens limit_of drain_on drain tick_all rounds settle line lines run walks_end store_after changed puts_of asks_in bound_in entries_fault replies_fault fault drain_ev tick_ev round_ev some_of_run
listed_refused_off = refl

listed_refused_isnt : RefusalsTrue kinds (with_client knows_nothing 0 (start kinds two_updates_header)) (Commands 0 (cmd.Host (obj 16777216))) → ⊥
listed_refused_isnt = refusals_refuted (with_client knows_nothing 0 (start kinds two_updates_header)) 0 (obj 16777216) listed_refused_off
