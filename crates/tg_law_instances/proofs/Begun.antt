-- Worked runs that reach their worlds, in which each entry was begun, each layout follows the one before, and settlings answer.
use Rattle.std.proofs.Common.{◌≡◌, refl}
use Rattle.std.specs.Prelude.{true}
use Rattle.tg_model.specs.Stores.{store_after, changed}
use Rattle.tg_model.specs.Traces.{puts_of}
use Rattle.tg_model.specs.Verdicts.{asks_in, bound_in, entries_fault, replies_fault, fault}
use Rattle.tg_codec.specs.Reading.{u8_at, u16_at, u32_at, u64_at, raw_at, fixed_at}
use Rattle.tg_codec.specs.Codec.{read_many, spell_many, fit_many}
use Rattle.tg_entry.specs.Reads.{marks, reads}
use Rattle.tg_entry.specs.Writes.{writes}
use Rattle.tg_entry.specs.Checkpoints.{keys, new_fields, old_fields}
use Rattle.tg_entry.specs.Format.{body, entry}
use Rattle.tg_base.specs.Orders.{node_eq}
use Rattle.tg_protocol.specs.Words.{bytes_eq, bytes_lt, part_lt, cell_eq}
use Rattle.tg_protocol.specs.Layouts.{chain_of, units_of, next_of, change_fault}
use Rattle.tg_protocol.specs.Units.{new_unit, unit_ask, first_missing, on_ask, unit_step}
use Rattle.tg_protocol.specs.LayoutServers.{new_layout, layout_ask, on_layout_ask, layout_step}
use Rattle.tg_protocol.specs.Replies.{reply}
use Rattle.tg_protocol.specs.Cells.{work_asks, put_cell, get_cell, fill_cell, probe, work_feed, cell_feed}
use Rattle.tg_entry.specs.Needs.{needs_decision}
use Rattle.tg_protocol.specs.Entries.{entry_size}
use Rattle.tg_protocol.specs.Pages.{page_of, entry_of}
use Rattle.tg_protocol.specs.Sequencers.{new_seqr, seqr_step, seqr_tick}
use Rattle.tg_protocol.specs.Appending.{append_work_asks, append_start, append_feed, append_again}
use Rattle.tg_protocol.specs.Syncing.{sync_work_asks, sync_start, sync_feed}
use Rattle.tg_protocol.specs.Walking.{walk_on, walk_start, walk_feed}
use Rattle.tg_protocol.specs.Versions.{no_versions, based, version_of, with_change, parts_of}
use Rattle.tg_protocol.specs.Views.{decision_in, view_start, view_version, view_parts, unknown_in, changed_in, verdict, view_outcome, step_at, play_on, play}
use Rattle.tg_protocol.specs.Transactions.{read_fault, write_fault, commit_record}
use Rattle.tg_protocol.specs.Checkpoints.{open_decision, checkpoint, bases_in, load_from, view_base, view_bases, may_forget}
use Rattle.tg_protocol.specs.Past.{commit_at, past_at, rescue_turn}
use Rattle.tg_protocol.specs.Trimming.{trim_start, trim_feed, copy_work_asks, copy_start, copy_feed}
use Rattle.tg_protocol.specs.Reconfiguring.{reconf_work_asks, reconf_start, reconf_feed, reconf_latest}
use Rattle.tg_protocol.specs.Clients.{new_client, entries_at, copy_fault, tests, refusal}
use Rattle.tg_protocol.specs.Answers.{appends, syncs, walked}
use Rattle.tg_protocol.specs.ClientSteps.{task_asks, client_asks, walks, task_feed, task_again, accepts, client_command, client_deliver, client_tick}
use Rattle.tg_protocol.specs.Sizes.{fields_size}
use Rattle.tg_protocol.specs.Logs.{decided, newest, log_of, entries_of, members, path_on, path, changes_below, version, outcome, history_of}
use Rattle.tg_protocol.specs.Worlds.{start, latest, log, history, unit_moves, layout_moves, seqr_moves, client_turned, happens, limit_of, drain_on, drain, tick_all, rounds, settle, line, lines, replay}
use Rattle.tg_protocol.specs.Runs.{run, Reaches}
use Rattle.tg_protocol.specs.Walked.{walks_end}
use Rattle.tg_law_examples.proofs.SevenKinds.{kinds}
use Rattle.tg_law_examples.proofs.Farther.{past_answers_header, past_answers_script}
use Rattle.tg_law_examples.proofs.Fenced.{fenced_trim_header, fenced_trim_script}
use Rattle.tg_law_examples.proofs.First.{crossed_reads_header, crossed_reads_script}
use Rattle.tg_law_examples.proofs.Moves.{carried_by_scan_header, carried_by_scan_script, checkpoints_and_trim_header, checkpoints_and_trim_script, new_sequencer_header, new_sequencer_script, overtaken_and_refused_header, overtaken_and_refused_script, unit_joins_header, unit_joins_script}
use Rattle.tg_base.specs.Clusters.{IsHeader}
use Rattle.tg_protocol.specs.Following.{LayoutsFollow}
use Rattle.tg_protocol.specs.Holding.{EntriesOwn}
use Rattle.tg_law_instances.proofs.StepTests.{drain_ev, tick_ev, round_ev}
use Rattle.tg_law_instances.proofs.FollowSound.{changes_in, all_follow, follow_sound}
use Rattle.tg_law_instances.proofs.Reaching.{script_moves, script_world, lawful_lines, reaches_sound, last_holds, drafts_in, are_own, own_sound}
use Rattle.tg_law_instances.proofs.Stepping.{crossed_reads_steps, checkpoints_and_trim_steps, carried_by_scan_steps, fenced_trim_steps}
use Rattle.tg_protocol.specs.Headline.{Holds}
use Rattle.tg_law_instances.proofs.FinishSound.{settlings_finish, SettlingsHold, settlings_sound}

lawful_crossed_reads : lawful_lines crossed_reads_header crossed_reads_script (start kinds crossed_reads_header) ≡ true
unfolding u8_at u16_at u32_at u64_at raw_at fixed_at read_many spell_many fit_many marks reads writes keys new_fields old_fields body entry node_eq bytes_eq bytes_lt part_lt cell_eq chain_of units_of next_of change_fault new_unit unit_ask first_missing on_ask unit_step new_layout layout_ask on_layout_ask layout_step reply work_asks put_cell get_cell fill_cell probe work_feed cell_feed entry_size needs_decision page_of entry_of new_seqr seqr_step seqr_tick append_work_asks append_start append_feed append_again sync_work_asks sync_start sync_feed walk_on walk_start walk_feed no_versions based version_of with_change parts_of decision_in view_start view_version view_parts unknown_in changed_in verdict view_outcome step_at play_on play read_fault write_fault commit_record open_decision checkpoint bases_in load_from view_base view_bases may_forget commit_at past_at rescue_turn trim_start trim_feed copy_work_asks copy_start copy_feed reconf_work_asks reconf_start reconf_feed reconf_latest new_client entries_at copy_fault tests refusal appends syncs walked task_asks client_asks walks task_feed task_again accepts client_command client_deliver client_tick fields_size decided newest log_of entries_of members path_on path changes_below version outcome history_of start latest log history unit_moves layout_moves seqr_moves client_turned happens limit_of drain_on drain tick_all rounds settle line lines run walks_end store_after changed puts_of asks_in bound_in entries_fault replies_fault fault drain_ev tick_ev round_ev lawful_lines drafts_in settlings_finish
lawful_crossed_reads = refl

header_of_crossed_reads : IsHeader crossed_reads_header
header_of_crossed_reads = refl

crossed_reads_reaches : Reaches kinds crossed_reads_header (script_moves crossed_reads_script (start kinds crossed_reads_header)) (script_world crossed_reads_script (start kinds crossed_reads_header))
crossed_reads_reaches = reaches_sound crossed_reads_header crossed_reads_script header_of_crossed_reads lawful_crossed_reads

crossed_reads_ends : Holds kinds (script_world crossed_reads_script (start kinds crossed_reads_header))
crossed_reads_ends = last_holds crossed_reads_script (start kinds crossed_reads_header) refl crossed_reads_steps

own_of_crossed_reads : are_own (drafts_in crossed_reads_script (start kinds crossed_reads_header)) (script_world crossed_reads_script (start kinds crossed_reads_header)) ≡ true
unfolding u8_at u16_at u32_at u64_at raw_at fixed_at read_many spell_many fit_many marks reads writes keys new_fields old_fields body entry node_eq bytes_eq bytes_lt part_lt cell_eq chain_of units_of next_of change_fault new_unit unit_ask first_missing on_ask unit_step new_layout layout_ask on_layout_ask layout_step reply work_asks put_cell get_cell fill_cell probe work_feed cell_feed entry_size needs_decision page_of entry_of new_seqr seqr_step seqr_tick append_work_asks append_start append_feed append_again sync_work_asks sync_start sync_feed walk_on walk_start walk_feed no_versions based version_of with_change parts_of decision_in view_start view_version view_parts unknown_in changed_in verdict view_outcome step_at play_on play read_fault write_fault commit_record open_decision checkpoint bases_in load_from view_base view_bases may_forget commit_at past_at rescue_turn trim_start trim_feed copy_work_asks copy_start copy_feed reconf_work_asks reconf_start reconf_feed reconf_latest new_client entries_at copy_fault tests refusal appends syncs walked task_asks client_asks walks task_feed task_again accepts client_command client_deliver client_tick fields_size decided newest log_of entries_of members path_on path changes_below version outcome history_of start latest log history unit_moves layout_moves seqr_moves client_turned happens limit_of drain_on drain tick_all rounds settle line lines run walks_end store_after changed puts_of asks_in bound_in entries_fault replies_fault fault drain_ev tick_ev round_ev lawful_lines drafts_in settlings_finish
own_of_crossed_reads = refl

crossed_reads_own : EntriesOwn kinds crossed_reads_header (script_moves crossed_reads_script (start kinds crossed_reads_header)) (script_world crossed_reads_script (start kinds crossed_reads_header))
crossed_reads_own = own_sound crossed_reads_header crossed_reads_script own_of_crossed_reads

lawful_checkpoints_and_trim : lawful_lines checkpoints_and_trim_header checkpoints_and_trim_script (start kinds checkpoints_and_trim_header) ≡ true
unfolding u8_at u16_at u32_at u64_at raw_at fixed_at read_many spell_many fit_many marks reads writes keys new_fields old_fields body entry node_eq bytes_eq bytes_lt part_lt cell_eq chain_of units_of next_of change_fault new_unit unit_ask first_missing on_ask unit_step new_layout layout_ask on_layout_ask layout_step reply work_asks put_cell get_cell fill_cell probe work_feed cell_feed entry_size needs_decision page_of entry_of new_seqr seqr_step seqr_tick append_work_asks append_start append_feed append_again sync_work_asks sync_start sync_feed walk_on walk_start walk_feed no_versions based version_of with_change parts_of decision_in view_start view_version view_parts unknown_in changed_in verdict view_outcome step_at play_on play read_fault write_fault commit_record open_decision checkpoint bases_in load_from view_base view_bases may_forget commit_at past_at rescue_turn trim_start trim_feed copy_work_asks copy_start copy_feed reconf_work_asks reconf_start reconf_feed reconf_latest new_client entries_at copy_fault tests refusal appends syncs walked task_asks client_asks walks task_feed task_again accepts client_command client_deliver client_tick fields_size decided newest log_of entries_of members path_on path changes_below version outcome history_of start latest log history unit_moves layout_moves seqr_moves client_turned happens limit_of drain_on drain tick_all rounds settle line lines run walks_end store_after changed puts_of asks_in bound_in entries_fault replies_fault fault drain_ev tick_ev round_ev lawful_lines drafts_in settlings_finish
lawful_checkpoints_and_trim = refl

header_of_checkpoints_and_trim : IsHeader checkpoints_and_trim_header
header_of_checkpoints_and_trim = refl

checkpoints_and_trim_reaches : Reaches kinds checkpoints_and_trim_header (script_moves checkpoints_and_trim_script (start kinds checkpoints_and_trim_header)) (script_world checkpoints_and_trim_script (start kinds checkpoints_and_trim_header))
checkpoints_and_trim_reaches = reaches_sound checkpoints_and_trim_header checkpoints_and_trim_script header_of_checkpoints_and_trim lawful_checkpoints_and_trim

checkpoints_and_trim_ends : Holds kinds (script_world checkpoints_and_trim_script (start kinds checkpoints_and_trim_header))
checkpoints_and_trim_ends = last_holds checkpoints_and_trim_script (start kinds checkpoints_and_trim_header) refl checkpoints_and_trim_steps

own_of_checkpoints_and_trim : are_own (drafts_in checkpoints_and_trim_script (start kinds checkpoints_and_trim_header)) (script_world checkpoints_and_trim_script (start kinds checkpoints_and_trim_header)) ≡ true
unfolding u8_at u16_at u32_at u64_at raw_at fixed_at read_many spell_many fit_many marks reads writes keys new_fields old_fields body entry node_eq bytes_eq bytes_lt part_lt cell_eq chain_of units_of next_of change_fault new_unit unit_ask first_missing on_ask unit_step new_layout layout_ask on_layout_ask layout_step reply work_asks put_cell get_cell fill_cell probe work_feed cell_feed entry_size needs_decision page_of entry_of new_seqr seqr_step seqr_tick append_work_asks append_start append_feed append_again sync_work_asks sync_start sync_feed walk_on walk_start walk_feed no_versions based version_of with_change parts_of decision_in view_start view_version view_parts unknown_in changed_in verdict view_outcome step_at play_on play read_fault write_fault commit_record open_decision checkpoint bases_in load_from view_base view_bases may_forget commit_at past_at rescue_turn trim_start trim_feed copy_work_asks copy_start copy_feed reconf_work_asks reconf_start reconf_feed reconf_latest new_client entries_at copy_fault tests refusal appends syncs walked task_asks client_asks walks task_feed task_again accepts client_command client_deliver client_tick fields_size decided newest log_of entries_of members path_on path changes_below version outcome history_of start latest log history unit_moves layout_moves seqr_moves client_turned happens limit_of drain_on drain tick_all rounds settle line lines run walks_end store_after changed puts_of asks_in bound_in entries_fault replies_fault fault drain_ev tick_ev round_ev lawful_lines drafts_in settlings_finish
own_of_checkpoints_and_trim = refl

checkpoints_and_trim_own : EntriesOwn kinds checkpoints_and_trim_header (script_moves checkpoints_and_trim_script (start kinds checkpoints_and_trim_header)) (script_world checkpoints_and_trim_script (start kinds checkpoints_and_trim_header))
checkpoints_and_trim_own = own_sound checkpoints_and_trim_header checkpoints_and_trim_script own_of_checkpoints_and_trim

lawful_carried_by_scan : lawful_lines carried_by_scan_header carried_by_scan_script (start kinds carried_by_scan_header) ≡ true
unfolding u8_at u16_at u32_at u64_at raw_at fixed_at read_many spell_many fit_many marks reads writes keys new_fields old_fields body entry node_eq bytes_eq bytes_lt part_lt cell_eq chain_of units_of next_of change_fault new_unit unit_ask first_missing on_ask unit_step new_layout layout_ask on_layout_ask layout_step reply work_asks put_cell get_cell fill_cell probe work_feed cell_feed entry_size needs_decision page_of entry_of new_seqr seqr_step seqr_tick append_work_asks append_start append_feed append_again sync_work_asks sync_start sync_feed walk_on walk_start walk_feed no_versions based version_of with_change parts_of decision_in view_start view_version view_parts unknown_in changed_in verdict view_outcome step_at play_on play read_fault write_fault commit_record open_decision checkpoint bases_in load_from view_base view_bases may_forget commit_at past_at rescue_turn trim_start trim_feed copy_work_asks copy_start copy_feed reconf_work_asks reconf_start reconf_feed reconf_latest new_client entries_at copy_fault tests refusal appends syncs walked task_asks client_asks walks task_feed task_again accepts client_command client_deliver client_tick fields_size decided newest log_of entries_of members path_on path changes_below version outcome history_of start latest log history unit_moves layout_moves seqr_moves client_turned happens limit_of drain_on drain tick_all rounds settle line lines run walks_end store_after changed puts_of asks_in bound_in entries_fault replies_fault fault drain_ev tick_ev round_ev lawful_lines drafts_in settlings_finish
lawful_carried_by_scan = refl

header_of_carried_by_scan : IsHeader carried_by_scan_header
header_of_carried_by_scan = refl

carried_by_scan_reaches : Reaches kinds carried_by_scan_header (script_moves carried_by_scan_script (start kinds carried_by_scan_header)) (script_world carried_by_scan_script (start kinds carried_by_scan_header))
carried_by_scan_reaches = reaches_sound carried_by_scan_header carried_by_scan_script header_of_carried_by_scan lawful_carried_by_scan

carried_by_scan_ends : Holds kinds (script_world carried_by_scan_script (start kinds carried_by_scan_header))
carried_by_scan_ends = last_holds carried_by_scan_script (start kinds carried_by_scan_header) refl carried_by_scan_steps

own_of_carried_by_scan : are_own (drafts_in carried_by_scan_script (start kinds carried_by_scan_header)) (script_world carried_by_scan_script (start kinds carried_by_scan_header)) ≡ true
unfolding u8_at u16_at u32_at u64_at raw_at fixed_at read_many spell_many fit_many marks reads writes keys new_fields old_fields body entry node_eq bytes_eq bytes_lt part_lt cell_eq chain_of units_of next_of change_fault new_unit unit_ask first_missing on_ask unit_step new_layout layout_ask on_layout_ask layout_step reply work_asks put_cell get_cell fill_cell probe work_feed cell_feed entry_size needs_decision page_of entry_of new_seqr seqr_step seqr_tick append_work_asks append_start append_feed append_again sync_work_asks sync_start sync_feed walk_on walk_start walk_feed no_versions based version_of with_change parts_of decision_in view_start view_version view_parts unknown_in changed_in verdict view_outcome step_at play_on play read_fault write_fault commit_record open_decision checkpoint bases_in load_from view_base view_bases may_forget commit_at past_at rescue_turn trim_start trim_feed copy_work_asks copy_start copy_feed reconf_work_asks reconf_start reconf_feed reconf_latest new_client entries_at copy_fault tests refusal appends syncs walked task_asks client_asks walks task_feed task_again accepts client_command client_deliver client_tick fields_size decided newest log_of entries_of members path_on path changes_below version outcome history_of start latest log history unit_moves layout_moves seqr_moves client_turned happens limit_of drain_on drain tick_all rounds settle line lines run walks_end store_after changed puts_of asks_in bound_in entries_fault replies_fault fault drain_ev tick_ev round_ev lawful_lines drafts_in settlings_finish
own_of_carried_by_scan = refl

carried_by_scan_own : EntriesOwn kinds carried_by_scan_header (script_moves carried_by_scan_script (start kinds carried_by_scan_header)) (script_world carried_by_scan_script (start kinds carried_by_scan_header))
carried_by_scan_own = own_sound carried_by_scan_header carried_by_scan_script own_of_carried_by_scan

layouts_of_new_sequencer : all_follow (replay kinds new_sequencer_header new_sequencer_script) (changes_in new_sequencer_script) ≡ true
unfolding u8_at u16_at u32_at u64_at raw_at fixed_at read_many spell_many fit_many marks reads writes keys new_fields old_fields body entry node_eq bytes_eq bytes_lt part_lt cell_eq chain_of units_of next_of change_fault new_unit unit_ask first_missing on_ask unit_step new_layout layout_ask on_layout_ask layout_step reply work_asks put_cell get_cell fill_cell probe work_feed cell_feed entry_size needs_decision page_of entry_of new_seqr seqr_step seqr_tick append_work_asks append_start append_feed append_again sync_work_asks sync_start sync_feed walk_on walk_start walk_feed no_versions based version_of with_change parts_of decision_in view_start view_version view_parts unknown_in changed_in verdict view_outcome step_at play_on play read_fault write_fault commit_record open_decision checkpoint bases_in load_from view_base view_bases may_forget commit_at past_at rescue_turn trim_start trim_feed copy_work_asks copy_start copy_feed reconf_work_asks reconf_start reconf_feed reconf_latest new_client entries_at copy_fault tests refusal appends syncs walked task_asks client_asks walks task_feed task_again accepts client_command client_deliver client_tick fields_size decided newest log_of entries_of members path_on path changes_below version outcome history_of start latest log history unit_moves layout_moves seqr_moves client_turned happens limit_of drain_on drain tick_all rounds settle line lines run walks_end store_after changed puts_of asks_in bound_in entries_fault replies_fault fault drain_ev tick_ev round_ev lawful_lines drafts_in settlings_finish
layouts_of_new_sequencer = refl

new_sequencer_follows : LayoutsFollow kinds (replay kinds new_sequencer_header new_sequencer_script)
new_sequencer_follows = follow_sound (replay kinds new_sequencer_header new_sequencer_script) (changes_in new_sequencer_script) layouts_of_new_sequencer

layouts_of_carried_by_scan : all_follow (replay kinds carried_by_scan_header carried_by_scan_script) (changes_in carried_by_scan_script) ≡ true
unfolding u8_at u16_at u32_at u64_at raw_at fixed_at read_many spell_many fit_many marks reads writes keys new_fields old_fields body entry node_eq bytes_eq bytes_lt part_lt cell_eq chain_of units_of next_of change_fault new_unit unit_ask first_missing on_ask unit_step new_layout layout_ask on_layout_ask layout_step reply work_asks put_cell get_cell fill_cell probe work_feed cell_feed entry_size needs_decision page_of entry_of new_seqr seqr_step seqr_tick append_work_asks append_start append_feed append_again sync_work_asks sync_start sync_feed walk_on walk_start walk_feed no_versions based version_of with_change parts_of decision_in view_start view_version view_parts unknown_in changed_in verdict view_outcome step_at play_on play read_fault write_fault commit_record open_decision checkpoint bases_in load_from view_base view_bases may_forget commit_at past_at rescue_turn trim_start trim_feed copy_work_asks copy_start copy_feed reconf_work_asks reconf_start reconf_feed reconf_latest new_client entries_at copy_fault tests refusal appends syncs walked task_asks client_asks walks task_feed task_again accepts client_command client_deliver client_tick fields_size decided newest log_of entries_of members path_on path changes_below version outcome history_of start latest log history unit_moves layout_moves seqr_moves client_turned happens limit_of drain_on drain tick_all rounds settle line lines run walks_end store_after changed puts_of asks_in bound_in entries_fault replies_fault fault drain_ev tick_ev round_ev lawful_lines drafts_in settlings_finish
layouts_of_carried_by_scan = refl

carried_by_scan_follows : LayoutsFollow kinds (replay kinds carried_by_scan_header carried_by_scan_script)
carried_by_scan_follows = follow_sound (replay kinds carried_by_scan_header carried_by_scan_script) (changes_in carried_by_scan_script) layouts_of_carried_by_scan

layouts_of_unit_joins : all_follow (replay kinds unit_joins_header unit_joins_script) (changes_in unit_joins_script) ≡ true
unfolding u8_at u16_at u32_at u64_at raw_at fixed_at read_many spell_many fit_many marks reads writes keys new_fields old_fields body entry node_eq bytes_eq bytes_lt part_lt cell_eq chain_of units_of next_of change_fault new_unit unit_ask first_missing on_ask unit_step new_layout layout_ask on_layout_ask layout_step reply work_asks put_cell get_cell fill_cell probe work_feed cell_feed entry_size needs_decision page_of entry_of new_seqr seqr_step seqr_tick append_work_asks append_start append_feed append_again sync_work_asks sync_start sync_feed walk_on walk_start walk_feed no_versions based version_of with_change parts_of decision_in view_start view_version view_parts unknown_in changed_in verdict view_outcome step_at play_on play read_fault write_fault commit_record open_decision checkpoint bases_in load_from view_base view_bases may_forget commit_at past_at rescue_turn trim_start trim_feed copy_work_asks copy_start copy_feed reconf_work_asks reconf_start reconf_feed reconf_latest new_client entries_at copy_fault tests refusal appends syncs walked task_asks client_asks walks task_feed task_again accepts client_command client_deliver client_tick fields_size decided newest log_of entries_of members path_on path changes_below version outcome history_of start latest log history unit_moves layout_moves seqr_moves client_turned happens limit_of drain_on drain tick_all rounds settle line lines run walks_end store_after changed puts_of asks_in bound_in entries_fault replies_fault fault drain_ev tick_ev round_ev lawful_lines drafts_in settlings_finish
layouts_of_unit_joins = refl

unit_joins_follows : LayoutsFollow kinds (replay kinds unit_joins_header unit_joins_script)
unit_joins_follows = follow_sound (replay kinds unit_joins_header unit_joins_script) (changes_in unit_joins_script) layouts_of_unit_joins

layouts_of_overtaken_and_refused : all_follow (replay kinds overtaken_and_refused_header overtaken_and_refused_script) (changes_in overtaken_and_refused_script) ≡ true
unfolding u8_at u16_at u32_at u64_at raw_at fixed_at read_many spell_many fit_many marks reads writes keys new_fields old_fields body entry node_eq bytes_eq bytes_lt part_lt cell_eq chain_of units_of next_of change_fault new_unit unit_ask first_missing on_ask unit_step new_layout layout_ask on_layout_ask layout_step reply work_asks put_cell get_cell fill_cell probe work_feed cell_feed entry_size needs_decision page_of entry_of new_seqr seqr_step seqr_tick append_work_asks append_start append_feed append_again sync_work_asks sync_start sync_feed walk_on walk_start walk_feed no_versions based version_of with_change parts_of decision_in view_start view_version view_parts unknown_in changed_in verdict view_outcome step_at play_on play read_fault write_fault commit_record open_decision checkpoint bases_in load_from view_base view_bases may_forget commit_at past_at rescue_turn trim_start trim_feed copy_work_asks copy_start copy_feed reconf_work_asks reconf_start reconf_feed reconf_latest new_client entries_at copy_fault tests refusal appends syncs walked task_asks client_asks walks task_feed task_again accepts client_command client_deliver client_tick fields_size decided newest log_of entries_of members path_on path changes_below version outcome history_of start latest log history unit_moves layout_moves seqr_moves client_turned happens limit_of drain_on drain tick_all rounds settle line lines run walks_end store_after changed puts_of asks_in bound_in entries_fault replies_fault fault drain_ev tick_ev round_ev lawful_lines drafts_in settlings_finish
layouts_of_overtaken_and_refused = refl

overtaken_and_refused_follows : LayoutsFollow kinds (replay kinds overtaken_and_refused_header overtaken_and_refused_script)
overtaken_and_refused_follows = follow_sound (replay kinds overtaken_and_refused_header overtaken_and_refused_script) (changes_in overtaken_and_refused_script) layouts_of_overtaken_and_refused

answers_of_past_answers : settlings_finish past_answers_script (start kinds past_answers_header) ≡ true
unfolding u8_at u16_at u32_at u64_at raw_at fixed_at read_many spell_many fit_many marks reads writes keys new_fields old_fields body entry node_eq bytes_eq bytes_lt part_lt cell_eq chain_of units_of next_of change_fault new_unit unit_ask first_missing on_ask unit_step new_layout layout_ask on_layout_ask layout_step reply work_asks put_cell get_cell fill_cell probe work_feed cell_feed entry_size needs_decision page_of entry_of new_seqr seqr_step seqr_tick append_work_asks append_start append_feed append_again sync_work_asks sync_start sync_feed walk_on walk_start walk_feed no_versions based version_of with_change parts_of decision_in view_start view_version view_parts unknown_in changed_in verdict view_outcome step_at play_on play read_fault write_fault commit_record open_decision checkpoint bases_in load_from view_base view_bases may_forget commit_at past_at rescue_turn trim_start trim_feed copy_work_asks copy_start copy_feed reconf_work_asks reconf_start reconf_feed reconf_latest new_client entries_at copy_fault tests refusal appends syncs walked task_asks client_asks walks task_feed task_again accepts client_command client_deliver client_tick fields_size decided newest log_of entries_of members path_on path changes_below version outcome history_of start latest log history unit_moves layout_moves seqr_moves client_turned happens limit_of drain_on drain tick_all rounds settle line lines run walks_end store_after changed puts_of asks_in bound_in entries_fault replies_fault fault drain_ev tick_ev round_ev lawful_lines drafts_in settlings_finish
answers_of_past_answers = refl

past_answers_settles : SettlingsHold past_answers_script (start kinds past_answers_header)
past_answers_settles = settlings_sound past_answers_script (start kinds past_answers_header) answers_of_past_answers

answers_of_overtaken_and_refused : settlings_finish overtaken_and_refused_script (start kinds overtaken_and_refused_header) ≡ true
unfolding u8_at u16_at u32_at u64_at raw_at fixed_at read_many spell_many fit_many marks reads writes keys new_fields old_fields body entry node_eq bytes_eq bytes_lt part_lt cell_eq chain_of units_of next_of change_fault new_unit unit_ask first_missing on_ask unit_step new_layout layout_ask on_layout_ask layout_step reply work_asks put_cell get_cell fill_cell probe work_feed cell_feed entry_size needs_decision page_of entry_of new_seqr seqr_step seqr_tick append_work_asks append_start append_feed append_again sync_work_asks sync_start sync_feed walk_on walk_start walk_feed no_versions based version_of with_change parts_of decision_in view_start view_version view_parts unknown_in changed_in verdict view_outcome step_at play_on play read_fault write_fault commit_record open_decision checkpoint bases_in load_from view_base view_bases may_forget commit_at past_at rescue_turn trim_start trim_feed copy_work_asks copy_start copy_feed reconf_work_asks reconf_start reconf_feed reconf_latest new_client entries_at copy_fault tests refusal appends syncs walked task_asks client_asks walks task_feed task_again accepts client_command client_deliver client_tick fields_size decided newest log_of entries_of members path_on path changes_below version outcome history_of start latest log history unit_moves layout_moves seqr_moves client_turned happens limit_of drain_on drain tick_all rounds settle line lines run walks_end store_after changed puts_of asks_in bound_in entries_fault replies_fault fault drain_ev tick_ev round_ev lawful_lines drafts_in settlings_finish
answers_of_overtaken_and_refused = refl

overtaken_and_refused_settles : SettlingsHold overtaken_and_refused_script (start kinds overtaken_and_refused_header)
overtaken_and_refused_settles = settlings_sound overtaken_and_refused_script (start kinds overtaken_and_refused_header) answers_of_overtaken_and_refused

lawful_fenced_trim : lawful_lines fenced_trim_header fenced_trim_script (start kinds fenced_trim_header) ≡ true
unfolding u8_at u16_at u32_at u64_at raw_at fixed_at read_many spell_many fit_many marks reads writes keys new_fields old_fields body entry node_eq bytes_eq bytes_lt part_lt cell_eq chain_of units_of next_of change_fault new_unit unit_ask first_missing on_ask unit_step new_layout layout_ask on_layout_ask layout_step reply work_asks put_cell get_cell fill_cell probe work_feed cell_feed entry_size needs_decision page_of entry_of new_seqr seqr_step seqr_tick append_work_asks append_start append_feed append_again sync_work_asks sync_start sync_feed walk_on walk_start walk_feed no_versions based version_of with_change parts_of decision_in view_start view_version view_parts unknown_in changed_in verdict view_outcome step_at play_on play read_fault write_fault commit_record open_decision checkpoint bases_in load_from view_base view_bases may_forget commit_at past_at rescue_turn trim_start trim_feed copy_work_asks copy_start copy_feed reconf_work_asks reconf_start reconf_feed reconf_latest new_client entries_at copy_fault tests refusal appends syncs walked task_asks client_asks walks task_feed task_again accepts client_command client_deliver client_tick fields_size decided newest log_of entries_of members path_on path changes_below version outcome history_of start latest log history unit_moves layout_moves seqr_moves client_turned happens limit_of drain_on drain tick_all rounds settle line lines run walks_end store_after changed puts_of asks_in bound_in entries_fault replies_fault fault drain_ev tick_ev round_ev lawful_lines drafts_in settlings_finish
lawful_fenced_trim = refl

header_of_fenced_trim : IsHeader fenced_trim_header
header_of_fenced_trim = refl

fenced_trim_reaches : Reaches kinds fenced_trim_header (script_moves fenced_trim_script (start kinds fenced_trim_header)) (script_world fenced_trim_script (start kinds fenced_trim_header))
fenced_trim_reaches = reaches_sound fenced_trim_header fenced_trim_script header_of_fenced_trim lawful_fenced_trim

fenced_trim_ends : Holds kinds (script_world fenced_trim_script (start kinds fenced_trim_header))
fenced_trim_ends = last_holds fenced_trim_script (start kinds fenced_trim_header) refl fenced_trim_steps

own_of_fenced_trim : are_own (drafts_in fenced_trim_script (start kinds fenced_trim_header)) (script_world fenced_trim_script (start kinds fenced_trim_header)) ≡ true
unfolding u8_at u16_at u32_at u64_at raw_at fixed_at read_many spell_many fit_many marks reads writes keys new_fields old_fields body entry node_eq bytes_eq bytes_lt part_lt cell_eq chain_of units_of next_of change_fault new_unit unit_ask first_missing on_ask unit_step new_layout layout_ask on_layout_ask layout_step reply work_asks put_cell get_cell fill_cell probe work_feed cell_feed entry_size needs_decision page_of entry_of new_seqr seqr_step seqr_tick append_work_asks append_start append_feed append_again sync_work_asks sync_start sync_feed walk_on walk_start walk_feed no_versions based version_of with_change parts_of decision_in view_start view_version view_parts unknown_in changed_in verdict view_outcome step_at play_on play read_fault write_fault commit_record open_decision checkpoint bases_in load_from view_base view_bases may_forget commit_at past_at rescue_turn trim_start trim_feed copy_work_asks copy_start copy_feed reconf_work_asks reconf_start reconf_feed reconf_latest new_client entries_at copy_fault tests refusal appends syncs walked task_asks client_asks walks task_feed task_again accepts client_command client_deliver client_tick fields_size decided newest log_of entries_of members path_on path changes_below version outcome history_of start latest log history unit_moves layout_moves seqr_moves client_turned happens limit_of drain_on drain tick_all rounds settle line lines run walks_end store_after changed puts_of asks_in bound_in entries_fault replies_fault fault drain_ev tick_ev round_ev lawful_lines drafts_in settlings_finish
own_of_fenced_trim = refl

fenced_trim_own : EntriesOwn kinds fenced_trim_header (script_moves fenced_trim_script (start kinds fenced_trim_header)) (script_world fenced_trim_script (start kinds fenced_trim_header))
fenced_trim_own = own_sound fenced_trim_header fenced_trim_script own_of_fenced_trim

layouts_of_fenced_trim : all_follow (replay kinds fenced_trim_header fenced_trim_script) (changes_in fenced_trim_script) ≡ true
unfolding u8_at u16_at u32_at u64_at raw_at fixed_at read_many spell_many fit_many marks reads writes keys new_fields old_fields body entry node_eq bytes_eq bytes_lt part_lt cell_eq chain_of units_of next_of change_fault new_unit unit_ask first_missing on_ask unit_step new_layout layout_ask on_layout_ask layout_step reply work_asks put_cell get_cell fill_cell probe work_feed cell_feed entry_size needs_decision page_of entry_of new_seqr seqr_step seqr_tick append_work_asks append_start append_feed append_again sync_work_asks sync_start sync_feed walk_on walk_start walk_feed no_versions based version_of with_change parts_of decision_in view_start view_version view_parts unknown_in changed_in verdict view_outcome step_at play_on play read_fault write_fault commit_record open_decision checkpoint bases_in load_from view_base view_bases may_forget commit_at past_at rescue_turn trim_start trim_feed copy_work_asks copy_start copy_feed reconf_work_asks reconf_start reconf_feed reconf_latest new_client entries_at copy_fault tests refusal appends syncs walked task_asks client_asks walks task_feed task_again accepts client_command client_deliver client_tick fields_size decided newest log_of entries_of members path_on path changes_below version outcome history_of start latest log history unit_moves layout_moves seqr_moves client_turned happens limit_of drain_on drain tick_all rounds settle line lines run walks_end store_after changed puts_of asks_in bound_in entries_fault replies_fault fault drain_ev tick_ev round_ev lawful_lines drafts_in settlings_finish
layouts_of_fenced_trim = refl

fenced_trim_follows : LayoutsFollow kinds (replay kinds fenced_trim_header fenced_trim_script)
fenced_trim_follows = follow_sound (replay kinds fenced_trim_header fenced_trim_script) (changes_in fenced_trim_script) layouts_of_fenced_trim
