-- Changed worlds, and changed steps, of worked runs, and the claims that fail of them.
use Rattle.std.proofs.Common.{◌≡◌, List, [], ◌∷◌, refl}
use Rattle.std.specs.Prelude.{true, false, ◌++◌, pos}
use Rattle.tg_model.specs.Stores.{store_after, changed}
use Rattle.tg_model.specs.Traces.{puts_of}
use Rattle.tg_model.specs.Verdicts.{asks_in, bound_in, entries_fault, replies_fault, fault}
use Rattle.tg_codec.specs.Reading.{u8_at, u16_at, u32_at, u64_at, raw_at, fixed_at}
use Rattle.tg_codec.specs.Codec.{read_many, spell_many, fit_many}
use Rattle.tg_entry.specs.Reads.{marks, reads}
use Rattle.tg_entry.specs.Writes.{writes}
use Rattle.tg_entry.specs.Checkpoints.{keys, new_fields, old_fields}
use Rattle.tg_entry.specs.Format.{body, entry}
use Rattle.tg_base.specs.Orders.{node_eq}
use Rattle.tg_protocol.specs.Words.{bytes_eq, bytes_lt, part_lt, cell_eq}
use Rattle.tg_protocol.specs.Layouts.{chain_of, units_of, next_of, change_fault}
use Rattle.tg_protocol.specs.Units.{new_unit, unit_ask, first_missing, on_ask, unit_step}
use Rattle.tg_protocol.specs.LayoutServers.{new_layout, layout_ask, on_layout_ask, layout_step}
use Rattle.tg_protocol.specs.Replies.{reply}
use Rattle.tg_protocol.specs.Cells.{work_asks, put_cell, get_cell, fill_cell, probe, work_feed, cell_feed}
use Rattle.tg_entry.specs.Needs.{needs_decision}
use Rattle.tg_protocol.specs.Entries.{entry_size}
use Rattle.tg_protocol.specs.Pages.{page_of, entry_of}
use Rattle.tg_protocol.specs.Sequencers.{new_seqr, seqr_step, seqr_tick}
use Rattle.tg_protocol.specs.Appending.{append_work_asks, append_start, append_feed, append_again}
use Rattle.tg_protocol.specs.Syncing.{sync_work_asks, sync_start, sync_feed}
use Rattle.tg_protocol.specs.Walking.{walk_on, walk_start, walk_feed}
use Rattle.tg_protocol.specs.Versions.{no_versions, based, version_of, with_change, parts_of}
use Rattle.tg_protocol.specs.Views.{decision_in, view_start, view_version, view_parts, unknown_in, changed_in, verdict, view_outcome, step_at, play_on, play}
use Rattle.tg_protocol.specs.Transactions.{read_fault, write_fault, commit_record}
use Rattle.tg_protocol.specs.Checkpoints.{open_decision, checkpoint, bases_in, load_from, view_base, view_bases, may_forget}
use Rattle.tg_protocol.specs.Past.{commit_at, past_at, rescue_turn}
use Rattle.tg_protocol.specs.Trimming.{trim_start, trim_feed, copy_work_asks, copy_start, copy_feed}
use Rattle.tg_protocol.specs.Reconfiguring.{reconf_work_asks, reconf_start, reconf_feed, reconf_latest}
use Rattle.tg_protocol.specs.Clients.{new_client, entries_at, copy_fault, tests, refusal}
use Rattle.tg_protocol.specs.Answers.{appends, syncs, walked}
use Rattle.tg_protocol.specs.ClientSteps.{task_asks, client_asks, walks, task_feed, task_again, accepts, client_command, client_deliver, client_tick}
use Rattle.tg_protocol.specs.Sizes.{fields_size}
use Rattle.tg_protocol.specs.Logs.{decided, newest, log_of, entries_of, members, path_on, path, changes_below, version, outcome, history_of}
use Rattle.tg_protocol.specs.Worlds.{start, latest, log, history, unit_moves, layout_moves, seqr_moves, client_turned, happens, limit_of, drain_on, drain, tick_all, rounds, settle, line, lines, replay, Line, Happens, Update, Settle}
use Rattle.tg_protocol.specs.Runs.{run}
use Rattle.tg_protocol.specs.Walked.{walks_end}
use Rattle.tg_law_examples.proofs.SevenKinds.{kinds}
use Rattle.tg_law_examples.proofs.Farther.{open_record_header, open_record_script, past_answers_header, past_answers_script, past_trimmed_header, past_trimmed_script, rescue_and_trim_header, rescue_and_trim_script, rescue_by_part_header, rescue_by_part_script}
use Rattle.tg_law_examples.proofs.First.{crossed_reads_header, crossed_reads_script, hole_filled_header, hole_filled_script, orphan_decided_header, orphan_decided_script, page_carried_down_header, page_carried_down_script, refusals_header, refusals_script, two_updates_header, two_updates_script, unsure_then_fate_header, unsure_then_fate_script}
use Rattle.tg_law_examples.proofs.Moves.{carried_by_scan_header, carried_by_scan_script, checkpoints_and_trim_header, checkpoints_and_trim_script, two_keys_header, two_keys_script, unit_joins_header, unit_joins_script}
use Rattle.tg_law_examples.proofs.PlayingOn.{view_plays_on_header, view_plays_on_script}
use Rattle.tg_law_instances.proofs.Tests as claim
use Rattle.tg_law_instances.proofs.Tests.{world_fails, path_fails, linked, layouts, one_layout}
use Rattle.tg_law_instances.proofs.StepTests.{drain_ev, tick_ev, round_ev, step_fails, run_fails, changed_so, replied, ends_walks, sends_reads, log_stays}
use Rattle.tg_law_instances.proofs.Changes.{doctored, copied, unheard, untold, trimmed_more as trims_more, unarchived, played_more as plays_more, replaced, two_layouts, higher, reads as reads_at, viewless, closed, with_client, knows_log, reads_low, emptied, replied_so, accepted, none_there as says_none, last_wrong, named_late, untrimmed, undecided, marked_less, commits_later}
use Rattle.tg_base.specs.Clusters.{Header}
use Rattle.tg_model.specs.declared.command.Command.TheVariants as cmd
use Rattle.tg_model.specs.declared.command.Event.TheVariants.{Command as Commands}
use Rattle.tg_law_examples.proofs.SevenKinds as kind
use Rattle.tg_law_examples.proofs.Shown.{obj}
use Rattle.tg_protocol.specs.Headline.{Holds}
use Rattle.tg_protocol.specs.Alike.{Alike, PastTrue, RescueTrue, CheckpointsTrue}
use Rattle.tg_protocol.specs.Chosen.{OneLayout}
use Rattle.tg_protocol.specs.Holding.{EntriesLinked, FloorsStay, TrimsSpare, LogStays}
use Rattle.tg_protocol.specs.Causes.{DirectoryTrue, AbortsLeast}
use Rattle.tg_law_instances.proofs.Readings.{es_of}
use Rattle.tg_law_instances.proofs.Refuted.{headline_refuted, linked_refuted, one_layout_refuted, some_cell_lost, stays_refuted, aborts_refuted, alike_refuted, checkpoints_refuted, directories_refuted, floors_refuted, past_refuted, rescue_refuted, some_aborts_off, some_alike_off, some_checkpoint_off, some_directory_off, some_floor_off, some_past_off, some_rescue_off, some_trim_off, trims_refuted}

abbrev plays_on_further_header : Header
plays_on_further_header = view_plays_on_header

abbrev plays_on_further_script : List (Line kinds)
plays_on_further_script = view_plays_on_script ++
    Happens (Commands 1 cmd.End) ∷
    Update 0 (obj 16777216) (kind.Add (pos 1)) ∷
    Settle ∷
    Update 0 (obj 16777216) (kind.Add (pos 1)) ∷
    Settle ∷
    Happens (Commands 1 cmd.Begin) ∷
    Happens (Commands 1 (cmd.Ask (obj 16777216) kind.Value)) ∷
    Settle ∷ []

reply_of_crossed_reads : world_fails (doctored 11 (replay kinds crossed_reads_header crossed_reads_script)) ≡ claim.IsLegal ∷ claim.LogAgrees ∷ []
unfolding u8_at u16_at u32_at u64_at raw_at fixed_at read_many spell_many fit_many marks reads writes keys new_fields old_fields body entry node_eq bytes_eq bytes_lt part_lt cell_eq chain_of units_of next_of change_fault new_unit unit_ask first_missing on_ask unit_step new_layout layout_ask on_layout_ask layout_step reply work_asks put_cell get_cell fill_cell probe work_feed cell_feed entry_size needs_decision page_of entry_of new_seqr seqr_step seqr_tick append_work_asks append_start append_feed append_again sync_work_asks sync_start sync_feed walk_on walk_start walk_feed no_versions based version_of with_change parts_of decision_in view_start view_version view_parts unknown_in changed_in verdict view_outcome step_at play_on play read_fault write_fault commit_record open_decision checkpoint bases_in load_from view_base view_bases may_forget commit_at past_at rescue_turn trim_start trim_feed copy_work_asks copy_start copy_feed reconf_work_asks reconf_start reconf_feed reconf_latest new_client entries_at copy_fault tests refusal appends syncs walked task_asks client_asks walks task_feed task_again accepts client_command client_deliver client_tick fields_size decided newest log_of entries_of members path_on path changes_below version outcome history_of start latest log history unit_moves layout_moves seqr_moves client_turned happens limit_of drain_on drain tick_all rounds settle line lines run walks_end store_after changed puts_of asks_in bound_in entries_fault replies_fault fault world_fails path_fails drain_ev tick_ev round_ev step_fails run_fails
reply_of_crossed_reads = refl

reply_of_crossed_reads_refutes : Holds kinds (doctored 11 (replay kinds crossed_reads_header crossed_reads_script)) → ⊥
reply_of_crossed_reads_refutes = headline_refuted (doctored 11 (replay kinds crossed_reads_header crossed_reads_script)) (claim.IsLegal ∷ claim.LogAgrees ∷ []) reply_of_crossed_reads refl refl

reply_of_trim : world_fails (doctored 16 (replay kinds checkpoints_and_trim_header checkpoints_and_trim_script)) ≡ claim.LogAgrees ∷ []
unfolding u8_at u16_at u32_at u64_at raw_at fixed_at read_many spell_many fit_many marks reads writes keys new_fields old_fields body entry node_eq bytes_eq bytes_lt part_lt cell_eq chain_of units_of next_of change_fault new_unit unit_ask first_missing on_ask unit_step new_layout layout_ask on_layout_ask layout_step reply work_asks put_cell get_cell fill_cell probe work_feed cell_feed entry_size needs_decision page_of entry_of new_seqr seqr_step seqr_tick append_work_asks append_start append_feed append_again sync_work_asks sync_start sync_feed walk_on walk_start walk_feed no_versions based version_of with_change parts_of decision_in view_start view_version view_parts unknown_in changed_in verdict view_outcome step_at play_on play read_fault write_fault commit_record open_decision checkpoint bases_in load_from view_base view_bases may_forget commit_at past_at rescue_turn trim_start trim_feed copy_work_asks copy_start copy_feed reconf_work_asks reconf_start reconf_feed reconf_latest new_client entries_at copy_fault tests refusal appends syncs walked task_asks client_asks walks task_feed task_again accepts client_command client_deliver client_tick fields_size decided newest log_of entries_of members path_on path changes_below version outcome history_of start latest log history unit_moves layout_moves seqr_moves client_turned happens limit_of drain_on drain tick_all rounds settle line lines run walks_end store_after changed puts_of asks_in bound_in entries_fault replies_fault fault world_fails path_fails drain_ev tick_ev round_ev step_fails run_fails
reply_of_trim = refl

reply_of_trim_off : some_alike_off (doctored 16 (replay kinds checkpoints_and_trim_header checkpoints_and_trim_script)) ≡ true
unfolding u8_at u16_at u32_at u64_at raw_at fixed_at read_many spell_many fit_many marks reads writes keys new_fields old_fields body entry node_eq bytes_eq bytes_lt part_lt cell_eq chain_of units_of next_of change_fault new_unit unit_ask first_missing on_ask unit_step new_layout layout_ask on_layout_ask layout_step reply work_asks put_cell get_cell fill_cell probe work_feed cell_feed entry_size needs_decision page_of entry_of new_seqr seqr_step seqr_tick append_work_asks append_start append_feed append_again sync_work_asks sync_start sync_feed walk_on walk_start walk_feed no_versions based version_of with_change parts_of decision_in view_start view_version view_parts unknown_in changed_in verdict view_outcome step_at play_on play read_fault write_fault commit_record open_decision checkpoint bases_in load_from view_base view_bases may_forget commit_at past_at rescue_turn trim_start trim_feed copy_work_asks copy_start copy_feed reconf_work_asks reconf_start reconf_feed reconf_latest new_client entries_at copy_fault tests refusal appends syncs walked task_asks client_asks walks task_feed task_again accepts client_command client_deliver client_tick fields_size decided newest log_of entries_of members path_on path changes_below version outcome history_of start latest log history unit_moves layout_moves seqr_moves client_turned happens limit_of drain_on drain tick_all rounds settle line lines run walks_end store_after changed puts_of asks_in bound_in entries_fault replies_fault fault world_fails path_fails drain_ev tick_ev round_ev step_fails run_fails
reply_of_trim_off = refl

reply_of_trim_isnt : Alike kinds (doctored 16 (replay kinds checkpoints_and_trim_header checkpoints_and_trim_script)) → ⊥
reply_of_trim_isnt = alike_refuted (doctored 16 (replay kinds checkpoints_and_trim_header checkpoints_and_trim_script)) reply_of_trim_off

reply_of_join : world_fails (doctored 3 (replay kinds unit_joins_header unit_joins_script)) ≡ claim.IsLegal ∷ claim.LogAgrees ∷ []
unfolding u8_at u16_at u32_at u64_at raw_at fixed_at read_many spell_many fit_many marks reads writes keys new_fields old_fields body entry node_eq bytes_eq bytes_lt part_lt cell_eq chain_of units_of next_of change_fault new_unit unit_ask first_missing on_ask unit_step new_layout layout_ask on_layout_ask layout_step reply work_asks put_cell get_cell fill_cell probe work_feed cell_feed entry_size needs_decision page_of entry_of new_seqr seqr_step seqr_tick append_work_asks append_start append_feed append_again sync_work_asks sync_start sync_feed walk_on walk_start walk_feed no_versions based version_of with_change parts_of decision_in view_start view_version view_parts unknown_in changed_in verdict view_outcome step_at play_on play read_fault write_fault commit_record open_decision checkpoint bases_in load_from view_base view_bases may_forget commit_at past_at rescue_turn trim_start trim_feed copy_work_asks copy_start copy_feed reconf_work_asks reconf_start reconf_feed reconf_latest new_client entries_at copy_fault tests refusal appends syncs walked task_asks client_asks walks task_feed task_again accepts client_command client_deliver client_tick fields_size decided newest log_of entries_of members path_on path changes_below version outcome history_of start latest log history unit_moves layout_moves seqr_moves client_turned happens limit_of drain_on drain tick_all rounds settle line lines run walks_end store_after changed puts_of asks_in bound_in entries_fault replies_fault fault world_fails path_fails drain_ev tick_ev round_ev step_fails run_fails
reply_of_join = refl

reply_of_join_refutes : Holds kinds (doctored 3 (replay kinds unit_joins_header unit_joins_script)) → ⊥
reply_of_join_refutes = headline_refuted (doctored 3 (replay kinds unit_joins_header unit_joins_script)) (claim.IsLegal ∷ claim.LogAgrees ∷ []) reply_of_join refl refl

reply_of_past : world_fails (doctored 9 (replay kinds past_answers_header past_answers_script)) ≡ claim.LogAgrees ∷ []
unfolding u8_at u16_at u32_at u64_at raw_at fixed_at read_many spell_many fit_many marks reads writes keys new_fields old_fields body entry node_eq bytes_eq bytes_lt part_lt cell_eq chain_of units_of next_of change_fault new_unit unit_ask first_missing on_ask unit_step new_layout layout_ask on_layout_ask layout_step reply work_asks put_cell get_cell fill_cell probe work_feed cell_feed entry_size needs_decision page_of entry_of new_seqr seqr_step seqr_tick append_work_asks append_start append_feed append_again sync_work_asks sync_start sync_feed walk_on walk_start walk_feed no_versions based version_of with_change parts_of decision_in view_start view_version view_parts unknown_in changed_in verdict view_outcome step_at play_on play read_fault write_fault commit_record open_decision checkpoint bases_in load_from view_base view_bases may_forget commit_at past_at rescue_turn trim_start trim_feed copy_work_asks copy_start copy_feed reconf_work_asks reconf_start reconf_feed reconf_latest new_client entries_at copy_fault tests refusal appends syncs walked task_asks client_asks walks task_feed task_again accepts client_command client_deliver client_tick fields_size decided newest log_of entries_of members path_on path changes_below version outcome history_of start latest log history unit_moves layout_moves seqr_moves client_turned happens limit_of drain_on drain tick_all rounds settle line lines run walks_end store_after changed puts_of asks_in bound_in entries_fault replies_fault fault world_fails path_fails drain_ev tick_ev round_ev step_fails run_fails
reply_of_past = refl

reply_of_past_off : some_past_off (doctored 9 (replay kinds past_answers_header past_answers_script)) ≡ true
unfolding u8_at u16_at u32_at u64_at raw_at fixed_at read_many spell_many fit_many marks reads writes keys new_fields old_fields body entry node_eq bytes_eq bytes_lt part_lt cell_eq chain_of units_of next_of change_fault new_unit unit_ask first_missing on_ask unit_step new_layout layout_ask on_layout_ask layout_step reply work_asks put_cell get_cell fill_cell probe work_feed cell_feed entry_size needs_decision page_of entry_of new_seqr seqr_step seqr_tick append_work_asks append_start append_feed append_again sync_work_asks sync_start sync_feed walk_on walk_start walk_feed no_versions based version_of with_change parts_of decision_in view_start view_version view_parts unknown_in changed_in verdict view_outcome step_at play_on play read_fault write_fault commit_record open_decision checkpoint bases_in load_from view_base view_bases may_forget commit_at past_at rescue_turn trim_start trim_feed copy_work_asks copy_start copy_feed reconf_work_asks reconf_start reconf_feed reconf_latest new_client entries_at copy_fault tests refusal appends syncs walked task_asks client_asks walks task_feed task_again accepts client_command client_deliver client_tick fields_size decided newest log_of entries_of members path_on path changes_below version outcome history_of start latest log history unit_moves layout_moves seqr_moves client_turned happens limit_of drain_on drain tick_all rounds settle line lines run walks_end store_after changed puts_of asks_in bound_in entries_fault replies_fault fault world_fails path_fails drain_ev tick_ev round_ev step_fails run_fails
reply_of_past_off = refl

reply_of_past_isnt : PastTrue kinds (doctored 9 (replay kinds past_answers_header past_answers_script)) → ⊥
reply_of_past_isnt = past_refuted (doctored 9 (replay kinds past_answers_header past_answers_script)) reply_of_past_off

reply_of_rescue : world_fails (doctored 10 (replay kinds rescue_by_part_header rescue_by_part_script)) ≡ claim.LogAgrees ∷ []
unfolding u8_at u16_at u32_at u64_at raw_at fixed_at read_many spell_many fit_many marks reads writes keys new_fields old_fields body entry node_eq bytes_eq bytes_lt part_lt cell_eq chain_of units_of next_of change_fault new_unit unit_ask first_missing on_ask unit_step new_layout layout_ask on_layout_ask layout_step reply work_asks put_cell get_cell fill_cell probe work_feed cell_feed entry_size needs_decision page_of entry_of new_seqr seqr_step seqr_tick append_work_asks append_start append_feed append_again sync_work_asks sync_start sync_feed walk_on walk_start walk_feed no_versions based version_of with_change parts_of decision_in view_start view_version view_parts unknown_in changed_in verdict view_outcome step_at play_on play read_fault write_fault commit_record open_decision checkpoint bases_in load_from view_base view_bases may_forget commit_at past_at rescue_turn trim_start trim_feed copy_work_asks copy_start copy_feed reconf_work_asks reconf_start reconf_feed reconf_latest new_client entries_at copy_fault tests refusal appends syncs walked task_asks client_asks walks task_feed task_again accepts client_command client_deliver client_tick fields_size decided newest log_of entries_of members path_on path changes_below version outcome history_of start latest log history unit_moves layout_moves seqr_moves client_turned happens limit_of drain_on drain tick_all rounds settle line lines run walks_end store_after changed puts_of asks_in bound_in entries_fault replies_fault fault world_fails path_fails drain_ev tick_ev round_ev step_fails run_fails
reply_of_rescue = refl

reply_of_rescue_off : some_rescue_off (doctored 10 (replay kinds rescue_by_part_header rescue_by_part_script)) ≡ true
unfolding u8_at u16_at u32_at u64_at raw_at fixed_at read_many spell_many fit_many marks reads writes keys new_fields old_fields body entry node_eq bytes_eq bytes_lt part_lt cell_eq chain_of units_of next_of change_fault new_unit unit_ask first_missing on_ask unit_step new_layout layout_ask on_layout_ask layout_step reply work_asks put_cell get_cell fill_cell probe work_feed cell_feed entry_size needs_decision page_of entry_of new_seqr seqr_step seqr_tick append_work_asks append_start append_feed append_again sync_work_asks sync_start sync_feed walk_on walk_start walk_feed no_versions based version_of with_change parts_of decision_in view_start view_version view_parts unknown_in changed_in verdict view_outcome step_at play_on play read_fault write_fault commit_record open_decision checkpoint bases_in load_from view_base view_bases may_forget commit_at past_at rescue_turn trim_start trim_feed copy_work_asks copy_start copy_feed reconf_work_asks reconf_start reconf_feed reconf_latest new_client entries_at copy_fault tests refusal appends syncs walked task_asks client_asks walks task_feed task_again accepts client_command client_deliver client_tick fields_size decided newest log_of entries_of members path_on path changes_below version outcome history_of start latest log history unit_moves layout_moves seqr_moves client_turned happens limit_of drain_on drain tick_all rounds settle line lines run walks_end store_after changed puts_of asks_in bound_in entries_fault replies_fault fault world_fails path_fails drain_ev tick_ev round_ev step_fails run_fails
reply_of_rescue_off = refl

reply_of_rescue_isnt : RescueTrue kinds (doctored 10 (replay kinds rescue_by_part_header rescue_by_part_script)) → ⊥
reply_of_rescue_isnt = rescue_refuted (doctored 10 (replay kinds rescue_by_part_header rescue_by_part_script)) reply_of_rescue_off

abort_of_the_last : world_fails (replied_so named_late (replay kinds crossed_reads_header crossed_reads_script)) ≡ claim.IsLegal ∷ claim.LogAgrees ∷ []
unfolding u8_at u16_at u32_at u64_at raw_at fixed_at read_many spell_many fit_many marks reads writes keys new_fields old_fields body entry node_eq bytes_eq bytes_lt part_lt cell_eq chain_of units_of next_of change_fault new_unit unit_ask first_missing on_ask unit_step new_layout layout_ask on_layout_ask layout_step reply work_asks put_cell get_cell fill_cell probe work_feed cell_feed entry_size needs_decision page_of entry_of new_seqr seqr_step seqr_tick append_work_asks append_start append_feed append_again sync_work_asks sync_start sync_feed walk_on walk_start walk_feed no_versions based version_of with_change parts_of decision_in view_start view_version view_parts unknown_in changed_in verdict view_outcome step_at play_on play read_fault write_fault commit_record open_decision checkpoint bases_in load_from view_base view_bases may_forget commit_at past_at rescue_turn trim_start trim_feed copy_work_asks copy_start copy_feed reconf_work_asks reconf_start reconf_feed reconf_latest new_client entries_at copy_fault tests refusal appends syncs walked task_asks client_asks walks task_feed task_again accepts client_command client_deliver client_tick fields_size decided newest log_of entries_of members path_on path changes_below version outcome history_of start latest log history unit_moves layout_moves seqr_moves client_turned happens limit_of drain_on drain tick_all rounds settle line lines run walks_end store_after changed puts_of asks_in bound_in entries_fault replies_fault fault world_fails path_fails drain_ev tick_ev round_ev step_fails run_fails
abort_of_the_last = refl

abort_of_the_last_refutes : Holds kinds (replied_so named_late (replay kinds crossed_reads_header crossed_reads_script)) → ⊥
abort_of_the_last_refutes = headline_refuted (replied_so named_late (replay kinds crossed_reads_header crossed_reads_script)) (claim.IsLegal ∷ claim.LogAgrees ∷ []) abort_of_the_last refl refl

abort_of_the_last_off : some_aborts_off (replied_so named_late (replay kinds crossed_reads_header crossed_reads_script)) ≡ true
unfolding u8_at u16_at u32_at u64_at raw_at fixed_at read_many spell_many fit_many marks reads writes keys new_fields old_fields body entry node_eq bytes_eq bytes_lt part_lt cell_eq chain_of units_of next_of change_fault new_unit unit_ask first_missing on_ask unit_step new_layout layout_ask on_layout_ask layout_step reply work_asks put_cell get_cell fill_cell probe work_feed cell_feed entry_size needs_decision page_of entry_of new_seqr seqr_step seqr_tick append_work_asks append_start append_feed append_again sync_work_asks sync_start sync_feed walk_on walk_start walk_feed no_versions based version_of with_change parts_of decision_in view_start view_version view_parts unknown_in changed_in verdict view_outcome step_at play_on play read_fault write_fault commit_record open_decision checkpoint bases_in load_from view_base view_bases may_forget commit_at past_at rescue_turn trim_start trim_feed copy_work_asks copy_start copy_feed reconf_work_asks reconf_start reconf_feed reconf_latest new_client entries_at copy_fault tests refusal appends syncs walked task_asks client_asks walks task_feed task_again accepts client_command client_deliver client_tick fields_size decided newest log_of entries_of members path_on path changes_below version outcome history_of start latest log history unit_moves layout_moves seqr_moves client_turned happens limit_of drain_on drain tick_all rounds settle line lines run walks_end store_after changed puts_of asks_in bound_in entries_fault replies_fault fault world_fails path_fails drain_ev tick_ev round_ev step_fails run_fails
abort_of_the_last_off = refl

abort_of_the_last_isnt : AbortsLeast kinds (replied_so named_late (replay kinds crossed_reads_header crossed_reads_script)) → ⊥
abort_of_the_last_isnt = aborts_refuted (replied_so named_late (replay kinds crossed_reads_header crossed_reads_script)) abort_of_the_last_off

record_undecided : world_fails (undecided (replay kinds orphan_decided_header orphan_decided_script)) ≡ claim.LogAgrees ∷ []
unfolding u8_at u16_at u32_at u64_at raw_at fixed_at read_many spell_many fit_many marks reads writes keys new_fields old_fields body entry node_eq bytes_eq bytes_lt part_lt cell_eq chain_of units_of next_of change_fault new_unit unit_ask first_missing on_ask unit_step new_layout layout_ask on_layout_ask layout_step reply work_asks put_cell get_cell fill_cell probe work_feed cell_feed entry_size needs_decision page_of entry_of new_seqr seqr_step seqr_tick append_work_asks append_start append_feed append_again sync_work_asks sync_start sync_feed walk_on walk_start walk_feed no_versions based version_of with_change parts_of decision_in view_start view_version view_parts unknown_in changed_in verdict view_outcome step_at play_on play read_fault write_fault commit_record open_decision checkpoint bases_in load_from view_base view_bases may_forget commit_at past_at rescue_turn trim_start trim_feed copy_work_asks copy_start copy_feed reconf_work_asks reconf_start reconf_feed reconf_latest new_client entries_at copy_fault tests refusal appends syncs walked task_asks client_asks walks task_feed task_again accepts client_command client_deliver client_tick fields_size decided newest log_of entries_of members path_on path changes_below version outcome history_of start latest log history unit_moves layout_moves seqr_moves client_turned happens limit_of drain_on drain tick_all rounds settle line lines run walks_end store_after changed puts_of asks_in bound_in entries_fault replies_fault fault world_fails path_fails drain_ev tick_ev round_ev step_fails run_fails
record_undecided = refl

record_undecided_off : some_alike_off (undecided (replay kinds orphan_decided_header orphan_decided_script)) ≡ true
unfolding u8_at u16_at u32_at u64_at raw_at fixed_at read_many spell_many fit_many marks reads writes keys new_fields old_fields body entry node_eq bytes_eq bytes_lt part_lt cell_eq chain_of units_of next_of change_fault new_unit unit_ask first_missing on_ask unit_step new_layout layout_ask on_layout_ask layout_step reply work_asks put_cell get_cell fill_cell probe work_feed cell_feed entry_size needs_decision page_of entry_of new_seqr seqr_step seqr_tick append_work_asks append_start append_feed append_again sync_work_asks sync_start sync_feed walk_on walk_start walk_feed no_versions based version_of with_change parts_of decision_in view_start view_version view_parts unknown_in changed_in verdict view_outcome step_at play_on play read_fault write_fault commit_record open_decision checkpoint bases_in load_from view_base view_bases may_forget commit_at past_at rescue_turn trim_start trim_feed copy_work_asks copy_start copy_feed reconf_work_asks reconf_start reconf_feed reconf_latest new_client entries_at copy_fault tests refusal appends syncs walked task_asks client_asks walks task_feed task_again accepts client_command client_deliver client_tick fields_size decided newest log_of entries_of members path_on path changes_below version outcome history_of start latest log history unit_moves layout_moves seqr_moves client_turned happens limit_of drain_on drain tick_all rounds settle line lines run walks_end store_after changed puts_of asks_in bound_in entries_fault replies_fault fault world_fails path_fails drain_ev tick_ev round_ev step_fails run_fails
record_undecided_off = refl

record_undecided_isnt : Alike kinds (undecided (replay kinds orphan_decided_header orphan_decided_script)) → ⊥
record_undecided_isnt = alike_refuted (undecided (replay kinds orphan_decided_header orphan_decided_script)) record_undecided_off

rescue_undecided : world_fails (undecided (replay kinds rescue_by_part_header rescue_by_part_script)) ≡ claim.LogAgrees ∷ []
unfolding u8_at u16_at u32_at u64_at raw_at fixed_at read_many spell_many fit_many marks reads writes keys new_fields old_fields body entry node_eq bytes_eq bytes_lt part_lt cell_eq chain_of units_of next_of change_fault new_unit unit_ask first_missing on_ask unit_step new_layout layout_ask on_layout_ask layout_step reply work_asks put_cell get_cell fill_cell probe work_feed cell_feed entry_size needs_decision page_of entry_of new_seqr seqr_step seqr_tick append_work_asks append_start append_feed append_again sync_work_asks sync_start sync_feed walk_on walk_start walk_feed no_versions based version_of with_change parts_of decision_in view_start view_version view_parts unknown_in changed_in verdict view_outcome step_at play_on play read_fault write_fault commit_record open_decision checkpoint bases_in load_from view_base view_bases may_forget commit_at past_at rescue_turn trim_start trim_feed copy_work_asks copy_start copy_feed reconf_work_asks reconf_start reconf_feed reconf_latest new_client entries_at copy_fault tests refusal appends syncs walked task_asks client_asks walks task_feed task_again accepts client_command client_deliver client_tick fields_size decided newest log_of entries_of members path_on path changes_below version outcome history_of start latest log history unit_moves layout_moves seqr_moves client_turned happens limit_of drain_on drain tick_all rounds settle line lines run walks_end store_after changed puts_of asks_in bound_in entries_fault replies_fault fault world_fails path_fails drain_ev tick_ev round_ev step_fails run_fails
rescue_undecided = refl

mark_of_another : world_fails (replied_so marked_less (replay kinds checkpoints_and_trim_header checkpoints_and_trim_script)) ≡ claim.LogAgrees ∷ []
unfolding u8_at u16_at u32_at u64_at raw_at fixed_at read_many spell_many fit_many marks reads writes keys new_fields old_fields body entry node_eq bytes_eq bytes_lt part_lt cell_eq chain_of units_of next_of change_fault new_unit unit_ask first_missing on_ask unit_step new_layout layout_ask on_layout_ask layout_step reply work_asks put_cell get_cell fill_cell probe work_feed cell_feed entry_size needs_decision page_of entry_of new_seqr seqr_step seqr_tick append_work_asks append_start append_feed append_again sync_work_asks sync_start sync_feed walk_on walk_start walk_feed no_versions based version_of with_change parts_of decision_in view_start view_version view_parts unknown_in changed_in verdict view_outcome step_at play_on play read_fault write_fault commit_record open_decision checkpoint bases_in load_from view_base view_bases may_forget commit_at past_at rescue_turn trim_start trim_feed copy_work_asks copy_start copy_feed reconf_work_asks reconf_start reconf_feed reconf_latest new_client entries_at copy_fault tests refusal appends syncs walked task_asks client_asks walks task_feed task_again accepts client_command client_deliver client_tick fields_size decided newest log_of entries_of members path_on path changes_below version outcome history_of start latest log history unit_moves layout_moves seqr_moves client_turned happens limit_of drain_on drain tick_all rounds settle line lines run walks_end store_after changed puts_of asks_in bound_in entries_fault replies_fault fault world_fails path_fails drain_ev tick_ev round_ev step_fails run_fails
mark_of_another = refl

mark_of_another_off : some_alike_off (replied_so marked_less (replay kinds checkpoints_and_trim_header checkpoints_and_trim_script)) ≡ true
unfolding u8_at u16_at u32_at u64_at raw_at fixed_at read_many spell_many fit_many marks reads writes keys new_fields old_fields body entry node_eq bytes_eq bytes_lt part_lt cell_eq chain_of units_of next_of change_fault new_unit unit_ask first_missing on_ask unit_step new_layout layout_ask on_layout_ask layout_step reply work_asks put_cell get_cell fill_cell probe work_feed cell_feed entry_size needs_decision page_of entry_of new_seqr seqr_step seqr_tick append_work_asks append_start append_feed append_again sync_work_asks sync_start sync_feed walk_on walk_start walk_feed no_versions based version_of with_change parts_of decision_in view_start view_version view_parts unknown_in changed_in verdict view_outcome step_at play_on play read_fault write_fault commit_record open_decision checkpoint bases_in load_from view_base view_bases may_forget commit_at past_at rescue_turn trim_start trim_feed copy_work_asks copy_start copy_feed reconf_work_asks reconf_start reconf_feed reconf_latest new_client entries_at copy_fault tests refusal appends syncs walked task_asks client_asks walks task_feed task_again accepts client_command client_deliver client_tick fields_size decided newest log_of entries_of members path_on path changes_below version outcome history_of start latest log history unit_moves layout_moves seqr_moves client_turned happens limit_of drain_on drain tick_all rounds settle line lines run walks_end store_after changed puts_of asks_in bound_in entries_fault replies_fault fault world_fails path_fails drain_ev tick_ev round_ev step_fails run_fails
mark_of_another_off = refl

mark_of_another_isnt : Alike kinds (replied_so marked_less (replay kinds checkpoints_and_trim_header checkpoints_and_trim_script)) → ⊥
mark_of_another_isnt = alike_refuted (replied_so marked_less (replay kinds checkpoints_and_trim_header checkpoints_and_trim_script)) mark_of_another_off

record_before_reply : world_fails (replied_so commits_later (replay kinds past_answers_header past_answers_script)) ≡ claim.IsLegal ∷ claim.LogAgrees ∷ claim.InOrder ∷ []
unfolding u8_at u16_at u32_at u64_at raw_at fixed_at read_many spell_many fit_many marks reads writes keys new_fields old_fields body entry node_eq bytes_eq bytes_lt part_lt cell_eq chain_of units_of next_of change_fault new_unit unit_ask first_missing on_ask unit_step new_layout layout_ask on_layout_ask layout_step reply work_asks put_cell get_cell fill_cell probe work_feed cell_feed entry_size needs_decision page_of entry_of new_seqr seqr_step seqr_tick append_work_asks append_start append_feed append_again sync_work_asks sync_start sync_feed walk_on walk_start walk_feed no_versions based version_of with_change parts_of decision_in view_start view_version view_parts unknown_in changed_in verdict view_outcome step_at play_on play read_fault write_fault commit_record open_decision checkpoint bases_in load_from view_base view_bases may_forget commit_at past_at rescue_turn trim_start trim_feed copy_work_asks copy_start copy_feed reconf_work_asks reconf_start reconf_feed reconf_latest new_client entries_at copy_fault tests refusal appends syncs walked task_asks client_asks walks task_feed task_again accepts client_command client_deliver client_tick fields_size decided newest log_of entries_of members path_on path changes_below version outcome history_of start latest log history unit_moves layout_moves seqr_moves client_turned happens limit_of drain_on drain tick_all rounds settle line lines run walks_end store_after changed puts_of asks_in bound_in entries_fault replies_fault fault world_fails path_fails drain_ev tick_ev round_ev step_fails run_fails
record_before_reply = refl

record_before_reply_refutes : Holds kinds (replied_so commits_later (replay kinds past_answers_header past_answers_script)) → ⊥
record_before_reply_refutes = headline_refuted (replied_so commits_later (replay kinds past_answers_header past_answers_script)) (claim.IsLegal ∷ claim.LogAgrees ∷ claim.InOrder ∷ []) record_before_reply refl refl

page_twice : world_fails (copied 1 7 (replay kinds two_updates_header two_updates_script)) ≡ claim.IsLegal ∷ claim.Once ∷ claim.Linked ∷ []
unfolding u8_at u16_at u32_at u64_at raw_at fixed_at read_many spell_many fit_many marks reads writes keys new_fields old_fields body entry node_eq bytes_eq bytes_lt part_lt cell_eq chain_of units_of next_of change_fault new_unit unit_ask first_missing on_ask unit_step new_layout layout_ask on_layout_ask layout_step reply work_asks put_cell get_cell fill_cell probe work_feed cell_feed entry_size needs_decision page_of entry_of new_seqr seqr_step seqr_tick append_work_asks append_start append_feed append_again sync_work_asks sync_start sync_feed walk_on walk_start walk_feed no_versions based version_of with_change parts_of decision_in view_start view_version view_parts unknown_in changed_in verdict view_outcome step_at play_on play read_fault write_fault commit_record open_decision checkpoint bases_in load_from view_base view_bases may_forget commit_at past_at rescue_turn trim_start trim_feed copy_work_asks copy_start copy_feed reconf_work_asks reconf_start reconf_feed reconf_latest new_client entries_at copy_fault tests refusal appends syncs walked task_asks client_asks walks task_feed task_again accepts client_command client_deliver client_tick fields_size decided newest log_of entries_of members path_on path changes_below version outcome history_of start latest log history unit_moves layout_moves seqr_moves client_turned happens limit_of drain_on drain tick_all rounds settle line lines run walks_end store_after changed puts_of asks_in bound_in entries_fault replies_fault fault world_fails path_fails drain_ev tick_ev round_ev step_fails run_fails
page_twice = refl

page_twice_refutes : Holds kinds (copied 1 7 (replay kinds two_updates_header two_updates_script)) → ⊥
page_twice_refutes = headline_refuted (copied 1 7 (replay kinds two_updates_header two_updates_script)) (claim.IsLegal ∷ claim.Once ∷ claim.Linked ∷ []) page_twice refl refl

unheard_join : world_fails (unheard (replay kinds unit_joins_header unit_joins_script)) ≡ claim.Linked ∷ claim.LogAgrees ∷ []
unfolding u8_at u16_at u32_at u64_at raw_at fixed_at read_many spell_many fit_many marks reads writes keys new_fields old_fields body entry node_eq bytes_eq bytes_lt part_lt cell_eq chain_of units_of next_of change_fault new_unit unit_ask first_missing on_ask unit_step new_layout layout_ask on_layout_ask layout_step reply work_asks put_cell get_cell fill_cell probe work_feed cell_feed entry_size needs_decision page_of entry_of new_seqr seqr_step seqr_tick append_work_asks append_start append_feed append_again sync_work_asks sync_start sync_feed walk_on walk_start walk_feed no_versions based version_of with_change parts_of decision_in view_start view_version view_parts unknown_in changed_in verdict view_outcome step_at play_on play read_fault write_fault commit_record open_decision checkpoint bases_in load_from view_base view_bases may_forget commit_at past_at rescue_turn trim_start trim_feed copy_work_asks copy_start copy_feed reconf_work_asks reconf_start reconf_feed reconf_latest new_client entries_at copy_fault tests refusal appends syncs walked task_asks client_asks walks task_feed task_again accepts client_command client_deliver client_tick fields_size decided newest log_of entries_of members path_on path changes_below version outcome history_of start latest log history unit_moves layout_moves seqr_moves client_turned happens limit_of drain_on drain tick_all rounds settle line lines run walks_end store_after changed puts_of asks_in bound_in entries_fault replies_fault fault world_fails path_fails drain_ev tick_ev round_ev step_fails run_fails
unheard_join = refl

untold_reads : world_fails (untold (replay kinds crossed_reads_header crossed_reads_script)) ≡ claim.IsLegal ∷ claim.RecordsOwn ∷ []
unfolding u8_at u16_at u32_at u64_at raw_at fixed_at read_many spell_many fit_many marks reads writes keys new_fields old_fields body entry node_eq bytes_eq bytes_lt part_lt cell_eq chain_of units_of next_of change_fault new_unit unit_ask first_missing on_ask unit_step new_layout layout_ask on_layout_ask layout_step reply work_asks put_cell get_cell fill_cell probe work_feed cell_feed entry_size needs_decision page_of entry_of new_seqr seqr_step seqr_tick append_work_asks append_start append_feed append_again sync_work_asks sync_start sync_feed walk_on walk_start walk_feed no_versions based version_of with_change parts_of decision_in view_start view_version view_parts unknown_in changed_in verdict view_outcome step_at play_on play read_fault write_fault commit_record open_decision checkpoint bases_in load_from view_base view_bases may_forget commit_at past_at rescue_turn trim_start trim_feed copy_work_asks copy_start copy_feed reconf_work_asks reconf_start reconf_feed reconf_latest new_client entries_at copy_fault tests refusal appends syncs walked task_asks client_asks walks task_feed task_again accepts client_command client_deliver client_tick fields_size decided newest log_of entries_of members path_on path changes_below version outcome history_of start latest log history unit_moves layout_moves seqr_moves client_turned happens limit_of drain_on drain tick_all rounds settle line lines run walks_end store_after changed puts_of asks_in bound_in entries_fault replies_fault fault world_fails path_fails drain_ev tick_ev round_ev step_fails run_fails
untold_reads = refl

untold_reads_refutes : Holds kinds (untold (replay kinds crossed_reads_header crossed_reads_script)) → ⊥
untold_reads_refutes = headline_refuted (untold (replay kinds crossed_reads_header crossed_reads_script)) (claim.IsLegal ∷ claim.RecordsOwn ∷ []) untold_reads refl refl

trimmed_more : world_fails (trims_more 0 4 (replay kinds checkpoints_and_trim_header checkpoints_and_trim_script)) ≡ claim.IsLegal ∷ claim.TrimsSpare ∷ claim.DirectoryTrue ∷ claim.FatesTrue ∷ claim.LogAgrees ∷ claim.MarksRest ∷ []
unfolding u8_at u16_at u32_at u64_at raw_at fixed_at read_many spell_many fit_many marks reads writes keys new_fields old_fields body entry node_eq bytes_eq bytes_lt part_lt cell_eq chain_of units_of next_of change_fault new_unit unit_ask first_missing on_ask unit_step new_layout layout_ask on_layout_ask layout_step reply work_asks put_cell get_cell fill_cell probe work_feed cell_feed entry_size needs_decision page_of entry_of new_seqr seqr_step seqr_tick append_work_asks append_start append_feed append_again sync_work_asks sync_start sync_feed walk_on walk_start walk_feed no_versions based version_of with_change parts_of decision_in view_start view_version view_parts unknown_in changed_in verdict view_outcome step_at play_on play read_fault write_fault commit_record open_decision checkpoint bases_in load_from view_base view_bases may_forget commit_at past_at rescue_turn trim_start trim_feed copy_work_asks copy_start copy_feed reconf_work_asks reconf_start reconf_feed reconf_latest new_client entries_at copy_fault tests refusal appends syncs walked task_asks client_asks walks task_feed task_again accepts client_command client_deliver client_tick fields_size decided newest log_of entries_of members path_on path changes_below version outcome history_of start latest log history unit_moves layout_moves seqr_moves client_turned happens limit_of drain_on drain tick_all rounds settle line lines run walks_end store_after changed puts_of asks_in bound_in entries_fault replies_fault fault world_fails path_fails drain_ev tick_ev round_ev step_fails run_fails
trimmed_more = refl

trimmed_more_refutes : Holds kinds (trims_more 0 4 (replay kinds checkpoints_and_trim_header checkpoints_and_trim_script)) → ⊥
trimmed_more_refutes = headline_refuted (trims_more 0 4 (replay kinds checkpoints_and_trim_header checkpoints_and_trim_script)) (claim.IsLegal ∷ claim.TrimsSpare ∷ claim.DirectoryTrue ∷ claim.FatesTrue ∷ claim.LogAgrees ∷ claim.MarksRest ∷ []) trimmed_more refl refl

trimmed_more_off : some_trim_off (trims_more 0 4 (replay kinds checkpoints_and_trim_header checkpoints_and_trim_script)) ≡ true
unfolding u8_at u16_at u32_at u64_at raw_at fixed_at read_many spell_many fit_many marks reads writes keys new_fields old_fields body entry node_eq bytes_eq bytes_lt part_lt cell_eq chain_of units_of next_of change_fault new_unit unit_ask first_missing on_ask unit_step new_layout layout_ask on_layout_ask layout_step reply work_asks put_cell get_cell fill_cell probe work_feed cell_feed entry_size needs_decision page_of entry_of new_seqr seqr_step seqr_tick append_work_asks append_start append_feed append_again sync_work_asks sync_start sync_feed walk_on walk_start walk_feed no_versions based version_of with_change parts_of decision_in view_start view_version view_parts unknown_in changed_in verdict view_outcome step_at play_on play read_fault write_fault commit_record open_decision checkpoint bases_in load_from view_base view_bases may_forget commit_at past_at rescue_turn trim_start trim_feed copy_work_asks copy_start copy_feed reconf_work_asks reconf_start reconf_feed reconf_latest new_client entries_at copy_fault tests refusal appends syncs walked task_asks client_asks walks task_feed task_again accepts client_command client_deliver client_tick fields_size decided newest log_of entries_of members path_on path changes_below version outcome history_of start latest log history unit_moves layout_moves seqr_moves client_turned happens limit_of drain_on drain tick_all rounds settle line lines run walks_end store_after changed puts_of asks_in bound_in entries_fault replies_fault fault world_fails path_fails drain_ev tick_ev round_ev step_fails run_fails
trimmed_more_off = refl

trimmed_more_isnt : TrimsSpare kinds (trims_more 0 4 (replay kinds checkpoints_and_trim_header checkpoints_and_trim_script)) → ⊥
trimmed_more_isnt = trims_refuted (trims_more 0 4 (replay kinds checkpoints_and_trim_header checkpoints_and_trim_script)) trimmed_more_off

unarchived_trim : world_fails (unarchived (replay kinds checkpoints_and_trim_header checkpoints_and_trim_script)) ≡ claim.IsLegal ∷ claim.TrimsSpare ∷ claim.FloorsStay ∷ claim.CheckpointsTrue ∷ claim.FatesTrue ∷ []
unfolding u8_at u16_at u32_at u64_at raw_at fixed_at read_many spell_many fit_many marks reads writes keys new_fields old_fields body entry node_eq bytes_eq bytes_lt part_lt cell_eq chain_of units_of next_of change_fault new_unit unit_ask first_missing on_ask unit_step new_layout layout_ask on_layout_ask layout_step reply work_asks put_cell get_cell fill_cell probe work_feed cell_feed entry_size needs_decision page_of entry_of new_seqr seqr_step seqr_tick append_work_asks append_start append_feed append_again sync_work_asks sync_start sync_feed walk_on walk_start walk_feed no_versions based version_of with_change parts_of decision_in view_start view_version view_parts unknown_in changed_in verdict view_outcome step_at play_on play read_fault write_fault commit_record open_decision checkpoint bases_in load_from view_base view_bases may_forget commit_at past_at rescue_turn trim_start trim_feed copy_work_asks copy_start copy_feed reconf_work_asks reconf_start reconf_feed reconf_latest new_client entries_at copy_fault tests refusal appends syncs walked task_asks client_asks walks task_feed task_again accepts client_command client_deliver client_tick fields_size decided newest log_of entries_of members path_on path changes_below version outcome history_of start latest log history unit_moves layout_moves seqr_moves client_turned happens limit_of drain_on drain tick_all rounds settle line lines run walks_end store_after changed puts_of asks_in bound_in entries_fault replies_fault fault world_fails path_fails drain_ev tick_ev round_ev step_fails run_fails
unarchived_trim = refl

unarchived_trim_refutes : Holds kinds (unarchived (replay kinds checkpoints_and_trim_header checkpoints_and_trim_script)) → ⊥
unarchived_trim_refutes = headline_refuted (unarchived (replay kinds checkpoints_and_trim_header checkpoints_and_trim_script)) (claim.IsLegal ∷ claim.TrimsSpare ∷ claim.FloorsStay ∷ claim.CheckpointsTrue ∷ claim.FatesTrue ∷ []) unarchived_trim refl refl

unarchived_trim_off : some_floor_off (unarchived (replay kinds checkpoints_and_trim_header checkpoints_and_trim_script)) ≡ true
unfolding u8_at u16_at u32_at u64_at raw_at fixed_at read_many spell_many fit_many marks reads writes keys new_fields old_fields body entry node_eq bytes_eq bytes_lt part_lt cell_eq chain_of units_of next_of change_fault new_unit unit_ask first_missing on_ask unit_step new_layout layout_ask on_layout_ask layout_step reply work_asks put_cell get_cell fill_cell probe work_feed cell_feed entry_size needs_decision page_of entry_of new_seqr seqr_step seqr_tick append_work_asks append_start append_feed append_again sync_work_asks sync_start sync_feed walk_on walk_start walk_feed no_versions based version_of with_change parts_of decision_in view_start view_version view_parts unknown_in changed_in verdict view_outcome step_at play_on play read_fault write_fault commit_record open_decision checkpoint bases_in load_from view_base view_bases may_forget commit_at past_at rescue_turn trim_start trim_feed copy_work_asks copy_start copy_feed reconf_work_asks reconf_start reconf_feed reconf_latest new_client entries_at copy_fault tests refusal appends syncs walked task_asks client_asks walks task_feed task_again accepts client_command client_deliver client_tick fields_size decided newest log_of entries_of members path_on path changes_below version outcome history_of start latest log history unit_moves layout_moves seqr_moves client_turned happens limit_of drain_on drain tick_all rounds settle line lines run walks_end store_after changed puts_of asks_in bound_in entries_fault replies_fault fault world_fails path_fails drain_ev tick_ev round_ev step_fails run_fails
unarchived_trim_off = refl

unarchived_trim_isnt : FloorsStay kinds (unarchived (replay kinds checkpoints_and_trim_header checkpoints_and_trim_script)) → ⊥
unarchived_trim_isnt = floors_refuted (unarchived (replay kinds checkpoints_and_trim_header checkpoints_and_trim_script)) unarchived_trim_off

played_more : world_fails (plays_more 1 0 (replay kinds checkpoints_and_trim_header checkpoints_and_trim_script)) ≡ claim.DirectoryTrue ∷ []
unfolding u8_at u16_at u32_at u64_at raw_at fixed_at read_many spell_many fit_many marks reads writes keys new_fields old_fields body entry node_eq bytes_eq bytes_lt part_lt cell_eq chain_of units_of next_of change_fault new_unit unit_ask first_missing on_ask unit_step new_layout layout_ask on_layout_ask layout_step reply work_asks put_cell get_cell fill_cell probe work_feed cell_feed entry_size needs_decision page_of entry_of new_seqr seqr_step seqr_tick append_work_asks append_start append_feed append_again sync_work_asks sync_start sync_feed walk_on walk_start walk_feed no_versions based version_of with_change parts_of decision_in view_start view_version view_parts unknown_in changed_in verdict view_outcome step_at play_on play read_fault write_fault commit_record open_decision checkpoint bases_in load_from view_base view_bases may_forget commit_at past_at rescue_turn trim_start trim_feed copy_work_asks copy_start copy_feed reconf_work_asks reconf_start reconf_feed reconf_latest new_client entries_at copy_fault tests refusal appends syncs walked task_asks client_asks walks task_feed task_again accepts client_command client_deliver client_tick fields_size decided newest log_of entries_of members path_on path changes_below version outcome history_of start latest log history unit_moves layout_moves seqr_moves client_turned happens limit_of drain_on drain tick_all rounds settle line lines run walks_end store_after changed puts_of asks_in bound_in entries_fault replies_fault fault world_fails path_fails drain_ev tick_ev round_ev step_fails run_fails
played_more = refl

played_more_off : some_directory_off (plays_more 1 0 (replay kinds checkpoints_and_trim_header checkpoints_and_trim_script)) ≡ true
unfolding u8_at u16_at u32_at u64_at raw_at fixed_at read_many spell_many fit_many marks reads writes keys new_fields old_fields body entry node_eq bytes_eq bytes_lt part_lt cell_eq chain_of units_of next_of change_fault new_unit unit_ask first_missing on_ask unit_step new_layout layout_ask on_layout_ask layout_step reply work_asks put_cell get_cell fill_cell probe work_feed cell_feed entry_size needs_decision page_of entry_of new_seqr seqr_step seqr_tick append_work_asks append_start append_feed append_again sync_work_asks sync_start sync_feed walk_on walk_start walk_feed no_versions based version_of with_change parts_of decision_in view_start view_version view_parts unknown_in changed_in verdict view_outcome step_at play_on play read_fault write_fault commit_record open_decision checkpoint bases_in load_from view_base view_bases may_forget commit_at past_at rescue_turn trim_start trim_feed copy_work_asks copy_start copy_feed reconf_work_asks reconf_start reconf_feed reconf_latest new_client entries_at copy_fault tests refusal appends syncs walked task_asks client_asks walks task_feed task_again accepts client_command client_deliver client_tick fields_size decided newest log_of entries_of members path_on path changes_below version outcome history_of start latest log history unit_moves layout_moves seqr_moves client_turned happens limit_of drain_on drain tick_all rounds settle line lines run walks_end store_after changed puts_of asks_in bound_in entries_fault replies_fault fault world_fails path_fails drain_ev tick_ev round_ev step_fails run_fails
played_more_off = refl

played_more_isnt : DirectoryTrue kinds (plays_more 1 0 (replay kinds checkpoints_and_trim_header checkpoints_and_trim_script)) → ⊥
played_more_isnt = directories_refuted (plays_more 1 0 (replay kinds checkpoints_and_trim_header checkpoints_and_trim_script)) played_more_off

replaced_page : world_fails (replaced 0 (replay kinds checkpoints_and_trim_header checkpoints_and_trim_script)) ≡ claim.IsLegal ∷ claim.CheckpointsTrue ∷ claim.FatesTrue ∷ []
unfolding u8_at u16_at u32_at u64_at raw_at fixed_at read_many spell_many fit_many marks reads writes keys new_fields old_fields body entry node_eq bytes_eq bytes_lt part_lt cell_eq chain_of units_of next_of change_fault new_unit unit_ask first_missing on_ask unit_step new_layout layout_ask on_layout_ask layout_step reply work_asks put_cell get_cell fill_cell probe work_feed cell_feed entry_size needs_decision page_of entry_of new_seqr seqr_step seqr_tick append_work_asks append_start append_feed append_again sync_work_asks sync_start sync_feed walk_on walk_start walk_feed no_versions based version_of with_change parts_of decision_in view_start view_version view_parts unknown_in changed_in verdict view_outcome step_at play_on play read_fault write_fault commit_record open_decision checkpoint bases_in load_from view_base view_bases may_forget commit_at past_at rescue_turn trim_start trim_feed copy_work_asks copy_start copy_feed reconf_work_asks reconf_start reconf_feed reconf_latest new_client entries_at copy_fault tests refusal appends syncs walked task_asks client_asks walks task_feed task_again accepts client_command client_deliver client_tick fields_size decided newest log_of entries_of members path_on path changes_below version outcome history_of start latest log history unit_moves layout_moves seqr_moves client_turned happens limit_of drain_on drain tick_all rounds settle line lines run walks_end store_after changed puts_of asks_in bound_in entries_fault replies_fault fault world_fails path_fails drain_ev tick_ev round_ev step_fails run_fails
replaced_page = refl

replaced_page_refutes : Holds kinds (replaced 0 (replay kinds checkpoints_and_trim_header checkpoints_and_trim_script)) → ⊥
replaced_page_refutes = headline_refuted (replaced 0 (replay kinds checkpoints_and_trim_header checkpoints_and_trim_script)) (claim.IsLegal ∷ claim.CheckpointsTrue ∷ claim.FatesTrue ∷ []) replaced_page refl refl

replaced_page_off : some_checkpoint_off (replaced 0 (replay kinds checkpoints_and_trim_header checkpoints_and_trim_script)) ≡ true
unfolding u8_at u16_at u32_at u64_at raw_at fixed_at read_many spell_many fit_many marks reads writes keys new_fields old_fields body entry node_eq bytes_eq bytes_lt part_lt cell_eq chain_of units_of next_of change_fault new_unit unit_ask first_missing on_ask unit_step new_layout layout_ask on_layout_ask layout_step reply work_asks put_cell get_cell fill_cell probe work_feed cell_feed entry_size needs_decision page_of entry_of new_seqr seqr_step seqr_tick append_work_asks append_start append_feed append_again sync_work_asks sync_start sync_feed walk_on walk_start walk_feed no_versions based version_of with_change parts_of decision_in view_start view_version view_parts unknown_in changed_in verdict view_outcome step_at play_on play read_fault write_fault commit_record open_decision checkpoint bases_in load_from view_base view_bases may_forget commit_at past_at rescue_turn trim_start trim_feed copy_work_asks copy_start copy_feed reconf_work_asks reconf_start reconf_feed reconf_latest new_client entries_at copy_fault tests refusal appends syncs walked task_asks client_asks walks task_feed task_again accepts client_command client_deliver client_tick fields_size decided newest log_of entries_of members path_on path changes_below version outcome history_of start latest log history unit_moves layout_moves seqr_moves client_turned happens limit_of drain_on drain tick_all rounds settle line lines run walks_end store_after changed puts_of asks_in bound_in entries_fault replies_fault fault world_fails path_fails drain_ev tick_ev round_ev step_fails run_fails
replaced_page_off = refl

replaced_page_isnt : CheckpointsTrue kinds (replaced 0 (replay kinds checkpoints_and_trim_header checkpoints_and_trim_script)) → ⊥
replaced_page_isnt = checkpoints_refuted (replaced 0 (replay kinds checkpoints_and_trim_header checkpoints_and_trim_script)) replaced_page_off

another_layout : world_fails (two_layouts (replay kinds unit_joins_header unit_joins_script)) ≡ claim.OneLayout ∷ []
unfolding u8_at u16_at u32_at u64_at raw_at fixed_at read_many spell_many fit_many marks reads writes keys new_fields old_fields body entry node_eq bytes_eq bytes_lt part_lt cell_eq chain_of units_of next_of change_fault new_unit unit_ask first_missing on_ask unit_step new_layout layout_ask on_layout_ask layout_step reply work_asks put_cell get_cell fill_cell probe work_feed cell_feed entry_size needs_decision page_of entry_of new_seqr seqr_step seqr_tick append_work_asks append_start append_feed append_again sync_work_asks sync_start sync_feed walk_on walk_start walk_feed no_versions based version_of with_change parts_of decision_in view_start view_version view_parts unknown_in changed_in verdict view_outcome step_at play_on play read_fault write_fault commit_record open_decision checkpoint bases_in load_from view_base view_bases may_forget commit_at past_at rescue_turn trim_start trim_feed copy_work_asks copy_start copy_feed reconf_work_asks reconf_start reconf_feed reconf_latest new_client entries_at copy_fault tests refusal appends syncs walked task_asks client_asks walks task_feed task_again accepts client_command client_deliver client_tick fields_size decided newest log_of entries_of members path_on path changes_below version outcome history_of start latest log history unit_moves layout_moves seqr_moves client_turned happens limit_of drain_on drain tick_all rounds settle line lines run walks_end store_after changed puts_of asks_in bound_in entries_fault replies_fault fault world_fails path_fails drain_ev tick_ev round_ev step_fails run_fails
another_layout = refl

higher_seals : world_fails (higher (replay kinds carried_by_scan_header carried_by_scan_script)) ≡ claim.LayoutsFollow ∷ []
unfolding u8_at u16_at u32_at u64_at raw_at fixed_at read_many spell_many fit_many marks reads writes keys new_fields old_fields body entry node_eq bytes_eq bytes_lt part_lt cell_eq chain_of units_of next_of change_fault new_unit unit_ask first_missing on_ask unit_step new_layout layout_ask on_layout_ask layout_step reply work_asks put_cell get_cell fill_cell probe work_feed cell_feed entry_size needs_decision page_of entry_of new_seqr seqr_step seqr_tick append_work_asks append_start append_feed append_again sync_work_asks sync_start sync_feed walk_on walk_start walk_feed no_versions based version_of with_change parts_of decision_in view_start view_version view_parts unknown_in changed_in verdict view_outcome step_at play_on play read_fault write_fault commit_record open_decision checkpoint bases_in load_from view_base view_bases may_forget commit_at past_at rescue_turn trim_start trim_feed copy_work_asks copy_start copy_feed reconf_work_asks reconf_start reconf_feed reconf_latest new_client entries_at copy_fault tests refusal appends syncs walked task_asks client_asks walks task_feed task_again accepts client_command client_deliver client_tick fields_size decided newest log_of entries_of members path_on path changes_below version outcome history_of start latest log history unit_moves layout_moves seqr_moves client_turned happens limit_of drain_on drain tick_all rounds settle line lines run walks_end store_after changed puts_of asks_in bound_in entries_fault replies_fault fault world_fails path_fails drain_ev tick_ev round_ev step_fails run_fails
higher_seals = refl

unheard_join_off : linked (unheard (replay kinds unit_joins_header unit_joins_script)) (es_of (unheard (replay kinds unit_joins_header unit_joins_script))) ≡ false
unfolding u8_at u16_at u32_at u64_at raw_at fixed_at read_many spell_many fit_many marks reads writes keys new_fields old_fields body entry node_eq bytes_eq bytes_lt part_lt cell_eq chain_of units_of next_of change_fault new_unit unit_ask first_missing on_ask unit_step new_layout layout_ask on_layout_ask layout_step reply work_asks put_cell get_cell fill_cell probe work_feed cell_feed entry_size needs_decision page_of entry_of new_seqr seqr_step seqr_tick append_work_asks append_start append_feed append_again sync_work_asks sync_start sync_feed walk_on walk_start walk_feed no_versions based version_of with_change parts_of decision_in view_start view_version view_parts unknown_in changed_in verdict view_outcome step_at play_on play read_fault write_fault commit_record open_decision checkpoint bases_in load_from view_base view_bases may_forget commit_at past_at rescue_turn trim_start trim_feed copy_work_asks copy_start copy_feed reconf_work_asks reconf_start reconf_feed reconf_latest new_client entries_at copy_fault tests refusal appends syncs walked task_asks client_asks walks task_feed task_again accepts client_command client_deliver client_tick fields_size decided newest log_of entries_of members path_on path changes_below version outcome history_of start latest log history unit_moves layout_moves seqr_moves client_turned happens limit_of drain_on drain tick_all rounds settle line lines run walks_end store_after changed puts_of asks_in bound_in entries_fault replies_fault fault world_fails path_fails drain_ev tick_ev round_ev step_fails run_fails
unheard_join_off = refl

unheard_join_isnt : EntriesLinked kinds (unheard (replay kinds unit_joins_header unit_joins_script)) → ⊥
unheard_join_isnt = linked_refuted (unheard (replay kinds unit_joins_header unit_joins_script)) unheard_join_off

another_layout_off : one_layout (layouts (two_layouts (replay kinds unit_joins_header unit_joins_script))) ≡ false
unfolding u8_at u16_at u32_at u64_at raw_at fixed_at read_many spell_many fit_many marks reads writes keys new_fields old_fields body entry node_eq bytes_eq bytes_lt part_lt cell_eq chain_of units_of next_of change_fault new_unit unit_ask first_missing on_ask unit_step new_layout layout_ask on_layout_ask layout_step reply work_asks put_cell get_cell fill_cell probe work_feed cell_feed entry_size needs_decision page_of entry_of new_seqr seqr_step seqr_tick append_work_asks append_start append_feed append_again sync_work_asks sync_start sync_feed walk_on walk_start walk_feed no_versions based version_of with_change parts_of decision_in view_start view_version view_parts unknown_in changed_in verdict view_outcome step_at play_on play read_fault write_fault commit_record open_decision checkpoint bases_in load_from view_base view_bases may_forget commit_at past_at rescue_turn trim_start trim_feed copy_work_asks copy_start copy_feed reconf_work_asks reconf_start reconf_feed reconf_latest new_client entries_at copy_fault tests refusal appends syncs walked task_asks client_asks walks task_feed task_again accepts client_command client_deliver client_tick fields_size decided newest log_of entries_of members path_on path changes_below version outcome history_of start latest log history unit_moves layout_moves seqr_moves client_turned happens limit_of drain_on drain tick_all rounds settle line lines run walks_end store_after changed puts_of asks_in bound_in entries_fault replies_fault fault world_fails path_fails drain_ev tick_ev round_ev step_fails run_fails
another_layout_off = refl

another_layout_isnt : OneLayout kinds (two_layouts (replay kinds unit_joins_header unit_joins_script)) → ⊥
another_layout_isnt = one_layout_refuted (two_layouts (replay kinds unit_joins_header unit_joins_script)) another_layout_off

cells_lost_off : some_cell_lost (replay kinds crossed_reads_header crossed_reads_script) (emptied (replay kinds crossed_reads_header crossed_reads_script)) ≡ true
unfolding u8_at u16_at u32_at u64_at raw_at fixed_at read_many spell_many fit_many marks reads writes keys new_fields old_fields body entry node_eq bytes_eq bytes_lt part_lt cell_eq chain_of units_of next_of change_fault new_unit unit_ask first_missing on_ask unit_step new_layout layout_ask on_layout_ask layout_step reply work_asks put_cell get_cell fill_cell probe work_feed cell_feed entry_size needs_decision page_of entry_of new_seqr seqr_step seqr_tick append_work_asks append_start append_feed append_again sync_work_asks sync_start sync_feed walk_on walk_start walk_feed no_versions based version_of with_change parts_of decision_in view_start view_version view_parts unknown_in changed_in verdict view_outcome step_at play_on play read_fault write_fault commit_record open_decision checkpoint bases_in load_from view_base view_bases may_forget commit_at past_at rescue_turn trim_start trim_feed copy_work_asks copy_start copy_feed reconf_work_asks reconf_start reconf_feed reconf_latest new_client entries_at copy_fault tests refusal appends syncs walked task_asks client_asks walks task_feed task_again accepts client_command client_deliver client_tick fields_size decided newest log_of entries_of members path_on path changes_below version outcome history_of start latest log history unit_moves layout_moves seqr_moves client_turned happens limit_of drain_on drain tick_all rounds settle line lines run walks_end store_after changed puts_of asks_in bound_in entries_fault replies_fault fault world_fails path_fails drain_ev tick_ev round_ev step_fails run_fails
cells_lost_off = refl

cells_lost_isnt : LogStays kinds (replay kinds crossed_reads_header crossed_reads_script) (emptied (replay kinds crossed_reads_header crossed_reads_script)) → ⊥
cells_lost_isnt = stays_refuted (replay kinds crossed_reads_header crossed_reads_script) (emptied (replay kinds crossed_reads_header crossed_reads_script)) cells_lost_off

read_off_path : path_fails (reads_at 1 40 (replay kinds crossed_reads_header crossed_reads_script)) ≡ claim.ReadsOnPath ∷ []
unfolding u8_at u16_at u32_at u64_at raw_at fixed_at read_many spell_many fit_many marks reads writes keys new_fields old_fields body entry node_eq bytes_eq bytes_lt part_lt cell_eq chain_of units_of next_of change_fault new_unit unit_ask first_missing on_ask unit_step new_layout layout_ask on_layout_ask layout_step reply work_asks put_cell get_cell fill_cell probe work_feed cell_feed entry_size needs_decision page_of entry_of new_seqr seqr_step seqr_tick append_work_asks append_start append_feed append_again sync_work_asks sync_start sync_feed walk_on walk_start walk_feed no_versions based version_of with_change parts_of decision_in view_start view_version view_parts unknown_in changed_in verdict view_outcome step_at play_on play read_fault write_fault commit_record open_decision checkpoint bases_in load_from view_base view_bases may_forget commit_at past_at rescue_turn trim_start trim_feed copy_work_asks copy_start copy_feed reconf_work_asks reconf_start reconf_feed reconf_latest new_client entries_at copy_fault tests refusal appends syncs walked task_asks client_asks walks task_feed task_again accepts client_command client_deliver client_tick fields_size decided newest log_of entries_of members path_on path changes_below version outcome history_of start latest log history unit_moves layout_moves seqr_moves client_turned happens limit_of drain_on drain tick_all rounds settle line lines run walks_end store_after changed puts_of asks_in bound_in entries_fault replies_fault fault world_fails path_fails drain_ev tick_ev round_ev step_fails run_fails
read_off_path = refl

cells_lost : log_stays (replay kinds crossed_reads_header crossed_reads_script) (emptied (replay kinds crossed_reads_header crossed_reads_script)) ≡ false
unfolding u8_at u16_at u32_at u64_at raw_at fixed_at read_many spell_many fit_many marks reads writes keys new_fields old_fields body entry node_eq bytes_eq bytes_lt part_lt cell_eq chain_of units_of next_of change_fault new_unit unit_ask first_missing on_ask unit_step new_layout layout_ask on_layout_ask layout_step reply work_asks put_cell get_cell fill_cell probe work_feed cell_feed entry_size needs_decision page_of entry_of new_seqr seqr_step seqr_tick append_work_asks append_start append_feed append_again sync_work_asks sync_start sync_feed walk_on walk_start walk_feed no_versions based version_of with_change parts_of decision_in view_start view_version view_parts unknown_in changed_in verdict view_outcome step_at play_on play read_fault write_fault commit_record open_decision checkpoint bases_in load_from view_base view_bases may_forget commit_at past_at rescue_turn trim_start trim_feed copy_work_asks copy_start copy_feed reconf_work_asks reconf_start reconf_feed reconf_latest new_client entries_at copy_fault tests refusal appends syncs walked task_asks client_asks walks task_feed task_again accepts client_command client_deliver client_tick fields_size decided newest log_of entries_of members path_on path changes_below version outcome history_of start latest log history unit_moves layout_moves seqr_moves client_turned happens limit_of drain_on drain tick_all rounds settle line lines run walks_end store_after changed puts_of asks_in bound_in entries_fault replies_fault fault world_fails path_fails drain_ev tick_ev round_ev step_fails run_fails
cells_lost = refl

viewless_asks : changed_so replied (with_client viewless 1) hole_filled_header hole_filled_script ≡ (claim.Stands ∷ []) ∷ (claim.Falls ∷ []) ∷ []
unfolding u8_at u16_at u32_at u64_at raw_at fixed_at read_many spell_many fit_many marks reads writes keys new_fields old_fields body entry node_eq bytes_eq bytes_lt part_lt cell_eq chain_of units_of next_of change_fault new_unit unit_ask first_missing on_ask unit_step new_layout layout_ask on_layout_ask layout_step reply work_asks put_cell get_cell fill_cell probe work_feed cell_feed entry_size needs_decision page_of entry_of new_seqr seqr_step seqr_tick append_work_asks append_start append_feed append_again sync_work_asks sync_start sync_feed walk_on walk_start walk_feed no_versions based version_of with_change parts_of decision_in view_start view_version view_parts unknown_in changed_in verdict view_outcome step_at play_on play read_fault write_fault commit_record open_decision checkpoint bases_in load_from view_base view_bases may_forget commit_at past_at rescue_turn trim_start trim_feed copy_work_asks copy_start copy_feed reconf_work_asks reconf_start reconf_feed reconf_latest new_client entries_at copy_fault tests refusal appends syncs walked task_asks client_asks walks task_feed task_again accepts client_command client_deliver client_tick fields_size decided newest log_of entries_of members path_on path changes_below version outcome history_of start latest log history unit_moves layout_moves seqr_moves client_turned happens limit_of drain_on drain tick_all rounds settle line lines run walks_end store_after changed puts_of asks_in bound_in entries_fault replies_fault fault world_fails path_fails drain_ev tick_ev round_ev step_fails run_fails
viewless_asks = refl

knows_all_pages : changed_so replied (λ w. with_client (knows_log w) 1 w) page_carried_down_header page_carried_down_script ≡ (claim.GivesUp ∷ []) ∷ (claim.GivesUp ∷ []) ∷ []
unfolding u8_at u16_at u32_at u64_at raw_at fixed_at read_many spell_many fit_many marks reads writes keys new_fields old_fields body entry node_eq bytes_eq bytes_lt part_lt cell_eq chain_of units_of next_of change_fault new_unit unit_ask first_missing on_ask unit_step new_layout layout_ask on_layout_ask layout_step reply work_asks put_cell get_cell fill_cell probe work_feed cell_feed entry_size needs_decision page_of entry_of new_seqr seqr_step seqr_tick append_work_asks append_start append_feed append_again sync_work_asks sync_start sync_feed walk_on walk_start walk_feed no_versions based version_of with_change parts_of decision_in view_start view_version view_parts unknown_in changed_in verdict view_outcome step_at play_on play read_fault write_fault commit_record open_decision checkpoint bases_in load_from view_base view_bases may_forget commit_at past_at rescue_turn trim_start trim_feed copy_work_asks copy_start copy_feed reconf_work_asks reconf_start reconf_feed reconf_latest new_client entries_at copy_fault tests refusal appends syncs walked task_asks client_asks walks task_feed task_again accepts client_command client_deliver client_tick fields_size decided newest log_of entries_of members path_on path changes_below version outcome history_of start latest log history unit_moves layout_moves seqr_moves client_turned happens limit_of drain_on drain tick_all rounds settle line lines run walks_end store_after changed puts_of asks_in bound_in entries_fault replies_fault fault world_fails path_fails drain_ev tick_ev round_ev step_fails run_fails
knows_all_pages = refl

reads_from_0 : changed_so sends_reads reads_low plays_on_further_header plays_on_further_script ≡ (claim.ReadsOn ∷ []) ∷ []
unfolding u8_at u16_at u32_at u64_at raw_at fixed_at read_many spell_many fit_many marks reads writes keys new_fields old_fields body entry node_eq bytes_eq bytes_lt part_lt cell_eq chain_of units_of next_of change_fault new_unit unit_ask first_missing on_ask unit_step new_layout layout_ask on_layout_ask layout_step reply work_asks put_cell get_cell fill_cell probe work_feed cell_feed entry_size needs_decision page_of entry_of new_seqr seqr_step seqr_tick append_work_asks append_start append_feed append_again sync_work_asks sync_start sync_feed walk_on walk_start walk_feed no_versions based version_of with_change parts_of decision_in view_start view_version view_parts unknown_in changed_in verdict view_outcome step_at play_on play read_fault write_fault commit_record open_decision checkpoint bases_in load_from view_base view_bases may_forget commit_at past_at rescue_turn trim_start trim_feed copy_work_asks copy_start copy_feed reconf_work_asks reconf_start reconf_feed reconf_latest new_client entries_at copy_fault tests refusal appends syncs walked task_asks client_asks walks task_feed task_again accepts client_command client_deliver client_tick fields_size decided newest log_of entries_of members path_on path changes_below version outcome history_of start latest log history unit_moves layout_moves seqr_moves client_turned happens limit_of drain_on drain tick_all rounds settle line lines run walks_end store_after changed puts_of asks_in bound_in entries_fault replies_fault fault world_fails path_fails drain_ev tick_ev round_ev step_fails run_fails
reads_from_0 = refl

emptied_log : changed_so ends_walks emptied two_keys_header two_keys_script ≡ (claim.SyncsExact ∷ []) ∷ (claim.SyncsExact ∷ []) ∷ []
unfolding u8_at u16_at u32_at u64_at raw_at fixed_at read_many spell_many fit_many marks reads writes keys new_fields old_fields body entry node_eq bytes_eq bytes_lt part_lt cell_eq chain_of units_of next_of change_fault new_unit unit_ask first_missing on_ask unit_step new_layout layout_ask on_layout_ask layout_step reply work_asks put_cell get_cell fill_cell probe work_feed cell_feed entry_size needs_decision page_of entry_of new_seqr seqr_step seqr_tick append_work_asks append_start append_feed append_again sync_work_asks sync_start sync_feed walk_on walk_start walk_feed no_versions based version_of with_change parts_of decision_in view_start view_version view_parts unknown_in changed_in verdict view_outcome step_at play_on play read_fault write_fault commit_record open_decision checkpoint bases_in load_from view_base view_bases may_forget commit_at past_at rescue_turn trim_start trim_feed copy_work_asks copy_start copy_feed reconf_work_asks reconf_start reconf_feed reconf_latest new_client entries_at copy_fault tests refusal appends syncs walked task_asks client_asks walks task_feed task_again accepts client_command client_deliver client_tick fields_size decided newest log_of entries_of members path_on path changes_below version outcome history_of start latest log history unit_moves layout_moves seqr_moves client_turned happens limit_of drain_on drain tick_all rounds settle line lines run walks_end store_after changed puts_of asks_in bound_in entries_fault replies_fault fault world_fails path_fails drain_ev tick_ev round_ev step_fails run_fails
emptied_log = refl

accepted_all : changed_so replied (replied_so accepted) refusals_header refusals_script ≡ (claim.CausesRefuse ∷ []) ∷ (claim.CausesRefuse ∷ []) ∷ (claim.CausesRefuse ∷ []) ∷ (claim.CausesRefuse ∷ []) ∷ (claim.CausesRefuse ∷ []) ∷ (claim.CausesRefuse ∷ []) ∷ []
unfolding u8_at u16_at u32_at u64_at raw_at fixed_at read_many spell_many fit_many marks reads writes keys new_fields old_fields body entry node_eq bytes_eq bytes_lt part_lt cell_eq chain_of units_of next_of change_fault new_unit unit_ask first_missing on_ask unit_step new_layout layout_ask on_layout_ask layout_step reply work_asks put_cell get_cell fill_cell probe work_feed cell_feed entry_size needs_decision page_of entry_of new_seqr seqr_step seqr_tick append_work_asks append_start append_feed append_again sync_work_asks sync_start sync_feed walk_on walk_start walk_feed no_versions based version_of with_change parts_of decision_in view_start view_version view_parts unknown_in changed_in verdict view_outcome step_at play_on play read_fault write_fault commit_record open_decision checkpoint bases_in load_from view_base view_bases may_forget commit_at past_at rescue_turn trim_start trim_feed copy_work_asks copy_start copy_feed reconf_work_asks reconf_start reconf_feed reconf_latest new_client entries_at copy_fault tests refusal appends syncs walked task_asks client_asks walks task_feed task_again accepts client_command client_deliver client_tick fields_size decided newest log_of entries_of members path_on path changes_below version outcome history_of start latest log history unit_moves layout_moves seqr_moves client_turned happens limit_of drain_on drain tick_all rounds settle line lines run walks_end store_after changed puts_of asks_in bound_in entries_fault replies_fault fault world_fails path_fails drain_ev tick_ev round_ev step_fails run_fails
accepted_all = refl

wrong_cause : changed_so replied last_wrong open_record_header open_record_script ≡ (claim.CausesTrue ∷ []) ∷ []
unfolding u8_at u16_at u32_at u64_at raw_at fixed_at read_many spell_many fit_many marks reads writes keys new_fields old_fields body entry node_eq bytes_eq bytes_lt part_lt cell_eq chain_of units_of next_of change_fault new_unit unit_ask first_missing on_ask unit_step new_layout layout_ask on_layout_ask layout_step reply work_asks put_cell get_cell fill_cell probe work_feed cell_feed entry_size needs_decision page_of entry_of new_seqr seqr_step seqr_tick append_work_asks append_start append_feed append_again sync_work_asks sync_start sync_feed walk_on walk_start walk_feed no_versions based version_of with_change parts_of decision_in view_start view_version view_parts unknown_in changed_in verdict view_outcome step_at play_on play read_fault write_fault commit_record open_decision checkpoint bases_in load_from view_base view_bases may_forget commit_at past_at rescue_turn trim_start trim_feed copy_work_asks copy_start copy_feed reconf_work_asks reconf_start reconf_feed reconf_latest new_client entries_at copy_fault tests refusal appends syncs walked task_asks client_asks walks task_feed task_again accepts client_command client_deliver client_tick fields_size decided newest log_of entries_of members path_on path changes_below version outcome history_of start latest log history unit_moves layout_moves seqr_moves client_turned happens limit_of drain_on drain tick_all rounds settle line lines run walks_end store_after changed puts_of asks_in bound_in entries_fault replies_fault fault world_fails path_fails drain_ev tick_ev round_ev step_fails run_fails
wrong_cause = refl

wrong_trim : changed_so replied last_wrong past_trimmed_header past_trimmed_script ≡ (claim.CausesTrue ∷ []) ∷ (claim.CausesTrue ∷ []) ∷ []
unfolding u8_at u16_at u32_at u64_at raw_at fixed_at read_many spell_many fit_many marks reads writes keys new_fields old_fields body entry node_eq bytes_eq bytes_lt part_lt cell_eq chain_of units_of next_of change_fault new_unit unit_ask first_missing on_ask unit_step new_layout layout_ask on_layout_ask layout_step reply work_asks put_cell get_cell fill_cell probe work_feed cell_feed entry_size needs_decision page_of entry_of new_seqr seqr_step seqr_tick append_work_asks append_start append_feed append_again sync_work_asks sync_start sync_feed walk_on walk_start walk_feed no_versions based version_of with_change parts_of decision_in view_start view_version view_parts unknown_in changed_in verdict view_outcome step_at play_on play read_fault write_fault commit_record open_decision checkpoint bases_in load_from view_base view_bases may_forget commit_at past_at rescue_turn trim_start trim_feed copy_work_asks copy_start copy_feed reconf_work_asks reconf_start reconf_feed reconf_latest new_client entries_at copy_fault tests refusal appends syncs walked task_asks client_asks walks task_feed task_again accepts client_command client_deliver client_tick fields_size decided newest log_of entries_of members path_on path changes_below version outcome history_of start latest log history unit_moves layout_moves seqr_moves client_turned happens limit_of drain_on drain tick_all rounds settle line lines run walks_end store_after changed puts_of asks_in bound_in entries_fault replies_fault fault world_fails path_fails drain_ev tick_ev round_ev step_fails run_fails
wrong_trim = refl

stuck_untrimmed : changed_so replied untrimmed rescue_and_trim_header rescue_and_trim_script ≡ (claim.CausesTrue ∷ claim.StuckTrue ∷ []) ∷ []
unfolding u8_at u16_at u32_at u64_at raw_at fixed_at read_many spell_many fit_many marks reads writes keys new_fields old_fields body entry node_eq bytes_eq bytes_lt part_lt cell_eq chain_of units_of next_of change_fault new_unit unit_ask first_missing on_ask unit_step new_layout layout_ask on_layout_ask layout_step reply work_asks put_cell get_cell fill_cell probe work_feed cell_feed entry_size needs_decision page_of entry_of new_seqr seqr_step seqr_tick append_work_asks append_start append_feed append_again sync_work_asks sync_start sync_feed walk_on walk_start walk_feed no_versions based version_of with_change parts_of decision_in view_start view_version view_parts unknown_in changed_in verdict view_outcome step_at play_on play read_fault write_fault commit_record open_decision checkpoint bases_in load_from view_base view_bases may_forget commit_at past_at rescue_turn trim_start trim_feed copy_work_asks copy_start copy_feed reconf_work_asks reconf_start reconf_feed reconf_latest new_client entries_at copy_fault tests refusal appends syncs walked task_asks client_asks walks task_feed task_again accepts client_command client_deliver client_tick fields_size decided newest log_of entries_of members path_on path changes_below version outcome history_of start latest log history unit_moves layout_moves seqr_moves client_turned happens limit_of drain_on drain tick_all rounds settle line lines run walks_end store_after changed puts_of asks_in bound_in entries_fault replies_fault fault world_fails path_fails drain_ev tick_ev round_ev step_fails run_fails
stuck_untrimmed = refl

none_there : changed_so replied (replied_so says_none) unsure_then_fate_header unsure_then_fate_script ≡ (claim.NonesTrue ∷ []) ∷ []
unfolding u8_at u16_at u32_at u64_at raw_at fixed_at read_many spell_many fit_many marks reads writes keys new_fields old_fields body entry node_eq bytes_eq bytes_lt part_lt cell_eq chain_of units_of next_of change_fault new_unit unit_ask first_missing on_ask unit_step new_layout layout_ask on_layout_ask layout_step reply work_asks put_cell get_cell fill_cell probe work_feed cell_feed entry_size needs_decision page_of entry_of new_seqr seqr_step seqr_tick append_work_asks append_start append_feed append_again sync_work_asks sync_start sync_feed walk_on walk_start walk_feed no_versions based version_of with_change parts_of decision_in view_start view_version view_parts unknown_in changed_in verdict view_outcome step_at play_on play read_fault write_fault commit_record open_decision checkpoint bases_in load_from view_base view_bases may_forget commit_at past_at rescue_turn trim_start trim_feed copy_work_asks copy_start copy_feed reconf_work_asks reconf_start reconf_feed reconf_latest new_client entries_at copy_fault tests refusal appends syncs walked task_asks client_asks walks task_feed task_again accepts client_command client_deliver client_tick fields_size decided newest log_of entries_of members path_on path changes_below version outcome history_of start latest log history unit_moves layout_moves seqr_moves client_turned happens limit_of drain_on drain tick_all rounds settle line lines run walks_end store_after changed puts_of asks_in bound_in entries_fault replies_fault fault world_fails path_fails drain_ev tick_ev round_ev step_fails run_fails
none_there = refl

closed_by_refusals : changed_so replied (with_client closed 0) refusals_header refusals_script ≡ (claim.RefusalsKeep ∷ []) ∷ (claim.RefusalsKeep ∷ []) ∷ (claim.RefusalsKeep ∷ []) ∷ (claim.RefusalsKeep ∷ []) ∷ (claim.RefusalsKeep ∷ []) ∷ []
unfolding u8_at u16_at u32_at u64_at raw_at fixed_at read_many spell_many fit_many marks reads writes keys new_fields old_fields body entry node_eq bytes_eq bytes_lt part_lt cell_eq chain_of units_of next_of change_fault new_unit unit_ask first_missing on_ask unit_step new_layout layout_ask on_layout_ask layout_step reply work_asks put_cell get_cell fill_cell probe work_feed cell_feed entry_size needs_decision page_of entry_of new_seqr seqr_step seqr_tick append_work_asks append_start append_feed append_again sync_work_asks sync_start sync_feed walk_on walk_start walk_feed no_versions based version_of with_change parts_of decision_in view_start view_version view_parts unknown_in changed_in verdict view_outcome step_at play_on play read_fault write_fault commit_record open_decision checkpoint bases_in load_from view_base view_bases may_forget commit_at past_at rescue_turn trim_start trim_feed copy_work_asks copy_start copy_feed reconf_work_asks reconf_start reconf_feed reconf_latest new_client entries_at copy_fault tests refusal appends syncs walked task_asks client_asks walks task_feed task_again accepts client_command client_deliver client_tick fields_size decided newest log_of entries_of members path_on path changes_below version outcome history_of start latest log history unit_moves layout_moves seqr_moves client_turned happens limit_of drain_on drain tick_all rounds settle line lines run walks_end store_after changed puts_of asks_in bound_in entries_fault replies_fault fault world_fails path_fails drain_ev tick_ev round_ev step_fails run_fails
closed_by_refusals = refl
