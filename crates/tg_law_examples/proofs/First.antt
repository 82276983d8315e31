-- Worked runs: the marks and the history that each gives.
use Rattle.std.proofs.Common.{◌≡◌, List, [], ◌∷◌, refl, Some, None}
use Rattle.std.specs.Prelude.{true, false, pos}
use Rattle.tg_base.specs.declared.fault.Many.TheVariants as many
use Rattle.tg_base.specs.declared.marks.Part.TheVariants.{All}
use Rattle.tg_base.specs.Clusters.{Header}
use Rattle.tg_model.specs.declared.command.Command.TheVariants as cmd
use Rattle.tg_model.specs.declared.command.Event.TheVariants.{Command as Commands, Deliver, Lose, Stop}
use Rattle.tg_model.specs.declared.command.Word.TheVariants as word
use Rattle.tg_model.specs.declared.refusal.Refusal.TheVariants as cause
use Rattle.tg_model.specs.declared.trace.What.TheVariants as told
use Rattle.tg_codec.specs.Reading.{u8_at, u16_at, u32_at, u64_at, raw_at, fixed_at}
use Rattle.tg_codec.specs.Codec.{read_many, spell_many, fit_many}
use Rattle.tg_entry.specs.Reads.{marks, reads}
use Rattle.tg_entry.specs.Writes.{writes}
use Rattle.tg_entry.specs.Checkpoints.{keys, new_fields, old_fields}
use Rattle.tg_entry.specs.Format.{body, entry}
use Rattle.tg_base.specs.Orders.{node_eq}
use Rattle.tg_protocol.specs.Words.{bytes_eq, bytes_lt, part_lt, cell_eq, client_id}
use Rattle.tg_protocol.specs.Layouts.{chain_of, units_of, next_of, change_fault}
use Rattle.tg_protocol.specs.Units.{new_unit, unit_ask, first_missing, on_ask, unit_step}
use Rattle.tg_protocol.specs.LayoutServers.{new_layout, layout_ask, on_layout_ask, layout_step}
use Rattle.tg_protocol.specs.Replies.{reply}
use Rattle.tg_protocol.specs.Cells.{work_asks, put_cell, get_cell, fill_cell, probe, work_feed, cell_feed}
use Rattle.tg_entry.specs.Needs.{needs_decision}
use Rattle.tg_protocol.specs.Entries.{entry_size}
use Rattle.tg_protocol.specs.Pages.{page_of, entry_of}
use Rattle.tg_protocol.specs.Sequencers.{new_seqr, seqr_step, seqr_tick}
use Rattle.tg_protocol.specs.Appending.{append_work_asks, append_start, append_feed, append_again}
use Rattle.tg_protocol.specs.Syncing.{sync_work_asks, sync_start, sync_feed}
use Rattle.tg_protocol.specs.Walking.{walk_on, walk_start, walk_feed}
use Rattle.tg_protocol.specs.Versions.{no_versions, based, version_of, with_change, parts_of}
use Rattle.tg_protocol.specs.Views.{decision_in, view_start, view_version, view_parts, unknown_in, changed_in, verdict, view_outcome, step_at, play_on, play}
use Rattle.tg_protocol.specs.Transactions.{read_fault, write_fault, commit_record}
use Rattle.tg_protocol.specs.Checkpoints.{open_decision, checkpoint, bases_in, load_from, view_base, view_bases, may_forget}
use Rattle.tg_protocol.specs.Past.{commit_at, past_at, rescue_turn}
use Rattle.tg_protocol.specs.Trimming.{trim_start, trim_feed, copy_work_asks, copy_start, copy_feed}
use Rattle.tg_protocol.specs.Reconfiguring.{reconf_work_asks, reconf_start, reconf_feed, reconf_latest}
use Rattle.tg_protocol.specs.Clients.{new_client, entries_at, copy_fault, tests, refusal}
use Rattle.tg_protocol.specs.Answers.{appends, syncs, walked}
use Rattle.tg_protocol.specs.ClientSteps.{task_asks, client_asks, walks, task_feed, task_again, accepts, client_command, client_deliver, client_tick}
use Rattle.tg_protocol.specs.Sizes.{fields_size}
use Rattle.tg_protocol.specs.Logs.{decided, newest, log_of, entries_of, members, path_on, path, changes_below, version, outcome, history_of}
use Rattle.tg_protocol.specs.Worlds.{start, latest, log, history, unit_moves, layout_moves, seqr_moves, client_turned, happens, limit_of, drain_on, drain, tick_all, rounds, settle, line, lines, Line, Happens, Update, Settle, replay}
use Rattle.tg_law_examples.proofs.SevenKinds.{kinds}
use Rattle.tg_law_examples.proofs.SevenKinds as kind
use Rattle.tg_law_examples.proofs.Shown.{shown, obj, mark, done}

abbrev pub two_updates_header : Header
two_updates_header = record { units = 1; layouts = 1; seqs = 1; clients = 3; limit = 100; chains = (0 ∷ []) ∷ []; objects = obj 16777216 ∷ obj 16777217 ∷ [] }

abbrev pub two_updates_script : List (Line kinds)
two_updates_script =
    Update 0 (obj 16777216) (kind.Add (pos 5)) ∷
    Update 1 (obj 16777216) (kind.Add (pos 7)) ∷
    Happens (Deliver 0) ∷
    Happens (Deliver 1) ∷
    Happens (Deliver 2) ∷
    Happens (Deliver 3) ∷
    Happens (Deliver 5) ∷
    Happens (Deliver 6) ∷
    Happens (Deliver 4) ∷
    Happens (Deliver 7) ∷ []

two_updates : shown (replay kinds two_updates_header two_updates_script) ≡ record {
  marks =
      mark 1 0 1 told.Begin ∷
      mark 1 0 1 (told.Put (obj 16777216) (kind.Add (pos 5))) ∷
      mark 1 0 1 told.End ∷
      mark 2 1 1 told.Begin ∷
      mark 2 1 1 (told.Put (obj 16777216) (kind.Add (pos 7))) ∷
      mark 2 1 1 told.End ∷
      mark 8 1 1 (told.Committed 1) ∷
      mark 10 0 1 (told.Committed 0) ∷ [];
  dones =
      done 0 0 1 ((obj 16777216, (kind.Add (pos 5))) ∷ []) ∷
      done 1 1 1 ((obj 16777216, (kind.Add (pos 7))) ∷ []) ∷ [];
}
unfolding u8_at u16_at u32_at u64_at raw_at fixed_at read_many spell_many fit_many marks reads writes keys new_fields old_fields body entry node_eq bytes_eq bytes_lt part_lt cell_eq chain_of units_of next_of change_fault new_unit unit_ask first_missing on_ask unit_step new_layout layout_ask on_layout_ask layout_step reply work_asks put_cell get_cell fill_cell probe work_feed cell_feed entry_size needs_decision page_of entry_of new_seqr seqr_step seqr_tick append_work_asks append_start append_feed append_again sync_work_asks sync_start sync_feed walk_on walk_start walk_feed no_versions based version_of with_change parts_of decision_in view_start view_version view_parts unknown_in changed_in verdict view_outcome step_at play_on play read_fault write_fault commit_record open_decision checkpoint bases_in load_from view_base view_bases may_forget commit_at past_at rescue_turn trim_start trim_feed copy_work_asks copy_start copy_feed reconf_work_asks reconf_start reconf_feed reconf_latest new_client entries_at copy_fault tests refusal appends syncs walked task_asks client_asks walks task_feed task_again accepts client_command client_deliver client_tick fields_size decided newest log_of entries_of members path_on path changes_below version outcome history_of start latest log history unit_moves layout_moves seqr_moves client_turned happens limit_of drain_on drain tick_all rounds settle line lines
two_updates = refl

abbrev pub repeated_deliveries_header : Header
repeated_deliveries_header = record { units = 1; layouts = 1; seqs = 1; clients = 3; limit = 100; chains = (0 ∷ []) ∷ []; objects = obj 16777216 ∷ obj 16777217 ∷ [] }

abbrev pub repeated_deliveries_script : List (Line kinds)
repeated_deliveries_script =
    Update 0 (obj 16777216) (kind.Add (pos 5)) ∷
    Happens (Deliver 0) ∷
    Happens (Deliver 0) ∷
    Happens (Deliver 0) ∷
    Happens (Deliver 1) ∷
    Happens (Deliver 1) ∷
    Happens (Deliver 1) ∷
    Happens (Deliver 4) ∷
    Happens (Deliver 4) ∷
    Happens (Deliver 4) ∷
    Happens (Deliver 5) ∷
    Happens (Deliver 5) ∷
    Happens (Deliver 5) ∷ []

repeated_deliveries : shown (replay kinds repeated_deliveries_header repeated_deliveries_script) ≡ record {
  marks =
      mark 1 0 1 told.Begin ∷
      mark 1 0 1 (told.Put (obj 16777216) (kind.Add (pos 5))) ∷
      mark 1 0 1 told.End ∷
      mark 11 0 1 (told.Committed 0) ∷ [];
  dones =
      done 0 0 1 ((obj 16777216, (kind.Add (pos 5))) ∷ []) ∷ [];
}
unfolding u8_at u16_at u32_at u64_at raw_at fixed_at read_many spell_many fit_many marks reads writes keys new_fields old_fields body entry node_eq bytes_eq bytes_lt part_lt cell_eq chain_of units_of next_of change_fault new_unit unit_ask first_missing on_ask unit_step new_layout layout_ask on_layout_ask layout_step reply work_asks put_cell get_cell fill_cell probe work_feed cell_feed entry_size needs_decision page_of entry_of new_seqr seqr_step seqr_tick append_work_asks append_start append_feed append_again sync_work_asks sync_start sync_feed walk_on walk_start walk_feed no_versions based version_of with_change parts_of decision_in view_start view_version view_parts unknown_in changed_in verdict view_outcome step_at play_on play read_fault write_fault commit_record open_decision checkpoint bases_in load_from view_base view_bases may_forget commit_at past_at rescue_turn trim_start trim_feed copy_work_asks copy_start copy_feed reconf_work_asks reconf_start reconf_feed reconf_latest new_client entries_at copy_fault tests refusal appends syncs walked task_asks client_asks walks task_feed task_again accepts client_command client_deliver client_tick fields_size decided newest log_of entries_of members path_on path changes_below version outcome history_of start latest log history unit_moves layout_moves seqr_moves client_turned happens limit_of drain_on drain tick_all rounds settle line lines
repeated_deliveries = refl

abbrev pub hole_filled_header : Header
hole_filled_header = record { units = 1; layouts = 1; seqs = 1; clients = 3; limit = 100; chains = (0 ∷ []) ∷ []; objects = obj 16777216 ∷ obj 16777217 ∷ [] }

abbrev pub hole_filled_script : List (Line kinds)
hole_filled_script =
    Update 0 (obj 16777216) (kind.Add (pos 5)) ∷
    Happens (Deliver 0) ∷
    Happens (Deliver 1) ∷
    Happens (Stop (client_id 0)) ∷
    Happens (Lose 2) ∷
    Happens (Commands 1 (cmd.Host (obj 16777216))) ∷
    Happens (Commands 1 cmd.Begin) ∷
    Happens (Commands 1 (cmd.Ask (obj 16777216) (kind.Value))) ∷
    Settle ∷
    Happens (Deliver 2) ∷
    Happens (Commands 1 cmd.End) ∷ []

hole_filled : shown (replay kinds hole_filled_header hole_filled_script) ≡ record {
  marks =
      mark 1 0 1 told.Begin ∷
      mark 1 0 1 (told.Put (obj 16777216) (kind.Add (pos 5))) ∷
      mark 1 0 1 told.End ∷
      mark 6 1 0 (told.Hosted (obj 16777216)) ∷
      mark 7 1 1 told.Begin ∷
      mark 9 1 1 (told.Asked (obj 16777216) (kind.Value) 1 (kind.Signed (pos 0))) ∷
      mark 11 1 1 told.End ∷
      mark 11 1 1 (told.Committed 1) ∷ [];
  dones = [];
}
unfolding u8_at u16_at u32_at u64_at raw_at fixed_at read_many spell_many fit_many marks reads writes keys new_fields old_fields body entry node_eq bytes_eq bytes_lt part_lt cell_eq chain_of units_of next_of change_fault new_unit unit_ask first_missing on_ask unit_step new_layout layout_ask on_layout_ask layout_step reply work_asks put_cell get_cell fill_cell probe work_feed cell_feed entry_size needs_decision page_of entry_of new_seqr seqr_step seqr_tick append_work_asks append_start append_feed append_again sync_work_asks sync_start sync_feed walk_on walk_start walk_feed no_versions based version_of with_change parts_of decision_in view_start view_version view_parts unknown_in changed_in verdict view_outcome step_at play_on play read_fault write_fault commit_record open_decision checkpoint bases_in load_from view_base view_bases may_forget commit_at past_at rescue_turn trim_start trim_feed copy_work_asks copy_start copy_feed reconf_work_asks reconf_start reconf_feed reconf_latest new_client entries_at copy_fault tests refusal appends syncs walked task_asks client_asks walks task_feed task_again accepts client_command client_deliver client_tick fields_size decided newest log_of entries_of members path_on path changes_below version outcome history_of start latest log history unit_moves layout_moves seqr_moves client_turned happens limit_of drain_on drain tick_all rounds settle line lines
hole_filled = refl

abbrev pub page_carried_down_header : Header
page_carried_down_header = record { units = 2; layouts = 1; seqs = 3; clients = 3; limit = 100; chains = (0 ∷ 1 ∷ []) ∷ []; objects = obj 16777216 ∷ obj 16777217 ∷ [] }

abbrev pub page_carried_down_script : List (Line kinds)
page_carried_down_script =
    Update 0 (obj 16777216) (kind.Add (pos 5)) ∷
    Happens (Deliver 0) ∷
    Happens (Deliver 1) ∷
    Happens (Deliver 2) ∷
    Happens (Stop (client_id 0)) ∷
    Happens (Commands 1 (cmd.Host (obj 16777216))) ∷
    Happens (Commands 1 cmd.Begin) ∷
    Happens (Commands 1 (cmd.Ask (obj 16777216) (kind.Value))) ∷
    Settle ∷
    Happens (Commands 1 cmd.End) ∷ []

page_carried_down : shown (replay kinds page_carried_down_header page_carried_down_script) ≡ record {
  marks =
      mark 1 0 1 told.Begin ∷
      mark 1 0 1 (told.Put (obj 16777216) (kind.Add (pos 5))) ∷
      mark 1 0 1 told.End ∷
      mark 6 1 0 (told.Hosted (obj 16777216)) ∷
      mark 7 1 1 told.Begin ∷
      mark 9 1 1 (told.Asked (obj 16777216) (kind.Value) 1 (kind.Signed (pos 5))) ∷
      mark 10 1 1 told.End ∷
      mark 10 1 1 (told.Committed 1) ∷ [];
  dones =
      done 0 0 1 ((obj 16777216, (kind.Add (pos 5))) ∷ []) ∷ [];
}
unfolding u8_at u16_at u32_at u64_at raw_at fixed_at read_many spell_many fit_many marks reads writes keys new_fields old_fields body entry node_eq bytes_eq bytes_lt part_lt cell_eq chain_of units_of next_of change_fault new_unit unit_ask first_missing on_ask unit_step new_layout layout_ask on_layout_ask layout_step reply work_asks put_cell get_cell fill_cell probe work_feed cell_feed entry_size needs_decision page_of entry_of new_seqr seqr_step seqr_tick append_work_asks append_start append_feed append_again sync_work_asks sync_start sync_feed walk_on walk_start walk_feed no_versions based version_of with_change parts_of decision_in view_start view_version view_parts unknown_in changed_in verdict view_outcome step_at play_on play read_fault write_fault commit_record open_decision checkpoint bases_in load_from view_base view_bases may_forget commit_at past_at rescue_turn trim_start trim_feed copy_work_asks copy_start copy_feed reconf_work_asks reconf_start reconf_feed reconf_latest new_client entries_at copy_fault tests refusal appends syncs walked task_asks client_asks walks task_feed task_again accepts client_command client_deliver client_tick fields_size decided newest log_of entries_of members path_on path changes_below version outcome history_of start latest log history unit_moves layout_moves seqr_moves client_turned happens limit_of drain_on drain tick_all rounds settle line lines
page_carried_down = refl

abbrev pub full_log_header : Header
full_log_header = record { units = 1; layouts = 1; seqs = 1; clients = 3; limit = 1; chains = (0 ∷ []) ∷ []; objects = obj 16777216 ∷ obj 16777217 ∷ [] }

abbrev pub full_log_script : List (Line kinds)
full_log_script =
    Update 0 (obj 16777216) (kind.Add (pos 5)) ∷
    Happens (Deliver 0) ∷
    Happens (Deliver 0) ∷
    Happens (Deliver 2) ∷ []

full_log : shown (replay kinds full_log_header full_log_script) ≡ record {
  marks =
      mark 1 0 1 told.Begin ∷
      mark 1 0 1 (told.Put (obj 16777216) (kind.Add (pos 5))) ∷
      mark 1 0 1 told.End ∷
      mark 4 0 1 (told.Refused (cause.LogFull 1)) ∷ [];
  dones = [];
}
unfolding u8_at u16_at u32_at u64_at raw_at fixed_at read_many spell_many fit_many marks reads writes keys new_fields old_fields body entry node_eq bytes_eq bytes_lt part_lt cell_eq chain_of units_of next_of change_fault new_unit unit_ask first_missing on_ask unit_step new_layout layout_ask on_layout_ask layout_step reply work_asks put_cell get_cell fill_cell probe work_feed cell_feed entry_size needs_decision page_of entry_of new_seqr seqr_step seqr_tick append_work_asks append_start append_feed append_again sync_work_asks sync_start sync_feed walk_on walk_start walk_feed no_versions based version_of with_change parts_of decision_in view_start view_version view_parts unknown_in changed_in verdict view_outcome step_at play_on play read_fault write_fault commit_record open_decision checkpoint bases_in load_from view_base view_bases may_forget commit_at past_at rescue_turn trim_start trim_feed copy_work_asks copy_start copy_feed reconf_work_asks reconf_start reconf_feed reconf_latest new_client entries_at copy_fault tests refusal appends syncs walked task_asks client_asks walks task_feed task_again accepts client_command client_deliver client_tick fields_size decided newest log_of entries_of members path_on path changes_below version outcome history_of start latest log history unit_moves layout_moves seqr_moves client_turned happens limit_of drain_on drain tick_all rounds settle line lines
full_log = refl

abbrev pub pointers_to_junk_header : Header
pointers_to_junk_header = record { units = 1; layouts = 1; seqs = 1; clients = 6; limit = 100; chains = (0 ∷ []) ∷ []; objects = obj 16777216 ∷ obj 16777217 ∷ [] }

abbrev pub pointers_to_junk_script : List (Line kinds)
pointers_to_junk_script =
    Update 0 (obj 16777216) (kind.Add (pos 5)) ∷
    Settle ∷
    Update 1 (obj 16777216) (kind.Add (pos 1)) ∷
    Happens (Deliver 4) ∷
    Happens (Stop (client_id 1)) ∷
    Update 2 (obj 16777216) (kind.Add (pos 1)) ∷
    Happens (Deliver 6) ∷
    Happens (Stop (client_id 2)) ∷
    Update 3 (obj 16777216) (kind.Add (pos 1)) ∷
    Happens (Deliver 8) ∷
    Happens (Stop (client_id 3)) ∷
    Update 4 (obj 16777216) (kind.Add (pos 1)) ∷
    Happens (Deliver 10) ∷
    Happens (Stop (client_id 4)) ∷
    Happens (Commands 5 (cmd.Host (obj 16777216))) ∷
    Happens (Commands 5 cmd.Begin) ∷
    Happens (Commands 5 (cmd.Ask (obj 16777216) (kind.Value))) ∷
    Settle ∷ []

pointers_to_junk : shown (replay kinds pointers_to_junk_header pointers_to_junk_script) ≡ record {
  marks =
      mark 1 0 1 told.Begin ∷
      mark 1 0 1 (told.Put (obj 16777216) (kind.Add (pos 5))) ∷
      mark 1 0 1 told.End ∷
      mark 2 0 1 (told.Committed 0) ∷
      mark 3 1 1 told.Begin ∷
      mark 3 1 1 (told.Put (obj 16777216) (kind.Add (pos 1))) ∷
      mark 3 1 1 told.End ∷
      mark 6 2 1 told.Begin ∷
      mark 6 2 1 (told.Put (obj 16777216) (kind.Add (pos 1))) ∷
      mark 6 2 1 told.End ∷
      mark 9 3 1 told.Begin ∷
      mark 9 3 1 (told.Put (obj 16777216) (kind.Add (pos 1))) ∷
      mark 9 3 1 told.End ∷
      mark 12 4 1 told.Begin ∷
      mark 12 4 1 (told.Put (obj 16777216) (kind.Add (pos 1))) ∷
      mark 12 4 1 told.End ∷
      mark 15 5 0 (told.Hosted (obj 16777216)) ∷
      mark 16 5 1 told.Begin ∷
      mark 18 5 1 (told.Asked (obj 16777216) (kind.Value) 5 (kind.Signed (pos 5))) ∷ [];
  dones =
      done 0 0 1 ((obj 16777216, (kind.Add (pos 5))) ∷ []) ∷ [];
}
unfolding u8_at u16_at u32_at u64_at raw_at fixed_at read_many spell_many fit_many marks reads writes keys new_fields old_fields body entry node_eq bytes_eq bytes_lt part_lt cell_eq chain_of units_of next_of change_fault new_unit unit_ask first_missing on_ask unit_step new_layout layout_ask on_layout_ask layout_step reply work_asks put_cell get_cell fill_cell probe work_feed cell_feed entry_size needs_decision page_of entry_of new_seqr seqr_step seqr_tick append_work_asks append_start append_feed append_again sync_work_asks sync_start sync_feed walk_on walk_start walk_feed no_versions based version_of with_change parts_of decision_in view_start view_version view_parts unknown_in changed_in verdict view_outcome step_at play_on play read_fault write_fault commit_record open_decision checkpoint bases_in load_from view_base view_bases may_forget commit_at past_at rescue_turn trim_start trim_feed copy_work_asks copy_start copy_feed reconf_work_asks reconf_start reconf_feed reconf_latest new_client entries_at copy_fault tests refusal appends syncs walked task_asks client_asks walks task_feed task_again accepts client_command client_deliver client_tick fields_size decided newest log_of entries_of members path_on path changes_below version outcome history_of start latest log history unit_moves layout_moves seqr_moves client_turned happens limit_of drain_on drain tick_all rounds settle line lines
pointers_to_junk = refl

abbrev pub many_streams_header : Header
many_streams_header = record { units = 1; layouts = 1; seqs = 1; clients = 3; limit = 100; chains = (0 ∷ []) ∷ []; objects = obj 16777216 ∷ obj 16777217 ∷ obj 16777218 ∷ obj 16777219 ∷ obj 16777220 ∷ obj 16777221 ∷ obj 16777222 ∷ obj 16777223 ∷ obj 16777224 ∷ obj 16777225 ∷ obj 16777226 ∷ obj 16777227 ∷ obj 16777228 ∷ obj 16777229 ∷ obj 16777230 ∷ obj 16777231 ∷ obj 16777232 ∷ [] }

abbrev pub many_streams_script : List (Line kinds)
many_streams_script =
    Happens (Commands 0 cmd.Begin) ∷
    Happens (Commands 0 (cmd.Put (obj 16777216) (kind.Add (pos 1)))) ∷
    Happens (Commands 0 (cmd.Put (obj 16777217) (kind.Add (pos 1)))) ∷
    Happens (Commands 0 (cmd.Put (obj 16777218) (kind.Add (pos 1)))) ∷
    Happens (Commands 0 (cmd.Put (obj 16777219) (kind.Add (pos 1)))) ∷
    Happens (Commands 0 (cmd.Put (obj 16777220) (kind.Add (pos 1)))) ∷
    Happens (Commands 0 (cmd.Put (obj 16777221) (kind.Add (pos 1)))) ∷
    Happens (Commands 0 (cmd.Put (obj 16777222) (kind.Add (pos 1)))) ∷
    Happens (Commands 0 (cmd.Put (obj 16777223) (kind.Add (pos 1)))) ∷
    Happens (Commands 0 (cmd.Put (obj 16777224) (kind.Add (pos 1)))) ∷
    Happens (Commands 0 (cmd.Put (obj 16777225) (kind.Add (pos 1)))) ∷
    Happens (Commands 0 (cmd.Put (obj 16777226) (kind.Add (pos 1)))) ∷
    Happens (Commands 0 (cmd.Put (obj 16777227) (kind.Add (pos 1)))) ∷
    Happens (Commands 0 (cmd.Put (obj 16777228) (kind.Add (pos 1)))) ∷
    Happens (Commands 0 (cmd.Put (obj 16777229) (kind.Add (pos 1)))) ∷
    Happens (Commands 0 (cmd.Put (obj 16777230) (kind.Add (pos 1)))) ∷
    Happens (Commands 0 (cmd.Put (obj 16777231) (kind.Add (pos 1)))) ∷
    Happens (Commands 0 (cmd.Put (obj 16777232) (kind.Add (pos 1)))) ∷
    Happens (Commands 0 cmd.End) ∷
    Settle ∷ []

many_streams : shown (replay kinds many_streams_header many_streams_script) ≡ record {
  marks =
      mark 1 0 1 told.Begin ∷
      mark 2 0 1 (told.Put (obj 16777216) (kind.Add (pos 1))) ∷
      mark 3 0 1 (told.Put (obj 16777217) (kind.Add (pos 1))) ∷
      mark 4 0 1 (told.Put (obj 16777218) (kind.Add (pos 1))) ∷
      mark 5 0 1 (told.Put (obj 16777219) (kind.Add (pos 1))) ∷
      mark 6 0 1 (told.Put (obj 16777220) (kind.Add (pos 1))) ∷
      mark 7 0 1 (told.Put (obj 16777221) (kind.Add (pos 1))) ∷
      mark 8 0 1 (told.Put (obj 16777222) (kind.Add (pos 1))) ∷
      mark 9 0 1 (told.Put (obj 16777223) (kind.Add (pos 1))) ∷
      mark 10 0 1 (told.Put (obj 16777224) (kind.Add (pos 1))) ∷
      mark 11 0 1 (told.Put (obj 16777225) (kind.Add (pos 1))) ∷
      mark 12 0 1 (told.Put (obj 16777226) (kind.Add (pos 1))) ∷
      mark 13 0 1 (told.Put (obj 16777227) (kind.Add (pos 1))) ∷
      mark 14 0 1 (told.Put (obj 16777228) (kind.Add (pos 1))) ∷
      mark 15 0 1 (told.Put (obj 16777229) (kind.Add (pos 1))) ∷
      mark 16 0 1 (told.Put (obj 16777230) (kind.Add (pos 1))) ∷
      mark 17 0 1 (told.Put (obj 16777231) (kind.Add (pos 1))) ∷
      mark 18 0 1 (told.Refused (cause.TooMany many.Streams)) ∷
      mark 19 0 1 told.End ∷
      mark 20 0 1 (told.Committed 0) ∷ [];
  dones =
      done 0 0 1 ((obj 16777216, (kind.Add (pos 1))) ∷ (obj 16777217, (kind.Add (pos 1))) ∷ (obj 16777218, (kind.Add (pos 1))) ∷ (obj 16777219, (kind.Add (pos 1))) ∷ (obj 16777220, (kind.Add (pos 1))) ∷ (obj 16777221, (kind.Add (pos 1))) ∷ (obj 16777222, (kind.Add (pos 1))) ∷ (obj 16777223, (kind.Add (pos 1))) ∷ (obj 16777224, (kind.Add (pos 1))) ∷ (obj 16777225, (kind.Add (pos 1))) ∷ (obj 16777226, (kind.Add (pos 1))) ∷ (obj 16777227, (kind.Add (pos 1))) ∷ (obj 16777228, (kind.Add (pos 1))) ∷ (obj 16777229, (kind.Add (pos 1))) ∷ (obj 16777230, (kind.Add (pos 1))) ∷ (obj 16777231, (kind.Add (pos 1))) ∷ []) ∷ [];
}
unfolding u8_at u16_at u32_at u64_at raw_at fixed_at read_many spell_many fit_many marks reads writes keys new_fields old_fields body entry node_eq bytes_eq bytes_lt part_lt cell_eq chain_of units_of next_of change_fault new_unit unit_ask first_missing on_ask unit_step new_layout layout_ask on_layout_ask layout_step reply work_asks put_cell get_cell fill_cell probe work_feed cell_feed entry_size needs_decision page_of entry_of new_seqr seqr_step seqr_tick append_work_asks append_start append_feed append_again sync_work_asks sync_start sync_feed walk_on walk_start walk_feed no_versions based version_of with_change parts_of decision_in view_start view_version view_parts unknown_in changed_in verdict view_outcome step_at play_on play read_fault write_fault commit_record open_decision checkpoint bases_in load_from view_base view_bases may_forget commit_at past_at rescue_turn trim_start trim_feed copy_work_asks copy_start copy_feed reconf_work_asks reconf_start reconf_feed reconf_latest new_client entries_at copy_fault tests refusal appends syncs walked task_asks client_asks walks task_feed task_again accepts client_command client_deliver client_tick fields_size decided newest log_of entries_of members path_on path changes_below version outcome history_of start latest log history unit_moves layout_moves seqr_moves client_turned happens limit_of drain_on drain tick_all rounds settle line lines
many_streams = refl

abbrev pub crossed_reads_header : Header
crossed_reads_header = record { units = 1; layouts = 1; seqs = 1; clients = 3; limit = 100; chains = (0 ∷ []) ∷ []; objects = obj 16777216 ∷ obj 16777217 ∷ [] }

abbrev pub crossed_reads_script : List (Line kinds)
crossed_reads_script =
    Happens (Commands 0 (cmd.Host (obj 16777216))) ∷
    Happens (Commands 0 (cmd.Host (obj 16777217))) ∷
    Happens (Commands 1 (cmd.Host (obj 16777216))) ∷
    Happens (Commands 1 (cmd.Host (obj 16777217))) ∷
    Happens (Commands 0 cmd.Begin) ∷
    Happens (Commands 0 (cmd.Ask (obj 16777217) (kind.Value))) ∷
    Settle ∷
    Happens (Commands 1 cmd.Begin) ∷
    Happens (Commands 1 (cmd.Ask (obj 16777216) (kind.Value))) ∷
    Settle ∷
    Happens (Commands 0 (cmd.Put (obj 16777216) (kind.Add (pos 1)))) ∷
    Happens (Commands 1 (cmd.Put (obj 16777217) (kind.Add (pos 1)))) ∷
    Happens (Commands 0 cmd.End) ∷
    Settle ∷
    Happens (Commands 1 cmd.End) ∷
    Settle ∷ []

crossed_reads : shown (replay kinds crossed_reads_header crossed_reads_script) ≡ record {
  marks =
      mark 1 0 0 (told.Hosted (obj 16777216)) ∷
      mark 2 0 0 (told.Hosted (obj 16777217)) ∷
      mark 3 1 0 (told.Hosted (obj 16777216)) ∷
      mark 4 1 0 (told.Hosted (obj 16777217)) ∷
      mark 5 0 1 told.Begin ∷
      mark 7 0 1 (told.Asked (obj 16777217) (kind.Value) 0 (kind.Signed (pos 0))) ∷
      mark 8 1 1 told.Begin ∷
      mark 10 1 1 (told.Asked (obj 16777216) (kind.Value) 0 (kind.Signed (pos 0))) ∷
      mark 11 0 1 (told.Put (obj 16777216) (kind.Add (pos 1))) ∷
      mark 12 1 1 (told.Put (obj 16777217) (kind.Add (pos 1))) ∷
      mark 13 0 1 told.End ∷
      mark 14 0 1 (told.Committed 0) ∷
      mark 15 1 1 told.End ∷
      mark 16 1 1 (told.Aborted 2 (obj 16777216) All 0 1) ∷ [];
  dones =
      done 0 0 1 ((obj 16777216, (kind.Add (pos 1))) ∷ []) ∷ [];
}
unfolding u8_at u16_at u32_at u64_at raw_at fixed_at read_many spell_many fit_many marks reads writes keys new_fields old_fields body entry node_eq bytes_eq bytes_lt part_lt cell_eq chain_of units_of next_of change_fault new_unit unit_ask first_missing on_ask unit_step new_layout layout_ask on_layout_ask layout_step reply work_asks put_cell get_cell fill_cell probe work_feed cell_feed entry_size needs_decision page_of entry_of new_seqr seqr_step seqr_tick append_work_asks append_start append_feed append_again sync_work_asks sync_start sync_feed walk_on walk_start walk_feed no_versions based version_of with_change parts_of decision_in view_start view_version view_parts unknown_in changed_in verdict view_outcome step_at play_on play read_fault write_fault commit_record open_decision checkpoint bases_in load_from view_base view_bases may_forget commit_at past_at rescue_turn trim_start trim_feed copy_work_asks copy_start copy_feed reconf_work_asks reconf_start reconf_feed reconf_latest new_client entries_at copy_fault tests refusal appends syncs walked task_asks client_asks walks task_feed task_again accepts client_command client_deliver client_tick fields_size decided newest log_of entries_of members path_on path changes_below version outcome history_of start latest log history unit_moves layout_moves seqr_moves client_turned happens limit_of drain_on drain tick_all rounds settle line lines
crossed_reads = refl

abbrev pub snapshot_kept_header : Header
snapshot_kept_header = record { units = 1; layouts = 1; seqs = 1; clients = 3; limit = 100; chains = (0 ∷ []) ∷ []; objects = obj 16777216 ∷ obj 16777217 ∷ [] }

abbrev pub snapshot_kept_script : List (Line kinds)
snapshot_kept_script =
    Happens (Commands 0 (cmd.Host (obj 16777216))) ∷
    Happens (Commands 0 cmd.Begin) ∷
    Happens (Commands 0 (cmd.Ask (obj 16777216) (kind.Value))) ∷
    Settle ∷
    Update 1 (obj 16777216) (kind.Add (pos 5)) ∷
    Settle ∷
    Happens (Commands 0 (cmd.Ask (obj 16777216) (kind.Value))) ∷
    Happens (Commands 0 cmd.End) ∷
    Happens (Commands 0 cmd.Begin) ∷
    Happens (Commands 0 (cmd.Ask (obj 16777216) (kind.Value))) ∷
    Settle ∷
    Happens (Commands 0 cmd.End) ∷ []

snapshot_kept : shown (replay kinds snapshot_kept_header snapshot_kept_script) ≡ record {
  marks =
      mark 1 0 0 (told.Hosted (obj 16777216)) ∷
      mark 2 0 1 told.Begin ∷
      mark 4 0 1 (told.Asked (obj 16777216) (kind.Value) 0 (kind.Signed (pos 0))) ∷
      mark 5 1 1 told.Begin ∷
      mark 5 1 1 (told.Put (obj 16777216) (kind.Add (pos 5))) ∷
      mark 5 1 1 told.End ∷
      mark 6 1 1 (told.Committed 0) ∷
      mark 7 0 1 (told.Asked (obj 16777216) (kind.Value) 0 (kind.Signed (pos 0))) ∷
      mark 8 0 1 told.End ∷
      mark 8 0 1 (told.Committed 0) ∷
      mark 9 0 2 told.Begin ∷
      mark 11 0 2 (told.Asked (obj 16777216) (kind.Value) 1 (kind.Signed (pos 5))) ∷
      mark 12 0 2 told.End ∷
      mark 12 0 2 (told.Committed 1) ∷ [];
  dones =
      done 0 1 1 ((obj 16777216, (kind.Add (pos 5))) ∷ []) ∷ [];
}
unfolding u8_at u16_at u32_at u64_at raw_at fixed_at read_many spell_many fit_many marks reads writes keys new_fields old_fields body entry node_eq bytes_eq bytes_lt part_lt cell_eq chain_of units_of next_of change_fault new_unit unit_ask first_missing on_ask unit_step new_layout layout_ask on_layout_ask layout_step reply work_asks put_cell get_cell fill_cell probe work_feed cell_feed entry_size needs_decision page_of entry_of new_seqr seqr_step seqr_tick append_work_asks append_start append_feed append_again sync_work_asks sync_start sync_feed walk_on walk_start walk_feed no_versions based version_of with_change parts_of decision_in view_start view_version view_parts unknown_in changed_in verdict view_outcome step_at play_on play read_fault write_fault commit_record open_decision checkpoint bases_in load_from view_base view_bases may_forget commit_at past_at rescue_turn trim_start trim_feed copy_work_asks copy_start copy_feed reconf_work_asks reconf_start reconf_feed reconf_latest new_client entries_at copy_fault tests refusal appends syncs walked task_asks client_asks walks task_feed task_again accepts client_command client_deliver client_tick fields_size decided newest log_of entries_of members path_on path changes_below version outcome history_of start latest log history unit_moves layout_moves seqr_moves client_turned happens limit_of drain_on drain tick_all rounds settle line lines
snapshot_kept = refl

abbrev pub orphan_decided_header : Header
orphan_decided_header = record { units = 1; layouts = 1; seqs = 1; clients = 3; limit = 100; chains = (0 ∷ []) ∷ []; objects = obj 16777216 ∷ obj 16777217 ∷ [] }

abbrev pub orphan_decided_script : List (Line kinds)
orphan_decided_script =
    Happens (Commands 0 (cmd.Host (obj 16777216))) ∷
    Happens (Commands 1 (cmd.Host (obj 16777217))) ∷
    Happens (Commands 2 (cmd.Host (obj 16777216))) ∷
    Happens (Commands 2 (cmd.Host (obj 16777217))) ∷
    Happens (Commands 0 cmd.Begin) ∷
    Happens (Commands 0 (cmd.Ask (obj 16777216) (kind.Value))) ∷
    Settle ∷
    Happens (Commands 0 (cmd.Put (obj 16777217) (kind.Add (pos 9)))) ∷
    Happens (Commands 0 cmd.End) ∷
    Happens (Deliver 4) ∷
    Happens (Deliver 5) ∷
    Happens (Deliver 6) ∷
    Happens (Stop (client_id 0)) ∷
    Happens (Commands 1 cmd.Begin) ∷
    Happens (Commands 1 (cmd.Ask (obj 16777217) (kind.Value))) ∷
    Settle ∷
    Happens (Commands 2 (cmd.Decide 0)) ∷
    Settle ∷
    Happens (Commands 1 (cmd.Ask (obj 16777217) (kind.Value))) ∷
    Settle ∷
    Happens (Commands 2 (cmd.Decide 0)) ∷
    Settle ∷
    Happens (Commands 1 cmd.End) ∷ []

orphan_decided : shown (replay kinds orphan_decided_header orphan_decided_script) ≡ record {
  marks =
      mark 1 0 0 (told.Hosted (obj 16777216)) ∷
      mark 2 1 0 (told.Hosted (obj 16777217)) ∷
      mark 3 2 0 (told.Hosted (obj 16777216)) ∷
      mark 4 2 0 (told.Hosted (obj 16777217)) ∷
      mark 5 0 1 told.Begin ∷
      mark 7 0 1 (told.Asked (obj 16777216) (kind.Value) 0 (kind.Signed (pos 0))) ∷
      mark 8 0 1 (told.Put (obj 16777217) (kind.Add (pos 9))) ∷
      mark 9 0 1 told.End ∷
      mark 14 1 1 told.Begin ∷
      mark 16 1 1 (told.Refused (cause.Undecided 0 (obj 16777216))) ∷
      mark 18 2 0 (told.Decided 0 (Some true)) ∷
      mark 20 1 1 (told.Asked (obj 16777217) (kind.Value) 2 (kind.Signed (pos 9))) ∷
      mark 22 2 0 (told.Decided 0 (Some true)) ∷
      mark 23 1 1 told.End ∷
      mark 23 1 1 (told.Committed 2) ∷ [];
  dones =
      done 0 0 1 ((obj 16777217, (kind.Add (pos 9))) ∷ []) ∷ [];
}
unfolding u8_at u16_at u32_at u64_at raw_at fixed_at read_many spell_many fit_many marks reads writes keys new_fields old_fields body entry node_eq bytes_eq bytes_lt part_lt cell_eq chain_of units_of next_of change_fault new_unit unit_ask first_missing on_ask unit_step new_layout layout_ask on_layout_ask layout_step reply work_asks put_cell get_cell fill_cell probe work_feed cell_feed entry_size needs_decision page_of entry_of new_seqr seqr_step seqr_tick append_work_asks append_start append_feed append_again sync_work_asks sync_start sync_feed walk_on walk_start walk_feed no_versions based version_of with_change parts_of decision_in view_start view_version view_parts unknown_in changed_in verdict view_outcome step_at play_on play read_fault write_fault commit_record open_decision checkpoint bases_in load_from view_base view_bases may_forget commit_at past_at rescue_turn trim_start trim_feed copy_work_asks copy_start copy_feed reconf_work_asks reconf_start reconf_feed reconf_latest new_client entries_at copy_fault tests refusal appends syncs walked task_asks client_asks walks task_feed task_again accepts client_command client_deliver client_tick fields_size decided newest log_of entries_of members path_on path changes_below version outcome history_of start latest log history unit_moves layout_moves seqr_moves client_turned happens limit_of drain_on drain tick_all rounds settle line lines
orphan_decided = refl

abbrev pub unsure_then_fate_header : Header
unsure_then_fate_header = record { units = 1; layouts = 1; seqs = 1; clients = 3; limit = 100; chains = (0 ∷ []) ∷ []; objects = obj 16777216 ∷ obj 16777217 ∷ [] }

abbrev pub unsure_then_fate_script : List (Line kinds)
unsure_then_fate_script =
    Happens (Commands 0 (cmd.Host (obj 16777216))) ∷
    Happens (Commands 1 (cmd.Host (obj 16777217))) ∷
    Happens (Commands 2 (cmd.Host (obj 16777216))) ∷
    Happens (Commands 2 (cmd.Host (obj 16777217))) ∷
    Happens (Commands 1 cmd.Begin) ∷
    Happens (Commands 1 (cmd.Ask (obj 16777217) (kind.Value))) ∷
    Settle ∷
    Happens (Commands 1 (cmd.Put (obj 16777217) (kind.Add (pos 1)))) ∷
    Happens (Commands 0 cmd.Begin) ∷
    Happens (Commands 0 (cmd.Ask (obj 16777216) (kind.Value))) ∷
    Settle ∷
    Happens (Commands 0 (cmd.Put (obj 16777217) (kind.Add (pos 9)))) ∷
    Happens (Commands 0 cmd.End) ∷
    Happens (Deliver 8) ∷
    Happens (Deliver 9) ∷
    Happens (Deliver 10) ∷
    Happens (Stop (client_id 0)) ∷
    Happens (Commands 1 cmd.End) ∷
    Settle ∷
    Happens (Commands 2 (cmd.Decide 0)) ∷
    Settle ∷
    Happens (Commands 1 (cmd.Fate 1)) ∷
    Settle ∷ []

unsure_then_fate : shown (replay kinds unsure_then_fate_header unsure_then_fate_script) ≡ record {
  marks =
      mark 1 0 0 (told.Hosted (obj 16777216)) ∷
      mark 2 1 0 (told.Hosted (obj 16777217)) ∷
      mark 3 2 0 (told.Hosted (obj 16777216)) ∷
      mark 4 2 0 (told.Hosted (obj 16777217)) ∷
      mark 5 1 1 told.Begin ∷
      mark 7 1 1 (told.Asked (obj 16777217) (kind.Value) 0 (kind.Signed (pos 0))) ∷
      mark 8 1 1 (told.Put (obj 16777217) (kind.Add (pos 1))) ∷
      mark 9 0 1 told.Begin ∷
      mark 11 0 1 (told.Asked (obj 16777216) (kind.Value) 0 (kind.Signed (pos 0))) ∷
      mark 12 0 1 (told.Put (obj 16777217) (kind.Add (pos 9))) ∷
      mark 13 0 1 told.End ∷
      mark 18 1 1 told.End ∷
      mark 19 1 1 (told.Unsure 1 0) ∷
      mark 21 2 0 (told.Decided 0 (Some true)) ∷
      mark 23 1 0 (told.Fate 1 (Some false)) ∷ [];
  dones =
      done 0 0 1 ((obj 16777217, (kind.Add (pos 9))) ∷ []) ∷ [];
}
unfolding u8_at u16_at u32_at u64_at raw_at fixed_at read_many spell_many fit_many marks reads writes keys new_fields old_fields body entry node_eq bytes_eq bytes_lt part_lt cell_eq chain_of units_of next_of change_fault new_unit unit_ask first_missing on_ask unit_step new_layout layout_ask on_layout_ask layout_step reply work_asks put_cell get_cell fill_cell probe work_feed cell_feed entry_size needs_decision page_of entry_of new_seqr seqr_step seqr_tick append_work_asks append_start append_feed append_again sync_work_asks sync_start sync_feed walk_on walk_start walk_feed no_versions based version_of with_change parts_of decision_in view_start view_version view_parts unknown_in changed_in verdict view_outcome step_at play_on play read_fault write_fault commit_record open_decision checkpoint bases_in load_from view_base view_bases may_forget commit_at past_at rescue_turn trim_start trim_feed copy_work_asks copy_start copy_feed reconf_work_asks reconf_start reconf_feed reconf_latest new_client entries_at copy_fault tests refusal appends syncs walked task_asks client_asks walks task_feed task_again accepts client_command client_deliver client_tick fields_size decided newest log_of entries_of members path_on path changes_below version outcome history_of start latest log history unit_moves layout_moves seqr_moves client_turned happens limit_of drain_on drain tick_all rounds settle line lines
unsure_then_fate = refl

abbrev pub full_log_then_drop_header : Header
full_log_then_drop_header = record { units = 1; layouts = 1; seqs = 1; clients = 3; limit = 4; chains = (0 ∷ []) ∷ []; objects = obj 16777216 ∷ obj 16777217 ∷ [] }

abbrev pub full_log_then_drop_script : List (Line kinds)
full_log_then_drop_script =
    Update 0 (obj 16777216) (kind.Add (pos 1)) ∷
    Settle ∷
    Update 0 (obj 16777216) (kind.Add (pos 1)) ∷
    Settle ∷
    Update 0 (obj 16777216) (kind.Add (pos 1)) ∷
    Settle ∷
    Update 0 (obj 16777216) (kind.Add (pos 1)) ∷
    Settle ∷
    Update 0 (obj 16777216) (kind.Add (pos 1)) ∷
    Settle ∷
    Happens (Commands 0 cmd.Drop) ∷ []

full_log_then_drop : shown (replay kinds full_log_then_drop_header full_log_then_drop_script) ≡ record {
  marks =
      mark 1 0 1 told.Begin ∷
      mark 1 0 1 (told.Put (obj 16777216) (kind.Add (pos 1))) ∷
      mark 1 0 1 told.End ∷
      mark 2 0 1 (told.Committed 0) ∷
      mark 3 0 2 told.Begin ∷
      mark 3 0 2 (told.Put (obj 16777216) (kind.Add (pos 1))) ∷
      mark 3 0 2 told.End ∷
      mark 4 0 2 (told.Committed 1) ∷
      mark 5 0 3 told.Begin ∷
      mark 5 0 3 (told.Put (obj 16777216) (kind.Add (pos 1))) ∷
      mark 5 0 3 told.End ∷
      mark 6 0 3 (told.Committed 2) ∷
      mark 7 0 4 told.Begin ∷
      mark 7 0 4 (told.Put (obj 16777216) (kind.Add (pos 1))) ∷
      mark 7 0 4 told.End ∷
      mark 8 0 4 (told.Committed 3) ∷
      mark 9 0 5 told.Begin ∷
      mark 9 0 5 (told.Put (obj 16777216) (kind.Add (pos 1))) ∷
      mark 9 0 5 told.End ∷
      mark 10 0 5 (told.Refused (cause.LogFull 4)) ∷
      mark 11 0 5 told.Dropped ∷ [];
  dones =
      done 0 0 1 ((obj 16777216, (kind.Add (pos 1))) ∷ []) ∷
      done 1 0 2 ((obj 16777216, (kind.Add (pos 1))) ∷ []) ∷
      done 2 0 3 ((obj 16777216, (kind.Add (pos 1))) ∷ []) ∷
      done 3 0 4 ((obj 16777216, (kind.Add (pos 1))) ∷ []) ∷ [];
}
unfolding u8_at u16_at u32_at u64_at raw_at fixed_at read_many spell_many fit_many marks reads writes keys new_fields old_fields body entry node_eq bytes_eq bytes_lt part_lt cell_eq chain_of units_of next_of change_fault new_unit unit_ask first_missing on_ask unit_step new_layout layout_ask on_layout_ask layout_step reply work_asks put_cell get_cell fill_cell probe work_feed cell_feed entry_size needs_decision page_of entry_of new_seqr seqr_step seqr_tick append_work_asks append_start append_feed append_again sync_work_asks sync_start sync_feed walk_on walk_start walk_feed no_versions based version_of with_change parts_of decision_in view_start view_version view_parts unknown_in changed_in verdict view_outcome step_at play_on play read_fault write_fault commit_record open_decision checkpoint bases_in load_from view_base view_bases may_forget commit_at past_at rescue_turn trim_start trim_feed copy_work_asks copy_start copy_feed reconf_work_asks reconf_start reconf_feed reconf_latest new_client entries_at copy_fault tests refusal appends syncs walked task_asks client_asks walks task_feed task_again accepts client_command client_deliver client_tick fields_size decided newest log_of entries_of members path_on path changes_below version outcome history_of start latest log history unit_moves layout_moves seqr_moves client_turned happens limit_of drain_on drain tick_all rounds settle line lines
full_log_then_drop = refl

abbrev pub refusals_header : Header
refusals_header = record { units = 1; layouts = 1; seqs = 1; clients = 3; limit = 100; chains = (0 ∷ []) ∷ []; objects = obj 16777216 ∷ [] }

abbrev pub refusals_script : List (Line kinds)
refusals_script =
    Happens (Commands 0 cmd.End) ∷
    Happens (Commands 0 cmd.Begin) ∷
    Happens (Commands 0 cmd.Begin) ∷
    Happens (Commands 0 (cmd.Put (obj 50331648) (kind.Set (97 ∷ []) (98 ∷ [])))) ∷
    Happens (Commands 0 (cmd.Put (obj 16777216) (kind.Write (120 ∷ [])))) ∷
    Happens (Commands 0 (cmd.Ask (obj 16777216) (kind.Value))) ∷
    Happens (Commands 0 (cmd.Ask (obj 0) (kind.Find (99 ∷ 116 ∷ 114 ∷ 48 ∷ [])))) ∷
    Happens (Commands 0 cmd.End) ∷
    Settle ∷
    Happens (Commands 0 cmd.End) ∷
    Happens (Commands 0 (cmd.Fate 0)) ∷
    Settle ∷
    Happens (Commands 0 (cmd.Host (obj 16777216))) ∷
    Happens (Commands 0 (cmd.Forget (obj 16777216) 1)) ∷
    Settle ∷ []

refusals : shown (replay kinds refusals_header refusals_script) ≡ record {
  marks =
      mark 1 0 0 (told.Refused cause.NoTx) ∷
      mark 2 0 1 told.Begin ∷
      mark 3 0 0 (told.Refused cause.TxOpen) ∷
      mark 4 0 1 (told.Refused (cause.NotRegistered (obj 50331648))) ∷
      mark 5 0 1 (told.Refused (cause.WrongKind (obj 16777216))) ∷
      mark 6 0 1 (told.Refused (cause.NotHosted (obj 16777216))) ∷
      mark 8 0 0 (told.Refused (cause.Busy word.Ask)) ∷
      mark 9 0 1 (told.Asked (obj 0) (kind.Find (99 ∷ 116 ∷ 114 ∷ 48 ∷ [])) 0 (kind.Object (Some (obj 16777216)))) ∷
      mark 10 0 1 told.End ∷
      mark 10 0 1 (told.Committed 0) ∷
      mark 12 0 0 (told.Fate 0 None) ∷
      mark 13 0 0 (told.Hosted (obj 16777216)) ∷
      mark 15 0 0 (told.Refused (cause.NoCheckpoint (obj 16777216))) ∷ [];
  dones = [];
}
unfolding u8_at u16_at u32_at u64_at raw_at fixed_at read_many spell_many fit_many marks reads writes keys new_fields old_fields body entry node_eq bytes_eq bytes_lt part_lt cell_eq chain_of units_of next_of change_fault new_unit unit_ask first_missing on_ask unit_step new_layout layout_ask on_layout_ask layout_step reply work_asks put_cell get_cell fill_cell probe work_feed cell_feed entry_size needs_decision page_of entry_of new_seqr seqr_step seqr_tick append_work_asks append_start append_feed append_again sync_work_asks sync_start sync_feed walk_on walk_start walk_feed no_versions based version_of with_change parts_of decision_in view_start view_version view_parts unknown_in changed_in verdict view_outcome step_at play_on play read_fault write_fault commit_record open_decision checkpoint bases_in load_from view_base view_bases may_forget commit_at past_at rescue_turn trim_start trim_feed copy_work_asks copy_start copy_feed reconf_work_asks reconf_start reconf_feed reconf_latest new_client entries_at copy_fault tests refusal appends syncs walked task_asks client_asks walks task_feed task_again accepts client_command client_deliver client_tick fields_size decided newest log_of entries_of members path_on path changes_below version outcome history_of start latest log history unit_moves layout_moves seqr_moves client_turned happens limit_of drain_on drain tick_all rounds settle line lines
refusals = refl

abbrev pub abort_by_change_header : Header
abort_by_change_header = record { units = 1; layouts = 1; seqs = 1; clients = 3; limit = 100; chains = (0 ∷ []) ∷ []; objects = obj 16777216 ∷ obj 16777217 ∷ [] }

abbrev pub abort_by_change_script : List (Line kinds)
abort_by_change_script =
    Happens (Commands 0 (cmd.Host (obj 16777216))) ∷
    Happens (Commands 1 (cmd.Host (obj 16777216))) ∷
    Happens (Commands 0 cmd.Begin) ∷
    Happens (Commands 0 (cmd.Ask (obj 16777216) (kind.Value))) ∷
    Settle ∷
    Happens (Commands 1 cmd.Begin) ∷
    Happens (Commands 1 (cmd.Ask (obj 16777216) (kind.Value))) ∷
    Settle ∷
    Happens (Commands 0 (cmd.Put (obj 16777216) (kind.Add (pos 1)))) ∷
    Happens (Commands 1 (cmd.Put (obj 16777216) (kind.Add (pos 2)))) ∷
    Happens (Commands 0 cmd.End) ∷
    Settle ∷
    Happens (Commands 1 cmd.End) ∷
    Settle ∷ []

abort_by_change : shown (replay kinds abort_by_change_header abort_by_change_script) ≡ record {
  marks =
      mark 1 0 0 (told.Hosted (obj 16777216)) ∷
      mark 2 1 0 (told.Hosted (obj 16777216)) ∷
      mark 3 0 1 told.Begin ∷
      mark 5 0 1 (told.Asked (obj 16777216) (kind.Value) 0 (kind.Signed (pos 0))) ∷
      mark 6 1 1 told.Begin ∷
      mark 8 1 1 (told.Asked (obj 16777216) (kind.Value) 0 (kind.Signed (pos 0))) ∷
      mark 9 0 1 (told.Put (obj 16777216) (kind.Add (pos 1))) ∷
      mark 10 1 1 (told.Put (obj 16777216) (kind.Add (pos 2))) ∷
      mark 11 0 1 told.End ∷
      mark 12 0 1 (told.Committed 0) ∷
      mark 13 1 1 told.End ∷
      mark 14 1 1 (told.Aborted 1 (obj 16777216) All 0 1) ∷ [];
  dones =
      done 0 0 1 ((obj 16777216, (kind.Add (pos 1))) ∷ []) ∷ [];
}
unfolding u8_at u16_at u32_at u64_at raw_at fixed_at read_many spell_many fit_many marks reads writes keys new_fields old_fields body entry node_eq bytes_eq bytes_lt part_lt cell_eq chain_of units_of next_of change_fault new_unit unit_ask first_missing on_ask unit_step new_layout layout_ask on_layout_ask layout_step reply work_asks put_cell get_cell fill_cell probe work_feed cell_feed entry_size needs_decision page_of entry_of new_seqr seqr_step seqr_tick append_work_asks append_start append_feed append_again sync_work_asks sync_start sync_feed walk_on walk_start walk_feed no_versions based version_of with_change parts_of decision_in view_start view_version view_parts unknown_in changed_in verdict view_outcome step_at play_on play read_fault write_fault commit_record open_decision checkpoint bases_in load_from view_base view_bases may_forget commit_at past_at rescue_turn trim_start trim_feed copy_work_asks copy_start copy_feed reconf_work_asks reconf_start reconf_feed reconf_latest new_client entries_at copy_fault tests refusal appends syncs walked task_asks client_asks walks task_feed task_again accepts client_command client_deliver client_tick fields_size decided newest log_of entries_of members path_on path changes_below version outcome history_of start latest log history unit_moves layout_moves seqr_moves client_turned happens limit_of drain_on drain tick_all rounds settle line lines
abort_by_change = refl
