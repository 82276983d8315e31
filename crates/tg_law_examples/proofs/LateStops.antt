-- Worked runs: the marks and the history that each gives.
use Rattle.std.proofs.Common.{◌≡◌, List, [], ◌∷◌, refl}
use Rattle.std.specs.Prelude.{pos}
use Rattle.tg_base.specs.declared.marks.Part.TheVariants.{All}
use Rattle.tg_base.specs.Clusters.{Header}
use Rattle.tg_model.specs.declared.command.Command.TheVariants as cmd
use Rattle.tg_model.specs.declared.command.Event.TheVariants.{Command as Commands, Stop}
use Rattle.tg_model.specs.declared.trace.What.TheVariants as told
use Rattle.tg_codec.specs.Reading.{u8_at, u16_at, u32_at, u64_at, raw_at, fixed_at}
use Rattle.tg_codec.specs.Codec.{read_many, spell_many, fit_many}
use Rattle.tg_entry.specs.Reads.{marks, reads}
use Rattle.tg_entry.specs.Writes.{writes}
use Rattle.tg_entry.specs.Checkpoints.{keys, new_fields, old_fields}
use Rattle.tg_entry.specs.Format.{body, entry}
use Rattle.tg_base.specs.Orders.{node_eq}
use Rattle.tg_protocol.specs.Words.{bytes_eq, bytes_lt, part_lt, cell_eq, client_id}
use Rattle.tg_protocol.specs.Layouts.{chain_of, units_of, next_of, change_fault}
use Rattle.tg_protocol.specs.Units.{new_unit, unit_ask, first_missing, on_ask, unit_step}
use Rattle.tg_protocol.specs.LayoutServers.{new_layout, layout_ask, on_layout_ask, layout_step}
use Rattle.tg_protocol.specs.Replies.{reply}
use Rattle.tg_protocol.specs.Cells.{work_asks, put_cell, get_cell, fill_cell, probe, work_feed, cell_feed}
use Rattle.tg_entry.specs.Needs.{needs_decision}
use Rattle.tg_protocol.specs.Entries.{entry_size}
use Rattle.tg_protocol.specs.Pages.{page_of, entry_of}
use Rattle.tg_protocol.specs.Sequencers.{new_seqr, seqr_step, seqr_tick}
use Rattle.tg_protocol.specs.Appending.{append_work_asks, append_start, append_feed, append_again}
use Rattle.tg_protocol.specs.Syncing.{sync_work_asks, sync_start, sync_feed}
use Rattle.tg_protocol.specs.Walking.{walk_on, walk_start, walk_feed}
use Rattle.tg_protocol.specs.Versions.{no_versions, based, version_of, with_change, parts_of}
use Rattle.tg_protocol.specs.Views.{decision_in, view_start, view_version, view_parts, unknown_in, changed_in, verdict, step_at, play_on, play}
use Rattle.tg_protocol.specs.Transactions.{read_fault, write_fault, commit_record}
use Rattle.tg_protocol.specs.Checkpoints.{open_decision, checkpoint, bases_in, load_from, view_base, view_bases, may_forget}
use Rattle.tg_protocol.specs.Past.{commit_at, past_at, rescue_turn}
use Rattle.tg_protocol.specs.Trimming.{trim_start, trim_feed, copy_work_asks, copy_start, copy_feed}
use Rattle.tg_protocol.specs.Reconfiguring.{reconf_work_asks, reconf_start, reconf_feed, reconf_latest}
use Rattle.tg_protocol.specs.Clients.{new_client, entries_at, copy_fault, tests, refusal}
use Rattle.tg_protocol.specs.Answers.{appends, syncs, walked}
use Rattle.tg_protocol.specs.ClientSteps.{task_asks, client_asks, walks, task_feed, task_again, accepts, client_command, client_deliver, client_tick}
use Rattle.tg_protocol.specs.Sizes.{fields_size}
use Rattle.tg_protocol.specs.Logs.{decided, newest, log_of, entries_of, members, path_on, path, changes_below, version, outcome, history_of}
use Rattle.tg_protocol.specs.Worlds.{start, latest, log, history, unit_moves, layout_moves, seqr_moves, client_turned, happens, limit_of, drain_on, drain, tick_all, rounds, settle, line, lines, Line, Happens, Settle, replay}
use Rattle.tg_law_examples.proofs.SevenKinds.{kinds}
use Rattle.tg_law_examples.proofs.SevenKinds as kind
use Rattle.tg_law_examples.proofs.Shown.{shown, obj, mark, done}

abbrev pub stop_after_event_9_header : Header
stop_after_event_9_header = record { units = 1; layouts = 1; seqs = 1; clients = 3; limit = 100; chains = (0 ∷ []) ∷ []; objects = obj 16777216 ∷ obj 16777217 ∷ [] }

abbrev pub stop_after_event_9_script : List (Line kinds)
stop_after_event_9_script =
    Happens (Commands 0 (cmd.Host (obj 16777216))) ∷
    Happens (Commands 0 (cmd.Host (obj 16777217))) ∷
    Happens (Commands 1 (cmd.Host (obj 16777216))) ∷
    Happens (Commands 1 (cmd.Host (obj 16777217))) ∷
    Happens (Commands 0 cmd.Begin) ∷
    Happens (Commands 0 (cmd.Ask (obj 16777217) (kind.Value))) ∷
    Settle ∷
    Happens (Commands 1 cmd.Begin) ∷
    Happens (Commands 1 (cmd.Ask (obj 16777216) (kind.Value))) ∷
    Happens (Stop (client_id 0)) ∷
    Settle ∷
    Happens (Commands 0 (cmd.Put (obj 16777216) (kind.Add (pos 1)))) ∷
    Happens (Commands 1 (cmd.Put (obj 16777217) (kind.Add (pos 1)))) ∷
    Happens (Commands 0 cmd.End) ∷
    Settle ∷
    Happens (Commands 1 cmd.End) ∷
    Settle ∷
    Happens (Commands 2 (cmd.Host (obj 16777216))) ∷
    Happens (Commands 2 (cmd.Host (obj 16777217))) ∷
    Happens (Commands 2 cmd.Begin) ∷
    Happens (Commands 2 (cmd.Ask (obj 16777216) (kind.Value))) ∷
    Settle ∷ []

stop_after_event_9 : shown (replay kinds stop_after_event_9_header stop_after_event_9_script) ≡ record {
  marks =
      mark 1 0 0 (told.Hosted (obj 16777216)) ∷
      mark 2 0 0 (told.Hosted (obj 16777217)) ∷
      mark 3 1 0 (told.Hosted (obj 16777216)) ∷
      mark 4 1 0 (told.Hosted (obj 16777217)) ∷
      mark 5 0 1 told.Begin ∷
      mark 7 0 1 (told.Asked (obj 16777217) (kind.Value) 0 (kind.Signed (pos 0))) ∷
      mark 8 1 1 told.Begin ∷
      mark 11 1 1 (told.Asked (obj 16777216) (kind.Value) 0 (kind.Signed (pos 0))) ∷
      mark 13 1 1 (told.Put (obj 16777217) (kind.Add (pos 1))) ∷
      mark 16 1 1 told.End ∷
      mark 17 1 1 (told.Committed 0) ∷
      mark 18 2 0 (told.Hosted (obj 16777216)) ∷
      mark 19 2 0 (told.Hosted (obj 16777217)) ∷
      mark 20 2 1 told.Begin ∷
      mark 22 2 1 (told.Asked (obj 16777216) (kind.Value) 2 (kind.Signed (pos 0))) ∷ [];
  dones =
      done 0 1 1 ((obj 16777217, (kind.Add (pos 1))) ∷ []) ∷ [];
}
unfolding u8_at u16_at u32_at u64_at raw_at fixed_at read_many spell_many fit_many marks reads writes keys new_fields old_fields body entry node_eq bytes_eq bytes_lt part_lt cell_eq chain_of units_of next_of change_fault new_unit unit_ask first_missing on_ask unit_step new_layout layout_ask on_layout_ask layout_step reply work_asks put_cell get_cell fill_cell probe work_feed cell_feed entry_size needs_decision page_of entry_of new_seqr seqr_step seqr_tick append_work_asks append_start append_feed append_again sync_work_asks sync_start sync_feed walk_on walk_start walk_feed no_versions based version_of with_change parts_of decision_in view_start view_version view_parts unknown_in changed_in verdict step_at play_on play read_fault write_fault commit_record open_decision checkpoint bases_in load_from view_base view_bases may_forget commit_at past_at rescue_turn trim_start trim_feed copy_work_asks copy_start copy_feed reconf_work_asks reconf_start reconf_feed reconf_latest new_client entries_at copy_fault tests refusal appends syncs walked task_asks client_asks walks task_feed task_again accepts client_command client_deliver client_tick fields_size decided newest log_of entries_of members path_on path changes_below version outcome history_of start latest log history unit_moves layout_moves seqr_moves client_turned happens limit_of drain_on drain tick_all rounds settle line lines
stop_after_event_9 = refl

abbrev pub stop_after_event_10_header : Header
stop_after_event_10_header = record { units = 1; layouts = 1; seqs = 1; clients = 3; limit = 100; chains = (0 ∷ []) ∷ []; objects = obj 16777216 ∷ obj 16777217 ∷ [] }

abbrev pub stop_after_event_10_script : List (Line kinds)
stop_after_event_10_script =
    Happens (Commands 0 (cmd.Host (obj 16777216))) ∷
    Happens (Commands 0 (cmd.Host (obj 16777217))) ∷
    Happens (Commands 1 (cmd.Host (obj 16777216))) ∷
    Happens (Commands 1 (cmd.Host (obj 16777217))) ∷
    Happens (Commands 0 cmd.Begin) ∷
    Happens (Commands 0 (cmd.Ask (obj 16777217) (kind.Value))) ∷
    Settle ∷
    Happens (Commands 1 cmd.Begin) ∷
    Happens (Commands 1 (cmd.Ask (obj 16777216) (kind.Value))) ∷
    Settle ∷
    Happens (Stop (client_id 0)) ∷
    Happens (Commands 0 (cmd.Put (obj 16777216) (kind.Add (pos 1)))) ∷
    Happens (Commands 1 (cmd.Put (obj 16777217) (kind.Add (pos 1)))) ∷
    Happens (Commands 0 cmd.End) ∷
    Settle ∷
    Happens (Commands 1 cmd.End) ∷
    Settle ∷
    Happens (Commands 2 (cmd.Host (obj 16777216))) ∷
    Happens (Commands 2 (cmd.Host (obj 16777217))) ∷
    Happens (Commands 2 cmd.Begin) ∷
    Happens (Commands 2 (cmd.Ask (obj 16777216) (kind.Value))) ∷
    Settle ∷ []

stop_after_event_10 : shown (replay kinds stop_after_event_10_header stop_after_event_10_script) ≡ record {
  marks =
      mark 1 0 0 (told.Hosted (obj 16777216)) ∷
      mark 2 0 0 (told.Hosted (obj 16777217)) ∷
      mark 3 1 0 (told.Hosted (obj 16777216)) ∷
      mark 4 1 0 (told.Hosted (obj 16777217)) ∷
      mark 5 0 1 told.Begin ∷
      mark 7 0 1 (told.Asked (obj 16777217) (kind.Value) 0 (kind.Signed (pos 0))) ∷
      mark 8 1 1 told.Begin ∷
      mark 10 1 1 (told.Asked (obj 16777216) (kind.Value) 0 (kind.Signed (pos 0))) ∷
      mark 13 1 1 (told.Put (obj 16777217) (kind.Add (pos 1))) ∷
      mark 16 1 1 told.End ∷
      mark 17 1 1 (told.Committed 0) ∷
      mark 18 2 0 (told.Hosted (obj 16777216)) ∷
      mark 19 2 0 (told.Hosted (obj 16777217)) ∷
      mark 20 2 1 told.Begin ∷
      mark 22 2 1 (told.Asked (obj 16777216) (kind.Value) 2 (kind.Signed (pos 0))) ∷ [];
  dones =
      done 0 1 1 ((obj 16777217, (kind.Add (pos 1))) ∷ []) ∷ [];
}
unfolding u8_at u16_at u32_at u64_at raw_at fixed_at read_many spell_many fit_many marks reads writes keys new_fields old_fields body entry node_eq bytes_eq bytes_lt part_lt cell_eq chain_of units_of next_of change_fault new_unit unit_ask first_missing on_ask unit_step new_layout layout_ask on_layout_ask layout_step reply work_asks put_cell get_cell fill_cell probe work_feed cell_feed entry_size needs_decision page_of entry_of new_seqr seqr_step seqr_tick append_work_asks append_start append_feed append_again sync_work_asks sync_start sync_feed walk_on walk_start walk_feed no_versions based version_of with_change parts_of decision_in view_start view_version view_parts unknown_in changed_in verdict step_at play_on play read_fault write_fault commit_record open_decision checkpoint bases_in load_from view_base view_bases may_forget commit_at past_at rescue_turn trim_start trim_feed copy_work_asks copy_start copy_feed reconf_work_asks reconf_start reconf_feed reconf_latest new_client entries_at copy_fault tests refusal appends syncs walked task_asks client_asks walks task_feed task_again accepts client_command client_deliver client_tick fields_size decided newest log_of entries_of members path_on path changes_below version outcome history_of start latest log history unit_moves layout_moves seqr_moves client_turned happens limit_of drain_on drain tick_all rounds settle line lines
stop_after_event_10 = refl

abbrev pub stop_after_event_11_header : Header
stop_after_event_11_header = record { units = 1; layouts = 1; seqs = 1; clients = 3; limit = 100; chains = (0 ∷ []) ∷ []; objects = obj 16777216 ∷ obj 16777217 ∷ [] }

abbrev pub stop_after_event_11_script : List (Line kinds)
stop_after_event_11_script =
    Happens (Commands 0 (cmd.Host (obj 16777216))) ∷
    Happens (Commands 0 (cmd.Host (obj 16777217))) ∷
    Happens (Commands 1 (cmd.Host (obj 16777216))) ∷
    Happens (Commands 1 (cmd.Host (obj 16777217))) ∷
    Happens (Commands 0 cmd.Begin) ∷
    Happens (Commands 0 (cmd.Ask (obj 16777217) (kind.Value))) ∷
    Settle ∷
    Happens (Commands 1 cmd.Begin) ∷
    Happens (Commands 1 (cmd.Ask (obj 16777216) (kind.Value))) ∷
    Settle ∷
    Happens (Commands 0 (cmd.Put (obj 16777216) (kind.Add (pos 1)))) ∷
    Happens (Stop (client_id 0)) ∷
    Happens (Commands 1 (cmd.Put (obj 16777217) (kind.Add (pos 1)))) ∷
    Happens (Commands 0 cmd.End) ∷
    Settle ∷
    Happens (Commands 1 cmd.End) ∷
    Settle ∷
    Happens (Commands 2 (cmd.Host (obj 16777216))) ∷
    Happens (Commands 2 (cmd.Host (obj 16777217))) ∷
    Happens (Commands 2 cmd.Begin) ∷
    Happens (Commands 2 (cmd.Ask (obj 16777216) (kind.Value))) ∷
    Settle ∷ []

stop_after_event_11 : shown (replay kinds stop_after_event_11_header stop_after_event_11_script) ≡ record {
  marks =
      mark 1 0 0 (told.Hosted (obj 16777216)) ∷
      mark 2 0 0 (told.Hosted (obj 16777217)) ∷
      mark 3 1 0 (told.Hosted (obj 16777216)) ∷
      mark 4 1 0 (told.Hosted (obj 16777217)) ∷
      mark 5 0 1 told.Begin ∷
      mark 7 0 1 (told.Asked (obj 16777217) (kind.Value) 0 (kind.Signed (pos 0))) ∷
      mark 8 1 1 told.Begin ∷
      mark 10 1 1 (told.Asked (obj 16777216) (kind.Value) 0 (kind.Signed (pos 0))) ∷
      mark 11 0 1 (told.Put (obj 16777216) (kind.Add (pos 1))) ∷
      mark 13 1 1 (told.Put (obj 16777217) (kind.Add (pos 1))) ∷
      mark 16 1 1 told.End ∷
      mark 17 1 1 (told.Committed 0) ∷
      mark 18 2 0 (told.Hosted (obj 16777216)) ∷
      mark 19 2 0 (told.Hosted (obj 16777217)) ∷
      mark 20 2 1 told.Begin ∷
      mark 22 2 1 (told.Asked (obj 16777216) (kind.Value) 2 (kind.Signed (pos 0))) ∷ [];
  dones =
      done 0 1 1 ((obj 16777217, (kind.Add (pos 1))) ∷ []) ∷ [];
}
unfolding u8_at u16_at u32_at u64_at raw_at fixed_at read_many spell_many fit_many marks reads writes keys new_fields old_fields body entry node_eq bytes_eq bytes_lt part_lt cell_eq chain_of units_of next_of change_fault new_unit unit_ask first_missing on_ask unit_step new_layout layout_ask on_layout_ask layout_step reply work_asks put_cell get_cell fill_cell probe work_feed cell_feed entry_size needs_decision page_of entry_of new_seqr seqr_step seqr_tick append_work_asks append_start append_feed append_again sync_work_asks sync_start sync_feed walk_on walk_start walk_feed no_versions based version_of with_change parts_of decision_in view_start view_version view_parts unknown_in changed_in verdict step_at play_on play read_fault write_fault commit_record open_decision checkpoint bases_in load_from view_base view_bases may_forget commit_at past_at rescue_turn trim_start trim_feed copy_work_asks copy_start copy_feed reconf_work_asks reconf_start reconf_feed reconf_latest new_client entries_at copy_fault tests refusal appends syncs walked task_asks client_asks walks task_feed task_again accepts client_command client_deliver client_tick fields_size decided newest log_of entries_of members path_on path changes_below version outcome history_of start latest log history unit_moves layout_moves seqr_moves client_turned happens limit_of drain_on drain tick_all rounds settle line lines
stop_after_event_11 = refl

abbrev pub stop_after_event_12_header : Header
stop_after_event_12_header = record { units = 1; layouts = 1; seqs = 1; clients = 3; limit = 100; chains = (0 ∷ []) ∷ []; objects = obj 16777216 ∷ obj 16777217 ∷ [] }

abbrev pub stop_after_event_12_script : List (Line kinds)
stop_after_event_12_script =
    Happens (Commands 0 (cmd.Host (obj 16777216))) ∷
    Happens (Commands 0 (cmd.Host (obj 16777217))) ∷
    Happens (Commands 1 (cmd.Host (obj 16777216))) ∷
    Happens (Commands 1 (cmd.Host (obj 16777217))) ∷
    Happens (Commands 0 cmd.Begin) ∷
    Happens (Commands 0 (cmd.Ask (obj 16777217) (kind.Value))) ∷
    Settle ∷
    Happens (Commands 1 cmd.Begin) ∷
    Happens (Commands 1 (cmd.Ask (obj 16777216) (kind.Value))) ∷
    Settle ∷
    Happens (Commands 0 (cmd.Put (obj 16777216) (kind.Add (pos 1)))) ∷
    Happens (Commands 1 (cmd.Put (obj 16777217) (kind.Add (pos 1)))) ∷
    Happens (Stop (client_id 0)) ∷
    Happens (Commands 0 cmd.End) ∷
    Settle ∷
    Happens (Commands 1 cmd.End) ∷
    Settle ∷
    Happens (Commands 2 (cmd.Host (obj 16777216))) ∷
    Happens (Commands 2 (cmd.Host (obj 16777217))) ∷
    Happens (Commands 2 cmd.Begin) ∷
    Happens (Commands 2 (cmd.Ask (obj 16777216) (kind.Value))) ∷
    Settle ∷ []

stop_after_event_12 : shown (replay kinds stop_after_event_12_header stop_after_event_12_script) ≡ record {
  marks =
      mark 1 0 0 (told.Hosted (obj 16777216)) ∷
      mark 2 0 0 (told.Hosted (obj 16777217)) ∷
      mark 3 1 0 (told.Hosted (obj 16777216)) ∷
      mark 4 1 0 (told.Hosted (obj 16777217)) ∷
      mark 5 0 1 told.Begin ∷
      mark 7 0 1 (told.Asked (obj 16777217) (kind.Value) 0 (kind.Signed (pos 0))) ∷
      mark 8 1 1 told.Begin ∷
      mark 10 1 1 (told.Asked (obj 16777216) (kind.Value) 0 (kind.Signed (pos 0))) ∷
      mark 11 0 1 (told.Put (obj 16777216) (kind.Add (pos 1))) ∷
      mark 12 1 1 (told.Put (obj 16777217) (kind.Add (pos 1))) ∷
      mark 16 1 1 told.End ∷
      mark 17 1 1 (told.Committed 0) ∷
      mark 18 2 0 (told.Hosted (obj 16777216)) ∷
      mark 19 2 0 (told.Hosted (obj 16777217)) ∷
      mark 20 2 1 told.Begin ∷
      mark 22 2 1 (told.Asked (obj 16777216) (kind.Value) 2 (kind.Signed (pos 0))) ∷ [];
  dones =
      done 0 1 1 ((obj 16777217, (kind.Add (pos 1))) ∷ []) ∷ [];
}
unfolding u8_at u16_at u32_at u64_at raw_at fixed_at read_many spell_many fit_many marks reads writes keys new_fields old_fields body entry node_eq bytes_eq bytes_lt part_lt cell_eq chain_of units_of next_of change_fault new_unit unit_ask first_missing on_ask unit_step new_layout layout_ask on_layout_ask layout_step reply work_asks put_cell get_cell fill_cell probe work_feed cell_feed entry_size needs_decision page_of entry_of new_seqr seqr_step seqr_tick append_work_asks append_start append_feed append_again sync_work_asks sync_start sync_feed walk_on walk_start walk_feed no_versions based version_of with_change parts_of decision_in view_start view_version view_parts unknown_in changed_in verdict step_at play_on play read_fault write_fault commit_record open_decision checkpoint bases_in load_from view_base view_bases may_forget commit_at past_at rescue_turn trim_start trim_feed copy_work_asks copy_start copy_feed reconf_work_asks reconf_start reconf_feed reconf_latest new_client entries_at copy_fault tests refusal appends syncs walked task_asks client_asks walks task_feed task_again accepts client_command client_deliver client_tick fields_size decided newest log_of entries_of members path_on path changes_below version outcome history_of start latest log history unit_moves layout_moves seqr_moves client_turned happens limit_of drain_on drain tick_all rounds settle line lines
stop_after_event_12 = refl

abbrev pub stop_after_event_13_header : Header
stop_after_event_13_header = record { units = 1; layouts = 1; seqs = 1; clients = 3; limit = 100; chains = (0 ∷ []) ∷ []; objects = obj 16777216 ∷ obj 16777217 ∷ [] }

abbrev pub stop_after_event_13_script : List (Line kinds)
stop_after_event_13_script =
    Happens (Commands 0 (cmd.Host (obj 16777216))) ∷
    Happens (Commands 0 (cmd.Host (obj 16777217))) ∷
    Happens (Commands 1 (cmd.Host (obj 16777216))) ∷
    Happens (Commands 1 (cmd.Host (obj 16777217))) ∷
    Happens (Commands 0 cmd.Begin) ∷
    Happens (Commands 0 (cmd.Ask (obj 16777217) (kind.Value))) ∷
    Settle ∷
    Happens (Commands 1 cmd.Begin) ∷
    Happens (Commands 1 (cmd.Ask (obj 16777216) (kind.Value))) ∷
    Settle ∷
    Happens (Commands 0 (cmd.Put (obj 16777216) (kind.Add (pos 1)))) ∷
    Happens (Commands 1 (cmd.Put (obj 16777217) (kind.Add (pos 1)))) ∷
    Happens (Commands 0 cmd.End) ∷
    Happens (Stop (client_id 0)) ∷
    Settle ∷
    Happens (Commands 1 cmd.End) ∷
    Settle ∷
    Happens (Commands 2 (cmd.Host (obj 16777216))) ∷
    Happens (Commands 2 (cmd.Host (obj 16777217))) ∷
    Happens (Commands 2 cmd.Begin) ∷
    Happens (Commands 2 (cmd.Ask (obj 16777216) (kind.Value))) ∷
    Settle ∷ []

stop_after_event_13 : shown (replay kinds stop_after_event_13_header stop_after_event_13_script) ≡ record {
  marks =
      mark 1 0 0 (told.Hosted (obj 16777216)) ∷
      mark 2 0 0 (told.Hosted (obj 16777217)) ∷
      mark 3 1 0 (told.Hosted (obj 16777216)) ∷
      mark 4 1 0 (told.Hosted (obj 16777217)) ∷
      mark 5 0 1 told.Begin ∷
      mark 7 0 1 (told.Asked (obj 16777217) (kind.Value) 0 (kind.Signed (pos 0))) ∷
      mark 8 1 1 told.Begin ∷
      mark 10 1 1 (told.Asked (obj 16777216) (kind.Value) 0 (kind.Signed (pos 0))) ∷
      mark 11 0 1 (told.Put (obj 16777216) (kind.Add (pos 1))) ∷
      mark 12 1 1 (told.Put (obj 16777217) (kind.Add (pos 1))) ∷
      mark 13 0 1 told.End ∷
      mark 16 1 1 told.End ∷
      mark 17 1 1 (told.Committed 1) ∷
      mark 18 2 0 (told.Hosted (obj 16777216)) ∷
      mark 19 2 0 (told.Hosted (obj 16777217)) ∷
      mark 20 2 1 told.Begin ∷
      mark 22 2 1 (told.Asked (obj 16777216) (kind.Value) 3 (kind.Signed (pos 0))) ∷ [];
  dones =
      done 1 1 1 ((obj 16777217, (kind.Add (pos 1))) ∷ []) ∷ [];
}
unfolding u8_at u16_at u32_at u64_at raw_at fixed_at read_many spell_many fit_many marks reads writes keys new_fields old_fields body entry node_eq bytes_eq bytes_lt part_lt cell_eq chain_of units_of next_of change_fault new_unit unit_ask first_missing on_ask unit_step new_layout layout_ask on_layout_ask layout_step reply work_asks put_cell get_cell fill_cell probe work_feed cell_feed entry_size needs_decision page_of entry_of new_seqr seqr_step seqr_tick append_work_asks append_start append_feed append_again sync_work_asks sync_start sync_feed walk_on walk_start walk_feed no_versions based version_of with_change parts_of decision_in view_start view_version view_parts unknown_in changed_in verdict step_at play_on play read_fault write_fault commit_record open_decision checkpoint bases_in load_from view_base view_bases may_forget commit_at past_at rescue_turn trim_start trim_feed copy_work_asks copy_start copy_feed reconf_work_asks reconf_start reconf_feed reconf_latest new_client entries_at copy_fault tests refusal appends syncs walked task_asks client_asks walks task_feed task_again accepts client_command client_deliver client_tick fields_size decided newest log_of entries_of members path_on path changes_below version outcome history_of start latest log history unit_moves layout_moves seqr_moves client_turned happens limit_of drain_on drain tick_all rounds settle line lines
stop_after_event_13 = refl

abbrev pub stop_after_event_14_header : Header
stop_after_event_14_header = record { units = 1; layouts = 1; seqs = 1; clients = 3; limit = 100; chains = (0 ∷ []) ∷ []; objects = obj 16777216 ∷ obj 16777217 ∷ [] }

abbrev pub stop_after_event_14_script : List (Line kinds)
stop_after_event_14_script =
    Happens (Commands 0 (cmd.Host (obj 16777216))) ∷
    Happens (Commands 0 (cmd.Host (obj 16777217))) ∷
    Happens (Commands 1 (cmd.Host (obj 16777216))) ∷
    Happens (Commands 1 (cmd.Host (obj 16777217))) ∷
    Happens (Commands 0 cmd.Begin) ∷
    Happens (Commands 0 (cmd.Ask (obj 16777217) (kind.Value))) ∷
    Settle ∷
    Happens (Commands 1 cmd.Begin) ∷
    Happens (Commands 1 (cmd.Ask (obj 16777216) (kind.Value))) ∷
    Settle ∷
    Happens (Commands 0 (cmd.Put (obj 16777216) (kind.Add (pos 1)))) ∷
    Happens (Commands 1 (cmd.Put (obj 16777217) (kind.Add (pos 1)))) ∷
    Happens (Commands 0 cmd.End) ∷
    Settle ∷
    Happens (Stop (client_id 0)) ∷
    Happens (Commands 1 cmd.End) ∷
    Settle ∷
    Happens (Commands 2 (cmd.Host (obj 16777216))) ∷
    Happens (Commands 2 (cmd.Host (obj 16777217))) ∷
    Happens (Commands 2 cmd.Begin) ∷
    Happens (Commands 2 (cmd.Ask (obj 16777216) (kind.Value))) ∷
    Settle ∷ []

stop_after_event_14 : shown (replay kinds stop_after_event_14_header stop_after_event_14_script) ≡ record {
  marks =
      mark 1 0 0 (told.Hosted (obj 16777216)) ∷
      mark 2 0 0 (told.Hosted (obj 16777217)) ∷
      mark 3 1 0 (told.Hosted (obj 16777216)) ∷
      mark 4 1 0 (told.Hosted (obj 16777217)) ∷
      mark 5 0 1 told.Begin ∷
      mark 7 0 1 (told.Asked (obj 16777217) (kind.Value) 0 (kind.Signed (pos 0))) ∷
      mark 8 1 1 told.Begin ∷
      mark 10 1 1 (told.Asked (obj 16777216) (kind.Value) 0 (kind.Signed (pos 0))) ∷
      mark 11 0 1 (told.Put (obj 16777216) (kind.Add (pos 1))) ∷
      mark 12 1 1 (told.Put (obj 16777217) (kind.Add (pos 1))) ∷
      mark 13 0 1 told.End ∷
      mark 14 0 1 (told.Committed 0) ∷
      mark 16 1 1 told.End ∷
      mark 17 1 1 (told.Aborted 2 (obj 16777216) All 0 1) ∷
      mark 18 2 0 (told.Hosted (obj 16777216)) ∷
      mark 19 2 0 (told.Hosted (obj 16777217)) ∷
      mark 20 2 1 told.Begin ∷
      mark 22 2 1 (told.Asked (obj 16777216) (kind.Value) 4 (kind.Signed (pos 1))) ∷ [];
  dones =
      done 0 0 1 ((obj 16777216, (kind.Add (pos 1))) ∷ []) ∷ [];
}
unfolding u8_at u16_at u32_at u64_at raw_at fixed_at read_many spell_many fit_many marks reads writes keys new_fields old_fields body entry node_eq bytes_eq bytes_lt part_lt cell_eq chain_of units_of next_of change_fault new_unit unit_ask first_missing on_ask unit_step new_layout layout_ask on_layout_ask layout_step reply work_asks put_cell get_cell fill_cell probe work_feed cell_feed entry_size needs_decision page_of entry_of new_seqr seqr_step seqr_tick append_work_asks append_start append_feed append_again sync_work_asks sync_start sync_feed walk_on walk_start walk_feed no_versions based version_of with_change parts_of decision_in view_start view_version view_parts unknown_in changed_in verdict step_at play_on play read_fault write_fault commit_record open_decision checkpoint bases_in load_from view_base view_bases may_forget commit_at past_at rescue_turn trim_start trim_feed copy_work_asks copy_start copy_feed reconf_work_asks reconf_start reconf_feed reconf_latest new_client entries_at copy_fault tests refusal appends syncs walked task_asks client_asks walks task_feed task_again accepts client_command client_deliver client_tick fields_size decided newest log_of entries_of members path_on path changes_below version outcome history_of start latest log history unit_moves layout_moves seqr_moves client_turned happens limit_of drain_on drain tick_all rounds settle line lines
stop_after_event_14 = refl

abbrev pub stop_after_event_15_header : Header
stop_after_event_15_header = record { units = 1; layouts = 1; seqs = 1; clients = 3; limit = 100; chains = (0 ∷ []) ∷ []; objects = obj 16777216 ∷ obj 16777217 ∷ [] }

abbrev pub stop_after_event_15_script : List (Line kinds)
stop_after_event_15_script =
    Happens (Commands 0 (cmd.Host (obj 16777216))) ∷
    Happens (Commands 0 (cmd.Host (obj 16777217))) ∷
    Happens (Commands 1 (cmd.Host (obj 16777216))) ∷
    Happens (Commands 1 (cmd.Host (obj 16777217))) ∷
    Happens (Commands 0 cmd.Begin) ∷
    Happens (Commands 0 (cmd.Ask (obj 16777217) (kind.Value))) ∷
    Settle ∷
    Happens (Commands 1 cmd.Begin) ∷
    Happens (Commands 1 (cmd.Ask (obj 16777216) (kind.Value))) ∷
    Settle ∷
    Happens (Commands 0 (cmd.Put (obj 16777216) (kind.Add (pos 1)))) ∷
    Happens (Commands 1 (cmd.Put (obj 16777217) (kind.Add (pos 1)))) ∷
    Happens (Commands 0 cmd.End) ∷
    Settle ∷
    Happens (Commands 1 cmd.End) ∷
    Happens (Stop (client_id 0)) ∷
    Settle ∷
    Happens (Commands 2 (cmd.Host (obj 16777216))) ∷
    Happens (Commands 2 (cmd.Host (obj 16777217))) ∷
    Happens (Commands 2 cmd.Begin) ∷
    Happens (Commands 2 (cmd.Ask (obj 16777216) (kind.Value))) ∷
    Settle ∷ []

stop_after_event_15 : shown (replay kinds stop_after_event_15_header stop_after_event_15_script) ≡ record {
  marks =
      mark 1 0 0 (told.Hosted (obj 16777216)) ∷
      mark 2 0 0 (told.Hosted (obj 16777217)) ∷
      mark 3 1 0 (told.Hosted (obj 16777216)) ∷
      mark 4 1 0 (told.Hosted (obj 16777217)) ∷
      mark 5 0 1 told.Begin ∷
      mark 7 0 1 (told.Asked (obj 16777217) (kind.Value) 0 (kind.Signed (pos 0))) ∷
      mark 8 1 1 told.Begin ∷
      mark 10 1 1 (told.Asked (obj 16777216) (kind.Value) 0 (kind.Signed (pos 0))) ∷
      mark 11 0 1 (told.Put (obj 16777216) (kind.Add (pos 1))) ∷
      mark 12 1 1 (told.Put (obj 16777217) (kind.Add (pos 1))) ∷
      mark 13 0 1 told.End ∷
      mark 14 0 1 (told.Committed 0) ∷
      mark 15 1 1 told.End ∷
      mark 17 1 1 (told.Aborted 2 (obj 16777216) All 0 1) ∷
      mark 18 2 0 (told.Hosted (obj 16777216)) ∷
      mark 19 2 0 (told.Hosted (obj 16777217)) ∷
      mark 20 2 1 told.Begin ∷
      mark 22 2 1 (told.Asked (obj 16777216) (kind.Value) 4 (kind.Signed (pos 1))) ∷ [];
  dones =
      done 0 0 1 ((obj 16777216, (kind.Add (pos 1))) ∷ []) ∷ [];
}
unfolding u8_at u16_at u32_at u64_at raw_at fixed_at read_many spell_many fit_many marks reads writes keys new_fields old_fields body entry node_eq bytes_eq bytes_lt part_lt cell_eq chain_of units_of next_of change_fault new_unit unit_ask first_missing on_ask unit_step new_layout layout_ask on_layout_ask layout_step reply work_asks put_cell get_cell fill_cell probe work_feed cell_feed entry_size needs_decision page_of entry_of new_seqr seqr_step seqr_tick append_work_asks append_start append_feed append_again sync_work_asks sync_start sync_feed walk_on walk_start walk_feed no_versions based version_of with_change parts_of decision_in view_start view_version view_parts unknown_in changed_in verdict step_at play_on play read_fault write_fault commit_record open_decision checkpoint bases_in load_from view_base view_bases may_forget commit_at past_at rescue_turn trim_start trim_feed copy_work_asks copy_start copy_feed reconf_work_asks reconf_start reconf_feed reconf_latest new_client entries_at copy_fault tests refusal appends syncs walked task_asks client_asks walks task_feed task_again accepts client_command client_deliver client_tick fields_size decided newest log_of entries_of members path_on path changes_below version outcome history_of start latest log history unit_moves layout_moves seqr_moves client_turned happens limit_of drain_on drain tick_all rounds settle line lines
stop_after_event_15 = refl

abbrev pub stop_after_event_16_header : Header
stop_after_event_16_header = record { units = 1; layouts = 1; seqs = 1; clients = 3; limit = 100; chains = (0 ∷ []) ∷ []; objects = obj 16777216 ∷ obj 16777217 ∷ [] }

abbrev pub stop_after_event_16_script : List (Line kinds)
stop_after_event_16_script =
    Happens (Commands 0 (cmd.Host (obj 16777216))) ∷
    Happens (Commands 0 (cmd.Host (obj 16777217))) ∷
    Happens (Commands 1 (cmd.Host (obj 16777216))) ∷
    Happens (Commands 1 (cmd.Host (obj 16777217))) ∷
    Happens (Commands 0 cmd.Begin) ∷
    Happens (Commands 0 (cmd.Ask (obj 16777217) (kind.Value))) ∷
    Settle ∷
    Happens (Commands 1 cmd.Begin) ∷
    Happens (Commands 1 (cmd.Ask (obj 16777216) (kind.Value))) ∷
    Settle ∷
    Happens (Commands 0 (cmd.Put (obj 16777216) (kind.Add (pos 1)))) ∷
    Happens (Commands 1 (cmd.Put (obj 16777217) (kind.Add (pos 1)))) ∷
    Happens (Commands 0 cmd.End) ∷
    Settle ∷
    Happens (Commands 1 cmd.End) ∷
    Settle ∷
    Happens (Stop (client_id 0)) ∷
    Happens (Commands 2 (cmd.Host (obj 16777216))) ∷
    Happens (Commands 2 (cmd.Host (obj 16777217))) ∷
    Happens (Commands 2 cmd.Begin) ∷
    Happens (Commands 2 (cmd.Ask (obj 16777216) (kind.Value))) ∷
    Settle ∷ []

stop_after_event_16 : shown (replay kinds stop_after_event_16_header stop_after_event_16_script) ≡ record {
  marks =
      mark 1 0 0 (told.Hosted (obj 16777216)) ∷
      mark 2 0 0 (told.Hosted (obj 16777217)) ∷
      mark 3 1 0 (told.Hosted (obj 16777216)) ∷
      mark 4 1 0 (told.Hosted (obj 16777217)) ∷
      mark 5 0 1 told.Begin ∷
      mark 7 0 1 (told.Asked (obj 16777217) (kind.Value) 0 (kind.Signed (pos 0))) ∷
      mark 8 1 1 told.Begin ∷
      mark 10 1 1 (told.Asked (obj 16777216) (kind.Value) 0 (kind.Signed (pos 0))) ∷
      mark 11 0 1 (told.Put (obj 16777216) (kind.Add (pos 1))) ∷
      mark 12 1 1 (told.Put (obj 16777217) (kind.Add (pos 1))) ∷
      mark 13 0 1 told.End ∷
      mark 14 0 1 (told.Committed 0) ∷
      mark 15 1 1 told.End ∷
      mark 16 1 1 (told.Aborted 2 (obj 16777216) All 0 1) ∷
      mark 18 2 0 (told.Hosted (obj 16777216)) ∷
      mark 19 2 0 (told.Hosted (obj 16777217)) ∷
      mark 20 2 1 told.Begin ∷
      mark 22 2 1 (told.Asked (obj 16777216) (kind.Value) 4 (kind.Signed (pos 1))) ∷ [];
  dones =
      done 0 0 1 ((obj 16777216, (kind.Add (pos 1))) ∷ []) ∷ [];
}
unfolding u8_at u16_at u32_at u64_at raw_at fixed_at read_many spell_many fit_many marks reads writes keys new_fields old_fields body entry node_eq bytes_eq bytes_lt part_lt cell_eq chain_of units_of next_of change_fault new_unit unit_ask first_missing on_ask unit_step new_layout layout_ask on_layout_ask layout_step reply work_asks put_cell get_cell fill_cell probe work_feed cell_feed entry_size needs_decision page_of entry_of new_seqr seqr_step seqr_tick append_work_asks append_start append_feed append_again sync_work_asks sync_start sync_feed walk_on walk_start walk_feed no_versions based version_of with_change parts_of decision_in view_start view_version view_parts unknown_in changed_in verdict step_at play_on play read_fault write_fault commit_record open_decision checkpoint bases_in load_from view_base view_bases may_forget commit_at past_at rescue_turn trim_start trim_feed copy_work_asks copy_start copy_feed reconf_work_asks reconf_start reconf_feed reconf_latest new_client entries_at copy_fault tests refusal appends syncs walked task_asks client_asks walks task_feed task_again accepts client_command client_deliver client_tick fields_size decided newest log_of entries_of members path_on path changes_below version outcome history_of start latest log history unit_moves layout_moves seqr_moves client_turned happens limit_of drain_on drain tick_all rounds settle line lines
stop_after_event_16 = refl
