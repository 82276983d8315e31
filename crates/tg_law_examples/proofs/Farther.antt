-- Worked runs: the marks and the history that each gives.
use Rattle.std.proofs.Common.{◌≡◌, List, [], ◌∷◌, refl, Some, None}
use Rattle.std.specs.Prelude.{true, pos}
use Rattle.tg_base.specs.Clusters.{Header}
use Rattle.tg_model.specs.declared.command.Command.TheVariants as cmd
use Rattle.tg_model.specs.declared.command.Event.TheVariants.{Command as Commands, Deliver, Lose, Tick, Stop}
use Rattle.tg_model.specs.declared.refusal.Refusal.TheVariants as cause
use Rattle.tg_model.specs.declared.trace.What.TheVariants as told
use Rattle.tg_codec.specs.Reading.{u8_at, u16_at, u32_at, u64_at, raw_at, fixed_at}
use Rattle.tg_codec.specs.Codec.{read_many, spell_many, fit_many}
use Rattle.tg_entry.specs.Reads.{marks, reads}
use Rattle.tg_entry.specs.Writes.{writes}
use Rattle.tg_entry.specs.Checkpoints.{keys, new_fields, old_fields}
use Rattle.tg_entry.specs.Format.{body, entry}
use Rattle.tg_base.specs.Orders.{node_eq}
use Rattle.tg_protocol.specs.Words.{bytes_eq, bytes_lt, part_lt, cell_eq, client_id}
use Rattle.tg_protocol.specs.Layouts.{chain_of, units_of, next_of, change_fault}
use Rattle.tg_protocol.specs.Units.{new_unit, unit_ask, first_missing, on_ask, unit_step}
use Rattle.tg_protocol.specs.LayoutServers.{new_layout, layout_ask, on_layout_ask, layout_step}
use Rattle.tg_protocol.specs.Replies.{reply}
use Rattle.tg_protocol.specs.Cells.{work_asks, put_cell, get_cell, fill_cell, probe, work_feed, cell_feed}
use Rattle.tg_entry.specs.Needs.{needs_decision}
use Rattle.tg_protocol.specs.Entries.{entry_size}
use Rattle.tg_protocol.specs.Pages.{page_of, entry_of}
use Rattle.tg_protocol.specs.Sequencers.{new_seqr, seqr_step, seqr_tick}
use Rattle.tg_protocol.specs.Appending.{append_work_asks, append_start, append_feed, append_again}
use Rattle.tg_protocol.specs.Syncing.{sync_work_asks, sync_start, sync_feed}
use Rattle.tg_protocol.specs.Walking.{walk_on, walk_start, walk_feed}
use Rattle.tg_protocol.specs.Versions.{no_versions, based, version_of, with_change, parts_of}
use Rattle.tg_protocol.specs.Views.{decision_in, view_start, view_version, view_parts, unknown_in, changed_in, verdict, view_outcome, step_at, play_on, play}
use Rattle.tg_protocol.specs.Transactions.{read_fault, write_fault, commit_record}
use Rattle.tg_protocol.specs.Checkpoints.{open_decision, checkpoint, bases_in, load_from, view_base, view_bases, may_forget}
use Rattle.tg_protocol.specs.Past.{commit_at, past_at, rescue_turn}
use Rattle.tg_protocol.specs.Trimming.{trim_start, trim_feed, copy_work_asks, copy_start, copy_feed}
use Rattle.tg_protocol.specs.Reconfiguring.{reconf_work_asks, reconf_start, reconf_feed, reconf_latest}
use Rattle.tg_protocol.specs.Clients.{new_client, entries_at, copy_fault, tests, refusal}
use Rattle.tg_protocol.specs.Answers.{appends, syncs, walked}
use Rattle.tg_protocol.specs.ClientSteps.{task_asks, client_asks, walks, task_feed, task_again, accepts, client_command, client_deliver, client_tick}
use Rattle.tg_protocol.specs.Sizes.{fields_size}
use Rattle.tg_protocol.specs.Logs.{decided, newest, log_of, entries_of, members, path_on, path, changes_below, version, outcome, history_of}
use Rattle.tg_protocol.specs.Worlds.{start, latest, log, history, unit_moves, layout_moves, seqr_moves, client_turned, happens, limit_of, drain_on, drain, tick_all, rounds, settle, line, lines, Line, Happens, Update, Drain, Settle, replay}
use Rattle.tg_law_examples.proofs.SevenKinds.{kinds}
use Rattle.tg_law_examples.proofs.SevenKinds as kind
use Rattle.tg_law_examples.proofs.Shown.{shown, obj, mark, done}

abbrev pub past_answers_header : Header
past_answers_header = record { units = 1; layouts = 1; seqs = 1; clients = 3; limit = 100; chains = (0 ∷ []) ∷ []; objects = obj 16777216 ∷ [] }

abbrev pub past_answers_script : List (Line kinds)
past_answers_script =
    Update 0 (obj 16777216) (kind.Add (pos 5)) ∷
    Settle ∷
    Update 0 (obj 16777216) (kind.Add (pos 7)) ∷
    Settle ∷
    Happens (Commands 0 (cmd.Host (obj 16777216))) ∷
    Happens (Commands 0 (cmd.AskAt 1 (obj 16777216) (kind.Value))) ∷
    Settle ∷
    Happens (Commands 0 (cmd.AskAt 0 (obj 16777216) (kind.Value))) ∷
    Settle ∷
    Happens (Commands 0 (cmd.AskAt 3 (obj 16777216) (kind.Value))) ∷
    Settle ∷ []

past_answers : shown (replay kinds past_answers_header past_answers_script) ≡ record {
  marks =
      mark 1 0 1 told.Begin ∷
      mark 1 0 1 (told.Put (obj 16777216) (kind.Add (pos 5))) ∷
      mark 1 0 1 told.End ∷
      mark 2 0 1 (told.Committed 0) ∷
      mark 3 0 2 told.Begin ∷
      mark 3 0 2 (told.Put (obj 16777216) (kind.Add (pos 7))) ∷
      mark 3 0 2 told.End ∷
      mark 4 0 2 (told.Committed 1) ∷
      mark 5 0 0 (told.Hosted (obj 16777216)) ∷
      mark 7 0 0 (told.Past (obj 16777216) (kind.Value) 1 (kind.Signed (pos 5))) ∷
      mark 9 0 0 (told.Past (obj 16777216) (kind.Value) 0 (kind.Signed (pos 0))) ∷
      mark 11 0 0 (told.Refused (cause.Ahead 2)) ∷ [];
  dones =
      done 0 0 1 ((obj 16777216, (kind.Add (pos 5))) ∷ []) ∷
      done 1 0 2 ((obj 16777216, (kind.Add (pos 7))) ∷ []) ∷ [];
}
unfolding u8_at u16_at u32_at u64_at raw_at fixed_at read_many spell_many fit_many marks reads writes keys new_fields old_fields body entry node_eq bytes_eq bytes_lt part_lt cell_eq chain_of units_of next_of change_fault new_unit unit_ask first_missing on_ask unit_step new_layout layout_ask on_layout_ask layout_step reply work_asks put_cell get_cell fill_cell probe work_feed cell_feed entry_size needs_decision page_of entry_of new_seqr seqr_step seqr_tick append_work_asks append_start append_feed append_again sync_work_asks sync_start sync_feed walk_on walk_start walk_feed no_versions based version_of with_change parts_of decision_in view_start view_version view_parts unknown_in changed_in verdict view_outcome step_at play_on play read_fault write_fault commit_record open_decision checkpoint bases_in load_from view_base view_bases may_forget commit_at past_at rescue_turn trim_start trim_feed copy_work_asks copy_start copy_feed reconf_work_asks reconf_start reconf_feed reconf_latest new_client entries_at copy_fault tests refusal appends syncs walked task_asks client_asks walks task_feed task_again accepts client_command client_deliver client_tick fields_size decided newest log_of entries_of members path_on path changes_below version outcome history_of start latest log history unit_moves layout_moves seqr_moves client_turned happens limit_of drain_on drain tick_all rounds settle line lines
past_answers = refl

abbrev pub past_trimmed_header : Header
past_trimmed_header = record { units = 1; layouts = 1; seqs = 1; clients = 3; limit = 100; chains = (0 ∷ []) ∷ []; objects = obj 16777216 ∷ [] }

abbrev pub past_trimmed_script : List (Line kinds)
past_trimmed_script =
    Update 0 (obj 16777216) (kind.Add (pos 5)) ∷
    Happens (Deliver 0) ∷
    Happens (Deliver 1) ∷
    Happens (Deliver 2) ∷
    Happens (Lose 3) ∷
    Happens (Commands 1 (cmd.Host (obj 16777216))) ∷
    Happens (Commands 1 (cmd.Checkpoint (obj 16777216))) ∷
    Drain ∷
    Happens (Commands 1 (cmd.Checkpoint (obj 0))) ∷
    Drain ∷
    Happens (Commands 1 (cmd.Forget (obj 16777216) 1)) ∷
    Drain ∷
    Happens (Commands 1 (cmd.Forget (obj 0) 1)) ∷
    Drain ∷
    Happens (Commands 1 cmd.Trim) ∷
    Drain ∷
    Happens (Tick (client_id 0)) ∷
    Drain ∷
    Happens (Commands 2 (cmd.Host (obj 16777216))) ∷
    Happens (Commands 2 cmd.Begin) ∷
    Happens (Commands 2 (cmd.Ask (obj 16777216) (kind.Value))) ∷
    Drain ∷
    Happens (Commands 2 cmd.End) ∷
    Happens (Commands 2 (cmd.AskAt 0 (obj 16777216) (kind.Value))) ∷
    Drain ∷
    Happens (Commands 2 (cmd.AskAt 1 (obj 16777216) (kind.Value))) ∷
    Drain ∷ []

past_trimmed : shown (replay kinds past_trimmed_header past_trimmed_script) ≡ record {
  marks =
      mark 1 0 1 told.Begin ∷
      mark 1 0 1 (told.Put (obj 16777216) (kind.Add (pos 5))) ∷
      mark 1 0 1 told.End ∷
      mark 6 1 0 (told.Hosted (obj 16777216)) ∷
      mark 8 1 0 (told.Saved (obj 16777216) 1 1) ∷
      mark 10 1 0 (told.Saved (obj 0) 2 2) ∷
      mark 12 1 1 told.Begin ∷
      mark 12 1 1 (told.Put (obj 0) (kind.Mark (obj 16777216) 1)) ∷
      mark 12 1 1 told.End ∷
      mark 12 1 1 (told.Committed 3) ∷
      mark 12 1 0 (told.Marked (obj 16777216) 1) ∷
      mark 14 1 2 told.Begin ∷
      mark 14 1 2 (told.Put (obj 0) (kind.Mark (obj 0) 1)) ∷
      mark 14 1 2 told.End ∷
      mark 14 1 2 (told.Committed 4) ∷
      mark 14 1 0 (told.Marked (obj 0) 1) ∷
      mark 16 1 0 (told.Trimmed 1) ∷
      mark 18 0 1 (told.Refused (cause.Forgotten 0 1)) ∷
      mark 19 2 0 (told.Hosted (obj 16777216)) ∷
      mark 20 2 1 told.Begin ∷
      mark 22 2 1 (told.Asked (obj 16777216) (kind.Value) 5 (kind.Signed (pos 5))) ∷
      mark 23 2 1 told.End ∷
      mark 23 2 1 (told.Committed 5) ∷
      mark 25 2 0 (told.Refused (cause.Forgotten 0 1)) ∷
      mark 27 2 0 (told.Past (obj 16777216) (kind.Value) 1 (kind.Signed (pos 5))) ∷ [];
  dones =
      done 0 0 1 ((obj 16777216, (kind.Add (pos 5))) ∷ []) ∷
      done 3 1 1 ((obj 0, (kind.Mark (obj 16777216) 1)) ∷ []) ∷
      done 4 1 2 ((obj 0, (kind.Mark (obj 0) 1)) ∷ []) ∷ [];
}
unfolding u8_at u16_at u32_at u64_at raw_at fixed_at read_many spell_many fit_many marks reads writes keys new_fields old_fields body entry node_eq bytes_eq bytes_lt part_lt cell_eq chain_of units_of next_of change_fault new_unit unit_ask first_missing on_ask unit_step new_layout layout_ask on_layout_ask layout_step reply work_asks put_cell get_cell fill_cell probe work_feed cell_feed entry_size needs_decision page_of entry_of new_seqr seqr_step seqr_tick append_work_asks append_start append_feed append_again sync_work_asks sync_start sync_feed walk_on walk_start walk_feed no_versions based version_of with_change parts_of decision_in view_start view_version view_parts unknown_in changed_in verdict view_outcome step_at play_on play read_fault write_fault commit_record open_decision checkpoint bases_in load_from view_base view_bases may_forget commit_at past_at rescue_turn trim_start trim_feed copy_work_asks copy_start copy_feed reconf_work_asks reconf_start reconf_feed reconf_latest new_client entries_at copy_fault tests refusal appends syncs walked task_asks client_asks walks task_feed task_again accepts client_command client_deliver client_tick fields_size decided newest log_of entries_of members path_on path changes_below version outcome history_of start latest log history unit_moves layout_moves seqr_moves client_turned happens limit_of drain_on drain tick_all rounds settle line lines
past_trimmed = refl

abbrev pub rescue_by_part_header : Header
rescue_by_part_header = record { units = 1; layouts = 1; seqs = 1; clients = 3; limit = 100; chains = (0 ∷ []) ∷ []; objects = obj 16777216 ∷ obj 16777217 ∷ [] }

abbrev pub rescue_by_part_script : List (Line kinds)
rescue_by_part_script =
    Happens (Commands 0 (cmd.Host (obj 16777216))) ∷
    Happens (Commands 1 (cmd.Host (obj 16777217))) ∷
    Happens (Commands 0 cmd.Begin) ∷
    Happens (Commands 0 (cmd.Ask (obj 16777216) (kind.Value))) ∷
    Settle ∷
    Happens (Commands 0 (cmd.Put (obj 16777217) (kind.Add (pos 9)))) ∷
    Happens (Commands 0 cmd.End) ∷
    Happens (Deliver 4) ∷
    Happens (Deliver 5) ∷
    Happens (Deliver 6) ∷
    Happens (Stop (client_id 0)) ∷
    Happens (Commands 1 cmd.Begin) ∷
    Happens (Commands 1 (cmd.Ask (obj 16777217) (kind.Value))) ∷
    Settle ∷
    Happens (Commands 1 cmd.End) ∷
    Happens (Commands 1 (cmd.Rescue 0)) ∷
    Settle ∷
    Happens (Commands 1 cmd.Begin) ∷
    Happens (Commands 1 (cmd.Ask (obj 16777217) (kind.Value))) ∷
    Settle ∷ []

rescue_by_part : shown (replay kinds rescue_by_part_header rescue_by_part_script) ≡ record {
  marks =
      mark 1 0 0 (told.Hosted (obj 16777216)) ∷
      mark 2 1 0 (told.Hosted (obj 16777217)) ∷
      mark 3 0 1 told.Begin ∷
      mark 5 0 1 (told.Asked (obj 16777216) (kind.Value) 0 (kind.Signed (pos 0))) ∷
      mark 6 0 1 (told.Put (obj 16777217) (kind.Add (pos 9))) ∷
      mark 7 0 1 told.End ∷
      mark 12 1 1 told.Begin ∷
      mark 14 1 1 (told.Refused (cause.Undecided 0 (obj 16777216))) ∷
      mark 15 1 1 told.End ∷
      mark 15 1 1 (told.Committed 0) ∷
      mark 17 1 0 (told.Rescued 0 (Some true)) ∷
      mark 18 1 2 told.Begin ∷
      mark 20 1 2 (told.Asked (obj 16777217) (kind.Value) 2 (kind.Signed (pos 9))) ∷ [];
  dones =
      done 0 0 1 ((obj 16777217, (kind.Add (pos 9))) ∷ []) ∷ [];
}
unfolding u8_at u16_at u32_at u64_at raw_at fixed_at read_many spell_many fit_many marks reads writes keys new_fields old_fields body entry node_eq bytes_eq bytes_lt part_lt cell_eq chain_of units_of next_of change_fault new_unit unit_ask first_missing on_ask unit_step new_layout layout_ask on_layout_ask layout_step reply work_asks put_cell get_cell fill_cell probe work_feed cell_feed entry_size needs_decision page_of entry_of new_seqr seqr_step seqr_tick append_work_asks append_start append_feed append_again sync_work_asks sync_start sync_feed walk_on walk_start walk_feed no_versions based version_of with_change parts_of decision_in view_start view_version view_parts unknown_in changed_in verdict view_outcome step_at play_on play read_fault write_fault commit_record open_decision checkpoint bases_in load_from view_base view_bases may_forget commit_at past_at rescue_turn trim_start trim_feed copy_work_asks copy_start copy_feed reconf_work_asks reconf_start reconf_feed reconf_latest new_client entries_at copy_fault tests refusal appends syncs walked task_asks client_asks walks task_feed task_again accepts client_command client_deliver client_tick fields_size decided newest log_of entries_of members path_on path changes_below version outcome history_of start latest log history unit_moves layout_moves seqr_moves client_turned happens limit_of drain_on drain tick_all rounds settle line lines
rescue_by_part = refl

abbrev pub rescue_and_trim_header : Header
rescue_and_trim_header = record { units = 1; layouts = 1; seqs = 1; clients = 3; limit = 100; chains = (0 ∷ []) ∷ []; objects = obj 16777216 ∷ obj 16777217 ∷ [] }

abbrev pub rescue_and_trim_script : List (Line kinds)
rescue_and_trim_script =
    Happens (Commands 0 (cmd.Host (obj 16777216))) ∷
    Happens (Commands 2 (cmd.Host (obj 16777216))) ∷
    Happens (Commands 2 (cmd.Host (obj 16777217))) ∷
    Update 0 (obj 16777216) (kind.Add (pos 1)) ∷
    Settle ∷
    Happens (Commands 0 cmd.Begin) ∷
    Happens (Commands 0 (cmd.Ask (obj 16777216) (kind.Value))) ∷
    Settle ∷
    Happens (Commands 0 (cmd.Put (obj 16777217) (kind.Add (pos 9)))) ∷
    Happens (Commands 0 cmd.End) ∷
    Happens (Deliver 8) ∷
    Happens (Deliver 9) ∷
    Happens (Deliver 10) ∷
    Happens (Stop (client_id 0)) ∷
    Update 2 (obj 16777216) (kind.Add (pos 1)) ∷
    Settle ∷
    Happens (Commands 2 (cmd.Checkpoint (obj 16777216))) ∷
    Settle ∷
    Happens (Commands 2 (cmd.Checkpoint (obj 16777217))) ∷
    Settle ∷
    Happens (Commands 2 (cmd.Checkpoint (obj 0))) ∷
    Settle ∷
    Happens (Commands 2 (cmd.Forget (obj 16777216) 1)) ∷
    Settle ∷
    Happens (Commands 2 (cmd.Forget (obj 16777217) 1)) ∷
    Settle ∷
    Happens (Commands 2 (cmd.Forget (obj 0) 1)) ∷
    Settle ∷
    Happens (Commands 2 cmd.Trim) ∷
    Settle ∷
    Happens (Commands 1 (cmd.Host (obj 16777217))) ∷
    Happens (Commands 1 (cmd.Rescue 1)) ∷
    Settle ∷ []

rescue_and_trim : shown (replay kinds rescue_and_trim_header rescue_and_trim_script) ≡ record {
  marks =
      mark 1 0 0 (told.Hosted (obj 16777216)) ∷
      mark 2 2 0 (told.Hosted (obj 16777216)) ∷
      mark 3 2 0 (told.Hosted (obj 16777217)) ∷
      mark 4 0 1 told.Begin ∷
      mark 4 0 1 (told.Put (obj 16777216) (kind.Add (pos 1))) ∷
      mark 4 0 1 told.End ∷
      mark 5 0 1 (told.Committed 0) ∷
      mark 6 0 2 told.Begin ∷
      mark 8 0 2 (told.Asked (obj 16777216) (kind.Value) 1 (kind.Signed (pos 1))) ∷
      mark 9 0 2 (told.Put (obj 16777217) (kind.Add (pos 9))) ∷
      mark 10 0 2 told.End ∷
      mark 15 2 1 told.Begin ∷
      mark 15 2 1 (told.Put (obj 16777216) (kind.Add (pos 1))) ∷
      mark 15 2 1 told.End ∷
      mark 16 2 1 (told.Committed 2) ∷
      mark 18 2 0 (told.Saved (obj 16777216) 3 3) ∷
      mark 20 2 0 (told.Saved (obj 16777217) 4 4) ∷
      mark 22 2 0 (told.Saved (obj 0) 5 5) ∷
      mark 24 2 2 told.Begin ∷
      mark 24 2 2 (told.Put (obj 0) (kind.Mark (obj 16777216) 1)) ∷
      mark 24 2 2 told.End ∷
      mark 24 2 2 (told.Committed 6) ∷
      mark 24 2 0 (told.Marked (obj 16777216) 1) ∷
      mark 26 2 3 told.Begin ∷
      mark 26 2 3 (told.Put (obj 0) (kind.Mark (obj 16777217) 1)) ∷
      mark 26 2 3 told.End ∷
      mark 26 2 3 (told.Committed 7) ∷
      mark 26 2 0 (told.Marked (obj 16777217) 1) ∷
      mark 28 2 4 told.Begin ∷
      mark 28 2 4 (told.Put (obj 0) (kind.Mark (obj 0) 1)) ∷
      mark 28 2 4 told.End ∷
      mark 28 2 4 (told.Committed 8) ∷
      mark 28 2 0 (told.Marked (obj 0) 1) ∷
      mark 30 2 0 (told.Trimmed 1) ∷
      mark 31 1 0 (told.Hosted (obj 16777217)) ∷
      mark 33 1 0 (told.Refused (cause.Undecided 1 (obj 16777216))) ∷ [];
  dones =
      done 0 0 1 ((obj 16777216, (kind.Add (pos 1))) ∷ []) ∷
      done 1 0 2 ((obj 16777217, (kind.Add (pos 9))) ∷ []) ∷
      done 2 2 1 ((obj 16777216, (kind.Add (pos 1))) ∷ []) ∷
      done 6 2 2 ((obj 0, (kind.Mark (obj 16777216) 1)) ∷ []) ∷
      done 7 2 3 ((obj 0, (kind.Mark (obj 16777217) 1)) ∷ []) ∷
      done 8 2 4 ((obj 0, (kind.Mark (obj 0) 1)) ∷ []) ∷ [];
}
unfolding u8_at u16_at u32_at u64_at raw_at fixed_at read_many spell_many fit_many marks reads writes keys new_fields old_fields body entry node_eq bytes_eq bytes_lt part_lt cell_eq chain_of units_of next_of change_fault new_unit unit_ask first_missing on_ask unit_step new_layout layout_ask on_layout_ask layout_step reply work_asks put_cell get_cell fill_cell probe work_feed cell_feed entry_size needs_decision page_of entry_of new_seqr seqr_step seqr_tick append_work_asks append_start append_feed append_again sync_work_asks sync_start sync_feed walk_on walk_start walk_feed no_versions based version_of with_change parts_of decision_in view_start view_version view_parts unknown_in changed_in verdict view_outcome step_at play_on play read_fault write_fault commit_record open_decision checkpoint bases_in load_from view_base view_bases may_forget commit_at past_at rescue_turn trim_start trim_feed copy_work_asks copy_start copy_feed reconf_work_asks reconf_start reconf_feed reconf_latest new_client entries_at copy_fault tests refusal appends syncs walked task_asks client_asks walks task_feed task_again accepts client_command client_deliver client_tick fields_size decided newest log_of entries_of members path_on path changes_below version outcome history_of start latest log history unit_moves layout_moves seqr_moves client_turned happens limit_of drain_on drain tick_all rounds settle line lines
rescue_and_trim = refl

abbrev pub rescue_of_nothing_header : Header
rescue_of_nothing_header = record { units = 1; layouts = 1; seqs = 1; clients = 3; limit = 100; chains = (0 ∷ []) ∷ []; objects = obj 16777216 ∷ obj 16777217 ∷ [] }

abbrev pub rescue_of_nothing_script : List (Line kinds)
rescue_of_nothing_script =
    Happens (Commands 0 (cmd.Rescue 0)) ∷
    Settle ∷ []

rescue_of_nothing : shown (replay kinds rescue_of_nothing_header rescue_of_nothing_script) ≡ record {
  marks =
      mark 2 0 0 (told.Rescued 0 None) ∷ [];
  dones = [];
}
unfolding u8_at u16_at u32_at u64_at raw_at fixed_at read_many spell_many fit_many marks reads writes keys new_fields old_fields body entry node_eq bytes_eq bytes_lt part_lt cell_eq chain_of units_of next_of change_fault new_unit unit_ask first_missing on_ask unit_step new_layout layout_ask on_layout_ask layout_step reply work_asks put_cell get_cell fill_cell probe work_feed cell_feed entry_size needs_decision page_of entry_of new_seqr seqr_step seqr_tick append_work_asks append_start append_feed append_again sync_work_asks sync_start sync_feed walk_on walk_start walk_feed no_versions based version_of with_change parts_of decision_in view_start view_version view_parts unknown_in changed_in verdict view_outcome step_at play_on play read_fault write_fault commit_record open_decision checkpoint bases_in load_from view_base view_bases may_forget commit_at past_at rescue_turn trim_start trim_feed copy_work_asks copy_start copy_feed reconf_work_asks reconf_start reconf_feed reconf_latest new_client entries_at copy_fault tests refusal appends syncs walked task_asks client_asks walks task_feed task_again accepts client_command client_deliver client_tick fields_size decided newest log_of entries_of members path_on path changes_below version outcome history_of start latest log history unit_moves layout_moves seqr_moves client_turned happens limit_of drain_on drain tick_all rounds settle line lines
rescue_of_nothing = refl

abbrev pub open_record_header : Header
open_record_header = record { units = 1; layouts = 1; seqs = 1; clients = 3; limit = 100; chains = (0 ∷ []) ∷ []; objects = obj 16777216 ∷ obj 16777217 ∷ [] }

abbrev pub open_record_script : List (Line kinds)
open_record_script =
    Happens (Commands 0 (cmd.Host (obj 16777216))) ∷
    Happens (Commands 1 (cmd.Host (obj 16777217))) ∷
    Happens (Commands 2 (cmd.Host (obj 16777216))) ∷
    Happens (Commands 2 (cmd.Host (obj 16777217))) ∷
    Happens (Commands 0 cmd.Begin) ∷
    Happens (Commands 0 (cmd.Ask (obj 16777216) (kind.Value))) ∷
    Settle ∷
    Happens (Commands 0 (cmd.Put (obj 16777217) (kind.Add (pos 9)))) ∷
    Happens (Commands 0 cmd.End) ∷
    Happens (Deliver 4) ∷
    Happens (Deliver 5) ∷
    Happens (Deliver 6) ∷
    Happens (Stop (client_id 0)) ∷
    Happens (Commands 2 (cmd.Checkpoint (obj 16777217))) ∷
    Drain ∷
    Happens (Commands 2 (cmd.Forget (obj 16777217) 1)) ∷
    Drain ∷ []

open_record : shown (replay kinds open_record_header open_record_script) ≡ record {
  marks =
      mark 1 0 0 (told.Hosted (obj 16777216)) ∷
      mark 2 1 0 (told.Hosted (obj 16777217)) ∷
      mark 3 2 0 (told.Hosted (obj 16777216)) ∷
      mark 4 2 0 (told.Hosted (obj 16777217)) ∷
      mark 5 0 1 told.Begin ∷
      mark 7 0 1 (told.Asked (obj 16777216) (kind.Value) 0 (kind.Signed (pos 0))) ∷
      mark 8 0 1 (told.Put (obj 16777217) (kind.Add (pos 9))) ∷
      mark 9 0 1 told.End ∷
      mark 15 2 0 (told.Saved (obj 16777217) 1 1) ∷
      mark 17 2 0 (told.Refused (cause.OpenDecision 0)) ∷ [];
  dones =
      done 0 0 1 ((obj 16777217, (kind.Add (pos 9))) ∷ []) ∷ [];
}
unfolding u8_at u16_at u32_at u64_at raw_at fixed_at read_many spell_many fit_many marks reads writes keys new_fields old_fields body entry node_eq bytes_eq bytes_lt part_lt cell_eq chain_of units_of next_of change_fault new_unit unit_ask first_missing on_ask unit_step new_layout layout_ask on_layout_ask layout_step reply work_asks put_cell get_cell fill_cell probe work_feed cell_feed entry_size needs_decision page_of entry_of new_seqr seqr_step seqr_tick append_work_asks append_start append_feed append_again sync_work_asks sync_start sync_feed walk_on walk_start walk_feed no_versions based version_of with_change parts_of decision_in view_start view_version view_parts unknown_in changed_in verdict view_outcome step_at play_on play read_fault write_fault commit_record open_decision checkpoint bases_in load_from view_base view_bases may_forget commit_at past_at rescue_turn trim_start trim_feed copy_work_asks copy_start copy_feed reconf_work_asks reconf_start reconf_feed reconf_latest new_client entries_at copy_fault tests refusal appends syncs walked task_asks client_asks walks task_feed task_again accepts client_command client_deliver client_tick fields_size decided newest log_of entries_of members path_on path changes_below version outcome history_of start latest log history unit_moves layout_moves seqr_moves client_turned happens limit_of drain_on drain tick_all rounds settle line lines
open_record = refl

abbrev pub past_above_trim_header : Header
past_above_trim_header = record { units = 1; layouts = 1; seqs = 1; clients = 20; limit = 1000; chains = (0 ∷ []) ∷ []; objects = [] }

abbrev pub past_above_trim_script : List (Line kinds)
past_above_trim_script =
    Update 0 (obj 0) (kind.Name (100 ∷ 105 ∷ 114 ∷ 48 ∷ []) (obj 16777216)) ∷
    Settle ∷
    Happens (Commands 1 (cmd.Checkpoint (obj 0))) ∷
    Settle ∷
    Happens (Commands 1 (cmd.Forget (obj 0) 1)) ∷
    Settle ∷
    Happens (Commands 1 cmd.Trim) ∷
    Settle ∷
    Update 0 (obj 0) (kind.Name (120 ∷ []) (obj 16777217)) ∷
    Settle ∷
    Happens (Commands 2 cmd.Begin) ∷
    Happens (Commands 2 (cmd.Ask (obj 0) (kind.Floor))) ∷
    Settle ∷
    Happens (Commands 2 cmd.End) ∷
    Update 2 (obj 16777217) (kind.Add (pos 1)) ∷
    Happens (Deliver 42) ∷
    Happens (Deliver 42) ∷
    Happens (Deliver 42) ∷
    Happens (Deliver 42) ∷
    Happens (Stop (client_id 2)) ∷
    Happens (Lose 43) ∷
    Happens (Lose 44) ∷
    Happens (Lose 45) ∷
    Happens (Lose 46) ∷
    Happens (Commands 3 cmd.Begin) ∷
    Happens (Commands 3 (cmd.Ask (obj 0) (kind.Floor))) ∷
    Settle ∷
    Happens (Commands 3 cmd.End) ∷
    Happens (Commands 3 (cmd.Host (obj 16777217))) ∷
    Happens (Commands 3 cmd.Begin) ∷
    Happens (Commands 3 (cmd.Ask (obj 16777217) (kind.Value))) ∷
    Settle ∷
    Happens (Commands 3 cmd.End) ∷
    Happens (Commands 3 (cmd.AskAt 8 (obj 16777217) (kind.Value))) ∷
    Settle ∷ []

past_above_trim : shown (replay kinds past_above_trim_header past_above_trim_script) ≡ record {
  marks =
      mark 1 0 1 told.Begin ∷
      mark 1 0 1 (told.Put (obj 0) (kind.Name (100 ∷ 105 ∷ 114 ∷ 48 ∷ []) (obj 16777216))) ∷
      mark 1 0 1 told.End ∷
      mark 2 0 1 (told.Committed 0) ∷
      mark 4 1 0 (told.Saved (obj 0) 1 1) ∷
      mark 6 1 1 told.Begin ∷
      mark 6 1 1 (told.Put (obj 0) (kind.Mark (obj 0) 1)) ∷
      mark 6 1 1 told.End ∷
      mark 6 1 1 (told.Committed 2) ∷
      mark 6 1 0 (told.Marked (obj 0) 1) ∷
      mark 8 1 0 (told.Trimmed 1) ∷
      mark 9 0 2 told.Begin ∷
      mark 9 0 2 (told.Put (obj 0) (kind.Name (120 ∷ []) (obj 16777217))) ∷
      mark 9 0 2 told.End ∷
      mark 10 0 2 (told.Committed 3) ∷
      mark 11 2 1 told.Begin ∷
      mark 13 2 1 (told.Asked (obj 0) (kind.Floor) 4 (kind.Number 1)) ∷
      mark 14 2 1 told.End ∷
      mark 14 2 1 (told.Committed 4) ∷
      mark 15 2 2 told.Begin ∷
      mark 15 2 2 (told.Put (obj 16777217) (kind.Add (pos 1))) ∷
      mark 15 2 2 told.End ∷
      mark 25 3 1 told.Begin ∷
      mark 27 3 1 (told.Asked (obj 0) (kind.Floor) 8 (kind.Number 1)) ∷
      mark 28 3 1 told.End ∷
      mark 28 3 1 (told.Committed 8) ∷
      mark 29 3 0 (told.Hosted (obj 16777217)) ∷
      mark 30 3 2 told.Begin ∷
      mark 32 3 2 (told.Asked (obj 16777217) (kind.Value) 8 (kind.Signed (pos 0))) ∷
      mark 33 3 2 told.End ∷
      mark 33 3 2 (told.Committed 8) ∷
      mark 35 3 0 (told.Refused (cause.Forgotten 8 1)) ∷ [];
  dones =
      done 0 0 1 ((obj 0, (kind.Name (100 ∷ 105 ∷ 114 ∷ 48 ∷ []) (obj 16777216))) ∷ []) ∷
      done 2 1 1 ((obj 0, (kind.Mark (obj 0) 1)) ∷ []) ∷
      done 3 0 2 ((obj 0, (kind.Name (120 ∷ []) (obj 16777217))) ∷ []) ∷ [];
}
unfolding u8_at u16_at u32_at u64_at raw_at fixed_at read_many spell_many fit_many marks reads writes keys new_fields old_fields body entry node_eq bytes_eq bytes_lt part_lt cell_eq chain_of units_of next_of change_fault new_unit unit_ask first_missing on_ask unit_step new_layout layout_ask on_layout_ask layout_step reply work_asks put_cell get_cell fill_cell probe work_feed cell_feed entry_size needs_decision page_of entry_of new_seqr seqr_step seqr_tick append_work_asks append_start append_feed append_again sync_work_asks sync_start sync_feed walk_on walk_start walk_feed no_versions based version_of with_change parts_of decision_in view_start view_version view_parts unknown_in changed_in verdict view_outcome step_at play_on play read_fault write_fault commit_record open_decision checkpoint bases_in load_from view_base view_bases may_forget commit_at past_at rescue_turn trim_start trim_feed copy_work_asks copy_start copy_feed reconf_work_asks reconf_start reconf_feed reconf_latest new_client entries_at copy_fault tests refusal appends syncs walked task_asks client_asks walks task_feed task_again accepts client_command client_deliver client_tick fields_size decided newest log_of entries_of members path_on path changes_below version outcome history_of start latest log history unit_moves layout_moves seqr_moves client_turned happens limit_of drain_on drain tick_all rounds settle line lines
past_above_trim = refl

abbrev pub trim_fenced_header : Header
trim_fenced_header = record { units = 2; layouts = 1; seqs = 2; clients = 3; limit = 100; chains = (0 ∷ 1 ∷ []) ∷ []; objects = obj 16777216 ∷ [] }

abbrev pub trim_fenced_script : List (Line kinds)
trim_fenced_script =
    Update 0 (obj 16777216) (kind.Add (pos 5)) ∷
    Settle ∷
    Happens (Commands 1 (cmd.Host (obj 16777216))) ∷
    Happens (Commands 1 (cmd.Checkpoint (obj 16777216))) ∷
    Settle ∷
    Happens (Commands 1 (cmd.Checkpoint (obj 0))) ∷
    Settle ∷
    Happens (Commands 1 (cmd.Forget (obj 16777216) 1)) ∷
    Settle ∷
    Happens (Commands 1 (cmd.Forget (obj 0) 1)) ∷
    Settle ∷
    Happens (Commands 1 cmd.Trim) ∷
    Happens (Deliver 64) ∷
    Happens (Deliver 65) ∷
    Happens (Deliver 66) ∷
    Happens (Deliver 67) ∷
    Happens (Deliver 68) ∷
    Happens (Deliver 69) ∷
    Happens (Lose 70) ∷
    Happens (Lose 71) ∷
    Happens (Commands 0 (cmd.Reconf (record { seq = 1; drop = []; opened = []; join = None }))) ∷
    Drain ∷
    Happens (Tick (client_id 0)) ∷
    Drain ∷
    Happens (Deliver 70) ∷
    Happens (Deliver 71) ∷
    Drain ∷
    Happens (Tick (client_id 1)) ∷
    Drain ∷ []

trim_fenced : shown (replay kinds trim_fenced_header trim_fenced_script) ≡ record {
  marks =
      mark 1 0 1 told.Begin ∷
      mark 1 0 1 (told.Put (obj 16777216) (kind.Add (pos 5))) ∷
      mark 1 0 1 told.End ∷
      mark 2 0 1 (told.Committed 0) ∷
      mark 3 1 0 (told.Hosted (obj 16777216)) ∷
      mark 5 1 0 (told.Saved (obj 16777216) 1 1) ∷
      mark 7 1 0 (told.Saved (obj 0) 2 2) ∷
      mark 9 1 1 told.Begin ∷
      mark 9 1 1 (told.Put (obj 0) (kind.Mark (obj 16777216) 1)) ∷
      mark 9 1 1 told.End ∷
      mark 9 1 1 (told.Committed 3) ∷
      mark 9 1 0 (told.Marked (obj 16777216) 1) ∷
      mark 11 1 2 told.Begin ∷
      mark 11 1 2 (told.Put (obj 0) (kind.Mark (obj 0) 1)) ∷
      mark 11 1 2 told.End ∷
      mark 11 1 2 (told.Committed 4) ∷
      mark 11 1 0 (told.Marked (obj 0) 1) ∷
      mark 24 0 0 (told.Installed 2) ∷
      mark 27 1 0 (told.Trimmed 1) ∷ [];
  dones =
      done 0 0 1 ((obj 16777216, (kind.Add (pos 5))) ∷ []) ∷
      done 3 1 1 ((obj 0, (kind.Mark (obj 16777216) 1)) ∷ []) ∷
      done 4 1 2 ((obj 0, (kind.Mark (obj 0) 1)) ∷ []) ∷ [];
}
unfolding u8_at u16_at u32_at u64_at raw_at fixed_at read_many spell_many fit_many marks reads writes keys new_fields old_fields body entry node_eq bytes_eq bytes_lt part_lt cell_eq chain_of units_of next_of change_fault new_unit unit_ask first_missing on_ask unit_step new_layout layout_ask on_layout_ask layout_step reply work_asks put_cell get_cell fill_cell probe work_feed cell_feed entry_size needs_decision page_of entry_of new_seqr seqr_step seqr_tick append_work_asks append_start append_feed append_again sync_work_asks sync_start sync_feed walk_on walk_start walk_feed no_versions based version_of with_change parts_of decision_in view_start view_version view_parts unknown_in changed_in verdict view_outcome step_at play_on play read_fault write_fault commit_record open_decision checkpoint bases_in load_from view_base view_bases may_forget commit_at past_at rescue_turn trim_start trim_feed copy_work_asks copy_start copy_feed reconf_work_asks reconf_start reconf_feed reconf_latest new_client entries_at copy_fault tests refusal appends syncs walked task_asks client_asks walks task_feed task_again accepts client_command client_deliver client_tick fields_size decided newest log_of entries_of members path_on path changes_below version outcome history_of start latest log history unit_moves layout_moves seqr_moves client_turned happens limit_of drain_on drain tick_all rounds settle line lines
trim_fenced = refl

abbrev pub update_in_transaction_header : Header
update_in_transaction_header = record { units = 1; layouts = 1; seqs = 1; clients = 3; limit = 100; chains = (0 ∷ []) ∷ []; objects = obj 16777216 ∷ obj 16777217 ∷ [] }

abbrev pub update_in_transaction_script : List (Line kinds)
update_in_transaction_script =
    Happens (Commands 0 cmd.Begin) ∷
    Happens (Commands 0 (cmd.Put (obj 16777217) (kind.Add (pos 2)))) ∷
    Update 0 (obj 16777216) (kind.Add (pos 1)) ∷
    Settle ∷
    Happens (Commands 0 cmd.End) ∷
    Happens (Commands 0 cmd.Begin) ∷
    Happens (Commands 0 cmd.End) ∷ []

update_in_transaction : shown (replay kinds update_in_transaction_header update_in_transaction_script) ≡ record {
  marks =
      mark 1 0 1 told.Begin ∷
      mark 2 0 1 (told.Put (obj 16777217) (kind.Add (pos 2))) ∷
      mark 3 0 0 (told.Refused cause.TxOpen) ∷
      mark 3 0 1 (told.Put (obj 16777216) (kind.Add (pos 1))) ∷
      mark 3 0 1 told.End ∷
      mark 4 0 1 (told.Committed 0) ∷
      mark 5 0 0 (told.Refused cause.NoTx) ∷
      mark 6 0 2 told.Begin ∷
      mark 7 0 2 told.End ∷
      mark 7 0 2 (told.Committed 0) ∷ [];
  dones =
      done 0 0 1 ((obj 16777217, (kind.Add (pos 2))) ∷ (obj 16777216, (kind.Add (pos 1))) ∷ []) ∷ [];
}
unfolding u8_at u16_at u32_at u64_at raw_at fixed_at read_many spell_many fit_many marks reads writes keys new_fields old_fields body entry node_eq bytes_eq bytes_lt part_lt cell_eq chain_of units_of next_of change_fault new_unit unit_ask first_missing on_ask unit_step new_layout layout_ask on_layout_ask layout_step reply work_asks put_cell get_cell fill_cell probe work_feed cell_feed entry_size needs_decision page_of entry_of new_seqr seqr_step seqr_tick append_work_asks append_start append_feed append_again sync_work_asks sync_start sync_feed walk_on walk_start walk_feed no_versions based version_of with_change parts_of decision_in view_start view_version view_parts unknown_in changed_in verdict view_outcome step_at play_on play read_fault write_fault commit_record open_decision checkpoint bases_in load_from view_base view_bases may_forget commit_at past_at rescue_turn trim_start trim_feed copy_work_asks copy_start copy_feed reconf_work_asks reconf_start reconf_feed reconf_latest new_client entries_at copy_fault tests refusal appends syncs walked task_asks client_asks walks task_feed task_again accepts client_command client_deliver client_tick fields_size decided newest log_of entries_of members path_on path changes_below version outcome history_of start latest log history unit_moves layout_moves seqr_moves client_turned happens limit_of drain_on drain tick_all rounds settle line lines
update_in_transaction = refl
