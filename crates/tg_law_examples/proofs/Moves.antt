-- Worked runs: the marks and the history that each gives.
use Rattle.std.proofs.Common.{◌≡◌, List, [], ◌∷◌, refl, Some, None}
use Rattle.std.specs.Prelude.{pos}
use Rattle.tg_base.specs.declared.marks.Part.TheVariants.{Text}
use Rattle.tg_base.specs.Clusters.{Header}
use Rattle.tg_model.specs.declared.command.Command.TheVariants as cmd
use Rattle.tg_model.specs.declared.command.Event.TheVariants.{Command as Commands, Deliver, Lose, Tick}
use Rattle.tg_model.specs.declared.refusal.Refusal.TheVariants as cause
use Rattle.tg_model.specs.declared.trace.What.TheVariants as told
use Rattle.tg_codec.specs.Reading.{u8_at, u16_at, u32_at, u64_at, raw_at, fixed_at}
use Rattle.tg_codec.specs.Codec.{read_many, spell_many, fit_many}
use Rattle.tg_entry.specs.Reads.{marks, reads}
use Rattle.tg_entry.specs.Writes.{writes}
use Rattle.tg_entry.specs.Checkpoints.{keys, new_fields, old_fields}
use Rattle.tg_entry.specs.Format.{body, entry}
use Rattle.tg_base.specs.Orders.{node_eq}
use Rattle.tg_protocol.specs.Words.{bytes_eq, bytes_lt, part_lt, cell_eq, client_id}
use Rattle.tg_protocol.specs.Layouts.{chain_of, units_of, next_of, change_fault}
use Rattle.tg_protocol.specs.Units.{new_unit, unit_ask, first_missing, on_ask, unit_step}
use Rattle.tg_protocol.specs.LayoutServers.{new_layout, layout_ask, on_layout_ask, layout_step}
use Rattle.tg_protocol.specs.Replies.{reply}
use Rattle.tg_protocol.specs.Cells.{work_asks, put_cell, get_cell, fill_cell, probe, work_feed, cell_feed}
use Rattle.tg_entry.specs.Needs.{needs_decision}
use Rattle.tg_protocol.specs.Entries.{entry_size}
use Rattle.tg_protocol.specs.Pages.{page_of, entry_of}
use Rattle.tg_protocol.specs.Sequencers.{new_seqr, seqr_step, seqr_tick}
use Rattle.tg_protocol.specs.Appending.{append_work_asks, append_start, append_feed, append_again}
use Rattle.tg_protocol.specs.Syncing.{sync_work_asks, sync_start, sync_feed}
use Rattle.tg_protocol.specs.Walking.{walk_on, walk_start, walk_feed}
use Rattle.tg_protocol.specs.Versions.{no_versions, based, version_of, with_change, parts_of}
use Rattle.tg_protocol.specs.Views.{decision_in, view_start, view_version, view_parts, unknown_in, changed_in, verdict, step_at, play_on, play}
use Rattle.tg_protocol.specs.Transactions.{read_fault, write_fault, commit_record}
use Rattle.tg_protocol.specs.Checkpoints.{open_decision, checkpoint, bases_in, load_from, view_base, view_bases, may_forget}
use Rattle.tg_protocol.specs.Past.{commit_at, past_at, rescue_turn}
use Rattle.tg_protocol.specs.Trimming.{trim_start, trim_feed, copy_work_asks, copy_start, copy_feed}
use Rattle.tg_protocol.specs.Reconfiguring.{reconf_work_asks, reconf_start, reconf_feed, reconf_latest}
use Rattle.tg_protocol.specs.Clients.{new_client, entries_at, copy_fault, tests, refusal}
use Rattle.tg_protocol.specs.Answers.{appends, syncs, walked}
use Rattle.tg_protocol.specs.ClientSteps.{task_asks, client_asks, walks, task_feed, task_again, accepts, client_command, client_deliver, client_tick}
use Rattle.tg_protocol.specs.Sizes.{fields_size}
use Rattle.tg_protocol.specs.Logs.{decided, newest, log_of, entries_of, members, path_on, path, changes_below, version, outcome, history_of}
use Rattle.tg_protocol.specs.Worlds.{start, latest, log, history, unit_moves, layout_moves, seqr_moves, client_turned, happens, limit_of, drain_on, drain, tick_all, rounds, settle, line, lines, Line, Happens, Update, Drain, Settle, replay}
use Rattle.tg_law_examples.proofs.SevenKinds.{kinds}
use Rattle.tg_law_examples.proofs.SevenKinds as kind
use Rattle.tg_law_examples.proofs.Shown.{shown, obj, mark, done}

abbrev pub new_sequencer_header : Header
new_sequencer_header = record { units = 1; layouts = 1; seqs = 2; clients = 3; limit = 100; chains = (0 ∷ []) ∷ []; objects = obj 16777216 ∷ obj 16777217 ∷ [] }

abbrev pub new_sequencer_script : List (Line kinds)
new_sequencer_script =
    Happens (Commands 0 (cmd.Host (obj 16777216))) ∷
    Happens (Commands 1 (cmd.Host (obj 16777216))) ∷
    Happens (Commands 1 (cmd.Reconf (record { seq = 1; drop = []; opened = []; join = None }))) ∷
    Settle ∷
    Update 1 (obj 16777216) (kind.Add (pos 5)) ∷
    Settle ∷
    Happens (Commands 0 cmd.Begin) ∷
    Happens (Commands 0 (cmd.Ask (obj 16777216) (kind.Value))) ∷
    Settle ∷
    Happens (Commands 0 cmd.End) ∷ []

new_sequencer : shown (replay kinds new_sequencer_header new_sequencer_script) ≡ record {
  marks =
      mark 1 0 0 (told.Hosted (obj 16777216)) ∷
      mark 2 1 0 (told.Hosted (obj 16777216)) ∷
      mark 4 1 0 (told.Installed 2) ∷
      mark 5 1 1 told.Begin ∷
      mark 5 1 1 (told.Put (obj 16777216) (kind.Add (pos 5))) ∷
      mark 5 1 1 told.End ∷
      mark 6 1 1 (told.Committed 0) ∷
      mark 7 0 1 told.Begin ∷
      mark 9 0 1 (told.Asked (obj 16777216) (kind.Value) 1 (kind.Signed (pos 5))) ∷
      mark 10 0 1 told.End ∷
      mark 10 0 1 (told.Committed 1) ∷ [];
  dones =
      done 0 1 1 ((obj 16777216, (kind.Add (pos 5))) ∷ []) ∷ [];
}
unfolding u8_at u16_at u32_at u64_at raw_at fixed_at read_many spell_many fit_many marks reads writes keys new_fields old_fields body entry node_eq bytes_eq bytes_lt part_lt cell_eq chain_of units_of next_of change_fault new_unit unit_ask first_missing on_ask unit_step new_layout layout_ask on_layout_ask layout_step reply work_asks put_cell get_cell fill_cell probe work_feed cell_feed entry_size needs_decision page_of entry_of new_seqr seqr_step seqr_tick append_work_asks append_start append_feed append_again sync_work_asks sync_start sync_feed walk_on walk_start walk_feed no_versions based version_of with_change parts_of decision_in view_start view_version view_parts unknown_in changed_in verdict step_at play_on play read_fault write_fault commit_record open_decision checkpoint bases_in load_from view_base view_bases may_forget commit_at past_at rescue_turn trim_start trim_feed copy_work_asks copy_start copy_feed reconf_work_asks reconf_start reconf_feed reconf_latest new_client entries_at copy_fault tests refusal appends syncs walked task_asks client_asks walks task_feed task_again accepts client_command client_deliver client_tick fields_size decided newest log_of entries_of members path_on path changes_below version outcome history_of start latest log history unit_moves layout_moves seqr_moves client_turned happens limit_of drain_on drain tick_all rounds settle line lines
new_sequencer = refl

abbrev pub carried_by_scan_header : Header
carried_by_scan_header = record { units = 2; layouts = 1; seqs = 3; clients = 3; limit = 100; chains = (0 ∷ 1 ∷ []) ∷ []; objects = obj 16777216 ∷ obj 16777217 ∷ [] }

abbrev pub carried_by_scan_script : List (Line kinds)
carried_by_scan_script =
    Update 0 (obj 16777216) (kind.Add (pos 5)) ∷
    Happens (Deliver 0) ∷
    Happens (Deliver 1) ∷
    Happens (Deliver 2) ∷
    Happens (Lose 3) ∷
    Happens (Commands 1 (cmd.Reconf (record { seq = 1; drop = []; opened = []; join = None }))) ∷
    Settle ∷ []

carried_by_scan : shown (replay kinds carried_by_scan_header carried_by_scan_script) ≡ record {
  marks =
      mark 1 0 1 told.Begin ∷
      mark 1 0 1 (told.Put (obj 16777216) (kind.Add (pos 5))) ∷
      mark 1 0 1 told.End ∷
      mark 7 1 0 (told.Installed 2) ∷
      mark 7 0 1 (told.Committed 0) ∷ [];
  dones =
      done 0 0 1 ((obj 16777216, (kind.Add (pos 5))) ∷ []) ∷ [];
}
unfolding u8_at u16_at u32_at u64_at raw_at fixed_at read_many spell_many fit_many marks reads writes keys new_fields old_fields body entry node_eq bytes_eq bytes_lt part_lt cell_eq chain_of units_of next_of change_fault new_unit unit_ask first_missing on_ask unit_step new_layout layout_ask on_layout_ask layout_step reply work_asks put_cell get_cell fill_cell probe work_feed cell_feed entry_size needs_decision page_of entry_of new_seqr seqr_step seqr_tick append_work_asks append_start append_feed append_again sync_work_asks sync_start sync_feed walk_on walk_start walk_feed no_versions based version_of with_change parts_of decision_in view_start view_version view_parts unknown_in changed_in verdict step_at play_on play read_fault write_fault commit_record open_decision checkpoint bases_in load_from view_base view_bases may_forget commit_at past_at rescue_turn trim_start trim_feed copy_work_asks copy_start copy_feed reconf_work_asks reconf_start reconf_feed reconf_latest new_client entries_at copy_fault tests refusal appends syncs walked task_asks client_asks walks task_feed task_again accepts client_command client_deliver client_tick fields_size decided newest log_of entries_of members path_on path changes_below version outcome history_of start latest log history unit_moves layout_moves seqr_moves client_turned happens limit_of drain_on drain tick_all rounds settle line lines
carried_by_scan = refl

abbrev pub dead_token_header : Header
dead_token_header = record { units = 1; layouts = 1; seqs = 2; clients = 3; limit = 100; chains = (0 ∷ []) ∷ []; objects = obj 16777216 ∷ obj 16777217 ∷ [] }

abbrev pub dead_token_script : List (Line kinds)
dead_token_script =
    Update 0 (obj 16777216) (kind.Add (pos 5)) ∷
    Happens (Deliver 0) ∷
    Happens (Deliver 1) ∷
    Happens (Lose 2) ∷
    Happens (Commands 1 (cmd.Reconf (record { seq = 1; drop = []; opened = []; join = None }))) ∷
    Settle ∷
    Happens (Deliver 2) ∷ []

dead_token : shown (replay kinds dead_token_header dead_token_script) ≡ record {
  marks =
      mark 1 0 1 told.Begin ∷
      mark 1 0 1 (told.Put (obj 16777216) (kind.Add (pos 5))) ∷
      mark 1 0 1 told.End ∷
      mark 6 1 0 (told.Installed 2) ∷
      mark 6 0 1 (told.Committed 0) ∷ [];
  dones =
      done 0 0 1 ((obj 16777216, (kind.Add (pos 5))) ∷ []) ∷ [];
}
unfolding u8_at u16_at u32_at u64_at raw_at fixed_at read_many spell_many fit_many marks reads writes keys new_fields old_fields body entry node_eq bytes_eq bytes_lt part_lt cell_eq chain_of units_of next_of change_fault new_unit unit_ask first_missing on_ask unit_step new_layout layout_ask on_layout_ask layout_step reply work_asks put_cell get_cell fill_cell probe work_feed cell_feed entry_size needs_decision page_of entry_of new_seqr seqr_step seqr_tick append_work_asks append_start append_feed append_again sync_work_asks sync_start sync_feed walk_on walk_start walk_feed no_versions based version_of with_change parts_of decision_in view_start view_version view_parts unknown_in changed_in verdict step_at play_on play read_fault write_fault commit_record open_decision checkpoint bases_in load_from view_base view_bases may_forget commit_at past_at rescue_turn trim_start trim_feed copy_work_asks copy_start copy_feed reconf_work_asks reconf_start reconf_feed reconf_latest new_client entries_at copy_fault tests refusal appends syncs walked task_asks client_asks walks task_feed task_again accepts client_command client_deliver client_tick fields_size decided newest log_of entries_of members path_on path changes_below version outcome history_of start latest log history unit_moves layout_moves seqr_moves client_turned happens limit_of drain_on drain tick_all rounds settle line lines
dead_token = refl

abbrev pub overtaken_and_refused_header : Header
overtaken_and_refused_header = record { units = 2; layouts = 1; seqs = 3; clients = 3; limit = 100; chains = (0 ∷ 1 ∷ []) ∷ []; objects = obj 16777216 ∷ obj 16777217 ∷ [] }

abbrev pub overtaken_and_refused_script : List (Line kinds)
overtaken_and_refused_script =
    Happens (Commands 0 (cmd.Reconf (record { seq = 1; drop = []; opened = []; join = None }))) ∷
    Happens (Commands 1 (cmd.Reconf (record { seq = 2; drop = []; opened = []; join = None }))) ∷
    Settle ∷
    Happens (Commands 0 (cmd.Reconf (record { seq = 1; drop = 0 ∷ 1 ∷ []; opened = []; join = None }))) ∷
    Happens (Commands 0 (cmd.Reconf (record { seq = 1; drop = 1 ∷ []; opened = []; join = None }))) ∷
    Settle ∷
    Happens (Commands 0 (cmd.Reconf (record { seq = 1; drop = []; opened = (1 ∷ []) ∷ []; join = None }))) ∷ []

overtaken_and_refused : shown (replay kinds overtaken_and_refused_header overtaken_and_refused_script) ≡ record {
  marks =
      mark 3 1 0 (told.Installed 2) ∷
      mark 3 0 0 (told.Refused (cause.Overtaken 2)) ∷
      mark 4 0 0 (told.Refused (cause.NoReplica 0 0)) ∷
      mark 6 0 0 (told.Installed 3) ∷
      mark 7 0 0 (told.Refused (cause.Returned 1)) ∷ [];
  dones = [];
}
unfolding u8_at u16_at u32_at u64_at raw_at fixed_at read_many spell_many fit_many marks reads writes keys new_fields old_fields body entry node_eq bytes_eq bytes_lt part_lt cell_eq chain_of units_of next_of change_fault new_unit unit_ask first_missing on_ask unit_step new_layout layout_ask on_layout_ask layout_step reply work_asks put_cell get_cell fill_cell probe work_feed cell_feed entry_size needs_decision page_of entry_of new_seqr seqr_step seqr_tick append_work_asks append_start append_feed append_again sync_work_asks sync_start sync_feed walk_on walk_start walk_feed no_versions based version_of with_change parts_of decision_in view_start view_version view_parts unknown_in changed_in verdict step_at play_on play read_fault write_fault commit_record open_decision checkpoint bases_in load_from view_base view_bases may_forget commit_at past_at rescue_turn trim_start trim_feed copy_work_asks copy_start copy_feed reconf_work_asks reconf_start reconf_feed reconf_latest new_client entries_at copy_fault tests refusal appends syncs walked task_asks client_asks walks task_feed task_again accepts client_command client_deliver client_tick fields_size decided newest log_of entries_of members path_on path changes_below version outcome history_of start latest log history unit_moves layout_moves seqr_moves client_turned happens limit_of drain_on drain tick_all rounds settle line lines
overtaken_and_refused = refl

abbrev pub two_keys_header : Header
two_keys_header = record { units = 1; layouts = 1; seqs = 1; clients = 3; limit = 100; chains = (0 ∷ []) ∷ []; objects = obj 50331648 ∷ [] }

abbrev pub two_keys_script : List (Line kinds)
two_keys_script =
    Happens (Commands 0 (cmd.Host (obj 50331648))) ∷
    Happens (Commands 1 (cmd.Host (obj 50331648))) ∷
    Happens (Commands 0 cmd.Begin) ∷
    Happens (Commands 0 (cmd.Ask (obj 50331648) (kind.Get (97 ∷ [])))) ∷
    Settle ∷
    Happens (Commands 1 cmd.Begin) ∷
    Happens (Commands 1 (cmd.Ask (obj 50331648) (kind.Get (98 ∷ [])))) ∷
    Settle ∷
    Happens (Commands 0 (cmd.Put (obj 50331648) (kind.Set (97 ∷ []) (120 ∷ [])))) ∷
    Happens (Commands 1 (cmd.Put (obj 50331648) (kind.Set (98 ∷ []) (121 ∷ [])))) ∷
    Happens (Commands 0 cmd.End) ∷
    Settle ∷
    Happens (Commands 1 cmd.End) ∷
    Settle ∷ []

two_keys : shown (replay kinds two_keys_header two_keys_script) ≡ record {
  marks =
      mark 1 0 0 (told.Hosted (obj 50331648)) ∷
      mark 2 1 0 (told.Hosted (obj 50331648)) ∷
      mark 3 0 1 told.Begin ∷
      mark 5 0 1 (told.Asked (obj 50331648) (kind.Get (97 ∷ [])) 0 (kind.Words None)) ∷
      mark 6 1 1 told.Begin ∷
      mark 8 1 1 (told.Asked (obj 50331648) (kind.Get (98 ∷ [])) 0 (kind.Words None)) ∷
      mark 9 0 1 (told.Put (obj 50331648) (kind.Set (97 ∷ []) (120 ∷ []))) ∷
      mark 10 1 1 (told.Put (obj 50331648) (kind.Set (98 ∷ []) (121 ∷ []))) ∷
      mark 11 0 1 told.End ∷
      mark 12 0 1 (told.Committed 0) ∷
      mark 13 1 1 told.End ∷
      mark 14 1 1 (told.Committed 1) ∷ [];
  dones =
      done 0 0 1 ((obj 50331648, (kind.Set (97 ∷ []) (120 ∷ []))) ∷ []) ∷
      done 1 1 1 ((obj 50331648, (kind.Set (98 ∷ []) (121 ∷ []))) ∷ []) ∷ [];
}
unfolding u8_at u16_at u32_at u64_at raw_at fixed_at read_many spell_many fit_many marks reads writes keys new_fields old_fields body entry node_eq bytes_eq bytes_lt part_lt cell_eq chain_of units_of next_of change_fault new_unit unit_ask first_missing on_ask unit_step new_layout layout_ask on_layout_ask layout_step reply work_asks put_cell get_cell fill_cell probe work_feed cell_feed entry_size needs_decision page_of entry_of new_seqr seqr_step seqr_tick append_work_asks append_start append_feed append_again sync_work_asks sync_start sync_feed walk_on walk_start walk_feed no_versions based version_of with_change parts_of decision_in view_start view_version view_parts unknown_in changed_in verdict step_at play_on play read_fault write_fault commit_record open_decision checkpoint bases_in load_from view_base view_bases may_forget commit_at past_at rescue_turn trim_start trim_feed copy_work_asks copy_start copy_feed reconf_work_asks reconf_start reconf_feed reconf_latest new_client entries_at copy_fault tests refusal appends syncs walked task_asks client_asks walks task_feed task_again accepts client_command client_deliver client_tick fields_size decided newest log_of entries_of members path_on path changes_below version outcome history_of start latest log history unit_moves layout_moves seqr_moves client_turned happens limit_of drain_on drain tick_all rounds settle line lines
two_keys = refl

abbrev pub same_key_header : Header
same_key_header = record { units = 1; layouts = 1; seqs = 1; clients = 3; limit = 100; chains = (0 ∷ []) ∷ []; objects = obj 50331648 ∷ [] }

abbrev pub same_key_script : List (Line kinds)
same_key_script =
    Happens (Commands 0 (cmd.Host (obj 50331648))) ∷
    Happens (Commands 1 (cmd.Host (obj 50331648))) ∷
    Happens (Commands 0 cmd.Begin) ∷
    Happens (Commands 0 (cmd.Ask (obj 50331648) (kind.Get (97 ∷ [])))) ∷
    Settle ∷
    Happens (Commands 1 cmd.Begin) ∷
    Happens (Commands 1 (cmd.Ask (obj 50331648) (kind.Get (97 ∷ [])))) ∷
    Settle ∷
    Happens (Commands 0 (cmd.Put (obj 50331648) (kind.Set (97 ∷ []) (120 ∷ [])))) ∷
    Happens (Commands 1 (cmd.Put (obj 50331648) (kind.Set (98 ∷ []) (121 ∷ [])))) ∷
    Happens (Commands 0 cmd.End) ∷
    Settle ∷
    Happens (Commands 1 cmd.End) ∷
    Settle ∷ []

same_key : shown (replay kinds same_key_header same_key_script) ≡ record {
  marks =
      mark 1 0 0 (told.Hosted (obj 50331648)) ∷
      mark 2 1 0 (told.Hosted (obj 50331648)) ∷
      mark 3 0 1 told.Begin ∷
      mark 5 0 1 (told.Asked (obj 50331648) (kind.Get (97 ∷ [])) 0 (kind.Words None)) ∷
      mark 6 1 1 told.Begin ∷
      mark 8 1 1 (told.Asked (obj 50331648) (kind.Get (97 ∷ [])) 0 (kind.Words None)) ∷
      mark 9 0 1 (told.Put (obj 50331648) (kind.Set (97 ∷ []) (120 ∷ []))) ∷
      mark 10 1 1 (told.Put (obj 50331648) (kind.Set (98 ∷ []) (121 ∷ []))) ∷
      mark 11 0 1 told.End ∷
      mark 12 0 1 (told.Committed 0) ∷
      mark 13 1 1 told.End ∷
      mark 14 1 1 (told.Aborted 1 (obj 50331648) (Text (97 ∷ [])) 0 1) ∷ [];
  dones =
      done 0 0 1 ((obj 50331648, (kind.Set (97 ∷ []) (120 ∷ []))) ∷ []) ∷ [];
}
unfolding u8_at u16_at u32_at u64_at raw_at fixed_at read_many spell_many fit_many marks reads writes keys new_fields old_fields body entry node_eq bytes_eq bytes_lt part_lt cell_eq chain_of units_of next_of change_fault new_unit unit_ask first_missing on_ask unit_step new_layout layout_ask on_layout_ask layout_step reply work_asks put_cell get_cell fill_cell probe work_feed cell_feed entry_size needs_decision page_of entry_of new_seqr seqr_step seqr_tick append_work_asks append_start append_feed append_again sync_work_asks sync_start sync_feed walk_on walk_start walk_feed no_versions based version_of with_change parts_of decision_in view_start view_version view_parts unknown_in changed_in verdict step_at play_on play read_fault write_fault commit_record open_decision checkpoint bases_in load_from view_base view_bases may_forget commit_at past_at rescue_turn trim_start trim_feed copy_work_asks copy_start copy_feed reconf_work_asks reconf_start reconf_feed reconf_latest new_client entries_at copy_fault tests refusal appends syncs walked task_asks client_asks walks task_feed task_again accepts client_command client_deliver client_tick fields_size decided newest log_of entries_of members path_on path changes_below version outcome history_of start latest log history unit_moves layout_moves seqr_moves client_turned happens limit_of drain_on drain tick_all rounds settle line lines
same_key = refl

abbrev pub registered_by_name_header : Header
registered_by_name_header = record { units = 1; layouts = 1; seqs = 1; clients = 3; limit = 100; chains = (0 ∷ []) ∷ []; objects = obj 16777216 ∷ obj 16777217 ∷ [] }

abbrev pub registered_by_name_script : List (Line kinds)
registered_by_name_script =
    Update 0 (obj 0) (kind.Name (115 ∷ 116 ∷ 111 ∷ 99 ∷ 107 ∷ []) (obj 50331648)) ∷
    Settle ∷
    Update 0 (obj 50331648) (kind.Set (97 ∷ []) (98 ∷ [])) ∷
    Happens (Commands 0 cmd.Begin) ∷
    Happens (Commands 0 (cmd.Ask (obj 0) (kind.Find (115 ∷ 116 ∷ 111 ∷ 99 ∷ 107 ∷ [])))) ∷
    Settle ∷
    Happens (Commands 0 cmd.End) ∷
    Update 0 (obj 50331648) (kind.Set (97 ∷ []) (98 ∷ [])) ∷
    Settle ∷ []

registered_by_name : shown (replay kinds registered_by_name_header registered_by_name_script) ≡ record {
  marks =
      mark 1 0 1 told.Begin ∷
      mark 1 0 1 (told.Put (obj 0) (kind.Name (115 ∷ 116 ∷ 111 ∷ 99 ∷ 107 ∷ []) (obj 50331648))) ∷
      mark 1 0 1 told.End ∷
      mark 2 0 1 (told.Committed 0) ∷
      mark 3 0 2 told.Begin ∷
      mark 3 0 2 (told.Refused (cause.NotRegistered (obj 50331648))) ∷
      mark 3 0 2 told.End ∷
      mark 3 0 2 (told.Committed 0) ∷
      mark 4 0 3 told.Begin ∷
      mark 6 0 3 (told.Asked (obj 0) (kind.Find (115 ∷ 116 ∷ 111 ∷ 99 ∷ 107 ∷ [])) 1 (kind.Object (Some (obj 50331648)))) ∷
      mark 7 0 3 told.End ∷
      mark 7 0 3 (told.Committed 1) ∷
      mark 8 0 4 told.Begin ∷
      mark 8 0 4 (told.Put (obj 50331648) (kind.Set (97 ∷ []) (98 ∷ []))) ∷
      mark 8 0 4 told.End ∷
      mark 9 0 4 (told.Committed 1) ∷ [];
  dones =
      done 0 0 1 ((obj 0, (kind.Name (115 ∷ 116 ∷ 111 ∷ 99 ∷ 107 ∷ []) (obj 50331648))) ∷ []) ∷
      done 1 0 4 ((obj 50331648, (kind.Set (97 ∷ []) (98 ∷ []))) ∷ []) ∷ [];
}
unfolding u8_at u16_at u32_at u64_at raw_at fixed_at read_many spell_many fit_many marks reads writes keys new_fields old_fields body entry node_eq bytes_eq bytes_lt part_lt cell_eq chain_of units_of next_of change_fault new_unit unit_ask first_missing on_ask unit_step new_layout layout_ask on_layout_ask layout_step reply work_asks put_cell get_cell fill_cell probe work_feed cell_feed entry_size needs_decision page_of entry_of new_seqr seqr_step seqr_tick append_work_asks append_start append_feed append_again sync_work_asks sync_start sync_feed walk_on walk_start walk_feed no_versions based version_of with_change parts_of decision_in view_start view_version view_parts unknown_in changed_in verdict step_at play_on play read_fault write_fault commit_record open_decision checkpoint bases_in load_from view_base view_bases may_forget commit_at past_at rescue_turn trim_start trim_feed copy_work_asks copy_start copy_feed reconf_work_asks reconf_start reconf_feed reconf_latest new_client entries_at copy_fault tests refusal appends syncs walked task_asks client_asks walks task_feed task_again accepts client_command client_deliver client_tick fields_size decided newest log_of entries_of members path_on path changes_below version outcome history_of start latest log history unit_moves layout_moves seqr_moves client_turned happens limit_of drain_on drain tick_all rounds settle line lines
registered_by_name = refl

abbrev pub stale_tail_header : Header
stale_tail_header = record { units = 1; layouts = 1; seqs = 1; clients = 3; limit = 100; chains = (0 ∷ []) ∷ []; objects = obj 16777216 ∷ [] }

abbrev pub stale_tail_script : List (Line kinds)
stale_tail_script =
    Update 0 (obj 16777216) (kind.Add (pos 5)) ∷
    Settle ∷
    Happens (Commands 1 (cmd.Host (obj 16777216))) ∷
    Happens (Commands 2 (cmd.Host (obj 16777216))) ∷
    Happens (Commands 2 cmd.Begin) ∷
    Happens (Commands 2 (cmd.Ask (obj 16777216) (kind.Value))) ∷
    Happens (Deliver 4) ∷
    Happens (Lose 5) ∷
    Happens (Commands 1 (cmd.Checkpoint (obj 16777216))) ∷
    Drain ∷
    Happens (Commands 1 (cmd.Checkpoint (obj 0))) ∷
    Drain ∷
    Happens (Commands 1 (cmd.Forget (obj 16777216) 1)) ∷
    Drain ∷
    Happens (Commands 1 (cmd.Forget (obj 0) 1)) ∷
    Drain ∷
    Happens (Commands 1 cmd.Trim) ∷
    Drain ∷
    Happens (Deliver 5) ∷
    Drain ∷ []

stale_tail : shown (replay kinds stale_tail_header stale_tail_script) ≡ record {
  marks =
      mark 1 0 1 told.Begin ∷
      mark 1 0 1 (told.Put (obj 16777216) (kind.Add (pos 5))) ∷
      mark 1 0 1 told.End ∷
      mark 2 0 1 (told.Committed 0) ∷
      mark 3 1 0 (told.Hosted (obj 16777216)) ∷
      mark 4 2 0 (told.Hosted (obj 16777216)) ∷
      mark 5 2 1 told.Begin ∷
      mark 10 1 0 (told.Saved (obj 16777216) 1 1) ∷
      mark 12 1 0 (told.Saved (obj 0) 2 2) ∷
      mark 14 1 1 told.Begin ∷
      mark 14 1 1 (told.Put (obj 0) (kind.Mark (obj 16777216) 1)) ∷
      mark 14 1 1 told.End ∷
      mark 14 1 1 (told.Committed 3) ∷
      mark 14 1 0 (told.Marked (obj 16777216) 1) ∷
      mark 16 1 2 told.Begin ∷
      mark 16 1 2 (told.Put (obj 0) (kind.Mark (obj 0) 1)) ∷
      mark 16 1 2 told.End ∷
      mark 16 1 2 (told.Committed 4) ∷
      mark 16 1 0 (told.Marked (obj 0) 1) ∷
      mark 18 1 0 (told.Trimmed 1) ∷
      mark 20 2 1 (told.Asked (obj 16777216) (kind.Value) 5 (kind.Signed (pos 5))) ∷ [];
  dones =
      done 0 0 1 ((obj 16777216, (kind.Add (pos 5))) ∷ []) ∷
      done 3 1 1 ((obj 0, (kind.Mark (obj 16777216) 1)) ∷ []) ∷
      done 4 1 2 ((obj 0, (kind.Mark (obj 0) 1)) ∷ []) ∷ [];
}
unfolding u8_at u16_at u32_at u64_at raw_at fixed_at read_many spell_many fit_many marks reads writes keys new_fields old_fields body entry node_eq bytes_eq bytes_lt part_lt cell_eq chain_of units_of next_of change_fault new_unit unit_ask first_missing on_ask unit_step new_layout layout_ask on_layout_ask layout_step reply work_asks put_cell get_cell fill_cell probe work_feed cell_feed entry_size needs_decision page_of entry_of new_seqr seqr_step seqr_tick append_work_asks append_start append_feed append_again sync_work_asks sync_start sync_feed walk_on walk_start walk_feed no_versions based version_of with_change parts_of decision_in view_start view_version view_parts unknown_in changed_in verdict step_at play_on play read_fault write_fault commit_record open_decision checkpoint bases_in load_from view_base view_bases may_forget commit_at past_at rescue_turn trim_start trim_feed copy_work_asks copy_start copy_feed reconf_work_asks reconf_start reconf_feed reconf_latest new_client entries_at copy_fault tests refusal appends syncs walked task_asks client_asks walks task_feed task_again accepts client_command client_deliver client_tick fields_size decided newest log_of entries_of members path_on path changes_below version outcome history_of start latest log history unit_moves layout_moves seqr_moves client_turned happens limit_of drain_on drain tick_all rounds settle line lines
stale_tail = refl

abbrev pub checkpoints_and_trim_header : Header
checkpoints_and_trim_header = record { units = 1; layouts = 1; seqs = 1; clients = 3; limit = 100; chains = (0 ∷ []) ∷ []; objects = obj 16777216 ∷ [] }

abbrev pub checkpoints_and_trim_script : List (Line kinds)
checkpoints_and_trim_script =
    Update 0 (obj 16777216) (kind.Add (pos 5)) ∷
    Happens (Deliver 0) ∷
    Happens (Deliver 1) ∷
    Happens (Deliver 2) ∷
    Happens (Lose 3) ∷
    Happens (Commands 1 (cmd.Host (obj 16777216))) ∷
    Happens (Commands 1 (cmd.Checkpoint (obj 16777216))) ∷
    Drain ∷
    Happens (Commands 1 (cmd.Checkpoint (obj 0))) ∷
    Drain ∷
    Happens (Commands 1 (cmd.Forget (obj 16777216) 1)) ∷
    Drain ∷
    Happens (Commands 1 (cmd.Forget (obj 0) 1)) ∷
    Drain ∷
    Happens (Commands 1 cmd.Trim) ∷
    Drain ∷
    Happens (Tick (client_id 0)) ∷
    Drain ∷
    Happens (Commands 2 (cmd.Host (obj 16777216))) ∷
    Happens (Commands 2 cmd.Begin) ∷
    Happens (Commands 2 (cmd.Ask (obj 16777216) (kind.Value))) ∷
    Drain ∷ []

checkpoints_and_trim : shown (replay kinds checkpoints_and_trim_header checkpoints_and_trim_script) ≡ record {
  marks =
      mark 1 0 1 told.Begin ∷
      mark 1 0 1 (told.Put (obj 16777216) (kind.Add (pos 5))) ∷
      mark 1 0 1 told.End ∷
      mark 6 1 0 (told.Hosted (obj 16777216)) ∷
      mark 8 1 0 (told.Saved (obj 16777216) 1 1) ∷
      mark 10 1 0 (told.Saved (obj 0) 2 2) ∷
      mark 12 1 1 told.Begin ∷
      mark 12 1 1 (told.Put (obj 0) (kind.Mark (obj 16777216) 1)) ∷
      mark 12 1 1 told.End ∷
      mark 12 1 1 (told.Committed 3) ∷
      mark 12 1 0 (told.Marked (obj 16777216) 1) ∷
      mark 14 1 2 told.Begin ∷
      mark 14 1 2 (told.Put (obj 0) (kind.Mark (obj 0) 1)) ∷
      mark 14 1 2 told.End ∷
      mark 14 1 2 (told.Committed 4) ∷
      mark 14 1 0 (told.Marked (obj 0) 1) ∷
      mark 16 1 0 (told.Trimmed 1) ∷
      mark 18 0 1 (told.Refused (cause.Forgotten 0 1)) ∷
      mark 19 2 0 (told.Hosted (obj 16777216)) ∷
      mark 20 2 1 told.Begin ∷
      mark 22 2 1 (told.Asked (obj 16777216) (kind.Value) 5 (kind.Signed (pos 5))) ∷ [];
  dones =
      done 0 0 1 ((obj 16777216, (kind.Add (pos 5))) ∷ []) ∷
      done 3 1 1 ((obj 0, (kind.Mark (obj 16777216) 1)) ∷ []) ∷
      done 4 1 2 ((obj 0, (kind.Mark (obj 0) 1)) ∷ []) ∷ [];
}
unfolding u8_at u16_at u32_at u64_at raw_at fixed_at read_many spell_many fit_many marks reads writes keys new_fields old_fields body entry node_eq bytes_eq bytes_lt part_lt cell_eq chain_of units_of next_of change_fault new_unit unit_ask first_missing on_ask unit_step new_layout layout_ask on_layout_ask layout_step reply work_asks put_cell get_cell fill_cell probe work_feed cell_feed entry_size needs_decision page_of entry_of new_seqr seqr_step seqr_tick append_work_asks append_start append_feed append_again sync_work_asks sync_start sync_feed walk_on walk_start walk_feed no_versions based version_of with_change parts_of decision_in view_start view_version view_parts unknown_in changed_in verdict step_at play_on play read_fault write_fault commit_record open_decision checkpoint bases_in load_from view_base view_bases may_forget commit_at past_at rescue_turn trim_start trim_feed copy_work_asks copy_start copy_feed reconf_work_asks reconf_start reconf_feed reconf_latest new_client entries_at copy_fault tests refusal appends syncs walked task_asks client_asks walks task_feed task_again accepts client_command client_deliver client_tick fields_size decided newest log_of entries_of members path_on path changes_below version outcome history_of start latest log history unit_moves layout_moves seqr_moves client_turned happens limit_of drain_on drain tick_all rounds settle line lines
checkpoints_and_trim = refl

abbrev pub unit_joins_header : Header
unit_joins_header = record { units = 3; layouts = 1; seqs = 3; clients = 2; limit = 100; chains = (0 ∷ 1 ∷ []) ∷ []; objects = obj 16777216 ∷ [] }

abbrev pub unit_joins_script : List (Line kinds)
unit_joins_script =
    Update 0 (obj 16777216) (kind.Add (pos 5)) ∷
    Settle ∷
    Happens (Commands 0 (cmd.Copy 2 0 0)) ∷
    Happens (Commands 0 (cmd.Reconf (record { seq = 1; drop = []; opened = (0 ∷ 1 ∷ []) ∷ []; join = None }))) ∷
    Settle ∷
    Happens (Commands 0 (cmd.Reconf (record { seq = 2; drop = []; opened = []; join = Some (record { unit = 2; range = 0; stripe = 0 }) }))) ∷
    Settle ∷
    Happens (Commands 0 (cmd.Copy 2 0 0)) ∷
    Settle ∷
    Happens (Commands 0 (cmd.Reconf (record { seq = 2; drop = []; opened = []; join = Some (record { unit = 2; range = 0; stripe = 0 }) }))) ∷
    Settle ∷
    Happens (Commands 0 (cmd.Reconf (record { seq = 0; drop = 0 ∷ []; opened = []; join = None }))) ∷
    Settle ∷
    Happens (Commands 1 (cmd.Host (obj 16777216))) ∷
    Happens (Commands 1 cmd.Begin) ∷
    Happens (Commands 1 (cmd.Ask (obj 16777216) (kind.Value))) ∷
    Settle ∷ []

unit_joins : shown (replay kinds unit_joins_header unit_joins_script) ≡ record {
  marks =
      mark 1 0 1 told.Begin ∷
      mark 1 0 1 (told.Put (obj 16777216) (kind.Add (pos 5))) ∷
      mark 1 0 1 told.End ∷
      mark 2 0 1 (told.Committed 0) ∷
      mark 3 0 0 (told.Refused (cause.NotClosed 0)) ∷
      mark 5 0 0 (told.Installed 2) ∷
      mark 7 0 0 (told.Refused (cause.NotWhole 2 0)) ∷
      mark 9 0 0 (told.Copied 2 0 0) ∷
      mark 11 0 0 (told.Installed 3) ∷
      mark 13 0 0 (told.Installed 4) ∷
      mark 14 1 0 (told.Hosted (obj 16777216)) ∷
      mark 15 1 1 told.Begin ∷
      mark 17 1 1 (told.Asked (obj 16777216) (kind.Value) 1 (kind.Signed (pos 5))) ∷ [];
  dones =
      done 0 0 1 ((obj 16777216, (kind.Add (pos 5))) ∷ []) ∷ [];
}
unfolding u8_at u16_at u32_at u64_at raw_at fixed_at read_many spell_many fit_many marks reads writes keys new_fields old_fields body entry node_eq bytes_eq bytes_lt part_lt cell_eq chain_of units_of next_of change_fault new_unit unit_ask first_missing on_ask unit_step new_layout layout_ask on_layout_ask layout_step reply work_asks put_cell get_cell fill_cell probe work_feed cell_feed entry_size needs_decision page_of entry_of new_seqr seqr_step seqr_tick append_work_asks append_start append_feed append_again sync_work_asks sync_start sync_feed walk_on walk_start walk_feed no_versions based version_of with_change parts_of decision_in view_start view_version view_parts unknown_in changed_in verdict step_at play_on play read_fault write_fault commit_record open_decision checkpoint bases_in load_from view_base view_bases may_forget commit_at past_at rescue_turn trim_start trim_feed copy_work_asks copy_start copy_feed reconf_work_asks reconf_start reconf_feed reconf_latest new_client entries_at copy_fault tests refusal appends syncs walked task_asks client_asks walks task_feed task_again accepts client_command client_deliver client_tick fields_size decided newest log_of entries_of members path_on path changes_below version outcome history_of start latest log history unit_moves layout_moves seqr_moves client_turned happens limit_of drain_on drain tick_all rounds settle line lines
unit_joins = refl

abbrev pub copy_in_chain_header : Header
copy_in_chain_header = record { units = 3; layouts = 1; seqs = 3; clients = 2; limit = 100; chains = (0 ∷ 1 ∷ []) ∷ []; objects = obj 16777216 ∷ [] }

abbrev pub copy_in_chain_script : List (Line kinds)
copy_in_chain_script =
    Update 0 (obj 16777216) (kind.Add (pos 5)) ∷
    Settle ∷
    Happens (Commands 0 (cmd.Copy 2 0 0)) ∷
    Happens (Commands 0 (cmd.Reconf (record { seq = 1; drop = []; opened = (0 ∷ 1 ∷ []) ∷ []; join = None }))) ∷
    Settle ∷
    Happens (Commands 0 (cmd.Copy 1 0 0)) ∷ []

copy_in_chain : shown (replay kinds copy_in_chain_header copy_in_chain_script) ≡ record {
  marks =
      mark 1 0 1 told.Begin ∷
      mark 1 0 1 (told.Put (obj 16777216) (kind.Add (pos 5))) ∷
      mark 1 0 1 told.End ∷
      mark 2 0 1 (told.Committed 0) ∷
      mark 3 0 0 (told.Refused (cause.NotClosed 0)) ∷
      mark 5 0 0 (told.Installed 2) ∷
      mark 6 0 0 (told.Refused (cause.InChain 1)) ∷ [];
  dones =
      done 0 0 1 ((obj 16777216, (kind.Add (pos 5))) ∷ []) ∷ [];
}
unfolding u8_at u16_at u32_at u64_at raw_at fixed_at read_many spell_many fit_many marks reads writes keys new_fields old_fields body entry node_eq bytes_eq bytes_lt part_lt cell_eq chain_of units_of next_of change_fault new_unit unit_ask first_missing on_ask unit_step new_layout layout_ask on_layout_ask layout_step reply work_asks put_cell get_cell fill_cell probe work_feed cell_feed entry_size needs_decision page_of entry_of new_seqr seqr_step seqr_tick append_work_asks append_start append_feed append_again sync_work_asks sync_start sync_feed walk_on walk_start walk_feed no_versions based version_of with_change parts_of decision_in view_start view_version view_parts unknown_in changed_in verdict step_at play_on play read_fault write_fault commit_record open_decision checkpoint bases_in load_from view_base view_bases may_forget commit_at past_at rescue_turn trim_start trim_feed copy_work_asks copy_start copy_feed reconf_work_asks reconf_start reconf_feed reconf_latest new_client entries_at copy_fault tests refusal appends syncs walked task_asks client_asks walks task_feed task_again accepts client_command client_deliver client_tick fields_size decided newest log_of entries_of members path_on path changes_below version outcome history_of start latest log history unit_moves layout_moves seqr_moves client_turned happens limit_of drain_on drain tick_all rounds settle line lines
copy_in_chain = refl

abbrev pub copy_without_stripe_header : Header
copy_without_stripe_header = record { units = 3; layouts = 1; seqs = 3; clients = 2; limit = 100; chains = (0 ∷ 1 ∷ []) ∷ []; objects = obj 16777216 ∷ [] }

abbrev pub copy_without_stripe_script : List (Line kinds)
copy_without_stripe_script =
    Update 0 (obj 16777216) (kind.Add (pos 5)) ∷
    Settle ∷
    Happens (Commands 0 (cmd.Copy 2 0 0)) ∷
    Happens (Commands 0 (cmd.Reconf (record { seq = 1; drop = []; opened = (0 ∷ 1 ∷ []) ∷ []; join = None }))) ∷
    Settle ∷
    Happens (Commands 0 (cmd.Copy 2 0 1)) ∷ []

copy_without_stripe : shown (replay kinds copy_without_stripe_header copy_without_stripe_script) ≡ record {
  marks =
      mark 1 0 1 told.Begin ∷
      mark 1 0 1 (told.Put (obj 16777216) (kind.Add (pos 5))) ∷
      mark 1 0 1 told.End ∷
      mark 2 0 1 (told.Committed 0) ∷
      mark 3 0 0 (told.Refused (cause.NotClosed 0)) ∷
      mark 5 0 0 (told.Installed 2) ∷
      mark 6 0 0 (told.Refused (cause.NoStripe 0 1)) ∷ [];
  dones =
      done 0 0 1 ((obj 16777216, (kind.Add (pos 5))) ∷ []) ∷ [];
}
unfolding u8_at u16_at u32_at u64_at raw_at fixed_at read_many spell_many fit_many marks reads writes keys new_fields old_fields body entry node_eq bytes_eq bytes_lt part_lt cell_eq chain_of units_of next_of change_fault new_unit unit_ask first_missing on_ask unit_step new_layout layout_ask on_layout_ask layout_step reply work_asks put_cell get_cell fill_cell probe work_feed cell_feed entry_size needs_decision page_of entry_of new_seqr seqr_step seqr_tick append_work_asks append_start append_feed append_again sync_work_asks sync_start sync_feed walk_on walk_start walk_feed no_versions based version_of with_change parts_of decision_in view_start view_version view_parts unknown_in changed_in verdict step_at play_on play read_fault write_fault commit_record open_decision checkpoint bases_in load_from view_base view_bases may_forget commit_at past_at rescue_turn trim_start trim_feed copy_work_asks copy_start copy_feed reconf_work_asks reconf_start reconf_feed reconf_latest new_client entries_at copy_fault tests refusal appends syncs walked task_asks client_asks walks task_feed task_again accepts client_command client_deliver client_tick fields_size decided newest log_of entries_of members path_on path changes_below version outcome history_of start latest log history unit_moves layout_moves seqr_moves client_turned happens limit_of drain_on drain tick_all rounds settle line lines
copy_without_stripe = refl
