-- Worked runs: the marks and the history that each gives.
use Rattle.std.proofs.Common.{◌≡◌, ℕ, List, [], ◌∷◌, refl, Some, None}
use Rattle.std.specs.Prelude.{true, false, pos, negsuc}
use Rattle.tg_base.specs.declared.fault.Many.TheVariants as many
use Rattle.tg_base.specs.declared.marks.Part.TheVariants.{All, Text, Num}
use Rattle.tg_base.specs.Clusters.{Header}
use Rattle.tg_model.specs.declared.command.Command.TheVariants as cmd
use Rattle.tg_model.specs.declared.command.Event.TheVariants.{Command as Commands, Deliver, Lose, Tick, Stop}
use Rattle.tg_model.specs.declared.command.Word.TheVariants as word
use Rattle.tg_model.specs.declared.refusal.Refusal.TheVariants as cause
use Rattle.tg_model.specs.declared.trace.What.TheVariants as told
use Rattle.tg_codec.specs.Reading.{u8_at, u16_at, u32_at, u64_at, raw_at, fixed_at}
use Rattle.tg_codec.specs.Codec.{read_many, spell_many, fit_many}
use Rattle.tg_entry.specs.Reads.{marks, reads}
use Rattle.tg_entry.specs.Writes.{writes}
use Rattle.tg_entry.specs.Checkpoints.{keys, new_fields, old_fields}
use Rattle.tg_entry.specs.Format.{body, entry}
use Rattle.tg_base.specs.Orders.{node_eq}
use Rattle.tg_protocol.specs.Words.{bytes_eq, bytes_lt, part_lt, cell_eq, unit_id, layout_id, seqr_id, client_id}
use Rattle.tg_protocol.specs.Layouts.{chain_of, units_of, next_of, change_fault}
use Rattle.tg_protocol.specs.Units.{new_unit, unit_ask, first_missing, on_ask, unit_step}
use Rattle.tg_protocol.specs.LayoutServers.{new_layout, layout_ask, on_layout_ask, layout_step}
use Rattle.tg_protocol.specs.Replies.{reply}
use Rattle.tg_protocol.specs.Cells.{work_asks, put_cell, get_cell, fill_cell, probe, work_feed, cell_feed}
use Rattle.tg_entry.specs.Needs.{needs_decision}
use Rattle.tg_protocol.specs.Entries.{entry_size}
use Rattle.tg_protocol.specs.Pages.{page_of, entry_of}
use Rattle.tg_protocol.specs.Sequencers.{new_seqr, seqr_step, seqr_tick}
use Rattle.tg_protocol.specs.Appending.{append_work_asks, append_start, append_feed, append_again}
use Rattle.tg_protocol.specs.Syncing.{sync_work_asks, sync_start, sync_feed}
use Rattle.tg_protocol.specs.Walking.{walk_on, walk_start, walk_feed}
use Rattle.tg_protocol.specs.Versions.{no_versions, based, version_of, with_change, parts_of}
use Rattle.tg_protocol.specs.Views.{decision_in, view_start, view_version, view_parts, unknown_in, changed_in, verdict, view_outcome, step_at, play_on, play}
use Rattle.tg_protocol.specs.Transactions.{read_fault, write_fault, commit_record}
use Rattle.tg_protocol.specs.Checkpoints.{open_decision, checkpoint, bases_in, load_from, view_base, view_bases, may_forget}
use Rattle.tg_protocol.specs.Past.{commit_at, past_at, rescue_turn}
use Rattle.tg_protocol.specs.Trimming.{trim_start, trim_feed, copy_work_asks, copy_start, copy_feed}
use Rattle.tg_protocol.specs.Reconfiguring.{reconf_work_asks, reconf_start, reconf_feed, reconf_latest}
use Rattle.tg_protocol.specs.Clients.{new_client, entries_at, copy_fault, tests, refusal}
use Rattle.tg_protocol.specs.Answers.{appends, syncs, walked}
use Rattle.tg_protocol.specs.ClientSteps.{task_asks, client_asks, walks, task_feed, task_again, accepts, client_command, client_deliver, client_tick}
use Rattle.tg_protocol.specs.Sizes.{fields_size}
use Rattle.tg_protocol.specs.Logs.{decided, newest, log_of, entries_of, members, path_on, path, changes_below, version, outcome, history_of}
use Rattle.tg_protocol.specs.Worlds.{start, latest, log, history, unit_moves, layout_moves, seqr_moves, client_turned, happens, limit_of, drain_on, drain, tick_all, rounds, settle, line, lines, Line, Happens, Update, Drain, Settle, replay}
use Rattle.tg_law_examples.proofs.SevenKinds.{kinds}
use Rattle.tg_law_examples.proofs.SevenKinds as kind
use Rattle.tg_law_examples.proofs.Shown.{Shown, shown, obj, mark, done}

abbrev pub moved_and_decided_header : Header
moved_and_decided_header = record { units = 1; layouts = 3; seqs = 2; clients = 3; limit = 40; chains = (0 ∷ []) ∷ []; objects = obj 16777216 ∷ obj 16777217 ∷ obj 67108864 ∷ obj 33554432 ∷ [] }

abbrev pub moved_and_decided_script : List (Line kinds)
moved_and_decided_script =
    Happens (Commands 0 (cmd.Host (obj 16777216))) ∷
    Happens (Commands 0 (cmd.Host (obj 67108864))) ∷
    Happens (Commands 1 (cmd.Host (obj 16777217))) ∷
    Happens (Commands 1 (cmd.Host (obj 67108864))) ∷
    Happens (Commands 1 (cmd.Host (obj 0))) ∷
    Happens (Commands 2 (cmd.Host (obj 16777217))) ∷
    Happens (Commands 2 (cmd.Host (obj 67108864))) ∷
    Happens (Commands 2 (cmd.Host (obj 33554432))) ∷
    Happens (Tick (unit_id 0)) ∷
    Drain ∷
    Happens (Commands 0 (cmd.Checkpoint (obj 33554432))) ∷
    Happens (Tick (seqr_id 1)) ∷
    Happens (Tick (layout_id 1)) ∷
    Happens (Commands 0 cmd.Begin) ∷
    Settle ∷
    Happens (Tick (layout_id 1)) ∷
    Happens (Tick (client_id 1)) ∷
    Happens (Commands 1 (cmd.Reconf (record { seq = 0; drop = []; opened = (0 ∷ []) ∷ []; join = None }))) ∷
    Settle ∷
    Happens (Tick (layout_id 0)) ∷
    Happens (Tick (layout_id 0)) ∷
    Settle ∷
    Happens (Tick (layout_id 2)) ∷
    Happens (Tick (layout_id 2)) ∷
    Happens (Tick (seqr_id 1)) ∷
    Happens (Tick (client_id 1)) ∷
    Happens (Commands 1 (cmd.Reconf (record { seq = 0; drop = []; opened = (0 ∷ []) ∷ []; join = Some (record { unit = 0; range = 0; stripe = 0 }) }))) ∷
    Happens (Tick (layout_id 1)) ∷
    Drain ∷
    Happens (Tick (layout_id 0)) ∷
    Happens (Commands 1 (cmd.Decide 0)) ∷
    Happens (Deliver 22) ∷
    Happens (Deliver 23) ∷
    Happens (Deliver 24) ∷
    Happens (Tick (client_id 1)) ∷
    Happens (Tick (client_id 2)) ∷
    Happens (Commands 0 cmd.Drop) ∷
    Settle ∷
    Happens (Commands 2 (cmd.Forget (obj 16777216) 1)) ∷
    Settle ∷
    Happens (Tick (layout_id 2)) ∷
    Settle ∷
    Drain ∷
    Happens (Commands 1 (cmd.Reconf (record { seq = 1; drop = []; opened = (0 ∷ []) ∷ []; join = Some (record { unit = 0; range = 0; stripe = 0 }) }))) ∷ []

moved_and_decided : shown (replay kinds moved_and_decided_header moved_and_decided_script) ≡ record {
  marks =
      mark 1 0 0 (told.Hosted (obj 16777216)) ∷
      mark 2 0 0 (told.Hosted (obj 67108864)) ∷
      mark 3 1 0 (told.Hosted (obj 16777217)) ∷
      mark 4 1 0 (told.Hosted (obj 67108864)) ∷
      mark 5 1 0 (told.Hosted (obj 0)) ∷
      mark 6 2 0 (told.Hosted (obj 16777217)) ∷
      mark 7 2 0 (told.Hosted (obj 67108864)) ∷
      mark 8 2 0 (told.Hosted (obj 33554432)) ∷
      mark 11 0 0 (told.Refused (cause.NotHosted (obj 33554432))) ∷
      mark 14 0 1 told.Begin ∷
      mark 19 1 0 (told.Installed 2) ∷
      mark 27 1 0 (told.Refused (cause.InChain 0)) ∷
      mark 37 0 1 told.Dropped ∷
      mark 38 1 0 (told.Decided 0 None) ∷
      mark 39 2 0 (told.Refused (cause.NotHosted (obj 16777216))) ∷
      mark 44 1 0 (told.Refused (cause.InChain 0)) ∷ [];
  dones = [];
}
unfolding u8_at u16_at u32_at u64_at raw_at fixed_at read_many spell_many fit_many marks reads writes keys new_fields old_fields body entry node_eq bytes_eq bytes_lt part_lt cell_eq chain_of units_of next_of change_fault new_unit unit_ask first_missing on_ask unit_step new_layout layout_ask on_layout_ask layout_step reply work_asks put_cell get_cell fill_cell probe work_feed cell_feed entry_size needs_decision page_of entry_of new_seqr seqr_step seqr_tick append_work_asks append_start append_feed append_again sync_work_asks sync_start sync_feed walk_on walk_start walk_feed no_versions based version_of with_change parts_of decision_in view_start view_version view_parts unknown_in changed_in verdict view_outcome step_at play_on play read_fault write_fault commit_record open_decision checkpoint bases_in load_from view_base view_bases may_forget commit_at past_at rescue_turn trim_start trim_feed copy_work_asks copy_start copy_feed reconf_work_asks reconf_start reconf_feed reconf_latest new_client entries_at copy_fault tests refusal appends syncs walked task_asks client_asks walks task_feed task_again accepts client_command client_deliver client_tick fields_size decided newest log_of entries_of members path_on path changes_below version outcome history_of start latest log history unit_moves layout_moves seqr_moves client_turned happens limit_of drain_on drain tick_all rounds settle line lines
moved_and_decided = refl

abbrev pub rescued_by_many_header : Header
rescued_by_many_header = record { units = 3; layouts = 5; seqs = 1; clients = 4; limit = 12; chains = (0 ∷ []) ∷ (1 ∷ []) ∷ []; objects = obj 83886080 ∷ obj 67108864 ∷ obj 16777216 ∷ obj 100663296 ∷ [] }

abbrev pub rescued_by_many_script : List (Line kinds)
rescued_by_many_script =
    Happens (Commands 0 (cmd.Host (obj 67108864))) ∷
    Happens (Commands 1 (cmd.Host (obj 83886080))) ∷
    Happens (Commands 1 (cmd.Host (obj 0))) ∷
    Happens (Commands 2 (cmd.Host (obj 83886080))) ∷
    Happens (Commands 2 (cmd.Host (obj 67108864))) ∷
    Happens (Commands 2 (cmd.Host (obj 16777216))) ∷
    Happens (Commands 2 (cmd.Host (obj 0))) ∷
    Happens (Commands 3 (cmd.Host (obj 83886080))) ∷
    Happens (Commands 3 (cmd.Host (obj 67108864))) ∷
    Happens (Commands 3 (cmd.Host (obj 0))) ∷
    Happens (Tick (unit_id 0)) ∷
    Happens (Tick (layout_id 4)) ∷
    Happens (Tick (layout_id 2)) ∷
    Happens (Commands 3 (cmd.Rescue 1)) ∷
    Settle ∷
    Happens (Tick (unit_id 0)) ∷
    Drain ∷
    Happens (Commands 0 (cmd.Decide 1)) ∷
    Settle ∷
    Happens (Tick (seqr_id 0)) ∷
    Happens (Tick (seqr_id 0)) ∷
    Happens (Tick (layout_id 1)) ∷
    Happens (Tick (client_id 0)) ∷
    Settle ∷
    Drain ∷
    Happens (Commands 1 cmd.Trim) ∷
    Happens (Commands 0 cmd.Begin) ∷
    Settle ∷
    Happens (Tick (unit_id 2)) ∷
    Happens (Tick (unit_id 2)) ∷
    Happens (Commands 1 cmd.Begin) ∷
    Happens (Tick (layout_id 4)) ∷
    Happens (Commands 1 cmd.End) ∷
    Settle ∷
    Settle ∷
    Happens (Tick (layout_id 0)) ∷
    Drain ∷
    Happens (Commands 0 cmd.End) ∷
    Settle ∷
    Happens (Tick (client_id 3)) ∷
    Settle ∷
    Happens (Tick (layout_id 3)) ∷
    Happens (Commands 3 (cmd.Reconf (record { seq = 0; drop = 2 ∷ []; opened = []; join = None }))) ∷
    Settle ∷
    Happens (Commands 3 (cmd.Host (obj 0))) ∷
    Happens (Tick (layout_id 1)) ∷
    Settle ∷
    Drain ∷
    Happens (Commands 3 (cmd.Reconf (record { seq = 0; drop = 0 ∷ []; opened = []; join = None }))) ∷ []

rescued_by_many : shown (replay kinds rescued_by_many_header rescued_by_many_script) ≡ record {
  marks =
      mark 1 0 0 (told.Hosted (obj 67108864)) ∷
      mark 2 1 0 (told.Hosted (obj 83886080)) ∷
      mark 3 1 0 (told.Hosted (obj 0)) ∷
      mark 4 2 0 (told.Hosted (obj 83886080)) ∷
      mark 5 2 0 (told.Hosted (obj 67108864)) ∷
      mark 6 2 0 (told.Hosted (obj 16777216)) ∷
      mark 7 2 0 (told.Hosted (obj 0)) ∷
      mark 8 3 0 (told.Hosted (obj 83886080)) ∷
      mark 9 3 0 (told.Hosted (obj 67108864)) ∷
      mark 10 3 0 (told.Hosted (obj 0)) ∷
      mark 15 3 0 (told.Rescued 1 None) ∷
      mark 19 0 0 (told.Decided 1 None) ∷
      mark 27 0 1 told.Begin ∷
      mark 28 1 0 (told.Trimmed 0) ∷
      mark 31 1 1 told.Begin ∷
      mark 33 1 1 told.End ∷
      mark 33 1 1 (told.Committed 0) ∷
      mark 38 0 1 told.End ∷
      mark 38 0 1 (told.Committed 0) ∷
      mark 44 3 0 (told.Installed 2) ∷
      mark 45 3 0 (told.Hosted (obj 0)) ∷
      mark 49 3 0 (told.Refused (cause.NoReplica 0 0)) ∷ [];
  dones = [];
}
unfolding u8_at u16_at u32_at u64_at raw_at fixed_at read_many spell_many fit_many marks reads writes keys new_fields old_fields body entry node_eq bytes_eq bytes_lt part_lt cell_eq chain_of units_of next_of change_fault new_unit unit_ask first_missing on_ask unit_step new_layout layout_ask on_layout_ask layout_step reply work_asks put_cell get_cell fill_cell probe work_feed cell_feed entry_size needs_decision page_of entry_of new_seqr seqr_step seqr_tick append_work_asks append_start append_feed append_again sync_work_asks sync_start sync_feed walk_on walk_start walk_feed no_versions based version_of with_change parts_of decision_in view_start view_version view_parts unknown_in changed_in verdict view_outcome step_at play_on play read_fault write_fault commit_record open_decision checkpoint bases_in load_from view_base view_bases may_forget commit_at past_at rescue_turn trim_start trim_feed copy_work_asks copy_start copy_feed reconf_work_asks reconf_start reconf_feed reconf_latest new_client entries_at copy_fault tests refusal appends syncs walked task_asks client_asks walks task_feed task_again accepts client_command client_deliver client_tick fields_size decided newest log_of entries_of members path_on path changes_below version outcome history_of start latest log history unit_moves layout_moves seqr_moves client_turned happens limit_of drain_on drain tick_all rounds settle line lines
rescued_by_many = refl

abbrev pub moved_under_loss_header : Header
moved_under_loss_header = record { units = 2; layouts = 5; seqs = 1; clients = 2; limit = 12; chains = (0 ∷ []) ∷ (1 ∷ []) ∷ []; objects = obj 16777216 ∷ obj 50331648 ∷ obj 67108864 ∷ [] }

abbrev pub moved_under_loss_script : List (Line kinds)
moved_under_loss_script =
    Happens (Commands 0 (cmd.Host (obj 67108864))) ∷
    Happens (Commands 0 (cmd.Host (obj 0))) ∷
    Happens (Commands 1 (cmd.Host (obj 16777216))) ∷
    Happens (Commands 1 (cmd.Host (obj 50331648))) ∷
    Happens (Commands 1 (cmd.Host (obj 67108864))) ∷
    Happens (Commands 1 (cmd.Host (obj 0))) ∷
    Happens (Tick (layout_id 3)) ∷
    Update 1 (obj 50331648) (kind.Set (107 ∷ 48 ∷ []) (116 ∷ 56 ∷ [])) ∷
    Happens (Lose 0) ∷
    Drain ∷
    Happens (Deliver 0) ∷
    Happens (Deliver 1) ∷
    Settle ∷
    Happens (Deliver 2) ∷
    Happens (Deliver 4) ∷
    Happens (Tick (layout_id 3)) ∷
    Happens (Deliver 3) ∷
    Happens (Commands 0 (cmd.Fate 1)) ∷
    Happens (Lose 5) ∷
    Happens (Deliver 2) ∷
    Happens (Commands 1 (cmd.Reconf (record { seq = 0; drop = []; opened = (1 ∷ 0 ∷ []) ∷ []; join = None }))) ∷
    Happens (Deliver 7) ∷
    Happens (Deliver 9) ∷
    Happens (Deliver 6) ∷
    Drain ∷
    Update 1 (obj 16777216) (kind.Add (pos 3)) ∷
    Update 0 (obj 0) (kind.Name (107 ∷ 48 ∷ []) (obj 83886082)) ∷
    Update 1 (obj 67108864) (kind.PushBack (116 ∷ 49 ∷ [])) ∷
    Drain ∷
    Happens (Deliver 26) ∷
    Happens (Commands 0 (cmd.Reconf (record { seq = 0; drop = []; opened = (0 ∷ 1 ∷ []) ∷ []; join = Some (record { unit = 1; range = 0; stripe = 1 }) }))) ∷
    Happens (Commands 0 (cmd.AskAt 0 (obj 50331648) (kind.Keys))) ∷
    Happens (Deliver 21) ∷
    Happens (Commands 0 cmd.Begin) ∷
    Happens (Tick (layout_id 3)) ∷
    Happens (Deliver 45) ∷
    Happens (Commands 1 (cmd.Reconf (record { seq = 0; drop = []; opened = []; join = None }))) ∷
    Happens (Deliver 40) ∷
    Happens (Deliver 18) ∷
    Happens (Commands 1 cmd.Begin) ∷
    Happens (Deliver 30) ∷
    Happens (Deliver 23) ∷
    Drain ∷
    Settle ∷
    Drain ∷
    Happens (Commands 1 (cmd.Reconf (record { seq = 0; drop = []; opened = []; join = None }))) ∷
    Happens (Deliver 85) ∷
    Happens (Lose 86) ∷
    Happens (Deliver 87) ∷
    Settle ∷ []

moved_under_loss : shown (replay kinds moved_under_loss_header moved_under_loss_script) ≡ record {
  marks =
      mark 1 0 0 (told.Hosted (obj 67108864)) ∷
      mark 2 0 0 (told.Hosted (obj 0)) ∷
      mark 3 1 0 (told.Hosted (obj 16777216)) ∷
      mark 4 1 0 (told.Hosted (obj 50331648)) ∷
      mark 5 1 0 (told.Hosted (obj 67108864)) ∷
      mark 6 1 0 (told.Hosted (obj 0)) ∷
      mark 8 1 1 told.Begin ∷
      mark 8 1 1 (told.Put (obj 50331648) (kind.Set (107 ∷ 48 ∷ []) (116 ∷ 56 ∷ []))) ∷
      mark 8 1 1 told.End ∷
      mark 13 1 1 (told.Committed 0) ∷
      mark 26 1 0 (told.Refused (cause.Busy word.Reconf)) ∷
      mark 26 1 0 (told.Refused (cause.Busy word.Reconf)) ∷
      mark 26 1 0 (told.Refused (cause.Busy word.Reconf)) ∷
      mark 27 0 0 (told.Refused (cause.Busy word.Fate)) ∷
      mark 27 0 0 (told.Refused (cause.Busy word.Fate)) ∷
      mark 27 0 0 (told.Refused (cause.Busy word.Fate)) ∷
      mark 28 1 0 (told.Refused (cause.Busy word.Reconf)) ∷
      mark 28 1 0 (told.Refused (cause.Busy word.Reconf)) ∷
      mark 28 1 0 (told.Refused (cause.Busy word.Reconf)) ∷
      mark 31 0 0 (told.Refused (cause.Busy word.Fate)) ∷
      mark 32 0 0 (told.Refused (cause.Busy word.Fate)) ∷
      mark 34 0 0 (told.Refused (cause.Busy word.Fate)) ∷
      mark 37 1 0 (told.Refused (cause.Busy word.Reconf)) ∷
      mark 40 1 0 (told.Refused (cause.Busy word.Reconf)) ∷
      mark 44 1 0 (told.Installed 2) ∷
      mark 44 0 0 (told.Fate 1 None) ∷
      mark 50 1 0 (told.Installed 3) ∷ [];
  dones =
      done 0 1 1 ((obj 50331648, (kind.Set (107 ∷ 48 ∷ []) (116 ∷ 56 ∷ []))) ∷ []) ∷ [];
}
unfolding u8_at u16_at u32_at u64_at raw_at fixed_at read_many spell_many fit_many marks reads writes keys new_fields old_fields body entry node_eq bytes_eq bytes_lt part_lt cell_eq chain_of units_of next_of change_fault new_unit unit_ask first_missing on_ask unit_step new_layout layout_ask on_layout_ask layout_step reply work_asks put_cell get_cell fill_cell probe work_feed cell_feed entry_size needs_decision page_of entry_of new_seqr seqr_step seqr_tick append_work_asks append_start append_feed append_again sync_work_asks sync_start sync_feed walk_on walk_start walk_feed no_versions based version_of with_change parts_of decision_in view_start view_version view_parts unknown_in changed_in verdict view_outcome step_at play_on play read_fault write_fault commit_record open_decision checkpoint bases_in load_from view_base view_bases may_forget commit_at past_at rescue_turn trim_start trim_feed copy_work_asks copy_start copy_feed reconf_work_asks reconf_start reconf_feed reconf_latest new_client entries_at copy_fault tests refusal appends syncs walked task_asks client_asks walks task_feed task_again accepts client_command client_deliver client_tick fields_size decided newest log_of entries_of members path_on path changes_below version outcome history_of start latest log history unit_moves layout_moves seqr_moves client_turned happens limit_of drain_on drain tick_all rounds settle line lines
moved_under_loss = refl

abbrev pub asked_of_the_past_header : Header
asked_of_the_past_header = record { units = 4; layouts = 3; seqs = 1; clients = 3; limit = 1000; chains = (1 ∷ 0 ∷ []) ∷ (2 ∷ []) ∷ []; objects = obj 83886080 ∷ obj 16777216 ∷ obj 50331648 ∷ [] }

abbrev pub asked_of_the_past_script : List (Line kinds)
asked_of_the_past_script =
    Happens (Commands 0 (cmd.Host (obj 50331648))) ∷
    Happens (Commands 0 (cmd.Host (obj 0))) ∷
    Happens (Commands 0 cmd.Begin) ∷
    Update 2 (obj 50331648) (kind.Set (98 ∷ []) (118 ∷ 50 ∷ [])) ∷
    Happens (Deliver 0) ∷
    Happens (Deliver 1) ∷
    Happens (Deliver 2) ∷
    Happens (Deliver 3) ∷
    Happens (Deliver 4) ∷
    Happens (Deliver 5) ∷
    Happens (Commands 0 cmd.End) ∷
    Update 2 (obj 50331655) (kind.Set (98 ∷ []) (118 ∷ 48 ∷ [])) ∷
    Settle ∷
    Update 1 (obj 16777216) (kind.Add (negsuc 2)) ∷
    Happens (Commands 0 cmd.Begin) ∷
    Happens (Commands 0 (cmd.Ask (obj 50331648) (kind.Get (98 ∷ [])))) ∷
    Happens (Deliver 7) ∷
    Happens (Deliver 6) ∷
    Happens (Deliver 9) ∷
    Happens (Deliver 8) ∷
    Happens (Deliver 10) ∷
    Happens (Deliver 12) ∷
    Happens (Deliver 11) ∷
    Happens (Deliver 13) ∷
    Happens (Deliver 14) ∷
    Happens (Tick (client_id 2)) ∷
    Happens (Deliver 15) ∷
    Happens (Commands 2 (cmd.Host (obj 50331648))) ∷
    Happens (Commands 2 (cmd.AskAt 0 (obj 0) (kind.Find (110 ∷ 48 ∷ [])))) ∷
    Happens (Deliver 16) ∷
    Happens (Lose 17) ∷
    Happens (Commands 1 cmd.Begin) ∷
    Happens (Commands 1 (cmd.Ask (obj 0) (kind.Find (110 ∷ 49 ∷ [])))) ∷
    Happens (Deliver 18) ∷
    Happens (Deliver 19) ∷
    Happens (Deliver 20) ∷
    Happens (Deliver 21) ∷
    Happens (Commands 1 (cmd.Ask (obj 0) (kind.Find (110 ∷ 48 ∷ [])))) ∷
    Happens (Commands 1 (cmd.Put (obj 16777216) (kind.Add (pos 1)))) ∷
    Happens (Commands 1 (cmd.Put (obj 83886080) (kind.Delete (47 ∷ 97 ∷ 47 ∷ 98 ∷ [])))) ∷
    Happens (Commands 1 cmd.End) ∷
    Drain ∷
    Drain ∷
    Settle ∷
    Drain ∷
    Update 2 (obj 0) (kind.Name (110 ∷ 49 ∷ []) (obj 50331655)) ∷
    Happens (Deliver 48) ∷
    Happens (Deliver 49) ∷
    Happens (Deliver 50) ∷
    Happens (Lose 51) ∷
    Drain ∷
    Settle ∷
    Settle ∷ []

asked_of_the_past : shown (replay kinds asked_of_the_past_header asked_of_the_past_script) ≡ record {
  marks =
      mark 1 0 0 (told.Hosted (obj 50331648)) ∷
      mark 2 0 0 (told.Hosted (obj 0)) ∷
      mark 3 0 1 told.Begin ∷
      mark 4 2 1 told.Begin ∷
      mark 4 2 1 (told.Put (obj 50331648) (kind.Set (98 ∷ []) (118 ∷ 50 ∷ []))) ∷
      mark 4 2 1 told.End ∷
      mark 10 2 1 (told.Committed 0) ∷
      mark 11 0 1 told.End ∷
      mark 11 0 1 (told.Committed 0) ∷
      mark 12 2 2 told.Begin ∷
      mark 12 2 2 (told.Refused (cause.NotRegistered (obj 50331655))) ∷
      mark 12 2 2 told.End ∷
      mark 12 2 2 (told.Committed 0) ∷
      mark 14 1 1 told.Begin ∷
      mark 14 1 1 (told.Put (obj 16777216) (kind.Add (negsuc 2))) ∷
      mark 14 1 1 told.End ∷
      mark 15 0 2 told.Begin ∷
      mark 22 1 1 (told.Committed 1) ∷
      mark 27 0 2 (told.Asked (obj 50331648) (kind.Get (98 ∷ [])) 1 (kind.Words (Some (118 ∷ 50 ∷ [])))) ∷
      mark 28 2 0 (told.Hosted (obj 50331648)) ∷
      mark 32 1 2 told.Begin ∷
      mark 37 1 2 (told.Asked (obj 0) (kind.Find (110 ∷ 49 ∷ [])) 2 (kind.Object None)) ∷
      mark 38 1 2 (told.Asked (obj 0) (kind.Find (110 ∷ 48 ∷ [])) 2 (kind.Object None)) ∷
      mark 39 1 2 (told.Put (obj 16777216) (kind.Add (pos 1))) ∷
      mark 40 1 2 (told.Put (obj 83886080) (kind.Delete (47 ∷ 97 ∷ 47 ∷ 98 ∷ []))) ∷
      mark 41 1 2 told.End ∷
      mark 42 1 2 (told.Committed 2) ∷
      mark 44 2 0 (told.Past (obj 0) (kind.Find (110 ∷ 48 ∷ [])) 0 (kind.Object None)) ∷
      mark 46 2 3 told.Begin ∷
      mark 46 2 3 (told.Put (obj 0) (kind.Name (110 ∷ 49 ∷ []) (obj 50331655))) ∷
      mark 46 2 3 told.End ∷
      mark 52 2 3 (told.Committed 4) ∷ [];
  dones =
      done 0 2 1 ((obj 50331648, (kind.Set (98 ∷ []) (118 ∷ 50 ∷ []))) ∷ []) ∷
      done 1 1 1 ((obj 16777216, (kind.Add (negsuc 2))) ∷ []) ∷
      done 2 1 2 ((obj 16777216, (kind.Add (pos 1))) ∷ (obj 83886080, (kind.Delete (47 ∷ 97 ∷ 47 ∷ 98 ∷ []))) ∷ []) ∷
      done 4 2 3 ((obj 0, (kind.Name (110 ∷ 49 ∷ []) (obj 50331655))) ∷ []) ∷ [];
}
unfolding u8_at u16_at u32_at u64_at raw_at fixed_at read_many spell_many fit_many marks reads writes keys new_fields old_fields body entry node_eq bytes_eq bytes_lt part_lt cell_eq chain_of units_of next_of change_fault new_unit unit_ask first_missing on_ask unit_step new_layout layout_ask on_layout_ask layout_step reply work_asks put_cell get_cell fill_cell probe work_feed cell_feed entry_size needs_decision page_of entry_of new_seqr seqr_step seqr_tick append_work_asks append_start append_feed append_again sync_work_asks sync_start sync_feed walk_on walk_start walk_feed no_versions based version_of with_change parts_of decision_in view_start view_version view_parts unknown_in changed_in verdict view_outcome step_at play_on play read_fault write_fault commit_record open_decision checkpoint bases_in load_from view_base view_bases may_forget commit_at past_at rescue_turn trim_start trim_feed copy_work_asks copy_start copy_feed reconf_work_asks reconf_start reconf_feed reconf_latest new_client entries_at copy_fault tests refusal appends syncs walked task_asks client_asks walks task_feed task_again accepts client_command client_deliver client_tick fields_size decided newest log_of entries_of members path_on path changes_below version outcome history_of start latest log history unit_moves layout_moves seqr_moves client_turned happens limit_of drain_on drain tick_all rounds settle line lines
asked_of_the_past = refl

abbrev pub asked_of_the_past_later_header : Header
asked_of_the_past_later_header = record { units = 2; layouts = 1; seqs = 1; clients = 3; limit = 500; chains = (1 ∷ []) ∷ []; objects = obj 16777216 ∷ obj 33554432 ∷ obj 100663296 ∷ obj 83886080 ∷ obj 67108864 ∷ obj 50331648 ∷ [] }

abbrev pub asked_of_the_past_later_script : List (Line kinds)
asked_of_the_past_later_script =
    Happens (Commands 0 (cmd.Host (obj 16777216))) ∷
    Happens (Commands 0 (cmd.Host (obj 33554432))) ∷
    Happens (Commands 0 (cmd.Host (obj 100663296))) ∷
    Happens (Commands 0 (cmd.Host (obj 83886080))) ∷
    Happens (Commands 0 (cmd.Host (obj 67108864))) ∷
    Happens (Commands 0 (cmd.Host (obj 50331648))) ∷
    Happens (Commands 1 (cmd.Host (obj 16777216))) ∷
    Happens (Commands 1 (cmd.Host (obj 33554432))) ∷
    Happens (Commands 1 (cmd.Host (obj 100663296))) ∷
    Happens (Commands 1 (cmd.Host (obj 83886080))) ∷
    Happens (Commands 1 (cmd.Host (obj 67108864))) ∷
    Happens (Commands 1 (cmd.Host (obj 50331648))) ∷
    Happens (Commands 0 cmd.Begin) ∷
    Happens (Commands 0 (cmd.Put (obj 83886080) (kind.Store (47 ∷ []) (46 ∷ [])))) ∷
    Happens (Commands 0 (cmd.Put (obj 0) (kind.Name (99 ∷ 116 ∷ 114 ∷ 48 ∷ []) (obj 50331648)))) ∷
    Happens (Commands 0 (cmd.Put (obj 83886080) (kind.Create (47 ∷ 97 ∷ 45 ∷ []) (99 ∷ [])))) ∷
    Happens (Commands 0 (cmd.Put (obj 67108864) (kind.PushFront (98 ∷ [])))) ∷
    Happens (Commands 0 (cmd.Put (obj 67108864) (kind.InsertAt 3 (120 ∷ 120 ∷ 120 ∷ 120 ∷ 120 ∷ 120 ∷ 120 ∷ 120 ∷ 120 ∷ 120 ∷ 120 ∷ 120 ∷ 120 ∷ 120 ∷ 120 ∷ 120 ∷ 120 ∷ 120 ∷ 120 ∷ 120 ∷ 120 ∷ 120 ∷ 120 ∷ 120 ∷ 120 ∷ 120 ∷ 120 ∷ 120 ∷ 120 ∷ 120 ∷ 120 ∷ 120 ∷ 120 ∷ 120 ∷ 120 ∷ 120 ∷ 120 ∷ 120 ∷ 120 ∷ 120 ∷ 120 ∷ 120 ∷ 120 ∷ 120 ∷ 120 ∷ 120 ∷ 120 ∷ 120 ∷ 120 ∷ 120 ∷ 120 ∷ 120 ∷ 120 ∷ 120 ∷ 120 ∷ 120 ∷ 120 ∷ 120 ∷ 120 ∷ 120 ∷ 120 ∷ 120 ∷ 120 ∷ 120 ∷ 120 ∷ 120 ∷ 120 ∷ 120 ∷ 120 ∷ 120 ∷ 120 ∷ 120 ∷ 120 ∷ 120 ∷ 120 ∷ 120 ∷ 120 ∷ 120 ∷ 120 ∷ 120 ∷ 120 ∷ 120 ∷ 120 ∷ 120 ∷ 120 ∷ 120 ∷ 120 ∷ 120 ∷ 120 ∷ 120 ∷ 120 ∷ 120 ∷ 120 ∷ 120 ∷ 120 ∷ 120 ∷ 120 ∷ 120 ∷ 120 ∷ 120 ∷ 120 ∷ 120 ∷ 120 ∷ 120 ∷ 120 ∷ 120 ∷ 120 ∷ 120 ∷ 120 ∷ 120 ∷ 120 ∷ 120 ∷ 120 ∷ 120 ∷ 120 ∷ 120 ∷ 120 ∷ 120 ∷ 120 ∷ 120 ∷ 120 ∷ 120 ∷ 120 ∷ 120 ∷ 120 ∷ 120 ∷ 120 ∷ 120 ∷ 120 ∷ 120 ∷ 120 ∷ 120 ∷ 120 ∷ 120 ∷ 120 ∷ 120 ∷ 120 ∷ 120 ∷ 120 ∷ 120 ∷ 120 ∷ 120 ∷ 120 ∷ 120 ∷ 120 ∷ 120 ∷ 120 ∷ 120 ∷ 120 ∷ 120 ∷ 120 ∷ 120 ∷ 120 ∷ 120 ∷ 120 ∷ 120 ∷ 120 ∷ 120 ∷ 120 ∷ 120 ∷ 120 ∷ 120 ∷ 120 ∷ 120 ∷ 120 ∷ 120 ∷ 120 ∷ 120 ∷ 120 ∷ 120 ∷ 120 ∷ 120 ∷ 120 ∷ 120 ∷ 120 ∷ 120 ∷ 120 ∷ 120 ∷ 120 ∷ 120 ∷ 120 ∷ 120 ∷ 120 ∷ 120 ∷ 120 ∷ 120 ∷ 120 ∷ 120 ∷ 120 ∷ 120 ∷ 120 ∷ 120 ∷ 120 ∷ 120 ∷ 120 ∷ 120 ∷ 120 ∷ 120 ∷ 120 ∷ 120 ∷ 120 ∷ 120 ∷ 120 ∷ 120 ∷ 120 ∷ 120 ∷ 120 ∷ 120 ∷ 120 ∷ 120 ∷ 120 ∷ 120 ∷ 120 ∷ 120 ∷ 120 ∷ 120 ∷ 120 ∷ 120 ∷ 120 ∷ 120 ∷ 120 ∷ 120 ∷ 120 ∷ 120 ∷ 120 ∷ 120 ∷ 120 ∷ 120 ∷ 120 ∷ 120 ∷ 120 ∷ 120 ∷ 120 ∷ 120 ∷ 120 ∷ 120 ∷ 120 ∷ 120 ∷ 120 ∷ 120 ∷ 120 ∷ 120 ∷ 120 ∷ 120 ∷ 120 ∷ 120 ∷ 120 ∷ 120 ∷ 120 ∷ 120 ∷ 120 ∷ 120 ∷ 120 ∷ 120 ∷ 120 ∷ 120 ∷ 120 ∷ 120 ∷ 120 ∷ 120 ∷ 120 ∷ 120 ∷ 120 ∷ 120 ∷ 120 ∷ 120 ∷ 120 ∷ 120 ∷ 120 ∷ 120 ∷ 120 ∷ 120 ∷ 120 ∷ 120 ∷ 120 ∷ 120 ∷ 120 ∷ 120 ∷ 120 ∷ 120 ∷ 120 ∷ 120 ∷ 120 ∷ 120 ∷ 120 ∷ 120 ∷ 120 ∷ 120 ∷ 120 ∷ 120 ∷ 120 ∷ 120 ∷ 120 ∷ 120 ∷ 120 ∷ 120 ∷ 120 ∷ 120 ∷ 120 ∷ 120 ∷ [])))) ∷
    Happens (Commands 0 cmd.End) ∷
    Settle ∷
    Happens (Commands 0 (cmd.AskAt 0 (obj 0) (kind.Floor))) ∷
    Settle ∷
    Happens (Commands 1 cmd.Begin) ∷
    Happens (Commands 1 (cmd.Put (obj 0) (kind.Name (110 ∷ []) (obj 16777225)))) ∷
    Happens (Commands 1 (cmd.Put (obj 0) (kind.Name (109 ∷ []) (obj 83886085)))) ∷
    Happens (Commands 1 cmd.End) ∷
    Settle ∷
    Happens (Commands 0 cmd.Begin) ∷
    Happens (Commands 0 (cmd.Ask (obj 83886080) (kind.HasPath (47 ∷ 97 ∷ [])))) ∷
    Settle ∷
    Happens (Commands 0 (cmd.Ask (obj 67108864) (kind.ItemAt 0))) ∷
    Settle ∷
    Happens (Commands 0 (cmd.Ask (obj 0) (kind.Floor))) ∷
    Settle ∷
    Happens (Commands 0 cmd.End) ∷
    Happens (Commands 0 cmd.Begin) ∷
    Happens (Commands 0 (cmd.Put (obj 0) (kind.Name (99 ∷ 116 ∷ 114 ∷ 48 ∷ []) (obj 50331657)))) ∷
    Happens (Commands 0 cmd.End) ∷
    Settle ∷
    Happens (Commands 2 (cmd.Host (obj 83886080))) ∷
    Happens (Commands 2 (cmd.Host (obj 67108864))) ∷
    Happens (Commands 2 cmd.Begin) ∷
    Happens (Commands 2 (cmd.Ask (obj 83886080) (kind.DataOf (47 ∷ 98 ∷ [])))) ∷
    Settle ∷
    Happens (Commands 2 (cmd.Ask (obj 83886080) (kind.Children (47 ∷ [])))) ∷
    Settle ∷
    Happens (Commands 2 (cmd.Ask (obj 67108864) (kind.Items))) ∷
    Settle ∷
    Happens (Commands 2 (cmd.Ask (obj 67108864) (kind.Len))) ∷
    Settle ∷
    Happens (Commands 2 (cmd.Ask (obj 0) (kind.Marks))) ∷
    Settle ∷
    Happens (Commands 2 (cmd.Ask (obj 0) (kind.Marks))) ∷
    Settle ∷
    Happens (Commands 2 cmd.End) ∷ []

asked_of_the_past_later : shown (replay kinds asked_of_the_past_later_header asked_of_the_past_later_script) ≡ record {
  marks =
      mark 1 0 0 (told.Hosted (obj 16777216)) ∷
      mark 2 0 0 (told.Hosted (obj 33554432)) ∷
      mark 3 0 0 (told.Hosted (obj 100663296)) ∷
      mark 4 0 0 (told.Hosted (obj 83886080)) ∷
      mark 5 0 0 (told.Hosted (obj 67108864)) ∷
      mark 6 0 0 (told.Hosted (obj 50331648)) ∷
      mark 7 1 0 (told.Hosted (obj 16777216)) ∷
      mark 8 1 0 (told.Hosted (obj 33554432)) ∷
      mark 9 1 0 (told.Hosted (obj 100663296)) ∷
      mark 10 1 0 (told.Hosted (obj 83886080)) ∷
      mark 11 1 0 (told.Hosted (obj 67108864)) ∷
      mark 12 1 0 (told.Hosted (obj 50331648)) ∷
      mark 13 0 1 told.Begin ∷
      mark 14 0 1 (told.Put (obj 83886080) (kind.Store (47 ∷ []) (46 ∷ []))) ∷
      mark 15 0 1 (told.Put (obj 0) (kind.Name (99 ∷ 116 ∷ 114 ∷ 48 ∷ []) (obj 50331648))) ∷
      mark 16 0 1 (told.Put (obj 83886080) (kind.Create (47 ∷ 97 ∷ 45 ∷ []) (99 ∷ []))) ∷
      mark 17 0 1 (told.Put (obj 67108864) (kind.PushFront (98 ∷ []))) ∷
      mark 18 0 1 (told.Put (obj 67108864) (kind.InsertAt 3 (120 ∷ 120 ∷ 120 ∷ 120 ∷ 120 ∷ 120 ∷ 120 ∷ 120 ∷ 120 ∷ 120 ∷ 120 ∷ 120 ∷ 120 ∷ 120 ∷ 120 ∷ 120 ∷ 120 ∷ 120 ∷ 120 ∷ 120 ∷ 120 ∷ 120 ∷ 120 ∷ 120 ∷ 120 ∷ 120 ∷ 120 ∷ 120 ∷ 120 ∷ 120 ∷ 120 ∷ 120 ∷ 120 ∷ 120 ∷ 120 ∷ 120 ∷ 120 ∷ 120 ∷ 120 ∷ 120 ∷ 120 ∷ 120 ∷ 120 ∷ 120 ∷ 120 ∷ 120 ∷ 120 ∷ 120 ∷ 120 ∷ 120 ∷ 120 ∷ 120 ∷ 120 ∷ 120 ∷ 120 ∷ 120 ∷ 120 ∷ 120 ∷ 120 ∷ 120 ∷ 120 ∷ 120 ∷ 120 ∷ 120 ∷ 120 ∷ 120 ∷ 120 ∷ 120 ∷ 120 ∷ 120 ∷ 120 ∷ 120 ∷ 120 ∷ 120 ∷ 120 ∷ 120 ∷ 120 ∷ 120 ∷ 120 ∷ 120 ∷ 120 ∷ 120 ∷ 120 ∷ 120 ∷ 120 ∷ 120 ∷ 120 ∷ 120 ∷ 120 ∷ 120 ∷ 120 ∷ 120 ∷ 120 ∷ 120 ∷ 120 ∷ 120 ∷ 120 ∷ 120 ∷ 120 ∷ 120 ∷ 120 ∷ 120 ∷ 120 ∷ 120 ∷ 120 ∷ 120 ∷ 120 ∷ 120 ∷ 120 ∷ 120 ∷ 120 ∷ 120 ∷ 120 ∷ 120 ∷ 120 ∷ 120 ∷ 120 ∷ 120 ∷ 120 ∷ 120 ∷ 120 ∷ 120 ∷ 120 ∷ 120 ∷ 120 ∷ 120 ∷ 120 ∷ 120 ∷ 120 ∷ 120 ∷ 120 ∷ 120 ∷ 120 ∷ 120 ∷ 120 ∷ 120 ∷ 120 ∷ 120 ∷ 120 ∷ 120 ∷ 120 ∷ 120 ∷ 120 ∷ 120 ∷ 120 ∷ 120 ∷ 120 ∷ 120 ∷ 120 ∷ 120 ∷ 120 ∷ 120 ∷ 120 ∷ 120 ∷ 120 ∷ 120 ∷ 120 ∷ 120 ∷ 120 ∷ 120 ∷ 120 ∷ 120 ∷ 120 ∷ 120 ∷ 120 ∷ 120 ∷ 120 ∷ 120 ∷ 120 ∷ 120 ∷ 120 ∷ 120 ∷ 120 ∷ 120 ∷ 120 ∷ 120 ∷ 120 ∷ 120 ∷ 120 ∷ 120 ∷ 120 ∷ 120 ∷ 120 ∷ 120 ∷ 120 ∷ 120 ∷ 120 ∷ 120 ∷ 120 ∷ 120 ∷ 120 ∷ 120 ∷ 120 ∷ 120 ∷ 120 ∷ 120 ∷ 120 ∷ 120 ∷ 120 ∷ 120 ∷ 120 ∷ 120 ∷ 120 ∷ 120 ∷ 120 ∷ 120 ∷ 120 ∷ 120 ∷ 120 ∷ 120 ∷ 120 ∷ 120 ∷ 120 ∷ 120 ∷ 120 ∷ 120 ∷ 120 ∷ 120 ∷ 120 ∷ 120 ∷ 120 ∷ 120 ∷ 120 ∷ 120 ∷ 120 ∷ 120 ∷ 120 ∷ 120 ∷ 120 ∷ 120 ∷ 120 ∷ 120 ∷ 120 ∷ 120 ∷ 120 ∷ 120 ∷ 120 ∷ 120 ∷ 120 ∷ 120 ∷ 120 ∷ 120 ∷ 120 ∷ 120 ∷ 120 ∷ 120 ∷ 120 ∷ 120 ∷ 120 ∷ 120 ∷ 120 ∷ 120 ∷ 120 ∷ 120 ∷ 120 ∷ 120 ∷ 120 ∷ 120 ∷ 120 ∷ 120 ∷ 120 ∷ 120 ∷ 120 ∷ 120 ∷ 120 ∷ 120 ∷ 120 ∷ 120 ∷ 120 ∷ 120 ∷ 120 ∷ 120 ∷ 120 ∷ 120 ∷ 120 ∷ 120 ∷ 120 ∷ 120 ∷ 120 ∷ 120 ∷ 120 ∷ 120 ∷ 120 ∷ 120 ∷ 120 ∷ 120 ∷ 120 ∷ 120 ∷ 120 ∷ 120 ∷ 120 ∷ 120 ∷ 120 ∷ 120 ∷ 120 ∷ 120 ∷ 120 ∷ 120 ∷ 120 ∷ 120 ∷ []))) ∷
      mark 19 0 1 told.End ∷
      mark 20 0 1 (told.Committed 0) ∷
      mark 22 0 0 (told.Past (obj 0) (kind.Floor) 0 (kind.Number 0)) ∷
      mark 23 1 1 told.Begin ∷
      mark 24 1 1 (told.Put (obj 0) (kind.Name (110 ∷ []) (obj 16777225))) ∷
      mark 25 1 1 (told.Put (obj 0) (kind.Name (109 ∷ []) (obj 83886085))) ∷
      mark 26 1 1 told.End ∷
      mark 27 1 1 (told.Committed 1) ∷
      mark 28 0 2 told.Begin ∷
      mark 30 0 2 (told.Asked (obj 83886080) (kind.HasPath (47 ∷ 97 ∷ [])) 2 (kind.Flag false)) ∷
      mark 31 0 2 (told.Asked (obj 67108864) (kind.ItemAt 0) 2 (kind.Words (Some (98 ∷ [])))) ∷
      mark 33 0 2 (told.Asked (obj 0) (kind.Floor) 2 (kind.Number 0)) ∷
      mark 35 0 2 told.End ∷
      mark 35 0 2 (told.Committed 2) ∷
      mark 36 0 3 told.Begin ∷
      mark 37 0 3 (told.Put (obj 0) (kind.Name (99 ∷ 116 ∷ 114 ∷ 48 ∷ []) (obj 50331657))) ∷
      mark 38 0 3 told.End ∷
      mark 39 0 3 (told.Committed 2) ∷
      mark 40 2 0 (told.Hosted (obj 83886080)) ∷
      mark 41 2 0 (told.Hosted (obj 67108864)) ∷
      mark 42 2 1 told.Begin ∷
      mark 44 2 1 (told.Asked (obj 83886080) (kind.DataOf (47 ∷ 98 ∷ [])) 3 (kind.Words None)) ∷
      mark 45 2 1 (told.Asked (obj 83886080) (kind.Children (47 ∷ [])) 3 (kind.Texts ((97 ∷ 45 ∷ []) ∷ []))) ∷
      mark 47 2 1 (told.Asked (obj 67108864) (kind.Items) 3 (kind.Texts ((98 ∷ []) ∷ []))) ∷
      mark 49 2 1 (told.Asked (obj 67108864) (kind.Len) 3 (kind.Number 1)) ∷
      mark 51 2 1 (told.Asked (obj 0) (kind.Marks) 3 (kind.Marked ((obj 0, 0) ∷ (obj 16777216, 0) ∷ (obj 33554432, 0) ∷ (obj 100663296, 0) ∷ (obj 83886080, 0) ∷ (obj 67108864, 0) ∷ (obj 50331648, 0) ∷ (obj 16777225, 0) ∷ (obj 83886085, 0) ∷ []))) ∷
      mark 53 2 1 (told.Asked (obj 0) (kind.Marks) 3 (kind.Marked ((obj 0, 0) ∷ (obj 16777216, 0) ∷ (obj 33554432, 0) ∷ (obj 100663296, 0) ∷ (obj 83886080, 0) ∷ (obj 67108864, 0) ∷ (obj 50331648, 0) ∷ (obj 16777225, 0) ∷ (obj 83886085, 0) ∷ []))) ∷
      mark 55 2 1 told.End ∷
      mark 55 2 1 (told.Committed 3) ∷ [];
  dones =
      done 0 0 1 ((obj 83886080, (kind.Store (47 ∷ []) (46 ∷ []))) ∷ (obj 0, (kind.Name (99 ∷ 116 ∷ 114 ∷ 48 ∷ []) (obj 50331648))) ∷ (obj 83886080, (kind.Create (47 ∷ 97 ∷ 45 ∷ []) (99 ∷ []))) ∷ (obj 67108864, (kind.PushFront (98 ∷ []))) ∷ (obj 67108864, (kind.InsertAt 3 (120 ∷ 120 ∷ 120 ∷ 120 ∷ 120 ∷ 120 ∷ 120 ∷ 120 ∷ 120 ∷ 120 ∷ 120 ∷ 120 ∷ 120 ∷ 120 ∷ 120 ∷ 120 ∷ 120 ∷ 120 ∷ 120 ∷ 120 ∷ 120 ∷ 120 ∷ 120 ∷ 120 ∷ 120 ∷ 120 ∷ 120 ∷ 120 ∷ 120 ∷ 120 ∷ 120 ∷ 120 ∷ 120 ∷ 120 ∷ 120 ∷ 120 ∷ 120 ∷ 120 ∷ 120 ∷ 120 ∷ 120 ∷ 120 ∷ 120 ∷ 120 ∷ 120 ∷ 120 ∷ 120 ∷ 120 ∷ 120 ∷ 120 ∷ 120 ∷ 120 ∷ 120 ∷ 120 ∷ 120 ∷ 120 ∷ 120 ∷ 120 ∷ 120 ∷ 120 ∷ 120 ∷ 120 ∷ 120 ∷ 120 ∷ 120 ∷ 120 ∷ 120 ∷ 120 ∷ 120 ∷ 120 ∷ 120 ∷ 120 ∷ 120 ∷ 120 ∷ 120 ∷ 120 ∷ 120 ∷ 120 ∷ 120 ∷ 120 ∷ 120 ∷ 120 ∷ 120 ∷ 120 ∷ 120 ∷ 120 ∷ 120 ∷ 120 ∷ 120 ∷ 120 ∷ 120 ∷ 120 ∷ 120 ∷ 120 ∷ 120 ∷ 120 ∷ 120 ∷ 120 ∷ 120 ∷ 120 ∷ 120 ∷ 120 ∷ 120 ∷ 120 ∷ 120 ∷ 120 ∷ 120 ∷ 120 ∷ 120 ∷ 120 ∷ 120 ∷ 120 ∷ 120 ∷ 120 ∷ 120 ∷ 120 ∷ 120 ∷ 120 ∷ 120 ∷ 120 ∷ 120 ∷ 120 ∷ 120 ∷ 120 ∷ 120 ∷ 120 ∷ 120 ∷ 120 ∷ 120 ∷ 120 ∷ 120 ∷ 120 ∷ 120 ∷ 120 ∷ 120 ∷ 120 ∷ 120 ∷ 120 ∷ 120 ∷ 120 ∷ 120 ∷ 120 ∷ 120 ∷ 120 ∷ 120 ∷ 120 ∷ 120 ∷ 120 ∷ 120 ∷ 120 ∷ 120 ∷ 120 ∷ 120 ∷ 120 ∷ 120 ∷ 120 ∷ 120 ∷ 120 ∷ 120 ∷ 120 ∷ 120 ∷ 120 ∷ 120 ∷ 120 ∷ 120 ∷ 120 ∷ 120 ∷ 120 ∷ 120 ∷ 120 ∷ 120 ∷ 120 ∷ 120 ∷ 120 ∷ 120 ∷ 120 ∷ 120 ∷ 120 ∷ 120 ∷ 120 ∷ 120 ∷ 120 ∷ 120 ∷ 120 ∷ 120 ∷ 120 ∷ 120 ∷ 120 ∷ 120 ∷ 120 ∷ 120 ∷ 120 ∷ 120 ∷ 120 ∷ 120 ∷ 120 ∷ 120 ∷ 120 ∷ 120 ∷ 120 ∷ 120 ∷ 120 ∷ 120 ∷ 120 ∷ 120 ∷ 120 ∷ 120 ∷ 120 ∷ 120 ∷ 120 ∷ 120 ∷ 120 ∷ 120 ∷ 120 ∷ 120 ∷ 120 ∷ 120 ∷ 120 ∷ 120 ∷ 120 ∷ 120 ∷ 120 ∷ 120 ∷ 120 ∷ 120 ∷ 120 ∷ 120 ∷ 120 ∷ 120 ∷ 120 ∷ 120 ∷ 120 ∷ 120 ∷ 120 ∷ 120 ∷ 120 ∷ 120 ∷ 120 ∷ 120 ∷ 120 ∷ 120 ∷ 120 ∷ 120 ∷ 120 ∷ 120 ∷ 120 ∷ 120 ∷ 120 ∷ 120 ∷ 120 ∷ 120 ∷ 120 ∷ 120 ∷ 120 ∷ 120 ∷ 120 ∷ 120 ∷ 120 ∷ 120 ∷ 120 ∷ 120 ∷ 120 ∷ 120 ∷ 120 ∷ 120 ∷ 120 ∷ 120 ∷ 120 ∷ 120 ∷ 120 ∷ 120 ∷ 120 ∷ 120 ∷ 120 ∷ 120 ∷ 120 ∷ 120 ∷ 120 ∷ 120 ∷ 120 ∷ 120 ∷ 120 ∷ 120 ∷ 120 ∷ 120 ∷ 120 ∷ 120 ∷ 120 ∷ 120 ∷ 120 ∷ 120 ∷ 120 ∷ 120 ∷ 120 ∷ 120 ∷ 120 ∷ 120 ∷ 120 ∷ 120 ∷ 120 ∷ []))) ∷ []) ∷
      done 1 1 1 ((obj 0, (kind.Name (110 ∷ []) (obj 16777225))) ∷ (obj 0, (kind.Name (109 ∷ []) (obj 83886085))) ∷ []) ∷
      done 2 0 3 ((obj 0, (kind.Name (99 ∷ 116 ∷ 114 ∷ 48 ∷ []) (obj 50331657))) ∷ []) ∷ [];
}
unfolding u8_at u16_at u32_at u64_at raw_at fixed_at read_many spell_many fit_many marks reads writes keys new_fields old_fields body entry node_eq bytes_eq bytes_lt part_lt cell_eq chain_of units_of next_of change_fault new_unit unit_ask first_missing on_ask unit_step new_layout layout_ask on_layout_ask layout_step reply work_asks put_cell get_cell fill_cell probe work_feed cell_feed entry_size needs_decision page_of entry_of new_seqr seqr_step seqr_tick append_work_asks append_start append_feed append_again sync_work_asks sync_start sync_feed walk_on walk_start walk_feed no_versions based version_of with_change parts_of decision_in view_start view_version view_parts unknown_in changed_in verdict view_outcome step_at play_on play read_fault write_fault commit_record open_decision checkpoint bases_in load_from view_base view_bases may_forget commit_at past_at rescue_turn trim_start trim_feed copy_work_asks copy_start copy_feed reconf_work_asks reconf_start reconf_feed reconf_latest new_client entries_at copy_fault tests refusal appends syncs walked task_asks client_asks walks task_feed task_again accepts client_command client_deliver client_tick fields_size decided newest log_of entries_of members path_on path changes_below version outcome history_of start latest log history unit_moves layout_moves seqr_moves client_turned happens limit_of drain_on drain tick_all rounds settle line lines
asked_of_the_past_later = refl

abbrev pub trimmed_by_marks_header : Header
trimmed_by_marks_header = record { units = 6; layouts = 3; seqs = 1; clients = 4; limit = 30; chains = (3 ∷ []) ∷ []; objects = obj 50331648 ∷ obj 16777217 ∷ obj 33554432 ∷ [] }

abbrev pub trimmed_by_marks_script : List (Line kinds)
trimmed_by_marks_script =
    Happens (Commands 2 (cmd.Host (obj 33554432))) ∷
    Happens (Commands 3 cmd.Begin) ∷
    Happens (Commands 3 (cmd.Ask (obj 0) (kind.Marks))) ∷
    Drain ∷
    Happens (Commands 3 (cmd.Put (obj 33554432) (kind.Write (116 ∷ 50 ∷ [])))) ∷
    Happens (Commands 3 cmd.End) ∷
    Happens (Deliver 4) ∷
    Happens (Deliver 5) ∷
    Happens (Deliver 6) ∷
    Happens (Deliver 7) ∷
    Happens (Deliver 8) ∷
    Happens (Deliver 9) ∷
    Happens (Lose 10) ∷
    Update 0 (obj 33554432) (kind.Write (116 ∷ 49 ∷ [])) ∷
    Drain ∷
    Happens (Deliver 10) ∷
    Happens (Tick (client_id 3)) ∷
    Drain ∷
    Happens (Commands 3 (cmd.Checkpoint (obj 0))) ∷
    Happens (Commands 2 cmd.Begin) ∷
    Happens (Deliver 28) ∷
    Happens (Deliver 29) ∷
    Happens (Deliver 30) ∷
    Happens (Deliver 31) ∷
    Happens (Deliver 32) ∷
    Happens (Deliver 33) ∷
    Happens (Deliver 34) ∷
    Happens (Deliver 35) ∷
    Happens (Deliver 17) ∷
    Happens (Deliver 36) ∷
    Update 0 (obj 33554432) (kind.Write (116 ∷ 48 ∷ [])) ∷
    Happens (Deliver 22) ∷
    Happens (Deliver 37) ∷
    Happens (Deliver 38) ∷
    Happens (Deliver 39) ∷
    Happens (Commands 1 cmd.Begin) ∷
    Happens (Commands 3 (cmd.Host (obj 50331648))) ∷
    Happens (Commands 3 (cmd.Host (obj 16777217))) ∷
    Happens (Commands 3 (cmd.Host (obj 33554432))) ∷
    Happens (Commands 3 (cmd.Checkpoint (obj 50331648))) ∷
    Settle ∷
    Happens (Commands 3 (cmd.Checkpoint (obj 33554432))) ∷
    Settle ∷
    Happens (Commands 3 (cmd.Checkpoint (obj 16777217))) ∷
    Settle ∷
    Happens (Commands 3 (cmd.Checkpoint (obj 0))) ∷
    Settle ∷
    Happens (Commands 3 (cmd.Forget (obj 50331648) 5)) ∷
    Settle ∷
    Happens (Commands 3 (cmd.Forget (obj 33554432) 5)) ∷
    Settle ∷
    Happens (Commands 3 (cmd.Forget (obj 16777217) 7)) ∷
    Settle ∷
    Happens (Commands 3 (cmd.Forget (obj 0) 3)) ∷
    Settle ∷
    Happens (Commands 3 cmd.Trim) ∷
    Happens (Commands 0 (cmd.Decide 11)) ∷
    Settle ∷
    Happens (Commands 1 (cmd.Put (obj 33554432) (kind.Write (116 ∷ 50 ∷ [])))) ∷
    Happens (Deliver 167) ∷
    Happens (Lose 191) ∷
    Drain ∷
    Drain ∷
    Drain ∷
    Settle ∷
    Happens (Commands 0 cmd.Begin) ∷
    Happens (Commands 0 (cmd.Ask (obj 0) (kind.Marks))) ∷
    Settle ∷ []

trimmed_by_marks : shown (replay kinds trimmed_by_marks_header trimmed_by_marks_script) ≡ record {
  marks =
      mark 1 2 0 (told.Hosted (obj 33554432)) ∷
      mark 2 3 1 told.Begin ∷
      mark 4 3 1 (told.Asked (obj 0) (kind.Marks) 0 (kind.Marked ((obj 0, 0) ∷ (obj 50331648, 0) ∷ (obj 16777217, 0) ∷ (obj 33554432, 0) ∷ []))) ∷
      mark 5 3 1 (told.Put (obj 33554432) (kind.Write (116 ∷ 50 ∷ []))) ∷
      mark 6 3 1 told.End ∷
      mark 14 0 1 told.Begin ∷
      mark 14 0 1 (told.Put (obj 33554432) (kind.Write (116 ∷ 49 ∷ []))) ∷
      mark 14 0 1 told.End ∷
      mark 15 0 1 (told.Committed 1) ∷
      mark 18 3 1 (told.Committed 0) ∷
      mark 20 2 1 told.Begin ∷
      mark 28 3 0 (told.Saved (obj 0) 3 3) ∷
      mark 31 0 2 told.Begin ∷
      mark 31 0 2 (told.Put (obj 33554432) (kind.Write (116 ∷ 48 ∷ []))) ∷
      mark 31 0 2 told.End ∷
      mark 36 1 1 told.Begin ∷
      mark 37 3 0 (told.Hosted (obj 50331648)) ∷
      mark 38 3 0 (told.Hosted (obj 16777217)) ∷
      mark 39 3 0 (told.Hosted (obj 33554432)) ∷
      mark 41 0 2 (told.Committed 4) ∷
      mark 41 3 0 (told.Saved (obj 50331648) 5 5) ∷
      mark 43 3 0 (told.Saved (obj 33554432) 6 6) ∷
      mark 45 3 0 (told.Saved (obj 16777217) 7 7) ∷
      mark 47 3 0 (told.Saved (obj 0) 8 8) ∷
      mark 49 3 2 told.Begin ∷
      mark 49 3 2 (told.Put (obj 0) (kind.Mark (obj 50331648) 5)) ∷
      mark 49 3 2 told.End ∷
      mark 49 3 2 (told.Committed 9) ∷
      mark 49 3 0 (told.Marked (obj 50331648) 5) ∷
      mark 51 3 3 told.Begin ∷
      mark 51 3 3 (told.Put (obj 0) (kind.Mark (obj 33554432) 5)) ∷
      mark 51 3 3 told.End ∷
      mark 51 3 3 (told.Committed 10) ∷
      mark 51 3 0 (told.Marked (obj 33554432) 5) ∷
      mark 53 3 4 told.Begin ∷
      mark 53 3 4 (told.Put (obj 0) (kind.Mark (obj 16777217) 7)) ∷
      mark 53 3 4 told.End ∷
      mark 53 3 4 (told.Committed 11) ∷
      mark 53 3 0 (told.Marked (obj 16777217) 7) ∷
      mark 55 3 5 told.Begin ∷
      mark 55 3 5 (told.Put (obj 0) (kind.Mark (obj 0) 3)) ∷
      mark 55 3 5 told.End ∷
      mark 55 3 5 (told.Committed 12) ∷
      mark 55 3 0 (told.Marked (obj 0) 3) ∷
      mark 58 3 0 (told.Trimmed 3) ∷
      mark 58 0 0 (told.Decided 11 (Some true)) ∷
      mark 59 1 1 (told.Put (obj 33554432) (kind.Write (116 ∷ 50 ∷ []))) ∷
      mark 66 0 3 told.Begin ∷
      mark 68 0 3 (told.Asked (obj 0) (kind.Marks) 14 (kind.Marked ((obj 0, 3) ∷ (obj 50331648, 5) ∷ (obj 16777217, 7) ∷ (obj 33554432, 5) ∷ []))) ∷ [];
  dones =
      done 0 3 1 ((obj 33554432, (kind.Write (116 ∷ 50 ∷ []))) ∷ []) ∷
      done 1 0 1 ((obj 33554432, (kind.Write (116 ∷ 49 ∷ []))) ∷ []) ∷
      done 4 0 2 ((obj 33554432, (kind.Write (116 ∷ 48 ∷ []))) ∷ []) ∷
      done 9 3 2 ((obj 0, (kind.Mark (obj 50331648) 5)) ∷ []) ∷
      done 10 3 3 ((obj 0, (kind.Mark (obj 33554432) 5)) ∷ []) ∷
      done 11 3 4 ((obj 0, (kind.Mark (obj 16777217) 7)) ∷ []) ∷
      done 12 3 5 ((obj 0, (kind.Mark (obj 0) 3)) ∷ []) ∷ [];
}
unfolding u8_at u16_at u32_at u64_at raw_at fixed_at read_many spell_many fit_many marks reads writes keys new_fields old_fields body entry node_eq bytes_eq bytes_lt part_lt cell_eq chain_of units_of next_of change_fault new_unit unit_ask first_missing on_ask unit_step new_layout layout_ask on_layout_ask layout_step reply work_asks put_cell get_cell fill_cell probe work_feed cell_feed entry_size needs_decision page_of entry_of new_seqr seqr_step seqr_tick append_work_asks append_start append_feed append_again sync_work_asks sync_start sync_feed walk_on walk_start walk_feed no_versions based version_of with_change parts_of decision_in view_start view_version view_parts unknown_in changed_in verdict view_outcome step_at play_on play read_fault write_fault commit_record open_decision checkpoint bases_in load_from view_base view_bases may_forget commit_at past_at rescue_turn trim_start trim_feed copy_work_asks copy_start copy_feed reconf_work_asks reconf_start reconf_feed reconf_latest new_client entries_at copy_fault tests refusal appends syncs walked task_asks client_asks walks task_feed task_again accepts client_command client_deliver client_tick fields_size decided newest log_of entries_of members path_on path changes_below version outcome history_of start latest log history unit_moves layout_moves seqr_moves client_turned happens limit_of drain_on drain tick_all rounds settle line lines
trimmed_by_marks = refl
