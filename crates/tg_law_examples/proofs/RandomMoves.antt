-- Worked runs: the marks and the history that each gives.
use Rattle.std.proofs.Common.{◌≡◌, ℕ, List, [], ◌∷◌, refl, Some, None}
use Rattle.std.specs.Prelude.{true, false, pos, negsuc}
use Rattle.tg_base.specs.declared.fault.Many.TheVariants as many
use Rattle.tg_base.specs.declared.marks.Part.TheVariants.{All, Text, Num}
use Rattle.tg_base.specs.Clusters.{Header}
use Rattle.tg_model.specs.declared.command.Command.TheVariants as cmd
use Rattle.tg_model.specs.declared.command.Event.TheVariants.{Command as Commands, Deliver, Lose, Tick, Stop}
use Rattle.tg_model.specs.declared.command.Word.TheVariants as word
use Rattle.tg_model.specs.declared.refusal.Refusal.TheVariants as cause
use Rattle.tg_model.specs.declared.trace.What.TheVariants as told
use Rattle.tg_codec.specs.Reading.{u8_at, u16_at, u32_at, u64_at, raw_at, fixed_at}
use Rattle.tg_codec.specs.Codec.{read_many, spell_many, fit_many}
use Rattle.tg_entry.specs.Reads.{marks, reads}
use Rattle.tg_entry.specs.Writes.{writes}
use Rattle.tg_entry.specs.Checkpoints.{keys, new_fields, old_fields}
use Rattle.tg_entry.specs.Format.{body, entry}
use Rattle.tg_base.specs.Orders.{node_eq}
use Rattle.tg_protocol.specs.Words.{bytes_eq, bytes_lt, part_lt, cell_eq, unit_id, layout_id, seqr_id, client_id}
use Rattle.tg_protocol.specs.Layouts.{chain_of, units_of, next_of, change_fault}
use Rattle.tg_protocol.specs.Units.{new_unit, unit_ask, first_missing, on_ask, unit_step}
use Rattle.tg_protocol.specs.LayoutServers.{new_layout, layout_ask, on_layout_ask, layout_step}
use Rattle.tg_protocol.specs.Replies.{reply}
use Rattle.tg_protocol.specs.Cells.{work_asks, put_cell, get_cell, fill_cell, probe, work_feed, cell_feed}
use Rattle.tg_entry.specs.Needs.{needs_decision}
use Rattle.tg_protocol.specs.Entries.{entry_size}
use Rattle.tg_protocol.specs.Pages.{page_of, entry_of}
use Rattle.tg_protocol.specs.Sequencers.{new_seqr, seqr_step, seqr_tick}
use Rattle.tg_protocol.specs.Appending.{append_work_asks, append_start, append_feed, append_again}
use Rattle.tg_protocol.specs.Syncing.{sync_work_asks, sync_start, sync_feed}
use Rattle.tg_protocol.specs.Walking.{walk_on, walk_start, walk_feed}
use Rattle.tg_protocol.specs.Versions.{no_versions, based, version_of, with_change, parts_of}
use Rattle.tg_protocol.specs.Views.{decision_in, view_start, view_version, view_parts, unknown_in, changed_in, verdict, view_outcome, step_at, play_on, play}
use Rattle.tg_protocol.specs.Transactions.{read_fault, write_fault, commit_record}
use Rattle.tg_protocol.specs.Checkpoints.{open_decision, checkpoint, bases_in, load_from, view_base, view_bases, may_forget}
use Rattle.tg_protocol.specs.Past.{commit_at, past_at, rescue_turn}
use Rattle.tg_protocol.specs.Trimming.{trim_start, trim_feed, copy_work_asks, copy_start, copy_feed}
use Rattle.tg_protocol.specs.Reconfiguring.{reconf_work_asks, reconf_start, reconf_feed, reconf_latest}
use Rattle.tg_protocol.specs.Clients.{new_client, entries_at, copy_fault, tests, refusal}
use Rattle.tg_protocol.specs.Answers.{appends, syncs, walked}
use Rattle.tg_protocol.specs.ClientSteps.{task_asks, client_asks, walks, task_feed, task_again, accepts, client_command, client_deliver, client_tick}
use Rattle.tg_protocol.specs.Sizes.{fields_size}
use Rattle.tg_protocol.specs.Logs.{decided, newest, log_of, entries_of, members, path_on, path, changes_below, version, outcome, history_of}
use Rattle.tg_protocol.specs.Worlds.{start, latest, log, history, unit_moves, layout_moves, seqr_moves, client_turned, happens, limit_of, drain_on, drain, tick_all, rounds, settle, line, lines, Line, Happens, Update, Drain, Settle, replay}
use Rattle.tg_law_examples.proofs.SevenKinds.{kinds}
use Rattle.tg_law_examples.proofs.SevenKinds as kind
use Rattle.tg_law_examples.proofs.Shown.{Shown, shown, obj, mark, done}

abbrev pub forgotten_record_header : Header
forgotten_record_header = record { units = 2; layouts = 1; seqs = 4; clients = 5; limit = 300; chains = (0 ∷ 1 ∷ []) ∷ []; objects = obj 50331648 ∷ obj 16777216 ∷ [] }

abbrev pub forgotten_record_script : List (Line kinds)
forgotten_record_script =
    Happens (Commands 0 (cmd.Host (obj 50331648))) ∷
    Happens (Commands 1 (cmd.Host (obj 50331648))) ∷
    Happens (Commands 1 (cmd.Host (obj 16777216))) ∷
    Happens (Commands 3 (cmd.Host (obj 50331648))) ∷
    Happens (Commands 3 (cmd.Host (obj 16777216))) ∷
    Happens (Commands 4 (cmd.Host (obj 50331648))) ∷
    Happens (Commands 4 (cmd.Host (obj 16777216))) ∷
    Happens (Commands 0 cmd.Begin) ∷
    Happens (Commands 0 (cmd.Ask (obj 50331648) (kind.Get (97 ∷ [])))) ∷
    Settle ∷
    Happens (Commands 0 (cmd.Put (obj 50331648) (kind.Set (97 ∷ []) (120 ∷ [])))) ∷
    Happens (Commands 0 cmd.End) ∷
    Settle ∷
    Update 0 (obj 50331648) (kind.Unset (97 ∷ [])) ∷
    Settle ∷
    Happens (Commands 1 (cmd.Checkpoint (obj 50331648))) ∷
    Settle ∷
    Happens (Commands 1 (cmd.Checkpoint (obj 16777216))) ∷
    Settle ∷
    Happens (Commands 1 (cmd.Checkpoint (obj 0))) ∷
    Settle ∷
    Happens (Commands 1 (cmd.Forget (obj 50331648) 2)) ∷
    Settle ∷
    Happens (Commands 1 (cmd.Forget (obj 16777216) 2)) ∷
    Settle ∷
    Happens (Commands 1 (cmd.Forget (obj 0) 2)) ∷
    Settle ∷
    Happens (Commands 1 cmd.Trim) ∷
    Happens (Deliver 126) ∷
    Happens (Deliver 127) ∷
    Happens (Deliver 128) ∷
    Happens (Deliver 129) ∷
    Happens (Deliver 130) ∷
    Happens (Deliver 131) ∷
    Happens (Deliver 132) ∷
    Happens (Deliver 133) ∷
    Happens (Deliver 134) ∷
    Happens (Deliver 135) ∷
    Happens (Commands 4 (cmd.Reconf (record { seq = 3; drop = 0 ∷ []; opened = []; join = None }))) ∷
    Settle ∷
    Happens (Commands 3 (cmd.Fate 6)) ∷
    Settle ∷
    Happens (Commands 3 (cmd.Fate 7)) ∷
    Settle ∷
    Happens (Commands 3 (cmd.Decide 5)) ∷
    Settle ∷
    Happens (Commands 3 (cmd.Fate 8)) ∷
    Settle ∷
    Happens (Commands 3 (cmd.Fate 2)) ∷
    Settle ∷
    Happens (Commands 3 (cmd.Fate 1)) ∷
    Settle ∷
    Happens (Commands 2 (cmd.Decide 4)) ∷
    Settle ∷
    Happens (Commands 2 (cmd.Decide 1)) ∷
    Settle ∷
    Happens (Commands 2 (cmd.Fate 3)) ∷
    Settle ∷
    Happens (Commands 2 (cmd.Fate 8)) ∷
    Settle ∷
    Happens (Commands 2 (cmd.Decide 0)) ∷
    Settle ∷
    Happens (Commands 2 (cmd.Decide 6)) ∷
    Settle ∷
    Settle ∷
    Happens (Commands 2 (cmd.Decide 3)) ∷
    Settle ∷
    Happens (Commands 2 (cmd.Fate 4)) ∷
    Settle ∷ []

forgotten_record : shown (replay kinds forgotten_record_header forgotten_record_script) ≡ record {
  marks =
      mark 1 0 0 (told.Hosted (obj 50331648)) ∷
      mark 2 1 0 (told.Hosted (obj 50331648)) ∷
      mark 3 1 0 (told.Hosted (obj 16777216)) ∷
      mark 4 3 0 (told.Hosted (obj 50331648)) ∷
      mark 5 3 0 (told.Hosted (obj 16777216)) ∷
      mark 6 4 0 (told.Hosted (obj 50331648)) ∷
      mark 7 4 0 (told.Hosted (obj 16777216)) ∷
      mark 8 0 1 told.Begin ∷
      mark 10 0 1 (told.Asked (obj 50331648) (kind.Get (97 ∷ [])) 0 (kind.Words None)) ∷
      mark 11 0 1 (told.Put (obj 50331648) (kind.Set (97 ∷ []) (120 ∷ []))) ∷
      mark 12 0 1 told.End ∷
      mark 13 0 1 (told.Committed 0) ∷
      mark 14 0 2 told.Begin ∷
      mark 14 0 2 (told.Put (obj 50331648) (kind.Unset (97 ∷ []))) ∷
      mark 14 0 2 told.End ∷
      mark 15 0 2 (told.Committed 1) ∷
      mark 17 1 0 (told.Saved (obj 50331648) 2 2) ∷
      mark 19 1 0 (told.Saved (obj 16777216) 3 3) ∷
      mark 21 1 0 (told.Saved (obj 0) 4 4) ∷
      mark 23 1 1 told.Begin ∷
      mark 23 1 1 (told.Put (obj 0) (kind.Mark (obj 50331648) 2)) ∷
      mark 23 1 1 told.End ∷
      mark 23 1 1 (told.Committed 5) ∷
      mark 23 1 0 (told.Marked (obj 50331648) 2) ∷
      mark 25 1 2 told.Begin ∷
      mark 25 1 2 (told.Put (obj 0) (kind.Mark (obj 16777216) 2)) ∷
      mark 25 1 2 told.End ∷
      mark 25 1 2 (told.Committed 6) ∷
      mark 25 1 0 (told.Marked (obj 16777216) 2) ∷
      mark 27 1 3 told.Begin ∷
      mark 27 1 3 (told.Put (obj 0) (kind.Mark (obj 0) 2)) ∷
      mark 27 1 3 told.End ∷
      mark 27 1 3 (told.Committed 7) ∷
      mark 27 1 0 (told.Marked (obj 0) 2) ∷
      mark 38 1 0 (told.Trimmed 2) ∷
      mark 40 4 0 (told.Installed 2) ∷
      mark 42 3 0 (told.Fate 6 (Some true)) ∷
      mark 44 3 0 (told.Fate 7 (Some true)) ∷
      mark 46 3 0 (told.Decided 5 (Some true)) ∷
      mark 48 3 0 (told.Fate 8 None) ∷
      mark 50 3 0 (told.Fate 2 None) ∷
      mark 52 3 0 (told.Refused (cause.Forgotten 1 2)) ∷
      mark 54 2 0 (told.Decided 4 None) ∷
      mark 56 2 0 (told.Decided 1 None) ∷
      mark 58 2 0 (told.Fate 3 None) ∷
      mark 60 2 0 (told.Fate 8 None) ∷
      mark 62 2 0 (told.Decided 0 None) ∷
      mark 64 2 0 (told.Decided 6 (Some true)) ∷
      mark 67 2 0 (told.Decided 3 None) ∷
      mark 69 2 0 (told.Fate 4 None) ∷ [];
  dones =
      done 0 0 1 ((obj 50331648, (kind.Set (97 ∷ []) (120 ∷ []))) ∷ []) ∷
      done 1 0 2 ((obj 50331648, (kind.Unset (97 ∷ []))) ∷ []) ∷
      done 5 1 1 ((obj 0, (kind.Mark (obj 50331648) 2)) ∷ []) ∷
      done 6 1 2 ((obj 0, (kind.Mark (obj 16777216) 2)) ∷ []) ∷
      done 7 1 3 ((obj 0, (kind.Mark (obj 0) 2)) ∷ []) ∷ [];
}
unfolding u8_at u16_at u32_at u64_at raw_at fixed_at read_many spell_many fit_many marks reads writes keys new_fields old_fields body entry node_eq bytes_eq bytes_lt part_lt cell_eq chain_of units_of next_of change_fault new_unit unit_ask first_missing on_ask unit_step new_layout layout_ask on_layout_ask layout_step reply work_asks put_cell get_cell fill_cell probe work_feed cell_feed entry_size needs_decision page_of entry_of new_seqr seqr_step seqr_tick append_work_asks append_start append_feed append_again sync_work_asks sync_start sync_feed walk_on walk_start walk_feed no_versions based version_of with_change parts_of decision_in view_start view_version view_parts unknown_in changed_in verdict view_outcome step_at play_on play read_fault write_fault commit_record open_decision checkpoint bases_in load_from view_base view_bases may_forget commit_at past_at rescue_turn trim_start trim_feed copy_work_asks copy_start copy_feed reconf_work_asks reconf_start reconf_feed reconf_latest new_client entries_at copy_fault tests refusal appends syncs walked task_asks client_asks walks task_feed task_again accepts client_command client_deliver client_tick fields_size decided newest log_of entries_of members path_on path changes_below version outcome history_of start latest log history unit_moves layout_moves seqr_moves client_turned happens limit_of drain_on drain tick_all rounds settle line lines
forgotten_record = refl

abbrev pub unsure_record_header : Header
unsure_record_header = record { units = 4; layouts = 3; seqs = 1; clients = 3; limit = 40; chains = (0 ∷ []) ∷ []; objects = obj 16777217 ∷ obj 83886080 ∷ obj 33554432 ∷ [] }

abbrev pub unsure_record_script : List (Line kinds)
unsure_record_script =
    Happens (Commands 0 (cmd.Host (obj 83886080))) ∷
    Happens (Commands 0 (cmd.Host (obj 33554432))) ∷
    Happens (Commands 0 (cmd.Host (obj 0))) ∷
    Happens (Commands 1 (cmd.Host (obj 33554432))) ∷
    Happens (Commands 2 (cmd.Host (obj 83886080))) ∷
    Happens (Commands 2 (cmd.Host (obj 33554432))) ∷
    Happens (Commands 1 (cmd.Host (obj 16777217))) ∷
    Happens (Tick (client_id 1)) ∷
    Happens (Tick (client_id 0)) ∷
    Happens (Tick (layout_id 1)) ∷
    Happens (Tick (client_id 2)) ∷
    Happens (Tick (layout_id 1)) ∷
    Happens (Commands 2 (cmd.AskAt 1 (obj 16777217) (kind.Value))) ∷
    Happens (Tick (unit_id 0)) ∷
    Happens (Commands 1 (cmd.Reconf (record { seq = 0; drop = []; opened = []; join = None }))) ∷
    Happens (Deliver 0) ∷
    Drain ∷
    Happens (Tick (layout_id 2)) ∷
    Happens (Deliver 2) ∷
    Happens (Deliver 22) ∷
    Happens (Tick (layout_id 2)) ∷
    Happens (Deliver 19) ∷
    Happens (Deliver 3) ∷
    Happens (Commands 0 cmd.Begin) ∷
    Happens (Commands 0 (cmd.Ask (obj 33554432) (kind.TextOf))) ∷
    Drain ∷
    Happens (Commands 0 (cmd.Ask (obj 83886080) (kind.DataOf (47 ∷ 107 ∷ 49 ∷ [])))) ∷
    Drain ∷
    Happens (Commands 1 cmd.Begin) ∷
    Happens (Commands 1 (cmd.Ask (obj 33554432) (kind.TextOf))) ∷
    Drain ∷
    Happens (Commands 1 (cmd.Ask (obj 33554432) (kind.TextOf))) ∷
    Drain ∷
    Happens (Commands 0 (cmd.Put (obj 33554432) (kind.Write (116 ∷ 51 ∷ [])))) ∷
    Happens (Commands 1 (cmd.Put (obj 16777217) (kind.Add (pos 1)))) ∷
    Happens (Commands 1 (cmd.Put (obj 16777217) (kind.Add (negsuc 0)))) ∷
    Happens (Commands 0 cmd.End) ∷
    Happens (Commands 1 cmd.End) ∷
    Happens (Commands 1 cmd.End) ∷
    Happens (Deliver 40) ∷
    Happens (Deliver 42) ∷
    Happens (Commands 0 (cmd.Ask (obj 33554432) (kind.TextOf))) ∷
    Happens (Commands 2 (cmd.Fate 0)) ∷
    Happens (Commands 1 (cmd.Put (obj 33554432) (kind.Write (116 ∷ 52 ∷ [])))) ∷
    Happens (Commands 1 cmd.End) ∷
    Drain ∷
    Happens (Deliver 40) ∷
    Happens (Commands 0 cmd.Begin) ∷
    Happens (Tick (unit_id 2)) ∷
    Happens (Deliver 76) ∷
    Happens (Deliver 41) ∷
    Happens (Deliver 43) ∷
    Happens (Commands 0 cmd.End) ∷
    Happens (Tick (client_id 0)) ∷
    Happens (Commands 0 (cmd.Checkpoint (obj 33554432))) ∷
    Update 2 (obj 33554432) (kind.Write (116 ∷ 54 ∷ [])) ∷
    Happens (Commands 0 (cmd.Host (obj 16777217))) ∷
    Happens (Tick (layout_id 0)) ∷
    Happens (Deliver 77) ∷
    Settle ∷
    Drain ∷
    Update 0 (obj 16777217) (kind.Add (negsuc 2)) ∷
    Happens (Deliver 95) ∷
    Happens (Deliver 96) ∷
    Happens (Lose 97) ∷
    Settle ∷ []

unsure_record : shown (replay kinds unsure_record_header unsure_record_script) ≡ record {
  marks =
      mark 1 0 0 (told.Hosted (obj 83886080)) ∷
      mark 2 0 0 (told.Hosted (obj 33554432)) ∷
      mark 3 0 0 (told.Hosted (obj 0)) ∷
      mark 4 1 0 (told.Hosted (obj 33554432)) ∷
      mark 5 2 0 (told.Hosted (obj 83886080)) ∷
      mark 6 2 0 (told.Hosted (obj 33554432)) ∷
      mark 7 1 0 (told.Hosted (obj 16777217)) ∷
      mark 13 2 0 (told.Refused (cause.NotHosted (obj 16777217))) ∷
      mark 17 1 0 (told.Installed 2) ∷
      mark 24 0 1 told.Begin ∷
      mark 26 0 1 (told.Asked (obj 33554432) (kind.TextOf) 0 (kind.Words None)) ∷
      mark 27 0 1 (told.Asked (obj 83886080) (kind.DataOf (47 ∷ 107 ∷ 49 ∷ [])) 0 (kind.Words None)) ∷
      mark 29 1 1 told.Begin ∷
      mark 31 1 1 (told.Asked (obj 33554432) (kind.TextOf) 0 (kind.Words None)) ∷
      mark 32 1 1 (told.Asked (obj 33554432) (kind.TextOf) 0 (kind.Words None)) ∷
      mark 34 0 1 (told.Put (obj 33554432) (kind.Write (116 ∷ 51 ∷ []))) ∷
      mark 35 1 1 (told.Put (obj 16777217) (kind.Add (pos 1))) ∷
      mark 36 1 1 (told.Put (obj 16777217) (kind.Add (negsuc 0))) ∷
      mark 37 0 1 told.End ∷
      mark 38 1 1 told.End ∷
      mark 39 1 0 (told.Refused (cause.Busy word.End)) ∷
      mark 42 0 0 (told.Refused (cause.Busy word.End)) ∷
      mark 44 1 0 (told.Refused (cause.Busy word.End)) ∷
      mark 45 1 0 (told.Refused (cause.Busy word.End)) ∷
      mark 46 1 1 (told.Unsure 1 0) ∷
      mark 46 0 1 (told.Committed 0) ∷
      mark 46 2 0 (told.Fate 0 (Some true)) ∷
      mark 48 0 2 told.Begin ∷
      mark 53 0 2 told.End ∷
      mark 53 0 2 (told.Committed 0) ∷
      mark 56 2 1 told.Begin ∷
      mark 56 2 1 (told.Put (obj 33554432) (kind.Write (116 ∷ 54 ∷ []))) ∷
      mark 56 2 1 told.End ∷
      mark 57 0 0 (told.Refused (cause.Busy word.Checkpoint)) ∷
      mark 60 2 1 (told.Committed 5) ∷
      mark 60 0 0 (told.Saved (obj 33554432) 6 5) ∷
      mark 62 0 3 told.Begin ∷
      mark 62 0 3 (told.Put (obj 16777217) (kind.Add (negsuc 2))) ∷
      mark 62 0 3 told.End ∷
      mark 66 0 3 (told.Committed 7) ∷ [];
  dones =
      done 0 0 1 ((obj 33554432, (kind.Write (116 ∷ 51 ∷ []))) ∷ []) ∷
      done 5 2 1 ((obj 33554432, (kind.Write (116 ∷ 54 ∷ []))) ∷ []) ∷
      done 7 0 3 ((obj 16777217, (kind.Add (negsuc 2))) ∷ []) ∷ [];
}
unfolding u8_at u16_at u32_at u64_at raw_at fixed_at read_many spell_many fit_many marks reads writes keys new_fields old_fields body entry node_eq bytes_eq bytes_lt part_lt cell_eq chain_of units_of next_of change_fault new_unit unit_ask first_missing on_ask unit_step new_layout layout_ask on_layout_ask layout_step reply work_asks put_cell get_cell fill_cell probe work_feed cell_feed entry_size needs_decision page_of entry_of new_seqr seqr_step seqr_tick append_work_asks append_start append_feed append_again sync_work_asks sync_start sync_feed walk_on walk_start walk_feed no_versions based version_of with_change parts_of decision_in view_start view_version view_parts unknown_in changed_in verdict view_outcome step_at play_on play read_fault write_fault commit_record open_decision checkpoint bases_in load_from view_base view_bases may_forget commit_at past_at rescue_turn trim_start trim_feed copy_work_asks copy_start copy_feed reconf_work_asks reconf_start reconf_feed reconf_latest new_client entries_at copy_fault tests refusal appends syncs walked task_asks client_asks walks task_feed task_again accepts client_command client_deliver client_tick fields_size decided newest log_of entries_of members path_on path changes_below version outcome history_of start latest log history unit_moves layout_moves seqr_moves client_turned happens limit_of drain_on drain tick_all rounds settle line lines
unsure_record = refl

abbrev pub aborted_read_header : Header
aborted_read_header = record { units = 1; layouts = 3; seqs = 1; clients = 5; limit = 100; chains = (0 ∷ []) ∷ []; objects = obj 16777216 ∷ obj 50331648 ∷ obj 16777217 ∷ [] }

abbrev pub aborted_read_script : List (Line kinds)
aborted_read_script =
    Happens (Commands 0 cmd.Begin) ∷
    Happens (Commands 3 (cmd.Host (obj 50331648))) ∷
    Happens (Commands 1 (cmd.Host (obj 16777216))) ∷
    Happens (Commands 1 cmd.Begin) ∷
    Happens (Commands 1 (cmd.Ask (obj 16777216) (kind.Value))) ∷
    Drain ∷
    Happens (Commands 1 (cmd.Put (obj 50331648) (kind.Set (97 ∷ []) (118 ∷ 50 ∷ [])))) ∷
    Update 4 (obj 16777216) (kind.Add (pos 6)) ∷
    Drain ∷
    Happens (Commands 1 cmd.End) ∷
    Happens (Deliver 8) ∷
    Happens (Deliver 9) ∷
    Happens (Deliver 10) ∷
    Happens (Commands 3 (cmd.Rescue 0)) ∷
    Happens (Deliver 12) ∷
    Happens (Deliver 13) ∷
    Happens (Deliver 14) ∷
    Happens (Deliver 15) ∷
    Happens (Commands 2 (cmd.Rescue 1)) ∷
    Settle ∷
    Happens (Commands 2 (cmd.Rescue 1)) ∷
    Settle ∷
    Happens (Commands 4 (cmd.Reconf (record { seq = 0; drop = []; opened = []; join = Some (record { unit = 0; range = 0; stripe = 0 }) }))) ∷
    Happens (Deliver 19) ∷
    Happens (Deliver 27) ∷
    Happens (Commands 4 (cmd.Fate 1)) ∷
    Happens (Deliver 34) ∷
    Happens (Deliver 35) ∷
    Happens (Commands 2 (cmd.Rescue 1)) ∷
    Happens (Deliver 32) ∷
    Happens (Commands 1 (cmd.Decide 1)) ∷
    Happens (Lose 39) ∷
    Happens (Deliver 36) ∷
    Happens (Deliver 37) ∷
    Happens (Deliver 38) ∷
    Happens (Deliver 40) ∷
    Happens (Deliver 29) ∷
    Happens (Deliver 3) ∷
    Happens (Deliver 41) ∷
    Happens (Deliver 27) ∷
    Happens (Commands 0 cmd.End) ∷
    Happens (Deliver 42) ∷
    Happens (Deliver 43) ∷
    Drain ∷
    Settle ∷
    Happens (Commands 3 (cmd.Fate 1)) ∷
    Happens (Deliver 60) ∷
    Happens (Deliver 61) ∷
    Happens (Lose 62) ∷
    Drain ∷
    Settle ∷
    Happens (Commands 4 (cmd.Fate 1)) ∷
    Happens (Deliver 73) ∷
    Happens (Deliver 74) ∷
    Happens (Deliver 75) ∷
    Happens (Deliver 76) ∷
    Drain ∷
    Settle ∷
    Happens (Commands 4 cmd.Begin) ∷
    Happens (Commands 4 (cmd.Ask (obj 0) (kind.Find (110 ∷ 49 ∷ [])))) ∷
    Settle ∷ []

aborted_read : shown (replay kinds aborted_read_header aborted_read_script) ≡ record {
  marks =
      mark 1 0 1 told.Begin ∷
      mark 2 3 0 (told.Hosted (obj 50331648)) ∷
      mark 3 1 0 (told.Hosted (obj 16777216)) ∷
      mark 4 1 1 told.Begin ∷
      mark 6 1 1 (told.Asked (obj 16777216) (kind.Value) 0 (kind.Signed (pos 0))) ∷
      mark 7 1 1 (told.Put (obj 50331648) (kind.Set (97 ∷ []) (118 ∷ 50 ∷ []))) ∷
      mark 8 4 1 told.Begin ∷
      mark 8 4 1 (told.Put (obj 16777216) (kind.Add (pos 6))) ∷
      mark 8 4 1 told.End ∷
      mark 9 4 1 (told.Committed 0) ∷
      mark 10 1 1 told.End ∷
      mark 18 3 0 (told.Rescued 0 None) ∷
      mark 20 2 0 (told.Rescued 1 None) ∷
      mark 20 1 1 (told.Aborted 1 (obj 16777216) All 0 1) ∷
      mark 22 2 0 (told.Rescued 1 None) ∷
      mark 23 4 0 (told.Refused (cause.NotClosed 0)) ∷
      mark 36 4 0 (told.Fate 1 None) ∷
      mark 41 0 1 told.End ∷
      mark 41 0 1 (told.Committed 0) ∷
      mark 43 2 0 (told.Rescued 1 None) ∷
      mark 45 1 0 (told.Decided 1 (Some false)) ∷
      mark 51 3 0 (told.Fate 1 (Some false)) ∷
      mark 56 4 0 (told.Fate 1 None) ∷
      mark 59 4 2 told.Begin ∷
      mark 61 4 2 (told.Asked (obj 0) (kind.Find (110 ∷ 49 ∷ [])) 4 (kind.Object None)) ∷ [];
  dones =
      done 0 4 1 ((obj 16777216, (kind.Add (pos 6))) ∷ []) ∷ [];
}
unfolding u8_at u16_at u32_at u64_at raw_at fixed_at read_many spell_many fit_many marks reads writes keys new_fields old_fields body entry node_eq bytes_eq bytes_lt part_lt cell_eq chain_of units_of next_of change_fault new_unit unit_ask first_missing on_ask unit_step new_layout layout_ask on_layout_ask layout_step reply work_asks put_cell get_cell fill_cell probe work_feed cell_feed entry_size needs_decision page_of entry_of new_seqr seqr_step seqr_tick append_work_asks append_start append_feed append_again sync_work_asks sync_start sync_feed walk_on walk_start walk_feed no_versions based version_of with_change parts_of decision_in view_start view_version view_parts unknown_in changed_in verdict view_outcome step_at play_on play read_fault write_fault commit_record open_decision checkpoint bases_in load_from view_base view_bases may_forget commit_at past_at rescue_turn trim_start trim_feed copy_work_asks copy_start copy_feed reconf_work_asks reconf_start reconf_feed reconf_latest new_client entries_at copy_fault tests refusal appends syncs walked task_asks client_asks walks task_feed task_again accepts client_command client_deliver client_tick fields_size decided newest log_of entries_of members path_on path changes_below version outcome history_of start latest log history unit_moves layout_moves seqr_moves client_turned happens limit_of drain_on drain tick_all rounds settle line lines
aborted_read = refl

abbrev pub copied_and_joined_header : Header
copied_and_joined_header = record { units = 4; layouts = 7; seqs = 3; clients = 2; limit = 12; chains = (0 ∷ []) ∷ (1 ∷ []) ∷ (2 ∷ 3 ∷ []) ∷ []; objects = obj 83886080 ∷ obj 33554432 ∷ obj 16777217 ∷ obj 100663296 ∷ [] }

abbrev pub copied_and_joined_script : List (Line kinds)
copied_and_joined_script =
    Happens (Commands 0 (cmd.Host (obj 33554432))) ∷
    Happens (Commands 0 (cmd.Host (obj 100663296))) ∷
    Happens (Commands 0 (cmd.Host (obj 0))) ∷
    Happens (Commands 1 (cmd.Host (obj 33554432))) ∷
    Happens (Commands 1 (cmd.Host (obj 100663296))) ∷
    Happens (Commands 0 (cmd.Reconf (record { seq = 2; drop = 1 ∷ []; opened = []; join = None }))) ∷
    Happens (Tick (layout_id 6)) ∷
    Happens (Tick (layout_id 0)) ∷
    Happens (Tick (seqr_id 2)) ∷
    Settle ∷
    Happens (Commands 0 (cmd.Reconf (record { seq = 2; drop = []; opened = (0 ∷ []) ∷ (1 ∷ []) ∷ (2 ∷ 3 ∷ []) ∷ []; join = None }))) ∷
    Happens (Deliver 0) ∷
    Happens (Deliver 1) ∷
    Happens (Commands 0 (cmd.Forget (obj 100663296) 1)) ∷
    Happens (Tick (unit_id 2)) ∷
    Happens (Commands 0 (cmd.Checkpoint (obj 0))) ∷
    Happens (Deliver 5) ∷
    Happens (Deliver 4) ∷
    Drain ∷
    Happens (Deliver 47) ∷
    Happens (Deliver 43) ∷
    Drain ∷
    Update 0 (obj 83886080) (kind.Delete (47 ∷ 107 ∷ 49 ∷ [])) ∷
    Happens (Deliver 52) ∷
    Happens (Tick (layout_id 0)) ∷
    Happens (Deliver 53) ∷
    Happens (Deliver 54) ∷
    Happens (Tick (seqr_id 2)) ∷
    Drain ∷
    Happens (Deliver 27) ∷
    Happens (Deliver 56) ∷
    Happens (Deliver 19) ∷
    Drain ∷
    Happens (Commands 0 (cmd.Host (obj 100663296))) ∷
    Happens (Commands 1 (cmd.Host (obj 16777217))) ∷
    Happens (Commands 1 (cmd.Host (obj 83886080))) ∷
    Happens (Deliver 35) ∷
    Happens (Deliver 50) ∷
    Happens (Deliver 57) ∷
    Update 1 (obj 33554432) (kind.Write (116 ∷ 56 ∷ [])) ∷
    Settle ∷
    Happens (Commands 1 (cmd.Host (obj 100663296))) ∷
    Drain ∷
    Happens (Commands 1 (cmd.Host (obj 16777217))) ∷
    Drain ∷
    Happens (Commands 1 (cmd.Host (obj 33554432))) ∷
    Settle ∷
    Happens (Commands 1 (cmd.Host (obj 83886080))) ∷
    Settle ∷
    Happens (Commands 1 (cmd.Host (obj 0))) ∷
    Happens (Deliver 44) ∷
    Happens (Deliver 71) ∷
    Happens (Deliver 54) ∷
    Happens (Deliver 80) ∷
    Happens (Commands 1 (cmd.Checkpoint (obj 100663296))) ∷
    Settle ∷
    Happens (Commands 1 (cmd.Checkpoint (obj 16777217))) ∷
    Settle ∷
    Happens (Commands 1 (cmd.Checkpoint (obj 33554432))) ∷
    Settle ∷
    Happens (Commands 1 (cmd.Checkpoint (obj 83886080))) ∷
    Settle ∷
    Happens (Commands 1 (cmd.Checkpoint (obj 0))) ∷
    Happens (Tick (layout_id 2)) ∷
    Happens (Deliver 121) ∷
    Happens (Deliver 122) ∷
    Happens (Deliver 123) ∷
    Happens (Deliver 124) ∷
    Happens (Deliver 125) ∷
    Happens (Deliver 108) ∷
    Happens (Deliver 126) ∷
    Happens (Commands 1 (cmd.Forget (obj 100663296) 2)) ∷
    Drain ∷
    Happens (Commands 1 (cmd.Forget (obj 16777217) 2)) ∷
    Settle ∷
    Happens (Commands 1 (cmd.Forget (obj 33554432) 2)) ∷
    Drain ∷
    Happens (Commands 1 (cmd.Forget (obj 83886080) 2)) ∷
    Settle ∷
    Happens (Commands 1 (cmd.Forget (obj 0) 2)) ∷
    Settle ∷
    Happens (Commands 0 (cmd.Copy 0 0 2)) ∷
    Drain ∷
    Happens (Commands 0 (cmd.Reconf (record { seq = 2; drop = []; opened = []; join = Some (record { unit = 0; range = 0; stripe = 2 }) }))) ∷
    Settle ∷
    Drain ∷
    Happens (Deliver 281) ∷
    Settle ∷
    Drain ∷
    Happens (Commands 0 (cmd.Rescue 4)) ∷
    Happens (Lose 314) ∷
    Settle ∷ []

copied_and_joined : shown (replay kinds copied_and_joined_header copied_and_joined_script) ≡ record {
  marks =
      mark 1 0 0 (told.Hosted (obj 33554432)) ∷
      mark 2 0 0 (told.Hosted (obj 100663296)) ∷
      mark 3 0 0 (told.Hosted (obj 0)) ∷
      mark 4 1 0 (told.Hosted (obj 33554432)) ∷
      mark 5 1 0 (told.Hosted (obj 100663296)) ∷
      mark 6 0 0 (told.Refused (cause.NoReplica 0 1)) ∷
      mark 14 0 0 (told.Refused (cause.Busy word.Reconf)) ∷
      mark 16 0 0 (told.Refused (cause.Busy word.Reconf)) ∷
      mark 19 0 0 (told.Installed 2) ∷
      mark 23 0 1 told.Begin ∷
      mark 23 0 1 (told.Put (obj 83886080) (kind.Delete (47 ∷ 107 ∷ 49 ∷ []))) ∷
      mark 23 0 1 told.End ∷
      mark 29 0 1 (told.Committed 0) ∷
      mark 34 0 0 (told.Hosted (obj 100663296)) ∷
      mark 35 1 0 (told.Hosted (obj 16777217)) ∷
      mark 36 1 0 (told.Hosted (obj 83886080)) ∷
      mark 40 1 1 told.Begin ∷
      mark 40 1 1 (told.Put (obj 33554432) (kind.Write (116 ∷ 56 ∷ []))) ∷
      mark 40 1 1 told.End ∷
      mark 41 1 1 (told.Committed 1) ∷
      mark 42 1 0 (told.Hosted (obj 100663296)) ∷
      mark 44 1 0 (told.Hosted (obj 16777217)) ∷
      mark 46 1 0 (told.Hosted (obj 33554432)) ∷
      mark 48 1 0 (told.Hosted (obj 83886080)) ∷
      mark 50 1 0 (told.Hosted (obj 0)) ∷
      mark 56 1 0 (told.Saved (obj 100663296) 2 2) ∷
      mark 58 1 0 (told.Saved (obj 16777217) 3 3) ∷
      mark 60 1 0 (told.Saved (obj 33554432) 4 4) ∷
      mark 62 1 0 (told.Saved (obj 83886080) 5 5) ∷
      mark 72 1 0 (told.Refused (cause.Busy word.Checkpoint)) ∷
      mark 73 1 0 (told.Saved (obj 0) 6 6) ∷
      mark 75 1 2 told.Begin ∷
      mark 75 1 2 (told.Put (obj 0) (kind.Mark (obj 16777217) 2)) ∷
      mark 75 1 2 told.End ∷
      mark 75 1 2 (told.Committed 7) ∷
      mark 75 1 0 (told.Marked (obj 16777217) 2) ∷
      mark 77 1 3 told.Begin ∷
      mark 77 1 3 (told.Put (obj 0) (kind.Mark (obj 33554432) 2)) ∷
      mark 77 1 3 told.End ∷
      mark 77 1 3 (told.Committed 8) ∷
      mark 77 1 0 (told.Marked (obj 33554432) 2) ∷
      mark 79 1 4 told.Begin ∷
      mark 79 1 4 (told.Put (obj 0) (kind.Mark (obj 83886080) 2)) ∷
      mark 79 1 4 told.End ∷
      mark 79 1 4 (told.Committed 9) ∷
      mark 79 1 0 (told.Marked (obj 83886080) 2) ∷
      mark 81 1 5 told.Begin ∷
      mark 81 1 5 (told.Put (obj 0) (kind.Mark (obj 0) 2)) ∷
      mark 81 1 5 told.End ∷
      mark 81 1 5 (told.Committed 10) ∷
      mark 81 1 0 (told.Marked (obj 0) 2) ∷
      mark 83 0 0 (told.Copied 0 0 2) ∷
      mark 85 0 0 (told.Installed 3) ∷
      mark 92 0 0 (told.Rescued 4 None) ∷ [];
  dones =
      done 0 0 1 ((obj 83886080, (kind.Delete (47 ∷ 107 ∷ 49 ∷ []))) ∷ []) ∷
      done 1 1 1 ((obj 33554432, (kind.Write (116 ∷ 56 ∷ []))) ∷ []) ∷
      done 7 1 2 ((obj 0, (kind.Mark (obj 16777217) 2)) ∷ []) ∷
      done 8 1 3 ((obj 0, (kind.Mark (obj 33554432) 2)) ∷ []) ∷
      done 9 1 4 ((obj 0, (kind.Mark (obj 83886080) 2)) ∷ []) ∷
      done 10 1 5 ((obj 0, (kind.Mark (obj 0) 2)) ∷ []) ∷ [];
}
unfolding u8_at u16_at u32_at u64_at raw_at fixed_at read_many spell_many fit_many marks reads writes keys new_fields old_fields body entry node_eq bytes_eq bytes_lt part_lt cell_eq chain_of units_of next_of change_fault new_unit unit_ask first_missing on_ask unit_step new_layout layout_ask on_layout_ask layout_step reply work_asks put_cell get_cell fill_cell probe work_feed cell_feed entry_size needs_decision page_of entry_of new_seqr seqr_step seqr_tick append_work_asks append_start append_feed append_again sync_work_asks sync_start sync_feed walk_on walk_start walk_feed no_versions based version_of with_change parts_of decision_in view_start view_version view_parts unknown_in changed_in verdict view_outcome step_at play_on play read_fault write_fault commit_record open_decision checkpoint bases_in load_from view_base view_bases may_forget commit_at past_at rescue_turn trim_start trim_feed copy_work_asks copy_start copy_feed reconf_work_asks reconf_start reconf_feed reconf_latest new_client entries_at copy_fault tests refusal appends syncs walked task_asks client_asks walks task_feed task_again accepts client_command client_deliver client_tick fields_size decided newest log_of entries_of members path_on path changes_below version outcome history_of start latest log history unit_moves layout_moves seqr_moves client_turned happens limit_of drain_on drain tick_all rounds settle line lines
copied_and_joined = refl
