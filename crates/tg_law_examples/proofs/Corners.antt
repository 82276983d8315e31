-- Worked runs: the marks and the history that each gives.
use Rattle.std.proofs.Common.{◌≡◌, List, [], ◌∷◌, refl, Some, None}
use Rattle.std.specs.Prelude.{true, pos}
use Rattle.tg_base.specs.Clusters.{Header}
use Rattle.tg_model.specs.declared.command.Command.TheVariants as cmd
use Rattle.tg_model.specs.declared.command.Event.TheVariants.{Command as Commands, Deliver, Lose, Tick, Stop}
use Rattle.tg_model.specs.declared.refusal.Refusal.TheVariants as cause
use Rattle.tg_model.specs.declared.trace.What.TheVariants as told
use Rattle.tg_codec.specs.Reading.{u8_at, u16_at, u32_at, u64_at, raw_at, fixed_at}
use Rattle.tg_codec.specs.Codec.{read_many, spell_many, fit_many}
use Rattle.tg_entry.specs.Reads.{marks, reads}
use Rattle.tg_entry.specs.Writes.{writes}
use Rattle.tg_entry.specs.Checkpoints.{keys, new_fields, old_fields}
use Rattle.tg_entry.specs.Format.{body, entry}
use Rattle.tg_base.specs.Orders.{node_eq}
use Rattle.tg_protocol.specs.Words.{bytes_eq, bytes_lt, part_lt, cell_eq, client_id}
use Rattle.tg_protocol.specs.Layouts.{chain_of, units_of, next_of, change_fault}
use Rattle.tg_protocol.specs.Units.{new_unit, unit_ask, first_missing, on_ask, unit_step}
use Rattle.tg_protocol.specs.LayoutServers.{new_layout, layout_ask, on_layout_ask, layout_step}
use Rattle.tg_protocol.specs.Replies.{reply}
use Rattle.tg_protocol.specs.Cells.{work_asks, put_cell, get_cell, fill_cell, probe, work_feed, cell_feed}
use Rattle.tg_entry.specs.Needs.{needs_decision}
use Rattle.tg_protocol.specs.Entries.{entry_size}
use Rattle.tg_protocol.specs.Pages.{page_of, entry_of}
use Rattle.tg_protocol.specs.Sequencers.{new_seqr, seqr_step, seqr_tick}
use Rattle.tg_protocol.specs.Appending.{append_work_asks, append_start, append_feed, append_again}
use Rattle.tg_protocol.specs.Syncing.{sync_work_asks, sync_start, sync_feed}
use Rattle.tg_protocol.specs.Walking.{walk_on, walk_start, walk_feed}
use Rattle.tg_protocol.specs.Versions.{no_versions, based, version_of, with_change, parts_of}
use Rattle.tg_protocol.specs.Views.{decision_in, view_start, view_version, view_parts, unknown_in, changed_in, verdict, view_outcome, step_at, play_on, play}
use Rattle.tg_protocol.specs.Transactions.{read_fault, write_fault, commit_record}
use Rattle.tg_protocol.specs.Checkpoints.{open_decision, checkpoint, bases_in, load_from, view_base, view_bases, may_forget}
use Rattle.tg_protocol.specs.Past.{commit_at, past_at, rescue_turn}
use Rattle.tg_protocol.specs.Trimming.{trim_start, trim_feed, copy_work_asks, copy_start, copy_feed}
use Rattle.tg_protocol.specs.Reconfiguring.{reconf_work_asks, reconf_start, reconf_feed, reconf_latest}
use Rattle.tg_protocol.specs.Clients.{new_client, entries_at, copy_fault, tests, refusal}
use Rattle.tg_protocol.specs.Answers.{appends, syncs, walked}
use Rattle.tg_protocol.specs.ClientSteps.{task_asks, client_asks, walks, task_feed, task_again, accepts, client_command, client_deliver, client_tick}
use Rattle.tg_protocol.specs.Sizes.{fields_size}
use Rattle.tg_protocol.specs.Logs.{decided, newest, log_of, entries_of, members, path_on, path, changes_below, version, outcome, history_of}
use Rattle.tg_protocol.specs.Worlds.{start, latest, log, history, unit_moves, layout_moves, seqr_moves, client_turned, happens, limit_of, drain_on, drain, tick_all, rounds, settle, line, lines, Line, Happens, Update, Drain, Settle, replay}
use Rattle.tg_law_examples.proofs.SevenKinds.{kinds}
use Rattle.tg_law_examples.proofs.SevenKinds as kind
use Rattle.tg_law_examples.proofs.Shown.{shown, obj, mark, done}

abbrev pub version_by_base_header : Header
version_by_base_header = record { units = 2; layouts = 1; seqs = 2; clients = 3; limit = 100; chains = (0 ∷ 1 ∷ []) ∷ []; objects = obj 50331648 ∷ [] }

abbrev pub version_by_base_script : List (Line kinds)
version_by_base_script =
    Update 0 (obj 50331648) (kind.Set (97 ∷ []) (120 ∷ [])) ∷
    Settle ∷
    Happens (Commands 0 (cmd.Host (obj 50331648))) ∷
    Happens (Commands 0 cmd.Begin) ∷
    Happens (Commands 0 (cmd.Ask (obj 50331648) (kind.Get (97 ∷ [])))) ∷
    Settle ∷
    Happens (Commands 0 (cmd.Put (obj 50331648) (kind.Set (98 ∷ []) (121 ∷ [])))) ∷
    Happens (Commands 0 cmd.End) ∷
    Settle ∷
    Happens (Commands 1 (cmd.Host (obj 50331648))) ∷
    Happens (Commands 1 (cmd.Checkpoint (obj 50331648))) ∷
    Settle ∷
    Happens (Commands 1 (cmd.Checkpoint (obj 0))) ∷
    Settle ∷
    Happens (Commands 1 (cmd.Forget (obj 50331648) 2)) ∷
    Settle ∷
    Happens (Commands 1 (cmd.Forget (obj 0) 2)) ∷
    Settle ∷
    Happens (Commands 1 cmd.Trim) ∷
    Happens (Deliver 88) ∷
    Happens (Deliver 89) ∷
    Happens (Deliver 90) ∷
    Happens (Deliver 91) ∷
    Happens (Deliver 92) ∷
    Happens (Deliver 93) ∷
    Happens (Lose 94) ∷
    Happens (Deliver 95) ∷
    Happens (Deliver 96) ∷
    Happens (Stop (client_id 1)) ∷
    Happens (Commands 2 (cmd.Host (obj 50331648))) ∷
    Happens (Commands 2 cmd.Begin) ∷
    Happens (Commands 2 (cmd.Ask (obj 50331648) (kind.Get (97 ∷ [])))) ∷
    Settle ∷
    Happens (Commands 2 cmd.End) ∷
    Update 0 (obj 50331648) (kind.Set (97 ∷ []) (122 ∷ [])) ∷
    Settle ∷
    Happens (Commands 2 cmd.Begin) ∷
    Happens (Commands 2 (cmd.Ask (obj 50331648) (kind.Get (97 ∷ [])))) ∷
    Settle ∷
    Happens (Commands 2 cmd.End) ∷
    Happens (Commands 0 (cmd.Reconf (record { seq = 1; drop = 1 ∷ []; opened = []; join = None }))) ∷
    Settle ∷
    Happens (Commands 2 (cmd.Fate 1)) ∷
    Settle ∷
    Happens (Commands 2 (cmd.Decide 1)) ∷
    Settle ∷ []

version_by_base : shown (replay kinds version_by_base_header version_by_base_script) ≡ record {
  marks =
      mark 1 0 1 told.Begin ∷
      mark 1 0 1 (told.Put (obj 50331648) (kind.Set (97 ∷ []) (120 ∷ []))) ∷
      mark 1 0 1 told.End ∷
      mark 2 0 1 (told.Committed 0) ∷
      mark 3 0 0 (told.Hosted (obj 50331648)) ∷
      mark 4 0 2 told.Begin ∷
      mark 6 0 2 (told.Asked (obj 50331648) (kind.Get (97 ∷ [])) 1 (kind.Words (Some (120 ∷ [])))) ∷
      mark 7 0 2 (told.Put (obj 50331648) (kind.Set (98 ∷ []) (121 ∷ []))) ∷
      mark 8 0 2 told.End ∷
      mark 9 0 2 (told.Committed 1) ∷
      mark 10 1 0 (told.Hosted (obj 50331648)) ∷
      mark 12 1 0 (told.Saved (obj 50331648) 2 2) ∷
      mark 14 1 0 (told.Saved (obj 0) 3 3) ∷
      mark 16 1 1 told.Begin ∷
      mark 16 1 1 (told.Put (obj 0) (kind.Mark (obj 50331648) 2)) ∷
      mark 16 1 1 told.End ∷
      mark 16 1 1 (told.Committed 4) ∷
      mark 16 1 0 (told.Marked (obj 50331648) 2) ∷
      mark 18 1 2 told.Begin ∷
      mark 18 1 2 (told.Put (obj 0) (kind.Mark (obj 0) 2)) ∷
      mark 18 1 2 told.End ∷
      mark 18 1 2 (told.Committed 5) ∷
      mark 18 1 0 (told.Marked (obj 0) 2) ∷
      mark 30 2 0 (told.Hosted (obj 50331648)) ∷
      mark 31 2 1 told.Begin ∷
      mark 33 2 1 (told.Asked (obj 50331648) (kind.Get (97 ∷ [])) 6 (kind.Words (Some (120 ∷ [])))) ∷
      mark 34 2 1 told.End ∷
      mark 34 2 1 (told.Committed 6) ∷
      mark 35 0 3 told.Begin ∷
      mark 35 0 3 (told.Put (obj 50331648) (kind.Set (97 ∷ []) (122 ∷ []))) ∷
      mark 35 0 3 told.End ∷
      mark 36 0 3 (told.Committed 6) ∷
      mark 37 2 2 told.Begin ∷
      mark 39 2 2 (told.Asked (obj 50331648) (kind.Get (97 ∷ [])) 7 (kind.Words (Some (122 ∷ [])))) ∷
      mark 40 2 2 told.End ∷
      mark 40 2 2 (told.Committed 7) ∷
      mark 42 0 0 (told.Installed 2) ∷
      mark 44 2 0 (told.Fate 1 (Some true)) ∷
      mark 46 2 0 (told.Decided 1 (Some true)) ∷ [];
  dones =
      done 0 0 1 ((obj 50331648, (kind.Set (97 ∷ []) (120 ∷ []))) ∷ []) ∷
      done 1 0 2 ((obj 50331648, (kind.Set (98 ∷ []) (121 ∷ []))) ∷ []) ∷
      done 4 1 1 ((obj 0, (kind.Mark (obj 50331648) 2)) ∷ []) ∷
      done 5 1 2 ((obj 0, (kind.Mark (obj 0) 2)) ∷ []) ∷
      done 6 0 3 ((obj 50331648, (kind.Set (97 ∷ []) (122 ∷ []))) ∷ []) ∷ [];
}
unfolding u8_at u16_at u32_at u64_at raw_at fixed_at read_many spell_many fit_many marks reads writes keys new_fields old_fields body entry node_eq bytes_eq bytes_lt part_lt cell_eq chain_of units_of next_of change_fault new_unit unit_ask first_missing on_ask unit_step new_layout layout_ask on_layout_ask layout_step reply work_asks put_cell get_cell fill_cell probe work_feed cell_feed entry_size needs_decision page_of entry_of new_seqr seqr_step seqr_tick append_work_asks append_start append_feed append_again sync_work_asks sync_start sync_feed walk_on walk_start walk_feed no_versions based version_of with_change parts_of decision_in view_start view_version view_parts unknown_in changed_in verdict view_outcome step_at play_on play read_fault write_fault commit_record open_decision checkpoint bases_in load_from view_base view_bases may_forget commit_at past_at rescue_turn trim_start trim_feed copy_work_asks copy_start copy_feed reconf_work_asks reconf_start reconf_feed reconf_latest new_client entries_at copy_fault tests refusal appends syncs walked task_asks client_asks walks task_feed task_again accepts client_command client_deliver client_tick fields_size decided newest log_of entries_of members path_on path changes_below version outcome history_of start latest log history unit_moves layout_moves seqr_moves client_turned happens limit_of drain_on drain tick_all rounds settle line lines
version_by_base = refl

abbrev pub version_by_base_after_copy_header : Header
version_by_base_after_copy_header = record { units = 3; layouts = 1; seqs = 3; clients = 3; limit = 100; chains = (0 ∷ 1 ∷ []) ∷ []; objects = obj 50331648 ∷ [] }

abbrev pub version_by_base_after_copy_script : List (Line kinds)
version_by_base_after_copy_script =
    Update 0 (obj 50331648) (kind.Set (97 ∷ []) (120 ∷ [])) ∷
    Settle ∷
    Happens (Commands 0 (cmd.Host (obj 50331648))) ∷
    Happens (Commands 0 cmd.Begin) ∷
    Happens (Commands 0 (cmd.Ask (obj 50331648) (kind.Get (97 ∷ [])))) ∷
    Settle ∷
    Happens (Commands 0 (cmd.Put (obj 50331648) (kind.Set (98 ∷ []) (121 ∷ [])))) ∷
    Happens (Commands 0 cmd.End) ∷
    Settle ∷
    Happens (Commands 0 (cmd.Reconf (record { seq = 1; drop = []; opened = (0 ∷ 1 ∷ []) ∷ []; join = None }))) ∷
    Settle ∷
    Happens (Commands 0 (cmd.Copy 2 0 0)) ∷
    Settle ∷
    Happens (Commands 1 (cmd.Host (obj 50331648))) ∷
    Happens (Commands 1 (cmd.Checkpoint (obj 50331648))) ∷
    Settle ∷
    Happens (Commands 1 (cmd.Checkpoint (obj 0))) ∷
    Settle ∷
    Happens (Commands 1 (cmd.Forget (obj 50331648) 2)) ∷
    Settle ∷
    Happens (Commands 1 (cmd.Forget (obj 0) 2)) ∷
    Settle ∷
    Happens (Commands 1 cmd.Trim) ∷
    Settle ∷
    Happens (Commands 2 (cmd.Host (obj 50331648))) ∷
    Happens (Commands 2 cmd.Begin) ∷
    Happens (Commands 2 (cmd.Ask (obj 50331648) (kind.Get (97 ∷ [])))) ∷
    Settle ∷
    Happens (Commands 2 cmd.End) ∷
    Update 0 (obj 50331648) (kind.Set (97 ∷ []) (122 ∷ [])) ∷
    Settle ∷
    Happens (Commands 2 cmd.Begin) ∷
    Happens (Commands 2 (cmd.Ask (obj 50331648) (kind.Get (97 ∷ [])))) ∷
    Settle ∷
    Happens (Commands 2 cmd.End) ∷
    Happens (Commands 0 (cmd.Reconf (record { seq = 2; drop = []; opened = []; join = Some (record { unit = 2; range = 0; stripe = 0 }) }))) ∷
    Settle ∷
    Happens (Commands 2 (cmd.Fate 1)) ∷
    Settle ∷ []

version_by_base_after_copy : shown (replay kinds version_by_base_after_copy_header version_by_base_after_copy_script) ≡ record {
  marks =
      mark 1 0 1 told.Begin ∷
      mark 1 0 1 (told.Put (obj 50331648) (kind.Set (97 ∷ []) (120 ∷ []))) ∷
      mark 1 0 1 told.End ∷
      mark 2 0 1 (told.Committed 0) ∷
      mark 3 0 0 (told.Hosted (obj 50331648)) ∷
      mark 4 0 2 told.Begin ∷
      mark 6 0 2 (told.Asked (obj 50331648) (kind.Get (97 ∷ [])) 1 (kind.Words (Some (120 ∷ [])))) ∷
      mark 7 0 2 (told.Put (obj 50331648) (kind.Set (98 ∷ []) (121 ∷ []))) ∷
      mark 8 0 2 told.End ∷
      mark 9 0 2 (told.Committed 1) ∷
      mark 11 0 0 (told.Installed 2) ∷
      mark 13 0 0 (told.Copied 2 0 0) ∷
      mark 14 1 0 (told.Hosted (obj 50331648)) ∷
      mark 16 1 0 (told.Saved (obj 50331648) 2 2) ∷
      mark 18 1 0 (told.Saved (obj 0) 3 3) ∷
      mark 20 1 1 told.Begin ∷
      mark 20 1 1 (told.Put (obj 0) (kind.Mark (obj 50331648) 2)) ∷
      mark 20 1 1 told.End ∷
      mark 20 1 1 (told.Committed 4) ∷
      mark 20 1 0 (told.Marked (obj 50331648) 2) ∷
      mark 22 1 2 told.Begin ∷
      mark 22 1 2 (told.Put (obj 0) (kind.Mark (obj 0) 2)) ∷
      mark 22 1 2 told.End ∷
      mark 22 1 2 (told.Committed 5) ∷
      mark 22 1 0 (told.Marked (obj 0) 2) ∷
      mark 24 1 0 (told.Trimmed 2) ∷
      mark 25 2 0 (told.Hosted (obj 50331648)) ∷
      mark 26 2 1 told.Begin ∷
      mark 28 2 1 (told.Asked (obj 50331648) (kind.Get (97 ∷ [])) 6 (kind.Words (Some (120 ∷ [])))) ∷
      mark 29 2 1 told.End ∷
      mark 29 2 1 (told.Committed 6) ∷
      mark 30 0 3 told.Begin ∷
      mark 30 0 3 (told.Put (obj 50331648) (kind.Set (97 ∷ []) (122 ∷ []))) ∷
      mark 30 0 3 told.End ∷
      mark 31 0 3 (told.Committed 6) ∷
      mark 32 2 2 told.Begin ∷
      mark 34 2 2 (told.Asked (obj 50331648) (kind.Get (97 ∷ [])) 7 (kind.Words (Some (122 ∷ [])))) ∷
      mark 35 2 2 told.End ∷
      mark 35 2 2 (told.Committed 7) ∷
      mark 37 0 0 (told.Installed 3) ∷
      mark 39 2 0 (told.Fate 1 (Some true)) ∷ [];
  dones =
      done 0 0 1 ((obj 50331648, (kind.Set (97 ∷ []) (120 ∷ []))) ∷ []) ∷
      done 1 0 2 ((obj 50331648, (kind.Set (98 ∷ []) (121 ∷ []))) ∷ []) ∷
      done 4 1 1 ((obj 0, (kind.Mark (obj 50331648) 2)) ∷ []) ∷
      done 5 1 2 ((obj 0, (kind.Mark (obj 0) 2)) ∷ []) ∷
      done 6 0 3 ((obj 50331648, (kind.Set (97 ∷ []) (122 ∷ []))) ∷ []) ∷ [];
}
unfolding u8_at u16_at u32_at u64_at raw_at fixed_at read_many spell_many fit_many marks reads writes keys new_fields old_fields body entry node_eq bytes_eq bytes_lt part_lt cell_eq chain_of units_of next_of change_fault new_unit unit_ask first_missing on_ask unit_step new_layout layout_ask on_layout_ask layout_step reply work_asks put_cell get_cell fill_cell probe work_feed cell_feed entry_size needs_decision page_of entry_of new_seqr seqr_step seqr_tick append_work_asks append_start append_feed append_again sync_work_asks sync_start sync_feed walk_on walk_start walk_feed no_versions based version_of with_change parts_of decision_in view_start view_version view_parts unknown_in changed_in verdict view_outcome step_at play_on play read_fault write_fault commit_record open_decision checkpoint bases_in load_from view_base view_bases may_forget commit_at past_at rescue_turn trim_start trim_feed copy_work_asks copy_start copy_feed reconf_work_asks reconf_start reconf_feed reconf_latest new_client entries_at copy_fault tests refusal appends syncs walked task_asks client_asks walks task_feed task_again accepts client_command client_deliver client_tick fields_size decided newest log_of entries_of members path_on path changes_below version outcome history_of start latest log history unit_moves layout_moves seqr_moves client_turned happens limit_of drain_on drain tick_all rounds settle line lines
version_by_base_after_copy = refl

abbrev pub copy_of_trimmed_header : Header
copy_of_trimmed_header = record { units = 3; layouts = 1; seqs = 3; clients = 3; limit = 100; chains = (0 ∷ 1 ∷ []) ∷ []; objects = obj 16777216 ∷ [] }

abbrev pub copy_of_trimmed_script : List (Line kinds)
copy_of_trimmed_script =
    Update 0 (obj 16777216) (kind.Add (pos 5)) ∷
    Settle ∷
    Update 0 (obj 16777216) (kind.Add (pos 6)) ∷
    Settle ∷
    Happens (Commands 1 (cmd.Host (obj 16777216))) ∷
    Happens (Commands 1 (cmd.Checkpoint (obj 16777216))) ∷
    Settle ∷
    Happens (Commands 1 (cmd.Checkpoint (obj 0))) ∷
    Settle ∷
    Happens (Commands 1 (cmd.Forget (obj 16777216) 2)) ∷
    Settle ∷
    Happens (Commands 1 (cmd.Forget (obj 0) 2)) ∷
    Settle ∷
    Happens (Commands 0 (cmd.Reconf (record { seq = 1; drop = []; opened = (0 ∷ 1 ∷ []) ∷ []; join = None }))) ∷
    Settle ∷
    Happens (Commands 1 cmd.Trim) ∷
    Settle ∷
    Happens (Commands 0 (cmd.Copy 2 0 0)) ∷
    Settle ∷
    Happens (Commands 0 (cmd.Reconf (record { seq = 2; drop = []; opened = []; join = Some (record { unit = 2; range = 0; stripe = 0 }) }))) ∷
    Settle ∷
    Happens (Commands 0 (cmd.Reconf (record { seq = 0; drop = 0 ∷ []; opened = []; join = None }))) ∷
    Settle ∷
    Happens (Commands 0 (cmd.Reconf (record { seq = 1; drop = 1 ∷ []; opened = []; join = None }))) ∷
    Settle ∷
    Happens (Commands 2 (cmd.Host (obj 16777216))) ∷
    Happens (Commands 2 cmd.Begin) ∷
    Happens (Commands 2 (cmd.Ask (obj 16777216) (kind.Value))) ∷
    Settle ∷ []

copy_of_trimmed : shown (replay kinds copy_of_trimmed_header copy_of_trimmed_script) ≡ record {
  marks =
      mark 1 0 1 told.Begin ∷
      mark 1 0 1 (told.Put (obj 16777216) (kind.Add (pos 5))) ∷
      mark 1 0 1 told.End ∷
      mark 2 0 1 (told.Committed 0) ∷
      mark 3 0 2 told.Begin ∷
      mark 3 0 2 (told.Put (obj 16777216) (kind.Add (pos 6))) ∷
      mark 3 0 2 told.End ∷
      mark 4 0 2 (told.Committed 1) ∷
      mark 5 1 0 (told.Hosted (obj 16777216)) ∷
      mark 7 1 0 (told.Saved (obj 16777216) 2 2) ∷
      mark 9 1 0 (told.Saved (obj 0) 3 3) ∷
      mark 11 1 1 told.Begin ∷
      mark 11 1 1 (told.Put (obj 0) (kind.Mark (obj 16777216) 2)) ∷
      mark 11 1 1 told.End ∷
      mark 11 1 1 (told.Committed 4) ∷
      mark 11 1 0 (told.Marked (obj 16777216) 2) ∷
      mark 13 1 2 told.Begin ∷
      mark 13 1 2 (told.Put (obj 0) (kind.Mark (obj 0) 2)) ∷
      mark 13 1 2 told.End ∷
      mark 13 1 2 (told.Committed 5) ∷
      mark 13 1 0 (told.Marked (obj 0) 2) ∷
      mark 15 0 0 (told.Installed 2) ∷
      mark 17 1 0 (told.Trimmed 2) ∷
      mark 19 0 0 (told.Copied 2 0 0) ∷
      mark 21 0 0 (told.Installed 3) ∷
      mark 23 0 0 (told.Installed 4) ∷
      mark 24 0 0 (told.Refused (cause.NoReplica 1 0)) ∷
      mark 26 2 0 (told.Hosted (obj 16777216)) ∷
      mark 27 2 1 told.Begin ∷
      mark 29 2 1 (told.Asked (obj 16777216) (kind.Value) 6 (kind.Signed (pos 11))) ∷ [];
  dones =
      done 0 0 1 ((obj 16777216, (kind.Add (pos 5))) ∷ []) ∷
      done 1 0 2 ((obj 16777216, (kind.Add (pos 6))) ∷ []) ∷
      done 4 1 1 ((obj 0, (kind.Mark (obj 16777216) 2)) ∷ []) ∷
      done 5 1 2 ((obj 0, (kind.Mark (obj 0) 2)) ∷ []) ∷ [];
}
unfolding u8_at u16_at u32_at u64_at raw_at fixed_at read_many spell_many fit_many marks reads writes keys new_fields old_fields body entry node_eq bytes_eq bytes_lt part_lt cell_eq chain_of units_of next_of change_fault new_unit unit_ask first_missing on_ask unit_step new_layout layout_ask on_layout_ask layout_step reply work_asks put_cell get_cell fill_cell probe work_feed cell_feed entry_size needs_decision page_of entry_of new_seqr seqr_step seqr_tick append_work_asks append_start append_feed append_again sync_work_asks sync_start sync_feed walk_on walk_start walk_feed no_versions based version_of with_change parts_of decision_in view_start view_version view_parts unknown_in changed_in verdict view_outcome step_at play_on play read_fault write_fault commit_record open_decision checkpoint bases_in load_from view_base view_bases may_forget commit_at past_at rescue_turn trim_start trim_feed copy_work_asks copy_start copy_feed reconf_work_asks reconf_start reconf_feed reconf_latest new_client entries_at copy_fault tests refusal appends syncs walked task_asks client_asks walks task_feed task_again accepts client_command client_deliver client_tick fields_size decided newest log_of entries_of members path_on path changes_below version outcome history_of start latest log history unit_moves layout_moves seqr_moves client_turned happens limit_of drain_on drain tick_all rounds settle line lines
copy_of_trimmed = refl

abbrev pub fate_kept_header : Header
fate_kept_header = record { units = 1; layouts = 1; seqs = 1; clients = 3; limit = 100; chains = (0 ∷ []) ∷ []; objects = obj 16777216 ∷ [] }

abbrev pub fate_kept_script : List (Line kinds)
fate_kept_script =
    Update 1 (obj 16777216) (kind.Add (pos 1)) ∷
    Settle ∷
    Happens (Commands 0 (cmd.Host (obj 16777216))) ∷
    Happens (Commands 0 cmd.Begin) ∷
    Happens (Commands 0 (cmd.Ask (obj 16777216) (kind.Value))) ∷
    Settle ∷
    Happens (Commands 0 (cmd.Put (obj 16777216) (kind.Add (pos 1)))) ∷
    Happens (Commands 0 cmd.End) ∷
    Happens (Deliver 8) ∷
    Happens (Deliver 9) ∷
    Happens (Deliver 10) ∷
    Happens (Deliver 11) ∷
    Happens (Lose 12) ∷
    Happens (Commands 1 (cmd.Host (obj 16777216))) ∷
    Happens (Commands 1 (cmd.Checkpoint (obj 16777216))) ∷
    Drain ∷
    Happens (Commands 1 (cmd.Checkpoint (obj 0))) ∷
    Drain ∷
    Happens (Commands 1 (cmd.Forget (obj 16777216) 2)) ∷
    Drain ∷
    Happens (Commands 1 (cmd.Forget (obj 0) 2)) ∷
    Drain ∷
    Happens (Commands 1 cmd.Trim) ∷
    Drain ∷
    Happens (Tick (client_id 0)) ∷
    Drain ∷
    Settle ∷
    Happens (Commands 0 (cmd.Fate 1)) ∷
    Settle ∷
    Happens (Commands 0 (cmd.Decide 1)) ∷
    Settle ∷
    Happens (Commands 0 (cmd.Rescue 1)) ∷
    Settle ∷
    Happens (Commands 1 (cmd.Fate 1)) ∷
    Settle ∷ []

fate_kept : shown (replay kinds fate_kept_header fate_kept_script) ≡ record {
  marks =
      mark 1 1 1 told.Begin ∷
      mark 1 1 1 (told.Put (obj 16777216) (kind.Add (pos 1))) ∷
      mark 1 1 1 told.End ∷
      mark 2 1 1 (told.Committed 0) ∷
      mark 3 0 0 (told.Hosted (obj 16777216)) ∷
      mark 4 0 1 told.Begin ∷
      mark 6 0 1 (told.Asked (obj 16777216) (kind.Value) 1 (kind.Signed (pos 1))) ∷
      mark 7 0 1 (told.Put (obj 16777216) (kind.Add (pos 1))) ∷
      mark 8 0 1 told.End ∷
      mark 14 1 0 (told.Hosted (obj 16777216)) ∷
      mark 16 1 0 (told.Saved (obj 16777216) 2 2) ∷
      mark 18 1 0 (told.Saved (obj 0) 3 3) ∷
      mark 20 1 2 told.Begin ∷
      mark 20 1 2 (told.Put (obj 0) (kind.Mark (obj 16777216) 2)) ∷
      mark 20 1 2 told.End ∷
      mark 20 1 2 (told.Committed 4) ∷
      mark 20 1 0 (told.Marked (obj 16777216) 2) ∷
      mark 22 1 3 told.Begin ∷
      mark 22 1 3 (told.Put (obj 0) (kind.Mark (obj 0) 2)) ∷
      mark 22 1 3 told.End ∷
      mark 22 1 3 (told.Committed 5) ∷
      mark 22 1 0 (told.Marked (obj 0) 2) ∷
      mark 24 1 0 (told.Trimmed 2) ∷
      mark 26 0 1 (told.Committed 1) ∷
      mark 29 0 0 (told.Fate 1 (Some true)) ∷
      mark 31 0 0 (told.Refused (cause.Forgotten 1 2)) ∷
      mark 33 0 0 (told.Refused (cause.Undecided 1 (obj 16777216))) ∷
      mark 35 1 0 (told.Fate 1 (Some true)) ∷ [];
  dones =
      done 0 1 1 ((obj 16777216, (kind.Add (pos 1))) ∷ []) ∷
      done 1 0 1 ((obj 16777216, (kind.Add (pos 1))) ∷ []) ∷
      done 4 1 2 ((obj 0, (kind.Mark (obj 16777216) 2)) ∷ []) ∷
      done 5 1 3 ((obj 0, (kind.Mark (obj 0) 2)) ∷ []) ∷ [];
}
unfolding u8_at u16_at u32_at u64_at raw_at fixed_at read_many spell_many fit_many marks reads writes keys new_fields old_fields body entry node_eq bytes_eq bytes_lt part_lt cell_eq chain_of units_of next_of change_fault new_unit unit_ask first_missing on_ask unit_step new_layout layout_ask on_layout_ask layout_step reply work_asks put_cell get_cell fill_cell probe work_feed cell_feed entry_size needs_decision page_of entry_of new_seqr seqr_step seqr_tick append_work_asks append_start append_feed append_again sync_work_asks sync_start sync_feed walk_on walk_start walk_feed no_versions based version_of with_change parts_of decision_in view_start view_version view_parts unknown_in changed_in verdict view_outcome step_at play_on play read_fault write_fault commit_record open_decision checkpoint bases_in load_from view_base view_bases may_forget commit_at past_at rescue_turn trim_start trim_feed copy_work_asks copy_start copy_feed reconf_work_asks reconf_start reconf_feed reconf_latest new_client entries_at copy_fault tests refusal appends syncs walked task_asks client_asks walks task_feed task_again accepts client_command client_deliver client_tick fields_size decided newest log_of entries_of members path_on path changes_below version outcome history_of start latest log history unit_moves layout_moves seqr_moves client_turned happens limit_of drain_on drain tick_all rounds settle line lines
fate_kept = refl

abbrev pub open_decision_and_rescue_header : Header
open_decision_and_rescue_header = record { units = 1; layouts = 1; seqs = 1; clients = 3; limit = 100; chains = (0 ∷ []) ∷ []; objects = obj 16777216 ∷ obj 16777217 ∷ [] }

abbrev pub open_decision_and_rescue_script : List (Line kinds)
open_decision_and_rescue_script =
    Happens (Commands 0 (cmd.Host (obj 16777216))) ∷
    Happens (Commands 0 (cmd.Host (obj 16777217))) ∷
    Happens (Commands 1 (cmd.Host (obj 16777216))) ∷
    Happens (Commands 1 (cmd.Host (obj 16777217))) ∷
    Happens (Commands 0 cmd.Begin) ∷
    Happens (Commands 0 (cmd.Ask (obj 16777216) (kind.Value))) ∷
    Settle ∷
    Happens (Commands 0 (cmd.Put (obj 16777217) (kind.Add (pos 1)))) ∷
    Happens (Commands 0 cmd.End) ∷
    Settle ∷
    Happens (Commands 1 (cmd.Checkpoint (obj 16777216))) ∷
    Settle ∷
    Happens (Commands 1 (cmd.Checkpoint (obj 16777217))) ∷
    Settle ∷
    Happens (Commands 1 (cmd.Checkpoint (obj 0))) ∷
    Settle ∷
    Happens (Commands 1 (cmd.Forget (obj 16777216) 2)) ∷
    Settle ∷
    Happens (Commands 1 (cmd.Forget (obj 16777217) 2)) ∷
    Settle ∷
    Happens (Commands 1 (cmd.Forget (obj 0) 2)) ∷
    Settle ∷
    Happens (Commands 1 cmd.Trim) ∷
    Settle ∷
    Update 0 (obj 16777217) (kind.Add (pos 1)) ∷
    Settle ∷
    Happens (Commands 0 (cmd.Checkpoint (obj 16777217))) ∷
    Settle ∷
    Happens (Commands 0 (cmd.Forget (obj 16777217) 6)) ∷
    Settle ∷
    Happens (Commands 0 (cmd.Decide 0)) ∷
    Settle ∷
    Happens (Commands 0 (cmd.Fate 0)) ∷
    Settle ∷
    Happens (Commands 0 (cmd.Rescue 0)) ∷
    Settle ∷
    Happens (Commands 1 (cmd.Forget (obj 16777217) 6)) ∷
    Settle ∷
    Happens (Commands 0 (cmd.Forget (obj 16777217) 6)) ∷
    Settle ∷ []

open_decision_and_rescue : shown (replay kinds open_decision_and_rescue_header open_decision_and_rescue_script) ≡ record {
  marks =
      mark 1 0 0 (told.Hosted (obj 16777216)) ∷
      mark 2 0 0 (told.Hosted (obj 16777217)) ∷
      mark 3 1 0 (told.Hosted (obj 16777216)) ∷
      mark 4 1 0 (told.Hosted (obj 16777217)) ∷
      mark 5 0 1 told.Begin ∷
      mark 7 0 1 (told.Asked (obj 16777216) (kind.Value) 0 (kind.Signed (pos 0))) ∷
      mark 8 0 1 (told.Put (obj 16777217) (kind.Add (pos 1))) ∷
      mark 9 0 1 told.End ∷
      mark 10 0 1 (told.Committed 0) ∷
      mark 12 1 0 (told.Saved (obj 16777216) 2 2) ∷
      mark 14 1 0 (told.Saved (obj 16777217) 3 3) ∷
      mark 16 1 0 (told.Saved (obj 0) 4 4) ∷
      mark 18 1 1 told.Begin ∷
      mark 18 1 1 (told.Put (obj 0) (kind.Mark (obj 16777216) 2)) ∷
      mark 18 1 1 told.End ∷
      mark 18 1 1 (told.Committed 5) ∷
      mark 18 1 0 (told.Marked (obj 16777216) 2) ∷
      mark 20 1 2 told.Begin ∷
      mark 20 1 2 (told.Put (obj 0) (kind.Mark (obj 16777217) 2)) ∷
      mark 20 1 2 told.End ∷
      mark 20 1 2 (told.Committed 6) ∷
      mark 20 1 0 (told.Marked (obj 16777217) 2) ∷
      mark 22 1 3 told.Begin ∷
      mark 22 1 3 (told.Put (obj 0) (kind.Mark (obj 0) 2)) ∷
      mark 22 1 3 told.End ∷
      mark 22 1 3 (told.Committed 7) ∷
      mark 22 1 0 (told.Marked (obj 0) 2) ∷
      mark 24 1 0 (told.Trimmed 2) ∷
      mark 25 0 2 told.Begin ∷
      mark 25 0 2 (told.Put (obj 16777217) (kind.Add (pos 1))) ∷
      mark 25 0 2 told.End ∷
      mark 26 0 2 (told.Committed 8) ∷
      mark 28 0 0 (told.Saved (obj 16777217) 9 9) ∷
      mark 30 0 0 (told.Refused (cause.OpenDecision 0)) ∷
      mark 32 0 0 (told.Refused (cause.Forgotten 0 2)) ∷
      mark 34 0 0 (told.Fate 0 (Some true)) ∷
      mark 36 0 0 (told.Rescued 0 (Some true)) ∷
      mark 38 1 4 told.Begin ∷
      mark 38 1 4 (told.Put (obj 0) (kind.Mark (obj 16777217) 6)) ∷
      mark 38 1 4 told.End ∷
      mark 38 1 4 (told.Committed 11) ∷
      mark 38 1 0 (told.Marked (obj 16777217) 6) ∷
      mark 40 0 3 told.Begin ∷
      mark 40 0 3 (told.Put (obj 0) (kind.Mark (obj 16777217) 6)) ∷
      mark 40 0 3 told.End ∷
      mark 40 0 3 (told.Committed 12) ∷
      mark 40 0 0 (told.Marked (obj 16777217) 6) ∷ [];
  dones =
      done 0 0 1 ((obj 16777217, (kind.Add (pos 1))) ∷ []) ∷
      done 5 1 1 ((obj 0, (kind.Mark (obj 16777216) 2)) ∷ []) ∷
      done 6 1 2 ((obj 0, (kind.Mark (obj 16777217) 2)) ∷ []) ∷
      done 7 1 3 ((obj 0, (kind.Mark (obj 0) 2)) ∷ []) ∷
      done 8 0 2 ((obj 16777217, (kind.Add (pos 1))) ∷ []) ∷
      done 11 1 4 ((obj 0, (kind.Mark (obj 16777217) 6)) ∷ []) ∷
      done 12 0 3 ((obj 0, (kind.Mark (obj 16777217) 6)) ∷ []) ∷ [];
}
unfolding u8_at u16_at u32_at u64_at raw_at fixed_at read_many spell_many fit_many marks reads writes keys new_fields old_fields body entry node_eq bytes_eq bytes_lt part_lt cell_eq chain_of units_of next_of change_fault new_unit unit_ask first_missing on_ask unit_step new_layout layout_ask on_layout_ask layout_step reply work_asks put_cell get_cell fill_cell probe work_feed cell_feed entry_size needs_decision page_of entry_of new_seqr seqr_step seqr_tick append_work_asks append_start append_feed append_again sync_work_asks sync_start sync_feed walk_on walk_start walk_feed no_versions based version_of with_change parts_of decision_in view_start view_version view_parts unknown_in changed_in verdict view_outcome step_at play_on play read_fault write_fault commit_record open_decision checkpoint bases_in load_from view_base view_bases may_forget commit_at past_at rescue_turn trim_start trim_feed copy_work_asks copy_start copy_feed reconf_work_asks reconf_start reconf_feed reconf_latest new_client entries_at copy_fault tests refusal appends syncs walked task_asks client_asks walks task_feed task_again accepts client_command client_deliver client_tick fields_size decided newest log_of entries_of members path_on path changes_below version outcome history_of start latest log history unit_moves layout_moves seqr_moves client_turned happens limit_of drain_on drain tick_all rounds settle line lines
open_decision_and_rescue = refl

abbrev pub overtaken_by_latest_header : Header
overtaken_by_latest_header = record { units = 1; layouts = 3; seqs = 3; clients = 3; limit = 100; chains = (0 ∷ []) ∷ []; objects = obj 16777216 ∷ obj 16777217 ∷ [] }

abbrev pub overtaken_by_latest_script : List (Line kinds)
overtaken_by_latest_script =
    Happens (Commands 0 (cmd.Reconf (record { seq = 1; drop = []; opened = []; join = None }))) ∷
    Happens (Commands 1 (cmd.Reconf (record { seq = 2; drop = []; opened = []; join = None }))) ∷
    Happens (Deliver 0) ∷
    Happens (Deliver 1) ∷
    Drain ∷
    Happens (Tick (client_id 0)) ∷
    Drain ∷ []

overtaken_by_latest : shown (replay kinds overtaken_by_latest_header overtaken_by_latest_script) ≡ record {
  marks =
      mark 5 1 0 (told.Installed 2) ∷
      mark 7 0 0 (told.Refused (cause.Overtaken 2)) ∷ [];
  dones = [];
}
unfolding u8_at u16_at u32_at u64_at raw_at fixed_at read_many spell_many fit_many marks reads writes keys new_fields old_fields body entry node_eq bytes_eq bytes_lt part_lt cell_eq chain_of units_of next_of change_fault new_unit unit_ask first_missing on_ask unit_step new_layout layout_ask on_layout_ask layout_step reply work_asks put_cell get_cell fill_cell probe work_feed cell_feed entry_size needs_decision page_of entry_of new_seqr seqr_step seqr_tick append_work_asks append_start append_feed append_again sync_work_asks sync_start sync_feed walk_on walk_start walk_feed no_versions based version_of with_change parts_of decision_in view_start view_version view_parts unknown_in changed_in verdict view_outcome step_at play_on play read_fault write_fault commit_record open_decision checkpoint bases_in load_from view_base view_bases may_forget commit_at past_at rescue_turn trim_start trim_feed copy_work_asks copy_start copy_feed reconf_work_asks reconf_start reconf_feed reconf_latest new_client entries_at copy_fault tests refusal appends syncs walked task_asks client_asks walks task_feed task_again accepts client_command client_deliver client_tick fields_size decided newest log_of entries_of members path_on path changes_below version outcome history_of start latest log history unit_moves layout_moves seqr_moves client_turned happens limit_of drain_on drain tick_all rounds settle line lines
overtaken_by_latest = refl

abbrev pub own_record_forgotten_header : Header
own_record_forgotten_header = record { units = 1; layouts = 1; seqs = 1; clients = 3; limit = 100; chains = (0 ∷ []) ∷ []; objects = obj 16777216 ∷ obj 16777217 ∷ [] }

abbrev pub own_record_forgotten_script : List (Line kinds)
own_record_forgotten_script =
    Happens (Commands 0 (cmd.Host (obj 16777216))) ∷
    Happens (Commands 0 (cmd.Host (obj 16777217))) ∷
    Happens (Commands 0 cmd.Begin) ∷
    Happens (Commands 0 (cmd.Ask (obj 16777216) (kind.Value))) ∷
    Settle ∷
    Happens (Commands 0 (cmd.Put (obj 16777217) (kind.Add (pos 9)))) ∷
    Happens (Commands 0 cmd.End) ∷
    Settle ∷
    Happens (Commands 0 (cmd.Checkpoint (obj 16777216))) ∷
    Settle ∷
    Happens (Commands 0 (cmd.Checkpoint (obj 16777217))) ∷
    Settle ∷
    Happens (Commands 0 (cmd.Checkpoint (obj 0))) ∷
    Settle ∷
    Happens (Commands 0 (cmd.Forget (obj 16777216) 2)) ∷
    Settle ∷
    Happens (Commands 0 (cmd.Forget (obj 16777217) 2)) ∷
    Settle ∷
    Happens (Commands 0 (cmd.Forget (obj 0) 2)) ∷
    Settle ∷
    Happens (Commands 0 cmd.Trim) ∷
    Settle ∷
    Happens (Commands 0 (cmd.Checkpoint (obj 16777217))) ∷
    Settle ∷
    Happens (Commands 0 (cmd.Forget (obj 16777217) 3)) ∷
    Settle ∷
    Happens (Commands 0 (cmd.Decide 0)) ∷
    Settle ∷
    Happens (Commands 0 (cmd.Fate 0)) ∷
    Settle ∷
    Happens (Commands 0 (cmd.Rescue 0)) ∷
    Settle ∷
    Happens (Commands 0 (cmd.Forget (obj 16777217) 3)) ∷
    Settle ∷
    Happens (Commands 1 (cmd.Host (obj 16777216))) ∷
    Happens (Commands 1 (cmd.Host (obj 16777217))) ∷
    Happens (Commands 1 (cmd.Forget (obj 16777217) 3)) ∷
    Settle ∷ []

own_record_forgotten : shown (replay kinds own_record_forgotten_header own_record_forgotten_script) ≡ record {
  marks =
      mark 1 0 0 (told.Hosted (obj 16777216)) ∷
      mark 2 0 0 (told.Hosted (obj 16777217)) ∷
      mark 3 0 1 told.Begin ∷
      mark 5 0 1 (told.Asked (obj 16777216) (kind.Value) 0 (kind.Signed (pos 0))) ∷
      mark 6 0 1 (told.Put (obj 16777217) (kind.Add (pos 9))) ∷
      mark 7 0 1 told.End ∷
      mark 8 0 1 (told.Committed 0) ∷
      mark 10 0 0 (told.Saved (obj 16777216) 2 2) ∷
      mark 12 0 0 (told.Saved (obj 16777217) 3 3) ∷
      mark 14 0 0 (told.Saved (obj 0) 4 4) ∷
      mark 16 0 2 told.Begin ∷
      mark 16 0 2 (told.Put (obj 0) (kind.Mark (obj 16777216) 2)) ∷
      mark 16 0 2 told.End ∷
      mark 16 0 2 (told.Committed 5) ∷
      mark 16 0 0 (told.Marked (obj 16777216) 2) ∷
      mark 18 0 3 told.Begin ∷
      mark 18 0 3 (told.Put (obj 0) (kind.Mark (obj 16777217) 2)) ∷
      mark 18 0 3 told.End ∷
      mark 18 0 3 (told.Committed 6) ∷
      mark 18 0 0 (told.Marked (obj 16777217) 2) ∷
      mark 20 0 4 told.Begin ∷
      mark 20 0 4 (told.Put (obj 0) (kind.Mark (obj 0) 2)) ∷
      mark 20 0 4 told.End ∷
      mark 20 0 4 (told.Committed 7) ∷
      mark 20 0 0 (told.Marked (obj 0) 2) ∷
      mark 22 0 0 (told.Trimmed 2) ∷
      mark 24 0 0 (told.Saved (obj 16777217) 8 8) ∷
      mark 26 0 0 (told.Refused (cause.OpenDecision 0)) ∷
      mark 28 0 0 (told.Refused (cause.Forgotten 0 2)) ∷
      mark 30 0 0 (told.Fate 0 (Some true)) ∷
      mark 32 0 0 (told.Rescued 0 (Some true)) ∷
      mark 34 0 5 told.Begin ∷
      mark 34 0 5 (told.Put (obj 0) (kind.Mark (obj 16777217) 3)) ∷
      mark 34 0 5 told.End ∷
      mark 34 0 5 (told.Committed 10) ∷
      mark 34 0 0 (told.Marked (obj 16777217) 3) ∷
      mark 35 1 0 (told.Hosted (obj 16777216)) ∷
      mark 36 1 0 (told.Hosted (obj 16777217)) ∷
      mark 38 1 1 told.Begin ∷
      mark 38 1 1 (told.Put (obj 0) (kind.Mark (obj 16777217) 3)) ∷
      mark 38 1 1 told.End ∷
      mark 38 1 1 (told.Committed 11) ∷
      mark 38 1 0 (told.Marked (obj 16777217) 3) ∷ [];
  dones =
      done 0 0 1 ((obj 16777217, (kind.Add (pos 9))) ∷ []) ∷
      done 5 0 2 ((obj 0, (kind.Mark (obj 16777216) 2)) ∷ []) ∷
      done 6 0 3 ((obj 0, (kind.Mark (obj 16777217) 2)) ∷ []) ∷
      done 7 0 4 ((obj 0, (kind.Mark (obj 0) 2)) ∷ []) ∷
      done 10 0 5 ((obj 0, (kind.Mark (obj 16777217) 3)) ∷ []) ∷
      done 11 1 1 ((obj 0, (kind.Mark (obj 16777217) 3)) ∷ []) ∷ [];
}
unfolding u8_at u16_at u32_at u64_at raw_at fixed_at read_many spell_many fit_many marks reads writes keys new_fields old_fields body entry node_eq bytes_eq bytes_lt part_lt cell_eq chain_of units_of next_of change_fault new_unit unit_ask first_missing on_ask unit_step new_layout layout_ask on_layout_ask layout_step reply work_asks put_cell get_cell fill_cell probe work_feed cell_feed entry_size needs_decision page_of entry_of new_seqr seqr_step seqr_tick append_work_asks append_start append_feed append_again sync_work_asks sync_start sync_feed walk_on walk_start walk_feed no_versions based version_of with_change parts_of decision_in view_start view_version view_parts unknown_in changed_in verdict view_outcome step_at play_on play read_fault write_fault commit_record open_decision checkpoint bases_in load_from view_base view_bases may_forget commit_at past_at rescue_turn trim_start trim_feed copy_work_asks copy_start copy_feed reconf_work_asks reconf_start reconf_feed reconf_latest new_client entries_at copy_fault tests refusal appends syncs walked task_asks client_asks walks task_feed task_again accepts client_command client_deliver client_tick fields_size decided newest log_of entries_of members path_on path changes_below version outcome history_of start latest log history unit_moves layout_moves seqr_moves client_turned happens limit_of drain_on drain tick_all rounds settle line lines
own_record_forgotten = refl

abbrev pub own_record_passed_header : Header
own_record_passed_header = record { units = 1; layouts = 1; seqs = 1; clients = 3; limit = 100; chains = (0 ∷ []) ∷ []; objects = obj 16777216 ∷ obj 16777217 ∷ [] }

abbrev pub own_record_passed_script : List (Line kinds)
own_record_passed_script =
    Happens (Commands 0 (cmd.Host (obj 16777216))) ∷
    Happens (Commands 2 (cmd.Host (obj 16777216))) ∷
    Happens (Commands 2 (cmd.Host (obj 16777217))) ∷
    Happens (Commands 0 cmd.Begin) ∷
    Happens (Commands 0 (cmd.Ask (obj 16777216) (kind.Value))) ∷
    Settle ∷
    Happens (Commands 0 (cmd.Put (obj 16777217) (kind.Add (pos 9)))) ∷
    Happens (Commands 0 cmd.End) ∷
    Settle ∷
    Update 1 (obj 16777216) (kind.Add (pos 1)) ∷
    Settle ∷
    Happens (Commands 2 (cmd.Checkpoint (obj 16777216))) ∷
    Settle ∷
    Happens (Commands 2 (cmd.Checkpoint (obj 16777217))) ∷
    Settle ∷
    Happens (Commands 2 (cmd.Checkpoint (obj 0))) ∷
    Settle ∷
    Happens (Commands 2 (cmd.Forget (obj 16777216) 3)) ∷
    Settle ∷
    Happens (Commands 2 (cmd.Forget (obj 16777217) 3)) ∷
    Settle ∷
    Happens (Commands 2 (cmd.Forget (obj 0) 3)) ∷
    Settle ∷
    Happens (Commands 2 cmd.Trim) ∷
    Settle ∷
    Happens (Commands 0 cmd.Begin) ∷
    Happens (Commands 0 (cmd.Ask (obj 16777216) (kind.Value))) ∷
    Settle ∷
    Happens (Commands 0 cmd.End) ∷
    Happens (Commands 0 (cmd.Fate 0)) ∷
    Settle ∷
    Happens (Commands 0 (cmd.Decide 0)) ∷
    Settle ∷ []

own_record_passed : shown (replay kinds own_record_passed_header own_record_passed_script) ≡ record {
  marks =
      mark 1 0 0 (told.Hosted (obj 16777216)) ∷
      mark 2 2 0 (told.Hosted (obj 16777216)) ∷
      mark 3 2 0 (told.Hosted (obj 16777217)) ∷
      mark 4 0 1 told.Begin ∷
      mark 6 0 1 (told.Asked (obj 16777216) (kind.Value) 0 (kind.Signed (pos 0))) ∷
      mark 7 0 1 (told.Put (obj 16777217) (kind.Add (pos 9))) ∷
      mark 8 0 1 told.End ∷
      mark 9 0 1 (told.Committed 0) ∷
      mark 10 1 1 told.Begin ∷
      mark 10 1 1 (told.Put (obj 16777216) (kind.Add (pos 1))) ∷
      mark 10 1 1 told.End ∷
      mark 11 1 1 (told.Committed 2) ∷
      mark 13 2 0 (told.Saved (obj 16777216) 3 3) ∷
      mark 15 2 0 (told.Saved (obj 16777217) 4 4) ∷
      mark 17 2 0 (told.Saved (obj 0) 5 5) ∷
      mark 19 2 1 told.Begin ∷
      mark 19 2 1 (told.Put (obj 0) (kind.Mark (obj 16777216) 3)) ∷
      mark 19 2 1 told.End ∷
      mark 19 2 1 (told.Committed 6) ∷
      mark 19 2 0 (told.Marked (obj 16777216) 3) ∷
      mark 21 2 2 told.Begin ∷
      mark 21 2 2 (told.Put (obj 0) (kind.Mark (obj 16777217) 3)) ∷
      mark 21 2 2 told.End ∷
      mark 21 2 2 (told.Committed 7) ∷
      mark 21 2 0 (told.Marked (obj 16777217) 3) ∷
      mark 23 2 3 told.Begin ∷
      mark 23 2 3 (told.Put (obj 0) (kind.Mark (obj 0) 3)) ∷
      mark 23 2 3 told.End ∷
      mark 23 2 3 (told.Committed 8) ∷
      mark 23 2 0 (told.Marked (obj 0) 3) ∷
      mark 25 2 0 (told.Trimmed 3) ∷
      mark 26 0 2 told.Begin ∷
      mark 28 0 2 (told.Asked (obj 16777216) (kind.Value) 9 (kind.Signed (pos 1))) ∷
      mark 29 0 2 told.End ∷
      mark 29 0 2 (told.Committed 9) ∷
      mark 31 0 0 (told.Refused (cause.Undecided 0 (obj 16777216))) ∷
      mark 33 0 0 (told.Refused (cause.Forgotten 0 3)) ∷ [];
  dones =
      done 0 0 1 ((obj 16777217, (kind.Add (pos 9))) ∷ []) ∷
      done 2 1 1 ((obj 16777216, (kind.Add (pos 1))) ∷ []) ∷
      done 6 2 1 ((obj 0, (kind.Mark (obj 16777216) 3)) ∷ []) ∷
      done 7 2 2 ((obj 0, (kind.Mark (obj 16777217) 3)) ∷ []) ∷
      done 8 2 3 ((obj 0, (kind.Mark (obj 0) 3)) ∷ []) ∷ [];
}
unfolding u8_at u16_at u32_at u64_at raw_at fixed_at read_many spell_many fit_many marks reads writes keys new_fields old_fields body entry node_eq bytes_eq bytes_lt part_lt cell_eq chain_of units_of next_of change_fault new_unit unit_ask first_missing on_ask unit_step new_layout layout_ask on_layout_ask layout_step reply work_asks put_cell get_cell fill_cell probe work_feed cell_feed entry_size needs_decision page_of entry_of new_seqr seqr_step seqr_tick append_work_asks append_start append_feed append_again sync_work_asks sync_start sync_feed walk_on walk_start walk_feed no_versions based version_of with_change parts_of decision_in view_start view_version view_parts unknown_in changed_in verdict view_outcome step_at play_on play read_fault write_fault commit_record open_decision checkpoint bases_in load_from view_base view_bases may_forget commit_at past_at rescue_turn trim_start trim_feed copy_work_asks copy_start copy_feed reconf_work_asks reconf_start reconf_feed reconf_latest new_client entries_at copy_fault tests refusal appends syncs walked task_asks client_asks walks task_feed task_again accepts client_command client_deliver client_tick fields_size decided newest log_of entries_of members path_on path changes_below version outcome history_of start latest log history unit_moves layout_moves seqr_moves client_turned happens limit_of drain_on drain tick_all rounds settle line lines
own_record_passed = refl
