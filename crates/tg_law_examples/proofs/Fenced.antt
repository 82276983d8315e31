-- Worked runs: the marks and the history that each gives.
use Rattle.std.proofs.Common.{◌≡◌, List, [], ◌∷◌, refl, None}
use Rattle.std.specs.Prelude.{pos}
use Rattle.tg_base.specs.Clusters.{Header}
use Rattle.tg_model.specs.declared.command.Command.TheVariants as cmd
use Rattle.tg_model.specs.declared.command.Event.TheVariants.{Command as Commands, Deliver, Lose, Tick}
use Rattle.tg_model.specs.declared.trace.What.TheVariants as told
use Rattle.tg_base.specs.Orders.{node_eq}
use Rattle.tg_codec.specs.Reading.{u8_at, u16_at, u32_at, u64_at, raw_at, fixed_at}
use Rattle.tg_codec.specs.Codec.{read_many, spell_many, fit_many}
use Rattle.tg_entry.specs.Reads.{marks, reads}
use Rattle.tg_entry.specs.Writes.{writes}
use Rattle.tg_entry.specs.Checkpoints.{keys, new_fields, old_fields}
use Rattle.tg_entry.specs.Format.{body, entry}
use Rattle.tg_entry.specs.Needs.{needs_decision}
use Rattle.tg_protocol.specs.Words.{bytes_eq, bytes_lt, part_lt, cell_eq, client_id}
use Rattle.tg_protocol.specs.Layouts.{chain_of, units_of, next_of, change_fault}
use Rattle.tg_protocol.specs.Units.{new_unit, unit_ask, first_missing, on_ask, unit_step}
use Rattle.tg_protocol.specs.LayoutServers.{new_layout, layout_ask, on_layout_ask, layout_step}
use Rattle.tg_protocol.specs.Replies.{reply}
use Rattle.tg_protocol.specs.Cells.{work_asks, put_cell, get_cell, fill_cell, probe, work_feed, cell_feed}
use Rattle.tg_protocol.specs.Entries.{entry_size}
use Rattle.tg_protocol.specs.Pages.{page_of, entry_of}
use Rattle.tg_protocol.specs.Sequencers.{new_seqr, seqr_step, seqr_tick}
use Rattle.tg_protocol.specs.Appending.{append_work_asks, append_start, append_feed, append_again}
use Rattle.tg_protocol.specs.Syncing.{sync_work_asks, sync_start, sync_feed}
use Rattle.tg_protocol.specs.Walking.{walk_on, walk_start, walk_feed}
use Rattle.tg_protocol.specs.Versions.{no_versions, based, version_of, with_change, parts_of}
use Rattle.tg_protocol.specs.Views.{decision_in, view_start, view_version, view_parts, unknown_in, changed_in, verdict, view_outcome, step_at, play_on, play}
use Rattle.tg_protocol.specs.Transactions.{read_fault, write_fault, commit_record}
use Rattle.tg_protocol.specs.Checkpoints.{open_decision, checkpoint, bases_in, load_from, view_base, view_bases, may_forget}
use Rattle.tg_protocol.specs.Past.{commit_at, past_at, rescue_turn}
use Rattle.tg_protocol.specs.Trimming.{trim_start, trim_feed, copy_work_asks, copy_start, copy_feed}
use Rattle.tg_protocol.specs.Reconfiguring.{reconf_work_asks, reconf_start, reconf_feed, reconf_latest}
use Rattle.tg_protocol.specs.Clients.{new_client, entries_at, copy_fault, tests, refusal}
use Rattle.tg_protocol.specs.Answers.{appends, syncs, walked}
use Rattle.tg_protocol.specs.ClientSteps.{task_asks, client_asks, walks, task_feed, task_again, accepts, client_command, client_deliver, client_tick}
use Rattle.tg_protocol.specs.Sizes.{fields_size}
use Rattle.tg_protocol.specs.Logs.{decided, newest, log_of, entries_of, members, path_on, path, changes_below, version, outcome, history_of}
use Rattle.tg_protocol.specs.Worlds.{start, latest, log, history, unit_moves, layout_moves, seqr_moves, client_turned, happens, limit_of, drain_on, drain, tick_all, rounds, settle, line, lines, Line, Happens, Update, Drain, Settle, replay}
use Rattle.tg_protocol.specs.Runs.{run}
use Rattle.tg_protocol.specs.Walked.{walks_end}
use Rattle.tg_law_examples.proofs.SevenKinds.{kinds}
use Rattle.tg_law_examples.proofs.SevenKinds as kind
use Rattle.tg_law_examples.proofs.Shown.{shown, obj, mark, done}

abbrev pub fenced_trim_header : Header
fenced_trim_header = record { units = 2; layouts = 1; seqs = 2; clients = 3; limit = 100; chains = (0 ∷ 1 ∷ []) ∷ []; objects = obj 16777216 ∷ [] }

abbrev pub fenced_trim_script : List (Line kinds)
fenced_trim_script =
    Update 0 (obj 16777216) (kind.Add (pos 5)) ∷
    Settle ∷
    Happens (Commands 1 (cmd.Host (obj 16777216))) ∷
    Happens (Commands 1 (cmd.Checkpoint (obj 16777216))) ∷
    Settle ∷
    Happens (Commands 1 (cmd.Checkpoint (obj 0))) ∷
    Settle ∷
    Happens (Commands 1 (cmd.Forget (obj 16777216) 1)) ∷
    Settle ∷
    Happens (Commands 1 (cmd.Forget (obj 0) 1)) ∷
    Settle ∷
    Happens (Commands 1 cmd.Trim) ∷
    Happens (Deliver 64) ∷
    Happens (Deliver 65) ∷
    Happens (Deliver 66) ∷
    Happens (Deliver 67) ∷
    Happens (Deliver 68) ∷
    Happens (Deliver 69) ∷
    Happens (Lose 70) ∷
    Happens (Lose 71) ∷
    Happens (Commands 0 (cmd.Reconf (record { seq = 1; drop = []; opened = []; join = None }))) ∷
    Drain ∷
    Happens (Tick (client_id 0)) ∷
    Drain ∷
    Happens (Deliver 70) ∷
    Happens (Deliver 71) ∷
    Drain ∷
    Happens (Tick (client_id 1)) ∷
    Drain ∷ []

fenced_trim : shown (replay kinds fenced_trim_header fenced_trim_script) ≡ record {
  marks =
      mark 1 0 1 told.Begin ∷
      mark 1 0 1 (told.Put (obj 16777216) (kind.Add (pos 5))) ∷
      mark 1 0 1 told.End ∷
      mark 2 0 1 (told.Committed 0) ∷
      mark 3 1 0 (told.Hosted (obj 16777216)) ∷
      mark 5 1 0 (told.Saved (obj 16777216) 1 1) ∷
      mark 7 1 0 (told.Saved (obj 0) 2 2) ∷
      mark 9 1 1 told.Begin ∷
      mark 9 1 1 (told.Put (obj 0) (kind.Mark (obj 16777216) 1)) ∷
      mark 9 1 1 told.End ∷
      mark 9 1 1 (told.Committed 3) ∷
      mark 9 1 0 (told.Marked (obj 16777216) 1) ∷
      mark 11 1 2 told.Begin ∷
      mark 11 1 2 (told.Put (obj 0) (kind.Mark (obj 0) 1)) ∷
      mark 11 1 2 told.End ∷
      mark 11 1 2 (told.Committed 4) ∷
      mark 11 1 0 (told.Marked (obj 0) 1) ∷
      mark 24 0 0 (told.Installed 2) ∷
      mark 27 1 0 (told.Trimmed 1) ∷ [];
  dones =
      done 0 0 1 ((obj 16777216, (kind.Add (pos 5))) ∷ []) ∷
      done 3 1 1 ((obj 0, (kind.Mark (obj 16777216) 1)) ∷ []) ∷
      done 4 1 2 ((obj 0, (kind.Mark (obj 0) 1)) ∷ []) ∷ [];
}
unfolding node_eq u8_at u16_at u32_at u64_at raw_at fixed_at read_many spell_many fit_many marks reads writes keys new_fields old_fields body entry needs_decision bytes_eq bytes_lt part_lt cell_eq chain_of units_of next_of change_fault new_unit unit_ask first_missing on_ask unit_step new_layout layout_ask on_layout_ask layout_step reply work_asks put_cell get_cell fill_cell probe work_feed cell_feed entry_size page_of entry_of new_seqr seqr_step seqr_tick append_work_asks append_start append_feed append_again sync_work_asks sync_start sync_feed walk_on walk_start walk_feed no_versions based version_of with_change parts_of decision_in view_start view_version view_parts unknown_in changed_in verdict view_outcome step_at play_on play read_fault write_fault commit_record open_decision checkpoint bases_in load_from view_base view_bases may_forget commit_at past_at rescue_turn trim_start trim_feed copy_work_asks copy_start copy_feed reconf_work_asks reconf_start reconf_feed reconf_latest new_client entries_at copy_fault tests refusal appends syncs walked task_asks client_asks walks task_feed task_again accepts client_command client_deliver client_tick fields_size decided newest log_of entries_of members path_on path changes_below version outcome history_of start latest log history unit_moves layout_moves seqr_moves client_turned happens limit_of drain_on drain tick_all rounds settle line lines run walks_end
fenced_trim = refl
