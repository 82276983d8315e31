-- Worked runs: the marks and the history that each gives.
use Rattle.std.proofs.Common.{◌≡◌, List, [], ◌∷◌, refl, None}
use Rattle.std.specs.Prelude.{pos}
use Rattle.tg_base.specs.Clusters.{Header}
use Rattle.tg_model.specs.declared.command.Command.TheVariants as cmd
use Rattle.tg_model.specs.declared.command.Event.TheVariants.{Command as Commands, Stop}
use Rattle.tg_model.specs.declared.trace.What.TheVariants as told
use Rattle.tg_codec.specs.Reading.{u8_at, u16_at, u32_at, u64_at, raw_at, fixed_at}
use Rattle.tg_codec.specs.Codec.{read_many, spell_many, fit_many}
use Rattle.tg_entry.specs.Reads.{marks, reads}
use Rattle.tg_entry.specs.Writes.{writes}
use Rattle.tg_entry.specs.Checkpoints.{keys, new_fields, old_fields}
use Rattle.tg_entry.specs.Format.{body, entry}
use Rattle.tg_base.specs.Orders.{node_eq}
use Rattle.tg_protocol.specs.Words.{bytes_eq, bytes_lt, part_lt, cell_eq, unit_id}
use Rattle.tg_protocol.specs.Layouts.{chain_of, units_of, next_of, change_fault}
use Rattle.tg_protocol.specs.Units.{new_unit, unit_ask, first_missing, on_ask, unit_step}
use Rattle.tg_protocol.specs.LayoutServers.{new_layout, layout_ask, on_layout_ask, layout_step}
use Rattle.tg_protocol.specs.Replies.{reply}
use Rattle.tg_protocol.specs.Cells.{work_asks, put_cell, get_cell, fill_cell, probe, work_feed, cell_feed}
use Rattle.tg_entry.specs.Needs.{needs_decision}
use Rattle.tg_protocol.specs.Entries.{entry_size}
use Rattle.tg_protocol.specs.Pages.{page_of, entry_of}
use Rattle.tg_protocol.specs.Sequencers.{new_seqr, seqr_step, seqr_tick}
use Rattle.tg_protocol.specs.Appending.{append_work_asks, append_start, append_feed, append_again}
use Rattle.tg_protocol.specs.Syncing.{sync_work_asks, sync_start, sync_feed}
use Rattle.tg_protocol.specs.Walking.{walk_on, walk_start, walk_feed}
use Rattle.tg_protocol.specs.Versions.{no_versions, based, version_of, with_change, parts_of}
use Rattle.tg_protocol.specs.Views.{decision_in, view_start, view_version, view_parts, unknown_in, changed_in, verdict, step_at, play_on, play}
use Rattle.tg_protocol.specs.Transactions.{read_fault, write_fault, commit_record}
use Rattle.tg_protocol.specs.Checkpoints.{open_decision, checkpoint, bases_in, load_from, view_base, view_bases, may_forget}
use Rattle.tg_protocol.specs.Past.{commit_at, past_at, rescue_turn}
use Rattle.tg_protocol.specs.Trimming.{trim_start, trim_feed, copy_work_asks, copy_start, copy_feed}
use Rattle.tg_protocol.specs.Reconfiguring.{reconf_work_asks, reconf_start, reconf_feed, reconf_latest}
use Rattle.tg_protocol.specs.Clients.{new_client, entries_at, copy_fault, tests, refusal}
use Rattle.tg_protocol.specs.Answers.{appends, syncs, walked}
use Rattle.tg_protocol.specs.ClientSteps.{task_asks, client_asks, walks, task_feed, task_again, accepts, client_command, client_deliver, client_tick}
use Rattle.tg_protocol.specs.Sizes.{fields_size}
use Rattle.tg_protocol.specs.Logs.{decided, newest, log_of, entries_of, members, path_on, path, changes_below, version, outcome, history_of}
use Rattle.tg_protocol.specs.Worlds.{start, latest, log, history, unit_moves, layout_moves, seqr_moves, client_turned, happens, limit_of, drain_on, drain, tick_all, rounds, settle, line, lines, Line, Happens, Update, Settle, replay}
use Rattle.tg_law_examples.proofs.SevenKinds.{kinds}
use Rattle.tg_law_examples.proofs.SevenKinds as kind
use Rattle.tg_law_examples.proofs.Shown.{shown, obj, mark, done}

abbrev pub long_run_header : Header
long_run_header = record { units = 4; layouts = 3; seqs = 2; clients = 3; limit = 10000; chains = (0 ∷ 1 ∷ []) ∷ (2 ∷ 3 ∷ []) ∷ []; objects = obj 16777216 ∷ obj 50331648 ∷ obj 67108864 ∷ [] }

abbrev pub long_run_script : List (Line kinds)
long_run_script =
    Update 0 (obj 50331648) (kind.Set (107 ∷ 48 ∷ []) (118 ∷ 48 ∷ [])) ∷
    Settle ∷
    Update 1 (obj 67108864) (kind.PushBack (111 ∷ 49 ∷ [])) ∷
    Settle ∷
    Update 2 (obj 16777216) (kind.Add (pos 2)) ∷
    Settle ∷
    Update 0 (obj 50331648) (kind.Set (107 ∷ 51 ∷ []) (118 ∷ 51 ∷ [])) ∷
    Settle ∷
    Update 1 (obj 67108864) (kind.PushBack (111 ∷ 52 ∷ [])) ∷
    Settle ∷
    Update 2 (obj 16777216) (kind.Add (pos 5)) ∷
    Settle ∷
    Update 0 (obj 50331648) (kind.Set (107 ∷ 54 ∷ []) (118 ∷ 54 ∷ [])) ∷
    Settle ∷
    Update 1 (obj 67108864) (kind.PushBack (111 ∷ 55 ∷ [])) ∷
    Settle ∷
    Update 2 (obj 16777216) (kind.Add (pos 8)) ∷
    Settle ∷
    Update 0 (obj 50331648) (kind.Set (107 ∷ 57 ∷ []) (118 ∷ 57 ∷ [])) ∷
    Settle ∷
    Update 1 (obj 67108864) (kind.PushBack (111 ∷ 49 ∷ 48 ∷ [])) ∷
    Settle ∷
    Update 2 (obj 16777216) (kind.Add (pos 11)) ∷
    Settle ∷
    Update 0 (obj 50331648) (kind.Set (107 ∷ 49 ∷ 50 ∷ []) (118 ∷ 49 ∷ 50 ∷ [])) ∷
    Settle ∷
    Update 1 (obj 67108864) (kind.PushBack (111 ∷ 49 ∷ 51 ∷ [])) ∷
    Settle ∷
    Update 2 (obj 16777216) (kind.Add (pos 14)) ∷
    Settle ∷
    Update 0 (obj 50331648) (kind.Set (107 ∷ 49 ∷ 53 ∷ []) (118 ∷ 49 ∷ 53 ∷ [])) ∷
    Settle ∷
    Update 1 (obj 67108864) (kind.PushBack (111 ∷ 49 ∷ 54 ∷ [])) ∷
    Settle ∷
    Update 2 (obj 16777216) (kind.Add (pos 17)) ∷
    Settle ∷
    Update 0 (obj 50331648) (kind.Set (107 ∷ 49 ∷ 56 ∷ []) (118 ∷ 49 ∷ 56 ∷ [])) ∷
    Settle ∷
    Update 1 (obj 67108864) (kind.PushBack (111 ∷ 49 ∷ 57 ∷ [])) ∷
    Settle ∷
    Update 2 (obj 16777216) (kind.Add (pos 20)) ∷
    Settle ∷
    Update 0 (obj 50331648) (kind.Set (107 ∷ 50 ∷ 49 ∷ []) (118 ∷ 50 ∷ 49 ∷ [])) ∷
    Settle ∷
    Update 1 (obj 67108864) (kind.PushBack (111 ∷ 50 ∷ 50 ∷ [])) ∷
    Settle ∷
    Update 2 (obj 16777216) (kind.Add (pos 23)) ∷
    Settle ∷
    Update 0 (obj 50331648) (kind.Set (107 ∷ 50 ∷ 52 ∷ []) (118 ∷ 50 ∷ 52 ∷ [])) ∷
    Settle ∷
    Update 1 (obj 67108864) (kind.PushBack (111 ∷ 50 ∷ 53 ∷ [])) ∷
    Settle ∷
    Update 2 (obj 16777216) (kind.Add (pos 26)) ∷
    Settle ∷
    Update 0 (obj 50331648) (kind.Set (107 ∷ 50 ∷ 55 ∷ []) (118 ∷ 50 ∷ 55 ∷ [])) ∷
    Settle ∷
    Update 1 (obj 67108864) (kind.PushBack (111 ∷ 50 ∷ 56 ∷ [])) ∷
    Settle ∷
    Update 2 (obj 16777216) (kind.Add (pos 29)) ∷
    Settle ∷
    Happens (Stop (unit_id 1)) ∷
    Happens (Commands 0 (cmd.Reconf (record { seq = 1; drop = 1 ∷ []; opened = []; join = None }))) ∷
    Settle ∷
    Update 0 (obj 50331648) (kind.Set (107 ∷ 51 ∷ 48 ∷ []) (118 ∷ 51 ∷ 48 ∷ [])) ∷
    Settle ∷
    Update 1 (obj 67108864) (kind.PushBack (111 ∷ 51 ∷ 49 ∷ [])) ∷
    Settle ∷
    Update 2 (obj 16777216) (kind.Add (pos 32)) ∷
    Settle ∷
    Update 0 (obj 50331648) (kind.Set (107 ∷ 51 ∷ 51 ∷ []) (118 ∷ 51 ∷ 51 ∷ [])) ∷
    Settle ∷
    Update 1 (obj 67108864) (kind.PushBack (111 ∷ 51 ∷ 52 ∷ [])) ∷
    Settle ∷
    Update 2 (obj 16777216) (kind.Add (pos 35)) ∷
    Settle ∷
    Update 0 (obj 50331648) (kind.Set (107 ∷ 51 ∷ 54 ∷ []) (118 ∷ 51 ∷ 54 ∷ [])) ∷
    Settle ∷
    Update 1 (obj 67108864) (kind.PushBack (111 ∷ 51 ∷ 55 ∷ [])) ∷
    Settle ∷
    Update 2 (obj 16777216) (kind.Add (pos 38)) ∷
    Settle ∷
    Update 0 (obj 50331648) (kind.Set (107 ∷ 51 ∷ 57 ∷ []) (118 ∷ 51 ∷ 57 ∷ [])) ∷
    Settle ∷
    Update 1 (obj 67108864) (kind.PushBack (111 ∷ 52 ∷ 48 ∷ [])) ∷
    Settle ∷
    Update 2 (obj 16777216) (kind.Add (pos 41)) ∷
    Settle ∷
    Update 0 (obj 50331648) (kind.Set (107 ∷ 52 ∷ 50 ∷ []) (118 ∷ 52 ∷ 50 ∷ [])) ∷
    Settle ∷
    Update 1 (obj 67108864) (kind.PushBack (111 ∷ 52 ∷ 51 ∷ [])) ∷
    Settle ∷
    Update 2 (obj 16777216) (kind.Add (pos 44)) ∷
    Settle ∷
    Update 0 (obj 50331648) (kind.Set (107 ∷ 52 ∷ 53 ∷ []) (118 ∷ 52 ∷ 53 ∷ [])) ∷
    Settle ∷
    Update 1 (obj 67108864) (kind.PushBack (111 ∷ 52 ∷ 54 ∷ [])) ∷
    Settle ∷
    Update 2 (obj 16777216) (kind.Add (pos 47)) ∷
    Settle ∷
    Update 0 (obj 50331648) (kind.Set (107 ∷ 52 ∷ 56 ∷ []) (118 ∷ 52 ∷ 56 ∷ [])) ∷
    Settle ∷
    Update 1 (obj 67108864) (kind.PushBack (111 ∷ 52 ∷ 57 ∷ [])) ∷
    Settle ∷
    Update 2 (obj 16777216) (kind.Add (pos 50)) ∷
    Settle ∷
    Update 0 (obj 50331648) (kind.Set (107 ∷ 53 ∷ 49 ∷ []) (118 ∷ 53 ∷ 49 ∷ [])) ∷
    Settle ∷
    Update 1 (obj 67108864) (kind.PushBack (111 ∷ 53 ∷ 50 ∷ [])) ∷
    Settle ∷
    Update 2 (obj 16777216) (kind.Add (pos 53)) ∷
    Settle ∷
    Update 0 (obj 50331648) (kind.Set (107 ∷ 53 ∷ 52 ∷ []) (118 ∷ 53 ∷ 52 ∷ [])) ∷
    Settle ∷
    Update 1 (obj 67108864) (kind.PushBack (111 ∷ 53 ∷ 53 ∷ [])) ∷
    Settle ∷
    Update 2 (obj 16777216) (kind.Add (pos 56)) ∷
    Settle ∷
    Update 0 (obj 50331648) (kind.Set (107 ∷ 53 ∷ 55 ∷ []) (118 ∷ 53 ∷ 55 ∷ [])) ∷
    Settle ∷
    Update 1 (obj 67108864) (kind.PushBack (111 ∷ 53 ∷ 56 ∷ [])) ∷
    Settle ∷
    Update 2 (obj 16777216) (kind.Add (pos 59)) ∷
    Settle ∷
    Happens (Commands 1 (cmd.Host (obj 16777216))) ∷
    Happens (Commands 1 (cmd.Host (obj 67108864))) ∷
    Happens (Commands 1 cmd.Begin) ∷
    Happens (Commands 1 (cmd.Ask (obj 16777216) (kind.Value))) ∷
    Settle ∷
    Happens (Commands 1 (cmd.Ask (obj 67108864) (kind.Len))) ∷
    Happens (Commands 1 (cmd.Put (obj 67108864) (kind.PushBack (116 ∷ 111 ∷ 116 ∷ 97 ∷ 108 ∷ 54 ∷ 49 ∷ 48 ∷ [])))) ∷
    Happens (Commands 1 cmd.End) ∷
    Settle ∷ []

long_run : shown (replay kinds long_run_header long_run_script) ≡ record {
  marks =
      mark 1 0 1 told.Begin ∷
      mark 1 0 1 (told.Put (obj 50331648) (kind.Set (107 ∷ 48 ∷ []) (118 ∷ 48 ∷ []))) ∷
      mark 1 0 1 told.End ∷
      mark 2 0 1 (told.Committed 0) ∷
      mark 3 1 1 told.Begin ∷
      mark 3 1 1 (told.Put (obj 67108864) (kind.PushBack (111 ∷ 49 ∷ []))) ∷
      mark 3 1 1 told.End ∷
      mark 4 1 1 (told.Committed 1) ∷
      mark 5 2 1 told.Begin ∷
      mark 5 2 1 (told.Put (obj 16777216) (kind.Add (pos 2))) ∷
      mark 5 2 1 told.End ∷
      mark 6 2 1 (told.Committed 2) ∷
      mark 7 0 2 told.Begin ∷
      mark 7 0 2 (told.Put (obj 50331648) (kind.Set (107 ∷ 51 ∷ []) (118 ∷ 51 ∷ []))) ∷
      mark 7 0 2 told.End ∷
      mark 8 0 2 (told.Committed 3) ∷
      mark 9 1 2 told.Begin ∷
      mark 9 1 2 (told.Put (obj 67108864) (kind.PushBack (111 ∷ 52 ∷ []))) ∷
      mark 9 1 2 told.End ∷
      mark 10 1 2 (told.Committed 4) ∷
      mark 11 2 2 told.Begin ∷
      mark 11 2 2 (told.Put (obj 16777216) (kind.Add (pos 5))) ∷
      mark 11 2 2 told.End ∷
      mark 12 2 2 (told.Committed 5) ∷
      mark 13 0 3 told.Begin ∷
      mark 13 0 3 (told.Put (obj 50331648) (kind.Set (107 ∷ 54 ∷ []) (118 ∷ 54 ∷ []))) ∷
      mark 13 0 3 told.End ∷
      mark 14 0 3 (told.Committed 6) ∷
      mark 15 1 3 told.Begin ∷
      mark 15 1 3 (told.Put (obj 67108864) (kind.PushBack (111 ∷ 55 ∷ []))) ∷
      mark 15 1 3 told.End ∷
      mark 16 1 3 (told.Committed 7) ∷
      mark 17 2 3 told.Begin ∷
      mark 17 2 3 (told.Put (obj 16777216) (kind.Add (pos 8))) ∷
      mark 17 2 3 told.End ∷
      mark 18 2 3 (told.Committed 8) ∷
      mark 19 0 4 told.Begin ∷
      mark 19 0 4 (told.Put (obj 50331648) (kind.Set (107 ∷ 57 ∷ []) (118 ∷ 57 ∷ []))) ∷
      mark 19 0 4 told.End ∷
      mark 20 0 4 (told.Committed 9) ∷
      mark 21 1 4 told.Begin ∷
      mark 21 1 4 (told.Put (obj 67108864) (kind.PushBack (111 ∷ 49 ∷ 48 ∷ []))) ∷
      mark 21 1 4 told.End ∷
      mark 22 1 4 (told.Committed 10) ∷
      mark 23 2 4 told.Begin ∷
      mark 23 2 4 (told.Put (obj 16777216) (kind.Add (pos 11))) ∷
      mark 23 2 4 told.End ∷
      mark 24 2 4 (told.Committed 11) ∷
      mark 25 0 5 told.Begin ∷
      mark 25 0 5 (told.Put (obj 50331648) (kind.Set (107 ∷ 49 ∷ 50 ∷ []) (118 ∷ 49 ∷ 50 ∷ []))) ∷
      mark 25 0 5 told.End ∷
      mark 26 0 5 (told.Committed 12) ∷
      mark 27 1 5 told.Begin ∷
      mark 27 1 5 (told.Put (obj 67108864) (kind.PushBack (111 ∷ 49 ∷ 51 ∷ []))) ∷
      mark 27 1 5 told.End ∷
      mark 28 1 5 (told.Committed 13) ∷
      mark 29 2 5 told.Begin ∷
      mark 29 2 5 (told.Put (obj 16777216) (kind.Add (pos 14))) ∷
      mark 29 2 5 told.End ∷
      mark 30 2 5 (told.Committed 14) ∷
      mark 31 0 6 told.Begin ∷
      mark 31 0 6 (told.Put (obj 50331648) (kind.Set (107 ∷ 49 ∷ 53 ∷ []) (118 ∷ 49 ∷ 53 ∷ []))) ∷
      mark 31 0 6 told.End ∷
      mark 32 0 6 (told.Committed 15) ∷
      mark 33 1 6 told.Begin ∷
      mark 33 1 6 (told.Put (obj 67108864) (kind.PushBack (111 ∷ 49 ∷ 54 ∷ []))) ∷
      mark 33 1 6 told.End ∷
      mark 34 1 6 (told.Committed 16) ∷
      mark 35 2 6 told.Begin ∷
      mark 35 2 6 (told.Put (obj 16777216) (kind.Add (pos 17))) ∷
      mark 35 2 6 told.End ∷
      mark 36 2 6 (told.Committed 17) ∷
      mark 37 0 7 told.Begin ∷
      mark 37 0 7 (told.Put (obj 50331648) (kind.Set (107 ∷ 49 ∷ 56 ∷ []) (118 ∷ 49 ∷ 56 ∷ []))) ∷
      mark 37 0 7 told.End ∷
      mark 38 0 7 (told.Committed 18) ∷
      mark 39 1 7 told.Begin ∷
      mark 39 1 7 (told.Put (obj 67108864) (kind.PushBack (111 ∷ 49 ∷ 57 ∷ []))) ∷
      mark 39 1 7 told.End ∷
      mark 40 1 7 (told.Committed 19) ∷
      mark 41 2 7 told.Begin ∷
      mark 41 2 7 (told.Put (obj 16777216) (kind.Add (pos 20))) ∷
      mark 41 2 7 told.End ∷
      mark 42 2 7 (told.Committed 20) ∷
      mark 43 0 8 told.Begin ∷
      mark 43 0 8 (told.Put (obj 50331648) (kind.Set (107 ∷ 50 ∷ 49 ∷ []) (118 ∷ 50 ∷ 49 ∷ []))) ∷
      mark 43 0 8 told.End ∷
      mark 44 0 8 (told.Committed 21) ∷
      mark 45 1 8 told.Begin ∷
      mark 45 1 8 (told.Put (obj 67108864) (kind.PushBack (111 ∷ 50 ∷ 50 ∷ []))) ∷
      mark 45 1 8 told.End ∷
      mark 46 1 8 (told.Committed 22) ∷
      mark 47 2 8 told.Begin ∷
      mark 47 2 8 (told.Put (obj 16777216) (kind.Add (pos 23))) ∷
      mark 47 2 8 told.End ∷
      mark 48 2 8 (told.Committed 23) ∷
      mark 49 0 9 told.Begin ∷
      mark 49 0 9 (told.Put (obj 50331648) (kind.Set (107 ∷ 50 ∷ 52 ∷ []) (118 ∷ 50 ∷ 52 ∷ []))) ∷
      mark 49 0 9 told.End ∷
      mark 50 0 9 (told.Committed 24) ∷
      mark 51 1 9 told.Begin ∷
      mark 51 1 9 (told.Put (obj 67108864) (kind.PushBack (111 ∷ 50 ∷ 53 ∷ []))) ∷
      mark 51 1 9 told.End ∷
      mark 52 1 9 (told.Committed 25) ∷
      mark 53 2 9 told.Begin ∷
      mark 53 2 9 (told.Put (obj 16777216) (kind.Add (pos 26))) ∷
      mark 53 2 9 told.End ∷
      mark 54 2 9 (told.Committed 26) ∷
      mark 55 0 10 told.Begin ∷
      mark 55 0 10 (told.Put (obj 50331648) (kind.Set (107 ∷ 50 ∷ 55 ∷ []) (118 ∷ 50 ∷ 55 ∷ []))) ∷
      mark 55 0 10 told.End ∷
      mark 56 0 10 (told.Committed 27) ∷
      mark 57 1 10 told.Begin ∷
      mark 57 1 10 (told.Put (obj 67108864) (kind.PushBack (111 ∷ 50 ∷ 56 ∷ []))) ∷
      mark 57 1 10 told.End ∷
      mark 58 1 10 (told.Committed 28) ∷
      mark 59 2 10 told.Begin ∷
      mark 59 2 10 (told.Put (obj 16777216) (kind.Add (pos 29))) ∷
      mark 59 2 10 told.End ∷
      mark 60 2 10 (told.Committed 29) ∷
      mark 63 0 0 (told.Installed 2) ∷
      mark 64 0 11 told.Begin ∷
      mark 64 0 11 (told.Put (obj 50331648) (kind.Set (107 ∷ 51 ∷ 48 ∷ []) (118 ∷ 51 ∷ 48 ∷ []))) ∷
      mark 64 0 11 told.End ∷
      mark 65 0 11 (told.Committed 30) ∷
      mark 66 1 11 told.Begin ∷
      mark 66 1 11 (told.Put (obj 67108864) (kind.PushBack (111 ∷ 51 ∷ 49 ∷ []))) ∷
      mark 66 1 11 told.End ∷
      mark 67 1 11 (told.Committed 31) ∷
      mark 68 2 11 told.Begin ∷
      mark 68 2 11 (told.Put (obj 16777216) (kind.Add (pos 32))) ∷
      mark 68 2 11 told.End ∷
      mark 69 2 11 (told.Committed 32) ∷
      mark 70 0 12 told.Begin ∷
      mark 70 0 12 (told.Put (obj 50331648) (kind.Set (107 ∷ 51 ∷ 51 ∷ []) (118 ∷ 51 ∷ 51 ∷ []))) ∷
      mark 70 0 12 told.End ∷
      mark 71 0 12 (told.Committed 33) ∷
      mark 72 1 12 told.Begin ∷
      mark 72 1 12 (told.Put (obj 67108864) (kind.PushBack (111 ∷ 51 ∷ 52 ∷ []))) ∷
      mark 72 1 12 told.End ∷
      mark 73 1 12 (told.Committed 34) ∷
      mark 74 2 12 told.Begin ∷
      mark 74 2 12 (told.Put (obj 16777216) (kind.Add (pos 35))) ∷
      mark 74 2 12 told.End ∷
      mark 75 2 12 (told.Committed 35) ∷
      mark 76 0 13 told.Begin ∷
      mark 76 0 13 (told.Put (obj 50331648) (kind.Set (107 ∷ 51 ∷ 54 ∷ []) (118 ∷ 51 ∷ 54 ∷ []))) ∷
      mark 76 0 13 told.End ∷
      mark 77 0 13 (told.Committed 36) ∷
      mark 78 1 13 told.Begin ∷
      mark 78 1 13 (told.Put (obj 67108864) (kind.PushBack (111 ∷ 51 ∷ 55 ∷ []))) ∷
      mark 78 1 13 told.End ∷
      mark 79 1 13 (told.Committed 37) ∷
      mark 80 2 13 told.Begin ∷
      mark 80 2 13 (told.Put (obj 16777216) (kind.Add (pos 38))) ∷
      mark 80 2 13 told.End ∷
      mark 81 2 13 (told.Committed 38) ∷
      mark 82 0 14 told.Begin ∷
      mark 82 0 14 (told.Put (obj 50331648) (kind.Set (107 ∷ 51 ∷ 57 ∷ []) (118 ∷ 51 ∷ 57 ∷ []))) ∷
      mark 82 0 14 told.End ∷
      mark 83 0 14 (told.Committed 39) ∷
      mark 84 1 14 told.Begin ∷
      mark 84 1 14 (told.Put (obj 67108864) (kind.PushBack (111 ∷ 52 ∷ 48 ∷ []))) ∷
      mark 84 1 14 told.End ∷
      mark 85 1 14 (told.Committed 40) ∷
      mark 86 2 14 told.Begin ∷
      mark 86 2 14 (told.Put (obj 16777216) (kind.Add (pos 41))) ∷
      mark 86 2 14 told.End ∷
      mark 87 2 14 (told.Committed 41) ∷
      mark 88 0 15 told.Begin ∷
      mark 88 0 15 (told.Put (obj 50331648) (kind.Set (107 ∷ 52 ∷ 50 ∷ []) (118 ∷ 52 ∷ 50 ∷ []))) ∷
      mark 88 0 15 told.End ∷
      mark 89 0 15 (told.Committed 42) ∷
      mark 90 1 15 told.Begin ∷
      mark 90 1 15 (told.Put (obj 67108864) (kind.PushBack (111 ∷ 52 ∷ 51 ∷ []))) ∷
      mark 90 1 15 told.End ∷
      mark 91 1 15 (told.Committed 43) ∷
      mark 92 2 15 told.Begin ∷
      mark 92 2 15 (told.Put (obj 16777216) (kind.Add (pos 44))) ∷
      mark 92 2 15 told.End ∷
      mark 93 2 15 (told.Committed 44) ∷
      mark 94 0 16 told.Begin ∷
      mark 94 0 16 (told.Put (obj 50331648) (kind.Set (107 ∷ 52 ∷ 53 ∷ []) (118 ∷ 52 ∷ 53 ∷ []))) ∷
      mark 94 0 16 told.End ∷
      mark 95 0 16 (told.Committed 45) ∷
      mark 96 1 16 told.Begin ∷
      mark 96 1 16 (told.Put (obj 67108864) (kind.PushBack (111 ∷ 52 ∷ 54 ∷ []))) ∷
      mark 96 1 16 told.End ∷
      mark 97 1 16 (told.Committed 46) ∷
      mark 98 2 16 told.Begin ∷
      mark 98 2 16 (told.Put (obj 16777216) (kind.Add (pos 47))) ∷
      mark 98 2 16 told.End ∷
      mark 99 2 16 (told.Committed 47) ∷
      mark 100 0 17 told.Begin ∷
      mark 100 0 17 (told.Put (obj 50331648) (kind.Set (107 ∷ 52 ∷ 56 ∷ []) (118 ∷ 52 ∷ 56 ∷ []))) ∷
      mark 100 0 17 told.End ∷
      mark 101 0 17 (told.Committed 48) ∷
      mark 102 1 17 told.Begin ∷
      mark 102 1 17 (told.Put (obj 67108864) (kind.PushBack (111 ∷ 52 ∷ 57 ∷ []))) ∷
      mark 102 1 17 told.End ∷
      mark 103 1 17 (told.Committed 49) ∷
      mark 104 2 17 told.Begin ∷
      mark 104 2 17 (told.Put (obj 16777216) (kind.Add (pos 50))) ∷
      mark 104 2 17 told.End ∷
      mark 105 2 17 (told.Committed 50) ∷
      mark 106 0 18 told.Begin ∷
      mark 106 0 18 (told.Put (obj 50331648) (kind.Set (107 ∷ 53 ∷ 49 ∷ []) (118 ∷ 53 ∷ 49 ∷ []))) ∷
      mark 106 0 18 told.End ∷
      mark 107 0 18 (told.Committed 51) ∷
      mark 108 1 18 told.Begin ∷
      mark 108 1 18 (told.Put (obj 67108864) (kind.PushBack (111 ∷ 53 ∷ 50 ∷ []))) ∷
      mark 108 1 18 told.End ∷
      mark 109 1 18 (told.Committed 52) ∷
      mark 110 2 18 told.Begin ∷
      mark 110 2 18 (told.Put (obj 16777216) (kind.Add (pos 53))) ∷
      mark 110 2 18 told.End ∷
      mark 111 2 18 (told.Committed 53) ∷
      mark 112 0 19 told.Begin ∷
      mark 112 0 19 (told.Put (obj 50331648) (kind.Set (107 ∷ 53 ∷ 52 ∷ []) (118 ∷ 53 ∷ 52 ∷ []))) ∷
      mark 112 0 19 told.End ∷
      mark 113 0 19 (told.Committed 54) ∷
      mark 114 1 19 told.Begin ∷
      mark 114 1 19 (told.Put (obj 67108864) (kind.PushBack (111 ∷ 53 ∷ 53 ∷ []))) ∷
      mark 114 1 19 told.End ∷
      mark 115 1 19 (told.Committed 55) ∷
      mark 116 2 19 told.Begin ∷
      mark 116 2 19 (told.Put (obj 16777216) (kind.Add (pos 56))) ∷
      mark 116 2 19 told.End ∷
      mark 117 2 19 (told.Committed 56) ∷
      mark 118 0 20 told.Begin ∷
      mark 118 0 20 (told.Put (obj 50331648) (kind.Set (107 ∷ 53 ∷ 55 ∷ []) (118 ∷ 53 ∷ 55 ∷ []))) ∷
      mark 118 0 20 told.End ∷
      mark 119 0 20 (told.Committed 57) ∷
      mark 120 1 20 told.Begin ∷
      mark 120 1 20 (told.Put (obj 67108864) (kind.PushBack (111 ∷ 53 ∷ 56 ∷ []))) ∷
      mark 120 1 20 told.End ∷
      mark 121 1 20 (told.Committed 58) ∷
      mark 122 2 20 told.Begin ∷
      mark 122 2 20 (told.Put (obj 16777216) (kind.Add (pos 59))) ∷
      mark 122 2 20 told.End ∷
      mark 123 2 20 (told.Committed 59) ∷
      mark 124 1 0 (told.Hosted (obj 16777216)) ∷
      mark 125 1 0 (told.Hosted (obj 67108864)) ∷
      mark 126 1 21 told.Begin ∷
      mark 128 1 21 (told.Asked (obj 16777216) (kind.Value) 60 (kind.Signed (pos 610))) ∷
      mark 129 1 21 (told.Asked (obj 67108864) (kind.Len) 60 (kind.Number 20)) ∷
      mark 130 1 21 (told.Put (obj 67108864) (kind.PushBack (116 ∷ 111 ∷ 116 ∷ 97 ∷ 108 ∷ 54 ∷ 49 ∷ 48 ∷ []))) ∷
      mark 131 1 21 told.End ∷
      mark 132 1 21 (told.Committed 60) ∷ [];
  dones =
      done 0 0 1 ((obj 50331648, (kind.Set (107 ∷ 48 ∷ []) (118 ∷ 48 ∷ []))) ∷ []) ∷
      done 1 1 1 ((obj 67108864, (kind.PushBack (111 ∷ 49 ∷ []))) ∷ []) ∷
      done 2 2 1 ((obj 16777216, (kind.Add (pos 2))) ∷ []) ∷
      done 3 0 2 ((obj 50331648, (kind.Set (107 ∷ 51 ∷ []) (118 ∷ 51 ∷ []))) ∷ []) ∷
      done 4 1 2 ((obj 67108864, (kind.PushBack (111 ∷ 52 ∷ []))) ∷ []) ∷
      done 5 2 2 ((obj 16777216, (kind.Add (pos 5))) ∷ []) ∷
      done 6 0 3 ((obj 50331648, (kind.Set (107 ∷ 54 ∷ []) (118 ∷ 54 ∷ []))) ∷ []) ∷
      done 7 1 3 ((obj 67108864, (kind.PushBack (111 ∷ 55 ∷ []))) ∷ []) ∷
      done 8 2 3 ((obj 16777216, (kind.Add (pos 8))) ∷ []) ∷
      done 9 0 4 ((obj 50331648, (kind.Set (107 ∷ 57 ∷ []) (118 ∷ 57 ∷ []))) ∷ []) ∷
      done 10 1 4 ((obj 67108864, (kind.PushBack (111 ∷ 49 ∷ 48 ∷ []))) ∷ []) ∷
      done 11 2 4 ((obj 16777216, (kind.Add (pos 11))) ∷ []) ∷
      done 12 0 5 ((obj 50331648, (kind.Set (107 ∷ 49 ∷ 50 ∷ []) (118 ∷ 49 ∷ 50 ∷ []))) ∷ []) ∷
      done 13 1 5 ((obj 67108864, (kind.PushBack (111 ∷ 49 ∷ 51 ∷ []))) ∷ []) ∷
      done 14 2 5 ((obj 16777216, (kind.Add (pos 14))) ∷ []) ∷
      done 15 0 6 ((obj 50331648, (kind.Set (107 ∷ 49 ∷ 53 ∷ []) (118 ∷ 49 ∷ 53 ∷ []))) ∷ []) ∷
      done 16 1 6 ((obj 67108864, (kind.PushBack (111 ∷ 49 ∷ 54 ∷ []))) ∷ []) ∷
      done 17 2 6 ((obj 16777216, (kind.Add (pos 17))) ∷ []) ∷
      done 18 0 7 ((obj 50331648, (kind.Set (107 ∷ 49 ∷ 56 ∷ []) (118 ∷ 49 ∷ 56 ∷ []))) ∷ []) ∷
      done 19 1 7 ((obj 67108864, (kind.PushBack (111 ∷ 49 ∷ 57 ∷ []))) ∷ []) ∷
      done 20 2 7 ((obj 16777216, (kind.Add (pos 20))) ∷ []) ∷
      done 21 0 8 ((obj 50331648, (kind.Set (107 ∷ 50 ∷ 49 ∷ []) (118 ∷ 50 ∷ 49 ∷ []))) ∷ []) ∷
      done 22 1 8 ((obj 67108864, (kind.PushBack (111 ∷ 50 ∷ 50 ∷ []))) ∷ []) ∷
      done 23 2 8 ((obj 16777216, (kind.Add (pos 23))) ∷ []) ∷
      done 24 0 9 ((obj 50331648, (kind.Set (107 ∷ 50 ∷ 52 ∷ []) (118 ∷ 50 ∷ 52 ∷ []))) ∷ []) ∷
      done 25 1 9 ((obj 67108864, (kind.PushBack (111 ∷ 50 ∷ 53 ∷ []))) ∷ []) ∷
      done 26 2 9 ((obj 16777216, (kind.Add (pos 26))) ∷ []) ∷
      done 27 0 10 ((obj 50331648, (kind.Set (107 ∷ 50 ∷ 55 ∷ []) (118 ∷ 50 ∷ 55 ∷ []))) ∷ []) ∷
      done 28 1 10 ((obj 67108864, (kind.PushBack (111 ∷ 50 ∷ 56 ∷ []))) ∷ []) ∷
      done 29 2 10 ((obj 16777216, (kind.Add (pos 29))) ∷ []) ∷
      done 30 0 11 ((obj 50331648, (kind.Set (107 ∷ 51 ∷ 48 ∷ []) (118 ∷ 51 ∷ 48 ∷ []))) ∷ []) ∷
      done 31 1 11 ((obj 67108864, (kind.PushBack (111 ∷ 51 ∷ 49 ∷ []))) ∷ []) ∷
      done 32 2 11 ((obj 16777216, (kind.Add (pos 32))) ∷ []) ∷
      done 33 0 12 ((obj 50331648, (kind.Set (107 ∷ 51 ∷ 51 ∷ []) (118 ∷ 51 ∷ 51 ∷ []))) ∷ []) ∷
      done 34 1 12 ((obj 67108864, (kind.PushBack (111 ∷ 51 ∷ 52 ∷ []))) ∷ []) ∷
      done 35 2 12 ((obj 16777216, (kind.Add (pos 35))) ∷ []) ∷
      done 36 0 13 ((obj 50331648, (kind.Set (107 ∷ 51 ∷ 54 ∷ []) (118 ∷ 51 ∷ 54 ∷ []))) ∷ []) ∷
      done 37 1 13 ((obj 67108864, (kind.PushBack (111 ∷ 51 ∷ 55 ∷ []))) ∷ []) ∷
      done 38 2 13 ((obj 16777216, (kind.Add (pos 38))) ∷ []) ∷
      done 39 0 14 ((obj 50331648, (kind.Set (107 ∷ 51 ∷ 57 ∷ []) (118 ∷ 51 ∷ 57 ∷ []))) ∷ []) ∷
      done 40 1 14 ((obj 67108864, (kind.PushBack (111 ∷ 52 ∷ 48 ∷ []))) ∷ []) ∷
      done 41 2 14 ((obj 16777216, (kind.Add (pos 41))) ∷ []) ∷
      done 42 0 15 ((obj 50331648, (kind.Set (107 ∷ 52 ∷ 50 ∷ []) (118 ∷ 52 ∷ 50 ∷ []))) ∷ []) ∷
      done 43 1 15 ((obj 67108864, (kind.PushBack (111 ∷ 52 ∷ 51 ∷ []))) ∷ []) ∷
      done 44 2 15 ((obj 16777216, (kind.Add (pos 44))) ∷ []) ∷
      done 45 0 16 ((obj 50331648, (kind.Set (107 ∷ 52 ∷ 53 ∷ []) (118 ∷ 52 ∷ 53 ∷ []))) ∷ []) ∷
      done 46 1 16 ((obj 67108864, (kind.PushBack (111 ∷ 52 ∷ 54 ∷ []))) ∷ []) ∷
      done 47 2 16 ((obj 16777216, (kind.Add (pos 47))) ∷ []) ∷
      done 48 0 17 ((obj 50331648, (kind.Set (107 ∷ 52 ∷ 56 ∷ []) (118 ∷ 52 ∷ 56 ∷ []))) ∷ []) ∷
      done 49 1 17 ((obj 67108864, (kind.PushBack (111 ∷ 52 ∷ 57 ∷ []))) ∷ []) ∷
      done 50 2 17 ((obj 16777216, (kind.Add (pos 50))) ∷ []) ∷
      done 51 0 18 ((obj 50331648, (kind.Set (107 ∷ 53 ∷ 49 ∷ []) (118 ∷ 53 ∷ 49 ∷ []))) ∷ []) ∷
      done 52 1 18 ((obj 67108864, (kind.PushBack (111 ∷ 53 ∷ 50 ∷ []))) ∷ []) ∷
      done 53 2 18 ((obj 16777216, (kind.Add (pos 53))) ∷ []) ∷
      done 54 0 19 ((obj 50331648, (kind.Set (107 ∷ 53 ∷ 52 ∷ []) (118 ∷ 53 ∷ 52 ∷ []))) ∷ []) ∷
      done 55 1 19 ((obj 67108864, (kind.PushBack (111 ∷ 53 ∷ 53 ∷ []))) ∷ []) ∷
      done 56 2 19 ((obj 16777216, (kind.Add (pos 56))) ∷ []) ∷
      done 57 0 20 ((obj 50331648, (kind.Set (107 ∷ 53 ∷ 55 ∷ []) (118 ∷ 53 ∷ 55 ∷ []))) ∷ []) ∷
      done 58 1 20 ((obj 67108864, (kind.PushBack (111 ∷ 53 ∷ 56 ∷ []))) ∷ []) ∷
      done 59 2 20 ((obj 16777216, (kind.Add (pos 59))) ∷ []) ∷
      done 60 1 21 ((obj 67108864, (kind.PushBack (116 ∷ 111 ∷ 116 ∷ 97 ∷ 108 ∷ 54 ∷ 49 ∷ 48 ∷ []))) ∷ []) ∷ [];
}
unfolding u8_at u16_at u32_at u64_at raw_at fixed_at read_many spell_many fit_many marks reads writes keys new_fields old_fields body entry node_eq bytes_eq bytes_lt part_lt cell_eq chain_of units_of next_of change_fault new_unit unit_ask first_missing on_ask unit_step new_layout layout_ask on_layout_ask layout_step reply work_asks put_cell get_cell fill_cell probe work_feed cell_feed entry_size needs_decision page_of entry_of new_seqr seqr_step seqr_tick append_work_asks append_start append_feed append_again sync_work_asks sync_start sync_feed walk_on walk_start walk_feed no_versions based version_of with_change parts_of decision_in view_start view_version view_parts unknown_in changed_in verdict step_at play_on play read_fault write_fault commit_record open_decision checkpoint bases_in load_from view_base view_bases may_forget commit_at past_at rescue_turn trim_start trim_feed copy_work_asks copy_start copy_feed reconf_work_asks reconf_start reconf_feed reconf_latest new_client entries_at copy_fault tests refusal appends syncs walked task_asks client_asks walks task_feed task_again accepts client_command client_deliver client_tick fields_size decided newest log_of entries_of members path_on path changes_below version outcome history_of start latest log history unit_moves layout_moves seqr_moves client_turned happens limit_of drain_on drain tick_all rounds settle line lines
long_run = refl
