-- Refusals, computed.
use Rattle.std.proofs.Common.{◌≡◌, ℕ, ◌<◌, ◌≤◌, List, [], ◌∷◌, ◌++◌, map, refl, ap, ◌∙◌, subst, inl, inr, sym, arith, Some}
use Rattle.std.specs.Fmt.{digits}
use Rattle.std.specs.Prelude.{pos}
use Rattle.tg_dir.specs.Directories.{state_format, op_format}
use Rattle.tg_cell.specs.declared.counter.CounterAsk.TheVariants.{Value}
use Rattle.tg_cell.specs.declared.counter.CounterOp.TheVariants.{Add}
use Rattle.tg_model.specs.declared.command.Command.TheVariants as cmd
use Rattle.tg_codec.specs.Reading.{u8_at, u16_at, u32_at, u64_at, raw_at, fixed_at}
use Rattle.tg_codec.specs.Codec.{read_many, spell_many, fit_many}
use Rattle.tg_entry.specs.Reads.{marks, reads}
use Rattle.tg_entry.specs.Writes.{writes}
use Rattle.tg_entry.specs.Checkpoints.{keys, new_fields, old_fields}
use Rattle.tg_entry.specs.Format.{body, entry}
use Rattle.tg_base.specs.Orders.{node_eq}
use Rattle.tg_protocol.specs.Words.{bytes_eq, bytes_lt, part_lt, cell_eq, directory}
use Rattle.tg_protocol.specs.Layouts.{chain_of, units_of, next_of, change_fault}
use Rattle.tg_protocol.specs.Units.{new_unit, unit_ask, first_missing, on_ask, unit_step}
use Rattle.tg_protocol.specs.LayoutServers.{new_layout, layout_ask, on_layout_ask, layout_step}
use Rattle.tg_protocol.specs.Replies.{reply}
use Rattle.tg_protocol.specs.Cells.{work_asks, put_cell, get_cell, fill_cell, probe, work_feed, cell_feed}
use Rattle.tg_entry.specs.Needs.{needs_decision}
use Rattle.tg_protocol.specs.Entries.{entry_size}
use Rattle.tg_protocol.specs.Pages.{page_of, entry_of}
use Rattle.tg_protocol.specs.Sequencers.{new_seqr, seqr_step, seqr_tick}
use Rattle.tg_protocol.specs.Appending.{append_work_asks, append_start, append_feed, append_again}
use Rattle.tg_protocol.specs.Syncing.{sync_work_asks, sync_start, sync_feed}
use Rattle.tg_protocol.specs.Walking.{walk_on, walk_start, walk_feed}
use Rattle.tg_protocol.specs.Versions.{no_versions, based, version_of, with_change, parts_of}
use Rattle.tg_protocol.specs.Views.{decision_in, view_start, view_version, view_parts, unknown_in, changed_in, verdict, view_outcome, step_at, play_on, play}
use Rattle.tg_protocol.specs.Transactions.{read_fault, write_fault, commit_record}
use Rattle.tg_protocol.specs.Checkpoints.{open_decision, checkpoint, bases_in, load_from, view_base, view_bases, may_forget}
use Rattle.tg_protocol.specs.Past.{commit_at, past_at, rescue_turn}
use Rattle.tg_protocol.specs.Trimming.{trim_start, trim_feed, copy_work_asks, copy_start, copy_feed}
use Rattle.tg_protocol.specs.Reconfiguring.{reconf_work_asks, reconf_start, reconf_feed, reconf_latest}
use Rattle.tg_protocol.specs.Clients.{new_client, entries_at, copy_fault, tests, refusal}
use Rattle.tg_protocol.specs.Answers.{appends, syncs, walked}
use Rattle.tg_protocol.specs.ClientSteps.{task_asks, client_asks, walks, task_feed, task_again, accepts, client_command, client_deliver, client_tick}
use Rattle.tg_protocol.specs.Sizes.{fields_size}
use Rattle.tg_protocol.specs.Logs.{decided, newest, log_of, entries_of, members, path_on, path, changes_below, version, outcome, history_of}
use Rattle.tg_protocol.specs.Worlds.{World, Told, client, start, latest, unit_moves, layout_moves, seqr_moves, client_turned, happens, limit_of, drain_on, drain, tick_all, rounds, settle}
use Rattle.tg_any.specs.AllKinds.{all_kinds}
use Rattle.tg_any.specs.Anys as any
use Rattle.tg_any.specs.declared.any.AnyOp.TheVariants as ops
use Rattle.tg_protocol.specs.Runs.{Move, Moves, Takes, LawfulMove, Reaches, most_steps, run}
use Rattle.tg_protocol.specs.Walked.{walks_end}
use Rattle.tg_base.specs.Clusters.{Header}
use Rattle.tg_law_layouts.proofs.Moves.Members.{Has, has_contained}
use Rattle.tg_any.specs.declared.any.AnyAns.TheVariants as ans
use Rattle.tg_any.specs.declared.any.AnyAsk.TheVariants as asks
use Rattle.tg_cell.specs.declared.counter.CounterAns.TheVariants.{Number}
use Rattle.tg_model.specs.declared.command.Event.TheVariants.{Deliver}
use Rattle.tg_model.specs.declared.refusal.Refusal.TheVariants as cause
use Rattle.tg_model.specs.declared.trace.What.TheVariants as what
use Rattle.tg_model.specs.Kinds.{WhatOf}
use Rattle.tg_protocol.specs.Stuck.{command_in}
use Rattle.tg_law_claims.specs.Answers.Worked.{ctr0, ctr1, two_counters, record_of_another, PastIsUndecided, one_counter, record_trimmed, RescueIsForgotten, three_clients, read_trimmed, RescueIsUndecided}

-- Lawful moves.

-- of a delivery nothing is asked
abbrev AllLawful : Header → Moves all_kinds → Type 0
AllLawful h [] = Unit {0}
AllLawful h (Takes (Deliver i) ∷ xs) = AllLawful h xs
AllLawful h (x ∷ xs) = LawfulMove all_kinds h x × AllLawful h xs

each_lawful : (h : Header) (ms : Moves all_kinds) → AllLawful h ms → (x : Move all_kinds) → Has ms x → LawfulMove all_kinds h x
each_lawful h [] l x i = absurd i
each_lawful h (Takes (Deliver j) ∷ ys) l x (inl e) = subst (λ (z : Move all_kinds). LawfulMove all_kinds h z) (sym e) tt
each_lawful h (Takes (Deliver j) ∷ ys) l x (inr i) = each_lawful h ys l x i
each_lawful h (y ∷ ys) l x (inl e) = subst (λ (z : Move all_kinds). LawfulMove all_kinds h z) (sym e) l.0
each_lawful h (y ∷ ys) l x (inr i) = each_lawful h ys l.1 x i

-- What is told.

abbrev told_by : ℕ → ℕ → ℕ → ℕ → WhatOf all_kinds → Told all_kinds
told_by k x next upto what = record { mark = record { event = 0; client = k; tx = x; what = what }; noted = record { next = next; epoch = 1; upto = upto } }

-- A past view that a record of another object stops.

abbrev past : World all_kinds
past = run all_kinds record_of_another (start all_kinds two_counters)

past_lawful : AllLawful two_counters record_of_another
unfolding run u8_at u16_at u32_at u64_at raw_at fixed_at read_many spell_many fit_many marks reads writes keys new_fields old_fields body entry node_eq bytes_eq bytes_lt part_lt cell_eq chain_of units_of next_of change_fault new_unit unit_ask first_missing on_ask unit_step new_layout layout_ask on_layout_ask layout_step reply work_asks put_cell get_cell fill_cell probe work_feed cell_feed entry_size needs_decision page_of entry_of new_seqr seqr_step seqr_tick append_work_asks append_start append_feed append_again sync_work_asks sync_start sync_feed walk_on walk_start walk_feed no_versions based version_of with_change parts_of decision_in view_start view_version view_parts unknown_in changed_in verdict view_outcome step_at play_on play read_fault write_fault commit_record open_decision checkpoint bases_in load_from view_base view_bases may_forget commit_at past_at rescue_turn trim_start trim_feed copy_work_asks copy_start copy_feed reconf_work_asks reconf_start reconf_feed reconf_latest new_client entries_at copy_fault tests refusal appends syncs walked task_asks client_asks walks task_feed task_again accepts client_command client_deliver client_tick fields_size decided newest log_of entries_of members path_on path changes_below version outcome history_of start latest unit_moves layout_moves seqr_moves client_turned happens limit_of drain_on drain tick_all rounds settle any.is_op any.applied any.spelled any.read any.touched any.looked any.first any.answered any.saved any.loaded state_format op_format digits
past_lawful = ((omega arith, refl), ((omega arith, tt), ((omega arith, (refl, refl)), ((omega arith, (refl, λ allowed short. record { read = refl; fits = refl })), ((omega arith, tt), ((omega arith, refl), ((omega arith, refl), tt)))))))

past_steps : past.steps ≡ 17
unfolding run u8_at u16_at u32_at u64_at raw_at fixed_at read_many spell_many fit_many marks reads writes keys new_fields old_fields body entry node_eq bytes_eq bytes_lt part_lt cell_eq chain_of units_of next_of change_fault new_unit unit_ask first_missing on_ask unit_step new_layout layout_ask on_layout_ask layout_step reply work_asks put_cell get_cell fill_cell probe work_feed cell_feed entry_size needs_decision page_of entry_of new_seqr seqr_step seqr_tick append_work_asks append_start append_feed append_again sync_work_asks sync_start sync_feed walk_on walk_start walk_feed no_versions based version_of with_change parts_of decision_in view_start view_version view_parts unknown_in changed_in verdict view_outcome step_at play_on play read_fault write_fault commit_record open_decision checkpoint bases_in load_from view_base view_bases may_forget commit_at past_at rescue_turn trim_start trim_feed copy_work_asks copy_start copy_feed reconf_work_asks reconf_start reconf_feed reconf_latest new_client entries_at copy_fault tests refusal appends syncs walked task_asks client_asks walks task_feed task_again accepts client_command client_deliver client_tick fields_size decided newest log_of entries_of members path_on path changes_below version outcome history_of start latest unit_moves layout_moves seqr_moves client_turned happens limit_of drain_on drain tick_all rounds settle any.is_op any.applied any.spelled any.read any.touched any.looked any.first any.answered any.saved any.loaded state_format op_format digits
past_steps = refl

past_reached : Reaches all_kinds two_counters record_of_another past
unfolding start
past_reached = record {
  header = refl;
  goes = record { lawful = λ x i. each_lawful two_counters record_of_another past_lawful x (has_contained record_of_another x i); is = refl; few = subst (λ (n : ℕ). n ≤ most_steps) (sym past_steps) (omega arith) };
}

abbrev past_before : List (Told all_kinds)
past_before =
    told_by 0 0 1 0 (what.Hosted ctr0) ∷
    told_by 0 1 1 0 what.Begin ∷
    told_by 0 1 1 0 (what.Asked ctr0 (asks.Counter Value) 0 (ans.Counter (Number (pos 0)))) ∷
    told_by 0 1 3 0 (what.Put ctr1 (ops.Counter (Add (pos 9)))) ∷
    told_by 0 1 3 0 what.End ∷
    told_by 1 0 1 0 (what.Hosted ctr1) ∷ []

abbrev past_refused : Told all_kinds
past_refused = told_by 1 0 1 0 (what.Refused (cause.Undecided 0 ctr0))

told_past : past.told ≡ past_before
unfolding run u8_at u16_at u32_at u64_at raw_at fixed_at read_many spell_many fit_many marks reads writes keys new_fields old_fields body entry node_eq bytes_eq bytes_lt part_lt cell_eq chain_of units_of next_of change_fault new_unit unit_ask first_missing on_ask unit_step new_layout layout_ask on_layout_ask layout_step reply work_asks put_cell get_cell fill_cell probe work_feed cell_feed entry_size needs_decision page_of entry_of new_seqr seqr_step seqr_tick append_work_asks append_start append_feed append_again sync_work_asks sync_start sync_feed walk_on walk_start walk_feed no_versions based version_of with_change parts_of decision_in view_start view_version view_parts unknown_in changed_in verdict view_outcome step_at play_on play read_fault write_fault commit_record open_decision checkpoint bases_in load_from view_base view_bases may_forget commit_at past_at rescue_turn trim_start trim_feed copy_work_asks copy_start copy_feed reconf_work_asks reconf_start reconf_feed reconf_latest new_client entries_at copy_fault tests refusal appends syncs walked task_asks client_asks walks task_feed task_again accepts client_command client_deliver client_tick fields_size decided newest log_of entries_of members path_on path changes_below version outcome history_of start latest unit_moves layout_moves seqr_moves client_turned happens limit_of drain_on drain tick_all rounds settle any.is_op any.applied any.spelled any.read any.touched any.looked any.first any.answered any.saved any.loaded state_format op_format digits
told_past = refl

told_past_then : (happens all_kinds past (Deliver 11)).told ≡ past_before ++ past_refused ∷ []
unfolding run u8_at u16_at u32_at u64_at raw_at fixed_at read_many spell_many fit_many marks reads writes keys new_fields old_fields body entry node_eq bytes_eq bytes_lt part_lt cell_eq chain_of units_of next_of change_fault new_unit unit_ask first_missing on_ask unit_step new_layout layout_ask on_layout_ask layout_step reply work_asks put_cell get_cell fill_cell probe work_feed cell_feed entry_size needs_decision page_of entry_of new_seqr seqr_step seqr_tick append_work_asks append_start append_feed append_again sync_work_asks sync_start sync_feed walk_on walk_start walk_feed no_versions based version_of with_change parts_of decision_in view_start view_version view_parts unknown_in changed_in verdict view_outcome step_at play_on play read_fault write_fault commit_record open_decision checkpoint bases_in load_from view_base view_bases may_forget commit_at past_at rescue_turn trim_start trim_feed copy_work_asks copy_start copy_feed reconf_work_asks reconf_start reconf_feed reconf_latest new_client entries_at copy_fault tests refusal appends syncs walked task_asks client_asks walks task_feed task_again accepts client_command client_deliver client_tick fields_size decided newest log_of entries_of members path_on path changes_below version outcome history_of start latest unit_moves layout_moves seqr_moves client_turned happens limit_of drain_on drain tick_all rounds settle any.is_op any.applied any.spelled any.read any.touched any.looked any.first any.answered any.saved any.loaded state_format op_format digits
told_past_then = refl

past_waits : command_in all_kinds (client all_kinds past 1).work ≡ Some (cmd.AskAt 1 ctr1 (asks.Counter Value))
unfolding run u8_at u16_at u32_at u64_at raw_at fixed_at read_many spell_many fit_many marks reads writes keys new_fields old_fields body entry node_eq bytes_eq bytes_lt part_lt cell_eq chain_of units_of next_of change_fault new_unit unit_ask first_missing on_ask unit_step new_layout layout_ask on_layout_ask layout_step reply work_asks put_cell get_cell fill_cell probe work_feed cell_feed entry_size needs_decision page_of entry_of new_seqr seqr_step seqr_tick append_work_asks append_start append_feed append_again sync_work_asks sync_start sync_feed walk_on walk_start walk_feed no_versions based version_of with_change parts_of decision_in view_start view_version view_parts unknown_in changed_in verdict view_outcome step_at play_on play read_fault write_fault commit_record open_decision checkpoint bases_in load_from view_base view_bases may_forget commit_at past_at rescue_turn trim_start trim_feed copy_work_asks copy_start copy_feed reconf_work_asks reconf_start reconf_feed reconf_latest new_client entries_at copy_fault tests refusal appends syncs walked task_asks client_asks walks task_feed task_again accepts client_command client_deliver client_tick fields_size decided newest log_of entries_of members path_on path changes_below version outcome history_of start latest unit_moves layout_moves seqr_moves client_turned happens limit_of drain_on drain tick_all rounds settle any.is_op any.applied any.spelled any.read any.touched any.looked any.first any.answered any.saved any.loaded state_format op_format digits
past_waits = refl

pub past_is_undecided : PastIsUndecided
past_is_undecided = record {
  reached = past_reached;
  lawful = tt;
  few = subst (λ (n : ℕ). n < most_steps) (sym past_steps) (omega arith);
  told = past_refused;
  replies = record { replies = past_refused ∷ []; are = told_past_then ∙ ap (λ (ts : List (Told all_kinds)). ts ++ past_refused ∷ []) (sym told_past); here = (0, omega arith, refl) };
  waits = past_waits;
  refused = refl;
}

-- A rescue of what was trimmed.

abbrev gone : World all_kinds
gone = run all_kinds record_trimmed (start all_kinds one_counter)

gone_lawful : AllLawful one_counter record_trimmed
unfolding run u8_at u16_at u32_at u64_at raw_at fixed_at read_many spell_many fit_many marks reads writes keys new_fields old_fields body entry node_eq bytes_eq bytes_lt part_lt cell_eq chain_of units_of next_of change_fault new_unit unit_ask first_missing on_ask unit_step new_layout layout_ask on_layout_ask layout_step reply work_asks put_cell get_cell fill_cell probe work_feed cell_feed entry_size needs_decision page_of entry_of new_seqr seqr_step seqr_tick append_work_asks append_start append_feed append_again sync_work_asks sync_start sync_feed walk_on walk_start walk_feed no_versions based version_of with_change parts_of decision_in view_start view_version view_parts unknown_in changed_in verdict view_outcome step_at play_on play read_fault write_fault commit_record open_decision checkpoint bases_in load_from view_base view_bases may_forget commit_at past_at rescue_turn trim_start trim_feed copy_work_asks copy_start copy_feed reconf_work_asks reconf_start reconf_feed reconf_latest new_client entries_at copy_fault tests refusal appends syncs walked task_asks client_asks walks task_feed task_again accepts client_command client_deliver client_tick fields_size decided newest log_of entries_of members path_on path changes_below version outcome history_of start latest unit_moves layout_moves seqr_moves client_turned happens limit_of drain_on drain tick_all rounds settle any.is_op any.applied any.spelled any.read any.touched any.looked any.first any.answered any.saved any.loaded state_format op_format digits
gone_lawful = ((omega arith, refl), ((omega arith, tt), ((omega arith, (refl, λ allowed short. record { read = refl; fits = refl })), ((omega arith, tt), ((omega arith, refl), ((omega arith, refl), ((omega arith, (refl, record { read = refl; fits = refl })), ((omega arith, (refl, record { read = refl; fits = refl })), ((omega arith, tt), ((omega arith, refl), ((omega arith, tt), tt)))))))))))

gone_steps : gone.steps ≡ 70
unfolding run u8_at u16_at u32_at u64_at raw_at fixed_at read_many spell_many fit_many marks reads writes keys new_fields old_fields body entry node_eq bytes_eq bytes_lt part_lt cell_eq chain_of units_of next_of change_fault new_unit unit_ask first_missing on_ask unit_step new_layout layout_ask on_layout_ask layout_step reply work_asks put_cell get_cell fill_cell probe work_feed cell_feed entry_size needs_decision page_of entry_of new_seqr seqr_step seqr_tick append_work_asks append_start append_feed append_again sync_work_asks sync_start sync_feed walk_on walk_start walk_feed no_versions based version_of with_change parts_of decision_in view_start view_version view_parts unknown_in changed_in verdict view_outcome step_at play_on play read_fault write_fault commit_record open_decision checkpoint bases_in load_from view_base view_bases may_forget commit_at past_at rescue_turn trim_start trim_feed copy_work_asks copy_start copy_feed reconf_work_asks reconf_start reconf_feed reconf_latest new_client entries_at copy_fault tests refusal appends syncs walked task_asks client_asks walks task_feed task_again accepts client_command client_deliver client_tick fields_size decided newest log_of entries_of members path_on path changes_below version outcome history_of start latest unit_moves layout_moves seqr_moves client_turned happens limit_of drain_on drain tick_all rounds settle any.is_op any.applied any.spelled any.read any.touched any.looked any.first any.answered any.saved any.loaded state_format op_format digits
gone_steps = refl

gone_reached : Reaches all_kinds one_counter record_trimmed gone
unfolding start
gone_reached = record {
  header = refl;
  goes = record { lawful = λ x i. each_lawful one_counter record_trimmed gone_lawful x (has_contained record_trimmed x i); is = refl; few = subst (λ (n : ℕ). n ≤ most_steps) (sym gone_steps) (omega arith) };
}

abbrev gone_before : List (Told all_kinds)
gone_before =
    told_by 0 0 1 0 (what.Hosted ctr0) ∷
    told_by 0 1 1 0 what.Begin ∷
    told_by 0 1 1 0 (what.Put ctr0 (ops.Counter (Add (pos 9)))) ∷
    told_by 0 1 1 0 what.End ∷
    told_by 0 1 1 0 (what.Committed 0) ∷
    told_by 0 0 3 0 (what.Saved ctr0 1 1) ∷
    told_by 0 0 7 1 (what.Saved directory 2 2) ∷
    told_by 0 2 11 2 what.Begin ∷
    told_by 0 2 11 2 (what.Put directory (all_kinds.mark_op ctr0 1)) ∷
    told_by 0 2 11 2 what.End ∷
    told_by 0 2 11 2 (what.Committed 3) ∷
    told_by 0 0 11 2 (what.Marked ctr0 1) ∷
    told_by 0 3 16 3 what.Begin ∷
    told_by 0 3 16 3 (what.Put directory (all_kinds.mark_op directory 1)) ∷
    told_by 0 3 16 3 what.End ∷
    told_by 0 3 16 3 (what.Committed 4) ∷
    told_by 0 0 16 3 (what.Marked directory 1) ∷
    told_by 0 0 22 4 (what.Trimmed 1) ∷
    told_by 1 0 1 0 (what.Hosted ctr0) ∷ []

abbrev gone_refused : Told all_kinds
gone_refused = told_by 1 0 1 0 (what.Refused (cause.Forgotten 0 1))

told_gone : gone.told ≡ gone_before
unfolding run u8_at u16_at u32_at u64_at raw_at fixed_at read_many spell_many fit_many marks reads writes keys new_fields old_fields body entry node_eq bytes_eq bytes_lt part_lt cell_eq chain_of units_of next_of change_fault new_unit unit_ask first_missing on_ask unit_step new_layout layout_ask on_layout_ask layout_step reply work_asks put_cell get_cell fill_cell probe work_feed cell_feed entry_size needs_decision page_of entry_of new_seqr seqr_step seqr_tick append_work_asks append_start append_feed append_again sync_work_asks sync_start sync_feed walk_on walk_start walk_feed no_versions based version_of with_change parts_of decision_in view_start view_version view_parts unknown_in changed_in verdict view_outcome step_at play_on play read_fault write_fault commit_record open_decision checkpoint bases_in load_from view_base view_bases may_forget commit_at past_at rescue_turn trim_start trim_feed copy_work_asks copy_start copy_feed reconf_work_asks reconf_start reconf_feed reconf_latest new_client entries_at copy_fault tests refusal appends syncs walked task_asks client_asks walks task_feed task_again accepts client_command client_deliver client_tick fields_size decided newest log_of entries_of members path_on path changes_below version outcome history_of start latest unit_moves layout_moves seqr_moves client_turned happens limit_of drain_on drain tick_all rounds settle any.is_op any.applied any.spelled any.read any.touched any.looked any.first any.answered any.saved any.loaded state_format op_format digits
told_gone = refl

told_gone_then : (happens all_kinds gone (Deliver 59)).told ≡ gone_before ++ gone_refused ∷ []
unfolding run u8_at u16_at u32_at u64_at raw_at fixed_at read_many spell_many fit_many marks reads writes keys new_fields old_fields body entry node_eq bytes_eq bytes_lt part_lt cell_eq chain_of units_of next_of change_fault new_unit unit_ask first_missing on_ask unit_step new_layout layout_ask on_layout_ask layout_step reply work_asks put_cell get_cell fill_cell probe work_feed cell_feed entry_size needs_decision page_of entry_of new_seqr seqr_step seqr_tick append_work_asks append_start append_feed append_again sync_work_asks sync_start sync_feed walk_on walk_start walk_feed no_versions based version_of with_change parts_of decision_in view_start view_version view_parts unknown_in changed_in verdict view_outcome step_at play_on play read_fault write_fault commit_record open_decision checkpoint bases_in load_from view_base view_bases may_forget commit_at past_at rescue_turn trim_start trim_feed copy_work_asks copy_start copy_feed reconf_work_asks reconf_start reconf_feed reconf_latest new_client entries_at copy_fault tests refusal appends syncs walked task_asks client_asks walks task_feed task_again accepts client_command client_deliver client_tick fields_size decided newest log_of entries_of members path_on path changes_below version outcome history_of start latest unit_moves layout_moves seqr_moves client_turned happens limit_of drain_on drain tick_all rounds settle any.is_op any.applied any.spelled any.read any.touched any.looked any.first any.answered any.saved any.loaded state_format op_format digits
told_gone_then = refl

gone_waits : command_in all_kinds (client all_kinds gone 1).work ≡ Some (cmd.Rescue 0)
unfolding run u8_at u16_at u32_at u64_at raw_at fixed_at read_many spell_many fit_many marks reads writes keys new_fields old_fields body entry node_eq bytes_eq bytes_lt part_lt cell_eq chain_of units_of next_of change_fault new_unit unit_ask first_missing on_ask unit_step new_layout layout_ask on_layout_ask layout_step reply work_asks put_cell get_cell fill_cell probe work_feed cell_feed entry_size needs_decision page_of entry_of new_seqr seqr_step seqr_tick append_work_asks append_start append_feed append_again sync_work_asks sync_start sync_feed walk_on walk_start walk_feed no_versions based version_of with_change parts_of decision_in view_start view_version view_parts unknown_in changed_in verdict view_outcome step_at play_on play read_fault write_fault commit_record open_decision checkpoint bases_in load_from view_base view_bases may_forget commit_at past_at rescue_turn trim_start trim_feed copy_work_asks copy_start copy_feed reconf_work_asks reconf_start reconf_feed reconf_latest new_client entries_at copy_fault tests refusal appends syncs walked task_asks client_asks walks task_feed task_again accepts client_command client_deliver client_tick fields_size decided newest log_of entries_of members path_on path changes_below version outcome history_of start latest unit_moves layout_moves seqr_moves client_turned happens limit_of drain_on drain tick_all rounds settle any.is_op any.applied any.spelled any.read any.touched any.looked any.first any.answered any.saved any.loaded state_format op_format digits
gone_waits = refl

pub rescue_is_forgotten : RescueIsForgotten
unfolding run u8_at u16_at u32_at u64_at raw_at fixed_at read_many spell_many fit_many marks reads writes keys new_fields old_fields body entry node_eq bytes_eq bytes_lt part_lt cell_eq chain_of units_of next_of change_fault new_unit unit_ask first_missing on_ask unit_step new_layout layout_ask on_layout_ask layout_step reply work_asks put_cell get_cell fill_cell probe work_feed cell_feed entry_size needs_decision page_of entry_of new_seqr seqr_step seqr_tick append_work_asks append_start append_feed append_again sync_work_asks sync_start sync_feed walk_on walk_start walk_feed no_versions based version_of with_change parts_of decision_in view_start view_version view_parts unknown_in changed_in verdict view_outcome step_at play_on play read_fault write_fault commit_record open_decision checkpoint bases_in load_from view_base view_bases may_forget commit_at past_at rescue_turn trim_start trim_feed copy_work_asks copy_start copy_feed reconf_work_asks reconf_start reconf_feed reconf_latest new_client entries_at copy_fault tests refusal appends syncs walked task_asks client_asks walks task_feed task_again accepts client_command client_deliver client_tick fields_size decided newest log_of entries_of members path_on path changes_below version outcome history_of start latest unit_moves layout_moves seqr_moves client_turned happens limit_of drain_on drain tick_all rounds settle any.is_op any.applied any.spelled any.read any.touched any.looked any.first any.answered any.saved any.loaded state_format op_format digits walks_end
rescue_is_forgotten = record {
  refused = record {
    reached = gone_reached;
    lawful = tt;
    few = subst (λ (n : ℕ). n < most_steps) (sym gone_steps) (omega arith);
    told = gone_refused;
    replies = record { replies = gone_refused ∷ []; are = told_gone_then ∙ ap (λ (ts : List (Told all_kinds)). ts ++ gone_refused ∷ []) (sym told_gone); here = (0, omega arith, refl) };
    waits = gone_waits;
    refused = refl;
  };
  had = _;
  walked = refl;
}

try1 : map (λ (t : Told all_kinds). t.noted.next) gone.told ≡ map (λ (t : Told all_kinds). t.noted.next) gone_before
unfolding run u8_at u16_at u32_at u64_at raw_at fixed_at read_many spell_many fit_many marks reads writes keys new_fields old_fields body entry node_eq bytes_eq bytes_lt part_lt cell_eq chain_of units_of next_of change_fault new_unit unit_ask first_missing on_ask unit_step new_layout layout_ask on_layout_ask layout_step reply work_asks put_cell get_cell fill_cell probe work_feed cell_feed entry_size needs_decision page_of entry_of new_seqr seqr_step seqr_tick append_work_asks append_start append_feed append_again sync_work_asks sync_start sync_feed walk_on walk_start walk_feed no_versions based version_of with_change parts_of decision_in view_start view_version view_parts unknown_in changed_in verdict view_outcome step_at play_on play read_fault write_fault commit_record open_decision checkpoint bases_in load_from view_base view_bases may_forget commit_at past_at rescue_turn trim_start trim_feed copy_work_asks copy_start copy_feed reconf_work_asks reconf_start reconf_feed reconf_latest new_client entries_at copy_fault tests refusal appends syncs walked task_asks client_asks walks task_feed task_again accepts client_command client_deliver client_tick fields_size decided newest log_of entries_of members path_on path changes_below version outcome history_of start latest unit_moves layout_moves seqr_moves client_turned happens limit_of drain_on drain tick_all rounds settle any.is_op any.applied any.spelled any.read any.touched any.looked any.first any.answered any.saved any.loaded state_format op_format digits
try1 = refl

try2 : map (λ (t : Told all_kinds). t.noted.upto) gone.told ≡ map (λ (t : Told all_kinds). t.noted.upto) gone_before
unfolding run u8_at u16_at u32_at u64_at raw_at fixed_at read_many spell_many fit_many marks reads writes keys new_fields old_fields body entry node_eq bytes_eq bytes_lt part_lt cell_eq chain_of units_of next_of change_fault new_unit unit_ask first_missing on_ask unit_step new_layout layout_ask on_layout_ask layout_step reply work_asks put_cell get_cell fill_cell probe work_feed cell_feed entry_size needs_decision page_of entry_of new_seqr seqr_step seqr_tick append_work_asks append_start append_feed append_again sync_work_asks sync_start sync_feed walk_on walk_start walk_feed no_versions based version_of with_change parts_of decision_in view_start view_version view_parts unknown_in changed_in verdict view_outcome step_at play_on play read_fault write_fault commit_record open_decision checkpoint bases_in load_from view_base view_bases may_forget commit_at past_at rescue_turn trim_start trim_feed copy_work_asks copy_start copy_feed reconf_work_asks reconf_start reconf_feed reconf_latest new_client entries_at copy_fault tests refusal appends syncs walked task_asks client_asks walks task_feed task_again accepts client_command client_deliver client_tick fields_size decided newest log_of entries_of members path_on path changes_below version outcome history_of start latest unit_moves layout_moves seqr_moves client_turned happens limit_of drain_on drain tick_all rounds settle any.is_op any.applied any.spelled any.read any.touched any.looked any.first any.answered any.saved any.loaded state_format op_format digits
try2 = refl

try3 : map (λ (t : Told all_kinds). t.mark.tx) gone.told ≡ map (λ (t : Told all_kinds). t.mark.tx) gone_before
unfolding run u8_at u16_at u32_at u64_at raw_at fixed_at read_many spell_many fit_many marks reads writes keys new_fields old_fields body entry node_eq bytes_eq bytes_lt part_lt cell_eq chain_of units_of next_of change_fault new_unit unit_ask first_missing on_ask unit_step new_layout layout_ask on_layout_ask layout_step reply work_asks put_cell get_cell fill_cell probe work_feed cell_feed entry_size needs_decision page_of entry_of new_seqr seqr_step seqr_tick append_work_asks append_start append_feed append_again sync_work_asks sync_start sync_feed walk_on walk_start walk_feed no_versions based version_of with_change parts_of decision_in view_start view_version view_parts unknown_in changed_in verdict view_outcome step_at play_on play read_fault write_fault commit_record open_decision checkpoint bases_in load_from view_base view_bases may_forget commit_at past_at rescue_turn trim_start trim_feed copy_work_asks copy_start copy_feed reconf_work_asks reconf_start reconf_feed reconf_latest new_client entries_at copy_fault tests refusal appends syncs walked task_asks client_asks walks task_feed task_again accepts client_command client_deliver client_tick fields_size decided newest log_of entries_of members path_on path changes_below version outcome history_of start latest unit_moves layout_moves seqr_moves client_turned happens limit_of drain_on drain tick_all rounds settle any.is_op any.applied any.spelled any.read any.touched any.looked any.first any.answered any.saved any.loaded state_format op_format digits
try3 = refl

try4 : map (λ (t : Told all_kinds). t.mark.client) gone.told ≡ map (λ (t : Told all_kinds). t.mark.client) gone_before
unfolding run u8_at u16_at u32_at u64_at raw_at fixed_at read_many spell_many fit_many marks reads writes keys new_fields old_fields body entry node_eq bytes_eq bytes_lt part_lt cell_eq chain_of units_of next_of change_fault new_unit unit_ask first_missing on_ask unit_step new_layout layout_ask on_layout_ask layout_step reply work_asks put_cell get_cell fill_cell probe work_feed cell_feed entry_size needs_decision page_of entry_of new_seqr seqr_step seqr_tick append_work_asks append_start append_feed append_again sync_work_asks sync_start sync_feed walk_on walk_start walk_feed no_versions based version_of with_change parts_of decision_in view_start view_version view_parts unknown_in changed_in verdict view_outcome step_at play_on play read_fault write_fault commit_record open_decision checkpoint bases_in load_from view_base view_bases may_forget commit_at past_at rescue_turn trim_start trim_feed copy_work_asks copy_start copy_feed reconf_work_asks reconf_start reconf_feed reconf_latest new_client entries_at copy_fault tests refusal appends syncs walked task_asks client_asks walks task_feed task_again accepts client_command client_deliver client_tick fields_size decided newest log_of entries_of members path_on path changes_below version outcome history_of start latest unit_moves layout_moves seqr_moves client_turned happens limit_of drain_on drain tick_all rounds settle any.is_op any.applied any.spelled any.read any.touched any.looked any.first any.answered any.saved any.loaded state_format op_format digits
try4 = refl

-- A rescue of a record that reads what was trimmed.

abbrev stuck : World all_kinds
stuck = run all_kinds read_trimmed (start all_kinds three_clients)

stuck_lawful : AllLawful three_clients read_trimmed
unfolding run u8_at u16_at u32_at u64_at raw_at fixed_at read_many spell_many fit_many marks reads writes keys new_fields old_fields body entry node_eq bytes_eq bytes_lt part_lt cell_eq chain_of units_of next_of change_fault new_unit unit_ask first_missing on_ask unit_step new_layout layout_ask on_layout_ask layout_step reply work_asks put_cell get_cell fill_cell probe work_feed cell_feed entry_size needs_decision page_of entry_of new_seqr seqr_step seqr_tick append_work_asks append_start append_feed append_again sync_work_asks sync_start sync_feed walk_on walk_start walk_feed no_versions based version_of with_change parts_of decision_in view_start view_version view_parts unknown_in changed_in verdict view_outcome step_at play_on play read_fault write_fault commit_record open_decision checkpoint bases_in load_from view_base view_bases may_forget commit_at past_at rescue_turn trim_start trim_feed copy_work_asks copy_start copy_feed reconf_work_asks reconf_start reconf_feed reconf_latest new_client entries_at copy_fault tests refusal appends syncs walked task_asks client_asks walks task_feed task_again accepts client_command client_deliver client_tick fields_size decided newest log_of entries_of members path_on path changes_below version outcome history_of start latest unit_moves layout_moves seqr_moves client_turned happens limit_of drain_on drain tick_all rounds settle any.is_op any.applied any.spelled any.read any.touched any.looked any.first any.answered any.saved any.loaded state_format op_format digits
stuck_lawful = ((omega arith, refl), ((omega arith, refl), ((omega arith, tt), ((omega arith, (refl, λ allowed short. record { read = refl; fits = refl })), ((omega arith, tt), ((omega arith, refl), ((omega arith, tt), ((omega arith, (refl, refl)), ((omega arith, (refl, λ allowed short. record { read = refl; fits = refl })), ((omega arith, tt), ((omega arith, tt), ((omega arith, (refl, λ allowed short. record { read = refl; fits = refl })), ((omega arith, tt), ((omega arith, refl), ((omega arith, refl), ((omega arith, refl), ((omega arith, (refl, record { read = refl; fits = refl })), ((omega arith, (refl, record { read = refl; fits = refl })), ((omega arith, (refl, record { read = refl; fits = refl })), ((omega arith, tt), ((omega arith, refl), ((omega arith, tt), tt))))))))))))))))))))))

stuck_steps : stuck.steps ≡ 138
unfolding run u8_at u16_at u32_at u64_at raw_at fixed_at read_many spell_many fit_many marks reads writes keys new_fields old_fields body entry node_eq bytes_eq bytes_lt part_lt cell_eq chain_of units_of next_of change_fault new_unit unit_ask first_missing on_ask unit_step new_layout layout_ask on_layout_ask layout_step reply work_asks put_cell get_cell fill_cell probe work_feed cell_feed entry_size needs_decision page_of entry_of new_seqr seqr_step seqr_tick append_work_asks append_start append_feed append_again sync_work_asks sync_start sync_feed walk_on walk_start walk_feed no_versions based version_of with_change parts_of decision_in view_start view_version view_parts unknown_in changed_in verdict view_outcome step_at play_on play read_fault write_fault commit_record open_decision checkpoint bases_in load_from view_base view_bases may_forget commit_at past_at rescue_turn trim_start trim_feed copy_work_asks copy_start copy_feed reconf_work_asks reconf_start reconf_feed reconf_latest new_client entries_at copy_fault tests refusal appends syncs walked task_asks client_asks walks task_feed task_again accepts client_command client_deliver client_tick fields_size decided newest log_of entries_of members path_on path changes_below version outcome history_of start latest unit_moves layout_moves seqr_moves client_turned happens limit_of drain_on drain tick_all rounds settle any.is_op any.applied any.spelled any.read any.touched any.looked any.first any.answered any.saved any.loaded state_format op_format digits
stuck_steps = refl

stuck_reached : Reaches all_kinds three_clients read_trimmed stuck
unfolding start
stuck_reached = record {
  header = refl;
  goes = record { lawful = λ x i. each_lawful three_clients read_trimmed stuck_lawful x (has_contained read_trimmed x i); is = refl; few = subst (λ (n : ℕ). n ≤ most_steps) (sym stuck_steps) (omega arith) };
}

abbrev stuck_before : List (Told all_kinds)
stuck_before =
    told_by 1 0 1 0 (what.Hosted ctr0) ∷
    told_by 1 0 1 0 (what.Hosted ctr1) ∷
    told_by 1 1 1 0 what.Begin ∷
    told_by 1 1 1 0 (what.Put ctr0 (ops.Counter (Add (pos 9)))) ∷
    told_by 1 1 1 0 what.End ∷
    told_by 1 1 1 0 (what.Committed 0) ∷
    told_by 0 0 1 0 (what.Hosted ctr0) ∷
    told_by 0 1 1 0 what.Begin ∷
    told_by 0 1 1 0 (what.Asked ctr0 (asks.Counter Value) 1 (ans.Counter (Number (pos 9)))) ∷
    told_by 0 1 3 1 (what.Put ctr1 (ops.Counter (Add (pos 9)))) ∷
    told_by 0 1 3 1 what.End ∷
    told_by 1 2 3 0 what.Begin ∷
    told_by 1 2 3 0 (what.Put ctr0 (ops.Counter (Add (pos 9)))) ∷
    told_by 1 2 3 0 what.End ∷
    told_by 1 2 3 0 (what.Committed 2) ∷
    told_by 1 0 5 0 (what.Saved ctr0 3 3) ∷
    told_by 1 0 10 3 (what.Saved ctr1 4 4) ∷
    told_by 1 0 14 4 (what.Saved directory 5 5) ∷
    told_by 1 3 18 5 what.Begin ∷
    told_by 1 3 18 5 (what.Put directory (all_kinds.mark_op ctr0 1)) ∷
    told_by 1 3 18 5 what.End ∷
    told_by 1 3 18 5 (what.Committed 6) ∷
    told_by 1 0 18 5 (what.Marked ctr0 1) ∷
    told_by 1 4 25 6 what.Begin ∷
    told_by 1 4 25 6 (what.Put directory (all_kinds.mark_op ctr1 1)) ∷
    told_by 1 4 25 6 what.End ∷
    told_by 1 4 25 6 (what.Committed 7) ∷
    told_by 1 0 25 6 (what.Marked ctr1 1) ∷
    told_by 1 5 33 7 what.Begin ∷
    told_by 1 5 33 7 (what.Put directory (all_kinds.mark_op directory 1)) ∷
    told_by 1 5 33 7 what.End ∷
    told_by 1 5 33 7 (what.Committed 8) ∷
    told_by 1 0 33 7 (what.Marked directory 1) ∷
    told_by 1 0 41 8 (what.Trimmed 1) ∷
    told_by 2 0 1 0 (what.Hosted ctr1) ∷ []

abbrev stuck_refused : Told all_kinds
stuck_refused = told_by 2 0 1 0 (what.Refused (cause.Undecided 1 ctr0))

told_stuck : stuck.told ≡ stuck_before
unfolding run u8_at u16_at u32_at u64_at raw_at fixed_at read_many spell_many fit_many marks reads writes keys new_fields old_fields body entry node_eq bytes_eq bytes_lt part_lt cell_eq chain_of units_of next_of change_fault new_unit unit_ask first_missing on_ask unit_step new_layout layout_ask on_layout_ask layout_step reply work_asks put_cell get_cell fill_cell probe work_feed cell_feed entry_size needs_decision page_of entry_of new_seqr seqr_step seqr_tick append_work_asks append_start append_feed append_again sync_work_asks sync_start sync_feed walk_on walk_start walk_feed no_versions based version_of with_change parts_of decision_in view_start view_version view_parts unknown_in changed_in verdict view_outcome step_at play_on play read_fault write_fault commit_record open_decision checkpoint bases_in load_from view_base view_bases may_forget commit_at past_at rescue_turn trim_start trim_feed copy_work_asks copy_start copy_feed reconf_work_asks reconf_start reconf_feed reconf_latest new_client entries_at copy_fault tests refusal appends syncs walked task_asks client_asks walks task_feed task_again accepts client_command client_deliver client_tick fields_size decided newest log_of entries_of members path_on path changes_below version outcome history_of start latest unit_moves layout_moves seqr_moves client_turned happens limit_of drain_on drain tick_all rounds settle any.is_op any.applied any.spelled any.read any.touched any.looked any.first any.answered any.saved any.loaded state_format op_format digits
told_stuck = refl

told_stuck_then : (happens all_kinds stuck (Deliver 117)).told ≡ stuck_before ++ stuck_refused ∷ []
unfolding run u8_at u16_at u32_at u64_at raw_at fixed_at read_many spell_many fit_many marks reads writes keys new_fields old_fields body entry node_eq bytes_eq bytes_lt part_lt cell_eq chain_of units_of next_of change_fault new_unit unit_ask first_missing on_ask unit_step new_layout layout_ask on_layout_ask layout_step reply work_asks put_cell get_cell fill_cell probe work_feed cell_feed entry_size needs_decision page_of entry_of new_seqr seqr_step seqr_tick append_work_asks append_start append_feed append_again sync_work_asks sync_start sync_feed walk_on walk_start walk_feed no_versions based version_of with_change parts_of decision_in view_start view_version view_parts unknown_in changed_in verdict view_outcome step_at play_on play read_fault write_fault commit_record open_decision checkpoint bases_in load_from view_base view_bases may_forget commit_at past_at rescue_turn trim_start trim_feed copy_work_asks copy_start copy_feed reconf_work_asks reconf_start reconf_feed reconf_latest new_client entries_at copy_fault tests refusal appends syncs walked task_asks client_asks walks task_feed task_again accepts client_command client_deliver client_tick fields_size decided newest log_of entries_of members path_on path changes_below version outcome history_of start latest unit_moves layout_moves seqr_moves client_turned happens limit_of drain_on drain tick_all rounds settle any.is_op any.applied any.spelled any.read any.touched any.looked any.first any.answered any.saved any.loaded state_format op_format digits
told_stuck_then = refl

stuck_waits : command_in all_kinds (client all_kinds stuck 2).work ≡ Some (cmd.Rescue 1)
unfolding run u8_at u16_at u32_at u64_at raw_at fixed_at read_many spell_many fit_many marks reads writes keys new_fields old_fields body entry node_eq bytes_eq bytes_lt part_lt cell_eq chain_of units_of next_of change_fault new_unit unit_ask first_missing on_ask unit_step new_layout layout_ask on_layout_ask layout_step reply work_asks put_cell get_cell fill_cell probe work_feed cell_feed entry_size needs_decision page_of entry_of new_seqr seqr_step seqr_tick append_work_asks append_start append_feed append_again sync_work_asks sync_start sync_feed walk_on walk_start walk_feed no_versions based version_of with_change parts_of decision_in view_start view_version view_parts unknown_in changed_in verdict view_outcome step_at play_on play read_fault write_fault commit_record open_decision checkpoint bases_in load_from view_base view_bases may_forget commit_at past_at rescue_turn trim_start trim_feed copy_work_asks copy_start copy_feed reconf_work_asks reconf_start reconf_feed reconf_latest new_client entries_at copy_fault tests refusal appends syncs walked task_asks client_asks walks task_feed task_again accepts client_command client_deliver client_tick fields_size decided newest log_of entries_of members path_on path changes_below version outcome history_of start latest unit_moves layout_moves seqr_moves client_turned happens limit_of drain_on drain tick_all rounds settle any.is_op any.applied any.spelled any.read any.touched any.looked any.first any.answered any.saved any.loaded state_format op_format digits
stuck_waits = refl

pub rescue_is_undecided : RescueIsUndecided
rescue_is_undecided = record {
  reached = stuck_reached;
  lawful = tt;
  few = subst (λ (n : ℕ). n < most_steps) (sym stuck_steps) (omega arith);
  told = stuck_refused;
  replies = record { replies = stuck_refused ∷ []; are = told_stuck_then ∙ ap (λ (ts : List (Told all_kinds)). ts ++ stuck_refused ∷ []) (sym told_stuck); here = (0, omega arith, refl) };
  waits = stuck_waits;
  refused = refl;
}
