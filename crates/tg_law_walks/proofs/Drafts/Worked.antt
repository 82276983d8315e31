-- A run in which another sequencer links a second entry to the first: computed.
use Rattle.std.proofs.Common.{◌≤◌, [], ◌∷◌, refl, inl, inr, arith}
use Rattle.tg_codec.specs.Reading.{u8_at, u16_at, u32_at, u64_at, raw_at, fixed_at}
use Rattle.tg_codec.specs.Codec.{read_many, spell_many, fit_many}
use Rattle.tg_entry.specs.Reads.{marks, reads}
use Rattle.tg_entry.specs.Writes.{writes}
use Rattle.tg_entry.specs.Checkpoints.{keys, new_fields, old_fields}
use Rattle.tg_entry.specs.Format.{body, entry}
use Rattle.tg_base.specs.Orders.{node_eq}
use Rattle.tg_protocol.specs.Words.{directory, bytes_eq, bytes_lt, part_lt, cell_eq}
use Rattle.tg_protocol.specs.Layouts.{chain_of, units_of, next_of, change_fault}
use Rattle.tg_protocol.specs.Units.{new_unit, unit_ask, first_missing, on_ask, unit_step}
use Rattle.tg_protocol.specs.LayoutServers.{new_layout, layout_ask, on_layout_ask, layout_step}
use Rattle.tg_protocol.specs.Replies.{reply}
use Rattle.tg_protocol.specs.Cells.{work_asks, put_cell, get_cell, fill_cell, probe, work_feed, cell_feed}
use Rattle.tg_entry.specs.Needs.{needs_decision}
use Rattle.tg_protocol.specs.Entries.{entry_size}
use Rattle.tg_protocol.specs.Pages.{page_of, entry_of}
use Rattle.tg_protocol.specs.Sequencers.{new_seqr, seqr_step, seqr_tick}
use Rattle.tg_protocol.specs.Appending.{append_work_asks, append_start, append_feed, append_again}
use Rattle.tg_protocol.specs.Syncing.{sync_work_asks, sync_start, sync_feed}
use Rattle.tg_protocol.specs.Walking.{walk_on, walk_start, walk_feed}
use Rattle.tg_protocol.specs.Versions.{no_versions, based, version_of, with_change, parts_of}
use Rattle.tg_protocol.specs.Views.{decision_in, view_start, view_version, view_parts, unknown_in, changed_in, verdict, view_outcome, step_at, play_on, play}
use Rattle.tg_protocol.specs.Transactions.{read_fault, write_fault, commit_record}
use Rattle.tg_protocol.specs.Checkpoints.{open_decision, checkpoint, bases_in, load_from, view_base, view_bases, may_forget}
use Rattle.tg_protocol.specs.Past.{commit_at, past_at, rescue_turn}
use Rattle.tg_protocol.specs.Trimming.{trim_start, trim_feed, copy_work_asks, copy_start, copy_feed}
use Rattle.tg_protocol.specs.Reconfiguring.{reconf_work_asks, reconf_start, reconf_feed, reconf_latest}
use Rattle.tg_protocol.specs.Clients.{new_client, entries_at, copy_fault, tests, refusal}
use Rattle.tg_protocol.specs.Answers.{appends, syncs, walked}
use Rattle.tg_protocol.specs.ClientSteps.{task_asks, client_asks, walks, task_feed, task_again, accepts, client_command, client_deliver, client_tick}
use Rattle.tg_protocol.specs.Sizes.{fields_size}
use Rattle.tg_protocol.specs.Logs.{decided, newest, log_of, entries_of, members, path_on, path, changes_below, version, outcome, history_of}
use Rattle.tg_model.specs.declared.command.Command.TheVariants as cmd
use Rattle.tg_model.specs.declared.command.Event.TheVariants.{Command as Commands}
use Rattle.tg_protocol.specs.Worlds.{start, latest, log, history, unit_moves, layout_moves, seqr_moves, client_turned, happens, limit_of, drain_on, drain, tick_all, rounds, settle, line, lines}
use Rattle.tg_protocol.specs.Runs.{Takes, run}
use Rattle.tg_law_layouts.proofs.Moves.Members.{has_contained}
use Rattle.tg_law_cells.specs.Entries.Worked.{tallies, two_units, drained, asked_again}
use Rattle.tg_law_cells.proofs.Entries.Worked.{LawfulAll, is_lawful, and_lawful, lawful_asked}
use Rattle.tg_law_walks.specs.Drafts.Worked.{committed_again, WorkedLinks}

lawful_commit : LawfulAll (Takes (Commands 0 cmd.Begin) ∷ Takes (Commands 0 (cmd.Put directory 1)) ∷ Takes (Commands 0 cmd.End) ∷ [])
unfolding LawfulAll
lawful_commit x (inl e) = is_lawful x _ e (omega arith, tt)
lawful_commit x (inr (inl e)) = is_lawful x _ e (omega arith, (refl, λ allowed short. record { read = refl; fits = refl }))
lawful_commit x (inr (inr (inl e))) = is_lawful x _ e (omega arith, tt)
lawful_commit x (inr (inr (inr i))) = absurd i

lawful_run : LawfulAll committed_again
lawful_run = and_lawful asked_again _ lawful_asked lawful_commit

few_steps : (run tallies committed_again (start tallies two_units)).steps ≤ 1000
unfolding run drained u8_at u16_at u32_at u64_at raw_at fixed_at read_many spell_many fit_many marks reads writes keys new_fields old_fields body entry node_eq bytes_eq bytes_lt part_lt cell_eq chain_of units_of next_of change_fault new_unit unit_ask first_missing on_ask unit_step new_layout layout_ask on_layout_ask layout_step reply work_asks put_cell get_cell fill_cell probe work_feed cell_feed entry_size needs_decision page_of entry_of new_seqr seqr_step seqr_tick append_work_asks append_start append_feed append_again sync_work_asks sync_start sync_feed walk_on walk_start walk_feed no_versions based version_of with_change parts_of decision_in view_start view_version view_parts unknown_in changed_in verdict view_outcome step_at play_on play read_fault write_fault commit_record open_decision checkpoint bases_in load_from view_base view_bases may_forget commit_at past_at rescue_turn trim_start trim_feed copy_work_asks copy_start copy_feed reconf_work_asks reconf_start reconf_feed reconf_latest new_client entries_at copy_fault tests refusal appends syncs walked task_asks client_asks walks task_feed task_again accepts client_command client_deliver client_tick fields_size decided newest log_of entries_of members path_on path changes_below version outcome history_of start latest log history unit_moves layout_moves seqr_moves client_turned happens limit_of drain_on drain tick_all rounds settle line lines
few_steps = omega arith

pub worked_links : WorkedLinks
unfolding LawfulAll run drained u8_at u16_at u32_at u64_at raw_at fixed_at read_many spell_many fit_many marks reads writes keys new_fields old_fields body entry node_eq bytes_eq bytes_lt part_lt cell_eq chain_of units_of next_of change_fault new_unit unit_ask first_missing on_ask unit_step new_layout layout_ask on_layout_ask layout_step reply work_asks put_cell get_cell fill_cell probe work_feed cell_feed entry_size needs_decision page_of entry_of new_seqr seqr_step seqr_tick append_work_asks append_start append_feed append_again sync_work_asks sync_start sync_feed walk_on walk_start walk_feed no_versions based version_of with_change parts_of decision_in view_start view_version view_parts unknown_in changed_in verdict view_outcome step_at play_on play read_fault write_fault commit_record open_decision checkpoint bases_in load_from view_base view_bases may_forget commit_at past_at rescue_turn trim_start trim_feed copy_work_asks copy_start copy_feed reconf_work_asks reconf_start reconf_feed reconf_latest new_client entries_at copy_fault tests refusal appends syncs walked task_asks client_asks walks task_feed task_again accepts client_command client_deliver client_tick fields_size decided newest log_of entries_of members path_on path changes_below version outcome history_of start latest log history unit_moves layout_moves seqr_moves client_turned happens limit_of drain_on drain tick_all rounds settle line lines
worked_links = record {
  reached = record {
    header = refl;
    goes = record { lawful = λ x i. lawful_run x (has_contained committed_again x i); is = refl; few = (let a = few_steps in omega (arith, a)) };
  };
  epoch = refl;
  sequencer = refl;
  first = _;
  second = _;
  has = refl;
  entry = _;
  reads = refl;
  links = refl;
}
