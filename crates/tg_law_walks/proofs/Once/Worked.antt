-- The worked run, computed.
use Rattle.std.proofs.Common.{◌≡◌, ◌≤◌, [], ◌∷◌, true, refl, inl, inr, arith, None}
use Rattle.tg_codec.specs.Reading.{u8_at, u16_at, u32_at, u64_at, raw_at, fixed_at}
use Rattle.tg_codec.specs.Codec.{read_many, spell_many, fit_many}
use Rattle.tg_entry.specs.Reads.{marks, reads}
use Rattle.tg_entry.specs.Writes.{writes}
use Rattle.tg_entry.specs.Checkpoints.{keys, new_fields, old_fields}
use Rattle.tg_entry.specs.Format.{body, entry}
use Rattle.tg_base.specs.Orders.{node_eq}
use Rattle.tg_protocol.specs.Words.{client_id, bytes_eq, bytes_lt, part_lt, cell_eq}
use Rattle.tg_protocol.specs.Layouts.{chain_of, units_of, next_of, change_fault}
use Rattle.tg_protocol.specs.Units.{new_unit, unit_ask, first_missing, on_ask, unit_step}
use Rattle.tg_protocol.specs.LayoutServers.{new_layout, layout_ask, on_layout_ask, layout_step}
use Rattle.tg_protocol.specs.Replies.{reply}
use Rattle.tg_protocol.specs.Cells.{work_asks, put_cell, get_cell, fill_cell, probe, work_feed, cell_feed}
use Rattle.tg_entry.specs.Needs.{needs_decision}
use Rattle.tg_protocol.specs.Entries.{entry_size}
use Rattle.tg_protocol.specs.Pages.{page_of, entry_of}
use Rattle.tg_protocol.specs.Sequencers.{new_seqr, seqr_step, seqr_tick}
use Rattle.tg_protocol.specs.Appending.{append_work_asks, append_start, append_feed, append_again}
use Rattle.tg_protocol.specs.Syncing.{sync_work_asks, sync_start, sync_feed}
use Rattle.tg_protocol.specs.Walking.{walk_on, walk_start, walk_feed}
use Rattle.tg_protocol.specs.Versions.{no_versions, based, version_of, with_change, parts_of}
use Rattle.tg_protocol.specs.Views.{decision_in, view_start, view_version, view_parts, unknown_in, changed_in, verdict, view_outcome, step_at, play_on, play}
use Rattle.tg_protocol.specs.Transactions.{read_fault, write_fault, commit_record}
use Rattle.tg_protocol.specs.Checkpoints.{open_decision, checkpoint, bases_in, load_from, view_base, view_bases, may_forget}
use Rattle.tg_protocol.specs.Past.{commit_at, past_at, rescue_turn}
use Rattle.tg_protocol.specs.Trimming.{trim_start, trim_feed, copy_work_asks, copy_start, copy_feed}
use Rattle.tg_protocol.specs.Reconfiguring.{reconf_work_asks, reconf_start, reconf_feed, reconf_latest}
use Rattle.tg_protocol.specs.Clients.{new_client, entries_at, copy_fault, tests, refusal}
use Rattle.tg_protocol.specs.Answers.{appends, syncs, walked}
use Rattle.tg_protocol.specs.ClientSteps.{task_asks, client_asks, walks, task_feed, task_again, accepts, client_command, client_deliver, client_tick}
use Rattle.tg_protocol.specs.Sizes.{fields_size}
use Rattle.tg_protocol.specs.Logs.{decided, newest, log_of, entries_of, members, path_on, path, changes_below, version, outcome, history_of}
use Rattle.tg_protocol.specs.Worlds.{start, latest, log, history, unit_moves, layout_moves, seqr_moves, client_turned, happens, limit_of, drain_on, drain, tick_all, rounds, settle, line, lines}
use Rattle.tg_model.specs.declared.command.Command.TheVariants as cmd
use Rattle.tg_model.specs.declared.command.Event.TheVariants.{Command as Commands, Tick}
use Rattle.tg_protocol.specs.Runs.{Takes, Reaches, run}
use Rattle.tg_law_layouts.proofs.Moves.Members.{has_contained}
use Rattle.tg_law_layouts.proofs.Layouts.Deciding.{latest_decided}
use Rattle.tg_law_cells.specs.Entries.Archive.{TrimsWereSafe}
use Rattle.tg_law_cells.specs.Entries.Worked.{tallies, two_units, drained}
use Rattle.tg_law_cells.proofs.Entries.Worked.{has_below, trims_in_log, is_safe, safe_then, safe_on, were_safe, LawfulAll, is_lawful, and_lawful}
use Rattle.tg_law_walks.specs.Once.Worked.{page_lost, taken_over, put_again, then_trimmed, pages_sent, WorkedOnce}
use Rattle.tg_law_walks.proofs.Once.Once.{entries_stand_once}

lawful_lost : LawfulAll page_lost
unfolding LawfulAll
lawful_lost x (inl e) = is_lawful x _ e (omega arith, tt)
lawful_lost x (inr (inl e)) = is_lawful x _ e (omega arith, (refl, λ allowed short. record { read = refl; fits = refl }))
lawful_lost x (inr (inr (inl e))) = is_lawful x _ e (omega arith, tt)
lawful_lost x (inr (inr (inr (inl e)))) = is_lawful x _ e tt
lawful_lost x (inr (inr (inr (inr (inl e))))) = is_lawful x _ e tt
lawful_lost x (inr (inr (inr (inr (inr (inl e)))))) = is_lawful x _ e tt
lawful_lost x (inr (inr (inr (inr (inr (inr i)))))) = absurd i

lawful_reconf : LawfulAll (Takes (Commands 1 (cmd.Reconf (record { seq = 1; drop = 1 ∷ []; opened = []; join = None }))) ∷ [])
unfolding LawfulAll
lawful_reconf x (inl e) = is_lawful x _ e (omega arith, refl)
lawful_reconf x (inr i) = absurd i

lawful_tick : LawfulAll (Takes (Tick (client_id 0)) ∷ [])
unfolding LawfulAll
lawful_tick x (inl e) = is_lawful x _ e (omega arith)
lawful_tick x (inr i) = absurd i

lawful_trim : LawfulAll (Takes (Commands 0 cmd.Trim) ∷ [])
unfolding LawfulAll
lawful_trim x (inl e) = is_lawful x _ e (omega arith, tt)
lawful_trim x (inr i) = absurd i

lawful_run : LawfulAll then_trimmed
lawful_run = and_lawful put_again _ (and_lawful taken_over _ (and_lawful page_lost _ lawful_lost lawful_reconf) lawful_tick) lawful_trim

few_steps : (run tallies then_trimmed (start tallies two_units)).steps ≤ 1000
unfolding run drained u8_at u16_at u32_at u64_at raw_at fixed_at read_many spell_many fit_many marks reads writes keys new_fields old_fields body entry node_eq bytes_eq bytes_lt part_lt cell_eq chain_of units_of next_of change_fault new_unit unit_ask first_missing on_ask unit_step new_layout layout_ask on_layout_ask layout_step reply work_asks put_cell get_cell fill_cell probe work_feed cell_feed entry_size needs_decision page_of entry_of new_seqr seqr_step seqr_tick append_work_asks append_start append_feed append_again sync_work_asks sync_start sync_feed walk_on walk_start walk_feed no_versions based version_of with_change parts_of decision_in view_start view_version view_parts unknown_in changed_in verdict view_outcome step_at play_on play read_fault write_fault commit_record open_decision checkpoint bases_in load_from view_base view_bases may_forget commit_at past_at rescue_turn trim_start trim_feed copy_work_asks copy_start copy_feed reconf_work_asks reconf_start reconf_feed reconf_latest new_client entries_at copy_fault tests refusal appends syncs walked task_asks client_asks walks task_feed task_again accepts client_command client_deliver client_tick fields_size decided newest log_of entries_of members path_on path changes_below version outcome history_of start latest log history unit_moves layout_moves seqr_moves client_turned happens limit_of drain_on drain tick_all rounds settle line lines
few_steps = omega arith

safe_run : safe_on tallies then_trimmed (start tallies two_units) ≡ true
unfolding safe_on safe_then is_safe trims_in_log has_below run drained u8_at u16_at u32_at u64_at raw_at fixed_at read_many spell_many fit_many marks reads writes keys new_fields old_fields body entry node_eq bytes_eq bytes_lt part_lt cell_eq chain_of units_of next_of change_fault new_unit unit_ask first_missing on_ask unit_step new_layout layout_ask on_layout_ask layout_step reply work_asks put_cell get_cell fill_cell probe work_feed cell_feed entry_size needs_decision page_of entry_of new_seqr seqr_step seqr_tick append_work_asks append_start append_feed append_again sync_work_asks sync_start sync_feed walk_on walk_start walk_feed no_versions based version_of with_change parts_of decision_in view_start view_version view_parts unknown_in changed_in verdict view_outcome step_at play_on play read_fault write_fault commit_record open_decision checkpoint bases_in load_from view_base view_bases may_forget commit_at past_at rescue_turn trim_start trim_feed copy_work_asks copy_start copy_feed reconf_work_asks reconf_start reconf_feed reconf_latest new_client entries_at copy_fault tests refusal appends syncs walked task_asks client_asks walks task_feed task_again accepts client_command client_deliver client_tick fields_size decided newest log_of entries_of members path_on path changes_below version outcome history_of start latest log history unit_moves layout_moves seqr_moves client_turned happens limit_of drain_on drain tick_all rounds settle line lines
safe_run = refl

run_reached : Reaches tallies two_units then_trimmed (run tallies then_trimmed (start tallies two_units))
unfolding LawfulAll start
run_reached = record {
  header = refl;
  goes = record { lawful = λ x i. lawful_run x (has_contained then_trimmed x i); is = refl; few = (let a = few_steps in omega (arith, a)) };
}

run_safe : TrimsWereSafe tallies two_units then_trimmed
run_safe = were_safe tallies two_units then_trimmed safe_run

pub worked_once : WorkedOnce
unfolding run drained pages_sent u8_at u16_at u32_at u64_at raw_at fixed_at read_many spell_many fit_many marks reads writes keys new_fields old_fields body entry node_eq bytes_eq bytes_lt part_lt cell_eq chain_of units_of next_of change_fault new_unit unit_ask first_missing on_ask unit_step new_layout layout_ask on_layout_ask layout_step reply work_asks put_cell get_cell fill_cell probe work_feed cell_feed entry_size needs_decision page_of entry_of new_seqr seqr_step seqr_tick append_work_asks append_start append_feed append_again sync_work_asks sync_start sync_feed walk_on walk_start walk_feed no_versions based version_of with_change parts_of decision_in view_start view_version view_parts unknown_in changed_in verdict view_outcome step_at play_on play read_fault write_fault commit_record open_decision checkpoint bases_in load_from view_base view_bases may_forget commit_at past_at rescue_turn trim_start trim_feed copy_work_asks copy_start copy_feed reconf_work_asks reconf_start reconf_feed reconf_latest new_client entries_at copy_fault tests refusal appends syncs walked task_asks client_asks walks task_feed task_again accepts client_command client_deliver client_tick fields_size decided newest log_of entries_of members path_on path changes_below version outcome history_of start latest log history unit_moves layout_moves seqr_moves client_turned happens limit_of drain_on drain tick_all rounds settle line lines
worked_once = record {
  reached = run_reached;
  safe = run_safe;
  epoch = refl;
  sequencer = refl;
  low = refl;
  page = _;
  sent = refl;
  entry = _;
  reads = refl;
  given_up = inr (inl (record { layout = latest tallies (run tallies then_trimmed (start tallies two_units)); decided = (latest_decided tallies two_units then_trimmed _ run_reached).decided; later = omega arith; start = omega arith }));
  has = refl;
  once = entries_stand_once tallies two_units then_trimmed _ run_reached run_safe;
}
