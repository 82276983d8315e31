-- Runs over kinds that break what this store's kinds keep, for which claims on the log don't hold: computed.
use Rattle.std.proofs.Common.{◌≡◌, ℕ, zero, suc, ◌<◌, ◌≤◌, List, [], ◌∷◌, ◌++◌, Bool, true, false, refl, sym, ap, ◌∙◌, subst, inl, inr, arith, Option, Some, None}
use Rattle.std.specs.Prelude.{Contains, ◌==◌, map}
use Rattle.std.specs.List.{list_any}
use Rattle.tg_codec.specs.Reading.{u8_at, u16_at, u32_at, u64_at, raw_at, fixed_at}
use Rattle.tg_codec.specs.Codec.{read_many, spell_many, fit_many}
use Rattle.tg_entry.specs.Reads.{marks, reads}
use Rattle.tg_entry.specs.Writes.{writes}
use Rattle.tg_entry.specs.Checkpoints.{keys, new_fields, old_fields}
use Rattle.tg_entry.specs.Format.{body, entry}
use Rattle.tg_base.specs.Orders.{node_eq}
use Rattle.tg_protocol.specs.Words.{directory, client_id, bytes_eq, bytes_lt, part_lt, cell_eq}
use Rattle.tg_protocol.specs.Layouts.{chain_of, units_of, next_of, change_fault}
use Rattle.tg_protocol.specs.Units.{new_unit, unit_ask, first_missing, on_ask, unit_step}
use Rattle.tg_protocol.specs.LayoutServers.{new_layout, layout_ask, on_layout_ask, layout_step}
use Rattle.tg_protocol.specs.Replies.{reply}
use Rattle.tg_protocol.specs.Cells.{work_asks, put_cell, get_cell, fill_cell, probe, work_feed, cell_feed}
use Rattle.tg_entry.specs.Needs.{needs_decision}
use Rattle.tg_protocol.specs.Entries.{entry_size}
use Rattle.tg_protocol.specs.Pages.{page_of, entry_of}
use Rattle.tg_protocol.specs.Sequencers.{new_seqr, seqr_step, seqr_tick}
use Rattle.tg_protocol.specs.Appending.{append_work_asks, append_start, append_feed, append_again}
use Rattle.tg_protocol.specs.Syncing.{sync_work_asks, sync_start, sync_feed}
use Rattle.tg_protocol.specs.Walking.{walk_on, walk_start, walk_feed}
use Rattle.tg_protocol.specs.Versions.{no_versions, based, version_of, with_change, parts_of}
use Rattle.tg_protocol.specs.Views.{decision_in, view_start, view_version, view_parts, unknown_in, changed_in, verdict, view_outcome, step_at, play_on, play}
use Rattle.tg_protocol.specs.Transactions.{read_fault, write_fault, commit_record}
use Rattle.tg_protocol.specs.Checkpoints.{open_decision, checkpoint, bases_in, load_from, view_base, view_bases, may_forget}
use Rattle.tg_protocol.specs.Past.{commit_at, past_at, rescue_turn}
use Rattle.tg_protocol.specs.Trimming.{trim_start, trim_feed, copy_work_asks, copy_start, copy_feed}
use Rattle.tg_protocol.specs.Reconfiguring.{reconf_work_asks, reconf_start, reconf_feed, reconf_latest}
use Rattle.tg_protocol.specs.Clients.{new_client, entries_at, copy_fault, tests, refusal}
use Rattle.tg_protocol.specs.Answers.{appends, syncs, walked}
use Rattle.tg_protocol.specs.ClientSteps.{task_asks, client_asks, walks, task_feed, task_again, accepts, client_command, client_deliver, client_tick}
use Rattle.tg_protocol.specs.Sizes.{fields_size}
use Rattle.tg_protocol.specs.Logs.{decided, newest, log_of, entries_of, members, path_on, path, changes_below, version, outcome, history_of}
use Rattle.tg_base.specs.Clusters.{Header}
use Rattle.tg_base.specs.declared.cell.Cell.{Cell}
use Rattle.tg_base.specs.declared.cell.Cell.TheVariants.{Data}
use Rattle.tg_entry.specs.declared.entry.Entry.{Entry}
use Rattle.tg_model.specs.declared.command.Command.TheVariants as cmd
use Rattle.tg_model.specs.declared.command.Event.TheVariants.{Command as Commands, Deliver, Lose, Tick}
use Rattle.tg_protocol.specs.Worlds.{World, start, latest, log, history, unit_moves, layout_moves, seqr_moves, client_turned, happens, limit_of, drain_on, drain, tick_all, rounds, settle, line, lines, lowest, next_event}
use Rattle.tg_protocol.specs.Runs.{Move, Moves, Takes, LawfulMove, Reaches, Later, run}
use Rattle.tg_law_layouts.proofs.Layouts.Layouts.{has_header}
use Rattle.tg_law_layouts.proofs.Moves.Lists.{contained}
use Rattle.tg_law_layouts.proofs.Moves.Members.{Has, has_contained}
use Rattle.tg_law_cells.specs.Entries.Worked.{tallies, two_units, drained}
use Rattle.tg_law_cells.specs.Entries.Refuted.{floor_two, half_written, until_trimmed, half_trimmed, then_drains, rest, CellsWantSafeTrims}
use Rattle.tg_law_cells.proofs.Entries.Worked.{LawfulAll, lawful_both, is_lawful, lawful_none, all_drained, and_lawful}

-- Lawful moves.

lawful_put : (k n : ℕ) → k < 3 → LawfulAll (Takes (Commands k cmd.Begin) ∷ Takes (Commands k (cmd.Put directory n)) ∷ Takes (Commands k cmd.End) ∷ [])
unfolding LawfulAll
lawful_put k n l x (inl e) = is_lawful x _ e (l, tt)
lawful_put k n l x (inr (inl e)) = is_lawful x _ e (l, (refl, λ allowed short. record { read = refl; fits = refl }))
lawful_put k n l x (inr (inr (inl e))) = is_lawful x _ e (l, tt)
lawful_put k n l x (inr (inr (inr i))) = absurd i

lawful_reconf : LawfulAll (Takes (Commands 2 (cmd.Reconf (record { seq = 1; drop = 0 ∷ []; opened = []; join = None }))) ∷ [])
unfolding LawfulAll
lawful_reconf x (inl e) = is_lawful x _ e (omega arith, refl)
lawful_reconf x (inr i) = absurd i

lawful_tick : LawfulAll (Takes (Tick (client_id 2)) ∷ [])
unfolding LawfulAll
lawful_tick x (inl e) = is_lawful x _ e (omega arith)
lawful_tick x (inr i) = absurd i

lawful_trim : LawfulAll (Takes (Commands 0 cmd.Trim) ∷ Takes (Deliver 6) ∷ [])
unfolding LawfulAll
lawful_trim x (inl e) = is_lawful x _ e (omega arith, tt)
lawful_trim x (inr (inl e)) = is_lawful x _ e tt
lawful_trim x (inr (inr i)) = absurd i

lawful_hands : LawfulAll (Takes (Deliver 8) ∷ Takes (Deliver 9) ∷ Takes (Deliver 10) ∷ Takes (Lose 11) ∷ [])
unfolding LawfulAll
lawful_hands x (inl e) = is_lawful x _ e tt
lawful_hands x (inr (inl e)) = is_lawful x _ e tt
lawful_hands x (inr (inr (inl e))) = is_lawful x _ e tt
lawful_hands x (inr (inr (inr (inl e)))) = is_lawful x _ e tt
lawful_hands x (inr (inr (inr (inr i)))) = absurd i

lawful_until : (n : ℕ) (w : World tallies) → LawfulAll (until_trimmed n w)
unfolding LawfulAll until_trimmed
lawful_until zero w x g = absurd g
lawful_until (suc n) w x g = by (Rattle.std.specs.Prelude.nat_lt 0 (Rattle.tg_protocol.specs.Worlds.unit tallies w 0).low) g (λ i k. lawful_until n (happens tallies w (Deliver i)) x k)
  where
    on : (o : Option ℕ) → Has (elim o as (λ _. Moves tallies) [ None ↦ [] | Some i ↦ Takes (Deliver i) ∷ until_trimmed n (happens tallies w (Deliver i)) ]) x
        → ((i : ℕ) → Has (until_trimmed n (happens tallies w (Deliver i))) x → LawfulMove tallies two_units x) → LawfulMove tallies two_units x
    on None g more = absurd g
    on (Some i) (inl s) more = subst (λ (y : Move tallies). LawfulMove tallies two_units y) (sym s) tt
    on (Some i) (inr k) more = more i k

    by : (b : Bool) → Has (elim b as (λ _. Moves tallies) [ true ↦ [] | false ↦ elim (lowest tallies w.waiting) as (λ _. Moves tallies) [ None ↦ [] | Some i ↦ Takes (Deliver i) ∷ until_trimmed n (happens tallies w (Deliver i)) ] ]) x
        → ((i : ℕ) → Has (until_trimmed n (happens tallies w (Deliver i))) x → LawfulMove tallies two_units x) → LawfulMove tallies two_units x
    by true g more = absurd g
    by false g more = on (lowest tallies w.waiting) g more

lawful_lost : (is : List ℕ) → LawfulAll (map (λ (i : ℕ). Takes (Lose i)) is)
unfolding LawfulAll
lawful_lost [] x g = absurd g
lawful_lost (i ∷ is) x (inl e) = subst (λ (y : Move tallies). LawfulMove tallies two_units y) (sym e) tt
lawful_lost (i ∷ is) x (inr g) = lawful_lost is x g

reaches : (ms : Moves tallies) → LawfulAll ms → (run tallies ms (start tallies two_units)).steps ≤ 1000 → Reaches tallies two_units ms (run tallies ms (start tallies two_units))
unfolding LawfulAll start
reaches ms f few = record { header = refl; goes = record { lawful = λ x i. f x (has_contained ms x i); is = refl; few = omega (arith, few) } }

-- A cell that only a dropped unit had.

not_both : (b : Bool) → b ≡ true → b ≡ false → ⊥
not_both b e f = cc

half_lawful : LawfulAll half_trimmed
half_lawful =
    lawful_both (half_written ++ until_trimmed 100 (run tallies half_written (start tallies two_units))) _
    (lawful_both half_written _
    (lawful_both floor_two _ (and_lawful [] _ lawful_none (lawful_put 0 2 (omega arith)))
    (lawful_both (Takes (Commands 0 cmd.Trim) ∷ Takes (Deliver 6) ∷ []) _ lawful_trim
    (lawful_both (Takes (Commands 1 cmd.Begin) ∷ Takes (Commands 1 (cmd.Put _ 1)) ∷ Takes (Commands 1 cmd.End) ∷ []) _ (lawful_put 1 1 (omega arith)) lawful_hands)))
    (lawful_until 100 _)) (lawful_lost _)

then_lawful : (ms more : Moves tallies) → LawfulAll more → LawfulAll (then_drains ms more)
then_lawful ms more f = lawful_both more _ f (all_drained 100 _)

rest_lawful : LawfulAll rest
rest_lawful =
    lawful_both _ _ (lawful_both _ _ (then_lawful half_trimmed _ lawful_reconf) (then_lawful _ _ lawful_tick)) (then_lawful _ _ (lawful_put 2 1 (omega arith)))

half_few : (run tallies half_trimmed (start tallies two_units)).steps ≤ 1000
unfolding run drained until_trimmed u8_at u16_at u32_at u64_at raw_at fixed_at read_many spell_many fit_many marks reads writes keys new_fields old_fields body entry node_eq bytes_eq bytes_lt part_lt cell_eq chain_of units_of next_of change_fault new_unit unit_ask first_missing on_ask unit_step new_layout layout_ask on_layout_ask layout_step reply work_asks put_cell get_cell fill_cell probe work_feed cell_feed entry_size needs_decision page_of entry_of new_seqr seqr_step seqr_tick append_work_asks append_start append_feed append_again sync_work_asks sync_start sync_feed walk_on walk_start walk_feed no_versions based version_of with_change parts_of decision_in view_start view_version view_parts unknown_in changed_in verdict view_outcome step_at play_on play read_fault write_fault commit_record open_decision checkpoint bases_in load_from view_base view_bases may_forget commit_at past_at rescue_turn trim_start trim_feed copy_work_asks copy_start copy_feed reconf_work_asks reconf_start reconf_feed reconf_latest new_client entries_at copy_fault tests refusal appends syncs walked task_asks client_asks walks task_feed task_again accepts client_command client_deliver client_tick fields_size decided newest log_of entries_of members path_on path changes_below version outcome history_of start latest log history unit_moves layout_moves seqr_moves client_turned happens limit_of drain_on drain tick_all rounds settle line lines
half_few = omega arith

rest_few : (run tallies rest (run tallies half_trimmed (start tallies two_units))).steps ≤ 1000
unfolding run drained until_trimmed u8_at u16_at u32_at u64_at raw_at fixed_at read_many spell_many fit_many marks reads writes keys new_fields old_fields body entry node_eq bytes_eq bytes_lt part_lt cell_eq chain_of units_of next_of change_fault new_unit unit_ask first_missing on_ask unit_step new_layout layout_ask on_layout_ask layout_step reply work_asks put_cell get_cell fill_cell probe work_feed cell_feed entry_size needs_decision page_of entry_of new_seqr seqr_step seqr_tick append_work_asks append_start append_feed append_again sync_work_asks sync_start sync_feed walk_on walk_start walk_feed no_versions based version_of with_change parts_of decision_in view_start view_version view_parts unknown_in changed_in verdict view_outcome step_at play_on play read_fault write_fault commit_record open_decision checkpoint bases_in load_from view_base view_bases may_forget commit_at past_at rescue_turn trim_start trim_feed copy_work_asks copy_start copy_feed reconf_work_asks reconf_start reconf_feed reconf_latest new_client entries_at copy_fault tests refusal appends syncs walked task_asks client_asks walks task_feed task_again accepts client_command client_deliver client_tick fields_size decided newest log_of entries_of members path_on path changes_below version outcome history_of start latest log history unit_moves layout_moves seqr_moves client_turned happens limit_of drain_on drain tick_all rounds settle line lines
rest_few = omega arith

-- that its entry is client 1's
of_client_one : Option Entry → Bool
of_client_one None = false
of_client_one (Some e) = e.head.client == 1

client_one : Cell → Bool
client_one (Data d) = of_client_one (entry_of d)
client_one c = false

one_first : (p q : ℕ) (c d : Cell) → ◌≡◌ {A = ℕ × Cell} (p, c) (q, d) → c ≡ d
one_first p q c d e = ap (λ (y : ℕ × Cell). y.1) e

half_log : (a : Cell) × (b : Cell) × (log tallies (run tallies half_trimmed (start tallies two_units)) ≡ (0, a) ∷ (1, b) ∷ []) × (client_one b ≡ true)
unfolding run drained until_trimmed u8_at u16_at u32_at u64_at raw_at fixed_at read_many spell_many fit_many marks reads writes keys new_fields old_fields body entry node_eq bytes_eq bytes_lt part_lt cell_eq chain_of units_of next_of change_fault new_unit unit_ask first_missing on_ask unit_step new_layout layout_ask on_layout_ask layout_step reply work_asks put_cell get_cell fill_cell probe work_feed cell_feed entry_size needs_decision page_of entry_of new_seqr seqr_step seqr_tick append_work_asks append_start append_feed append_again sync_work_asks sync_start sync_feed walk_on walk_start walk_feed no_versions based version_of with_change parts_of decision_in view_start view_version view_parts unknown_in changed_in verdict view_outcome step_at play_on play read_fault write_fault commit_record open_decision checkpoint bases_in load_from view_base view_bases may_forget commit_at past_at rescue_turn trim_start trim_feed copy_work_asks copy_start copy_feed reconf_work_asks reconf_start reconf_feed reconf_latest new_client entries_at copy_fault tests refusal appends syncs walked task_asks client_asks walks task_feed task_again accepts client_command client_deliver client_tick fields_size decided newest log_of entries_of members path_on path changes_below version outcome history_of start latest log history unit_moves layout_moves seqr_moves client_turned happens limit_of drain_on drain tick_all rounds settle line lines of_client_one client_one
half_log = (_, _, refl, refl)

rest_log : (a : Cell) × (b : Cell) × (log tallies (run tallies rest (run tallies half_trimmed (start tallies two_units))) ≡ (0, a) ∷ (1, b) ∷ []) × (client_one b ≡ false)
unfolding run drained until_trimmed u8_at u16_at u32_at u64_at raw_at fixed_at read_many spell_many fit_many marks reads writes keys new_fields old_fields body entry node_eq bytes_eq bytes_lt part_lt cell_eq chain_of units_of next_of change_fault new_unit unit_ask first_missing on_ask unit_step new_layout layout_ask on_layout_ask layout_step reply work_asks put_cell get_cell fill_cell probe work_feed cell_feed entry_size needs_decision page_of entry_of new_seqr seqr_step seqr_tick append_work_asks append_start append_feed append_again sync_work_asks sync_start sync_feed walk_on walk_start walk_feed no_versions based version_of with_change parts_of decision_in view_start view_version view_parts unknown_in changed_in verdict view_outcome step_at play_on play read_fault write_fault commit_record open_decision checkpoint bases_in load_from view_base view_bases may_forget commit_at past_at rescue_turn trim_start trim_feed copy_work_asks copy_start copy_feed reconf_work_asks reconf_start reconf_feed reconf_latest new_client entries_at copy_fault tests refusal appends syncs walked task_asks client_asks walks task_feed task_again accepts client_command client_deliver client_tick fields_size decided newest log_of entries_of members path_on path changes_below version outcome history_of start latest log history unit_moves layout_moves seqr_moves client_turned happens limit_of drain_on drain tick_all rounds settle line lines of_client_one client_one
rest_log = (_, _, refl, refl)

later_rest : Later tallies (run tallies half_trimmed (start tallies two_units)) (run tallies rest (run tallies half_trimmed (start tallies two_units)))
unfolding LawfulAll
later_rest = (
  rest,
  record {
    lawful = λ z i. subst (λ (h : Header). LawfulMove tallies h z) (sym (has_header tallies two_units half_trimmed)) (rest_lawful z (has_contained rest z i));
    is = refl;
    few = (let n = rest_few in omega (arith, n));
  },
)

pub cells_want_safe_trims : CellsWantSafeTrims
unfolding start
cells_want_safe_trims f = by half_log rest_log
  where
    by : (a : Cell) × (b : Cell) × (log tallies (run tallies half_trimmed (start tallies two_units)) ≡ (0, a) ∷ (1, b) ∷ []) × (client_one b ≡ true)
        → (a : Cell) × (b : Cell) × (log tallies (run tallies rest (run tallies half_trimmed (start tallies two_units))) ≡ (0, a) ∷ (1, b) ∷ []) × (client_one b ≡ false) → ⊥
    by x y = which (has_contained {X = ℕ × Cell} ((0, y.0) ∷ (1, y.1) ∷ []) (1, x.1)
        (subst (λ (l : List (ℕ × Cell)). Contains l (1, x.1)) y.2
        (f two_units half_trimmed _ _ (reaches half_trimmed half_lawful half_few) later_rest 1 x.1
        (subst (λ (l : List (ℕ × Cell)). Contains l (1, x.1)) (sym x.2) (contained {X = ℕ × Cell} ((0, x.0) ∷ (1, x.1) ∷ []) (1, x.1) (inr (inl refl)))))))
      where
        zero_one : ◌≡◌ {A = ℕ} 1 0 → ⊥
        zero_one e = omega (arith, e)

        which : Has {X = ℕ × Cell} ((0, y.0) ∷ (1, y.1) ∷ []) (1, x.1) → ⊥
        which (inl e) = zero_one (ap (λ (z : ℕ × Cell). z.0) e)
        which (inr (inl e)) = not_both (client_one x.1) x.3 (ap client_one (one_first 1 1 x.1 y.1 e) ∙ y.3)
        which (inr (inr i)) = i
