-- A run that tells the past.
use Rattle.std.proofs.Common.{◌≡◌, ℕ, zero, suc, List, [], ◌∷◌, refl, Some, None, ap, sym, ◌∙◌, subst, inl, inr, arith, Bool, Option, Contains}
use Rattle.std.specs.Prelude.{true, false, nat_lt, if◌then◌else◌, slice_get}
use Rattle.tg_model.specs.declared.command.Command.TheVariants as cmd
use Rattle.tg_model.specs.declared.command.Event.TheVariants.{Command as Commands, Deliver}
use Rattle.tg_codec.specs.Reading.{u8_at, u16_at, u32_at, u64_at, raw_at, fixed_at}
use Rattle.tg_codec.specs.Codec.{read_many, spell_many, fit_many}
use Rattle.tg_entry.specs.Reads.{marks, reads}
use Rattle.tg_entry.specs.Writes.{writes}
use Rattle.tg_entry.specs.Checkpoints.{keys, new_fields, old_fields}
use Rattle.tg_entry.specs.Format.{body, entry}
use Rattle.tg_base.specs.Orders.{node_eq}
use Rattle.tg_protocol.specs.Words.{bytes_eq, bytes_lt, part_lt, cell_eq, client_id, directory}
use Rattle.tg_protocol.specs.Layouts.{chain_of, units_of, next_of, change_fault}
use Rattle.tg_protocol.specs.Units.{new_unit, unit_ask, first_missing, on_ask, unit_step}
use Rattle.tg_protocol.specs.LayoutServers.{new_layout, layout_ask, on_layout_ask, layout_step}
use Rattle.tg_protocol.specs.Replies.{reply}
use Rattle.tg_protocol.specs.Cells.{work_asks, put_cell, get_cell, fill_cell, probe, work_feed, cell_feed}
use Rattle.tg_entry.specs.Needs.{needs_decision}
use Rattle.tg_protocol.specs.Entries.{entry_size}
use Rattle.tg_protocol.specs.Pages.{page_of, entry_of}
use Rattle.tg_protocol.specs.Sequencers.{new_seqr, seqr_step, seqr_tick}
use Rattle.tg_protocol.specs.Appending.{append_work_asks, append_start, append_feed, append_again, Append, AppendEnd}
use Rattle.tg_protocol.specs.Syncing.{sync_work_asks, sync_start, sync_feed}
use Rattle.tg_protocol.specs.Walking.{walk_on, walk_start, walk_feed}
use Rattle.tg_protocol.specs.Versions.{no_versions, based, version_of, with_change, parts_of}
use Rattle.tg_protocol.specs.Views.{decision_in, view_start, view_version, view_parts, unknown_in, changed_in, verdict, view_outcome, step_at, play_on, play, Entries}
use Rattle.tg_protocol.specs.Transactions.{read_fault, write_fault, commit_record}
use Rattle.tg_protocol.specs.Checkpoints.{open_decision, checkpoint, bases_in, load_from, view_base, view_bases, may_forget}
use Rattle.tg_protocol.specs.Past.{commit_at, past_at, rescue_turn}
use Rattle.tg_protocol.specs.Trimming.{trim_start, trim_feed, copy_work_asks, copy_start, copy_feed}
use Rattle.tg_protocol.specs.Reconfiguring.{reconf_work_asks, reconf_start, reconf_feed, reconf_latest}
use Rattle.tg_protocol.specs.Clients.{new_client, entries_at, copy_fault, tests, refusal, Client, Work, below, member_positions, member_entries}
use Rattle.tg_protocol.specs.Answers.{appends, syncs, walked}
use Rattle.tg_protocol.specs.ClientSteps.{task_asks, client_asks, walks, task_feed, task_again, accepts, client_command, client_deliver, client_tick}
use Rattle.tg_protocol.specs.Sizes.{fields_size}
use Rattle.tg_protocol.specs.Logs.{decided, newest, log_of, entries_of, members, path_on, path, changes_below, version, outcome, history_of}
use Rattle.tg_protocol.specs.Worlds.{World, client, start, latest, log, history, unit_moves, layout_moves, seqr_moves, client_turned, happens, limit_of, drain_on, drain, tick_all, rounds, settle, line, lines}
use Rattle.tg_base.specs.declared.ids.Role.{Role}
use Rattle.tg_base.specs.declared.ids.Role.TheVariants as role
use Rattle.tg_base.specs.declared.packet.Packet.{Packet}
use Rattle.tg_base.specs.declared.msg.Msg.TheVariants as msg
use Rattle.tg_entry.specs.declared.entry.Entry.{Entry}
use Rattle.tg_model.specs.Kinds.{EventOf, CommandOf}
use Rattle.tg_protocol.specs.Runs.{Move, Moves, LawfulMove, Reaches, run}
use Rattle.tg_law_replies.specs.Plays.Sound.{IsRising}
use Rattle.tg_law_replies.specs.History.Worlds.{entries_in}
use Rattle.tg_law_replies.proofs.History.Members.{Has, has_contained, of_not_lt}
use Rattle.tg_protocol.specs.Holding.{append_by}
use Rattle.tg_law_replies.specs.Replies.Ended.{ended_in, EndsSo, AppendsEnd}
use Rattle.tg_law_replies.specs.Replies.Steps.{EachDelivery, EachEvent}
use Rattle.tg_law_replies.specs.Replies.Found.{HasWalked, FindsFor, Finds}
use Rattle.tg_law_replies.proofs.Replies.Carried.{event_more}
use Rattle.tg_law_finish.specs.Tallies.Tallies.{PastIsTold, tallies, one_of_each, asks_past, TellsPast}
use Rattle.tg_law_finish.proofs.Tallies.Steps.{by_steps}

abbrev w0 : World tallies
w0 = start tallies one_of_each

abbrev w1 : World tallies
w1 = happens tallies w0 (Commands 0 (cmd.AskAt 0 directory 0))

abbrev w2 : World tallies
w2 = happens tallies w1 (Deliver 0)

abbrev w3 : World tallies
w3 = happens tallies w2 (Deliver 1)

abbrev w4 : World tallies
w4 = happens tallies w3 (Deliver 2)

abbrev ended : World tallies
ended = run tallies asks_past (start tallies one_of_each)

abbrev es : Entries
es = entries_in tallies ended

empty : entries_in tallies ended ≡ []
unfolding run u8_at u16_at u32_at u64_at raw_at fixed_at read_many spell_many fit_many marks reads writes keys new_fields old_fields body entry node_eq bytes_eq bytes_lt part_lt cell_eq chain_of units_of next_of change_fault new_unit unit_ask first_missing on_ask unit_step new_layout layout_ask on_layout_ask layout_step reply work_asks put_cell get_cell fill_cell probe work_feed cell_feed entry_size needs_decision page_of entry_of new_seqr seqr_step seqr_tick append_work_asks append_start append_feed append_again sync_work_asks sync_start sync_feed walk_on walk_start walk_feed no_versions based version_of with_change parts_of decision_in view_start view_version view_parts unknown_in changed_in verdict view_outcome step_at play_on play read_fault write_fault commit_record open_decision checkpoint bases_in load_from view_base view_bases may_forget commit_at past_at rescue_turn trim_start trim_feed copy_work_asks copy_start copy_feed reconf_work_asks reconf_start reconf_feed reconf_latest new_client entries_at copy_fault tests refusal appends syncs walked task_asks client_asks walks task_feed task_again accepts client_command client_deliver client_tick fields_size decided newest log_of entries_of members path_on path changes_below version outcome history_of start latest log history unit_moves layout_moves seqr_moves client_turned happens limit_of drain_on drain tick_all rounds settle line lines
empty = refl

tells : TellsPast ended
unfolding run u8_at u16_at u32_at u64_at raw_at fixed_at read_many spell_many fit_many marks reads writes keys new_fields old_fields body entry node_eq bytes_eq bytes_lt part_lt cell_eq chain_of units_of next_of change_fault new_unit unit_ask first_missing on_ask unit_step new_layout layout_ask on_layout_ask layout_step reply work_asks put_cell get_cell fill_cell probe work_feed cell_feed entry_size needs_decision page_of entry_of new_seqr seqr_step seqr_tick append_work_asks append_start append_feed append_again sync_work_asks sync_start sync_feed walk_on walk_start walk_feed no_versions based version_of with_change parts_of decision_in view_start view_version view_parts unknown_in changed_in verdict view_outcome step_at play_on play read_fault write_fault commit_record open_decision checkpoint bases_in load_from view_base view_bases may_forget commit_at past_at rescue_turn trim_start trim_feed copy_work_asks copy_start copy_feed reconf_work_asks reconf_start reconf_feed reconf_latest new_client entries_at copy_fault tests refusal appends syncs walked task_asks client_asks walks task_feed task_again accepts client_command client_deliver client_tick fields_size decided newest log_of entries_of members path_on path changes_below version outcome history_of start latest log history unit_moves layout_moves seqr_moves client_turned happens limit_of drain_on drain tick_all rounds settle line lines
tells = record { event = 0; tells = refl }

no_entry : (p : ℕ) (e : Entry) → Contains es (p, e) → ⊥
no_entry p e i = has_contained [] (p, e) (subst (λ (xs : Entries). Contains xs (p, e)) empty i)

-- Where the tail is 0, the walks have found nothing.

below_none : (ps : List ℕ) → below tallies 0 ps ≡ []
below_none [] = refl
below_none (p ∷ ps) = by (nat_lt p 0) (of_not_lt p 0 (omega arith)) (below_none ps)
  where
    by : (b : Bool) → b ≡ false → below tallies 0 ps ≡ [] → (if b then p ∷ below tallies 0 ps else below tallies 0 ps) ≡ []
    by true e rest = absurd cc
    by false e rest = rest

own_none : (c : Client tallies) (w : Work tallies) → w.tail ≡ 0 → member_entries tallies c w w.oids ≡ []
unfolding entries_at
own_none c w tail =
    ap (λ (t : ℕ). entries_at tallies c.cells (below tallies t (member_positions tallies w w.oids))) tail
    ∙ ap (λ (ps : List ℕ). entries_at tallies c.cells ps) (below_none (member_positions tallies w w.oids))

abbrev AtZero : Client tallies → Work tallies → Type 0
AtZero c w = (w.tail ≡ 0) × (w.command ≡ cmd.AskAt 0 directory 0)

at_zero : (before : Moves tallies) (c : Client tallies) (w : Work tallies) → AtZero c w → Finds tallies one_of_each es before c w
at_zero before c w k = subst (λ (x : CommandOf tallies). FindsFor tallies one_of_each es before c w x) (sym k.1) walked
  where
    own : member_entries tallies c w w.oids ≡ []
    own = own_none c w k.0

    nothing : (p : ℕ) (e : Entry) → Contains (member_entries tallies c w w.oids) (p, e) → ⊥
    nothing p e i = has_contained [] (p, e) (subst (λ (xs : Entries). Contains xs (p, e)) own i)

    walked : HasWalked tallies one_of_each es before (member_entries tallies c w w.oids) w
    walked = record {
      written = λ p e i. absurd (nothing p e i);
      exact = record {
        rising = subst (λ (xs : Entries). IsRising xs) (sym own) refl;
        only = λ p e i. absurd (nothing p e i);
        all = λ o p e io i l low less. absurd (no_entry p e i);
        none_below = λ o b p e io is l i j. absurd (no_entry p e i);
      };
    }

-- The steps.

abbrev Each : World tallies → EventOf tallies → Type 0
Each w e = EachEvent tallies [] es AtZero w e

abbrev role_of : Option Packet → Role
role_of None = role.Seqr
role_of (Some p) = p.to.role

abbrev some_packet : Packet
some_packet = record { from = client_id 0; to = client_id 0; rid = 0; msg = msg.Whole }

abbrev packet_of : Option Packet → Packet
packet_of None = some_packet
packet_of (Some p) = p

abbrev is_client : Role → Bool
is_client role.Client = true
is_client r = false

-- a packet to another node
to_others : (w : World tallies) (i : ℕ) → is_client (role_of (slice_get w.packets i)) ≡ false → Each w (Deliver i)
to_others w i other p is c on = absurd (differ (sym other ∙ ap (λ (o : Option Packet). is_client (role_of o)) is ∙ ap is_client c))
  where
    differ : false ≡ true → ⊥
    differ e = cc

-- a packet to the client
abbrev Delivered : World tallies → Packet → Type 0
Delivered w p = EachDelivery tallies [] es AtZero (client tallies w p.to.num) (client tallies w p.to.num).work p.from p.rid (reply p.msg)

to_client : (w : World tallies) (i : ℕ) → Delivered w (packet_of (slice_get w.packets i)) → Each w (Deliver i)
to_client w i k p is c on = subst (λ (q : Packet). Delivered w q) (ap packet_of is) k

first : Each w0 (Commands 0 (cmd.AskAt 0 directory 0))
first = tt

second : is_client (role_of (slice_get w1.packets 0)) ≡ false
unfolding run u8_at u16_at u32_at u64_at raw_at fixed_at read_many spell_many fit_many marks reads writes keys new_fields old_fields body entry node_eq bytes_eq bytes_lt part_lt cell_eq chain_of units_of next_of change_fault new_unit unit_ask first_missing on_ask unit_step new_layout layout_ask on_layout_ask layout_step reply work_asks put_cell get_cell fill_cell probe work_feed cell_feed entry_size needs_decision page_of entry_of new_seqr seqr_step seqr_tick append_work_asks append_start append_feed append_again sync_work_asks sync_start sync_feed walk_on walk_start walk_feed no_versions based version_of with_change parts_of decision_in view_start view_version view_parts unknown_in changed_in verdict view_outcome step_at play_on play read_fault write_fault commit_record open_decision checkpoint bases_in load_from view_base view_bases may_forget commit_at past_at rescue_turn trim_start trim_feed copy_work_asks copy_start copy_feed reconf_work_asks reconf_start reconf_feed reconf_latest new_client entries_at copy_fault tests refusal appends syncs walked task_asks client_asks walks task_feed task_again accepts client_command client_deliver client_tick fields_size decided newest log_of entries_of members path_on path changes_below version outcome history_of start latest log history unit_moves layout_moves seqr_moves client_turned happens limit_of drain_on drain tick_all rounds settle line lines
second = refl

third : Delivered w2 (packet_of (slice_get w2.packets 1))
unfolding run u8_at u16_at u32_at u64_at raw_at fixed_at read_many spell_many fit_many marks reads writes keys new_fields old_fields body entry node_eq bytes_eq bytes_lt part_lt cell_eq chain_of units_of next_of change_fault new_unit unit_ask first_missing on_ask unit_step new_layout layout_ask on_layout_ask layout_step reply work_asks put_cell get_cell fill_cell probe work_feed cell_feed entry_size needs_decision page_of entry_of new_seqr seqr_step seqr_tick append_work_asks append_start append_feed append_again sync_work_asks sync_start sync_feed walk_on walk_start walk_feed no_versions based version_of with_change parts_of decision_in view_start view_version view_parts unknown_in changed_in verdict view_outcome step_at play_on play read_fault write_fault commit_record open_decision checkpoint bases_in load_from view_base view_bases may_forget commit_at past_at rescue_turn trim_start trim_feed copy_work_asks copy_start copy_feed reconf_work_asks reconf_start reconf_feed reconf_latest new_client entries_at copy_fault tests refusal appends syncs walked task_asks client_asks walks task_feed task_again accepts client_command client_deliver client_tick fields_size decided newest log_of entries_of members path_on path changes_below version outcome history_of start latest log history unit_moves layout_moves seqr_moves client_turned happens limit_of drain_on drain tick_all rounds settle line lines
third = tt

fourth : is_client (role_of (slice_get w3.packets 2)) ≡ false
unfolding run u8_at u16_at u32_at u64_at raw_at fixed_at read_many spell_many fit_many marks reads writes keys new_fields old_fields body entry node_eq bytes_eq bytes_lt part_lt cell_eq chain_of units_of next_of change_fault new_unit unit_ask first_missing on_ask unit_step new_layout layout_ask on_layout_ask layout_step reply work_asks put_cell get_cell fill_cell probe work_feed cell_feed entry_size needs_decision page_of entry_of new_seqr seqr_step seqr_tick append_work_asks append_start append_feed append_again sync_work_asks sync_start sync_feed walk_on walk_start walk_feed no_versions based version_of with_change parts_of decision_in view_start view_version view_parts unknown_in changed_in verdict view_outcome step_at play_on play read_fault write_fault commit_record open_decision checkpoint bases_in load_from view_base view_bases may_forget commit_at past_at rescue_turn trim_start trim_feed copy_work_asks copy_start copy_feed reconf_work_asks reconf_start reconf_feed reconf_latest new_client entries_at copy_fault tests refusal appends syncs walked task_asks client_asks walks task_feed task_again accepts client_command client_deliver client_tick fields_size decided newest log_of entries_of members path_on path changes_below version outcome history_of start latest log history unit_moves layout_moves seqr_moves client_turned happens limit_of drain_on drain tick_all rounds settle line lines
fourth = refl

fifth : Delivered w4 (packet_of (slice_get w4.packets 3))
unfolding run u8_at u16_at u32_at u64_at raw_at fixed_at read_many spell_many fit_many marks reads writes keys new_fields old_fields body entry node_eq bytes_eq bytes_lt part_lt cell_eq chain_of units_of next_of change_fault new_unit unit_ask first_missing on_ask unit_step new_layout layout_ask on_layout_ask layout_step reply work_asks put_cell get_cell fill_cell probe work_feed cell_feed entry_size needs_decision page_of entry_of new_seqr seqr_step seqr_tick append_work_asks append_start append_feed append_again sync_work_asks sync_start sync_feed walk_on walk_start walk_feed no_versions based version_of with_change parts_of decision_in view_start view_version view_parts unknown_in changed_in verdict view_outcome step_at play_on play read_fault write_fault commit_record open_decision checkpoint bases_in load_from view_base view_bases may_forget commit_at past_at rescue_turn trim_start trim_feed copy_work_asks copy_start copy_feed reconf_work_asks reconf_start reconf_feed reconf_latest new_client entries_at copy_fault tests refusal appends syncs walked task_asks client_asks walks task_feed task_again accepts client_command client_deliver client_tick fields_size decided newest log_of entries_of members path_on path changes_below version outcome history_of start latest log history unit_moves layout_moves seqr_moves client_turned happens limit_of drain_on drain tick_all rounds settle line lines
fifth x is = (refl, refl)

more : (before : Moves tallies) (w : World tallies) (e : EventOf tallies) → Each w e → EachEvent tallies [] es (Finds tallies one_of_each es before) w e
more before w e k = event_more tallies [] es AtZero (Finds tallies one_of_each es before) (at_zero before) w e k

reached : Reaches tallies one_of_each asks_past ended
unfolding run u8_at u16_at u32_at u64_at raw_at fixed_at read_many spell_many fit_many marks reads writes keys new_fields old_fields body entry node_eq bytes_eq bytes_lt part_lt cell_eq chain_of units_of next_of change_fault new_unit unit_ask first_missing on_ask unit_step new_layout layout_ask on_layout_ask layout_step reply work_asks put_cell get_cell fill_cell probe work_feed cell_feed entry_size needs_decision page_of entry_of new_seqr seqr_step seqr_tick append_work_asks append_start append_feed append_again sync_work_asks sync_start sync_feed walk_on walk_start walk_feed no_versions based version_of with_change parts_of decision_in view_start view_version view_parts unknown_in changed_in verdict view_outcome step_at play_on play read_fault write_fault commit_record open_decision checkpoint bases_in load_from view_base view_bases may_forget commit_at past_at rescue_turn trim_start trim_feed copy_work_asks copy_start copy_feed reconf_work_asks reconf_start reconf_feed reconf_latest new_client entries_at copy_fault tests refusal appends syncs walked task_asks client_asks walks task_feed task_again accepts client_command client_deliver client_tick fields_size decided newest log_of entries_of members path_on path changes_below version outcome history_of start latest log history unit_moves layout_moves seqr_moves client_turned happens limit_of drain_on drain tick_all rounds settle line lines
reached = record {
  header = refl;
  goes = record { lawful = λ x i. lawful x (has_contained asks_past x i); is = refl; few = omega arith };
}
  where
    lawful : (x : Move tallies) → Has asks_past x → LawfulMove tallies one_of_each x
    lawful x (inl e) = subst (λ (y : Move tallies). LawfulMove tallies one_of_each y) (sym e) (omega arith, refl)
    lawful x (inr (inl e)) = subst (λ (y : Move tallies). LawfulMove tallies one_of_each y) (sym e) tt
    lawful x (inr (inr (inl e))) = subst (λ (y : Move tallies). LawfulMove tallies one_of_each y) (sym e) tt
    lawful x (inr (inr (inr (inl e)))) = subst (λ (y : Move tallies). LawfulMove tallies one_of_each y) (sym e) tt
    lawful x (inr (inr (inr (inr (inl e))))) = subst (λ (y : Move tallies). LawfulMove tallies one_of_each y) (sym e) tt
    lawful x (inr (inr (inr (inr (inr i))))) = absurd i

-- no append is under way

waits_none : (a : Append) → None ≡ Some a → ⊥
waits_none a e = cc

abbrev Ends : Moves tallies → World tallies → EventOf tallies → Type 0
Ends before w e = (k : ℕ) (a : Append) (x : AppendEnd) → append_by tallies (client tallies w k).work ≡ Some a → ended_in tallies w e k ≡ Some x → EndsSo tallies es a.draft x

abbrev NoAppend : World tallies → Type 0
NoAppend w = (append_by tallies (client tallies w 0).work ≡ None) × ((k : ℕ) → append_by tallies (client tallies w (suc k)).work ≡ None)

none_ends : (before : Moves tallies) (w : World tallies) (e : EventOf tallies) → NoAppend w → Ends before w e
none_ends before w e n zero a x has is = absurd (waits_none a (sym n.0 ∙ has))
none_ends before w e n (suc k) a x has is = absurd (waits_none a (sym (n.1 k) ∙ has))

none0 : NoAppend w0
unfolding run u8_at u16_at u32_at u64_at raw_at fixed_at read_many spell_many fit_many marks reads writes keys new_fields old_fields body entry node_eq bytes_eq bytes_lt part_lt cell_eq chain_of units_of next_of change_fault new_unit unit_ask first_missing on_ask unit_step new_layout layout_ask on_layout_ask layout_step reply work_asks put_cell get_cell fill_cell probe work_feed cell_feed entry_size needs_decision page_of entry_of new_seqr seqr_step seqr_tick append_work_asks append_start append_feed append_again sync_work_asks sync_start sync_feed walk_on walk_start walk_feed no_versions based version_of with_change parts_of decision_in view_start view_version view_parts unknown_in changed_in verdict view_outcome step_at play_on play read_fault write_fault commit_record open_decision checkpoint bases_in load_from view_base view_bases may_forget commit_at past_at rescue_turn trim_start trim_feed copy_work_asks copy_start copy_feed reconf_work_asks reconf_start reconf_feed reconf_latest new_client entries_at copy_fault tests refusal appends syncs walked task_asks client_asks walks task_feed task_again accepts client_command client_deliver client_tick fields_size decided newest log_of entries_of members path_on path changes_below version outcome history_of start latest log history unit_moves layout_moves seqr_moves client_turned happens limit_of drain_on drain tick_all rounds settle line lines
none0 = (refl, λ k. refl)

none1 : NoAppend w1
unfolding run u8_at u16_at u32_at u64_at raw_at fixed_at read_many spell_many fit_many marks reads writes keys new_fields old_fields body entry node_eq bytes_eq bytes_lt part_lt cell_eq chain_of units_of next_of change_fault new_unit unit_ask first_missing on_ask unit_step new_layout layout_ask on_layout_ask layout_step reply work_asks put_cell get_cell fill_cell probe work_feed cell_feed entry_size needs_decision page_of entry_of new_seqr seqr_step seqr_tick append_work_asks append_start append_feed append_again sync_work_asks sync_start sync_feed walk_on walk_start walk_feed no_versions based version_of with_change parts_of decision_in view_start view_version view_parts unknown_in changed_in verdict view_outcome step_at play_on play read_fault write_fault commit_record open_decision checkpoint bases_in load_from view_base view_bases may_forget commit_at past_at rescue_turn trim_start trim_feed copy_work_asks copy_start copy_feed reconf_work_asks reconf_start reconf_feed reconf_latest new_client entries_at copy_fault tests refusal appends syncs walked task_asks client_asks walks task_feed task_again accepts client_command client_deliver client_tick fields_size decided newest log_of entries_of members path_on path changes_below version outcome history_of start latest log history unit_moves layout_moves seqr_moves client_turned happens limit_of drain_on drain tick_all rounds settle line lines
none1 = (refl, λ k. refl)

none2 : NoAppend w2
unfolding run u8_at u16_at u32_at u64_at raw_at fixed_at read_many spell_many fit_many marks reads writes keys new_fields old_fields body entry node_eq bytes_eq bytes_lt part_lt cell_eq chain_of units_of next_of change_fault new_unit unit_ask first_missing on_ask unit_step new_layout layout_ask on_layout_ask layout_step reply work_asks put_cell get_cell fill_cell probe work_feed cell_feed entry_size needs_decision page_of entry_of new_seqr seqr_step seqr_tick append_work_asks append_start append_feed append_again sync_work_asks sync_start sync_feed walk_on walk_start walk_feed no_versions based version_of with_change parts_of decision_in view_start view_version view_parts unknown_in changed_in verdict view_outcome step_at play_on play read_fault write_fault commit_record open_decision checkpoint bases_in load_from view_base view_bases may_forget commit_at past_at rescue_turn trim_start trim_feed copy_work_asks copy_start copy_feed reconf_work_asks reconf_start reconf_feed reconf_latest new_client entries_at copy_fault tests refusal appends syncs walked task_asks client_asks walks task_feed task_again accepts client_command client_deliver client_tick fields_size decided newest log_of entries_of members path_on path changes_below version outcome history_of start latest log history unit_moves layout_moves seqr_moves client_turned happens limit_of drain_on drain tick_all rounds settle line lines
none2 = (refl, λ k. refl)

none3 : NoAppend w3
unfolding run u8_at u16_at u32_at u64_at raw_at fixed_at read_many spell_many fit_many marks reads writes keys new_fields old_fields body entry node_eq bytes_eq bytes_lt part_lt cell_eq chain_of units_of next_of change_fault new_unit unit_ask first_missing on_ask unit_step new_layout layout_ask on_layout_ask layout_step reply work_asks put_cell get_cell fill_cell probe work_feed cell_feed entry_size needs_decision page_of entry_of new_seqr seqr_step seqr_tick append_work_asks append_start append_feed append_again sync_work_asks sync_start sync_feed walk_on walk_start walk_feed no_versions based version_of with_change parts_of decision_in view_start view_version view_parts unknown_in changed_in verdict view_outcome step_at play_on play read_fault write_fault commit_record open_decision checkpoint bases_in load_from view_base view_bases may_forget commit_at past_at rescue_turn trim_start trim_feed copy_work_asks copy_start copy_feed reconf_work_asks reconf_start reconf_feed reconf_latest new_client entries_at copy_fault tests refusal appends syncs walked task_asks client_asks walks task_feed task_again accepts client_command client_deliver client_tick fields_size decided newest log_of entries_of members path_on path changes_below version outcome history_of start latest log history unit_moves layout_moves seqr_moves client_turned happens limit_of drain_on drain tick_all rounds settle line lines
none3 = (refl, λ k. refl)

none4 : NoAppend w4
unfolding run u8_at u16_at u32_at u64_at raw_at fixed_at read_many spell_many fit_many marks reads writes keys new_fields old_fields body entry node_eq bytes_eq bytes_lt part_lt cell_eq chain_of units_of next_of change_fault new_unit unit_ask first_missing on_ask unit_step new_layout layout_ask on_layout_ask layout_step reply work_asks put_cell get_cell fill_cell probe work_feed cell_feed entry_size needs_decision page_of entry_of new_seqr seqr_step seqr_tick append_work_asks append_start append_feed append_again sync_work_asks sync_start sync_feed walk_on walk_start walk_feed no_versions based version_of with_change parts_of decision_in view_start view_version view_parts unknown_in changed_in verdict view_outcome step_at play_on play read_fault write_fault commit_record open_decision checkpoint bases_in load_from view_base view_bases may_forget commit_at past_at rescue_turn trim_start trim_feed copy_work_asks copy_start copy_feed reconf_work_asks reconf_start reconf_feed reconf_latest new_client entries_at copy_fault tests refusal appends syncs walked task_asks client_asks walks task_feed task_again accepts client_command client_deliver client_tick fields_size decided newest log_of entries_of members path_on path changes_below version outcome history_of start latest log history unit_moves layout_moves seqr_moves client_turned happens limit_of drain_on drain tick_all rounds settle line lines
none4 = (refl, λ k. refl)

ends : AppendsEnd tallies one_of_each asks_past ended
ends = by_steps tallies one_of_each Ends asks_past (
  none_ends [] w0 (Commands 0 (cmd.AskAt 0 directory 0)) none0,
  (none_ends [] w1 (Deliver 0) none1, (none_ends [] w2 (Deliver 1) none2, (none_ends [] w3 (Deliver 2) none3, (none_ends [] w4 (Deliver 3) none4, tt)))),
)

pub past_is_told : PastIsTold
past_is_told = (
  record {
    reached = reached;
    finds = by_steps tallies one_of_each (λ before v e. EachEvent tallies [] es (Finds tallies one_of_each es before) v e) asks_past (
      more [] w0 (Commands 0 (cmd.AskAt 0 directory 0)) first,
      (
        more _ w1 (Deliver 0) (to_others w1 0 second),
        (
          more _ w2 (Deliver 1) (to_client w2 1 third),
          (
            more _ w3 (Deliver 2) (to_others w3 2 fourth),
            (more _ w4 (Deliver 3) (to_client w4 3 fifth), tt),
          ),
        ),
      ),
    );
    ends = ends;
  },
  tells,
)
