-- The books of a run in which a transaction commits.
use Rattle.std.proofs.Common.{◌≡◌, ℕ, [], ◌∷◌, refl, Some, None, ap, sym, ◌∙◌, subst, inl, inr, Option, ◌++◌, Contains, zero, suc}
use Rattle.tg_model.specs.declared.command.Command.TheVariants as cmd
use Rattle.tg_model.specs.declared.command.Event.TheVariants.{Command as Commands, Deliver}
use Rattle.tg_model.specs.declared.trace.What.TheVariants as told
use Rattle.tg_codec.specs.Reading.{u8_at, u16_at, u32_at, u64_at, raw_at, fixed_at}
use Rattle.tg_codec.specs.Codec.{read_many, spell_many, fit_many}
use Rattle.tg_entry.specs.Reads.{marks, reads}
use Rattle.tg_entry.specs.Writes.{writes}
use Rattle.tg_entry.specs.Checkpoints.{keys, new_fields, old_fields}
use Rattle.tg_entry.specs.Format.{body, entry}
use Rattle.tg_base.specs.Orders.{node_eq}
use Rattle.tg_protocol.specs.Words.{bytes_eq, bytes_lt, part_lt, cell_eq}
use Rattle.tg_protocol.specs.Layouts.{chain_of, units_of, next_of, change_fault}
use Rattle.tg_protocol.specs.Units.{new_unit, unit_ask, first_missing, on_ask, unit_step}
use Rattle.tg_protocol.specs.LayoutServers.{new_layout, layout_ask, on_layout_ask, layout_step}
use Rattle.tg_protocol.specs.Replies.{reply}
use Rattle.tg_protocol.specs.Cells.{work_asks, put_cell, get_cell, fill_cell, probe, work_feed, cell_feed}
use Rattle.tg_entry.specs.Needs.{needs_decision}
use Rattle.tg_protocol.specs.Entries.{entry_size}
use Rattle.tg_protocol.specs.Pages.{page_of, entry_of}
use Rattle.tg_protocol.specs.Sequencers.{new_seqr, seqr_step, seqr_tick}
use Rattle.tg_protocol.specs.Appending.{append_work_asks, append_start, append_feed, append_again, Append, AppendEnd, At, Full, Forgotten, Asking}
use Rattle.tg_protocol.specs.Syncing.{sync_work_asks, sync_start, sync_feed}
use Rattle.tg_protocol.specs.Walking.{walk_on, walk_start, walk_feed}
use Rattle.tg_protocol.specs.Versions.{no_versions, based, version_of, with_change, parts_of}
use Rattle.tg_protocol.specs.Views.{decision_in, view_start, view_version, view_parts, unknown_in, changed_in, verdict, view_outcome, step_at, play_on, play}
use Rattle.tg_protocol.specs.Transactions.{read_fault, write_fault, commit_record}
use Rattle.tg_protocol.specs.Checkpoints.{open_decision, checkpoint, bases_in, load_from, view_base, view_bases, may_forget}
use Rattle.tg_protocol.specs.Past.{commit_at, past_at, rescue_turn}
use Rattle.tg_protocol.specs.Trimming.{trim_start, trim_feed, copy_work_asks, copy_start, copy_feed}
use Rattle.tg_protocol.specs.Reconfiguring.{reconf_work_asks, reconf_start, reconf_feed, reconf_latest}
use Rattle.tg_protocol.specs.Clients.{new_client, entries_at, copy_fault, tests, refusal}
use Rattle.tg_protocol.specs.Answers.{appends, syncs, walked}
use Rattle.tg_protocol.specs.ClientSteps.{task_asks, client_asks, walks, task_feed, task_again, accepts, client_command, client_deliver, client_tick}
use Rattle.tg_protocol.specs.Sizes.{fields_size}
use Rattle.tg_protocol.specs.Logs.{decided, newest, log_of, entries_of, members, path_on, path, changes_below, version, outcome, history_of}
use Rattle.tg_protocol.specs.Worlds.{World, trace, client, start, latest, log, history, unit_moves, layout_moves, seqr_moves, client_turned, happens, limit_of, drain_on, drain, tick_all, rounds, settle, line, lines}
use Rattle.tg_entry.specs.declared.entry.Entry.{Entry}
use Rattle.tg_model.specs.Kinds.{EventOf, WhatOf, MarkOf}
use Rattle.tg_model.specs.declared.refusal.Refusal.TheVariants as cause
use Rattle.tg_protocol.specs.Runs.{Moves, Takes, run}
use Rattle.tg_law_replies.proofs.History.Members.{Has, has_contained}
use Rattle.tg_entry.specs.Records.{linked}
use Rattle.tg_protocol.specs.Holding.{append_by, EntriesOnce}
use Rattle.tg_model.specs.Traces.{Trace}
use Rattle.tg_law_replies.specs.Books.Kept.{WasLeft, RecordsLeft, AsksPrecede}
use Rattle.tg_law_replies.specs.Replies.Ended.{EndsSo, AppendsEnd, ended_in}
use Rattle.tg_law_replies.proofs.Books.Booked.{books_are_kept}
use Rattle.tg_law_replies.proofs.Books.Known.{records_are_known}
use Rattle.tg_law_replies.proofs.Books.Lawful.{records_end}
use Rattle.tg_law_replies.proofs.Books.Whose.{replies_are_known}
use Rattle.tg_law_finish.proofs.Tallies.Steps.{by_steps}
use Rattle.tg_law_finish.proofs.Tallies.Commit.{w3, w4, w5, w6, here, ended, es, entry_made, tx_made, mark_of_tx, is_entry, is_made, reached}
use Rattle.tg_law_finish.specs.Tallies.Tallies.{tallies, tally, with_tally, adds}
use Rattle.tg_law_finish.specs.Tallies.Books.{CommitIsBooked}

abbrev pub first_three : Moves tallies
first_three = Takes (Commands 0 cmd.Begin) ∷ Takes (Commands 0 (cmd.Put tally 5)) ∷ Takes (Commands 0 cmd.End) ∷ []

abbrev pub append_made : Append
append_made = record { draft = commit_record tx_made 0; token = None; work = Asking 1 }

-- the append that the client has in hand once it has ended the transaction
pub in_hand : append_by tallies (client tallies (run tallies first_three (start tallies with_tally)) 0).work ≡ Some append_made
unfolding run u8_at u16_at u32_at u64_at raw_at fixed_at read_many spell_many fit_many marks reads writes keys new_fields old_fields body entry node_eq bytes_eq bytes_lt part_lt cell_eq chain_of units_of next_of change_fault new_unit unit_ask first_missing on_ask unit_step new_layout layout_ask on_layout_ask layout_step reply work_asks put_cell get_cell fill_cell probe work_feed cell_feed entry_size needs_decision page_of entry_of new_seqr seqr_step seqr_tick append_work_asks append_start append_feed append_again sync_work_asks sync_start sync_feed walk_on walk_start walk_feed no_versions based version_of with_change parts_of decision_in view_start view_version view_parts unknown_in changed_in verdict view_outcome step_at play_on play read_fault write_fault commit_record open_decision checkpoint bases_in load_from view_base view_bases may_forget commit_at past_at rescue_turn trim_start trim_feed copy_work_asks copy_start copy_feed reconf_work_asks reconf_start reconf_feed reconf_latest new_client entries_at copy_fault tests refusal appends syncs walked task_asks client_asks walks task_feed task_again accepts client_command client_deliver client_tick fields_size decided newest log_of entries_of members path_on path changes_below version outcome history_of start latest log history unit_moves layout_moves seqr_moves client_turned happens limit_of drain_on drain tick_all rounds settle line lines
in_hand = refl

-- what is told afterwards
abbrev told_since : Trace tallies
told_since = mark_of_tx 0 (told.Committed 0) ∷ []

pub traced : trace tallies ended ≡ trace tallies (run tallies first_three (start tallies with_tally)) ++ told_since
unfolding run u8_at u16_at u32_at u64_at raw_at fixed_at read_many spell_many fit_many marks reads writes keys new_fields old_fields body entry node_eq bytes_eq bytes_lt part_lt cell_eq chain_of units_of next_of change_fault new_unit unit_ask first_missing on_ask unit_step new_layout layout_ask on_layout_ask layout_step reply work_asks put_cell get_cell fill_cell probe work_feed cell_feed entry_size needs_decision page_of entry_of new_seqr seqr_step seqr_tick append_work_asks append_start append_feed append_again sync_work_asks sync_start sync_feed walk_on walk_start walk_feed no_versions based version_of with_change parts_of decision_in view_start view_version view_parts unknown_in changed_in verdict view_outcome step_at play_on play read_fault write_fault commit_record open_decision checkpoint bases_in load_from view_base view_bases may_forget commit_at past_at rescue_turn trim_start trim_feed copy_work_asks copy_start copy_feed reconf_work_asks reconf_start reconf_feed reconf_latest new_client entries_at copy_fault tests refusal appends syncs walked task_asks client_asks walks task_feed task_again accepts client_command client_deliver client_tick fields_size decided newest log_of entries_of members path_on path changes_below version outcome history_of start latest log history unit_moves layout_moves seqr_moves client_turned happens limit_of drain_on drain tick_all rounds settle line lines
traced = refl

pub drafted : entry_made ≡ linked (commit_record tx_made 0) entry_made.head.streams
unfolding commit_record
drafted = refl

committed_is : (l : ℕ) → ◌≡◌ {A = WhatOf tallies} (told.Committed 0) (told.Refused (cause.LogFull l)) → ⊥
committed_is l e = cc

entry_left : WasLeft tallies with_tally adds ended entry_made
entry_left = record {
  before = first_three;
  after = Takes (Deliver 0) ∷ Takes (Deliver 1) ∷ Takes (Deliver 2) ∷ Takes (Deliver 3) ∷ [];
  split = refl;
  append = append_made;
  begun = in_hand;
  draft = drafted;
  since = told_since;
  traced = traced;
  stays = λ u l i k x what. by u l (has_contained told_since u i) what;
}
  where
    by : (u : MarkOf tallies) (l : ℕ) → Has told_since u → u.what ≡ told.Refused (cause.LogFull l) → ⊥
    by u l (inl e) what = committed_is l (sym (ap (λ (y : MarkOf tallies). y.what) e) ∙ what)
    by u l (inr i) what = i

pub left : RecordsLeft tallies with_tally adds ended
left p e i commit = subst (WasLeft tallies with_tally adds ended) (sym (is_entry p e i).1) entry_left

pub asks : AsksPrecede tallies ended
asks k x p s o q a h r = absurd (is_made k x (told.Asked o q s a) h).0

pub once : EntriesOnce tallies ended
once p q e f i j client kind number = (is_entry p e i).0 ∙ sym (is_entry q f j).0

-- How its append ends: where the packet comes to another node, or the client has none, it doesn't.

abbrev pub Ends : Moves tallies → World tallies → EventOf tallies → Type 0
Ends before w e = (k : ℕ) (a : Append) (x : AppendEnd) → append_by tallies (client tallies w k).work ≡ Some a → ended_in tallies w e k ≡ Some x → EndsSo tallies es a.draft x

no_end : (x : AppendEnd) → None ≡ Some x → ⊥
no_end x e = cc

no_append : (a : Append) → None ≡ Some a → ⊥
no_append a e = cc

abbrev end_at : Option AppendEnd → Option ℕ
end_at (Some (At p page)) = Some p
end_at x = None

abbrev draft_of : Option Append → Option Entry
draft_of None = None
draft_of (Some a) = Some a.draft

pub third_none : (k : ℕ) → ended_in tallies w3 (Deliver 0) k ≡ None
unfolding run u8_at u16_at u32_at u64_at raw_at fixed_at read_many spell_many fit_many marks reads writes keys new_fields old_fields body entry node_eq bytes_eq bytes_lt part_lt cell_eq chain_of units_of next_of change_fault new_unit unit_ask first_missing on_ask unit_step new_layout layout_ask on_layout_ask layout_step reply work_asks put_cell get_cell fill_cell probe work_feed cell_feed entry_size needs_decision page_of entry_of new_seqr seqr_step seqr_tick append_work_asks append_start append_feed append_again sync_work_asks sync_start sync_feed walk_on walk_start walk_feed no_versions based version_of with_change parts_of decision_in view_start view_version view_parts unknown_in changed_in verdict view_outcome step_at play_on play read_fault write_fault commit_record open_decision checkpoint bases_in load_from view_base view_bases may_forget commit_at past_at rescue_turn trim_start trim_feed copy_work_asks copy_start copy_feed reconf_work_asks reconf_start reconf_feed reconf_latest new_client entries_at copy_fault tests refusal appends syncs walked task_asks client_asks walks task_feed task_again accepts client_command client_deliver client_tick fields_size decided newest log_of entries_of members path_on path changes_below version outcome history_of start latest log history unit_moves layout_moves seqr_moves client_turned happens limit_of drain_on drain tick_all rounds settle line lines
third_none k = refl

fourth_none : ended_in tallies w4 (Deliver 1) 0 ≡ None
unfolding run u8_at u16_at u32_at u64_at raw_at fixed_at read_many spell_many fit_many marks reads writes keys new_fields old_fields body entry node_eq bytes_eq bytes_lt part_lt cell_eq chain_of units_of next_of change_fault new_unit unit_ask first_missing on_ask unit_step new_layout layout_ask on_layout_ask layout_step reply work_asks put_cell get_cell fill_cell probe work_feed cell_feed entry_size needs_decision page_of entry_of new_seqr seqr_step seqr_tick append_work_asks append_start append_feed append_again sync_work_asks sync_start sync_feed walk_on walk_start walk_feed no_versions based version_of with_change parts_of decision_in view_start view_version view_parts unknown_in changed_in verdict view_outcome step_at play_on play read_fault write_fault commit_record open_decision checkpoint bases_in load_from view_base view_bases may_forget commit_at past_at rescue_turn trim_start trim_feed copy_work_asks copy_start copy_feed reconf_work_asks reconf_start reconf_feed reconf_latest new_client entries_at copy_fault tests refusal appends syncs walked task_asks client_asks walks task_feed task_again accepts client_command client_deliver client_tick fields_size decided newest log_of entries_of members path_on path changes_below version outcome history_of start latest log history unit_moves layout_moves seqr_moves client_turned happens limit_of drain_on drain tick_all rounds settle line lines
fourth_none = refl

pub fifth_none : (k : ℕ) → ended_in tallies w5 (Deliver 2) k ≡ None
unfolding run u8_at u16_at u32_at u64_at raw_at fixed_at read_many spell_many fit_many marks reads writes keys new_fields old_fields body entry node_eq bytes_eq bytes_lt part_lt cell_eq chain_of units_of next_of change_fault new_unit unit_ask first_missing on_ask unit_step new_layout layout_ask on_layout_ask layout_step reply work_asks put_cell get_cell fill_cell probe work_feed cell_feed entry_size needs_decision page_of entry_of new_seqr seqr_step seqr_tick append_work_asks append_start append_feed append_again sync_work_asks sync_start sync_feed walk_on walk_start walk_feed no_versions based version_of with_change parts_of decision_in view_start view_version view_parts unknown_in changed_in verdict view_outcome step_at play_on play read_fault write_fault commit_record open_decision checkpoint bases_in load_from view_base view_bases may_forget commit_at past_at rescue_turn trim_start trim_feed copy_work_asks copy_start copy_feed reconf_work_asks reconf_start reconf_feed reconf_latest new_client entries_at copy_fault tests refusal appends syncs walked task_asks client_asks walks task_feed task_again accepts client_command client_deliver client_tick fields_size decided newest log_of entries_of members path_on path changes_below version outcome history_of start latest log history unit_moves layout_moves seqr_moves client_turned happens limit_of drain_on drain tick_all rounds settle line lines
fifth_none k = refl

last_at : end_at (ended_in tallies w6 (Deliver 3) 0) ≡ Some 0
unfolding run u8_at u16_at u32_at u64_at raw_at fixed_at read_many spell_many fit_many marks reads writes keys new_fields old_fields body entry node_eq bytes_eq bytes_lt part_lt cell_eq chain_of units_of next_of change_fault new_unit unit_ask first_missing on_ask unit_step new_layout layout_ask on_layout_ask layout_step reply work_asks put_cell get_cell fill_cell probe work_feed cell_feed entry_size needs_decision page_of entry_of new_seqr seqr_step seqr_tick append_work_asks append_start append_feed append_again sync_work_asks sync_start sync_feed walk_on walk_start walk_feed no_versions based version_of with_change parts_of decision_in view_start view_version view_parts unknown_in changed_in verdict view_outcome step_at play_on play read_fault write_fault commit_record open_decision checkpoint bases_in load_from view_base view_bases may_forget commit_at past_at rescue_turn trim_start trim_feed copy_work_asks copy_start copy_feed reconf_work_asks reconf_start reconf_feed reconf_latest new_client entries_at copy_fault tests refusal appends syncs walked task_asks client_asks walks task_feed task_again accepts client_command client_deliver client_tick fields_size decided newest log_of entries_of members path_on path changes_below version outcome history_of start latest log history unit_moves layout_moves seqr_moves client_turned happens limit_of drain_on drain tick_all rounds settle line lines
last_at = refl

last_draft : draft_of (append_by tallies (client tallies w6 0).work) ≡ Some (commit_record tx_made 0)
unfolding run u8_at u16_at u32_at u64_at raw_at fixed_at read_many spell_many fit_many marks reads writes keys new_fields old_fields body entry node_eq bytes_eq bytes_lt part_lt cell_eq chain_of units_of next_of change_fault new_unit unit_ask first_missing on_ask unit_step new_layout layout_ask on_layout_ask layout_step reply work_asks put_cell get_cell fill_cell probe work_feed cell_feed entry_size needs_decision page_of entry_of new_seqr seqr_step seqr_tick append_work_asks append_start append_feed append_again sync_work_asks sync_start sync_feed walk_on walk_start walk_feed no_versions based version_of with_change parts_of decision_in view_start view_version view_parts unknown_in changed_in verdict view_outcome step_at play_on play read_fault write_fault commit_record open_decision checkpoint bases_in load_from view_base view_bases may_forget commit_at past_at rescue_turn trim_start trim_feed copy_work_asks copy_start copy_feed reconf_work_asks reconf_start reconf_feed reconf_latest new_client entries_at copy_fault tests refusal appends syncs walked task_asks client_asks walks task_feed task_again accepts client_command client_deliver client_tick fields_size decided newest log_of entries_of members path_on path changes_below version outcome history_of start latest log history unit_moves layout_moves seqr_moves client_turned happens limit_of drain_on drain tick_all rounds settle line lines
last_draft = refl

fourth_other : (k : ℕ) → append_by tallies (client tallies w4 (suc k)).work ≡ None
unfolding run u8_at u16_at u32_at u64_at raw_at fixed_at read_many spell_many fit_many marks reads writes keys new_fields old_fields body entry node_eq bytes_eq bytes_lt part_lt cell_eq chain_of units_of next_of change_fault new_unit unit_ask first_missing on_ask unit_step new_layout layout_ask on_layout_ask layout_step reply work_asks put_cell get_cell fill_cell probe work_feed cell_feed entry_size needs_decision page_of entry_of new_seqr seqr_step seqr_tick append_work_asks append_start append_feed append_again sync_work_asks sync_start sync_feed walk_on walk_start walk_feed no_versions based version_of with_change parts_of decision_in view_start view_version view_parts unknown_in changed_in verdict view_outcome step_at play_on play read_fault write_fault commit_record open_decision checkpoint bases_in load_from view_base view_bases may_forget commit_at past_at rescue_turn trim_start trim_feed copy_work_asks copy_start copy_feed reconf_work_asks reconf_start reconf_feed reconf_latest new_client entries_at copy_fault tests refusal appends syncs walked task_asks client_asks walks task_feed task_again accepts client_command client_deliver client_tick fields_size decided newest log_of entries_of members path_on path changes_below version outcome history_of start latest log history unit_moves layout_moves seqr_moves client_turned happens limit_of drain_on drain tick_all rounds settle line lines
fourth_other k = refl

last_other : (k : ℕ) → append_by tallies (client tallies w6 (suc k)).work ≡ None
unfolding run u8_at u16_at u32_at u64_at raw_at fixed_at read_many spell_many fit_many marks reads writes keys new_fields old_fields body entry node_eq bytes_eq bytes_lt part_lt cell_eq chain_of units_of next_of change_fault new_unit unit_ask first_missing on_ask unit_step new_layout layout_ask on_layout_ask layout_step reply work_asks put_cell get_cell fill_cell probe work_feed cell_feed entry_size needs_decision page_of entry_of new_seqr seqr_step seqr_tick append_work_asks append_start append_feed append_again sync_work_asks sync_start sync_feed walk_on walk_start walk_feed no_versions based version_of with_change parts_of decision_in view_start view_version view_parts unknown_in changed_in verdict view_outcome step_at play_on play read_fault write_fault commit_record open_decision checkpoint bases_in load_from view_base view_bases may_forget commit_at past_at rescue_turn trim_start trim_feed copy_work_asks copy_start copy_feed reconf_work_asks reconf_start reconf_feed reconf_latest new_client entries_at copy_fault tests refusal appends syncs walked task_asks client_asks walks task_feed task_again accepts client_command client_deliver client_tick fields_size decided newest log_of entries_of members path_on path changes_below version outcome history_of start latest log history unit_moves layout_moves seqr_moves client_turned happens limit_of drain_on drain tick_all rounds settle line lines
last_other k = refl

zero_is : (p : ℕ) → Some p ≡ Some 0 → p ≡ 0
zero_is p e = cc

nothing_is : ◌≡◌ {A = Option ℕ} None (Some 0) → ⊥
nothing_is e = cc

entry_is : (d e : Entry) → Some d ≡ Some e → d ≡ e
entry_is d e z = cc

here_made : Contains es (0, linked (commit_record tx_made 0) entry_made.head.streams)
here_made = subst (λ (e : Entry). Contains es (0, e)) drafted here

stands : (a : Append) (x : AppendEnd) → draft_of (Some a) ≡ Some (commit_record tx_made 0) → end_at (Some x) ≡ Some 0 → EndsSo tallies es a.draft x
stands a (At p page) d e = (entry_made.head.streams, subst (λ (i : ℕ). Contains es (i, linked a.draft entry_made.head.streams)) (sym (zero_is p e)) (subst (λ (i : Entry). Contains es (0, linked i entry_made.head.streams)) (sym (entry_is a.draft (commit_record tx_made 0) d)) here_made))
stands a (Full l) d e = absurd (nothing_is e)
stands a (Forgotten p b) d e = absurd (nothing_is e)

pub fourth_ends : Ends [] w4 (Deliver 1)
fourth_ends zero a x has is = absurd (no_end x (sym fourth_none ∙ is))
fourth_ends (suc k) a x has is = absurd (no_append a (sym (fourth_other k) ∙ has))

pub last_ends : Ends [] w6 (Deliver 3)
last_ends zero a x has is = stands a x (sym (ap draft_of has) ∙ last_draft) (sym (ap end_at is) ∙ last_at)
last_ends (suc k) a x has is = absurd (no_append a (sym (last_other k) ∙ has))

pub ends : AppendsEnd tallies with_tally adds ended
ends = by_steps tallies with_tally Ends adds (
  (λ k a x has is. absurd (no_end x is)),
  (
    (λ k a x has is. absurd (no_end x is)),
    (
      (λ k a x has is. absurd (no_end x is)),
      (
        (λ k a x has is. absurd (no_end x (sym (third_none k) ∙ is))),
        (
          fourth_ends,
          (
            (λ k a x has is. absurd (no_end x (sym (fifth_none k) ∙ is))),
            (last_ends, tt),
          ),
        ),
      ),
    ),
  ),
)

pub commit_is_booked : CommitIsBooked
commit_is_booked = record {
  reached = reached;
  left = left;
  asks = asks;
  once = once;
  ends = ends;
  books = books_are_kept tallies with_tally adds ended reached left asks;
  known = records_are_known tallies with_tally adds ended reached left asks once;
  replies = replies_are_known tallies with_tally adds ended reached left asks (records_end tallies with_tally adds ended ends);
}
