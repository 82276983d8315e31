-- What the log of a run bears out, in which a transaction commits.
use Rattle.std.proofs.Common.{◌≡◌, ℕ, List, [], ◌∷◌, refl, ap, sym, ◌∙◌, subst, inl, inr, arith, Contains, map}
use Rattle.tg_model.specs.declared.command.Event.TheVariants.{Deliver}
use Rattle.tg_model.specs.declared.trace.What.TheVariants as told
use Rattle.tg_codec.specs.Reading.{u8_at, u16_at, u32_at, u64_at, raw_at, fixed_at}
use Rattle.tg_codec.specs.Codec.{read_many, spell_many, fit_many}
use Rattle.tg_entry.specs.Reads.{marks, reads}
use Rattle.tg_entry.specs.Writes.{writes}
use Rattle.tg_entry.specs.Checkpoints.{keys, new_fields, old_fields}
use Rattle.tg_entry.specs.Format.{body, entry}
use Rattle.tg_base.specs.Orders.{node_eq}
use Rattle.tg_protocol.specs.Words.{bytes_eq, bytes_lt, part_lt, cell_eq}
use Rattle.tg_protocol.specs.Layouts.{chain_of, units_of, next_of, change_fault}
use Rattle.tg_protocol.specs.Units.{new_unit, unit_ask, first_missing, on_ask, unit_step}
use Rattle.tg_protocol.specs.LayoutServers.{new_layout, layout_ask, on_layout_ask, layout_step}
use Rattle.tg_protocol.specs.Replies.{reply}
use Rattle.tg_protocol.specs.Cells.{work_asks, put_cell, get_cell, fill_cell, probe, work_feed, cell_feed}
use Rattle.tg_entry.specs.Needs.{needs_decision}
use Rattle.tg_protocol.specs.Entries.{entry_size, streams_of}
use Rattle.tg_protocol.specs.Pages.{page_of, entry_of}
use Rattle.tg_protocol.specs.Sequencers.{new_seqr, seqr_step, seqr_tick}
use Rattle.tg_protocol.specs.Appending.{append_work_asks, append_start, append_feed, append_again}
use Rattle.tg_protocol.specs.Syncing.{sync_work_asks, sync_start, sync_feed}
use Rattle.tg_protocol.specs.Walking.{walk_on, walk_start, walk_feed}
use Rattle.tg_protocol.specs.Versions.{no_versions, based, version_of, with_change, parts_of}
use Rattle.tg_protocol.specs.Views.{decision_in, view_start, view_version, view_parts, unknown_in, changed_in, verdict, view_outcome, step_at, play_on, play}
use Rattle.tg_protocol.specs.Transactions.{read_fault, write_fault, commit_record}
use Rattle.tg_protocol.specs.Checkpoints.{open_decision, checkpoint, bases_in, load_from, view_base, view_bases, may_forget}
use Rattle.tg_protocol.specs.Past.{commit_at, past_at, rescue_turn}
use Rattle.tg_protocol.specs.Trimming.{trim_start, trim_feed, copy_work_asks, copy_start, copy_feed}
use Rattle.tg_protocol.specs.Reconfiguring.{reconf_work_asks, reconf_start, reconf_feed, reconf_latest}
use Rattle.tg_protocol.specs.Clients.{new_client, entries_at, copy_fault, tests, refusal, write_of}
use Rattle.tg_protocol.specs.Answers.{appends, syncs, walked}
use Rattle.tg_protocol.specs.ClientSteps.{task_asks, client_asks, walks, task_feed, task_again, accepts, client_command, client_deliver, client_tick}
use Rattle.tg_protocol.specs.Sizes.{fields_size}
use Rattle.tg_protocol.specs.Logs.{decided, newest, log_of, entries_of, members, path_on, path, changes_below, version, outcome, history_of}
use Rattle.tg_protocol.specs.Worlds.{trace, start, latest, log, history, unit_moves, layout_moves, seqr_moves, client_turned, happens, limit_of, drain_on, drain, tick_all, rounds, settle, line, lines, Told}
use Rattle.tg_base.specs.declared.ids.Oid.{Oid}
use Rattle.tg_model.specs.Kinds.{MarkOf}
use Rattle.tg_protocol.specs.Runs.{Takes, run}
use Rattle.tg_protocol.specs.Holding.{WasBegun, EntriesOwn, IsRecord, RecordsOwn, HasItsRecord, RepliesHaveRecords}
use Rattle.tg_law_replies.proofs.History.Members.{Has, has_contained, contained_has}
use Rattle.tg_law_finish.proofs.Tallies.Commit.{ended, entry_made, mark_of_tx, marks_made, only_marks, is_entry, is_made, each_mark, has_puts, record_at, front, reached, finds}
use Rattle.tg_law_finish.proofs.Tallies.Books.{first_three, append_made, in_hand, drafted, left, asks, once, ends}
use Rattle.tg_law_finish.specs.Tallies.Tallies.{tallies, with_tally, adds, CommitIsTold}

-- Its entry was begun.

pub same_streams : streams_of entry_made ≡ streams_of append_made.draft
unfolding run u8_at u16_at u32_at u64_at raw_at fixed_at read_many spell_many fit_many marks reads writes keys new_fields old_fields body entry node_eq bytes_eq bytes_lt part_lt cell_eq chain_of units_of next_of change_fault new_unit unit_ask first_missing on_ask unit_step new_layout layout_ask on_layout_ask layout_step reply work_asks put_cell get_cell fill_cell probe work_feed cell_feed entry_size needs_decision page_of entry_of new_seqr seqr_step seqr_tick append_work_asks append_start append_feed append_again sync_work_asks sync_start sync_feed walk_on walk_start walk_feed no_versions based version_of with_change parts_of decision_in view_start view_version view_parts unknown_in changed_in verdict view_outcome step_at play_on play read_fault write_fault commit_record open_decision checkpoint bases_in load_from view_base view_bases may_forget commit_at past_at rescue_turn trim_start trim_feed copy_work_asks copy_start copy_feed reconf_work_asks reconf_start reconf_feed reconf_latest new_client entries_at copy_fault tests refusal appends syncs walked task_asks client_asks walks task_feed task_again accepts client_command client_deliver client_tick fields_size decided newest log_of entries_of members path_on path changes_below version outcome history_of start latest log history unit_moves layout_moves seqr_moves client_turned happens limit_of drain_on drain tick_all rounds settle line lines
same_streams = refl

begun : WasBegun tallies with_tally adds entry_made
begun = record {
  at = run tallies first_three (start tallies with_tally);
  passed = record { before = first_three; after = Takes (Deliver 0) ∷ Takes (Deliver 1) ∷ Takes (Deliver 2) ∷ Takes (Deliver 3) ∷ []; split = refl; is = refl };
  append = append_made;
  begun = in_hand;
  draft = drafted;
  streams = same_streams;
}

own : EntriesOwn tallies with_tally adds ended
own p e i = subst (WasBegun tallies with_tally adds) (sym (is_entry p e i).1) begun

-- It is the record of what was put.

record_made : IsRecord tallies ended entry_made
record_made = record {
  ended = record { number = omega arith; event = 0; here = subst (λ (xs : List (MarkOf tallies)). Contains xs (mark_of_tx 0 told.End)) (sym only_marks) (contained_has marks_made (mark_of_tx 0 told.End) (inr (inr (inl refl)))) };
  writes = ap (λ (ps : List (Oid × ℕ)). map (λ (x : Oid × ℕ). write_of tallies x.0 x.1) ps) (sym has_puts);
  asked = λ o k r. absurd (has_contained [] r.read r.here);
  read = λ o k a. absurd (is_made 0 1 (told.Asked o a.ask a.at a.answer) a.asked).0;
}

records : RecordsOwn tallies ended
records p e i commit = subst (IsRecord tallies ended) (sym (is_entry p e i).1) record_made

-- What is told of it stands there.

mark_has : (xs : List (Told tallies)) (t : Told tallies) → Has xs t → Has (map (λ (x : Told tallies). x.mark) xs) t.mark
mark_has [] t i = absurd i
mark_has (x ∷ xs) t (inl e) = inl (ap (λ (y : Told tallies). y.mark) e)
mark_has (x ∷ xs) t (inr i) = inr (mark_has xs t i)

replies : RepliesHaveRecords tallies ended
replies t i =
    each_mark (λ (u : MarkOf tallies). HasItsRecord tallies ended u.client u.tx u.what) (tt, tt, tt, λ puts. record_at 0 0 1 refl refl refl) t.mark
    (contained_has (trace tallies ended) t.mark (mark_has ended.told t (has_contained ended.told t i)))

pub commit_is_told : CommitIsTold
commit_is_told = (
  record {
    found = record { reached = reached; finds = finds; ends = ends };
    left = left;
    own = own;
    once = once;
    records = records;
    replies = replies;
    asks = asks;
    order = λ before after b r p n split is positive i point place. absurd (front before after b r (sym only_marks ∙ split) is i);
  },
  record { event = 0; here = subst (λ (xs : List (MarkOf tallies)). Contains xs (mark_of_tx 0 (told.Committed 0))) (sym only_marks) (contained_has marks_made (mark_of_tx 0 (told.Committed 0)) (inr (inr (inr (inl refl))))) },
)
