-- A worked run with the reply of a commit, by computing.
use Rattle.std.proofs.Common.{◌≡◌, ℕ, [], ◌∷◌, Bool, true, false, ◌&&◌, ◌||◌, refl, sym, ap, inl, inr, arith, Option, Some, None, append-nil}
use Rattle.std.specs.Prelude.{nat_le}
use Rattle.tg_codec.specs.Reading.{u8_at, u16_at, u32_at, u64_at, raw_at, fixed_at}
use Rattle.tg_codec.specs.Codec.{read_many, spell_many, fit_many}
use Rattle.tg_entry.specs.Reads.{marks, reads}
use Rattle.tg_entry.specs.Writes.{writes}
use Rattle.tg_entry.specs.Checkpoints.{keys, new_fields, old_fields}
use Rattle.tg_entry.specs.Format.{body, entry}
use Rattle.tg_base.specs.Orders.{node_eq}
use Rattle.tg_protocol.specs.Words.{bytes_eq, bytes_lt, part_lt, cell_eq}
use Rattle.tg_protocol.specs.Layouts.{chain_of, units_of, next_of, change_fault}
use Rattle.tg_protocol.specs.Units.{new_unit, unit_ask, first_missing, on_ask, unit_step}
use Rattle.tg_protocol.specs.LayoutServers.{new_layout, layout_ask, on_layout_ask, layout_step}
use Rattle.tg_protocol.specs.Replies.{reply}
use Rattle.tg_protocol.specs.Cells.{work_asks, put_cell, get_cell, fill_cell, probe, work_feed, cell_feed}
use Rattle.tg_entry.specs.Needs.{needs_decision}
use Rattle.tg_protocol.specs.Entries.{entry_size}
use Rattle.tg_protocol.specs.Pages.{page_of, entry_of}
use Rattle.tg_protocol.specs.Sequencers.{new_seqr, seqr_step, seqr_tick}
use Rattle.tg_protocol.specs.Appending.{append_work_asks, append_start, append_feed, append_again}
use Rattle.tg_protocol.specs.Syncing.{sync_work_asks, sync_start, sync_feed}
use Rattle.tg_protocol.specs.Walking.{walk_on, walk_start, walk_feed}
use Rattle.tg_protocol.specs.Versions.{no_versions, based, version_of, with_change, parts_of}
use Rattle.tg_protocol.specs.Views.{decision_in, view_start, view_version, view_parts, unknown_in, changed_in, verdict, view_outcome, step_at, play_on, play}
use Rattle.tg_protocol.specs.Transactions.{read_fault, write_fault, commit_record}
use Rattle.tg_protocol.specs.Checkpoints.{open_decision, checkpoint, bases_in, load_from, view_base, view_bases, may_forget}
use Rattle.tg_protocol.specs.Past.{commit_at, past_at, rescue_turn}
use Rattle.tg_protocol.specs.Trimming.{trim_start, trim_feed, copy_work_asks, copy_start, copy_feed}
use Rattle.tg_protocol.specs.Reconfiguring.{reconf_work_asks, reconf_start, reconf_feed, reconf_latest}
use Rattle.tg_protocol.specs.Clients.{new_client, entries_at, copy_fault, tests, refusal}
use Rattle.tg_protocol.specs.Answers.{appends, syncs, walked}
use Rattle.tg_protocol.specs.ClientSteps.{task_asks, client_asks, walks, task_feed, task_again, accepts, client_command, client_deliver, client_tick}
use Rattle.tg_protocol.specs.Sizes.{fields_size}
use Rattle.tg_protocol.specs.Logs.{decided, newest, log_of, entries_of, members, path_on, path, changes_below, version, outcome, history_of}
use Rattle.tg_protocol.specs.Worlds.{World, start, latest, log, history, unit_moves, layout_moves, seqr_moves, client_turned, happens, limit_of, drain_on, drain, tick_all, rounds, settle, line, lines, trace}
use Rattle.tg_protocol.specs.Runs.{run}
use Rattle.tg_law_layouts.proofs.Moves.Lists.{contained}
use Rattle.tg_law_layouts.proofs.Moves.Members.{Has}
use Rattle.tg_law_cells.specs.Entries.Worked.{tallies, two_units, drained}
use Rattle.tg_law_syncs.specs.Exact.Worked.{walking}
use Rattle.tg_model.specs.Kinds.{MarkOf}
use Rattle.tg_model.specs.Traces.{Trace, point_of, puts_of}
use Rattle.tg_law_syncs.proofs.Exact.Awaiting.{worked_walk}
use Rattle.tg_law_headline.specs.Points.Worked.{WorkedPoint}
use Rattle.tg_law_headline.proofs.Points.Points.{replies_have_points}

-- a reply among these has a point, by a trace
is_two : Option ℕ → Bool
is_two None = false
is_two (Some n) = nat_le n 2 && nat_le 2 n

some_point : Trace tallies → Trace tallies → Bool
unfolding is_two
some_point tr [] = false
some_point tr (t ∷ ts) = is_two (point_of tallies tr t) || some_point tr ts

abbrev end : World tallies
end = run tallies walking (start tallies two_units)

computed : some_point (trace tallies end) (trace tallies end) ≡ true
unfolding some_point run drained u8_at u16_at u32_at u64_at raw_at fixed_at read_many spell_many fit_many marks reads writes keys new_fields old_fields body entry node_eq bytes_eq bytes_lt part_lt cell_eq chain_of units_of next_of change_fault new_unit unit_ask first_missing on_ask unit_step new_layout layout_ask on_layout_ask layout_step reply work_asks put_cell get_cell fill_cell probe work_feed cell_feed entry_size needs_decision page_of entry_of new_seqr seqr_step seqr_tick append_work_asks append_start append_feed append_again sync_work_asks sync_start sync_feed walk_on walk_start walk_feed no_versions based version_of with_change parts_of decision_in view_start view_version view_parts unknown_in changed_in verdict view_outcome step_at play_on play read_fault write_fault commit_record open_decision checkpoint bases_in load_from view_base view_bases may_forget commit_at past_at rescue_turn trim_start trim_feed copy_work_asks copy_start copy_feed reconf_work_asks reconf_start reconf_feed reconf_latest new_client entries_at copy_fault tests refusal appends syncs walked task_asks client_asks walks task_feed task_again accepts client_command client_deliver client_tick fields_size decided newest log_of entries_of members path_on path changes_below version outcome history_of start latest log history unit_moves layout_moves seqr_moves client_turned happens limit_of drain_on drain tick_all rounds settle line lines puts_of is_two
computed = refl

is_point : (o : Option ℕ) → is_two o ≡ true → o ≡ Some 2
unfolding is_two
is_point None e = absurd (cc)
is_point (Some n) e = ap Some (by n e)
  where
    by : (n : ℕ) → (nat_le n 2 && nat_le 2 n) ≡ true → n ≡ 2
    by n e = grind arith

record Found (tr ts : Trace tallies) : Type 0 where
  reply : MarkOf tallies
  here : Has ts reply
  has : point_of tallies tr reply ≡ Some 2

found : (tr ts : Trace tallies) → some_point tr ts ≡ true → Found tr ts
unfolding some_point
found tr [] e = absurd (cc)
found tr (t ∷ ts) e = by (is_two (point_of tallies tr t)) refl e (λ f. found tr ts f)
  where
    later : Found tr ts → Found tr (t ∷ ts)
    later k = record { reply = k.reply; here = inr k.here; has = k.has }

    by : (b : Bool) → is_two (point_of tallies tr t) ≡ b → (b || some_point tr ts) ≡ true → (some_point tr ts ≡ true → Found tr ts) → Found tr (t ∷ ts)
    by true is f rest = record { reply = t; here = inl refl; has = is_point (point_of tallies tr t) is }
    by false is f rest = later (rest f)

pub worked_point : WorkedPoint
worked_point =
    let k = found (trace tallies end) (trace tallies end) computed in
    record {
      reached = worked_walk.reached;
      trims = worked_walk.trims;
      reply = k.reply;
      here = contained (trace tallies end) k.reply k.here;
      has = k.has;
      so = replies_have_points tallies two_units walking end end worked_walk.reached worked_walk.trims (record { before = walking; after = []; split = sym (append-nil walking); is = refl }) k.reply 2 (contained (trace tallies end) k.reply k.here) k.has;
    }
