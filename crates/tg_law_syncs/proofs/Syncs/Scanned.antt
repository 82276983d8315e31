-- The premise of the laws on lists holds of a run in which a sequencer takes over: computed.
use Rattle.std.proofs.Common.{◌≡◌, ℕ, List, [], ◌∷◌, ◌++◌, Bool, true, false, ◌&&◌, refl, sym, ap, ◌∙◌, subst, inl, inr, arith, append-nil}
use Rattle.std.specs.Prelude.{Contains}
use Rattle.std.specs.List.{list_all}
use Rattle.tg_codec.specs.Reading.{u8_at, u16_at, u32_at, u64_at, raw_at, fixed_at}
use Rattle.tg_codec.specs.Codec.{read_many, spell_many, fit_many}
use Rattle.tg_entry.specs.Reads.{marks, reads}
use Rattle.tg_entry.specs.Writes.{writes}
use Rattle.tg_entry.specs.Checkpoints.{keys, new_fields, old_fields}
use Rattle.tg_entry.specs.Format.{body, entry}
use Rattle.tg_base.specs.Orders.{node_eq}
use Rattle.tg_protocol.specs.Words.{directory, bytes_eq, bytes_lt, part_lt, cell_eq}
use Rattle.tg_protocol.specs.Layouts.{chain_of, units_of, next_of, change_fault}
use Rattle.tg_protocol.specs.Units.{new_unit, unit_ask, first_missing, on_ask, unit_step}
use Rattle.tg_protocol.specs.LayoutServers.{new_layout, layout_ask, on_layout_ask, layout_step}
use Rattle.tg_protocol.specs.Replies.{reply}
use Rattle.tg_protocol.specs.Cells.{work_asks, put_cell, get_cell, fill_cell, probe, work_feed, cell_feed}
use Rattle.tg_entry.specs.Needs.{needs_decision}
use Rattle.tg_protocol.specs.Entries.{entry_size}
use Rattle.tg_protocol.specs.Pages.{page_of, entry_of}
use Rattle.tg_protocol.specs.Sequencers.{SeqrState, scanning, new_seqr, seqr_step, seqr_tick}
use Rattle.tg_protocol.specs.Appending.{append_work_asks, append_start, append_feed, append_again}
use Rattle.tg_protocol.specs.Syncing.{sync_work_asks, sync_start, sync_feed}
use Rattle.tg_protocol.specs.Walking.{walk_on, walk_start, walk_feed}
use Rattle.tg_protocol.specs.Versions.{no_versions, based, version_of, with_change, parts_of}
use Rattle.tg_protocol.specs.Views.{decision_in, view_start, view_version, view_parts, unknown_in, changed_in, verdict, view_outcome, step_at, play_on, play}
use Rattle.tg_protocol.specs.Transactions.{read_fault, write_fault, commit_record}
use Rattle.tg_protocol.specs.Checkpoints.{open_decision, checkpoint, bases_in, load_from, view_base, view_bases, may_forget}
use Rattle.tg_protocol.specs.Past.{commit_at, past_at, rescue_turn}
use Rattle.tg_protocol.specs.Trimming.{trim_start, trim_feed, copy_work_asks, copy_start, copy_feed}
use Rattle.tg_protocol.specs.Reconfiguring.{reconf_work_asks, reconf_start, reconf_feed, reconf_latest}
use Rattle.tg_protocol.specs.Clients.{new_client, entries_at, copy_fault, tests, refusal}
use Rattle.tg_protocol.specs.Answers.{appends, syncs, walked}
use Rattle.tg_protocol.specs.ClientSteps.{task_asks, client_asks, walks, task_feed, task_again, accepts, client_command, client_deliver, client_tick}
use Rattle.tg_protocol.specs.Sizes.{fields_size}
use Rattle.tg_protocol.specs.Logs.{decided, newest, log_of, entries_of, members, path_on, path, changes_below, version, outcome, history_of}
use Rattle.tg_model.specs.declared.command.Command.TheVariants as cmd
use Rattle.tg_model.specs.declared.command.Event.TheVariants.{Command as Commands}
use Rattle.tg_base.specs.declared.msg.Msg.{Msg}
use Rattle.tg_base.specs.declared.msg.Msg.TheVariants as msg
use Rattle.tg_base.specs.declared.packet.Packet.{Packet}
use Rattle.tg_protocol.specs.Worlds.{World, start, seqr, latest, log, history, unit_moves, layout_moves, seqr_moves, client_turned, happens, limit_of, drain_on, drain, tick_all, rounds, settle, line, lines}
use Rattle.tg_protocol.specs.Runs.{Moves, Takes, Reaches, Later, run}
use Rattle.tg_law_layouts.specs.Moves.After.{after}
use Rattle.tg_law_layouts.proofs.Moves.Lists.{contained}
use Rattle.tg_law_layouts.proofs.Moves.Members.{Has, has_contained}
use Rattle.tg_law_layouts.proofs.Layouts.Deciding.{latest_decided}
use Rattle.tg_law_layouts.proofs.Layouts.Layouts.{more}
use Rattle.tg_law_cells.specs.Entries.Archive.{TrimsWereSafe}
use Rattle.tg_law_cells.specs.Entries.Worked.{tallies, two_units, drained, asked_again, trimmed}
use Rattle.tg_law_cells.proofs.Entries.Lists.{joined}
use Rattle.tg_law_cells.proofs.Entries.Worked.{worked_trim}
use Rattle.tg_law_walks.specs.Walks.Lists.{backs}
use Rattle.tg_law_walks.specs.Lists.Lists.{Counts}
use Rattle.tg_law_walks.specs.Lists.Spared.{GoesOn, TrimsWereSpare}
use Rattle.tg_law_syncs.specs.Syncs.Scan.{WorkedScan}
use Rattle.tg_law_walks.proofs.Lists.Reached.{before_reached}
use Rattle.tg_law_walks.proofs.Lists.Runs.{lists_are_known}

-- It is the beginning of a run that then trims.

abbrev to_trim : Moves tallies
to_trim = Takes (Commands 0 cmd.Trim) ∷ []

abbrev rest : Moves tallies
rest = to_trim ++ drained 100 (run tallies (asked_again ++ to_trim) (start tallies two_units))

rest_of : trimmed ≡ asked_again ++ rest
rest_of = joined asked_again to_trim (drained 100 (run tallies (asked_again ++ to_trim) (start tallies two_units)))

reached : Reaches tallies two_units asked_again (after tallies two_units asked_again)
reached = before_reached tallies two_units trimmed worked_trim.reached asked_again rest rest_of

was_safe : TrimsWereSafe tallies two_units asked_again
was_safe before e later split = worked_trim.safe before e (later ++ rest) (rest_of ∙ (ap (λ (ms : Moves tallies). ms ++ rest) split ∙ joined before (Takes e ∷ later) rest))

-- What was sent, by computing.

-- nothing is to be trimmed
is_no_trim : Msg → Bool
is_no_trim (msg.Trim e b) = false
is_no_trim y = true

no_trims : List Packet → Bool
unfolding is_no_trim
no_trims ps = list_all (λ (x : Packet). is_no_trim x.msg) ps

record Computed (ps : List Packet) : Type 0 where
  told : no_trims ps ≡ true

computed : Computed (run tallies asked_again (start tallies two_units)).packets
unfolding no_trims is_no_trim run drained u8_at u16_at u32_at u64_at raw_at fixed_at read_many spell_many fit_many marks reads writes keys new_fields old_fields body entry node_eq bytes_eq bytes_lt part_lt cell_eq chain_of units_of next_of change_fault new_unit unit_ask first_missing on_ask unit_step new_layout layout_ask on_layout_ask layout_step reply work_asks put_cell get_cell fill_cell probe work_feed cell_feed entry_size needs_decision page_of entry_of new_seqr seqr_step seqr_tick append_work_asks append_start append_feed append_again sync_work_asks sync_start sync_feed walk_on walk_start walk_feed no_versions based version_of with_change parts_of decision_in view_start view_version view_parts unknown_in changed_in verdict view_outcome step_at play_on play read_fault write_fault commit_record open_decision checkpoint bases_in load_from view_base view_bases may_forget commit_at past_at rescue_turn trim_start trim_feed copy_work_asks copy_start copy_feed reconf_work_asks reconf_start reconf_feed reconf_latest new_client entries_at copy_fault tests refusal appends syncs walked task_asks client_asks walks task_feed task_again accepts client_command client_deliver client_tick fields_size decided newest log_of entries_of members path_on path changes_below version outcome history_of start latest log history unit_moves layout_moves seqr_moves client_turned happens limit_of drain_on drain tick_all rounds settle line lines
computed = record { told = refl }

both : (a b : Bool) → (a && b) ≡ true → (a ≡ true) × (b ≡ true)
both true b e = (refl, e)
both false b e = absurd (cc)

each : (f : Packet → Bool) (xs : List Packet) (x : Packet) → list_all f xs ≡ true → Has xs x → f x ≡ true
each f [] x e g = absurd g
each f (y ∷ xs) x e (inl s) = ap f s ∙ (both (f y) (list_all f xs) e).0
each f (y ∷ xs) x e (inr g) = each f xs x (both (f y) (list_all f xs) e).1 g

trim_no : (y : Msg) (e b : ℕ) → is_no_trim y ≡ true → y ≡ msg.Trim e b → ⊥
unfolding is_no_trim
trim_no y e b t is = cc

module _ (w : World tallies) (c : Computed w.packets) where
  untrimmed : (x : Packet) (e b : ℕ) → Contains w.packets x → x.msg ≡ msg.Trim e b → ⊥
  unfolding no_trims
  untrimmed x e b i is = trim_no x.msg e b (each (λ (y : Packet). is_no_trim y.msg) w.packets x c.told (has_contained w.packets x i)) is

-- Nothing is to be trimmed before either.

sent_later : (u : World tallies) → GoesOn tallies two_units asked_again u → (x : Packet) → Contains u.packets x → Contains (run tallies asked_again (start tallies two_units)).packets x
sent_later u g x i = by (has_contained u.packets x i)
  where
    by : Has u.packets x → Contains (run tallies asked_again (start tallies two_units)).packets x
    by k = contained _ x (subst (λ (ms : Moves tallies). Has (after tallies two_units ms).packets x) (sym g.split) (more tallies two_units g.before _ x (subst (λ (w : World tallies). Has w.packets x) g.is k)))

spare : TrimsWereSpare tallies two_units asked_again
spare = record {
  safe = was_safe;
  spare = λ u g. record {
    whole = λ x e b q i is less. absurd (untrimmed (run tallies asked_again (start tallies two_units)) computed x e b (sent_later u g x i) is);
    saved = λ x e b q o i is less st. absurd (untrimmed (run tallies asked_again (start tallies two_units)) computed x e b (sent_later u g x i) is);
  };
}

-- The sequencer.

record Scanned (s : SeqrState) : Type 0 where
  ready : scanning s ≡ false
  epoch : s.epoch ≡ 2
  next : s.next ≡ 1
  last : backs directory s.lists ≡ 0 ∷ []

scanned : Scanned (seqr tallies (run tallies asked_again (start tallies two_units)) 1)
unfolding run drained u8_at u16_at u32_at u64_at raw_at fixed_at read_many spell_many fit_many marks reads writes keys new_fields old_fields body entry node_eq bytes_eq bytes_lt part_lt cell_eq chain_of units_of next_of change_fault new_unit unit_ask first_missing on_ask unit_step new_layout layout_ask on_layout_ask layout_step reply work_asks put_cell get_cell fill_cell probe work_feed cell_feed entry_size needs_decision page_of entry_of new_seqr seqr_step seqr_tick append_work_asks append_start append_feed append_again sync_work_asks sync_start sync_feed walk_on walk_start walk_feed no_versions based version_of with_change parts_of decision_in view_start view_version view_parts unknown_in changed_in verdict view_outcome step_at play_on play read_fault write_fault commit_record open_decision checkpoint bases_in load_from view_base view_bases may_forget commit_at past_at rescue_turn trim_start trim_feed copy_work_asks copy_start copy_feed reconf_work_asks reconf_start reconf_feed reconf_latest new_client entries_at copy_fault tests refusal appends syncs walked task_asks client_asks walks task_feed task_again accepts client_command client_deliver client_tick fields_size decided newest log_of entries_of members path_on path changes_below version outcome history_of start latest log history unit_moves layout_moves seqr_moves client_turned happens limit_of drain_on drain tick_all rounds settle line lines
scanned = record { ready = refl; epoch = refl; next = refl; last = refl }

latest_epoch : (latest tallies (run tallies asked_again (start tallies two_units))).epoch ≡ 2
unfolding run drained u8_at u16_at u32_at u64_at raw_at fixed_at read_many spell_many fit_many marks reads writes keys new_fields old_fields body entry node_eq bytes_eq bytes_lt part_lt cell_eq chain_of units_of next_of change_fault new_unit unit_ask first_missing on_ask unit_step new_layout layout_ask on_layout_ask layout_step reply work_asks put_cell get_cell fill_cell probe work_feed cell_feed entry_size needs_decision page_of entry_of new_seqr seqr_step seqr_tick append_work_asks append_start append_feed append_again sync_work_asks sync_start sync_feed walk_on walk_start walk_feed no_versions based version_of with_change parts_of decision_in view_start view_version view_parts unknown_in changed_in verdict view_outcome step_at play_on play read_fault write_fault commit_record open_decision checkpoint bases_in load_from view_base view_bases may_forget commit_at past_at rescue_turn trim_start trim_feed copy_work_asks copy_start copy_feed reconf_work_asks reconf_start reconf_feed reconf_latest new_client entries_at copy_fault tests refusal appends syncs walked task_asks client_asks walks task_feed task_again accepts client_command client_deliver client_tick fields_size decided newest log_of entries_of members path_on path changes_below version outcome history_of start latest log history unit_moves layout_moves seqr_moves client_turned happens limit_of drain_on drain tick_all rounds settle line lines
latest_epoch = refl

counts : Counts tallies (run tallies asked_again (start tallies two_units)) 2 1
counts = record {
  some = omega arith;
  before = λ q d. let le = (latest_decided tallies two_units asked_again (after tallies two_units asked_again) reached).greatest 3 q d in let e = latest_epoch in absurd (omega (arith, le, e));
}

now : Later tallies (after tallies two_units asked_again) (after tallies two_units asked_again)
unfolding run
now = ([], record { lawful = λ x c. absurd (has_contained [] x c); is = refl; few = reached.goes.few })

pub worked_scan : WorkedScan
unfolding now
worked_scan = record {
  reached = reached;
  trims = spare;
  ready = scanned.ready;
  epoch = scanned.epoch;
  next = scanned.next;
  counts = here;
  last = scanned.last;
  good = lists_are_known tallies two_units asked_again (after tallies two_units asked_again) (after tallies two_units asked_again) reached now
      (subst (λ (ms : Moves tallies). TrimsWereSpare tallies two_units ms) (sym (append-nil asked_again)) spare) 1 scanned.ready here;
}
  where
    here : Counts tallies (run tallies asked_again (start tallies two_units)) (seqr tallies (run tallies asked_again (start tallies two_units)) 1).epoch (seqr tallies (run tallies asked_again (start tallies two_units)) 1).next
    here = subst (λ (n : ℕ). Counts tallies (run tallies asked_again (start tallies two_units)) n (seqr tallies (run tallies asked_again (start tallies two_units)) 1).next) (sym scanned.epoch)
        (subst (λ (n : ℕ). Counts tallies (run tallies asked_again (start tallies two_units)) 2 n) (sym scanned.next) counts)
