-- A run in which a transaction commits.
use Rattle.std.proofs.Common.{◌≡◌, ℕ, List, [], ◌∷◌, refl, Some, None, ap, sym, ◌∙◌, subst, inl, inr, arith, Bool, Option, ◌++◌, Contains}
use Rattle.std.specs.Prelude.{true, false, slice_get}
use Rattle.tg_model.specs.declared.command.Command.TheVariants as cmd
use Rattle.tg_model.specs.declared.command.Event.TheVariants.{Command as Commands, Deliver}
use Rattle.tg_model.specs.declared.trace.What.TheVariants as told
use Rattle.tg_codec.specs.Reading.{u8_at, u16_at, u32_at, u64_at, raw_at, fixed_at}
use Rattle.tg_codec.specs.Codec.{read_many, spell_many, fit_many}
use Rattle.tg_entry.specs.Reads.{marks, reads}
use Rattle.tg_entry.specs.Writes.{writes}
use Rattle.tg_entry.specs.Checkpoints.{keys, new_fields, old_fields}
use Rattle.tg_entry.specs.Format.{body, entry}
use Rattle.tg_base.specs.Orders.{node_eq}
use Rattle.tg_protocol.specs.Words.{bytes_eq, bytes_lt, part_lt, cell_eq, client_id}
use Rattle.tg_protocol.specs.Layouts.{chain_of, units_of, next_of, change_fault}
use Rattle.tg_protocol.specs.Units.{new_unit, unit_ask, first_missing, on_ask, unit_step}
use Rattle.tg_protocol.specs.LayoutServers.{new_layout, layout_ask, on_layout_ask, layout_step}
use Rattle.tg_protocol.specs.Replies.{reply}
use Rattle.tg_protocol.specs.Cells.{work_asks, put_cell, get_cell, fill_cell, probe, work_feed, cell_feed}
use Rattle.tg_entry.specs.Needs.{needs_decision}
use Rattle.tg_protocol.specs.Entries.{entry_size}
use Rattle.tg_protocol.specs.Pages.{page_of, entry_of}
use Rattle.tg_protocol.specs.Sequencers.{new_seqr, seqr_step, seqr_tick}
use Rattle.tg_protocol.specs.Appending.{append_work_asks, append_start, append_feed, append_again}
use Rattle.tg_protocol.specs.Syncing.{sync_work_asks, sync_start, sync_feed}
use Rattle.tg_protocol.specs.Walking.{walk_on, walk_start, walk_feed}
use Rattle.tg_protocol.specs.Versions.{no_versions, based, version_of, with_change, parts_of}
use Rattle.tg_protocol.specs.Views.{decision_in, view_start, view_version, view_parts, unknown_in, changed_in, verdict, view_outcome, step_at, play_on, play, Entries}
use Rattle.tg_protocol.specs.Transactions.{read_fault, write_fault, commit_record, Tx}
use Rattle.tg_protocol.specs.Checkpoints.{open_decision, checkpoint, bases_in, load_from, view_base, view_bases, may_forget}
use Rattle.tg_protocol.specs.Past.{commit_at, past_at, rescue_turn}
use Rattle.tg_protocol.specs.Trimming.{trim_start, trim_feed, copy_work_asks, copy_start, copy_feed}
use Rattle.tg_protocol.specs.Reconfiguring.{reconf_work_asks, reconf_start, reconf_feed, reconf_latest}
use Rattle.tg_protocol.specs.Clients.{new_client, entries_at, copy_fault, tests, refusal}
use Rattle.tg_protocol.specs.Answers.{appends, syncs, walked}
use Rattle.tg_protocol.specs.ClientSteps.{task_asks, client_asks, walks, task_feed, task_again, accepts, client_command, client_deliver, client_tick}
use Rattle.tg_protocol.specs.Sizes.{fields_size}
use Rattle.tg_protocol.specs.Logs.{decided, newest, log_of, entries_of, members, path_on, path, changes_below, version, outcome, history_of}
use Rattle.tg_protocol.specs.Worlds.{World, trace, client, start, latest, log, history, unit_moves, layout_moves, seqr_moves, client_turned, happens, limit_of, drain_on, drain, tick_all, rounds, settle, line, lines}
use Rattle.tg_base.specs.declared.ids.Oid.{Oid}
use Rattle.tg_base.specs.declared.ids.Role.{Role}
use Rattle.tg_base.specs.declared.ids.Role.TheVariants as role
use Rattle.tg_base.specs.declared.packet.Packet.{Packet}
use Rattle.tg_base.specs.declared.msg.Msg.TheVariants as msg
use Rattle.tg_entry.specs.declared.entry.Body.TheVariants.{Commit}
use Rattle.tg_entry.specs.declared.entry.Entry.{Entry}
use Rattle.tg_entry.specs.declared.entry.WriteOp.{WriteOp}
use Rattle.tg_model.specs.Kinds.{EventOf, WhatOf, MarkOf}
use Rattle.tg_model.specs.Traces.{Tells, puts_of}
use Rattle.tg_protocol.specs.Runs.{Move, Moves, LawfulMove, Reaches, run}
use Rattle.tg_law_replies.specs.History.Worlds.{entries_in}
use Rattle.tg_law_replies.proofs.History.Members.{Has, has_contained, contained_has}
use Rattle.tg_protocol.specs.Alike.{HasRecord}
use Rattle.tg_law_replies.specs.Replies.Steps.{EachDelivery, EachEvent}
use Rattle.tg_law_replies.specs.Replies.Found.{Finds}
use Rattle.tg_law_finish.proofs.Tallies.Steps.{by_steps}
use Rattle.tg_law_replies.specs.Replies.Laws.{ClientsFind}
use Rattle.tg_law_finish.specs.Tallies.Tallies.{tallies, tally, with_tally, adds}

abbrev pub w0 : World tallies
w0 = start tallies with_tally

abbrev pub w1 : World tallies
w1 = happens tallies w0 (Commands 0 cmd.Begin)

abbrev pub w2 : World tallies
w2 = happens tallies w1 (Commands 0 (cmd.Put tally 5))

abbrev pub w3 : World tallies
w3 = happens tallies w2 (Commands 0 cmd.End)

abbrev pub w4 : World tallies
w4 = happens tallies w3 (Deliver 0)

abbrev pub w5 : World tallies
w5 = happens tallies w4 (Deliver 1)

abbrev pub w6 : World tallies
w6 = happens tallies w5 (Deliver 2)

abbrev pub ended : World tallies
ended = run tallies adds (start tallies with_tally)

abbrev pub es : Entries
es = entries_in tallies ended

abbrev pub write : WriteOp
write = record { oid = tally; op = 5 ∷ [] }

abbrev pub entry_made : Entry
entry_made = record { head = record { format = 2; client = 0; number = 1; streams = record { oid = tally; backs = [] } ∷ [] }; body = Commit [] (write ∷ []) }

abbrev pub entries_made : Entries
entries_made = (0, entry_made) ∷ []

pub only_entry : entries_in tallies ended ≡ entries_made
unfolding run u8_at u16_at u32_at u64_at raw_at fixed_at read_many spell_many fit_many marks reads writes keys new_fields old_fields body entry node_eq bytes_eq bytes_lt part_lt cell_eq chain_of units_of next_of change_fault new_unit unit_ask first_missing on_ask unit_step new_layout layout_ask on_layout_ask layout_step reply work_asks put_cell get_cell fill_cell probe work_feed cell_feed entry_size needs_decision page_of entry_of new_seqr seqr_step seqr_tick append_work_asks append_start append_feed append_again sync_work_asks sync_start sync_feed walk_on walk_start walk_feed no_versions based version_of with_change parts_of decision_in view_start view_version view_parts unknown_in changed_in verdict view_outcome step_at play_on play read_fault write_fault commit_record open_decision checkpoint bases_in load_from view_base view_bases may_forget commit_at past_at rescue_turn trim_start trim_feed copy_work_asks copy_start copy_feed reconf_work_asks reconf_start reconf_feed reconf_latest new_client entries_at copy_fault tests refusal appends syncs walked task_asks client_asks walks task_feed task_again accepts client_command client_deliver client_tick fields_size decided newest log_of entries_of members path_on path changes_below version outcome history_of start latest log history unit_moves layout_moves seqr_moves client_turned happens limit_of drain_on drain tick_all rounds settle line lines
only_entry = refl

abbrev pub mark_of_tx : ℕ → WhatOf tallies → MarkOf tallies
mark_of_tx n what = record { event = n; client = 0; tx = 1; what = what }

abbrev pub marks_made : List (MarkOf tallies)
marks_made = mark_of_tx 0 told.Begin ∷ mark_of_tx 0 (told.Put tally 5) ∷ mark_of_tx 0 told.End ∷ mark_of_tx 0 (told.Committed 0) ∷ []

pub only_marks : trace tallies ended ≡ marks_made
unfolding run u8_at u16_at u32_at u64_at raw_at fixed_at read_many spell_many fit_many marks reads writes keys new_fields old_fields body entry node_eq bytes_eq bytes_lt part_lt cell_eq chain_of units_of next_of change_fault new_unit unit_ask first_missing on_ask unit_step new_layout layout_ask on_layout_ask layout_step reply work_asks put_cell get_cell fill_cell probe work_feed cell_feed entry_size needs_decision page_of entry_of new_seqr seqr_step seqr_tick append_work_asks append_start append_feed append_again sync_work_asks sync_start sync_feed walk_on walk_start walk_feed no_versions based version_of with_change parts_of decision_in view_start view_version view_parts unknown_in changed_in verdict view_outcome step_at play_on play read_fault write_fault commit_record open_decision checkpoint bases_in load_from view_base view_bases may_forget commit_at past_at rescue_turn trim_start trim_feed copy_work_asks copy_start copy_feed reconf_work_asks reconf_start reconf_feed reconf_latest new_client entries_at copy_fault tests refusal appends syncs walked task_asks client_asks walks task_feed task_again accepts client_command client_deliver client_tick fields_size decided newest log_of entries_of members path_on path changes_below version outcome history_of start latest log history unit_moves layout_moves seqr_moves client_turned happens limit_of drain_on drain tick_all rounds settle line lines
only_marks = refl

-- The entry.

pub is_entry : (p : ℕ) (e : Entry) → Contains es (p, e) → (p ≡ 0) × (e ≡ entry_made)
is_entry p e i = by (has_contained entries_made (p, e) (subst (λ (xs : Entries). Contains xs (p, e)) only_entry i))
  where
    by : Has entries_made (p, e) → (p ≡ 0) × (e ≡ entry_made)
    by (inl k) = (ap (λ (x : ℕ × Entry). x.0) k, ap (λ (x : ℕ × Entry). x.1) k)
    by (inr k) = absurd k

pub here : Contains es (0, entry_made)
here = subst (λ (xs : Entries). Contains xs (0, entry_made)) (sym only_entry) (contained_has entries_made (0, entry_made) (inl refl))

-- What its clients find.

abbrev Each : Moves tallies → World tallies → EventOf tallies → Type 0
Each before w e = EachEvent tallies (tally ∷ []) es (Finds tallies with_tally es before) w e

abbrev role_of : Option Packet → Role
role_of None = role.Seqr
role_of (Some p) = p.to.role

abbrev some_packet : Packet
some_packet = record { from = client_id 0; to = client_id 0; rid = 0; msg = msg.Whole }

abbrev packet_of : Option Packet → Packet
packet_of None = some_packet
packet_of (Some p) = p

abbrev is_client : Role → Bool
is_client role.Client = true
is_client r = false

differ : false ≡ true → ⊥
differ e = cc

other_node : (w : World tallies) (i : ℕ) (p : Packet) → is_client (role_of (slice_get w.packets i)) ≡ false → slice_get w.packets i ≡ Some p → p.to.role ≡ role.Client → ⊥
other_node w i p other is c = differ (sym other ∙ ap (λ (o : Option Packet). is_client (role_of o)) is ∙ ap is_client c)

abbrev Delivered : Moves tallies → World tallies → Packet → Type 0
Delivered before w p = EachDelivery tallies (tally ∷ []) es (Finds tallies with_tally es before) (client tallies w p.to.num) (client tallies w p.to.num).work p.from p.rid (reply p.msg)

to_client : (before : Moves tallies) (w : World tallies) (i : ℕ) → Delivered before w (packet_of (slice_get w.packets i)) → Each before w (Deliver i)
to_client before w i k p is c on = subst (λ (q : Packet). Delivered before w q) (ap packet_of is) k

third_other : is_client (role_of (slice_get w3.packets 0)) ≡ false
unfolding run u8_at u16_at u32_at u64_at raw_at fixed_at read_many spell_many fit_many marks reads writes keys new_fields old_fields body entry node_eq bytes_eq bytes_lt part_lt cell_eq chain_of units_of next_of change_fault new_unit unit_ask first_missing on_ask unit_step new_layout layout_ask on_layout_ask layout_step reply work_asks put_cell get_cell fill_cell probe work_feed cell_feed entry_size needs_decision page_of entry_of new_seqr seqr_step seqr_tick append_work_asks append_start append_feed append_again sync_work_asks sync_start sync_feed walk_on walk_start walk_feed no_versions based version_of with_change parts_of decision_in view_start view_version view_parts unknown_in changed_in verdict view_outcome step_at play_on play read_fault write_fault commit_record open_decision checkpoint bases_in load_from view_base view_bases may_forget commit_at past_at rescue_turn trim_start trim_feed copy_work_asks copy_start copy_feed reconf_work_asks reconf_start reconf_feed reconf_latest new_client entries_at copy_fault tests refusal appends syncs walked task_asks client_asks walks task_feed task_again accepts client_command client_deliver client_tick fields_size decided newest log_of entries_of members path_on path changes_below version outcome history_of start latest log history unit_moves layout_moves seqr_moves client_turned happens limit_of drain_on drain tick_all rounds settle line lines
third_other = refl

issued : (before : Moves tallies) → Delivered before w4 (packet_of (slice_get w4.packets 1))
unfolding run u8_at u16_at u32_at u64_at raw_at fixed_at read_many spell_many fit_many marks reads writes keys new_fields old_fields body entry node_eq bytes_eq bytes_lt part_lt cell_eq chain_of units_of next_of change_fault new_unit unit_ask first_missing on_ask unit_step new_layout layout_ask on_layout_ask layout_step reply work_asks put_cell get_cell fill_cell probe work_feed cell_feed entry_size needs_decision page_of entry_of new_seqr seqr_step seqr_tick append_work_asks append_start append_feed append_again sync_work_asks sync_start sync_feed walk_on walk_start walk_feed no_versions based version_of with_change parts_of decision_in view_start view_version view_parts unknown_in changed_in verdict view_outcome step_at play_on play read_fault write_fault commit_record open_decision checkpoint bases_in load_from view_base view_bases may_forget commit_at past_at rescue_turn trim_start trim_feed copy_work_asks copy_start copy_feed reconf_work_asks reconf_start reconf_feed reconf_latest new_client entries_at copy_fault tests refusal appends syncs walked task_asks client_asks walks task_feed task_again accepts client_command client_deliver client_tick fields_size decided newest log_of entries_of members path_on path changes_below version outcome history_of start latest log history unit_moves layout_moves seqr_moves client_turned happens limit_of drain_on drain tick_all rounds settle line lines
issued before = tt

fifth_other : is_client (role_of (slice_get w5.packets 2)) ≡ false
unfolding run u8_at u16_at u32_at u64_at raw_at fixed_at read_many spell_many fit_many marks reads writes keys new_fields old_fields body entry node_eq bytes_eq bytes_lt part_lt cell_eq chain_of units_of next_of change_fault new_unit unit_ask first_missing on_ask unit_step new_layout layout_ask on_layout_ask layout_step reply work_asks put_cell get_cell fill_cell probe work_feed cell_feed entry_size needs_decision page_of entry_of new_seqr seqr_step seqr_tick append_work_asks append_start append_feed append_again sync_work_asks sync_start sync_feed walk_on walk_start walk_feed no_versions based version_of with_change parts_of decision_in view_start view_version view_parts unknown_in changed_in verdict view_outcome step_at play_on play read_fault write_fault commit_record open_decision checkpoint bases_in load_from view_base view_bases may_forget commit_at past_at rescue_turn trim_start trim_feed copy_work_asks copy_start copy_feed reconf_work_asks reconf_start reconf_feed reconf_latest new_client entries_at copy_fault tests refusal appends syncs walked task_asks client_asks walks task_feed task_again accepts client_command client_deliver client_tick fields_size decided newest log_of entries_of members path_on path changes_below version outcome history_of start latest log history unit_moves layout_moves seqr_moves client_turned happens limit_of drain_on drain tick_all rounds settle line lines
fifth_other = refl

landed : (before : Moves tallies) → Delivered before w6 (packet_of (slice_get w6.packets 3))
unfolding run u8_at u16_at u32_at u64_at raw_at fixed_at read_many spell_many fit_many marks reads writes keys new_fields old_fields body entry node_eq bytes_eq bytes_lt part_lt cell_eq chain_of units_of next_of change_fault new_unit unit_ask first_missing on_ask unit_step new_layout layout_ask on_layout_ask layout_step reply work_asks put_cell get_cell fill_cell probe work_feed cell_feed entry_size needs_decision page_of entry_of new_seqr seqr_step seqr_tick append_work_asks append_start append_feed append_again sync_work_asks sync_start sync_feed walk_on walk_start walk_feed no_versions based version_of with_change parts_of decision_in view_start view_version view_parts unknown_in changed_in verdict view_outcome step_at play_on play read_fault write_fault commit_record open_decision checkpoint bases_in load_from view_base view_bases may_forget commit_at past_at rescue_turn trim_start trim_feed copy_work_asks copy_start copy_feed reconf_work_asks reconf_start reconf_feed reconf_latest new_client entries_at copy_fault tests refusal appends syncs walked task_asks client_asks walks task_feed task_again accepts client_command client_deliver client_tick fields_size decided newest log_of entries_of members path_on path changes_below version outcome history_of start latest log history unit_moves layout_moves seqr_moves client_turned happens limit_of drain_on drain tick_all rounds settle line lines
landed before = tt

abbrev pub tx_made : Tx
tx_made = record { number = 1; snapshot = None; reads = []; writes = write ∷ [] }

-- What its log says of its replies.

is_mark : (u : MarkOf tallies) → Contains (trace tallies ended) u → Has marks_made u
is_mark u i = has_contained marks_made u (subst (λ (xs : List (MarkOf tallies)). Contains xs u) only_marks i)

abbrev pub Each' : (MarkOf tallies → Type 0) → Type 0
Each' Q = Q (mark_of_tx 0 told.Begin) × Q (mark_of_tx 0 (told.Put tally 5)) × Q (mark_of_tx 0 told.End) × Q (mark_of_tx 0 (told.Committed 0))

pub each_mark : (Q : MarkOf tallies → Type 0) → Each' Q → (u : MarkOf tallies) → Contains (trace tallies ended) u → Q u
each_mark Q k u i = by (is_mark u i)
  where
    by : Has marks_made u → Q u
    by (inl e) = subst Q (sym e) k.0
    by (inr (inl e)) = subst Q (sym e) k.1
    by (inr (inr (inl e))) = subst Q (sym e) k.2
    by (inr (inr (inr (inl e)))) = subst Q (sym e) k.3
    by (inr (inr (inr (inr j)))) = absurd j

-- which replies were made
abbrev pub Made : WhatOf tallies → Type 0
Made told.Begin = Unit {0}
Made (told.Put o op) = Unit {0}
Made told.End = Unit {0}
Made (told.Committed p) = p ≡ 0
Made what = ⊥

pub is_made : (k x : ℕ) (what : WhatOf tallies) → Tells tallies (trace tallies ended) k x what → Made what × (k ≡ 0) × (x ≡ 1)
is_made k x what h =
    each_mark (λ (u : MarkOf tallies). Made u.what × (u.client ≡ 0) × (u.tx ≡ 1)) ((tt, refl, refl), (tt, refl, refl), (tt, refl, refl), (refl, refl, refl)) (record { event = h.event; client = k; tx = x; what = what }) h.here

abbrev pub puts_made : List (Oid × ℕ)
puts_made = (tally, 5) ∷ []

pub has_puts : puts_of tallies (trace tallies ended) 0 1 ≡ puts_made
unfolding puts_of run u8_at u16_at u32_at u64_at raw_at fixed_at read_many spell_many fit_many marks reads writes keys new_fields old_fields body entry node_eq bytes_eq bytes_lt part_lt cell_eq chain_of units_of next_of change_fault new_unit unit_ask first_missing on_ask unit_step new_layout layout_ask on_layout_ask layout_step reply work_asks put_cell get_cell fill_cell probe work_feed cell_feed entry_size needs_decision page_of entry_of new_seqr seqr_step seqr_tick append_work_asks append_start append_feed append_again sync_work_asks sync_start sync_feed walk_on walk_start walk_feed no_versions based version_of with_change parts_of decision_in view_start view_version view_parts unknown_in changed_in verdict view_outcome step_at play_on play read_fault write_fault commit_record open_decision checkpoint bases_in load_from view_base view_bases may_forget commit_at past_at rescue_turn trim_start trim_feed copy_work_asks copy_start copy_feed reconf_work_asks reconf_start reconf_feed reconf_latest new_client entries_at copy_fault tests refusal appends syncs walked task_asks client_asks walks task_feed task_again accepts client_command client_deliver client_tick fields_size decided newest log_of entries_of members path_on path changes_below version outcome history_of start latest log history unit_moves layout_moves seqr_moves client_turned happens limit_of drain_on drain tick_all rounds settle line lines
has_puts = refl

pub no_puts : (k x : ℕ) → k ≡ 0 → x ≡ 1 → puts_of tallies (trace tallies ended) k x ≡ [] → ⊥
no_puts k x ke xe e = one (sym has_puts ∙ ap (λ (n : ℕ). puts_of tallies (trace tallies ended) n 1) (sym ke) ∙ ap (λ (n : ℕ). puts_of tallies (trace tallies ended) k n) (sym xe) ∙ e)
  where
    one : puts_made ≡ [] → ⊥
    one z = cc

pub record_at : (p k x : ℕ) → p ≡ 0 → k ≡ 0 → x ≡ 1 → HasRecord tallies ended p k x
record_at p k x pe ke xe = record { record_at = entry_made; here = subst (λ (n : ℕ). Contains es (n, entry_made)) (sym pe) here; commit = refl; of_client = sym ke; of_number = sym xe }

-- the first mark alone begins
pub front : (before after : List (MarkOf tallies)) (b r : MarkOf tallies) → marks_made ≡ before ++ b ∷ after → b.what ≡ told.Begin → Contains before r → ⊥
front [] after b r split is i = has_contained [] r i
front (x ∷ before) after b r split is i = rest before (tails x before split)
  where
    tails : (x : MarkOf tallies) (before : List (MarkOf tallies)) → marks_made ≡ x ∷ (before ++ b ∷ after) → mark_of_tx 0 (told.Put tally 5) ∷ mark_of_tx 0 told.End ∷ mark_of_tx 0 (told.Committed 0) ∷ [] ≡ before ++ b ∷ after
    tails x before e = cc

    is_begin : WhatOf tallies → Bool
    is_begin told.Begin = true
    is_begin what = false

    never : (u : MarkOf tallies) (us vs : List (MarkOf tallies)) → is_begin u.what ≡ false → u ∷ us ≡ b ∷ vs → ⊥
    never u us vs other e = differ (sym other ∙ ap is_begin (ap (λ (y : MarkOf tallies). y.what) (first_is u b us vs e) ∙ is))
      where
        first_is : (u b : MarkOf tallies) (us vs : List (MarkOf tallies)) → u ∷ us ≡ b ∷ vs → u ≡ b
        first_is u b us vs z = cc

    rest : (before : List (MarkOf tallies)) → mark_of_tx 0 (told.Put tally 5) ∷ mark_of_tx 0 told.End ∷ mark_of_tx 0 (told.Committed 0) ∷ [] ≡ before ++ b ∷ after → ⊥
    rest [] e = never (mark_of_tx 0 (told.Put tally 5)) _ after refl e
    rest (y ∷ []) e = never (mark_of_tx 0 told.End) _ after refl (tail_is _ y _ _ e)
      where
        tail_is : (u v : MarkOf tallies) (us vs : List (MarkOf tallies)) → u ∷ us ≡ v ∷ vs → us ≡ vs
        tail_is u v us vs z = cc
    rest (y ∷ z ∷ []) e = never (mark_of_tx 0 (told.Committed 0)) _ after refl (tail_is _ z _ _ (tail_is _ y _ _ e))
      where
        tail_is : (u v : MarkOf tallies) (us vs : List (MarkOf tallies)) → u ∷ us ≡ v ∷ vs → us ≡ vs
        tail_is u v us vs q = cc
    rest (y ∷ z ∷ v ∷ more) e = ended_list more (tail_is _ v _ _ (tail_is _ z _ _ (tail_is _ y _ _ e)))
      where
        tail_is : (u v : MarkOf tallies) (us vs : List (MarkOf tallies)) → u ∷ us ≡ v ∷ vs → us ≡ vs
        tail_is u v us vs q = cc

        ended_list : (more : List (MarkOf tallies)) → [] ≡ more ++ b ∷ after → ⊥
        ended_list [] q = cc
        ended_list (u ∷ more) q = cc

pub reached : Reaches tallies with_tally adds ended
unfolding run u8_at u16_at u32_at u64_at raw_at fixed_at read_many spell_many fit_many marks reads writes keys new_fields old_fields body entry node_eq bytes_eq bytes_lt part_lt cell_eq chain_of units_of next_of change_fault new_unit unit_ask first_missing on_ask unit_step new_layout layout_ask on_layout_ask layout_step reply work_asks put_cell get_cell fill_cell probe work_feed cell_feed entry_size needs_decision page_of entry_of new_seqr seqr_step seqr_tick append_work_asks append_start append_feed append_again sync_work_asks sync_start sync_feed walk_on walk_start walk_feed no_versions based version_of with_change parts_of decision_in view_start view_version view_parts unknown_in changed_in verdict view_outcome step_at play_on play read_fault write_fault commit_record open_decision checkpoint bases_in load_from view_base view_bases may_forget commit_at past_at rescue_turn trim_start trim_feed copy_work_asks copy_start copy_feed reconf_work_asks reconf_start reconf_feed reconf_latest new_client entries_at copy_fault tests refusal appends syncs walked task_asks client_asks walks task_feed task_again accepts client_command client_deliver client_tick fields_size decided newest log_of entries_of members path_on path changes_below version outcome history_of start latest log history unit_moves layout_moves seqr_moves client_turned happens limit_of drain_on drain tick_all rounds settle line lines
reached = record {
  header = refl;
  goes = record { lawful = λ x i. lawful x (has_contained adds x i); is = refl; few = omega arith };
}
  where
    lawful : (x : Move tallies) → Has adds x → LawfulMove tallies with_tally x
    lawful x (inl e) = subst (λ (y : Move tallies). LawfulMove tallies with_tally y) (sym e) (omega arith, tt)
    lawful x (inr (inl e)) = subst (λ (y : Move tallies). LawfulMove tallies with_tally y) (sym e) (omega arith, (refl, λ allowed short. record { read = refl; fits = refl }))
    lawful x (inr (inr (inl e))) = subst (λ (y : Move tallies). LawfulMove tallies with_tally y) (sym e) (omega arith, tt)
    lawful x (inr (inr (inr (inl e)))) = subst (λ (y : Move tallies). LawfulMove tallies with_tally y) (sym e) tt
    lawful x (inr (inr (inr (inr (inl e))))) = subst (λ (y : Move tallies). LawfulMove tallies with_tally y) (sym e) tt
    lawful x (inr (inr (inr (inr (inr (inl e)))))) = subst (λ (y : Move tallies). LawfulMove tallies with_tally y) (sym e) tt
    lawful x (inr (inr (inr (inr (inr (inr (inl e))))))) = subst (λ (y : Move tallies). LawfulMove tallies with_tally y) (sym e) tt
    lawful x (inr (inr (inr (inr (inr (inr (inr i))))))) = absurd i

pub finds : ClientsFind tallies with_tally adds ended
finds = by_steps tallies with_tally Each adds (
  tt,
  (
    tt,
    (
      tt,
      (
        (λ p is c on. absurd (other_node w3 0 p third_other is c)),
        (
          to_client _ w4 1 (issued _),
          (
            (λ p is c on. absurd (other_node w5 2 p fifth_other is c)),
            (to_client _ w6 3 (landed _), tt),
          ),
        ),
      ),
    ),
  ),
)
