-- A worked run reaches its world; of it a claim is proved as it stands, and of a changed world it is refuted.
use Rattle.std.proofs.Common.{◌≡◌, ℕ, ◌<◌, ◌≤◌, List, [], ◌∷◌, refl, sym, ap, ◌∙◌, subst, inl, inr, arith}
use Rattle.std.specs.Prelude.{Contains, pos}
use Rattle.tg_base.specs.declared.cell.Cell.TheVariants.{Data}
use Rattle.tg_base.specs.declared.ids.Oid.{Oid}
use Rattle.tg_base.specs.declared.marks.StreamLink.{StreamLink}
use Rattle.tg_entry.specs.declared.entry.Body.TheVariants.{Commit}
use Rattle.tg_entry.specs.declared.entry.Entry.{Entry}
use Rattle.tg_base.specs.Clusters.{Header, IsHeader}
use Rattle.tg_model.specs.declared.command.Command.TheVariants as cmd
use Rattle.tg_model.specs.declared.command.Event.TheVariants.{Command as Commands, Deliver}
use Rattle.tg_codec.specs.Reading.{u8_at, u16_at, u32_at, u64_at, raw_at, fixed_at}
use Rattle.tg_codec.specs.Codec.{read_many, spell_many, fit_many}
use Rattle.tg_entry.specs.Reads.{marks, reads}
use Rattle.tg_entry.specs.Writes.{writes}
use Rattle.tg_entry.specs.Checkpoints.{keys, new_fields, old_fields}
use Rattle.tg_entry.specs.Format.{body, entry}
use Rattle.tg_base.specs.Orders.{node_eq}
use Rattle.tg_protocol.specs.Words.{bytes_eq, bytes_lt, part_lt, cell_eq}
use Rattle.tg_protocol.specs.Layouts.{chain_of, units_of, next_of, change_fault}
use Rattle.tg_protocol.specs.Units.{new_unit, unit_ask, first_missing, on_ask, unit_step}
use Rattle.tg_protocol.specs.LayoutServers.{new_layout, layout_ask, on_layout_ask, layout_step}
use Rattle.tg_protocol.specs.Replies.{reply}
use Rattle.tg_protocol.specs.Cells.{work_asks, put_cell, get_cell, fill_cell, probe, work_feed, cell_feed}
use Rattle.tg_entry.specs.Needs.{needs_decision}
use Rattle.tg_protocol.specs.Entries.{entry_size}
use Rattle.tg_protocol.specs.Pages.{page_of, entry_of}
use Rattle.tg_protocol.specs.Sequencers.{new_seqr, seqr_step, seqr_tick}
use Rattle.tg_protocol.specs.Appending.{append_work_asks, append_start, append_feed, append_again}
use Rattle.tg_protocol.specs.Syncing.{sync_work_asks, sync_start, sync_feed}
use Rattle.tg_protocol.specs.Walking.{walk_on, walk_start, walk_feed}
use Rattle.tg_protocol.specs.Versions.{no_versions, based, version_of, with_change, parts_of}
use Rattle.tg_protocol.specs.Views.{decision_in, view_start, view_version, view_parts, unknown_in, changed_in, verdict, view_outcome, step_at, play_on, play, Entries}
use Rattle.tg_protocol.specs.Transactions.{read_fault, write_fault, commit_record}
use Rattle.tg_protocol.specs.Checkpoints.{open_decision, checkpoint, bases_in, load_from, view_base, view_bases, may_forget}
use Rattle.tg_protocol.specs.Past.{commit_at, past_at, rescue_turn}
use Rattle.tg_protocol.specs.Trimming.{trim_start, trim_feed, copy_work_asks, copy_start, copy_feed}
use Rattle.tg_protocol.specs.Reconfiguring.{reconf_work_asks, reconf_start, reconf_feed, reconf_latest}
use Rattle.tg_protocol.specs.Clients.{new_client, entries_at, copy_fault, tests, refusal, write_of}
use Rattle.tg_protocol.specs.Answers.{appends, syncs, walked}
use Rattle.tg_protocol.specs.ClientSteps.{task_asks, client_asks, walks, task_feed, task_again, accepts, client_command, client_deliver, client_tick}
use Rattle.tg_protocol.specs.Sizes.{fields_size}
use Rattle.tg_protocol.specs.Logs.{decided, newest, log_of, entries_of, members, path_on, path, changes_below, version, outcome, history_of}
use Rattle.tg_law_examples.proofs.SevenKinds.{kinds}
use Rattle.tg_law_examples.proofs.SevenKinds as kind
use Rattle.tg_law_examples.proofs.Shown.{obj}
use Rattle.tg_protocol.specs.Worlds.{World, start, latest, log, history, unit_moves, layout_moves, seqr_moves, client_turned, happens, limit_of, drain_on, drain, tick_all, rounds, settle, line, lines}
use Rattle.tg_protocol.specs.Runs.{Move, Moves, Next, Takes, LawfulMove, run, Reaches, most_steps}
use Rattle.tg_protocol.specs.Holding.{EntriesOnce}
use Rattle.tg_law_examples.proofs.First.{two_updates_header}
use Rattle.tg_model.specs.Stores.{store_after, changed}
use Rattle.tg_model.specs.Traces.{puts_of}
use Rattle.tg_model.specs.Verdicts.{asks_in, bound_in, entries_fault, replies_fault, fault}
use Rattle.tg_protocol.specs.Headline.{Holds}
use Rattle.tg_law_verdicts.proofs.Members.{Has, has_contained}
use Rattle.tg_law_instances.proofs.HeadlineSound.{holds_sound}
use Rattle.tg_law_instances.proofs.Tests.{world_fails}

-- A run.

o : Oid
o = obj 16777216

abbrev moves : Moves kinds
moves =
    Next ∷ Takes (Commands 0 cmd.Begin) ∷ Takes (Commands 0 (cmd.Put (obj 16777216) (kind.Add (pos 5)))) ∷ Takes (Commands 0 cmd.End) ∷
    Next ∷ Takes (Commands 1 cmd.Begin) ∷ Takes (Commands 1 (cmd.Put (obj 16777216) (kind.Add (pos 7)))) ∷ Takes (Commands 1 cmd.End) ∷
    Next ∷ Takes (Deliver 0) ∷ Next ∷ Takes (Deliver 1) ∷ Next ∷ Takes (Deliver 2) ∷ Next ∷ Takes (Deliver 3) ∷
    Next ∷ Takes (Deliver 5) ∷ Next ∷ Takes (Deliver 6) ∷ Next ∷ Takes (Deliver 4) ∷ Next ∷ Takes (Deliver 7) ∷ []

abbrev world : World kinds
world = run kinds moves (start kinds two_updates_header)

AllLawful : Header → Moves kinds → Type 0
AllLawful h [] = Unit {0}
AllLawful h (x ∷ xs) = LawfulMove kinds h x × AllLawful h xs

each_lawful : (h : Header) (ms : Moves kinds) → AllLawful h ms → (x : Move kinds) → Has ms x → LawfulMove kinds h x
unfolding AllLawful
each_lawful h [] l x i = absurd i
each_lawful h (y ∷ ys) l x (inl e) = subst (λ z. LawfulMove kinds h z) (sym e) l.0
each_lawful h (y ∷ ys) l x (inr i) = each_lawful h ys l.1 x i

are_lawful : AllLawful two_updates_header moves
unfolding AllLawful bytes_eq bytes_lt
are_lawful = (
  tt,
  (
    (omega arith, tt),
    (
      (omega arith, (refl, λ a short. record { read = refl; fits = refl })),
      (
        (omega arith, tt),
        (
          tt,
          (
            (omega arith, tt),
            (
              (omega arith, (refl, λ a short. record { read = refl; fits = refl })),
              (
                (omega arith, tt),
                (tt, (tt, (tt, (tt, (tt, (tt, (tt, (tt, (tt, (tt, (tt, (tt, (tt, (tt, (tt, (tt, tt)))))))))))))))),
              ),
            ),
          ),
        ),
      ),
    ),
  ),
)

steps_are : world.steps ≡ 14
unfolding u8_at u16_at u32_at u64_at raw_at fixed_at read_many spell_many fit_many marks reads writes keys new_fields old_fields body entry node_eq bytes_eq bytes_lt part_lt cell_eq chain_of units_of next_of change_fault new_unit unit_ask first_missing on_ask unit_step new_layout layout_ask on_layout_ask layout_step reply work_asks put_cell get_cell fill_cell probe work_feed cell_feed entry_size needs_decision page_of entry_of new_seqr seqr_step seqr_tick append_work_asks append_start append_feed append_again sync_work_asks sync_start sync_feed walk_on walk_start walk_feed no_versions based version_of with_change parts_of decision_in view_start view_version view_parts unknown_in changed_in verdict view_outcome step_at play_on play read_fault write_fault commit_record open_decision checkpoint bases_in load_from view_base view_bases may_forget commit_at past_at rescue_turn trim_start trim_feed copy_work_asks copy_start copy_feed reconf_work_asks reconf_start reconf_feed reconf_latest new_client entries_at copy_fault tests refusal appends syncs walked task_asks client_asks walks task_feed task_again accepts client_command client_deliver client_tick fields_size decided newest log_of entries_of members path_on path changes_below version outcome history_of start latest log history unit_moves layout_moves seqr_moves client_turned happens limit_of drain_on drain tick_all rounds settle line lines run
steps_are = refl

header_is : IsHeader two_updates_header
header_is = refl

-- the worked run is one that reaches its world
reaches : Reaches kinds two_updates_header moves world
unfolding start
reaches = record {
  header = header_is;
  goes = record { lawful = λ x c. each_lawful two_updates_header moves are_lawful x (has_contained moves x c); is = refl; few = subst (λ n. n ≤ most_steps) (sym steps_are) (omega arith) };
}

-- and of that world the headline holds

passes : world_fails world ≡ []
unfolding u8_at u16_at u32_at u64_at raw_at fixed_at read_many spell_many fit_many marks reads writes keys new_fields old_fields body entry node_eq bytes_eq bytes_lt part_lt cell_eq chain_of units_of next_of change_fault new_unit unit_ask first_missing on_ask unit_step new_layout layout_ask on_layout_ask layout_step reply work_asks put_cell get_cell fill_cell probe work_feed cell_feed entry_size needs_decision page_of entry_of new_seqr seqr_step seqr_tick append_work_asks append_start append_feed append_again sync_work_asks sync_start sync_feed walk_on walk_start walk_feed no_versions based version_of with_change parts_of decision_in view_start view_version view_parts unknown_in changed_in verdict view_outcome step_at play_on play read_fault write_fault commit_record open_decision checkpoint bases_in load_from view_base view_bases may_forget commit_at past_at rescue_turn trim_start trim_feed copy_work_asks copy_start copy_feed reconf_work_asks reconf_start reconf_feed reconf_latest new_client entries_at copy_fault tests refusal appends syncs walked task_asks client_asks walks task_feed task_again accepts client_command client_deliver client_tick fields_size decided newest log_of entries_of members path_on path changes_below version outcome history_of start latest log history unit_moves layout_moves seqr_moves client_turned happens limit_of drain_on drain tick_all rounds settle line lines run store_after changed puts_of asks_in bound_in entries_fault replies_fault fault world_fails
passes = refl

holds : Holds kinds world
holds = holds_sound world passes

clash : (a b : ℕ) → a < b → a ≡ b → ⊥
clash a b less e = omega (arith, less, e)

-- Its log.

abbrev entry_by : ℕ → ℕ → List StreamLink → Entry
entry_by k n links = record {
  head = record { format = 2; client = k; number = 1; streams = links };
  body = Commit [] (write_of kinds (obj 16777216) (kind.Add (pos n)) ∷ []);
}

abbrev first : Entry
first = entry_by 0 5 (record { oid = obj 16777216; backs = [] } ∷ [])

abbrev second : Entry
second = entry_by 1 7 (record { oid = obj 16777216; backs = 0 ∷ [] } ∷ [])

entries_are : entries_of (log kinds world) ≡ (0, first) ∷ (1, second) ∷ []
unfolding u8_at u16_at u32_at u64_at raw_at fixed_at read_many spell_many fit_many marks reads writes keys new_fields old_fields body entry node_eq bytes_eq bytes_lt part_lt cell_eq chain_of units_of next_of change_fault new_unit unit_ask first_missing on_ask unit_step new_layout layout_ask on_layout_ask layout_step reply work_asks put_cell get_cell fill_cell probe work_feed cell_feed entry_size needs_decision page_of entry_of new_seqr seqr_step seqr_tick append_work_asks append_start append_feed append_again sync_work_asks sync_start sync_feed walk_on walk_start walk_feed no_versions based version_of with_change parts_of decision_in view_start view_version view_parts unknown_in changed_in verdict view_outcome step_at play_on play read_fault write_fault commit_record open_decision checkpoint bases_in load_from view_base view_bases may_forget commit_at past_at rescue_turn trim_start trim_feed copy_work_asks copy_start copy_feed reconf_work_asks reconf_start reconf_feed reconf_latest new_client entries_at copy_fault tests refusal appends syncs walked task_asks client_asks walks task_feed task_again accepts client_command client_deliver client_tick fields_size decided newest log_of entries_of members path_on path changes_below version outcome history_of start latest log history unit_moves layout_moves seqr_moves client_turned happens limit_of drain_on drain tick_all rounds settle line lines run
entries_are = refl

abbrev two : Entries
two = (0, first) ∷ (1, second) ∷ []

position_is : (x y : ℕ × Entry) → x ≡ y → x.0 ≡ y.0
position_is x y e = ap (λ (z : ℕ × Entry). z.0) e

client_is : (x y : ℕ × Entry) → x ≡ y → x.1.head.client ≡ y.1.head.client
client_is x y e = ap (λ (z : ℕ × Entry). z.1.head.client) e

once_by : (p q : ℕ) (e f : Entry) → Has {X = ℕ × Entry} two (p, e) → Has {X = ℕ × Entry} two (q, f) → e.head.client ≡ f.head.client → p ≡ q
once_by p q e f (inl a) (inl b) c = position_is (p, e) (0, first) a ∙ sym (position_is (q, f) (0, first) b)
once_by p q e f (inl a) (inr (inl b)) c = absurd (clash 0 1 (omega arith) (sym (client_is (p, e) (0, first) a) ∙ c ∙ client_is (q, f) (1, second) b))
once_by p q e f (inr (inl a)) (inl b) c = absurd (clash 0 1 (omega arith) (sym (client_is (q, f) (0, first) b) ∙ sym c ∙ client_is (p, e) (1, second) a))
once_by p q e f (inr (inl a)) (inr (inl b)) c = position_is (p, e) (1, second) a ∙ sym (position_is (q, f) (1, second) b)
once_by p q e f (inr (inr a)) j c = absurd a
once_by p q e f (inl a) (inr (inr b)) c = absurd b
once_by p q e f (inr (inl a)) (inr (inr b)) c = absurd b

-- no two entries of it are the same one's
once : EntriesOnce kinds world
once p q e f he hf c t n =
    let i = has_contained {X = ℕ × Entry} two (p, e) (subst (λ (es : Entries). Contains {X = ℕ × Entry} es (p, e)) entries_are he) in
    let j = has_contained {X = ℕ × Entry} two (q, f) (subst (λ (es : Entries). Contains {X = ℕ × Entry} es (q, f)) entries_are hf) in
    once_by p q e f i j c

-- Where the second page stands once more, the statement fails.

abbrev doubled : World kinds
doubled = record world { archive = (5, Data (page_of second)) ∷ [] }

entries_doubled : entries_of (log kinds doubled) ≡ (0, first) ∷ (1, second) ∷ (5, second) ∷ []
unfolding u8_at u16_at u32_at u64_at raw_at fixed_at read_many spell_many fit_many marks reads writes keys new_fields old_fields body entry node_eq bytes_eq bytes_lt part_lt cell_eq chain_of units_of next_of change_fault new_unit unit_ask first_missing on_ask unit_step new_layout layout_ask on_layout_ask layout_step reply work_asks put_cell get_cell fill_cell probe work_feed cell_feed entry_size needs_decision page_of entry_of new_seqr seqr_step seqr_tick append_work_asks append_start append_feed append_again sync_work_asks sync_start sync_feed walk_on walk_start walk_feed no_versions based version_of with_change parts_of decision_in view_start view_version view_parts unknown_in changed_in verdict view_outcome step_at play_on play read_fault write_fault commit_record open_decision checkpoint bases_in load_from view_base view_bases may_forget commit_at past_at rescue_turn trim_start trim_feed copy_work_asks copy_start copy_feed reconf_work_asks reconf_start reconf_feed reconf_latest new_client entries_at copy_fault tests refusal appends syncs walked task_asks client_asks walks task_feed task_again accepts client_command client_deliver client_tick fields_size decided newest log_of entries_of members path_on path changes_below version outcome history_of start latest log history unit_moves layout_moves seqr_moves client_turned happens limit_of drain_on drain tick_all rounds settle line lines run
entries_doubled = refl

not_once : EntriesOnce kinds doubled → ⊥
not_once h =
    let a = subst (λ (es : Entries). Contains {X = ℕ × Entry} es (1, second)) (sym entries_doubled) (1, omega arith, refl) in
    let b = subst (λ (es : Entries). Contains {X = ℕ × Entry} es (5, second)) (sym entries_doubled) (2, omega arith, refl) in
    clash 1 5 (omega arith) (h 1 5 second second a b refl refl refl)
