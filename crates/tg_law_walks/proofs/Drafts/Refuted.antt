-- A run in whose log a checkpoint is read as none that its client had begun to append: computed.
use Rattle.std.proofs.Common.{◌≡◌, ◌⊎◌, ℕ, zero, suc, ◌≤◌, List, [], ◌∷◌, ◌++◌, Bool, true, false, ◌&&◌, refl, sym, ap, ◌∙◌, subst, inl, inr, arith, Option, Some, None}
use Rattle.tg_codec.specs.Reading.{u8_at, u16_at, u32_at, u64_at, raw_at, fixed_at}
use Rattle.tg_codec.specs.Codec.{read_many, spell_many, fit_many}
use Rattle.tg_entry.specs.Reads.{marks, reads}
use Rattle.tg_entry.specs.Writes.{writes}
use Rattle.tg_entry.specs.Checkpoints.{keys, new_fields, old_fields}
use Rattle.tg_entry.specs.Format.{body, entry}
use Rattle.tg_base.specs.Orders.{node_eq}
use Rattle.tg_protocol.specs.Words.{directory, bytes_eq, bytes_lt, part_lt, cell_eq}
use Rattle.tg_protocol.specs.Layouts.{chain_of, units_of, next_of, change_fault}
use Rattle.tg_protocol.specs.Units.{new_unit, unit_ask, first_missing, on_ask, unit_step}
use Rattle.tg_protocol.specs.LayoutServers.{new_layout, layout_ask, on_layout_ask, layout_step}
use Rattle.tg_protocol.specs.Replies.{reply}
use Rattle.tg_protocol.specs.Cells.{work_asks, put_cell, get_cell, fill_cell, probe, work_feed, cell_feed}
use Rattle.tg_entry.specs.Needs.{needs_decision}
use Rattle.tg_protocol.specs.Entries.{entry_size}
use Rattle.tg_protocol.specs.Pages.{page_of, entry_of}
use Rattle.tg_protocol.specs.Sequencers.{new_seqr, seqr_step, seqr_tick}
use Rattle.tg_protocol.specs.Appending.{append_work_asks, append_start, append_feed, append_again, Append}
use Rattle.tg_protocol.specs.Syncing.{sync_work_asks, sync_start, sync_feed}
use Rattle.tg_protocol.specs.Walking.{walk_on, walk_start, walk_feed}
use Rattle.tg_protocol.specs.Versions.{no_versions, based, version_of, with_change, parts_of}
use Rattle.tg_protocol.specs.Views.{decision_in, view_start, view_version, view_parts, unknown_in, changed_in, verdict, view_outcome, step_at, play_on, play}
use Rattle.tg_protocol.specs.Transactions.{read_fault, write_fault, commit_record}
use Rattle.tg_protocol.specs.Checkpoints.{open_decision, checkpoint, bases_in, load_from, view_base, view_bases, may_forget}
use Rattle.tg_protocol.specs.Past.{commit_at, past_at, rescue_turn}
use Rattle.tg_protocol.specs.Trimming.{trim_start, trim_feed, copy_work_asks, copy_start, copy_feed}
use Rattle.tg_protocol.specs.Reconfiguring.{reconf_work_asks, reconf_start, reconf_feed, reconf_latest}
use Rattle.tg_protocol.specs.Clients.{new_client, entries_at, copy_fault, tests, refusal}
use Rattle.tg_protocol.specs.Answers.{appends, syncs, walked}
use Rattle.tg_protocol.specs.ClientSteps.{task_asks, client_asks, walks, task_feed, task_again, accepts, client_command, client_deliver, client_tick}
use Rattle.tg_protocol.specs.Sizes.{fields_size}
use Rattle.tg_protocol.specs.Logs.{decided, newest, log_of, entries_of, members, path_on, path, changes_below, version, outcome, history_of}
use Rattle.tg_model.specs.declared.command.Command.TheVariants as cmd
use Rattle.tg_model.specs.declared.command.Event.TheVariants.{Command as Commands, Deliver}
use Rattle.tg_protocol.specs.Worlds.{World, start, latest, log, history, unit_moves, layout_moves, seqr_moves, client_turned, happens, limit_of, drain_on, drain, tick_all, rounds, settle, line, lines, lowest, next_event, client}
use Rattle.tg_protocol.specs.Runs.{Move, Moves, Next, Takes, LawfulMove, run, Reaches}
use Rattle.tg_law_layouts.proofs.Moves.Lists.{contained}
use Rattle.tg_law_layouts.proofs.Moves.Members.{Has, has_contained, has_either}
use Rattle.tg_base.specs.declared.marks.Part.{Part}
use Rattle.tg_base.specs.declared.marks.Part.TheVariants.{Num}
use Rattle.tg_entry.specs.declared.entry.Body.{Body}
use Rattle.tg_entry.specs.declared.entry.Body.TheVariants.{Checkpoint}
use Rattle.tg_entry.specs.declared.entry.Entry.{Entry}
use Rattle.tg_protocol.specs.Holding.{append_by, WasBegun}
use Rattle.std.specs.Prelude.{not, ◌==◌, Contains}
use Rattle.tg_law_cells.specs.Entries.Worked.{two_units}
use Rattle.tg_law_walks.specs.Drafts.Refuted.{far_tallies, far_drained, far_drains, far_committed, far_saved, CheckpointsWantParts}

-- The run is one.

LawfulFar : Moves far_tallies → Type 0
LawfulFar ms = (x : Move far_tallies) → Has ms x → LawfulMove far_tallies two_units x

lawful_drain : (n : ℕ) (w : World far_tallies) → LawfulFar (far_drained n w)
unfolding LawfulFar far_drained
lawful_drain zero w x g = absurd g
lawful_drain (suc n) w x g = by (lowest far_tallies w.waiting) g (λ i k. lawful_drain n (happens far_tallies w (Deliver i)) x k)
  where
    by : (o : Option ℕ) → Has (elim o as (λ _. Moves far_tallies) [ None ↦ [] | Some i ↦ Takes (Deliver i) ∷ far_drained n (happens far_tallies w (Deliver i)) ]) x
        → ((i : ℕ) → Has (far_drained n (happens far_tallies w (Deliver i))) x → LawfulMove far_tallies two_units x) → LawfulMove far_tallies two_units x
    by None g rest = absurd g
    by (Some i) (inl s) rest = subst (λ (y : Move far_tallies). LawfulMove far_tallies two_units y) (sym s) tt
    by (Some i) (inr k) rest = rest i k

lawful_both : (xs ys : Moves far_tallies) → LawfulFar xs → LawfulFar ys → LawfulFar (xs ++ ys)
unfolding LawfulFar
lawful_both xs ys f g x i = by (has_either xs ys x i)
  where
    by : Has xs x ⊎ Has ys x → LawfulMove far_tallies two_units x
    by (inl k) = f x k
    by (inr k) = g x k

drains_lawful : (ms more : Moves far_tallies) → LawfulFar ms → LawfulFar more → LawfulFar (far_drains ms more)
drains_lawful ms more f g = lawful_both (ms ++ more) (far_drained 100 (run far_tallies (ms ++ more) (start far_tallies two_units))) (lawful_both ms more f g) (lawful_drain 100 (run far_tallies (ms ++ more) (start far_tallies two_units)))

is_lawful : (x y : Move far_tallies) → x ≡ y → LawfulMove far_tallies two_units y → LawfulMove far_tallies two_units x
is_lawful x y e l = subst (λ (z : Move far_tallies). LawfulMove far_tallies two_units z) (sym e) l

lawful_none : LawfulFar []
unfolding LawfulFar
lawful_none x g = absurd g

lawful_commit : LawfulFar (Takes (Commands 0 cmd.Begin) ∷ Takes (Commands 0 (cmd.Put directory 1)) ∷ Takes (Commands 0 cmd.End) ∷ [])
unfolding LawfulFar
lawful_commit x (inl e) = is_lawful x _ e (omega arith, tt)
lawful_commit x (inr (inl e)) = is_lawful x _ e (omega arith, (refl, λ allowed short. record { read = refl; fits = refl }))
lawful_commit x (inr (inr (inl e))) = is_lawful x _ e (omega arith, tt)
lawful_commit x (inr (inr (inr i))) = absurd i

lawful_save : LawfulFar (Takes (Commands 0 (cmd.Host directory)) ∷ Takes (Commands 0 (cmd.Checkpoint directory)) ∷ [])
unfolding LawfulFar
lawful_save x (inl e) = is_lawful x _ e (omega arith, refl)
lawful_save x (inr (inl e)) = is_lawful x _ e (omega arith, refl)
lawful_save x (inr (inr i)) = absurd i

lawful_run : LawfulFar far_saved
lawful_run = drains_lawful far_committed _ (drains_lawful [] _ lawful_none lawful_commit) lawful_save

few_steps : (run far_tallies far_saved (start far_tallies two_units)).steps ≤ 1000
unfolding run far_drained u8_at u16_at u32_at u64_at raw_at fixed_at read_many spell_many fit_many marks reads writes keys new_fields old_fields body entry node_eq bytes_eq bytes_lt part_lt cell_eq chain_of units_of next_of change_fault new_unit unit_ask first_missing on_ask unit_step new_layout layout_ask on_layout_ask layout_step reply work_asks put_cell get_cell fill_cell probe work_feed cell_feed entry_size needs_decision page_of entry_of new_seqr seqr_step seqr_tick append_work_asks append_start append_feed append_again sync_work_asks sync_start sync_feed walk_on walk_start walk_feed no_versions based version_of with_change parts_of decision_in view_start view_version view_parts unknown_in changed_in verdict view_outcome step_at play_on play read_fault write_fault commit_record open_decision checkpoint bases_in load_from view_base view_bases may_forget commit_at past_at rescue_turn trim_start trim_feed copy_work_asks copy_start copy_feed reconf_work_asks reconf_start reconf_feed reconf_latest new_client entries_at copy_fault tests refusal appends syncs walked task_asks client_asks walks task_feed task_again accepts client_command client_deliver client_tick fields_size decided newest log_of entries_of members path_on path changes_below version outcome history_of start latest log history unit_moves layout_moves seqr_moves client_turned happens limit_of drain_on drain tick_all rounds settle line lines
few_steps = omega arith

reaches : Reaches far_tallies two_units far_saved (run far_tallies far_saved (start far_tallies two_units))
unfolding LawfulFar start
reaches = record { header = refl; goes = record { lawful = λ x i. lawful_run x (has_contained far_saved x i); is = refl; few = (let a = few_steps in omega (arith, a)) } }

-- No checkpoint that the client had begun names the part 0, and the one that is read does.

near : Part → Bool
near (Num n) = n == 0
near p = false

near_keys : List (Part × ℕ) → Bool
near_keys [] = false
near_keys (k ∷ ks) = near k.0

near_body : Body → Bool
near_body (Checkpoint o u v w ks s) = near_keys ks
near_body b = false

near_append : Option Append → Bool
near_append None = false
near_append (Some a) = near_body a.draft.body

held : World far_tallies → Bool
held w = near_append (append_by far_tallies (client far_tallies w 0).work)

never_on : Moves far_tallies → World far_tallies → Bool
never_on [] w = not (held w)
never_on (Next ∷ ms) w = not (held w) && never_on ms (next_event far_tallies w)
never_on (Takes e ∷ ms) w = not (held w) && never_on ms (happens far_tallies w e)

both : (a b : Bool) → (a && b) ≡ true → (a ≡ true) × (b ≡ true)
both true b e = (refl, e)
both false b e = absurd (cc)

not_true : (b : Bool) → not b ≡ true → b ≡ false
not_true true e = absurd (cc)
not_true false e = refl

first : (ms : Moves far_tallies) (w : World far_tallies) → never_on ms w ≡ true → held w ≡ false
unfolding never_on
first [] w h = not_true (held w) h
first (Next ∷ ms) w h = not_true (held w) (both (not (held w)) (never_on ms (next_event far_tallies w)) h).0
first (Takes e ∷ ms) w h = not_true (held w) (both (not (held w)) (never_on ms (happens far_tallies w e)) h).0

never_at : (before after : Moves far_tallies) (w : World far_tallies) → never_on (before ++ after) w ≡ true → held (run far_tallies before w) ≡ false
unfolding run never_on
never_at [] after w h = first after w h
never_at (Next ∷ before) after w h = never_at before after (next_event far_tallies w) (both (not (held w)) (never_on (before ++ after) (next_event far_tallies w)) h).1
never_at (Takes e ∷ before) after w h = never_at before after (happens far_tallies w e) (both (not (held w)) (never_on (before ++ after) (happens far_tallies w e)) h).1

never : never_on far_saved (start far_tallies two_units) ≡ true
unfolding never_on held near_append near_body near_keys near run far_drained u8_at u16_at u32_at u64_at raw_at fixed_at read_many spell_many fit_many marks reads writes keys new_fields old_fields body entry node_eq bytes_eq bytes_lt part_lt cell_eq chain_of units_of next_of change_fault new_unit unit_ask first_missing on_ask unit_step new_layout layout_ask on_layout_ask layout_step reply work_asks put_cell get_cell fill_cell probe work_feed cell_feed entry_size needs_decision page_of entry_of new_seqr seqr_step seqr_tick append_work_asks append_start append_feed append_again sync_work_asks sync_start sync_feed walk_on walk_start walk_feed no_versions based version_of with_change parts_of decision_in view_start view_version view_parts unknown_in changed_in verdict view_outcome step_at play_on play read_fault write_fault commit_record open_decision checkpoint bases_in load_from view_base view_bases may_forget commit_at past_at rescue_turn trim_start trim_feed copy_work_asks copy_start copy_feed reconf_work_asks reconf_start reconf_feed reconf_latest new_client entries_at copy_fault tests refusal appends syncs walked task_asks client_asks walks task_feed task_again accepts client_command client_deliver client_tick fields_size decided newest log_of entries_of members path_on path changes_below version outcome history_of start latest log history unit_moves layout_moves seqr_moves client_turned happens limit_of drain_on drain tick_all rounds settle line lines
never = refl

two_entries : (a : Entry) × (b : Entry) × (entries_of (log far_tallies (run far_tallies far_saved (start far_tallies two_units))) ≡ (0, a) ∷ (1, b) ∷ []) × ((near_body b.body ≡ true) × (b.head.client ≡ 0))
unfolding near_body near_keys near run far_drained u8_at u16_at u32_at u64_at raw_at fixed_at read_many spell_many fit_many marks reads writes keys new_fields old_fields body entry node_eq bytes_eq bytes_lt part_lt cell_eq chain_of units_of next_of change_fault new_unit unit_ask first_missing on_ask unit_step new_layout layout_ask on_layout_ask layout_step reply work_asks put_cell get_cell fill_cell probe work_feed cell_feed entry_size needs_decision page_of entry_of new_seqr seqr_step seqr_tick append_work_asks append_start append_feed append_again sync_work_asks sync_start sync_feed walk_on walk_start walk_feed no_versions based version_of with_change parts_of decision_in view_start view_version view_parts unknown_in changed_in verdict view_outcome step_at play_on play read_fault write_fault commit_record open_decision checkpoint bases_in load_from view_base view_bases may_forget commit_at past_at rescue_turn trim_start trim_feed copy_work_asks copy_start copy_feed reconf_work_asks reconf_start reconf_feed reconf_latest new_client entries_at copy_fault tests refusal appends syncs walked task_asks client_asks walks task_feed task_again accepts client_command client_deliver client_tick fields_size decided newest log_of entries_of members path_on path changes_below version outcome history_of start latest log history unit_moves layout_moves seqr_moves client_turned happens limit_of drain_on drain tick_all rounds settle line lines
two_entries = (_, _, refl, (refl, refl))

not_both : (b : Bool) → b ≡ true → b ≡ false → ⊥
not_both b e f = cc

pub checkpoints_want_parts : CheckpointsWantParts
unfolding held near_append
checkpoints_want_parts f = by two_entries
  where
    by : (a : Entry) × (b : Entry) × (entries_of (log far_tallies (run far_tallies far_saved (start far_tallies two_units))) ≡ (0, a) ∷ (1, b) ∷ []) × ((near_body b.body ≡ true) × (b.head.client ≡ 0)) → ⊥
    by x = not_both (held g.at) near_one (ap held g.passed.is ∙ never_at g.passed.before g.passed.after (start far_tallies two_units) (subst (λ (ms : Moves far_tallies). never_on ms (start far_tallies two_units) ≡ true) g.passed.split never))
      where
        g : WasBegun far_tallies two_units far_saved x.1
        g = f two_units far_saved _ reaches 1 x.1 (subst (λ (es : List (ℕ × Entry)). Contains es (1, x.1)) (sym x.2) (contained {X = ℕ × Entry} ((0, x.0) ∷ (1, x.1) ∷ []) (1, x.1) (inr (inl refl))))

        begun : append_by far_tallies (client far_tallies g.at 0).work ≡ Some g.append
        begun = subst (λ (k : ℕ). append_by far_tallies (client far_tallies g.at k).work ≡ Some g.append) x.3.1 g.begun

        near_one : held g.at ≡ true
        near_one = ap near_append begun ∙ (sym (ap (λ (e : Entry). near_body e.body) g.draft) ∙ x.3.0)
