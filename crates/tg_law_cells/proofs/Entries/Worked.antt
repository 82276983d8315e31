-- The premises of the laws on the archive hold of a run that trims: computed.
use Rattle.std.proofs.Common.{◌≡◌, ◌⊎◌, ℕ, zero, suc, ◌<◌, ◌≤◌, List, [], ◌∷◌, ◌++◌, Bool, true, false, ◌&&◌, refl, sym, ap, ◌∙◌, subst, inl, inr, arith, Option, Some, None}
use Rattle.std.specs.Prelude.{is_some}
use Rattle.std.specs.List.{list_all}
use Rattle.tg_codec.specs.Reading.{u8_at, u16_at, u32_at, u64_at, raw_at, fixed_at}
use Rattle.tg_codec.specs.Codec.{read_many, spell_many, fit_many}
use Rattle.tg_entry.specs.Reads.{marks, reads}
use Rattle.tg_entry.specs.Writes.{writes}
use Rattle.tg_entry.specs.Checkpoints.{keys, new_fields, old_fields}
use Rattle.tg_entry.specs.Format.{body, entry}
use Rattle.tg_base.specs.Orders.{node_eq}
use Rattle.tg_protocol.specs.Words.{cell_at, client_id, directory, bytes_eq, bytes_lt, part_lt, cell_eq}
use Rattle.tg_protocol.specs.Layouts.{chain_of, units_of, next_of, change_fault}
use Rattle.tg_protocol.specs.Units.{new_unit, unit_ask, first_missing, on_ask, unit_step}
use Rattle.tg_protocol.specs.LayoutServers.{new_layout, layout_ask, on_layout_ask, layout_step}
use Rattle.tg_protocol.specs.Replies.{reply}
use Rattle.tg_protocol.specs.Cells.{work_asks, put_cell, get_cell, fill_cell, probe, work_feed, cell_feed}
use Rattle.tg_entry.specs.Needs.{needs_decision}
use Rattle.tg_protocol.specs.Entries.{entry_size}
use Rattle.tg_protocol.specs.Pages.{page_of, entry_of}
use Rattle.tg_protocol.specs.Sequencers.{new_seqr, seqr_step, seqr_tick}
use Rattle.tg_protocol.specs.Appending.{append_work_asks, append_start, append_feed, append_again}
use Rattle.tg_protocol.specs.Syncing.{sync_work_asks, sync_start, sync_feed}
use Rattle.tg_protocol.specs.Walking.{walk_on, walk_start, walk_feed}
use Rattle.tg_protocol.specs.Versions.{no_versions, based, version_of, with_change, parts_of}
use Rattle.tg_protocol.specs.Views.{decision_in, view_start, view_version, view_parts, unknown_in, changed_in, verdict, view_outcome, step_at, play_on, play}
use Rattle.tg_protocol.specs.Transactions.{read_fault, write_fault, commit_record}
use Rattle.tg_protocol.specs.Checkpoints.{open_decision, checkpoint, bases_in, load_from, view_base, view_bases, may_forget}
use Rattle.tg_protocol.specs.Past.{commit_at, past_at, rescue_turn}
use Rattle.tg_protocol.specs.Trimming.{trim_start, trim_feed, copy_work_asks, copy_start, copy_feed}
use Rattle.tg_protocol.specs.Reconfiguring.{reconf_work_asks, reconf_start, reconf_feed, reconf_latest}
use Rattle.tg_protocol.specs.Clients.{new_client, entries_at, copy_fault, tests, refusal}
use Rattle.tg_protocol.specs.Answers.{appends, syncs, walked}
use Rattle.tg_protocol.specs.ClientSteps.{task_asks, client_asks, walks, task_feed, task_again, accepts, client_command, client_deliver, client_tick}
use Rattle.tg_protocol.specs.Sizes.{fields_size}
use Rattle.tg_protocol.specs.Logs.{decided, newest, log_of, entries_of, members, path_on, path, changes_below, version, outcome, history_of}
use Rattle.tg_base.specs.Clusters.{Header}
use Rattle.tg_base.specs.declared.cell.Cell.{Cell}
use Rattle.tg_base.specs.declared.msg.Msg.{Msg}
use Rattle.tg_base.specs.declared.msg.Msg.TheVariants as msg
use Rattle.tg_base.specs.declared.packet.Packet.{Packet}
use Rattle.tg_kind.specs.Meaning.{Meaning}
use Rattle.tg_model.specs.declared.command.Command.TheVariants as cmd
use Rattle.tg_model.specs.declared.command.Event.TheVariants.{Command as Commands, Deliver, Tick}
use Rattle.tg_model.specs.Kinds.{EventOf}
use Rattle.tg_protocol.specs.Worlds.{World, start, latest, log, history, unit_moves, layout_moves, seqr_moves, client_turned, happens, limit_of, drain_on, drain, tick_all, rounds, settle, line, lines, lowest, next_event}
use Rattle.tg_protocol.specs.Runs.{Move, Moves, Next, Takes, LawfulMove, run}
use Rattle.tg_protocol.specs.Holding.{HasCell}
use Rattle.tg_law_layouts.proofs.Moves.Lists.{contained}
use Rattle.tg_law_layouts.proofs.Moves.Members.{Has, has_contained, has_either}
use Rattle.tg_law_cells.specs.Entries.Archive.{TrimsSafely, TrimsWereSafe}
use Rattle.tg_law_cells.specs.Entries.Worked.{tallies, two_units, drained, and_drains, committed, reconfigured, asked_again, trimmed, WorkedTrim}
use Rattle.tg_law_cells.proofs.Entries.Lists.{read_has}

-- Whether trims are safe, by computing.

module _ (m : Meaning) where
  unfoldable pub has_below : World m → ℕ → Bool
  has_below w zero = true
  has_below w (suc n) = is_some (cell_at (log m w) n) && has_below w n

  unfoldable pub trims_in_log : World m → Msg → Bool
  trims_in_log w (msg.Trim e b) = has_below w b
  trims_in_log w x = true

  unfoldable pub is_safe : World m → World m → Bool
  unfolding trims_in_log
  is_safe w v = list_all (λ (p : Packet). trims_in_log w p.msg) v.packets

  unfoldable pub safe_then : World m → World m → (World m → Bool) → Bool
  safe_then w v rest = is_safe w v && rest v

  unfoldable pub safe_on : Moves m → World m → Bool
  unfolding safe_then
  safe_on [] w = true
  safe_on (Next ∷ ms) w = safe_on ms (next_event m w)
  safe_on (Takes e ∷ ms) w = safe_then w (happens m w e) (λ (v : World m). safe_on ms v)

  both : (a b : Bool) → (a && b) ≡ true → (a ≡ true) × (b ≡ true)
  both true b e = (refl, e)
  both false b e = absurd (cc)

  each : (f : Packet → Bool) (xs : List Packet) (x : Packet) → list_all f xs ≡ true → Has xs x → f x ≡ true
  each f [] x e g = absurd g
  each f (y ∷ xs) x e (inl s) = ap f s ∙ (both (f y) (list_all f xs) e).0
  each f (y ∷ xs) x e (inr g) = each f xs x (both (f y) (list_all f xs) e).1 g

  cell_there : (w : World m) (p : ℕ) (o : Option Cell) → cell_at (log m w) p ≡ o → is_some o ≡ true → HasCell m w p
  cell_there w p None i e = absurd (cc)
  cell_there w p (Some c) i e = (c, contained (log m w) (p, c) (read_has (log m w) p c i))

  below_there : (w : World m) (n p : ℕ) → has_below w n ≡ true → p < n → HasCell m w p
  unfolding has_below
  below_there w zero p e l = absurd (omega (arith, l))
  below_there w (suc n) p e l = by (same_or p n l) (λ k. below_there w n p (both (is_some (cell_at (log m w) n)) (has_below w n) e).1 k)
    where
      same_or : (p n : ℕ) → p < suc n → (p ≡ n) ⊎ (p < n)
      same_or p n l = grind arith

      by : (p ≡ n) ⊎ (p < n) → (p < n → HasCell m w p) → HasCell m w p
      by (inl i) rest = subst (λ (q : ℕ). HasCell m w q) (sym i) (cell_there w n (cell_at (log m w) n) refl (both (is_some (cell_at (log m w) n)) (has_below w n) e).0)
      by (inr k) rest = rest k

  safe_there : (w v : World m) → is_safe w v ≡ true → TrimsSafely m w v
  unfolding is_safe trims_in_log
  safe_there w v e x epoch below sent is =
      inr (λ p l. below_there w below p (sym (ap (trims_in_log w) is) ∙ each (λ (y : Packet). trims_in_log w y.msg) v.packets x e (has_contained v.packets x sent)) l)

  safe_at : (before : Moves m) (e : EventOf m) (later : Moves m) (w : World m) → safe_on (before ++ Takes e ∷ later) w ≡ true → is_safe (run m before w) (happens m (run m before w) e) ≡ true
  unfolding run safe_on safe_then
  safe_at [] e later w h = (both (is_safe w (happens m w e)) _ h).0
  safe_at (Next ∷ before) e later w h = safe_at before e later (next_event m w) h
  safe_at (Takes x ∷ before) e later w h = safe_at before e later (happens m w x) (both (is_safe w (happens m w x)) _ h).1

  pub were_safe : (h : Header) (ms : Moves m) → safe_on ms (start m h) ≡ true → TrimsWereSafe m h ms
  were_safe h ms e before event later split =
      safe_there (run m before (start m h)) (happens m (run m before (start m h)) event) (safe_at before event later (start m h) (subst (λ (xs : Moves m). safe_on xs (start m h) ≡ true) split e))

-- The run.

lawful_drain : (n : ℕ) (w : World tallies) (x : Move tallies) → Has (drained n w) x → LawfulMove tallies two_units x
unfolding drained
lawful_drain zero w x g = absurd g
lawful_drain (suc n) w x g = by (lowest tallies w.waiting) g (λ i k. lawful_drain n (happens tallies w (Deliver i)) x k)
  where
    by : (o : Option ℕ) → Has (elim o as (λ _. Moves tallies) [ None ↦ [] | Some i ↦ Takes (Deliver i) ∷ drained n (happens tallies w (Deliver i)) ]) x
        → ((i : ℕ) → Has (drained n (happens tallies w (Deliver i))) x → LawfulMove tallies two_units x) → LawfulMove tallies two_units x
    by None g rest = absurd g
    by (Some i) (inl s) rest = subst (λ (y : Move tallies). LawfulMove tallies two_units y) (sym s) tt
    by (Some i) (inr k) rest = rest i k

unfoldable pub LawfulAll : Moves tallies → Type 0
LawfulAll ms = (x : Move tallies) → Has ms x → LawfulMove tallies two_units x

pub lawful_both : (xs ys : Moves tallies) → LawfulAll xs → LawfulAll ys → LawfulAll (xs ++ ys)
unfolding LawfulAll
lawful_both xs ys f g x i = by (has_either xs ys x i)
  where
    by : Has xs x ⊎ Has ys x → LawfulMove tallies two_units x
    by (inl k) = f x k
    by (inr k) = g x k

pub is_lawful : (x y : Move tallies) → x ≡ y → LawfulMove tallies two_units y → LawfulMove tallies two_units x
is_lawful x y e l = subst (λ (z : Move tallies). LawfulMove tallies two_units z) (sym e) l

lawful_commit : LawfulAll (Takes (Commands 0 cmd.Begin) ∷ Takes (Commands 0 (cmd.Put directory 1)) ∷ Takes (Commands 0 cmd.End) ∷ [])
unfolding LawfulAll
lawful_commit x (inl e) = is_lawful x _ e (omega arith, tt)
lawful_commit x (inr (inl e)) = is_lawful x _ e (omega arith, (refl, λ allowed short. record { read = refl; fits = refl }))
lawful_commit x (inr (inr (inl e))) = is_lawful x _ e (omega arith, tt)
lawful_commit x (inr (inr (inr i))) = absurd i

lawful_reconf : LawfulAll (Takes (Commands 0 (cmd.Reconf (record { seq = 1; drop = 1 ∷ []; opened = []; join = None }))) ∷ [])
unfolding LawfulAll
lawful_reconf x (inl e) = is_lawful x _ e (omega arith, refl)
lawful_reconf x (inr i) = absurd i

lawful_trim : LawfulAll (Takes (Commands 0 cmd.Trim) ∷ [])
unfolding LawfulAll
lawful_trim x (inl e) = is_lawful x _ e (omega arith, tt)
lawful_trim x (inr i) = absurd i

lawful_tick : LawfulAll (Takes (Tick (client_id 0)) ∷ [])
unfolding LawfulAll
lawful_tick x (inl e) = is_lawful x _ e (omega arith)
lawful_tick x (inr i) = absurd i

pub lawful_none : LawfulAll []
unfolding LawfulAll
lawful_none x g = absurd g

pub all_drained : (n : ℕ) (w : World tallies) → LawfulAll (drained n w)
unfolding LawfulAll
all_drained n w x g = lawful_drain n w x g

pub and_lawful : (ms more : Moves tallies) → LawfulAll ms → LawfulAll more → LawfulAll (and_drains ms more)
and_lawful ms more f g = lawful_both (ms ++ more) (drained 100 (run tallies (ms ++ more) (start tallies two_units))) (lawful_both ms more f g) (all_drained 100 (run tallies (ms ++ more) (start tallies two_units)))

pub lawful_asked : LawfulAll asked_again
lawful_asked = and_lawful reconfigured _ (and_lawful committed _ (and_lawful [] _ lawful_none lawful_commit) lawful_reconf) lawful_tick

lawful_run : LawfulAll trimmed
lawful_run = and_lawful asked_again _ lawful_asked lawful_trim

few_steps : (run tallies trimmed (start tallies two_units)).steps ≤ 1000
unfolding run drained u8_at u16_at u32_at u64_at raw_at fixed_at read_many spell_many fit_many marks reads writes keys new_fields old_fields body entry node_eq bytes_eq bytes_lt part_lt cell_eq chain_of units_of next_of change_fault new_unit unit_ask first_missing on_ask unit_step new_layout layout_ask on_layout_ask layout_step reply work_asks put_cell get_cell fill_cell probe work_feed cell_feed entry_size needs_decision page_of entry_of new_seqr seqr_step seqr_tick append_work_asks append_start append_feed append_again sync_work_asks sync_start sync_feed walk_on walk_start walk_feed no_versions based version_of with_change parts_of decision_in view_start view_version view_parts unknown_in changed_in verdict view_outcome step_at play_on play read_fault write_fault commit_record open_decision checkpoint bases_in load_from view_base view_bases may_forget commit_at past_at rescue_turn trim_start trim_feed copy_work_asks copy_start copy_feed reconf_work_asks reconf_start reconf_feed reconf_latest new_client entries_at copy_fault tests refusal appends syncs walked task_asks client_asks walks task_feed task_again accepts client_command client_deliver client_tick fields_size decided newest log_of entries_of members path_on path changes_below version outcome history_of start latest log history unit_moves layout_moves seqr_moves client_turned happens limit_of drain_on drain tick_all rounds settle line lines
few_steps = omega arith

safe_run : safe_on tallies trimmed (start tallies two_units) ≡ true
unfolding safe_on safe_then is_safe trims_in_log has_below run drained u8_at u16_at u32_at u64_at raw_at fixed_at read_many spell_many fit_many marks reads writes keys new_fields old_fields body entry node_eq bytes_eq bytes_lt part_lt cell_eq chain_of units_of next_of change_fault new_unit unit_ask first_missing on_ask unit_step new_layout layout_ask on_layout_ask layout_step reply work_asks put_cell get_cell fill_cell probe work_feed cell_feed entry_size needs_decision page_of entry_of new_seqr seqr_step seqr_tick append_work_asks append_start append_feed append_again sync_work_asks sync_start sync_feed walk_on walk_start walk_feed no_versions based version_of with_change parts_of decision_in view_start view_version view_parts unknown_in changed_in verdict view_outcome step_at play_on play read_fault write_fault commit_record open_decision checkpoint bases_in load_from view_base view_bases may_forget commit_at past_at rescue_turn trim_start trim_feed copy_work_asks copy_start copy_feed reconf_work_asks reconf_start reconf_feed reconf_latest new_client entries_at copy_fault tests refusal appends syncs walked task_asks client_asks walks task_feed task_again accepts client_command client_deliver client_tick fields_size decided newest log_of entries_of members path_on path changes_below version outcome history_of start latest log history unit_moves layout_moves seqr_moves client_turned happens limit_of drain_on drain tick_all rounds settle line lines
safe_run = refl

pub worked_trim : WorkedTrim
unfolding LawfulAll run drained u8_at u16_at u32_at u64_at raw_at fixed_at read_many spell_many fit_many marks reads writes keys new_fields old_fields body entry node_eq bytes_eq bytes_lt part_lt cell_eq chain_of units_of next_of change_fault new_unit unit_ask first_missing on_ask unit_step new_layout layout_ask on_layout_ask layout_step reply work_asks put_cell get_cell fill_cell probe work_feed cell_feed entry_size needs_decision page_of entry_of new_seqr seqr_step seqr_tick append_work_asks append_start append_feed append_again sync_work_asks sync_start sync_feed walk_on walk_start walk_feed no_versions based version_of with_change parts_of decision_in view_start view_version view_parts unknown_in changed_in verdict view_outcome step_at play_on play read_fault write_fault commit_record open_decision checkpoint bases_in load_from view_base view_bases may_forget commit_at past_at rescue_turn trim_start trim_feed copy_work_asks copy_start copy_feed reconf_work_asks reconf_start reconf_feed reconf_latest new_client entries_at copy_fault tests refusal appends syncs walked task_asks client_asks walks task_feed task_again accepts client_command client_deliver client_tick fields_size decided newest log_of entries_of members path_on path changes_below version outcome history_of start latest log history unit_moves layout_moves seqr_moves client_turned happens limit_of drain_on drain tick_all rounds settle line lines
worked_trim = record {
  reached = record {
    header = refl;
    goes = record { lawful = λ x i. lawful_run x (has_contained trimmed x i); is = refl; few = (let a = few_steps in omega (arith, a)) };
  };
  safe = were_safe tallies two_units trimmed safe_run;
  epoch = refl;
  sequencer = refl;
  low = refl;
  cells = refl;
  cell = _;
  before = refl;
  after = refl;
  archived = refl;
}
