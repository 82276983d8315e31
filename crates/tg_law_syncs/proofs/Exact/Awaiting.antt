-- The premise of exact syncs holds of a run in which a client walks: computed.
use Rattle.std.proofs.Common.{◌≡◌, ℕ, ◌≤◌, List, [], ◌∷◌, ◌++◌, Bool, true, false, ◌&&◌, refl, sym, ap, ◌∙◌, subst, inl, inr, arith, Option, Some, None, append-nil}
use Rattle.std.specs.Prelude.{Contains, nat_le}
use Rattle.std.specs.List.{list_all}
use Rattle.tg_base.specs.declared.ids.Oid.{Oid}
use Rattle.tg_base.specs.declared.msg.Msg.{Msg}
use Rattle.tg_base.specs.declared.msg.Msg.TheVariants as msg
use Rattle.tg_base.specs.declared.packet.Packet.{Packet}
use Rattle.tg_model.specs.declared.command.Command.TheVariants as cmd
use Rattle.tg_model.specs.declared.command.Event.TheVariants.{Command as Commands}
use Rattle.tg_model.specs.Kinds.{EventOf}
use Rattle.tg_codec.specs.Reading.{u8_at, u16_at, u32_at, u64_at, raw_at, fixed_at}
use Rattle.tg_codec.specs.Codec.{read_many, spell_many, fit_many}
use Rattle.tg_entry.specs.Reads.{marks, reads}
use Rattle.tg_entry.specs.Writes.{writes}
use Rattle.tg_entry.specs.Checkpoints.{keys, new_fields, old_fields}
use Rattle.tg_entry.specs.Format.{body, entry}
use Rattle.tg_base.specs.Orders.{node_eq}
use Rattle.tg_protocol.specs.Words.{directory, bytes_eq, bytes_lt, part_lt, cell_eq}
use Rattle.tg_protocol.specs.Layouts.{chain_of, units_of, next_of, change_fault}
use Rattle.tg_protocol.specs.Units.{new_unit, unit_ask, first_missing, on_ask, unit_step}
use Rattle.tg_protocol.specs.LayoutServers.{new_layout, layout_ask, on_layout_ask, layout_step}
use Rattle.tg_protocol.specs.Replies.{reply}
use Rattle.tg_protocol.specs.Cells.{work_asks, put_cell, get_cell, fill_cell, probe, work_feed, cell_feed}
use Rattle.tg_entry.specs.Needs.{needs_decision}
use Rattle.tg_protocol.specs.Entries.{entry_size}
use Rattle.tg_protocol.specs.Pages.{page_of, entry_of}
use Rattle.tg_protocol.specs.Sequencers.{new_seqr, seqr_step, seqr_tick}
use Rattle.tg_protocol.specs.Appending.{append_work_asks, append_start, append_feed, append_again}
use Rattle.tg_protocol.specs.Syncing.{sync_work_asks, sync_start, sync_feed}
use Rattle.tg_protocol.specs.Walking.{Walk, walk_on, walk_start, walk_feed}
use Rattle.tg_protocol.specs.Versions.{no_versions, based, version_of, with_change, parts_of}
use Rattle.tg_protocol.specs.Views.{decision_in, view_start, view_version, view_parts, unknown_in, changed_in, verdict, view_outcome, step_at, play_on, play}
use Rattle.tg_protocol.specs.Transactions.{read_fault, write_fault, commit_record}
use Rattle.tg_protocol.specs.Checkpoints.{open_decision, checkpoint, bases_in, load_from, view_base, view_bases, may_forget}
use Rattle.tg_protocol.specs.Past.{commit_at, past_at, rescue_turn}
use Rattle.tg_protocol.specs.Trimming.{trim_start, trim_feed, copy_work_asks, copy_start, copy_feed}
use Rattle.tg_protocol.specs.Reconfiguring.{reconf_work_asks, reconf_start, reconf_feed, reconf_latest}
use Rattle.tg_protocol.specs.Clients.{Task, Syncing, Walking, Appending, Trimming, Copying', Reconfiguring, Hand, Doing, Learning, Work, new_client, entries_at, copy_fault, tests, refusal}
use Rattle.tg_protocol.specs.Answers.{appends, syncs, walked}
use Rattle.tg_protocol.specs.ClientSteps.{task_in, task_asks, client_asks, walks, task_feed, task_again, accepts, client_command, client_deliver, client_tick}
use Rattle.tg_protocol.specs.Sizes.{fields_size}
use Rattle.tg_protocol.specs.Logs.{decided, newest, log_of, entries_of, members, path_on, path, changes_below, version, outcome, history_of}
use Rattle.tg_protocol.specs.Worlds.{World, client, start, latest, log, history, unit_moves, layout_moves, seqr_moves, client_turned, happens, limit_of, drain_on, drain, tick_all, rounds, settle, line, lines}
use Rattle.tg_protocol.specs.Runs.{Moves, Takes, Reaches, Later, run}
use Rattle.tg_law_layouts.specs.Moves.After.{after}
use Rattle.tg_law_layouts.proofs.Moves.Lists.{contained}
use Rattle.tg_law_layouts.proofs.Moves.Members.{Has, has_contained}
use Rattle.tg_law_layouts.proofs.Moves.Scripts.{run_both}
use Rattle.tg_law_layouts.proofs.Layouts.Layouts.{more}
use Rattle.tg_law_cells.specs.Entries.Archive.{TrimsWereSafe}
use Rattle.tg_law_cells.specs.Entries.Worked.{tallies, two_units, drained, committed}
use Rattle.tg_law_cells.proofs.Entries.Lists.{joined}
use Rattle.tg_law_cells.proofs.Entries.Worked.{LawfulAll, lawful_both, is_lawful, lawful_none, all_drained, and_lawful}
use Rattle.tg_law_walks.specs.Walks.Rounds.{IsAtTask, IsAtWork}
use Rattle.tg_law_walks.specs.Lists.Spared.{GoesOn, TrimsWereSpare}
use Rattle.tg_law_syncs.specs.Exact.Worked.{added, twice, asked, walking, WorkedWalk}
use Rattle.tg_law_syncs.proofs.Exact.Held.{clients_work}

-- What was sent, and what client 1 has in hand, by computing.

is_no_trim : Msg → Bool
is_no_trim (msg.Trim e b) = false
is_no_trim y = true

no_trims : List Packet → Bool
unfolding is_no_trim
no_trims ps = list_all (λ (x : Packet). is_no_trim x.msg) ps

task_walks : Task tallies → Bool
task_walks (Walking k os) = true
task_walks t = false

hand_walks : Hand tallies → Bool
unfolding task_walks
hand_walks (Doing t) = task_walks t
hand_walks (Learning ws t) = false

is_walking : Option (Work tallies) → Bool
unfolding hand_walks
is_walking None = false
is_walking (Some w) = hand_walks w.hand

abbrev end : World tallies
end = run tallies walking (start tallies two_units)

record Computed (w : World tallies) : Type 0 where
  told : no_trims w.packets ≡ true
  few : nat_le w.steps 1000 ≡ true
  is_walk : is_walking (client tallies w 1).work ≡ true

computed : Computed (run tallies walking (start tallies two_units))
unfolding no_trims is_no_trim task_walks hand_walks is_walking run drained u8_at u16_at u32_at u64_at raw_at fixed_at read_many spell_many fit_many marks reads writes keys new_fields old_fields body entry node_eq bytes_eq bytes_lt part_lt cell_eq chain_of units_of next_of change_fault new_unit unit_ask first_missing on_ask unit_step new_layout layout_ask on_layout_ask layout_step reply work_asks put_cell get_cell fill_cell probe work_feed cell_feed entry_size needs_decision page_of entry_of new_seqr seqr_step seqr_tick append_work_asks append_start append_feed append_again sync_work_asks sync_start sync_feed walk_on walk_start walk_feed no_versions based version_of with_change parts_of decision_in view_start view_version view_parts unknown_in changed_in verdict view_outcome step_at play_on play read_fault write_fault commit_record open_decision checkpoint bases_in load_from view_base view_bases may_forget commit_at past_at rescue_turn trim_start trim_feed copy_work_asks copy_start copy_feed reconf_work_asks reconf_start reconf_feed reconf_latest new_client entries_at copy_fault tests refusal appends syncs walked task_asks client_asks walks task_feed task_again accepts client_command client_deliver client_tick fields_size decided newest log_of entries_of members path_on path changes_below version outcome history_of start latest log history unit_moves layout_moves seqr_moves client_turned happens limit_of drain_on drain tick_all rounds settle line lines
computed = record { told = refl; few = refl; is_walk = refl }

-- The run is one.

lawful_added : LawfulAll added
unfolding LawfulAll
lawful_added x (inl e) = is_lawful x _ e (omega arith, tt)
lawful_added x (inr (inl e)) = is_lawful x _ e (omega arith, (refl, λ allowed short. record { read = refl; fits = refl }))
lawful_added x (inr (inr (inl e))) = is_lawful x _ e (omega arith, tt)
lawful_added x (inr (inr (inr i))) = absurd i

lawful_ask : LawfulAll (Takes (Commands 1 cmd.Begin) ∷ Takes (Commands 1 (cmd.Ask directory 0)) ∷ [])
unfolding LawfulAll
lawful_ask x (inl e) = is_lawful x _ e (omega arith, tt)
lawful_ask x (inr (inl e)) = is_lawful x _ e (omega arith, (refl, refl))
lawful_ask x (inr (inr i)) = absurd i

lawful_walking : LawfulAll walking
lawful_walking =
    lawful_both asked (drained 6 (run tallies asked (start tallies two_units)))
    (lawful_both twice _ (and_lawful committed added (and_lawful [] added lawful_none lawful_added) lawful_added) lawful_ask)
    (all_drained 6 (run tallies asked (start tallies two_units)))

at_most : (a b : ℕ) → nat_le a b ≡ true → a ≤ b
at_most a b e = grind arith

reached : Reaches tallies two_units walking (run tallies walking (start tallies two_units))
unfolding LawfulAll start
reached = record {
  header = refl;
  goes = record { lawful = λ x i. lawful_walking x (has_contained walking x i); is = refl; few = (let a = at_most end.steps 1000 computed.few in omega (arith, a)) };
}

-- Nothing is to be trimmed, at its end and before.

both : (a b : Bool) → (a && b) ≡ true → (a ≡ true) × (b ≡ true)
both true b e = (refl, e)
both false b e = absurd (cc)

each : (f : Packet → Bool) (xs : List Packet) (x : Packet) → list_all f xs ≡ true → Has xs x → f x ≡ true
each f [] x e g = absurd g
each f (y ∷ xs) x e (inl s) = ap f s ∙ (both (f y) (list_all f xs) e).0
each f (y ∷ xs) x e (inr g) = each f xs x (both (f y) (list_all f xs) e).1 g

trim_no : (y : Msg) (e b : ℕ) → is_no_trim y ≡ true → y ≡ msg.Trim e b → ⊥
unfolding is_no_trim
trim_no y e b t is = cc

module _ (w : World tallies) (c : Computed w) where
  untrimmed : (x : Packet) (e b : ℕ) → Contains w.packets x → x.msg ≡ msg.Trim e b → ⊥
  unfolding no_trims
  untrimmed x e b i is = trim_no x.msg e b (each (λ (y : Packet). is_no_trim y.msg) w.packets x c.told (has_contained w.packets x i)) is

sent_later : (xs ys : Moves tallies) → walking ≡ xs ++ ys → (x : Packet) → Contains (after tallies two_units xs).packets x → Contains (run tallies walking (start tallies two_units)).packets x
sent_later xs ys split x i = contained _ x (subst (λ (ms : Moves tallies). Has (after tallies two_units ms).packets x) (sym split) (more tallies two_units xs ys x (has_contained (after tallies two_units xs).packets x i)))

then_takes : (xs : Moves tallies) (e : EventOf tallies) → after tallies two_units (xs ++ Takes e ∷ []) ≡ happens tallies (after tallies two_units xs) e
unfolding run
then_takes xs e = run_both tallies xs (Takes e ∷ []) (start tallies two_units)

was_safe : TrimsWereSafe tallies two_units walking
was_safe before e later split x epoch below sent is =
    absurd (untrimmed (run tallies walking (start tallies two_units)) computed x epoch below
    (sent_later (before ++ Takes e ∷ []) later (split ∙ sym (joined before (Takes e ∷ []) later)) x (subst (λ (u : World tallies). Contains u.packets x) (sym (then_takes before e)) sent)) is)

none : (u : World tallies) → GoesOn tallies two_units walking u → (x : Packet) (e b : ℕ) → Contains u.packets x → x.msg ≡ msg.Trim e b → ⊥
none u g x e b i is = untrimmed (run tallies walking (start tallies two_units)) computed x e b (sent_later g.before (Takes g.event ∷ g.later) g.split x (subst (λ (w : World tallies). Contains w.packets x) g.is i)) is

spare : TrimsWereSpare tallies two_units walking
spare = record {
  safe = was_safe;
  spare = λ u g. record {
    whole = λ x e b q i is less. absurd (none u g x e b i is);
    saved = λ x e b q o i is less st. absurd (none u g x e b i is);
  };
}

-- The walk.

record InHand (o : Option (Work tallies)) : Type 0 where
  work : Work tallies
  walk : Walk
  rest : List Oid
  works : o ≡ Some work
  hand : work.hand ≡ Doing (Walking walk rest)

in_task : (w : Work tallies) (t : Task tallies) → w.hand ≡ Doing t → task_walks t ≡ true → InHand (Some w)
unfolding task_walks
in_task w (Walking k os) i e = record { work = w; walk = k; rest = os; works = refl; hand = i }
in_task w (Syncing s) i e = absurd (cc)
in_task w (Appending a y) i e = absurd (cc)
in_task w (Trimming t) i e = absurd (cc)
in_task w (Copying' y) i e = absurd (cc)
in_task w (Reconfiguring r) i e = absurd (cc)

in_work : (w : Work tallies) (d : Hand tallies) → w.hand ≡ d → hand_walks d ≡ true → InHand (Some w)
unfolding hand_walks
in_work w (Doing t) i e = in_task w t i e
in_work w (Learning ws t) i e = absurd (cc)

in_hand : (o : Option (Work tallies)) → is_walking o ≡ true → InHand o
unfolding is_walking
in_hand None e = absurd (cc)
in_hand (Some w) e = in_work w w.hand refl e

now : Later tallies (after tallies two_units walking) (after tallies two_units walking)
unfolding run
now = ([], record { lawful = λ x c. absurd (has_contained [] x c); is = refl; few = reached.goes.few })

at_work : IsAtWork tallies (log tallies end) (client tallies end 1) (client tallies end 1).work
unfolding now
at_work = (clients_work tallies two_units walking (after tallies two_units walking) (after tallies two_units walking) reached now (subst (λ (ms : Moves tallies). TrimsWereSpare tallies two_units ms) (sym (append-nil walking)) spare)).work 1

pub worked_walk : WorkedWalk
worked_walk =
    let k = in_hand (client tallies end 1).work computed.is_walk in
    record {
      reached = reached;
      trims = spare;
      work = k.work;
      walk = k.walk;
      rest = k.rest;
      works = k.works;
      walks = k.hand;
      so = subst (λ (d : Hand tallies). IsAtTask tallies (log tallies end) (client tallies end 1) k.work (task_in tallies d)) k.hand
          (subst (λ (o : Option (Work tallies)). IsAtWork tallies (log tallies end) (client tallies end 1) o) k.works at_work);
    }
