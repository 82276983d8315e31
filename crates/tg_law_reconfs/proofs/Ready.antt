-- Runs after which a reconfiguration is ready: its seal is lost, or the request to the new sequencer is.
use Rattle.std.proofs.Common.{◌≡◌, ◌≢◌, ℕ, zero, suc, ◌+◌, ◌*◌, ◌≤◌, [], ◌∷◌, true, refl, sym, subst, inl, inr, arith, None}
use Rattle.std.specs.Prelude.{◌==◌, Contains}
use Rattle.tg_model.specs.declared.command.Command.TheVariants as cmd
use Rattle.tg_base.specs.Orders.{node_eq}
use Rattle.tg_protocol.specs.Words.{client_id, unit_id, seqr_id}
use Rattle.tg_protocol.specs.Layouts.{units_of, next_of, next_units, change_fault, first_layout}
use Rattle.tg_protocol.specs.Units.{new_unit, unit_ask, on_ask, unit_step}
use Rattle.tg_protocol.specs.LayoutServers.{new_layout, layout_ask, on_layout_ask, layout_step}
use Rattle.tg_protocol.specs.Replies.{reply}
use Rattle.tg_protocol.specs.Sequencers.{new_seqr, seqr_step, seqr_tick}
use Rattle.tg_protocol.specs.Reconfiguring.{reconf_work_asks, reconf_start, reconf_feed, reconf_latest}
use Rattle.tg_protocol.specs.Clients.{new_client, tests, refusal}
use Rattle.tg_protocol.specs.ClientSteps.{task_asks, client_asks, task_feed, task_again, accepts, client_command, client_deliver, client_tick}
use Rattle.tg_protocol.specs.Sizes.{fields_size}
use Rattle.tg_protocol.specs.Worlds.{World, unit, layout, seqr, client, noted_of, runs, start, unit_moves, layout_moves, seqr_moves, client_turned, happens, limit_of, drain_on, drain, tick_all, rounds, settle}
use Rattle.tg_protocol.specs.Runs.{Move, LawfulMove, Reaches, run}
use Rattle.tg_protocol.specs.Finishing.{WaitsAlone, NoneAbove, MostRun, deliveries, is_scan}
use Rattle.tg_any.specs.AllKinds.{all_kinds}
use Rattle.tg_any.specs.Anys as any
use Rattle.tg_law_layouts.proofs.Moves.Members.{Has, has_contained}
use Rattle.tg_law_finish.specs.Tallies.Tallies.{one_of_each}
use Rattle.tg_law_finish.specs.Tallies.Settled.{opens_again}
use Rattle.tg_law_reconfs.specs.Ready.{IsReadyAt, learn_lost, ChangesAreReady, ReconfIsFinished}
use Rattle.tg_law_reconfs.specs.Settled.{seal_lost}
use Rattle.tg_law_reconfs.proofs.Settling.{seals_settle, less_two, two_most, first_few, few_steps, given, unsealed, seal_reached, seal_alone, seal_most, seal_stand, seal_above, seal_runs}

next_is : next_units (first_layout one_of_each) opens_again ≡ 0 ∷ []
unfolding units_of next_of
next_is = refl

-- the one unit runs
one_runs : (w : World all_kinds) → runs all_kinds w (unit_id 0) ≡ true → (u : ℕ) → Contains (next_units (first_layout one_of_each) opens_again) u → runs all_kinds w (unit_id u) ≡ true
one_runs w on u there = by (has_contained (0 ∷ []) u (subst (λ us. Contains us u) next_is there))
  where
    by : Has (0 ∷ []) u → runs all_kinds w (unit_id u) ≡ true
    by (inl e) = subst (λ (i : ℕ). runs all_kinds w (unit_id i) ≡ true) (sym e) on
    by (inr h) = absurd h

-- The seal is lost.

seal_given : (noted_of all_kinds unsealed 0).epoch ≡ 1
unfolding run start node_eq units_of next_of change_fault new_unit unit_ask on_ask unit_step new_layout layout_ask on_layout_ask layout_step reply new_seqr seqr_step seqr_tick reconf_work_asks reconf_start reconf_feed reconf_latest new_client tests refusal task_asks client_asks task_feed task_again accepts client_command client_deliver client_tick fields_size unit_moves layout_moves seqr_moves client_turned happens limit_of drain_on drain tick_all rounds settle any.first
seal_given = refl

seal_first : first_layout one_of_each ≡ first_layout unsealed.cluster
unfolding run start node_eq units_of next_of change_fault new_unit unit_ask on_ask unit_step new_layout layout_ask on_layout_ask layout_step reply new_seqr seqr_step seqr_tick reconf_work_asks reconf_start reconf_feed reconf_latest new_client tests refusal task_asks client_asks task_feed task_again accepts client_command client_deliver client_tick fields_size unit_moves layout_moves seqr_moves client_turned happens limit_of drain_on drain tick_all rounds settle any.first
seal_first = refl

seal_serves : runs all_kinds unsealed (seqr_id opens_again.seq) ≡ true
unfolding run start node_eq units_of next_of change_fault new_unit unit_ask on_ask unit_step new_layout layout_ask on_layout_ask layout_step reply new_seqr seqr_step seqr_tick reconf_work_asks reconf_start reconf_feed reconf_latest new_client tests refusal task_asks client_asks task_feed task_again accepts client_command client_deliver client_tick fields_size unit_moves layout_moves seqr_moves client_turned happens limit_of drain_on drain tick_all rounds settle any.first
seal_serves = refl

seal_ready : IsReadyAt seal_lost 1 unsealed
seal_ready = record {
  reached = seal_reached;
  alone = seal_alone;
  ready = record {
    given = seal_given;
    stand = inl seal_stand;
    none_above = subst (λ (i : ℕ). NoneAbove all_kinds unsealed (i + 1)) seal_stand seal_above;
    old = first_layout one_of_each;
    decided = inl (refl, seal_first);
    units = one_runs unsealed seal_runs;
    seqr_runs = seal_serves;
    layouts = seal_most;
  };
  stands = seal_stand;
}

-- The request to the new sequencer is lost.

abbrev unlearnt : World all_kinds
unlearnt = run all_kinds learn_lost (start all_kinds one_of_each)

learn_steps : unlearnt.steps ≡ 10
unfolding run start node_eq units_of next_of change_fault new_unit unit_ask on_ask unit_step new_layout layout_ask on_layout_ask layout_step reply new_seqr seqr_step seqr_tick reconf_work_asks reconf_start reconf_feed reconf_latest new_client tests refusal task_asks client_asks task_feed task_again accepts client_command client_deliver client_tick fields_size unit_moves layout_moves seqr_moves client_turned happens limit_of drain_on drain tick_all rounds settle any.first
learn_steps = refl

learn_lawful : (x : Move all_kinds) → Has learn_lost x → LawfulMove all_kinds one_of_each x
learn_lawful x (inl e) = given x _ e (omega arith, refl)
learn_lawful x (inr (inl e)) = given x _ e tt
learn_lawful x (inr (inr (inl e))) = given x _ e tt
learn_lawful x (inr (inr (inr (inl e)))) = given x _ e tt
learn_lawful x (inr (inr (inr (inr (inl e))))) = given x _ e tt
learn_lawful x (inr (inr (inr (inr (inr (inl e)))))) = given x _ e tt
learn_lawful x (inr (inr (inr (inr (inr (inr (inl e))))))) = given x _ e tt
learn_lawful x (inr (inr (inr (inr (inr (inr (inr (inl e)))))))) = given x _ e tt
learn_lawful x (inr (inr (inr (inr (inr (inr (inr (inr (inl e))))))))) = given x _ e tt
learn_lawful x (inr (inr (inr (inr (inr (inr (inr (inr (inr (inl e)))))))))) = given x _ e tt
learn_lawful x (inr (inr (inr (inr (inr (inr (inr (inr (inr (inr i)))))))))) = absurd i

learn_reached : Reaches all_kinds one_of_each learn_lost unlearnt
unfolding start
learn_reached = record {
  header = refl;
  goes = record { lawful = λ x i. learn_lawful x (has_contained learn_lost x i); is = refl; few = few_steps 10 _ learn_steps (omega arith) };
}

learn_others : (j : ℕ) → j ≢ 0 → runs all_kinds unlearnt (client_id j) ≡ true → (client all_kinds unlearnt j).work ≡ None
unfolding run start node_eq units_of next_of change_fault new_unit unit_ask on_ask unit_step new_layout layout_ask on_layout_ask layout_step reply new_seqr seqr_step seqr_tick reconf_work_asks reconf_start reconf_feed reconf_latest new_client tests refusal task_asks client_asks task_feed task_again accepts client_command client_deliver client_tick fields_size unit_moves layout_moves seqr_moves client_turned happens limit_of drain_on drain tick_all rounds settle any.first
learn_others zero off on = absurd (off refl)
learn_others (suc j) off on = refl

learn_within : (settle all_kinds unlearnt).stopped ≡ None
unfolding run start node_eq units_of next_of change_fault new_unit unit_ask on_ask unit_step new_layout layout_ask on_layout_ask layout_step reply new_seqr seqr_step seqr_tick reconf_work_asks reconf_start reconf_feed reconf_latest new_client tests refusal task_asks client_asks task_feed task_again accepts client_command client_deliver client_tick fields_size unit_moves layout_moves seqr_moves client_turned happens limit_of drain_on drain tick_all rounds settle any.first
learn_within = refl

learn_alone : WaitsAlone all_kinds unlearnt 0 (cmd.Reconf opens_again)
unfolding run start node_eq units_of next_of change_fault new_unit unit_ask on_ask unit_step new_layout layout_ask on_layout_ask layout_step reply new_seqr seqr_step seqr_tick reconf_work_asks reconf_start reconf_feed reconf_latest new_client tests refusal task_asks client_asks task_feed task_again accepts client_command client_deliver client_tick fields_size unit_moves layout_moves seqr_moves client_turned happens limit_of drain_on drain tick_all rounds settle any.first
learn_alone = record { quiet = refl; running = refl; work = _; waits = refl; command = refl; alone = learn_others; within = learn_within }

learn_most : MostRun all_kinds unlearnt
unfolding run start node_eq units_of next_of change_fault new_unit unit_ask on_ask unit_step new_layout layout_ask on_layout_ask layout_step reply new_seqr seqr_step seqr_tick reconf_work_asks reconf_start reconf_feed reconf_latest new_client tests refusal task_asks client_asks task_feed task_again accepts client_command client_deliver client_tick fields_size unit_moves layout_moves seqr_moves client_turned happens limit_of drain_on drain tick_all rounds settle any.first
learn_most = less_two

learn_given : (noted_of all_kinds unlearnt 0).epoch ≡ 1
unfolding run start node_eq units_of next_of change_fault new_unit unit_ask on_ask unit_step new_layout layout_ask on_layout_ask layout_step reply new_seqr seqr_step seqr_tick reconf_work_asks reconf_start reconf_feed reconf_latest new_client tests refusal task_asks client_asks task_feed task_again accepts client_command client_deliver client_tick fields_size unit_moves layout_moves seqr_moves client_turned happens limit_of drain_on drain tick_all rounds settle any.first
learn_given = refl

learn_stand : (client all_kinds unlearnt 0).stand.epoch ≡ 2
unfolding run start node_eq units_of next_of change_fault new_unit unit_ask on_ask unit_step new_layout layout_ask on_layout_ask layout_step reply new_seqr seqr_step seqr_tick reconf_work_asks reconf_start reconf_feed reconf_latest new_client tests refusal task_asks client_asks task_feed task_again accepts client_command client_deliver client_tick fields_size unit_moves layout_moves seqr_moves client_turned happens limit_of drain_on drain tick_all rounds settle any.first
learn_stand = refl

learn_first : first_layout one_of_each ≡ first_layout unlearnt.cluster
unfolding run start node_eq units_of next_of change_fault new_unit unit_ask on_ask unit_step new_layout layout_ask on_layout_ask layout_step reply new_seqr seqr_step seqr_tick reconf_work_asks reconf_start reconf_feed reconf_latest new_client tests refusal task_asks client_asks task_feed task_again accepts client_command client_deliver client_tick fields_size unit_moves layout_moves seqr_moves client_turned happens limit_of drain_on drain tick_all rounds settle any.first
learn_first = refl

learn_runs : runs all_kinds unlearnt (unit_id 0) ≡ true
unfolding run start node_eq units_of next_of change_fault new_unit unit_ask on_ask unit_step new_layout layout_ask on_layout_ask layout_step reply new_seqr seqr_step seqr_tick reconf_work_asks reconf_start reconf_feed reconf_latest new_client tests refusal task_asks client_asks task_feed task_again accepts client_command client_deliver client_tick fields_size unit_moves layout_moves seqr_moves client_turned happens limit_of drain_on drain tick_all rounds settle any.first
learn_runs = refl

learn_serves : runs all_kinds unlearnt (seqr_id opens_again.seq) ≡ true
unfolding run start node_eq units_of next_of change_fault new_unit unit_ask on_ask unit_step new_layout layout_ask on_layout_ask layout_step reply new_seqr seqr_step seqr_tick reconf_work_asks reconf_start reconf_feed reconf_latest new_client tests refusal task_asks client_asks task_feed task_again accepts client_command client_deliver client_tick fields_size unit_moves layout_moves seqr_moves client_turned happens limit_of drain_on drain tick_all rounds settle any.first
learn_serves = refl

learn_unit : (unit all_kinds unlearnt 0).epoch ≡ 2
unfolding run start node_eq units_of next_of change_fault new_unit unit_ask on_ask unit_step new_layout layout_ask on_layout_ask layout_step reply new_seqr seqr_step seqr_tick reconf_work_asks reconf_start reconf_feed reconf_latest new_client tests refusal task_asks client_asks task_feed task_again accepts client_command client_deliver client_tick fields_size unit_moves layout_moves seqr_moves client_turned happens limit_of drain_on drain tick_all rounds settle any.first
learn_unit = refl

learn_server : (layout all_kinds unlearnt 0).latest.epoch ≡ 2
unfolding run start node_eq units_of next_of change_fault new_unit unit_ask on_ask unit_step new_layout layout_ask on_layout_ask layout_step reply new_seqr seqr_step seqr_tick reconf_work_asks reconf_start reconf_feed reconf_latest new_client tests refusal task_asks client_asks task_feed task_again accepts client_command client_deliver client_tick fields_size unit_moves layout_moves seqr_moves client_turned happens limit_of drain_on drain tick_all rounds settle any.first
learn_server = refl

learn_units : (u : ℕ) → (unit all_kinds unlearnt u).epoch ≤ 2
unfolding run start node_eq units_of next_of change_fault new_unit unit_ask on_ask unit_step new_layout layout_ask on_layout_ask layout_step reply new_seqr seqr_step seqr_tick reconf_work_asks reconf_start reconf_feed reconf_latest new_client tests refusal task_asks client_asks task_feed task_again accepts client_command client_deliver client_tick fields_size unit_moves layout_moves seqr_moves client_turned happens limit_of drain_on drain tick_all rounds settle any.first
learn_units zero = two_most 2 _ learn_unit (omega arith)
learn_units (suc u) = two_most 1 _ refl (omega arith)

learn_layouts : (n : ℕ) → (layout all_kinds unlearnt n).latest.epoch ≤ 2
unfolding run start node_eq units_of next_of change_fault new_unit unit_ask on_ask unit_step new_layout layout_ask on_layout_ask layout_step reply new_seqr seqr_step seqr_tick reconf_work_asks reconf_start reconf_feed reconf_latest new_client tests refusal task_asks client_asks task_feed task_again accepts client_command client_deliver client_tick fields_size unit_moves layout_moves seqr_moves client_turned happens limit_of drain_on drain tick_all rounds settle any.first
learn_layouts zero = two_most 2 _ learn_server (omega arith)
learn_layouts (suc n) = two_most 1 _ refl (omega arith)

learn_seqrs : (s : ℕ) → (seqr all_kinds unlearnt s).epoch ≤ 2
unfolding run start node_eq units_of next_of change_fault new_unit unit_ask on_ask unit_step new_layout layout_ask on_layout_ask layout_step reply new_seqr seqr_step seqr_tick reconf_work_asks reconf_start reconf_feed reconf_latest new_client tests refusal task_asks client_asks task_feed task_again accepts client_command client_deliver client_tick fields_size unit_moves layout_moves seqr_moves client_turned happens limit_of drain_on drain tick_all rounds settle any.first
learn_seqrs zero = two_most 1 _ refl (omega arith)
learn_seqrs (suc s) = first_few (suc s == 0)

learn_clients : (k : ℕ) → (client all_kinds unlearnt k).stand.epoch ≤ 2
unfolding run start node_eq units_of next_of change_fault new_unit unit_ask on_ask unit_step new_layout layout_ask on_layout_ask layout_step reply new_seqr seqr_step seqr_tick reconf_work_asks reconf_start reconf_feed reconf_latest new_client tests refusal task_asks client_asks task_feed task_again accepts client_command client_deliver client_tick fields_size unit_moves layout_moves seqr_moves client_turned happens limit_of drain_on drain tick_all rounds settle any.first
learn_clients zero = two_most 2 _ learn_stand (omega arith)
learn_clients (suc k) = two_most 1 _ refl (omega arith)

learn_above : NoneAbove all_kinds unlearnt (1 + 1)
learn_above = record { units = learn_units; layouts = learn_layouts; seqrs = learn_seqrs; clients = learn_clients }

learn_ready : IsReadyAt learn_lost 2 unlearnt
learn_ready = record {
  reached = learn_reached;
  alone = learn_alone;
  ready = record {
    given = learn_given;
    stand = inr learn_stand;
    none_above = learn_above;
    old = first_layout one_of_each;
    decided = inl (refl, learn_first);
    units = one_runs unlearnt learn_runs;
    seqr_runs = learn_serves;
    layouts = learn_most;
  };
  stands = learn_stand;
}

pub changes_are_ready : ChangesAreReady
changes_are_ready = (seal_ready, learn_ready)

-- What a settling makes of the first.

seal_allowed : 2 * unsealed.cluster.units + 64 * unsealed.cluster.layouts + 22 ≡ 88
unfolding run start node_eq units_of next_of change_fault new_unit unit_ask on_ask unit_step new_layout layout_ask on_layout_ask layout_step reply new_seqr seqr_step seqr_tick reconf_work_asks reconf_start reconf_feed reconf_latest new_client tests refusal task_asks client_asks task_feed task_again accepts client_command client_deliver client_tick fields_size unit_moves layout_moves seqr_moves client_turned happens limit_of drain_on drain tick_all rounds settle any.first
seal_allowed = refl

seal_epoch : (seqr all_kinds (settle all_kinds unsealed).world opens_again.seq).epoch ≡ 2
unfolding run start node_eq units_of next_of change_fault new_unit unit_ask on_ask unit_step new_layout layout_ask on_layout_ask layout_step reply new_seqr seqr_step seqr_tick reconf_work_asks reconf_start reconf_feed reconf_latest new_client tests refusal task_asks client_asks task_feed task_again accepts client_command client_deliver client_tick fields_size unit_moves layout_moves seqr_moves client_turned happens limit_of drain_on drain tick_all rounds settle any.first
seal_epoch = refl

seal_start : (seqr all_kinds (settle all_kinds unsealed).world opens_again.seq).proj.start ≡ 0
unfolding run start node_eq units_of next_of change_fault new_unit unit_ask on_ask unit_step new_layout layout_ask on_layout_ask layout_step reply new_seqr seqr_step seqr_tick reconf_work_asks reconf_start reconf_feed reconf_latest new_client tests refusal task_asks client_asks task_feed task_again accepts client_command client_deliver client_tick fields_size unit_moves layout_moves seqr_moves client_turned happens limit_of drain_on drain tick_all rounds settle any.first
seal_start = refl

seal_unfenced : (seqr all_kinds (settle all_kinds unsealed).world opens_again.seq).fence ≡ None
unfolding run start node_eq units_of next_of change_fault new_unit unit_ask on_ask unit_step new_layout layout_ask on_layout_ask layout_step reply new_seqr seqr_step seqr_tick reconf_work_asks reconf_start reconf_feed reconf_latest new_client tests refusal task_asks client_asks task_feed task_again accepts client_command client_deliver client_tick fields_size unit_moves layout_moves seqr_moves client_turned happens limit_of drain_on drain tick_all rounds settle any.first
seal_unfenced = refl

seal_scanned : deliveries all_kinds (is_scan all_kinds opens_again.seq 0) unsealed (settle all_kinds unsealed).world ≡ 0
unfolding run start node_eq units_of next_of change_fault new_unit unit_ask on_ask unit_step new_layout layout_ask on_layout_ask layout_step reply new_seqr seqr_step seqr_tick reconf_work_asks reconf_start reconf_feed reconf_latest new_client tests refusal task_asks client_asks task_feed task_again accepts client_command client_deliver client_tick fields_size unit_moves layout_moves seqr_moves client_turned happens limit_of drain_on drain tick_all rounds settle any.first
seal_scanned = refl

none_under : (a b : ℕ) → a ≡ 0 → a ≤ b
none_under a b e = omega (arith, e)

pub reconf_settles : ReconfIsFinished
reconf_settles = record {
  ready = seal_ready;
  allowed = seal_allowed;
  installs = seals_settle.installs;
  serves = record { epoch = seal_epoch; scanned = none_under _ _ seal_start; unfenced = seal_unfenced };
  scanned = seal_scanned;
}
