-- Reconfigurations whose seal, or whose request for a promise, is lost: a settling installs the layout. So where a unit joins
-- whose seal is lost.
use Rattle.std.proofs.Common.{◌≡◌, ◌≢◌, ℕ, zero, suc, ◌+◌, ◌*◌, ◌<◌, ◌≤◌, Bool, List, [], ◌∷◌, length, true, false, refl, sym, subst, inl, inr, arith, None, Some}
use Rattle.std.specs.Prelude.{◌==◌}
use Rattle.tg_model.specs.declared.command.Command.TheVariants as cmd
use Rattle.tg_model.specs.declared.trace.What.TheVariants as told
use Rattle.tg_base.specs.Orders.{node_eq}
use Rattle.tg_protocol.specs.Words.{client_id, unit_id}
use Rattle.tg_protocol.specs.Layouts.{units_of, next_of, next_units, change_fault, first_layout}
use Rattle.tg_protocol.specs.Units.{new_unit, unit_ask, first_missing, on_ask, unit_step}
use Rattle.tg_protocol.specs.LayoutServers.{new_layout, layout_ask, on_layout_ask, layout_step}
use Rattle.tg_protocol.specs.Requests.{Waits}
use Rattle.tg_protocol.specs.Replies.{reply}
use Rattle.tg_protocol.specs.Sequencers.{first_epoch, new_seqr, seqr_step, seqr_tick}
use Rattle.tg_protocol.specs.Reconfiguring.{Reconf, SealingSpare, Sealing, reconf_work_asks, reconf_start, reconf_feed, reconf_latest}
use Rattle.tg_protocol.specs.Clients.{new_client, tests, refusal}
use Rattle.tg_protocol.specs.ClientSteps.{task_asks, client_asks, task_feed, task_again, accepts, client_command, client_deliver, client_tick}
use Rattle.tg_protocol.specs.Sizes.{fields_size}
use Rattle.tg_protocol.specs.Worlds.{World, unit, layout, seqr, client, runs, start, trace, unit_moves, layout_moves, seqr_moves, client_turned, happens, limit_of, drain_on, drain, tick_all, rounds, settle}
use Rattle.tg_protocol.specs.Runs.{Move, LawfulMove, Reaches, most_steps, run}
use Rattle.tg_protocol.specs.Finishing.{WaitsAlone, NoneAbove, MostRun, deliveries, is_with_client}
use Rattle.tg_any.specs.AllKinds.{all_kinds}
use Rattle.tg_any.specs.Anys as any
use Rattle.tg_base.specs.Layouts.{Layout}
use Rattle.tg_base.specs.declared.change.Join.{Join}
use Rattle.tg_law_layouts.proofs.Moves.Members.{Has, has_contained}
use Rattle.tg_law_finish.specs.Tallies.Tallies.{one_of_each}
use Rattle.tg_law_finish.specs.Tallies.Settled.{opens_again}
use Rattle.tg_law_reconfs.specs.Reconfs.{WaitsForVotes, WaitsForSeals}
use Rattle.tg_law_reconfs.specs.Changing.{WaitsToChange}
use Rattle.tg_law_reconfs.specs.Settled.{seal_lost, promise_lost, two_units, joins_stripe, join_lost, Installs, SealsAreAnswered, VotesAreAnswered, JoinsAreAnswered}

pub less_two : 1 < 2
less_two = omega arith

-- below the epoch after the first
none_past : (x e : ℕ) → x ≤ 2 → e ≡ 1 → x ≤ e + 1
none_past x e le f = omega (arith, le, f)

pub two_most : (n x : ℕ) → x ≡ n → n ≤ 2 → x ≤ 2
two_most n x e le = omega (arith, e, le)

pub first_few : (b : Bool) → first_epoch b ≤ 2
first_few true = omega arith
first_few false = omega arith

pub few_steps : (n x : ℕ) → x ≡ n → n ≤ 200000 → x ≤ most_steps
few_steps n x e le = omega (arith, e, le)

pub given : (x y : Move all_kinds) → x ≡ y → LawfulMove all_kinds one_of_each y → LawfulMove all_kinds one_of_each x
given x y e l = subst (λ (z : Move all_kinds). LawfulMove all_kinds one_of_each z) (sym e) l

-- A reconfiguration whose seal is lost.

abbrev pub unsealed : World all_kinds
unsealed = run all_kinds seal_lost (start all_kinds one_of_each)

seal_steps : unsealed.steps ≡ 2
unfolding run start node_eq units_of next_of change_fault new_unit unit_ask on_ask unit_step new_layout layout_ask on_layout_ask layout_step reply new_seqr seqr_step seqr_tick reconf_work_asks reconf_start reconf_feed reconf_latest new_client tests refusal task_asks client_asks task_feed task_again accepts client_command client_deliver client_tick fields_size unit_moves layout_moves seqr_moves client_turned happens limit_of drain_on drain tick_all rounds settle any.first
seal_steps = refl

seal_lawful : (x : Move all_kinds) → Has seal_lost x → LawfulMove all_kinds one_of_each x
seal_lawful x (inl e) = given x _ e (omega arith, refl)
seal_lawful x (inr (inl e)) = given x _ e tt
seal_lawful x (inr (inr i)) = absurd i

pub seal_reached : Reaches all_kinds one_of_each seal_lost unsealed
unfolding start
seal_reached = record {
  header = refl;
  goes = record { lawful = λ x i. seal_lawful x (has_contained seal_lost x i); is = refl; few = few_steps 2 _ seal_steps (omega arith) };
}

seal_others : (j : ℕ) → j ≢ 0 → runs all_kinds unsealed (client_id j) ≡ true → (client all_kinds unsealed j).work ≡ None
unfolding run start node_eq units_of next_of change_fault new_unit unit_ask on_ask unit_step new_layout layout_ask on_layout_ask layout_step reply new_seqr seqr_step seqr_tick reconf_work_asks reconf_start reconf_feed reconf_latest new_client tests refusal task_asks client_asks task_feed task_again accepts client_command client_deliver client_tick fields_size unit_moves layout_moves seqr_moves client_turned happens limit_of drain_on drain tick_all rounds settle any.first
seal_others zero off on = absurd (off refl)
seal_others (suc j) off on = refl

seal_within : (settle all_kinds unsealed).stopped ≡ None
unfolding run start node_eq units_of next_of change_fault new_unit unit_ask on_ask unit_step new_layout layout_ask on_layout_ask layout_step reply new_seqr seqr_step seqr_tick reconf_work_asks reconf_start reconf_feed reconf_latest new_client tests refusal task_asks client_asks task_feed task_again accepts client_command client_deliver client_tick fields_size unit_moves layout_moves seqr_moves client_turned happens limit_of drain_on drain tick_all rounds settle any.first
seal_within = refl

pub seal_alone : WaitsAlone all_kinds unsealed 0 (cmd.Reconf opens_again)
unfolding run start node_eq units_of next_of change_fault new_unit unit_ask on_ask unit_step new_layout layout_ask on_layout_ask layout_step reply new_seqr seqr_step seqr_tick reconf_work_asks reconf_start reconf_feed reconf_latest new_client tests refusal task_asks client_asks task_feed task_again accepts client_command client_deliver client_tick fields_size unit_moves layout_moves seqr_moves client_turned happens limit_of drain_on drain tick_all rounds settle any.first
seal_alone = record { quiet = refl; running = refl; work = _; waits = refl; command = refl; alone = seal_others; within = seal_within }

pub seal_most : MostRun all_kinds unsealed
unfolding run start node_eq units_of next_of change_fault new_unit unit_ask on_ask unit_step new_layout layout_ask on_layout_ask layout_step reply new_seqr seqr_step seqr_tick reconf_work_asks reconf_start reconf_feed reconf_latest new_client tests refusal task_asks client_asks task_feed task_again accepts client_command client_deliver client_tick fields_size unit_moves layout_moves seqr_moves client_turned happens limit_of drain_on drain tick_all rounds settle any.first
seal_most = less_two

pub seal_stand : (client all_kinds unsealed 0).stand.epoch ≡ 1
unfolding run start node_eq units_of next_of change_fault new_unit unit_ask on_ask unit_step new_layout layout_ask on_layout_ask layout_step reply new_seqr seqr_step seqr_tick reconf_work_asks reconf_start reconf_feed reconf_latest new_client tests refusal task_asks client_asks task_feed task_again accepts client_command client_deliver client_tick fields_size unit_moves layout_moves seqr_moves client_turned happens limit_of drain_on drain tick_all rounds settle any.first
seal_stand = refl

seal_unit : (unit all_kinds unsealed 0).epoch ≡ 1
unfolding run start node_eq units_of next_of change_fault new_unit unit_ask on_ask unit_step new_layout layout_ask on_layout_ask layout_step reply new_seqr seqr_step seqr_tick reconf_work_asks reconf_start reconf_feed reconf_latest new_client tests refusal task_asks client_asks task_feed task_again accepts client_command client_deliver client_tick fields_size unit_moves layout_moves seqr_moves client_turned happens limit_of drain_on drain tick_all rounds settle any.first
seal_unit = refl

seal_units : (u : ℕ) → (unit all_kinds unsealed u).epoch ≤ 2
unfolding run start node_eq units_of next_of change_fault new_unit unit_ask on_ask unit_step new_layout layout_ask on_layout_ask layout_step reply new_seqr seqr_step seqr_tick reconf_work_asks reconf_start reconf_feed reconf_latest new_client tests refusal task_asks client_asks task_feed task_again accepts client_command client_deliver client_tick fields_size unit_moves layout_moves seqr_moves client_turned happens limit_of drain_on drain tick_all rounds settle any.first
seal_units zero = two_most 1 _ seal_unit (omega arith)
seal_units (suc u) = two_most 1 _ refl (omega arith)

seal_layouts : (n : ℕ) → (layout all_kinds unsealed n).latest.epoch ≤ 2
unfolding run start node_eq units_of next_of change_fault new_unit unit_ask on_ask unit_step new_layout layout_ask on_layout_ask layout_step reply new_seqr seqr_step seqr_tick reconf_work_asks reconf_start reconf_feed reconf_latest new_client tests refusal task_asks client_asks task_feed task_again accepts client_command client_deliver client_tick fields_size unit_moves layout_moves seqr_moves client_turned happens limit_of drain_on drain tick_all rounds settle any.first
seal_layouts zero = two_most 1 _ refl (omega arith)
seal_layouts (suc n) = two_most 1 _ refl (omega arith)

seal_seqrs : (s : ℕ) → (seqr all_kinds unsealed s).epoch ≤ 2
unfolding run start node_eq units_of next_of change_fault new_unit unit_ask on_ask unit_step new_layout layout_ask on_layout_ask layout_step reply new_seqr seqr_step seqr_tick reconf_work_asks reconf_start reconf_feed reconf_latest new_client tests refusal task_asks client_asks task_feed task_again accepts client_command client_deliver client_tick fields_size unit_moves layout_moves seqr_moves client_turned happens limit_of drain_on drain tick_all rounds settle any.first
seal_seqrs zero = two_most 1 _ refl (omega arith)
seal_seqrs (suc s) = first_few (suc s == 0)

seal_clients : (k : ℕ) → (client all_kinds unsealed k).stand.epoch ≤ 2
unfolding run start node_eq units_of next_of change_fault new_unit unit_ask on_ask unit_step new_layout layout_ask on_layout_ask layout_step reply new_seqr seqr_step seqr_tick reconf_work_asks reconf_start reconf_feed reconf_latest new_client tests refusal task_asks client_asks task_feed task_again accepts client_command client_deliver client_tick fields_size unit_moves layout_moves seqr_moves client_turned happens limit_of drain_on drain tick_all rounds settle any.first
seal_clients zero = two_most 1 _ seal_stand (omega arith)
seal_clients (suc k) = two_most 1 _ refl (omega arith)

pub seal_above : NoneAbove all_kinds unsealed ((client all_kinds unsealed 0).stand.epoch + 1)
seal_above = record {
  units = λ u. none_past _ _ (seal_units u) seal_stand;
  layouts = λ n. none_past _ _ (seal_layouts n) seal_stand;
  seqrs = λ s. none_past _ _ (seal_seqrs s) seal_stand;
  clients = λ k. none_past _ _ (seal_clients k) seal_stand;
}

abbrev seal_wait : Waits
seal_wait = (0, 1) ∷ []

abbrev unsealed_reconf : Reconf
unsealed_reconf = record { change = opens_again; me = 0; layouts = 1; stand = first_layout one_of_each; work = Sealing seal_wait [] }

pub seal_runs : runs all_kinds unsealed (unit_id 0) ≡ true
unfolding run start node_eq units_of next_of change_fault new_unit unit_ask on_ask unit_step new_layout layout_ask on_layout_ask layout_step reply new_seqr seqr_step seqr_tick reconf_work_asks reconf_start reconf_feed reconf_latest new_client tests refusal task_asks client_asks task_feed task_again accepts client_command client_deliver client_tick fields_size unit_moves layout_moves seqr_moves client_turned happens limit_of drain_on drain tick_all rounds settle any.first
seal_runs = refl

seal_wanted : (v : ℕ × ℕ) → Has seal_wait v → runs all_kinds unsealed (unit_id v.0) ≡ true
seal_wanted v (inl e) = subst (λ (x : ℕ × ℕ). runs all_kinds unsealed (unit_id x.0) ≡ true) (sym e) seal_runs
seal_wanted v (inr i) = absurd i

seal_some : seal_wait ≢ []
seal_some e = absurd cc

seal_waits : WaitsForSeals all_kinds unsealed 0
unfolding run start node_eq units_of next_of change_fault new_unit unit_ask on_ask unit_step new_layout layout_ask on_layout_ask layout_step reply new_seqr seqr_step seqr_tick reconf_work_asks reconf_start reconf_feed reconf_latest new_client tests refusal task_asks client_asks task_feed task_again accepts client_command client_deliver client_tick fields_size unit_moves layout_moves seqr_moves client_turned happens limit_of drain_on drain tick_all rounds settle any.first
seal_waits = record {
  work = _;
  waits = refl;
  reconf = unsealed_reconf;
  hand = refl;
  waiting = seal_wait;
  acks = [];
  seals = refl;
  some = seal_some;
  joins = refl;
  units = λ v i. seal_wanted v (has_contained seal_wait v i);
  layouts = seal_most;
  none_above = seal_above;
}

seal_allowed : 2 * length seal_waits.waiting + 34 * unsealed.cluster.layouts + 16 ≡ 52
unfolding run start node_eq units_of next_of change_fault new_unit unit_ask on_ask unit_step new_layout layout_ask on_layout_ask layout_step reply new_seqr seqr_step seqr_tick reconf_work_asks reconf_start reconf_feed reconf_latest new_client tests refusal task_asks client_asks task_feed task_again accepts client_command client_deliver client_tick fields_size unit_moves layout_moves seqr_moves client_turned happens limit_of drain_on drain tick_all rounds settle any.first seal_waits
seal_allowed = refl

seal_counted : deliveries all_kinds (is_with_client all_kinds 0) unsealed (settle all_kinds unsealed).world ≡ 12
unfolding run start node_eq units_of next_of change_fault new_unit unit_ask on_ask unit_step new_layout layout_ask on_layout_ask layout_step reply new_seqr seqr_step seqr_tick reconf_work_asks reconf_start reconf_feed reconf_latest new_client tests refusal task_asks client_asks task_feed task_again accepts client_command client_deliver client_tick fields_size unit_moves layout_moves seqr_moves client_turned happens limit_of drain_on drain tick_all rounds settle any.first
seal_counted = refl

seal_before : trace all_kinds unsealed ≡ []
unfolding run start node_eq units_of next_of change_fault new_unit unit_ask on_ask unit_step new_layout layout_ask on_layout_ask layout_step reply new_seqr seqr_step seqr_tick reconf_work_asks reconf_start reconf_feed reconf_latest new_client tests refusal task_asks client_asks task_feed task_again accepts client_command client_deliver client_tick fields_size unit_moves layout_moves seqr_moves client_turned happens limit_of drain_on drain tick_all rounds settle any.first
seal_before = refl

seal_tells : trace all_kinds (settle all_kinds unsealed).world ≡ record { event = 0; client = 0; tx = 0; what = told.Installed 2 } ∷ []
unfolding run start node_eq units_of next_of change_fault new_unit unit_ask on_ask unit_step new_layout layout_ask on_layout_ask layout_step reply new_seqr seqr_step seqr_tick reconf_work_asks reconf_start reconf_feed reconf_latest new_client tests refusal task_asks client_asks task_feed task_again accepts client_command client_deliver client_tick fields_size unit_moves layout_moves seqr_moves client_turned happens limit_of drain_on drain tick_all rounds settle any.first
seal_tells = refl

seal_installs : Installs unsealed 12
seal_installs = record { counted = seal_counted; none_before = seal_before; tells = seal_tells }

pub seals_settle : SealsAreAnswered
seals_settle = record { reached = seal_reached; alone = seal_alone; waits = seal_waits; allowed = seal_allowed; installs = seal_installs }

-- A reconfiguration whose request for a promise is lost.

abbrev unpromised : World all_kinds
unpromised = run all_kinds promise_lost (start all_kinds one_of_each)

promise_steps : unpromised.steps ≡ 4
unfolding run start node_eq units_of next_of change_fault new_unit unit_ask on_ask unit_step new_layout layout_ask on_layout_ask layout_step reply new_seqr seqr_step seqr_tick reconf_work_asks reconf_start reconf_feed reconf_latest new_client tests refusal task_asks client_asks task_feed task_again accepts client_command client_deliver client_tick fields_size unit_moves layout_moves seqr_moves client_turned happens limit_of drain_on drain tick_all rounds settle any.first
promise_steps = refl

promise_lawful : (x : Move all_kinds) → Has promise_lost x → LawfulMove all_kinds one_of_each x
promise_lawful x (inl e) = given x _ e (omega arith, refl)
promise_lawful x (inr (inl e)) = given x _ e tt
promise_lawful x (inr (inr (inl e))) = given x _ e tt
promise_lawful x (inr (inr (inr (inl e)))) = given x _ e tt
promise_lawful x (inr (inr (inr (inr i)))) = absurd i

promise_reached : Reaches all_kinds one_of_each promise_lost unpromised
unfolding start
promise_reached = record {
  header = refl;
  goes = record { lawful = λ x i. promise_lawful x (has_contained promise_lost x i); is = refl; few = few_steps 4 _ promise_steps (omega arith) };
}

promise_others : (j : ℕ) → j ≢ 0 → runs all_kinds unpromised (client_id j) ≡ true → (client all_kinds unpromised j).work ≡ None
unfolding run start node_eq units_of next_of change_fault new_unit unit_ask on_ask unit_step new_layout layout_ask on_layout_ask layout_step reply new_seqr seqr_step seqr_tick reconf_work_asks reconf_start reconf_feed reconf_latest new_client tests refusal task_asks client_asks task_feed task_again accepts client_command client_deliver client_tick fields_size unit_moves layout_moves seqr_moves client_turned happens limit_of drain_on drain tick_all rounds settle any.first
promise_others zero off on = absurd (off refl)
promise_others (suc j) off on = refl

promise_within : (settle all_kinds unpromised).stopped ≡ None
unfolding run start node_eq units_of next_of change_fault new_unit unit_ask on_ask unit_step new_layout layout_ask on_layout_ask layout_step reply new_seqr seqr_step seqr_tick reconf_work_asks reconf_start reconf_feed reconf_latest new_client tests refusal task_asks client_asks task_feed task_again accepts client_command client_deliver client_tick fields_size unit_moves layout_moves seqr_moves client_turned happens limit_of drain_on drain tick_all rounds settle any.first
promise_within = refl

promise_alone : WaitsAlone all_kinds unpromised 0 (cmd.Reconf opens_again)
unfolding run start node_eq units_of next_of change_fault new_unit unit_ask on_ask unit_step new_layout layout_ask on_layout_ask layout_step reply new_seqr seqr_step seqr_tick reconf_work_asks reconf_start reconf_feed reconf_latest new_client tests refusal task_asks client_asks task_feed task_again accepts client_command client_deliver client_tick fields_size unit_moves layout_moves seqr_moves client_turned happens limit_of drain_on drain tick_all rounds settle any.first
promise_alone = record { quiet = refl; running = refl; work = _; waits = refl; command = refl; alone = promise_others; within = promise_within }

promise_most : MostRun all_kinds unpromised
unfolding run start node_eq units_of next_of change_fault new_unit unit_ask on_ask unit_step new_layout layout_ask on_layout_ask layout_step reply new_seqr seqr_step seqr_tick reconf_work_asks reconf_start reconf_feed reconf_latest new_client tests refusal task_asks client_asks task_feed task_again accepts client_command client_deliver client_tick fields_size unit_moves layout_moves seqr_moves client_turned happens limit_of drain_on drain tick_all rounds settle any.first
promise_most = less_two

promise_stand : (client all_kinds unpromised 0).stand.epoch ≡ 1
unfolding run start node_eq units_of next_of change_fault new_unit unit_ask on_ask unit_step new_layout layout_ask on_layout_ask layout_step reply new_seqr seqr_step seqr_tick reconf_work_asks reconf_start reconf_feed reconf_latest new_client tests refusal task_asks client_asks task_feed task_again accepts client_command client_deliver client_tick fields_size unit_moves layout_moves seqr_moves client_turned happens limit_of drain_on drain tick_all rounds settle any.first
promise_stand = refl

promise_unit : (unit all_kinds unpromised 0).epoch ≡ 2
unfolding run start node_eq units_of next_of change_fault new_unit unit_ask on_ask unit_step new_layout layout_ask on_layout_ask layout_step reply new_seqr seqr_step seqr_tick reconf_work_asks reconf_start reconf_feed reconf_latest new_client tests refusal task_asks client_asks task_feed task_again accepts client_command client_deliver client_tick fields_size unit_moves layout_moves seqr_moves client_turned happens limit_of drain_on drain tick_all rounds settle any.first
promise_unit = refl

promise_units : (u : ℕ) → (unit all_kinds unpromised u).epoch ≤ 2
unfolding run start node_eq units_of next_of change_fault new_unit unit_ask on_ask unit_step new_layout layout_ask on_layout_ask layout_step reply new_seqr seqr_step seqr_tick reconf_work_asks reconf_start reconf_feed reconf_latest new_client tests refusal task_asks client_asks task_feed task_again accepts client_command client_deliver client_tick fields_size unit_moves layout_moves seqr_moves client_turned happens limit_of drain_on drain tick_all rounds settle any.first
promise_units zero = two_most 2 _ promise_unit (omega arith)
promise_units (suc u) = two_most 1 _ refl (omega arith)

promise_layouts : (n : ℕ) → (layout all_kinds unpromised n).latest.epoch ≤ 2
unfolding run start node_eq units_of next_of change_fault new_unit unit_ask on_ask unit_step new_layout layout_ask on_layout_ask layout_step reply new_seqr seqr_step seqr_tick reconf_work_asks reconf_start reconf_feed reconf_latest new_client tests refusal task_asks client_asks task_feed task_again accepts client_command client_deliver client_tick fields_size unit_moves layout_moves seqr_moves client_turned happens limit_of drain_on drain tick_all rounds settle any.first
promise_layouts zero = two_most 1 _ refl (omega arith)
promise_layouts (suc n) = two_most 1 _ refl (omega arith)

promise_seqrs : (s : ℕ) → (seqr all_kinds unpromised s).epoch ≤ 2
unfolding run start node_eq units_of next_of change_fault new_unit unit_ask on_ask unit_step new_layout layout_ask on_layout_ask layout_step reply new_seqr seqr_step seqr_tick reconf_work_asks reconf_start reconf_feed reconf_latest new_client tests refusal task_asks client_asks task_feed task_again accepts client_command client_deliver client_tick fields_size unit_moves layout_moves seqr_moves client_turned happens limit_of drain_on drain tick_all rounds settle any.first
promise_seqrs zero = two_most 1 _ refl (omega arith)
promise_seqrs (suc s) = first_few (suc s == 0)

promise_clients : (k : ℕ) → (client all_kinds unpromised k).stand.epoch ≤ 2
unfolding run start node_eq units_of next_of change_fault new_unit unit_ask on_ask unit_step new_layout layout_ask on_layout_ask layout_step reply new_seqr seqr_step seqr_tick reconf_work_asks reconf_start reconf_feed reconf_latest new_client tests refusal task_asks client_asks task_feed task_again accepts client_command client_deliver client_tick fields_size unit_moves layout_moves seqr_moves client_turned happens limit_of drain_on drain tick_all rounds settle any.first
promise_clients zero = two_most 1 _ promise_stand (omega arith)
promise_clients (suc k) = two_most 1 _ refl (omega arith)

promise_above : NoneAbove all_kinds unpromised ((client all_kinds unpromised 0).stand.epoch + 1)
promise_above = record {
  units = λ u. none_past _ _ (promise_units u) promise_stand;
  layouts = λ n. none_past _ _ (promise_layouts n) promise_stand;
  seqrs = λ s. none_past _ _ (promise_seqrs s) promise_stand;
  clients = λ k. none_past _ _ (promise_clients k) promise_stand;
}

promise_waits : WaitsForVotes all_kinds unpromised 0
unfolding run start node_eq units_of next_of change_fault new_unit unit_ask on_ask unit_step new_layout layout_ask on_layout_ask layout_step reply new_seqr seqr_step seqr_tick reconf_work_asks reconf_start reconf_feed reconf_latest new_client tests refusal task_asks client_asks task_feed task_again accepts client_command client_deliver client_tick fields_size unit_moves layout_moves seqr_moves client_turned happens limit_of drain_on drain tick_all rounds settle any.first
promise_waits = record { work = _; waits = refl; reconf = _; hand = refl; votes = tt; layouts = promise_most; none_above = promise_above }

promise_allowed : 34 * unpromised.cluster.layouts + 16 ≡ 50
unfolding run start node_eq units_of next_of change_fault new_unit unit_ask on_ask unit_step new_layout layout_ask on_layout_ask layout_step reply new_seqr seqr_step seqr_tick reconf_work_asks reconf_start reconf_feed reconf_latest new_client tests refusal task_asks client_asks task_feed task_again accepts client_command client_deliver client_tick fields_size unit_moves layout_moves seqr_moves client_turned happens limit_of drain_on drain tick_all rounds settle any.first
promise_allowed = refl

promise_counted : deliveries all_kinds (is_with_client all_kinds 0) unpromised (settle all_kinds unpromised).world ≡ 10
unfolding run start node_eq units_of next_of change_fault new_unit unit_ask on_ask unit_step new_layout layout_ask on_layout_ask layout_step reply new_seqr seqr_step seqr_tick reconf_work_asks reconf_start reconf_feed reconf_latest new_client tests refusal task_asks client_asks task_feed task_again accepts client_command client_deliver client_tick fields_size unit_moves layout_moves seqr_moves client_turned happens limit_of drain_on drain tick_all rounds settle any.first
promise_counted = refl

promise_before : trace all_kinds unpromised ≡ []
unfolding run start node_eq units_of next_of change_fault new_unit unit_ask on_ask unit_step new_layout layout_ask on_layout_ask layout_step reply new_seqr seqr_step seqr_tick reconf_work_asks reconf_start reconf_feed reconf_latest new_client tests refusal task_asks client_asks task_feed task_again accepts client_command client_deliver client_tick fields_size unit_moves layout_moves seqr_moves client_turned happens limit_of drain_on drain tick_all rounds settle any.first
promise_before = refl

promise_tells : trace all_kinds (settle all_kinds unpromised).world ≡ record { event = 0; client = 0; tx = 0; what = told.Installed 2 } ∷ []
unfolding run start node_eq units_of next_of change_fault new_unit unit_ask on_ask unit_step new_layout layout_ask on_layout_ask layout_step reply new_seqr seqr_step seqr_tick reconf_work_asks reconf_start reconf_feed reconf_latest new_client tests refusal task_asks client_asks task_feed task_again accepts client_command client_deliver client_tick fields_size unit_moves layout_moves seqr_moves client_turned happens limit_of drain_on drain tick_all rounds settle any.first
promise_tells = refl

promise_installs : Installs unpromised 10
promise_installs = record { counted = promise_counted; none_before = promise_before; tells = promise_tells }

pub votes_settle : VotesAreAnswered
votes_settle = record { reached = promise_reached; alone = promise_alone; waits = promise_waits; allowed = promise_allowed; installs = promise_installs }

-- A unit joins, and its seal is lost.

abbrev unjoined : World all_kinds
unjoined = run all_kinds join_lost (start all_kinds two_units)

join_steps : unjoined.steps ≡ 13
unfolding run start node_eq units_of next_of change_fault new_unit unit_ask first_missing on_ask unit_step new_layout layout_ask on_layout_ask layout_step reply new_seqr seqr_step seqr_tick reconf_work_asks reconf_start reconf_feed reconf_latest new_client tests refusal task_asks client_asks task_feed task_again accepts client_command client_deliver client_tick fields_size unit_moves layout_moves seqr_moves client_turned happens limit_of drain_on drain tick_all rounds settle any.first
join_steps = refl

join_given : (x y : Move all_kinds) → x ≡ y → LawfulMove all_kinds two_units y → LawfulMove all_kinds two_units x
join_given x y e l = subst (λ (z : Move all_kinds). LawfulMove all_kinds two_units z) (sym e) l

join_lawful : (x : Move all_kinds) → Has join_lost x → LawfulMove all_kinds two_units x
join_lawful x (inl e) = join_given x _ e (omega arith, refl)
join_lawful x (inr (inl e)) = join_given x _ e tt
join_lawful x (inr (inr (inl e))) = join_given x _ e tt
join_lawful x (inr (inr (inr (inl e)))) = join_given x _ e tt
join_lawful x (inr (inr (inr (inr (inl e))))) = join_given x _ e tt
join_lawful x (inr (inr (inr (inr (inr (inl e)))))) = join_given x _ e tt
join_lawful x (inr (inr (inr (inr (inr (inr (inl e))))))) = join_given x _ e tt
join_lawful x (inr (inr (inr (inr (inr (inr (inr (inl e)))))))) = join_given x _ e tt
join_lawful x (inr (inr (inr (inr (inr (inr (inr (inr (inl e))))))))) = join_given x _ e tt
join_lawful x (inr (inr (inr (inr (inr (inr (inr (inr (inr (inl e)))))))))) = join_given x _ e tt
join_lawful x (inr (inr (inr (inr (inr (inr (inr (inr (inr (inr (inl e))))))))))) = join_given x _ e tt
join_lawful x (inr (inr (inr (inr (inr (inr (inr (inr (inr (inr (inr (inl e)))))))))))) = join_given x _ e (omega arith, refl)
join_lawful x (inr (inr (inr (inr (inr (inr (inr (inr (inr (inr (inr (inr (inl e))))))))))))) = join_given x _ e tt
join_lawful x (inr (inr (inr (inr (inr (inr (inr (inr (inr (inr (inr (inr (inr i))))))))))))) = absurd i

join_reached : Reaches all_kinds two_units join_lost unjoined
unfolding start
join_reached = record {
  header = refl;
  goes = record { lawful = λ x i. join_lawful x (has_contained join_lost x i); is = refl; few = few_steps 13 _ join_steps (omega arith) };
}

join_others : (j : ℕ) → j ≢ 0 → runs all_kinds unjoined (client_id j) ≡ true → (client all_kinds unjoined j).work ≡ None
unfolding run start node_eq units_of next_of change_fault new_unit unit_ask first_missing on_ask unit_step new_layout layout_ask on_layout_ask layout_step reply new_seqr seqr_step seqr_tick reconf_work_asks reconf_start reconf_feed reconf_latest new_client tests refusal task_asks client_asks task_feed task_again accepts client_command client_deliver client_tick fields_size unit_moves layout_moves seqr_moves client_turned happens limit_of drain_on drain tick_all rounds settle any.first
join_others zero off on = absurd (off refl)
join_others (suc j) off on = refl

join_within : (settle all_kinds unjoined).stopped ≡ None
unfolding run start node_eq units_of next_of change_fault new_unit unit_ask first_missing on_ask unit_step new_layout layout_ask on_layout_ask layout_step reply new_seqr seqr_step seqr_tick reconf_work_asks reconf_start reconf_feed reconf_latest new_client tests refusal task_asks client_asks task_feed task_again accepts client_command client_deliver client_tick fields_size unit_moves layout_moves seqr_moves client_turned happens limit_of drain_on drain tick_all rounds settle any.first
join_within = refl

join_alone : WaitsAlone all_kinds unjoined 0 (cmd.Reconf joins_stripe)
unfolding run start node_eq units_of next_of change_fault new_unit unit_ask first_missing on_ask unit_step new_layout layout_ask on_layout_ask layout_step reply new_seqr seqr_step seqr_tick reconf_work_asks reconf_start reconf_feed reconf_latest new_client tests refusal task_asks client_asks task_feed task_again accepts client_command client_deliver client_tick fields_size unit_moves layout_moves seqr_moves client_turned happens limit_of drain_on drain tick_all rounds settle any.first
join_alone = record { quiet = refl; running = refl; work = _; waits = refl; command = refl; alone = join_others; within = join_within }

join_most : MostRun all_kinds unjoined
unfolding run start node_eq units_of next_of change_fault new_unit unit_ask first_missing on_ask unit_step new_layout layout_ask on_layout_ask layout_step reply new_seqr seqr_step seqr_tick reconf_work_asks reconf_start reconf_feed reconf_latest new_client tests refusal task_asks client_asks task_feed task_again accepts client_command client_deliver client_tick fields_size unit_moves layout_moves seqr_moves client_turned happens limit_of drain_on drain tick_all rounds settle any.first
join_most = less_two

join_stand : (client all_kinds unjoined 0).stand.epoch ≡ 2
unfolding run start node_eq units_of next_of change_fault new_unit unit_ask first_missing on_ask unit_step new_layout layout_ask on_layout_ask layout_step reply new_seqr seqr_step seqr_tick reconf_work_asks reconf_start reconf_feed reconf_latest new_client tests refusal task_asks client_asks task_feed task_again accepts client_command client_deliver client_tick fields_size unit_moves layout_moves seqr_moves client_turned happens limit_of drain_on drain tick_all rounds settle any.first
join_stand = refl

join_sealed : (unit all_kinds unjoined 0).epoch ≡ 2
unfolding run start node_eq units_of next_of change_fault new_unit unit_ask first_missing on_ask unit_step new_layout layout_ask on_layout_ask layout_step reply new_seqr seqr_step seqr_tick reconf_work_asks reconf_start reconf_feed reconf_latest new_client tests refusal task_asks client_asks task_feed task_again accepts client_command client_deliver client_tick fields_size unit_moves layout_moves seqr_moves client_turned happens limit_of drain_on drain tick_all rounds settle any.first
join_sealed = refl

join_spare : (unit all_kinds unjoined 1).epoch ≡ 1
unfolding run start node_eq units_of next_of change_fault new_unit unit_ask first_missing on_ask unit_step new_layout layout_ask on_layout_ask layout_step reply new_seqr seqr_step seqr_tick reconf_work_asks reconf_start reconf_feed reconf_latest new_client tests refusal task_asks client_asks task_feed task_again accepts client_command client_deliver client_tick fields_size unit_moves layout_moves seqr_moves client_turned happens limit_of drain_on drain tick_all rounds settle any.first
join_spare = refl

join_latest : (layout all_kinds unjoined 0).latest.epoch ≡ 2
unfolding run start node_eq units_of next_of change_fault new_unit unit_ask first_missing on_ask unit_step new_layout layout_ask on_layout_ask layout_step reply new_seqr seqr_step seqr_tick reconf_work_asks reconf_start reconf_feed reconf_latest new_client tests refusal task_asks client_asks task_feed task_again accepts client_command client_deliver client_tick fields_size unit_moves layout_moves seqr_moves client_turned happens limit_of drain_on drain tick_all rounds settle any.first
join_latest = refl

join_scanned : (seqr all_kinds unjoined 0).epoch ≡ 2
unfolding run start node_eq units_of next_of change_fault new_unit unit_ask first_missing on_ask unit_step new_layout layout_ask on_layout_ask layout_step reply new_seqr seqr_step seqr_tick reconf_work_asks reconf_start reconf_feed reconf_latest new_client tests refusal task_asks client_asks task_feed task_again accepts client_command client_deliver client_tick fields_size unit_moves layout_moves seqr_moves client_turned happens limit_of drain_on drain tick_all rounds settle any.first
join_scanned = refl

join_units : (u : ℕ) → (unit all_kinds unjoined u).epoch ≤ 2
unfolding run start node_eq units_of next_of change_fault new_unit unit_ask first_missing on_ask unit_step new_layout layout_ask on_layout_ask layout_step reply new_seqr seqr_step seqr_tick reconf_work_asks reconf_start reconf_feed reconf_latest new_client tests refusal task_asks client_asks task_feed task_again accepts client_command client_deliver client_tick fields_size unit_moves layout_moves seqr_moves client_turned happens limit_of drain_on drain tick_all rounds settle any.first
join_units zero = two_most 2 _ join_sealed (omega arith)
join_units (suc zero) = two_most 1 _ join_spare (omega arith)
join_units (suc (suc u)) = two_most 1 _ refl (omega arith)

join_layouts : (n : ℕ) → (layout all_kinds unjoined n).latest.epoch ≤ 2
unfolding run start node_eq units_of next_of change_fault new_unit unit_ask first_missing on_ask unit_step new_layout layout_ask on_layout_ask layout_step reply new_seqr seqr_step seqr_tick reconf_work_asks reconf_start reconf_feed reconf_latest new_client tests refusal task_asks client_asks task_feed task_again accepts client_command client_deliver client_tick fields_size unit_moves layout_moves seqr_moves client_turned happens limit_of drain_on drain tick_all rounds settle any.first
join_layouts zero = two_most 2 _ join_latest (omega arith)
join_layouts (suc n) = two_most 1 _ refl (omega arith)

join_seqrs : (s : ℕ) → (seqr all_kinds unjoined s).epoch ≤ 2
unfolding run start node_eq units_of next_of change_fault new_unit unit_ask first_missing on_ask unit_step new_layout layout_ask on_layout_ask layout_step reply new_seqr seqr_step seqr_tick reconf_work_asks reconf_start reconf_feed reconf_latest new_client tests refusal task_asks client_asks task_feed task_again accepts client_command client_deliver client_tick fields_size unit_moves layout_moves seqr_moves client_turned happens limit_of drain_on drain tick_all rounds settle any.first
join_seqrs zero = two_most 2 _ join_scanned (omega arith)
join_seqrs (suc s) = first_few (suc s == 0)

join_clients : (k : ℕ) → (client all_kinds unjoined k).stand.epoch ≤ 2
unfolding run start node_eq units_of next_of change_fault new_unit unit_ask first_missing on_ask unit_step new_layout layout_ask on_layout_ask layout_step reply new_seqr seqr_step seqr_tick reconf_work_asks reconf_start reconf_feed reconf_latest new_client tests refusal task_asks client_asks task_feed task_again accepts client_command client_deliver client_tick fields_size unit_moves layout_moves seqr_moves client_turned happens limit_of drain_on drain tick_all rounds settle any.first
join_clients zero = two_most 2 _ join_stand (omega arith)
join_clients (suc k) = two_most 1 _ refl (omega arith)

-- below the epoch after the second
none_later : (x e : ℕ) → x ≤ 2 → e ≡ 2 → x ≤ e + 1
none_later x e le f = omega (arith, le, f)

join_above : NoneAbove all_kinds unjoined ((client all_kinds unjoined 0).stand.epoch + 1)
join_above = record {
  units = λ u. none_later _ _ (join_units u) join_stand;
  layouts = λ n. none_later _ _ (join_layouts n) join_stand;
  seqrs = λ s. none_later _ _ (join_seqrs s) join_stand;
  clients = λ k. none_later _ _ (join_clients k) join_stand;
}

-- two ranges, of which the first is closed, and empty
abbrev join_layout : Layout
join_layout = record { epoch = 2; seq = 0; start = 0; by = 0; gone = []; ranges = record { lo = 0; stripes = (0 ∷ []) ∷ [] } ∷ record { lo = 0; stripes = (0 ∷ []) ∷ [] } ∷ [] }

join_next : next_units join_layout joins_stripe ≡ 0 ∷ 1 ∷ []
unfolding units_of next_of
join_next = refl

abbrev unjoined_reconf : Reconf
unjoined_reconf = record { change = joins_stripe; me = 0; layouts = 1; stand = join_layout; work = SealingSpare 6 }

join_runs : (u : ℕ) → Has (0 ∷ 1 ∷ []) u → runs all_kinds unjoined (unit_id u) ≡ true
unfolding run start node_eq units_of next_of change_fault new_unit unit_ask first_missing on_ask unit_step new_layout layout_ask on_layout_ask layout_step reply new_seqr seqr_step seqr_tick reconf_work_asks reconf_start reconf_feed reconf_latest new_client tests refusal task_asks client_asks task_feed task_again accepts client_command client_deliver client_tick fields_size unit_moves layout_moves seqr_moves client_turned happens limit_of drain_on drain tick_all rounds settle any.first
join_runs u (inl e) = subst (λ (v : ℕ). runs all_kinds unjoined (unit_id v) ≡ true) (sym e) refl
join_runs u (inr (inl e)) = subst (λ (v : ℕ). runs all_kinds unjoined (unit_id v) ≡ true) (sym e) refl
join_runs u (inr (inr i)) = absurd i

join_some : ◌≢◌ {A = List ℕ} (0 ∷ 1 ∷ []) []
join_some e = absurd cc

join_two : 2 ≤ 2
join_two = omega arith

join_unit : (j : Join) → joins_stripe.join ≡ Some j → runs all_kinds unjoined (unit_id j.unit) ≡ true
join_unit j e = join_runs j.unit (inr (inl (unit_is j e)))
  where
    unit_is : (j : Join) → Some (record { unit = 1; range = 0; stripe = 0 }) ≡ Some j → j.unit ≡ 1
    unit_is j e = cc

join_waits : WaitsToChange all_kinds unjoined 0 joins_stripe
unfolding run start node_eq units_of next_of change_fault new_unit unit_ask first_missing on_ask unit_step new_layout layout_ask on_layout_ask layout_step reply new_seqr seqr_step seqr_tick reconf_work_asks reconf_start reconf_feed reconf_latest new_client tests refusal task_asks client_asks task_feed task_again accepts client_command client_deliver client_tick fields_size unit_moves layout_moves seqr_moves client_turned happens limit_of drain_on drain tick_all rounds settle any.first
join_waits = record {
  work = _;
  waits = refl;
  reconf = unjoined_reconf;
  hand = refl;
  change = refl;
  stands = refl;
  before = tt;
  waiting = omega arith;
  some = join_some;
  few = join_two;
  units = λ u i. join_runs u (has_contained (0 ∷ 1 ∷ []) u i);
  spare = join_unit;
  layouts = join_most;
  none_above = join_above;
}

join_seals : (n : ℕ) × (join_waits.reconf.work ≡ SealingSpare n)
unfolding join_waits
join_seals = (_, refl)

join_allowed : 2 * unjoined.cluster.units + 64 * unjoined.cluster.layouts + 22 ≡ 90
unfolding run start node_eq units_of next_of change_fault new_unit unit_ask first_missing on_ask unit_step new_layout layout_ask on_layout_ask layout_step reply new_seqr seqr_step seqr_tick reconf_work_asks reconf_start reconf_feed reconf_latest new_client tests refusal task_asks client_asks task_feed task_again accepts client_command client_deliver client_tick fields_size unit_moves layout_moves seqr_moves client_turned happens limit_of drain_on drain tick_all rounds settle any.first
join_allowed = refl

join_counted : deliveries all_kinds (is_with_client all_kinds 0) unjoined (settle all_kinds unjoined).world ≡ 20
unfolding run start node_eq units_of next_of change_fault new_unit unit_ask first_missing on_ask unit_step new_layout layout_ask on_layout_ask layout_step reply new_seqr seqr_step seqr_tick reconf_work_asks reconf_start reconf_feed reconf_latest new_client tests refusal task_asks client_asks task_feed task_again accepts client_command client_deliver client_tick fields_size unit_moves layout_moves seqr_moves client_turned happens limit_of drain_on drain tick_all rounds settle any.first
join_counted = refl

join_tells : trace all_kinds (settle all_kinds unjoined).world ≡ record { event = 0; client = 0; tx = 0; what = told.Installed 2 } ∷ record { event = 0; client = 0; tx = 0; what = told.Installed 3 } ∷ []
unfolding run start node_eq units_of next_of change_fault new_unit unit_ask first_missing on_ask unit_step new_layout layout_ask on_layout_ask layout_step reply new_seqr seqr_step seqr_tick reconf_work_asks reconf_start reconf_feed reconf_latest new_client tests refusal task_asks client_asks task_feed task_again accepts client_command client_deliver client_tick fields_size unit_moves layout_moves seqr_moves client_turned happens limit_of drain_on drain tick_all rounds settle any.first
join_tells = refl

pub joins_settle : JoinsAreAnswered
joins_settle = record { reached = join_reached; alone = join_alone; waits = join_waits; seals = join_seals; allowed = join_allowed; counted = join_counted; tells = join_tells }
