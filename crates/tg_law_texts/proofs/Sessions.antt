-- Sessions of which one is a command.
use Rattle.std.proofs.Common.{◌≡◌, ℕ, zero, suc, ◌≤◌, List, [], ◌∷◌, length, map, Bool, true, false, None, refl, sym, ap, ◌∙◌, subst, arith}
use Rattle.std.proofs.lemmas.Bool.Decides.{nat_tests}
use Rattle.std.specs.Prelude.{◌==◌, filter, Contains, if◌then◌else◌}
use Rattle.tg_base.specs.declared.ids.NodeId.{NodeId}
use Rattle.tg_base.specs.declared.ids.Role.{Role}
use Rattle.tg_base.specs.declared.ids.Role.TheVariants as role
use Rattle.tg_base.specs.declared.packet.Packet.{Packet}
use Rattle.tg_model.specs.declared.command.Command.TheVariants as cmd
use Rattle.tg_model.specs.declared.command.Event.TheVariants as event
use Rattle.tg_model.specs.declared.trace.What.TheVariants as told
use Rattle.tg_model.specs.Kinds.{EventOf}
use Rattle.tg_base.specs.Orders.{node_eq}
use Rattle.tg_protocol.specs.Words.{client_id}
use Rattle.tg_protocol.specs.Units.{new_unit}
use Rattle.tg_protocol.specs.Clients.{new_client, tests, refusal}
use Rattle.tg_protocol.specs.ClientSteps.{client_asks, accepts, client_command}
use Rattle.tg_protocol.specs.Logs.{newest, log_of, entries_of, history_of}
use Rattle.tg_protocol.specs.Worlds.{World, client, start, latest, log, history, client_turned, happens}
use Rattle.tg_protocol.specs.Runs.{Move, Takes, LawfulMove, most_steps, Reaches}
use Rattle.tg_protocol.specs.Runs as runs
use Rattle.tg_any.specs.AllKinds.{all_kinds}
use Rattle.tg_node_state.specs.Nodes.{InputOf, node_step, node_start}
use Rattle.tg_law_programs.specs.Sessions.Sessions.{Step, Said, session, after, given, gathered, sends_of, says_of, said, said_in, node_in, IsOrder, AreEventsOf, Shows, Keeps, run}
use Rattle.tg_law_programs.specs.Sessions.Holding.{LawfulInput, AreSessions, moves_of, MakesARun}
use Rattle.tg_law_texts.specs.Texts.{cluster}
use Rattle.tg_law_texts.specs.Sessions.{Sessions, Hold, begins, one_begins, in_order, idle, takes_unsent, stranger_begins}
use Rattle.tg_law_texts.proofs.Small.{none_in, only_one}
use Rattle.tg_law_texts.proofs.Begun.{IsBegun, begun_holds}
use Rattle.tg_law_texts.proofs.Replays.{header}

-- The sessions.

by_either : (P : List (InputOf all_kinds) → Type 0) → P (begins ∷ []) → P [] → (b : Bool) → P (if b then begins ∷ [] else [])
by_either P h g true = h
by_either P h g false = g

lawful : AreSessions all_kinds one_begins
lawful = record {
  lawful = λ n i c. by_either (λ (is : List (InputOf all_kinds)). Contains is i → LawfulInput all_kinds i) (λ c. subst (LawfulInput all_kinds) (sym (only_one begins i c)) tt) (λ c. absurd (none_in i c)) (node_eq n (client_id 0)) c;
  few = λ n. by_either (λ (is : List (InputOf all_kinds)). length is ≤ 200000) (omega arith) (omega arith) (node_eq n (client_id 0));
}

kept : (n : NodeId) → session all_kinds n in_order ≡ one_begins n
kept n = by (node_eq n (client_id 0))
  where
    by : (b : Bool) → map (λ (s : Step all_kinds). s.input) (if b then in_order else []) ≡ (if b then begins ∷ [] else [])
    by true = refl
    by false = refl

ordered : IsOrder all_kinds cluster in_order
ordered = ((refl, refl), tt)

-- Their run.

other : (k : ℕ) → (suc k == 0) ≡ false
other k = grind (arith, nat_tests)

-- another client
abbrev later : ℕ → NodeId
later k = client_id (suc k)

abbrev events : List (EventOf all_kinds)
events = event.Command 0 cmd.Begin ∷ []

abbrev begun : World all_kinds
begun = run all_kinds (start all_kinds cluster) events

shows : Shows all_kinds cluster in_order begun
unfolding run start happens client_turned client_command refusal tests accepts new_client client_asks after given gathered node_step node_eq
shows = record { packets = refl; replies = refl }

nodes_are : (r : Role) (k : ℕ) → node_in all_kinds begun (record { role = r; num = k }) ≡ after all_kinds (node_start all_kinds cluster (record { role = r; num = k })) (one_begins (record { role = r; num = k }))
unfolding run start happens client_turned client_command refusal tests accepts new_client client_asks after node_step node_eq
nodes_are role.Unit zero = refl
nodes_are role.Unit (suc k) = refl
nodes_are role.Layout zero = refl
nodes_are role.Layout (suc k) = refl
nodes_are role.Seqr zero = refl
nodes_are role.Seqr (suc k) = refl
nodes_are role.Client zero = refl
nodes_are role.Client (suc k) = ap (λ (b : Bool). after all_kinds (node_start all_kinds cluster (later k)) (if b then begins ∷ [] else [])) (sym (other k))

packets_are : (r : Role) (k : ℕ) → filter (λ (p : Packet). node_eq (record { role = r; num = k }) p.from) begun.packets ≡ given all_kinds (sends_of all_kinds (record { role = r; num = k })) (node_start all_kinds cluster (record { role = r; num = k })) (one_begins (record { role = r; num = k }))
unfolding run start happens client_turned client_command refusal tests accepts new_client client_asks given node_step node_eq
packets_are role.Unit k = refl
packets_are role.Layout k = refl
packets_are role.Seqr k = refl
packets_are role.Client zero = refl
packets_are role.Client (suc k) = ap (λ (b : Bool). given all_kinds (sends_of all_kinds (later k)) (node_start all_kinds cluster (later k)) (if b then begins ∷ [] else [])) (sym (other k))

replies_are : (r : Role) (k : ℕ) → filter (λ (x : Said all_kinds). node_eq (record { role = r; num = k }) x.node) (said_in all_kinds begun) ≡ given all_kinds (says_of all_kinds (record { role = r; num = k })) (node_start all_kinds cluster (record { role = r; num = k })) (one_begins (record { role = r; num = k }))
unfolding run start happens client_turned client_command refusal tests accepts new_client client_asks given node_step node_eq
replies_are role.Unit k = refl
replies_are role.Layout k = refl
replies_are role.Seqr k = refl
replies_are role.Client zero = refl
replies_are role.Client (suc k) =
    subst (λ (b : Bool). filter (λ (x : Said all_kinds). b) (said_in all_kinds begun) ≡ given all_kinds (says_of all_kinds (later k)) (node_start all_kinds cluster (later k)) (if b then begins ∷ [] else [])) (sym (other k)) refl

keeps : Keeps all_kinds cluster one_begins begun
keeps = record {
  nodes = λ n. nodes_are n.role n.num;
  packets = λ n. packets_are n.role n.num;
  replies = λ n. replies_are n.role n.num;
}

lawful_moves : (x : Move all_kinds) → Contains (moves_of all_kinds events) x → LawfulMove all_kinds cluster x
lawful_moves x c = subst (LawfulMove all_kinds cluster) (sym (only_one (Takes (event.Command 0 cmd.Begin)) x c)) (omega arith, tt)

same_run : begun ≡ runs.run all_kinds (moves_of all_kinds events) (start all_kinds cluster)
unfolding run runs.run
same_run = refl

one_step : begun.steps ≡ 1
unfolding run start happens client_turned new_client
one_step = refl

reaches : Reaches all_kinds cluster (moves_of all_kinds events) begun
unfolding start
reaches = record { header = header; goes = record { lawful = lawful_moves; is = same_run; few = omega (arith, one_step) } }

no_view : (k : ℕ) → (client all_kinds begun k).view ≡ None
unfolding run start happens client_turned client_command refusal tests accepts new_client client_asks
no_view zero = refl
no_view (suc k) = refl

is_begun : IsBegun all_kinds begun
unfolding run start happens client_turned client_command refusal tests accepts new_client client_asks history log latest newest log_of entries_of history_of new_unit
is_begun = record {
  first = record { mark = record { event = 0; client = 0; tx = 1; what = told.Begin }; noted = record { next = 1; epoch = 1; upto = 0 } };
  only = refl;
  begins = refl;
  history = refl;
  entries = refl;
  views = no_view;
}

makes_a_run : MakesARun all_kinds cluster one_begins in_order
makes_a_run = record { events = events; follows = (refl, tt); shows = shows; keeps = keeps; reaches = reaches }

pub hold : Hold cluster one_begins in_order
unfolding makes_a_run
hold = record { header = header; lawful = lawful; kept = kept; order = ordered; run = record { made = makes_a_run; holds = begun_holds all_kinds begun is_begun } }

-- Others make none.

one_said : said all_kinds cluster in_order ≡ record { node = client_id 0; tx = 1; what = told.Begin } ∷ []
unfolding client_command refusal tests accepts new_client client_asks after gathered node_step node_eq
one_said = refl

pub idle_makes_none : MakesARun all_kinds cluster idle in_order → ⊥
unfolding given node_eq
idle_makes_none h =
    let e = ap (λ (xs : List (Said all_kinds)). filter (λ (x : Said all_kinds). node_eq (client_id 0) x.node) xs) (sym (h.shows.replies ∙ one_said)) ∙ h.keeps.replies (client_id 0) in
    absurd cc

not_sent : (events : List (EventOf all_kinds)) → AreEventsOf all_kinds (start all_kinds cluster) takes_unsent events → ⊥
unfolding start
not_sent [] f = f
not_sent (e ∷ es) f = let none = f.0.2 in absurd cc

pub unsent_makes_none : (sessions : Sessions) → MakesARun all_kinds cluster sessions takes_unsent → ⊥
unsent_makes_none sessions h = not_sent h.events h.follows

stranger_said : said all_kinds cluster stranger_begins ≡ record { node = client_id 1; tx = 1; what = told.Begin } ∷ []
unfolding client_command refusal tests accepts new_client client_asks after gathered node_step node_eq
stranger_said = refl

not_told : (events : List (EventOf all_kinds)) → AreEventsOf all_kinds (start all_kinds cluster) stranger_begins events → said_in all_kinds (run all_kinds (start all_kinds cluster) events) ≡ []
unfolding run start happens
not_told [] f = absurd f
not_told (e ∷ []) f = ap (λ (e : EventOf all_kinds). said_in all_kinds (happens all_kinds (start all_kinds cluster) e)) f.0
not_told (e ∷ d ∷ es) f = absurd f.1

pub stranger_makes_none : (sessions : Sessions) → MakesARun all_kinds cluster sessions stranger_begins → ⊥
stranger_makes_none sessions h = let e = sym (not_told h.events h.follows) ∙ h.shows.replies ∙ stranger_said in absurd cc
