-- What holds of each run of the store holds of the run of its nodes' sessions.
use Rattle.std.proofs.Common.{Option, ◌∙◌, sym}
use Rattle.tg_base.specs.Clusters.{Header}
use Rattle.tg_base.specs.declared.ids.NodeId.{NodeId}
use Rattle.tg_kind.specs.Meaning.{Meaning}
use Rattle.tg_protocol.specs.Runs.{Always}
use Rattle.tg_protocol.specs.Worlds.{World, start}
use Rattle.tg_any.specs.AllKinds.{all_kinds}
use Rattle.tg_law_headline.specs.Runs.Runs.{RunHolds}
use Rattle.tg_law_headline.proofs.Runs.Holding.{runs_hold}
use Rattle.tg_law_programs.specs.Sessions.Sessions.{Keeps, run}
use Rattle.tg_law_programs.specs.Sessions.Holding.{MakesARunWhere, EachOrder, moves_of, StoreSessionsHold}
use Rattle.tg_law_programs.specs.Sessions.Nodes.{Ran, HasSession, NodesHold, inputs_ran, session_ran}
use Rattle.tg_law_programs.proofs.Sessions.Reaching.{sessions_reach}
use Rattle.tg_law_programs.proofs.Sessions.Progress.{all_sessions, ran_session}

always_meets : (m : Meaning) (P : World m → Type 0) → Always m P → EachOrder m (MakesARunWhere m P)
always_meets m P each h sessions steps header are kept order =
    let r = sessions_reach m h sessions steps header are kept order in
    record { made = r; holds = each h (moves_of m r.events) (run m (start m h) r.events) r.reaches }

pub store_sessions_hold : StoreSessionsHold
store_sessions_hold = always_meets all_kinds RunHolds runs_hold

-- each node of the world has its own session
has_session : (h : Header) (ran : (n : NodeId) → Option (Ran h n)) (w : World all_kinds) →
    Keeps all_kinds h (λ n. inputs_ran (ran n)) w → (n : NodeId) → HasSession w n (session_ran h n (ran n))
has_session h ran w keeps n =
    let g = ran_session h n (ran n) in
    record {
      node = keeps.nodes n ∙ sym g.node;
      packets = keeps.packets n ∙ sym g.sent;
      replies = keeps.replies n ∙ sym g.replies;
    }

pub nodes_hold : NodesHold
nodes_hold h ran steps header kept order =
    let m = store_sessions_hold h (λ n. inputs_ran (ran n)) steps header (all_sessions h ran) kept order in
    record { made = m; nodes = has_session h ran (run all_kinds (start all_kinds h) m.made.events) m.made.keeps }
