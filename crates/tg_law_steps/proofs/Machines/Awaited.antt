-- Which requests of a reconfiguration an awaited answer is to: those of the voting that it is fed to.
use Rattle.std.proofs.Common.{◌≡◌, ◌⊎◌, ℕ, List, [], ◌∷◌, ◌++◌, true, false, refl, sym, ◌∙◌, inl, inr, arith, Some, None, Option}
use Rattle.std.specs.Prelude.{◌==◌, ◌&&◌}
use Rattle.tg_base.specs.declared.ids.NodeId.{NodeId}
use Rattle.tg_base.specs.declared.msg.Msg.{Msg}
use Rattle.tg_base.specs.declared.packet.Out.{Out}
use Rattle.tg_base.specs.Orders.{node_eq}
use Rattle.tg_protocol.specs.Words.{layout_id}
use Rattle.tg_protocol.specs.Requests.{Waits, awaits, asked_of}
use Rattle.tg_protocol.specs.Replies.{Reply}
use Rattle.tg_protocol.specs.Reconfiguring.{Stage, Preparing, Accepting, Later, Voting, Reconf, has_rid, stage_asks, set_asks}
use Rattle.tg_law_steps.proofs.Machines.Reconfs.{set_waits, IsVoting, Present, IsBegun}

-- an awaited answer of a layout server
pub record OfServer (from : NodeId) (rid : ℕ) (ws : Waits) : Type 0 where
  pub server : from ≡ layout_id from.num
  pub waits : has_rid from.num rid ws ≡ true

awaited_more : (m : Msg) (w : ℕ × ℕ) (ws : Waits) (from : NodeId) (rid : ℕ) → (awaits (asked_of layout_id m ws) from rid ≡ true → OfServer from rid ws)
    → awaits (asked_of layout_id m (w ∷ ws)) from rid ≡ true → OfServer from rid (w ∷ ws)
unfolding node_eq
awaited_more m w ws from rid rest h = grind arith

pub awaited_asked : (m : Msg) (ws : Waits) (from : NodeId) (rid : ℕ) → awaits (asked_of layout_id m ws) from rid ≡ true → OfServer from rid ws
awaited_asked m [] from rid h = absurd (cc)
awaited_asked m (w ∷ ws) from rid h = awaited_more m w ws from rid (awaited_asked m ws from rid) h

either_more : (o : Out) (xs ys : List Out) (from : NodeId) (rid : ℕ) → (awaits (xs ++ ys) from rid ≡ true → (awaits xs from rid ≡ true) ⊎ (awaits ys from rid ≡ true))
    → awaits (o ∷ xs ++ ys) from rid ≡ true → (awaits (o ∷ xs) from rid ≡ true) ⊎ (awaits ys from rid ≡ true)
either_more o xs ys from rid rest h = grind arith

pub awaited_either : (xs ys : List Out) (from : NodeId) (rid : ℕ) → awaits (xs ++ ys) from rid ≡ true → (awaits xs from rid ≡ true) ⊎ (awaits ys from rid ≡ true)
awaited_either [] ys from rid h = inr h
awaited_either (o ∷ xs) ys from rid h = either_more o xs ys from rid (awaited_either xs ys from rid) h

abbrev pub stage_waits : Stage → Waits
stage_waits (Preparing ws hs) = ws
stage_waits (Accepting ws k q) = ws

pub stage_awaited : (r : Reconf) (round : ℕ) (s : Stage) (from : NodeId) (rid : ℕ) → awaits (stage_asks r round s) from rid ≡ true → OfServer from rid (stage_waits s)
stage_awaited r round (Preparing ws hs) from rid h = awaited_asked _ ws from rid h
stage_awaited r round (Accepting ws k q) from rid h = awaited_asked _ ws from rid h

set_awaited : (r : Reconf) (o : Option Later) (from : NodeId) (rid : ℕ) → awaits (set_asks r o) from rid ≡ true → OfServer from rid (set_waits o)
set_awaited r None from rid h = absurd (cc)
set_awaited r (Some l) from rid h = awaited_asked _ l.waits from rid h

-- an answer that a voting awaits
voting_awaited : (r : Reconf) (v : Voting) (from : NodeId) (rid : ℕ) → awaits (stage_asks r v.round v.stage ++ set_asks r v.later) from rid ≡ true
    → OfServer from rid (stage_waits v.stage) ⊎ OfServer from rid (set_waits v.later)
voting_awaited r v from rid h = by (awaited_either (stage_asks r v.round v.stage) (set_asks r v.later) from rid h)
  where
    by : (awaits (stage_asks r v.round v.stage) from rid ≡ true) ⊎ (awaits (set_asks r v.later) from rid ≡ true) → OfServer from rid (stage_waits v.stage) ⊎ OfServer from rid (set_waits v.later)
    by (inl a) = inl (stage_awaited r v.round v.stage from rid a)
    by (inr a) = inr (set_awaited r v.later from rid a)

-- it is to a request of the stage that it is fed to
pub voting_fed : (r : Reconf) (v u : Voting) (from : NodeId) (rid : ℕ) (x : Reply) (next : ℕ) → IsVoting from.num rid x next r v u
    → awaits (stage_asks r v.round v.stage ++ set_asks r v.later) from rid ≡ true → OfServer from rid (stage_waits u.stage)
voting_fed r v _ from rid x next (Present none) h = by (voting_awaited r v from rid h)
  where
    contrary : false ≡ true → ⊥
    contrary e = cc

    by : OfServer from rid (stage_waits v.stage) ⊎ OfServer from rid (set_waits v.later) → OfServer from rid (stage_waits v.stage)
    by (inl a) = a
    by (inr a) = absurd (contrary (sym none ∙ a.waits))
voting_fed r v _ from rid x next (IsBegun l is has answers) h = record { server = by (voting_awaited r v from rid h); waits = has }
  where
    by : OfServer from rid (stage_waits v.stage) ⊎ OfServer from rid (set_waits v.later) → from ≡ layout_id from.num
    by (inl a) = a.server
    by (inr a) = a.server
