-- Learning a newer layout: all layout servers are asked, and the first newer one that any of them tells is taken.
use Rattle.std.specs.Prelude.{ℕ, ◌+◌, Bool, true, false, ◌&&◌, nat_lt, List}
use Rattle.tg_base.specs.Layouts.{Layout}
use Rattle.tg_base.specs.declared.ids.NodeId.{NodeId}
use Rattle.tg_base.specs.declared.msg.Msg.{Msg}
use Rattle.tg_base.specs.declared.msg.Msg.TheVariants as msg
use Rattle.tg_base.specs.declared.packet.Out.{Out}
use Rattle.tg_base.specs.declared.turn.Stand.{Stand}
use Rattle.tg_base.specs.Orders.{node_eq}
use Rattle.tg_protocol.specs.Words.{layout_id, numbers}
use Rattle.tg_protocol.specs.Requests.{Waits, waits_for, asked_of, Turn, Goes, turn, passes, ends}
use Rattle.tg_protocol.specs.Replies.{Reply, IsLatest, reply}
use Rattle.tg_chain.specs.declared.ends.LearnEnd.{LearnEnd}
use Rattle.tg_chain.specs.declared.ends.LearnEnd.TheVariants.{Known}

pub record Learning : Type 0 where
  pub stand : Stand
  pub waits : Waits

abbrev pub LearnTurn : Type 0
LearnTurn = Turn Learning LearnEnd

-- the requests that are outstanding
abbrev pub learn_asks : Learning → List Out
learn_asks l = asked_of layout_id msg.AskLatest l.waits

-- each layout server is asked under a number of its own
abbrev pub learn : Stand → ℕ → LearnTurn
learn s next = turn (next + s.layouts) (Goes (record { stand = s; waits = waits_for (numbers s.layouts 0) next }))

-- the same servers with another layout
abbrev pub at_layout : Stand → Layout → Stand
at_layout s q = record { proj = q; layouts = s.layouts }

abbrev pub latest_if : Bool → Learning → Layout → ℕ → LearnTurn
latest_if true l q next = ends next (Known (at_layout l.stand q))
latest_if false l q next = passes next l

-- a layout server tells a newer layout
abbrev pub is_newer : Learning → NodeId → Layout → Bool
is_newer l from q = node_eq from (layout_id from.num) && nat_lt l.stand.proj.epoch q.epoch

abbrev pub tells_newer : Learning → NodeId → Reply → Bool
tells_newer l from (IsLatest q) = is_newer l from q
tells_newer l from x = false

-- a newer layout is taken from any layout server, whatever the number
abbrev pub learn_reply : Learning → NodeId → Reply → ℕ → LearnTurn
learn_reply l from (IsLatest q) next = latest_if (is_newer l from q) l q next
learn_reply l from x next = passes next l

unfoldable pub learn_feed : Learning → NodeId → Msg → ℕ → LearnTurn
learn_feed l from m next = learn_reply l from (reply m) next
