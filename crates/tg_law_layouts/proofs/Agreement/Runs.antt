-- Two clients propose for one epoch: the second one's layout is chosen, and the first, in its next round, proposes it
-- too.
use Rattle.std.proofs.Common.{◌≡◌, ℕ, List, [], ◌∷◌, true, refl, Some, None, Option}
use Rattle.std.specs.Prelude.{slice_get}
use Rattle.tg_base.specs.Layouts.{Layout}
use Rattle.tg_base.specs.declared.ids.Ballot.{Ballot}
use Rattle.tg_base.specs.declared.msg.Msg.{Msg}
use Rattle.tg_base.specs.declared.msg.Msg.TheVariants as msg
use Rattle.tg_base.specs.declared.packet.Packet.{Packet}
use Rattle.tg_base.specs.Orders.{node_eq}
use Rattle.tg_protocol.specs.Layouts.{units_of, next_of}
use Rattle.tg_protocol.specs.LayoutServers.{new_layout, layout_step, layout_ask, on_layout_ask}
use Rattle.tg_protocol.specs.Logs.{by_majority}
use Rattle.tg_protocol.specs.Replies.{reply}
use Rattle.tg_protocol.specs.Reconfiguring.{reconf_start, reconf_feed, reconf_latest, reconf_work_asks}
use Rattle.tg_law_layouts.specs.Agreement.Contests.{Contest, Event, Arrives, Answers, Ticks, Wish, contest, proposers_from, packets_from, run, happens, hears}

first : Layout
first = record { epoch = 1; seq = 0; start = 0; by = 0; gone = []; ranges = record { lo = 0; stripes = (0 ∷ []) ∷ [] } ∷ [] }

-- a change to this sequencer
wish_for : ℕ → Wish
wish_for seq = record { change = Some (record { seq = seq; drop = []; opened = (0 ∷ []) ∷ []; join = None }); next = 1 }

-- the layout of epoch 2 that a client proposes
second : ℕ → ℕ → Layout
second seq by = record {
  epoch = 2;
  seq = seq;
  start = 0;
  by = by;
  gone = [];
  ranges = record { lo = 0; stripes = (0 ∷ []) ∷ [] } ∷ record { lo = 0; stripes = (0 ∷ []) ∷ [] } ∷ [];
}

events : List Event
events =
    Answers 0 0 1 (msg.Sealed 2 0) ∷ Answers 0 1 1 (msg.Sealed 2 0) ∷
    -- l0 and l1 promise c0's first ballot, and l1 and l2 promise c1's
    Arrives 2 ∷ Arrives 3 ∷ Arrives 6 ∷ Arrives 7 ∷ Arrives 8 ∷ Arrives 9 ∷ Arrives 10 ∷ Arrives 11 ∷
    -- l0 accepts c0's layout, and l1 doesn't; l1 and l2 accept c1's
    Arrives 12 ∷ Arrives 13 ∷ Arrives 16 ∷ Arrives 17 ∷ Arrives 18 ∷ Arrives 19 ∷
    -- c0's second ballot
    Ticks 0 ∷ Arrives 22 ∷ Arrives 23 ∷ Arrives 25 ∷ Arrives 26 ∷ []

after : Contest
after = run (contest first (new_layout first ∷ new_layout first ∷ new_layout first ∷ []) (wish_for 0 ∷ wish_for 1 ∷ [])) events

ballot : ℕ → ℕ → Ballot
ballot round client = record { round = round; client = client }

msg_at : List Packet → ℕ → Option Msg
msg_at ps i = said (slice_get ps i)
  where
    said : Option Packet → Option Msg
    said None = None
    said (Some p) = Some p.msg

-- c1's layout is chosen
chosen : (by_majority after.packets 3 2 (ballot 1 1) ≡ true) × (msg_at after.packets 16 ≡ Some (msg.Accept 2 (ballot 1 1) (second 1 1)))
unfolding after first wish_for second events ballot msg_at contest proposers_from packets_from run happens hears reply reconf_start reconf_feed reconf_latest reconf_work_asks new_layout layout_step layout_ask on_layout_ask node_eq units_of next_of
chosen = (refl, refl)

-- and c0 proposes it too
adopted : msg_at after.packets 27 ≡ Some (msg.Accept 2 (ballot 2 0) (second 1 1))
unfolding after first wish_for second events ballot msg_at contest proposers_from packets_from run happens hears reply reconf_start reconf_feed reconf_latest reconf_work_asks new_layout layout_step layout_ask on_layout_ask node_eq units_of next_of
adopted = refl
