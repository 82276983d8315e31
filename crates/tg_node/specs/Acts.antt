-- What a session does with its link, as one list: each answer when a wait takes it, and each packet when the step that
-- sends it is made.
use Rattle.std.specs.Prelude.{◌≡◌, ℕ, suc, ◌-◌, List, [], ◌∷◌, ◌++◌, length, take, Option}
use Rattle.tg_base.specs.Clusters.{Header}
use Rattle.tg_base.specs.declared.ids.NodeId.{NodeId}
use Rattle.tg_io.specs.Acts.{Act, Goes, Comes}
use Rattle.tg_io.specs.Bytes.{Grows}
use Rattle.tg_io.specs.declared.link.Arrival.{Arrival}
use Rattle.tg_link_packets.specs.Mail.{all_gone, came_to, packets_from}
use Rattle.tg_any.specs.AllKinds.{all_kinds}
use Rattle.tg_node.specs.Sessions.{AnyInput, Deed, Session, input_of, inputs_by, inputs_of, opening, plays, steps}
use Rattle.tg_node.specs.declared.asked.Asked.{Asked}
use Rattle.tg_node.specs.declared.asked.Asked.TheVariants.{Tick, Wait, Given, Update}
use Rattle.tg_node_state.specs.Nodes.{node_step}

-- a step's packets go out when it is made
abbrev pub step_acts : NodeId → AnyInput → Session → List Act
step_acts n i s = all_gone (packets_from n (node_step all_kinds s.node i).sends)

abbrev pub acts_in : NodeId → ℕ → List AnyInput → Session → List Act
acts_in n event [] s = []
acts_in n event (i ∷ is) s = step_acts n i s ++ acts_in n event is (steps n event i s)

-- what comes to the node with an answer, as far as so many steps are left
abbrev pub allowed : NodeId → ℕ → Option Arrival → List AnyInput
allowed n room a = take room (input_of (came_to n a))

-- each answer, and then the packets of the step that it brings, if it brings one, before the next answer is taken
abbrev pub wait_acts : NodeId → ℕ → ℕ → List (Option Arrival) → Session → List Act
wait_acts n event room [] s = []
wait_acts n event room (a ∷ more) s =
    Comes a ∷ (acts_in n event (allowed n room a) s ++ wait_acts n event (room - length (input_of (came_to n a))) more (plays n event (allowed n room a) s))

-- what a line does, with so many steps left
abbrev pub line_acts : NodeId → ℕ → ℕ → Asked → List (Option Arrival) → Session → List Act
line_acts n event room (Wait calls) answers s = wait_acts n event room answers s
line_acts n event room a answers s = acts_in n event (take room (inputs_by n a answers)) s

abbrev pub lines_acts : NodeId → ℕ → ℕ → List Deed → Session → List Act
lines_acts n event room [] s = []
lines_acts n event room (d ∷ ds) s =
    line_acts n event room d.asked d.answers s ++ lines_acts n (suc event) (room - length (inputs_of n d)) ds (plays n event (inputs_of n d) s)

-- what a session does, of the 200,000 steps that it may make
abbrev pub acts_of : Header → NodeId → List Deed → List Act
acts_of h n ds = lines_acts n 1 200000 ds (opening h n)

-- a front of these was done
abbrev pub GrowsFront : Option (List Act) → List Act → Option (List Act) → Type 0
GrowsFront before whole after = (done rest : List Act) × (whole ≡ done ++ rest) × Grows before done after
