-- What is kept of a node over its steps.
use Rattle.std.specs.Prelude.{◌≡◌, ◌⊎◌, ℕ, suc, ◌+◌, ◌-◌, ◌<◌, ◌≤◌, List, [], ◌∷◌, ◌++◌, length, take, Option, Some, None}
use Rattle.tg_base.specs.declared.fault.Which.{Which}
use Rattle.tg_base.specs.declared.fault.Which.TheVariants as which
use Rattle.tg_base.specs.declared.ids.NodeId.{NodeId}
use Rattle.tg_io.specs.Acts.{Act, answers_in}
use Rattle.tg_io.specs.Bytes.{Grows}
use Rattle.tg_io.specs.declared.link.Arrival.{Arrival}
use Rattle.tg_io.specs.declared.link.Sent.{Sent}
use Rattle.tg_link_packets.specs.Mail.{all_sent}
use Rattle.tg_node.specs.Replies.{replies_text}
use Rattle.tg_node.specs.declared.asked.Asked.{Asked}
use Rattle.tg_node.specs.declared.asked.Asked.TheVariants.{Tick, Wait, Given, Update}
use Rattle.tg_node_state.specs.Kept.{KeepsNode, IsNode}
use Rattle.tg_node.specs.Acts.{GrowsFront, acts_in, line_acts, wait_acts}
use Rattle.tg_any.specs.AllKinds.{all_kinds}
use Rattle.tg_node.specs.Sessions.{AnyInput, Deed, Session, IsWhole, inputs_by, packets_in, datagrams_in, plays}
use Rattle.tg_node.specs.Texts.{IsPart, IsPast, IsAnother}
use Rattle.tg_node.specs.declared.nodes.Node.{Node}
use Rattle.tg_node.specs.declared.nodes.Moved.{Moved}
use Rattle.tg_node.specs.declared.nodes.Place.{Place}

-- A session is kept so: its node, what it sent since `from`, and its replies, of which those before this line are written.
pub record Stands (from : Option (List Sent)) (written : List ℕ) (k : Node) (told : Option (List Sent)) (s : Session) : Type 0 where
  pub node : KeepsNode all_kinds k.steps k.own s.node
  pub sent : Grows from (all_sent s.sent) told
  pub replies : replies_text s.replies ≡ written ++ k.replies

-- some node of the definitions is kept so, within the limits
pub record IsSound (k : Node) : Type 0 where
  pub node : IsNode all_kinds k.steps k.own
  pub steps : k.steps ≤ 200000
  pub received : k.received ≤ 1000000

-- a session after some inputs in an event
abbrev pub after : Place → List AnyInput → Session → Session
after p is s = plays p.node p.event is s

-- From one node and state of the link to another, in these inputs.
abbrev pub Goes : Place → List AnyInput → Node → Option (List Sent) → Node → Option (List Sent) → Type 0
Goes p is k before l sent = (from : Option (List Sent)) (written : List ℕ) (s : Session) → Stands from written k before s → Stands from written l sent (after p is s)

-- what these inputs do with the link, as far as the limit
abbrev pub made_acts : Place → Node → List AnyInput → Session → List Act
made_acts p k is s = acts_in p.node p.event (take (200000 - k.steps) is) s

-- what a line with these answers does with the link, as far as the limit
abbrev pub asked_acts : Place → Node → Asked → List (Option Arrival) → Session → List Act
asked_acts p k a answers s = line_acts p.node p.event (200000 - k.steps) a answers s

-- What was done with the link is what the session of a node does.
abbrev pub Does : Node → Option (List Sent) → (Session → List Act) → Option (List Act) → Option (List Act) → Type 0
Does k sent acts before after = (from : Option (List Sent)) (written : List ℕ) (s : Session) → Stands from written k sent s → Grows before (acts s) after

-- a front of it was done
abbrev pub Breaks : Node → Option (List Sent) → (Session → List Act) → Option (List Act) → Option (List Act) → Type 0
Breaks k sent acts before after = (from : Option (List Sent)) (written : List ℕ) (s : Session) → Stands from written k sent s → GrowsFront before (acts s) after

-- How many steps were made of so many, and the limit that stopped them, if one did.
abbrev pub Counts : ℕ → Option Which → ℕ → Type 0
Counts all None made = made ≡ all
Counts all (Some which.Steps) made = (200000 < all) × (made ≡ 200000)
Counts all (Some w) made = ⊥

-- A node made these inputs, as far as the limit.
pub record Makes (p : Place) (is : List AnyInput) (k : Node) (before : Option (List Sent)) (m : Moved) (sent : Option (List Sent)) : Type 0 where
  pub goes : Goes p (take (200000 - k.steps) is) k before m.node sent
  pub counts : Counts (k.steps + length is) m.stopped m.node.steps
  pub sound : IsSound m.node

-- What has come of a line, for which this many steps and datagrams are asked in all: it is done, or a limit is passed in its midst.
abbrev pub EndsLine : Asked → List (Option Arrival) → ℕ → ℕ → Option Which → ℕ → Type 0
EndsLine a answers steps datagrams None made = IsWhole a answers × (made ≡ steps)
EndsLine a answers steps datagrams (Some which.Steps) made = IsPart a answers × IsPast a steps
EndsLine a answers steps datagrams (Some which.Datagrams) made = IsPart a answers × IsAnother a answers × (datagrams ≡ 1000000) × (made ≡ steps)
EndsLine a answers steps datagrams (Some which.Bytes) made = ⊥

-- A line was taken with these answers.
pub record TakesLine (p : Place) (a : Asked) (answers : List (Option Arrival)) (k : Node) (before : Option (List Sent)) (m : Moved) (sent : Option (List Sent)) : Type 0 where
  pub goes : Goes p (take (200000 - k.steps) (inputs_by p.node a answers)) k before m.node sent
  pub ends : EndsLine a answers (k.steps + length (inputs_by p.node a answers)) (k.received + datagrams_in answers) m.stopped m.node.steps
  pub received : m.node.received ≡ k.received + datagrams_in answers
  pub sound : IsSound m.node

-- A node after an answer, or stopped, where all steps are made.
pub record TakesOne (p : Place) (a : Option Arrival) (k : Node) (before : Option (List Sent)) (m : Moved) (sent : Option (List Sent)) : Type 0 where
  pub makes : Makes p (packets_in p.node (a ∷ [])) k before m sent
  pub received : m.node.received ≡ k.received + datagrams_in (a ∷ [])

-- A wait so far.
pub record Waits (p : Place) (calls : ℕ) (handed : Option (List (Option Arrival))) (k : Node) (before : Option (List Sent)) (l : Node) (after_handed : Option (List (Option Arrival))) (sent : Option (List Sent)) (acts after_acts : Option (List Act)) : Type 0 where
  pub answers : List (Option Arrival)
  pub many : length answers ≡ calls
  pub grown : Grows handed answers after_handed
  pub makes : Makes p (packets_in p.node answers) k before (record { node = l; stopped = None }) sent
  pub does : Does k before (asked_acts p k (Wait calls) answers) acts after_acts
  pub received : l.received ≡ k.received + datagrams_in answers

-- A line was taken with the answers that were handed.
pub record TookLine (p : Place) (a : Asked) (handed : Option (List (Option Arrival))) (k : Node) (before : Option (List Sent)) (m : Moved) (after_handed : Option (List (Option Arrival))) (sent : Option (List Sent)) (acts after_acts : Option (List Act)) : Type 0 where
  pub answers : List (Option Arrival)
  pub grown : Grows handed answers after_handed
  pub takes : TakesLine p a answers k before m sent
  pub does : Does k before (asked_acts p k a answers) acts after_acts

-- A line was cut off: of what it does with the link, with some answers, a front was done, in which these were handed.
pub record BreaksLine (p : Place) (a : Asked) (k : Node) (sent : Option (List Sent)) (before after : Option (List Act)) : Type 0 where
  pub answers : List (Option Arrival)
  pub part : IsPart a answers
  pub breaks : (from : Option (List Sent)) (written : List ℕ) (s : Session) → Stands from written k sent s
      → (done rest : List Act) × (asked_acts p k a answers s ≡ done ++ rest) × (answers_in done ≡ answers) × Grows before done after
