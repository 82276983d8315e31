-- The lines that one node follows.
use Rattle.std.specs.Prelude.{◌≡◌, ℕ, ◌≤◌, Bool, true, false, ◌&&◌, ◌==◌, nat_le, List, ◌++◌, codes, Option, Some, None, if◌then◌else◌}
use Rattle.std.specs.Str.{bytes_eq}
use Rattle.std.specs.Fmt.{decimal}
use Rattle.tg_base.specs.Clusters.{Header}
use Rattle.tg_base.specs.declared.ids.NodeId.{NodeId}
use Rattle.tg_base.specs.declared.ids.Role.{Role}
use Rattle.tg_base.specs.declared.ids.Role.TheVariants as role
use Rattle.tg_model.specs.declared.command.Event.TheVariants as event
use Rattle.tg_any.specs.Decimals.{number_in}
use Rattle.tg_any.specs.Fronts.{◌>>=◌, after}
use Rattle.tg_script.specs.Lines.{IsLine}
use Rattle.tg_script.specs.declared.line.Line.{Line}
use Rattle.tg_script.specs.declared.line.Line.TheVariants as line
use Rattle.tg_node.specs.declared.asked.Asked.{Asked}
use Rattle.tg_node.specs.declared.asked.Asked.TheVariants.{Tick, Wait, Given, Update}

abbrev pub is_client : Role → Bool
is_client role.Client = true
is_client r = false

-- A text is the line by which this is asked of a node. A line of a script asks a command of a client, which is the node.
abbrev pub IsAsked : Header → NodeId → List ℕ → Asked → Type 0
IsAsked h n text Tick = text ≡ codes "tick"
IsAsked h n text (Wait calls) = (text ≡ codes "wait " ++ decimal calls) × (1 ≤ calls) × (calls ≤ 1000000)
IsAsked h n text (Given c) = (is_client n.role ≡ true) × IsLine h text (line.Event (event.Command n.num c))
IsAsked h n text (Update oid op) = (is_client n.role ≡ true) × IsLine h text (line.Update n.num oid op)

-- What is read of a line that no script has.

abbrev pub wait_of : ℕ → Option Asked
wait_of calls = if nat_le 1 calls && nat_le calls 1000000 then Some (Wait calls) else None

abbrev pub wait_read : List ℕ → Option Asked
wait_read text = after (codes "wait ") text >>= λ digits. number_in digits >>= wait_of

abbrev pub own_read : List ℕ → Option Asked
own_read text = if bytes_eq text (codes "tick") then Some Tick else wait_read text

-- What a line of a script asks of a node.

-- the client with this number is the node
abbrev pub is_node : NodeId → ℕ → Bool
is_node n client = is_client n.role && (n.num == client)

abbrev pub asked_of : NodeId → Line → Option Asked
asked_of n (line.Event (event.Command client c)) = if is_node n client then Some (Given c) else None
asked_of n (line.Update client oid op) = if is_node n client then Some (Update oid op) else None
asked_of n l = None
