-- What came of the positions of a log.
use Rattle.std.specs.Prelude.{ℕ, Bool, true, false, not, ◌&&◌, ◌==◌, nat_lt, List, [], ◌∷◌, ◌++◌, Option, Some, None, max}
use Rattle.std.specs.List.{list_any}
use Rattle.tg_base.specs.declared.cell.Cell.{Cell}
use Rattle.tg_base.specs.declared.msg.Msg.{Msg}
use Rattle.tg_base.specs.declared.msg.Msg.TheVariants as msg
use Rattle.tg_base.specs.declared.packet.Packet.{Packet}
use Rattle.tg_entry.specs.declared.entry.Body.{Body}
use Rattle.tg_entry.specs.declared.entry.Body.TheVariants.{Commit, Decision as Decides, Checkpoint as Saves}
use Rattle.tg_entry.specs.declared.entry.Entry.{Entry}
use Rattle.tg_model.specs.declared.history.Done.{Done}
use Rattle.tg_picture.specs.declared.picture.LogBox.{LogBox}
use Rattle.tg_picture.specs.declared.picture.Standing.{Standing}
use Rattle.tg_picture.specs.declared.picture.Standing.TheVariants.{Committed, Aborted, Undecided, Decision, Checkpoint, Junk}
use Rattle.tg_entry.specs.Needs.{needs_decision}
use Rattle.tg_protocol.specs.Logs.{Log}
use Rattle.tg_protocol.specs.Pages.{entry_in}

-- the position that a decision record decides
abbrev pub decided_by : Body → List ℕ
decided_by (Decides at is_yes) = at ∷ []
decided_by _ = []

abbrev pub decided_if : Option Entry → List ℕ
decided_if None = []
decided_if (Some e) = decided_by e.body

-- the positions that have a decision record in the log
unfoldable pub decided : Log → List ℕ
decided [] = []
decided (x ∷ xs) = decided_if (entry_in x.1) ++ decided xs

abbrev pub is_in : ℕ → List ℕ → Bool
is_in p ps = list_any (λ q. q == p) ps

-- a transaction of the history is committed at this position
abbrev pub is_done : {Op : Type 0} → ℕ → List (Done Op) → Bool
is_done p ds = list_any (λ d. d.stamp == p) ds

-- of a commit record: whether it lacks a decision that it needs, and else whether it is committed
abbrev pub record_standing : Bool → Bool → Standing
record_standing true done = Undecided
record_standing false true = Committed
record_standing false false = Aborted

abbrev pub body_standing : Body → Bool → Bool → Standing
body_standing (Commit rs ws) lacks done = record_standing lacks done
body_standing (Decides at is_yes) lacks done = Decision
body_standing (Saves o u v w ks s) lacks done = Checkpoint

-- an entry that needs a decision record, and has none among these
abbrev pub lacks_decision : ℕ → Entry → List ℕ → Bool
lacks_decision p e ps = needs_decision e && not (is_in p ps)

abbrev pub standing : {Op : Type 0} → ℕ → Option Entry → List (Done Op) → List ℕ → Standing
standing p None ds ps = Junk
standing p (Some e) ds ps = body_standing e.body (lacks_decision p e ps) (is_done p ds)

-- what a box says of a position: where it is, what came of it, and whether it is trimmed
abbrev pub said : LogBox → ℕ × (Standing × Bool)
said b = (b.pos, (b.standing, b.trimmed))

abbrev pub said_of : {Op : Type 0} → List (Done Op) → List ℕ → ℕ → ℕ × Cell → ℕ × (Standing × Bool)
said_of ds ps gone x = (x.0, (standing x.0 (entry_in x.1) ds ps, nat_lt x.0 gone))

-- below which position a unit says that all is gone
abbrev pub gone_by : Msg → ℕ
gone_by (msg.Gone below) = below
gone_by _ = 0

abbrev pub gone_after : ℕ → List Packet → ℕ
gone_after n [] = n
gone_after n (p ∷ ps) = gone_after (max n (gone_by p.msg)) ps

-- the greatest position below which a unit has said that all is gone
abbrev pub gone_below : List Packet → ℕ
gone_below ps = gone_after 0 ps
