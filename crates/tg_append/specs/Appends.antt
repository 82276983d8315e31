-- An append's state in the words of the rules.
use Rattle.std.specs.Prelude.{ℕ, ◌≤◌, Bool, true, false, length, Option, Some, None}
use Rattle.tg_base.specs.Layouts.{Layout}
use Rattle.tg_base.specs.declared.ids.NodeId.{NodeId}
use Rattle.tg_base.specs.declared.msg.Msg.{Msg}
use Rattle.tg_entry.specs.declared.entry.Entry.{Entry}
use Rattle.tg_protocol.specs.Cells.{CellJob}
use Rattle.tg_protocol.specs.Pages.{page_of}
use Rattle.tg_protocol.specs.Replies.{reply}
use Rattle.tg_protocol.specs.Requests.{passes, awaits}
use Rattle.tg_protocol.specs.Appending.{Append, AppendEnd, AppendTurn, Token, AppendWork, Asking, Putting, Judging, At, Full, Forgotten, append_asks, append_feed}
use Rattle.tg_append.specs.declared.append_state.AppendState.{AppendState}
use Rattle.tg_append.specs.declared.append_state.AppendState.TheVariants as state
use Rattle.tg_append.specs.declared.ends.AppendEnd.{AppendEnd as Given}
use Rattle.tg_append.specs.declared.ends.AppendEnd.TheVariants as given
use Rattle.tg_append.specs.Turns.{Shown, by_rules}

-- the entry's page is no longer than a page may be, and so it is with whatever links
abbrev pub HasRoom : Entry → Type 0
HasRoom e = length (page_of e) ≤ 4096

abbrev pub append_at : Entry → Option Token → AppendWork → Append
append_at d t w = record { draft = d; token = t; work = w }

-- an append that asks for a token has none
abbrev pub asking : Entry → ℕ → Append
asking d r = append_at d None (Asking r)

abbrev pub putting : Entry → Token → CellJob → Append
putting d t j = append_at d (Some t) (Putting j)

abbrev pub judging : Entry → Token → CellJob → Append
judging d t j = append_at d (Some t) (Judging j)

abbrev pub append_of : Entry → AppendState → Append
append_of d (state.Asks r) = asking d r
append_of d (state.Puts t j) = putting d t j
append_of d (state.Judges t j) = judging d t j

-- what goes on of an append in a newer layout
pub record Paused : Type 0 where
  pub draft : Entry
  pub token : Option Token

abbrev pub paused : Append → Paused
paused a = record { draft = a.draft; token = a.token }

abbrev pub append_end : Given → AppendEnd
append_end (given.At pos page) = At pos page
append_end (given.Full limit) = Full limit
append_end (given.Forgotten at below) = Forgotten at below

-- an answer to an outstanding request is taken, and every other message is passed by
abbrev pub append_fed_if : Bool → Layout → Append → ℕ → Msg → ℕ → AppendTurn
append_fed_if true p a n m next = append_feed p a a.work n (reply m) next
append_fed_if false p a n m next = passes next a

abbrev pub append_fed : Layout → Append → NodeId → ℕ → Msg → ℕ → AppendTurn
append_fed p a from rid m next = append_fed_if (awaits (append_asks p a) from rid) p a from.num m next

-- what the rules name of an append that began its step with this number
abbrev pub by_append : Layout → ℕ → AppendTurn → Shown Append Paused AppendEnd
by_append p old t = by_rules paused (append_asks p) old t
