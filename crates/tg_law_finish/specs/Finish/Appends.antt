-- A client that waits for an append alone: of a transaction without reads, a decision record, a checkpoint or a mark.
use Rattle.std.specs.Prelude.{◌≡◌, ◌≢◌, ℕ, zero, suc, ◌<◌, ◌≤◌, Bool, true, false, length, Some}
use Rattle.tg_base.specs.declared.cell.Cell.{Cell}
use Rattle.tg_base.specs.declared.cell.Cell.TheVariants.{Data}
use Rattle.tg_kind.specs.Meaning.{Meaning}
use Rattle.tg_protocol.specs.Words.{cell_at, cell_eq}
use Rattle.tg_protocol.specs.Cells.{CellWork, Puts, Fills, Copies}
use Rattle.tg_protocol.specs.Appending.{Append, AppendWork, Asking, Putting, Judging, Token}
use Rattle.tg_protocol.specs.Clients.{Purpose, Judged, Appending, Doing, Work}
use Rattle.tg_protocol.specs.Worlds.{World, unit, client}
use Rattle.tg_law_finish.specs.Finish.Commands.{plays}
use Rattle.tg_law_finish.specs.Finish.Granted.{chain_at, chain_unit, next_position}

module _ (m : Meaning) where
  -- an append after which nothing is left to do: all but the record of a transaction with reads
  unfoldable pub is_last : Purpose m → Bool
  is_last (Judged) = false
  is_last _ = true

  -- from a place of the chain on, no unit has another cell at the position
  abbrev pub NoOther : World m → ℕ → Cell → ℕ → Type 0
  NoOther w pos c i = (j : ℕ) (x : Cell) → i ≤ j → j < length (chain_at m w pos) → cell_at (unit m w (chain_unit m w pos j)).cells pos ≡ Some x → cell_eq x c ≡ true

  -- a token is in hand, the unit that is asked stands in the position's chain, and the position was issued
  pub record InHand (w : World m) (a : Append) (pos i : ℕ) : Type 0 where
    pub token : Token
    pub has : a.token ≡ Some token
    pub within : i < length (chain_at m w pos)
    pub issued : next_position m w ≢ pos

  -- a page at the first unit, or further down
  abbrev pub PutStands : World m → Append → ℕ → Cell → ℕ → Type 0
  PutStands w a pos c zero = InHand w a pos zero
  PutStands w a pos c (suc i) = InHand w a pos (suc i) × NoOther w pos c (suc i)

  abbrev pub PuttingStands : World m → Append → ℕ → CellWork → Type 0
  PuttingStands w a pos (Puts r d i) = PutStands w a pos (Data d) i
  PuttingStands w a pos _ = ⊥

  -- the position of an old token is filled, or the cell that was found there is copied down
  abbrev pub JudgingStands : World m → Append → ℕ → CellWork → Type 0
  JudgingStands w a pos (Fills r) = InHand w a pos 0
  JudgingStands w a pos (Copies r x i) = InHand w a pos i × NoOther w pos x i
  JudgingStands w a pos _ = ⊥

  -- where an append stands
  abbrev pub AppendStands : World m → Append → AppendWork → Type 0
  AppendStands w a (Asking r) = Unit {0}
  AppendStands w a (Putting j) = PuttingStands w a j.place.pos j.work
  AppendStands w a (Judging j) = JudgingStands w a j.place.pos j.work

  pub record WaitsForAppend (w : World m) (k : ℕ) : Type 0 where
    pub work : Work m
    pub waits : (client m w k).work ≡ Some work
    pub command : plays m work.command ≡ true
    pub append : Append
    pub purpose : Purpose m
    pub hand : work.hand ≡ Doing (Appending append purpose)
    pub last : is_last purpose ≡ true
    pub stands : AppendStands w append append.work
