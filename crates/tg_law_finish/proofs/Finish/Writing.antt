-- A client that waits for an append alone: of a transaction without reads, a decision record, a checkpoint or a mark.
use Rattle.std.specs.Prelude.{◌≡◌, ℕ, zero, suc, ◌<◌, ◌≤◌, ◌==◌, true, false, length, Some}
use Rattle.tg_base.specs.Layouts.{Layout}
use Rattle.tg_base.specs.declared.cell.Cell.{Cell}
use Rattle.tg_base.specs.declared.cell.Cell.TheVariants.{Data}
use Rattle.tg_kind.specs.Meaning.{Meaning}
use Rattle.tg_protocol.specs.Words.{cell_at, cell_eq}
use Rattle.tg_protocol.specs.Layouts.{chain_of}
use Rattle.tg_protocol.specs.Cells.{CellWork, Puts, Fills, Copies, place_in}
use Rattle.tg_protocol.specs.Appending.{Append, AppendWork, Asking, Putting, Judging, Token}
use Rattle.tg_protocol.specs.Clients.{Purpose, Appending, Doing, Work, Client}
use Rattle.tg_protocol.specs.Worlds.{World, unit, seqr, client}
use Rattle.tg_law_finish.specs.Finish.Appends.{is_last}
use Rattle.tg_law_finish.proofs.Finish.Working.{at_chain}

module _ (m : Meaning) where
  -- from a place of the chain on no unit has another cell at the position
  abbrev pub Clear : World m → Layout → ℕ → Cell → ℕ → Type 0
  Clear w p pos c i = (j : ℕ) (x : Cell) → i ≤ j → j < length (chain_of p pos) → cell_at (unit m w (at_chain m p pos j)).cells pos ≡ Some x → cell_eq x c ≡ true

  -- a request for a cell: of this epoch, with a token in hand, and not for the next position
  pub record InHand (w : World m) (c : Client m) (p : Layout) (a : Append) (pos rid i : ℕ) : Type 0 where
    pub token : Token
    pub has : a.token ≡ Some token
    pub less : i < length (chain_of p pos)
    pub off : ((seqr m w p.seq).next == pos) ≡ false
    pub below : rid < c.next

  -- a page below the head
  abbrev pub PutAt : World m → Client m → Layout → Append → ℕ → ℕ → Cell → ℕ → Type 0
  PutAt w c p a pos r d zero = InHand w c p a pos r zero
  PutAt w c p a pos r d (suc i) = InHand w c p a pos r (suc i) × Clear w p pos d (suc i)

  abbrev pub PutStands : World m → Client m → Layout → Append → ℕ → CellWork → Type 0
  PutStands w c p a pos (Puts r d i) = PutAt w c p a pos r (Data d) i
  PutStands w c p a pos _ = ⊥

  abbrev pub JudgeStands : World m → Client m → Layout → Append → ℕ → CellWork → Type 0
  JudgeStands w c p a pos (Fills r) = InHand w c p a pos r 0
  JudgeStands w c p a pos (Copies r x i) = InHand w c p a pos r i × Clear w p pos x i
  JudgeStands w c p a pos _ = ⊥

  -- where an append stands: what holds of every world of a script
  abbrev pub Stands : World m → Client m → Layout → Append → AppendWork → Type 0
  Stands w c p a (Asking r) = r < c.next
  Stands w c p a (Putting j) = (j.place ≡ place_in p j.place.pos) × PutStands w c p a j.place.pos j.work
  Stands w c p a (Judging j) = (j.place ≡ place_in p j.place.pos) × JudgeStands w c p a j.place.pos j.work

  pub record Writes (w : World m) (k : ℕ) (p : Layout) : Type 0 where
    pub work : Work m
    pub waits : (client m w k).work ≡ Some work
    pub append : Append
    pub purpose : Purpose m
    pub hand : work.hand ≡ Doing (Appending append purpose)
    pub last : is_last m purpose ≡ true
    pub stands : Stands w (client m w k) p append append.work
