-- What holds of every world: of requests and their numbers, and of what units tell.
use Rattle.std.specs.Prelude.{◌≡◌, ◌⊎◌, ℕ, ◌<◌, ◌≤◌, true, Some}
use Rattle.tg_base.specs.declared.packet.Packet.{Packet}
use Rattle.tg_kind.specs.Meaning.{Meaning}
use Rattle.tg_protocol.specs.Words.{cell_at, plus_one}
use Rattle.tg_protocol.specs.Worlds.{World, unit}
use Rattle.tg_protocol.specs.Chosen.{Sent}
use Rattle.tg_law_layouts.specs.Moves.Telling.{Claim, is_request, Told, SealedBy}

module _ (m : Meaning) where
  -- two requests of one node to one node under one number are the same
  abbrev pub NumbersUnique : World m → Type 0
  NumbersUnique w = (p q : Packet) → Sent m w p → Sent m w q → is_request p.msg ≡ true → is_request q.msg ≡ true →
      p.from ≡ q.from → p.to ≡ q.to → p.rid ≡ q.rid → p.msg ≡ q.msg

  -- what a unit has told is so: it has the cell, or has trimmed it
  pub record IsSo (w : World m) (u : ℕ) (k : Claim) : Type 0 where
    pub epoch : k.epoch ≤ (unit m w u).epoch
    pub high : plus_one k.pos ≤ (unit m w u).high
    pub cell : (cell_at (unit m w u).cells k.pos ≡ Some k.cell) ⊎ (k.pos < (unit m w u).low)

  abbrev pub ToldIsSo : World m → Type 0
  ToldIsSo w = (u : ℕ) (k : Claim) → Told w.packets u k → IsSo w u k

  -- a unit tells one cell at a position
  abbrev pub ToldOnce : World m → Type 0
  ToldOnce w = (u : ℕ) (k l : Claim) → Told w.packets u k → Told w.packets u l → k.pos ≡ l.pos → k.cell ≡ l.cell

  -- what a unit has told in an epoch below a seal's, before the seal or later, lies below the seal's position
  abbrev pub SealsBound : World m → Type 0
  SealsBound w = (u epoch high : ℕ) (k : Claim) → SealedBy w.packets u epoch high → Told w.packets u k → k.epoch < epoch → plus_one k.pos ≤ high
