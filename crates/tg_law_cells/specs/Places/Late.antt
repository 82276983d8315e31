-- Pages that are sent, and tails that are told, after a layout was decided.
use Rattle.std.specs.Prelude.{◌≡◌, ◌⊎◌, ℕ, ◌≤◌, List}
use Rattle.tg_base.specs.Layouts.{Layout}
use Rattle.tg_base.specs.declared.cell.Cell.TheVariants.{Data}
use Rattle.tg_base.specs.declared.ids.Oid.{Oid}
use Rattle.tg_base.specs.declared.marks.StreamLink.{StreamLink}
use Rattle.tg_base.specs.declared.msg.Msg.TheVariants as msg
use Rattle.tg_base.specs.declared.packet.Packet.{Packet}
use Rattle.tg_kind.specs.Meaning.{Meaning}
use Rattle.tg_protocol.specs.Worlds.{World}
use Rattle.tg_protocol.specs.Chosen.{Sent, IsDecided}
use Rattle.tg_law_layouts.specs.Layouts.Decisions.{IsOfDecided}
use Rattle.tg_law_cells.specs.Cells.Settled.{IsSettled}
use Rattle.tg_law_cells.specs.Tokens.Issuing.{Issued}
use Rattle.tg_law_cells.specs.Order.Tails.{ConfirmedTail}
use Rattle.tg_law_cells.specs.Order.Later.{ToldSince}
use Rattle.tg_law_cells.specs.Places.Left.{ChainServed}

module _ (m : Meaning) where
  -- a page was sent to be stored at a position, in an epoch that isn't before this one
  pub record WasSent (w : World m) (first pos : ℕ) (page : List ℕ) : Type 0 where
    pub epoch : ℕ
    pub late : first ≤ epoch
    pub packet : Packet
    pub sent : Sent m w packet
    pub is : packet.msg ≡ msg.Write epoch pos page

  -- What is settled, and wasn't sent when a layout was decided, was sent in the layout's epoch, or a later one.
  abbrev pub LatePages : World m → World m → Type 0
  LatePages u v = (pos : ℕ) (page : List ℕ) → IsSettled m v pos (Data page) → (q : Layout) → IsOfDecided m u q → WasSent u 0 pos page ⊎ WasSent v q.epoch pos page

  -- each token with which a page was sent was issued after a world
  abbrev pub IsNew : World m → World m → ℕ → List ℕ → Type 0
  IsNew u v pos page = (x : Packet) (s epoch : ℕ) (os : List Oid) (ls : List StreamLink) → Sent m v x → x.msg ≡ msg.Write epoch pos page →
      (i : Issued m v s epoch pos os ls) → i.ask.from ≡ x.from → Sent m u i.answer → ⊥

  -- a tail was confirmed whose layout was decided there
  pub record StoodTail (u v : World m) (epoch tail : ℕ) : Type 0 where
    pub confirmed : ConfirmedTail m u v epoch tail
    pub stood : IsDecided m u epoch confirmed.layout

  -- A new page that is settled doesn't precede a confirmed tail.
  abbrev pub NewPagesFollow : World m → World m → Type 0
  NewPagesFollow u v = (epoch tail pos : ℕ) (page : List ℕ) → StoodTail u v epoch tail → IsSettled m v pos (Data page) → IsNew u v pos page → tail ≤ pos

  -- Nor is a lower tail told afterwards in whose epoch a whole chain of the epoch's layout has served a request since.
  abbrev pub ServedTailsRise : World m → World m → Type 0
  ServedTailsRise u v = (s epoch tail low pos : ℕ) (p : Layout) → StoodTail u v epoch tail → ToldSince m u v s p.epoch low → IsOfDecided m v p → ChainServed m u v p pos → tail ≤ low
