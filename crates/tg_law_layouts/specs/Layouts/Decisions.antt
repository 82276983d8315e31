-- Decided layouts: what is decided stays, and every layout that a node knows is decided.
use Rattle.std.specs.Prelude.{◌≡◌, ℕ, ◌^◌, ◌<◌, Some}
use Rattle.tg_base.specs.Layouts.{Layout, IsLayout}
use Rattle.tg_base.specs.declared.msg.Msg.{Msg}
use Rattle.tg_base.specs.declared.msg.Msg.TheVariants as msg
use Rattle.tg_base.specs.declared.packet.Packet.{Packet}
use Rattle.tg_kind.specs.Meaning.{Meaning}
use Rattle.tg_protocol.specs.Layouts.{first_layout}
use Rattle.tg_protocol.specs.Logs.{decided}
use Rattle.tg_protocol.specs.Worlds.{World, layout, seqr, client}
use Rattle.tg_protocol.specs.Chosen.{Sent, IsDecided}

module _ (m : Meaning) where
  -- what is decided for an epoch is decided for it in each later world, and no other layout is
  pub record DecidedStays (w v : World m) : Type 0 where
    pub stays : (e : ℕ) (q : Layout) → IsDecided m w e q → IsDecided m v e q
    pub only : (e : ℕ) (p q : Layout) → IsDecided m w e p → IsDecided m v e q → p ≡ q

  -- and so stays what is read off as decided
  abbrev pub ReadStays : World m → World m → Type 0
  ReadStays w v = (e : ℕ) (q : Layout) → decided (first_layout w.cluster) w.packets w.cluster.layouts e ≡ Some q → decided (first_layout v.cluster) v.packets v.cluster.layouts e ≡ Some q

  abbrev pub IsOfDecided : World m → Layout → Type 0
  IsOfDecided w q = IsDecided m w q.epoch q

  abbrev pub TellsDecided : World m → Msg → Type 0
  TellsDecided w (msg.Latest q) = IsOfDecided w q
  TellsDecided w (msg.Decided q) = IsOfDecided w q
  TellsDecided w (msg.Learn q) = IsOfDecided w q
  TellsDecided w x = Unit {0}

  -- every layout at which a node stands, and every one that is told, is decided for its epoch
  pub record LayoutsKnown (w : World m) : Type 0 where
    pub clients : (k : ℕ) → IsOfDecided w (client m w k).stand
    pub servers : (l : ℕ) → IsOfDecided w (layout m w l).latest
    pub seqrs : (s : ℕ) → IsOfDecided w (seqr m w s).proj
    pub sent : (x : Packet) → Sent m w x → TellsDecided w x.msg

  -- every decided layout is of its epoch, keeps the rules of layouts, and starts below 2 ^ 62
  pub record IsSound (e : ℕ) (q : Layout) : Type 0 where
    pub epoch : q.epoch ≡ e
    pub rules : IsLayout q
    pub near : q.start < 2 ^ 62

  abbrev pub LayoutsSound : World m → Type 0
  LayoutsSound w = (e : ℕ) (q : Layout) → IsDecided m w e q → IsSound e q
