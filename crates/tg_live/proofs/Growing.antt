-- A step adds packets to those that were sent, and takes none away.
use Rattle.std.proofs.Common.{◌≡◌, ◌∙◌, ℕ, Bool, true, false, List, [], ◌++◌, Some, None, refl, sym, ap, subst, append_assoc}
use Rattle.std.proofs.lemmas.List.{append-nil}
use Rattle.std.specs.Prelude.{slice_get}
use Rattle.std.specs.declared.option.Option.{Option}
use Rattle.tg_base.specs.declared.ids.NodeId.{NodeId}
use Rattle.tg_base.specs.declared.ids.Role.{Role}
use Rattle.tg_base.specs.declared.ids.Role.TheVariants as role
use Rattle.tg_base.specs.declared.packet.Packet.{Packet}
use Rattle.tg_kind.specs.Meaning.{Meaning}
use Rattle.tg_model.specs.Kinds.{EventOf, CommandOf}
use Rattle.tg_model.specs.declared.command.Event.TheVariants.{Command as Commands, Deliver, Lose, Tick, Stop}
use Rattle.tg_protocol.specs.Clients.{Client}
use Rattle.tg_protocol.specs.ClientSteps.{ClientTurn}
use Rattle.tg_protocol.specs.Worlds.{World, happens, effect, commands, noted_if, delivers, comes, moves, ticks, ticks_if, stops_if, unit_moves, layout_moves, seqr_moves, client_turned, handed}

-- these packets come first
pub record Begins (ps qs : List Packet) : Type 0 where
  pub more : List Packet
  pub whole : qs ≡ ps ++ more

pub same_begins : (ps : List Packet) → Begins ps ps
same_begins ps = record { more = []; whole = sym (append-nil ps) }

pub longer_begins : (ps qs rs : List Packet) → Begins ps qs → Begins qs rs → Begins ps rs
longer_begins ps qs rs a b = record { more = a.more ++ b.more; whole = b.whole ∙ ap (λ (xs : List Packet). xs ++ b.more) a.whole ∙ append_assoc ps a.more b.more }

module _ (m : Meaning) where
  client_sends : (w : World m) (n : ℕ) (t : ClientTurn m) → Begins w.packets (client_turned m w n t).packets
  unfolding client_turned
  client_sends w n t = record { more = _; whole = refl }

  moves_grow : (w : World m) (p : Packet) (r : Role) → Begins w.packets (moves m w p r).packets
  unfolding unit_moves layout_moves seqr_moves client_turned
  moves_grow w p role.Unit = record { more = _; whole = refl }
  moves_grow w p role.Layout = record { more = _; whole = refl }
  moves_grow w p role.Seqr = record { more = _; whole = refl }
  moves_grow w p role.Client = record { more = _; whole = refl }

  comes_grow : (b : Bool) (w : World m) (i : ℕ) (p : Packet) → Begins w.packets (comes m b (handed m w i) p).packets
  comes_grow true w i p = moves_grow (handed m w i) p p.to.role
  comes_grow false w i p = same_begins w.packets

  delivers_grow : (w : World m) (i : ℕ) (o : Option Packet) → Begins w.packets (delivers m w i o).packets
  delivers_grow w i None = same_begins w.packets
  delivers_grow w i (Some p) = comes_grow _ w i p

  noted_same : (b : Bool) (w : World m) (n : ℕ) (c : Client m) → (noted_if m b w n c).packets ≡ w.packets
  noted_same true w n c = refl
  noted_same false w n c = refl

  commands_grow : (b : Bool) (w : World m) (k : ℕ) (x : CommandOf m) → Begins w.packets (commands m b w k x).packets
  commands_grow false w k x = same_begins w.packets
  commands_grow true w k x = subst (λ (ps : List Packet). Begins ps (commands m true w k x).packets) (noted_same _ w k _) (client_sends _ k _)

  ticks_grow : (w : World m) (n : ℕ) (r : Role) → Begins w.packets (ticks m w n r).packets
  unfolding client_turned
  ticks_grow w n role.Unit = same_begins w.packets
  ticks_grow w n role.Layout = same_begins w.packets
  ticks_grow w n role.Seqr = record { more = _; whole = refl }
  ticks_grow w n role.Client = record { more = _; whole = refl }

  ticks_if_grow : (b : Bool) (w : World m) (n : NodeId) → Begins w.packets (ticks_if m b w n).packets
  ticks_if_grow true w n = ticks_grow w n.num n.role
  ticks_if_grow false w n = same_begins w.packets

  stops_same : (b : Bool) (w : World m) (n : NodeId) → Begins w.packets (stops_if m b w n).packets
  stops_same true w n = same_begins w.packets
  stops_same false w n = same_begins w.packets

  effect_grows : (w : World m) (e : EventOf m) → Begins w.packets (effect m w e).packets
  effect_grows w (Commands k x) = commands_grow _ w k x
  effect_grows w (Deliver i) = delivers_grow w i (slice_get w.packets i)
  effect_grows w (Lose i) = same_begins w.packets
  effect_grows w (Tick n) = ticks_if_grow _ w n
  effect_grows w (Stop n) = stops_same _ w n

  pub happens_grows : (w : World m) (e : EventOf m) → Begins w.packets (happens m w e).packets
  unfolding happens
  happens_grows w e = effect_grows w e
