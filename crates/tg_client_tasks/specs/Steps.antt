-- What a step gives, as a client of the rules is kept.
use Rattle.std.specs.Prelude.{◌≡◌, ℕ, ◌+◌, List, ◌++◌}
use Rattle.tg_base.specs.Layouts.{Layout}
use Rattle.tg_base.specs.declared.packet.Out.{Out}
use Rattle.tg_kind.specs.Meaning.{Meaning}
use Rattle.tg_protocol.specs.Requests.{waits_for}
use Rattle.tg_protocol.specs.Words.{numbers}
use Rattle.tg_protocol.specs.Clients as told
use Rattle.tg_protocol.specs.ClientSteps.{ClientTurn, asks_latest, hand_again_asks}
use Rattle.tg_client_state.specs.Tasks.{WorkOf, KeepsHand}
use Rattle.tg_client_state.specs.States.{MovedOf, KeepsClient}

module _ (m : Meaning) where
  -- what a whole step gives
  pub record KeepsStep (r : MovedOf m) (x : ClientTurn m) : Type 0 where
    pub now : KeepsClient m r.state r.work x.now
    pub sends : r.sends ≡ x.sends
    pub notes : r.notes ≡ x.notes

  -- a tick in this layout sends this of the command that waits, and draws numbers from the one to the other
  pub record Draws (p : Layout) (layouts next after : ℕ) (w : WorkOf m) (sends : List Out) : Type 0 where
    pub later : after ≡ next + layouts
    pub sent : (h : told.Hand m) → KeepsHand m w.hand h → sends ≡ hand_again_asks m p h ++ asks_latest m (waits_for (numbers layouts 0) next)
