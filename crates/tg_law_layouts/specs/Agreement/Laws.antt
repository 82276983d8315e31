-- Agreement: what is chosen.
use Rattle.std.specs.Prelude.{◌≡◌, ℕ, ◌+◌, true, List, length, slice_get, Some, All, Contains}
use Rattle.tg_base.specs.Layouts.{Layout}
use Rattle.tg_base.specs.Changes.{Changed}
use Rattle.tg_base.specs.declared.ids.Ballot.{Ballot}
use Rattle.tg_base.specs.declared.msg.Msg.TheVariants as msg
use Rattle.tg_base.specs.declared.packet.Packet.{Packet}
use Rattle.tg_protocol.specs.LayoutServers.{LayoutState, vote_of, no_vote}
use Rattle.tg_protocol.specs.Layouts.{next_of}
use Rattle.tg_protocol.specs.Logs.{by_majority}
use Rattle.tg_law_layouts.specs.Agreement.Contests.{Contest, Event, Wish, contest, run}

-- A layout is chosen for an epoch where it was proposed there with a ballot, and a majority of the servers has
-- accepted that ballot.
pub record HasWon (w : Contest) (epoch : ℕ) (q : Layout) : Type 0 where
  pub ballot : Ballot
  pub packet : Packet
  pub sent : Contains w.packets packet
  pub proposes : packet.msg ≡ msg.Accept epoch ballot q
  pub accepted : by_majority w.packets (length w.servers) epoch ballot ≡ true

-- a server that has neither promised nor accepted anything for the next epoch
abbrev pub IsFresh : Layout → LayoutState → Type 0
IsFresh p s = vote_of s (p.epoch + 1) ≡ no_vote

-- one of the clients proposes this layout
pub record IsProposed (p : Layout) (wishes : List Wish) (q : Layout) : Type 0 where
  pub client : ℕ
  pub wish : Wish
  pub is : slice_get wishes client ≡ Some wish
  pub change : Changed
  pub wanted : wish.change ≡ Some change
  pub start : ℕ
  pub layout : q ≡ next_of p change client start

abbrev pub OneIsChosen : Type 0
OneIsChosen = (p : Layout) (servers : List LayoutState) (wishes : List Wish) (es : List Event) (q r : Layout) → All (IsFresh p) servers →
    HasWon (run (contest p servers wishes) es) (p.epoch + 1) q → HasWon (run (contest p servers wishes) es) (p.epoch + 1) r → q ≡ r

abbrev pub ChosenIsProposed : Type 0
ChosenIsProposed = (p : Layout) (servers : List LayoutState) (wishes : List Wish) (es : List Event) (q : Layout) → All (IsFresh p) servers →
    HasWon (run (contest p servers wishes) es) (p.epoch + 1) q → IsProposed p wishes q
