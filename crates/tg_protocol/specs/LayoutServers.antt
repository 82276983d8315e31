-- A layout server: an acceptor of Paxos, for each epoch above 1, that tells the latest decided layout.
use Rattle.std.specs.Prelude.{ℕ, Bool, true, false, ◌==◌, nat_lt, List, [], Option, Some, None}
use Rattle.std.specs.Ordering.{nat_cmp}
use Rattle.std.specs.Map.{lookup}
use Rattle.std.specs.BTreeMap.{insert_entry, is_at}
use Rattle.tg_base.specs.Layouts.{Layout}
use Rattle.tg_base.specs.declared.ids.Ballot.{Ballot}
use Rattle.tg_base.specs.declared.msg.Msg.{Msg}
use Rattle.tg_base.specs.declared.msg.Msg.TheVariants as msg
use Rattle.tg_protocol.specs.Words.{ballot_lt}

-- what an acceptor keeps of one epoch
pub record Vote : Type 0 where
  pub promised : Ballot
  pub accepted : Option (Ballot × Layout)

pub record LayoutState : Type 0 where
  pub latest : Layout
  pub votes : List (ℕ × Vote)  -- by epoch

unfoldable pub new_layout : Layout → LayoutState
new_layout first = record { latest = first; votes = [] }

-- before anything was promised: a ballot below all others
abbrev pub no_vote : Vote
no_vote = record { promised = record { round = 0; client = 0 }; accepted = None }

abbrev pub vote_or : Option Vote → Vote
vote_or None = no_vote
vote_or (Some v) = v

abbrev pub vote_of : LayoutState → ℕ → Vote
vote_of s e = vote_or (lookup (is_at (nat_cmp e)) s.votes)

abbrev pub with_vote : LayoutState → ℕ → Vote → LayoutState
with_vote s e v = record s { votes = insert_entry nat_cmp s.votes e v }

-- what a layout server is asked
pub data LayoutAsk : Type 0 where
  Prepares : (epoch : ℕ) → (ballot : Ballot) → LayoutAsk
  Accepts : (epoch : ℕ) → (ballot : Ballot) → (proj : Layout) → LayoutAsk
  Tells : (proj : Layout) → LayoutAsk  -- that it is decided
  Asks : LayoutAsk
  Nothing : LayoutAsk

unfoldable pub layout_ask : Msg → LayoutAsk
layout_ask (msg.Prepare e b) = Prepares e b
layout_ask (msg.Accept e b q) = Accepts e b q
layout_ask (msg.Decided q) = Tells q
layout_ask msg.AskLatest = Asks
layout_ask _ = Nothing

pub record LayoutTurn : Type 0 where
  pub now : LayoutState
  pub says : Option Msg

abbrev pub says : LayoutState → Msg → LayoutTurn
says s m = record { now = s; says = Some m }

abbrev pub tells_latest : LayoutState → LayoutTurn
tells_latest s = says s (msg.Latest s.latest)

-- a greater ballot was promised: no
abbrev pub on_prepare : LayoutState → ℕ → Ballot → Vote → Bool → LayoutTurn
on_prepare s e b v true = says s (msg.Nack e v.promised)
on_prepare s e b v false = says (with_vote s e (record { promised = b; accepted = v.accepted })) (msg.Promise e b v.accepted)

abbrev pub on_accept : LayoutState → ℕ → Ballot → Layout → Vote → Bool → LayoutTurn
on_accept s e b q v true = says s (msg.Nack e v.promised)
on_accept s e b q v false = says (with_vote s e (record { promised = b; accepted = Some (b, q) })) (msg.Accepted e b)

-- the first epoch's layout is the header's, and isn't voted on
abbrev pub past_first : Bool → LayoutState → LayoutTurn → LayoutTurn
past_first true s t = tells_latest s
past_first false s t = t

abbrev pub on_decided : LayoutState → Layout → Bool → LayoutTurn
on_decided s q true = says (record s { latest = q }) (msg.Latest q)
on_decided s q false = tells_latest s

unfoldable pub on_layout_ask : LayoutState → LayoutAsk → LayoutTurn
on_layout_ask s (Prepares e b) = past_first (e == 1) s (on_prepare s e b (vote_of s e) (ballot_lt b (vote_of s e).promised))
on_layout_ask s (Accepts e b q) = past_first (e == 1) s (on_accept s e b q (vote_of s e) (ballot_lt b (vote_of s e).promised))
on_layout_ask s (Tells q) = on_decided s q (nat_lt s.latest.epoch q.epoch)
on_layout_ask s Asks = tells_latest s
on_layout_ask s Nothing = record { now = s; says = None }

unfoldable pub layout_step : LayoutState → Msg → LayoutTurn
layout_step s m = on_layout_ask s (layout_ask m)
