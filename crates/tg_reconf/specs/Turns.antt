-- How a machine's call shows the turn that the rules name, which messages it takes, and which numbers were drawn.
use Rattle.std.specs.Prelude.{◌≡◌, ℕ, Bool, true, false, nat_lt, List, Option, Some, None}
use Rattle.std.specs.List.{list_all}
use Rattle.tg_base.specs.declared.ids.NodeId.{NodeId}
use Rattle.tg_base.specs.declared.msg.Msg.{Msg}
use Rattle.tg_base.specs.declared.packet.Out.{Out}
use Rattle.tg_chain.specs.Turns.{Shown, by_rules, drawn_between}
use Rattle.tg_protocol.specs.Replies.{reply}
use Rattle.tg_protocol.specs.Requests.{Next, Goes, Learns, Ends, Turn, passes, awaits}
use Rattle.tg_protocol.specs.Reconfiguring.{Reconf, ReconfWork, SealingSpare, LookingSpare, Sealing, LookingAgain, Agreeing, Telling, Starting, ReconfEnd, Installed, Overtaken, NotWhole, ReconfTurn, reconf_asks, reconf_awaited, reconf_feed}
use Rattle.tg_reconf.specs.declared.step.Step.{Step}
use Rattle.tg_reconf.specs.declared.step.Next.{Next as Given}
use Rattle.tg_reconf.specs.declared.step.Next.TheVariants as given
use Rattle.tg_reconf.specs.declared.step.ReconfEnd.{ReconfEnd as GivenEnd}
use Rattle.tg_reconf.specs.declared.step.ReconfEnd.TheVariants as ended

abbrev pub end_of : GivenEnd → ReconfEnd
end_of (ended.Installed e p) = Installed e p
end_of (ended.Overtaken e p) = Overtaken e p
end_of (ended.NotWhole u pos p) = NotWhole u pos p

abbrev pub next_of : Given → Next Reconf ReconfEnd
next_of (given.Goes m) = Goes m
next_of (given.Learns m) = Learns m
next_of (given.Ends e) = Ends (end_of e)

-- what a call gives
abbrev pub shown : Step → ℕ → Shown Reconf ReconfEnd
shown s next = record { next = next; to = next_of s.next; outs = s.outs }

-- what the rules name of a step that began with this number
abbrev pub by_reconf : ℕ → ReconfTurn → Shown Reconf ReconfEnd
by_reconf old t = by_rules reconf_asks old t

-- an answer to an awaited request is taken, and every other message is passed by
abbrev pub fed_if : Bool → Reconf → ℕ → ℕ → Msg → ℕ → ReconfTurn
fed_if true r n rid m next = reconf_feed r r.work n rid (reply m) next
fed_if false r n rid m next = passes next r

abbrev pub fed : Reconf → NodeId → ℕ → Msg → ℕ → ReconfTurn
fed r from rid m next = fed_if (awaits (reconf_awaited r) from rid) r from.num rid m next

-- Numbers.

-- all requests of the machine are new ones of a step that draws from the first number on, before the second
abbrev pub AreNew : ℕ → ℕ → Reconf → Type 0
AreNew old new r = drawn_between old new (reconf_asks r) ≡ reconf_asks r

-- the number of a machine that has a single request
abbrev pub only_rid : ReconfWork → Option ℕ
only_rid (SealingSpare r) = Some r
only_rid (LookingSpare r) = Some r
only_rid (LookingAgain r acks) = Some r
only_rid (Starting r) = Some r
only_rid _ = None

abbrev pub all_drawn : ℕ → List Out → Bool
all_drawn next outs = list_all (λ o. nat_lt o.rid next) outs

-- each number that a machine awaits was drawn before this one
pub record AreDrawn (next : ℕ) (r : Reconf) : Type 0 where
  pub all : all_drawn next (reconf_awaited r) ≡ true

abbrev pub StayDrawn : ℕ → Next Reconf ReconfEnd → Type 0
StayDrawn next (Goes r) = AreDrawn next r
StayDrawn next (Learns r) = AreDrawn next r
StayDrawn next (Ends e) = Unit {0}
