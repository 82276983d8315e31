-- What is promised of a node that follows a text.
use Rattle.std.specs.Prelude.{◌≡◌, ◌⊎◌, ℕ, ◌+◌, ◌-◌, ◌<◌, ◌≤◌, Bool, true, false, List, [], ◌∷◌, ◌++◌, length, take, Option, Some, None}
use Rattle.tg_base.specs.Clusters.{Header, IsHeader}
use Rattle.tg_base.specs.declared.fault.Which.{Which}
use Rattle.tg_base.specs.declared.fault.Which.TheVariants as which
use Rattle.tg_base.specs.declared.ids.NodeId.{NodeId}
use Rattle.tg_io.specs.Acts.{Act, answers_in as answers_among}
use Rattle.tg_io.specs.Bytes.{Grows, Takes, TakesFront}
use Rattle.tg_io.specs.declared.link.Arrival.{Arrival}
use Rattle.tg_io.specs.declared.link.Sent.{Sent}
use Rattle.tg_io.specs.declared.status.Status.{Status}
use Rattle.tg_io.specs.declared.status.Status.TheVariants.{Done, Script as AtLine, ReadFault, WriteFault, LinkFault, Limit, NoMemory, Words, Illegal}
use Rattle.tg_script.specs.Headers.{header_lines}
use Rattle.tg_script.specs.Nodes.{is_declared}
use Rattle.tg_lines.specs.Lines.{lines}
use Rattle.tg_link_packets.specs.Mail.{all_sent}
use Rattle.tg_node.specs.Acts.{acts_of, line_acts}
use Rattle.tg_node.specs.Lines.{IsAsked}
use Rattle.tg_node.specs.Replies.{replies_text}
use Rattle.tg_node.specs.declared.asked.Asked.{Asked}
use Rattle.tg_node.specs.declared.asked.Asked.TheVariants.{Tick, Wait, Given, Update}
use Rattle.tg_node.specs.Sessions.{Deed, Session, IsWhole, inputs_of, datagrams_in, answers_of, steps_of, datagrams_of, plays, session, opening}

-- What a link and a sink tell: what was sent, the answers of `recv`, both as one list in their order, and what was
-- written.
pub record Seen : Type 0 where
  pub sent : Option (List Sent)
  pub handed : Option (List (Option Arrival))
  pub acts : Option (List Act)
  pub written : Option (List ℕ)

-- Over a session the packets were sent as their spellings, in order, these answers were handed, this was done with the
-- link, and nothing else, in this order, and its replies were written.
pub record IsSeen (s : Session) (answers : List (Option Arrival)) (in_order : List Act) (before after : Seen) : Type 0 where
  pub sent : Grows before.sent (all_sent s.sent) after.sent
  pub handed : Grows before.handed answers after.handed
  pub acts : Grows before.acts in_order after.acts
  pub written : Takes before.written (replies_text s.replies) after.written

-- each line asks something of the node
abbrev pub AreAsked : Header → NodeId → List (List ℕ) → Type 0
AreAsked h n [] = Unit {0}
AreAsked h n (t ∷ ts) = ((a : Asked) × IsAsked h n t a) × AreAsked h n ts

-- What a text of a node says: a header that declares the node, and lines that ask something of it.
pub record NodeText (n : NodeId) : Type 0 where
  pub header : Header
  pub lawful : IsHeader header
  pub declared : is_declared header n ≡ true
  pub body : List (List ℕ)
  pub asked : AreAsked header n body

abbrev pub text_lines : {n : NodeId} → NodeText n → List (List ℕ)
text_lines t = header_lines t.header ++ t.body

-- the text is one of the node
abbrev pub IsText : List ℕ → NodeId → Type 0
IsText text n = (t : NodeText n) × (lines text ≡ text_lines t)

-- the first k lines are those of a text of the node
abbrev pub Begins : List (List ℕ) → NodeId → ℕ → Type 0
Begins ls n k = (t : NodeText n) × (take k ls ≡ take k (text_lines t))

-- Line k, from 1, is the first that no text of the node has after the lines before it. It may be the one after the last.
-- So the first line is outside where it doesn't declare the node, whatever stands below it.
pub record FirstOutside (ls : List (List ℕ)) (n : NodeId) (k : ℕ) : Type 0 where
  pub line : 1 ≤ k
  pub before : (m : ℕ) → 1 ≤ m → m < k → Begins ls n m
  pub outside : Begins ls n k → ⊥

-- each line asks what was done, and each wait had all its answers
abbrev pub AreDone : Header → NodeId → List (List ℕ) → List Deed → Type 0
AreDone h n [] [] = Unit {0}
AreDone h n (t ∷ ts) (d ∷ ds) = IsAsked h n t d.asked × IsWhole d.asked d.answers × AreDone h n ts ds
AreDone h n ts ds = ⊥

-- A text so far: its header, which declares the node, and the lines that were followed, within the limits.
pub record Point (text : List ℕ) (n : NodeId) : Type 0 where
  pub header : Header
  pub lawful : IsHeader header
  pub declared : is_declared header n ≡ true
  pub read : List (List ℕ)
  pub rest : List (List ℕ)
  pub deeds : List Deed
  pub cut : lines text ≡ header_lines header ++ read ++ rest
  pub done : AreDone header n read deeds
  pub few : steps_of n deeds ≤ 200000
  pub fewer : datagrams_of deeds ≤ 1000000

abbrev pub session_at : {text : List ℕ} {n : NodeId} → Point text n → Session
session_at {text} {n} p = session p.header n p.deeds

abbrev pub answers_at : {text : List ℕ} {n : NodeId} → Point text n → List (Option Arrival)
answers_at p = answers_of p.deeds

-- what the lines up to a point do with the link
abbrev pub acts_at : {text : List ℕ} {n : NodeId} → Point text n → List Act
acts_at {text} {n} p = acts_of p.header n p.deeds

-- what a session comes to at the line after a point, as far as the limit
abbrev pub line_session : {text : List ℕ} {n : NodeId} → Point text n → Deed → Session
line_session {text} {n} p d = plays n (1 + length p.deeds) (take (200000 - steps_of n p.deeds) (inputs_of n d)) (session_at p)

-- what that line does with the link
abbrev pub acts_by : {text : List ℕ} {n : NodeId} → Point text n → Deed → List Act
acts_by {text} {n} p d = line_acts n (1 + length p.deeds) (200000 - steps_of n p.deeds) d.asked d.answers (session_at p)

-- The text was followed to its end.
pub record Followed (text : List ℕ) (n : NodeId) (before after : Seen) : Type 0 where
  pub point : Point text n
  pub end : point.rest ≡ []
  pub seen : IsSeen (session_at point) (answers_at point) (acts_at point) before after

-- Line k, below the header, is the first outside, after the session of the lines before it.
pub record RefusedLine (text : List ℕ) (n : NodeId) (k : ℕ) (before after : Seen) : Type 0 where
  pub first : FirstOutside (lines text) n k
  pub point : Point text n
  pub place : k ≡ 4 + length point.deeds
  pub seen : IsSeen (session_at point) (answers_at point) (acts_at point) before after

-- Line k is one of the header's three and the first outside, and nothing is done.
pub record RefusedHeader (text : List ℕ) (n : NodeId) (k : ℕ) (before after : Seen) : Type 0 where
  pub first : FirstOutside (lines text) n k
  pub few : k ≤ 3
  pub still : after ≡ before

abbrev pub Refused : List ℕ → NodeId → ℕ → Seen → Seen → Type 0
Refused text n k before after = RefusedLine text n k before after ⊎ RefusedHeader text n k before after

-- A line that was begun: a wait may have had some of its answers only.
abbrev pub IsPart : Asked → List (Option Arrival) → Type 0
IsPart (Wait calls) answers = length answers ≤ calls
IsPart a answers = answers ≡ []

-- a further step is asked; a wait takes no answer after the one that asks it
abbrev pub IsPast : Asked → ℕ → Type 0
IsPast (Wait calls) steps = steps ≡ 200001
IsPast a steps = 200000 < steps

abbrev pub IsAnother : Asked → List (Option Arrival) → Type 0
IsAnother (Wait calls) answers = length answers < calls
IsAnother a answers = ⊥

-- Which limit is passed: a step past the 200,000th is asked, or a datagram past the 1,000,000th, with so many steps and datagrams in all.
abbrev pub IsOver : Which → Deed → ℕ → ℕ → Type 0
IsOver which.Steps d steps datagrams = IsPast d.asked steps
IsOver which.Datagrams d steps datagrams = (datagrams ≡ 1000000) × (steps ≤ 200000) × IsAnother d.asked d.answers
IsOver which.Bytes d steps datagrams = ⊥

-- A limit is passed in the midst of the line after a point.
pub record Midst (text : List ℕ) (n : NodeId) (w : Which) : Type 0 where
  pub point : Point text n
  pub line : List ℕ
  pub more : List (List ℕ)
  pub next : point.rest ≡ line ∷ more
  pub last : Deed
  pub asked : IsAsked point.header n line last.asked
  pub part : IsPart last.asked last.answers
  pub over : IsOver w last (steps_of n point.deeds + length (inputs_of n last)) (datagrams_of point.deeds + datagrams_in last.answers)

-- the first 200,000 steps are made
abbrev pub session_in : {text : List ℕ} {n : NodeId} {w : Which} → Midst text n w → Session
session_in m = line_session m.point m.last

abbrev pub answers_in : {text : List ℕ} {n : NodeId} {w : Which} → Midst text n w → List (Option Arrival)
answers_in m = answers_at m.point ++ m.last.answers

abbrev pub acts_in_midst : {text : List ℕ} {n : NodeId} {w : Which} → Midst text n w → List Act
acts_in_midst m = acts_at m.point ++ acts_by m.point m.last

pub record Limited (text : List ℕ) (n : NodeId) (w : Which) (before after : Seen) : Type 0 where
  pub midst : Midst text n w
  pub seen : IsSeen (session_in midst) (answers_in midst) (acts_in_midst midst) before after

-- a limit is passed with the answers that were handed
abbrev pub PassesLimit : List ℕ → NodeId → Which → Option (List (Option Arrival)) → Option (List (Option Arrival)) → Type 0
PassesLimit text n w handed after = (m : Midst text n w) × Grows handed (answers_in m) after

-- no limit is passed with them
abbrev pub IsWithin : List ℕ → NodeId → Option (List (Option Arrival)) → Option (List (Option Arrival)) → Type 0
IsWithin text n handed after = (w : Which) → PassesLimit text n w handed after → ⊥

-- A fault, or want of memory, cuts a session off. What was done before it is a front of what the session does with the
-- answers that were handed.

-- the line after a point is begun
pub record IsNext {text : List ℕ} {n : NodeId} (p : Point text n) (d : Deed) : Type 0 where
  pub line : List ℕ
  pub more : List (List ℕ)
  pub next : p.rest ≡ line ∷ more
  pub asked : IsAsked p.header n line d.asked
  pub part : IsPart d.asked d.answers

-- The link is cut off in the midst of a line: of what the line does with it a front was done, in which these answers
-- were handed, and none of its replies was written.
pub record InLine {text : List ℕ} {n : NodeId} (p : Point text n) (mid after : Seen) : Type 0 where
  pub deed : Deed
  pub line : IsNext p deed
  pub done : List Act
  pub rest : List Act
  pub cut : acts_by p deed ≡ done ++ rest
  pub handed : answers_among done ≡ deed.answers
  pub acts : Grows mid.acts done after.acts
  pub written : after.written ≡ mid.written

-- a line is done, or as far as a limit
abbrev pub IsEnded : {text : List ℕ} {n : NodeId} → Point text n → Deed → Type 0
IsEnded {text} {n} p d =
    IsWhole d.asked d.answers ⊎ ((w : Which) × IsOver w d (steps_of n p.deeds + length (inputs_of n d)) (datagrams_of p.deeds + datagrams_in d.answers))

-- The sink is cut off while a line's replies are written: the line is done, with the answers that were handed, and of
-- its replies a front was written.
pub record InReplies {text : List ℕ} {n : NodeId} (p : Point text n) (before mid after : Seen) : Type 0 where
  pub deed : Deed
  pub line : IsNext p deed
  pub ended : IsEnded p deed
  pub sent : Grows before.sent (all_sent (line_session p deed).sent) after.sent
  pub handed : Grows mid.handed deed.answers after.handed
  pub acts : Grows mid.acts (acts_by p deed) after.acts
  pub replies : List ℕ
  pub whole : replies_text (line_session p deed).replies ≡ replies_text (session_at p).replies ++ replies
  pub front : TakesFront mid.written replies after.written

-- lines were followed whole, and nothing else was done
abbrev pub IsSeenTo : {text : List ℕ} {n : NodeId} → Point text n → Seen → Seen → Type 0
IsSeenTo p before after = IsSeen (session_at p) (answers_at p) (acts_at p) before after

-- cut off between two lines, or before the first
abbrev pub IsCutBetween : List ℕ → NodeId → Seen → Seen → Type 0
IsCutBetween text n before after = (after ≡ before) ⊎ ((p : Point text n) × IsSeenTo p before after)

-- the lines before the one that is cut off were followed whole
abbrev pub IsCutInLine : List ℕ → NodeId → Seen → Seen → Type 0
IsCutInLine text n before after = (p : Point text n) × (mid : Seen) × IsSeenTo p before mid × InLine p mid after

abbrev pub IsCutInReplies : List ℕ → NodeId → Seen → Seen → Type 0
IsCutInReplies text n before after = (p : Point text n) × (mid : Seen) × IsSeenTo p before mid × InReplies p before mid after

abbrev pub IsCutShort : List ℕ → NodeId → Seen → Seen → Type 0
IsCutShort text n before after = IsCutBetween text n before after ⊎ (IsCutInLine text n before after ⊎ IsCutInReplies text n before after)

-- What each status says.
abbrev pub Outcome : List ℕ → NodeId → Status → Seen → Seen → Type 0
Outcome text n Done before after = Followed text n before after
Outcome text n (AtLine k) before after = Refused text n k before after
Outcome text n (Limit w) before after = Limited text n w before after
Outcome text n Words before after = ⊥
Outcome text n (Illegal line clause) before after = ⊥
Outcome text n ReadFault before after = IsCutBetween text n before after
Outcome text n WriteFault before after = IsCutInReplies text n before after
Outcome text n LinkFault before after = IsCutInLine text n before after
Outcome text n NoMemory before after = IsCutShort text n before after

-- where the source tells its text
abbrev pub Told : Option (List ℕ) → (List ℕ → Type 0) → Type 0
Told (Some text) P = P text
Told None P = Unit {0}

-- a session ends so, unless a limit stops it or memory runs out
abbrev pub IsOrStops : Status → Status → Type 0
IsOrStops status is = (status ≡ is) ⊎ (((which : Which) × (status ≡ Limit which)) ⊎ (status ≡ NoMemory))

-- a node ends by none of the others
abbrev pub IsOfNode : Status → Type 0
IsOfNode Words = ⊥
IsOfNode (Illegal line clause) = ⊥
IsOfNode status = Unit {0}
