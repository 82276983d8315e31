-- What the layer above rests on: what an append keeps, on which answers it ends and pauses, which it passes by, and how many
-- requests it still sends.
use Rattle.std.specs.Prelude.{◌≡◌, ⊤, ℕ, ◌+◌, ◌<◌, ◌≤◌, Bool, true, false, not, ◌||◌, ◌==◌, nat_lt, List, [], ◌∷◌, length, Option, Some, None}
use Rattle.tg_base.specs.Layouts.{Layout}
use Rattle.tg_base.specs.declared.cell.Cell.TheVariants.{Data}
use Rattle.tg_base.specs.declared.ids.NodeId.{NodeId}
use Rattle.tg_base.specs.declared.marks.StreamLink.{StreamLink}
use Rattle.tg_base.specs.declared.msg.Msg.{Msg}
use Rattle.tg_base.specs.declared.packet.Packet.{Packet}
use Rattle.tg_entry.specs.declared.entry.Entry.{Entry}
use Rattle.tg_protocol.specs.Entries.{streams_of}
use Rattle.tg_entry.specs.Records.{linked}
use Rattle.tg_protocol.specs.Pages.{page_of}
use Rattle.tg_protocol.specs.Layouts.{chain_of}
use Rattle.tg_protocol.specs.Requests.{Next, Goes, Learns, Ends, turn, awaits}
use Rattle.tg_protocol.specs.Replies.{Reply, IsTaken, IsFenced, IsIssued, IsFull, IsOldEpoch, reply}
use Rattle.tg_protocol.specs.Cells.{CellJob, CellWork, Puts, Fills, Copies, CellEnd, Done, Gone, place_in}
use Rattle.tg_protocol.specs.Appending.{Append, AppendWork, Asking, Putting, Judging, Token, AppendEnd, AppendTurn, At, Full, Forgotten, names_all, append_asks, append_start, append_again}
use Rattle.tg_chain.specs.Laws.{EndsBy, passed_by, awaits_more, serves, left}
use Rattle.tg_append.specs.Appends.{append_fed, by_append}

-- What an append keeps.

-- the page is the entry's own, with links that name its streams
pub record IsOwn (draft : Entry) (page : List ℕ) : Type 0 where
  pub links : List StreamLink
  pub named : names_all (streams_of draft) links ≡ true
  pub spelled : page ≡ page_of (linked draft links)

abbrev pub IsPutOf : List ℕ → CellWork → Type 0
IsPutOf page (Puts r d i) = d ≡ page
IsPutOf page w = ⊥

abbrev pub is_fill : CellWork → Bool
is_fill (Fills r) = true
is_fill (Copies r c i) = true
is_fill w = false

-- the token's page goes to its position, or the position is filled, at the units that hold it in the layout
abbrev pub WorkKept : Layout → Entry → Option Token → AppendWork → Type 0
WorkKept p d t (Asking r) = t ≡ None
WorkKept p d (Some t) (Putting j) = IsOwn d t.page × (j.place ≡ place_in p t.pos) × IsPutOf t.page j.work
WorkKept p d (Some t) (Judging j) = IsOwn d t.page × (j.place ≡ place_in p t.pos) × (is_fill j.work ≡ true)
WorkKept p d None w = ⊥

abbrev pub IsKept : Layout → Append → Type 0
IsKept p a = WorkKept p a.draft a.token a.work

-- a token's page is the entry's own
abbrev pub TokenKept : Entry → Option Token → Type 0
TokenKept d None = ⊤
TokenKept d (Some t) = IsOwn d t.page

abbrev pub EndKept : Entry → AppendEnd → Type 0
EndKept d (At pos page) = IsOwn d page
EndKept d e = ⊤

-- it is the same entry all along
abbrev pub NextKept : Layout → Entry → Next Append AppendEnd → Type 0
NextKept p d (Goes a) = (a.draft ≡ d) × IsKept p a
NextKept p d (Learns a) = (a.draft ≡ d) × TokenKept d a.token
NextKept p d (Ends e) = EndKept d e

-- each step keeps this, and so does the beginning, here and in a newer layout
pub record AppendsKeep : Type 0 where
  pub starts : (p : Layout) (d : Entry) (next : ℕ) → NextKept p d (append_start p d next).to
  pub steps : (p : Layout) (a : Append) (from : NodeId) (rid : ℕ) (m : Msg) (next : ℕ) → IsKept p a → NextKept p a.draft (append_fed p a from rid m next).to
  pub resumes : (p : Layout) (a : Append) (next : ℕ) → TokenKept a.draft a.token → NextKept p a.draft (append_again p a next).to

-- Ends and pauses.

abbrev pub job_in : AppendWork → Option CellJob
job_in (Asking r) = None
job_in (Putting j) = Some j
job_in (Judging j) = Some j

-- the answer of a unit by which the job in hand ends so
abbrev pub JobEndsBy : Option CellJob → ℕ → Reply → CellEnd → Type 0
JobEndsBy None u x e = ⊥
JobEndsBy (Some j) u x e = EndsBy j u x e

abbrev pub token_at : Option Token → Option ℕ
token_at None = None
token_at (Some t) = Some t.pos

-- the last unit of the position's chain holds the token's page, the sequencer is full while it is asked, or a unit has trimmed
-- the token's position
abbrev pub AppendEndsBy : Append → ℕ → Reply → AppendEnd → Type 0
AppendEndsBy a u x (At pos page) = (a.token ≡ Some (record { pos = pos; page = page })) × JobEndsBy (job_in a.work) u x (Done (Data page))
AppendEndsBy a u x (Full l) = (job_in a.work ≡ None) × (x ≡ IsFull l)
AppendEndsBy a u x (Forgotten at b) = (token_at a.token ≡ Some at) × JobEndsBy (job_in a.work) u x (Gone b)

-- an append ends only on such an answer, of a node that it asked, under the number of that request
abbrev pub AppendEndsByAnswers : Type 0
AppendEndsByAnswers = (p : Layout) (a : Append) (from : NodeId) (rid : ℕ) (m : Msg) (next : ℕ) (e : AppendEnd) → IsKept p a →
    (append_fed p a from rid m next).to ≡ Ends e → (awaits (append_asks p a) from rid ≡ true) × AppendEndsBy a from.num (reply m) e

-- the epoch at which a node says that it stands
abbrev pub epoch_told : Reply → Option ℕ
epoch_told (IsFenced e) = Some e
epoch_told (IsOldEpoch e) = Some e
epoch_told x = None

-- a later epoch than the layout's
abbrev pub ToldAbove : ℕ → Option ℕ → Type 0
ToldAbove epoch None = ⊥
ToldAbove epoch (Some e) = epoch < e

-- an append pauses only where a node that it asked tells a later epoch, and as it stands
abbrev pub AppendPausesByAnswers : Type 0
AppendPausesByAnswers = (p : Layout) (a : Append) (from : NodeId) (rid : ℕ) (m : Msg) (next : ℕ) (b : Append) → IsKept p a →
    (append_fed p a from rid m next).to ≡ Learns b → (awaits (append_asks p a) from rid ≡ true) × ToldAbove p.epoch (epoch_told (reply m)) × (b ≡ a)

-- What is passed by.

-- what a sequencer answers: links of other streams or in another order, the layout's own epoch, and what answers another request
abbrev pub asking_passes : Layout → Entry → Reply → Bool
asking_passes p d (IsIssued pos ls) = not (names_all (streams_of d) ls)
asking_passes p d (IsFull l) = false
asking_passes p d (IsOldEpoch e) = e == p.epoch
asking_passes p d x = true

abbrev pub cell_passes : CellJob → ℕ → Reply → Bool
cell_passes j u x = passed_by j.place j.work x || awaits_more j.work u x

abbrev pub append_passes : Layout → Append → AppendWork → ℕ → Reply → Bool
append_passes p a (Asking r) u x = asking_passes p a.draft x
append_passes p a (Putting j) u x = cell_passes j u x
append_passes p a (Judging j) u x = cell_passes j u x

-- an append goes on without sending anything only where the message isn't awaited or is passed by
abbrev pub AppendWaitsForAnswers : Type 0
AppendWaitsForAnswers = (p : Layout) (a : Append) (from : NodeId) (rid : ℕ) (m : Msg) (next : ℕ) (b : Append) → IsKept p a →
    (append_fed p a from rid m next).to ≡ Goes b → (by_append p next (append_fed p a from rid m next)).outs ≡ [] →
    (not (awaits (append_asks p a) from rid) || append_passes p a a.work from.num (reply m)) ≡ true

-- Requests to come.

-- no chain of the layout has more units than these
pub record HasChainsUpTo (p : Layout) (most : ℕ) : Type 0 where
  pub some : 1 ≤ most
  pub chains : (pos : ℕ) → length (chain_of p pos) ≤ most

-- how many requests are still sent until the end, where the longest chain has so many units and no position is lost
abbrev pub append_left_in : ℕ → AppendWork → ℕ
append_left_in most (Asking r) = most
append_left_in most (Putting j) = left j
append_left_in most (Judging j) = left j + 1 + most

abbrev pub append_left : ℕ → Next Append AppendEnd → ℕ
append_left most (Goes a) = append_left_in most a.work
append_left most x = 0

abbrev pub count_if : Bool → ℕ → ℕ
count_if true n = n
count_if false n = 0

-- and how many besides them: a position that is lost to another cell costs a further token with its put, and an answer of a
-- sequencer that stands at an older epoch one `Learn`
abbrev pub extra_in : ℕ → Layout → AppendWork → Reply → ℕ
extra_in most p (Asking r) (IsOldEpoch e) = count_if (nat_lt e p.epoch) 1
extra_in most p (Putting j) (IsTaken c) = count_if (serves j.work (IsTaken c)) (1 + most)
extra_in most p w x = 0

abbrev pub append_extra : ℕ → Layout → Next Append AppendEnd → Packet → ℕ
append_extra most p (Goes a) q = count_if (awaits (append_asks p a) q.from q.rid) (extra_in most p a.work (reply q.msg))
append_extra most p x q = 0

-- what becomes of an append after these messages
abbrev pub append_fed_next : Layout → Next Append AppendEnd → Packet → ℕ → AppendTurn
append_fed_next p (Goes a) q next = append_fed p a q.from q.rid q.msg next
append_fed_next p x q next = turn next x

unfoldable pub append_fed_all : Layout → Next Append AppendEnd → List Packet → ℕ → AppendTurn
append_fed_all p x [] next = turn next x
append_fed_all p x (q ∷ qs) next = append_fed_all p (append_fed_next p x q next).to qs (append_fed_next p x q next).next

unfoldable pub append_extra_all : ℕ → Layout → Next Append AppendEnd → List Packet → ℕ → ℕ
append_extra_all most p x [] next = 0
append_extra_all most p x (q ∷ qs) next = append_extra most p x q + append_extra_all most p (append_fed_next p x q next).to qs (append_fed_next p x q next).next

-- whatever messages come, an append sends no more than these
abbrev pub AppendRequestsAreFew : Type 0
AppendRequestsAreFew = (p : Layout) (most : ℕ) (a : Append) (qs : List Packet) (next : ℕ) → HasChainsUpTo p most → IsKept p a →
    (append_fed_all p (Goes a) qs next).next ≤ next + append_left_in most a.work + append_extra_all most p (Goes a) qs next

-- in a newer layout it has at most these to come, the first one with them
abbrev pub AppendResumesWithFew : Type 0
AppendResumesWithFew = (p : Layout) (most : ℕ) (a : Append) (next : ℕ) → HasChainsUpTo p most →
    (append_again p a next).next + append_left most (append_again p a next).to ≤ next + 1 + most + most
