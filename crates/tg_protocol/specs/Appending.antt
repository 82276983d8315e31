-- An append: a token of the sequencer, and then the page at its position.
use Rattle.std.specs.Prelude.{ℕ, ◌+◌, Bool, true, false, not, ◌&&◌, nat_lt, nat_le, List, [], ◌∷◌, length, Option, Some, None}
use Rattle.std.specs.List.{list_all}
use Rattle.tg_base.specs.Layouts.{Layout}
use Rattle.tg_base.specs.declared.cell.Cell.TheVariants.{Data}
use Rattle.tg_base.specs.declared.ids.Oid.{Oid}
use Rattle.tg_base.specs.declared.marks.StreamLink.{StreamLink}
use Rattle.tg_base.specs.declared.msg.Msg.TheVariants as msg
use Rattle.tg_base.specs.declared.packet.Out.{Out}
use Rattle.tg_entry.specs.declared.entry.Entry.{Entry}
use Rattle.tg_protocol.specs.Words.{seqr_id, cell_eq, too_far}
use Rattle.tg_base.specs.Orders.{oid_eq}
use Rattle.tg_protocol.specs.Entries.{streams_of}
use Rattle.tg_entry.specs.Records.{is_falling, linked}
use Rattle.tg_protocol.specs.Pages.{page_of}
use Rattle.tg_protocol.specs.Requests.{out, Next, Goes, Learns, Ends, Turn, turn, passes, draws, ends, learns, met_gone}
use Rattle.tg_protocol.specs.Replies.{Reply, IsIssued, IsOldEpoch, IsFull}
use Rattle.tg_protocol.specs.Cells.{CellJob, CellEnd, CellTurn, Done, Seen, Lost, Fenced, Gone, place_in, put_cell, fill_cell, cell_asks, cell_feed}

-- What a sequencer's answer must keep.

abbrev pub is_link : StreamLink → Bool
is_link l = is_falling l.backs && nat_le (length l.backs) 4 && list_all (λ p. not (too_far p)) l.backs

abbrev pub names_all : List Oid → List StreamLink → Bool
names_all [] [] = true
names_all (o ∷ os) (l ∷ ls) = oid_eq o l.oid && is_link l && names_all os ls
names_all _ _ = false

-- an older epoch: the sequencer is told the layout by one `Learn`, and the request stays outstanding
abbrev pub on_older : {M E : Type 0} → Layout → ℕ → M → Bool → Turn M E
on_older p next m true = record { next = next + 1; besides = out (seqr_id p.seq) next (msg.Learn p) ∷ []; gone = 0; to = Goes m }
on_older p next m false = passes next m

abbrev pub on_newer : {M E : Type 0} → Layout → ℕ → ℕ → M → Bool → Turn M E
on_newer p e next m true = learns next m
on_newer p e next m false = on_older p next m (nat_lt e p.epoch)

-- a sequencer that stands at another epoch
abbrev pub on_old_epoch : {M E : Type 0} → Layout → ℕ → ℕ → M → Turn M E
on_old_epoch p e next m = on_newer p e next m (nat_lt p.epoch e)

-- The machine.

pub data AppendWork : Type 0 where
  Asking : (rid : ℕ) → AppendWork  -- for a token
  Putting : (job : CellJob) → AppendWork  -- the page at the token's position
  Judging : (job : CellJob) → AppendWork  -- settles the position of a token of an older epoch

-- a token: its position, and the page that it is for
pub record Token : Type 0 where
  pub pos : ℕ
  pub page : List ℕ

pub record Append : Type 0 where
  pub draft : Entry
  pub token : Option Token  -- the last one
  pub work : AppendWork

pub data AppendEnd : Type 0 where
  At : (pos : ℕ) → (page : List ℕ) → AppendEnd
  Full : (limit : ℕ) → AppendEnd
  Forgotten : (at below : ℕ) → AppendEnd

abbrev pub AppendTurn : Type 0
AppendTurn = Turn Append AppendEnd

unfoldable pub append_work_asks : Layout → Append → AppendWork → List Out
append_work_asks p a (Asking r) = out (seqr_id p.seq) r (msg.Token p.epoch (streams_of a.draft)) ∷ []
append_work_asks p a (Putting j) = cell_asks j
append_work_asks p a (Judging j) = cell_asks j

abbrev pub append_asks : Layout → Append → List Out
append_asks p a = append_work_asks p a a.work

-- a token is asked for; an older one is dead
abbrev pub asks_token : Entry → ℕ → AppendTurn
asks_token d next = draws next (record { draft = d; token = None; work = Asking next })

unfoldable pub append_start : Layout → Entry → ℕ → AppendTurn
append_start p d next = asks_token d next

-- the page of an append that has this token
abbrev pub put_end : Append → Token → CellEnd → ℕ → AppendTurn
put_end a t (Done c) next = ends next (At t.pos t.page)
put_end a t (Lost c) next = asks_token a.draft next
put_end a t (Gone b) next = met_gone b (ends next (Forgotten t.pos b))
put_end a t (Fenced u e) next = learns next a
put_end a t Seen next = passes next a

abbrev pub put_next : Append → Token → Next CellJob CellEnd → ℕ → AppendTurn
put_next a t (Goes j) next = turn next (Goes (record { draft = a.draft; token = Some t; work = Putting j }))
put_next a t (Learns j) next = learns next a
put_next a t (Ends e) next = put_end a t e next

abbrev pub put_turn : Append → Token → CellTurn → AppendTurn
put_turn a t c = put_next a t c.to c.next

-- the final cell of an old token's position: its own entry, or another cell
abbrev pub own_or_not : Append → Token → ℕ → Bool → AppendTurn
own_or_not a t next true = ends next (At t.pos t.page)
own_or_not a t next false = asks_token a.draft next

abbrev pub judge_end : Append → Token → CellEnd → ℕ → AppendTurn
judge_end a t (Done c) next = own_or_not a t next (cell_eq c (Data t.page))
judge_end a t (Gone b) next = met_gone b (ends next (Forgotten t.pos b))
judge_end a t (Fenced u e) next = learns next a
judge_end a t _ next = passes next a

abbrev pub judge_next : Append → Token → Next CellJob CellEnd → ℕ → AppendTurn
judge_next a t (Goes j) next = turn next (Goes (record { draft = a.draft; token = Some t; work = Judging j }))
judge_next a t (Learns j) next = learns next a
judge_next a t (Ends e) next = judge_end a t e next

abbrev pub judge_turn : Append → Token → CellTurn → AppendTurn
judge_turn a t c = judge_next a t c.to c.next

-- the issued links go into the entry, and its page to the issued position
abbrev pub on_issued : Layout → Append → ℕ → List StreamLink → ℕ → Bool → AppendTurn
on_issued p a pos ls next true = put_turn a (record { pos = pos; page = page_of (linked a.draft ls) }) (put_cell (place_in p pos) (page_of (linked a.draft ls)) next)
on_issued p a pos ls next false = passes next a

abbrev pub asking_feed : Layout → Append → Reply → ℕ → AppendTurn
asking_feed p a (IsIssued pos ls) next = on_issued p a pos ls next (names_all (streams_of a.draft) ls)
asking_feed p a (IsFull l) next = ends next (Full l)
asking_feed p a (IsOldEpoch e) next = on_old_epoch p e next a
asking_feed p a _ next = passes next a

abbrev pub by_token : Append → ℕ → Option Token → (Token → AppendTurn) → AppendTurn
by_token a next None f = passes next a
by_token a next (Some t) f = f t

-- an awaited answer of a node with this number
unfoldable pub append_feed : Layout → Append → AppendWork → ℕ → Reply → ℕ → AppendTurn
append_feed p a (Asking r) n x next = asking_feed p a x next
append_feed p a (Putting j) n x next = by_token a next a.token (λ t. put_turn a t (cell_feed j n x next))
append_feed p a (Judging j) n x next = by_token a next a.token (λ t. judge_turn a t (cell_feed j n x next))

-- a token at or past the new start is dead; the position of another is settled first
abbrev pub dead_or_judged : Layout → Append → Token → ℕ → Bool → AppendTurn
dead_or_judged p a t next true = asks_token a.draft next
dead_or_judged p a t next false = judge_turn a t (fill_cell (place_in p t.pos) next)

abbrev pub again_with : Layout → Append → ℕ → Option Token → AppendTurn
again_with p a next None = asks_token a.draft next
again_with p a next (Some t) = dead_or_judged p a t next (nat_le p.start t.pos)

-- in a newer layout
unfoldable pub append_again : Layout → Append → ℕ → AppendTurn
append_again p a next = again_with p a next a.token
