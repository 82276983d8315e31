-- What a turn of an append comes to, and by which tests: for an awaited answer, and in a newer layout.
use Rattle.std.proofs.Common.{◌≡◌, ℕ, ◌+◌, List, [], ◌∷◌, Bool, true, false, refl, Option, Some, None}
use Rattle.std.specs.Prelude.{nat_le, nat_lt}
use Rattle.tg_base.specs.Layouts.{Layout}
use Rattle.tg_base.specs.declared.cell.Cell.{Cell}
use Rattle.tg_base.specs.declared.cell.Cell.TheVariants.{Data}
use Rattle.tg_base.specs.declared.marks.StreamLink.{StreamLink}
use Rattle.tg_base.specs.declared.msg.Msg.TheVariants as msg
use Rattle.tg_entry.specs.declared.entry.Entry.{Entry}
use Rattle.tg_protocol.specs.Words.{seqr_id, cell_eq}
use Rattle.tg_protocol.specs.Entries.{streams_of}
use Rattle.tg_entry.specs.Records.{linked}
use Rattle.tg_protocol.specs.Pages.{page_of}
use Rattle.tg_protocol.specs.Requests.{out, Next, Goes, Learns, Ends, Turn, turn, passes, draws, ends, learns, met_gone}
use Rattle.tg_protocol.specs.Replies.{Reply, IsIssued, IsFull, IsOldEpoch}
use Rattle.tg_protocol.specs.Cells.{CellJob, Puts, Fills, CellEnd, Done, Seen, Lost, Fenced, Gone, place_in, works, put_cell, fill_cell, cell_feed}
use Rattle.tg_protocol.specs.Appending.{names_all, on_older, on_newer, Token, Append, AppendWork, Asking, Putting, Judging, AppendEnd, At, Full, Forgotten, asks_token, put_next, own_or_not, judge_next, on_issued, asking_feed, append_feed, dead_or_judged, append_again}

-- an append that has a token, and puts the token's page or settles its position
abbrev pub putting : Entry → Token → CellJob → Append
putting d t j = record { draft = d; token = Some t; work = Putting j }

abbrev pub judging : Entry → Token → CellJob → Append
judging d t j = record { draft = d; token = Some t; work = Judging j }

-- the token of a position that was issued with these links
abbrev pub token_at : Entry → ℕ → List StreamLink → Token
token_at d pos ls = record { pos = pos; page = page_of (linked d ls) }

-- work on a cell
pub data IsJob (j : CellJob) : AppendWork → Type 0 where
  OfPut : IsJob j (Putting j)
  OfJudge : IsJob j (Judging j)

-- For an awaited answer of a node with this number.
module _ (p : Layout) (n : ℕ) (x : Reply) (next : ℕ) where
  pub data Fed : Append → Turn Append AppendEnd → Type 0 where
    -- a token comes, and its page is put
    Issues : (d : Entry) (o : Option Token) (r pos : ℕ) (ls : List StreamLink) → x ≡ IsIssued pos ls → names_all (streams_of d) ls ≡ true
        → Fed (record { draft = d; token = o; work = Asking r }) (draws next (putting d (token_at d pos ls) (works (place_in p pos) (Puts next (page_of (linked d ls)) 0))))
    -- the log is full, or the sequencer stands at another epoch
    IsFilled : (d : Entry) (o : Option Token) (r l : ℕ) → x ≡ IsFull l → Fed (record { draft = d; token = o; work = Asking r }) (ends next (Full l))
    TellsLayout : (d : Entry) (o : Option Token) (r e : ℕ) → x ≡ IsOldEpoch e → nat_lt p.epoch e ≡ false → nat_lt e p.epoch ≡ true
        → Fed (record { draft = d; token = o; work = Asking r }) (record { next = next + 1; besides = out (seqr_id p.seq) next (msg.Learn p) ∷ []; gone = 0; to = Goes (record { draft = d; token = o; work = Asking r }) })
    LearnsEpoch : (d : Entry) (o : Option Token) (r e : ℕ) → x ≡ IsOldEpoch e → nat_lt p.epoch e ≡ true → Fed (record { draft = d; token = o; work = Asking r }) (learns next (record { draft = d; token = o; work = Asking r }))
    -- nothing comes of it
    Nothing : (a : Append) → Fed a (passes next a)
    -- the put goes on or ends, with the page, another cell, or a trim
    PutGoes : (d : Entry) (t : Token) (j k : CellJob) → (cell_feed j n x next).to ≡ Goes k → Fed (putting d t j) (turn (cell_feed j n x next).next (Goes (putting d t k)))
    PutDone : (d : Entry) (t : Token) (j : CellJob) (c : Cell) → (cell_feed j n x next).to ≡ Ends (Done c) → Fed (putting d t j) (ends (cell_feed j n x next).next (At t.pos t.page))
    PutLost : (d : Entry) (t : Token) (j : CellJob) (c : Cell) → (cell_feed j n x next).to ≡ Ends (Lost c) → Fed (putting d t j) (asks_token d (cell_feed j n x next).next)
    PutGone : (d : Entry) (t : Token) (j : CellJob) (b : ℕ) → (cell_feed j n x next).to ≡ Ends (Gone b) → Fed (putting d t j) (met_gone b (ends (cell_feed j n x next).next (Forgotten t.pos b)))
    -- so does the judging of a token, with its own page or another cell
    JudgeGoes : (d : Entry) (t : Token) (j k : CellJob) → (cell_feed j n x next).to ≡ Goes k → Fed (judging d t j) (turn (cell_feed j n x next).next (Goes (judging d t k)))
    JudgeOwn : (d : Entry) (t : Token) (j : CellJob) (c : Cell) → (cell_feed j n x next).to ≡ Ends (Done c) → cell_eq c (Data t.page) ≡ true → Fed (judging d t j) (ends (cell_feed j n x next).next (At t.pos t.page))
    JudgeOther : (d : Entry) (t : Token) (j : CellJob) (c : Cell) → (cell_feed j n x next).to ≡ Ends (Done c) → cell_eq c (Data t.page) ≡ false → Fed (judging d t j) (asks_token d (cell_feed j n x next).next)
    JudgeGone : (d : Entry) (t : Token) (j : CellJob) (b : ℕ) → (cell_feed j n x next).to ≡ Ends (Gone b) → Fed (judging d t j) (met_gone b (ends (cell_feed j n x next).next (Forgotten t.pos b)))
    -- the work stays: a unit has left the epoch, or the answer is passed by
    JobLearns : (d : Entry) (t : Token) (w : AppendWork) (j k : CellJob) → IsJob j w → (cell_feed j n x next).to ≡ Learns k
        → Fed (record { draft = d; token = Some t; work = w }) (learns (cell_feed j n x next).next (record { draft = d; token = Some t; work = w }))
    JobFenced : (d : Entry) (t : Token) (w : AppendWork) (j : CellJob) (u e : ℕ) → IsJob j w → (cell_feed j n x next).to ≡ Ends (Fenced u e)
        → Fed (record { draft = d; token = Some t; work = w }) (learns (cell_feed j n x next).next (record { draft = d; token = Some t; work = w }))
    JobPasses : (d : Entry) (t : Token) (w : AppendWork) (j : CellJob) (e : CellEnd) → IsJob j w → (cell_feed j n x next).to ≡ Ends e
        → Fed (record { draft = d; token = Some t; work = w }) (passes (cell_feed j n x next).next (record { draft = d; token = Some t; work = w }))

  module _ (d : Entry) (o : Option Token) (r : ℕ) where
    abbrev a : Append
    a = record { draft = d; token = o; work = Asking r }

    issued_fed : (pos : ℕ) (ls : List StreamLink) (b : Bool) → x ≡ IsIssued pos ls → names_all (streams_of d) ls ≡ b → Fed (record { draft = d; token = o; work = Asking r }) (on_issued p a pos ls next b)
    unfolding put_cell
    issued_fed pos ls true is e = Issues d o r pos ls is e
    issued_fed pos ls false is e = Nothing a

    older_fed : (e : ℕ) (b : Bool) → x ≡ IsOldEpoch e → nat_lt p.epoch e ≡ false → nat_lt e p.epoch ≡ b → Fed (record { draft = d; token = o; work = Asking r }) (on_older p next a b)
    older_fed e true is f g = TellsLayout d o r e is f g
    older_fed e false is f g = Nothing a

    newer_fed : (e : ℕ) (b : Bool) → x ≡ IsOldEpoch e → nat_lt p.epoch e ≡ b → Fed (record { draft = d; token = o; work = Asking r }) (on_newer p e next a b)
    newer_fed e true is f = LearnsEpoch d o r e is f
    newer_fed e false is f = older_fed e (nat_lt e p.epoch) is f refl

    asking_fed : (y : Reply) → x ≡ y → Fed (record { draft = d; token = o; work = Asking r }) (asking_feed p a y next)
    asking_fed (IsIssued pos ls) is = issued_fed pos ls (names_all (streams_of d) ls) is refl
    asking_fed (IsFull l) is = IsFilled d o r l is
    asking_fed (IsOldEpoch e) is = newer_fed e (nat_lt p.epoch e) is refl
    asking_fed y is = Nothing a

  module _ (d : Entry) (t : Token) (j : CellJob) where
    put_fed : (to : Next CellJob CellEnd) → (cell_feed j n x next).to ≡ to → Fed (putting d t j) (put_next (putting d t j) t to (cell_feed j n x next).next)
    put_fed (Goes k) e = PutGoes d t j k e
    put_fed (Learns k) e = JobLearns d t (Putting j) j k OfPut e
    put_fed (Ends (Done c)) e = PutDone d t j c e
    put_fed (Ends (Lost c)) e = PutLost d t j c e
    put_fed (Ends (Gone b)) e = PutGone d t j b e
    put_fed (Ends (Fenced u f)) e = JobFenced d t (Putting j) j u f OfPut e
    put_fed (Ends Seen) e = JobPasses d t (Putting j) j Seen OfPut e

    own_fed : (c : Cell) (b : Bool) → (cell_feed j n x next).to ≡ Ends (Done c) → cell_eq c (Data t.page) ≡ b → Fed (judging d t j) (own_or_not (judging d t j) t (cell_feed j n x next).next b)
    own_fed c true e f = JudgeOwn d t j c e f
    own_fed c false e f = JudgeOther d t j c e f

    judge_fed : (to : Next CellJob CellEnd) → (cell_feed j n x next).to ≡ to → Fed (judging d t j) (judge_next (judging d t j) t to (cell_feed j n x next).next)
    judge_fed (Goes k) e = JudgeGoes d t j k e
    judge_fed (Learns k) e = JobLearns d t (Judging j) j k OfJudge e
    judge_fed (Ends (Done c)) e = own_fed c (cell_eq c (Data t.page)) e refl
    judge_fed (Ends (Gone b)) e = JudgeGone d t j b e
    judge_fed (Ends (Fenced u f)) e = JobFenced d t (Judging j) j u f OfJudge e
    judge_fed (Ends (Lost c)) e = JobPasses d t (Judging j) j (Lost c) OfJudge e
    judge_fed (Ends Seen) e = JobPasses d t (Judging j) j Seen OfJudge e

  work_fed : (d : Entry) (o : Option Token) (w : AppendWork) → Fed (record { draft = d; token = o; work = w }) (append_feed p (record { draft = d; token = o; work = w }) w n x next)
  unfolding append_feed
  work_fed d o (Asking r) = asking_fed d o r x refl
  work_fed d None (Putting j) = Nothing _
  work_fed d (Some t) (Putting j) = put_fed d t j (cell_feed j n x next).to refl
  work_fed d None (Judging j) = Nothing _
  work_fed d (Some t) (Judging j) = judge_fed d t j (cell_feed j n x next).to refl

  pub append_fed : (a : Append) → Fed a (append_feed p a a.work n x next)
  append_fed a = work_fed a.draft a.token a.work

-- In a newer layout: no token, one that is dead there, or one whose position is settled first.
module _ (q : Layout) (next : ℕ) where
  pub data Anew : Append → Turn Append AppendEnd → Type 0 where
    HasNone : (d : Entry) (w : AppendWork) → Anew (record { draft = d; token = None; work = w }) (asks_token d next)
    IsDead : (d : Entry) (t : Token) (w : AppendWork) → nat_le q.start t.pos ≡ true → Anew (record { draft = d; token = Some t; work = w }) (asks_token d next)
    Settles : (d : Entry) (t : Token) (w : AppendWork) → nat_le q.start t.pos ≡ false → Anew (record { draft = d; token = Some t; work = w }) (draws next (judging d t (works (place_in q t.pos) (Fills next))))

  anew : (d : Entry) (o : Option Token) (w : AppendWork) → Anew (record { draft = d; token = o; work = w }) (append_again q (record { draft = d; token = o; work = w }) next)
  unfolding append_again fill_cell
  anew d None w = HasNone d w
  anew d (Some t) w = by (nat_le q.start t.pos) refl
    where
      by : (b : Bool) → nat_le q.start t.pos ≡ b → Anew (record { draft = d; token = Some t; work = w }) (dead_or_judged q (record { draft = d; token = Some t; work = w }) t next b)
      by true e = IsDead d t w e
      by false e = Settles d t w e

  pub append_anew : (a : Append) → Anew a (append_again q a next)
  append_anew a = anew a.draft a.token a.work

-- What an append goes on with or ends with, aside what it asks.

-- it asks for a token
abbrev pub asking : Append → ℕ → Append
asking a rid = record { draft = a.draft; token = None; work = Asking rid }

-- it has one, and is at its position
abbrev pub has_token : Append → Token → AppendWork → Append
has_token a t w = record { draft = a.draft; token = Some t; work = w }

module _ (p : Layout) (a : Append) (n : ℕ) (x : Reply) (next : ℕ) where
  pub data AppendCame : AppendWork → Next Append AppendEnd → Type 0 where
    Waits : (w : AppendWork) → AppendCame w (Goes a)
    NewerCame : (w : AppendWork) → AppendCame w (Learns a)
    -- a token is issued, or the log is full
    PutsAt : (r pos : ℕ) (ls : List StreamLink) → x ≡ IsIssued pos ls → names_all (streams_of a.draft) ls ≡ true
        → AppendCame (Asking r) (Goes (has_token a (token_at a.draft pos ls) (Putting (works (place_in p pos) (Puts next (page_of (linked a.draft ls)) 0)))))
    LogFull : (r l : ℕ) → x ≡ IsFull l → AppendCame (Asking r) (Ends (Full l))
    -- the page is put down, or it is lost to another cell, or the position was trimmed
    PutsOn : (j i : CellJob) (t : Token) → a.token ≡ Some t → (cell_feed j n x next).to ≡ Goes i → AppendCame (Putting j) (Goes (has_token a t (Putting i)))
    IsPut : (j : CellJob) (t : Token) (c : Cell) → a.token ≡ Some t → (cell_feed j n x next).to ≡ Ends (Done c) → AppendCame (Putting j) (Ends (At t.pos t.page))
    LostTo : (j : CellJob) (t : Token) (c : Cell) → a.token ≡ Some t → (cell_feed j n x next).to ≡ Ends (Lost c) → AppendCame (Putting j) (Goes (asking a (cell_feed j n x next).next))
    PutTrimmed : (j : CellJob) (t : Token) (b : ℕ) → a.token ≡ Some t → (cell_feed j n x next).to ≡ Ends (Gone b) → AppendCame (Putting j) (Ends (Forgotten t.pos b))
    -- the position of an older token is settled: its own page stands there or another cell, or the position was trimmed
    JudgesOn : (j i : CellJob) (t : Token) → a.token ≡ Some t → (cell_feed j n x next).to ≡ Goes i → AppendCame (Judging j) (Goes (has_token a t (Judging i)))
    IsOwn : (j : CellJob) (t : Token) (c : Cell) → a.token ≡ Some t → (cell_feed j n x next).to ≡ Ends (Done c) → cell_eq c (Data t.page) ≡ true → AppendCame (Judging j) (Ends (At t.pos t.page))
    IsAnothers : (j : CellJob) (t : Token) (c : Cell) → a.token ≡ Some t → (cell_feed j n x next).to ≡ Ends (Done c) → cell_eq c (Data t.page) ≡ false → AppendCame (Judging j) (Goes (asking a (cell_feed j n x next).next))
    JudgedTrimmed : (j : CellJob) (t : Token) (b : ℕ) → a.token ≡ Some t → (cell_feed j n x next).to ≡ Ends (Gone b) → AppendCame (Judging j) (Ends (Forgotten t.pos b))

came_of : (p : Layout) (n : ℕ) (x : Reply) (next : ℕ) (a : Append) (t : Turn Append AppendEnd) → Fed p n x next a t → AppendCame p a n x next a.work t.to
came_of p n x next _ _ (Issues d o r pos ls is e) = PutsAt r pos ls is e
came_of p n x next _ _ (IsFilled d o r l is) = LogFull r l is
came_of p n x next _ _ (TellsLayout d o r e is f g) = Waits (Asking r)
came_of p n x next _ _ (LearnsEpoch d o r e is f) = NewerCame (Asking r)
came_of p n x next _ _ (Nothing a) = Waits a.work
came_of p n x next _ _ (PutGoes d t j k e) = PutsOn j k t refl e
came_of p n x next _ _ (PutDone d t j c e) = IsPut j t c refl e
came_of p n x next _ _ (PutLost d t j c e) = LostTo j t c refl e
came_of p n x next _ _ (PutGone d t j b e) = PutTrimmed j t b refl e
came_of p n x next _ _ (JudgeGoes d t j k e) = JudgesOn j k t refl e
came_of p n x next _ _ (JudgeOwn d t j c e f) = IsOwn j t c refl e f
came_of p n x next _ _ (JudgeOther d t j c e f) = IsAnothers j t c refl e f
came_of p n x next _ _ (JudgeGone d t j b e) = JudgedTrimmed j t b refl e
came_of p n x next _ _ (JobLearns d t w j k i e) = NewerCame w
came_of p n x next _ _ (JobFenced d t w j u e i f) = NewerCame w
came_of p n x next _ _ (JobPasses d t w j e i f) = Waits w

pub append_came : (p : Layout) (a : Append) (n : ℕ) (x : Reply) (next : ℕ) (w : AppendWork) → AppendCame p (record a { work = w }) n x next w (append_feed p (record a { work = w }) w n x next).to
append_came p a n x next w = came_of p n x next (record a { work = w }) _ (append_fed p n x next (record a { work = w }))

-- In a newer layout a token is asked for again, unless the position of the last one lies below the layout's start.
module _ (q : Layout) (a : Append) (next : ℕ) where
  pub data AppendAgain : Next Append AppendEnd → Type 0 where
    AsksAgain : AppendAgain (Goes (asking a next))
    Judges : (t : Token) → a.token ≡ Some t → nat_le q.start t.pos ≡ false → AppendAgain (Goes (has_token a t (Judging (works (place_in q t.pos) (Fills next)))))

again_of : (q : Layout) (next : ℕ) (a : Append) (t : Turn Append AppendEnd) → Anew q next a t → AppendAgain q a next t.to
again_of q next _ _ (HasNone d w) = AsksAgain
again_of q next _ _ (IsDead d t w e) = AsksAgain
again_of q next _ _ (Settles d t w e) = Judges t refl e

pub append_again_came : (q : Layout) (a : Append) (next : ℕ) → AppendAgain q a next (append_again q a next).to
append_again_came q a next = again_of q next a _ (append_anew q next a)
