-- What answers tell is within 64 bits: positions of cells, of appends and of walks.
use Rattle.std.proofs.Common.{◌≡◌, ℕ, ◌<◌, ◌^◌, List, [], refl, subst, arith, Some, None, Option}
use Rattle.tg_base.specs.Layouts.{Layout}
use Rattle.tg_base.specs.declared.cell.Cell.{Cell}
use Rattle.tg_base.specs.declared.ids.Oid.{Oid}
use Rattle.tg_base.specs.declared.marks.StreamLink.{StreamLink}
use Rattle.tg_base.specs.declared.msg.Msg.{Msg}
use Rattle.tg_protocol.specs.Requests.{Next, Goes, Learns, Ends, Turn}
use Rattle.tg_protocol.specs.Replies.{Reply, IsGone, IsMissing, IsLatest, IsIssued, IsFull, reply}
use Rattle.tg_protocol.specs.Cells.{CellJob, CellEnd, Gone, cell_feed}
use Rattle.tg_protocol.specs.Appending.{AppendWork, Asking, Token, Append, AppendEnd, At, Full, Forgotten, append_feed, append_again}
use Rattle.tg_protocol.specs.Walking.{trail, Walk, Members, WalkTurn, with_job, read_at, walk_start, walk_feed, walk_from, walk_again}
use Rattle.tg_law_steps.proofs.Machines.Appends as appends
use Rattle.tg_law_steps.proofs.Machines.Cells as cells
use Rattle.tg_law_steps.proofs.Machines.Walks as walks

-- a number of 64 bits
abbrev pub Near : ℕ → Type 0
Near n = n < 2 ^ 64

-- so are the numbers that an answer tells
abbrev pub ReplyNear : Reply → Type 0
ReplyNear (IsGone b) = Near b
ReplyNear (IsMissing p) = Near p
ReplyNear (IsLatest q) = q.epoch < 2 ^ 32
ReplyNear (IsIssued p ls) = Near p
ReplyNear x = Unit {0}

gone_small : (y : Msg) (b : ℕ) → reply y ≡ IsGone b → Near b
unfolding reply
gone_small y b i = grind arith

missing_small : (y : Msg) (p : ℕ) → reply y ≡ IsMissing p → Near p
unfolding reply
missing_small y p i = grind arith

latest_small : (y : Msg) (q : Layout) → reply y ≡ IsLatest q → q.epoch < 2 ^ 32
unfolding reply
latest_small y q i = grind arith

issued_small : (y : Msg) (p : ℕ) (ls : List StreamLink) → reply y ≡ IsIssued p ls → Near p
unfolding reply
issued_small y p ls i = grind arith

pub reply_near : (y : Msg) → ReplyNear (reply y)
reply_near y = by (reply y) refl
  where
    by : (x : Reply) → reply y ≡ x → ReplyNear x
    by (IsGone b) is = gone_small y b is
    by (IsMissing p) is = missing_small y p is
    by (IsLatest q) is = latest_small y q is
    by (IsIssued p ls) is = issued_small y p ls is
    by x is = tt

-- Cells.

abbrev pub CellNear : Next CellJob CellEnd → Type 0
CellNear (Ends (Gone b)) = Near b
CellNear x = Unit {0}

cell_turn : (u : ℕ) (x : Reply) (next : ℕ) → ReplyNear x → (j : CellJob) (t : Turn CellJob CellEnd) → cells.Fed u x next j t → CellNear t.to
cell_turn u x next k _ _ (cells.IsTrim a w b one is past) = subst ReplyNear is k
cell_turn u x next k _ _ came = tt

pub cell_near : (j : CellJob) (next u : ℕ) (x : Reply) → ReplyNear x → CellNear (cell_feed j u x next).to
cell_near j next u x k = cell_turn u x next k j _ (cells.cell_fed u x next j)

-- Appends: the position of a token, and the limit that a sequencer tells where the log is full.

abbrev pub LimitNear : Reply → Type 0
LimitNear (IsFull l) = Near l
LimitNear x = Unit {0}

abbrev pub FullNear : AppendWork → Reply → Type 0
FullNear (Asking r) x = LimitNear x
FullNear w x = Unit {0}

abbrev pub TokenNear : Option Token → Type 0
TokenNear None = Unit {0}
TokenNear (Some t) = Near t.pos

abbrev pub EndNear : AppendEnd → Type 0
EndNear (At p d) = Near p
EndNear (Full l) = Near l
EndNear (Forgotten p b) = Near p × Near b

abbrev pub AppendNear : Next Append AppendEnd → Type 0
AppendNear (Goes a) = TokenNear a.token
AppendNear (Learns a) = TokenNear a.token
AppendNear (Ends e) = EndNear e

append_turn : (p : Layout) (n : ℕ) (x : Reply) (next : ℕ) → ReplyNear x → (a : Append) (t : Turn Append AppendEnd) → appends.Fed p n x next a t → FullNear a.work x → TokenNear a.token → AppendNear t.to
append_turn p n x next k _ _ (appends.Issues d o r pos ls is names) f ok = subst ReplyNear is k
append_turn p n x next k _ _ (appends.IsFilled d o r l is) f ok = subst LimitNear is f
append_turn p n x next k _ _ (appends.PutLost d t j c e) f ok = tt
append_turn p n x next k _ _ (appends.PutGone d t j b e) f ok = (ok, subst CellNear e (cell_near j next n x k))
append_turn p n x next k _ _ (appends.JudgeOther d t j c e other) f ok = tt
append_turn p n x next k _ _ (appends.JudgeGone d t j b e) f ok = (ok, subst CellNear e (cell_near j next n x k))
append_turn p n x next k _ _ came f ok = ok

again_turn : (p : Layout) (next : ℕ) (a : Append) (t : Turn Append AppendEnd) → appends.Anew p next a t → TokenNear a.token → AppendNear t.to
again_turn p next _ _ (appends.Settles d t w less) ok = ok
again_turn p next _ _ came ok = tt

module _ (p : Layout) (a : Append) (ok : TokenNear a.token) (next : ℕ) where
  pub append_near : (n : ℕ) (x : Reply) → ReplyNear x → FullNear a.work x → AppendNear (append_feed p a a.work n x next).to
  append_near n x k f = append_turn p n x next k a _ (appends.append_fed p n x next a) f ok

  pub again_near : AppendNear (append_again p a next).to
  again_near = again_turn p next a _ (appends.append_anew p next a) ok

-- Walks: where they met a trim.

abbrev pub MetNear : Option ℕ → Type 0
MetNear None = Unit {0}
MetNear (Some b) = Near b

abbrev pub WalkNear : Next Walk Members → Type 0
WalkNear (Ends x) = MetNear x.gone
WalkNear x = Unit {0}

on_near : (p : Layout) (next : ℕ) (w : Walk) → WalkNear (walk_from p next w).to
on_near p next w = walks.goes_on p next (λ v. Unit {0}) (λ t. WalkNear t.to) (λ v q c e f k. tt) (λ v k. tt) (λ v q e f k. tt) _ w tt

pub start_near : (p : Layout) (o : Oid) (lasts : List ℕ) (lo : ℕ) (cells : List (ℕ × Cell)) (next : ℕ) → WalkNear (walk_start p o lasts lo cells next).to
unfolding walk_start
start_near p o lasts lo cells next = on_near p next (record { oid = o; lo = lo; cells = cells; trail = trail lasts 0; members = []; job = None })

pub walk_again_near : (p : Layout) (w : Walk) (next : ℕ) → WalkNear (walk_again p w next).to
walk_again_near p w next = on_near p next w

walk_turn : (p : Layout) (n : ℕ) (x : Reply) (next : ℕ) → ReplyNear x → (w : Walk) (t : WalkTurn) → walks.Fed p n x next w t → WalkNear t.to
walk_turn p n x next k _ _ (walks.ReadDone w j c e) = on_near p _ (read_at (with_job w j) j.place.pos c)
walk_turn p n x next k _ _ (walks.ReadGone w j b e) = subst CellNear e (cell_near j next n x k)
walk_turn p n x next k _ _ came = tt

pub walk_near : (p : Layout) (w : Walk) (n : ℕ) (x : Reply) (next : ℕ) → ReplyNear x → WalkNear (walk_feed p w w.job n x next).to
walk_near p w n x next k = walk_turn p n x next k w _ (walks.walk_fed p n x next w)
