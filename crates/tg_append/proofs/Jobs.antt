-- What a put, a fill and a probe of a cell keep from step to step.
use Rattle.std.proofs.Common.{◌≡◌, ℕ, ◌+◌, ◌<◌, Bool, true, false, not, ◌&&◌, ◌==◌, nat_lt, List, [], ◌∷◌, length, refl, subst}
use Rattle.tg_base.specs.declared.cell.Cell.{Cell}
use Rattle.tg_base.specs.declared.cell.Cell.TheVariants.{Junk, Data}
use Rattle.tg_base.specs.declared.ids.NodeId.{NodeId}
use Rattle.tg_base.specs.declared.msg.Msg.{Msg}
use Rattle.tg_protocol.specs.Words.{cell_eq}
use Rattle.tg_protocol.specs.Requests.{Next, Goes, Learns, Ends, Waits, awaits, without_wait}
use Rattle.tg_protocol.specs.Replies.{Reply, IsHeld, IsTaken, IsGone, IsFenced, IsMissing, IsWhole, reply}
use Rattle.tg_protocol.specs.Cells.{Place, CellJob, CellWork, Puts, Gets, Fills, Copies, Probes, CellEnd, Done, Seen, Lost, Fenced, Gone, works, put_on, copy_on, copy_if_same, end_if, probe_on, cell_feed, work_feed, cell_asks}
use Rattle.tg_chain.specs.Turns.{fed, fed_if}
use Rattle.tg_append.specs.AppendLaws.{IsPutOf, is_fill}
use Rattle.tg_append.specs.SyncLaws.{is_probe}

-- ---- puts

-- the same page goes on at the same units, and it is done with that page alone
abbrev pub PutNext : Place → List ℕ → Next CellJob CellEnd → Type 0
PutNext a d (Goes k) = (k.place ≡ a) × IsPutOf d k.work
PutNext a d (Learns k) = ⊥
PutNext a d (Ends (Done c)) = c ≡ Data d
PutNext a d (Ends Seen) = ⊥
PutNext a d (Ends e) = Unit {0}

put_on_kept : (b : Bool) (a : Place) (d : List ℕ) (i n : ℕ) → PutNext a d (put_on a d i n b).to
put_on_kept true a d i n = (refl, refl)
put_on_kept false a d i n = refl

put_end_kept : (b : Bool) (a : Place) (r i : ℕ) (d : List ℕ) (n : ℕ) (e : CellEnd) → PutNext a d (Ends e) → PutNext a d (end_if b (works a (Puts r d i)) n e).to
put_end_kept true a r i d n e h = h
put_end_kept false a r i d n e h = (refl, refl)

puts_kept : (a : Place) (r : ℕ) (d : List ℕ) (i u : ℕ) (x : Reply) (n : ℕ) → PutNext a d (cell_feed (works a (Puts r d i)) u x n).to
unfolding cell_feed work_feed
puts_kept a r d i u IsHeld n = put_on_kept (nat_lt (i + 1) (length a.chain)) a d (i + 1) n
puts_kept a r d i u (IsTaken c) n = put_end_kept ((i == 0) && not (cell_eq c (Data d))) a r i d n (Lost c) tt
puts_kept a r d i u (IsGone b) n = put_end_kept (nat_lt a.pos b) a r i d n (Gone b) tt
puts_kept a r d i u (IsFenced e) n = put_end_kept (nat_lt a.epoch e) a r i d n (Fenced u e) tt
puts_kept a r d i u _ n = (refl, refl)

put_kept : (a : Place) (w : CellWork) (d : List ℕ) (u : ℕ) (x : Reply) (n : ℕ) → IsPutOf d w → PutNext a d (cell_feed (works a w) u x n).to
put_kept a (Puts r c i) d u x n h = subst (λ (z : List ℕ). PutNext a z (cell_feed (works a (Puts r c i)) u x n).to) h (puts_kept a r c i u x n)
put_kept a (Gets r) d u x n h = absurd h
put_kept a (Fills r) d u x n h = absurd h
put_kept a (Copies r c i) d u x n h = absurd h
put_kept a (Probes ws) d u x n h = absurd h

put_kept_if : (b : Bool) (j : CellJob) (d : List ℕ) (u : ℕ) (m : Msg) (n : ℕ) → IsPutOf d j.work → PutNext j.place d (fed_if b j u m n).to
put_kept_if true j d u m n h = put_kept j.place j.work d u (reply m) n h
put_kept_if false j d u m n h = (refl, h)

pub put_fed_kept : (j : CellJob) (d : List ℕ) (from : NodeId) (rid : ℕ) (m : Msg) (n : ℕ) → IsPutOf d j.work → PutNext j.place d (fed j from rid m n).to
put_fed_kept j d from rid m n h = put_kept_if (awaits (cell_asks j) from rid) j d from.num m n h

-- ---- fills

-- a fill goes on at the same units
abbrev pub FillNext : Place → Next CellJob CellEnd → Type 0
FillNext a (Goes k) = (k.place ≡ a) × (is_fill k.work ≡ true)
FillNext a (Learns k) = ⊥
FillNext a (Ends Seen) = ⊥
FillNext a (Ends (Lost c)) = ⊥
FillNext a (Ends e) = Unit {0}

copy_on_kept : (b : Bool) (a : Place) (c : Cell) (i n : ℕ) → FillNext a (copy_on a c i n b).to
copy_on_kept true a c i n = (refl, refl)
copy_on_kept false a c i n = tt

fill_end_kept : (b : Bool) (a : Place) (w : CellWork) (n : ℕ) (e : CellEnd) → is_fill w ≡ true → FillNext a (Ends e) → FillNext a (end_if b (works a w) n e).to
fill_end_kept true a w n e f h = h
fill_end_kept false a w n e f h = (refl, f)

copy_same_kept : (b : Bool) (a : Place) (r : ℕ) (c : Cell) (i n : ℕ) → FillNext a (copy_if_same (works a (Copies r c i)) c i n b).to
copy_same_kept true a r c i n = copy_on_kept (nat_lt (i + 1) (length a.chain)) a c (i + 1) n
copy_same_kept false a r c i n = (refl, refl)

fills_kept : (a : Place) (r u : ℕ) (x : Reply) (n : ℕ) → FillNext a (cell_feed (works a (Fills r)) u x n).to
unfolding cell_feed work_feed
fills_kept a r u IsHeld n = copy_on_kept (nat_lt 1 (length a.chain)) a Junk 1 n
fills_kept a r u (IsTaken c) n = copy_on_kept (nat_lt 1 (length a.chain)) a c 1 n
fills_kept a r u (IsGone b) n = fill_end_kept (nat_lt a.pos b) a (Fills r) n (Gone b) refl tt
fills_kept a r u (IsFenced e) n = fill_end_kept (nat_lt a.epoch e) a (Fills r) n (Fenced u e) refl tt
fills_kept a r u _ n = (refl, refl)

copies_kept : (a : Place) (r : ℕ) (c : Cell) (i u : ℕ) (x : Reply) (n : ℕ) → FillNext a (cell_feed (works a (Copies r c i)) u x n).to
unfolding cell_feed work_feed
copies_kept a r c i u IsHeld n = copy_on_kept (nat_lt (i + 1) (length a.chain)) a c (i + 1) n
copies_kept a r c i u (IsTaken y) n = copy_same_kept (cell_eq y c) a r c i n
copies_kept a r c i u (IsGone b) n = fill_end_kept (nat_lt a.pos b) a (Copies r c i) n (Gone b) refl tt
copies_kept a r c i u (IsFenced e) n = fill_end_kept (nat_lt a.epoch e) a (Copies r c i) n (Fenced u e) refl tt
copies_kept a r c i u _ n = (refl, refl)

fill_kept : (a : Place) (w : CellWork) (u : ℕ) (x : Reply) (n : ℕ) → is_fill w ≡ true → FillNext a (cell_feed (works a w) u x n).to
fill_kept a (Puts r d i) u x n h = absurd cc
fill_kept a (Gets r) u x n h = absurd cc
fill_kept a (Fills r) u x n h = fills_kept a r u x n
fill_kept a (Copies r c i) u x n h = copies_kept a r c i u x n
fill_kept a (Probes ws) u x n h = absurd cc

fill_kept_if : (b : Bool) (j : CellJob) (u : ℕ) (m : Msg) (n : ℕ) → is_fill j.work ≡ true → FillNext j.place (fed_if b j u m n).to
fill_kept_if true j u m n h = fill_kept j.place j.work u (reply m) n h
fill_kept_if false j u m n h = (refl, h)

pub fill_fed_kept : (j : CellJob) (from : NodeId) (rid : ℕ) (m : Msg) (n : ℕ) → is_fill j.work ≡ true → FillNext j.place (fed j from rid m n).to
fill_fed_kept j from rid m n h = fill_kept_if (awaits (cell_asks j) from rid) j from.num m n h

-- ---- probes

-- a probe goes on at the same units, and has no cell
abbrev pub ProbeNext : Place → Next CellJob CellEnd → Type 0
ProbeNext a (Goes k) = (k.place ≡ a) × (is_probe k.work ≡ true)
ProbeNext a (Ends Seen) = Unit {0}
ProbeNext a (Ends (Fenced u e)) = Unit {0}
ProbeNext a x = ⊥

probe_on_kept : (a : Place) (ws : Waits) (n : ℕ) → ProbeNext a (probe_on a ws n).to
probe_on_kept a [] n = tt
probe_on_kept a (w ∷ ws) n = (refl, refl)

probe_end_kept : (b : Bool) (a : Place) (ws : Waits) (n u e : ℕ) → ProbeNext a (end_if b (works a (Probes ws)) n (Fenced u e)).to
probe_end_kept true a ws n u e = tt
probe_end_kept false a ws n u e = (refl, refl)

probes_kept : (a : Place) (ws : Waits) (u : ℕ) (x : Reply) (n : ℕ) → ProbeNext a (cell_feed (works a (Probes ws)) u x n).to
unfolding cell_feed work_feed
probes_kept a ws u IsWhole n = probe_on_kept a (without_wait u ws) n
probes_kept a ws u (IsMissing p) n = probe_on_kept a (without_wait u ws) n
probes_kept a ws u (IsFenced e) n = probe_end_kept (nat_lt a.epoch e) a ws n u e
probes_kept a ws u _ n = (refl, refl)

probe_kept : (a : Place) (w : CellWork) (u : ℕ) (x : Reply) (n : ℕ) → is_probe w ≡ true → ProbeNext a (cell_feed (works a w) u x n).to
probe_kept a (Puts r d i) u x n h = absurd cc
probe_kept a (Gets r) u x n h = absurd cc
probe_kept a (Fills r) u x n h = absurd cc
probe_kept a (Copies r c i) u x n h = absurd cc
probe_kept a (Probes ws) u x n h = probes_kept a ws u x n

probe_kept_if : (b : Bool) (j : CellJob) (u : ℕ) (m : Msg) (n : ℕ) → is_probe j.work ≡ true → ProbeNext j.place (fed_if b j u m n).to
probe_kept_if true j u m n h = probe_kept j.place j.work u (reply m) n h
probe_kept_if false j u m n h = (refl, h)

pub probe_fed_kept : (j : CellJob) (from : NodeId) (rid : ℕ) (m : Msg) (n : ℕ) → is_probe j.work ≡ true → ProbeNext j.place (fed j from rid m n).to
probe_fed_kept j from rid m n h = probe_kept_if (awaits (cell_asks j) from rid) j from.num m n h
