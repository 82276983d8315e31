-- On which answers an append ends and pauses.
use Rattle.std.proofs.Common.{◌≡◌, ℕ, ◌<◌, Bool, true, false, nat_lt, List, Option, Some, None, refl, sym, ap, subst, ◌∙◌, arith}
use Rattle.std.proofs.lemmas.Bool.{ltb-true}
use Rattle.tg_base.specs.Layouts.{Layout}
use Rattle.tg_base.specs.declared.cell.Cell.{Cell}
use Rattle.tg_base.specs.declared.cell.Cell.TheVariants.{Data}
use Rattle.tg_base.specs.declared.ids.NodeId.{NodeId}
use Rattle.tg_base.specs.declared.marks.StreamLink.{StreamLink}
use Rattle.tg_base.specs.declared.msg.Msg.{Msg}
use Rattle.tg_entry.specs.declared.entry.Entry.{Entry}
use Rattle.tg_protocol.specs.Words.{cell_eq}
use Rattle.tg_protocol.specs.Entries.{streams_of}
use Rattle.tg_protocol.specs.Requests.{Next, Goes, Learns, Ends, awaits}
use Rattle.tg_protocol.specs.Replies.{Reply, IsFenced, IsIssued, IsFull, IsOldEpoch, reply}
use Rattle.tg_protocol.specs.Cells.{Place, CellJob, CellEnd, Done, Seen, Lost, Fenced, Gone, place_in, put_cell, cell_asks}
use Rattle.tg_protocol.specs.Appending.{Append, AppendWork, Asking, Putting, Judging, Token, AppendEnd, At, Full, Forgotten, names_all, put_next, judge_next, own_or_not, on_issued, on_older, on_newer, asking_feed, append_asks, append_feed, append_work_asks}
use Rattle.tg_chain.specs.Turns.{fed}
use Rattle.tg_chain.specs.Laws.{EndsBy}
use Rattle.tg_chain.proofs.Same.{same_cell}
use Rattle.tg_chain.proofs.Steps.{ends_by_answers}
use Rattle.tg_append.specs.Appends.{append_at, asking, putting, judging, append_fed, append_fed_if}
use Rattle.tg_append.specs.AppendLaws.{WorkKept, AppendEndsBy, AppendEndsByAnswers, ToldAbove, epoch_told, AppendPausesByAnswers}
use Rattle.tg_append.proofs.Jobs.{PutNext, FillNext, put_fed_kept, fill_fed_kept}
use Rattle.tg_append.proofs.Subs.{put_fed, judge_fed}

-- by which answers the job in hand has ended, if it has
abbrev pub Ended : Bool → CellJob → ℕ → Reply → Next CellJob CellEnd → Type 0
Ended b j u x y = (e : CellEnd) → y ≡ Ends e → (b ≡ true) × EndsBy j u x e

ends_goes : (a : Append) (e : AppendEnd) → ◌≡◌ {A = Next Append AppendEnd} (Goes a) (Ends e) → ⊥
ends_goes a e h = cc

ends_learns : (a : Append) (e : AppendEnd) → ◌≡◌ {A = Next Append AppendEnd} (Learns a) (Ends e) → ⊥
ends_learns a e h = cc

same_end : (e f : AppendEnd) → ◌≡◌ {A = Next Append AppendEnd} (Ends e) (Ends f) → e ≡ f
same_end e f h = cc

-- ---- ends

put_next_ends : (b : Bool) (p : Layout) (d : Entry) (t : Token) (j : CellJob) (y : Next CellJob CellEnd) (n u : ℕ) (x : Reply) (e : AppendEnd) →
    PutNext (place_in p t.pos) t.page y → Ended b j u x y → (put_next (putting d t j) t y n).to ≡ Ends e → (b ≡ true) × AppendEndsBy (putting d t j) u x e
put_next_ends b p d t j (Goes k) n u x e kept ended h = absurd (ends_goes _ _ h)
put_next_ends b p d t j (Learns k) n u x e kept ended h = absurd kept
put_next_ends b p d t j (Ends (Done c)) n u x e kept ended h =
    let by = ended (Done c) refl in
    let own : EndsBy j u x (Done (Data t.page)) = subst (λ (z : Cell). EndsBy j u x (Done z)) kept by.1 in
    subst (λ (z : AppendEnd). (b ≡ true) × AppendEndsBy (putting d t j) u x z) (same_end (At t.pos t.page) e h) (by.0, (refl, own))
put_next_ends b p d t j (Ends Seen) n u x e kept ended h = absurd kept
put_next_ends b p d t j (Ends (Lost c)) n u x e kept ended h = absurd (ends_goes _ _ h)
put_next_ends b p d t j (Ends (Fenced v f)) n u x e kept ended h = absurd (ends_learns _ _ h)
put_next_ends b p d t j (Ends (Gone g)) n u x e kept ended h =
    let by = ended (Gone g) refl in
    subst (λ (z : AppendEnd). (b ≡ true) × AppendEndsBy (putting d t j) u x z) (same_end (Forgotten t.pos g) e h) (by.0, (refl, by.1))

own_ends : (o b : Bool) (d : Entry) (t : Token) (j : CellJob) (c : Cell) (n u : ℕ) (x : Reply) (e : AppendEnd) → cell_eq c (Data t.page) ≡ o →
    (b ≡ true) × EndsBy j u x (Done c) → (own_or_not (judging d t j) t n o).to ≡ Ends e → (b ≡ true) × AppendEndsBy (judging d t j) u x e
own_ends true b d t j c n u x e same by h =
    let own : EndsBy j u x (Done (Data t.page)) = subst (λ (z : Cell). EndsBy j u x (Done z)) (same_cell c (Data t.page) same) by.1 in
    subst (λ (z : AppendEnd). (b ≡ true) × AppendEndsBy (judging d t j) u x z) (same_end (At t.pos t.page) e h) (by.0, (refl, own))
own_ends false b d t j c n u x e same by h = absurd (ends_goes _ _ h)

judge_next_ends : (b : Bool) (p : Layout) (d : Entry) (t : Token) (j : CellJob) (y : Next CellJob CellEnd) (n u : ℕ) (x : Reply) (e : AppendEnd) →
    FillNext (place_in p t.pos) y → Ended b j u x y → (judge_next (judging d t j) t y n).to ≡ Ends e → (b ≡ true) × AppendEndsBy (judging d t j) u x e
judge_next_ends b p d t j (Goes k) n u x e kept ended h = absurd (ends_goes _ _ h)
judge_next_ends b p d t j (Learns k) n u x e kept ended h = absurd kept
judge_next_ends b p d t j (Ends (Done c)) n u x e kept ended h = own_ends (cell_eq c (Data t.page)) b d t j c n u x e refl (ended (Done c) refl) h
judge_next_ends b p d t j (Ends Seen) n u x e kept ended h = absurd kept
judge_next_ends b p d t j (Ends (Lost c)) n u x e kept ended h = absurd kept
judge_next_ends b p d t j (Ends (Fenced v f)) n u x e kept ended h = absurd (ends_learns _ _ h)
judge_next_ends b p d t j (Ends (Gone g)) n u x e kept ended h =
    let by = ended (Gone g) refl in
    subst (λ (z : AppendEnd). (b ≡ true) × AppendEndsBy (judging d t j) u x z) (same_end (Forgotten t.pos g) e h) (by.0, (refl, by.1))

issued_ends : (b : Bool) (p : Layout) (d : Entry) (r pos : ℕ) (ls : List StreamLink) (n : ℕ) (e : AppendEnd) → (on_issued p (asking d r) pos ls n b).to ≡ Ends e → ⊥
unfolding put_cell
issued_ends true p d r pos ls n e h = ends_goes _ _ h
issued_ends false p d r pos ls n e h = ends_goes _ _ h

older_ends : (b : Bool) (p : Layout) (d : Entry) (r n : ℕ) (e : AppendEnd) → (on_older {E = AppendEnd} p n (asking d r) b).to ≡ Ends e → ⊥
older_ends true p d r n e h = ends_goes _ _ h
older_ends false p d r n e h = ends_goes _ _ h

newer_ends : (b : Bool) (p : Layout) (d : Entry) (r f n : ℕ) (e : AppendEnd) → (on_newer {E = AppendEnd} p f n (asking d r) b).to ≡ Ends e → ⊥
newer_ends true p d r f n e h = ends_learns _ _ h
newer_ends false p d r f n e h = older_ends (nat_lt f p.epoch) p d r n e h

asking_ends : (p : Layout) (d : Entry) (r u : ℕ) (x : Reply) (n : ℕ) (e : AppendEnd) → (asking_feed p (asking d r) x n).to ≡ Ends e → AppendEndsBy (asking d r) u x e
asking_ends p d r u (IsIssued pos ls) n e h = absurd (issued_ends (names_all (streams_of d) ls) p d r pos ls n e h)
asking_ends p d r u (IsFull l) n e h = subst (λ (z : AppendEnd). AppendEndsBy (asking d r) u (IsFull l) z) (same_end (Full l) e h) (refl, refl)
asking_ends p d r u (IsOldEpoch f) n e h = absurd (newer_ends (nat_lt p.epoch f) p d r f n e h)
asking_ends p d r u _ n e h = absurd (ends_goes _ _ h)

asking_ends_if : (b : Bool) (p : Layout) (d : Entry) (r u : ℕ) (m : Msg) (n : ℕ) (e : AppendEnd) → (append_fed_if b p (asking d r) u m n).to ≡ Ends e →
    (b ≡ true) × AppendEndsBy (asking d r) u (reply m) e
unfolding append_feed
asking_ends_if true p d r u m n e h = (refl, asking_ends p d r u (reply m) n e h)
asking_ends_if false p d r u m n e h = absurd (ends_goes _ _ h)

fed_ends : (p : Layout) (d : Entry) (t : Option Token) (w : AppendWork) (from : NodeId) (rid : ℕ) (m : Msg) (n : ℕ) (e : AppendEnd) → WorkKept p d t w →
    (append_fed p (append_at d t w) from rid m n).to ≡ Ends e → (awaits (append_asks p (append_at d t w)) from rid ≡ true) × AppendEndsBy (append_at d t w) from.num (reply m) e
unfolding append_work_asks
fed_ends p d None (Asking r) from rid m n e kept h = asking_ends_if (awaits (append_asks p (asking d r)) from rid) p d r from.num m n e h
fed_ends p d (Some t) (Asking r) from rid m n e kept h = absurd cc
fed_ends p d None (Putting j) from rid m n e kept h = absurd kept
fed_ends p d None (Judging j) from rid m n e kept h = absurd kept
fed_ends p d (Some t) (Putting j) from rid m n e kept h =
    let c = fed j from rid m n in
    let goes = subst (λ (a : Place). PutNext a t.page c.to) kept.1 (put_fed_kept j t.page from rid m n kept.2) in
    put_next_ends (awaits (cell_asks j) from rid) p d t j c.to c.next from.num (reply m) e goes (λ f g. ends_by_answers j from rid m n f g)
    (sym (ap (λ z. z.to) (put_fed p d t j from rid m n)) ∙ h)
fed_ends p d (Some t) (Judging j) from rid m n e kept h =
    let c = fed j from rid m n in
    let goes = subst (λ (a : Place). FillNext a c.to) kept.1 (fill_fed_kept j from rid m n kept.2) in
    judge_next_ends (awaits (cell_asks j) from rid) p d t j c.to c.next from.num (reply m) e goes (λ f g. ends_by_answers j from rid m n f g)
    (sym (ap (λ z. z.to) (judge_fed p d t j from rid m n)) ∙ h)

pub append_ends_by_answers : AppendEndsByAnswers
append_ends_by_answers p a from rid m next e kept h = fed_ends p a.draft a.token a.work from rid m next e kept h

-- ---- pauses

learns_goes : (a b : Append) → ◌≡◌ {A = Next Append AppendEnd} (Goes a) (Learns b) → ⊥
learns_goes a b h = cc

learns_ends : (e : AppendEnd) (b : Append) → ◌≡◌ {A = Next Append AppendEnd} (Ends e) (Learns b) → ⊥
learns_ends e b h = cc

same_paused : (a b : Append) → ◌≡◌ {A = Next Append AppendEnd} (Learns a) (Learns b) → b ≡ a
same_paused a b h = cc

-- a fence tells the later epoch
pub fence_told : (j : CellJob) (u v e epoch : ℕ) (x : Reply) → j.place.epoch ≡ epoch → EndsBy j u x (Fenced v e) → ToldAbove epoch (epoch_told x)
fence_told j u v e epoch x same by =
    subst (λ (z : Reply). ToldAbove epoch (epoch_told z)) (sym by.1) (subst (λ (k : ℕ). k < e) same by.2)

put_next_pauses : (b : Bool) (p : Layout) (d : Entry) (t : Token) (j : CellJob) (y : Next CellJob CellEnd) (n u : ℕ) (x : Reply) (a : Append) →
    j.place.epoch ≡ p.epoch → PutNext (place_in p t.pos) t.page y → Ended b j u x y → (put_next (putting d t j) t y n).to ≡ Learns a →
    (b ≡ true) × ToldAbove p.epoch (epoch_told x) × (a ≡ putting d t j)
put_next_pauses b p d t j (Goes k) n u x a same kept ended h = absurd (learns_goes _ _ h)
put_next_pauses b p d t j (Learns k) n u x a same kept ended h = absurd kept
put_next_pauses b p d t j (Ends (Done c)) n u x a same kept ended h = absurd (learns_ends _ _ h)
put_next_pauses b p d t j (Ends Seen) n u x a same kept ended h = absurd kept
put_next_pauses b p d t j (Ends (Lost c)) n u x a same kept ended h = absurd (learns_goes _ _ h)
put_next_pauses b p d t j (Ends (Fenced v f)) n u x a same kept ended h =
    let by = ended (Fenced v f) refl in
    (by.0, fence_told j u v f p.epoch x same by.1, same_paused (putting d t j) a h)
put_next_pauses b p d t j (Ends (Gone g)) n u x a same kept ended h = absurd (learns_ends _ _ h)

own_pauses : (o : Bool) (d : Entry) (t : Token) (j : CellJob) (n : ℕ) (a : Append) → (own_or_not (judging d t j) t n o).to ≡ Learns a → ⊥
own_pauses true d t j n a h = learns_ends _ _ h
own_pauses false d t j n a h = learns_goes _ _ h

judge_next_pauses : (b : Bool) (p : Layout) (d : Entry) (t : Token) (j : CellJob) (y : Next CellJob CellEnd) (n u : ℕ) (x : Reply) (a : Append) →
    j.place.epoch ≡ p.epoch → FillNext (place_in p t.pos) y → Ended b j u x y → (judge_next (judging d t j) t y n).to ≡ Learns a →
    (b ≡ true) × ToldAbove p.epoch (epoch_told x) × (a ≡ judging d t j)
judge_next_pauses b p d t j (Goes k) n u x a same kept ended h = absurd (learns_goes _ _ h)
judge_next_pauses b p d t j (Learns k) n u x a same kept ended h = absurd kept
judge_next_pauses b p d t j (Ends (Done c)) n u x a same kept ended h = absurd (own_pauses (cell_eq c (Data t.page)) d t j n a h)
judge_next_pauses b p d t j (Ends Seen) n u x a same kept ended h = absurd kept
judge_next_pauses b p d t j (Ends (Lost c)) n u x a same kept ended h = absurd kept
judge_next_pauses b p d t j (Ends (Fenced v f)) n u x a same kept ended h =
    let by = ended (Fenced v f) refl in
    (by.0, fence_told j u v f p.epoch x same by.1, same_paused (judging d t j) a h)
judge_next_pauses b p d t j (Ends (Gone g)) n u x a same kept ended h = absurd (learns_ends _ _ h)

issued_pauses : (b : Bool) (p : Layout) (d : Entry) (r pos : ℕ) (ls : List StreamLink) (n : ℕ) (a : Append) → (on_issued p (asking d r) pos ls n b).to ≡ Learns a → ⊥
unfolding put_cell
issued_pauses true p d r pos ls n a h = learns_goes _ _ h
issued_pauses false p d r pos ls n a h = learns_goes _ _ h

older_pauses : (b : Bool) (p : Layout) (d : Entry) (r n : ℕ) (a : Append) → (on_older {E = AppendEnd} p n (asking d r) b).to ≡ Learns a → ⊥
older_pauses true p d r n a h = learns_goes _ _ h
older_pauses false p d r n a h = learns_goes _ _ h

newer_pauses : (b : Bool) (p : Layout) (d : Entry) (r f n : ℕ) (a : Append) → nat_lt p.epoch f ≡ b → (on_newer {E = AppendEnd} p f n (asking d r) b).to ≡ Learns a →
    (p.epoch < f) × (a ≡ asking d r)
newer_pauses true p d r f n a later h = (ltb-true p.epoch f later, same_paused (asking d r) a h)
newer_pauses false p d r f n a later h = absurd (older_pauses (nat_lt f p.epoch) p d r n a h)

asking_pauses : (p : Layout) (d : Entry) (r : ℕ) (x : Reply) (n : ℕ) (a : Append) → (asking_feed p (asking d r) x n).to ≡ Learns a →
    ToldAbove p.epoch (epoch_told x) × (a ≡ asking d r)
asking_pauses p d r (IsIssued pos ls) n a h = absurd (issued_pauses (names_all (streams_of d) ls) p d r pos ls n a h)
asking_pauses p d r (IsFull l) n a h = absurd (learns_ends _ _ h)
asking_pauses p d r (IsOldEpoch f) n a h = newer_pauses (nat_lt p.epoch f) p d r f n a refl h
asking_pauses p d r _ n a h = absurd (learns_goes _ _ h)

asking_pauses_if : (b : Bool) (p : Layout) (d : Entry) (r u : ℕ) (m : Msg) (n : ℕ) (a : Append) → (append_fed_if b p (asking d r) u m n).to ≡ Learns a →
    (b ≡ true) × ToldAbove p.epoch (epoch_told (reply m)) × (a ≡ asking d r)
unfolding append_feed
asking_pauses_if true p d r u m n a h = let by = asking_pauses p d r (reply m) n a h in (refl, by.0, by.1)
asking_pauses_if false p d r u m n a h = absurd (learns_goes _ _ h)

fed_pauses : (p : Layout) (d : Entry) (t : Option Token) (w : AppendWork) (from : NodeId) (rid : ℕ) (m : Msg) (n : ℕ) (a : Append) → WorkKept p d t w →
    (append_fed p (append_at d t w) from rid m n).to ≡ Learns a →
    (awaits (append_asks p (append_at d t w)) from rid ≡ true) × ToldAbove p.epoch (epoch_told (reply m)) × (a ≡ append_at d t w)
unfolding append_work_asks
fed_pauses p d None (Asking r) from rid m n a kept h = asking_pauses_if (awaits (append_asks p (asking d r)) from rid) p d r from.num m n a h
fed_pauses p d (Some t) (Asking r) from rid m n a kept h = absurd cc
fed_pauses p d None (Putting j) from rid m n a kept h = absurd kept
fed_pauses p d None (Judging j) from rid m n a kept h = absurd kept
fed_pauses p d (Some t) (Putting j) from rid m n a kept h =
    let c = fed j from rid m n in
    let goes = subst (λ (z : Place). PutNext z t.page c.to) kept.1 (put_fed_kept j t.page from rid m n kept.2) in
    put_next_pauses (awaits (cell_asks j) from rid) p d t j c.to c.next from.num (reply m) a (ap (λ (z : Place). z.epoch) kept.1) goes (λ f g. ends_by_answers j from rid m n f g)
    (sym (ap (λ z. z.to) (put_fed p d t j from rid m n)) ∙ h)
fed_pauses p d (Some t) (Judging j) from rid m n a kept h =
    let c = fed j from rid m n in
    let goes = subst (λ (z : Place). FillNext z c.to) kept.1 (fill_fed_kept j from rid m n kept.2) in
    judge_next_pauses (awaits (cell_asks j) from rid) p d t j c.to c.next from.num (reply m) a (ap (λ (z : Place). z.epoch) kept.1) goes (λ f g. ends_by_answers j from rid m n f g)
    (sym (ap (λ z. z.to) (judge_fed p d t j from rid m n)) ∙ h)

pub append_pauses_by_answers : AppendPausesByAnswers
append_pauses_by_answers p a from rid m next b kept h = fed_pauses p a.draft a.token a.work from rid m next b kept h
