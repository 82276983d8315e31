-- What an append passes by.
use Rattle.std.proofs.Common.{◌≡◌, ℕ, ◌+◌, Bool, true, false, not, ◌||◌, ◌==◌, nat_lt, List, [], ◌∷◌, ◌++◌, Option, Some, None, refl, sym, ap, subst, ◌∙◌, arith}
use Rattle.std.proofs.lemmas.Bool.Decides.{nat_tests}
use Rattle.tg_base.specs.Layouts.{Layout}
use Rattle.tg_base.specs.declared.cell.Cell.TheVariants.{Data}
use Rattle.tg_base.specs.declared.ids.NodeId.{NodeId}
use Rattle.tg_base.specs.declared.marks.StreamLink.{StreamLink}
use Rattle.tg_base.specs.declared.msg.Msg.{Msg}
use Rattle.tg_base.specs.declared.packet.Out.{Out}
use Rattle.tg_entry.specs.declared.entry.Entry.{Entry}
use Rattle.tg_protocol.specs.Words.{cell_eq}
use Rattle.tg_protocol.specs.Entries.{streams_of}
use Rattle.tg_entry.specs.Records.{linked}
use Rattle.tg_protocol.specs.Pages.{page_of}
use Rattle.tg_protocol.specs.Requests.{Next, Goes, Learns, Ends, awaits}
use Rattle.tg_protocol.specs.Replies.{Reply, IsIssued, IsFull, IsOldEpoch, reply}
use Rattle.tg_protocol.specs.Cells.{Place, CellJob, CellEnd, Done, Seen, Lost, Fenced, Gone, Puts, works, place_in, put_cell, cell_asks, work_asks}
use Rattle.tg_protocol.specs.Appending.{Append, AppendWork, Asking, Putting, Judging, Token, AppendEnd, AppendTurn, names_all, put_next, judge_next, own_or_not, on_issued, on_older, on_newer, asking_feed, append_asks, append_feed, append_work_asks}
use Rattle.tg_chain.specs.Turns.{fed, drawn_between, by_rules as cell_rules, new_asks as cell_news}
use Rattle.tg_chain.proofs.Outs.{put_drawn}
use Rattle.tg_chain.proofs.Passing.{waits_for_answers}
use Rattle.tg_append.specs.Appends.{append_at, asking, putting, judging, append_fed, append_fed_if, by_append}
use Rattle.tg_append.specs.AppendLaws.{WorkKept, asking_passes, cell_passes, append_passes, AppendWaitsForAnswers}
use Rattle.tg_append.proofs.Cells.{fed_besides, fed_over}
use Rattle.tg_append.proofs.Jobs.{PutNext, FillNext, put_fed_kept, fill_fed_kept}
use Rattle.tg_append.proofs.Outs.{token_drawn}
use Rattle.tg_append.proofs.Subs.{put_fed, judge_fed}

pub no_cons : (o : Out) (os : List Out) → o ∷ os ≡ [] → ⊥
no_cons o os e = cc

ends_go : (e : AppendEnd) (b : Append) → ◌≡◌ {A = Next Append AppendEnd} (Ends e) (Goes b) → ⊥
ends_go e b h = cc

learns_go : (a b : Append) → ◌≡◌ {A = Next Append AppendEnd} (Learns a) (Goes b) → ⊥
learns_go a b h = cc

-- a token is asked for
token_sent : (p : Layout) (d : Entry) (n : ℕ) → drawn_between n (n + 1) (append_asks p (asking d n)) ≡ [] → ⊥
unfolding append_work_asks
token_sent p d n h = no_cons _ _ (sym (token_drawn p d n) ∙ h)

token_sent_at : (p : Layout) (d : Entry) (old n : ℕ) → n ≡ old → drawn_between old (n + 1) (append_asks p (asking d n)) ≡ [] → ⊥
token_sent_at p d old n same h = token_sent p d old (subst (λ (k : ℕ). drawn_between old (k + 1) (append_asks p (asking d k)) ≡ []) same h)

page_sent : (a : Place) (d : List ℕ) (n : ℕ) → drawn_between n (n + 1) (cell_asks (works a (Puts n d 0))) ≡ [] → ⊥
unfolding work_asks
page_sent a d n h = no_cons _ _ (sym (put_drawn a d 0 n) ∙ h)

-- a job that goes on and sends nothing
pub job_waits : (j k : CellJob) (from : NodeId) (rid : ℕ) (m : Msg) (old : ℕ) → (fed j from rid m old).to ≡ Goes k →
    drawn_between old (fed j from rid m old).next (cell_asks k) ≡ [] → (not (awaits (cell_asks j) from rid) || cell_passes j from.num (reply m)) ≡ true
job_waits j k from rid m old goes none =
    let c = fed j from rid m old in
    waits_for_answers j from rid m old k goes
    (ap (λ (b : List Out). b ++ cell_news cell_asks old c.next c.to) (fed_besides j from rid m old) ∙ ap (λ z. cell_news cell_asks old c.next z) goes ∙ none)

put_next_waits : (p : Layout) (d : Entry) (t : Token) (j : CellJob) (from : NodeId) (rid : ℕ) (m : Msg) (old : ℕ) (y : Next CellJob CellEnd) (b : Append) →
    (fed j from rid m old).to ≡ y → PutNext (place_in p t.pos) t.page y → (put_next (putting d t j) t y (fed j from rid m old).next).to ≡ Goes b →
    (by_append p old (put_next (putting d t j) t y (fed j from rid m old).next)).outs ≡ [] →
    (not (awaits (cell_asks j) from rid) || cell_passes j from.num (reply m)) ≡ true
unfolding append_work_asks
put_next_waits p d t j from rid m old (Goes k) b is kept h none = job_waits j k from rid m old is none
put_next_waits p d t j from rid m old (Learns k) b is kept h none = absurd kept
put_next_waits p d t j from rid m old (Ends (Done c)) b is kept h none = absurd (ends_go _ _ h)
put_next_waits p d t j from rid m old (Ends Seen) b is kept h none = absurd kept
put_next_waits p d t j from rid m old (Ends (Lost c)) b is kept h none = absurd (token_sent_at p d old _ (fed_over j from rid m old (Lost c) is) none)
put_next_waits p d t j from rid m old (Ends (Fenced u e)) b is kept h none = absurd (learns_go _ _ h)
put_next_waits p d t j from rid m old (Ends (Gone g)) b is kept h none = absurd (ends_go _ _ h)

own_waits : (o : Bool) (p : Layout) (d : Entry) (t : Token) (j : CellJob) (old n : ℕ) (b : Append) → n ≡ old → (own_or_not (judging d t j) t n o).to ≡ Goes b →
    (by_append p old (own_or_not (judging d t j) t n o)).outs ≡ [] → ⊥
own_waits true p d t j old n b same h none = ends_go _ _ h
own_waits false p d t j old n b same h none = token_sent_at p d old n same none

judge_next_waits : (p : Layout) (d : Entry) (t : Token) (j : CellJob) (from : NodeId) (rid : ℕ) (m : Msg) (old : ℕ) (y : Next CellJob CellEnd) (b : Append) →
    (fed j from rid m old).to ≡ y → FillNext (place_in p t.pos) y → (judge_next (judging d t j) t y (fed j from rid m old).next).to ≡ Goes b →
    (by_append p old (judge_next (judging d t j) t y (fed j from rid m old).next)).outs ≡ [] →
    (not (awaits (cell_asks j) from rid) || cell_passes j from.num (reply m)) ≡ true
unfolding append_work_asks
judge_next_waits p d t j from rid m old (Goes k) b is kept h none = job_waits j k from rid m old is none
judge_next_waits p d t j from rid m old (Learns k) b is kept h none = absurd kept
judge_next_waits p d t j from rid m old (Ends (Done c)) b is kept h none =
    absurd (own_waits (cell_eq c (Data t.page)) p d t j old _ b (fed_over j from rid m old (Done c) is) h none)
judge_next_waits p d t j from rid m old (Ends Seen) b is kept h none = absurd kept
judge_next_waits p d t j from rid m old (Ends (Lost c)) b is kept h none = absurd kept
judge_next_waits p d t j from rid m old (Ends (Fenced u e)) b is kept h none = absurd (learns_go _ _ h)
judge_next_waits p d t j from rid m old (Ends (Gone g)) b is kept h none = absurd (ends_go _ _ h)

issued_waits : (o : Bool) (p : Layout) (d : Entry) (r pos : ℕ) (ls : List StreamLink) (old : ℕ) (b : Append) → (on_issued p (asking d r) pos ls old o).to ≡ Goes b →
    (by_append p old (on_issued p (asking d r) pos ls old o)).outs ≡ [] → not o ≡ true
unfolding put_cell append_work_asks
issued_waits true p d r pos ls old b h none = absurd (page_sent (place_in p pos) (page_of (linked d ls)) old none)
issued_waits false p d r pos ls old b h none = refl

pub same_epoch : (e epoch : ℕ) → nat_lt epoch e ≡ false → nat_lt e epoch ≡ false → (e == epoch) ≡ true
same_epoch e epoch f g = grind (arith, nat_tests)

older_waits : (o : Bool) (p : Layout) (d : Entry) (r e old : ℕ) → nat_lt p.epoch e ≡ false → nat_lt e p.epoch ≡ o →
    (by_append p old (on_older {E = AppendEnd} p old (asking d r) o)).outs ≡ [] → (e == p.epoch) ≡ true
older_waits true p d r e old f g none = absurd (no_cons _ _ none)
older_waits false p d r e old f g none = same_epoch e p.epoch f g

newer_waits : (o : Bool) (p : Layout) (d : Entry) (r e old : ℕ) (b : Append) → nat_lt p.epoch e ≡ o → (on_newer {E = AppendEnd} p e old (asking d r) o).to ≡ Goes b →
    (by_append p old (on_newer {E = AppendEnd} p e old (asking d r) o)).outs ≡ [] → (e == p.epoch) ≡ true
newer_waits true p d r e old b f h none = absurd (learns_go _ _ h)
newer_waits false p d r e old b f h none = older_waits (nat_lt e p.epoch) p d r e old f refl none

asking_waits : (p : Layout) (d : Entry) (r : ℕ) (x : Reply) (old : ℕ) (b : Append) → (asking_feed p (asking d r) x old).to ≡ Goes b →
    (by_append p old (asking_feed p (asking d r) x old)).outs ≡ [] → asking_passes p d x ≡ true
asking_waits p d r (IsIssued pos ls) old b h none = issued_waits (names_all (streams_of d) ls) p d r pos ls old b h none
asking_waits p d r (IsFull l) old b h none = absurd (ends_go _ _ h)
asking_waits p d r (IsOldEpoch e) old b h none = newer_waits (nat_lt p.epoch e) p d r e old b refl h none
asking_waits p d r _ old b h none = refl

asking_waits_if : (o : Bool) (p : Layout) (d : Entry) (r u : ℕ) (m : Msg) (old : ℕ) (b : Append) → (append_fed_if o p (asking d r) u m old).to ≡ Goes b →
    (by_append p old (append_fed_if o p (asking d r) u m old)).outs ≡ [] → (not o || asking_passes p d (reply m)) ≡ true
unfolding append_feed
asking_waits_if true p d r u m old b h none = asking_waits p d r (reply m) old b h none
asking_waits_if false p d r u m old b h none = refl

fed_waits : (p : Layout) (d : Entry) (t : Option Token) (w : AppendWork) (from : NodeId) (rid : ℕ) (m : Msg) (old : ℕ) (b : Append) → WorkKept p d t w →
    (append_fed p (append_at d t w) from rid m old).to ≡ Goes b → (by_append p old (append_fed p (append_at d t w) from rid m old)).outs ≡ [] →
    (not (awaits (append_asks p (append_at d t w)) from rid) || append_passes p (append_at d t w) w from.num (reply m)) ≡ true
unfolding append_work_asks
fed_waits p d None (Asking r) from rid m old b kept h none = asking_waits_if (awaits (append_asks p (asking d r)) from rid) p d r from.num m old b h none
fed_waits p d (Some t) (Asking r) from rid m old b kept h none = absurd cc
fed_waits p d None (Putting j) from rid m old b kept h none = absurd kept
fed_waits p d None (Judging j) from rid m old b kept h none = absurd kept
fed_waits p d (Some t) (Putting j) from rid m old b kept h none =
    let c = fed j from rid m old in
    let goes = subst (λ (z : Place). PutNext z t.page c.to) kept.1 (put_fed_kept j t.page from rid m old kept.2) in
    let turned = put_fed p d t j from rid m old in
    put_next_waits p d t j from rid m old c.to b refl goes (sym (ap (λ (z : AppendTurn). z.to) turned) ∙ h) (sym (ap (λ (z : AppendTurn). (by_append p old z).outs) turned) ∙ none)
fed_waits p d (Some t) (Judging j) from rid m old b kept h none =
    let c = fed j from rid m old in
    let goes = subst (λ (z : Place). FillNext z c.to) kept.1 (fill_fed_kept j from rid m old kept.2) in
    let turned = judge_fed p d t j from rid m old in
    judge_next_waits p d t j from rid m old c.to b refl goes (sym (ap (λ (z : AppendTurn). z.to) turned) ∙ h) (sym (ap (λ (z : AppendTurn). (by_append p old z).outs) turned) ∙ none)

pub append_waits_for_answers : AppendWaitsForAnswers
append_waits_for_answers p a from rid m next b kept h none = fed_waits p a.draft a.token a.work from rid m next b kept h none
