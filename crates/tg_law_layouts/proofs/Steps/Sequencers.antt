-- A sequencer's positions rise within an epoch.
use Rattle.std.proofs.Common.{◌≡◌, ◌⊎◌, ℕ, zero, suc, ◌+◌, ◌<◌, ◌≤◌, List, [], ◌∷◌, ◌++◌, get_or, false, refl, sym, ap, ◌∙◌, subst, inl, inr, arith, Some, None, Option}
use Rattle.std.specs.Prelude.{Contains}
use Rattle.tg_base.specs.declared.packet.Out.{Out}
use Rattle.tg_protocol.specs.Words.{unit_id}
use Rattle.tg_protocol.specs.Requests.{Waits, asked_of, drawn_from}
use Rattle.tg_protocol.specs.Cells.{Place, CellWork, CellJob, Puts, Gets, Fills, Copies, Probes, work_asks}
use Rattle.tg_base.specs.Layouts.{Layout}
use Rattle.tg_base.specs.declared.ids.NodeId.{NodeId}
use Rattle.tg_base.specs.declared.msg.Msg.{Msg}
use Rattle.tg_protocol.specs.Sequencers.{SeqrState, new_seqr, seqr_step, scanning, scan_asks}
use Rattle.tg_law_layouts.specs.Steps.Runs.{Input, seqr_after, issued_by, issued_in, Issues}
use Rattle.tg_law_layouts.specs.Steps.Laws.{IssuesOnce}

contains_none : (x : ℕ) → Contains [] x → ⊥
contains_none x h = omega (arith, h.1)

one_at : (x y k : ℕ) → k < 1 → get_or (y ∷ []) k x ≡ x → x ≡ y
one_at x y zero less e = sym e
one_at x y (suc k) less e = absurd (omega (arith, less))

contains_one : (x y : ℕ) → Contains (y ∷ []) x → x ≡ y
contains_one x y h = one_at x y h.0 h.1 h.2

-- a sequencer that has nothing left to scan scans nothing
abbrev pub IsScanRight : SeqrState → Type 0
IsScanRight s = scanning s ≡ false → s.scan ≡ None

new_right : (n limit : ℕ) (p : Layout) → IsScanRight (new_seqr n limit p)
unfolding new_seqr
new_right n limit p h = grind arith

step_right : (s : SeqrState) (from : NodeId) (rid : ℕ) (m : Msg) → IsScanRight s → IsScanRight (seqr_step s from rid m).now
unfolding seqr_step
step_right s from rid m right h = grind arith

-- a ready sequencer stays ready in its epoch, and its next position doesn't fall
pub record Goes (s t : SeqrState) : Type 0 where
  pub epoch : s.epoch ≤ t.epoch
  pub ready : s.epoch ≡ t.epoch → scanning s ≡ false → scanning t ≡ false
  pub next : s.epoch ≡ t.epoch → scanning s ≡ false → s.next ≤ t.next

step_goes : (s : SeqrState) (from : NodeId) (rid : ℕ) (m : Msg) → IsScanRight s → Goes s (seqr_step s from rid m).now
unfolding seqr_step
step_goes s from rid m right = record { epoch = grind arith; ready = λ e r. grind arith; next = λ e r. grind arith }

-- What a scan sends issues nothing.

asked_quiet : (f : ℕ → NodeId) (m : Msg) → issued_by m ≡ [] → (ws : Waits) → issued_in (asked_of f m ws) ≡ []
unfolding issued_in
asked_quiet f m quiet [] = refl
asked_quiet f m quiet (w ∷ ws) = let rest = asked_quiet f m quiet ws in grind arith

work_quiet : (a : Place) (w : CellWork) → issued_in (work_asks a w) ≡ []
unfolding issued_in work_asks
work_quiet a (Puts r d i) = refl
work_quiet a (Gets r) = refl
work_quiet a (Fills r) = refl
work_quiet a (Copies r c i) = refl
work_quiet a (Probes ws) = asked_quiet unit_id _ refl ws

drawn_more : (o : Out) (os : List Out) (r : ℕ) → issued_in (o ∷ os) ≡ [] → (issued_in os ≡ [] → issued_in (drawn_from r os) ≡ []) → issued_in (drawn_from r (o ∷ os)) ≡ []
unfolding issued_in
drawn_more o os r quiet rest = grind arith

drawn_quiet : (os : List Out) (r : ℕ) → issued_in os ≡ [] → issued_in (drawn_from r os) ≡ []
unfolding issued_in
drawn_quiet [] r quiet = refl
drawn_quiet (o ∷ os) r quiet = drawn_more o os r quiet (λ h. drawn_quiet os r h)

scan_quiet : (o : Option CellJob) (r : ℕ) → issued_in (drawn_from r (scan_asks o)) ≡ []
unfolding issued_in
scan_quiet None r = refl
scan_quiet (Some j) r = drawn_quiet (work_asks j.place j.work) r (work_quiet j.place j.work)

-- what a step issues: nothing, or the next position
pub record IssuesNext (s t : SeqrState) : Type 0 where
  pub next : t.next ≡ s.next + 1
  pub epoch : t.epoch ≡ s.epoch
  pub ready : scanning t ≡ false

step_issues : (s : SeqrState) (from : NodeId) (rid : ℕ) (m : Msg)
    → (issued_in (seqr_step s from rid m).sends ≡ []) ⊎ ((issued_in (seqr_step s from rid m).sends ≡ s.next ∷ []) × IssuesNext s (seqr_step s from rid m).now)
unfolding seqr_step issued_in
step_issues s from rid m = grind (arith, scan_quiet)

-- Runs.

goes_not : (s : SeqrState) → Goes s s
goes_not s = record { epoch = omega arith; ready = λ e r. r; next = λ e r. omega arith }

goes_then : (s t u : SeqrState) → Goes s t → Goes t u → Goes s u
goes_then s t u g h = record {
  epoch = let a = g.epoch in let b = h.epoch in omega (arith, a, b);
  ready = λ e r. h.ready (second e) (g.ready (first e) r);
  next = λ e r. let a = g.next (first e) r in let b = h.next (second e) (g.ready (first e) r) in omega (arith, a, b);
}
  where
    first : s.epoch ≡ u.epoch → s.epoch ≡ t.epoch
    first e = let a = g.epoch in let b = h.epoch in omega (arith, a, b, e)

    second : s.epoch ≡ u.epoch → t.epoch ≡ u.epoch
    second e = let a = g.epoch in let b = h.epoch in omega (arith, a, b, e)

right_after : (is : List Input) (s : SeqrState) → IsScanRight s → IsScanRight (seqr_after s is)
unfolding seqr_after
right_after [] s right = right
right_after (i ∷ is) s right = right_after is _ (step_right s i.from i.rid i.msg right)

goes_after : (is : List Input) (s : SeqrState) → IsScanRight s → Goes s (seqr_after s is)
unfolding seqr_after
goes_after [] s right = goes_not s
goes_after (i ∷ is) s right =
    goes_then s _ _ (step_goes s i.from i.rid i.msg right) (goes_after is (seqr_step s i.from i.rid i.msg).now (step_right s i.from i.rid i.msg right))

after_both : (is js : List Input) (s : SeqrState) → seqr_after s (is ++ js) ≡ seqr_after (seqr_after s is) js
unfolding seqr_after
after_both [] js s = refl
after_both (i ∷ is) js s = after_both is js _

-- the position that is issued is the next one
issued_next : (s : SeqrState) (i : Input) (p : ℕ) → Issues s i p → (p ≡ s.next) × IssuesNext s (seqr_step s i.from i.rid i.msg).now
issued_next s i p h = by (step_issues s i.from i.rid i.msg)
  where
    by : (issued_in (seqr_step s i.from i.rid i.msg).sends ≡ []) ⊎ ((issued_in (seqr_step s i.from i.rid i.msg).sends ≡ s.next ∷ []) × IssuesNext s (seqr_step s i.from i.rid i.msg).now)
        → (p ≡ s.next) × IssuesNext s (seqr_step s i.from i.rid i.msg).now
    by (inl none) = absurd (contains_none p (subst (λ xs. Contains xs p) none h))
    by (inr one) = (contains_one p s.next (subst (λ xs. Contains xs p) one.0 h), one.1)

rises : (s : SeqrState) → IsScanRight s → (i : Input) (between : List Input) (j : Input) (p q : ℕ) → Issues s i p → Issues (seqr_after s (i ∷ between)) j q
    → s.epoch ≡ (seqr_after s (i ∷ between)).epoch → p < q
unfolding seqr_after
rises s right i between j p q a b e =
    let t = (seqr_step s i.from i.rid i.msg).now in
    let u = seqr_after t between in
    let first = issued_next s i p a in
    let last = issued_next u j q b in
    let go = goes_after between t (step_right s i.from i.rid i.msg right) in
    let same : t.epoch ≡ u.epoch = first.1.epoch ∙ e in
    let le = go.next same first.1.ready in
    let at = first.0 in let is = last.0 in let one = first.1.next in
    omega (arith, le, at, is, one)

pub issues_once : IssuesOnce
issues_once n limit proj before i between j p q a b e =
    let start = new_seqr n limit proj in
    let s = seqr_after start before in
    let cut : seqr_after start (before ++ i ∷ between) ≡ seqr_after s (i ∷ between) = after_both before (i ∷ between) start in
    rises s (right_after before start (new_right n limit proj)) i between j p q a (subst (λ u. Issues u j q) cut b) (e ∙ ap (λ (u : SeqrState). u.epoch) cut)
