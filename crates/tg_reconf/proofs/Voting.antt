-- What a message makes of a round.
use Rattle.std.proofs.Common.{◌≡◌, ℕ, ◌+◌, Bool, true, false, ◌&&◌, List, [], ◌∷◌, length, Option, Some, None, refl, sym, ap, subst, ◌∙◌, arith}
use Rattle.std.specs.Prelude.{nat_lt, nat_le, ◌==◌, ◌^◌, if◌then◌else◌, insert, Result, Ok, Err, IfOk}
use Rattle.tg_base.specs.Layouts.{Layout}
use Rattle.tg_base.specs.declared.change.Join.{Join}
use Rattle.tg_base.specs.declared.fault.NoMemory.{NoMemory}
use Rattle.tg_base.specs.declared.ids.Ballot.{Ballot}
use Rattle.tg_base.specs.declared.msg.Msg.{Msg}
use Rattle.tg_base.specs.declared.msg.Msg.TheVariants as msg
use Rattle.tg_base.specs.declared.packet.Out.{Out}
use Rattle.tg_protocol.specs.Words.{numbers, too_far}
use Rattle.tg_protocol.specs.Requests.{Waits, waits_for, without_wait, passes, turn, Goes}
use Rattle.tg_protocol.specs.Replies.{Reply, IsOther, IsGone, IsSealed, IsMissing, IsLatest, IsIssued, IsTail, IsPromise, IsNack, IsAccepted, near, reply}
use Rattle.tg_protocol.specs.Reconfiguring.{Acks, Before, Stage, Preparing, Accepting, Later, Voting, ReconfWork, SealingSpare, Sealing, Agreeing, Reconf, ReconfEnd, ReconfTurn, next_epoch, stage_asks, reconf_work_asks, reconf_awaited, has_rid, is_majority, promised, promised_on, accepted, accepted_on, same_vote, is_of_epoch, vote_feed, later_feed, nacked, sets_if, stage_feed, begun, is_answer, sealed_if, seals_left, after_seals}
use Rattle.tg_chain.specs.Turns.{Shown, drawn_between}
use Rattle.tg_reconf.specs.declared.plan.Plan.{Plan}
use Rattle.tg_reconf.specs.declared.vote.Vote.{Vote}
use Rattle.tg_reconf.specs.declared.vote.Round.{Round}
use Rattle.tg_reconf.specs.declared.vote.VoteStage.{VoteStage}
use Rattle.tg_reconf.specs.declared.vote.VoteStage.TheVariants as stage
use Rattle.tg_reconf.specs.declared.step.Step.{Step}
use Rattle.tg_reconf.specs.States.{working, stage_of, voting_at, voting_of}
use Rattle.tg_reconf.specs.Turns.{by_reconf, shown, all_drawn}
use Rattle.tg_reconf.specs.Needs.{feed_needs}
use Rattle.tg_reconf.proofs.Staying.{none_new, waits_drawn, later_ws, stage_drawn, agreed_stage, agreed_later}

-- Whatever the machine names as its work.

pub stage_same : (p : Plan) (v w : ReconfWork) (round : ℕ) (s : Stage) → stage_asks (working p v) round s ≡ stage_asks (working p w) round s
stage_same p v w round (Preparing ws ps) = refl
stage_same p v w round (Accepting ws k q) = refl

pub answer_same : (p : Plan) (v w : ReconfWork) (round : ℕ) (us ws : Waits) (x : Reply) →
    is_answer (working p v) (record { round = round; waits = us }) x ≡ is_answer (working p w) (record { round = round; waits = ws }) x
answer_same p v w round us ws (IsPromise e b a) = refl
answer_same p v w round us ws (IsNack e b) = refl
answer_same p v w round us ws _ = refl

after_same : (p : Plan) (v w : ReconfWork) (acks : Acks) (n : ℕ) (j : Option Join) → after_seals (working p v) acks n j ≡ after_seals (working p w) acks n j
after_same p v w acks n None = refl
after_same p v w acks n (Some j) = refl

-- the last seal
pub sealed_done : (p : Plan) (ws vs : Waits) (acks more : Acks) (u h n : ℕ) (b : Bool) → vs ≡ without_wait u ws → (length vs == 0) ≡ true → more ≡ (u, h) ∷ acks → b ≡ true →
    sealed_if (working p (Sealing ws acks)) u h ws acks n b ≡ after_seals (working p (SealingSpare 0)) more n p.change.join
sealed_done p ws [] acks more u h n b e z m t =
    ap (sealed_if (working p (Sealing ws acks)) u h ws acks n) t ∙ ap (λ xs. seals_left (working p (Sealing ws acks)) xs ((u, h) ∷ acks) n) (sym e)
    ∙ after_same p (Sealing ws acks) (SealingSpare 0) ((u, h) ∷ acks) n p.change.join ∙ ap (λ as'. after_seals (working p (SealingSpare 0)) as' n p.change.join) (sym m)
sealed_done p ws (v ∷ vs) acks more u h n b e z m t = absurd (grind arith)

-- Refusals.

pub nack_fed : (r : Reconf) (v : Voting) (s : Stage) (u e : ℕ) (b : Ballot) (n : ℕ) → (e == next_epoch r) ≡ true → stage_feed r v s u (IsNack e b) n ≡ nacked r v b n
nack_fed r v (Preparing ws ps) u e b n h = ap (λ t. if t then nacked r v b n else passes n r) h
nack_fed r v (Accepting ws k q) u e b n h = ap (λ t. if t then nacked r v b n else passes n r) h

pub nack_passed : (r : Reconf) (v : Voting) (s : Stage) (u e : ℕ) (b : Ballot) (n : ℕ) → (e == next_epoch r) ≡ false → stage_feed r v s u (IsNack e b) n ≡ passes n r
nack_passed r v (Preparing ws ps) u e b n h = ap (λ t. if t then nacked r v b n else passes n r) h
nack_passed r v (Accepting ws k q) u e b n h = ap (λ t. if t then nacked r v b n else passes n r) h

sets_same : (p : Plan) (x w : ReconfWork) (v : Voting) (round n : ℕ) (b : Bool) → sets_if (working p x) v round n b ≡ sets_if (working p w) v round n b
sets_same p x w v round n true = refl
sets_same p x w v round n false = refl

pub nack_sets : (p : Plan) (v : Voting) (s : Stage) (u e : ℕ) (b : Ballot) (n : ℕ) (w : ReconfWork) → (e == p.stand.proj.epoch + 1) ≡ true →
    stage_feed (working p w) v s u (IsNack e b) n ≡ nacked (working p (SealingSpare 0)) v b n
nack_sets p v s u e b n w h = nack_fed (working p w) v s u e b n h ∙ sets_same p w (SealingSpare 0) v _ n _

-- Answers that hold whatever node it is.

pub at_two : (t : Result Step NoMemory) (P : Step → ℕ → ℕ → Type 0) (n k : ℕ) → IfOk t (λ s. (n k : ℕ) → P s n k) → IfOk t (λ s. P s n k)
at_two (Ok t) P n k h = h n k
at_two (Err e) P n k h = h

pub at_one : (t : Result Step NoMemory) (P : Step → ℕ → Type 0) (k : ℕ) → IfOk t (λ s. (k : ℕ) → P s k) → IfOk t (λ s. P s k)
at_one (Ok t) P k h = h k
at_one (Err e) P k h = h

pub for_all : (t : Result Step NoMemory) (Q : Step → Type 0) (P : Step → ℕ → Type 0) → ((s : Step) (n : ℕ) → Q s → P s n) → IfOk t Q → IfOk t (λ s. (n : ℕ) → P s n)
for_all (Ok t) Q P f h = λ n. f t n h
for_all (Err e) Q P f h = h

pub front : {A : Type 0} (xs : List A) (x : A) → insert xs 0 x ≡ x ∷ xs
front [] x = refl
front (y ∷ ys) x = refl

-- A round is set: its numbers are drawn, and nothing is sent.
pub raised : (p : Plan) (v : Vote) (round old new : ℕ) (ws : Waits) (m : Reconf) (outs : List Out) →
    m ≡ working p (Agreeing (record (voting_of v) { later = Some (record { round = round; waits = ws }) })) →
    ws ≡ waits_for (numbers p.stand.layouts 0) old → new ≡ old + p.stand.layouts → outs ≡ [] →
    all_drawn old (stage_asks (working p (SealingSpare 0)) v.round.number (stage_of v.stage)) ≡ true →
    ◌≡◌ {A = Shown Reconf ReconfEnd} (record { next = new; to = Goes m; outs = outs }) (by_reconf old (sets_if (working p (SealingSpare 0)) (voting_of v) round old true))
unfolding reconf_work_asks
raised p v round old new ws m outs em ew en eo d =
    let at : Waits → ReconfWork = λ vs. Agreeing (record (voting_of v) { later = Some (record { round = round; waits = vs }) }) in
    let all : Waits = waits_for (numbers p.stand.layouts 0) old in
    let goes : m ≡ working p (at all) = em ∙ ap (λ vs. working p (at vs)) ew in
    let same = stage_same p (SealingSpare 0) (at all) v.round.number (stage_of v.stage) in
    let none : drawn_between old (old + p.stand.layouts) (stage_asks (working p (at all)) v.round.number (stage_of v.stage)) ≡ [] =
    subst (λ os. drawn_between old (old + p.stand.layouts) os ≡ []) same (none_new (stage_asks (working p (SealingSpare 0)) v.round.number (stage_of v.stage)) old (old + p.stand.layouts) d) in
    let sent = eo ∙ sym none in
    λ i. record { next = en i; to = Goes (goes i); outs = sent i }

-- What is no vote.

abbrev pub is_vote : Reply → Bool
is_vote (IsPromise e b a) = true
is_vote (IsNack e b) = true
is_vote (IsAccepted e b) = true
is_vote x = false

others_passed : (r : Reconf) (v : Voting) (s : Stage) (u : ℕ) (x : Reply) (n : ℕ) → is_vote x ≡ false → stage_feed r v s u x n ≡ passes n r
others_passed r v s u (IsPromise e b a) n h = absurd (cc)
others_passed r v s u (IsNack e b) n h = absurd (cc)
others_passed r v s u (IsAccepted e b) n h = absurd (cc)
others_passed r v (Preparing ws ps) u _ n h = refl
others_passed r v (Accepting ws k q) u _ n h = refl

far_or : (b : Bool) (x : Reply) → is_vote x ≡ false → is_vote (if b then IsOther else x) ≡ false
far_or true x h = refl
far_or false x h = h

no_vote : (v : Voting) (m : Msg) → feed_needs (Agreeing v) m ≡ false → is_vote (reply m) ≡ false
unfolding reply
no_vote v (msg.Promise e b a) h = absurd (cc)
no_vote v (msg.Nack e b) h = absurd (cc)
no_vote v (msg.Accepted e b) h = absurd (cc)
no_vote v (msg.Gone b) h = far_or (too_far b) (IsGone b) refl
no_vote v (msg.Sealed e k) h = far_or (too_far k) (IsSealed e k) refl
no_vote v (msg.Missing p) h = far_or (too_far p) (IsMissing p) refl
no_vote v (msg.Latest q) h = far_or (nat_le (2 ^ 32) q.epoch) (IsLatest q) refl
no_vote v (msg.Issued p ls) h = far_or (too_far p) (IsIssued p ls) refl
no_vote v (msg.Tail t ls) h = far_or (too_far t) (IsTail t ls) refl
no_vote v _ h = refl

pub quiet : (r : Reconf) (v w : Voting) (s : Stage) (u : ℕ) (m : Msg) (n : ℕ) → feed_needs (Agreeing w) m ≡ false → stage_feed r v s u (reply m) n ≡ passes n r
quiet r v w s u m n h = others_passed r v s u (reply m) n (no_vote w m h)

pub not_vote : (v : Voting) (m : Msg) → ((e : ℕ) (b : Ballot) (a : Option (Ballot × Layout)) → m ≡ msg.Promise e b a → ⊥) → ((e : ℕ) (b : Ballot) → m ≡ msg.Accepted e b → ⊥) →
    ((e : ℕ) (b : Ballot) → m ≡ msg.Nack e b → ⊥) → feed_needs (Agreeing v) m ≡ false
not_vote v (msg.Promise e b a) p q r = absurd (p e b a refl)
not_vote v (msg.Accepted e b) p q r = absurd (q e b refl)
not_vote v (msg.Nack e b) p q r = absurd (r e b refl)
not_vote v _ p q r = refl

-- The requests of a round were drawn.

pub asked_now : (p : Plan) (v : Voting) (n : ℕ) → all_drawn n (reconf_awaited (working p (Agreeing v))) ≡ true → all_drawn n (stage_asks (working p (SealingSpare 0)) v.round v.stage) ≡ true
asked_now p v n d = stage_drawn (working p (SealingSpare 0)) v.round v.stage n ∙ agreed_stage (working p (Agreeing v)) v n (record { all = d })

pub asked_later : (p : Plan) (v : Voting) (l : Later) (n : ℕ) → v.later ≡ Some l → all_drawn n (reconf_awaited (working p (Agreeing v))) ≡ true →
    all_drawn n (stage_asks (working p (SealingSpare 0)) l.round (Preparing l.waits [])) ≡ true
asked_later p v l n e d =
    stage_drawn (working p (SealingSpare 0)) l.round (Preparing l.waits []) n ∙ subst (λ o. waits_drawn n (later_ws o) ≡ true) e (agreed_later (working p (Agreeing v)) v n (record { all = d }))

-- Which round an answer is fed to.

pub fed_none : (r : Reconf) (v : Voting) (u rid : ℕ) (x : Reply) (n : ℕ) → v.later ≡ None → vote_feed r v v.later u rid x n ≡ stage_feed r v v.stage u x n
fed_none r v u rid x n e = ap (λ o. vote_feed r v o u rid x n) e

pub fed_other : (r : Reconf) (v : Voting) (l : Later) (u rid : ℕ) (x : Reply) (n : ℕ) → v.later ≡ Some l → has_rid u rid l.waits ≡ false → vote_feed r v v.later u rid x n ≡ stage_feed r v v.stage u x n
fed_other r v l u rid x n e h =
    ap (λ o. vote_feed r v o u rid x n) e ∙ ap (λ b. if b then later_feed r v l u x n (is_answer r l x) else stage_feed r v v.stage u x n) h

pub fed_passed : (r : Reconf) (v : Voting) (l : Later) (u rid : ℕ) (x : Reply) (n : ℕ) → v.later ≡ Some l → has_rid u rid l.waits ≡ true → is_answer r l x ≡ false →
    vote_feed r v v.later u rid x n ≡ passes n r
fed_passed r v l u rid x n e h a =
    ap (λ o. vote_feed r v o u rid x n) e ∙ ap (λ b. if b then later_feed r v l u x n (is_answer r l x) else stage_feed r v v.stage u x n) h ∙ ap (later_feed r v l u x n) a

promised_same : (p : Plan) (w y : ReconfWork) (v : Voting) (ws : Waits) (ps : List Before) (n : ℕ) (b : Bool) → promised_on (working p w) v ws ps n b ≡ promised_on (working p y) v ws ps n b
promised_same p w y v ws ps n true = refl
promised_same p w y v ws ps n false = refl

begun_same : (p : Plan) (w y : ReconfWork) (v : Voting) (l : Later) (u : ℕ) (x : Reply) (n : ℕ) → is_answer (working p w) l x ≡ true →
    stage_feed (working p w) (begun v l) (Preparing l.waits []) u x n ≡ stage_feed (working p y) (begun v l) (Preparing l.waits []) u x n
begun_same p w y v l u (IsPromise e b a) n h =
    ap (λ t. if t then promised (working p w) (begun v l) u a l.waits [] n else passes n (working p w)) h
    ∙ promised_same p w y (begun v l) (without_wait u l.waits) (a ∷ []) n (is_majority (working p w) (length (a ∷ [])))
    ∙ sym (ap (λ t. if t then promised (working p y) (begun v l) u a l.waits [] n else passes n (working p y)) h)
begun_same p w y v l u (IsNack e b) n h =
    nack_sets p (begun v l) (Preparing l.waits []) u e b n w h ∙ sym (nack_sets p (begun v l) (Preparing l.waits []) u e b n y h)
begun_same p w y v l u _ n h = absurd (cc)

pub fed_begun : (p : Plan) (v : Voting) (l : Later) (u rid : ℕ) (x : Reply) (n : ℕ) → v.later ≡ Some l → has_rid u rid l.waits ≡ true → is_answer (working p (Agreeing v)) l x ≡ true →
    vote_feed (working p (Agreeing v)) v v.later u rid x n ≡ stage_feed (working p (Agreeing (begun v l))) (begun v l) (Preparing l.waits []) u x n
fed_begun p v l u rid x n e h a =
    let r = working p (Agreeing v) in
    ap (λ o. vote_feed r v o u rid x n) e ∙ ap (λ b. if b then later_feed r v l u x n (is_answer r l x) else stage_feed r v v.stage u x n) h ∙ ap (later_feed r v l u x n) a
    ∙ begun_same p (Agreeing v) (Agreeing (begun v l)) v l u x n a

-- A vote that counts, and one that doesn't.

promise_same : (p : Plan) (w y : ReconfWork) (r : Round) (s : Stage) (ws : Waits) (ps : List Before) (n : ℕ) (b : Bool) →
    promised_on (working p w) (voting_at r s) ws ps n b ≡ promised_on (working p y) (voting_at r (Preparing ws ps)) ws ps n b
promise_same p w y r s ws ps n true = refl
promise_same p w y r s ws ps n false = refl

accept_same : (p : Plan) (w y : ReconfWork) (r : Round) (s : Stage) (ws : Waits) (k : ℕ) (q : Layout) (n : ℕ) (b : Bool) →
    accepted_on (working p w) (voting_at r s) ws k q n b ≡ accepted_on (working p y) (voting_at r (Preparing ws [])) ws k q n b
accept_same p w y r s ws k q n true = refl
accept_same p w y r s ws k q n false = refl

abbrev pub promise_counts : Reconf → ℕ → ℕ → Ballot → Before → Bool
promise_counts r round e b a = same_vote r round e b && is_of_epoch e a

pub promise_counted : (p : Plan) (w : ReconfWork) (r : Round) (ws vs : Waits) (ps qs : List Before) (u e : ℕ) (b : Ballot) (a : Before) (n : ℕ) → vs ≡ without_wait u ws → qs ≡ a ∷ ps →
    promise_counts (working p (SealingSpare 0)) r.number e b a ≡ true →
    stage_feed (working p w) (voting_at r (Preparing ws ps)) (Preparing ws ps) u (IsPromise e b a) n
    ≡ promised_on (working p (SealingSpare 0)) (voting_at r (Preparing vs qs)) vs qs n (is_majority (working p (SealingSpare 0)) (length qs))
promise_counted p w r ws vs ps qs u e b a n ev eq h =
    let k = working p w in
    let v = voting_at r (Preparing ws ps) in
    let s = working p (SealingSpare 0) in
    ap (λ t. if t then promised k v u a ws ps n else passes n k) h ∙ promise_same p w (SealingSpare 0) r (Preparing ws ps) (without_wait u ws) (a ∷ ps) n (is_majority k (length (a ∷ ps)))
    ∙ ap (λ xs. promised_on s (voting_at r (Preparing xs (a ∷ ps))) xs (a ∷ ps) n (is_majority s (length (a ∷ ps)))) (sym ev)
    ∙ ap (λ xs. promised_on s (voting_at r (Preparing vs xs)) vs xs n (is_majority s (length xs))) (sym eq)

pub promise_passed : (p : Plan) (w : ReconfWork) (v : Voting) (ws : Waits) (ps : List Before) (u e : ℕ) (b : Ballot) (a : Before) (n : ℕ) →
    promise_counts (working p (SealingSpare 0)) v.round e b a ≡ false → stage_feed (working p w) v (Preparing ws ps) u (IsPromise e b a) n ≡ passes n (working p w)
promise_passed p w v ws ps u e b a n h = ap (λ t. if t then promised (working p w) v u a ws ps n else passes n (working p w)) h

pub accept_counted : (p : Plan) (w : ReconfWork) (r : Round) (ws vs : Waits) (k : ℕ) (q : Layout) (u e : ℕ) (b : Ballot) (n : ℕ) → vs ≡ without_wait u ws →
    same_vote (working p (SealingSpare 0)) r.number e b ≡ true →
    stage_feed (working p w) (voting_at r (Accepting ws k q)) (Accepting ws k q) u (IsAccepted e b) n
    ≡ accepted_on (working p (SealingSpare 0)) (voting_at r (Preparing vs [])) vs (k + 1) q n (is_majority (working p (SealingSpare 0)) (k + 1))
accept_counted p w r ws vs k q u e b n ev h =
    let m = working p w in
    let v = voting_at r (Accepting ws k q) in
    let s = working p (SealingSpare 0) in
    ap (λ t. if t then accepted m v u ws k q n else passes n m) h ∙ accept_same p w (SealingSpare 0) r (Accepting ws k q) (without_wait u ws) (k + 1) q n (is_majority m (k + 1))
    ∙ ap (λ xs. accepted_on s (voting_at r (Preparing xs [])) xs (k + 1) q n (is_majority s (k + 1))) (sym ev)

pub accept_passed : (p : Plan) (w : ReconfWork) (v : Voting) (ws : Waits) (k : ℕ) (q : Layout) (u e : ℕ) (b : Ballot) (n : ℕ) →
    same_vote (working p (SealingSpare 0)) v.round e b ≡ false → stage_feed (working p w) v (Accepting ws k q) u (IsAccepted e b) n ≡ passes n (working p w)
accept_passed p w v ws k q u e b n h = ap (λ t. if t then accepted (working p w) v u ws k q n else passes n (working p w)) h
