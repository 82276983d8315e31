-- What a turn of a reconfiguration comes to, and by which tests: for an awaited answer, and for a newer layout.
use Rattle.std.proofs.Common.{◌≡◌, ℕ, ◌+◌, ◌^◌, List, [], ◌∷◌, length, Bool, true, false, refl, sym, ap, ◌∙◌, subst, Option, Some, None}
use Rattle.std.specs.Prelude.{nat_lt, ◌==◌, ◌&&◌, if◌then◌else◌}
use Rattle.tg_base.specs.Layouts.{Layout}
use Rattle.tg_base.specs.Changes.{Changed}
use Rattle.tg_base.specs.declared.change.Join.{Join}
use Rattle.tg_base.specs.declared.ids.Ballot.{Ballot}
use Rattle.tg_base.specs.declared.marks.StreamLink.{StreamLink}
use Rattle.tg_protocol.specs.Requests.{Waits, waits_for, without_wait, Goes, turn, passes, draws, ends, learns}
use Rattle.tg_protocol.specs.Replies.{Reply, IsFenced, IsSealed, IsMissing, IsWhole, IsPromise, IsNack, IsAccepted, IsTail, IsOldEpoch}
use Rattle.tg_protocol.specs.Appending.{names_all}
use Rattle.tg_protocol.specs.Trimming.{learns_if}
use Rattle.tg_protocol.specs.Reconfiguring.{Acks, Before, Stage, Preparing, Accepting, Later, Voting, ReconfWork, SealingSpare, LookingSpare, Sealing, LookingAgain, Agreeing, Telling, Starting, Reconf, Installed, Overtaken, ReconfTurn, next_epoch, servers, is_majority, at_work, seals, looks_if, seals_if, proposes, after_seals, seals_left, sealed_if, greatest, value_or, with_stage, promised_on, tells, accepted_on, round_after, round_set, sets_if, same_vote, is_of_epoch, stage_feed, begun, is_answer, later_feed, has_rid, vote_feed, started_if, not_whole, reconf_feed, reconf_start, first_step, adopts, heard_on, heard, own_decided, on_newer, is_own, reconf_latest}

-- work on the spare at the present epoch, and at the next; work before a layout is told; and work before the sequencer is started
pub data IsSpare : ReconfWork → Type 0 where
  OfSeal : (k : ℕ) → IsSpare (SealingSpare k)
  OfLook : (k : ℕ) → IsSpare (LookingSpare k)

pub data IsNext : ReconfWork → Type 0 where
  OfSeals : (ws : Waits) (acks : Acks) → IsNext (Sealing ws acks)
  OfAgain : (k : ℕ) (acks : Acks) → IsNext (LookingAgain k acks)

pub data IsEarly : ReconfWork → Type 0 where
  EarlySpare : (w : ReconfWork) → IsSpare w → IsEarly w
  EarlyNext : (w : ReconfWork) → IsNext w → IsEarly w
  EarlyVote : (v : Voting) → IsEarly (Agreeing v)

pub data IsTold : ReconfWork → Type 0 where
  NotYet : (w : ReconfWork) → IsEarly w → IsTold w
  Tells : (ws : Waits) (k : ℕ) (q : Layout) → IsTold (Telling ws k q)

-- the requests that wait in a round that is set
abbrev pub set_waits : Option Later → Waits
set_waits None = []
set_waits (Some l) = l.waits

-- For an awaited answer of a node with this number, to a request of this number.
module _ (n rid : ℕ) (x : Reply) (next : ℕ) where
  -- the voting that is answered: the present one, or the one whose round a `Nack` has set
  pub data IsVoting (r : Reconf) (v : Voting) : Voting → Type 0 where
    Present : has_rid n rid (set_waits v.later) ≡ false → IsVoting r v v
    IsBegun : (l : Later) → v.later ≡ Some l → has_rid n rid l.waits ≡ true → is_answer r l x ≡ true → IsVoting r v (begun v l)

  pub data Fed : Reconf → ReconfTurn → Type 0 where
    -- nothing comes of it
    Nothing : (r : Reconf) → Fed r (passes next r)
    -- the spare is sealed, has all, or misses a position; or a fence is past it
    LooksSpare : (r : Reconf) (k e h : ℕ) → x ≡ IsSealed e h → (e == r.stand.epoch) ≡ true → Fed (at_work r (SealingSpare k)) (draws next (at_work r (LookingSpare next)))
    SpareWhole : (r : Reconf) (k : ℕ) → x ≡ IsWhole → Fed (at_work r (LookingSpare k)) (seals r next)
    SpareMisses : (r : Reconf) (k pos : ℕ) → x ≡ IsMissing pos → Fed (at_work r (LookingSpare k)) (not_whole r n pos next)
    SpareFenced : (r : Reconf) (w : ReconfWork) (e : ℕ) → IsSpare w → x ≡ IsFenced e → nat_lt r.stand.epoch e ≡ true → Fed (at_work r w) (seals r next)
    -- a unit is sealed: more are to be, or it is looked at the joining one again, or a layout is proposed
    SealsMore : (r : Reconf) (ws : Waits) (acks : Acks) (e h : ℕ) (w : ℕ × ℕ) (vs : Waits) → x ≡ IsSealed e h → (e == next_epoch r) ≡ true → without_wait n ws ≡ w ∷ vs
        → Fed (at_work r (Sealing ws acks)) (turn next (Goes (at_work r (Sealing (w ∷ vs) ((n, h) ∷ acks)))))
    SealsLast : (r : Reconf) (ws : Waits) (acks : Acks) (e h : ℕ) → x ≡ IsSealed e h → (e == next_epoch r) ≡ true → without_wait n ws ≡ [] → r.change.join ≡ None → Fed (at_work r (Sealing ws acks)) (proposes r ((n, h) ∷ acks) next)
    LooksAgain : (r : Reconf) (ws : Waits) (acks : Acks) (e h : ℕ) (j : Join) → x ≡ IsSealed e h → (e == next_epoch r) ≡ true → without_wait n ws ≡ [] → r.change.join ≡ Some j
        → Fed (at_work r (Sealing ws acks)) (draws next (at_work r (LookingAgain next ((n, h) ∷ acks))))
    AgainWhole : (r : Reconf) (k : ℕ) (acks : Acks) → x ≡ IsWhole → Fed (at_work r (LookingAgain k acks)) (proposes r acks next)
    AgainMisses : (r : Reconf) (k : ℕ) (acks : Acks) (pos : ℕ) → x ≡ IsMissing pos → Fed (at_work r (LookingAgain k acks)) (not_whole r n pos next)
    NextFenced : (r : Reconf) (w : ReconfWork) (e : ℕ) → IsNext w → x ≡ IsFenced e → nat_lt (next_epoch r) e ≡ true → Fed (at_work r w) (learns next (at_work r w))
    -- votes: a promise, an acceptance, a `Nack`
    Promises : (r : Reconf) (v u : Voting) (ws : Waits) (ps : List Before) (e : ℕ) (b : Ballot) (a : Before) → IsVoting r v u → u.stage ≡ Preparing ws ps → x ≡ IsPromise e b a → (same_vote r u.round e b && is_of_epoch e a) ≡ true
        → is_majority r (length (a ∷ ps)) ≡ false → Fed (at_work r (Agreeing v)) (turn next (Goes (with_stage r u (Preparing (without_wait n ws) (a ∷ ps)))))
    PromisesMost : (r : Reconf) (v u : Voting) (ws : Waits) (ps : List Before) (e : ℕ) (b : Ballot) (a : Before) → IsVoting r v u → u.stage ≡ Preparing ws ps → x ≡ IsPromise e b a → (same_vote r u.round e b && is_of_epoch e a) ≡ true
        → is_majority r (length (a ∷ ps)) ≡ true → Fed (at_work r (Agreeing v)) (turn (next + r.layouts) (Goes (with_stage r u (Accepting (waits_for (servers r) next) 0 (value_or (greatest (a ∷ ps)) u.own)))))
    Accepts : (r : Reconf) (v u : Voting) (ws : Waits) (k : ℕ) (q : Layout) (e : ℕ) (b : Ballot) → IsVoting r v u → u.stage ≡ Accepting ws k q → x ≡ IsAccepted e b → same_vote r u.round e b ≡ true → is_majority r (k + 1) ≡ false
        → Fed (at_work r (Agreeing v)) (turn next (Goes (with_stage r u (Accepting (without_wait n ws) (k + 1) q))))
    AcceptsMost : (r : Reconf) (v u : Voting) (ws : Waits) (k : ℕ) (q : Layout) (e : ℕ) (b : Ballot) → IsVoting r v u → u.stage ≡ Accepting ws k q → x ≡ IsAccepted e b → same_vote r u.round e b ≡ true → is_majority r (k + 1) ≡ true
        → Fed (at_work r (Agreeing v)) (tells r q next)
    Nacks : (r : Reconf) (v u : Voting) (e : ℕ) (b : Ballot) → IsVoting r v u → x ≡ IsNack e b → (e == next_epoch r) ≡ true → (nat_lt (round_set u.later) (round_after u b) && nat_lt (round_after u b) (2 ^ 32)) ≡ true
        → Fed (at_work r (Agreeing v)) (turn (next + r.layouts) (Goes (at_work r (Agreeing (record u { later = Some (record { round = round_after u b; waits = waits_for (servers r) next }) })))))
    NacksLow : (r : Reconf) (v u : Voting) (e : ℕ) (b : Ballot) → IsVoting r v u → x ≡ IsNack e b → (e == next_epoch r) ≡ true → (nat_lt (round_set u.later) (round_after u b) && nat_lt (round_after u b) (2 ^ 32)) ≡ false
        → Fed (at_work r (Agreeing v)) (turn next (Goes (at_work r (Agreeing u))))
    -- the sequencer answers
    Starts : (r : Reconf) (k t : ℕ) (ls : List StreamLink) → x ≡ IsTail t ls → names_all [] ls ≡ true → Fed (at_work r (Starting k)) (ends next (Installed r.stand.epoch r.stand))
    StartsPast : (r : Reconf) (k e : ℕ) → x ≡ IsOldEpoch e → nat_lt r.stand.epoch e ≡ true → Fed (at_work r (Starting k)) (learns next (at_work r (Starting k)))

  module _ (r : Reconf) where
    look_fed : (k e h : ℕ) (b : Bool) → x ≡ IsSealed e h → (e == r.stand.epoch) ≡ b → Fed (at_work r (SealingSpare k)) (looks_if (at_work r (SealingSpare k)) next b)
    look_fed k e h true is f = LooksSpare r k e h is f
    look_fed k e h false is f = Nothing (at_work r (SealingSpare k))

    past_fed : (w : ReconfWork) (e : ℕ) (b : Bool) → IsSpare w → x ≡ IsFenced e → nat_lt r.stand.epoch e ≡ b → Fed (at_work r w) (seals_if (at_work r w) next b)
    past_fed w e true k is f = SpareFenced r w e k is f
    past_fed w e false k is f = Nothing (at_work r w)

    after_fed : (ws : Waits) (acks : Acks) (e h : ℕ) (o : Option Join) → x ≡ IsSealed e h → (e == next_epoch r) ≡ true → without_wait n ws ≡ [] → r.change.join ≡ o
        → Fed (at_work r (Sealing ws acks)) (after_seals (at_work r (Sealing ws acks)) ((n, h) ∷ acks) next o)
    after_fed ws acks e h None is f none j = SealsLast r ws acks e h is f none j
    after_fed ws acks e h (Some i) is f none j = LooksAgain r ws acks e h i is f none j

    left_fed : (ws : Waits) (acks : Acks) (e h : ℕ) (vs : Waits) → x ≡ IsSealed e h → (e == next_epoch r) ≡ true → without_wait n ws ≡ vs → Fed (at_work r (Sealing ws acks)) (seals_left (at_work r (Sealing ws acks)) vs ((n, h) ∷ acks) next)
    left_fed ws acks e h [] is f left = after_fed ws acks e h r.change.join is f left refl
    left_fed ws acks e h (w ∷ vs) is f left = SealsMore r ws acks e h w vs is f left

    sealed_fed : (ws : Waits) (acks : Acks) (e h : ℕ) (b : Bool) → x ≡ IsSealed e h → (e == next_epoch r) ≡ b → Fed (at_work r (Sealing ws acks)) (sealed_if (at_work r (Sealing ws acks)) n h ws acks next b)
    sealed_fed ws acks e h true is f = left_fed ws acks e h (without_wait n ws) is f refl
    sealed_fed ws acks e h false is f = Nothing (at_work r (Sealing ws acks))

    next_fed : (w : ReconfWork) (e : ℕ) (b : Bool) → IsNext w → x ≡ IsFenced e → nat_lt (next_epoch r) e ≡ b → Fed (at_work r w) (learns_if b (at_work r w) next)
    next_fed w e true k is f = NextFenced r w e k is f
    next_fed w e false k is f = Nothing (at_work r w)

    module _ (v u : Voting) (of : IsVoting r v u) where
      promised_fed : (ws : Waits) (ps : List Before) (e : ℕ) (b : Ballot) (a : Before) (m : Bool) → u.stage ≡ Preparing ws ps → x ≡ IsPromise e b a → (same_vote r u.round e b && is_of_epoch e a) ≡ true → is_majority r (length (a ∷ ps)) ≡ m
          → Fed (at_work r (Agreeing v)) (promised_on (at_work r (Agreeing v)) u (without_wait n ws) (a ∷ ps) next m)
      promised_fed ws ps e b a true st is f g = PromisesMost r v u ws ps e b a of st is f g
      promised_fed ws ps e b a false st is f g = Promises r v u ws ps e b a of st is f g

      promise_fed : (ws : Waits) (ps : List Before) (e : ℕ) (b : Ballot) (a : Before) (s : Bool) → u.stage ≡ Preparing ws ps → x ≡ IsPromise e b a → (same_vote r u.round e b && is_of_epoch e a) ≡ s
          → Fed (at_work r (Agreeing v)) (if s then promised_on (at_work r (Agreeing v)) u (without_wait n ws) (a ∷ ps) next (is_majority r (length (a ∷ ps))) else passes next (at_work r (Agreeing v)))
      promise_fed ws ps e b a true st is f = promised_fed ws ps e b a (is_majority r (length (a ∷ ps))) st is f refl
      promise_fed ws ps e b a false st is f = Nothing (at_work r (Agreeing v))

      accepted_fed : (ws : Waits) (k : ℕ) (q : Layout) (e : ℕ) (b : Ballot) (m : Bool) → u.stage ≡ Accepting ws k q → x ≡ IsAccepted e b → same_vote r u.round e b ≡ true → is_majority r (k + 1) ≡ m
          → Fed (at_work r (Agreeing v)) (accepted_on (at_work r (Agreeing v)) u (without_wait n ws) (k + 1) q next m)
      accepted_fed ws k q e b true st is f g = AcceptsMost r v u ws k q e b of st is f g
      accepted_fed ws k q e b false st is f g = Accepts r v u ws k q e b of st is f g

      accept_fed : (ws : Waits) (k : ℕ) (q : Layout) (e : ℕ) (b : Ballot) (s : Bool) → u.stage ≡ Accepting ws k q → x ≡ IsAccepted e b → same_vote r u.round e b ≡ s
          → Fed (at_work r (Agreeing v)) (if s then accepted_on (at_work r (Agreeing v)) u (without_wait n ws) (k + 1) q next (is_majority r (k + 1)) else passes next (at_work r (Agreeing v)))
      accept_fed ws k q e b true st is f = accepted_fed ws k q e b (is_majority r (k + 1)) st is f refl
      accept_fed ws k q e b false st is f = Nothing (at_work r (Agreeing v))

      sets_fed : (e : ℕ) (b : Ballot) (s : Bool) → x ≡ IsNack e b → (e == next_epoch r) ≡ true → (nat_lt (round_set u.later) (round_after u b) && nat_lt (round_after u b) (2 ^ 32)) ≡ s
          → Fed (at_work r (Agreeing v)) (sets_if (at_work r (Agreeing v)) u (round_after u b) next s)
      sets_fed e b true is f g = Nacks r v u e b of is f g
      sets_fed e b false is f g = NacksLow r v u e b of is f g

      nack_fed : (e : ℕ) (b : Ballot) (s : Bool) → x ≡ IsNack e b → (e == next_epoch r) ≡ s
          → Fed (at_work r (Agreeing v)) (if s then sets_if (at_work r (Agreeing v)) u (round_after u b) next (nat_lt (round_set u.later) (round_after u b) && nat_lt (round_after u b) (2 ^ 32)) else passes next (at_work r (Agreeing v)))
      nack_fed e b true is f = sets_fed e b _ is f refl
      nack_fed e b false is f = Nothing (at_work r (Agreeing v))

      stage_fed : (s : Stage) (y : Reply) → u.stage ≡ s → x ≡ y → Fed (at_work r (Agreeing v)) (stage_feed (at_work r (Agreeing v)) u s n y next)
      stage_fed (Preparing ws ps) (IsPromise e b a) st is = promise_fed ws ps e b a (same_vote r u.round e b && is_of_epoch e a) st is refl
      stage_fed (Accepting ws k q) (IsAccepted e b) st is = accept_fed ws k q e b (same_vote r u.round e b) st is refl
      stage_fed s (IsNack e b) st is = nack_fed e b (e == next_epoch r) is refl
      stage_fed s y st is = Nothing (at_work r (Agreeing v))

    module _ (v : Voting) where
      later_fed : (l : Later) (b : Bool) → v.later ≡ Some l → has_rid n rid l.waits ≡ true → is_answer r l x ≡ b → Fed (at_work r (Agreeing v)) (later_feed (at_work r (Agreeing v)) v l n x next b)
      later_fed l true has f g = stage_fed v (begun v l) (IsBegun l has f g) (Preparing l.waits []) x refl refl
      later_fed l false has f g = Nothing (at_work r (Agreeing v))

      rid_fed : (l : Later) (b : Bool) → v.later ≡ Some l → has_rid n rid l.waits ≡ b
          → Fed (at_work r (Agreeing v)) (if b then later_feed (at_work r (Agreeing v)) v l n x next (is_answer r l x) else stage_feed (at_work r (Agreeing v)) v v.stage n x next)
      rid_fed l true has f = later_fed l (is_answer r l x) has f refl
      rid_fed l false has f = stage_fed v v (Present (ap (λ (o : Option Later). has_rid n rid (set_waits o)) has ∙ f)) v.stage x refl refl

      vote_fed : (o : Option Later) → v.later ≡ o → Fed (at_work r (Agreeing v)) (vote_feed (at_work r (Agreeing v)) v o n rid x next)
      vote_fed None has = stage_fed v v (Present (ap (λ (o : Option Later). has_rid n rid (set_waits o)) has)) v.stage x refl refl
      vote_fed (Some l) has = rid_fed l (has_rid n rid l.waits) has refl

    started_fed : (k t : ℕ) (ls : List StreamLink) (b : Bool) → x ≡ IsTail t ls → names_all [] ls ≡ b → Fed (at_work r (Starting k)) (started_if (at_work r (Starting k)) next b)
    started_fed k t ls true is f = Starts r k t ls is f
    started_fed k t ls false is f = Nothing (at_work r (Starting k))

    start_fed : (k e : ℕ) (b : Bool) → x ≡ IsOldEpoch e → nat_lt r.stand.epoch e ≡ b → Fed (at_work r (Starting k)) (learns_if b (at_work r (Starting k)) next)
    start_fed k e true is f = StartsPast r k e is f
    start_fed k e false is f = Nothing (at_work r (Starting k))

    work_fed : (w : ReconfWork) (y : Reply) → x ≡ y → Fed (at_work r w) (reconf_feed (at_work r w) w n rid y next)
    unfolding reconf_feed
    work_fed (SealingSpare k) (IsSealed e h) is = look_fed k e h (e == r.stand.epoch) is refl
    work_fed (SealingSpare k) (IsFenced e) is = past_fed (SealingSpare k) e (nat_lt r.stand.epoch e) (OfSeal k) is refl
    work_fed (LookingSpare k) IsWhole is = SpareWhole r k is
    work_fed (LookingSpare k) (IsMissing pos) is = SpareMisses r k pos is
    work_fed (LookingSpare k) (IsFenced e) is = past_fed (LookingSpare k) e (nat_lt r.stand.epoch e) (OfLook k) is refl
    work_fed (Sealing ws acks) (IsSealed e h) is = sealed_fed ws acks e h (e == next_epoch r) is refl
    work_fed (Sealing ws acks) (IsFenced e) is = next_fed (Sealing ws acks) e (nat_lt (next_epoch r) e) (OfSeals ws acks) is refl
    work_fed (LookingAgain k acks) IsWhole is = AgainWhole r k acks is
    work_fed (LookingAgain k acks) (IsMissing pos) is = AgainMisses r k acks pos is
    work_fed (LookingAgain k acks) (IsFenced e) is = next_fed (LookingAgain k acks) e (nat_lt (next_epoch r) e) (OfAgain k acks) is refl
    work_fed (Agreeing v) y is = subst (λ (z : Reply). Fed (at_work r (Agreeing v)) (vote_feed (at_work r (Agreeing v)) v v.later n rid z next)) is (vote_fed v v.later refl)
    work_fed (Starting k) (IsTail t ls) is = started_fed k t ls (names_all [] ls) is refl
    work_fed (Starting k) (IsOldEpoch e) is = start_fed k e (nat_lt r.stand.epoch e) is refl
    work_fed w y is = Nothing (at_work r w)

  pub reconf_fed : (r : Reconf) → Fed r (reconf_feed r r.work n rid x next)
  reconf_fed r = work_fed r r.work x refl

-- For a newer layout, of the server with this number.
module _ (n rid : ℕ) (q : Layout) (next : ℕ) where
  pub data Heard : Reconf → ReconfTurn → Type 0 where
    -- the layout past that where the sequencer is started
    StartedBefore : (r : Reconf) (k : ℕ) → Heard (at_work r (Starting k)) (ends next (Installed r.stand.epoch q))
    -- one more server has heard the layout that is told; a majority has, and it is adopted, or another's
    HearsOne : (r : Reconf) (ws : Waits) (k : ℕ) (p : Layout) → (has_rid n rid ws && (q.epoch == next_epoch r)) ≡ true → is_majority r (k + 1) ≡ false
        → Heard (at_work r (Telling ws k p)) (turn next (Goes (at_work r (Telling (without_wait n ws) (k + 1) p))))
    Adopts : (r : Reconf) (ws : Waits) (k : ℕ) (p : Layout) → (has_rid n rid ws && (q.epoch == next_epoch r)) ≡ true → is_majority r (k + 1) ≡ true → (p.by == r.me) ≡ true
        → Heard (at_work r (Telling ws k p)) (draws next (record r { stand = p; work = Starting next }))
    TellsOther : (r : Reconf) (ws : Waits) (k : ℕ) (p : Layout) → (has_rid n rid ws && (q.epoch == next_epoch r)) ≡ true → is_majority r (k + 1) ≡ true → (p.by == r.me) ≡ false
        → Heard (at_work r (Telling ws k p)) (ends next (Overtaken p.epoch p))
    -- the client's own layout is decided: it tells it already, or does so now
    TellsOwn : (r : Reconf) (ws : Waits) (k : ℕ) (p : Layout) → is_own r q ≡ true → Heard (at_work r (Telling ws k p)) (turn next (Goes (at_work r (Telling ws k p))))
    OwnDecided : (r : Reconf) (w : ReconfWork) → IsEarly w → is_own r q ≡ true → Heard (at_work r w) (tells r q next)
    -- another one is
    IsOvertaken : (r : Reconf) (w : ReconfWork) → IsTold w → is_own r q ≡ false → Heard (at_work r w) (ends next (Overtaken q.epoch q))

  module _ (r : Reconf) where
    adopt_heard : (ws : Waits) (k : ℕ) (p : Layout) (b : Bool) → (has_rid n rid ws && (q.epoch == next_epoch r)) ≡ true → is_majority r (k + 1) ≡ true → (p.by == r.me) ≡ b
        → Heard (at_work r (Telling ws k p)) (adopts (at_work r (Telling ws k p)) p next b)
    adopt_heard ws k p true e f g = Adopts r ws k p e f g
    adopt_heard ws k p false e f g = TellsOther r ws k p e f g

    more_heard : (ws : Waits) (k : ℕ) (p : Layout) (b : Bool) → (has_rid n rid ws && (q.epoch == next_epoch r)) ≡ true → is_majority r (k + 1) ≡ b
        → Heard (at_work r (Telling ws k p)) (heard_on (at_work r (Telling ws k p)) (without_wait n ws) (k + 1) p next b)
    more_heard ws k p true e f = adopt_heard ws k p (p.by == r.me) e f refl
    more_heard ws k p false e f = HearsOne r ws k p e f

    told_heard : (ws : Waits) (k : ℕ) (p : Layout) (b : Bool) → is_own r q ≡ b → Heard (at_work r (Telling ws k p)) (on_newer (at_work r (Telling ws k p)) q next b)
    told_heard ws k p true e = TellsOwn r ws k p e
    told_heard ws k p false e = IsOvertaken r (Telling ws k p) (Tells ws k p) e

    tell_heard : (ws : Waits) (k : ℕ) (p : Layout) (b : Bool) → (has_rid n rid ws && (q.epoch == next_epoch r)) ≡ b
        → Heard (at_work r (Telling ws k p)) (if b then heard (at_work r (Telling ws k p)) n ws k p next else on_newer (at_work r (Telling ws k p)) q next (is_own r q))
    tell_heard ws k p true e = more_heard ws k p (is_majority r (k + 1)) e refl
    tell_heard ws k p false e = told_heard ws k p (is_own r q) refl

    early_heard : (w : ReconfWork) (b : Bool) → IsEarly w → ((p : Layout) → own_decided (at_work r w) w p next ≡ tells r p next) → is_own r q ≡ b → Heard (at_work r w) (on_newer (at_work r w) q next b)
    early_heard w true k same e = subst (Heard (at_work r w)) (sym (same q)) (OwnDecided r w k e)
    early_heard w false k same e = IsOvertaken r w (NotYet w k) e

    work_heard : (w : ReconfWork) → Heard (at_work r w) (reconf_latest (at_work r w) w n rid q next)
    unfolding reconf_latest
    work_heard (Starting k) = StartedBefore r k
    work_heard (Telling ws k p) = tell_heard ws k p (has_rid n rid ws && (q.epoch == next_epoch r)) refl
    work_heard (SealingSpare k) = early_heard (SealingSpare k) (is_own r q) (EarlySpare (SealingSpare k) (OfSeal k)) (λ p. refl) refl
    work_heard (LookingSpare k) = early_heard (LookingSpare k) (is_own r q) (EarlySpare (LookingSpare k) (OfLook k)) (λ p. refl) refl
    work_heard (Sealing ws acks) = early_heard (Sealing ws acks) (is_own r q) (EarlyNext (Sealing ws acks) (OfSeals ws acks)) (λ p. refl) refl
    work_heard (LookingAgain k acks) = early_heard (LookingAgain k acks) (is_own r q) (EarlyNext (LookingAgain k acks) (OfAgain k acks)) (λ p. refl) refl
    work_heard (Agreeing v) = early_heard (Agreeing v) (is_own r q) (EarlyVote v) (λ p. refl) refl

  pub reconf_heard : (r : Reconf) → Heard r (reconf_latest r r.work n rid q next)
  reconf_heard r = work_heard r r.work

-- The first step: the seals, or that of a unit that joins.
pub data Begun (r : Reconf) (next : ℕ) : ReconfTurn → Type 0 where
  JoinsNone : r.change.join ≡ None → Begun r next (seals r next)
  Joins : (j : Join) → r.change.join ≡ Some j → Begun r next (draws next (at_work r (SealingSpare next)))

pub reconf_begun : (p : Layout) (layouts : ℕ) (c : Changed) (me next : ℕ) → Begun (record { change = c; me = me; layouts = layouts; stand = p; work = SealingSpare 0 }) next (reconf_start p layouts c me next)
unfolding reconf_start
reconf_begun p layouts c me next = by c.join refl
  where
    by : (o : Option Join) → c.join ≡ o → Begun (record { change = c; me = me; layouts = layouts; stand = p; work = SealingSpare 0 }) next (first_step (record { change = c; me = me; layouts = layouts; stand = p; work = SealingSpare 0 }) next o)
    by None e = JoinsNone e
    by (Some j) e = Joins j e
