-- A reconfiguration tells only layouts that are decided: its own, after a majority has accepted it, or one that it was told.
use Rattle.std.proofs.Common.{◌≡◌, ◌⊎◌, ℕ, zero, suc, ◌+◌, ◌<◌, ◌≤◌, List, Bool, true, false, ◌&&◌, refl, sym, ap, subst, inl, inr, arith}
use Rattle.std.specs.Prelude.{nat_lt, if◌then◌else◌}
use Rattle.tg_base.specs.Layouts.{Layout}
use Rattle.tg_base.specs.declared.ids.Ballot.{Ballot}
use Rattle.tg_base.specs.declared.ids.NodeId.{NodeId}
use Rattle.tg_base.specs.declared.packet.Packet.{Packet}
use Rattle.tg_protocol.specs.Words.{layout_id}
use Rattle.tg_protocol.specs.Logs.{has_accepted, acceptances, by_majority}
use Rattle.tg_protocol.specs.Requests.{Waits, awaits, without_wait, Next, Goes, Learns, Ends}
use Rattle.tg_protocol.specs.Replies.{Reply}
use Rattle.tg_protocol.specs.Replies as reply
use Rattle.tg_protocol.specs.Reconfiguring.{reconf_work_asks, reconf_awaited, at_work, Stage, Preparing, Accepting, Voting, ReconfWork, Agreeing, Telling, Reconf, ReconfEnd, Installed, Overtaken, NotWhole, ReconfTurn, next_epoch, ballot_of, same_vote, has_rid, reconf_feed, reconf_latest}
use Rattle.tg_law_layouts.proofs.Agreement.Counts.{count, count_one_more, Implies}
use Rattle.tg_law_layouts.proofs.Agreement.Proposers.{answered, answered_still, answered_now, waits_rid}
use Rattle.tg_law_steps.proofs.Machines.Awaited.{stage_waits, voting_fed}
use Rattle.tg_law_steps.proofs.Machines.Reconfs as turns
use Rattle.tg_law_layouts.proofs.Agreement.Facts.{Proposed}

-- Counts.

pub acceptances_count : (ps : List Packet) (e : ℕ) (b : Ballot) (n : ℕ) → acceptances ps e b n ≡ count (has_accepted ps e b) n
acceptances_count ps e b zero = refl
acceptances_count ps e b (suc n) = ap (λ k. (if has_accepted ps e b n then 1 else 0) + k) (acceptances_count ps e b n)

more_at : (a b : Bool) (x y : ℕ) → (a ≡ true → b ≡ true) → x ≤ y → (if a then 1 else 0) + x ≤ (if b then 1 else 0) + y
more_at a b x y implied le = grind arith

pub count_more : (f g : ℕ → Bool) → Implies f g → (n : ℕ) → count f n ≤ count g n
count_more f g implied zero = omega arith
count_more f g implied (suc n) = more_at (f n) (g n) (count f n) (count g n) (implied n) (count_more f g implied n)

pub both_and : (a b : Bool) → (a && b) ≡ true → (a ≡ true) × (b ≡ true)
both_and a b h = grind arith

pub and_both : (a b : Bool) → a ≡ true → b ≡ true → (a && b) ≡ true
and_both a b g h = grind arith

and_false : (a b : Bool) → a ≡ false → (a && b) ≡ false
and_false a b h = grind arith

majority : (n k c d : ℕ) → nat_lt n (k + k) ≡ true → k ≤ c → c ≤ d → nat_lt n (d + d) ≡ true
majority n k c d h p q = grind arith

-- Among these packets, of n layout servers.

module _ (n : ℕ) (ps : List Packet) where
  -- a majority has accepted a ballot with which the layout was proposed
  pub record Won (e : ℕ) (q : Layout) : Type 0 where
    pub ballot : Ballot
    pub proposed : Proposed e ps ballot q
    pub most : by_majority ps n e ballot ≡ true

  abbrev accepted_by : ℕ → Ballot → Waits → ℕ → Bool
  accepted_by e b ws l = answered ws l && has_accepted ps e b l

  -- at least so many of the servers that aren't waited for have accepted, and the layout was proposed
  pub record Counted (e : ℕ) (b : Ballot) (ws : Waits) (k : ℕ) : Type 0 where
    pub enough : k ≤ count (accepted_by e b ws) n

  -- what a reconfiguration knows of the layout that it proposes or tells; Told is what is known of a layout that it was told
  module _ (Known : Layout → Type 0) where
    abbrev pub StageKnown : Reconf → ℕ → Stage → Type 0
    StageKnown r round (Preparing ws hs) = Unit {0}
    StageKnown r round (Accepting ws k q) = Counted (next_epoch r) (ballot_of r round) ws k

    abbrev pub WorkKnown : Reconf → ReconfWork → Type 0
    WorkKnown r (Agreeing v) = StageKnown r v.round v.stage
    WorkKnown r (Telling ws h q) = Known q
    WorkKnown r w = Unit {0}

    abbrev pub NextKnown : Reconf → Next Reconf ReconfEnd → Type 0
    NextKnown r (Goes s) = WorkKnown s s.work × ((s.stand ≡ r.stand) ⊎ Known s.stand)
    NextKnown r (Learns s) = WorkKnown s s.work × ((s.stand ≡ r.stand) ⊎ Known s.stand)
    NextKnown r (Ends (Installed e p)) = (p ≡ r.stand) ⊎ Known p
    NextKnown r (Ends (Overtaken e p)) = (p ≡ r.stand) ⊎ Known p
    NextKnown r (Ends (NotWhole u i p)) = (p ≡ r.stand) ⊎ Known p

    -- A newer layout, which is known.

    heard_known : (l rid : ℕ) (q : Layout) (next : ℕ) (r : Reconf) (t : ReconfTurn) → turns.Heard l rid q next r t → WorkKnown r r.work → Known q → NextKnown r t.to
    heard_known l rid q next _ _ (turns.StartedBefore r i) k known = inr known
    heard_known l rid q next _ _ (turns.HearsOne r ws i y e f) k known = (k, inl refl)
    heard_known l rid q next _ _ (turns.Adopts r ws i y e f g) k known = (tt, inr k)
    heard_known l rid q next _ _ (turns.TellsOther r ws i y e f g) k known = inr k
    heard_known l rid q next _ _ (turns.TellsOwn r ws i y e) k known = (k, inl refl)
    heard_known l rid q next _ _ (turns.OwnDecided r w of e) k known = (known, inl refl)
    heard_known l rid q next _ _ (turns.IsOvertaken r w of e) k known = inr known

    -- An answer of a round: what the servers have told is so.

    -- what an answer tells of server l
    abbrev pub Tells : ℕ → Reply → Type 0
    Tells l x = (e : ℕ) (b : Ballot) → x ≡ reply.IsAccepted e b → (l < n) × (has_accepted ps e b l ≡ true)

    one_counted : (e : ℕ) (b : Ballot) (ws : Waits) (k l : ℕ) → Counted e b ws k → answered ws l ≡ false → l < n → has_accepted ps e b l ≡ true → Counted e b (without_wait l ws) (k + 1)
    one_counted e b ws k l c waits less has = record {
      enough =
          let one = count_one_more (accepted_by e b ws) (accepted_by e b (without_wait l ws)) implied l (and_false _ _ waits) (and_both _ _ (answered_now ws l) has) n less in
          let old = c.enough in
          omega (arith, one, old);
    }
      where
        implied : Implies (accepted_by e b ws) (accepted_by e b (without_wait l ws))
        implied i h = let t = both_and (answered ws i) (has_accepted ps e b i) h in and_both _ _ (answered_still ws l i t.0) t.1

    -- a majority has accepted
    won : (e : ℕ) (b : Ballot) (ws : Waits) (k : ℕ) → Counted e b ws k → nat_lt n (k + k) ≡ true → by_majority ps n e b ≡ true
    won e b ws k c h = majority n k (count (accepted_by e b ws) n) (acceptances ps e b n) h c.enough
        (subst (λ d. count (accepted_by e b ws) n ≤ d) (sym (acceptances_count ps e b n)) (count_more (accepted_by e b ws) (has_accepted ps e b) (λ i h. (both_and (answered ws i) _ h).1) n))

    -- The layout of a stage, where a majority has accepted it, is known.
    abbrev pub Winner : Reconf → ℕ → Stage → Type 0
    Winner r round (Preparing ws hs) = Unit {0}
    Winner r round (Accepting ws k q) = by_majority ps n (next_epoch r) (ballot_of r round) ≡ true → Known q

    -- the ballot is the round's
    same_of : (r : Reconf) (round e : ℕ) (b : Ballot) → same_vote r round e b ≡ true → (e ≡ next_epoch r) × (b ≡ ballot_of r round)
    same_of r round e b h = grind arith

    abbrev pub WorkWinner : Reconf → ReconfWork → Type 0
    WorkWinner r (Agreeing v) = Winner r v.round v.stage
    WorkWinner r w = Unit {0}

    -- For an awaited answer.

    module _ (from : NodeId) (rid : ℕ) (x : Reply) (next : ℕ) (tells : from ≡ layout_id from.num → Tells from.num x) where
      voting_known : (r : Reconf) (v u : Voting) → turns.IsVoting from.num rid x next r v u → StageKnown r v.round v.stage → StageKnown r u.round u.stage
      voting_known r v _ (turns.Present none) k = k
      voting_known r v _ (turns.IsBegun l is has answers) k = tt

      voting_wins : (r : Reconf) (v u : Voting) → turns.IsVoting from.num rid x next r v u → Winner r v.round v.stage → Winner r u.round u.stage
      voting_wins r v _ (turns.Present none) k = k
      voting_wins r v _ (turns.IsBegun l is has answers) k = tt

      -- one more has accepted
      more_known : (r : Reconf) (v u : Voting) (ws : Waits) (i : ℕ) (q : Layout) (e : ℕ) (b : Ballot) → turns.IsVoting from.num rid x next r v u → u.stage ≡ Accepting ws i q → x ≡ reply.IsAccepted e b
          → same_vote r u.round e b ≡ true → StageKnown r v.round v.stage → awaits (reconf_awaited (at_work r (Agreeing v))) from rid ≡ true
          → Counted (next_epoch r) (ballot_of r u.round) (without_wait from.num ws) (i + 1)
      unfolding reconf_work_asks
      more_known r v u ws i q e b of st is f k awaited =
          let s = voting_fed r v u from rid x next of awaited in
          let t = tells s.server e b is in
          let same = same_of r u.round e b f in
          one_counted _ _ ws i from.num (subst (λ (z : Stage). StageKnown r u.round z) st (voting_known r v u of k))
          (waits_rid ws from.num rid (subst (λ (z : Stage). has_rid from.num rid (stage_waits z) ≡ true) st s.waits)) t.0
          (subst (λ (d : ℕ). has_accepted ps d (ballot_of r u.round) from.num ≡ true) same.0 (subst (λ (c : Ballot). has_accepted ps e c from.num ≡ true) same.1 t.1))

      fed_known : (r : Reconf) (t : ReconfTurn) → turns.Fed from.num rid x next r t → WorkKnown r r.work → r.layouts ≡ n → WorkWinner r r.work → awaits (reconf_awaited r) from rid ≡ true → NextKnown r t.to
      fed_known _ _ (turns.Nothing r) k layouts win a = (k, inl refl)
      fed_known _ _ (turns.SpareMisses r i pos is) k layouts win a = inl refl
      fed_known _ _ (turns.AgainMisses r i acks pos is) k layouts win a = inl refl
      fed_known _ _ (turns.NextFenced r w e of is f) k layouts win a = (k, inl refl)
      fed_known _ _ (turns.PromisesMost r v u ws hs e b h of st is f g) k layouts win a = (record { enough = omega arith }, inl refl)
      fed_known _ _ (turns.Accepts r v u ws i q e b of st is f g) k layouts win a = (more_known r v u ws i q e b of st is f k a, inl refl)
      fed_known _ _ (turns.AcceptsMost r v u ws i q e b of st is f g) k layouts win a = (
        subst (λ (z : Stage). Winner r u.round z) st (voting_wins r v u of win)
            (won _ _ (without_wait from.num ws) (i + 1) (more_known r v u ws i q e b of st is f k a) (subst (λ j. nat_lt j (i + 1 + (i + 1)) ≡ true) layouts g)),
        inl refl,
      )
      fed_known _ _ (turns.Nacks r v u e b of is f g) k layouts win a = (voting_known r v u of k, inl refl)
      fed_known _ _ (turns.NacksLow r v u e b of is f g) k layouts win a = (voting_known r v u of k, inl refl)
      fed_known _ _ (turns.Starts r i t ls is f) k layouts win a = inl refl
      fed_known _ _ (turns.StartsPast r i e is f) k layouts win a = (k, inl refl)
      fed_known _ _ y k layouts win a = (tt, inl refl)

    pub turn_known : (r : Reconf) (from : NodeId) (rid : ℕ) (x : Reply) (next : ℕ) → WorkKnown r r.work → r.layouts ≡ n → WorkWinner r r.work → awaits (reconf_awaited r) from rid ≡ true → (from ≡ layout_id from.num → Tells from.num x)
        → NextKnown r (reconf_feed r r.work from.num rid x next).to
    turn_known r from rid x next k layouts win a tells = fed_known from rid x next tells r _ (turns.reconf_fed from.num rid x next r) k layouts win a

    pub newer_known : (r : Reconf) (l rid : ℕ) (q : Layout) (next : ℕ) → WorkKnown r r.work → Known q → NextKnown r (reconf_latest r r.work l rid q next).to
    newer_known r l rid q next k known = heard_known l rid q next r _ (turns.reconf_heard l rid q next r) k known
