-- How far a reconfiguration's layouts go: the next epoch, and no further, or one that was told.
use Rattle.std.proofs.Common.{◌≡◌, ℕ, ◌+◌, ◌<◌, ◌≤◌, List, [], ◌∷◌, Bool, true, false, cond, subst, arith, Some, None, Option}
use Rattle.std.specs.Prelude.{◌&&◌}
use Rattle.tg_base.specs.Layouts.{Layout}
use Rattle.tg_base.specs.Changes.{Changed}
use Rattle.tg_base.specs.declared.change.Join.{Join}
use Rattle.tg_base.specs.declared.ids.Ballot.{Ballot}
use Rattle.tg_protocol.specs.Layouts.{next_of}
use Rattle.tg_protocol.specs.Requests.{Waits, Next, Goes, Learns, Ends}
use Rattle.tg_protocol.specs.Replies.{Reply}
use Rattle.tg_protocol.specs.Reconfiguring.{Acks, Before, Stage, Preparing, Accepting, Voting, ReconfWork, SealingSpare, Agreeing, Telling, Reconf, ReconfEnd, Installed, Overtaken, NotWhole, ReconfTurn, first_step, reconf_start, proposes, greater, greatest, value_or, same_vote, is_of_epoch, reconf_feed, is_own, reconf_latest}
use Rattle.tg_law_steps.proofs.Machines.Reconfs.{IsVoting, Present, IsBegun}
use Rattle.tg_law_steps.proofs.Machines.Reconfs as reconfs
use Rattle.tg_law_programs.proofs.Transcripts.Near.{Near, ReplyNear}

-- a layout that was accepted before is of this epoch or of one before
abbrev pub BeforeOk : ℕ → Before → Type 0
BeforeOk e None = Unit {0}
BeforeOk e (Some b) = b.1.epoch ≤ e

abbrev pub BeforesOk : ℕ → List Before → Type 0
BeforesOk e [] = Unit {0}
BeforesOk e (b ∷ bs) = BeforeOk e b × BeforesOk e bs

abbrev pub StageOk : ℕ → Stage → Type 0
StageOk e (Preparing ws ps) = BeforesOk e ps
StageOk e (Accepting ws n q) = q.epoch ≤ e

abbrev pub VoteOk : ℕ → Voting → Type 0
VoteOk e v = (v.own.epoch ≤ e) × StageOk e v.stage

abbrev pub VotesOk : ℕ → ReconfWork → Type 0
VotesOk e (Agreeing v) = VoteOk e v
VotesOk e (Telling ws n q) = q.epoch ≤ e
VotesOk e w = Unit {0}

-- a reconfiguration stands at or below an epoch, and its layouts are at most one further
abbrev pub ReconfOk : ℕ → Reconf → Type 0
ReconfOk top r = (r.stand.epoch ≤ top) × VotesOk (r.stand.epoch + 1) r.work

abbrev pub ReconfEndOk : ℕ → ReconfEnd → Type 0
ReconfEndOk top (Installed e p) = (e ≤ top) × (p.epoch ≤ top)
ReconfEndOk top (Overtaken e p) = (e ≤ top) × (p.epoch ≤ top)
ReconfEndOk top (NotWhole u pos p) = Near pos × (u < 65536) × (p.epoch ≤ top)

abbrev pub ReconfNextOk : ℕ → Next Reconf ReconfEnd → Type 0
ReconfNextOk top (Goes r) = ReconfOk top r
ReconfNextOk top (Learns r) = ReconfOk top r
ReconfNextOk top (Ends e) = ReconfEndOk top e

module _ (top : ℕ) where
  abbrev Ok : Next Reconf ReconfEnd → Type 0
  Ok x = ReconfNextOk (top + 1) x

  pub reconf_started : (p : Layout) (layouts : ℕ) (c : Changed) (me next : ℕ) → p.epoch ≤ top → ReconfNextOk (top + 1) (reconf_start p layouts c me next).to
  unfolding reconf_start
  reconf_started p layouts c me next le = by c.join
    where
      by : (j : Option Join) → ReconfNextOk (top + 1) (first_step (record { change = c; me = me; layouts = layouts; stand = p; work = SealingSpare 0 }) next j).to
      by None = (omega (arith, le), tt)
      by (Some j) = (omega (arith, le), tt)

  stands : (r : Reconf) → r.stand.epoch ≤ top → r.stand.epoch ≤ top + 1
  stands r le = omega (arith, le)

  -- What was accepted before.

  greater_ok : (e : ℕ) (a b : Before) → BeforeOk e a → BeforeOk e b → BeforeOk e (greater a b)
  greater_ok e None b x y = y
  greater_ok e (Some a) None x y = x
  greater_ok e (Some a) (Some b) x y = by _
    where
      by : (t : Bool) → BeforeOk e (cond t (Some b) (Some a))
      by true = y
      by false = x

  greatest_ok : (e : ℕ) (bs : List Before) → BeforesOk e bs → BeforeOk e (greatest bs)
  greatest_ok e [] k = tt
  greatest_ok e (b ∷ bs) k = greater_ok e b (greatest bs) k.0 (greatest_ok e bs k.1)

  value_ok : (e : ℕ) (b : Before) (own : Layout) → BeforeOk e b → own.epoch ≤ e → (value_or b own).epoch ≤ e
  value_ok e None own x y = y
  value_ok e (Some b) own x y = x

  -- a promise of the round is of the next epoch
  before_ok : (r : Reconf) (v : Voting) (f : ℕ) (b : Ballot) (a : Before) → (same_vote r v.round f b && is_of_epoch f a) ≡ true → BeforeOk (r.stand.epoch + 1) a
  before_ok r v f b None i = tt
  before_ok r v f b (Some a) i = is
    where
      is : a.1.epoch ≤ r.stand.epoch + 1
      is = grind arith

  -- An awaited answer.

  proposes_ok : (r : Reconf) (acks : Acks) (next : ℕ) → r.stand.epoch ≤ top → Ok (proposes r acks next).to
  unfolding next_of
  proposes_ok r acks next low = (stands r low, (omega arith, tt))

  module _ (n rid : ℕ) (x : Reply) (next : ℕ) (near : ReplyNear x) (few : n < 65536) where
    voting_ok : (r : Reconf) (v u : Voting) → IsVoting n rid x next r v u → VoteOk (r.stand.epoch + 1) v → VoteOk (r.stand.epoch + 1) u
    voting_ok r v _ (Present none) k = k
    voting_ok r v _ (IsBegun l is has answers) k = (k.0, tt)

    prepared : (r : Reconf) (v u : Voting) (ws : Waits) (ps : List Before) → IsVoting n rid x next r v u → u.stage ≡ Preparing ws ps → VoteOk (r.stand.epoch + 1) v → (u.own.epoch ≤ r.stand.epoch + 1) × BeforesOk (r.stand.epoch + 1) ps
    prepared r v u ws ps of is k = let l = voting_ok r v u of k in (l.0, subst (StageOk (r.stand.epoch + 1)) is l.1)

    accepting : (r : Reconf) (v u : Voting) (ws : Waits) (k : ℕ) (q : Layout) → IsVoting n rid x next r v u → u.stage ≡ Accepting ws k q → VoteOk (r.stand.epoch + 1) v → (u.own.epoch ≤ r.stand.epoch + 1) × (q.epoch ≤ r.stand.epoch + 1)
    accepting r v u ws k q of is l = let o = voting_ok r v u of l in (o.0, subst (StageOk (r.stand.epoch + 1)) is o.1)

    turn_ok : (r : Reconf) (t : ReconfTurn) → reconfs.Fed n rid x next r t → ReconfOk top r → Ok t.to
    turn_ok _ _ (reconfs.Nothing r) ok = (stands r ok.0, ok.1)
    turn_ok _ _ (reconfs.SpareMisses r k pos is) ok = (subst ReplyNear is near, few, stands r ok.0)
    turn_ok _ _ (reconfs.SealsLast r ws acks f h is same left j) ok = proposes_ok r ((n, h) ∷ acks) next ok.0
    turn_ok _ _ (reconfs.AgainWhole r k acks is) ok = proposes_ok r acks next ok.0
    turn_ok _ _ (reconfs.AgainMisses r k acks pos is) ok = (subst ReplyNear is near, few, stands r ok.0)
    turn_ok _ _ (reconfs.NextFenced r w f early is past) ok = (stands r ok.0, ok.1)
    turn_ok _ _ (reconfs.Promises r v u ws ps f b a of st is same few') ok = let k = prepared r v u ws ps of st ok.1 in (stands r ok.0, (k.0, (before_ok r u f b a same, k.1)))
    turn_ok _ _ (reconfs.PromisesMost r v u ws ps f b a of st is same most) ok =
        let k = prepared r v u ws ps of st ok.1 in (stands r ok.0, (k.0, value_ok _ (greatest (a ∷ ps)) u.own (greatest_ok _ (a ∷ ps) (before_ok r u f b a same, k.1)) k.0))
    turn_ok _ _ (reconfs.Accepts r v u ws k q f b of st is same few') ok = (stands r ok.0, accepting r v u ws k q of st ok.1)
    turn_ok _ _ (reconfs.AcceptsMost r v u ws k q f b of st is same most) ok = (stands r ok.0, (accepting r v u ws k q of st ok.1).1)
    turn_ok _ _ (reconfs.Nacks r v u f b of is same higher) ok = (stands r ok.0, voting_ok r v u of ok.1)
    turn_ok _ _ (reconfs.NacksLow r v u f b of is same low) ok = (stands r ok.0, voting_ok r v u of ok.1)
    turn_ok _ _ (reconfs.Starts r k t ls is names) ok = (stands r ok.0, stands r ok.0)
    turn_ok _ _ (reconfs.LooksSpare r k f h is same) ok = (stands r ok.0, tt)
    turn_ok r _ came ok = (stands r ok.0, tt)

  pub reconf_fed : (r : Reconf) → ReconfOk top r → (next n rid : ℕ) (x : Reply) → ReplyNear x → n < 65536 → ReconfNextOk (top + 1) (reconf_feed r r.work n rid x next).to
  reconf_fed r ok next n rid x near few = turn_ok n rid x next near few r _ (reconfs.reconf_fed n rid x next r) ok

  -- A newer layout.

  is_next : (r : Reconf) (q : Layout) → is_own r q ≡ true → q.epoch ≤ r.stand.epoch + 1
  is_next r q i = grind arith

  next_ok : (r : Reconf) (q : Layout) → r.stand.epoch ≤ top → q.epoch ≤ r.stand.epoch + 1 → q.epoch ≤ top + 1
  next_ok r q low le = omega (arith, low, le)

  heard_ok : (n rid : ℕ) (q : Layout) (next : ℕ) → q.epoch ≤ top → (r : Reconf) (t : ReconfTurn) → reconfs.Heard n rid q next r t → ReconfOk top r → Ok t.to
  heard_ok n rid q next le _ _ (reconfs.StartedBefore r k) ok = (stands r ok.0, omega (arith, le))
  heard_ok n rid q next le _ _ (reconfs.Adopts r ws k p e f g) ok = (next_ok r p ok.0 ok.1, tt)
  heard_ok n rid q next le _ _ (reconfs.TellsOther r ws k p e f g) ok = (next_ok r p ok.0 ok.1, next_ok r p ok.0 ok.1)
  heard_ok n rid q next le _ _ (reconfs.OwnDecided r w early own) ok = (stands r ok.0, is_next r q own)
  heard_ok n rid q next le _ _ (reconfs.IsOvertaken r w told other) ok = (omega (arith, le), omega (arith, le))
  heard_ok n rid q next le r _ came ok = (stands r ok.0, ok.1)

  pub reconf_newer : (r : Reconf) → ReconfOk top r → (next n rid : ℕ) (q : Layout) → q.epoch ≤ top → ReconfNextOk (top + 1) (reconf_latest r r.work n rid q next).to
  reconf_newer r ok next n rid q le = heard_ok n rid q next le r _ (reconfs.reconf_heard n rid q next r) ok
