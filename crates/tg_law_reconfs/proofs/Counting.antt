-- Through each of a client's turns: of a reconfiguration in hand, who has answered a vote or a telling is counted, and they are no majority.
use Rattle.std.proofs.Common.{◌≡◌, ℕ, ◌+◌, ◌≤◌, [], ◌∷◌, length, false, refl, sym, ◌∙◌, subst, arith, Option, Some, None}
use Rattle.std.specs.Prelude.{nat_lt, ⊤}
use Rattle.tg_base.specs.Layouts.{Layout}
use Rattle.tg_base.specs.Clusters.{Header}
use Rattle.tg_base.specs.declared.ids.NodeId.{NodeId}
use Rattle.tg_base.specs.declared.msg.Msg.{Msg}
use Rattle.tg_kind.specs.Meaning.{Meaning}
use Rattle.tg_model.specs.Kinds.{CommandOf}
use Rattle.tg_protocol.specs.Words.{numbers}
use Rattle.tg_protocol.specs.Requests.{Waits, waits_for, without_wait, Next, Goes, Learns, Ends}
use Rattle.tg_protocol.specs.Replies.{Reply, reply}
use Rattle.tg_protocol.specs.Reconfiguring.{Stage, Preparing, Accepting, Later, Voting, ReconfWork, Agreeing, Telling, Reconf, ReconfEnd, ReconfTurn}
use Rattle.tg_protocol.specs.Clients.{Task, Reconfiguring, Hand, Doing, Work, Client, new_client}
use Rattle.tg_protocol.specs.Appending.{append_start}
use Rattle.tg_protocol.specs.Syncing.{sync_start}
use Rattle.tg_protocol.specs.Answers.{Moved, appends, syncs}
use Rattle.tg_protocol.specs.ClientSteps.{ClientTurn, task_in, client_command, client_deliver, client_tick}
use Rattle.tg_protocol.specs.Worlds.{World, start}
use Rattle.tg_protocol.specs.Runs.{Moves, Reaches}
use Rattle.tg_law_layouts.specs.Moves.Configs.{Config, config, client_in}
use Rattle.tg_law_layouts.proofs.Agreement.Proposers.{answered, AllWait}
use Rattle.tg_law_layouts.proofs.Moves.Lists.{at_set, at_map}
use Rattle.tg_law_layouts.proofs.Moves.Moves.{ClientInput, Commanded, Hears', Ticks', Cases, run_keeps}
use Rattle.tg_law_layouts.proofs.Moves.Turns.{not_busy}
use Rattle.tg_law_steps.proofs.Machines.Reconfs as turns
use Rattle.tg_law_steps.proofs.Places.{Place, Feeds, Newer, OnReconf, Walks}
use Rattle.tg_law_steps.proofs.Ways.{Way, FeedsReconf, NewerReconf, AllWalked, HasPlayed}
use Rattle.tg_law_steps.proofs.Ends as end
use Rattle.tg_law_steps.proofs.Takes.{Taken, SaidAtOnce, ReconfBegins, said_work}
use Rattle.tg_law_steps.proofs.Along.{delivered, commanded, ticked, over_walks}
use Rattle.tg_law_reconfs.proofs.Votes.{tally, tally_one}
use Rattle.tg_law_reconfs.proofs.Waits.{without_answered, without_long, all_wait, none_answered, all_long}

-- of n servers all who answered are counted, and they are no majority
pub record Counted (n : ℕ) (ws : Waits) (c : ℕ) : Type 0 where
  pub counted : tally (answered ws) n ≤ c
  pub few : nat_lt n (c + c) ≡ false
  pub long : length ws ≤ n

abbrev pub StageCounted : ℕ → Stage → Type 0
StageCounted n (Preparing ws ps) = Counted n ws (length ps)
StageCounted n (Accepting ws c q) = Counted n ws c

-- a round that is set waits for all
pub record LaterAll (n : ℕ) (l : Later) : Type 0 where
  pub all : AllWait n l.waits
  pub long : length l.waits ≤ n

pub record VoteCounted (n : ℕ) (v : Voting) : Type 0 where
  pub stage : StageCounted n v.stage
  pub later : (l : Later) → v.later ≡ Some l → LaterAll n l

abbrev pub WorkCounted : ℕ → ReconfWork → Type 0
WorkCounted n (Agreeing v) = VoteCounted n v
WorkCounted n (Telling ws c q) = Counted n ws c
WorkCounted n w = ⊤

abbrev pub IsCounted : Reconf → Type 0
IsCounted r = WorkCounted r.layouts r.work

abbrev NextCounted : Next Reconf ReconfEnd → Type 0
NextCounted (Goes r) = IsCounted r
NextCounted (Learns r) = IsCounted r
NextCounted (Ends e) = ⊤

no_more : (n c : ℕ) → c ≡ 0 → nat_lt n (c + c) ≡ false
no_more n c e = grind (arith, e)

asks_all : (n next c : ℕ) → c ≡ 0 → Counted n (waits_for (numbers n 0) next) c
asks_all n next c e =
    let a = none_answered n (waits_for (numbers n 0) next) (all_wait n next) in
    let b = all_long n next in
    record { counted = omega (arith, a); few = no_more n c e; long = omega (arith, b) }

one_more : (n u c d : ℕ) (ws : Waits) → d ≡ c + 1 → Counted n ws c → nat_lt n (d + d) ≡ false → Counted n (without_wait u ws) d
one_more n u c d ws is f few =
    let a = tally_one (answered (without_wait u ws)) (answered ws) u n (λ i e. without_answered u ws i e) in
    let b = f.counted in
    let e = without_long u ws in
    let g = f.long in
    record { counted = omega (arith, a, b, is); few = few; long = omega (arith, e, g) }

none_some : (l : Later) → None ≡ Some l → ⊥
none_some l e = cc

-- An awaited answer.
module _ (n rid : ℕ) (x : Reply) (next : ℕ) where
  -- of the vote that is answered
  voting_counted : (r : Reconf) (v u : Voting) → turns.IsVoting n rid x next r v u → VoteCounted r.layouts v → VoteCounted r.layouts u
  voting_counted r v _ (turns.Present off) f = f
  voting_counted r v _ (turns.IsBegun l has i a) f = let g = f.later l has in record {
    stage = record { counted = let e = none_answered r.layouts l.waits g.all in omega (arith, e); few = no_more r.layouts 0 refl; long = g.long };
    later = λ y e. absurd (none_some y e);
  }

  fed_counted : (r : Reconf) (t : ReconfTurn) → turns.Fed n rid x next r t → IsCounted r → NextCounted t.to
  fed_counted _ _ (turns.Nothing r) h = h
  fed_counted _ _ (turns.NextFenced r w e of is f) h = h
  fed_counted _ _ (turns.StartsPast r k e is f) h = h
  fed_counted _ _ (turns.SealsLast r ws acks e k is f none j) h = record { stage = asks_all r.layouts next 0 refl; later = λ y e. absurd (none_some y e) }
  fed_counted _ _ (turns.AgainWhole r k acks is) h = record { stage = asks_all r.layouts next 0 refl; later = λ y e. absurd (none_some y e) }
  fed_counted _ _ (turns.Promises r v u ws ps e b a of st is f g) h =
      let w = voting_counted r v u of h in
      let s = subst (λ (y : Stage). StageCounted r.layouts y) st w.stage in
      record { stage = one_more r.layouts n (length ps) (length (a ∷ ps)) ws (omega arith) s g; later = w.later }
  fed_counted _ _ (turns.PromisesMost r v u ws ps e b a of st is f g) h = let w = voting_counted r v u of h in record { stage = asks_all r.layouts next 0 refl; later = w.later }
  fed_counted _ _ (turns.Accepts r v u ws k q e b of st is f g) h =
      let w = voting_counted r v u of h in
      let s = subst (λ (y : Stage). StageCounted r.layouts y) st w.stage in
      record { stage = one_more r.layouts n k (k + 1) ws refl s g; later = w.later }
  fed_counted _ _ (turns.AcceptsMost r v u ws k q e b of st is f g) h = asks_all r.layouts next 0 refl
  fed_counted _ _ (turns.Nacks r v u e b of is f g) h = let w = voting_counted r v u of h in record { stage = w.stage; later = λ l same. subst (λ (y : Later). LaterAll r.layouts y) (one _ l same) (record { all = all_wait r.layouts next; long = let z = all_long r.layouts next in omega (arith, z) }) }
    where
      one : (l y : Later) → Some l ≡ Some y → l ≡ y
      one l y e = cc
  fed_counted _ _ (turns.NacksLow r v u e b of is f g) h = voting_counted r v u of h
  fed_counted _ _ y h = tt

-- A newer layout.
module _ (n rid : ℕ) (q : Layout) (next : ℕ) where
  heard_counted : (r : Reconf) (t : ReconfTurn) → turns.Heard n rid q next r t → IsCounted r → NextCounted t.to
  heard_counted _ _ (turns.HearsOne r ws k p e f) h = one_more r.layouts n k (k + 1) ws refl h f
  heard_counted _ _ (turns.TellsOwn r ws k p e) h = h
  heard_counted _ _ (turns.OwnDecided r w of e) h = asks_all r.layouts next 0 refl
  heard_counted _ _ y h = tt

begun_counted : (r : Reconf) (next : ℕ) (t : ReconfTurn) → turns.Begun r next t → NextCounted t.to
begun_counted r next _ (turns.JoinsNone e) = tt
begun_counted r next _ (turns.Joins j e) = tt

module _ (m : Meaning) where
  abbrev pub TaskCounted : Task m → Type 0
  TaskCounted (Reconfiguring r) = IsCounted r
  TaskCounted t = ⊤

  abbrev pub HandCounted : Option (Work m) → Type 0
  HandCounted None = ⊤
  HandCounted (Some w) = TaskCounted (task_in m w.hand)

  abbrev Good : Moved m → Type 0
  Good x = HandCounted x.now.work

  -- Along a turn.

  abbrev Here : Client m → Work m → Place m → Type 0
  Here c w (Feeds t n rid x) = TaskCounted t
  Here c w (Newer t n rid q) = TaskCounted t
  Here c w (OnReconf to) = NextCounted to
  Here c w p = ⊤

  way : (c : Client m) (w : Work m) (p : Place m) (d : Client m) (v : Work m) (q : Place m) → Way m c w p d v q → Here c w p → Here d v q
  way c w _ _ _ _ (FeedsReconf r n rid x) h = fed_counted n rid x c.next r _ (turns.reconf_fed n rid x c.next r) h
  way c w _ _ _ _ (NewerReconf r n rid q) h = heard_counted n rid q c.next r _ (turns.reconf_heard n rid q c.next r) h
  way c w _ _ _ _ x h = tt

  walked_way : (c : Client m) (w : Work m) (d : Client m) (q : Place m) → AllWalked m c w d q → Here c w (Walks []) → Here d w q
  walked_way c w _ _ (HasPlayed of) h = tt
  walked_way c w _ _ x h = tt

  ends : (c : Client m) (w : Work m) (p : Place m) (x : Moved m) → end.End m c w p x → Here c w p → Good x
  unfolding appends append_start syncs sync_start
  ends c w _ _ (end.GoesOn _ _ _ (end.ReconfGoes r)) h = h
  ends c w _ _ (end.LearnsNewer _ (end.ReconfLearns r)) h = h
  ends c w _ _ (end.GoesOn _ _ _ x) h = tt
  ends c w _ _ (end.LearnsNewer _ x) h = tt
  ends c w _ _ x h = tt

  takes : (c : Client m) (x : CommandOf m) → c.work ≡ None → (y : Moved m) → Taken m c x y → Good y
  unfolding appends append_start syncs sync_start
  takes c _ free _ (SaidAtOnce x d ns s) = subst HandCounted (sym (said_work m c x d ns s ∙ free)) tt
  takes c _ free _ (ReconfBegins x n r e) = subst (λ (t : ReconfTurn). NextCounted t.to) e (begun_counted _ c.next _ (turns.reconf_begun c.stand c.layouts x c.num c.next))
  takes c _ free _ x = tt

  -- The turns.

  abbrev AtWork : Client m → Type 0
  AtWork c = HandCounted c.work

  counted_in : (w : Work m) (t : Task m) → w.hand ≡ Doing t → TaskCounted (task_in m w.hand) → TaskCounted t
  counted_in w t doing k = subst (λ (h : Hand m). TaskCounted (task_in m h)) doing k

  commands : (c : Client m) (x : CommandOf m) → AtWork c → AtWork (client_command m c x).now
  unfolding client_command
  commands c x k = commanded m Good c x (λ why e. k) (λ e. takes c x (not_busy m c x e))

  hears : (c : Client m) (from : NodeId) (rid : ℕ) (y : Msg) → AtWork c → AtWork (client_deliver m c from rid y).now
  unfolding client_deliver
  hears c from rid y k = delivered m Here Good ends way (over_walks m Here Good ends walked_way) c from rid (reply y) k
      (λ w t has doing a other. counted_in w t doing (subst HandCounted has k))
      (λ w q has is a. subst HandCounted has k)

  ticks : (c : Client m) → AtWork c → AtWork (client_tick m c).now
  ticks c k = ticked m (λ (t : ClientTurn m). AtWork t.now) c (λ none. k) (λ w has. k)

  -- Each client of a run.

  abbrev AllAtWork : Config m → Type 0
  AllAtWork c = (k : ℕ) → AtWork (client_in m c k)

  turned : (c : Config m) → AllAtWork c → (k : ℕ) (t : ClientTurn m) → ClientInput m c k t → AtWork t.now
  turned c h k t (Commanded x) = commands (client_in m c k) x (h k)
  turned c h k t (Hears' p comes) = hears (client_in m c k) p.from p.rid p.msg (h k)
  turned c h k t Ticks' = ticks (client_in m c k) (h k)

  keeps : (c : Config m) → AllAtWork c → Cases m c AllAtWork
  keeps c h = record {
    idle = h;
    unit = λ u p a less. h;
    layout = λ l p a less. h;
    seqr = λ s t i less. h;
    client = λ k t i less. at_set c.clients k t.now (new_client m c.cluster) (λ j d. AtWork d) less (turned c h k t i) (λ j other. h j);
  }

  new_counted : (h : Header) (j : ℕ) → AtWork (new_client m h j)
  unfolding new_client
  new_counted h j = tt

  start_counted : (h : Header) → AllAtWork (config m (start m h))
  unfolding start
  start_counted h k = at_map (new_client m h) (numbers h.clients 0) k (new_client m h k) (λ d. AtWork d) (new_counted h) (new_counted h k)

  pub all_counted : (h : Header) (ms : Moves m) (w : World m) → Reaches m h ms w → AllAtWork (config m w)
  all_counted h ms w r = subst (λ (v : World m). AllAtWork (config m v)) (sym r.goes.is) (run_keeps m AllAtWork keeps ms (start m h) (start_counted h))
