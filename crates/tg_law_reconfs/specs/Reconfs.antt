-- Reconfigurations finish: what is proved of `ReconfFinishes` (tg_protocol).
use Rattle.std.specs.Prelude.{◌≡◌, ◌≢◌, ◌⊎◌, ℕ, ◌+◌, ◌*◌, ◌≤◌, true, [], length, None, Some, Contains}
use Rattle.tg_kind.specs.Meaning.{Meaning}
use Rattle.tg_model.specs.declared.trace.What.TheVariants as told
use Rattle.tg_model.specs.Kinds.{CommandOf}
use Rattle.tg_protocol.specs.Words.{unit_id, seqr_id}
use Rattle.tg_protocol.specs.Requests.{Waits}
use Rattle.tg_protocol.specs.Reconfiguring.{Acks, ReconfWork, Sealing, Agreeing, Telling, Starting, Reconf}
use Rattle.tg_protocol.specs.Clients.{Work, Reconfiguring, Doing}
use Rattle.tg_protocol.specs.ClientSteps.{task_in}
use Rattle.tg_protocol.specs.Worlds.{World, layout, seqr, client, runs, settle}
use Rattle.tg_protocol.specs.Finishing.{IsServing, MostRun, NoneAbove, WaitsAlone, Finishes, HasReply, IsEnd, deliveries, is_with_client}

module _ (m : Meaning) where
  -- the client has a reconfiguration in hand
  pub record Reconfigures (w : World m) (k : ℕ) : Type 0 where
    pub work : Work m
    pub waits : (client m w k).work ≡ Some work
    pub reconf : Reconf
    pub hand : task_in m work.hand ≡ Reconfiguring reconf

  -- whatever the world: where a settling ends it, the client has told how
  abbrev pub ReconfEndsAreTold : Type 0
  ReconfEndsAreTold = (w : World m) (k : ℕ) → Reconfigures w k → (client m (settle m w).world k).work ≡ None → HasReply m w (settle m w).world k (IsEnd m)

  -- The client stands at its new layout, and its last request is outstanding: it waits for the new sequencer, which runs and
  -- serves. No layout server knows a later layout.
  pub record WaitsForServing (w : World m) (k : ℕ) : Type 0 where
    pub work : Work m
    pub waits : (client m w k).work ≡ Some work
    pub reconf : Reconf
    pub hand : work.hand ≡ Doing (Reconfiguring reconf)
    pub rid : ℕ
    pub starting : reconf.work ≡ Starting rid
    pub seqr_runs : runs m w (seqr_id (client m w k).stand.seq) ≡ true
    pub serves : IsServing (seqr m w (client m w k).stand.seq) (client m w k).stand.epoch
    pub newest : (n : ℕ) → (layout m w n).latest.epoch ≤ (client m w k).stand.epoch

  -- it is told that its layout is installed: two deliveries for each layout server, and two for the request and its answer
  abbrev pub StartedFinishes : World m → Type 0
  StartedFinishes w = (k : ℕ) (x : CommandOf m) → WaitsAlone m w k x → WaitsForServing w k →
      Finishes m w (settle m w).world k (2 * w.cluster.layouts + 2) (λ what. what ≡ told.Installed (client m w k).stand.epoch)

  -- The votes.

  -- it votes, or tells what is decided
  abbrev pub InVotes : ReconfWork → Type 0
  InVotes (Agreeing v) = Unit {0}
  InVotes (Telling ws n q) = Unit {0}
  InVotes work = ⊥

  -- The client agrees with the layout servers, of which most run, on the layout after its own. No node stands past the
  -- next epoch.
  pub record WaitsForVotes (w : World m) (k : ℕ) : Type 0 where
    pub work : Work m
    pub waits : (client m w k).work ≡ Some work
    pub reconf : Reconf
    pub hand : work.hand ≡ Doing (Reconfiguring reconf)
    pub votes : InVotes reconf.work
    pub layouts : MostRun m w
    pub none_above : NoneAbove m w ((client m w k).stand.epoch + 1)

  -- the client stands at this epoch's layout, and waits for its sequencer
  pub record WaitsToStart (w : World m) (k e : ℕ) : Type 0 where
    pub work : Work m
    pub waits : (client m w k).work ≡ Some work
    pub reconf : Reconf
    pub hand : work.hand ≡ Doing (Reconfiguring reconf)
    pub rid : ℕ
    pub starting : reconf.work ≡ Starting rid
    pub stands : (client m w k).stand.epoch ≡ e

  -- The command has ended, and the client has told how; or the client stands at the layout after its own, and waits for
  -- its sequencer. So many packets with the client were delivered at most.
  pub record VotesEnd (w v : World m) (k most : ℕ) : Type 0 where
    pub ends : (((client m v k).work ≡ None) × HasReply m w v k (IsEnd m)) ⊎ WaitsToStart v k ((client m w k).stand.epoch + 1)
    pub few : deliveries m (is_with_client m k) w v ≤ most

  -- three rounds of ticks at most end the votes; each of the others asks for the latest layout, and may ask the sequencer
  abbrev pub VotesFinish : World m → Type 0
  VotesFinish w = (k : ℕ) (x : CommandOf m) → WaitsAlone m w k x → WaitsForVotes w k → VotesEnd w (settle m w).world k (34 * w.cluster.layouts + 16)

  -- The seals.

  -- The client seals units of its next layout, to which none joins, and waits for some. Those that it waits for run; of
  -- the layout servers most do. No node stands past the next epoch.
  pub record WaitsForSeals (w : World m) (k : ℕ) : Type 0 where
    pub work : Work m
    pub waits : (client m w k).work ≡ Some work
    pub reconf : Reconf
    pub hand : work.hand ≡ Doing (Reconfiguring reconf)
    pub waiting : Waits
    pub acks : Acks
    pub seals : reconf.work ≡ Sealing waiting acks
    pub some : waiting ≢ []
    pub joins : reconf.change.join ≡ None
    pub units : (v : ℕ × ℕ) → Contains waiting v → runs m w (unit_id v.0) ≡ true
    pub layouts : MostRun m w
    pub none_above : NoneAbove m w ((client m w k).stand.epoch + 1)

  -- two deliveries more for each unit that it waits for
  abbrev pub SealsFinish : World m → Type 0
  SealsFinish w = (k : ℕ) (x : CommandOf m) → WaitsAlone m w k x → (f : WaitsForSeals w k) → VotesEnd w (settle m w).world k (2 * length f.waiting + 34 * w.cluster.layouts + 16)
