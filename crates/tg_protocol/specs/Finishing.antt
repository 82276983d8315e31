-- Commands finish: a settling answers the one command that waits, after so many deliveries at most.
use Rattle.std.specs.Prelude.{◌≡◌, ◌≢◌, ℕ, ◌+◌, ◌-◌, ◌*◌, ◌<◌, ◌≤◌, ◌⊎◌, ◌++◌, ◌&&◌, ◌||◌, not, Bool, true, false, max, List, filter, flat_map, fold, take, length, slice_get, Option, Some, None, Contains}
use Rattle.tg_base.specs.Layouts.{Layout}
use Rattle.tg_base.specs.Changes.{Changed}
use Rattle.tg_base.specs.declared.ids.NodeId.{NodeId}
use Rattle.tg_base.specs.declared.layout.Range.{Range}
use Rattle.tg_base.specs.declared.packet.Packet.{Packet}
use Rattle.tg_kind.specs.Meaning.{Meaning}
use Rattle.tg_model.specs.declared.command.Command.TheVariants as cmd
use Rattle.tg_model.specs.declared.refusal.Refusal.TheVariants as cause
use Rattle.tg_model.specs.declared.trace.What.TheVariants as told
use Rattle.tg_model.specs.Kinds.{CommandOf, WhatOf}
use Rattle.tg_base.specs.Orders.{node_eq}
use Rattle.tg_protocol.specs.Words.{unit_id, layout_id, seqr_id, client_id, numbers}
use Rattle.tg_protocol.specs.Layouts.{units_of, next_units}
use Rattle.tg_protocol.specs.Sequencers.{SeqrState}
use Rattle.tg_protocol.specs.Clients.{Work}
use Rattle.tg_protocol.specs.Worlds.{World, Told, unit, layout, seqr, client, noted_of, runs, latest, settle}
use Rattle.tg_protocol.specs.Runs.{IsQuiet}
use Rattle.tg_protocol.specs.Chosen.{IsDecided}

-- the length of the longest chain
abbrev pub longest_in : List (List ℕ) → ℕ
longest_in chains = fold (λ n (chain : List ℕ). max n (length chain)) 0 chains

abbrev pub stripes_of : Range → List (List ℕ)
stripes_of r = r.stripes

abbrev pub longest_chain : Layout → ℕ
longest_chain p = longest_in (flat_map stripes_of p.ranges)

-- a sequencer serves an epoch: it has scanned all below the epoch's start, and no later epoch has fenced it
pub record IsServing (s : SeqrState) (e : ℕ) : Type 0 where
  pub epoch : s.epoch ≡ e
  pub scanned : s.proj.start ≤ s.next
  pub unfenced : s.fence ≡ None

module _ (m : Meaning) where
  -- Deliveries that are counted.

  abbrev pub is_with : NodeId → Packet → Bool
  is_with n p = node_eq n p.from || node_eq n p.to

  -- from one world to a later one, which packets were delivered
  abbrev pub delivered_since : World m → World m → List ℕ
  delivered_since w v = take (length v.delivered - length w.delivered) v.delivered

  abbrev pub passes : (Packet → Bool) → Option Packet → Bool
  passes f None = false
  passes f (Some p) = f p

  -- how many of them were such
  abbrev pub deliveries : (Packet → Bool) → World m → World m → ℕ
  deliveries f w v = length (filter (λ i. passes f (slice_get v.packets i)) (delivered_since w v))

  -- A client waits, and no other that runs does.
  pub record WaitsAlone (w : World m) (k : ℕ) (x : CommandOf m) : Type 0 where
    pub quiet : IsQuiet m w
    pub running : runs m w (client_id k) ≡ true
    pub work : Work m
    pub waits : (client m w k).work ≡ Some work
    pub command : work.command ≡ x
    pub alone : (j : ℕ) → j ≢ k → runs m w (client_id j) ≡ true → (client m w j).work ≡ None
    pub within : (settle m w).stopped ≡ None

  -- a majority of the layout servers runs
  abbrev pub MostRun : World m → Type 0
  MostRun w = w.cluster.layouts < 2 * length (filter (λ n. runs m w (layout_id n)) (numbers w.cluster.layouts 0))

  -- all stands and runs in the latest layout, the client too
  pub record IsReadyFor (w : World m) (k : ℕ) : Type 0 where
    pub units : (u : ℕ) → Contains (units_of (latest m w)) u → (runs m w (unit_id u) ≡ true) × ((unit m w u).epoch ≡ (latest m w).epoch)
    pub seqr_runs : runs m w (seqr_id (latest m w).seq) ≡ true
    pub serves : IsServing (seqr m w (latest m w).seq) (latest m w).epoch
    pub layouts : MostRun w
    pub stand : (client m w k).stand ≡ latest m w

  -- the spare unit of a copy runs, and isn't past the latest layout
  abbrev pub IsSpareReady : World m → CommandOf m → Type 0
  IsSpareReady w (cmd.Copy u r s) = (runs m w (unit_id u) ≡ true) × ((unit m w u).epoch ≤ (latest m w).epoch)
  IsSpareReady w x = Unit {0}

  -- The bound: c is the length of the longest chain, next is the sequencer's next position, n is how many units there
  -- are.
  abbrev pub most_deliveries : CommandOf m → ℕ → ℕ → ℕ → ℕ
  most_deliveries cmd.Trim c next n = 16 * c * (next + 4) + 2 * n
  most_deliveries (cmd.Rescue p) c next n = 128 * (16 * c * (next + 4))
  most_deliveries x c next n = 16 * c * (next + 4)

  abbrev pub most_deliveries_in : World m → CommandOf m → ℕ
  most_deliveries_in w x = most_deliveries x (longest_chain (latest m w)) (seqr m w (latest m w).seq).next w.cluster.units

  abbrev pub NoReconf : CommandOf m → Type 0
  NoReconf (cmd.Reconf c) = ⊥
  NoReconf x = Unit {0}

  -- a client's replies that came later
  pub record HasReply (w v : World m) (k : ℕ) (P : WhatOf m → Type 0) : Type 0 where
    pub replies : List (Told m)
    pub are : v.told ≡ w.told ++ replies
    pub told : Told m
    pub here : Contains replies told
    pub client : told.mark.client ≡ k
    pub holds : P told.mark.what

  abbrev pub is_with_client : ℕ → Packet → Bool
  is_with_client k p = is_with (client_id k) p

  -- the settling answers it, and so many packets with the client are delivered at most
  pub record Finishes (w v : World m) (k most : ℕ) (P : WhatOf m → Type 0) : Type 0 where
    pub idle : (client m v k).work ≡ None
    pub reply : HasReply w v k P
    pub few : deliveries (is_with_client k) w v ≤ most

  abbrev pub CommandFinishes : World m → Type 0
  CommandFinishes w = (k : ℕ) (x : CommandOf m) → WaitsAlone w k x → IsReadyFor w k → IsSpareReady w x → NoReconf x →
      Finishes w (settle m w).world k (most_deliveries_in w x) (λ what. Unit {0})

  -- Reconfigurations.

  -- no node stands at an epoch above this one
  pub record NoneAbove (w : World m) (e : ℕ) : Type 0 where
    pub units : (u : ℕ) → (unit m w u).epoch ≤ e
    pub layouts : (n : ℕ) → (layout m w n).latest.epoch ≤ e
    pub seqrs : (s : ℕ) → (seqr m w s).epoch ≤ e
    pub clients : (k : ℕ) → (client m w k).stand.epoch ≤ e

  -- the client was given the change at an epoch, and stands there or at the next one; the nodes of the new layout run
  pub record IsReadyToChange (w : World m) (k e : ℕ) (c : Changed) : Type 0 where
    pub given : (noted_of m w k).epoch ≡ e
    pub stand : ((client m w k).stand.epoch ≡ e) ⊎ ((client m w k).stand.epoch ≡ e + 1)
    pub none_above : NoneAbove w (e + 1)
    pub old : Layout
    pub decided : IsDecided m w e old
    pub units : (u : ℕ) → Contains (next_units old c) u → runs m w (unit_id u) ≡ true
    pub seqr_runs : runs m w (seqr_id c.seq) ≡ true
    pub layouts : MostRun w

  -- the answers of a reconfiguration that has begun
  abbrev pub IsEnd : WhatOf m → Type 0
  IsEnd (told.Installed e) = Unit {0}
  IsEnd (told.Refused (cause.Overtaken e)) = Unit {0}
  IsEnd (told.Refused (cause.NotWhole u p)) = Unit {0}
  IsEnd what = ⊥

  -- a packet of the sequencer, which isn't counted as the client's
  abbrev pub is_scan : ℕ → ℕ → Packet → Bool
  is_scan s k p = is_with (seqr_id s) p && not (is_with (client_id k) p)

  -- after `installed` the new sequencer serves; its scan took so many packets at most
  pub record IsInstalled (w v : World m) (k e : ℕ) (c : Changed) : Type 0 where
    pub new : Layout
    pub decided : IsDecided m v (e + 1) new
    pub serves : IsServing (seqr m v c.seq) (e + 1)
    pub few : deliveries (is_scan c.seq k) w v ≤ (new.start + 8) * (2 * longest_chain new + 2)

  pub record ReconfFinished (w v : World m) (k e : ℕ) (c : Changed) : Type 0 where
    pub finishes : Finishes w v k (2 * w.cluster.units + 64 * w.cluster.layouts + 22) IsEnd
    pub installed : HasReply w v k (λ what. what ≡ told.Installed (e + 1)) → IsInstalled w v k e c

  abbrev pub ReconfFinishes : World m → Type 0
  ReconfFinishes w = (k e : ℕ) (c : Changed) → WaitsAlone w k (cmd.Reconf c) → IsReadyToChange w k e c → ReconfFinished w (settle m w).world k e c
