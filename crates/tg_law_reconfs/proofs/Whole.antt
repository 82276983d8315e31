-- A reconfiguration that is ready ends in a settling, wherever its client stands: where two rounds are left the votes have ended, and
-- where the client waits for its new sequencer then, that learns its layout and scans in these two.
use Rattle.std.proofs.Common.{◌≡◌, ◌≢◌, ◌⊎◌, ℕ, ◌+◌, ◌*◌, ◌≤◌, List, not, ◌&&◌, Bool, true, false, eqb, refl, ap, ◌∙◌, sym, subst, inl, inr, arith, Some, None, Option}
use Rattle.std.specs.Prelude.{slice_index_or, nat_lt}
use Rattle.std.specs.List.{list_any}
use Rattle.tg_any.specs.AllKinds.{all_kinds}
use Rattle.tg_base.specs.Changes.{Changed}
use Rattle.tg_base.specs.Clusters.{Header}
use Rattle.tg_base.specs.Orders.{node_eq}
use Rattle.tg_base.specs.declared.ids.NodeId.{NodeId}
use Rattle.tg_kind.specs.Meaning.{Meaning}
use Rattle.tg_model.specs.Kinds.{WhatOf}
use Rattle.tg_model.specs.declared.command.Command.TheVariants as cmd
use Rattle.tg_protocol.specs.Words.{unit_id, seqr_id, client_id}
use Rattle.tg_protocol.specs.Layouts.{first_layout}
use Rattle.tg_protocol.specs.Replies.{reply}
use Rattle.tg_protocol.specs.LayoutServers.{new_layout}
use Rattle.tg_protocol.specs.Sequencers.{new_seqr}
use Rattle.tg_protocol.specs.Clients.{Client, Work, Hand, new_client}
use Rattle.tg_protocol.specs.ClientSteps.{feed, tick_by, client_deliver, client_tick}
use Rattle.tg_protocol.specs.Worlds.{World, CommandStart, unit, layout, seqr, client, runs, count_of, rounds, settle}
use Rattle.tg_protocol.specs.Runs.{Moves, Reaches, Always}
use Rattle.tg_protocol.specs.Finishing.{WaitsAlone, IsReadyToChange, Finishes, HasReply, IsEnd}
use Rattle.tg_law_finish.proofs.Finish.Nets.{net, on_in, runs_on, client_of}
use Rattle.tg_law_finish.proofs.Finish.Sized.{all_sized, counted}
use Rattle.tg_law_headline.proofs.Runs.Finding as finding
use Rattle.tg_law_reconfs.specs.Reconfs.{WaitsToStart}
use Rattle.tg_law_reconfs.specs.Changing.{WaitsToChange}
use Rattle.tg_law_reconfs.specs.Changes.{ReconfsEnd}
use Rattle.tg_law_reconfs.proofs.Changes.{HasGiven, Prepared, StandsNext, changes_work, stands_next, is_commands}
use Rattle.tg_law_reconfs.proofs.Ends.{R, Replied, Rules, round}
use Rattle.tg_law_reconfs.proofs.Held.{WorkIs, Held, held_facts}
use Rattle.tg_law_reconfs.proofs.Installing.{changes_install}
use Rattle.tg_law_reconfs.proofs.Laps.{AtNew}
use Rattle.tg_law_reconfs.proofs.Phased.{agrees, rests_after, joins_finish}
use Rattle.tg_law_reconfs.proofs.ScanEnds.{Alone, Adopted, rests_then}
use Rattle.tg_law_reconfs.proofs.Voted.{Agrees, Soon, past, near, some}

unequal : (j k : ℕ) → j ≢ k → eqb j k ≡ false
unequal j k off = by (eqb j k) refl
  where
    same : eqb j k ≡ true → j ≡ k
    same e = grind arith

    by : (b : Bool) → eqb j k ≡ b → eqb j k ≡ false
    by true e = absurd (off (same e))
    by false e = e

-- A client without work stays so.
module _ (m : Meaning) (k : ℕ) where
  abbrev NoWork : Client m → Type 0
  NoWork c = c.work ≡ None

  abbrev Never : WhatOf m → Type 0
  Never what = ⊥

  idle_rules : Rules m k NoWork Never
  unfolding client_deliver client_tick
  idle_rules = record {
    hears = λ c from rid y none. inl (subst (λ (o : Option (Work m)). (feed m c o from rid (reply y)).now.work ≡ None) (sym none) none);
    ticks = λ c none. subst (λ (o : Option (Work m)). (tick_by m c o).now.work ≡ None) (sym none) none;
  }

  idle_stays : (n : ℕ) (w : World m) → (client m w k).work ≡ None → (client m (rounds m n w).world k).work ≡ None
  idle_stays n w none = by r (r.goes none)
    where
      r : R m k NoWork Never w (rounds m n w).world
      r = round m k NoWork Never idle_rules n w

      by : (r : R m k NoWork Never w (rounds m n w).world) → NoWork (client m (rounds m n w).world k) ⊎ Replied m k NoWork Never r.more → (client m (rounds m n w).world k).work ≡ None
      by r (inl g) = g
      by r (inr y) = absurd y.says

module _ (h : Header) (ms : Moves all_kinds) (w : World all_kinds) (reach : Reaches all_kinds h ms w) (k e : ℕ) (c : Changed) (a : WaitsAlone all_kinds w k (cmd.Reconf c)) (b : IsReadyToChange all_kinds w k e c) (at : (client all_kinds w k).stand.epoch ≡ e) where
  works : WaitsToChange all_kinds w k c
  works = changes_work h ms w reach k e c a b at

  abbrev has : Agrees all_kinds w k
  has = agrees h ms w reach k (cmd.Reconf c) c a works

  abbrev Fact : World all_kinds → Type 0
  Fact v = Held all_kinds h k e c b.old w.noted v

  abbrev SoonAt : World all_kinds → Type 0
  SoonAt u = Soon all_kinds h ms w reach k (cmd.Reconf c) a has u

  abbrev New : Client all_kinds → Type 0
  New d = AtNew all_kinds w.cluster w.stopped k ((client all_kinds w k).stand.epoch + 1) w.cluster.layouts (past all_kinds h ms w reach k (cmd.Reconf c) a has) (near all_kinds h ms w reach k (cmd.Reconf c) a has) (some all_kinds h ms w reach k (cmd.Reconf c) a has) d

  first : Fact w
  first = record {
    reached = (ms, reach);
    noted = refl;
    change = subst (λ (o : Option (Work all_kinds)). WorkIs all_kinds c o) (sym works.waits) (subst (λ (d : Hand all_kinds). WorkIs all_kinds c (Some (record works.work { hand = d }))) (sym works.hand) works.change);
    decided = b.decided;
  }

  -- A world in which two rounds are left.
  module _ (u : World all_kinds) (now : Fact u) (soon : SoonAt u) where
    same_runs : (n : NodeId) → runs all_kinds u n ≡ runs all_kinds w n
    same_runs n =
        let x = counted all_kinds h u n.role (all_sized all_kinds h now.reached.0 u now.reached.1) in
        let y = counted all_kinds h w n.role (all_sized all_kinds h ms w reach) in
        ap (λ (i : ℕ). nat_lt n.num i && not (list_any (node_eq n) u.stopped)) (x ∙ sym y) ∙ ap (λ (ss : List NodeId). nat_lt n.num (count_of all_kinds w n.role) && not (list_any (node_eq n) ss)) soon.stops

    -- by its own cluster
    abbrev client_by : Header → Client all_kinds
    client_by g = slice_index_or u.clients k (new_client all_kinds g k)

    here : (P : Client all_kinds → Type 0) → P (client_of all_kinds w.cluster (net all_kinds u) k) → P (client all_kinds u k)
    here P p = subst (λ (g : Header). P (client_by g)) (sym soon.cluster) p

    unit_low : (i : ℕ) → (unit all_kinds u i).epoch ≤ (client all_kinds w k).stand.epoch + 1
    unit_low i = soon.low.units i

    layout_low : (n : ℕ) → (layout all_kinds u n).latest.epoch ≤ (client all_kinds w k).stand.epoch + 1
    layout_low n = subst (λ (g : Header). (slice_index_or u.layouts n (new_layout (first_layout g))).latest.epoch ≤ (client all_kinds w k).stand.epoch + 1) (sym soon.cluster) (soon.low.layouts n)

    seqr_low : (s : ℕ) → (seqr all_kinds u s).epoch ≤ (client all_kinds w k).stand.epoch + 1
    seqr_low s = subst (λ (g : Header). (slice_index_or u.seqrs s (new_seqr s g.limit (first_layout g))).epoch ≤ (client all_kinds w k).stand.epoch + 1) (sym soon.cluster) (soon.low.seqrs s)

    on_runs : (n : NodeId) → runs all_kinds u n ≡ on_in all_kinds w.stopped (net all_kinds u) n
    on_runs n = runs_on all_kinds u n ∙ ap (λ (ss : List NodeId). on_in all_kinds ss (net all_kinds u) n) soon.stops

    alone : Alone all_kinds u k
    alone = record {
      quiet = soon.quiet;
      running = on_runs (client_id k) ∙ soon.low.on;
      alone = λ j off on. subst (λ (g : Header). (slice_index_or u.clients j (new_client all_kinds g j)).work ≡ None) (sym soon.cluster) (soon.low.idle j (unequal j k off) (sym (on_runs (client_id j)) ∙ on));
    }

    ready : Prepared all_kinds u k e c
    ready = record {
      given = subst (λ (ns : List CommandStart). (slice_index_or ns k (record { next = 1; epoch = 1; upto = 0 })).epoch ≡ e) (sym now.noted) b.given;
      low_units = λ i. let x = unit_low i in omega (arith, x, at);
      low_seqrs = λ s. let x = seqr_low s in omega (arith, x, at);
      old = b.old;
      decided = now.decided;
      units = λ i there. same_runs (unit_id i) ∙ b.units i there;
    }

    from_new : New (client all_kinds u k) → (rounds all_kinds 2 u).stopped ≡ None → (client all_kinds (rounds all_kinds 2 u).world k).work ≡ None
    from_new n none = rests_then all_kinds h now.reached.0 u now.reached.1 (λ zs v g. finding.trims h zs v g) k alone adopted' 1 (omega arith) none
      where
        change : n.reconf.change ≡ c
        change = subst (λ (d : Hand all_kinds). WorkIs all_kinds c (Some (record n.work { hand = d }))) n.hand (subst (λ (o : Option (Work all_kinds)). WorkIs all_kinds c o) n.waits now.change)

        given : HasGiven all_kinds u k c
        given = record { work = n.work; waits = n.waits; command = is_commands h now.reached.0 u now.reached.1 k n.work n.reconf n.waits n.hand ∙ ap (λ (z : Changed). cmd.Reconf z) change }

        next : (client all_kinds u k).stand.epoch ≡ e + 1
        next = let x = n.stands in omega (arith, x, at)

        stands : StandsNext u k c
        stands = stands_next h now.reached.0 u now.reached.1 k e c given ready next

        adopted' : Adopted all_kinds u k
        adopted' = record {
          work = n.work;
          waits = n.waits;
          reconf = n.reconf;
          hand = n.hand;
          rid = n.rid;
          starting = n.starting;
          seqr_runs = subst (λ (s : ℕ). runs all_kinds u (seqr_id s) ≡ true) (sym stands.0) (same_runs (seqr_id c.seq) ∙ b.seqr_runs);
          units = stands.1;
          low_units = λ i. let x = unit_low i in omega (arith, x, at, next);
          low_layouts = λ i. let x = layout_low i in omega (arith, x, at, next);
          low_seqrs = λ s. let x = seqr_low s in omega (arith, x, at, next);
        }

    soon_rests : ((client_of all_kinds w.cluster (net all_kinds u) k).work ≡ None) ⊎ New (client_of all_kinds w.cluster (net all_kinds u) k) → (rounds all_kinds 2 u).stopped ≡ None → (client all_kinds (rounds all_kinds 2 u).world k).work ≡ None
    soon_rests (inl none) calm = idle_stays all_kinds k 2 u (here (λ (d : Client all_kinds). d.work ≡ None) none)
    soon_rests (inr n) calm = from_new (here New n) calm

  rests : (client all_kinds (settle all_kinds w).world k).work ≡ None
  rests = rests_after h ms w reach k (cmd.Reconf c) c a works Fact (held_facts all_kinds h k e c b.old w.noted) first (λ u now soon ends calm. soon_rests u now soon ends calm)

  abbrev most : ℕ
  most = 2 * w.cluster.units + 64 * w.cluster.layouts + 22

  from_work : Finishes all_kinds w (settle all_kinds w).world k most (IsEnd all_kinds)
  from_work = let v = joins_finish h ms w reach k (cmd.Reconf c) c a works in record { idle = rests; reply = by v.ends; few = v.few }
    where
      some_work : (x : Work all_kinds) → (client all_kinds (settle all_kinds w).world k).work ≡ Some x → ⊥
      some_work x is = no x (sym rests ∙ is)
        where
          no : (x : Work all_kinds) → None ≡ Some x → ⊥
          no x e = cc

      by : (((client all_kinds (settle all_kinds w).world k).work ≡ None) × HasReply all_kinds w (settle all_kinds w).world k (IsEnd all_kinds)) ⊎ WaitsToStart all_kinds (settle all_kinds w).world k ((client all_kinds w k).stand.epoch + 1)
          → HasReply all_kinds w (settle all_kinds w).world k (IsEnd all_kinds)
      by (inl x) = x.1
      by (inr z) = absurd (some_work z.work z.waits)

pub reconfs_end : Always all_kinds (ReconfsEnd all_kinds)
reconfs_end h ms w r k e c a b = by b.stand
  where
    by : ((client all_kinds w k).stand.epoch ≡ e) ⊎ ((client all_kinds w k).stand.epoch ≡ e + 1) → Finishes all_kinds w (settle all_kinds w).world k (2 * w.cluster.units + 64 * w.cluster.layouts + 22) (IsEnd all_kinds)
    by (inl at) = from_work h ms w r k e c a b at
    by (inr at) = (changes_install h ms w r k e c a b at).finishes
