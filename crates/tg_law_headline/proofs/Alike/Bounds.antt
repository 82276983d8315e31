-- A layout that a client proposed is at most one epoch past where that client stands, and so is each decided one.
use Rattle.std.proofs.Common.{◌≡◌, ℕ, ◌<◌, ◌≤◌, ◌+◌, List, length, sym, subst, inl, inr, arith}
use Rattle.tg_base.specs.Clusters.{Header}
use Rattle.tg_base.specs.Layouts.{Layout}
use Rattle.tg_kind.specs.Meaning.{Meaning}
use Rattle.tg_protocol.specs.Layouts.{next_of}
use Rattle.tg_protocol.specs.Reconfiguring.{Reconf}
use Rattle.tg_protocol.specs.Clients.{Client, new_client}
use Rattle.tg_protocol.specs.ClientSteps.{ClientTurn}
use Rattle.tg_protocol.specs.Worlds.{World, client, start}
use Rattle.tg_protocol.specs.Chosen.{IsDecided}
use Rattle.tg_protocol.specs.Runs.{Moves, Reaches}
use Rattle.tg_law_layouts.specs.Moves.After.{after}
use Rattle.tg_law_layouts.specs.Moves.Configs.{Config, config, client_in}
use Rattle.tg_law_layouts.proofs.Moves.Always.{lawful_give}
use Rattle.tg_law_layouts.proofs.Moves.Lists.{at_set}
use Rattle.tg_law_layouts.proofs.Moves.Members.{has_contained}
use Rattle.tg_law_layouts.proofs.Moves.Moves.{Cases, ClientInput, client_turn}
use Rattle.tg_law_layouts.proofs.Requests.Starts.{All, start_all}
use Rattle.tg_law_layouts.proofs.Layouts.Decided.{Lay, start_lay}
use Rattle.tg_law_layouts.proofs.Layouts.Decisions.{Pax}
use Rattle.tg_law_layouts.proofs.Layouts.Layouts.{start_pax, has_header}
use Rattle.tg_law_layouts.proofs.Layouts.Pax.{HandOk}
use Rattle.tg_law_layouts.proofs.Layouts.Succeeding.{Early, Succ, ReadyAt, low_keeps, succ_holds}
use Rattle.tg_law_syncs.proofs.Timely.Standing.{turn_rises}

module _ (m : Meaning) (h : Header) (ms : Moves m) where
  abbrev end : World m
  end = after m h ms

  abbrev pub Near : Layout → Type 0
  Near q = q.epoch ≤ (client m end q.by).stand.epoch + 1

  -- each client stands no later than at the end
  abbrev Ahead : Config m → Type 0
  Ahead c = (k : ℕ) → (client_in m c k).stand.epoch ≤ (client m end k).stand.epoch

  abbrev Low' : Config m → Type 0
  Low' c = (Pax m c × Lay m c) × All m c

  back : (c : Config m) → Low' c → Cases m c (λ d. Low' d → Ahead d → Ahead c)
  back c b = record {
    idle = λ x y. y;
    unit = λ u p a less x y. y;
    layout = λ l p a less x y. y;
    seqr = λ n t i less x y. y;
    client = λ n t i less x y k. let le = rises n t i less k in let up = y k in omega (arith, le, up);
  }
    where
      rises : (n : ℕ) (t : ClientTurn m) → ClientInput m c n t → n < length c.clients → (k : ℕ) → (client_in m c k).stand.epoch ≤ (client_in m (client_turn m c n t) k).stand.epoch
      rises n t i less = at_set c.clients n t.now (new_client m c.cluster) (λ j x. (client_in m c j).stand.epoch ≤ x.stand.epoch) less (turn_rises m c b.0.0 n t i) (λ j other. omega arith)

  own_near : (r : Reconf) (start : ℕ) → r.stand.epoch ≤ (client m end r.me).stand.epoch → Near (next_of r.stand r.change r.me start)
  unfolding next_of
  own_near r start le = up
    where
      up : r.stand.epoch + 1 ≤ (client m end r.me).stand.epoch + 1
      up = omega (arith, le)

  ready : (c : Config m) → Low' c → Early m h end.packets Near Ahead c → ReadyAt m h end.packets Near Ahead c
  ready c b a k r acks hand sealed looked =
      let ok = subst (HandOk m c.cluster.layouts k c.packets (client_in m c k).stand) hand (b.0.0.clients k) in
      own_near r _ (subst (λ (i : ℕ). r.stand.epoch ≤ (client m end i).stand.epoch) (sym ok.ok.me) (subst (λ (p : Layout). p.epoch ≤ (client m end k).stand.epoch) (sym ok.stand) (a.ahead k)))

  -- each decided layout is near its client
  pub decided_near : Reaches m h ms end → (q : Layout) → IsDecided m end q.epoch q → Near q
  decided_near r q (inl d) = let e = d.0 in omega (arith, e)
  decided_near r q (inr d) = (succ.sent d.1.proposal q.epoch d.1.ballot q (has_contained end.packets d.1.proposal d.1.sent) d.1.proposes).more
    where
      succ : Succ m h end.packets Near Ahead (config m end)
      succ = succ_holds m h end.packets Near Ahead Low' (λ c b. b) (low_keeps m h end.packets Near Ahead) (λ k. ((start_pax m k, start_lay m k), start_all m k)) (λ (c : Config m). Unit {0}) (λ ys z. tt)
          back (λ c z b a s. ready c b a) ms (lawful_give m (start m h).cluster ms r.goes.lawful) (record { cluster = has_header m h ms; sent = λ x i. i; ahead = λ k. omega arith })
