-- Each position that a request names was issued, or lies below the start or a tail of its epoch.
use Rattle.std.proofs.Common.{◌≡◌, ◌⊎◌, ℕ, ◌<◌, List, [], ◌∷◌, ◌++◌, length, map, true, false, refl, sym, ap, ◌∙◌, subst, inl, inr, Some, None, Option, append-nil}
use Rattle.tg_base.specs.Clusters.{Header}
use Rattle.tg_base.specs.declared.ids.NodeId.{NodeId}
use Rattle.tg_base.specs.declared.packet.Out.{Out}
use Rattle.tg_base.specs.declared.packet.Packet.{Packet}
use Rattle.tg_kind.specs.Meaning.{Meaning}
use Rattle.tg_model.specs.Kinds.{EventOf}
use Rattle.tg_protocol.specs.Words.{client_id, seqr_id, unit_id, layout_id, numbers}
use Rattle.tg_protocol.specs.Layouts.{first_layout}
use Rattle.tg_protocol.specs.Units.{unit_step}
use Rattle.tg_protocol.specs.LayoutServers.{layout_step}
use Rattle.tg_protocol.specs.Cells.{Place, CellJob}
use Rattle.tg_protocol.specs.Sequencers.{SeqrState, SeqrTurn, new_seqr, scan_asks}
use Rattle.tg_protocol.specs.Clients.{Client, new_client}
use Rattle.tg_protocol.specs.ClientSteps.{ClientTurn}
use Rattle.tg_protocol.specs.Worlds.{World, start, packet_of, answer_to}
use Rattle.tg_protocol.specs.Runs.{Moves, Takes, Reaches}
use Rattle.tg_law_layouts.specs.Moves.After.{after}
use Rattle.tg_law_layouts.specs.Moves.Configs.{Config, config, client_in, seqr_in, unit_in, layout_in}
use Rattle.tg_law_layouts.proofs.Moves.Lists.{at_map, at_set}
use Rattle.tg_law_layouts.proofs.Moves.Members.{Has, has_contained, has_either, has_map}
use Rattle.tg_law_layouts.proofs.Moves.Moves.{Cases, Comes, seqr_turn, client_turn, unit_turn, layout_turn, SeqrInput, Hears, Ticks, ClientInput, Commanded, Hears', Ticks', run_keeps}
use Rattle.tg_law_layouts.proofs.Moves.Seqrs.{SeqrDraws, seqr_step_draws, seqr_tick_draws}
use Rattle.tg_law_layouts.proofs.Moves.Growth.{answer_from}
use Rattle.tg_law_layouts.proofs.Requests.Numbers.{numbers_keep}
use Rattle.tg_law_layouts.proofs.Requests.Starts.{All, all_hold}
use Rattle.tg_law_layouts.specs.Layouts.Decisions.{IsOfDecided}
use Rattle.tg_law_layouts.proofs.Layouts.Deciding.{decided_for}
use Rattle.tg_law_layouts.proofs.Layouts.Decided.{seqr_known}
use Rattle.tg_law_layouts.proofs.Layouts.Layouts.{has_header}
use Rattle.tg_law_layouts.proofs.Layouts.Standing.{IsKnown}
use Rattle.tg_law_cells.proofs.Cells.Chains as chains
use Rattle.tg_law_cells.proofs.Cells.Jobs.{MaybeOk}
use Rattle.tg_law_cells.proofs.Cells.Stores as stores
use Rattle.tg_law_cells.proofs.Tokens.Issues.{Turned, turned, low_holds}
use Rattle.tg_law_headline.specs.Issues.Issues.{position_named, IsBelow, BelowStart, TrimsInTime, PositionsBelow, AlwaysByTrims}
use Rattle.tg_law_headline.proofs.Issues.Hands.{ClientOk}
use Rattle.tg_law_headline.proofs.Issues.Sent.{named_pair, NameOnly, job_names, TurnOk, command_ok, deliver_ok, tick_ok}
use Rattle.tg_law_headline.proofs.Issues.Clients.{B, L, client_hears, decided_late, give, named_asks}
use Rattle.tg_law_headline.proofs.Issues.Along.{along}

module _ (m : Meaning) (h : Header) (zs : Moves m) (r : Reaches m h zs (after m h zs)) (trims : TrimsInTime m (after m h zs)) where
  abbrev Ok : Client m → Type 0
  Ok c = ClientOk m (B m h zs r trims) (L m h zs r trims) c

  record Held (c : Config m) : Type 0 where
    clients : (k : ℕ) → Ok (client_in m c k)
    sent : (x : Packet) (e p : ℕ) → Has c.packets x → position_named x.msg ≡ named_pair e p → IsBelow m (after m h zs) e p

  module _ (xs : Moves m) (e : EventOf m) (ys : Moves m) (split : zs ≡ xs ++ Takes e ∷ ys) (held : Held (config m (after m h xs))) where
    abbrev c : Config m
    c = config m (after m h xs)

    all : All m (config m (after m h xs))
    all = all_hold m h xs

    -- what no request is names nothing
    more : (new : List Packet) → ((x : Packet) (e p : ℕ) → Has new x → position_named x.msg ≡ named_pair e p → IsBelow m (after m h zs) e p) → (x : Packet) (e p : ℕ) → Has ((after m h xs).packets ++ new) x → position_named x.msg ≡ named_pair e p → IsBelow m (after m h zs) e p
    more new f x e p has is = by (has_either (after m h xs).packets new x has)
      where
        by : Has (after m h xs).packets x ⊎ Has new x → IsBelow m (after m h zs) e p
        by (inl g) = held.sent x e p g is
        by (inr g) = f x e p g is

    outs : (n : NodeId) (os : List Out) → NameOnly (IsBelow m (after m h zs)) os → (x : Packet) (e p : ℕ) → Has (map (packet_of m n) os) x → position_named x.msg ≡ named_pair e p → IsBelow m (after m h zs) e p
    outs n os f x e p has is = let o = has_map (packet_of m n) os x has in f o.of e p o.has (ap (λ (y : Packet). position_named y.msg) (sym o.is) ∙ is)

    turned_client : (k : ℕ) (t : ClientTurn m) → ClientInput m c k t → TurnOk (B m h zs r trims) (L m h zs r trims) m t
    turned_client k t (Commanded x) = command_ok (B m h zs r trims) (L m h zs r trims) m (client_in m c k) x (held.clients k)
    turned_client k t (Hears' x comes) = deliver_ok (B m h zs r trims) (L m h zs r trims) m (client_in m c k) x.from x.rid x.msg (held.clients k) (client_hears m h zs r trims xs e ys split k x comes)
    turned_client k t Ticks' = tick_ok (B m h zs r trims) (L m h zs r trims) m (client_in m c k) (held.clients k)

    by_client : (k : ℕ) (t : ClientTurn m) → ClientInput m c k t → k < length (after m h xs).clients → Held (client_turn m c k t)
    by_client k t i less =
        let f = turned_client k t i in
        record {
          clients = at_set (after m h xs).clients k t.now (new_client m (after m h xs).cluster) (λ j x. Ok x) less f.ok (λ j other. held.clients j);
          sent = more (map (packet_of m (client_id k)) t.sends) (outs (client_id k) t.sends f.names);
        }

    -- A sequencer's scan is below its layout's start.
    module _ (s : ℕ) (t : SeqrTurn) (i : SeqrInput m (config m (after m h xs)) s t) (less : s < length (after m h xs).seqrs) where
      below : stores.Below m (config m (after m h xs)) × chains.Cells m (config m (after m h xs))
      below = run_keeps m (λ d. stores.Below m d × chains.Cells m d) (stores.keeps m) xs (start m h) (stores.start_below m h)

      decided : IsOfDecided m (after m h zs) t.now.proj
      decided = decided_late m h zs r trims xs e ys split t.now.proj
          (decided_for m h xs r.header (give m h zs r trims xs e ys split) t.now.proj
          (subst (λ (y : Header). IsKnown y.layouts (first_layout y) (after m h xs).packets t.now.proj) (has_header m h xs) (seqr_known m (config m (after m h xs)) (stores.low_of m _ below.0).lay s t i)))

      scan_ok : MaybeOk (seqr_turn m (config m (after m h xs)) s t).packets t.now.proj t.now.scan
      scan_ok = subst (λ (x : SeqrState). MaybeOk (seqr_turn m (config m (after m h xs)) s t).packets x.proj x.scan) now_is (((chains.cells_keep m (config m (after m h xs)) (stores.low_of m (config m (after m h xs)) below.0) below.1).seqr s t i less).scans s)
        where
          now_is : seqr_in m (seqr_turn m (config m (after m h xs)) s t) s ≡ t.now
          now_is = at_set (after m h xs).seqrs s t.now (λ j. new_seqr j (after m h xs).cluster.limit (first_layout (after m h xs).cluster)) (λ j x. j ≡ s → x ≡ t.now) less (λ e. refl) (λ j other e. absurd (other e)) s refl

      draws : (u : SeqrTurn) → SeqrInput m c s u → SeqrDraws (seqr_in m c s) u
      draws u (Hears x comes) = seqr_step_draws (seqr_in m c s) x.from x.rid x.msg
      draws u Ticks = seqr_tick_draws (seqr_in m c s)

      g : Turned m (config m (after m h xs)) s t
      g = turned m (config m (after m h xs)) s t ((low_holds m h xs).1.scans s) i

      scan_names : (j : Option CellJob) → t.now.scan ≡ j → MaybeOk (seqr_turn m (config m (after m h xs)) s t).packets t.now.proj j → NameOnly (IsBelow m (after m h zs)) (scan_asks j)
      scan_names None is k o e p has named = absurd has
      scan_names (Some j) is k o e p has named = job_names (B m h zs r trims) (L m h zs r trims) j
          (subst (λ n. IsBelow m (after m h zs) n j.place.pos) (sym (ap (λ (a : Place). a.epoch) k.place)) (BelowStart t.now.proj decided (subst (λ n. n < t.now.proj.start) (sym (g.scan.at j is)) (g.scan.below j is)))) o e p has named

      names : NameOnly (IsBelow m (after m h zs)) t.sends
      names o e p has is = scan_names t.now.scan refl scan_ok o e p ((draws t i).sent o has (named_asks o.msg e p is)) is

      by_seqr : Held (seqr_turn m (config m (after m h xs)) s t)
      by_seqr = record { clients = held.clients; sent = more (map (packet_of m (seqr_id s)) t.sends) (outs (seqr_id s) t.sends names) }

    -- Units and layout servers ask nothing.
    contrary : {X : Type 0} → true ≡ false → X
    contrary z = absurd (cc)

    cases : Cases m c Held
    cases = record {
      idle = held;
      unit = λ u x a less. record {
        clients = held.clients;
        sent = λ y e p has is. by_unit u x a y e p less has is;
      };
      layout = λ l x a less. record {
        clients = held.clients;
        sent = λ y e p has is. by_layout l x a y e p less has is;
      };
      seqr = λ s t i less. by_seqr s t i less;
      client = by_client;
    }
      where
        by_unit : (u : ℕ) (x : Packet) → Comes m c x (unit_id u) → (y : Packet) (e p : ℕ) → u < length (after m h xs).units → Has (unit_turn m c u x (unit_step (unit_in m c u) x.msg)).packets y → position_named y.msg ≡ named_pair e p → IsBelow m (after m h zs) e p
        by_unit u x a y e p less has is = by (has_either (after m h xs).packets _ y has)
          where
            by : Has (after m h xs).packets y ⊎ Has (answer_to m x (unit_step (unit_in m c u) x.msg).says) y → IsBelow m (after m h zs) e p
            by (inl g) = held.sent y e p g is
            by (inr g) = contrary (sym (named_asks y.msg e p is) ∙ ((numbers_keep m c all.0.0).unit u x a less).units y has (ap (λ (n : NodeId). n.role) (answer_from m x (unit_step (unit_in m c u) x.msg).says y g ∙ a.to_node)))

        by_layout : (l : ℕ) (x : Packet) → Comes m c x (layout_id l) → (y : Packet) (e p : ℕ) → l < length (after m h xs).layouts → Has (layout_turn m c l x (layout_step (layout_in m c l) x.msg)).packets y → position_named y.msg ≡ named_pair e p → IsBelow m (after m h zs) e p
        by_layout l x a y e p less has is = by (has_either (after m h xs).packets _ y has)
          where
            by : Has (after m h xs).packets y ⊎ Has (answer_to m x (layout_step (layout_in m c l) x.msg).says) y → IsBelow m (after m h zs) e p
            by (inl g) = held.sent y e p g is
            by (inr g) = contrary (sym (named_asks y.msg e p is) ∙ ((numbers_keep m c all.0.0).layout l x a less).layouts y has (ap (λ (n : NodeId). n.role) (answer_from m x (layout_step (layout_in m c l) x.msg).says y g ∙ a.to_node)))

  start_client : (k : ℕ) → Ok (new_client m h k)
  unfolding new_client
  start_client k = tt

  start_held : Held (config m (start m h))
  unfolding start
  start_held = record { clients = λ k. at_map (new_client m h) (numbers h.clients 0) k (new_client m h k) Ok (λ j. start_client j) (start_client k); sent = λ x e p has. absurd has }

  held_at : Held (config m (after m h zs))
  held_at = along m h zs Held (λ xs e ys split held. cases xs e ys split held) start_held zs [] (sym (append-nil zs))

  pub below_here : PositionsBelow m (after m h zs)
  below_here x e p sent is = held_at.sent x e p (has_contained _ x sent) is

module _ (m : Meaning) where
  pub positions_are_issued : AlwaysByTrims m (PositionsBelow m)
  positions_are_issued h ms w r trims = subst (λ (v : World m). Reaches m h ms v → TrimsInTime m v → PositionsBelow m v) (sym r.goes.is) (λ a b. below_here m h ms a b) r trims
