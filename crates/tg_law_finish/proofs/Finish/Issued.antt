-- Each position that a client has in hand was issued, or lies below the start or a tail of its epoch.
use Rattle.std.proofs.Common.{◌≡◌, ℕ, [], ◌∷◌, ◌++◌, sym, append-nil}
use Rattle.tg_base.specs.Clusters.{Header}
use Rattle.tg_kind.specs.Meaning.{Meaning}
use Rattle.tg_model.specs.Kinds.{EventOf}
use Rattle.tg_protocol.specs.Words.{numbers}
use Rattle.tg_protocol.specs.Clients.{Client, new_client}
use Rattle.tg_protocol.specs.ClientSteps.{ClientTurn}
use Rattle.tg_protocol.specs.Worlds.{start}
use Rattle.tg_protocol.specs.Runs.{Moves, Takes, Reaches}
use Rattle.tg_law_layouts.specs.Moves.After.{after}
use Rattle.tg_law_layouts.specs.Moves.Configs.{Config, config, client_in}
use Rattle.tg_law_layouts.proofs.Moves.Lists.{at_map, at_set}
use Rattle.tg_law_layouts.proofs.Moves.Moves.{Cases, ClientInput, Commanded, Hears', Ticks'}
use Rattle.tg_law_headline.specs.Issues.Issues.{TrimsInTime}
use Rattle.tg_law_headline.proofs.Issues.Hands.{ClientOk}
use Rattle.tg_law_headline.proofs.Issues.Sent.{command_ok, deliver_ok, tick_ok}
use Rattle.tg_law_headline.proofs.Issues.Clients.{B, L, client_hears}
use Rattle.tg_law_headline.proofs.Issues.Along.{along}

module _ (m : Meaning) (h : Header) (zs : Moves m) (r : Reaches m h zs (after m h zs)) (trims : TrimsInTime m (after m h zs)) where
  abbrev Ok : Client m → Type 0
  Ok c = ClientOk m (B m h zs r trims) (L m h zs r trims) c

  abbrev AllOk : Config m → Type 0
  AllOk c = (k : ℕ) → Ok (client_in m c k)

  module _ (xs : Moves m) (e : EventOf m) (ys : Moves m) (split : zs ≡ xs ++ Takes e ∷ ys) (held : AllOk (config m (after m h xs))) where
    abbrev c : Config m
    c = config m (after m h xs)

    turned : (k : ℕ) (t : ClientTurn m) → ClientInput m c k t → Ok t.now
    turned k t (Commanded x) = (command_ok (B m h zs r trims) (L m h zs r trims) m (client_in m c k) x (held k)).ok
    turned k t (Hears' x comes) = (deliver_ok (B m h zs r trims) (L m h zs r trims) m (client_in m c k) x.from x.rid x.msg (held k) (client_hears m h zs r trims xs e ys split k x comes)).ok
    turned k t Ticks' = (tick_ok (B m h zs r trims) (L m h zs r trims) m (client_in m c k) (held k)).ok

    cases : Cases m c AllOk
    cases = record {
      idle = held;
      unit = λ u x a less. held;
      layout = λ l x a less. held;
      seqr = λ s t i less. held;
      client = λ k t i less. at_set (after m h xs).clients k t.now (new_client m (after m h xs).cluster) (λ j x. Ok x) less (turned k t i) (λ j other. held j);
    }

  start_client : (k : ℕ) → Ok (new_client m h k)
  unfolding new_client
  start_client k = tt

  start_ok : AllOk (config m (start m h))
  unfolding start
  start_ok k = at_map (new_client m h) (numbers h.clients 0) k (new_client m h k) Ok (λ j. start_client j) (start_client k)

  pub clients_here : AllOk (config m (after m h zs))
  clients_here = along m h zs AllOk (λ xs e ys split held. cases xs e ys split held) start_ok zs [] (sym (append-nil zs))
