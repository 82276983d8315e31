-- Over a run: the walks of a command that forgets begin at the log's beginning.
use Rattle.std.proofs.Common.{ℕ, ◌<◌, length, refl, sym, subst}
use Rattle.std.specs.Prelude.{slice_index_or}
use Rattle.tg_base.specs.Clusters.{Header}
use Rattle.tg_base.specs.declared.ids.Role.TheVariants as role
use Rattle.tg_kind.specs.Meaning.{Meaning}
use Rattle.tg_model.specs.declared.command.Event.TheVariants.{Command as Commands, Deliver, Lose, Tick, Stop}
use Rattle.tg_model.specs.Kinds.{EventOf}
use Rattle.tg_protocol.specs.Replies.{reply}
use Rattle.tg_protocol.specs.Words.{numbers}
use Rattle.tg_protocol.specs.Clients.{Client, new_client}
use Rattle.tg_protocol.specs.ClientSteps.{ClientTurn}
use Rattle.tg_protocol.specs.Runs.{Moves}
use Rattle.tg_protocol.specs.Worlds.{World, start, client}
use Rattle.tg_law_layouts.specs.Moves.After.{after}
use Rattle.tg_law_layouts.specs.Moves.Configs.{Config, config, client_in}
use Rattle.tg_law_layouts.proofs.Moves.Growth.{IsCalm, by_client}
use Rattle.tg_law_layouts.proofs.Moves.Lists.{at_map, at_set}
use Rattle.tg_law_layouts.proofs.Moves.Moves.{ClientInput, Commanded, Hears', Ticks', Keeps, client_turn, run_keeps}
use Rattle.tg_law_replies.specs.History.Worlds.{entries_in}
use Rattle.tg_law_replies.specs.Replies.Steps.{EachEvent}
use Rattle.tg_law_headline.specs.Decisions.Forgetting.{WalksWhole, ForgetsWalkWhole}
use Rattle.tg_law_headline.proofs.Decisions.Whole.{ClientWhole, command_fine, deliver_fine, tick_fine, delivery_at}

module _ (m : Meaning) where
  record Held (c : Config m) : Type 0 where
    clients : (k : ℕ) → ClientWhole m (client_in m c k)

  keep : Keeps m Held
  keep c held = by_client m Held c held calm own
    where
      calm : IsCalm m role.Client c Held
      calm d q = record { clients = λ k. subst (λ (y : Client m). ClientWhole m y) (λ i. slice_index_or (sym (q.clients refl) i) k (new_client m (sym q.cluster i) k)) (held.clients k) }

      turned : (k : ℕ) (t : ClientTurn m) → ClientInput m c k t → ClientWhole m t.now
      turned k t (Commanded x) = command_fine m (client_in m c k) x (held.clients k)
      turned k t (Hears' p comes) = deliver_fine m (client_in m c k) p.from p.rid p.msg (held.clients k)
      turned k t Ticks' = tick_fine m (client_in m c k) (held.clients k)

      own : (k : ℕ) (t : ClientTurn m) → ClientInput m c k t → k < length c.clients → Held (client_turn m c k t)
      own k t i less = record { clients = at_set c.clients k t.now (new_client m c.cluster) (λ j y. ClientWhole m y) less (turned k t i) (λ j other. held.clients j) }

  new_whole : (h : Header) (k : ℕ) → ClientWhole m (new_client m h k)
  unfolding new_client
  new_whole h k = tt

  start_held : (h : Header) → Held (config m (start m h))
  unfolding start
  start_held h = record { clients = λ k. at_map (new_client m h) (numbers h.clients 0) k (new_client m h k) (λ (y : Client m). ClientWhole m y) (new_whole h) (new_whole h k) }

  held_after : (h : Header) (ms : Moves m) → Held (config m (after m h ms))
  held_after h ms = run_keeps m Held keep ms (start m h) (start_held h)

  each_whole : (h : Header) (w : World m) (e : EventOf m) → Held (config m w) → EachEvent m h.objects (entries_in m w) (WalksWhole m) w e
  each_whole h w (Deliver i) held = λ x at is on. delivery_at m h.objects (entries_in m w) (client m w x.to.num) x.from x.rid (reply x.msg) (held.clients x.to.num)
  each_whole h w (Commands k x) held = tt
  each_whole h w (Lose i) held = tt
  each_whole h w (Tick n) held = tt
  each_whole h w (Stop n) held = tt

  pub forgets_walk_whole : ForgetsWalkWhole m
  forgets_walk_whole h ms w e r = each_whole h w e (subst (λ (u : World m). Held (config m u)) (sym r.goes.is) (held_after h ms))
