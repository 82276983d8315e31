-- What is told of a kept world.
use Rattle.std.specs.Prelude.{◌≡◌, ℕ, nat_lt, List, [], ◌∷◌, ◌++◌, map, length, replicate, refl}
use Rattle.std.proofs.Common.{sym, ap, ◌∙◌, arith}
use Rattle.tg_base.specs.Clusters.{Header}
use Rattle.tg_base.specs.declared.ids.NodeId.{NodeId}
use Rattle.tg_kind.specs.Meaning.{Meaning}
use Rattle.tg_model.specs.Kinds.{MarkOf}
use Rattle.tg_world_servers.specs.Posts.{first_of}
use Rattle.tg_protocol.specs.Words.{numbers, unit_id, layout_id, seqr_id, client_id}
use Rattle.tg_protocol.specs.Clients.{new_client}
use Rattle.tg_protocol.specs.Logs.{Log, history_of}
use Rattle.tg_protocol.specs.Worlds as world
use Rattle.tg_protocol.specs.Worlds.{World, CommandStart, latest, log, history, limit_of, start}
use Rattle.tg_world_servers.specs.Servers as servers
use Rattle.tg_world_servers.specs.Servers.{servers_limit, servers_start}
use Rattle.tg_world.specs.Clients.{KeepsClients}
use Rattle.tg_world.specs.Kept.{KeptOf, IsWhole, told_all, KeepsWorld}
use Rattle.tg_world.specs.Runs.{due_by, due_of, end_by, end_of}
use Rattle.tg_world.proofs.Moving.{keeps_length}
use Rattle.tg_world.specs.Checks.{declares}
use Rattle.tg_world.proofs.Counted.{new_counted}
use Rattle.tg_world.proofs.Moves.{keeps_at, count_same, runs_same}

module _ (m : Meaning) (k : KeptOf m) (w : World m) (h : KeepsWorld m k w) where
  pub steps_told : k.servers.steps ≡ w.steps
  steps_told = ap (λ (v : World m). v.steps) h.same

  pub packets_told : k.servers.post.packets ≡ w.packets
  packets_told = ap (λ (v : World m). v.packets) h.same

  pub limit_told : servers_limit k.servers ≡ limit_of m w
  unfolding servers_limit limit_of
  limit_told = ap (λ (v : World m). limit_of m v) h.same

  pub log_told : servers.log k.servers ≡ log m w
  unfolding latest log
  log_told = ap (λ (v : World m). log m v) h.same

  pub history_told : (l : Log) → l ≡ log m w → history_of m l ≡ history m w
  unfolding history
  history_told l e = ap (λ (x : Log). history_of m x) e

  pub due_told : due_by m (servers_limit k.servers) (first_of k.servers.post.waiting) ≡ due_of m w
  due_told = λ i. due_by m (limit_told i) (lowest_told i)
    where
      lowest_of : (xs : List ℕ) → first_of xs ≡ world.lowest m xs
      lowest_of [] = refl
      lowest_of (x ∷ xs) = refl

      lowest_told : first_of k.servers.post.waiting ≡ world.lowest m w.waiting
      lowest_told = lowest_of k.servers.post.waiting ∙ ap (λ (v : World m). world.lowest m v.waiting) h.same

  pub end_told : end_by m (servers_limit k.servers) (first_of k.servers.post.waiting) ≡ end_of m w
  end_told = λ i. end_by m (limit_told i) (lowest_told i)
    where
      lowest_of : (xs : List ℕ) → first_of xs ≡ world.lowest m xs
      lowest_of [] = refl
      lowest_of (x ∷ xs) = refl

      lowest_told : first_of k.servers.post.waiting ≡ world.lowest m w.waiting
      lowest_told = lowest_of k.servers.post.waiting ∙ ap (λ (v : World m). world.lowest m v.waiting) h.same

  module _ (whole : IsWhole k.servers k.clients k.told k.told_noted k.noted) where
    marks : (ts : List (MarkOf m)) (ns : List CommandStart) → length ns ≡ length ts → ts ≡ map (λ (t : world.Told m). t.mark) (told_all m ts ns)
    marks [] ns e = refl
    marks (t ∷ ts) [] e = absurd (omega (arith, e))
    marks (t ∷ ts) (n ∷ ns) e = let f : length ns ≡ length ts = omega (arith, e) in λ i. t ∷ marks ts ns f i

    notes : (ts : List (MarkOf m)) (ns : List CommandStart) → length ns ≡ length ts → ns ≡ map (λ (t : world.Told m). t.noted) (told_all m ts ns)
    notes [] [] e = refl
    notes [] (n ∷ ns) e = absurd (omega (arith, e))
    notes (t ∷ ts) [] e = absurd (omega (arith, e))
    notes (t ∷ ts) (n ∷ ns) e = let f : length ns ≡ length ts = omega (arith, e) in λ i. n ∷ notes ts ns f i

    pub trace_told : k.told ≡ world.trace m w
    trace_told = marks k.told k.told_noted whole.replies_noted ∙ ap (λ (v : World m). world.trace m v) h.same

    pub noted_told : k.told_noted ≡ map (λ (t : world.Told m). t.noted) w.told
    noted_told = notes k.told k.told_noted whole.replies_noted ∙ ap (λ (v : World m). map (λ (t : world.Told m). t.noted) v.told) h.same

    pub runs_told : (n : NodeId) → servers.runs k.servers n ≡ world.runs m w n
    runs_told n = runs_same m k w.clients whole h.clients n ∙ ap (λ (v : World m). world.runs m v n) h.same

    pub declares_told : (n : NodeId) → nat_lt n.num (servers.count_of k.servers n.role) ≡ declares m w n
    declares_told n = ap (λ (x : ℕ). nat_lt n.num x) (count_same m k w.clients whole h.clients n.role ∙ ap (λ (v : World m). world.count_of m v n.role) h.same)

    pub nodes_told : servers.nodes k.servers ≡ world.nodes m w
    nodes_told =
        ap (λ (n : ℕ). map unit_id (numbers (length k.servers.units) 0) ++ map layout_id (numbers (length k.servers.layouts) 0) ++ map seqr_id (numbers (length k.servers.seqrs) 0) ++ map client_id (numbers n 0))
        (sym whole.many ∙ keeps_length m k.clients w.clients h.clients)
        ∙ ap (λ (v : World m). world.nodes m v) h.same

-- the first world
pub starts : (m : Meaning) (c : Header) (k : KeptOf m) → k.servers ≡ servers_start c → KeepsClients m k.clients (map (new_client m c) (numbers c.clients 0)) → k.told ≡ []
    → k.noted ≡ replicate c.clients (record { next = 1; epoch = 1; upto = 0 }) → k.event ≡ 0 → KeepsWorld m k (start m c)
unfolding start servers_start
starts m c k e h t n v =
    keeps_at m k (map (new_client m c) (numbers c.clients 0)) (start m c) h (new_counted m c k.servers.steps (numbers c.clients 0))
    (λ i. record {
      cluster = (e i).cluster;
      units = (e i).units;
      layouts = (e i).layouts;
      seqrs = (e i).seqrs;
      clients = map (new_client m c) (numbers c.clients 0);
      stopped = (e i).stopped;
      packets = (e i).post.packets;
      waiting = (e i).post.waiting;
      delivered = (e i).post.delivered;
      archive = (e i).archive;
      told = told_all m (t i) k.told_noted;
      noted = n i;
      event = v i;
      steps = (e i).steps;
      bytes = (e i).post.bytes;
    })
