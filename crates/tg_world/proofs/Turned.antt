-- A client's turn, put together from its parts.
use Rattle.std.specs.Prelude.{◌≡◌, ℕ, zero, suc, ◌+◌, ◌<◌, ◌≤◌, Bool, true, false, List, [], ◌∷◌, ◌++◌, map, length, slice_get, slice_set, slice_index_or, Some, None, is_some, refl}
use Rattle.std.proofs.Common.{sym, ap, subst, ◌∙◌, arith}
use Rattle.tg_base.specs.declared.packet.Out.{Out}
use Rattle.tg_base.specs.declared.packet.Packet.{Packet}
use Rattle.tg_kind.specs.Meaning.{Meaning}
use Rattle.tg_model.specs.Kinds.{CommandOf, NoteOf, MarkOf}
use Rattle.tg_protocol.specs.Words.{client_id}
use Rattle.tg_protocol.specs.Clients.{Client, new_client, upto}
use Rattle.tg_protocol.specs.ClientSteps.{ClientTurn, client_command, client_deliver}
use Rattle.tg_protocol.specs.Worlds as world
use Rattle.tg_protocol.specs.Worlds.{World, CommandStart, client_turned}
use Rattle.tg_world_servers.specs.Servers as servers
use Rattle.tg_world_servers.specs.Servers.{ServersState}
use Rattle.tg_client.specs.Kept.{Kept as KeptClient, KeepsClient}
use Rattle.tg_client.proofs.Counted.{command_calls, deliver_calls}
use Rattle.tg_world.specs.Clients.{KeepsClients, AreCounted}
use Rattle.tg_world.specs.Kept.{KeptOf, told_all, told_by, world_of, KeepsWorld}
use Rattle.tg_world.specs.Runs.{noted_after}
use Rattle.tg_world.proofs.Counted.{client_calls, counted_later, counted_set}
use Rattle.tg_world.proofs.Moving.{length_set, keeps_read}
use Rattle.tg_world.proofs.Moves.{keeps_at, moved}
use Rattle.tg_world.proofs.Turns.{noted_in, turned_same}

module _ (m : Meaning) where
  -- what a turn leaves of a world
  abbrev pub after_turn : ℕ → ServersState → List (KeptClient m) → List (MarkOf m) → List CommandStart → List CommandStart → KeptOf m
  after_turn event s ks ts us ns = record { servers = s; clients = ks; told = ts; told_noted = us; noted = ns; event = event }

  -- the parts of a turn of a client, of which this is noted
  pub record Parts (k : KeptOf m) (cs : List (Client m)) (n : ℕ) (t : ClientTurn m) (l : KeptOf m) : Type 0 where
    pub outs : List Out
    pub notes : List (NoteOf m)
    pub noted : CommandStart
    pub sent : outs ≡ t.sends
    pub replied : notes ≡ t.notes
    pub servers : l.servers ≡ servers.counted (servers.sends k.servers (client_id n) outs)
    pub is_noted : noted ≡ noted_in m l.noted n
    pub told : told_all m l.told l.told_noted ≡ told_all m k.told k.told_noted ++ map (told_by m k.event n noted) notes
    pub clients : KeepsClients m l.clients (slice_set cs n t.now)
    pub event : l.event ≡ k.event

  -- a client's turn, which counts one step of it, where of clients this is noted
  pub turned_keeps : (k : KeptOf m) (w : World m) (n : ℕ) (t : ClientTurn m) (l : KeptOf m) → KeepsWorld m k w → Parts k w.clients n t l → t.now.calls ≡ (world.client m w n).calls + 1
      → KeepsWorld m l (world.counted m (client_turned m (record w { noted = l.noted }) n t))
  turned_keeps k w n t l h p one =
      subst (λ (v : World m). KeepsWorld m l (world.counted m (client_turned m (record v { noted = l.noted }) n t))) h.same
      (keeps_at m l (slice_set w.clients n t.now) (world.counted m (client_turned m (record (world_of m k w.clients) { noted = l.noted }) n t)) p.clients counted
      (same_event ∙ turned_same m k w.clients n t l.noted l.servers l.clients l.told l.told_noted sent told))
    where
      same_event : world_of m l (slice_set w.clients n t.now) ≡ world_of m (record l { event = k.event }) (slice_set w.clients n t.now)
      same_event = ap (λ (x : ℕ). world_of m (record l { event = x }) (slice_set w.clients n t.now)) p.event

      counted : AreCounted m l.servers.steps (slice_set w.clients n t.now)
      counted =
          let few : (world.client m w n).calls ≤ k.servers.steps = client_calls m k w n h in
          let steps : l.servers.steps ≡ k.servers.steps + 1 = ap (λ (s : ServersState). s.steps) p.servers in
          let now : t.now.calls ≤ l.servers.steps = omega (arith, one, few, steps) in
          let later : k.servers.steps ≤ l.servers.steps = omega (arith, steps) in
          counted_set m l.servers.steps w.clients n t.now now (counted_later m k w l.servers.steps h later)

      sent : l.servers ≡ servers.counted (servers.sends k.servers (client_id n) t.sends)
      sent = p.servers ∙ ap (λ (os : List Out). servers.counted (servers.sends k.servers (client_id n) os)) p.sent

      told : told_all m l.told l.told_noted ≡ told_all m k.told k.told_noted ++ map (told_by m k.event n (noted_in m l.noted n)) t.notes
      told =
          p.told ∙ ap (λ (xs : List (NoteOf m)). told_all m k.told k.told_noted ++ map (told_by m k.event n p.noted) xs) p.replied
          ∙ ap (λ (x : CommandStart). told_all m k.told k.told_noted ++ map (told_by m k.event n x) t.notes) p.is_noted

  -- one that notes nothing
  pub turned_alike : (k : KeptOf m) (w : World m) (n : ℕ) (t : ClientTurn m) (l : KeptOf m) → KeepsWorld m k w → Parts k w.clients n t l → t.now.calls ≡ (world.client m w n).calls + 1 → l.noted ≡ k.noted
      → KeepsWorld m l (world.counted m (client_turned m w n t))
  turned_alike k w n t l h p one e =
      subst (λ (ns : List CommandStart). KeepsWorld m l (world.counted m (client_turned m (record w { noted = ns }) n t))) (e ∙ ap (λ (v : World m). v.noted) h.same) (turned_keeps k w n t l h p one)

  -- a delivery
  pub handed_keeps : (k : KeptOf m) (w : World m) (i : ℕ) → KeepsWorld m k w → KeepsWorld m (record k { servers = servers.hands k.servers i }) (world.handed m w i)
  handed_keeps k w i h = moved m k (record k { servers = servers.hands k.servers i }) w (λ v. world.handed m v i) h h.clients (omega arith) refl

  pub delivered_keeps : (k : KeptOf m) (w : World m) (i n : ℕ) (p : Packet) (l : KeptOf m) → KeepsWorld m k w
      → Parts (record k { servers = servers.hands k.servers i }) w.clients n (client_deliver m (world.client m w n) p.from p.rid p.msg) l → l.noted ≡ k.noted
      → KeepsWorld m l (world.counted m (world.client_moves m (world.handed m w i) n p))
  delivered_keeps k w i n p l h q e =
      turned_alike (record k { servers = servers.hands k.servers i }) (world.handed m w i) n (client_deliver m (world.client m w n) p.from p.rid p.msg) l (handed_keeps k w i h) q
      (deliver_calls m (world.client m w n) p.from p.rid p.msg) e

  -- a command
  noted_by : (w : World m) (n : ℕ) (c : Client m) (b : Bool) → record w { noted = noted_after m w.noted n c b } ≡ world.noted_if m b w n c
  noted_by w n c true = refl
  noted_by w n c false = refl

  pub commanded_keeps : (k : KeptOf m) (w : World m) (n : ℕ) (x : CommandOf m) (l : KeptOf m) → KeepsWorld m k w
      → Parts k w.clients n (client_command m (world.client m w n) x) l → l.noted ≡ noted_after m k.noted n (world.client m w n) (is_some (world.client m w n).work)
      → KeepsWorld m l (world.counted m (world.commands m true w n x))
  commanded_keeps k w n x l h q e =
      subst (λ (v : World m). KeepsWorld m l (world.counted m (client_turned m v n (client_command m (world.client m w n) x))))
      (ap (λ (ns : List CommandStart). record w { noted = ns }) (e ∙ ap (λ (v : World m). noted_after m v.noted n (world.client m w n) (is_some (world.client m w n).work)) h.same)
      ∙ noted_by w n (world.client m w n) (is_some (world.client m w n).work))
      (turned_keeps k w n (client_command m (world.client m w n) x) l h q (command_calls m (world.client m w n) x))

  -- the client at a place of the row
  pub client_there : (k : KeptOf m) (w : World m) (n : ℕ) (c : KeptClient m) → KeepsWorld m k w → n < length k.clients → c ≡ slice_index_or k.clients n c → KeepsClient m c (world.client m w n)
  client_there k w n c h within e =
      subst (λ (x : KeptClient m). KeepsClient m x (world.client m w n)) (sym e) (keeps_read m k.clients w.clients n c (new_client m w.cluster n) within h.clients)

  pub length_noted : (ns : List CommandStart) (n : ℕ) (c : Client m) (b : Bool) → length (noted_after m ns n c b) ≡ length ns
  length_noted ns n c true = refl
  length_noted ns n c false = length_set ns n (record { next = c.next; epoch = c.stand.epoch; upto = upto m c })

-- the packet at a place
pub packet_there : (xs ys : List Packet) (n : ℕ) (x p : Packet) → xs ≡ ys → slice_get ys n ≡ Some p → x ≡ slice_index_or xs n x → x ≡ p
packet_there xs ys n x p e at is = is ∙ ap (λ (l : List Packet). slice_index_or l n x) e ∙ read ys n at
  where
    read : (zs : List Packet) (j : ℕ) → slice_get zs j ≡ Some p → slice_index_or zs j x ≡ p
    read [] j h = let e : None ≡ Some p = h in absurd cc
    read (z ∷ zs) zero h = let e : Some z ≡ Some p = h in cc
    read (z ∷ zs) (suc j) h = read zs j h

-- the next event begins

pub next_kept : (m : Meaning) (k : KeptOf m) (w : World m) (e : ℕ) → KeepsWorld m k w → e ≡ k.event + 1 → KeepsWorld m (record k { event = e }) (world.next_event m w)
next_kept m k w e h is = moved m k (record k { event = e }) w (λ v. world.next_event m v) h h.clients (omega arith) (ap (λ (x : ℕ). world_of m (record k { event = x }) w.clients) is)
