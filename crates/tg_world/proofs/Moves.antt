-- Moves of servers are those of the world.
use Rattle.std.specs.Prelude.{◌≡◌, ◌≤◌, ℕ, Bool, true, false, cond, not, ◌&&◌, nat_lt, List, [], ◌∷◌, slice_set, Option, Some, None, refl}
use Rattle.std.proofs.Common.{sym, ap, subst, ◌∙◌}
use Rattle.tg_base.specs.declared.cell.Cell.{Cell}
use Rattle.tg_base.specs.declared.ids.NodeId.{NodeId}
use Rattle.tg_base.specs.declared.ids.Role.{Role}
use Rattle.tg_base.specs.declared.ids.Role.TheVariants as role
use Rattle.tg_base.specs.declared.msg.Msg.{Msg}
use Rattle.tg_base.specs.declared.packet.Packet.{Packet}
use Rattle.tg_kind.specs.Meaning.{Meaning}
use Rattle.tg_protocol.specs.Clients.{Client}
use Rattle.tg_protocol.specs.Words.{with_cell}
use Rattle.tg_protocol.specs.Units.{UnitState, UnitTurn, unit_step}
use Rattle.tg_protocol.specs.LayoutServers.{LayoutTurn, layout_step}
use Rattle.tg_protocol.specs.Logs.{Log}
use Rattle.tg_protocol.specs.Worlds as world
use Rattle.tg_protocol.specs.Worlds.{World, latest, log, unit_moves, layout_moves, seqr_moves}
use Rattle.tg_world_log.specs.Archives.{archived}
use Rattle.tg_world_servers.specs.Posts.{answer_from}
use Rattle.tg_world_servers.specs.Servers as servers
use Rattle.tg_world_servers.specs.Servers.{unit_takes, layout_takes, seqr_takes, seqr_ticks}
use Rattle.tg_world.specs.Clients.{KeepsClients, AreCounted}
use Rattle.tg_world.specs.Kept.{KeptOf, IsWhole, world_of, KeepsWorld}
use Rattle.tg_world.proofs.Counted.{counted_later}
use Rattle.tg_world.proofs.Moving.{keeps_length}

module _ (m : Meaning) where
  -- ---- a world that is kept so

  pub keeps_at : (k : KeptOf m) (cs : List (Client m)) (w : World m) → KeepsClients m k.clients cs → AreCounted m k.servers.steps cs → world_of m k cs ≡ w → KeepsWorld m k w
  keeps_at k cs w h n e = subst (λ (v : World m). KeepsWorld m k v) e (record { clients = h; same = refl; counted = n })

  -- a step of a kept world in which its clients stay, by what it is on that world with these clients
  pub moved : (k l : KeptOf m) (w : World m) (f : World m → World m) → KeepsWorld m k w → KeepsClients m l.clients w.clients → k.servers.steps ≤ l.servers.steps → world_of m l w.clients ≡ f (world_of m k w.clients)
      → KeepsWorld m l (f w)
  moved k l w f h c le e = subst (λ (v : World m). KeepsWorld m l (f v)) h.same (keeps_at l w.clients (f (world_of m k w.clients)) c (counted_later m k w l.servers.steps h le) e)

  -- what is told of a kept world
  pub told_of : (k : KeptOf m) (w : World m) (P : World m → Type 0) → KeepsWorld m k w → P (world_of m k w.clients) → P w
  told_of k w P h p = subst P h.same p

  -- ---- the same nodes run

  pub count_same : (k : KeptOf m) (cs : List (Client m)) → IsWhole k.servers k.clients k.told k.told_noted k.noted → KeepsClients m k.clients cs → (r : Role) → servers.count_of k.servers r ≡ world.count_of m (world_of m k cs) r
  count_same k cs h c role.Unit = refl
  count_same k cs h c role.Layout = refl
  count_same k cs h c role.Seqr = refl
  count_same k cs h c role.Client = sym h.many ∙ keeps_length m k.clients cs c

  pub runs_same : (k : KeptOf m) (cs : List (Client m)) → IsWhole k.servers k.clients k.told k.told_noted k.noted → KeepsClients m k.clients cs → (n : NodeId) → servers.runs k.servers n ≡ world.runs m (world_of m k cs) n
  runs_same k cs h c n = ap (λ (x : ℕ). nat_lt n.num x && not (servers.has_stopped k.servers n)) (count_same k cs h c n.role)

  -- ---- moves of servers

  answers_same : (p : Packet) (o : Option Msg) → answer_from p.to p.from p.rid o ≡ world.answer_to m p o
  answers_same p None = refl
  answers_same p (Some x) = refl

  archived_same : (xs : List (ℕ × Cell)) (low : ℕ) (archive : Log) → archived xs low archive ≡ world.archived m xs low archive
  archived_same [] low archive = refl
  archived_same (x ∷ xs) low archive = ap (λ (l : Log). cond (nat_lt x.0 low) (with_cell l x.0 x.1) l) (archived_same xs low archive)

  archive_same : (k : KeptOf m) (cs : List (Client m)) (u : UnitState) (low : ℕ) (b : Bool)
      → servers.archive_by (servers.latest k.servers) k.servers.units k.servers.archive u low b ≡ world.archive_after m (world_of m k cs) u low b
  unfolding latest log
  archive_same k cs u low false = refl
  archive_same k cs u low true =
      archived_same (servers.log k.servers) low (archived u.cells low k.servers.archive)
      ∙ ap (λ (l : Log). world.archived m (servers.log k.servers) low l) (archived_same u.cells low k.servers.archive)

  unit_same : (k : KeptOf m) (cs : List (Client m)) (p : Packet) → world_of m (record k { servers = unit_takes k.servers p }) cs ≡ unit_moves m (world_of m k cs) p.to.num p
  unfolding unit_takes unit_moves
  unit_same k cs p =
      let u : UnitState = servers.unit_at k.servers p.to.num in
      let t : UnitTurn = unit_step u p.msg in
      λ i. world.sends m (record (world_of m k cs) { units = slice_set k.servers.units p.to.num t.now; archive = archive_same k cs u t.now.low (nat_lt u.low t.now.low) i }) (answers_same p t.says i)

  layout_same : (k : KeptOf m) (cs : List (Client m)) (p : Packet) → world_of m (record k { servers = layout_takes k.servers p }) cs ≡ layout_moves m (world_of m k cs) p.to.num p
  unfolding layout_takes layout_moves
  layout_same k cs p =
      let t : LayoutTurn = layout_step (servers.layout_at k.servers p.to.num) p.msg in
      λ i. world.sends m (record (world_of m k cs) { layouts = slice_set k.servers.layouts p.to.num t.now }) (answers_same p t.says i)

  seqr_same : (k : KeptOf m) (cs : List (Client m)) (p : Packet) → world_of m (record k { servers = seqr_takes k.servers p }) cs ≡ seqr_moves m (world_of m k cs) p.to.num p
  unfolding seqr_takes seqr_moves
  seqr_same k cs p = refl

  ticks_same : (k : KeptOf m) (cs : List (Client m)) (n : ℕ) → world_of m (record k { servers = seqr_ticks k.servers n }) cs ≡ world.ticks m (world_of m k cs) n role.Seqr
  unfolding seqr_ticks
  ticks_same k cs n = refl

  -- a server takes a packet
  pub takes_same : (k : KeptOf m) (cs : List (Client m)) (p : Packet) (r : Role) → (r ≡ role.Client → ⊥) → world_of m (record k { servers = servers.takes k.servers p r }) cs ≡ world.moves m (world_of m k cs) p r
  takes_same k cs p role.Unit h = unit_same k cs p
  takes_same k cs p role.Layout h = layout_same k cs p
  takes_same k cs p role.Seqr h = seqr_same k cs p
  takes_same k cs p role.Client h = absurd (h refl)

  -- a packet comes to a server, or to a node that doesn't run
  pub comes_same : (k : KeptOf m) (cs : List (Client m)) (p : Packet) (b : Bool) → (b ≡ true → p.to.role ≡ role.Client → ⊥)
      → world_of m (record k { servers = servers.taken b k.servers p }) cs ≡ world.comes m b (world_of m k cs) p
  comes_same k cs p true h = takes_same k cs p p.to.role (h refl)
  comes_same k cs p false h = refl

  pub ticked_same : (k : KeptOf m) (cs : List (Client m)) (n : NodeId) (b : Bool) → (b ≡ true → n.role ≡ role.Client → ⊥)
      → world_of m (record k { servers = servers.ticked b k.servers n }) cs ≡ world.ticks_if m b (world_of m k cs) n
  ticked_same k cs n false h = refl
  ticked_same k cs n true h = by n.role (h refl)
    where
      by : (r : Role) → (r ≡ role.Client → ⊥) → world_of m (record k { servers = servers.ticks k.servers n.num r }) cs ≡ world.ticks m (world_of m k cs) n.num r
      by role.Unit e = refl
      by role.Layout e = refl
      by role.Seqr e = ticks_same k cs n.num
      by role.Client e = absurd (e refl)
