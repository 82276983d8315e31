-- A server's turn, put together from its parts.
use Rattle.std.specs.Prelude.{◌≡◌, ℕ, zero, suc, ◌+◌, nat_lt, List, [], ◌∷◌, map, replicate, slice_set, slice_get, slice_index_or, Option, Some, None, Result, true, IfOk}
use Rattle.std.proofs.Common.{sym, ap, subst, ◌∙◌}
use Rattle.tg_base.specs.Clusters.{Header}
use Rattle.tg_base.specs.Layouts.{Layout}
use Rattle.tg_base.specs.declared.fault.NoMemory.{NoMemory}
use Rattle.tg_base.specs.declared.ids.NodeId.{NodeId}
use Rattle.tg_base.specs.declared.ids.Role.{Role}
use Rattle.tg_base.specs.declared.msg.Msg.{Msg}
use Rattle.tg_base.specs.declared.packet.Out.{Out}
use Rattle.tg_base.specs.declared.packet.Packet.{Packet}
use Rattle.tg_protocol.specs.Words.{numbers, seqr_id}
use Rattle.tg_protocol.specs.Layouts.{first_layout}
use Rattle.tg_protocol.specs.Units.{UnitState, new_unit, unit_step}
use Rattle.tg_protocol.specs.LayoutServers.{LayoutState, new_layout, layout_step}
use Rattle.tg_protocol.specs.Sequencers.{SeqrState, new_seqr, seqr_step, seqr_tick}
use Rattle.tg_protocol.specs.Logs.{Log}
use Rattle.tg_world_servers.specs.Posts.{PostState, new_post, posted, packet_from, answer_from}
use Rattle.tg_world_servers.specs.Servers.{ServersState, servers_start, unit_at, layout_at, seqr_at, latest, archive_by, runs, receiver_of, counted, takes, taken, unit_takes, layout_takes, seqr_takes, seqr_ticks}

module _ (s : ServersState) (p : Packet) where
  pub unit_taken : (us : List UnitState) (archive : Log) (says : Option Msg) (post : PostState)
      → us ≡ slice_set s.units p.to.num (unit_step (unit_at s p.to.num) p.msg).now
      → archive ≡ archive_by (latest s) s.units s.archive (unit_at s p.to.num) (unit_step (unit_at s p.to.num) p.msg).now.low (nat_lt (unit_at s p.to.num).low (unit_step (unit_at s p.to.num) p.msg).now.low)
      → says ≡ (unit_step (unit_at s p.to.num) p.msg).says
      → post ≡ posted s.post (answer_from p.to p.from p.rid says)
      → ◌≡◌ {A = ServersState} (record s { units = us; post = post; archive = archive; steps = s.steps + 1 }) (counted (unit_takes s p))
  unfolding unit_takes
  unit_taken us archive says post e f g h =
      λ i. record s { units = e i; post = (h ∙ ap (λ (x : Option Msg). posted s.post (answer_from p.to p.from p.rid x)) g) i; archive = f i; steps = s.steps + 1 }

  pub layout_taken : (ls : List LayoutState) (says : Option Msg) (post : PostState)
      → ls ≡ slice_set s.layouts p.to.num (layout_step (layout_at s p.to.num) p.msg).now
      → says ≡ (layout_step (layout_at s p.to.num) p.msg).says
      → post ≡ posted s.post (answer_from p.to p.from p.rid says)
      → ◌≡◌ {A = ServersState} (record s { layouts = ls; post = post; steps = s.steps + 1 }) (counted (layout_takes s p))
  unfolding layout_takes
  layout_taken ls says post e g h =
      λ i. record s { layouts = e i; post = (h ∙ ap (λ (x : Option Msg). posted s.post (answer_from p.to p.from p.rid x)) g) i; steps = s.steps + 1 }

  pub seqr_taken : (ss : List SeqrState) (outs : List Out) (post : PostState)
      → ss ≡ slice_set s.seqrs p.to.num (seqr_step (seqr_at s p.to.num) p.from p.rid p.msg).now
      → outs ≡ (seqr_step (seqr_at s p.to.num) p.from p.rid p.msg).sends
      → post ≡ posted s.post (map (packet_from (seqr_id p.to.num)) outs)
      → ◌≡◌ {A = ServersState} (record s { seqrs = ss; post = post; steps = s.steps + 1 }) (counted (seqr_takes s p))
  unfolding seqr_takes
  seqr_taken ss outs post e g h =
      λ i. record s { seqrs = e i; post = (h ∙ ap (λ (x : List Out). posted s.post (map (packet_from (seqr_id p.to.num)) x)) g) i; steps = s.steps + 1 }

pub seqr_ticked : (s : ServersState) (n : ℕ) (ss : List SeqrState) (outs : List Out) (post : PostState)
    → ss ≡ slice_set s.seqrs n (seqr_tick (seqr_at s n)).now
    → outs ≡ (seqr_tick (seqr_at s n)).sends
    → post ≡ posted s.post (map (packet_from (seqr_id n)) outs)
    → ◌≡◌ {A = ServersState} (record s { seqrs = ss; post = post; steps = s.steps + 1 }) (counted (seqr_ticks s n))
unfolding seqr_ticks
seqr_ticked s n ss outs post e g h =
    λ i. record s { seqrs = e i; post = (h ∙ ap (λ (x : List Out). posted s.post (map (packet_from (seqr_id n)) x)) g) i; steps = s.steps + 1 }

-- ---- the packet that was found

got : {X : Type 0} (xs : List X) (n : ℕ) (d p : X) → slice_get xs n ≡ Some p → slice_index_or xs n d ≡ p
got [] n d p h = let e : None ≡ Some p = h in absurd cc
got (x ∷ xs) zero d p h = let e : Some x ≡ Some p = h in cc
got (x ∷ xs) (suc n) d p h = got xs n d p h

pub packet_got : (xs ys : List Packet) (n : ℕ) (q p : Packet) → xs ≡ ys → slice_get ys n ≡ Some p → q ≡ slice_index_or xs n q → q ≡ p
packet_got xs ys n q p e h is = is ∙ ap (λ (l : List Packet). slice_index_or l n q) e ∙ got ys n q p h

-- ---- turns by the packet that was found

module _ (s : ServersState) (p q : Packet) (num : ℕ) (found : q ≡ p) (to : p.to.num ≡ num) where
  pub unit_took : (layout : Layout) (xs us : List UnitState) (archive : Log) (says : Option Msg) (post : PostState) → layout ≡ latest s → xs ≡ s.units
      → ((d : UnitState) → us ≡ slice_set s.units num (unit_step (slice_index_or s.units num d) q.msg).now)
      → ((d : UnitState) → archive ≡ archive_by layout xs s.archive (slice_index_or xs num d) (unit_step (slice_index_or xs num d) q.msg).now.low (nat_lt (slice_index_or xs num d).low (unit_step (slice_index_or xs num d) q.msg).now.low))
      → ((d : UnitState) → says ≡ (unit_step (slice_index_or s.units num d) q.msg).says)
      → post ≡ posted s.post (answer_from q.to q.from q.rid says)
      → ◌≡◌ {A = ServersState} (record s { units = us; post = post; archive = archive; steps = s.steps + 1 }) (counted (unit_takes s p))
  unit_took layout xs us archive says post l u e f g h =
      let at : num ≡ p.to.num = sym to in
      unit_taken s p us archive says post
      (e new_unit ∙ (λ i. slice_set s.units (at i) (unit_step (slice_index_or s.units (at i) new_unit) (found i).msg).now))
      (f new_unit ∙ (λ i. archive_by (l i) (u i) s.archive (slice_index_or (u i) (at i) new_unit) (unit_step (slice_index_or (u i) (at i) new_unit) (found i).msg).now.low (nat_lt (slice_index_or (u i) (at i) new_unit).low (unit_step (slice_index_or (u i) (at i) new_unit) (found i).msg).now.low)))
      (g new_unit ∙ (λ i. (unit_step (slice_index_or s.units (at i) new_unit) (found i).msg).says))
      (h ∙ (λ i. posted s.post (answer_from (found i).to (found i).from (found i).rid says)))

  pub layout_took : (ls : List LayoutState) (says : Option Msg) (post : PostState)
      → ((d : LayoutState) → ls ≡ slice_set s.layouts num (layout_step (slice_index_or s.layouts num d) q.msg).now)
      → ((d : LayoutState) → says ≡ (layout_step (slice_index_or s.layouts num d) q.msg).says)
      → post ≡ posted s.post (answer_from q.to q.from q.rid says)
      → ◌≡◌ {A = ServersState} (record s { layouts = ls; post = post; steps = s.steps + 1 }) (counted (layout_takes s p))
  layout_took ls says post e g h =
      let at : num ≡ p.to.num = sym to in
      let d : LayoutState = new_layout (first_layout s.cluster) in
      layout_taken s p ls says post
      (e d ∙ (λ i. slice_set s.layouts (at i) (layout_step (slice_index_or s.layouts (at i) d) (found i).msg).now))
      (g d ∙ (λ i. (layout_step (slice_index_or s.layouts (at i) d) (found i).msg).says))
      (h ∙ (λ i. posted s.post (answer_from (found i).to (found i).from (found i).rid says)))

  pub seqr_took : (ss : List SeqrState) (outs : List Out) (from : NodeId) (post : PostState)
      → ((d : SeqrState) → ss ≡ slice_set s.seqrs num (seqr_step (slice_index_or s.seqrs num d) q.from q.rid q.msg).now)
      → ((d : SeqrState) → outs ≡ (seqr_step (slice_index_or s.seqrs num d) q.from q.rid q.msg).sends)
      → from ≡ seqr_id num
      → post ≡ posted s.post (map (packet_from from) outs)
      → ◌≡◌ {A = ServersState} (record s { seqrs = ss; post = post; steps = s.steps + 1 }) (counted (seqr_takes s p))
  seqr_took ss outs from post e g f h =
      let at : num ≡ p.to.num = sym to in
      let d : SeqrState = new_seqr p.to.num s.cluster.limit (first_layout s.cluster) in
      seqr_taken s p ss outs post
      (e d ∙ (λ i. slice_set s.seqrs (at i) (seqr_step (slice_index_or s.seqrs (at i) d) (found i).from (found i).rid (found i).msg).now))
      (g d ∙ (λ i. (seqr_step (slice_index_or s.seqrs (at i) d) (found i).from (found i).rid (found i).msg).sends))
      (h ∙ ap (λ (n : NodeId). posted s.post (map (packet_from n) outs)) (f ∙ ap seqr_id at))

-- ---- servers before their first step
pub started : (h k : Header) (us : List UnitState) (ls : List LayoutState) (ss : List SeqrState) (q : Layout) (stopped : List NodeId) (post : PostState) (archive : Log) → k ≡ h → q ≡ first_layout h
    → us ≡ replicate h.units new_unit → ls ≡ replicate h.layouts (new_layout q) → ss ≡ map (λ n. new_seqr n h.limit q) (numbers h.seqs 0) → stopped ≡ [] → post ≡ new_post → archive ≡ []
    → ◌≡◌ {A = ServersState} (record { cluster = k; units = us; layouts = ls; seqrs = ss; stopped = stopped; post = post; archive = archive; steps = 0 }) (servers_start h)
unfolding servers_start
started h k us ls ss q stopped post archive hk hq hu hl hs ht hp ha =
    λ i. record {
      cluster = hk i;
      units = hu i;
      layouts = (hl ∙ ap (λ (x : Layout). replicate h.layouts (new_layout x)) hq) i;
      seqrs = (hs ∙ ap (λ (x : Layout). map (λ n. new_seqr n h.limit x) (numbers h.seqs 0)) hq) i;
      stopped = ht i;
      post = hp i;
      archive = ha i;
      steps = 0;
    }

-- ---- the server that a packet names

pub receiver_is : (found : Option Packet) (n : NodeId) (p : Packet) → receiver_of found ≡ Some n → found ≡ Some p → p.to ≡ n
receiver_is found n p r at = let e : Some p.to ≡ Some n = sym (ap receiver_of at) ∙ r in cc

pub taken_there : (s : ServersState) (p : Packet) (n : NodeId) → p.to ≡ n → runs s n ≡ true → takes s p n.role ≡ taken (runs s p.to) s p
taken_there s p n e h = (λ i. takes s p (sym e i).role) ∙ ap (λ b. taken b s p) (sym (ap (runs s) e ∙ h))

pub as_role : (r : Result ServersState NoMemory) (s : ServersState) (p : Packet) (a b : Role) → b ≡ a → IfOk r (λ x. x ≡ counted (takes s p a)) → IfOk r (λ x. x ≡ counted (takes s p b))
as_role r s p a b e h = subst (λ (k : Role). IfOk r (λ x. x ≡ counted (takes s p k))) (sym e) h
