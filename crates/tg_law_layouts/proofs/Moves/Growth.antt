-- What each step keeps: packets stay sent, and units don't fall back.
use Rattle.std.proofs.Common.{◌≡◌, ◌≢◌, ◌⊎◌, ℕ, ◌<◌, List, ◌++◌, map, length, refl, sym, ap, ◌∙◌, subst, inl, inr, Some, None, Option}
use Rattle.std.specs.Prelude.{slice_index_or}
use Rattle.tg_base.specs.declared.ids.NodeId.{NodeId}
use Rattle.tg_base.specs.declared.ids.Role.{Role}
use Rattle.tg_base.specs.declared.ids.Role.TheVariants as role
use Rattle.tg_base.specs.declared.msg.Msg.{Msg}
use Rattle.tg_base.specs.declared.packet.Out.{Out}
use Rattle.tg_base.specs.declared.packet.Packet.{Packet}
use Rattle.tg_kind.specs.Meaning.{Meaning}
use Rattle.tg_protocol.specs.Words.{unit_id, layout_id, seqr_id, client_id}
use Rattle.tg_protocol.specs.Units.{new_unit, unit_step}
use Rattle.tg_protocol.specs.LayoutServers.{LayoutTurn, layout_step}
use Rattle.tg_protocol.specs.Sequencers.{SeqrTurn}
use Rattle.tg_protocol.specs.ClientSteps.{ClientTurn}
use Rattle.tg_protocol.specs.Worlds.{packet_of, answer_to}
use Rattle.tg_law_layouts.proofs.Moves.Members.{Has, has_left, has_either, has_map}
use Rattle.tg_law_layouts.specs.Moves.Configs.{Config, unit_in, layout_in}
use Rattle.tg_law_layouts.proofs.Moves.Lists.{at_set}
use Rattle.tg_law_layouts.proofs.Moves.Units.{UnitGrows, unit_same, unit_grows}
use Rattle.tg_law_layouts.proofs.Moves.Moves.{Cases, Comes, unit_turn, layout_turn, seqr_turn, client_turn, SeqrInput, ClientInput}

module _ (m : Meaning) where
  -- What no step takes back.
  pub record Grows (c d : Config m) : Type 0 where
    pub sent : (q : Packet) → Has c.packets q → Has d.packets q
    pub unit : (u : ℕ) → UnitGrows (unit_in m c u) (unit_in m d u)

  -- nothing of a role's nodes has changed, and they have sent nothing
  pub record Quiet (r : Role) (c d : Config m) : Type 0 where
    pub grows : Grows c d
    pub old : (q : Packet) → Has d.packets q → q.from.role ≡ r → Has c.packets q
    pub cluster : d.cluster ≡ c.cluster
    pub units : r ≡ role.Unit → d.units ≡ c.units
    pub layouts : r ≡ role.Layout → d.layouts ≡ c.layouts
    pub seqrs : r ≡ role.Seqr → d.seqrs ≡ c.seqrs
    pub clients : r ≡ role.Client → d.clients ≡ c.clients

  -- Who sent a new packet.

  pub answer_from : (p : Packet) (o : Option Msg) (q : Packet) → Has (answer_to m p o) q → q.from ≡ p.to
  answer_from p None q h = absurd h
  answer_from p (Some x) q (inl e) = ap (λ (z : Packet). z.from) e
  answer_from p (Some x) q (inr h) = absurd h

  pub outs_from : (n : NodeId) (os : List Out) (q : Packet) → Has (map (packet_of m n) os) q → q.from ≡ n
  outs_from n os q h = let i = has_map (packet_of m n) os q h in ap (λ (z : Packet). z.from) i.is

  -- packets of a node of another role
  others : (ps new : List Packet) (r : Role) (n : NodeId) → n.role ≢ r → ((q : Packet) → Has new q → q.from ≡ n) → (q : Packet) → Has (ps ++ new) q → q.from.role ≡ r → Has ps q
  others ps new r n other from q h is = by (has_either ps new q h)
    where
      by : Has ps q ⊎ Has new q → Has ps q
      by (inl x) = x
      by (inr x) = absurd (other (sym (ap (λ (z : NodeId). z.role) (from q x)) ∙ is))

  grows_by : (c d : Config m) (new : List Packet) → d.packets ≡ c.packets ++ new → d.units ≡ c.units → Grows c d
  grows_by c d new e f = record {
    sent = λ q h. subst (λ ps. Has ps q) (sym e) (has_left c.packets new q h);
    unit = λ u. subst (λ us. UnitGrows (unit_in m c u) (slice_index_or us u new_unit)) (sym f) (unit_same _);
  }

  -- The moves.

  pub unit_turn_grows : (c : Config m) (u : ℕ) (p : Packet) → u < length c.units → Grows c (unit_turn m c u p (unit_step (unit_in m c u) p.msg))
  unit_turn_grows c u p less = record {
    sent = λ q h. has_left c.packets _ q h;
    unit = at_set c.units u _ (λ v. new_unit) (λ v t. UnitGrows (unit_in m c v) t) less (unit_grows (unit_in m c u) p.msg) (λ v other. unit_same _);
  }

  layout_turn_grows : (c : Config m) (l : ℕ) (p : Packet) (t : LayoutTurn) → Grows c (layout_turn m c l p t)
  layout_turn_grows c l p t = grows_by c _ _ refl refl

  seqr_turn_grows : (c : Config m) (s : ℕ) (t : SeqrTurn) → Grows c (seqr_turn m c s t)
  seqr_turn_grows c s t = grows_by c _ _ refl refl

  client_turn_grows : (c : Config m) (k : ℕ) (t : ClientTurn m) → Grows c (client_turn m c k t)
  client_turn_grows c k t = grows_by c _ _ refl refl

  -- The moves of other roles.

  no : {X : Type 0} → {a b : Role} → a ≢ b → b ≡ a → X
  no f e = absurd (f (sym e))

  pub unit_quiet : (r : Role) → role.Unit ≢ r → (c : Config m) (u : ℕ) (p : Packet) → Comes m c p (unit_id u) → u < length c.units
      → Quiet r c (unit_turn m c u p (unit_step (unit_in m c u) p.msg))
  unit_quiet r other c u p a less = record {
    grows = unit_turn_grows c u p less;
    old = others c.packets _ r (unit_id u) other (λ q h. answer_from p _ q h ∙ a.to_node);
    cluster = refl;
    units = no other;
    layouts = λ e. refl;
    seqrs = λ e. refl;
    clients = λ e. refl;
  }

  pub layout_quiet : (r : Role) → role.Layout ≢ r → (c : Config m) (l : ℕ) (p : Packet) (t : LayoutTurn) → Comes m c p (layout_id l) → Quiet r c (layout_turn m c l p t)
  layout_quiet r other c l p t a = record {
    grows = layout_turn_grows c l p t;
    old = others c.packets _ r (layout_id l) other (λ q h. answer_from p _ q h ∙ a.to_node);
    cluster = refl;
    units = λ e. refl;
    layouts = no other;
    seqrs = λ e. refl;
    clients = λ e. refl;
  }

  pub seqr_quiet : (r : Role) → role.Seqr ≢ r → (c : Config m) (s : ℕ) (t : SeqrTurn) → Quiet r c (seqr_turn m c s t)
  seqr_quiet r other c s t = record {
    grows = seqr_turn_grows c s t;
    old = others c.packets _ r (seqr_id s) other (λ q h. outs_from (seqr_id s) t.sends q h);
    cluster = refl;
    units = λ e. refl;
    layouts = λ e. refl;
    seqrs = no other;
    clients = λ e. refl;
  }

  pub client_quiet : (r : Role) → role.Client ≢ r → (c : Config m) (k : ℕ) (t : ClientTurn m) → Quiet r c (client_turn m c k t)
  client_quiet r other c k t = record {
    grows = client_turn_grows c k t;
    old = others c.packets _ r (client_id k) other (λ q h. outs_from (client_id k) t.sends q h);
    cluster = refl;
    units = λ e. refl;
    layouts = λ e. refl;
    seqrs = λ e. refl;
    clients = no other;
  }

  -- For a fact of one role alone: its own move, and that the fact is kept where that role is quiet.

  abbrev pub IsCalm : Role → Config m → (Config m → Type 0) → Type 0
  IsCalm r c P = (d : Config m) → Quiet r c d → P d

  pub by_unit : (P : Config m → Type 0) (c : Config m) → P c → IsCalm role.Unit c P
      → ((u : ℕ) (p : Packet) → Comes m c p (unit_id u) → u < length c.units → P (unit_turn m c u p (unit_step (unit_in m c u) p.msg))) → Cases m c P
  by_unit P c h calm own = record {
    idle = h;
    unit = own;
    layout = λ l p a less. calm _ (layout_quiet role.Unit (λ e. cc) c l p _ a);
    seqr = λ s t i less. calm _ (seqr_quiet role.Unit (λ e. cc) c s t);
    client = λ k t i less. calm _ (client_quiet role.Unit (λ e. cc) c k t);
  }

  pub by_layout : (P : Config m → Type 0) (c : Config m) → P c → IsCalm role.Layout c P
      → ((l : ℕ) (p : Packet) → Comes m c p (layout_id l) → l < length c.layouts → P (layout_turn m c l p (layout_step (layout_in m c l) p.msg))) → Cases m c P
  by_layout P c h calm own = record {
    idle = h;
    unit = λ u p a less. calm _ (unit_quiet role.Layout (λ e. cc) c u p a less);
    layout = own;
    seqr = λ s t i less. calm _ (seqr_quiet role.Layout (λ e. cc) c s t);
    client = λ k t i less. calm _ (client_quiet role.Layout (λ e. cc) c k t);
  }

  pub by_seqr : (P : Config m → Type 0) (c : Config m) → P c → IsCalm role.Seqr c P
      → ((s : ℕ) (t : SeqrTurn) → SeqrInput m c s t → s < length c.seqrs → P (seqr_turn m c s t)) → Cases m c P
  by_seqr P c h calm own = record {
    idle = h;
    unit = λ u p a less. calm _ (unit_quiet role.Seqr (λ e. cc) c u p a less);
    layout = λ l p a less. calm _ (layout_quiet role.Seqr (λ e. cc) c l p _ a);
    seqr = own;
    client = λ k t i less. calm _ (client_quiet role.Seqr (λ e. cc) c k t);
  }

  pub by_client : (P : Config m → Type 0) (c : Config m) → P c → IsCalm role.Client c P
      → ((k : ℕ) (t : ClientTurn m) → ClientInput m c k t → k < length c.clients → P (client_turn m c k t)) → Cases m c P
  by_client P c h calm own = record {
    idle = h;
    unit = λ u p a less. calm _ (unit_quiet role.Client (λ e. cc) c u p a less);
    layout = λ l p a less. calm _ (layout_quiet role.Client (λ e. cc) c l p _ a);
    seqr = λ s t i less. calm _ (seqr_quiet role.Client (λ e. cc) c s t);
    client = own;
  }

  pub every_move_grows : (c : Config m) → Cases m c (Grows c)
  every_move_grows c = record {
    idle = record { sent = λ q h. h; unit = λ u. unit_same _ };
    unit = λ u p a less. unit_turn_grows c u p less;
    layout = λ l p a less. layout_turn_grows c l p _;
    seqr = λ s t i less. seqr_turn_grows c s t;
    client = λ k t i less. client_turn_grows c k t;
  }
