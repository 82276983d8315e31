-- Pages are sent by clients alone.
use Rattle.std.proofs.Common.{◌≡◌, ◌⊎◌, ℕ, List, map, true, false, refl, sym, ap, ◌∙◌, inl, inr}
use Rattle.tg_base.specs.Clusters.{Header}
use Rattle.tg_base.specs.declared.ids.NodeId.{NodeId}
use Rattle.tg_base.specs.declared.ids.Oid.{Oid}
use Rattle.tg_base.specs.declared.ids.Role.{Role}
use Rattle.tg_base.specs.declared.ids.Role.TheVariants as role
use Rattle.tg_base.specs.declared.msg.Msg.TheVariants as msg
use Rattle.tg_base.specs.declared.packet.Packet.{Packet}
use Rattle.tg_kind.specs.Meaning.{Meaning}
use Rattle.tg_protocol.specs.Words.{client_id, seqr_id}
use Rattle.tg_protocol.specs.Sequencers.{SeqrTurn}
use Rattle.tg_protocol.specs.Worlds.{start, packet_of}
use Rattle.tg_protocol.specs.Runs.{Moves}
use Rattle.tg_law_layouts.specs.Moves.After.{after}
use Rattle.tg_law_layouts.specs.Moves.Configs.{Config, config}
use Rattle.tg_law_layouts.specs.Moves.Telling.{is_request}
use Rattle.tg_law_layouts.proofs.Moves.Members.{Has, has_either, has_map}
use Rattle.tg_law_layouts.proofs.Moves.Moves.{Cases, Keeps, SeqrInput, seqr_turn, cases_map, keeps_above, run_keeps}
use Rattle.tg_law_layouts.proofs.Moves.Growth.{IsCalm, by_seqr}
use Rattle.tg_law_layouts.proofs.Requests.Numbers.{seqr_input_draws}
use Rattle.tg_law_cells.proofs.Tokens.Issues.{start_low, token_asks}
use Rattle.tg_law_cells.proofs.Tokens.Pages.{Pages, seqr_puts}
use Rattle.tg_law_cells.proofs.Tokens.Own.{Base, low_of, keeps, start_pages, both_hold}
use Rattle.tg_law_cells.proofs.Cells.Owned.{start_owned}
use Rattle.tg_law_walks.proofs.Drafts.Tokens.{scan_none}

module _ (m : Meaning) where
  pub record Silent (c : Config m) : Type 0 where
    pub none : (x : Packet) → Has c.packets x → x.from.role ≡ role.Seqr → (e pos : ℕ) (d : List ℕ) → x.msg ≡ msg.Write e pos d → ⊥
    pub tokens : (x : Packet) → Has c.packets x → x.from.role ≡ role.Seqr → (e : ℕ) (os : List Oid) → x.msg ≡ msg.Token e os → ⊥

  calm : (c : Config m) → Silent c → IsCalm m role.Seqr c Silent
  calm c h d q = record { none = λ x g from. h.none x (q.old x g from) from; tokens = λ x g from. h.tokens x (q.old x g from) from }

  own : (c : Config m) → Base m c × Pages m c → Silent c → (s : ℕ) (t : SeqrTurn) → SeqrInput m c s t → Silent (seqr_turn m c s t)
  own c low h s t i = record {
    none = λ x g from e pos d is. by x from e pos d is (has_either c.packets (map (packet_of m (seqr_id s)) t.sends) x g);
    tokens = λ x g from e os is. token x from e os is (has_either c.packets (map (packet_of m (seqr_id s)) t.sends) x g);
  }
    where
      token : (x : Packet) → x.from.role ≡ role.Seqr → (e : ℕ) (os : List Oid) → x.msg ≡ msg.Token e os → Has c.packets x ⊎ Has (map (packet_of m (seqr_id s)) t.sends) x → ⊥
      token x from e os is (inl g) = h.tokens x g from e os is
      token x from e os is (inr g) =
          let o = has_map (packet_of m (seqr_id s)) t.sends x g in
          let at = sym (ap (λ (y : Packet). y.msg) o.is) ∙ is in
          scan_none e os t.now.scan o.of ((seqr_input_draws m c s t i).sent o.of o.has (token_asks o.of.msg e os at)) at

      by : (x : Packet) → x.from.role ≡ role.Seqr → (e pos : ℕ) (d : List ℕ) → x.msg ≡ msg.Write e pos d → Has c.packets x ⊎ Has (map (packet_of m (seqr_id s)) t.sends) x → ⊥
      by x from e pos d is (inl g) = h.none x g from e pos d is
      by x from e pos d is (inr g) = let o = has_map (packet_of m (seqr_id s)) t.sends x g in seqr_puts m c (low_of m c low.0) low.1 s t i o.of o.has e pos d (sym (ap (λ (y : Packet). y.msg) o.is) ∙ is)

  silent_keep : (c : Config m) → Base m c × Pages m c → Silent c → Cases m c Silent
  silent_keep c low h = by_seqr m Silent c h (calm c h) (λ s t i less. own c low h s t i)

  start_silent : (g : Header) → Silent (config m (start m g))
  unfolding start
  start_silent g = record { none = λ x i. absurd i; tokens = λ x i. absurd i }

  all_keep : Keeps m (λ c. (Base m c × Pages m c) × Silent c)
  all_keep = keeps_above m (λ c. Base m c × Pages m c) Silent (keeps m) (λ c low h. cases_map m c Silent (λ d. Base m d × Pages m d → Silent d) (λ d x y. x) (silent_keep c low h))

  pub silent : (h : Header) (xs : Moves m) → Silent (config m (after m h xs))
  silent h xs = (run_keeps m (λ c. (Base m c × Pages m c) × Silent c) all_keep xs (start m h) (((start_low m h, start_owned m h), start_pages m h), start_silent h)).1

  client_of : (n : NodeId) → n.role ≡ role.Client → n ≡ client_id n.num
  client_of n e = λ i. record { role = e i; num = n.num }

  pub sender : (h : Header) (xs : Moves m) (x : Packet) → Has (after m h xs).packets x → (e pos : ℕ) (d : List ℕ) → x.msg ≡ msg.Write e pos d → x.from ≡ client_id x.from.num
  unfolding is_request
  sender h xs x g e pos d is = by x.from.role refl
    where
      asks : is_request x.msg ≡ true
      asks = ap is_request is

      no : {X : Type 0} → is_request x.msg ≡ false → X
      no f = absurd (contrary (sym asks ∙ f))
        where
          contrary : true ≡ false → ⊥
          contrary z = cc

      by : (r : Role) → x.from.role ≡ r → x.from ≡ client_id x.from.num
      by role.Client from = client_of x.from from
      by role.Seqr from = absurd ((silent h xs).none x g from e pos d is)
      by role.Unit from = no ((low_of m (config m (after m h xs)) (both_hold m h xs).0).all.0.0.units x g from)
      by role.Layout from = no ((low_of m (config m (after m h xs)) (both_hold m h xs).0).all.0.0.layouts x g from)
