-- Whatever a unit has is junk or a page of a token.
use Rattle.std.proofs.Common.{◌≡◌, ◌⊎◌, ℕ, ◌<◌, List, [], length, refl, subst, inl, inr, Some}
use Rattle.std.specs.Prelude.{slice_index_or}
use Rattle.tg_base.specs.Clusters.{Header}
use Rattle.tg_base.specs.declared.cell.Cell.{Cell}
use Rattle.tg_base.specs.declared.cell.Cell.TheVariants.{Data}
use Rattle.tg_base.specs.declared.ids.Role.TheVariants as role
use Rattle.tg_base.specs.declared.msg.Msg.{Msg}
use Rattle.tg_base.specs.declared.msg.Msg.TheVariants as msg
use Rattle.tg_base.specs.declared.packet.Packet.{Packet}
use Rattle.tg_kind.specs.Meaning.{Meaning}
use Rattle.tg_protocol.specs.Words.{unit_id, cell_at}
use Rattle.tg_protocol.specs.Units.{UnitState, new_unit, unit_ask}
use Rattle.tg_protocol.specs.Worlds.{start}
use Rattle.tg_protocol.specs.Runs.{Moves, Always}
use Rattle.tg_law_layouts.specs.Moves.After.{after}
use Rattle.tg_law_layouts.specs.Moves.Configs.{Config, config, unit_in}
use Rattle.tg_law_layouts.specs.Moves.Telling.{claimed}
use Rattle.tg_law_layouts.proofs.Moves.Always.{always}
use Rattle.tg_law_layouts.proofs.Moves.Members.{Has, has_left}
use Rattle.tg_law_layouts.proofs.Moves.Lists.{at_set, at_replicate}
use Rattle.tg_law_layouts.proofs.Moves.Units.{unit_stores}
use Rattle.tg_law_layouts.proofs.Moves.Moves.{Cases, Comes, Keeps, unit_turn, cases_map, keeps_above, run_keeps}
use Rattle.tg_law_layouts.proofs.Moves.Growth.{IsCalm, by_unit}
use Rattle.tg_law_layouts.proofs.Requests.Answered.{turn_on}
use Rattle.tg_law_cells.specs.Tokens.Issuing.{IsOfToken, UnitPagesOwn}
use Rattle.tg_law_cells.proofs.Tokens.Owning.{OwnCell}
use Rattle.tg_law_cells.proofs.Tokens.Issues.{start_low}
use Rattle.tg_law_cells.proofs.Tokens.Sent.{Justified, own_grows}
use Rattle.tg_law_cells.proofs.Tokens.Pages.{Pages, own_stored}
use Rattle.tg_law_cells.proofs.Tokens.Own.{Base, low_of, keeps, start_pages, pages_hold, own_page}
use Rattle.tg_law_cells.proofs.Cells.Owned.{start_owned}

module _ (m : Meaning) where
  pub record Held (c : Config m) : Type 0 where
    pub cells : (u p : ℕ) (x : Cell) → cell_at (unit_in m c u).cells p ≡ Some x → OwnCell c.packets p x

  pub cell_grows : (ps qs : List Packet) → ((x : Packet) → Has ps x → Has qs x) → (p : ℕ) (c : Cell) → OwnCell ps p c → OwnCell qs p c
  cell_grows ps qs more p c k = own_grows ps qs more (unit_id 0) p c k

  calm : (c : Config m) → Held c → IsCalm m role.Unit c Held
  calm c h d q = record { cells = λ u p x i. cell_grows c.packets d.packets q.grows.sent p x (h.cells u p x (subst (λ us. cell_at (slice_index_or us u new_unit).cells p ≡ Some x) (q.units refl) i)) }

  module _ (c : Config m) (low : Base m c × Pages m c) (h : Held c) (u : ℕ) (p : Packet) (comes : Comes m c p (unit_id u)) (less : u < length c.units) where
    grown : (q : ℕ) (x : Cell) → OwnCell c.packets q x → OwnCell (unit_turn m c u p (turn_on m c u p)).packets q x
    grown q x k = cell_grows c.packets _ (λ y g. has_left c.packets _ y g) q x k

    here : (q : ℕ) (x : Cell) → cell_at (turn_on m c u p).now.cells q ≡ Some x → OwnCell (unit_turn m c u p (turn_on m c u p)).packets q x
    here q x i = by (unit_stores (unit_in m c u) p.msg q x i)
      where
        by : (cell_at (unit_in m c u).cells q ≡ Some x) ⊎ (((turn_on m c u p).says ≡ Some msg.Held) × (claimed (unit_ask p.msg) msg.Held ≡ Some (record { epoch = (turn_on m c u p).now.epoch; pos = q; cell = x }))) → OwnCell (unit_turn m c u p (turn_on m c u p)).packets q x
        by (inl e) = grown q x (h.cells u q x e)
        by (inr e) = grown q x (own_stored m c (low_of m c low.0) low.1 p p.msg (record { epoch = (turn_on m c u p).now.epoch; pos = q; cell = x }) refl comes.sent (low.1.sent p comes.sent) e.1)

    held : Held (unit_turn m c u p (turn_on m c u p))
    held = record {
      cells = at_set c.units u (turn_on m c u p).now (λ v. new_unit) (λ v t. (q : ℕ) (x : Cell) → cell_at t.cells q ≡ Some x → OwnCell (unit_turn m c u p (turn_on m c u p)).packets q x) less here (λ v other q x i. grown q x (h.cells v q x i));
    }

  held_keep : (c : Config m) → Base m c × Pages m c → Held c → Cases m c Held
  held_keep c low h = by_unit m Held c h (calm c h) (λ u p a less. held c low h u p a less)

  start_held : (g : Header) → Held (config m (start m g))
  unfolding start new_unit
  start_held g = record { cells = λ u. at_replicate g.units new_unit u new_unit (λ (t : UnitState). (p : ℕ) (x : Cell) → cell_at t.cells p ≡ Some x → OwnCell [] p x) (λ p x i. absurd (cc)) (λ p x i. absurd (cc)) }

  all_keep : Keeps m (λ c. (Base m c × Pages m c) × Held c)
  all_keep = keeps_above m (λ c. Base m c × Pages m c) Held (keeps m) (λ c low h. cases_map m c Held (λ d. Base m d × Pages m d → Held d) (λ d x y. x) (held_keep c low h))

  pub held_hold : (h : Header) (xs : Moves m) → Held (config m (after m h xs))
  held_hold h xs = (run_keeps m (λ c. (Base m c × Pages m c) × Held c) all_keep xs (start m h) (((start_low m h, start_owned m h), start_pages m h), start_held h)).1

  -- a page that was sent is its sender's own
  pub of_token : (h : Header) (xs : Moves m) (p : ℕ) (d : List ℕ) → OwnCell (after m h xs).packets p (Data d) → IsOfToken m (after m h xs) p d
  of_token h xs p d k = record {
    node = k.packet.from;
    epoch = k.epoch;
    own = own_page m (after m h xs) k.packet.from k.epoch p d (subst (λ (y : Msg). Justified (after m h xs).packets k.packet.from k.packet.to y) k.is ((pages_hold m h xs).sent k.packet k.sent));
  }

  units_own : (h : Header) (xs : Moves m) → UnitPagesOwn m (after m h xs)
  units_own h xs u p d i = of_token h xs p d ((held_hold h xs).cells u p (Data d) i)

  pub units_hold_own_pages : Always m (UnitPagesOwn m)
  units_hold_own_pages = always m (UnitPagesOwn m) units_own
