-- What a step does to the archive, and to where units have trimmed.
use Rattle.std.proofs.Common.{◌≡◌, ◌⊎◌, ℕ, ◌<◌, ◌≤◌, List, [], ◌∷◌, length, Bool, true, false, refl, sym, ap, ◌∙◌, inl, inr, arith, Option, Some, None, cond, eqb}
use Rattle.std.specs.Prelude.{slice_get, slice_set, slice_index_or, nat_lt, is_some, if◌then◌else◌, max, ◌==◌}
use Rattle.tg_base.specs.declared.cell.Cell.{Cell}
use Rattle.tg_base.specs.declared.ids.NodeId.{NodeId}
use Rattle.tg_base.specs.declared.ids.Role.{Role}
use Rattle.tg_base.specs.declared.ids.Role.TheVariants as role
use Rattle.tg_base.specs.declared.msg.Msg.{Msg}
use Rattle.tg_base.specs.declared.msg.Msg.TheVariants as msg
use Rattle.tg_base.specs.declared.packet.Packet.{Packet}
use Rattle.tg_kind.specs.Meaning.{Meaning}
use Rattle.tg_model.specs.Kinds.{CommandOf, EventOf}
use Rattle.tg_model.specs.declared.command.Event.TheVariants.{Command as Commands, Deliver, Lose, Tick, Stop}
use Rattle.tg_protocol.specs.Words.{cell_at, with_cell, client_id}
use Rattle.tg_protocol.specs.Units.{UnitState, UnitAsk, Reads, Stores, Fills, Looks, Seals, TrimsBelow, Nothing, new_unit, unit_ask, on_ask, unit_step}
use Rattle.tg_protocol.specs.Logs.{Log}
use Rattle.tg_protocol.specs.Clients.{Client}
use Rattle.tg_protocol.specs.Worlds.{World, unit, latest, log, count_of, archived, archive_after, unit_moves, layout_moves, seqr_moves, client_turned, moves, comes, handed, delivers, runs, noted_if, commands, ticks, ticks_if, stops_if, happens}
use Rattle.tg_law_layouts.proofs.Steps.Units.{cell_stored, low_rises}
use Rattle.tg_law_layouts.specs.Moves.Configs.{config, client_in}
use Rattle.tg_law_layouts.proofs.Moves.Lists.{at_set}
use Rattle.tg_law_layouts.proofs.Moves.Members.{Has, has_got}
use Rattle.tg_law_cells.proofs.Entries.Lists.{first_read, later_read}

-- A unit trims what it was asked to trim.

pub record AsksTrim (y : Msg) (p : ℕ) : Type 0 where
  pub epoch : ℕ
  pub below : ℕ
  pub is : y ≡ msg.Trim epoch below
  pub past : p < below

trims : UnitAsk → Bool
trims (TrimsBelow e b) = true
trims _ = false

same_low : (s : UnitState) (a : UnitAsk) → trims a ≡ false → (on_ask s a).now.low ≡ s.low
unfolding on_ask trims
same_low s a h = grind arith

low_or : (s : UnitState) (e b p : ℕ) → p < (on_ask s (TrimsBelow e b)).now.low → (p < s.low) ⊎ (p < b)
unfolding on_ask
low_or s e b p less = by (s.epoch == e) less
  where
    of_max : (x y : ℕ) → p < max x y → (p < x) ⊎ (p < y)
    of_max x y l = grind arith

    by : (c : Bool) → p < (Rattle.tg_protocol.specs.Units.in_epoch c s (Rattle.tg_protocol.specs.Units.on_trim s (max s.low b))).now.low → (p < s.low) ⊎ (p < b)
    by true l = of_max s.low b l
    by false l = inl l

is_trim : (y : Msg) (e b : ℕ) → unit_ask y ≡ TrimsBelow e b → y ≡ msg.Trim e b
unfolding unit_ask
is_trim y e b h = grind arith

low_asked : (s : UnitState) (y : Msg) (p : ℕ) → p < (unit_step s y).now.low → (p < s.low) ⊎ AsksTrim y p
unfolding unit_step trims
low_asked s y p less = by (unit_ask y) refl less
  where
    asked : (e b : ℕ) → unit_ask y ≡ TrimsBelow e b → (p < s.low) ⊎ (p < b) → (p < s.low) ⊎ AsksTrim y p
    asked e b i (inl l) = inl l
    asked e b i (inr l) = inr (record { epoch = e; below = b; is = is_trim y e b i; past = l })

    kept : (a : UnitAsk) → trims a ≡ false → p < (on_ask s a).now.low → (p < s.low) ⊎ AsksTrim y p
    kept a t l = let e = same_low s a t in inl (omega (arith, e, l))

    by : (a : UnitAsk) → unit_ask y ≡ a → p < (on_ask s a).now.low → (p < s.low) ⊎ AsksTrim y p
    by (TrimsBelow e b) i l = asked e b i (low_or s e b p l)
    by (Reads e q) i l = kept (Reads e q) refl l
    by (Stores e q c) i l = kept (Stores e q c) refl l
    by (Fills e q) i l = kept (Fills e q) refl l
    by (Looks e lo hi step) i l = kept (Looks e lo hi step) refl l
    by (Seals e) i l = kept (Seals e) refl l
    by Nothing i l = kept Nothing refl l

step_rises : (s : UnitState) (y : Msg) → s.low ≤ (unit_step s y).now.low
unfolding unit_step
step_rises s y = low_rises s (unit_ask y)

module _ (m : Meaning) where
  -- What a trim adds to the archive.

  pub below_at : (xs : List (ℕ × Cell)) (low : ℕ) (archive : Log) (p : ℕ) (c : Cell) → nat_lt p low ≡ true → cell_at xs p ≡ Some c → cell_at (archived m xs low archive) p ≡ Some c
  below_at [] low archive p c t e = absurd (cc)
  below_at (x ∷ xs) low archive p c t e = by (nat_lt x.0 low) refl (eqb p x.0) refl (λ f. below_at xs low archive p c t f)
    where
      same : (p r : ℕ) → eqb p r ≡ true → p ≡ r
      same p r t = grind arith

      apart : (p r low : ℕ) → nat_lt p low ≡ true → nat_lt r low ≡ false → eqb p r ≡ false
      apart p r low a b = grind arith

      both : (b : Bool) → b ≡ true → b ≡ false → ⊥
      both b e f = cc

      by : (b : Bool) → nat_lt x.0 low ≡ b → (d : Bool) → eqb p x.0 ≡ d → (cell_at xs p ≡ Some c → cell_at (archived m xs low archive) p ≡ Some c)
          → cell_at (if b then with_cell (archived m xs low archive) x.0 x.1 else archived m xs low archive) p ≡ Some c
      by true i true j rest = cell_stored (archived m xs low archive) x.0 x.1 p ∙ (ap (λ (g : Bool). cond g (Some x.1) (cell_at (archived m xs low archive) p)) j ∙ (sym (first_read x xs p (same p x.0 j)) ∙ e))
      by true i false j rest = cell_stored (archived m xs low archive) x.0 x.1 p ∙ (ap (λ (g : Bool). cond g (Some x.1) (cell_at (archived m xs low archive) p)) j ∙ rest (sym (later_read x xs p j) ∙ e))
      by false i true j rest = absurd (both (eqb p x.0) j (apart p x.0 low t i))
      by false i false j rest = rest (sym (later_read x xs p j) ∙ e)

  pub past_at : (xs : List (ℕ × Cell)) (low : ℕ) (archive : Log) (p : ℕ) → nat_lt p low ≡ false → cell_at (archived m xs low archive) p ≡ cell_at archive p
  past_at [] low archive p t = refl
  past_at (x ∷ xs) low archive p t = by (nat_lt x.0 low) refl (past_at xs low archive p t)
    where
      apart : (p r low : ℕ) → nat_lt p low ≡ false → nat_lt r low ≡ true → eqb p r ≡ false
      apart p r low a b = grind arith

      by : (b : Bool) → nat_lt x.0 low ≡ b → cell_at (archived m xs low archive) p ≡ cell_at archive p
          → cell_at (if b then with_cell (archived m xs low archive) x.0 x.1 else archived m xs low archive) p ≡ cell_at archive p
      by true i rest = cell_stored (archived m xs low archive) x.0 x.1 p ∙ (ap (λ (g : Bool). cond g (Some x.1) (cell_at (archived m xs low archive) p)) (apart p x.0 low t i) ∙ rest)
      by false i rest = rest

  abbrev pub low_in : List UnitState → ℕ → ℕ
  low_in us u = (slice_index_or us u new_unit).low

  module _ (w : World m) where
    pub record WasAsked (p : ℕ) : Type 0 where
      pub packet : Packet
      pub sent : Has w.packets packet
      pub asks : AsksTrim packet.msg p

    -- a step leaves the archive and the units' trims, or one unit trims up to a position, which was asked
    pub data Does (us : List UnitState) (a : Log) : Type 0 where
      Still : ((u : ℕ) → low_in us u ≡ low_in w.units u) → a ≡ w.archive → Does us a
      Trims : (n low : ℕ) → ((p : ℕ) → p < low → (p < low_in w.units n) ⊎ WasAsked p) → a ≡ archived m (log m w) low (archived m (unit m w n).cells low w.archive)
          → ((u : ℕ) → (low_in us u ≡ low_in w.units u) ⊎ (low_in us u ≡ low)) → Does us a

    unit_does : (i n : ℕ) (p : Packet) → Has w.packets p → n < length w.units → (b : Bool) → nat_lt (unit m w n).low (unit_step (unit m w n) p.msg).now.low ≡ b
        → Does (slice_set w.units n (unit_step (unit m w n) p.msg).now) (archive_after m (handed m w i) (unit m w n) (unit_step (unit m w n) p.msg).now.low b)
    unfolding log latest
    unit_does i n p sent less true e = Trims n (unit_step (unit m w n) p.msg).now.low (λ q l. asked q (low_asked (unit m w n) p.msg q l)) refl
        (at_set w.units n (unit_step (unit m w n) p.msg).now (λ v. new_unit) (λ v t. (t.low ≡ low_in w.units v) ⊎ (t.low ≡ (unit_step (unit m w n) p.msg).now.low)) less (inr refl) (λ v other. inl refl))
      where
        asked : (q : ℕ) → (q < (unit m w n).low) ⊎ AsksTrim p.msg q → (q < low_in w.units n) ⊎ WasAsked q
        asked q (inl l) = inl l
        asked q (inr a) = inr (record { packet = p; sent = sent; asks = a })
    unit_does i n p sent less false e =
        Still (at_set w.units n (unit_step (unit m w n) p.msg).now (λ v. new_unit) (λ v t. t.low ≡ low_in w.units v) less (equal (unit m w n).low _ e (step_rises (unit m w n) p.msg)) (λ v other. refl)) refl
      where
        equal : (a b : ℕ) → nat_lt a b ≡ false → a ≤ b → b ≡ a
        equal a b f le = grind arith

    arrives : (i : ℕ) (p : Packet) → Has w.packets p → (r : Role) → p.to.num < count_of m w r → Does (moves m (handed m w i) p r).units (moves m (handed m w i) p r).archive
    unfolding unit_moves layout_moves seqr_moves client_turned
    arrives i p s role.Unit less = unit_does i p.to.num p s less _ refl
    arrives i p s role.Layout less = Still (λ u. refl) refl
    arrives i p s role.Seqr less = Still (λ u. refl) refl
    arrives i p s role.Client less = Still (λ u. refl) refl

    below : (n : NodeId) → runs m w n ≡ true → n.num < count_of m w n.role
    below n h = grind arith

    comes_if : (i : ℕ) (p : Packet) → Has w.packets p → (b : Bool) → runs m w p.to ≡ b → Does (comes m b (handed m w i) p).units (comes m b (handed m w i) p).archive
    comes_if i p s true e = arrives i p s p.to.role (below p.to e)
    comes_if i p s false e = Still (λ u. refl) refl

    delivered : (i : ℕ) (o : Option Packet) → slice_get w.packets i ≡ o → Does (delivers m w i o).units (delivers m w i o).archive
    delivered i None e = Still (λ u. refl) refl
    delivered i (Some p) e = comes_if i p (has_got w.packets i p e) (runs m w p.to) refl

    noted_units : (k : ℕ) (c : Client m) (b : Bool) → (noted_if m b w k c).units ≡ w.units
    noted_units k c true = refl
    noted_units k c false = refl

    noted_archive : (k : ℕ) (c : Client m) (b : Bool) → (noted_if m b w k c).archive ≡ w.archive
    noted_archive k c true = refl
    noted_archive k c false = refl

    commanded : (k : ℕ) (x : CommandOf m) (b : Bool) → Does (commands m b w k x).units (commands m b w k x).archive
    unfolding client_turned
    commanded k x true = Still (λ u. ap (λ us. low_in us u) (noted_units k (client_in m (config m w) k) (is_some (client_in m (config m w) k).work))) (noted_archive k (client_in m (config m w) k) (is_some (client_in m (config m w) k).work))
    commanded k x false = Still (λ u. refl) refl

    ticked : (n : ℕ) (r : Role) → Does (ticks m w n r).units (ticks m w n r).archive
    unfolding client_turned
    ticked n role.Unit = Still (λ u. refl) refl
    ticked n role.Layout = Still (λ u. refl) refl
    ticked n role.Seqr = Still (λ u. refl) refl
    ticked n role.Client = Still (λ u. refl) refl

    ticked_if : (n : NodeId) (b : Bool) → Does (ticks_if m b w n).units (ticks_if m b w n).archive
    ticked_if n true = ticked n.num n.role
    ticked_if n false = Still (λ u. refl) refl

    stopped : (n : NodeId) (b : Bool) → Does (stops_if m b w n).units (stops_if m b w n).archive
    stopped n true = Still (λ u. refl) refl
    stopped n false = Still (λ u. refl) refl

    pub does : (e : EventOf m) → Does (happens m w e).units (happens m w e).archive
    unfolding happens
    does (Commands k x) = commanded k x (runs m w (client_id k))
    does (Deliver i) = delivered i (slice_get w.packets i) refl
    does (Lose i) = Still (λ u. refl) refl
    does (Tick n) = ticked_if n (runs m w n)
    does (Stop n) = stopped n (runs m w n)
