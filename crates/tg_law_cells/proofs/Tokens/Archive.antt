-- Whatever the log has, in its units or trimmed, is junk or a page of a token.
use Rattle.std.proofs.Common.{◌≡◌, ◌⊎◌, ℕ, List, [], ◌∷◌, ◌++◌, Bool, true, false, refl, sym, ap, ◌∙◌, subst, inl, inr, arith, Option, Some, None, nat_cmp, cond, eqb}
use Rattle.std.specs.Prelude.{slice_get, nat_lt, is_some, if◌then◌else◌}
use Rattle.std.specs.BTreeMap.{insert_entry}
use Rattle.tg_base.specs.Clusters.{Header}
use Rattle.tg_base.specs.Layouts.{Layout}
use Rattle.tg_base.specs.declared.cell.Cell.{Cell}
use Rattle.tg_base.specs.declared.cell.Cell.TheVariants.{Data}
use Rattle.tg_base.specs.declared.ids.NodeId.{NodeId}
use Rattle.tg_base.specs.declared.ids.Role.{Role}
use Rattle.tg_base.specs.declared.ids.Role.TheVariants as role
use Rattle.tg_base.specs.declared.packet.Packet.{Packet}
use Rattle.tg_kind.specs.Meaning.{Meaning}
use Rattle.tg_model.specs.Kinds.{CommandOf, EventOf}
use Rattle.tg_model.specs.declared.command.Event.TheVariants.{Command as Commands, Deliver, Lose, Tick, Stop}
use Rattle.tg_protocol.specs.Words.{cell_at, with_cell, or_else, client_id}
use Rattle.tg_protocol.specs.Layouts.{chain_of}
use Rattle.tg_protocol.specs.Units.{UnitState}
use Rattle.tg_protocol.specs.Logs.{Log, unit_cells, if_all_hold, all_hold, chain_cell, log_cell, cell_if, cells_of, log_of}
use Rattle.tg_protocol.specs.Clients.{Client}
use Rattle.tg_protocol.specs.Worlds.{World, start, unit, latest, log, archived, archive_after, unit_moves, layout_moves, seqr_moves, client_turned, moves, comes, handed, delivers, runs, noted_if, commands, ticks, ticks_if, stops_if, happens, next_event}
use Rattle.tg_protocol.specs.Runs.{Moves, Next, Takes, run, Always}
use Rattle.tg_law_layouts.specs.Moves.After.{after}
use Rattle.tg_law_layouts.specs.Moves.Configs.{config, client_in}
use Rattle.tg_law_layouts.proofs.Moves.Always.{always}
use Rattle.tg_law_layouts.proofs.Moves.Members.{Has, has_contained}
use Rattle.tg_law_layouts.proofs.Moves.Scripts.{run_both}
use Rattle.tg_law_layouts.proofs.Moves.Moves.{step_cases}
use Rattle.tg_law_layouts.proofs.Moves.Growth.{Grows, every_move_grows}
use Rattle.tg_law_cells.specs.Tokens.Issuing.{LogPagesOwn}
use Rattle.tg_law_cells.proofs.Tokens.Owning.{OwnCell}
use Rattle.tg_law_cells.proofs.Tokens.Held.{Held, held_hold, cell_grows, of_token}

-- Reading cells.

stored_more : (e : ℕ × Cell) (es : List (ℕ × Cell)) (k : ℕ) (v : Cell) (q : ℕ) → cell_at (insert_entry nat_cmp es k v) q ≡ cond (eqb q k) (Some v) (cell_at es q)
    → cell_at (insert_entry nat_cmp (e ∷ es) k v) q ≡ cond (eqb q k) (Some v) (cell_at (e ∷ es) q)
stored_more e es k v q ih = grind arith

cell_stored : (es : List (ℕ × Cell)) (k : ℕ) (v : Cell) (q : ℕ) → cell_at (with_cell es k v) q ≡ cond (eqb q k) (Some v) (cell_at es q)
cell_stored [] k v q = grind arith
cell_stored (e ∷ es) k v q = stored_more e es k v q (cell_stored es k v q)

some_cell : (a b : Cell) → Some a ≡ Some b → a ≡ b
some_cell a b e = cc

none_cell : {X : Type 0} (c : Cell) → None ≡ Some c → X
none_cell c e = absurd (cc)

same_at : (p r : ℕ) → eqb p r ≡ true → p ≡ r
same_at p r t = grind arith

first_read : (x : ℕ × Cell) (xs : List (ℕ × Cell)) (p : ℕ) → p ≡ x.0 → cell_at (x ∷ xs) p ≡ Some x.1
first_read x xs p e = grind arith

later_read : (x : ℕ × Cell) (xs : List (ℕ × Cell)) (p : ℕ) → eqb p x.0 ≡ false → cell_at (x ∷ xs) p ≡ cell_at xs p
later_read x xs p e = grind arith

read_has : (xs : List (ℕ × Cell)) (p : ℕ) (c : Cell) → cell_at xs p ≡ Some c → Has xs (p, c)
read_has [] p c e = none_cell c e
read_has (x ∷ xs) p c e = by (eqb p x.0) refl (λ f. read_has xs p c f)
  where
    pair : (y : ℕ × Cell) → p ≡ y.0 → c ≡ y.1 → (p, c) ≡ y
    pair y i j = λ k. (i k, j k)

    by : (b : Bool) → eqb p x.0 ≡ b → (cell_at xs p ≡ Some c → Has xs (p, c)) → Has (x ∷ xs) (p, c)
    by true t rest = let i = same_at p x.0 t in inl (pair x i (some_cell c x.1 (sym e ∙ first_read x xs p i)))
    by false t rest = inr (rest (sym (later_read x xs p t) ∙ e))

-- A cell of the log is in a unit, or was trimmed.

abbrev Stands : List UnitState → Log → ℕ → Cell → Type 0
Stands us archive p c = ((u : ℕ) × (cell_at (unit_cells us u) p ≡ Some c)) ⊎ (cell_at archive p ≡ Some c)

in_head : (us : List UnitState) (p u : ℕ) (rest : List ℕ) (c : Cell) (o : Option Cell) → cell_at (unit_cells us u) p ≡ o → if_all_hold us p rest o ≡ Some c → cell_at (unit_cells us u) p ≡ Some c
in_head us p u rest c None i f = none_cell c f
in_head us p u rest c (Some d) i f = i ∙ by (all_hold us p d rest) f
  where
    by : (b : Bool) → Rattle.tg_protocol.specs.Words.where_true b d ≡ Some c → Some d ≡ Some c
    by true g = g
    by false g = none_cell c g

in_chain : (us : List UnitState) (p : ℕ) (units : List ℕ) (c : Cell) → chain_cell us p units ≡ Some c → (u : ℕ) × (cell_at (unit_cells us u) p ≡ Some c)
in_chain us p [] c e = none_cell c e
in_chain us p (u ∷ rest) c e = (u, in_head us p u rest c (cell_at (unit_cells us u) p) refl e)

in_log_cell : (q : Layout) (us : List UnitState) (archive : Log) (p : ℕ) (c : Cell) → log_cell q us archive p ≡ Some c → Stands us archive p c
in_log_cell q us archive p c e = by (chain_cell us p (chain_of q p)) refl e
  where
    by : (o : Option Cell) → chain_cell us p (chain_of q p) ≡ o → or_else o (cell_at archive p) ≡ Some c → Stands us archive p c
    by None i f = inr f
    by (Some d) i f = inl (in_chain us p (chain_of q p) c (i ∙ f))

in_cells : (q : Layout) (us : List UnitState) (archive : Log) (ps : List ℕ) (p : ℕ) (c : Cell) → Has (cells_of q us archive ps) (p, c) → Stands us archive p c
in_cells q us archive [] p c i = absurd i
in_cells q us archive (r ∷ ps) p c i = by (log_cell q us archive r) refl i (λ j. in_cells q us archive ps p c j)
  where
    by : (o : Option Cell) → log_cell q us archive r ≡ o → Has (cell_if r o (cells_of q us archive ps)) (p, c) → (Has (cells_of q us archive ps) (p, c) → Stands us archive p c) → Stands us archive p c
    by None e j rest = rest j
    by (Some d) e (inl s) rest =
        in_log_cell q us archive p c (ap (λ (y : ℕ × Cell). log_cell q us archive y.0) s ∙ (e ∙ ap (λ (y : ℕ × Cell). Some y.1) (sym s)))
    by (Some d) e (inr j) rest = rest j

module _ (m : Meaning) where
  pub log_stands : (w : World m) (p : ℕ) (c : Cell) → Has (log m w) (p, c) → Stands w.units w.archive p c
  unfolding log log_of
  log_stands w p c i = in_cells (latest m w) w.units w.archive _ p c i

  -- What a trim adds to the archive.

  abbrev IsIn : ℕ → Log → ℕ → Cell → List (ℕ × Cell) → Type 0
  IsIn low archive p c xs = ((nat_lt p low ≡ true) × (cell_at xs p ≡ Some c)) ⊎ (cell_at archive p ≡ Some c)

  trimmed_at : (xs : List (ℕ × Cell)) (low : ℕ) (archive : Log) (p : ℕ) (c : Cell) → cell_at (archived m xs low archive) p ≡ Some c → ((nat_lt p low ≡ true) × (cell_at xs p ≡ Some c)) ⊎ (cell_at archive p ≡ Some c)
  trimmed_at [] low archive p c e = inr e
  trimmed_at (x ∷ xs) low archive p c e = by (nat_lt x.0 low) refl e (λ f. trimmed_at xs low archive p c f)
    where
      skips : eqb p x.0 ≡ false → IsIn low archive p c xs → IsIn low archive p c (x ∷ xs)
      skips n (inl k) = inl (k.0, later_read x xs p n ∙ k.1)
      skips n (inr k) = inr k

      apart : nat_lt x.0 low ≡ false → nat_lt p low ≡ true → eqb p x.0 ≡ false
      apart a b = grind arith

      past : nat_lt x.0 low ≡ false → IsIn low archive p c xs → IsIn low archive p c (x ∷ xs)
      past t (inl k) = skips (apart t k.0) (inl k)
      past t (inr k) = inr k

      here : nat_lt x.0 low ≡ true → p ≡ x.0 → nat_lt p low ≡ true
      here t i = ap (λ n. nat_lt n low) i ∙ t

      stored : nat_lt x.0 low ≡ true → (b : Bool) → eqb p x.0 ≡ b → cond b (Some x.1) (cell_at (archived m xs low archive) p) ≡ Some c → (cell_at (archived m xs low archive) p ≡ Some c → IsIn low archive p c xs) → IsIn low archive p c (x ∷ xs)
      stored t true n f rest = let i = same_at p x.0 n in inl (here t i, first_read x xs p i ∙ f)
      stored t false n f rest = skips n (rest f)

      by : (b : Bool) → nat_lt x.0 low ≡ b → cell_at (if b then with_cell (archived m xs low archive) x.0 x.1 else archived m xs low archive) p ≡ Some c → (cell_at (archived m xs low archive) p ≡ Some c → IsIn low archive p c xs) → IsIn low archive p c (x ∷ xs)
      by true t f rest = stored t (eqb p x.0) refl (sym (cell_stored (archived m xs low archive) x.0 x.1 p) ∙ f) rest
      by false t f rest = past t (rest f)

  -- A step leaves the archive as it is, or adds to it what a unit trims.
  pub data Archives (w : World m) (a : Log) : Type 0 where
    Same : a ≡ w.archive → Archives w a
    Trims : (u low : ℕ) → a ≡ archived m (log m w) low (archived m (unit m w u).cells low w.archive) → Archives w a

  module _ (w : World m) where
    trims_if : (i u low : ℕ) (b : Bool) → Archives w (archive_after m (handed m w i) (unit m w u) low b)
    unfolding log latest
    trims_if i u low true = Trims u low refl
    trims_if i u low false = Same refl

    arrives : (i : ℕ) (p : Packet) (r : Role) → Archives w (moves m (handed m w i) p r).archive
    unfolding unit_moves layout_moves seqr_moves client_turned
    arrives i p role.Unit = trims_if i p.to.num _ _
    arrives i p role.Layout = Same refl
    arrives i p role.Seqr = Same refl
    arrives i p role.Client = Same refl

    comes_if : (i : ℕ) (p : Packet) (b : Bool) → Archives w (comes m b (handed m w i) p).archive
    comes_if i p true = arrives i p p.to.role
    comes_if i p false = Same refl

    delivered : (i : ℕ) (o : Option Packet) → Archives w (delivers m w i o).archive
    delivered i None = Same refl
    delivered i (Some p) = comes_if i p (runs m w p.to)

    noted : (k : ℕ) (x : CommandOf m) (c : Client m) (b : Bool) → (noted_if m b w k c).archive ≡ w.archive
    noted k x c true = refl
    noted k x c false = refl

    commanded : (k : ℕ) (x : CommandOf m) (b : Bool) → Archives w (commands m b w k x).archive
    unfolding client_turned
    commanded k x true = Same (noted k x (client_in m (config m w) k) (is_some (client_in m (config m w) k).work))
    commanded k x false = Same refl

    ticked : (n : ℕ) (r : Role) → Archives w (ticks m w n r).archive
    unfolding client_turned
    ticked n role.Unit = Same refl
    ticked n role.Layout = Same refl
    ticked n role.Seqr = Same refl
    ticked n role.Client = Same refl

    ticked_if : (n : NodeId) (b : Bool) → Archives w (ticks_if m b w n).archive
    ticked_if n true = ticked n.num n.role
    ticked_if n false = Same refl

    stopped : (n : NodeId) (b : Bool) → Archives w (stops_if m b w n).archive
    stopped n true = Same refl
    stopped n false = Same refl

    archives : (e : EventOf m) → Archives w (happens m w e).archive
    unfolding happens
    archives (Commands k x) = commanded k x (runs m w (client_id k))
    archives (Deliver i) = delivered i (slice_get w.packets i)
    archives (Lose i) = Same refl
    archives (Tick n) = ticked_if n (runs m w n)
    archives (Stop n) = stopped n (runs m w n)

  -- Over runs.

  pub record Kept (w : World m) : Type 0 where
    pub cells : (p : ℕ) (c : Cell) → cell_at w.archive p ≡ Some c → OwnCell w.packets p c

  stands_own : (w : World m) → Held m (config m w) → Kept w → (p : ℕ) (c : Cell) → Stands w.units w.archive p c → OwnCell w.packets p c
  stands_own w h k p c (inl s) = h.cells s.0 p c s.1
  stands_own w h k p c (inr s) = k.cells p c s

  own_after : (w : World m) → Held m (config m w) → Kept w → (a : Log) → Archives w a → (p : ℕ) (c : Cell) → cell_at a p ≡ Some c → OwnCell w.packets p c
  own_after w h k a (Same e) p c i = k.cells p c (sym (ap (λ (l : Log). cell_at l p) e) ∙ i)
  own_after w h k a (Trims u low e) p c i = by (trimmed_at (log m w) low _ p c (sym (ap (λ (l : Log). cell_at l p) e) ∙ i))
    where
      dropped : ((nat_lt p low ≡ true) × (cell_at (unit m w u).cells p ≡ Some c)) ⊎ (cell_at w.archive p ≡ Some c) → OwnCell w.packets p c
      dropped (inl s) = h.cells u p c s.1
      dropped (inr s) = k.cells p c s

      by : ((nat_lt p low ≡ true) × (cell_at (log m w) p ≡ Some c)) ⊎ (cell_at (archived m (unit m w u).cells low w.archive) p ≡ Some c) → OwnCell w.packets p c
      by (inl s) = stands_own w h k p c (log_stands w p c (read_has (log m w) p c s.1))
      by (inr s) = dropped (trimmed_at (unit m w u).cells low w.archive p c s)

  kept_on : (w : World m) (e : EventOf m) → Held m (config m w) → Kept w → Kept (happens m w e)
  kept_on w e h k = record {
    cells = λ p c i. cell_grows m w.packets (happens m w e).packets (step_cases m w (Grows m (config m w)) (every_move_grows m (config m w)) e).sent p c (own_after w h k (happens m w e).archive (archives w e) p c i);
  }

  then_next : (h : Header) (xs : Moves m) → after m h (xs ++ Next ∷ []) ≡ next_event m (after m h xs)
  unfolding run
  then_next h xs = run_both m xs (Next ∷ []) (start m h)

  then_takes : (h : Header) (xs : Moves m) (e : EventOf m) → after m h (xs ++ Takes e ∷ []) ≡ happens m (after m h xs) e
  unfolding run
  then_takes h xs e = run_both m xs (Takes e ∷ []) (start m h)

  kept_run : (h : Header) (xs ms : Moves m) → Kept (after m h xs) → Kept (run m ms (after m h xs))
  unfolding run
  kept_run h xs [] k = k
  kept_run h xs (Next ∷ ms) k =
      subst (λ (w : World m). Kept (run m ms w)) (then_next h xs) (kept_run h (xs ++ Next ∷ []) ms (subst Kept (sym (then_next h xs)) (record { cells = k.cells })))
  kept_run h xs (Takes e ∷ ms) k =
      subst (λ (w : World m). Kept (run m ms w)) (then_takes h xs e) (kept_run h (xs ++ Takes e ∷ []) ms (subst Kept (sym (then_takes h xs e)) (kept_on (after m h xs) e (held_hold m h xs) k)))

  start_kept : (h : Header) → Kept (after m h [])
  unfolding run start
  start_kept h = record { cells = λ p c i. none_cell c i }

  from_start : (h : Header) (ms : Moves m) → run m ms (after m h []) ≡ after m h ms
  unfolding run
  from_start h ms = refl

  pub kept_hold : (h : Header) (ms : Moves m) → Kept (after m h ms)
  kept_hold h ms = subst Kept (from_start h ms) (kept_run h [] ms (start_kept h))

  -- each cell of the log is junk or a page that was sent
  pub log_sent : (h : Header) (ms : Moves m) (p : ℕ) (c : Cell) → Has (log m (after m h ms)) (p, c) → OwnCell (after m h ms).packets p c
  log_sent h ms p c i = stands_own (after m h ms) (held_hold m h ms) (kept_hold h ms) p c (log_stands (after m h ms) p c i)

  pub log_own : (h : Header) (ms : Moves m) → LogPagesOwn m (after m h ms)
  log_own h ms p d i = of_token m h ms p d (log_sent h ms p (Data d) (has_contained (log m (after m h ms)) (p, Data d) i))

  pub log_has_own_pages : Always m (LogPagesOwn m)
  log_has_own_pages = always m (LogPagesOwn m) log_own
