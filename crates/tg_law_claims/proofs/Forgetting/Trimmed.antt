-- What a unit has trimmed is in the log, and whatever stands there is saved past it.
use Rattle.std.proofs.Common.{◌≡◌, ◌⊎◌, ℕ, zero, suc, ◌<◌, ◌≤◌, List, [], ◌∷◌, true, refl, sym, ap, ◌∙◌, subst, inl, inr, arith, Option}
use Rattle.tg_base.specs.Clusters.{Header}
use Rattle.tg_base.specs.declared.cell.Cell.{Cell}
use Rattle.tg_base.specs.declared.cell.Cell.TheVariants.{Data}
use Rattle.tg_base.specs.declared.ids.Oid.{Oid}
use Rattle.tg_base.specs.declared.msg.Msg.TheVariants as msg
use Rattle.tg_base.specs.declared.packet.Packet.{Packet}
use Rattle.tg_entry.specs.declared.entry.Entry.{Entry}
use Rattle.tg_kind.specs.Meaning.{Meaning}
use Rattle.tg_model.specs.Kinds.{EventOf}
use Rattle.tg_any.specs.AllKinds.{all_kinds}
use Rattle.tg_protocol.specs.Alike.{HasEntry}
use Rattle.tg_protocol.specs.Entries.{lists}
use Rattle.tg_protocol.specs.Holding.{HasBasePast, TrimsSpare}
use Rattle.tg_protocol.specs.Logs.{entries_of}
use Rattle.tg_protocol.specs.Pages.{cell_entry}
use Rattle.tg_protocol.specs.Units.{new_unit}
use Rattle.tg_protocol.specs.Worlds.{World, start, unit, log, happens, next_event}
use Rattle.tg_protocol.specs.Runs.{Moves, Next, Takes, Reaches, Always, run}
use Rattle.tg_law_layouts.specs.Moves.After.{after}
use Rattle.tg_law_layouts.proofs.Moves.Lists.{contained, at_replicate}
use Rattle.tg_law_layouts.proofs.Moves.Members.{Has, has_contained}
use Rattle.tg_law_layouts.proofs.Layouts.Layouts.{stays_sent}
use Rattle.tg_law_cells.proofs.Entries.Archive.{trimmed_is_in_log}
use Rattle.tg_law_cells.proofs.Entries.Steps.{WasAsked, Does, Still, Trims, does}
use Rattle.tg_law_replies.proofs.History.Members.{contained_has}
use Rattle.tg_law_walks.specs.Walks.Streams.{stands_in, entry_lists}
use Rattle.tg_law_walks.proofs.Walks.Cells.{there_entry, entry_there}
use Rattle.tg_law_walks.proofs.Walks.Syncs.{logs_by_position}
use Rattle.tg_law_walks.specs.Lists.Spared.{IsSaved}
use Rattle.tg_law_walks.proofs.Lists.Ends.{cell_of}
use Rattle.tg_law_claims.proofs.Forgetting.Resting.{trims}

-- Units trim what they were asked to trim.

-- a unit was asked to trim past a position
record Asked (ps : List Packet) (p : ℕ) : Type 0 where
  packet : Packet
  sent : Has ps packet
  epoch : ℕ
  below : ℕ
  is : packet.msg ≡ msg.Trim epoch below
  past : p < below

module _ (m : Meaning) where
  abbrev AllAsked : World m → Type 0
  AllAsked w = (u p : ℕ) → p < (unit m w u).low → Asked w.packets p

  was_asked : (w : World m) (p : ℕ) → WasAsked m w p → Asked w.packets p
  was_asked w p a = record { packet = a.packet; sent = a.sent; epoch = a.asks.epoch; below = a.asks.below; is = a.asks.is; past = a.asks.past }

  sent_on : (w : World m) (e : EventOf m) (x : Packet) → Has w.packets x → Has (happens m w e).packets x
  unfolding run
  sent_on w e x i = stays_sent m (Takes e ∷ []) w x i

  asked_on : (w : World m) (e : EventOf m) (p : ℕ) → Asked w.packets p → Asked (happens m w e).packets p
  asked_on w e p a = record { packet = a.packet; sent = sent_on w e a.packet a.sent; epoch = a.epoch; below = a.below; is = a.is; past = a.past }

  on_event : (w : World m) (e : EventOf m) → AllAsked w → AllAsked (happens m w e)
  on_event w e old u p less = by (does m w e)
    where
      by : Does m w (happens m w e).units (happens m w e).archive → Asked (happens m w e).packets p
      by (Still lows same) = let j = lows u in asked_on w e p (old u p (omega (arith, less, j)))
      by (Trims n low asked is lows) = asked_on w e p (which (lows u))
        where
          new : (p < (unit m w n).low) ⊎ WasAsked m w p → Asked w.packets p
          new (inl l) = old n p l
          new (inr a) = was_asked w p a

          which : ((unit m (happens m w e) u).low ≡ (unit m w u).low) ⊎ ((unit m (happens m w e) u).low ≡ low) → Asked w.packets p
          which (inl j) = old u p (omega (arith, less, j))
          which (inr j) = new (asked p (omega (arith, less, j)))

  asked_run : (ms : Moves m) (w : World m) → AllAsked w → AllAsked (run m ms w)
  unfolding run
  asked_run [] w h = h
  asked_run (Next ∷ ms) w h = asked_run ms (next_event m w) h
  asked_run (Takes e ∷ ms) w h = asked_run ms (happens m w e) (on_event w e h)

  none_asked : (h : Header) → AllAsked (start m h)
  unfolding start new_unit
  none_asked h u = at_replicate h.units new_unit u new_unit (λ t. (p : ℕ) → p < t.low → Asked [] p) (λ p l. absurd (omega (arith, l))) (λ p l. absurd (omega (arith, l)))

  all_asked : (h : Header) (ms : Moves m) → AllAsked (after m h ms)
  all_asked h ms = asked_run ms (start m h) (none_asked h)

module _ (h : Header) (ms : Moves all_kinds) (r : Reaches all_kinds h ms (after all_kinds h ms)) where
  abbrev w : World all_kinds
  w = after all_kinds h ms

  -- a checkpoint that saves an object by some epoch stands in the log
  pub saved_here : (o : Oid) (epoch below n : ℕ) → n ≤ below → IsSaved all_kinds (after all_kinds h ms) o epoch below → HasBasePast all_kinds (after all_kinds h ms) o n
  saved_here o epoch below n le s = record {
    at = s.at;
    later = (let a = s.after in omega (arith, a, le));
    entry = s.entry;
    here = contained_has (entries_of (log all_kinds w)) (s.at, s.entry)
        (there_entry (log all_kinds w) s.at s.entry (ap (λ (y : Option Cell). cell_entry y) (cell_of all_kinds h ms r (trims h ms r).were.safe s.at (Data s.page) s.settled) ∙ s.reads));
    base = s.saves.base;
    gives = s.saves.is;
    reaches = (let a = s.saves.reaches in omega (arith, a, le));
  }

  stands : (p : ℕ) (e : Entry) (o : Oid) → HasEntry all_kinds (after all_kinds h ms) p e → lists e o ≡ true → stands_in (log all_kinds (after all_kinds h ms)) o p ≡ true
  stands p e o i listed =
      ap (λ (x : Option Entry). entry_lists o x) (entry_there 0 (log all_kinds w) p e (logs_by_position all_kinds w) (has_contained (entries_of (log all_kinds w)) (p, e) i)) ∙ listed

  based : (u p : ℕ) (e : Entry) (o : Oid) → p < (unit all_kinds w u).low → HasEntry all_kinds w p e → lists e o ≡ true → HasBasePast all_kinds w o (unit all_kinds w u).low
  based u p e o less i listed = by (unit all_kinds w u).low refl
    where
      saved : (k : ℕ) → (unit all_kinds w u).low ≡ suc k → Asked w.packets k → HasBasePast all_kinds w o (unit all_kinds w u).low
      saved k at a =
          let past = a.past in
          saved_here o a.epoch a.below (unit all_kinds w u).low (omega (arith, at, past))
          ((trims h ms r).spare.saved a.packet a.epoch a.below p o (contained w.packets a.packet a.sent) a.is (omega (arith, less, at, past)) (stands p e o i listed))

      by : (l : ℕ) → (unit all_kinds w u).low ≡ l → HasBasePast all_kinds w o (unit all_kinds w u).low
      by zero at = absurd (omega (arith, less, at))
      by (suc k) at = saved k at (all_asked all_kinds h ms u k (omega (arith, at)))

  spare : TrimsSpare all_kinds (after all_kinds h ms)
  spare = record { whole = trimmed_is_in_log all_kinds h ms (after all_kinds h ms) r (trims h ms r).were.safe; based = based }

pub trims_spare : Always all_kinds (TrimsSpare all_kinds)
trims_spare h ms w r = subst (TrimsSpare all_kinds) (sym r.goes.is) (spare h ms (subst (Reaches all_kinds h ms) r.goes.is r))
