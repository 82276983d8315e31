-- Each step of a run keeps the books of transactions.
use Rattle.std.proofs.Common.{◌≡◌, ℕ, ◌∷◌, ◌++◌, Bool, true, false, refl, sym, subst, Option, Some}
use Rattle.std.specs.Prelude.{slice_get, is_some}
use Rattle.tg_base.specs.Clusters.{Header}
use Rattle.tg_base.specs.declared.ids.NodeId.{NodeId}
use Rattle.tg_base.specs.declared.ids.Role.{Role}
use Rattle.tg_base.specs.declared.ids.Role.TheVariants as role
use Rattle.tg_base.specs.declared.packet.Packet.{Packet}
use Rattle.tg_kind.specs.Meaning.{Meaning}
use Rattle.tg_model.specs.declared.command.Event.TheVariants.{Command as Commands, Deliver, Lose, Tick, Stop}
use Rattle.tg_model.specs.Kinds.{CommandOf, EventOf}
use Rattle.tg_protocol.specs.Words.{client_id}
use Rattle.tg_protocol.specs.Replies.{reply}
use Rattle.tg_protocol.specs.Clients.{new_client, refusal}
use Rattle.tg_protocol.specs.ClientSteps.{feed, refused_or, client_command, client_deliver, client_tick}
use Rattle.tg_protocol.specs.Worlds.{World, start, client, client_turned, moves, comes, handed, delivers, noted_if, commands, ticks, ticks_if, counted, happens, runs}
use Rattle.tg_protocol.specs.Runs.{Moves, Takes, run}
use Rattle.tg_law_replies.specs.History.Worlds.{entries_in}
use Rattle.tg_law_replies.specs.Books.Booked.{EachBooked, ClientsBook}
use Rattle.tg_law_replies.specs.Books.Kept.{RecordsLeft, AsksPrecede}
use Rattle.tg_law_replies.specs.Books.Laws.{BooksAreKept}
use Rattle.tg_law_replies.proofs.Books.Commands.{Takes as Taken, delivered, commanding}
use Rattle.tg_law_replies.proofs.Books.Worlds.{set_same, run_book, start_book, commanded_as, commanded_notes, delivered_as, delivered_notes, tick_of, declared}
use Rattle.tg_law_replies.proofs.Books.Records.{MarksSpelled, marks_spelled, booked}

module _ (m : Meaning) where
  no : false ≡ true → ⊥
  no z = cc

  -- The client after its turn.

  command_after : (w : World m) (k : ℕ) (x : CommandOf m) → runs m w (client_id k) ≡ true → client m (happens m w (Commands k x)) k ≡ (client_command m (client m w k) x).now
  unfolding happens client_turned
  command_after w k x on = by (runs m w (client_id k)) on
    where
      turned : (b : Bool) → client m (client_turned m (noted_if m b w k (client m w k)) k (client_command m (client m w k) x)) k ≡ (client_command m (client m w k) x).now
      turned true = set_same w.clients k (client_command m (client m w k) x).now (new_client m w.cluster k) (declared m w (client_id k) refl on)
      turned false = set_same w.clients k (client_command m (client m w k) x).now (new_client m w.cluster k) (declared m w (client_id k) refl on)

      by : (b : Bool) → b ≡ true → client m (counted m (commands m b w k x)) k ≡ (client_command m (client m w k) x).now
      by true e = turned (is_some (client m w k).work)
      by false e = absurd (no e)

  delivery_after : (w : World m) (i : ℕ) (p : Packet) → slice_get w.packets i ≡ Some p → p.to.role ≡ role.Client → runs m w p.to ≡ true
      → client m (happens m w (Deliver i)) p.to.num ≡ (client_deliver m (client m w p.to.num) p.from p.rid p.msg).now
  unfolding happens client_turned
  delivery_after w i p is c on = by (slice_get w.packets i) is
    where
      moved : (r : Role) → r ≡ role.Client → client m (moves m (handed m w i) p r) p.to.num ≡ (client_deliver m (client m w p.to.num) p.from p.rid p.msg).now
      moved r e = subst (λ (x : Role). client m (moves m (handed m w i) p x) p.to.num ≡ (client_deliver m (client m w p.to.num) p.from p.rid p.msg).now) (sym e)
          (set_same w.clients p.to.num (client_deliver m (client m w p.to.num) p.from p.rid p.msg).now (new_client m w.cluster p.to.num) (declared m w p.to c on))

      arrives : (b : Bool) → b ≡ true → client m (comes m b (handed m w i) p) p.to.num ≡ (client_deliver m (client m w p.to.num) p.from p.rid p.msg).now
      arrives true e = moved p.to.role c
      arrives false e = absurd (no e)

      by : (o : Option Packet) → o ≡ Some p → client m (counted m (delivers m w i o)) p.to.num ≡ (client_deliver m (client m w p.to.num) p.from p.rid p.msg).now
      by o e = subst (λ (x : Option Packet). client m (counted m (delivers m w i x)) p.to.num ≡ (client_deliver m (client m w p.to.num) p.from p.rid p.msg).now) (sym e) (arrives (runs m w p.to) on)

  tick_after : (w : World m) (n : NodeId) → n.role ≡ role.Client → runs m w n ≡ true → client m (happens m w (Tick n)) n.num ≡ (client_tick m (client m w n.num)).now
  unfolding happens client_turned
  tick_after w n c on = by (runs m w n) on
    where
      ticked : (r : Role) → r ≡ role.Client → client m (ticks m w n.num r) n.num ≡ (client_tick m (client m w n.num)).now
      ticked r e = subst (λ (x : Role). client m (ticks m w n.num x) n.num ≡ (client_tick m (client m w n.num)).now) (sym e)
          (set_same w.clients n.num (client_tick m (client m w n.num)).now (new_client m w.cluster n.num) (declared m w n c on))

      by : (b : Bool) → b ≡ true → client m (counted m (ticks_if m b w n)) n.num ≡ (client_tick m (client m w n.num)).now
      by true e = ticked n.role c
      by false e = absurd (no e)

  module _ (h : Header) (ms : Moves m) (left : RecordsLeft m h ms (run m ms (start m h))) (asks : AsksPrecede m (run m ms (start m h))) (marks : MarksSpelled m ms) where
    abbrev at : Moves m → World m
    at xs = run m xs (start m h)

    each_booked : (pre post : Moves m) (ev : EventOf m) → ms ≡ pre ++ Takes ev ∷ post → EachBooked m (entries_in m (run m ms (start m h))) (at pre) ev
    each_booked pre post (Commands k x) split = λ on.
        booked m h ms left asks pre post (Commands k x) split k (client_command m (client m (at pre) k) x) (refused_or m (client m (at pre) k) x (refusal m (client m (at pre) k) x)) (Taken x (commanding m (client m (at pre) k) x))
        (commanded_as m (client m (at pre) k) x) (commanded_notes m (client m (at pre) k) x) (command_after (at pre) k x on) marks
    each_booked pre post (Deliver i) split = λ p is c on.
        booked m h ms left asks pre post (Deliver i) split p.to.num (client_deliver m (client m (at pre) p.to.num) p.from p.rid p.msg) (feed m (client m (at pre) p.to.num) (client m (at pre) p.to.num).work p.from p.rid (reply p.msg))
        (delivered m (client m (at pre) p.to.num) p.from p.rid p.msg (λ v has. (run_book m pre (start m h) (start_book m h) p.to.num).suits v has)).turned
        (delivered_as m (client m (at pre) p.to.num) p) (delivered_notes m (client m (at pre) p.to.num) p) (delivery_after (at pre) i p is c on) marks
    each_booked pre post (Lose i) split = tt
    each_booked pre post (Tick n) split = λ c on.
        let t = tick_of m (client m (at pre) n.num) in
        booked m h ms left asks pre post (Tick n) split n.num (client_tick m (client m (at pre) n.num)) t.makes t.turned t.now t.notes (tick_after (at pre) n c on) marks
    each_booked pre post (Stop n) split = tt

pub books_are_kept : (m : Meaning) → BooksAreKept m
books_are_kept m h ms w r left asks =
    subst (λ (u : World m). RecordsLeft m h ms u → AsksPrecede m u → ClientsBook m h ms u) (sym r.goes.is) (λ l a before after e split. each_booked m h ms l a (marks_spelled m h ms w r) before after e split) left asks
