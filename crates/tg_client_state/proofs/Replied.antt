-- Replies.
use Rattle.std.proofs.Common.{◌≡◌, ℕ, List, [], filter, None, refl, sym, ap, ◌∙◌}
use Rattle.tg_base.specs.declared.cell.Cell.{Cell}
use Rattle.tg_base.specs.declared.packet.Out.{Out}
use Rattle.tg_kind.specs.Meaning.{Meaning}
use Rattle.tg_model.specs.Kinds.{NoteOf}
use Rattle.tg_protocol.specs.Clients.{Client, upto}
use Rattle.tg_protocol.specs.ClientSteps.{client_asks}
use Rattle.tg_protocol.specs.Answers.{pruned, replies}
use Rattle.tg_client_cells.specs.Known.{Knowledge, keeps, given_up}
use Rattle.tg_client_cells.proofs.Ruled.{as_ruled}
use Rattle.tg_client_state.specs.States.{StateOf, Rest, client_of, KeepsViewIf, KeepsClient, KeepsMoved}

module _ (m : Meaning) where
  abbrev with-cells : StateOf m → Rest m → List (ℕ × Cell) → Client m
  with-cells s r cells = record (client_of m s r) { work = None; cells = cells }

  pruned-is : (s : StateOf m) (n : ℕ) (r : Rest m) → n ≡ upto m (client_of m s r) → pruned m (client_of m s r) ≡ with-cells s r (filter (keeps n s.known.own) s.known.cells)
  pruned-is s n r h = ap (with-cells s r) (sym ((as_ruled m).kept (client_of m s r)) ∙ ap (λ u. filter (keeps u s.known.own) s.known.cells) (sym h))

  settled-is : (s : StateOf m) (k : Knowledge) (n : ℕ) (r : Rest m) → k ≡ given_up s.known n → with-cells s r (filter (keeps n s.known.own) s.known.cells) ≡ client_of m (record s { known = k }) (record { view = r.view; played = r.played; work = None })
  settled-is s k n r h = ap (λ (l : Knowledge). client_of m (record s { known = l }) (record { view = r.view; played = r.played; work = None })) (sym h)

  client-kept : (s : StateOf m) (k : Knowledge) (n : ℕ) (r : Rest m) → n ≡ upto m (client_of m s r) → k ≡ given_up s.known n → KeepsViewIf m s.view r.view → KeepsClient m (record s { known = k }) None (pruned m (client_of m s r))
  client-kept s k n r hn hk hv = record {
    is = pruned-is s n r hn ∙ settled-is s k n r hk;
    view = hv;
    work = tt;
    drawn = tt;
    fit = tt;
  }

  pub replied : (s : StateOf m) (k : Knowledge) (n old : ℕ) (r : Rest m) (notes : List (NoteOf m)) (sends : List Out) → n ≡ upto m (client_of m s r) → k ≡ given_up s.known n → sends ≡ [] → KeepsViewIf m s.view r.view →
      KeepsMoved m old (record { state = record s { known = k }; work = None; sends = sends; notes = notes }) (replies m (client_of m s r) notes)
  unfolding client_asks
  replied s k n old r notes sends hn hk hs hv = record {
    now = client-kept s k n r hn hk hv;
    sends = hs;
    notes = refl;
  }
