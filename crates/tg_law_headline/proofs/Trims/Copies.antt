-- What a unit has told as gone to a client that copies was asked to be trimmed before.
use Rattle.std.proofs.Common.{◌≡◌, ℕ, sym, ap, ◌∙◌, subst, arith, Some, Option, true}
use Rattle.tg_base.specs.Clusters.{Header}
use Rattle.tg_base.specs.Layouts.{Layout}
use Rattle.tg_base.specs.declared.msg.Msg.{Msg}
use Rattle.tg_base.specs.declared.packet.Out.{Out}
use Rattle.tg_base.specs.declared.packet.Packet.{Packet}
use Rattle.tg_kind.specs.Meaning.{Meaning}
use Rattle.tg_protocol.specs.Words.{client_id, unit_id}
use Rattle.tg_protocol.specs.Units.{unit_ask}
use Rattle.tg_protocol.specs.Requests.{awaits, Ends}
use Rattle.tg_protocol.specs.Replies.{reply}
use Rattle.tg_protocol.specs.Cells.{CellJob, Gone, cell_asks, cell_feed}
use Rattle.tg_protocol.specs.Trimming.{CopyWork, Sealing, Reading, Storing, Trimming, Looking, Copying, copy_work_asks}
use Rattle.tg_protocol.specs.Clients.{Copying', Hand, Doing, Work}
use Rattle.tg_protocol.specs.ClientSteps.{task_asks, task_awaited}
use Rattle.tg_protocol.specs.Runs.{Moves, Reaches}
use Rattle.tg_law_layouts.specs.Moves.After.{after}
use Rattle.tg_law_layouts.specs.Moves.Configs.{config, client_in}
use Rattle.tg_law_layouts.proofs.Moves.Clients.{reserved, work_reserved, hand_reserved}
use Rattle.tg_law_layouts.proofs.Moves.Lists.{contained}
use Rattle.tg_law_layouts.proofs.Moves.Members.{Has}
use Rattle.tg_law_layouts.proofs.Moves.Moves.{Comes}
use Rattle.tg_law_layouts.proofs.Requests.Starts.{All, all_hold}
use Rattle.tg_law_cells.proofs.Cells.Justified.{Awaited, awaited_ask}
use Rattle.tg_law_cells.specs.Homes.Homes.{TrimAsked, ToldGone, epoch_asked}
use Rattle.tg_law_cells.proofs.Homes.Gones.{gone_is_asked}
use Rattle.tg_law_walks.proofs.Lists.Scanning.{AtTrim, OfUnit, at_trim, is_gone}

module _ (p : Layout) (c : Copying) where
  reading_has : (w : CopyWork) (j : CellJob) → w ≡ Reading j → (o : Out) → Has (copy_work_asks p c w) o → Has (cell_asks j) o
  unfolding copy_work_asks
  reading_has (Reading k) j e o i = subst (λ (y : CellJob). Has (cell_asks y) o) (same k j e) i
    where
      same : (a b : CellJob) → Reading a ≡ Reading b → a ≡ b
      same a b i = cc
  reading_has (Sealing r) j e o i = absurd (cc)
  reading_has (Storing r q x) j e o i = absurd (cc)
  reading_has (Trimming r b) j e o i = absurd (cc)
  reading_has (Looking r) j e o i = absurd (cc)

module _ (m : Meaning) (h : Header) (xs : Moves m) (r : Reaches m h xs (after m h xs)) (k : ℕ) (x : Packet) (comes : Comes m (config m (after m h xs)) x (client_id k)) where
  abbrev p : Layout
  p = (client_in m (config m (after m h xs)) k).stand

  all : All m (config m (after m h xs))
  all = all_hold m h xs

  module _ (work : Work m) (c : Copying) (works : (client_in m (config m (after m h xs)) k).work ≡ Some work) (hand : work.hand ≡ Doing (Copying' c)) (awaited : awaits (task_awaited m p (Copying' c)) x.from x.rid ≡ true) where
    reading_asks : (j : CellJob) → c.work ≡ Reading j → (o : Out) → Has (task_awaited m p (Copying' c)) o → Has (cell_asks j) o
    unfolding task_asks
    reading_asks j e o i = reading_has p c c.work j e o i

    -- its request, as it may still be answered
    open_out : (o : Out) → Has (task_awaited m p (Copying' c)) o → Has (reserved m (client_in m (config m (after m h xs)) k)) o
    open_out o g = subst (λ (w : Option (Work m)). Has (work_reserved m p w) o) (sym works) (subst (λ (d : Hand m). Has (hand_reserved m p d) o) (sym hand) g)

    pub copy_gone : (j : CellJob) (b next : ℕ) → c.work ≡ Reading j → j.place.epoch ≡ p.epoch → (cell_feed j x.from.num (reply x.msg) next).to ≡ Ends (Gone b) → TrimAsked m (after m h xs) p.epoch b
    copy_gone j b next is at ends = by (awaited_ask (task_awaited m p (Copying' c)) x.from x.rid awaited)
      where
        trim : AtTrim j (reply x.msg) b
        trim = at_trim j x.from.num (reply x.msg) next b ends

        by : Awaited (task_awaited m p (Copying' c)) x.from x.rid → TrimAsked m (after m h xs) p.epoch b
        by w = of_unit (trim.asks w.ask (reading_asks j is w.ask w.has))
          where
            of_unit : OfUnit j.place.epoch w.ask → TrimAsked m (after m h xs) p.epoch b
            of_unit of =
                let from : x.from ≡ unit_id of.1.0 = sym w.to ∙ of.1.1 in
                let heard = all.0.1.answered of.1.0 x comes.sent from in
                let same : w.ask.msg ≡ heard.ask.msg = (all.0.0.clients k).agree w.ask heard.ask (open_out w.ask w.has) heard.asked (heard.from ∙ comes.to_node) heard.request (w.number ∙ sym heard.rid) (w.to ∙ sym heard.to) in
                let told : ToldGone m (after m h xs) of.1.0 p.epoch b = record {
                  ask = heard.ask;
                  answer = x;
                  asked = contained _ heard.ask heard.asked;
                  answered = contained _ x comes.sent;
                  to_unit = heard.to ∙ from;
                  from_unit = from;
                  back = sym heard.from;
                  number = sym heard.rid;
                  request = heard.request;
                  of = ap (λ (y : Msg). epoch_asked (unit_ask y)) (sym same) ∙ (of.0 ∙ at);
                  is = is_gone x.msg b trim.says;
                } in
                gone_is_asked m h xs (after m h xs) r of.1.0 p.epoch b told (let l = trim.past in omega (arith, l))
