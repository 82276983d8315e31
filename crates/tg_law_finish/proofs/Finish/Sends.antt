-- What a sequencer sends, of a fact of messages that holds of each request: of these its scan consists.
use Rattle.std.proofs.Common.{◌≡◌, ℕ, List, [], ◌∷◌, Bool, true, false, refl, sym, subst, inl, inr, Option, Some, None}
use Rattle.tg_base.specs.Layouts.{Layout}
use Rattle.tg_base.specs.declared.ids.NodeId.{NodeId}
use Rattle.tg_base.specs.declared.msg.Msg.{Msg}
use Rattle.tg_base.specs.declared.msg.Msg.TheVariants as msg
use Rattle.tg_base.specs.declared.packet.Out.{Out}
use Rattle.tg_protocol.specs.Words.{unit_id}
use Rattle.tg_protocol.specs.Requests.{out, awaits, drawn_from}
use Rattle.tg_protocol.specs.Replies.{reply}
use Rattle.tg_protocol.specs.Cells.{CellWork, Puts, Gets, Fills, Copies, Probes, CellJob, Place, work_asks, cell_asks, cell_feed}
use Rattle.tg_protocol.specs.Sequencers.{SeqrState, scanning, scan_asks, scan_turn, scan_fed, fed_if, begun, stand_answer, on_learn, seqr_tick}
use Rattle.tg_law_layouts.specs.Moves.Telling.{is_request}
use Rattle.tg_law_layouts.proofs.Moves.Members.{Has, has_map, has_filter}

module _ (P : Msg → Type 0) where
  abbrev pub AllSent : List Out → Type 0
  AllSent os = (o : Out) → Has os o → P o.msg

  pub one_sent : (to : NodeId) (rid : ℕ) (x : Msg) → P x → AllSent (out to rid x ∷ [])
  one_sent to rid x n o (inl e) = subst (λ (y : Out). P y.msg) (sym e) n
  one_sent to rid x n o (inr h) = absurd h

  more_sent : (o : Out) (os : List Out) → P o.msg → AllSent os → AllSent (o ∷ os)
  more_sent o os n f x (inl e) = subst (λ (y : Out). P y.msg) (sym e) n
  more_sent o os n f x (inr h) = f x h

  none_sent : AllSent []
  none_sent o h = absurd h

  module _ (asks : (y : Msg) → is_request y ≡ true → P y) where
    work_sent : (a : Place) (w : CellWork) → AllSent (work_asks a w)
    unfolding work_asks is_request
    work_sent a (Puts r d i) = one_sent _ r _ (asks (msg.Write a.epoch a.pos d) refl)
    work_sent a (Gets r) = one_sent _ r _ (asks (msg.Read a.epoch a.pos) refl)
    work_sent a (Fills r) = one_sent _ r _ (asks (msg.Fill a.epoch a.pos) refl)
    work_sent a (Copies r c i) = one_sent _ r _ (asks (msg.Copy a.epoch a.pos c) refl)
    work_sent a (Probes ws) = λ o h. let i = has_map (λ (w : ℕ × ℕ). out (unit_id w.0) w.1 (msg.Has a.epoch a.pos a.pos 1)) ws o h in subst (λ (y : Out). P y.msg) (sym i.is) (asks (msg.Has a.epoch a.pos a.pos 1) refl)

    scan_sent : (j : Option CellJob) → AllSent (scan_asks j)
    scan_sent None = none_sent
    scan_sent (Some j) = work_sent j.place j.work

    drawn_sent : (low : ℕ) (j : Option CellJob) → AllSent (drawn_from low (scan_asks j))
    drawn_sent low j o h = scan_sent j o (has_filter _ (scan_asks j) o h)

    -- its scan begins in a newer layout, behind the answer to the one who told it
    pub begun_sent : (s : SeqrState) (q : Layout) (from : NodeId) (rid : ℕ) → P (stand_answer (begun s q) [] (scanning (begun s q))) → AllSent (on_learn s q from rid true).sends
    begun_sent s q from rid n = more_sent (out from rid (stand_answer (begun s q) [] (scanning (begun s q)))) (drawn_from s.rids (scan_asks (begun s q).scan)) n (drawn_sent s.rids (begun s q).scan)

    fed_sent : (b : Bool) (s t : SeqrState) → AllSent (fed_if b s t).sends
    fed_sent true s t = drawn_sent s.rids t.scan
    fed_sent false s t = none_sent

    pub scan_fed_sent : (s : SeqrState) (j : Option CellJob) (from : NodeId) (rid : ℕ) (y : Msg) → AllSent (scan_fed s j from rid y).sends
    scan_fed_sent s None from rid y = none_sent
    scan_fed_sent s (Some j) from rid y = fed_sent (awaits (cell_asks j) from rid) s (scan_turn s (cell_feed j from.num (reply y) s.rids))

    pub tick_sent : (s : SeqrState) → AllSent (seqr_tick s).sends
    unfolding seqr_tick
    tick_sent s = scan_sent s.scan
