-- What follows a confirmed tail, in whatever layout.
use Rattle.std.proofs.Common.{◌≡◌, ◌⊎◌, ℕ, ◌≤◌, ◌++◌, List, sym, subst, inl, inr, arith}
use Rattle.tg_base.specs.Clusters.{Header, IsHeader}
use Rattle.tg_base.specs.declared.msg.Msg.{Msg}
use Rattle.tg_base.specs.declared.packet.Packet.{Packet}
use Rattle.tg_kind.specs.Meaning.{Meaning}
use Rattle.tg_protocol.specs.Entries.{streams_of}
use Rattle.tg_protocol.specs.Chosen.{Sent, IsDecided}
use Rattle.tg_protocol.specs.Runs.{Moves, LawfulCommand, Reaches, Passes}
use Rattle.tg_protocol.specs.Worlds.{World}
use Rattle.tg_law_layouts.specs.Moves.After.{after}
use Rattle.tg_law_layouts.proofs.Moves.Lists.{contained}
use Rattle.tg_law_layouts.proofs.Moves.Members.{has_contained}
use Rattle.tg_law_layouts.proofs.Moves.Moves.{AllGive}
use Rattle.tg_law_layouts.specs.Layouts.Decisions.{IsOfDecided}
use Rattle.tg_law_layouts.proofs.Layouts.Deciding.{layouts_are_sound}
use Rattle.tg_law_layouts.proofs.Layouts.Layouts.{more}
use Rattle.tg_law_cells.specs.Tokens.Issuing.{Issued, IsOwnPage}
use Rattle.tg_law_cells.proofs.Tokens.Own.{own_page, pages_hold, pages_are_own}
use Rattle.tg_law_cells.proofs.Tokens.Sent.{Justified}
use Rattle.tg_law_cells.specs.Order.Tails.{EachPassed}
use Rattle.tg_law_cells.proofs.Order.Tails.{confirmed_tails_precede}
use Rattle.tg_law_cells.proofs.Order.Later.{tails_rise}
use Rattle.tg_law_cells.specs.Places.Late.{WasSent, IsNew, StoodTail, NewPagesFollow, ServedTailsRise}
use Rattle.tg_law_cells.proofs.Places.Late.{late_pages}
use Rattle.tg_law_cells.proofs.Places.Left.{passed_lawful, served_chains_are_late}

module _ (m : Meaning) where
  -- a new page wasn't sent before

  abbrev pub NewUnsent : World m → World m → Type 0
  NewUnsent u v = (first pos : ℕ) (page : List ℕ) → IsNew m u v pos page → WasSent m u first pos page → ⊥

  pub new_unsent : EachPassed m NewUnsent
  new_unsent = passed_lawful m NewUnsent by
    where
      by : (h : Header) (xs ys : Moves m) → IsHeader h → AllGive m (LawfulCommand m) xs → AllGive m (LawfulCommand m) (xs ++ ys) → NewUnsent (after m h xs) (after m h (xs ++ ys))
      by h xs ys header a b first pos page new x = new x.packet o.seqr x.epoch (streams_of o.draft) o.links (up x.packet x.sent) x.is issued o.own o.issued.answered
        where
          up : (p : Packet) → Sent m (after m h xs) p → Sent m (after m h (xs ++ ys)) p
          up p g = contained _ p (more m h xs ys p (has_contained _ p g))

          o : IsOwnPage m (after m h xs) x.packet.from x.epoch pos page
          o = own_page m (after m h xs) x.packet.from x.epoch pos page (subst (λ (y : Msg). Justified (after m h xs).packets x.packet.from x.packet.to y) x.is ((pages_hold m h xs).sent x.packet (has_contained _ x.packet x.sent)))

          issued : Issued m (after m h (xs ++ ys)) o.seqr x.epoch pos (streams_of o.draft) o.links
          issued = record {
            ask = o.issued.ask;
            answer = o.issued.answer;
            asked = up o.issued.ask o.issued.asked;
            answered = up o.issued.answer o.issued.answered;
            to_seqr = o.issued.to_seqr;
            from_seqr = o.issued.from_seqr;
            back = o.issued.back;
            number = o.issued.number;
            asks = o.issued.asks;
            issues = o.issued.issues;
          }

  module _ (h : Header) (ms : Moves m) (u v : World m) (r : Reaches m h ms v) (x : Passes m h ms u) where
    stood_at : (epoch tail : ℕ) → (t : StoodTail m u v epoch tail) → t.confirmed.layout.epoch ≡ epoch
    stood_at epoch tail t = (layouts_are_sound m h ms v r epoch t.confirmed.layout t.confirmed.decided).epoch

    stood : (epoch tail : ℕ) → (t : StoodTail m u v epoch tail) → IsOfDecided m u t.confirmed.layout
    stood epoch tail t = subst (λ (e : ℕ). IsDecided m u e t.confirmed.layout) (sym (stood_at epoch tail t)) t.stood

    follow : NewPagesFollow m u v
    follow epoch tail pos page t settled new = by (late_pages m h ms u v r x pos page settled t.confirmed.layout (stood epoch tail t))
      where
        issued : WasSent m v t.confirmed.layout.epoch pos page → tail ≤ pos
        issued s =
            let o = pages_are_own m h ms v r s.packet s.epoch pos page s.sent s.is in
            let late = s.late in
            let at = stood_at epoch tail t in
            confirmed_tails_precede m h ms u v r x o.seqr epoch s.epoch tail pos t.confirmed (omega (arith, late, at))
            (record { streams = streams_of o.draft; links = o.links; issued = o.issued; since = λ g. new s.packet o.seqr s.epoch (streams_of o.draft) o.links s.sent s.is o.issued o.own g })

        by : WasSent m u 0 pos page ⊎ WasSent m v t.confirmed.layout.epoch pos page → tail ≤ pos
        by (inl s) = absurd (new_unsent h ms u v r x 0 pos page new s)
        by (inr s) = issued s

    rise : ServedTailsRise m u v
    rise s epoch tail low pos p t told dp served =
        let late = served_chains_are_late m h ms u v r x p t.confirmed.layout pos dp served (stood epoch tail t) in
        let at = stood_at epoch tail t in
        tails_rise m h ms u v r x s epoch p.epoch tail low t.confirmed (omega (arith, late, at)) told

  pub new_pages_follow : EachPassed m (NewPagesFollow m)
  new_pages_follow h ms u v r x = follow h ms u v r x

  pub served_tails_rise : EachPassed m (ServedTailsRise m)
  served_tails_rise h ms u v r x = rise h ms u v r x
