-- What a world through which a run came has, the world has to which the run comes; and of the log what was settled there was there.
use Rattle.std.proofs.Common.{◌≡◌, ◌⊎◌, ℕ, ◌≤◌, ◌∷◌, ◌++◌, List, refl, sym, ap, ◌∙◌, inl, inr, arith, Some, Option}
use Rattle.tg_base.specs.Clusters.{Header}
use Rattle.tg_base.specs.Layouts.{Layout}
use Rattle.tg_base.specs.declared.cell.Cell.{Cell}
use Rattle.tg_base.specs.declared.cell.Cell.TheVariants.{Data}
use Rattle.tg_base.specs.declared.ids.Oid.{Oid}
use Rattle.tg_base.specs.declared.marks.StreamLink.{StreamLink}
use Rattle.tg_base.specs.declared.packet.Packet.{Packet}
use Rattle.tg_entry.specs.declared.entry.Entry.{Entry}
use Rattle.tg_kind.specs.Meaning.{Meaning}
use Rattle.tg_model.specs.Kinds.{EventOf}
use Rattle.tg_protocol.specs.Alike.{HasEntry}
use Rattle.tg_protocol.specs.Chosen.{Sent, IsDecided}
use Rattle.tg_protocol.specs.Logs.{entries_of, entry_at}
use Rattle.tg_protocol.specs.Pages.{cell_entry}
use Rattle.tg_protocol.specs.Runs.{Moves, Takes, Reaches}
use Rattle.tg_protocol.specs.Worlds.{log}
use Rattle.tg_law_layouts.specs.Moves.After.{after}
use Rattle.tg_law_layouts.proofs.Moves.Lists.{contained}
use Rattle.tg_law_layouts.proofs.Moves.Members as moves
use Rattle.tg_law_layouts.proofs.Layouts.Deciding.{decided_stays}
use Rattle.tg_law_cells.specs.Tokens.Issuing.{Issued}
use Rattle.tg_law_cells.proofs.Tokens.Linked.{PageOf, page_in}
use Rattle.tg_law_cells.specs.Order.Tails.{ToldTail, IsSettledBelow, ConfirmedTail}
use Rattle.tg_law_cells.specs.Entries.Archive.{TrimsWereSafe}
use Rattle.tg_law_cells.proofs.Entries.Archive.{log_is_settled}
use Rattle.tg_law_cells.proofs.Entries.Lists.{joined}
use Rattle.tg_law_replies.proofs.History.Members.{has_contained, contained_has}
use Rattle.tg_law_walks.proofs.Walks.Cells.{there_entry, entry_there}
use Rattle.tg_law_walks.proofs.Walks.Syncs.{logs_by_position}
use Rattle.tg_law_walks.specs.Lists.Spared.{IsSaved, WasSettled, TrimsWereSpare}
use Rattle.tg_law_walks.proofs.Lists.Ends.{cell_of}
use Rattle.tg_law_walks.proofs.Lists.Reached.{before_reached, goes_later}
use Rattle.tg_law_walks.proofs.Lists.Safe.{safe_before}
use Rattle.tg_law_syncs.proofs.Syncs.Later.{grow, late}
use Rattle.tg_law_syncs.proofs.Exact.Finds.{spare_before}
use Rattle.tg_law_headline.specs.Trims.Spare.{WereSpare}
use Rattle.tg_law_headline.specs.Decisions.Decisions.{IsDecidedBy}

module _ (m : Meaning) (h : Header) (zs : Moves m) (r : Reaches m h zs (after m h zs)) (xs ys : Moves m) (split : zs ≡ xs ++ ys) where
  sent_late : (x : Packet) → Sent m (after m h xs) x → Sent m (after m h zs) x
  sent_late x g = contained (after m h zs).packets x (grow m h zs r xs ys split x (moves.has_contained (after m h xs).packets x g))

  pub layout_late : (e : ℕ) (q : Layout) → IsDecided m (after m h xs) e q → IsDecided m (after m h zs) e q
  layout_late e q d = (decided_stays m h xs (after m h xs) (after m h zs) (before_reached m h zs r xs ys split) (goes_later m h zs r xs ys split)).stays e q d

  pub issued_late : (s epoch pos : ℕ) (os : List Oid) (ls : List StreamLink) → Issued m (after m h xs) s epoch pos os ls → Issued m (after m h zs) s epoch pos os ls
  issued_late s epoch pos os ls i = record {
    ask = i.ask;
    answer = i.answer;
    asked = sent_late i.ask i.asked;
    answered = sent_late i.answer i.answered;
    to_seqr = i.to_seqr;
    from_seqr = i.from_seqr;
    back = i.back;
    number = i.number;
    asks = i.asks;
    issues = i.issues;
  }

  told_late : (s epoch tail : ℕ) → ToldTail m (after m h xs) s epoch tail → ToldTail m (after m h zs) s epoch tail
  told_late s epoch tail t = record {
    streams = t.streams;
    links = t.links;
    ask = t.ask;
    answer = t.answer;
    asked = sent_late t.ask t.asked;
    answered = sent_late t.answer t.answered;
    to_seqr = t.to_seqr;
    from_seqr = t.from_seqr;
    back = t.back;
    number = t.number;
    asks = t.asks;
    tells = t.tells;
  }

  pub tail_late : (epoch tail : ℕ) → ConfirmedTail m (after m h xs) (after m h xs) epoch tail → ConfirmedTail m (after m h zs) (after m h zs) epoch tail
  tail_late epoch tail t = record { some = t.some; layout = t.layout; decided = layout_late epoch t.layout t.decided; told = told_late t.layout.seq epoch tail t.told; confirmed = by t.confirmed }
    where
      by : (tail ≤ t.layout.start) ⊎ IsSettledBelow m (after m h xs) epoch tail → (tail ≤ t.layout.start) ⊎ IsSettledBelow m (after m h zs) epoch tail
      by (inl le) = inl le
      by (inr s) = inr (record { below = s.below; is = s.is; cell = s.cell; settled = late m h zs r xs ys split s.below s.cell s.settled; early = s.early })

  pub settled_late : (last later p : ℕ) → last ≤ later → WasSettled m (after m h xs) last p → WasSettled m (after m h zs) later p
  settled_late last later p le s = record { cell = s.cell; settled = late m h zs r xs ys split p s.cell s.settled; in_time = (let a = s.in_time in omega (arith, a, le)) }

  abbrev pub saved_late : (o : Oid) (e b : ℕ) → IsSaved m (after m h xs) o e b → IsSaved m (after m h zs) o e b
  saved_late o e b s = record { at = s.at; after = s.after; page = s.page; settled = late m h zs r xs ys split s.at (Data s.page) s.settled; in_time = s.in_time; entry = s.entry; reads = s.reads; stands = s.stands; saves = s.saves }

  module _ (safe : TrimsWereSafe m h zs) where
    early : TrimsWereSafe m h xs
    early before e later at = safe before e (later ++ ys) (split ∙ (ap (λ (ms : Moves m). ms ++ ys) at ∙ joined before (Takes e ∷ later) ys))

    reached : Reaches m h xs (after m h xs)
    reached = before_reached m h zs r xs ys split

    pub entry_stays : (p : ℕ) (e : Entry) → HasEntry m (after m h xs) p e → HasEntry m (after m h zs) p e
    entry_stays p e i = by (page_in (log m (after m h xs)) p e (moves.has_contained (entries_of (log m (after m h xs))) (p, e) i))
      where
        by : PageOf (log m (after m h xs)) p e → HasEntry m (after m h zs) p e
        by k =
            let s = (log_is_settled m h xs (after m h xs) reached early).settled p (Data k.page) (contained (log m (after m h xs)) (p, Data k.page) k.here) in
            let c = cell_of m h zs r safe p (Data k.page) (late m h zs r xs ys split p (Data k.page) s) in
            contained_has (entries_of (log m (after m h zs))) (p, e) (there_entry (log m (after m h zs)) p e (ap (λ (y : Option Cell). cell_entry y) c ∙ k.reads))

    -- an entry whose position was settled before stood there before
    pub entry_was : (last p : ℕ) (e : Entry) → WasSettled m (after m h xs) last p → HasEntry m (after m h zs) p e → HasEntry m (after m h xs) p e
    entry_was last p e s i =
        let a = cell_of m h xs reached early p s.cell s.settled in
        let b = cell_of m h zs r safe p s.cell (late m h zs r xs ys split p s.cell s.settled) in
        let at : entry_at (log m (after m h zs)) p ≡ Some e = entry_there 0 (log m (after m h zs)) p e (logs_by_position m (after m h zs)) (has_contained (entries_of (log m (after m h zs))) (p, e) i) in
        contained_has (entries_of (log m (after m h xs))) (p, e) (there_entry (log m (after m h xs)) p e (ap (λ (y : Option Cell). cell_entry y) (a ∙ sym b) ∙ at))

    pub decided_late : (last p : ℕ) (e : Entry) → IsDecidedBy m (after m h xs) last p e → IsDecidedBy m (after m h zs) last p e
    decided_late last p e d = record {
      at = d.at;
      decision = d.decision;
      here = entry_stays d.at d.decision d.here;
      above = d.above;
      settled = settled_late last last d.at (omega arith) d.settled;
      is_yes = d.is_yes;
      says = d.says;
      streams = d.streams;
    }

-- Up to a world through which a run came, trims were spare as they were in the run.
module _ (m : Meaning) (h : Header) (zs : Moves m) (r : Reaches m h zs (after m h zs)) (trims : TrimsWereSpare m h zs) where
  pub front_spare : (xs ys : Moves m) → zs ≡ xs ++ ys → TrimsWereSpare m h xs
  front_spare xs ys split = spare_before m h zs xs ys trims split (safe_before m h zs r trims xs ys split)

  pub step_spare : (b a : Moves m) (x : EventOf m) → zs ≡ b ++ Takes x ∷ a → WereSpare m h b
  step_spare b a x split = record { were = front_spare b (Takes x ∷ a) split; now = trims.spare (after m h b) (record { before = b; event = x; later = a; split = split; is = refl }) }
