-- A decision record stands above the commit record that it decides, in each of that record's streams.
use Rattle.std.proofs.Common.{◌≡◌, ℕ, ◌<◌, List, [], ◌∷◌, ◌++◌, map, Bool, true, ◌||◌, refl, sym, ap, ◌∙◌, subst, arith, Option, Some}
use Rattle.std.specs.List.{list_any}
use Rattle.tg_base.specs.Clusters.{Header}
use Rattle.tg_base.specs.Orders.{oid_eq}
use Rattle.tg_base.specs.declared.cell.Cell.{Cell}
use Rattle.tg_base.specs.declared.cell.Cell.TheVariants.{Data}
use Rattle.tg_base.specs.declared.ids.Oid.{Oid}
use Rattle.tg_base.specs.declared.marks.StreamLink.{StreamLink}
use Rattle.tg_entry.specs.Format.{tag_of}
use Rattle.tg_entry.specs.declared.entry.Body.TheVariants.{Decision}
use Rattle.tg_entry.specs.declared.entry.Entry.{Entry}
use Rattle.tg_kind.specs.Meaning.{Meaning}
use Rattle.tg_protocol.specs.Alike.{HasEntry}
use Rattle.tg_protocol.specs.Entries.{oid_of_link, streams_of, lists}
use Rattle.tg_protocol.specs.Holding.{append_by, WasBegun}
use Rattle.tg_protocol.specs.Logs.{entries_of, entry_at}
use Rattle.tg_protocol.specs.Pages.{cell_entry}
use Rattle.tg_protocol.specs.Runs.{Moves, Reaches}
use Rattle.tg_protocol.specs.Worlds.{World, client, log}
use Rattle.tg_law_layouts.specs.Moves.After.{after}
use Rattle.tg_law_layouts.specs.Moves.Configs.{config, client_in}
use Rattle.tg_law_cells.specs.Cells.Settled.{IsSettled}
use Rattle.tg_law_replies.proofs.History.Members.{has_contained, contained_has}
use Rattle.tg_law_replies.proofs.Books.Records.{InHand, in_hand}
use Rattle.tg_law_walks.proofs.Walks.Cells.{entry_there, there_entry}
use Rattle.tg_law_walks.proofs.Walks.Syncs.{logs_by_position}
use Rattle.tg_law_walks.specs.Lists.Spared.{TrimsWereSpare}
use Rattle.tg_law_walks.proofs.Lists.Ends.{cell_of}
use Rattle.tg_law_syncs.proofs.Syncs.Later.{late}
use Rattle.tg_law_walks.proofs.Drafts.Became.{Holds}
use Rattle.tg_law_walks.proofs.Drafts.Drafts.{records_were_begun}
use Rattle.tg_law_walks.proofs.Drafts.Written.{regroup}
use Rattle.tg_law_cells.proofs.Places.Past.{new_pages_rise}
use Rattle.tg_law_syncs.proofs.Exact.Finds.{at_end}
use Rattle.tg_law_headline.specs.Decisions.Decisions.{DecisionsHaveRecords, DecisionsFollow, DecisionsHaveRecordsBySpareTrims, DecisionsFollowBySpareTrims}
use Rattle.tg_law_headline.proofs.Decisions.Begun.{Recorded, Began, began_at}
use Rattle.tg_law_headline.proofs.Decisions.New.{IsLater, page_there, page_settled, page_new}

-- An entry is listed by the objects of its streams.

by_objects : (ls : List StreamLink) (o : Oid) → list_any (λ l. oid_eq l.oid o) ls ≡ list_any (λ x. oid_eq x o) (map oid_of_link ls)
by_objects [] o = refl
by_objects (l ∷ ls) o = ap (λ (b : Bool). oid_eq l.oid o || b) (by_objects ls o)

same_lists : (d e : Entry) (o : Oid) → streams_of d ≡ streams_of e → lists e o ≡ true → lists d o ≡ true
same_lists d e o same is = by_objects d.head.streams o ∙ (ap (λ (os : List Oid). list_any (λ x. oid_eq x o) os) same ∙ (sym (by_objects e.head.streams o) ∙ is))

same_entry : (a b : Entry) (x : Option Entry) → x ≡ Some a → x ≡ Some b → a ≡ b
same_entry a b x e f = cc

module _ (m : Meaning) (h : Header) (zs : Moves m) (reach : Reaches m h zs (after m h zs)) (trims : TrimsWereSpare m h zs) where
  abbrev w : World m
  w = after m h zs

  -- the cell that was settled at a position is the log's
  there : (p : ℕ) (e : Entry) (d : List ℕ) → IsSettled m (after m h zs) p (Data d) → cell_entry (Some (Data d)) ≡ Some e → HasEntry m (after m h zs) p e
  there p e d s read = contained_has (entries_of (log m (after m h zs))) (p, e) (there_entry (log m (after m h zs)) p e (ap (λ (c : Option Cell). cell_entry c) (cell_of m h zs reach trims.safe p (Data d) s) ∙ read))

  module _ (at p : ℕ) (d : Entry) (so : Bool) (has : HasEntry m (after m h zs) at d) (is : d.body ≡ Decision p so) where
    abbrev k : ℕ
    k = d.head.client

    tag : tag_of d.body ≡ 2
    tag = ap tag_of is

    -- its client had it in hand
    was : WasBegun m h zs d
    was = records_were_begun m h zs (after m h zs) reach at d has (λ saves. omega (arith, tag, saves))

    abbrev first : Moves m
    first = was.passed.before

    hand : InHand m (client m (after m h first) k) was.append
    hand = in_hand m (client m (after m h first) k) was.append (subst (λ (v : World m). append_by m (client m v k).work ≡ Some was.append) was.passed.is was.begun)

    holds : Holds m (client_in m (config m (after m h first)) k) was.append
    holds = record { work = hand.work; purpose = hand.purpose; has = hand.works; holds = hand.task }

    -- for a record that was settled in a world before that
    began : Began m h zs reach trims first k was.append.draft p
    began = began_at m h zs reach trims first was.passed.after was.passed.split k was.append holds p so (ap (λ (x : Entry). x.body) (sym was.draft) ∙ is)

    abbrev us : Moves m
    us = began.before

    abbrev vs : Moves m
    vs = began.later ++ was.passed.after

    begins : zs ≡ us ++ vs
    begins = was.passed.split ∙ (ap (λ (ms : Moves m). ms ++ was.passed.after) began.split ∙ regroup m began.before began.later was.passed.after)

    record_at : Recorded m (after m h us) p began.of.entry
    record_at = began.of.of

    settled_now : IsSettled m (after m h zs) p (Data record_at.page)
    settled_now = late m h zs reach us vs begins p (Data record_at.page) record_at.settled

    has_record : HasEntry m (after m h zs) p began.of.entry
    has_record = there p began.of.entry record_at.page settled_now record_at.reads

    later : IsLater m h zs reach us vs begins k d
    later = (tag, let a = began.number in let b = ap (λ (x : Entry). x.head.number) was.draft in omega (arith, a, b))

    above : p < at
    above = new_pages_rise m h zs (after m h us) (after m h zs) reach (record { before = us; after = vs; split = begins; is = refl }) p at record_at.page
        (page_there m h zs reach us vs begins trims.safe at d has later) record_at.settled (page_settled m h zs reach us vs begins trims.safe at d has later) (page_new m h zs reach us vs begins trims.safe at d has later)

    in_streams : (e : Entry) → HasEntry m (after m h zs) p e → (o : Oid) → lists e o ≡ true → lists d o ≡ true
    in_streams e i o l = same_lists d e o (was.streams ∙ (began.of.streams ∙ ap (λ (x : Entry). streams_of x) same)) l
      where
        at_p : (x : Entry) → HasEntry m (after m h zs) p x → entry_at (log m (after m h zs)) p ≡ Some x
        at_p x j = entry_there 0 (log m (after m h zs)) p x (logs_by_position m (after m h zs)) (has_contained (entries_of (log m (after m h zs))) (p, x) j)

        same : began.of.entry ≡ e
        same = same_entry began.of.entry e (entry_at (log m (after m h zs)) p) (at_p began.of.entry has_record) (at_p e i)

  have_records : DecisionsHaveRecords m (after m h zs)
  have_records at p d so has is = record { record_at = (began at p d so has is).of.entry; here = has_record at p d so has is; commit = (record_at at p d so has is).commit }

  follow : DecisionsFollow m (after m h zs)
  follow at p d e so has is i = (above at p d so has is, in_streams at p d so has is e i)

module _ (m : Meaning) where
  pub decisions_have_records : DecisionsHaveRecordsBySpareTrims m
  decisions_have_records = at_end m (λ h ms w. DecisionsHaveRecords m w) (λ h ms r trims. have_records m h ms r trims)

  pub decisions_follow : DecisionsFollowBySpareTrims m
  decisions_follow = at_end m (λ h ms w. DecisionsFollow m w) (λ h ms r trims. follow m h ms r trims)
