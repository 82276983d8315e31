-- A sequencer's steps keep its lists.
use Rattle.std.proofs.Common.{◌≡◌, ℕ, ◌+◌, ◌<◌, ◌≤◌, List, [], Bool, true, false, refl, sym, ◌∙◌, subst, arith, Option, Some, None}
use Rattle.std.specs.Prelude.{min, nat_le, ◌==◌}
use Rattle.std.proofs.lemmas.Bool.Decides.{nat_tests}
use Rattle.tg_base.specs.Layouts.{Layout}
use Rattle.tg_base.specs.declared.ids.NodeId.{NodeId}
use Rattle.tg_base.specs.declared.ids.Oid.{Oid}
use Rattle.tg_base.specs.declared.msg.Msg.{Msg}
use Rattle.tg_base.specs.declared.msg.Msg.TheVariants as msg
use Rattle.tg_protocol.specs.Requests.{awaits, Next, Goes, Learns, Ends}
use Rattle.tg_protocol.specs.Replies.{reply}
use Rattle.tg_protocol.specs.Cells.{CellJob, CellEnd, Done, Seen, Lost, Fenced, Gone, Gets, place_in, get_cell, cell_feed, cell_asks}
use Rattle.tg_protocol.specs.Sequencers.{SeqrState, SeqrTurn, scanning, scan_on, scans_on, scan_ended, scan_next, fed_if, scan_fed, begun, issued, issue, on_token, unfenced, own_epoch, on_learn, learn_or_old, cell_streams, with_positions, new_seqr, seqr_step}
use Rattle.tg_protocol.specs.Logs.{Log}
use Rattle.tg_law_walks.specs.Walks.Lists.{AreScanned}
use Rattle.tg_law_walks.specs.Walks.Seqrs.{IsHeldPast, HasLists, IsSeqr, ScanEndsAs, ScanStepsAs, IssuesAs, StepsAs, SeqrsStay, SeqrsBegin, SeqrsTell}
use Rattle.tg_law_walks.proofs.Walks.Members.{contrary, lt_of, not_lt}
use Rattle.tg_law_walks.proofs.Walks.Turns.{Fine, cell_fine, same_pos}
use Rattle.tg_law_walks.proofs.Walks.Listing.{lists_grow, links_good, scans_begin, scans_go_on, scans_jump, scans_end}

none_job : (j : CellJob) → None ≡ Some j → ⊥
none_job j e = cc

module _ (l : Log) (bound : ℕ → ℕ) where
  -- a scan goes on, or has ended with good lists
  on_by : (s : SeqrState) (b : Bool) → scanning s ≡ b → HasLists l bound s b → IsSeqr l bound (scan_on s b)
  unfolding get_cell
  on_by s true is h =
      record { lists = subst (HasLists l bound (scan_on s true)) (sym is) h; job = λ j e. (sym (same_pos (record { place = place_in s.proj s.next; work = Gets s.rids }) j e), is) }
  on_by s false is h = record { lists = subst (HasLists l bound (scan_on s false)) (sym is) h; job = λ j e. absurd (none_job j e) }

  on : (s : SeqrState) → HasLists l bound s (scanning s) → IsSeqr l bound (scans_on s)
  on s h = on_by s (scanning s) refl h

  -- what is scanned, up to the start or less
  by_scan : (s : SeqrState) (g : ℕ) → s.next ≤ s.proj.start → AreScanned l g s.next s.lists → IsHeldPast l g s.proj.start → HasLists l bound s (scanning s)
  by_scan s g le h held = by (scanning s) refl
    where
      by : (b : Bool) → scanning s ≡ b → HasLists l bound s b
      by true e = (g, h, held)
      by false e =
          let more = not_lt s.next s.proj.start e in
          let at : s.proj.start ≡ s.next = omega (arith, le, more) in
          λ less. scans_end l g s.next s.lists (subst (λ n. IsHeldPast l g n) at held) h

  start : (s : SeqrState) (q : Layout) → IsSeqr l bound (begun s q)
  start s q = let t : SeqrState = record s { epoch = q.epoch; proj = q; next = 0; lists = []; fence = None; scan = None } in on t (by_scan t 0 (omega arith) (scans_begin l) (nothing q.start))
    where
      nothing : (n : ℕ) → IsHeldPast l 0 n
      nothing n o p less s' = absurd (omega (arith, less))

  held_less : (b start' : ℕ) → IsHeldPast l b start' → IsHeldPast l (min b start') start'
  held_less b start' h o q less s = let k = h o q (omega (arith, less)) s in let le = k.1 in (k.0, omega (arith, le), k.2, k.3)

  -- the cell of a scan has ended
  ends : (s : SeqrState) (j : CellJob) (e : CellEnd) → IsSeqr l bound s → scanning s ≡ true → s.scan ≡ Some j → Fine s.next (Ends e) → ScanEndsAs l s (Ends e) → IsSeqr l bound (scan_ended s e)
  ends s j (Done c) h is at f k =
      let less = lt_of s.next s.proj.start is in
      let n = subst (HasLists l bound s) is h.lists in
      let t : SeqrState = record s { next = s.next + 1; lists = with_positions s.next (cell_streams c) s.lists } in
      on t (by_scan t n.0 (omega (arith, less)) (scans_go_on l n.0 s.next c s.lists k.0 k.1 n.1) n.2)
  ends s j (Gone b) h is at f k =
      let less = lt_of s.next s.proj.start is in
      let n = subst (HasLists l bound s) is h.lists in
      let t : SeqrState = record s { next = min b s.proj.start } in
      on t (by_scan t (min b s.proj.start) (omega arith) (scans_jump l n.0 s.next (min b s.proj.start) s.lists (omega (arith, less, f)) n.1) (held_less b s.proj.start k))
  ends s j (Fenced u e) h is at f k = record { lists = h.lists; job = λ i g. absurd (none_job i g) }
  ends s j Seen h is at f k = h
  ends s j (Lost c) h is at f k = h

  turns : (s : SeqrState) (j : CellJob) (t : Next CellJob CellEnd) (rids : ℕ) → IsSeqr l bound s → s.scan ≡ Some j → Fine j.place.pos t → ScanEndsAs l s t → IsSeqr l bound (scan_next (record s { rids = rids }) t)
  turns s j (Goes k) rids h at f x = record { lists = h.lists; job = λ i e. (sym (same_pos k i e) ∙ (f ∙ (h.job j at).0), (h.job j at).1) }
  turns s j (Learns k) rids h at f x = record { lists = h.lists; job = λ i e. (sym (same_pos k i e) ∙ (f ∙ (h.job j at).0), (h.job j at).1) }
  turns s j (Ends e) rids h at f x =
      ends (record s { rids = rids }) j e (record { lists = h.lists; job = h.job }) (h.job j at).1 at (subst (λ n. Fine n (Ends e)) (h.job j at).0 f) x

  fed_by : (s now : SeqrState) (b : Bool) → IsSeqr l bound s → (b ≡ true → IsSeqr l bound now) → IsSeqr l bound (fed_if b s now).now
  fed_by s now true h k = k refl
  fed_by s now false h k = h

  scans : (s : SeqrState) (o : Option CellJob) (from : NodeId) (rid : ℕ) (x : Msg) → s.scan ≡ o → IsSeqr l bound s → ScanStepsAs l s o from rid x → IsSeqr l bound (scan_fed s o from rid x).now
  scans s None from rid x is h k = h
  scans s (Some j) from rid x is h k =
      fed_by s _ (awaits (cell_asks j) from rid) h (λ a. turns s j (cell_feed j from.num (reply x) s.rids).to _ h is (cell_fine j from.num (reply x) s.rids) (k a))

  -- a position is issued
  issues : (s : SeqrState) (os : List Oid) (from : NodeId) (rid : ℕ) (b : Bool) → nat_le s.limit s.next ≡ b → scanning s ≡ false → IsSeqr l bound s → (s.next < s.limit → IssuesAs l bound s os) → IsSeqr l bound (issue s os from rid b).now
  issues s os from rid true full is h k = h
  issues s os from rid false full is h k = by (k (below s.next s.limit full))
    where
      below : (n m : ℕ) → nat_le m n ≡ false → n < m
      below n m f = grind (arith, nat_tests)

      past : scanning s ≡ false → scanning (issued s os) ≡ false
      past f = let k' = not_lt s.next s.proj.start f in let le : s.proj.start ≤ s.next + 1 = omega (arith, k') in grind (arith, nat_tests)

      by : IssuesAs l bound s os → IsSeqr l bound (issued s os)
      by i = record {
        lists = subst (HasLists l bound (issued s os)) (sym (past is)) (λ le. lists_grow l s.next os s.lists i.once (i.fits (omega (arith, le))) (subst (HasLists l bound s) is h.lists (omega (arith, le))));
        job = λ j e. absurd (contrary (scanning s) is (h.job j e).1);
      }

  tokens : (s : SeqrState) (os : List Oid) (from : NodeId) (rid : ℕ) (b : Bool) → scanning s ≡ b → IsSeqr l bound s → (scanning s ≡ false → s.next < s.limit → IssuesAs l bound s os) → IsSeqr l bound (on_token s os from rid b).now
  tokens s os from rid true is h k = h
  tokens s os from rid false is h k = issues s os from rid _ refl is h (k is)

  open_or : (f : Option ℕ) (s : SeqrState) (from : NodeId) (rid : ℕ) (t : SeqrTurn) → IsSeqr l bound s → (f ≡ None → IsSeqr l bound t.now) → IsSeqr l bound (unfenced f s from rid t).now
  open_or None s from rid t h k = k refl
  open_or (Some e) s from rid t h k = h

  owns : (b : Bool) (s : SeqrState) (from : NodeId) (rid : ℕ) (t : SeqrTurn) → IsSeqr l bound s → (b ≡ true → s.fence ≡ None → IsSeqr l bound t.now) → IsSeqr l bound (own_epoch b s from rid t).now
  owns true s from rid t h k = open_or s.fence s from rid t h (k refl)
  owns false s from rid t h k = h

  same_epoch : (a b : ℕ) → (a == b) ≡ true → a ≡ b
  same_epoch a b e = grind arith

  newer : (s : SeqrState) (q : Layout) (from : NodeId) (rid : ℕ) (b : Bool) → IsSeqr l bound s → IsSeqr l bound (on_learn s q from rid b).now
  newer s q from rid true h = start s q
  newer s q from rid false h = open_or s.fence s from rid _ h (λ f. h)

  learning : (s : SeqrState) (q : Layout) (from : NodeId) (rid : ℕ) (b : Bool) → IsSeqr l bound s → IsSeqr l bound (learn_or_old s q from rid b).now
  learning s q from rid true h = h
  learning s q from rid false h = newer s q from rid _ h

  steps : (s : SeqrState) (from : NodeId) (rid : ℕ) (x : Msg) → IsSeqr l bound s → StepsAs l bound s from rid x → IsSeqr l bound (seqr_step s from rid x).now
  unfolding seqr_step
  steps s from rid (msg.Learn q) h k = learning s q from rid _ h
  steps s from rid (msg.Token e os) h k =
      owns _ s from rid _ h (λ own f. tokens s os from rid (scanning s) refl h (λ ready room. k (record { own = same_epoch e s.epoch own; unfenced = f; ready = ready; room = room })))
  steps s from rid (msg.Check e os) h k = owns _ s from rid _ h (λ own f. h)
  steps s from rid x h k = scans s s.scan from rid x refl h k

pub seqrs_stay : SeqrsStay
seqrs_stay l bound s from rid x h k = steps l bound s from rid x h k

pub seqrs_begin : SeqrsBegin
unfolding new_seqr
seqrs_begin l bound num limit first' = record { lists = by_scan l bound (new_seqr num limit first') 0 (omega arith) (scans_begin l) nothing; job = λ j e. absurd (none_job j e) }
  where
    nothing : IsHeldPast l 0 first'.start
    nothing o p less s = absurd (omega (arith, less))

pub seqrs_tell : SeqrsTell
seqrs_tell l bound s os o h is le i = links_good l s.next os s.lists o i (subst (HasLists l bound s) is h.lists le)
