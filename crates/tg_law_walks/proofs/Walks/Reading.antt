-- What walks read is settled, and the log's where it isn't trimmed.
use Rattle.std.proofs.Common.{◌≡◌, ◌⊎◌, ℕ, [], ◌++◌, length, refl, sym, ap, ◌∙◌, subst, inl, inr, Option, Some, None}
use Rattle.std.specs.Prelude.{Contains}
use Rattle.tg_base.specs.Clusters.{Header}
use Rattle.tg_base.specs.Layouts.{Layout}
use Rattle.tg_base.specs.declared.cell.Cell.{Cell}
use Rattle.tg_base.specs.declared.packet.Packet.{Packet}
use Rattle.tg_kind.specs.Meaning.{Meaning}
use Rattle.tg_protocol.specs.Words.{cell_at}
use Rattle.tg_protocol.specs.Requests.{Next, Ends}
use Rattle.tg_protocol.specs.Replies.{reply}
use Rattle.tg_protocol.specs.Cells.{Place, place_in, CellJob, CellEnd, Done, cell_asks, cell_feed}
use Rattle.tg_protocol.specs.Sequencers.{scan_asks}
use Rattle.tg_protocol.specs.Walking.{Walk}
use Rattle.tg_protocol.specs.Clients.{Walking, Hand, Work}
use Rattle.tg_protocol.specs.Worlds.{World, start, client, seqr, latest, log}
use Rattle.tg_protocol.specs.Runs.{Move, Moves, run, Reaches, Later, Always, EachLater, LawfulMove}
use Rattle.tg_law_layouts.specs.Moves.Configs.{config}
use Rattle.tg_law_layouts.proofs.Moves.Members.{Has, has_contained, has_either}
use Rattle.tg_law_layouts.proofs.Moves.Lists.{contained}
use Rattle.tg_law_layouts.proofs.Moves.Clients.{reserved, hand_reserved, work_reserved}
use Rattle.tg_law_layouts.proofs.Moves.Scripts.{run_both}
use Rattle.tg_law_layouts.proofs.Requests.Starts.{All, all_hold}
use Rattle.tg_law_layouts.proofs.Layouts.Layouts.{has_header}
use Rattle.tg_law_layouts.proofs.Layouts.Deciding.{layouts_are_known, latest_decided, decided_stays}
use Rattle.tg_law_cells.specs.Cells.Settled.{IsSettled}
use Rattle.tg_law_cells.proofs.Cells.Justified.{heard, scan_told, EndOk, NextOk}
use Rattle.tg_law_cells.proofs.Cells.Jobs.{JobOk, MaybeOk, cell_ok}
use Rattle.tg_law_cells.proofs.Cells.Hands as hands
use Rattle.tg_law_cells.proofs.Cells.Sent.{Heard, task_claims, maybe_claims}
use Rattle.tg_law_cells.proofs.Cells.Chains.{Cells}
use Rattle.tg_law_cells.proofs.Cells.Stores.{cells_hold, up_to, first_told}
use Rattle.tg_law_cells.proofs.Cells.Settling.{last_unit_settles, settled_is_in_log}
use Rattle.tg_law_walks.specs.Walks.Walks.{EndsAs, JobEndsAs}
use Rattle.tg_law_walks.specs.Walks.Reading.{Awaits, ScanAwaits, ScansReadSettled, ScansReadLog, WalksReadSettled, IsUntrimmed, WalksReadLog}
use Rattle.tg_law_walks.proofs.Walks.Logged.{log_at}

module _ (m : Meaning) where
  module _ (h : Header) (ms : Moves m) (w : World m) (r : Reaches m h ms w) where
    all : All m (config m w)
    all = subst (λ (v : World m). All m (config m v)) (sym r.goes.is) (all_hold m h ms)

    cells : Cells m (config m w)
    cells = subst (λ (v : World m). Cells m (config m v)) (sym r.goes.is) (cells_hold m h ms)

    module _ (k : ℕ) (x : Packet) (walk : Walk) (a : Awaits m w k x walk) where
      abbrev stand : Layout
      stand = (client m w k).stand

      works : hands.WorkOk m w.packets stand (Some a.work)
      works = subst (λ (o : Option (Work m)). hands.WorkOk m w.packets stand o) a.works (cells.hands k)

      job_ok : MaybeOk w.packets stand walk.job
      job_ok = subst (λ (d : Hand m). hands.HandOk m w.packets stand d) a.walks works

      hears : Heard w.packets x.from x.rid x.msg (reserved m (client m w k))
      hears o g to number u from l is = (heard m (config m w) all.0.0 all.0.1 k u o x g (has_contained w.packets x a.sent) a.to from to number).tells l is

      claims : hands.TaskClaims m w.packets stand (Walking walk a.rest) x.msg
      claims = task_claims w.packets x.from x.rid x.msg m stand (Walking walk a.rest) a.awaited
          (subst (λ (d : Hand m). Heard w.packets x.from x.rid x.msg (hand_reserved m stand d)) a.walks
          (subst (λ (o : Option (Work m)). Heard w.packets x.from x.rid x.msg (work_reserved m stand o)) a.works hears))

      ends_so : (j : CellJob) (c : Cell) → walk.job ≡ Some j → (cell_feed j x.from.num (reply x.msg) (client m w k).next).to ≡ Ends (Done c) → JobOk w.packets stand j × EndOk w.packets j.place (Done c)
      ends_so j c e f =
          let o : JobOk w.packets stand j = subst (λ (i : Option CellJob). MaybeOk w.packets stand i) e job_ok in (
            o,
            subst (λ (y : Next CellJob CellEnd). NextOk w.packets j.place y) f
                (cell_ok w.packets stand j x.msg o (subst (λ (i : Option CellJob). Rattle.tg_law_cells.proofs.Cells.Jobs.MaybeClaims w.packets stand i x.msg) e claims) x.from.num (client m w k).next),
          )

      settled_by : (pos : ℕ) (c : Cell) → EndOk w.packets (place_in stand pos) (Done c) → IsSettled m w pos c
      settled_by pos c (inl f) = record { layout = stand; decided = (layouts_are_known m h ms w r).clients k; told = first_told w.packets (place_in stand pos) c (length (place_in stand pos).chain) f }
      settled_by pos c (inr t) = last_unit_settles m h ms w r stand pos c ((layouts_are_known m h ms w r).clients k) (up_to w.packets _ _ _ c t)

      settled : (j : CellJob) (c : Cell) → walk.job ≡ Some j → (cell_feed j x.from.num (reply x.msg) (client m w k).next).to ≡ Ends (Done c) → IsSettled m w j.place.pos c
      settled j c e f = let s = ends_so j c e f in settled_by j.place.pos c (subst (λ (p : Place). EndOk w.packets p (Done c)) s.0.place s.1)

    module _ (s : ℕ) (x : Packet) (j : CellJob) (a : ScanAwaits m w s x j) where
      abbrev proj : Layout
      proj = (seqr m w s).proj

      scan_ok : JobOk w.packets proj j
      scan_ok = subst (λ (i : Option CellJob). MaybeOk w.packets proj i) a.scans (cells.scans s)

      scan_hears : Heard w.packets x.from x.rid x.msg (cell_asks j)
      scan_hears = subst (λ (i : Option CellJob). Heard w.packets x.from x.rid x.msg (scan_asks i)) a.scans
          (λ o g to number u from l is. scan_told m (config m w) all.0.0 all.0.1 s u o x g (has_contained w.packets x a.sent) a.to from to number l is)

      scan_by : (pos : ℕ) (c : Cell) → EndOk w.packets (place_in proj pos) (Done c) → IsSettled m w pos c
      scan_by pos c (inl f) = record { layout = proj; decided = (layouts_are_known m h ms w r).seqrs s; told = first_told w.packets (place_in proj pos) c (length (place_in proj pos).chain) f }
      scan_by pos c (inr t) = last_unit_settles m h ms w r proj pos c ((layouts_are_known m h ms w r).seqrs s) (up_to w.packets _ _ _ c t)

      scan_settled : (c : Cell) → (cell_feed j x.from.num (reply x.msg) (seqr m w s).rids).to ≡ Ends (Done c) → IsSettled m w j.place.pos c
      scan_settled c f =
          scan_by j.place.pos c (subst (λ (p : Place). EndOk w.packets p (Done c)) scan_ok.place
          (subst (λ (y : Next CellJob CellEnd). NextOk w.packets j.place y) f
          (cell_ok w.packets proj j x.msg scan_ok (maybe_claims w.packets x.from x.rid x.msg proj (Some j) a.awaited scan_hears) x.from.num (seqr m w s).rids)))

  pub scans_read_settled : Always m (ScansReadSettled m)
  scans_read_settled h ms w r s x j c a f = scan_settled h ms w r s x j a c f

  pub walks_read_settled : Always m (WalksReadSettled m)
  walks_read_settled h ms w r k x walk j c a e f = settled h ms w r k x walk a j c e f

  -- A later world is one that a run comes to.

  lawful_both : (h : Header) (xs ys : Moves m) → ((x : Move m) → Contains xs x → LawfulMove m h x) → ((x : Move m) → Contains ys x → LawfulMove m h x) → (x : Move m) → Contains (xs ++ ys) x → LawfulMove m h x
  lawful_both h xs ys f g x i = by (has_either xs ys x (has_contained (xs ++ ys) x i))
    where
      by : Has xs x ⊎ Has ys x → LawfulMove m h x
      by (inl j) = f x (contained xs x j)
      by (inr j) = g x (contained ys x j)

  pub reaches_later : (h : Header) (ms : Moves m) (w v : World m) → Reaches m h ms w → (l : Later m w v) → Reaches m h (ms ++ l.0) v
  unfolding run
  reaches_later h ms w v r l =
      let same : w.cluster ≡ (start m h).cluster = ap (λ (u : World m). u.cluster) r.goes.is ∙ (has_header m h ms ∙ sym (has_header m h [])) in
      record {
        header = r.header;
        goes = record {
          lawful = lawful_both (start m h).cluster ms l.0 r.goes.lawful (subst (λ (g : Header). (x : Move m) → Contains l.0 x → LawfulMove m g x) same l.1.lawful);
          is = l.1.is ∙ (ap (λ u. run m l.0 u) r.goes.is ∙ sym (run_both m ms l.0 (start m h)));
          few = l.1.few;
        };
      }

  module _ (h : Header) (ms : Moves m) (w v : World m) (r : Reaches m h ms w) (l : Later m w v) where
    in_log : (pos : ℕ) (c : Cell) → IsSettled m w pos c → IsUntrimmed m v pos → cell_at (log m v) pos ≡ Some c
    in_log pos c s kept =
        let last = latest_decided m h (ms ++ l.0) v (reaches_later h ms w v r l) in
        let still = (decided_stays m h ms w v r l).stays s.layout.epoch s.layout s.decided in
        log_at m v pos c (settled_is_in_log m h ms w v r l pos c s (latest m v) last.decided (last.greatest s.layout.epoch s.layout still) kept)

    read_log : WalksReadLog m w v
    read_log k x walk a kept = by walk.job refl
      where
        ends_as : (j : CellJob) → walk.job ≡ Some j → (to : Next CellJob CellEnd) → (cell_feed j x.from.num (reply x.msg) (client m w k).next).to ≡ to → EndsAs (log m v) j.place.pos to
        ends_as j e (Ends (Done c)) f = in_log j.place.pos c (settled h ms w r k x walk a j c e f) (kept j e)
        ends_as j e y f = tt

        by : (o : Option CellJob) → walk.job ≡ o → JobEndsAs (log m v) o x.from.num (reply x.msg) (client m w k).next
        by None e = tt
        by (Some j) e = ends_as j e (cell_feed j x.from.num (reply x.msg) (client m w k).next).to refl

  pub walks_read_log : EachLater m (WalksReadLog m)
  walks_read_log h ms w v r l = read_log h ms w v r l

  pub scans_read_log : EachLater m (ScansReadLog m)
  scans_read_log h ms w v r l s x j c a kept f = in_log h ms w v r l j.place.pos c (scan_settled h ms w r s x j a c f) kept
