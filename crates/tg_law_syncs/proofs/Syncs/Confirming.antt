-- What syncs and walks end with is true of the log, then and later.
use Rattle.std.proofs.Common.{◌≡◌, ℕ, ◌+◌, ◌-◌, ◌≤◌, ◌++◌, refl, sym, ap, ◌∙◌, subst, arith, Some, None, Option}
use Rattle.tg_base.specs.Clusters.{Header}
use Rattle.tg_base.specs.Layouts.{Layout}
use Rattle.tg_base.specs.declared.cell.Cell.{Cell}
use Rattle.tg_base.specs.declared.packet.Packet.{Packet}
use Rattle.tg_base.proofs.Rules.{layout_rules}
use Rattle.tg_kind.specs.Meaning.{Meaning}
use Rattle.tg_protocol.specs.Words.{cell_at}
use Rattle.tg_protocol.specs.Requests.{Next, Goes, Learns, Ends}
use Rattle.tg_protocol.specs.Replies.{Reply, reply}
use Rattle.tg_protocol.specs.Cells.{Place, place_in, last_unit, CellJob, CellEnd, Done, cell_feed}
use Rattle.tg_protocol.specs.Syncing.{Answer, SyncWork, Settling, Probing, Sync, Confirmed, confirmed, sync_feed}
use Rattle.tg_protocol.specs.Logs.{Log}
use Rattle.tg_protocol.specs.Clients.{Syncing, Hand, Work}
use Rattle.tg_protocol.specs.Worlds.{World, start, client, log}
use Rattle.tg_protocol.specs.Chosen.{IsDecided}
use Rattle.tg_protocol.specs.Runs.{Moves, Reaches, LawfulCommand, run}
use Rattle.tg_law_layouts.specs.Moves.After.{after}
use Rattle.tg_law_layouts.specs.Moves.Configs.{config}
use Rattle.tg_law_layouts.proofs.Moves.Always.{lawful_give}
use Rattle.tg_law_layouts.proofs.Moves.Clients.{reserved, hand_reserved, work_reserved}
use Rattle.tg_law_layouts.proofs.Moves.Members.{has_contained}
use Rattle.tg_law_layouts.proofs.Moves.Moves.{AllGive}
use Rattle.tg_law_layouts.proofs.Moves.Scripts.{run_both}
use Rattle.tg_law_layouts.proofs.Requests.Starts.{All, all_hold}
use Rattle.tg_law_layouts.specs.Layouts.Decisions.{IsOfDecided}
use Rattle.tg_law_layouts.proofs.Layouts.Deciding.{K, known, decided_for, layouts_are_known, layouts_are_sound}
use Rattle.tg_law_cells.specs.Cells.Settled.{IsSettled}
use Rattle.tg_law_cells.proofs.Cells.Hands as cells
use Rattle.tg_law_cells.proofs.Cells.Jobs.{JobOk, SyncOk, SyncClaims, cell_ok, CellOk}
use Rattle.tg_law_cells.proofs.Cells.Justified.{ToldBy, EndOk, NextOk, heard}
use Rattle.tg_law_cells.proofs.Cells.Sent.{Heard, task_claims}
use Rattle.tg_law_cells.proofs.Cells.Settles.{Settled, Rooted, end_settles}
use Rattle.tg_law_cells.proofs.Cells.Settling.{facts, roots, told_here}
use Rattle.tg_law_cells.proofs.Cells.Stores.{cells_hold, up_to}
use Rattle.tg_law_cells.proofs.Cells.Successors.{words}
use Rattle.tg_law_cells.proofs.Homes.Homes.{settled_is_below}
use Rattle.tg_law_cells.proofs.Entries.Archive.{settled_later}
use Rattle.tg_law_walks.specs.Walks.Walks.{EndsAs, JobEndsAs}
use Rattle.tg_law_walks.proofs.Walks.Reading.{reaches_later, walks_read_settled}
use Rattle.tg_law_walks.specs.Lists.Drafted.{DraftsFit}
use Rattle.tg_law_walks.specs.Lists.Lists.{Counts, EachLaterBySpareTrims}
use Rattle.tg_law_walks.specs.Lists.Spared.{WasSettled, TrimsWereSpare}
use Rattle.tg_law_walks.proofs.Lists.Ends.{cell_of}
use Rattle.tg_law_walks.proofs.Lists.Fits.{drafts_fit}
use Rattle.tg_law_walks.proofs.Lists.Reached.{before_reached}
use Rattle.tg_law_walks.proofs.Lists.Safe.{safe_of}
use Rattle.tg_law_syncs.specs.Syncs.Syncs.{IsTail, AwaitsSync, SyncsConfirm, WalksRead}
use Rattle.tg_law_syncs.proofs.Syncs.Clients.{held_at, last_below}
use Rattle.tg_law_syncs.proofs.Syncs.Later.{late}
use Rattle.tg_law_syncs.proofs.Syncs.Hands as hands
use Rattle.tg_law_syncs.proofs.Syncs.Hands.{SyncFine}
use Rattle.tg_law_steps.proofs.Machines.Syncs.{SyncCame, Waits, NewerCame, IsSettled as SettledSo, IsProbed, sync_came}

-- How a sync ends.

abbrev cell_pair : ℕ → Cell → Option (ℕ × Cell)
cell_pair q c = Some (q, c)

abbrev ends_with : Confirmed → Next Sync Confirmed
ends_with c = Ends c

goes_no : {X : Type 0} (s : Sync) (c : Confirmed) → Goes s ≡ ends_with c → X
goes_no s c e = absurd (cc)

learns_no : {X : Type 0} (s : Sync) (c : Confirmed) → Learns s ≡ ends_with c → X
learns_no s c e = absurd (cc)

same_end : (b c : Confirmed) → ends_with b ≡ ends_with c → b ≡ c
same_end b c e = cc

-- with a settled cell, or where the chain was probed
pub data Confirms (s : Sync) (to : (j : CellJob) → Next CellJob CellEnd) (c : Confirmed) : Type 0 where
  BySettled : (a : Answer) → (j : CellJob) → (cell : Cell) → s.work ≡ Settling a j → to j ≡ Ends (Done cell) → confirmed a (Some (a.tail - 1, cell)) ≡ c → Confirms s to c
  ByProbed : (a : Answer) → (j : CellJob) → s.work ≡ Probing a j → confirmed a None ≡ c → Confirms s to c

module _ (p : Layout) (s : Sync) (n : ℕ) (x : Reply) (next : ℕ) (c : Confirmed) where
  abbrev to : CellJob → Next CellJob CellEnd
  to j = (cell_feed j n x next).to

  came_confirms : (w : SyncWork) (y : Next Sync Confirmed) → s.work ≡ w → SyncCame p s n x next w y → y ≡ Ends c → Confirms s to c
  came_confirms _ _ w (Waits v) e = goes_no _ c e
  came_confirms _ _ w (NewerCame v) e = learns_no _ c e
  came_confirms _ _ w (SettledSo a j cell f) e = BySettled a j cell w f (same_end _ c e)
  came_confirms _ _ w (IsProbed a j f) e = ByProbed a j w (same_end _ c e)
  came_confirms _ _ w y e = goes_no _ c e

  confirms : (sync_feed p s s.work n x next).to ≡ Ends c → Confirms s to c
  confirms e = came_confirms s.work _ refl (sync_came p s n x next s.work) e

-- Over a run.

module _ (m : Meaning) (h : Header) (xs ys : Moves m) (r : Reaches m h (xs ++ ys) (after m h (xs ++ ys))) (trims : TrimsWereSpare m h (xs ++ ys)) (fit : DraftsFit m (after m h (xs ++ ys))) where
  abbrev l : Log
  l = log m (after m h (xs ++ ys))

  rw : Reaches m h xs (after m h xs)
  rw = before_reached m h (xs ++ ys) r xs ys refl

  give : AllGive m (LawfulCommand m) (xs ++ ys)
  give = lawful_give m (start m h).cluster (xs ++ ys) r.goes.lawful

  give_early : AllGive m (LawfulCommand m) xs
  give_early = lawful_give m (start m h).cluster xs rw.goes.lawful

  pub read_later : (p : ℕ) (c : Cell) → IsSettled m (after m h xs) p c → cell_at (log m (after m h (xs ++ ys))) p ≡ Some c
  read_later p c s = cell_of m h (xs ++ ys) r (safe_of m h (xs ++ ys) r trims) p c (settled_later m h xs ys r.header give p c s)

  -- Walks.

  walks_here : WalksRead m (after m h xs) (after m h (xs ++ ys))
  walks_here k x walk a = by walk.job refl
    where
      ends_as : (j : CellJob) → walk.job ≡ Some j → (to : Next CellJob CellEnd) → (cell_feed j x.from.num (reply x.msg) (client m (after m h xs) k).next).to ≡ to → EndsAs (log m (after m h (xs ++ ys))) j.place.pos to
      ends_as j e (Ends (Done c)) f = read_later j.place.pos c (walks_read_settled m h xs (after m h xs) rw k x walk j c a e f)
      ends_as j e y f = tt

      by : (o : Option CellJob) → walk.job ≡ o → JobEndsAs (log m (after m h (xs ++ ys))) o x.from.num (reply x.msg) (client m (after m h xs) k).next
      by None e = tt
      by (Some j) e = ends_as j e (cell_feed j x.from.num (reply x.msg) (client m (after m h xs) k).next).to refl

  -- What a client's machine ends with.

  module _ (k : ℕ) where
    abbrev stand : Layout
    stand = (client m (after m h xs) k).stand

    stand_known : K m h xs stand
    stand_known = (known m h xs stand.epoch stand ((layouts_are_known m h xs (after m h xs) rw).clients k)).0

    -- the cell that a settling ends with was settled in this epoch or before
    pub record InTime (pos : ℕ) (c : Cell) : Type 0 where
      pub settled : IsSettled m (after m h xs) pos c
      pub in_time : settled.layout.epoch ≤ stand.epoch

    pub settled_by : (pos : ℕ) (c : Cell) → CellOk (after m h xs).packets stand pos c → InTime pos c
    settled_by pos c f =
        let line = facts m h xs r.header give_early (told_here m h xs r.header give_early) in
        let root = roots m h xs r.header give_early (told_here m h xs r.header give_early) in
        of_settled (end_settles words (K m h xs) (after m h xs).packets line stand pos c stand_known (λ t. rooted pos c t (root.tells _ t.claim t.tells)) f)
      where
        of_settled : Settled words (K m h xs) (after m h xs).packets stand.epoch pos c → InTime pos c
        of_settled g = record {
          settled = record { layout = g.layout; decided = decided_for m h xs r.header give_early g.layout g.decided; told = λ i less. up_to (after m h xs).packets _ _ _ c (g.told i less) };
          in_time = g.up_to;
        }

        rooted : (q : ℕ) (d : Cell) → (t : ToldBy (after m h xs).packets (last_unit (place_in stand q)) stand.epoch q d) → Rooted words (K m h xs) (after m h xs).packets (last_unit (place_in stand q)) t.claim.epoch t.claim.pos t.claim.cell
            → Rooted words (K m h xs) (after m h xs).packets (last_unit (place_in stand q)) stand.epoch q d
        rooted q d t g =
            let g' : Rooted words (K m h xs) (after m h xs).packets (last_unit (place_in stand q)) t.claim.epoch q d =
            subst (λ (y : Cell). Rooted words (K m h xs) (after m h xs).packets (last_unit (place_in stand q)) t.claim.epoch q y) t.cell
            (subst (λ (i : ℕ). Rooted words (K m h xs) (after m h xs).packets (last_unit (place_in stand q)) t.claim.epoch i t.claim.cell) t.pos g) in
            record { layout = g'.layout; decided = g'.decided; up_to = (let b = g'.up_to in let e = t.epoch in omega (arith, b, e)); how = g'.how }

  -- Syncs.

  module _ (k : ℕ) (x : Packet) (s : Sync) (a : AwaitsSync m (after m h xs) k x s) where
    abbrev p : Layout
    p = (client m (after m h xs) k).stand

    all : All m (config m (after m h xs))
    all = all_hold m h xs

    works : cells.TaskOk m (after m h xs).packets p (Syncing s)
    works = subst (λ (d : Hand m). cells.HandOk m (after m h xs).packets p d) a.syncs (subst (λ (o : Option (Work m)). cells.WorkOk m (after m h xs).packets p o) a.works ((cells_hold m h xs).hands k))

    fine : SyncFine (log m (after m h (xs ++ ys))) (Counts m (after m h (xs ++ ys))) p.epoch s.oids s.work
    fine = subst (λ (d : Hand m). hands.HandOk m (log m (after m h (xs ++ ys))) (Counts m (after m h (xs ++ ys))) p d) a.syncs
        (subst (λ (o : Option (Work m)). hands.WorkOk m (log m (after m h (xs ++ ys))) (Counts m (after m h (xs ++ ys))) p o) a.works ((held_at m h (xs ++ ys) r trims fit xs ys refl).clients k))

    hears : Heard (after m h xs).packets x.from x.rid x.msg (reserved m (client m (after m h xs) k))
    hears o g to number u from c is = (heard m (config m (after m h xs)) all.0.0 all.0.1 k u o x g (has_contained _ x a.sent) a.to from to number).tells c is

    claims : cells.TaskClaims m (after m h xs).packets p (Syncing s) x.msg
    claims = task_claims (after m h xs).packets x.from x.rid x.msg m p (Syncing s) a.awaited
        (subst (λ (d : Hand m). Heard (after m h xs).packets x.from x.rid x.msg (hand_reserved m p d)) a.syncs
        (subst (λ (o : Option (Work m)). Heard (after m h xs).packets x.from x.rid x.msg (work_reserved m p o)) a.works hears))

    job_ok : (b : Answer) (j : CellJob) → s.work ≡ Settling b j → JobOk (after m h xs).packets p j
    job_ok b j e = subst (λ (y : SyncWork). SyncOk (after m h xs).packets p y) e works

    ended : (b : Answer) (j : CellJob) (c : Cell) → s.work ≡ Settling b j → (cell_feed j x.from.num (reply x.msg) (client m (after m h xs) k).next).to ≡ Ends (Done c) → CellOk (after m h xs).packets p j.place.pos c
    ended b j c e f =
        let o = job_ok b j e in
        subst (λ (y : Place). EndOk (after m h xs).packets y (Done c)) o.place
        (subst (λ (y : Next CellJob CellEnd). NextOk (after m h xs).packets j.place y) f
        (cell_ok (after m h xs).packets p j x.msg o (subst (λ (y : SyncWork). SyncClaims (after m h xs).packets p y x.msg) e claims) x.from.num (client m (after m h xs) k).next))

    -- then the tail counts
    counts_there : (b : Answer) (pos : ℕ) → pos ≡ b.tail - 1 → WasSettled m (after m h xs) p.epoch pos → Counts m (after m h (xs ++ ys)) p.epoch b.tail
    counts_there b pos at g = record {
      some = (let i = (layout_rules p (layouts_are_sound m h xs (after m h xs) rw p.epoch p ((layouts_are_known m h xs (after m h xs) rw).clients k)).rules).epoch in omega (arith, i));
      before = λ q d.
          let of = (layouts_are_sound m h (xs ++ ys) (after m h (xs ++ ys)) r (p.epoch + 1) q d).epoch in
          let dq : IsOfDecided m (after m h (xs ++ ys)) q = subst (λ (i : ℕ). IsDecided m (after m h (xs ++ ys)) i q) (sym of) d in
          let in_time = g.in_time in
          let below = settled_is_below m h (xs ++ ys) (after m h (xs ++ ys)) r pos g.cell (late m h (xs ++ ys) r xs ys refl pos g.cell g.settled) q dq (omega (arith, of, in_time)) in
          last_below b.tail q.start (omega (arith, below, at));
    }

    some_pair : (i j : ℕ) (c d : Cell) → cell_pair i c ≡ cell_pair j d → (i ≡ j) × (c ≡ d)
    some_pair i j c d e = let f = same (i, c) (j, d) e in (ap (λ (y : ℕ × Cell). y.0) f, ap (λ (y : ℕ × Cell). y.1) f)
      where
        same : (u v : ℕ × Cell) → Some u ≡ Some v → u ≡ v
        same u v i = cc

    none_pair : (j : ℕ) (d : Cell) → cell_pair j d ≡ None → ⊥
    none_pair j d e = cc

    true_end : (c : Confirmed) → Confirms s (λ j. (cell_feed j x.from.num (reply x.msg) (client m (after m h xs) k).next).to) c → IsTail (log m (after m h (xs ++ ys))) s.oids c
    true_end c (BySettled b j cell e f is) =
        let g = subst (SyncFine (log m (after m h (xs ++ ys))) (Counts m (after m h (xs ++ ys))) p.epoch s.oids) e fine in
        let was = settled_by k j.place.pos cell (ended b j cell e f) in
        subst (IsTail (log m (after m h (xs ++ ys))) s.oids) is (record {
          settled = λ q d i. let t = some_pair (b.tail - 1) q cell d i in subst (λ (n : ℕ). cell_at (log m (after m h (xs ++ ys))) n ≡ Some d) (g.0 ∙ t.0) (subst (λ (y : Cell). cell_at (log m (after m h (xs ++ ys))) j.place.pos ≡ Some y) t.1 (read_later j.place.pos cell was.settled));
          lists = g.1 (counts_there b j.place.pos g.0 (record { cell = cell; settled = was.settled; in_time = was.in_time }));
        })
    true_end c (ByProbed b j e is) =
        subst (IsTail (log m (after m h (xs ++ ys))) s.oids) is (record {
          settled = λ q d i. absurd (none_pair q d (sym i));
          lists = subst (SyncFine (log m (after m h (xs ++ ys))) (Counts m (after m h (xs ++ ys))) p.epoch s.oids) e fine;
        })

  syncs_here : SyncsConfirm m (after m h xs) (after m h (xs ++ ys))
  syncs_here k x s c a e = true_end k x s a c (confirms (client m (after m h xs) k).stand s x.from.num (reply x.msg) (client m (after m h xs) k).next c e)

-- The laws.

module _ (m : Meaning) where
  later_is : (h : Header) (xs ys : Moves m) (w v : World m) → w ≡ after m h xs → v ≡ run m ys w → v ≡ after m h (xs ++ ys)
  later_is h xs ys w v a b = b ∙ (ap (λ u. run m ys u) a ∙ sym (run_both m xs ys (start m h)))

  pub by_run : (P : World m → World m → Type 0) → ((h : Header) (xs ys : Moves m) → Reaches m h (xs ++ ys) (after m h (xs ++ ys)) → TrimsWereSpare m h (xs ++ ys) → DraftsFit m (after m h (xs ++ ys)) → P (after m h xs) (after m h (xs ++ ys))) → EachLaterBySpareTrims m P
  by_run P f h xs w v r l trims =
      let at = later_is h xs l.0 w v r.goes.is l.1.is in
      let here = subst (λ u. Reaches m h (xs ++ l.0) u) at (reaches_later m h xs w v r l) in
      subst (λ u. P u v) (sym r.goes.is)
      (subst (λ u. P (after m h xs) u) (sym at)
      (f h xs l.0 here trims (drafts_fit m h (xs ++ l.0) (after m h (xs ++ l.0)) here)))

  pub syncs_confirm : EachLaterBySpareTrims m (SyncsConfirm m)
  syncs_confirm = by_run (SyncsConfirm m) (λ h xs ys r trims fit. syncs_here m h xs ys r trims fit)

  pub walks_read : EachLaterBySpareTrims m (WalksRead m)
  walks_read = by_run (WalksRead m) (λ h xs ys r trims fit. walks_here m h xs ys r trims fit)
