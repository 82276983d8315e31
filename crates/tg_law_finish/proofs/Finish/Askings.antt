-- A client whose command syncs and walks comes to where all is walked.
use Rattle.std.proofs.Common.{◌≡◌, ◌⊎◌, ℕ, zero, suc, ◌+◌, ◌-◌, ◌/◌, ◌<◌, ◌≤◌, List, [], ◌∷◌, ◌++◌, length, map, cond, Bool, true, false, not, ◌&&◌, refl, ap, ◌∙◌, sym, subst, inl, inr, arith, Some, None, Option, eqb, append-nil}
use Rattle.std.specs.Prelude.{slice_set, slice_index_or, nat_lt, max, is_some}
use Rattle.tg_base.specs.Layouts.{Layout}
use Rattle.tg_base.specs.Clusters.{Header}
use Rattle.tg_base.specs.declared.cell.Cell.{Cell}
use Rattle.tg_base.specs.declared.cell.Cell.TheVariants.{Junk}
use Rattle.tg_base.specs.declared.ids.NodeId.{NodeId}
use Rattle.tg_base.specs.declared.ids.Oid.{Oid}
use Rattle.tg_base.specs.declared.marks.StreamLink.{StreamLink}
use Rattle.tg_base.specs.declared.msg.Msg.{Msg}
use Rattle.tg_base.specs.declared.msg.Msg.TheVariants as msg
use Rattle.tg_base.specs.declared.packet.Out.{Out}
use Rattle.tg_base.specs.Orders.{node_eq}
use Rattle.tg_kind.specs.Meaning.{Meaning}
use Rattle.tg_protocol.specs.Words.{cell_at, with_cell, unit_id, seqr_id, layout_id, client_id}
use Rattle.tg_protocol.specs.Entries.{link_of, backs_of}
use Rattle.tg_protocol.specs.Units.{UnitState, new_unit, says, in_epoch, on_has, first_missing, how_many, unit_step, unit_ask, on_ask}
use Rattle.tg_protocol.specs.Sequencers.{SeqrState, scanning, links_of, new_seqr, seqr_step, own_epoch, unfenced, stand_answer, answers as seqr_answers}
use Rattle.tg_protocol.specs.Layouts.{first_layout}
use Rattle.tg_protocol.specs.Requests.{out, awaits, drawn_from, Waits, waits_for, asked_of, Ends}
use Rattle.tg_protocol.specs.Replies.{IsTail, IsOther, IsWhole, reply}
use Rattle.tg_protocol.specs.Cells.{CellWork, Gets, Probes, CellJob, Place, place_in, works, work_asks, cell_asks, cell_feed, work_feed, probe_on}
use Rattle.tg_protocol.specs.Walking.{Walk, Members, WalkTurn, walk_members, with_job, walk_feed, job_asks}
use Rattle.tg_protocol.specs.Syncing.{Answer, Sync, SyncWork, Checking, Settling, Probing, SyncTurn, sync_work_asks, sync_feed, sync_start, probe_turn, on_tail, checking_feed}
use Rattle.tg_protocol.specs.Views.{View}
use Rattle.tg_protocol.specs.Clients.{Task, Walking, Syncing, Appending, Trimming, Copying', Reconfiguring, Doing, Work, Client}
use Rattle.tg_protocol.specs.Answers.{Moved, syncs}
use Rattle.tg_protocol.specs.ClientSteps.{walks, goes_on, task_asks, task_awaited, task_again_asks, client_asks, given, called, client_deliver, feed, task_feed, on_sync, on_walk, after_turn, met, ClientTurn, takes_back, found_by, walk_ended_by, given_up_if, gives_up, stale, at_trim}
use Rattle.tg_protocol.specs.ClientSteps as steps
use Rattle.tg_protocol.specs.Worlds.{packet_of, answer_to}
use Rattle.tg_law_finish.proofs.Finish.Nets.{Net, unit_of, seqr_of, client_of, seqr_alike, unit_alike}
use Rattle.tg_law_finish.proofs.Finish.Lists.{Each, set_there, set_index, set_other}
use Rattle.tg_law_finish.proofs.Finish.Strays.{Old}
use Rattle.tg_law_finish.proofs.Finish.Others.{Keeps, Ready}
use Rattle.tg_law_finish.proofs.Finish.Stores.{with_unit}
use Rattle.tg_law_finish.proofs.Finish.Places.{UnitServes, keeps_unit}
use Rattle.tg_law_finish.proofs.Finish.Appends.{is_latest}
use Rattle.tg_law_finish.proofs.Finish.Lines.{Item, Ask, Tell, asks, Busied, Again, Talk, Told, Goes}
use Rattle.tg_law_finish.proofs.Finish.Talks.{no_asks}
use Rattle.tg_law_finish.proofs.Finish.Writers.{new_drawn, unit_away, seqr_away, awaited_itself, unit_no_client, seqr_no_client, below_count, same_out}
use Rattle.tg_law_finish.proofs.Finish.Readings.{Sort, CellAsk, cell_ask, cell_keeps}
use Rattle.tg_law_finish.proofs.Finish.Trails.{unknown, unknown_fewer, Low, TrailLow, Walked, WalkReads, WalkEnds}
use Rattle.tg_law_finish.proofs.Finish.Readers.{Way, Walks, WalksTo, ToOver, ToReads, walks_to, seen}
use Rattle.tg_law_finish.proofs.Finish.Tasks.{TaskShape, none_drawn, shape_called, shape_ticked, again_is, busied, task_fed}
use Rattle.tg_law_finish.proofs.Finish.AtOnce.{long_asked, all_drawn, all_below, without_first, nest, each_mid, all_away, first_awaited}
use Rattle.tg_law_finish.proofs.Finish.Probes.{AskedOnce, each_at, each_waits, all_once, waits_some, waits_long}
use Rattle.tg_law_finish.proofs.Finish.Askers.{Kind, extra, extra_less, extra_is, above, above_fewer, budget, passes, passes_less, passes_fewer, rest, Here, here_keeps, here_put, stable_at, sort_of, Reading, WalkStage, WalkWell, CellOn, WalkOn, WalkGone, cell_walks, Settles, SyncStage, SyncWell, SyncOn, SyncEnds, SyncProbes, cell_settles, tail_well}

-- Of commands that go on in such a way once all is walked.
module _ (m : Meaning) (h : Header) (stopped : List NodeId) (k : ℕ) (p : Layout) (longest : ℕ) (low_at : ℕ → ℕ) (many tail most : ℕ) (kind : Kind low_at p) (way : Way m) where
  abbrev HereIn : Net m → Type 0
  HereIn s = Here m h stopped k p longest low_at many tail most kind s

  abbrev Budget : ℕ → ℕ
  Budget n = budget m h stopped k p longest low_at many tail most kind n

  abbrev Rest : ℕ → ℕ → ℕ → ℕ
  Rest os g v = rest m h stopped k p longest low_at many tail most kind os g v

  -- what is left after a sync
  abbrev after_of : Work m → ℕ → ℕ
  after_of w v = Rest (length w.oids) w.gone_before v

  abbrev pub IsSuch : Work m → Type 0
  IsSuch w = way.Is w.command (length w.oids) × (length w.oids ≤ most)

  abbrev LastsLow : List StreamLink → Type 0
  LastsLow ls = (o : Oid) → Low p tail (backs_of (link_of o ls))

  -- Where its task stands, with one request on its way; v tells whether a view is kept.
  abbrev pub TaskStage : Net m → List (ℕ × Cell) → ℕ → Work m → Task m → ℕ → Type 0
  TaskStage s cells v w (Syncing sy) n = SyncStage m h stopped k p longest low_at many tail most kind s cells (after_of w v) sy sy.work n × IsSuch w
  TaskStage s cells v w (Walking wk os) n = WalkStage m h stopped k p longest low_at many tail most kind s wk (length os) w.gone_before v wk.job n × Walks m way p tail most w
  TaskStage s cells v w _ n = ⊥

  pub record Asking' (s : Net m) (c : Client m) (o : Out) (n : ℕ) : Type 0 where
    pub task : Task m
    pub shape : TaskShape m h stopped k p longest c task (o ∷ [])
    pub stage : TaskStage s c.cells (seen c.view) shape.work task n

  -- What it hears.
  abbrev pub TaskWell : Net m → List (ℕ × Cell) → ℕ → Work m → Task m → Msg → ℕ → Type 0
  TaskWell s cells v w (Syncing sy) y n = ((u next : ℕ) → SyncWell m h stopped k p longest low_at many tail most kind s cells (after_of w v) n next (sync_feed p sy sy.work u (reply y) next)) × IsSuch w
  TaskWell s cells v w (Walking wk os) y n = ((u next : ℕ) → WalkWell m h stopped k p longest low_at many tail most kind s (length os) w.gone_before v n next (walk_feed p wk wk.job u (reply y) next)) × Walks m way p tail most w
  TaskWell s cells v w _ y n = ⊥

  pub record Hearing' (s : Net m) (c : Client m) (from : NodeId) (rid : ℕ) (y : Msg) (n : ℕ) : Type 0 where
    pub task : Task m
    pub o : Out
    pub shape : TaskShape m h stopped k p longest c task (o ∷ [])
    pub awaited : awaits (o ∷ []) from rid ≡ true
    pub no_latest : is_latest (reply y) ≡ false
    pub well : TaskWell s c.cells (seen c.view) shape.work task y n

  -- A probe: the units of a chain are asked at once.

  abbrev pub look : Place → Msg
  look pl = msg.Has pl.epoch pl.pos pl.pos 1

  abbrev pub looks : Place → Waits → List Out
  looks pl ws = asked_of unit_id (look pl) ws

  abbrev wholes : Waits → List Item
  wholes ws = map (λ (w : ℕ × ℕ). Tell (unit_id w.0) w.1 msg.Whole) ws

  abbrev Answering : Net m → ℕ × ℕ → Type 0
  Answering s w = UnitServes m h stopped k p longest s w.0

  -- of those that are waited for these have answered, and these haven't been asked yet
  pub record Probing' (s : Net m) (c : Client m) (is : List Item) (n : ℕ) : Type 0 where
    pub sync : Sync
    pub answer : Answer
    pub pl : Place
    pub epoch : pl.epoch ≡ p.epoch
    pub waits : Waits
    pub told : Waits
    pub asked : Waits
    pub split : waits ≡ told ++ asked
    pub work : sync.work ≡ Probing answer (works pl (Probes waits))
    pub shape : TaskShape m h stopped k p longest c (Syncing sync) (looks pl waits)
    pub items : is ≡ asks (looks pl asked) ++ wholes told
    pub some : waits ≡ [] → ⊥
    pub units : Each (Answering s) waits
    pub once : AskedOnce waits
    pub lasts : LastsLow answer.lasts
    pub here : HereIn s
    pub such : IsSuch shape.work
    pub few : Budget (unknown c.cells tail) + extra kind.trims (after_of shape.work (seen c.view)) ≤ n

  pub data Reads (s : Net m) (c : Client m) : List Item → ℕ → Type 0 where
    AsksOne : (o : Out) (n : ℕ) → Asking' s c o n → Reads s c (Ask o ∷ []) n
    HearsOne : (from : NodeId) (rid : ℕ) (y : Msg) (n : ℕ) → Hearing' s c from rid y n → Reads s c (Tell from rid y ∷ []) n
    ProbesAll : (is : List Item) (n : ℕ) → Probing' s c is n → Reads s c is n

  -- all is walked, and the command goes on
  pub record EndsWalks (s : Net m) (c : Client m) (t : ClientTurn m) (n : ℕ) : Type 0 where
    pub at : Client m
    pub next : at.next ≡ c.next
    pub stand : at.stand ≡ p
    pub here : HereIn s
    pub moved : Moved m
    pub goes : way.GoesOn at moved
    pub turn : t ≡ given m c moved

  -- What an answer makes of the client.
  data Fed (t : Net m) (n next : ℕ) : Moved m → Type 0 where
    FedOver : (c : Client m) (x : Moved m) → c.next ≡ next → c.stand ≡ p → HereIn t → way.GoesOn c x → Fed t n next x
    FedOn : (c : Client m) (w : Work m) (task : Task m) (to : NodeId) (z : Msg) (left : ℕ) → c.next ≡ next + 1 → c.stand ≡ p → task_awaited m p task ≡ out to next z ∷ [] → task_again_asks m p task ≡ out to next z ∷ [] → task_asks m p task ≡ out to next z ∷ []
        → ((l : ℕ) → node_eq to (layout_id l) ≡ false) → TaskStage t c.cells (seen c.view) (record w { hand = Doing task }) task left → left + 1 ≤ n → Fed t n next (goes_on m c w task [])
    FedProbes : (c : Client m) (w : Work m) (oids : List Oid) (a : Answer) (left : ℕ) → c.next ≡ next + length (place_in p (a.tail - 1)).chain → c.stand ≡ p → LastsLow a.lasts → HereIn t → IsSuch w
        → Budget (unknown c.cells tail) + extra kind.trims (after_of w (seen c.view)) ≤ left → left + length (place_in p (a.tail - 1)).chain ≤ n
        → Fed t n next (goes_on m c w (Syncing (record { oids = oids; work = Probing a (works (place_in p (a.tail - 1)) (Probes (waits_for (place_in p (a.tail - 1)).chain next))) })) [])

  -- Walks begin, or go on.

  budget_step : (u : ℕ) → 1 ≤ u → Budget u ≡ suc longest + Budget (u - 1)
  budget_step zero le = absurd (omega (arith, le))
  budget_step (suc u) le = let e = one u in ap (λ n. suc longest + Budget n) (sym e)
    where
      one : (u : ℕ) → suc u - 1 ≡ u
      one u = omega arith

  unknown_some : (cells : List (ℕ × Cell)) (q : ℕ) → cell_at cells q ≡ None → q < tail → 1 ≤ unknown cells tail
  unknown_some cells q none less = let a = unknown_fewer cells q Junk tail none less in omega (arith, a)

  fewer_of : (cells : List (ℕ × Cell)) (q : ℕ) (c : Cell) → cell_at cells q ≡ None → q < tail → unknown (with_cell cells q c) tail ≤ unknown cells tail - 1
  fewer_of cells q c none less = let a = unknown_fewer cells q c tail none less in omega (arith, a)

  reads_stage : (t : Net m) (wk : Walk) (os g v q next n : ℕ) → HereIn t → q < tail → cell_at wk.cells q ≡ None → TrailLow p tail wk.trail → Budget (unknown wk.cells tail) + extra kind.trims (Rest (suc os) g v) ≤ n
      → Reading m h stopped k p longest low_at many tail most kind t (with_job wk (works (place_in p q) (Gets next))) os g v (place_in p q) (Gets next) (n - 1)
  reads_stage t wk os g v q next n here less none low few =
      let good = here.good q in
      let step = budget_step (unknown wk.cells tail) (unknown_some wk.cells q none less) in
      by (sort_of m h stopped k p longest low_at many tail most kind t (place_in p q) good) good.stable.serves.short step
    where
      by : (s : (b : Bool) × Sort m h stopped k p longest low_at many t (place_in p q) b) → length (place_in p q).chain ≤ longest → Budget (unknown wk.cells tail) ≡ suc longest + Budget (unknown wk.cells tail - 1)
          → Reading m h stopped k p longest low_at many tail most kind t (with_job wk (works (place_in p q) (Gets next))) os g v (place_in p q) (Gets next) (n - 1)
      by (true, c) short step = record {
        place = refl;
        less = less;
        low = record { pointers = low.pointers; last = low.last };
        here = here;
        sort = true;
        cost = longest;
        cell = (c, short);
        left = unknown wk.cells tail - 1;
        fewer = λ c. fewer_of wk.cells q c none less;
        few = omega (arith, step, few);
        gone = λ e. absurd cc;
      }
      by (false, c) short step = record {
        place = refl;
        less = less;
        low = record { pointers = low.pointers; last = low.last };
        here = here;
        sort = false;
        cost = 0;
        cell = (c, tt);
        left = unknown wk.cells tail - 1;
        fewer = λ c. fewer_of wk.cells q c none less;
        few = omega (arith, step, few);
        gone = λ e trims. let one = extra_is kind.trims (Rest (suc os) g v) trims in omega (arith, step, few, one);
      }

  reads_room : (cells : List (ℕ × Cell)) (q n x : ℕ) → cell_at cells q ≡ None → q < tail → Budget (unknown cells tail) + x ≤ n → (n - 1) + 1 ≤ n
  reads_room cells q n x none less few = let a = budget_step (unknown cells tail) (unknown_some cells q none less) in omega (arith, a, few)

  reads_fed : (t : Net m) (c : Client m) (w : Work m) (wk : Walk) (os : List Oid) (q n next : ℕ) (cells : List (ℕ × Cell)) → c.next ≡ next + 1 → c.stand ≡ p → q < tail → cell_at cells q ≡ None → wk.cells ≡ cells → TrailLow p tail wk.trail → Walks m way p tail most w → HereIn t
      → Budget (unknown cells tail) + extra kind.trims (Rest (suc (length os)) w.gone_before (seen c.view)) ≤ n → Fed t n next (goes_on m c w (Walking (with_job wk (works (place_in p q) (Gets next))) os) [])
  unfolding task_asks work_asks
  reads_fed t c w wk os q n next cells up stand less none same low ws here few =
      let none' = ap (λ x. cell_at x q) same ∙ none in
      let few' = subst (λ x. Budget (unknown x tail) + extra kind.trims (Rest (suc (length os)) w.gone_before (seen c.view)) ≤ n) (sym same) few in
      FedOn c w (Walking (with_job wk (works (place_in p q) (Gets next))) os) (unit_id _) _ (n - 1) up stand refl refl refl (λ l. unit_away m h stopped k p longest _ l)
      (reads_stage t wk (length os) w.gone_before (seen c.view) q next n here less none' low few', record { asks = ws.asks; lasts = ws.lasts; few = ws.few })
      (reads_room cells q n _ none less few)

  rest_less : (a b g v : ℕ) → a ≤ b → Rest a g v ≤ Rest b g v
  rest_less a b g v le = omega (arith, le)

  walks_fed : (t : Net m) (cells : List (ℕ × Cell)) (n next g v streams os : ℕ) (x : Moved m) → WalksTo m way p tail most cells next g v streams os x → HereIn t → Budget (unknown cells tail) + extra kind.trims (Rest os g v) ≤ n → Fed t n next x
  walks_fed t cells n next g v streams os x (ToOver c y up stand goes) here few = FedOver c y up stand here goes
  walks_fed t cells n next g v streams os x (ToReads c w wk ys q up stand view gone oids less none same low ws fewer) here few =
      let le = extra_less kind.trims (Rest (suc (length ys)) g v) (Rest os g v) (rest_less (suc (length ys)) os g v fewer) in
      reads_fed t c w wk ys q n next cells up stand less none same low ws here
      (subst (λ i. Budget (unknown cells tail) + extra kind.trims (Rest (suc (length ys)) i (seen c.view)) ≤ n) (sym gone) (subst (λ i. Budget (unknown cells tail) + extra kind.trims (Rest (suc (length ys)) g i) ≤ n) (sym view) (omega (arith, le, few))))

  -- A walk that has ended, without a trim.

  ended_fed : (t : Net m) (c : Client m) (w : Work m) (o : Oid) (os : List Oid) (x : Members) (cells : List (ℕ × Cell)) (n : ℕ) (gone : Option ℕ) → gone ≡ None → c.stand ≡ p → Walks m way p tail most w → x.cells ≡ cells → HereIn t
      → Budget (unknown cells tail) + extra kind.trims (Rest (length os) w.gone_before (seen c.view)) ≤ n → Fed t n c.next (walk_ended_by m (takes_back m c x) (found_by m w o x) o os x gone)
  ended_fed t c w o os x cells n None e stand ws same here few =
      let d = takes_back m c x in
      let r = walks_to m way p tail most os d (found_by m w o x) stand (record { asks = ws.asks; lasts = ws.lasts; few = ws.few }) in
      walks_fed t cells n c.next w.gone_before (seen c.view) (length w.oids) (length os) _ (subst (λ y. WalksTo m way p tail most y c.next w.gone_before (seen c.view) (length w.oids) (length os) (walks m os d (found_by m w o x))) same r) here few
  ended_fed t c w o os x cells n (Some b) e stand ws same here few = absurd cc

  walked_fed : (t : Net m) (c : Client m) (w : Work m) (o : Oid) (os : List Oid) (cells : List (ℕ × Cell)) (n : ℕ) (x : WalkTurn) → Walked p tail cells c.next x → c.stand ≡ p → Walks m way p tail most w → HereIn t
      → Budget (unknown cells tail) + extra kind.trims (Rest (suc (length os)) w.gone_before (seen c.view)) ≤ n → Fed t n c.next (on_walk m c w o os x)
  walked_fed t c w o os cells n x (WalkReads wk q less none same low) stand ws here few =
      reads_fed t (record c { next = c.next + 1 }) (record w { gone = max w.gone 0 }) wk os q n c.next cells refl stand less none same low (record { asks = ws.asks; lasts = ws.lasts; few = ws.few }) here few
  walked_fed t c w o os cells n x (WalkEnds y same gone) stand ws here few =
      let le = extra_less kind.trims (Rest (length os) w.gone_before (seen c.view)) (Rest (suc (length os)) w.gone_before (seen c.view)) (rest_less (length os) (suc (length os)) w.gone_before (seen c.view) (omega arith)) in
      ended_fed t c (record w { gone = max w.gone 0 }) o os y cells n y.gone gone stand (record { asks = ws.asks; lasts = ws.lasts; few = ws.few }) same here (omega (arith, le, few))

  -- A walk that has met a trim.

  -- a new sync over the same streams, where fewer passes are left
  syncs_fed : (t : Net m) (c : Client m) (w : Work m) (n turns : ℕ) → c.stand ≡ p → Walks m way p tail most w → HereIn t → above low_at w.gone many + seen c.view + 1 ≤ turns
      → Budget (unknown c.cells tail) + passes m h stopped k p longest low_at many tail most kind turns ≤ n → Fed t n c.next (syncs m c w w.oids)
  unfolding syncs sync_start task_asks sync_work_asks
  syncs_fed t c w n turns stand ws here less few =
      let a = passes_fewer m h stopped k p longest low_at many tail most kind (above low_at w.gone many + seen c.view) turns less in
      let after = Rest (length w.oids) w.gone (seen c.view) in
      let short = ws.few in
      let most_extra = at_most kind.trims (longest + after) in
      let left = longest + Budget (unknown c.cells tail) + extra kind.trims (longest + after) in
      FedOn (record c { next = c.next + 1 }) (record w { oids = w.oids; gone_before = w.gone; trims = []; found = [] }) (Syncing (record { oids = w.oids; work = Checking c.next })) (seqr_id p.seq) (msg.Check p.epoch w.oids) left refl stand refl refl refl (λ l. seqr_away m h stopped k p longest p.seq l)
      ((here, omega arith), (ws.asks, ws.few)) (omega (arith, a, short, few, most_extra))
    where
      at_most : (b : Bool) (n : ℕ) → extra b n ≤ n
      at_most true n = omega arith
      at_most false n = omega arith

  -- the walks go on, or start over, with these passes
  goes_fed : (t : Net m) (c : Client m) (w : Work m) (os : List Oid) (n : ℕ) → c.stand ≡ p → Walks m way p tail most w → HereIn t → kind.trims ≡ true
      → Budget (unknown c.cells tail) + Rest (length os) w.gone_before (seen c.view) ≤ n → Fed t n c.next (walks m os c w)
  goes_fed t c w os n stand ws here trims few =
      let is = extra_is kind.trims (Rest (length os) w.gone_before (seen c.view)) trims in
      walks_fed t c.cells n c.next w.gone_before (seen c.view) (length w.oids) (length os) _ (walks_to m way p tail most os c w stand ws) here (omega (arith, is, few))

  past : (g b h : ℕ) → nat_lt g b ≡ true → b ≤ h → g ≤ h
  past g b h e le = grind (arith, e, le)

  stale_fewer : (g b h u : ℕ) → nat_lt g b ≡ true → b ≤ h → u < many → b ≡ low_at u → above low_at h many + 1 ≤ above low_at g many
  stale_fewer g b h u e le less is = above_fewer low_at g h u many (past g b h e le) less (subst (λ i. nat_lt g i ≡ true) is e) (subst (λ i. i ≤ h) is le)

  trim_fed : (t : Net m) (c : Client m) (w : Work m) (os : List Oid) (n b u : ℕ) (gives stale whole : Bool) → (stale ≡ true → nat_lt w.gone_before b ≡ true) → (gives ≡ true → seen c.view ≡ 1) → b ≤ w.gone → u < many → b ≡ low_at u → c.stand ≡ p → Walks m way p tail most w → HereIn t
      → kind.trims ≡ true → Budget (unknown c.cells tail) + Rest (length os) w.gone_before (seen c.view) ≤ n → Fed t n c.next (at_trim m (given_up_if m gives c) w os stale (gives && not whole))
  trim_fed t c w os n b u true true whole st gv more less is stand ws here trims few =
      let newer = stale_fewer w.gone_before b w.gone u (st refl) more less is in
      let one = gv refl in
      syncs_fed t (record c { view = None }) w n (above low_at w.gone_before many + seen c.view) stand ws here (omega (arith, newer, one)) (omega (arith, few))
  trim_fed t c w os n b u false true whole st gv more less is stand ws here trims few =
      let newer = stale_fewer w.gone_before b w.gone u (st refl) more less is in
      syncs_fed t c w n (above low_at w.gone_before many + seen c.view) stand ws here (omega (arith, newer)) (omega (arith, few))
  trim_fed t c w os n b u true false false st gv more less is stand ws here trims few =
      let one = gv refl in
      let a = passes_fewer m h stopped k p longest low_at many tail most kind (above low_at w.gone_before many + 0) (above low_at w.gone_before many + seen c.view) (omega (arith, one)) in
      let short = ws.few in
      goes_fed t (record c { view = None }) (record w { lo = 0; found = []; trims = [] }) w.oids n stand (record { asks = ws.asks; lasts = ws.lasts; few = ws.few }) here trims (omega (arith, a, short, few))
  trim_fed t c w os n b u true false true st gv more less is stand ws here trims few =
      let a = passes_less m h stopped k p longest low_at many tail most kind (above low_at w.gone_before many + 0) (above low_at w.gone_before many + seen c.view) (omega arith) in
      goes_fed t (record c { view = None }) w os n stand ws here trims (omega (arith, a, few))
  trim_fed t c w os n b u false false whole st gv more less is stand ws here trims few = goes_fed t c w os n stand ws here trims few

  gone_fed : (t : Net m) (c : Client m) (w : Work m) (o : Oid) (os : List Oid) (n b u : ℕ) (wk : Walk) → u < many → b ≡ low_at u → c.stand ≡ p → Walks m way p tail most w → HereIn t
      → kind.trims ≡ true → Budget (unknown wk.cells tail) + Rest (length os) w.gone_before (seen c.view) ≤ n → Fed t n c.next (on_walk m c w o os (record { next = c.next; besides = []; gone = b; to = Ends (walk_members wk (Some b)) }))
  gone_fed t c w o os n b u wk less is stand ws here trims few =
      let x = walk_members wk (Some b) in
      let d = takes_back m c x in
      let v = found_by m (record w { gone = max w.gone b }) o x in
      trim_fed t d v os n b u (gives_up m d v b) (stale m d v o x b) (eqb v.lo 0) (λ e. right _ _ e) (λ e. one_seen d v b e) (met_it w.gone b) less is stand (record { asks = ws.asks; lasts = ws.lasts; few = ws.few }) here trims few
    where
      right : (a b : Bool) → (a && b) ≡ true → b ≡ true
      right a b e = grind arith

      met_it : (a b : ℕ) → b ≤ max a b
      met_it a b = grind arith

      one_of : (a c : Bool) (o : Option (View m)) → (a && is_some o && c) ≡ true → seen o ≡ 1
      one_of a c None e = absurd (grind arith)
      one_of a c (Some v) e = refl

      one_seen : (d : Client m) (v : Work m) (b : ℕ) → gives_up m d v b ≡ true → seen d.view ≡ 1
      one_seen d v b e = one_of _ _ d.view e

  -- What a walk's answer and a sync's make of the client.

  walk_fed : (t : Net m) (c : Client m) (w : Work m) (o : Oid) (os : List Oid) (n : ℕ) (x : WalkTurn) → WalkWell m h stopped k p longest low_at many tail most kind t (length os) w.gone_before (seen c.view) n c.next x → c.stand ≡ p → Walks m way p tail most w → Fed t n c.next (on_walk m c w o os x)
  unfolding task_asks
  walk_fed t c w o os n x (CellOn wk pl y u z left asks f few) stand ws =
      FedOn (record c { next = c.next + 1 }) (record w { gone = max w.gone 0 }) (Walking (with_job wk (works pl y)) os) (unit_id u) z left refl stand asks asks asks (λ l. unit_away m h stopped k p longest u l)
      (record { place = f.place; less = f.less; low = record { pointers = f.low.pointers; last = f.low.last }; here = f.here; sort = f.sort; cost = f.cost; cell = f.cell; left = f.left; fewer = f.fewer; few = f.few; gone = f.gone }, record { asks = ws.asks; lasts = ws.lasts; few = ws.few }) few
  walk_fed t c w o os n x (WalkOn cells y walked here few) stand ws = walked_fed t c w o os cells n y walked stand ws here few
  walk_fed t c w o os n x (WalkGone wk u b less is trims here few) stand ws = gone_fed t c w o os n b u wk less is stand ws here trims few

  sync_fed : (t : Net m) (c : Client m) (w : Work m) (n : ℕ) (x : SyncTurn) → SyncWell m h stopped k p longest low_at many tail most kind t c.cells (after_of w (seen c.view)) n c.next x → c.stand ≡ p → IsSuch w → Fed t n c.next (on_sync m c w x)
  unfolding task_asks sync_work_asks
  sync_fed t c w n x (SyncOn oids a pl y u z left asks f few) stand such =
      FedOn (record c { next = c.next + 1 }) (record w { gone = max w.gone 0 }) (Syncing (record { oids = oids; work = Settling a (works pl y) })) (unit_id u) z left refl stand asks asks asks (λ l. unit_away m h stopped k p longest u l) (f, such) few
  sync_fed t c w n x (SyncEnds a y lasts here few) stand such =
      let d = record c { cells = with_cell c.cells (a.tail - 1) y } in
      walks_fed t (with_cell c.cells (a.tail - 1) y) n c.next w.gone_before (seen c.view) (length w.oids) (length w.oids) _
      (walks_to m way p tail most w.oids d (record w { gone = max w.gone 0; tail = a.tail; lasts = a.lasts; lo = steps.lo_for m d w.command }) stand (record { asks = such.0; lasts = lasts; few = such.1 })) here few
  sync_fed t c w n x (SyncProbes oids a gone lasts here few) stand such =
      FedProbes (record c { next = c.next + length (place_in p (a.tail - 1)).chain }) (record w { gone = max w.gone gone }) oids a (n - length (place_in p (a.tail - 1)).chain) refl stand lasts here such (omega (arith, few)) (omega (arith, few))

  task_well : (t : Net m) (c : Client m) (w : Work m) (task : Task m) (num rid : ℕ) (y : Msg) (n : ℕ) → c.stand ≡ p → TaskWell t c.cells (seen c.view) w task y n → Fed t n c.next (task_feed m c w task num rid (reply y))
  unfolding task_feed
  task_well t c w (Syncing sy) num rid y n stand x = subst (λ q. Fed t n c.next (on_sync m c w (sync_feed q sy sy.work num (reply y) c.next))) (sym stand) (sync_fed t c w n _ (x.0 num c.next) stand x.1)
  task_well t c w (Walking wk os) num rid y n stand x = subst (λ q. Fed t n c.next (on_walk m c w wk.oid os (walk_feed q wk wk.job num (reply y) c.next))) (sym stand) (walk_fed t c w wk.oid os n _ (x.0 num c.next) stand x.1)
  task_well t c w (Appending a z) num rid y n stand x = absurd x
  task_well t c w (Trimming z) num rid y n stand x = absurd x
  task_well t c w (Copying' z) num rid y n stand x = absurd x
  task_well t c w (Reconfiguring z) num rid y n stand x = absurd x

  -- The client's turn.

  fed_turns : (s : Net m) (c : Client m) (n : ℕ) (x : Moved m) → Fed s n c.next x → (EndsWalks s c (given m c x) n × (◌≡◌ {A = List Item} [] [])) ⊎ Goes m h stopped k p Reads s (given m c x) [] n
  unfolding client_asks task_asks sync_work_asks work_asks
  fed_turns s c n x (FedOver d y next stand here goes) = inl (record { at = d; next = next; stand = stand; here = here; moved = y; goes = goes; turn = refl }, refl)
  fed_turns s c n x (FedOn d w task to z left next stand awaited again asks away stage few) = inr (record {
    os = out to c.next z ∷ [];
    left = left;
    sends = ap (λ q. drawn_from c.next (task_asks m q task)) stand ∙ (ap (λ ys. drawn_from c.next ys) asks ∙ new_drawn m h stopped k p longest to c.next z);
    stage = AsksOne (out to c.next z) left (record { task = task; shape = record { stand = stand; work = record w { hand = Doing task }; waits = refl; hand = refl; awaited = awaited; again = again; asks = asks; below = (omega (arith, next), tt); away = (away, tt) }; stage = stage });
    less = few;
  })
  fed_turns s c n x (FedProbes d w oids a left next stand lasts here such few less) =
      let pl = place_in p (a.tail - 1) in
      let waits = waits_for pl.chain c.next in
      let stable = (here.good (a.tail - 1)).stable in
      let task : Task m = Syncing (record { oids = oids; work = Probing a (works pl (Probes waits)) }) in
      let long = long_asked (look pl) waits ∙ waits_long pl.chain c.next in
      inr (record {
        os = looks pl waits;
        left = left;
        sends = all_drawn (look pl) pl.chain c.next c.next (omega arith);
        stage = ProbesAll (asks (looks pl waits)) left (record {
          sync = record { oids = oids; work = Probing a (works pl (Probes waits)) };
          answer = a;
          pl = pl;
          epoch = refl;
          waits = waits;
          told = [];
          asked = waits;
          split = refl;
          work = refl;
          shape = record { stand = stand; work = record w { hand = Doing task }; waits = refl; hand = refl; awaited = refl; again = refl; asks = refl; below = all_below (look pl) pl.chain c.next _ (omega (arith, next)); away = all_away m h stopped k p longest (look pl) waits };
          items = sym (append-nil _);
          some = λ e. waits_some pl.chain c.next stable.serves.some e;
          units = each_waits (λ u. UnitServes m h stopped k p longest s u) pl.chain c.next (each_at (λ u. UnitServes m h stopped k p longest s u) pl.chain (λ j l. stable.serves.unit j l));
          once = all_once pl.chain c.next (kind.once (a.tail - 1));
          lasts = lasts;
          here = here;
          such = such;
          few = few;
        });
        less = omega (arith, less, long);
      })

  -- The answer to one request.

  one_answered : (s : Net m) (c : Client m) (from : NodeId) (rid : ℕ) (y : Msg) (n : ℕ) → Hearing' s c from rid y n
      → (EndsWalks s c (client_deliver m c from rid y) n × (◌≡◌ {A = List Item} [] [])) ⊎ Goes m h stopped k p Reads s (client_deliver m c from rid y) [] n
  unfolding client_deliver
  one_answered s c from rid y n g =
      subst (λ (z : Moved m). (EndsWalks s c (given m c z) n × (◌≡◌ {A = List Item} [] [])) ⊎ Goes m h stopped k p Reads s (given m c z) [] n) (sym (task_fed m h stopped k p longest c g.task (g.o ∷ []) from rid (reply y) g.shape g.awaited g.no_latest))
      (fed_turns s c n _ (task_well s c g.shape.work g.task from.num rid y n g.shape.stand g.well))

  -- An answer to a probe.

  abbrev probed : Client m → Work m → Sync → Answer → Place → Waits → Moved m
  probed c w sy a pl ws = on_sync m c w (probe_turn sy a (probe_on pl ws c.next))

  probe_fed : (c : Client m) (w : Work m) (sy : Sync) (a : Answer) (pl : Place) (x : ℕ × ℕ) (ws : Waits) → c.stand ≡ p → sy.work ≡ Probing a (works pl (Probes (x ∷ ws))) → Each (λ (v : ℕ × ℕ). eqb v.0 x.0 ≡ false) ws
      → task_feed m c w (Syncing sy) x.0 x.1 (reply msg.Whole) ≡ probed c w sy a pl ws
  unfolding task_feed sync_feed cell_feed work_feed reply
  probe_fed c w sy a pl x ws stand is once = ap (λ (y : SyncWork). on_sync m c w (sync_feed c.stand sy y x.0 IsWhole c.next)) is ∙ ap (λ ys. on_sync m c w (probe_turn sy a (probe_on pl ys c.next))) (without_first x ws once)

  probe_goes : (s : Net m) (c : Client m) (n : ℕ) (sy : Sync) (a : Answer) (pl : Place) (x : ℕ × ℕ) (ws : Waits) (g : TaskShape m h stopped k p longest c (Syncing sy) (looks pl (x ∷ ws))) → pl.epoch ≡ p.epoch → Each (Answering s) ws → AskedOnce ws → LastsLow a.lasts → HereIn s → IsSuch g.work
      → Budget (unknown c.cells tail) + extra kind.trims (after_of g.work (seen c.view)) ≤ n
      → (EndsWalks s c (given m c (probed c g.work sy a pl ws)) n × (wholes ws ≡ [])) ⊎ Goes m h stopped k p Reads s (given m c (probed c g.work sy a pl ws)) (wholes ws) n
  unfolding client_asks task_asks sync_work_asks work_asks
  probe_goes s c n sy a pl x [] g epoch units once lasts here such few =
      fed_turns s c n _ (walks_fed s c.cells n c.next g.work.gone_before (seen c.view) (length g.work.oids) (length g.work.oids) _
      (walks_to m way p tail most g.work.oids c (record (g.work) { gone = max g.work.gone 0; tail = a.tail; lasts = a.lasts; lo = steps.lo_for m c g.work.command }) g.stand (record { asks = such.0; lasts = lasts; few = such.1 })) here few)
  probe_goes s c n sy a pl x (w ∷ ws) g epoch units once lasts here such few =
      let task : Task m = Syncing (record { oids = sy.oids; work = Probing a (works pl (Probes (w ∷ ws))) }) in
      inr (record {
        os = [];
        left = n;
        sends = none_drawn (looks pl (w ∷ ws)) c.next g.below.1;
        stage = ProbesAll (wholes (w ∷ ws) ++ []) n (record {
          sync = record { oids = sy.oids; work = Probing a (works pl (Probes (w ∷ ws))) };
          answer = a;
          pl = pl;
          epoch = epoch;
          waits = w ∷ ws;
          told = w ∷ ws;
          asked = [];
          split = sym (append-nil (w ∷ ws));
          work = refl;
          shape = record { stand = g.stand; work = record (g.work) { gone = max g.work.gone 0; hand = Doing task }; waits = refl; hand = refl; awaited = refl; again = refl; asks = refl; below = g.below.1; away = g.away.1 };
          items = append-nil (wholes (w ∷ ws));
          some = λ e. absurd cc;
          units = units;
          once = once;
          lasts = lasts;
          here = here;
          such = such;
          few = few;
        });
        less = omega arith;
      })

  -- the items that are left tell which answer it is
  tells_first : (pl : Place) (asked told : Waits) (from : NodeId) (rid : ℕ) (y : Msg) (is : List Item) → Tell from rid y ∷ is ≡ asks (looks pl asked) ++ wholes told
      → (w : ℕ × ℕ) × (ws : Waits) × (asked ≡ []) × (told ≡ w ∷ ws) × (from ≡ unit_id w.0) × (rid ≡ w.1) × (y ≡ msg.Whole) × (is ≡ wholes ws)
  tells_first pl (a ∷ asked) told from rid y is e = absurd cc
  tells_first pl [] [] from rid y is e = absurd cc
  tells_first pl [] (w ∷ ws) from rid y is e = (w, ws, refl, refl, cc, cc, cc, cc)

  probe_answered : (s : Net m) (c : Client m) (from : NodeId) (rid : ℕ) (y : Msg) (is js : List Item) (n : ℕ) (x : Probing' s c js n) → js ≡ Tell from rid y ∷ is
      → (EndsWalks s c (client_deliver m c from rid y) n × (is ≡ [])) ⊎ Goes m h stopped k p Reads s (client_deliver m c from rid y) is n
  unfolding client_deliver reply is_latest
  probe_answered s c from rid y is js n x e =
      let f = tells_first x.pl x.asked x.told from rid y is (sym e ∙ x.items) in
      let waits = x.split ∙ (ap (λ (ys : Waits). ys ++ x.asked) f.3 ∙ (ap (λ (ys : Waits). (f.0 ∷ f.1) ++ ys) f.2 ∙ append-nil (f.0 ∷ f.1))) in
      by f.0 f.1 (x.work ∙ ap (λ (ys : Waits). Probing x.answer (works x.pl (Probes ys))) waits) (subst (λ (ys : Waits). TaskShape m h stopped k p longest c (Syncing x.sync) (looks x.pl ys)) waits x.shape) f.4 f.5 f.6 f.7 (subst (λ (ys : Waits). Each (Answering s) ys) waits x.units).1 (subst AskedOnce waits x.once)
    where
      by : (w : ℕ × ℕ) (ws : Waits) → x.sync.work ≡ Probing x.answer (works x.pl (Probes (w ∷ ws))) → TaskShape m h stopped k p longest c (Syncing x.sync) (looks x.pl (w ∷ ws)) → from ≡ unit_id w.0 → rid ≡ w.1 → y ≡ msg.Whole → is ≡ wholes ws → Each (Answering s) ws → AskedOnce (w ∷ ws)
          → (EndsWalks s c (client_deliver m c from rid y) n × (is ≡ [])) ⊎ Goes m h stopped k p Reads s (client_deliver m c from rid y) is n
      by w ws work shape a b d i units once =
          subst (λ (f : NodeId). (EndsWalks s c (client_deliver m c f rid y) n × (is ≡ [])) ⊎ Goes m h stopped k p Reads s (client_deliver m c f rid y) is n) (sym a)
          (subst (λ (r : ℕ). (EndsWalks s c (client_deliver m c (unit_id w.0) r y) n × (is ≡ [])) ⊎ Goes m h stopped k p Reads s (client_deliver m c (unit_id w.0) r y) is n) (sym b)
          (subst (λ (z : Msg). (EndsWalks s c (client_deliver m c (unit_id w.0) w.1 z) n × (is ≡ [])) ⊎ Goes m h stopped k p Reads s (client_deliver m c (unit_id w.0) w.1 z) is n) (sym d)
          (subst (λ (js : List Item). (EndsWalks s c (client_deliver m c (unit_id w.0) w.1 msg.Whole) n × (js ≡ [])) ⊎ Goes m h stopped k p Reads s (client_deliver m c (unit_id w.0) w.1 msg.Whole) js n) (sym i) (heard w ws work shape units once))))
        where
          same_work : (u v : Work m) → Some u ≡ Some v → u ≡ v
          same_work u v e = cc

          heard : (w : ℕ × ℕ) (ws : Waits) → x.sync.work ≡ Probing x.answer (works x.pl (Probes (w ∷ ws))) → (g : TaskShape m h stopped k p longest c (Syncing x.sync) (looks x.pl (w ∷ ws))) → Each (Answering s) ws → AskedOnce (w ∷ ws)
              → (EndsWalks s c (client_deliver m c (unit_id w.0) w.1 msg.Whole) n × (wholes ws ≡ [])) ⊎ Goes m h stopped k p Reads s (client_deliver m c (unit_id w.0) w.1 msg.Whole) (wholes ws) n
          heard w ws work g units once =
              let same = same_work x.shape.work g.work (sym x.shape.waits ∙ g.waits) in
              subst (λ (z : Moved m). (EndsWalks s c (given m c z) n × (wholes ws ≡ [])) ⊎ Goes m h stopped k p Reads s (given m c z) (wholes ws) n)
              (sym (task_fed m h stopped k p longest c (Syncing x.sync) (looks x.pl (w ∷ ws)) (unit_id w.0) w.1 (reply msg.Whole) g (first_awaited m h stopped k p longest (out (unit_id w.0) w.1 (look x.pl)) (looks x.pl ws)) refl ∙ probe_fed c g.work x.sync x.answer x.pl w ws g.stand work once.0))
              (probe_goes s c n x.sync x.answer x.pl w ws g x.epoch units once.1 x.lasts x.here (subst IsSuch same x.such) (subst (λ (v : Work m). Budget (unknown c.cells tail) + extra kind.trims (after_of v (seen c.view)) ≤ n) same x.few))

  -- A request comes to its node.

  abbrev ToldOne : Net m → Out → ℕ → Type 0
  ToldOne s o n = Told m h stopped k p Reads s o [] n

  cell_told : (s : Net m) (task : Task m) (o : Out) (pl : Place) (b : Bool) (y : CellWork) (cost n : ℕ) → (a : CellAsk m h stopped k p longest low_at many s pl b y cost) → Ready m h stopped k p s → (g : TaskShape m h stopped k p longest (client_of m h s k) task (o ∷ [])) → work_asks pl y ≡ o ∷ []
      → TaskWell (with_unit m stopped s a.unit (unit_step (unit_of m s a.unit) a.says).now) (client_of m h s k).cells (seen (client_of m h s k).view) g.work task a.replies.says n → ToldOne s o n
  cell_told s task o pl b y cost n a ready g e well =
      let x = out (unit_id a.unit) a.rid a.says in
      let is = same_out m h stopped k p longest x o (sym a.is ∙ e) in
      subst (λ (z : Out). ToldOne s z n) is (record {
        running = a.on;
        from = unit_id a.unit;
        rid = a.rid;
        says = a.replies.says;
        sent = ap (λ i. answer_to m (packet_of m (client_id k) x) i) a.replies.is;
        no_client = unit_no_client m h stopped k p longest a.unit;
        ready = record { on = ready.on; rests = ready.rests; old = ready.old; layouts = ready.layouts; idle = ready.idle };
        client = refl;
        stage = HearsOne (unit_id a.unit) a.rid a.replies.says n (record { task = task; o = o; shape = g; awaited = subst (λ (z : Out). awaits (z ∷ []) (unit_id a.unit) a.rid ≡ true) is (awaited_itself m h stopped k p longest x); no_latest = a.replies.no_latest; well = well });
      })

  check_step : (s : Net m) (oids : List Oid) (from : NodeId) (rid : ℕ) → HereIn s → seqr_step (seqr_of m h s p.seq) from rid (msg.Check p.epoch oids) ≡ record { now = seqr_of m h s p.seq; sends = out from rid (msg.Tail tail (links_of (seqr_of m h s p.seq).lists oids)) ∷ [] }
  unfolding seqr_step
  check_step s oids from rid f =
      let x = seqr_of m h s p.seq in
      ap (λ b. own_epoch b x from rid (seqr_answers x from rid (stand_answer x (links_of x.lists oids) (scanning x)))) (tested p.epoch x.epoch (sym f.epoch))
      ∙ (ap (λ y. unfenced y x from rid (seqr_answers x from rid (stand_answer x (links_of x.lists oids) (scanning x)))) f.unfenced
      ∙ (ap (λ b. seqr_answers x from rid (stand_answer x (links_of x.lists oids) b)) f.ready ∙ ap (λ t. record { now = x; sends = out from rid (msg.Tail t (links_of x.lists oids)) ∷ [] }) f.next))
    where
      tested : (a b : ℕ) → a ≡ b → eqb a b ≡ true
      tested a b e = grind arith

  tail_near : (s : Net m) (ls : List StreamLink) → HereIn s → reply (msg.Tail tail ls) ≡ IsTail tail ls
  unfolding reply
  tail_near s ls f = ap (λ x. cond x IsOther (IsTail tail ls)) f.near

  plain_tail : (ls : List StreamLink) → is_latest (IsTail tail ls) ≡ false
  unfolding is_latest
  plain_tail ls = refl

  checked_well : (s t : Net m) (cells : List (ℕ × Cell)) (after : ℕ) (sy : Sync) (n u next r : ℕ) → HereIn s → HereIn t → longest + Budget (unknown cells tail) + extra kind.trims (longest + after) ≤ n
      → SyncWell m h stopped k p longest low_at many tail most kind t cells after n next (sync_feed p sy (Checking r) u (reply (msg.Tail tail (links_of (seqr_of m h s p.seq).lists sy.oids))) next)
  unfolding sync_feed
  checked_well s t cells after sy n u next r f g few =
      let ls = links_of (seqr_of m h s p.seq).lists sy.oids in
      subst (λ y. SyncWell m h stopped k p longest low_at many tail most kind t cells after n next (checking_feed p sy y next)) (sym (tail_near s ls f))
      (subst (λ b. SyncWell m h stopped k p longest low_at many tail most kind t cells after n next (on_tail p sy (record { tail = tail; lasts = ls }) next b)) (sym (f.named sy.oids))
      (tail_well m h stopped k p longest low_at many tail most kind t cells after sy (record { tail = tail; lasts = ls }) n next refl (λ o. f.lasts o sy.oids) g few))

  check_told : (s : Net m) (sy : Sync) (o : Out) (r n : ℕ) → sy.work ≡ Checking r → Ready m h stopped k p s → (g : TaskShape m h stopped k p longest (client_of m h s k) (Syncing sy) (o ∷ [])) → out (seqr_id p.seq) r (msg.Check p.epoch sy.oids) ∷ [] ≡ o ∷ []
      → HereIn s → longest + Budget (unknown (client_of m h s k).cells tail) + extra kind.trims (longest + after_of g.work (seen (client_of m h s k).view)) ≤ n → IsSuch g.work → ToldOne s o n
  check_told s sy o r n is ready g e f few such =
      let x = seqr_of m h s p.seq in
      let q = out (seqr_id p.seq) r (msg.Check p.epoch sy.oids) in
      let z = check_step s sy.oids (client_id k) r f in
      let less = below_count m h stopped k p longest s p.seq f.on in
      let kept = same_out m h stopped k p longest q o e in
      let now = (seqr_step x (client_id k) r (msg.Check p.epoch sy.oids)).now in
      let t : Net m = record s { seqrs = slice_set s.seqrs p.seq now } in
      let same = set_there s.seqrs p.seq now (new_seqr p.seq h.limit (first_layout h)) less ∙ ap (λ t. t.now) z in
      let keep : Keeps m h stopped k p s t = record { units = λ v e. refl; epochs = λ v. refl; seqr = same; alike = seqr_alike m s p.seq now } in
      subst (λ (y : Out). ToldOne s y n) kept (record {
        running = f.on;
        from = seqr_id p.seq;
        rid = r;
        says = msg.Tail tail (links_of x.lists sy.oids);
        sent = ap (λ t. map (packet_of m (seqr_id p.seq)) t.sends) z;
        no_client = seqr_no_client m h stopped k p longest p.seq;
        ready = record { on = ready.on; rests = ap (λ (y : SeqrState). y.scan) same ∙ f.rests; old = λ j off. subst (λ (y : SeqrState). Old p.epoch y) (sym (set_other s.seqrs p.seq _ j (new_seqr j h.limit (first_layout h)) off)) (ready.old j off); layouts = ready.layouts; idle = ready.idle };
        client = refl;
        stage = HearsOne (seqr_id p.seq) r (msg.Tail tail (links_of x.lists sy.oids)) n (record {
          task = Syncing sy;
          o = o;
          shape = g;
          awaited = subst (λ (z : Out). awaits (z ∷ []) (seqr_id p.seq) r ≡ true) kept (awaited_itself m h stopped k p longest q);
          no_latest = ap is_latest (tail_near s (links_of x.lists sy.oids) f) ∙ plain_tail (links_of x.lists sy.oids);
          well = (
            (λ u next.
                subst (λ w. SyncWell m h stopped k p longest low_at many tail most kind t (client_of m h s k).cells (after_of g.work (seen (client_of m h s k).view)) n next (sync_feed p sy w u (reply (msg.Tail tail (links_of x.lists sy.oids))) next)) (sym is)
                (checked_well s t (client_of m h s k).cells (after_of g.work (seen (client_of m h s k).view)) sy n u next r f (here_keeps m h stopped k p longest low_at many tail most kind s t keep f) few)),
            such,
          );
        });
      })

  settle_told : (s : Net m) (sy : Sync) (o : Out) (a : Answer) (j : CellJob) (n : ℕ) → sy.work ≡ Settling a j → Ready m h stopped k p s → (g : TaskShape m h stopped k p longest (client_of m h s k) (Syncing sy) (o ∷ [])) → cell_asks j ≡ o ∷ []
      → Settles m h stopped k p longest low_at many tail most kind s (client_of m h s k).cells (after_of g.work (seen (client_of m h s k).view)) a j.place j.work n → IsSuch g.work → ToldOne s o n
  unfolding sync_feed cell_feed
  settle_told s sy o a j n is ready g e f such =
      let after = after_of g.work (seen (client_of m h s k).view) in
      let cells = (client_of m h s k).cells in
      let st = stable_at m h stopped k p longest low_at many tail most kind s j.place f.place f.here in
      let c = cell_ask m h stopped k p longest low_at many s j.place f.sort j.work f.cost st f.cell in
      let t = with_unit m stopped s c.unit (unit_step (unit_of m s c.unit) c.says).now in
      let here = here_put m h stopped k p longest low_at many tail most kind s t j.place c.replies.stored f.place f.less c.replies.put c.replies.good refl f.here in
      cell_told s (Syncing sy) o j.place f.sort j.work f.cost n c ready g e (
        (λ u next.
            subst (λ (w : SyncWork). SyncWell m h stopped k p longest low_at many tail most kind t cells after n next (sync_feed p sy w u (reply c.replies.says) next)) (sym is)
            (cell_settles m h stopped k p longest low_at many tail most kind s t cells after sy a j.place j.work n f here next _ (c.replies.well u next))),
        such,
      )

  walk_told : (s : Net m) (wk : Walk) (os : List Oid) (o : Out) (j : CellJob) (n : ℕ) → wk.job ≡ Some j → Ready m h stopped k p s → (g : TaskShape m h stopped k p longest (client_of m h s k) (Walking wk os) (o ∷ [])) → cell_asks j ≡ o ∷ []
      → Reading m h stopped k p longest low_at many tail most kind s wk (length os) g.work.gone_before (seen (client_of m h s k).view) j.place j.work n → Walks m way p tail most g.work → ToldOne s o n
  unfolding walk_feed cell_feed
  walk_told s wk os o j n is ready g e f ws =
      let v = seen (client_of m h s k).view in
      let st = stable_at m h stopped k p longest low_at many tail most kind s j.place f.place f.here in
      let c = cell_ask m h stopped k p longest low_at many s j.place f.sort j.work f.cost st f.cell in
      let t = with_unit m stopped s c.unit (unit_step (unit_of m s c.unit) c.says).now in
      let here = here_put m h stopped k p longest low_at many tail most kind s t j.place c.replies.stored f.place f.less c.replies.put c.replies.good refl f.here in
      cell_told s (Walking wk os) o j.place f.sort j.work f.cost n c ready g e (
        (λ u next.
            subst (λ (w : Option CellJob). WalkWell m h stopped k p longest low_at many tail most kind t (length os) g.work.gone_before v n next (walk_feed p wk w u (reply c.replies.says) next)) (sym is)
            (cell_walks m h stopped k p longest low_at many tail most kind s t wk (length os) g.work.gone_before v j.place j.work n f here next _ (c.replies.well u next))),
        ws,
      )

  sync_told : (s : Net m) (sy : Sync) (o : Out) (w : SyncWork) (n : ℕ) → sy.work ≡ w → sync_work_asks p sy w ≡ o ∷ [] → Ready m h stopped k p s → (g : TaskShape m h stopped k p longest (client_of m h s k) (Syncing sy) (o ∷ []))
      → SyncStage m h stopped k p longest low_at many tail most kind s (client_of m h s k).cells (after_of g.work (seen (client_of m h s k).view)) sy w n → IsSuch g.work → ToldOne s o n
  unfolding sync_work_asks
  sync_told s sy o (Checking r) n is e ready g f such = check_told s sy o r n is ready g e f.0 f.1 such
  sync_told s sy o (Settling a j) n is e ready g f such = settle_told s sy o a j n is ready g e f such
  sync_told s sy o (Probing a j) n is e ready g f such = absurd f

  job_told : (s : Net m) (wk : Walk) (os : List Oid) (o : Out) (j : Option CellJob) (n : ℕ) → wk.job ≡ j → job_asks j ≡ o ∷ [] → Ready m h stopped k p s → (g : TaskShape m h stopped k p longest (client_of m h s k) (Walking wk os) (o ∷ []))
      → WalkStage m h stopped k p longest low_at many tail most kind s wk (length os) g.work.gone_before (seen (client_of m h s k).view) j n → Walks m way p tail most g.work → ToldOne s o n
  job_told s wk os o None n is e ready g f ws = absurd f
  job_told s wk os o (Some j) n is e ready g f ws = walk_told s wk os o j n is ready g e f ws

  task_told : (s : Net m) (task : Task m) (o : Out) (n : ℕ) → Ready m h stopped k p s → (g : TaskShape m h stopped k p longest (client_of m h s k) task (o ∷ [])) → task_asks m p task ≡ o ∷ [] → TaskStage s (client_of m h s k).cells (seen (client_of m h s k).view) g.work task n → ToldOne s o n
  unfolding task_asks
  task_told s (Syncing sy) o n ready g e x = sync_told s sy o sy.work n refl e ready g x.0 x.1
  task_told s (Walking wk os) o n ready g e x = job_told s wk os o wk.job n refl e ready g x.0 x.1
  task_told s (Appending a z) o n ready g e x = absurd x
  task_told s (Trimming z) o n ready g e x = absurd x
  task_told s (Copying' z) o n ready g e x = absurd x
  task_told s (Reconfiguring z) o n ready g e x = absurd x

  -- A unit of a chain is asked whether it is there.

  looked : (u : UnitState) (pl : Place) → u.epoch ≡ pl.epoch → unit_step u (look pl) ≡ says u msg.Whole
  unfolding unit_step unit_ask on_ask first_missing
  looked u pl e = ap (λ b. in_epoch b u (on_has u (first_missing u 1 (how_many pl.pos pl.pos 1) pl.pos))) (tested u.epoch pl.epoch e) ∙ ap (λ n. on_has u (first_missing u 1 n pl.pos)) (none pl.pos)
    where
      tested : (a b : ℕ) → a ≡ b → eqb a b ≡ true
      tested a b e = grind arith

      none : (n : ℕ) → how_many n n 1 ≡ 0
      none n = ap (λ (i : ℕ). (i + (1 - 1)) / 1) (zero_left n)
        where
          zero_left : (n : ℕ) → n - n ≡ 0
          zero_left n = omega arith

  -- a unit that stays as it is
  same_keeps : (s : Net m) (u : ℕ) (x : UnitState) → x ≡ unit_of m s u → Keeps m h stopped k p s (with_unit m stopped s u x)
  same_keeps s u x e = record { units = λ v at. by v (set_index s.units u x v new_unit); epochs = λ v. ap (λ (x : UnitState). x.epoch) (by v (set_index s.units u x v new_unit)); seqr = refl; alike = unit_alike m s u x }
    where
      by : (v : ℕ) → ((v ≡ u) × (slice_index_or (slice_set s.units u x) v new_unit ≡ x)) ⊎ (slice_index_or (slice_set s.units u x) v new_unit ≡ unit_of m s v) → slice_index_or (slice_set s.units u x) v new_unit ≡ unit_of m s v
      by v (inl c) = c.1 ∙ (e ∙ ap (λ n. unit_of m s n) (sym c.0))
      by v (inr c) = c

  each_keeps : (s t : Net m) (ws : Waits) → Keeps m h stopped k p s t → Each (Answering s) ws → Each (Answering t) ws
  each_keeps s t [] keep a = tt
  each_keeps s t (w ∷ ws) keep a = (keeps_unit m h stopped k p longest s t w.0 keep a.0, each_keeps s t ws keep a.1)

  -- its answer comes behind
  told_behind : (xs : List Item) (ws : Waits) (w : ℕ × ℕ) → (xs ++ wholes ws) ++ Tell (unit_id w.0) w.1 msg.Whole ∷ [] ≡ xs ++ wholes (ws ++ w ∷ [])
  told_behind [] [] w = refl
  told_behind [] (x ∷ ws) w = ap (λ (l : List Item). Tell (unit_id x.0) x.1 msg.Whole ∷ l) (told_behind [] ws w)
  told_behind (x ∷ xs) ws w = ap (λ (l : List Item). x ∷ l) (told_behind xs ws w)

  asks_first : (pl : Place) (asked told : Waits) (o : Out) (is : List Item) → Ask o ∷ is ≡ asks (looks pl asked) ++ wholes told → (w : ℕ × ℕ) × (ws : Waits) × (asked ≡ w ∷ ws) × (o ≡ out (unit_id w.0) w.1 (look pl)) × (is ≡ asks (looks pl ws) ++ wholes told)
  asks_first pl [] [] o is e = absurd cc
  asks_first pl [] (w ∷ ws) o is e = absurd cc
  asks_first pl (w ∷ ws) told o is e = (w, ws, refl, cc, cc)

  probe_told : (s : Net m) (o : Out) (is js : List Item) (n : ℕ) → Ready m h stopped k p s → (x : Probing' s (client_of m h s k) js n) → js ≡ Ask o ∷ is → Told m h stopped k p Reads s o is n
  probe_told s o is js n ready x e =
      let f = asks_first x.pl x.asked x.told o is (sym e ∙ x.items) in
      let w = f.0 in
      let q = out (unit_id w.0) w.1 (look x.pl) in
      let split = x.split ∙ ap (λ (ys : Waits). x.told ++ ys) f.2 in
      let serves = each_mid (Answering s) x.told w f.1 (subst (λ (ys : Waits). Each (Answering s) ys) split x.units) in
      let step = looked (unit_of m s w.0) x.pl (serves.epoch ∙ sym x.epoch) in
      let t = with_unit m stopped s w.0 (unit_step (unit_of m s w.0) (look x.pl)).now in
      let keep = same_keeps s w.0 (unit_step (unit_of m s w.0) (look x.pl)).now (ap (λ y. y.now) step) in
      subst (λ (y : Out). Told m h stopped k p Reads s y is n) (sym f.3) (record {
        running = serves.on;
        from = unit_id w.0;
        rid = w.1;
        says = msg.Whole;
        sent = ap (λ y. answer_to m (packet_of m (client_id k) q) y.says) step;
        no_client = unit_no_client m h stopped k p longest w.0;
        ready = record { on = ready.on; rests = ready.rests; old = ready.old; layouts = ready.layouts; idle = ready.idle };
        client = refl;
        stage = ProbesAll (is ++ Tell (unit_id w.0) w.1 msg.Whole ∷ []) n (record {
          sync = x.sync;
          answer = x.answer;
          pl = x.pl;
          epoch = x.epoch;
          waits = x.waits;
          told = x.told ++ w ∷ [];
          asked = f.1;
          split = split ∙ nest x.told w f.1;
          work = x.work;
          shape = x.shape;
          items = ap (λ (l : List Item). l ++ Tell (unit_id w.0) w.1 msg.Whole ∷ []) f.4 ∙ told_behind (asks (looks x.pl f.1)) x.told w;
          some = x.some;
          units = each_keeps s t x.waits keep x.units;
          once = x.once;
          lasts = x.lasts;
          here = here_keeps m h stopped k p longest low_at many tail most kind s t keep x.here;
          such = x.such;
          few = x.few;
        });
      })

  -- Whatever other packets do, it stays so.

  reading_keeps : (s t : Net m) (wk : Walk) (os g v : ℕ) (pl : Place) (y : CellWork) (n : ℕ) → Keeps m h stopped k p s t → Reading m h stopped k p longest low_at many tail most kind s wk os g v pl y n → Reading m h stopped k p longest low_at many tail most kind t wk os g v pl y n
  reading_keeps s t wk os g v pl y n keep f = record { place = f.place; less = f.less; low = f.low; here = here_keeps m h stopped k p longest low_at many tail most kind s t keep f.here; sort = f.sort; cost = f.cost; cell = cell_keeps m h stopped k p longest low_at many s t pl f.sort y f.cost keep (stable_at m h stopped k p longest low_at many tail most kind s pl f.place f.here) f.cell; left = f.left; fewer = f.fewer; few = f.few; gone = f.gone }

  settles_keeps : (s t : Net m) (cells : List (ℕ × Cell)) (after : ℕ) (a : Answer) (pl : Place) (y : CellWork) (n : ℕ) → Keeps m h stopped k p s t → Settles m h stopped k p longest low_at many tail most kind s cells after a pl y n → Settles m h stopped k p longest low_at many tail most kind t cells after a pl y n
  settles_keeps s t cells after a pl y n keep f = record { place = f.place; less = f.less; lasts = f.lasts; here = here_keeps m h stopped k p longest low_at many tail most kind s t keep f.here; sort = f.sort; cost = f.cost; cell = cell_keeps m h stopped k p longest low_at many s t pl f.sort y f.cost keep (stable_at m h stopped k p longest low_at many tail most kind s pl f.place f.here) f.cell; few = f.few }

  sync_keeps : (s t : Net m) (cells : List (ℕ × Cell)) (after : ℕ) (sy : Sync) (w : SyncWork) (n : ℕ) → Keeps m h stopped k p s t → SyncStage m h stopped k p longest low_at many tail most kind s cells after sy w n → SyncStage m h stopped k p longest low_at many tail most kind t cells after sy w n
  sync_keeps s t cells after sy (Checking r) n keep f = (here_keeps m h stopped k p longest low_at many tail most kind s t keep f.0, f.1)
  sync_keeps s t cells after sy (Settling a j) n keep f = settles_keeps s t cells after a j.place j.work n keep f
  sync_keeps s t cells after sy (Probing a j) n keep f = absurd f

  walk_keeps : (s t : Net m) (wk : Walk) (os g v : ℕ) (j : Option CellJob) (n : ℕ) → Keeps m h stopped k p s t → WalkStage m h stopped k p longest low_at many tail most kind s wk os g v j n → WalkStage m h stopped k p longest low_at many tail most kind t wk os g v j n
  walk_keeps s t wk os g v None n keep f = absurd f
  walk_keeps s t wk os g v (Some j) n keep f = reading_keeps s t wk os g v j.place j.work n keep f

  task_keeps : (s t : Net m) (cells : List (ℕ × Cell)) (v : ℕ) (w : Work m) (task : Task m) (n : ℕ) → Keeps m h stopped k p s t → TaskStage s cells v w task n → TaskStage t cells v w task n
  task_keeps s t cells v w (Syncing sy) n keep x = (sync_keeps s t cells (after_of w v) sy sy.work n keep x.0, x.1)
  task_keeps s t cells v w (Walking wk os) n keep x = (walk_keeps s t wk (length os) w.gone_before v wk.job n keep x.0, x.1)
  task_keeps s t cells v w (Appending a z) n keep x = absurd x
  task_keeps s t cells v w (Trimming z) n keep x = absurd x
  task_keeps s t cells v w (Copying' z) n keep x = absurd x
  task_keeps s t cells v w (Reconfiguring z) n keep x = absurd x

  sync_well_keeps : (s t : Net m) (cells : List (ℕ × Cell)) (after n next : ℕ) (x : SyncTurn) → Keeps m h stopped k p s t → SyncWell m h stopped k p longest low_at many tail most kind s cells after n next x → SyncWell m h stopped k p longest low_at many tail most kind t cells after n next x
  sync_well_keeps s t cells after n next x keep (SyncOn oids a pl y u z left asks f few) = SyncOn oids a pl y u z left asks (settles_keeps s t cells after a pl y left keep f) few
  sync_well_keeps s t cells after n next x keep (SyncEnds a c lasts here few) = SyncEnds a c lasts (here_keeps m h stopped k p longest low_at many tail most kind s t keep here) few
  sync_well_keeps s t cells after n next x keep (SyncProbes oids a gone lasts here few) = SyncProbes oids a gone lasts (here_keeps m h stopped k p longest low_at many tail most kind s t keep here) few

  walk_well_keeps : (s t : Net m) (os g v n next : ℕ) (x : WalkTurn) → Keeps m h stopped k p s t → WalkWell m h stopped k p longest low_at many tail most kind s os g v n next x → WalkWell m h stopped k p longest low_at many tail most kind t os g v n next x
  walk_well_keeps s t os g v n next x keep (CellOn wk pl y u z left asks f few) = CellOn wk pl y u z left asks (reading_keeps s t wk os g v pl y left keep f) few
  walk_well_keeps s t os g v n next x keep (WalkOn cells y w here few) = WalkOn cells y w (here_keeps m h stopped k p longest low_at many tail most kind s t keep here) few
  walk_well_keeps s t os g v n next x keep (WalkGone wk u b less is trims here few) = WalkGone wk u b less is trims (here_keeps m h stopped k p longest low_at many tail most kind s t keep here) few

  hears_keeps : (s t : Net m) (cells : List (ℕ × Cell)) (v : ℕ) (w : Work m) (task : Task m) (y : Msg) (n : ℕ) → Keeps m h stopped k p s t → TaskWell s cells v w task y n → TaskWell t cells v w task y n
  hears_keeps s t cells v w (Syncing sy) y n keep x = ((λ u next. sync_well_keeps s t cells (after_of w v) n next _ keep (x.0 u next)), x.1)
  hears_keeps s t cells v w (Walking wk os) y n keep x = ((λ u next. walk_well_keeps s t (length os) w.gone_before v n next _ keep (x.0 u next)), x.1)
  hears_keeps s t cells v w (Appending a z) y n keep x = absurd x
  hears_keeps s t cells v w (Trimming z) y n keep x = absurd x
  hears_keeps s t cells v w (Copying' z) y n keep x = absurd x
  hears_keeps s t cells v w (Reconfiguring z) y n keep x = absurd x

  -- How it fares whatever comes.

  reads_facts : (s : Net m) (c : Client m) (is : List Item) (n : ℕ) → Reads s c is n → Busied m h stopped k p c
  reads_facts s c is n (AsksOne o l x) = busied m h stopped k p longest c x.task (o ∷ []) x.shape
  reads_facts s c is n (HearsOne from rid y l x) = busied m h stopped k p longest c x.task (x.o ∷ []) x.shape
  reads_facts s c is n (ProbesAll js l x) = busied m h stopped k p longest c (Syncing x.sync) (looks x.pl x.waits) x.shape

  empty : (pl : Place) (asked told : Waits) → [] ≡ asks (looks pl asked) ++ wholes told → told ++ asked ≡ []
  empty pl [] [] e = refl
  empty pl [] (w ∷ ws) e = absurd cc
  empty pl (w ∷ ws) told e = absurd cc

  reads_some : (s : Net m) (c : Client m) (is : List Item) (n : ℕ) → Reads s c is n → is ≡ [] → ⊥
  reads_some s c is n (AsksOne o l x) e = absurd cc
  reads_some s c is n (HearsOne from rid y l x) e = absurd cc
  reads_some s c is n (ProbesAll js l x) e = x.some (x.split ∙ empty x.pl x.asked x.told (sym e ∙ x.items))

  reads_stays : (s t : Net m) (c : Client m) (is : List Item) (n : ℕ) → Keeps m h stopped k p s t → Reads s c is n → Reads t c is n
  reads_stays s t c is n keep (AsksOne o l x) = AsksOne o l (record { task = x.task; shape = x.shape; stage = task_keeps s t c.cells (seen c.view) x.shape.work x.task l keep x.stage })
  reads_stays s t c is n keep (HearsOne from rid y l x) = HearsOne from rid y l (record { task = x.task; o = x.o; shape = x.shape; awaited = x.awaited; no_latest = x.no_latest; well = hears_keeps s t c.cells (seen c.view) x.shape.work x.task y l keep x.well })
  reads_stays s t c is n keep (ProbesAll js l x) = ProbesAll js l (record { sync = x.sync; answer = x.answer; pl = x.pl; epoch = x.epoch; waits = x.waits; told = x.told; asked = x.asked; split = x.split; work = x.work; shape = x.shape; items = x.items; some = x.some; units = each_keeps s t x.waits keep x.units; once = x.once; lasts = x.lasts; here = here_keeps m h stopped k p longest low_at many tail most kind s t keep x.here; such = x.such; few = x.few })

  reads_called : (s : Net m) (c : Client m) (is : List Item) (n : ℕ) → Reads s c is n → Reads s (called m c) is n
  reads_called s c is n (AsksOne o l x) = AsksOne o l (record { task = x.task; shape = shape_called m h stopped k p longest c x.task (o ∷ []) x.shape; stage = x.stage })
  reads_called s c is n (HearsOne from rid y l x) = HearsOne from rid y l (record { task = x.task; o = x.o; shape = shape_called m h stopped k p longest c x.task (x.o ∷ []) x.shape; awaited = x.awaited; no_latest = x.no_latest; well = x.well })
  reads_called s c is n (ProbesAll js l x) = ProbesAll js l (record { sync = x.sync; answer = x.answer; pl = x.pl; epoch = x.epoch; waits = x.waits; told = x.told; asked = x.asked; split = x.split; work = x.work; shape = shape_called m h stopped k p longest c (Syncing x.sync) (looks x.pl x.waits) x.shape; items = x.items; some = x.some; units = x.units; once = x.once; lasts = x.lasts; here = x.here; such = x.such; few = x.few })

  reads_ticked : (s : Net m) (c : Client m) (is : List Item) (os : List Out) (n : ℕ) → Reads s c is n → is ≡ asks os → Reads s (called m (record c { next = c.next + c.layouts })) is n
  reads_ticked s c is os n (AsksOne o l x) e = AsksOne o l (record { task = x.task; shape = shape_ticked m h stopped k p longest c x.task (o ∷ []) x.shape; stage = x.stage })
  reads_ticked s c is os n (HearsOne from rid y l x) e = HearsOne from rid y l (record { task = x.task; o = x.o; shape = shape_ticked m h stopped k p longest c x.task (x.o ∷ []) x.shape; awaited = x.awaited; no_latest = x.no_latest; well = x.well })
  reads_ticked s c is os n (ProbesAll js l x) e = ProbesAll js l (record { sync = x.sync; answer = x.answer; pl = x.pl; epoch = x.epoch; waits = x.waits; told = x.told; asked = x.asked; split = x.split; work = x.work; shape = shape_ticked m h stopped k p longest c (Syncing x.sync) (looks x.pl x.waits) x.shape; items = x.items; some = x.some; units = x.units; once = x.once; lasts = x.lasts; here = x.here; such = x.such; few = x.few })

  only_asks : (xs os : List Out) (ws : Waits) → asks xs ++ wholes ws ≡ asks os → (ws ≡ []) × (xs ≡ os)
  only_asks [] [] [] e = (refl, refl)
  only_asks [] [] (w ∷ ws) e = absurd cc
  only_asks [] (o ∷ os) [] e = absurd cc
  only_asks [] (o ∷ os) (w ∷ ws) e = absurd cc
  only_asks (x ∷ xs) [] ws e = absurd cc
  only_asks (x ∷ xs) (o ∷ os) ws e = let r = only_asks xs os ws cc in let a : x ≡ o = cc in (r.0, both x o xs os a r.1)
    where
      both : (x o : Out) (xs os : List Out) → x ≡ o → xs ≡ os → x ∷ xs ≡ o ∷ os
      both x o xs os e f = cc

  reads_again : (s : Net m) (c : Client m) (is : List Item) (os : List Out) (n : ℕ) → Reads s c is n → is ≡ asks os → Again m h stopped k p c os
  reads_again s c is os n (AsksOne o l x) e = subst (λ (ys : List Out). Again m h stopped k p c ys) (only_asks (o ∷ []) os [] e).1 (again_is m h stopped k p longest c x.task (o ∷ []) x.shape)
  reads_again s c is os n (HearsOne from rid y l x) e = absurd (no_asks from rid y os e)
  reads_again s c is os n (ProbesAll js l x) e =
      let r = only_asks (looks x.pl x.asked) os x.told (sym x.items ∙ e) in
      let all = x.split ∙ ap (λ (ys : Waits). ys ++ x.asked) r.0 in
      subst (λ (ys : List Out). Again m h stopped k p c ys) (ap (λ (ys : Waits). looks x.pl ys) all ∙ r.1) (again_is m h stopped k p longest c (Syncing x.sync) (looks x.pl x.waits) x.shape)

  one_told : (s : Net m) (o : Out) (is js : List Item) (n : ℕ) → Ready m h stopped k p s → Reads s (client_of m h s k) js n → js ≡ Ask o ∷ is → Told m h stopped k p Reads s o is n
  one_told s o is js n ready (AsksOne q l x) e = subst (λ (y : Out). Told m h stopped k p Reads s y is l) (same q o is e) (subst (λ (ys : List Item). Told m h stopped k p Reads s q ys l) (none q o is e) (task_told s x.task q l ready x.shape x.shape.asks x.stage))
    where
      same : (q o : Out) (is : List Item) → Ask q ∷ [] ≡ Ask o ∷ is → q ≡ o
      same q o is e = cc

      none : (q o : Out) (is : List Item) → Ask q ∷ [] ≡ Ask o ∷ is → [] ≡ is
      none q o is e = cc
  one_told s o is js n ready (HearsOne from rid y l x) e = absurd cc
  one_told s o is js n ready (ProbesAll ys l x) e = probe_told s o is ys l ready x e

  any_answered : (s : Net m) (from : NodeId) (rid : ℕ) (y : Msg) (is js : List Item) (n : ℕ) → Ready m h stopped k p s → Reads s (client_of m h s k) js n → js ≡ Tell from rid y ∷ is
      → (EndsWalks s (client_of m h s k) (client_deliver m (client_of m h s k) from rid y) n × (is ≡ [])) ⊎ Goes m h stopped k p Reads s (client_deliver m (client_of m h s k) from rid y) is n
  any_answered s from rid y is js n ready (AsksOne q l x) e = absurd cc
  any_answered s from rid y is js n ready (HearsOne f r z l x) e =
      subst (λ (i : List Item). (EndsWalks s (client_of m h s k) (client_deliver m (client_of m h s k) from rid y) l × (i ≡ [])) ⊎ Goes m h stopped k p Reads s (client_deliver m (client_of m h s k) from rid y) i l) (none f r z from rid y is e)
      (one_answered s (client_of m h s k) from rid y l (subst (λ (i : Item). Heard i) (same f r z from rid y is e) x))
    where
      Heard : Item → Type 0
      Heard (Ask o) = ⊥
      Heard (Tell f r z) = Hearing' s (client_of m h s k) f r z l

      same : (f : NodeId) (r : ℕ) (z : Msg) (from : NodeId) (rid : ℕ) (y : Msg) (is : List Item) → Tell f r z ∷ [] ≡ Tell from rid y ∷ is → Tell f r z ≡ Tell from rid y
      same f r z from rid y is e = cc

      none : (f : NodeId) (r : ℕ) (z : Msg) (from : NodeId) (rid : ℕ) (y : Msg) (is : List Item) → Tell f r z ∷ [] ≡ Tell from rid y ∷ is → [] ≡ is
      none f r z from rid y is e = cc
  any_answered s from rid y is js n ready (ProbesAll ys l x) e = probe_answered s (client_of m h s k) from rid y is ys l x e

  -- it reads until all is walked
  pub reads_talk : Talk m h stopped k p Reads EndsWalks
  reads_talk = record {
    facts = reads_facts;
    some = reads_some;
    stays = reads_stays;
    calls = reads_called;
    again = reads_again;
    ticked = reads_ticked;
    asked = λ s o is n fair ready x. one_told s o is (Ask o ∷ is) n ready x refl;
    answered = λ s from rid y is n ready x. any_answered s from rid y is (Tell from rid y ∷ is) n ready x refl;
  }

  -- A sync begins.
  pub sync_begins : (s : Net m) (c d : Client m) (w : Work m) (os : List Oid) (n : ℕ) → d.next ≡ c.next → d.stand ≡ p → way.Is w.command (length os) → length os ≤ most → HereIn s
      → longest + Budget (unknown d.cells tail) + extra kind.trims (longest + Rest (length os) w.gone (seen d.view)) + 1 ≤ n → Goes m h stopped k p Reads s (given m c (syncs m d w os)) [] n
  unfolding syncs sync_start client_asks task_asks sync_work_asks
  sync_begins s c d w os n up stand such short here few =
      let left = longest + Budget (unknown d.cells tail) + extra kind.trims (longest + Rest (length os) w.gone (seen d.view)) in
      let o = out (seqr_id p.seq) d.next (msg.Check p.epoch os) in
      record {
        os = o ∷ [];
        left = left;
        sends = ap (λ (q : Layout). drawn_from c.next (out (seqr_id q.seq) d.next (msg.Check q.epoch os) ∷ [])) stand
            ∙ subst (λ (i : ℕ). drawn_from i (o ∷ []) ≡ o ∷ []) up (new_drawn m h stopped k p longest (seqr_id p.seq) d.next (msg.Check p.epoch os));
        stage = AsksOne o left (record {
          task = Syncing (record { oids = os; work = Checking d.next });
          shape = record { stand = stand; work = _; waits = refl; hand = refl; awaited = refl; again = refl; asks = refl; below = (omega arith, tt); away = ((λ l. seqr_away m h stopped k p longest p.seq l), tt) };
          stage = ((here, omega arith), (such, short));
        });
        less = few;
      }
