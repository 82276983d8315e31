-- What is sent to units is justified: a page or a cell goes down a chain, one unit after the other.
use Rattle.std.proofs.Common.{◌≡◌, ◌⊎◌, ℕ, ◌<◌, List, [], ◌∷◌, ◌++◌, length, true, refl, sym, ap, ◌∙◌, subst, inl, inr, arith, Some, None, Option}
use Rattle.tg_base.specs.Layouts.{Layout}
use Rattle.tg_base.specs.declared.cell.Cell.{Cell}
use Rattle.tg_base.specs.declared.cell.Cell.TheVariants.{Junk, Data}
use Rattle.tg_base.specs.declared.ids.NodeId.{NodeId}
use Rattle.tg_base.specs.declared.msg.Msg.{Msg}
use Rattle.tg_base.specs.declared.msg.Msg.TheVariants as msg
use Rattle.tg_base.specs.declared.packet.Out.{Out}
use Rattle.tg_base.specs.declared.packet.Packet.{Packet}
use Rattle.tg_kind.specs.Meaning.{Meaning}
use Rattle.tg_protocol.specs.Words.{unit_id, layout_id, seqr_id}
use Rattle.tg_protocol.specs.Requests.{out, Waits, asked_of, awaits}
use Rattle.tg_protocol.specs.Units.{unit_ask}
use Rattle.tg_protocol.specs.Cells.{Place, place_in, unit_at, CellWork, Puts, Gets, Fills, Copies, Probes, CellJob, work_asks, cell_asks}
use Rattle.tg_protocol.specs.Appending.{Append, AppendWork, Asking, Putting, Judging, append_work_asks}
use Rattle.tg_protocol.specs.Syncing.{Sync, SyncWork, Checking, Settling, Probing, sync_work_asks}
use Rattle.tg_protocol.specs.Walking.{job_asks}
use Rattle.tg_protocol.specs.Trimming.{has_stripe, CopyWork, Sealing, Reading, Storing, Trimming, Looking, Copying, copy_work_asks}
use Rattle.tg_protocol.specs.Reconfiguring.{Reconf, ReconfWork, SealingSpare, LookingSpare, Agreeing, Telling, Starting, LookingAgain, Preparing, Accepting, Stage, Later, reconf_work_asks, reconf_awaited, later_asks, stage_asks, set_asks}
use Rattle.tg_protocol.specs.Reconfiguring as re
use Rattle.tg_protocol.specs.Clients.{Task, Syncing, Walking, Appending, Copying', Reconfiguring, Hand, Doing, Learning}
use Rattle.tg_protocol.specs.Clients as task
use Rattle.tg_protocol.specs.ClientSteps.{task_asks, task_awaited}
use Rattle.tg_law_layouts.proofs.Moves.Members.{Has, has_either, has_map}
use Rattle.tg_law_layouts.specs.Moves.Telling.{Claim, claimed}
use Rattle.tg_law_layouts.proofs.Requests.Told.{Tells, tells_grows}
use Rattle.tg_law_layouts.proofs.Moves.Reconfs.{join_plain}
use Rattle.tg_law_cells.proofs.Cells.Justified.{awaited_ask, ToldBy, Upto, WorkOk, Claims, ClaimsOf}
use Rattle.tg_law_cells.proofs.Cells.Jobs.{JobOk, CellOk, AppendOk, AppendClaims, SyncOk, SyncClaims, MaybeOk, MaybeClaims, CopyOk, CopyClaims}
use Rattle.tg_law_cells.proofs.Cells.Hands.{TaskOk, TaskClaims}

-- Justified.

module _ (ps : List Packet) (K : Layout → Type 0) where
  -- the unit of a layout's chain after the first ones, which have told the cell
  pub record GoesDown (to : NodeId) (e p : ℕ) (c : Cell) : Type 0 where
    pub layout : Layout
    pub known : K layout
    pub place : Place
    pub at : place ≡ place_in layout place.pos
    pub epoch : e ≡ place.epoch
    pub pos : p ≡ place.pos
    pub index : ℕ
    pub within : 0 < index → index < length place.chain
    pub unit : to ≡ unit_id (unit_at place index)
    pub told : Upto ps place c index

  -- a unit that isn't the first
  abbrev pub GoesOn : NodeId → ℕ → ℕ → Cell → Type 0
  GoesOn to e p c = (g : GoesDown to e p c) × (0 < g.index)

  -- a spare unit gets what the chain's last unit has told
  pub record GoesAside (e p : ℕ) (c : Cell) : Type 0 where
    pub layout : Layout
    pub known : K layout
    pub epoch : e ≡ layout.epoch
    pub told : CellOk ps layout p c

  abbrev pub Justified : NodeId → Msg → Type 0
  Justified to (msg.Write e p d) = GoesDown to e p (Data d)
  Justified to (msg.Fill e p) = GoesDown to e p Junk
  Justified to (msg.Copy e p c) = GoesOn to e p c ⊎ GoesAside e p c
  Justified to m = Unit {0}

  abbrev pub AllJust : List Out → Type 0
  AllJust os = (o : Out) → Has os o → Justified o.to o.msg

  pub one_just : (to : NodeId) (r : ℕ) (x : Msg) → Justified to x → AllJust (out to r x ∷ [])
  one_just to r x j o (inl e) = subst (λ (y : Out). Justified y.to y.msg) (sym e) j
  one_just to r x j o (inr h) = absurd h

  pub asked_just : (name : ℕ → NodeId) (x : Msg) (ws : Waits) → ((to : NodeId) → Justified to x) → AllJust (asked_of name x ws)
  asked_just name x ws j o h = let i = has_map (λ (w : ℕ × ℕ). out (name w.0) w.1 x) ws o h in subst (λ (y : Out). Justified y.to y.msg) (sym i.is) (j _)

  pub both_just : (xs ys : List Out) → AllJust xs → AllJust ys → AllJust (xs ++ ys)
  both_just xs ys f g o h = by (has_either xs ys o h)
    where
      by : Has xs o ⊎ Has ys o → Justified o.to o.msg
      by (inl x) = f o x
      by (inr x) = g o x

  pub none_just : AllJust []
  none_just o h = absurd h

  cell_just : (p : Layout) → K p → (a : Place) (w : CellWork) → a ≡ place_in p a.pos → WorkOk ps a w → AllJust (work_asks a w)
  unfolding work_asks
  cell_just p n a (Puts r d i) at k = one_just _ r _ (record { layout = p; known = n; place = a; at = at; epoch = refl; pos = refl; index = i; within = k.0; unit = refl; told = k.1 })
  cell_just p n a (Gets r) at k = one_just _ r (msg.Read a.epoch a.pos) tt
  cell_just p n a (Fills r) at k = one_just _ r _ (record { layout = p; known = n; place = a; at = at; epoch = refl; pos = refl; index = 0; within = λ past. absurd (omega (arith, past)); unit = refl; told = λ i less. absurd (omega (arith, less)) })
  cell_just p n a (Copies r c i) at k = one_just _ r _ (inl (record { layout = p; known = n; place = a; at = at; epoch = refl; pos = refl; index = i; within = λ past. k.1; unit = refl; told = k.2 }, k.0))
  cell_just p n a (Probes ws) at k = asked_just unit_id (msg.Has a.epoch a.pos a.pos 1) ws (λ to. tt)

  job_just : (p : Layout) → K p → (j : CellJob) → JobOk ps p j → AllJust (cell_asks j)
  job_just p n j k = cell_just p n j.place j.work k.place k.work

  pub maybe_just : (p : Layout) → K p → (o : Option CellJob) → MaybeOk ps p o → AllJust (job_asks o)
  maybe_just p n None k = none_just
  maybe_just p n (Some j) k = job_just p n j k

  append_just : (p : Layout) → K p → (a : Append) (w : AppendWork) → AppendOk ps p w → AllJust (append_work_asks p a w)
  unfolding append_work_asks
  append_just p n a (Asking r) k = one_just (seqr_id p.seq) r (msg.Token p.epoch _) tt
  append_just p n a (Putting j) k = job_just p n j k
  append_just p n a (Judging j) k = job_just p n j k

  sync_just : (p : Layout) → K p → (s : Sync) (w : SyncWork) → SyncOk ps p w → AllJust (sync_work_asks p s w)
  unfolding sync_work_asks
  sync_just p n s (Checking r) k = one_just (seqr_id p.seq) r (msg.Check p.epoch s.oids) tt
  sync_just p n s (Settling a j) k = job_just p n j k
  sync_just p n s (Probing a j) k = job_just p n j k

  copy_just : (p : Layout) → K p → (c : Copying) (w : CopyWork) → CopyOk ps p w → AllJust (copy_work_asks p c w)
  unfolding copy_work_asks
  copy_just p n c (Sealing r) k = one_just (unit_id c.unit) r (msg.Seal p.epoch) tt
  copy_just p n c (Reading j) k = job_just p n j k
  copy_just p n c (Storing r pos x) k = one_just (unit_id c.unit) r (msg.Copy p.epoch pos x) (inr (record { layout = p; known = n; epoch = refl; told = k }))
  copy_just p n c (Trimming r b) k = one_just (unit_id c.unit) r (msg.Trim p.epoch b) tt
  copy_just p n c (Looking r) k = one_just (unit_id c.unit) r (has_stripe p.epoch p c.range c.stripe) tt

  stage_just : (r : Reconf) (round : ℕ) (s : Stage) → AllJust (stage_asks r round s)
  stage_just r round (Preparing ws hs) = asked_just layout_id (msg.Prepare (re.next_epoch r) (re.ballot_of r round)) ws (λ to. tt)
  stage_just r round (Accepting ws n q) = asked_just layout_id (msg.Accept (re.next_epoch r) (re.ballot_of r round) q) ws (λ to. tt)

  set_just : (r : Reconf) (l : Option Later) → AllJust (set_asks r l)
  set_just r None = none_just
  set_just r (Some l) = asked_just layout_id (msg.Prepare (re.next_epoch r) (re.ballot_of r l.round)) l.waits (λ to. tt)

  reconf_just : (r : Reconf) (w : ReconfWork) → AllJust (reconf_work_asks r w ++ later_asks r w)
  unfolding reconf_work_asks
  reconf_just r (SealingSpare n) = both_just _ [] (join_plain AllJust r.change.join _ none_just (λ j. one_just (unit_id j.unit) n (msg.Seal r.stand.epoch) tt)) none_just
  reconf_just r (LookingSpare n) = both_just _ [] (join_plain AllJust r.change.join _ none_just (λ j. one_just (unit_id j.unit) n (has_stripe r.stand.epoch r.stand j.range j.stripe) tt)) none_just
  reconf_just r (re.Sealing ws acks) = both_just _ [] (asked_just unit_id (msg.Seal (re.next_epoch r)) ws (λ to. tt)) none_just
  reconf_just r (LookingAgain n acks) = both_just _ [] (join_plain AllJust r.change.join _ none_just (λ j. one_just (unit_id j.unit) n (has_stripe (re.next_epoch r) r.stand j.range j.stripe) tt)) none_just
  reconf_just r (Agreeing v) = both_just _ _ (stage_just r v.round v.stage) (set_just r v.later)
  reconf_just r (Telling ws h q) = both_just _ [] (asked_just layout_id (msg.Decided q) ws (λ to. tt)) none_just
  reconf_just r (Starting n) = one_just (seqr_id r.stand.seq) n (msg.Learn r.stand) tt

-- More packets.

module _ (ps qs : List Packet) (more : (x : Packet) → Has ps x → Has qs x) where
  pub told_grows : (u e p : ℕ) (c : Cell) → ToldBy ps u e p c → ToldBy qs u e p c
  told_grows u e p c t = record { claim = t.claim; tells = tells_grows ps qs u t.claim more t.tells; epoch = t.epoch; pos = t.pos; cell = t.cell }

  work_grows : (a : Place) (w : CellWork) → WorkOk ps a w → WorkOk qs a w
  work_grows a (Puts r d i) k = (k.0, λ n less. told_grows _ _ _ _ (k.1 n less))
  work_grows a (Copies r c i) k = (k.0, k.1, λ n less. told_grows _ _ _ _ (k.2 n less))
  work_grows a (Gets r) k = tt
  work_grows a (Fills r) k = tt
  work_grows a (Probes ws) k = tt

  job_grows : (p : Layout) (j : CellJob) → JobOk ps p j → JobOk qs p j
  job_grows p j k = record { place = k.place; work = work_grows j.place j.work k.work }

  cell_grows : (p : Layout) (pos : ℕ) (c : Cell) → CellOk ps p pos c → CellOk qs p pos c
  cell_grows p pos c (inl k) = inl (λ n less. told_grows _ _ _ _ (k n less))
  cell_grows p pos c (inr t) = inr (told_grows _ _ _ _ t)

  pub maybe_grows : (p : Layout) (o : Option CellJob) → MaybeOk ps p o → MaybeOk qs p o
  maybe_grows p None k = tt
  maybe_grows p (Some j) k = job_grows p j k

  append_grows : (p : Layout) (w : AppendWork) → AppendOk ps p w → AppendOk qs p w
  append_grows p (Asking r) k = tt
  append_grows p (Putting j) k = job_grows p j k
  append_grows p (Judging j) k = job_grows p j k

  sync_grows : (p : Layout) (w : SyncWork) → SyncOk ps p w → SyncOk qs p w
  sync_grows p (Checking r) k = tt
  sync_grows p (Settling a j) k = job_grows p j k
  sync_grows p (Probing a j) k = job_grows p j k

  copy_grows : (p : Layout) (w : CopyWork) → CopyOk ps p w → CopyOk qs p w
  copy_grows p (Sealing r) k = tt
  copy_grows p (Reading j) k = job_grows p j k
  copy_grows p (Storing r pos x) k = cell_grows p pos x k
  copy_grows p (Trimming r b) k = tt
  copy_grows p (Looking r) k = tt

  module _ (K L : Layout → Type 0) (up : (p : Layout) → K p → L p) where
    down_grows : (to : NodeId) (e p : ℕ) (c : Cell) → GoesDown ps K to e p c → GoesDown qs L to e p c
    down_grows to e p c g = record { layout = g.layout; known = up g.layout g.known; place = g.place; at = g.at; epoch = g.epoch; pos = g.pos; index = g.index; within = g.within; unit = g.unit; told = λ n less. told_grows _ _ _ _ (g.told n less) }

    pub just_grows : (to : NodeId) (x : Msg) → Justified ps K to x → Justified qs L to x
    unfolding down_grows
    just_grows to (msg.Write e p d) j = down_grows to e p (Data d) j
    just_grows to (msg.Fill e p) j = down_grows to e p Junk j
    just_grows to (msg.Copy e p c) (inl j) = inl (down_grows to e p c j.0, j.1)
    just_grows to (msg.Copy e p c) (inr j) = inr (record { layout = j.layout; known = up j.layout j.known; epoch = j.epoch; told = cell_grows j.layout p c j.told })
    just_grows to x j = j

module _ (m : Meaning) where
  pub task_just : (ps : List Packet) (K : Layout → Type 0) (p : Layout) → K p → (t : Task m) → TaskOk m ps p t → AllJust ps K (task_awaited m p t)
  unfolding task_asks
  task_just ps K p n (Syncing s) k = sync_just ps K p n s s.work k
  task_just ps K p n (Walking w os) k = maybe_just ps K p n w.job k
  task_just ps K p n (Appending a x) k = append_just ps K p n a a.work k
  task_just ps K p n (task.Trimming t) k = asked_just ps K unit_id (msg.Trim p.epoch t.below) t.waits (λ to. tt)
  task_just ps K p n (Copying' c) k = copy_just ps K p n c c.work k
  task_just ps K p n (Reconfiguring r) k = reconf_just ps K r r.work

  pub task_grows : (ps qs : List Packet) → ((x : Packet) → Has ps x → Has qs x) → (p : Layout) (t : Task m) → TaskOk m ps p t → TaskOk m qs p t
  task_grows ps qs more p (Syncing s) k = sync_grows ps qs more p s.work k
  task_grows ps qs more p (Walking w os) k = maybe_grows ps qs more p w.job k
  task_grows ps qs more p (Appending a x) k = append_grows ps qs more p a.work k
  task_grows ps qs more p (task.Trimming t) k = tt
  task_grows ps qs more p (Copying' c) k = copy_grows ps qs more p c.work k
  task_grows ps qs more p (Reconfiguring r) k = tt

-- What an awaited answer claims.

module _ (ps : List Packet) (from : NodeId) (rid : ℕ) (y : Msg) where
  abbrev pub Heard : List Out → Type 0
  Heard os = (o : Out) → Has os o → o.to ≡ from → o.rid ≡ rid → (u : ℕ) → from ≡ unit_id u → (k : Claim) → claimed (unit_ask o.msg) y ≡ Some k → Tells ps u k

  one_claims : (v r : ℕ) (x : Msg) → awaits (out (unit_id v) r x ∷ []) from rid ≡ true → Heard (out (unit_id v) r x ∷ []) → ClaimsOf ps v x y
  one_claims v r x h f = let a = awaited_ask (out (unit_id v) r x ∷ []) from rid h in by a.ask a.has a.to a.number
    where
      by : (o : Out) → Has (out (unit_id v) r x ∷ []) o → o.to ≡ from → o.rid ≡ rid → ClaimsOf ps v x y
      by o (inl e) to number = λ k is. f (out (unit_id v) r x) (inl refl) (sym (ap (λ (z : Out). z.to) e) ∙ to) (sym (ap (λ (z : Out). z.rid) e) ∙ number) v (sym (sym (ap (λ (z : Out). z.to) e) ∙ to)) k is
      by o (inr g) to number = absurd g

  cell_claims : (a : Place) (w : CellWork) → awaits (work_asks a w) from rid ≡ true → Heard (work_asks a w) → Claims ps a w y
  unfolding work_asks
  cell_claims a (Puts r d i) h f = one_claims _ r _ h f
  cell_claims a (Gets r) h f = one_claims _ r _ h f
  cell_claims a (Fills r) h f = one_claims _ r _ h f
  cell_claims a (Copies r c i) h f = one_claims _ r _ h f
  cell_claims a (Probes ws) h f = tt

  pub maybe_claims : (p : Layout) (o : Option CellJob) → awaits (job_asks o) from rid ≡ true → Heard (job_asks o) → MaybeClaims ps p o y
  maybe_claims p None h f = tt
  maybe_claims p (Some j) h f = cell_claims j.place j.work h f

  append_claims : (p : Layout) (a : Append) (w : AppendWork) → awaits (append_work_asks p a w) from rid ≡ true → Heard (append_work_asks p a w) → AppendClaims ps p w y
  unfolding append_work_asks
  append_claims p a (Asking r) h f = tt
  append_claims p a (Putting j) h f = cell_claims j.place j.work h f
  append_claims p a (Judging j) h f = cell_claims j.place j.work h f

  sync_claims : (p : Layout) (s : Sync) (w : SyncWork) → awaits (sync_work_asks p s w) from rid ≡ true → Heard (sync_work_asks p s w) → SyncClaims ps p w y
  unfolding sync_work_asks
  sync_claims p s (Checking r) h f = tt
  sync_claims p s (Settling a j) h f = cell_claims j.place j.work h f
  sync_claims p s (Probing a j) h f = cell_claims j.place j.work h f

  copy_claims : (p : Layout) (c : Copying) (w : CopyWork) → awaits (copy_work_asks p c w) from rid ≡ true → Heard (copy_work_asks p c w) → CopyClaims ps p w y
  unfolding copy_work_asks
  copy_claims p c (Sealing r) h f = tt
  copy_claims p c (Reading j) h f = cell_claims j.place j.work h f
  copy_claims p c (Storing r pos x) h f = tt
  copy_claims p c (Trimming r b) h f = tt
  copy_claims p c (Looking r) h f = tt

  pub task_claims : (m : Meaning) (p : Layout) (t : Task m) → awaits (task_awaited m p t) from rid ≡ true → Heard (task_awaited m p t) → TaskClaims m ps p t y
  unfolding task_asks
  task_claims m p (Syncing s) h f = sync_claims p s s.work h f
  task_claims m p (Walking w os) h f = maybe_claims p w.job h f
  task_claims m p (Appending a x) h f = append_claims p a a.work h f
  task_claims m p (task.Trimming t) h f = tt
  task_claims m p (Copying' c) h f = copy_claims p c c.work h f
  task_claims m p (Reconfiguring r) h f = tt
