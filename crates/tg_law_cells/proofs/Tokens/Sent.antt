-- A page that is sent goes to the position of its own token.
use Rattle.std.proofs.Common.{◌≡◌, ◌⊎◌, ℕ, List, [], ◌∷◌, ◌++◌, true, refl, sym, ap, ◌∙◌, subst, inl, inr, Some, None, Option}
use Rattle.tg_base.specs.Layouts.{Layout}
use Rattle.tg_base.specs.declared.cell.Cell.{Cell}
use Rattle.tg_base.specs.declared.cell.Cell.TheVariants.{Junk, Data}
use Rattle.tg_protocol.specs.Units.{unit_ask}
use Rattle.tg_law_layouts.specs.Moves.Telling.{Claim, claimed}
use Rattle.tg_base.specs.declared.ids.NodeId.{NodeId}
use Rattle.tg_base.specs.declared.msg.Msg.{Msg}
use Rattle.tg_base.specs.declared.msg.Msg.TheVariants as msg
use Rattle.tg_base.specs.declared.packet.Out.{Out}
use Rattle.tg_base.specs.declared.packet.Packet.{Packet}
use Rattle.tg_kind.specs.Meaning.{Meaning}
use Rattle.tg_protocol.specs.Words.{unit_id, layout_id, seqr_id}
use Rattle.tg_protocol.specs.Requests.{out, Waits, asked_of, awaits}
use Rattle.tg_protocol.specs.Cells.{Place, CellWork, Puts, Gets, Fills, Copies, Probes, CellJob, work_asks, cell_asks}
use Rattle.tg_protocol.specs.Appending.{Append, AppendWork, Asking, Putting, Judging, append_work_asks}
use Rattle.tg_protocol.specs.Syncing.{Sync, SyncWork, Checking, Settling, Probing, sync_work_asks}
use Rattle.tg_protocol.specs.Walking.{job_asks}
use Rattle.tg_protocol.specs.Trimming.{has_stripe, CopyWork, Sealing, Reading, Storing, Trimming, Looking, Copying, copy_work_asks}
use Rattle.tg_protocol.specs.Reconfiguring.{Reconf, ReconfWork, SealingSpare, LookingSpare, Agreeing, Telling, Starting, LookingAgain, Preparing, Accepting, Stage, Later, reconf_work_asks, reconf_awaited, later_asks, stage_asks, set_asks}
use Rattle.tg_protocol.specs.Reconfiguring as re
use Rattle.tg_protocol.specs.Clients.{Task, Syncing, Walking, Appending, Copying', Reconfiguring, Hand, Doing, Learning}
use Rattle.tg_protocol.specs.Clients as task
use Rattle.tg_protocol.specs.ClientSteps.{task_asks, task_awaited}
use Rattle.tg_law_layouts.proofs.Moves.Members.{Has, has_either, has_map}
use Rattle.tg_law_layouts.proofs.Moves.Reconfs.{join_plain}
use Rattle.tg_law_cells.proofs.Cells.Justified.{awaited_ask}
use Rattle.tg_base.specs.declared.marks.StreamLink.{StreamLink}
use Rattle.tg_law_cells.proofs.Tokens.Owning.{MayPut, Nothing, Pair, Owned, OwnCell, WorkOk, Claims}
use Rattle.tg_law_cells.proofs.Tokens.Jobs.{JobOk, Mine, AppendOk, AppendClaims, SyncOk, SyncClaims, MaybeOk, MaybeClaims, CopyOk, CopyClaims}
use Rattle.tg_law_cells.proofs.Tokens.Hands.{TaskOk, TaskClaims}

-- Justified.

module _ (ps : List Packet) (me : NodeId) where
  abbrev pub Justified : NodeId → Msg → Type 0
  Justified to (msg.Write e p d) = Owned ps me e p d
  Justified to (msg.Copy e p c) = OwnCell ps p c
  Justified to m = Unit {0}

  abbrev pub AllJust : List Out → Type 0
  AllJust os = (o : Out) → Has os o → Justified o.to o.msg

  pub one_just : (to : NodeId) (r : ℕ) (x : Msg) → Justified to x → AllJust (out to r x ∷ [])
  one_just to r x j o (inl e) = subst (λ (y : Out). Justified y.to y.msg) (sym e) j
  one_just to r x j o (inr h) = absurd h

  pub asked_just : (name : ℕ → NodeId) (x : Msg) (ws : Waits) → ((to : NodeId) → Justified to x) → AllJust (asked_of name x ws)
  asked_just name x ws j o h = let i = has_map (λ (w : ℕ × ℕ). out (name w.0) w.1 x) ws o h in subst (λ (y : Out). Justified y.to y.msg) (sym i.is) (j (name i.of.0))

  pub both_just : (xs ys : List Out) → AllJust xs → AllJust ys → AllJust (xs ++ ys)
  both_just xs ys f g o h = by (has_either xs ys o h)
    where
      by : Has xs o ⊎ Has ys o → Justified o.to o.msg
      by (inl x) = f o x
      by (inr x) = g o x

  pub none_just : AllJust []
  none_just o h = absurd h

  -- what a machine may put is justified
  abbrev JustPut : MayPut → Type 0
  JustPut P = (e pos : ℕ) (d : List ℕ) → P e pos d → Owned ps me e pos d

  none_put : JustPut Nothing
  none_put e pos d k = absurd k

  cell_just : (P : MayPut) → JustPut P → (a : Place) (w : CellWork) → WorkOk ps P a w → AllJust (work_asks a w)
  unfolding work_asks
  cell_just P f a (Puts r d i) k = one_just _ r _ (f a.epoch a.pos d k)
  cell_just P f a (Gets r) k = one_just _ r (msg.Read a.epoch a.pos) tt
  cell_just P f a (Fills r) k = one_just _ r (msg.Fill a.epoch a.pos) tt
  cell_just P f a (Copies r c i) k = one_just _ r (msg.Copy a.epoch a.pos c) k
  cell_just P f a (Probes ws) k = asked_just unit_id (msg.Has a.epoch a.pos a.pos 1) ws (λ to. tt)

  job_just : (p : Layout) (j : CellJob) → JobOk ps Nothing p j → AllJust (cell_asks j)
  job_just p j k = cell_just Nothing none_put j.place j.work k.work

  put_just : (p : Layout) (j : CellJob) → JobOk ps (Mine ps me p) p j → AllJust (cell_asks j)
  put_just p j k = cell_just (Mine ps me p) (λ e pos d o. o) j.place j.work k.work

  pub maybe_just : (p : Layout) (o : Option CellJob) → MaybeOk ps me p o → AllJust (job_asks o)
  maybe_just p None k = none_just
  maybe_just p (Some j) k = job_just p j k

  append_just : (p : Layout) (a : Append) (w : AppendWork) → AppendOk ps me p w → AllJust (append_work_asks p a w)
  unfolding append_work_asks
  append_just p a (Asking r) k = one_just (seqr_id p.seq) r (msg.Token p.epoch _) tt
  append_just p a (Putting j) k = put_just p j k
  append_just p a (Judging j) k = job_just p j k

  sync_just : (p : Layout) (s : Sync) (w : SyncWork) → SyncOk ps me p w → AllJust (sync_work_asks p s w)
  unfolding sync_work_asks
  sync_just p s (Checking r) k = one_just (seqr_id p.seq) r (msg.Check p.epoch s.oids) tt
  sync_just p s (Settling a j) k = job_just p j k
  sync_just p s (Probing a j) k = job_just p j k

  copy_just : (p : Layout) (c : Copying) (w : CopyWork) → CopyOk ps me p w → AllJust (copy_work_asks p c w)
  unfolding copy_work_asks
  copy_just p c (Sealing r) k = one_just (unit_id c.unit) r (msg.Seal p.epoch) tt
  copy_just p c (Reading j) k = job_just p j k
  copy_just p c (Storing r pos x) k = one_just (unit_id c.unit) r (msg.Copy p.epoch pos x) k
  copy_just p c (Trimming r b) k = one_just (unit_id c.unit) r (msg.Trim p.epoch b) tt
  copy_just p c (Looking r) k = one_just (unit_id c.unit) r (has_stripe p.epoch p c.range c.stripe) tt

  stage_just : (r : Reconf) (round : ℕ) (s : Stage) → AllJust (stage_asks r round s)
  stage_just r round (Preparing ws hs) = asked_just layout_id (msg.Prepare (re.next_epoch r) (re.ballot_of r round)) ws (λ to. tt)
  stage_just r round (Accepting ws n q) = asked_just layout_id (msg.Accept (re.next_epoch r) (re.ballot_of r round) q) ws (λ to. tt)

  set_just : (r : Reconf) (l : Option Later) → AllJust (set_asks r l)
  set_just r None = none_just
  set_just r (Some l) = asked_just layout_id (msg.Prepare (re.next_epoch r) (re.ballot_of r l.round)) l.waits (λ to. tt)

  pub reconf_just : (r : Reconf) (w : ReconfWork) → AllJust (reconf_work_asks r w ++ later_asks r w)
  unfolding reconf_work_asks
  reconf_just r (SealingSpare n) = both_just _ [] (join_plain AllJust r.change.join _ none_just (λ j. one_just (unit_id j.unit) n (msg.Seal r.stand.epoch) tt)) none_just
  reconf_just r (LookingSpare n) = both_just _ [] (join_plain AllJust r.change.join _ none_just (λ j. one_just (unit_id j.unit) n (has_stripe r.stand.epoch r.stand j.range j.stripe) tt)) none_just
  reconf_just r (re.Sealing ws acks) = both_just _ [] (asked_just unit_id (msg.Seal (re.next_epoch r)) ws (λ to. tt)) none_just
  reconf_just r (LookingAgain n acks) = both_just _ [] (join_plain AllJust r.change.join _ none_just (λ j. one_just (unit_id j.unit) n (has_stripe (re.next_epoch r) r.stand j.range j.stripe) tt)) none_just
  reconf_just r (Agreeing v) = both_just _ _ (stage_just r v.round v.stage) (set_just r v.later)
  reconf_just r (Telling ws h q) = both_just _ [] (asked_just layout_id (msg.Decided q) ws (λ to. tt)) none_just
  reconf_just r (Starting n) = one_just (seqr_id r.stand.seq) n (msg.Learn r.stand) tt

-- More packets.

module _ (ps qs : List Packet) (more : (x : Packet) → Has ps x → Has qs x) (me : NodeId) where
  pair_grows : (s : ℕ) (x : Msg) (pos : ℕ) (ls : List StreamLink) → Pair ps me s x pos ls → Pair qs me s x pos ls
  pair_grows s x pos ls k = record { ask = k.ask; answer = k.answer; asked = more k.ask k.asked; answered = more k.answer k.answered; by = k.by; to_seqr = k.to_seqr; from_seqr = k.from_seqr; back = k.back; number = k.number; asks = k.asks; issues = k.issues }

  owned_grows : (e pos : ℕ) (d : List ℕ) → Owned ps me e pos d → Owned qs me e pos d
  owned_grows e pos d k = record { seqr = k.seqr; draft = k.draft; links = k.links; pair = pair_grows _ _ _ _ k.pair; names = k.names; page = k.page }

  pub own_grows : (pos : ℕ) (c : Cell) → OwnCell ps pos c → OwnCell qs pos c
  own_grows pos Junk k = tt
  own_grows pos (Data d) k = record { packet = k.packet; sent = more k.packet k.sent; epoch = k.epoch; is = k.is }

  work_grows : (P Q : MayPut) → ((e pos : ℕ) (d : List ℕ) → P e pos d → Q e pos d) → (a : Place) (w : CellWork) → WorkOk ps P a w → WorkOk qs Q a w
  work_grows P Q f a (Puts r d i) k = f a.epoch a.pos d k
  work_grows P Q f a (Copies r c i) k = own_grows a.pos c k
  work_grows P Q f a (Gets r) k = tt
  work_grows P Q f a (Fills r) k = tt
  work_grows P Q f a (Probes ws) k = tt

  job_grows : (p : Layout) (j : CellJob) → JobOk ps Nothing p j → JobOk qs Nothing p j
  job_grows p j k = record { place = k.place; work = work_grows Nothing Nothing (λ e pos d n. n) j.place j.work k.work }

  put_grows : (p : Layout) (j : CellJob) → JobOk ps (Mine ps me p) p j → JobOk qs (Mine qs me p) p j
  put_grows p j k = record { place = k.place; work = work_grows (Mine ps me p) (Mine qs me p) owned_grows j.place j.work k.work }

  pub maybe_grows : (p : Layout) (o : Option CellJob) → MaybeOk ps me p o → MaybeOk qs me p o
  maybe_grows p None k = tt
  maybe_grows p (Some j) k = job_grows p j k

  append_grows : (p : Layout) (w : AppendWork) → AppendOk ps me p w → AppendOk qs me p w
  append_grows p (Asking r) k = tt
  append_grows p (Putting j) k = put_grows p j k
  append_grows p (Judging j) k = job_grows p j k

  sync_grows : (p : Layout) (w : SyncWork) → SyncOk ps me p w → SyncOk qs me p w
  sync_grows p (Checking r) k = tt
  sync_grows p (Settling a j) k = job_grows p j k
  sync_grows p (Probing a j) k = job_grows p j k

  copy_grows : (p : Layout) (w : CopyWork) → CopyOk ps me p w → CopyOk qs me p w
  copy_grows p (Sealing r) k = tt
  copy_grows p (Reading j) k = job_grows p j k
  copy_grows p (Storing r pos x) k = own_grows pos x k
  copy_grows p (Trimming r b) k = tt
  copy_grows p (Looking r) k = tt

  pub just_grows : (to : NodeId) (x : Msg) → Justified ps me to x → Justified qs me to x
  just_grows to (msg.Write e p d) j = owned_grows e p d j
  just_grows to (msg.Copy e p c) j = own_grows p c j
  just_grows to x j = j

module _ (m : Meaning) where
  pub task_just : (ps : List Packet) (me : NodeId) (p : Layout) (t : Task m) → TaskOk m ps me p t → AllJust ps me (task_awaited m p t)
  unfolding task_asks
  task_just ps me p (Syncing s) k = sync_just ps me p s s.work k
  task_just ps me p (Walking w os) k = maybe_just ps me p w.job k
  task_just ps me p (Appending a x) k = append_just ps me p a a.work k
  task_just ps me p (task.Trimming t) k = asked_just ps me unit_id (msg.Trim p.epoch t.below) t.waits (λ to. tt)
  task_just ps me p (Copying' c) k = copy_just ps me p c c.work k
  task_just ps me p (Reconfiguring r) k = reconf_just ps me r r.work

  pub task_grows : (ps qs : List Packet) → ((x : Packet) → Has ps x → Has qs x) → (me : NodeId) (p : Layout) (t : Task m) → TaskOk m ps me p t → TaskOk m qs me p t
  task_grows ps qs more me p (Syncing s) k = sync_grows ps qs more me p s.work k
  task_grows ps qs more me p (Walking w os) k = maybe_grows ps qs more me p w.job k
  task_grows ps qs more me p (Appending a x) k = append_grows ps qs more me p a.work k
  task_grows ps qs more me p (task.Trimming t) k = tt
  task_grows ps qs more me p (Copying' c) k = copy_grows ps qs more me p c.work k
  task_grows ps qs more me p (Reconfiguring r) k = tt

-- What an awaited answer claims.

module _ (ps : List Packet) (me : NodeId) (from : NodeId) (rid : ℕ) (y : Msg) where
  -- of a sequencer, what it has issued; of a unit, that the cell which it tells is an own page's
  abbrev HeardSeqr : List Out → Type 0
  HeardSeqr os = (o : Out) → Has os o → o.to ≡ from → o.rid ≡ rid → (s : ℕ) → from ≡ seqr_id s → (pos : ℕ) (ls : List StreamLink) → y ≡ msg.Issued pos ls → Pair ps me s o.msg pos ls

  abbrev pub HeardUnit : List Out → Type 0
  HeardUnit os = (o : Out) → Has os o → o.to ≡ from → o.rid ≡ rid → (u : ℕ) → from ≡ unit_id u → (k : Claim) → claimed (unit_ask o.msg) y ≡ Some k → OwnCell ps k.pos k.cell

  abbrev pub Heard : List Out → Type 0
  Heard os = HeardSeqr os × HeardUnit os

  unit_claims : (v r : ℕ) (x : Msg) → awaits (out (unit_id v) r x ∷ []) from rid ≡ true → HeardUnit (out (unit_id v) r x ∷ []) → (k : Claim) → claimed (unit_ask x) y ≡ Some k → OwnCell ps k.pos k.cell
  unit_claims v r x h f = let a = awaited_ask (out (unit_id v) r x ∷ []) from rid h in by a.ask a.has a.to a.number
    where
      by : (o : Out) → Has (out (unit_id v) r x ∷ []) o → o.to ≡ from → o.rid ≡ rid → (k : Claim) → claimed (unit_ask x) y ≡ Some k → OwnCell ps k.pos k.cell
      by o (inl e) to number = λ k is. f (out (unit_id v) r x) (inl refl) (sym (ap (λ (z : Out). z.to) e) ∙ to) (sym (ap (λ (z : Out). z.rid) e) ∙ number) v (sym (sym (ap (λ (z : Out). z.to) e) ∙ to)) k is
      by o (inr g) to number = absurd g

  here : ℕ → ℕ → Cell → Claim
  here e p c = record { epoch = e; pos = p; cell = c }

  cell_claims : (a : Place) (w : CellWork) → awaits (work_asks a w) from rid ≡ true → HeardUnit (work_asks a w) → Claims ps a w y
  unfolding work_asks claimed unit_ask here
  cell_claims a (Puts r d i) h f = λ is. unit_claims _ r (msg.Write a.epoch a.pos d) h f (here a.epoch a.pos (Data d)) (ap (λ (z : Msg). claimed (unit_ask (msg.Write a.epoch a.pos d)) z) is)
  cell_claims a (Gets r) h f = λ c is. unit_claims _ r (msg.Read a.epoch a.pos) h f (here a.epoch a.pos c) (ap (λ (z : Msg). claimed (unit_ask (msg.Read a.epoch a.pos)) z) is)
  cell_claims a (Fills r) h f = λ c is. unit_claims _ r (msg.Fill a.epoch a.pos) h f (here a.epoch a.pos c) (ap (λ (z : Msg). claimed (unit_ask (msg.Fill a.epoch a.pos)) z) is)
  cell_claims a (Copies r x i) h f = λ c is. unit_claims _ r (msg.Copy a.epoch a.pos x) h f (here a.epoch a.pos c) (ap (λ (z : Msg). claimed (unit_ask (msg.Copy a.epoch a.pos x)) z) is)
  cell_claims a (Probes ws) h f = tt

  one_claims : (v r : ℕ) (x : Msg) → awaits (out (seqr_id v) r x ∷ []) from rid ≡ true → HeardSeqr (out (seqr_id v) r x ∷ []) → (pos : ℕ) (ls : List StreamLink) → y ≡ msg.Issued pos ls → Pair ps me v x pos ls
  one_claims v r x h f pos ls is = let a = awaited_ask (out (seqr_id v) r x ∷ []) from rid h in by a.ask a.has a.to a.number
    where
      by : (o : Out) → Has (out (seqr_id v) r x ∷ []) o → o.to ≡ from → o.rid ≡ rid → Pair ps me v x pos ls
      by o (inl e) to number = f (out (seqr_id v) r x) (inl refl) (sym (ap (λ (z : Out). z.to) e) ∙ to) (sym (ap (λ (z : Out). z.rid) e) ∙ number) v (sym (sym (ap (λ (z : Out). z.to) e) ∙ to)) pos ls is
      by o (inr g) to number = absurd g

  append_claims : (p : Layout) (a : Append) (w : AppendWork) → awaits (append_work_asks p a w) from rid ≡ true → Heard (append_work_asks p a w) → AppendClaims ps me p a.draft w y
  unfolding append_work_asks
  append_claims p a (Asking r) h f = λ pos ls is. one_claims p.seq r _ h f.0 pos ls is
  append_claims p a (Putting j) h f = cell_claims j.place j.work h f.1
  append_claims p a (Judging j) h f = cell_claims j.place j.work h f.1

  sync_claims : (p : Layout) (s : Sync) (w : SyncWork) → awaits (sync_work_asks p s w) from rid ≡ true → HeardUnit (sync_work_asks p s w) → SyncClaims ps me p w y
  unfolding sync_work_asks
  sync_claims p s (Checking r) h f = tt
  sync_claims p s (Settling a j) h f = cell_claims j.place j.work h f
  sync_claims p s (Probing a j) h f = cell_claims j.place j.work h f

  pub maybe_claims : (p : Layout) (o : Option CellJob) → awaits (job_asks o) from rid ≡ true → HeardUnit (job_asks o) → MaybeClaims ps me p o y
  maybe_claims p None h f = tt
  maybe_claims p (Some j) h f = cell_claims j.place j.work h f

  copy_claims : (p : Layout) (c : Copying) (w : CopyWork) → awaits (copy_work_asks p c w) from rid ≡ true → HeardUnit (copy_work_asks p c w) → CopyClaims ps me p w y
  unfolding copy_work_asks
  copy_claims p c (Sealing r) h f = tt
  copy_claims p c (Reading j) h f = cell_claims j.place j.work h f
  copy_claims p c (Storing r pos x) h f = tt
  copy_claims p c (Trimming r b) h f = tt
  copy_claims p c (Looking r) h f = tt

  pub task_claims : (m : Meaning) (p : Layout) (t : Task m) → awaits (task_awaited m p t) from rid ≡ true → Heard (task_awaited m p t) → TaskClaims m ps me p t y
  unfolding task_asks
  task_claims m p (Syncing s) h f = sync_claims p s s.work h f.1
  task_claims m p (Walking w os) h f = maybe_claims p w.job h f.1
  task_claims m p (Appending a x) h f = append_claims p a a.work h f
  task_claims m p (task.Trimming t) h f = tt
  task_claims m p (Copying' c) h f = copy_claims p c c.work h f.1
  task_claims m p (Reconfiguring r) h f = tt
