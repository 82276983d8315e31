-- What goes on of a machine in a newer layout, in a step that may have begun before.
use Rattle.std.proofs.Common.{◌≡◌, ◌≤◌, ℕ, zero, suc, true, List, [], Option, Some, None, Result, refl, sym, ap, subst, ◌∙◌}
use Rattle.std.specs.Global.{Box}
use Rattle.std.specs.Prelude.{IfOk}
use Rattle.tg_base.specs.Layouts.{Layout}
use Rattle.tg_base.specs.declared.change.Join.{Join}
use Rattle.tg_base.specs.declared.cell.Cell.{Cell}
use Rattle.tg_base.specs.declared.fault.NoMemory.{NoMemory}
use Rattle.tg_base.specs.declared.ids.Oid.{Oid}
use Rattle.tg_base.specs.declared.packet.Rids.{Rids}
use Rattle.tg_kind.specs.Meaning.{Meaning}
use Rattle.tg_protocol.specs.Words.{cell_at}
use Rattle.tg_protocol.specs.Cells.{CellJob, place_in, get_cell}
use Rattle.tg_protocol.specs.Appending.{Append, AppendTurn, AppendWork, Token, append_asks, append_again}
use Rattle.tg_protocol.specs.Syncing.{Sync, SyncTurn, sync_asks, sync_start, sync_again}
use Rattle.tg_protocol.specs.Walking.{Walk, WalkTurn, walk_asks, walk_again, walk_on, visited, next_visit, steps_left, reads_turn}
use Rattle.tg_protocol.specs.Trimming.{Trims, TrimTurn, trim_asks, trim_start, Copying}
use Rattle.tg_protocol.specs.Reconfiguring.{Reconf, reconf_awaited, reconf_latest}
use Rattle.tg_protocol.specs.Answers.{Moved}
use Rattle.tg_protocol.specs.Clients as told
use Rattle.tg_protocol.specs.ClientSteps.{task_awaited, task_again, stands, on_sync, on_walk, on_append, on_trims, copies_again, on_reconf, on_newer}
use Rattle.tg_protocol.specs.Clients.{copy_fault}
use Rattle.tg_chain.specs.declared.step.Step.{Step}
use Rattle.tg_append.specs.declared.ends.AppendEnd.{AppendEnd}
use Rattle.tg_append.specs.declared.ends.Confirmed.{Confirmed}
use Rattle.tg_append.specs.Turns.{shown}
use Rattle.tg_append.specs.Appends.{Paused, append_at, append_end, by_append}
use Rattle.tg_append.specs.Syncs.{confirmed_of, by_sync}
use Rattle.tg_stream.specs.declared.members.Members.{Members as Found}
use Rattle.tg_chain.specs.declared.step.Step.{Step as WalkStep}
use Rattle.tg_stream.specs.Turns.{shown as walk_shown, by_walk}
use Rattle.tg_stream.specs.Walks.{Course, course_of, walk_of}
use Rattle.tg_stream.proofs.Visits.{on-zero, on-none, on-known, on-unknown}
use Rattle.tg_chain.specs.declared.step.Step.{Step as TrimStep}
use Rattle.tg_trim.specs.declared.ends.TrimEnd.{TrimEnd}
use Rattle.tg_trim.specs.Turns.{shown as trim_shown, by_trim}
use Rattle.tg_copy.specs.Turns.{spare_of}
use Rattle.tg_reconf.specs.Turns.{AreDrawn}
use Rattle.tg_client_cells.specs.Known.{Knowledge}
use Rattle.tg_client_cells.specs.Walks.{ThenSettled, ThenInOrder}
use Rattle.tg_client_cells.proofs.Ordered.{finds_in_order}
use Rattle.tg_client_cells.proofs.Keeping.{keeps_settled}
use Rattle.tg_client_state.specs.Near.{NearToken}
use Rattle.tg_client_state.proofs.Appends.{append_numbers}
use Rattle.tg_client_state.proofs.Syncs.{sync_numbers}
use Rattle.tg_client_state.proofs.Walks as walks
use Rattle.tg_client_state.proofs.Trims.{trim_numbers}
use Rattle.tg_client_state.proofs.Nears.{append_stays_near, sync_stays_near}
use Rattle.tg_client_state.specs.Tasks as tasks
use Rattle.tg_client_state.specs.Tasks.{JobOf, PausedOf, PurposeOf, GoesOn, told_purpose}
use Rattle.tg_client_state.specs.declared.paused.Paused.TheVariants as given
use Rattle.tg_client_state.specs.States.{StateOf, MovedOf, Rest, WalksOn, IsLeftFit, all_below, client_of, KeepsMoved}
use Rattle.tg_client_state.specs.Moves.{Holds}
use Rattle.tg_client_state.proofs.Turning.{fits_later}
use Rattle.tg_client_tasks.specs.Shown.{AppendShown, TrimShown}
use Rattle.tg_client_sync.specs.Syncs.{SyncShown}
use Rattle.tg_client_sync.specs.Walks.{WalkShown, IsStepFit}
use Rattle.tg_client.specs.Feeding.{IsCourseFit, IsLeftKept}
use Rattle.tg_client.proofs.Fed.{step_fit}

-- A walk goes on alike whatever it has read.

reads-alike : (p : Layout) (n q : ℕ) (s : Course) (i j : Option CellJob) → reads_turn (walk_of s i) (get_cell (place_in p q) n) ≡ reads_turn (walk_of s j) (get_cell (place_in p q) n)
unfolding get_cell
reads-alike p n q s i j = refl

abbrev seen : Course → ℕ → Cell → Course
seen s q c = course_of (visited (walk_of s None) q c)

goes-alike : (p : Layout) (n k : ℕ) (s : Course) (i j : Option CellJob) → walk_on p n k (walk_of s i) ≡ walk_on p n k (walk_of s j)
goes-alike p n zero s i j = on-zero p n (walk_of s i) ∙ sym (on-zero p n (walk_of s j))
goes-alike p n (suc k) s i j =
    elim (next_visit (walk_of s None)) as (λ o. next_visit (walk_of s None) ≡ o → walk_on p n (suc k) (walk_of s i) ≡ walk_on p n (suc k) (walk_of s j)) [
      | None ↦ λ e. on-none p n k (walk_of s i) e ∙ sym (on-none p n k (walk_of s j) e)
      | Some q ↦ λ e.
          elim (cell_at s.cells q) as (λ o. cell_at s.cells q ≡ o → walk_on p n (suc k) (walk_of s i) ≡ walk_on p n (suc k) (walk_of s j)) [
            | None ↦ λ f. on-unknown p n k (walk_of s i) q e f ∙ reads-alike p n q s i j ∙ sym (on-unknown p n k (walk_of s j) q e f)
            | Some c ↦ λ f. on-known p n k (walk_of s i) q c e f ∙ goes-alike p n k (seen s q c) i j ∙ sym (on-known p n k (walk_of s j) q c e f)
          ] refl
    ] refl

again-alike : (p : Layout) (n : ℕ) (s : Course) (i j : Option CellJob) → walk_again p (walk_of s i) n ≡ walk_again p (walk_of s j) n
again-alike p n s i j = goes-alike p n (steps_left (next_visit (walk_of s None))) s i j

-- What is shown.

sync-again-shown : (p : Layout) (a : Sync) (old next now : ℕ) (step : Step Sync (List Oid) Confirmed) → old ≤ next → shown confirmed_of step now ≡ by_sync p next (sync_again a next) → SyncShown old p next now step (sync_again a next)
sync-again-shown p a old next now step le e = record { turn = e; fits = fits_later (sync_asks p) old next (sync_again a next) le (sync_numbers.again p a next); near = sync_stays_near.again a next }

append-again-shown : (p : Layout) (a : Append) (old next now : ℕ) (step : Step Append Paused AppendEnd) → old ≤ next → shown append_end step now ≡ by_append p next (append_again p a next) → NearToken a.token →
    AppendShown old p next now step (append_again p a next)
append-again-shown p a old next now step le e near = record { turn = e; fits = fits_later (append_asks p) old next (append_again p a next) le (append_numbers.again p a next); near = append_stays_near.again p a next near }

trims-alone : (p : Layout) (below next : ℕ) → (trim_start p below next).besides ≡ []
unfolding trim_start
trims-alone p below next = refl

trims-again-shown : (p : Layout) (below old next now : ℕ) (step : TrimStep Trims ℕ TrimEnd) → old ≤ next → trim_shown step now ≡ by_trim p next (trim_start p below next) → TrimShown old p next now step (trim_start p below next)
trims-again-shown p below old next now step le e = record { turn = e; fits = fits_later (trim_asks p) old next (trim_start p below next) le (trim_numbers.start p below next); none = trims-alone p below next }

module _ (m : Meaning) where
  walk-settled : (p : Layout) (k : Knowledge) (s : Course) (next : ℕ) (fit : IsCourseFit m k s) → ThenSettled k.own k.settled (walk_again p (walk_of s fit.job) next).to
  walk-settled p k s next fit = keeps_settled.resumes p (walk_of s fit.job) next k.own k.settled fit.walks.settled

  walk-order : (p : Layout) (k : Knowledge) (s : Course) (next : ℕ) (fit : IsCourseFit m k s) → ThenInOrder (walk_again p (walk_of s fit.job) next).to
  walk-order p k s next fit = finds_in_order.resumes p (walk_of s fit.job) next fit.walks.finds

  walk-again-shown : (p : Layout) (k : Knowledge) (s : Course) (a : Walk) (old next now : ℕ) (step : WalkStep Walk Course Found) → s ≡ course_of a → old ≤ next → IsCourseFit m k s → walk_shown step now ≡ by_walk next (walk_again p a next) →
      WalkShown old k next now step (walk_again p a next)
  walk-again-shown p k s a old next now step hs le fit e =
      let same : walk_again p (walk_of s fit.job) next ≡ walk_again p a next = again-alike p next s fit.job a.job ∙ ap (λ (d : Course). walk_again p (walk_of d a.job) next) hs in
      record {
        turn = e;
        fits = fits_later walk_asks old next (walk_again p a next) le (walks.walk_numbers.again p a next);
        none = (walks.on_begins p next (steps_left (next_visit a)) a).plain.none;
        settled = subst (λ (u : WalkTurn). ThenSettled k.own k.settled u.to) same (walk-settled p k s next fit);
        order = subst (λ (u : WalkTurn). ThenInOrder u.to) same (walk-order p k s next fit);
      }

  -- a walk that has ended gives settled cells back
  pub walk_again_fit : (p : Layout) (k : Knowledge) (s : Course) (n now : ℕ) (step : WalkStep Walk Course Found) → ((j : Option CellJob) → walk_shown step now ≡ by_walk n (walk_again p (walk_of s j) n)) → IsCourseFit m k s → IsStepFit k step.next
  walk_again_fit p k s n now step e fit = step_fit k step.next (walk_again p (walk_of s fit.job) n).to (ap (λ v. v.to) (e fit.job)) (walk-settled p k s n fit) (walk-order p k s n fit)

  -- A sync.

  anew : (s : StateOf m) (j : JobOf m) (r : Rest m) (w : told.Work m) (old : ℕ) → Holds m s j r w old → Holds m s (record j { gone_before = j.gone }) r (record w { gone_before = w.gone }) old
  anew s j r w old h = record { since = h.since; view = h.view; job = ap (λ (u : told.Work m). record u { gone_before = u.gone }) h.job }

  pub sync_resumes : (t : told.Task m) (x : Result (MovedOf m) NoMemory) (s : StateOf m) (j : JobOf m) (r : Rest m) (w : told.Work m) (old : ℕ) (os : List Oid) (i : Rids) (now : ℕ) (step : Step Sync (List Oid) Confirmed) →
      Holds m s j r w old → GoesOn m (given.Sync os) t → i ≡ s.rids → shown confirmed_of step now ≡ by_sync s.stand i.next (sync_start os i.next) →
      ((v : told.Work m) (u : SyncTurn) → Holds m s (record j { gone_before = j.gone }) r v old → SyncShown old s.stand s.rids.next now step u → IfOk x (λ y. KeepsMoved m old y (on_sync m (client_of m s r) v u))) →
      IfOk x (λ y. KeepsMoved m old y (task_again m (client_of m s r) w t))
  unfolding task_again
  sync_resumes (told.Syncing a) x s j r w old os i now step h g hi e f =
      let turn : shown confirmed_of step now ≡ by_sync s.stand s.rids.next (sync_again a s.rids.next) =
      subst (λ (n : Rids). shown confirmed_of step now ≡ by_sync s.stand n.next (sync_start a.oids n.next)) hi
      (subst (λ (ps : List Oid). shown confirmed_of step now ≡ by_sync s.stand i.next (sync_start ps i.next)) g e) in
      f (record w { gone_before = w.gone }) (sync_again a s.rids.next) (anew s j r w old h) (sync-again-shown s.stand a old s.rids.next now step h.since turn)
  sync_resumes _ x s j r w old os i now step h g hi e f = absurd g

  -- A walk.

  pub walk_resumes : (t : told.Task m) (x : Result (MovedOf m) NoMemory) (s : StateOf m) (j : JobOf m) (r : Rest m) (w : told.Work m) (old : ℕ) (k : Course) (o : Oid) (os : List Oid) (i : Rids) (now : ℕ) (step : WalkStep Walk Course Found) →
      Holds m s j r w old → GoesOn m (given.Walk k os) t → IsCourseFit m s.known k → o ≡ k.oid → i ≡ s.rids → ((b : Option CellJob) → walk_shown step now ≡ by_walk i.next (walk_again s.stand (walk_of k b) i.next)) →
      ((u : WalkTurn) → WalkShown old s.known s.rids.next now step u → IfOk x (λ y. KeepsMoved m old y (on_walk m (client_of m s r) w o os u))) →
      IfOk x (λ y. KeepsMoved m old y (task_again m (client_of m s r) w t))
  unfolding task_again
  walk_resumes (told.Walking a ps) x s j r w old k o os i now step h g fit ho hi e f =
      let turn : walk_shown step now ≡ by_walk s.rids.next (walk_again s.stand a s.rids.next) =
      subst (λ (n : Rids). walk_shown step now ≡ by_walk n.next (walk_again s.stand a n.next)) hi
      (subst (λ (d : Course). walk_shown step now ≡ by_walk i.next (walk_again s.stand (walk_of d a.job) i.next)) g.0 (e a.job)) in
      let same : o ≡ a.oid = ho ∙ ap (λ (d : Course). d.oid) g.0 in
      subst (λ (l : List Oid). IfOk x (λ y. KeepsMoved m old y (on_walk m (client_of m s r) w a.oid l (walk_again s.stand a s.rids.next)))) g.1
      (subst (λ (z : Oid). IfOk x (λ y. KeepsMoved m old y (on_walk m (client_of m s r) w z os (walk_again s.stand a s.rids.next)))) same
      (f (walk_again s.stand a s.rids.next) (walk-again-shown s.stand s.known k a old s.rids.next now step g.0 h.since fit turn)))
  walk_resumes _ x s j r w old k o os i now step h g fit ho hi e f = absurd g

  -- An append.

  near-token : (t : Option Token) → tasks.NearToken m t → NearToken t
  near-token None h = tt
  near-token (Some t) h = h

  pub append_resumes : (t : told.Task m) (x : Result (MovedOf m) NoMemory) (s : StateOf m) (j : JobOf m) (r : Rest m) (w : told.Work m) (old : ℕ) (k : Paused) (q : PurposeOf m) (i : Rids) (now : ℕ) (step : Step Append Paused AppendEnd) →
      Holds m s j r w old → GoesOn m (given.Append k q) t → IsLeftFit m s.known t → i ≡ s.rids → ((b : AppendWork) → shown append_end step now ≡ by_append s.stand i.next (append_again s.stand (append_at k.draft k.token b) i.next)) →
      ((u : AppendTurn) → AppendShown old s.stand s.rids.next now step u → IfOk x (λ y. KeepsMoved m old y (on_append m (client_of m s r) w (told_purpose m q) u))) →
      IfOk x (λ y. KeepsMoved m old y (task_again m (client_of m s r) w t))
  unfolding task_again
  append_resumes (told.Appending a p) x s j r w old k q i now step h g fit hi e f =
      let turn : shown append_end step now ≡ by_append s.stand s.rids.next (append_again s.stand a s.rids.next) =
      subst (λ (n : Rids). shown append_end step now ≡ by_append s.stand n.next (append_again s.stand a n.next)) hi
      (subst (λ (d : Paused). shown append_end step now ≡ by_append s.stand i.next (append_again s.stand (append_at d.draft d.token a.work) i.next)) g.0 (e a.work)) in
      subst (λ (z : told.Purpose m). IfOk x (λ y. KeepsMoved m old y (on_append m (client_of m s r) w z (append_again s.stand a s.rids.next)))) g.1
      (f (append_again s.stand a s.rids.next) (append-again-shown s.stand a old s.rids.next now step h.since turn (near-token a.token fit)))
  append_resumes _ x s j r w old k q i now step h g fit hi e f = absurd g

  -- Trims.

  pub trims_resume : (t : told.Task m) (x : Result (MovedOf m) NoMemory) (s : StateOf m) (j : JobOf m) (r : Rest m) (w : told.Work m) (old below : ℕ) (i : Rids) (now : ℕ) (step : TrimStep Trims ℕ TrimEnd) →
      Holds m s j r w old → GoesOn m (given.Trim below) t → i ≡ s.rids → trim_shown step now ≡ by_trim s.stand i.next (trim_start s.stand below i.next) →
      ((u : TrimTurn) → TrimShown old s.stand s.rids.next now step u → IfOk x (λ y. KeepsMoved m old y (on_trims m (client_of m s r) w below u))) →
      IfOk x (λ y. KeepsMoved m old y (task_again m (client_of m s r) w t))
  unfolding task_again
  trims_resume (told.Trimming a) x s j r w old below i now step h g hi e f =
      let turn : trim_shown step now ≡ by_trim s.stand s.rids.next (trim_start s.stand below s.rids.next) =
      subst (λ (n : Rids). trim_shown step now ≡ by_trim s.stand n.next (trim_start s.stand below n.next)) hi e in
      subst (λ (b : ℕ). IfOk x (λ y. KeepsMoved m old y (on_trims m (client_of m s r) w b (trim_start s.stand b s.rids.next)))) g
      (f (trim_start s.stand below s.rids.next) (trims-again-shown s.stand below old s.rids.next now step h.since turn))
  trims_resume _ x s j r w old below i now step h g hi e f = absurd g

  -- A copy.

  pub copy_resumes : (t : told.Task m) (x : Result (MovedOf m) NoMemory) (s : StateOf m) (r : Rest m) (w : told.Work m) (old : ℕ) (k : Join) → GoesOn m (given.Copy k) t →
      ((c : Copying) → spare_of c ≡ k → IfOk x (λ y. KeepsMoved m old y (copies_again m (client_of m s r) w c (copy_fault m s.stand c.unit c.range c.stripe)))) →
      IfOk x (λ y. KeepsMoved m old y (task_again m (client_of m s r) w t))
  unfolding task_again
  copy_resumes (told.Copying' c) x s r w old k g f = f c (sym g)
  copy_resumes _ x s r w old k g f = absurd g

  -- A newer layout.

  abbrev IsNoChange : PausedOf m → Type 0
  IsNoChange (given.Reconf k) = ⊥
  IsNoChange p = Unit {0}

  newer-as : (P : Moved m → Type 0) (p : PausedOf m) (t : told.Task m) (c : told.Client m) (w : told.Work m) (server rid : ℕ) (q : Layout) → IsNoChange p → GoesOn m p t → P (task_again m (stands m c q) w t) → P (on_newer m c w t server rid q)
  newer-as P p (told.Syncing a) c w server rid q i g h = h
  newer-as P p (told.Walking a os) c w server rid q i g h = h
  newer-as P p (told.Appending a x) c w server rid q i g h = h
  newer-as P p (told.Trimming a) c w server rid q i g h = h
  newer-as P p (told.Copying' a) c w server rid q i g h = h
  newer-as P (given.Reconf k) (told.Reconfiguring a) c w server rid q i g h = absurd i
  newer-as P _ (told.Reconfiguring a) c w server rid q i g h = absurd g

  pub newer : (P : Moved m → Type 0) (s : StateOf m) (j : JobOf m) (r : Rest m) (w : told.Work m) (old server rid : ℕ) (q : Layout) (p u : PausedOf m) (t : told.Task m) → p ≡ u → IsNoChange u → Holds m s j r w old → GoesOn m p t →
      (Holds m (record s { stand = q }) j r w old → GoesOn m u t → P (task_again m (client_of m (record s { stand = q }) r) w t)) → P (on_newer m (client_of m s r) w t server rid q)
  newer P s j r w old server rid q p u t e i h g f =
      let goes : GoesOn m u t = subst (λ (v : PausedOf m). GoesOn m v t) e g in
      newer-as P u t (client_of m s r) w server rid q i goes (f (record { since = h.since; view = h.view; job = h.job }) goes)

  change-newer : (P : Moved m → Type 0) (t : told.Task m) (s : StateOf m) (r : Rest m) (w : told.Work m) (server rid : ℕ) (q : Layout) (a : Box Reconf) → GoesOn m (given.Reconf a) t →
      P (on_reconf m (client_of m s r) w (reconf_latest a.value a.value.work server rid q s.rids.next)) → P (on_newer m (client_of m s r) w t server rid q)
  change-newer P (told.Reconfiguring b) s r w server rid q a g h = subst (λ (k : Reconf). P (on_reconf m (client_of m s r) w (reconf_latest k k.work server rid q s.rids.next))) g h
  change-newer P _ s r w server rid q a g h = absurd g

  pub change_newer : (P : Moved m → Type 0) (t : told.Task m) (s : StateOf m) (r : Rest m) (w : told.Work m) (server rid : ℕ) (q : Layout) (p : PausedOf m) (a : Box Reconf) → p ≡ given.Reconf a → GoesOn m p t →
      P (on_reconf m (client_of m s r) w (reconf_latest a.value a.value.work server rid q s.rids.next)) → P (on_newer m (client_of m s r) w t server rid q)
  change_newer P t s r w server rid q p a e g h = change-newer P t s r w server rid q a (subst (λ (v : PausedOf m). GoesOn m v t) e g) h

  -- What is kept of a machine while a newer layout is learnt.

  course-fit : (k : Knowledge) (a : Course) (os : List Oid) (t : told.Task m) → GoesOn m (given.Walk a os) t → IsLeftFit m k t → IsCourseFit m k a
  course-fit k a os (told.Walking b ps) g l = record { job = b.job; walks = subst (λ (d : Course). WalksOn m k (walk_of d b.job)) (sym g.0) l }
  course-fit k a os _ g l = absurd g

  pub walk_left : (s : StateOf m) (p : PausedOf m) (a : Course) (os : List Oid) → p ≡ given.Walk a os → IsLeftKept m s p → IsCourseFit m s.known a
  walk_left s p a os e h = course-fit s.known a os h.task (subst (λ (v : PausedOf m). GoesOn m v h.task) e h.goes) h.fit

  drawn-left : (s : StateOf m) (a : Box Reconf) (t : told.Task m) → GoesOn m (given.Reconf a) t → all_below m s.rids.next (task_awaited m s.stand t) ≡ true → AreDrawn s.rids.next a.value
  drawn-left s a (told.Reconfiguring b) g d = record { all = subst (λ (k : Reconf). all_below m s.rids.next (reconf_awaited k) ≡ true) (sym g) d }
  drawn-left s a _ g d = absurd g

  pub reconf_left : (s : StateOf m) (p : PausedOf m) (a : Box Reconf) → p ≡ given.Reconf a → IsLeftKept m s p → AreDrawn s.rids.next a.value
  reconf_left s p a e h = drawn-left s a h.task (subst (λ (v : PausedOf m). GoesOn m v h.task) e h.goes) h.drawn
