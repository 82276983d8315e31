-- Copies and changes that begin, and how they are answered.
use Rattle.std.specs.Prelude.{IfOk}
use Rattle.std.proofs.Common.{◌≡◌, ◌≤◌, ℕ, List, [], Option, Some, None, Result, refl, sym, ap, subst, ◌∙◌}
use Rattle.tg_base.specs.Layouts.{Layout}
use Rattle.tg_base.specs.Changes.{Changed}
use Rattle.tg_base.specs.declared.change.Join.{Join}
use Rattle.tg_base.specs.declared.packet.Out.{Out}
use Rattle.tg_base.specs.declared.packet.Rids.{Rids}
use Rattle.tg_kind.specs.Meaning.{Meaning}
use Rattle.tg_protocol.specs.Trimming.{Copying, copy_asks, copy_start}
use Rattle.tg_protocol.specs.Reconfiguring.{Reconf, reconf_asks, reconf_start, first_step, SealingSpare}
use Rattle.tg_base.specs.declared.fault.NoMemory.{NoMemory}
use Rattle.tg_model.specs.Kinds.{NoteOf}
use Rattle.tg_proj.specs.declared.fault.ProjFault.{ProjFault}
use Rattle.tg_protocol.specs.Layouts.{spare_fault}
use Rattle.tg_protocol.specs.Answers.{Moved, replies, refuses}
use Rattle.tg_model.specs.declared.refusal.Refusal.{Refusal}
use Rattle.tg_protocol.specs.Clients.{by_layout, copy_fault}
use Rattle.tg_protocol.specs.Clients as told
use Rattle.tg_protocol.specs.ClientSteps.{task_asks, goes_on, stands, copies_again}
use Rattle.tg_chain.specs.declared.step.Step.{Step as CopyStep}
use Rattle.tg_copy.specs.declared.ends.CopyEnd.{CopyEnd as GivenEnd}
use Rattle.tg_copy.specs.Stripes.{HasStripe}
use Rattle.tg_copy.specs.Turns.{spare_of, shown as copy_shown, by_copy}
use Rattle.tg_reconf.specs.declared.step.Step.{Step as ReconfStep}
use Rattle.tg_reconf.specs.Turns.{shown as reconf_shown, by_reconf}
use Rattle.tg_client_state.specs.Laws.{ThenHasStripe}
use Rattle.tg_client_state.proofs.Copies.{copy_numbers}
use Rattle.tg_client_state.proofs.Reconfs.{reconf_numbers}
use Rattle.tg_client_state.specs.Tasks.{JobOf}
use Rattle.tg_client_state.specs.States.{StateOf, MovedOf, Rest, client_of, KeepsViewIf, KeepsMoved}
use Rattle.tg_client_state.specs.Moves.{Holds, Carries}
use Rattle.tg_client_state.proofs.Turning.{fits_later}
use Rattle.tg_client_tasks.specs.Shown.{CopyShown, ReconfShown, Changes}

-- A copy.

copy-alone : (j : Join) (next : ℕ) → (copy_start j.unit j.range j.stripe next).besides ≡ []
unfolding copy_start
copy-alone j next = refl

copy-stripe : (p : Layout) (j : Join) (next : ℕ) → HasStripe p j → ThenHasStripe p (copy_start j.unit j.range j.stripe next).to
unfolding copy_start
copy-stripe p j next h = h

copy-begun : (p : Layout) (j : Join) (old next now : ℕ) (step : CopyStep Copying Join GivenEnd) → old ≤ next → HasStripe p j →
    copy_shown step now ≡ by_copy p next (copy_start j.unit j.range j.stripe next) → CopyShown old p next now step (copy_start j.unit j.range j.stripe next)
copy-begun p j old next now step le h e = record {
  turn = e;
  fits = fits_later (copy_asks p) old next (copy_start j.unit j.range j.stripe next) le (copy_numbers.start p j.unit j.range j.stripe next);
  none = copy-alone j next;
  stripe = copy-stripe p j next h;
}

pub copy_begins : (p : Layout) (j : Join) (b : Copying) (old next : ℕ) (n k : Rids) (step : CopyStep Copying Join GivenEnd) → old ≤ next → HasStripe p j → n.next ≡ next → spare_of b ≡ j →
    copy_shown step k.next ≡ by_copy p n.next (copy_start j.unit j.range j.stripe n.next) → CopyShown old p next k.next step (copy_start b.unit b.range b.stripe next)
copy_begins p j b old next n k step le h hn hb e =
    subst (λ (i : Join). CopyShown old p next k.next step (copy_start i.unit i.range i.stripe next)) (sym hb)
    (copy-begun p j old next k.next step le h (subst (λ i. copy_shown step k.next ≡ by_copy p i (copy_start j.unit j.range j.stripe i)) hn e))

-- A change.

change-alone : (p : Layout) (layouts : ℕ) (c : Changed) (me next : ℕ) → (reconf_start p layouts c me next).besides ≡ []
unfolding reconf_start
change-alone p layouts c me next =
    let r : Reconf = record { change = c; me = me; layouts = layouts; stand = p; work = SealingSpare 0 } in
    elim c.join as (λ j. (first_step r next j).besides ≡ []) [
      | None ↦ refl
      | Some j ↦ refl
    ]

pub change_begins : (p : Layout) (layouts : ℕ) (c : Changed) (me old next : ℕ) (n k : Rids) (step : ReconfStep) → old ≤ next → n.next ≡ next →
    reconf_shown step k.next ≡ by_reconf n.next (reconf_start p layouts c me n.next) → ReconfShown old next k.next step (reconf_start p layouts c me next)
change_begins p layouts c me old next n k step le hn e =
    let turn : reconf_shown step k.next ≡ by_reconf next (reconf_start p layouts c me next) = subst (λ i. reconf_shown step k.next ≡ by_reconf i (reconf_start p layouts c me i)) hn e in
    record {
      turn = turn;
      fits = fits_later reconf_asks old next (reconf_start p layouts c me next) le (reconf_numbers.start p layouts c me next);
      none = change-alone p layouts c me next;
      awaited = (reconf_numbers.start_awaits p layouts c me next).fits.drawn;
    }

module _ (m : Meaning) where
  -- a change that goes on, where the client stands with it
  change-carried : (s : StateOf m) (q : Layout) (old : ℕ) (a : Reconf) (outs : List Out) → q ≡ a.stand → Changes old s.rids.next a outs → Carries m (record s { stand = q }) (told.Reconfiguring a) old [] outs
  unfolding task_asks
  change-carried s q old a outs hq h = record { sent = h.sent; drawn = h.drawn; fit = sym hq }

  pub change_goes : (P : Moved m → Type 0) (s : StateOf m) (j : JobOf m) (q : Layout) (r : Rest m) (w : told.Work m) (old : ℕ) (a : Reconf) (outs : List Out) → q ≡ a.stand → Holds m s j r w old → Changes old s.rids.next a outs →
      (Holds m (record s { stand = q }) j r w old → Carries m (record s { stand = q }) (told.Reconfiguring a) old [] outs → P (goes_on m (client_of m (record s { stand = q }) r) w (told.Reconfiguring a) [])) →
      P (goes_on m (stands m (client_of m s r) a.stand) w (told.Reconfiguring a) [])
  change_goes P s j q r w old a outs hq h hc f =
      subst (λ p. P (goes_on m (stands m (client_of m s r) p) w (told.Reconfiguring a) [])) hq
      (f (record { since = h.since; view = h.view; job = h.job }) (change-carried s q old a outs hq hc))

  -- a reply with equal notes
  pub replied_at : (x : Result (MovedOf m) NoMemory) (s : StateOf m) (r : Rest m) (old : ℕ) (ns ms : List (NoteOf m)) → ns ≡ ms →
      ((q : Rest m) (o : ℕ) → KeepsViewIf m s.view q.view → IfOk x (λ y. KeepsMoved m o y (replies m (client_of m s q) ns))) → KeepsViewIf m s.view r.view →
      IfOk x (λ y. KeepsMoved m old y (replies m (client_of m s r) ms))
  replied_at x s r old ns ms e f h = subst (λ (l : List (NoteOf m)). IfOk x (λ y. KeepsMoved m old y (replies m (client_of m s r) l))) e (f r old h)

  -- A copy in the layout on which the client stands.

  pub copies_so : (P : Moved m → Type 0) (c : told.Client m) (w : told.Work m) (b : Copying) (j : Join) (f : Option ProjFault) → spare_of b ≡ j → f ≡ spare_fault c.stand j →
      P (copies_again m c w b (by_layout m f)) → P (copies_again m c w b (copy_fault m c.stand b.unit b.range b.stripe))
  unfolding copy_fault
  copies_so P c w b j f hb hf h = subst (λ x. P (copies_again m c w b (by_layout m x))) (hf ∙ sym (ap (spare_fault c.stand) hb)) h

  -- a refusal for an equal cause
  pub refused_at : (x : Result (MovedOf m) NoMemory) (s : StateOf m) (r : Rest m) (old : ℕ) (a b : Refusal) → a ≡ b →
      ((q : Rest m) (o : ℕ) → KeepsViewIf m s.view q.view → IfOk x (λ y. KeepsMoved m o y (refuses m (client_of m s q) 0 a))) → KeepsViewIf m s.view r.view →
      IfOk x (λ y. KeepsMoved m old y (refuses m (client_of m s r) 0 b))
  refused_at x s r old a b e f h = subst (λ (y : Refusal). IfOk x (λ z. KeepsMoved m old z (refuses m (client_of m s r) 0 y))) e (f r old h)
