-- The command waits with a task that has begun.
use Rattle.std.proofs.Common.{◌≡◌, ◌≤◌, ℕ, Bool, true, List, [], ◌∷◌, Some, cond, refl, sym, ap, ◌∙◌, arith}
use Rattle.std.specs.Global.{Box}
use Rattle.std.specs.Prelude.{nat_le}
use Rattle.std.proofs.lemmas.Bool.Decides.{nat_tests}
use Rattle.tg_base.specs.declared.packet.Out.{Out}
use Rattle.tg_kind.specs.Meaning.{Meaning}
use Rattle.tg_model.specs.Kinds.{NoteOf}
use Rattle.tg_protocol.specs.Requests.{drawn_from}
use Rattle.tg_protocol.specs.Clients as told
use Rattle.tg_protocol.specs.ClientSteps.{client_asks, task_asks}
use Rattle.tg_protocol.specs.Answers.{holds}
use Rattle.tg_client_state.specs.Numbers.{all_from}
use Rattle.tg_client_state.specs.Tasks.{TaskOf, JobOf, told_task, KeepsJob}
use Rattle.tg_client_state.specs.declared.hand.Hand.TheVariants.{Doing}
use Rattle.tg_client_state.specs.declared.begin.Begun.{Begun}
use Rattle.tg_client_state.specs.States.{StateOf, Rest, client_of, KeepsViewIf, KeepsMoved, IsBegun}
use Rattle.tg_client_state.proofs.Headers.{first_true, rest_true}

-- all that was drawn at a number or later
later_all : (n old : ℕ) (outs : List Out) → old ≤ n → all_from n outs ≡ true → drawn_from old outs ≡ outs
later_all n old [] le h = refl
later_all n old (o ∷ os) le h =
    let from : nat_le n o.rid ≡ true = first_true _ _ h in
    let taken : nat_le old o.rid ≡ true = grind (arith, nat_tests) in
    ap (λ (b : Bool). cond b (o ∷ drawn_from old os) (drawn_from old os)) taken ∙ ap (λ (l : List Out). o ∷ l) (later_all n old os le (rest_true (nat_le n o.rid) _ h))

same_drawn : (n old : ℕ) (outs : List Out) → old ≤ n → all_from n outs ≡ true → drawn_from n outs ≡ drawn_from old outs
same_drawn n old outs le h =
    let itself : n ≤ n = omega arith in
    later_all n n outs itself h ∙ sym (later_all n old outs le h)

module _ (m : Meaning) where
  abbrev with-hand : told.Hand m → told.Work m → told.Work m
  with-hand h w = record w { hand = h }

  pub held : (s : StateOf m) (j : JobOf m) (b : Begun (TaskOf m)) (t : Box (TaskOf m)) (notes : List (NoteOf m)) (r : Rest m) (w : told.Work m) (old : ℕ) → t.value ≡ b.machine →
      IsBegun m s.known s.stand s.rids.next b → old ≤ s.rids.next → KeepsViewIf m s.view r.view → KeepsJob m j w →
      KeepsMoved m old (record { state = record s { rids = b.rids }; work = Some (record { job = j; hand = Doing t }); sends = b.sends; notes = notes })
      (holds m (client_of m s r) w (told_task m b.machine) b.rids.next notes)
  unfolding client_asks
  held s j b t notes r w old is begun le hv hj = record {
    now = record {
      is = refl;
      view = hv;
      work = record { is = ap (with-hand (told.Doing (told_task m b.machine))) hj; hand = ap (λ (x : TaskOf m). told_task m x) is };
      drawn = begun.drawn;
      fit = begun.fit;
    };
    sends = begun.sends ∙ same_drawn s.rids.next old (task_asks m s.stand (told_task m b.machine)) le begun.fresh;
    notes = refl;
  }
