use Rattle.std.specs.Prelude.{◌≡◌, ℕ, suc, ◌+◌, Bool, true, false, nat_le, List, [], ◌++◌, Option, if◌then◌else◌}
use Rattle.std.proofs.Common.{sym, ap, ◌∙◌, arith, append_assoc}
use Rattle.std.proofs.lemmas.Bool.Decides.{nat_tests}
use Rattle.std.proofs.lemmas.List.{append-nil}
use Rattle.tg_base.specs.Layouts.{Layout}
use Rattle.tg_base.specs.declared.packet.Packet.{Packet}
use Rattle.tg_picture.specs.Bands.{decision_at, decisions, listed}
use Rattle.tg_picture.specs.declared.fences.Band.{Band}
use Rattle.tg_picture.specs.declared.steps.Step.{Step}
use Rattle.tg_picture.proofs.fences.put_decisions.Goals as goal
use Rattle.tg_picture.proofs.fences.put_decisions.Goals.{then-from-at+in_ok-put_band, else-from-at}

abbrev in_step : Layout → ℕ → List Packet → List Step → ℕ → Bool → List Band
in_step first layouts ps ss k b = if b then listed (decision_at first layouts ps ss k) else []

more : (first : Layout) (layouts : ℕ) (ps : List Packet) (ss : List Step) (from k : ℕ)
    → decisions first layouts ps ss from (k + 1) ≡ decisions first layouts ps ss from k ++ in_step first layouts ps ss k (nat_le from k)
unfolding decisions
more first layouts ps ss from k = let next : k + 1 ≡ suc k = omega arith in ap (λ (n : ℕ). decisions first layouts ps ss from n) next

-- the decision in a step that is drawn
added : (first : Layout) (layouts : ℕ) (ps : List Packet) (ss : List Step) (from k : ℕ) (before found : List Band) (b : Option Band)
    → found ≡ before ++ decisions first layouts ps ss from k → b ≡ decision_at first layouts ps ss k → nat_le from k ≡ true
    → found ++ listed b ≡ before ++ decisions first layouts ps ss from (k + 1)
added first layouts ps ss from k before found b so is drawn =
    let passed = decisions first layouts ps ss from k in
    ap (λ (bs : List Band). bs ++ listed b) so
    ∙ append_assoc before passed (listed b)
    ∙ ap (λ (o : Option Band). before ++ (passed ++ listed o)) is
    ∙ ap (λ (t : Bool). before ++ (passed ++ in_step first layouts ps ss k t)) (sym drawn)
    ∙ ap (λ (bs : List Band). before ++ bs) (sym (more first layouts ps ss from k))

-- a step that isn't drawn
passed_over : (first : Layout) (layouts : ℕ) (ps : List Packet) (ss : List Step) (from k : ℕ) (before found : List Band)
    → found ≡ before ++ decisions first layouts ps ss from k → nat_le from k ≡ false → found ≡ before ++ decisions first layouts ps ss from (k + 1)
passed_over first layouts ps ss from k before found so not_drawn =
    let passed = decisions first layouts ps ss from k in
    so
    ∙ ap (λ (bs : List Band). before ++ bs) (sym (append-nil passed))
    ∙ ap (λ (t : Bool). before ++ (passed ++ in_step first layouts ps ss k t)) (sym not_drawn)
    ∙ ap (λ (bs : List Band). before ++ bs) (sym (more first layouts ps ss from k))

pub loop-at-preserved : goal.loop-at-preserved
loop-at-preserved c =
    let first = c.args.epochs.now.first.now in
    let layouts = c.args.epochs.now.layouts in
    let ps = c.args.epochs.now.packets.now in
    let k = c.loop-at.at in
    elim c.if-from-at.branch [
      | then-from-at+in_ok-put_band w ↦
          let h = w.if-from-at.true in
          let drawn : nat_le c.args.from k ≡ true = grind (arith, nat_tests, h) in
          w.found-is ∙ w.in_ok-put_band.ensures ∙ added first layouts ps c.args.steps.now c.args.from k c.args.found.now c.loop-at.found w.decision_at.result c.loop-at.invariant w.decision_at.ensures drawn
      | else-from-at w ↦
          let h = w.if-from-at.false in
          let not_drawn : nat_le c.args.from k ≡ false = grind (arith, nat_tests, h) in
          w.found-is ∙ passed_over first layouts ps c.args.steps.now c.args.from k c.args.found.now c.loop-at.found c.loop-at.invariant not_drawn
    ]
