-- A transaction with reads is ended: its record, and then a sync, the walks and a decision.
use Rattle.std.proofs.Common.{◌≡◌, ◌⊎◌, ℕ, zero, suc, ◌+◌, ◌*◌, ◌≤◌, List, [], length, true, ap, sym, subst, inl, inr, arith}
use Rattle.std.proofs.Math.Nat.{mul-suc, mul-zero}
use Rattle.tg_base.specs.Layouts.{Layout}
use Rattle.tg_base.specs.Clusters.{Header}
use Rattle.tg_base.specs.declared.ids.NodeId.{NodeId}
use Rattle.tg_base.specs.declared.ids.Oid.{Oid}
use Rattle.tg_kind.specs.Meaning.{Meaning}
use Rattle.tg_protocol.specs.Clients.{Client, Work}
use Rattle.tg_protocol.specs.Answers.{syncs}
use Rattle.tg_protocol.specs.ClientSteps.{ClientTurn, given}
use Rattle.tg_law_finish.specs.Finish.Makes.{makes}
use Rattle.tg_law_finish.proofs.Finish.Askers.{Kind, Here, extra, budget, passes}
use Rattle.tg_law_finish.proofs.Finish.Askings.{sync_begins}
use Rattle.tg_law_finish.proofs.Finish.Both.{MakesStage, makes_talk}
use Rattle.tg_law_finish.proofs.Finish.Joined.{StageOf, ExitOf, Roomy, RoomyExit, roomy, Either, joined}
use Rattle.tg_law_finish.proofs.Finish.Lines.{Over, Talk, Goes}
use Rattle.tg_law_finish.proofs.Finish.Makers.{making_way}
use Rattle.tg_law_finish.proofs.Finish.Nets.{Net}
use Rattle.tg_law_finish.proofs.Finish.Others.{Ready}
use Rattle.tg_law_finish.proofs.Finish.Owners.{OwnsStage, OwnEnds, OwnOver, OwnSyncs, owns_talk}
use Rattle.tg_law_finish.proofs.Finish.Rescuing.{round}
use Rattle.tg_law_finish.proofs.Finish.Waited.{for_trims, budget_within, trims_within}

-- how much a round takes, and what begins with one
module _ (m : Meaning) (h : Header) (stopped : List NodeId) (k : ℕ) (p : Layout) (longest : ℕ) (low_at : ℕ → ℕ) (many tail most : ℕ) (kind : Kind low_at p) (wide : 128 ≤ most) where
  budget_is : (t : ℕ) → budget m h stopped k p longest low_at many tail most kind t ≡ (longest + 1) * t
  budget_is zero = sym (mul-zero (longest + 1))
  budget_is (suc t) = let e = budget_is t in let f = mul-suc (longest + 1) t in omega (arith, e, f)

  passes_are : (n : ℕ) → passes m h stopped k p longest low_at many tail most kind n ≡ (2 * longest + 1 + most) * n
  passes_are zero = sym (mul-zero (2 * longest + 1 + most))
  passes_are (suc n) = let e = passes_are n in let f = mul-suc (2 * longest + 1 + most) n in omega (arith, e, f)

  pub round_long : suc (round m h stopped k p longest low_at many tail most kind wide) ≡ (longest + 1) * tail + (longest + 1) + for_trims m h stopped k p longest low_at many tail most kind
  round_long =
      let a = budget_is tail in
      let b = ap (λ i. extra kind.trims (longest + (most + i))) (passes_are (kind.floors + 1)) in
      omega (arith, a, b)

  -- a sync, the walks and a decision record
  pub syncs_makes : (s : Net m) (c d : Client m) (w : Work m) (os : List Oid) (n : ℕ) → Here m h stopped k p longest low_at many tail most kind s → d.next ≡ c.next → d.stand ≡ p → makes m w.command ≡ true → length os ≤ most
      → suc (round m h stopped k p longest low_at many tail most kind wide) + suc longest ≤ n → Goes m h stopped k p (MakesStage m h stopped k p longest low_at many tail most kind) s (given m c (syncs m d w os)) [] n
  syncs_makes s c d w os n here up stand such short few =
      let a = budget_within m h stopped k p longest low_at many tail most kind d.cells in
      let z = trims_within m h stopped k p longest low_at many tail most kind (length os) w.gone d.view short in
      let goes = sync_begins m h stopped k p longest low_at many tail most kind (making_way m) s c d w os (suc (round m h stopped k p longest low_at many tail most kind wide)) up stand such short here (omega (arith, a, z)) in
      let fewer = goes.less in
      record { os = goes.os; left = goes.left + suc longest; sends = goes.sends; stage = inl (record { left = goes.left; stage = goes.stage; few = omega arith }); less = omega (arith, fewer, few) }

module _ (m : Meaning) (h : Header) (stopped : List NodeId) (k : ℕ) (p : Layout) (longest : ℕ) (low_at : ℕ → ℕ) (many tail most : ℕ) (kind : Kind low_at p) (wide : 128 ≤ most) where
  -- what comes behind the record
  abbrev pub behind : ℕ
  behind = suc (round m h stopped k p longest low_at many (suc tail) most kind wide) + suc longest

  abbrev First : StageOf m h stopped k p
  First = Roomy m h stopped k p (OwnsStage m h stopped k p longest low_at many tail most kind) (OwnEnds m h stopped k p longest low_at many tail most kind) behind

  abbrev FirstEnd : ExitOf m h stopped k p
  FirstEnd = RoomyExit m h stopped k p (OwnsStage m h stopped k p longest low_at many tail most kind) (OwnEnds m h stopped k p longest low_at many tail most kind) behind

  abbrev Second : StageOf m h stopped k p
  Second = MakesStage m h stopped k p longest low_at many (suc tail) most kind

  abbrev pub EndStage : StageOf m h stopped k p
  EndStage = Either m h stopped k p First Second FirstEnd (Over m h stopped k p)

  ends_begin : (s : Net m) (c : Client m) (t : ClientTurn m) (n : ℕ) → Ready m h stopped k p s → FirstEnd s c t n → Over m h stopped k p s c t n ⊎ Goes m h stopped k p Second s t [] n
  ends_begin s c t n ready e = by e.exit
    where
      by : OwnEnds m h stopped k p longest low_at many tail most kind s c t e.left → Over m h stopped k p s c t n ⊎ Goes m h stopped k p Second s t [] n
      by (OwnOver x) = inl x
      by (OwnSyncs d w os here up stand such short is) = let few = e.few in inr (subst (λ (u : ClientTurn m). Goes m h stopped k p Second s u [] n) (sym is) (syncs_makes m h stopped k p longest low_at many (suc tail) most kind wide s c d w os n here up stand such short (omega (arith, few))))

  pub ends_talk : Talk m h stopped k p EndStage (Over m h stopped k p)
  ends_talk = joined m h stopped k p First Second FirstEnd (Over m h stopped k p)
      (roomy m h stopped k p (OwnsStage m h stopped k p longest low_at many tail most kind) (OwnEnds m h stopped k p longest low_at many tail most kind) behind (owns_talk m h stopped k p longest low_at many tail most kind))
      (makes_talk m h stopped k p longest low_at many (suc tail) most kind) ends_begin
