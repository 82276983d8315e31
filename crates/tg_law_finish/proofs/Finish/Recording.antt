-- The record of a transaction with reads has a token: it goes down its chain or is judged, and then comes a sync at
-- the tail as it is, or another token, and what comes behind that.
use Rattle.std.proofs.Common.{◌⊎◌, ℕ, suc, ◌+◌, ◌≤◌, List, [], ◌∷◌, sym, subst, inl, inr, arith}
use Rattle.std.proofs.Math.Nat.{mul-suc}
use Rattle.tg_base.specs.Layouts.{Layout}
use Rattle.tg_base.specs.Clusters.{Header}
use Rattle.tg_base.specs.declared.ids.NodeId.{NodeId}
use Rattle.tg_kind.specs.Meaning.{Meaning}
use Rattle.tg_protocol.specs.Clients.{Client}
use Rattle.tg_protocol.specs.ClientSteps.{ClientTurn}
use Rattle.tg_law_finish.proofs.Finish.Askers.{Kind}
use Rattle.tg_law_finish.proofs.Finish.Both.{MakesStage, makes_talk}
use Rattle.tg_law_finish.proofs.Finish.Ending.{round_long, syncs_makes, behind, EndStage, ends_talk}
use Rattle.tg_law_finish.proofs.Finish.Holders.{HoldsStage, HoldEnds, HoldOver, HoldSyncs, HoldAsks, holds_talk}
use Rattle.tg_law_finish.proofs.Finish.Joined.{StageOf, ExitOf, Roomy, RoomyExit, roomy, Either, joined}
use Rattle.tg_law_finish.proofs.Finish.Lines.{Over, Talk, Goes}
use Rattle.tg_law_finish.proofs.Finish.Nets.{Net}
use Rattle.tg_law_finish.proofs.Finish.Others.{Ready}
use Rattle.tg_law_finish.proofs.Finish.Rescuing.{round}
use Rattle.tg_law_finish.proofs.Finish.Talks.{Request}

module _ (m : Meaning) (h : Header) (stopped : List NodeId) (k : ℕ) (p : Layout) (longest : ℕ) (low_at : ℕ → ℕ) (many tail most : ℕ) (kind : Kind low_at p) (wide : 128 ≤ most) where
  -- another token, and what comes behind it
  abbrev pub anew : ℕ
  anew = suc (longest + behind m h stopped k p longest low_at many tail most kind wide)

  abbrev First : StageOf m h stopped k p
  First = Roomy m h stopped k p (HoldsStage m h stopped k p longest low_at many tail most kind) (HoldEnds m h stopped k p longest low_at many tail most kind) anew

  abbrev FirstEnd : ExitOf m h stopped k p
  FirstEnd = RoomyExit m h stopped k p (HoldsStage m h stopped k p longest low_at many tail most kind) (HoldEnds m h stopped k p longest low_at many tail most kind) anew

  abbrev Synced : StageOf m h stopped k p
  Synced = MakesStage m h stopped k p longest low_at many tail most kind

  abbrev Anew : StageOf m h stopped k p
  Anew = EndStage m h stopped k p longest low_at many tail most kind wide

  abbrev Ended : ExitOf m h stopped k p
  Ended = Over m h stopped k p

  abbrev Second : StageOf m h stopped k p
  Second = Either m h stopped k p Synced Anew Ended Ended

  abbrev pub RecordStage : StageOf m h stopped k p
  RecordStage = Either m h stopped k p First Second FirstEnd Ended

  second_talk : Talk m h stopped k p Second Ended
  second_talk = joined m h stopped k p Synced Anew Ended Ended (makes_talk m h stopped k p longest low_at many tail most kind) (ends_talk m h stopped k p longest low_at many tail most kind wide) (λ s c t n ready over. inl over)

  -- a sync at the tail as it is takes no more
  sooner : suc (round m h stopped k p longest low_at many tail most kind wide) + suc longest ≤ anew
  sooner =
      let a = round_long m h stopped k p longest low_at many tail most kind wide in
      let b = round_long m h stopped k p longest low_at many (suc tail) most kind wide in
      let e = mul-suc (longest + 1) tail in
      omega (arith, a, b, e)

  record_begins : (s : Net m) (c : Client m) (t : ClientTurn m) (n : ℕ) → Ready m h stopped k p s → FirstEnd s c t n → Ended s c t n ⊎ Goes m h stopped k p Second s t [] n
  record_begins s c t n ready e = by e.exit
    where
      by : HoldEnds m h stopped k p longest low_at many tail most kind s c t e.left → Ended s c t n ⊎ Goes m h stopped k p Second s t [] n
      by (HoldOver over) = inl over
      by (HoldSyncs d w os here up stand such short is) =
          let few = e.few in
          let soon = sooner in
          let goes = syncs_makes m h stopped k p longest low_at many tail most kind wide s c d w os n here up stand such short (omega (arith, few, soon)) in
          inr (subst (λ (u : ClientTurn m). Goes m h stopped k p Second s u [] n) (sym is) (record { os = goes.os; left = goes.left; sends = goes.sends; stage = inl goes.stage; less = goes.less }))
      by (HoldAsks o sends owning) =
          let few = e.few in
          inr (record {
            os = o ∷ [];
            left = longest + behind m h stopped k p longest low_at many tail most kind wide;
            sends = sends;
            stage = inr (inl (record { left = longest; stage = Request o longest owning; few = omega arith }));
            less = omega (arith, few);
          })

  pub record_talk : Talk m h stopped k p RecordStage Ended
  record_talk = joined m h stopped k p First Second FirstEnd Ended
      (roomy m h stopped k p (HoldsStage m h stopped k p longest low_at many tail most kind) (HoldEnds m h stopped k p longest low_at many tail most kind) anew (holds_talk m h stopped k p longest low_at many tail most kind))
      second_talk record_begins
