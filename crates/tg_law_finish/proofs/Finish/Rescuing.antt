-- A rescue comes to its end, however many streams join it.
use Rattle.std.proofs.Common.{◌≡◌, ◌⊎◌, ℕ, zero, suc, ◌+◌, ◌<◌, ◌≤◌, List, [], ◌++◌, length, true, false, sym, subst, inl, inr, arith}
use Rattle.tg_base.specs.Layouts.{Layout}
use Rattle.tg_base.specs.Clusters.{Header}
use Rattle.tg_base.specs.Orders.{with_oid}
use Rattle.tg_base.specs.declared.ids.NodeId.{NodeId}
use Rattle.tg_base.specs.declared.ids.Oid.{Oid}
use Rattle.tg_kind.specs.Meaning.{Meaning}
use Rattle.tg_protocol.specs.Clients.{Client, Work}
use Rattle.tg_protocol.specs.Answers.{Moved, syncs}
use Rattle.tg_protocol.specs.Words.{has_oid}
use Rattle.tg_protocol.specs.ClientSteps.{ClientTurn, given}
use Rattle.tg_law_finish.specs.Finish.Rescues.{is_rescue}
use Rattle.tg_law_finish.proofs.Finish.Askers.{Kind, Here, extra, budget, passes}
use Rattle.tg_law_finish.proofs.Finish.Askings.{Reads, EndsWalks, reads_talk, sync_begins}
use Rattle.tg_law_finish.proofs.Finish.Both.{Second, makes_begun, writes_talk}
use Rattle.tg_law_finish.proofs.Finish.Joined.{StageOf, ExitOf, Roomy, RoomyExit, roomy, Either, joined}
use Rattle.tg_law_finish.proofs.Finish.Lines.{Item, asks, Over, IsOver, Talk, Goes}
use Rattle.tg_law_finish.proofs.Finish.Nets.{Net}
use Rattle.tg_law_finish.proofs.Finish.Others.{Ready}
use Rattle.tg_law_finish.proofs.Finish.Rescuers.{Rescues', RescueEnds, RescueGrows, rescuing_way, one_more}
use Rattle.tg_law_finish.proofs.Finish.Waited.{budget_within, trims_within}

module _ (m : Meaning) (h : Header) (stopped : List NodeId) (k : ℕ) (p : Layout) (longest : ℕ) (low_at : ℕ → ℕ) (many tail most : ℕ) (kind : Kind low_at p) (wide : 128 ≤ most) where
  -- what a sync and its walks may cost, whatever is known
  abbrev pub round : ℕ
  round = longest + budget m h stopped k p longest low_at many tail most kind tail + extra kind.trims (longest + (most + passes m h stopped k p longest low_at many tail most kind (kind.floors + 1)))

  -- where so many streams may still join
  abbrev pub for_rounds : ℕ → ℕ
  for_rounds zero = suc longest
  for_rounds (suc j) = suc round + for_rounds j

  abbrev pub ReadsWith : ℕ → StageOf m h stopped k p
  ReadsWith j = Reads m h stopped k p longest low_at many tail most kind (rescuing_way m j)

  abbrev EndWith : ℕ → ExitOf m h stopped k p
  EndWith j = EndsWalks m h stopped k p longest low_at many tail most kind (rescuing_way m j)

  abbrev pub FirstWith : ℕ → StageOf m h stopped k p
  FirstWith j = Roomy m h stopped k p (ReadsWith j) (EndWith j) (for_rounds j)

  abbrev FirstEnd : ℕ → ExitOf m h stopped k p
  FirstEnd j = RoomyExit m h stopped k p (ReadsWith j) (EndWith j) (for_rounds j)

  abbrev Writes : StageOf m h stopped k p
  Writes = Second m h stopped k p longest low_at many tail most kind

  abbrev Over' : ExitOf m h stopped k p
  Over' = Over m h stopped k p

  abbrev pub RescueStage : ℕ → StageOf m h stopped k p
  RescueStage zero = Either m h stopped k p (FirstWith zero) Writes (FirstEnd zero) Over'
  RescueStage (suc j) = Either m h stopped k p (FirstWith (suc j)) (Either m h stopped k p Writes (RescueStage j) Over' Over') (FirstEnd (suc j)) Over'

  pub first_stage : (j : ℕ) (s : Net m) (c : Client m) (is : List Item) (n : ℕ) → FirstWith j s c is n → RescueStage j s c is n
  first_stage zero s c is n x = inl x
  first_stage (suc j) s c is n x = inl x

  first_talk : (j : ℕ) → Talk m h stopped k p (FirstWith j) (FirstEnd j)
  first_talk j = roomy m h stopped k p (ReadsWith j) (EndWith j) (for_rounds j) (reads_talk m h stopped k p longest low_at many tail most kind (rescuing_way m j))

  some_room : (j : ℕ) → suc longest ≤ for_rounds j
  some_room zero = omega arith
  some_room (suc j) = let e = some_room j in omega (arith, e)

  full : (a b : ℕ) → 128 ≤ a + 0 → a < 128 → ⊥
  full a b le less = omega (arith, le, less)

  last_begins : (s : Net m) (c : Client m) (t : ClientTurn m) (n : ℕ) → Ready m h stopped k p s → FirstEnd zero s c t n → Over' s c t n ⊎ Goes m h stopped k p Writes s t [] n
  last_begins s c t n ready e =
      let few = e.few in
      subst (λ (u : ClientTurn m). IsOver m h stopped k p u ⊎ Goes m h stopped k p Writes s u [] n) (sym e.exit.turn) (by e.exit.at e.exit.moved e.exit.here (omega (arith, few)) e.exit.next e.exit.stand e.exit.goes)
    where
      by : (at : Client m) (x : Moved m) → Here m h stopped k p longest low_at many tail most kind s → suc longest ≤ n → at.next ≡ c.next → at.stand ≡ p → Rescues' m zero at x → IsOver m h stopped k p (given m c x) ⊎ Goes m h stopped k p Writes s (given m c x) [] n
      by at x here few up stand (RescueEnds y a) = makes_begun m h stopped k p longest low_at many tail most kind s c n at y here few up stand a
      by at x here few up stand (RescueGrows w o is room none less) = absurd (full (length w.oids) 0 room less)

  -- another round
  round_begins : (j : ℕ) (s : Net m) (c d : Client m) (w : Work m) (o : Oid) (n : ℕ) → d.next ≡ c.next → d.stand ≡ p → is_rescue m w.command ≡ true → 128 ≤ length w.oids + suc j
      → has_oid o w.oids ≡ false → length w.oids < 128 → Here m h stopped k p longest low_at many tail most kind s → for_rounds (suc j) ≤ n
      → Goes m h stopped k p (RescueStage j) s (given m c (syncs m d w (with_oid o w.oids))) [] n
  round_begins j s c d w o n up stand is room none less here few =
      let os = with_oid o w.oids in
      let long = one_more o w.oids none in
      let a = budget_within m h stopped k p longest low_at many tail most kind d.cells in
      let z = trims_within m h stopped k p longest low_at many tail most kind (length os) w.gone d.view (omega (arith, long, less, wide)) in
      let goes = sync_begins m h stopped k p longest low_at many tail most kind (rescuing_way m j) s c d w os (suc round) up stand (is, omega (arith, room, long)) (omega (arith, long, less, wide)) here (omega (arith, a, z)) in
      let fewer = goes.less in
      record { os = goes.os; left = goes.left + for_rounds j; sends = goes.sends; stage = first_stage j s (given m c (syncs m d w os)).now ([] ++ asks goes.os) (goes.left + for_rounds j) (record { left = goes.left; stage = goes.stage; few = omega arith }); less = omega (arith, fewer, few) }

  more_begins : (j : ℕ) (s : Net m) (c : Client m) (t : ClientTurn m) (n : ℕ) → Ready m h stopped k p s → FirstEnd (suc j) s c t n → Over' s c t n ⊎ Goes m h stopped k p (Either m h stopped k p Writes (RescueStage j) Over' Over') s t [] n
  more_begins j s c t n ready e =
      let few = e.few in
      let room = some_room (suc j) in
      subst (λ (u : ClientTurn m). IsOver m h stopped k p u ⊎ Goes m h stopped k p (Either m h stopped k p Writes (RescueStage j) Over' Over') s u [] n) (sym e.exit.turn) (by e.exit.at e.exit.moved e.exit.here (omega (arith, few)) (omega (arith, few, room)) e.exit.next e.exit.stand e.exit.goes)
    where
      begun : (t : ClientTurn m) → IsOver m h stopped k p t ⊎ Goes m h stopped k p Writes s t [] n → IsOver m h stopped k p t ⊎ Goes m h stopped k p (Either m h stopped k p Writes (RescueStage j) Over' Over') s t [] n
      begun t (inl x) = inl x
      begun t (inr x) = inr (record { os = x.os; left = x.left; sends = x.sends; stage = inl x.stage; less = x.less })

      by : (at : Client m) (x : Moved m) → Here m h stopped k p longest low_at many tail most kind s → for_rounds (suc j) ≤ n → suc longest ≤ n → at.next ≡ c.next → at.stand ≡ p → Rescues' m (suc j) at x
          → IsOver m h stopped k p (given m c x) ⊎ Goes m h stopped k p (Either m h stopped k p Writes (RescueStage j) Over' Over') s (given m c x) [] n
      by at x here rounds few up stand (RescueEnds y a) = begun (given m c y) (makes_begun m h stopped k p longest low_at many tail most kind s c n at y here few up stand a)
      by at x here rounds few up stand (RescueGrows w o is room none less) =
          let g = round_begins j s c at w o n up stand is room none less here rounds in
          inr (record { os = g.os; left = g.left; sends = g.sends; stage = inr g.stage; less = g.less })

  pub rescue_talk : (j : ℕ) → Talk m h stopped k p (RescueStage j) Over'
  rescue_talk zero = joined m h stopped k p (FirstWith zero) Writes (FirstEnd zero) Over' (first_talk zero) (writes_talk m h stopped k p longest low_at many tail most kind) last_begins
  rescue_talk (suc j) = joined m h stopped k p (FirstWith (suc j)) (Either m h stopped k p Writes (RescueStage j) Over' Over') (FirstEnd (suc j)) Over' (first_talk (suc j))
      (joined m h stopped k p Writes (RescueStage j) Over' Over' (writes_talk m h stopped k p longest low_at many tail most kind) (rescue_talk j) (λ s c t n ready x. inl x)) (more_begins j)
