-- A command that is answered once all is walked, and one that appends then.
use Rattle.std.proofs.Common.{◌≡◌, ◌⊎◌, ℕ, suc, ◌≤◌, List, [], ◌∷◌, ◌++◌, refl, ap, ◌∙◌, sym, subst, inl, inr, arith, None}
use Rattle.tg_base.specs.Layouts.{Layout}
use Rattle.tg_base.specs.Clusters.{Header}
use Rattle.tg_base.specs.declared.ids.NodeId.{NodeId}
use Rattle.tg_base.specs.declared.msg.Msg.TheVariants as msg
use Rattle.tg_kind.specs.Meaning.{Meaning}
use Rattle.tg_protocol.specs.Words.{seqr_id}
use Rattle.tg_protocol.specs.Entries.{streams_of}
use Rattle.tg_protocol.specs.Requests.{out, drawn_from}
use Rattle.tg_protocol.specs.Appending.{Asking, append_start, append_work_asks}
use Rattle.tg_protocol.specs.Clients.{Client}
use Rattle.tg_protocol.specs.Answers.{Moved, appends}
use Rattle.tg_protocol.specs.ClientSteps.{ClientTurn, given, client_asks, task_asks}
use Rattle.tg_law_finish.proofs.Finish.Askers.{Kind, Here}
use Rattle.tg_law_finish.proofs.Finish.Askings.{Reads, EndsWalks, reads_talk}
use Rattle.tg_law_finish.proofs.Finish.Joined.{StageOf, ExitOf, Roomy, RoomyExit, roomy, Either, joined, leading}
use Rattle.tg_law_finish.proofs.Finish.Lines.{IsOver, Over, Talk, Goes}
use Rattle.tg_law_finish.proofs.Finish.Makers.{Makes', Ends', Appends', making_way}
use Rattle.tg_law_finish.proofs.Finish.Nets.{Net}
use Rattle.tg_law_finish.proofs.Finish.Others.{Ready}
use Rattle.tg_law_finish.proofs.Finish.Readers.{asking_way}
use Rattle.tg_law_finish.proofs.Finish.Talks.{One, Request, one_talk}
use Rattle.tg_law_finish.proofs.Finish.Writers.{Writing, Hearing, writes_machine, over_asks, new_drawn, seqr_away}

module _ (m : Meaning) (h : Header) (stopped : List NodeId) (k : ℕ) (p : Layout) (longest : ℕ) (low_at : ℕ → ℕ) (many tail most : ℕ) (kind : Kind low_at p) where
  -- A command that asks.

  abbrev pub AsksStage : StageOf m h stopped k p
  AsksStage = Reads m h stopped k p longest low_at many tail most kind (asking_way m)

  abbrev AsksEnd : ExitOf m h stopped k p
  AsksEnd = EndsWalks m h stopped k p longest low_at many tail most kind (asking_way m)

  asks_over : (s : Net m) (c : Client m) (t : ClientTurn m) (n : ℕ) → AsksEnd s c t n → IsOver m h stopped k p t
  unfolding client_asks
  asks_over s c t n e = subst (λ (u : ClientTurn m). IsOver m h stopped k p u) (sym e.turn)
      (record { none = e.goes.none; sends = ap (λ os. os ++ drawn_from c.next (client_asks m e.moved.now)) e.goes.besides ∙ ap (λ os. drawn_from c.next os) (over_asks m e.moved.now e.goes.none) })

  pub asks_talk : Talk m h stopped k p AsksStage (Over m h stopped k p)
  asks_talk = leading m h stopped k p AsksStage AsksEnd (Over m h stopped k p) asks_over (reads_talk m h stopped k p longest low_at many tail most kind (asking_way m))

  -- A command that makes a record.

  abbrev MakesReads : StageOf m h stopped k p
  MakesReads = Reads m h stopped k p longest low_at many tail most kind (making_way m)

  abbrev MakesEnd : ExitOf m h stopped k p
  MakesEnd = EndsWalks m h stopped k p longest low_at many tail most kind (making_way m)

  abbrev pub First : StageOf m h stopped k p
  First = Roomy m h stopped k p MakesReads MakesEnd (suc longest)

  abbrev FirstEnd : ExitOf m h stopped k p
  FirstEnd = RoomyExit m h stopped k p MakesReads MakesEnd (suc longest)

  abbrev pub Second : StageOf m h stopped k p
  Second = One m h stopped k p (Writing m h stopped k p longest) (Hearing m h stopped k p longest)

  abbrev pub MakesStage : StageOf m h stopped k p
  MakesStage = Either m h stopped k p First Second FirstEnd (Over m h stopped k p)

  pub makes_begun : (s : Net m) (c : Client m) (n : ℕ) (at : Client m) (x : Moved m) → Here m h stopped k p longest low_at many tail most kind s → suc longest ≤ n → at.next ≡ c.next → at.stand ≡ p → Makes' m at x
      → IsOver m h stopped k p (given m c x) ⊎ Goes m h stopped k p Second s (given m c x) [] n
  unfolding appends append_start client_asks task_asks append_work_asks
  makes_begun s c n at x here few up stand (Ends' y a) = inl (record { none = a.none; sends = ap (λ os. os ++ drawn_from c.next (client_asks m y.now)) a.besides ∙ ap (λ os. drawn_from c.next os) (over_asks m y.now a.none) })
  makes_begun s c n at x here few up stand (Appends' d w e y ns same next last) = inr (record {
    os = out (seqr_id p.seq) d.next (msg.Token p.epoch (streams_of e)) ∷ [];
    left = longest;
    sends = ap (λ (q : Layout). drawn_from c.next (out (seqr_id q.seq) d.next (msg.Token q.epoch (streams_of e)) ∷ [])) (same ∙ stand)
        ∙ subst (λ (i : ℕ). drawn_from i (out (seqr_id p.seq) d.next (msg.Token p.epoch (streams_of e)) ∷ []) ≡ out (seqr_id p.seq) d.next (msg.Token p.epoch (streams_of e)) ∷ []) (next ∙ up)
        (new_drawn m h stopped k p longest (seqr_id p.seq) d.next (msg.Token p.epoch (streams_of e)));
    stage = Request (out (seqr_id p.seq) d.next (msg.Token p.epoch (streams_of e))) longest (record {
      append = record { draft = e; token = None; work = Asking d.next };
      shape = record { stand = same ∙ stand; work = _; waits = refl; purpose = y; hand = refl; asks = refl; below = omega arith; away = λ l. seqr_away m h stopped k p longest p.seq l };
      last = last;
      stage = (here.issue e, omega arith);
    });
    less = omega (arith, few);
  })

  makes_begin : (s : Net m) (c : Client m) (t : ClientTurn m) (n : ℕ) → Ready m h stopped k p s → FirstEnd s c t n → Over m h stopped k p s c t n ⊎ Goes m h stopped k p Second s t [] n
  makes_begin s c t n ready e =
      let few = e.few in
      subst (λ (u : ClientTurn m). IsOver m h stopped k p u ⊎ Goes m h stopped k p Second s u [] n) (sym e.exit.turn) (makes_begun s c n e.exit.at e.exit.moved e.exit.here (omega (arith, few)) e.exit.next e.exit.stand e.exit.goes)

  pub writes_talk : Talk m h stopped k p Second (Over m h stopped k p)
  writes_talk = one_talk m h stopped k p (Writing m h stopped k p longest) (Hearing m h stopped k p longest) (Over m h stopped k p) (writes_machine m h stopped k p longest)

  pub makes_talk : Talk m h stopped k p MakesStage (Over m h stopped k p)
  makes_talk = joined m h stopped k p First Second FirstEnd (Over m h stopped k p)
      (roomy m h stopped k p MakesReads MakesEnd (suc longest) (reads_talk m h stopped k p longest low_at many tail most kind (making_way m)))
      writes_talk makes_begin
