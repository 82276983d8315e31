-- A settling ends a transaction with reads whose record has a token.
use Rattle.std.proofs.Common.{◌≡◌, ℕ, zero, suc, ◌+◌, ◌*◌, ◌<◌, ◌≤◌, List, [], ◌∷◌, length, Bool, refl, sym, subst, inl, arith}
use Rattle.std.proofs.Math.Nat.{mul-suc}
use Rattle.tg_base.specs.Layouts.{Layout}
use Rattle.tg_base.specs.declared.cell.Cell.TheVariants.{Data}
use Rattle.tg_base.specs.declared.packet.Out.{Out}
use Rattle.tg_kind.specs.Meaning.{Meaning}
use Rattle.tg_protocol.specs.Words.{unit_id}
use Rattle.tg_protocol.specs.Appending.{AppendWork, Asking, Putting, Judging}
use Rattle.tg_protocol.specs.Cells.{CellWork, Puts, Gets, Fills, Copies, Probes, CellJob, Place, place_in}
use Rattle.tg_protocol.specs.Requests.{out}
use Rattle.tg_protocol.specs.Clients.{Judged}
use Rattle.tg_protocol.specs.ClientSteps.{task_asks}
use Rattle.tg_protocol.specs.Worlds.{World, unit, seqr, client}
use Rattle.tg_law_layouts.proofs.Moves.Members.{Has}
use Rattle.tg_law_finish.specs.Finish.Walks.{passes_of, floors}
use Rattle.tg_law_finish.proofs.Finish.Askers.{Kind, sort_of}
use Rattle.tg_law_finish.proofs.Finish.Asking.{Walkable, PutStands, PageStands, TokenStands, Holds}
use Rattle.tg_law_finish.proofs.Finish.Ending.{round_long}
use Rattle.tg_law_finish.proofs.Finish.Holders.{PutStage, HoldStage, Standing, request}
use Rattle.tg_law_finish.proofs.Finish.Nets.{Net, net}
use Rattle.tg_law_finish.proofs.Finish.Recording.{anew, RecordStage, record_talk}
use Rattle.tg_law_finish.proofs.Finish.Rescuing.{round}
use Rattle.tg_law_finish.proofs.Finish.Rounds.{finishes_from}
use Rattle.tg_law_finish.proofs.Finish.Starts.{short_at, copy_stage, job_stage}
use Rattle.tg_law_finish.proofs.Finish.Talks.{Request}
use Rattle.tg_law_finish.proofs.Finish.Waited.{for_trims, pays}
use Rattle.tg_law_finish.proofs.Finish.Waits.{Ends, world_kind, here, good, can_grow, ends_made, waits_for}
use Rattle.tg_law_finish.proofs.Finish.Working.{Working, Lawful}
use Rattle.tg_law_finish.proofs.Finish.Writers.{unit_away}

module _ (m : Meaning) (w : World m) (k : ℕ) (p : Layout) (longest : ℕ) (a : Working m w k p) (b : Lawful m w p longest) (u : Walkable m w p) where
  abbrev tail : ℕ
  tail = (seqr m w p.seq).next

  abbrev low_at : ℕ → ℕ
  low_at n = (unit m w n).low

  abbrev many : ℕ
  many = length w.units

  abbrev kind : Kind (λ n. (unit m w n).low) p
  kind = world_kind m w k p longest a b u

  abbrev s : Net m
  s = net m w

  -- Where the page stands.

  abbrev PutAt : Place → CellWork → Type 0
  PutAt pl y = (d : Bool) × (n : ℕ) × PutStage m w.cluster w.stopped k p longest low_at many tail 128 kind s pl d y n × (n ≤ longest)

  page_stage : (pos : ℕ) (y : CellWork) → PutStands m w p pos y → PutAt (place_in p pos) y
  page_stage pos (Puts r d zero) f =
      let sort = sort_of m w.cluster w.stopped k p longest low_at many tail 0 kind s (place_in p pos) (good m w k p longest a b u pos) in
      let short = short_at m w k p longest a b u pos in
      (sort.0, longest, (sort.1, omega (arith, short)), omega arith)
  page_stage pos (Puts r d (suc i)) f = copy_stage m w k p longest a b u pos r (Data d) (suc i) f.0 f.1
  page_stage pos (Gets r) f = absurd f
  page_stage pos (Fills r) f = absurd f
  page_stage pos (Copies r c i) f = absurd f
  page_stage pos (Probes ws) f = absurd f

  page_at : (j : CellJob) → PageStands m w p j → PutAt j.place j.work
  page_at j f = subst (λ (pl : Place). PutAt pl j.work) (sym f.place) (page_stage j.place.pos j.work f.work)

  module _ (f : Holds m w k p) where
    abbrev Stage : AppendWork → ℕ → Type 0
    Stage y n = HoldStage m w.cluster w.stopped k p longest low_at many tail 128 kind s f.append y n

    standing : (pl : Place) → pl ≡ place_in p pl.pos → pl.pos < tail → Standing m w.cluster w.stopped k p longest low_at many tail 128 kind s f.append pl
    standing pl place less = record { token = f.token; has = f.has; place = place; less = less; here = here m w k p longest a b u kind 128; grows = can_grow m w k p longest a b u f.append.draft f.grows }

    staged : (y : AppendWork) → TokenStands m w p y → (n : ℕ) × Stage y n × (n ≤ longest)
    staged (Asking r) g = absurd g
    staged (Putting j) g = let x = page_at j g in (x.1, record { standing = standing j.place g.place g.less; sort = x.0; cell = x.2 }, x.3)
    staged (Judging j) g = let x = job_stage m w k p longest a b u j g in (x.1, record { standing = standing j.place g.place g.less; sort = x.0; cell = x.2 }, x.3)

    records_few : (l c t z y r x : ℕ) → x ≤ c → r ≡ (c + 1) * (suc t) + (c + 1) + z → 2 * ((c + 1) + z) ≡ y → ((1 + 1) + (l + l)) + ((x + suc (c + (r + suc c))) + (x + suc (c + (r + suc c)))) ≤ 2 * ((c + 1) * t) + 2 * l + y + 8 * (c + 1)
    records_few l c t z y r x less e pay = let g = mul-suc (c + 1) t in omega (arith, less, e, g, pay)

    pub records_finish_by : Ends m w k p longest a b u (2 * ((longest + 1) * tail) + 2 * (client m w k).layouts + passes_of longest 128 (floors m w) + 8 * (longest + 1))
    unfolding task_asks
    records_finish_by none =
        let most : ℕ = 128 in
        let wide : 128 ≤ 128 = omega arith in
        let x = staged f.append.work f.stands in
        let g = request m w.cluster w.stopped k p longest low_at many tail most kind s f.append f.append.work x.0 x.1 in
        let o = out (unit_id g.unit) g.rid g.asks in
        let r = suc (round m w.cluster w.stopped k p longest low_at many (suc tail) most kind wide) in
        let is = round_long m w.cluster w.stopped k p longest low_at many (suc tail) most kind wide in
        let few = records_few (client m w k).layouts longest tail (for_trims m w.cluster w.stopped k p longest low_at many (suc tail) most kind) (passes_of longest 128 (floors m w)) r x.0 x.2 is (pays longest 128 (floors m w)) in
        finishes_from m w.cluster w.stopped k p _ (record_talk m w.cluster w.stopped k p longest low_at many tail most kind wide) w _ a.on_way refl refl
        (waits_for m w k p longest a b u (o ∷ []) (RecordStage m w.cluster w.stopped k p longest low_at many tail most kind wide) (x.0 + anew m w.cluster w.stopped k p longest low_at many tail most kind wide) _
        (inl (record {
          left = x.0;
          stage = Request o x.0 (record {
            append = f.append;
            own = record {
              shape = record { stand = a.client_stands; work = f.work; waits = f.waits; purpose = Judged; hand = f.hand; asks = g.is; below = f.below o (subst (λ (os : List Out). Has os o) (sym g.is) (inl refl)); away = λ l. unit_away m w.cluster w.stopped k p longest g.unit l };
              judged = refl;
              such = ends_made m w k p longest a b u f.work.command f.command;
              hosted = f.hosted;
            };
            stage = x.1;
          });
          few = omega arith;
        }))
        few) none
