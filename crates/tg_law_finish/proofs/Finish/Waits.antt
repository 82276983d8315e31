-- The world as one in which a client waits; and a settling ends a transaction with reads whose record asks for its token.
use Rattle.std.proofs.Common.{◌≡◌, ◌⊎◌, ℕ, zero, suc, ◌+◌, ◌*◌, ◌<◌, ◌≤◌, List, [], ◌∷◌, length, Bool, true, false, refl, ap, sym, subst, inl, inr, arith, None}
use Rattle.std.proofs.Math.Nat.{mul-suc}
use Rattle.std.specs.Prelude.{nat_lt}
use Rattle.tg_base.specs.Layouts.{Layout}
use Rattle.tg_base.specs.declared.msg.Msg.TheVariants as msg
use Rattle.tg_base.specs.declared.packet.Out.{Out}
use Rattle.tg_entry.specs.declared.entry.Entry.{Entry}
use Rattle.tg_kind.specs.Meaning.{Meaning}
use Rattle.tg_protocol.specs.Words.{unit_id, seqr_id, too_far}
use Rattle.tg_protocol.specs.Layouts.{chain_of}
use Rattle.tg_protocol.specs.Cells.{place_in}
use Rattle.tg_protocol.specs.Requests.{out}
use Rattle.tg_protocol.specs.Appending.{AppendWork, Asking, append_work_asks}
use Rattle.tg_protocol.specs.Entries.{streams_of, link_of, backs_of}
use Rattle.tg_protocol.specs.Sequencers.{links_of, with_positions}
use Rattle.tg_model.specs.Kinds.{CommandOf}
use Rattle.tg_model.specs.declared.command.Command.TheVariants as cmd
use Rattle.tg_protocol.specs.Clients.{Judged}
use Rattle.tg_protocol.specs.ClientSteps.{task_asks}
use Rattle.tg_protocol.specs.Worlds.{World, nodes, unit, seqr, client, runs, settle}
use Rattle.tg_law_finish.specs.Finish.Makes.{makes}
use Rattle.tg_law_finish.specs.Finish.Walks.{passes_of, floors}
use Rattle.tg_law_headline.proofs.Issues.Bounds.{AllBelow}
use Rattle.tg_law_finish.proofs.Finish.Asking.{Walkable, Grows, Owns}
use Rattle.tg_law_finish.proofs.Finish.Ending.{EndStage, ends_talk, round_long}
use Rattle.tg_law_finish.proofs.Finish.Owners.{Before, OwnStage}
use Rattle.tg_law_finish.proofs.Finish.Talks.{Request}
use Rattle.tg_law_finish.proofs.Finish.Askers.{Kind, Here, above}
use Rattle.tg_law_finish.proofs.Finish.Counted.{Finishes}
use Rattle.tg_law_finish.proofs.Finish.Finishes.{nodes_once, ready, serves, issues, clients_long}
use Rattle.tg_law_finish.proofs.Finish.Lines.{asks}
use Rattle.tg_law_finish.proofs.Finish.Joined.{StageOf}
use Rattle.tg_law_finish.proofs.Finish.Nets.{net}
use Rattle.tg_law_finish.proofs.Finish.Others.{weigh}
use Rattle.tg_law_finish.proofs.Finish.Places.{AllServe}
use Rattle.tg_law_finish.proofs.Finish.Readings.{Clean, Trimmed, Good}
use Rattle.tg_law_finish.proofs.Finish.Rounds.{Waiting, finishes_from}
use Rattle.tg_law_finish.proofs.Finish.Trails.{Low}
use Rattle.tg_law_finish.proofs.Finish.Waited.{for_trims, few_above, all_calm, pays}
use Rattle.tg_law_finish.proofs.Finish.Rescuing.{round}
use Rattle.tg_law_finish.proofs.Finish.Working.{Working, Lawful, at_chain}
use Rattle.tg_law_finish.proofs.Finish.Writers.{seqr_away}

pub all_low : (p : Layout) (tail : ℕ) (qs : List ℕ) → AllBelow tail qs → Low p tail qs
all_low p tail [] l = tt
all_low p tail (q ∷ qs) l = (l.0, all_low p tail qs l.1)

module _ (m : Meaning) (w : World m) (k : ℕ) (p : Layout) (longest : ℕ) (a : Working m w k p) (b : Lawful m w p longest) (u : Walkable m w p) where
  abbrev pub tail : ℕ
  tail = (seqr m w p.seq).next

  abbrev pub low_at : ℕ → ℕ
  low_at n = (unit m w n).low

  abbrev pub many : ℕ
  many = length w.units

  unit_there : (n : ℕ) → runs m w (unit_id n) ≡ true → n < many
  unit_there n e = grind arith

  -- some unit of a chain has trimmed the position, or none
  pub looked : (pos n : ℕ) → n ≤ length (chain_of p pos) → ((j : ℕ) → j < n → nat_lt pos (low_at (at_chain m p pos j)) ≡ false) ⊎ ((j : ℕ) × (j < length (chain_of p pos)) × (nat_lt pos (low_at (at_chain m p pos j)) ≡ true))
  looked pos zero le = inl (λ j less. absurd (omega (arith, less)))
  looked pos (suc n) le = by (nat_lt pos (low_at (at_chain m p pos n))) refl (looked pos n (omega (arith, le)))
    where
      last_or_less : (j n : ℕ) → j < suc n → (j ≡ n) ⊎ (j < n)
      last_or_less j n less = grind arith

      by : (d : Bool) → nat_lt pos (low_at (at_chain m p pos n)) ≡ d → ((j : ℕ) → j < n → nat_lt pos (low_at (at_chain m p pos j)) ≡ false) ⊎ ((j : ℕ) × (j < length (chain_of p pos)) × (nat_lt pos (low_at (at_chain m p pos j)) ≡ true))
          → ((j : ℕ) → j < suc n → nat_lt pos (low_at (at_chain m p pos j)) ≡ false) ⊎ ((j : ℕ) × (j < length (chain_of p pos)) × (nat_lt pos (low_at (at_chain m p pos j)) ≡ true))
      by true e f = inr (n, omega (arith, le), e)
      by false e (inr f) = inr f
      by false e (inl f) = inl (λ j less. of j (last_or_less j n less))
        where
          of : (j : ℕ) → (j ≡ n) ⊎ (j < n) → nat_lt pos (low_at (at_chain m p pos j)) ≡ false
          of j (inl i) = subst (λ x. nat_lt pos (low_at (at_chain m p pos x)) ≡ false) (sym i) e
          of j (inr less) = f j less

  pub good : Good m w.cluster w.stopped k p longest low_at many (net m w)
  good pos = record { stable = record { serves = serves m w k p longest a b pos; lows = λ j less. refl; few = λ j less. unit_there (at_chain m p pos j) (a.units_run pos j less) }; sort = by (looked pos (length (chain_of p pos)) (omega arith)) }
    where
      by : ((j : ℕ) → j < length (chain_of p pos) → nat_lt pos (low_at (at_chain m p pos j)) ≡ false) ⊎ ((j : ℕ) × (j < length (chain_of p pos)) × (nat_lt pos (low_at (at_chain m p pos j)) ≡ true))
          → Clean m w.cluster w.stopped k p longest low_at many (net m w) (place_in p pos) ⊎ Trimmed m w.cluster w.stopped k p longest low_at many (net m w) (place_in p pos)
      by (inl free) = inl (record { free = free; below = λ j c less has. b.heads pos j c less has (free 0 (b.some pos)) })
      by (inr f) = let g = u.held pos f.0 f.1 f.2 in inr (record { cell = g.0; held = g.1 })

  pub all_serve : AllServe m w.cluster w.stopped k p longest (net m w)
  all_serve n g = record { on = (a.all_stand n g).0; epoch = (a.all_stand n g).1; low = b.lows n }

  pub here : (kind : Kind low_at p) (most : ℕ) → Here m w.cluster w.stopped k p longest low_at many tail most kind (net m w)
  here kind most = record {
    good = good;
    on = a.seqr_runs;
    epoch = a.seqr_stands;
    unfenced = a.seqr_unfenced;
    ready = a.seqr_ready;
    rests = b.rests;
    next = refl;
    near = u.near;
    named = b.named;
    lasts = λ o os. all_low p tail _ (u.backs o os);
    issue = λ d. issues m w k p longest a b (record { draft = d; token = None; work = Asking 0 });
    units = all_serve;
  }

  pub few_floors : (g n : ℕ) → above low_at g n ≤ floors m w
  few_floors g n = few_above w.units g n

  -- what walks may meet there
  abbrev pub world_kind : Kind low_at p
  world_kind = record { trims = nat_lt 0 (floors m w); calm = all_calm low_at (floors m w) few_floors; floors = floors m w; few = few_floors; once = u.once }

  -- the world as one in which a piece of work waits
  pub waits_for : (os : List Out) (Stage : StageOf m w.cluster w.stopped k p) (left n : ℕ) → Stage (net m w) (client m w k) (asks os) left
      → ((length os + length os) + ((client m w k).layouts + (client m w k).layouts)) + (left + left) ≤ n → Waiting m w.cluster w.stopped k p Stage (nodes m w) (net m w) [] n
  unfolding weigh
  waits_for os Stage left n stage few =
      let once = nodes_once k m w (clients_long m w k p longest a b) in
      record {
        ready = ready m w k p longest a b;
        os = os;
        left = left;
        stage = stage;
        strays = tt;
        layouts = (client m w k).layouts;
        same = refl;
        few = omega (arith, few);
        front = once.front;
        back = once.back;
        is = once.is;
        not_front = once.not_front;
        not_back = once.not_back;
      }

  abbrev pub Ends : ℕ → Type 0
  Ends n = (settle m w).stopped ≡ None → Finishes m k n w (settle m w).world

  -- A transaction with reads is ended.

  pub can_grow : (d : Entry) → Grows m w p d → Before m w.cluster w.stopped k p longest low_at many tail 128 world_kind (net m w) d
  can_grow d f = record {
    issue = issues m w k p longest a b (record { draft = d; token = None; work = Asking 0 });
    units = all_serve;
    good = good;
    next = refl;
    limit = f.limit;
    ahead = f.ahead;
    named = λ near ts. f.named (subst (λ n. too_far n ≡ false) (sym (plus tail)) near) ts;
    lasts = λ o ts. all_low p (suc tail) _ (subst (λ n. AllBelow n (backs_of (link_of o (links_of (with_positions tail (streams_of d) (seqr m w p.seq).lists) ts)))) (plus tail) (f.lasts o ts));
  }
    where
      plus : (n : ℕ) → n + 1 ≡ suc n
      plus n = omega arith

  ends_few : (l c t z y r : ℕ) → r ≡ (c + 1) * (suc t) + (c + 1) + z → 2 * ((c + 1) + z) ≡ y → (2 + (l + l)) + ((c + (r + suc c)) + (c + (r + suc c))) ≤ 2 * ((c + 1) * t) + 2 * l + y + 6 * (c + 1)
  ends_few l c t z y r e pay = let f = mul-suc (c + 1) t in omega (arith, e, f, pay)

  pub ends_made : (x : CommandOf m) → x ≡ cmd.End → makes m x ≡ true
  unfolding makes
  ends_made x e = ap (λ y. makes m y) e

  pub ends_finish_by : (f : Owns m w k p) → Ends (2 * ((longest + 1) * tail) + 2 * (client m w k).layouts + passes_of longest 128 (floors m w) + 6 * (longest + 1))
  unfolding task_asks append_work_asks
  ends_finish_by f none =
      let most : ℕ = 128 in
      let wide : 128 ≤ 128 = omega arith in
      let kind = world_kind in
      let r = suc (round m w.cluster w.stopped k p longest low_at many (suc tail) most kind wide) in
      let is = round_long m w.cluster w.stopped k p longest low_at many (suc tail) most kind wide in
      let o = out (seqr_id p.seq) f.rid (msg.Token p.epoch (streams_of f.append.draft)) in
      finishes_from m w.cluster w.stopped k p _ (ends_talk m w.cluster w.stopped k p longest low_at many tail most kind wide) w _ a.on_way refl refl
      (waits_for (o ∷ []) (EndStage m w.cluster w.stopped k p longest low_at many tail most kind wide) (longest + (r + suc longest)) _
      (inl (record {
        left = longest;
        stage = Request o longest (record {
          append = f.append;
          own = record {
            shape = record { stand = a.client_stands; work = f.work; waits = f.waits; purpose = Judged; hand = f.hand; asks = ap (λ y. append_work_asks p f.append y) f.first; below = f.below; away = λ l. seqr_away m w.cluster w.stopped k p longest p.seq l };
            judged = refl;
            such = ends_made f.work.command f.command;
            hosted = f.hosted;
          };
          stage = subst (λ (y : AppendWork). OwnStage m w.cluster w.stopped k p longest low_at many tail most kind (net m w) f.append y longest) (sym f.first) (can_grow f.append.draft f.grows, omega arith);
        });
        few = omega arith;
      }))
      (let l = ends_few (client m w k).layouts longest tail (for_trims m w.cluster w.stopped k p longest low_at many (suc tail) most kind) (passes_of longest 128 (floors m w)) r is (pays longest 128 (floors m w)) in omega (arith, l))) none
