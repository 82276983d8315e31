-- A world in which a client waits in a sync or in a walk is one in which it reads.
use Rattle.std.proofs.Common.{◌≡◌, ◌⊎◌, ℕ, zero, suc, ◌+◌, ◌*◌, ◌<◌, ◌≤◌, List, [], ◌∷◌, length, Bool, true, false, refl, ap, ◌∙◌, sym, subst, inl, inr, arith, Option, append-nil}
use Rattle.std.proofs.Math.Nat.{mul-suc, mul-zero}
use Rattle.std.specs.Prelude.{nat_lt}
use Rattle.tg_base.specs.Layouts.{Layout}
use Rattle.tg_base.specs.declared.cell.Cell.{Cell}
use Rattle.tg_base.specs.declared.ids.Oid.{Oid}
use Rattle.tg_base.specs.declared.marks.StreamLink.{StreamLink}
use Rattle.tg_base.specs.declared.msg.Msg.{Msg}
use Rattle.tg_base.specs.declared.msg.Msg.TheVariants as msg
use Rattle.tg_base.specs.declared.packet.Out.{Out}
use Rattle.tg_kind.specs.Meaning.{Meaning}
use Rattle.tg_protocol.specs.Words.{unit_id, seqr_id}
use Rattle.tg_protocol.specs.Layouts.{chain_of}
use Rattle.tg_protocol.specs.Entries.{link_of, backs_of}
use Rattle.tg_protocol.specs.Requests.{out}
use Rattle.tg_protocol.specs.Cells.{CellWork, Puts, Gets, Fills, Copies, Probes, CellJob, Place, place_in, works, work_asks, unit_at}
use Rattle.tg_protocol.specs.Syncing.{Answer, Sync, SyncWork, Checking, Settling, Probing, sync_work_asks}
use Rattle.tg_protocol.specs.Walking.{Walk, job_asks}
use Rattle.tg_protocol.specs.Clients.{Task, Syncing, Walking, Appending, Trimming, Copying', Reconfiguring, Doing, Client}
use Rattle.tg_protocol.specs.ClientSteps.{task_asks, task_awaited, task_again_asks}
use Rattle.tg_protocol.specs.Worlds.{World, unit, seqr, client}
use Rattle.tg_law_layouts.proofs.Moves.Members.{Has}
use Rattle.tg_law_finish.proofs.Finish.Askers.{Distinct, Kind, extra, extra_less, extra_is, above, budget, budget_less, passes, passes_less, WalkStage, SyncStage, sort_of}
use Rattle.tg_law_finish.proofs.Finish.Askings.{Reads, AsksOne, ProbesAll, IsSuch, look, looks}
use Rattle.tg_law_finish.proofs.Finish.AtOnce.{long_asked, each_to, all_away}
use Rattle.tg_law_finish.proofs.Finish.Asking as asking
use Rattle.tg_law_finish.proofs.Finish.Asking.{Walkable, CarriesDown, CellStands, JobStands, ProbeStands, LastsBelow, SyncStands, WalkStands, TaskStands}
use Rattle.tg_law_finish.proofs.Finish.Finishes.{serves}
use Rattle.tg_law_finish.proofs.Finish.Lines.{asks}
use Rattle.tg_law_finish.proofs.Finish.Lists.{Each}
use Rattle.tg_law_finish.proofs.Finish.Nets.{Net, net}
use Rattle.tg_law_finish.proofs.Finish.Places.{UnitServes}
use Rattle.tg_law_finish.proofs.Finish.Probes.{StandsIn}
use Rattle.tg_law_finish.proofs.Finish.Readers.{Way, seen}
use Rattle.tg_law_finish.proofs.Finish.Readings.{CellStage, Sort}
use Rattle.tg_law_finish.proofs.Finish.Tasks.{TaskShape, Below, Away}
use Rattle.tg_law_finish.proofs.Finish.Trails.{unknown, unknown_less, Low}
use Rattle.tg_law_finish.proofs.Finish.Waited.{for_trims, few_unknown, few_seen}
use Rattle.tg_law_finish.proofs.Finish.Waits.{world_kind, here, good, looked, all_low}
use Rattle.tg_law_finish.proofs.Finish.Working.{Working, Lawful, at_chain}
use Rattle.tg_law_finish.proofs.Finish.Writers.{unit_away, seqr_away}

itself : (n : ℕ) → n ≤ n
itself n = omega arith

one_fewer : (a b n p : ℕ) → a + b + (n + p) ≤ a + b + (suc n + p)
one_fewer a b n p = omega arith

within_one : (n x y t z c : ℕ) → x ≤ t → y ≤ z → n ≤ c → 1 + (n + x + y) ≤ suc (c + t + z)
within_one n x y t z c a b d = omega (arith, a, b, d)

within_all : (n x y t z c : ℕ) → x ≤ t → y ≤ z → n ≤ c → n + (x + y) ≤ suc (c + t + z)
within_all n x y t z c a b d = omega (arith, a, b, d)

pub each_has : (P : Out → Type 0) (os : List Out) → ((o : Out) → Has os o → P o) → Each P os
each_has P [] f = tt
each_has P (x ∷ xs) f = (f x (inl refl), each_has P xs (λ o g. f o (inr g)))

module _ (m : Meaning) (w : World m) (k : ℕ) (p : Layout) (longest : ℕ) (a : Working m w k p) (b : Lawful m w p longest) (u : Walkable m w p) where
  abbrev c : Client m
  c = client m w k

  abbrev tail : ℕ
  tail = (seqr m w p.seq).next

  abbrev low_at : ℕ → ℕ
  low_at n = (unit m w n).low

  abbrev many : ℕ
  many = length w.units

  abbrev kind : Kind (λ n. (unit m w n).low) p
  kind = world_kind m w k p longest a b u

  abbrev s : Net m
  s = net m w

  -- The job of a position that is read.

  abbrev pub StageAt : Place → CellWork → Type 0
  StageAt pl y = (d : Bool) × (n : ℕ) × CellStage m w.cluster w.stopped k p longest low_at many s pl d y n × (n ≤ longest)

  pub some_at : (pos : ℕ) → 0 < length (chain_of p pos)
  some_at pos = (good m w k p longest a b u pos).stable.serves.some

  pub short_at : (pos : ℕ) → length (chain_of p pos) ≤ longest
  short_at pos = (good m w k p longest a b u pos).stable.serves.short

  read_stage : (pos r : ℕ) → StageAt (place_in p pos) (Gets r)
  read_stage pos r = by (sort_of m w.cluster w.stopped k p longest low_at many tail 0 kind s (place_in p pos) (good m w k p longest a b u pos))
    where
      by : (d : Bool) × Sort m w.cluster w.stopped k p longest low_at many s (place_in p pos) d → StageAt (place_in p pos) (Gets r)
      by (true, x) = (true, longest, (x, short_at pos), omega arith)
      by (false, x) = (false, longest, (x, tt), omega arith)

  fill_stage : (pos r : ℕ) → StageAt (place_in p pos) (Fills r)
  fill_stage pos r =
      let x = sort_of m w.cluster w.stopped k p longest low_at many tail 0 kind s (place_in p pos) (good m w k p longest a b u pos) in
      let short = short_at pos in
      (x.0, longest, (x.1, omega (arith, short)), omega arith)

  pub copy_stage : (pos r : ℕ) (y : Cell) (i : ℕ) → i < length (chain_of p pos) → CarriesDown m w p pos y → StageAt (place_in p pos) (Copies r y i)
  copy_stage pos r y i less f = by (looked m w k p longest a b u pos (length (chain_of p pos)) (omega arith))
    where
      few : length (chain_of p pos) ≤ longest + suc i
      few = let short = short_at pos in omega (arith, short)

      by : ((j : ℕ) → j < length (chain_of p pos) → nat_lt pos (low_at (at_chain m p pos j)) ≡ false) ⊎ ((j : ℕ) × (j < length (chain_of p pos)) × (nat_lt pos (low_at (at_chain m p pos j)) ≡ true)) → StageAt (place_in p pos) (Copies r y i)
      by (inl free) =
          let head = f.first (free 0 (some_at pos)) in
          (true, longest, record { holds = (record { free = free; below = λ j x here has. b.heads pos j x here has (free 0 (some_at pos)) }, head); less = less; few = few }, omega arith)
      by (inr g) = (false, longest, record { holds = λ j here. f.held g.0 g.1 g.2 j here; less = less; few = few }, omega arith)

  cell_stage : (pos : ℕ) (y : CellWork) → CellStands m w p pos y → StageAt (place_in p pos) y
  cell_stage pos (Gets r) f = read_stage pos r
  cell_stage pos (Fills r) f = fill_stage pos r
  cell_stage pos (Copies r y i) f = copy_stage pos r y i f.0 f.1
  cell_stage pos (Puts r d i) f = absurd f
  cell_stage pos (Probes ws) f = absurd f

  pub job_stage : (j : CellJob) → JobStands m w p j → StageAt j.place j.work
  job_stage j f = subst (λ (pl : Place). StageAt pl j.work) (sym f.place) (cell_stage j.place.pos j.work f.work)

  -- it asks one unit
  abbrev pub OneAsked : Place → CellWork → Type 0
  OneAsked pl y = (n : ℕ) × (r : ℕ) × (z : Msg) × (work_asks pl y ≡ out (unit_id n) r z ∷ [])

  pub one_asked : (pl : Place) (pos : ℕ) (y : CellWork) → CellStands m w p pos y → OneAsked pl y
  unfolding work_asks
  one_asked pl pos (Gets r) f = (_, r, _, refl)
  one_asked pl pos (Fills r) f = (_, r, _, refl)
  one_asked pl pos (Copies r y i) f = (_, r, _, refl)
  one_asked pl pos (Puts r d i) f = absurd f
  one_asked pl pos (Probes ws) f = absurd f

  -- a unit of a probed chain
  serving : (j : CellJob) → j.place ≡ place_in p j.place.pos → (n : ℕ) → StandsIn j.place.chain n → UnitServes m w.cluster w.stopped k p longest s n
  serving j is n i = subst (λ (v : ℕ). UnitServes m w.cluster w.stopped k p longest s v) i.2
      (subst (λ (pl : Place). (l : ℕ) → l < length pl.chain → UnitServes m w.cluster w.stopped k p longest s (unit_at pl l)) (sym is) (λ l less. (serves m w k p longest a b j.place.pos).unit l less) i.0 i.1)

  -- How much is left.

  module _ (most : ℕ) where
    abbrev Budget : ℕ → ℕ
    Budget n = budget m w.cluster w.stopped k p longest low_at many tail most kind n

    abbrev Passes : ℕ → ℕ
    Passes n = passes m w.cluster w.stopped k p longest low_at many tail most kind n

    abbrev Trims : ℕ
    Trims = for_trims m w.cluster w.stopped k p longest low_at many tail most kind

    -- what a sync and its walks take at most
    abbrev pub all_left : ℕ
    all_left = longest + (longest + 1) * tail + Trims

    is_budget : (t : ℕ) → Budget t ≡ (longest + 1) * t
    is_budget zero = sym (mul-zero (longest + 1))
    is_budget (suc t) = let e = is_budget t in let f = mul-suc (longest + 1) t in omega (arith, e, f)

    is_passes : (n : ℕ) → Passes n ≡ (2 * longest + 1 + most) * n
    is_passes zero = sym (mul-zero (2 * longest + 1 + most))
    is_passes (suc n) = let e = is_passes n in let f = mul-suc (2 * longest + 1 + most) n in omega (arith, e, f)

    all_read : (cells : List (ℕ × Cell)) → Budget (unknown cells tail) ≤ (longest + 1) * tail
    all_read cells =
        let e = is_budget tail in
        let g = budget_less m w.cluster w.stopped k p longest low_at many tail most kind (unknown cells tail) tail (few_unknown cells tail) in
        omega (arith, e, g)

    all_pass : (g : ℕ) → Passes (above low_at g many + seen c.view) ≤ (2 * longest + 1 + most) * (kind.floors + 1)
    all_pass g =
        let e = is_passes (kind.floors + 1) in
        let x = kind.few g many in
        let y = few_seen m c.view in
        let z = passes_less m w.cluster w.stopped k p longest low_at many tail most kind (above low_at g many + seen c.view) (kind.floors + 1) (omega (arith, x, y)) in
        omega (arith, e, z)

    module _ (way : Way m) (f : asking.Reads m w k p) (such : way.Is f.work.command (length f.work.oids)) (few : length f.work.oids ≤ most) where
      abbrev StageIs : List Out → ℕ → Type 0
      StageIs os n = Reads m w.cluster w.stopped k p longest low_at many tail most kind way s c (asks os) n

      -- the client reads, with these requests outstanding and so much left
      pub record Started : Type 0 where
        pub os : List Out
        pub left : ℕ
        pub stage : StageIs os left
        pub within : length os + left ≤ suc all_left

      abbrev is_such : IsSuch m w.cluster w.stopped k p longest low_at many tail most kind way f.work
      is_such = (such, few)

      abbrev Below' : Task m → Type 0
      Below' t = (o : Out) → Has (task_awaited m p t) o → o.rid < c.next

      abbrev shape : (t : Task m) (os : List Out) → f.work.hand ≡ Doing t → task_asks m p t ≡ os → task_awaited m p t ≡ os → task_again_asks m p t ≡ os → Below' t → Each Away os
          → TaskShape m w.cluster w.stopped k p longest c t os
      shape t os hand e awaited again below away = record {
        stand = a.client_stands;
        work = f.work;
        waits = f.waits;
        hand = hand;
        awaited = awaited;
        again = again;
        asks = e;
        below = each_has (Below c.next) os (λ o g. below o (subst (λ (ys : List Out). Has ys o) (sym awaited) g));
        away = away;
      }

      abbrev for_reads : ℕ
      for_reads = Budget (unknown c.cells tail)

      abbrev for_passes : ℕ
      for_passes = Passes (above low_at f.work.gone_before many + seen c.view)

      abbrev after : ℕ
      after = length f.work.oids + for_passes

      room : (n : ℕ) → n ≤ longest + after → extra kind.trims n ≤ Trims
      room n le = let y = all_pass f.work.gone_before in extra_less kind.trims n (longest + (most + (2 * longest + 1 + most) * (kind.floors + 1))) (omega (arith, le, y, few))

      lows : (ls : List StreamLink) → LastsBelow m w p ls → (o : Oid) → Low p tail (backs_of (link_of o ls))
      lows ls l o = all_low p tail _ (l o)

      check_start : (sy : Sync) (r : ℕ) → sy.work ≡ Checking r → f.work.hand ≡ Doing (Syncing sy) → Below' (Syncing sy) → Started
      unfolding task_asks sync_work_asks
      check_start sy r is hand below =
          let o = out (seqr_id p.seq) r (msg.Check p.epoch sy.oids) in
          let e = ap (λ y. sync_work_asks p sy y) is in
          let left = longest + for_reads + extra kind.trims (longest + after) in
          record {
            os = o ∷ [];
            left = left;
            stage = AsksOne o left (record {
              task = Syncing sy;
              shape = shape (Syncing sy) (o ∷ []) hand e e e below ((λ l. seqr_away m w.cluster w.stopped k p longest p.seq l), tt);
              stage = (subst (λ (z : SyncWork). SyncStage m w.cluster w.stopped k p longest low_at many tail most kind s c.cells after sy z left) (sym is) (here m w k p longest a b u kind most, itself left), is_such);
            });
            within = within_one longest for_reads (extra kind.trims (longest + after)) ((longest + 1) * tail) Trims longest (all_read c.cells) (room (longest + after) (itself (longest + after))) (itself longest);
          }

      settle_start : (sy : Sync) (z : Answer) (j : CellJob) → sy.work ≡ Settling z j → LastsBelow m w p z.lasts → JobStands m w p j → f.work.hand ≡ Doing (Syncing sy) → Below' (Syncing sy) → Started
      unfolding task_asks sync_work_asks
      settle_start sy z j is lasts job hand below =
          let st = job_stage j job in
          let q = one_asked j.place j.place.pos j.work job.work in
          let o = out (unit_id q.0) q.1 q.2 in
          let e = ap (λ y. sync_work_asks p sy y) is ∙ q.3 in
          let left = st.1 + for_reads + extra kind.trims (longest + after) in
          record {
            os = o ∷ [];
            left = left;
            stage = AsksOne o left (record {
              task = Syncing sy;
              shape = shape (Syncing sy) (o ∷ []) hand e e e below ((λ l. unit_away m w.cluster w.stopped k p longest q.0 l), tt);
              stage = (
                subst (λ (y : SyncWork). SyncStage m w.cluster w.stopped k p longest low_at many tail most kind s c.cells after sy y left) (sym is)
                    (record { place = job.place; less = job.less; lasts = lows z.lasts lasts; here = here m w k p longest a b u kind most; sort = st.0; cost = st.1; cell = st.2; few = itself left }),
                is_such,
              );
            });
            within = within_one st.1 for_reads (extra kind.trims (longest + after)) ((longest + 1) * tail) Trims longest (all_read c.cells) (room (longest + after) (itself (longest + after))) st.3;
          }

      probe_start : (sy : Sync) (z : Answer) (j : CellJob) → sy.work ≡ Probing z j → LastsBelow m w p z.lasts → ProbeStands m p j → f.work.hand ≡ Doing (Syncing sy) → Below' (Syncing sy) → Started
      unfolding task_asks sync_work_asks work_asks
      probe_start sy z j is lasts g hand below =
          let e = ap (λ y. sync_work_asks p sy y) is ∙ ap (λ y. work_asks j.place y) g.work in
          let left = for_reads + extra kind.trims after in
          let chain = subst (λ (pl : Place). length pl.chain ≤ longest) (sym g.place) (short_at j.place.pos) in
          record {
            os = looks m w.cluster w.stopped k p longest low_at many tail most kind way j.place g.waits;
            left = left;
            stage = ProbesAll _ left (record {
              sync = sy;
              answer = z;
              pl = j.place;
              epoch = ap (λ (pl : Place). pl.epoch) g.place;
              waits = g.waits;
              told = [];
              asked = g.waits;
              split = refl;
              work = is ∙ ap (λ y. Probing z (works j.place y)) g.work;
              shape = shape (Syncing sy) _ hand e e e below (all_away m w.cluster w.stopped k p longest (look m w.cluster w.stopped k p longest low_at many tail most kind way j.place) g.waits);
              items = sym (append-nil _);
              some = g.asked.some (subst (λ (pl : Place). 0 < length pl.chain) (sym g.place) (some_at j.place.pos));
              units = each_to (λ (v : ℕ × ℕ). StandsIn j.place.chain v.0) _ (λ v i. serving j g.place v.0 i) g.waits g.asked.units;
              once = g.asked.once (subst (λ (pl : Place). Distinct pl.chain) (sym g.place) (u.once j.place.pos));
              lasts = lows z.lasts lasts;
              here = here m w k p longest a b u kind most;
              such = is_such;
              few = itself left;
            });
            within = within_all _ for_reads (extra kind.trims after) ((longest + 1) * tail) Trims longest (all_read c.cells) (room after (omega arith))
                (let n = long_asked (look m w.cluster w.stopped k p longest low_at many tail most kind way j.place) g.waits in let short = g.asked.short in omega (arith, n, short, chain));
          }

      walk_start : (v : Walk) (os : List Oid) → WalkStands m w p f.work v os → f.work.hand ≡ Doing (Walking v os) → Below' (Walking v os) → Started
      unfolding task_asks
      walk_start v os g hand below =
          let j = g.job in
          let st = job_stage j g.stands in
          let q = one_asked j.place j.place.pos j.work g.stands.work in
          let o = out (unit_id q.0) q.1 q.2 in
          let e = ap (λ y. job_asks y) g.has ∙ q.3 in
          let walked = suc (length os) + for_passes in
          let left = st.1 + Budget (unknown v.cells tail) + extra kind.trims walked in
          let fewer = g.fewer in
          record {
            os = o ∷ [];
            left = left;
            stage = AsksOne o left (record {
              task = Walking v os;
              shape = shape (Walking v os) (o ∷ []) hand e e e below ((λ l. unit_away m w.cluster w.stopped k p longest q.0 l), tt);
              stage = (
                subst (λ (y : Option CellJob). WalkStage m w.cluster w.stopped k p longest low_at many tail most kind s v (length os) f.work.gone_before (seen c.view) y left) (sym g.has) (record {
                  place = g.stands.place;
                  less = g.stands.less;
                  low = record { pointers = all_low p tail _ g.pointers; last = g.last };
                  here = here m w k p longest a b u kind most;
                  sort = st.0;
                  cost = st.1;
                  cell = st.2;
                  left = unknown v.cells tail;
                  fewer = λ d. unknown_less v.cells j.place.pos d tail;
                  few = itself left;
                  gone = λ d t. subst (λ n. st.1 + Budget (unknown v.cells tail) + (length os + for_passes) ≤ st.1 + Budget (unknown v.cells tail) + n) (sym (extra_is kind.trims walked t)) (one_fewer st.1 (Budget (unknown v.cells tail)) (length os) for_passes);
                }),
                record { asks = such; lasts = lows f.work.lasts g.lasts; few = few },
              );
            });
            within = within_one st.1 (Budget (unknown v.cells tail)) (extra kind.trims walked) ((longest + 1) * tail) Trims longest (all_read v.cells) (room walked (omega (arith, fewer))) st.3;
          }

      sync_start : (sy : Sync) (y : SyncWork) → sy.work ≡ y → SyncStands m w p y → f.work.hand ≡ Doing (Syncing sy) → Below' (Syncing sy) → Started
      sync_start sy (Checking r) is g hand below = check_start sy r is hand below
      sync_start sy (Settling z j) is g hand below = settle_start sy z j is g.0 g.1 hand below
      sync_start sy (Probing z j) is g hand below = probe_start sy z j is g.0 g.1 hand below

      task_start : (t : Task m) → TaskStands m w p f.work t → f.work.hand ≡ Doing t → Below' t → Started
      task_start (Syncing sy) g hand below = sync_start sy sy.work refl g hand below
      task_start (Walking v os) g hand below = walk_start v os g hand below
      task_start (Appending x y) g hand below = absurd g
      task_start (Trimming x) g hand below = absurd g
      task_start (Copying' x) g hand below = absurd g
      task_start (Reconfiguring x) g hand below = absurd g

      pub started : Started
      started = task_start f.task f.stands f.hand f.below
