-- A settling ends a command that waits in a sync or in a walk, whatever is trimmed.
use Rattle.std.proofs.Common.{◌≡◌, ℕ, zero, suc, ◌+◌, ◌-◌, ◌*◌, ◌≤◌, refl, ap, inl, arith}
use Rattle.std.proofs.Math.Nat.{mul-suc, mul-zero}
use Rattle.std.proofs.lemmas.Nat.{mul-le}
use Rattle.std.specs.Prelude.{length, true}
use Rattle.tg_base.specs.Layouts.{Layout}
use Rattle.tg_kind.specs.Meaning.{Meaning}
use Rattle.tg_protocol.specs.Worlds.{World, unit, seqr, client}
use Rattle.tg_law_finish.specs.Finish.Commands.{is_ask}
use Rattle.tg_law_finish.specs.Finish.Makes.{makes}
use Rattle.tg_law_finish.specs.Finish.Rescues.{is_rescue}
use Rattle.tg_law_finish.specs.Finish.Walks.{passes_of, floors}
use Rattle.tg_law_finish.proofs.Finish.Askers.{Kind}
use Rattle.tg_law_finish.proofs.Finish.Asking.{Walkable, Reads}
use Rattle.tg_law_finish.proofs.Finish.Both.{AsksStage, asks_talk, MakesStage, makes_talk}
use Rattle.tg_law_finish.proofs.Finish.Ending.{round_long}
use Rattle.tg_law_finish.proofs.Finish.Lines.{asks}
use Rattle.tg_law_finish.proofs.Finish.Makers.{making_way}
use Rattle.tg_law_finish.proofs.Finish.Nets.{net}
use Rattle.tg_law_finish.proofs.Finish.Readers.{asking_way}
use Rattle.tg_law_finish.proofs.Finish.Rescuers.{rescuing_way}
use Rattle.tg_law_finish.proofs.Finish.Rescuing.{round, for_rounds, RescueStage, first_stage, rescue_talk}
use Rattle.tg_law_finish.proofs.Finish.Rounds.{finishes_from}
use Rattle.tg_law_finish.proofs.Finish.Starts.{started}
use Rattle.tg_law_finish.proofs.Finish.Waited.{whole, for_trims, pays}
use Rattle.tg_law_finish.proofs.Finish.Waits.{Ends, world_kind, waits_for}
use Rattle.tg_law_finish.proofs.Finish.Working.{Working, Lawful}

-- with o requests outstanding, and so much left
pub reads_few : (l t c z y o x e : ℕ) → o + x ≤ suc (c + (c + 1) * t + z) → 2 * ((c + 1) + z) ≡ y → ((o + o) + (l + l)) + ((x + e) + (x + e)) ≤ 2 * ((c + 1) * t) + 2 * l + y + 2 * e
reads_few l t c z y o x e le pay = omega (arith, le, pay)

rescues_few : (l j r c a o x : ℕ) → a ≡ r * j + suc c → o + x ≤ r → ((o + o) + (l + l)) + ((x + a) + (x + a)) ≤ (2 * l + 2 * r) * (j + 1) + 2 * (c + 1)
rescues_few l j r c a o x is less =
    let e = mul-suc (2 * l + 2 * r) j in
    let f = ap (λ i. (2 * l + 2 * r) * i) (plus j) in
    let g = twice l r j in
    omega (arith, is, less, e, f, g)
  where
    plus : (n : ℕ) → n + 1 ≡ suc n
    plus n = omega arith

    twice : (l r j : ℕ) → r * j + r * j ≤ (2 * l + 2 * r) * j
    twice l r j = let a = mul-le (2 * r) j (2 * l + 2 * r) j (omega arith) (omega arith) in omega (arith, a)

module _ (m : Meaning) (w : World m) (k : ℕ) (p : Layout) (longest : ℕ) (a : Working m w k p) (b : Lawful m w p longest) (u : Walkable m w p) where
  abbrev tail : ℕ
  tail = (seqr m w p.seq).next

  abbrev low_at : ℕ → ℕ
  low_at n = (unit m w n).low

  abbrev many : ℕ
  many = length w.units

  abbrev layouts : ℕ
  layouts = (client m w k).layouts

  abbrev kind : Kind (λ n. (unit m w n).low) p
  kind = world_kind m w k p longest a b u

  abbrev Trims : ℕ → ℕ
  Trims most = for_trims m w.cluster w.stopped k p longest low_at many tail most kind

  abbrev EndsIn : ℕ → Type 0
  EndsIn n = Ends m w k p longest a b u n

  pub asks_finish_by : (f : Reads m w k p) → is_ask m f.work.command ≡ true → EndsIn (2 * ((longest + 1) * tail) + 2 * layouts + passes_of longest (length f.work.oids) (floors m w))
  asks_finish_by f such none =
      let s = length f.work.oids in
      let x = started m w k p longest a b u s (asking_way m) f such (whole s) in
      let few = reads_few layouts tail longest (Trims s) (passes_of longest s (floors m w)) (length x.os) x.left 0 x.within (pays longest s (floors m w)) in
      finishes_from m w.cluster w.stopped k p _ (asks_talk m w.cluster w.stopped k p longest low_at many tail s kind) w _ a.on_way refl refl
      (waits_for m w k p longest a b u x.os (AsksStage m w.cluster w.stopped k p longest low_at many tail s kind) x.left _ x.stage (omega (arith, few))) none

  pub makes_finish_by : (f : Reads m w k p) → makes m f.work.command ≡ true
      → EndsIn (2 * ((longest + 1) * tail) + 2 * layouts + passes_of longest (length f.work.oids) (floors m w) + 2 * (longest + 1))
  makes_finish_by f such none =
      let s = length f.work.oids in
      let x = started m w k p longest a b u s (making_way m) f such (whole s) in
      let few = reads_few layouts tail longest (Trims s) (passes_of longest s (floors m w)) (length x.os) x.left (longest + 1) x.within (pays longest s (floors m w)) in
      finishes_from m w.cluster w.stopped k p _ (makes_talk m w.cluster w.stopped k p longest low_at many tail s kind) w _ a.on_way refl refl
      (waits_for m w k p longest a b u x.os (MakesStage m w.cluster w.stopped k p longest low_at many tail s kind) (x.left + (longest + 1)) _ (inl (record { left = x.left; stage = x.stage; few = omega arith })) few) none

  -- Streams may join.

  rounds_few : (j most : ℕ) (wide : 128 ≤ most) → for_rounds m w.cluster w.stopped k p longest low_at many tail most kind wide j ≡ suc (round m w.cluster w.stopped k p longest low_at many tail most kind wide) * j + suc longest
  rounds_few zero most wide = let e = mul-zero (suc (round m w.cluster w.stopped k p longest low_at many tail most kind wide)) in omega (arith, e)
  rounds_few (suc j) most wide = let e = rounds_few j most wide in let f = mul-suc (suc (round m w.cluster w.stopped k p longest low_at many tail most kind wide)) j in omega (arith, e, f)

  pub rescues_finish_by : (f : Reads m w k p) → is_rescue m f.work.command ≡ true → length f.work.oids ≤ 128
      → EndsIn ((2 * ((longest + 1) * tail) + 2 * layouts + passes_of longest 128 (floors m w)) * ((128 - length f.work.oids) + 1) + 2 * (longest + 1))
  rescues_finish_by f such few none =
      let s = length f.work.oids in
      let most : ℕ = 128 in
      let j = 128 - s in
      let wide : 128 ≤ 128 = omega arith in
      let r = suc (round m w.cluster w.stopped k p longest low_at many tail most kind wide) in
      let is = round_long m w.cluster w.stopped k p longest low_at many tail most kind wide in
      let x = started m w k p longest a b u most (rescuing_way m j) f (such, room s) few in
      let within = x.within in
      let enough = rescues_few layouts j r longest (for_rounds m w.cluster w.stopped k p longest low_at many tail most kind wide j) (length x.os) x.left (rounds_few j most wide) (omega (arith, within, is)) in
      let whole = ap (λ i. i * (j + 1)) (both layouts r ((longest + 1) * tail) longest (Trims most) (passes_of longest 128 (floors m w)) is (pays longest 128 (floors m w))) in
      finishes_from m w.cluster w.stopped k p _ (rescue_talk m w.cluster w.stopped k p longest low_at many tail most kind wide j) w _ a.on_way refl refl
      (waits_for m w k p longest a b u x.os (RescueStage m w.cluster w.stopped k p longest low_at many tail most kind wide j) (x.left + for_rounds m w.cluster w.stopped k p longest low_at many tail most kind wide j) _
      (first_stage m w.cluster w.stopped k p longest low_at many tail most kind wide j (net m w) (client m w k) (asks x.os) _ (record { left = x.left; stage = x.stage; few = omega arith }))
      (omega (arith, enough, whole))) none
    where
      room : (n : ℕ) → 128 ≤ n + (128 - n)
      room n = omega arith

      both : (l r x c z y : ℕ) → r ≡ x + (c + 1) + z → 2 * ((c + 1) + z) ≡ y → 2 * l + 2 * r ≡ 2 * x + 2 * l + y
      both l r x c z y e pay = omega (arith, e, pay)
