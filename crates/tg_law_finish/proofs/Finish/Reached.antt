-- A settling goes through worlds to which runs come. Where trims are in time in each of them, what a unit is asked to
-- trim is less than 2 ^ 62.
use Rattle.std.proofs.Common.{◌≡◌, ◌⊎◌, ℕ, ◌+◌, ◌^◌, ◌<◌, ◌≤◌, [], ◌∷◌, ◌++◌, Bool, true, false, refl, ap, ◌∙◌, sym, subst, inl, inr, arith, None}
use Rattle.std.specs.Prelude.{nat_lt, max}
use Rattle.std.proofs.lemmas.Bool.Decides.{nat_tests}
use Rattle.tg_base.specs.Clusters.{Header}
use Rattle.tg_base.specs.Layouts.{Layout}
use Rattle.tg_base.specs.declared.ids.NodeId.{NodeId}
use Rattle.tg_base.specs.declared.ids.Role.{Role}
use Rattle.tg_base.specs.declared.ids.Role.TheVariants as role
use Rattle.tg_base.specs.declared.msg.Msg.{Msg}
use Rattle.tg_base.specs.declared.msg.Msg.TheVariants as msg
use Rattle.tg_base.specs.declared.packet.Packet.{Packet}
use Rattle.tg_kind.specs.Meaning.{Meaning}
use Rattle.tg_model.specs.declared.command.Event.TheVariants.{Deliver, Tick}
use Rattle.tg_model.specs.Kinds.{EventOf}
use Rattle.tg_protocol.specs.Words.{too_far}
use Rattle.tg_protocol.specs.Worlds.{World, start, seqr, latest, client_turned, runs, count_of, ticks, ticks_if, happens, limit_of}
use Rattle.tg_protocol.specs.Runs.{Move, Moves, Takes, Reaches, IsDeclared, LawfulEvent, LawfulMove, run}
use Rattle.tg_law_layouts.specs.Moves.After.{after}
use Rattle.tg_law_layouts.proofs.Moves.Lists.{contained}
use Rattle.tg_law_layouts.proofs.Moves.Members.{Has, has_either, has_contained, has_got}
use Rattle.tg_law_layouts.proofs.Moves.Scripts.{run_both}
use Rattle.tg_law_layouts.proofs.Layouts.Deciding.{latest_decided, layouts_are_sound}
use Rattle.tg_law_headline.specs.Issues.Issues.{TrimsInTime}
use Rattle.tg_law_finish.proofs.Finish.Below.{settled_under}
use Rattle.tg_law_finish.proofs.Finish.Nets.{happens_counts}
use Rattle.tg_law_finish.proofs.Finish.Settles.{Facts}
use Rattle.tg_law_finish.proofs.Finish.Sized.{all_sized, counted}
use Rattle.tg_law_finish.proofs.Finish.Standing.{next_near}

-- what is asked to be trimmed is near
abbrev pub NearFloor : Msg → Type 0
NearFloor (msg.Trim e b) = too_far b ≡ false
NearFloor x = Unit {0}

pub near_floor : (x : Msg) → ((e b : ℕ) → x ≡ msg.Trim e b → too_far b ≡ false) → NearFloor x
near_floor (msg.Trim e b) f = f e b refl
near_floor x f = tt

nearer : (a b n : ℕ) → a < 2 ^ 62 → too_far b ≡ false → n ≤ max a b → too_far n ≡ false
nearer a b n e f le = grind (arith, nat_tests, e, f, le)

left_most : (a b : ℕ) → a ≤ max a b
left_most a b = grind arith

right_most : (a b : ℕ) → b ≤ max a b
right_most a b = grind arith

is_less : (a b : ℕ) → nat_lt a b ≡ true → a < b
is_less a b e = grind arith

not_less : (a b : ℕ) → nat_lt a b ≡ false → b ≤ a
not_less a b e = grind arith

module _ (m : Meaning) (h : Header) where
  floor_here : (zs : Moves m) → Reaches m h zs (after m h zs) → TrimsInTime m (after m h zs) → (x : Packet) (e b : ℕ) → Has (after m h zs).packets x → x.msg ≡ msg.Trim e b → too_far b ≡ false
  floor_here zs r trims x e b has is =
      nearer q.start s b (layouts_are_sound m h zs w r q.epoch q (latest_decided m h zs w r).decided).near (next_near m h zs w r) (by (nat_lt top b) refl)
    where
      w : World m
      w = after m h zs

      q : Layout
      q = latest m (after m h zs)

      s : ℕ
      s = (seqr m (after m h zs) (latest m (after m h zs)).seq).next

      top : ℕ
      top = max (latest m (after m h zs)).start (seqr m (after m h zs) (latest m (after m h zs)).seq).next

      by : (d : Bool) → nat_lt top b ≡ d → b ≤ top
      by true l =
          let g = trims.settled x e b top (contained w.packets x has) is (is_less top b l) in
          let less = settled_under m h zs r top (left_most q.start s) (λ i. right_most q.start s) trims top g.cell g.settled in
          absurd (omega (arith, less))
      by false l = not_less top b l

  -- a run comes to it
  abbrev pub Reached : World m → Type 0
  Reached v = (zs : Moves m) × Reaches m h zs v

  pub floor_near : (zs : Moves m) (v : World m) → Reaches m h zs v → TrimsInTime m v → (x : Packet) (e b : ℕ) → Has v.packets x → x.msg ≡ msg.Trim e b → too_far b ≡ false
  floor_near zs v r = subst (λ (u : World m). Reaches m h zs u → TrimsInTime m u → (x : Packet) (e b : ℕ) → Has u.packets x → x.msg ≡ msg.Trim e b → too_far b ≡ false) (sym r.goes.is) (floor_here zs) r

  -- A step in which no limit was reached.

  pub below_limit : (w : World m) → limit_of m w ≡ None → w.steps < 200000
  unfolding limit_of
  below_limit w e = grind arith

  ticks_count : (w : World m) (n : ℕ) (r : Role) → (ticks m w n r).steps ≡ w.steps
  unfolding client_turned
  ticks_count w n role.Unit = refl
  ticks_count w n role.Layout = refl
  ticks_count w n role.Seqr = refl
  ticks_count w n role.Client = refl

  ticks_if_count : (b : Bool) (w : World m) (n : NodeId) → (ticks_if m b w n).steps ≡ w.steps
  ticks_if_count true w n = ticks_count w n.num n.role
  ticks_if_count false w n = refl

  pub tick_counts : (w : World m) (n : NodeId) → (happens m w (Tick n)).steps ≡ w.steps + 1
  unfolding happens
  tick_counts w n = ap (λ (i : ℕ). i + 1) (ticks_if_count (runs m w n) w n)

  pub goes : (w : World m) (e : EventOf m) → LawfulEvent m (start m h).cluster e → w.steps < 200000 → (happens m w e).steps ≡ w.steps + 1 → Reached w → Reached (happens m w e)
  unfolding run
  goes w e lawful less count (zs, r) = (
    zs ++ Takes e ∷ [],
    record {
      header = r.header;
      goes = record {
        lawful = λ x c. by x (has_either zs (Takes e ∷ []) x (has_contained (zs ++ Takes e ∷ []) x c));
        is = ap (λ (v : World m). happens m v e) r.goes.is ∙ sym (run_both m zs (Takes e ∷ []) (start m h));
        few = omega (arith, less, count);
      };
    },
  )
    where
      by : (x : Move m) → Has zs x ⊎ Has (Takes e ∷ []) x → LawfulMove m (start m h).cluster x
      by x (inl i) = r.goes.lawful x (contained zs x i)
      by x (inr (inl i)) = subst (λ (y : Move m). LawfulMove m (start m h).cluster y) (sym i) lawful
      by x (inr (inr i)) = absurd i

  on_long : (w : World m) (n : NodeId) → runs m w n ≡ true → n.num < count_of m w n.role
  on_long w n e = grind arith

  pub declared : (w : World m) (n : NodeId) → Reached w → runs m w n ≡ true → IsDeclared (start m h).cluster n
  unfolding start
  declared w n (zs, r) on = subst (λ (i : ℕ). n.num < i) (counted m h w n.role (all_sized m h zs w r)) (on_long w n on)

  -- what a settling may rest on
  pub reached_facts : ((zs : Moves m) (v : World m) → Reaches m h zs v → TrimsInTime m v) → Facts m Reached (λ s y. NearFloor y)
  reached_facts in_time = record {
    delivered = λ w i free f. goes w (Deliver i) tt (below_limit w free) (happens_counts m w i) f;
    ticked = λ w n on free f. goes w (Tick n) (declared w n f on) (below_limit w free) (tick_counts w n) f;
    fair = λ w i p f e. near_floor p.msg (λ n b is. floor_near f.0 w f.1 (in_time f.0 w f.1) p n b (has_got w.packets i p e) is);
  }
