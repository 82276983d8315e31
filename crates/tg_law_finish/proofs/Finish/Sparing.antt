-- What is fair where a copy's requests are delivered, of worlds to which runs come and in which the layout was decided.
use Rattle.std.proofs.Common.{◌≡◌, ℕ, ◌+◌, ◌^◌, ◌<◌, ◌≤◌, [], ◌∷◌, Bool, true, false, refl, sym, subst, inl, inr, arith, Some}
use Rattle.std.proofs.lemmas.Bool.Decides.{nat_tests}
use Rattle.std.specs.Prelude.{nat_lt, max, slice_get}
use Rattle.tg_base.specs.Clusters.{Header}
use Rattle.tg_base.specs.Layouts.{Layout}
use Rattle.tg_base.specs.Units.{has}
use Rattle.tg_base.specs.declared.cell.Cell.{Cell}
use Rattle.tg_base.specs.declared.msg.Msg.TheVariants as msg
use Rattle.tg_base.specs.declared.packet.Packet.{Packet}
use Rattle.tg_kind.specs.Meaning.{Meaning}
use Rattle.tg_model.specs.declared.command.Event.TheVariants.{Deliver, Tick}
use Rattle.tg_model.specs.Kinds.{EventOf}
use Rattle.tg_protocol.specs.Words.{cell_at, cell_eq, too_far}
use Rattle.tg_protocol.specs.Layouts.{chain_of}
use Rattle.tg_protocol.specs.Worlds.{World, start, unit, seqr, latest, happens}
use Rattle.tg_protocol.specs.Runs.{Move, Moves, Takes, Reaches, Later, LawfulEvent, LawfulMove, most_steps, run}
use Rattle.tg_law_layouts.specs.Layouts.Decisions.{IsOfDecided}
use Rattle.tg_law_layouts.specs.Moves.After.{after}
use Rattle.tg_law_layouts.proofs.Layouts.Deciding.{latest_decided, layouts_are_sound, decided_stays}
use Rattle.tg_law_layouts.proofs.Moves.Members.{Has, has_contained, has_got}
use Rattle.tg_law_cells.proofs.Entries.Archive.{log_is_settled, trimmed_is_in_log}
use Rattle.tg_law_headline.specs.Trims.Spare.{TrimsAre}
use Rattle.tg_law_finish.proofs.Finish.Below.{settled_under}
use Rattle.tg_law_finish.proofs.Finish.Copyings.{CopyFair}
use Rattle.tg_law_finish.proofs.Finish.Highs.{high_near}
use Rattle.tg_law_finish.proofs.Finish.Nets.{net, happens_counts}
use Rattle.tg_law_finish.proofs.Finish.Reached.{Reached, near_floor, floor_near, below_limit, tick_counts, goes, declared}
use Rattle.tg_law_finish.proofs.Finish.Settles.{Facts}
use Rattle.tg_law_finish.proofs.Finish.Spares.{agrees, copy_told}
use Rattle.tg_law_finish.proofs.Finish.Standing.{next_near, cluster_is}
use Rattle.tg_law_finish.proofs.Finish.Stores.{cell_itself}
use Rattle.tg_law_finish.proofs.Finish.Stripes.{InStripe}

near_top : (a b n : ℕ) → a < 2 ^ 62 → too_far b ≡ false → n ≤ max a b → too_far n ≡ false
near_top a b n e f le = grind (arith, nat_tests, e, f, le)

near_high : (n : ℕ) → n < 2 ^ 62 → too_far n ≡ false
near_high n less = grind (arith, nat_tests, less)

left_most : (a b : ℕ) → a ≤ max a b
left_most a b = grind arith

right_most : (a b : ℕ) → b ≤ max a b
right_most a b = grind arith

is_less : (a b : ℕ) → nat_lt a b ≡ true → a < b
is_less a b e = grind arith

not_less : (a b : ℕ) → nat_lt a b ≡ false → b ≤ a
not_less a b e = grind arith

module _ (m : Meaning) (h : Header) where
  -- No unit has trimmed as far as 2 ^ 62.

  low_here : (zs : Moves m) → Reaches m h zs (after m h zs) → TrimsAre m h zs (after m h zs) → (u : ℕ) → too_far (unit m (after m h zs) u).low ≡ false
  low_here zs r trims u = near_top q.start s (unit m (after m h zs) u).low (layouts_are_sound m h zs (after m h zs) r q.epoch q (latest_decided m h zs (after m h zs) r).decided).near (next_near m h zs (after m h zs) r) (by (nat_lt top (unit m (after m h zs) u).low) refl)
    where
      q : Layout
      q = latest m (after m h zs)

      s : ℕ
      s = (seqr m (after m h zs) (latest m (after m h zs)).seq).next

      top : ℕ
      top = max (latest m (after m h zs)).start (seqr m (after m h zs) (latest m (after m h zs)).seq).next

      by : (d : Bool) → nat_lt top (unit m (after m h zs) u).low ≡ d → (unit m (after m h zs) u).low ≤ top
      by true l =
          let g = trimmed_is_in_log m h zs (after m h zs) r trims.were.safe u top (is_less top (unit m (after m h zs) u).low l) in
          let settled = (log_is_settled m h zs (after m h zs) r trims.were.safe).settled top g.0 g.1 in
          let less = settled_under m h zs r top (left_most q.start s) (λ i. right_most q.start s) trims.in_time top g.0 settled in
          absurd (omega (arith, less))
      by false l = not_less top (unit m (after m h zs) u).low l

  low_near : (zs : Moves m) (v : World m) → Reaches m h zs v → TrimsAre m h zs v → (u : ℕ) → too_far (unit m v u).low ≡ false
  low_near zs v r = subst (λ (w : World m). Reaches m h zs w → TrimsAre m h zs w → (u : ℕ) → too_far (unit m w u).low ≡ false) (sym r.goes.is) (low_here zs) r

  -- The spare has no other cell than is copied.
  module _ (p : Layout) (u r st : ℕ) (off : (n : ℕ) → InStripe p r st n → Has (chain_of p n) u → ⊥) (stays : has p.gone u ≡ false) where
    same_here : (zs : Moves m) → Reaches m h zs (after m h zs) → IsOfDecided m (after m h zs) p → (x : Packet) (pos : ℕ) (c d : Cell) → Has (after m h zs).packets x → x.msg ≡ msg.Copy p.epoch pos c → InStripe p r st pos
        → (unit m (after m h zs) u).epoch ≤ p.epoch → cell_at (unit m (after m h zs) u).cells pos ≡ Some d → cell_eq d c ≡ true
    same_here zs reach decided x pos c d sent is i up at =
        let t = copy_told m h zs reach p decided x p.epoch pos c sent is refl in
        let e = agrees m h zs reach p decided u pos d (off pos i) stays up at t.0 c t.1 t.2 in
        subst (λ (y : Cell). cell_eq y c ≡ true) e (cell_itself c)

    same_near : (zs : Moves m) (v : World m) → Reaches m h zs v → IsOfDecided m v p → (x : Packet) (pos : ℕ) (c d : Cell) → Has v.packets x → x.msg ≡ msg.Copy p.epoch pos c → InStripe p r st pos
        → (unit m v u).epoch ≤ p.epoch → cell_at (unit m v u).cells pos ≡ Some d → cell_eq d c ≡ true
    same_near zs v reach = subst (λ (w : World m). Reaches m h zs w → IsOfDecided m w p → (x : Packet) (pos : ℕ) (c d : Cell) → Has w.packets x → x.msg ≡ msg.Copy p.epoch pos c → InStripe p r st pos
        → (unit m w u).epoch ≤ p.epoch → cell_at (unit m w u).cells pos ≡ Some d → cell_eq d c ≡ true) (sym reach.goes.is) (same_here zs) reach

    -- a run comes to it, and the layout was decided
    abbrev pub Lasting : World m → Type 0
    Lasting v = Reached m h v × IsOfDecided m v p

    -- A step.

    later : (w : World m) (e : EventOf m) → LawfulEvent m w.cluster e → (happens m w e).steps ≤ most_steps → Later m w (happens m w e)
    unfolding run
    later w e lawful few = (Takes e ∷ [], record { lawful = λ x c. by x (has_contained (Takes e ∷ []) x c); is = refl; few = few })
      where
        by : (x : Move m) → Has (Takes e ∷ []) x → LawfulMove m w.cluster x
        by x (inl i) = subst (λ (y : Move m). LawfulMove m w.cluster y) (sym i) lawful
        by x (inr i) = absurd i

    steps : (w : World m) (e : EventOf m) → LawfulEvent m (start m h).cluster e → w.steps < 200000 → (happens m w e).steps ≡ w.steps + 1 → Lasting w → Lasting (happens m w e)
    unfolding start
    steps w e lawful less count (f, decided) =
        let cluster = cluster_is m h f.0 w f.1 in
        let l = later w e (subst (λ (y : Header). LawfulEvent m y e) (sym cluster) lawful) (omega (arith, less, count)) in
        (goes m h w e lawful less count f, (decided_stays m h f.0 w (happens m w e) f.1 l).stays p.epoch p decided)

    pub copy_facts : ((zs : Moves m) (v : World m) → Reaches m h zs v → TrimsAre m h zs v) → Facts m Lasting (λ s x. CopyFair m p u r st s x)
    copy_facts trims = record {
      delivered = λ w i free f. steps w (Deliver i) tt (below_limit m h w free) (happens_counts m w i) f;
      ticked = λ w n on free f. steps w (Tick n) (declared m h w n f.0 on) (below_limit m h w free) (tick_counts m h w n) f;
      fair = λ w i x f e. fair w i x f e;
    }
      where
        fair : (w : World m) (i : ℕ) (x : Packet) → Lasting w → slice_get w.packets i ≡ Some x → CopyFair m p u r st (net m w) x.msg
        fair w i x (f, decided) e =
            let are = trims f.0 w f.1 in
            let sent = has_got w.packets i x e in
            record {
              floor = near_floor x.msg (λ n b is. floor_near m h f.0 w f.1 are.in_time x n b sent is);
              high = near_high (unit m w u).high (high_near m h f.0 w f.1 are.in_time u);
              low = low_near f.0 w f.1 are u;
              same = λ pos c d is g up at. same_near f.0 w f.1 decided x pos c d sent is g up at;
            }
