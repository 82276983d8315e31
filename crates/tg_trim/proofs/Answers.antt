-- On which answers a trim ends, pauses and goes on.
use Rattle.std.proofs.Common.{◌≡◌, ℕ, ◌<◌, ◌≤◌, Bool, true, false, not, ◌&&◌, ◌||◌, ◌==◌, [], ◌∷◌, length, refl, sym, ap, subst, ◌∙◌, arith}
use Rattle.std.specs.Prelude.{nat_lt, nat_le}
use Rattle.std.proofs.lemmas.Bool.Decides.{nat_tests}
use Rattle.tg_base.specs.Layouts.{Layout}
use Rattle.tg_base.specs.declared.ids.NodeId.{NodeId}
use Rattle.tg_base.specs.declared.msg.Msg.{Msg}
use Rattle.tg_base.specs.Orders.{node_eq}
use Rattle.tg_protocol.specs.Words.{unit_id}
use Rattle.tg_protocol.specs.Requests.{Waits, asked_of, without_wait, awaits, Next, Goes, Learns, Ends}
use Rattle.tg_protocol.specs.Replies.{Reply, IsGone, IsFenced, reply}
use Rattle.tg_protocol.specs.Trimming.{Trims, Trimmed, trims_left, trim_asks, trim_feed, learns_if}
use Rattle.tg_trim.specs.Turns.{trim_fed, trim_fed_if}
use Rattle.tg_trim.specs.Laws.{tells_trim, TrimEndsByAnswers, FencedAbove, TrimPausesByAnswers, trim_passes, GoesBy, TrimWaitsForAnswers, NextWaits}

goes_end : (t : Trims) (e : Trimmed) → ◌≡◌ {A = Next Trims Trimmed} (Goes t) (Ends e) → ⊥
goes_end t e h = cc

goes_learn : (t d : Trims) → ◌≡◌ {A = Next Trims Trimmed} (Goes t) (Learns d) → ⊥
goes_learn t d h = cc

learns_end : (t : Trims) (e : Trimmed) → ◌≡◌ {A = Next Trims Trimmed} (Learns t) (Ends e) → ⊥
learns_end t e h = cc

learns_go : (t d : Trims) → ◌≡◌ {A = Next Trims Trimmed} (Learns t) (Goes d) → ⊥
learns_go t d h = cc

ends_go : (e : Trimmed) (d : Trims) → ◌≡◌ {A = Next Trims Trimmed} (Ends e) (Goes d) → ⊥
ends_go e d h = cc

ends_learn : (e : Trimmed) (d : Trims) → ◌≡◌ {A = Next Trims Trimmed} (Ends e) (Learns d) → ⊥
ends_learn e d h = cc

goes_same : (t d : Trims) → ◌≡◌ {A = Next Trims Trimmed} (Goes t) (Goes d) → d ≡ t
goes_same t d h = cc

learns_same : (t d : Trims) → ◌≡◌ {A = Next Trims Trimmed} (Learns t) (Learns d) → d ≡ t
learns_same t d h = cc

-- Ends.

left_ends : (b : ℕ) (ws : Waits) (n : ℕ) (e : Trimmed) → (trims_left b ws n).to ≡ Ends e → ws ≡ []
left_ends b [] n e h = refl
left_ends b (w ∷ ws) n e h = absurd (goes_end _ _ h)

fence_ends : (b : Bool) (t : Trims) (n : ℕ) (e : Trimmed) → (learns_if {E = Trimmed} b t n).to ≡ Ends e → ⊥
fence_ends true t n e h = learns_end _ _ h
fence_ends false t n e h = goes_end _ _ h

feed_ends : (p : Layout) (t : Trims) (u : ℕ) (x : Reply) (n : ℕ) (e : Trimmed) → (trim_feed p t u x n).to ≡ Ends e → (tells_trim x ≡ true) × (without_wait u t.waits ≡ [])
unfolding trim_feed
feed_ends p t u (IsGone b) n e h = (refl, left_ends t.below (without_wait u t.waits) n e h)
feed_ends p t u (IsFenced f) n e h = absurd (fence_ends (nat_lt p.epoch f) t n e h)
feed_ends p t u _ n e h = absurd (goes_end _ _ h)

fed_ends : (b : Bool) (p : Layout) (t : Trims) (u : ℕ) (m : Msg) (n : ℕ) (e : Trimmed) → (trim_fed_if b p t u m n).to ≡ Ends e →
    (b ≡ true) × (tells_trim (reply m) ≡ true) × (without_wait u t.waits ≡ [])
fed_ends true p t u m n e h = let is = feed_ends p t u (reply m) n e h in (refl, is.0, is.1)
fed_ends false p t u m n e h = absurd (goes_end _ _ h)

pub trim_ends_by_answers : TrimEndsByAnswers
trim_ends_by_answers p t from rid m n e h = fed_ends (awaits (trim_asks p t) from rid) p t from.num m n e h

-- Pauses.

left_pauses : (b : ℕ) (ws : Waits) (n : ℕ) (d : Trims) → (trims_left b ws n).to ≡ Learns d → ⊥
left_pauses b [] n d h = ends_learn _ _ h
left_pauses b (w ∷ ws) n d h = goes_learn _ _ h

later : (epoch e : ℕ) → nat_lt epoch e ≡ true → epoch < e
later epoch e h = grind (arith, nat_tests)

fence_pauses : (b : Bool) (epoch e : ℕ) (t : Trims) (n : ℕ) (d : Trims) → nat_lt epoch e ≡ b → (learns_if {E = Trimmed} b t n).to ≡ Learns d → (epoch < e) × (d ≡ t)
fence_pauses true epoch e t n d is h = (later epoch e is, learns_same t d h)
fence_pauses false epoch e t n d is h = absurd (goes_learn _ _ h)

feed_pauses : (p : Layout) (t : Trims) (u : ℕ) (x : Reply) (n : ℕ) (d : Trims) → (trim_feed p t u x n).to ≡ Learns d → FencedAbove p.epoch x × (d ≡ t)
unfolding trim_feed
feed_pauses p t u (IsGone b) n d h = absurd (left_pauses t.below (without_wait u t.waits) n d h)
feed_pauses p t u (IsFenced e) n d h = fence_pauses (nat_lt p.epoch e) p.epoch e t n d refl h
feed_pauses p t u _ n d h = absurd (goes_learn _ _ h)

fed_pauses : (b : Bool) (p : Layout) (t : Trims) (u : ℕ) (m : Msg) (n : ℕ) (d : Trims) → (trim_fed_if b p t u m n).to ≡ Learns d →
    (b ≡ true) × FencedAbove p.epoch (reply m) × (d ≡ t)
fed_pauses true p t u m n d h = let is = feed_pauses p t u (reply m) n d h in (refl, is.0, is.1)
fed_pauses false p t u m n d h = absurd (goes_learn _ _ h)

pub trim_pauses_by_answers : TrimPausesByAnswers
trim_pauses_by_answers p t from rid m n d h = fed_pauses (awaits (trim_asks p t) from rid) p t from.num m n d h

-- Going on: what it then is.

abbrev Left : Trims → ℕ → Trims
Left t u = record { below = t.below; waits = without_wait u t.waits }

left_goes : (b : ℕ) (ws : Waits) (n : ℕ) (d : Trims) → (trims_left b ws n).to ≡ Goes d → d ≡ record { below = b; waits = ws }
left_goes b [] n d h = absurd (ends_go _ _ h)
left_goes b (w ∷ ws) n d h = goes_same _ d h

not_later : (epoch e : ℕ) → nat_lt epoch e ≡ false → nat_le e epoch ≡ true
not_later epoch e h = grind (arith, nat_tests)

fence_goes : (b : Bool) (epoch e : ℕ) (t : Trims) (n : ℕ) (d : Trims) → nat_lt epoch e ≡ b → (learns_if {E = Trimmed} b t n).to ≡ Goes d → (nat_le e epoch ≡ true) × (d ≡ t)
fence_goes true epoch e t n d is h = absurd (learns_go _ _ h)
fence_goes false epoch e t n d is h = (not_later epoch e is, goes_same t d h)

pick : Bool → Trims → ℕ → Trims
pick true t u = record { below = t.below; waits = without_wait u t.waits }
pick false t u = t

feed_goes : (p : Layout) (t : Trims) (u : ℕ) (x : Reply) (n : ℕ) (d : Trims) → (trim_feed p t u x n).to ≡ Goes d → ((tells_trim x || trim_passes p x) ≡ true) × (d ≡ pick (tells_trim x) t u)
unfolding trim_feed pick
feed_goes p t u (IsGone b) n d h = (refl, left_goes t.below (without_wait u t.waits) n d h)
feed_goes p t u (IsFenced e) n d h = fence_goes (nat_lt p.epoch e) p.epoch e t n d refl h
feed_goes p t u _ n d h = (refl, goes_same t d h)

fed_goes : (b : Bool) (p : Layout) (t : Trims) (u : ℕ) (m : Msg) (n : ℕ) (d : Trims) → (trim_fed_if b p t u m n).to ≡ Goes d →
    ((not b || (tells_trim (reply m) || trim_passes p (reply m))) ≡ true) × (d ≡ pick (b && tells_trim (reply m)) t u)
unfolding pick
fed_goes true p t u m n d h = feed_goes p t u (reply m) n d h
fed_goes false p t u m n d h = (refl, goes_same t d h)

picks_below : (b : Bool) (t : Trims) (u : ℕ) → (pick b t u).below ≡ t.below
unfolding pick
picks_below true t u = refl
picks_below false t u = refl

-- where a unit's answer is awaited, without that unit fewer are

no_more : (u : ℕ) (ws : Waits) → length (without_wait u ws) ≤ length ws
no_more u [] = omega arith
no_more u (w ∷ ws) = grind (arith, no_more u ws)

same_num : (a b : NodeId) → node_eq a b ≡ true → (a.num == b.num) ≡ true
unfolding node_eq
same_num a b h = grind arith

fewer : (msg : Msg) (ws : Waits) (from : NodeId) (rid : ℕ) → awaits (asked_of unit_id msg ws) from rid ≡ true → length (without_wait from.num ws) < length ws
fewer msg [] from rid h = absurd cc
fewer msg (w ∷ ws) from rid h = grind (arith, fewer msg ws from rid, no_more from.num ws, same_num (unit_id w.0) from)

goes_by : (b : Bool) (t : Trims) (u : ℕ) (d : Trims) → (b ≡ true → length (without_wait u t.waits) < length t.waits) → d ≡ pick b t u → GoesBy b t u d
unfolding pick
goes_by true t u d h e = (ap (λ (z : Trims). z.waits) e, subst (λ (z : Trims). length z.waits < length t.waits) (sym e) (h refl))
goes_by false t u d h e = ap (λ (z : Trims). z.waits) e

and_true : (a b : Bool) → (a && b) ≡ true → a ≡ true
and_true true b h = refl
and_true false b h = absurd cc

passed : (a b c : Bool) → (a || (b || c)) ≡ true → b ≡ false → (a || c) ≡ true
passed true b c h e = refl
passed false true c h e = absurd cc
passed false false c h e = h

pub trim_waits_for_answers : TrimWaitsForAnswers
trim_waits_for_answers = record {
  same = λ p t from rid m n d h.
      let is = fed_goes (awaits (trim_asks p t) from rid) p t from.num m n d h in
      ap (λ (z : Trims). z.below) is.1 ∙ picks_below (awaits (trim_asks p t) from rid && tells_trim (reply m)) t from.num;
  told = λ p t from rid m n d h.
      let is = fed_goes (awaits (trim_asks p t) from rid) p t from.num m n d h in
      goes_by (awaits (trim_asks p t) from rid && tells_trim (reply m)) t from.num d
      (λ both. fewer _ t.waits from rid (and_true (awaits (trim_asks p t) from rid) (tells_trim (reply m)) both)) is.1;
  passed = λ p t from rid m n d h e.
      let is = fed_goes (awaits (trim_asks p t) from rid) p t from.num m n d h in
      passed (not (awaits (trim_asks p t) from rid)) (tells_trim (reply m)) (trim_passes p (reply m)) is.0 e;
}

-- it waits for a unit

left_waits : (b : ℕ) (ws : Waits) (n : ℕ) → NextWaits (trims_left b ws n).to
left_waits b [] n = tt
left_waits b (w ∷ ws) n = omega arith

fence_waits : (b : Bool) (t : Trims) (n : ℕ) → 1 ≤ length t.waits → NextWaits (learns_if {E = Trimmed} b t n).to
fence_waits true t n h = tt
fence_waits false t n h = h

feed_waits : (p : Layout) (t : Trims) (u : ℕ) (x : Reply) (n : ℕ) → 1 ≤ length t.waits → NextWaits (trim_feed p t u x n).to
unfolding trim_feed
feed_waits p t u (IsGone b) n h = left_waits t.below (without_wait u t.waits) n
feed_waits p t u (IsFenced e) n h = fence_waits (nat_lt p.epoch e) t n h
feed_waits p t u _ n h = h

fed_if_waits : (b : Bool) (p : Layout) (t : Trims) (u : ℕ) (m : Msg) (n : ℕ) → 1 ≤ length t.waits → NextWaits (trim_fed_if b p t u m n).to
fed_if_waits true p t u m n h = feed_waits p t u (reply m) n h
fed_if_waits false p t u m n h = h

pub fed_waits : (p : Layout) (t : Trims) (from : NodeId) (rid : ℕ) (m : Msg) (n : ℕ) → 1 ≤ length t.waits → NextWaits (trim_fed p t from rid m n).to
fed_waits p t from rid m n h = fed_if_waits (awaits (trim_asks p t) from rid) p t from.num m n h
