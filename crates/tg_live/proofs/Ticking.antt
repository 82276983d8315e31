-- Ticks of all nodes, and rounds of them.
use Rattle.std.proofs.Common.{◌≡◌, ◌∙◌, ◌==◌, ℕ, suc, Bool, true, false, List, [], ◌∷◌, length, Option, Some, None, refl, sym, ap, subst}
use Rattle.tg_base.specs.Clusters.{Header}
use Rattle.tg_base.specs.declared.fault.Which.{Which}
use Rattle.tg_base.specs.declared.ids.NodeId.{NodeId}
use Rattle.tg_model.specs.declared.command.Event.TheVariants as event
use Rattle.tg_protocol.specs.Worlds.{runs, nodes}
use Rattle.tg_any.specs.AllKinds.{all_kinds}
use Rattle.tg_script.specs.declared.line.Line.TheVariants as line
use Rattle.tg_live.specs.declared.live.Went.{Went}
use Rattle.tg_live.specs.Lives.{Answer, Live, LiveRan, goes, recorded, onward, ticked, Makes, Then, IsDrained, IsRounds}
use Rattle.tg_live.specs.Kept.{Made, KeepsRan}
use Rattle.tg_live.specs.Sends.{Carried}
use Rattle.tg_live.proofs.Parts.{made_alone, made_stops, made_both, made_as}

pub onward_goes : (r : LiveRan) (f : Live → LiveRan) → r.stopped ≡ None → onward r f ≡ f r.live
onward_goes r f e = ap (λ (o : Option Which). elim o as (λ _. LiveRan) [ Some x ↦ r | None ↦ f r.live ]) e

pub onward_stops : (r : LiveRan) (f : Live → LiveRan) (x : Which) → r.stopped ≡ Some x → onward r f ≡ r
onward_stops r f x e = ap (λ (o : Option Which). elim o as (λ _. LiveRan) [ Some x ↦ r | None ↦ f r.live ]) e

pub ticked_none : (ns : List NodeId) (l : Live) → ns ≡ [] → ticked ns l ≡ goes l
unfolding ticked
ticked_none ns l e = ap (λ (xs : List NodeId). ticked xs l) e

pub ticked_over : (all : List NodeId) (n : NodeId) (ns : List NodeId) (l : Live) → all ≡ n ∷ ns → runs all_kinds l.world n ≡ false → ticked all l ≡ ticked ns l
unfolding ticked
ticked_over all n ns l e h =
    ap (λ (xs : List NodeId). ticked xs l) e
    ∙ ap (λ (b : Bool). elim b as (λ _. LiveRan) [ false ↦ ticked ns l | true ↦ onward (recorded l (line.Event (event.Tick n))) (λ k. ticked ns k) ]) h

pub ticked_runs : (all : List NodeId) (n : NodeId) (ns : List NodeId) (l : Live) → all ≡ n ∷ ns → runs all_kinds l.world n ≡ true → ticked all l ≡ onward (recorded l (line.Event (event.Tick n))) (λ k. ticked ns k)
unfolding ticked
ticked_runs all n ns l e h =
    ap (λ (xs : List NodeId). ticked xs l) e
    ∙ ap (λ (b : Bool). elim b as (λ _. LiveRan) [ false ↦ ticked ns l | true ↦ onward (recorded l (line.Event (event.Tick n))) (λ k. ticked ns k) ]) h

pub ticked_stops : (all : List NodeId) (n : NodeId) (ns : List NodeId) (l : Live) (x : Which) → all ≡ n ∷ ns → runs all_kinds l.world n ≡ true → (recorded l (line.Event (event.Tick n))).stopped ≡ Some x → ticked all l ≡ recorded l (line.Event (event.Tick n))
unfolding ticked
ticked_stops all n ns l x e h s =
    ap (λ (xs : List NodeId). ticked xs l) e
    ∙ ap (λ (b : Bool). elim b as (λ _. LiveRan) [ false ↦ ticked ns l | true ↦ onward (recorded l (line.Event (event.Tick n))) (λ k. ticked ns k) ]) h
    ∙ onward_stops (recorded l (line.Event (event.Tick n))) (λ k. ticked ns k) x s

pub ticked_goes : (all : List NodeId) (n : NodeId) (ns : List NodeId) (l : Live) → all ≡ n ∷ ns → runs all_kinds l.world n ≡ true → (recorded l (line.Event (event.Tick n))).stopped ≡ None → ticked all l ≡ ticked ns (recorded l (line.Event (event.Tick n))).live
unfolding ticked
ticked_goes all n ns l e h s =
    ap (λ (xs : List NodeId). ticked xs l) e
    ∙ ap (λ (b : Bool). elim b as (λ _. LiveRan) [ false ↦ ticked ns l | true ↦ onward (recorded l (line.Event (event.Tick n))) (λ k. ticked ns k) ]) h
    ∙ onward_goes (recorded l (line.Event (event.Tick n))) (λ k. ticked ns k) s

-- what follows the ticks of a round
abbrev pub after_ticks : ℕ → Live → List Answer → Live → LiveRan → Type 0
after_ticks n l = λ rest m last. elim (length m.world.packets == length l.world.packets) as (λ _. Type 0) [
  | true ↦ IsDrained rest m last
  | false ↦ Then IsDrained (IsRounds n) rest m last
]

module _ (h : Header) (first : Carried) (n : ℕ) (l : Live) where
  abbrev pub Ticks : List Answer → Live → LiveRan → Type 0
  Ticks = Makes (ticked (nodes all_kinds l.world))

  pub round_stops : (left : ℕ) (now : Carried) (before after : Option (List Answer)) (w : Went) (x : Which) → left ≡ suc n → w.stopped ≡ Some x → Made Ticks h first now before after l w → Made (IsRounds left) h first now before after l w
  round_stops left now before after w x e s m =
      subst (λ (k : ℕ). Made (IsRounds k) h first now before after l w) (sym e)
      (made_as h first (Then Ticks (after_ticks n l)) (IsRounds (suc n)) now before after l w (λ ans end t. t) (made_stops h first Ticks (after_ticks n l) now before after l w x s m))

  as_last : (m : Live) (ans : List Answer) (end : LiveRan) → (length m.world.packets == length l.world.packets) ≡ true → IsDrained ans m end → after_ticks n l ans m end
  as_last m ans end e d = subst (λ (b : Bool). elim b as (λ _. Type 0) [ true ↦ IsDrained ans m end | false ↦ Then IsDrained (IsRounds n) ans m end ]) (sym e) d

  as_more : (m : Live) (ans : List Answer) (end : LiveRan) → (length m.world.packets == length l.world.packets) ≡ false → Then IsDrained (IsRounds n) ans m end → after_ticks n l ans m end
  as_more m ans end e d = subst (λ (b : Bool). elim b as (λ _. Type 0) [ true ↦ IsDrained ans m end | false ↦ Then IsDrained (IsRounds n) ans m end ]) (sym e) d

  round_with : (left : ℕ) (now later : Carried) (before middle after : Option (List Answer)) (w v : Went) → left ≡ suc n → w.stopped ≡ None
      → (m : Made Ticks h first now before middle l w) → Made (after_ticks n l) h first later middle after m.end.live v → Made (IsRounds left) h first later before after l v
  round_with left now later before middle after w v e s m t =
      subst (λ (k : ℕ). Made (IsRounds k) h first later before after l v) (sym e)
      (made_as h first (Then Ticks (after_ticks n l)) (IsRounds (suc n)) later before after l v (λ ans end t. t) (made_both h first Ticks (after_ticks n l) now later before middle after l w v s m t))

  pub round_last : (left : ℕ) (now later : Carried) (before middle after : Option (List Answer)) (w v : Went) → left ≡ suc n → w.stopped ≡ None
      → (m : Made Ticks h first now before middle l w) → (length m.end.live.world.packets == length l.world.packets) ≡ true → Made IsDrained h first later middle after m.end.live v → Made (IsRounds left) h first later before after l v
  round_last left now later before middle after w v e s m idle d =
      round_with left now later before middle after w v e s m (made_as h first IsDrained (after_ticks n l) later middle after m.end.live v (λ ans end t. as_last m.end.live ans end idle t) d)

  pub round_full : (left : ℕ) (now later : Carried) (before middle after : Option (List Answer)) (w v : Went) (x : Which) → left ≡ suc n → w.stopped ≡ None
      → (m : Made Ticks h first now before middle l w) → (length m.end.live.world.packets == length l.world.packets) ≡ false → Made IsDrained h first later middle after m.end.live v → v.stopped ≡ Some x → Made (IsRounds left) h first later before after l v
  round_full left now later before middle after w v x e s m busy d over =
      round_with left now later before middle after w v e s m
      (made_as h first (Then IsDrained (IsRounds n)) (after_ticks n l) later middle after m.end.live v (λ ans end t. as_more m.end.live ans end busy t) (made_stops h first IsDrained (IsRounds n) later middle after m.end.live v x over d))

  pub round_goes : (left : ℕ) (now later last : Carried) (before middle after ended : Option (List Answer)) (w v u : Went) → left ≡ suc n → w.stopped ≡ None
      → (m : Made Ticks h first now before middle l w) → (length m.end.live.world.packets == length l.world.packets) ≡ false → (d : Made IsDrained h first later middle after m.end.live v) → v.stopped ≡ None
      → Made (IsRounds n) h first last after ended d.end.live u → Made (IsRounds left) h first last before ended l u
  round_goes left now later last before middle after ended w v u e s m busy d on r =
      round_with left now last before middle ended w u e s m
      (made_as h first (Then IsDrained (IsRounds n)) (after_ticks n l) last middle ended m.end.live u (λ ans end t. as_more m.end.live ans end busy t) (made_both h first IsDrained (IsRounds n) later last middle after ended m.end.live v u on d r))

  pub round_none : (left : ℕ) (now : Carried) (before : Option (List Answer)) (w : Went) → left ≡ 0 → KeepsRan h first now w (goes l) → Made (IsRounds left) h first now before before l w
  round_none left now before w e kept = subst (λ (k : ℕ). Made (IsRounds k) h first now before before l w) (sym e)
      (made_as h first (Makes goes) (IsRounds 0) now before before l w (λ ans end t. t) (made_alone h first goes now before before l w refl kept))
