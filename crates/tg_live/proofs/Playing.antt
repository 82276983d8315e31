-- What each line of a script comes to.
use Rattle.std.proofs.Common.{◌≡◌, true, List, Option, sym, subst}
use Rattle.tg_base.specs.Clusters.{Header}
use Rattle.tg_script.specs.declared.line.Line.{Line}
use Rattle.tg_script.specs.declared.line.Line.TheVariants as line
use Rattle.tg_live.specs.declared.live.Went.{Went}
use Rattle.tg_live.specs.Lives.{Answer, Live, Makes, IsDrained, IsSettled, IsFed, is_steps, recorded}
use Rattle.tg_live.specs.Kept.{Made, KeepsRan}
use Rattle.tg_live.specs.Sends.{Carried}
use Rattle.tg_live.proofs.Parts.{made_alone, made_as}

module _ (h : Header) (first now : Carried) (before after : Option (List Answer)) (l : Live) (w : Went) where
  pub fed_drain : (x : Line) → x ≡ line.Drain → Made IsDrained h first now before after l w → Made (IsFed x) h first now before after l w
  fed_drain x e m = subst (λ (y : Line). Made (IsFed y) h first now before after l w) (sym e) (made_as h first IsDrained (IsFed line.Drain) now before after l w (λ ans end t. t) m)

  pub fed_settle : (x : Line) → x ≡ line.Settle → Made IsSettled h first now before after l w → Made (IsFed x) h first now before after l w
  fed_settle x e m = subst (λ (y : Line). Made (IsFed y) h first now before after l w) (sym e) (made_as h first IsSettled (IsFed line.Settle) now before after l w (λ ans end t. t) m)

  -- a line that is steps of its own is recorded as it stands
  steps_fed : (x : Line) → is_steps x ≡ true → after ≡ before → KeepsRan h first now w (recorded l x) → Made (IsFed x) h first now before after l w
  steps_fed (line.Event e) s same kept = made_as h first (Makes (λ k. recorded k (line.Event e))) (IsFed (line.Event e)) now before after l w (λ ans end t. t) (made_alone h first (λ k. recorded k (line.Event e)) now before after l w same kept)
  steps_fed (line.Update k oid op) s same kept =
      made_as h first (Makes (λ v. recorded v (line.Update k oid op))) (IsFed (line.Update k oid op)) now before after l w (λ ans end t. t) (made_alone h first (λ v. recorded v (line.Update k oid op)) now before after l w same kept)
  steps_fed line.Drain s same kept = absurd cc
  steps_fed line.Settle s same kept = absurd cc

  pub fed_steps : (x y : Line) → x ≡ y → is_steps y ≡ true → after ≡ before → KeepsRan h first now w (recorded l y) → Made (IsFed x) h first now before after l w
  fed_steps x y e s same kept = subst (λ (z : Line). Made (IsFed z) h first now before after l w) (sym e) (steps_fed y s same kept)
