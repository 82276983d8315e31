-- What lines make of a world, one after another.
use Rattle.std.proofs.Common.{◌≡◌, ℕ, zero, suc, List, [], ◌∷◌, ◌++◌, take, Option, Some, None, refl, sym, ap, ◌∙◌}
use Rattle.tg_base.specs.declared.fault.Which.{Which}
use Rattle.tg_protocol.specs.Worlds.{ran, unless_stopped}
use Rattle.tg_script.specs.declared.line.Line.{Line}
use Rattle.tg_any.specs.AllKinds.{all_kinds}
use Rattle.tg_replay.specs.Runs.{Worlds, Runs, line_on, lines_on}

-- no limit has stopped the first steps, and the others follow
pub goes_on : (r : Runs) (f : Worlds → Runs) → r.stopped ≡ None → unless_stopped all_kinds r f ≡ f r.world
goes_on r f e = ap (λ (o : Option Which). elim o as (λ _. Runs) [ Some x ↦ r | None ↦ f r.world ]) e

pub stops : (r : Runs) (f : Worlds → Runs) (x : Which) → r.stopped ≡ Some x → unless_stopped all_kinds r f ≡ r
stops r f x e = ap (λ (o : Option Which). elim o as (λ _. Runs) [ Some x ↦ r | None ↦ f r.world ]) e

-- what no limit has stopped, none has stopped before
pub went_on : (r : Runs) (f : Worlds → Runs) → (unless_stopped all_kinds r f).stopped ≡ None → r.stopped ≡ None
went_on r f h = at r.stopped refl
  where
    at : (o : Option Which) → r.stopped ≡ o → r.stopped ≡ None
    at None e = e
    at (Some x) e = ap (λ (q : Runs). q.stopped) (sym (stops r f x e)) ∙ h

nothing_more : (r : Runs) → unless_stopped all_kinds r (λ v. ran all_kinds v None) ≡ r
nothing_more r = at r.stopped refl
  where
    at : (o : Option Which) → r.stopped ≡ o → unless_stopped all_kinds r (λ v. ran all_kinds v None) ≡ r
    at None e = goes_on r (λ v. ran all_kinds v None) e ∙ (λ i. record { world = r.world; stopped = sym e i })
    at (Some x) e = stops r (λ v. ran all_kinds v None) x e

-- one line more
pub lines_longer : (ls : List Line) (l : Line) (w : Worlds) → (lines_on ls w).stopped ≡ None → lines_on (ls ++ l ∷ []) w ≡ line_on (lines_on ls w).world l
unfolding lines_on
lines_longer [] l w h = nothing_more (line_on w l)
lines_longer (k ∷ ks) l w h =
    let on : (line_on w k).stopped ≡ None = went_on (line_on w k) (λ v. lines_on ks v) h in
    let here : lines_on (k ∷ ks) w ≡ lines_on ks (line_on w k).world = goes_on (line_on w k) (λ v. lines_on ks v) on in
    goes_on (line_on w k) (λ v. lines_on (ks ++ l ∷ []) v) on
    ∙ lines_longer ks l (line_on w k).world (ap (λ (q : Runs). q.stopped) (sym here) ∙ h)
    ∙ ap (λ (q : Runs). line_on q.world l) (sym here)

-- no limit stops the first lines of those that none stops
pub front_goes_on : (k : ℕ) (ls : List Line) (w : Worlds) → (lines_on ls w).stopped ≡ None → (lines_on (take k ls) w).stopped ≡ None
unfolding lines_on
front_goes_on zero ls w h = refl
front_goes_on (suc k) [] w h = refl
front_goes_on (suc k) (l ∷ ls) w h =
    let on : (line_on w l).stopped ≡ None = went_on (line_on w l) (λ v. lines_on ls v) h in
    let here : lines_on (l ∷ ls) w ≡ lines_on ls (line_on w l).world = goes_on (line_on w l) (λ v. lines_on ls v) on in
    ap (λ (q : Runs). q.stopped) (goes_on (line_on w l) (λ v. lines_on (take k ls) v) on)
    ∙ front_goes_on k ls (line_on w l).world (ap (λ (q : Runs). q.stopped) (sym here) ∙ h)
