-- How many lines of a script are begun, and what a limit makes of the others.
use Rattle.std.proofs.Common.{◌≡◌, ℕ, zero, suc, List, [], ◌∷◌, length, take, Option, Some, None, refl, sym, ap, ◌∙◌}
use Rattle.tg_base.specs.declared.fault.Which.{Which}
use Rattle.tg_protocol.specs.Worlds.{ran}
use Rattle.tg_script.specs.declared.line.Line.{Line}
use Rattle.tg_any.specs.AllKinds.{all_kinds}
use Rattle.tg_replay.specs.Runs.{Worlds, Runs, line_on, lines_on}
use Rattle.tg_replay.proofs.Making.{goes_on, stops, went_on}
use Rattle.tg_bench.specs.Loads.{begun}

not_both : (o : Option Which) (x : Which) → o ≡ None → o ≡ Some x → ⊥
not_both o x e f = absurd cc

-- a line that no limit stops, and one that a limit stops
begun_on : (l : Line) (ls : List Line) (w : Worlds) → (line_on w l).stopped ≡ None → begun (l ∷ ls) w ≡ suc (begun ls (line_on w l).world)
unfolding begun
begun_on l ls w e = ap (λ (o : Option Which). elim o as (λ _. ℕ) [ Some x ↦ 1 | None ↦ suc (begun ls (line_on w l).world) ]) e

begun_last : (l : Line) (ls : List Line) (w : Worlds) (x : Which) → (line_on w l).stopped ≡ Some x → begun (l ∷ ls) w ≡ 1
unfolding begun
begun_last l ls w x e = ap (λ (o : Option Which). elim o as (λ _. ℕ) [ Some x ↦ 1 | None ↦ suc (begun ls (line_on w l).world) ]) e

lines_none : (w : Worlds) → (lines_on [] w).stopped ≡ None
unfolding lines_on
lines_none w = refl

first_on : (l : Line) (ls : List Line) (w : Worlds) → (lines_on (l ∷ ls) w).stopped ≡ None → (line_on w l).stopped ≡ None
unfolding lines_on
first_on l ls w e = went_on (line_on w l) (λ v. lines_on ls v) e

lines_go : (l : Line) (ls : List Line) (w : Worlds) → (line_on w l).stopped ≡ None → lines_on (l ∷ ls) w ≡ lines_on ls (line_on w l).world
unfolding lines_on
lines_go l ls w e = goes_on (line_on w l) (λ v. lines_on ls v) e

lines_stop : (l : Line) (ls : List Line) (w : Worlds) (x : Which) → (line_on w l).stopped ≡ Some x → lines_on (l ∷ ls) w ≡ line_on w l
unfolding lines_on
lines_stop l ls w x e = stops (line_on w l) (λ v. lines_on ls v) x e

-- all lines are begun where no limit stops them
pub begun_all : (ls : List Line) (w : Worlds) → (lines_on ls w).stopped ≡ None → begun ls w ≡ length ls
unfolding begun
begun_all [] w e = refl
begun_all (l ∷ ls) w e =
    let on : (line_on w l).stopped ≡ None = first_on l ls w e in
    begun_on l ls w on ∙ ap suc (begun_all ls (line_on w l).world (ap (λ (r : Runs). r.stopped) (sym (lines_go l ls w on)) ∙ e))

-- what a limit stops, it stops whatever follows
stopped_next : (l : Line) (few ls : List Line) (w : Worlds) (x : Which) → (lines_on (l ∷ few) w).stopped ≡ Some x →
    ((lines_on few (line_on w l).world).stopped ≡ Some x → lines_on ls (line_on w l).world ≡ lines_on few (line_on w l).world) → lines_on (l ∷ ls) w ≡ lines_on (l ∷ few) w
stopped_next l few ls w x e rest = at (line_on w l).stopped refl
  where
    at : (o : Option Which) → (line_on w l).stopped ≡ o → lines_on (l ∷ ls) w ≡ lines_on (l ∷ few) w
    at None on = lines_go l ls w on ∙ rest (ap (λ (r : Runs). r.stopped) (sym (lines_go l few w on)) ∙ e) ∙ sym (lines_go l few w on)
    at (Some y) over = lines_stop l ls w y over ∙ sym (lines_stop l few w y over)

pub stopped_so : (k : ℕ) (ls : List Line) (w : Worlds) (x : Which) → (lines_on (take k ls) w).stopped ≡ Some x → lines_on ls w ≡ lines_on (take k ls) w
stopped_so zero ls w x e = absurd (not_both (lines_on [] w).stopped x (lines_none w) e)
stopped_so (suc k) [] w x e = refl
stopped_so (suc k) (l ∷ ls) w x e = stopped_next l (take k ls) ls w x e (stopped_so k ls (line_on w l).world x)

-- lines up to the one that a limit stops are begun
pub begun_front : (k : ℕ) (ls : List Line) (w : Worlds) (x : Which) → (lines_on (take (suc k) ls) w).stopped ≡ Some x → (lines_on (take k ls) w).stopped ≡ None → begun ls w ≡ suc k
begun_front k [] w x e f = absurd (not_both (lines_on [] w).stopped x (lines_none w) e)
begun_front zero (l ∷ ls) w x e f = at (line_on w l).stopped refl
  where
    at : (o : Option Which) → (line_on w l).stopped ≡ o → begun (l ∷ ls) w ≡ 1
    at None on = absurd (not_both (lines_on [] (line_on w l).world).stopped x (lines_none (line_on w l).world) (ap (λ (r : Runs). r.stopped) (sym (lines_go l [] w on)) ∙ e))
    at (Some y) over = begun_last l ls w y over
begun_front (suc k) (l ∷ ls) w x e f =
    let on : (line_on w l).stopped ≡ None = first_on l (take k ls) w f in
    begun_on l ls w on
    ∙ ap suc (begun_front k ls (line_on w l).world x (ap (λ (r : Runs). r.stopped) (sym (lines_go l (take (suc k) ls) w on)) ∙ e) (ap (λ (r : Runs). r.stopped) (sym (lines_go l (take k ls) w on)) ∙ f))
