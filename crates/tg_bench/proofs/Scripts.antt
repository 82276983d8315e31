-- The script of a made load.
use Rattle.std.proofs.Common.{◌≡◌, ℕ, zero, suc, ◌-◌, List, [], ◌∷◌, ◌++◌, length, take, Option, Some, None, refl, sym, ap, ◌∙◌, subst, arith}
use Rattle.std.proofs.lemmas.List.{take-take}
use Rattle.std.specs.Prelude.{slice_get}
use Rattle.tg_base.specs.declared.fault.Which.{Which}
use Rattle.tg_model.specs.declared.command.Event.TheVariants as event
use Rattle.tg_protocol.specs.Worlds.{start}
use Rattle.tg_script.specs.declared.line.Line.{Line}
use Rattle.tg_script.specs.declared.line.Line.TheVariants as line
use Rattle.tg_gen.specs.Loads.{header, load_lines, load_text}
use Rattle.tg_any.specs.AllKinds.{all_kinds}
use Rattle.tg_replay.specs.Runs.{Script, Worlds, Runs, IsScript, IsWithin, Tells, MayCome, run_of, world_of, front, PassesLimit}
use Rattle.tg_replay.proofs.Exact.{limit_within}
use Rattle.tg_bench.specs.Loads.{load, last_event}
use Rattle.tg_bench.proofs.Grammar.{IsQuiet, IsFine, each_fine, fine_load, header_lawful}
use Rattle.tg_bench.proofs.Texts.{load_cut}
use Rattle.tg_bench.proofs.Begun.{begun_all, begun_front, stopped_so}

quiet_comes : (w : Worlds) (l : Line) → IsQuiet l → MayCome w l
quiet_comes w (line.Event (event.Command k c)) e = tt
quiet_comes w (line.Event (event.Deliver i)) e = absurd e
quiet_comes w (line.Event (event.Lose i)) e = absurd e
quiet_comes w (line.Event (event.Tick n)) e = tt
quiet_comes w (line.Event (event.Stop n)) e = tt
quiet_comes w (line.Update k oid op) e = tt
quiet_comes w line.Drain e = tt
quiet_comes w line.Settle e = tt

fine_at : (from count : ℕ) (k : ℕ) (l : Line) → slice_get (load_lines from count) k ≡ Some l → IsFine l
fine_at from count = each_fine (load_lines from count) (fine_load from count)

pub load_lawful : (from count : ℕ) → IsScript (load from count)
load_lawful from count = record {
  header = header_lawful;
  each = λ k l e. let f = fine_at from count k l e in record { fits = f.fits; short = f.short };
  comes = λ k l e. quiet_comes (world_of (front k (load from count))) l (fine_at from count k l e).quiet;
}

pub load_tells : (from count : ℕ) → Tells (load_text from count) (load from count)
load_tells = load_cut

-- The number of the last event.

pub last_whole : (s : Script) → IsWithin s → last_event s ≡ length s.events
last_whole s within = begun_all s.events (start all_kinds s.header) within

-- the script that a limit stops: all that follows is passed by
pub record StopsAt (s p : Script) (which : Which) : Type 0 where
  pub run : run_of s ≡ run_of p
  pub last : last_event s ≡ length p.events

over_some : (p : Script) (which : Which) → (run_of p).stopped ≡ Some which → IsWithin (front (length p.events - 1) p) → (length p.events ≡ 0 → ⊥)
over_some p which over before none =
    let same : take (length p.events - 1) p.events ≡ p.events = nothing p.events none in
    let within : (run_of p).stopped ≡ None = subst (λ (ls : List Line). (run_of (record { header = p.header; events = ls })).stopped ≡ None) same before in
    let out = over in
    absurd cc
  where
    nothing : (ls : List Line) → length ls ≡ 0 → take (length ls - 1) ls ≡ ls
    nothing [] e = refl
    nothing (l ∷ ls) e = absurd (omega arith)

pub limit_stops : (text : List ℕ) (s p : Script) (which : Which) → IsScript s → Tells text s → PassesLimit text which p → StopsAt s p which
limit_stops text s p which lawful tells passes =
    let same : front (length p.events) s ≡ p = limit_within text which s p lawful tells passes in
    let over : (run_of (front (length p.events) s)).stopped ≡ Some which = subst (λ (x : Script). (run_of x).stopped ≡ Some which) (sym same) passes.over in
    record {
      run = stopped_so (length p.events) s.events (start all_kinds s.header) which over ∙ ap run_of same;
      last = at (length p.events) refl;
    }
  where
    at : (n : ℕ) → length p.events ≡ n → last_event s ≡ length p.events
    at zero e = absurd (over_some p which passes.over passes.before e)
    at (suc k) e =
        let same : front (length p.events) s ≡ p = limit_within text which s p lawful tells passes in
        let over : (run_of (front (suc k) s)).stopped ≡ Some which = subst (λ n. (run_of (front n s)).stopped ≡ Some which) e (subst (λ (x : Script). (run_of x).stopped ≡ Some which) (sym same) passes.over) in
        let less : length p.events - 1 ≡ k = omega arith in
        let cut : front (length p.events - 1) p ≡ front k s =
        ap (λ n. front n p) less ∙ ap (λ (x : Script). front k x) (sym same) ∙ ap (λ n. front k (front n s)) e
        ∙ ap (λ (ls : List Line). record { header = s.header; events = ls }) (take-take k (suc k) s.events (omega arith)) in
        begun_front k s.events (start all_kinds s.header) which over (subst IsWithin cut passes.before) ∙ sym e
