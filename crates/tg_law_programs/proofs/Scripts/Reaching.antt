-- The world of a script is that of a run.
use Rattle.std.proofs.Common.{◌≡◌, ℕ, zero, suc, List, [], ◌∷◌, Some, refl, true, arith}
use Rattle.std.specs.Prelude.{slice_get}
use Rattle.tg_base.specs.Clusters.{Header, IsHeader}
use Rattle.tg_protocol.specs.Worlds.{start, next_event}
use Rattle.tg_protocol.specs.Runs.{Reaches}
use Rattle.tg_any.specs.AllKinds.{all_kinds}
use Rattle.tg_script.specs.Lines.{line_fits}
use Rattle.tg_script.specs.declared.line.Line.{Line}
use Rattle.tg_script.specs.declared.line.Line.TheVariants as line
use Rattle.tg_replay.specs.Runs.{Worlds, line_in, line_on, lines_on, world_of}
use Rattle.tg_law_layouts.proofs.Moves.Members.{has_contained}
use Rattle.tg_law_programs.specs.Scripts.Scripts.{EachScriptReaches}
use Rattle.tg_law_programs.proofs.Scripts.Leading.{Stands, Leads, starts, stands_on, stays, counts, then, step_on, update_leads, drain_leads, settle_leads, unless}
use Rattle.tg_law_programs.proofs.Scripts.Lawful.{event_lawful, update_lawful}

module _ (h : Header) (header : IsHeader h) where
  in_line : (w : Worlds) (l : Line) → line_fits h l ≡ true → Stands all_kinds h w → Leads all_kinds h w (line_in w l).world
  in_line w (line.Event e) f s = step_on all_kinds h w e s (event_lawful h header e f)
  in_line w (line.Update k oid op) f s = let u = update_lawful h k oid op f in update_leads all_kinds h w k oid op s u.0 u.1
  in_line w line.Drain f s = drain_leads all_kinds h w s
  in_line w line.Settle f s = settle_leads all_kinds h w s

  on_line : (w : Worlds) (l : Line) → line_fits h l ≡ true → Stands all_kinds h w → Leads all_kinds h w (line_on w l).world
  on_line w l f s =
      let next = next_event all_kinds w in
      let c = counts all_kinds h w s in
      then all_kinds h w next (line_on w l).world c (in_line next l f (stands_on all_kinds h w next s c))

  pub on_lines : (ls : List Line) (w : Worlds) → ((k : ℕ) (l : Line) → slice_get ls k ≡ Some l → line_fits h l ≡ true) → Stands all_kinds h w → Leads all_kinds h w (lines_on ls w).world
  unfolding lines_on
  on_lines [] w f s = stays all_kinds h w s
  on_lines (l ∷ ls) w f s =
      unless all_kinds h w (line_on w l) (λ v. lines_on ls v) s (on_line w l (f zero l refl) s)
      (λ v t. on_lines ls v (λ k x e. f (suc k) x e) t)

reaches : (h : Header) (v : Worlds) → IsHeader h → (l : Leads all_kinds h (start all_kinds h) v) → Reaches all_kinds h l.by v
unfolding start
reaches h v header l = record {
  header = header;
  goes = record { lawful = λ x i. l.lawful x (has_contained l.by x i); is = l.is; few = (let a = l.few in omega (arith, a)) };
}

pub each_script_reaches : EachScriptReaches
each_script_reaches s is =
    let l = on_lines s.header is.header s.events (start all_kinds s.header) (λ k x e. (is.each k x e).fits) (starts all_kinds s.header) in
    record { moves = l.by; reaches = reaches s.header (world_of s) is.header l }
