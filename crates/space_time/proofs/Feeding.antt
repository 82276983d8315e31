-- From what a line makes of a recording to what reading comes to.
use Rattle.std.specs.Prelude.{◌≡◌, ℕ, ◌+◌, List, [], ◌++◌, Option, Some, None, Result, IfOk, IfSome, refl}
use Rattle.std.proofs.Common.{sym, subst, ◌∙◌}
use Rattle.tg_base.specs.Clusters.{Header, IsHeader}
use Rattle.tg_base.specs.declared.fault.Which.{Which}
use Rattle.tg_io.specs.declared.fault.IoErr.{IoErr}
use Rattle.tg_lines.specs.Feeds.{TakesFeeds}
use Rattle.tg_lines.specs.Lines.{ahead}
use Rattle.tg_lines.specs.Openings.{Opened}
use Rattle.tg_lines.specs.declared.header.Opening.TheVariants.{Opens}
use Rattle.tg_script.specs.Headers.{header_lines}
use Rattle.tg_script.specs.declared.line.Line.{Line}
use Rattle.tg_protocol.specs.Worlds.{next_event, start}
use Rattle.tg_world.specs.Kept.{KeepsWorld}
use Rattle.tg_any.specs.AllKinds.{all_kinds}
use Rattle.tg_replay.specs.Runs.{Worlds, Runs, line_in, line_on}
use Rattle.tg_replay.specs.Stages.{IsMade, Reads, Finished}
use Rattle.tg_replay.specs.declared.stages.Run.{Run}
use Rattle.tg_replay.proofs.Scripts.{opening, run_opens}
use Rattle.tg_replay.specs.declared.stages.End.TheVariants.{Limited}
use Rattle.space_time.specs.declared.recording.Recording.{Recording}
use Rattle.space_time.specs.declared.recording.Recorded.{Recorded}
use Rattle.space_time.specs.declared.reading.Fed.{Fed}
use Rattle.space_time.specs.declared.reading.Fed.TheVariants.{Goes, Stops}
use Rattle.space_time.specs.declared.going.Went.{Went}
use Rattle.space_time.specs.Records.{IsRecorded, Begins, Makes, GoesOnRecorded, CountsOn, run_in, finish_in}

-- what comes of a line whose steps were made
pub record IsAfter (q : Went) (f : Fed) : Type 0 where
  pub goes : q.stopped ≡ None → f ≡ Goes q.recording
  pub stops : (which : Which) → q.stopped ≡ Some which → f ≡ Stops (record { end = Limited which; recording = Some q.recording })

pub kept : (q : Went) (f : Fed) → IsRecorded q.recording → IsAfter q f → GoesOnRecorded f
kept q f h a = by q.stopped refl
  where
    by : (o : Option Which) → q.stopped ≡ o → GoesOnRecorded f
    by None e = subst GoesOnRecorded (sym (a.goes e)) h
    by (Some x) e = subst GoesOnRecorded (sym (a.stops x e)) h

pub counts : (r b : Recording) (q : Went) (f : Fed) (g : Worlds → Runs) → Begins r b → Makes b g q → IsAfter q f → CountsOn r.run.world.event f
counts r b q f g begins makes a = by q.stopped refl
  where
    by : (o : Option Which) → q.stopped ≡ o → CountsOn r.run.world.event f
    by None e = subst (CountsOn r.run.world.event) (sym (a.goes e)) (makes.events ∙ begins.events)
    by (Some x) e = subst (CountsOn r.run.world.event) (sym (a.stops x e)) tt

pub made : (r b : Recording) (q : Went) (f : Fed) (l : Line) → Begins r b → Makes b (λ w. line_in w l) q → IsAfter q f → (w : Worlds) → KeepsWorld all_kinds r.run.world w → IsMade r.run (line_on w l) (run_in f)
made r b q f l begins makes a w k = by q.stopped refl
  where
    over : q.stopped ≡ (line_on w l).stopped
    over = makes.stopped (next_event all_kinds w) (begins.world w k)

    by : (o : Option Which) → q.stopped ≡ o → IsMade r.run (line_on w l) (run_in f)
    by None e = subst (λ (x : Fed). IsMade r.run (line_on w l) (run_in x)) (sym (a.goes e)) (
      sym over ∙ e,
      record { cluster = makes.cluster ∙ begins.cluster; world = makes.world (next_event all_kinds w) (begins.world w k); events = makes.events ∙ begins.events },
    )
    by (Some x) e = subst (λ (y : Fed). IsMade r.run (line_on w l) (run_in y)) (sym (a.stops x e)) (record {
      which = x;
      over = sym over ∙ e;
      end = refl;
      run = q.recording.run;
      is = refl;
      after = record { cluster = makes.cluster ∙ begins.cluster; world = makes.world (next_event all_kinds w) (begins.world w k); events = makes.events ∙ begins.events };
    })

-- the header of a text, as a replay has it
pub header_opens : (none : List ℕ) (left rest : Option (List ℕ)) (h : Header) (r : Run) (result : Result Recorded IoErr) → none ≡ [] → Opened (ahead none left) rest (Opens h) → TakesFeeds 3 (ahead none left) rest
    → IsHeader h → r.cluster ≡ h → KeepsWorld all_kinds r.world (start all_kinds h) → r.world.event ≡ 0
    → IfSome rest (λ rest. (text : List ℕ) → Reads text r rest → IfOk result (λ f. Finished text (finish_in f))) → IfSome left (λ text. IfOk result (λ f. Finished text (finish_in f)))
header_opens none None rest h r result e is took lawful cluster world events ends = tt
header_opens none (Some text) None h r result e is took lawful cluster world events ends = absurd is
header_opens none (Some text) (Some rest) h r result e is took lawful cluster world events ends =
    let cut = subst (λ (bs : List ℕ). Opened (Some (bs ++ text)) (Some rest) (Opens h)) e is in
    let feeds = subst (λ (bs : List ℕ). TakesFeeds 3 (Some (bs ++ text)) (Some rest)) e took in
    ends text (record { read = header_lines h; script = opening h; run = run_opens h r lawful cluster world events; cut = cut; feeds = feeds })
