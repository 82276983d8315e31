use Rattle.std.proofs.Common.{Option, IfSome, subst}
use Rattle.std.specs.Prelude.{option_map}
use Rattle.std.proofs.lemmas.Result.{IfOk-weaker}
use Rattle.tg_replay.specs.Stages.{Ends, status_of}
use Rattle.space_time.specs.Records.{IsRecorded}
use Rattle.space_time.specs.declared.recording.Recording.{Recording}
use Rattle.space_time.proofs.Showing.{shown, blank}
use Rattle.space_time.proofs.top.text_of.Goals as goal

pub returns-in-None : goal.returns-in-None
returns-in-None c = λ text h.
    blank c.args.cut c.new.result text (status_of c.args.recorded.now.end) c.new.ensures
    (subst (λ (o : Option Recording). Ends text (status_of c.args.recorded.now.end) (option_map (λ (q : Recording). q.run) o)) c.in-None.is h)

pub returns-in_ok-picture-in-Some : goal.returns-in_ok-picture-in-Some
returns-in_ok-picture-in-Some c =
    let recording = c.in-Some.recording in
    let recorded = subst (λ (o : Option Recording). IfSome o IsRecorded) c.in-Some.is c.requires in
    IfOk-weaker c.draw.result _ _
    (λ out drawn. λ text h.
    shown recording c.args.cut c.in_ok-picture-in-Some.picture out recorded c.in_ok-picture-in-Some.ensures drawn text (status_of c.args.recorded.now.end)
    (subst (λ (o : Option Recording). Ends text (status_of c.args.recorded.now.end) (option_map (λ (q : Recording). q.run) o)) c.in-Some.is h))
    c.draw.ensures
