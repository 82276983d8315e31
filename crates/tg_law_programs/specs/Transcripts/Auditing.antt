-- An audit of what is told in the world of a script or of a live run finds it legal.
use Rattle.std.specs.Prelude.{◌≡◌, true, List}
use Rattle.tg_base.specs.Clusters.{Header}
use Rattle.tg_audit.specs.declared.verdict.Verdict.TheVariants.{Legal}
use Rattle.tg_audit_run.specs.Verdicts.{judged}
use Rattle.tg_trace.specs.Transcripts.{is_transcript}
use Rattle.tg_replay.specs.Headline.{told_in}
use Rattle.tg_replay.specs.Runs.{Script, IsScript, world_of}
use Rattle.tg_live.specs.Lives.{Answer, Live, LiveRan, IsLived, opened}
use Rattle.tg_live.specs.Scripts.{IsLiveScript}

-- the rules of a legal run find no fault in what is told
abbrev pub Audited : Script → Type 0
Audited s = judged (told_in s.header (world_of s)) ≡ Legal

-- of each script, whether a limit stops it or not
abbrev pub EachAudited : Type 0
EachAudited = (s : Script) → IsScript s → Audited s

-- What is told in the world of a live run keeps the grammar of transcripts, and the rules find no fault in it.
pub record LiveAudited (h : Header) (l : Live) : Type 0 where
  pub fits : is_transcript (told_in h l.world) ≡ true
  pub legal : judged (told_in h l.world) ≡ Legal

-- whatever the link hands over, and wherever a limit stops the run
abbrev pub EachLiveAudited : Type 0
EachLiveAudited = (s : Script) (answers : List Answer) (end : LiveRan) → IsLiveScript s → IsLived s.events answers (opened s.header) end → LiveAudited s.header end.live
