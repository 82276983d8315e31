-- What is told in the world of a script is a legal run, in which the rules find no fault.
use Rattle.std.proofs.Common.{◌≡◌, List, None, ap, subst}
use Rattle.tg_base.specs.declared.ids.Oid.{Oid}
use Rattle.tg_model.specs.Legal.{Legal}
use Rattle.tg_model.specs.Verdicts.{IsSameness, fault}
use Rattle.tg_protocol.specs.Headline.{Holds}
use Rattle.tg_protocol.specs.Worlds.{trace, history}
use Rattle.tg_any.specs.AllKinds.{all_kinds}
use Rattle.tg_audit.specs.Told.{told_of, sameness}
use Rattle.tg_audit.specs.Same.{same_op, same_answer}
use Rattle.tg_audit.specs.SameLaws.{same_op_exact, same_answer_exact}
use Rattle.tg_replay.specs.Runs.{Script, IsScript, Worlds, world_of}
use Rattle.tg_law_programs.specs.Headline.Headline.{ScriptHolds}
use Rattle.tg_law_programs.proofs.Headline.Holding.{scripts_hold}
use Rattle.tg_law_verdicts.proofs.Legality.{verdicts_are_true}
use Rattle.tg_law_programs.specs.Transcripts.Auditing.{EachAudited}
use Rattle.tg_law_programs.proofs.Transcripts.Numbers.{cluster_is}

exact : IsSameness all_kinds (sameness all_kinds same_op same_answer)
exact = record { ops = same_op_exact; answers = same_answer_exact }

module _ (s : Script) (is : IsScript s) where
  abbrev w : Worlds
  w = world_of s

  held : ScriptHolds s
  held = scripts_hold s is

  holds : Holds all_kinds w
  holds = held.holds.headline

  objects_are : w.cluster.objects ≡ s.header.objects
  objects_are = ap (λ h. h.objects) (cluster_is all_kinds s.header held.reached.moves w held.reached.reaches)

  legal : Legal all_kinds s.header.objects (history all_kinds w) (trace all_kinds w)
  legal = subst (λ (os : List Oid). Legal all_kinds os (history all_kinds w) (trace all_kinds w)) objects_are holds.legal

  no_fault : fault all_kinds (sameness all_kinds same_op same_answer) s.header.objects (history all_kinds w) (trace all_kinds w) ≡ None
  no_fault = (verdicts_are_true all_kinds (sameness all_kinds same_op same_answer) s.header.objects (history all_kinds w) (trace all_kinds w) exact holds.rises).1 legal

pub each_audited : EachAudited
each_audited s is = ap told_of (no_fault s is)
