-- What a replay or a live run prints is of a run that holds, and judged legal.
use Rattle.std.proofs.Common.{◌≡◌, ℕ, ◌<◌, Bool, false, List, Option, Some, None, refl, ap, ◌∙◌, arith}
use Rattle.std.specs.Prelude.{nat_le}
use Rattle.std.proofs.lemmas.Bool.Decides.{nat_tests}
use Rattle.tg_base.specs.Clusters.{Header}
use Rattle.tg_base.specs.declared.fault.Which.{Which}
use Rattle.tg_audit.specs.declared.verdict.Verdict.TheVariants.{Legal}
use Rattle.tg_audit_run.specs.Verdicts.{HasVerdict}
use Rattle.tg_replay.specs.Headline.{told_in}
use Rattle.tg_replay.specs.Outcomes.{Told}
use Rattle.tg_replay.specs.Runs.{Script, IsScript, IsCounted, Replayed, Refused, Limited, printed_before, transcript, world_of}
use Rattle.tg_live.specs.Lives.{Live, goes}
use Rattle.tg_live.specs.Scripts as lives
use Rattle.tg_live.specs.Scripts.{Over}
use Rattle.tg_law_programs.specs.Headline.Headline.{EachScriptHolds, EachLiveHolds}
use Rattle.tg_law_programs.specs.Transcripts.Auditing.{EachAudited, LiveAudited, EachLiveAudited}
use Rattle.tg_law_programs.specs.Transcripts.Fits.{EachFits}
use Rattle.tango.specs.Holding.{ReplayedTruly, RefusedTruly, LimitedTruly, LivedTruly, LiveRefusedTruly, LiveLimitedTruly, ReplayedLegally, RefusedLegally, LimitedLegally, LivedLegally, LiveRefusedLegally, LiveLimitedLegally}

-- what is told of a text is told of it in other words
told_so : {P Q : List ℕ → List ℕ → Type 0} (left before after : Option (List ℕ)) → ((text out : List ℕ) → P text out → Q text out) → Told left before after P → Told left before after Q
told_so None before after so t = tt
told_so (Some text) before after so t = (t.0, t.1, so text t.0 t.2)

module _ (each : EachScriptHolds) (left before after : Option (List ℕ)) where
  pub replayed_truly : Told left before after Replayed → Told left before after ReplayedTruly
  replayed_truly t = told_so left before after (λ text out r. record { replayed = r; holds = each r.script r.lawful }) t

  pub refused_truly : (n : ℕ) → Told left before after (λ text out. Refused text n out) → Told left before after (λ text out. RefusedTruly text n out)
  refused_truly n t = told_so left before after (λ text out r. record { refused = r; holds = each r.before r.first.lawful }) t

  pub limited_truly : (which : Which) → Told left before after (λ text out. Limited text which out) → Told left before after (λ text out. LimitedTruly text which out)
  limited_truly which t = told_so left before after (λ text out r. record { limited = r; holds = each r.script r.passes.lawful }) t

module _ (each : EachLiveHolds) (o : Over) (left before after : Option (List ℕ)) where
  pub lived_truly : Told left before after (lives.Replayed o) → Told left before after (LivedTruly o)
  lived_truly t = told_so left before after (λ text out r. record { replayed = r; holds = each r.script r.run.answers (goes r.end) r.lawful r.run.lived }) t

  pub live_refused_truly : (n : ℕ) → Told left before after (λ text out. lives.Refused o text n out) → Told left before after (λ text out. LiveRefusedTruly o text n out)
  live_refused_truly n t = told_so left before after (λ text out r. record { refused = r; holds = λ end run. each r.before run.answers (goes end) r.first.lawful run.lived }) t

  pub live_limited_truly : (which : Which) → Told left before after (λ text out. lives.Limited o text which out) → Told left before after (λ text out. LiveLimitedTruly o text which out)
  live_limited_truly which t = told_so left before after (λ text out r. record { limited = r; holds = each r.script r.run.answers r.end r.lawful r.run.lived }) t

-- What an audit says.

past_header : (n : ℕ) → 3 < n → nat_le n 3 ≡ false
past_header n past = grind (arith, nat_tests)

module _ (fits : EachFits) (law : EachAudited) (left before after : Option (List ℕ)) where
  script_legal : (s : Script) → IsScript s → (out : List ℕ) → out ≡ transcript s.header (world_of s) → IsCounted s → HasVerdict out Legal
  script_legal s is out printed counted = (told_in s.header (world_of s), fits s is counted, printed, law s is)

  pub replayed_legally : Told left before after Replayed → Told left before after ReplayedLegally
  replayed_legally t = told_so left before after (λ text out r. record { replayed = r; legal = script_legal r.script r.lawful out r.printed r.counted }) t

  pub refused_legally : (n : ℕ) → Told left before after (λ text out. Refused text n out) → Told left before after (λ text out. RefusedLegally text n out)
  refused_legally n t =
      told_so left before after (λ text out r. record {
        refused = r;
        legal = λ past. script_legal r.before r.first.lawful out (r.printed ∙ ap (λ (b : Bool). printed_before b r.before) (past_header n past)) r.counted;
      }) t

  pub limited_legally : (which : Which) → Told left before after (λ text out. Limited text which out) → Told left before after (λ text out. LimitedLegally text which out)
  limited_legally which t = told_so left before after (λ text out r. record { limited = r; legal = script_legal r.script r.passes.lawful out r.printed r.counted }) t

module _ (law : EachLiveAudited) (o : Over) (left before after : Option (List ℕ)) where
  live_legal : (h : Header) (l : Live) → LiveAudited h l → HasVerdict (transcript h l.world) Legal
  live_legal h l a = (told_in h l.world, a.fits, refl, a.legal)

  pub lived_legally : Told left before after (lives.Replayed o) → Told left before after (LivedLegally o)
  lived_legally t = told_so left before after (λ text out r. record { replayed = r; legal = live_legal r.script.header r.end (law r.script r.run.answers (goes r.end) r.lawful r.run.lived) }) t

  pub live_refused_legally : (n : ℕ) → Told left before after (λ text out. lives.Refused o text n out) → Told left before after (λ text out. LiveRefusedLegally o text n out)
  live_refused_legally n t =
      told_so left before after (λ text out r. record { refused = r; legal = λ end run. live_legal r.before.header end (law r.before run.answers (goes end) r.first.lawful run.lived) }) t

  pub live_limited_legally : (which : Which) → Told left before after (λ text out. lives.Limited o text which out) → Told left before after (λ text out. LiveLimitedLegally o text which out)
  live_limited_legally which t =
      told_so left before after (λ text out r. record { limited = r; legal = live_legal r.script.header r.end.live (law r.script r.run.answers r.end r.lawful r.run.lived) }) t
