-- From a recording and its picture to what is written of a text.
use Rattle.std.specs.Prelude.{◌≡◌, ℕ, List, [], Option, Some, None, IfSome}
use Rattle.std.proofs.Common.{sym, ap, subst, ◌∙◌, inl, inr}
use Rattle.tg_base.specs.Clusters.{Header}
use Rattle.tg_io.specs.Bytes.{Takes}
use Rattle.tg_io.specs.declared.status.Status.{Status}
use Rattle.tg_picture.specs.Elements.{IsDrawn}
use Rattle.tg_picture.specs.declared.picture.Picture.{Picture}
use Rattle.tg_picture.specs.declared.steps.Step.{Step}
use Rattle.tg_protocol.specs.Runs.{run as along}
use Rattle.tg_protocol.specs.Worlds.{start}
use Rattle.tg_world.specs.Kept.{KeptOf, KeepsWorld}
use Rattle.tg_any.specs.AllKinds.{all_kinds}
use Rattle.tg_replay.specs.Outcomes.{Told}
use Rattle.tg_replay.specs.Runs.{Worlds, world_of}
use Rattle.tg_replay.specs.Stages.{Ends, Finished, status_of}
use Rattle.tg_replay.specs.declared.stages.Finish.{Finish}
use Rattle.space_time.specs.Pictures.{Says, AreAlike, IsPictured}
use Rattle.space_time.specs.Records.{IsRecorded, steps_from}
use Rattle.space_time.specs.declared.cut.Cut.{Cut}
use Rattle.space_time.specs.declared.recording.Recording.{Recording}
use Rattle.space_time.proofs.Whole.{whole}

-- one world keeps two of the definitions that differ in their clients alone
alike : (k : KeptOf all_kinds) (w v : Worlds) → KeepsWorld all_kinds k w → KeepsWorld all_kinds k v → AreAlike w v
alike k w v g h = ap (λ (x : Worlds). record x { clients = v.clients }) (sym g.same) ∙ h.same

pub shown : (r : Recording) (c : Cut) (p : Picture) (out : List ℕ) → IsRecorded r
    → ((w : Worlds) → KeepsWorld all_kinds r.run.world w → Says r.run.cluster r.steps c w p) → IsDrawn p out
    → (text : List ℕ) (status : Status) → Ends text status (Some r.run) → IsPictured c status text out
shown r c p out recorded says drawn text status e =
    let s = e.0 in
    let ms = recorded.moves in
    let steps : r.steps ≡ steps_from 0 ms (start all_kinds s.header) = recorded.steps ∙ ap (λ (h : Header). steps_from 0 ms (start all_kinds h)) e.2 in
    let kept : KeepsWorld all_kinds r.run.world (along all_kinds ms (start all_kinds s.header)) =
    subst (λ (h : Header). KeepsWorld all_kinds r.run.world (along all_kinds ms (start all_kinds h))) e.2 recorded.world in
    let same = alike r.run.world (along all_kinds ms (start all_kinds s.header)) (world_of s) kept e.1 in
    inl (
      s,
      e.5,
      record {
        moves = ms;
        run = record { world = same; lines = sym recorded.events ∙ e.4 };
        whole = whole s.header ms (world_of s) same;
        picture = p;
        says = subst (λ (ss : List Step). Says s.header ss c (world_of s) p) steps (subst (λ (h : Header). Says h r.steps c (world_of s) p) e.2 (says (world_of s) e.1));
        drawn = drawn;
      },
    )

pub blank : (c : Cut) (out text : List ℕ) (status : Status) → out ≡ [] → Ends text status None → IsPictured c status text out
blank c out text status e h = inr (h, e)

-- what was written whole
pub written : (c : Cut) (f : Finish) (before after : Option (List ℕ)) (out : List ℕ) (status : Status) → Takes before out after
    → ((text : List ℕ) → Finished text f → IsPictured c (status_of f.end) text out) → status ≡ status_of f.end
    → (text : List ℕ) → Finished text f → (out : List ℕ) × Takes before out after × IsPictured c status text out
written c f before after out status takes shows is text h = (out, takes, subst (λ (x : Status). IsPictured c x text out) (sym is) (shows text h))

pub told : (c : Cut) (left : Option (List ℕ)) (before after : Option (List ℕ)) (f : Finish) (status : Status) → IfSome left (λ text. Finished text f)
    → ((text : List ℕ) → Finished text f → (out : List ℕ) × Takes before out after × IsPictured c status text out)
    → Told left before after (IsPictured c status)
told c None before after f status h w = tt
told c (Some text) before after f status h w = w text h
