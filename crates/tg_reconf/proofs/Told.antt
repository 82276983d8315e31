-- What a newer layout makes of a machine.
use Rattle.std.proofs.Common.{◌≡◌, ℕ, ◌+◌, Bool, true, false, ◌&&◌, List, [], ◌∷◌, length, refl, sym, ap, ◌∙◌, arith}
use Rattle.std.specs.Prelude.{◌==◌, if◌then◌else◌}
use Rattle.tg_base.specs.Layouts.{Layout}
use Rattle.tg_base.specs.declared.marks.StreamLink.{StreamLink}
use Rattle.tg_protocol.specs.Appending.{names_all}
use Rattle.tg_protocol.specs.Requests.{Waits, without_wait, passes}
use Rattle.tg_protocol.specs.Reconfiguring.{ReconfWork, SealingSpare, Telling, has_rid, is_majority, own_decided, tells, adopts, heard, heard_on, reconf_latest, on_newer, is_own}
use Rattle.tg_reconf.specs.declared.plan.Plan.{Plan}
use Rattle.tg_reconf.specs.declared.job.Work.{Work}
use Rattle.tg_reconf.specs.declared.job.Work.TheVariants as work
use Rattle.tg_reconf.specs.States.{working, work_of, is_telling}

pub told_stays : (p : Plan) (w : Work) (q : Layout) (n : ℕ) → is_telling w ≡ true →
    own_decided (working p (work_of w)) (work_of w) q n ≡ passes n (working p (work_of w))
told_stays p (work.Tells ws k t) q n h = refl
told_stays p _ q n h = absurd (cc)

pub others_tell : (p : Plan) (w : Work) (q : Layout) (n : ℕ) → is_telling w ≡ false →
    own_decided (working p (work_of w)) (work_of w) q n ≡ tells (working p (SealingSpare 0)) q n
others_tell p (work.Tells ws k t) q n h = absurd (cc)
others_tell p _ q n h = refl

pub no_links : (ls : List StreamLink) → (length ls == 0) ≡ true → names_all [] ls ≡ true
no_links [] h = refl
no_links (l ∷ ls) h = absurd (grind arith)

-- Whatever the machine names as its work.

adopts_same : (p : Plan) (w y : ReconfWork) (q : Layout) (n : ℕ) (b : Bool) → adopts (working p w) q n b ≡ adopts (working p y) q n b
adopts_same p w y q n true = refl
adopts_same p w y q n false = refl

heard_same : (p : Plan) (w y : ReconfWork) (ws : Waits) (k : ℕ) (q : Layout) (n : ℕ) (b : Bool) → heard_on (working p w) ws k q n b ≡ heard_on (working p y) ws k q n b
heard_same p w y ws k q n true = adopts_same p w y q n (q.by == p.me)
heard_same p w y ws k q n false = refl

-- an answer that counts as heard, and one that doesn't

pub told_heard : (p : Plan) (ws vs : Waits) (k u rid : ℕ) (t q : Layout) (n : ℕ) → vs ≡ without_wait u ws → (has_rid u rid ws && (q.epoch == p.stand.proj.epoch + 1)) ≡ true →
    reconf_latest (working p (Telling ws k t)) (Telling ws k t) u rid q n ≡ heard_on (working p (SealingSpare 0)) vs (k + 1) t n (is_majority (working p (SealingSpare 0)) (k + 1))
unfolding reconf_latest
told_heard p ws vs k u rid t q n e h =
    let r = working p (Telling ws k t) in
    let s = working p (SealingSpare 0) in
    ap (λ b. if b then heard r u ws k t n else on_newer r q n (is_own r q)) h ∙ heard_same p (Telling ws k t) (SealingSpare 0) (without_wait u ws) (k + 1) t n (is_majority r (k + 1))
    ∙ ap (λ xs. heard_on s xs (k + 1) t n (is_majority s (k + 1))) (sym e)

pub told_newer : (p : Plan) (ws : Waits) (k u rid : ℕ) (t q : Layout) (n : ℕ) → (has_rid u rid ws && (q.epoch == p.stand.proj.epoch + 1)) ≡ false →
    reconf_latest (working p (Telling ws k t)) (Telling ws k t) u rid q n ≡ on_newer (working p (Telling ws k t)) q n (is_own (working p (Telling ws k t)) q)
unfolding reconf_latest
told_newer p ws k u rid t q n h =
    let r = working p (Telling ws k t) in
    ap (λ b. if b then heard r u ws k t n else on_newer r q n (is_own r q)) h
