use Rattle.std.proofs.Common.{◌≡◌, ◌≤◌, ◌+◌, ◌∙◌, length, refl, ap, subst, drop, arith}
use Rattle.tg_replay.specs.Runs.{line_on, line_text}
use Rattle.tg_script.specs.declared.line.Line.{Line}
use Rattle.tg_live.specs.Lives.{is_steps, after_line}
use Rattle.tg_live.specs.Kept.{KeepsRan}
use Rattle.tg_live.proofs.Keeping.{made_keeps, line_longer}
use Rattle.tg_live.specs.Sends.{carried}
use Rattle.tg_live.specs.Breaks.{GrowsFront}
use Rattle.tg_live.specs.Sends.{all_gone}
use Rattle.tg_live.proofs.Breaking.{on_err, front_all, front_wider, front_later}
use Rattle.tg_live.proofs.live.Live.made.Goals as goal

pub make_over-requires-clause-steps : goal.make_over-requires-clause-steps
make_over-requires-clause-steps g c = ap is_steps c.in_ok-noted.ensures.line ∙ c.requires.steps

pub make_over-requires-clause-kept : goal.make_over-requires-clause-kept
make_over-requires-clause-kept g c = c.requires.kept.kept

pub make_over-requires-clause-room : goal.make_over-requires-clause-room
make_over-requires-clause-room g c =
    let few : c.args.self.world.event ≤ length c.args.self.recording = c.requires.kept.few in
    let longer = line_longer c.args.self.recording c.put_line.new.recording (line_text c.in_ok-noted.noted) c.in_ok-noted.ensures.text in
    let bytes : c.len-bytes.result ≡ length c.put_line.new.recording = c.len-bytes.ensures in
    omega (arith, few, longer, bytes)

pub returns-clause-kept : goal.returns-clause-kept
returns-clause-kept g c =
    let few : c.args.self.world.event ≤ length c.args.self.recording = c.requires.kept.few in
    let longer = line_longer c.args.self.recording c.put_line.new.recording (line_text c.in_ok-noted.noted) c.in_ok-noted.ensures.text in
    let one : c.in_ok-ran.ran.world.event ≡ c.args.self.world.event + 1 = c.in_ok-ran.ensures.event in
    record { kept = c.in_ok-ran.ensures.kept; few = omega (arith, few, longer, one) }

pub returns-clause-made : goal.returns-clause-made
returns-clause-made g c = λ h first l k.
    let x = c.in_ok-noted.noted in
    subst (λ (y : Line). KeepsRan h first (carried (g.L.Link.sent c.make_over.new.link) (g.L.Link.acts c.make_over.new.link)) (record { live = record { cluster = c.args.self.cluster; world = c.in_ok-ran.ran.world; book = c.make_over.new.book; recording = c.put_line.new.recording; received = c.args.self.received }; stopped = c.in_ok-ran.ran.stopped }) (after_line l y (line_on l.world y))) c.in_ok-noted.ensures.line
    (record {
      live = made_keeps h first (carried (g.L.Link.sent c.args.link.now) (g.L.Link.acts c.args.link.now)) (carried (g.L.Link.sent c.make_over.new.link) (g.L.Link.acts c.make_over.new.link)) c.args.self
          (record { cluster = c.args.self.cluster; world = c.in_ok-ran.ran.world; book = c.make_over.new.book; recording = c.put_line.new.recording; received = c.args.self.received })
          l x (line_on l.world x) k refl (c.in_ok-ran.ensures.world l.world k.world) (c.in_ok-ran.ensures.sent l.world k.world k.fit) c.in_ok-noted.ensures.text refl;
      stopped = c.in_ok-ran.ensures.stopped l.world k.world;
    })

pub returns-in_err-noted-clause-broken : goal.returns-in_err-noted-clause-broken
returns-in_err-noted-clause-broken g c = λ h first l k.
    on_err c.from_residual.result (front_wider first.acts (g.L.Link.acts c.args.link.now) l.acts _ _ refl (front_all first.acts (g.L.Link.acts c.args.link.now) l.acts k.acts))

pub returns-in_err-ran-clause-broken : goal.returns-in_err-ran-clause-broken
returns-in_err-ran-clause-broken g c = λ h first l k.
    let x = c.in_ok-noted.noted in
    on_err c.from_residual-in_err-ran.result (subst (λ (y : Line). GrowsFront first.acts (after_line l y (line_on l.world y)).live.acts (g.L.Link.acts c.make_over.new.link)) c.in_ok-noted.ensures.line
    (front_later first.acts (g.L.Link.acts c.args.link.now) (g.L.Link.acts c.make_over.new.link) l.acts (all_gone (drop (length l.world.packets) (line_on l.world x).world.packets)) _ refl k.acts (c.in_err-ran.ensures.broken l.world k.world k.fit)))
