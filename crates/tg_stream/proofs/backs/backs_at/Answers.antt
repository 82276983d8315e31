use Rattle.std.proofs.Common.{ap, subst}
use Rattle.std.specs.Prelude.{option_copied}
use Rattle.tg_stream.specs.Pages.{Says}
use Rattle.tg_stream.proofs.Kept.{kept-listed}
use Rattle.tg_stream.proofs.backs.backs_at.Goals as goal

pub returns-in-Some : goal.returns-in-Some
returns-in-Some c =
    kept-listed c.args.oid c.args.pos c.args.page.now c.in-Some.entry.now c.as_slice.result.now c.backs_among.result (subst (Says c.args.page.now) (ap option_copied c.in-Some.is) c.kept.ensures) c.as_slice.ensures
    c.backs_among.ensures
