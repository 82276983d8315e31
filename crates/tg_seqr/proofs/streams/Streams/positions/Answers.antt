use Rattle.std.proofs.Common.{◌≡◌, ℕ, List, [], Option, ap, subst, ◌∙◌}
use Rattle.std.specs.Prelude.{IfSome, unwrap_or}
use Rattle.tg_base.specs.declared.marks.StreamLink.{StreamLink}
use Rattle.tg_protocol.specs.Entries.{link_of}
use Rattle.tg_protocol.specs.Sequencers.{link_or_new}
use Rattle.tg_seqr.proofs.Keeping.{backs_kept}
use Rattle.tg_seqr.proofs.streams.Streams.positions.Goals as goal

pub returns-in-None : goal.returns-in-None
returns-in-None c =
    subst (λ (o : Option (List ℕ)). IfSome o (λ b. b ≡ [])) c.unwrap.ensures c.of.ensures.positions
    ∙ ap (λ (o : Option (List ℕ)). unwrap_or o []) c.in-None.ensures.value
    ∙ backs_kept c.self.inside.backs.entries c.args.oid
    ∙ ap (λ (ls : List StreamLink). (link_or_new c.args.oid (link_of c.args.oid ls)).backs) c.self.view_is

pub returns-in-Some : goal.returns-in-Some
returns-in-Some c =
    c.copy.ensures
    ∙ ap (λ (o : Option (List ℕ)). unwrap_or o []) c.in-Some.ensures.value
    ∙ backs_kept c.self.inside.backs.entries c.args.oid
    ∙ ap (λ (ls : List StreamLink). (link_or_new c.args.oid (link_of c.args.oid ls)).backs) c.self.view_is
