use Rattle.std.proofs.Common.{◌≡◌, ◌∙◌, ap, true}
use Rattle.tg_entry.specs.Drafts.{all_below}
use Rattle.tg_entry.proofs.Rising.{still_rising}
use Rattle.tg_entry.proofs.drafts.Entries.push.Goals as goal

pub invariant_of-self-2 : goal.invariant_of-self-2
invariant_of-self-2 c =
    let below : all_below c.args.at c.self.inside.list ≡ true = ap (all_below c.args.at) c.self.view_is ∙ c.requires in
    let still = still_rising c.self.inside.list c.args.at c.args.entry c.self.invariant below in
    rw c.in_ok-push.ensures.ok still
