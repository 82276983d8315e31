use Rattle.std.proofs.Common.{rules, ◌≡◌, ◌∙◌, false}
use Rattle.tg_entry.specs.Needs.{reads_of, writes_of, names_another}
use Rattle.tg_entry.proofs.Deciding.{needs_told}
use Rattle.tg_entry.proofs.needs.needs_decision.Goals as goal

pub returns-in-Commit : goal.returns-in-Commit
returns-in-Commit c =
    let told : c.names_another.result ≡ names_another (reads_of c.args.entry.now) (writes_of c.args.entry.now) = search rules in
    told ∙ needs_told c.args.entry.now

pub returns-in-Decision : goal.returns-in-Decision
returns-in-Decision c =
    let told : false ≡ names_another (reads_of c.args.entry.now) (writes_of c.args.entry.now) = search rules in
    told ∙ needs_told c.args.entry.now

pub returns-in-Decision-2 : goal.returns-in-Decision-2
returns-in-Decision-2 c =
    let told : false ≡ names_another (reads_of c.args.entry.now) (writes_of c.args.entry.now) = search rules in
    told ∙ needs_told c.args.entry.now
