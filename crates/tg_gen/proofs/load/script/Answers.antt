use Rattle.tg_gen.specs.Loads.{header_text, hosting, rounds}
use Rattle.tg_gen.proofs.Texts.{whole}
use Rattle.tg_gen.proofs.load.script.Goals as goal

pub returns : goal.returns
returns c =
    whole c.new-out.result header_text c.put_header.new.out c.put_hosting.new.out c.put_rounds.new.out hosting (rounds c.args.start c.args.count c.args.count)
    c.new-out.ensures c.in_ok-put_header.ensures c.in_ok-put_hosting.ensures c.in_ok-put_rounds.ensures
