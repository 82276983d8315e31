use Rattle.std.proofs.Common.{refl, [], ◌++◌}
use Rattle.tg_codec.specs.Codec.{spell_many}
use Rattle.tg_codec.proofs.Many.{spells_on, all_spelled}
use Rattle.tg_dir.specs.Directories.{listing, after_listing}
use Rattle.tg_dir.proofs.bytes.put_listings.Goals as goal

pub loop-entry-init : goal.loop-entry-init
loop-entry-init c = ([], refl)

pub loop-entry-preserved : goal.loop-entry-preserved
loop-entry-preserved c =
    let h = c.loop-entry.invariant in
    spells_on listing after_listing c.loop-entry.out c.put_listing.new.out h.0 c.args.entries.now c.loop-entry.entry-index c.entry-item.result (c.args.out.now ++ spell_many listing after_listing [] c.args.entries.now) c.loop-entry-test.true c.entry-item.is
    (c.in_ok-put_listing.ensures h.0) h.1

pub returns : goal.returns
returns c =
    let h = c.loop-entry.invariant in
    all_spelled listing after_listing c.loop-entry.out h.0 c.args.entries.now c.loop-entry.entry-index (c.args.out.now ++ spell_many listing after_listing [] c.args.entries.now) c.loop-entry-test.false h.1
