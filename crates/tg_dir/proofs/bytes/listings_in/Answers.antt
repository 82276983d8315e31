use Rattle.std.proofs.Common.{subst, refl, ◌≡◌, List, [], ◌∷◌, ◌++◌, Ok}
use Rattle.std.proofs.lemmas.Result.{err_from_is_err_and}
use Rattle.tg_codec.specs.Reading.{Fails}
use Rattle.tg_codec.specs.Codec.{read_many}
use Rattle.tg_codec.proofs.Many.{goes_on, ends, is_done}
use Rattle.tg_dir.specs.declared.listing.Listing.{Listing}
use Rattle.tg_dir.specs.Directories.{listing, after_listing}
use Rattle.tg_dir.proofs.bytes.listings_in.Goals as goal

pub returns-in_err-entry : goal.returns-in_err-entry
returns-in_err-entry c =
    let p = err_from_is_err_and c.from_residual.result c.from_residual.ensures.1 in
    let fails = subst (λ (before : List Listing). Fails c.in_err-entry.field-0.0 ((listing before).read c.loop.rest.now)) c.deref.ensures.value c.in_err-entry.ensures in
    rw (p.1, p.2)
    (ends listing after_listing c.in_err-entry.field-0.0 c.loop.entries.items c.args.count c.loop.counter c.loop.entries.items c.loop.rest.now (read_many listing after_listing c.args.count [] c.args.bytes.now) c.loop-test.true fails c.loop.invariant)

pub loop-preserved : goal.loop-preserved
loop-preserved c =
    let read = subst (λ (before : List Listing). (listing before).read c.loop.rest.now ≡ Ok (c.in_ok-entry.entry, c.in_ok-entry.after.now)) c.deref.ensures.value c.in_ok-entry.ensures in
    rw c.in_ok-push.ensures.items
    (goes_on listing after_listing c.loop.entries.items c.args.count c.loop.counter c.loop.entries.items (c.loop.entries.items ++ c.in_ok-entry.entry ∷ []) c.loop.rest.now c.in_ok-entry.entry c.in_ok-entry.after.now
    (read_many listing after_listing c.args.count [] c.args.bytes.now) c.loop-test.true read refl c.loop.invariant)

pub returns : goal.returns
returns c =
    is_done listing after_listing c.loop.entries.items c.args.count c.loop.counter c.loop.entries.items c.loop.rest.now (read_many listing after_listing c.args.count [] c.args.bytes.now) c.loop-test.false c.loop.invariant
