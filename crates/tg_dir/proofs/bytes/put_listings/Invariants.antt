use Rattle.std.proofs.Common.{◌≡◌, ◌++◌, [], List, drop}
use Rattle.tg_codec.specs.Codec.{spell_many}
use Rattle.tg_dir.specs.declared.listing.Listing.{Listing}
use Rattle.tg_dir.specs.Directories.{listing, after_listing}
use Rattle.tg_dir.proofs.bytes.put_listings.Given as goal

-- after some entries, what is left is spelled as the rest of the whole
abbrev pub invariant-loop-entry : goal.invariant-loop-entry
invariant-loop-entry l =
    (before : List Listing) × (l.out ++ spell_many listing after_listing before (drop l.entry-index l.entries) ≡ l.fn.out ++ spell_many listing after_listing [] l.entries)
