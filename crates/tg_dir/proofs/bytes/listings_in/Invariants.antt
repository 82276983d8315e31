use Rattle.std.proofs.Common.{◌≡◌, ◌-◌, []}
use Rattle.tg_codec.specs.Codec.{read_many}
use Rattle.tg_codec.proofs.Many.{with_front}
use Rattle.tg_dir.specs.Directories.{listing, after_listing}
use Rattle.tg_dir.proofs.bytes.listings_in.Given as goal

abbrev pub invariant-loop : goal.invariant-loop
invariant-loop l = with_front l.entries.items (read_many listing after_listing (l.count - l.counter) l.entries.items l.rest) ≡ read_many listing after_listing l.count [] l.bytes
