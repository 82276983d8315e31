use Rattle.std.proofs.Common.{[], length, ◌++◌}
use Rattle.std.specs.Int.{w32, w64, to_be_bytes}
use Rattle.tg_codec.specs.Codec.{spell_many}
use Rattle.tg_codec.proofs.Many.{glue}
use Rattle.tg_dir.specs.Directories.{listing, after_listing}
use Rattle.tg_dir.proofs.bytes.put_state.Goals as goal

pub returns : goal.returns
returns c =
    glue c.args.out.now (to_be_bytes w32 (length c.args.entries.now) ++ spell_many listing after_listing [] c.args.entries.now) (to_be_bytes w64 c.args.floor) c.put_entries.new.out c.put_u64.new.out c.in_ok-put_entries.ensures c.in_ok-put_u64.ensures
