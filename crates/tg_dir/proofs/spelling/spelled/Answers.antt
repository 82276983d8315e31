use Rattle.std.proofs.Common.{◌∙◌}
use Rattle.tg_dir.specs.SpellingLaws.{spelling_taken}
use Rattle.tg_dir.proofs.spelling.spelled.Goals as goal

pub unwrap-requires : goal.unwrap-requires
unwrap-requires c = spelling_taken c.args.oid c.as_str.result.now c.in_ok-text.text c.requires (c.as_str.ensures.value ∙ c.in_ok-word.ensures) c.in_ok-text.ensures
