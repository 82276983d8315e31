use Rattle.std.proofs.Common.{arith, ◌≤◌, ◌∙◌, ap, length}
use Rattle.std.specs.List.{list_all}
use Rattle.std.proofs.lemmas.Bool.Decides.{nat_tests}
use Rattle.tg_kind.specs.Texts.{is_letter, fits_letters}
use Rattle.tg_kind.proofs.text.is_text.Goals as goal

pub returns : goal.returns
returns c =
    let some : 1 ≤ length c.args.word.now = grind (arith, nat_tests) in
    let few : length c.args.word.now ≤ 4096 = grind (arith, nat_tests) in
    c.are_letters.ensures ∙ ap (list_all is_letter) c.as_bytes-bytes.ensures.value ∙ fits_letters c.args.word.now some few
