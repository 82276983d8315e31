use Rattle.std.proofs.Common.{◌∙◌}
use Rattle.clap.specs.Words.{found_of}
use Rattle.clap.proofs.WalkLemmas.{first_value-rows}
use Rattle.tango_words.specs.Commands.{form_with}
use Rattle.tango_words.proofs.forms.form_called.Goals as goal

pub returns : goal.returns
returns c = c.form_of_words.ensures ∙ (λ i. form_with c.args.name.now (λ id. first_value-rows (found_of c.args.own.now) id i))
