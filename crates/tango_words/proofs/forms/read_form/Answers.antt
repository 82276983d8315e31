use Rattle.std.proofs.Common.{◌∙◌, map, sym, string_bytes}
use Rattle.clap.specs.Words.{app_of}
use Rattle.tango_words.proofs.Flags.{flagged_is_none}
use Rattle.tango_words.proofs.Matched.{refused_form, taken_form}
use Rattle.tango_words.proofs.forms.read_form.Goals as goal

pub returns-then-has_flag : goal.returns-then-has_flag
returns-then-has_flag c = sym (flagged_is_none (map string_bytes c.args.words.now) (sym c.has_flag.ensures ∙ c.if-has_flag.true))

pub returns-in-Ok : goal.returns-in-Ok
returns-in-Ok c =
    c.form_met.ensures ∙ taken_form (app_of c.in_ok-command.field-0) (map string_bytes c.args.words.now) c.in-Ok.matches c.in_ok-command.ensures
    (sym c.has_flag.ensures ∙ c.if-has_flag.false) c.in-Ok.ensures.kinds c.in-Ok.ensures.matches

pub returns-in-Err : goal.returns-in-Err
returns-in-Err c =
    refused_form (app_of c.in_ok-command.field-0) (map string_bytes c.args.words.now) c.in-Err.error c.refused.result c.in_ok-command.ensures
    (sym c.has_flag.ensures ∙ c.if-has_flag.false) c.in-Err.ensures.kinds c.refused.ensures.none c.refused.ensures.memory
