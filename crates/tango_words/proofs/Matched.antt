-- From what `clap` answered to the form.
use Rattle.std.proofs.Common.{◌≡◌, ◌∙◌, ◌↔◌, true, false, refl, sym, ap, ap₂, subst, List, [], Option, None, Result, Ok, Err, IfOk, IsErr, inl, inr}
use Rattle.std.specs.List.{list_any}
use Rattle.clap.specs.Words.{AddsSubcommand, App, HasKind, HasMatchesOf, IsAmong, Text, fault_of, is_simple, is_simple_and_free, kind_of, app_of, subcommand_of, subcommand_rows_of, with_subcommand}
use Rattle.clap.specs.declared.builder.command.Command.{Command}
use Rattle.clap.specs.declared.builder.command.Command.TheViews.{out-Command as fields_of}
use Rattle.clap.specs.declared.error.Error.{Error}
use Rattle.clap.specs.declared.error.kind.ErrorKind.TheVariants as kind
use Rattle.clap.specs.declared.parser.matches.ArgMatches.{ArgMatches}
use Rattle.clap.proofs.OnLiterals.{clap_on_literals}
use Rattle.tango_words.specs.declared.forms.Form.{Form}
use Rattle.tango_words.specs.Forms.{form_of}
use Rattle.tango_words.specs.Commands.{begins_with_dash, command_app, form_named}
use Rattle.tango_words.proofs.Parses.{told}

-- one subcommand more
pub added : (old sub new : Command) (a b : App) → AddsSubcommand old sub new → (fields_of sub).has_globals ≡ false → app_of old ≡ a → app_of sub ≡ b
    → app_of new ≡ with_subcommand a b.top
added old sub new a b adds local is own = adds.shape local ∙ ap₂ (λ (x y : App). with_subcommand x y.top) is own

command_is_simple : is_simple command_app ≡ true
unfolding clap_on_literals
command_is_simple = refl

command_is_plain : is_simple_and_free command_app ≡ true
unfolding clap_on_literals
command_is_plain = refl

-- an `Ok` of `clap` has the form of the words
pub taken_form : (app : App) (words : List Text) (m : ArgMatches) → app ≡ command_app → list_any begins_with_dash words ≡ false
    → (is_simple_and_free app ≡ true → fault_of app words ≡ []) → HasMatchesOf app words m → form_named (subcommand_rows_of m) ≡ form_of words
taken_form app words m ours no_dash passes matches =
    let fault : fault_of command_app words ≡ [] = ap (λ (a : App). fault_of a words) (sym ours) ∙ passes (ap is_simple_and_free ours ∙ command_is_plain) in
    elim (told words no_dash) [
      | inl t ↦ ap form_named ((matches (ap is_simple ours ∙ command_is_simple)).1 ∙ ap (λ (a : App). subcommand_of a words) ours) ∙ t.1
      | inr f ↦ absurd (f.0 fault)
    ]

-- words that `clap` refuses, not for want of memory, are no form
pub refused_form : {E : Type 0} (app : App) (words : List Text) (e : Error) (r : Result (Option Form) E) → app ≡ command_app
    → list_any begins_with_dash words ≡ false → (is_simple_and_free app ≡ true → HasKind (fault_of app words) e) → IfOk r (λ form. form ≡ None)
    → (IsErr r ↔ (kind_of e ≡ kind.OutOfMemory)) → IfOk r (λ form. form ≡ form_of words)
refused_form app words e (Err x) ours no_dash fails none memory = tt
refused_form app words e (Ok form) ours no_dash fails none memory =
    elim (told words no_dash) [
      | inl t ↦ elim (fails (ap is_simple_and_free ours ∙ command_is_plain)) [
        | inl out ↦
            let clash : false ≡ true = memory.1 out in
            absurd cc
        | inr among ↦ absurd (subst (IsAmong (kind_of e)) (ap (λ (a : App). fault_of a words) ours ∙ t.0) among)
      ]
      | inr f ↦ none ∙ sym f.1
    ]
