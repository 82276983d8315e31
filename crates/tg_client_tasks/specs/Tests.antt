-- The tests of a command. Those of a write's record are made as the write is taken.
use Rattle.std.specs.Prelude.{◌≡◌, ℕ, List, [], ◌∷◌, Option, Some, None}
use Rattle.tg_base.specs.Layouts.{Layout}
use Rattle.tg_kind.specs.Meaning.{Meaning}
use Rattle.tg_protocol.specs.Words.{first_some}
use Rattle.tg_protocol.specs.Layouts.{change_fault}
use Rattle.tg_protocol.specs.Clients.{Client, no_tx, wrong_kind, not_registered, put_fault, write_of, tests}
use Rattle.tg_protocol.specs.Answers.{Moved}
use Rattle.tg_protocol.specs.ClientSteps.{accepts, refused_or}
use Rattle.tg_protocol.specs.Views.{View, state_of, view_version}
use Rattle.tg_protocol.specs.Transactions.{Tx, tx_put}
use Rattle.tg_entry.specs.declared.entry.WriteOp.{WriteOp}
use Rattle.tg_base.specs.declared.ids.Oid.{Oid}
use Rattle.tg_model.specs.declared.command.Command.TheVariants as cmd
use Rattle.tg_model.specs.declared.refusal.Refusal.{Refusal}
use Rattle.tg_model.specs.Kinds.{CommandOf}

module _ (m : Meaning) where
  -- a command's tests, but for that of a write's record
  abbrev pub early_tests : Client m → CommandOf m → List (Option Refusal)
  early_tests c (cmd.Put o op) = no_tx m c ∷ wrong_kind m (m.allows o op) o ∷ not_registered m c o ∷ []
  early_tests c x = tests m c x

  -- why a client for which no command waits refuses a command, before it looks at a write's record
  abbrev pub early : Client m → CommandOf m → Option Refusal
  early c x = first_some (early_tests c x)

  -- what becomes of a command that passed these tests
  abbrev pub taken : Client m → CommandOf m → Moved m
  taken c (cmd.Put o op) = refused_or m c (cmd.Put o op) (put_fault m c.tx (write_of m o op))
  taken c x = accepts m c x

  -- a change may be made in this layout
  abbrev pub IsFine : Layout → CommandOf m → Type 0
  IsFine p (cmd.Reconf x) = change_fault p x ≡ None
  IsFine p x = Unit {0}

  -- the answer to an ask by a state, with the version of what it looks at
  abbrev pub answer_by : View m → Oid → m.ask → Option m.state → Option (m.answer × ℕ)
  answer_by v o q None = None
  answer_by v o q (Some s) = Some (m.answers s q, view_version m v o (m.look q))

  -- by the view, where it hosts the object
  abbrev pub answer_in : Option (View m) → Oid → m.ask → Option (m.answer × ℕ)
  answer_in None o q = None
  answer_in (Some v) o q = answer_by v o q (state_of m v o)

-- a transaction after a write, unless that is refused
abbrev pub put_by : Option Refusal → Tx → WriteOp → Tx
put_by None t w = tx_put t w
put_by (Some why) t w = t
