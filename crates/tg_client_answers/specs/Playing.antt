-- What is played, in the words of the rules.
use Rattle.std.specs.Prelude.{◌≡◌, ℕ, ◌≤◌, Bool, true, false, nat_le, Option, Some, None, Result, IfOk}
use Rattle.tg_base.specs.declared.fault.NoMemory.{NoMemory}
use Rattle.tg_kind.specs.Meaning.{Meaning}
use Rattle.tg_model.specs.Kinds.{CommandOf}
use Rattle.tg_model.specs.declared.command.Command.TheVariants as cmd
use Rattle.tg_model.specs.declared.play.PlayEnd.{PlayEnd}
use Rattle.tg_protocol.specs.Views.{Entries, View, Play, play}
use Rattle.tg_protocol.specs.Clients.{Client, Work, all_entries}
use Rattle.tg_protocol.specs.Answers.{Moved, own_view, plays_own}
use Rattle.tg_client_state.specs.Tasks.{JobOf, KeepsJob}
use Rattle.tg_client_state.specs.States.{StateOf, MovedOf, Rest, client_of, KeepsViewIf, KeepsMoved}

module _ (m : Meaning) where
  -- A client moves on so, whichever client of the rules is kept: by the client, and the command that waits.
  abbrev pub Follows : StateOf m → JobOf m → Result (MovedOf m) NoMemory → (Client m → Work m → Moved m) → Type 0
  Follows s j x f = (r : Rest m) (w : Work m) (old : ℕ) → old ≤ s.rids.next → KeepsViewIf m s.view r.view → KeepsJob m j w → IfOk x (λ y. KeepsMoved m old y (f (client_of m s r) w))

  -- a command goes by no entry below a settled position but those that its view plays
  abbrev pub goes_by_new : CommandOf m → ℕ → ℕ → Bool
  goes_by_new (cmd.Ask o q) at s = true
  goes_by_new cmd.End at s = nat_le s at
  goes_by_new (cmd.Checkpoint o) at s = true
  goes_by_new cmd.Trim at s = true
  goes_by_new x at s = false

  -- a view is kept that has come so far
  abbrev pub plays_from : Option (View m) → ℕ → Bool
  plays_from None s = false
  plays_from (Some v) s = nat_le s v.upto

  -- these entries do for a command, though they may not be all
  abbrev pub Suffice : Client m → Work m → Entries → Type 0
  Suffice c w es = plays_own m c w es ≡ plays_own m c w (all_entries m c w c.hosted)

  -- what the own view of a client plays
  abbrev pub own_play : Client m → Work m → Entries → ℕ → Play m
  own_play c w es target = play m (own_view m c w es) es target

  -- a client's view has played so
  pub record HasPlayed (s : StateOf m) (r : Rest m) (w : Work m) (es : Entries) (target : ℕ) (t : StateOf m) (ends : PlayEnd) : Type 0 where
    pub state : t ≡ record s { view = t.view }
    pub view : KeepsViewIf m t.view (Some (own_play (client_of m s r) w es target).view)
    pub came : ends ≡ (own_play (client_of m s r) w es target).came
