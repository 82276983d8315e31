-- What commands give and what replies tell, as far as it keeps the words of its fields.
use Rattle.std.proofs.Common.{◌≡◌, ℕ, ◌<◌, List, [], ◌∷◌, true, arith, Some, None, Option}
use Rattle.tg_base.specs.declared.change.Join.{Join}
use Rattle.tg_base.specs.declared.ids.Oid.{Oid}
use Rattle.tg_kind.specs.Meaning.{Meaning}
use Rattle.tg_model.specs.declared.command.Command.TheVariants as cmd
use Rattle.tg_model.specs.declared.refusal.Refusal.{Refusal}
use Rattle.tg_model.specs.declared.refusal.Refusal.TheVariants as cause
use Rattle.tg_model.specs.declared.trace.What.TheVariants as told
use Rattle.tg_model.specs.Kinds.{CommandOf, WhatOf, NoteOf}
use Rattle.tg_proj.specs.Refusals.{coming}
use Rattle.tg_law_layouts.proofs.Moves.Members.{Has}
use Rattle.tg_law_programs.proofs.Transcripts.Near.{Near}

-- a number of 16 bits
abbrev pub Few : ℕ → Type 0
Few n = n < 65536

abbrev pub JoinOk : Option Join → Type 0
JoinOk None = Unit {0}
JoinOk (Some j) = Few j.unit × Near j.range × Near j.stripe

abbrev pub AreFew : List ℕ → Type 0
AreFew us = (u : ℕ) → Has us u → Few u

module _ (m : Meaning) (Named : Oid → Type 0) (OpOk : m.op → Type 0) (AskOk : m.ask → Type 0) where
  -- what a command gives
  abbrev pub CommandOk : CommandOf m → Type 0
  CommandOk (cmd.Host o) = Named o
  CommandOk (cmd.Put o op) = Named o × OpOk op
  CommandOk (cmd.Ask o q) = Named o × AskOk q
  CommandOk (cmd.Fate at) = Near at
  CommandOk (cmd.Decide at) = Near at
  CommandOk (cmd.Checkpoint o) = Named o
  CommandOk (cmd.Forget o n) = Named o × Near n
  CommandOk (cmd.Reconf c) = JoinOk c.join × AreFew (coming c)
  CommandOk (cmd.Copy u r s) = Few u × Near r × Near s
  CommandOk (cmd.AskAt at o q) = Near at × Named o × AskOk q
  CommandOk (cmd.Rescue at) = Near at
  CommandOk x = Unit {0}

  -- the ask of a command that was taken is one of its object's
  abbrev pub AllowedOk : CommandOf m → Type 0
  AllowedOk (cmd.Ask o q) = m.allows_ask o q ≡ true
  AllowedOk (cmd.AskAt at o q) = m.allows_ask o q ≡ true
  AllowedOk x = Unit {0}

  -- why it is refused; how large an entry would be isn't asked here
  abbrev pub WhyOk : Refusal → Type 0
  WhyOk (cause.NotHosted o) = Named o
  WhyOk (cause.NotRegistered o) = Named o
  WhyOk (cause.WrongKind o) = Named o
  WhyOk (cause.Undecided p x) = Near p × Named x
  WhyOk (cause.LogFull l) = Near l
  WhyOk (cause.Forgotten p b) = Near p × Near b
  WhyOk (cause.NoReplica r s) = Near r × Near s
  WhyOk (cause.Returned u) = Few u
  WhyOk (cause.Overtaken e) = Near e
  WhyOk (cause.OpenDecision p) = Near p
  WhyOk (cause.NoCheckpoint o) = Named o
  WhyOk (cause.NotClosed r) = Near r
  WhyOk (cause.NoStripe r s) = Near r × Near s
  WhyOk (cause.InChain u) = Few u
  WhyOk (cause.NotWhole u p) = Few u × Near p
  WhyOk (cause.Ahead t) = Near t
  WhyOk why = Unit {0}

  -- what a reply with this number of a transaction tells; where the log has what it tells of isn't asked here, nor what an answer is
  abbrev pub SayOk : ℕ → WhatOf m → Type 0
  SayOk x (told.Put o op) = Named o × OpOk op
  SayOk x (told.Asked o q at a) = Named o × AskOk q × (m.allows_ask o q ≡ true) × Near at × (0 < x)
  SayOk x (told.Committed p) = Near p
  SayOk x (told.Hosted o) = Named o
  SayOk x (told.Fate p b) = Near p
  SayOk x (told.Decided p b) = Near p
  SayOk x (told.Rescued p b) = Near p
  SayOk x (told.Saved o p u) = Named o × Near p × Near u
  SayOk x (told.Marked o n) = Named o × Near n
  SayOk x (told.Installed e) = Near e
  SayOk x (told.Refused why) = WhyOk why
  SayOk x (told.Copied u r s) = Few u × Near r × Near s
  SayOk x (told.Past o q p a) = Named o × AskOk q × (m.allows_ask o q ≡ true) × Near p
  SayOk x what = Unit {0}

  abbrev pub NotesOk : List (NoteOf m) → Type 0
  NotesOk [] = Unit {0}
  NotesOk (n ∷ ns) = SayOk n.tx n.what × NotesOk ns

  -- a reply that may be given without a transaction may be given in one
  pub at_number : (x : ℕ) (what : WhatOf m) → SayOk 0 what → SayOk x what
  at_number x (told.Asked o q at a) k = let less = k.4 in absurd (omega (arith, less))
  at_number x what k = k
