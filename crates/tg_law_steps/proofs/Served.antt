-- Which commands come to which ends of a turn where the kept view has played.
use Rattle.std.proofs.Common.{◌≡◌, ℕ}
use Rattle.tg_kind.specs.Meaning.{Meaning}
use Rattle.tg_model.specs.declared.command.Command.TheVariants as cmd
use Rattle.tg_model.specs.declared.refusal.Refusal.{Refusal}
use Rattle.tg_model.specs.Kinds.{CommandOf}
use Rattle.tg_protocol.specs.Views.{Entries, Play}
use Rattle.tg_protocol.specs.Clients.{Work, Client}
use Rattle.tg_law_steps.proofs.Places.{Plays}
use Rattle.tg_law_steps.proofs.Ends.{IsOther, OtherHost, IsRefused, AskBlocked, AskClosed, AskMissing, FateBlocked, FateUnknown, FateForgotten, DecideForgotten, DecideBlocked, DecideUnknown, SaveBlocked, SaveLarge, ForgetBlocked, ForgetUnsaved, ForgetOpen, TrimBlocked}

module _ (m : Meaning) (c : Client m) (w : Work m) (es : Entries) (p : Play m) where
  -- a commit record's own `end` isn't refused there
  pub refused_other : (d : Client m) (n : ℕ) (why : Refusal) → IsRefused m c w (Plays es p) d n why → w.command ≡ cmd.End → ⊥
  refused_other _ _ _ (AskBlocked _ _ o q r x of a) e = cc
  refused_other _ _ _ (AskClosed _ _ o q upto of a t) e = cc
  refused_other _ _ _ (AskMissing _ _ o q upto t of a is s) e = cc
  refused_other _ _ _ (FateBlocked _ _ at q x of a b) e = cc
  refused_other _ _ _ (FateUnknown _ _ at r o of k f i v) e = cc
  refused_other _ _ _ (FateForgotten _ _ at b of k f t) e = cc
  refused_other _ _ _ (DecideForgotten _ _ at b of t) e = cc
  refused_other _ _ _ (DecideBlocked _ _ at q x of t a b) e = cc
  refused_other _ _ _ (DecideUnknown _ _ at r o of t k i v) e = cc
  refused_other _ _ _ (SaveBlocked _ _ o q x of a) e = cc
  refused_other _ _ _ (SaveLarge _ _ upto o of a l) e = cc
  refused_other _ _ _ (ForgetBlocked _ _ o n q x of a) e = cc
  refused_other _ _ _ (ForgetUnsaved _ _ upto o n of a f) e = cc
  refused_other _ _ _ (ForgetOpen _ _ upto o n at of a f) e = cc
  refused_other _ _ _ (TrimBlocked _ _ q x of a) e = cc

-- and commands that don't play aren't it
pub other_not_end : (m : Meaning) (x : CommandOf m) → IsOther m x → x ≡ cmd.End → ⊥
other_not_end m _ (OtherHost o) e = cc
other_not_end m _ k e = cc
