-- What a client has to play with, once its streams are walked: entries of the log, and a true view that can answer its command.
use Rattle.std.specs.Prelude.{◌≡◌, ℕ, ◌<◌, ◌≤◌, List, Some, None}
use Rattle.tg_base.specs.declared.ids.Oid.{Oid}
use Rattle.tg_entry.specs.declared.entry.Entry.{Entry}
use Rattle.tg_kind.specs.Meaning.{Meaning}
use Rattle.tg_model.specs.Kinds.{CommandOf}
use Rattle.tg_model.specs.declared.command.Command.TheVariants as cmd
use Rattle.tg_model.specs.declared.play.PlayEnd.TheVariants.{Played, Blocked}
use Rattle.tg_protocol.specs.Words.{directory}
use Rattle.tg_protocol.specs.Views.{Entries, Base, View, Play, base_of, state_of, fate_of, play}
use Rattle.tg_protocol.specs.Checkpoints.{view_bases}
use Rattle.tg_protocol.specs.Past.{commit_at, PastView, past_at}
use Rattle.tg_protocol.specs.Transactions.{Tx}
use Rattle.tg_protocol.specs.Clients.{Work, Client, member_entries, all_entries}
use Rattle.tg_protocol.specs.Answers.{own_view}
use Rattle.tg_law_replies.specs.Plays.Sound.{AreBases, base_among}
use Rattle.tg_law_replies.specs.History.Logs.{state_below}
use Rattle.tg_law_replies.specs.Views.Views.{IsTrueBase, IsTrueView, AreTrueDecisions, AreEntriesFor, CanJudge}
use Rattle.tg_law_replies.specs.Replies.Found.{mine, target}
use Rattle.tg_law_replies.specs.Views.Looking.{IsTrueAt, IsRescuer}

module _ (m : Meaning) (objects : List Oid) (es : Entries) where
  -- A client whose streams are walked.

  -- a play isn't blocked at a position or below it
  abbrev pub GoesPast : Play m → ℕ → Type 0
  GoesPast y p = (q : ℕ) (x : Oid) → y.came ≡ Blocked q x → p < q

  -- an object that is hosted, based no further than a tail, and whose saved bytes load
  pub record CanSave (v : View m) (o : Oid) (t : ℕ) : Type 0 where
    pub base : Base m
    pub hosted : base_of m v o ≡ Some base
    pub low : base.upto ≤ t
    pub loads : m.load o (m.save (state_below m objects es t o)) ≡ Some (state_below m objects es t o)

  -- of a true view, and of what it is once it has played, by the command
  abbrev pub Suits : Entries → Work m → View m → Play m → CommandOf m → Type 0
  Suits own w v y (cmd.Fate p) = IsTrueView m objects es v → (e : Entry) → commit_at own p ≡ Some e → fate_of m y.view p ≡ None → GoesPast y p → CanJudge m y.view own p e
  Suits own w v y (cmd.Decide p) = IsTrueView m objects es v → (e : Entry) → commit_at own p ≡ Some e → fate_of m y.view p ≡ None → GoesPast y p → CanJudge m y.view own p e
  Suits own w v y (cmd.Checkpoint o) = y.view.upto ≡ w.tail → CanSave y.view o w.tail
  Suits own w v y x = Unit {0}

  abbrev pub view_of : Client m → Work m → View m
  view_of c w = own_view m c w (mine m c w)

  abbrev pub played : Client m → Work m → Play m
  played c w = play m (view_of c w) (mine m c w) (target m w)

  -- its entries are those of the log, none of a hosted stream lacks, and what it loads of them is so
  pub record IsReadyToPlay (c : Client m) (w : Work m) : Type 0 where
    pub bases : c.view ≡ None → (o : Oid) (b : Base m) → base_among m (view_bases m (mine m c w) w.trims c.objects c.hosted) o ≡ Some b → IsTrueBase m objects es o b
    pub lawful : c.view ≡ None → AreBases m (view_bases m (mine m c w) w.trims c.objects c.hosted)
    pub dir : (b : Base m) × (base_of m (view_of c w) directory ≡ Some b)
    pub entries : AreEntriesFor m objects es (view_of c w) (mine m c w) (target m w)
    pub decisions : AreTrueDecisions m objects es (mine m c w)
    pub low : (view_of c w).upto ≤ target m w
    pub based : (o : Oid) (t : m.state) → state_of m (played c w).view o ≡ Some t → (b : Base m) × (base_of m (played c w).view o ≡ Some b) × (b.upto ≤ w.tail)
    pub first : (o : Oid) (q : m.ask) (t : Tx) → w.command ≡ cmd.Ask o q → c.tx ≡ Some t → t.snapshot ≡ None
    pub suits : Suits (mine m c w) w (view_of c w) (played c w) w.command

  abbrev pub IsReady : Client m → Work m → CommandOf m → Type 0
  IsReady c w (cmd.AskAt p o q) =
      p ≤ w.tail → (v : Play m) (t : ℕ) → past_at m (member_entries m c w w.oids) w.trims w.oids c.objects o p ≡ PastView v → v.came ≡ Played t → IsTrueAt m objects es v.view p o
  IsReady c w (cmd.Rescue p) = (e : Entry) → commit_at (all_entries m c w w.oids) p ≡ Some e → IsRescuer m objects es (all_entries m c w w.oids) w.trims w.oids c.objects p e
  IsReady c w x = IsReadyToPlay c w

  abbrev pub Ready : Client m → Work m → Type 0
  Ready c w = IsReady c w w.command
