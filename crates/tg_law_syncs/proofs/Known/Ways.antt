-- What a command leaves of its client where all streams are walked: it ends, or an append, a sync or trims begin.
use Rattle.std.proofs.Common.{◌≡◌, ℕ, List, [], true, refl, Option, Some, None}
use Rattle.std.specs.Prelude.{Contains}
use Rattle.tg_base.specs.declared.cell.Cell.{Cell}
use Rattle.tg_base.specs.declared.ids.Oid.{Oid}
use Rattle.tg_entry.specs.declared.entry.Entry.{Entry}
use Rattle.tg_kind.specs.Meaning.{Meaning}
use Rattle.tg_model.specs.Kinds.{NoteOf}
use Rattle.tg_base.specs.Orders.{with_oid}
use Rattle.tg_protocol.specs.Words.{directory}
use Rattle.tg_protocol.specs.Trimming.{trim_start}
use Rattle.tg_protocol.specs.Views.{View, state_of, play}
use Rattle.tg_protocol.specs.Clients.{Purpose, Work, Client, all_entries}
use Rattle.tg_protocol.specs.Answers.{Moved, replies, pruned, took_over, appends, syncs, walked, own_view, play_target, with_view, floor_of, trim_begun}
use Rattle.tg_protocol.specs.ClientSteps.{plays_kept}
use Rattle.tg_law_layouts.proofs.Moves.Lists.{contained}
use Rattle.tg_law_layouts.proofs.Moves.Members.{has_contained, has_filter}
use Rattle.tg_law_steps.proofs.Places as places
use Rattle.tg_law_steps.proofs.Places.{Place}
use Rattle.tg_law_steps.proofs.Ways.{AllWalked, HasPlayed, LooksBack, IsRescue}
use Rattle.tg_law_steps.proofs.Ends as ending
use Rattle.tg_law_steps.proofs.Along.{over_walks}

module _ (m : Meaning) where
  -- what is left of a client: its view, what it hosts and where it stands, and of its known cells some
  pub record Keeps (c d : Client m) : Type 0 where
    pub cells : (x : ℕ × Cell) → Contains d.cells x → Contains c.cells x
    pub view : d.view ≡ c.view
    pub hosted : d.hosted ≡ c.hosted
    pub stand : d.stand ≡ c.stand

  pub keeps_same : (c : Client m) → Keeps c c
  keeps_same c = record { cells = λ x i. i; view = refl; hosted = refl; stand = refl }

  -- the command ends, or goes on with a machine that begins
  pub data Came (c : Client m) (w : Work m) (x : Moved m) : Type 0 where
    Rests : Keeps c x.now → x.now.work ≡ None → Came c w x
    Appends : (d : Client m) → Keeps c d → d.next ≡ c.next → (e : Entry) (y : Purpose m) (ns : List (NoteOf m)) → x ≡ appends m d w e y ns → Came c w x
    Syncs : (o : Oid) → x ≡ syncs m c w (with_oid o w.oids) → Came c w x
    Trims : (below : ℕ) → x ≡ trim_begun m c w below (trim_start c.stand below c.next) → Came c w x

  pruned_keeps : (c d : Client m) → Keeps c d → Keeps c (pruned m d)
  pruned_keeps c d k = record { cells = λ x i. k.cells x (contained d.cells x (has_filter _ d.cells x (has_contained (pruned m d).cells x i))); view = k.view; hosted = k.hosted; stand = k.stand }

  took_keeps : (c d : Client m) (v : Option (View m)) → Keeps c d → Keeps c (took_over m d v)
  took_keeps c d None k = k
  took_keeps c d (Some v) k = record { cells = k.cells; view = k.view; hosted = k.hosted; stand = k.stand }

  -- Where all streams are walked.

  abbrev pub played_view : Client m → Work m → View m
  played_view c w = (play m (own_view m c w (all_entries m c w c.hosted)) (all_entries m c w c.hosted) (play_target m w w.command)).view

  -- the kept view has played, or the command leaves it alone
  pub data WalkedWay (c : Client m) (w : Work m) (x : Moved m) : Type 0 where
    Plays : plays_kept m w.command ≡ true → Came (with_view m c (played_view c w)) w x → WalkedWay c w x
    LeavesView : Came c w x → WalkedWay c w x

  -- Along the end of a turn, where all streams are walked.

  module _ (c0 : Client m) (w0 : Work m) where
    abbrev At' : Client m → Work m → Place m → Type 0
    At' c w (places.Walks []) = (x : Moved m) → WalkedWay c w x → WalkedWay c0 w0 x
    At' c w (places.Plays es p) = (x : Moved m) → Came c w x → WalkedWay c0 w0 x
    At' c w (places.Looks at o q) = (x : Moved m) → Came c w x → WalkedWay c0 w0 x
    At' c w (places.Rescues at) = (x : Moved m) → Came c w x → WalkedWay c0 w0 x
    At' c w p = ⊥

    plays_way : (c : Client m) (w : Work m) (d : Client m) (q : Place m) → AllWalked m c w d q → At' c w (places.Walks []) → At' d w q
    plays_way c w _ _ (HasPlayed of) k = λ x came. k x (Plays of came)
    plays_way c w _ _ (LooksBack at o q of) k = λ x came. k x (LeavesView came)
    plays_way c w _ _ (IsRescue at of) k = λ x came. k x (LeavesView came)

    replied : (c d : Client m) (w : Work m) (ns : List (NoteOf m)) → Keeps c d → Came c w (replies m d ns)
    replied c d w ns s = Rests (pruned_keeps c d s) refl

    ends_way : (c : Client m) (w : Work m) (p : Place m) (x : Moved m) → ending.End m c w p x → At' c w p → WalkedWay c0 w0 x
    unfolding trim_start
    ends_way c w _ _ (ending.GoesOn _ _ _ (ending.TrimsBegin es p upto of came z)) k = k _ (Trims (floor_of m (state_of m p.view directory)) refl)
    ends_way c w _ _ (ending.GoesOn _ _ _ x) k = absurd k
    ends_way c w _ _ (ending.LearnsNewer _ (ending.SyncLearns bs s)) k = absurd k
    ends_way c w _ _ (ending.LearnsNewer _ x) k = absurd k
    ends_way c w _ _ (ending.Syncs _ _ _ (ending.Widens at o e)) k = k _ (Syncs o refl)
    ends_way c w _ _ (ending.Syncs _ _ _ x) k = absurd k
    ends_way c w _ _ (ending.Appends d e y ns (ending.RescueDecides at so en is i)) k = k _ (Appends d (record { cells = λ x i. i; view = refl; hosted = refl; stand = refl }) refl e y ns refl)
    ends_way c w _ _ (ending.Appends d e y ns x) k = k _ (Appends d (record { cells = λ x i. i; view = refl; hosted = refl; stand = refl }) refl e y ns refl)
    ends_way c w _ _ (ending.Refuses d n why (ending.RecordFull y bs b of)) k = absurd k
    ends_way c w _ _ (ending.Refuses d n why (ending.RecordForgotten y bs p b of)) k = absurd k
    ends_way c w _ _ (ending.Refuses d n why (ending.OtherFull y bs i b of)) k = absurd k
    ends_way c w _ _ (ending.Refuses d n why (ending.OtherForgotten y bs i p b of)) k = absurd k
    ends_way c w _ _ (ending.Refuses d n why (ending.ReconfOvertaken e p)) k = absurd k
    ends_way c w _ _ (ending.Refuses d n why (ending.ReconfNotWhole u pos p)) k = absurd k
    ends_way c w _ _ (ending.Refuses d n why (ending.CopyFault x i rid q f e)) k = absurd k
    ends_way c w _ _ (ending.Refuses d n why x) k = k _ (replied c d w _ (record { cells = λ x i. i; view = refl; hosted = refl; stand = refl }))
    ends_way c w _ _ (ending.Answers d n what (ending.DecidedAt x bs p g e)) k = absurd k
    ends_way c w _ _ (ending.Answers d n what (ending.DecidedLost x bs e l g)) k = absurd k
    ends_way c w _ _ (ending.Answers d n what (ending.JudgedSo x bs p g e)) k = absurd k
    ends_way c w _ _ (ending.Answers d n what (ending.JudgedLost x bs e l g)) k = absurd k
    ends_way c w _ _ (ending.Answers d n what (ending.IsSaved o u bs p g)) k = absurd k
    ends_way c w _ _ (ending.Answers d n what (ending.AreTrimmed b e)) k = absurd k
    ends_way c w _ _ (ending.Answers d n what x) k = k _ (replied c (took_over m d d.view) w _ (took_keeps c d d.view (record { cells = λ x i. i; view = refl; hosted = refl; stand = refl })))
    ends_way c w _ _ (ending.Tells d ns (ending.IsCommitted bs p g)) k = absurd k
    ends_way c w _ _ (ending.Tells d ns (ending.IsRescued x bs p g)) k = absurd k
    ends_way c w _ _ (ending.Tells d ns (ending.IsMarked n o j bs p g)) k = absurd k
    ends_way c w _ _ (ending.Tells d ns (ending.IsCopied x e)) k = absurd k
    ends_way c w _ _ (ending.Tells d ns (ending.IsInstalled e p)) k = absurd k
    ends_way c w _ _ (ending.Tells d ns x) k = k _ (replied c d w _ (record { cells = λ x i. i; view = refl; hosted = refl; stand = refl }))

  pub walked_way : (c : Client m) (w : Work m) → WalkedWay c w (walked m c w)
  walked_way c w = over_walks m (At' c w) (λ x. WalkedWay c w x) (ends_way c w) (plays_way c w) c w (λ x way. way)
