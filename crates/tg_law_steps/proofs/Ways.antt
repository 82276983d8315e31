-- How a turn goes on from one place to the next.
use Rattle.std.proofs.Common.{◌≡◌, ℕ, List, [], ◌∷◌, true, false, Some, None}
use Rattle.std.specs.Prelude.{◌==◌}
use Rattle.tg_base.specs.Layouts.{Layout}
use Rattle.tg_base.specs.declared.cell.Cell.{Cell}
use Rattle.tg_base.specs.declared.ids.Oid.{Oid}
use Rattle.tg_base.specs.declared.marks.StreamLink.{StreamLink}
use Rattle.tg_base.specs.declared.packet.Out.{Out}
use Rattle.tg_kind.specs.Meaning.{Meaning}
use Rattle.tg_model.specs.declared.command.Command.TheVariants as cmd
use Rattle.tg_protocol.specs.Requests.{Ends, Turn}
use Rattle.tg_protocol.specs.Replies.{Reply}
use Rattle.tg_protocol.specs.Appending.{Append, AppendEnd, append_feed, append_again}
use Rattle.tg_protocol.specs.Syncing.{Sync, Confirmed, sync_feed, sync_again}
use Rattle.tg_protocol.specs.Walking.{Walk, Members, walk_feed, walk_again}
use Rattle.tg_protocol.specs.Trimming.{Trims, Trimmed, trim_start, trim_feed, Copying, CopyEnd, copy_start, copy_feed}
use Rattle.tg_protocol.specs.Reconfiguring.{Reconf, ReconfEnd, reconf_feed, reconf_latest}
use Rattle.tg_protocol.specs.Views.{Play, play}
use Rattle.tg_protocol.specs.Clients.{Purpose, Syncing, Walking, Appending, Trimming, Copying', Reconfiguring, Work, Client, all_entries, copy_fault}
use Rattle.tg_protocol.specs.Answers.{own_view, play_target, with_view}
use Rattle.tg_protocol.specs.ClientSteps.{after_turn, met, takes_back, found_by, start_walk, lo_for, knows, plays_kept, stale, gives_up, stands}
use Rattle.tg_law_steps.proofs.Places.{Place, Feeds, Newer, OnSync, OnWalk, OnAppend, OnTrims, OnCopy, OnReconf, Over, Walks, Plays, Looks, Rescues}

module _ (m : Meaning) where
  -- The turns of machines: for an awaited answer, and in a newer layout.

  abbrev pub sync_fed : Client m → Sync → ℕ → Reply → Turn Sync Confirmed
  sync_fed c s n x = sync_feed c.stand s s.work n x c.next

  abbrev pub walk_fed : Client m → Walk → ℕ → Reply → Turn Walk Members
  walk_fed c k n x = walk_feed c.stand k k.job n x c.next

  abbrev pub append_fed : Client m → Append → ℕ → Reply → Turn Append AppendEnd
  append_fed c a n x = append_feed c.stand a a.work n x c.next

  abbrev pub trims_fed : Client m → Trims → ℕ → Reply → Turn Trims Trimmed
  trims_fed c t n x = trim_feed c.stand t n x c.next

  abbrev pub copy_fed : Client m → Copying → ℕ → Reply → Turn Copying CopyEnd
  copy_fed c y n x = copy_feed c.stand y y.work n x c.next

  abbrev pub reconf_fed : Client m → Reconf → ℕ → ℕ → Reply → Turn Reconf ReconfEnd
  reconf_fed c r n rid x = reconf_feed r r.work n rid x c.next

  abbrev pub reconf_newer : Client m → Reconf → ℕ → ℕ → Layout → Turn Reconf ReconfEnd
  reconf_newer c r n rid q = reconf_latest r r.work n rid q c.next

  abbrev pub copy_begun : Client m → Copying → Turn Copying CopyEnd
  copy_begun c x = copy_start x.unit x.range x.stripe c.next

  -- from a client and its work at a place, to those at the next
  pub data Way (c : Client m) (w : Work m) : Place m → Client m → Work m → Place m → Type 0 where
    -- a machine takes an awaited answer
    FeedsSync : (s : Sync) (n rid : ℕ) (x : Reply) → Way c w (Feeds (Syncing s) n rid x) (after_turn m c (sync_fed c s n x)) (met m w (sync_fed c s n x)) (OnSync (sync_fed c s n x).besides (sync_fed c s n x).to)
    FeedsWalk : (k : Walk) (os : List Oid) (n rid : ℕ) (x : Reply) → Way c w (Feeds (Walking k os) n rid x) (after_turn m c (walk_fed c k n x)) (met m w (walk_fed c k n x)) (OnWalk k.oid os (walk_fed c k n x).to)
    FeedsAppend : (a : Append) (y : Purpose m) (n rid : ℕ) (x : Reply)
        → Way c w (Feeds (Appending a y) n rid x) (after_turn m c (append_fed c a n x)) (met m w (append_fed c a n x)) (OnAppend y (append_fed c a n x).besides (append_fed c a n x).to)
    FeedsTrims : (t : Trims) (n rid : ℕ) (x : Reply) → Way c w (Feeds (Trimming t) n rid x) (after_turn m c (trims_fed c t n x)) (met m w (trims_fed c t n x)) (OnTrims t.below (trims_fed c t n x).to)
    FeedsCopy : (y : Copying) (n rid : ℕ) (x : Reply) → Way c w (Feeds (Copying' y) n rid x) (after_turn m c (copy_fed c y n x)) (met m w (copy_fed c y n x)) (OnCopy y (copy_fed c y n x).to)
    FeedsReconf : (r : Reconf) (n rid : ℕ) (x : Reply) → Way c w (Feeds (Reconfiguring r) n rid x) (after_turn m c (reconf_fed c r n rid x)) w (OnReconf (reconf_fed c r n rid x).to)
    -- and goes on in a newer layout
    NewerSync : (s : Sync) (n rid : ℕ) (q : Layout)
        → Way c w (Newer (Syncing s) n rid q) (after_turn m (stands m c q) (sync_again s c.next)) (met m (record w { gone_before = w.gone }) (sync_again s c.next)) (OnSync (sync_again s c.next).besides (sync_again s c.next).to)
    NewerWalk : (k : Walk) (os : List Oid) (n rid : ℕ) (q : Layout)
        → Way c w (Newer (Walking k os) n rid q) (after_turn m (stands m c q) (walk_again q k c.next)) (met m w (walk_again q k c.next)) (OnWalk k.oid os (walk_again q k c.next).to)
    NewerAppend : (a : Append) (y : Purpose m) (n rid : ℕ) (q : Layout)
        → Way c w (Newer (Appending a y) n rid q) (after_turn m (stands m c q) (append_again q a c.next)) (met m w (append_again q a c.next)) (OnAppend y (append_again q a c.next).besides (append_again q a c.next).to)
    NewerTrims : (t : Trims) (n rid : ℕ) (q : Layout)
        → Way c w (Newer (Trimming t) n rid q) (after_turn m (stands m c q) (trim_start q t.below c.next)) (met m w (trim_start q t.below c.next)) (OnTrims t.below (trim_start q t.below c.next).to)
    NewerCopy : (x : Copying) (n rid : ℕ) (q : Layout) → copy_fault m q x.unit x.range x.stripe ≡ None
        → Way c w (Newer (Copying' x) n rid q) (after_turn m (stands m c q) (copy_begun c x)) (met m w (copy_begun c x)) (OnCopy x (copy_begun c x).to)
    NewerReconf : (r : Reconf) (n rid : ℕ) (q : Layout) → Way c w (Newer (Reconfiguring r) n rid q) (after_turn m c (reconf_newer c r n rid q)) w (OnReconf (reconf_newer c r n rid q).to)
    -- a tail is confirmed, with its last cell where that had to be settled
    Confirms : (bs : List Out) (t : ℕ) (ls : List StreamLink)
        → Way c w (OnSync bs (Ends (record { tail = t; lasts = ls; settled = None }))) c (record w { tail = t; lasts = ls; lo = lo_for m c w.command }) (Walks w.oids)
    Settles : (bs : List Out) (t : ℕ) (ls : List StreamLink) (s : ℕ × Cell)
        → Way c w (OnSync bs (Ends (record { tail = t; lasts = ls; settled = Some s }))) (knows m c (Some s)) (record w { tail = t; lasts = ls; lo = lo_for m c w.command }) (Walks w.oids)
    -- a walk ends, at once over known cells or later
    EndsAtOnce : (o : Oid) (os : List Oid) (x : Members) → (start_walk m c w o).to ≡ Ends x → Way c w (Walks (o ∷ os)) (takes_back m c x) (found_by m w o x) (Walks os)
    WalkEnds : (o : Oid) (os : List Oid) (x : Members) → Way c w (OnWalk o os (Ends x)) (takes_back m c x) (found_by m w o x) (Over o os x x.gone)
    -- it met no trim; or one that leaves the view; or one above the view, when all was walked from 0; or the walks start over
    MetNone : (o : Oid) (os : List Oid) (x : Members) → Way c w (Over o os x None) c w (Walks os)
    MetLow : (o : Oid) (os : List Oid) (x : Members) (b : ℕ) → gives_up m c w b ≡ false → stale m c w o x b ≡ false → Way c w (Over o os x (Some b)) c w (Walks os)
    MetHigh : (o : Oid) (os : List Oid) (x : Members) (b : ℕ) → gives_up m c w b ≡ true → stale m c w o x b ≡ false → w.lo ≡ 0 → Way c w (Over o os x (Some b)) (record c { view = None }) w (Walks os)
    StartsOver : (o : Oid) (os : List Oid) (x : Members) (b : ℕ) → gives_up m c w b ≡ true → stale m c w o x b ≡ false → (w.lo == 0) ≡ false
        → Way c w (Over o os x (Some b)) (record c { view = None }) (record w { lo = 0; found = []; trims = [] }) (Walks w.oids)

  -- Where all streams are walked.

  abbrev pub own_play : Client m → Work m → Play m
  own_play c w = play m (own_view m c w (all_entries m c w c.hosted)) (all_entries m c w c.hosted) (play_target m w w.command)

  pub data AllWalked (c : Client m) (w : Work m) : Client m → Place m → Type 0 where
    HasPlayed : plays_kept m w.command ≡ true → AllWalked c w (with_view m c (own_play c w).view) (Plays (all_entries m c w c.hosted) (own_play c w))
    LooksBack : (at : ℕ) (o : Oid) (q : m.ask) → w.command ≡ cmd.AskAt at o q → AllWalked c w c (Looks at o q)
    IsRescue : (at : ℕ) → w.command ≡ cmd.Rescue at → AllWalked c w c (Rescues at)
