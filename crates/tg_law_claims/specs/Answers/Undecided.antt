-- What stays undecided: what the client had where its walks end didn't decide it.
use Rattle.std.specs.Prelude.{◌≡◌, ℕ, ◌<◌, ◌≤◌, true, map, Some, None, Contains}
use Rattle.tg_base.specs.declared.ids.Oid.{Oid}
use Rattle.tg_entry.specs.declared.entry.Entry.{Entry}
use Rattle.tg_entry.specs.declared.entry.WriteOp.{WriteOp}
use Rattle.tg_entry.specs.Needs.{reads_of, writes_of}
use Rattle.tg_kind.specs.Meaning.{Meaning}
use Rattle.tg_model.specs.declared.command.Command.TheVariants as cmd
use Rattle.tg_model.specs.declared.refusal.Refusal.TheVariants as cause
use Rattle.tg_model.specs.declared.trace.What.TheVariants as told
use Rattle.tg_model.specs.Kinds.{EventOf}
use Rattle.tg_protocol.specs.Causes.{HasReadOf}
use Rattle.tg_protocol.specs.Checkpoints.{view_bases}
use Rattle.tg_protocol.specs.Clients.{member_entries}
use Rattle.tg_protocol.specs.Entries.{is_commit}
use Rattle.tg_protocol.specs.Past.{commit_at, past_base}
use Rattle.tg_protocol.specs.Playing.{Replies}
use Rattle.tg_protocol.specs.Stuck.{command_in}
use Rattle.tg_protocol.specs.Views.{Entries, Base, View, view_start, base_of, unknown_by, unknown_in, decision_in}
use Rattle.tg_protocol.specs.Walked.{Walked, walked_in, entries_had}
use Rattle.tg_protocol.specs.Worlds.{World, Told, client, happens}
use Rattle.tg_law_claims.specs.Answers.Confirmed.{EndsWalks}

module _ (m : Meaning) where
  -- where this step ends the client's walks, it has no decision record that says yes for a position
  pub record HasNoYes (w : World m) (e : EventOf m) (t : Told m) (p : ℕ) : Type 0 where
    pub had : Walked m
    pub walked : walked_in m w e t.mark.client ≡ Some had
    pub none : decision_in (entries_had m had) p ≡ Some true → ⊥

  abbrev pub UnsureUnlessYes : World m → EventOf m → Type 0
  UnsureUnlessYes w e = (t : Told m) (at p : ℕ) → Replies m w e t → t.mark.what ≡ told.Unsure at p →
      HasNoYes w e t p

  -- What a past view and that of a rescue are played over, and the view with which each begins: each object that was
  -- walked, from its base.

  abbrev pub past_entries : Walked m → Entries
  past_entries x = member_entries m x.client x.work x.work.oids

  abbrev pub past_begins : Walked m → ℕ → View m
  past_begins x at = view_start m (map (past_base m (past_entries x) x.work.trims x.client.objects at) x.work.oids)

  abbrev pub rescue_begins : Walked m → View m
  rescue_begins x = view_start m (view_bases m (entries_had m x) x.work.trims x.client.objects x.work.oids)

  -- the record isn't passed over in a view: it writes an object whose base there isn't past it
  pub record IsPlayed (v : View m) (p : ℕ) (e : Entry) : Type 0 where
    pub write : WriteOp
    pub writes : Contains (writes_of e) write
    pub base : Base m
    pub is : base_of m v write.oid ≡ Some base
    pub upto : base.upto ≤ p

  -- each commit record among these entries below a position that isn't passed over is decided there, or the view tells
  -- the versions of all that it reads
  abbrev pub AllTold : Entries → View m → ℕ → Type 0
  AllTold es v p = (q : ℕ) (d : Entry) → Contains es (q, d) → q < p → is_commit d ≡ true → IsPlayed v q d →
      decision_in es q ≡ None → unknown_in m v (reads_of d) q ≡ None

  -- a commit record among these entries reads something of an object, whose version there that view's base doesn't
  -- tell: the object wasn't walked, or it begins later, with a later version. Of such reads that is the first, so of the
  -- least object; each record below is passed over, decided, or of told versions. Nor has the client a decision of it
  pub record IsOutOf (w : World m) (had : Walked m) (es : Entries) (v : View m) (p : ℕ) (o : Oid) : Type 0 where
    pub reads : HasReadOf m w p o
    pub among : Contains es (p, reads.entry)
    pub unknown : unknown_by m p (base_of m v o) reads.read ≡ true
    pub least : unknown_in m v (reads_of reads.entry) p ≡ Some o
    pub first : AllTold es v p
    pub lacks : decision_in (entries_had m had) p ≡ None

  -- `undecided` of `ask-at`: a record below the past position, which the past view doesn't pass over, reads what that
  -- view can't know
  pub record IsPastUnknown (w : World m) (e : EventOf m) (t : Told m) (at p : ℕ) (o : Oid) : Type 0 where
    pub ends : EndsWalks m w e t
    pub below : p < at
    pub is : IsOutOf (happens m w e) ends.had (past_entries ends.had) (past_begins ends.had at) p o
    pub played : IsPlayed (past_begins ends.had at) p is.reads.entry

  abbrev pub PastsUndecided : World m → EventOf m → Type 0
  PastsUndecided w e = (t : Told m) (at : ℕ) (x : Oid) (q : m.ask) (p : ℕ) (o : Oid) → Replies m w e t →
      command_in m (client m w t.mark.client).work ≡ Some (cmd.AskAt at x q) →
      t.mark.what ≡ told.Refused (cause.Undecided p o) → IsPastUnknown w e t at p o

  -- `undecided` of `rescue`: a commit record stands at its position, and it, or one below that isn't passed over,
  -- reads what the rescue's view can't know of an object that was walked
  pub record IsRescueUnknown (w : World m) (e : EventOf m) (t : Told m) (at p : ℕ) (o : Oid) : Type 0 where
    pub ends : EndsWalks m w e t
    pub entry : Entry
    pub there : commit_at (entries_had m ends.had) at ≡ Some entry
    pub upto : p ≤ at
    pub walks : Contains ends.had.work.oids o
    pub is : IsOutOf (happens m w e) ends.had (entries_had m ends.had) (rescue_begins ends.had) p o
    pub played : p < at → IsPlayed (rescue_begins ends.had) p is.reads.entry

  abbrev pub RescuesUndecided : World m → EventOf m → Type 0
  RescuesUndecided w e = (t : Told m) (at p : ℕ) (o : Oid) → Replies m w e t →
      command_in m (client m w t.mark.client).work ≡ Some (cmd.Rescue at) →
      t.mark.what ≡ told.Refused (cause.Undecided p o) → IsRescueUnknown w e t at p o
