-- Answers of a rescue by what its walks found: no record at its position, or one that reads an object too many.
use Rattle.std.specs.Prelude.{◌≡◌, ◌⊎◌, ℕ, ◌<◌, ◌≤◌, true, length, Some, Contains}
use Rattle.tg_base.specs.declared.fault.Many.TheVariants as many
use Rattle.tg_base.specs.declared.ids.Oid.{Oid}
use Rattle.tg_base.specs.declared.msg.Msg.TheVariants as msg
use Rattle.tg_entry.specs.declared.entry.Entry.{Entry}
use Rattle.tg_kind.specs.Meaning.{Meaning}
use Rattle.tg_model.specs.declared.command.Command.TheVariants as cmd
use Rattle.tg_model.specs.declared.refusal.Refusal.TheVariants as cause
use Rattle.tg_model.specs.declared.trace.What.TheVariants as told
use Rattle.tg_model.specs.Kinds.{EventOf}
use Rattle.tg_protocol.specs.Alike.{SentNow, HasEntry}
use Rattle.tg_protocol.specs.Answers.{trim_above}
use Rattle.tg_protocol.specs.Clients.{Client}
use Rattle.tg_protocol.specs.Entries.{is_commit, lists}
use Rattle.tg_protocol.specs.Playing.{Replies}
use Rattle.tg_protocol.specs.Stuck.{command_in}
use Rattle.tg_protocol.specs.Walked.{Walked, walked_in, walked_from, entries_had}
use Rattle.tg_protocol.specs.Worlds.{World, Told, client, happens}
use Rattle.tg_law_claims.specs.Answers.Confirmed.{EndsWalks}
use Rattle.tg_law_claims.specs.Answers.Undecided.{rescue_begins, IsPlayed, IsOutOf}

module _ (m : Meaning) where
  -- an entry that the client can't have missed: a record of its own, or one of a stream that it walked down to there
  abbrev pub IsInReach : Client m → Walked m → ℕ → Entry → Type 0
  IsInReach c x p d = Contains c.own p ⊎
      ((s : Oid) × Contains x.work.oids s × (lists d s ≡ true) × (walked_from m x s ≤ p))

  -- `forgotten` of `rescue`: its walks met the named trim above its position, and below the very tail that its sync
  -- confirmed no such commit record stands there
  pub record IsRescueGone (w : World m) (e : EventOf m) (t : Told m) (at p below : ℕ) : Type 0 where
    pub named : p ≡ at
    pub ends : EndsWalks m w e t
    pub met : trim_above m ends.had.work.trims at ≡ Some below
    pub gone : SentNow m (happens m w e) t (msg.Gone below)
    pub none : (d : Entry) → HasEntry m (happens m w e) at d → is_commit d ≡ true → at < ends.had.work.tail →
        IsInReach (client m (happens m w e) t.mark.client) ends.had at d → ⊥

  -- in the step that ends its walks; the other such refusal is of its decision record, which was trimmed
  abbrev pub RescuesForgotten : World m → EventOf m → Type 0
  RescuesForgotten w e = (t : Told m) (at p below : ℕ) (had : Walked m) → Replies m w e t →
      command_in m (client m w t.mark.client).work ≡ Some (cmd.Rescue at) →
      t.mark.what ≡ told.Refused (cause.Forgotten p below) → walked_in m w e t.mark.client ≡ Some had →
      IsRescueGone w e t at p below

  -- `too-many` of `rescue`: 128 objects are walked, and a commit record at the position, or one below that isn't passed
  -- over, reads another, and the client has no decision of it. That one stands at the position isn't asked
  pub record WouldWiden (w : World m) (e : EventOf m) (t : Told m) (at : ℕ) : Type 0 where
    pub ends : EndsWalks m w e t
    pub full : 128 ≤ length ends.had.work.oids
    pub pos : ℕ
    pub other : Oid
    pub upto : pos ≤ at
    pub outside : Contains ends.had.work.oids other → ⊥
    pub is : IsOutOf m (happens m w e) ends.had (entries_had m ends.had) (rescue_begins m ends.had) pos other
    pub played : pos < at → IsPlayed m (rescue_begins m ends.had) pos is.reads.entry

  abbrev pub RescuesTooWide : World m → EventOf m → Type 0
  RescuesTooWide w e = (t : Told m) (at : ℕ) → Replies m w e t →
      command_in m (client m w t.mark.client).work ≡ Some (cmd.Rescue at) →
      t.mark.what ≡ told.Refused (cause.TooMany many.Hosted) → WouldWiden w e t at
