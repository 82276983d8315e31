-- Answers by the tail that the command's sync confirmed: the one to which the step walks the command's streams.
use Rattle.std.specs.Prelude.{◌≡◌, ℕ, ◌<◌, ◌≤◌, true, List, Some, None}
use Rattle.tg_base.specs.declared.ids.Oid.{Oid}
use Rattle.tg_base.specs.declared.marks.StreamLink.{StreamLink}
use Rattle.tg_base.specs.declared.msg.Msg.TheVariants as msg
use Rattle.tg_entry.specs.declared.entry.Entry.{Entry}
use Rattle.tg_kind.specs.Meaning.{Meaning}
use Rattle.tg_model.specs.declared.command.Command.TheVariants as cmd
use Rattle.tg_model.specs.declared.refusal.Refusal.TheVariants as cause
use Rattle.tg_model.specs.declared.trace.What.TheVariants as told
use Rattle.tg_model.specs.Kinds.{EventOf}
use Rattle.tg_protocol.specs.Alike.{SentNow, HasEntry}
use Rattle.tg_protocol.specs.Causes.{IsFor, SaysNone}
use Rattle.tg_protocol.specs.Entries.{is_commit}
use Rattle.tg_protocol.specs.Playing.{Replies}
use Rattle.tg_protocol.specs.Stuck.{command_in}
use Rattle.tg_protocol.specs.Checkpoints.{trim_of, base_at}
use Rattle.tg_protocol.specs.Views.{Base, View, fate_of}
use Rattle.tg_protocol.specs.Walked.{Walked, walked_in}
use Rattle.tg_protocol.specs.Worlds.{World, Told, client, happens}

module _ (m : Meaning) where
  -- the step ends the client's walks, up to a tail that was told for the command
  pub record EndsWalks (w : World m) (e : EventOf m) (t : Told m) : Type 0 where
    pub had : Walked m
    pub walked : walked_in m w e t.mark.client ≡ Some had
    pub links : List StreamLink
    pub synced : SentNow m (happens m w e) t (msg.Tail had.work.tail links)

  -- `none`: below that very tail no commit record that is for the client stands there
  pub record IsNoneThere (w : World m) (e : EventOf m) (t : Told m) (p : ℕ) : Type 0 where
    pub at : EndsWalks w e t
    pub none : (d : Entry) → HasEntry m (happens m w e) p d → is_commit d ≡ true → p < at.had.work.tail →
        IsFor m (client m (happens m w e) t.mark.client) p d → ⊥

  abbrev pub NonesThere : World m → EventOf m → Type 0
  NonesThere w e = (t : Told m) → Replies m w e t → SaysNone m t.mark.what (λ p. IsNoneThere w e t p)

  -- `ahead`: a past position is above that very tail
  pub record IsAheadThere (w : World m) (e : EventOf m) (t : Told m) (tail : ℕ) : Type 0 where
    pub at : EndsWalks w e t
    pub is : at.had.work.tail ≡ tail
    pub pos : ℕ
    pub oid : Oid
    pub ask : m.ask
    pub command : command_in m (client m w t.mark.client).work ≡ Some (cmd.AskAt pos oid ask)
    pub above : tail < pos

  abbrev pub AheadsThere : World m → EventOf m → Type 0
  AheadsThere w e = (t : Told m) (tail : ℕ) → Replies m w e t → t.mark.what ≡ told.Refused (cause.Ahead tail) →
      IsAheadThere w e t tail

  -- `forgotten` of `fate`: the client's view has no fate there
  abbrev pub FatesForgotten : World m → EventOf m → Type 0
  FatesForgotten w e = (t : Told m) (p at below : ℕ) → Replies m w e t →
      command_in m (client m w t.mark.client).work ≡ Some (cmd.Fate p) →
      t.mark.what ≡ told.Refused (cause.Forgotten at below) →
      (v : View m) → (client m (happens m w e) t.mark.client).view ≡ Some v → fate_of m v at ≡ None

  -- `forgotten` of `ask-at`: the walk of the asked object's stream met a trim, and no entry below that very tail gives
  -- a base of the object from the trim to the past position
  pub record IsPastGone (w : World m) (e : EventOf m) (t : Told m) (p : ℕ) (o : Oid) (at below : ℕ) : Type 0 where
    pub named : p ≡ at
    pub ends : EndsWalks w e t
    pub met : trim_of ends.had.work.trims o ≡ Some below
    pub gone : SentNow m (happens m w e) t (msg.Gone below)
    pub none : (q : ℕ) (d : Entry) (b : Base m) → HasEntry m (happens m w e) q d → q < ends.had.work.tail →
        base_at m o d ≡ Some b → below ≤ b.upto → b.upto ≤ at → ⊥

  abbrev pub PastsForgotten : World m → EventOf m → Type 0
  PastsForgotten w e = (t : Told m) (p : ℕ) (o : Oid) (q : m.ask) (at below : ℕ) → Replies m w e t →
      command_in m (client m w t.mark.client).work ≡ Some (cmd.AskAt p o q) →
      t.mark.what ≡ told.Refused (cause.Forgotten at below) → IsPastGone w e t p o at below

  -- `no-checkpoint`: no checkpoint of the object below that very tail reaches the mark
  pub record IsUnsaved (w : World m) (e : EventOf m) (t : Told m) (o : Oid) : Type 0 where
    pub mark : ℕ
    pub command : command_in m (client m w t.mark.client).work ≡ Some (cmd.Forget o mark)
    pub at : EndsWalks w e t
    pub none : (p : ℕ) (d : Entry) (b : Base m) → HasEntry m (happens m w e) p d → p < at.had.work.tail →
        base_at m o d ≡ Some b → mark ≤ b.upto → ⊥

  abbrev pub UnsavedThere : World m → EventOf m → Type 0
  UnsavedThere w e = (t : Told m) (o : Oid) → Replies m w e t → t.mark.what ≡ told.Refused (cause.NoCheckpoint o) →
      IsUnsaved w e t o
