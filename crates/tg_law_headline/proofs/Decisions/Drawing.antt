-- What a client drafts once its streams are walked: a decision record stands in the streams of its record.
use Rattle.std.proofs.Common.{◌≡◌, ℕ, List, [], ◌∷◌, map, Bool, refl, ap, subst, Option, Some, None}
use Rattle.tg_base.specs.declared.ids.Oid.{Oid}
use Rattle.tg_entry.specs.declared.entry.Body.{Body}
use Rattle.tg_entry.specs.declared.entry.Body.TheVariants.{Decision}
use Rattle.tg_entry.specs.declared.entry.Entry.{Entry}
use Rattle.tg_entry.specs.Format.{tag_of}
use Rattle.tg_kind.specs.Meaning.{Meaning}
use Rattle.tg_model.specs.Kinds.{NoteOf}
use Rattle.tg_protocol.specs.Appending.{append_start}
use Rattle.tg_protocol.specs.Entries.{streams_of, oid_of_link, unlinked}
use Rattle.tg_protocol.specs.Syncing.{sync_start}
use Rattle.tg_protocol.specs.Views.{Entries}
use Rattle.tg_protocol.specs.Past.{commit_at}
use Rattle.tg_protocol.specs.Clients.{Purpose, Task, Appending, Work, Client}
use Rattle.tg_protocol.specs.Answers.{Moved, appends, syncs, decision, with_decision}
use Rattle.tg_protocol.specs.ClientSteps.{task_in}

pub unlinked_streams : (os : List Oid) → map oid_of_link (map unlinked os) ≡ os
unlinked_streams [] = refl
unlinked_streams (o ∷ os) = ap (λ (xs : List Oid). o ∷ xs) (unlinked_streams os)

not_two : {X : Type 0} (b : Body) (q : ℕ) (so : Bool) → (tag_of b ≡ 2 → ⊥) → b ≡ Decision q so → X
not_two b q so other e = absurd (other (ap tag_of e))

-- What is to be known of a commit record at a position.
module _ (m : Meaning) (Of : ℕ → Entry → Type 0) where
  -- a draft that decides stands in the streams of such a record
  pub record Drawn (q : ℕ) (d : Entry) : Type 0 where
    pub entry : Entry
    pub of : Of q entry
    pub streams : streams_of d ≡ streams_of entry

  abbrev pub IsDrawn : Entry → Type 0
  IsDrawn d = (q : ℕ) (so : Bool) → d.body ≡ Decision q so → Drawn q d

  abbrev pub TaskDrawn : Task m → Type 0
  TaskDrawn (Appending a y) = IsDrawn a.draft
  TaskDrawn t = Unit {0}

  abbrev pub WorkDrawn : Option (Work m) → Type 0
  WorkDrawn None = Unit {0}
  WorkDrawn (Some w) = TaskDrawn (task_in m w.hand)

  abbrev pub Good : Moved m → Type 0
  Good x = WorkDrawn x.now.work

  -- the commit records among some entries are so
  abbrev pub AreOf : Entries → Type 0
  AreOf own = (p : ℕ) (e : Entry) → commit_at own p ≡ Some e → Of p e

  pub other_drawn : (d : Entry) → (tag_of d.body ≡ 2 → ⊥) → IsDrawn d
  other_drawn d other q so e = not_two d.body q so other e

  pub appended : (c : Client m) (w : Work m) (e : Entry) (y : Purpose m) (ns : List (NoteOf m)) → IsDrawn e → Good (appends m c w e y ns)
  unfolding appends append_start
  appended c w e y ns k = k

  pub synced' : (c : Client m) (w : Work m) (os : List Oid) → Good (syncs m c w os)
  unfolding syncs sync_start
  synced' c w os = tt

  same_place : (p q : ℕ) (a b : Bool) → Decision p a ≡ Decision q b → p ≡ q
  same_place p q a b e = cc

  pub decides : (c : Client m) (w : Work m) (e : Entry) (p : ℕ) (so : Bool) (y : Purpose m) → Of p e → Good (appends m (with_decision m c) w (decision m c e p so) y [])
  decides c w e p so y k = appended (with_decision m c) w (decision m c e p so) y [] (λ q also is. record { entry = e; of = subst (λ (n : ℕ). Of n e) (same_place p q so also is) k; streams = unlinked_streams (streams_of e) })
