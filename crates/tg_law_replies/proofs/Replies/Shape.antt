-- What a client keeps of itself: its view has what it hosts, and while no command waits the view stands at the open transaction's snapshot.
use Rattle.std.proofs.Common.{◌≡◌, ℕ, ◌≤◌, List, [], ◌∷◌, refl, sym, ap, ◌∙◌, subst, Option, Some, None, Contains}
use Rattle.tg_base.specs.declared.ids.Oid.{Oid}
use Rattle.tg_entry.specs.declared.entry.Entry.{Entry}
use Rattle.tg_kind.specs.Meaning.{Meaning}
use Rattle.tg_model.specs.Kinds.{CommandOf, WhatOf, NoteOf}
use Rattle.tg_model.specs.declared.command.Command.TheVariants as cmd
use Rattle.tg_model.specs.declared.refusal.Refusal.{Refusal}
use Rattle.tg_protocol.specs.Words.{directory}
use Rattle.tg_protocol.specs.Views.{Entries, Base, View, base_of, state_of, view_start, play}
use Rattle.tg_protocol.specs.Checkpoints.{TrimPoints, trim_of, load_from, base_or, base_by, view_base, view_bases}
use Rattle.tg_protocol.specs.Transactions.{Tx}
use Rattle.tg_protocol.specs.Appending.{append_start}
use Rattle.tg_protocol.specs.Syncing.{sync_start}
use Rattle.tg_protocol.specs.Clients.{Purpose, Judged, Decides, Task, Syncing, Walking, Appending, Work, Client}
use Rattle.tg_protocol.specs.Answers.{Moved, note, replies, refuses, took_over, answers, appends, syncs, view_or_new}
use Rattle.tg_protocol.specs.ClientSteps.{task_in}
use Rattle.tg_law_replies.specs.Plays.Sound.{base_among}
use Rattle.tg_law_replies.proofs.History.Members.{has_contained}
use Rattle.tg_law_replies.proofs.Views.Bases.{loaded_of, oid_loaded}
use Rattle.tg_law_replies.proofs.Views.Exact.{made_there, state_based}
use Rattle.tg_law_replies.proofs.Views.Settled.{plays_further}

module _ (m : Meaning) where
  -- a view stands at a position, and has an object with a base no further
  pub record StandsWith (v : View m) (at : ℕ) (o : Oid) : Type 0 where
    pub stands : v.upto ≡ at
    pub based : (s : m.state) → state_of m v o ≡ Some s → (b : Base m) × (base_of m v o ≡ Some b) × (b.upto ≤ at)

  -- an open transaction's asks were answered where the view stands
  abbrev pub StandsIn : Option Tx → Option (View m) → Type 0
  StandsIn tx view = (t : Tx) (at : ℕ) (v : View m) (o : Oid) → tx ≡ Some t → t.snapshot ≡ Some at → view ≡ Some v → StandsWith v at o

  -- none of its asks was answered yet
  abbrev pub Unasked : Option Tx → Type 0
  Unasked tx = (t : Tx) → tx ≡ Some t → t.snapshot ≡ None

  -- a view has a base of each hosted object, and each of its states has one
  pub record IsHosting (hosted : List Oid) (v : View m) : Type 0 where
    pub hosts : (o : Oid) → Contains hosted o → (b : Base m) × (base_of m v o ≡ Some b)
    pub states : (o : Oid) (t : m.state) → state_of m v o ≡ Some t → (b : Base m) × (base_of m v o ≡ Some b)

  pub record IsShaped (objects theirs hosted : List Oid) (now : Option (View m)) : Type 0 where
    pub objects_are : theirs ≡ objects
    pub dir : Contains hosted directory
    pub view : (v : View m) → now ≡ Some v → IsHosting hosted v

  -- A command that waits: while its streams are walked, and while it appends.

  abbrev pub WalksFor : Option Tx → List Oid → CommandOf m → Type 0
  WalksFor tx hosted (cmd.Ask o q) = Unasked tx
  WalksFor tx hosted cmd.End = Unit {0}
  WalksFor tx hosted (cmd.Checkpoint o) = (tx ≡ None) × Contains hosted o
  WalksFor tx hosted x = tx ≡ None

  abbrev pub DecidesFor : Option Tx → Option (View m) → CommandOf m → Type 0
  DecidesFor tx view cmd.End = Unit {0}
  DecidesFor tx view x = StandsIn tx view

  abbrev pub AppendsFor : Option Tx → Option (View m) → List Oid → CommandOf m → Purpose m → Type 0
  AppendsFor tx view hosted x Judged = StandsIn tx view × WalksFor tx hosted x
  AppendsFor tx view hosted x (Decides what) = DecidesFor tx view x
  AppendsFor tx view hosted x y = StandsIn tx view

  abbrev pub WaitsFor : Option Tx → Option (View m) → List Oid → CommandOf m → Task m → Type 0
  WaitsFor tx view hosted x (Appending a y) = AppendsFor tx view hosted x y
  WaitsFor tx view hosted x (Syncing s) = WalksFor tx hosted x
  WaitsFor tx view hosted x (Walking k os) = WalksFor tx hosted x
  WaitsFor tx view hosted x t = StandsIn tx view

  abbrev pub WorksFor : Option Tx → Option (View m) → List Oid → Option (Work m) → Type 0
  WorksFor tx view hosted None = StandsIn tx view
  WorksFor tx view hosted (Some w) = WaitsFor tx view hosted w.command (task_in m w.hand)

  pub untold : (tx : Option Tx) (view : Option (View m)) → tx ≡ None → StandsIn tx view
  untold tx view none t at v o is snap has = absurd (no t (sym none ∙ is))
    where
      no : (t : Tx) → None ≡ Some t → ⊥
      no t e = cc

  pub unseen : (tx : Option Tx) → StandsIn tx None
  unseen tx t at v o is snap has = absurd (no v has)
    where
      no : (v : View m) → None ≡ Some v → ⊥
      no v e = cc

  pub unasked : (tx : Option Tx) (view : Option (View m)) → Unasked tx → StandsIn tx view
  unasked tx view none t at v o is snap has = absurd (no at (sym (none t is) ∙ snap))
    where
      no : (n : ℕ) → None ≡ Some n → ⊥
      no n e = cc

  pub stands_decides : (tx : Option Tx) (view : Option (View m)) (x : CommandOf m) → StandsIn tx view → DecidesFor tx view x
  stands_decides tx view cmd.End h = tt
  stands_decides tx view x h = h

  pub decides_stand : (tx : Option Tx) (view : Option (View m)) (x : CommandOf m) → (x ≡ cmd.End → ⊥) → DecidesFor tx view x → StandsIn tx view
  decides_stand tx view cmd.End other h = absurd (other refl)
  decides_stand tx view x other h = h

  -- where the walks are over, a transaction without a snapshot is the asking one, or the command ends it
  pub walks_stand : (tx : Option Tx) (view : Option (View m)) (hosted : List Oid) (x : CommandOf m) → (x ≡ cmd.End → ⊥) → WalksFor tx hosted x → StandsIn tx view
  walks_stand tx view hosted (cmd.Ask o q) other h = unasked tx view h
  walks_stand tx view hosted cmd.End other h = absurd (other refl)
  walks_stand tx view hosted (cmd.Checkpoint o) other h = untold tx view h.0
  walks_stand tx view hosted x other h = untold tx view h

  -- The views that a client plays.

  made_of : (own : Entries) (gone : TrimPoints) (objects : List Oid) (o : Oid) → (view_base m own gone objects o).oid ≡ o
  unfolding view_base
  made_of own gone objects o = by (trim_of gone o)
    where
      from : (below : ℕ) (b : Option (Base m)) → load_from m own o below ≡ b → (base_or m objects o b).oid ≡ o
      from below None is = refl
      from below (Some b) is = let e = loaded_of m objects [] refl own o below b is in oid_loaded m objects [] refl o b e.entry e.is

      by : (t : Option ℕ) → (base_by m own objects o t).oid ≡ o
      by None = refl
      by (Some below) = from below (load_from m own o below) refl

  new_hosting : (own : Entries) (gone : TrimPoints) (objects hosted : List Oid) → IsHosting hosted (view_start m (view_bases m own gone objects hosted))
  unfolding view_start view_bases
  new_hosting own gone objects hosted = record {
    hosts = λ o i. made_there m (view_base m own gone objects) hosted o (λ x j. made_of own gone objects x) (has_contained hosted o i);
    states = λ o t is. state_based m (view_bases m own gone objects hosted) o t is;
  }

  pub plays_hosting : (hosted : List Oid) (v : View m) (own : Entries) (upto : ℕ) → IsHosting hosted v → IsHosting hosted (play m v own upto).view
  plays_hosting hosted v own upto h =
      let f = plays_further m own v upto in
      record {
        hosts = λ o i. let b = h.hosts o i in (b.0, ap (λ (bs : List (Base m)). base_among m bs o) f.bases ∙ b.1);
        states = λ o t is. let s = f.states o t is in let b = h.states o s.0 s.1 in (b.0, ap (λ (bs : List (Base m)). base_among m bs o) f.bases ∙ b.1);
      }

  module _ (objects : List Oid) where
    abbrev pub Shape : Client m → Type 0
    Shape c = IsShaped objects c.objects c.hosted c.view

    abbrev pub InShape : Client m → Type 0
    InShape c = Shape c × WorksFor c.tx c.view c.hosted c.work

    -- so it is after a step
    abbrev pub Good : Moved m → Type 0
    Good x = InShape x.now

    pub begins_hosting : (c : Client m) (w : Work m) (own : Entries) (view : Option (View m)) → c.view ≡ view → Shape c → IsHosting c.hosted (view_or_new m c w own view)
    begins_hosting c w own None is h = new_hosting own w.trims c.objects c.hosted
    begins_hosting c w own (Some v) is h = h.view v is

    pub with_hosting : (c : Client m) (v : View m) → Shape c → IsHosting c.hosted v → IsShaped objects c.objects c.hosted (Some v)
    with_hosting c v h k = record { objects_are = h.objects_are; dir = h.dir; view = λ u is. subst (IsHosting c.hosted) (one v u is) k }
      where
        one : (v u : View m) → Some v ≡ Some u → v ≡ u
        one v u e = cc

    -- Replies, and beginnings of machines.

    pub replied : (c : Client m) (ns : List (NoteOf m)) → Shape c → StandsIn c.tx c.view → Good (replies m c ns)
    replied c ns h s = (h, s)

    pub took : (c : Client m) (o : Option (View m)) (ns : List (NoteOf m)) → Shape c → StandsIn c.tx c.view → Good (replies m (took_over m c o) ns)
    took c None ns h s = (h, s)
    took c (Some v) ns h s = (h, s)

    pub answered : (c : Client m) (x : ℕ) (what : WhatOf m) → Shape c → StandsIn c.tx c.view → Good (answers m c x what)
    answered c x what h s = took c c.view (note m x what ∷ []) h s

    pub refused : (c : Client m) (x : ℕ) (why : Refusal) → Shape c → StandsIn c.tx c.view → Good (refuses m c x why)
    refused c x why h s = (h, s)

    pub appended : (c : Client m) (w : Work m) (e : Entry) (p : Purpose m) (ns : List (NoteOf m)) → Shape c → AppendsFor c.tx c.view c.hosted w.command p → Good (appends m c w e p ns)
    unfolding appends append_start
    appended c w e p ns h s = (h, s)

    pub synced : (c : Client m) (w : Work m) (os : List Oid) → Shape c → WalksFor c.tx c.hosted w.command → Good (syncs m c w os)
    unfolding syncs sync_start
    synced c w os h s = (h, s)

    -- While no command waits.

    pub idle_stands : (c : Client m) → InShape c → c.work ≡ None → StandsIn c.tx c.view
    idle_stands c h none = subst (WorksFor c.tx c.view c.hosted) none h.1
