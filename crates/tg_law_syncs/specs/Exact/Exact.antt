-- Clients at work, in every run: what their walks have found so far, and what they end with.
use Rattle.std.specs.Prelude.{◌≡◌, ℕ, ◌<◌, ◌++◌, ◌∷◌, Some, Contains}
use Rattle.tg_base.specs.Clusters.{Header}
use Rattle.tg_base.specs.declared.ids.Oid.{Oid}
use Rattle.tg_kind.specs.Meaning.{Meaning}
use Rattle.tg_model.specs.Kinds.{EventOf}
use Rattle.tg_protocol.specs.Views.{View, Base, base_of}
use Rattle.tg_protocol.specs.Clients.{Client}
use Rattle.tg_protocol.specs.Worlds.{World, client, log, happens}
use Rattle.tg_protocol.specs.Walked.{Walked, walked_in}
use Rattle.tg_protocol.specs.Playing.{IsExact}
use Rattle.tg_protocol.specs.Runs.{Moves, Takes, LawfulEvent, Reaches, Later, most_steps}
use Rattle.tg_law_walks.specs.Lists.Spared.{TrimsWereSpare}
use Rattle.tg_law_walks.specs.Walks.Rounds.{IsAtWork}

module _ (m : Meaning) where
  -- a client's kept view has bases of objects that it hosts alone
  abbrev pub IsOfHosted : Client m → Type 0
  IsOfHosted c = (v : View m) (o : Oid) (b : Base m) → c.view ≡ Some v → base_of m v o ≡ Some b → Contains c.hosted o

  -- So it is of each client of a world. What a command of it has found so far is true of a later world's log, while it syncs
  -- and while it walks, as are the cells that it knows there.
  pub record ClientsWork (w v : World m) : Type 0 where
    pub hosted : (k : ℕ) → IsOfHosted (client m w k)
    pub work : (k : ℕ) → IsAtWork m (log m v) (client m w k) (client m w k).work

  -- Exact syncs, as they are claimed of each step, where trims up to the later world left what is needed.
  abbrev pub SyncsExactBySpareTrims : Type 0
  SyncsExactBySpareTrims = (h : Header) (ms : Moves m) (w : World m) (e : EventOf m) → Reaches m h ms w → LawfulEvent m h e → w.steps < most_steps →
      (later : World m) (l : Later m (happens m w e) later) → TrimsWereSpare m h (ms ++ Takes e ∷ l.0) →
      (k : ℕ) (x : Walked m) (o : Oid) → walked_in m w e k ≡ Some x → Contains x.work.oids o → IsExact m later x o
