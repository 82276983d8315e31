-- The headline: what a run tells is what the plain machine tells, over one history.
use Rattle.tg_kind.specs.Meaning.{Meaning}
use Rattle.tg_model.specs.Stores.{Rises}
use Rattle.tg_model.specs.Legal.{Legal}
use Rattle.tg_protocol.specs.Worlds.{World, trace, history}
use Rattle.tg_protocol.specs.Alike.{Alike, PastTrue, RescueTrue}

module _ (m : Meaning) where
  -- the history's stamps rise; the replies and the history are a legal run; what is told of the log is true of it;
  -- and so is what was asked of the past, and what rescues say
  pub record Holds (w : World m) : Type 0 where
    pub rises : Rises m (history m w)
    pub legal : Legal m w.cluster.objects (history m w) (trace m w)
    pub alike : Alike m w
    pub past : PastTrue m w
    pub rescues : RescueTrue m w
