-- The clients of a run are right in each of its worlds.
use Rattle.std.proofs.Common.{◌≡◌, ℕ, zero, suc, List, [], ◌∷◌, map, refl, sym, subst, inl, inr, Some, None}
use Rattle.std.specs.Prelude.{slice_index_or, ◌++◌}
use Rattle.tg_base.specs.Clusters.{Header}
use Rattle.tg_kind.specs.Meaning.{Meaning}
use Rattle.tg_protocol.specs.Words.{directory, numbers}
use Rattle.tg_protocol.specs.Views.{Entries, View}
use Rattle.tg_protocol.specs.Clients.{Work, Client, new_client}
use Rattle.tg_protocol.specs.Worlds.{World, start, next_event}
use Rattle.tg_law_replies.specs.Plays.Sound.{IsRising}
use Rattle.tg_law_replies.specs.History.Logs.{AreListed}
use Rattle.tg_law_replies.proofs.Views.Plays.{fresh_true}
use Rattle.tg_law_replies.proofs.Replies.Moves.{IsRight}
use Rattle.tg_law_replies.proofs.Replies.Steps.{IsRightWorld, LawfulIn}
use Rattle.tg_model.specs.Kinds.{EventOf}
use Rattle.tg_model.specs.declared.command.Event.TheVariants.{Command as Commands, Deliver, Lose, Tick, Stop}
use Rattle.tg_protocol.specs.Runs.{Moves, Takes, LawfulEvent, Reaches}
use Rattle.tg_law_replies.proofs.History.Members.{Has, contained_has}

module _ (m : Meaning) (h : Header) (es : Entries) (rising : IsRising es) (listed : AreListed es) where
  new_right : (n : ℕ) → IsRight m h.objects es rising listed (new_client m h n)
  unfolding new_client
  new_right n = record {
    view = λ v is. absurd (no_view v is);
    dir = (fresh_true m h.objects es directory rising).state;
    work = λ w is. absurd (no_work w is);
  }
    where
      no_view : (v : View m) → None ≡ Some v → ⊥
      no_view v e = cc

      no_work : (w : Work m) → None ≡ Some w → ⊥
      no_work w e = cc

  each_new : (ns : List ℕ) (k : ℕ) (d : Client m) → IsRight m h.objects es rising listed d → IsRight m h.objects es rising listed (slice_index_or (map (new_client m h) ns) k d)
  each_new [] k d r = r
  each_new (n ∷ ns) zero d r = new_right n
  each_new (n ∷ ns) (suc k) d r = each_new ns k d r

  pub start_right : IsRightWorld m h.objects es rising listed (start m h)
  unfolding start
  start_right = record { clients = λ k. each_new (numbers h.clients 0) k (new_client m h k) (new_right k); replies = λ t i. absurd i; objects_are = refl }

  -- each of its events is lawful
  abbrev pub AreLawful : Moves m → Type 0
  AreLawful ms = (before after : Moves m) (e : EventOf m) → ms ≡ before ++ Takes e ∷ after → LawfulIn m e

  abbrev pub Right : World m → Type 0
  Right w = IsRightWorld m h.objects es rising listed w

  pub counted_right : (w : World m) → Right w → Right (next_event m w)
  counted_right w x = record { clients = x.clients; replies = x.replies; objects_are = x.objects_are }

-- the events of a run are lawful
has_middle : {X : Type 0} → (xs : List X) (y : X) (ys : List X) → Has (xs ++ y ∷ ys) y
has_middle [] y ys = inl refl
has_middle (x ∷ xs) y ys = inr (has_middle xs y ys)

pub lawful_in : (m : Meaning) (h : Header) (ms : Moves m) (w : World m) (es : Entries) (rising : IsRising es) (listed : AreListed es) → Reaches m h ms w → AreLawful m h es rising listed ms
lawful_in m h ms w es rising listed r before after e split =
    by e (r.goes.lawful (Takes e) (contained_has ms (Takes e) (subst (λ (xs : Moves m). Has xs (Takes e)) (sym split) (has_middle before (Takes e) after))))
  where
    by : (e : EventOf m) → LawfulEvent m (start m h).cluster e → LawfulIn m e
    by (Commands k x) l = l.1
    by (Deliver i) l = tt
    by (Lose i) l = tt
    by (Tick n) l = tt
    by (Stop n) l = tt
