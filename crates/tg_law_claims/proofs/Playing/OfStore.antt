-- So it is in each step of each run of the store.
use Rattle.std.proofs.Common.{◌≡◌, ◌<◌, [], ◌∷◌, ◌++◌, refl, sym, subst, Some, None}
use Rattle.tg_base.specs.Clusters.{Header}
use Rattle.tg_base.specs.declared.cell.Cell.TheVariants.{Data}
use Rattle.tg_any.specs.AllKinds.{all_kinds}
use Rattle.tg_model.specs.Kinds.{EventOf}
use Rattle.tg_protocol.specs.Clients.{upto, known}
use Rattle.tg_protocol.specs.Worlds.{World, start, client, happens}
use Rattle.tg_protocol.specs.Runs.{Moves, Takes, Reaches, EachStep, run}
use Rattle.tg_protocol.specs.Playing.{IsOwn, PlaysOn}
use Rattle.tg_law_layouts.specs.Moves.After.{after}
use Rattle.tg_law_layouts.proofs.Moves.Members.{has_contained}
use Rattle.tg_law_replies.proofs.Books.Worlds.{nil_right}
use Rattle.tg_law_replies.proofs.Replies.Along.{run_on}
use Rattle.tg_law_walks.specs.Lists.Spared.{TrimsWereSpare}
use Rattle.tg_law_syncs.specs.Known.Known.{KnownIsTheLogs}
use Rattle.tg_law_syncs.proofs.Known.Held.{known_is_the_logs}
use Rattle.tg_law_claims.specs.Playing.Rules.{AsksStand, PagesGiveUp}
use Rattle.tg_law_claims.proofs.Playing.Ended.{reaches_on, gives_up, asks_stand_at}
use Rattle.tg_law_claims.proofs.Playing.Steps.{views_fall_at_trims}
use Rattle.tg_law_claims.proofs.Playing.Reading.{views_read_on}
use Rattle.tg_law_headline.proofs.Runs.Finding.{trims, ends, found}

module _ (h : Header) (ms : Moves all_kinds) (r : Reaches all_kinds h ms (after all_kinds h ms)) where
  abbrev w : World all_kinds
  w = after all_kinds h ms

  -- what its clients know of the log
  logs : KnownIsTheLogs all_kinds (after all_kinds h ms) (after all_kinds h ms)
  unfolding run
  logs = known_is_the_logs all_kinds h ms w w r ([], record { lawful = λ x i. absurd (has_contained [] x i); is = refl; few = r.goes.few }) (subst (TrimsWereSpare all_kinds h) (sym (nil_right ms)) (trims h ms w r).were)

-- A step, as the last of its run.
module _ (h : Header) (ms : Moves all_kinds) (e : EventOf all_kinds) (r : Reaches all_kinds h (ms ++ Takes e ∷ []) (happens all_kinds (after all_kinds h ms) e)) where
  abbrev v : World all_kinds
  v = happens all_kinds (after all_kinds h ms) e

  is_end : after all_kinds h (ms ++ Takes e ∷ []) ≡ happens all_kinds (after all_kinds h ms) e
  is_end = run_on all_kinds ms (Takes e) (start all_kinds h)

  at_end : Reaches all_kinds h (ms ++ Takes e ∷ []) (after all_kinds h (ms ++ Takes e ∷ []))
  at_end = subst (Reaches all_kinds h (ms ++ Takes e ∷ [])) (sym is_end) r

  asks_here : AsksStand all_kinds (after all_kinds h ms) e
  asks_here = asks_stand_at all_kinds h (ms ++ Takes e ∷ []) at_end (ends h (ms ++ Takes e ∷ []) (after all_kinds h (ms ++ Takes e ∷ [])) at_end) (found h (ms ++ Takes e ∷ []) (after all_kinds h (ms ++ Takes e ∷ [])) at_end) ms e refl

  pages_here : PagesGiveUp all_kinds (after all_kinds h ms) e
  pages_here k p page =
      subst (λ (u : World all_kinds). (client all_kinds u k).work ≡ None → p < upto all_kinds (client all_kinds u k) → known all_kinds (client all_kinds u k) p ≡ Some (Data page) → IsOwn all_kinds k page) is_end
      (gives_up all_kinds h (ms ++ Takes e ∷ []) at_end (ends h (ms ++ Takes e ∷ []) (after all_kinds h (ms ++ Takes e ∷ [])) at_end) (logs h (ms ++ Takes e ∷ []) at_end) k p page)

pub asks_stand : EachStep all_kinds (AsksStand all_kinds)
asks_stand h ms w e r lawful less =
    subst (λ (u : World all_kinds). AsksStand all_kinds u e) (sym r.goes.is)
    (asks_here h ms e (subst (λ (u : World all_kinds). Reaches all_kinds h (ms ++ Takes e ∷ []) (happens all_kinds u e)) r.goes.is (reaches_on all_kinds h ms w e r lawful less)))

pub pages_give_up : EachStep all_kinds (PagesGiveUp all_kinds)
pages_give_up h ms w e r lawful less =
    subst (λ (u : World all_kinds). PagesGiveUp all_kinds u e) (sym r.goes.is)
    (pages_here h ms e (subst (λ (u : World all_kinds). Reaches all_kinds h (ms ++ Takes e ∷ []) (happens all_kinds u e)) r.goes.is (reaches_on all_kinds h ms w e r lawful less)))

pub plays_on : EachStep all_kinds (PlaysOn all_kinds)
plays_on h ms w e r lawful less = record {
  stands = asks_stand h ms w e r lawful less;
  falls = views_fall_at_trims all_kinds h ms w e r lawful less;
  gives_up = pages_give_up h ms w e r lawful less;
  reads_on = views_read_on all_kinds h ms w e r lawful less;
}
