-- In a world that is ready for it a client that waits doesn't wait for a newer layout: no node that it asks is past the latest.
use Rattle.std.proofs.Common.{◌≡◌, ℕ, refl, sym, ◌∙◌, subst, arith, Option, Some, None}
use Rattle.tg_base.specs.Clusters.{Header}
use Rattle.tg_base.specs.Layouts.{Layout}
use Rattle.tg_kind.specs.Meaning.{Meaning}
use Rattle.tg_model.specs.Kinds.{CommandOf}
use Rattle.tg_protocol.specs.Layouts.{units_of}
use Rattle.tg_protocol.specs.Clients.{Syncing, Walking, Appending, Trimming, Copying', Reconfiguring, Hand, Doing, Learning, Work}
use Rattle.tg_protocol.specs.ClientSteps.{task_in}
use Rattle.tg_protocol.specs.Sequencers.{SeqrState}
use Rattle.tg_protocol.specs.Worlds.{World, unit, seqr, client, latest}
use Rattle.tg_protocol.specs.Runs.{Moves, Reaches, Always}
use Rattle.tg_protocol.specs.Finishing.{IsReadyFor, IsSpareReady, NoReconf}
use Rattle.tg_law_layouts.specs.Moves.After.{after}
use Rattle.tg_law_layouts.proofs.Moves.Lists.{contained}
use Rattle.tg_law_finish.specs.Finish.Anywhere.{HasTask, ReadyClientsWork}
use Rattle.tg_law_finish.proofs.Finish.Behind.{Past, OfUnit, OfSeqr, OfSpare, HandPast, WorkPast, all_past}
use Rattle.tg_law_finish.proofs.Finish.Older.{IsLater, IsFencedIn}
use Rattle.tg_law_finish.proofs.Finish.Suiting.{Suits, WorkSuits, no_reconf, all_suit}

module _ (m : Meaning) (h : Header) (zs : Moves m) (r : Reaches m h zs (after m h zs)) (k : ℕ) (v : Work m) (has : (client m (after m h zs) k).work ≡ Some v) (b : IsReadyFor m (after m h zs) k) (spare : IsSpareReady m (after m h zs) v.command) where
  abbrev q : Layout
  q = latest m (after m h zs)

  abbrev epochs : ℕ → ℕ
  epochs = λ u. (unit m (after m h zs) u).epoch

  abbrev seqrs : ℕ → SeqrState
  seqrs = λ s. seqr m (after m h zs) s

  none_fenced : (e : ℕ) → None ≡ Some e → ⊥
  none_fenced e is = cc

  none_past : Past m epochs seqrs q v.command → ⊥
  none_past (OfUnit u here less) = let e = (b.units u (contained (units_of q) u here)).1 in omega (arith, e, less)
  none_past (OfSeqr (IsLater less)) = let e = b.serves.epoch in omega (arith, e, less)
  none_past (OfSeqr (IsFencedIn by at is)) = none_fenced by (sym b.serves.unfenced ∙ is)
  none_past (OfSpare u s t is less) = let e = (subst (λ (y : CommandOf m). IsSpareReady m (after m h zs) y) is spare).1 in omega (arith, e, less)

  hand_past : HandPast m epochs seqrs q v.command v.hand
  hand_past = subst (λ (l : Layout). HandPast m epochs seqrs l v.command v.hand) b.stand (subst (λ (o : Option (Work m)). WorkPast m epochs seqrs (client m (after m h zs) k).stand o) has (all_past m h zs r k))

  suits : Suits m v.command (task_in m v.hand)
  suits = subst (λ (o : Option (Work m)). WorkSuits m o) has (all_suit m h zs (after m h zs) r k)

  by_hand : NoReconf m v.command → (d : Hand m) → v.hand ≡ d → HandPast m epochs seqrs q v.command d → Suits m v.command (task_in m d) → HasTask m (after m h zs) k
  by_hand such (Doing t) e past fits = record { work = v; waits = has; task = t; hand = e }
  by_hand such (Learning ws (Reconfiguring x)) e past fits = absurd (no_reconf m v.command such fits)
  by_hand such (Learning ws (Syncing x)) e past fits = absurd (none_past past)
  by_hand such (Learning ws (Walking x os)) e past fits = absurd (none_past past)
  by_hand such (Learning ws (Appending x y)) e past fits = absurd (none_past past)
  by_hand such (Learning ws (Trimming x)) e past fits = absurd (none_past past)
  by_hand such (Learning ws (Copying' x)) e past fits = absurd (none_past past)

  at_work : NoReconf m v.command → HasTask m (after m h zs) k
  at_work such = by_hand such v.hand refl hand_past suits

pub ready_clients_work : (m : Meaning) → Always m (ReadyClientsWork m)
ready_clients_work m h zs w r = subst (λ (u : World m). Reaches m h zs u → ReadyClientsWork m u) (sym r.goes.is) (λ s k v has b spare such. at_work m h zs s k v has b spare such) r
