-- The tail with which a sync ends lies past what its client has played and appended, and what trims that were known before it
-- have left of each stream.
use Rattle.std.proofs.Common.{◌≡◌, ℕ, ◌≤◌, List, ◌++◌, refl, sym, ◌∙◌, subst}
use Rattle.std.specs.Prelude.{Contains}
use Rattle.tg_base.specs.Clusters.{Header}
use Rattle.tg_base.specs.Layouts.{Layout}
use Rattle.tg_base.specs.declared.ids.Oid.{Oid}
use Rattle.tg_base.specs.declared.packet.Packet.{Packet}
use Rattle.tg_kind.specs.Meaning.{Meaning}
use Rattle.tg_model.specs.declared.command.Command.TheVariants as cmd
use Rattle.tg_protocol.specs.Requests.{Next, Ends}
use Rattle.tg_protocol.specs.Replies.{reply}
use Rattle.tg_protocol.specs.Syncing.{SyncWork, Checking, Settling, Probing, Sync, Confirmed, sync_feed}
use Rattle.tg_protocol.specs.Logs.{Log}
use Rattle.tg_protocol.specs.Clients.{Syncing, Doing, Work, Client, upto as played}
use Rattle.tg_protocol.specs.ClientSteps.{task_asks, task_awaited}
use Rattle.tg_protocol.specs.Worlds.{World, client, log}
use Rattle.tg_protocol.specs.Runs.{Moves, Reaches}
use Rattle.tg_law_layouts.specs.Moves.After.{after}
use Rattle.tg_law_layouts.specs.Moves.Configs.{Config, config, client_in}
use Rattle.tg_law_layouts.proofs.Moves.Members.{has_contained}
use Rattle.tg_law_cells.proofs.Cells.Justified.{awaited_ask}
use Rattle.tg_law_walks.specs.Walks.Rounds.{IsBehind}
use Rattle.tg_law_walks.specs.Lists.Drafted.{DraftsFit}
use Rattle.tg_law_walks.specs.Lists.Lists.{EachLaterBySpareTrims}
use Rattle.tg_law_walks.specs.Lists.Spared.{TrimsWereSpare}
use Rattle.tg_law_syncs.specs.Syncs.Syncs.{AwaitsSync}
use Rattle.tg_law_syncs.proofs.Syncs.Confirming.{by_run, syncs_confirm}
use Rattle.tg_law_syncs.specs.Known.Tails.{TailsAreConfirmed}
use Rattle.tg_law_syncs.proofs.Known.Far.{SyncFar, SyncNext, SyncHeard, sync_far}
use Rattle.tg_law_syncs.proofs.Known.FarTurns.{IsPast, SyncPast, HandFar}
use Rattle.tg_law_syncs.proofs.Known.Reaches.{Reached, Past, Told}
use Rattle.tg_law_syncs.proofs.Known.Telling.{far_hand}
use Rattle.tg_law_syncs.proofs.Known.FarHeld.{asked_check, is_tail, far_at}

-- what is left of it where only the tail counts
module _ (p : Layout) where
  abbrev AnyAt : ℕ → Type 0
  AnyAt t = Unit {0}

  abbrev AnyTold : ℕ → (ℕ → Type 0) → Type 0
  AnyTold rid G = Unit {0}

  tail_only : (reached past : ℕ → Type 0) (told : ℕ → (ℕ → Type 0) → Type 0) (G : ℕ → Type 0) (w : SyncWork) → SyncFar p reached past told G w → SyncFar p AnyAt AnyAt AnyTold G w
  tail_only reached past told G (Checking rid) f = tt
  tail_only reached past told G (Settling a j) f = (f.0, f.1, tt)
  tail_only reached past told G (Probing a j) f = (f.0, tt)

module _ (m : Meaning) where
  -- where a tail lies, and that its sync was of the command's streams
  record IsFar (l : Log) (c : Client m) (w : Work m) (s : Sync) (tail : ℕ) : Type 0 where
    pub upto : played m c ≤ tail
    pub at : w.at ≤ tail
    pub own : w.command ≡ cmd.End → played m c ≤ w.at
    pub behind : IsBehind m l tail w.gone_before
    pub streams : s.oids ≡ w.oids

  abbrev TailsAreFar : World m → World m → Type 0
  TailsAreFar w v = (k : ℕ) (x : Packet) (s : Sync) (c : Confirmed) → (a : AwaitsSync m w k x s) →
      (sync_feed (client m w k).stand s s.work x.from.num (reply x.msg) (client m w k).next).to ≡ Ends c → IsFar (log m v) (client m w k) a.work s c.tail

module _ (m : Meaning) (h : Header) (xs ys : Moves m) (r : Reaches m h (xs ++ ys) (after m h (xs ++ ys))) (trims : TrimsWereSpare m h (xs ++ ys)) (fit : DraftsFit m (after m h (xs ++ ys))) where
  abbrev c : Config m
  c = config m (after m h xs)

  abbrev l : Log
  l = log m (after m h (xs ++ ys))

  abbrev R : Layout → ℕ → Type 0
  R = Reached m h (xs ++ ys) r trims fit (config m (after m h xs))

  abbrev P : Layout → ℕ → Type 0
  P = Past m h (xs ++ ys) r trims fit (config m (after m h xs))

  module _ (k : ℕ) (x : Packet) (s : Sync) (y : Confirmed) (a : AwaitsSync m (after m h xs) k x s) where
    abbrev cl : Client m
    cl = client_in m (config m (after m h xs)) k

    abbrev p : Layout
    p = (client_in m (config m (after m h xs)) k).stand

    abbrev T : Layout → ℕ → (ℕ → Type 0) → Type 0
    T = Told m h (xs ++ ys) r trims fit (config m (after m h xs)) k

    abbrev G : ℕ → Type 0
    G t = IsPast m (log m (after m h (xs ++ ys))) (client_in m (config m (after m h xs)) k).view a.work.at a.work.gone_before t

    hand : HandFar m l R P T cl a.work (Doing (Syncing s))
    hand = far_hand m h (xs ++ ys) r trims fit xs ys refl k ((far_at m h (xs ++ ys) r trims fit xs ys refl).clients k) a.work (Doing (Syncing s)) a.works a.syncs

    hears : SyncHeard p (AnyAt p) (AnyAt p) (AnyTold p) G s x.from.num (reply x.msg) cl.next
    unfolding task_asks
    hears = record {
      tail = λ rid t ls at is.
          let b = awaited_ask (task_awaited m p (Syncing s)) x.from x.rid a.awaited in
          let o = asked_check p s s.work rid at b.ask b.has in
          let old = subst (λ (v : SyncWork). SyncPast m l R P T p cl.view a.work.at a.work.gone_before v) at hand.1.0 in
          (old x (has_contained _ x a.sent) a.to (sym b.to ∙ o.0) (sym b.number ∙ o.1) t ls (is_tail x.msg t ls is), tt);
      gone = λ b j d at pos ends so. tt;
      done = λ b j d at pos ends so. tt;
    }

    far : (sync_feed p s s.work x.from.num (reply x.msg) cl.next).to ≡ Ends y → SyncNext p (AnyAt p) (AnyAt p) (AnyTold p) G (Ends y)
    far ends = subst (λ (to : Next Sync Confirmed). SyncNext p (AnyAt p) (AnyAt p) (AnyTold p) G to) ends
        (sync_far p (AnyAt p) (AnyAt p) (AnyTold p) (λ t le. tt) 0 (λ rid F le. tt) G s x.from.num (reply x.msg) cl.next hears (tail_only p (R p) (P p) (T p) G s.work hand.1.0))

  tails_here : TailsAreFar m (after m h xs) (after m h (xs ++ ys))
  tails_here k x s y a ends =
      let tail = (far k x s y a ends).0 in
      record { upto = tail.upto; at = tail.own; own = (hand k x s y a).0.1; behind = tail.behind; streams = (hand k x s y a).0.2 }

module _ (m : Meaning) where
  tails_are_far : EachLaterBySpareTrims m (TailsAreFar m)
  tails_are_far = by_run m (TailsAreFar m) (λ h xs ys r trims fit. tails_here m h xs ys r trims fit)

  pub tails_are_confirmed : EachLaterBySpareTrims m (TailsAreConfirmed m)
  tails_are_confirmed h ms w v r l trims k x s c a ends =
      let t = syncs_confirm m h ms w v r l trims k x s c a ends in
      let f = tails_are_far h ms w v r l trims k x s c a ends in
      record {
        settled = t.settled;
        lists = λ o i. t.lists o (subst (λ (os : List Oid). Contains os o) (sym f.streams) i);
        upto = f.upto;
        at = f.at;
        own = f.own;
        behind = f.behind;
      }
