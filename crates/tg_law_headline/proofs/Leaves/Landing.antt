-- In each step of a run, what a client appends lands past its view.
use Rattle.std.proofs.Common.{◌≡◌, ℕ, ◌∷◌, ◌++◌, arith}
use Rattle.tg_base.specs.Clusters.{Header}
use Rattle.tg_base.specs.Layouts.{Layout}
use Rattle.tg_base.specs.declared.packet.Packet.{Packet}
use Rattle.tg_kind.specs.Meaning.{Meaning}
use Rattle.tg_model.specs.Kinds.{EventOf}
use Rattle.tg_model.specs.declared.command.Event.TheVariants.{Command as Commands, Deliver, Lose, Tick, Stop}
use Rattle.tg_protocol.specs.Words.{client_id}
use Rattle.tg_protocol.specs.Requests.{Next, Goes, Learns, Ends}
use Rattle.tg_protocol.specs.Replies.{reply}
use Rattle.tg_protocol.specs.Appending.{Append, AppendEnd, At, Full, Forgotten, append_feed}
use Rattle.tg_protocol.specs.Clients.{Appending, Doing, Client, upto}
use Rattle.tg_protocol.specs.Worlds.{World}
use Rattle.tg_protocol.specs.Runs.{Moves, Takes, Reaches}
use Rattle.tg_law_layouts.specs.Moves.After.{after}
use Rattle.tg_law_layouts.specs.Moves.Configs.{Config, config, client_in}
use Rattle.tg_law_layouts.proofs.Moves.Members.{has_got}
use Rattle.tg_law_layouts.proofs.Moves.Moves.{Comes}
use Rattle.tg_law_walks.specs.Lists.Drafted.{DraftsFit}
use Rattle.tg_law_walks.specs.Lists.Spared.{TrimsWereSpare}
use Rattle.tg_law_walks.proofs.Lists.Fits.{drafts_fit}
use Rattle.tg_law_replies.specs.Replies.Runs.{InEachStep}
use Rattle.tg_law_syncs.proofs.Known.Far as far
use Rattle.tg_law_syncs.proofs.Known.Far.{append_far}
use Rattle.tg_law_syncs.proofs.Known.FarHeld.{Held, far_at, hears_all, none_told}
use Rattle.tg_law_syncs.proofs.Known.Reaches.{Reached, Past, Told, past_low}
use Rattle.tg_law_syncs.proofs.Known.Telling.{far_hand}
use Rattle.tg_law_syncs.proofs.Exact.Finds.{at_end, of_client}
use Rattle.tg_law_headline.proofs.Leaves.Turns.{LandsPast, Lands}
use Rattle.tg_law_headline.proofs.Leaves.Steps.{StepLands}

module _ (p : Layout) (reached past : ℕ → Type 0) (told : ℕ → (ℕ → Type 0) → Type 0) (u : ℕ) where
  ends_past : (e : AppendEnd) → far.EndFar p reached past told u e → LandsPast u (Ends e)
  ends_past (At q d) f = f.0
  ends_past (Full b) f = tt
  ends_past (Forgotten q b) f = tt

  lands_past : (to : Next Append AppendEnd) → far.AppendNext p reached past told u to → LandsPast u to
  lands_past (Goes a) f = tt
  lands_past (Learns a) f = tt
  lands_past (Ends e) f = ends_past e f

module _ (m : Meaning) (h : Header) (zs : Moves m) (r : Reaches m h zs (after m h zs)) (trims : TrimsWereSpare m h zs) (fit : DraftsFit m (after m h zs)) (xs : Moves m) (e : EventOf m) (ys : Moves m) (split : zs ≡ xs ++ Takes e ∷ ys) where
  abbrev c : Config m
  c = config m (after m h xs)

  held : Held m h zs r trims fit (config m (after m h xs))
  held = far_at m h zs r trims fit xs (Takes e ∷ ys) split

  module _ (k : ℕ) (x : Packet) (comes : Comes m (config m (after m h xs)) x (client_id k)) where
    abbrev cl : Client m
    cl = client_in m (config m (after m h xs)) k

    abbrev p : Layout
    p = (client_in m (config m (after m h xs)) k).stand

    lands : Lands m (client_in m (config m (after m h xs)) k) x.from x.rid (reply x.msg)
    lands w a y works hand awaited =
        let heard = (hears_all m h zs r trims fit xs e ys split held k x comes).answer w (Appending a y) works hand awaited in
        let kept = far_hand m h zs r trims fit xs (Takes e ∷ ys) split k (held.clients k) w (Doing (Appending a y)) works hand in
        lands_past p (Reached m h zs r trims fit c p) (Past m h zs r trims fit c p) (Told m h zs r trims fit c k p) (upto m cl) (append_feed p a a.work x.from.num (reply x.msg) cl.next).to
        (append_far p (Reached m h zs r trims fit c p) (Past m h zs r trims fit c p) (Told m h zs r trims fit c k p) (past_low m h zs r trims fit c p) cl.next (none_told m h zs r trims fit xs e ys split held k p) (upto m cl)
        a x.from.num (reply x.msg) cl.next (omega arith) heard.0 (kept.0.1, kept.1))

  by_event : (v : EventOf m) → StepLands m (after m h xs) v
  by_event (Deliver i) = λ x at is. lands x.to.num x (record { sent = has_got (after m h xs).packets i x at; to_node = of_client x.to is })
  by_event (Commands k x) = tt
  by_event (Lose i) = tt
  by_event (Tick n) = tt
  by_event (Stop n) = tt

-- in each step of a run in which trims were spare
abbrev pub LandInSteps : (m : Meaning) → Header → Moves m → World m → Type 0
LandInSteps m h ms w = InEachStep m h ms (λ before v e. StepLands m v e)

pub lands_in_steps : (m : Meaning) → (h : Header) (ms : Moves m) (w : World m) → Reaches m h ms w → TrimsWereSpare m h ms → LandInSteps m h ms w
lands_in_steps m = at_end m (LandInSteps m) (λ h ms r trims xs ys e split. by_event m h ms r trims (drafts_fit m h ms (after m h ms) r) xs e ys split e)
