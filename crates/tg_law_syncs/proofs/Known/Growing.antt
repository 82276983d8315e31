-- What lies below a client's later tails still does while others take their turns.
use Rattle.std.proofs.Common.{◌≡◌, ℕ, ◌≤◌, refl, ap, Some, None, Option}
use Rattle.tg_base.specs.Clusters.{Header}
use Rattle.tg_base.specs.Layouts.{Layout}
use Rattle.tg_base.specs.declared.ids.NodeId.{NodeId}
use Rattle.tg_base.specs.declared.ids.Role.TheVariants as role
use Rattle.tg_base.specs.declared.packet.Packet.{Packet}
use Rattle.tg_kind.specs.Meaning.{Meaning}
use Rattle.tg_protocol.specs.Appending.{AppendWork, Asking, Putting, Judging, Append}
use Rattle.tg_protocol.specs.Syncing.{SyncWork, Checking, Settling, Probing, Sync}
use Rattle.tg_protocol.specs.Clients.{Purpose, Task, Syncing, Walking, Appending, Trimming, Copying', Reconfiguring, Hand, Doing, Learning, Work, Client, upto}
use Rattle.tg_protocol.specs.Worlds.{log}
use Rattle.tg_protocol.specs.Runs.{Moves, Reaches}
use Rattle.tg_law_layouts.specs.Moves.After.{after}
use Rattle.tg_law_layouts.specs.Moves.Configs.{Config}
use Rattle.tg_law_layouts.proofs.Moves.Members.{Has}
use Rattle.tg_law_walks.specs.Lists.Drafted.{DraftsFit}
use Rattle.tg_law_walks.specs.Lists.Spared.{TrimsWereSpare}
use Rattle.tg_law_syncs.proofs.Known.Far.{AppendFar}
use Rattle.tg_law_syncs.proofs.Known.Past.{SeqrReached}
use Rattle.tg_law_syncs.proofs.Known.FarTurns.{IsPast, SyncPast, GoneOk, Common, TaskKept, TaskFar, HandFar, WorkFar, Far}
use Rattle.tg_law_syncs.proofs.Known.Reaches.{Reached, Past, Told, past_on}

module _ (m : Meaning) (h : Header) (zs : Moves m) (r : Reaches m h zs (after m h zs)) (trims : TrimsWereSpare m h zs) (fit : DraftsFit m (after m h zs)) where
  abbrev R : Config m → Layout → ℕ → Type 0
  R c p t = Reached m h zs r trims fit c p t

  abbrev P : Config m → Layout → ℕ → Type 0
  P c p t = Past m h zs r trims fit c p t

  abbrev pub T : Config m → ℕ → Layout → ℕ → (ℕ → Type 0) → Type 0
  T c k p rid G = Told m h zs r trims fit c k p rid G

  abbrev pub FarIn : Config m → ℕ → Client m → Type 0
  FarIn c k x = Far m (log m (after m h zs)) (Reached m h zs r trims fit c) (Past m h zs r trims fit c) (Told m h zs r trims fit c k) x

  -- what it is to have of the answers to what it has asked
  pub record Tells (c d : Config m) (k : ℕ) (x : Client m) : Type 0 where
    pub tail : (w : Work m) (s : Sync) (rid : ℕ) → x.work ≡ Some w → w.hand ≡ Doing (Syncing s) → s.work ≡ Checking rid → T c k x.stand rid (IsPast m (log m (after m h zs)) x.view w.at w.gone_before) → T d k x.stand rid (IsPast m (log m (after m h zs)) x.view w.at w.gone_before)
    pub token : (w : Work m) (a : Append) (y : Purpose m) (rid : ℕ) → x.work ≡ Some w → w.hand ≡ Doing (Appending a y) → a.work ≡ Asking rid → T c k x.stand rid (λ pos. upto m x ≤ pos) → T d k x.stand rid (λ pos. upto m x ≤ pos)

  module _ (c d : Config m) (k : ℕ) (x : Client m) (on : (s e t : ℕ) → SeqrReached m c s e t → SeqrReached m d s e t) (more : Tells c d k x) where
    past_more : (p : Layout) (t : ℕ) → P c p t → P d p t
    past_more p t f = past_on m h zs r trims fit c d on p t f

    gone_more : (p : Layout) (g : ℕ) → GoneOk m (log m (after m h zs)) (Reached m h zs r trims fit c) (Past m h zs r trims fit c) (Told m h zs r trims fit c k) p g
        → GoneOk m (log m (after m h zs)) (Reached m h zs r trims fit d) (Past m h zs r trims fit d) (Told m h zs r trims fit d k) p g
    gone_more p g f o q less st = let y = f o q less st in record { top = y.top; saved = y.saved; is_past = past_more p y.top y.is_past }

    common_more : (w : Work m) → Common m (log m (after m h zs)) (Reached m h zs r trims fit c) (Past m h zs r trims fit c) (Told m h zs r trims fit c k) x.stand x w
        → Common m (log m (after m h zs)) (Reached m h zs r trims fit d) (Past m h zs r trims fit d) (Told m h zs r trims fit d k) x.stand x w
    common_more w f = record { at = past_more x.stand w.at f.at; gone = gone_more x.stand w.gone f.gone }

    kept_more : (w : Work m) (t : Task m) → TaskKept m (log m (after m h zs)) (Reached m h zs r trims fit c) (Past m h zs r trims fit c) (Told m h zs r trims fit c k) x w t
        → TaskKept m (log m (after m h zs)) (Reached m h zs r trims fit d) (Past m h zs r trims fit d) (Told m h zs r trims fit d k) x w t
    kept_more w (Syncing s) f = (common_more w f.0, f.1, f.2)
    kept_more w (Walking v os) f = (common_more w f.0, f.1, past_more x.stand w.tail f.2)
    kept_more w (Appending a y) f = (common_more w f.0, f.1)
    kept_more w (Trimming t) f = tt
    kept_more w (Copying' y) f = tt
    kept_more w (Reconfiguring y) f = tt

    far_more : (w : Work m) (t : Task m) → x.work ≡ Some w → w.hand ≡ Doing t → TaskFar m (log m (after m h zs)) (Reached m h zs r trims fit c) (Past m h zs r trims fit c) (Told m h zs r trims fit c k) x w t
        → TaskFar m (log m (after m h zs)) (Reached m h zs r trims fit d) (Past m h zs r trims fit d) (Told m h zs r trims fit d k) x w t
    far_more w (Syncing s) has at f = (by s.work refl f.0, gone_more x.stand w.gone_before f.1)
      where
        by : (v : SyncWork) → s.work ≡ v → SyncPast m (log m (after m h zs)) (Reached m h zs r trims fit c) (Past m h zs r trims fit c) (Told m h zs r trims fit c k) x.stand x.view w.at w.gone_before v
            → SyncPast m (log m (after m h zs)) (Reached m h zs r trims fit d) (Past m h zs r trims fit d) (Told m h zs r trims fit d k) x.stand x.view w.at w.gone_before v
        by (Checking rid) e g = more.tail w s rid has at e g
        by (Settling a j) e g = (g.0, g.1, on x.stand.seq x.stand.epoch a.tail g.2)
        by (Probing a j) e g = (g.0, past_more x.stand a.tail g.1)
    far_more w (Appending a y) has at f = by a.work refl f
      where
        by : (v : AppendWork) → a.work ≡ v → AppendFar x.stand (R c x.stand) (P c x.stand) (T c k x.stand) (upto m x) a.token v → AppendFar x.stand (R d x.stand) (P d x.stand) (T d k x.stand) (upto m x) a.token v
        by (Asking rid) e g = more.token w a y rid has at e g
        by (Putting j) e g = λ t i. let z = g t i in (z.0, on x.stand.seq x.stand.epoch t.pos z.1)
        by (Judging j) e g = g
    far_more w (Walking v os) has at f = tt
    far_more w (Trimming t) has at f = tt
    far_more w (Copying' y) has at f = tt
    far_more w (Reconfiguring y) has at f = tt

    pub grows : FarIn c k x → FarIn d k x
    grows f = record { view = past_more x.stand (upto m x) f.view; work = by x.work refl f.work }
      where
        hand : (w : Work m) (v : Hand m) → x.work ≡ Some w → w.hand ≡ v → HandFar m (log m (after m h zs)) (Reached m h zs r trims fit c) (Past m h zs r trims fit c) (Told m h zs r trims fit c k) x w v
            → HandFar m (log m (after m h zs)) (Reached m h zs r trims fit d) (Past m h zs r trims fit d) (Told m h zs r trims fit d k) x w v
        hand w (Doing t) has at g = (kept_more w t g.0, far_more w t has at g.1)
        hand w (Learning ws t) has at g = kept_more w t g

        by : (v : Option (Work m)) → x.work ≡ v → WorkFar m (log m (after m h zs)) (Reached m h zs r trims fit c) (Past m h zs r trims fit c) (Told m h zs r trims fit c k) x v
            → WorkFar m (log m (after m h zs)) (Reached m h zs r trims fit d) (Past m h zs r trims fit d) (Told m h zs r trims fit d k) x v
        by None e g = tt
        by (Some w) e g = hand w w.hand e refl g

  -- while no sequencer sends
  pub quiet_tells : (c d : Config m) (k : ℕ) (x : Client m) → ((a : Packet) → Has d.packets a → a.from.role ≡ role.Seqr → Has c.packets a) → Tells c d k x
  quiet_tells c d k x old = record {
    tail = λ w s rid has at e f a g to from number t ls tells. f a (old a g (ap (λ (n : NodeId). n.role) from)) to from number t ls tells;
    token = λ w b y rid has at e f a g to from number t ls tells. f a (old a g (ap (λ (n : NodeId). n.role) from)) to from number t ls tells;
  }
