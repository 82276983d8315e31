-- What a sync, a copy, a trim and a reconfiguration have been told since their command began.
use Rattle.std.proofs.Common.{◌≡◌, ℕ, ◌≤◌, List, [], ◌∷◌, refl, sym, ap, ◌∙◌, subst, inl, inr, arith}
use Rattle.tg_base.specs.Layouts.{Layout}
use Rattle.tg_base.specs.declared.ids.NodeId.{NodeId}
use Rattle.tg_base.specs.declared.ids.Oid.{Oid}
use Rattle.tg_base.specs.declared.marks.StreamLink.{StreamLink}
use Rattle.tg_base.specs.declared.msg.Msg.{Msg}
use Rattle.tg_base.specs.declared.msg.Msg.TheVariants as msg
use Rattle.tg_base.specs.declared.packet.Out.{Out}
use Rattle.tg_protocol.specs.Words.{seqr_id}
use Rattle.tg_protocol.specs.Requests.{Turn, out, Next, Goes, Learns, Ends}
use Rattle.tg_protocol.specs.Replies.{Reply, reply, IsTail, IsWhole}
use Rattle.tg_protocol.specs.Syncing.{SyncWork, Checking, Settling, Probing, Sync, Confirmed, sync_work_asks, sync_asks, sync_start, sync_feed}
use Rattle.tg_protocol.specs.Trimming.{CopyTurn, CopyWork, Looking, Copying, CopyEnd, copy_start, copy_feed}
use Rattle.tg_law_layouts.proofs.Moves.Members.{Has}
use Rattle.tg_law_headline.proofs.Alike.Appends.{is_tail, Asked}
use Rattle.tg_law_steps.proofs.Machines.Syncs.{checking, Fed, SettlesLast, ProbesLast, LearnsEpoch, JobLearns, JobFenced, sync_fed}
use Rattle.tg_law_steps.proofs.Machines.Copies.{Fed as CopyFed, Nothing, LooksLast, HasAll, copy_fed as copy_turned}

-- Syncs.

module _ (Got : NodeId → ℕ → Msg → Type 0) (lo : ℕ) where
  -- a tail was told with a number from this one on
  pub record TailTold (t : ℕ) : Type 0 where
    pub from : NodeId
    pub rid : ℕ
    pub links : List StreamLink
    pub now : lo ≤ rid
    pub got : Got from rid (msg.Tail t links)

  abbrev pub SyncOk : SyncWork → Type 0
  SyncOk (Checking r) = lo ≤ r
  SyncOk (Settling a j) = TailTold a.tail
  SyncOk (Probing a j) = TailTold a.tail

  abbrev pub SyncNext : Next Sync Confirmed → Type 0
  SyncNext (Goes s) = SyncOk s.work
  SyncNext (Learns s) = Unit {0}
  SyncNext (Ends x) = TailTold x.tail

  pub sync_start_ok : (os : List Oid) (next : ℕ) → lo ≤ next → SyncNext (sync_start os next).to
  unfolding sync_start
  sync_start_ok os next le = le

  check_rid : (p : Layout) (s : Sync) (r : ℕ) (from : NodeId) (rid : ℕ) → Asked (sync_work_asks p s (Checking r)) from rid → rid ≡ r
  unfolding sync_work_asks
  check_rid p s r from rid k = by k.of k.has k.number
    where
      by : (o : Out) → Has (out (seqr_id p.seq) r (msg.Check p.epoch s.oids) ∷ []) o → o.rid ≡ rid → rid ≡ r
      by o (inl e) i = sym i ∙ ap (λ (z : Out). z.rid) e
      by o (inr h) i = absurd h

  module _ (p : Layout) (from : NodeId) (rid : ℕ) (y : Msg) (got : Got from rid y) (n next : ℕ) where
    told : (os : List Oid) (r t : ℕ) (ls : List StreamLink) → lo ≤ r → Asked (sync_asks p (checking os r)) from rid → reply y ≡ IsTail t ls → TailTold t
    told os r t ls k a is = record { from = from; rid = rid; links = ls; now = (let e = check_rid p (checking os r) r from rid a in omega (arith, k, e)); got = subst (Got from rid) (is_tail y t ls is) got }

    turn_ok : (s : Sync) (t : Turn Sync Confirmed) → Fed p n (reply y) next s t → SyncOk s.work → Asked (sync_asks p s) from rid → SyncNext t.to
    turn_ok _ _ (SettlesLast os r t ls is named e) k a = told os r t ls k a is
    turn_ok _ _ (ProbesLast os r t ls is named e) k a = told os r t ls k a is
    turn_ok _ _ (LearnsEpoch os r e is f) k a = tt
    turn_ok _ _ (JobLearns os w j i of e) k a = tt
    turn_ok _ _ (JobFenced os w j u e of is) k a = tt
    turn_ok _ _ x k a = k

  pub sync_ok : (p : Layout) (s : Sync) → SyncOk s.work → (from : NodeId) (rid : ℕ) (y : Msg) → Got from rid y → (n next : ℕ) → Asked (sync_asks p s) from rid → SyncNext (sync_feed p s s.work n (reply y) next).to
  sync_ok p s ok from rid y got n next a = turn_ok p from rid y got n next s _ (sync_fed p n (reply y) next s) ok a

-- Copies: the look at the end is numbered from that number on, and they end where it is answered.

abbrev pub CopyOk : ℕ → CopyWork → Type 0
CopyOk lo (Looking r) = lo ≤ r
CopyOk lo w = Unit {0}

module _ (lo : ℕ) (Fin : Type 0) where
  abbrev pub CopyNext : Next Copying CopyEnd → Type 0
  CopyNext (Goes c) = CopyOk lo c.work
  CopyNext (Learns c) = Unit {0}
  CopyNext (Ends e) = Fin

  pub copy_start_ok : (u r s next : ℕ) → CopyNext (copy_start u r s next).to
  unfolding copy_start
  copy_start_ok u r s next = tt

  fed_so : (p : Layout) (u : ℕ) (x : Reply) (next : ℕ) (c : Copying) (t : CopyTurn) → CopyFed p u x next c t → CopyOk lo c.work → ((r : ℕ) → c.work ≡ Looking r → x ≡ IsWhole → Fin) → lo ≤ next → CopyNext t.to
  fed_so p u x next _ _ (Nothing c) ok fin le = ok
  fed_so p u x next _ _ (LooksLast c w at gone of e) ok fin le = le
  fed_so p u x next _ _ (HasAll c r is) ok fin le = fin r refl is
  fed_so p u x next _ _ z ok fin le = tt

  pub copy_fed : (p : Layout) (c : Copying) → CopyOk lo c.work → (u next : ℕ) (x : Reply) → ((r : ℕ) → c.work ≡ Looking r → x ≡ IsWhole → Fin) → lo ≤ next → CopyNext (copy_feed p c c.work u x next).to
  copy_fed p c ok u next x fin le = fed_so p u x next c _ (copy_turned p u x next c) ok fin le
