-- What a reconfiguration was told where it ends at a unit that isn't whole, and of which stripe a copy is.
use Rattle.std.proofs.Common.{◌≡◌, ℕ, ◌≤◌, [], ◌∷◌, ◌++◌, refl, sym, ap, ◌∙◌, subst, inl, inr, arith, Option, Some, None}
use Rattle.tg_base.specs.Layouts.{Layout}
use Rattle.tg_base.specs.Changes.{Changed}
use Rattle.tg_base.specs.declared.change.Join.{Join}
use Rattle.tg_base.specs.declared.ids.NodeId.{NodeId}
use Rattle.tg_base.specs.declared.msg.Msg.{Msg}
use Rattle.tg_base.specs.declared.msg.Msg.TheVariants as msg
use Rattle.tg_base.specs.declared.packet.Out.{Out}
use Rattle.tg_kind.specs.Meaning.{Meaning}
use Rattle.tg_protocol.specs.Words.{unit_id}
use Rattle.tg_protocol.specs.Requests.{out, Next, Goes, Learns, Ends}
use Rattle.tg_protocol.specs.Replies.{Reply}
use Rattle.tg_protocol.specs.Replies as reply
use Rattle.tg_protocol.specs.Trimming.{CopyTurn, Copying, CopyEnd, has_stripe, copy_start, copy_feed}
use Rattle.tg_protocol.specs.Reconfiguring.{at_work, ReconfTurn, Acks, ReconfWork, SealingSpare, LookingSpare, LookingAgain, Reconf, ReconfEnd, NotWhole, ReconfTurn, next_epoch, first_step, reconf_start, join_asks, reconf_work_asks, later_asks, reconf_awaited, reconf_feed, reconf_latest}
use Rattle.tg_protocol.specs.Causes.{IsLook}
use Rattle.tg_law_layouts.proofs.Moves.Members.{Has}
use Rattle.tg_law_claims.proofs.Causes.Jobs.{Heard}
use Rattle.tg_law_steps.proofs.Machines.Copies.{Fed as CopyFed, HasAll, copy_fed}
use Rattle.tg_law_steps.proofs.Machines.Reconfs.{Fed as ReconfFed, SpareMisses, AgainMisses, reconf_fed, Heard as ReconfHeard, StartedBefore, reconf_heard}

is_missing : (y : Msg) (p : ℕ) → reply.reply y ≡ reply.IsMissing p → y ≡ msg.Missing p
unfolding reply.reply
is_missing y p h = grind arith

-- Reconfigurations.

module _ (m : Meaning) (Got AskSent : NodeId → ℕ → Msg → Type 0) (lo : ℕ) where
  -- a unit answered a look that it misses a position
  pub record MissingNow (u pos : ℕ) : Type 0 where
    pub rid : ℕ
    pub now : lo ≤ rid
    pub request : Msg
    pub asks : IsLook m request
    pub asked : AskSent (unit_id u) rid request
    pub got : Got (unit_id u) rid (msg.Missing pos)

  abbrev pub ReconfNext : Next Reconf ReconfEnd → Type 0
  ReconfNext (Ends (NotWhole u i p)) = MissingNow u i
  ReconfNext to = Unit {0}

  module _ (r : Reconf) where
    first_ok : (next : ℕ) (j : Option Join) → ReconfNext (first_step r next j).to
    first_ok next None = tt
    first_ok next (Some j) = tt

    -- a request to look for a stripe, of the unit that joins
    abbrev IsLookOut : Out → Type 0
    IsLookOut o = (u : ℕ) × (o.to ≡ unit_id u) × IsLook m o.msg

    look_out : (jo : Option Join) (f : Join → Msg) (k : ℕ) (o : Out) → ((j : Join) → IsLook m (f j)) → Has (join_asks jo (λ j. out (unit_id j.unit) k (f j) ∷ []) ++ []) o → IsLookOut o
    look_out None f k o look h = absurd h
    look_out (Some j) f k o look (inl e) = subst IsLookOut (sym e) (j.unit, refl, look j)
    look_out (Some j) f k o look (inr h) = absurd h

    module _ (from : NodeId) (rid : ℕ) (y : Msg) (h : Heard Got AskSent lo (reconf_awaited r) from rid y) where
      missing : (pos : ℕ) → reply.reply y ≡ reply.IsMissing pos → IsLookOut h.asked.of → MissingNow from.num pos
      missing pos is look =
          let at = sym h.asked.to ∙ look.1 in
          let num = ap (λ (z : NodeId). z.num) at in
          subst (λ (u : ℕ). MissingNow u pos) (sym num) (record {
            rid = rid;
            now = h.now;
            request = h.asked.of.msg;
            asks = look.2;
            asked = subst (λ (i : ℕ). AskSent (unit_id look.0) i h.asked.of.msg) h.asked.number (subst (λ (z : NodeId). AskSent z h.asked.of.rid h.asked.of.msg) look.1 (h.sent look.0 h.asked.of h.asked.has look.1 h.asked.to h.asked.number));
            got = subst (λ (z : NodeId). Got z rid (msg.Missing pos)) at (subst (Got from rid) (is_missing y pos is) h.got);
          })

      spare_look : (k : ℕ) → r.work ≡ LookingSpare k → IsLookOut h.asked.of
      unfolding reconf_work_asks
      spare_look k is = look_out r.change.join (λ j. has_stripe r.stand.epoch r.stand j.range j.stripe) k h.asked.of (λ j. tt) (subst (λ (w : ReconfWork). Has (reconf_work_asks r w ++ later_asks r w) h.asked.of) is h.asked.has)

      again_look : (k : ℕ) (acks : Acks) → r.work ≡ LookingAgain k acks → IsLookOut h.asked.of
      unfolding reconf_work_asks
      again_look k acks is = look_out r.change.join (λ j. has_stripe (next_epoch r) r.stand j.range j.stripe) k h.asked.of (λ j. tt) (subst (λ (w : ReconfWork). Has (reconf_work_asks r w ++ later_asks r w) h.asked.of) is h.asked.has)

  -- A newer layout.

  heard_ok : (n rid : ℕ) (q : Layout) (next : ℕ) (r : Reconf) (t : ReconfTurn) → ReconfHeard n rid q next r t → ReconfNext t.to
  heard_ok n rid q next _ _ (StartedBefore r k) = tt
  heard_ok n rid q next _ _ x = tt

  pub latest_told : (r : Reconf) (n rid : ℕ) (q : Layout) (next : ℕ) → ReconfNext (reconf_latest r r.work n rid q next).to
  latest_told r n rid q next = heard_ok n rid q next r _ (reconf_heard n rid q next r)

  -- An awaited answer.

  fed_ok : (from : NodeId) (rid : ℕ) (y : Msg) (next : ℕ) (r : Reconf) (t : ReconfTurn) → ReconfFed from.num rid (reply.reply y) next r t → Heard Got AskSent lo (reconf_awaited r) from rid y → ReconfNext t.to
  fed_ok from rid y next _ _ (SpareMisses r k pos is) h = missing (at_work r (LookingSpare k)) from rid y h pos is (spare_look (at_work r (LookingSpare k)) from rid y h k refl)
  fed_ok from rid y next _ _ (AgainMisses r k acks pos is) h = missing (at_work r (LookingAgain k acks)) from rid y h pos is (again_look (at_work r (LookingAgain k acks)) from rid y h k acks refl)
  fed_ok from rid y next _ _ x h = tt

  pub reconf_told : (r : Reconf) (from : NodeId) (rid : ℕ) (y : Msg) → Heard Got AskSent lo (reconf_awaited r) from rid y → (next : ℕ) → ReconfNext (reconf_feed r r.work from.num rid (reply.reply y) next).to
  reconf_told r from rid y h next = fed_ok from rid y next r _ (reconf_fed from.num rid (reply.reply y) next r) h

  pub reconf_begun : (p : Layout) (layouts : ℕ) (c : Changed) (k next : ℕ) → ReconfNext (reconf_start p layouts c k next).to
  unfolding reconf_start
  reconf_begun p layouts c k next = first_ok (record { change = c; me = k; layouts = layouts; stand = p; work = SealingSpare 0 }) next c.join

-- Copies: of which stripe, and to which unit.

abbrev pub IsSame : Copying → Copying → Type 0
IsSame c d = (d.unit ≡ c.unit) × (d.range ≡ c.range) × (d.stripe ≡ c.stripe)

abbrev pub CopyNext : Copying → Next Copying CopyEnd → Type 0
CopyNext c (Goes d) = IsSame c d
CopyNext c (Learns d) = IsSame c d
CopyNext c (Ends e) = Unit {0}

fed_same : (p : Layout) (u : ℕ) (x : Reply) (next : ℕ) (c : Copying) (t : CopyTurn) → CopyFed p u x next c t → CopyNext c t.to
fed_same p u x next _ _ (HasAll c r is) = tt
fed_same p u x next _ _ z = (refl, refl, refl)

pub copy_stays : (p : Layout) (c : Copying) (u next : ℕ) (x : Reply) → CopyNext c (copy_feed p c c.work u x next).to
copy_stays p c u next x = fed_same p u x next c _ (copy_fed p u x next c)

pub copy_begun : (c : Copying) (next : ℕ) → CopyNext c (copy_start c.unit c.range c.stripe next).to
unfolding copy_start
copy_begun c next = (refl, refl, refl)
