-- What is learnt.
use Rattle.std.proofs.Common.{◌≡◌, ℕ, Bool, true, false, refl, sym, ap, subst}
use Rattle.tg_base.specs.Layouts.{Layout}
use Rattle.tg_base.specs.declared.ids.NodeId.{NodeId}
use Rattle.tg_base.specs.declared.turn.Stand.{Stand}
use Rattle.tg_protocol.specs.Requests.{Goes, Ends}
use Rattle.tg_protocol.specs.Replies.{Reply, IsLatest, reply}
use Rattle.tg_chain.specs.declared.ends.LearnEnd.TheVariants.{Known}
use Rattle.tg_chain.specs.Learns.{Learning, is_newer, tells_newer, at_layout, latest_if, learn_reply, learn_feed}
use Rattle.tg_chain.specs.Laws.{LearnsNewer, LearnWaits, LearnAsksOnce}

latest_ends : (b : Bool) (l : Learning) (from : NodeId) (q : Layout) (next : ℕ) (s : Stand) → is_newer l from q ≡ b →
    (latest_if b l q next).to ≡ Ends (Known s) →
    (IsLatest q ≡ IsLatest s.proj) × (is_newer l from s.proj ≡ true) × (s.layouts ≡ l.stand.layouts)
latest_ends true l from q next s e h =
    let same : at_layout l.stand q ≡ s = cc in
    (ap (λ (z : Stand). IsLatest z.proj) same, subst (λ (z : Stand). is_newer l from z.proj ≡ true) same e, sym (ap (λ (z : Stand). z.layouts) same))
latest_ends false l from q next s e h = absurd (cc)

reply_ends : (l : Learning) (from : NodeId) (x : Reply) (next : ℕ) (s : Stand) → (learn_reply l from x next).to ≡ Ends (Known s) →
    (x ≡ IsLatest s.proj) × (is_newer l from s.proj ≡ true) × (s.layouts ≡ l.stand.layouts)
reply_ends l from (IsLatest q) next s h = latest_ends (is_newer l from q) l from q next s refl h
reply_ends l from _ next s h = absurd (cc)

pub learns_newer : LearnsNewer
unfolding learn_feed
learns_newer l from m next s h = reply_ends l from (reply m) next s h

latest_waits : (b : Bool) (l : Learning) (q : Layout) (next : ℕ) (k : Learning) → (latest_if b l q next).to ≡ Goes k → (b ≡ false) × (k ≡ l)
latest_waits true l q next k h = absurd (cc)
latest_waits false l q next k h = (refl, cc)

reply_waits : (l : Learning) (from : NodeId) (x : Reply) (next : ℕ) (k : Learning) → (learn_reply l from x next).to ≡ Goes k →
    (tells_newer l from x ≡ false) × (k ≡ l)
reply_waits l from (IsLatest q) next k h = latest_waits (is_newer l from q) l q next k h
reply_waits l from _ next k h = (refl, cc)

pub learn_waits : LearnWaits
unfolding learn_feed
learn_waits l from m next k h = reply_waits l from (reply m) next k h

latest_once : (b : Bool) (l : Learning) (q : Layout) (next : ℕ) → (latest_if b l q next).next ≡ next
latest_once true l q next = refl
latest_once false l q next = refl

reply_once : (l : Learning) (from : NodeId) (x : Reply) (next : ℕ) → (learn_reply l from x next).next ≡ next
reply_once l from (IsLatest q) next = latest_once (is_newer l from q) l q next
reply_once l from _ next = refl

pub learn_asks_once : LearnAsksOnce
unfolding learn_feed
learn_asks_once l from m next = reply_once l from (reply m) next
