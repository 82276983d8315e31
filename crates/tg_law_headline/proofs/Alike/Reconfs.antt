-- What a reconfiguration has been told since its command began, and how it ends.
use Rattle.std.proofs.Common.{◌≡◌, ℕ, ◌+◌, ◌<◌, ◌≤◌, List, [], ◌∷◌, true, false, ◌&&◌, refl, sym, ap, ◌∙◌, subst, inl, inr, ◌⊎◌, arith, Some, None, Option}
use Rattle.std.specs.Prelude.{◌==◌}
use Rattle.tg_base.specs.Layouts.{Layout}
use Rattle.tg_base.specs.Changes.{Changed}
use Rattle.tg_base.specs.declared.change.Join.{Join}
use Rattle.tg_base.specs.declared.ids.NodeId.{NodeId}
use Rattle.tg_base.specs.declared.marks.StreamLink.{StreamLink}
use Rattle.tg_base.specs.declared.msg.Msg.{Msg}
use Rattle.tg_base.specs.declared.msg.Msg.TheVariants as msg
use Rattle.tg_base.specs.declared.packet.Out.{Out}
use Rattle.tg_protocol.specs.Words.{seqr_id}
use Rattle.tg_protocol.specs.Requests.{out, Waits, Next, Goes, Learns, Ends}
use Rattle.tg_protocol.specs.Replies as reply
use Rattle.tg_protocol.specs.Reconfiguring.{at_work, ReconfWork, SealingSpare, Telling, Starting, Reconf, ReconfEnd, Installed, Overtaken, NotWhole, ReconfTurn, next_epoch, first_step, reconf_start, reconf_work_asks, reconf_awaited, reconf_feed, reconf_latest}
use Rattle.tg_law_layouts.proofs.Moves.Members.{Has}
use Rattle.tg_law_layouts.proofs.Layouts.Phases.{IsTold, told_epoch}
use Rattle.tg_law_headline.proofs.Alike.Appends.{Asked, is_tail}
use Rattle.tg_law_steps.proofs.Machines.Reconfs.{Fed, Nothing, NextFenced, Starts, StartsPast, reconf_fed, Heard, StartedBefore, Adopts, TellsOther, IsOvertaken, reconf_heard}

module _ (Got : NodeId → ℕ → Msg → Type 0) (lo e0 me : ℕ) (Known : Layout → Type 0) where
  -- the new sequencer was heard with a number from that one on
  pub record TailOf (q : Layout) : Type 0 where
    pub rid : ℕ
    pub tail : ℕ
    pub links : List StreamLink
    pub now : lo ≤ rid
    pub got : Got (seqr_id q.seq) rid (msg.Tail tail links)

  -- or a layout past an epoch
  pub record LatestPast (e : ℕ) : Type 0 where
    pub from : NodeId
    pub rid : ℕ
    pub proj : Layout
    pub got : Got from rid (msg.Latest proj)
    pub later : e < proj.epoch

  pub record InstallTold (e : ℕ) : Type 0 where
    pub proj : Layout
    pub known : Known proj
    pub epoch : proj.epoch ≡ e
    pub later : e0 < proj.epoch
    pub own : proj.by ≡ me
    pub heard : TailOf proj ⊎ LatestPast e

  -- another's layout is decided for a later epoch
  pub record OvertakeTold (e : ℕ) : Type 0 where
    pub proj : Layout
    pub known : Known proj
    pub epoch : proj.epoch ≡ e
    pub later : e0 < proj.epoch
    pub other : proj.by ≡ me → ⊥

  -- the client starts the sequencer of a layout of its own
  abbrev pub StartOk : Layout → ReconfWork → Type 0
  StartOk p (Starting k) = (lo ≤ k) × (e0 < p.epoch) × (p.by ≡ me)
  StartOk p w = Unit {0}

  abbrev pub ReconfNext : Next Reconf ReconfEnd → Type 0
  ReconfNext (Goes r) = StartOk r.stand r.work
  ReconfNext (Learns r) = StartOk r.stand r.work
  ReconfNext (Ends (Installed e p)) = InstallTold e
  ReconfNext (Ends (Overtaken e p)) = OvertakeTold e
  ReconfNext (Ends (NotWhole u i p)) = Unit {0}

  first_ok : (r : Reconf) (next : ℕ) (j : Option Join) → ReconfNext (first_step r next j).to
  first_ok r next None = tt
  first_ok r next (Some j) = tt

  pub reconf_start_ok : (p : Layout) (layouts : ℕ) (c : Changed) (k next : ℕ) → ReconfNext (reconf_start p layouts c k next).to
  unfolding reconf_start
  reconf_start_ok p layouts c k next = first_ok (record { change = c; me = k; layouts = layouts; stand = p; work = SealingSpare 0 }) next c.join

  -- what is known of it besides
  pub record ReconfFits (r : Reconf) : Type 0 where
    pub me_is : r.me ≡ me
    pub told : IsTold r
    pub stand : Known r.stand
    pub up : e0 ≤ r.stand.epoch
    pub tells : (ws : Waits) (h : ℕ) (q : Layout) → r.work ≡ Telling ws h q → Known q

  -- a layout that it hears of, when it stands there
  pub record News (p q : Layout) : Type 0 where
    pub known : Known q
    pub near : q.by ≡ me → q.epoch ≤ p.epoch + 1

  told_is : (r : Reconf) (ws : Waits) (h : ℕ) (q : Layout) → IsTold (at_work r (Telling ws h q)) → q.epoch ≡ r.stand.epoch + 1
  unfolding told_epoch
  told_is r ws h q k = k

  same_by : (a b : ℕ) → (a == b) ≡ true → a ≡ b
  same_by a b h = grind arith

  other_by : (a b : ℕ) → (a == b) ≡ false → a ≡ b → ⊥
  other_by a b h e = grind arith

  not_both : (a b c d : ℕ) → ((a == b) && (c == d)) ≡ false → a ≡ b → c ≡ d → ⊥
  not_both a b c d h e f = grind arith

  -- A newer layout.

  heard_ok : (n rid : ℕ) (q : Layout) (next : ℕ) (r : Reconf) (t : ReconfTurn) → Heard n rid q next r t → StartOk r.stand r.work → ReconfFits r → lo ≤ next → r.stand.epoch < q.epoch → News r.stand q → (from : NodeId) → Got from rid (msg.Latest q)
      → ReconfNext t.to
  heard_ok n rid q next _ _ (StartedBefore r k) ok fits le less news from got =
      record { proj = r.stand; known = fits.stand; epoch = refl; later = ok.1; own = ok.2; heard = inr (record { from = from; rid = rid; proj = q; got = got; later = less }) }
  heard_ok n rid q next _ _ (Adopts r ws k p e f g) ok fits le less news from got =
      (le, (let u = fits.up in let i = told_is r ws k p fits.told in omega (arith, u, i)), same_by p.by r.me g ∙ fits.me_is)
  heard_ok n rid q next _ _ (TellsOther r ws k p e f g) ok fits le less news from got = record {
    proj = p;
    known = fits.tells ws k p refl;
    epoch = refl;
    later = (let u = fits.up in let i = told_is r ws k p fits.told in omega (arith, u, i));
    other = λ mine. other_by p.by r.me g (mine ∙ sym fits.me_is);
  }
  heard_ok n rid q next _ _ (IsOvertaken r w of e) ok fits le less news from got = record {
    proj = q;
    known = news.known;
    epoch = refl;
    later = (let u = fits.up in omega (arith, u, less));
    other = λ mine. let near = news.near mine in not_both q.by r.me q.epoch (next_epoch r) e (mine ∙ sym fits.me_is) (omega (arith, near, less));
  }
  heard_ok n rid q next _ _ x ok fits le less news from got = tt

  pub latest_ok : (r : Reconf) → StartOk r.stand r.work → ReconfFits r → (n rid : ℕ) (q : Layout) (next : ℕ) → lo ≤ next → r.stand.epoch < q.epoch → News r.stand q → (from : NodeId) → Got from rid (msg.Latest q) → ReconfNext (reconf_latest r r.work n rid q next).to
  latest_ok r ok fits n rid q next le less news from got = heard_ok n rid q next r _ (reconf_heard n rid q next r) ok fits le less news from got

  -- An awaited answer.

  start_rid : (r : Reconf) (k : ℕ) (from : NodeId) (rid : ℕ) → Asked (reconf_awaited (at_work r (Starting k))) from rid → (seqr_id r.stand.seq ≡ from) × (k ≡ rid)
  unfolding reconf_work_asks
  start_rid r k from rid a = by a.of a.has a.to a.number
    where
      by : (o : Out) → Has (out (seqr_id r.stand.seq) k (msg.Learn r.stand) ∷ []) o → o.to ≡ from → o.rid ≡ rid → (seqr_id r.stand.seq ≡ from) × (k ≡ rid)
      by o (inl e) t n = (ap (λ (z : Out). z.to) (sym e) ∙ t, ap (λ (z : Out). z.rid) (sym e) ∙ n)
      by o (inr h) t n = absurd h

  fed_ok : (n : ℕ) (from : NodeId) (rid : ℕ) (y : Msg) (next : ℕ) (r : Reconf) (t : ReconfTurn) → Fed n rid (reply.reply y) next r t → StartOk r.stand r.work → ReconfFits r → Got from rid y → Asked (reconf_awaited r) from rid → ReconfNext t.to
  fed_ok n from rid y next _ _ (Nothing r) ok fits got a = ok
  fed_ok n from rid y next _ _ (NextFenced r w e of is f) ok fits got a = ok
  fed_ok n from rid y next _ _ (StartsPast r k e is f) ok fits got a = ok
  fed_ok n from rid y next _ _ (Starts r k t ls is named) ok fits got a =
      let at = start_rid r k from rid a in
      record {
        proj = r.stand;
        known = fits.stand;
        epoch = refl;
        later = ok.1;
        own = ok.2;
        heard = inl (record {
          rid = k;
          tail = t;
          links = ls;
          now = ok.0;
          got = subst (λ (i : ℕ). Got (seqr_id r.stand.seq) i (msg.Tail t ls)) (sym at.1) (subst (λ (z : NodeId). Got z rid (msg.Tail t ls)) (sym at.0) (subst (Got from rid) (is_tail y t ls is) got));
        });
      }
  fed_ok n from rid y next _ _ x ok fits got a = tt

  pub reconf_ok : (r : Reconf) → StartOk r.stand r.work → ReconfFits r → (n : ℕ) (from : NodeId) (rid : ℕ) (y : Msg) (next : ℕ) → Got from rid y → Asked (reconf_awaited r) from rid → ReconfNext (reconf_feed r r.work n rid (reply.reply y) next).to
  reconf_ok r ok fits n from rid y next got a = fed_ok n from rid y next r _ (reconf_fed n rid (reply.reply y) next r) ok fits got a
