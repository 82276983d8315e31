-- Through each of a client's turns: what it has in hand to append comes from ends of walks to which the run has come.
use Rattle.std.proofs.Common.{◌∙◌, ◌≡◌, ◌⊎◌, ℕ, ◌<◌, ◌≤◌, List, [], ◌∷◌, ◌++◌, length, Bool, true, false, refl, sym, subst, inl, inr, arith, Option, Some, None}
use Rattle.std.specs.Prelude.{not, nat_lt}
use Rattle.tg_base.specs.Orders.{node_eq}
use Rattle.tg_base.specs.declared.ids.NodeId.{NodeId}
use Rattle.tg_base.specs.declared.ids.Oid.{Oid}
use Rattle.tg_base.specs.declared.msg.Msg.{Msg}
use Rattle.tg_entry.specs.declared.entry.WriteOp.{WriteOp}
use Rattle.tg_kind.specs.Meaning.{Meaning}
use Rattle.tg_model.specs.declared.command.Command.TheVariants as cmd
use Rattle.tg_model.specs.declared.refusal.Refusal.{Refusal}
use Rattle.tg_model.specs.declared.refusal.Refusal.TheVariants as cause
use Rattle.tg_model.specs.Kinds.{CommandOf}
use Rattle.tg_protocol.specs.Words.{layout_id, first_some, where_true}
use Rattle.tg_protocol.specs.Replies.{reply}
use Rattle.tg_protocol.specs.Transactions.{Tx, tx_put, commit_record}
use Rattle.tg_protocol.specs.Clients.{all_entries, Purpose, Hand, Work, Client, upto, tests, tx_open, not_hosted, not_registered, no_tx, wrong_kind, put_fault, busy, hosts_oid, write_of, refusal}
use Rattle.tg_protocol.specs.Runs.{IsSpelled, LawfulCommand}
use Rattle.tg_protocol.specs.Answers.{Moved, own_view, play_target}
use Rattle.tg_protocol.specs.ClientSteps as step
use Rattle.tg_protocol.specs.ClientSteps.{task_in, walks, new_work, client_command, client_deliver, client_tick}
use Rattle.tg_protocol.specs.Walked.{Walked, walks_end, work_end}
use Rattle.tg_law_layouts.proofs.Moves.Members.{Has}
use Rattle.tg_law_layouts.proofs.Moves.Puts.{put_short}
use Rattle.tg_law_layouts.proofs.Moves.Turns.{not_busy}
use Rattle.tg_law_replies.proofs.History.Members.{and_both, lt_of}
use Rattle.tg_law_replies.proofs.Replies.Turns.{feed_keeps, again_keeps}
use Rattle.tg_law_headline.proofs.Origins.Drafts.{IsPut, TxFits, CommandFits, DraftFits, TaskFits, WorkFits, ClientFits, draft_on, has_oid_has, some_no, no_some}
use Rattle.tg_law_headline.proofs.Origins.Plays.{Good, Came, Along, appended, synced, ends_good}
use Rattle.tg_law_syncs.proofs.Follow.Looks.{played_to}
use Rattle.tg_law_steps.proofs.Places.{Place, Walks}
use Rattle.tg_law_steps.proofs.Ways.{Way, FeedsAppend, NewerSync, NewerWalk, NewerAppend, NewerTrims, NewerCopy, AllWalked, HasPlayed, LooksBack, IsRescue}
use Rattle.tg_law_steps.proofs.Takes.{IsFor, ForWrites, ForJudged, Hosts, Begins, Puts, Asks, ReadsOnly, Drops, IsWalked, WalksCheckpoint, WalksForget, Taken, SaidAtOnce, SyncsFirst, AppendsRecord, ReconfBegins, CopyBegins}
use Rattle.tg_law_steps.proofs.Along.{delivered, commanded, over_walks}
use Rattle.tg_law_steps.proofs.Reaches.{reach_way, reach_fed, reach_newer}

module _ (m : Meaning) (E : Walked m → Type 0) where
  -- Along a turn.

  way : (c : Client m) (w : Work m) (p : Place m) (d : Client m) (v : Work m) (q : Place m) → Way m c w p d v q → Along m E c w p → Along m E d v q
  way c w _ _ _ _ (FeedsAppend a y n rid x) h = record { tx = h.tx; some = h.some; fits = h.fits; came = λ z e. no_some z e; at = (a, record { fits = h.at }, feed_keeps c.stand a n x c.next) }
  way c w _ _ _ _ (NewerAppend a y n rid q) h = record {
    tx = h.tx;
    some = (let less = h.at.1 in omega (arith, less));
    fits = h.fits;
    came = λ z e. no_some z e;
    at = (a, record { fits = (let less = h.at.1 in draft_on m E E (λ v i. i) c.stand.epoch q.epoch (omega (arith, less)) (upto m c) a.draft y h.at.0) }, again_keeps q a c.next);
  }
  way c w _ _ _ _ (NewerSync s n rid q) h = record { tx = h.tx; some = (let less = h.at.1 in omega (arith, less)); fits = h.fits; came = λ z e. h.came z (reach_way m c w _ _ _ _ (NewerSync s n rid q) ∙ e); at = tt }
  way c w _ _ _ _ (NewerWalk k os n rid q) h = record { tx = h.tx; some = (let less = h.at.1 in omega (arith, less)); fits = h.fits; came = λ z e. h.came z (reach_way m c w _ _ _ _ (NewerWalk k os n rid q) ∙ e); at = tt }
  way c w _ _ _ _ (NewerTrims t n rid q) h = record { tx = h.tx; some = (let less = h.at.1 in omega (arith, less)); fits = h.fits; came = λ z e. no_some z e; at = tt }
  way c w _ _ _ _ (NewerCopy x n rid q f) h = record { tx = h.tx; some = (let less = h.at.1 in omega (arith, less)); fits = h.fits; came = λ z e. no_some z e; at = tt }
  way c w _ _ _ _ x h = record { tx = h.tx; some = h.some; fits = h.fits; came = λ z e. h.came z (reach_way m c w _ _ _ _ x ∙ e); at = tt }

  -- where all streams are walked, the run has come
  all_walked : (c : Client m) (w : Work m) (d : Client m) (q : Place m) → AllWalked m c w d q → Along m E c w (Walks []) → Along m E d w q
  unfolding walks_end
  all_walked c w _ _ (HasPlayed k) h = record {
    tx = h.tx;
    some = h.some;
    fits = h.fits;
    came = λ z e. no_some z e;
    at = record {
      from = c;
      came = h.came (record { client = c; work = w }) refl;
      some = h.some;
      epoch = omega arith;
      fits = h.fits;
      entries = refl;
      low = λ t came. played_to m (all_entries m c w c.hosted) (play_target m w w.command) t (own_view m c w (all_entries m c w c.hosted)) came;
    };
  }
  all_walked c w _ _ (LooksBack at o q of) h = record { tx = h.tx; some = h.some; fits = h.fits; came = λ z e. no_some z e; at = tt }
  all_walked c w _ _ (IsRescue at of) h = record { tx = h.tx; some = h.some; fits = h.fits; came = λ z e. no_some z e; at = (h.came (record { client = c; work = w }) refl, of) }

  -- Commands.

  first_none : (x : Option Refusal) (xs : List (Option Refusal)) → first_some (x ∷ xs) ≡ None → (x ≡ None) × (first_some xs ≡ None)
  first_none None xs e = (refl, e)
  first_none (Some why) xs e = some_no why e

  is_hosted : (c : Client m) (o : Oid) → not_hosted m c o ≡ None → Has c.hosted o
  is_hosted c o e = by (hosts_oid m c o) refl e
    where
      by : (b : Bool) → hosts_oid m c o ≡ b → where_true (not b) (cause.NotHosted o) ≡ None → Has c.hosted o
      by true is e = has_oid_has o c.hosted is
      by false is e = some_no (cause.NotHosted o) e

  is_allowed : (o : Oid) (b : Bool) → where_true (not b) (cause.WrongKind o) ≡ None → b ≡ true
  is_allowed o true e = refl
  is_allowed o false e = some_no (cause.WrongKind o) e

  -- none of its tests refuses the command
  abbrev Passed : Client m → CommandOf m → Type 0
  Passed c (cmd.Put o op) = (m.allows o op ≡ true) × (length (m.spell op) ≤ 4096)
  Passed c (cmd.Checkpoint o) = Has c.hosted o
  Passed c (cmd.Forget o n) = Has c.hosted o
  Passed c x = Unit {0}

  passes : (c : Client m) (x : CommandOf m) → refusal m c x ≡ None → first_some (tests m c x) ≡ None → Passed c x
  unfolding tests
  passes c (cmd.Put o op) fine e =
      let a = (first_none (no_tx m c) (wrong_kind m (m.allows o op) o ∷ not_registered m c o ∷ put_fault m c.tx (write_of m o op) ∷ []) e).1 in
      (is_allowed o (m.allows o op) (first_none (wrong_kind m (m.allows o op) o) (not_registered m c o ∷ put_fault m c.tx (write_of m o op) ∷ []) a).0, put_short m c o op fine)
  passes c (cmd.Checkpoint o) fine e = is_hosted c o (first_none (not_hosted m c o) [] (first_none (tx_open m c) (not_hosted m c o ∷ []) e).1).0
  passes c (cmd.Forget o n) fine e = is_hosted c o (first_none (not_hosted m c o) [] (first_none (tx_open m c) (not_hosted m c o ∷ []) e).1).0
  passes c (cmd.Host o) fine e = tt
  passes c cmd.Begin fine e = tt
  passes c (cmd.Ask o q) fine e = tt
  passes c cmd.End fine e = tt
  passes c cmd.Drop fine e = tt
  passes c (cmd.Fate p) fine e = tt
  passes c (cmd.Decide p) fine e = tt
  passes c cmd.Trim fine e = tt
  passes c (cmd.Reconf x) fine e = tt
  passes c (cmd.Copy u r s) fine e = tt
  passes c (cmd.AskAt p o q) fine e = tt
  passes c (cmd.Rescue p) fine e = tt

  passed : (c : Client m) (x : CommandOf m) → refusal m c x ≡ None → Passed c x
  unfolding refusal
  passed c x e = passes c x e (first_none (busy m c.work) (tests m c x) e).1

  no_work : (d : Client m) → d.work ≡ None → TxFits m d.tx → ClientFits m E d
  no_work d e h = (h, subst (WorkFits m E d.stand.epoch (upto m d) d.hosted) (sym e) tt)

  put_in : (c : Client m) (o : Oid) (op : m.op) (t : Tx) → TxFits m (Some t) → m.allows o op ≡ true → IsSpelled m o op → TxFits m (Some (tx_put t (write_of m o op)))
  put_in c o op t h allowed spelled = λ y i. put y (last t.writes y i)
    where
      last : (ws : List WriteOp) (y : WriteOp) → Has (ws ++ write_of m o op ∷ []) y → (y ≡ write_of m o op) ⊎ Has ws y
      last [] y (inl e) = inl e
      last [] y (inr i) = absurd i
      last (x ∷ ws) y (inl e) = inr (inl e)
      last (x ∷ ws) y (inr i) = next (last ws y i)
        where
          next : (y ≡ write_of m o op) ⊎ Has ws y → (y ≡ write_of m o op) ⊎ Has (x ∷ ws) y
          next (inl e) = inl e
          next (inr k) = inr (inr k)

      put : (y : WriteOp) → (y ≡ write_of m o op) ⊎ Has t.writes y → IsPut m y
      put y (inl e) = subst (IsPut m) (sym e) (op, spelled.read, allowed)
      put y (inr i) = h y i

  record_in : (c : Client m) (t : Tx) (y : Purpose m) → IsFor m t y → TxFits m (Some t) → DraftFits m E c.stand.epoch (upto m c) (commit_record t c.num) y
  unfolding commit_record
  record_in c t _ (ForWrites e) h = record { reads = t.reads; writes = t.writes; body = refl; puts = h }
  record_in c t _ (ForJudged e) h = record { reads = t.reads; writes = t.writes; body = refl; puts = h }

  walks_for : (c : Client m) (x : CommandOf m) → LawfulCommand m x → IsWalked m c x → Passed c x → CommandFits m c.hosted c.hosted x
  walks_for c _ lawful (WalksCheckpoint o) k = (k, k)
  walks_for c _ lawful (WalksForget o n) k = (k, k, lawful)
  walks_for c _ lawful x k = tt

  takes_in : (c : Client m) (x : CommandOf m) (y : Moved m) → LawfulCommand m x → ClientFits m E c → c.work ≡ None → Passed c x → Taken m c x y → Good m E y
  takes_in c _ _ lawful h idle k (SaidAtOnce _ d _ (Hosts o e)) = no_work d idle h.0
  takes_in c _ _ lawful h idle k (SaidAtOnce _ d _ Begins) = no_work d idle (λ x i. absurd i)
  takes_in c _ _ lawful h idle k (SaidAtOnce _ d _ (Puts o op t is)) = no_work d idle (put_in c o op t (subst (TxFits m) is h.0) k.0 (lawful.1 k.0 k.1))
  takes_in c _ _ lawful h idle k (SaidAtOnce _ d _ (Asks o q t at v s is snap sees e)) = no_work d idle (subst (TxFits m) is h.0)
  takes_in c _ _ lawful h idle k (SaidAtOnce _ d _ (ReadsOnly t is e)) = no_work d idle tt
  takes_in c _ _ lawful h idle k (SaidAtOnce _ d _ Drops) = no_work d idle tt
  takes_in c _ _ lawful h idle k (SaidAtOnce _ d _ x) = no_work d idle h.0
  takes_in c _ _ lawful h idle k (SyncsFirst x walks) = synced m E c (new_work m x) c.hosted h.0 (walks_for c x lawful walks k)
  takes_in c _ _ lawful h idle k (AppendsRecord t y is e for) = appended m E c (new_work m cmd.End) (commit_record t c.num) y _ h.0 tt (record_in c t y for (subst (TxFits m) is h.0))
  takes_in c _ _ lawful h idle k (ReconfBegins x n r e) = (h.0, (tt, tt))
  takes_in c _ _ lawful h idle k (CopyBegins u r s) = (h.0, (tt, tt))

  -- Turns.

  pub command_in : (c : Client m) (x : CommandOf m) → LawfulCommand m x → ClientFits m E c → ClientFits m E (client_command m c x).now
  unfolding client_command
  command_in c x lawful h = commanded m (Good m E) c x (λ why e. h) (λ e y k. takes_in c x y lawful h (not_busy m c x e) (passed c x e) k)

  pub deliver_in : (c : Client m) (from : NodeId) (rid : ℕ) (y : Msg) → ClientFits m E c → 0 < c.stand.epoch → Came m E (work_end m c c.work from rid (reply y)) → ClientFits m E (client_deliver m c from rid y).now
  unfolding client_deliver
  deliver_in c from rid y h z f =
      delivered m (Along m E) (Good m E) (ends_good m E) way (over_walks m (Along m E) (Good m E) (ends_good m E) all_walked) c from rid (reply y) h
      (λ w t has doing a other. record {
        tx = h.0;
        some = z;
        fits = (works w has).1;
        came = λ v e. f v (reach_fed m c from rid (reply y) w t has doing a other ∙ e);
        at = subst (λ (d : Hand m). TaskFits m E c.stand.epoch (upto m c) (task_in m d)) doing (works w has).0;
      })
      (λ w q has is new. record {
        tx = h.0;
        some = z;
        fits = (works w has).1;
        came = λ v e. f v (reach_newer m c from rid (reply y) w q has is new ∙ e);
        at = ((works w has).0, lt_of c.stand.epoch q.epoch (and_both (node_eq from (layout_id from.num)) (nat_lt c.stand.epoch q.epoch) new).1);
      })
    where
      works : (w : Work m) → c.work ≡ Some w → TaskFits m E c.stand.epoch (upto m c) (task_in m w.hand) × CommandFits m c.hosted w.oids w.command
      works w has = subst (WorkFits m E c.stand.epoch (upto m c) c.hosted) has h.1

  pub tick_in : (c : Client m) → ClientFits m E c → ClientFits m E (client_tick m c).now
  unfolding client_tick
  tick_in c h = by c.work h.1
    where
      by : (w : Option (Work m)) → WorkFits m E c.stand.epoch (upto m c) c.hosted w → ClientFits m E (step.tick_by m c w).now
      by None g = h
      by (Some w) g = h
