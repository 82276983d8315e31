-- What a command makes of what a client keeps.
use Rattle.std.proofs.Common.{[], ◌≡◌, ◌+◌, ◌≤◌, Bool, true, false, List, ◌∷◌, Option, Some, None, refl, sym, ◌∙◌, subst, arith}
use Rattle.std.specs.Prelude.{not, ◌&&◌}
use Rattle.tg_base.specs.declared.ids.Oid.{Oid}
use Rattle.tg_base.specs.Parts.{is_part}
use Rattle.tg_entry.specs.Records.{is_object}
use Rattle.tg_kind.specs.Meaning.{Meaning}
use Rattle.tg_model.specs.declared.command.Command.TheVariants as cmd
use Rattle.tg_model.specs.Kinds.{CommandOf}
use Rattle.tg_protocol.specs.Words.{first_some, where_true}
use Rattle.tg_protocol.specs.Views.{view_version}
use Rattle.tg_protocol.specs.Transactions.{Tx, TxFault, read_fault, write_fault, commit_record}
use Rattle.tg_protocol.specs.Clients.{Client, busy, no_tx, wrong_kind, not_registered, not_hosted, put_fault, ask_fault, by_tx, tests, refusal, write_of}
use Rattle.tg_protocol.specs.ClientSteps.{new_work, refused_or}
use Rattle.tg_protocol.specs.Runs.{IsSpelled, LawfulCommand}
use Rattle.tg_protocol.specs.Answers.{Moved}
use Rattle.tg_protocol.specs.ClientSteps.{stands, goes_on}
use Rattle.tg_protocol.specs.Clients.{Task, Doing, Reconfiguring}
use Rattle.tg_law_steps.proofs.Takes.{HostsAlready, Hosts, Begins, Puts, Asks, ReadsOnly, Drops, IsWalked, WalksAsk, WalksCheckpoint, WalksForget, Taken, SaidAtOnce, SyncsFirst, AppendsRecord, ReconfBegins, CopyBegins}
use Rattle.tg_law_steps.proofs.Along.{commanded}
use Rattle.tg_law_layouts.proofs.Moves.Puts.{put_short}
use Rattle.tg_law_walks.proofs.Drafts.Views.{version_small}
use Rattle.tg_law_walks.proofs.Drafts.Drafting.{TxOk, open_ok, read_ok, put_ok, record_fits}
use Rattle.tg_law_walks.proofs.Drafts.Sound.{MaybeView, MaybeTx, CommandOk, Few, Sound, HandOk, HandComes, OfRecord, Good, TaskOk, In, whole_draft, same_good, onward, syncs_on, starts}

module _ {X : Type 0} where
  past_first : (x : Option X) (xs : List (Option X)) → first_some (x ∷ xs) ≡ None → (x ≡ None) × (first_some xs ≡ None)
  past_first None xs e = (refl, e)
  past_first (Some x) xs e = absurd cc

passed : {X : Type 0} (b : Bool) (x : X) → where_true (not b) x ≡ None → b ≡ true
passed true x e = refl
passed false x e = absurd cc

no_fault : (m : Meaning) → (f : Option TxFault) → by_tx m f ≡ None → f ≡ None
no_fault m None e = refl
no_fault m (Some f) e = absurd cc

module _ (m : Meaning) (c : Client m) (few : Few m c) (sound : Sound m c) where
  module _ (idle : c.work ≡ None) where
    free : (d : Client m) → d.num ≡ c.num → d.calls ≡ c.calls → c.begun ≤ d.begun → d.begun ≤ c.begun + 1 → d.decisions ≡ c.decisions → d.checkpoints ≡ c.checkpoints → MaybeView m d.view → MaybeTx m d.begun d.tx → d.work ≡ None → Good m c d
    free d num calls low high decisions checkpoints view tx none = record {
      num = num;
      calls = calls;
      begun = (low, high);
      view = view;
      tx = tx;
      hand = subst (HandOk m d.num d.tx) (sym none) tt;
      comes = subst (HandComes m c d c.work) (sym none) (decisions, checkpoints);
    }

    -- a command begins its work
    here : (x : CommandOf m) → (k : CommandOk m c.tx x) → In m c (new_work m x) few sound.tx k c (new_work m x)
    here x k = record { counts = (refl, refl, refl, refl, refl); tx = refl; command = refl; tail = omega arith; view = sound.view }

    begins : (x : CommandOf m) → CommandOk m c.tx x → (d : Client m) (t : Task m) → d.num ≡ c.num → d.calls ≡ c.calls → d.begun ≡ c.begun → d.decisions ≡ c.decisions → d.checkpoints ≡ c.checkpoints → d.tx ≡ c.tx → MaybeView m d.view → TaskOk m d.num t
        → HandComes m c (goes_on m d (new_work m x) t []).now c.work (Some (record (new_work m x) { hand = Doing t })) → Good m c (goes_on m d (new_work m x) t []).now
    begins x k d t num calls begun decisions checkpoints tx view task comes =
        onward m c (new_work m x) few sound.tx k _ _ (record { counts = (num, calls, begun, decisions, checkpoints); tx = tx; command = refl; tail = omega arith; view = view }) refl task comes

    old_tx : (t : Tx) → c.tx ≡ Some t → (1 ≤ t.number) × (t.number ≤ c.begun) × TxOk t
    old_tx t is = subst (MaybeTx m c.begun) is sound.tx

    both : (a b : Bool) → a ≡ true → b ≡ true → (a && b) ≡ true
    both a b e f = grind arith

    one_tx : (s u : Tx) → Some s ≡ Some u → s ≡ u
    one_tx s u e = cc

    -- an ask that isn't refused: its object, its part, and its transaction, which may read it
    asks_so : (o : Oid) (q : m.ask) (t : Tx) → c.tx ≡ Some t → refusal m c (cmd.Ask o q) ≡ None → LawfulCommand m (cmd.Ask o q) → (is_object o ≡ true) × (is_part (m.look q) ≡ true) × (read_fault t o (m.look q) ≡ None)
    unfolding refusal tests
    asks_so o q t is fine lawful =
        let a = past_first (busy m c.work) _ fine in
        let b = past_first (no_tx m c) _ a.1 in
        let d = past_first (wrong_kind m (m.allows_ask o q) o) _ b.1 in
        let e = past_first (not_hosted m c o) _ d.1 in
        let f = past_first (ask_fault m c.tx o (m.look q)) _ e.1 in
        (lawful.0, lawful.1, no_fault m (read_fault t o (m.look q)) (subst (λ (x : Option Tx). ask_fault m x o (m.look q) ≡ None) is f.0))

    puts_so : (o : Oid) (op : m.op) (t : Tx) → c.tx ≡ Some t → refusal m c (cmd.Put o op) ≡ None → LawfulCommand m (cmd.Put o op) → (is_object o ≡ true) × IsSpelled m o op × (write_fault t (write_of m o op) ≡ None)
    unfolding refusal tests
    puts_so o op t is fine lawful =
        let a = past_first (busy m c.work) _ fine in
        let b = past_first (no_tx m c) _ a.1 in
        let d = past_first (wrong_kind m (m.allows o op) o) _ b.1 in
        let e = past_first (not_registered m c o) _ d.1 in
        let f = past_first (put_fault m c.tx (write_of m o op)) _ e.1 in
        (lawful.0, lawful.1 (passed (m.allows o op) _ d.0) (put_short m c o op fine), no_fault m (write_fault t (write_of m o op)) (subst (λ (x : Option Tx). put_fault m x (write_of m o op) ≡ None) is f.0))

    walks_so : (x : CommandOf m) → refusal m c x ≡ None → LawfulCommand m x → IsWalked m c x → CommandOk m c.tx x
    walks_so _ fine lawful (WalksAsk o q t is none) = let k = asks_so o q t is fine lawful in (k.0, k.1, λ u has. subst (λ (x : Tx). read_fault x o (m.look q) ≡ None) (one_tx t u (sym is ∙ has)) k.2)
    walks_so _ fine lawful (WalksCheckpoint o) = lawful
    walks_so _ fine lawful (WalksForget o n) = lawful.1
    walks_so _ fine lawful x = tt

    takes_good : (x : CommandOf m) (y : Moved m) → refusal m c x ≡ None → LawfulCommand m x → Taken m c x y → Good m c y.now
    unfolding commit_record
    takes_good _ _ fine lawful (SaidAtOnce _ _ _ (HostsAlready o e)) = same_good m c sound
    takes_good _ _ fine lawful (SaidAtOnce _ _ _ (Hosts o e)) = free _ refl refl (omega arith) (omega arith) refl refl tt sound.tx idle
    takes_good _ _ fine lawful (SaidAtOnce _ _ _ Begins) = free _ refl refl (omega arith) (omega arith) refl refl sound.view (omega arith, omega arith, open_ok (c.begun + 1)) idle
    takes_good _ _ fine lawful (SaidAtOnce _ _ _ (Puts o op t is)) =
        let a = old_tx t is in
        let k = puts_so o op t is fine lawful in
        free _ refl refl (omega arith) (omega arith) refl refl sound.view (a.0, a.1, put_ok t (write_of m o op) k.2 (both (is_object o) _ k.0 k.1.fits) a.2) idle
    takes_good _ _ fine lawful (SaidAtOnce _ _ _ (Asks o q t at v s is snap sees e)) =
        let a = old_tx t is in
        let k = asks_so o q t is fine lawful in
        let small = version_small m v o (m.look q) (subst (MaybeView m) sees sound.view).0 in
        let object = k.0 in
        let part = k.1 in
        free _ refl refl (omega arith) (omega arith) refl refl sound.view (a.0, a.1, read_ok t (record { oid = o; part = m.look q; version = view_version m v o (m.look q) }) at k.2 (grind (arith, small, object, part)) a.2) idle
    takes_good _ _ fine lawful (SaidAtOnce _ _ _ (ReadsOnly t is e)) = free _ refl refl (omega arith) (omega arith) refl refl sound.view tt idle
    takes_good _ _ fine lawful (SaidAtOnce _ _ _ Drops) = free _ refl refl (omega arith) (omega arith) refl refl sound.view tt idle
    takes_good _ _ fine lawful (SaidAtOnce _ _ _ x) = same_good m c sound
    takes_good _ _ fine lawful (SyncsFirst x k) = let so = walks_so x fine lawful k in syncs_on m c (new_work m x) few sound.tx so c (new_work m x) c.hosted (here x so)
    takes_good _ _ fine lawful (AppendsRecord t y is e for) =
        let a = old_tx t is in
        let low = a.0 in
        let high = a.1 in
        let b = few.begun in
        starts m c (new_work m cmd.End) few sound.tx tt c (new_work m cmd.End) (commit_record t c.num) y _ c.begun refl refl refl (omega arith) (omega arith) refl refl (omega arith) sound.view sound.tx
        (whole_draft m c.num (commit_record t c.num) refl (record_fits t c.num a.2 low (omega (arith, high, b)) few.client (grind (arith, e))))
        (OfRecord refl refl refl)
    takes_good _ _ fine lawful (ReconfBegins x n r e) = begins (cmd.Reconf x) tt (stands m (record c { next = n }) r.stand) (Reconfiguring r) refl refl refl refl refl refl sound.view tt (refl, refl)
    takes_good _ _ fine lawful (CopyBegins u r s) = begins (cmd.Copy u r s) tt (record c { next = c.next + 1 }) _ refl refl refl refl refl refl sound.view tt (refl, refl)

  free_unless : (x : CommandOf m) → refusal m c x ≡ None → c.work ≡ None
  unfolding refusal
  free_unless x e = grind arith

  pub command_good : (x : CommandOf m) → LawfulCommand m x → Good m c (refused_or m c x (refusal m c x)).now
  command_good x lawful = commanded m (λ y. Good m c y.now) c x (λ why e. same_good m c sound) (λ e y k. takes_good (free_unless x e) x y e lawful k)
