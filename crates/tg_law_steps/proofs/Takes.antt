-- What a command comes to in the step that takes it.
use Rattle.std.proofs.Common.{◌≡◌, ℕ, ◌+◌, List, [], ◌∷◌, Bool, true, false, length, refl, Option, Some, None}
use Rattle.std.specs.Prelude.{◌==◌, if◌then◌else◌}
use Rattle.tg_base.specs.Changes.{Changed as Change}
use Rattle.tg_base.specs.declared.change.Join.{Join}
use Rattle.tg_base.specs.declared.ids.Oid.{Oid}
use Rattle.tg_base.specs.Orders.{with_oid}
use Rattle.tg_kind.specs.Meaning.{Meaning}
use Rattle.tg_model.specs.declared.command.Command.TheVariants as cmd
use Rattle.tg_model.specs.declared.trace.What.TheVariants as told
use Rattle.tg_model.specs.Kinds.{CommandOf, NoteOf}
use Rattle.tg_protocol.specs.Requests.{Goes, turn}
use Rattle.tg_protocol.specs.Trimming.{copy_start}
use Rattle.tg_protocol.specs.Trimming as copying
use Rattle.tg_protocol.specs.Reconfiguring.{Reconf, reconf_start, first_step, SealingSpare}
use Rattle.tg_protocol.specs.Transactions.{Tx, open_tx, tx_read, tx_put, commit_record}
use Rattle.tg_protocol.specs.Views.{View, state_of, view_version}
use Rattle.tg_protocol.specs.Clients.{Purpose, Writes, Judged, Copying', Reconfiguring, Client, hosts_oid, write_of}
use Rattle.tg_protocol.specs.Answers.{Moved, moved, note, closed, appends, syncs}
use Rattle.tg_protocol.specs.ClientSteps.{goes_on, stands, new_work, tx_of, purpose_of, on_reconf, hosts_more, puts, asked_of_state, asks_view, asks_by, asks, snapshot_or, end_by, ends, accepts}

module _ (m : Meaning) where
  -- the record of a transaction without reads is for its writes alone
  pub data IsFor (t : Tx) : Purpose m → Type 0 where
    ForWrites : (length t.reads == 0) ≡ true → IsFor t Writes
    ForJudged : (length t.reads == 0) ≡ false → IsFor t Judged

  module _ (c : Client m) where
    -- A command that is over at once, what it makes of the client, and what it tells.
    pub data IsSaid : CommandOf m → Client m → List (NoteOf m) → Type 0 where
      HostsAlready : (o : Oid) → hosts_oid m c o ≡ true → IsSaid (cmd.Host o) c (note m 0 (told.Hosted o) ∷ [])
      Hosts : (o : Oid) → hosts_oid m c o ≡ false → IsSaid (cmd.Host o) (record c { hosted = with_oid o c.hosted; view = None }) (note m 0 (told.Hosted o) ∷ [])
      Begins : IsSaid cmd.Begin (record c { begun = c.begun + 1; tx = Some (open_tx (c.begun + 1)) }) (note m (c.begun + 1) told.Begin ∷ [])
      Puts : (o : Oid) (op : m.op) (t : Tx) → c.tx ≡ Some t → IsSaid (cmd.Put o op) (record c { tx = Some (tx_put t (write_of m o op)) }) (note m t.number (told.Put o op) ∷ [])
      Asks : (o : Oid) (q : m.ask) (t : Tx) (at : ℕ) (v : View m) (s : m.state) → c.tx ≡ Some t → t.snapshot ≡ Some at → c.view ≡ Some v → state_of m v o ≡ Some s
          → IsSaid (cmd.Ask o q) (record c { tx = Some (tx_read t (record { oid = o; part = m.look q; version = view_version m v o (m.look q) }) at) }) (note m t.number (told.Asked o q at (m.answers s q)) ∷ [])
      ReadsOnly : (t : Tx) → c.tx ≡ Some t → (length t.writes == 0) ≡ true → IsSaid cmd.End (closed m c) (note m t.number told.End ∷ note m t.number (told.Committed (snapshot_or m t.snapshot)) ∷ [])
      Drops : IsSaid cmd.Drop (closed m c) (note m (tx_of m c) told.Dropped ∷ [])
      -- nothing comes of these, which none of its tests would let pass but the last two
      NoTxOpen : (x : CommandOf m) → c.tx ≡ None → IsSaid x c []
      NoViewKept : (o : Oid) (q : m.ask) (t : Tx) (at : ℕ) → c.tx ≡ Some t → t.snapshot ≡ Some at → c.view ≡ None → IsSaid (cmd.Ask o q) c []
      NoStateKept : (o : Oid) (q : m.ask) (t : Tx) (at : ℕ) (v : View m) → c.tx ≡ Some t → t.snapshot ≡ Some at → c.view ≡ Some v → state_of m v o ≡ None → IsSaid (cmd.Ask o q) c []

    -- A command that walks.
    pub data IsWalked : CommandOf m → Type 0 where
      WalksAsk : (o : Oid) (q : m.ask) (t : Tx) → c.tx ≡ Some t → t.snapshot ≡ None → IsWalked (cmd.Ask o q)
      WalksFate : (at : ℕ) → IsWalked (cmd.Fate at)
      WalksDecide : (at : ℕ) → IsWalked (cmd.Decide at)
      WalksCheckpoint : (o : Oid) → IsWalked (cmd.Checkpoint o)
      WalksForget : (o : Oid) (n : ℕ) → IsWalked (cmd.Forget o n)
      WalksTrim : IsWalked cmd.Trim
      WalksAskAt : (at : ℕ) (o : Oid) (q : m.ask) → IsWalked (cmd.AskAt at o q)
      WalksRescue : (at : ℕ) → IsWalked (cmd.Rescue at)

    -- All that a command can come to that isn't refused.
    pub data Taken : CommandOf m → Moved m → Type 0 where
      SaidAtOnce : (x : CommandOf m) (d : Client m) (ns : List (NoteOf m)) → IsSaid x d ns → Taken x (moved m d ns)
      SyncsFirst : (x : CommandOf m) → IsWalked x → Taken x (syncs m c (new_work m x) c.hosted)
      AppendsRecord : (t : Tx) (y : Purpose m) → c.tx ≡ Some t → (length t.writes == 0) ≡ false → IsFor t y
          → Taken cmd.End (appends m c (new_work m cmd.End) (commit_record t c.num) y (note m t.number told.End ∷ []))
      ReconfBegins : (x : Change) (n : ℕ) (r : Reconf) → reconf_start c.stand c.layouts x c.num c.next ≡ turn n (Goes r)
          → Taken (cmd.Reconf x) (goes_on m (stands m (record c { next = n }) r.stand) (new_work m (cmd.Reconf x)) (Reconfiguring r) [])
      CopyBegins : (u r s : ℕ)
          → Taken (cmd.Copy u r s) (goes_on m (record c { next = c.next + 1 }) (new_work m (cmd.Copy u r s)) (Copying' (record { unit = u; range = r; stripe = s; work = copying.Sealing c.next })) [])

    -- none of these has its client work
    pub said_work : (x : CommandOf m) (d : Client m) (ns : List (NoteOf m)) → IsSaid x d ns → d.work ≡ c.work
    said_work _ _ _ Begins = refl
    said_work _ _ _ s = refl

    without : (x : CommandOf m) → c.tx ≡ None → Taken x (moved m c [])
    without x is = SaidAtOnce x c [] (NoTxOpen x is)

    host_taken : (o : Oid) (b : Bool) → hosts_oid m c o ≡ b → Taken (cmd.Host o) (hosts_more m c o b)
    host_taken o true is = SaidAtOnce (cmd.Host o) _ _ (HostsAlready o is)
    host_taken o false is = SaidAtOnce (cmd.Host o) _ _ (Hosts o is)

    put_taken : (o : Oid) (op : m.op) (t : Option Tx) → c.tx ≡ t → Taken (cmd.Put o op) (puts m c o op t)
    put_taken o op None is = without (cmd.Put o op) is
    put_taken o op (Some t) is = SaidAtOnce (cmd.Put o op) _ _ (Puts o op t is)

    ask_taken : (o : Oid) (q : m.ask) (t : Option Tx) → c.tx ≡ t → Taken (cmd.Ask o q) (asks m c (cmd.Ask o q) o q t)
    ask_taken o q None is = without (cmd.Ask o q) is
    ask_taken o q (Some t) is = by t.snapshot refl
      where
        state : (at : ℕ) (v : View m) (s : Option m.state) → t.snapshot ≡ Some at → c.view ≡ Some v → state_of m v o ≡ s → Taken (cmd.Ask o q) (asked_of_state m c t at o q v s)
        state at v None a b e = SaidAtOnce (cmd.Ask o q) c [] (NoStateKept o q t at v is a b e)
        state at v (Some s) a b e = SaidAtOnce (cmd.Ask o q) _ _ (Asks o q t at v s is a b e)

        view : (at : ℕ) (v : Option (View m)) → t.snapshot ≡ Some at → c.view ≡ v → Taken (cmd.Ask o q) (asks_view m c t at o q v)
        view at None a b = SaidAtOnce (cmd.Ask o q) c [] (NoViewKept o q t at is a b)
        view at (Some v) a b = state at v (state_of m v o) a b refl

        by : (s : Option ℕ) → t.snapshot ≡ s → Taken (cmd.Ask o q) (asks_by m c (cmd.Ask o q) o q t s)
        by None a = SyncsFirst (cmd.Ask o q) (WalksAsk o q t is a)
        by (Some at) a = view at c.view a refl

    end_taken : (t : Option Tx) → c.tx ≡ t → Taken cmd.End (ends m c cmd.End t)
    end_taken None is = without cmd.End is
    end_taken (Some t) is = by (length t.writes == 0) refl
      where
        purpose : (b : Bool) → (length t.reads == 0) ≡ b → IsFor t (if b then Writes else Judged)
        purpose true e = ForWrites e
        purpose false e = ForJudged e

        by : (b : Bool) → (length t.writes == 0) ≡ b → Taken cmd.End (end_by m c cmd.End t b)
        by true e = SaidAtOnce cmd.End _ _ (ReadsOnly t is e)
        by false e = AppendsRecord t (purpose_of m t) is e (purpose (length t.reads == 0) refl)

    reconf_taken : (x : Change) → Taken (cmd.Reconf x) (accepts m c (cmd.Reconf x))
    unfolding accepts reconf_start
    reconf_taken x = by x.join refl
      where
        first : Reconf
        first = record { change = x; me = c.num; layouts = c.layouts; stand = c.stand; work = SealingSpare 0 }

        by : (j : Option Join) → reconf_start c.stand c.layouts x c.num c.next ≡ first_step first c.next j → Taken (cmd.Reconf x) (on_reconf m c (new_work m (cmd.Reconf x)) (first_step first c.next j))
        by None e = ReconfBegins x _ _ e
        by (Some j) e = ReconfBegins x _ _ e

    copy_taken : (u r s : ℕ) → Taken (cmd.Copy u r s) (accepts m c (cmd.Copy u r s))
    unfolding accepts copy_start
    copy_taken u r s = CopyBegins u r s

    pub taken : (x : CommandOf m) → Taken x (accepts m c x)
    unfolding accepts
    taken (cmd.Host o) = host_taken o (hosts_oid m c o) refl
    taken cmd.Begin = SaidAtOnce cmd.Begin _ _ Begins
    taken (cmd.Put o op) = put_taken o op c.tx refl
    taken (cmd.Ask o q) = ask_taken o q c.tx refl
    taken cmd.End = end_taken c.tx refl
    taken cmd.Drop = SaidAtOnce cmd.Drop _ _ Drops
    taken (cmd.Reconf x) = reconf_taken x
    taken (cmd.Copy u r s) = copy_taken u r s
    taken (cmd.Fate at) = SyncsFirst (cmd.Fate at) (WalksFate at)
    taken (cmd.Decide at) = SyncsFirst (cmd.Decide at) (WalksDecide at)
    taken (cmd.Checkpoint o) = SyncsFirst (cmd.Checkpoint o) (WalksCheckpoint o)
    taken (cmd.Forget o n) = SyncsFirst (cmd.Forget o n) (WalksForget o n)
    taken cmd.Trim = SyncsFirst cmd.Trim WalksTrim
    taken (cmd.AskAt at o q) = SyncsFirst (cmd.AskAt at o q) (WalksAskAt at o q)
    taken (cmd.Rescue at) = SyncsFirst (cmd.Rescue at) (WalksRescue at)
