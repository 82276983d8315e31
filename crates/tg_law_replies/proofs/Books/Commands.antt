-- What a command, a tick and a delivery make of a client: its transaction, what it appends, and what it tells.
use Rattle.std.proofs.Common.{◌≡◌, ℕ, ◌+◌, [], ◌∷◌, Bool, true, false, refl, sym, ap, ◌∙◌, subst, arith, Option, Some, None, is_some, length}
use Rattle.std.specs.Prelude.{if◌then◌else◌, ◌==◌}
use Rattle.tg_base.specs.declared.ids.NodeId.{NodeId}
use Rattle.tg_base.specs.declared.ids.Oid.{Oid}
use Rattle.tg_base.specs.declared.msg.Msg.{Msg}
use Rattle.tg_kind.specs.Meaning.{Meaning}
use Rattle.tg_model.specs.declared.command.Command.TheVariants as cmd
use Rattle.tg_model.specs.declared.refusal.Refusal.{Refusal}
use Rattle.tg_model.specs.declared.refusal.Refusal.TheVariants as cause
use Rattle.tg_model.specs.declared.trace.What.TheVariants as told
use Rattle.tg_model.specs.Kinds.{CommandOf}
use Rattle.tg_model.specs.Words.{word_of}
use Rattle.tg_protocol.specs.Words.{first_some, where_true}
use Rattle.tg_protocol.specs.Replies.{reply}
use Rattle.tg_protocol.specs.Appending.{Append, AppendEnd, Asking, append_start}
use Rattle.tg_protocol.specs.Syncing.{sync_start}
use Rattle.tg_protocol.specs.Views.{view_version}
use Rattle.tg_protocol.specs.Transactions.{Tx, tx_read, tx_put, open_tx, commit_record}
use Rattle.tg_protocol.specs.Clients.{Purpose, Writes, Judged, Appending, Work, Client, tests, busy, tx_number, number_on, write_of, refusal}
use Rattle.tg_protocol.specs.Answers.{Moved, moved, note, appends, syncs}
use Rattle.tg_protocol.specs.ClientSteps.{task_in, snapshot_or, purpose_of, refused_or, feed}
use Rattle.tg_law_steps.proofs.Takes.{IsFor, ForWrites, ForJudged, HostsAlready, Hosts, Asks, ReadsOnly, IsWalked, WalksAsk, Taken, SaidAtOnce, SyncsFirst, AppendsRecord, ReconfBegins, CopyBegins}
use Rattle.tg_law_steps.proofs.Takes as begin
use Rattle.tg_law_steps.proofs.Along.{commanded}
use Rattle.tg_law_replies.specs.Replies.Ended.{reply_ends, work_ends}
use Rattle.tg_law_replies.proofs.Books.Effects.{IsEnd, IsAsk, Idle, Suits, AllZero, Effect, feed_effect}

module _ (m : Meaning) (c0 : Client m) where
  -- the transaction stays as it is, or isn't in hand any more
  abbrev pub Stays : Client m → Type 0
  Stays d = (d.tx ≡ c0.tx) × (d.begun ≡ c0.begun) × (d.num ≡ c0.num)

  pub record Opens (r : Moved m) : Type 0 where
    pub was : c0.tx ≡ None
    pub tx : r.now.tx ≡ Some (open_tx (c0.begun + 1))
    pub begun : r.now.begun ≡ c0.begun + 1
    pub num : r.now.num ≡ c0.num
    pub work : r.now.work ≡ None
    pub notes : r.notes ≡ note m (c0.begun + 1) told.Begin ∷ []

  pub record Puts (x : CommandOf m) (r : Moved m) : Type 0 where
    pub of : Tx
    pub from : c0.tx ≡ Some of
    pub oid : Oid
    pub op : m.op
    pub is : x ≡ cmd.Put oid op
    pub tx : r.now.tx ≡ Some (tx_put of (write_of m oid op))
    pub begun : r.now.begun ≡ c0.begun
    pub num : r.now.num ≡ c0.num
    pub work : r.now.work ≡ None
    pub notes : r.notes ≡ note m of.number (told.Put oid op) ∷ []

  pub record Answers (r : Moved m) : Type 0 where
    pub of : Tx
    pub from : c0.tx ≡ Some of
    pub oid : Oid
    pub ask : m.ask
    pub version : ℕ
    pub at : ℕ
    pub answer : m.answer
    pub first : of.snapshot ≡ Some at
    pub tx : r.now.tx ≡ Some (tx_read of (record { oid = oid; part = m.look ask; version = version }) at)
    pub begun : r.now.begun ≡ c0.begun
    pub num : r.now.num ≡ c0.num
    pub work : r.now.work ≡ None
    pub notes : r.notes ≡ note m of.number (told.Asked oid ask at answer) ∷ []

  -- an end of what has no writes
  pub record EndsNow (r : Moved m) : Type 0 where
    pub of : Tx
    pub from : c0.tx ≡ Some of
    pub none : (length of.writes == 0) ≡ true
    pub tx : r.now.tx ≡ None
    pub begun : r.now.begun ≡ c0.begun
    pub num : r.now.num ≡ c0.num
    pub work : r.now.work ≡ None
    pub notes : r.notes ≡ note m of.number told.End ∷ note m of.number (told.Committed (snapshot_or m of.snapshot)) ∷ []

  -- an end of what writes: its record is appended
  pub record EndsLater (r : Moved m) : Type 0 where
    pub of : Tx
    pub from : c0.tx ≡ Some of
    pub some : (length of.writes == 0) ≡ false
    pub same : Stays r.now
    pub work : Work m
    pub works : r.now.work ≡ Some work
    pub command : work.command ≡ cmd.End
    pub append : Append
    pub appends : task_in m work.hand ≡ Appending append (purpose_of m of)
    pub draft : append.draft ≡ commit_record of c0.num
    pub notes : r.notes ≡ note m of.number told.End ∷ []

  pub record Drops (r : Moved m) : Type 0 where
    pub tx : r.now.tx ≡ None
    pub begun : r.now.begun ≡ c0.begun
    pub num : r.now.num ≡ c0.num
    pub work : r.now.work ≡ None
    pub notes : r.notes ≡ note m (tx_number m c0.tx) told.Dropped ∷ []

  -- a command that waits, other than `end`
  pub record Begins (x : CommandOf m) (r : Moved m) : Type 0 where
    pub same : Stays r.now
    pub work : Work m
    pub works : r.now.work ≡ Some work
    pub command : work.command ≡ x
    pub not_end : IsEnd m x → ⊥
    pub first : IsAsk m x → (t : Tx) → c0.tx ≡ Some t → t.snapshot ≡ None
    pub idle : Idle m (task_in m work.hand)
    pub suits : Suits m x (task_in m work.hand)
    pub notes : r.notes ≡ []

  -- a command that is taken
  pub data Taking (x : CommandOf m) (r : Moved m) : Type 0 where
    Nothing : Stays r.now → r.now.work ≡ None → AllZero m r.notes → Taking x r
    Opening : Opens r → Taking x r
    Putting : Puts x r → Taking x r
    Answering : Answers r → Taking x r
    Ending : EndsNow r → Taking x r
    EndingLater : EndsLater r → Taking x r
    Dropping : Drops r → Taking x r
    Beginning : Begins x r → Taking x r

  module _ (free : c0.work ≡ None) where
    one_tx : (s t : Tx) → Some s ≡ Some t → s ≡ t
    one_tx s t e = cc

    first : (x : CommandOf m) → IsWalked m c0 x → IsAsk m x → (t : Tx) → c0.tx ≡ Some t → t.snapshot ≡ None
    first _ (WalksAsk o q t is snap) i u has = ap (λ (z : Tx). z.snapshot) (one_tx u t (sym has ∙ is)) ∙ snap
    first _ k i u has = absurd i

    walks_not_end : (x : CommandOf m) → IsWalked m c0 x → IsEnd m x → ⊥
    walks_not_end _ (WalksAsk o q t is snap) e = e
    walks_not_end _ k e = e

    purpose_is : (t : Tx) (y : Purpose m) → IsFor m t y → y ≡ purpose_of m t
    purpose_is t _ (ForWrites e) = ap (λ (b : Bool). if b then Writes else Judged) (sym e)
    purpose_is t _ (ForJudged e) = ap (λ (b : Bool). if b then Writes else Judged) (sym e)

    -- with no transaction open where it begins one
    taking : (x : CommandOf m) (r : Moved m) → (x ≡ cmd.Begin → c0.tx ≡ None) → Taken m c0 x r → Taking x r
    unfolding syncs sync_start appends append_start
    taking _ _ none (SaidAtOnce _ _ _ (HostsAlready o e)) = Nothing (refl, refl, refl) free (refl, tt)
    taking _ _ none (SaidAtOnce _ _ _ (Hosts o e)) = Nothing (refl, refl, refl) free (refl, tt)
    taking _ _ none (SaidAtOnce _ _ _ begin.Begins) = Opening (record { was = none refl; tx = refl; begun = refl; num = refl; work = free; notes = refl })
    taking _ _ none (SaidAtOnce _ _ _ (begin.Puts o op t is)) = Putting (record { of = t; from = is; oid = o; op = op; is = refl; tx = refl; begun = refl; num = refl; work = free; notes = refl })
    taking _ _ none (SaidAtOnce _ _ _ (Asks o q t a v s is at sees e)) =
        Answering (record { of = t; from = is; oid = o; ask = q; version = view_version m v o (m.look q); at = a; answer = m.answers s q; first = at; tx = refl; begun = refl; num = refl; work = free; notes = refl })
    taking _ _ none (SaidAtOnce _ _ _ (ReadsOnly t is e)) = Ending (record { of = t; from = is; none = e; tx = refl; begun = refl; num = refl; work = free; notes = refl })
    taking _ _ none (SaidAtOnce _ _ _ begin.Drops) = Dropping (record { tx = refl; begun = refl; num = refl; work = free; notes = refl })
    taking _ _ none (SaidAtOnce _ _ _ x) = Nothing (refl, refl, refl) free tt
    taking _ _ none (SyncsFirst x k) = Beginning (record { same = (refl, refl, refl); work = _; works = refl; command = refl; not_end = walks_not_end x k; first = first x k; idle = tt; suits = tt; notes = refl })
    taking _ _ none (AppendsRecord t y is e for) = EndingLater (record {
      of = t;
      from = is;
      some = e;
      same = (refl, refl, refl);
      work = _;
      works = refl;
      command = refl;
      append = record { draft = commit_record t c0.num; token = None; work = Asking c0.next };
      appends = ap (λ (z : Purpose m). Appending (record { draft = commit_record t c0.num; token = None; work = Asking c0.next }) z) (purpose_is t y for);
      draft = refl;
      notes = refl;
    })
    taking _ _ none (ReconfBegins x n r e) = Beginning (record { same = (refl, refl, refl); work = _; works = refl; command = refl; not_end = λ e. e; first = λ i t has. absurd i; idle = tt; suits = λ e. e; notes = refl })
    taking _ _ none (CopyBegins u r s) = Beginning (record { same = (refl, refl, refl); work = _; works = refl; command = refl; not_end = λ e. e; first = λ i t has. absurd i; idle = tt; suits = λ e. e; notes = refl })

  -- what a command makes of the client
  pub data Commanding (x : CommandOf m) (r : Moved m) : Type 0 where
    Refuses : (why : Refusal) → refusal m c0 x ≡ Some why → r ≡ moved m c0 (note m (number_on m c0 why) (told.Refused why) ∷ []) → Commanding x r
    Takes' : c0.work ≡ None → refusal m c0 x ≡ None → Taking x r → Commanding x r

  free_unless : (x : CommandOf m) → refusal m c0 x ≡ None → c0.work ≡ None
  unfolding refusal
  free_unless x e = grind arith

  none_open : (x : CommandOf m) → refusal m c0 x ≡ None → x ≡ cmd.Begin → c0.tx ≡ None
  unfolding refusal tests
  none_open x e is = by c0.work c0.tx (subst (λ (y : CommandOf m). first_some (busy m c0.work ∷ tests m c0 y) ≡ None) is e)
    where
      no : (why : Refusal) → Some why ≡ None → ⊥
      no why z = cc

      by : (w : Option (Work m)) (t : Option Tx) → first_some (busy m w ∷ where_true (is_some t) cause.TxOpen ∷ []) ≡ None → t ≡ None
      by w None z = refl
      by None (Some t) z = absurd (no cause.TxOpen z)
      by (Some w) (Some t) z = absurd (no (cause.Busy (word_of w.command)) z)

  pub commanding : (x : CommandOf m) → Commanding x (refused_or m c0 x (refusal m c0 x))
  commanding x = commanded m (Commanding x) c0 x (λ why e. Refuses why e refl) (λ e r k. Takes' (free_unless x e) e (taking (free_unless x e) x r (none_open x e) k))

  -- What a turn of the client makes of it.

  -- whatever it is handed
  pub data Turned (r : Moved m) : Type 0 where
    Idles : Stays r.now → r.now.work ≡ c0.work → r.notes ≡ [] → Turned r
    Works : (w : Work m) (end : Option AppendEnd) → c0.work ≡ Some w → Effect m c0 w end r → Turned r
    Takes : (x : CommandOf m) → Commanding x r → Turned r

  -- the command that a turn takes
  abbrev pub taken_by : (r : Moved m) → Turned r → Option (CommandOf m)
  taken_by r (Idles s same notes) = None
  taken_by r (Works w end has e) = None
  taken_by r (Takes x y) = Some x

  -- how it ends an append
  abbrev pub ended_by : (r : Moved m) → Turned r → Option AppendEnd
  ended_by r (Idles s same notes) = None
  ended_by r (Works w end has e) = end
  ended_by r (Takes x y) = None

  pub record Delivered (r : Moved m) (end : Option AppendEnd) : Type 0 where
    pub turned : Turned r
    pub takes : taken_by r turned ≡ None
    pub ends : ended_by r turned ≡ end

  pub delivered : (from : NodeId) (rid : ℕ) (x : Msg) → ((w : Work m) → c0.work ≡ Some w → Suits m w.command (task_in m w.hand)) → Delivered (feed m c0 c0.work from rid (reply x)) (work_ends m c0 c0.work from rid (reply x))
  delivered from rid x suits = by c0.work refl
    where
      by : (w : Option (Work m)) → c0.work ≡ w → Delivered (feed m c0 w from rid (reply x)) (work_ends m c0 w from rid (reply x))
      by None is = record { turned = Idles (refl, refl, refl) refl refl; takes = refl; ends = refl }
      by (Some w) is = record { turned = Works w (reply_ends m c0 w from rid (reply x)) is (feed_effect m c0 w from rid (reply x) is (suits w is)); takes = refl; ends = refl }
