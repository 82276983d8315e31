-- An append is refused for want of room only while it asks for a token.
use Rattle.std.proofs.Common.{◌≡◌, ℕ, List, refl, sym, ◌∙◌, Option, Some, None, subst}
use Rattle.tg_base.specs.Layouts.{Layout}
use Rattle.tg_base.specs.declared.ids.NodeId.{NodeId}
use Rattle.tg_base.specs.declared.ids.Oid.{Oid}
use Rattle.tg_kind.specs.Meaning.{Meaning}
use Rattle.tg_protocol.specs.Worlds.{World, client}
use Rattle.tg_protocol.specs.Requests.{Turn}
use Rattle.tg_protocol.specs.Replies.{Reply, reply}
use Rattle.tg_protocol.specs.Appending.{Append, AppendEnd, Full}
use Rattle.tg_model.specs.declared.refusal.Refusal.{Refusal}
use Rattle.tg_model.specs.declared.command.Command.TheVariants as cmd
use Rattle.tg_model.specs.Kinds.{CommandOf, EventOf, NoteOf}
use Rattle.tg_protocol.specs.Transactions.{Tx}
use Rattle.tg_protocol.specs.Clients.{Purpose, Writes, Judged, Decides, Rescues, Saves, Marks, Task, Appending, Work, Client, refusal}
use Rattle.tg_protocol.specs.Answers.{Moved}
use Rattle.tg_protocol.specs.ClientSteps.{task_in, reply_feed, feed, refused_or, tick_by, client_tick}
use Rattle.tg_law_layouts.proofs.Moves.Turns.{not_busy}
use Rattle.tg_law_replies.specs.Replies.Ended.{end_of, reply_ends, ended_in}
use Rattle.tg_law_replies.proofs.Books.Effects.{IsRecord, IsEnd, IsAsk, Idle, Suits, SuitsPurpose, Quit, Zeros, AskFails, Filled, Marked, MarkFilled, MarkLost, Effect, On, Quits, Closes, Asks, Marks', feed_effect}
use Rattle.tg_law_steps.proofs.Machines.Appends.{Fed, IsFilled, append_fed}
use Rattle.tg_law_walks.proofs.Drafts.Became.{no_some, Holds}
use Rattle.tg_law_walks.proofs.Once.Feeding.{TokenOk}
use Rattle.tg_law_walks.proofs.Once.Awaited.{turned, EndsBy, reply_end, work_end, delivery}

-- of an append's turns only the answer that the log is full ends it so
fed_full : (p : Layout) (n : ℕ) (x : Reply) (next l : ℕ) (a : Append) (t : Turn Append AppendEnd) → Fed p n x next a t → TokenOk a → end_of t.to ≡ Some (Full l) → a.token ≡ None
fed_full p n x next l _ _ (IsFilled d o r k is) ok e = ok
fed_full p n x next l _ _ f ok e = absurd cc

module _ (m : Meaning) where
  -- a command and a tick leave what waits
  pub command_waits : {X : Type 0} (c : Client m) (a : Append) → Holds m c a → (x : CommandOf m) → (refused_or m c x (refusal m c x)).now.work ≡ None → X
  command_waits {X} c a o x = by (refusal m c x) refl
    where
      by : (f : Option Refusal) → refusal m c x ≡ f → (refused_or m c x f).now.work ≡ None → X
      by None e idle = no_some o.work (sym (not_busy m c x e) ∙ o.has)
      by (Some why) e idle = no_some o.work (sym idle ∙ o.has)

  pub tick_waits : (c : Client m) → (client_tick m c).now.work ≡ c.work
  unfolding client_tick
  tick_waits c = by c.work
    where
      by : (w : Option (Work m)) → (tick_by m c w).now.work ≡ c.work
      by None = refl
      by (Some w) = refl

  -- an answer that ends it so
  none_by : (c : Client m) (a : Append) (o : Holds m c a) → TokenOk a → (from : NodeId) (rid : ℕ) (x : Reply) (r : Moved m) (l : ℕ) → EndsBy m c a o from rid x (Full l) r → a.token ≡ None
  none_by c a o ok from rid x r l e = fed_full c.stand from.num x c.next l a (turned m c a o from rid x) (append_fed c.stand from.num x c.next a) ok e.ends

  pub step_none : (w : World m) (k : ℕ) (a : Append) → Holds m (client m w k) a → TokenOk a → (e : EventOf m) (l : ℕ) → ended_in m w e k ≡ Some (Full l) → a.token ≡ None
  step_none w k a o ok e l is =
      let d = delivery m w k e (Full l) is in
      let c = client m w k in
      let p = d.packet in
      none_by c a o ok p.from p.rid (reply p.msg) (feed m c c.work p.from p.rid (reply p.msg)) l (work_end m c a o p.from p.rid (reply p.msg) (Full l) d.ends)

  -- A record's append whose command ends, and leaves its transaction open.

  of_end : (x : CommandOf m) (y : Purpose m) → IsRecord m y → SuitsPurpose m x y → IsEnd m x
  of_end x Writes rec s = s
  of_end x Judged rec s = s
  of_end x (Decides what) rec s = absurd rec
  of_end x (Rescues what) rec s = absurd rec
  of_end x (Saves o u) rec s = absurd rec
  of_end x (Marks n o j) rec s = absurd rec

  no_mark : {X : Type 0} (a b : Append) (y : Purpose m) (n : ℕ) (o : Oid) (k : ℕ) → IsRecord m y → Appending a y ≡ Appending b (Marks n o k) → X
  no_mark a b (Marks i u j) n o k rec e = absurd rec
  no_mark a b y n o k rec e = absurd cc

  no_ask : {X : Type 0} (x : CommandOf m) → IsEnd m x → IsAsk m x → X
  no_ask cmd.End e asks = absurd asks
  no_ask x e asks = absurd e

  module _ (c : Client m) (a : Append) (o : Holds m c a) (ok : TokenOk a) (rec : IsRecord m o.purpose) (suits : Suits m o.work.command (task_in m o.work.hand)) (from : NodeId) (rid : ℕ) (t : Tx) (x : Reply) where
    is_end : IsEnd m o.work.command
    is_end = of_end o.work.command o.purpose rec (subst (λ (s : Task m). Suits m o.work.command s) o.holds suits)

    abbrev how : Option AppendEnd
    how = reply_ends m c o.work from rid x

    quit : (ns : List (NoteOf m)) → Quit m c o.work how ns → a.token ≡ None
    quit ns (Zeros other z) = absurd (other is_end)
    quit _ (AskFails why asks n) = no_ask o.work.command is_end asks
    quit _ (Filled b y l is r e) = none_by c a o ok from rid x (reply_feed m c o.work from rid x) l (reply_end m c a o from rid x (Full l) e)
    quit _ (Marked b n u k p page is e) = no_mark a b o.purpose n u k rec (sym o.holds ∙ is)
    quit _ (MarkFilled b n u k l is e) = no_mark a b o.purpose n u k rec (sym o.holds ∙ is)
    quit _ (MarkLost b n u k p q is e) = no_mark a b o.purpose n u k rec (sym o.holds ∙ is)

    idle_by : (y : Moved m) → Effect m c o.work how y → y.now.work ≡ None → y.now.tx ≡ Some t → a.token ≡ None
    idle_by y (On s n v is same on) idle open' = no_some v (sym idle ∙ is)
    idle_by y (Quits s i q) idle open' = quit y.notes q
    idle_by y (Closes s i e what n k) idle open' = no_some t (sym s.0 ∙ open')
    idle_by y (Asks k) idle open' = no_ask o.work.command is_end k.is_ask
    idle_by y (Marks' k) idle open' = absurd (subst (λ (s : Task m). Idle m s) o.holds k.idle)

    pub fed_idle : (feed m c c.work from rid x).now.work ≡ None → (feed m c c.work from rid x).now.tx ≡ Some t → a.token ≡ None
    fed_idle idle open' = idle_by (reply_feed m c o.work from rid x) (feed_effect m c o.work from rid x o.has suits) (subst (λ (w : Option (Work m)). (feed m c w from rid x).now.work ≡ None) o.has idle) (subst (λ (w : Option (Work m)). (feed m c w from rid x).now.tx ≡ Some t) o.has open')
