-- What a client's append is to come from, by what it is for.
use Rattle.std.proofs.Common.{◌≡◌, ℕ, ◌<◌, ◌≤◌, List, [], ◌∷◌, Bool, true, false, refl, inl, inr, arith, Option, Some, None}
use Rattle.std.specs.Prelude.{◌||◌}
use Rattle.tg_base.specs.Orders.{oid_eq}
use Rattle.tg_base.specs.declared.ids.Oid.{Oid}
use Rattle.tg_base.specs.declared.marks.Part.{Part}
use Rattle.tg_base.specs.declared.marks.ReadMark.{ReadMark}
use Rattle.tg_entry.specs.declared.entry.Body.TheVariants.{Commit, Decision, Checkpoint}
use Rattle.tg_entry.specs.declared.entry.Entry.{Entry}
use Rattle.tg_entry.specs.declared.entry.WriteOp.{WriteOp}
use Rattle.tg_kind.specs.Meaning.{Meaning}
use Rattle.tg_model.specs.declared.command.Command.TheVariants as cmd
use Rattle.tg_model.specs.Kinds.{CommandOf}
use Rattle.tg_protocol.specs.Words.{directory, has_oid}
use Rattle.tg_protocol.specs.Checkpoints.{may_forget}
use Rattle.tg_protocol.specs.Transactions.{Tx}
use Rattle.tg_protocol.specs.Clients.{Purpose, Writes, Judged, Decides, Rescues, Saves, Marks, Task, Syncing, Walking, Appending, Trimming, Copying', Reconfiguring, Work, Client, upto, write_of, all_entries}
use Rattle.tg_protocol.specs.ClientSteps.{task_in}
use Rattle.tg_protocol.specs.Walked.{Walked}
use Rattle.tg_protocol.specs.Runs.{LawfulCommand}
use Rattle.tg_law_layouts.proofs.Moves.Members.{Has}
use Rattle.tg_law_replies.proofs.History.Members.{same_oid}
use Rattle.tg_law_headline.specs.Origins.Origins.{DecidesAt}

pub has_oid_has : (o : Oid) (os : List Oid) → has_oid o os ≡ true → Has os o
has_oid_has o [] e = absurd cc
has_oid_has o (x ∷ os) e = by (oid_eq o x) refl e (has_oid_has o os)
  where
    by : (b : Bool) → oid_eq o x ≡ b → (b || has_oid o os) ≡ true → (has_oid o os ≡ true → Has os o) → Has (x ∷ os) o
    by true is k rest = inl (same_oid o x is)
    by false is k rest = inr (rest k)

pub some_no : {X Y : Type 0} → (x : X) → Some x ≡ None → Y
some_no x e = absurd (cc)

pub no_some : {X Y : Type 0} → (x : X) → None ≡ Some x → Y
no_some x e = absurd (cc)

module _ (m : Meaning) where
  -- a write spells an op that its object allows
  abbrev pub IsPut : WriteOp → Type 0
  IsPut x = (op : m.op) × (m.read x.oid x.op ≡ Some op) × (m.allows x.oid op ≡ true)

  -- so does each write of an open transaction
  abbrev pub TxFits : Option Tx → Type 0
  TxFits None = Unit {0}
  TxFits (Some t) = (x : WriteOp) → Has t.writes x → IsPut x

  -- a command that saves or forgets is of a hosted stream, which is walked
  abbrev pub CommandFits : List Oid → List Oid → CommandOf m → Type 0
  CommandFits hosted oids (cmd.Checkpoint o) = Has hosted o × Has oids o
  CommandFits hosted oids (cmd.Forget o n) = Has hosted o × Has oids o × LawfulCommand m (cmd.Forget o n)
  CommandFits hosted oids x = Unit {0}

  -- so it is where the hosted streams are walked
  pub all_hosted : (hosted oids : List Oid) (x : CommandOf m) → CommandFits hosted oids x → CommandFits hosted hosted x
  all_hosted hosted oids (cmd.Checkpoint o) k = (k.0, k.0)
  all_hosted hosted oids (cmd.Forget o n) k = (k.0, k.0, k.2)
  all_hosted hosted oids (cmd.Host o) k = tt
  all_hosted hosted oids cmd.Begin k = tt
  all_hosted hosted oids (cmd.Put o op) k = tt
  all_hosted hosted oids (cmd.Ask o q) k = tt
  all_hosted hosted oids cmd.End k = tt
  all_hosted hosted oids cmd.Drop k = tt
  all_hosted hosted oids (cmd.Fate p) k = tt
  all_hosted hosted oids (cmd.Decide p) k = tt
  all_hosted hosted oids cmd.Trim k = tt
  all_hosted hosted oids (cmd.Reconf x) k = tt
  all_hosted hosted oids (cmd.Copy u r s) k = tt
  all_hosted hosted oids (cmd.AskAt p o q) k = tt
  all_hosted hosted oids (cmd.Rescue p) k = tt

  -- Ends of walks to which a step of the run came.
  module _ (E : Walked m → Type 0) where
    -- such an end, in this epoch or an earlier one
    pub record EndBy (n : ℕ) : Type 0 where
      pub end : Walked m
      pub came : E end
      pub some : 0 < end.client.stand.epoch
      pub epoch : end.client.stand.epoch ≤ n
      pub fits : CommandFits end.client.hosted end.work.oids end.work.command

    -- a draft that saves an object as far as the tail
    pub record SavesBy (n : ℕ) (d : Entry) (o : Oid) (u : ℕ) : Type 0 where
      pub by : EndBy n
      pub command : by.end.work.command ≡ cmd.Checkpoint o
      pub tail : by.end.work.tail ≡ u
      pub version : ℕ
      pub whole : ℕ
      pub keys : List (Part × ℕ)
      pub state : List ℕ
      pub body : d.body ≡ Checkpoint o u version whole keys state

    -- a draft that marks an object, where the client's view has come to the tail
    pub record MarksBy (n top : ℕ) (d : Entry) (o : Oid) (mark : ℕ) : Type 0 where
      pub by : EndBy n
      pub command : by.end.work.command ≡ cmd.Forget o mark
      pub allowed : may_forget m (all_entries m by.end.client by.end.work by.end.client.hosted) o mark ≡ None
      pub below : by.end.work.tail ≤ top
      pub body : d.body ≡ Commit [] (write_of m directory (m.mark_op o mark) ∷ [])

    -- a decision
    pub record DecidesBy (n : ℕ) (d : Entry) : Type 0 where
      pub by : EndBy n
      pub at : ℕ
      pub is_yes : Bool
      pub body : d.body ≡ Decision at is_yes
      pub decides : DecidesAt m by.end.work.command by.end.work.at at

    -- the record of a transaction
    pub record IsRecord (d : Entry) : Type 0 where
      pub reads : List ReadMark
      pub writes : List WriteOp
      pub body : d.body ≡ Commit reads writes
      pub puts : (x : WriteOp) → Has writes x → IsPut x

    abbrev pub DraftFits : ℕ → ℕ → Entry → Purpose m → Type 0
    DraftFits n top d Writes = IsRecord d
    DraftFits n top d Judged = IsRecord d
    DraftFits n top d (Decides what) = DecidesBy n d
    DraftFits n top d (Rescues what) = DecidesBy n d
    DraftFits n top d (Saves o u) = SavesBy n d o u
    DraftFits n top d (Marks i o mark) = MarksBy n top d o mark

    abbrev pub TaskFits : ℕ → ℕ → Task m → Type 0
    TaskFits n top (Appending a y) = DraftFits n top a.draft y
    TaskFits n top t = Unit {0}

    abbrev pub WorkFits : ℕ → ℕ → List Oid → Option (Work m) → Type 0
    WorkFits n top hosted None = Unit {0}
    WorkFits n top hosted (Some w) = TaskFits n top (task_in m w.hand) × CommandFits hosted w.oids w.command

    abbrev pub ClientFits : Client m → Type 0
    ClientFits c = TxFits c.tx × WorkFits c.stand.epoch (upto m c) c.hosted c.work

  -- As a run goes on.
  module _ (D E : Walked m → Type 0) (more : (y : Walked m) → D y → E y) where
    abbrev end_on : (n k : ℕ) → n ≤ k → EndBy D n → EndBy E k
    end_on n k le b = record { end = b.end; came = more b.end b.came; some = b.some; epoch = (let a = b.epoch in omega (arith, a, le)); fits = b.fits }

    pub draft_on : (n k : ℕ) → n ≤ k → (top : ℕ) (d : Entry) (y : Purpose m) → DraftFits D n top d y → DraftFits E k top d y
    draft_on n k le top d Writes f = record { reads = f.reads; writes = f.writes; body = f.body; puts = f.puts }
    draft_on n k le top d Judged f = record { reads = f.reads; writes = f.writes; body = f.body; puts = f.puts }
    draft_on n k le top d (Decides what) f = record { by = end_on n k le f.by; at = f.at; is_yes = f.is_yes; body = f.body; decides = f.decides }
    draft_on n k le top d (Rescues what) f = record { by = end_on n k le f.by; at = f.at; is_yes = f.is_yes; body = f.body; decides = f.decides }
    draft_on n k le top d (Saves o u) f = record { by = end_on n k le f.by; command = f.command; tail = f.tail; version = f.version; whole = f.whole; keys = f.keys; state = f.state; body = f.body }
    draft_on n k le top d (Marks i o mark) f = record { by = end_on n k le f.by; command = f.command; allowed = f.allowed; below = f.below; body = f.body }

    task_on : (n top : ℕ) (t : Task m) → TaskFits D n top t → TaskFits E n top t
    task_on n top (Appending a y) f = draft_on n n (omega arith) top a.draft y f
    task_on n top (Syncing s) f = tt
    task_on n top (Walking k os) f = tt
    task_on n top (Trimming t) f = tt
    task_on n top (Copying' x) f = tt
    task_on n top (Reconfiguring r) f = tt

    work_on : (n top : ℕ) (hosted : List Oid) (w : Option (Work m)) → WorkFits D n top hosted w → WorkFits E n top hosted w
    work_on n top hosted None f = tt
    work_on n top hosted (Some w) f = (task_on n top (task_in m w.hand) f.0, f.1)

    pub client_on : (c : Client m) → ClientFits D c → ClientFits E c
    client_on c f = (f.0, work_on c.stand.epoch (upto m c) c.hosted c.work f.1)
