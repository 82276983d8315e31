-- What is told of a transaction, in the words of the rules.
use Rattle.std.specs.Prelude.{◌≡◌, ℕ, ◌≤◌, Bool, [], Option, Some, None, Result, Ok, Err, IfOk}
use Rattle.tg_base.specs.declared.fault.NoMemory.{NoMemory}
use Rattle.tg_base.specs.declared.ids.Oid.{Oid}
use Rattle.tg_base.specs.declared.marks.ReadMark.{ReadMark}
use Rattle.tg_entry.specs.declared.entry.Entry.{Entry}
use Rattle.tg_kind.specs.Meaning.{Meaning}
use Rattle.tg_model.specs.Kinds.{WhatOf}
use Rattle.tg_model.specs.declared.play.PlayEnd.{PlayEnd}
use Rattle.tg_model.specs.declared.play.PlayEnd.TheVariants.{Played, Blocked}
use Rattle.tg_model.specs.declared.refusal.Refusal.{Refusal}
use Rattle.tg_model.specs.declared.refusal.Refusal.TheVariants as cause
use Rattle.tg_model.specs.declared.trace.What.TheVariants as what
use Rattle.tg_protocol.specs.Words.{where_true}
use Rattle.tg_protocol.specs.Transactions.{Tx, tx_read}
use Rattle.tg_protocol.specs.Views.{Entries, View, state_of, view_version}
use Rattle.tg_protocol.specs.Versions.{Changed}
use Rattle.tg_protocol.specs.Clients.{Client, Work}
use Rattle.tg_protocol.specs.Answers.{Moved, moved, answers, aborted, refuses, lacks_decision, unsure, end_decided, blocks, decides_if}
use Rattle.tg_client_answers.specs.declared.asked.Answer.{Answer}
use Rattle.tg_client_state.specs.Tasks.{JobOf, KeepsJob}
use Rattle.tg_client_state.specs.States.{StateOf, MovedOf, Rest, client_of, KeepsViewIf, KeepsMoved}

-- the open transaction with one read more
abbrev pub Notes : Option Tx → ReadMark → ℕ → Option Tx → Type 0
Notes None r at t = ⊥
Notes (Some s) r at t = t ≡ Some (tx_read s r at)

module _ (m : Meaning) where
  -- A client that has played is told to move so, whichever client of the rules is kept: by its view, the command that
  -- waits and the client.
  abbrev pub Moves : StateOf m → JobOf m → Result (MovedOf m) NoMemory → (Client m → Work m → View m → Moved m) → Type 0
  Moves s j x f = (r : Rest m) (w : Work m) (v : View m) (old : ℕ) → r.view ≡ Some v → old ≤ s.rids.next → KeepsViewIf m s.view r.view → KeepsJob m j w → IfOk x (λ y. KeepsMoved m old y (f (client_of m s r) w v))

  -- likewise where only the client matters
  abbrev pub Tells : StateOf m → Result (MovedOf m) NoMemory → (Client m → Moved m) → Type 0
  Tells s x f = (r : Rest m) (old : ℕ) → KeepsViewIf m s.view r.view → IfOk x (λ y. KeepsMoved m old y (f (client_of m s r)))

  -- likewise of the answer to an ask at a tail
  abbrev pub Asks : StateOf m → ℕ → Result (MovedOf m) NoMemory → (Client m → Work m → View m → Moved m) → Type 0
  Asks s tail x f = (r : Rest m) (w : Work m) (v : View m) (old : ℕ) → r.view ≡ Some v → KeepsViewIf m s.view r.view → tail ≡ w.tail → IfOk x (λ y. KeepsMoved m old y (f (client_of m s r) w v))

  -- what a view answers to an ask of a hosted object
  pub record Answered (v : View m) (o : Oid) (q : m.ask) (a : Answer m.answer) : Type 0 where
    pub state : m.state
    pub is : state_of m v o ≡ Some state
    pub ans : a.ans ≡ m.answers state q
    pub part : a.part ≡ m.look q
    pub version : a.version ≡ view_version m v o (m.look q)

  -- None where the object isn't hosted
  abbrev pub IsAnswer : View m → Oid → m.ask → Option (Answer m.answer) → Type 0
  IsAnswer v o q None = state_of m v o ≡ None
  IsAnswer v o q (Some a) = Answered v o q a

  -- an answer in a transaction, which notes the read
  abbrev pub asked_told : Client m → ℕ → Oid → m.ask → Answer m.answer → Option Tx → Moved m
  asked_told c at o q a None = moved m c []
  asked_told c at o q a (Some t) = answers m (record c { tx = Some (tx_read t (record { oid = o; part = a.part; version = a.version }) at) }) t.number (what.Asked o q at a.ans)

  -- the refusal of a play that is blocked at or below the record at a position
  abbrev pub blocked_by : Entries → ℕ → PlayEnd → Option Refusal
  blocked_by es p (Played t) = None
  blocked_by es p (Blocked q x) = where_true (blocks m es p q) (cause.Undecided q x)

  -- a fate, or why it isn't told
  abbrev pub fate_told : Client m → ℕ → Result (Option Bool) Refusal → Moved m
  fate_told c p (Ok is_yes) = answers m c 0 (what.Fate p is_yes)
  fate_told c p (Err why) = refuses m c 0 why

  -- a decision, or why it isn't made
  abbrev pub decision_told : Client m → Work m → Entries → ℕ → Entry → Result Bool Refusal → Moved m
  decision_told c w es p e (Ok is_yes) = decides_if m (lacks_decision m es p e) c w e p is_yes 0 (what.Decided p (Some is_yes))
  decision_told c w es p e (Err why) = refuses m c 0 why

  -- the answer that a read has changed, None where that or which one is unknown

  abbrev pub changed_said : ℕ → Option Changed → Option (WhatOf m)
  changed_said p None = None
  changed_said p (Some x) = Some (aborted m p x)

  abbrev pub aborts_said : ℕ → Option Oid → Option Changed → Option (WhatOf m)
  aborts_said p None x = changed_said p x
  aborts_said p (Some o) x = None

  -- what becomes of the record that `end` appended, with the answer; None where that is unknown
  abbrev pub end_told : Client m → Work m → Entries → ℕ → Entry → Option (Bool × WhatOf m) → Moved m
  end_told c w es p e None = unsure m c p p
  end_told c w es p e (Some x) = end_decided m (lacks_decision m es p e) c w e p x.0 x.1
