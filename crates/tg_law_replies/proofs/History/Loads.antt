-- States of a log load again from what is saved of them.
use Rattle.std.proofs.Common.{◌≡◌, ℕ, List, [], ◌∷◌, Bool, true, false, refl, sym, subst, arith, Option, Some, None}
use Rattle.tg_base.specs.declared.ids.Oid.{Oid}
use Rattle.tg_entry.specs.declared.entry.WriteOp.{WriteOp}
use Rattle.tg_entry.specs.declared.entry.Entry.{Entry}
use Rattle.tg_kind.specs.Meaning.{Meaning}
use Rattle.tg_base.specs.Orders.{oid_eq}
use Rattle.tg_entry.specs.Needs.{writes_of}
use Rattle.tg_protocol.specs.Views.{Entries}
use Rattle.tg_law_replies.specs.Plays.Sound.{IsRising}
use Rattle.tg_law_replies.specs.History.Logs.{state_below}
use Rattle.tg_law_replies.specs.History.Loading.{AreStates, AreOpsOf, StatesLoad}
use Rattle.tg_law_replies.proofs.History.Members.{Has, contained_has}
use Rattle.tg_law_replies.proofs.History.Ledger.{Ledger, below, grow_from, Steps}
use Rattle.tg_law_replies.proofs.History.States.{op_on, state_after, state_on, state_off, state_at_is}

module _ (m : Meaning) (is_state : Oid → m.state → Bool) (is_op : m.op → Bool) (objects : List Oid) (es : Entries) (o : Oid) (laws : AreStates m is_state is_op) (rising : IsRising es) (ops : AreOpsOf m is_op es)
    (first : is_state o (m.fresh o objects) ≡ true) where
  abbrev IsGood : Ledger m → Type 0
  IsGood xs = is_state o (state_after m objects o xs) ≡ true

  op_good : (s : m.state) (op : Option m.op) → ((x : m.op) → op ≡ Some x → is_op x ≡ true) → is_state o s ≡ true → is_state o (op_on m objects op s) ≡ true
  op_good s None k h = h
  op_good s (Some x) k h = laws.applies o s x h (k x refl)

  write_good : (p : ℕ) (e : Entry) (w : WriteOp) (ys : Ledger m) → Has es (p, e) → Has (writes_of e) w → IsGood ys → (b : Bool) → oid_eq w.oid o ≡ b → IsGood ((p, w) ∷ ys)
  write_good p e w ys i j h true same =
      subst (λ (s : m.state). is_state o s ≡ true) (sym (state_on m objects o p w ys same))
      (op_good (state_after m objects o ys) (m.read w.oid w.op) (λ x is. ops p e w x (contained_has es (p, e) i) (contained_has (writes_of e) w j) is) h)
  write_good p e w ys i j h false other = subst (λ (s : m.state). is_state o s ≡ true) (sym (state_off m objects o p w ys other)) h

  states_good : (n : ℕ) → IsGood (below m [] es n)
  states_good n = grow_from m IsGood [] 0 es 0 n rising (omega arith) step first
    where
      step : Steps m [] es 0 n IsGood
      step p e w ys i low less c j h = write_good p e w ys i j h (oid_eq w.oid o) refl

  loads : (n : ℕ) → m.load o (m.save (state_below m objects es n o)) ≡ Some (state_below m objects es n o)
  loads n = laws.loads o (state_below m objects es n o) (subst (λ (s : m.state). is_state o s ≡ true) (sym (state_at_is m objects es rising n o)) (states_good n))

pub states_load : (m : Meaning) → StatesLoad m
states_load m is_state is_op objects es o n laws rising ops first = loads m is_state is_op objects es o laws rising ops first n
