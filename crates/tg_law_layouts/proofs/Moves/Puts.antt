-- A put that isn't refused has an op that a page has room for.
use Rattle.std.proofs.Common.{◌≡◌, ℕ, ◌≤◌, Bool, true, false, List, [], ◌∷◌, ◌++◌, length, map, Option, Some, None, refl, arith}
use Rattle.std.specs.Prelude.{not, nat_lt, nat_le, is_some}
use Rattle.std.proofs.lemmas.Bool.Decides.{nat_tests}
use Rattle.tg_base.specs.declared.fault.Many.TheVariants as many
use Rattle.tg_base.specs.declared.ids.Oid.{Oid}
use Rattle.tg_base.specs.declared.marks.ReadMark.{ReadMark}
use Rattle.tg_entry.specs.declared.entry.WriteOp.{WriteOp}
use Rattle.tg_kind.specs.Meaning.{Meaning}
use Rattle.tg_model.specs.declared.command.Command.TheVariants as cmd
use Rattle.tg_model.specs.declared.refusal.Refusal.TheVariants as cause
use Rattle.tg_protocol.specs.Words.{first_some, where_true}
use Rattle.tg_protocol.specs.Entries.{sum_of, write_size}
use Rattle.tg_protocol.specs.Transactions.{Tx, TxFault, TooMany, TooLarge, too_large, record_size, tx_streams, write_fault}
use Rattle.tg_protocol.specs.Clients.{Client, busy, no_tx, wrong_kind, not_registered, put_fault, by_tx, write_of, tests, refusal}

none_of : {X : Type 0} (x : Option X) (xs : List (Option X)) → first_some (x ∷ xs) ≡ None → (x ≡ None) × (first_some xs ≡ None)
none_of None xs e = (refl, e)
none_of (Some x) xs e = absurd cc

last_size : (ws : List WriteOp) (w : WriteOp) → write_size w ≤ sum_of (map write_size (ws ++ w ∷ []))
last_size [] w = omega arith
last_size (x ∷ ws) w = let r = last_size ws w in omega (arith, r)

last_few : (rs : List ReadMark) (ws : List WriteOp) (w : WriteOp) → record_size rs (ws ++ w ∷ []) ≤ 4096 → length w.op ≤ 4096
last_few rs ws w e = let r = last_size ws w in omega (arith, r, e)

has_room : (n : ℕ) → too_large n ≡ None → n ≤ 4096
has_room n e = by (nat_lt 4096 n) refl e
  where
    by : (b : Bool) → nat_lt 4096 n ≡ b → where_true b (TooLarge n) ≡ None → n ≤ 4096
    by true f z = absurd cc
    by false f z = grind (arith, nat_tests)

fault_none : (t : Tx) (w : WriteOp) → write_fault t w ≡ None → length w.op ≤ 4096
unfolding write_fault
fault_none t w e =
    let a = none_of (where_true (nat_lt 16 (length (tx_streams (t.writes ++ w ∷ [])))) (TooMany many.Streams)) _ e in
    let b = none_of (where_true (nat_le 64 (length t.writes)) (TooMany many.Writes)) _ a.1 in
    let c = none_of (too_large (record_size t.reads (t.writes ++ w ∷ []))) [] b.1 in
    last_few t.reads t.writes w (has_room (record_size t.reads (t.writes ++ w ∷ [])) c.0)

module _ (m : Meaning) where
  unfaulted : (f : Option TxFault) → by_tx m f ≡ None → f ≡ None
  unfaulted None e = refl
  unfaulted (Some f) e = absurd cc

  short_by : (t : Option Tx) (w : WriteOp) → where_true (not (is_some t)) cause.NoTx ≡ None → put_fault m t w ≡ None → length w.op ≤ 4096
  short_by None w is e = absurd cc
  short_by (Some t) w is e = fault_none t w (unfaulted (write_fault t w) e)

  pub put_short : (c : Client m) (o : Oid) (op : m.op) → refusal m c (cmd.Put o op) ≡ None → length (m.spell op) ≤ 4096
  unfolding refusal tests
  put_short c o op fine =
      let a = none_of (busy m c.work) _ fine in
      let b = none_of (no_tx m c) _ a.1 in
      let d = none_of (wrong_kind m (m.allows o op) o) _ b.1 in
      let e = none_of (not_registered m c o) _ d.1 in
      let f = none_of (put_fault m c.tx (write_of m o op)) _ e.1 in
      short_by c.tx (write_of m o op) b.0 f.0
