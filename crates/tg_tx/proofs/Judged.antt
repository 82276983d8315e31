-- Which faults the definitions find.
use Rattle.std.specs.Prelude.{◌≡◌, ℕ, ◌+◌, ◌*◌, ◌<◌, ◌≤◌, Bool, true, false, cond, nat_lt, nat_le, List, [], ◌∷◌, ◌++◌, length, map, Option, Some, None, refl}
use Rattle.std.proofs.Common.{sym, ap, ◌∙◌, arith}
use Rattle.std.proofs.lemmas.Bool.{lt-ltb}
use Rattle.std.proofs.lemmas.Bool.Decides.{nat_tests}
use Rattle.tg_base.specs.declared.fault.Many.TheVariants as many
use Rattle.tg_base.specs.declared.marks.ReadMark.{ReadMark}
use Rattle.tg_entry.specs.declared.entry.WriteOp.{WriteOp}
use Rattle.tg_protocol.specs.Words.{first_some, where_true}
use Rattle.tg_protocol.specs.Entries.{sum_of, read_size, write_size, commit_size}
use Rattle.tg_protocol.specs.Transactions.{TxFault, TooMany, TooLarge, has_read, with_read, tx_streams, record_size, too_large, read_fault, write_fault}
use Rattle.tg_tx.specs.Faults.{is_too_many}
use Rattle.tg_tx.specs.Pendings.{read_cmp, has_key, bare}
use Rattle.tg_tx.proofs.Sets.{sum_put}
use Rattle.tg_tx.proofs.Orders.{read_total, with_read_is, has_read_is}

above : (m n : ℕ) → m < n → nat_lt m n ≡ true
above m n lt = lt-ltb m n lt

not_above : (m n : ℕ) → n ≤ m → nat_lt m n ≡ false
not_above m n le = grind (arith, nat_tests)

reached : (m n : ℕ) → m ≤ n → nat_le m n ≡ true
reached m n le = grind (arith, nat_tests)

not_reached : (m n : ℕ) → n < m → nat_le m n ≡ false
not_reached m n lt = grind (arith, nat_tests)

pub large : (n : ℕ) → 4096 < n → too_large n ≡ Some (TooLarge n)
large n lt = ap (λ (b : Bool). where_true b (TooLarge n)) (above 4096 n lt)

pub not_large : (n : ℕ) → n ≤ 4096 → too_large n ≡ None
not_large n le = ap (λ (b : Bool). where_true b (TooLarge n)) (not_above 4096 n le)

only : (x : Option TxFault) → first_some (x ∷ []) ≡ x
only None = refl
only (Some e) = refl

-- ---- reads

abbrev judged_read : Bool → Bool → ℕ → Option TxFault
judged_read known full bytes = cond known None (first_some (where_true full (TooMany many.Reads) ∷ too_large bytes ∷ []))

abbrev unread : ReadMark → ReadMark
unread r = record { oid = r.oid; part = r.part; version = 0 }

read_judged : (rs : List ReadMark) (ws : List WriteOp) (r : ReadMark) → read_fault (bare rs ws) r.oid r.part ≡ judged_read (has_read rs r.oid r.part) (nat_le 64 (length rs)) (record_size (with_read (unread r) rs) ws)
unfolding read_fault
read_judged rs ws r = refl

pub read_known : (rs : List ReadMark) (ws : List WriteOp) (r : ReadMark) → has_key read_cmp r rs ≡ true → read_fault (bare rs ws) r.oid r.part ≡ None
read_known rs ws r e = read_judged rs ws r ∙ ap (λ (b : Bool). judged_read b (nat_le 64 (length rs)) (record_size (with_read (unread r) rs) ws)) (has_read_is r rs ∙ e)

pub read_full : (rs : List ReadMark) (ws : List WriteOp) (r : ReadMark) → has_key read_cmp r rs ≡ false → 64 ≤ length rs → read_fault (bare rs ws) r.oid r.part ≡ Some (TooMany many.Reads)
read_full rs ws r e le =
    read_judged rs ws r
    ∙ ap (λ (b : Bool). judged_read b (nat_le 64 (length rs)) (record_size (with_read (unread r) rs) ws)) (has_read_is r rs ∙ e)
    ∙ ap (λ (b : Bool). judged_read false b (record_size (with_read (unread r) rs) ws)) (reached 64 (length rs) le)

longer : (head reads writes more : ℕ) → head + 2 + (more + reads) + writes ≡ head + 2 + reads + writes + more
longer head reads writes more = omega arith

sized : (rs : List ReadMark) (ws : List WriteOp) (r : ReadMark) → has_key read_cmp r rs ≡ false → record_size (with_read (unread r) rs) ws ≡ record_size rs ws + read_size r
sized rs ws r e =
    ap (λ (qs : List ReadMark). record_size qs ws) (with_read_is (unread r) rs)
    ∙ ap (λ (n : ℕ). 9 + 1 + 37 * length (tx_streams ws) + 2 + n + sum_of (map write_size ws)) (sum_put read_total read_size (unread r) rs e)
    ∙ longer (9 + 1 + 37 * length (tx_streams ws)) (sum_of (map read_size rs)) (sum_of (map write_size ws)) (read_size r)

pub read_sized : (rs : List ReadMark) (ws : List WriteOp) (r : ReadMark) (bytes : ℕ) → has_key read_cmp r rs ≡ false → length rs < 64 → bytes ≡ commit_size (length (tx_streams ws)) rs ws + read_size r → read_fault (bare rs ws) r.oid r.part ≡ too_large bytes
read_sized rs ws r bytes e lt is =
    read_judged rs ws r
    ∙ ap (λ (b : Bool). judged_read b (nat_le 64 (length rs)) (record_size (with_read (unread r) rs) ws)) (has_read_is r rs ∙ e)
    ∙ ap (λ (b : Bool). judged_read false b (record_size (with_read (unread r) rs) ws)) (not_reached 64 (length rs) lt)
    ∙ only (too_large (record_size (with_read (unread r) rs) ws))
    ∙ ap too_large (sized rs ws r e ∙ sym is)

-- ---- writes

abbrev judged_write : Bool → Bool → ℕ → Option TxFault
judged_write streams full bytes = first_some (where_true streams (TooMany many.Streams) ∷ where_true full (TooMany many.Writes) ∷ too_large bytes ∷ [])

write_judged : (rs : List ReadMark) (ws : List WriteOp) (w : WriteOp) → write_fault (bare rs ws) w ≡ judged_write (nat_lt 16 (length (tx_streams (ws ++ w ∷ [])))) (nat_le 64 (length ws)) (record_size rs (ws ++ w ∷ []))
unfolding write_fault
write_judged rs ws w = refl

pub write_wide : (rs : List ReadMark) (ws : List WriteOp) (w : WriteOp) (n : ℕ) → n ≡ length (tx_streams (ws ++ w ∷ [])) → 16 < n → write_fault (bare rs ws) w ≡ Some (TooMany many.Streams)
write_wide rs ws w n is lt =
    write_judged rs ws w
    ∙ ap (λ (m : ℕ). judged_write (nat_lt 16 m) (nat_le 64 (length ws)) (record_size rs (ws ++ w ∷ []))) (sym is)
    ∙ ap (λ (b : Bool). judged_write b (nat_le 64 (length ws)) (record_size rs (ws ++ w ∷ []))) (above 16 n lt)

narrow : (rs : List ReadMark) (ws : List WriteOp) (w : WriteOp) (n : ℕ) → n ≡ length (tx_streams (ws ++ w ∷ [])) → n ≤ 16 → write_fault (bare rs ws) w ≡ judged_write false (nat_le 64 (length ws)) (record_size rs (ws ++ w ∷ []))
narrow rs ws w n is le =
    write_judged rs ws w
    ∙ ap (λ (m : ℕ). judged_write (nat_lt 16 m) (nat_le 64 (length ws)) (record_size rs (ws ++ w ∷ []))) (sym is)
    ∙ ap (λ (b : Bool). judged_write b (nat_le 64 (length ws)) (record_size rs (ws ++ w ∷ []))) (not_above 16 n le)

pub write_full : (rs : List ReadMark) (ws : List WriteOp) (w : WriteOp) (n : ℕ) → n ≡ length (tx_streams (ws ++ w ∷ [])) → n ≤ 16 → 64 ≤ length ws → write_fault (bare rs ws) w ≡ Some (TooMany many.Writes)
write_full rs ws w n is le full = narrow rs ws w n is le ∙ ap (λ (b : Bool). judged_write false b (record_size rs (ws ++ w ∷ []))) (reached 64 (length ws) full)

sum_last : (ws : List WriteOp) (w : WriteOp) → sum_of (map write_size (ws ++ w ∷ [])) ≡ sum_of (map write_size ws) + write_size w
sum_last [] w = omega arith
sum_last (v ∷ ws) w = let more = sum_last ws w in omega (arith, more)

longer_write : (head reads writes more : ℕ) → head + 2 + reads + (writes + more) ≡ head + 2 + reads + writes + more
longer_write head reads writes more = omega arith

pub write_sized : (rs : List ReadMark) (ws : List WriteOp) (w : WriteOp) (n bytes : ℕ) → n ≡ length (tx_streams (ws ++ w ∷ [])) → n ≤ 16 → length ws < 64 → bytes ≡ commit_size n rs ws + write_size w → write_fault (bare rs ws) w ≡ too_large bytes
write_sized rs ws w n bytes is le lt size =
    narrow rs ws w n is le
    ∙ ap (λ (b : Bool). judged_write false b (record_size rs (ws ++ w ∷ []))) (not_reached 64 (length ws) lt)
    ∙ only (too_large (record_size rs (ws ++ w ∷ [])))
    ∙ ap too_large
    (ap (λ (m : ℕ). 9 + 1 + 37 * m + 2 + sum_of (map read_size rs) + sum_of (map write_size (ws ++ w ∷ []))) (sym is)
    ∙ ap (λ (m : ℕ). 9 + 1 + 37 * n + 2 + sum_of (map read_size rs) + m) (sum_last ws w)
    ∙ longer_write (9 + 1 + 37 * n) (sum_of (map read_size rs)) (sum_of (map write_size ws)) (write_size w)
    ∙ sym size)

not_many : (n : ℕ) (b : Bool) → is_too_many (where_true b (TooLarge n)) ≡ false
not_many n true = refl
not_many n false = refl

pub write_fits : (rs : List ReadMark) (ws : List WriteOp) (w : WriteOp) (n : ℕ) → n ≡ length (tx_streams (ws ++ w ∷ [])) → n ≤ 16 → length ws < 64 → is_too_many (write_fault (bare rs ws) w) ≡ false
write_fits rs ws w n is le lt =
    ap is_too_many (narrow rs ws w n is le ∙ ap (λ (b : Bool). judged_write false b (record_size rs (ws ++ w ∷ []))) (not_reached 64 (length ws) lt) ∙ only (too_large (record_size rs (ws ++ w ∷ []))))
    ∙ not_many (record_size rs (ws ++ w ∷ [])) (nat_lt 4096 (record_size rs (ws ++ w ∷ [])))

pub plus_six : (a b n : ℕ) → a ≡ b → a + 6 + n ≡ b + (6 + n)
plus_six a b n e = omega arith
