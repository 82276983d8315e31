-- The requests of a machine that begins.
use Rattle.std.proofs.Common.{◌≡◌, ℕ, ◌+◌, true, List, [], ◌∷◌, cond, sym, ap, ◌∙◌, arith}
use Rattle.std.specs.Prelude.{nat_le, length}
use Rattle.std.proofs.lemmas.Bool.Decides.{nat_tests}
use Rattle.tg_base.specs.Layouts.{Layout}
use Rattle.tg_base.specs.declared.ids.NodeId.{NodeId}
use Rattle.tg_base.specs.declared.ids.Oid.{Oid}
use Rattle.tg_base.specs.declared.msg.Msg.{Msg}
use Rattle.tg_entry.specs.declared.entry.Entry.{Entry}
use Rattle.tg_chain.specs.Turns.{drawn_between}
use Rattle.tg_protocol.specs.Layouts.{units_of}
use Rattle.tg_protocol.specs.Requests.{out, drawn_from, waits_for}
use Rattle.tg_protocol.specs.Appending.{append_asks, append_work_asks}
use Rattle.tg_protocol.specs.Syncing.{sync_asks, sync_work_asks}
use Rattle.tg_protocol.specs.Trimming.{trim_asks, trim_start}
use Rattle.tg_append.specs.Appends.{asking}
use Rattle.tg_append.specs.Syncs.{checking}
use Rattle.tg_append.proofs.Outs.{token_drawn, check_drawn}
use Rattle.tg_client_state.proofs.Trims.{trim_numbers}

-- one, where one was
pub one_drawn : (to : NodeId) (n : ℕ) (m : Msg) → drawn_from n (out to n m ∷ []) ≡ out to n m ∷ []
one_drawn to n m =
    let from : nat_le n n ≡ true = grind (arith, nat_tests) in
    ap (λ b. cond b (out to n m ∷ []) []) from

pub token_from : (p : Layout) (d : Entry) (n : ℕ) → drawn_between n (n + 1) (append_asks p (asking d n)) ≡ drawn_from n (append_asks p (asking d n))
unfolding append_work_asks
token_from p d n = token_drawn p d n ∙ sym (one_drawn _ n _)

pub check_from : (p : Layout) (os : List Oid) (n : ℕ) → drawn_between n (n + 1) (sync_asks p (checking os n)) ≡ drawn_from n (sync_asks p (checking os n))
unfolding sync_work_asks
check_from p os n = check_drawn p os n ∙ sym (one_drawn _ n _)

-- those of a trim: one to each unit of the layout
pub trims_from : (p : Layout) (below n : ℕ) → drawn_between n (n + length (units_of p)) (trim_asks p (record { below = below; waits = waits_for (units_of p) n })) ≡ drawn_from n (trim_asks p (record { below = below; waits = waits_for (units_of p) n }))
unfolding trim_start
trims_from p below n = sym (trim_numbers.start p below n).fits.new
